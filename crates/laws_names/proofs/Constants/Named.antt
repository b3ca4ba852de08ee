-- What the names in an expression of a variable or a setting stand for.
use Rattle.std.proofs.Common.{◌≡◌, ◌⊎◌, inl, inr, refl, sym, ◌∙◌, ap, subst, List, [], map, Option, Some, None, ℕ}
use Rattle.std.specs.Prelude.{slice_get, Contains, Ok}
use Rattle.std.specs.Option.{option_or}
use Rattle.just_text.specs.Tokens.{lexeme}
use Rattle.parse_expressions.specs.Literals.{IsCooked, from_file}
use Rattle.tree_expressions.specs.Shape.{shape_of}
use Rattle.tree_expressions.specs.declared.expression.Expression.{Expression}
use Rattle.tree_items.specs.Contexts.{last_named}
use Rattle.tree_items.specs.declared.ast.Item.{Item}
use Rattle.tree_items.specs.declared.item.Binding.{Binding}
use Rattle.modules_compilation.specs.declared.compilation.Compilation.{Compilation}
use Rattle.modules_compilation.specs.declared.module_node.ModuleNode.{ModuleNode}
use Rattle.resolve_references.specs.Places.{place_of as place_of_reference}
use Rattle.resolve_references.specs.References.{references_of}
use Rattle.resolve_references.specs.Seen.{seeing, seen_in}
use Rattle.resolve_references.specs.declared.references.Reference.{Reference}
use Rattle.resolve_references.specs.declared.references.Reference.TheVariants.{Call, Variable}
use Rattle.resolve_references.specs.declared.variable_resolver.VariableResolver.{VariableResolver}
use Rattle.resolve_analysis.specs.Bound.{binding_number, bindings_of, constant_number}
use Rattle.laws_evaluation.specs.Terms.Own.{IsWrittenIn}
use Rattle.meaning_rules.specs.Worlds.Given.{Text, World}
use Rattle.meaning_rules.specs.Worlds.Keeping.{IsDefined, a_variable}
use Rattle.meaning_rules.proofs.Worlds.Places.{contains_at, place_of}
use Rattle.meaning_rules.specs.Naming.{occurrences}
use Rattle.meaning_rules.specs.Naming as naming
use Rattle.laws_modules.specs.References.Occurrences.{occurrence_of}
use Rattle.laws_names.specs.Reading.Places.{IsItemOf}
use Rattle.laws_names.proofs.Reading.Bindings.{bound_in}
use Rattle.laws_names.proofs.Reading.Finding.{last_named_there, none_named}
use Rattle.laws_names.proofs.Reading.Items.{occurred}
use Rattle.laws_names.proofs.Reading.Lists.{contains_map, contains_mapped}
use Rattle.laws_names.proofs.Reading.Module.{no_variable, variables}
use Rattle.laws_names.proofs.Reading.Numbers.{number_of}
use Rattle.laws_names.specs.Constants.Sought.{IsSettledModule}

module _ (w : World) (compilation : Compilation) (k : ℕ) (node : ModuleNode) (path : List Text) (m : IsSettledModule w compilation k node path) where
  abbrev own : Text
  own = node.source.now

  abbrev vs : List (Binding Expression)
  vs = variables w compilation m.numbered k node m.here

  abbrev text_of : Binding Expression → Text
  text_of v = lexeme v.name.token

  -- a variable that the module keeps, or a constant of the language where it defines none
  abbrev pub Stands : Text → Type 0
  Stands name = ((j : ℕ) × (v : Binding Expression) × (slice_get vs j ≡ Some v) × (text_of v ≡ name))
      ⊎ ((IsDefined w own a_variable name → ⊥) × ((number : ℕ) × (bindings_of compilation node name ≡ Some number) × (constant_number name ≡ Some number)))

  module _ (item : Item) (i : IsItemOf compilation node item) (e : Expression) (c : Contains (seen_in item) (seeing [] e)) where
    -- an expression that is cooked in a file is written there, with the numbers of the module
    pub is_written : (file : Text) → IsCooked (from_file file w.expansion) e → IsWrittenIn (from_file file w.expansion) (bindings_of compilation node) e
    is_written file cooked = record { cooked = cooked; numbered = bound_in w compilation m.numbered k node m.here item i (seeing [] e) c }

    module _ (resolver : VariableResolver) (given : (r : Reference) → Contains (references_of e) r → (found : Option ℕ) × (place_of_reference resolver r ≡ Ok found)) (name : Text) (h : Contains (occurrences (shape_of e)) (naming.a_variable name)) where
      has_number : bindings_of compilation node name ≡ None → (r : Reference) → Contains (references_of e) r → occurrence_of r ≡ naming.a_variable name → (found : Option ℕ) → place_of_reference resolver r ≡ Ok found → ⊥
      has_number none (Call other count) d is found g = absurd (cc is)
      has_number none (Variable other number) d is found g =
          let named : lexeme other.token ≡ name = cc is in
          let numbered = number_of (bindings_of compilation node) (seeing [] e) (bound_in w compilation m.numbered k node m.here item i (seeing [] e) c) other number d in
          let missing : number ≡ None = numbered ∙ ap (bindings_of compilation node) named ∙ none in
          let refused = sym (ap (λ o. place_of_reference resolver (Variable other o)) missing) ∙ g in
          absurd (cc refused)

      by_constant : last_named name (map binding_number vs) ≡ None → (o : Option ℕ) → constant_number name ≡ o → Stands name
      by_constant none (Some number) is = inr (no_variable w compilation m.numbered k node m.here name unnamed, (number, ap (λ o. option_or o (constant_number name)) none ∙ is, is))
        where
          unnamed : (j : ℕ) (v : Binding Expression) → slice_get vs j ≡ Some v → text_of v ≡ name → ⊥
          unnamed j v at named =
              none_named name (map binding_number vs) none
              (subst (Contains (map (λ (p : Text × ℕ). p.0) (map binding_number vs))) named
              (contains_map (λ (p : Text × ℕ). p.0) (map binding_number vs) (binding_number v) (contains_map binding_number vs v (contains_at vs j v at))))
      by_constant none None is =
          let r = occurred (seeing [] e) (naming.a_variable name) h in
          let g = given r.0 r.1 in
          absurd (has_number (ap (λ o. option_or o (constant_number name)) none ∙ is) r.0 r.1 r.2 g.0 g.1)

      by_kept : (o : Option ℕ) → last_named name (map binding_number vs) ≡ o → Stands name
      by_kept (Some number) is =
          let r = contains_mapped binding_number vs (name, number) (last_named_there name (map binding_number vs) number is) in
          let q = place_of vs r.0 r.1 in
          inl (q.0, r.0, q.1, ap (λ (p : Text × ℕ). p.0) r.2)
      by_kept None is = by_constant is (constant_number name) refl

      -- a name of the expression stands for one of both
      pub name_stands : Stands name
      name_stands = by_kept (last_named name (map binding_number vs)) refl
