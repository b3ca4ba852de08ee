-- What a variable of an expression reads.
use Rattle.std.proofs.Common.{◌≡◌, refl, sym, ◌∙◌, ap, subst, List, [], ◌∷◌, map, Option, Some, None, ℕ, arith}
use Rattle.std.specs.Prelude.{slice_get, Contains, Result, Ok}
use Rattle.std.specs.Option.{option_or}
use Rattle.just_text.specs.Tokens.{lexeme}
use Rattle.just_text.specs.declared.name.Name.{Name}
use Rattle.tree_expressions.specs.declared.expression.Expression.{Expression}
use Rattle.tree_items.specs.Contexts.{last_named}
use Rattle.tree_items.specs.declared.ast.Item.{Item}
use Rattle.tree_items.specs.declared.ast.Item.TheVariants.{Assignment}
use Rattle.tree_items.specs.declared.item.Binding.{Binding}
use Rattle.parse_items.specs.Numbered.{binding_numbers}
use Rattle.modules_compilation.specs.declared.compilation.Compilation.{Compilation}
use Rattle.modules_compilation.specs.declared.module_node.ModuleNode.{ModuleNode}
use Rattle.resolve_references.specs.Places.{place_of_variable, variable_in}
use Rattle.resolve_references.specs.References.{references_of}
use Rattle.resolve_references.specs.Seen.{Seen, seen_in}
use Rattle.resolve_references.specs.declared.read_fault.ReadFault.{ReadFault}
use Rattle.resolve_references.specs.declared.references.Reference.TheVariants.{Variable}
use Rattle.resolve_references.specs.declared.variable_resolver.VariableResolver.{VariableResolver}
use Rattle.resolve_analysis.specs.Bound.{binding_number, bindings_of, constant_number}
use Rattle.resolve_analysis.specs.Lists.{kept_by}
use Rattle.resolve_analysis.specs.Reads.{IsResolverOf}
use Rattle.meaning_rules.specs.Worlds.Given.{Text, World}
use Rattle.meaning_rules.proofs.Worlds.Places.{contains_at, contains_first, place_of}
use Rattle.meaning_rules.specs.Fixed.{constants}
use Rattle.meaning_rules.specs.Graph.{of_variable}
use Rattle.meaning_rules.specs.Naming.{Part, a_variable}
use Rattle.meaning_rules.specs.Rules.{IsVariable, Rule, undefined_variable}
use Rattle.laws_modules.specs.Names.Names.{HasNode}
use Rattle.laws_modules.proofs.Names.Found.{mapped, mapped_at}
use Rattle.laws_names.specs.Reading.Meant.{IsNumberedWorld}
use Rattle.laws_names.specs.Reading.Parts.{part_of}
use Rattle.laws_names.specs.Reading.Places.{IsItemOf, IsNamed, IsPlaceMeant, Refuses, is_undefined}
use Rattle.laws_names.proofs.Reading.Bindings.{above_constants, bound_in, numbered_once}
use Rattle.laws_names.proofs.Reading.Constants.{is_constant, is_no_constant}
use Rattle.laws_names.proofs.Reading.Finding.{last_named_there, none_named, none_numbered, numbered_at}
use Rattle.laws_names.proofs.Reading.Lists.{contains_map, contains_mapped}
use Rattle.laws_names.proofs.Reading.Module.{defined_variable, no_variable, variable_kept, variables}
use Rattle.laws_names.proofs.Reading.Numbers.{number_of}
use Rattle.laws_names.proofs.Reading.Sight.{parameter_numbered, variables_see_none}

module _ (w : World) (compilation : Compilation) (n : IsNumberedWorld w compilation) (k : ℕ) (node : ModuleNode) (here : HasNode w compilation k node) where
  pub refused_variable : {p : Part} {name : Text} {rule : Rule} → Refuses w node.source.now p (a_variable name) rule → (Contains p.sees name → ⊥) × (IsVariable w node.source.now name → ⊥) × (Contains constants name → ⊥)
  refused_variable (is_undefined unseen none none') = (unseen, none, none')

  pub named_variable : {p : Part} {name : Text} {place : ℕ} → IsNamed w compilation node p (a_variable name) place
      → (Contains p.sees name → ⊥) × ((v : Binding Expression) × (slice_get (variables w compilation n k node here) place ≡ Some v) × (lexeme v.name.token ≡ name))
  named_variable (of_variable place unseen e) = (unseen, mapped_at (λ (v : Binding Expression). lexeme v.name.token) (variables w compilation n k node here) place _ e)

  module _ (resolver : VariableResolver) (of : IsResolverOf (kept_by compilation node) resolver) (item : Item) (i : IsItemOf compilation node item) (s : Seen) (c : Contains (seen_in item) s) (name : Name) where
    abbrev x : Text
    x = lexeme name.token

    abbrev vs : List (Binding Expression)
    vs = variables w compilation n k node here

    abbrev Meant : Result (Option ℕ) ReadFault → Type 0
    Meant found = IsPlaceMeant w compilation node (part_of s) (a_variable x) found

    -- the variable with the number of a binding is that binding
    variable_is : (place m : ℕ) → variable_in resolver m ≡ Some place → (v : Binding Expression) × (slice_get vs place ≡ Some v) × (v.number ≡ m)
    variable_is place m e = numbered_at m place vs (sym (of.places m) ∙ e)

    none_is : (m : ℕ) → variable_in resolver m ≡ None → (j : ℕ) (v : Binding Expression) → slice_get vs j ≡ Some v → v.number ≡ m → ⊥
    none_is m e = none_numbered m vs (sym (of.places m) ∙ e)

    has_number : (m : ℕ) (v : Binding Expression) → v.number ≡ m → Contains (binding_numbers (Assignment v)) m
    has_number m v e = subst (Contains (v.number ∷ [])) e (contains_first v.number [])

    -- ---- a parameter

    module _ (m : ℕ) (seen : Contains s.parameters (x, m)) where
      seen_name : Contains (part_of s).sees x
      seen_name = contains_map (λ (p : List ℕ × ℕ). p.0) s.parameters (x, m) seen

      parameter_by : (o : Option ℕ) → variable_in resolver m ≡ o → Meant (Ok o)
      parameter_by None e = (λ rule r. (refused_variable r).0 seen_name, λ few place named. (named_variable named).0 seen_name)
      parameter_by (Some place) e =
          let v = variable_is place m e in
          let kept = variable_kept w compilation n k node here place v.0 v.1 in
          let same = numbered_once w compilation n i.place kept.0 item (Assignment v.0) i.there kept.3.there m (parameter_numbered item s c (x, m) seen) (has_number m v.0 v.2) in
          absurd (variables_see_none item s c (x, m) seen v.0 same)

    -- ---- a variable of the module

    module _ (unseen : Contains (part_of s).sees x → ⊥) where
      module _ (m : ℕ) (listed : Contains (map binding_number vs) (x, m)) where
        kept_by_name : (j : ℕ) × (v : Binding Expression) × (slice_get vs j ≡ Some v) × (lexeme v.name.token ≡ x) × (v.number ≡ m)
        kept_by_name =
            let r = contains_mapped binding_number vs (x, m) listed in
            let q = place_of vs r.0 r.1 in
            (q.0, r.0, q.1, ap (λ (p : Text × ℕ). p.0) r.2, ap (λ (p : Text × ℕ). p.1) r.2)

        is_variable : IsVariable w node.source.now x
        is_variable = subst (IsVariable w node.source.now) kept_by_name.3 (defined_variable w compilation n k node here kept_by_name.0 kept_by_name.1 kept_by_name.2)

        kept_by_place : (o : Option ℕ) → variable_in resolver m ≡ o → Meant (Ok o)
        kept_by_place None e = absurd (none_is m e kept_by_name.0 kept_by_name.1 kept_by_name.2 kept_by_name.4)
        kept_by_place (Some place) e =
            let v = variable_is place m e in
            let a = variable_kept w compilation n k node here place v.0 v.1 in
            let b = variable_kept w compilation n k node here kept_by_name.0 kept_by_name.1 kept_by_name.2 in
            let items = numbered_once w compilation n a.0 b.0 (Assignment v.0) (Assignment kept_by_name.1) a.3.there b.3.there m (has_number m v.0 v.2) (has_number m kept_by_name.1 kept_by_name.4) in
            let same : v.0 ≡ kept_by_name.1 = cc items in
            let named : lexeme v.0.name.token ≡ x = ap (λ (u : Binding Expression). lexeme u.name.token) same ∙ kept_by_name.3 in
            (λ rule r. (refused_variable r).1 is_variable, of_variable place unseen (mapped (λ (u : Binding Expression). lexeme u.name.token) vs place v.0 v.1 ∙ ap (λ t. Some t) named))

      -- ---- a constant, or nothing

      module _ (none : last_named x (map binding_number vs) ≡ None) where
        unnamed : (j : ℕ) (v : Binding Expression) → slice_get vs j ≡ Some v → lexeme v.name.token ≡ x → ⊥
        unnamed j v at named =
            none_named x (map binding_number vs) none
            (subst (Contains (map (λ (p : List ℕ × ℕ). p.0) (map binding_number vs))) named
            (contains_map (λ (p : List ℕ × ℕ). p.0) (map binding_number vs) (binding_number v) (contains_map binding_number vs v (contains_at vs j v at))))

        constant_by : (m : ℕ) → constant_number x ≡ Some m → (o : Option ℕ) → variable_in resolver m ≡ o → Meant (Ok o)
        constant_by m is None e = (λ rule r. (refused_variable r).2 (is_constant x m is).0, λ few place named. let v = (named_variable named).1 in unnamed place v.0 v.1 v.2)
        constant_by m is (Some place) e =
            let v = variable_is place m e in
            let kept = variable_kept w compilation n k node here place v.0 v.1 in
            let le = above_constants w compilation n kept.0 (Assignment v.0) kept.3.there m (has_number m v.0 v.2) in
            let lt = (is_constant x m is).1 in
            absurd (omega (arith, le, lt))

        by_constant : (o : Option ℕ) → constant_number x ≡ o → Meant (place_of_variable resolver name o)
        by_constant (Some m) is = constant_by m is (variable_in resolver m) refl
        by_constant None is = (undefined_variable x, refl, is_undefined unseen (no_variable w compilation n k node here x unnamed) (is_no_constant x is))

      by_kept : (o : Option ℕ) → last_named x (map binding_number vs) ≡ o → Meant (place_of_variable resolver name (option_or o (constant_number x)))
      by_kept (Some m) e = kept_by_place m (last_named_there x (map binding_number vs) m e) (variable_in resolver m) refl
      by_kept None e = by_constant e (constant_number x) refl

    by_seen : (o : Option ℕ) → last_named x s.parameters ≡ o → Meant (place_of_variable resolver name (option_or o (bindings_of compilation node x)))
    by_seen (Some m) e = parameter_by m (last_named_there x s.parameters m e) (variable_in resolver m) refl
    by_seen None e = by_kept (none_named x s.parameters e) (last_named x (map binding_number vs)) refl

    pub variable_meant : (number : Option ℕ) → Contains (references_of s.expression) (Variable name number) → Meant (place_of_variable resolver name number)
    variable_meant number r =
        subst (λ o. Meant (place_of_variable resolver name o)) (sym (number_of (bindings_of compilation node) s (bound_in w compilation n k node here item i s c) name number r))
        (by_seen (last_named x s.parameters) refl)
