-- What a call of an expression calls.
use Rattle.std.proofs.Common.{◌≡◌, refl, sym, ◌∙◌, ap, subst, Bool, true, false, if◌then◌else◌, nat_eq, nat_le, nat_lt, ◌&&◌, List, length, Option, Some, None, ℕ, ◌<◌, ◌+◌, ◌^◌, arith, true≢false, option_map}
use Rattle.std.specs.Prelude.{slice_get, Result, Ok}
use Rattle.std.proofs.lemmas.Bool.Decides.{Decides-eqb, Decides-ltb}
use Rattle.std.proofs.lemmas.List.{length-map}
use Rattle.std.proofs.lemmas.Option.{none-some, same_Some, slice_get_within}
use Rattle.just_text.specs.Tokens.{lexeme}
use Rattle.just_text.specs.declared.name.Name.{Name}
use Rattle.tree_items.specs.Files.{function_item}
use Rattle.tree_items.specs.Items.{FunctionShape, function_shape, name_of}
use Rattle.tree_items.specs.declared.item.FunctionDefinition.{FunctionDefinition}
use Rattle.evaluate_functions.specs.Arguments.{expected}
use Rattle.evaluate_functions.specs.Names.{function_of}
use Rattle.evaluate_functions.specs.declared.function.Function.{Function}
use Rattle.modules_compilation.specs.declared.compilation.Compilation.{Compilation}
use Rattle.modules_compilation.specs.declared.module_node.ModuleNode.{ModuleNode}
use Rattle.resolve_references.specs.Functions.{builtin_call, call_from, function_in, if_taken}
use Rattle.resolve_references.specs.Places.{place_of_resolved}
use Rattle.resolve_references.specs.declared.functions.Called.TheVariants.{Builtin, Defined}
use Rattle.resolve_references.specs.declared.functions.DefinedFunction.{DefinedFunction}
use Rattle.resolve_references.specs.declared.read_fault.ReadFault.{ReadFault}
use Rattle.resolve_references.specs.declared.variable_resolver.VariableResolver.{VariableResolver}
use Rattle.resolve_analysis.specs.Lists.{kept_by}
use Rattle.resolve_analysis.specs.Reads.{IsResolverOf}
use Rattle.meaning_rules.specs.Worlds.Given.{Text, World}
use Rattle.meaning_rules.specs.Worlds.Keeping.{Keeps, a_function}
use Rattle.meaning_rules.proofs.Worlds.Kept.{keeps_at_most_one}
use Rattle.meaning_rules.specs.Fixed.{counts_of, is_in}
use Rattle.meaning_rules.specs.Graph.{of_function}
use Rattle.meaning_rules.specs.Naming.{Part, a_call}
use Rattle.meaning_rules.specs.Rules.{IsFunction, IsNoFunction, TakesOther, built_in, defined, function_argument_count, unknown_function}
use Rattle.laws_modules.specs.Names.Names.{HasNode}
use Rattle.laws_modules.proofs.Names.Found.{mapped, mapped_at}
use Rattle.laws_names.specs.Reading.Meant.{IsNumberedWorld}
use Rattle.laws_names.specs.Reading.Places.{AreFew, IsClearIn, IsNamed, IsPlaceMeant, function_names, is_unknown, takes_other, variable_names}
use Rattle.laws_names.proofs.Reading.Finding.{defined_at, none_defined}
use Rattle.laws_names.proofs.Reading.Module.{defined_function, functions, keeps_function, no_function, variables}

module _ (w : World) (compilation : Compilation) (n : IsNumberedWorld w compilation) (k : ℕ) (node : ModuleNode) (here : HasNode w compilation k node) where
  abbrev own : Text
  own = node.source.now

  abbrev fs : List FunctionDefinition
  fs = functions w compilation n k node here

  -- a call that breaks no rule: its name is of a function, which takes so many arguments
  clear_call : (p : Part) (name : Text) (count : ℕ) → (IsNoFunction w own name → ⊥) → (TakesOther w own name count → ⊥) → IsClearIn w compilation node p (a_call name count)
  clear_call p name count known takes rule (is_unknown none) = known none
  clear_call p name count known takes rule (takes_other other) = takes other

  pub named_function : {p : Part} {name : Text} {count place : ℕ} → IsNamed w compilation node p (a_call name count) place
      → (j : ℕ) × (f : FunctionDefinition) × (slice_get fs j ≡ Some f) × (lexeme f.name.token ≡ name) × (place ≡ length (variable_names compilation node) + j)
  named_function (of_function j e) = let m = mapped_at (λ (f : FunctionDefinition). lexeme f.name.token) fs j _ e in (j, m.0, m.1, m.2, refl)

  module _ (resolver : VariableResolver) (of : IsResolverOf (kept_by compilation node) resolver) (p : Part) (name : Name) (count : ℕ) where
    abbrev x : Text
    x = lexeme name.token

    abbrev Meant : Result (Option ℕ) ReadFault → Type 0
    Meant found = IsPlaceMeant w compilation node p (a_call x count) found

    many : resolver.variables ≡ length (variable_names compilation node)
    many = of.many ∙ sym (length-map (variables w compilation n k node here) (λ v. lexeme v.name.token))

    -- ---- a function of the module

    module _ (d : DefinedFunction) (f : FunctionDefinition) (at : slice_get fs d.place ≡ Some f) (named : lexeme f.name.token ≡ x) (parameters : d.parameters ≡ length f.parameters.items) where
      is_function : IsFunction w own x
      is_function = subst (IsFunction w own) named (defined_function w compilation n k node here d.place f at)

      keeps : Keeps w own a_function x (function_item (function_shape f))
      keeps = subst (λ t. Keeps w own a_function t (function_item (function_shape f))) named (keeps_function w compilation n k node here d.place f at)

      as_many : d.parameters ≡ length (function_shape f).parameters
      as_many = parameters ∙ sym (length-map f.parameters.items name_of)

      takes_so_many : d.parameters ≡ count → TakesOther w own x count → ⊥
      takes_so_many same (defined g kept other) =
          let items = (keeps_at_most_one w own a_function x keeps.key kept.key keeps.place kept.place (function_item (function_shape f)) (function_item g) keeps.kept kept.kept).2 in
          let shapes : function_shape f ≡ g = cc items in
          other (ap (λ (h : FunctionShape). length h.parameters) (sym shapes) ∙ sym as_many ∙ same)
      takes_so_many same (built_in none takes counts differs) = none is_function

      clear : d.parameters ≡ count → IsClearIn w compilation node p (a_call x count)
      clear same = clear_call p x count (λ none. none.0 is_function) (takes_so_many same)

      placed : (same : d.parameters ≡ count) (b : Bool) → nat_lt (resolver.variables + d.place) (2 ^ 64) ≡ b → Meant (Ok (if b then Some (resolver.variables + d.place) else None))
      placed same true is =
          (clear same, subst (λ m. IsNamed w compilation node p (a_call x count) (m + d.place)) (sym many) (of_function d.place (mapped (λ (g : FunctionDefinition). lexeme g.name.token) fs d.place f at ∙ ap (λ t. Some t) named)))
      placed same false is = (
        clear same,
        λ few place is_named.
            let lt = slice_get_within fs d.place f at in
            let all = length-map fs (λ (g : FunctionDefinition). lexeme g.name.token) in
            let within = (Decides-ltb (resolver.variables + d.place) (2 ^ 64)).1 (less few all lt) in
            true≢false (sym within ∙ is),
      )
        where
          less : AreFew w compilation node → length (function_names compilation node) ≡ length fs → d.place < length fs → resolver.variables + d.place < 2 ^ 64
          less few all lt = let variables_many = many in omega (arith, few, all, lt, variables_many)

      by_count : (b : Bool) → nat_eq d.parameters count ≡ b → Meant (place_of_resolved resolver.variables (if_taken b (Defined d.place) name count))
      by_count true is = placed ((Decides-eqb d.parameters count).0 is) (nat_lt (resolver.variables + d.place) (2 ^ 64)) refl
      by_count false is = (function_argument_count x count, refl, takes_other (defined (function_shape f) keeps (λ e. true≢false (sym ((Decides-eqb d.parameters count).1 (as_many ∙ e)) ∙ is))))

    -- ---- no function of the module

    module _ (none : IsFunction w own x → ⊥) (unnamed : (j : ℕ) (f : FunctionDefinition) → slice_get fs j ≡ Some f → lexeme f.name.token ≡ x → ⊥) where
      counts : (o : Option Function) → function_of x ≡ o → counts_of x ≡ option_map (λ f. is_in (expected f)) o
      unfolding counts_of
      counts o is = ap (option_map (λ f. is_in (expected f))) is

      module _ (function : Function) (is : function_of x ≡ Some function) where
        takes_it : is_in (expected function) count ≡ true → TakesOther w own x count → ⊥
        takes_it yes' (defined g kept other) = none (record { key = kept.key; place = kept.place; item = function_item g; defines = kept.kept.defines })
        takes_it yes' (built_in none' takes counted differs) =
            let same : is_in (expected function) ≡ takes = same_Some (is_in (expected function)) takes (sym (counts (Some function) is) ∙ counted) in
            true≢false (sym yes' ∙ ap (λ (t : ℕ → Bool). t count) same ∙ differs)

        by_range : (b : Bool) → (nat_le (expected function).least count && nat_le count (expected function).most) ≡ b → Meant (place_of_resolved resolver.variables (if_taken b (Builtin function) name count))
        by_range true e = (
          clear_call p x count (λ unknown. none-some (is_in (expected function)) (sym unknown.1 ∙ counts (Some function) is)) (takes_it e),
          λ few place named. let f = named_function named in unnamed f.0 f.1 f.2 f.3,
        )
        by_range false e = (function_argument_count x count, refl, takes_other (built_in none (is_in (expected function)) (counts (Some function) is) e))

      by_builtin : (o : Option Function) → function_of x ≡ o → Meant (place_of_resolved resolver.variables (builtin_call o name count))
      by_builtin None is = (unknown_function x, refl, is_unknown (none, counts None is))
      by_builtin (Some function) is = by_range function is (nat_le (expected function).least count && nat_le count (expected function).most) refl

    by_function : (o : Option DefinedFunction) → function_in resolver.functions x ≡ o → Meant (place_of_resolved resolver.variables (call_from o name count))
    by_function (Some d) e =
        let r = defined_at x d fs (sym (of.functions x) ∙ e) in
        by_count d r.0 r.1 r.2 r.3 (nat_eq d.parameters count) refl
    by_function None e =
        let unnamed = none_defined x fs (sym (of.functions x) ∙ e) in
        by_builtin (no_function w compilation n k node here x unnamed) unnamed (function_of x) refl

    pub call_meant : Meant (place_of_resolved resolver.variables (call_from (function_in resolver.functions x) name count))
    call_meant = by_function (function_in resolver.functions x) refl
