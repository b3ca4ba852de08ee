-- What names behind no parameter stand for, by their numbers and by their names.
use Rattle.std.proofs.Common.{◌≡◌, ◌∙◌, inl, inr, sym, ap, ap₂, subst, refl, ℕ, zero, Bool, false, List, [], ◌∷◌, Option, Some, None, arith, true≢false}
use Rattle.std.specs.Prelude.{Contains, IsSome, slice_get}
use Rattle.std.specs.List.{flat_map}
use Rattle.std.specs.List.Sorted.{IsStrictlySortedBy}
use Rattle.std.specs.Option.{option_map, option_or}
use Rattle.std.specs.Ordering.{nat_cmp}
use Rattle.std.specs.declared.cmp.Ordering.TheVariants.{Less}
use Rattle.std.proofs.lemmas.Cmp.{nat_cmp_total, tied_itself}
use Rattle.std.proofs.lemmas.List.Folds.{flat_map-map}
use Rattle.std.proofs.lemmas.Option.{none-some, same_Some, slice_get_within}
use Rattle.just_host.specs.declared.config.Config.{Config}
use Rattle.just_value.specs.Constants.{constant_rows}
use Rattle.just_value.specs.Frames.{BoundRow, bound_in, constant_binding, found_in, look_up}
use Rattle.just_value.specs.declared.positional.Override.{Override}
use Rattle.tree_expressions.specs.declared.expression.Expression.{Expression}
use Rattle.tree_items.specs.declared.ast.Item.{Item}
use Rattle.tree_items.specs.declared.ast.Item.TheVariants.{Assignment}
use Rattle.tree_items.specs.declared.item.Binding.{Binding}
use Rattle.parse_items.specs.Numbered.{binding_numbers}
use Rattle.justfile_syntax.specs.Numbered.{bindings_in}
use Rattle.modules_compilation.specs.Places.{item_at, items_of}
use Rattle.modules_compilation.specs.declared.compilation.Compilation.{Compilation}
use Rattle.modules_compilation.specs.declared.module_node.File.{File}
use Rattle.modules_compilation.specs.declared.place.Place.{Place}
use Rattle.resolve_analysis.specs.Bound.{bindings_of, constant_number}
use Rattle.resolve_analysis.specs.declared.analysis.Analysis.{Analysis}
use Rattle.analyze_calls.specs.Entered.{inside}
use Rattle.analyze_calls.specs.declared.plan.Runner.{Runner}
use Rattle.meaning_dialogues.specs.Calls.{read_in, value_found}
use Rattle.meaning_dialogues.specs.Dialogue.{around}
use Rattle.laws_evaluation.specs.Soundness.Known.{IsBoundIn}
use Rattle.meaning_rules.specs.Worlds.Compiled.{FileView}
use Rattle.meaning_rules.specs.Worlds.Given.{Text, World}
use Rattle.meaning_rules.specs.Worlds.Views.{file_view}
use Rattle.meaning_rules.specs.Overrides.{overrides_of}
use Rattle.laws_names.specs.Reading.Meant.{IsNumberedWorld}
use Rattle.laws_names.proofs.Reading.Bindings.{above_constants, numbered_once}
use Rattle.laws_names.proofs.Reading.Constants.{is_constant}
use Rattle.laws_names.proofs.Reading.Lists.{once, piece_sorted}
use Rattle.just_meaning.specs.Opening.{Opened, reading_in}
use Rattle.laws_runs.specs.Settings.Settled.{AllSettle}
use Rattle.laws_runs.specs.Running.Steps.{RestsOn}
use Rattle.laws_runs.proofs.Running.Steps.Exports.{row_found}
use Rattle.laws_runs.proofs.Running.Steps.Names.{constant_reads, number_named, number_of_none, variable_reads}
use Rattle.laws_runs.proofs.Running.Steps.Standing.{Stands}
use Rattle.laws_runs.proofs.Running.Steps.Variables.{IsOfName, IsOfNone, item_of, lent_there, row_of_variable, variable_case}

-- ---- the numbers of one item

number_apart : (number : ℕ) → nat_cmp number number ≡ Less → ⊥
number_apart number e = let both = sym (tied_itself nat_cmp_total number) ∙ e in cc both

module _ (w : World) (compilation : Compilation) (n : IsNumberedWorld w compilation) where
  abbrev in_file : File → List ℕ
  in_file file = bindings_in file.ast.items.items

  all_sorted : IsStrictlySortedBy nat_cmp (flat_map in_file compilation.files.items)
  all_sorted = subst (IsStrictlySortedBy nat_cmp) (flat_map-map (λ (f : FileView). f.bindings) file_view compilation.files.items) n.of.bindings

  item_sorted : (place : Place) (item : Item) → item_at compilation place ≡ Some item → IsStrictlySortedBy nat_cmp (binding_numbers item)
  item_sorted place item e = by_file (slice_get compilation.files.items place.file) refl e
    where
      by_file : (o : Option File) → slice_get compilation.files.items place.file ≡ o → slice_get (items_of o) place.item ≡ Some item → IsStrictlySortedBy nat_cmp (binding_numbers item)
      by_file None is e = absurd (none-some item e)
      by_file (Some file) is e =
          piece_sorted nat_cmp number_apart binding_numbers file.ast.items.items (piece_sorted nat_cmp number_apart in_file compilation.files.items all_sorted place.file file is) place.item item e

  -- no number stands twice in an item
  pub number_once : (place : Place) (item : Item) → item_at compilation place ≡ Some item → (i j m : ℕ) → slice_get (binding_numbers item) i ≡ Some m → slice_get (binding_numbers item) j ≡ Some m → i ≡ j
  number_once place item e i j m f g = once nat_cmp number_apart (binding_numbers item) (item_sorted place item e) i j m f g

module _ (w : World) (compilation : Compilation) (given : List Override) (base : Text) (analysis : Analysis) (settled : AllSettle w (overrides_of given) compilation analysis.values.value.settings.items) (config : Config) (root_key : List ℕ)
    (called : List ℕ) (is_read : ℕ → Bool) (runner : Runner) (opened : List Opened) (rests : RestsOn w compilation given base analysis settled config root_key called is_read runner opened)
    (rank : ℕ) (s : Stands w compilation given base analysis settled config root_key called is_read runner opened rests rank) where
  -- ---- what they give

  at_scope : (name : Text) (m : ℕ) → read_in (λ n. false) s.context.scope.now name (Some m) ≡ read_in (λ n. false) (record { own = []; outer = s.context.scope.now.own ∷ s.alike.constants ∷ [] }) name (Some m)
  at_scope name m = ap (λ o. value_found name (found_in (s.context.scope.now.own ∷ o) m)) s.alike.outer

  -- a name that the module binds gives by its number what it gives by itself
  pub reads_alike : (name : Text) (number : Option ℕ) → number ≡ bindings_of compilation s.node name → IsBoundIn s.context.scope.now number
      → read_in (λ n. false) s.context.scope.now name number ≡ reading_in s.o.values around (record { name = name; number = None })
  reads_alike name number is bound = elim (variable_case w compilation given base analysis settled config root_key called is_read runner opened rests rank s name) [
    | inl c ↦ of_variable c
    | inr c ↦ of_constant c (constant_number name) refl
  ]
    where
      of_variable : IsOfName w compilation given base analysis settled config root_key called is_read runner opened rests rank s name
          → read_in (λ n. false) s.context.scope.now name number ≡ reading_in s.o.values around (record { name = name; number = None })
      of_variable c =
          ap (read_in (λ n. false) s.context.scope.now name) has ∙ at_scope name c.v.number ∙ variable_reads w compilation given base analysis settled config root_key called is_read runner opened rests rank s name c
          (subst (IsBoundIn s.context.scope.now) has bound)
        where
          has : number ≡ Some c.v.number
          has = is ∙ ap (λ o. option_or o (constant_number name)) (number_named w compilation given base analysis settled config root_key called is_read runner opened rests rank s name c)

      of_constant : IsOfNone w compilation given base analysis settled config root_key called is_read runner opened rests rank s name → (o : Option ℕ) → constant_number name ≡ o
          → read_in (λ n. false) s.context.scope.now name number ≡ reading_in s.o.values around (record { name = name; number = None })
      of_constant c None e = absurd (subst (IsBoundIn s.context.scope.now) (is ∙ ap₂ option_or (number_of_none w compilation given base analysis settled config root_key called is_read runner opened rests rank s name c) e) bound)
      of_constant c (Some m) e =
          ap (read_in (λ n. false) s.context.scope.now name) (is ∙ ap₂ option_or (number_of_none w compilation given base analysis settled config root_key called is_read runner opened rests rank s name c) e) ∙ at_scope name m ∙
          constant_reads w compilation given base analysis settled config root_key called is_read runner opened rests rank s name c m e

  -- so it does in an empty frame inside the module's
  pub reads_inside : (name : Text) (number : Option ℕ) → number ≡ bindings_of compilation s.node name → IsBoundIn s.context.scope.now number
      → read_in (λ n. false) (inside s.context.scope.now) name number ≡ reading_in s.o.values around (record { name = name; number = None })
  reads_inside name None is bound = absurd bound
  reads_inside name (Some m) is bound = reads_alike name (Some m) is bound

  -- ---- numbers of other items

  module _ (place : Place) (item : Item) (there : item_at compilation place ≡ Some item) (no_variable : (v : Binding Expression) → item ≡ Assignment v → ⊥) where
    not_variable : (i : ℕ) (v : Binding Expression) (a : Place) → item_at compilation a ≡ Some (Assignment v) → Contains (binding_numbers item) v.number → ⊥
    not_variable i v a at c = no_variable v (numbered_once w compilation rests.numbered place a item (Assignment v) there at v.number c (contains_it v.number))
      where
        contains_it : (m : ℕ) → Contains (m ∷ []) m
        contains_it m = (zero, omega arith, refl)

    -- no name that the module binds has one of its numbers
    pub free_apart : (name : Text) (m : ℕ) → bindings_of compilation s.node name ≡ Some m → Contains (binding_numbers item) m → ⊥
    free_apart name m is c = elim (variable_case w compilation given base analysis settled config root_key called is_read runner opened rests rank s name) [
      | inl v ↦ of_variable v
      | inr v ↦ of_constant v (constant_number name) refl
    ]
      where
        of_variable : IsOfName w compilation given base analysis settled config root_key called is_read runner opened rests rank s name → ⊥
        of_variable v =
            let a = item_of w compilation given base analysis settled config root_key called is_read runner opened rests rank s v.i v.v v.there in
            let number : v.v.number ≡ m = same_Some v.v.number m (sym (ap (λ o. option_or o (constant_number name)) (number_named w compilation given base analysis settled config root_key called is_read runner opened rests rank s name
            v)) ∙ is) in
            not_variable v.i v.v a.0 a.2 (subst (Contains (binding_numbers item)) (sym number) c)

        of_constant : IsOfNone w compilation given base analysis settled config root_key called is_read runner opened rests rank s name → (o : Option ℕ) → constant_number name ≡ o → ⊥
        of_constant v None e = none-some m (sym (ap₂ option_or (number_of_none w compilation given base analysis settled config root_key called is_read runner opened rests rank s name v) e) ∙ is)
        of_constant v (Some k) e =
            let same : k ≡ m = same_Some k m (sym (ap₂ option_or (number_of_none w compilation given base analysis settled config root_key called is_read runner opened rests rank s name v) e) ∙ is) in
            let lt = (is_constant name k e).1 in
            let above = above_constants w compilation rests.numbered place item there m c in
            omega (arith, same, lt, above)

    -- and none of them is bound in the module
    pub unbound : (m : ℕ) → Contains (binding_numbers item) m → IsSome (look_up s.context.scope.now m) → ⊥
    unbound m c bound = by_own (bound_in s.context.scope.now.own m) refl
      where
        nothing : (o : Option BoundRow) → o ≡ None → IsSome o → ⊥
        nothing None e is = true≢false (sym is)
        nothing (Some r) e is = none-some r (sym e)

        by_constant : (o : Option (Text × Text)) → slice_get constant_rows m ≡ o → bound_in s.context.scope.now.own m ≡ None → ⊥
        by_constant None e none =
            nothing (found_in (s.context.scope.now.own ∷ s.alike.constants ∷ []) m) (ap₂ (λ a b. option_or a (option_or b None)) none (s.alike.language m ∙ ap (option_map (constant_binding m)) e))
            (subst (λ fs. IsSome (found_in (s.context.scope.now.own ∷ fs) m)) s.alike.outer bound)
        by_constant (Some r) e none =
            let lt = slice_get_within constant_rows m r e in
            let above = above_constants w compilation rests.numbered place item there m c in
            omega (arith, lt, above)

        by_own : (o : Option BoundRow) → bound_in s.context.scope.now.own m ≡ o → ⊥
        by_own None e = by_constant (slice_get constant_rows m) refl e
        by_own (Some row) e =
            let f = row_found s.context.scope.now.own m row e in
            let r = row_of_variable w compilation given base analysis settled config root_key called is_read runner opened rests rank s row f.0 in
            let l = lent_there w compilation given base analysis settled config root_key called is_read runner opened rests rank s r.0 r.1 in
            let a = item_of w compilation given base analysis settled config root_key called is_read runner opened rests rank s l.0 r.0.assignment.now l.1 in
            let number : r.0.assignment.now.number ≡ m = sym (ap (λ (b : BoundRow). b.number) r.2) ∙ f.1 in
            not_variable l.0 r.0.assignment.now a.0 a.2 (subst (Contains (binding_numbers item)) (sym number) c)
