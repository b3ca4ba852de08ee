-- The needs of recipes, and the first dependency that is refused.
use Rattle.std.proofs.Common.{◌≡◌, ◌⊎◌, inl, inr, sym, ◌∙◌, ap, subst, List, [], ◌∷◌, ℕ, zero, suc, Some, Result, Ok, Err, refl, length}
use Rattle.std.specs.Prelude.{Contains, slice_get}
use Rattle.std.proofs.lemmas.List.{length-map}
use Rattle.std.proofs.lemmas.Option.{none-some, same_Some}
use Rattle.just_text.specs.Tokens.{lexeme}
use Rattle.just_text.specs.declared.name.Name.{Name}
use Rattle.tree_items.specs.Paths.{path_names}
use Rattle.tree_items.specs.Recipes.{argument_shape, dependency_shape}
use Rattle.tree_items.specs.declared.recipe.UnresolvedDependency.{UnresolvedDependency}
use Rattle.modules_compilation.specs.declared.compilation.Compilation.{Compilation}
use Rattle.modules_compilation.specs.declared.module_node.ModuleNode.{ModuleNode}
use Rattle.resolve_recipes.specs.Nodes.{Kept}
use Rattle.resolve_recipes.specs.Refusals.{Refusal, argument_count, module_as_recipe as module_refused, unknown_dependency as dependency_refused}
use Rattle.resolve_recipes.specs.Resolving.{all_needs, needs_of, place_before, place_of, places_before, recipe_needs, row_before}
use Rattle.resolve_recipes.specs.declared.recipe_resolver.RecipeResolver.{RecipeResolver}
use Rattle.meaning_rules.specs.Worlds.Given.{World}
use Rattle.meaning_rules.proofs.Worlds.Places.{contains_cases, contains_first, contains_later, contains_none}
use Rattle.meaning_rules.specs.Rules.{Misses, Rule, TakesOtherCount, a_count as missed_count, a_module as missed_module, dependency_argument_count, module_as_recipe, unknown as missed_all, unknown_dependency}
use Rattle.laws_modules.specs.Names.Names.{HasNode}
use Rattle.laws_modules.specs.Names.Meant.{IsMeant}
use Rattle.laws_names.specs.Depending.Meant.{IsResolverFor, rule_of}
use Rattle.laws_names.proofs.Depending.Outcomes.{Outcome, a_count, a_module, outcome, placed, unknown}

module _ (w : World) (compilation : Compilation) (resolver : RecipeResolver) (meant : IsMeant w compilation) (fits : IsResolverFor compilation resolver) where
  -- ---- the dependencies of one recipe

  module _ (k : ℕ) (node : ModuleNode) (here : HasNode w compilation k node) where
    abbrev OutcomeOf : UnresolvedDependency → Type 0
    OutcomeOf d = Outcome w compilation resolver meant fits k node here d

    outcome_of : (d : UnresolvedDependency) → OutcomeOf d
    outcome_of d = outcome w compilation resolver meant fits k node here d

    -- a place before others
    abbrev Before : UnresolvedDependency → Result (List ℕ) Refusal → List ℕ → Type 0
    Before d others row = (place : ℕ) × (rest : List ℕ) × (place_of compilation resolver k d ≡ Ok place) × (others ≡ Ok rest) × (place ∷ rest ≡ row)

    rest_ok : (d : UnresolvedDependency) (place : ℕ) (others : Result (List ℕ) Refusal) (row : List ℕ) → place_of compilation resolver k d ≡ Ok place → places_before (place ∷ []) others ≡ Ok row → Before d others row
    rest_ok d place (Ok rest) row is e =
        let same : place ∷ rest ≡ row = cc e in
        (place, rest, is, refl, same)
    rest_ok d place (Err refusal) row is e = absurd (cc e)

    before_ok : (recipe : Name) (d : UnresolvedDependency) (others : Result (List ℕ) Refusal) (row : List ℕ) → OutcomeOf d → place_before (place_of compilation resolver k d) recipe d.recipe others ≡ Ok row → Before d others row
    before_ok recipe d others row (placed place is none f) e = rest_ok d place others row is (sym (ap (λ r. place_before r recipe d.recipe others) is) ∙ e)
    before_ok recipe d others row (a_module r first m) e = let f = sym (r.before recipe others) ∙ e in absurd (cc f)
    before_ok recipe d others row (a_count r first m) e = let f = sym (r.before recipe others) ∙ e in absurd (cc f)
    before_ok recipe d others row (unknown r left none none') e = let f = sym (r.before recipe others) ∙ e in absurd (cc f)

    -- where none is refused, each has its place in the row
    pub needs_given : (recipe : Name) (ds : List UnresolvedDependency) (row : List ℕ) → needs_of compilation resolver k recipe ds ≡ Ok row → (d : UnresolvedDependency) → Contains ds d
        → (place : ℕ) × (place_of compilation resolver k d ≡ Ok place) × Contains row place
    needs_given recipe [] row e d c = absurd (contains_none [] d refl c)
    needs_given recipe (x ∷ ds) row e d c =
        let b = before_ok recipe x (needs_of compilation resolver k recipe ds) row (outcome_of x) e in
        elim (contains_cases x ds d c) [
          | inl same ↦ (b.0, ap (place_of compilation resolver k) (sym same) ∙ b.2, subst (λ r. Contains r b.0) b.4 (contains_first b.0 b.1))
          | inr later ↦
              let r = needs_given recipe ds b.1 b.3 d later in
              (r.0, r.1, subst (λ r'. Contains r' r.0) b.4 (contains_later b.0 b.1 r.0 r.2))
        ]

    -- and each place of the row is one of theirs
    pub needs_back : (recipe : Name) (ds : List UnresolvedDependency) (row : List ℕ) → needs_of compilation resolver k recipe ds ≡ Ok row → (place : ℕ) → Contains row place
        → (d : UnresolvedDependency) × Contains ds d × (place_of compilation resolver k d ≡ Ok place)
    needs_back recipe [] row e place c =
        let same : [] ≡ row = cc e in
        absurd (contains_none row place (sym same) c)
    needs_back recipe (x ∷ ds) row e place c =
        let b = before_ok recipe x (needs_of compilation resolver k recipe ds) row (outcome_of x) e in
        elim (contains_cases b.0 b.1 place (subst (λ r. Contains r place) (sym b.4) c)) [
          | inl same ↦ (x, contains_first x ds, b.2 ∙ ap (λ n. Ok n) same)
          | inr later ↦
              let r = needs_back recipe ds b.1 b.3 place later in
              (r.0, contains_later x ds r.0 r.1, r.2)
        ]

    -- the refusal names a rule that the dependency breaks
    pub record IsMissed (recipe : Name) (d : UnresolvedDependency) (refusal : Refusal) : Type 0 where
      pub rule : Rule
      pub is : rule_of refusal ≡ Some rule
      pub misses : Misses w node.source.now (dependency_shape d) rule (lexeme recipe.token)

    rest_err : (recipe : Name) (d : UnresolvedDependency) (place : ℕ) (others : Result (List ℕ) Refusal) (refusal : Refusal) → places_before (place ∷ []) others ≡ Err refusal → IsMissed recipe d refusal ⊎ (others ≡ Err refusal)
    rest_err recipe d place (Ok rest) refusal e = absurd (cc e)
    rest_err recipe d place (Err other) refusal e =
        let same : other ≡ refusal = cc e in
        inr (ap (λ r. Err r) same)

    before_err : (recipe : Name) (d : UnresolvedDependency) (others : Result (List ℕ) Refusal) (refusal : Refusal) → OutcomeOf d → place_before (place_of compilation resolver k d) recipe d.recipe others ≡ Err refusal
        → IsMissed recipe d refusal ⊎ (others ≡ Err refusal)
    before_err recipe d others refusal (placed place is none f) e = rest_err recipe d place others refusal (sym (ap (λ r. place_before r recipe d.recipe others) is) ∙ e)
    before_err recipe d others refusal (a_module r first m) e =
        let f = sym (r.before recipe others) ∙ e in
        let same : module_refused d.recipe ≡ refusal = cc f in
        inl (record { rule = module_as_recipe (path_names d.recipe); is = ap rule_of (sym same); misses = missed_module m })
    before_err recipe d others refusal (a_count r first (modules, name, attributes, q, led, other)) e =
        let f = sym (r.before recipe others) ∙ e in
        let same : argument_count recipe d.recipe (length d.arguments.items) ≡ refusal = cc f in
        let many = sym (length-map d.arguments.items argument_shape) in
        inl (record {
          rule = dependency_argument_count (lexeme recipe.token) (path_names d.recipe) (length (dependency_shape d).arguments);
          is = ap rule_of (sym same) ∙ ap (λ n. Some (dependency_argument_count (lexeme recipe.token) (path_names d.recipe) n)) many;
          misses = missed_count (subst (TakesOtherCount w node.source.now (path_names d.recipe)) many (modules, name, attributes, q, led, other));
        })
    before_err recipe d others refusal (unknown r left none none') e =
        let f = sym (r.before recipe others) ∙ e in
        let same : dependency_refused recipe d.recipe ≡ refusal = cc f in
        inl (record { rule = unknown_dependency (lexeme recipe.token) (path_names d.recipe); is = ap rule_of (sym same); misses = missed_all none none' })

    pub needs_refused : (recipe : Name) (ds : List UnresolvedDependency) (refusal : Refusal) → needs_of compilation resolver k recipe ds ≡ Err refusal → (d : UnresolvedDependency) × Contains ds d × IsMissed recipe d refusal
    needs_refused recipe [] refusal e = absurd (cc e)
    needs_refused recipe (x ∷ ds) refusal e = elim (before_err recipe x (needs_of compilation resolver k recipe ds) refusal (outcome_of x) e) [
      | inl h ↦ (x, contains_first x ds, h)
      | inr later ↦ let r = needs_refused recipe ds refusal later in (r.0, contains_later x ds r.0 r.1, r.2)
    ]

-- ---- all recipes

module _ (compilation : Compilation) (resolver : RecipeResolver) where
  row_ok : (one : Result (List ℕ) Refusal) (rest : Result (List (List ℕ)) Refusal) (needs : List (List ℕ)) → row_before compilation resolver one rest ≡ Ok needs
      → (row : List ℕ) × (others : List (List ℕ)) × (one ≡ Ok row) × (rest ≡ Ok others) × (row ∷ others ≡ needs)
  row_ok (Ok row) (Ok others) needs e =
      let same : row ∷ others ≡ needs = cc e in
      (row, others, refl, refl, same)
  row_ok (Ok row) (Err refusal) needs e = absurd (cc e)
  row_ok (Err refusal) rest needs e = absurd (cc e)

  row_err : (one : Result (List ℕ) Refusal) (rest : Result (List (List ℕ)) Refusal) (refusal : Refusal) → row_before compilation resolver one rest ≡ Err refusal → (one ≡ Err refusal) ⊎ (rest ≡ Err refusal)
  row_err (Ok row) (Ok others) refusal e = absurd (cc e)
  row_err (Ok row) (Err other) refusal e = inr e
  row_err (Err other) rest refusal e =
      let same : other ≡ refusal = cc e in
      inl (ap (λ r. Err r) same)

  pub as_many : (recipes : List Kept) (needs : List (List ℕ)) → all_needs compilation resolver recipes ≡ Ok needs → length needs ≡ length recipes
  as_many [] needs e =
      let same : [] ≡ needs = cc e in
      ap length (sym same)
  as_many (kept ∷ recipes) needs e =
      let r = row_ok (recipe_needs compilation resolver kept) (all_needs compilation resolver recipes) needs e in
      ap length (sym r.4) ∙ ap suc (as_many recipes r.1 r.3)

  -- each recipe has its row at its place
  pub row_there : (recipes : List Kept) (needs : List (List ℕ)) → all_needs compilation resolver recipes ≡ Ok needs → (place : ℕ) (kept : Kept) → slice_get recipes place ≡ Some kept
      → (row : List ℕ) × (slice_get needs place ≡ Some row) × (recipe_needs compilation resolver kept ≡ Ok row)
  row_there [] needs e place kept at = absurd (none-some kept at)
  row_there (x ∷ recipes) needs e zero kept at =
      let r = row_ok (recipe_needs compilation resolver x) (all_needs compilation resolver recipes) needs e in
      (r.0, ap (λ rows. slice_get rows 0) (sym r.4), ap (recipe_needs compilation resolver) (sym (same_Some x kept at)) ∙ r.2)
  row_there (x ∷ recipes) needs e (suc place) kept at =
      let r = row_ok (recipe_needs compilation resolver x) (all_needs compilation resolver recipes) needs e in
      let s = row_there recipes r.1 r.3 place kept at in
      (s.0, ap (λ rows. slice_get rows (suc place)) (sym r.4) ∙ s.1, s.2)

  -- and each row is one's
  pub row_back : (recipes : List Kept) (needs : List (List ℕ)) → all_needs compilation resolver recipes ≡ Ok needs → (place : ℕ) (row : List ℕ) → slice_get needs place ≡ Some row
      → (kept : Kept) × (slice_get recipes place ≡ Some kept) × (recipe_needs compilation resolver kept ≡ Ok row)
  row_back [] needs e place row at =
      let same : [] ≡ needs = cc e in
      absurd (none-some row (ap (λ rows. slice_get rows place) same ∙ at))
  row_back (x ∷ recipes) needs e zero row at =
      let r = row_ok (recipe_needs compilation resolver x) (all_needs compilation resolver recipes) needs e in
      let same = same_Some r.0 row (ap (λ rows. slice_get rows 0) r.4 ∙ at) in
      (x, refl, r.2 ∙ ap (λ y. Ok y) same)
  row_back (x ∷ recipes) needs e (suc place) row at =
      let r = row_ok (recipe_needs compilation resolver x) (all_needs compilation resolver recipes) needs e in
      row_back recipes r.1 r.3 place row (ap (λ rows. slice_get rows (suc place)) r.4 ∙ at)

  -- where one is refused, it is one of these
  pub all_refused : (recipes : List Kept) (refusal : Refusal) → all_needs compilation resolver recipes ≡ Err refusal → (kept : Kept) × Contains recipes kept × (recipe_needs compilation resolver kept ≡ Err refusal)
  all_refused [] refusal e = absurd (cc e)
  all_refused (x ∷ recipes) refusal e = elim (row_err (recipe_needs compilation resolver x) (all_needs compilation resolver recipes) refusal e) [
    | inl one ↦ (x, contains_first x recipes, one)
    | inr later ↦ let r = all_refused recipes refusal later in (r.0, contains_later x recipes r.0 r.1, r.2)
  ]
