-- What is resolved, one after the other.
use Rattle.std.proofs.Common.{◌≡◌, ℕ, zero, suc, ◌+◌, ◌<◌, List, [], ◌∷◌, ◌++◌, append_assoc, drop, get_or, length, Some, Result, Ok, Err, refl, sym, ap, ◌∙◌, arith}
use Rattle.std.specs.List.{cons_option, filter_map}
use Rattle.std.proofs.lemmas.List.{append-nil}
use Rattle.just_text.specs.declared.name.Name.{Name}
use Rattle.tree_items.specs.declared.item.Alias.{Alias}
use Rattle.tree_items.specs.declared.recipe.UnresolvedDependency.{UnresolvedDependency}
use Rattle.modules_compilation.specs.declared.compilation.Compilation.{Compilation}
use Rattle.modules_compilation.specs.declared.place.Place.{Place}
use Rattle.resolve_recipes.specs.Aliases.{alias_at, alias_before, rank_of, resolved, resolved_at}
use Rattle.resolve_recipes.specs.Refusals.{Refusal, refused}
use Rattle.resolve_recipes.specs.Resolving.{named_in, needs_of, place_before, place_of, places_before}
use Rattle.resolve_recipes.specs.declared.aliases.ResolvedAlias.{ResolvedAlias}
use Rattle.resolve_recipes.specs.declared.item_places.ItemPlaces.{ItemPlaces}
use Rattle.resolve_recipes.specs.declared.recipe_resolver.Reason.{Reason}
use Rattle.resolve_recipes.specs.declared.recipe_resolver.RecipeResolver.{RecipeResolver}

-- what is left begins with the element at the place
pub next_of : {X : Type 0} (xs : List X) (i : ℕ) (x : X) → i < length xs → x ≡ get_or xs i x → drop i xs ≡ x ∷ drop (i + 1) xs
next_of [] i x lt is = absurd (omega (arith, lt))
next_of (y ∷ xs) zero x lt is = ap (λ z. z ∷ xs) (sym is)
next_of (y ∷ xs) (suc i) x lt is =
    let next : suc i + 1 ≡ suc (i + 1) = omega arith in
    next_of xs i x (omega (arith, lt)) is ∙ ap (λ n. x ∷ drop n (y ∷ xs)) (sym next)

pub next_at : {X : Type 0} (xs : List X) (i : ℕ) (d : X) → i < length xs → drop i xs ≡ get_or xs i d ∷ drop (i + 1) xs
next_at [] i d lt = absurd (omega (arith, lt))
next_at (y ∷ xs) zero d lt = refl
next_at (y ∷ xs) (suc i) d lt =
    let next : suc i + 1 ≡ suc (i + 1) = omega arith in
    next_at xs i d (omega (arith, lt)) ∙ ap (λ n. get_or xs i d ∷ drop n (y ∷ xs)) (sym next)

module _ {A : Type 0} where
  -- nothing before others
  pub none_before : (others : Result (List A) Refusal) → places_before [] others ≡ others
  none_before (Ok others) = refl
  none_before (Err refusal) = refl

  pub all_before : (some more : List A) (others : Result (List A) Refusal) → places_before (some ++ more) others ≡ places_before some (places_before more others)
  all_before some more (Ok others) = ap Ok (append_assoc some more others)
  all_before some more (Err refusal) = refl

  -- what stands before others doesn't refuse
  pub refused_behind : (some : List A) (others : Result (List A) Refusal) (refusal : Refusal) → places_before some others ≡ Err refusal → others ≡ Err refusal
  refused_behind some (Ok others) refusal e = absurd (cc e)
  refused_behind some (Err other) refusal e = e

-- ---- dependencies

module _ (compilation : Compilation) (resolver : RecipeResolver) (place : ℕ) (recipe : Name) where
  abbrev needs : List UnresolvedDependency → Result (List ℕ) Refusal
  needs = needs_of compilation resolver place recipe

  pub dependency_stops : (dependencies : List UnresolvedDependency) (i : ℕ) (dependency : UnresolvedDependency) (reason : Reason) (some before : List ℕ) → i < length dependencies → dependency ≡ get_or dependencies i dependency
      → Err reason ≡ place_of compilation resolver place dependency → places_before some (needs (drop i dependencies)) ≡ places_before before (needs dependencies) → needs dependencies ≡ Err (refused reason recipe dependency.recipe)
  dependency_stops dependencies i dependency reason some before lt is none so =
      refused_behind before (needs dependencies) (refused reason recipe dependency.recipe)
      (sym so ∙ ap (λ ds. places_before some (needs ds)) (next_of dependencies i dependency lt is) ∙ ap (λ r. places_before some (place_before r recipe dependency.recipe (needs (drop (i + 1) dependencies)))) (sym none))

  pub dependency_goes : (dependencies : List UnresolvedDependency) (i : ℕ) (dependency : UnresolvedDependency) (found : ℕ) (some : List ℕ) → i < length dependencies → dependency ≡ get_or dependencies i dependency
      → Ok found ≡ place_of compilation resolver place dependency → places_before (some ++ found ∷ []) (needs (drop (i + 1) dependencies)) ≡ places_before some (needs (drop i dependencies))
  dependency_goes dependencies i dependency found some lt is there =
      all_before some (found ∷ []) (needs (drop (i + 1) dependencies))
      ∙ ap (λ r. places_before some (place_before r recipe dependency.recipe (needs (drop (i + 1) dependencies)))) there
      ∙ ap (λ ds. places_before some (needs ds)) (sym (next_of dependencies i dependency lt is))

  refused_case : (r : Result ℕ Reason) (path : List Name) (one both : Result (List ℕ) Refusal) (refusal : Refusal) → (one ≡ Err refusal → both ≡ Err refusal) → place_before r recipe path one ≡ Err refusal → place_before r recipe path both ≡ Err refusal
  refused_case (Ok found) path one both refusal more e = ap (places_before (found ∷ [])) (more (refused_behind (found ∷ []) one refusal e))
  refused_case (Err reason) path one both refusal more e = e

  -- a refusal among the first is that of all
  pub first_refused : (one two : List UnresolvedDependency) (refusal : Refusal) → needs one ≡ Err refusal → needs (one ++ two) ≡ Err refusal
  first_refused [] two refusal e = absurd (cc e)
  first_refused (d ∷ one) two refusal e = refused_case (place_of compilation resolver place d) d.recipe (needs one) (needs (one ++ two)) refusal (first_refused one two refusal) e

  needed_case : (r : Result ℕ Reason) (path : List Name) (one both two : Result (List ℕ) Refusal) (before some : List ℕ) → ((earlier : List ℕ) → places_before earlier one ≡ Ok some → places_before earlier both ≡ places_before some two)
      → places_before before (place_before r recipe path one) ≡ Ok some → places_before before (place_before r recipe path both) ≡ places_before some two
  needed_case (Ok found) path one both two before some more e = sym (all_before before (found ∷ []) both) ∙ more (before ++ found ∷ []) (all_before before (found ∷ []) one ∙ e)
  needed_case (Err reason) path one both two before some more e = absurd (cc e)

  -- the places of the first, and behind them those of the others
  pub both_needed : (one two : List UnresolvedDependency) (before some : List ℕ) → places_before before (needs one) ≡ Ok some → places_before before (needs (one ++ two)) ≡ places_before some (needs two)
  both_needed [] two before some e =
      let same : before ++ [] ≡ some = cc e in
      ap (λ places. places_before places (needs two)) (sym (append-nil before) ∙ same)
  both_needed (d ∷ one) two before some e =
      needed_case (place_of compilation resolver place d) d.recipe (needs one) (needs (one ++ two)) (needs two) before some (λ earlier. both_needed one two earlier some) e

-- ---- aliases

module _ (compilation : Compilation) (places : ItemPlaces) (ranks : List ℕ) (place : ℕ) where
  abbrev at : List Place → Result (List ResolvedAlias) Refusal
  at = resolved_at compilation places ranks place

  pub alias_there : (items lent : List Place) (i : ℕ) (d : Place) (alias : Alias (List Name)) → i < length items → lent ≡ items → alias_at compilation (get_or lent i d) ≡ Some alias
      → at (drop i items) ≡ alias_before (rank_of ranks (named_in compilation places place alias.target) alias) alias.name (at (drop (i + 1) items))
  alias_there items lent i d alias lt same there =
      ap at (next_at items i d lt) ∙ ap (λ found. resolved compilation places ranks place (cons_option found (filter_map (alias_at compilation) (drop (i + 1) items)))) (ap (λ l. alias_at compilation (get_or l i d)) (sym same) ∙ there)
