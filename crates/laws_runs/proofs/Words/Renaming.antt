-- The laws, from words that mean alike.
use Rattle.std.proofs.Common.{◌≡◌, ℕ, List, [], ◌∷◌, map, Option, Some, None, refl, sym, ◌∙◌, ap, subst}
use Rattle.std.specs.Option.{option_map}
use Rattle.meaning_runs.specs.Words.{Words, WordMeaning, recipe, submodule}
use Rattle.meaning_runs.specs.Invokes.{Invoke}
use Rattle.laws_runs.specs.Words.Met.{IsNamed, IsReached, at_root, inside, IsMet, by_name, by_default}
use Rattle.laws_runs.specs.Words.Same.{NamesAloneCount}
use Rattle.laws_runs.specs.Words.Renamed.{renamed, IsRenamed, invocations_renamed, RenamedAlike}
use Rattle.laws_runs.proofs.Words.Alike.{AreBoth, neither, both, MeanAlike, recipes, modules, RowsAlike, no_rows, row, AreAlike, invoke_alike, broken_alike, alike_back}

module _ {Module Recipe Module' Recipe' : Type 0} (w : Words Module Recipe) (w' : Words Module' Recipe') (f : Module → Module') (g : Recipe → Recipe') (words : List (List ℕ)) where
  -- a module that is reached, and what it is called there
  abbrev Modules : Module → Module' → Type 0
  Modules here here' = (here' ≡ f here) × IsReached w words here

  abbrev Recipes : Recipe → Recipe' → Type 0
  Recipes r r' = (r' ≡ g r) × IsMet w words r

  names_alike : IsRenamed w w' f g words → (here : Module) (here' : Module') (name : List ℕ) → Modules here here' → IsNamed words name → AreBoth (MeanAlike Modules Recipes) (w.meaning here name) (w'.meaning here' name)
  names_alike h here here' name m named =
      subst (AreBoth (MeanAlike Modules Recipes) (w.meaning here name)) (sym (ap (λ x. w'.meaning x name) m.0 ∙ h.names here name m.1 named)) (cases (w.meaning here name) refl)
    where
      cases : (o : Option (WordMeaning Module Recipe)) → w.meaning here name ≡ o → AreBoth (MeanAlike Modules Recipes) o (option_map (renamed f g) o)
      cases None e = neither
      cases (Some (recipe r)) e = both (recipes (refl, by_name m.1 named e))
      cases (Some (submodule inner)) e = both (modules (refl, inside m.1 named e))

  defaults_alike : IsRenamed w w' f g words → (here : Module) (here' : Module') → Modules here here' → AreBoth Recipes (w.default here) (w'.default here')
  defaults_alike h here here' m = subst (AreBoth Recipes (w.default here)) (sym (ap w'.default m.0 ∙ h.defaults here m.1)) (cases (w.default here) refl)
    where
      cases : (o : Option Recipe) → w.default here ≡ o → AreBoth Recipes o (option_map g o)
      cases None e = neither
      cases (Some r) e = both (refl, by_default m.1 e)

  alike : IsRenamed w w' f g words → AreAlike Modules Recipes w w' words
  alike h = record {
    root = (h.root, at_root);
    lists = h.lists;
    names = names_alike h;
    defaults = defaults_alike h;
    own = λ r r' k. ap w'.name k.0 ∙ h.own r k.1;
    slots = λ r r' k. ap w'.slots k.0 ∙ h.slots r k.1;
  }

  rows_renamed : {rows : List (Recipe × List (List (List ℕ)))} {rows' : List (Recipe' × List (List (List ℕ)))} → RowsAlike Recipes rows rows' → rows' ≡ invocations_renamed w w' f g rows
  rows_renamed no_rows = refl
  rows_renamed (row {groups = groups} k rest) = let same = rows_renamed rest in λ i. (k.0 i, groups) ∷ same i

  rows_back : {rows : List (Recipe × List (List (List ℕ)))} {rows' : List (Recipe' × List (List (List ℕ)))} → RowsAlike (λ r' r. Recipes r r') rows' rows → rows' ≡ invocations_renamed w w' f g rows
  rows_back no_rows = refl
  rows_back (row {groups = groups} k rest) = let same = rows_back rest in λ i. (k.0 i, groups) ∷ same i

pub renamed_alike : {Module Recipe Module' Recipe' : Type 0} → RenamedAlike Module Recipe Module' Recipe'
renamed_alike w w' f g words h =
    let a = alike w w' f g words h in
    let b = alike_back a in
    record {
      there = λ invocations i. let x = invoke_alike (Modules w w' f g words) (Recipes w w' f g words) w w' a i in subst (Invoke w' words) (rows_renamed w w' f g words x.1) x.2;
      back = λ named i. let x = invoke_alike (λ m' m. Modules w w' f g words m m') (λ r' r. Recipes w w' f g words r r') w' w b i in (x.0, x.2, rows_back w w' f g words x.1);
      rules = λ rule. (broken_alike (Modules w w' f g words) (Recipes w w' f g words) w w' a, broken_alike (λ m' m. Modules w w' f g words m m') (λ r' r. Recipes w w' f g words r r') w' w b);
    }

-- ---- names alone

meaning_kept : {Module Recipe : Type 0} (o : Option (WordMeaning Module Recipe)) → o ≡ option_map (renamed (λ m. m) (λ r. r)) o
meaning_kept None = refl
meaning_kept (Some (recipe r)) = refl
meaning_kept (Some (submodule inner)) = refl

default_kept : {Recipe : Type 0} (o : Option Recipe) → o ≡ option_map (λ r. r) o
default_kept None = refl
default_kept (Some r) = refl

rows_kept : {Recipe : Type 0} (rows : List (Recipe × List (List (List ℕ)))) → map (λ i. (i.0, i.1)) rows ≡ rows
rows_kept [] = refl
rows_kept (i ∷ rows) = ap (λ is. i ∷ is) (rows_kept rows)

pub names_alone_count : {Module Recipe : Type 0} → NamesAloneCount Module Recipe
names_alone_count w w' words h =
    let r = renamed_alike w w' (λ m. m) (λ r. r) words (record {
      root = h.root;
      lists = h.lists;
      names = λ here name reached named. h.names here name reached named ∙ meaning_kept (w.meaning here name);
      defaults = λ here reached. h.defaults here reached ∙ default_kept (w.default here);
      own = h.own;
      slots = h.slots;
    }) in
    (λ invocations. (λ i. subst (Invoke w' words) (rows_kept invocations) (r.there invocations i), λ i. let x = r.back invocations i in subst (Invoke w words) (sym (x.2 ∙ rows_kept x.0)) x.1), r.rules)
