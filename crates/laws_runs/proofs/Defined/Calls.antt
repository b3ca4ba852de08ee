-- The recipes that words invoke by menus are in the table.
use Rattle.std.proofs.Common.{◌≡◌, subst, refl, ℕ, ◌<◌, Bool, true, false, cond, List, [], ◌∷◌, length, nat_lt, Option, Some, None, inl, inr, arith}
use Rattle.std.specs.Prelude.{Contains}
use Rattle.std.specs.List.{list_any}
use Rattle.std.specs.Option.{option_and_then, option_map}
use Rattle.std.proofs.lemmas.Option.{cond_some, none-some}
use Rattle.modules_compilation.specs.Modulepaths.{pieces}
use Rattle.analyze_calls.specs.Calls.{CallRow}
use Rattle.analyze_words.specs.Menus.{default_in, meaning_in}
use Rattle.analyze_words.specs.Worded.{meant, there, words_of}
use Rattle.analyze_words.specs.declared.menu.Meaning.{Meaning}
use Rattle.analyze_words.specs.declared.menu.Meaning.TheVariants.{Recipe, Submodule}
use Rattle.analyze_words.specs.declared.menu.Menus.{Menus}
use Rattle.meaning_runs.specs.Words.{WordMeaning, recipe, submodule}
use Rattle.meaning_runs.specs.Invokes.{Followed, Found, Invoke, Invokes, default_needs_arguments, default_of, find, follow, found, last, listed, lost, means, more, refused}
use Rattle.meaning_rules.proofs.Worlds.Places.{contains_cases, contains_none}
use Rattle.laws_names.proofs.Reading.Lists.{contains_mapped}
use Rattle.laws_runs.proofs.Menus.Lists.{less_told}
use Rattle.run_tasks.specs.Requested.Words.{call_of}
use Rattle.laws_runs.specs.Defined.Calls.{WordsInvokeRecipes}

module _ (menus : Menus) where
  abbrev IsThere : ℕ → Type 0
  IsThere rank = rank < length menus.recipes.items

  there_is : (place rank : ℕ) → there menus place ≡ Some rank → IsThere rank
  there_is place rank e =
      let c = cond_some (nat_lt place (length menus.recipes.items)) place rank e in
      let same = c.1 in
      let less = less_told place (length menus.recipes.items) c.0 in
      omega (arith, less, same)

  abbrev MeansThere : Option (WordMeaning ℕ ℕ) → Type 0
  MeansThere None = Unit {0}
  MeansThere (Some (recipe rank)) = IsThere rank
  MeansThere (Some (submodule inner)) = Unit {0}

  -- a name that means a recipe means one that is there
  meaning_there : (m : Option Meaning) → MeansThere (option_and_then (meant menus) m)
  meaning_there None = tt
  meaning_there (Some (Submodule inner)) = tt
  meaning_there (Some (Recipe place)) = by_there (there menus place) refl
    where
      by_there : (o : Option ℕ) → there menus place ≡ o → MeansThere (option_map recipe o)
      by_there None is = tt
      by_there (Some rank) is = there_is place rank is

  default_there : (o : Option ℕ) (rank : ℕ) → option_and_then (there menus) o ≡ Some rank → IsThere rank
  default_there None rank e = absurd (none-some rank e)
  default_there (Some place) rank e = there_is place rank e

  abbrev FollowsThere : Followed ℕ ℕ → Type 0
  FollowsThere (means m) = MeansThere m
  FollowsThere lost = Unit {0}

  follow_there : (here : ℕ) (parts : List (List ℕ)) → FollowsThere (follow (words_of menus) here parts)
  follow_there here [] = tt
  follow_there here (part ∷ []) = meaning_there (meaning_in menus here part)
  follow_there here (part ∷ other ∷ others) = by_meaning (option_and_then (meant menus) (meaning_in menus here part)) refl (λ inner. follow_there inner (other ∷ others))
    where
      by_meaning : (m : Option (WordMeaning ℕ ℕ)) → option_and_then (meant menus) (meaning_in menus here part) ≡ m → ((inner : ℕ) → FollowsThere (follow (words_of menus) inner (other ∷ others)))
          → FollowsThere (follow (words_of menus) here (part ∷ other ∷ others))
      by_meaning None e later = rw e tt
      by_meaning (Some (recipe rank)) e later = rw e tt
      by_meaning (Some (submodule inner)) e later = rw e (later inner)

  abbrev FindsThere : Found ℕ → Type 0
  FindsThere (found rank behind) = IsThere rank
  FindsThere (refused rule) = Unit {0}

  finds_default : (o : Option ℕ) → ((rank : ℕ) → o ≡ Some rank → IsThere rank) → FindsThere (default_of (words_of menus) o)
  finds_default None is = tt
  finds_default (Some rank) is = by_test (list_any (λ slot. slot.required) ((words_of menus).slots rank))
    where
      by_test : (b : Bool) → FindsThere (cond b (refused (default_needs_arguments ((words_of menus).name rank))) (found rank []))
      by_test true = tt
      by_test false = is rank refl

  -- what words name is there
  find_there : (here : ℕ) (words : List (List ℕ)) → FindsThere (find (words_of menus) here words)
  find_there here [] = finds_default (option_and_then (there menus) (default_in menus here)) (λ rank e. default_there (default_in menus here) rank e)
  find_there here (text ∷ words) = by_path (follow (words_of menus) here (pieces text)) refl (follow_there here (pieces text)) (λ inner. find_there inner words)
    where
      by_path : (f : Followed ℕ ℕ) → follow (words_of menus) here (pieces text) ≡ f → FollowsThere f → ((inner : ℕ) → FindsThere (find (words_of menus) inner words)) → FindsThere (find (words_of menus) here (text ∷ words))
      by_path lost e is later = rw e tt
      by_path (means None) e is later = rw e tt
      by_path (means (Some (recipe rank))) e is later = rw e is
      by_path (means (Some (submodule inner))) e is later = rw e (later inner)

  -- and so is each recipe that they invoke
  invokes_there : {words rest : List (List ℕ)} {rank : ℕ} {groups : List (List (List ℕ))} → Invokes (words_of menus) words rank groups rest → IsThere rank
  invokes_there {words} i = subst FindsThere i.named (find_there 0 words)

  invoke_there : {words : List (List ℕ)} {rows : List (ℕ × List (List (List ℕ)))} → Invoke (words_of menus) words rows → (row : ℕ × List (List (List ℕ))) → Contains rows row → IsThere row.0
  invoke_there (listed is) row c = absurd (contains_none [] row refl c)
  invoke_there (last {r = rank} {groups} asked i) row c = elim (contains_cases (rank, groups) [] row c) [
    | inl same ↦ subst (λ (x : ℕ × List (List (List ℕ))). IsThere x.0) same (invokes_there i)
    | inr later ↦ absurd (contains_none [] row refl later)
  ]
  invoke_there (more {r = rank} {groups} {others} asked i rest) row c = elim (contains_cases (rank, groups) others row c) [
    | inl same ↦ subst (λ (x : ℕ × List (List (List ℕ))). IsThere x.0) same (invokes_there i)
    | inr later ↦ invoke_there rest row later
  ]

pub words_invoke_recipes : WordsInvokeRecipes
words_invoke_recipes compilation table settings words calls i call c =
    let m = contains_mapped call_of i.rows call (subst (λ cs. Contains cs call) i.are c) in
    let count = i.by_menus.are.count in
    let less = invoke_there i.by_menus.menus i.by_menus.is m.0 m.1 in
    subst (λ (x : CallRow). x.recipe < length table.recipes.items) m.2 (omega (arith, less, count))
