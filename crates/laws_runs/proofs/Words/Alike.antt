-- Words that mean alike invoke alike: names mean recipes and modules that are related.
use Rattle.std.proofs.Common.{◌≡◌, ℕ, List, [], ◌∷◌, Bool, true, false, cond, Option, Some, None, refl, sym, ◌∙◌, ap, subst}
use Rattle.std.specs.Prelude.{Contains}
use Rattle.std.specs.List.{list_any}
use Rattle.modules_compilation.specs.Modulepaths.{pieces}
use Rattle.meaning_runs.specs.Words.{Words, WordMeaning, recipe, submodule}
use Rattle.meaning_runs.specs.Invokes.{WordRule, argument_count, of_recipe, words_found, default_needs_arguments, Followed, means, lost, follow, Found, found, refused, find, default_of, Takes, Refuses, beginning, is_complete, groups_of, Invokes, IsAsked, Invoke, listed, last, more, BreaksFirst, unfound, untaken, incomplete, BreaksWords, at_first, behind}
use Rattle.laws_runs.specs.Words.Met.{IsNamed}
use Rattle.laws_runs.proofs.Words.Within.{IsWithin, named_within, contains_first, contains_later, invokes_leaves}

-- ---- what is alike, where some modules and recipes are related

pub data AreBoth {X Y : Type 0} (Related : X → Y → Type 0) : Option X → Option Y → Type 0 where
  neither : AreBoth Related None None
  both : {x : X} {y : Y} → Related x y → AreBoth Related (Some x) (Some y)

pub data MeanAlike {Module Recipe Module' Recipe' : Type 0} (Modules : Module → Module' → Type 0) (Recipes : Recipe → Recipe' → Type 0) : WordMeaning Module Recipe → WordMeaning Module' Recipe' → Type 0 where
  recipes : {r : Recipe} {r' : Recipe'} → Recipes r r' → MeanAlike Modules Recipes (recipe r) (recipe r')
  modules : {m : Module} {m' : Module'} → Modules m m' → MeanAlike Modules Recipes (submodule m) (submodule m')

data FollowAlike {Module Recipe Module' Recipe' : Type 0} (Modules : Module → Module' → Type 0) (Recipes : Recipe → Recipe' → Type 0) : Followed Module Recipe → Followed Module' Recipe' → Type 0 where
  both_lost : FollowAlike Modules Recipes lost lost
  both_mean : {o : Option (WordMeaning Module Recipe)} {o' : Option (WordMeaning Module' Recipe')} → AreBoth (MeanAlike Modules Recipes) o o' → FollowAlike Modules Recipes (means o) (means o')

data FoundAlike {Recipe Recipe' : Type 0} (Recipes : Recipe → Recipe' → Type 0) : Found Recipe → Found Recipe' → Type 0 where
  both_found : {r : Recipe} {r' : Recipe'} {words : List (List ℕ)} → Recipes r r' → FoundAlike Recipes (found r words) (found r' words)
  both_refused : {rule : WordRule} → FoundAlike Recipes (refused rule) (refused rule)

-- invocations of related recipes with the same groups
pub data RowsAlike {Recipe Recipe' : Type 0} (Recipes : Recipe → Recipe' → Type 0) : List (Recipe × List (List (List ℕ))) → List (Recipe' × List (List (List ℕ))) → Type 0 where
  no_rows : RowsAlike Recipes [] []
  row : {r : Recipe} {r' : Recipe'} {groups : List (List (List ℕ))} {rows : List (Recipe × List (List (List ℕ)))} {rows' : List (Recipe' × List (List (List ℕ)))}
      → Recipes r r' → RowsAlike Recipes rows rows' → RowsAlike Recipes ((r, groups) ∷ rows) ((r', groups) ∷ rows')

module _ {Module Recipe Module' Recipe' : Type 0} (Modules : Module → Module' → Type 0) (Recipes : Recipe → Recipe' → Type 0) (w : Words Module Recipe) (w' : Words Module' Recipe') where
  -- names of the words mean alike in related modules
  pub record AreAlike (words : List (List ℕ)) : Type 0 where
    pub root : Modules w.root w'.root
    pub lists : w'.lists ≡ w.lists
    pub names : (here : Module) (here' : Module') (name : List ℕ) → Modules here here' → IsNamed words name → AreBoth (MeanAlike Modules Recipes) (w.meaning here name) (w'.meaning here' name)
    pub defaults : (here : Module) (here' : Module') → Modules here here' → AreBoth Recipes (w.default here) (w'.default here')
    pub own : (r : Recipe) (r' : Recipe') → Recipes r r' → w'.name r' ≡ w.name r
    pub slots : (r : Recipe) (r' : Recipe') → Recipes r r' → w'.slots r' ≡ w.slots r

  -- fewer words have fewer names
  fewer : {words left : List (List ℕ)} → AreAlike words → IsWithin left words → AreAlike left
  fewer {words = words} {left = left} a within = record {
    root = a.root;
    lists = a.lists;
    names = λ here here' name m named. a.names here here' name m (named_within left words name within named);
    defaults = a.defaults;
    own = a.own;
    slots = a.slots;
  }

  -- ---- names

  follow_alike : (here : Module) (here' : Module') (parts : List (List ℕ)) → Modules here here'
      → ((here : Module) (here' : Module') (name : List ℕ) → Modules here here' → Contains parts name → AreBoth (MeanAlike Modules Recipes) (w.meaning here name) (w'.meaning here' name))
      → FollowAlike Modules Recipes (follow w here parts) (follow w' here' parts)
  follow_alike here here' [] m names = both_mean neither
  follow_alike here here' (part ∷ []) m names = both_mean (names here here' part m (contains_first part []))
  follow_alike here here' (part ∷ other ∷ others) m names =
      cases refl refl (names here here' part m (contains_first part (other ∷ others)))
      (λ inner inner' k. follow_alike inner inner' (other ∷ others) k (λ here here' name m there. names here here' name m (contains_later part (other ∷ others) name there)))
    where
      cases : {o : Option (WordMeaning Module Recipe)} {o' : Option (WordMeaning Module' Recipe')} → w.meaning here part ≡ o → w'.meaning here' part ≡ o' → AreBoth (MeanAlike Modules Recipes) o o'
          → ((inner : Module) (inner' : Module') → Modules inner inner' → FollowAlike Modules Recipes (follow w inner (other ∷ others)) (follow w' inner' (other ∷ others)))
          → FollowAlike Modules Recipes (follow w here (part ∷ other ∷ others)) (follow w' here' (part ∷ other ∷ others))
      cases e e' neither next = rw (e, e') both_lost
      cases e e' (both (recipes k)) next = rw (e, e') both_lost
      cases e e' (both (modules {m = inner} {m' = inner'} k)) next = rw (e, e') (next inner inner' k)

  default_alike : ((r : Recipe) (r' : Recipe') → Recipes r r' → w'.name r' ≡ w.name r) → ((r : Recipe) (r' : Recipe') → Recipes r r' → w'.slots r' ≡ w.slots r) → {o : Option Recipe} {o' : Option Recipe'} → AreBoth Recipes o o' → FoundAlike Recipes (default_of w o) (default_of w' o')
  default_alike own slots neither = both_refused
  default_alike own slots (both {x = r} {y = r'} k) = rw (slots r r' k, own r r' k) (by_test (list_any (λ slot. slot.required) (w.slots r)))
    where
      by_test : (needs : Bool) → FoundAlike Recipes (cond needs (refused (default_needs_arguments (w.name r))) (found r [])) (cond needs (refused (default_needs_arguments (w.name r))) (found r' []))
      by_test true = both_refused
      by_test false = both_found k

  find_alike : (here : Module) (here' : Module') (words : List (List ℕ)) → Modules here here' → AreAlike words → FoundAlike Recipes (find w here words) (find w' here' words)
  find_alike here here' [] m a = default_alike a.own a.slots (a.defaults here here' m)
  find_alike here here' (text ∷ words) m a =
      cases refl refl (follow_alike here here' (pieces text) m (λ here here' name m there. a.names here here' name m (text, contains_first text words, there)))
      (λ inner inner' k. find_alike inner inner' words k (fewer a (λ word there. contains_later text words word there)))
    where
      cases : {f : Followed Module Recipe} {f' : Followed Module' Recipe'} → follow w here (pieces text) ≡ f → follow w' here' (pieces text) ≡ f' → FollowAlike Modules Recipes f f'
          → ((inner : Module) (inner' : Module') → Modules inner inner' → FoundAlike Recipes (find w inner words) (find w' inner' words))
          → FoundAlike Recipes (find w here (text ∷ words)) (find w' here' (text ∷ words))
      cases e e' both_lost next = rw (e, e') both_refused
      cases e e' (both_mean neither) next = rw (e, e') both_refused
      cases e e' (both_mean (both (recipes k))) next = rw (e, e') (both_found k)
      cases e e' (both_mean (both (modules {m = inner} {m' = inner'} k))) next = rw (e, e') (next inner inner' k)

  -- what is found there for what is found here
  found_there : {f : Found Recipe} {f' : Found Recipe'} {r : Recipe} {words : List (List ℕ)} → FoundAlike Recipes f f' → f ≡ found r words → (r' : Recipe') × Recipes r r' × (f' ≡ found r' words)
  found_there {r = r} {words = words} (both_found {r = q} {r' = r'} {words = ws} k) e =
      let same : q ≡ r = cc e in
      let rest : ws ≡ words = cc e in
      (r', subst (λ x. Recipes x r') same k, ap (found r') rest)
  found_there both_refused e = absurd (cc e)

  refused_there : {f : Found Recipe} {f' : Found Recipe'} {rule : WordRule} → FoundAlike Recipes f f' → f ≡ refused rule → f' ≡ refused rule
  refused_there (both_found k) e = absurd (cc e)
  refused_there {rule = rule} (both_refused {rule = other}) e = let same : other ≡ rule = cc e in ap (λ x. refused x) same

  -- ---- words

  first_alike : {words rest : List (List ℕ)} {r : Recipe} {groups : List (List (List ℕ))} → AreAlike words → Invokes w words r groups rest → (r' : Recipe') × Recipes r r' × Invokes w' words r' groups rest
  first_alike {words = words} {r = r} {groups = groups} a i =
      let there = found_there (find_alike w.root w'.root words a.root a) i.named in
      let same : w.slots r ≡ w'.slots there.0 = sym (a.slots r there.0 there.1) in (
        there.0,
        there.1,
        record {
          behind = i.behind;
          end = i.end;
          named = there.2;
          taken = subst (λ slots. Takes slots (beginning slots i.behind) i.end) same i.taken;
          complete = subst (λ slots. is_complete slots i.end.taken ≡ true) same i.complete;
          grouped = subst (λ slots. groups ≡ groups_of slots i.end.taken) same i.grouped;
          left = i.left;
        },
      )

  asked_alike : {words : List (List ℕ)} → w'.lists ≡ w.lists → IsAsked w words → IsAsked w' words
  asked_alike same asked = λ none. same ∙ asked none

  -- words that mean alike invoke alike
  pub invoke_alike : {words : List (List ℕ)} {rows : List (Recipe × List (List (List ℕ)))} → AreAlike words → Invoke w words rows → (rows' : List (Recipe' × List (List (List ℕ)))) × RowsAlike Recipes rows rows' × Invoke w' words rows'
  invoke_alike a (listed e) = ([], no_rows, listed (a.lists ∙ e))
  invoke_alike a (last {groups = groups} asked i) =
      let there = first_alike a i in
      ((there.0, groups) ∷ [], row there.1 no_rows, last (asked_alike a.lists asked) there.2)
  invoke_alike a (more {groups = groups} asked i others) =
      let there = first_alike a i in
      let later = invoke_alike (fewer a (invokes_leaves w i)) others in
      ((there.0, groups) ∷ later.0, row there.1 later.1, more (asked_alike a.lists asked) there.2 later.2)

  first_broken : {words : List (List ℕ)} {rule : WordRule} → AreAlike words → BreaksFirst w words rule → BreaksFirst w' words rule
  first_broken {words = words} a (unfound e) = unfound (refused_there (find_alike w.root w'.root words a.root a) e)
  first_broken {words = words} a (untaken {behind = ws} {r = r} {rule = rule} e t) =
      let there = found_there (find_alike w.root w'.root words a.root a) e in
      subst (λ own. BreaksFirst w' words (of_recipe own rule)) (a.own r there.0 there.1)
      (untaken there.2 (subst (λ slots. Refuses slots (beginning slots ws) rule) (sym (a.slots r there.0 there.1)) t))
  first_broken {words = words} a (incomplete {behind = ws} {r = r} {end = end} e t c) =
      let there = found_there (find_alike w.root w'.root words a.root a) e in
      let same : w.slots r ≡ w'.slots there.0 = sym (a.slots r there.0 there.1) in
      subst (λ own. BreaksFirst w' words (argument_count own (words_found end.taken))) (a.own r there.0 there.1)
      (incomplete there.2 (subst (λ slots. Takes slots (beginning slots ws) end) same t) (subst (λ slots. is_complete slots end.taken ≡ false) same c))

  -- and break the same rules
  pub broken_alike : {words : List (List ℕ)} {rule : WordRule} → AreAlike words → BreaksWords w words rule → BreaksWords w' words rule
  broken_alike a (at_first asked b) = at_first (asked_alike a.lists asked) (first_broken a b)
  broken_alike a (behind asked i b) = behind (asked_alike a.lists asked) (first_alike a i).2 (broken_alike (fewer a (invokes_leaves w i)) b)

-- ---- the other way round

both_back : {X Y : Type 0} {Related : X → Y → Type 0} {o : Option X} {o' : Option Y} → AreBoth Related o o' → AreBoth (λ y x. Related x y) o' o
both_back neither = neither
both_back (both k) = both k

meaning_back : {Module Recipe Module' Recipe' : Type 0} {Modules : Module → Module' → Type 0} {Recipes : Recipe → Recipe' → Type 0} {o : Option (WordMeaning Module Recipe)} {o' : Option (WordMeaning Module' Recipe')}
    → AreBoth (MeanAlike Modules Recipes) o o' → AreBoth (MeanAlike (λ m' m. Modules m m') (λ r' r. Recipes r r')) o' o
meaning_back neither = neither
meaning_back (both (recipes k)) = both (recipes k)
meaning_back (both (modules k)) = both (modules k)

pub alike_back : {Module Recipe Module' Recipe' : Type 0} {Modules : Module → Module' → Type 0} {Recipes : Recipe → Recipe' → Type 0} {w : Words Module Recipe} {w' : Words Module' Recipe'} {words : List (List ℕ)}
    → AreAlike Modules Recipes w w' words → AreAlike (λ m' m. Modules m m') (λ r' r. Recipes r r') w' w words
alike_back a = record {
  root = a.root;
  lists = sym a.lists;
  names = λ here here' name m named. meaning_back (a.names here' here name m named);
  defaults = λ here here' m. both_back (a.defaults here' here m);
  own = λ r r' k. sym (a.own r' r k);
  slots = λ r r' k. sym (a.slots r' r k);
}
