-- Invocations, recipe by recipe.
use Rattle.std.proofs.Common.{◌≡◌, ◌≢◌, ℕ, List, [], ◌∷◌, ◌++◌, length, map, Some, true, refl, sym, ◌∙◌, ap, subst, append_assoc}
use Rattle.std.specs.List.{slice_get}
use Rattle.std.proofs.lemmas.List.{map_push, nil_from_length}
use Rattle.analyze_words.specs.declared.menu.Callable.{Callable}
use Rattle.analyze_words.specs.declared.menu.Menus.{Menus}
use Rattle.analyze_words.specs.declared.fault.WordFault.{WordFault}
use Rattle.analyze_words.specs.declared.parser.Invocation.{Invocation}
use Rattle.analyze_words.specs.Broken.{IsRefusedBy, WordsBreak, untaken, incomplete}
use Rattle.analyze_words.specs.Reading.{ReadsOne, ReadsAll}
use Rattle.analyze_words.specs.Takings.{WordsGive}
use Rattle.meaning_runs.specs.Words.{Words}
use Rattle.meaning_runs.specs.Invokes as spec
use Rattle.meaning_runs.specs.Invokes.{WordRule, found, refused, find, Invokes, IsAsked, Invoke, listed, last, more, BreaksFirst, unfound, BreaksWords, at_first, behind}
use Rattle.analyze_words.specs.Worded.{name_of, row_of, slot_of, slots_of, words_of}

module _ (w : Words ℕ ℕ) where
  -- ---- the first recipe

  -- what its name and its words say
  pub first_read : (words rest after : List (List ℕ)) (r : ℕ) (groups : List (List (List ℕ))) → find w w.root words ≡ found r after → WordsGive (w.slots r) after groups rest → Invokes w words r groups rest
  first_read words rest after r groups e g = record { behind = after; end = g.end; named = e; taken = g.taken; complete = g.complete; grouped = g.grouped; left = g.left }

  pub words_break : (words after : List (List ℕ)) (r : ℕ) (rule : WordRule) → find w w.root words ≡ found r after → WordsBreak (w.name r) (w.slots r) after rule → BreaksFirst w words rule
  words_break words after r rule e (untaken u) = spec.untaken e u
  words_break words after r rule e (incomplete t c) = spec.incomplete e t c

  -- ---- all words

  -- whatever the words that are left invoke, all words invoke after what was read
  pub record IsReading (words : List (List ℕ)) (old now : List Invocation) (left : List (List ℕ)) : Type 0 where
    pub asked : IsAsked w words → IsAsked w left
    pub invoked : (new : List Invocation) → IsAsked w words → ReadsAll w left now new → ReadsAll w words old new
    pub broken : (rule : WordRule) → IsAsked w words → BreaksWords w left rule → BreaksWords w words rule

  pub reading_starts : (words : List (List ℕ)) (old : List Invocation) → IsReading words old old words
  reading_starts words old = record { asked = λ a. a; invoked = λ new a r. r; broken = λ rule a b. b }

  pub reading_more : (words : List (List ℕ)) (old now next : List Invocation) (left rest : List (List ℕ)) (text : List ℕ) → IsReading words old now left → ReadsOne w left now next (text ∷ rest) → IsReading words old next (text ∷ rest)
  reading_more words old now next left rest text h one = record {
    asked = λ a e. absurd (cc e);
    invoked = λ new a r. h.invoked new a (record {
      rows = (one.recipe, one.groups) ∷ r.rows;
      grown = r.grown ∙ ap (λ xs. xs ++ r.rows) one.grown ∙ append_assoc (map row_of now) ((one.recipe, one.groups) ∷ []) r.rows;
      invokes = more (h.asked a) one.invokes r.invokes;
    });
    broken = λ rule a b. h.broken rule a (behind (h.asked a) one.invokes b);
  }

  pub reading_ends : (words : List (List ℕ)) (old now next : List Invocation) (left : List (List ℕ)) → IsReading words old now left → ReadsOne w left now next [] → IsAsked w words → ReadsAll w words old next
  reading_ends words old now next left h one a = h.invoked next a (record { rows = (one.recipe, one.groups) ∷ []; grown = one.grown; invokes = last (h.asked a) one.invokes })

  pub reading_breaks : (words : List (List ℕ)) (old now : List Invocation) (left : List (List ℕ)) (fault : WordFault) → IsReading words old now left → IsAsked w words → IsRefusedBy (BreaksFirst w left) fault → IsRefusedBy (BreaksWords w words) fault
  reading_breaks words old now left fault h a b = λ some. let r = b some in (r.0, (r.1.0, h.broken r.0 a (at_first (h.asked a) r.1.1)))

  -- the same, by whether words are left
  pub reading_on : (words : List (List ℕ)) (old now next : List Invocation) (left rest : List (List ℕ)) → length rest ≢ 0 → IsReading words old now left → ReadsOne w left now next rest → IsReading words old next rest
  reading_on words old now next left [] some h one = absurd (some refl)
  reading_on words old now next left (text ∷ rest) some h one = reading_more words old now next left rest text h one

  pub reading_done : (words : List (List ℕ)) (old now next : List Invocation) (left rest : List (List ℕ)) → length rest ≡ 0 → IsReading words old now left → ReadsOne w left now next rest → IsAsked w words → ReadsAll w words old next
  reading_done words old now next left rest over h one a = reading_ends words old now next left h (subst (ReadsOne w left now next) (nil_from_length rest over) one) a

-- ---- by the menus

module _ (menus : Menus) (words after : List (List ℕ)) (r : ℕ) (callable : Callable) where
  by_menus : slice_get menus.recipes.items r ≡ Some callable → (words_of menus).slots r ≡ map slot_of callable.slots.items
  by_menus f = ap slots_of f

  pub reads_one : (old new : List Invocation) (invocation : Invocation) (rest : List (List ℕ)) → find (words_of menus) 0 words ≡ found r after → slice_get menus.recipes.items r ≡ Some callable → WordsGive (map slot_of callable.slots.items) after invocation.groups.items rest
      → invocation.recipe ≡ r → new ≡ old ++ invocation ∷ [] → ReadsOne (words_of menus) words old new rest
  reads_one old new invocation rest e f g same grown = record {
    recipe = r;
    groups = invocation.groups.items;
    grown = ap (map row_of) grown ∙ map_push row_of old invocation ∙ ap (λ n. map row_of old ++ (n, invocation.groups.items) ∷ []) same;
    invokes = first_read (words_of menus) words rest after r invocation.groups.items e (subst (λ slots. WordsGive slots after invocation.groups.items rest) (sym (by_menus f)) g);
  }

  pub breaks_first : (fault : WordFault) → find (words_of menus) 0 words ≡ found r after → slice_get menus.recipes.items r ≡ Some callable → IsRefusedBy (WordsBreak callable.name.now (map slot_of callable.slots.items) after) fault → IsRefusedBy (BreaksFirst (words_of menus) words) fault
  breaks_first fault e f b = λ some. let x = b some in (x.0, (x.1.0, words_break (words_of menus) words after r x.0 e (subst (λ o. WordsBreak (name_of o) (slots_of o) after x.0) (sym f) x.1.1)))

-- where words name no recipe
pub names_none : (menus : Menus) (words : List (List ℕ)) (fault : WordFault) → IsRefusedBy (λ rule. find (words_of menus) 0 words ≡ refused rule) fault → IsRefusedBy (BreaksFirst (words_of menus) words) fault
names_none menus words fault b = λ some. let x = b some in (x.0, (x.1.0, unfound x.1.1))

-- no words ask for the list
pub none_read : (w : Words ℕ ℕ) (words : List (List ℕ)) (list : List Invocation) → length words ≡ 0 → w.lists ≡ true → list ≡ [] → Invoke w words (map row_of list)
none_read w words list over lists none =
    subst (λ ws. Invoke w ws (map row_of list)) (sym (nil_from_length words over)) (subst (λ is. Invoke w [] (map row_of is)) (sym none) (listed lists))

-- all words are read from the start
pub all_read : (w : Words ℕ ℕ) (words : List (List ℕ)) (old new : List Invocation) → old ≡ [] → ReadsAll w words old new → Invoke w words (map row_of new)
all_read w words old new none r =
    subst (Invoke w words) (sym (r.grown ∙ ap (λ is. map row_of is ++ r.rows) none)) r.invokes
