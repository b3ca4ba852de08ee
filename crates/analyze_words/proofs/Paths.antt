-- Paths of words, part by part.
use Rattle.std.proofs.Common.{◌≡◌, ℕ, zero, suc, ◌<◌, ◌≤◌, true, false, ◌&&◌, ◌||◌, cond, ltb, map, eqb, eqb-true, List, [], ◌∷◌, ◌++◌, take, drop, length, Option, Some, None, refl, sym, ap, ◌∙◌, arith}
use Rattle.std.specs.Prelude.{codes}
use Rattle.std.specs.List.{onto_first, list_any, slice_get}
use Rattle.std.specs.Option.{option_and_then}
use Rattle.std.specs.Str.Pattern.{LacksTextAt}
use Rattle.std.proofs.lemmas.Bool.{and_parts, both_ways, cond-true, cond-false, lt-ltb, le-ltb}
use Rattle.std.proofs.lemmas.Option.{same_Some, slice_get_within}
use Rattle.analyze_words.specs.declared.menu.Callable.{Callable}
use Rattle.analyze_words.specs.declared.menu.Menus.{Menus}
use Rattle.analyze_words.specs.declared.menu.Slot as menu
use Rattle.analyze_words.specs.Menus.{default_in}
use Rattle.modules_compilation.specs.Modulepaths.{pieces}
use Rattle.meaning_runs.specs.Words.{Words, WordMeaning, recipe, submodule}
use Rattle.meaning_runs.specs.Invokes.{WordRule, Followed, means, lost, follow, found, refused, no_recipes, default_needs_arguments, default_of, find}
use Rattle.analyze_words.specs.Broken.{PathBreaks}
use Rattle.analyze_words.specs.Worded.{inner_of, name_of, slot_of, slots_of, there, words_of}
use Rattle.analyze_words.proofs.Groups.{by_test, ltb_suc}

-- ---- a text cut at `::`

apart : (b c : ℕ) (bs : List ℕ) → LacksTextAt (codes "::") (b ∷ c ∷ bs) 0 → (eqb b 58 && eqb c 58) ≡ false
apart b c bs lacks = by_test (eqb b 58 && eqb c 58) (λ e.
    let both = and_parts (eqb b 58) (eqb c 58) e in
    absurd (lacks bs (λ k. eqb-true b 58 both.0 k ∷ eqb-true c 58 both.1 k ∷ bs))) (λ e. e)

pub pieces_lacks : (bs : List ℕ) → ((i : ℕ) → i ≤ length bs → LacksTextAt (codes "::") bs i) → pieces bs ≡ bs ∷ []
pieces_lacks [] lacks = refl
pieces_lacks (b ∷ []) lacks = refl
pieces_lacks (b ∷ c ∷ bs) lacks = rw (apart b c bs (lacks 0 (omega arith))) (ap (onto_first b) (pieces_lacks (c ∷ bs) (λ i h. lacks (suc i) (omega (arith, h)))))

pieces_at : (bs : List ℕ) (i : ℕ) (after : List ℕ) → ((k : ℕ) → k < i → LacksTextAt (codes "::") bs k) → drop i bs ≡ codes "::" ++ after → pieces bs ≡ take i bs ∷ pieces after
pieces_at bs zero after lacks e = ap pieces e
pieces_at [] (suc i) after lacks e = absurd (cc e)
pieces_at (b ∷ []) (suc zero) after lacks e = absurd (cc e)
pieces_at (b ∷ []) (suc (suc i)) after lacks e = absurd (cc e)
pieces_at (b ∷ c ∷ bs) (suc i) after lacks e = rw (apart b c bs (lacks 0 (omega arith))) (ap (onto_first b) (pieces_at (c ∷ bs) i after (λ k h. lacks (suc k) (omega (arith, h))) e))

-- the first piece, and those after its `::`
pub first_piece : (path name others : List ℕ) (i j : ℕ) → ((k : ℕ) → k < i → LacksTextAt (codes "::") path k) → drop i path ≡ codes "::" ++ drop j path → name ≡ take i path → others ≡ drop j path
    → pieces path ≡ name ∷ pieces others
first_piece path name others i j lacks split front back = pieces_at path i (drop j path) lacks split ∙ (λ k. sym front k ∷ pieces (sym back k))

some_piece : (bs : List ℕ) → (part : List ℕ) × ((parts : List (List ℕ)) × (pieces bs ≡ part ∷ parts))
some_piece [] = ([], ([], refl))
some_piece (b ∷ []) = (b ∷ [], ([], refl))
some_piece (b ∷ c ∷ bs) = by_test (eqb b 58 && eqb c 58) (λ e. ([], (pieces bs, rw e refl)))
    (λ e. let rest = some_piece (c ∷ bs) in (b ∷ rest.0, (rest.1.0, rw e (ap (onto_first b) rest.1.1))))

-- ---- what a path means

inner_is : (o : Option (WordMeaning ℕ ℕ)) (inner : ℕ) → option_and_then inner_of o ≡ Some inner → o ≡ Some (submodule inner)
inner_is None inner e = absurd (cc e)
inner_is (Some (recipe r)) inner e = absurd (cc e)
inner_is (Some (submodule m)) inner e = ap (λ x. Some (submodule x)) (same_Some m inner e)

module _ (w : Words ℕ ℕ) where
  pub follow_inner : (here inner : ℕ) (path name others : List ℕ) → pieces path ≡ name ∷ pieces others → option_and_then inner_of (w.meaning here name) ≡ Some inner → follow w here (pieces path) ≡ follow w inner (pieces others)
  follow_inner here inner path name others e f =
      let some = some_piece others in
      ap (follow w here) (e ∙ ap (λ ps. name ∷ ps) some.1.1) ∙ rw (inner_is (w.meaning here name) inner f) refl ∙ ap (follow w inner) (sym some.1.1)

  pub follow_lost : (here : ℕ) (path name others : List ℕ) → pieces path ≡ name ∷ pieces others → option_and_then inner_of (w.meaning here name) ≡ None → follow w here (pieces path) ≡ lost
  follow_lost here path name others e f =
      let some = some_piece others in
      ap (follow w here) (e ∙ ap (λ ps. name ∷ ps) some.1.1) ∙ outside (w.meaning here name) refl f
    where
      outside : (o : Option (WordMeaning ℕ ℕ)) → w.meaning here name ≡ o → option_and_then inner_of o ≡ None → follow w here (name ∷ (some_piece others).0 ∷ (some_piece others).1.0) ≡ lost
      outside None g h = rw g refl
      outside (Some (recipe r)) g h = rw g refl
      outside (Some (submodule m)) g h = absurd (cc h)

  pub follow_last : (here : ℕ) (path : List ℕ) → pieces path ≡ path ∷ [] → follow w here (pieces path) ≡ means (w.meaning here path)
  follow_last here path e = ap (follow w here) e

  -- ---- the recipe that words name

  pub find_recipe : (here r : ℕ) (text : List ℕ) (words : List (List ℕ)) → follow w here (pieces text) ≡ means (Some (recipe r)) → find w here (text ∷ words) ≡ found r words
  find_recipe here r text words e = rw e refl

  pub find_inner : (here inner : ℕ) (text : List ℕ) (words : List (List ℕ)) → follow w here (pieces text) ≡ means (Some (submodule inner)) → find w here (text ∷ words) ≡ find w inner words
  find_inner here inner text words e = rw e refl

  pub find_broken : (here : ℕ) (text : List ℕ) (words : List (List ℕ)) (rule : WordRule) → PathBreaks text (follow w here (pieces text)) rule → find w here (text ∷ words) ≡ refused rule
  find_broken here text words rule b = cases (follow w here (pieces text)) refl b
    where
      cases : (f : Followed ℕ ℕ) → follow w here (pieces text) ≡ f → PathBreaks text f rule → find w here (text ∷ words) ≡ refused rule
      cases lost e r = rw e (ap refused (sym r))
      cases (means None) e r = rw e (ap refused (sym r))
      cases (means (Some meaning)) e r = absurd r

-- ---- the recipe that runs where none is named

any_map : (slots : List menu.Slot) → list_any (λ slot. slot.required) slots ≡ list_any (λ slot. slot.required) (map slot_of slots)
any_map [] = refl
any_map (slot ∷ slots) = ap (λ b. slot.required || b) (any_map slots)

none_past : {A : Type 0} (xs : List A) (k : ℕ) → slice_get xs k ≡ None → ltb k (length xs) ≡ false
none_past [] k e = le-ltb k 0 (omega arith)
none_past (x ∷ xs) zero e = absurd (cc e)
none_past (x ∷ xs) (suc k) e = ltb_suc k (length xs) ∙ none_past xs k e

-- a place that is there has an element
pub is_there : {A : Type 0} (xs : List A) (k : ℕ) → k < length xs → slice_get xs k ≡ None → ⊥
is_there xs k l e = both_ways (ltb k (length xs)) (none_past xs k e) (lt-ltb k (length xs) l)

module _ (menus : Menus) (place : ℕ) where
  pub no_default : default_in menus place ≡ None → default_of (words_of menus) ((words_of menus).default place) ≡ refused no_recipes
  no_default e = ap (λ o. default_of (words_of menus) (option_and_then (there menus) o)) e

  pub lost_default : (r : ℕ) → default_in menus place ≡ Some r → slice_get menus.recipes.items r ≡ None → default_of (words_of menus) ((words_of menus).default place) ≡ refused no_recipes
  lost_default r e f =
      ap (λ o. default_of (words_of menus) (option_and_then (there menus) o)) e ∙ ap (default_of (words_of menus)) (cond-false (ltb r (length menus.recipes.items)) (Some r) None (none_past menus.recipes.items r f))

  default_here : (r : ℕ) (callable : Callable) → default_in menus place ≡ Some r → slice_get menus.recipes.items r ≡ Some callable
      → default_of (words_of menus) ((words_of menus).default place) ≡ cond (list_any (λ slot. slot.required) callable.slots.items) (refused (default_needs_arguments callable.name.now)) (found r [])
  default_here r callable e f =
      ap (λ o. default_of (words_of menus) (option_and_then (there menus) o)) e
      ∙ ap (default_of (words_of menus)) (cond-true (ltb r (length menus.recipes.items)) (Some r) None (lt-ltb r (length menus.recipes.items) (slice_get_within menus.recipes.items r callable f)))
      ∙ ap (λ o. cond (list_any (λ slot. slot.required) (slots_of o)) (refused (default_needs_arguments (name_of o))) (found r [])) f
      ∙ ap (λ b. cond b (refused (default_needs_arguments callable.name.now)) (found r [])) (sym (any_map callable.slots.items))

  pub default_needs : (r : ℕ) (callable : Callable) → default_in menus place ≡ Some r → slice_get menus.recipes.items r ≡ Some callable → list_any (λ slot. slot.required) callable.slots.items ≡ true
      → default_of (words_of menus) ((words_of menus).default place) ≡ refused (default_needs_arguments callable.name.now)
  default_needs r callable e f b = default_here r callable e f ∙ cond-true (list_any (λ slot. slot.required) callable.slots.items) _ _ b

  pub default_found : (r : ℕ) (callable : Callable) → default_in menus place ≡ Some r → slice_get menus.recipes.items r ≡ Some callable → list_any (λ slot. slot.required) callable.slots.items ≡ false
      → default_of (words_of menus) ((words_of menus).default place) ≡ found r []
  default_found r callable e f b = default_here r callable e f ∙ cond-false (list_any (λ slot. slot.required) callable.slots.items) _ _ b
