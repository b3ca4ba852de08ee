-- Words cut at `::`, and texts that are names.
use Rattle.std.proofs.Common.{◌≡◌, ℕ, suc, zero, ◌<◌, ◌≤◌, Bool, true, false, ◌&&◌, cond, eqb, eqb-true, List, [], ◌∷◌, ◌++◌, take, drop, length, get_or, Some, None, refl, sym, ap, ◌∙◌, arith, append_assoc}
use Rattle.std.specs.Prelude.{codes}
use Rattle.std.specs.Borrow.{Bor}
use Rattle.std.specs.List.{list_all, onto_first}
use Rattle.std.specs.Str.Pattern.{LacksTextAt}
use Rattle.std.proofs.lemmas.List.Folds.{list_all-append, list_all-map, list_all_at}
use Rattle.modules_compilation.specs.Modulepaths.{is_name, names, pieces, path_of_word}
use Rattle.modules_compilation.specs.Tables.{texts}

by_test : {G : Type 0} (b : Bool) → (b ≡ true → G) → (b ≡ false → G) → G
by_test true holds fails = holds refl
by_test false holds fails = fails refl

both_colons : (a b : Bool) → (a && b) ≡ true → (a ≡ true) × (b ≡ true)
both_colons true b e = (refl, e)
both_colons false b e = absurd (cc e)

apart : (b c : ℕ) (bs : List ℕ) → LacksTextAt (codes "::") (b ∷ c ∷ bs) 0 → (eqb b 58 && eqb c 58) ≡ false
apart b c bs lacks = by_test (eqb b 58 && eqb c 58) (λ e.
    let both = both_colons (eqb b 58) (eqb c 58) e in
    absurd (lacks bs (rw (eqb-true b 58 both.0, eqb-true c 58 both.1) refl))) (λ e. e)

pieces_lacks : (bs : List ℕ) → ((i : ℕ) → i ≤ length bs → LacksTextAt (codes "::") bs i) → pieces bs ≡ bs ∷ []
pieces_lacks [] lacks = refl
pieces_lacks (b ∷ []) lacks = refl
pieces_lacks (b ∷ c ∷ bs) lacks = rw (apart b c bs (lacks 0 (omega arith))) (ap (onto_first b) (pieces_lacks (c ∷ bs) (λ i h. lacks (suc i) (omega (arith, h)))))

pieces_at : (bs : List ℕ) (i : ℕ) (after : List ℕ) → ((k : ℕ) → k < i → LacksTextAt (codes "::") bs k) → drop i bs ≡ codes "::" ++ after → pieces bs ≡ take i bs ∷ pieces after
pieces_at bs zero after lacks e = ap pieces e
pieces_at [] (suc i) after lacks e = absurd (cc e)
pieces_at (b ∷ []) (suc zero) after lacks e = absurd (cc e)
pieces_at (b ∷ []) (suc (suc i)) after lacks e = absurd (cc e)
pieces_at (b ∷ c ∷ bs) (suc i) after lacks e = rw (apart b c bs (lacks 0 (omega arith))) (ap (onto_first b) (pieces_at (c ∷ bs) i after (λ k h. lacks (suc k) (omega (arith, h))) e))

-- the first piece, and those after its `::`
first_piece : (rest name others : List ℕ) (i j : ℕ) → ((k : ℕ) → k < i → LacksTextAt (codes "::") rest k) → drop i rest ≡ codes "::" ++ drop j rest → name ≡ take i rest → others ≡ drop j rest
    → pieces rest ≡ name ∷ pieces others
first_piece rest name others i j lacks split front back = rw (front, back) (pieces_at rest i (drop j rest) lacks split)

one_more : (found : List (List ℕ)) (name : List ℕ) → list_all is_name found ≡ true → is_name name ≡ true → list_all is_name (found ++ name ∷ []) ≡ true
one_more found name all is = list_all-append is_name found (name ∷ []) ∙ rw (all, is) refl

named : (texts : List (List ℕ)) → list_all is_name texts ≡ true → names texts ≡ Some texts
named texts all = rw all refl

unnamed : (found : List (List ℕ)) (name : List ℕ) (others : List (List ℕ)) → list_all is_name found ≡ true → is_name name ≡ false → names (found ++ name ∷ others) ≡ None
unnamed found name others all is = rw (list_all-append is_name found (name ∷ others), all, is) refl

-- the pieces so far are names, and those of the rest are left
pub record IsCutSoFar (word : List ℕ) (found : List (List ℕ)) (rest : List ℕ) : Type 0 where
  pub pieces_are : pieces word ≡ found ++ pieces rest
  pub names_are : list_all is_name found ≡ true

pub cut_on : (word : List ℕ) (found : List (List ℕ)) (rest name others : List ℕ) (i j : ℕ) → ((k : ℕ) → k < i → LacksTextAt (codes "::") rest k) → drop i rest ≡ codes "::" ++ drop j rest
    → name ≡ take i rest → others ≡ drop j rest → IsCutSoFar word found rest → is_name name ≡ true → IsCutSoFar word (found ++ name ∷ []) others
cut_on word found rest name others i j lacks split front back so is = record {
  pieces_are = so.pieces_are ∙ ap (λ ps. found ++ ps) (first_piece rest name others i j lacks split front back) ∙ sym (append_assoc found (name ∷ []) (pieces others));
  names_are = one_more found name so.names_are is;
}

pub cut_off : (word : List ℕ) (found : List (List ℕ)) (rest name others : List ℕ) (i j : ℕ) → ((k : ℕ) → k < i → LacksTextAt (codes "::") rest k) → drop i rest ≡ codes "::" ++ drop j rest
    → name ≡ take i rest → others ≡ drop j rest → IsCutSoFar word found rest → is_name name ≡ false → path_of_word word ≡ None
unfolding path_of_word
cut_off word found rest name others i j lacks split front back so is =
    ap names (so.pieces_are ∙ ap (λ ps. found ++ ps) (first_piece rest name others i j lacks split front back)) ∙ unnamed found name (pieces others) so.names_are is

pub cut_whole : (word : List ℕ) (found : List (List ℕ)) (rest : List ℕ) → ((i : ℕ) → i ≤ length rest → LacksTextAt (codes "::") rest i) → IsCutSoFar word found rest → is_name rest ≡ true
    → path_of_word word ≡ Some (found ++ rest ∷ [])
unfolding path_of_word
cut_whole word found rest lacks so is =
    ap names (so.pieces_are ∙ ap (λ ps. found ++ ps) (pieces_lacks rest lacks)) ∙ named (found ++ rest ∷ []) (one_more found rest so.names_are is)

pub cut_short : (word : List ℕ) (found : List (List ℕ)) (rest : List ℕ) → ((i : ℕ) → i ≤ length rest → LacksTextAt (codes "::") rest i) → IsCutSoFar word found rest → is_name rest ≡ false
    → path_of_word word ≡ None
unfolding path_of_word
cut_short word found rest lacks so is = ap names (so.pieces_are ∙ ap (λ ps. found ++ ps) (pieces_lacks rest lacks)) ∙ unnamed found rest [] so.names_are is

-- a word that is no name
pub no_names : (words : List (Bor (List ℕ))) (i : ℕ) (d : Bor (List ℕ)) → i < length words → is_name (get_or words i d).now ≡ false → names (texts words) ≡ None
no_names words i d lt is =
    ap (λ b. cond b (Some (texts words)) None) (list_all-map is_name (λ (w : Bor (List ℕ)). w.now) words ∙ list_all_at (λ (w : Bor (List ℕ)). is_name w.now) words i d lt is)
