-- The parts of a text between marks, by the matches that are found.
use Rattle.std.proofs.Common.{ℕ, zero, suc, List, [], ◌∷◌, ◌++◌, ◌≡◌, ◌<◌, ◌≤◌, ◌-◌, ◌==◌, Bool, true, false, cond, length, take, drop, Option, Some, None, MatchOption, refl, arith, sym, ap, subst, ◌∙◌, append_assoc, Bor}
use Rattle.std.proofs.lemmas.Bool.{true≢false}
use Rattle.std.proofs.lemmas.Bool.Decides.{Decides-eqb}
use Rattle.std.proofs.lemmas.Slice.Eq.{starts_is}
use Rattle.std.proofs.lemmas.Str.Pattern.{starts_text}
use Rattle.std.specs.Str.Iter.{split_steps, split_pattern, split_text, split_has_more}
use Rattle.std.specs.Str.Pattern.{FindsText, LacksTextAt}
use Rattle.std.specs.declared.str.Split.{Split}
use Rattle.tree_expressions.specs.Cutting.{begins}
use Rattle.evaluate_functions.specs.Functions.{between, onto_first}

pub begins_front : (mark rest : List ℕ) → begins (mark ++ rest) mark ≡ true
begins_front mark rest = (starts_is Decides-eqb (mark ++ rest) mark _ refl).1 rest refl

pub lacks_front : (mark text : List ℕ) → LacksTextAt mark text 0 → begins text mark ≡ false
lacks_front mark text lacks = sym (starts_text false mark text lacks)

-- the bytes of a mark that is read already
past_mark : (mark front rest : List ℕ) → between mark (length front) (front ++ rest) ≡ between mark 0 rest
past_mark mark [] rest = refl
past_mark mark (b ∷ front) rest = past_mark mark front rest

at_mark : (b : ℕ) (bs rest : List ℕ) → between (b ∷ bs) 0 ((b ∷ bs) ++ rest) ≡ [] ∷ between (b ∷ bs) 0 rest
at_mark b bs rest =
    let one : length (b ∷ bs) - 1 ≡ length bs = omega arith in
    ap (λ t. cond t ([] ∷ between (b ∷ bs) (length (b ∷ bs) - 1) (bs ++ rest)) (onto_first b (between (b ∷ bs) 0 (bs ++ rest)))) (begins_front (b ∷ bs) rest)
    ∙ ap (λ n. [] ∷ between (b ∷ bs) n (bs ++ rest)) one ∙ ap (λ parts. [] ∷ parts) (past_mark (b ∷ bs) bs rest)

no_mark : (b : ℕ) (bs : List ℕ) (c : ℕ) (text : List ℕ) → LacksTextAt (b ∷ bs) (c ∷ text) 0 → between (b ∷ bs) 0 (c ∷ text) ≡ onto_first c (between (b ∷ bs) 0 text)
no_mark b bs c text lacks =
    ap (λ t. cond t ([] ∷ between (b ∷ bs) (length (b ∷ bs) - 1) text) (onto_first c (between (b ∷ bs) 0 text))) (lacks_front (b ∷ bs) (c ∷ text) lacks)

pub no_match : (b : ℕ) (bs text : List ℕ) → ((i : ℕ) → i ≤ length text → LacksTextAt (b ∷ bs) text i) → between (b ∷ bs) 0 text ≡ text ∷ []
no_match b bs [] lacks = refl
no_match b bs (c ∷ text) lacks =
    no_mark b bs c text (lacks 0 (omega arith)) ∙ ap (onto_first c) (no_match b bs text (λ i l. lacks (suc i) (omega (arith, l))))

pub first_match : (b : ℕ) (bs text rest : List ℕ) (i : ℕ) → ((k : ℕ) → k < i → LacksTextAt (b ∷ bs) text k) → drop i text ≡ (b ∷ bs) ++ rest
    → between (b ∷ bs) 0 text ≡ take i text ∷ between (b ∷ bs) 0 rest
first_match b bs text rest zero lacks e = ap (between (b ∷ bs) 0) e ∙ at_mark b bs rest
first_match b bs [] rest (suc i) lacks e = absurd (omega (arith, ap length e))
first_match b bs (c ∷ text) rest (suc i) lacks e =
    no_mark b bs c text (lacks 0 (omega arith)) ∙ ap (onto_first c) (first_match b bs text rest i (λ k l. lacks (suc k) (omega (arith, l))) e)

part_first : (b : ℕ) (bs text part rest : List ℕ) (live : Bool) (o : Option (ℕ × ℕ)) → FindsText (b ∷ bs) text o → MatchOption o ((part ≡ text) × (live ≡ false)) (λ q. 0 < q.1 → (part ≡ take q.0 text) × (live ≡ true) × (rest ≡ drop q.1 text))
    → between (b ∷ bs) 0 text ≡ part ∷ cond live (between (b ∷ bs) 0 rest) []
part_first b bs text part rest live None found (same, ended) =
    no_match b bs text found ∙ ap (λ p. p ∷ []) (sym same) ∙ ap (λ t. part ∷ cond t (between (b ∷ bs) 0 rest) []) (sym ended)
part_first b bs text part rest live (Some q) (none, at) cut =
    let is = cut (omega (arith, at.ends)) in
    first_match b bs text (drop q.1 text) q.0 none at.split
    ∙ ap (λ p. p ∷ between (b ∷ bs) 0 (drop q.1 text)) (sym is.0) ∙ ap (λ l. part ∷ between (b ∷ bs) 0 l) (sym is.2) ∙ ap (λ t. part ∷ cond t (between (b ∷ bs) 0 rest) []) (sym is.1)

-- one more part of an iterator, and then those of what is left
pub parts_step : (mark : List ℕ) (s t : Split (Bor (List ℕ))) (part : Bor (List ℕ)) (value all : List (List ℕ)) → (length mark == 0) ≡ false → (split_pattern s).now ≡ mark
    → split_steps (λ n. FindsText n.now) (λ n m. m.now ≡ n.now) s (Some part) t → value ++ cond (split_has_more s) (between mark 0 (split_text s)) [] ≡ all
    → ((split_pattern t).now ≡ mark) × ((value ++ part.now ∷ []) ++ cond (split_has_more t) (between mark 0 (split_text t)) [] ≡ all)
parts_step [] s t part value all some pattern step e = absurd (true≢false some)
parts_step (b ∷ bs) s t part value all some pattern (more, (kept, (len, (o, found, cut))), goes) e =
    let first = part_first b bs (split_text s) part.now (split_text t) (split_has_more t) o (subst (λ m. FindsText m (split_text s) o) pattern found) cut in (
      kept ∙ pattern,
      append_assoc value (part.now ∷ []) _ ∙ ap (λ parts. value ++ parts) (sym first) ∙ ap (λ t. value ++ cond t (between (b ∷ bs) 0 (split_text s)) []) more ∙ e,
    )
