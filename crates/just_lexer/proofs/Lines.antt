-- What `lines().next()` gives, and what stands after the last newline of a text.
use Rattle.std.proofs.Common.{◌≡◌, ◌≢◌, MatchOption, ℕ, ◌+◌, ◌-◌, ◌<◌, ◌≤◌, List, [], ◌∷◌, Option, Some, None, not, true, false, length, drop, get_or, ap, arith, Bor, cond, subst, sym, ◌∙◌}
use Rattle.std.specs.declared.str.Lines.{Lines}
use Rattle.std.specs.Char.{is_newline}
use Rattle.std.specs.Iterator.{AlwaysYields}
use Rattle.std.specs.List.{after_last, suffix_len}
use Rattle.std.specs.Option.{unwrap_or}
use Rattle.std.specs.Str.Iter.{lines_steps, lines_rest}
use Rattle.std.proofs.lemmas.Bool.Decides.{nat_tests}
use Rattle.std.proofs.lemmas.Iterator.Splits.{YieldsList-from_lines}
use Rattle.std.proofs.lemmas.List.Sums.{suffix_len_is}
use Rattle.std.proofs.lemmas.Str.Pattern.{starts_text}
use Rattle.std.specs.Str.{IsCharBoundary}
use Rattle.std.specs.Str.Pattern.{FindsTextPrefix, StripsPrefix}
use Rattle.just_lexer.specs.Excerpts.{byte_order_mark, behind_mark, first_or_empty, first_line}

first_of_lines : (s t : Lines) (ys : List (List ℕ)) (r : Option (Bor (List ℕ))) (d : Bor (List ℕ)) → AlwaysYields lines_steps (λ x. x.now) s ys → lines_steps s r t → d.now ≡ [] → (unwrap_or r d).now ≡ first_or_empty ys
first_of_lines s t [] None d yields step empty = empty
first_of_lines s t [] (Some x) d yields step empty = absurd (yields x t step)
first_of_lines s t (y ∷ ys) None d yields step empty = absurd (yields.0 t step)
first_of_lines s t (y ∷ ys) (Some x) d yields step empty = (yields.1 x t step).0

-- the first item of `lines`, or the empty text
pub first_line_is : (s t : Lines) (text : List ℕ) (r : Option (Bor (List ℕ))) (d : Bor (List ℕ)) → lines_rest s ≡ text → lines_steps s r t → d.now ≡ [] → (unwrap_or r d).now ≡ first_line text
first_line_is s t text r d rest step empty = first_of_lines s t _ r d (YieldsList-from_lines text rest).runs step empty

-- what follows the last newline
pub after_last_newline : (s : List ℕ) (k : ℕ) → k < length s → get_or s k 0 ≡ 10 → ((i : ℕ) → k < i → i < length s → get_or s i 0 ≢ 10) → after_last is_newline s ≡ drop (k + 1) s
after_last_newline s k within here behind =
    let other : (i : ℕ) → k + 1 ≤ i → i < length s → not (is_newline (get_or s i 0)) ≡ true = λ i low high. grind (arith, nat_tests, behind i (omega arith) high) in
    let stop : 0 < k + 1 → not (is_newline (get_or s (k + 1 - 1) 0)) ≡ false = λ _. grind (arith, nat_tests) in
    let many = suffix_len_is (λ b. not (is_newline b)) s (k + 1) 0 (omega arith) other stop in
    let at : length s - suffix_len (λ b. not (is_newline b)) s ≡ k + 1 = omega (arith, many) in
    ap (λ n. drop n s) at

pub after_no_newline : (s : List ℕ) → ((i : ℕ) → i < length s → get_or s i 0 ≢ 10) → after_last is_newline s ≡ s
after_no_newline s none =
    let other : (i : ℕ) → 0 ≤ i → i < length s → not (is_newline (get_or s i 0)) ≡ true = λ i low high. grind (arith, nat_tests, none i high) in
    let many = suffix_len_is (λ b. not (is_newline b)) s 0 0 (omega arith) other (λ h. absurd (omega (arith, h))) in
    let at : length s - suffix_len (λ b. not (is_newline b)) s ≡ 0 = omega (arith, many) in
    ap (λ n. drop n s) at

-- what `strip_prefix` gives, or the text itself
pub behind_mark_is : (s : List ℕ) (r : Option (Bor (List ℕ))) (d : Bor (List ℕ)) → MatchOption r (FindsTextPrefix byte_order_mark s None) (λ x. StripsPrefix (FindsTextPrefix byte_order_mark) s x.now) → d.now ≡ s → (unwrap_or r d).now ≡ behind_mark s
behind_mark_is s None d lacks same = same ∙ ap (λ b. cond b (drop (length byte_order_mark) s) s) (starts_text false byte_order_mark s lacks)
behind_mark_is s (Some x) d found same =
    let n = found.0 in
    let at : IsCharBoundary s n = subst (IsCharBoundary s) (sym found.1.0) found.1.2 in
    found.2 ∙ ap (λ k. drop k s) found.1.0 ∙ ap (λ b. cond b (drop (length byte_order_mark) s) s) (starts_text true byte_order_mark s (n, found.1, at))
