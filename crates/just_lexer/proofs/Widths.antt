-- A tab adds four columns to those of what stands before and after it.
use Rattle.std.proofs.Common.{◌≡◌, ℕ, ◌+◌, Bool, true, false, not, List, [], ◌∷◌, ◌++◌, length, refl, sym, ap, ◌∙◌, arith, nat_eq, cond, replicate, zero, suc, add-one, ◌<◌, Bor, Option, Some, None, get_or, subst, length-append}
use Rattle.std.specs.Int.{is_in_range}
use Rattle.std.specs.List.{list_all}
use Rattle.std.specs.Str.{chars, IsUtf8, NoCharPasses, NonePass}
use Rattle.std.proofs.lemmas.List.{length-replicate}
use Rattle.std.proofs.lemmas.Str.{chars_from_encodes, chars-append, chars_past_char, encode_ascii, IsCharBoundary-before_ascii, IsUtf8-take, IsUtf8-drop, IsUtf8-past_char}
use Rattle.std.proofs.lemmas.Str.Pattern.{IsSplitOnceResult, split_parts, drop_at_char}
use Rattle.std.proofs.lemmas.Grind.{flat_map-append}
use Rattle.unicode_width.specs.declared.state.State.{State}
use Rattle.unicode_width.specs.Width.{is_emoji_variation_base, plain, past_emoji, step, read_before, str_width, Reading}
use Rattle.unicode_width.proofs.Rules.{is_simple, str_width-append_simple, str_width-printable}
use Rattle.unicode_width.proofs.Computing.{unicode_width}
use Rattle.just_lexer.specs.Columns.{spaced, columns}

-- ---- spaces in the midst of a text

read_before-append : (xs ys : List ℕ) (r : Reading) → read_before false (xs ++ ys) r ≡ read_before false xs (read_before false ys r)
read_before-append [] ys r = refl
read_before-append (x ∷ xs) ys r = ap (step false x) (read_before-append xs ys r)

past-space : (t : ℕ) (s : State) → past_emoji false 32 t s ≡ (t + 1, plain)
unfolding past_emoji
past-space t s = refl

no_base : is_emoji_variation_base 32 ≡ false
unfolding unicode_width
no_base = refl

either_way : (b : Bool) (x y z : Reading) → x ≡ z → y ≡ z → cond b x y ≡ z
either_way true x y z p q = p
either_way false x y z p q = q

other_way : (b : Bool) (x y z : Reading) → b ≡ false → y ≡ z → cond b x y ≡ z
other_way b x y z h q = ap (λ v. cond v x y) h ∙ q

-- a space adds a column, whatever follows it
step-space : (t : ℕ) (s : State) → step false 32 (t, s) ≡ (t + 1, plain)
unfolding step
step-space t s = either_way (not s.emoji) _ _ _ (past-space t s) (other_way (is_emoji_variation_base 32) _ _ _ no_base (past-space t _))

read_before-spaces : (n : ℕ) → read_before false (replicate n 32) (0, plain) ≡ (n, plain)
read_before-spaces zero = refl
read_before-spaces (suc n) = ap (step false 32) (read_before-spaces n) ∙ step-space n plain ∙ ap (λ k. (k, plain)) (add-one n)

simple_spaces : (n : ℕ) → list_all is_simple (replicate n 32) ≡ true
simple_spaces zero = refl
simple_spaces (suc n) = simple_spaces n

printable_spaces : (n : ℕ) → list_all (is_in_range 0x20 0x7E) (replicate n 32) ≡ true
printable_spaces zero = refl
printable_spaces (suc n) = printable_spaces n

-- as many columns after a text are added to its own
read_before-behind : (xs : List ℕ) (n : ℕ) → (read_before false xs (n, plain)).0 ≡ str_width false xs + n
unfolding str_width
read_before-behind xs n =
    ap (λ r. (read_before false xs r).0) (sym (read_before-spaces n))
    ∙ ap (λ r. r.0) (sym (read_before-append xs (replicate n 32) (0, plain)))
    ∙ str_width-append_simple false xs (replicate n 32) (simple_spaces n)
    ∙ ap (λ k. str_width false xs + k) (str_width-printable false (replicate n 32) (printable_spaces n) ∙ length-replicate n 32)

four_spaces : (r : Reading) → read_before false (32 ∷ 32 ∷ 32 ∷ 32 ∷ []) r ≡ (4 + r.0, plain)
four_spaces (t, s) =
    ap (λ r. step false 32 (step false 32 (step false 32 r))) (step-space t s)
    ∙ ap (λ r. step false 32 (step false 32 r)) (step-space (t + 1) plain)
    ∙ ap (step false 32) (step-space (t + 1 + 1) plain) ∙ step-space (t + 1 + 1 + 1) plain
    ∙ (let e : t + 1 + 1 + 1 + 1 ≡ 4 + t = omega arith in ap (λ n. (n, plain)) e)

pub str_width-spaces : (xs ys : List ℕ) → str_width false (xs ++ (32 ∷ 32 ∷ 32 ∷ 32 ∷ ys)) ≡ str_width false xs + (4 + str_width false ys)
unfolding str_width
str_width-spaces xs ys =
    ap (λ r. r.0) (read_before-append xs (32 ∷ 32 ∷ 32 ∷ 32 ∷ ys) (0, plain))
    ∙ ap (λ r. (read_before false xs r).0) (four_spaces (read_before false ys (0, plain)))
    ∙ read_before-behind xs (4 + str_width false ys)

-- ---- a text without tabs, and one with a tab

spaced-none : (cs : List ℕ) → NonePass (λ d. nat_eq d 9) cs → spaced cs ≡ cs
spaced-none [] none = refl
spaced-none (c ∷ cs) none = ap (λ b. cond b (32 ∷ 32 ∷ 32 ∷ 32 ∷ []) (c ∷ []) ++ spaced cs) none.0 ∙ ap (λ more. c ∷ more) (spaced-none cs none.1)

spaced_chars : (xs : List ℕ) → IsUtf8 xs → NoCharPasses (λ d. nat_eq d 9) xs → spaced (chars xs) ≡ chars xs
spaced_chars xs text none =
    let same = chars_from_encodes none.0 xs text none.1 in
    ap spaced (sym same) ∙ spaced-none none.0 none.2 ∙ same

columns-tab : (xs ys : List ℕ) → IsUtf8 xs → NoCharPasses (λ d. nat_eq d 9) xs → IsUtf8 (9 ∷ ys) → columns (xs ++ (9 ∷ ys)) ≡ str_width false (chars xs) + (4 + columns ys)
columns-tab xs ys text none more =
    let cut : chars (xs ++ (9 ∷ ys)) ≡ chars xs ++ (9 ∷ chars ys) = chars-append xs (9 ∷ ys) text ∙ ap (λ cs. chars xs ++ cs) (chars_past_char (9 ∷ ys) ys 9 more (ap (λ b. b ++ ys) (sym (encode_ascii 9 (omega arith))))) in
    let both : spaced (chars xs ++ (9 ∷ chars ys)) ≡ chars xs ++ (32 ∷ 32 ∷ 32 ∷ 32 ∷ spaced (chars ys)) =
    flat_map-append _ (chars xs) (9 ∷ chars ys) ∙ ap (λ cs. cs ++ (32 ∷ 32 ∷ 32 ∷ 32 ∷ spaced (chars ys))) (spaced_chars xs text none)
    in
    ap (λ cs. str_width false (spaced cs)) cut ∙ ap (str_width false) both ∙ str_width-spaces (chars xs) (spaced (chars ys))

-- what `split_once` at a tab gives: two texts, the columns of both, and their lengths
pub columns-split : (rest : List ℕ) (x y : Bor (List ℕ)) → IsUtf8 rest → IsSplitOnceResult 9 rest (Some (x, y))
    → IsUtf8 y.now × (columns rest ≡ str_width false (chars x.now) + (4 + columns y.now)) × (length rest ≡ length x.now + 1 + length y.now)
columns-split rest x y text cut =
    let parts = split_parts 9 rest (Some (x, y)) cut (omega arith) in
    let i = cut.0 in
    let sizes : length rest ≡ length x.now + 1 + length y.now = omega (arith, ap length parts.0 ∙ length-append x.now (9 ∷ y.now)) in
    let within : i < length rest = omega (arith, cut.6, sizes) in
    let here : get_or rest i 0 ≡ 9 = cut.2.1.byte (omega arith) in
    let at = IsCharBoundary-before_ascii rest i within (omega (arith, here)) in
    let front : IsUtf8 x.now = subst IsUtf8 (sym cut.3) (IsUtf8-take rest i text at) in
    let tab : IsUtf8 (9 ∷ y.now) = subst IsUtf8 (drop_at_char 9 rest i cut.1 cut.2.1 (omega arith) ∙ ap (λ bs. 9 ∷ bs) (sym cut.4)) (IsUtf8-drop rest i text at) in
    let back : IsUtf8 y.now = IsUtf8-past_char (9 ∷ y.now) y.now 9 tab (ap (λ b. b ++ y.now) (sym (encode_ascii 9 (omega arith)))) in
    let none : NoCharPasses (λ d. nat_eq d 9) x.now = subst (NoCharPasses (λ d. nat_eq d 9)) (sym cut.3) cut.2.0 in
    (back, ap columns parts.0 ∙ columns-tab x.now y.now front none tab, sizes)

-- where `split_once` at a tab gives nothing, there is none
pub columns-unsplit : (rest : List ℕ) (r : Option (Bor (List ℕ) × Bor (List ℕ))) → IsUtf8 rest → IsSplitOnceResult 9 rest r → ((x : Bor (List ℕ) × Bor (List ℕ)) → r ≡ Some x → ⊥) → columns rest ≡ str_width false (chars rest)
columns-unsplit rest None text cut never = ap (str_width false) (spaced_chars rest text cut)
columns-unsplit rest (Some x) text cut never = absurd (never x refl)
