-- What a first line `#!` names.
use Rattle.std.proofs.Common.{◌≡◌, ◌≢◌, ℕ, List, [], ◌∷◌, ◌++◌, Bool, true, false, ◌&&◌, length, drop, take, append_assoc, Some, None, refl, sym, ap, ◌∙◌, subst, codes}
use Rattle.std.specs.Char.{is_whitespace, encode_utf8}
use Rattle.std.specs.Str.{IsUtf8, NonePass, all_scalars, chars, encode_utf8_all, skip_leading_whitespace, trim, trim_end, trim_start}
use Rattle.std.specs.Str.Pattern.{FindsBy, LacksTextAt}
use Rattle.std.proofs.lemmas.List.{take-append-drop}
use Rattle.std.proofs.lemmas.Str.{chars-encodes, chars_from_encodes, cons_from_encodes}
use Rattle.meaning_evaluation.specs.Bodies.{front, rear, with_rest}
use Rattle.laws_evaluation.specs.Bodies.Marked.{BeginsShebang}

-- ---- the first word

front_none : (cs : List ℕ) → NonePass is_whitespace cs → front cs ≡ cs
front_none [] h = refl
front_none (c ∷ cs) h = rw h.0 (ap (λ l. c ∷ l) (front_none cs h.1))

rear_none : (cs : List ℕ) → NonePass is_whitespace cs → rear cs ≡ []
rear_none [] h = refl
rear_none (c ∷ cs) h = rw h.0 (rear_none cs h.1)

front_cut : (cs : List ℕ) (c : ℕ) (ds : List ℕ) → NonePass is_whitespace cs → is_whitespace c ≡ true → front (cs ++ c ∷ ds) ≡ cs
front_cut [] c ds h e = rw e refl
front_cut (x ∷ cs) c ds h e = rw h.0 (ap (λ l. x ∷ l) (front_cut cs c ds h.1 e))

rear_cut : (cs : List ℕ) (c : ℕ) (ds : List ℕ) → NonePass is_whitespace cs → is_whitespace c ≡ true → rear (cs ++ c ∷ ds) ≡ c ∷ ds
rear_cut [] c ds h e = rw e refl
rear_cut (x ∷ cs) c ds h e = rw h.0 (rear_cut cs c ds h.1 e)

-- white space at the front makes no difference to what is trimmed
trim_after : (c : ℕ) (cs : List ℕ) → all_scalars (c ∷ cs) ≡ true → all_scalars cs ≡ true → is_whitespace c ≡ true → trim (encode_utf8_all (c ∷ cs)) ≡ trim (encode_utf8_all cs)
unfolding trim_start
trim_after c cs all some e =
    let one : skip_leading_whitespace (c ∷ cs) ≡ skip_leading_whitespace cs = rw e refl in
    ap trim_end (ap encode_utf8_all (ap skip_leading_whitespace (chars-encodes (c ∷ cs) all) ∙ one ∙ ap skip_leading_whitespace (sym (chars-encodes cs some))))

second : (a b : Bool) → a && b ≡ true → b ≡ true
second true b e = e
second false b e = absurd (cc)

scalars_after : (cs ds : List ℕ) → all_scalars (cs ++ ds) ≡ true → all_scalars ds ≡ true
scalars_after [] ds e = e
scalars_after (c ∷ cs) ds e = scalars_after cs ds (second _ (all_scalars (cs ++ ds)) e)

-- what is spelled begins with these characters
peeled : (cs us rest : List ℕ) → encode_utf8_all us ≡ encode_utf8_all cs ++ rest → (es : List ℕ) × (us ≡ cs ++ es) × (encode_utf8_all es ≡ rest)
peeled [] us rest e = (us, refl, e)
peeled (c ∷ cs) us rest e =
    let h = cons_from_encodes us (encode_utf8_all cs ++ rest) c (e ∙ append_assoc (encode_utf8 c) (encode_utf8_all cs) rest) in
    let k = peeled cs h.0 rest h.2 in
    (k.0, h.1 ∙ ap (λ l. c ∷ l) k.1, k.2)

-- the characters of a text that is cut at one of them
record CutAt (s : List ℕ) (i j : ℕ) : Type 0 where
  before : List ℕ
  at : ℕ
  after : List ℕ
  are : chars s ≡ before ++ at ∷ after
  none : NonePass is_whitespace before
  white : is_whitespace at ≡ true
  scalar : all_scalars (at ∷ after) ≡ true
  front_is : encode_utf8_all before ≡ take i s
  rear_is : encode_utf8_all after ≡ drop j s

cut_at : (s : List ℕ) (i j : ℕ) → IsUtf8 s → FindsBy is_whitespace s (Some (i, j)) → CutAt s i j
cut_at s i j u f =
    let cs = f.0.0 in
    let c = f.1.0 in
    let whole : encode_utf8_all u.0 ≡ encode_utf8_all cs ++ (encode_utf8 c ++ drop j s) = u.1.1 ∙ sym (take-append-drop i s) ∙ ap (λ l. l ++ drop i s) (sym f.0.1) ∙ ap (λ l. encode_utf8_all cs ++ l) f.1.2.split in
    let h = peeled cs u.0 (encode_utf8 c ++ drop j s) whole in
    let k = cons_from_encodes h.0 (drop j s) c h.2 in
    let parts : u.0 ≡ cs ++ c ∷ k.0 = h.1 ∙ ap (λ l. cs ++ l) k.1 in
    record {
      before = cs;
      at = c;
      after = k.0;
      are = ap chars (sym u.1.1) ∙ chars-encodes u.0 u.1.0 ∙ parts;
      none = f.0.2;
      white = f.1.1;
      scalar = scalars_after cs (c ∷ k.0) (subst (λ l. all_scalars l ≡ true) parts u.1.0);
      front_is = f.0.1;
      rear_is = k.2;
    }

-- the first word, and what stands after it, where there is white space
pub front_found : (s front_ : List ℕ) (i j : ℕ) → IsUtf8 s → FindsBy is_whitespace s (Some (i, j)) → front_ ≡ take i s → front_ ≡ encode_utf8_all (front (chars s))
front_found s front_ i j u f e =
    let h = cut_at s i j u f in
    e ∙ sym h.front_is ∙ ap encode_utf8_all (sym (front_cut h.before h.at h.after h.none h.white)) ∙ ap (λ l. encode_utf8_all (front l)) (sym h.are)

pub rear_found : (s rear_ : List ℕ) (i j : ℕ) → IsUtf8 s → FindsBy is_whitespace s (Some (i, j)) → rear_ ≡ drop j s → trim rear_ ≡ trim (encode_utf8_all (rear (chars s)))
rear_found s rear_ i j u f e =
    let h = cut_at s i j u f in
    ap trim (e ∙ sym h.rear_is) ∙ sym (trim_after h.at h.after h.scalar (second _ (all_scalars h.after) h.scalar) h.white)
    ∙ ap (λ l. trim (encode_utf8_all l)) (sym (rear_cut h.before h.at h.after h.none h.white)) ∙ ap (λ l. trim (encode_utf8_all (rear l))) (sym h.are)

-- and where there is none
pub front_whole : (s : List ℕ) → IsUtf8 s → FindsBy is_whitespace s None → s ≡ encode_utf8_all (front (chars s))
front_whole s u f = sym f.1 ∙ ap encode_utf8_all (sym (front_none f.0 f.2)) ∙ ap (λ l. encode_utf8_all (front l)) (chars_from_encodes f.0 s u f.1)

pub rear_whole : (s : List ℕ) → IsUtf8 s → FindsBy is_whitespace s None → [] ≡ encode_utf8_all (rear (chars s))
rear_whole s u f = ap encode_utf8_all (sym (rear_none f.0 f.2)) ∙ ap (λ l. encode_utf8_all (rear l)) (chars_from_encodes f.0 s u f.1)

-- ---- without the mark

-- where `#!` is stripped, two bytes are
pub stripped : (line : List ℕ) (x : List ℕ) (n : ℕ) → n ≡ length (codes "#!") → x ≡ drop n line → trim x ≡ trim (drop 2 line)
stripped line x n e is = ap trim (is ∙ ap (λ m. drop m line) e)

pub not_stripped : (line : List ℕ) → BeginsShebang line → LacksTextAt (codes "#!") line 0 → ⊥
not_stripped line h l = l h.rest h.is

-- ---- the rest as a word

pub no_rest : (rest : List ℕ) → rest ≡ [] → with_rest rest ≡ []
no_rest rest e = rw e refl

pub one_rest : (rest : List ℕ) → rest ≢ [] → with_rest rest ≡ rest ∷ []
one_rest [] n = absurd (n refl)
one_rest (b ∷ bs) n = refl
