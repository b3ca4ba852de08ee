-- The words of a text, one by one.
use Rattle.std.proofs.Common.{ℕ, List, [], ◌∷◌, ◌++◌, ◌≡◌, ◌<◌, Bool, true, false, cond, not, map, length, Some, None, refl, arith, sym, ap, subst, ◌∙◌, nat_lt, append-nil, append_assoc, Bor}
use Rattle.std.proofs.lemmas.Bool.Decides.{nat_tests}
use Rattle.std.proofs.lemmas.Str.{IsUtf8-past_char, chars-nil, chars_past_char, chars_from_encodes}
use Rattle.std.specs.Prelude.{⊤, filter}
use Rattle.std.specs.Char.{is_whitespace, is_not_whitespace, encode_utf8}
use Rattle.std.specs.Str.{chars, IsUtf8, NonePass, NoCharPasses, EmptyOrStartsWithPassing, encode_utf8_all}
use Rattle.std.specs.Str.Iter.{split_whitespace_rest, split_whitespace_steps}
use Rattle.std.specs.declared.str.SplitWhitespace.{SplitWhitespace}
use Rattle.evaluate_functions.specs.Functions.{words_of, runs_of}

abbrev has_some : List ℕ → Bool
has_some run = nat_lt 0 (length run)

not_false : (b : Bool) → not b ≡ false → b ≡ true
not_false true e = refl
not_false false e = sym e

-- white space before a text is no word
past_gap : (gap cs : List ℕ) → NonePass is_not_whitespace gap → filter has_some (runs_of (gap ++ cs)) ≡ filter has_some (runs_of cs)
past_gap [] cs h = refl
past_gap (c ∷ gap) cs h = rw (not_false (is_whitespace c) h.0) (past_gap gap cs h.1)

-- nothing, or a text that begins with white space
abbrev Ends : List ℕ → Type 0
Ends [] = ⊤
Ends (c ∷ cs) = is_whitespace c ≡ true

-- the runs after the first, which is empty
abbrev later : List ℕ → List (List ℕ)
later [] = []
later (c ∷ cs) = runs_of cs

cut_off : (cs : List ℕ) → Ends cs → runs_of cs ≡ [] ∷ later cs
cut_off [] h = refl
cut_off (c ∷ cs) h = rw h refl

one_run : (word cs : List ℕ) → NonePass is_whitespace word → Ends cs → runs_of (word ++ cs) ≡ word ∷ later cs
one_run [] cs h end = cut_off cs end
one_run (c ∷ word) cs h end = rw (h.0, one_run word cs h.1 end) refl

counted : (c : ℕ) (word : List ℕ) → has_some (c ∷ word) ≡ true
counted c word = grind (arith, nat_tests)

word_first : (c : ℕ) (word cs : List ℕ) → NonePass is_whitespace (c ∷ word) → Ends cs → filter has_some (runs_of ((c ∷ word) ++ cs)) ≡ (c ∷ word) ∷ filter has_some (runs_of cs)
word_first c word cs h end =
    ap (filter has_some) (one_run (c ∷ word) cs h end) ∙ ap (λ t. cond t ((c ∷ word) ∷ filter has_some (later cs)) (filter has_some (later cs))) (counted c word)
    ∙ ap (λ runs. (c ∷ word) ∷ filter has_some runs) (sym (cut_off cs end))

ends_chars : (text more : List ℕ) → IsUtf8 text → EmptyOrStartsWithPassing is_whitespace text more → Ends (chars text)
ends_chars [] more u h = subst Ends (sym chars-nil) tt
ends_chars (b ∷ text) more u h =
    let white = h (omega arith) in subst Ends (sym (chars_past_char (b ∷ text) more white.0 u white.2)) white.1

-- what follows some characters
rest_utf8 : (cs rest : List ℕ) → IsUtf8 (encode_utf8_all cs ++ rest) → IsUtf8 rest
rest_utf8 [] rest u = u
rest_utf8 (c ∷ cs) rest u = rest_utf8 cs rest (IsUtf8-past_char _ (encode_utf8_all cs ++ rest) c u (append_assoc (encode_utf8 c) (encode_utf8_all cs) rest))

chars_past : (cs rest : List ℕ) → IsUtf8 (encode_utf8_all cs ++ rest) → chars (encode_utf8_all cs ++ rest) ≡ cs ++ chars rest
chars_past [] rest u = refl
chars_past (c ∷ cs) rest u =
    let one = append_assoc (encode_utf8 c) (encode_utf8_all cs) rest in
    chars_past_char _ (encode_utf8_all cs ++ rest) c u one ∙ ap (λ more. c ∷ more) (chars_past cs rest (IsUtf8-past_char _ (encode_utf8_all cs ++ rest) c u one))

next_word : (gap word rest more : List ℕ) → IsUtf8 (encode_utf8_all gap ++ (encode_utf8_all word ++ rest)) → 0 < length (encode_utf8_all word) → NonePass is_not_whitespace gap → NonePass is_whitespace word
    → EmptyOrStartsWithPassing is_whitespace rest more → words_of (encode_utf8_all gap ++ (encode_utf8_all word ++ rest)) ≡ encode_utf8_all word ∷ words_of rest
next_word gap [] rest more u some g w end = absurd (omega (arith, some))
next_word gap (c ∷ word) rest more u some g w end =
    let behind : IsUtf8 (encode_utf8_all (c ∷ word) ++ rest) = rest_utf8 gap (encode_utf8_all (c ∷ word) ++ rest) u in
    let all : chars (encode_utf8_all gap ++ (encode_utf8_all (c ∷ word) ++ rest)) ≡ gap ++ ((c ∷ word) ++ chars rest) = chars_past gap (encode_utf8_all (c ∷ word) ++ rest) u ∙ ap (λ cs. gap ++ cs) (chars_past (c ∷ word) rest behind) in
    ap (λ cs. map encode_utf8_all (filter has_some (runs_of cs))) all
    ∙ ap (map encode_utf8_all) (past_gap gap ((c ∷ word) ++ chars rest) g ∙ word_first c word (chars rest) w (ends_chars rest more (rest_utf8 (c ∷ word) rest behind) end))

no_word : (text : List ℕ) → IsUtf8 text → NoCharPasses is_not_whitespace text → words_of text ≡ []
no_word text u (cs, spells, none) =
    ap (λ cs. map encode_utf8_all (filter has_some (runs_of cs))) (sym (chars_from_encodes cs text u spells) ∙ sym (append-nil cs)) ∙ ap (map encode_utf8_all) (past_gap cs [] none)

-- one more word of an iterator, and then those of what is left
pub words_step : (s t : SplitWhitespace) (word : Bor (List ℕ)) (value all : List (List ℕ)) → IsUtf8 (split_whitespace_rest s) → split_whitespace_steps s (Some word) t → value ++ words_of (split_whitespace_rest s) ≡ all
    → IsUtf8 (split_whitespace_rest t) × ((value ++ word.now ∷ []) ++ words_of (split_whitespace_rest t) ≡ all)
words_step s t word value all u (gap, is, some, (gs, spells_gap, white), (ws, spells_word, dark), (more, end)) e =
    let text : split_whitespace_rest s ≡ encode_utf8_all gs ++ (encode_utf8_all ws ++ split_whitespace_rest t) = rw (spells_gap, spells_word) is in
    let utf8 : IsUtf8 (encode_utf8_all gs ++ (encode_utf8_all ws ++ split_whitespace_rest t)) = subst IsUtf8 text u in
    let next : words_of (split_whitespace_rest s) ≡ word.now ∷ words_of (split_whitespace_rest t)
    = ap words_of text ∙ next_word gs ws (split_whitespace_rest t) more utf8 (rw spells_word some) white dark end ∙ ap (λ w. w ∷ words_of (split_whitespace_rest t)) spells_word in (
      rest_utf8 ws (split_whitespace_rest t) (rest_utf8 gs (encode_utf8_all ws ++ split_whitespace_rest t) utf8),
      append_assoc value (word.now ∷ []) (words_of (split_whitespace_rest t)) ∙ ap (λ words. value ++ words) (sym next) ∙ e,
    )

pub words_end : (s t : SplitWhitespace) (value all : List (List ℕ)) → IsUtf8 (split_whitespace_rest s) → split_whitespace_steps s None t → value ++ words_of (split_whitespace_rest s) ≡ all → value ≡ all
words_end s t value all u (same, none) e = sym (append-nil value) ∙ ap (λ words. value ++ words) (sym (no_word (split_whitespace_rest s) u none)) ∙ e
