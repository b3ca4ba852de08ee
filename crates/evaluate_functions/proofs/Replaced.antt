-- A text with another in place of each match.
use Rattle.std.proofs.Common.{ℕ, zero, suc, List, [], ◌∷◌, ◌++◌, ◌≡◌, ◌<◌, ◌-◌, Bool, true, false, cond, map, length, take, drop, Some, None, refl, arith, sym, ap, subst, ◌∙◌, append-nil, append_assoc, ⊎_elim, Bor}
use Rattle.std.proofs.lemmas.List.{nil_from_length}
use Rattle.std.proofs.lemmas.Str.{IsUtf8-past_char, chars-nil, chars_past_char}
use Rattle.std.specs.Char.{encode_utf8}
use Rattle.std.specs.List.{flat_map}
use Rattle.std.specs.Str.{IsUtf8, encode_utf8_all}
use Rattle.std.specs.Str.Pattern.{FindsText}
use Rattle.std.specs.Str.Replace.{ReplacesMatches}
use Rattle.tree_expressions.specs.Cutting.{begins}
use Rattle.evaluate_functions.specs.Functions.{between, joined_by, onto_first, replaced}
use Rattle.evaluate_functions.proofs.Between.{first_match, no_match}

abbrev Replaces : List ℕ → ℕ → Bor (List ℕ) → List ℕ → List ℕ → Type 0
Replaces to n mark text out = ReplacesMatches (λ n. FindsText n.now) (λ n m. m.now ≡ n.now) to n mark text out

filled_onto : (c : ℕ) (parts : List (List ℕ)) → 0 < length (onto_first c parts)
filled_onto c [] = omega arith
filled_onto c (part ∷ parts) = omega arith

filled_cond : (t : Bool) (part : List ℕ) (parts others : List (List ℕ)) → 0 < length others → 0 < length (cond t (part ∷ parts) others)
filled_cond true part parts others h = omega arith
filled_cond false part parts others h = h

-- there is a part
filled : (mark text : List ℕ) → 0 < length (between mark 0 text)
filled mark [] = omega arith
filled mark (b ∷ text) = filled_cond (begins (b ∷ text) mark) [] (between mark (length mark - 1) text) (onto_first b (between mark 0 text)) (filled_onto b (between mark 0 text))

joined_more : (to part : List ℕ) (parts : List (List ℕ)) → 0 < length parts → joined_by to (part ∷ parts) ≡ part ++ (to ++ joined_by to parts)
joined_more to part [] h = absurd (omega (arith, h))
joined_more to part (next ∷ parts) h = ap (λ l. part ++ l) (append_assoc to next (flat_map (λ more. to ++ more) parts))

by_parts : (b : ℕ) (bs to : List ℕ) (n : ℕ) (mark : Bor (List ℕ)) (text out : List ℕ) → mark.now ≡ b ∷ bs → Replaces to n mark text out → out ≡ joined_by to (between (b ∷ bs) 0 text)
by_parts b bs to zero mark text out e (found, is) =
    is ∙ sym (ap (joined_by to) (no_match b bs text (subst (λ m. FindsText m text None) e found)) ∙ append-nil text)
by_parts b bs to (suc n) mark text out e (i, j, other, rest, found, kept, on, is) =
    let match = subst (λ m. FindsText m text (Some (i, j))) e found in
    let more : rest ≡ joined_by to (between (b ∷ bs) 0 (drop j text))
    = ⊎_elim (λ h. by_parts b bs to n other (drop j text) rest (kept ∙ e) h.1) (λ h. absurd (omega (arith, h.0, match.1.ends))) on in
    is ∙ ap (λ l. take i text ++ (to ++ l)) more
    ∙ sym (ap (joined_by to) (first_match b bs text (drop j text) i match.0 match.1.split) ∙ joined_more to (take i text) (between (b ∷ bs) 0 (drop j text)) (filled (b ∷ bs) (drop j text)))

replaced_nil : (to : List ℕ) → replaced [] to [] ≡ to
replaced_nil to = rw chars-nil refl

replaced_character : (to text rest : List ℕ) (c : ℕ) → IsUtf8 text → text ≡ encode_utf8 c ++ rest → replaced [] to text ≡ to ++ (encode_utf8 c ++ replaced [] to rest)
replaced_character to text rest c u e =
    ap (λ cs. flat_map (λ character. to ++ character) (map (λ d. encode_utf8_all (d ∷ [])) cs) ++ to) (chars_past_char text rest c u e)
    ∙ append_assoc (to ++ encode_utf8_all (c ∷ [])) _ to ∙ append_assoc to (encode_utf8_all (c ∷ [])) _ ∙ ap (λ l. to ++ (l ++ replaced [] to rest)) (append-nil (encode_utf8 c))

by_characters : (to : List ℕ) (n : ℕ) (mark : Bor (List ℕ)) (text out : List ℕ) → mark.now ≡ [] → IsUtf8 text → Replaces to n mark text out → out ≡ replaced [] to text
by_characters to zero mark text out e u (found, is) = absurd (subst (λ m. FindsText m text None) e found 0 (omega arith) text refl)
by_characters to (suc n) mark text out e u (suc i, j, other, rest, found, kept, on, is) = absurd ((subst (λ m. FindsText m text (Some (suc i, j))) e found).0 0 (omega arith) text refl)
by_characters to (suc n) mark text out e u (zero, suc j, other, rest, found, kept, on, is) =
    let match = subst (λ m. FindsText m text (Some (0, suc j))) e found in absurd (omega (arith, match.1.ends))
by_characters to (suc n) mark text out e u (zero, zero, other, rest, found, kept, on, is) =
    is
    ∙ ⊎_elim (λ h. absurd (omega (arith, h.0)))
    (λ h.
    ⊎_elim (λ end. ap (λ l. to ++ l) end.1 ∙ append-nil to ∙ sym (ap (replaced [] to) (nil_from_length text end.0) ∙ replaced_nil to))
    (λ next.
    ap (λ l. to ++ l) (next.5 ∙ ap (λ l. encode_utf8 next.0 ++ l) (by_characters to n other next.1 next.2 (kept ∙ e) (IsUtf8-past_char text next.1 next.0 u next.3) next.4))
    ∙ sym (replaced_character to text next.1 next.0 u next.3))
    h.1)
    on

of_mark : (mark to : List ℕ) (n : ℕ) (from : Bor (List ℕ)) (text out : List ℕ) → from.now ≡ mark → IsUtf8 text → Replaces to n from text out → out ≡ replaced mark to text
of_mark [] to n from text out e u h = by_characters to n from text out e u h
of_mark (b ∷ bs) to n from text out e u h = by_parts b bs to n from text out e h

pub is_replaced : (to : List ℕ) (n : ℕ) (from : Bor (List ℕ)) (text out : List ℕ) → IsUtf8 text → Replaces to n from text out → out ≡ replaced from.now to text
is_replaced to n from text out u h = of_mark from.now to n from text out refl u h
