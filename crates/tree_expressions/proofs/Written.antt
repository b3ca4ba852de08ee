-- What is written is read.
use Rattle.std.proofs.Common.{◌≡◌, ℕ, suc, ◌-◌, ◌==◌, ◌&&◌, ◌||◌, if◌then◌else◌, Bool, true, false, List, [], ◌∷◌, ◌++◌, take, drop, length, length-append, append_assoc, subst, refl, ap, ◌∙◌, arith}
use Rattle.std.specs.Prelude.{codes}
use Rattle.std.proofs.lemmas.List.Prefix.{front_rest}
use lib.Pointwise.{pointwise}
use Rattle.tree_expressions.specs.declared.string_kind.StringKind.{StringKind}
use Rattle.std.proofs.Math.Seq.{take-append_seam}
use Rattle.tree_expressions.specs.Cutting.{begins, ends, without_front, without_back}
use Rattle.tree_expressions.specs.Kinds.{prefix_of, prefix_text, quoted, delimiter_of, is_tripled, kind_of, mark}
use Rattle.tree_expressions.specs.Forms.{written, IsInside, part_opening, part_closing, StringsAreRead, PartsAreRead, CommandsAreRead}
use Rattle.tree_expressions.specs.Parts.{behind_opening, before_closing}
use Rattle.tree_expressions.specs.declared.string_kind.StringDelimiter.{StringDelimiter}
use Rattle.tree_expressions.specs.declared.string_kind.StringDelimiter.TheVariants.{QuoteSingle, QuoteDouble}
use Rattle.tree_expressions.specs.declared.string_kind.StringPrefix.{StringPrefix}
use Rattle.tree_expressions.specs.declared.string_kind.StringPrefix.TheVariants.{Absent, Expand, Format}

seam : (inside back : List ℕ) → drop (length (inside ++ back) - length back) (inside ++ back) ≡ back
seam inside back =
    let len : length (inside ++ back) - length back ≡ length inside = omega (arith, length-append inside back) in
    rw len (front_rest (inside ++ back) inside back refl)

ends_in : (inside back : List ℕ) → pointwise (λ a b. a == b) back back ≡ true → ends (inside ++ back) back ≡ true
ends_in inside back same = ap (pointwise (λ a b. a == b) back) (seam inside back) ∙ same

-- a mark at the end is cut off
cut_off : (inside back : List ℕ) → take (length (inside ++ back) - length back) (inside ++ back) ≡ inside
cut_off inside back =
    let len : length (inside ++ back) - length back ≡ length inside = omega (arith, length-append inside back) in
    rw len (take-append_seam inside back)

back_off : (inside back : List ℕ) → pointwise (λ a b. a == b) back back ≡ true → without_back back (inside ++ back) ≡ inside
back_off inside back same = rw (ends_in inside back same) (cut_off inside back)

with_true : (x : Bool) → (x && true) ≡ false → x ≡ false
with_true true e = e
with_true false e = refl

-- one mark is not three
not_three : (q : ℕ) (inside : List ℕ) → (q == q) ≡ true → begins inside (q ∷ []) ≡ false → begins (q ∷ (inside ++ q ∷ [])) (q ∷ q ∷ q ∷ []) ≡ false
not_three q [] same other = rw same refl
not_three q (b ∷ bs) same other = let differs : (q == b) ≡ false = with_true (q == b) other in rw (same, differs) refl

prefix_is : (prefix : StringPrefix) (delimiter : StringDelimiter) (tripled : Bool) (rest : List ℕ) → prefix_of (prefix_text prefix ++ (mark delimiter tripled ++ rest)) ≡ prefix
prefix_is Absent QuoteSingle true rest = refl
prefix_is Absent QuoteSingle false rest = refl
prefix_is Absent QuoteDouble true rest = refl
prefix_is Absent QuoteDouble false rest = refl
prefix_is Expand delimiter tripled rest = refl
prefix_is Format delimiter tripled rest = refl

quoted_is : (prefix : StringPrefix) (delimiter : StringDelimiter) (tripled : Bool) (rest : List ℕ) → quoted (prefix_text prefix ++ (mark delimiter tripled ++ rest)) ≡ mark delimiter tripled ++ rest
quoted_is Absent QuoteSingle true rest = refl
quoted_is Absent QuoteSingle false rest = refl
quoted_is Absent QuoteDouble true rest = refl
quoted_is Absent QuoteDouble false rest = refl
quoted_is Expand delimiter tripled rest = refl
quoted_is Format delimiter tripled rest = refl

delimiter_is : (delimiter : StringDelimiter) (tripled : Bool) (rest : List ℕ) → (if begins (mark delimiter tripled ++ rest) (codes "\"") then QuoteDouble else QuoteSingle) ≡ delimiter
delimiter_is QuoteSingle true rest = refl
delimiter_is QuoteSingle false rest = refl
delimiter_is QuoteDouble true rest = refl
delimiter_is QuoteDouble false rest = refl

tripled_is : (delimiter : StringDelimiter) (tripled : Bool) (inside : List ℕ) → IsInside tripled (mark delimiter false) inside
    → (begins (mark delimiter tripled ++ (inside ++ mark delimiter tripled)) (codes "'''") || begins (mark delimiter tripled ++ (inside ++ mark delimiter tripled)) (codes "\"\"\"")) ≡ tripled
tripled_is QuoteSingle true inside other = refl
tripled_is QuoteSingle false inside other = rw (not_three 39 inside refl (other refl)) refl
tripled_is QuoteDouble true inside other = refl
tripled_is QuoteDouble false inside other = rw (not_three 34 inside refl (other refl)) refl

between : (delimiter : StringDelimiter) (tripled : Bool) (inside : List ℕ) → without_back (mark delimiter tripled) (without_front (mark delimiter tripled) (mark delimiter tripled ++ (inside ++ mark delimiter tripled))) ≡ inside
between QuoteSingle true inside = back_off inside (codes "'''") refl
between QuoteSingle false inside = back_off inside (codes "'") refl
between QuoteDouble true inside = back_off inside (codes "\"\"\"") refl
between QuoteDouble false inside = back_off inside (codes "\"") refl

pub strings_are_read : StringsAreRead
unfolding kind_of
strings_are_read kind inside other =
    let delimiter : StringDelimiter = kind.delimiter in
    let tripled : Bool = kind.tripled in
    let text : List ℕ = written kind inside in
    let body : List ℕ = mark delimiter tripled ++ (inside ++ mark delimiter tripled) in
    let quotes : quoted text ≡ body = quoted_is kind.prefix delimiter tripled (inside ++ mark delimiter tripled) in
    let d : delimiter_of text ≡ delimiter = ap (λ q. if begins q (codes "\"") then QuoteDouble else QuoteSingle) quotes ∙ delimiter_is delimiter tripled (inside ++ mark delimiter tripled) in
    let t : is_tripled text ≡ tripled = ap (λ q. begins q (codes "'''") || begins q (codes "\"\"\"")) quotes ∙ tripled_is delimiter tripled inside other in
    let p : prefix_of text ≡ kind.prefix = prefix_is kind.prefix delimiter tripled (inside ++ mark delimiter tripled) in
    let make : StringDelimiter → StringPrefix → Bool → StringKind = λ d p t. record { delimiter = d; prefix = p; tripled = t } in (
      ap (λ x. make x (prefix_of text) (is_tripled text)) d ∙ ap (λ x. make delimiter x (is_tripled text)) p ∙ ap (λ x. make delimiter kind.prefix x) t,
      ap (λ x. without_back (mark x (is_tripled text)) (without_front (mark x (is_tripled text)) (quoted text))) d
          ∙ ap (λ x. without_back (mark delimiter x) (without_front (mark delimiter x) (quoted text))) t
          ∙ ap (λ q. without_back (mark delimiter tripled) (without_front (mark delimiter tripled) q)) quotes
          ∙ between delimiter tripled inside,
    )

and_false : (x : Bool) → (x && false) ≡ false
and_false true = refl
and_false false = refl

-- a text that ends in another byte doesn't end in two braces
no_braces : (inside : List ℕ) (q : ℕ) → (123 == q) ≡ false → ends (inside ++ q ∷ []) (codes "{{") ≡ false
no_braces [] q other = rw other refl
no_braces (b ∷ []) q other = rw other (and_false (123 == b))
no_braces (b ∷ c ∷ more) q other =
    let one : length (b ∷ c ∷ (more ++ q ∷ [])) - 2 ≡ suc (length (c ∷ (more ++ q ∷ [])) - 2) = omega (arith, length-append more (q ∷ [])) in
    ap (λ n. pointwise (λ a b. a == b) (codes "{{") (drop n (b ∷ c ∷ (more ++ q ∷ [])))) one ∙ no_braces (c ∷ more) q other

unbraced : (delimiter : StringDelimiter) (tripled : Bool) (inside : List ℕ) → ends (inside ++ mark delimiter tripled) (codes "{{") ≡ false
unbraced QuoteSingle true inside = subst (λ x. ends x (codes "{{") ≡ false) (append_assoc inside (codes "''") (codes "'")) (no_braces (inside ++ codes "''") 39 refl)
unbraced QuoteSingle false inside = no_braces inside 39 refl
unbraced QuoteDouble true inside = subst (λ x. ends x (codes "{{") ≡ false) (append_assoc inside (codes "\"\"") (codes "\"")) (no_braces (inside ++ codes "\"\"") 34 refl)
unbraced QuoteDouble false inside = no_braces inside 34 refl

marked : (delimiter : StringDelimiter) (tripled : Bool) → pointwise (λ a b. a == b) (mark delimiter tripled) (mark delimiter tripled) ≡ true
marked QuoteSingle true = refl
marked QuoteSingle false = refl
marked QuoteDouble true = refl
marked QuoteDouble false = refl

opened : (delimiter : StringDelimiter) (tripled : Bool) (rest : List ℕ) → without_front (mark delimiter tripled) (mark delimiter tripled ++ rest) ≡ rest
opened QuoteSingle true rest = refl
opened QuoteSingle false rest = refl
opened QuoteDouble true rest = refl
opened QuoteDouble false rest = refl

part_opened : (kind : StringKind) (first : Bool) (rest : List ℕ) → behind_opening (mark kind.delimiter kind.tripled) (part_opening kind first ++ rest) ≡ rest
part_opened kind true rest = opened kind.delimiter kind.tripled rest
part_opened kind false rest = refl

part_closed : (kind : StringKind) (last : Bool) (inside : List ℕ) → before_closing (mark kind.delimiter kind.tripled) (inside ++ part_closing kind last) ≡ inside
part_closed kind true inside = rw (unbraced kind.delimiter kind.tripled inside) (back_off inside (mark kind.delimiter kind.tripled) (marked kind.delimiter kind.tripled))
part_closed kind false inside = rw (ends_in inside (codes "{{") refl) (cut_off inside (codes "{{"))

pub parts_are_read : PartsAreRead
parts_are_read kind first last inside =
    ap (before_closing (mark kind.delimiter kind.tripled)) (part_opened kind first (inside ++ part_closing kind last)) ∙ part_closed kind last inside

pub commands_are_read : CommandsAreRead
commands_are_read true inside other = back_off inside (codes "```") refl
commands_are_read false inside other = rw (not_three 96 inside refl (other refl)) (back_off inside (codes "`") refl)
