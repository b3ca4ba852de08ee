-- Texts without the line end at their end.
use Rattle.std.proofs.Common.{◌≡◌, ℕ, Bool, true, false, List, Option, Some, None, codes, if◌then◌else◌, refl, ◌∙◌, arith}
use Rattle.std.specs.Option.{MatchOption, unwrap_or}
use Rattle.std.specs.Str.Pattern.{FindsTextSuffix, StripsSuffix}
use Rattle.std.proofs.lemmas.Str.Pattern.{ends_text}
use Rattle.tree_expressions.specs.Cutting.{without_back}
use Rattle.tree_expressions.proofs.Cuts.{stripped_back}
use Rattle.meaning_dialogues.specs.Answers.{without_line_end}
use denote.Ref.{Bor}

first_taken : {b : Bool} (x y : List ℕ) → true ≡ b → x ≡ (if b then x else y)
first_taken {b = true} x y e = refl
first_taken {b = false} x y e = absurd (cc)

second_taken : {b : Bool} (x y : List ℕ) → false ≡ b → y ≡ (if b then x else y)
second_taken {b = true} x y e = absurd (cc)
second_taken {b = false} x y e = refl

-- both bytes of the line end are there
pub both_taken : (text line : Bor (List ℕ)) → StripsSuffix (FindsTextSuffix (codes "\r\n")) text.now line.now → line.now ≡ without_line_end text.now
both_taken text line (n, found, is, len) =
    stripped_back (codes "\r\n") text (Some line) (n, found, is, len)
    ∙ first_taken (without_back (codes "\r\n") text.now) (without_back (codes "\n") text.now) (ends_text true (codes "\r\n") text.now (n, found, omega arith, rw found.0 found.2))

-- a line feed alone is there, or none
pub one_taken : (text : Bor (List ℕ)) (r : Option (Bor (List ℕ))) → FindsTextSuffix (codes "\r\n") text.now None → MatchOption r (FindsTextSuffix (codes "\n") text.now None) (λ x. StripsSuffix (FindsTextSuffix (codes "\n")) text.now x.now)
    → (unwrap_or r text).now ≡ without_line_end text.now
one_taken text r lacks strips =
    stripped_back (codes "\n") text r strips
    ∙ second_taken (without_back (codes "\r\n") text.now) (without_back (codes "\n") text.now) (ends_text false (codes "\r\n") text.now lacks)
