-- The number that one to four digits write.
use Rattle.std.proofs.Common.{◌≡◌, ℕ, ◌+◌, ◌*◌, ◌-◌, ◌<◌, ◌≤◌, ◌^◌, Bool, true, false, List, length, Ok, Result, refl, arith, rules}
use Rattle.std.specs.Prelude.{◌&&◌, nat_le}
use Rattle.std.specs.List.{fold, list_all}
use Rattle.std.specs.Str.Parse.{ParsesUnsigned}
use Rattle.std.proofs.lemmas.Bool.{leb-true}
use Rattle.std.proofs.lemmas.Str.Parse.{IsNumeralModel, digits_value_short, numerals_by_fold, parse_gives}
use Rattle.parse_attributes.specs.Options.{is_count, is_digit}
use Rattle.parse_attributed_items.specs.Options.{number_of}

abbrev read_on : ℕ → List ℕ → ℕ
read_on n digits = fold (λ n d. n * 10 + (d - 48)) n digits

both : (a b : Bool) → (a && b) ≡ true → (a ≡ true) × (b ≡ true)
both true b h = (refl, h)
both false b h = absurd cc

own : IsNumeralModel (λ ds. list_all is_digit ds ≡ true) (read_on 0)
own = numerals_by_fold (λ ds. list_all is_digit ds ≡ true) (search rules) read_on (search rules)

-- the text is the number that its digits write
pub counted : {E : Type 0} (bs : List ℕ) (r : Result ℕ E) → ParsesUnsigned 16 10 bs r → is_count bs ≡ true → r ≡ Ok (number_of bs)
counted bs r h count =
    let p = both (nat_le 1 (length bs) && nat_le (length bs) 4) (list_all is_digit bs) count in
    let q = both (nat_le 1 (length bs)) (nat_le (length bs) 4) p.0 in
    let some : 1 ≤ length bs = leb-true 1 (length bs) q.0 in
    let few : length bs ≤ 4 = leb-true (length bs) 4 q.1 in
    let small : number_of bs < 10 ^ 4 = digits_value_short own bs 4 p.1 few in
    parse_gives own 16 bs r h p.1 (omega arith) (omega arith)
