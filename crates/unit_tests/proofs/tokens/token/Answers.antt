-- A text may be cut at both its ends: the token is the whole text, or is empty at its front.
use Rattle.std.proofs.Common.{◌≡◌, ◌+◌, ◌<◌, ℕ, List, Result, Ok, Err, length, subst, sym, arith}
use Rattle.std.specs.Result.{OkIff, result_unwrap_or}
use Rattle.std.specs.Str.{IsCharBoundary, IsUtf8}
use Rattle.std.proofs.lemmas.Str.{IsCharBoundary-start, IsCharBoundary-end}
use Rattle.unit_tests.proofs.tokens.token.Goals as goal

ends : {E : Type 0} (bs : List ℕ) (r : Result ℕ E) → IsUtf8 bs → OkIff r (length bs < 4294967296) (length bs) → IsCharBoundary bs (0 + result_unwrap_or r 0)
ends bs (Ok n) valid fits =
    let whole : length bs ≡ 0 + n = omega (arith, fits.1) in
    subst (IsCharBoundary bs) whole (IsCharBoundary-end bs)
ends bs (Err e) valid fits = IsCharBoundary-start bs valid

pub invariant_of-result : goal.invariant_of-result
invariant_of-result c = record {
  begins = IsCharBoundary-start c.args.src.now c.utf8.src;
  ends = subst (λ n. IsCharBoundary c.args.src.now (0 + n)) (sym c.unwrap_or.ensures) (ends c.args.src.now c.try_from.result c.utf8.src c.try_from.ensures);
}
