-- The name is the whole source, and all is as the row says.
use Rattle.std.proofs.Common.{◌≡◌, ◌+◌, arith, length, refl, subst}
use Rattle.std.proofs.lemmas.Str.{IsCharBoundary-start, IsCharBoundary-end}
use Rattle.std.specs.Str.{IsCharBoundary}
use Rattle.just_value.specs.Frames.{bound_of}
use Rattle.just_value.proofs.scope.constant.Goals as goal

pub invariant_of-token : goal.invariant_of-token
invariant_of-token c = record {
  begins = IsCharBoundary-start c.args.name.now c.utf8.name;
  ends = let same : length c.args.name.now ≡ 0 + c.in-Ok.length = omega (arith, c.in-Ok.ensures.1) in subst (IsCharBoundary c.args.name.now) same (IsCharBoundary-end c.args.name.now);
}

pub returns : goal.returns
unfolding bound_of
returns c = rw (c.from_token.ensures, c.in_ok-from_text.ensures, c.in-Ok.ensures.1) refl
