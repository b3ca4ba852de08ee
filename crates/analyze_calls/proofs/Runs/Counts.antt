-- What is counted as a call is met, and as it is entered after that.
use Rattle.std.proofs.Common.{◌≡◌, ◌≤◌, ap, arith}
use Rattle.analyze_calls.specs.Runs.Tallies.{HasCounted, entered_one, met_one}
use Rattle.analyze_calls.specs.declared.tally.Tally.{Tally}

pub met : (t u : Tally) → u ≡ met_one t → t.calls ≤ u.calls → HasCounted t u
met t u e h = record {
  calls = h;
  entered = omega (arith, ap (λ k. k.entered) e);
  within = λ w. omega (arith, ap (λ k. k.entered) e, w, h);
}

pub met_and_entered : (t u v : Tally) → u ≡ met_one t → t.calls ≤ u.calls → v ≡ entered_one u → u.entered ≤ v.entered → HasCounted t v
met_and_entered t u v e h f k = record {
  calls = omega (arith, ap (λ l. l.calls) f, h);
  entered = omega (arith, ap (λ l. l.entered) e, k);
  within = λ w. omega (arith, ap (λ l. l.entered) e, ap (λ l. l.calls) e, ap (λ l. l.entered) f, ap (λ l. l.calls) f, w);
}

pub counted_on : (t u v : Tally) → HasCounted t u → HasCounted u v → HasCounted t v
counted_on t u v a b = record {
  calls = omega (arith, a.calls, b.calls);
  entered = omega (arith, a.entered, b.entered);
  within = λ w. b.within (a.within w);
}

-- nothing is counted before the first turn
pub counted_first : (t : Tally) → HasCounted t t
counted_first t = record {
  calls = omega (arith);
  entered = omega (arith);
  within = λ w. w;
}
