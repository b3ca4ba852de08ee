-- Ranks that are noted in the order, one after the other.
use Rattle.std.proofs.Common.{◌≡◌, ℕ, suc, ◌+◌, ◌<◌, ◌≤◌, cond, List, ◌++◌, drop, take, get_or, inl, inr, length, length-set, nat_eq, replicate, Option, Some, None, refl, sym, ap, ◌∙◌, arith}
use Rattle.std.specs.Option.{option_or, unwrap_or}
use Rattle.std.specs.List.{slice_set}
use Rattle.std.proofs.Math.ListN.{drop_of_length-le}
use Rattle.std.proofs.lemmas.Bool.Decides.{eqb_tells, leb_tells}
use Rattle.std.proofs.lemmas.List.{append-nil, take_all, get_or-replicate, get_or-set_other, get_or-set_same, length-replicate}
use Rattle.std.proofs.lemmas.Option.{slice_get-get_or, slice_get_past}
use Rattle.resolve_recipes.specs.Ranks.{AreRanks, last_rank}
use Rattle.resolve_recipes.proofs.Resolving.{next_at}

or_else : (a b : Option ℕ) (d : ℕ) → unwrap_or (option_or a b) d ≡ unwrap_or a (unwrap_or b d)
or_else (Some x) b d = refl
or_else None b d = refl

-- what stands at a place, once one rank more is noted
noted : (ranks : List ℕ) (place rank thing : ℕ) → thing < length ranks → get_or (slice_set ranks place rank) thing 0 ≡ unwrap_or (cond (nat_eq place thing) (Some rank) None) (get_or ranks thing 0)
noted ranks place rank thing lt = elim (eqb_tells place thing) [
  | inl p ↦
      let within : place < length ranks = omega (arith, lt, p.1) in
      ap (λ t. get_or (slice_set ranks place rank) t 0) (sym p.1) ∙ get_or-set_same ranks place rank 0 within ∙ ap (λ b. unwrap_or (cond b (Some rank) None) (get_or ranks thing 0)) (sym p.0)
  | inr p ↦ get_or-set_other ranks place thing rank 0 (λ e. p.1 (sym e)) ∙ ap (λ b. unwrap_or (cond b (Some rank) None) (get_or ranks thing 0)) (sym p.0)
]

-- with the ranks to come, each thing has its last one
pub record AreNoted (order : List ℕ) (rank : ℕ) (ranks : List ℕ) : Type 0 where
  pub many : length ranks ≡ length order
  pub each : (thing : ℕ) → thing < length order → unwrap_or (last_rank rank (drop rank order) thing) (get_or ranks thing 0) ≡ unwrap_or (last_rank 0 order thing) 0

pub none_noted : (order ranks : List ℕ) → ranks ≡ replicate (length order) 0 → AreNoted order 0 ranks
none_noted order ranks is = record {
  many = ap length is ∙ length-replicate (length order) 0;
  each = λ thing lt. ap (λ rs. unwrap_or (last_rank 0 order thing) (get_or rs thing 0)) is ∙ ap (unwrap_or (last_rank 0 order thing)) (get_or-replicate (length order) thing 0 0 lt);
}

pub one_noted : (order ranks : List ℕ) (rank : ℕ) → rank < length order → AreNoted order rank ranks → AreNoted order (rank + 1) (slice_set ranks (get_or order rank 0) rank)
one_noted order ranks rank lt so = record {
  many = length-set ranks (get_or order rank 0) rank ∙ so.many;
  each = λ thing small.
      let x = get_or order rank 0 in
      let many = so.many in
      let rest = drop (rank + 1) order in
      let there : thing < length ranks = omega (arith, small, many) in
      let later : rank + 1 ≡ suc rank = omega arith in
      let had = get_or ranks thing 0 in
      ap (unwrap_or (last_rank (rank + 1) rest thing)) (noted ranks x rank thing there)
      ∙ ap (λ n. unwrap_or (last_rank n rest thing) (unwrap_or (cond (nat_eq x thing) (Some rank) None) had)) later
      ∙ sym (or_else (last_rank (suc rank) rest thing) (cond (nat_eq x thing) (Some rank) None) had)
      ∙ ap (λ xs. unwrap_or (last_rank rank xs thing) had) (sym (next_at order rank 0 lt))
      ∙ so.each thing small;
}

-- what is given back of a list is the whole list
pub given_back : (old new : List ℕ) (count : ℕ) → count ≡ length old → length new ≡ length old → take count (new ++ drop (length new) old) ≡ new
given_back old new count many same =
    let past : length old ≤ length new = omega (arith, same) in
    let all : length new ≤ count = omega (arith, many, same) in
    ap (λ rest. take count (new ++ rest)) (drop_of_length-le old past) ∙ ap (take count) (append-nil new) ∙ take_all count new all

pub all_noted : (order ranks : List ℕ) (rank : ℕ) → length order ≤ rank → AreNoted order rank ranks → AreRanks order ranks
all_noted order ranks rank past so thing = elim (leb_tells (suc thing) (length order)) [
  | inl p ↦
      let many = so.many in
      let there : thing < length ranks = omega (arith, many, p.1) in
      let small : thing < length order = omega (arith, p.1) in
      slice_get-get_or ranks thing 0 there
      ∙ ap (λ (n : ℕ). Some n) (ap (λ xs. unwrap_or (last_rank rank xs thing) (get_or ranks thing 0)) (sym (drop_of_length-le order past)) ∙ so.each thing small)
      ∙ ap (λ b. cond b (Some (unwrap_or (last_rank 0 order thing) 0)) None) (sym p.0)
  | inr p ↦
      let many = so.many in
      let past_all : length ranks ≤ thing = omega (arith, many, p.1) in
      slice_get_past ranks thing past_all ∙ ap (λ b. cond b (Some (unwrap_or (last_rank 0 order thing) 0)) None) (sym p.0)
]
