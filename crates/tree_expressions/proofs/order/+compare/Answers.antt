-- Two expressions are compared as their keys.
use Rattle.std.proofs.Common.{rules, ◌≡◌, map, length, refl, sym, ◌∙◌, arith}
use Rattle.std.proofs.lemmas.Option.{slice_get_read}
use Rattle.std.proofs.lemmas.List.{length-map}
use Rattle.tree_expressions.specs.Order.{key_of, part_key}
use Rattle.tree_expressions.proofs.Compared.{keyed, apart_equal, apart_unequal, none_none, none_pair, pair_none, both_held, part_equal, part_unequal, at_map, row_equal, row_unequal, row_greater, row_less, row_end}
use Rattle.tree_expressions.proofs.order.+compare.Goals as goal

pub compare-returns-in-Equal : goal.compare-returns-in-Equal
compare-returns-in-Equal t c = c.compare_inside.ensures ∙ apart_equal c.args.here.now c.args.there.now (sym c.in-Equal.is ∙ c.compare_own.ensures)

pub compare-returns-in_default : goal.compare-returns-in_default
compare-returns-in_default t c = apart_unequal c.args.here.now c.args.there.now c.compare_own.result c.compare_own.ensures c.in_default.not-Equal

pub compare_held-returns-in-None-None : goal.compare_held-returns-in-None-None
compare_held-returns-in-None-None t c = rw (c.in-None-None.is-0, c.in-None-None.is-1) none_none

pub compare_held-returns-in-None-Some : goal.compare_held-returns-in-None-Some
compare_held-returns-in-None-Some t c = rw (c.in-None-Some.is-0, c.in-None-Some.is-1) (none_pair _ _)

pub compare_held-returns-in-Some-None : goal.compare_held-returns-in-Some-None
compare_held-returns-in-Some-None t c = rw (c.in-Some-None.is-0, c.in-Some-None.is-1) (pair_none _ _)

pub compare_held-returns-in-Some-Some : goal.compare_held-returns-in-Some-Some
compare_held-returns-in-Some-Some t c = rw (c.in-Some-Some.is-0, c.in-Some-Some.is-1) (c.compare.ensures ∙ both_held _ _)

pub compare_part-returns-in-Equal : goal.compare_part-returns-in-Equal
compare_part-returns-in-Equal t c = part_equal (key_of c.args.here.now.0) (key_of c.args.there.now.0) c.args.here.now.1 c.args.there.now.1 c.compare_literals.result c.compare_literals.ensures (sym c.in-Equal.is ∙ c.compare.ensures)

pub compare_part-returns-in_default : goal.compare_part-returns-in_default
compare_part-returns-in_default t c = part_unequal (key_of c.args.here.now.0) (key_of c.args.there.now.0) c.args.here.now.1 c.args.there.now.1 c.compare.result c.compare.ensures c.in_default.not-Equal

pub compare_parts-loop-index-init : goal.compare_parts-loop-index-init
compare_parts-loop-index-init t c = record { within = omega arith; same = refl }

pub compare_parts-returns-in_default : goal.compare_parts-returns-in_default
compare_parts-returns-in_default t c =
    let here : length (map part_key (map keyed c.args.here.now)) ≡ length c.args.here.now = search (rules, length-map) in
    let there : length (map part_key (map keyed c.args.there.now)) ≡ length c.args.there.now = search (rules, length-map) in
    row_greater (map part_key (map keyed c.args.here.now)) (map part_key (map keyed c.args.there.now)) c.loop-index.index (rw (there) c.in_default.ensures.lookup.3) (rw (here) c.loop-index-test.true) ∙ c.loop-index.invariant.same

pub compare_parts-returns-in_default-compare_part : goal.compare_parts-returns-in_default-compare_part
compare_parts-returns-in_default-compare_part t c =
    row_unequal (map part_key (map keyed c.args.here.now)) (map part_key (map keyed c.args.there.now)) c.loop-index.index (part_key (keyed c.index-here-index.result)) (part_key (keyed c.in-Some.other.now)) (at_map part_key (map keyed c.args.here.now) c.loop-index.index (keyed c.index-here-index.result) (at_map keyed c.args.here.now c.loop-index.index c.index-here-index.result (slice_get_read c.args.here.now (length c.args.here.now) c.loop-index.index c.index-here-index.result refl c.loop-index-test.true c.index-here-index.is))) (at_map part_key (map keyed c.args.there.now) c.loop-index.index (keyed c.in-Some.other.now) (at_map keyed c.args.there.now c.loop-index.index c.in-Some.other.now (slice_get_read c.args.there.now (length c.args.there.now) c.loop-index.index c.in-Some.other.now refl c.in-Some.ensures.lookup.3.0 c.in-Some.ensures.lookup.1))) c.compare_part.result c.compare_part.ensures c.in_default-compare_part.not-Equal ∙ c.loop-index.invariant.same

pub compare_parts-loop-index-preserved : goal.compare_parts-loop-index-preserved
compare_parts-loop-index-preserved t c = record {
  within = omega (arith, c.in-Some.ensures.lookup.3.0);
  same = row_equal (map part_key (map keyed c.args.here.now)) (map part_key (map keyed c.args.there.now)) c.loop-index.index (part_key (keyed c.index-here-index.result)) (part_key (keyed c.in-Some.other.now)) (at_map part_key (map keyed c.args.here.now) c.loop-index.index (keyed c.index-here-index.result) (at_map keyed c.args.here.now c.loop-index.index c.index-here-index.result (slice_get_read c.args.here.now (length c.args.here.now) c.loop-index.index c.index-here-index.result refl c.loop-index-test.true c.index-here-index.is))) (at_map part_key (map keyed c.args.there.now) c.loop-index.index (keyed c.in-Some.other.now) (at_map keyed c.args.there.now c.loop-index.index c.in-Some.other.now (slice_get_read c.args.there.now (length c.args.there.now) c.loop-index.index c.in-Some.other.now refl c.in-Some.ensures.lookup.3.0 c.in-Some.ensures.lookup.1))) (sym c.in-Equal.is ∙ c.compare_part.ensures) ∙ c.loop-index.invariant.same;
}

pub compare_parts-returns-then-here-there : goal.compare_parts-returns-then-here-there
compare_parts-returns-then-here-there t c =
    let here : length (map part_key (map keyed c.args.here.now)) ≡ length c.args.here.now = search (rules, length-map) in
    let there : length (map part_key (map keyed c.args.there.now)) ≡ length c.args.there.now = search (rules, length-map) in
    row_less (map part_key (map keyed c.args.here.now)) (map part_key (map keyed c.args.there.now)) c.loop-index.index (omega arith) (omega arith) ∙ c.loop-index.invariant.same

pub compare_parts-returns-else-here-there : goal.compare_parts-returns-else-here-there
compare_parts-returns-else-here-there t c =
    let here : length (map part_key (map keyed c.args.here.now)) ≡ length c.args.here.now = search (rules, length-map) in
    let there : length (map part_key (map keyed c.args.there.now)) ≡ length c.args.there.now = search (rules, length-map) in
    row_end (map part_key (map keyed c.args.here.now)) (map part_key (map keyed c.args.there.now)) c.loop-index.index (omega arith) (omega arith) ∙ c.loop-index.invariant.same

pub compare_rows-loop-index-init : goal.compare_rows-loop-index-init
compare_rows-loop-index-init t c = record { within = omega arith; same = refl }

pub compare_rows-returns-in_default : goal.compare_rows-returns-in_default
compare_rows-returns-in_default t c =
    let here : length (map key_of c.args.here.now) ≡ length c.args.here.now = search (rules, length-map) in
    let there : length (map key_of c.args.there.now) ≡ length c.args.there.now = search (rules, length-map) in
    row_greater (map key_of c.args.here.now) (map key_of c.args.there.now) c.loop-index.index (rw (there) c.in_default.ensures.lookup.3) (rw (here) c.loop-index-test.true) ∙ c.loop-index.invariant.same

pub compare_rows-returns-in_default-compare : goal.compare_rows-returns-in_default-compare
compare_rows-returns-in_default-compare t c =
    row_unequal (map key_of c.args.here.now) (map key_of c.args.there.now) c.loop-index.index (key_of c.index-here-index.result) (key_of c.in-Some.other.now) (at_map key_of c.args.here.now c.loop-index.index c.index-here-index.result (slice_get_read c.args.here.now (length c.args.here.now) c.loop-index.index c.index-here-index.result refl c.loop-index-test.true c.index-here-index.is)) (at_map key_of c.args.there.now c.loop-index.index c.in-Some.other.now (slice_get_read c.args.there.now (length c.args.there.now) c.loop-index.index c.in-Some.other.now refl c.in-Some.ensures.lookup.3.0 c.in-Some.ensures.lookup.1)) c.compare.result c.compare.ensures c.in_default-compare.not-Equal ∙ c.loop-index.invariant.same

pub compare_rows-loop-index-preserved : goal.compare_rows-loop-index-preserved
compare_rows-loop-index-preserved t c = record {
  within = omega (arith, c.in-Some.ensures.lookup.3.0);
  same = row_equal (map key_of c.args.here.now) (map key_of c.args.there.now) c.loop-index.index (key_of c.index-here-index.result) (key_of c.in-Some.other.now) (at_map key_of c.args.here.now c.loop-index.index c.index-here-index.result (slice_get_read c.args.here.now (length c.args.here.now) c.loop-index.index c.index-here-index.result refl c.loop-index-test.true c.index-here-index.is)) (at_map key_of c.args.there.now c.loop-index.index c.in-Some.other.now (slice_get_read c.args.there.now (length c.args.there.now) c.loop-index.index c.in-Some.other.now refl c.in-Some.ensures.lookup.3.0 c.in-Some.ensures.lookup.1)) (sym c.in-Equal.is ∙ c.compare.ensures) ∙ c.loop-index.invariant.same;
}

pub compare_rows-returns-then-here-there : goal.compare_rows-returns-then-here-there
compare_rows-returns-then-here-there t c =
    let here : length (map key_of c.args.here.now) ≡ length c.args.here.now = search (rules, length-map) in
    let there : length (map key_of c.args.there.now) ≡ length c.args.there.now = search (rules, length-map) in
    row_less (map key_of c.args.here.now) (map key_of c.args.there.now) c.loop-index.index (omega arith) (omega arith) ∙ c.loop-index.invariant.same

pub compare_rows-returns-else-here-there : goal.compare_rows-returns-else-here-there
compare_rows-returns-else-here-there t c =
    let here : length (map key_of c.args.here.now) ≡ length c.args.here.now = search (rules, length-map) in
    let there : length (map key_of c.args.there.now) ≡ length c.args.there.now = search (rules, length-map) in
    row_end (map key_of c.args.here.now) (map key_of c.args.there.now) c.loop-index.index (omega arith) (omega arith) ∙ c.loop-index.invariant.same
