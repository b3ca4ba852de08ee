-- A comparison halves what is left, and the key stands where the two are equal.
use Rattle.std.proofs.Common.{arith, ◌+◌, ◌-◌, ◌/◌, ◌^◌, sym, ap, ◌∙◌}
use Rattle.std.specs.Map.{keys_of}
use Rattle.std.proofs.lemmas.Cmp.{nat_list_cmp_total}
use Rattle.modules_compilation.specs.Tables.{text_cmp}
use Rattle.just_value.proofs.Halves.{fewer, lowered, raised}
use Rattle.modules_compilation.proofs.Tabled.{text_read, key_found, ascending_view, length_keys, whole_table}
use Rattle.modules_compilation.proofs.table.Table.position.Goals as goal

pub loop-low-init : goal.loop-low-init
loop-low-init g c = whole_table c.self.inside.keys.items c.self.inside.values.items c.args.self.now c.self.view_is c.self.invariant c.args.key.now c.args.steps.now.taken c.len-high.result (omega (arith, c.len-high.ensures))

pub index-requires : goal.index-requires
index-requires g c = omega (arith, length_keys c.self.inside.keys.items c.self.inside.values.items c.args.self.now c.self.view_is c.self.invariant)

pub loop-low-preserved-in-Less : goal.loop-low-preserved-in-Less
loop-low-preserved-in-Less g c =
    let low = c.loop-low.low in let high = c.loop-low.high in let mid = low + (high - low) / 2 in
    let read = text_read c.self.inside.keys.items c.self.inside.values.items c.args.self.now c.self.view_is c.self.invariant mid c.index.result.now (omega arith) c.index.ensures in (
      fewer c.loop-low.steps.taken c.compare.new.self.taken (mid - low) (high - low) _ (2 ^ 64 - 1) c.compare.ensures.counted (omega arith) (omega arith) c.loop-low.invariant.0,
      lowered nat_list_cmp_total (keys_of c.args.self.now) c.args.key.now (ascending_view c.self.inside.keys.items c.self.inside.values.items c.args.self.now c.self.view_is c.self.invariant) low high mid (omega arith) (omega arith) c.loop-low.invariant.1
          (λ d. ap (text_cmp c.args.key.now) (sym (read d)) ∙ sym c.in-Less.ensures.order),
    )

pub returns-in-Equal-clause-place : goal.returns-in-Equal-clause-place
returns-in-Equal-clause-place g c =
    let mid = c.loop-low.low + (c.loop-low.high - c.loop-low.low) / 2 in
    key_found c.self.inside.keys.items c.self.inside.values.items c.args.self.now c.self.view_is c.self.invariant mid c.index.result.now c.args.key.now (omega arith) c.index.ensures c.in-Equal.ensures.order

pub loop-low-preserved : goal.loop-low-preserved
loop-low-preserved g c =
    let low = c.loop-low.low in let high = c.loop-low.high in let mid = low + (high - low) / 2 in
    let read = text_read c.self.inside.keys.items c.self.inside.values.items c.args.self.now c.self.view_is c.self.invariant mid c.index.result.now (omega arith) c.index.ensures in (
      fewer c.loop-low.steps.taken c.compare.new.self.taken (high - (mid + 1)) (high - low) _ (2 ^ 64 - 1) c.compare.ensures.counted (omega arith) (omega arith) c.loop-low.invariant.0,
      raised nat_list_cmp_total (keys_of c.args.self.now) c.args.key.now (ascending_view c.self.inside.keys.items c.self.inside.values.items c.args.self.now c.self.view_is c.self.invariant) low high mid (omega arith) (omega arith) c.loop-low.invariant.1
          (λ d. ap (text_cmp c.args.key.now) (sym (read d)) ∙ sym c.in-Greater.ensures.order),
    )
