-- The rows with the entry at the place that the search finds are in order, and are the table with the entry.
use Rattle.std.proofs.Common.{arith, ap, ap₂, refl, set, Some, ◌∙◌}
use Rattle.std.specs.List.{zip}
use Rattle.std.proofs.lemmas.List.{length-set}
use Rattle.modules_compilation.specs.Tables.{texts}
use Rattle.modules_compilation.proofs.Tabled.{place_inside, length_keys, ascending_view, same_rows, new_rows, value_found, none_found, put_set, put_inserted}
use Rattle.modules_compilation.proofs.table.Table.insert.Goals as goal

pub index_mut-requires : goal.index_mut-requires
index_mut-requires g c = omega (arith, place_inside c.self.inside.keys.items c.self.inside.values.items c.args.self.now c.self.view_is c.self.invariant c.in-Ok.place c.args.key.now c.in-Ok.ensures.place)

pub insert_both-requires-clause-keys_inside : goal.insert_both-requires-clause-keys_inside
insert_both-requires-clause-keys_inside g c = omega (arith, c.in-Err.ensures.place.0, length_keys c.self.inside.keys.items c.self.inside.values.items c.args.self.now c.self.view_is c.self.invariant)

pub insert_both-requires-clause-values_inside : goal.insert_both-requires-clause-values_inside
insert_both-requires-clause-values_inside g c = omega (arith, c.in-Err.ensures.place.0, length_keys c.self.inside.keys.items c.self.inside.values.items c.args.self.now c.self.view_is c.self.invariant, c.self.invariant.0)

pub returns-in_err-insert_both-in-Err-clause-ascending : goal.returns-in_err-insert_both-in-Err-clause-ascending
returns-in_err-insert_both-in-Err-clause-ascending g c = ascending_view c.insert_both.new.keys.items c.insert_both.new.values.items _ refl (same_rows c.self.inside.keys.items c.self.inside.values.items c.args.self.now c.self.view_is c.self.invariant c.insert_both.new.keys.items c.insert_both.new.values.items c.in_err-insert_both-in-Err.ensures.refused)

pub invariant_of-self-in-Err : goal.invariant_of-self-in-Err
invariant_of-self-in-Err g c = new_rows c.self.inside.keys.items c.self.inside.values.items c.args.self.now c.self.view_is c.self.invariant c.in-Err.place c.args.key c.args.value c.in-Err.ensures.place c.insert_both.new.keys.items c.insert_both.new.values.items c.in_ok-insert_both-in-Err.ensures.put

pub returns-in-Ok-clause-earlier : goal.returns-in-Ok-clause-earlier
returns-in-Ok-clause-earlier g c =
    ap Some c.replace.ensures.value ∙ value_found c.self.inside.keys.items c.self.inside.values.items c.args.self.now c.self.view_is c.self.invariant c.in-Ok.place c.args.key.now c.index_mut.result.now c.in-Ok.ensures.place c.index_mut.ensures.value

pub returns-in-Ok-clause-put : goal.returns-in-Ok-clause-put
returns-in-Ok-clause-put g c =
    ap (λ w. zip (texts c.self.inside.keys.items) (set c.self.inside.values.items c.in-Ok.place w)) c.replace.ensures.after
    ∙ put_set c.self.inside.keys.items c.self.inside.values.items c.args.self.now c.self.view_is c.self.invariant c.in-Ok.place c.args.key.now c.args.value c.in-Ok.ensures.place

pub returns-in-Ok-clause-ascending : goal.returns-in-Ok-clause-ascending
returns-in-Ok-clause-ascending g c =
    ascending_view c.self.inside.keys.items (set c.self.inside.values.items c.in-Ok.place c.replace.new.dest) _ refl
    (length-set c.self.inside.values.items c.in-Ok.place c.replace.new.dest ∙ c.self.invariant.0, c.self.invariant.1)

pub returns-in_ok-insert_both-in-Err-clause-earlier : goal.returns-in_ok-insert_both-in-Err-clause-earlier
returns-in_ok-insert_both-in-Err-clause-earlier g c = none_found c.self.inside.keys.items c.self.inside.values.items c.args.self.now c.self.view_is c.self.invariant c.in-Err.place c.args.key.now c.in-Err.ensures.place.1

pub returns-in_ok-insert_both-in-Err-clause-put : goal.returns-in_ok-insert_both-in-Err-clause-put
returns-in_ok-insert_both-in-Err-clause-put g c =
    ap₂ (λ ks vs. zip (texts ks) vs) c.in_ok-insert_both-in-Err.ensures.put.0 c.in_ok-insert_both-in-Err.ensures.put.1
    ∙ put_inserted c.self.inside.keys.items c.self.inside.values.items c.args.self.now c.self.view_is c.self.invariant c.in-Err.place c.args.key c.args.value c.in-Err.ensures.place

pub returns-in_ok-insert_both-in-Err-clause-ascending : goal.returns-in_ok-insert_both-in-Err-clause-ascending
returns-in_ok-insert_both-in-Err-clause-ascending g c = ascending_view c.insert_both.new.keys.items c.insert_both.new.values.items _ refl (new_rows c.self.inside.keys.items c.self.inside.values.items c.args.self.now c.self.view_is c.self.invariant c.in-Err.place c.args.key c.args.value c.in-Err.ensures.place c.insert_both.new.keys.items c.insert_both.new.values.items c.in_ok-insert_both-in-Err.ensures.put)
