-- The value is at the key's place, or nowhere.
use Rattle.std.proofs.Common.{arith, ap, refl, ◌∙◌}
use Rattle.modules_compilation.specs.Tables.{at}
use Rattle.modules_compilation.proofs.Tabled.{place_inside, value_found, none_found}
use Rattle.modules_compilation.proofs.table.Table.get_mut.Goals as goal

pub index_mut-requires : goal.index_mut-requires
index_mut-requires g c = omega (arith, place_inside c.self.inside.keys.items c.self.inside.values.items _ refl c.self.invariant c.in-Ok.place c.args.key.now c.in-Ok.ensures.place)

pub returns-in-Ok : goal.returns-in-Ok
returns-in-Ok g c = value_found c.self.inside.keys.items c.self.inside.values.items _ refl c.self.invariant c.in-Ok.place c.args.key.now c.index_mut.result.now c.in-Ok.ensures.place c.index_mut.ensures.value ∙ ap (λ t. at t c.args.key.now) c.self.view_is

pub returns-in-Err : goal.returns-in-Err
returns-in-Err g c = none_found c.self.inside.keys.items c.self.inside.values.items _ refl c.self.invariant c.in-Err.field-0 c.args.key.now c.in-Err.ensures.place.1 ∙ ap (λ t. at t c.args.key.now) c.self.view_is
