-- The binding at the place that the search finds keeps the order, and is the number's.
use Rattle.std.proofs.Common.{map, sym, subst}
use Rattle.just_value.specs.Frames.{ByNumber, Rebinds, bound_of}
use Rattle.just_value.proofs.Numbered.{set_by_number, set_rebinds, inserted_by_number, inserted_rebinds}
use Rattle.just_value.proofs.frame.Frame.bind.Goals as goal

pub invariant_of-self : goal.invariant_of-self
invariant_of-self c =
    subst (λ l. ByNumber (map bound_of l)) (sym c.set.ensures)
    (set_by_number c.self.inside.bindings c.args.self.now c.self.view_is (subst ByNumber c.self.view_is c.self.invariant) c.in-Ok.place c.args.binding c.in-Ok.ensures.place)

pub invariant_of-self-in-Err : goal.invariant_of-self-in-Err
invariant_of-self-in-Err c =
    inserted_by_number c.self.inside.bindings c.args.self.now c.self.view_is (subst ByNumber c.self.view_is c.self.invariant) c.in-Err.place c.args.binding c.in-Err.ensures.place.1
    c.insert.result c.insert.new.self c.insert.ensures.items

pub returns-in-Ok-clause-sorted : goal.returns-in-Ok-clause-sorted
returns-in-Ok-clause-sorted c =
    subst (λ l. ByNumber (map bound_of l)) (sym c.set.ensures)
    (set_by_number c.self.inside.bindings c.args.self.now c.self.view_is (subst ByNumber c.self.view_is c.self.invariant) c.in-Ok.place c.args.binding c.in-Ok.ensures.place)

pub returns-in-Err-clause-sorted : goal.returns-in-Err-clause-sorted
returns-in-Err-clause-sorted c =
    inserted_by_number c.self.inside.bindings c.args.self.now c.self.view_is (subst ByNumber c.self.view_is c.self.invariant) c.in-Err.place c.args.binding c.in-Err.ensures.place.1
    c.insert.result c.insert.new.self c.insert.ensures.items

pub returns-in-Ok-clause-bound : goal.returns-in-Ok-clause-bound
returns-in-Ok-clause-bound c =
    subst (λ l. Rebinds c.args.self.now (bound_of c.args.binding) (map bound_of l)) (sym c.set.ensures)
    (set_rebinds c.self.inside.bindings c.args.self.now c.self.view_is (subst ByNumber c.self.view_is c.self.invariant) c.in-Ok.place c.args.binding c.in-Ok.ensures.place)

pub returns-in-Err-clause-bound : goal.returns-in-Err-clause-bound
returns-in-Err-clause-bound c =
    inserted_rebinds c.self.inside.bindings c.args.self.now c.self.view_is (subst ByNumber c.self.view_is c.self.invariant) c.in-Err.place c.args.binding c.in-Err.ensures.place.1
    c.insert.result c.insert.new.self c.insert.ensures.items
