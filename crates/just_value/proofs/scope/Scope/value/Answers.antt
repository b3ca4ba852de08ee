-- The value is that of the binding which is found.
use Rattle.std.proofs.Common.{◌≡◌, Some, ap, sym, ◌∙◌}
use Rattle.std.specs.Option.{option_map}
use Rattle.just_value.specs.Frames.{bound_of, look_up}
use Rattle.just_value.proofs.scope.Scope.value.Goals as goal

pub returns-in-Some : goal.returns-in-Some
unfolding bound_of
returns-in-Some c =
    let found : Some (bound_of c.in-Some.binding.now) ≡ look_up c.args.self.now c.args.number = ap (option_map (λ b. bound_of b.now)) (sym c.in-Some.is) ∙ c.binding.ensures in
    ap (option_map (λ b. b.value)) found
