-- A name more.
use Rattle.std.proofs.Common.{◌+◌, ◌++◌, ◌∙◌, ap, drop, get_or, length, refl}
use Rattle.std.specs.Option.{option_map}
use Rattle.std.proofs.lemmas.Option.{slice_get_past, slice_get_read}
use Rattle.evaluate_context.specs.declared.context.AssignmentRef.{AssignmentRef}
use Rattle.resolve_recipes.proofs.Resolving.{next_at}
use Rattle.just_resolve.specs.Cycles.{variable_name, variable_names}
use Rattle.just_resolve.proofs.Gathering.{listed_more, listed_none}
use Rattle.just_resolve.proofs.cycles.variable_names.Goals as goal
use Rattle.just_resolve.proofs.cycles.variable_names.Goals.{in-Some+in_ok-push, in_default}

pub loop-place-preserved : goal.loop-place-preserved
loop-place-preserved c =
    let variables = c.args.variables.now in
    let places = c.args.places.now in
    let i = c.loop-place.place-index in
    let x = get_or places i 0 in
    let rest = drop (i + 1) places in
    let next = next_at places i 0 c.loop-place-test.true in
    elim c.match-get.branch [
      | in-Some+in_ok-push w ↦
          ap (λ names. names ++ variable_names variables rest) (w.names-is ∙ w.in_ok-push.ensures.grown)
          ∙ listed_more (variable_name variables) x (drop i places) rest c.loop-place.names next w.in-Some.variable.now.assignment.now.name
          (ap (option_map (λ (lent : AssignmentRef). lent.assignment.now.name)) (slice_get_read variables (length variables) x w.in-Some.variable.now refl w.in-Some.ensures.lookup.3.0 w.in-Some.ensures.lookup.1))
          ∙ c.loop-place.invariant
      | in_default w ↦
          ap (λ names. names ++ variable_names variables rest) w.names-is
          ∙ listed_none (variable_name variables) x (drop i places) rest c.loop-place.names next (ap (option_map (λ (lent : AssignmentRef). lent.assignment.now.name)) (slice_get_past variables x w.in_default.ensures.lookup.3))
          ∙ c.loop-place.invariant
    ]
