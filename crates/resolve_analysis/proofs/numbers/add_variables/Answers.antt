-- One place more.
use Rattle.std.proofs.Common.{◌<◌, ◌+◌, Some, length, take, take_all, ap, ◌∙◌, sym, subst}
use Rattle.std.specs.Prelude.{if◌then◌else◌}
use Rattle.std.specs.Str.{bytes_eq}
use Rattle.tree_items.specs.Contexts.{number_in}
use Rattle.resolve_analysis.specs.Lists.{variable_of}
use Rattle.resolve_analysis.proofs.Kept.{not_variable}
use Rattle.resolve_analysis.proofs.Named.{StandsOver, no_variable_more, numbers_at, variable_more}
use Rattle.resolve_analysis.proofs.numbers.add_variables.Goals as goal
use Rattle.resolve_analysis.proofs.numbers.add_variables.Goals.{in-Some+in_ok-set, in_default}

pub loop-place-preserved : goal.loop-place-preserved
loop-place-preserved c =
    let compilation = c.args.compilation.now in
    let places = c.args.places.now in
    let i = c.loop-place.place-index in
    let lt : i < length places = c.loop-place-test.true in
    let old = c.loop-place.names in
    elim c.match-assignment.branch [
      | in-Some+in_ok-set w ↦
          subst (λ n. StandsOver compilation n (numbers_at compilation (take (i + 1) places)) (number_in c.args.names.now)) (sym w.names-is)
          (variable_more compilation places i _ w.in-Some.assignment.now old w.set.new.self (number_in c.args.names.now) lt (ap variable_of w.in-Some.ensures.found) c.loop-place.invariant
          (λ other. w.in_ok-set.ensures other ∙ ap (λ t. if bytes_eq t other then Some w.in-Some.assignment.now.number else number_in old other) w.lexeme.ensures))
      | in_default w ↦
          subst (λ n. StandsOver compilation n (numbers_at compilation (take (i + 1) places)) (number_in c.args.names.now)) (sym w.names-is)
          (no_variable_more compilation places i _ old (number_in c.args.names.now) lt (not_variable _ (sym w.in_default.ensures.there)) c.loop-place.invariant)
    ]

pub returns : goal.returns
returns c = subst (λ l. StandsOver c.args.compilation.now c.loop-place.names (numbers_at c.args.compilation.now l) (number_in c.args.names.now)) (take_all c.loop-place.place-index c.args.places.now c.loop-place-test.false) c.loop-place.invariant
