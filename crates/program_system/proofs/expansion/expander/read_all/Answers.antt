-- Each turn takes one character.
use Rattle.std.proofs.Common.{sym, ◌∙◌}
use Rattle.std.proofs.lemmas.List.{nil_from_length}
use Rattle.std.proofs.lemmas.Str.{IsUtf8-past_char}
use Rattle.program_system.proofs.Taking.{steps, refuses, ends}
use Rattle.program_system.proofs.expansion.expander.read_all.Goals as goal

pub loop-character-preserved : goal.loop-character-preserved
loop-character-preserved c = (
  IsUtf8-past_char _ _ _ c.loop-character.invariant.0 c.in-Some.ensures.steps.0,
  sym (steps _ _ _ _ _ c.in-Some.character c.loop-character.invariant.0 c.in-Some.ensures.steps.0 c.in-Ok.ensures) ∙ c.loop-character.invariant.1,
)

pub returns-in-Err : goal.returns-in-Err
returns-in-Err c = refuses _ _ _ _ _ c.in-Some.character c.in-Err.fault _ c.loop-character.invariant.0 c.in-Some.ensures.steps.0 c.in-Err.ensures c.loop-character.invariant.1

pub returns : goal.returns
returns c = ends _ _ _ _ _ (nil_from_length _ c.in_default.ensures.steps.0.0) c.loop-character.invariant.1 c.finish.ensures
