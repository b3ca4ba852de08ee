-- A body is one script, or lines.
use Rattle.std.proofs.Common.{◌≡◌, ℕ, List, Bool, true, false, Result}
use Rattle.just_host.specs.Record.{Record}
use Rattle.meaning_dialogues.specs.Dialogue.{Reading}
use Rattle.meaning_evaluation.specs.Stages.Parameters.{Bound}
use Rattle.meaning_runs.specs.Failures.{Failure}
use Rattle.meaning_evaluation.specs.Named.{RecipeRow}
use Rattle.meaning_evaluation.specs.Scopes.{Configuration, Scene}
use Rattle.meaning_evaluation.specs.Bodies.{commands, is_script}
use Rattle.meaning_evaluation.specs.Calling.{lines_task, script_task, body_task}
use Rattle.laws_evaluation.specs.Bodies.Performing.{Performs}

module _ {H : Type 0} (c : Configuration) (scene : Scene) (name : List ℕ) (recipe : RecipeRow) (flag : Bool) (bound : Bound) (reading : Reading) (old new : Record H) (r : Result (Unit {0}) Failure) where
  -- a body that is a script
  pub body_script : (b : Bool) → b ≡ is_script c scene name recipe flag bound → b ≡ true → Performs reading (script_task c scene name recipe flag bound) old new r → Performs reading (body_task c scene name recipe flag bound) old new r
  body_script b is e h = rw (← is, e) h

  -- a body whose lines are commands
  pub body_lines : (b : Bool) → b ≡ is_script c scene name recipe flag bound → b ≡ false → Performs reading (lines_task c scene name recipe flag bound (commands scene.row.ignore_comments recipe.body)) old new r → Performs reading (body_task c scene name recipe flag bound) old new r
  body_lines b is e h = rw (← is, e) h
