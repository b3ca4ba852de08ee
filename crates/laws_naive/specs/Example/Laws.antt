-- The premises of the laws of naive runs can be met together: in the world of a small justfile there are a run, a refused opening, a plan, and a second input, of which each law speaks.
use Rattle.std.specs.Prelude.{List, [], ◌∷◌, false, codes}
use Rattle.just_host.specs.declared.entry.Entry.{Entry}
use Rattle.just_host.specs.declared.entry.Entry.TheVariants.{Asked, Line}
use Rattle.just_host.specs.declared.host.Status.TheVariants.{Code}
use Rattle.just_host.specs.declared.job.CommandJob.{CommandJob}
use Rattle.meaning_dialogues.specs.Faults.{Fault}
use Rattle.meaning_evaluation.specs.Requests.{opening}
use Rattle.meaning_runs.specs.Invokes.{Invoke}
use Rattle.meaning_runs.specs.Naive.{went}
use Rattle.meaning_runs.specs.Tallies.{Tally}
use Rattle.just_meaning.specs.Agreement.{AgreesRun}
use Rattle.just_meaning.specs.Clear.{IsClear}
use Rattle.just_meaning.specs.Determined.{nothing}
use Rattle.just_meaning.specs.Meanings.{IsNaive}
use Rattle.just_meaning.specs.Menus.{menu_of}
use Rattle.just_meaning.specs.Naively.{GoesNaively, IsRefused}
use Rattle.just_meaning.specs.Planned.{WritesNaively}
use Rattle.just_meaning.specs.Reach.{AgreeOnReach}
use Rattle.just_meaning.specs.Runs.{Runs, ran, not_opened}
use Rattle.run_plan.specs.Plans.{plan_text}
use Rattle.laws_naive.specs.Reach.Alike.{IsRunToo}
use Rattle.laws_naive.specs.Example.Justfile.{a, answers, call, configuration, defined, failed, other, question, told, world}

-- The world is read, breaks no rule and defines what `defined` says; and the word `a` invokes the recipe.
abbrev pub ExampleIsClear : Type 0
ExampleIsClear = IsClear world [] (codes "/w") (codes "/w") defined × Invoke (menu_of defined) (codes "a" ∷ []) ((a, []) ∷ [])

-- what a run records that asks for the variable and hands the command over
abbrev pub handed : CommandJob → List Entry
handed job = Asked question told ∷ Line job (Code 0) ∷ []

-- A run that hands the command over: it agrees with answers, goes as they mean, and its event is the one of the naive run. It is a run by the second input too, which differs and agrees on what is reached, and its plan is the text of the naive run.
pub record RunsNaively : Type 0 where
  pub job : CommandJob
  pub t : Tally
  pub run : Runs {Rule = ⊥} configuration defined (call ∷ []) [] nothing (handed job) t ran
  pub agrees : AgreesRun (answers told) configuration defined run
  pub goes : GoesNaively (answers told) configuration defined (call ∷ []) {Rule = ⊥} [] (handed job) ran
  pub naive : IsNaive configuration defined (answers told) (call ∷ []) (record { events = Line job (Code 0) ∷ []; end = went tt })
  pub plan : WritesNaively (answers told) configuration defined (call ∷ []) {Rule = ⊥} (plan_text (handed job)) ran
  pub reached : AgreeOnReach false (a ∷ []) defined other
  pub moved : IsRunToo {Rule = ⊥} configuration other (call ∷ []) [] (handed job) nothing t ran (λ f. AgreesRun f configuration defined run)

-- A run whose opening is refused: it agrees with answers that refuse the opening, and goes as they mean.
pub record IsRefusedNaively : Type 0 where
  pub fault : Fault
  pub run : Runs {Rule = ⊥} configuration defined (call ∷ []) [] nothing (Asked question failed ∷ []) nothing (not_opened (opening fault))
  pub agrees : AgreesRun (answers failed) configuration defined run
  pub goes : GoesNaively (answers failed) configuration defined (call ∷ []) {Rule = ⊥} [] (Asked question failed ∷ []) (not_opened (opening fault))
  pub refused : IsRefused (answers failed) configuration defined (call ∷ [])
