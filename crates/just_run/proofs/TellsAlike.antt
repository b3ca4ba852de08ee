-- What is told over sources is told over those of which some stand in their formatted text.
use Rattle.std.proofs.Common.{List, Option, Result, ℕ}
use Rattle.justfile_syntax.specs.Laws.{SaysAtMostOne}
use Rattle.meaning_evaluation.specs.Named.{Definitions}
use Rattle.meaning_evaluation.specs.Scopes.{Configuration}
use Rattle.laws_printing.specs.Formatted.Formatted.{PrintsBack}
use Rattle.meaning_rules.specs.Worlds.Reformatted.{IsReformatted}
use Rattle.meaning_texts.proofs.Alike.{answers_stay_alike, dumps_stay_alike, listings_stay_alike}
use Rattle.meaning_rules.specs.Worlds.Given.{Given, Text, World}
use Rattle.run_tasks.specs.declared.action.Action.{Action}
use Rattle.run_tasks.specs.declared.action.Action.TheVariants as requested
use Rattle.just_run.specs.Named.{GoesNamed, IsAnswered, IsDumped, IsListed, Left, PlansNamed, RunsNamed}
use Rattle.just_run.specs.Named as named
use Rattle.just_run.specs.Sources.{Asked, TellsDefined, TellsNames, TellsSources, TellsWords}
use Rattle.just_run.specs.Sources as told
use Rattle.just_run.specs.declared.fault.Fault.{Fault}
use Rattle.just_run.specs.declared.outcome.Outcome.{Outcome}

module _ (back : PrintsBack) (one : SaysAtMostOne) (source other : Given) (r : IsReformatted source other) (w : World) (root : Text) (left : Left) (result : Result Outcome Fault) where
  listed_too : IsListed source w root left result → IsListed other w root left result
  listed_too h = (h.0, listings_stay_alike back one source other r w w.root h.0 h.1, h.2)

  dumped_too : IsDumped source w root left result → IsDumped other w root left result
  dumped_too h = (h.0, dumps_stay_alike back one source other r h.0 h.1, h.2)

  answered_too : IsAnswered source w root left result → IsAnswered other w root left result
  answered_too h = (h.0, answers_stay_alike back one source other r h.0 h.1, h.2, h.3)

  module _ (c : Configuration) (defined : Definitions) (words : List (List ℕ)) where
    runs_too : RunsNamed source w root c defined words left result → RunsNamed other w root c defined words left result
    runs_too (named.none invoke same h) = named.none invoke same (listed_too h)
    runs_too (named.runs invocations invoke ended begun same) = named.runs invocations invoke ended begun same

    plans_too : PlansNamed source w root c defined words left result → PlansNamed other w root c defined words left result
    plans_too (named.none invoke same h) = named.none invoke same (listed_too h)
    plans_too (named.plans invocations invoke p) = named.plans invocations invoke p

    goes_too : (action : Action) → GoesNamed source w root c defined words left result action → GoesNamed other w root c defined words left result action
    goes_too requested.Run h = runs_too h
    goes_too requested.Plan h = plans_too h
    goes_too requested.Evaluate h = h
    goes_too requested.Command h = h
    goes_too requested.Dump h = dumped_too h
    goes_too requested.Format h = answered_too h
    goes_too requested.List h = listed_too h

  module _ (asked : Asked) where
    words_too : (defined : Definitions) → TellsWords source asked root left result w defined → TellsWords other asked root left result w defined
    words_too defined (told.broken fault is breaks) = told.broken fault is breaks
    words_too defined (told.clear means unruled goes) = told.clear means unruled (goes_too _ defined asked.words.arguments asked.action goes)

    names_too : TellsNames source asked root left result w → TellsNames other asked root left result w
    names_too (told.broken error is breaks) = told.broken error is breaks
    names_too (told.clear none d) = told.clear none (record { defined = d.defined; are = d.are; one = d.one; read = d.read; rows = d.rows; words = words_too d.defined d.words })

    pub tells_too : TellsSources source asked root left result w → TellsSources other asked root left result w
    tells_too (told.broken error is breaks) = told.broken error is breaks
    tells_too (told.clear none names) = told.clear none (names_too names)
