-- The text of a plan is that of its events, which are those of the naive run.
use Rattle.std.proofs.Common.{◌≡◌, List, [], ◌∷◌, ◌++◌, Some, Ok, Err, refl, sym, ap, ◌∙◌, subst}
use Rattle.std.specs.List.{AllByRecursion}
use Rattle.just_host.specs.Follows.{questions}
use Rattle.just_host.specs.declared.entry.Entry.{Entry}
use Rattle.just_host.specs.declared.entry.Entry.TheVariants.{Asked, Line, Script, Confirm, Show, Dotenv}
use Rattle.meaning_runs.specs.Laws.{events_of}
use Rattle.meaning_runs.specs.Meant.{is_event}
use Rattle.meaning_runs.proofs.Pieces.{grown}
use Rattle.meaning_runs.specs.Told.{Answers, holds}
use Rattle.meaning_evaluation.specs.Named.{Definitions, paths_of}
use Rattle.just_meaning.specs.Opening.{IsOpened}
use Rattle.just_meaning.specs.Runs as runs
use Rattle.laws_agreement.proofs.Agreement.Lists.{all_append}
use Rattle.laws_agreement.proofs.Determined.Openings.{all_quiet}
use Rattle.just_meaning.specs.Naively.{HoldEverywhere}
use Rattle.just_meaning.specs.Runs.{recipes_of}
use Rattle.just_meaning.specs.Naively as naively
use Rattle.laws_naive.proofs.Naive.Ranks.{dependencies_fall}
use Rattle.laws_naive.proofs.Naive.Records.{records_agree}
use Rattle.laws_naive.proofs.Naive.Worlds.{invoked_go_naively}
use Rattle.just_meaning.proofs.Naively.{plans_tell_naively}
use Rattle.run_plan.specs.Answered.{AreWellAnswered}
use Rattle.laws_naive.specs.Plans.Laws.{AgreeingAnswerWell, AnswersWell, PlansAgree, PlansAreNaive, ReachedPlansAreNaive}
use Rattle.just_meaning.specs.Planned as planned
use Rattle.laws_naive.proofs.Inputs.Reached.{reached_go_naively}

-- what is asked holds, and what is handed over is answered well, so each entry holds
each_holds : (f : Answers) (defined : Definitions) (entries : List Entry) → AreWellAnswered entries → AllByRecursion (HoldEverywhere f defined) (questions entries) → AllByRecursion (AnswersWell f) entries → AllByRecursion (HoldEverywhere f defined) entries
each_holds f defined [] well asked answers = tt
each_holds f defined (Asked question answer ∷ entries) well asked answers = (asked.0, each_holds f defined entries well.1 asked.1 answers.1)
each_holds f defined (Dotenv request answer ∷ entries) well asked answers = (asked.0, each_holds f defined entries well.1 asked.1 answers.1)
each_holds f defined (Line job status ∷ entries) well asked answers = let e = answers.0 ∙ ap Some (sym well.0) in ((e, λ path. e), each_holds f defined entries well.1 asked answers.1)
each_holds f defined (Script job status ∷ entries) well asked answers = let e = answers.0 ∙ ap Some (sym well.0) in ((e, λ path. e), each_holds f defined entries well.1 asked answers.1)
each_holds f defined (Confirm prompt answer ∷ entries) well asked answers = let e = answers.0 ∙ ap Some (sym well.0) in ((e, λ path. e), each_holds f defined entries well.1 asked answers.1)
each_holds f defined (Show text ∷ entries) well asked answers = ((tt, λ path. tt), each_holds f defined entries well.1 asked answers.1)

pub plans_agree : (Rule : Type 0) → PlansAgree Rule
plans_agree Rule f c defined calls entries t outcome run well asked answers = records_agree Rule f c defined calls [] entries t outcome run entries refl (each_holds f defined entries well asked answers)

-- what has no event is answered well by all answers
quiet_well : (f : Answers) (entries : List Entry) → events_of is_event entries ≡ [] → AllByRecursion (AnswersWell f) entries
quiet_well f [] e = tt
quiet_well f (Asked question answer ∷ entries) e = (tt, quiet_well f entries e)
quiet_well f (Dotenv request answer ∷ entries) e = (tt, quiet_well f entries e)
quiet_well f (Line job status ∷ entries) e = absurd (cc)
quiet_well f (Script job status ∷ entries) e = absurd (cc)
quiet_well f (Confirm prompt answer ∷ entries) e = absurd (cc)
quiet_well f (Show text ∷ entries) e = absurd (cc)

-- what is held, and was answered well, is answered well
held_well : (f : Answers) (entries : List Entry) → AreWellAnswered entries → AllByRecursion (holds f f.recipe) entries → AllByRecursion (AnswersWell f) entries
held_well f [] well held = tt
held_well f (Asked question answer ∷ entries) well held = (tt, held_well f entries well.1 held.1)
held_well f (Dotenv request answer ∷ entries) well held = (tt, held_well f entries well.1 held.1)
held_well f (Line job status ∷ entries) well held = (held.0 ∙ ap Some well.0, held_well f entries well.1 held.1)
held_well f (Script job status ∷ entries) well held = (held.0 ∙ ap Some well.0, held_well f entries well.1 held.1)
held_well f (Confirm prompt answer ∷ entries) well held = (held.0 ∙ ap Some well.0, held_well f entries well.1 held.1)
held_well f (Show text ∷ entries) well held = (tt, held_well f entries well.1 held.1)

well_rest : (p q : List Entry) → AreWellAnswered (p ++ q) → AreWellAnswered q
well_rest [] q h = h
well_rest (entry ∷ p) q h = well_rest p q h.1

pub agreeing_answer_well : (Rule : Type 0) → AgreeingAnswerWell Rule
agreeing_answer_well Rule f c defined calls entries t outcome (runs.refused {fault = fault} opens) well agrees =
    let q = all_quiet c defined (IsOpened defined c.no_dependencies (recipes_of calls)) (paths_of defined.modules) [] entries (Err fault) opens in
    subst (AllByRecursion (AnswersWell f)) (sym q.entries) (quiet_well f q.piece q.quiet)
agreeing_answer_well Rule f c defined calls entries t outcome (runs.opened {mid = mid} {opened = os} opens run) well agrees =
    let q = all_quiet c defined (IsOpened defined c.no_dependencies (recipes_of calls)) (paths_of defined.modules) [] mid (Ok os) opens in
    let e = grown [] q.piece agrees.1.piece q.entries agrees.1.entries in
    subst (AllByRecursion (AnswersWell f)) (sym e) (all_append (AnswersWell f) q.piece agrees.1.piece (quiet_well f q.piece q.quiet) (held_well f agrees.1.piece (well_rest q.piece agrees.1.piece (subst AreWellAnswered e well)) agrees.1.agrees))

pub plans_are_naive : (Rule : Type 0) → PlansAreNaive Rule
plans_are_naive Rule w o base working defined clear c words invocations invoke f entries t outcome run agrees =
    plans_tell_naively Rule f c defined _ entries outcome (invoked_go_naively dependencies_fall Rule w o clear.none clear.read clear.order base working defined clear.are clear.rows c words invocations invoke f [] entries t outcome run agrees)

pub reached_plans_are_naive : (Rule : Type 0) → ReachedPlansAreNaive Rule
reached_plans_are_naive Rule w w' o o' base working base' working' defined other clear clear' c words words' invocations invoke invoke' agree f entries t outcome run agrees =
    plans_tell_naively Rule f c other _ entries outcome (reached_go_naively Rule w w' o o' base working base' working' defined other clear clear' c words words' invocations invoke invoke' agree f [] entries t outcome run agrees)
