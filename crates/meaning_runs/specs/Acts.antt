-- What calls do, as tasks: the run for every host and the naive run both stand on these.
use Rattle.std.specs.Prelude.{List, Bool, Ok}
use Rattle.just_host.specs.declared.entry.Entry.{Entry}
use Rattle.meaning_dialogues.specs.Dialogue.{Dialogue, Lookup, Variable, Reading}
use Rattle.meaning_dialogues.specs.Evaluation.{Value}
use Rattle.meaning_dialogues.specs.Meaning.{Meaning}
use Rattle.meaning_runs.specs.Failures.{Failure}
use Rattle.meaning_runs.specs.Task.{Task, ends, lift, ◌>>=◌, TaskLeads}
use Rattle.meaning_runs.specs.Told.{Answers}
use Rattle.meaning_runs.specs.Meant.{task_meaning}
use Rattle.meaning_runs.specs.Parts.{Parts}
use Rattle.meaning_runs.specs.Naive.{CallMeaning}

-- What one call does, as a dependency or not: its head, which gives what it is bound to; the calls before its body; its body; the calls after it.
pub record Acts (Call Bound : Type 0) : Type 0 where
  pub same : Call → Call → Bool
  pub shares : Call → Bool
  pub head : Call → Bool → Task Bound
  pub priors : Call → Bool → Bound → Dialogue (List Call)
  pub body : Call → Bool → Bound → Task (Unit {0})
  pub subsequents : Call → Bool → Bound → Dialogue (List Call)

module _ {Call Bound : Type 0} (a : Acts Call Bound) where
  -- a call begins
  abbrev pub begin : Call → Bool → Task (Bound × List Call)
  begin call flag = do
    bound ← a.head call flag
    calls ← lift (a.priors call flag bound)
    ends (Ok (bound, calls))

  -- a call ends
  abbrev pub finish : Call → Bool → Bound → Task (List Call)
  finish call flag bound = do
    u ← a.body call flag bound
    lift (a.subsequents call flag bound)

  -- for every host, where variables are read so
  abbrev pub host_parts : (Call → Reading) → Parts Call Bound Entry Failure
  host_parts reading = record {
    same = a.same;
    shares = a.shares;
    Begins = λ call flag old new r. TaskLeads (reading call) (begin call flag) old new r;
    Ends = λ call flag bound old new r. TaskLeads (reading call) (finish call flag bound) old new r;
  }

  -- by fixed answers, where variables mean this
  abbrev pub meaning_of : Answers → (Call → Lookup → Variable → Meaning Value) → CallMeaning Call Bound Entry Failure
  meaning_of f variables = record {
    head = λ call flag. task_meaning f (variables call) (a.head call flag);
    priors = λ call flag bound. (task_meaning f (variables call) (lift (a.priors call flag bound))).end;
    body = λ call flag bound. task_meaning f (variables call) (a.body call flag bound);
    subsequents = λ call flag bound. (task_meaning f (variables call) (lift (a.subsequents call flag bound))).end;
  }
