-- Where a rank of recipes falls along what their rows name, calls bring about calls of lower rank alone.
use Rattle.std.proofs.Common.{◌<◌, ℕ}
use Rattle.meaning_dialogues.specs.Dialogue.{Lookup, Variable, Reading}
use Rattle.meaning_dialogues.specs.Evaluation.{Value}
use Rattle.meaning_dialogues.specs.Meaning.{Meaning}
use Rattle.meaning_runs.specs.Parts.{AreRanked}
use Rattle.meaning_runs.specs.Acts.{begin, finish, host_parts, meaning_of}
use Rattle.meaning_runs.specs.Task.{lift}
use Rattle.meaning_runs.specs.Told.{Answers}
use Rattle.meaning_runs.specs.Laws.{IsRanked}
use Rattle.meaning_evaluation.specs.Named.{RecipeName, Call}
use Rattle.meaning_evaluation.specs.Calling.{Ground, acts}
use Rattle.laws_agreement.specs.Agreement.Kinds.{FallsAlong}
use Rattle.laws_agreement.proofs.Agreement.Given.{lift_gives, means_gives, goes_gives}
use Rattle.laws_agreement.proofs.Agreement.Closed.{Brings, begin_gives, finish_gives, calls_bring}

module _ (g : Ground) (rank : RecipeName → ℕ) (falling : FallsAlong g.defined rank) where
  lower : (call : Call) → Brings (acts g) call (λ c. rank c.recipe < rank call.recipe)
  lower call = calls_bring g call _ (λ n row d e c other is. rw is (falling.falls call.recipe row d e c))

  -- Calls by fixed answers bring about calls of lower rank alone.
  pub calls_ranked : (f : Answers) (variables : Call → Lookup → Variable → Meaning Value) → IsRanked (meaning_of (acts g) f variables) (λ call. rank call.recipe)
  calls_ranked f variables = record {
    priors = λ call flag bound calls e. means_gives _ f (variables call) (lift ((acts g).priors call flag bound)) calls (lift_gives _ ((acts g).priors call flag bound) ((lower call).0 flag bound)) e;
    subsequents = λ call flag bound calls e. means_gives _ f (variables call) (lift ((acts g).subsequents call flag bound)) calls (lift_gives _ ((acts g).subsequents call flag bound) ((lower call).1 flag bound)) e;
  }

  -- And so do calls for every host.
  pub hosts_ranked : (reading : Call → Reading) → AreRanked (host_parts (acts g) reading) (λ call. rank call.recipe)
  hosts_ranked reading = record {
    begins = λ call flag old new bound calls l. goes_gives _ (reading call) (begin (acts g) call flag) l.piece (bound, calls) (begin_gives (acts g) (λ c. rank c.recipe < rank call.recipe) call flag (lower call)) l.goes;
    ends = λ call flag bound old new calls l. goes_gives _ (reading call) (finish (acts g) call flag bound) l.piece calls (finish_gives (acts g) (λ c. rank c.recipe < rank call.recipe) call flag bound (lower call)) l.goes;
  }
