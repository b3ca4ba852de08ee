-- What was recorded of a call is that of a step that may be cut.
use Rattle.std.proofs.Common.{◌≡◌, inl, inr, Bool, ℕ, List, Some, None, Ok, Err, refl, subst}
use Rattle.just_host.specs.declared.entry.Entry.{Entry}
use Rattle.evaluate_context.specs.declared.context.ExecutionContext.{ExecutionContext}
use Rattle.meaning_dialogues.specs.Faults.{memory}
use Rattle.meaning_runs.specs.Failures.{Failure, evaluation}
use Rattle.meaning_runs.specs.Task.{TaskBegins}
use Rattle.analyze_calls.specs.Around.{TailsBegin, head_task, own_reading, own_stage}
use Rattle.analyze_calls.specs.Binding.{Binds}
use Rattle.analyze_calls.specs.Calls.{CallRow}
use Rattle.analyze_calls.specs.Entered.{EnteredRow}
use Rattle.analyze_calls.specs.Placed.{placed_in}
use Rattle.analyze_calls.specs.declared.plan.Planned.{Planned}
use Rattle.analyze_calls.specs.declared.plan.Runner.{Runner}
use Rattle.analyze_calls.specs.Runs.Cut.{HasBegun, HasEnded, in_head, in_tails}
use Rattle.analyze_calls.specs.Runs.Steps.{here, nowhere, nowhere_ends, unbound}

module _ (runner : Runner) (planned : Planned) (context : ExecutionContext) (call : CallRow) (flag : Bool) (there : placed_in runner call.recipe ≡ Some (planned, context)) where
  module _ (groups : List (List (List ℕ))) (is : groups ≡ call.groups) where
    -- its parameters could not be bound
    pub unbound_begun : (old new : List Entry) (failure : Failure) → Binds planned context flag groups old new (Err failure) → HasBegun runner call flag old new
    unbound_begun old new failure b = record { result = Err failure; begins = inl (here there (unbound (subst (λ gs. Binds planned context flag gs old new (Err failure)) is b))) }

    -- they were bound, and its head was recorded in part, or whole
    pub head_begun : (flag' : Bool) (e e' : EnteredRow) (old mid new : List Entry) → flag' ≡ flag → e' ≡ e → Binds planned context flag groups old mid (Ok e)
        → TaskBegins (own_reading planned context flag' e') (head_task runner planned context.config.now (own_stage planned context flag' e')) mid new → HasBegun runner call flag old new
    head_begun flag' e e' old mid new same_flag same b h = record {
      result = Err (evaluation memory);
      begins = inr (
        refl,
        in_head there (subst (λ gs. Binds planned context flag gs old mid (Ok e)) is b)
            (subst (λ (q : Bool × EnteredRow). TaskBegins (own_reading planned context q.0 q.1) (head_task runner planned context.config.now (own_stage planned context q.0 q.1)) mid new) (λ i. (same_flag i, same i)) h),
      );
    }

  -- its body and what follows it were recorded in part, or whole
  pub tails_begun : (entered : EnteredRow) (old new : List Entry) → TailsBegin planned context flag entered runner old new → HasEnded runner call flag entered old new
  tails_begun entered old new h = record { result = Err (evaluation memory); ends = inr (refl, in_tails there h) }

-- a call of no recipe
pub lost_begun : (runner : Runner) (call : CallRow) (flag : Bool) (log : List Entry) (failure : Failure) → placed_in runner call.recipe ≡ None → HasBegun runner call flag log log
lost_begun runner call flag log failure e = record { result = Err failure; begins = inl (nowhere e refl refl) }

pub lost_ended : (runner : Runner) (call : CallRow) (flag : Bool) (entered : EnteredRow) (log : List Entry) (failure : Failure) → placed_in runner call.recipe ≡ None → HasEnded runner call flag entered log log
lost_ended runner call flag entered log failure e = record { result = Err failure; ends = inl (nowhere_ends e refl refl) }
