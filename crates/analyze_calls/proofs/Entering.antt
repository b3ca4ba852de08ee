-- What recipes are bound to, for each way that it goes.
use Rattle.std.proofs.Common.{◌≡◌, ◌∷◌, ◌∙◌, [], append-nil, ap, refl, subst, sym, Bool, List, ℕ}
use Rattle.std.specs.Prelude.{Err, Ok, Result}
use Rattle.just_host.specs.declared.entry.Entry.{Entry}
use Rattle.just_host.specs.Follows.{Nothing}
use Rattle.just_host.specs.AskingLaws.{asked_nothing}
use Rattle.just_host.specs.Kinds.{AsksQuestions, AsksWork, Only}
use Rattle.just_host.specs.KindsLaws.{every, every_question, every_work, only_nothing}
use Rattle.just_host.specs.Asking.{Asks}
use Rattle.just_host.specs.Record.{Record}
use Rattle.just_value.specs.Frames.{Frames}
use Rattle.evaluate_context.specs.Refusals.{fault_of}
use Rattle.evaluate_context.specs.declared.context.ExecutionContext.{ExecutionContext}
use Rattle.evaluate_context.specs.declared.error.Error.{Error}
use Rattle.evaluate_variables.specs.Given.{AreCounted, BoundRecipe, HasRowsOf}
use Rattle.evaluate_variables.specs.declared.parameters.BoundParameters.{BoundParameters}
use Rattle.meaning_dialogues.specs.Calls.{HasValues, empty}
use Rattle.meaning_dialogues.specs.Evaluation.{Value}
use Rattle.meaning_dialogues.specs.Faults.{memory}
use Rattle.meaning_dialogues.proofs.Dialogues.{not_begun}
use Rattle.evaluate_expressions.proofs.WantOfMemory.{unless_memory}
use Rattle.meaning_runs.specs.Failures.{Failure, evaluation}
use Rattle.meaning_evaluation.specs.Stages.Parameters.{Formal}
use Rattle.analyze_calls.specs.Binding.{Binds, Grew, may_have}
use Rattle.analyze_calls.specs.Entered.{EnteredRow, bound_row, inside}
use Rattle.analyze_calls.specs.declared.plan.Planned.{Planned}

-- ---- records that grow

grown : {H : Type 0} (goes : H → List Entry → H → Type 0) → Nothing goes → (a b : Record H) → Asks (Only every goes) a b → Grew a.entries b.entries
grown goes nothing a b asks =
    let asked = asks a (asked_nothing (Only every goes) (only_nothing every goes nothing) a) in
    record { piece = asked.followed.part; entries = asked.followed.entries }

pub grown_asked : {H : Type 0} (goes : H → List Entry → H → Type 0) → Nothing goes → (a b : Record H) → AsksQuestions goes a b → Grew a.entries b.entries
grown_asked goes nothing a b asks = grown goes nothing a b (every_question goes a b asks)

pub grown_worked : {H : Type 0} (goes : H → List Entry → H → Type 0) → Nothing goes → (dry : Bool) (a b : Record H) → AsksWork dry goes a b → Grew a.entries b.entries
grown_worked goes nothing dry a b asks = grown goes nothing a b (every_work goes a b dry asks)

pub grown_none : (log : List Entry) → Grew log log
grown_none log = record { piece = []; entries = sym (append-nil log) }

-- ---- frames

-- an empty frame inside these
pub is_inside : (scope frames : Frames) → (scope.own ≡ []) × (scope.outer ≡ frames.own ∷ frames.outer) → scope ≡ inside frames
is_inside scope frames e = λ i. record { own = e.0 i; outer = e.1 i }

none_bound : (frames : Frames) → HasValues (inside frames).own empty
none_bound frames = record { at = λ number. refl }

-- ---- what recipes are bound to

module _ (planned : Planned) (context : ExecutionContext) (flag : Bool) (groups : List Value) (old new : List Entry) where
  -- what `evaluate_parameters` says of a recipe that is bound from these frames on, or refused
  abbrev pub IsBoundFrom : Frames → Frames → Result BoundParameters Error → Type 0
  IsBoundFrom here after result = (counts : Formal → ℕ → Bool) → AreCounted may_have counts planned.recipe.now.parameters.items → HasValues here.own empty → BoundRecipe context flag planned.recipe.now counts groups here old new after result

  pub bound_given : (here after : Frames) (given : BoundParameters) → here ≡ inside context.scope.now → after.outer ≡ here.outer → Grew old new → (HasValues here.own empty → HasRowsOf planned.recipe.now.parameters.items after.own) → IsBoundFrom here after (Ok given) → Binds planned context flag groups old new (Ok (bound_row after given))
  bound_given here after given is around grew rows h = record {
    grew = grew;
    by_test = λ counts counted.
        let from : IsBoundFrom (inside context.scope.now) after (Ok given) = rw is at h in
        (around ∙ ap (λ f. f.outer) is, from counts counted (none_bound context.scope.now));
    rows = rows (subst (λ frames. HasValues frames.own empty) (sym is) (none_bound context.scope.now));
  }

  pub bound_refused : (here after : Frames) (error : Error) (failure : Failure) → here ≡ inside context.scope.now → failure ≡ evaluation (fault_of error) → Grew old new → IsBoundFrom here after (Err error) → Binds planned context flag groups old new (Err failure)
  bound_refused here after error failure is fails grew h = record {
    grew = grew;
    by_test = λ counts counted.
        let from : IsBoundFrom (inside context.scope.now) after (Err error) = rw is at h in
        (fault_of error, fails, from counts counted (none_bound context.scope.now));
    rows = tt;
  }

  -- memory ran out behind what they are bound to
  pub bound_memory : (entered : EnteredRow) → Binds planned context flag groups old new (Ok entered) → Binds planned context flag groups old new (Err (evaluation memory))
  bound_memory entered b = record { grew = b.grew; by_test = λ counts counted. (memory, refl, unless_memory (b.by_test counts counted).1.evaluates (λ n. absurd (n refl))); rows = tt }

-- memory ran out before anything was asked
pub not_bound : (planned : Planned) (context : ExecutionContext) (flag : Bool) (groups : List Value) (log : List Entry) → Binds planned context flag groups log log (Err (evaluation memory))
not_bound planned context flag groups log = record { grew = grown_none log; by_test = λ counts counted. (memory, refl, not_begun _ log); rows = tt }
