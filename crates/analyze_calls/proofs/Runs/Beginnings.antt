-- How calls begin and end, for each way that they do.
use Rattle.std.proofs.Common.{◌≡◌, ◌∷◌, [], ◌<◌, ◌||◌, nat_lt, true, false, Bool, ℕ, List, ap, subst, sym, refl, ◌∙◌, arith}
use Rattle.std.specs.Prelude.{◌≢◌, Contains, IfOk, IfErr, None, Option, Result, Ok, Err, Some, not, slice_get}
use Rattle.std.specs.Option.{option_map}
use Rattle.std.proofs.lemmas.List.Elements.{Contains-get_or}
use Rattle.std.proofs.lemmas.Option.{get_or_from_slice_get, slice_get_within}
use Rattle.std.specs.List.{All, AllByRecursion}
use Rattle.std.proofs.lemmas.List.Elements.{All-from_recursion}
use Rattle.std.proofs.lemmas.Bool.Decides.{nat_tests}
use Rattle.just_host.specs.declared.entry.Entry.{Entry}
use Rattle.evaluate_context.specs.declared.context.ExecutionContext.{ExecutionContext}
use Rattle.justfile_evaluator.specs.declared.fault.RunFault.{RunFault}
use Rattle.meaning_dialogues.specs.Faults.{memory}
use Rattle.meaning_runs.specs.Failures.{Failure, evaluation}
use Rattle.analyze_calls.specs.Calls.{CallRow, row_of, rows}
use Rattle.justfile_evaluator.specs.Ended.{failure_of}
use Rattle.analyze_calls.specs.Ran.{IfGiven}
use Rattle.analyze_calls.specs.Around.{Heads}
use Rattle.analyze_calls.specs.Binding.{Binds}
use Rattle.analyze_calls.specs.Entered.{EnteredRow}
use Rattle.analyze_calls.specs.Placed.{placed_in, with_context}
use Rattle.analyze_calls.specs.Runs.Steps.{HeadsBelow, brought, failed, unranked, BeginsAt, unbound, headless, begins, is_from, any_from, any_call_from}
use Rattle.analyze_calls.specs.declared.call.Call.{Call}
use Rattle.analyze_calls.specs.declared.plan.Planned.{Planned}
use Rattle.analyze_calls.specs.declared.plan.Runner.{Runner}

-- what is said of a result is said otherwise
pub given_as : {A B : Type 0} (view : A → B) (exhausted : Bool) (result : Result A RunFault) (P Q : Result B Failure → Type 0) → ((r : Result B Failure) → P r → Q r) → IfGiven view exhausted result P → IfGiven view exhausted result Q
given_as view exhausted (Ok a) P Q f h = λ k. f (Ok (view a)) (h k)
given_as view exhausted (Err fault) P Q f h = λ k n. f (Err (failure_of fault)) (h k n)

-- ---- calls of earlier recipes

any_rows : (place : ℕ) (calls : List Call) → any_call_from place calls ≡ any_from place (rows calls)
any_rows place [] = refl
any_rows place (c ∷ cs) = λ i. is_from place (row_of c) || any_rows place cs i

neither : (a b : Bool) → (a || b) ≡ false → (a ≡ false) × (b ≡ false)
neither true b e = absurd (let f : true ≡ false = e in cc)
neither false b e = (refl, e)

is_earlier : (m n : ℕ) → not (nat_lt m n) ≡ false → m < n
is_earlier m n e = grind (nat_tests, arith)

each_earlier : (place : ℕ) (calls : List Call) → any_call_from place calls ≡ false → AllByRecursion (λ c. c.recipe < place) calls
each_earlier place [] e = tt
each_earlier place (c ∷ cs) e = let s = neither (is_from place (row_of c)) (any_call_from place cs) e in (is_earlier c.recipe place s.0, each_earlier place cs s.1)

pub none_from : (place : ℕ) (calls : List Call) → any_call_from place calls ≡ false → All (λ c. c.recipe < place) calls
none_from place calls e = All-from_recursion _ calls (each_earlier place calls e)

-- ---- what is brought about

module _ (place : ℕ) (Gives : Result (List CallRow) Failure → Type 0) where
  pub brought_calls : (calls pending : List Call) → Gives (Ok (rows calls)) → (pending ≡ calls) × (any_call_from place calls ≡ false) → HeadsBelow place Gives (Ok (rows pending))
  brought_calls calls pending g same = subst (λ p. HeadsBelow place Gives (Ok (rows p))) (sym same.0) (brought g (sym (any_rows place calls) ∙ same.1))

  pub failed_calls : {A : Type 0} (view : A → List CallRow) (exhausted : Bool) (fault : RunFault) → (exhausted ≡ false → failure_of fault ≢ evaluation memory → Gives (Err (failure_of fault))) → IfGiven view exhausted (Err fault) (HeadsBelow place Gives)
  failed_calls view exhausted fault g = λ k n. failed (g k n)

  pub refused_calls : {A : Type 0} (view : A → List CallRow) (calls : List Call) (exhausted : Bool) (fault : RunFault) → (exhausted ≡ false → Gives (Ok (rows calls))) → any_call_from place calls ≡ true → IfGiven view exhausted (Err fault) (HeadsBelow place Gives)
  refused_calls view calls exhausted fault g e = λ k n. unranked (g k) (sym (any_rows place calls) ∙ e)

  pub ranked_calls : (calls : List Call) (exhausted : Bool) (result : Result (List Call) RunFault) → (exhausted ≡ false → Gives (Ok (rows calls)))
      → IfOk result (λ pending. (pending ≡ calls) × (any_call_from place calls ≡ false)) → IfErr result (λ fault. any_call_from place calls ≡ true) → IfGiven rows exhausted result (HeadsBelow place Gives)
  ranked_calls calls exhausted (Ok pending) g same refused = λ k. brought_calls calls pending (g k) same
  ranked_calls calls exhausted (Err fault) g same refused = λ k n. unranked (g k) (sym (any_rows place calls) ∙ refused)

-- ---- a call begins

module _ (runner : Runner) (planned : Planned) (context : ExecutionContext) (call : CallRow) (flag : Bool) (groups : List (List (List ℕ))) (is : groups ≡ call.groups) where
  pub unbound_at : {A : Type 0} (view : A → EnteredRow × List CallRow) (old new : List Entry) (exhausted : Bool) (fault : RunFault) → (exhausted ≡ false → failure_of fault ≢ evaluation memory → Binds planned context flag groups old new (Err (failure_of fault)))
      → IfGiven view exhausted (Err fault) (BeginsAt runner planned context call flag old new)
  unbound_at view old new exhausted fault b = λ k n. unbound (subst (λ gs. Binds planned context flag gs old new (Err (failure_of fault))) is (b k n))

  module _ (flag' : Bool) (e e' : EnteredRow) (old mid new : List Entry) (same_flag : flag' ≡ flag) (same : e' ≡ e) where
    pub headless_at : {A : Type 0} (view : A → EnteredRow × List CallRow) (exhausted : Bool) (fault : RunFault) → (exhausted ≡ false → Binds planned context flag groups old mid (Ok e))
        → (exhausted ≡ false → failure_of fault ≢ evaluation memory → HeadsBelow call.recipe (Heads planned context flag' e' runner mid new) (Err (failure_of fault)))
        → IfGiven view exhausted (Err fault) (BeginsAt runner planned context call flag old new)
    headless_at view exhausted fault b h = λ k n.
        headless (subst (λ gs. Binds planned context flag gs old mid (Ok e)) is (b k))
        (subst (λ (q : Bool × EnteredRow). HeadsBelow call.recipe (Heads planned context q.0 q.1 runner mid new) (Err (failure_of fault))) (λ i. (same_flag i, same i)) (h k n))

    pub begins_at : (priors : List CallRow) → Binds planned context flag groups old mid (Ok e) → HeadsBelow call.recipe (Heads planned context flag' e' runner mid new) (Ok priors) → BeginsAt runner planned context call flag old new (Ok (e, priors))
    begins_at priors b h =
        begins (subst (λ gs. Binds planned context flag gs old mid (Ok e)) is b)
        (subst (λ (q : Bool × EnteredRow). HeadsBelow call.recipe (Heads planned context q.0 q.1 runner mid new) (Ok priors)) (λ i. (same_flag i, same i)) h)

-- ---- where recipes stand

mapped_some : (p q : Planned) (c : ExecutionContext) (o : Option ExecutionContext) → option_map {U = Planned × ExecutionContext} (λ context. (p, context)) o ≡ Some (q, c) → o ≡ Some c
mapped_some p q c None e = absurd (cc)
mapped_some p q c (Some d) e = ap (λ (o : Option (Planned × ExecutionContext)). option_map (λ (r : Planned × ExecutionContext). r.1) o) e

there : (contexts : List ExecutionContext) (i : ℕ) (c : ExecutionContext) → slice_get contexts i ≡ Some c → Contains contexts c
there contexts i c e = subst (Contains contexts) (get_or_from_slice_get contexts i c c e) (Contains-get_or contexts i c (slice_get_within contexts i c e))

-- a recipe that stands at a place has a context among those of all
pub context_among : (runner : Runner) (place : ℕ) (planned : Planned) (context : ExecutionContext) → placed_in runner place ≡ Some (planned, context) → Contains runner.contexts.now context
context_among runner place planned context e = by (slice_get runner.recipes.now place) e
  where
    by : (o : Option Planned) → with_context runner o ≡ Some (planned, context) → Contains runner.contexts.now context
    by None f = absurd (cc)
    by (Some p) f = there runner.contexts.now p.module context (mapped_some p planned context (slice_get runner.contexts.now p.module) f)
