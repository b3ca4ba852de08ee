-- Two openings that agree with one set of answers go alike.
use Rattle.std.proofs.Common.{◌≡◌, ℕ, List, [], ◌∷◌, map, Bool, true, false, cond, Some, Result, Ok, Err, refl, ap, ap₂, ◌∙◌}
use Rattle.just_host.specs.declared.entry.Entry.{Entry}
use Rattle.evaluate_context.specs.Environment.{last_of}
use Rattle.evaluate_context.specs.Surroundings.{by_name}
use Rattle.evaluate_context.proofs.ByName.{by_name_same}
use Rattle.meaning_runs.specs.Told.{Answers}
use Rattle.meaning_evaluation.specs.Named.{RecipeName, VariableName, Definitions}
use Rattle.meaning_evaluation.specs.Scopes.{Configuration}
use Rattle.just_meaning.specs.Actions.{IsKept}
use Rattle.just_meaning.specs.Agreement.{AgreesAll}
use Rattle.just_meaning.specs.Opening.{held, pairs_of, Opened, OpensAll, none_left, one_more, fault_here, fault_later, IsOpened, not_lazy, eager, exported, by_recipe, by_variable}
use Rattle.just_meaning.specs.Runs.{same_path, pairs_at, values_at}
use Rattle.meaning_evaluation.specs.Requests.{OpeningFailure}
use Rattle.laws_agreement.specs.Agreement.Opened.{AreListed}
use Rattle.laws_agreement.specs.Determined.Determined.{AreAlike, OpenAlike, both_refused, both_opened, OpeningsAreDetermined, RunOpeningsAreDetermined, KeptOpeningsAreDetermined}
use Rattle.laws_agreement.specs.Determined.Fit.{AreFit, AreVariables}
use Rattle.laws_agreement.proofs.Determined.Dialogues.{GrowsQuietly, quiet_nothing, quiet_then}
use Rattle.laws_agreement.proofs.Determined.Ones.{OneAlike, one_quiet, one_once}
use Rattle.laws_agreement.proofs.Determined.Exported.{last_same}

-- modules are opened alike, one by one
abbrev pub EachAlike : List Opened → List Opened → Type 0
EachAlike [] [] = Unit {0}
EachAlike [] (o ∷ os) = ⊥
EachAlike (o ∷ os) [] = ⊥
EachAlike (o ∷ os) (o' ∷ os') = OneAlike o o' × EachAlike os os'

abbrev pub AllAlike : Result (List Opened) OpeningFailure → Result (List Opened) OpeningFailure → Type 0
AllAlike (Ok os) (Ok os') = EachAlike os os'
AllAlike (Ok os) (Err fault) = ⊥
AllAlike (Err fault) (Ok os) = ⊥
AllAlike (Err fault) (Err fault') = Unit {0}

module _ (c : Configuration) (defined : Definitions) (Open : VariableName → Type 0) where
  -- Modules open without an event.
  pub all_quiet : (paths : List (List (List ℕ))) (old new : List Entry) (r : Result (List Opened) OpeningFailure) → OpensAll c defined Open paths old new r → GrowsQuietly old new
  all_quiet [] old new r none_left = quiet_nothing old new refl
  all_quiet (path ∷ paths) old new r (one_more {mid = mid} {o = o} {os = os} one others) = quiet_then (one_quiet c defined Open path old mid (Ok o) one) (all_quiet paths mid new (Ok os) others)
  all_quiet (path ∷ paths) old new r (fault_here {fault = fault} one) = one_quiet c defined Open path old new (Err fault) one
  all_quiet (path ∷ paths) old new r (fault_later {mid = mid} {o = o} {fault = fault} one others) = quiet_then (one_quiet c defined Open path old mid (Ok o) one) (all_quiet paths mid new (Err fault) others)

  module _ (f : Answers) (listed : AreListed defined) (variables : AreVariables defined Open) (fit : AreFit defined Open) where
    -- They open alike, one after another.
    pub all_once : (paths : List (List (List ℕ))) (old new : List Entry) (r : Result (List Opened) OpeningFailure) (opens : OpensAll c defined Open paths old new r) → AgreesAll f c defined opens
        → (old' new' : List Entry) (r' : Result (List Opened) OpeningFailure) (opens' : OpensAll c defined Open paths old' new' r') → AgreesAll f c defined opens' → AllAlike r r'
    all_once [] old new r none_left a old' new' r' none_left b = tt
    all_once (path ∷ paths) old new r (one_more {mid = mid} {o = o} {os = os} one others) a old' new' r' (one_more {mid = mid'} {o = o'} {os = os'} one' others') b =
        (one_once c defined f Open listed variables fit path old mid (Ok o) one a.0 old' mid' (Ok o') one' b.0, all_once paths mid new (Ok os) others a.1 mid' new' (Ok os') others' b.1)
    all_once (path ∷ paths) old new r (one_more {mid = mid} {o = o} {os = os} one others) a old' new' r' (fault_here {fault = fault} one') b = one_once c defined f Open listed variables fit path old mid (Ok o) one a.0 old' new' (Err fault) one' b
    all_once (path ∷ paths) old new r (one_more {mid = mid} {o = o} {os = os} one others) a old' new' r' (fault_later {mid = mid'} {o = o'} {fault = fault} one' others') b = all_once paths mid new (Ok os) others a.1 mid' new' (Err fault) others' b.1
    all_once (path ∷ paths) old new r (fault_here {fault = fault} one) a old' new' r' (one_more {mid = mid'} {o = o'} {os = os'} one' others') b = one_once c defined f Open listed variables fit path old new (Err fault) one a old' mid' (Ok o') one' b.0
    all_once (path ∷ paths) old new r (fault_here one) a old' new' r' (fault_here one') b = tt
    all_once (path ∷ paths) old new r (fault_here one) a old' new' r' (fault_later one' others') b = tt
    all_once (path ∷ paths) old new r (fault_later {mid = mid} {o = o} {fault = fault} one others) a old' new' r' (one_more {mid = mid'} {o = o'} {os = os'} one' others') b = all_once paths mid new (Err fault) others a.1 mid' new' (Ok os') others' b.1
    all_once (path ∷ paths) old new r (fault_later one others) a old' new' r' (fault_here one') b = tt
    all_once (path ∷ paths) old new r (fault_later one others) a old' new' r' (fault_later one' others') b = tt

-- ---- what was opened, by paths

paths_alike : (os os' : List Opened) → EachAlike os os' → map (λ o. o.path) os ≡ map (λ o. o.path) os'
paths_alike [] [] h = refl
paths_alike [] (o' ∷ os') h = absurd h
paths_alike (o ∷ os) [] h = absurd h
paths_alike (o ∷ os) (o' ∷ os') h = ap₂ (λ p ps. p ∷ ps) h.0.path (paths_alike os os' h.1)

pairs_alike : (os os' : List Opened) → EachAlike os os' → map (λ o. o.pairs) os ≡ map (λ o. o.pairs) os'
pairs_alike [] [] h = refl
pairs_alike [] (o' ∷ os') h = absurd h
pairs_alike (o ∷ os) [] h = absurd h
pairs_alike (o ∷ os) (o' ∷ os') h = ap₂ (λ p ps. p ∷ ps) h.0.pairs (pairs_alike os os' h.1)

module _ (path : List (List ℕ)) where
  -- a module's pairs are the same
  pub same_pairs_at : (os os' : List Opened) → EachAlike os os' → pairs_at path os ≡ pairs_at path os'
  same_pairs_at [] [] h = refl
  same_pairs_at [] (o' ∷ os') h = absurd h
  same_pairs_at (o ∷ os) [] h = absurd h
  same_pairs_at (o ∷ os) (o' ∷ os') h = by_test (same_path o.path path) (same_pairs_at os os' h.1) ∙ ap (λ p. cond (same_path p path) o'.pairs (pairs_at path os')) h.0.path
    where
      by_test : (b : Bool) → pairs_at path os ≡ pairs_at path os' → cond b o.pairs (pairs_at path os) ≡ cond b o'.pairs (pairs_at path os')
      by_test true e = h.0.pairs
      by_test false e = e

  -- each name is held alike
  pub same_held : (os os' : List Opened) → EachAlike os os' → (x : List ℕ) → held x (values_at path os) ≡ held x (values_at path os')
  same_held [] [] h x = refl
  same_held [] (o' ∷ os') h x = absurd h
  same_held (o ∷ os) [] h x = absurd h
  same_held (o ∷ os) (o' ∷ os') h x = by_test (same_path o.path path) (same_held os os' h.1 x) ∙ ap (λ p. held x (cond (same_path p path) o'.values (values_at path os'))) h.0.path
    where
      by_test : (b : Bool) → held x (values_at path os) ≡ held x (values_at path os') → held x (cond b o.values (values_at path os)) ≡ held x (cond b o'.values (values_at path os'))
      by_test true e = h.0.holds x
      by_test false e = e

  -- the exported pairs of a module have the same last values
  pub same_last : (defined : Definitions) (os os' : List Opened) → EachAlike os os' → (x : List ℕ) → last_of x (pairs_of defined path (values_at path os)) ≡ last_of x (pairs_of defined path (values_at path os'))
  same_last defined [] [] h x = refl
  same_last defined [] (o' ∷ os') h x = absurd h
  same_last defined (o ∷ os) [] h x = absurd h
  same_last defined (o ∷ os) (o' ∷ os') h x =
      by_test (same_path o.path path) (same_last defined os os' h.1 x) ∙ ap (λ p. last_of x (pairs_of defined path (cond (same_path p path) o'.values (values_at path os')))) h.0.path
    where
      by_test : (b : Bool) → last_of x (pairs_of defined path (values_at path os)) ≡ last_of x (pairs_of defined path (values_at path os'))
          → last_of x (pairs_of defined path (cond b o.values (values_at path os))) ≡ last_of x (pairs_of defined path (cond b o'.values (values_at path os')))
      by_test true e = last_same defined path o.values o'.values h.0.once h.0.once' h.0.holds x
      by_test false e = e

  -- and are the same by name
  pub same_by_name : (defined : Definitions) (os os' : List Opened) → EachAlike os os' → by_name (pairs_of defined path (values_at path os)) ≡ by_name (pairs_of defined path (values_at path os'))
  same_by_name defined os os' h = by_name_same (pairs_of defined path (values_at path os)) (pairs_of defined path (values_at path os')) (same_last defined os os' h)

each_are : (defined : Definitions) (os os' : List Opened) → EachAlike os os' → AreAlike defined os os'
each_are defined os os' h = record {
  paths = paths_alike os os' h;
  pairs = pairs_alike os os' h;
  holds = λ path x. same_held path os os' h x;
  exported = λ path. same_by_name path defined os os' h;
}

by_ends : (defined : Definitions) (r r' : Result (List Opened) OpeningFailure) → AllAlike r r' → OpenAlike defined r r'
by_ends defined (Ok os) (Ok os') h = both_opened os os' refl refl (each_are defined os os' h)
by_ends defined (Ok os) (Err fault) h = absurd h
by_ends defined (Err fault) (Ok os) h = absurd h
by_ends defined (Err fault) (Err fault') h = both_refused fault fault' refl refl

-- Whichever variables open.
pub openings_are_determined : (Open : VariableName → Type 0) (c : Configuration) (defined : Definitions) → AreVariables defined Open → OpeningsAreDetermined Open c defined
openings_are_determined Open c defined variables f paths listed fit old new r opens a old' new' r' opens' b = by_ends defined r r' (all_once c defined Open f listed variables fit paths old new r opens a old' new' r' opens' b)

-- ---- the variables of runs

-- each variable that opens is one
pub run_variables : (defined : Definitions) (no_dependencies : Bool) (invoked : List RecipeName) → AreVariables defined (IsOpened defined no_dependencies invoked)
run_variables defined no_dependencies invoked = record { stands = λ x opens. by_opening x opens }
  where
    by_opening : (x : VariableName) → IsOpened defined no_dependencies invoked x → (row : _) × (defined.variable x ≡ Some row)
    by_opening x (not_lazy {row = row} there h) = (row, there)
    by_opening x (eager {row = row} there h) = (row, there)
    by_opening x (exported {row = row} there h) = (row, there)
    by_opening x (by_recipe {row = row} there h i j) = (row, there)
    by_opening x (by_variable {row = row} there h i j k) = (row, there)

pub kept_variables : (defined : Definitions) → AreVariables defined (IsKept defined)
kept_variables defined = record { stands = λ x kept. (kept.row, kept.there) }

pub run_openings : RunOpeningsAreDetermined
run_openings c defined invoked = openings_are_determined (IsOpened defined c.no_dependencies invoked) c defined (run_variables defined c.no_dependencies invoked)

pub kept_openings : KeptOpeningsAreDetermined
kept_openings c defined = openings_are_determined (IsKept defined) c defined (kept_variables defined)
