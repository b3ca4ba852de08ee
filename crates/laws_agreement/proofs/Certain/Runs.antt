-- No run ends with `internal` where what is reached and what opens names what stands for something.
use Rattle.std.proofs.Common.{◌≡◌, ℕ, ◌++◌, List, [], ◌∷◌, map, length, false, Option, Some, None, Ok, Err, ◌⊎◌, inl, inr, refl, subst}
use Rattle.std.specs.Prelude.{Contains}
use Rattle.std.specs.List.{AllByRecursion}
use Rattle.just_host.specs.declared.entry.Entry.{Entry}
use Rattle.meaning_evaluation.specs.Requests.{opening}
use Rattle.meaning_runs.specs.Failures.{Failure, evaluation}
use Rattle.meaning_evaluation.specs.Named.{RecipeName, Call, ModuleRow, Definitions, paths_of}
use Rattle.meaning_evaluation.specs.Scopes.{Configuration}
use Rattle.meaning_evaluation.specs.Groups.{parameters_of}
use Rattle.just_meaning.specs.Opening.{IsReached, by_words, by_recipe, IsOpened, Opened}
use Rattle.just_meaning.specs.Runs.{ground_of, reading_at, steps, values_at, HasRun, Opens, Outcome, failed, not_opened, outcome_of, refused, opened}
use Rattle.meaning_dialogues.specs.Internal.{is_internal}
use Rattle.laws_agreement.specs.Agreement.Readable.{FitsCall}
use Rattle.laws_agreement.proofs.Agreement.Lists.{all_contained, contains_map}
use Rattle.laws_agreement.specs.Certain.Certain.{AreCertain, DependOnTheirs, IsCertainCall, HoldsRead, RunIsCertain, OpeningsAreCertain, RunsAreCertain, RunsEndCertainly}
use Rattle.laws_agreement.proofs.Certain.Going.{goes_well}
use Rattle.laws_agreement.proofs.Certain.Calls.{calls_well}
use Rattle.laws_agreement.proofs.Certain.Names.{IsReadIn, stands_read}
use Rattle.laws_agreement.proofs.Certain.Openings.{opening_certain, opens_hold}

-- No run of calls of such recipes ends with `internal`.
pub run_certain : (c : Configuration) (defined : Definitions) (Of : RecipeName → Type 0) (os : List Opened) → DependOnTheirs c.no_dependencies defined Of → RunIsCertain c defined Of os
run_certain c defined Of os theirs calls old new t t' fault certain holds fit run =
    goes_well (IsCertainCall defined Of) (FitsCall defined) (steps c defined os)
    (calls_well (ground_of c defined os) Of certain theirs (λ path name. IsReadIn (values_at path os) name)
    (λ r name those reads. stands_read defined r.path (values_at r.path os) name (λ row e. holds.holds r name row those reads e) (certain.resolved.names r name those reads))
    (λ path x. IsReadIn (values_at path os) x.name) (λ path name number u. u) (reading_at c defined os) (λ call place x h. (h.value, h.read)))
    run.run fit

-- what reached recipes depend on is reached
reached_theirs : (c : Configuration) (defined : Definitions) (invoked : List RecipeName) → DependOnTheirs c.no_dependencies defined (IsReached defined c.no_dependencies invoked)
reached_theirs c defined invoked = record {
  depends = λ n r row d those e i. by_recipe n those e (contains_map (λ dependency. dependency.on) (row.priors ++ row.subsequents) d i);
}

-- No opening for invocations ends with `internal`.
pub openings_are_certain : OpeningsAreCertain
openings_are_certain c defined invoked = opening_certain c defined (IsOpened defined c.no_dependencies invoked)

-- No run of what invocations reach ends with `internal`.
pub runs_are_certain : RunsAreCertain
runs_are_certain c defined invoked os = run_certain c defined (IsReached defined c.no_dependencies invoked) os (reached_theirs c defined invoked)

module _ (c : Configuration) (defined : Definitions) (calls : List Call) where
  -- the recipes that are invoked
  abbrev invoked : List RecipeName
  invoked = map (λ call. call.recipe) calls

  -- what they reach
  abbrev Of : RecipeName → Type 0
  Of = IsReached defined c.no_dependencies invoked

  -- calls that are invoked are of what is reached
  all_reached : (cs : List Call) → AllByRecursion (Contains calls) cs → AllByRecursion (λ call. length call.groups ≡ length (parameters_of (defined.recipe call.recipe))) cs → AllByRecursion (IsCertainCall defined Of) cs
  all_reached [] h k = tt
  all_reached (call ∷ cs) h k = (record { of = by_words (contains_map (λ other. other.recipe) calls call h.0); groups = k.0 }, all_reached cs h.1 k.1)

  -- what reached recipes read is held after the opening
  held_after : AreCertain defined Of → ((path : List (List ℕ)) (row : ModuleRow) → defined.inside path ≡ Some row → Contains (paths_of defined.modules) path) → {old new : List Entry} (os : List Opened)
      → Opens c defined calls old new (Ok os) → HoldsRead defined Of os
  held_after certain there os opens = record {
    holds = λ r name row those reads e. let m = certain.resolved.modules r those in
        opens_hold c defined (IsOpened defined c.no_dependencies invoked) os opens r.path name (there r.path m.0 m.1) (by_recipe e those refl reads);
  }

-- No run from its opening on ends with `internal`.
pub runs_end_certainly : {Rule : Type 0} → RunsEndCertainly Rule
runs_end_certainly {Rule = Rule} c defined calls old new t t' outcome fault certain variables there fit (refused {fault = failure} opens) how = by_how _ refl how
  where
    by_how : (o : Outcome Rule) → o ≡ not_opened failure → (o ≡ failed (evaluation fault)) ⊎ (o ≡ not_opened (opening fault)) → is_internal fault ≡ false
    by_how o is (inl e) = absurd (cc)
    by_how o is (inr e) =
        let same : failure ≡ opening fault = cc in
        opening_certain c defined (IsOpened defined c.no_dependencies (map (λ call. call.recipe) calls)) (paths_of defined.modules) old new fault variables (subst (λ f. Opens c defined calls old new (Err f)) same opens)
runs_end_certainly {Rule = Rule} c defined calls old new t t' outcome fault certain variables there fit (opened {mid = mid} {opened = os} {failure = failure} opens run) how = by_failure failure run _ refl how
  where
    by_failure : (f : Option Failure) → HasRun c defined os calls mid t new t' f → (o : Outcome Rule) → o ≡ outcome_of f → (o ≡ failed (evaluation fault)) ⊎ (o ≡ not_opened (opening fault)) → is_internal fault ≡ false
    by_failure None r o is (inl e) = absurd (cc)
    by_failure None r o is (inr e) = absurd (cc)
    by_failure (Some f) r o is (inl e) =
        let same : f ≡ evaluation fault = cc in
        runs_are_certain c defined (map (λ call. call.recipe) calls) os calls mid new t t' fault certain (held_after c defined calls certain there os opens) (all_reached c defined calls calls (all_contained calls) fit)
        (subst (λ g. HasRun c defined os calls mid t new t' (Some g)) same r)
    by_failure (Some f) r o is (inr e) = absurd (cc)
