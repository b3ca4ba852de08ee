-- What a run means by fixed answers: variables unfolded, everything unshared, repeats dropped.
use Rattle.std.specs.Prelude.{◌≡◌, ◌≤◌, ℕ, List, [], ◌∷◌, ◌++◌, Option, Some, None, Result, Ok, Err}
use Rattle.std.specs.Option.{option_map}
use Rattle.just_host.specs.declared.entry.Entry.{Entry}
use Rattle.just_host.specs.declared.host.HostFault.{HostFault}
use Rattle.just_host.specs.declared.job.DotenvRequest.{DotenvRequest}
use Rattle.just_host.specs.declared.job.Pair.{Pair}
use Rattle.just_value.specs.Values.{joined}
use Rattle.meaning_dialogues.specs.Faults.{Fault}
use Rattle.meaning_dialogues.specs.Dialogue.{Dialogue, Lookup, Variable, around}
use Rattle.meaning_dialogues.specs.Evaluation.{Value}
use Rattle.meaning_dialogues.specs.Meaning.{Meaning, variable_meaning}
use Rattle.meaning_evaluation.specs.Stages.Parameters.{Bound}
use Rattle.evaluate_context.specs.Surroundings.{by_name}
use Rattle.meaning_runs.specs.Failures.{Failure}
use Rattle.meaning_evaluation.specs.Named.{RecipeName, VariableName, Call, ModuleRow, Definitions, same_call}
use Rattle.meaning_evaluation.specs.Scopes.{Configuration}
use Rattle.meaning_runs.specs.Told.{Answers, of_variables}
use Rattle.just_meaning.specs.Opening.{exported_names, side_of, side_dialogue, scene_in, IsOpened}
use Rattle.meaning_evaluation.specs.Calling.{Ground, acts}
use Rattle.meaning_runs.specs.Acts.{meaning_of}
use Rattle.meaning_runs.specs.Naive.{CallMeaning, RunPart, naive, IsSteady}
use Rattle.meaning_runs.specs.Laws.{OfTrees}

module _ (c : Configuration) (defined : Definitions) (f : Answers) where
  -- the pairs that a module asks for; none where the answer is a fault, or there is none
  abbrev pub pairs_told : Option (Result (List Pair) HostFault) → List Pair
  pairs_told (Some (Ok pairs)) = pairs
  pairs_told (Some (Err fault)) = []
  pairs_told None = []

  abbrev pub pairs_asked : Option DotenvRequest → List Pair
  pairs_asked None = []
  pairs_asked (Some request) = pairs_told (f.dotenv request)

  abbrev pub in_module : {X : Type 0} → X → Option ModuleRow → (ModuleRow → X) → X
  in_module unknown None known = unknown
  in_module unknown (Some row) known = known row

  abbrev pub dotenv_at : List (List ℕ) → List Pair
  dotenv_at path = in_module [] (defined.inside path) (λ row. pairs_asked row.request)

  -- what a variable of a module stands for; its questions are taken without the pairs of exported names, so that none are given
  abbrev pub side_at : List (List ℕ) → Variable → Option (Dialogue Value)
  side_at path x = in_module None (defined.inside path) (λ row. option_map (side_dialogue c (scene_in c defined path row (pairs_asked row.request) [])) (side_of c defined path x))

  module _ (deep : ℕ) where
    abbrev pub variables_at : List (List ℕ) → Lookup → Variable → Meaning Value
    variables_at path = variable_meaning (side_at path) (of_variables f (exported_names defined path)) deep

    -- the exported bindings of a module's frame, by what they mean
    abbrev pub pair_meant : List ℕ → Meaning Value → List Pair
    pair_meant name (Some (Ok value)) = record { name = name; value = joined value } ∷ []
    pair_meant name (Some (Err fault)) = []
    pair_meant name None = []

    abbrev pub pairs_meant : List (List ℕ) → List (List ℕ) → List Pair
    pairs_meant path [] = []
    pairs_meant path (name ∷ names) = pair_meant name (variables_at path around (record { name = name; number = None })) ++ pairs_meant path names

    abbrev pub meant_ground : Ground
    meant_ground = record { configuration = c; defined = defined; dotenv = dotenv_at; exported = λ path. by_name (pairs_meant path (exported_names defined path)) }

    -- what the parts of each call mean
    abbrev pub calls_meant : CallMeaning Call Bound Entry Failure
    calls_meant = meaning_of (acts meant_ground) f (λ call. variables_at call.recipe.path)

    abbrev pub naive_run : List Call → RunPart Entry (Unit {0}) Failure
    naive_run calls = naive same_call (acts meant_ground).shares calls_meant deep calls

    -- every call of the trees is steady
    abbrev pub IsSteadyRun : List Call → Type 0
    IsSteadyRun calls = (call : Call) → OfTrees calls_meant calls call → IsSteady (acts meant_ground).shares calls_meant call

  -- the naive run of calls, for each depth from some on
  pub record IsNaive (calls : List Call) (part : RunPart Entry (Unit {0}) Failure) : Type 0 where
    pub deep : ℕ
    pub is : (n : ℕ) → deep ≤ n → naive_run n calls ≡ part

  -- a variable means a value or a fault
  pub record VariableMeans (x : VariableName) (result : Result Value Fault) : Type 0 where
    pub deep : ℕ
    pub is : (n : ℕ) → deep ≤ n → variables_at n x.path around (record { name = x.name; number = None }) ≡ Some result

  -- what refuses a run before any recipe, where no rule is broken: a fault that answers a module's request, or that an opening variable means
  pub data RefusesOpening (invoked : List RecipeName) (paths : List (List ℕ) → Type 0) : Type 0 where
    by_request : {path : List (List ℕ)} {row : ModuleRow} {request : DotenvRequest} {fault : HostFault} → paths path → defined.inside path ≡ Some row → row.request ≡ Some request
        → f.dotenv request ≡ Some (Err fault) → RefusesOpening invoked paths
    by_variable : {x : VariableName} {fault : Fault} → paths x.path → IsOpened defined c.no_dependencies invoked x → VariableMeans x (Err fault) → RefusesOpening invoked paths
