-- A call of a function of the justfile in a run.
use Rattle.std.proofs.Common.{◌≡◌, ◌≢◌, ℕ, ◌-◌, ◌<◌, Bool, false, List, [], ◌∷◌, Option, Result, Ok, Err, subst}
use Rattle.just_text.specs.declared.name.Name.{Name}
use Rattle.just_host.specs.declared.entry.Entry.{Entry}
use Rattle.just_value.specs.Frames.{Frames}
use Rattle.evaluate_context.specs.declared.context.ExecutionContext.{ExecutionContext}
use Rattle.evaluate_context.specs.Surroundings.{surroundings_of, standing_in}
use Rattle.meaning_dialogues.specs.Faults.{Fault, memory, too_deep}
use Rattle.meaning_dialogues.specs.Dialogue.{Dialogue, Evaluates, Reading}
use Rattle.meaning_dialogues.specs.Evaluation.{Value, row, dialogue}
use Rattle.meaning_dialogues.specs.Calls.{DefinedFunction, HasValues, empty, with_parameters, reading_in_frames, call_defined}
use Rattle.meaning_evaluation.specs.Stages.Stages.{run_stage}
use Rattle.meaning_dialogues.proofs.Dialogues.{ends}
use Rattle.meaning_evaluation.proofs.Stages.Called.{call_goes, call_memory, call_stops}
use Rattle.evaluate_expressions.specs.Situations.{functions_in, around_body, calls_in, stage_in}

abbrev no_number : ℕ → Bool
no_number number = false

-- no further call may lie in the calls
pub call_too_many : (context : ExecutionContext) (outer : Frames) (is_dependency : Bool) (recipe : Option Name) (left : ℕ) (f : DefinedFunction) (given : List (Dialogue Value)) (reading : Reading) (old : List Entry) (r : Result Value Fault)
    → left ≡ 0 → (r ≢ Err memory → r ≡ Err (too_deep f.name)) → Evaluates reading (call_defined (calls_in context outer is_dependency recipe left) f given) old old r
call_too_many context outer is_dependency recipe left f given reading old r none is = rw none (ends _ is)

-- the arguments of a call were refused
pub call_refused : (context : ExecutionContext) (outer : Frames) (is_dependency : Bool) (recipe : Option Name) (left : ℕ) (f : DefinedFunction) (given : List (Dialogue Value)) (reading : Reading) (old new : List Entry) (e : Fault)
    → 0 < left → Evaluates reading (row given) old new (Err e) → Evaluates reading (call_defined (calls_in context outer is_dependency recipe left) f given) old new (Err e)
call_refused context outer is_dependency recipe left f given reading old new e some h =
    call_stops (surroundings_of context) (functions_in context) (standing_in context [] (around_body outer) is_dependency recipe) left f given reading old new e some h

-- memory ran out behind the arguments of a call
pub call_unmade : (context : ExecutionContext) (outer : Frames) (is_dependency : Bool) (recipe : Option Name) (left : ℕ) (f : DefinedFunction) (given : List (Dialogue Value)) (reading : Reading) (old mid : List Entry) (values : List Value)
    → 0 < left → Evaluates reading (row given) old mid (Ok values) → Evaluates reading (call_defined (calls_in context outer is_dependency recipe left) f given) old mid (Err memory)
call_unmade context outer is_dependency recipe left f given reading old mid values some h =
    call_memory (surroundings_of context) (functions_in context) (standing_in context [] (around_body outer) is_dependency recipe) left f given reading old mid values some h

-- a body's frames are seen as those of the module around its own
pub call_in_run : (context : ExecutionContext) (here inner outer : Frames) (is_dependency : Bool) (recipe : Option Name) (left : ℕ) (f : DefinedFunction) (given : List (Dialogue Value)) (old mid new : List Entry) (values : List Value) (r : Result Value Fault)
    → 0 < left
    → Evaluates (reading_in_frames no_number here outer) (row given) old mid (Ok values)
    → HasValues inner.own (with_parameters empty f.parameters values) → inner.outer ≡ outer.own ∷ outer.outer
    → Evaluates (reading_in_frames no_number inner outer) (dialogue (stage_in context [] inner outer is_dependency recipe (left - 1)) f.body) mid new r
    → Evaluates (reading_in_frames no_number here outer) (call_defined (calls_in context outer is_dependency recipe left) f given) old new r
call_in_run context here inner outer is_dependency recipe left f given old mid new values r some h has lies g =
    let body = subst (λ frames. Evaluates (reading_in_frames no_number inner outer) (dialogue (run_stage (surroundings_of context) (functions_in context) (standing_in context [] (record { own = []; outer = frames }) is_dependency recipe) (calls_in context outer is_dependency recipe (left - 1))) f.body) mid new r) lies g in
    call_goes (surroundings_of context) (functions_in context) (standing_in context [] (around_body outer) is_dependency recipe) left f given here inner outer old mid new values r some h has lies body
