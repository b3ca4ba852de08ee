-- How the variables of a module are opened in a run.
use Rattle.std.specs.Prelude.{◌≡◌, ◌≢◌, ℕ, Bool, true, false, List, [], ◌∷◌, Option, Some, None, Result, Ok, Err, String, slice_get}
use Rattle.std.specs.Borrow.{Bor}
use Rattle.std.specs.BTreeMap.{BTreeMap, get}
use Rattle.std.specs.BTreeSet.{BTreeSet, contains}
use Rattle.std.specs.Option.{option_map}
use Rattle.std.specs.Ordering.{nat_cmp}
use Rattle.std.specs.String.{string_bytes}
use Rattle.tree_expressions.specs.declared.expression.Expression.{Expression}
use Rattle.tree_items.specs.declared.item.Binding.{Binding}
use Rattle.just_host.specs.declared.entry.Entry.{Entry}
use Rattle.just_value.specs.Frames.{BoundRow, Frames}
use Rattle.evaluate_context.specs.Refusals.{fault_of}
use Rattle.evaluate_context.specs.declared.context.AssignmentRef.{AssignmentRef}
use Rattle.evaluate_context.specs.declared.context.ExecutionContext.{ExecutionContext}
use Rattle.evaluate_context.specs.declared.error.Error.{Error}
use Rattle.evaluate_expressions.specs.Situations.{running_stage}
use Rattle.meaning_dialogues.specs.Calls.{reading_in_frames}
use Rattle.meaning_dialogues.specs.Dialogue.{Reading}
use Rattle.meaning_dialogues.specs.Evaluation.{Stage}
use Rattle.meaning_dialogues.specs.Faults.{Fault, memory}
use Rattle.meaning_evaluation.specs.Stages.Assigned.{Assigned, Assigns, BeginsAssigning, assigned_of}

abbrev pub assigned : Bor (Binding Expression) → Assigned
assigned assignment = assigned_of (record { assignment = assignment })

abbrev pub before : Option AssignmentRef → List Assigned → List Assigned
before None others = others
before (Some variable) others = assigned_of variable ∷ others

-- the variables at these places; a place that is none is passed over
abbrev pub ordered : List AssignmentRef → List ℕ → List Assigned
ordered assignments [] = []
ordered assignments (place ∷ places) = before (slice_get assignments place) (ordered assignments places)

-- the text in place of a variable's value
abbrev pub overridden : {A : Type 0} → BTreeMap ℕ (String A) → ℕ → Option (List ℕ)
overridden overrides number = option_map string_bytes (get nat_cmp overrides number)

-- all are read where no numbers are given
abbrev pub reads : Option (Bor (BTreeSet ℕ)) → ℕ → Bool
reads None number = true
reads (Some numbers) number = contains nat_cmp numbers.now number

-- the module's frame inside those around it
abbrev pub framed : List (List BoundRow) → List BoundRow → Frames
framed outer own = record { own = own; outer = outer }

-- by which stage the module's variables are evaluated, and what variables give
abbrev pub opening_stage : ExecutionContext → Frames → Stage
opening_stage context frames = running_stage context [] frames frames false None

abbrev pub opening_reading : Frames → Reading
opening_reading frames = reading_in_frames (λ number. false) frames frames

-- what opening variables leads to
abbrev pub Opens : ExecutionContext → List (List BoundRow) → (ℕ → Bool) → List Assigned → List BoundRow → List Entry → List BoundRow → List Entry → Option Fault → Type 0
Opens context outer is_read = Assigns outer (λ own. opening_stage context (framed outer own)) (λ own. opening_reading (framed outer own)) context.module.now.settings.now.export (overridden context.overrides.now) is_read

-- however opening variables ends, what was recorded is the beginning of what they record
abbrev pub BeginsOpening : ExecutionContext → List (List BoundRow) → (ℕ → Bool) → List Assigned → List BoundRow → List Entry → List Entry → Type 0
BeginsOpening context outer is_read = BeginsAssigning outer (λ own. opening_stage context (framed outer own)) (λ own. opening_reading (framed outer own)) context.module.now.settings.now.export (overridden context.overrides.now) is_read

-- what it was refused for
abbrev pub refusal : {A : Type 0} → Result A Error → Option Fault
refusal (Ok a) = None
refusal (Err error) = Some (fault_of error)

-- the same in a frame of its own inside the context's scope
abbrev pub OpensInside : ExecutionContext → (ℕ → Bool) → List Entry → List BoundRow → List Entry → Option Fault → Type 0
OpensInside context is_read old own new fault = Opens context (context.scope.now.own ∷ context.scope.now.outer) is_read (ordered context.module.now.assignments.now context.module.now.evaluation_order.now) [] old own new fault

-- and what was recorded is the beginning of what they record
abbrev pub BeginsInside : ExecutionContext → (ℕ → Bool) → List Entry → List Entry → Type 0
BeginsInside context is_read old new = BeginsOpening context (context.scope.now.own ∷ context.scope.now.outer) is_read (ordered context.module.now.assignments.now context.module.now.evaluation_order.now) [] old new

-- a refused one leaves some frame
pub record LeavesFrame (context : ExecutionContext) (is_read : ℕ → Bool) (old new : List Entry) (fault : Fault) : Type 0 where
  pub own : List BoundRow
  pub opens : OpensInside context is_read old own new (Some fault)

-- the frame that the module's variables come to, where memory suffices
abbrev pub OpensFrame : ExecutionContext → (ℕ → Bool) → List Entry → List Entry → Result Frames Error → Type 0
OpensFrame context is_read old new (Ok frames) = (frames.outer ≡ context.scope.now.own ∷ context.scope.now.outer) × OpensInside context is_read old frames.own new None
OpensFrame context is_read old new (Err error) = fault_of error ≢ memory → LeavesFrame context is_read old new (fault_of error)
