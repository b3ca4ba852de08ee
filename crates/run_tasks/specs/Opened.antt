-- What recipes rest on once modules are open.
use Rattle.std.specs.Prelude.{◌≡◌, ◌<◌, ℕ, suc, nat_eq, if◌then◌else◌, List, [], ◌∷◌, map, Option, Some, None, length, get_or}
use Rattle.just_value.specs.Constants.{constant_rows}
use Rattle.just_value.specs.Frames.{BindsRows, ByNumber}
use Rattle.evaluate_context.specs.Environment.{variable}
use Rattle.evaluate_context.specs.declared.context.ExecutionContext.{ExecutionContext}
use Rattle.evaluate_context.specs.declared.context.ModuleView.{ModuleView}
use Rattle.analyze_calls.specs.Opening.{OpenedRow}
use Rattle.analyze_calls.specs.declared.opening.Opening.{Opening as Opens}
use Rattle.run_tasks.specs.declared.task.TaskContext.{TaskContext}

-- ---- contexts

-- the module that was opened last of those at a place
abbrev pub last_opened : ℕ → Option OpenedRow → List OpenedRow → Option OpenedRow
last_opened place found [] = found
last_opened place found (row ∷ rows) = last_opened place (if nat_eq row.place place then Some row else found) rows

module _ (context : TaskContext) where
  -- what the recipes of a module rest on that was opened so
  pub record IsContextAt (view : ModuleView) (row : OpenedRow) (here : ExecutionContext) : Type 0 where
    pub config : here.config.now ≡ context.config.now
    pub pairs_are : map variable here.dotenv.now.entries ≡ row.pairs
    pub module_is : here.module.now ≡ view
    pub overrides : here.overrides.now ≡ context.overrides.now
    pub scope : here.scope.now ≡ row.frames
    pub root : here.root.now ≡ context.root.now

  -- those of all modules that are open, from the one at a place on
  pub data AreContexts (rows : List OpenedRow) : ℕ → List ModuleView → List ExecutionContext → Type 0 where
    none_left : {place : ℕ} → AreContexts rows place [] []
    closed : {place : ℕ} {view : ModuleView} {views : List ModuleView} {contexts : List ExecutionContext}
        → last_opened place None rows ≡ None → AreContexts rows (suc place) views contexts → AreContexts rows place (view ∷ views) contexts
    one_more : {place : ℕ} {view : ModuleView} {views : List ModuleView} {row : OpenedRow} {here : ExecutionContext} {contexts : List ExecutionContext}
        → last_opened place None rows ≡ Some row → IsContextAt view row here → AreContexts rows (suc place) views contexts → AreContexts rows place (view ∷ views) (here ∷ contexts)

  -- what all modules open with: the constants of the language around them, by their numbers
  pub record IsOpeningOf (opens : Opens) : Type 0 where
    pub config : opens.config.now ≡ context.config.now
    pub overrides : opens.overrides.now ≡ context.overrides.now
    pub root : opens.root.now ≡ context.root.now
    pub wanted : opens.wanted ≡ context.wanted
    pub constants : BindsRows constant_rows opens.constants.now.own
    pub alone : opens.constants.now.outer ≡ []
    pub sorted : ByNumber opens.constants.now.own

-- ---- where modules stand among those that are open

-- the last place of a module among those that were opened, from a place on, or the one that is given
abbrev pub position_from : ℕ → ℕ → ℕ → List OpenedRow → ℕ
position_from at place found [] = found
position_from at place found (row ∷ rows) = position_from (suc at) place (if nat_eq row.place place then at else found) rows

-- those of all modules of so many
pub record ArePositions (rows : List OpenedRow) (count : ℕ) (positions : List ℕ) : Type 0 where
  pub many : length positions ≡ count
  pub each : (place d : ℕ) → place < count → get_or positions place d ≡ position_from 0 place (length rows) rows
