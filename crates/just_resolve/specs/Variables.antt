-- What modules keep, what their variables and functions read, and the orders of their variables.
use Rattle.std.specs.Prelude.{◌≡◌, ℕ, List, Some, Ok, String, length, map, slice_get, Contains}
use Rattle.std.specs.BTreeMap.{BTreeMap}
use Rattle.std.specs.Global.{Vec}
use Rattle.modules_compilation.specs.declared.compilation.Compilation.{Compilation}
use Rattle.resolve_order.specs.Needs.{rows}
use Rattle.resolve_order.specs.Reads.{IsVariableOrder}
use Rattle.resolve_references.specs.declared.read_fault.ReadFault.{ReadFault}
use Rattle.resolve_analysis.specs.Lists.{kept_by, kept_in}
use Rattle.resolve_analysis.specs.Reads.{IsRefusal, IsResolverOf, expressions_of, overridden_by, rows_of}
use Rattle.resolve_analysis.specs.declared.module_lists.ModuleLists.{ModuleLists}
use Rattle.resolve_analysis.specs.declared.module_reads.ModuleReads.{ModuleReads}
use Rattle.resolve_analysis.specs.declared.variables.ModuleVariables.{ModuleVariables}
use Rattle.just_resolve.specs.Cycles.{IsCircularVariable}
use Rattle.just_resolve.specs.Faults.{reading_error}
use Rattle.just_resolve.specs.declared.error.Error.{Error}

-- so many, and each is so at its place
pub record AreEach {Y : Type 0} (count : ℕ) (IsAt : ℕ → Y → Type 0) (ys : List Y) : Type 0 where
  pub many : length ys ≡ count
  pub each : (place : ℕ) (y : Y) → slice_get ys place ≡ Some y → IsAt place y

module _ {A : Type 0} (overrides : BTreeMap ℕ (String A)) where
  -- what the variables and functions of a module read and call, and which variables are overridden
  pub record IsReads (lists : ModuleLists) (reads : ModuleReads) : Type 0 where
    pub resolver : IsResolverOf (kept_in lists) reads.resolver
    pub graph : rows_of reads.resolver (expressions_of (kept_in lists)) ≡ Ok (rows reads.graph.items)
    pub overridden : reads.overridden.items ≡ overridden_by overrides (kept_in lists).variables

  abbrev pub IsReadsAt : List ModuleLists → ℕ → ModuleReads → Type 0
  IsReadsAt all place reads = (lists : ModuleLists) → slice_get all place ≡ Some lists → IsReads lists reads

  -- those of each module
  abbrev pub AreReads : List ModuleLists → List ModuleReads → Type 0
  AreReads all reads = AreEach (length all) (IsReadsAt all) reads

-- an expression of one of the modules reads or calls what is not there
pub record IsReadRefused (all : List ModuleLists) (fault : ReadFault) : Type 0 where
  pub lists : ModuleLists
  pub one : Contains all lists
  pub refused : IsRefusal (kept_in lists) fault

-- the module's variables, each after those that it reads
abbrev pub IsOrderOf : ModuleLists → ModuleReads → List ℕ → Type 0
IsOrderOf lists reads order = IsVariableOrder (rows reads.graph.items) (length lists.assignments.items) order

abbrev pub IsOrderAt : List ModuleLists → List ModuleReads → ℕ → Vec ℕ → Type 0
IsOrderAt all all_reads place order = (lists : ModuleLists) (reads : ModuleReads) → slice_get all place ≡ Some lists → slice_get all_reads place ≡ Some reads → IsOrderOf lists reads order.items

-- those of each module
abbrev pub AreOrders : List ModuleLists → List ModuleReads → List (Vec ℕ) → Type 0
AreOrders all reads orders = AreEach (length all) (IsOrderAt all reads) orders

-- variables of one of the modules read each other in a cycle
pub record IsOrderRefused (all : List ModuleLists) (all_reads : List ModuleReads) (error : Error) : Type 0 where
  pub place : ℕ
  pub lists : ModuleLists
  pub reads : ModuleReads
  pub here : slice_get all place ≡ Some lists
  pub read : slice_get all_reads place ≡ Some reads
  pub circular : IsCircularVariable lists (rows reads.graph.items) error

module _ {A : Type 0} (overrides : BTreeMap ℕ (String A)) where
  -- what modules keep and read, and their orders, by what they keep
  pub record AreVariablesOf (all : List ModuleLists) (variables : ModuleVariables) : Type 0 where
    pub lists : variables.lists.items ≡ all
    pub reads : AreReads overrides all variables.reads.items
    pub orders : AreOrders all variables.reads.items variables.orders.items

  pub data AreRefused (all : List ModuleLists) (error : Error) : Type 0 where
    reading : (fault : ReadFault) → IsReadRefused all fault → error ≡ reading_error fault → AreRefused all error
    ordering : (reads : List ModuleReads) → AreReads overrides all reads → IsOrderRefused all reads error → AreRefused all error

  -- each module's lists are those of what it keeps
  abbrev pub AreListsOf : Compilation → List ModuleLists → Type 0
  AreListsOf compilation all = map kept_in all ≡ map (kept_by compilation) compilation.modules.items

  pub record AreVariables (compilation : Compilation) (variables : ModuleVariables) : Type 0 where
    pub lists : AreListsOf compilation variables.lists.items
    pub of : AreVariablesOf variables.lists.items variables

  pub record AreVariablesRefused (compilation : Compilation) (error : Error) : Type 0 where
    pub lists : List ModuleLists
    pub of : AreListsOf compilation lists
    pub refused : AreRefused lists error
