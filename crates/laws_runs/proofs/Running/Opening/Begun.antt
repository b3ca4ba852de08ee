-- A beginning of the opening of modules by their places is one by names.
use Rattle.std.proofs.Common.{◌≡◌, sym, ◌∙◌, ◌<◌, ◌++◌, List, map, length, Some, Result, Ok, Err, ℕ}
use Rattle.std.specs.Prelude.{Contains, slice_get}
use Rattle.std.proofs.lemmas.Option.{none-some}
use Rattle.just_host.specs.declared.entry.Entry.{Entry}
use Rattle.just_value.specs.declared.positional.Override.{Override}
use Rattle.evaluate_context.specs.declared.context.ModuleView.{ModuleView}
use Rattle.modules_compilation.specs.Modulepaths.{path_in}
use Rattle.modules_compilation.specs.declared.compilation.Compilation.{Compilation}
use Rattle.resolve_analysis.specs.declared.analysis.Analysis.{Analysis}
use Rattle.analyze_calls.specs.Opening as placed
use Rattle.analyze_calls.specs.Opening.{OpenedRow}
use Rattle.analyze_calls.specs.declared.opening.Opening.{Opening as Opens}
use Rattle.run_tasks.specs.declared.task.Task.{Task}
use Rattle.run_tasks.specs.declared.task.TaskContext.{TaskContext}
use Rattle.meaning_evaluation.specs.Requests.{OpeningFailure}
use Rattle.meaning_rules.specs.Worlds.Given.{Text, World}
use Rattle.meaning_rules.specs.Worlds.Compiled.{HasPath}
use Rattle.meaning_rules.proofs.Worlds.Places.{contains_first, contains_later}
use Rattle.laws_modules.specs.Names.Names.{IsOfWorld, nodes, views}
use Rattle.laws_modules.proofs.Names.Found.{there_within}
use Rattle.meaning_rules.specs.Overrides.{overrides_of}
use Rattle.meaning_evaluation.specs.Named.{Definitions, VariableName}
use Rattle.meaning_evaluation.specs.Scopes.{Configuration}
use Rattle.just_meaning.specs.Begun.{AllBegin, OneBegins}
use Rattle.just_meaning.specs.Begun as begun
use Rattle.laws_runs.proofs.Resolved.Own.{has_own_path}
use Rattle.laws_runs.specs.Settings.Settled.{AllSettle}
use Rattle.just_meaning.specs.Configured.{configuration_of}
use Rattle.laws_runs.specs.Running.Opened.{IsTaskOf}
use Rattle.laws_runs.proofs.Running.Opening.Context.{defined_by}
use Rattle.laws_runs.proofs.Running.Opening.Opens.{MayOpen, OneByName, opens_one, requests, row_of_view}
use Rattle.laws_runs.proofs.Running.Opening.Views.{view_exists}

-- a module that is there has its path
pub own_path : (w : World) (compilation : Compilation) → IsOfWorld w compilation → (k : ℕ) → k < length compilation.modules.items
    → HasPath w (views w compilation) (nodes w compilation) k (path_in compilation.modules.items k)
own_path w compilation is k lt = let node = there_within compilation.modules.items k lt in has_own_path w compilation is k node.0 node.1

module _ (w : World) (compilation : Compilation) (given : List Override) (base : Text) (analysis : Analysis) (settled : AllSettle w (overrides_of given) compilation analysis.values.value.settings.items)
    (task : Task) (context : TaskContext) (modules : List ModuleView) (opens : Opens) (t : IsTaskOf w compilation given base analysis settled task context modules opens) where
  abbrev path_of : ℕ → List Text
  path_of k = path_in compilation.modules.items k

  abbrev HasPathTo : ℕ → List Text → Type 0
  HasPathTo k path = HasPath w (views w compilation) (nodes w compilation) k path

  abbrev configuration : Configuration
  configuration = configuration_of context.config.now context.root.now w.expansion

  abbrev defined : Definitions
  defined = defined_by w compilation t.resolvable.numbered given base analysis t.known settled context.config.now

  module _ (k : ℕ) (view : ModuleView) (at : slice_get modules k ≡ Some view) (path : List Text) (has : HasPathTo k path) (Open : VariableName → Type 0)
      (may : MayOpen w compilation given base analysis settled task context modules opens t k view at path has Open) where
    goes_by_name : (old new rest : List Entry) (r : Result OpenedRow OpeningFailure) → OneByName w compilation given base analysis settled task context modules opens t k view at path has Open old (new ++ rest) r
        → OneBegins configuration defined Open path old new
    goes_by_name old new rest (Ok row) o = begun.goes rest o.1
    goes_by_name old new rest (Err failure) o = begun.goes rest o

    -- of one module, however its opening ended
    one_begins : (old new : List Entry) → placed.OneBegins opens k view old new → OneBegins configuration defined Open path old new
    one_begins old new (placed.nothing same) = begun.nothing same
    one_begins old new (placed.asked q) =
        begun.asked (row_of_view w compilation given base analysis settled task context modules opens t k view at path has).is (requests w compilation given base analysis settled task context modules opens t k view at path has Open may old new q)
    one_begins old new (placed.goes rest {result} o) = goes_by_name old new rest result (opens_one w compilation given base analysis settled task context modules opens t k view at path has Open may o)

  module _ (Open : VariableName → Type 0) (may : (k : ℕ) (view : ModuleView) (at : slice_get modules k ≡ Some view) (has : HasPathTo k (path_of k))
      → MayOpen w compilation given base analysis settled task context modules opens t k view at (path_of k) has Open) where
    -- of modules at places of the compilation
    pub all_begin : {places : List ℕ} {old new : List Entry} → ((j : ℕ) → Contains places j → j < length compilation.modules.items) → placed.AllBegin opens modules places old new
        → AllBegin configuration defined Open (map path_of places) old new
    all_begin within placed.none_begins = begun.none_begins
    all_begin within (placed.nowhere_begins {place} {places} none rest) =
        let v = view_exists compilation base given analysis t.known modules t.views place (within place (contains_first place places)) in
        absurd (none-some v.0 (sym none ∙ v.1))
    all_begin within (placed.one_begins {place} {places} {view} {old} {new} at one) =
        let has = own_path w compilation t.resolvable.numbered.of place (within place (contains_first place places)) in
        begun.one_begins (one_begins place view at (path_of place) has Open (may place view at has) old new one)
    all_begin within (placed.later_begins {place} {places} {view} at one rest) =
        let has = own_path w compilation t.resolvable.numbered.of place (within place (contains_first place places)) in
        let a = opens_one w compilation given base analysis settled task context modules opens t place view at (path_of place) has Open (may place view at has) one in
        begun.later_begins a.1 (all_begin (λ j c. within j (contains_later place places j c)) rest)
