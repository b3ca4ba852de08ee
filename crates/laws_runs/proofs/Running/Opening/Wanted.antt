-- What the variables of a module name is known, where those that are wanted are read.
use Rattle.std.proofs.Common.{◌≡◌, sym, subst, Bool, true, false, if◌then◌else◌, List, Option, Some, None, ℕ}
use Rattle.std.specs.Borrow.{Bor}
use Rattle.std.specs.BTreeSet.{BTreeSet}
use Rattle.std.specs.Option.{option_map}
use Rattle.just_value.specs.declared.positional.Override.{Override}
use Rattle.evaluate_context.specs.declared.context.ExecutionContext.{ExecutionContext}
use Rattle.evaluate_variables.specs.Known.{VariablesKnown}
use Rattle.evaluate_variables.specs.Opened.{overridden, reads}
use Rattle.modules_compilation.specs.declared.compilation.Compilation.{Compilation}
use Rattle.resolve_analysis.specs.declared.analysis.Analysis.{Analysis}
use Rattle.just_resolve.specs.Analysis.{IsAnalysis}
use Rattle.run_tasks.specs.Prepared.Wanted.{IsWanted, called_by}
use Rattle.run_tasks.specs.declared.task.Task.{Task}
use Rattle.meaning_rules.specs.Worlds.Given.{Text, World}
use Rattle.laws_names.specs.Reading.Meant.{IsNumberedWorld}
use Rattle.laws_names.specs.Constants.Sought.{AreOfLanguage}
use Rattle.laws_runs.specs.Views.Known.{IsSeenAt}
use Rattle.laws_runs.specs.Views.Read.{IsClosedAt}
use Rattle.laws_runs.proofs.Views.Evaluated.{evaluated_are_closed}
use Rattle.laws_runs.proofs.Views.Views.{all_variables_are_known, variables_are_known}

module _ (w : World) (compilation : Compilation) (n : IsNumberedWorld w compilation) (base : Text) (given : List Override) (analysis : Analysis) (known : IsAnalysis compilation base given analysis) (task : Task) (no_dependencies : Bool)
    (k : ℕ) (context : ExecutionContext) (seen : IsSeenAt analysis.variables k context) (language : AreOfLanguage context.scope.now) (overrides : context.overrides.now ≡ analysis.values.value.overrides) where
  all_known : VariablesKnown context (λ number. true)
  all_known = all_variables_are_known analysis.values.value.overrides w compilation n analysis.variables known.is_known.variables_are k context seen language

  wanted_known : (numbers : Bor (BTreeSet ℕ)) → IsWanted analysis.variables analysis.table.value.recipes.items analysis.values.value.settings.items task no_dependencies (Some numbers.now) → VariablesKnown context (reads (Some numbers))
  wanted_known numbers wants =
      variables_are_known analysis.values.value.overrides w compilation n analysis.variables known.is_known.variables_are k context seen language (reads (Some numbers))
      (subst (λ texts. IsClosedAt analysis.variables k (overridden texts) (reads (Some numbers))) (sym overrides)
      (evaluated_are_closed analysis.values.value.overrides w compilation n analysis.variables known.is_known.variables_are analysis.table.value.recipes.items analysis.values.value.settings.items (called_by task) no_dependencies (reads (Some numbers)) wants.1 k))

  -- what is named is known: by all variables where the module isn't lazy or none are named, and else by those that are wanted
  pub names_known : (lazy : Bool) (wanted : Option (Bor (BTreeSet ℕ))) → IsWanted analysis.variables analysis.table.value.recipes.items analysis.values.value.settings.items task no_dependencies (option_map (λ numbers. numbers.now) wanted)
      → VariablesKnown context (reads (if lazy then wanted else None))
  names_known false wanted wants = all_known
  names_known true None wants = all_known
  names_known true (Some numbers) wants = wanted_known numbers wants
