-- What analysing answers breaks no rule on names.
use Rattle.std.proofs.Common.{◌≡◌, ◌≢◌, ◌∙◌, ℕ, true, false, List, None, map, subst, sym, ap}
use Rattle.std.specs.Prelude.{Contains}
use Rattle.std.specs.List.{list_all}
use Rattle.std.specs.Option.{is_some}
use Rattle.std.proofs.lemmas.List.Sums.{AllPass-from_list_all}
use Rattle.just_value.specs.declared.positional.Override.{Override}
use Rattle.modules_compilation.specs.declared.compilation.Compilation.{Compilation}
use Rattle.resolve_order.specs.Needs.{rows}
use Rattle.resolve_analysis.specs.Overriding.{is_named, number_of}
use Rattle.resolve_analysis.specs.declared.analysis.Analysis.{Analysis}
use Rattle.meaning_rules.specs.Worlds.Given.{Overrides, Text, World}
use Rattle.meaning_rules.proofs.Worlds.Places.{place_of}
use Rattle.meaning_rules.specs.Constants.{BreaksConstants}
use Rattle.meaning_rules.specs.Reading.{IsVariableCycle}
use Rattle.meaning_rules.specs.Rules.{Broken, syntax, missing_root, missing_import, circular_import, missing_module, ambiguous_module, redefinition, duplicate_variable, duplicate_set, duplicate_unexport, export_unexported, unknown_alias_target, unstable_feature, lists_needed, cache_left_out, attribute_conflict}
use Rattle.meaning_rules.specs.Rules.{undefined_variable, unknown_function, function_argument_count, circular_variable, unknown_dependency, circular_recipe, dependency_argument_count, const_error, unknown_override, module_as_recipe}
use Rattle.laws_modules.proofs.Names.Modules.{modules_are_nodes}
use Rattle.laws_names.proofs.Depending.Lists.{all_at, mapped_back}
use Rattle.laws_names.specs.Depending.Dependencies.{NoneIsBroken}
use Rattle.meaning_rules.specs.Overrides.{overrides_of}
use Rattle.laws_names.specs.Reading.Clear.{NoReadBroken}
use Rattle.laws_names.specs.Reading.Meant.{IsNumberedWorld}
use Rattle.just_resolve.specs.Analysis.{IsAnalysis}
use Rattle.just_resolve.specs.Rules.{BreaksNone, InEachWorld, IsResolvable}
use Rattle.just_resolve.proofs.ClearDependencies.{dependencies_clear, recipe_cycles_clear}
use Rattle.just_resolve.proofs.ClearReads.{clear_module}
use Rattle.just_resolve.proofs.Constants.{settled_clear}
use Rattle.just_resolve.proofs.Keeping.{graph_few, graph_is, of_module, order_of_names}
use Rattle.just_resolve.proofs.Laws.{Laws}

-- each word names a variable
words_named : (compilation : Compilation) (words : List Override) → list_all (is_named compilation) words ≡ true → (written : Text) → Contains (map (λ p. p.0) (overrides_of words)) written → number_of compilation written ≢ None
words_named compilation words all written h none =
    let pair = mapped_back (λ p. p.0) (overrides_of words) written h in
    let word = mapped_back (λ (given : Override). (given.name, given.value)) words pair.0 pair.1 in
    let same : word.0.name ≡ written = ap (λ p. p.0) word.2 ∙ pair.2 in
    let at = place_of words word.0 word.1 in
    let named : is_named compilation word.0 ≡ true = all_at (λ given. is_named compilation given ≡ true) words at.0 word.0 (AllPass-from_list_all (is_named compilation) words all) at.1 in
    let b : false ≡ true = sym (ap (λ name. is_some (number_of compilation name)) same ∙ ap is_some none) ∙ named in
    absurd (cc b)

module _ (laws : Laws) (compilation : Compilation) (base : List ℕ) (words : List Override) (analysis : Analysis) (a : IsAnalysis compilation base words analysis) (w : World) (resolvable : IsResolvable w compilation) where
  abbrev is : IsNumberedWorld w compilation
  is = resolvable.numbered

  -- the overrides of the words
  abbrev o : Overrides
  o = overrides_of words

  -- no expression reads or calls what is not there
  reads_clear : NoReadBroken w o
  reads_clear = laws.clear_reads w o compilation is (λ k node here.
      clear_module analysis.values.value.overrides compilation analysis.variables k node here (of_module analysis.values.value.overrides compilation analysis.variables a.is_known.variables_are k node here)
      analysis.table.value a.recipes_are analysis.values.value.settings.items a.is_known.values_are.settings)

  -- no variables read each other in a cycle
  variable_cycles_clear : (names : List Text) → Broken w o (circular_variable names) → ⊥
  variable_cycles_clear names b =
      let n = modules_are_nodes w compilation is.of is.single b.breaks.1.0 b.breaks.0 b.breaks.1.1 in
      let overrides = analysis.values.value.overrides in
      let variables = analysis.variables in
      let m = of_module overrides compilation variables a.is_known.variables_are n.0 n.1 n.2 in
      laws.variable_orders w compilation is n.0 n.1 n.2 (rows m.reads.graph.items) (graph_is overrides compilation variables n.0 n.1 m) (graph_few overrides compilation variables n.0 n.1 m)
      m.order.items (order_of_names overrides compilation variables n.0 n.1 m) names (subst (λ own. IsVariableCycle w own names) (sym n.4) b.breaks.2)

  -- no dependency and no alias leads to what is no recipe
  no_dependency : NoneIsBroken w o
  no_dependency = dependencies_clear laws w compilation is o analysis.variables.reads.items analysis.table.value a.recipes_are

  -- no constant and no setting is refused
  constants_clear : Broken w o const_error → ⊥
  constants_clear b =
      let n = modules_are_nodes w compilation is.of is.single b.breaks.0 b.breaks.1 b.breaks.2 in
      let overrides = analysis.values.value.overrides in
      let variables = analysis.variables in
      let m = of_module overrides compilation variables a.is_known.variables_are n.0 n.1 n.2 in
      settled_clear laws w compilation resolvable words overrides a.texts_are variables n.0 n.1 n.2 m analysis.values.value.settings.items a.is_known.values_are.settings
      b.breaks.0 n.3 (subst (BreaksConstants w o b.breaks.0) (sym n.4) b.breaks.3)

  -- no rule on names is broken, whatever it is
  no_rule : BreaksNone w o
  no_rule (syntax kind) e b = absurd (cc e)
  no_rule (missing_root key) e b = absurd (cc e)
  no_rule (missing_import path) e b = absurd (cc e)
  no_rule (circular_import current import) e b = absurd (cc e)
  no_rule (missing_module name) e b = absurd (cc e)
  no_rule (ambiguous_module name found) e b = absurd (cc e)
  no_rule (redefinition name) e b = absurd (cc e)
  no_rule (duplicate_variable name) e b = absurd (cc e)
  no_rule (duplicate_set name) e b = absurd (cc e)
  no_rule (duplicate_unexport name) e b = absurd (cc e)
  no_rule (export_unexported name) e b = absurd (cc e)
  no_rule (unknown_alias_target alias target) e b = absurd (cc e)
  no_rule (unstable_feature feature) e b = absurd (cc e)
  no_rule (lists_needed feature) e b = absurd (cc e)
  no_rule (cache_left_out name) e b = absurd (cc e)
  no_rule (attribute_conflict name one two) e b = absurd (cc e)
  no_rule (undefined_variable name) e b = reads_clear.variables name b
  no_rule (unknown_function name) e b = reads_clear.functions name b
  no_rule (function_argument_count name count) e b = reads_clear.counts name count b
  no_rule (circular_variable names) e b = variable_cycles_clear names b
  no_rule (unknown_dependency name path) e b = no_dependency.unknown name path b
  no_rule (circular_recipe names) e b = recipe_cycles_clear laws w compilation is o analysis.variables.reads.items analysis.table.value a.recipes_are names b
  no_rule (dependency_argument_count name path count) e b = no_dependency.counts name path count b
  no_rule const_error e b = constants_clear b
  no_rule (unknown_override text) e b = laws.named_overrides w compilation is.of is.single o (words_named compilation words a.texts_are.named) text b
  no_rule (module_as_recipe path) e b = no_dependency.modules path b

-- what analysing answers breaks no rule in any world that the compilation stands for
pub analysis_breaks_none : Laws → (compilation : Compilation) (base : List ℕ) (words : List Override) (analysis : Analysis) → IsAnalysis compilation base words analysis → InEachWorld compilation words BreaksNone
analysis_breaks_none laws compilation base words analysis a w resolvable = no_rule laws compilation base words analysis a w resolvable
