-- Words by places, and by what is defined.
use Rattle.std.proofs.Common.{◌≡◌, ◌∙◌, ap, map, subst, sym, refl, ℕ, List, [], ◌∷◌, Option, Some, None}
use Rattle.analyze_calls.specs.Calls.{CallRow}
use Rattle.analyze_words.specs.Broken.{IsRefusedBy}
use Rattle.analyze_words.specs.Worded.{words_of}
use Rattle.analyze_words.specs.declared.fault.WordFault.{WordFault}
use Rattle.analyze_words.specs.declared.menu.Menus.{Menus}
use Rattle.justfile_analyzer.specs.MenusOf.{AreMenusOf}
use Rattle.justfile_analyzer.specs.Targets.{target_of}
use Rattle.justfile_analyzer.specs.declared.target.EvaluationTarget.{EvaluationTarget}
use Rattle.justfile_analyzer.specs.declared.target.EvaluationTarget.TheVariants.{Module}
use Rattle.std.proofs.lemmas.Option.{same_Some}
use Rattle.modules_compilation.specs.Modulepaths.{path_in}
use Rattle.modules_compilation.specs.declared.compilation.Compilation.{Compilation}
use Rattle.resolve_analysis.specs.declared.analysis.Analysis.{Analysis}
use Rattle.meaning_runs.specs.Invokes.{BreaksWords, Invoke}
use Rattle.laws_runs.specs.Words.Renamed.{InvokeAlike, IsRenamed}
use Rattle.laws_runs.proofs.Words.Renaming.{renamed_alike}
use Rattle.meaning_evaluation.specs.Named.{Definitions}
use Rattle.just_meaning.specs.Actions.{ActionRule, BreaksEvaluate, Target, of_module}
use Rattle.just_meaning.specs.Actions.{target_of as target_named}
use Rattle.just_meaning.specs.Actions as asked
use Rattle.just_meaning.specs.Menus.{menu_of}
use Rattle.laws_runs.specs.Menus.Named.{name_at}
use Rattle.laws_runs.specs.Menus.Targets.{IsNamedTarget}
use Rattle.run_tasks.specs.Requested.Words.{BreaksAt, BreaksNamed, BreaksPlaced, BreaksValuesAt, InvokesAt, IsRefusedFor, MeansNamed, MeansPlaced, NamesValuesAt, call_of, extra, unknown, values_of}
use Rattle.laws_runs.specs.Defined.Defined.{named_call}
use Rattle.run_tasks.specs.declared.action.Action.{Action}
use Rattle.run_tasks.specs.declared.action.Action.TheVariants.{Command, Dump, Evaluate, Format, List as ListAction, Plan, Run}

module _ (compilation : Compilation) (analysis : Analysis) (defined : Definitions) (words : List (List ℕ))
    (menus_named : (menus : Menus) → AreMenusOf compilation analysis.table.value analysis.values.value.settings.items words menus → IsRenamed (words_of menus) (menu_of defined) (path_in compilation.modules.items) (name_at compilation analysis.table.value) words)
    (target_is : (word : List ℕ) → IsNamedTarget compilation analysis.variables.lists.items (target_of compilation.modules.items analysis.variables.lists.items word) (target_named defined (word ∷ []))) where
  alike : (menus : Menus) → AreMenusOf compilation analysis.table.value analysis.values.value.settings.items words menus → InvokeAlike (words_of menus) (menu_of defined) (path_in compilation.modules.items) (name_at compilation analysis.table.value) words
  alike menus are = renamed_alike (words_of menus) (menu_of defined) (path_in compilation.modules.items) (name_at compilation analysis.table.value) words (menus_named menus are)

  -- rules of a run's words
  breaks_run : (fault : WordFault) → IsRefusedBy (BreaksAt compilation analysis.table.value analysis.values.value.settings.items words) fault → IsRefusedBy (BreaksWords (menu_of defined) words) fault
  breaks_run fault refused = λ rest.
      let r = refused rest in
      let by = r.1.1 in (r.0, (r.1.0, ((alike by.menus by.are).rules r.0).0 by.is))

  -- calls by their names are rows by theirs
  named_rows : (rows : List (ℕ × List (List (List ℕ)))) → map (λ (i : ℕ × List (List (List ℕ))). (name_at compilation analysis.table.value i.0, i.1)) rows ≡ map (named_call compilation analysis) (map call_of rows)
  named_rows [] = refl
  named_rows (row ∷ rows) = ap (λ more. named_call compilation analysis (call_of row) ∷ more) (named_rows rows)

  -- the calls of a run's words
  pub invokes_named : (calls : List CallRow) → InvokesAt compilation analysis.table.value analysis.values.value.settings.items words calls → Invoke (menu_of defined) words (map (named_call compilation analysis) calls)
  invokes_named calls i =
      subst (Invoke (menu_of defined) words) (named_rows i.rows ∙ ap (map (named_call compilation analysis)) (sym i.are)) ((alike i.by_menus.menus i.by_menus.are).there i.rows i.by_menus.is)

  -- a run's words
  invoked : (calls : List CallRow) → InvokesAt compilation analysis.table.value analysis.values.value.settings.items words calls → MeansNamed defined words Run
  invoked calls i = (_, invokes_named calls i)

  -- of what names nothing
  none_named : (target : Option Target) → IsNamedTarget compilation analysis.variables.lists.items None target → target ≡ None
  none_named None is = refl
  none_named (Some target) is = absurd is

  some_named : (target : EvaluationTarget) (named : Option Target) → IsNamedTarget compilation analysis.variables.lists.items (Some target) named → (other : Target) × (named ≡ Some other)
  some_named target None is = absurd (no_target target is)
    where
      no_target : (target : EvaluationTarget) → IsNamedTarget compilation analysis.variables.lists.items (Some target) None → ⊥
      no_target target is = is
  some_named target (Some other) is = (other, refl)

  breaks_values : (texts : List (List ℕ)) (rule : ActionRule) → texts ≡ words → BreaksValuesAt compilation.modules.items analysis.variables.lists.items texts rule → BreaksEvaluate defined texts rule
  breaks_values _ _ same (unknown {word} none) = asked.unknown (none_named (target_named defined (word ∷ [])) (subst (λ target. IsNamedTarget compilation analysis.variables.lists.items target (target_named defined (word ∷ []))) none (target_is word)))
  breaks_values _ _ same extra = asked.extra

  refused_values : (fault : WordFault) → IsRefusedFor (BreaksValuesAt compilation.modules.items analysis.variables.lists.items words) fault → IsRefusedFor (BreaksEvaluate defined words) fault
  refused_values fault refused = λ rest.
      let r = refused rest in (r.0, (r.1.0, breaks_values words r.0 refl r.1.1))

  -- what is named by places is named by paths and names
  abbrev IsNamed : List (List ℕ) → EvaluationTarget → Type 0
  IsNamed texts target = (named : Target) × (target_named defined texts ≡ Some named) × IsNamedTarget compilation analysis.variables.lists.items (Some target) (Some named)

  one_named : (target : EvaluationTarget) (named : Option Target) → IsNamedTarget compilation analysis.variables.lists.items (Some target) named → (other : Target) × (named ≡ Some other) × IsNamedTarget compilation analysis.variables.lists.items (Some target) (Some other)
  one_named target None is = absurd (no_target target is)
    where
      no_target : (target : EvaluationTarget) → IsNamedTarget compilation analysis.variables.lists.items (Some target) None → ⊥
      no_target target is = is
  one_named target (Some other) is = (other, refl, is)

  named_values : path_in compilation.modules.items 0 ≡ [] → (texts : List (List ℕ)) (target : EvaluationTarget) → values_of compilation.modules.items analysis.variables.lists.items texts ≡ Some target → IsNamed texts target
  named_values root [] target is =
      let same : Module 0 ≡ target = same_Some (Module 0) target is in
      subst (IsNamed []) same (of_module [], refl, sym root)
  named_values root (word ∷ []) target is =
      one_named target (target_named defined (word ∷ [])) (subst (λ t. IsNamedTarget compilation analysis.variables.lists.items t (target_named defined (word ∷ []))) is (target_is word))
  named_values root (word ∷ other ∷ texts) target is = absurd (cc is)

  pub targets_named : path_in compilation.modules.items 0 ≡ [] → (target : EvaluationTarget) → values_of compilation.modules.items analysis.variables.lists.items words ≡ Some target
      → (named : Target) × (target_named defined words ≡ Some named) × IsNamedTarget compilation analysis.variables.lists.items (Some target) (Some named)
  targets_named root target is = named_values root words target is

  names_values : (texts : List (List ℕ)) → NamesValuesAt compilation.modules.items analysis.variables.lists.items texts → (target : Target) × (target_named defined texts ≡ Some target)
  names_values [] named = (of_module [], refl)
  names_values (word ∷ []) named = some_named named.0 (target_named defined (word ∷ [])) (subst (λ target. IsNamedTarget compilation analysis.variables.lists.items target (target_named defined (word ∷ []))) named.1 (target_is word))
  names_values (word ∷ other ∷ texts) named = absurd (cc (named.1))

  pub breaks_named : (action : Action) (fault : WordFault) → BreaksPlaced compilation analysis words action fault → BreaksNamed defined words action fault
  breaks_named Run fault breaks = breaks_run fault breaks
  breaks_named Plan fault breaks = breaks_run fault breaks
  breaks_named Evaluate fault breaks = refused_values fault breaks
  breaks_named Command fault breaks = breaks
  breaks_named Dump fault breaks = breaks
  breaks_named Format fault breaks = breaks
  breaks_named ListAction fault breaks = breaks

  pub means_named : (action : Action) → MeansPlaced compilation analysis words action → MeansNamed defined words action
  means_named Run means = invoked means.0 means.1
  means_named Plan means = invoked means.0 means.1
  means_named Evaluate means = names_values words means
  means_named Command means = means
  means_named Dump means = means
  means_named Format means = means
  means_named ListAction means = means
