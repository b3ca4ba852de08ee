-- Refusals of an action's words.
use Rattle.std.proofs.Common.{◌≡◌, ◌∙◌, ℕ, List, [], ◌∷◌, length, map, Option, Some, None, Result, Ok, Err, IfErr, Bor, refl, sym, ap, subst}
use Rattle.std.proofs.lemmas.List.{nil_from_length}
use Rattle.std.proofs.lemmas.Option.{none-some, same_Some}
use Rattle.std.specs.List.{slice_get}
use Rattle.std.specs.Option.{option_copied}
use Rattle.evaluate_context.specs.declared.settings.Settings.{Settings}
use Rattle.modules_compilation.specs.declared.compilation.Compilation.{Compilation}
use Rattle.modules_compilation.specs.declared.module_node.ModuleNode.{ModuleNode}
use Rattle.resolve_analysis.specs.declared.module_lists.ModuleLists.{ModuleLists}
use Rattle.resolve_analysis.specs.declared.recipes.RecipeTable.{RecipeTable}
use Rattle.analyze_words.specs.Faults.{IsFault}
use Rattle.analyze_words.specs.Worded.{row_of}
use Rattle.analyze_words.specs.declared.parser.Invocation.{Invocation}
use Rattle.meaning_runs.specs.Words.{Words}
use Rattle.analyze_words.specs.declared.fault.WordFault.{WordFault}
use Rattle.analyze_words.specs.declared.fault.WordFault.TheVariants as faults
use Rattle.resolve_recipes.specs.Named.{AllByName, AreByName, module_text}
use Rattle.justfile_analyzer.specs.Targets.{AreInOrder, target_of}
use Rattle.just_meaning.specs.Actions.{ActionRule, BreaksCommand, BreaksText, extra_word, missing_command, unknown_variable, any, none}
use Rattle.run_tasks.specs.Requested.Words.{BreaksValuesAt, ByMenus, IsRefusedFor, call_of, called, rule_of, unknown, extra}

-- a refusal that names a broken rule
pub refused_by : (Breaks : ActionRule → Type 0) (wanted fault : WordFault) (rule : ActionRule) → IsFault wanted fault → rule_of wanted ≡ Some rule → Breaks rule → IsRefusedFor Breaks fault
refused_by Breaks wanted fault rule is names breaks = λ some. (rule, (ap rule_of (is some) ∙ names, breaks))

-- a command without words
pub command_missing : (words : List (List ℕ)) → length words ≡ 0 → IsRefusedFor (BreaksCommand words) faults.MissingCommand
command_missing words e = λ some. (missing_command, (refl, subst (λ ws. BreaksCommand ws missing_command) (sym (nil_from_length words e)) none))

-- a word where none is taken
pub text_extra : (words : List (List ℕ)) (word : List ℕ) → slice_get words 0 ≡ Some word → BreaksText words (extra_word word)
text_extra [] word e = absurd (none-some word e)
text_extra (first ∷ words) word e = subst (λ w. BreaksText (first ∷ words) (extra_word w)) (same_Some first word e) any

module _ (modules : List ModuleNode) (lists : List ModuleLists) where
  -- a second word
  pub values_extra : (words others : List (List ℕ)) (word other : List ℕ) → words ≡ word ∷ others → slice_get others 0 ≡ Some other → BreaksValuesAt modules lists words (extra_word other)
  values_extra words [] word other is e = absurd (none-some other e)
  values_extra words (second ∷ rest) word other is e =
      subst (λ ws. BreaksValuesAt modules lists ws (extra_word other)) (sym is) (subst (λ w. BreaksValuesAt modules lists (word ∷ second ∷ rest) (extra_word w)) (same_Some second other e) extra)

  -- a word that names nothing
  pub values_unknown : (words others : List (List ℕ)) (word : List ℕ) → words ≡ word ∷ others → others ≡ [] → target_of modules lists word ≡ None → BreaksValuesAt modules lists words (unknown_variable word)
  values_unknown words others word is alone e = subst (λ ws. BreaksValuesAt modules lists ws (unknown_variable word)) (sym (is ∙ ap (λ os. word ∷ os) alone)) (unknown e)

-- the submodules of a justfile's modules stand in byte order of their names
pub in_order : (compilation : Compilation) (modules : List ModuleNode) → modules ≡ compilation.modules.items → AllByName compilation → AreInOrder modules
in_order compilation modules same all = λ place node there.
    subst (λ ms. AreByName (module_text ms) node.submodules.items) (sym same) (all place node (subst (λ ms. slice_get ms place ≡ Some node) same there)).submodules

-- nothing follows where there is no first
pub no_first : {A : Type 0} (xs : List A) (found : Option (Bor A)) → option_copied found ≡ slice_get xs 0 → ((x : Bor A) → found ≡ Some x → ⊥) → xs ≡ []
no_first [] found e differs = refl
no_first (x ∷ xs) None e differs = absurd (none-some x e)
no_first (x ∷ xs) (Some y) e differs = absurd (differs y refl)

pub err_weaker : {T E : Type 0} (r : Result T E) (P Q : E → Type 0) → ((e : E) → P e → Q e) → IfErr r P → IfErr r Q
err_weaker (Ok x) P Q f p = tt
err_weaker (Err e) P Q f p = f e p

-- a call as words ask for it is that of its row
pub by_rows : (invocations : List Invocation) → map called invocations ≡ map call_of (map row_of invocations)
by_rows [] = refl
by_rows (invocation ∷ invocations) = ap (λ calls. called invocation ∷ calls) (by_rows invocations)

-- by what the analysis lends
pub by_lent : (compilation : Compilation) (lent_table table : RecipeTable) (lent settings : List Settings) (words : List (List ℕ)) (IsSo : Words ℕ ℕ → Type 0) → lent_table ≡ table → lent ≡ settings
    → ByMenus compilation lent_table lent words IsSo → ByMenus compilation table settings words IsSo
by_lent compilation lent_table table lent settings words IsSo tables same by = subst (λ s. ByMenus compilation table s words IsSo) same (subst (λ t. ByMenus compilation t lent words IsSo) tables by)
