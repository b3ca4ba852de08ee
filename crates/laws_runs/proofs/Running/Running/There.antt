-- What a word names for values by places is there.
use Rattle.std.proofs.Common.{◌≡◌, ◌<◌, refl, sym, ◌∙◌, ap, subst, List, [], ◌∷◌, length, Option, Some, None, ℕ}
use Rattle.std.specs.Prelude.{slice_get}
use Rattle.std.specs.Option.{option_and_then, option_map}
use Rattle.std.proofs.lemmas.Option.{none-some, same_Some, slice_get_within}
use Rattle.modules_compilation.specs.Modulepaths.{pieces}
use Rattle.modules_compilation.specs.declared.compilation.Compilation.{Compilation}
use Rattle.resolve_recipes.specs.Named.{submodule_in}
use Rattle.resolve_analysis.specs.declared.module_lists.ModuleLists.{ModuleLists}
use Rattle.justfile_analyzer.specs.Targets.{leads_from, module_or, number_named, target_of, variable_in}
use Rattle.justfile_analyzer.specs.declared.target.EvaluationTarget.{EvaluationTarget}
use Rattle.justfile_analyzer.specs.declared.target.EvaluationTarget.TheVariants.{Module, Variable}
use Rattle.meaning_rules.specs.Worlds.Given.{Text, World}
use Rattle.laws_modules.specs.Names.Names.{AreSingle, IsOfWorld, IsSubmoduleOf}
use Rattle.laws_modules.proofs.Names.Found.{there_within}
use Rattle.laws_modules.proofs.Names.Modules.{node_of, submodules_are_found}
use Rattle.laws_runs.proofs.Resolved.Leading.{root_path}
use Rattle.laws_runs.specs.Running.Told.{IsThere}

module _ (w : World) (compilation : Compilation) (is : IsOfWorld w compilation) (single : AreSingle w compilation) (lists : List ModuleLists) where
  abbrev leads : Option EvaluationTarget → List Text → Option EvaluationTarget
  leads found names = leads_from compilation.modules.items lists found names

  nowhere : (names : List Text) (target : EvaluationTarget) → leads None names ≡ Some target → IsThere compilation target
  nowhere [] target e = absurd (none-some target e)
  nowhere (name ∷ names) target e = nowhere names target e

  -- no name leads on from a variable
  variable_there : (k : ℕ) (number : Option ℕ) (names : List Text) (target : EvaluationTarget) → leads (option_map (Variable k) number) names ≡ Some target → IsThere compilation target
  variable_there k None names target e = nowhere names target e
  variable_there k (Some number) [] target e = subst (IsThere compilation) (same_Some (Variable k number) target e) tt
  variable_there k (Some number) (name ∷ names) target e = nowhere names target e

  listed_there : (k : ℕ) (name : Text) (kept : Option ModuleLists) (names : List Text) (target : EvaluationTarget)
      → leads (option_and_then (λ (l : ModuleLists). option_map (Variable k) (number_named l.assignments.items name)) kept) names ≡ Some target → IsThere compilation target
  listed_there k name None names target e = nowhere names target e
  listed_there k name (Some kept) names target e = variable_there k (number_named kept.assignments.items name) names target e

  -- names lead from a module to what is there
  leads_there : (names : List Text) (k : ℕ) (target : EvaluationTarget) → k < length compilation.modules.items → leads (Some (Module k)) names ≡ Some target → IsThere compilation target
  leads_there [] k target lt e = subst (IsThere compilation) (same_Some (Module k) target e) lt
  leads_there (name ∷ names) k target lt e = by_inner (submodule_in compilation.modules.items k name) refl (λ inner within f. leads_there names inner target within f)
    where
      by_inner : (o : Option ℕ) → submodule_in compilation.modules.items k name ≡ o
          → ((inner : ℕ) → inner < length compilation.modules.items → leads (Some (Module inner)) names ≡ Some target → IsThere compilation target) → IsThere compilation target
      by_inner None none each = listed_there k name (slice_get lists k) names target (sym (ap (λ o. leads (module_or o (variable_in lists k name)) names) none) ∙ e)
      by_inner (Some inner) found each =
          let node = there_within compilation.modules.items k lt in
          let s = subst (IsSubmoduleOf w compilation k node.0 name) found (submodules_are_found w compilation is single k node.0 node.1 name) in
          each inner (slice_get_within compilation.modules.items inner s.0 s.1.there) (sym (ap (λ o. leads (module_or o (variable_in lists k name)) names) found) ∙ e)

  -- the root
  pub root_there : IsThere compilation (Module 0)
  root_there = let node = node_of w compilation is 0 [] (root_path w compilation is) in slice_get_within compilation.modules.items 0 node.0 node.1

  -- what a word names
  pub target_there : (word : Text) (target : EvaluationTarget) → target_of compilation.modules.items lists word ≡ Some target → IsThere compilation target
  target_there word target e = leads_there (pieces word) 0 target root_there e
