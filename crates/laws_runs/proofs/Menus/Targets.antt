-- What names lead to by places is what they lead to by paths and names.
use Rattle.std.proofs.Common.{◌≡◌, sym, ◌∙◌, ap, subst, List, [], ◌∷◌, ◌++◌, ℕ, ◌≤◌, ◌+◌, Option, Some, None, refl, arith, length}
use Rattle.std.specs.Prelude.{find, map, slice_get}
use Rattle.std.specs.Option.{option_and_then, option_map}
use Rattle.std.specs.Str.{bytes_eq}
use Rattle.std.proofs.lemmas.Option.{slice_get_within}
use Rattle.tree_items.specs.Files.{item_shape}
use Rattle.modules_compilation.specs.Modulepaths.{path_in, pieces}
use Rattle.modules_compilation.specs.declared.compilation.Compilation.{Compilation}
use Rattle.modules_compilation.specs.declared.module_node.ModuleNode.{ModuleNode}
use Rattle.modules_compilation.specs.declared.place.Place.{Place}
use Rattle.resolve_recipes.specs.Named.{first_named, submodule_in, text_at}
use Rattle.resolve_analysis.specs.Lists.{Kept, kept_by, kept_in, variable_at}
use Rattle.resolve_analysis.specs.Lists.{variable_of as binding_of}
use Rattle.resolve_analysis.specs.declared.module_lists.ModuleLists.{ModuleLists}
use Rattle.justfile_analyzer.specs.Targets.{leads_from, leads_on, module_or, number_named, variable_in}
use Rattle.justfile_analyzer.specs.declared.target.EvaluationTarget.{EvaluationTarget}
use Rattle.justfile_analyzer.specs.declared.target.EvaluationTarget.TheVariants.{Module, Variable}
use Rattle.meaning_rules.specs.Worlds.Given.{Text, World}
use Rattle.meaning_rules.specs.Worlds.Compiled.{HasPath}
use Rattle.meaning_rules.proofs.Worlds.Places.{contains_at}
use Rattle.laws_modules.specs.Names.Names.{AreSingle, HasNode, IsOfWorld, IsSubmoduleOf, nodes, views}
use Rattle.laws_modules.proofs.Names.Found.{found_at, mapped, mapped_at}
use Rattle.laws_modules.proofs.Names.Modules.{node_of, path_inside, submodules_are_found}
use Rattle.meaning_evaluation.specs.Named.{Definitions, Modules, VariableName}
use Rattle.just_meaning.specs.Opening.{named}
use Rattle.just_meaning.specs.Actions.{Target, if_variable, submodules_of, target_from}
use Rattle.laws_runs.specs.Resolved.Definitions.{definitions_of, key_at, modules_below, place_of, rows_of, shape_at, variable_named, variable_of}
use Rattle.laws_runs.specs.Resolved.Modules.{PathsAreOwn, PathsLead}
use Rattle.laws_runs.proofs.Resolved.Submodules.{parent_before}
use Rattle.laws_runs.specs.Menus.Targets.{IsNamedTarget, TargetsAreNamed}
use Rattle.laws_runs.proofs.Menus.Trees.{inner_there, none_there}
use Rattle.laws_runs.proofs.Menus.Variables.{first_there, has_row, is_named, lent_number, number_in, variables_stand}

-- ---- one name by paths and names

module _ (defined : Definitions) (path : List Text) (modules : Modules) (name : Text) where
  -- the submodule of the name
  to_inner : (inner : Modules) (names : List Text) → submodules_of name modules ≡ Some inner → target_from defined path modules (name ∷ names) ≡ target_from defined (path ++ name ∷ []) inner names
  to_inner inner names e = rw e refl

  -- where there is none, the variable of the last name
  to_variable : submodules_of name modules ≡ None → target_from defined path modules (name ∷ []) ≡ if_variable defined (named path name) (defined.variable (named path name))
  to_variable e = rw e refl

  -- and nothing where more names follow
  to_none : (other : Text) (others : List Text) → submodules_of name modules ≡ None → target_from defined path modules (name ∷ other ∷ others) ≡ None
  to_none other others e = rw e refl

-- ---- names by places

module _ (compilation : Compilation) (lists : List ModuleLists) where
  abbrev leads : Option EvaluationTarget → List Text → Option EvaluationTarget
  leads found names = leads_from compilation.modules.items lists found names

  -- from nothing they lead to nothing
  none_leads : (names : List Text) → leads None names ≡ None
  none_leads [] = refl
  none_leads (name ∷ names) = none_leads names

  -- nor from a variable
  variable_leads : (k : ℕ) (number : Option ℕ) (other : Text) → leads_on compilation.modules.items lists (option_map (Variable k) number) other ≡ None
  variable_leads k None other = refl
  variable_leads k (Some number) other = refl

  listed_leads : (k : ℕ) (name : Text) (kept : Option ModuleLists) (other : Text)
      → leads_on compilation.modules.items lists (option_and_then (λ kept. option_map (Variable k) (number_named kept.assignments.items name)) kept) other ≡ None
  listed_leads k name None other = refl
  listed_leads k name (Some kept) other = variable_leads k (number_named kept.assignments.items name) other

  -- what is named of what is the same
  same_named : (found found' : Option EvaluationTarget) (target target' : Option Target) → found ≡ found' → target ≡ target' → IsNamedTarget compilation lists found' target' → IsNamedTarget compilation lists found target
  same_named found found' target target' e f is = subst (λ o. IsNamedTarget compilation lists o target) (sym e) (subst (IsNamedTarget compilation lists found') (sym f) is)

-- ---- the last name

module _ (w : World) (compilation : Compilation) (is : IsOfWorld w compilation) (lists : List ModuleLists) (are : map kept_in lists ≡ map (kept_by compilation) compilation.modules.items) (defined : Definitions)
    (k : ℕ) (node : ModuleNode) (here : HasNode w compilation k node) (path : List Text) (found : place_of compilation path ≡ Some k) (own : path_in compilation.modules.items k ≡ path) (name : Text) where
  abbrev first_place : Option Place
  first_place = first_named (text_at compilation) node.assignments.items name

  -- what the module keeps
  kept_there : (kept : ModuleLists) × (slice_get lists k ≡ Some kept) × (kept_in kept ≡ kept_by compilation node)
  kept_there = mapped_at kept_in lists k (kept_by compilation node) (ap (λ ks. slice_get ks k) are ∙ mapped (kept_by compilation) compilation.modules.items k node here)

  -- the number of the variable at the first place of the name
  number_is : number_named kept_there.0.assignments.items name ≡ number_in name (option_and_then (variable_at compilation) first_place)
  number_is =
      lent_number name kept_there.0.assignments.items ∙ ap (λ (kept : Kept). number_in name (find (is_named name) kept.variables)) kept_there.2
      ∙ ap (number_in name) (first_there name compilation node.assignments.items (variables_stand w compilation is k node here))

  number_of : (o : Option Place) → first_place ≡ o → number_named kept_there.0.assignments.items name ≡ number_in name (option_and_then (variable_at compilation) o)
  number_of o e = number_is ∙ ap (λ o. number_in name (option_and_then (variable_at compilation) o)) e

  variable_is : (number : Option ℕ) → number_named kept_there.0.assignments.items name ≡ number → variable_in lists k name ≡ option_map (Variable k) number
  variable_is number e = ap (option_and_then (λ kept. option_map (Variable k) (number_named kept.assignments.items name))) kept_there.1 ∙ ap (option_map (Variable k)) e

  -- the row of the variable there
  row_is : (o : Option Place) → first_place ≡ o → variable_named compilation (named path name) ≡ option_and_then (λ place. variable_of (key_at compilation place) (shape_at compilation place)) o
  row_is o e =
      ap (λ n. option_and_then (λ place. variable_of (key_at compilation place) (shape_at compilation place)) (first_named (text_at compilation) (rows_of (λ node. node.assignments.items) n) name))
      (ap (option_and_then (slice_get compilation.modules.items)) found ∙ here)
      ∙ ap (option_and_then (λ place. variable_of (key_at compilation place) (shape_at compilation place))) e

  pub last_named : IsNamedTarget compilation lists (variable_in lists k name) (if_variable defined (named path name) (variable_named compilation (named path name)))
  last_named = by_place first_place refl
    where
      by_place : (o : Option Place) → first_place ≡ o → IsNamedTarget compilation lists (variable_in lists k name) (if_variable defined (named path name) (variable_named compilation (named path name)))
      by_place None e =
          same_named compilation lists (variable_in lists k name) None (if_variable defined (named path name) (variable_named compilation (named path name))) None
          (variable_is None (number_of None e)) (ap (if_variable defined (named path name)) (row_is None e)) tt
      by_place (Some place) e =
          let f = found_at (λ p. bytes_eq (text_at compilation p) name) node.assignments.items place e in
          let v = variables_stand w compilation is k node here place (contains_at node.assignments.items f.0 place f.1) in
          let number : number_named kept_there.0.assignments.items name ≡ Some v.0.number = number_of (Some place) e ∙ ap (λ o. number_in name (binding_of o)) v.1 in
          let row = has_row (key_at compilation place) v.0 in
          let says = row_is (Some place) e ∙ ap (λ o. variable_of (key_at compilation place) (option_map item_shape o)) v.1 ∙ row.1 in
          same_named compilation lists (variable_in lists k name) (Some (Variable k v.0.number))
          (if_variable defined (named path name) (variable_named compilation (named path name))) (if_variable defined (named path name) (Some row.0))
          (variable_is (Some v.0.number) number) (ap (if_variable defined (named path name)) says)
          (kept_there.0, kept_there.1, sym own, number)

-- ---- all names

module _ (paths_lead : PathsLead) (paths_are_own : PathsAreOwn) where
  module _ (w : World) (compilation : Compilation) (is : IsOfWorld w compilation) (single : AreSingle w compilation) (lists : List ModuleLists)
      (are : map kept_in lists ≡ map (kept_by compilation) compilation.modules.items) (defined : Definitions) (variables : (x : VariableName) → defined.variable x ≡ variable_named compilation x) where
    abbrev HasPathTo : ℕ → List Text → Type 0
    HasPathTo k path = HasPath w (views w compilation) (nodes w compilation) k path

    place_is : (k : ℕ) (path : List Text) → HasPathTo k path → place_of compilation path ≡ Some k
    place_is k path has = (paths_lead w compilation is single path k).1 has

    own_is : (k : ℕ) (path : List Text) → HasPathTo k path → path_in compilation.modules.items k ≡ path
    own_is k path has = paths_are_own w compilation is single path k (place_is k path has)

    -- what names lead to from a place is what they lead to from its path
    abbrev AreNamed : ℕ → ℕ → List Text → List Text → Type 0
    AreNamed levels k path names = IsNamedTarget compilation lists (leads compilation lists (Some (Module k)) names) (target_from defined path (modules_below compilation levels k) names)

    -- where a module has no submodule of the name
    no_inner : (levels k : ℕ) (path : List Text) (name : Text) (names : List Text) → HasPathTo k path → submodule_in compilation.modules.items k name ≡ None
        → IsNamedTarget compilation lists (leads compilation lists (variable_in lists k name) names) (target_from defined path (modules_below compilation levels k) (name ∷ names))
    no_inner levels k path name [] has e =
        let n = node_of w compilation is k path has in
        same_named compilation lists (variable_in lists k name) (variable_in lists k name)
        (target_from defined path (modules_below compilation levels k) (name ∷ [])) (if_variable defined (named path name) (variable_named compilation (named path name)))
        refl (to_variable defined path (modules_below compilation levels k) name (none_there compilation name levels k e) ∙ ap (if_variable defined (named path name)) (variables (named path name)))
        (last_named w compilation is lists are defined k n.0 n.1 path (place_is k path has) (own_is k path has) name)
    no_inner levels k path name (other ∷ others) has e =
        same_named compilation lists (leads compilation lists (variable_in lists k name) (other ∷ others)) None
        (target_from defined path (modules_below compilation levels k) (name ∷ other ∷ others)) None
        (ap (λ o. leads compilation lists o others) (listed_leads compilation lists k name (slice_get lists k) other) ∙ none_leads compilation lists others)
        (to_none defined path (modules_below compilation levels k) name other others (none_there compilation name levels k e)) tt

    are_named : (levels k : ℕ) (path names : List Text) → length compilation.modules.items ≤ levels + k → HasPathTo k path → AreNamed levels k path names
    are_named levels k path [] le has = sym (own_is k path has)
    are_named levels k path (name ∷ names) le has = by_inner (submodule_in compilation.modules.items k name) refl (λ deep inner le has. are_named deep inner (path ++ name ∷ []) names le has)
      where
        by_inner : (o : Option ℕ) → submodule_in compilation.modules.items k name ≡ o
            → ((deep inner : ℕ) → length compilation.modules.items ≤ deep + inner → HasPathTo inner (path ++ name ∷ []) → AreNamed deep inner (path ++ name ∷ []) names)
            → AreNamed levels k path (name ∷ names)
        by_inner None e each =
            same_named compilation lists (leads compilation lists (Some (Module k)) (name ∷ names)) (leads compilation lists (variable_in lists k name) names)
            (target_from defined path (modules_below compilation levels k) (name ∷ names)) (target_from defined path (modules_below compilation levels k) (name ∷ names))
            (ap (λ o. leads compilation lists (module_or o (variable_in lists k name)) names) e) refl
            (no_inner levels k path name names has e)
        by_inner (Some inner) e each =
            let n = node_of w compilation is k path has in
            let s = subst (IsSubmoduleOf w compilation k n.0 name) e (submodules_are_found w compilation is single k n.0 n.1 name) in
            let inside = path_inside w compilation is single k n.0 n.1 inner s.0 name path s.1.there s.1.parent s.1.is_named has in
            let after = parent_before w compilation k inner (path ++ name ∷ []) s.0 s.1.there s.1.parent inside in
            let within = slice_get_within compilation.modules.items inner s.0 s.1.there in
            let d = inner_there compilation name levels k inner le after within e in
            same_named compilation lists (leads compilation lists (Some (Module k)) (name ∷ names)) (leads compilation lists (Some (Module inner)) names)
            (target_from defined path (modules_below compilation levels k) (name ∷ names)) (target_from defined (path ++ name ∷ []) (modules_below compilation d.deep inner) names)
            (ap (λ o. leads compilation lists (module_or o (variable_in lists k name)) names) e)
            (to_inner defined path (modules_below compilation levels k) name (modules_below compilation d.deep inner) names d.there)
            (each d.deep inner d.enough inside)

  pub targets_are_named : TargetsAreNamed
  targets_are_named w compilation is single sorted lists are o settle base working word =
      are_named w compilation is single lists are (definitions_of compilation w.expansion o settle base working) (λ x. refl)
      (length compilation.modules.items) 0 [] (pieces word) (omega arith) ((paths_lead w compilation is single [] 0).0 refl)
