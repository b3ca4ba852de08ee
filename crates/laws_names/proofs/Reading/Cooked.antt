-- The expressions of an item hold what their strings stand for, and still do where they say the same.
use Rattle.std.proofs.Common.{◌≡◌, sym, ap, ◌∙◌, List, [], ◌∷◌, ◌++◌, map, Option, Some, None, ℕ, All}
use Rattle.std.specs.Prelude.{IfSome}
use Rattle.std.specs.List.{flat_map}
use Rattle.std.proofs.lemmas.List.Elements.{All-append, All-cons, All-head, All-map, All-nil, All-tail}
use Rattle.tree_expressions.specs.declared.expression.Expression.{Expression}
use Rattle.tree_attributes.specs.declared.attribute.Attribute.{Attribute}
use Rattle.tree_attributes.specs.declared.attribute.Attribute.TheVariants.{Android, Arg, Cache, Confirm, Default, Doc, Dragonfly, Env, ExitMessage, Extension, Freebsd, Group, Linux, Macos, Metadata, Netbsd, NoCd, NoExitMessage, NoQuiet, Openbsd, Parallel, PositionalArguments, Private, Script, Unix, Windows, WorkingDirectory}
use Rattle.tree_attributes.specs.declared.setting.Setting.{Setting}
use Rattle.tree_attributes.specs.declared.setting.Setting.TheVariants as settings
use Rattle.tree_attributes.specs.Sets.Sets.{items_of}
use Rattle.tree_attributes.specs.declared.attribute_item.AttributeItem.{AttributeItem}
use Rattle.tree_items.specs.Contexts.{named_number, parameter_number}
use Rattle.tree_items.specs.declared.ast.Item.{Item}
use Rattle.tree_items.specs.declared.ast.Item.TheVariants.{Alias, Assignment, Comment, Function, Import, Module, Newline, Recipe, Set, Unexport}
use Rattle.tree_items.specs.declared.line.Fragment.{Fragment}
use Rattle.tree_items.specs.declared.line.Fragment.TheVariants.{Interpolation, Text}
use Rattle.tree_items.specs.declared.line.Line.{Line}
use Rattle.tree_items.specs.declared.recipe.Parameter.{Parameter}
use Rattle.tree_items.specs.declared.recipe.Recipe.{Recipe as RecipeOf}
use Rattle.tree_items.specs.declared.recipe.UnresolvedDependency.{UnresolvedDependency}
use Rattle.parse_expressions.specs.Literals.{AreCooked, IsCooked, Origin, cooked_in}
use Rattle.parse_attributes.specs.Cooked.{IsCookedAttribute}
use Rattle.parse_recipes.specs.Cooked.{AreDependenciesCooked, AreParametersCooked, IsBodyCooked, IsDependencyCooked, IsFragmentCooked, IsLineCooked, IsParameterCooked, IsRecipeCooked}
use Rattle.parse_items.specs.SettingCooked.{IsCookedSetting}
use Rattle.parse_attributed_items.specs.Held.{AreAttributesCooked, IsItemCooked, IsWholeAttribute}
use Rattle.parse_attributed_items.specs.Options.{AreValuesCooked, IsValueCooked}
use Rattle.resolve_references.specs.Said.{said_by, said_of}
use Rattle.resolve_references.specs.Seen.{Seen, seeing, seeing_if_there, seen_in_attribute, seen_in_attributes, seen_in_body, seen_in_dependencies, seen_in_dependency, seen_in_fragment, seen_in_line, seen_in_parameters, seen_in_recipe, seen_in_setting}
use Rattle.laws_evaluation.proofs.Terms.Cooked.{row_parts}
use Rattle.laws_evaluation.proofs.Terms.Kept.{same_holds}
use Rattle.laws_names.specs.Reading.Meant.{AreSeenCooked}

abbrev Pairs : Type 0
Pairs = List (List ℕ × ℕ)

-- ---- expressions that say the same

pub same_parts : {X : Type 0} (x y : X) (xs ys : List X) → x ∷ xs ≡ y ∷ ys → (x ≡ y) × (xs ≡ ys)
same_parts x y xs ys e = (cc, cc)

-- an expression that says what one said that was cooked is cooked
same_cooked : (origin : Origin) (old new : Expression) → said_of new ≡ said_of old → IsCooked origin old → IsCooked origin new
same_cooked origin old new e h =
    let shape = ap (λ s. s.shape) e in
    same_holds old new shape (ap (λ s. s.texts) e) (ap (λ s. s.tokens) e) (ap (λ s. s.literals) e) ∙ h ∙ sym (ap (cooked_in origin) shape)

module _ (origin : Origin) where
  -- what is seen is cooked
  abbrev IsSeenCooked : Seen → Type 0
  IsSeenCooked s = IsCooked origin s.expression

  abbrev AreAllCooked : List Seen → Type 0
  AreAllCooked seen = All IsSeenCooked seen

  -- expressions that say what cooked ones said are cooked
  pub said_cooked : (old new : List Seen) → said_by new ≡ said_by old → All (λ (s : Seen). IsCooked origin s.expression) old → All (λ (s : Seen). IsCooked origin s.expression) new
  said_cooked [] [] e all = all
  said_cooked [] (t ∷ ts) e all = absurd (cc e)
  said_cooked (s ∷ ss) [] e all = absurd (cc e)
  said_cooked (s ∷ ss) (t ∷ ts) e all =
      let parts = same_parts (said_of t.expression) (said_of s.expression) (said_by ts) (said_by ss) e in
      All-cons IsSeenCooked t ts (same_cooked origin s.expression t.expression parts.0 (All-head IsSeenCooked s ss all)) (said_cooked ss ts parts.1 (All-tail IsSeenCooked s ss all))

  -- ---- the expressions of an item

  none : AreAllCooked []
  none = All-nil IsSeenCooked

  first : (seen : Pairs) (e : Expression) (others : List Seen) → IsCooked origin e → AreAllCooked others → AreAllCooked (seeing seen e ∷ others)
  first seen e others h all = All-cons IsSeenCooked (seeing seen e) others h all

  alone : (seen : Pairs) (e : Expression) → IsCooked origin e → AreAllCooked (seeing seen e ∷ [])
  alone seen e h = first seen e [] h none

  if_there : (seen : Pairs) (o : Option Expression) → IfSome o (IsCooked origin) → AreAllCooked (seeing_if_there seen o)
  if_there seen None h = none
  if_there seen (Some e) h = alone seen e h

  row : (seen : Pairs) (es : List Expression) → AreCooked origin es → AreAllCooked (map (seeing seen) es)
  row seen [] h = none
  row seen (e ∷ es) h = let parts = row_parts origin e es h in first seen e (map (seeing seen) es) parts.0 (row seen es parts.1)

  both : (some others : List Seen) → AreAllCooked some → AreAllCooked others → AreAllCooked (some ++ others)
  both some others h g = All-append IsSeenCooked some others h g

  flat : {X : Type 0} (P : X → Type 0) (f : X → List Seen) → ((x : X) → P x → AreAllCooked (f x)) → (xs : List X) → All P xs → AreAllCooked (flat_map f xs)
  flat P f each [] all = none
  flat P f each (x ∷ xs) all = both (f x) (flat_map f xs) (each x (All-head P x xs all)) (flat P f each xs (All-tail P x xs all))

  in_attribute : (seen : Pairs) (a : Attribute) → IsCookedAttribute origin a → AreAllCooked (seen_in_attribute seen a)
  in_attribute seen Android h = none
  in_attribute seen (Arg options) h = none
  in_attribute seen Cache h = none
  in_attribute seen (Confirm None) h = none
  in_attribute seen (Confirm (Some prompt)) h = alone seen prompt h
  in_attribute seen Default h = none
  in_attribute seen (Doc None) h = none
  in_attribute seen (Doc (Some text)) h = none
  in_attribute seen Dragonfly h = none
  in_attribute seen (Env key value) h = first [] key (seeing [] value.value ∷ []) h.0 (alone [] value.value h.1)
  in_attribute seen ExitMessage h = none
  in_attribute seen (Extension text) h = none
  in_attribute seen Freebsd h = none
  in_attribute seen (Group text) h = none
  in_attribute seen Linux h = none
  in_attribute seen Macos h = none
  in_attribute seen (Metadata text others) h = none
  in_attribute seen Netbsd h = none
  in_attribute seen NoCd h = none
  in_attribute seen NoExitMessage h = none
  in_attribute seen NoQuiet h = none
  in_attribute seen Openbsd h = none
  in_attribute seen Parallel h = none
  in_attribute seen PositionalArguments h = none
  in_attribute seen Private h = none
  in_attribute seen (Script None) h = none
  in_attribute seen (Script (Some i)) h = first seen i.value.command (map (seeing seen) i.value.arguments.items) h.command (row seen i.value.arguments.items h.arguments)
  in_attribute seen Unix h = none
  in_attribute seen Windows h = none
  in_attribute seen (WorkingDirectory text) h = none

  in_attributes : (seen : Pairs) (items : List AttributeItem) → AreAttributesCooked origin items → AreAllCooked (seen_in_attributes seen items)
  in_attributes seen items h = flat (IsWholeAttribute origin) (λ (item : AttributeItem). seen_in_attribute seen item.attribute) (λ item whole. in_attribute seen item.attribute whole.0) items h

  in_parameters : (earlier : Pairs) (ps : List Parameter) → AreParametersCooked origin ps → AreValuesCooked origin ps → AreAllCooked (seen_in_parameters earlier ps)
  in_parameters earlier [] h g = none
  in_parameters earlier (p ∷ ps) h g =
      let later = seen_in_parameters (earlier ++ parameter_number p ∷ []) ps in
      both (seeing_if_there earlier p.default ++ seeing_if_there earlier p.value) later
      (both (seeing_if_there earlier p.default) (seeing_if_there earlier p.value) (if_there earlier p.default (All-head (IsParameterCooked origin) p ps h)) (if_there earlier p.value (All-head (IsValueCooked origin) p ps g)))
      (in_parameters (earlier ++ parameter_number p ∷ []) ps (All-tail (IsParameterCooked origin) p ps h) (All-tail (IsValueCooked origin) p ps g))

  in_dependency : (seen : Pairs) (d : UnresolvedDependency) → IsDependencyCooked origin d → AreAllCooked (seen_in_dependency seen d)
  in_dependency seen d h = All-map IsSeenCooked (λ a. seeing seen a.expression) d.arguments.items h

  in_dependencies : (seen : Pairs) (ds : List UnresolvedDependency) → AreDependenciesCooked origin ds → AreAllCooked (seen_in_dependencies seen ds)
  in_dependencies seen ds h = flat (IsDependencyCooked origin) (seen_in_dependency seen) (in_dependency seen) ds h

  in_fragment : (seen : Pairs) (f : Fragment) → IsFragmentCooked origin f → AreAllCooked (seen_in_fragment seen f)
  in_fragment seen (Interpolation e) h = alone seen e h
  in_fragment seen (Text token) h = none

  in_line : (seen : Pairs) (line : Line) → IsLineCooked origin line → AreAllCooked (seen_in_line seen line)
  in_line seen line h = flat (IsFragmentCooked origin) (seen_in_fragment seen) (in_fragment seen) line.fragments.items h

  in_body : (seen : Pairs) (lines : List Line) → IsBodyCooked origin lines → AreAllCooked (seen_in_body seen lines)
  in_body seen lines h = flat (IsLineCooked origin) (seen_in_line seen) (in_line seen) lines h

  in_recipe : (r : RecipeOf UnresolvedDependency) → AreAttributesCooked origin (items_of r.attributes) → IsRecipeCooked origin r → AreValuesCooked origin r.parameters.items → AreAllCooked (seen_in_recipe r)
  in_recipe r attributes h values =
      let seen = map parameter_number r.parameters.items in
      let attributed = seen_in_attributes seen (items_of r.attributes) in
      let parameters = seen_in_parameters [] r.parameters.items in
      let priors = seen_in_dependencies seen r.priors.items in
      let subsequents = seen_in_dependencies seen r.subsequents.items in
      let body = seen_in_body seen r.body.items in
      let with_parameters = both attributed parameters (in_attributes seen (items_of r.attributes) attributes) (in_parameters [] r.parameters.items h.parameters values) in
      let with_priors = both (attributed ++ parameters) priors with_parameters (in_dependencies seen r.priors.items h.priors) in
      let with_subsequents = both (attributed ++ parameters ++ priors) subsequents with_priors (in_dependencies seen r.subsequents.items h.subsequents) in
      both (attributed ++ parameters ++ priors ++ subsequents) body with_subsequents (in_body seen r.body.items h.body)

  in_setting : (setting : Setting) → IsCookedSetting origin setting → AreAllCooked (seen_in_setting setting)
  in_setting (settings.Truth which value) h = none
  in_setting (settings.DotenvCommand value) h = alone [] value h
  in_setting (settings.DotenvFilename value) h = alone [] value h
  in_setting (settings.DotenvPath value) h = alone [] value h
  in_setting (settings.Indentation value) h = none
  in_setting (settings.MinimumVersion value) h = none
  in_setting (settings.ScriptInterpreter i) h = first [] i.command (map (seeing []) i.arguments.items) h.command (row [] i.arguments.items h.arguments)
  in_setting (settings.Shell i) h = first [] i.command (map (seeing []) i.arguments.items) h.command (row [] i.arguments.items h.arguments)
  in_setting (settings.Tempdir value) h = alone [] value h
  in_setting (settings.WindowsShell i) h = first [] i.command (map (seeing []) i.arguments.items) h.command (row [] i.arguments.items h.arguments)
  in_setting (settings.WorkingDirectory value) h = alone [] value h

  -- where an item is cooked, each expression that it sees is
  pub seen_cooked : (item : Item) → IsItemCooked origin item → AreSeenCooked origin item
  seen_cooked (Alias a) h = none
  seen_cooked (Assignment a) h = alone [] a.value h.inside
  seen_cooked (Comment c) h = none
  seen_cooked (Function f) h = alone (map named_number f.parameters.items) f.body h.inside
  seen_cooked (Import i) h = none
  seen_cooked (Module m) h = none
  seen_cooked Newline h = none
  seen_cooked (Recipe r) h = in_recipe r h.attributes h.inside.0 h.inside.1
  seen_cooked (Set s) h = in_setting s.value h.inside
  seen_cooked (Unexport u) h = none
