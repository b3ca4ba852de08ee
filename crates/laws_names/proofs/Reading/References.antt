-- The references of recipes and settings are those of the expressions in them.
use Rattle.std.proofs.Common.{◌≡◌, refl, sym, ◌∙◌, ap, List, [], ◌∷◌, ◌++◌, map, Option, Some, None, ℕ}
use Rattle.std.specs.List.{flat_map}
use Rattle.std.proofs.lemmas.Grind.{flat_map-append}
use Rattle.std.proofs.lemmas.List.{append-nil}
use Rattle.std.proofs.lemmas.List.Folds.{flat_map-map}
use Rattle.tree_expressions.specs.declared.expression.Expression.{Expression}
use Rattle.tree_attributes.specs.declared.attribute.Attribute.{Attribute}
use Rattle.tree_attributes.specs.declared.attribute.Attribute.TheVariants.{Android, Arg, Cache, Confirm, Default, Doc, Dragonfly, Env, ExitMessage, Extension, Freebsd, Group, Linux, Macos, Metadata, Netbsd, NoCd, NoExitMessage, NoQuiet, Openbsd, Parallel, PositionalArguments, Private, Script, Unix, Windows, WorkingDirectory}
use Rattle.tree_attributes.specs.declared.setting.Interpreter.{Interpreter}
use Rattle.tree_attributes.specs.declared.setting.Setting.{Setting}
use Rattle.tree_attributes.specs.declared.setting.Setting.TheVariants as settings
use Rattle.tree_attributes.specs.Sets.Sets.{items_of}
use Rattle.tree_attributes.specs.declared.attribute_item.AttributeItem.{AttributeItem}
use Rattle.tree_items.specs.Contexts.{parameter_number}
use Rattle.tree_items.specs.declared.line.Fragment.{Fragment}
use Rattle.tree_items.specs.declared.line.Fragment.TheVariants.{Interpolation, Text}
use Rattle.tree_items.specs.declared.line.Line.{Line}
use Rattle.tree_items.specs.declared.recipe.DependencyArgument.{DependencyArgument}
use Rattle.tree_items.specs.declared.recipe.Parameter.{Parameter}
use Rattle.tree_items.specs.declared.recipe.UnresolvedDependency.{UnresolvedDependency}
use Rattle.resolve_references.specs.ItemReferences.{references_of_attribute, references_of_attribute_item, references_of_dependency, references_of_fragment, references_of_interpreter, references_of_line, references_of_optional, references_of_parameter, references_of_setting}
use Rattle.resolve_references.specs.References.{references_of}
use Rattle.resolve_references.specs.Seen.{Seen, seeing, seeing_if_there, seen_in_attribute, seen_in_dependency, seen_in_fragment, seen_in_interpreter, seen_in_line, seen_in_parameters, seen_in_setting}
use Rattle.resolve_references.specs.declared.references.Reference.{Reference}
use Rattle.laws_names.specs.Reading.Parts.{RecipeReferencesAreSeen, SettingReferencesAreSeen, references_seen}

-- what each element has is what its expressions have
flat : {X : Type 0} (f : X → List Seen) (g : X → List Reference) → ((x : X) → g x ≡ flat_map references_seen (f x)) → (xs : List X) → flat_map g xs ≡ flat_map references_seen (flat_map f xs)
flat f g each [] = refl
flat f g each (x ∷ xs) = ap (λ rs. rs ++ flat_map g xs) (each x) ∙ ap (λ rs. flat_map references_seen (f x) ++ rs) (flat f g each xs) ∙ sym (flat_map-append references_seen (f x) (flat_map f xs))

-- one list after the other
both : (some others : List Seen) {a b : List Reference} → a ≡ flat_map references_seen some → b ≡ flat_map references_seen others → a ++ b ≡ flat_map references_seen (some ++ others)
both some others {a} {b} p q = ap (λ x. x ++ b) p ∙ ap (λ x. flat_map references_seen some ++ x) q ∙ sym (flat_map-append references_seen some others)

alone : (all : List (List ℕ × ℕ)) (e : Expression) → references_of e ≡ flat_map references_seen (seeing all e ∷ [])
alone all e = sym (append-nil (references_of e))

if_there : (all : List (List ℕ × ℕ)) (o : Option Expression) → references_of_optional o ≡ flat_map references_seen (seeing_if_there all o)
if_there all None = refl
if_there all (Some e) = alone all e

of_interpreter : (all : List (List ℕ × ℕ)) (i : Interpreter Expression) → references_of_interpreter i ≡ flat_map references_seen (seen_in_interpreter all i)
of_interpreter all i = ap (λ rs. references_of i.command ++ rs) (sym (flat_map-map references_seen (seeing all) i.arguments.items))

of_attribute : (all : List (List ℕ × ℕ)) (a : Attribute) → references_of_attribute a ≡ flat_map references_seen (seen_in_attribute all a)
of_attribute all Android = refl
of_attribute all (Arg options) = refl
of_attribute all Cache = refl
of_attribute all (Confirm None) = refl
of_attribute all (Confirm (Some prompt)) = alone all prompt
of_attribute all Default = refl
of_attribute all (Doc None) = refl
of_attribute all (Doc (Some text)) = refl
of_attribute all Dragonfly = refl
of_attribute all (Env key value) = ap (λ rs. references_of key ++ rs) (alone [] value.value)
of_attribute all ExitMessage = refl
of_attribute all (Extension text) = refl
of_attribute all Freebsd = refl
of_attribute all (Group text) = refl
of_attribute all Linux = refl
of_attribute all Macos = refl
of_attribute all (Metadata first others) = refl
of_attribute all Netbsd = refl
of_attribute all NoCd = refl
of_attribute all NoExitMessage = refl
of_attribute all NoQuiet = refl
of_attribute all Openbsd = refl
of_attribute all Parallel = refl
of_attribute all PositionalArguments = refl
of_attribute all Private = refl
of_attribute all (Script None) = refl
of_attribute all (Script (Some i)) = of_interpreter all i.value
of_attribute all Unix = refl
of_attribute all Windows = refl
of_attribute all (WorkingDirectory text) = refl

of_parameters : (earlier : List (List ℕ × ℕ)) (ps : List Parameter) → flat_map references_of_parameter ps ≡ flat_map references_seen (seen_in_parameters earlier ps)
of_parameters earlier [] = refl
of_parameters earlier (p ∷ ps) =
    both (seeing_if_there earlier p.default ++ seeing_if_there earlier p.value) (seen_in_parameters (earlier ++ parameter_number p ∷ []) ps)
    (both (seeing_if_there earlier p.default) (seeing_if_there earlier p.value) (if_there earlier p.default) (if_there earlier p.value))
    (of_parameters (earlier ++ parameter_number p ∷ []) ps)

of_dependency : (all : List (List ℕ × ℕ)) (d : UnresolvedDependency) → references_of_dependency d ≡ flat_map references_seen (seen_in_dependency all d)
of_dependency all d = sym (flat_map-map references_seen (λ (a : DependencyArgument). seeing all a.expression) d.arguments.items)

of_fragment : (all : List (List ℕ × ℕ)) (f : Fragment) → references_of_fragment f ≡ flat_map references_seen (seen_in_fragment all f)
of_fragment all (Interpolation e) = alone all e
of_fragment all (Text token) = refl

of_line : (all : List (List ℕ × ℕ)) (line : Line) → references_of_line line ≡ flat_map references_seen (seen_in_line all line)
of_line all line = flat (seen_in_fragment all) references_of_fragment (of_fragment all) line.fragments.items

of_setting : (s : Setting) → references_of_setting s ≡ flat_map references_seen (seen_in_setting s)
of_setting (settings.Truth which value) = refl
of_setting (settings.DotenvCommand value) = alone [] value
of_setting (settings.DotenvFilename value) = alone [] value
of_setting (settings.DotenvPath value) = alone [] value
of_setting (settings.Indentation value) = refl
of_setting (settings.MinimumVersion value) = refl
of_setting (settings.ScriptInterpreter value) = of_interpreter [] value
of_setting (settings.Shell value) = of_interpreter [] value
of_setting (settings.Tempdir value) = alone [] value
of_setting (settings.WindowsShell value) = of_interpreter [] value
of_setting (settings.WorkingDirectory value) = alone [] value

pub recipe_references_are_seen : RecipeReferencesAreSeen
recipe_references_are_seen r =
    let all = map parameter_number r.parameters.items in
    let of_attributes = flat_map (λ (item : AttributeItem). seen_in_attribute all item.attribute) (items_of r.attributes) in
    let parameters = seen_in_parameters [] r.parameters.items in
    let priors = flat_map (seen_in_dependency all) r.priors.items in
    let subsequents = flat_map (seen_in_dependency all) r.subsequents.items in
    both (of_attributes ++ parameters ++ priors ++ subsequents) (flat_map (seen_in_line all) r.body.items)
    (both (of_attributes ++ parameters ++ priors) subsequents
    (both (of_attributes ++ parameters) priors
    (both of_attributes parameters
    (flat (λ (item : AttributeItem). seen_in_attribute all item.attribute) references_of_attribute_item (λ item. of_attribute all item.attribute) (items_of r.attributes))
    (of_parameters [] r.parameters.items))
    (flat (seen_in_dependency all) references_of_dependency (of_dependency all) r.priors.items))
    (flat (seen_in_dependency all) references_of_dependency (of_dependency all) r.subsequents.items))
    (flat (seen_in_line all) references_of_line (of_line all) r.body.items)

pub setting_references_are_seen : SettingReferencesAreSeen
setting_references_are_seen s = of_setting s.value
