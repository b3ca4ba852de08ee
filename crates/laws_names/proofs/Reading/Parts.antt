-- The parts of items are their expressions with what they see.
use Rattle.std.proofs.Common.{◌≡◌, refl, sym, ◌∙◌, ap, List, [], ◌∷◌, ◌++◌, map, Option, Some, None, ℕ, All, filter_map, option_map}
use Rattle.std.specs.List.{flat_map, cons_option}
use Rattle.std.proofs.lemmas.List.{map-append}
use Rattle.std.proofs.lemmas.List.Elements.{All-head, All-tail}
use Rattle.std.proofs.lemmas.List.Folds.{flat_map-map}
use Rattle.just_text.specs.Tokens.{lexeme}
use Rattle.parse_expressions.specs.Literals.{Expansion}
use Rattle.tree_expressions.specs.Shape.{shape_of}
use Rattle.tree_expressions.specs.declared.expression.Expression.{Expression}
use Rattle.tree_attributes.specs.Attributes.{AttributeShape, attribute_shape, plain, with_options, with_prompt, with_pair, with_string, with_strings, with_interpreter}
use Rattle.tree_attributes.specs.Settings.{interpreter_shape, value_shape}
use Rattle.tree_attributes.specs.declared.attribute.Attribute.{Attribute}
use Rattle.tree_attributes.specs.declared.attribute.Attribute.TheVariants.{Android, Arg, Cache, Confirm, Default, Doc, Dragonfly, Env, ExitMessage, Extension, Freebsd, Group, Linux, Macos, Metadata, Netbsd, NoCd, NoExitMessage, NoQuiet, Openbsd, Parallel, PositionalArguments, Private, Script, Unix, Windows, WorkingDirectory}
use Rattle.tree_attributes.specs.declared.setting.Interpreter.{Interpreter}
use Rattle.tree_attributes.specs.declared.setting.Setting.{Setting}
use Rattle.tree_attributes.specs.declared.setting.Setting.TheVariants as settings
use Rattle.tree_attributes.specs.Sets.Order.{item_shape as attribute_item_shape}
use Rattle.tree_attributes.specs.Sets.Sets.{items_of, shapes_in}
use Rattle.tree_attributes.specs.declared.attribute_item.AttributeItem.{AttributeItem}
use Rattle.tree_items.specs.Contexts.{named_number, parameter_number}
use Rattle.tree_items.specs.Items.{names_of}
use Rattle.tree_items.specs.Lines.{piece_of, pieces_of}
use Rattle.tree_items.specs.Recipes.{argument_shape, dependency_shape, parameter_shape, recipe_shape}
use Rattle.tree_items.specs.declared.ast.Item.TheVariants.{Alias, Assignment, Comment, Function, Import, Module, Newline, Recipe, Set, Unexport}
use Rattle.tree_items.specs.declared.line.Fragment.{Fragment}
use Rattle.tree_items.specs.declared.line.Fragment.TheVariants.{Interpolation, Text}
use Rattle.tree_items.specs.declared.line.Line.{Line}
use Rattle.tree_items.specs.declared.recipe.DependencyArgument.{DependencyArgument}
use Rattle.tree_items.specs.declared.recipe.Parameter.{Parameter}
use Rattle.tree_items.specs.declared.recipe.Recipe.{Recipe as RecipeOf}
use Rattle.tree_items.specs.declared.recipe.UnresolvedDependency.{UnresolvedDependency}
use Rattle.just_text.specs.declared.name.Name.{Name}
use Rattle.parse_attributes.specs.Seen.{options_in as options_seen}
use Rattle.parse_attributed_items.specs.Fitting.{options_among}
use Rattle.parse_attributed_items.specs.Held.{HasOptions}
use Rattle.parse_attributed_items.specs.Options.{HasOptions as HasParameterOptions, meant_for}
use Rattle.resolve_references.specs.Seen.{Seen, seeing, seeing_if_there, seen_in_attribute, seen_in_dependency, seen_in_fragment, seen_in_interpreter, seen_in_line, seen_in_parameters, seen_in_recipe, seen_in_setting}
use Rattle.meaning_rules.specs.Fixed.{options_in, value_of}
use Rattle.meaning_rules.specs.Naming.{Part, part, part_if_there, parts_of_attribute, parts_of_body, parts_of_dependencies, parts_of_interpreter, parts_of_parameters, parts_of_piece, parts_of_recipe, parts_of_value}
use Rattle.laws_names.specs.Reading.Parts.{PartsAreSeen, part_of}

-- the names of parameters
abbrev names : List (List ℕ × ℕ) → List (List ℕ)
names all = map (λ p. p.0) all

-- what each element has is seen in it
flat : {X : Type 0} (f : X → List Seen) (g : X → List Part) → ((x : X) → g x ≡ map part_of (f x)) → (xs : List X) → flat_map g xs ≡ map part_of (flat_map f xs)
flat f g each [] = refl
flat f g each (x ∷ xs) = ap (λ ps. ps ++ flat_map g xs) (each x) ∙ ap (λ ps. map part_of (f x) ++ ps) (flat f g each xs) ∙ sym (map-append part_of (f x) (flat_map f xs))

-- the same of elements without places
flat_shapes : {X Y : Type 0} (shape : X → Y) (f : X → List Seen) (g : Y → List Part) → ((x : X) → g (shape x) ≡ map part_of (f x)) → (xs : List X) → flat_map g (map shape xs) ≡ map part_of (flat_map f xs)
flat_shapes shape f g each xs = flat_map-map g shape xs ∙ flat f (λ x. g (shape x)) each xs

-- one list after the other
both : (some others : List Seen) {a b : List Part} → a ≡ map part_of some → b ≡ map part_of others → a ++ b ≡ map part_of (some ++ others)
both some others {a} {b} p q = ap (λ x. x ++ b) p ∙ ap (λ x. map part_of some ++ x) q ∙ sym (map-append part_of some others)

if_there : (all : List (List ℕ × ℕ)) (o : Option Expression) → part_if_there (names all) (option_map shape_of o) ≡ map part_of (seeing_if_there all o)
if_there all None = refl
if_there all (Some e) = refl

row : (all : List (List ℕ × ℕ)) (es : List Expression) → map (part (names all)) (map shape_of es) ≡ map part_of (map (seeing all) es)
row all [] = refl
row all (e ∷ es) = ap (λ ps. part (names all) (shape_of e) ∷ ps) (row all es)

of_interpreter : (all : List (List ℕ × ℕ)) (i : Interpreter Expression) → parts_of_interpreter (names all) (interpreter_shape i) ≡ map part_of (seen_in_interpreter all i)
of_interpreter all i = ap (λ ps. part (names all) (shape_of i.command) ∷ ps) (row all i.arguments.items)

of_attribute : (all : List (List ℕ × ℕ)) (a : Attribute) → parts_of_attribute (names all) (attribute_shape a) ≡ map part_of (seen_in_attribute all a)
of_attribute all Android = refl
of_attribute all (Arg options) = refl
of_attribute all Cache = refl
of_attribute all (Confirm None) = refl
of_attribute all (Confirm (Some prompt)) = refl
of_attribute all Default = refl
of_attribute all (Doc None) = refl
of_attribute all (Doc (Some text)) = refl
of_attribute all Dragonfly = refl
of_attribute all (Env key value) = refl
of_attribute all ExitMessage = refl
of_attribute all (Extension text) = refl
of_attribute all Freebsd = refl
of_attribute all (Group text) = refl
of_attribute all Linux = refl
of_attribute all Macos = refl
of_attribute all (Metadata first others) = refl
of_attribute all Netbsd = refl
of_attribute all NoCd = refl
of_attribute all NoExitMessage = refl
of_attribute all NoQuiet = refl
of_attribute all Openbsd = refl
of_attribute all Parallel = refl
of_attribute all PositionalArguments = refl
of_attribute all Private = refl
of_attribute all (Script None) = refl
of_attribute all (Script (Some i)) = of_interpreter all i.value
of_attribute all Unix = refl
of_attribute all Windows = refl
of_attribute all (WorkingDirectory text) = refl

of_argument : (all : List (List ℕ × ℕ)) (as' : List DependencyArgument) → map (λ a. part (names all) a.expression) (map argument_shape as') ≡ map part_of (map (λ a. seeing all a.expression) as')
of_argument all [] = refl
of_argument all (a ∷ as') = ap (λ ps. part (names all) (shape_of a.expression) ∷ ps) (of_argument all as')

of_dependencies : (all : List (List ℕ × ℕ)) (ds : List UnresolvedDependency) → parts_of_dependencies (names all) (map dependency_shape ds) ≡ map part_of (flat_map (seen_in_dependency all) ds)
of_dependencies all ds = flat_shapes dependency_shape (seen_in_dependency all) (λ d. map (λ a. part (names all) a.expression) d.arguments) (λ d. of_argument all d.arguments.items) ds

of_fragment : (all : List (List ℕ × ℕ)) (f : Fragment) → parts_of_piece (names all) (piece_of f) ≡ map part_of (seen_in_fragment all f)
of_fragment all (Interpolation e) = refl
of_fragment all (Text token) = refl

of_line : (all : List (List ℕ × ℕ)) (line : Line) → flat_map (parts_of_piece (names all)) (pieces_of line) ≡ map part_of (seen_in_line all line)
of_line all line = flat_shapes piece_of (seen_in_fragment all) (parts_of_piece (names all)) (of_fragment all) line.fragments.items

of_body : (all : List (List ℕ × ℕ)) (lines : List Line) → parts_of_body (names all) (map pieces_of lines) ≡ map part_of (flat_map (seen_in_line all) lines)
of_body all lines = flat_shapes pieces_of (seen_in_line all) (λ line. flat_map (parts_of_piece (names all)) line) (of_line all) lines

-- ---- parameters

same_options : (a : AttributeShape) → options_seen (Some a) ≡ options_in a
same_options (plain k) = refl
same_options (with_options o) = refl
same_options (with_prompt e) = refl
same_options (with_pair k v) = refl
same_options (with_string k text) = refl
same_options (with_strings text texts) = refl
same_options (with_interpreter i) = refl

options_same : (as' : List AttributeShape) → options_among as' ≡ filter_map options_in as'
options_same [] = refl
options_same (a ∷ as') = ap (λ o. cons_option o (options_among as')) (same_options a) ∙ ap (cons_option (options_in a)) (options_same as')

module _ (expansion : Expansion) (attributes : List AttributeShape) where
  -- the value of a parameter's option is that which its `arg` gives
  of_value : (p : Parameter) → HasParameterOptions expansion (options_among attributes) p → value_of expansion attributes (lexeme p.name.token) ≡ option_map shape_of p.value
  of_value p h = ap (λ os. (meant_for expansion os (lexeme p.name.token)).value) (sym (options_same attributes)) ∙ sym (ap (λ o. o.value) h)

  of_parameters : (earlier : List (List ℕ × ℕ)) (ps : List Parameter) → All (HasParameterOptions expansion (options_among attributes)) ps
      → parts_of_parameters (value_of expansion) attributes (names earlier) (map parameter_shape ps) ≡ map part_of (seen_in_parameters earlier ps)
  of_parameters earlier [] h = refl
  of_parameters earlier (p ∷ ps) h =
      let value : part_if_there (names earlier) (value_of expansion attributes (lexeme p.name.token)) ≡ map part_of (seeing_if_there earlier p.value) =
      ap (part_if_there (names earlier)) (of_value p (All-head (HasParameterOptions expansion (options_among attributes)) p ps h)) ∙ if_there earlier p.value in
      let rest = of_parameters (earlier ++ parameter_number p ∷ []) ps (All-tail (HasParameterOptions expansion (options_among attributes)) p ps h) in
      let named : names earlier ++ lexeme p.name.token ∷ [] ≡ names (earlier ++ parameter_number p ∷ []) = sym (map-append (λ (q : List ℕ × ℕ). q.0) earlier (parameter_number p ∷ [])) in
      both (seeing_if_there earlier p.default ++ seeing_if_there earlier p.value) (seen_in_parameters (earlier ++ parameter_number p ∷ []) ps)
      (both (seeing_if_there earlier p.default) (seeing_if_there earlier p.value) (if_there earlier p.default) value)
      (ap (λ ns. parts_of_parameters (value_of expansion) attributes ns (map parameter_shape ps)) named ∙ rest)

-- the names of a recipe's parameters
parameter_names : (ps : List Parameter) → map (λ p. p.name) (map parameter_shape ps) ≡ names (map parameter_number ps)
parameter_names [] = refl
parameter_names (p ∷ ps) = ap (λ ns. lexeme p.name.token ∷ ns) (parameter_names ps)

of_recipe : (expansion : Expansion) (r : RecipeOf UnresolvedDependency) → HasOptions expansion r → parts_of_recipe (value_of expansion) (shapes_in r.attributes) (recipe_shape r) ≡ map part_of (seen_in_recipe r)
of_recipe expansion r h =
    let all = map parameter_number r.parameters.items in
    let attributes = shapes_in r.attributes in
    let of_attributes = flat_map (λ (item : AttributeItem). seen_in_attribute all item.attribute) (items_of r.attributes) in
    let parameters = seen_in_parameters [] r.parameters.items in
    let priors = flat_map (seen_in_dependency all) r.priors.items in
    let subsequents = flat_map (seen_in_dependency all) r.subsequents.items in
    ap (λ ns. flat_map (parts_of_attribute ns) attributes ++ parts_of_parameters (value_of expansion) attributes [] (map parameter_shape r.parameters.items)
    ++ parts_of_dependencies ns (map dependency_shape r.priors.items) ++ parts_of_dependencies ns (map dependency_shape r.subsequents.items) ++ parts_of_body ns (map pieces_of r.body.items))
    (parameter_names r.parameters.items)
    ∙ both (of_attributes ++ parameters ++ priors ++ subsequents) (flat_map (seen_in_line all) r.body.items)
    (both (of_attributes ++ parameters ++ priors) subsequents
    (both (of_attributes ++ parameters) priors
    (both of_attributes parameters
    (flat_shapes attribute_item_shape (λ item. seen_in_attribute all item.attribute) (parts_of_attribute (names all)) (λ item. of_attribute all item.attribute) (items_of r.attributes))
    (of_parameters expansion attributes [] r.parameters.items h))
    (of_dependencies all r.priors.items))
    (of_dependencies all r.subsequents.items))
    (of_body all r.body.items)

of_setting : (expansion : Expansion) (s : Setting) → parts_of_value (value_of expansion) (value_shape s) ≡ map part_of (seen_in_setting s)
of_setting expansion (settings.Truth which value) = refl
of_setting expansion (settings.DotenvCommand value) = refl
of_setting expansion (settings.DotenvFilename value) = refl
of_setting expansion (settings.DotenvPath value) = refl
of_setting expansion (settings.Indentation value) = refl
of_setting expansion (settings.MinimumVersion value) = refl
of_setting expansion (settings.ScriptInterpreter value) = of_interpreter [] value
of_setting expansion (settings.Shell value) = of_interpreter [] value
of_setting expansion (settings.Tempdir value) = refl
of_setting expansion (settings.WindowsShell value) = of_interpreter [] value
of_setting expansion (settings.WorkingDirectory value) = refl

-- the names of a function's parameters
pub function_names : (ps : List (Name × ℕ)) → names_of ps ≡ names (map named_number ps)
function_names [] = refl
function_names (p ∷ ps) = ap (λ ns. lexeme p.0.token ∷ ns) (function_names ps)

pub parts_are_seen : PartsAreSeen
parts_are_seen expansion (Alias a) h = refl
parts_are_seen expansion (Assignment a) h = refl
parts_are_seen expansion (Comment text) h = refl
parts_are_seen expansion (Function f) h = ap (λ ns. part ns (shape_of f.body) ∷ []) (function_names f.parameters.items)
parts_are_seen expansion (Import i) h = refl
parts_are_seen expansion (Module m) h = refl
parts_are_seen expansion Newline h = refl
parts_are_seen expansion (Recipe r) h = of_recipe expansion r h.0
parts_are_seen expansion (Set s) h = of_setting expansion s.value
parts_are_seen expansion (Unexport u) h = refl
