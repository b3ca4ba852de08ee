-- What expressions name, and what each part of an item sees.
use Rattle.std.specs.Prelude.{ℕ, suc, ◌+◌, List, ◌∷◌, ◌++◌, Option, Some, None, map, []}
use Rattle.std.specs.List.{flat_map}
use Rattle.tree_expressions.specs.Shape.{Shape, Shapes, Interpolations, literal, command, format, variable, call, assertion, assertion_alone, group, listing, choice, choice_alone, negation, rooted, binary, end, more, closed, interpolation}
use Rattle.tree_attributes.specs.Attributes.{AttributeShape, with_prompt, with_pair, with_interpreter}
use Rattle.tree_attributes.specs.Settings.{InterpreterShape, ValueShape, truth, expression, interpreter, string}
use Rattle.tree_items.specs.Files.{ItemShape, assignment_item, function_item, recipe_item, set_item}
use Rattle.tree_items.specs.Lines.{Piece, text}
use Rattle.tree_items.specs.Lines as lines
use Rattle.tree_items.specs.Recipes.{ParameterShape, DependencyShape, RecipeShape}
use Rattle.meaning_rules.specs.Worlds.Given.{Text}

-- an occurrence in an expression: a variable, or a call with so many arguments
pub data Occurrence : Type 0 where
  a_variable : Text → Occurrence
  a_call : Text → ℕ → Occurrence

abbrev pub count_of : Shapes → ℕ
count_of end = 0
count_of (more e es) = suc (count_of es)

unfoldable mutual
  -- the occurrences in an expression, in order, a call before those in its arguments
  pub occurrences : Shape → List Occurrence
  occurrences (literal s) = []
  occurrences (command s) = []
  occurrences (format s hs) = occurrences_between hs
  occurrences (variable x) = a_variable x ∷ []
  occurrences (call f es) = a_call f (count_of es) ∷ occurrences_in es
  occurrences (assertion c m) = occurrences c ++ occurrences m
  occurrences (assertion_alone c) = occurrences c
  occurrences (group e) = occurrences e
  occurrences (listing es) = occurrences_in es
  occurrences (choice c t o) = occurrences c ++ occurrences t ++ occurrences o
  occurrences (choice_alone c t) = occurrences c ++ occurrences t
  occurrences (negation e) = occurrences e
  occurrences (rooted e) = occurrences e
  occurrences (binary op l r) = occurrences l ++ occurrences r

  pub occurrences_in : Shapes → List Occurrence
  occurrences_in end = []
  occurrences_in (more e es) = occurrences e ++ occurrences_in es

  pub occurrences_between : Interpolations → List Occurrence
  occurrences_between closed = []
  occurrences_between (interpolation e part hs) = occurrences e ++ occurrences_between hs

-- an expression, and the parameters that it sees
pub record Part : Type 0 where
  pub sees : List Text
  pub said : Shape

abbrev pub part : List Text → Shape → Part
part sees said = record { sees = sees; said = said }

abbrev pub part_if_there : List Text → Option Shape → List Part
part_if_there sees None = []
part_if_there sees (Some e) = part sees e ∷ []

abbrev pub parts_of_interpreter : List Text → InterpreterShape → List Part
parts_of_interpreter sees i = part sees i.command ∷ map (part sees) i.arguments

-- `[env]` sees no parameter, a prompt and a script's interpreter see all; the value of an `arg` stands with its parameter
abbrev pub parts_of_attribute : List Text → AttributeShape → List Part
parts_of_attribute all (with_prompt e) = part all e ∷ []
parts_of_attribute all (with_pair key value) = part [] key ∷ part [] value ∷ []
parts_of_attribute all (with_interpreter i) = parts_of_interpreter all i
parts_of_attribute all other = []

abbrev pub parts_of_dependencies : List Text → List DependencyShape → List Part
parts_of_dependencies all ds = flat_map (λ d. map (λ a. part all a.expression) d.arguments) ds

abbrev pub parts_of_piece : List Text → Piece → List Part
parts_of_piece all (text t) = []
parts_of_piece all (lines.interpolation e) = part all e ∷ []

abbrev pub parts_of_body : List Text → List (List Piece) → List Part
parts_of_body all body = flat_map (λ line. flat_map (parts_of_piece all) line) body

module _ (value_of : List AttributeShape → Text → Option Shape) where
  -- a default and the value of an `arg` see the earlier parameters
  abbrev pub parts_of_parameters : List AttributeShape → List Text → List ParameterShape → List Part
  parts_of_parameters attributes earlier [] = []
  parts_of_parameters attributes earlier (p ∷ ps) =
      part_if_there earlier p.default ++ part_if_there earlier (value_of attributes p.name) ++ parts_of_parameters attributes (earlier ++ p.name ∷ []) ps

  -- the expressions of a recipe
  abbrev pub parts_of_recipe : List AttributeShape → RecipeShape → List Part
  parts_of_recipe attributes r =
      let all = map (λ p. p.name) r.parameters in
      flat_map (parts_of_attribute all) attributes
      ++ parts_of_parameters attributes [] r.parameters
      ++ parts_of_dependencies all r.priors
      ++ parts_of_dependencies all r.subsequents
      ++ parts_of_body all r.body

  abbrev pub parts_of_value : ValueShape → List Part
  parts_of_value (truth b) = []
  parts_of_value (expression e) = part [] e ∷ []
  parts_of_value (interpreter i) = parts_of_interpreter [] i
  parts_of_value (string s) = []

  -- the expressions of an item
  abbrev pub parts_of : ItemShape → List Part
  parts_of (assignment_item attributes a) = part [] a.value ∷ []
  parts_of (function_item f) = part f.parameters f.body ∷ []
  parts_of (recipe_item attributes r) = parts_of_recipe attributes r
  parts_of (set_item attributes s) = parts_of_value s.value
  parts_of other = []
