-- The expressions of a recipe by its row are the parts of its definition.
use Rattle.std.proofs.Common.{◌≡◌, inl, inr, refl, sym, ◌∙◌, ap, ap₂, subst, List, [], ◌∷◌, ◌++◌, map, Option, Some, None, filter_map}
use Rattle.std.specs.Prelude.{Contains}
use Rattle.std.specs.List.{flat_map}
use Rattle.std.proofs.lemmas.List.{map-append}
use Rattle.std.proofs.lemmas.List.Elements.{Contains-append_cases, Contains-append_left, Contains-append_right}
use Rattle.tree_expressions.specs.Shape.{Shape}
use Rattle.tree_attributes.specs.Attributes.{AttributeShape}
use Rattle.tree_items.specs.Lines.{Piece}
use Rattle.tree_items.specs.Lines as lines
use Rattle.tree_items.specs.Recipes.{ArgumentShape, DependencyShape, ParameterShape, RecipeShape}
use Rattle.parse_expressions.specs.Literals.{Expansion}
use Rattle.meaning_rules.specs.Worlds.Given.{Text}
use Rattle.laws_agreement.proofs.Agreement.Lists.{contains_map}
use Rattle.laws_agreement.proofs.Known.Lists.{contains_mapped}
use Rattle.meaning_rules.specs.Fixed.{value_of}
use Rattle.meaning_rules.specs.Naming.{Part, part, part_if_there, parts_of_body, parts_of_dependencies, parts_of_parameters, parts_of_piece, parts_of_recipe}
use Rattle.meaning_evaluation.specs.Named.{DependencyRow, ParameterRow, RecipeName}
use Rattle.just_meaning.specs.Reading.{hiding, in_dependencies, in_env, in_interpreter, in_parameters, in_piece, in_prompt, shapes_of}
use Rattle.just_meaning.specs.Rows.{first, pair_in, parameter_row, prompt_in, script_in}
use Rattle.laws_agreement.proofs.Known.Expressions.{attribute_parts, env_part, prompt_part, script_part, to_part}

-- ---- parameters

two : (names : List Text) (default value : Option Shape) → map to_part (hiding names (shapes_of default ++ shapes_of value)) ≡ part_if_there names default ++ part_if_there names value
two names None None = refl
two names None (Some v) = refl
two names (Some d) None = refl
two names (Some d) (Some v) = refl

module _ (expansion : Expansion) (attributes : List AttributeShape) where
  abbrev parameter_rows : List ParameterShape → List ParameterRow
  parameter_rows ps = map (parameter_row expansion attributes) ps

  parameters_same : (earlier : List Text) (ps : List ParameterShape) → map to_part (in_parameters earlier (parameter_rows ps)) ≡ parts_of_parameters (value_of expansion) attributes earlier ps
  parameters_same earlier [] = refl
  parameters_same earlier (p ∷ ps) =
      map-append to_part (hiding earlier (shapes_of p.default ++ shapes_of (value_of expansion attributes p.name))) (in_parameters (earlier ++ p.name ∷ []) (parameter_rows ps))
      ∙ ap₂ (λ a b. a ++ b) (two earlier p.default (value_of expansion attributes p.name)) (parameters_same (earlier ++ p.name ∷ []) ps)

  names_same : (ps : List ParameterShape) → map (λ (p : ParameterRow). p.name) (parameter_rows ps) ≡ map (λ (p : ParameterShape). p.name) ps
  names_same [] = refl
  names_same (p ∷ ps) = ap (λ l. p.name ∷ l) (names_same ps)

-- ---- dependencies and lines

module _ (all : List Text) where
  arguments_same : (as' : List ArgumentShape) → map (part all) (map (λ a. a.expression) as') ≡ map (λ a. part all a.expression) as'
  arguments_same [] = refl
  arguments_same (a ∷ as') = ap (λ l. part all a.expression ∷ l) (arguments_same as')

  abbrev dependency_rows : (DependencyShape → RecipeName) → List DependencyShape → List DependencyRow
  dependency_rows named ds = map (λ d. let row : DependencyRow = record { on = named d; arguments = d.arguments } in row) ds

  dependencies_same : (named : DependencyShape → RecipeName) (ds : List DependencyShape) → map (part all) (in_dependencies (dependency_rows named ds)) ≡ parts_of_dependencies all ds
  dependencies_same named [] = refl
  dependencies_same named (d ∷ ds) =
      map-append (part all) (map (λ a. a.expression) d.arguments) (in_dependencies (dependency_rows named ds)) ∙ ap₂ (λ a b. a ++ b) (arguments_same d.arguments) (dependencies_same named ds)

  piece_same : (piece : Piece) → map (part all) (in_piece piece) ≡ parts_of_piece all piece
  piece_same (lines.text t) = refl
  piece_same (lines.interpolation e) = refl

  line_same : (line : List Piece) → map (part all) (flat_map in_piece line) ≡ flat_map (parts_of_piece all) line
  line_same [] = refl
  line_same (piece ∷ line) = map-append (part all) (in_piece piece) (flat_map in_piece line) ∙ ap₂ (λ a b. a ++ b) (piece_same piece) (line_same line)

  body_same : (body : List (List Piece)) → map (part all) (flat_map (flat_map in_piece) body) ≡ parts_of_body all body
  body_same [] = refl
  body_same (line ∷ body) = map-append (part all) (flat_map in_piece line) (flat_map (flat_map in_piece) body) ∙ ap₂ (λ a b. a ++ b) (line_same line) (body_same body)

-- ---- recipes

module _ (expansion : Expansion) (named : DependencyShape → RecipeName) (r : RecipeShape) (attributes : List AttributeShape) where
  abbrev all : List Text
  all = map (λ (p : ParameterShape). p.name) r.parameters

  abbrev hidden : List Text
  hidden = map (λ (p : ParameterRow). p.name) (parameter_rows expansion attributes r.parameters)

  hidden_is : hidden ≡ all
  hidden_is = names_same expansion attributes r.parameters

  abbrev parameters : List (Shape × List Text)
  parameters = in_parameters [] (parameter_rows expansion attributes r.parameters)

  abbrev environment : List Shape
  environment = in_env (filter_map (pair_in expansion) attributes)

  abbrev prompt : List Shape
  prompt = in_prompt (first expansion (filter_map (prompt_in expansion) attributes))

  abbrev priors : List Shape
  priors = in_dependencies (dependency_rows all named r.priors)

  abbrev subsequents : List Shape
  subsequents = in_dependencies (dependency_rows all named r.subsequents)

  abbrev script : List Shape
  script = in_interpreter (first expansion (filter_map (script_in expansion) attributes))

  abbrev body : List Shape
  body = flat_map (flat_map in_piece) r.body

  abbrev inside : List Shape
  inside = prompt ++ (priors ++ (subsequents ++ (script ++ body)))

  -- the expressions of its row
  abbrev pub expressions : List (Shape × List Text)
  expressions = parameters ++ (hiding [] environment ++ hiding hidden inside)

  abbrev parts : List Part
  parts = parts_of_recipe (value_of expansion) attributes r

  abbrev of_attributes : List Part
  of_attributes = attribute_parts expansion all attributes

  abbrev of_parameters : List Part
  of_parameters = parts_of_parameters (value_of expansion) attributes [] r.parameters

  abbrev of_priors : List Part
  of_priors = parts_of_dependencies all r.priors

  abbrev of_subsequents : List Part
  of_subsequents = parts_of_dependencies all r.subsequents

  abbrev of_body : List Part
  of_body = parts_of_body all r.body

  from_attributes : (p : Part) → Contains of_attributes p → Contains parts p
  from_attributes p c =
      Contains-append_left (((of_attributes ++ of_parameters) ++ of_priors) ++ of_subsequents) of_body p
      (Contains-append_left ((of_attributes ++ of_parameters) ++ of_priors) of_subsequents p
      (Contains-append_left (of_attributes ++ of_parameters) of_priors p (Contains-append_left of_attributes of_parameters p c)))

  from_parameters : (p : Part) → Contains of_parameters p → Contains parts p
  from_parameters p c =
      Contains-append_left (((of_attributes ++ of_parameters) ++ of_priors) ++ of_subsequents) of_body p
      (Contains-append_left ((of_attributes ++ of_parameters) ++ of_priors) of_subsequents p
      (Contains-append_left (of_attributes ++ of_parameters) of_priors p (Contains-append_right of_attributes of_parameters p c)))

  from_priors : (p : Part) → Contains of_priors p → Contains parts p
  from_priors p c =
      Contains-append_left (((of_attributes ++ of_parameters) ++ of_priors) ++ of_subsequents) of_body p
      (Contains-append_left ((of_attributes ++ of_parameters) ++ of_priors) of_subsequents p (Contains-append_right (of_attributes ++ of_parameters) of_priors p c))

  from_subsequents : (p : Part) → Contains of_subsequents p → Contains parts p
  from_subsequents p c =
      Contains-append_left (((of_attributes ++ of_parameters) ++ of_priors) ++ of_subsequents) of_body p (Contains-append_right ((of_attributes ++ of_parameters) ++ of_priors) of_subsequents p c)

  from_body : (p : Part) → Contains of_body p → Contains parts p
  from_body p c = Contains-append_right (((of_attributes ++ of_parameters) ++ of_priors) ++ of_subsequents) of_body p c

  -- an expression that all parameters hide names from
  from_inside : (e : Shape) → Contains inside e → Contains parts (part all e)
  from_inside e c = elim (Contains-append_cases prompt (priors ++ (subsequents ++ (script ++ body))) e c) [
    | inl d ↦ from_attributes (part all e) (prompt_part expansion all attributes e d)
    | inr d ↦ elim (Contains-append_cases priors (subsequents ++ (script ++ body)) e d) [
      | inl f ↦ from_priors (part all e) (subst (λ ps. Contains ps (part all e)) (dependencies_same all named r.priors) (contains_map (part all) priors e f))
      | inr f ↦ elim (Contains-append_cases subsequents (script ++ body) e f) [
        | inl g ↦ from_subsequents (part all e) (subst (λ ps. Contains ps (part all e)) (dependencies_same all named r.subsequents) (contains_map (part all) subsequents e g))
        | inr g ↦ elim (Contains-append_cases script body e g) [
          | inl h ↦ from_attributes (part all e) (script_part expansion all attributes e h)
          | inr h ↦ from_body (part all e) (subst (λ ps. Contains ps (part all e)) (body_same all r.body) (contains_map (part all) body e h))
        ]
      ]
    ]
  ]

  -- each expression is a part
  pub to_parts : (x : Shape × List Text) → Contains expressions x → Contains parts (to_part x)
  to_parts x c = elim (Contains-append_cases parameters (hiding [] environment ++ hiding hidden inside) x c) [
    | inl d ↦ from_parameters (to_part x) (subst (λ ps. Contains ps (to_part x)) (parameters_same expansion attributes [] r.parameters) (contains_map to_part parameters x d))
    | inr d ↦ elim (Contains-append_cases (hiding [] environment) (hiding hidden inside) x d) [
      | inl f ↦
          let m = contains_mapped (λ (e : Shape). let y : Shape × List Text = (e, []) in y) environment x f in
          subst (λ y. Contains parts (to_part y)) m.2 (from_attributes (part [] m.0) (env_part expansion all attributes m.0 m.1))
      | inr f ↦
          let m = contains_mapped (λ (e : Shape). let y : Shape × List Text = (e, hidden) in y) inside x f in
          subst (λ y. Contains parts (to_part y)) m.2 (subst (λ ns. Contains parts (part ns m.0)) (sym hidden_is) (from_inside m.0 m.1))
    ]
  ]
