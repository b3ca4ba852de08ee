-- The features of lists that an item uses are those in its parts, and starred arguments.
use Rattle.std.proofs.Common.{◌≡◌, ◌⊎◌, inl, inr, sym, ap, subst, Bool, true, false, ◌++◌, ◌∷◌, [], List, Option, Some, None, refl, map}
use Rattle.std.specs.Prelude.{Contains}
use Rattle.std.specs.List.{flat_map, list_any}
use Rattle.std.specs.Option.{option_map}
use Rattle.std.proofs.lemmas.Bool.{false≢true}
use Rattle.std.proofs.lemmas.List.Elements.{Contains-append_cases, Contains-append_left, Contains-append_right}
use Rattle.std.proofs.lemmas.List.Folds.{flat_map-map}
use Rattle.tree_expressions.specs.declared.expression.Expression.{Expression}
use Rattle.tree_expressions.specs.Shape.{Shape, shape_of}
use Rattle.tree_attributes.specs.declared.attribute.Attribute.{Attribute}
use Rattle.tree_attributes.specs.declared.attribute.Attribute.TheVariants as attributes
use Rattle.tree_attributes.specs.declared.setting.Interpreter.{Interpreter}
use Rattle.tree_attributes.specs.declared.setting.Setting.{Setting}
use Rattle.tree_attributes.specs.declared.setting.Setting.TheVariants as settings
use Rattle.tree_attributes.specs.Attributes.{AttributeShape, OptionsShape, attribute_shape, plain, with_options, with_prompt, with_pair, with_string, with_strings, with_interpreter}
use Rattle.tree_attributes.specs.Settings.{InterpreterShape, ValueShape, interpreter_shape, value_shape, truth, expression, interpreter, string}
use Rattle.tree_items.specs.declared.ast.ListFeature.{ListFeature}
use Rattle.tree_items.specs.declared.ast.ListFeature.TheVariants.{StarredArgument}
use Rattle.tree_items.specs.Lines.{Piece, text}
use Rattle.tree_items.specs.Lines as lines
use Rattle.tree_items.specs.Recipes.{ArgumentShape, DependencyShape, ParameterShape}
use Rattle.meaning_rules.specs.Worlds.Given.{Text}
use Rattle.meaning_rules.proofs.Worlds.Places.{contains_cases, contains_first, contains_later, contains_none}
use Rattle.meaning_rules.specs.Naming.{Part, part, part_if_there, parts_of_attribute, parts_of_body, parts_of_dependencies, parts_of_interpreter, parts_of_parameters, parts_of_piece, parts_of_value}
use Rattle.meaning_rules.specs.Rules.{lists_in}
use Rattle.just_modules.specs.Lists.{in_attribute, in_expression, in_interpreter, in_option, in_setting}
use Rattle.just_modules.proofs.Contained.{any_at, any_of, gathered, gathered_from, mapped, mapped_from}

-- ---- features in what is seen of a tree

abbrev pub of_option : Option Shape → List ListFeature
of_option None = []
of_option (Some e) = lists_in false e

abbrev of_interpreter : InterpreterShape → List ListFeature
of_interpreter i = lists_in false i.command ++ flat_map (lists_in false) i.arguments

abbrev pub of_attribute : AttributeShape → List ListFeature
of_attribute (plain k) = []
of_attribute (with_options o) = of_option o.value
of_attribute (with_prompt e) = lists_in false e
of_attribute (with_pair k v) = lists_in false k ++ lists_in false v
of_attribute (with_string k t) = []
of_attribute (with_strings t ts) = []
of_attribute (with_interpreter i) = of_interpreter i

abbrev pub of_value : ValueShape → List ListFeature
of_value (truth b) = []
of_value (expression e) = lists_in false e
of_value (interpreter i) = of_interpreter i
of_value (string s) = []

abbrev pub of_starred : Bool → Shape → List ListFeature
of_starred true e = StarredArgument ∷ lists_in false e
of_starred false e = lists_in false e

abbrev pub of_argument : ArgumentShape → List ListFeature
of_argument a = of_starred a.starred a.expression

abbrev pub of_dependency : DependencyShape → List ListFeature
of_dependency d = flat_map of_argument d.arguments

abbrev pub has_starred : DependencyShape → Bool
has_starred d = list_any (λ (a : ArgumentShape). a.starred) d.arguments

abbrev pub of_piece : Piece → List ListFeature
of_piece (text t) = []
of_piece (lines.interpolation e) = lists_in false e

abbrev pub of_line : List Piece → List ListFeature
of_line line = flat_map of_piece line

pub option_same : (o : Option Expression) → in_option o ≡ of_option (option_map shape_of o)
option_same None = refl
option_same (Some e) = refl

interpreter_same : (i : Interpreter Expression) → in_interpreter i ≡ of_interpreter (interpreter_shape i)
interpreter_same i = ap (λ fs. in_expression i.command ++ fs) (sym (flat_map-map (lists_in false) shape_of i.arguments.items))

pub attribute_same : (a : Attribute) → in_attribute a ≡ of_attribute (attribute_shape a)
attribute_same attributes.Android = refl
attribute_same (attributes.Arg options) = option_same options.value.value
attribute_same attributes.Cache = refl
attribute_same (attributes.Confirm None) = refl
attribute_same (attributes.Confirm (Some x)) = refl
attribute_same attributes.Default = refl
attribute_same (attributes.Doc None) = refl
attribute_same (attributes.Doc (Some x)) = refl
attribute_same attributes.Dragonfly = refl
attribute_same (attributes.Env key value) = refl
attribute_same attributes.ExitMessage = refl
attribute_same (attributes.Extension s) = refl
attribute_same attributes.Freebsd = refl
attribute_same (attributes.Group s) = refl
attribute_same attributes.Linux = refl
attribute_same attributes.Macos = refl
attribute_same (attributes.Metadata first others) = refl
attribute_same attributes.Netbsd = refl
attribute_same attributes.NoCd = refl
attribute_same attributes.NoExitMessage = refl
attribute_same attributes.NoQuiet = refl
attribute_same attributes.Openbsd = refl
attribute_same attributes.Parallel = refl
attribute_same attributes.PositionalArguments = refl
attribute_same attributes.Private = refl
attribute_same (attributes.Script None) = refl
attribute_same (attributes.Script (Some x)) = interpreter_same x.value
attribute_same attributes.Unix = refl
attribute_same attributes.Windows = refl
attribute_same (attributes.WorkingDirectory s) = refl

pub setting_same : (s : Setting) → in_setting s ≡ of_value (value_shape s)
setting_same (settings.Truth which value) = refl
setting_same (settings.DotenvCommand value) = refl
setting_same (settings.DotenvFilename value) = refl
setting_same (settings.DotenvPath value) = refl
setting_same (settings.Indentation value) = refl
setting_same (settings.MinimumVersion value) = refl
setting_same (settings.ScriptInterpreter value) = interpreter_same value
setting_same (settings.Shell value) = interpreter_same value
setting_same (settings.Tempdir value) = refl
setting_same (settings.WindowsShell value) = interpreter_same value
setting_same (settings.WorkingDirectory value) = refl

-- ---- a part uses the feature

abbrev pub UsesPart : List Part → ListFeature → Type 0
UsesPart parts feature = (p : Part) × Contains parts p × Contains (lists_in false p.said) feature

module _ (feature : ListFeature) where
  pub uses_left : (ps qs : List Part) → UsesPart ps feature → UsesPart (ps ++ qs) feature
  uses_left ps qs (p, c, d) = (p, Contains-append_left ps qs p c, d)

  pub uses_right : (ps qs : List Part) → UsesPart qs feature → UsesPart (ps ++ qs) feature
  uses_right ps qs (p, c, d) = (p, Contains-append_right ps qs p c, d)

  pub uses_cases : (ps qs : List Part) → UsesPart (ps ++ qs) feature → UsesPart ps feature ⊎ UsesPart qs feature
  uses_cases ps qs (p, c, d) = elim (Contains-append_cases ps qs p c) [
    | inl e ↦ inl (p, e, d)
    | inr e ↦ inr (p, e, d)
  ]

  pub uses_none : UsesPart [] feature → ⊥
  uses_none (p, c, d) = contains_none [] p refl c

  pub uses_first : (p : Part) (ps : List Part) → Contains (lists_in false p.said) feature → UsesPart (p ∷ ps) feature
  uses_first p ps d = (p, contains_first p ps, d)

  pub uses_later : (p : Part) (ps : List Part) → UsesPart ps feature → UsesPart (p ∷ ps) feature
  uses_later p ps (q, c, d) = (q, contains_later p ps q c, d)

  pub first_cases : (p : Part) (ps : List Part) → UsesPart (p ∷ ps) feature → Contains (lists_in false p.said) feature ⊎ UsesPart ps feature
  first_cases p ps (q, c, d) = elim (contains_cases p ps q c) [
    | inl e ↦ inl (subst (λ (r : Part). Contains (lists_in false r.said) feature) (sym e) d)
    | inr r ↦ inr (q, r, d)
  ]

  pub only_uses : (p : Part) → UsesPart (p ∷ []) feature → Contains (lists_in false p.said) feature
  only_uses p u = elim (first_cases p [] u) [
    | inl d ↦ d
    | inr r ↦ absurd (uses_none r)
  ]

  pub uses_gathered : {X : Type 0} (f : X → List Part) (xs : List X) (x : X) → Contains xs x → UsesPart (f x) feature → UsesPart (flat_map f xs) feature
  uses_gathered f xs x c (p, d, e) = (p, gathered f xs x p c d, e)

  pub gathered_uses : {X : Type 0} (f : X → List Part) (xs : List X) → UsesPart (flat_map f xs) feature → (x : X) × Contains xs x × UsesPart (f x) feature
  gathered_uses f xs (p, d, e) = let g = gathered_from f xs p d in (g.0, g.1, (p, g.2, e))

  uses_mapped : (sees : List Text) (es : List Shape) (e : Shape) → Contains es e → Contains (lists_in false e) feature → UsesPart (map (part sees) es) feature
  uses_mapped sees es e c d = (part sees e, mapped (part sees) es e c, d)

  mapped_uses : (sees : List Text) (es : List Shape) → UsesPart (map (part sees) es) feature → (e : Shape) × Contains es e × Contains (lists_in false e) feature
  mapped_uses sees es (p, c, d) =
      let m = mapped_from (part sees) es p c in
      (m.0, m.1, subst (λ (r : Part). Contains (lists_in false r.said) feature) (sym m.2) d)

  -- ---- interpreters, values, attributes

  uses_interpreter : (sees : List Text) (i : InterpreterShape) → Contains (of_interpreter i) feature → UsesPart (parts_of_interpreter sees i) feature
  uses_interpreter sees i c = elim (Contains-append_cases (lists_in false i.command) (flat_map (lists_in false) i.arguments) feature c) [
    | inl d ↦ uses_first (part sees i.command) (map (part sees) i.arguments) d
    | inr d ↦
        let g = gathered_from (lists_in false) i.arguments feature d in
        uses_later (part sees i.command) (map (part sees) i.arguments) (uses_mapped sees i.arguments g.0 g.1 g.2)
  ]

  interpreter_uses : (sees : List Text) (i : InterpreterShape) → UsesPart (parts_of_interpreter sees i) feature → Contains (of_interpreter i) feature
  interpreter_uses sees i u = elim (first_cases (part sees i.command) (map (part sees) i.arguments) u) [
    | inl d ↦ Contains-append_left (lists_in false i.command) (flat_map (lists_in false) i.arguments) feature d
    | inr r ↦
        let m = mapped_uses sees i.arguments r in
        Contains-append_right (lists_in false i.command) (flat_map (lists_in false) i.arguments) feature (gathered (lists_in false) i.arguments m.0 feature m.1 m.2)
  ]

  pub uses_value : (value_of : List AttributeShape → Text → Option Shape) (v : ValueShape) → Contains (of_value v) feature → UsesPart (parts_of_value value_of v) feature
  uses_value value_of (truth b) c = absurd (contains_none [] feature refl c)
  uses_value value_of (expression e) c = uses_first (part [] e) [] c
  uses_value value_of (interpreter i) c = uses_interpreter [] i c
  uses_value value_of (string s) c = absurd (contains_none [] feature refl c)

  pub value_uses : (value_of : List AttributeShape → Text → Option Shape) (v : ValueShape) → UsesPart (parts_of_value value_of v) feature → Contains (of_value v) feature
  value_uses value_of (truth b) u = absurd (uses_none u)
  value_uses value_of (expression e) u = only_uses (part [] e) u
  value_uses value_of (interpreter i) u = interpreter_uses [] i u
  value_uses value_of (string s) u = absurd (uses_none u)

  -- the feature is in the value of an `arg`
  pub record InOptions (a : AttributeShape) : Type 0 where
    pub options : OptionsShape
    pub is : a ≡ with_options options
    pub there : Contains (of_option options.value) feature

  pub uses_attribute : (all : List Text) (a : AttributeShape) → Contains (of_attribute a) feature → UsesPart (parts_of_attribute all a) feature ⊎ InOptions a
  uses_attribute all (plain k) c = absurd (contains_none [] feature refl c)
  uses_attribute all (with_options o) c = inr (record { options = o; is = refl; there = c })
  uses_attribute all (with_prompt e) c = inl (uses_first (part all e) [] c)
  uses_attribute all (with_pair k v) c = elim (Contains-append_cases (lists_in false k) (lists_in false v) feature c) [
    | inl d ↦ inl (uses_first (part [] k) (part [] v ∷ []) d)
    | inr d ↦ inl (uses_later (part [] k) (part [] v ∷ []) (uses_first (part [] v) [] d))
  ]
  uses_attribute all (with_string k t) c = absurd (contains_none [] feature refl c)
  uses_attribute all (with_strings t ts) c = absurd (contains_none [] feature refl c)
  uses_attribute all (with_interpreter i) c = inl (uses_interpreter all i c)

  pub attribute_uses : (all : List Text) (a : AttributeShape) → UsesPart (parts_of_attribute all a) feature → Contains (of_attribute a) feature
  attribute_uses all (plain k) u = absurd (uses_none u)
  attribute_uses all (with_options o) u = absurd (uses_none u)
  attribute_uses all (with_prompt e) u = only_uses (part all e) u
  attribute_uses all (with_pair k v) u = elim (first_cases (part [] k) (part [] v ∷ []) u) [
    | inl d ↦ Contains-append_left (lists_in false k) (lists_in false v) feature d
    | inr r ↦ Contains-append_right (lists_in false k) (lists_in false v) feature (only_uses (part [] v) r)
  ]
  attribute_uses all (with_string k t) u = absurd (uses_none u)
  attribute_uses all (with_strings t ts) u = absurd (uses_none u)
  attribute_uses all (with_interpreter i) u = interpreter_uses all i u

  -- ---- parameters

  uses_if_there : (sees : List Text) (o : Option Shape) → Contains (of_option o) feature → UsesPart (part_if_there sees o) feature
  uses_if_there sees None c = absurd (contains_none [] feature refl c)
  uses_if_there sees (Some e) c = uses_first (part sees e) [] c

  if_there_uses : (sees : List Text) (o : Option Shape) → UsesPart (part_if_there sees o) feature → Contains (of_option o) feature
  if_there_uses sees None u = absurd (uses_none u)
  if_there_uses sees (Some e) u = only_uses (part sees e) u

  module _ (value_of : List AttributeShape → Text → Option Shape) (given : List AttributeShape) where
    -- the default of a parameter has the feature, or the value of the `arg` for it
    abbrev pub InParameter : ParameterShape → Type 0
    InParameter p = Contains (of_option p.default) feature ⊎ Contains (of_option (value_of given p.name)) feature

    uses_here : (earlier : List Text) (p : ParameterShape) (rest : List Part) → InParameter p → UsesPart (part_if_there earlier p.default ++ part_if_there earlier (value_of given p.name) ++ rest) feature
    uses_here earlier p rest (inl d) =
        uses_left (part_if_there earlier p.default ++ part_if_there earlier (value_of given p.name)) rest
        (uses_left (part_if_there earlier p.default) (part_if_there earlier (value_of given p.name)) (uses_if_there earlier p.default d))
    uses_here earlier p rest (inr d) =
        uses_left (part_if_there earlier p.default ++ part_if_there earlier (value_of given p.name)) rest
        (uses_right (part_if_there earlier p.default) (part_if_there earlier (value_of given p.name)) (uses_if_there earlier (value_of given p.name) d))

    pub uses_parameters : (earlier : List Text) (ps : List ParameterShape) (p : ParameterShape) → Contains ps p → InParameter p → UsesPart (parts_of_parameters value_of given earlier ps) feature
    uses_parameters earlier [] p c u = absurd (contains_none [] p refl c)
    uses_parameters earlier (q ∷ qs) p c u =
        let rest : List Part = parts_of_parameters value_of given (earlier ++ q.name ∷ []) qs in
        elim (contains_cases q qs p c) [
          | inl e ↦ uses_here earlier q rest (subst InParameter (sym e) u)
          | inr r ↦ uses_right (part_if_there earlier q.default ++ part_if_there earlier (value_of given q.name)) rest (uses_parameters (earlier ++ q.name ∷ []) qs p r u)
        ]

    pub parameters_use : (earlier : List Text) (ps : List ParameterShape) → UsesPart (parts_of_parameters value_of given earlier ps) feature → (p : ParameterShape) × Contains ps p × InParameter p
    parameters_use earlier [] u = absurd (uses_none u)
    parameters_use earlier (q ∷ qs) u =
        let value : List Part = part_if_there earlier (value_of given q.name) in
        let rest : List Part = parts_of_parameters value_of given (earlier ++ q.name ∷ []) qs in
        elim (uses_cases (part_if_there earlier q.default ++ value) rest u) [
          | inl r ↦ elim (uses_cases (part_if_there earlier q.default) value r) [
            | inl d ↦ (q, contains_first q qs, inl (if_there_uses earlier q.default d))
            | inr d ↦ (q, contains_first q qs, inr (if_there_uses earlier (value_of given q.name) d))
          ]
          | inr d ↦ let t = parameters_use (earlier ++ q.name ∷ []) qs d in (t.0, contains_later q qs t.0 t.1, t.2)
        ]

  -- ---- dependencies and bodies

  abbrev parts_of_dependency : List Text → DependencyShape → List Part
  parts_of_dependency all d = map (λ (a : ArgumentShape). part all a.expression) d.arguments

  -- the feature is that of starred arguments, and one of the dependencies has such
  abbrev pub IsStar : List DependencyShape → Type 0
  IsStar ds = (feature ≡ StarredArgument) × (list_any has_starred ds ≡ true)

  starred_cases : (b : Bool) (e : Shape) → Contains (of_starred b e) feature → ((feature ≡ StarredArgument) × (b ≡ true)) ⊎ Contains (lists_in false e) feature
  starred_cases true e c = elim (contains_cases StarredArgument (lists_in false e) feature c) [
    | inl is ↦ inl (sym is, refl)
    | inr d ↦ inr d
  ]
  starred_cases false e c = inr c

  in_starred : (b : Bool) (e : Shape) → Contains (lists_in false e) feature → Contains (of_starred b e) feature
  in_starred true e c = contains_later StarredArgument (lists_in false e) feature c
  in_starred false e c = c

  pub uses_dependencies : (all : List Text) (ds : List DependencyShape) → Contains (flat_map of_dependency ds) feature → UsesPart (parts_of_dependencies all ds) feature ⊎ IsStar ds
  uses_dependencies all ds c =
      let d = gathered_from of_dependency ds feature c in
      let a = gathered_from of_argument d.0.arguments feature d.2 in
      elim (starred_cases a.0.starred a.0.expression a.2) [
        | inl s ↦ inr (s.0, any_at has_starred ds d.0 d.1 (any_at (λ (b : ArgumentShape). b.starred) d.0.arguments a.0 a.1 s.1))
        | inr e ↦ inl (uses_gathered (parts_of_dependency all) ds d.0 d.1 (part all a.0.expression, mapped (λ (b : ArgumentShape). part all b.expression) d.0.arguments a.0 a.1, e))
      ]

  pub dependencies_use : (all : List Text) (ds : List DependencyShape) → UsesPart (parts_of_dependencies all ds) feature → Contains (flat_map of_dependency ds) feature
  dependencies_use all ds u =
      let d = gathered_uses (parts_of_dependency all) ds u in
      let a = mapped_from (λ (b : ArgumentShape). part all b.expression) d.0.arguments d.2.0 d.2.1 in
      let there : Contains (lists_in false a.0.expression) feature = subst (λ (p : Part). Contains (lists_in false p.said) feature) (sym a.2) d.2.2 in
      gathered of_dependency ds d.0 feature d.1 (gathered of_argument d.0.arguments a.0 feature a.1 (in_starred a.0.starred a.0.expression there))

  abbrev parts_of_line : List Text → List Piece → List Part
  parts_of_line all line = flat_map (parts_of_piece all) line

  uses_piece : (all : List Text) (p : Piece) → Contains (of_piece p) feature → UsesPart (parts_of_piece all p) feature
  uses_piece all (text t) c = absurd (contains_none [] feature refl c)
  uses_piece all (lines.interpolation e) c = uses_first (part all e) [] c

  piece_uses : (all : List Text) (p : Piece) → UsesPart (parts_of_piece all p) feature → Contains (of_piece p) feature
  piece_uses all (text t) u = absurd (uses_none u)
  piece_uses all (lines.interpolation e) u = only_uses (part all e) u

  pub uses_body : (all : List Text) (body : List (List Piece)) → Contains (flat_map of_line body) feature → UsesPart (parts_of_body all body) feature
  uses_body all body c =
      let l = gathered_from of_line body feature c in
      let p = gathered_from of_piece l.0 feature l.2 in
      uses_gathered (parts_of_line all) body l.0 l.1 (uses_gathered (parts_of_piece all) l.0 p.0 p.1 (uses_piece all p.0 p.2))

  pub body_uses : (all : List Text) (body : List (List Piece)) → UsesPart (parts_of_body all body) feature → Contains (flat_map of_line body) feature
  body_uses all body u =
      let l = gathered_uses (parts_of_line all) body u in
      let p = gathered_uses (parts_of_piece all) l.0 l.2 in
      gathered of_line body l.0 feature l.1 (gathered of_piece l.0 p.0 feature p.1 (piece_uses all p.0 p.2))

-- a starred argument of a dependency
pub star_there : (ds : List DependencyShape) → list_any has_starred ds ≡ true → Contains (flat_map of_dependency ds) StarredArgument
star_there ds e =
    let d = any_of has_starred ds e in
    let a = any_of (λ (a : ArgumentShape). a.starred) d.0.arguments d.2 in
    gathered of_dependency ds d.0 StarredArgument d.1 (gathered of_argument d.0.arguments a.0 StarredArgument a.1 (starred a.0.starred a.0.expression a.2))
  where
    starred : (b : Bool) (e : Shape) → b ≡ true → Contains (of_starred b e) StarredArgument
    starred true e is = contains_first StarredArgument (lists_in false e)
    starred false e is = absurd (false≢true is)
