-- The parameters that the expressions of an item see are its own.
use Rattle.std.proofs.Common.{◌≡◌, inl, inr, refl, sym, ap, subst, List, [], ◌∷◌, ◌++◌, append_assoc, map, Option, Some, None, ℕ}
use Rattle.std.specs.Prelude.{Contains}
use Rattle.std.specs.List.{flat_map}
use Rattle.std.proofs.lemmas.List.Elements.{Contains-append_cases, Contains-append_left}
use Rattle.just_text.specs.declared.name.Name.{Name}
use Rattle.tree_expressions.specs.declared.expression.Expression.{Expression}
use Rattle.tree_attributes.specs.declared.attribute.Attribute.{Attribute}
use Rattle.tree_attributes.specs.declared.attribute.Attribute.TheVariants.{Android, Arg, Cache, Confirm, Default, Doc, Dragonfly, Env, ExitMessage, Extension, Freebsd, Group, Linux, Macos, Metadata, Netbsd, NoCd, NoExitMessage, NoQuiet, Openbsd, Parallel, PositionalArguments, Private, Script, Unix, Windows, WorkingDirectory}
use Rattle.tree_attributes.specs.declared.setting.Interpreter.{Interpreter}
use Rattle.tree_attributes.specs.declared.setting.Setting.{Setting}
use Rattle.tree_attributes.specs.declared.setting.Setting.TheVariants as settings
use Rattle.tree_attributes.specs.Sets.Sets.{items_of}
use Rattle.tree_attributes.specs.declared.attribute_item.AttributeItem.{AttributeItem}
use Rattle.tree_items.specs.Contexts.{named_number, parameter_number}
use Rattle.tree_items.specs.declared.ast.Item.{Item}
use Rattle.tree_items.specs.declared.ast.Item.TheVariants.{Alias, Assignment, Comment, Function, Import, Module, Newline, Recipe, Set, Unexport}
use Rattle.tree_items.specs.declared.item.Binding.{Binding}
use Rattle.tree_items.specs.declared.line.Fragment.{Fragment}
use Rattle.tree_items.specs.declared.line.Fragment.TheVariants.{Interpolation, Text}
use Rattle.tree_items.specs.declared.line.Line.{Line}
use Rattle.tree_items.specs.declared.recipe.DependencyArgument.{DependencyArgument}
use Rattle.tree_items.specs.declared.recipe.Parameter.{Parameter}
use Rattle.tree_items.specs.declared.recipe.UnresolvedDependency.{UnresolvedDependency}
use Rattle.parse_items.specs.Numbered.{binding_numbers}
use Rattle.resolve_references.specs.Seen.{Seen, seeing, seeing_if_there, seen_in, seen_in_attribute, seen_in_dependency, seen_in_fragment, seen_in_interpreter, seen_in_line, seen_in_parameters, seen_in_setting}
use Rattle.meaning_rules.proofs.Worlds.Places.{contains_cases, contains_none}
use Rattle.laws_names.proofs.Reading.Lists.{contained_flat, contains_map, contains_mapped}

abbrev Pairs : Type 0
Pairs = List (List ℕ × ℕ)

abbrev AreAmong : Pairs → Pairs → Type 0
AreAmong some all = (pair : List ℕ × ℕ) → Contains some pair → Contains all pair

-- an expression sees no others
abbrev Sees : Pairs → Seen → Type 0
Sees all s = AreAmong s.parameters all

sees_same : (all some : Pairs) (e : Expression) (s : Seen) → AreAmong some all → seeing some e ≡ s → Sees all s
sees_same all some e s among same = subst (Sees all) same among

sees_none : (all : Pairs) (e : Expression) (s : Seen) → seeing [] e ≡ s → Sees all s
sees_none all e s same = sees_same all [] e s (λ pair c. absurd (contains_none [] pair refl c)) same

one_sees : (all some : Pairs) (e : Expression) (s : Seen) → AreAmong some all → Contains (seeing some e ∷ []) s → Sees all s
one_sees all some e s among c = elim (contains_cases (seeing some e) [] s c) [
  | inl same ↦ sees_same all some e s among same
  | inr d ↦ absurd (contains_none [] s refl d)
]

there_sees : (all some : Pairs) (o : Option Expression) (s : Seen) → AreAmong some all → Contains (seeing_if_there some o) s → Sees all s
there_sees all some None s among c = absurd (contains_none [] s refl c)
there_sees all some (Some e) s among c = one_sees all some e s among c

interpreter_sees : (all some : Pairs) (i : Interpreter Expression) (s : Seen) → AreAmong some all → Contains (seen_in_interpreter some i) s → Sees all s
interpreter_sees all some i s among c = elim (contains_cases (seeing some i.command) (map (seeing some) i.arguments.items) s c) [
  | inl same ↦ sees_same all some i.command s among same
  | inr d ↦ let m = contains_mapped (seeing some) i.arguments.items s d in sees_same all some m.0 s among m.2
]

attribute_sees : (all : Pairs) (a : Attribute) (s : Seen) → Contains (seen_in_attribute all a) s → Sees all s
attribute_sees all Android s c = absurd (contains_none [] s refl c)
attribute_sees all (Arg options) s c = absurd (contains_none [] s refl c)
attribute_sees all Cache s c = absurd (contains_none [] s refl c)
attribute_sees all (Confirm None) s c = absurd (contains_none [] s refl c)
attribute_sees all (Confirm (Some prompt)) s c = one_sees all all prompt s (λ pair d. d) c
attribute_sees all Default s c = absurd (contains_none [] s refl c)
attribute_sees all (Doc text) s c = absurd (contains_none [] s refl c)
attribute_sees all Dragonfly s c = absurd (contains_none [] s refl c)
attribute_sees all (Env key value) s c = elim (contains_cases (seeing [] key) (seeing [] value.value ∷ []) s c) [
  | inl same ↦ sees_none all key s same
  | inr d ↦ one_sees all [] value.value s (λ pair e. absurd (contains_none [] pair refl e)) d
]
attribute_sees all ExitMessage s c = absurd (contains_none [] s refl c)
attribute_sees all (Extension text) s c = absurd (contains_none [] s refl c)
attribute_sees all Freebsd s c = absurd (contains_none [] s refl c)
attribute_sees all (Group text) s c = absurd (contains_none [] s refl c)
attribute_sees all Linux s c = absurd (contains_none [] s refl c)
attribute_sees all Macos s c = absurd (contains_none [] s refl c)
attribute_sees all (Metadata first others) s c = absurd (contains_none [] s refl c)
attribute_sees all Netbsd s c = absurd (contains_none [] s refl c)
attribute_sees all NoCd s c = absurd (contains_none [] s refl c)
attribute_sees all NoExitMessage s c = absurd (contains_none [] s refl c)
attribute_sees all NoQuiet s c = absurd (contains_none [] s refl c)
attribute_sees all Openbsd s c = absurd (contains_none [] s refl c)
attribute_sees all Parallel s c = absurd (contains_none [] s refl c)
attribute_sees all PositionalArguments s c = absurd (contains_none [] s refl c)
attribute_sees all Private s c = absurd (contains_none [] s refl c)
attribute_sees all (Script None) s c = absurd (contains_none [] s refl c)
attribute_sees all (Script (Some i)) s c = interpreter_sees all all i.value s (λ pair d. d) c
attribute_sees all Unix s c = absurd (contains_none [] s refl c)
attribute_sees all Windows s c = absurd (contains_none [] s refl c)
attribute_sees all (WorkingDirectory text) s c = absurd (contains_none [] s refl c)

-- each parameter sees those before it
parameters_see : (all earlier : Pairs) (ps : List Parameter) (s : Seen) → AreAmong (earlier ++ map parameter_number ps) all → Contains (seen_in_parameters earlier ps) s → Sees all s
parameters_see all earlier [] s among c = absurd (contains_none [] s refl c)
parameters_see all earlier (p ∷ ps) s among c =
    let before : AreAmong earlier all = λ pair d. among pair (Contains-append_left earlier (map parameter_number (p ∷ ps)) pair d) in
    let more : AreAmong ((earlier ++ parameter_number p ∷ []) ++ map parameter_number ps) all =
    subst (λ qs. AreAmong qs all) (sym (append_assoc earlier (parameter_number p ∷ []) (map parameter_number ps))) among in
    elim (Contains-append_cases (seeing_if_there earlier p.default ++ seeing_if_there earlier p.value) (seen_in_parameters (earlier ++ parameter_number p ∷ []) ps) s c) [
      | inl d ↦ elim (Contains-append_cases (seeing_if_there earlier p.default) (seeing_if_there earlier p.value) s d) [
        | inl e ↦ there_sees all earlier p.default s before e
        | inr e ↦ there_sees all earlier p.value s before e
      ]
      | inr d ↦ parameters_see all (earlier ++ parameter_number p ∷ []) ps s more d
    ]

dependency_sees : (all : Pairs) (d : UnresolvedDependency) (s : Seen) → Contains (seen_in_dependency all d) s → Sees all s
dependency_sees all d s c = let m = contains_mapped (λ (a : DependencyArgument). seeing all a.expression) d.arguments.items s c in sees_same all all m.0.expression s (λ pair e. e) m.2

fragment_sees : (all : Pairs) (f : Fragment) (s : Seen) → Contains (seen_in_fragment all f) s → Sees all s
fragment_sees all (Interpolation e) s c = one_sees all all e s (λ pair d. d) c
fragment_sees all (Text token) s c = absurd (contains_none [] s refl c)

line_sees : (all : Pairs) (line : Line) (s : Seen) → Contains (seen_in_line all line) s → Sees all s
line_sees all line s c = let r = contained_flat (seen_in_fragment all) line.fragments.items s c in fragment_sees all r.0 s r.2

setting_sees : (setting : Setting) (s : Seen) → Contains (seen_in_setting setting) s → Sees [] s
setting_sees (settings.Truth which value) s c = absurd (contains_none [] s refl c)
setting_sees (settings.DotenvCommand value) s c = one_sees [] [] value s (λ pair d. d) c
setting_sees (settings.DotenvFilename value) s c = one_sees [] [] value s (λ pair d. d) c
setting_sees (settings.DotenvPath value) s c = one_sees [] [] value s (λ pair d. d) c
setting_sees (settings.Indentation value) s c = absurd (contains_none [] s refl c)
setting_sees (settings.MinimumVersion value) s c = absurd (contains_none [] s refl c)
setting_sees (settings.ScriptInterpreter value) s c = interpreter_sees [] [] value s (λ pair d. d) c
setting_sees (settings.Shell value) s c = interpreter_sees [] [] value s (λ pair d. d) c
setting_sees (settings.Tempdir value) s c = one_sees [] [] value s (λ pair d. d) c
setting_sees (settings.WindowsShell value) s c = interpreter_sees [] [] value s (λ pair d. d) c
setting_sees (settings.WorkingDirectory value) s c = one_sees [] [] value s (λ pair d. d) c

-- the parameters of an item
abbrev parameters_of : Item → Pairs
parameters_of (Function f) = map named_number f.parameters.items
parameters_of (Recipe r) = map parameter_number r.parameters.items
parameters_of other = []

item_sees : (item : Item) (s : Seen) → Contains (seen_in item) s → Sees (parameters_of item) s
item_sees (Alias a) s c = absurd (contains_none [] s refl c)
item_sees (Assignment a) s c = one_sees [] [] a.value s (λ pair d. d) c
item_sees (Comment text) s c = absurd (contains_none [] s refl c)
item_sees (Function f) s c = one_sees (map named_number f.parameters.items) (map named_number f.parameters.items) f.body s (λ pair d. d) c
item_sees (Import i) s c = absurd (contains_none [] s refl c)
item_sees (Module m) s c = absurd (contains_none [] s refl c)
item_sees Newline s c = absurd (contains_none [] s refl c)
item_sees (Recipe r) s c =
    let all = map parameter_number r.parameters.items in
    let attributes = flat_map (λ (item : AttributeItem). seen_in_attribute all item.attribute) (items_of r.attributes) in
    let parameters = seen_in_parameters [] r.parameters.items in
    let priors = flat_map (seen_in_dependency all) r.priors.items in
    let subsequents = flat_map (seen_in_dependency all) r.subsequents.items in
    elim (Contains-append_cases (attributes ++ parameters ++ priors ++ subsequents) (flat_map (seen_in_line all) r.body.items) s c) [
      | inl d ↦ elim (Contains-append_cases (attributes ++ parameters ++ priors) subsequents s d) [
        | inl e ↦ elim (Contains-append_cases (attributes ++ parameters) priors s e) [
          | inl f ↦ elim (Contains-append_cases attributes parameters s f) [
            | inl g ↦ let r' = contained_flat (λ (item : AttributeItem). seen_in_attribute all item.attribute) (items_of r.attributes) s g in attribute_sees all r'.0.attribute s r'.2
            | inr g ↦ parameters_see all [] r.parameters.items s (λ pair h. h) g
          ]
          | inr f ↦ let r' = contained_flat (seen_in_dependency all) r.priors.items s f in dependency_sees all r'.0 s r'.2
        ]
        | inr e ↦ let r' = contained_flat (seen_in_dependency all) r.subsequents.items s e in dependency_sees all r'.0 s r'.2
      ]
      | inr d ↦ let r' = contained_flat (seen_in_line all) r.body.items s d in line_sees all r'.0 s r'.2
    ]
item_sees (Set s') s c = setting_sees s'.value s c
item_sees (Unexport u) s c = absurd (contains_none [] s refl c)

-- a parameter's number is one of the item's bindings, and the item is no variable
numbered : (item : Item) (pair : List ℕ × ℕ) → Contains (parameters_of item) pair → Contains (binding_numbers item) pair.1
numbered (Alias a) pair c = absurd (contains_none [] pair refl c)
numbered (Assignment a) pair c = absurd (contains_none [] pair refl c)
numbered (Comment text) pair c = absurd (contains_none [] pair refl c)
numbered (Function f) pair c =
    let m = contains_mapped named_number f.parameters.items pair c in
    subst (Contains (map (λ (p : Name × ℕ). p.1) f.parameters.items)) (ap (λ (q : List ℕ × ℕ). q.1) m.2) (contains_map (λ (p : Name × ℕ). p.1) f.parameters.items m.0 m.1)
numbered (Import i) pair c = absurd (contains_none [] pair refl c)
numbered (Module m) pair c = absurd (contains_none [] pair refl c)
numbered Newline pair c = absurd (contains_none [] pair refl c)
numbered (Recipe r) pair c =
    let m = contains_mapped parameter_number r.parameters.items pair c in
    subst (Contains (map (λ (p : Parameter). p.number) r.parameters.items)) (ap (λ (q : List ℕ × ℕ). q.1) m.2) (contains_map (λ (p : Parameter). p.number) r.parameters.items m.0 m.1)
numbered (Set s) pair c = absurd (contains_none [] pair refl c)
numbered (Unexport u) pair c = absurd (contains_none [] pair refl c)

pub parameter_numbered : (item : Item) (s : Seen) → Contains (seen_in item) s → (pair : List ℕ × ℕ) → Contains s.parameters pair → Contains (binding_numbers item) pair.1
parameter_numbered item s c pair d = numbered item pair (item_sees item s c pair d)

pub variables_see_none : (item : Item) (s : Seen) → Contains (seen_in item) s → (pair : List ℕ × ℕ) → Contains s.parameters pair → (v : Binding Expression) → item ≡ Assignment v → ⊥
variables_see_none item s c pair d v e = contains_none (parameters_of item) pair (ap parameters_of e) (item_sees item s c pair d)
