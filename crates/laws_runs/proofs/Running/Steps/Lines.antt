-- The lines of a recipe that runs, and the interpreter that it names, are known by names.
use Rattle.std.proofs.Common.{◌≡◌, ◌∙◌, sym, ap, subst, refl, ℕ, Bool, List, [], ◌∷◌, ◌++◌, map, Option, Some, None}
use Rattle.std.specs.Prelude.{Contains, codes, find}
use Rattle.std.specs.List.{All}
use Rattle.std.specs.Option.{option_map}
use Rattle.std.proofs.lemmas.List.Elements.{All-contains_itself, All-weaker, Contains-append_left, Contains-append_right}
use Rattle.std.proofs.lemmas.Option.{none-some, same_Some}
use Rattle.std.proofs.lemmas.Slice.Eq.{bytes_eq-Decides}
use Rattle.just_text.specs.Tokens.{lexeme}
use Rattle.just_host.specs.declared.config.Config.{Config}
use Rattle.just_value.specs.declared.positional.Override.{Override}
use Rattle.tree_expressions.specs.declared.expression.Expression.{Expression}
use Rattle.tree_attributes.specs.Attributes.{kind_name}
use Rattle.tree_attributes.specs.declared.attribute.Attribute.{Attribute}
use Rattle.tree_attributes.specs.declared.attribute.Attribute.TheVariants as attributes
use Rattle.tree_attributes.specs.declared.attribute.AttributeKind.TheVariants.{Script}
use Rattle.tree_attributes.specs.declared.setting.Interpreter.{Interpreter}
use Rattle.tree_attributes.specs.Sets.Order.{item_shape, name_text}
use Rattle.tree_attributes.specs.Sets.Sets.{is_of, items_of}
use Rattle.tree_attributes.specs.declared.attribute_item.AttributeItem.{AttributeItem}
use Rattle.tree_items.specs.Contexts.{parameter_number}
use Rattle.tree_items.specs.declared.ast.Item.TheVariants.{Recipe as RecipeItem}
use Rattle.tree_items.specs.declared.line.Fragment.{Fragment}
use Rattle.tree_items.specs.declared.line.Fragment.TheVariants.{Interpolation, Text as TextFragment}
use Rattle.tree_items.specs.declared.line.Line.{Line}
use Rattle.tree_items.specs.declared.recipe.Recipe.{Recipe}
use Rattle.tree_items.specs.declared.recipe.UnresolvedDependency.{UnresolvedDependency}
use Rattle.modules_compilation.specs.declared.compilation.Compilation.{Compilation}
use Rattle.resolve_references.specs.Seen.{Seen, seeing, seen_in, seen_in_attribute, seen_in_attributes, seen_in_body, seen_in_dependencies, seen_in_fragment, seen_in_interpreter, seen_in_line, seen_in_parameters}
use Rattle.resolve_analysis.specs.Opening.{Runs}
use Rattle.resolve_analysis.specs.declared.analysis.Analysis.{Analysis}
use Rattle.analyze_calls.specs.Entered.{EnteredRow}
use Rattle.analyze_calls.specs.declared.plan.Runner.{Runner}
use Rattle.justfile_evaluator.specs.Bodies.{NamedBody}
use Rattle.justfile_evaluator.specs.Sites.{attribute_in, interpreter_at, interpreter_in}
use Rattle.meaning_dialogues.specs.Calls.{DefinedFunction}
use Rattle.meaning_evaluation.specs.Stages.Parameters.{Bound}
use Rattle.meaning_rules.specs.Worlds.Given.{Text, World}
use Rattle.meaning_rules.proofs.Worlds.Places.{contains_at, contains_first, contains_later}
use Rattle.laws_modules.proofs.Names.Found.{found_at}
use Rattle.meaning_rules.specs.Overrides.{overrides_of}
use Rattle.laws_names.proofs.Reading.Lists.{contains_flat}
use Rattle.just_meaning.specs.Opening.{Opened}
use Rattle.laws_runs.specs.Settings.Settled.{AllSettle}
use Rattle.laws_runs.specs.ByName.Evaluators.{AllKnown, FragmentsKnown, IsKnown, RunPlace}
use Rattle.laws_runs.specs.ByName.Laws.{IsScriptKnown}
use Rattle.laws_runs.specs.Running.Entered.{IsEnteredIn}
use Rattle.laws_runs.specs.Running.Steps.{RestsOn}
use Rattle.laws_runs.proofs.Running.Steps.Expressions.{body_here, is_known, is_reached, place_here}
use Rattle.laws_runs.proofs.Running.Steps.Sites.{script_written}
use Rattle.laws_runs.proofs.Running.Steps.Standing.{Stands}

-- ---- which expressions a recipe has

module _ (r : Recipe UnresolvedDependency) where
  abbrev pub every : List (Text × ℕ)
  every = map parameter_number r.parameters.items

  abbrev pub of_attributes : List Seen
  of_attributes = seen_in_attributes every (items_of r.attributes)

  abbrev pub of_parameters : List Seen
  of_parameters = seen_in_parameters [] r.parameters.items

  abbrev pub of_priors : List Seen
  of_priors = seen_in_dependencies every r.priors.items

  abbrev pub of_subsequents : List Seen
  of_subsequents = seen_in_dependencies every r.subsequents.items

  abbrev pub of_lines : List Seen
  of_lines = seen_in_body every r.body.items

  -- an expression of an attribute, and one of the body
  pub of_attribute : (item : AttributeItem) → Contains (items_of r.attributes) item → (s : Seen) → Contains (seen_in_attribute every item.attribute) s → Contains (seen_in (RecipeItem r)) s
  of_attribute item c s d =
      Contains-append_left (((of_attributes ++ of_parameters) ++ of_priors) ++ of_subsequents) of_lines s
      (Contains-append_left ((of_attributes ++ of_parameters) ++ of_priors) of_subsequents s
      (Contains-append_left (of_attributes ++ of_parameters) of_priors s
      (Contains-append_left of_attributes of_parameters s
      (contains_flat (λ (i : AttributeItem). seen_in_attribute every i.attribute) (items_of r.attributes) item s c d))))

  pub of_body : (line : Line) → Contains r.body.items line → (fragment : Fragment) → Contains line.fragments.items fragment → (s : Seen) → Contains (seen_in_fragment every fragment) s → Contains (seen_in (RecipeItem r)) s
  of_body line c fragment d s e =
      Contains-append_right (((of_attributes ++ of_parameters) ++ of_priors) ++ of_subsequents) of_lines s
      (contains_flat (seen_in_line every) r.body.items line s c (contains_flat (seen_in_fragment every) line.fragments.items fragment s d e))

-- the attribute that names an interpreter
script_of : (o : Option Attribute) (i : Interpreter Expression) → interpreter_at o ≡ Some i → (a : Attribute) × (o ≡ Some a) × ((all : List (Text × ℕ)) → seen_in_attribute all a ≡ seen_in_interpreter all i)
script_of None i e = absurd (none-some i e)
script_of (Some (attributes.Script None)) i e = absurd (none-some i e)
script_of (Some (attributes.Script (Some given))) i e = (attributes.Script (Some given), refl, λ all. ap (seen_in_interpreter all) (same_Some given.value i e))
script_of (Some other) i e = absurd (none-some i e)

pub of_found : (o : Option AttributeItem) (a : Attribute) → option_map (λ item. item.attribute) o ≡ Some a → (item : AttributeItem) × (o ≡ Some item) × (item.attribute ≡ a)
of_found None a e = absurd (none-some a e)
of_found (Some item) a e = (item, refl, same_Some item.attribute a e)

module _ (w : World) (compilation : Compilation) (given : List Override) (base : Text) (analysis : Analysis) (settled : AllSettle w (overrides_of given) compilation analysis.values.value.settings.items) (config : Config) (root_key : List ℕ)
    (called : List ℕ) (is_read : ℕ → Bool) (runner : Runner) (opened : List Opened) (rests : RestsOn w compilation given base analysis settled config root_key called is_read runner opened)
    (rank : ℕ) (s : Stands w compilation given base analysis settled config root_key called is_read runner opened rests rank)
    (runs : Runs analysis.table.value.recipes.items config.no_dependencies called rank) (flag : Bool) (entered : EnteredRow) (bound : Bound) (is : IsEnteredIn s.planned s.context entered bound) where
  abbrev recipe : Recipe UnresolvedDependency
  recipe = s.planned.recipe.now

  abbrev reached : DefinedFunction → Bool
  reached = is_reached w compilation given base analysis settled config root_key called is_read runner opened rests rank s runs flag entered bound is

  abbrev b : NamedBody
  b = body_here w compilation given base analysis settled config root_key called is_read runner opened rests rank s flag entered bound is reached

  abbrev p : RunPlace
  p = place_here w compilation given base analysis settled config root_key called is_read runner opened rests rank s flag entered bound is reached

  known : (seen : Seen) → Contains (seen_in (RecipeItem recipe)) seen → seen.parameters ≡ every recipe → IsKnown b p seen.expression
  known seen c same = is_known w compilation given base analysis settled config root_key called is_read runner opened rests rank s runs flag entered bound is seen c same

  -- each line of its body
  pub lines_known : All (λ (line : Line). FragmentsKnown b p line.fragments.items) recipe.body.items
  lines_known = All-weaker (Contains recipe.body.items) (λ (line : Line). FragmentsKnown b p line.fragments.items) (λ line c. fragments line c line.fragments.items (λ f d. d)) recipe.body.items (All-contains_itself recipe.body.items)
    where
      fragments : (line : Line) → Contains recipe.body.items line → (fs : List Fragment) → ((f : Fragment) → Contains fs f → Contains line.fragments.items f) → FragmentsKnown b p fs
      fragments line c [] up = tt
      fragments line c (Interpolation e ∷ fs) up = (
        known (seeing (every recipe) e) (of_body recipe line c (Interpolation e) (up (Interpolation e) (contains_first (Interpolation e) fs)) (seeing (every recipe) e) (contains_first (seeing (every recipe) e) [])) refl,
        fragments line c fs (λ f d. up f (contains_later (Interpolation e) fs f d)),
      )
      fragments line c (TextFragment token ∷ fs) up = (tt, fragments line c fs (λ f d. up f (contains_later (TextFragment token) fs f d)))

  -- the interpreter that it names
  pub script_known : IsScriptKnown b p recipe.attributes
  script_known = record { written = written; known = named }
    where
      written : (item : AttributeItem) → find (is_of Script) (items_of recipe.attributes) ≡ Some item → lexeme item.name.token ≡ codes "script"
      written item e =
          let f = found_at (is_of Script) (items_of recipe.attributes) item e in
          script_written w compilation given base analysis settled config root_key called is_read runner opened rests rank s item (contains_at (items_of recipe.attributes) f.0 item f.1) f.2
          ∙ (bytes_eq-Decides (name_text (item_shape item)) (kind_name Script)).0 f.2

      named : (i : Interpreter Expression) → interpreter_in recipe.attributes ≡ Some i → AllKnown b p (i.command ∷ i.arguments.items)
      named i e =
          let a = script_of (attribute_in Script recipe.attributes) i e in
          let f = of_found (find (is_of Script) (items_of recipe.attributes)) a.0 a.1 in
          let at = found_at (is_of Script) (items_of recipe.attributes) f.0 f.1 in
          let among : (seen : Seen) → Contains (seen_in_interpreter (every recipe) i) seen → Contains (seen_in (RecipeItem recipe)) seen =
          λ seen c. of_attribute recipe f.0 (contains_at (items_of recipe.attributes) at.0 f.0 at.1) seen
          (subst (λ x. Contains (seen_in_attribute (every recipe) x) seen) (sym f.2) (subst (λ xs. Contains xs seen) (sym (a.2 (every recipe))) c)) in
          let first = seeing (every recipe) i.command in (
            known first (among first (contains_first first (map (seeing (every recipe)) i.arguments.items))) refl,
            each i.arguments.items (λ seen c. among seen (contains_later first (map (seeing (every recipe)) i.arguments.items) seen c)),
          )
        where
          each : (es : List Expression) → ((seen : Seen) → Contains (map (seeing (every recipe)) es) seen → Contains (seen_in (RecipeItem recipe)) seen) → AllKnown b p es
          each [] up = tt
          each (x ∷ es) up = (
            known (seeing (every recipe) x) (up (seeing (every recipe) x) (contains_first (seeing (every recipe) x) (map (seeing (every recipe)) es))) refl,
            each es (λ seen c. up seen (contains_later (seeing (every recipe) x) (map (seeing (every recipe)) es) seen c)),
          )
