-- The body of a recipe that was entered is its body by name, where its functions are those by name.
use Rattle.std.proofs.Common.{◌≡◌, ◌∙◌, sym, ap, ap₂, subst, refl, ℕ, suc, Bool, List, [], ◌∷◌, map, Some, Result}
use Rattle.std.specs.Prelude.{Contains, ◌||◌, filter_map}
use Rattle.std.specs.List.{All, cons_option}
use Rattle.std.proofs.lemmas.List.Elements.{All-contains}
use Rattle.just_text.specs.Tokens.{lexeme}
use Rattle.just_host.specs.declared.config.Config.{Config}
use Rattle.just_host.specs.declared.entry.Entry.{Entry}
use Rattle.just_value.specs.declared.positional.Override.{Override}
use Rattle.tree_attributes.specs.Attributes.{AttributeShape, plain, with_interpreter, with_options, with_pair, with_prompt, with_string, with_strings}
use Rattle.tree_attributes.specs.Sets.Order.{in_order}
use Rattle.tree_attributes.specs.Sets.Sets.{shapes_in}
use Rattle.tree_attributes.specs.declared.attribute_set.AttributeSet.{AttributeSet}
use Rattle.tree_items.specs.Recipes.{is_variadic, parameter_shapes}
use Rattle.tree_items.specs.declared.recipe.Parameter.{Parameter}
use Rattle.modules_compilation.specs.declared.compilation.Compilation.{Compilation}
use Rattle.parse_attributes.specs.Seen.{options_in as options_seen}
use Rattle.parse_attributed_items.specs.Fitting.{options_among}
use Rattle.parse_attributed_items.specs.Options.{HasOptions, ParameterOptions, meant_for, options_in as options_of}
use Rattle.parse_expressions.specs.Literals.{Expansion}
use Rattle.resolve_analysis.specs.declared.analysis.Analysis.{Analysis}
use Rattle.analyze_calls.specs.Around.{BodyBegins, IsOwnSite, RunsBody, own_reading, own_stage}
use Rattle.analyze_calls.specs.Entered.{EnteredRow}
use Rattle.analyze_calls.specs.declared.plan.Runner.{Runner}
use Rattle.evaluate_expressions.specs.Situations.{reading_at, stage_at}
use Rattle.evaluate_expressions.specs.declared.evaluator.Evaluator.{Evaluator}
use Rattle.justfile_evaluator.specs.Bodies.{IsBodyOf, IsSiteOf, NamedBody, task_of}
use Rattle.justfile_evaluator.specs.declared.site.Site.{Site}
use Rattle.meaning_evaluation.specs.Scopes.{Configuration, Scene, formals_from}
use Rattle.meaning_evaluation.specs.Named.{RecipeRow}
use Rattle.meaning_rules.specs.Fixed.{options_in}
use Rattle.meaning_runs.specs.Failures.{Failure}
use Rattle.meaning_runs.specs.Task.{TaskBegins, TaskLeads}
use Rattle.meaning_evaluation.specs.Stages.Parameters.{Bound, formal_of}
use Rattle.meaning_evaluation.specs.Parameters.Bindings.{words_passed}
use Rattle.meaning_rules.specs.Worlds.Given.{Text, World}
use Rattle.meaning_rules.proofs.Worlds.Places.{contains_first, contains_later}
use Rattle.meaning_rules.specs.Overrides.{overrides_of}
use Rattle.laws_names.proofs.Reading.Bindings.{own_item}
use Rattle.laws_runs.proofs.Menus.Slots.{in_order_already}
use Rattle.just_meaning.specs.Opening.{Opened, reading_in}
use Rattle.just_meaning.specs.Rows.{parameter_row}
use Rattle.laws_runs.specs.Settings.Settled.{AllSettle}
use Rattle.tree_items.specs.declared.ast.Item.TheVariants.{Recipe as RecipeItem}
use Rattle.tree_items.specs.declared.line.Line.{Line}
use Rattle.laws_runs.specs.ByName.Evaluators.{FragmentsKnown, HasFunctions, RunPlace}
use Rattle.laws_runs.specs.ByName.Laws.{HasWords, IsScriptKnown}
use Rattle.laws_runs.proofs.ByName.Bodies.{body_is, environment_is, words_are}
use Rattle.laws_runs.specs.Running.Entered.{IsEnteredIn}
use Rattle.laws_runs.specs.Running.Steps.{RestsOn}
use Rattle.laws_runs.proofs.Running.Steps.Expressions.{body_here, place_here}
use Rattle.laws_runs.proofs.Running.Steps.Places.{has_place}
use Rattle.laws_runs.proofs.Running.Steps.Sites.{is_site, passes_same}
use Rattle.laws_runs.proofs.Running.Steps.Standing.{Stands}
use Rattle.meaning_dialogues.specs.Calls.{DefinedFunction}

-- ---- what options say of parameters

options_alike : (a : AttributeShape) → options_in a ≡ options_seen (Some a)
options_alike (plain k) = refl
options_alike (with_options o) = refl
options_alike (with_prompt e) = refl
options_alike (with_pair k v) = refl
options_alike (with_string k t) = refl
options_alike (with_strings t ts) = refl
options_alike (with_interpreter i) = refl

same_options : (given : List AttributeShape) → filter_map options_in given ≡ options_among given
same_options [] = refl
same_options (a ∷ given) = ap (λ o. cons_option o (filter_map options_in given)) (options_alike a) ∙ ap (cons_option (options_seen (Some a))) (same_options given)

module _ (expansion : Expansion) (set : AttributeSet) where
  -- a parameter has the options that its row has
  pub options_are : (p : Parameter) → HasOptions expansion (options_among (shapes_in set)) p → options_of p ≡ meant_for expansion (filter_map options_in (in_order (shapes_in set))) (lexeme p.name.token)
  options_are p has = has ∙ ap (λ os. meant_for expansion os (lexeme p.name.token)) (sym (same_options (shapes_in set))) ∙ ap (λ shapes. meant_for expansion (filter_map options_in shapes) (lexeme p.name.token)) (sym (in_order_already set))

  module _ (c : Configuration) (scene : Scene) (name : List ℕ) (recipe : RecipeRow) (flag : Bool) where
    each_same : (n : ℕ) (ps : List Parameter) → ((p : Parameter) → Contains ps p → HasOptions expansion (options_among (shapes_in set)) p)
        → map (λ formal. formal.is_each) (map formal_of ps) ≡ map (λ formal. formal.is_each) (formals_from c scene name recipe flag n (map (parameter_row expansion (in_order (shapes_in set))) (parameter_shapes ps)))
    each_same n [] all = refl
    each_same n (p ∷ ps) all =
        ap₂ (λ (a : Bool) (others : List Bool). (is_variadic p.kind || a) ∷ others)
        (ap (λ (o : ParameterOptions). o.multiple) (options_are p (all p (contains_first p ps))))
        (each_same (suc n) ps (λ q d. all q (contains_later p ps q d)))

module _ (w : World) (compilation : Compilation) (given : List Override) (base : Text) (analysis : Analysis) (settled : AllSettle w (overrides_of given) compilation analysis.values.value.settings.items) (config : Config) (root_key : List ℕ)
    (called : List ℕ) (is_read : ℕ → Bool) (runner : Runner) (opened : List Opened) (rests : RestsOn w compilation given base analysis settled config root_key called is_read runner opened)
    (rank : ℕ) (s : Stands w compilation given base analysis settled config root_key called is_read runner opened rests rank) where
  -- each parameter has the options that the attributes say
  pub has_options : (p : Parameter) → Contains s.planned.recipe.now.parameters.items p → HasOptions w.expansion (options_among (shapes_in s.planned.recipe.now.attributes)) p
  has_options p c =
      All-contains (HasOptions w.expansion (options_among (shapes_in s.planned.recipe.now.attributes))) s.planned.recipe.now.parameters.items p
      (own_item w compilation rests.numbered s.resolved.place (RecipeItem s.planned.recipe.now) s.is_planned.recipe).0 c

  module _ (flag : Bool) (entered : EnteredRow) (bound : Bound) (is : IsEnteredIn s.planned s.context entered bound) (reached : DefinedFunction → Bool) where
    abbrev b : NamedBody
    b = body_here w compilation given base analysis settled config root_key called is_read runner opened rests rank s flag entered bound is reached

    abbrev p : RunPlace
    p = place_here w compilation given base analysis settled config root_key called is_read runner opened rests rank s flag entered bound is reached

    -- the words of its commands
    pub has_words : (site : Site) → IsOwnSite s.planned s.context flag entered site → HasWords b site
    has_words site own =
        words_are b site (map formal_of s.planned.recipe.now.parameters.items)
        (each_same w.expansion s.planned.recipe.now.attributes b.configuration b.scene b.name b.recipe flag 0 s.planned.recipe.now.parameters.items has_options)
        (own.positional ∙ is.is.parameters.passed ∙ ap (λ passes. words_passed passes (map formal_of s.planned.recipe.now.parameters.items) bound.values)
        (passes_same w compilation given base analysis settled config root_key called is_read runner opened rests rank s))

    -- what commands are given, and where they stand
    pub own_site : (site : Site) → IsOwnSite s.planned s.context flag entered site → IsSiteOf b site
    own_site site own =
        is_site w compilation given base analysis settled config root_key called is_read runner opened rests rank s flag bound (reading_in s.o.values) entered site own
        (environment_is b p site (has_place w compilation given base analysis settled config root_key called is_read runner opened rests rank s entered bound is flag (reading_in s.o.values) reached)
        (record { context = own.context_is; env = own.env; scope = own.scope }) (has_words site own))

    module _ (functions : HasFunctions b p) (lines : All (λ (line : Line). FragmentsKnown b p line.fragments.items) s.planned.recipe.now.body.items) (script : IsScriptKnown b p s.planned.recipe.now.attributes) where
      -- its body by an evaluator that stands there is its body by name, where its lines and the interpreter that it names are known, and functions are those by name
      body_here_is : (evaluator : Evaluator) (site : Site) → stage_at evaluator ≡ own_stage s.planned s.context flag entered → reading_at evaluator ≡ own_reading s.planned s.context flag entered → IsOwnSite s.planned s.context flag entered site
          → IsBodyOf b site evaluator s.planned.recipe.now.body.items
      body_here_is evaluator site stage reading own =
          body_is b p evaluator site s.planned.recipe.now.body.items
          (record {
            stage = stage;
            reading = reading;
            place = has_place w compilation given base analysis settled config root_key called is_read runner opened rests rank s entered bound is flag (reading_in s.o.values) reached;
            functions = functions;
          })
          (own_site site own) refl lines (subst (IsScriptKnown b p) (sym own.attributes) script)

      -- it leads by names as it does by places
      pub body_goes : (old new : List Entry) (result : Result (Unit {0}) Failure) → RunsBody s.planned s.context flag entered old new result → TaskLeads b.reading (task_of b) old new result
      body_goes old new result r = r.goes b (body_here_is r.evaluator r.site r.stage r.reading r.is_own)

      -- what was recorded of it by places is a beginning of what it records by names
      pub body_begins : (old new : List Entry) → BodyBegins s.planned s.context flag entered old new → TaskBegins b.reading (task_of b) old new
      body_begins old new r = r.begins b (body_here_is r.evaluator r.site r.stage r.reading r.is_own)
