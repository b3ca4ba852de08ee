-- The site of a recipe's body is that of the body by name, where commands are given the same environment.
use Rattle.std.proofs.Common.{◌≡◌, ◌∙◌, sym, ap, ap₂, refl, ℕ, Bool, true, false, List, [], ◌∷◌, map}
use Rattle.std.specs.Prelude.{◌||◌, ◌&&◌, Contains, not}
use Rattle.std.specs.Option.{option_map}
use Rattle.std.proofs.lemmas.List.Elements.{All-contains}
use Rattle.std.proofs.lemmas.Option.{slice_get-map}
use Rattle.std.specs.List.{All}
use Rattle.just_text.specs.Tokens.{lexeme}
use Rattle.just_text.specs.declared.name.Name.{Name}
use Rattle.just_host.specs.declared.config.Config.{Config}
use Rattle.just_value.specs.declared.positional.Override.{Override}
use Rattle.tree_attributes.specs.declared.attribute.AttributeKind.TheVariants.{NoCd, NoQuiet, PositionalArguments, Script}
use Rattle.tree_attributes.specs.Sets.Order.{in_order, item_shape, name_text}
use Rattle.tree_attributes.specs.Sets.Sets.{is_of, items_of, shapes_in}
use Rattle.tree_attributes.specs.declared.attribute_item.AttributeItem.{AttributeItem}
use Rattle.tree_attributes.specs.declared.attribute_set.AttributeSet.{AttributeSet}
use Rattle.tree_items.specs.Lines.{is_shebang, piece_of, pieces_of}
use Rattle.tree_items.specs.declared.line.Line.{Line}
use Rattle.parse_expressions.specs.Literals.{Origin, from_file}
use Rattle.modules_compilation.specs.declared.compilation.Compilation.{Compilation}
use Rattle.evaluate_context.specs.declared.context.ExecutionContext.{ExecutionContext}
use Rattle.evaluate_variables.specs.Given.{passes_in}
use Rattle.resolve_analysis.specs.declared.analysis.Analysis.{Analysis}
use Rattle.justfile_evaluator.specs.Bodies.{HasConfiguration, HasEnvironment, HasRecipe, HasSettings, IsSiteOf, NamedBody}
use Rattle.justfile_evaluator.specs.Sites.{begins_shebang, extension_in, has_attribute, own_folder, script_in}
use Rattle.justfile_evaluator.specs.declared.site.Manner.{Manner}
use Rattle.justfile_evaluator.specs.declared.site.Site.{Site}
use Rattle.analyze_calls.specs.Around.{IsOwnSite}
use Rattle.analyze_calls.specs.Entered.{EnteredRow}
use Rattle.analyze_calls.specs.declared.plan.Runner.{Runner}
use Rattle.meaning_dialogues.specs.Dialogue.{Reading}
use Rattle.meaning_evaluation.specs.Stages.Parameters.{Bound}
use Rattle.meaning_rules.specs.Worlds.Given.{Text, World}
use Rattle.meaning_rules.specs.Overrides.{overrides_of}
use Rattle.meaning_evaluation.specs.Named.{RecipeRow}
use Rattle.meaning_evaluation.specs.Scopes.{Configuration, Scene}
use Rattle.meaning_evaluation.specs.Bodies.{has_shebang}
use Rattle.meaning_rules.specs.Rules.{has}
use Rattle.laws_names.specs.Reading.Meant.{IsKnownAttribute}
use Rattle.just_meaning.specs.Opening.{Opened}
use Rattle.laws_runs.specs.Resolved.Definitions.{key_at, sets_of}
use Rattle.laws_runs.specs.Settings.Settled.{AllSettle, AreSettledAs}
use Rattle.laws_runs.specs.Running.Steps.{RestsOn}
use Rattle.laws_runs.proofs.Running.Steps.Attributes.{attribute_there, extension_same, folder_same, recipe_attributes, script_same, script_there}
use Rattle.laws_runs.proofs.Running.Steps.Modules.{configuration, has_config, own_scene, settings_are}
use Rattle.laws_runs.proofs.Running.Steps.Standing.{Stands, own_row}

or_turned : (a b : Bool) → (a || b) ≡ (b || a)
or_turned true true = refl
or_turned true false = refl
or_turned false true = refl
or_turned false false = refl

-- whether a body begins `#!`
shebang_same : (c : Configuration) (scene : Scene) (name : List ℕ) (recipe : RecipeRow) (flag : Bool) (bound : Bound) (lines : List Line) → begins_shebang lines ≡ has_shebang c scene name recipe flag bound (map pieces_of lines)
shebang_same c scene name recipe flag bound [] = refl
shebang_same c scene name recipe flag bound (line ∷ lines) = ap is_shebang (sym (slice_get-map piece_of line.fragments.items 0))

module _ (w : World) (compilation : Compilation) (given : List Override) (base : Text) (analysis : Analysis) (settled : AllSettle w (overrides_of given) compilation analysis.values.value.settings.items) (config : Config) (root_key : List ℕ)
    (called : List ℕ) (is_read : ℕ → Bool) (runner : Runner) (opened : List Opened) (rests : RestsOn w compilation given base analysis settled config root_key called is_read runner opened)
    (rank : ℕ) (s : Stands w compilation given base analysis settled config root_key called is_read runner opened rests rank) where
  abbrev pub row : RecipeRow
  row = own_row w compilation given base analysis settled config root_key called is_read runner opened rests rank s

  abbrev pub scene : Scene
  scene = own_scene w compilation given base analysis settled config root_key called is_read runner opened rests rank s

  abbrev pub configured_so : Configuration
  configured_so = configuration w compilation given base analysis settled config root_key called is_read runner opened rests rank s

  are : AreSettledAs (settled.settle s.resolved.module) (sets_of compilation s.node) s.context.module.now.settings.now
  are = settings_are w compilation given base analysis settled config root_key called is_read runner opened rests rank s

  has_same_config : s.context.config.now ≡ config
  has_same_config = has_config w compilation given base analysis settled config root_key called is_read runner opened rests rank s

  abbrev attributes : AttributeSet
  attributes = s.planned.recipe.now.attributes

  abbrev origin : Origin
  origin = from_file (key_at compilation s.resolved.place) w.expansion

  attributes_known : All (IsKnownAttribute origin) (items_of attributes)
  attributes_known = recipe_attributes w compilation rests.numbered.attributes s.resolved.place s.planned.recipe.now s.is_planned.recipe

  -- its attribute `script` has its name
  pub script_written : (item : AttributeItem) → Contains (items_of attributes) item → is_of Script item ≡ true → lexeme item.name.token ≡ name_text (item_shape item)
  script_written item c e = let own = All-contains (IsKnownAttribute origin) (items_of attributes) item attributes_known c in own.1

  -- ---- what the recipe says

  pub passes_same : passes_in s.context.module.now.settings.now attributes ≡ row.passes_words
  passes_same =
      ap (λ b. s.context.module.now.settings.now.positional_arguments || b) (attribute_there PositionalArguments attributes)
      ∙ or_turned s.context.module.now.settings.now.positional_arguments (has PositionalArguments (in_order (shapes_in attributes)))
      ∙ ap (λ b. has PositionalArguments (in_order (shapes_in attributes)) || b) (sym are.positional_arguments)

  module _ (flag : Bool) (bound : Bound) (reading : Reading) where
    -- its body by its name
    abbrev pub own_body : NamedBody
    own_body = record { configuration = configured_so; scene = scene; name = lexeme s.planned.recipe.now.name.token; recipe = row; flag = flag; bound = bound; reading = reading }

    module _ (entered : EnteredRow) (site : Site) (own : IsOwnSite s.planned s.context flag entered site) where
      pub has_settings : HasSettings own_body site
      has_settings = record {
        guards = ap (λ (c : ExecutionContext). c.module.now.settings.now.guards) own.context_is ∙ sym are.guards;
        ignore_comments = ap (λ (c : ExecutionContext). c.module.now.settings.now.ignore_comments) own.context_is ∙ sym are.ignore_comments;
        no_cd = ap (λ (c : ExecutionContext). c.module.now.settings.now.no_cd) own.context_is ∙ sym are.no_cd;
        script_interpreter = ap (λ (c : ExecutionContext). option_map (λ i. i.command ∷ i.arguments.items) c.module.now.settings.now.script_interpreter) own.context_is ∙ sym are.script_interpreter;
      }

      pub has_configuration : HasConfiguration own_body site
      has_configuration = record {
        dry_run = ap (λ (c : ExecutionContext). c.config.now.dry_run) own.context_is ∙ ap (λ (c : Config). c.dry_run) has_same_config;
        loquacious = ap (λ (c : ExecutionContext). c.config.now.loquacious) own.context_is ∙ ap (λ (c : Config). c.loquacious) has_same_config;
        quiet = ap (λ (c : ExecutionContext). c.config.now.quiet) own.context_is ∙ ap (λ (c : Config). c.quiet) has_same_config;
      }

      begins : begins_shebang s.planned.recipe.now.body.items ≡ has_shebang configured_so scene own_body.name row flag bound row.body
      begins = shebang_same configured_so scene own_body.name row flag bound s.planned.recipe.now.body.items

      pub has_recipe : HasRecipe own_body site
      has_recipe = record {
        name = ap (λ (n : Name). lexeme n.token) own.name;
        no_cd = ap (has_attribute NoCd) own.attributes ∙ attribute_there NoCd attributes;
        folder = ap own_folder own.attributes ∙ folder_same origin attributes attributes_known;
        extension = ap extension_in own.attributes ∙ extension_same origin attributes attributes_known;
        script = ap script_in own.attributes ∙ script_same w.expansion attributes;
        passes_words = ap (λ (m : Manner). m.passes_words) own.manner ∙ passes_same;
        is_quiet = ap (λ (m : Manner). m.is_quiet) own.manner;
        hides_lines = ap (λ (m : Manner). m.hides_lines) own.manner ∙ ap₂ (λ a b. a && not b) (sym are.quiet) (attribute_there NoQuiet attributes);
        has_shebang = ap (λ (m : Manner). m.has_shebang) own.manner ∙ begins;
        is_script = ap (λ (m : Manner). m.is_script) own.manner
            ∙ ap₂ (λ a b. a || b) (ap₂ (λ a b. a || b) (script_there w.expansion attributes) (sym are.default_script)) begins;
      }

      -- the site is that of the body by name
      pub is_site : HasEnvironment own_body site → IsSiteOf own_body site
      is_site environment = record { settings = has_settings; configuration = has_configuration; recipe = has_recipe; environment = environment }
