-- A module that opens, and the places in it, are the same by numbers and by names.
use Rattle.std.proofs.Common.{◌≡◌, refl, sym, ◌∙◌, ap, Bool, false, List, [], ◌∷◌, ◌++◌, append-nil, map, None, ℕ}
use Rattle.std.specs.Option.{option_map}
use Rattle.std.specs.String.{string_bytes}
use Rattle.just_text.specs.Names.{joined_names}
use Rattle.just_host.specs.declared.job.Pair.{Pair}
use Rattle.just_value.specs.Constants.{constant_rows}
use Rattle.just_value.specs.Frames.{BindsRows, BoundRow, ByNumber, Frames}
use Rattle.parse_expressions.specs.Literals.{Expansion}
use Rattle.evaluate_context.specs.Environment.{frame_pairs, last_of, texts, variable}
use Rattle.evaluate_context.specs.Shells.{shell_words}
use Rattle.evaluate_context.specs.Surroundings.{by_name, sorted_names, standing_in, surroundings_of}
use Rattle.evaluate_context.specs.declared.context.ExecutionContext.{ExecutionContext}
use Rattle.evaluate_expressions.specs.Situations.{around_body}
use Rattle.modules_compilation.specs.declared.compilation.Compilation.{Compilation}
use Rattle.resolve_analysis.specs.declared.known_values.KnownValues.{KnownValues}
use Rattle.meaning_rules.specs.Worlds.Given.{Overrides, Text, World}
use Rattle.meaning_evaluation.specs.Named.{Definitions}
use Rattle.meaning_evaluation.specs.Scopes.{Configuration, Scene, surroundings_in}
use Rattle.just_meaning.specs.Opening.{opening_standing, scene_in}
use Rattle.laws_runs.specs.Settings.Settled.{AllSettle}
use Rattle.laws_runs.specs.ByName.Places.{SameModule, SamePlace}
use Rattle.just_meaning.specs.Configured.{configuration_of}
use Rattle.laws_runs.proofs.Running.Opening.Pairs.{constants_exported, last_by_name, same_place, sorted_names_are}
use Rattle.laws_runs.proofs.Running.Opening.Requests.{HasRow}

module _ (w : World) (o : Overrides) (compilation : Compilation) (values : KnownValues) (settled : AllSettle w o compilation values.settings.items) (k : ℕ) (path : List Text) (context : ExecutionContext)
    (h : HasRow w o compilation values settled context.config.now k path context.module.now) (expansion : Expansion) (defined : Definitions)
    (pairs : List Pair) (pairs_are : map variable context.dotenv.now.entries ≡ by_name pairs) (out : List Pair) where
  abbrev pub c : Configuration
  c = configuration_of context.config.now context.root.now expansion

  abbrev pub scene : Scene
  scene = scene_in c defined path h.row pairs out

  dotenv_same : (name : List ℕ) → last_of name (map variable context.dotenv.now.entries) ≡ last_of name pairs
  dotenv_same name = ap (last_of name) pairs_are ∙ last_by_name name pairs

  unexports_same : texts context.module.now.unexports.now ≡ sorted_names h.row.unexports
  unexports_same = sym h.unexports ∙ sym (sorted_names_are h.row.unexports h.sorted)

  -- the module of the context is that of the row
  pub same_module : SameModule (surroundings_of context) (surroundings_in c scene)
  same_module = record {
    arch = refl;
    base = refl;
    dotenv = dotenv_same;
    dry_run = refl;
    folder = sym h.folder;
    invocation_directory = refl;
    jobs = refl;
    limit = refl;
    lists = sym h.lists;
    module_path = ap joined_names h.place;
    os = refl;
    quiet = refl;
    root = refl;
    shell = ap (shell_words (option_map string_bytes context.config.now.shell) (option_map (λ arguments. map string_bytes arguments.items) context.config.now.shell_args)) (sym h.shell);
    source = sym h.source;
    version = refl;
  }

  -- in it, with the constants of the language around its frame
  module _ (constants : List BoundRow) (language : BindsRows constant_rows constants) (sorted : ByNumber constants) (own : List BoundRow) where
    abbrev frames : Frames
    frames = record { own = own; outer = constants ∷ [] }

    abbrev export : Bool
    export = context.module.now.settings.now.export

    -- a variable's right side stands where nothing is exported
    pub same_here : SamePlace (surroundings_of context) (surroundings_in c scene) (standing_in context [] frames false None) (opening_standing [])
    same_here =
        same_place (surroundings_of context) (surroundings_in c scene) (standing_in context [] frames false None) (opening_standing []) unexports_same dotenv_same
        (λ name. ap (λ l. last_of name (l ++ [])) (constants_exported export constants language sorted)) refl refl refl

    -- the body of a function stands where the module's frame is exported
    pub same_in_functions : ((name : List ℕ) → last_of name (frame_pairs export own) ≡ last_of name out) → SamePlace (surroundings_of context) (surroundings_in c scene) (standing_in context [] (around_body frames) false None) (opening_standing out)
    same_in_functions exported =
        same_place (surroundings_of context) (surroundings_in c scene) (standing_in context [] (around_body frames) false None) (opening_standing out) unexports_same dotenv_same
        (λ name. ap (λ l. last_of name (l ++ (frame_pairs export own ++ []))) (constants_exported export constants language sorted) ∙ ap (last_of name) (append-nil (frame_pairs export own)) ∙ exported name) refl refl refl
