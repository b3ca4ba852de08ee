-- What recipes and modules say to a run, by their items, attributes and settings.
use Rattle.std.specs.Prelude.{ℕ, List, [], ◌∷◌, ◌++◌, Bool, true, false, ◌||◌, cond, map, filter_map, Option, Some, None, codes}
use Rattle.std.specs.List.{flat_map}
use Rattle.std.specs.Str.{bytes_eq}
use Rattle.tree_expressions.specs.Shape.{Shape}
use Rattle.tree_expressions.specs.Cooking.{cooked}
use Rattle.tree_attributes.specs.Settings.{InterpreterShape, ValueShape, SetShape, truth, expression, interpreter}
use Rattle.tree_attributes.specs.Attributes.{AttributeShape, kind_name, plain, with_prompt, with_pair, with_string, with_interpreter}
use Rattle.tree_attributes.specs.declared.attribute.AttributeKind.{AttributeKind}
use Rattle.tree_attributes.specs.declared.attribute.AttributeKind.TheVariants.{Confirm, Extension, NoCd, NoQuiet, PositionalArguments, Script, WorkingDirectory}
use Rattle.tree_attributes.specs.Sets.Order.{in_order}
use Rattle.parse_expressions.specs.Literals.{Expansion, text_or_none}
use Rattle.just_host.specs.declared.job.DotenvRequest.{DotenvRequest}
use Rattle.tree_items.specs.Recipes.{RecipeShape, ParameterShape, DependencyShape}
use Rattle.just_value.specs.Paths.{join, parent}
use Rattle.evaluate_context.specs.Folders.{folder_below}
use Rattle.meaning_dialogues.specs.Evaluation.{Value}
use Rattle.parse_attributed_items.specs.Options.{meant_for}
use Rattle.meaning_rules.specs.Fixed.{options_in}
use Rattle.meaning_rules.specs.Rules.{has}
use Rattle.meaning_evaluation.specs.Named.{RecipeName, ParameterRow, DependencyRow, RecipeRow, ModuleRow}

-- by what strings expand to
module _ (expansion : Expansion) where
  abbrev pub stands_for : List ℕ → List ℕ
  stands_for written = text_or_none (cooked expansion written)

  -- ---- parameters

  abbrev pub first : {A : Type 0} → List A → Option A
  first [] = None
  first (a ∷ as') = Some a

  -- a parameter with what the `arg` for it says
  abbrev pub parameter_row : List AttributeShape → ParameterShape → ParameterRow
  parameter_row attributes p =
      let o = meant_for expansion (filter_map options_in attributes) p.name in
      record {
        name = p.name;
        kind = p.kind;
        export = p.export;
        default = p.default;
        long = o.long;
        short = o.short;
        flag = o.flag;
        multiple = o.multiple;
        value = o.value;
        min = o.min;
        max = o.max;
      }

  -- ---- attributes

  abbrev pub pair_in : AttributeShape → Option (Shape × Shape)
  pair_in (with_pair key value) = Some (key, value)
  pair_in other = None

  abbrev pub prompt_in : AttributeShape → Option (Option Shape)
  prompt_in (with_prompt e) = Some (Some e)
  prompt_in (plain Confirm) = Some None
  prompt_in other = None

  abbrev pub script_in : AttributeShape → Option (Option InterpreterShape)
  script_in (with_interpreter i) = Some (Some i)
  script_in (plain Script) = Some None
  script_in other = None

  abbrev pub text_if : Bool → List ℕ → Option (List ℕ)
  text_if true written = Some (stands_for written)
  text_if false written = None

  abbrev pub string_in : AttributeKind → AttributeShape → Option (List ℕ)
  string_in kind (with_string k written) = text_if (bytes_eq (kind_name k) (kind_name kind)) written
  string_in kind other = None

  -- a recipe: its file, what the module's settings pass on, and the recipes that its dependencies name
  abbrev pub recipe_row : List ℕ → Bool → (DependencyShape → RecipeName) → List AttributeShape → RecipeShape → RecipeRow
  recipe_row file passes named given r =
      let attributes = in_order given in
      record {
        file = file;
        parameters = map (parameter_row attributes) r.parameters;
        env = filter_map pair_in attributes;
        confirm = first (filter_map prompt_in attributes);
        priors = map (λ d. let row : DependencyRow = record { on = named d; arguments = d.arguments } in row) r.priors;
        subsequents = map (λ d. let row : DependencyRow = record { on = named d; arguments = d.arguments } in row) r.subsequents;
        body = r.body;
        quiet = r.quiet;
        script = first (filter_map script_in attributes);
        extension = first (filter_map (string_in Extension) attributes);
        folder = first (filter_map (string_in WorkingDirectory) attributes);
        no_cd = has NoCd attributes;
        no_quiet = has NoQuiet attributes;
        passes_words = has PositionalArguments attributes || passes;
      }

-- ---- settings, by what their expressions settle to

abbrev pub setting_named : List ℕ → List SetShape → Option ValueShape
setting_named name [] = None
setting_named name (s ∷ ss) = cond (bytes_eq s.name name) (Some s.value) (setting_named name ss)

abbrev pub is_true : Option ValueShape → Bool
is_true (Some (truth value)) = value
is_true (Some other) = false
is_true None = false

-- a path without a parent has the empty text in its place
abbrev pub text_or_empty : Option (List ℕ) → List ℕ
text_or_empty (Some text) = text
text_or_empty None = []

module _ (settle : Shape → Value) where
  abbrev pub settled_value : Option ValueShape → Value
  settled_value (Some (expression e)) = settle e
  settled_value (Some other) = []
  settled_value None = []

  abbrev pub settled_text : Option ValueShape → Option (List ℕ)
  settled_text (Some (expression e)) = one_text (settle e)
    where
      one_text : Value → Option (List ℕ)
      one_text (text ∷ []) = Some text
      one_text value = None
  settled_text (Some other) = None
  settled_text None = None

  abbrev pub settled_words : Option ValueShape → Option (List (List ℕ))
  settled_words (Some (interpreter i)) = Some (settle i.command ++ flat_map settle i.arguments)
  settled_words (Some other) = None
  settled_words None = None

  abbrev pub truth_set : List SetShape → List ℕ → Bool
  truth_set sets name = is_true (setting_named name sets)

  abbrev pub value_set : List SetShape → List ℕ → Value
  value_set sets name = settled_value (setting_named name sets)

  -- the folder of a module, as it is asked for and run in: the root's is where the program works, another's that of its file
  abbrev pub folder_in : List ℕ → List ℕ → Bool → List ℕ → List SetShape → List ℕ
  folder_in base working is_root source sets = folder_below (cond is_root working (text_or_empty (parent (join base source)))) (settled_text (setting_named (codes "working-directory") sets))

  -- files of variables are asked for by `dotenv-load`, `-override` or `-required`, or by a filename, a path or a command
  abbrev pub is_any : Value → Bool
  is_any [] = false
  is_any (text ∷ texts) = true

  abbrev pub asks_for : List SetShape → Bool
  asks_for sets = (truth_set sets (codes "dotenv-load") || (truth_set sets (codes "dotenv-override") || truth_set sets (codes "dotenv-required")))
      || (is_any (value_set sets (codes "dotenv-filename")) || (is_any (value_set sets (codes "dotenv-path")) || is_any (value_set sets (codes "dotenv-command"))))

  abbrev pub request_in : List ℕ → List SetShape → DotenvRequest
  request_in folder sets = record {
    folder = folder;
    load = truth_set sets (codes "dotenv-load");
    filenames = value_set sets (codes "dotenv-filename");
    paths = value_set sets (codes "dotenv-path");
    command = value_set sets (codes "dotenv-command");
    overriding = truth_set sets (codes "dotenv-override");
    required = truth_set sets (codes "dotenv-required");
  }

  -- a module: its file, the names that are not exported, and its settings
  abbrev pub module_row : List ℕ → List ℕ → Bool → List ℕ → List (List ℕ) → List SetShape → ModuleRow
  module_row base working is_root source unexports sets = record {
    source = source;
    folder = folder_in base working is_root source sets;
    unexports = unexports;
    shell = settled_words (setting_named (codes "shell") sets);
    script_interpreter = settled_words (setting_named (codes "script-interpreter") sets);
    guards = truth_set sets (codes "guards");
    ignore_comments = truth_set sets (codes "ignore-comments");
    quiet = truth_set sets (codes "quiet");
    no_cd = truth_set sets (codes "no-cd");
    default_script = truth_set sets (codes "default-script");
    lists = truth_set sets (codes "lists");
    export = truth_set sets (codes "export");
    lazy = truth_set sets (codes "lazy");
    shares = truth_set sets (codes "share-subsequents");
    default_list = truth_set sets (codes "default-list");
    request = cond (asks_for sets) (Some (request_in (folder_in base working is_root source sets) sets)) None;
  }
