-- The row of a module rests on what each of its settings says by its name.
use Rattle.std.proofs.Common.{◌≡◌, refl, sym, ◌∙◌, ap, Bool, true, false, ◌||◌, cond, codes, List, [], ◌∷◌, ◌++◌, ℕ, zero, suc, map, Option, Some, None}
use Rattle.std.specs.Prelude.{Contains}
use Rattle.std.specs.List.{flat_map}
use Rattle.tree_attributes.specs.Attributes.{AttributeShape}
use Rattle.tree_attributes.specs.Settings.{SetShape, ValueShape, expression, interpreter, string, truth}
use Rattle.tree_expressions.specs.Shape.{Shape}
use Rattle.just_value.specs.Paths.{join, parent}
use Rattle.evaluate_context.specs.Folders.{folder_below}
use Rattle.meaning_dialogues.specs.Evaluation.{Value}
use Rattle.meaning_rules.specs.Worlds.Given.{Text}
use Rattle.meaning_rules.proofs.Worlds.Places.{contains_first, contains_later}
use Rattle.meaning_rules.specs.Naming.{Part, part, parts_of_value}
use Rattle.meaning_evaluation.specs.Named.{ModuleRow}
use Rattle.just_meaning.specs.Rows.{is_any, is_true, module_row, setting_named, settled_text, settled_value, settled_words, text_or_empty}

-- what a setting says, in each form that is asked for
pub record Said : Type 0 where
  pub on : Bool
  pub value : Value
  pub any : Bool
  pub text : Option Text
  pub words : Option (List Text)

-- what no setting says
abbrev said_none : Said
said_none = record { on = false; value = []; any = false; text = None; words = None }

-- what a setting with the value says, if there is one
abbrev said : (Shape → Value) → Option ValueShape → Said
said settle o = record { on = is_true o; value = settled_value settle o; any = is_any settle (settled_value settle o); text = settled_text settle o; words = settled_words settle o }

-- ---- the same by values that agree

-- what an expression says whose value this is
abbrev said_of : Value → Said
said_of [] = said_none
said_of (text ∷ []) = record { on = false; value = text ∷ []; any = true; text = Some text; words = None }
said_of (text ∷ other ∷ others) = record { on = false; value = text ∷ other ∷ others; any = true; text = None; words = None }

-- an expression says what its value tells
expression_says : (settle : Shape → Value) (e : Shape) (value : Value) → settle e ≡ value → said settle (Some (expression e)) ≡ said_of value
expression_says settle e [] h = rw h refl
expression_says settle e (text ∷ []) h = rw h refl
expression_says settle e (text ∷ other ∷ others) h = rw h refl

module _ (value_of : List AttributeShape → Text → Option Shape) (settle settle' : Shape → Value) where
  -- the values of the expressions agree
  abbrev pub Agree : Option ValueShape → Type 0
  Agree None = Unit {0}
  Agree (Some value) = (p : Part) → Contains (parts_of_value value_of value) p → settle p.said ≡ settle' p.said

  -- their words are the same
  words_same : (es : List Shape) → ((p : Part) → Contains (map (part []) es) p → settle p.said ≡ settle' p.said) → flat_map settle es ≡ flat_map settle' es
  words_same [] agree = refl
  words_same (e ∷ es) agree =
      ap (λ (words : List Text). words ++ flat_map settle es) (agree (part [] e) (contains_first (part [] e) (map (part []) es)))
      ∙ ap (λ (words : List Text). settle' e ++ words) (words_same es (λ p c. agree p (contains_later (part [] e) (map (part []) es) p c)))

  -- so they say the same
  said_same : (o : Option ValueShape) → Agree o → said settle o ≡ said settle' o
  said_same None agree = refl
  said_same (Some (truth b)) agree = refl
  said_same (Some (string s)) agree = refl
  said_same (Some (expression e)) agree =
      expression_says settle e (settle e) refl ∙ ap said_of (agree (part [] e) (contains_first (part [] e) [])) ∙ sym (expression_says settle' e (settle' e) refl)
  said_same (Some (interpreter i)) agree =
      ap (λ (words : List Text). let s : Said = record { on = false; value = []; any = false; text = None; words = Some words } in s) (words_same (i.command ∷ i.arguments) agree)

-- ---- the row

-- the settings that a row rests on
abbrev names : List Text
names =
    codes "working-directory" ∷ codes "shell" ∷ codes "script-interpreter" ∷ codes "guards" ∷ codes "ignore-comments" ∷ codes "quiet" ∷ codes "no-cd" ∷ codes "default-script" ∷ codes "lists" ∷ codes "export"
    ∷ codes "lazy" ∷ codes "share-subsequents" ∷ codes "default-list" ∷ codes "dotenv-load" ∷ codes "dotenv-override" ∷ codes "dotenv-required" ∷ codes "dotenv-filename" ∷ codes "dotenv-path" ∷ codes "dotenv-command" ∷ []

-- what is said at a place of the list, if it has the place
abbrev said_at : List Said → ℕ → Said
said_at [] n = said_none
said_at (s ∷ ss) zero = s
said_at (s ∷ ss) (suc n) = said_at ss n

-- the row of what these say, by the folder that the module starts from
abbrev row_from : Text → Text → List Text → List Said → ModuleRow
row_from start source unexports all = record {
  source = source;
  folder = folder_below start (said_at all 0).text;
  unexports = unexports;
  shell = (said_at all 1).words;
  script_interpreter = (said_at all 2).words;
  guards = (said_at all 3).on;
  ignore_comments = (said_at all 4).on;
  quiet = (said_at all 5).on;
  no_cd = (said_at all 6).on;
  default_script = (said_at all 7).on;
  lists = (said_at all 8).on;
  export = (said_at all 9).on;
  lazy = (said_at all 10).on;
  shares = (said_at all 11).on;
  default_list = (said_at all 12).on;
  request = cond
      (((said_at all 13).on || ((said_at all 14).on || (said_at all 15).on)) || ((said_at all 16).any || ((said_at all 17).any || (said_at all 18).any)))
      (Some (record {
        folder = folder_below start (said_at all 0).text;
        load = (said_at all 13).on;
        filenames = (said_at all 16).value;
        paths = (said_at all 17).value;
        command = (said_at all 18).value;
        overriding = (said_at all 14).on;
        required = (said_at all 15).on;
      }))
      None;
}

-- the folder that a module starts from: the root's where the program works, another's that of its file
abbrev start_of : Text → Text → Bool → Text → Text
start_of base working is_root source = cond is_root working (text_or_empty (parent (join base source)))

-- functions that give the same of each make the same list
map_same : {X Y : Type 0} (f g : X → Y) (xs : List X) → ((x : X) → f x ≡ g x) → map f xs ≡ map g xs
map_same f g [] same = refl
map_same f g (x ∷ xs) same = ap (λ y. y ∷ map f xs) (same x) ∙ ap (λ ys. g x ∷ ys) (map_same f g xs same)

module _ (base working : Text) (is_root : Bool) (source : Text) (unexports : List Text) where
  -- what the settings of these names say
  abbrev all_said : (Shape → Value) → List SetShape → List Said
  all_said settle sets = map (λ name. said settle (setting_named name sets)) names

  -- the row is that of what its settings say
  row_is : (settle : Shape → Value) (sets : List SetShape) → module_row settle base working is_root source unexports sets ≡ row_from (start_of base working is_root source) source unexports (all_said settle sets)
  row_is settle sets = refl

  -- settings with the same values of names, whose expressions have the same values, make the same row
  pub row_same : (value_of : List AttributeShape → Text → Option Shape) (settle settle' : Shape → Value) (sets sets' : List SetShape)
      → ((name : Text) → setting_named name sets ≡ setting_named name sets') → ((name : Text) → Agree value_of settle settle' (setting_named name sets))
      → module_row settle base working is_root source unexports sets ≡ module_row settle' base working is_root source unexports sets'
  row_same value_of settle settle' sets sets' named agree =
      row_is settle sets
      ∙ ap (row_from (start_of base working is_root source) source unexports)
      (map_same (λ name. said settle (setting_named name sets)) (λ name. said settle' (setting_named name sets')) names
      (λ name. said_same value_of settle settle' (setting_named name sets) (agree name) ∙ ap (said settle') (named name)))
      ∙ sym (row_is settle' sets')
