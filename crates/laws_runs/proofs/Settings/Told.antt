-- Settings that are set one after another have what their shapes set.
use Rattle.std.proofs.Common.{◌≡◌, refl, sym, ◌∙◌, ap, subst, Bool, true, false, cond, codes, List, [], ◌∷◌, map, Option, Some, None, ℕ}
use Rattle.std.specs.Prelude.{Contains}
use Rattle.std.specs.List.Sorted.{IsStrictlySortedBy}
use Rattle.std.specs.Option.{option_map}
use Rattle.std.specs.Str.{bytes_eq}
use Rattle.std.proofs.lemmas.Map.Keys.{sorted_head, sorted_tail}
use Rattle.std.proofs.lemmas.Slice.Eq.{bytes_eq-Decides}
use Rattle.tree_attributes.specs.Settings.{ValueShape, expression, truth, value_shape}
use Rattle.tree_attributes.specs.declared.setting.Interpreter.{Interpreter}
use Rattle.tree_attributes.specs.declared.setting.Setting.{Setting}
use Rattle.tree_attributes.specs.declared.setting.Setting.TheVariants.{DotenvCommand, DotenvFilename, DotenvPath, Indentation, MinimumVersion, ScriptInterpreter, Shell, Tempdir, Truth, WindowsShell, WorkingDirectory}
use Rattle.tree_attributes.specs.declared.truth_setting.TruthSetting.{TruthSetting}
use Rattle.tree_attributes.specs.declared.truth_setting.TruthSetting.TheVariants.{AllowDuplicateRecipes, AllowDuplicateVariables, DefaultList, DefaultScript, DotenvLoad, DotenvOverride, DotenvRequired, Export, Fallback, Guards, IgnoreComments, Lazy, Lists, NoCd, NoExitMessage, PositionalArguments, Quiet, ShareSubsequents, Unstable, WindowsPowershell}
use Rattle.tree_expressions.specs.Shape.{Shape, shape_of}
use Rattle.tree_items.specs.Items.{set_shape}
use Rattle.tree_items.specs.declared.set.Set.{Set}
use Rattle.parse_items.specs.Names.{setting_name, truth_name}
use Rattle.modules_compilation.specs.Tables.{text_cmp}
use Rattle.resolve_references.specs.Seen.{Seen, seeing, seen_in_setting}
use Rattle.evaluate_context.specs.Defaults.{defaults}
use Rattle.evaluate_context.specs.declared.settings.Settings.{Settings}
use Rattle.evaluate_expressions.specs.Interpreters.{words_of}
use Rattle.evaluate_variables.specs.SettingValues.{IsSet, with_truth}
use Rattle.meaning_dialogues.specs.Dialogue.{Reading}
use Rattle.meaning_dialogues.specs.Evaluation.{Value}
use Rattle.meaning_rules.specs.Worlds.Given.{Text}
use Rattle.meaning_rules.proofs.Worlds.Places.{contains_first, contains_later}
use Rattle.just_meaning.specs.Rows.{is_true, setting_named, settled_text, settled_value, settled_words}
use Rattle.just_resolve.specs.Settling.{AreSet, all_set, one_set}
use Rattle.laws_runs.specs.Settings.Settled.{AreSettledAs}
use Rattle.laws_runs.proofs.Settings.Ended.{Stands, text_stands, words_stand}
use Rattle.laws_runs.proofs.Settings.Sets.{none_named, set_name}

-- what of settings is told
pub record Told : Type 0 where
  pub shell : Option (List Text)
  pub script_interpreter : Option (List Text)
  pub working_directory : Option Text
  pub dotenv_command : Value
  pub dotenv_filename : Value
  pub dotenv_path : Value
  pub dotenv_load : Bool
  pub dotenv_override : Bool
  pub dotenv_required : Bool
  pub default_list : Bool
  pub default_script : Bool
  pub export : Bool
  pub guards : Bool
  pub ignore_comments : Bool
  pub lazy : Bool
  pub lists : Bool
  pub no_cd : Bool
  pub positional_arguments : Bool
  pub quiet : Bool
  pub share_subsequents : Bool

abbrev words_told : Option (Interpreter (List ℕ)) → Option (List Text)
words_told words = option_map (λ i. i.command ∷ i.arguments.items) words

-- that of these settings
abbrev pub told_by : Settings → Told
told_by s = record {
  shell = words_told s.shell;
  script_interpreter = words_told s.script_interpreter;
  working_directory = s.working_directory;
  dotenv_command = s.dotenv_command;
  dotenv_filename = s.dotenv_filename;
  dotenv_path = s.dotenv_path;
  dotenv_load = s.dotenv_load;
  dotenv_override = s.dotenv_override;
  dotenv_required = s.dotenv_required;
  default_list = s.default_list;
  default_script = s.default_script;
  export = s.export;
  guards = s.guards;
  ignore_comments = s.ignore_comments;
  lazy = s.lazy;
  lists = s.lists;
  no_cd = s.no_cd;
  positional_arguments = s.positional_arguments;
  quiet = s.quiet;
  share_subsequents = s.share_subsequents;
}

module _ (settle : Shape → Value) where
  -- the same with one more that is set
  abbrev pub told_with : Text → ValueShape → Told → Told
  told_with name value t = record {
    shell = cond (bytes_eq name (codes "shell")) (settled_words settle (Some value)) t.shell;
    script_interpreter = cond (bytes_eq name (codes "script-interpreter")) (settled_words settle (Some value)) t.script_interpreter;
    working_directory = cond (bytes_eq name (codes "working-directory")) (settled_text settle (Some value)) t.working_directory;
    dotenv_command = cond (bytes_eq name (codes "dotenv-command")) (settled_value settle (Some value)) t.dotenv_command;
    dotenv_filename = cond (bytes_eq name (codes "dotenv-filename")) (settled_value settle (Some value)) t.dotenv_filename;
    dotenv_path = cond (bytes_eq name (codes "dotenv-path")) (settled_value settle (Some value)) t.dotenv_path;
    dotenv_load = cond (bytes_eq name (codes "dotenv-load")) (is_true (Some value)) t.dotenv_load;
    dotenv_override = cond (bytes_eq name (codes "dotenv-override")) (is_true (Some value)) t.dotenv_override;
    dotenv_required = cond (bytes_eq name (codes "dotenv-required")) (is_true (Some value)) t.dotenv_required;
    default_list = cond (bytes_eq name (codes "default-list")) (is_true (Some value)) t.default_list;
    default_script = cond (bytes_eq name (codes "default-script")) (is_true (Some value)) t.default_script;
    export = cond (bytes_eq name (codes "export")) (is_true (Some value)) t.export;
    guards = cond (bytes_eq name (codes "guards")) (is_true (Some value)) t.guards;
    ignore_comments = cond (bytes_eq name (codes "ignore-comments")) (is_true (Some value)) t.ignore_comments;
    lazy = cond (bytes_eq name (codes "lazy")) (is_true (Some value)) t.lazy;
    lists = cond (bytes_eq name (codes "lists")) (is_true (Some value)) t.lists;
    no_cd = cond (bytes_eq name (codes "no-cd")) (is_true (Some value)) t.no_cd;
    positional_arguments = cond (bytes_eq name (codes "positional-arguments")) (is_true (Some value)) t.positional_arguments;
    quiet = cond (bytes_eq name (codes "quiet")) (is_true (Some value)) t.quiet;
    share_subsequents = cond (bytes_eq name (codes "share-subsequents")) (is_true (Some value)) t.share_subsequents;
  }

module _ (reading : Reading) (lists : Bool) (settle : Shape → Value) where
  abbrev AllStand : Setting → Type 0
  AllStand setting = (s : Seen) → Contains (seen_in_setting setting) s → Stands reading lists settle s.expression

  -- a truth value that is set changes what is told so
  told_truth : (which : TruthSetting) (b : Bool) (old : Settings) → told_by (with_truth which b old) ≡ told_with settle (truth_name which) (truth b) (told_by old)
  told_truth AllowDuplicateRecipes b old = refl
  told_truth AllowDuplicateVariables b old = refl
  told_truth DefaultList b old = refl
  told_truth DefaultScript b old = refl
  told_truth DotenvLoad b old = refl
  told_truth DotenvOverride b old = refl
  told_truth DotenvRequired b old = refl
  told_truth Export b old = refl
  told_truth Fallback b old = refl
  told_truth Guards b old = refl
  told_truth IgnoreComments b old = refl
  told_truth Lazy b old = refl
  told_truth Lists b old = refl
  told_truth NoCd b old = refl
  told_truth NoExitMessage b old = refl
  told_truth PositionalArguments b old = refl
  told_truth Quiet b old = refl
  told_truth ShareSubsequents b old = refl
  told_truth Unstable b old = refl
  told_truth WindowsPowershell b old = refl

  -- a setting that is set changes what is told so
  told_step : (name : List ℕ) (setting : Setting) → AllStand setting → (old new : Settings) → IsSet reading lists name setting old new → told_by new ≡ told_with settle (setting_name setting) (value_shape setting) (told_by old)
  told_step name (Truth which b) stand old new h = ap told_by h ∙ told_truth which b old
  told_step name (DotenvCommand e) stand old new h = ap told_by h.2 ∙ ap (λ (value : Value). told_by (record old { dotenv_command = value })) (sym (stand (seeing [] e) (contains_first (seeing [] e) []) h.0 h.1))
  told_step name (DotenvFilename e) stand old new h = ap told_by h.2 ∙ ap (λ (value : Value). told_by (record old { dotenv_filename = value })) (sym (stand (seeing [] e) (contains_first (seeing [] e) []) h.0 h.1))
  told_step name (DotenvPath e) stand old new h = ap told_by h.2 ∙ ap (λ (value : Value). told_by (record old { dotenv_path = value })) (sym (stand (seeing [] e) (contains_first (seeing [] e) []) h.0 h.1))
  told_step name (Indentation s) stand old new h = ap told_by h.1
  told_step name (MinimumVersion s) stand old new h = ap told_by h
  told_step name (ScriptInterpreter i) stand old new h = ap told_by h.2 ∙ ap (λ (words : List Text). record (told_by old) { script_interpreter = Some words }) (sym (words_stand reading lists settle name i (words_of h.0) stand h.1))
  told_step name (Shell i) stand old new h = ap told_by h.2 ∙ ap (λ (words : List Text). record (told_by old) { shell = Some words }) (sym (words_stand reading lists settle name i (words_of h.0) stand h.1))
  told_step name (Tempdir e) stand old new h = ap told_by h.2
  told_step name (WindowsShell i) stand old new h = ap told_by h.2
  told_step name (WorkingDirectory e) stand old new h =
      let text = text_stands reading lists settle name e h.0 (stand (seeing [] e) (contains_first (seeing [] e) [])) h.1 in
      ap told_by h.2 ∙ ap (λ (value : Value). told_by (record old { working_directory = settled_text (λ s. value) (Some (expression (shape_of e))) })) (sym text)

  -- of settings that are set one after another, whose names are their settings' and rise, with what stands for their expressions
  pub record AreTold (sets : List Set) : Type 0 where
    pub sorted : IsStrictlySortedBy text_cmp (map set_name sets)
    pub named : (s : Set) → Contains sets s → setting_name s.value ≡ set_name s
    pub stand : (s : Set) → Contains sets s → AllStand s.value

  step_at : (sets : List Set) → AreTold sets → (s : Set) → Contains sets s → (old new : Settings) → IsSet reading lists (set_name s) s.value old new → told_by new ≡ told_with settle (set_name s) (value_shape s.value) (told_by old)
  step_at sets told s c old new h = subst (λ name. told_by new ≡ told_with settle name (value_shape s.value) (told_by old)) (told.named s c) (told_step (set_name s) s.value (told.stand s c) old new h)

  -- what is given where something is, else what was before
  abbrev over : {X : Type 0} → (Option ValueShape → X) → Option ValueShape → X → X
  over given None x = x
  over given (Some value) x = given (Some value)

  module _ {X : Type 0} (name : Text) (given : Option ValueShape → X) (of : Told → X) where
    -- a field is changed by the setting of its name alone
    abbrev IsChanged : Type 0
    IsChanged = (other : Text) (value : ValueShape) (t : Told) → of (told_with settle other value t) ≡ cond (bytes_eq other name) (given (Some value)) (of t)

    field_over : IsChanged → (sets : List Set) (old new : Settings) → AreSet reading lists sets old new → AreTold sets → of (told_by new) ≡ over given (setting_named name (map set_shape sets)) (of (told_by old))
    field_over changed _ _ _ all_set told = refl
    field_over changed _ _ _ (one_set {set} {sets} {old} {between} {new} one rest) told =
        let later : AreTold sets = record {
          sorted = sorted_tail text_cmp (set_name set) (map set_name sets) told.sorted;
          named = λ s c. told.named s (contains_later set sets s c);
          stand = λ s c. told.stand s (contains_later set sets s c);
        } in
        by_test (bytes_eq (set_name set) name) refl (field_over changed sets between new rest later)
      where
        first : of (told_by between) ≡ cond (bytes_eq (set_name set) name) (given (Some (value_shape set.value))) (of (told_by old))
        first = ap of (step_at (set ∷ sets) told set (contains_first set sets) old between one) ∙ changed (set_name set) (value_shape set.value) (told_by old)

        by_test : (b : Bool) → bytes_eq (set_name set) name ≡ b → of (told_by new) ≡ over given (setting_named name (map set_shape sets)) (of (told_by between))
            → of (told_by new) ≡ over given (cond b (Some (value_shape set.value)) (setting_named name (map set_shape sets))) (of (told_by old))
        by_test true is later =
            let none : setting_named (set_name set) (map set_shape sets) ≡ None = none_named (set_name set) sets (sorted_head text_cmp (set_name set) (map set_name sets) told.sorted) in
            let unset : setting_named name (map set_shape sets) ≡ None = subst (λ n. setting_named n (map set_shape sets) ≡ None) ((bytes_eq-Decides (set_name set) name).0 is) none in
            later ∙ ap (λ o. over given o (of (told_by between))) unset ∙ first ∙ ap (λ b. cond b (given (Some (value_shape set.value))) (of (told_by old))) is
        by_test false is later =
            let kept : of (told_by between) ≡ of (told_by old) = first ∙ ap (λ b. cond b (given (Some (value_shape set.value))) (of (told_by old))) is in
            later ∙ ap (λ x. over given (setting_named name (map set_shape sets)) x) kept

    over_none : (o : Option ValueShape) → given o ≡ over given o (given None)
    over_none None = refl
    over_none (Some value) = refl

    field_told : IsChanged → of (told_by defaults) ≡ given None → (sets : List Set) (settings : Settings) → AreSet reading lists sets defaults settings → AreTold sets → given (setting_named name (map set_shape sets)) ≡ of (told_by settings)
    field_told changed none sets settings set told =
        let o = setting_named name (map set_shape sets) in
        over_none o ∙ ap (λ x. over given o x) (sym none) ∙ sym (field_over changed sets defaults settings set told)

  -- settings that are set from the defaults have what the shapes of the items set
  pub settled_as : (sets : List Set) (settings : Settings) → AreSet reading lists sets defaults settings → AreTold sets → AreSettledAs settle (map set_shape sets) settings
  settled_as sets settings set told = record {
    shell = field_told (codes "shell") (settled_words settle) (λ t. t.shell) (λ other value t. refl) refl sets settings set told;
    script_interpreter = field_told (codes "script-interpreter") (settled_words settle) (λ t. t.script_interpreter) (λ other value t. refl) refl sets settings set told;
    working_directory = field_told (codes "working-directory") (settled_text settle) (λ t. t.working_directory) (λ other value t. refl) refl sets settings set told;
    dotenv_command = field_told (codes "dotenv-command") (settled_value settle) (λ t. t.dotenv_command) (λ other value t. refl) refl sets settings set told;
    dotenv_filename = field_told (codes "dotenv-filename") (settled_value settle) (λ t. t.dotenv_filename) (λ other value t. refl) refl sets settings set told;
    dotenv_path = field_told (codes "dotenv-path") (settled_value settle) (λ t. t.dotenv_path) (λ other value t. refl) refl sets settings set told;
    dotenv_load = field_told (codes "dotenv-load") is_true (λ t. t.dotenv_load) (λ other value t. refl) refl sets settings set told;
    dotenv_override = field_told (codes "dotenv-override") is_true (λ t. t.dotenv_override) (λ other value t. refl) refl sets settings set told;
    dotenv_required = field_told (codes "dotenv-required") is_true (λ t. t.dotenv_required) (λ other value t. refl) refl sets settings set told;
    default_list = field_told (codes "default-list") is_true (λ t. t.default_list) (λ other value t. refl) refl sets settings set told;
    default_script = field_told (codes "default-script") is_true (λ t. t.default_script) (λ other value t. refl) refl sets settings set told;
    export = field_told (codes "export") is_true (λ t. t.export) (λ other value t. refl) refl sets settings set told;
    guards = field_told (codes "guards") is_true (λ t. t.guards) (λ other value t. refl) refl sets settings set told;
    ignore_comments = field_told (codes "ignore-comments") is_true (λ t. t.ignore_comments) (λ other value t. refl) refl sets settings set told;
    lazy = field_told (codes "lazy") is_true (λ t. t.lazy) (λ other value t. refl) refl sets settings set told;
    lists = field_told (codes "lists") is_true (λ t. t.lists) (λ other value t. refl) refl sets settings set told;
    no_cd = field_told (codes "no-cd") is_true (λ t. t.no_cd) (λ other value t. refl) refl sets settings set told;
    positional_arguments = field_told (codes "positional-arguments") is_true (λ t. t.positional_arguments) (λ other value t. refl) refl sets settings set told;
    quiet = field_told (codes "quiet") is_true (λ t. t.quiet) (λ other value t. refl) refl sets settings set told;
    share_subsequents = field_told (codes "share-subsequents") is_true (λ t. t.share_subsequents) (λ other value t. refl) refl sets settings set told;
  }
