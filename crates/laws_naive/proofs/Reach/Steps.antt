-- What a call of a recipe does is the same over functions of which those are the same that the recipe calls.
use Rattle.std.proofs.Common.{◌≡◌, ℕ, suc, ◌==◌, List, [], ◌∷◌, ◌++◌, map, length, Bool, true, false, not, ◌&&◌, ◌||◌, cond, if◌then◌else◌, codes, Option, Some, None, Ok, Err, refl, ap, ap₂, ◌∙◌, drop}
use Rattle.std.proofs.Math.Path.{fun_ext}
use Rattle.std.specs.Prelude.{slice_get}
use Rattle.std.specs.Option.{is_some, option_map}
use Rattle.std.specs.List.{AllByRecursion, flat_map, onto_first}
use Rattle.tree_expressions.specs.Shape.{Shape}
use Rattle.tree_attributes.specs.Settings.{InterpreterShape}
use Rattle.tree_items.specs.Lines.{Piece, no_sigils, sigil_count, is_comment, text, interpolation}
use Rattle.tree_items.specs.Recipes.{ArgumentShape}
use Rattle.tree_items.specs.declared.line.Sigils.{Sigils}
use Rattle.just_host.specs.declared.job.Pair.{Pair}
use Rattle.just_value.specs.Values.{joined}
use Rattle.evaluate_context.specs.Surroundings.{by_name}
use Rattle.meaning_dialogues.specs.Faults.{env_key, internal}
use Rattle.meaning_dialogues.specs.Dialogue.{Dialogue, Ends, ◌>>=◌}
use Rattle.meaning_dialogues.specs.Evaluation.{Value, dialogue, row, text_dialogue, interpreter_dialogue}
use Rattle.meaning_dialogues.specs.Written.{numbered, unnumbered}
use Rattle.meaning_dialogues.specs.Calls.{Frame, empty, bound as bound_frame}
use Rattle.meaning_evaluation.specs.Stages.Lines.{piece_dialogue, line_dialogue}
use Rattle.meaning_evaluation.specs.Stages.Parameters.{Formal, Bound, under, bound_value, pair_of, given_dialogue, default_dialogue, parameter_dialogue, counted, values_dialogue, env_dialogue}
use Rattle.meaning_runs.specs.Task.{Task, ends, confirms, hands, script, lift}
use Rattle.meaning_runs.specs.Task as tasks
use Rattle.meaning_runs.specs.Failures.{confirmed, Next, goes_on, stops, next_by}
use Rattle.meaning_evaluation.specs.Named.{Call, ParameterRow, DependencyRow, RecipeRow, ModuleRow, RecipeName, FunctionRow, Definitions}
use Rattle.meaning_evaluation.specs.Scopes.{Configuration, Scene, defined_in, piece_in, may_count, parameter_names, around, standing, stage_at, body_stage, term, free_term, formal_in, formals_from, formals, binding, frame_of, own_pairs, valued}
use Rattle.meaning_evaluation.specs.Groups.{grouped, parameters_of, call_of, rows_of, each, brings, block}
use Rattle.meaning_evaluation.specs.Bodies.{goes_on_below, without_last, commands, in_lines, line_text, command_text, first_words, has_shebang, interpreter, script_job, is_script, first_of, closed_if, cut, shows_line, shows_script, marks_of}
use Rattle.meaning_evaluation.specs.Calling.{without_next, shown_if, confirming, head_task, block_calls, handing, running, one_command, and_others, lines_task, script_handed, body_by, body_task}
use Rattle.just_meaning.specs.Reading.{in_piece, in_interpreter}
use Rattle.laws_agreement.proofs.Agreement.Lists.{all_left, all_right, all_flat_back}
use Rattle.laws_naive.proofs.Reach.Reached.{SameCalls}
use Rattle.laws_naive.proofs.Reach.Functions.{same_expression}

module _ (c : Configuration) (path : List (List ℕ)) (row' : ModuleRow) (dotenv out : List Pair) (rows rows' : List FunctionRow) (name : List ℕ) (recipe : RecipeRow) (flag : Bool) where
  -- the module as its recipes see it, with these functions
  abbrev pub scene_with : List FunctionRow → Scene
  scene_with functions = record { path = path; row = row'; functions = map (defined_in c.expansion) functions; dotenv = dotenv; exported = out }

  abbrev s : Scene
  s = scene_with rows

  abbrev s' : Scene
  s' = scene_with rows'

  -- an expression that calls the same functions
  abbrev pub Fixed : Shape → Type 0
  Fixed e = (hidden : List (List ℕ)) × SameCalls rows rows' e hidden

  -- ---- expressions

  same_term : (own env : List Pair) (e : Shape) → Fixed e → dialogue (stage_at c s name recipe flag own env) (term c s name recipe flag e) ≡ dialogue (stage_at c s' name recipe flag own env) (term c s' name recipe flag e)
  same_term own env e h = same_expression c.expansion rows rows' (around c s name recipe flag) (standing c s name recipe flag [] []) _ (standing c s name recipe flag own env) recipe.file (numbered (parameter_names recipe)) e h.0 h.1

  same_free : (own env : List Pair) (e : Shape) → Fixed e → dialogue (stage_at c s name recipe flag own env) (free_term c s name recipe flag e) ≡ dialogue (stage_at c s' name recipe flag own env) (free_term c s' name recipe flag e)
  same_free own env e h = same_expression c.expansion rows rows' (around c s name recipe flag) (standing c s name recipe flag [] []) _ (standing c s name recipe flag own env) recipe.file unnumbered e h.0 h.1

  same_valued : (b : Bound) (e : Shape) → Fixed e → valued c s name recipe flag b e ≡ valued c s' name recipe flag b e
  same_valued b e h = ap (under (frame_of c s name recipe flag b)) (same_term (own_pairs c s name recipe flag b) b.env e h)

  -- ---- the binding

  same_env : (so_far : List Pair) (pairs : List (Shape × Shape)) → AllByRecursion (λ pair. Fixed pair.0 × Fixed pair.1) pairs
      → env_dialogue (stage_at c s name recipe flag []) so_far (map (λ pair. (free_term c s name recipe flag pair.0, free_term c s name recipe flag pair.1)) pairs)
      ≡ env_dialogue (stage_at c s' name recipe flag []) so_far (map (λ pair. (free_term c s' name recipe flag pair.0, free_term c s' name recipe flag pair.1)) pairs)
  same_env so_far [] h = refl
  same_env so_far ((k, v) ∷ pairs) h =
      ap₂ (λ d next. text_dialogue env_key d >>= next) (same_free [] so_far k h.0.0) (fun_ext (λ key. ap₂ (λ d next. d >>= next) (same_free [] so_far v h.0.1) (fun_ext (λ given. same_env (so_far ++ pair_of key given) pairs h.1))))

  -- what a parameter evaluates calls the same functions
  pub record IsFixed (p : ParameterRow) : Type 0 where
    pub default : (e : Shape) → p.default ≡ Some e → Fixed e
    pub value : (e : Shape) → p.value ≡ Some e → Fixed e

  module _ (env : List Pair) (check : Formal → ℕ → Bool) (lists : Bool) where
    same_default : (formal : Formal) (o : Option Shape) → ((e : Shape) → o ≡ Some e → Fixed e)
        → default_dialogue (stage_at c s name recipe flag [] env) flag name formal (option_map (term c s name recipe flag) o) ≡ default_dialogue (stage_at c s' name recipe flag [] env) flag name formal (option_map (term c s' name recipe flag) o)
    same_default formal None h = refl
    same_default formal (Some e) h = same_term [] env e (h e refl)

    same_given : (group : Value) (o : Option Shape) (b : Bool) → ((e : Shape) → o ≡ Some e → Fixed e)
        → given_dialogue (stage_at c s name recipe flag [] env) flag name group (option_map (term c s name recipe flag) o) b ≡ given_dialogue (stage_at c s' name recipe flag [] env) flag name group (option_map (term c s' name recipe flag) o) b
    same_given group None b h = refl
    same_given group (Some e) true h = refl
    same_given group (Some e) false h = ap (λ d. d >>= λ value. Ends (Ok (flat_map (λ part. value) group))) (same_term [] env e (h e refl))

    same_parameter : (n : ℕ) (p : ParameterRow) (group : Value) → IsFixed p
        → parameter_dialogue (stage_at c s name recipe flag [] env) flag name (formal_in c s name recipe flag n p) group ≡ parameter_dialogue (stage_at c s' name recipe flag [] env) flag name (formal_in c s' name recipe flag n p) group
    same_parameter n p [] h = same_default (formal_in c s name recipe flag n p) p.default h.default
    same_parameter n p (part ∷ parts) h = same_given (part ∷ parts) p.value flag h.value

    same_values : (ps : List ParameterRow) (n : ℕ) (frame : Frame) (groups : List Value) → AllByRecursion IsFixed ps
        → values_dialogue (stage_at c s name recipe flag [] env) flag name check lists frame (formals_from c s name recipe flag n ps) groups ≡ values_dialogue (stage_at c s' name recipe flag [] env) flag name check lists frame (formals_from c s' name recipe flag n ps) groups
    same_values [] n frame groups h = refl
    same_values (p ∷ ps) n frame [] h = refl
    same_values (p ∷ ps) n frame (group ∷ groups) h =
        ap₂ (λ d next. under frame d >>= next) (same_parameter n p group h.0)
        (fun_ext (λ given. ap (λ next. Ends (counted (stage_at c s name recipe flag [] env) flag name check (formal_in c s name recipe flag n p) given) >>= next)
        (fun_ext (λ v. ap (λ d. d >>= λ values. Ends (Ok (v ∷ values))) (same_values ps (suc n) (bound_frame frame n (bound_value lists v)) groups h.1)))))

  same_binding : (groups : List Value) → AllByRecursion IsFixed recipe.parameters → AllByRecursion (λ pair. Fixed pair.0 × Fixed pair.1) recipe.env → binding c s name recipe flag groups ≡ binding c s' name recipe flag groups
  same_binding groups h k =
      ap₂ (λ d next. d >>= next) (same_env [] recipe.env k)
      (fun_ext (λ env. ap (λ d. (if length groups == length (formals c s name recipe flag) then d else Ends (Err (internal (codes "arguments do not match parameter count")))) >>= λ values. Ends (Ok (let b : Bound = record { env = by_name env; values = values } in b)))
      (same_values env (λ formal n. may_count (slice_get recipe.parameters formal.number) n) row'.lists recipe.parameters 0 empty groups h)))

  -- ---- the head

  same_confirming : (yes : Bool) (o : Option (Option Shape)) (b : Bound) → ((e : Shape) → o ≡ Some (Some e) → Fixed e) → confirming c s name recipe flag yes o b ≡ confirming c s' name recipe flag yes o b
  same_confirming true o b h = refl
  same_confirming false None b h = refl
  same_confirming false (Some None) b h = refl
  same_confirming false (Some (Some e)) b h = ap (λ d. tasks.◌>>=◌ (tasks.◌>>=◌ (lift d) (λ texts. ends (Ok (joined texts)))) (λ words. confirms words (λ answer. ends (confirmed name answer)))) (same_valued b e (h e refl))

  -- The head is the same.
  pub same_head : (groups : List Value) → AllByRecursion IsFixed recipe.parameters → AllByRecursion (λ pair. Fixed pair.0 × Fixed pair.1) recipe.env → ((e : Shape) → recipe.confirm ≡ Some (Some e) → Fixed e) → head_task c s name recipe flag groups ≡ head_task c s' name recipe flag groups
  same_head groups h k l =
      ap₂ (λ d next. tasks.◌>>=◌ (lift d) next) (same_binding groups h k) (fun_ext (λ b. ap (λ t. tasks.◌>>=◌ t (λ u. ends (Ok b))) (same_confirming c.yes recipe.confirm b l)))

  -- ---- blocks

  module _ (b : Bound) where
    abbrev argued : Scene → ArgumentShape → Dialogue Value
    argued scene argument = valued c scene name recipe flag b argument.expression

    same_arguments : (as' : List ArgumentShape) → AllByRecursion (λ a. Fixed a.expression) as' → map (argued s) as' ≡ map (argued s') as'
    same_arguments [] h = refl
    same_arguments (a ∷ as') h = ap₂ ◌∷◌ (same_valued b a.expression h.0) (same_arguments as' h.1)

    module _ (first second : Definitions) where
      -- a dependency whose arguments call the same functions, on a recipe that is the same
      abbrev pub FixedRow : DependencyRow → Type 0
      FixedRow d = AllByRecursion (λ a. Fixed a.expression) d.arguments × (first.recipe d.on ≡ second.recipe d.on)

      same_call_of : (on : RecipeName) → first.recipe on ≡ second.recipe on → (values : List Value) → call_of first on values ≡ call_of second on values
      same_call_of on e values = ap (λ o. let call : Call = record { recipe = on; groups = grouped (parameters_of o) values } in call) e

      same_brings : (ds : List DependencyRow) → AllByRecursion FixedRow ds → map (brings first (argued s)) ds ≡ map (brings second (argued s')) ds
      same_brings [] h = refl
      same_brings (d ∷ ds) h =
          ap₂ ◌∷◌ (ap₂ (λ vs f. row vs >>= λ values. Ends (Ok (map f (rows_of d.arguments values)))) (same_arguments d.arguments h.0.0) (fun_ext (same_call_of d.on h.0.1))) (same_brings ds h.1)

      same_block_by : (leaves_out : Bool) (ds : List DependencyRow) → (leaves_out ≡ false → AllByRecursion FixedRow ds) → block leaves_out first (argued s) ds ≡ block leaves_out second (argued s') ds
      same_block_by true ds h = refl
      same_block_by false ds h = ap (λ calls. each calls >>= λ cs. Ends (Ok (flat_map (λ xs. xs) cs))) (same_brings ds (h refl))

      -- A block is the same.
      pub same_block : (ds : List DependencyRow) → (c.no_dependencies ≡ false → AllByRecursion FixedRow ds) → block_calls c s name recipe flag first b ds ≡ block_calls c s' name recipe flag second b ds
      same_block ds h = same_block_by c.no_dependencies ds h

    -- ---- the body

    same_piece : (continued : Bool) (piece : Piece) → AllByRecursion Fixed (in_piece piece)
        → piece_dialogue (body_stage c s name recipe flag b) continued (piece_in c.expansion recipe.file (numbered (parameter_names recipe)) piece) ≡ piece_dialogue (body_stage c s' name recipe flag b) continued (piece_in c.expansion recipe.file (numbered (parameter_names recipe)) piece)
    same_piece continued (text t) h = refl
    same_piece continued (interpolation e) h = ap (λ d. d >>= λ value. Ends (Ok (joined value))) (same_term (own_pairs c s name recipe flag b) b.env e h.0)

    same_pieces : (continued : Bool) (so_far : List ℕ) (line : List Piece) → AllByRecursion Fixed (flat_map in_piece line)
        → line_dialogue (body_stage c s name recipe flag b) continued so_far (map (piece_in c.expansion recipe.file (numbered (parameter_names recipe))) line) ≡ line_dialogue (body_stage c s' name recipe flag b) continued so_far (map (piece_in c.expansion recipe.file (numbered (parameter_names recipe))) line)
    same_pieces continued so_far [] h = refl
    same_pieces continued so_far (piece ∷ line) h =
        ap₂ (λ d next. d >>= next) (same_piece continued piece (all_left Fixed (in_piece piece) (flat_map in_piece line) h)) (fun_ext (λ more. same_pieces false (so_far ++ more) line (all_right Fixed (in_piece piece) (flat_map in_piece line) h)))

    -- a line whose expressions call the same functions
    abbrev pub FixedLine : List Piece → Type 0
    FixedLine line = AllByRecursion Fixed (flat_map in_piece line)

    same_line : (continued : Bool) (line : List Piece) → FixedLine line → line_text c s name recipe flag b continued line ≡ line_text c s' name recipe flag b continued line
    same_line continued line h = ap (under (frame_of c s name recipe flag b)) (same_pieces continued [] line h)

    same_command : (continued : Bool) (lines : List (List Piece)) → AllByRecursion FixedLine lines → command_text c s name recipe flag b continued lines ≡ command_text c s' name recipe flag b continued lines
    same_command continued [] h = refl
    same_command continued (line ∷ lines) h =
        ap₂ (λ d e. d >>= λ t. e >>= λ more. Ends (Ok ((if goes_on_below line then without_last t else t) ++ more))) (same_line continued line h.0) (same_command true lines h.1)

    same_handing : (dry : Bool) (sigils : Sigils) (command : List ℕ) → handing c s name recipe flag b dry sigils command ≡ handing c s' name recipe flag b dry sigils command
    same_handing true sigils command = refl
    same_handing false sigils command = refl

    same_running : (sigils : Sigils) (t : List ℕ) → running c s name recipe flag b sigils t ≡ running c s' name recipe flag b sigils t
    same_running sigils [] = refl
    same_running sigils (x ∷ xs) = ap (shown_if (shows_line c s name recipe flag b sigils) (x ∷ xs)) (same_handing c.dry_run sigils (x ∷ xs))

    same_others : {first second : Task (Unit {0})} → first ≡ second → (next : Next) → and_others c s name recipe flag b first next ≡ and_others c s' name recipe flag b second next
    same_others e goes_on = e
    same_others e stops = refl

    same_marks : (command : List (List Piece)) → marks_of c s name recipe flag b command ≡ marks_of c s' name recipe flag b command
    same_marks [] = refl
    same_marks (line ∷ lines) = refl

    same_one : (command : List (List Piece)) → AllByRecursion FixedLine command → one_command c s name recipe flag b command ≡ one_command c s' name recipe flag b command
    same_one command h =
        ap₂ (λ d next. tasks.◌>>=◌ (lift d) next) (same_command false command h)
        (fun_ext (λ t. same_running (marks_of c s name recipe flag b command) (drop (sigil_count (marks_of c s name recipe flag b command)) t) ∙ ap (λ m. running c s' name recipe flag b m (drop (sigil_count m) t)) (same_marks command)))

    same_lines : (groups : List (List (List Piece))) → AllByRecursion (AllByRecursion FixedLine) groups → lines_task c s name recipe flag b groups ≡ lines_task c s' name recipe flag b groups
    same_lines [] h = refl
    same_lines (command ∷ others) h = ap₂ (λ t next. tasks.◌>>=◌ t next) (same_one command h.0) (fun_ext (same_others (same_lines others h.1)))

    same_shebang : (lines : List (List Piece)) → has_shebang c s name recipe flag b lines ≡ has_shebang c s' name recipe flag b lines
    same_shebang [] = refl
    same_shebang (line ∷ lines) = refl

    same_words : (is : Bool) (texts : List (List ℕ)) → first_words c s name recipe flag b is texts ≡ first_words c s' name recipe flag b is texts
    same_words true [] = refl
    same_words true (t ∷ ts) = refl
    same_words false texts = refl

    same_first : (texts : List (List ℕ)) → first_words c s name recipe flag b (has_shebang c s name recipe flag b recipe.body) texts ≡ first_words c s' name recipe flag b (has_shebang c s' name recipe flag b recipe.body) texts
    same_first texts = same_words (has_shebang c s name recipe flag b recipe.body) texts ∙ ap (λ is. first_words c s' name recipe flag b is texts) (same_shebang recipe.body)

    same_all : (es : List Shape) → AllByRecursion Fixed es → map (valued c s name recipe flag b) es ≡ map (valued c s' name recipe flag b) es
    same_all [] h = refl
    same_all (e ∷ es) h = ap₂ ◌∷◌ (same_valued b e h.0) (same_all es h.1)

    same_interpreter : (o : Option (Option InterpreterShape)) (texts : List (List ℕ)) → AllByRecursion Fixed (in_interpreter o) → interpreter c s name recipe flag b o texts ≡ interpreter c s' name recipe flag b o texts
    same_interpreter (Some (Some shape)) texts h =
        ap (λ ds. interpreter_dialogue (codes "script") ds >>= λ words. Ends (Ok (words.0 ∷ words.1))) (ap₂ ◌∷◌ (same_valued b shape.command h.0) (same_all shape.arguments h.1))
    same_interpreter (Some None) texts h = ap (λ words. Ends (Ok words)) (same_first texts)
    same_interpreter None texts h = ap (λ words. Ends (Ok words)) (same_first texts)

    same_script : (dry : Bool) (texts : List (List ℕ)) → AllByRecursion Fixed (in_interpreter recipe.script) → script_handed c s name recipe flag b dry texts ≡ script_handed c s' name recipe flag b dry texts
    same_script true texts h = refl
    same_script false texts h = ap (λ d. tasks.◌>>=◌ (lift d) (λ words. hands (script (script_job c s name recipe flag b words texts)) (λ status. ends (without_next (next_by name no_sigils status))))) (same_interpreter recipe.script texts h)

    same_texts : (lines : List (List Piece)) → AllByRecursion FixedLine lines → map (line_text c s name recipe flag b false) lines ≡ map (line_text c s' name recipe flag b false) lines
    same_texts [] h = refl
    same_texts (line ∷ lines) h = ap₂ ◌∷◌ (same_line false line h.0) (same_texts lines h.1)

    -- ---- the lines of commands are the body's

    closed_all : (is : Bool) (others : List (List (List Piece))) → AllByRecursion (AllByRecursion FixedLine) others → AllByRecursion (AllByRecursion FixedLine) (closed_if is others)
    closed_all true others h = (tt, h)
    closed_all false others h = h

    onto_all : (line : List Piece) (groups : List (List (List Piece))) → FixedLine line → AllByRecursion (AllByRecursion FixedLine) groups → AllByRecursion (AllByRecursion FixedLine) (onto_first line groups)
    onto_all line [] h k = ((h, tt), tt)
    onto_all line (group ∷ groups) h k = ((h, k.0), k.1)

    cond_all : (is : Bool) (xs ys : List (List (List Piece))) → AllByRecursion (AllByRecursion FixedLine) xs → AllByRecursion (AllByRecursion FixedLine) ys → AllByRecursion (AllByRecursion FixedLine) (cond is xs ys)
    cond_all true xs ys h k = h
    cond_all false xs ys h k = k

    cut_all : (skips inside : Bool) (lines : List (List Piece)) → AllByRecursion FixedLine lines → AllByRecursion (AllByRecursion FixedLine) (cut skips inside lines)
    cut_all skips inside [] h = closed_all inside [] tt
    cut_all skips inside (line ∷ lines) h =
        cond_all (not inside && (skips && is_comment (first_of line))) (cut skips false lines) (onto_first line (closed_if (not (goes_on_below line)) (cut skips (goes_on_below line) lines))) (cut_all skips false lines h.1)
        (onto_all line (closed_if (not (goes_on_below line)) (cut skips (goes_on_below line) lines)) h.0 (closed_all (not (goes_on_below line)) (cut skips (goes_on_below line) lines) (cut_all skips (goes_on_below line) lines h.1)))

    same_by : (is : Bool) → AllByRecursion Fixed (in_interpreter recipe.script) → AllByRecursion FixedLine recipe.body → body_by c s name recipe flag b is ≡ body_by c s' name recipe flag b is
    same_by true h k =
        ap₂ (λ d next. tasks.◌>>=◌ (lift d) next) (ap each (same_texts recipe.body k)) (fun_ext (λ texts. ap (shown_if (shows_script c s name recipe flag b) (in_lines texts)) (same_script c.dry_run texts h)))
    same_by false h k = same_lines (commands row'.ignore_comments recipe.body) (cut_all row'.ignore_comments false recipe.body k)

    same_kind : is_script c s name recipe flag b ≡ is_script c s' name recipe flag b
    same_kind = ap (λ is. (is_some recipe.script || row'.default_script) || is) (same_shebang recipe.body)

    -- The body is the same.
    pub same_body : AllByRecursion Fixed (in_interpreter recipe.script) → AllByRecursion Fixed (flat_map (flat_map in_piece) recipe.body) → body_task c s name recipe flag b ≡ body_task c s' name recipe flag b
    same_body h k = same_by (is_script c s name recipe flag b) h (all_flat_back Fixed (flat_map in_piece) recipe.body k) ∙ ap (body_by c s' name recipe flag b) same_kind
