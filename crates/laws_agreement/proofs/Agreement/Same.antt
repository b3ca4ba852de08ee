-- What is evaluated for a dependency and for another call is the same, where nothing asks for the difference.
use Rattle.std.proofs.Common.{◌≡◌, ℕ, zero, suc, List, [], ◌∷◌, ◌++◌, map, Bool, true, false, not, ◌||◌, ◌&&◌, cond, if◌then◌else◌, codes, Option, Some, None, Ok, Err, refl, sym, ap, ap₂, ◌∙◌, subst}
use Rattle.std.proofs.Math.Path.{fun_ext}
use Rattle.std.proofs.lemmas.Slice.Eq.{bytes_eq-Decides}
use Rattle.std.specs.Prelude.{Contains}
use Rattle.std.specs.Option.{option_map}
use Rattle.std.specs.List.{flat_map, list_all}
use Rattle.std.specs.Str.{bytes_eq}
use Rattle.tree_expressions.specs.Shape.{Shape}
use Rattle.parse_expressions.specs.Literals.{Expansion}
use Rattle.just_host.specs.declared.job.Pair.{Pair}
use Rattle.just_value.specs.Values.{joined}
use Rattle.evaluate_context.specs.Surroundings.{Surroundings, Standing}
use Rattle.evaluate_functions.specs.Arguments.{takes_text}
use Rattle.evaluate_functions.specs.Functions.{pure}
use Rattle.evaluate_functions.specs.Names.{function_names, row_with, function_of}
use Rattle.evaluate_functions.specs.declared.function.Function.{Function}
use Rattle.evaluate_functions.specs.declared.function.Function.TheVariants.{IsDependency, Shell}
use Rattle.evaluate_builtins.specs.Facts.{folder_of, fact_of}
use Rattle.evaluate_builtins.specs.Builtins.{shell_dialogue, sited, told_by, told_folder, determined}
use Rattle.meaning_dialogues.specs.Faults.{assertion_failed}
use Rattle.meaning_dialogues.specs.Dialogue.{Dialogue, Ends, ◌>>=◌, Variable}
use Rattle.meaning_dialogues.specs.Evaluation.{Value, Stage, row, sides, comparing, holding, failing, dialogue, dialogues, filled, is_truthy, truth, asserted, operated, laid_out, ticked}
use Rattle.meaning_dialogues.specs.Calls.{DefinedFunction, arguments, call_defined, function_named, empty, with_parameters, inside}
use Rattle.meaning_dialogues.specs.Terms.{Term, Terms, Holes, literal, command, format, variable, call, assertion, assertion_alone, both, either, negation, comparison, paired, rooted, appended, choice, choice_alone, listing, group, end, more, closed, hole, printed}
use Rattle.meaning_dialogues.specs.Written.{term_in, numbered, numbers_from}
use Rattle.meaning_dialogues.proofs.Soundness.{Each, EachOf, EachHole}
use Rattle.meaning_evaluation.specs.Stages.Stages.{call_builtin, call_named, command_dialogue, run_stage, calls_left}
use Rattle.meaning_rules.specs.Naming.{Occurrence, a_variable, a_call, occurrences}
use Rattle.meaning_evaluation.specs.Named.{FunctionRow}
use Rattle.meaning_evaluation.specs.Scopes.{defined_in}
use Rattle.just_meaning.specs.Reading.{itself, through, function_row}
use Rattle.tree_expressions.specs.declared.operator.ListOperator.TheVariants.{Join}
use Rattle.laws_agreement.specs.Agreement.Unasked.{IsUnasked}
use Rattle.laws_agreement.proofs.Agreement.Lists.{all_more, all_contained}
use Rattle.laws_agreement.proofs.Agreement.Terms.{Says, each_term}
use Rattle.laws_agreement.proofs.Agreement.Functions.{function_is}

-- ---- stages that differ in calls

module _ (lists : Bool) (commands others : List ℕ → List ℕ → Dialogue Value) (calls further : List ℕ → List ℕ → List (Dialogue Value) → Dialogue Value) (same_commands : (contents text : List ℕ) → commands contents text ≡ others contents text) where
  abbrev first : Stage
  first = record { lists = lists; command = commands; call = calls }

  abbrev second : Stage
  second = record { lists = lists; command = others; call = further }

  abbrev Every : Variable → Type 0
  Every x = Unit {0}

  -- both stages answer a call alike
  abbrev pub SameCall : List ℕ → ℕ → Type 0
  SameCall name count = (file : List ℕ) (given : List (Dialogue Value)) → calls name file given ≡ further name file given

  mutual
    pub same_dialogue : (t : Term) → Each Every SameCall t → dialogue first t ≡ dialogue second t
    same_dialogue (literal cooked text) h = refl
    same_dialogue (command contents text) h = same_commands contents text
    same_dialogue (format cooked text tripled holes) h = ap (λ d. d >>= λ whole. Ends (Ok (laid_out tripled whole ∷ []))) (same_filled cooked holes h)
    same_dialogue (variable name number) h = refl
    same_dialogue (call name file es) h = h.0 file (dialogues first es) ∙ ap (further name file) (same_all es h.1)
    same_dialogue (assertion c m) h = ap₂ (λ d e. d >>= λ value. if is_truthy value then Ends (Ok (asserted lists value)) else failing e) (same_dialogue c h.0) (same_dialogue m h.1)
    same_dialogue (assertion_alone c) h = ap (λ d. d >>= λ value. Ends (if is_truthy value then Ok (asserted lists value) else Err (assertion_failed (ticked (printed c))))) (same_dialogue c h)
    same_dialogue (both l r) h = ap₂ (λ d e. d >>= λ value. if is_truthy value then e else Ends (Ok [])) (same_dialogue l h.0) (same_dialogue r h.1)
    same_dialogue (either l r) h = ap₂ (λ d e. d >>= λ value. if is_truthy value then Ends (Ok value) else e) (same_dialogue l h.0) (same_dialogue r h.1)
    same_dialogue (negation e) h = ap (λ d. d >>= λ value. Ends (Ok (truth (not (is_truthy value))))) (same_dialogue e h)
    same_dialogue (comparison operator l r) h = ap₂ (λ d e. comparing operator d e >>= λ holds. Ends (Ok (truth holds))) (same_dialogue l h.0) (same_dialogue r h.1)
    same_dialogue (paired operator l r) h = ap₂ (λ d e. sides d e >>= λ values. Ends (operated operator values.0 values.1)) (same_dialogue l h.0) (same_dialogue r h.1)
    same_dialogue (rooted r) h = ap (λ d. d >>= λ value. Ends (operated Join ([] ∷ []) value)) (same_dialogue r h)
    same_dialogue (appended l r) h = ap₂ (λ d e. sides d e >>= λ values. Ends (Ok (values.0 ++ values.1))) (same_dialogue l h.0) (same_dialogue r h.1)
    same_dialogue (choice c t o) h =
        ap₂ (λ d e. holding d >>= λ holds. if holds then e else dialogue first o) (same_dialogue c h.0) (same_dialogue t h.1)
        ∙ ap (λ e. holding (dialogue second c) >>= λ holds. if holds then dialogue second t else e) (same_dialogue o h.2)
    same_dialogue (choice_alone c t) h = ap₂ (λ d e. holding d >>= λ holds. if holds then e else Ends (Ok [])) (same_dialogue c h.0) (same_dialogue t h.1)
    same_dialogue (listing es) h = ap (λ ds. row ds >>= λ values. Ends (Ok (flat_map (λ value. value) values))) (same_all es h)
    same_dialogue (group e) h = same_dialogue e h

    same_all : (es : Terms) → EachOf Every SameCall es → dialogues first es ≡ dialogues second es
    same_all end h = refl
    same_all (more e es) h = ap₂ ◌∷◌ (same_dialogue e h.0) (same_all es h.1)

    same_filled : (so_far : List ℕ) (hs : Holes) → EachHole Every SameCall hs → filled first so_far hs ≡ filled second so_far hs
    same_filled so_far closed h = refl
    same_filled so_far (hole e cooked text hs) h = ap₂ (λ d k. d >>= k) (same_dialogue e h.0) (fun_ext (λ value. same_filled (so_far ++ (joined value ++ cooked)) hs h.1))

-- ---- places that differ in whether they are a dependency's

-- a place in a recipe that runs as a dependency or not
abbrev pub flagged : List Pair → List Pair → Option (List ℕ) → Bool → Standing
flagged exported env recipe flag = record { exported = exported; env = env; is_dependency = flag; recipe = recipe }

abbrev asked_name : List ℕ
asked_name = codes "is_dependency"

abbrev is_asking : Function → Bool
is_asking IsDependency = true
is_asking _ = false

and_front : (a c : Bool) → a && c ≡ true → a ≡ true
and_front true c h = refl
and_front false c h = h

and_rear : (a c : Bool) → a && c ≡ true → c ≡ true
and_rear true c h = h
and_rear false c h = absurd (cc)

-- a function of these rows that asks has that name
named_so : (name : List ℕ) (rows : List (List ℕ × Function)) (f : Function) → list_all (λ r. not (is_asking r.1) || bytes_eq r.0 asked_name) rows ≡ true → row_with name rows ≡ Some f → is_asking f ≡ true → name ≡ asked_name
named_so name [] f h e a = absurd (cc)
named_so name (r ∷ rows) f h e a = by_name (bytes_eq r.0 name) refl (λ w g. named_so name rows f w g a)
  where
    by_name : (b : Bool) → bytes_eq r.0 name ≡ b → (list_all (λ r. not (is_asking r.1) || bytes_eq r.0 asked_name) rows ≡ true → row_with name rows ≡ Some f → name ≡ asked_name) → name ≡ asked_name
    by_name true t go =
        let i : Some r.1 ≡ Some f = subst (λ b. cond b (Some r.1) (row_with name rows) ≡ Some f) t e in
        let j : r.1 ≡ f = cc in
        let k : is_asking r.1 ≡ true = ap is_asking j ∙ a in
        let l : (not true || bytes_eq r.0 asked_name) && list_all (λ r. not (is_asking r.1) || bytes_eq r.0 asked_name) rows ≡ true = subst (λ b. (not b || bytes_eq r.0 asked_name) && list_all (λ r. not (is_asking r.1) || bytes_eq r.0 asked_name) rows ≡ true) k h in
        let n : bytes_eq r.0 asked_name ≡ true = and_front (bytes_eq r.0 asked_name) _ l in
        sym ((bytes_eq-Decides r.0 name).0 t) ∙ (bytes_eq-Decides r.0 asked_name).0 n
    by_name false t go = go (and_rear (not (is_asking r.1) || bytes_eq r.0 asked_name) _ h) (subst (λ b. cond b (Some r.1) (row_with name rows) ≡ Some f) t e)

rows_ask : list_all (λ r. not (is_asking r.1) || bytes_eq r.0 asked_name) function_names ≡ true
unfolding function_names
rows_ask = refl

asks_by_name : (name : List ℕ) → function_of name ≡ Some IsDependency → name ≡ asked_name
asks_by_name name e = named_so name function_names IsDependency rows_ask e refl

module _ (m : Surroundings) (exported env : List Pair) (recipe : Option (List ℕ)) (b b' : Bool) where
  abbrev s : Standing
  s = flagged exported env recipe b

  abbrev s' : Standing
  s' = flagged exported env recipe b'

  same_command : (dry : Bool) (contents text : List ℕ) → command_dialogue m s dry contents text ≡ command_dialogue m s' dry contents text
  same_command true contents text = refl
  same_command false contents text = refl

  same_shell : (name : List ℕ) (values : List Value) (dry : Bool) → shell_dialogue name m s values dry ≡ shell_dialogue name m s' values dry
  same_shell name values true = refl
  same_shell name values false = refl

  same_sited : (name file : List ℕ) (f : Function) (values : List Value) → (f ≡ IsDependency → ⊥) → sited m s name file f values ≡ sited m s' name file f values
  same_sited name file IsDependency values h = absurd (h refl)
  same_sited name file Shell values h = same_shell name values m.dry_run
  same_sited name file _ values h = refl

  same_builtin : (o : Option Function) (name file : List ℕ) (given : List (Dialogue Value)) → (o ≡ Some IsDependency → ⊥) → call_builtin m s o name file given ≡ call_builtin m s' o name file given
  same_builtin None name file given h = refl
  same_builtin (Some f) name file given h =
      ap (λ k. arguments (takes_text f) name 0 given >>= k) (fun_ext (λ values. ap (λ d. determined name (pure m.lists f values) (told_folder name (folder_of f) (told_by name (fact_of f) d))) (same_sited name file f values (λ e. h (ap Some e)))))

-- ---- expressions that don't ask

module _ (expansion : Expansion) (rows : List FunctionRow) (m : Surroundings) where
  abbrev functions : List DefinedFunction
  functions = map (defined_in expansion) rows

  module _ (out : List Pair) (given : List Pair) (recipe : Option (List ℕ)) (b b' : Bool) where
    -- the calls of that depth are the same
    abbrev SameAt : ℕ → Type 0
    SameAt n = (f : FunctionRow) (ds : List (Dialogue Value)) → IsUnasked rows f.body f.parameters
        → call_defined (calls_left m functions (flagged out given recipe b) n) (defined_in expansion f) ds ≡ call_defined (calls_left m functions (flagged out given recipe b') n) (defined_in expansion f) ds

    by_row : (n : ℕ) (exported env : List Pair) (o : Option FunctionRow) (name : List ℕ) → ((f : FunctionRow) (ds : List (Dialogue Value)) → o ≡ Some f → call_defined (calls_left m functions (flagged out given recipe b) n) (defined_in expansion f) ds ≡ call_defined (calls_left m functions (flagged out given recipe b') n) (defined_in expansion f) ds)
        → (o ≡ None → name ≡ codes "is_dependency" → ⊥) → (file : List ℕ) (ds : List (Dialogue Value))
        → call_named m (flagged exported env recipe b) (calls_left m functions (flagged out given recipe b) n) (option_map (defined_in expansion) o) name file ds ≡ call_named m (flagged exported env recipe b') (calls_left m functions (flagged out given recipe b') n) (option_map (defined_in expansion) o) name file ds
    by_row n exported env (Some f) name go h file ds = go f ds refl
    by_row n exported env None name go h file ds = same_builtin m exported env recipe b b' (function_of name) name file ds (λ e. h refl (asks_by_name name e))

    same_named : (n : ℕ) (exported env : List Pair) (name : List ℕ) → ((f : FunctionRow) (ds : List (Dialogue Value)) → function_row name rows ≡ Some f → call_defined (calls_left m functions (flagged out given recipe b) n) (defined_in expansion f) ds ≡ call_defined (calls_left m functions (flagged out given recipe b') n) (defined_in expansion f) ds)
        → (function_row name rows ≡ None → name ≡ codes "is_dependency" → ⊥) → (file : List ℕ) (ds : List (Dialogue Value))
        → call_named m (flagged exported env recipe b) (calls_left m functions (flagged out given recipe b) n) (function_named name functions) name file ds ≡ call_named m (flagged exported env recipe b') (calls_left m functions (flagged out given recipe b') n) (function_named name functions) name file ds
    same_named n exported env name go h file ds =
        subst (λ o. call_named m (flagged exported env recipe b) (calls_left m functions (flagged out given recipe b) n) o name file ds ≡ call_named m (flagged exported env recipe b') (calls_left m functions (flagged out given recipe b') n) o name file ds)
        (sym (function_is expansion name rows)) (by_row n exported env (function_row name rows) name go h file ds)

    -- a call is the same at both places
    abbrev Alike : ℕ → List Pair → List Pair → List ℕ → ℕ → Type 0
    Alike n exported env name count = (at : List ℕ) (ds : List (Dialogue Value)) → call_named m (flagged exported env recipe b) (calls_left m functions (flagged out given recipe b) n) (function_named name functions) name at ds ≡ call_named m (flagged exported env recipe b') (calls_left m functions (flagged out given recipe b') n) (function_named name functions) name at ds

    abbrev Anything : Variable → Type 0
    Anything x = Unit {0}

    same_term : (n : ℕ) → SameAt n → (exported env : List Pair) (file : List ℕ) (numbers : List ℕ → Option ℕ) (e : Shape) (hidden : List (List ℕ)) → IsUnasked rows e hidden
        → dialogue (run_stage m functions (flagged exported env recipe b) (calls_left m functions (flagged out given recipe b) n)) (term_in expansion file numbers e) ≡ dialogue (run_stage m functions (flagged exported env recipe b') (calls_left m functions (flagged out given recipe b') n)) (term_in expansion file numbers e)
    same_term n go exported env file numbers e hidden h =
        same_dialogue m.lists (λ contents written. command_dialogue m (flagged exported env recipe b) m.dry_run contents written) (λ contents written. command_dialogue m (flagged exported env recipe b') m.dry_run contents written)
        (λ name at ds. call_named m (flagged exported env recipe b) (calls_left m functions (flagged out given recipe b) n) (function_named name functions) name at ds)
        (λ name at ds. call_named m (flagged exported env recipe b') (calls_left m functions (flagged out given recipe b') n) (function_named name functions) name at ds)
        (λ contents written. same_command m exported env recipe b b' m.dry_run contents written) (term_in expansion file numbers e)
        (each_term expansion file numbers Anything (Alike n exported env) e (all_more (Contains (occurrences e)) _ says (occurrences e) (all_contained (occurrences e))))
      where
        says : (o : Occurrence) → Contains (occurrences e) o → Says expansion file numbers Anything (Alike n exported env) o
        says (a_variable name) c = tt
        says (a_call name count) c =
            same_named n exported env name (λ f ds there. go f ds (record { unasked = λ inner others k r d free. h.unasked inner others k (through c there r) d free }))
            (λ free is. h.unasked e hidden count itself (subst (λ x. Contains (occurrences e) (a_call x count)) is c) (subst (λ x. function_row x rows ≡ None) is free))

    same_at : (n : ℕ) → SameAt n
    same_at zero f ds h = refl
    same_at (suc n) f ds h =
        ap (λ k. row ds >>= k) (fun_ext (λ values. ap (inside (with_parameters empty (numbers_from 0 f.parameters) values)) (same_term n (same_at n) out given f.file (numbered f.parameters) f.body f.parameters h)))

    -- What doesn't ask is evaluated alike, for a dependency and for another call.
    pub same_expression : (n : ℕ) (exported env : List Pair) (file : List ℕ) (numbers : List ℕ → Option ℕ) (e : Shape) (hidden : List (List ℕ)) → IsUnasked rows e hidden
        → dialogue (run_stage m functions (flagged exported env recipe b) (calls_left m functions (flagged out given recipe b) n)) (term_in expansion file numbers e) ≡ dialogue (run_stage m functions (flagged exported env recipe b') (calls_left m functions (flagged out given recipe b') n)) (term_in expansion file numbers e)
    same_expression n exported env file numbers e hidden h = same_term n (same_at n) exported env file numbers e hidden h
