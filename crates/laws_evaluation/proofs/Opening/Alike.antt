-- A run's dialogues at two places that differ in what they export mean the same, where questions are answered the same.
use Rattle.std.proofs.Common.{◌≡◌, ℕ, zero, suc, ◌+◌, List, [], ◌∷◌, ◌++◌, Bool, true, false, if◌then◌else◌, Option, Some, None, option_and_then, Result, Ok, Err, refl, ap, subst, ◌∙◌}
use Rattle.just_host.specs.declared.host.Answer.{Answer}
use Rattle.just_host.specs.declared.host.MachineFact.{MachineFact}
use Rattle.just_value.specs.Values.{joined}
use Rattle.evaluate_functions.specs.Arguments.{takes_text}
use Rattle.evaluate_functions.specs.Functions.{pure, text_at}
use Rattle.evaluate_functions.specs.Names.{function_of}
use Rattle.evaluate_functions.specs.declared.function.Function.{Function}
use Rattle.evaluate_functions.specs.declared.function.Function.TheVariants.{Arch, Canonicalize, InvocationDirectory, InvocationDirectoryNative, IsDependency, JustVersion, Justfile, JustfileDirectory, ModuleDirectory, ModuleFile, ModulePath, NumJobs, Os, OsFamily, PathExists, Read, RecipeName, Require, Shell, SourceDirectory, SourceFile, Which}
use Rattle.evaluate_context.specs.Surroundings.{Surroundings, Standing}
use Rattle.evaluate_builtins.specs.Builtins.{determined, told_folder, told_by, sited, shell_dialogue, recipe_told}
use Rattle.evaluate_builtins.specs.Facts.{folder_of, fact_of}
use Rattle.evaluate_functions.specs.Values.{boolean}
use Rattle.meaning_dialogues.specs.Faults.{Fault, assertion_failed}
use Rattle.meaning_dialogues.specs.Dialogue.{Dialogue, Ends, Asks, Reads, ◌>>=◌, Lookup, around, in_module, Variable}
use Rattle.meaning_dialogues.specs.Evaluation.{Value, Stage, row, sides, dialogue, dialogues, filled, is_truthy, asserted, ticked}
use Rattle.meaning_dialogues.specs.Meaning.{QuestionAnswers, Meaning, meaning}
use Rattle.meaning_dialogues.specs.Calls.{DefinedFunction, Frame, empty, with_parameters, in_frame, or_read, inside, arguments, as_argument, call_defined, function_named}
use Rattle.meaning_dialogues.specs.Terms.{Term, Terms, Holes, literal, command, format, variable, call, assertion, assertion_alone, both, either, negation, comparison, paired, rooted, appended, choice, choice_alone, listing, group, end, more, closed, hole, printed}
use Rattle.meaning_evaluation.specs.Stages.Stages.{call_builtin, call_named, command_dialogue, run_stage, calls_left}
use Rattle.laws_evaluation.proofs.Opening.Lazy.{same_read}
use Rattle.laws_evaluation.specs.Opening.Alike.{AnsweredAlike, both_end, both_ask, both_read, StandAlike}

-- what is made of an answer is the same, where it is the same of each
pub same_answer : {B : Type 0} (f g : Answer → Option B) (o : Option Answer) → ((answer : Answer) → f answer ≡ g answer) → option_and_then f o ≡ option_and_then g o
same_answer f g None h = refl
same_answer f g (Some answer) h = h answer

-- dialogues that are answered alike mean the same
pub alike_means : {A : Type 0} (answers : QuestionAnswers) (variables : Lookup → Variable → Meaning Value) {t u : Dialogue A} → AnsweredAlike answers t u → meaning answers variables t ≡ meaning answers variables u
alike_means answers variables both_end = refl
alike_means answers variables (both_ask {p = p} {k = k} e h) =
    ap (λ o. option_and_then (λ answer. meaning answers variables (k answer)) o) e ∙ same_answer _ _ (answers p) (λ answer. alike_means answers variables (h answer))
alike_means answers variables (both_read {place = place} {x = x} h) = same_read _ _ (variables place x) (λ value. alike_means answers variables (h value))

module _ (answers : QuestionAnswers) where
  -- each is answered as itself
  pub itself : {A : Type 0} (t : Dialogue A) → AnsweredAlike answers t t
  itself (Ends r) = both_end
  itself (Asks q next) = both_ask refl (λ answer. itself (next answer))
  itself (Reads place x next) = both_read (λ value. itself (next value))

  -- one after the other
  then_alike : {A B : Type 0} {t u : Dialogue A} (k l : A → Dialogue B) → AnsweredAlike answers t u → ((a : A) → AnsweredAlike answers (k a) (l a)) → AnsweredAlike answers (t >>= k) (u >>= l)
  then_alike k l (both_end {r = Ok a}) g = g a
  then_alike k l (both_end {r = Err e}) g = both_end
  then_alike k l (both_ask e h) g = both_ask e (λ answer. then_alike k l (h answer) g)
  then_alike k l (both_read h) g = both_read (λ value. then_alike k l (h value) g)

  choice_alike : {A : Type 0} (b : Bool) {s t u v : Dialogue A} → AnsweredAlike answers s u → AnsweredAlike answers t v → AnsweredAlike answers (if b then s else t) (if b then u else v)
  choice_alike true h g = h
  choice_alike false h g = g

  same_end : {A : Type 0} (a b : Result A Fault) → a ≡ b → AnsweredAlike answers (Ends a) (Ends b)
  same_end a b e = subst (λ r. AnsweredAlike answers (Ends a) (Ends r)) e both_end

  -- two rows, one by one
  pub data RowAlike : List (Dialogue Value) → List (Dialogue Value) → Type 0 where
    no_more : RowAlike [] []
    one_more : {d e : Dialogue Value} {ds es : List (Dialogue Value)} → AnsweredAlike answers d e → RowAlike ds es → RowAlike (d ∷ ds) (e ∷ es)

  row_alike : {ds es : List (Dialogue Value)} → RowAlike ds es → AnsweredAlike answers (row ds) (row es)
  row_alike no_more = both_end
  row_alike (one_more h t) = then_alike _ _ h (λ v. then_alike _ _ (row_alike t) (λ vs. both_end))

  sides_alike : {l r m s : Dialogue Value} → AnsweredAlike answers l m → AnsweredAlike answers r s → AnsweredAlike answers (sides l r) (sides m s)
  sides_alike h g = then_alike _ _ h (λ a. then_alike _ _ g (λ b. both_end))

  arguments_alike : (takes : ℕ → Bool) (name : List ℕ) (k : ℕ) {ds es : List (Dialogue Value)} → RowAlike ds es → AnsweredAlike answers (arguments takes name k ds) (arguments takes name k es)
  arguments_alike takes name k no_more = both_end
  arguments_alike takes name k (one_more h t) = then_alike _ _ h (λ v. then_alike _ _ (itself (Ends (as_argument (takes k) name v))) (λ w. then_alike _ _ (arguments_alike takes name (k + 1) t) (λ vs. both_end)))

  at_read : {A : Type 0} (o : Option Value) (x : Variable) {k l : Value → Dialogue A} → ((v : Value) → AnsweredAlike answers (k v) (l v)) → AnsweredAlike answers (or_read o k x) (or_read o l x)
  at_read (Some v) x h = h v
  at_read None x h = both_read h

  inside_alike : {A : Type 0} (frame : Frame) {t u : Dialogue A} → AnsweredAlike answers t u → AnsweredAlike answers (inside frame t) (inside frame u)
  inside_alike frame both_end = both_end
  inside_alike frame (both_ask e h) = both_ask e (λ answer. inside_alike frame (h answer))
  inside_alike frame (both_read {place = around} {x = x} h) = at_read (in_frame frame x.number) x (λ v. inside_alike frame (h v))
  inside_alike frame (both_read {place = in_module} h) = both_read (λ v. inside_alike frame (h v))

  module _ (first second : Stage) (lists : first.lists ≡ second.lists) (commands : (contents text : List ℕ) → AnsweredAlike answers (first.command contents text) (second.command contents text))
      (calls : (name file : List ℕ) (ds es : List (Dialogue Value)) → RowAlike ds es → AnsweredAlike answers (first.call name file ds) (second.call name file es)) where
    mutual
      -- by two stages whose commands and calls are answered alike, each term is
      pub term_alike : (t : Term) → AnsweredAlike answers (dialogue first t) (dialogue second t)
      term_alike (literal cooked text) = both_end
      term_alike (command contents text) = commands contents text
      term_alike (format cooked text tripled holes) = then_alike _ _ (holes_alike cooked holes) (λ whole. both_end)
      term_alike (variable name number) = both_read (λ value. both_end)
      term_alike (call name file es) = calls name file (dialogues first es) (dialogues second es) (terms_alike es)
      term_alike (assertion c m) = then_alike _ _ (term_alike c) (λ v. choice_alike (is_truthy v) (same_end _ _ (ap (λ l. Ok (asserted l v)) lists)) (then_alike _ _ (term_alike m) (λ w. both_end)))
      term_alike (assertion_alone c) = then_alike _ _ (term_alike c) (λ v. same_end _ _ (ap (λ l. if is_truthy v then Ok (asserted l v) else Err (assertion_failed (ticked (printed c)))) lists))
      term_alike (both l r) = then_alike _ _ (term_alike l) (λ v. choice_alike (is_truthy v) (term_alike r) both_end)
      term_alike (either l r) = then_alike _ _ (term_alike l) (λ v. choice_alike (is_truthy v) both_end (term_alike r))
      term_alike (negation e) = then_alike _ _ (term_alike e) (λ v. both_end)
      term_alike (comparison operator l r) = then_alike _ _ (then_alike _ _ (sides_alike (term_alike l) (term_alike r)) (λ vs. both_end)) (λ holds. both_end)
      term_alike (paired operator l r) = then_alike _ _ (sides_alike (term_alike l) (term_alike r)) (λ vs. both_end)
      term_alike (rooted r) = then_alike _ _ (term_alike r) (λ v. both_end)
      term_alike (appended l r) = then_alike _ _ (sides_alike (term_alike l) (term_alike r)) (λ vs. both_end)
      term_alike (choice c t o) = then_alike _ _ (then_alike _ _ (term_alike c) (λ v. both_end)) (λ holds. choice_alike holds (term_alike t) (term_alike o))
      term_alike (choice_alone c t) = then_alike _ _ (then_alike _ _ (term_alike c) (λ v. both_end)) (λ holds. choice_alike holds (term_alike t) both_end)
      term_alike (listing es) = then_alike _ _ (row_alike (terms_alike es)) (λ vs. both_end)
      term_alike (group e) = term_alike e

      terms_alike : (es : Terms) → RowAlike (dialogues first es) (dialogues second es)
      terms_alike end = no_more
      terms_alike (more e es) = one_more (term_alike e) (terms_alike es)

      holes_alike : (so_far : List ℕ) (hs : Holes) → AnsweredAlike answers (filled first so_far hs) (filled second so_far hs)
      holes_alike so_far closed = both_end
      holes_alike so_far (hole e cooked text hs) = then_alike _ _ (term_alike e) (λ v. holes_alike (so_far ++ (joined v ++ cooked)) hs)

  module _ (m : Surroundings) where
    command_alike : (s s' : Standing) (dry : Bool) → StandAlike answers m s s' → (contents text : List ℕ) → AnsweredAlike answers (command_dialogue m s dry contents text) (command_dialogue m s' dry contents text)
    command_alike s s' true a contents text = both_end
    command_alike s s' false a contents text = both_ask (a.commands contents []) (λ answer. both_end)

    shell_alike : (s s' : Standing) (dry : Bool) → StandAlike answers m s s' → (name : List ℕ) (values : List Value) → AnsweredAlike answers (shell_dialogue name m s values dry) (shell_dialogue name m s' values dry)
    shell_alike s s' true a name values = both_end
    shell_alike s s' false a name values = both_ask (a.commands (text_at values 0) _) (λ answer. both_end)

    sited_alike : (s s' : Standing) → StandAlike answers m s s' → (name file : List ℕ) (f : Function) (values : List Value) → AnsweredAlike answers (sited m s name file f values) (sited m s' name file f values)
    sited_alike s s' a name file Arch values = both_end
    sited_alike s s' a name file InvocationDirectory values = both_end
    sited_alike s s' a name file InvocationDirectoryNative values = both_end
    sited_alike s s' a name file IsDependency values = same_end _ _ (ap (λ b. Ok (boolean m.lists b)) a.dependency)
    sited_alike s s' a name file JustVersion values = both_end
    sited_alike s s' a name file Justfile values = both_end
    sited_alike s s' a name file JustfileDirectory values = both_end
    sited_alike s s' a name file ModuleFile values = both_end
    sited_alike s s' a name file ModuleDirectory values = both_end
    sited_alike s s' a name file ModulePath values = both_end
    sited_alike s s' a name file NumJobs values = both_end
    sited_alike s s' a name file Os values = both_end
    sited_alike s s' a name file OsFamily values = both_end
    sited_alike s s' a name file RecipeName values = same_end _ _ (ap (λ r. recipe_told name r) a.recipe)
    sited_alike s s' a name file SourceFile values = both_end
    sited_alike s s' a name file SourceDirectory values = both_end
    sited_alike s s' a name file Canonicalize values = itself _
    sited_alike s s' a name file Read values = itself _
    sited_alike s s' a name file PathExists values = itself _
    sited_alike s s' a name file Which values = itself _
    sited_alike s s' a name file Require values = itself _
    sited_alike s s' a name file Shell values = shell_alike s s' m.dry_run a name values
    sited_alike s s' a name file _ values = itself _

    determined_alike : (name : List ℕ) (o : Option (Result Value (List ℕ))) {d e : Dialogue Value} → AnsweredAlike answers d e → AnsweredAlike answers (determined name o d) (determined name o e)
    determined_alike name (Some answer) h = both_end
    determined_alike name None h = h

    folder_alike : (name : List ℕ) (o : Option (MachineFact × List ℕ)) {d e : Dialogue Value} → AnsweredAlike answers d e → AnsweredAlike answers (told_folder name o d) (told_folder name o e)
    folder_alike name (Some (fact, words)) h = itself _
    folder_alike name None h = h

    fact_alike : (name : List ℕ) (o : Option MachineFact) {d e : Dialogue Value} → AnsweredAlike answers d e → AnsweredAlike answers (told_by name o d) (told_by name o e)
    fact_alike name (Some fact) h = itself _
    fact_alike name None h = h

    call_builtin_alike : (s s' : Standing) → StandAlike answers m s s' → (o : Option Function) (name file : List ℕ) {ds es : List (Dialogue Value)} → RowAlike ds es → AnsweredAlike answers (call_builtin m s o name file ds) (call_builtin m s' o name file es)
    call_builtin_alike s s' a None name file h = both_end
    call_builtin_alike s s' a (Some f) name file h =
        then_alike _ _ (arguments_alike (takes_text f) name 0 h)
        (λ values. determined_alike name (pure m.lists f values) (folder_alike name (folder_of f) (fact_alike name (fact_of f) (sited_alike s s' a name file f values))))

    module _ (functions : List DefinedFunction) (body body' : Standing) (in_bodies : StandAlike answers m body body') where
      abbrev CallsAlike : ℕ → Type 0
      CallsAlike n = (f : DefinedFunction) (ds es : List (Dialogue Value)) → RowAlike ds es → AnsweredAlike answers (call_defined (calls_left m functions body n) f ds) (call_defined (calls_left m functions body' n) f es)

      named_alike : (n : ℕ) → CallsAlike n → (s s' : Standing) → StandAlike answers m s s' → (o : Option DefinedFunction) (name file : List ℕ) (ds es : List (Dialogue Value)) → RowAlike ds es
          → AnsweredAlike answers (call_named m s (calls_left m functions body n) o name file ds) (call_named m s' (calls_left m functions body' n) o name file es)
      named_alike n go s s' a (Some f) name file ds es h = go f ds es h
      named_alike n go s s' a None name file ds es h = call_builtin_alike s s' a (function_of name) name file h

      calls_alike : (n : ℕ) → CallsAlike n
      calls_alike zero f ds es h = both_end
      calls_alike (suc n) f ds es h =
          then_alike _ _ (row_alike h)
          (λ vs. inside_alike (with_parameters empty f.parameters vs)
          (term_alike (run_stage m functions body (calls_left m functions body n)) (run_stage m functions body' (calls_left m functions body' n)) refl
          (λ contents text. command_alike body body' m.dry_run in_bodies contents text)
          (λ name file xs ys g. named_alike n (calls_alike n) body body' in_bodies (function_named name functions) name file xs ys g) f.body))

      -- at two places of a run where commands are answered the same, each term is answered the same, however deep calls lie
      pub places_alike : (n : ℕ) (s s' : Standing) → StandAlike answers m s s' → (t : Term)
          → AnsweredAlike answers (dialogue (run_stage m functions s (calls_left m functions body n)) t) (dialogue (run_stage m functions s' (calls_left m functions body' n)) t)
      places_alike n s s' a t =
          term_alike (run_stage m functions s (calls_left m functions body n)) (run_stage m functions s' (calls_left m functions body' n)) refl
          (λ contents text. command_alike s s' m.dry_run a contents text)
          (λ name file ds es h. named_alike n (calls_alike n) s s' a (function_named name functions) name file ds es h) t
