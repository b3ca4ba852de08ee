-- A script: all lines of a body as one text, and one job.
use Rattle.std.proofs.Common.{◌≡◌, ℕ, List, [], ◌∷◌, ◌++◌, append_assoc, append-nil, Bool, true, false, map, Option, Some, None, Result, Ok, Err, refl, sym, ap, subst, codes}
use Rattle.just_host.specs.declared.entry.Entry.{Entry}
use Rattle.just_host.specs.declared.entry.Entry.TheVariants.{Show, Script as ScriptEntry}
use Rattle.just_host.specs.declared.host.Status.{Status}
use Rattle.just_host.specs.declared.job.ScriptJob.{ScriptJob}
use Rattle.just_host.specs.Record.{Record}
use Rattle.just_host.specs.Follows.{Follows}
use Rattle.tree_attributes.specs.Settings.{InterpreterShape}
use Rattle.tree_items.specs.Lines.{Piece, no_sigils}
use Rattle.meaning_dialogues.specs.Faults.{Fault, memory}
use Rattle.meaning_dialogues.specs.Dialogue.{Begins, Dialogue, Ends, DialogueGoes, Evaluates, Reading}
use Rattle.meaning_dialogues.specs.Dialogue as dialogues
use Rattle.meaning_dialogues.specs.Evaluation.{interpreter_dialogue}
use Rattle.meaning_dialogues.proofs.Dialogues.{then_goes, then_stops}
use Rattle.meaning_dialogues.proofs.Dialogues as laws
use Rattle.meaning_evaluation.specs.Stages.Parameters.{Bound}
use Rattle.meaning_runs.specs.Failures.{Failure, evaluation, next_by}
use Rattle.meaning_runs.specs.Task.{Task, ends, hands, script, lift}
use Rattle.meaning_evaluation.specs.Named.{RecipeRow}
use Rattle.meaning_evaluation.specs.Scopes.{Configuration, Scene, valued}
use Rattle.meaning_evaluation.specs.Groups.{each}
use Rattle.meaning_evaluation.specs.Bodies.{in_lines, script_job, line_text, script_texts, first_words, has_shebang, interpreter, shows_script}
use Rattle.meaning_evaluation.specs.Calling.{without_next, script_handed, script_task}
use Rattle.laws_evaluation.specs.Bodies.Performing.{Performs, Stays, in_front, LeadsRow}
use Rattle.laws_evaluation.proofs.Bodies.Performing.{performs_then, performs_stops, performs_ends, performs_evaluated, performs_handed, shown_first, not_shown, stays_through}

-- ---- one dialogue after another, all values in a list

module _ {A : Type 0} (reading : Reading) where
  front_more : (values : List A) (a : A) (r : Result (List A) Fault) → in_front values (in_front (a ∷ []) r) ≡ in_front (values ++ a ∷ []) r
  front_more values a (Ok others) = ap Ok (sym (append_assoc values (a ∷ []) others))
  front_more values a (Err f) = refl

  front_none : (r : Result (List A) Fault) → in_front [] r ≡ r
  front_none (Ok others) = refl
  front_none (Err f) = refl

  one_more : (d : Dialogue A) (ds : List (Dialogue A)) (old mid new : List Entry) (a : A) (r : Result (List A) Fault) → DialogueGoes reading d old mid (Ok a) → DialogueGoes reading (each ds) mid new r → DialogueGoes reading (each (d ∷ ds)) old new (in_front (a ∷ []) r)
  one_more d ds old mid new a (Ok others) h g =
      laws.goes_on reading d (λ a. dialogues.◌>>=◌ (each ds) (λ others. Ends (Ok (a ∷ others)))) old mid new a (Ok (a ∷ others)) h
      (laws.goes_on reading (each ds) (λ others. Ends (Ok (a ∷ others))) mid new new others (Ok (a ∷ others)) g (refl, refl))
  one_more d ds old mid new a (Err f) h g =
      laws.goes_on reading d (λ a. dialogues.◌>>=◌ (each ds) (λ others. Ends (Ok (a ∷ others)))) old mid new a (Err f) h
      (laws.stops reading (each ds) (λ others. Ends (Ok (a ∷ others))) mid new f g)

  module _ (all : List (Dialogue A)) where
    -- before the first
    pub row_first : (old : List Entry) → LeadsRow reading all all old old []
    row_first old = record { on = λ new r h. rw (front_none r) h }

    -- what begins those that are left begins all
    row_begins : (old mid new : List Entry) (values : List A) (rest : List (Dialogue A)) → LeadsRow reading all rest old mid values → Begins reading (each rest) mid new → Begins reading (each all) old new
    row_begins old mid new values rest h b = record { rest = b.rest; result = in_front values b.result; goes = h.on (new ++ b.rest) b.result b.goes }

    -- one more value
    pub row_more : (old mid new : List Entry) (values : List A) (d : Dialogue A) (rest : List (Dialogue A)) (a : A) → LeadsRow reading all (d ∷ rest) old mid values → Evaluates reading d mid new (Ok a) → LeadsRow reading all rest old new (values ++ a ∷ [])
    row_more old mid new values d rest a h g = record {
      on = λ last r e. rw (← front_more values a r) (h.on last (in_front (a ∷ []) r) (one_more d rest mid new last a r (g.goes (λ q. cc)) e));
    }

    -- one with a fault
    pub row_stop : (old mid new : List Entry) (values : List A) (d : Dialogue A) (rest : List (Dialogue A)) (f : Fault) → LeadsRow reading all (d ∷ rest) old mid values → Evaluates reading d mid new (Err f) → Evaluates reading (each all) old new (Err f)
    row_stop old mid new values d rest f h g = record {
      goes = λ n. h.on new (Err f) (laws.stops reading d (λ a. dialogues.◌>>=◌ (each rest) (λ others. Ends (Ok (a ∷ others)))) mid new f (g.goes (λ q. n (cc))));
      begins = row_begins old mid new values (d ∷ rest) h (laws.begins_first reading d (λ a. dialogues.◌>>=◌ (each rest) (λ others. Ends (Ok (a ∷ others)))) mid new g.begins);
    }

    -- where memory ran out between two
    pub row_memory : (old now : List Entry) (values : List A) (rest : List (Dialogue A)) → LeadsRow reading all rest old now values → Evaluates reading (each all) old now (Err memory)
    row_memory old now values rest h = record { goes = λ n. absurd (n refl); begins = row_begins old now now values rest h (laws.begins_here reading (each rest) now) }

    -- none is left
    pub row_end : (old new : List Entry) (values : List A) (rest : List (Dialogue A)) → LeadsRow reading all rest old new values → rest ≡ [] → Evaluates reading (each all) old new (Ok values)
    row_end old new values rest h e =
        let whole : DialogueGoes reading (each all) old new (Ok values) = rw (← append-nil values) (h.on new (Ok []) (rw e (refl, refl))) in
        record { goes = λ n. whole; begins = laws.whole_begins reading (each all) old new (Ok values) whole }

module _ (c : Configuration) (scene : Scene) (name : List ℕ) (recipe : RecipeRow) (flag : Bool) (bound : Bound) (reading : Reading) where
  -- ---- the texts of all lines

  abbrev Text : List Piece → Dialogue (List ℕ)
  Text = line_text c scene name recipe flag bound false

  -- whatever the lines that are left give, all lines give with these texts in front
  abbrev pub LeadsTexts : List (List Piece) → List Entry → List Entry → List (List ℕ) → Type 0
  LeadsTexts lines old now texts = LeadsRow reading (map Text recipe.body) (map Text lines) old now texts

  abbrev pub all_texts : Dialogue (List (List ℕ))
  all_texts = script_texts c scene name recipe flag bound

  -- before the first line
  pub texts_first : (old : List Entry) → LeadsTexts recipe.body old old []
  texts_first old = row_first reading (map Text recipe.body) old

  -- a line's text
  pub texts_more : (old mid new : List Entry) (texts : List (List ℕ)) (line : List Piece) (lines : List (List Piece)) (text : List ℕ) → LeadsTexts (line ∷ lines) old mid texts → Evaluates reading (Text line) mid new (Ok text) → LeadsTexts lines old new (texts ++ text ∷ [])
  texts_more old mid new texts line lines text h g = row_more reading (map Text recipe.body) old mid new texts (Text line) (map Text lines) text h g

  -- a line with a fault
  pub texts_stop : (old mid new : List Entry) (texts : List (List ℕ)) (line : List Piece) (lines : List (List Piece)) (f : Fault) → LeadsTexts (line ∷ lines) old mid texts → Evaluates reading (Text line) mid new (Err f) → Evaluates reading all_texts old new (Err f)
  texts_stop old mid new texts line lines f h g = row_stop reading (map Text recipe.body) old mid new texts (Text line) (map Text lines) f h g

  -- where memory ran out between two lines
  pub texts_memory : (old now : List Entry) (texts : List (List ℕ)) (lines : List (List Piece)) → LeadsTexts lines old now texts → Evaluates reading all_texts old now (Err memory)
  texts_memory old now texts lines h = row_memory reading (map Text recipe.body) old now texts (map Text lines) h

  -- no line is left
  pub texts_end : (old new : List Entry) (texts : List (List ℕ)) (lines : List (List Piece)) → LeadsTexts lines old new texts → lines ≡ [] → Evaluates reading all_texts old new (Ok texts)
  texts_end old new texts lines h e = row_end reading (map Text recipe.body) old new texts (map Text lines) h (ap (map Text) e)

  -- ---- the words of the interpreter

  abbrev pub words_by : Option (Option InterpreterShape) → List (List ℕ) → Dialogue (List (List ℕ))
  words_by = interpreter c scene name recipe flag bound

  -- those that the attribute names
  pub words_written : (given : Option (Option InterpreterShape)) (shape : InterpreterShape) (texts : List (List ℕ)) (old new : List Entry) (words : List ℕ × List (List ℕ)) → given ≡ Some (Some shape)
      → Evaluates reading (interpreter_dialogue (codes "script") (valued c scene name recipe flag bound shape.command ∷ map (valued c scene name recipe flag bound) shape.arguments)) old new (Ok words) → Evaluates reading (words_by given texts) old new (Ok (words.0 ∷ words.1))
  words_written given shape texts old new words e h = rw e (then_goes _ _ h (laws.ends (Ok (words.0 ∷ words.1)) (λ n. refl)))

  -- an interpreter with a fault
  pub words_stop : (given : Option (Option InterpreterShape)) (shape : InterpreterShape) (texts : List (List ℕ)) (old new : List Entry) (f : Fault) → given ≡ Some (Some shape)
      → Evaluates reading (interpreter_dialogue (codes "script") (valued c scene name recipe flag bound shape.command ∷ map (valued c scene name recipe flag bound) shape.arguments)) old new (Err f) → Evaluates reading (words_by given texts) old new (Err f)
  words_stop given shape texts old new f e h = rw e (then_stops _ _ h)

  -- where the attribute names none, those of the first line, or the module's, or the usual ones
  pub words_unnamed : (given : Option (Option InterpreterShape)) (texts words : List (List ℕ)) (old : List Entry) → given ≡ Some None → words ≡ first_words c scene name recipe flag bound (has_shebang c scene name recipe flag bound recipe.body) texts → Evaluates reading (words_by given texts) old old (Ok words)
  words_unnamed given texts words old e f = rw (e, f) (laws.ends _ (λ n. refl))

  -- where there is no attribute, those of the first line, or the module's, or the usual ones
  pub words_plain : (given : Option (Option InterpreterShape)) (texts words : List (List ℕ)) (old : List Entry) → given ≡ None → words ≡ first_words c scene name recipe flag bound (has_shebang c scene name recipe flag bound recipe.body) texts → Evaluates reading (words_by given texts) old old (Ok words)
  words_plain given texts words old e f = rw (e, f) (laws.ends _ (λ n. refl))

module _ {H : Type 0} (c : Configuration) (scene : Scene) (name : List ℕ) (recipe : RecipeRow) (flag : Bool) (bound : Bound) (reading : Reading) (goes : H → List Entry → H → Type 0) where
  abbrev Handed : Bool → List (List ℕ) → Task (Unit {0})
  Handed = script_handed c scene name recipe flag bound

  -- ---- the job

  -- in a dry run no script is handed over
  pub script_dry : (dry : Bool) (texts : List (List ℕ)) (old : Record H) → dry ≡ true → Performs reading (Handed dry texts) old old (Ok tt)
  script_dry dry texts old e = rw e (performs_ends reading old (Ok tt))

  -- an interpreter with a fault
  pub script_unnamed : (dry : Bool) (texts : List (List ℕ)) (old new : Record H) (f : Fault) → dry ≡ false → Evaluates reading (words_by c scene name recipe flag bound reading recipe.script texts) old.entries new.entries (Err f) → Performs reading (Handed dry texts) old new (Err (evaluation f))
  script_unnamed dry texts old new f e h = rw e (performs_stops reading _ _ old new (evaluation f) (performs_evaluated reading _ old new (Err f) h))

  -- a script is handed over, and its status says how it ends
  pub script_given : (dry : Bool) (texts words : List (List ℕ)) (job : ScriptJob) (status : Status) (old mid new : Record H) (end : Result (Unit {0}) Failure) → dry ≡ false
      → Evaluates reading (words_by c scene name recipe flag bound reading recipe.script texts) old.entries mid.entries (Ok words) → job ≡ script_job c scene name recipe flag bound words texts
      → Follows goes mid (ScriptEntry job status ∷ []) new → without_next (next_by name no_sigils status) ≡ end → Performs reading (Handed dry texts) old new end
  script_given dry texts words job status old mid new end e h is f by =
      rw (e, ← by) (performs_then reading (lift (words_by c scene name recipe flag bound reading recipe.script texts)) (λ words. hands (script (script_job c scene name recipe flag bound words texts)) (λ status. ends (without_next (next_by name no_sigils status)))) old mid new words (without_next (next_by name no_sigils status))
      (performs_evaluated reading _ old mid (Ok words) h) f.stays
      (performs_handed reading goes (script (script_job c scene name recipe flag bound words texts)) (λ status. without_next (next_by name no_sigils status)) mid new status (subst (λ j. Follows goes mid (ScriptEntry j status ∷ []) new) is f)))

  -- ---- the whole script

  abbrev pub whole_script : Task (Unit {0})
  whole_script = script_task c scene name recipe flag bound

  -- a line has a fault
  pub script_stop : (old new : Record H) (f : Fault) → Evaluates reading (script_texts c scene name recipe flag bound) old.entries new.entries (Err f) → Performs reading whole_script old new (Err (evaluation f))
  script_stop old new f h = performs_stops reading _ _ old new (evaluation f) (performs_evaluated reading _ old new (Err f) h)

  -- all lines have texts, which are to be shown, and then handed over
  pub script_shown : (old mid seen new : Record H) (texts : List (List ℕ)) (text : List ℕ) (end : Result (Unit {0}) Failure) → Evaluates reading (script_texts c scene name recipe flag bound) old.entries mid.entries (Ok texts) → Stays mid seen
      → shows_script c scene name recipe flag bound ≡ true → text ≡ in_lines texts → Follows goes mid (Show text ∷ []) seen → Stays seen new → Performs reading (Handed c.dry_run texts) seen new end → Performs reading whole_script old new end
  script_shown old mid seen new texts text end h stays_first shows is f stays_then g =
      performs_then reading _ _ old mid new texts end (performs_evaluated reading _ old mid (Ok texts) h) (stays_through mid seen new stays_first stays_then)
      (shown_first reading goes _ (in_lines texts) _ mid seen new end shows (subst (λ t. Follows goes mid (Show t ∷ []) seen) is f) stays_then g)

  -- all lines have texts, which are not to be shown, but handed over
  pub script_hidden : (old mid new : Record H) (texts : List (List ℕ)) (end : Result (Unit {0}) Failure) → Evaluates reading (script_texts c scene name recipe flag bound) old.entries mid.entries (Ok texts) → Stays mid new
      → shows_script c scene name recipe flag bound ≡ false → Performs reading (Handed c.dry_run texts) mid new end → Performs reading whole_script old new end
  script_hidden old mid new texts end h stays hides g =
      performs_then reading _ _ old mid new texts end (performs_evaluated reading _ old mid (Ok texts) h) stays (not_shown reading _ (in_lines texts) _ mid new end hides g)
