-- Scripts where their lines' variables have numbers, and by name.
use Rattle.std.proofs.Common.{◌≡◌, ◌≢◌, ℕ, ◌+◌, ◌<◌, ◌≤◌, List, [], ◌∷◌, ◌++◌, Bool, true, false, not, ◌&&◌, ◌||◌, cond, if◌then◌else◌, length, get_or, drop, take, map, find, append-nil, Option, Some, None, is_some, Result, Ok, Err, unwrap_or, codes, refl, sym, ap, ◌∙◌, subst, ◌⊎◌, inl, inr, add-one, drop-cons}
use Rattle.std.proofs.lemmas.Grind.{flat_map-append}
use Rattle.std.proofs.lemmas.List.{drop_all, take_all, take_more}
use Rattle.std.specs.List.{flat_map}
use Rattle.std.specs.Global.{Box}
use Rattle.std.specs.Option.{option_map}
use Rattle.std.specs.String.{string_bytes}
use Rattle.just_text.specs.Tokens.{lexeme}
use Rattle.just_text.specs.declared.name.Name.{Name}
use Rattle.tree_expressions.specs.declared.expression.Expression.{Expression}
use Rattle.tree_attributes.specs.Settings.{interpreter_shape}
use Rattle.tree_attributes.specs.declared.attribute.Attribute.{Attribute}
use Rattle.tree_attributes.specs.declared.attribute.Attribute.TheVariants.{Script}
use Rattle.tree_attributes.specs.declared.attribute.AttributeKind.TheVariants.{Script as ScriptKind}
use Rattle.tree_attributes.specs.declared.setting.Interpreter.{Interpreter}
use Rattle.tree_attributes.specs.Sets.Sets.{is_of, items_of}
use Rattle.tree_attributes.specs.declared.attribute_item.AttributeItem.{AttributeItem}
use Rattle.tree_items.specs.Lines.{Piece, pieces_of}
use Rattle.tree_items.specs.declared.line.Line.{Line}
use Rattle.just_host.specs.declared.entry.Entry.{Entry}
use Rattle.just_host.specs.declared.entry.Entry.TheVariants.{Show}
use Rattle.just_host.specs.declared.job.Pair.{Pair}
use Rattle.just_host.specs.declared.job.ScriptJob.{ScriptJob}
use Rattle.just_host.specs.Follows.{Follows}
use Rattle.just_host.specs.Record.{Record}
use Rattle.evaluate_context.specs.Folders.{folder_below}
use Rattle.evaluate_context.specs.Refusals.{fault_of, seen}
use Rattle.evaluate_context.specs.Shells.{script_words}
use Rattle.evaluate_context.specs.Surroundings.{by_name, given, removed, surroundings_of}
use Rattle.evaluate_context.specs.declared.error.Error.{Error}
use Rattle.evaluate_expressions.specs.Situations.{reading_at, stage_at}
use Rattle.evaluate_expressions.specs.declared.evaluator.Evaluator.{Evaluator}
use Rattle.meaning_dialogues.specs.Dialogue.{Dialogue, Evaluates, Reading}
use Rattle.meaning_dialogues.specs.Evaluation.{dialogues, interpreter_dialogue}
use Rattle.meaning_dialogues.specs.Faults.{Fault, memory}
use Rattle.meaning_dialogues.specs.Terms.{terms_of}
use Rattle.meaning_evaluation.specs.Stages.Lines.{line_dialogue, piece_of}
use Rattle.meaning_runs.specs.Failures.{Failure, Next}
use Rattle.meaning_evaluation.specs.Bodies.{first_words, has_shebang, in_lines, script_job, shebang_words, shows_script}
use Rattle.meaning_evaluation.specs.Bodies as calls
use Rattle.meaning_evaluation.specs.Calling.{without_next}
use Rattle.laws_evaluation.specs.Bodies.Marked.{BeginsAs, BeginsShebang}
use Rattle.laws_evaluation.specs.Bodies.Performing.{Performs, Stays}
use Rattle.laws_evaluation.proofs.Bodies.Performing.{stays_through}
use Rattle.laws_evaluation.proofs.Bodies.Scripts.{LeadsTexts, texts_first, texts_more, texts_stop, texts_memory, texts_end, words_written, words_stop, words_unnamed, words_plain, script_shown, script_hidden}
use Rattle.justfile_evaluator.specs.Bodies.{IsBodyOf, IsSiteOf, MeansInterpreter, NamedBody, script_of}
use Rattle.justfile_evaluator.specs.Ended.{failure_of, next_of}
use Rattle.justfile_evaluator.specs.Scripts.{GivesWords, IsScriptOf, handed_of, plain_words, positional_in, script_job_in, script_name, set_interpreter, shows_script_in, texts_of, words_of}
use Rattle.justfile_evaluator.specs.Sites.{attribute_in, extension_in, folder_in, interpreter_at, interpreter_in, script_shape, standing_at}
use Rattle.justfile_evaluator.specs.declared.fault.RunFault.{RunFault}
use Rattle.justfile_evaluator.specs.declared.site.Site.{Site}

-- ---- the texts of lines

pieces_at : (body : List Line) (i : ℕ) (x : Line) → i < length body → x ≡ get_or body i x → map pieces_of (drop i body) ≡ pieces_of x ∷ map pieces_of (drop (i + 1) body)
pieces_at body i x lt is =
    let e : drop i body ≡ x ∷ drop (i + 1) body = rw (add-one, drop-cons body i x lt, ← is) refl in
    ap (map pieces_of) e

module _ (b : NamedBody) (site : Site) (evaluator : Evaluator) (body : List Line) where
  -- whatever the lines from this one on give, all give with these texts in front
  abbrev pub Leads : ℕ → List Entry → List Entry → List (List ℕ) → Type 0
  Leads i old now texts = LeadsTexts b.configuration b.scene b.name b.recipe b.flag b.bound b.reading (map pieces_of (drop i body)) old now texts

  abbrev pub Text : Line → List Entry → List Entry → Result (List ℕ) Fault → Type 0
  Text x old new r = Evaluates (reading_at evaluator) (line_dialogue (stage_at evaluator) false [] (map piece_of x.fragments.items)) old new r

  module _ (is : IsBodyOf b site evaluator body) where
    pub lines_first : (old : List Entry) → Leads 0 old old []
    lines_first old = subst (λ lines. LeadsTexts b.configuration b.scene b.name b.recipe b.flag b.bound b.reading lines old old []) (sym is.body) (texts_first b.configuration b.scene b.name b.recipe b.flag b.bound b.reading old)

    by_name_at : (i : ℕ) (x : Line) (old new : List Entry) (r : Result (List ℕ) Fault) → i < length body → x ≡ get_or body i x → Text x old new r
        → Evaluates b.reading (calls.line_text b.configuration b.scene b.name b.recipe b.flag b.bound false (pieces_of x)) old new r
    by_name_at i x old new r lt e h =
        subst (λ y. Evaluates b.reading (calls.line_text b.configuration b.scene b.name b.recipe b.flag b.bound false (pieces_of y)) old new r) (sym e)
        ((is.lines i x lt).by_name false old new r (subst (λ y. Text y old new r) e h))

    pub lines_more : (old mid new : List Entry) (texts : List (List ℕ)) (i : ℕ) (x : Line) (text : List ℕ) → Leads i old mid texts → i < length body → x ≡ get_or body i x → Text x mid new (Ok text) → Leads (i + 1) old new (texts ++ text ∷ [])
    lines_more old mid new texts i x text h lt e g =
        texts_more b.configuration b.scene b.name b.recipe b.flag b.bound b.reading old mid new texts (pieces_of x) (map pieces_of (drop (i + 1) body)) text
        (subst (λ lines. LeadsTexts b.configuration b.scene b.name b.recipe b.flag b.bound b.reading lines old mid texts) (pieces_at body i x lt e) h) (by_name_at i x mid new (Ok text) lt e g)

    pub lines_stop : (old mid new : List Entry) (texts : List (List ℕ)) (i : ℕ) (x : Line) (f : Fault) → Leads i old mid texts → i < length body → x ≡ get_or body i x → Text x mid new (Err f) → Evaluates b.reading (texts_of b) old new (Err f)
    lines_stop old mid new texts i x f h lt e g =
        texts_stop b.configuration b.scene b.name b.recipe b.flag b.bound b.reading old mid new texts (pieces_of x) (map pieces_of (drop (i + 1) body)) f
        (subst (λ lines. LeadsTexts b.configuration b.scene b.name b.recipe b.flag b.bound b.reading lines old mid texts) (pieces_at body i x lt e) h) (by_name_at i x mid new (Err f) lt e g)

    pub lines_memory : (old now : List Entry) (texts : List (List ℕ)) (i : ℕ) → Leads i old now texts → Evaluates b.reading (texts_of b) old now (Err memory)
    lines_memory old now texts i h = texts_memory b.configuration b.scene b.name b.recipe b.flag b.bound b.reading old now texts (map pieces_of (drop i body)) h

    pub lines_end : (old new : List Entry) (texts : List (List ℕ)) (i : ℕ) → Leads i old new texts → length body ≤ i → Evaluates b.reading (texts_of b) old new (Ok texts)
    lines_end old new texts i h over =
        texts_end b.configuration b.scene b.name b.recipe b.flag b.bound b.reading old new texts (map pieces_of (drop i body)) h (ap (map pieces_of) (drop_all i body over))

-- ---- the words of the interpreter

named_written : (o : Option AttributeItem) (recipe : Name) (a : Attribute) → ((item : AttributeItem) → o ≡ Some item → lexeme item.name.token ≡ codes "script") → option_map (λ item. item.attribute) o ≡ Some a
    → lexeme (unwrap_or (option_map (λ item. item.name) o) recipe).token ≡ codes "script"
named_written (Some item) recipe a w e = w item refl
named_written None recipe a w e = absurd (cc)

script_given : (o : Option Attribute) (i : Interpreter Expression) → interpreter_at o ≡ Some i → (boxed : Box (Interpreter Expression)) × (o ≡ Some (Script (Some boxed))) × (boxed.value ≡ i)
script_given (Some (Script (Some boxed))) i e = (boxed, refl, cc)
script_given (Some (Script None)) i e = absurd (cc)
script_given (Some other) i e = absurd (cc)
script_given None i e = absurd (cc)

script_unnamed : (o : Option Attribute) → interpreter_at o ≡ None → (script_shape o ≡ None) ⊎ (script_shape o ≡ Some None)
script_unnamed (Some (Script None)) e = inr refl
script_unnamed (Some (Script (Some i))) e = absurd (cc)
script_unnamed (Some other) e = inl refl
script_unnamed None e = inl refl

module _ (b : NamedBody) (site : Site) (evaluator : Evaluator) (texts : List (List ℕ)) (is : IsScriptOf b site evaluator texts) where
  plain_first : (begins : Bool) (texts : List (List ℕ)) → plain_words begins b.scene.row.script_interpreter texts ≡ first_words b.configuration b.scene b.name b.recipe b.flag b.bound begins texts
  plain_first true (text ∷ texts) = refl
  plain_first true [] = refl
  plain_first false texts = refl

  -- where an attribute names an interpreter
  pub words_named : (i : Interpreter Expression) (old new : List Entry) (r : Result (List (List ℕ)) Error) → interpreter_in site.attributes.now ≡ Some i
      → GivesWords (reading_at evaluator) (interpreter_dialogue (lexeme (script_name site.attributes.now site.name).token) (dialogues (stage_at evaluator) (terms_of (i.command ∷ i.arguments.items)))) old new r → Evaluates b.reading (words_of b texts) old new (seen r)
  words_named i old new (Ok words) named g =
      let given = script_given (attribute_in ScriptKind site.attributes.now) i named in
      let spelled = named_written (find (is_of ScriptKind) (items_of site.attributes.now)) site.name (Script (Some given.0)) is.interpreter.written given.1 in
      let h = subst (λ n. Evaluates (reading_at evaluator) (interpreter_dialogue n (dialogues (stage_at evaluator) (terms_of (i.command ∷ i.arguments.items)))) old new (Ok g.0)) spelled g.1 in
      rw g.2 (words_written b.configuration b.scene b.name b.recipe b.flag b.bound b.reading b.recipe.script (interpreter_shape i) texts old new g.0 (sym is.site.recipe.script ∙ ap script_shape given.1 ∙ ap (λ v. Some (Some (interpreter_shape v))) given.2) (is.interpreter.by_name i named old new (Ok g.0) h))
  words_named i old new (Err error) named g =
      let given = script_given (attribute_in ScriptKind site.attributes.now) i named in
      let spelled = named_written (find (is_of ScriptKind) (items_of site.attributes.now)) site.name (Script (Some given.0)) is.interpreter.written given.1 in
      let h = subst (λ n. Evaluates (reading_at evaluator) (interpreter_dialogue n (dialogues (stage_at evaluator) (terms_of (i.command ∷ i.arguments.items)))) old new (Err (fault_of error))) spelled g in
      words_stop b.configuration b.scene b.name b.recipe b.flag b.bound b.reading b.recipe.script (interpreter_shape i) texts old new (fault_of error) (sym is.site.recipe.script ∙ ap script_shape given.1 ∙ ap (λ v. Some (Some (interpreter_shape v))) given.2) (is.interpreter.by_name i named old new (Err (fault_of error)) h)

  -- where none does
  pub words_default : (words : List (List ℕ)) (old : List Entry) → interpreter_in site.attributes.now ≡ None → words ≡ plain_words site.manner.has_shebang (set_interpreter site) texts → Evaluates b.reading (words_of b texts) old old (Ok words)
  words_default words old unnamed e =
      let m = has_shebang b.configuration b.scene b.name b.recipe b.flag b.bound b.recipe.body in
      let are : words ≡ first_words b.configuration b.scene b.name b.recipe b.flag b.bound m texts
      = e ∙ ap (λ v. plain_words v (set_interpreter site) texts) is.site.recipe.has_shebang ∙ ap (λ s. plain_words m s texts) is.site.settings.script_interpreter ∙ plain_first m texts in
      elim (script_unnamed (attribute_in ScriptKind site.attributes.now) unnamed) [
        | inl n ↦ words_plain b.configuration b.scene b.name b.recipe b.flag b.bound b.reading b.recipe.script texts words old (sym is.site.recipe.script ∙ n) are
        | inr n ↦ words_unnamed b.configuration b.scene b.name b.recipe b.flag b.bound b.reading b.recipe.script texts words old (sym is.site.recipe.script ∙ n) are
      ]

-- ---- the job

folder_same : (p q r s : Bool) (f g : Option (List ℕ)) (a d : List ℕ) → p ≡ q → r ≡ s → f ≡ g → a ≡ d → cond (p || (r && not (is_some f))) None (Some (folder_below a f)) ≡ cond (q || (s && not (is_some g))) None (Some (folder_below d g))
folder_same p q r s f g a d e1 e2 e3 e4 = rw (e1, e2, e3, e4) refl

words_same : (p q : Bool) (xs ys : List (List ℕ)) → p ≡ q → (q ≡ true → xs ≡ ys) → (if p then xs else []) ≡ (if q then ys else [])
words_same p true xs ys e h = rw (e, h refl) refl
words_same p false xs ys e h = rw e refl

abbrev job_with : List (List ℕ) → List (List ℕ) → List (List ℕ) → Option (List ℕ) → List Pair → List (List ℕ) → Option (List ℕ) → ScriptJob
job_with words texts positional extension pairs removed folder = record {
  interpreter = words;
  lines = texts;
  positional = positional;
  extension = extension;
  pairs = pairs;
  removed = removed;
  folder = folder;
}

job_same : (words texts p p' : List (List ℕ)) (e e' : Option (List ℕ)) (pairs pairs' : List Pair) (r r' : List (List ℕ)) (f f' : Option (List ℕ)) → p ≡ p' → e ≡ e' → pairs ≡ pairs' → r ≡ r' → f ≡ f' → job_with words texts p e pairs r f ≡ job_with words texts p' e' pairs' r' f'
job_same words texts p p' e e' pairs pairs' r r' f f' h1 h2 h3 h4 h5 = rw (h1, h2, h3, h4, h5) refl

-- a job whose parts are those of the site is the site's
pub job_of_parts : (site : Site) (words texts positional : List (List ℕ)) (extension : Option (List ℕ)) (pairs : List Pair) (removed_ : List (List ℕ)) (folder : Option (List ℕ))
    → positional ≡ positional_in site → extension ≡ extension_in site.attributes.now → pairs ≡ by_name (given (surroundings_of site.context.now) (standing_at site)) → removed_ ≡ removed (surroundings_of site.context.now) (standing_at site) → folder ≡ folder_in site.context.now site.attributes.now
    → job_with words texts positional extension pairs removed_ folder ≡ script_job_in site words texts
job_of_parts site words texts positional extension pairs removed_ folder h1 h2 h3 h4 h5 = job_same words texts _ _ _ _ _ _ _ _ _ _ h1 h2 h3 h4 h5

-- what is handed over, by name
pub job_by_name : (b : NamedBody) (site : Site) (words texts : List (List ℕ)) → IsSiteOf b site → script_job_in site words texts ≡ script_job b.configuration b.scene b.name b.recipe b.flag b.bound words texts
job_by_name b site words texts is =
    job_same words texts _ _ _ _ _ _ _ _ _ _
    (words_same site.manner.passes_words b.recipe.passes_words _ _ is.recipe.passes_words is.environment.words)
    is.recipe.extension is.environment.pairs is.environment.removed
    (folder_same _ _ _ _ _ _ _ _ is.recipe.no_cd is.settings.no_cd is.recipe.folder is.environment.folder)

-- ---- how it ends

pub ends_well : (goes_on : Bool) (next : Result Next Failure) → next_of (Ok goes_on) ≡ next → Ok tt ≡ without_next next
ends_well true next e = ap without_next e
ends_well false next e = ap without_next e

pub ends_ill : (fault : RunFault) (next : Result Next Failure) → next_of (Err fault) ≡ next → Err (failure_of fault) ≡ without_next next
ends_ill fault next e = ap without_next e

-- ---- the whole script

module _ {H : Type 0} (b : NamedBody) (site : Site) (is : IsSiteOf b site) (goes : H → List Entry → H → Type 0) where
  shows_same : shows_script_in site ≡ shows_script b.configuration b.scene b.name b.recipe b.flag b.bound
  shows_same = rw (is.configuration.dry_run, is.configuration.loquacious, is.recipe.is_quiet) refl

  shown_by : (v : Bool) (old mid seen new : Record H) (texts : List (List ℕ)) (end : Result (Unit {0}) Failure) → shows_script_in site ≡ v → Evaluates b.reading (texts_of b) old.entries mid.entries (Ok texts) → Stays mid seen
      → (v ≡ true → Follows goes mid (Show (in_lines texts) ∷ []) seen) → (v ≡ false → seen ≡ mid) → Stays seen new → Performs b.reading (handed_of b b.configuration.dry_run texts) seen new end → Performs b.reading (script_of b) old new end
  shown_by true old mid seen new texts end e h before shown hidden after g =
      script_shown b.configuration b.scene b.name b.recipe b.flag b.bound b.reading goes old mid seen new texts (in_lines texts) end h before (sym shows_same ∙ e) refl (shown refl) after g
  shown_by false old mid seen new texts end e h before shown hidden after g =
      script_hidden b.configuration b.scene b.name b.recipe b.flag b.bound b.reading goes old mid new texts end h (stays_through mid seen new before after) (sym shows_same ∙ e)
      (subst (λ r. Performs b.reading (handed_of b b.configuration.dry_run texts) r new end) (hidden refl) g)

  -- the lines have texts, which are shown where they are to be, and then handed over
  pub script_then : (old mid seen new : Record H) (texts : List (List ℕ)) (end : Result (Unit {0}) Failure) → Evaluates b.reading (texts_of b) old.entries mid.entries (Ok texts) → Stays mid seen
      → (shows_script_in site ≡ true → Follows goes mid (Show (in_lines texts) ∷ []) seen) → (shows_script_in site ≡ false → seen ≡ mid) → Stays seen new → Performs b.reading (handed_of b b.configuration.dry_run texts) seen new end
      → Performs b.reading (script_of b) old new end
  script_then old mid seen new texts end h before shown hidden after g = shown_by (shows_script_in site) old mid seen new texts end refl h before shown hidden after g

-- ---- the words where no attribute names an interpreter

module _ (set : Option (List (List ℕ))) where
  pub plain_unmarked : (begins : Bool) (texts : List (List ℕ)) → begins ≡ false → plain_words begins set texts ≡ script_words set
  plain_unmarked begins texts e = rw e refl

  pub plain_empty : (begins : Bool) (texts : List (List ℕ)) → begins ≡ true → texts ≡ [] → plain_words begins set texts ≡ script_words set
  plain_empty begins texts e none = rw (e, none) refl

  pub plain_marked : (begins : Bool) (texts : List (List ℕ)) (first : List ℕ) (others : List (List ℕ)) → begins ≡ true → texts ≡ first ∷ others → plain_words begins set texts ≡ shebang_words first
  plain_marked begins texts first others e are = rw (e, are) refl

pub first_begins : (begins : Bool) (texts : List (List ℕ)) (first : List ℕ) (others : List (List ℕ)) → begins ≡ true → texts ≡ first ∷ others → BeginsAs begins texts → BeginsShebang first
first_begins begins texts first others e are h = rw (e, are) at h

-- ---- the lines as one text

abbrev pub after_newlines : List (List ℕ) → List ℕ
after_newlines others = flat_map (λ more. codes "\n" ++ more) others

pub joined_more : (others : List (List ℕ)) (i : ℕ) (x : List ℕ) → i < length others → x ≡ get_or others i x → after_newlines (take (i + 1) others) ≡ after_newlines (take i others) ++ (10 ∷ x)
joined_more others i x lt is =
    ap after_newlines (take_more others i x lt ∙ ap (λ y. take i others ++ y ∷ []) (sym is)) ∙ flat_map-append (λ more. codes "\n" ++ more) (take i others) (x ∷ []) ∙ ap (λ l. after_newlines (take i others) ++ l) (append-nil (10 ∷ x))

pub joined_end : (lines others : List (List ℕ)) (first all : List ℕ) (i : ℕ) → lines ≡ first ∷ others → length others ≤ i → all ≡ first ++ after_newlines (take i others) → all ≡ in_lines lines
joined_end lines others first all i are over e = rw are (e ∙ ap (λ l. first ++ after_newlines l) (take_all i others over))
