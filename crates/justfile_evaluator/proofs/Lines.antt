-- The lines of a body: each step by its task.
use Rattle.std.proofs.Common.{◌≡◌, ◌≢◌, ℕ, ◌+◌, ◌==◌, ◌<◌, ◌≤◌, Bool, true, false, not, ◌&&◌, if◌then◌else◌, List, [], ◌∷◌, ◌++◌, map, length, get_or, drop, All, Result, Ok, Err, refl, sym, ap, ◌∙◌, subst, add-one, drop-cons, arith}
use Rattle.std.proofs.lemmas.Bool.{eqb-true}
use Rattle.std.proofs.lemmas.List.{drop_all}
use Rattle.std.proofs.lemmas.List.Elements.{All-get_or}
use Rattle.std.specs.String.{string_bytes}
use Rattle.just_text.specs.Tokens.{lexeme}
use Rattle.just_host.specs.declared.entry.Entry.{Entry}
use Rattle.just_host.specs.declared.entry.Entry.TheVariants.{Line as LineEntry, Show}
use Rattle.just_host.specs.declared.host.Status.{Status}
use Rattle.just_host.specs.declared.job.CommandJob.{CommandJob}
use Rattle.just_host.specs.Follows.{Follows, Nothing}
use Rattle.just_host.specs.Record.{Record}
use Rattle.tree_items.specs.Lines.{Piece, is_comment, pieces_of, sigil_count, sigils_of}
use Rattle.tree_items.specs.declared.line.Line.{Line}
use Rattle.tree_items.specs.declared.line.Sigils.{Sigils}
use Rattle.evaluate_context.specs.Refusals.{fault_of}
use Rattle.evaluate_context.specs.declared.error.Error.{Error}
use Rattle.meaning_dialogues.specs.Dialogue.{Evaluates}
use Rattle.meaning_dialogues.specs.Faults.{Fault}
use Rattle.meaning_runs.specs.Failures.{Failure, evaluation, Next, goes_on, next_by}
use Rattle.meaning_runs.specs.Task.{Task}
use Rattle.meaning_evaluation.specs.Bodies.{first_of, goes_on_below, line_text}
use Rattle.meaning_evaluation.specs.Calling.{handing, running}
use Rattle.laws_evaluation.specs.Bodies.Left.{added, left, marks_with, text_with}
use Rattle.laws_evaluation.specs.Bodies.Marked.{BeginsMarked}
use Rattle.laws_evaluation.specs.Bodies.Performing.{LeadsOn, Performs, Stays}
use Rattle.laws_evaluation.proofs.Bodies.Jobs.{handed_dry, handed_line, runs_none, runs_shown, runs_hidden}
use Rattle.laws_evaluation.proofs.Bodies.Commands.{LeadsWhole, lines_first, lines_passed, lines_read, lines_stop, lines_open, lines_closed, lines_cut_off, lines_more, lines_ended, lines_failed, lines_end}
use Rattle.laws_evaluation.proofs.Bodies.Put.{put_marked}
use Rattle.laws_evaluation.proofs.Bodies.Slashes.{open_slashed}
use Rattle.justfile_evaluator.specs.Bodies.{NamedBody, IsSiteOf, lines_of}
use Rattle.justfile_evaluator.specs.Ended.{ended, failure_of, next_of}
use Rattle.justfile_evaluator.specs.Sites.{job_by, shows_in, template_in}
use Rattle.justfile_evaluator.specs.Turns.{GoesOn, HasRead, IsMarked, IsPut, IsSound, Turned, handed, is_left_out, run, unmarked_text}
use Rattle.justfile_evaluator.specs.declared.body.Command.{Command}
use Rattle.justfile_evaluator.specs.declared.fault.RunFault.{RunFault}
use Rattle.justfile_evaluator.specs.declared.site.Site.{Site}
use Rattle.justfile_evaluator.proofs.Sites.{job_by_name, shows_by_name}

-- ---- the places of lines

-- the lines from a place on
pub at_line : (body : List Line) (i : ℕ) (line : Line) → i < length body → line ≡ get_or body i line → map pieces_of (drop i body) ≡ pieces_of line ∷ map pieces_of (drop (i + 1) body)
at_line body i line lt is =
    let e : drop i body ≡ line ∷ drop (i + 1) body = rw (add-one, drop-cons body i line lt, ← is) refl in
    ap (map pieces_of) e

-- after the last one there is none
pub no_line : (body : List Line) (i : ℕ) → length body ≤ i → map pieces_of (drop i body) ≡ []
no_line body i le = rw (drop_all i body le) refl

-- what holds of all lines holds of one
pub line_means : (P : Line → Type 0) (body : List Line) (i : ℕ) (line : Line) → All P body → i < length body → line ≡ get_or body i line → P line
line_means P body i line all lt is = subst P (sym is) (All-get_or P body i line lt all)

-- ---- one command

no_text : (shown : List ℕ) → (length shown == 0) ≡ true → shown ≡ []
no_text [] e = refl
no_text (byte ∷ bytes) e = absurd (omega (arith, eqb-true (length (byte ∷ bytes)) 0 e))

some_text : (shown text : List ℕ) → shown ≡ text → (length shown == 0) ≡ false → text ≢ []
some_text shown text is some e = let f : (length {A = ℕ} [] == 0) ≡ false = subst (λ l. (length l == 0) ≡ false) (is ∙ e) some in absurd (cc f)

module _ {H : Type 0} (goes : H → List Entry → H → Type 0) (b : NamedBody) (site : Site) (h : IsSiteOf b site) where
  -- a command is handed over, and its status says what follows
  pub hands_over : (command : Command) (sigils : Sigils) (job : CommandJob) (status : Status) (old new : Record H) (result : Result Bool RunFault) → sigils ≡ command.sigils → job ≡ job_by (template_in site) (unmarked_text command)
      → Follows goes old (LineEntry job status ∷ []) new → next_of result ≡ next_by (lexeme site.name.token) sigils status → Performs b.reading (handed b command) old new (next_of result)
  hands_over command sigils job status old new result marks is follows says =
      let own : next_by (lexeme site.name.token) command.sigils status ≡ next_of result = subst (λ s. next_by (lexeme site.name.token) s status ≡ next_of result) marks (sym says) in
      let named : next_by b.name command.sigils status ≡ next_of result = subst (λ n. next_by n command.sigils status ≡ next_of result) h.recipe.name own in
      handed_line b.configuration b.scene b.name b.recipe b.flag b.bound b.reading goes false command.sigils (unmarked_text command) job status old new (next_of result) refl (is ∙ job_by_name b site h (unmarked_text command)) follows named

  abbrev Handing : Bool → Command → Task Next
  Handing dry command = handing b.configuration b.scene b.name b.recipe b.flag b.bound dry command.sigils (unmarked_text command)

  -- a command without text does nothing
  pub runs_nothing : (command : Command) (shown : List ℕ) (old : Record H) → shown ≡ unmarked_text command → (length shown == 0) ≡ true → Performs b.reading (run b command) old old (Ok goes_on)
  runs_nothing command shown old is none = runs_none b.configuration b.scene b.name b.recipe b.flag b.bound b.reading goes command.sigils (unmarked_text command) old (sym is ∙ no_text shown none)

  -- another is shown or not, and then handed over
  runs_either : (command : Command) (old mid new : Record H) (next : Result Next Failure) → unmarked_text command ≢ [] → (shown : Bool) → shows_in site.manner site.context.now.config.now command.sigils.quiet ≡ shown
      → (shown ≡ true → Follows goes old (Show (unmarked_text command) ∷ []) mid) → (shown ≡ false → mid ≡ old) → Stays mid new
      → Performs b.reading (Handing b.configuration.dry_run command) mid new next → Performs b.reading (run b command) old new next
  runs_either command old mid new next some true e first same stays g =
      runs_shown b.configuration b.scene b.name b.recipe b.flag b.bound b.reading goes command.sigils (unmarked_text command) old mid new next some (sym (shows_by_name b site h command.sigils) ∙ e) (first refl) stays g
  runs_either command old mid new next some false e first same stays g =
      runs_hidden b.configuration b.scene b.name b.recipe b.flag b.bound b.reading goes command.sigils (unmarked_text command) old new next some (sym (shows_by_name b site h command.sigils) ∙ e)
      (subst (λ m. Performs b.reading (Handing b.configuration.dry_run command) m new next) (same refl) g)

  abbrev Shown : Command → Bool
  Shown command = shows_in site.manner site.context.now.config.now command.sigils.quiet

  -- a text that is not empty is shown or not, and handed over
  pub runs_handed : (command : Command) (shown : List ℕ) (old mid new : Record H) (next : Result Next Failure) → shown ≡ unmarked_text command → (length shown == 0) ≡ false → (Shown command ≡ true → Follows goes old (Show shown ∷ []) mid)
      → (Shown command ≡ false → mid ≡ old) → Stays mid new → site.context.now.config.now.dry_run ≡ false → Performs b.reading (handed b command) mid new next → Performs b.reading (run b command) old new next
  runs_handed command shown old mid new next is some first same stays dry g =
      runs_either command old mid new next (some_text shown (unmarked_text command) is some) (Shown command) refl (λ e. subst (λ t. Follows goes old (Show t ∷ []) mid) is (first e)) same stays
      (subst (λ d. Performs b.reading (Handing d command) mid new next) (sym (sym h.configuration.dry_run ∙ dry)) g)

  -- in a dry run it is not handed over
  pub runs_dry : (command : Command) (shown : List ℕ) (old mid : Record H) → shown ≡ unmarked_text command → (length shown == 0) ≡ false → (Shown command ≡ true → Follows goes old (Show shown ∷ []) mid) → (Shown command ≡ false → mid ≡ old)
      → site.context.now.config.now.dry_run ≡ true → Performs b.reading (run b command) old mid (Ok goes_on)
  runs_dry command shown old mid is some first same dry =
      runs_either command old mid mid (Ok goes_on) (some_text shown (unmarked_text command) is some) (Shown command) refl (λ e. subst (λ t. Follows goes old (Show t ∷ []) mid) is (first e)) same (λ full. refl)
      (handed_dry b.configuration b.scene b.name b.recipe b.flag b.bound b.reading goes b.configuration.dry_run command.sigils (unmarked_text command) mid (sym h.configuration.dry_run ∙ dry))

-- ---- one line

module _ (b : NamedBody) where
  abbrev Text : Bool → List Piece → List Entry → List Entry → Result (List ℕ) Fault → Type 0
  Text inside line old new r = Evaluates b.reading (line_text b.configuration b.scene b.name b.recipe b.flag b.bound inside line) old new r

  marks_same : (inside guards : Bool) (sigils : Sigils) (line : List Piece) → guards ≡ b.scene.row.guards → (if inside then sigils else sigils_of guards (first_of line)) ≡ marks_with b.configuration b.scene b.name b.recipe b.flag b.bound inside sigils line
  marks_same true guards sigils line e = refl
  marks_same false guards sigils line e = ap (λ g. sigils_of g (first_of line)) e

  text_same : (inside : Bool) (so_far : List ℕ) (line : List Piece) (all : List ℕ) → (if inside then so_far ++ added line all else added line all) ≡ text_with b.configuration b.scene b.name b.recipe b.flag b.bound inside so_far line all
  text_same true so_far line all = refl
  text_same false so_far line all = refl

  -- a line was read and put to the command
  pub was_read : {H : Type 0} (guards : Bool) (old new : Command) (line : List Piece) (all : List ℕ) (before after : Record H) → guards ≡ b.scene.row.guards
      → Text old.is_open line before.entries after.entries (Ok all) → IsSound old → IsPut guards old line all new → HasRead b old line new before after
  was_read guards old new line all before after same given sound put =
      let marks = put.marks ∙ marks_same old.is_open guards old.sigils line same in
      let whole = put.whole (λ e. open_slashed b.configuration b.scene b.name b.recipe b.flag b.bound b.reading old.is_open line before.entries after.entries all e put.valid given) ∙ text_same old.is_open (string_bytes old.text) line all in
      record {
        text = all;
        evaluates = given;
        goes_on = put.goes_on;
        marks = marks;
        whole = whole;
        sound = subst (λ s. BeginsMarked (sigil_count s) (string_bytes new.text)) (sym marks) (subst (λ t. BeginsMarked (sigil_count (marks_with b.configuration b.scene b.name b.recipe b.flag b.bound old.is_open old.sigils line)) t) (sym whole) (put_marked b.configuration b.scene b.name b.recipe b.flag b.bound b.reading old.is_open old.sigils (string_bytes old.text) line before.entries after.entries all sound put.valid given));
      }

-- ---- one line after another

left_out : (inside skips named comment : Bool) → skips ≡ named → ((not inside && skips) && comment) ≡ true → (inside ≡ false) × ((named && comment) ≡ true)
left_out false true named comment e h = (refl, rw (← e) h)
left_out false false named comment e h = absurd (cc h)
left_out true skips named comment e h = absurd (cc h)

kept : (inside skips named comment : Bool) → skips ≡ named → ((not inside && skips) && comment) ≡ false → (not inside && (named && comment)) ≡ false
kept false skips named comment e h = rw (← e) h
kept true skips named comment e h = refl

-- a body ends so after its last command
abbrev pub ended_as : Result Bool RunFault → Result (Unit {0}) RunFault
ended_as (Ok more) = Ok tt
ended_as (Err fault) = Err fault

module _ {H : Type 0} (b : NamedBody) (site : Site) (h : IsSiteOf b site) (start : Record H) where
  abbrev Skips : Bool
  Skips = b.scene.row.ignore_comments

  -- before the first line
  pub begins : (command : Command) (lines : List (List Piece)) → lines ≡ b.recipe.body → command.is_open ≡ false → GoesOn b command lines start start
  begins command lines all e = subst (λ l. GoesOn b command l start start) (sym all) (record {
    leads = subst (λ o. LeadsOn b.reading (lines_of b) (left b.configuration b.scene b.name b.recipe b.flag b.bound Skips o command.sigils (string_bytes command.text) b.recipe.body) start start) (sym e) (lines_first b.configuration b.scene b.name b.recipe b.flag b.bound b.reading Skips b.recipe.body start command.sigils (string_bytes command.text));
    sound = λ o. absurd (cc (e, o));
  })

  -- a comment is left out
  pub passes : (now : Record H) (command : Command) (line : List Piece) (lines : List (List Piece)) → is_left_out site command line ≡ true → GoesOn b command (line ∷ lines) start now → GoesOn b command lines start now
  passes now command line lines e g = record {
    leads = lines_passed b.configuration b.scene b.name b.recipe b.flag b.bound b.reading Skips b.recipe.body start now command.is_open command.sigils (string_bytes command.text) line lines (left_out command.is_open _ Skips (is_comment (first_of line)) h.settings.ignore_comments e).0 g.leads (left_out command.is_open _ Skips (is_comment (first_of line)) h.settings.ignore_comments e).1;
    sound = g.sound;
  }

  -- a line has a fault
  pub stops_at : (mid new : Record H) (command : Command) (line : List Piece) (lines : List (List Piece)) (error : Error) (fault : RunFault) → is_left_out site command line ≡ false → Stays mid new
      → GoesOn b command (line ∷ lines) start mid → Evaluates b.reading (line_text b.configuration b.scene b.name b.recipe b.flag b.bound command.is_open line) mid.entries new.entries (Err (fault_of error))
      → failure_of fault ≡ evaluation (fault_of error) → Performs b.reading (lines_of b) start new (Err (failure_of fault))
  stops_at mid new command line lines error fault e stays g given same =
      rw same (lines_stop b.configuration b.scene b.name b.recipe b.flag b.bound b.reading Skips b.recipe.body start mid new command.is_open command.sigils (string_bytes command.text) line lines (fault_of error) g.leads (kept command.is_open _ Skips (is_comment (first_of line)) h.settings.ignore_comments e) stays given)

  -- a line was read, after which its command is open
  pub opens : (mid new : Record H) (old command : Command) (line : List Piece) (lines : List (List Piece)) → is_left_out site old line ≡ false → Stays mid new → GoesOn b old (line ∷ lines) start mid
      → HasRead b old line command mid new → command.is_open ≡ true → GoesOn b command lines start new
  opens mid new old command line lines e stays g given is_open =
      let read = lines_read b.configuration b.scene b.name b.recipe b.flag b.bound b.reading Skips b.recipe.body start mid new old.is_open old.sigils (string_bytes old.text) line lines given.text g.leads (kept old.is_open _ Skips (is_comment (first_of line)) h.settings.ignore_comments e) stays given.evaluates in
      let left_on = lines_open b.configuration b.scene b.name b.recipe b.flag b.bound b.reading Skips b.recipe.body start new (marks_with b.configuration b.scene b.name b.recipe b.flag b.bound old.is_open old.sigils line) (text_with b.configuration b.scene b.name b.recipe b.flag b.bound old.is_open (string_bytes old.text) line given.text) line lines read (sym given.goes_on ∙ is_open) in
      let marked = subst (λ s. LeadsOn b.reading (lines_of b) (left b.configuration b.scene b.name b.recipe b.flag b.bound Skips true s (text_with b.configuration b.scene b.name b.recipe b.flag b.bound old.is_open (string_bytes old.text) line given.text) lines) start new) (sym given.marks) left_on in
      let whole = subst (λ t. LeadsOn b.reading (lines_of b) (left b.configuration b.scene b.name b.recipe b.flag b.bound Skips true command.sigils t lines) start new) (sym given.whole) marked in
      record { leads = subst (λ o. LeadsOn b.reading (lines_of b) (left b.configuration b.scene b.name b.recipe b.flag b.bound Skips o command.sigils (string_bytes command.text) lines) start new) (sym is_open) whole; sound = λ o. given.sound }

  -- what a command that is whole, and that ran, leads to
  ran_to : (ran new : Record H) (sigils : Sigils) (whole : List ℕ) (after : Command) (lines : List (List Piece)) (result : Result Bool RunFault) → LeadsWhole b.configuration b.scene b.name b.recipe b.flag b.bound b.reading Skips b.recipe.body sigils whole lines start ran
      → Stays ran new → after.is_open ≡ false → Performs b.reading (running b.configuration b.scene b.name b.recipe b.flag b.bound sigils (drop (sigil_count sigils) whole)) ran new (next_of result) → Turned b after lines start new result
  ran_to ran new sigils whole after lines (Ok true) leads stays closed g = record {
    leads = subst (λ o. LeadsOn b.reading (lines_of b) (left b.configuration b.scene b.name b.recipe b.flag b.bound Skips o after.sigils (string_bytes after.text) lines) start new) (sym closed) (lines_more b.configuration b.scene b.name b.recipe b.flag b.bound b.reading Skips b.recipe.body start ran new sigils whole lines leads stays after.sigils (string_bytes after.text) g);
    sound = λ o. absurd (cc (closed, o));
  }
  ran_to ran new sigils whole after lines (Ok false) leads stays closed g = lines_ended b.configuration b.scene b.name b.recipe b.flag b.bound b.reading Skips b.recipe.body start ran new sigils whole lines leads stays g
  ran_to ran new sigils whole after lines (Err fault) leads stays closed g = lines_failed b.configuration b.scene b.name b.recipe b.flag b.bound b.reading Skips b.recipe.body start ran new sigils whole lines leads stays (failure_of fault) g

  -- a line was read that ends its command, which then ran
  pub runs_to : (mid ran new : Record H) (old command after : Command) (line : List Piece) (lines : List (List Piece)) (result : Result Bool RunFault) → is_left_out site old line ≡ false → Stays mid ran → GoesOn b old (line ∷ lines) start mid
      → HasRead b old line command mid ran → command.is_open ≡ false → Stays ran new → after ≡ command → Performs b.reading (run b command) ran new (next_of result) → Turned b after lines start new result
  runs_to mid ran new old command after line lines result e stays g given closed stays_then same performed =
      let read = lines_read b.configuration b.scene b.name b.recipe b.flag b.bound b.reading Skips b.recipe.body start mid ran old.is_open old.sigils (string_bytes old.text) line lines given.text g.leads (kept old.is_open _ Skips (is_comment (first_of line)) h.settings.ignore_comments e) stays given.evaluates in
      let whole = lines_closed b.configuration b.scene b.name b.recipe b.flag b.bound b.reading Skips b.recipe.body start ran (marks_with b.configuration b.scene b.name b.recipe b.flag b.bound old.is_open old.sigils line) (text_with b.configuration b.scene b.name b.recipe b.flag b.bound old.is_open (string_bytes old.text) line given.text) line lines read (sym given.goes_on ∙ closed) in
      let now : after.is_open ≡ false = ap (λ c. c.is_open) same ∙ closed in
      let marked = subst (λ s. LeadsWhole b.configuration b.scene b.name b.recipe b.flag b.bound b.reading Skips b.recipe.body s (text_with b.configuration b.scene b.name b.recipe b.flag b.bound old.is_open (string_bytes old.text) line given.text) lines start ran) (sym given.marks) whole in
      let all = subst (λ t. LeadsWhole b.configuration b.scene b.name b.recipe b.flag b.bound b.reading Skips b.recipe.body command.sigils t lines start ran) (sym given.whole) marked in
      ran_to ran new command.sigils (string_bytes command.text) after lines result all stays_then now performed

  -- a line after which the body ends, and one after which it goes on
  pub turned_false : (now : Record H) (command : Command) (lines : List (List Piece)) (more : Bool) → more ≡ false → Turned b command lines start now (Ok more) → Performs b.reading (lines_of b) start now (Ok tt)
  turned_false now command lines false e t = t
  turned_false now command lines true e t = absurd (cc e)

  pub turned_true : (now : Record H) (command : Command) (lines : List (List Piece)) (more : Bool) → more ≡ true → Turned b command lines start now (Ok more) → GoesOn b command lines start now
  turned_true now command lines true e t = t
  turned_true now command lines false e t = absurd (cc e)

  -- the body ends where no command is open
  pub ends_closed : (now : Record H) (command : Command) (lines : List (List Piece)) → GoesOn b command lines start now → lines ≡ [] → command.is_open ≡ false → Performs b.reading (lines_of b) start now (Ok tt)
  ends_closed now command lines g none closed =
      lines_end b.configuration b.scene b.name b.recipe b.flag b.bound b.reading Skips b.recipe.body start now command.sigils (string_bytes command.text) lines (subst (λ o. LeadsOn b.reading (lines_of b) (left b.configuration b.scene b.name b.recipe b.flag b.bound Skips o command.sigils (string_bytes command.text) lines) start now) closed g.leads) none

  -- the body ends where a command is open, which then runs
  pub ends_open : (ran new : Record H) (command : Command) (lines : List (List Piece)) (result : Result Bool RunFault) → GoesOn b command lines start ran → lines ≡ [] → command.is_open ≡ true → Stays ran new
      → Performs b.reading (run b command) ran new (next_of result) → Performs b.reading (lines_of b) start new (ended (ended_as result))
  ends_open ran new command lines result g none is_open stays performed =
      ending result (lines_cut_off b.configuration b.scene b.name b.recipe b.flag b.bound b.reading Skips b.recipe.body start ran command.sigils (string_bytes command.text) lines (subst (λ o. LeadsOn b.reading (lines_of b) (left b.configuration b.scene b.name b.recipe b.flag b.bound Skips o command.sigils (string_bytes command.text) lines) start ran) is_open g.leads) none) performed
    where
      ending : (r : Result Bool RunFault) → LeadsWhole b.configuration b.scene b.name b.recipe b.flag b.bound b.reading Skips b.recipe.body command.sigils (string_bytes command.text) [] start ran → Performs b.reading (run b command) ran new (next_of r) → Performs b.reading (lines_of b) start new (ended (ended_as r))
      ending (Ok true) leads p =
          let more = lines_more b.configuration b.scene b.name b.recipe b.flag b.bound b.reading Skips b.recipe.body start ran new command.sigils (string_bytes command.text) [] leads stays command.sigils (string_bytes command.text) p in
          lines_end b.configuration b.scene b.name b.recipe b.flag b.bound b.reading Skips b.recipe.body start new command.sigils (string_bytes command.text) [] more refl
      ending (Ok false) leads p = lines_ended b.configuration b.scene b.name b.recipe b.flag b.bound b.reading Skips b.recipe.body start ran new command.sigils (string_bytes command.text) [] leads stays p
      ending (Err fault) leads p = lines_failed b.configuration b.scene b.name b.recipe b.flag b.bound b.reading Skips b.recipe.body start ran new command.sigils (string_bytes command.text) [] leads stays (failure_of fault) p
