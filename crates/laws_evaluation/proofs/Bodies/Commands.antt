-- The lines of a body, one after another.
use Rattle.std.proofs.Common.{◌≡◌, ℕ, List, [], ◌∷◌, ◌++◌, append_assoc, append-nil, Bool, true, false, not, cond, ◌&&◌, Result, Ok, Err, refl, sym, ap, subst, drop}
use Rattle.std.specs.List.{onto_first}
use Rattle.just_host.specs.declared.entry.Entry.{Entry}
use Rattle.just_host.specs.Record.{Record}
use Rattle.tree_items.specs.Lines.{Piece, sigil_count, is_comment}
use Rattle.tree_items.specs.declared.line.Sigils.{Sigils}
use Rattle.meaning_dialogues.specs.Faults.{Fault, memory}
use Rattle.meaning_dialogues.specs.Dialogue.{Begins, Dialogue, Ends, Evaluates, Reading}
use Rattle.meaning_dialogues.specs.Dialogue as dialogues
use Rattle.meaning_evaluation.specs.Stages.Parameters.{Bound}
use Rattle.meaning_runs.specs.Failures.{Failure, evaluation, Next, goes_on, stops}
use Rattle.meaning_runs.specs.Task.{Task, as_failure, lift, ◌>>=◌, TaskBegins, TaskLeads}
use Rattle.meaning_runs.proofs.Tasks.{lift_goes}
use Rattle.meaning_runs.proofs.Beginnings.{task_begins_first, task_begins_here}
use Rattle.just_host.specs.Steps.{was_open}
use Rattle.meaning_evaluation.specs.Named.{RecipeRow}
use Rattle.meaning_evaluation.specs.Scopes.{Configuration, Scene}
use Rattle.meaning_evaluation.specs.Bodies.{first_of, goes_on_below, cut, commands, closed_if, line_text, command_text, marks_of}
use Rattle.meaning_evaluation.specs.Calling.{running, and_others, lines_task}
use Rattle.laws_evaluation.specs.Bodies.Performing.{Performs, Stays, LeadsOn}
use Rattle.laws_evaluation.specs.Bodies.Left.{added, left_after, runs_then, rest_of, opened, left, marks_with, text_with}
use Rattle.laws_evaluation.proofs.Bodies.Orders.{leads_regrouped, leads_lifted, leads_then, leads_stops, leads_alike}
use Rattle.laws_evaluation.proofs.Bodies.Performing.{performs_cut, performs_then, performs_stops, performs_ends, leads_first, leads_end, leads_more, on_begins}

module _ (c : Configuration) (scene : Scene) (name : List ℕ) (recipe : RecipeRow) (flag : Bool) (bound : Bound) (reading : Reading) where
  abbrev Text : Bool → List Piece → Dialogue (List ℕ)
  Text = line_text c scene name recipe flag bound

  abbrev Whole : Bool → List (List Piece) → Dialogue (List ℕ)
  Whole = command_text c scene name recipe flag bound

  abbrev Then : Sigils → List ℕ → Task (Unit {0}) → Task (Unit {0})
  Then = runs_then c scene name recipe flag bound

  -- ---- one line of a command

  -- a line leads to its text, and so its command to where its other lines lead
  line_then : (continued : Bool) (line : List Piece) (others : List (List Piece)) (k : List ℕ → Task (Unit {0})) (old mid new : List Entry) (text : List ℕ) (r : Result (Unit {0}) Failure)
      → TaskLeads reading (lift (Text continued line)) old mid (Ok text) → TaskLeads reading (lift (Whole true others) >>= λ more. k (added line text ++ more)) mid new r
      → TaskLeads reading (lift (Whole continued (line ∷ others)) >>= k) old new r
  line_then continued line others k old mid new text r h g =
      let rest : List ℕ → Dialogue (List ℕ) = λ text. dialogues.◌>>=◌ (Whole true others) (λ more. Ends (Ok (added line text ++ more))) in
      leads_lifted reading (Text continued line) rest k old new r
      (leads_then reading (lift (Text continued line)) (λ text. lift (rest text) >>= k) old mid new text r h
      (leads_lifted reading (Whole true others) (λ more. Ends (Ok (added line text ++ more))) k mid new r g))

  -- a line has a fault, and so its command has
  line_stops : (continued : Bool) (line : List Piece) (others : List (List Piece)) (k : List ℕ → Task (Unit {0})) (old new : List Entry) (f : Failure)
      → TaskLeads reading (lift (Text continued line)) old new (Err f) → TaskLeads reading (lift (Whole continued (line ∷ others)) >>= k) old new (Err f)
  line_stops continued line others k old new f h =
      let rest : List ℕ → Dialogue (List ℕ) = λ text. dialogues.◌>>=◌ (Whole true others) (λ more. Ends (Ok (added line text ++ more))) in
      leads_lifted reading (Text continued line) rest k old new (Err f) (leads_stops reading (lift (Text continued line)) (λ text. lift (rest text) >>= k) old new f h)

  -- the marks of a command by its first line
  abbrev Marks : List Piece → Sigils
  Marks line = marks_of c scene name recipe flag bound (line ∷ [])

  abbrev Others : List (List (List Piece)) → Task (Unit {0})
  Others = lines_task c scene name recipe flag bound

  -- a command whose text leads to its run, and then the others, is the first of the commands
  as_command : (line : List Piece) (others : List (List Piece)) (groups : List (List (List Piece))) (old new : List Entry) (r : Result (Unit {0}) Failure)
      → TaskLeads reading (lift (Whole false (line ∷ others)) >>= λ t. Then (Marks line) t (Others groups)) old new r → TaskLeads reading (Others ((line ∷ others) ∷ groups)) old new r
  as_command line others groups old new r h =
      leads_regrouped reading (lift (Whole false (line ∷ others))) (λ t. running c scene name recipe flag bound (Marks line) (drop (sigil_count (Marks line)) t)) (and_others c scene name recipe flag bound (Others groups)) old new r h

  -- the first line of a command
  begun : (line : List Piece) (groups : List (List (List Piece))) (old mid new : List Entry) (text : List ℕ) (r : Result (Unit {0}) Failure)
      → TaskLeads reading (lift (Text false line)) old mid (Ok text) → TaskLeads reading (opened c scene name recipe flag bound (Marks line) (added line text) groups) mid new r
      → TaskLeads reading (Others (onto_first line groups)) old new r
  begun line [] old mid new text r h g = as_command line [] [] old new r (line_then false line [] (λ t. Then (Marks line) t (Others [])) old mid new text r h g)
  begun line (others ∷ groups) old mid new text r h g = as_command line others groups old new r (line_then false line others (λ t. Then (Marks line) t (Others groups)) old mid new text r h g)

  begun_stops : (line : List Piece) (groups : List (List (List Piece))) (old new : List Entry) (f : Failure)
      → TaskLeads reading (lift (Text false line)) old new (Err f) → TaskLeads reading (Others (onto_first line groups)) old new (Err f)
  begun_stops line [] old new f h = as_command line [] [] old new (Err f) (line_stops false line [] (λ t. Then (Marks line) t (Others [])) old new f h)
  begun_stops line (others ∷ groups) old new f h = as_command line others groups old new (Err f) (line_stops false line others (λ t. Then (Marks line) t (Others groups)) old new f h)

  -- a line that goes on with a command
  joined_to : (sigils : Sigils) (so_far : List ℕ) (line : List Piece) (others : List (List Piece)) (after : Task (Unit {0})) (old mid new : List Entry) (text : List ℕ) (r : Result (Unit {0}) Failure)
      → TaskLeads reading (lift (Text true line)) old mid (Ok text) → TaskLeads reading (rest_of c scene name recipe flag bound sigils (so_far ++ added line text) others after) mid new r
      → TaskLeads reading (rest_of c scene name recipe flag bound sigils so_far (line ∷ others) after) old new r
  joined_to sigils so_far line others after old mid new text r h g =
      line_then true line others (λ t. Then sigils (so_far ++ t) after) old mid new text r h
      (leads_alike reading (Whole true others) (λ more. Then sigils ((so_far ++ added line text) ++ more) after) (λ more. Then sigils (so_far ++ (added line text ++ more)) after) mid new r (λ more. ap (λ t. Then sigils t after) (append_assoc so_far (added line text) more)) g)

  joined_on : (sigils : Sigils) (so_far : List ℕ) (line : List Piece) (groups : List (List (List Piece))) (old mid new : List Entry) (text : List ℕ) (r : Result (Unit {0}) Failure)
      → TaskLeads reading (lift (Text true line)) old mid (Ok text) → TaskLeads reading (opened c scene name recipe flag bound sigils (so_far ++ added line text) groups) mid new r
      → TaskLeads reading (opened c scene name recipe flag bound sigils so_far (onto_first line groups)) old new r
  joined_on sigils so_far line [] old mid new text r h g = joined_to sigils so_far line [] (Others []) old mid new text r h g
  joined_on sigils so_far line (others ∷ groups) old mid new text r h g = joined_to sigils so_far line others (Others groups) old mid new text r h g

  joined_stops : (sigils : Sigils) (so_far : List ℕ) (line : List Piece) (groups : List (List (List Piece))) (old new : List Entry) (f : Failure)
      → TaskLeads reading (lift (Text true line)) old new (Err f) → TaskLeads reading (opened c scene name recipe flag bound sigils so_far (onto_first line groups)) old new (Err f)
  joined_stops sigils so_far line [] old new f h = line_stops true line [] (λ t. Then sigils (so_far ++ t) (Others [])) old new f h
  joined_stops sigils so_far line (others ∷ groups) old new f h = line_stops true line others (λ t. Then sigils (so_far ++ t) (Others groups)) old new f h

  -- ---- what is left of the lines

  -- a line is a comment that is passed over
  abbrev pub is_passed : Bool → Bool → List Piece → Bool
  is_passed skips inside line = not inside && (skips && is_comment (first_of line))

  commands_at : (skips : Bool) (line : List Piece) (lines : List (List Piece)) → is_passed skips false line ≡ false → commands skips (line ∷ lines) ≡ onto_first line (left_after skips line lines)
  commands_at skips line lines e = ap (λ b. cond b (cut skips false lines) (onto_first line (left_after skips line lines))) e

  commands_past : (skips : Bool) (line : List Piece) (lines : List (List Piece)) → is_passed skips false line ≡ true → commands skips (line ∷ lines) ≡ commands skips lines
  commands_past skips line lines e = ap (λ b. cond b (cut skips false lines) (onto_first line (left_after skips line lines))) e

  -- what is left after a line that was read: the rest of its command, and the commands after it
  abbrev pub left_read : Bool → Bool → Sigils → List ℕ → List Piece → List (List Piece) → List ℕ → Task (Unit {0})
  left_read skips inside sigils so_far line lines text = opened c scene name recipe flag bound (marks_with c scene name recipe flag bound inside sigils line) (text_with c scene name recipe flag bound inside so_far line text) (left_after skips line lines)

  -- a line is read
  read_leads : (skips inside : Bool) (sigils : Sigils) (so_far : List ℕ) (line : List Piece) (lines : List (List Piece)) (old mid new : List Entry) (text : List ℕ) (r : Result (Unit {0}) Failure) → is_passed skips inside line ≡ false
      → TaskLeads reading (lift (Text inside line)) old mid (Ok text) → TaskLeads reading (left_read skips inside sigils so_far line lines text) mid new r
      → TaskLeads reading (left c scene name recipe flag bound skips inside sigils so_far (line ∷ lines)) old new r
  read_leads skips true sigils so_far line lines old mid new text r e h g = joined_on sigils so_far line (left_after skips line lines) old mid new text r h g
  read_leads skips false sigils so_far line lines old mid new text r e h g =
      subst (λ l. TaskLeads reading (Others l) old new r) (sym (commands_at skips line lines e)) (begun line (left_after skips line lines) old mid new text r h g)

  read_stops : (skips inside : Bool) (sigils : Sigils) (so_far : List ℕ) (line : List Piece) (lines : List (List Piece)) (old new : List Entry) (f : Failure) → is_passed skips inside line ≡ false
      → TaskLeads reading (lift (Text inside line)) old new (Err f) → TaskLeads reading (left c scene name recipe flag bound skips inside sigils so_far (line ∷ lines)) old new (Err f)
  read_stops skips true sigils so_far line lines old new f e h = joined_stops sigils so_far line (left_after skips line lines) old new f h
  read_stops skips false sigils so_far line lines old new f e h =
      subst (λ l. TaskLeads reading (Others l) old new (Err f)) (sym (commands_at skips line lines e)) (begun_stops line (left_after skips line lines) old new f h)

  -- what begins the text of a line begins what is left with it
  read_begins : (skips inside : Bool) (sigils : Sigils) (so_far : List ℕ) (line : List Piece) (lines : List (List Piece)) (old new : List Entry) → is_passed skips inside line ≡ false
      → Begins reading (Text inside line) old new → TaskBegins reading (left c scene name recipe flag bound skips inside sigils so_far (line ∷ lines)) old new
  read_begins skips inside sigils so_far line lines old new e b = by_end b.result (lift_goes reading (Text inside line) old (new ++ b.rest) b.result b.goes)
    where
      by_end : (r : Result (List ℕ) Fault) → TaskLeads reading (lift (Text inside line)) old (new ++ b.rest) (as_failure r) → TaskBegins reading (left c scene name recipe flag bound skips inside sigils so_far (line ∷ lines)) old new
      by_end (Ok text) h =
          let next = task_begins_here reading (left_read skips inside sigils so_far line lines text) (new ++ b.rest) in
          record {
            rest = b.rest ++ next.rest;
            result = next.result;
            leads = subst (λ last. TaskLeads reading (left c scene name recipe flag bound skips inside sigils so_far (line ∷ lines)) old last next.result) (append_assoc new b.rest next.rest)
                (read_leads skips inside sigils so_far line lines old (new ++ b.rest) ((new ++ b.rest) ++ next.rest) text next.result e h next.leads);
          }
      by_end (Err f) h = record { rest = b.rest; result = Err (evaluation f); leads = read_stops skips inside sigils so_far line lines old (new ++ b.rest) (evaluation f) e h }

  -- ---- the loop over the lines

  abbrev pub all_lines : Bool → List (List Piece) → Task (Unit {0})
  all_lines skips body = Others (commands skips body)

  module _ {H : Type 0} (skips : Bool) (body : List (List Piece)) where
    -- where memory sufficed as yet, whatever the lines that are left lead to from here, all lead to; a command may be open
    abbrev pub LeadsLines : Bool → Sigils → List ℕ → List (List Piece) → Record H → Record H → Type 0
    LeadsLines inside sigils so_far lines old now = LeadsOn reading (all_lines skips body) (left c scene name recipe flag bound skips inside sigils so_far lines) old now

    -- the same where a line was read, before it is known whether its command ends there
    abbrev pub LeadsRead : Sigils → List ℕ → List (List (List Piece)) → Record H → Record H → Type 0
    LeadsRead sigils text groups old now = LeadsOn reading (all_lines skips body) (opened c scene name recipe flag bound sigils text groups) old now

    -- before the first line
    pub lines_first : (old : Record H) (sigils : Sigils) (so_far : List ℕ) → LeadsLines false sigils so_far body old old
    lines_first old sigils so_far = leads_first reading (all_lines skips body) old

    -- a comment where no command is open is passed over
    pub lines_passed : (old now : Record H) (inside : Bool) (sigils : Sigils) (so_far : List ℕ) (line : List Piece) (lines : List (List Piece)) → inside ≡ false → LeadsLines inside sigils so_far (line ∷ lines) old now → (skips && is_comment (first_of line)) ≡ true
        → LeadsLines inside sigils so_far lines old now
    lines_passed old now false sigils so_far line lines closed h e = subst (λ l. LeadsOn reading (all_lines skips body) (Others l) old now) (commands_past skips line lines e) h
    lines_passed old now true sigils so_far line lines closed h e = absurd (cc)

    -- a line is read: its text is put to that of its command
    pub lines_read : (old mid new : Record H) (inside : Bool) (sigils : Sigils) (so_far : List ℕ) (line : List Piece) (lines : List (List Piece)) (text : List ℕ) → LeadsLines inside sigils so_far (line ∷ lines) old mid → is_passed skips inside line ≡ false
        → Stays mid new → Evaluates reading (Text inside line) mid.entries new.entries (Ok text)
        → LeadsRead (marks_with c scene name recipe flag bound inside sigils line) (text_with c scene name recipe flag bound inside so_far line text) (left_after skips line lines) old new
    lines_read old mid new inside sigils so_far line lines text h e stays g =
        leads_more reading (all_lines skips body) (left c scene name recipe flag bound skips inside sigils so_far (line ∷ lines)) (left_read skips inside sigils so_far line lines text) old mid new h stays
        (λ still last r d. read_leads skips inside sigils so_far line lines mid.entries new.entries last text r e (lift_goes reading (Text inside line) mid.entries new.entries (Ok text) (g.goes (λ q. cc))) d)
        (read_begins skips inside sigils so_far line lines mid.entries new.entries e g.begins)

    -- a line has a fault
    pub lines_stop : (old mid new : Record H) (inside : Bool) (sigils : Sigils) (so_far : List ℕ) (line : List Piece) (lines : List (List Piece)) (f : Fault) → LeadsLines inside sigils so_far (line ∷ lines) old mid → is_passed skips inside line ≡ false
        → Stays mid new → Evaluates reading (Text inside line) mid.entries new.entries (Err f) → Performs reading (all_lines skips body) old new (Err (evaluation f))
    lines_stop old mid new inside sigils so_far line lines f h e stays g = record {
      goes = λ still n. h.on (was_open mid new stays still) new.entries (Err (evaluation f))
          (read_stops skips inside sigils so_far line lines mid.entries new.entries (evaluation f) e (lift_goes reading (Text inside line) mid.entries new.entries (Err f) (g.goes (λ q. n (cc)))));
      begins = on_begins reading (all_lines skips body) (left c scene name recipe flag bound skips inside sigils so_far (line ∷ lines)) old mid new h stays (read_begins skips inside sigils so_far line lines mid.entries new.entries e g.begins);
    }

    -- memory ran out about a line that was read
    pub lines_memory : (old mid new : Record H) (inside : Bool) (sigils : Sigils) (so_far : List ℕ) (line : List Piece) (lines : List (List Piece)) (r : Result (List ℕ) Fault) → LeadsLines inside sigils so_far (line ∷ lines) old mid → is_passed skips inside line ≡ false
        → Stays mid new → Evaluates reading (Text inside line) mid.entries new.entries r → Performs reading (all_lines skips body) old new (Err (evaluation memory))
    lines_memory old mid new inside sigils so_far line lines r h e stays g =
        performs_cut reading (all_lines skips body) old new
        (on_begins reading (all_lines skips body) (left c scene name recipe flag bound skips inside sigils so_far (line ∷ lines)) old mid new h stays (read_begins skips inside sigils so_far line lines mid.entries new.entries e g.begins))

    -- the line goes on: its command is open
    pub lines_open : (old now : Record H) (sigils : Sigils) (text : List ℕ) (line : List Piece) (lines : List (List Piece)) → LeadsRead sigils text (left_after skips line lines) old now → goes_on_below line ≡ true → LeadsLines true sigils text lines old now
    lines_open old now sigils text line lines h e = subst (λ b. LeadsOn reading (all_lines skips body) (opened c scene name recipe flag bound sigils text (closed_if (not b) (cut skips b lines))) old now) e h

    -- the text of a command is whole
    abbrev pub LeadsWhole : Sigils → List ℕ → List (List Piece) → Record H → Record H → Type 0
    LeadsWhole sigils text lines old now = LeadsOn reading (all_lines skips body) (Then sigils text (Others (commands skips lines))) old now

    whole_text : (old now : Record H) (sigils : Sigils) (text : List ℕ) (lines : List (List Piece)) → LeadsRead sigils text ([] ∷ commands skips lines) old now → LeadsWhole sigils text lines old now
    whole_text old now sigils text lines h = subst (λ t. LeadsOn reading (all_lines skips body) (Then sigils t (Others (commands skips lines))) old now) (append-nil text) h

    -- the line ends its command
    pub lines_closed : (old now : Record H) (sigils : Sigils) (text : List ℕ) (line : List Piece) (lines : List (List Piece)) → LeadsRead sigils text (left_after skips line lines) old now → goes_on_below line ≡ false → LeadsWhole sigils text lines old now
    lines_closed old now sigils text line lines h e =
        whole_text old now sigils text lines (subst (λ b. LeadsOn reading (all_lines skips body) (opened c scene name recipe flag bound sigils text (closed_if (not b) (cut skips b lines))) old now) e h)

    -- the body ends where a command is open, which ends there too
    pub lines_cut_off : (old now : Record H) (sigils : Sigils) (text : List ℕ) (lines : List (List Piece)) → LeadsLines true sigils text lines old now → lines ≡ [] → LeadsWhole sigils text [] old now
    lines_cut_off old now sigils text lines h e = whole_text old now sigils text [] (subst (λ l. LeadsLines true sigils text l old now) e h)

    module _ (old mid new : Record H) (sigils : Sigils) (text : List ℕ) (lines : List (List Piece)) (h : LeadsWhole sigils text lines old mid) (stays : Stays mid new) where
      abbrev Runs : Result Next Failure → Type 0
      Runs next = Performs reading (running c scene name recipe flag bound sigils (drop (sigil_count sigils) text)) mid new next

      -- a command after which the body goes on
      pub lines_more : (after : Sigils) (so_far : List ℕ) → Runs (Ok goes_on) → LeadsLines false after so_far lines old new
      lines_more after so_far g =
          leads_more reading (all_lines skips body) (Then sigils text (Others (commands skips lines))) (Others (commands skips lines)) old mid new h stays
          (λ still last r d. leads_then reading _ _ mid.entries new.entries last goes_on r (g.goes still (λ q. cc)) d)
          (task_begins_first reading (running c scene name recipe flag bound sigils (drop (sigil_count sigils) text)) (and_others c scene name recipe flag bound (Others (commands skips lines))) mid.entries new.entries g.begins)

      -- a command that ends the body with success
      pub lines_ended : Runs (Ok stops) → Performs reading (all_lines skips body) old new (Ok tt)
      lines_ended g = leads_end reading (all_lines skips body) _ old mid new (Ok tt) h stays (performs_then reading _ _ mid new new stops (Ok tt) g (λ full. refl) (performs_ends reading new (Ok tt)))

      -- a command that fails
      pub lines_failed : (f : Failure) → Runs (Err f) → Performs reading (all_lines skips body) old new (Err f)
      lines_failed f g = leads_end reading (all_lines skips body) _ old mid new (Err f) h stays (performs_stops reading _ _ mid new f g)

    -- no line is left, and no command is open
    pub lines_end : (old now : Record H) (sigils : Sigils) (so_far : List ℕ) (lines : List (List Piece)) → LeadsLines false sigils so_far lines old now → lines ≡ [] → Performs reading (all_lines skips body) old now (Ok tt)
    lines_end old now sigils so_far lines h e = leads_end reading (all_lines skips body) _ old now now (Ok tt) (subst (λ l. LeadsLines false sigils so_far l old now) e h) (λ full. refl) (performs_ends reading now (Ok tt))
