-- The lines of a body one after another, as a loop reads them, are the task of its commands.
use Rattle.std.proofs.Common.{◌≡◌, ℕ, List, [], ◌∷◌, ◌++◌, append-nil, Bool, true, false, not, cond, ◌&&◌, Result, Ok, Err, refl, sym, ap, ◌∙◌, subst, if◌then◌else◌, drop}
use Rattle.std.specs.List.{onto_first}
use Rattle.just_host.specs.declared.entry.Entry.{Entry}
use Rattle.tree_items.specs.Lines.{Piece, sigil_count, is_comment}
use Rattle.tree_items.specs.declared.line.Sigils.{Sigils}
use Rattle.meaning_dialogues.specs.Dialogue.{Dialogue, Ends, Asks, Reads as ReadsOf, Reading}
use Rattle.meaning_dialogues.specs.Dialogue as dialogues
use Rattle.meaning_dialogues.proofs.Dialogues.{weaker}
use Rattle.meaning_evaluation.specs.Stages.Parameters.{Bound}
use Rattle.meaning_runs.specs.Failures.{Failure, Next, goes_on, stops}
use Rattle.meaning_evaluation.specs.Named.{RecipeRow}
use Rattle.meaning_evaluation.specs.Scopes.{Configuration, Scene}
use Rattle.meaning_evaluation.specs.Bodies.{first_of, goes_on_below, without_last, cut, commands, closed_if, line_text, command_text, marks_of}
use Rattle.meaning_evaluation.specs.Calling.{running, one_command, lines_task}
use Rattle.meaning_runs.specs.Task.{lift, TaskGoes}
use Rattle.meaning_runs.proofs.Tasks.{begins_more, begins_as}
use Rattle.meaning_runs.proofs.Tasks as laws

module _ {A B : Type 0} (reading : Reading) (k : A → Dialogue B) where
  -- one dialogue after another, as tasks
  lift_goes_on : (t : Dialogue A) (piece more : List Entry) (a : A) (r : Result B Failure) → TaskGoes reading (lift t) piece (Ok a) → TaskGoes reading (lift (k a)) more r → TaskGoes reading (lift (dialogues.◌>>=◌ t k)) (piece ++ more) r
  lift_goes_on (Ends (Ok b)) piece more a r h g =
      let e : a ≡ b = cc in
      subst (λ l. TaskGoes reading (lift (k b)) (l ++ more) r) (sym h.0) (subst (λ x. TaskGoes reading (lift (k x)) more r) e g)
  lift_goes_on (Ends (Err f)) piece more a r h g = absurd (cc)
  lift_goes_on (Asks q next) piece more a r h g = (h.0, begins_more more _ _ (λ rest b. lift_goes_on (next h.0) rest more a r b g) h.1)
  lift_goes_on (ReadsOf p x next) piece more a r h g = weaker (reading p x) (λ v b. lift_goes_on (next v) piece more a r b g) (λ f b. absurd (cc)) h

  lift_stops : (t : Dialogue A) (piece : List Entry) (failure : Failure) → TaskGoes reading (lift t) piece (Err failure) → TaskGoes reading (lift (dialogues.◌>>=◌ t k)) piece (Err failure)
  lift_stops (Ends (Ok b)) piece failure h = absurd (cc)
  lift_stops (Ends (Err f)) piece failure h = (h.0, cc)
  lift_stops (Asks q next) piece failure h = (h.0, begins_as _ _ (λ rest b. lift_stops (next h.0) rest failure b) h.1)
  lift_stops (ReadsOf p x next) piece failure h = weaker (reading p x) (λ v b. lift_stops (next v) piece failure b) (λ f b. (b.0, cc)) h

module _ (c : Configuration) (scene : Scene) (name : List ℕ) (recipe : RecipeRow) (flag : Bool) (bound : Bound) (reading : Reading) where
  abbrev LineGoes : Bool → List Piece → List Entry → Result (List ℕ) Failure → Type 0
  LineGoes continued line piece r = TaskGoes reading (lift (line_text c scene name recipe flag bound continued line)) piece r

  abbrev RunsText : Sigils → List ℕ → List Entry → Result Next Failure → Type 0
  RunsText sigils text piece next = TaskGoes reading (running c scene name recipe flag bound sigils (drop (sigil_count sigils) text)) piece next

  -- The text of the command that a line begins, and the lines that are left: a line that goes on is joined with those after it.
  pub data Reads : Bool → List (List Piece) → List Entry → List (List Piece) → Result (List ℕ) Failure → Type 0 where
    whole : {continued : Bool} {line : List Piece} {lines : List (List Piece)} {piece : List Entry} {text : List ℕ}
        → goes_on_below line ≡ false → LineGoes continued line piece (Ok text) → Reads continued (line ∷ lines) piece lines (Ok text)
    at_end : {continued : Bool} {line : List Piece} {piece : List Entry} (text : List ℕ)
        → goes_on_below line ≡ true → LineGoes continued line piece (Ok text) → Reads continued (line ∷ []) piece [] (Ok (without_last text))
    joined : {continued : Bool} {line next : List Piece} {lines rest : List (List Piece)} {more : List ℕ} (piece behind : List Entry) (text : List ℕ)
        → goes_on_below line ≡ true → LineGoes continued line piece (Ok text) → Reads true (next ∷ lines) behind rest (Ok more)
        → Reads continued (line ∷ next ∷ lines) (piece ++ behind) rest (Ok (without_last text ++ more))

  -- what is left of the lines, where the first is that of a command
  abbrev left_by : Bool → List Piece → List (List Piece) → List (List (List Piece))
  left_by skips line lines = onto_first line (closed_if (not (goes_on_below line)) (cut skips (goes_on_below line) lines))

  -- the lines of a command, in a row
  pub record Command (skips continued : Bool) (lines : List (List Piece)) (piece : List Entry) (rest : List (List Piece)) (text : List ℕ) : Type 0 where
    pub line : List Piece
    pub others : List (List Piece)
    pub behind : List (List Piece)
    pub begins : lines ≡ line ∷ behind
    pub is : left_by skips line behind ≡ (line ∷ others) ∷ cut skips false rest
    pub goes : TaskGoes reading (lift (command_text c scene name recipe flag bound continued (line ∷ others))) piece (Ok text)

  left_whole : (skips : Bool) (line : List Piece) (lines : List (List Piece)) (b : Bool) → goes_on_below line ≡ b → b ≡ false → left_by skips line lines ≡ (line ∷ []) ∷ cut skips false lines
  left_whole skips line lines b e f = ap (λ g. onto_first line (closed_if (not g) (cut skips g lines))) (e ∙ f)

  left_more : (skips : Bool) (line : List Piece) (lines : List (List Piece)) → goes_on_below line ≡ true → left_by skips line lines ≡ onto_first line (cut skips true lines)
  left_more skips line lines e = ap (λ g. onto_first line (closed_if (not g) (cut skips g lines))) e

  text_alone : (continued : Bool) (line : List Piece) (piece : List Entry) (text : List ℕ) → LineGoes continued line piece (Ok text)
      → TaskGoes reading (lift (command_text c scene name recipe flag bound continued (line ∷ []))) piece (Ok (if goes_on_below line then without_last text else text))
  text_alone continued line piece text h =
      subst (λ l. TaskGoes reading (lift (command_text c scene name recipe flag bound continued (line ∷ []))) l (Ok (if goes_on_below line then without_last text else text))) (append-nil piece)
      (lift_goes_on reading _ (line_text c scene name recipe flag bound continued line) piece [] text _ h (refl, ap Ok (sym (append-nil _))))

  text_more : (continued : Bool) (line : List Piece) (others : List (List Piece)) (piece behind : List Entry) (text more : List ℕ) → LineGoes continued line piece (Ok text)
      → TaskGoes reading (lift (command_text c scene name recipe flag bound true others)) behind (Ok more)
      → TaskGoes reading (lift (command_text c scene name recipe flag bound continued (line ∷ others))) (piece ++ behind) (Ok ((if goes_on_below line then without_last text else text) ++ more))
  text_more continued line others piece behind text more h g =
      let front : List ℕ = if goes_on_below line then without_last text else text in
      let k : List ℕ → Dialogue (List ℕ) = λ m. Ends (Ok (front ++ m)) in
      let inner : TaskGoes reading (lift (dialogues.◌>>=◌ (command_text c scene name recipe flag bound true others) k)) behind (Ok (front ++ more)) =
      subst (λ l. TaskGoes reading (lift (dialogues.◌>>=◌ (command_text c scene name recipe flag bound true others) k)) l (Ok (front ++ more))) (append-nil behind)
      (lift_goes_on reading k (command_text c scene name recipe flag bound true others) behind [] more (Ok (front ++ more)) g (refl, refl)) in
      lift_goes_on reading _ (line_text c scene name recipe flag bound continued line) piece behind text _ h inner

  -- what is read so is the text of a command of the body
  pub command_read : (skips : Bool) {continued : Bool} {lines rest : List (List Piece)} {piece : List Entry} {text : List ℕ} → Reads continued lines piece rest (Ok text) → Command skips continued lines piece rest text
  command_read skips (whole {continued = k} {line = line} {lines = lines} {piece = piece} {text = text} e h) = record {
    line = line;
    others = [];
    behind = lines;
    begins = refl;
    is = left_whole skips line lines _ refl e;
    goes = subst (λ b. TaskGoes reading (lift (command_text c scene name recipe flag bound k (line ∷ []))) piece (Ok (if b then without_last text else text))) e (text_alone k line piece text h);
  }
  command_read skips (at_end {continued = k} {line = line} {piece = piece} text e h) = record {
    line = line;
    others = [];
    behind = [];
    begins = refl;
    is = left_more skips line [] e;
    goes = subst (λ b. TaskGoes reading (lift (command_text c scene name recipe flag bound k (line ∷ []))) piece (Ok (if b then without_last text else text))) e (text_alone k line piece text h);
  }
  command_read skips (joined {continued = k} {line = line} {next = next} {lines = lines} {rest = rest} {more = more} piece behind text e h r) =
      let s = command_read skips r in
      let same : next ∷ lines ≡ s.line ∷ s.behind = s.begins in
      record {
        line = line;
        others = s.line ∷ s.others;
        behind = next ∷ lines;
        begins = refl;
        is = left_more skips line (next ∷ lines) e ∙ (ap (λ l. onto_first line (cut skips true l)) same ∙ ap (onto_first line) s.is);
        goes = subst (λ b. TaskGoes reading (lift (command_text c scene name recipe flag bound k (line ∷ s.line ∷ s.others))) (piece ++ behind) (Ok ((if b then without_last text else text) ++ more))) e
            (text_more k line (s.line ∷ s.others) piece behind text more h s.goes);
      }

  -- a line of a command that has a fault
  pub data Unread : Bool → List (List Piece) → List Entry → Failure → Type 0 where
    fault : {continued : Bool} {line : List Piece} {lines : List (List Piece)} {piece : List Entry} {f : Failure} → LineGoes continued line piece (Err f) → Unread continued (line ∷ lines) piece f
    fault_below : {continued : Bool} {line next : List Piece} {lines : List (List Piece)} {f : Failure} (piece behind : List Entry) (text : List ℕ)
        → goes_on_below line ≡ true → LineGoes continued line piece (Ok text) → Unread true (next ∷ lines) behind f → Unread continued (line ∷ next ∷ lines) (piece ++ behind) f

  -- the lines of a command whose text has a fault, in a row
  pub record Halted (skips continued : Bool) (lines : List (List Piece)) (piece : List Entry) (f : Failure) : Type 0 where
    pub line : List Piece
    pub others : List (List Piece)
    pub behind : List (List Piece)
    pub groups : List (List (List Piece))
    pub begins : lines ≡ line ∷ behind
    pub is : left_by skips line behind ≡ (line ∷ others) ∷ groups
    pub goes : TaskGoes reading (lift (command_text c scene name recipe flag bound continued (line ∷ others))) piece (Err f)

  -- a command begins with its first line
  onto_some : (line : List Piece) (groups : List (List (List Piece))) → (others : List (List Piece)) × (rest : List (List (List Piece))) × (onto_first line groups ≡ (line ∷ others) ∷ rest)
  onto_some line [] = ([], [], refl)
  onto_some line (g ∷ gs) = (g, gs, refl)

  pub command_unread : (skips : Bool) {continued : Bool} {lines : List (List Piece)} {piece : List Entry} {f : Failure} → Unread continued lines piece f → Halted skips continued lines piece f
  command_unread skips (fault {continued = k} {line = line} {lines = lines} {piece = piece} {f = f} h) =
      let o = onto_some line (closed_if (not (goes_on_below line)) (cut skips (goes_on_below line) lines)) in
      record { line = line; others = o.0; behind = lines; groups = o.1; begins = refl; is = o.2; goes = lift_stops reading _ (line_text c scene name recipe flag bound k line) piece f h }
  command_unread skips (fault_below {continued = k} {line = line} {next = next} {lines = lines} {f = f} piece behind text e h u) =
      let s = command_unread skips u in
      let same : next ∷ lines ≡ s.line ∷ s.behind = s.begins in
      record {
        line = line;
        others = s.line ∷ s.others;
        behind = next ∷ lines;
        groups = s.groups;
        begins = refl;
        is = left_more skips line (next ∷ lines) e ∙ (ap (λ l. onto_first line (cut skips true l)) same ∙ ap (onto_first line) s.is);
        goes = lift_goes_on reading _ (line_text c scene name recipe flag bound k line) piece behind text _ h
            (lift_stops reading _ (command_text c scene name recipe flag bound true (s.line ∷ s.others)) behind f s.goes);
      }

  -- the lines of a body in order, up to the first that fails or a guard that ends it
  pub data Lines (skips : Bool) : List (List Piece) → List Entry → Result (Unit {0}) Failure → Type 0 where
    no_line : Lines skips [] [] (Ok tt)
    skipped : {line : List Piece} {lines : List (List Piece)} {piece : List Entry} {r : Result (Unit {0}) Failure} → (skips && is_comment (first_of line)) ≡ true → Lines skips lines piece r → Lines skips (line ∷ lines) piece r
    ran : {line : List Piece} {lines : List (List Piece)} {r : Result (Unit {0}) Failure} (rest : List (List Piece)) (read told behind : List Entry) (text : List ℕ)
        → (skips && is_comment (first_of line)) ≡ false → Reads false (line ∷ lines) read rest (Ok text) → RunsText (marks_of c scene name recipe flag bound (line ∷ [])) text told (Ok goes_on) → Lines skips rest behind r
        → Lines skips (line ∷ lines) ((read ++ told) ++ behind) r
    guarded : {line : List Piece} {lines : List (List Piece)} (rest : List (List Piece)) (read told : List Entry) (text : List ℕ)
        → (skips && is_comment (first_of line)) ≡ false → Reads false (line ∷ lines) read rest (Ok text) → RunsText (marks_of c scene name recipe flag bound (line ∷ [])) text told (Ok stops)
        → Lines skips (line ∷ lines) (read ++ told) (Ok tt)
    failed : {line : List Piece} {lines : List (List Piece)} {failure : Failure} (rest : List (List Piece)) (read told : List Entry) (text : List ℕ)
        → (skips && is_comment (first_of line)) ≡ false → Reads false (line ∷ lines) read rest (Ok text) → RunsText (marks_of c scene name recipe flag bound (line ∷ [])) text told (Err failure)
        → Lines skips (line ∷ lines) (read ++ told) (Err failure)
    not_read : {line : List Piece} {lines : List (List Piece)} {read : List Entry} {failure : Failure} → (skips && is_comment (first_of line)) ≡ false → Unread false (line ∷ lines) read failure → Lines skips (line ∷ lines) read (Err failure)

  one_goes : (line : List Piece) (others : List (List Piece)) (read told : List Entry) (text : List ℕ) (next : Result Next Failure)
      → TaskGoes reading (lift (command_text c scene name recipe flag bound false (line ∷ others))) read (Ok text) → RunsText (marks_of c scene name recipe flag bound (line ∷ [])) text told next
      → TaskGoes reading (one_command c scene name recipe flag bound (line ∷ others)) (read ++ told) next
  one_goes line others read told text next h g = laws.goes_on reading _ (lift (command_text c scene name recipe flag bound false (line ∷ others))) read told text next h g

  begun : (skips : Bool) (line : List Piece) (lines : List (List Piece)) → (skips && is_comment (first_of line)) ≡ false → commands skips (line ∷ lines) ≡ left_by skips line lines
  begun skips line lines e = ap (λ b. cond b (cut skips false lines) (left_by skips line lines)) e

  passed : (skips : Bool) (line : List Piece) (lines : List (List Piece)) → (skips && is_comment (first_of line)) ≡ true → commands skips (line ∷ lines) ≡ commands skips lines
  passed skips line lines e = ap (λ b. cond b (cut skips false lines) (left_by skips line lines)) e

  abbrev BodyGoes : List (List (List Piece)) → List Entry → Result (Unit {0}) Failure → Type 0
  BodyGoes groups piece r = TaskGoes reading (lines_task c scene name recipe flag bound groups) piece r

  -- the commands of the body, where the first is read from its lines
  as_commands : (skips : Bool) {line : List Piece} {lines rest : List (List Piece)} {read : List Entry} {text : List ℕ} → (skips && is_comment (first_of line)) ≡ false
      → (s : Command skips false (line ∷ lines) read rest text) → commands skips (line ∷ lines) ≡ (line ∷ s.others) ∷ commands skips rest
  as_commands skips {line = line} {lines = lines} {rest = rest} e s =
      let same : line ∷ lines ≡ s.line ∷ s.behind = s.begins in
      let a : s.line ≡ line = cc in
      let b : s.behind ≡ lines = cc in
      begun skips line lines e ∙ (ap (λ l. left_by skips line l) (sym b) ∙ (ap (λ x. left_by skips x s.behind) (sym a) ∙ (s.is ∙ ap (λ x. (x ∷ s.others) ∷ commands skips rest) a)))

  read_from : (skips : Bool) {line : List Piece} {lines rest : List (List Piece)} {read : List Entry} {text : List ℕ} (s : Command skips false (line ∷ lines) read rest text)
      → TaskGoes reading (lift (command_text c scene name recipe flag bound false (line ∷ s.others))) read (Ok text)
  read_from skips {line = line} {lines = lines} {read = read} {text = text} s =
      let same : line ∷ lines ≡ s.line ∷ s.behind = s.begins in
      let a : s.line ≡ line = cc in
      subst (λ x. TaskGoes reading (lift (command_text c scene name recipe flag bound false (x ∷ s.others))) read (Ok text)) a s.goes

  -- what the loop over lines does is what the task of the body does
  pub lines_go : (skips : Bool) {lines : List (List Piece)} {piece : List Entry} {r : Result (Unit {0}) Failure} → Lines skips lines piece r → BodyGoes (commands skips lines) piece r
  lines_go skips no_line = (refl, refl)
  lines_go skips (skipped {line = line} {lines = lines} {piece = piece} {r = r} e h) = subst (λ g. BodyGoes g piece r) (sym (passed skips line lines e)) (lines_go skips h)
  lines_go skips (ran {line = line} {lines = lines} {r = r} rest read told behind text e h g l) =
      let s = command_read skips h in
      subst (λ x. BodyGoes x ((read ++ told) ++ behind) r) (sym (as_commands skips e s))
      (laws.goes_on reading _ (one_command c scene name recipe flag bound (line ∷ s.others)) (read ++ told) behind goes_on r (one_goes line s.others read told text (Ok goes_on) (read_from skips s) g) (lines_go skips l))
  lines_go skips (guarded {line = line} {lines = lines} rest read told text e h g) =
      let s = command_read skips h in
      subst (λ x. BodyGoes x (read ++ told) (Ok tt)) (sym (as_commands skips e s))
      (subst (λ p. BodyGoes ((line ∷ s.others) ∷ commands skips rest) p (Ok tt)) (append-nil (read ++ told))
      (laws.goes_on reading _ (one_command c scene name recipe flag bound (line ∷ s.others)) (read ++ told) [] stops (Ok tt) (one_goes line s.others read told text (Ok stops) (read_from skips s) g) (refl, refl)))
  lines_go skips (failed {line = line} {lines = lines} {failure = failure} rest read told text e h g) =
      let s = command_read skips h in
      subst (λ x. BodyGoes x (read ++ told) (Err failure)) (sym (as_commands skips e s))
      (laws.stops reading _ (one_command c scene name recipe flag bound (line ∷ s.others)) (read ++ told) failure (one_goes line s.others read told text (Err failure) (read_from skips s) g))
  lines_go skips (not_read {line = line} {lines = lines} {read = read} {failure = failure} e u) =
      let s = command_unread skips u in
      let same : line ∷ lines ≡ s.line ∷ s.behind = s.begins in
      let a : s.line ≡ line = cc in
      let b : s.behind ≡ lines = cc in
      let is : commands skips (line ∷ lines) ≡ (line ∷ s.others) ∷ s.groups =
      begun skips line lines e ∙ (ap (λ l. left_by skips line l) (sym b) ∙ (ap (λ x. left_by skips x s.behind) (sym a) ∙ (s.is ∙ ap (λ x. (x ∷ s.others) ∷ s.groups) a))) in
      let goes : TaskGoes reading (lift (command_text c scene name recipe flag bound false (line ∷ s.others))) read (Err failure) =
      subst (λ x. TaskGoes reading (lift (command_text c scene name recipe flag bound false (x ∷ s.others))) read (Err failure)) a s.goes in
      subst (λ x. BodyGoes x read (Err failure)) (sym is)
      (laws.stops reading _ (one_command c scene name recipe flag bound (line ∷ s.others)) read failure (laws.stops reading _ (lift (command_text c scene name recipe flag bound false (line ∷ s.others))) read failure goes))
