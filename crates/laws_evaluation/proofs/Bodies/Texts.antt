-- What the text of a line begins with, and what it ends with.
use Rattle.std.proofs.Common.{◌≡◌, ℕ, Bool, false, List, [], ◌∷◌, ◌++◌, map, append_assoc, append-nil, Option, Some, None, Result, Ok, Err, sym, ◌∙◌, subst, MatchResult}
use Rattle.just_host.specs.declared.entry.Entry.{Entry}
use Rattle.tree_items.specs.Lines.{Piece, text, interpolation, sigils_of, sigil_count}
use Rattle.tree_expressions.specs.Parts.{halved}
use Rattle.parse_expressions.specs.Literals.{Expansion}
use Rattle.meaning_dialogues.specs.Faults.{Fault}
use Rattle.meaning_dialogues.specs.Dialogue.{Dialogue, Ends, Asks, Reads, around, in_module, ◌>>=◌, DialogueGoes, Reading}
use Rattle.meaning_dialogues.specs.Evaluation.{Value, Stage}
use Rattle.meaning_dialogues.specs.Calls.{Frame, in_frame}
use Rattle.meaning_evaluation.specs.Stages.Lines.{TermPiece, line_dialogue, piece_dialogue}
use Rattle.meaning_evaluation.specs.Stages.Parameters.{or_around, under}
use Rattle.meaning_evaluation.specs.Scopes.{piece_in}
use Rattle.meaning_evaluation.specs.Bodies.{first_of}
use Rattle.laws_evaluation.specs.Bodies.Marked.{BeginsMarked, Gives}
use Rattle.laws_evaluation.proofs.Bodies.Marks.{no_marks, text_marked, marked_longer}

-- ---- what all values of a dialogue have in common

module _ {A : Type 0} where
  pub gives_any : (d : Dialogue A) → Gives (λ a. Unit {0}) d
  gives_any (Ends (Ok a)) = tt
  gives_any (Ends (Err f)) = tt
  gives_any (Asks q next) = λ answer. gives_any (next answer)
  gives_any (Reads p x next) = λ value. gives_any (next value)

  pub gives_weaker : (P Q : A → Type 0) (d : Dialogue A) → ((a : A) → P a → Q a) → Gives P d → Gives Q d
  gives_weaker P Q (Ends (Ok a)) f h = f a h
  gives_weaker P Q (Ends (Err e)) f h = tt
  gives_weaker P Q (Asks q next) f h = λ answer. gives_weaker P Q (next answer) f (h answer)
  gives_weaker P Q (Reads p x next) f h = λ value. gives_weaker P Q (next value) f (h value)

  at_own : (P : A → Type 0) (o : Option Value) (next : Value → Dialogue A) → ((v : Value) → Gives P (next v)) → (x : _) → Gives P (or_around o next x)
  at_own P (Some v) next h x = h v
  at_own P None next h x = h

  pub gives_under : (P : A → Type 0) (frame : Frame) (d : Dialogue A) → Gives P d → Gives P (under frame d)
  gives_under P frame (Ends end) h = h
  gives_under P frame (Asks q next) h = λ answer. gives_under P frame (next answer) (h answer)
  gives_under P frame (Reads around x next) h = at_own P (in_frame frame x.number) (λ v. under frame (next v)) (λ v. gives_under P frame (next v) (h v)) x
  gives_under P frame (Reads in_module x next) h = λ value. gives_under P frame (next value) (h value)

  module _ (reading : Reading) where
    at_seen : (seen : Result Value Fault) (P : A → Type 0) (next : Value → Dialogue A) (old new : List Entry) (a : A) → ((v : Value) → DialogueGoes reading (next v) old new (Ok a) → P a)
        → MatchResult seen (λ v. DialogueGoes reading (next v) old new (Ok a)) (λ f. (new ≡ old) × (Ok a ≡ Err f)) → P a
    at_seen (Ok v) P next old new a go h = go v h
    at_seen (Err f) P next old new a go h = absurd (cc h.1)

    pub goes_gives : (P : A → Type 0) (d : Dialogue A) (old new : List Entry) (a : A) → Gives P d → DialogueGoes reading d old new (Ok a) → P a
    goes_gives P (Ends (Ok b)) old new a h g = let e : a ≡ b = cc in subst P (sym e) h
    goes_gives P (Ends (Err f)) old new a h g = absurd (cc g.1)
    goes_gives P (Asks q next) old new a h g = goes_gives P (next g.0) _ new a (h g.0) g.1
    goes_gives P (Reads p x next) old new a h g = at_seen (reading p x) P next old new a (λ v k. goes_gives P (next v) old new a (h v) k) g

pub gives_then : {A B : Type 0} (P : A → Type 0) (Q : B → Type 0) (d : Dialogue A) (k : A → Dialogue B) → Gives P d → ((a : A) → P a → Gives Q (k a)) → Gives Q (d >>= k)
gives_then P Q (Ends (Ok a)) k h f = f a h
gives_then P Q (Ends (Err e)) k h f = tt
gives_then P Q (Asks q next) k h f = λ answer. gives_then P Q (next answer) k (h answer) f
gives_then P Q (Reads p x next) k h f = λ value. gives_then P Q (next value) k (h value) f

-- ---- what a line begins with

-- the text begins with this one
abbrev pub Grows : List ℕ → List ℕ → Type 0
Grows so_far all = (more : List ℕ) × (all ≡ so_far ++ more)

-- a line begins with what stood before it
pub line_grows : (stage : Stage) (goes_on : Bool) (so_far : List ℕ) (parts : List TermPiece) → Gives (Grows so_far) (line_dialogue stage goes_on so_far parts)
line_grows stage goes_on so_far [] = ([], sym (append-nil so_far))
line_grows stage goes_on so_far (part ∷ parts) =
    gives_then (λ t. Unit {0}) (Grows so_far) (piece_dialogue stage goes_on part) (λ more. line_dialogue stage false (so_far ++ more) parts) (gives_any (piece_dialogue stage goes_on part))
    (λ more u. gives_weaker (Grows (so_far ++ more)) (Grows so_far) (line_dialogue stage false (so_far ++ more) parts) (λ t g. (more ++ g.0, g.1 ∙ append_assoc so_far more g.0)) (line_grows stage false (so_far ++ more) parts))

module _ (expansion : Expansion) (file : List ℕ) (numbers : List ℕ → Option ℕ) (stage : Stage) (guards : Bool) where
  -- the text of a line that begins a command begins with its marks
  pub line_marked : (line : List Piece) → Gives (BeginsMarked (sigil_count (sigils_of guards (first_of line)))) (line_dialogue stage false [] (map (piece_in expansion file numbers) line))
  line_marked [] = no_marks []
  line_marked (text t ∷ parts) =
      gives_weaker (Grows (halved t)) (BeginsMarked (sigil_count (sigils_of guards (Some (text t))))) (line_dialogue stage false (halved t) (map (piece_in expansion file numbers) parts))
      (λ all g. subst (BeginsMarked (sigil_count (sigils_of guards (Some (text t))))) (sym g.1) (marked_longer _ (halved t) g.0 (text_marked guards t)))
      (line_grows stage false (halved t) (map (piece_in expansion file numbers) parts))
  line_marked (interpolation e ∷ parts) =
      gives_weaker (λ t. Unit {0}) (BeginsMarked 0) (line_dialogue stage false [] (map (piece_in expansion file numbers) (interpolation e ∷ parts))) (λ t u. no_marks t) (gives_any (line_dialogue stage false [] (map (piece_in expansion file numbers) (interpolation e ∷ parts))))
