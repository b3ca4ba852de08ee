-- The words of an interpreter, one value after another.
use Rattle.std.proofs.Common.{◌≡◌, ◌≢◌, ℕ, ◌+◌, ◌<◌, ◌≤◌, List, ◌∷◌, length, get_or, drop, Result, Err, ap, ◌∙◌, add-one}
use Rattle.just_host.specs.declared.entry.Entry.{Entry}
use Rattle.tree_expressions.specs.declared.expression.Expression.{Expression}
use Rattle.meaning_dialogues.specs.Faults.{Fault, memory}
use Rattle.meaning_dialogues.specs.Dialogue.{Dialogue, Evaluates, Reading}
use Rattle.meaning_dialogues.specs.Evaluation.{Value, Stage, row, dialogue, dialogues, interpreter_dialogue, interpreter_words}
use Rattle.meaning_dialogues.specs.Terms.{term_of, terms_of}
use Rattle.meaning_dialogues.proofs.Dialogues.{then_goes, then_stops, ends}
use Rattle.meaning_dialogues.proofs.Rows.{Lists, leads_stop, leads_memory, leads_end}

pub after_command : (command : Expression) (es : List Expression) (i : ℕ) (x : Expression) → x ≡ get_or es i x → x ≡ get_or (command ∷ es) (i + 1) x
after_command command es i x is = rw add-one is

module _ (reading : Reading) (stage : Stage) (es : List Expression) (setting : List ℕ) (old : List Entry) where
  abbrev pub all : Dialogue (List Value)
  all = row (dialogues stage (terms_of es))

  abbrev pub rest : ℕ → Dialogue (List Value)
  rest i = row (dialogues stage (terms_of (drop i es)))

  pub words_stop : (mid new : List Entry) (list : Value) (i : ℕ) (x : Expression) (f : Fault) → Lists reading all (rest i) old mid list → i < length es → x ≡ get_or es i x → Evaluates reading (dialogue stage (term_of x)) mid new (Err f) → Evaluates reading (interpreter_dialogue setting (dialogues stage (terms_of es))) old new (Err f)
  words_stop mid new list i x f h lt is g = then_stops _ _ (leads_stop reading all stage es old mid new h.values i x f h.leads lt is g)

  -- memory ran out before the rest
  pub words_memory : (now : List Entry) (list : Value) (i : ℕ) → Lists reading all (rest i) old now list → Evaluates reading (interpreter_dialogue setting (dialogues stage (terms_of es))) old now (Err memory)
  words_memory now list i h = then_stops _ _ (leads_memory reading all (rest i) old now h.values h.leads)

  pub words_end : (new : List Entry) (list : Value) (i : ℕ) (r : Result (List ℕ × List (List ℕ)) Fault) → Lists reading all (rest i) old new list → length es ≤ i → (r ≢ Err memory → r ≡ interpreter_words setting list) → Evaluates reading (interpreter_dialogue setting (dialogues stage (terms_of es))) old new r
  words_end new list i r h over e = then_goes _ _ (leads_end reading all stage es old new h.values i h.leads over) (ends _ (λ n. e n ∙ ap (interpreter_words setting) h.is))
