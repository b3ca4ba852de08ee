-- Tests of values, and a comparison as a condition.
use Rattle.std.proofs.Common.{◌≡◌, ◌≢◌, ◌<◌, ◌↔◌, Bool, true, false, not, IsTrue, List, [], ◌∷◌, ◌++◌, length, Result, Ok, Err, refl, sym, ap, ◌∙◌, rules, arith}
use Rattle.std.specs.Global.{Box}
use Rattle.just_text.specs.declared.token.Token.{Token}
use Rattle.tree_expressions.specs.declared.expression.Expression.{Expression, Comparison, the_lemmas}
use Rattle.tree_expressions.specs.declared.operator.ConditionalOperator.{ConditionalOperator}
use Rattle.meaning_dialogues.specs.Terms.{term_of, comparison}
use Rattle.just_host.specs.declared.entry.Entry.{Entry}
use Rattle.meaning_dialogues.specs.Faults.{Fault, memory}
use Rattle.meaning_dialogues.specs.Dialogue.{Dialogue, Ends, Asks, Reads, ◌>>=◌, DialogueGoes, Evaluates, Reading}
use Rattle.meaning_dialogues.specs.Evaluation.{Value, holding, truth, is_truthy}
use Rattle.meaning_dialogues.proofs.Dialogues.{weaker}

-- a value is no want of memory
pub apart : {A : Type 0} {a : A} → Ok a ≢ Err memory
apart = λ e. cc

abbrev refused : (A : Type 0) → Fault → Result A Fault
refused A fault = Err fault

-- a fault that is no want of memory is none in the place of another value
pub apart_too : {A B : Type 0} {fault : Fault} → refused A fault ≢ Err memory → refused B fault ≢ Err memory
apart_too n = λ e. n (cc)

-- a test on elements says what the meaning says
pub truthy : (b : Bool) (v : Value) → IsTrue b ↔ (0 < length v) → is_truthy v ≡ b
truthy true [] h = absurd (let no : 0 < 0 = h.0 refl in omega (arith, no))
truthy false [] h = refl
truthy true (text ∷ texts) h = refl
truthy false (text ∷ texts) h = sym (h.1 (omega arith))

pub emptied : (b : Bool) (v : Value) → IsTrue b ↔ (v ≡ []) → b ≡ not (is_truthy v)
emptied true [] h = refl
emptied false [] h = h.1 refl
emptied true (text ∷ texts) h = absurd (let no : text ∷ texts ≡ [] = h.0 refl in cc)
emptied false (text ∷ texts) h = refl

said : (b : Bool) → b ≡ is_truthy (truth b)
said true = refl
said false = refl

goes_held : (reading : Reading) (d : Dialogue Bool) (old new : List Entry) (r : Result Bool Fault) → DialogueGoes reading d old new r → DialogueGoes reading (holding (d >>= λ b. Ends (Ok (truth b)))) old new r
goes_held reading (Ends (Ok b)) old new r h = (h.0, h.1 ∙ ap Ok (said b))
goes_held reading (Ends (Err f)) old new r h = h
goes_held reading (Asks q next) old new r h = (h.0, goes_held reading (next h.0) _ new r h.1)
goes_held reading (Reads p x next) old new r h = weaker (reading p x) (λ v g. goes_held reading (next v) old new r g) (λ f g. g) h

pub held : {reading : Reading} {d : Dialogue Bool} {old new : List Entry} {r : Result Bool Fault} → Evaluates reading d old new r → Evaluates reading (holding (d >>= λ b. Ends (Ok (truth b)))) old new r
held {reading = reading} {d = d} {old = old} {new = new} {r = r} h =
    let b = h.begins in
    record { goes = λ n. goes_held reading d old new r (h.goes n); begins = record { rest = b.rest; result = b.result; goes = goes_held reading d old (new ++ b.rest) b.result b.goes } }

pub comparison_term : (l : Box Expression) (operator : ConditionalOperator) (r : Box Expression) (token : Token) → term_of (Comparison l operator r token) ≡ comparison operator (term_of l.value) (term_of r.value)
comparison_term l operator r token = search (rules, the_lemmas)
