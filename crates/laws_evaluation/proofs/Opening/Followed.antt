-- A run whose variables are read as they mean means what it gives, from some depth on.
use Rattle.std.proofs.Common.{◌≡◌, ◌≤◌, ℕ, ◌+◌, List, [], ◌∷◌, ◌++◌, append_assoc, Option, Some, option_and_then, Result, Ok, sym, ap, subst, ◌∙◌, MatchResult, arith}
use Rattle.std.proofs.lemmas.List.{append_cancel_left}
use Rattle.just_host.specs.declared.entry.Entry.{Entry}
use Rattle.just_host.specs.declared.entry.Entry.TheVariants.{Asked, Line, Script, Confirm, Show, Dotenv}
use Rattle.meaning_dialogues.specs.Faults.{Fault}
use Rattle.meaning_dialogues.specs.Dialogue.{Dialogue, Ends, Asks, Reads, DialogueGoes, Reading, Lookup, Variable}
use Rattle.meaning_dialogues.specs.Evaluation.{Value}
use Rattle.meaning_dialogues.specs.Meaning.{QuestionAnswers, with_meaning, meaning, variable_meaning, AgreesWith}
use Rattle.meaning_dialogues.proofs.Unfolding.{extends, agrees_back}
use Rattle.laws_evaluation.specs.Opening.Opened.{Grows, AgreesFrom, ReadsOnly, Means}

agrees_front : (answers : QuestionAnswers) (a b : List Entry) → AgreesWith answers (a ++ b) → AgreesWith answers a
agrees_front answers [] b h = tt
agrees_front answers (Asked q g ∷ xs) b h = (h.0, agrees_front answers xs b h.1)
agrees_front answers (Line j s ∷ xs) b h = agrees_front answers xs b h
agrees_front answers (Script j s ∷ xs) b h = agrees_front answers xs b h
agrees_front answers (Confirm p c ∷ xs) b h = agrees_front answers xs b h
agrees_front answers (Show t ∷ xs) b h = agrees_front answers xs b h
agrees_front answers (Dotenv r a ∷ xs) b h = agrees_front answers xs b h

-- the piece that a record grew by agrees
pub agrees_piece : (answers : QuestionAnswers) (old new piece : List Entry) → AgreesFrom answers old new → new ≡ old ++ piece → AgreesWith answers piece
agrees_piece answers old new piece g e = subst (AgreesWith answers) (append_cancel_left old g.piece piece (sym g.entries ∙ e)) g.agrees

-- its first part agrees
pub agrees_first : (answers : QuestionAnswers) (old mid new : List Entry) → Grows old mid → Grows mid new → AgreesFrom answers old new → AgreesFrom answers old mid
agrees_first answers old mid new g h a =
    let e : new ≡ old ++ (g.piece ++ h.piece) = h.entries ∙ (ap (λ l. l ++ h.piece) g.entries ∙ append_assoc old g.piece h.piece) in
    record { piece = g.piece; entries = g.entries; agrees = agrees_front answers g.piece h.piece (agrees_piece answers old new (g.piece ++ h.piece) a e) }

-- and so does the rest
pub agrees_rest : (answers : QuestionAnswers) (old mid new : List Entry) → Grows old mid → Grows mid new → AgreesFrom answers old new → AgreesFrom answers mid new
agrees_rest answers old mid new g h a =
    let e : new ≡ old ++ (g.piece ++ h.piece) = h.entries ∙ (ap (λ l. l ++ h.piece) g.entries ∙ append_assoc old g.piece h.piece) in
    record { piece = h.piece; entries = h.entries; agrees = agrees_back answers g.piece h.piece (agrees_piece answers old new (g.piece ++ h.piece) a e) }

at_value : (seen : Result Value Fault) (v : Value) (P : Value → Type 0) (Q : Fault → Type 0) → seen ≡ Ok v → MatchResult seen P Q → P v
at_value seen v P Q e h = subst (λ s. MatchResult s P Q) e h

module _ (right_side : Variable → Option (Dialogue Value)) (answers : QuestionAnswers) where
  -- a variable is read, and means what is read
  pub record ReadsMeant (reading : Reading) (place : Lookup) (x : Variable) : Type 0 where
    pub value : Value
    pub read : reading place x ≡ Ok value
    pub means : Means right_side answers x (Ok value)

  -- from some depth on a dialogue means this
  pub record MeansFrom {A : Type 0} (t : Dialogue A) (r : Result A Fault) : Type 0 where
    pub deep : ℕ
    pub is : (n : ℕ) → deep ≤ n → meaning answers (variable_meaning right_side answers n) t ≡ Some r

  -- unfolding where each variable means its value from a depth of its own on
  pub followed : {A : Type 0} (reading : Reading) (t : Dialogue A) (old new : List Entry) (r : Result A Fault) → ReadsOnly (ReadsMeant reading) t → ((piece : List Entry) → new ≡ old ++ piece → AgreesWith answers piece) → DialogueGoes reading t old new r → MeansFrom t r
  followed reading (Ends end) old new r reads agrees h = record { deep = 0; is = λ n le. ap Some (sym h.1) }
  followed reading (Asks q next) old new r reads agrees h =
      let p = extends reading (next h.0) _ new r h.1 in
      let e : new ≡ old ++ (Asked q h.0 ∷ p.0) = p.1 ∙ append_assoc old _ _ in
      let answered : (answers q ≡ Some h.0) × AgreesWith answers p.0 = agrees (Asked q h.0 ∷ p.0) e in
      let rest = followed reading (next h.0) _ new r (reads h.0) (λ piece k. (agrees (Asked q h.0 ∷ piece) (k ∙ append_assoc old _ _)).1) h.1 in
      record {
        deep = rest.deep;
        is = λ n le. ap (option_and_then (λ answer. meaning answers (variable_meaning right_side answers n) (next answer))) answered.0 ∙ rest.is n le;
      }
  followed reading (Reads place x next) old new r reads agrees h =
      let m = reads.0 in
      let rest = followed reading (next m.value) old new r (reads.1 m.value) agrees (at_value (reading place x) m.value _ _ m.read h) in
      record {
        deep = m.means.deep + rest.deep;
        is = λ n le. ap (λ k. with_meaning k (λ value. meaning answers (variable_meaning right_side answers n) (next value))) (m.means.is n place (omega (arith, le))) ∙ rest.is n (omega (arith, le));
      }
