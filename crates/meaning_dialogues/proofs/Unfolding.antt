-- A run whose variables hold what they mean gives the meaning.
use Rattle.std.proofs.Common.{◌≡◌, List, [], ◌∷◌, ◌++◌, append-nil, append_assoc, Some, Result, Ok, Err, refl, sym, ap, ◌∙◌, subst, MatchResult, option_and_then}
use Rattle.just_host.specs.declared.entry.Entry.{Entry}
use Rattle.just_host.specs.declared.entry.Entry.TheVariants.{Asked, Line, Script, Confirm, Show, Dotenv}
use Rattle.just_host.specs.declared.host.Answer.{Answer}
use Rattle.meaning_dialogues.specs.Faults.{Fault}
use Rattle.meaning_dialogues.specs.Dialogue.{Dialogue, Ends, Asks, Reads, DialogueGoes, Reading, Lookup, Variable}
use Rattle.meaning_dialogues.specs.Evaluation.{Value}
use Rattle.meaning_dialogues.specs.Meaning.{QuestionAnswers, Meaning, with_meaning, meaning, AgreesWith}

-- either case of a match
either_case : {V E : Type 0} {P : V → Type 0} {Q : E → Type 0} {G : Type 0} (o : Result V E) → ((v : V) → o ≡ Ok v → P v → G) → ((e : E) → o ≡ Err e → Q e → G) → MatchResult o P Q → G
either_case (Ok v) f g h = f v refl h
either_case (Err e) f g h = g e refl h

-- the record only grows
pub extends : {A : Type 0} (reading : Reading) (t : Dialogue A) (old new : List Entry) (r : Result A Fault) → DialogueGoes reading t old new r → (piece : List Entry) × (new ≡ old ++ piece)
extends reading (Ends end) old new r h = ([], h.0 ∙ sym (append-nil _))
extends reading (Asks q next) old new r h =
    let p = extends reading (next h.0) _ new r h.1 in
    (Asked q h.0 ∷ p.0, p.1 ∙ append_assoc old _ _)
extends reading (Reads p x next) old new r h =
    either_case (reading p x) (λ v _ g. extends reading (next v) old new r g) (λ e _ g. ([], g.0 ∙ sym (append-nil _))) h

pub agrees_back : (answers : QuestionAnswers) (a b : List Entry) → AgreesWith answers (a ++ b) → AgreesWith answers b
agrees_back answers [] b h = h
agrees_back answers (Asked q a ∷ xs) b h = agrees_back answers xs b h.1
agrees_back answers (Line j s ∷ xs) b h = agrees_back answers xs b h
agrees_back answers (Script j s ∷ xs) b h = agrees_back answers xs b h
agrees_back answers (Confirm p c ∷ xs) b h = agrees_back answers xs b h
agrees_back answers (Show t ∷ xs) b h = agrees_back answers xs b h
agrees_back answers (Dotenv r a ∷ xs) b h = agrees_back answers xs b h

-- it reads only these variables
abbrev pub Sound : {A : Type 0} → (Lookup → Variable → Type 0) → Dialogue A → Type 0
Sound P (Ends end) = Unit {0}
Sound P (Asks question next) = (answer : Answer) → Sound P (next answer)
Sound P (Reads place variable next) = P place variable × ((value : Value) → Sound P (next value))

-- a variable is read, and means what is read
pub record IsMeant (reading : Reading) (variables : Lookup → Variable → Meaning Value) (place : Lookup) (variable : Variable) : Type 0 where
  pub value : Value
  pub read : reading place variable ≡ Ok value
  pub means : variables place variable ≡ Some (Ok value)

at_value : (seen : Result Value Fault) (v : Value) (P : Value → Type 0) (Q : Fault → Type 0) → seen ≡ Ok v → MatchResult seen P Q → P v
at_value seen v P Q e h = subst (λ s. MatchResult s P Q) e h

-- unfolding: what a run gives whose piece agrees is the meaning
pub unfolds : {A : Type 0} (reading : Reading) (answers : QuestionAnswers) (variables : Lookup → Variable → Meaning Value) (t : Dialogue A) (old new : List Entry) (r : Result A Fault) → Sound (IsMeant reading variables) t → ((piece : List Entry) → new ≡ old ++ piece → AgreesWith answers piece) → DialogueGoes reading t old new r → meaning answers variables t ≡ Some r
unfolds reading answers variables (Ends end) old new r sound agrees h = ap Some (sym h.1)
unfolds reading answers variables (Asks q next) old new r sound agrees h =
    let p = extends reading (next h.0) _ new r h.1 in
    let e : new ≡ old ++ (Asked q h.0 ∷ p.0) = p.1 ∙ append_assoc old _ _ in
    let told : (answers q ≡ Some h.0) × AgreesWith answers p.0 = agrees (Asked q h.0 ∷ p.0) e in
    ap (option_and_then (λ answer. meaning answers variables (next answer))) told.0
    ∙ unfolds reading answers variables (next h.0) _ new r (sound h.0) (λ piece k. (agrees (Asked q h.0 ∷ piece) (k ∙ append_assoc old _ _)).1) h.1
unfolds reading answers variables (Reads place x next) old new r sound agrees h =
    let m = sound.0 in
    ap (λ k. with_meaning k (λ value. meaning answers variables (next value))) m.means
    ∙ unfolds reading answers variables (next m.value) old new r (sound.1 m.value) agrees (at_value (reading place x) m.value _ _ m.read h)
