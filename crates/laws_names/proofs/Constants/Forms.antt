-- What texts and words of settings settle to, by what their expressions settle to.
use Rattle.std.proofs.Common.{◌≡◌, ℕ, List, [], ◌∷◌, Option, Some, None, Result, Ok, Err, refl, sym, ap, ◌∙◌}
use Rattle.std.specs.List.{flat_map}
use Rattle.meaning_dialogues.specs.Faults.{Fault, TextPlace}
use Rattle.meaning_dialogues.specs.Dialogue.{Dialogue, Ends, Asks, Reads, ◌>>=◌, Reading}
use Rattle.meaning_dialogues.specs.Evaluation.{Value, interpreter_dialogue, interpreter_words, one_text, row, text_dialogue}
use Rattle.meaning_dialogues.specs.Constants.{settled, settled_read}

-- what is settled, and what goes on from there
abbrev pub going_on : {A B : Type 0} → Option (Result A Fault) → (A → Option (Result B Fault)) → Option (Result B Fault)
going_on None k = None
going_on (Some (Err fault)) k = Some (Err fault)
going_on (Some (Ok a)) k = k a

read_on : {A B : Type 0} (r : Result Value Fault) (n : Value → Option (Result B Fault)) (m : Value → Option (Result A Fault)) (k : A → Option (Result B Fault)) → ((v : Value) → n v ≡ going_on (m v) k)
    → settled_read r n ≡ going_on (settled_read r m) k
read_on (Ok v) n m k h = h v
read_on (Err fault) n m k h = refl

pub then_settled : {A B : Type 0} (reading : Reading) (d : Dialogue A) (k : A → Dialogue B) → settled reading (d >>= k) ≡ going_on (settled reading d) (λ a. settled reading (k a))
then_settled reading (Ends (Ok a)) k = refl
then_settled reading (Ends (Err fault)) k = refl
then_settled reading (Asks question next) k = refl
then_settled reading (Reads place x next) k =
    read_on (reading place x) (λ v. settled reading (next v >>= k)) (λ v. settled reading (next v)) (λ a. settled reading (k a)) (λ v. then_settled reading (next v) k)

module _ (first second : Reading) where
  -- one text
  pub text_settled : (place : TextPlace) (d e : Dialogue Value) → settled first d ≡ settled second e → settled first (text_dialogue place d) ≡ settled second (text_dialogue place e)
  text_settled place d e h =
      let k : Value → Dialogue (List ℕ) = λ v. Ends (one_text place v) in
      then_settled first d k ∙ ap (λ o. going_on o (λ v. Some (one_text place v))) h ∙ sym (then_settled second e k)

  -- each of two rows settles to the same
  abbrev pub AreSame : List (Dialogue Value) → List (Dialogue Value) → Type 0
  AreSame [] [] = Unit {0}
  AreSame (d ∷ ds) (e ∷ es) = (settled first d ≡ settled second e) × AreSame ds es
  AreSame [] (e ∷ es) = ⊥
  AreSame (d ∷ ds) [] = ⊥

  one_more : (reading : Reading) (d : Dialogue Value) (ds : List (Dialogue Value))
      → settled reading (row (d ∷ ds)) ≡ going_on (settled reading d) (λ v. going_on (settled reading (row ds)) (λ vs. Some (Ok (v ∷ vs))))
  one_more reading d ds =
      then_settled reading d (λ v. row ds >>= λ vs. Ends (Ok (v ∷ vs))) ∙ (λ i. going_on (settled reading d) (λ v. then_settled reading (row ds) (λ vs. Ends (Ok (v ∷ vs))) i))

  row_settled : (ds es : List (Dialogue Value)) → AreSame ds es → settled first (row ds) ≡ settled second (row es)
  row_settled [] [] h = refl
  row_settled (d ∷ ds) (e ∷ es) h =
      one_more first d ds ∙ (λ i. going_on (h.0 i) (λ v. going_on (row_settled ds es h.1 i) (λ vs. Some (Ok (v ∷ vs))))) ∙ sym (one_more second e es)
  row_settled [] (e ∷ es) h = absurd h
  row_settled (d ∷ ds) [] h = absurd h

  -- words
  pub words_settled : (setting : List ℕ) (ds es : List (Dialogue Value)) → AreSame ds es → settled first (interpreter_dialogue setting ds) ≡ settled second (interpreter_dialogue setting es)
  words_settled setting ds es h =
      let k : List Value → Dialogue (List ℕ × List (List ℕ)) = λ values. Ends (interpreter_words setting (flat_map (λ value. value) values)) in
      then_settled first (row ds) k ∙ ap (λ o. going_on o (λ values. Some (interpreter_words setting (flat_map (λ value. value) values)))) (row_settled ds es h) ∙ sym (then_settled second (row es) k)
