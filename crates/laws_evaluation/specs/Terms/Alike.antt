-- Dialogues that differ in the numbers of variables alone.
use Rattle.std.specs.Prelude.{◌≡◌, List, [], ◌∷◌}
use Rattle.just_host.specs.declared.host.Answer.{Answer}
use Rattle.meaning_dialogues.specs.Dialogue.{Dialogue, Ends, Asks, Reads, Lookup, Variable}
use Rattle.meaning_dialogues.specs.Evaluation.{Value}

-- which variable of the second corresponds to which of the first
module _ (Corresponds : Lookup → Variable → Variable → Type 0) where
  -- they ask the same questions, read corresponding variables, and end alike
  abbrev pub Alike : {A : Type 0} → Dialogue A → Dialogue A → Type 0
  Alike (Ends a) (Ends b) = a ≡ b
  Alike (Asks q next) (Asks p after) = (q ≡ p) × ((answer : Answer) → Alike (next answer) (after answer))
  Alike (Reads place x next) (Reads there y after) = (place ≡ there) × Corresponds place x y × ((value : Value) → Alike (next value) (after value))
  Alike (Ends a) (Asks p after) = ⊥
  Alike (Ends a) (Reads there y after) = ⊥
  Alike (Asks q next) (Ends b) = ⊥
  Alike (Asks q next) (Reads there y after) = ⊥
  Alike (Reads place x next) (Ends b) = ⊥
  Alike (Reads place x next) (Asks p after) = ⊥

  -- the same of two rows
  abbrev pub AreAlike : List (Dialogue Value) → List (Dialogue Value) → Type 0
  AreAlike [] [] = Unit {0}
  AreAlike (d ∷ ds) (e ∷ es) = Alike d e × AreAlike ds es
  AreAlike [] (e ∷ es) = ⊥
  AreAlike (d ∷ ds) [] = ⊥
