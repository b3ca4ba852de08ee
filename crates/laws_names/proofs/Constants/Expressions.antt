-- What expressions settle to by numbers is what they settle to by names.
use Rattle.std.proofs.Common.{◌≡◌, ℕ, List, [], Bool, true, false, if◌then◌else◌, Option, Some, None, Result, Ok, Err, refl, sym, ap, ◌∙◌}
use Rattle.std.specs.Option.{option_map, option_or}
use Rattle.just_value.specs.Frames.{BoundRow, found_in}
use Rattle.tree_expressions.specs.Shape.{shape_of}
use Rattle.meaning_dialogues.specs.Faults.{Fault, a_variable as a_variable_of, not_constant}
use Rattle.meaning_dialogues.specs.Dialogue.{Dialogue, Ends, Asks, Reads, Lookup, Reading, Variable, around}
use Rattle.meaning_dialogues.specs.Evaluation.{Value, dialogue}
use Rattle.meaning_dialogues.specs.Calls.{Frame, const_stage}
use Rattle.meaning_dialogues.specs.Constants.{constant, settled, settled_read}
use Rattle.meaning_dialogues.specs.Meaning.{Meaning}
use Rattle.meaning_dialogues.specs.Terms.{term_of}
use Rattle.meaning_dialogues.specs.Written.{term_in, unnumbered}
use Rattle.laws_evaluation.specs.Terms.Alike.{Alike}
use Rattle.laws_evaluation.proofs.Terms.ByNames.{alike_by_names}
use Rattle.evaluate_variables.specs.Settled.{found_value, read_constant}
use Rattle.meaning_rules.specs.Worlds.Given.{Text}
use Rattle.meaning_rules.specs.Constants.{as_read, reading_of, said_by}
use Rattle.meaning_rules.proofs.Meaning.{same, same_settled}
use Rattle.laws_names.specs.Constants.Expressions.{ConstantsTellNames, ExpressionsSettle, known}
use Rattle.laws_names.proofs.Constants.Unfiled.{same_said}

-- ---- what is no constant

abbrev IsTold : Text → Result Value Fault → Type 0
IsTold name r = as_read name (constant (Some r)) ≡ r

found_told : (name : Text) (o : Option Value) → IsTold name (found_value name o)
found_told name (Some value) = refl
found_told name None = refl

excluded_told : (name : Text) (b : Bool) (o : Option Value) → IsTold name (if b then Err (not_constant (a_variable_of name)) else found_value name o)
excluded_told name true o = refl
excluded_told name false o = found_told name o

read_told : (outer : List (List BoundRow)) (frame : Frame) (excluded : ℕ → Bool) (name : Text) (number : Option ℕ) → IsTold name (read_constant outer frame excluded name number)
read_told outer frame excluded name None = refl
read_told outer frame excluded name (Some number) = excluded_told name (excluded number) (option_or (frame number) (option_map (λ binding. binding.value) (found_in outer number)))

pub constants_tell_names : ConstantsTellNames
constants_tell_names outer frame excluded place x = read_told outer frame excluded x.name x.number

-- ---- dialogues that are alike

module _ (reading : Reading) (variables : Text → Meaning Value) where
  abbrev Corresponds : Lookup → Variable → Variable → Type 0
  Corresponds place x y = reading place x ≡ as_read y.name (variables y.name)

  read_alike : {A : Type 0} (r : Result Value Fault) (n m : Value → Option (Result A Fault)) → ((v : Value) → n v ≡ m v) → settled_read r n ≡ settled_read r m
  read_alike (Ok v) n m h = h v
  read_alike (Err fault) n m h = refl

  -- where corresponding variables give the same, they settle to the same
  pub settled_alike : {A : Type 0} (d e : Dialogue A) → Alike Corresponds d e → settled reading d ≡ settled (reading_of variables) e
  settled_alike (Ends a) (Ends b) h = ap (λ r. Some r) h
  settled_alike (Asks q next) (Asks p after) h = refl
  settled_alike (Reads place x next) (Reads there y after) h =
      ap (λ r. settled_read r (λ value. settled reading (next value))) h.1
      ∙ read_alike (as_read y.name (variables y.name)) (λ value. settled reading (next value)) (λ value. settled (reading_of variables) (after value)) (λ v. settled_alike (next v) (after v) (h.2 v))
  settled_alike (Ends a) (Asks p after) h = absurd h
  settled_alike (Ends a) (Reads there y after) h = absurd h
  settled_alike (Asks q next) (Ends b) h = absurd h
  settled_alike (Asks q next) (Reads there y after) h = absurd h
  settled_alike (Reads place x next) (Ends b) h = absurd h
  settled_alike (Reads place x next) (Asks p after) h = absurd h

pub expressions_settle : ExpressionsSettle
expressions_settle x number reading tells lists variables e written named =
    let f = known reading number in
    settled_alike reading f (dialogue (const_stage lists) (term_of e)) (dialogue (const_stage lists) (term_in x.expansion x.path unnumbered (shape_of e)))
    (alike_by_names (Corresponds reading f) x number unnumbered (const_stage lists) (const_stage lists) (λ name. sym (tells around (record { name = name; number = number name }))) refl
    (λ contents text. refl) (λ name file ds es h. refl) e written)
    ∙ ap (settled (reading_of f)) (same_said x.expansion unnumbered lists x.path [] (shape_of e))
    ∙ same_settled f variables (said_by x.expansion lists f (shape_of e)) (same f variables x.expansion lists (shape_of e) named)
