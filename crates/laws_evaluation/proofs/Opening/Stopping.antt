-- Why a variable is no constant: it holds a command or a call, or it reads what is no constant.
use Rattle.std.proofs.Common.{◌≡◌, ◌⊎◌, inl, inr, ℕ, List, [], ◌∷◌, ◌++◌, Bool, true, false, if◌then◌else◌, Option, Some, None, Result, Ok, Err, refl, ap, subst, ◌∙◌}
use Rattle.tree_expressions.specs.declared.operator.ConditionalOperator.{ConditionalOperator}
use Rattle.tree_expressions.specs.declared.operator.ConditionalOperator.TheVariants.{Equality, Inequality, RegexMatch, RegexMismatch}
use Rattle.just_value.specs.Values.{joined}
use Rattle.meaning_dialogues.specs.Faults.{Fault, Inconstant, a_command, a_call, a_variable, not_constant}
use Rattle.meaning_dialogues.specs.Dialogue.{Dialogue, Ends, Asks, Reads, ◌>>=◌, Reading, Lookup, Variable}
use Rattle.meaning_dialogues.specs.Constants.{settled, settled_read}
use Rattle.meaning_dialogues.specs.Evaluation.{Value, row, sides, comparing, holding, failing, dialogue, dialogues, filled, is_truthy, compared, or_fault}
use Rattle.meaning_dialogues.specs.Calls.{const_stage, Frame}
use Rattle.meaning_dialogues.specs.Terms.{Term, Terms, Holes, literal, command, format, variable, call, assertion, assertion_alone, both, either, negation, comparison, paired, rooted, appended, choice, choice_alone, listing, group, end, more, closed, hole}
use Rattle.meaning_evaluation.specs.Stages.Assigned.{Assigned, assigned_dialogue}
use Rattle.laws_evaluation.specs.Opening.Settled.{StopsIn}

-- a command or a call
abbrev pub IsWritten : Inconstant → Type 0
IsWritten (a_command text) = Unit {0}
IsWritten (a_call name) = Unit {0}
IsWritten (a_variable name) = ⊥

-- where a fault says that something is no constant, it is a command or a call
abbrev pub IsWrittenFault : Fault → Type 0
IsWrittenFault (not_constant what) = IsWritten what
IsWrittenFault fault = Unit {0}

-- so is it where an end is such a fault
abbrev pub IsWrittenEnd : {A : Type 0} → Result A Fault → Type 0
IsWrittenEnd (Ok a) = Unit {0}
IsWrittenEnd (Err fault) = IsWrittenFault fault

-- so it does wherever a dialogue ends
abbrev pub EndsWritten : {A : Type 0} → Dialogue A → Type 0
EndsWritten (Ends r) = IsWrittenEnd r
EndsWritten (Asks question next) = Unit {0}
EndsWritten (Reads place x next) = (value : Value) → EndsWritten (next value)

then_written : {A B : Type 0} (t : Dialogue A) (k : A → Dialogue B) → EndsWritten t → ((a : A) → EndsWritten (k a)) → EndsWritten (t >>= k)
then_written (Ends (Ok a)) k h g = g a
then_written (Ends (Err e)) k h g = h
then_written (Asks q next) k h g = tt
then_written (Reads p x next) k h g = λ value. then_written (next value) k (h value) g

choice_written : {A : Type 0} (b : Bool) (s t : Dialogue A) → EndsWritten s → EndsWritten t → EndsWritten (if b then s else t)
choice_written true s t h g = h
choice_written false s t h g = g

end_written : {A : Type 0} (b : Bool) (r s : Result A Fault) → IsWrittenEnd r → IsWrittenEnd s → IsWrittenEnd (if b then r else s)
end_written true r s h g = h
end_written false r s h g = g

or_fault_written : {A : Type 0} (o : Option A) (fault : Fault) → IsWrittenFault fault → IsWrittenEnd (or_fault o fault)
or_fault_written (Some a) fault h = tt
or_fault_written None fault h = h

compared_written : (operator : ConditionalOperator) (a b : Value) → IsWrittenEnd (compared operator a b)
compared_written Equality a b = tt
compared_written Inequality a b = tt
compared_written RegexMatch a b = tt
compared_written RegexMismatch a b = tt

abbrev AllWritten : List (Dialogue Value) → Type 0
AllWritten [] = Unit {0}
AllWritten (d ∷ ds) = EndsWritten d × AllWritten ds

row_written : (ds : List (Dialogue Value)) → AllWritten ds → EndsWritten (row ds)
row_written [] h = tt
row_written (d ∷ ds) h = then_written d _ h.0 (λ v. then_written (row ds) _ (row_written ds h.1) (λ vs. tt))

sides_written : (l r : Dialogue Value) → EndsWritten l → EndsWritten r → EndsWritten (sides l r)
sides_written l r h g = then_written l _ h (λ a. then_written r _ g (λ b. tt))

module _ (lists : Bool) where
  abbrev d : Term → Dialogue Value
  d t = dialogue (const_stage lists) t

  mutual
    term_written : (t : Term) → EndsWritten (dialogue (const_stage lists) t)
    term_written (literal cooked text) = tt
    term_written (command contents text) = tt
    term_written (format cooked text tripled holes) = then_written (filled (const_stage lists) cooked holes) _ (holes_written cooked holes) (λ whole. tt)
    term_written (variable name number) = λ value. tt
    term_written (call name file es) = tt
    term_written (assertion c m) = then_written (d c) _ (term_written c) (λ v. choice_written (is_truthy v) _ (failing (d m)) tt (then_written (d m) _ (term_written m) (λ w. tt)))
    term_written (assertion_alone c) = then_written (d c) _ (term_written c) (λ v. end_written (is_truthy v) _ _ tt tt)
    term_written (both l r) = then_written (d l) _ (term_written l) (λ v. choice_written (is_truthy v) (d r) _ (term_written r) tt)
    term_written (either l r) = then_written (d l) _ (term_written l) (λ v. choice_written (is_truthy v) _ (d r) tt (term_written r))
    term_written (negation e) = then_written (d e) _ (term_written e) (λ v. tt)
    term_written (comparison operator l r) =
        then_written (comparing operator (d l) (d r)) _ (then_written (sides (d l) (d r)) _ (sides_written (d l) (d r) (term_written l) (term_written r)) (λ vs. compared_written operator vs.0 vs.1)) (λ holds. tt)
    term_written (paired operator l r) = then_written (sides (d l) (d r)) _ (sides_written (d l) (d r) (term_written l) (term_written r)) (λ vs. or_fault_written _ _ tt)
    term_written (rooted r) = then_written (d r) _ (term_written r) (λ v. or_fault_written _ _ tt)
    term_written (appended l r) = then_written (sides (d l) (d r)) _ (sides_written (d l) (d r) (term_written l) (term_written r)) (λ vs. tt)
    term_written (choice c t o) = then_written (holding (d c)) _ (then_written (d c) _ (term_written c) (λ v. tt)) (λ holds. choice_written holds (d t) (d o) (term_written t) (term_written o))
    term_written (choice_alone c t) = then_written (holding (d c)) _ (then_written (d c) _ (term_written c) (λ v. tt)) (λ holds. choice_written holds (d t) _ (term_written t) tt)
    term_written (listing es) = then_written (row (dialogues (const_stage lists) es)) _ (row_written (dialogues (const_stage lists) es) (terms_written es)) (λ vs. tt)
    term_written (group e) = term_written e

    terms_written : (es : Terms) → AllWritten (dialogues (const_stage lists) es)
    terms_written end = tt
    terms_written (more e es) = (term_written e, terms_written es)

    holes_written : (so_far : List ℕ) (hs : Holes) → EndsWritten (filled (const_stage lists) so_far hs)
    holes_written so_far closed = tt
    holes_written so_far (hole e cooked text es) = then_written (d e) _ (term_written e) (λ v. holes_written (so_far ++ (joined v ++ cooked)) es)

  assigned_written : (text : Option (List ℕ)) (term : Term) → EndsWritten (assigned_dialogue text (const_stage lists) term)
  assigned_written (Some text) term = tt
  assigned_written None term = term_written term

-- what stops is a command or a call, or a variable that is read and is no constant
pub record ReadsInconstant (reading : Reading) (what : Inconstant) : Type 0 where
  pub place : Lookup
  pub variable : Variable
  pub refused : reading place variable ≡ Err (not_constant what)

at_read : {A : Type 0} (reading : Reading) (what : Inconstant) (place : Lookup) (x : Variable) (o : Result Value Fault) (k : Value → Option (Result A Fault)) → reading place x ≡ o → settled_read o k ≡ Some (Err (not_constant what))
    → ((v : Value) → k v ≡ Some (Err (not_constant what)) → IsWritten what ⊎ ReadsInconstant reading what) → IsWritten what ⊎ ReadsInconstant reading what
at_read reading what place x (Ok v) k e h go = go v h
at_read reading what place x (Err f) k e h go = let same : f ≡ not_constant what = cc in inr record { place = place; variable = x; refused = e ∙ ap Err same }

stop_reason : {A : Type 0} (reading : Reading) (t : Dialogue A) (what : Inconstant) → EndsWritten t → settled reading t ≡ Some (Err (not_constant what)) → IsWritten what ⊎ ReadsInconstant reading what
stop_reason reading (Ends (Ok a)) what w h = absurd (cc)
stop_reason reading (Ends (Err f)) what w h = let same : f ≡ not_constant what = cc in inl (subst IsWrittenFault same w)
stop_reason reading (Asks q next) what w h = absurd (cc)
stop_reason reading (Reads place x next) what w h = at_read reading what place x (reading place x) _ refl h (λ v g. stop_reason reading (next v) what (w v) g)

-- a variable that is excluded stops at a command or a call, or at a variable that it reads and that is no constant
pub stops_because : (lists : Bool) (reading_with : Frame → (ℕ → Bool) → Reading) (overrides : ℕ → Option (List ℕ)) (is_read : ℕ → Bool) (frame : Frame) (excluded : ℕ → Bool) (variables : List Assigned) (n : ℕ)
    → (s : StopsIn lists reading_with overrides is_read frame excluded variables n) → IsWritten s.what ⊎ ReadsInconstant (reading_with s.then_frame s.then_excluded) s.what
stops_because lists reading_with overrides is_read frame excluded variables n s =
    stop_reason (reading_with s.then_frame s.then_excluded) (assigned_dialogue (overrides s.it.number) (const_stage lists) s.it.value) s.what (assigned_written lists (overrides s.it.number) s.it.value) s.stops
