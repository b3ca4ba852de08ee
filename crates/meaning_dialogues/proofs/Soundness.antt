-- What an expression reads is what its dialogue reads.
use Rattle.std.proofs.Common.{◌≡◌, ℕ, suc, ◌+◌, List, [], ◌∷◌, ◌++◌, length, Bool, true, false, if◌then◌else◌, Option, Some, None, Result, Ok, Err, ◌⊎◌, ⊎_elim, refl, ap, subst}
use Rattle.std.specs.Prelude.{IsSome}
use Rattle.just_host.specs.declared.host.Answer.{Answer}
use Rattle.just_value.specs.Values.{joined}
use Rattle.meaning_dialogues.specs.Faults.{Fault}
use Rattle.meaning_dialogues.specs.Dialogue.{Dialogue, Ends, Asks, Reads, ◌>>=◌, Lookup, around, in_module, Variable}
use Rattle.meaning_dialogues.specs.Evaluation.{Value, Stage, row, sides, comparing, holding, failing, dialogue, dialogues, filled, is_truthy, compared}
use Rattle.meaning_dialogues.specs.Calls.{arguments, as_argument, Frame, in_frame, or_read, inside}
use Rattle.meaning_dialogues.specs.Terms.{Term, Terms, Holes, literal, command, format, variable, call, assertion, assertion_alone, both, either, negation, comparison, paired, rooted, appended, choice, choice_alone, listing, group, end, more, closed, hole}

-- it reads only these variables, and ends in a value of this kind or in a fault
abbrev pub Sound : {A : Type 0} → (Lookup → Variable → Type 0) → (A → Type 0) → Dialogue A → Type 0
Sound P Q (Ends (Ok a)) = Q a
Sound P Q (Ends (Err fault)) = Unit {0}
Sound P Q (Asks question next) = (answer : Answer) → Sound P Q (next answer)
Sound P Q (Reads place x next) = P place x × ((value : Value) → Sound P Q (next value))

abbrev pub Any : {A : Type 0} → A → Type 0
Any a = Unit {0}

pub then_sound : {A B : Type 0} (P : Lookup → Variable → Type 0) (Q : A → Type 0) (R : B → Type 0) (t : Dialogue A) (k : A → Dialogue B) → Sound P Q t → ((a : A) → Q a → Sound P R (k a)) → Sound P R (t >>= k)
then_sound P Q R (Ends (Ok a)) k h g = g a h
then_sound P Q R (Ends (Err e)) k h g = tt
then_sound P Q R (Asks q next) k h g = λ answer. then_sound P Q R (next answer) k (h answer) g
then_sound P Q R (Reads p x next) k h g = (h.0, λ value. then_sound P Q R (next value) k (h.1 value) g)

choice_sound : {A : Type 0} (P : Lookup → Variable → Type 0) (Q : A → Type 0) (b : Bool) (s t : Dialogue A) → Sound P Q s → Sound P Q t → Sound P Q (if b then s else t)
choice_sound P Q true s t h g = h
choice_sound P Q false s t h g = g

pub ends_sound : {A : Type 0} (P : Lookup → Variable → Type 0) (r : Result A Fault) → Sound P Any (Ends r)
ends_sound P (Ok a) = tt
ends_sound P (Err e) = tt

-- each of a row
abbrev pub AllSound : (Lookup → Variable → Type 0) → List (Dialogue Value) → Type 0
AllSound P [] = Unit {0}
AllSound P (d ∷ ds) = Sound P Any d × AllSound P ds

pub row_sound : (P : Lookup → Variable → Type 0) (ds : List (Dialogue Value)) → AllSound P ds → Sound P (λ vs. length vs ≡ length ds) (row ds)
row_sound P [] h = refl
row_sound P (d ∷ ds) h = then_sound P Any _ d _ h.0 (λ v _. then_sound P (λ vs. length vs ≡ length ds) _ (row ds) _ (row_sound P ds h.1) (λ vs e. ap suc e))

pub arguments_sound : (P : Lookup → Variable → Type 0) (takes : ℕ → Bool) (name : List ℕ) (k : ℕ) (ds : List (Dialogue Value)) → AllSound P ds → Sound P Any (arguments takes name k ds)
arguments_sound P takes name k [] h = tt
arguments_sound P takes name k (d ∷ ds) h =
    then_sound P Any Any d _ h.0
    (λ v _. then_sound P Any Any (Ends (as_argument (takes k) name v)) _ (ends_sound P (as_argument (takes k) name v))
    (λ w _. then_sound P Any Any (arguments takes name (k + 1) ds) _ (arguments_sound P takes name (k + 1) ds h.1) (λ vs _. tt)))

at_read : {A : Type 0} (P : Lookup → Variable → Type 0) (Q : A → Type 0) (frame : Frame) (x : Variable) (next : Value → Dialogue A) (o : Option Value) → IsSome o ⊎ P in_module x → ((v : Value) → Sound P Q (inside frame (next v))) → Sound P Q (or_read o (λ v. inside frame (next v)) x)
at_read P Q frame x next (Some v) h go = go v
at_read P Q frame x next None h go = (⊎_elim (λ s. absurd (cc)) (λ p. p) h, go)

-- the body of a function reads what is no parameter in the module
pub inside_sound : {A : Type 0} (P W : Lookup → Variable → Type 0) (Q : A → Type 0) (frame : Frame) → ((x : Variable) → W around x → IsSome (in_frame frame x.number) ⊎ P in_module x) → ((x : Variable) → W in_module x → P in_module x) → (t : Dialogue A) → Sound W Q t → Sound P Q (inside frame t)
inside_sound P W Q frame up over (Ends (Ok a)) h = h
inside_sound P W Q frame up over (Ends (Err e)) h = tt
inside_sound P W Q frame up over (Asks q next) h = λ answer. inside_sound P W Q frame up over (next answer) (h answer)
inside_sound P W Q frame up over (Reads around x next) h =
    at_read P Q frame x next (in_frame frame x.number) (up x h.0) (λ v. inside_sound P W Q frame up over (next v) (h.1 v))
inside_sound P W Q frame up over (Reads in_module x next) h = (over x h.0, λ value. inside_sound P W Q frame up over (next value) (h.1 value))

abbrev pub count : Terms → ℕ
count end = 0
count (more e es) = suc (count es)

-- the variables that a term names, and what it calls with how many arguments
module _ (V : Variable → Type 0) (C : List ℕ → ℕ → Type 0) where
  abbrev mutual
    pub Each : Term → Type 0
    Each (literal cooked text) = Unit {0}
    Each (command contents text) = Unit {0}
    Each (format cooked text tripled holes) = EachHole holes
    Each (variable name number) = V (record { name = name; number = number })
    Each (call name file es) = C name (count es) × EachOf es
    Each (assertion c m) = Each c × Each m
    Each (assertion_alone c) = Each c
    Each (both l r) = Each l × Each r
    Each (either l r) = Each l × Each r
    Each (negation e) = Each e
    Each (comparison operator l r) = Each l × Each r
    Each (paired operator l r) = Each l × Each r
    Each (rooted r) = Each r
    Each (appended l r) = Each l × Each r
    Each (choice c t o) = Each c × Each t × Each o
    Each (choice_alone c t) = Each c × Each t
    Each (listing es) = EachOf es
    Each (group e) = Each e

    pub EachOf : Terms → Type 0
    EachOf end = Unit {0}
    EachOf (more e es) = Each e × EachOf es

    pub EachHole : Holes → Type 0
    EachHole closed = Unit {0}
    EachHole (hole e cooked text hs) = Each e × EachHole hs

-- what a term reads it names, where its commands and calls read nothing else
module _ (P : Lookup → Variable → Type 0) (V : Variable → Type 0) (C : List ℕ → ℕ → Type 0) (stage : Stage)
    (named : (x : Variable) → V x → P around x)
    (commands : (contents text : List ℕ) → Sound P Any (stage.command contents text))
    (calls : (name file : List ℕ) (ds : List (Dialogue Value)) → C name (length ds) → AllSound P ds → Sound P Any (stage.call name file ds)) where
  abbrev d : Term → Dialogue Value
  d t = dialogue stage t

  both_sound : (l r : Dialogue Value) → Sound P Any l → Sound P Any r → Sound P Any (sides l r)
  both_sound l r h g = then_sound P Any Any l _ h (λ a _. then_sound P Any Any r _ g (λ b _. tt))

  mutual
    pub sound : (t : Term) → Each V C t → Sound P Any (dialogue stage t)
    sound (literal cooked text) h = tt
    sound (command contents text) h = commands contents text
    sound (format cooked text tripled holes) h = then_sound P Any Any (filled stage cooked holes) _ (sound_holes cooked holes h) (λ whole _. tt)
    sound (variable name number) h = (named (record { name = name; number = number }) h, λ value. tt)
    sound (call name file es) h = calls name file (dialogues stage es) (subst (C name) (counted es) h.0) (sound_all es h.1)
    sound (assertion c m) h = then_sound P Any Any (d c) _ (sound c h.0) (λ v _. choice_sound P Any (is_truthy v) _ (failing (d m)) tt (then_sound P Any Any (d m) _ (sound m h.1) (λ w _. tt)))
    sound (assertion_alone c) h = then_sound P Any Any (d c) _ (sound c h) (λ v _. ends_sound P _)
    sound (both l r) h = then_sound P Any Any (d l) _ (sound l h.0) (λ v _. choice_sound P Any (is_truthy v) (d r) _ (sound r h.1) tt)
    sound (either l r) h = then_sound P Any Any (d l) _ (sound l h.0) (λ v _. choice_sound P Any (is_truthy v) _ (d r) tt (sound r h.1))
    sound (negation e) h = then_sound P Any Any (d e) _ (sound e h) (λ v _. tt)
    sound (comparison operator l r) h = then_sound P Any Any (comparing operator (d l) (d r)) _ (then_sound P Any Any (sides (d l) (d r)) _ (both_sound (d l) (d r) (sound l h.0) (sound r h.1)) (λ vs _. ends_sound P (compared operator vs.0 vs.1))) (λ holds _. tt)
    sound (paired operator l r) h = then_sound P Any Any (sides (d l) (d r)) _ (both_sound (d l) (d r) (sound l h.0) (sound r h.1)) (λ vs _. ends_sound P _)
    sound (rooted r) h = then_sound P Any Any (d r) _ (sound r h) (λ v _. ends_sound P _)
    sound (appended l r) h = then_sound P Any Any (sides (d l) (d r)) _ (both_sound (d l) (d r) (sound l h.0) (sound r h.1)) (λ vs _. tt)
    sound (choice c t o) h = then_sound P Any Any (holding (d c)) _ (then_sound P Any Any (d c) _ (sound c h.0) (λ v _. tt)) (λ holds _. choice_sound P Any holds (d t) (d o) (sound t h.1) (sound o h.2))
    sound (choice_alone c t) h = then_sound P Any Any (holding (d c)) _ (then_sound P Any Any (d c) _ (sound c h.0) (λ v _. tt)) (λ holds _. choice_sound P Any holds (d t) _ (sound t h.1) tt)
    sound (listing es) h = then_sound P (λ vs. length vs ≡ length (dialogues stage es)) Any (row (dialogues stage es)) _ (row_sound P (dialogues stage es) (sound_all es h)) (λ vs _. tt)
    sound (group e) h = sound e h

    sound_all : (es : Terms) → EachOf V C es → AllSound P (dialogues stage es)
    sound_all end h = tt
    sound_all (more e es) h = (sound e h.0, sound_all es h.1)

    sound_holes : (so_far : List ℕ) (hs : Holes) → EachHole V C hs → Sound P Any (filled stage so_far hs)
    sound_holes so_far closed h = tt
    sound_holes so_far (hole e cooked text hs) h = then_sound P Any Any (d e) _ (sound e h.0) (λ v _. sound_holes (so_far ++ (joined v ++ cooked)) hs h.1)

    counted : (es : Terms) → count es ≡ length (dialogues stage es)
    counted end = refl
    counted (more e es) = ap suc (counted es)
