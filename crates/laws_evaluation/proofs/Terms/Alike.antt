-- Terms that differ in the numbers of variables alone have dialogues that are alike, and these go alike.
use Rattle.std.proofs.Common.{◌≡◌, ℕ, ◌+◌, List, [], ◌∷◌, ◌++◌, Bool, true, false, if◌then◌else◌, Option, Some, None, Result, Ok, Err, refl, sym, ap, ap₂, subst, MatchResult}
use Rattle.just_host.specs.declared.entry.Entry.{Entry}
use Rattle.just_host.specs.declared.entry.Entry.TheVariants.{Asked}
use Rattle.tree_expressions.specs.Shape as shapes
use Rattle.tree_expressions.specs.declared.operator.ListOperator.TheVariants.{Concatenate, Join}
use Rattle.tree_expressions.specs.Operators.{disjunction, conjunction, appending, concatenation, joining}
use Rattle.tree_expressions.specs.Operators as operators
use Rattle.just_value.specs.Values.{joined}
use Rattle.meaning_dialogues.specs.Faults.{Fault, assertion_failed}
use Rattle.meaning_dialogues.specs.Dialogue.{Dialogue, Ends, Asks, Reads, ◌>>=◌, DialogueGoes, Reading, Lookup, around, in_module, Variable}
use Rattle.meaning_dialogues.specs.Evaluation.{Value, Stage, row, sides, comparing, holding, failing, dialogue, dialogues, filled, is_truthy, asserted, ticked}
use Rattle.meaning_dialogues.specs.Calls.{arguments, as_argument, Frame, in_frame, or_read, inside}
use Rattle.meaning_dialogues.specs.Terms.{Term, Terms, Holes, literal, command, format, variable, call, assertion, assertion_alone, both, either, negation, comparison, paired, rooted, appended, choice, choice_alone, listing, group, end, more, closed, hole, shape_in, shapes_in, interpolations_in}
use Rattle.meaning_dialogues.proofs.Dialogues.{weaker}
use Rattle.meaning_dialogues.proofs.Soundness.{Each, EachOf, EachHole}
use Rattle.tree_expressions.specs.Printing.{text_of}
use Rattle.laws_evaluation.specs.Terms.Alike.{Alike, AreAlike}
use Rattle.laws_evaluation.specs.Terms.Renumbering.{renumbered, renumbered_all, renumbered_holes}

-- ---- dialogues

-- one after the other
pub then_alike : {A B : Type 0} (C : Lookup → Variable → Variable → Type 0) (t u : Dialogue A) (k l : A → Dialogue B) → Alike C t u → ((a : A) → Alike C (k a) (l a)) → Alike C (t >>= k) (u >>= l)
then_alike C (Ends (Ok a)) (Ends b) k l h g = subst (λ r. Alike C (k a) (Ends r >>= l)) h (g a)
then_alike C (Ends (Err e)) (Ends b) k l h g = subst (λ r. Alike C (Ends (Err e) >>= k) (Ends r >>= l)) h refl
then_alike C (Asks q next) (Asks p after) k l h g = (h.0, λ answer. then_alike C (next answer) (after answer) k l (h.1 answer) g)
then_alike C (Reads place x next) (Reads there y after) k l h g = (h.0, h.1, λ value. then_alike C (next value) (after value) k l (h.2 value) g)
then_alike C (Ends a) (Asks p after) k l h g = absurd h
then_alike C (Ends a) (Reads there y after) k l h g = absurd h
then_alike C (Asks q next) (Ends b) k l h g = absurd h
then_alike C (Asks q next) (Reads there y after) k l h g = absurd h
then_alike C (Reads place x next) (Ends b) k l h g = absurd h
then_alike C (Reads place x next) (Asks p after) k l h g = absurd h

choice_alike : {A : Type 0} (C : Lookup → Variable → Variable → Type 0) (b : Bool) (s s' t t' : Dialogue A) → Alike C s s' → Alike C t t' → Alike C (if b then s else t) (if b then s' else t')
choice_alike C true s s' t t' h g = h
choice_alike C false s s' t t' h g = g

-- a row
pub row_alike : (C : Lookup → Variable → Variable → Type 0) (ds es : List (Dialogue Value)) → AreAlike C ds es → Alike C (row ds) (row es)
row_alike C [] [] h = refl
row_alike C (d ∷ ds) (e ∷ es) h = then_alike C d e _ _ h.0 (λ v. then_alike C (row ds) (row es) _ _ (row_alike C ds es h.1) (λ vs. refl))
row_alike C [] (e ∷ es) h = absurd h
row_alike C (d ∷ ds) [] h = absurd h

-- the arguments of a call
pub arguments_alike : (C : Lookup → Variable → Variable → Type 0) (takes : ℕ → Bool) (name : List ℕ) (k : ℕ) (ds es : List (Dialogue Value)) → AreAlike C ds es → Alike C (arguments takes name k ds) (arguments takes name k es)
arguments_alike C takes name k [] [] h = refl
arguments_alike C takes name k (d ∷ ds) (e ∷ es) h =
    then_alike C d e _ _ h.0
    (λ v. then_alike C (Ends (as_argument (takes k) name v)) (Ends (as_argument (takes k) name v)) _ _ refl
    (λ w. then_alike C (arguments takes name (k + 1) ds) (arguments takes name (k + 1) es) _ _ (arguments_alike C takes name (k + 1) ds es h.1) (λ vs. refl)))
arguments_alike C takes name k [] (e ∷ es) h = absurd h
arguments_alike C takes name k (d ∷ ds) [] h = absurd h

at_read : {A : Type 0} (C : Lookup → Variable → Variable → Type 0) (k l : Value → Dialogue A) (x y : Variable) (seen other : Option Value) → seen ≡ other → C in_module x y → ((v : Value) → Alike C (k v) (l v))
    → Alike C (or_read seen k x) (or_read other l y)
at_read C k l x y (Some v) other same c g = subst (λ o. Alike C (k v) (or_read o l y)) same (g v)
at_read C k l x y None other same c g = subst (λ o. Alike C (Reads in_module x k) (or_read o l y)) same (refl, c, g)

-- The body of a function in two frames: what its dialogues read has one value in both frames, or none, and corresponds in the module.
pub inside_alike : {A : Type 0} (C D : Lookup → Variable → Variable → Type 0) (first second : Frame)
    → ((x y : Variable) → D around x y → (in_frame first x.number ≡ in_frame second y.number) × C in_module x y) → ((x y : Variable) → D in_module x y → C in_module x y)
    → (t u : Dialogue A) → Alike D t u → Alike C (inside first t) (inside second u)
inside_alike C D first second up over (Ends a) (Ends b) h = h
inside_alike C D first second up over (Asks q next) (Asks p after) h = (h.0, λ answer. inside_alike C D first second up over (next answer) (after answer) (h.1 answer))
inside_alike C D first second up over (Reads around x next) (Reads around y after) h =
    let found = up x y h.1 in
    at_read C _ _ x y _ _ found.0 found.1 (λ v. inside_alike C D first second up over (next v) (after v) (h.2 v))
inside_alike C D first second up over (Reads in_module x next) (Reads in_module y after) h = (refl, over x y h.1, λ v. inside_alike C D first second up over (next v) (after v) (h.2 v))
inside_alike C D first second up over (Reads around x next) (Reads in_module y after) h = absurd (other_place h.0)
  where
    other_place : around ≡ in_module → ⊥
    other_place e = cc
inside_alike C D first second up over (Reads in_module x next) (Reads around y after) h = absurd (other_place h.0)
  where
    other_place : in_module ≡ around → ⊥
    other_place e = cc
inside_alike C D first second up over (Ends a) (Asks p after) h = absurd h
inside_alike C D first second up over (Ends a) (Reads there y after) h = absurd h
inside_alike C D first second up over (Asks q next) (Ends b) h = absurd h
inside_alike C D first second up over (Asks q next) (Reads there y after) h = absurd h
inside_alike C D first second up over (Reads place x next) (Ends b) h = absurd h
inside_alike C D first second up over (Reads place x next) (Asks p after) h = absurd h

-- two dialogues that are alike go alike, by readings that give one result for corresponding variables
pub goes_alike : {A : Type 0} (C : Lookup → Variable → Variable → Type 0) (first second : Reading) → ((place : Lookup) (x y : Variable) → C place x y → first place x ≡ second place y)
    → (t u : Dialogue A) (old new : List Entry) (r : Result A Fault) → Alike C t u → DialogueGoes first t old new r → DialogueGoes second u old new r
goes_alike C first second same (Ends a) (Ends b) old new r alike h = subst (λ e. (new ≡ old) × (r ≡ e)) alike h
goes_alike C first second same (Asks q next) (Asks p after) old new r alike h =
    (h.0, goes_alike C first second same (next h.0) (after h.0) _ new r (alike.1 h.0) (subst (λ it. DialogueGoes first (next h.0) (old ++ Asked it h.0 ∷ []) new r) alike.0 h.1))
goes_alike C first second same (Reads place x next) (Reads there y after) old new r alike h =
    let one : first place x ≡ second there y = subst (λ it. first place x ≡ second it y) alike.0 (same place x y alike.1) in
    weaker (second there y) (λ v g. goes_alike C first second same (next v) (after v) old new r (alike.2 v) g) (λ f g. g)
    (subst (λ seen. MatchResult seen (λ v. DialogueGoes first (next v) old new r) (λ f. (new ≡ old) × (r ≡ Err f))) one h)
goes_alike C first second same (Ends a) (Asks p after) old new r alike h = absurd alike
goes_alike C first second same (Ends a) (Reads there y after) old new r alike h = absurd alike
goes_alike C first second same (Asks q next) (Ends b) old new r alike h = absurd alike
goes_alike C first second same (Asks q next) (Reads there y after) old new r alike h = absurd alike
goes_alike C first second same (Reads place x next) (Ends b) old new r alike h = absurd alike
goes_alike C first second same (Reads place x next) (Asks p after) old new r alike h = absurd alike

-- ---- terms

module _ (names : List ℕ → Option ℕ) where
  mutual
    -- a term with other numbers has the same shape, so it is printed the same
    pub same_shape : (t : Term) → shape_in (renumbered names t) ≡ shape_in t
    same_shape (literal cooked text) = refl
    same_shape (command contents text) = refl
    same_shape (format cooked text tripled holes) = ap (shapes.format text) (same_holes holes)
    same_shape (variable name number) = refl
    same_shape (call name file es) = ap (shapes.call name) (same_shapes es)
    same_shape (assertion c m) = ap₂ shapes.assertion (same_shape c) (same_shape m)
    same_shape (assertion_alone c) = ap shapes.assertion_alone (same_shape c)
    same_shape (both l r) = ap₂ (shapes.binary conjunction) (same_shape l) (same_shape r)
    same_shape (either l r) = ap₂ (shapes.binary disjunction) (same_shape l) (same_shape r)
    same_shape (negation e) = ap shapes.negation (same_shape e)
    same_shape (comparison operator l r) = ap₂ (shapes.binary (operators.comparison operator)) (same_shape l) (same_shape r)
    same_shape (paired Concatenate l r) = ap₂ (shapes.binary concatenation) (same_shape l) (same_shape r)
    same_shape (paired Join l r) = ap₂ (shapes.binary joining) (same_shape l) (same_shape r)
    same_shape (rooted r) = ap shapes.rooted (same_shape r)
    same_shape (appended l r) = ap₂ (shapes.binary appending) (same_shape l) (same_shape r)
    same_shape (choice c t o) = rw (same_shape c, same_shape t, same_shape o) refl
    same_shape (choice_alone c t) = ap₂ shapes.choice_alone (same_shape c) (same_shape t)
    same_shape (listing es) = ap shapes.listing (same_shapes es)
    same_shape (group e) = ap shapes.group (same_shape e)

    same_shapes : (es : Terms) → shapes_in (renumbered_all names es) ≡ shapes_in es
    same_shapes end = refl
    same_shapes (more e es) = ap₂ shapes.more (same_shape e) (same_shapes es)

    same_holes : (hs : Holes) → interpolations_in (renumbered_holes names hs) ≡ interpolations_in hs
    same_holes closed = refl
    same_holes (hole e cooked text hs) = rw (same_shape e, same_holes hs) refl

-- Two stages whose commands and calls are alike: a term and the one with other numbers are alike, where each variable in it corresponds to the one of its name.
module _ (C : Lookup → Variable → Variable → Type 0) (names : List ℕ → Option ℕ) (V : Variable → Type 0) (K : List ℕ → ℕ → Type 0) (first second : Stage)
    (named : (x : Variable) → V x → C around x (record { name = x.name; number = names x.name }))
    (lists : first.lists ≡ second.lists)
    (commands : (contents text : List ℕ) → Alike C (first.command contents text) (second.command contents text))
    (calls : (name file : List ℕ) (ds es : List (Dialogue Value)) → AreAlike C ds es → Alike C (first.call name file ds) (second.call name file es)) where
  abbrev d : Term → Dialogue Value
  d t = dialogue first t

  abbrev e : Term → Dialogue Value
  e t = dialogue second (renumbered names t)

  sides_alike : (l r l' r' : Dialogue Value) → Alike C l l' → Alike C r r' → Alike C (sides l r) (sides l' r')
  sides_alike l r l' r' h g = then_alike C l l' _ _ h (λ a. then_alike C r r' _ _ g (λ b. refl))

  asserting : (b : Bool) (value : Value) (fault : Fault) (other : Fault) → fault ≡ other → (let it : Result Value Fault = if b then Ok (asserted first.lists value) else Err fault in it) ≡ (if b then Ok (asserted second.lists value) else Err other)
  asserting true value fault other same = ap (λ it. Ok (asserted it value)) lists
  asserting false value fault other same = ap Err same

  mutual
    pub alike : (t : Term) → Each V K t → Alike C (d t) (e t)
    alike (literal cooked text) h = refl
    alike (command contents text) h = commands contents text
    alike (format cooked text tripled holes) h = then_alike C (filled first cooked holes) (filled second cooked (renumbered_holes names holes)) _ _ (alike_holes cooked holes h) (λ whole. refl)
    alike (variable name number) h = (refl, named (record { name = name; number = number }) h, λ value. refl)
    alike (call name file es) h = calls name file (dialogues first es) (dialogues second (renumbered_all names es)) (alike_all es h.1)
    alike (assertion c m) h =
        then_alike C (d c) (e c) _ _ (alike c h.0)
        (λ v. choice_alike C (is_truthy v) _ _ (failing (d m)) (failing (e m)) (ap (λ it. Ok (asserted it v)) lists) (then_alike C (d m) (e m) _ _ (alike m h.1) (λ w. refl)))
    alike (assertion_alone c) h =
        then_alike C (d c) (e c) _ _ (alike c h) (λ v. asserting (is_truthy v) v _ _ (ap (λ it. assertion_failed (ticked (text_of it))) (sym (same_shape names c))))
    alike (both l r) h = then_alike C (d l) (e l) _ _ (alike l h.0) (λ v. choice_alike C (is_truthy v) (d r) (e r) _ _ (alike r h.1) refl)
    alike (either l r) h = then_alike C (d l) (e l) _ _ (alike l h.0) (λ v. choice_alike C (is_truthy v) _ _ (d r) (e r) refl (alike r h.1))
    alike (negation t) h = then_alike C (d t) (e t) _ _ (alike t h) (λ v. refl)
    alike (comparison operator l r) h =
        then_alike C (comparing operator (d l) (d r)) (comparing operator (e l) (e r)) _ _
        (then_alike C (sides (d l) (d r)) (sides (e l) (e r)) _ _ (sides_alike (d l) (d r) (e l) (e r) (alike l h.0) (alike r h.1)) (λ vs. refl)) (λ holds. refl)
    alike (paired operator l r) h = then_alike C (sides (d l) (d r)) (sides (e l) (e r)) _ _ (sides_alike (d l) (d r) (e l) (e r) (alike l h.0) (alike r h.1)) (λ vs. refl)
    alike (rooted r) h = then_alike C (d r) (e r) _ _ (alike r h) (λ v. refl)
    alike (appended l r) h = then_alike C (sides (d l) (d r)) (sides (e l) (e r)) _ _ (sides_alike (d l) (d r) (e l) (e r) (alike l h.0) (alike r h.1)) (λ vs. refl)
    alike (choice c t o) h =
        then_alike C (holding (d c)) (holding (e c)) _ _ (then_alike C (d c) (e c) _ _ (alike c h.0) (λ v. refl))
        (λ holds. choice_alike C holds (d t) (e t) (d o) (e o) (alike t h.1) (alike o h.2))
    alike (choice_alone c t) h =
        then_alike C (holding (d c)) (holding (e c)) _ _ (then_alike C (d c) (e c) _ _ (alike c h.0) (λ v. refl))
        (λ holds. choice_alike C holds (d t) (e t) _ _ (alike t h.1) refl)
    alike (listing es) h = then_alike C (row (dialogues first es)) (row (dialogues second (renumbered_all names es))) _ _ (row_alike C (dialogues first es) (dialogues second (renumbered_all names es)) (alike_all es h)) (λ vs. refl)
    alike (group t) h = alike t h

    pub alike_all : (es : Terms) → EachOf V K es → AreAlike C (dialogues first es) (dialogues second (renumbered_all names es))
    alike_all end h = tt
    alike_all (more t es) h = (alike t h.0, alike_all es h.1)

    alike_holes : (so_far : List ℕ) (hs : Holes) → EachHole V K hs → Alike C (filled first so_far hs) (filled second so_far (renumbered_holes names hs))
    alike_holes so_far closed h = refl
    alike_holes so_far (hole t cooked text hs) h = then_alike C (d t) (e t) _ _ (alike t h.0) (λ v. alike_holes (so_far ++ (joined v ++ cooked)) hs h.1)
