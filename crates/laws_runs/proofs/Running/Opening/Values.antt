-- The frame of a module by numbers, and its values by names, as variables are assigned one after another.
use Rattle.std.proofs.Common.{◌≡◌, ◌⊎◌, inl, inr, refl, sym, ◌∙◌, ap, subst, Bool, true, false, cond, not, ◌&&◌, ◌||◌, List, [], ◌∷◌, ◌++◌, map, Option, Some, None, ℕ, true≢false}
use Rattle.std.specs.Prelude.{Contains, IfSome, ◌==◌}
use Rattle.std.specs.Option.{option_map, option_or}
use Rattle.std.specs.Str.{bytes_eq}
use Rattle.std.proofs.lemmas.Bool.Decides.{Decides-eqb}
use Rattle.std.proofs.lemmas.Option.{none-some}
use Rattle.std.proofs.lemmas.Slice.Eq.{bytes_eq-Decides}
use Rattle.just_text.specs.Tokens.{lexeme}
use Rattle.just_value.specs.Frames.{BoundRow, Rebinds, bound_in}
use Rattle.evaluate_context.specs.declared.context.AssignmentRef.{AssignmentRef}
use Rattle.meaning_dialogues.specs.Evaluation.{Value}
use Rattle.meaning_evaluation.specs.Stages.Assigned.{assigned_of, row_of}
use Rattle.meaning_runs.specs.Counts.{each_once}
use Rattle.meaning_runs.specs.Parts.{is_met}
use Rattle.meaning_rules.proofs.Worlds.Places.{contains_first, contains_later, contains_cases, contains_none}
use Rattle.just_meaning.specs.Opening.{Held, held}
use Rattle.laws_agreement.specs.Grounds.Alike.{IsRowOf}

abbrev pub name_of : AssignmentRef → List ℕ
name_of lent = lexeme lent.assignment.now.name.token

abbrev pub number_of : AssignmentRef → ℕ
number_of lent = lent.assignment.now.number

-- ---- values by names

pub held_append : (name : List ℕ) (hs : List Held) (h : Held) → held name (hs ++ h ∷ []) ≡ option_or (held name hs) (cond (bytes_eq h.name name) (Some h.value) None)
held_append name [] h = refl
held_append name (x ∷ xs) h = by_test (bytes_eq x.name name) (held_append name xs h)
  where
    by_test : (b : Bool) → held name (xs ++ h ∷ []) ≡ option_or (held name xs) (cond (bytes_eq h.name name) (Some h.value) None)
        → cond b (Some x.value) (held name (xs ++ h ∷ [])) ≡ option_or (cond b (Some x.value) (held name xs)) (cond (bytes_eq h.name name) (Some h.value) None)
    by_test true e = refl
    by_test false e = e

-- a name that one of these has is held
pub held_there : (hs : List Held) (h : Held) → Contains hs h → (value : Value) × (held h.name hs ≡ Some value)
held_there [] h c = absurd (contains_none [] h refl c)
held_there (x ∷ xs) h c = by_test (bytes_eq x.name h.name) refl (contains_cases x xs h c) (λ d. held_there xs h d)
  where
    by_test : (b : Bool) → bytes_eq x.name h.name ≡ b → (x ≡ h) ⊎ Contains xs h → (Contains xs h → (value : Value) × (held h.name xs ≡ Some value)) → (value : Value) × (cond b (Some x.value) (held h.name xs) ≡ Some value)
    by_test true e d go = (x.value, refl)
    by_test false e (inl same) go = absurd (true≢false (sym ((bytes_eq-Decides x.name h.name).1 (ap (λ (y : Held). y.name) same)) ∙ e))
    by_test false e (inr d) go = go d

met_snoc : (x : List ℕ) (xs : List (List ℕ)) (y : List ℕ) → bytes_eq x y ≡ false → is_met bytes_eq x (xs ++ y ∷ []) ≡ is_met bytes_eq x xs
met_snoc x [] y e = ap (λ b. b || false) e
met_snoc x (z ∷ zs) y e = ap (λ b. bytes_eq x z || b) (met_snoc x zs y e)

-- names that are apart from one more are once with it
once_snoc : (hs : List Held) (h : Held) → each_once bytes_eq (map (λ x. x.name) hs) ≡ true → ((x : Held) → Contains hs x → bytes_eq x.name h.name ≡ false) → each_once bytes_eq (map (λ x. x.name) (hs ++ h ∷ [])) ≡ true
once_snoc [] h once apart = refl
once_snoc (x ∷ xs) h once apart =
    ap (λ b. not b && each_once bytes_eq (map (λ y. y.name) (xs ++ h ∷ []))) (ap (is_met bytes_eq x.name) (names_append xs) ∙ met_snoc x.name (map (λ y. y.name) xs) h.name (apart x (contains_first x xs)))
    ∙ by_parts (not (is_met bytes_eq x.name (map (λ y. y.name) xs))) once (λ rest. once_snoc xs h rest (λ y c. apart y (contains_later x xs y c)))
  where
    names_append : (ys : List Held) → map (λ y. y.name) (ys ++ h ∷ []) ≡ map (λ y. y.name) ys ++ h.name ∷ []
    names_append [] = refl
    names_append (y ∷ ys) = ap (λ l. y.name ∷ l) (names_append ys)

    by_parts : (b : Bool) → b && each_once bytes_eq (map (λ y. y.name) xs) ≡ true → (each_once bytes_eq (map (λ y. y.name) xs) ≡ true → each_once bytes_eq (map (λ y. y.name) (xs ++ h ∷ [])) ≡ true) → b && each_once bytes_eq (map (λ y. y.name) (xs ++ h ∷ [])) ≡ true
    by_parts true e go = go e
    by_parts false e go = absurd (true≢false (sym e))

or_none : (o : Option Value) → option_or o None ≡ o
or_none None = refl
or_none (Some v) = refl

-- ---- the frame and the values

module _ (assignments : List AssignmentRef) (export : Bool) where
  -- two of these have one number where they have one name
  pub record AreApart : Type 0 where
    pub numbers : (lent other : AssignmentRef) → Contains assignments lent → Contains assignments other → name_of lent ≡ name_of other → number_of lent ≡ number_of other
    pub names : (lent other : AssignmentRef) → Contains assignments lent → Contains assignments other → number_of lent ≡ number_of other → name_of lent ≡ name_of other

  -- the one holds by numbers what the other holds by names
  pub record HoldAlike (own : List BoundRow) (values : List Held) : Type 0 where
    pub same : (lent : AssignmentRef) → Contains assignments lent → option_map (λ row. row.value) (bound_in own (number_of lent)) ≡ held (name_of lent) values
    pub rows : (number : ℕ) → IfSome (bound_in own number) (IsRowOf export assignments)
    pub once : each_once bytes_eq (map (λ h. h.name) values) ≡ true
    pub only : (name : List ℕ) (value : Value) → held name values ≡ Some value → (lent : AssignmentRef) × Contains assignments lent × (name_of lent ≡ name)

  pub nothing_held : HoldAlike [] []
  nothing_held = record {
    same = λ lent c. refl;
    rows = λ number. tt;
    once = refl;
    only = λ name value e. absurd (none-some value e);
  }

  module _ (apart : AreApart) (own : List BoundRow) (values : List Held) (alike : HoldAlike own values) (lent : AssignmentRef) (listed : Contains assignments lent) (unbound : bound_in own (number_of lent) ≡ None)
      (value : Value) (next : List BoundRow) (rebinds : Rebinds own (row_of export (assigned_of lent) value) next) where
    abbrev one : Held
    one = record { name = name_of lent; value = value }

    free : held (name_of lent) values ≡ None
    free = sym (alike.same lent listed) ∙ ap (option_map (λ (row : BoundRow). row.value)) unbound

    unequal : (a b : List ℕ) → (a ≡ b → ⊥) → bytes_eq a b ≡ false
    unequal a b apart = by_test (bytes_eq a b) refl
      where
        by_test : (t : Bool) → bytes_eq a b ≡ t → bytes_eq a b ≡ false
        by_test true e = absurd (apart ((bytes_eq-Decides a b).0 e))
        by_test false e = e

    same_after : (other : AssignmentRef) → Contains assignments other → option_map (λ row. row.value) (bound_in next (number_of other)) ≡ held (name_of other) (values ++ one ∷ [])
    same_after other c =
        ap (option_map (λ (row : BoundRow). row.value)) (rebinds (number_of other)) ∙ by_test (number_of other == number_of lent) refl ∙ sym (held_append (name_of other) values one)
      where
        by_test : (b : Bool) → (number_of other == number_of lent) ≡ b
            → option_map (λ (row : BoundRow). row.value) (cond b (Some (row_of export (assigned_of lent) value)) (bound_in own (number_of other))) ≡ option_or (held (name_of other) values) (cond (bytes_eq (name_of lent) (name_of other)) (Some value) None)
        by_test true e =
            let numbers : number_of other ≡ number_of lent = (Decides-eqb (number_of other) (number_of lent)).0 e in
            let names = apart.names lent other listed c (sym numbers) in
            sym (ap (λ o. option_or o (cond (bytes_eq (name_of lent) (name_of other)) (Some value) None)) (ap (λ n. held n values) (sym names) ∙ free)
            ∙ ap (λ b. cond b (Some value) None) ((bytes_eq-Decides (name_of lent) (name_of other)).1 names))
        by_test false e =
            alike.same other c
            ∙ sym (ap (λ b. option_or (held (name_of other) values) (cond b (Some value) None)) (unequal (name_of lent) (name_of other) (λ names. true≢false (sym ((Decides-eqb (number_of other) (number_of lent)).1 (sym (apart.numbers lent other listed c names))) ∙ e)))
            ∙ or_none (held (name_of other) values))

    rows_after : (number : ℕ) → IfSome (bound_in next number) (IsRowOf export assignments)
    rows_after number = subst (λ o. IfSome o (IsRowOf export assignments)) (sym (rebinds number)) (by_test (number == number_of lent))
      where
        by_test : (b : Bool) → IfSome (cond b (Some (row_of export (assigned_of lent) value)) (bound_in own number)) (IsRowOf export assignments)
        by_test true = (lent, listed, refl)
        by_test false = alike.rows number

    once_after : each_once bytes_eq (map (λ h. h.name) (values ++ one ∷ [])) ≡ true
    once_after = once_snoc values one alike.once (λ x c. unequal x.name (name_of lent) (λ same. let h = held_there values x c in none-some h.0 (sym free ∙ ap (λ n. held n values) (sym same) ∙ h.1)))

    only_after : (name : List ℕ) (v : Value) → held name (values ++ one ∷ []) ≡ Some v → (other : AssignmentRef) × Contains assignments other × (name_of other ≡ name)
    only_after name v e = by_held (held name values) refl (sym (held_append name values one) ∙ e)
      where
        by_name : (b : Bool) → bytes_eq (name_of lent) name ≡ b → cond b (Some value) None ≡ Some v → (other : AssignmentRef) × Contains assignments other × (name_of other ≡ name)
        by_name true same e = (lent, listed, (bytes_eq-Decides (name_of lent) name).0 same)
        by_name false same e = absurd (none-some v e)

        by_held : (o : Option Value) → held name values ≡ o → option_or o (cond (bytes_eq (name_of lent) name) (Some value) None) ≡ Some v → (other : AssignmentRef) × Contains assignments other × (name_of other ≡ name)
        by_held (Some u) is e = alike.only name u is
        by_held None is e = by_name (bytes_eq (name_of lent) name) refl e

    -- one more variable is held by both
    pub one_more_held : HoldAlike next (values ++ one ∷ [])
    one_more_held = record { same = same_after; rows = rows_after; once = once_after; only = only_after }
