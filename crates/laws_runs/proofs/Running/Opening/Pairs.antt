-- What commands are given in a module, by numbers and by names.
use Rattle.std.proofs.Common.{◌≡◌, ◌⊎◌, inl, inr, refl, sym, ◌∙◌, ap, ap₂, subst, Bool, true, false, cond, not, ◌&&◌, ◌||◌, List, [], ◌∷◌, ◌++◌, map, filter, is_some, Option, Some, None, ℕ, zero, suc, true≢false}
use Rattle.std.specs.Prelude.{Contains, IfSome, ◌==◌, slice_get}
use Rattle.std.specs.Cmp.Lexicographic.{slice_cmp}
use Rattle.std.specs.List.{AllByRecursion}
use Rattle.std.specs.List.Sorted.{IsStrictlySortedBy}
use Rattle.std.specs.Option.{option_map, option_or}
use Rattle.std.specs.Ordering.{nat_cmp}
use Rattle.std.specs.declared.cmp.Ordering.TheVariants.{Less}
use Rattle.std.specs.Str.{bytes_eq}
use Rattle.std.proofs.lemmas.Bool.Decides.{Decides-eqb}
use Rattle.std.proofs.lemmas.Cmp.{nat_cmp_total, tied_itself}
use Rattle.std.proofs.lemmas.Option.{none-some, same_Some}
use Rattle.std.proofs.lemmas.Slice.Eq.{bytes_eq-Decides}
use Rattle.just_host.specs.declared.job.Pair.{Pair}
use Rattle.just_value.specs.Constants.{constant_rows}
use Rattle.just_value.specs.Frames.{BindsRows, BoundRow, ByNumber, bound_in, constant_binding}
use Rattle.just_value.specs.Values.{joined}
use Rattle.evaluate_context.specs.Environment.{IsEnvironment, binding_pair, frame_pairs, is_among, is_exported as is_exported_row, last_of, pair_at, text_of, without}
use Rattle.evaluate_context.specs.Surroundings.{Standing, Surroundings, by_name, entries_by_name, given, sorted_names}
use Rattle.evaluate_context.specs.declared.context.AssignmentRef.{AssignmentRef}
use Rattle.evaluate_context.proofs.ByName.{by_name_same, found, last_append, last_sorted, or_none, sorted_after}
use Rattle.evaluate_context.proofs.Environments.{environment_by_name}
use Rattle.meaning_dialogues.specs.Evaluation.{Value}
use Rattle.meaning_runs.specs.Counts.{each_once}
use Rattle.meaning_runs.specs.Parts.{is_met}
use Rattle.meaning_rules.proofs.Worlds.Places.{contains_cases, contains_first, contains_later, contains_none}
use Rattle.meaning_evaluation.specs.Named.{Definitions}
use Rattle.meaning_evaluation.specs.Scopes.{exported_pair}
use Rattle.just_meaning.specs.Opening.{Held, held, is_exported, named, pairs_of}
use Rattle.laws_runs.specs.ByName.Places.{SamePlace}
use Rattle.laws_agreement.specs.Grounds.Alike.{IsRowOf}
use Rattle.laws_runs.proofs.Running.Opening.Values.{AreApart, HoldAlike, name_of, number_of}

-- ---- names in byte order

abbrev unvalued : List (List ℕ) → List Pair
unvalued names = map (λ name. let p : Pair = record { name = name; value = [] } in p) names

names_of_entries : (es : List (List ℕ × List ℕ)) → map (λ (p : Pair). p.name) (map pair_at es) ≡ map (λ e. e.0) es
names_of_entries [] = refl
names_of_entries (e ∷ es) = ap (λ l. e.0 ∷ l) (names_of_entries es)

names_back : (names : List (List ℕ)) → map (λ (p : Pair). p.name) (unvalued names) ≡ names
names_back [] = refl
names_back (name ∷ names) = ap (λ l. name ∷ l) (names_back names)

-- names that stand in strict order stay as they are
pub sorted_names_are : (names : List (List ℕ)) → IsStrictlySortedBy (slice_cmp nat_cmp) names → sorted_names names ≡ names
sorted_names_are names sorted =
    let environment : IsEnvironment (unvalued names) [] (unvalued names) [] = record {
      values = λ name. refl;
      sorted = subst (IsStrictlySortedBy (slice_cmp nat_cmp)) (sym (names_back names)) sorted;
      lacking = refl;
    } in
    sym (names_of_entries (entries_by_name [] (unvalued names)))
    ∙ ap (map (λ (p : Pair). p.name)) (sym (environment_by_name (unvalued names) (unvalued names) [] [] environment))
    ∙ names_back names

-- pairs by name have the last value of each name
pub last_by_name : (name : List ℕ) (pairs : List Pair) → last_of name (by_name pairs) ≡ last_of name pairs
last_by_name name pairs = last_sorted name (entries_by_name [] pairs) (sorted_after [] pairs tt) ∙ found name pairs

-- ---- two places with the same pairs

-- what is left of pairs without some names
last_without : (name : List ℕ) (out : List (List ℕ)) (ps : List Pair) → last_of name (without out ps) ≡ cond (is_among out name) None (last_of name ps)
last_without name out [] = neither (is_among out name)
  where
    neither : (b : Bool) → (let o : Option (List ℕ) = None in o) ≡ cond b None None
    neither true = refl
    neither false = refl
last_without name out (p ∷ ps) = by_kept (is_among out p.name) refl (last_without name out ps)
  where
    by_name_test : (b : Bool) → bytes_eq p.name name ≡ b → is_among out p.name ≡ true → cond (is_among out name) None (last_of name ps) ≡ cond (is_among out name) None (option_or (last_of name ps) (cond b (Some p.value) None))
    by_name_test true e out_is =
        let there : is_among out name ≡ true = ap (is_among out) (sym ((bytes_eq-Decides p.name name).0 e)) ∙ out_is in
        ap (λ b. cond b None (last_of name ps)) there ∙ sym (ap (λ b. cond b None (option_or (last_of name ps) (Some p.value))) there)
    by_name_test false e out_is = ap (cond (is_among out name) None) (sym (or_none (last_of name ps)))

    by_among : (b : Bool) → is_among out name ≡ b → is_among out p.name ≡ false → option_or (cond b None (last_of name ps)) (cond (bytes_eq p.name name) (Some p.value) None) ≡ cond b None (option_or (last_of name ps) (cond (bytes_eq p.name name) (Some p.value) None))
    by_among false e out_is = refl
    by_among true e out_is = by_same (bytes_eq p.name name) refl
      where
        by_same : (b : Bool) → bytes_eq p.name name ≡ b → cond b (Some p.value) None ≡ None
        by_same true same = absurd (true≢false (sym e ∙ ap (is_among out) (sym ((bytes_eq-Decides p.name name).0 same)) ∙ out_is))
        by_same false same = refl

    by_kept : (b : Bool) → is_among out p.name ≡ b → last_of name (without out ps) ≡ cond (is_among out name) None (last_of name ps)
        → last_of name (cond (not b) (p ∷ without out ps) (without out ps)) ≡ cond (is_among out name) None (option_or (last_of name ps) (cond (bytes_eq p.name name) (Some p.value) None))
    by_kept true e rest = rest ∙ by_name_test (bytes_eq p.name name) refl e
    by_kept false e rest = ap (λ o. option_or o (cond (bytes_eq p.name name) (Some p.value) None)) rest ∙ by_among (is_among out name) refl e

filter_same : {A : Type 0} (f g : A → Bool) (xs : List A) → ((x : A) → f x ≡ g x) → filter f xs ≡ filter g xs
filter_same f g [] same = refl
filter_same f g (x ∷ xs) same = ap₂ (λ b l. cond b (x ∷ l) l) (same x) (filter_same f g xs same) ∙ refl

module _ (m n : Surroundings) (s t : Standing) (unexports : m.unexports ≡ n.unexports) (dotenv : (name : List ℕ) → last_of name m.dotenv ≡ last_of name n.dotenv)
    (exported : (name : List ℕ) → last_of name s.exported ≡ last_of name t.exported) (env : s.env ≡ t.env) where
  given_same : (name : List ℕ) → last_of name (given m s) ≡ last_of name (given n t)
  given_same name =
      last_append name (without m.unexports (m.dotenv ++ s.exported)) s.env
      ∙ ap₂ (λ e o. option_or (last_of name e) o) env
      (last_without name m.unexports (m.dotenv ++ s.exported)
      ∙ ap₂ (λ out o. cond (is_among out name) None o) unexports
      (last_append name m.dotenv s.exported ∙ ap₂ option_or (exported name) (dotenv name) ∙ sym (last_append name n.dotenv t.exported))
      ∙ sym (last_without name n.unexports (n.dotenv ++ t.exported)))
      ∙ sym (last_append name (without n.unexports (n.dotenv ++ t.exported)) t.env)

  -- places with the same pairs, names and recipe are the same
  pub same_place : s.is_dependency ≡ t.is_dependency → s.recipe ≡ t.recipe → SamePlace m n s t
  same_place dependency recipe = record {
    pairs = by_name_same (given m s) (given n t) given_same;
    lacking = filter_same (λ name. not (is_some (last_of name (given m s)))) (λ name. not (is_some (last_of name (given n t)))) m.unexports (λ name. ap (λ o. not (is_some o)) (given_same name))
        ∙ ap (filter (λ name. not (is_some (last_of name (given n t))))) unexports;
    is_dependency = dependency;
    recipe = recipe;
  }

-- ---- what frames export

number_apart : (number : ℕ) → nat_cmp number number ≡ Less → ⊥
number_apart number e = let both = sym (tied_itself nat_cmp_total number) ∙ e in cc both

-- a number below all others is bound by none of them
none_later : (number : ℕ) (rows : List BoundRow) → AllByRecursion (λ other. nat_cmp number other ≡ Less) (map (λ b. b.number) rows) → bound_in rows number ≡ None
none_later number [] h = refl
none_later number (row ∷ rows) h = by_test (number == row.number) refl (none_later number rows h.1)
  where
    by_test : (b : Bool) → (number == row.number) ≡ b → bound_in rows number ≡ None → cond b (Some row) (bound_in rows number) ≡ None
    by_test true e rest = absurd (number_apart number (subst (λ n. nat_cmp number n ≡ Less) (sym ((Decides-eqb number row.number).0 e)) h.0))
    by_test false e rest = rest

itself : (number : ℕ) → (number == number) ≡ true
itself number = (Decides-eqb number number).1 refl

-- each row of a frame by number is bound
bound_row : (rows : List BoundRow) → ByNumber rows → (row : BoundRow) (k : ℕ) → slice_get rows k ≡ Some row → bound_in rows row.number ≡ Some row
unfolding IsStrictlySortedBy
bound_row [] sorted row k e = absurd (none-some row e)
bound_row (first ∷ rows) sorted row zero e = subst (λ (r : BoundRow). bound_in (first ∷ rows) r.number ≡ Some r) (same_Some first row e) (ap (λ b. cond b (Some first) (bound_in rows first.number)) (itself first.number))
bound_row (first ∷ rows) sorted row (suc k) e = by_test (row.number == first.number) refl (bound_row rows sorted.1 row k e)
  where
    by_test : (b : Bool) → (row.number == first.number) ≡ b → bound_in rows row.number ≡ Some row → cond b (Some first) (bound_in rows row.number) ≡ Some row
    by_test true same rest =
        let numbers : row.number ≡ first.number = (Decides-eqb row.number first.number).0 same in
        absurd (none-some row (sym (ap (bound_in rows) numbers ∙ none_later first.number rows sorted.0) ∙ rest))
    by_test false same rest = rest

-- the constants of the language are not exported
no_constant : (export : Bool) (number : ℕ) (o : Option (List ℕ × List ℕ)) (row : BoundRow) → option_map (constant_binding number) o ≡ Some row → is_exported_row export row ≡ false
no_constant export number None row e = absurd (none-some row e)
no_constant export number (Some pair) row e = subst (λ r. is_exported_row export r ≡ false) (same_Some (constant_binding number pair) row e) (by_export export)
  where
    by_export : (b : Bool) → (false || (b && not true)) ≡ false
    by_export true = refl
    by_export false = refl

none_exported : (export : Bool) (rows : List BoundRow) → ((k : ℕ) (row : BoundRow) → slice_get rows k ≡ Some row → is_exported_row export row ≡ false) → frame_pairs export rows ≡ []
none_exported export [] all = refl
none_exported export (row ∷ rows) all = ap (λ b. map binding_pair (cond b (row ∷ filter (is_exported_row export) rows) (filter (is_exported_row export) rows))) (all 0 row refl) ∙ none_exported export rows (λ k. all (suc k))

pub constants_exported : (export : Bool) (constants : List BoundRow) → BindsRows constant_rows constants → ByNumber constants → frame_pairs export constants ≡ []
constants_exported export constants language sorted =
    none_exported export constants (λ k row e. no_constant export row.number (slice_get constant_rows row.number) row (sym (language row.number) ∙ bound_row constants sorted row k e))

-- ---- exported variables

none_both : {A : Type 0} (b : Bool) → (let o : Option A = None in o) ≡ cond b None None
none_both true = refl
none_both false = refl

-- a name that none of these has is not held
held_none : (name : List ℕ) (hs : List Held) → is_met bytes_eq name (map (λ h. h.name) hs) ≡ false → held name hs ≡ None
held_none name [] e = refl
held_none name (x ∷ xs) e = by_test (bytes_eq x.name name) refl (bytes_eq name x.name) refl e (held_none name xs)
  where
    by_test : (b : Bool) → bytes_eq x.name name ≡ b → (c : Bool) → bytes_eq name x.name ≡ c → c || is_met bytes_eq name (map (λ h. h.name) xs) ≡ false → (is_met bytes_eq name (map (λ h. h.name) xs) ≡ false → held name xs ≡ None)
        → cond b (Some x.value) (held name xs) ≡ None
    by_test b is true same e rest = absurd (true≢false e)
    by_test true is false same e rest = absurd (true≢false (sym ((bytes_eq-Decides name x.name).1 (sym ((bytes_eq-Decides x.name name).0 is))) ∙ same))
    by_test false is false same e rest = rest e

first_once : (b c : Bool) → not b && c ≡ true → (b ≡ false) × (c ≡ true)
first_once true c e = absurd (true≢false (sym e))
first_once false c e = (refl, e)

is_false : (t : Bool) → (t ≡ true → ⊥) → t ≡ false
is_false true never = absurd (never refl)
is_false false never = refl

-- one of these has the name, or none has
any_named : (assignments : List AssignmentRef) (name : List ℕ) → ((lent : AssignmentRef) × Contains assignments lent × (name_of lent ≡ name)) ⊎ ((lent : AssignmentRef) → Contains assignments lent → name_of lent ≡ name → ⊥)
any_named [] name = inr (λ lent c e. contains_none [] lent refl c)
any_named (x ∷ xs) name = by_test (bytes_eq (name_of x) name) refl (any_named xs name)
  where
    by_test : (b : Bool) → bytes_eq (name_of x) name ≡ b → ((lent : AssignmentRef) × Contains xs lent × (name_of lent ≡ name)) ⊎ ((lent : AssignmentRef) → Contains xs lent → name_of lent ≡ name → ⊥)
        → ((lent : AssignmentRef) × Contains (x ∷ xs) lent × (name_of lent ≡ name)) ⊎ ((lent : AssignmentRef) → Contains (x ∷ xs) lent → name_of lent ≡ name → ⊥)
    by_test true e rest = inl (x, contains_first x xs, (bytes_eq-Decides (name_of x) name).0 e)
    by_test false e (inl r) = inl (r.0, contains_later x xs r.0 r.1, r.2)
    by_test false e (inr none) = inr (λ lent c same. elim (contains_cases x xs lent c) [
      | inl here ↦ true≢false (sym ((bytes_eq-Decides (name_of x) name).1 (ap name_of here ∙ same)) ∙ e)
      | inr later ↦ none lent later same
    ])

module _ (defined : Definitions) (path : List (List ℕ)) where
  abbrev Exports : List ℕ → Bool
  Exports name = is_exported defined (named path name)

  -- the last value of a name among the exported pairs of values
  last_held : (name : List ℕ) (hs : List Held) → each_once bytes_eq (map (λ h. h.name) hs) ≡ true → last_of name (pairs_of defined path hs) ≡ cond (Exports name) (option_map joined (held name hs)) None
  last_held name [] once = none_both (Exports name)
  last_held name (h ∷ hs) once =
      let parts = first_once (is_met bytes_eq h.name (map (λ x. x.name) hs)) (each_once bytes_eq (map (λ x. x.name) hs)) once in
      last_append name (exported_pair (Exports h.name) h.name h.value) (pairs_of defined path hs) ∙ by_test (bytes_eq h.name name) refl (held_none h.name hs parts.0) (last_held name hs parts.1)
    where
      pair_last : (e b : Bool) → bytes_eq h.name name ≡ b → last_of name (exported_pair e h.name h.value) ≡ cond e (cond b (Some (joined h.value)) None) None
      pair_last true b is = ap (λ t. cond t (Some (joined h.value)) None) is
      pair_last false b is = refl

      by_test : (b : Bool) → bytes_eq h.name name ≡ b → held h.name hs ≡ None → last_of name (pairs_of defined path hs) ≡ cond (Exports name) (option_map joined (held name hs)) None
          → option_or (last_of name (pairs_of defined path hs)) (last_of name (exported_pair (Exports h.name) h.name h.value)) ≡ cond (Exports name) (option_map joined (cond b (Some h.value) (held name hs))) None
      by_test true is free rest =
          let same = (bytes_eq-Decides h.name name).0 is in
          ap₂ option_or (rest ∙ ap (λ o. cond (Exports name) (option_map joined o) None) (ap (λ n. held n hs) (sym same) ∙ free) ∙ sym (none_both (Exports name))) (pair_last (Exports h.name) true is)
          ∙ ap (λ n. cond (Exports n) (Some (joined h.value)) None) same
      by_test false is free rest =
          ap₂ option_or rest (pair_last (Exports h.name) false is ∙ sym (none_both (Exports h.name))) ∙ or_none (cond (Exports name) (option_map joined (held name hs)) None)

  module _ (assignments : List AssignmentRef) (export : Bool) (apart : AreApart assignments export) (exports : (lent : AssignmentRef) → Contains assignments lent → Exports (name_of lent) ≡ lent.assignment.now.export || export) where
    -- what is exported of a row that is one of these
    row_exported : (row : BoundRow) → (r : IsRowOf export assignments row) → is_exported_row export row ≡ Exports (name_of r.0)
    row_exported row r = ap (is_exported_row export) r.2 ∙ by_bools r.0.assignment.now.export export ∙ sym (exports r.0 r.1)
      where
        by_bools : (a b : Bool) → ((a || b) || (b && true)) ≡ (a || b)
        by_bools true b = refl
        by_bools false true = refl
        by_bools false false = refl

    row_text : (row : BoundRow) → (r : IsRowOf export assignments row) → text_of row.name ≡ name_of r.0
    row_text row r = ap (λ (x : BoundRow). text_of x.name) r.2

    row_number : (row : BoundRow) → (r : IsRowOf export assignments row) → row.number ≡ number_of r.0
    row_number row r = ap (λ (x : BoundRow). x.number) r.2

    one_row : (name : List ℕ) (row : BoundRow) (others : List BoundRow) (b : Bool)
        → last_of name (map binding_pair (cond b (row ∷ others) others)) ≡ option_or (last_of name (map binding_pair others)) (cond b (cond (bytes_eq (text_of row.name) name) (Some (joined row.value)) None) None)
    one_row name row others true = refl
    one_row name row others false = sym (or_none (last_of name (map binding_pair others)))

    -- the last value of a variable's name among the exported pairs of rows
    last_rows : (lent : AssignmentRef) → Contains assignments lent → (rows : List BoundRow) → ByNumber rows → ((k : ℕ) (row : BoundRow) → slice_get rows k ≡ Some row → IsRowOf export assignments row)
        → last_of (name_of lent) (frame_pairs export rows) ≡ cond (Exports (name_of lent)) (option_map joined (option_map (λ row. row.value) (bound_in rows (number_of lent)))) None
    unfolding IsStrictlySortedBy
    last_rows lent listed [] sorted all = none_both (Exports (name_of lent))
    last_rows lent listed (row ∷ rows) sorted all =
        one_row (name_of lent) row (filter (is_exported_row export) rows) (is_exported_row export row)
        ∙ by_test (number_of lent == row.number) refl (all 0 row refl) (last_rows lent listed rows sorted.1 (λ k. all (suc k)))
      where
        by_test : (b : Bool) → (number_of lent == row.number) ≡ b → IsRowOf export assignments row
            → last_of (name_of lent) (frame_pairs export rows) ≡ cond (Exports (name_of lent)) (option_map joined (option_map (λ (r : BoundRow). r.value) (bound_in rows (number_of lent)))) None
            → option_or (last_of (name_of lent) (frame_pairs export rows)) (cond (is_exported_row export row) (cond (bytes_eq (text_of row.name) (name_of lent)) (Some (joined row.value)) None) None)
            ≡ cond (Exports (name_of lent)) (option_map joined (option_map (λ (r : BoundRow). r.value) (cond b (Some row) (bound_in rows (number_of lent))))) None
        by_test true same r rest =
            let numbers : number_of lent ≡ row.number = (Decides-eqb (number_of lent) row.number).0 same in
            let names : name_of r.0 ≡ name_of lent = sym (apart.names lent r.0 listed r.1 (numbers ∙ row_number row r)) in
            let none : bound_in rows (number_of lent) ≡ None = ap (bound_in rows) numbers ∙ none_later row.number rows sorted.0 in
            ap₂ option_or (rest ∙ ap (λ o. cond (Exports (name_of lent)) (option_map joined (option_map (λ (x : BoundRow). x.value) o)) None) none ∙ sym (none_both (Exports (name_of lent))))
            (ap₂ (λ e b. cond e (cond b (Some (joined row.value)) None) None) (row_exported row r ∙ ap Exports names) ((bytes_eq-Decides (text_of row.name) (name_of lent)).1 (row_text row r ∙ names)))
        by_test false same r rest =
            let unequal : bytes_eq (text_of row.name) (name_of lent) ≡ false
            = is_false (bytes_eq (text_of row.name) (name_of lent)) (λ t. true≢false (sym ((Decides-eqb (number_of lent) row.number).1 (apart.numbers lent r.0 listed r.1 (sym (sym (row_text row r) ∙ (bytes_eq-Decides (text_of row.name) (name_of lent)).0 t)) ∙ sym (row_number row r))) ∙ same)) in
            ap₂ option_or rest (ap (λ b. cond (is_exported_row export row) (cond b (Some (joined row.value)) None) None) unequal ∙ sym (none_both (is_exported_row export row)))
            ∙ or_none (cond (Exports (name_of lent)) (option_map joined (option_map (λ (x : BoundRow). x.value) (bound_in rows (number_of lent)))) None)

    -- a name of none of them has no pair
    none_named : (name : List ℕ) → ((lent : AssignmentRef) → Contains assignments lent → name_of lent ≡ name → ⊥) → (rows : List BoundRow) → ((k : ℕ) (row : BoundRow) → slice_get rows k ≡ Some row → IsRowOf export assignments row)
        → last_of name (frame_pairs export rows) ≡ None
    none_named name none [] all = refl
    none_named name none (row ∷ rows) all =
        one_row name row (filter (is_exported_row export) rows) (is_exported_row export row)
        ∙ ap₂ option_or (none_named name none rows (λ k. all (suc k)))
        (ap (λ b. cond (is_exported_row export row) (cond b (Some (joined row.value)) None) None) (is_false (bytes_eq (text_of row.name) name) (λ t. let r = all 0 row refl in none r.0 r.1 (sym (row_text row r) ∙ (bytes_eq-Decides (text_of row.name) name).0 t)))
        ∙ sym (none_both (is_exported_row export row)))

    module _ (own : List BoundRow) (values : List Held) (alike : HoldAlike assignments export own values) (sorted : ByNumber own) where
      all_rows : (k : ℕ) (row : BoundRow) → slice_get own k ≡ Some row → IsRowOf export assignments row
      all_rows k row e = subst (λ o. IfSome o (IsRowOf export assignments)) (bound_row own sorted row k e) (alike.rows row.number)

      -- the frame exports by numbers what the values export by names
      pub exported_same : (name : List ℕ) → last_of name (frame_pairs export own) ≡ last_of name (pairs_of defined path values)
      exported_same name = elim (any_named assignments name) [
        | inl r ↦
            subst (λ n. last_of n (frame_pairs export own) ≡ last_of n (pairs_of defined path values)) r.2
            (last_rows r.0 r.1 own sorted all_rows
            ∙ ap (λ o. cond (Exports (name_of r.0)) (option_map joined o) None) (alike.same r.0 r.1)
            ∙ sym (last_held (name_of r.0) values alike.once))
        | inr none ↦
            none_named name none own all_rows
            ∙ none_both (Exports name)
            ∙ ap (λ o. cond (Exports name) (option_map joined o) None) (sym (unheld name none (held name values) refl))
            ∙ sym (last_held name values alike.once)
      ]
        where
          unheld : (n : List ℕ) → ((lent : AssignmentRef) → Contains assignments lent → name_of lent ≡ n → ⊥) → (o : Option Value) → held n values ≡ o → held n values ≡ None
          unheld n none None e = e
          unheld n none (Some value) e = let r = alike.only n value e in absurd (none r.0 r.1 r.2)
