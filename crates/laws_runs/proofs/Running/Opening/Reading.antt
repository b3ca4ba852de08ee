-- A variable that is bound gives by its number what it gives by its name.
use Rattle.std.proofs.Common.{◌≡◌, refl, sym, ◌∙◌, ap, ap₂, subst, Bool, true, false, cond, List, [], ◌∷◌, map, length, Option, Some, None, Result, ℕ, ◌≤◌, arith, true≢false}
use Rattle.std.specs.Prelude.{Contains, IfSome, IsSome, ◌==◌, slice_get}
use Rattle.std.specs.Option.{option_map, option_or}
use Rattle.std.specs.Str.{bytes_eq}
use Rattle.std.proofs.lemmas.Bool.Decides.{Decides-eqb}
use Rattle.std.proofs.lemmas.Option.{none-some, same_Some, slice_get_within}
use Rattle.std.proofs.lemmas.Slice.Eq.{bytes_eq-Decides}
use Rattle.just_value.specs.Constants.{constant_rows}
use Rattle.just_value.specs.Frames.{BindsRows, BoundRow, Frames, bound_in, constant_binding, look_up}
use Rattle.tree_items.specs.Contexts.{last_named}
use Rattle.modules_compilation.specs.Tables.{at}
use Rattle.evaluate_context.specs.declared.context.AssignmentRef.{AssignmentRef}
use Rattle.evaluate_variables.specs.Opened.{opening_reading}
use Rattle.resolve_analysis.specs.Bound.{constant_number}
use Rattle.meaning_dialogues.specs.Calls.{read_in, value_found}
use Rattle.meaning_dialogues.specs.Dialogue.{Lookup, Variable, around, in_module}
use Rattle.meaning_dialogues.specs.Evaluation.{Value}
use Rattle.meaning_dialogues.specs.Faults.{Fault}
use Rattle.laws_evaluation.specs.Soundness.Known.{IsBoundIn}
use Rattle.laws_names.proofs.Reading.Finding.{last_named_there, none_named}
use Rattle.laws_names.proofs.Reading.Lists.{contains_map, contains_mapped}
use Rattle.laws_names.proofs.Constants.Languages.{constant_text}
use Rattle.just_meaning.specs.Opening.{Held, held, read_by, reading_in, text_named}
use Rattle.laws_runs.specs.ByName.Variables.{unnumbered as by_name}
use Rattle.laws_agreement.specs.Grounds.Alike.{IsRowOf}
use Rattle.laws_runs.proofs.Running.Opening.Values.{HoldAlike, name_of, number_of}

-- the row that is bound to a number has it
pub bound_number : (rows : List BoundRow) (number : ℕ) (row : BoundRow) → bound_in rows number ≡ Some row → row.number ≡ number
bound_number [] number row e = absurd (none-some row e)
bound_number (first ∷ rows) number row e = by_test (number == first.number) refl e (bound_number rows number row)
  where
    by_test : (b : Bool) → (number == first.number) ≡ b → cond b (Some first) (bound_in rows number) ≡ Some row → (bound_in rows number ≡ Some row → row.number ≡ number) → row.number ≡ number
    by_test true is e rest = ap (λ (r : BoundRow). r.number) (sym (same_Some first row e)) ∙ sym ((Decides-eqb number first.number).0 is)
    by_test false is e rest = rest e

turned : (a b : List ℕ) → bytes_eq a b ≡ bytes_eq b a
turned a b = by_tests (bytes_eq a b) refl (bytes_eq b a) refl
  where
    by_tests : (s : Bool) → bytes_eq a b ≡ s → (t : Bool) → bytes_eq b a ≡ t → bytes_eq a b ≡ bytes_eq b a
    by_tests true e true f = e ∙ sym f
    by_tests false e false f = e ∙ sym f
    by_tests true e false f = absurd (true≢false (sym ((bytes_eq-Decides b a).1 (sym ((bytes_eq-Decides a b).0 e))) ∙ f))
    by_tests false e true f = absurd (true≢false (sym ((bytes_eq-Decides a b).1 (sym ((bytes_eq-Decides b a).0 f))) ∙ e))

texts_same : (name : List ℕ) (rows : List (List ℕ × List ℕ)) → text_named name rows ≡ at rows name
texts_same name [] = refl
texts_same name (row ∷ rows) = ap₂ (λ b o. cond b (Some row.1) o) (turned row.0 name) (texts_same name rows)

pub beyond : {A : Type 0} (xs : List A) (k : ℕ) → length xs ≤ k → slice_get xs k ≡ None
beyond xs k le = by_found (slice_get xs k) refl
  where
    by_found : (o : Option _) → slice_get xs k ≡ o → slice_get xs k ≡ None
    by_found None e = e
    by_found (Some x) e = let lt = slice_get_within xs k x e in absurd (omega (arith, le, lt))

module _ (assignments : List AssignmentRef) where
  abbrev pub pairs : List (List ℕ × ℕ)
  pairs = map (λ lent. (name_of lent, number_of lent)) assignments

  -- the number of the variable of a name, else that of the constant
  abbrev pub numbered : List ℕ → Option ℕ
  numbered name = option_or (last_named name pairs) (constant_number name)

module _ (assignments : List AssignmentRef) (export : Bool) (constants : List BoundRow) (language : BindsRows constant_rows constants) (above : (lent : AssignmentRef) → Contains assignments lent → length constant_rows ≤ number_of lent) where
  module _ (own : List BoundRow) (values : List Held) (alike : HoldAlike assignments export own values) where
    abbrev frames : Frames
    frames = record { own = own; outer = constants ∷ [] }

    abbrev by_names : List ℕ → Result Value Fault
    by_names name = read_by (held name values) (text_named name constant_rows) name

    module _ (name : List ℕ) (m : ℕ) (bound : IsSome (look_up frames m)) where
      abbrev found_by : Option BoundRow → Option BoundRow → Option BoundRow
      found_by first second = option_or first (option_or second None)

      -- a variable of the module
      of_variable : (lent : AssignmentRef) → Contains assignments lent → name_of lent ≡ name → number_of lent ≡ m → value_found name (look_up frames m) ≡ by_names name
      of_variable lent listed named is = by_row (bound_in own m) refl
        where
          by_row : (o : Option BoundRow) → bound_in own m ≡ o → value_found name (look_up frames m) ≡ by_names name
          by_row (Some row) e =
              let holds : held name values ≡ Some row.value = ap (λ n. held n values) (sym named) ∙ sym (alike.same lent listed) ∙ ap (λ n. option_map (λ (r : BoundRow). r.value) (bound_in own n)) is ∙ ap (option_map (λ (r : BoundRow). r.value)) e in
              ap (λ o. value_found name (found_by o (bound_in constants m))) e ∙ sym (ap (λ o. read_by o (text_named name constant_rows) name) holds)
          by_row None e =
              let le : length constant_rows ≤ m = subst (λ n. length constant_rows ≤ n) is (above lent listed) in
              let nothing : bound_in constants m ≡ None = language m ∙ ap (option_map (constant_binding m)) (beyond constant_rows m le) in
              absurd (cc (subst IsSome (ap₂ found_by e nothing) bound))

      -- a constant, where no variable of the module has the name
      of_constant : last_named name (pairs assignments) ≡ None → constant_number name ≡ Some m → value_found name (look_up frames m) ≡ by_names name
      of_constant none is =
          let text = constant_text name m is in
          let there : bound_in constants m ≡ Some (constant_binding m text.0) = language m ∙ ap (option_map (constant_binding m)) text.1 in
          ap₂ (λ o p. value_found name (found_by o p)) (unbound (bound_in own m) refl) there
          ∙ sym (ap₂ (λ o p. read_by o p name) (unheld (held name values) refl) (texts_same name constant_rows ∙ text.2))
        where
          unheld : (o : Option Value) → held name values ≡ o → held name values ≡ None
          unheld None e = e
          unheld (Some value) e =
              let r = alike.only name value e in
              absurd (none_named name (pairs assignments) none (subst (λ names. Contains names name) (names_are assignments) (subst (Contains (map name_of assignments)) r.2 (contains_map name_of assignments r.0 r.1))))
            where
              names_are : (xs : List AssignmentRef) → map name_of xs ≡ map (λ (p : List ℕ × ℕ). p.0) (map (λ lent. (name_of lent, number_of lent)) xs)
              names_are [] = refl
              names_are (x ∷ xs) = ap (λ l. name_of x ∷ l) (names_are xs)

          unbound : (o : Option BoundRow) → bound_in own m ≡ o → bound_in own m ≡ None
          unbound None e = e
          unbound (Some row) e =
              let r : IsRowOf export assignments row = subst (λ o. IfSome o (IsRowOf export assignments)) e (alike.rows m) in
              let number : number_of r.0 ≡ m = ap (λ (x : BoundRow). x.number) (sym r.2) ∙ bound_number own m row e in
              let le = above r.0 r.1 in
              let text = constant_text name m is in
              let lt = slice_get_within constant_rows m text.0 text.1 in
              absurd (omega (arith, le, lt, number))

      by_kept : (q : Option ℕ) → last_named name (pairs assignments) ≡ q → Some m ≡ option_or q (constant_number name) → value_found name (look_up frames m) ≡ by_names name
      by_kept None none e = of_constant none (sym e)
      by_kept (Some p) is e =
          let c = contains_mapped (λ lent. (name_of lent, number_of lent)) assignments (name, p) (last_named_there name (pairs assignments) p is) in
          of_variable c.0 c.1 (ap (λ (r : List ℕ × ℕ). r.0) c.2) (ap (λ (r : List ℕ × ℕ). r.1) c.2 ∙ sym (same_Some m p e))

    by_number : (name : List ℕ) (o : Option ℕ) → o ≡ numbered assignments name → IsBoundIn frames o → read_in (λ number. false) frames name o ≡ by_names name
    by_number name None e bound = absurd bound
    by_number name (Some m) e bound = by_kept name m bound (last_named name (pairs assignments)) refl e

    -- a variable that has the number of its name, and is bound
    pub gives_alike : (place : Lookup) (x : Variable) → x.number ≡ numbered assignments x.name → IsBoundIn frames x.number → opening_reading frames place x ≡ reading_in values place (by_name x)
    gives_alike around x is bound = by_number x.name x.number is bound
    gives_alike in_module x is bound = by_number x.name x.number is bound
