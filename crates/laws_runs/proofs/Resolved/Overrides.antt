-- The texts given last for variables.
use Rattle.std.proofs.Common.{◌≡◌, sym, ◌∙◌, ap, subst, Bool, true, false, cond, List, [], ◌∷◌, ◌++◌, ℕ, zero, suc, ◌≤◌, Option, Some, None, refl, arith, true≢false}
use Rattle.std.specs.Prelude.{slice_get}
use Rattle.std.specs.Option.{option_or}
use Rattle.std.specs.Cmp.Lexicographic.{bytes_decides, pointwise_decides}
use Rattle.std.proofs.lemmas.Option.{none-some, same_Some}
use Rattle.modules_compilation.specs.Modulepaths.{paths_eq, pieces}
use Rattle.modules_compilation.specs.declared.compilation.Compilation.{Compilation}
use Rattle.meaning_rules.specs.Worlds.Given.{Overrides, Text, World}
use Rattle.laws_modules.specs.Names.Names.{AreSingle, IsOfWorld}
use Rattle.meaning_evaluation.specs.Named.{VariableName, VariableRow}
use Rattle.just_meaning.specs.Defining.{IsOverrideOf}
use Rattle.laws_runs.specs.Resolved.Definitions.{given_last, if_kept, override_of, variable_named}
use Rattle.laws_runs.specs.Resolved.Assigned.{OverridesStand}
use Rattle.laws_runs.proofs.Resolved.Variables.{row_defined, variables_stand}

module _ (names : List Text) where
  -- the last of these whose pieces are the names gives the text
  record IsLast (o : Overrides) (text : Text) : Type 0 where
    at : ℕ
    written : Text
    found : slice_get o at ≡ Some (written, text)
    cut : pieces written ≡ names
    last : (at' : ℕ) (other : Text × Text) → slice_get o at' ≡ Some other → pieces other.0 ≡ names → at' ≤ at

  abbrev IsGiven : Overrides → Option Text → Type 0
  IsGiven o (Some text) = IsLast o text
  IsGiven o None = (at : ℕ) (given : Text × Text) → slice_get o at ≡ Some given → pieces given.0 ≡ names → ⊥

  only_first : (first : Text × Text) (o : Overrides) → pieces first.0 ≡ names → IsGiven o None → IsLast (first ∷ o) first.1
  only_first first o cut none = record { at = 0; written = first.0; found = refl; cut = cut; last = last }
    where
      last : (at' : ℕ) (other : Text × Text) → slice_get (first ∷ o) at' ≡ Some other → pieces other.0 ≡ names → at' ≤ 0
      last zero other e f = omega arith
      last (suc at') other e f = absurd (none at' other e f)

  not_first : (first : Text × Text) (o : Overrides) → (pieces first.0 ≡ names → ⊥) → IsGiven o None → IsGiven (first ∷ o) None
  not_first first o other none = none_at
    where
      none_at : (at : ℕ) (given : Text × Text) → slice_get (first ∷ o) at ≡ Some given → pieces given.0 ≡ names → ⊥
      none_at zero given e f = other (ap (λ (g : Text × Text). pieces g.0) (same_Some first given e) ∙ f)
      none_at (suc at) given e f = none at given e f

  first_is : (first : Text × Text) (o : Overrides) (b : Bool) → paths_eq (pieces first.0) names ≡ b → IsGiven o None → IsGiven (first ∷ o) (cond b (Some first.1) None)
  first_is first o true e none = only_first first o ((pointwise_decides bytes_decides (pieces first.0) names).0 e) none
  first_is first o false e none = not_first first o (λ f. true≢false (sym ((pointwise_decides bytes_decides (pieces first.0) names).1 f) ∙ e)) none

  last_given : (o : Overrides) → IsGiven o (given_last o names)
  last_given [] = λ at given e f. none-some given e
  last_given (first ∷ o) = by_others (given_last o names) (last_given o)
    where
      by_others : (others : Option Text) → IsGiven o others → IsGiven (first ∷ o) (option_or others (cond (paths_eq (pieces first.0) names) (Some first.1) None))
      by_others (Some text) l = record { at = suc l.at; written = l.written; found = l.found; cut = l.cut; last = last }
        where
          last : (at' : ℕ) (other : Text × Text) → slice_get (first ∷ o) at' ≡ Some other → pieces other.0 ≡ names → at' ≤ suc l.at
          last zero other e f = omega arith
          last (suc at') other e f = let le = l.last at' other e f in omega (arith, le)
      by_others None none = first_is first o (paths_eq (pieces first.0) names) refl none

  -- what is given last is what the last of these gives
  given_is_last : (o : Overrides) (found : Option Text) → IsGiven o found → (text : Text) → IsLast o text → found ≡ Some text
  given_is_last o None none text l = absurd (none l.at (l.written, text) l.found l.cut)
  given_is_last o (Some other) m text l =
      let less = l.last m.at (m.written, other) m.found m.cut in
      let more = m.last l.at (l.written, text) l.found l.cut in
      let places : m.at ≡ l.at = omega (arith, less, more) in
      let rows = same_Some (m.written, other) (l.written, text) (sym m.found ∙ ap (slice_get o) places ∙ l.found) in
      ap (λ (p : Text × Text). Some p.1) rows

module _ (w : World) (compilation : Compilation) (is : IsOfWorld w compilation) (single : AreSingle w compilation) (o : Overrides) (x : VariableName) where
  abbrev names_of : List Text
  names_of = x.path ++ x.name ∷ []

  to_override : (text : Text) → override_of compilation o x ≡ Some text → IsOverrideOf w o x text
  to_override text e = by_row (variable_named compilation x) refl e
    where
      by_last : (found : Option Text) → IsGiven names_of o found → found ≡ Some text → IsLast names_of o text
      by_last None none e = absurd (none-some text e)
      by_last (Some other) l e = subst (IsLast names_of o) (same_Some other text e) l

      by_row : (found : Option VariableRow) → variable_named compilation x ≡ found → if_kept found (given_last o names_of) ≡ Some text → IsOverrideOf w o x text
      by_row None n e = absurd (none-some text e)
      by_row (Some row) n e =
          let v = (variables_stand w compilation is single o x row).0 n in
          let l = by_last (given_last o names_of) (last_given names_of o) e in
          record {
            own = v.own;
            overridden = record {
              at = l.at;
              written = l.written;
              found = l.found;
              names = record { cut = l.cut; is = v.is; there = record { key = v.key; place = v.place; item = _; defines = v.kept.defines } };
              last = λ at' other found h. l.last at' other found h.cut;
            };
          }

  from_override : (text : Text) → IsOverrideOf w o x text → override_of compilation o x ≡ Some text
  from_override text h =
      let by = h.overridden in
      let r = row_defined w compilation is single o x h.own by.names.is by.names.there in
      ap (λ found. if_kept found (given_last o names_of)) r.1
      ∙ given_is_last names_of o (given_last o names_of) (last_given names_of o) text (record {
        at = by.at;
        written = by.written;
        found = by.found;
        cut = by.names.cut;
        last = λ at' other found f. by.last at' other found (record { cut = f; is = by.names.is; there = by.names.there });
      })

-- the text given last for a variable is that of the last override that names it
pub overrides_stand : OverridesStand
overrides_stand w compilation is single o x text = (to_override w compilation is single o x text, from_override w compilation is single o x text)
