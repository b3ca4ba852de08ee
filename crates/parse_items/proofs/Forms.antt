-- Of two forms there is one setting each.
use Rattle.std.proofs.Common.{◌≡◌, ℕ, List, [], ◌∷◌, Bool, true, false, Some, codes, refl, sym, ap, ◌∙◌, inl, inr}
use Rattle.std.specs.Prelude.{if◌then◌else◌}
use Rattle.std.specs.List.{list_any}
use Rattle.std.specs.Str.{bytes_eq}
use Rattle.std.proofs.lemmas.Slice.Eq.{bytes_eq-Decides}
use Rattle.parse_items.specs.declared.form.Form.{Form}
use Rattle.parse_items.specs.declared.form.Form.TheVariants.{Indentation, Interpreter, Truth, Value, Version}
use Rattle.parse_items.specs.Names.{form_named, forms, looked_up}
use Rattle.parse_expressions.proofs.Taken.{test}

-- the names of the rows of wanted forms
abbrev names_of : (Form → Bool) → List (List ℕ × Form) → List (List ℕ)
names_of wanted [] = []
names_of wanted ((n, form) ∷ rows) = if wanted form then n ∷ names_of wanted rows else names_of wanted rows

some_is : (f g : Form) → Some f ≡ Some g → f ≡ g
some_is f g e = cc

among : (wanted : Form → Bool) (name : List ℕ) (rows : List (List ℕ × Form)) (form : Form) → looked_up name rows ≡ Some form → wanted form ≡ true → list_any (bytes_eq name) (names_of wanted rows) ≡ true
among wanted name [] form found is = absurd cc
among wanted name ((n, f) ∷ rows) form found is =
    elim (test (bytes_eq name n)) [
      | inl e ↦ let same : wanted f ≡ true = ap wanted (some_is f form (rw e at found)) ∙ is in rw (same, e) refl
      | inr e ↦
          let others = among wanted name rows form (rw e at found) is in
          elim (test (wanted f)) [
            | inl w ↦ rw (w, e) others
            | inr w ↦ rw w others
          ]
    ]

one_is : (name n : List ℕ) → list_any (bytes_eq name) (n ∷ []) ≡ true → n ≡ name
one_is name n h =
    elim (test (bytes_eq name n)) [
      | inl e ↦ sym ((bytes_eq-Decides name n).0 e)
      | inr e ↦ let no : false ≡ true = rw e at h in absurd cc
    ]

is_indentation_form : Form → Bool
is_indentation_form Indentation = true
is_indentation_form Interpreter = false
is_indentation_form Truth = false
is_indentation_form Value = false
is_indentation_form Version = false

is_version_form : Form → Bool
is_version_form Indentation = false
is_version_form Interpreter = false
is_version_form Truth = false
is_version_form Value = false
is_version_form Version = true

pub indentation_is : (name : List ℕ) → form_named name ≡ Some Indentation → codes "indentation" ≡ name
unfolding is_indentation_form
indentation_is name h = one_is name (codes "indentation") (among is_indentation_form name forms Indentation h refl)

pub version_is : (name : List ℕ) → form_named name ≡ Some Version → codes "minimum-version" ≡ name
unfolding is_version_form
version_is name h = one_is name (codes "minimum-version") (among is_version_form name forms Version h refl)
