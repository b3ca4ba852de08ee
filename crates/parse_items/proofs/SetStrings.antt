-- A string that has to be an indentation or a version is read where it is spelled, and only there.
use Rattle.std.proofs.Common.{◌≡◌, ℕ, true, false, List, map, Result, Ok, Err, Option, Some, None, refl, inl, inr}
use Rattle.just_text.specs.Tokens.{Word}
use Rattle.just_text.specs.declared.compile_error.CompileErrorKind.{CompileErrorKind}
use Rattle.just_text.specs.declared.token_kind.TokenKind.TheVariants.{ColonEquals, StringToken}
use Rattle.tree_expressions.specs.Cooking.{cooked}
use Rattle.parse_expressions.specs.Words.{Mark}
use Rattle.parse_expressions.specs.Literals.{Expansion}
use Rattle.parse_expressions.proofs.Taken.{bind_ok, test, ok_is, expect_is, expect_mark, taken, marked}
use Rattle.parse_expressions.proofs.TokensTaken.{Reads}
use Rattle.tree_attributes.specs.Sets.Indentations.{is_indentation}
use Rattle.semver.specs.declared.Version.{Version}
use Rattle.semver.specs.declared.error.Error.{Error}
use Rattle.semver.specs.Parse.{Parts, version_parts}
use Rattle.parse_items.specs.Versions.{is_above}
use Rattle.parse_items.specs.Settings.{IsVersion, IsStringOf}
use Rattle.parse_items.specs.SettingReading.{indentation_fault, version_fault_of, version_fault, unless_fault, checked_if, checked_at}

-- ---- which texts are at fault

pub no_indentation_fault : (name text : List ℕ) → indentation_fault name text ≡ None → is_indentation text ≡ true
no_indentation_fault name text h =
    elim (test (is_indentation text)) [
      | inl w ↦ w
      | inr w ↦ let q = rw w at h in absurd cc
    ]

pub indentation_taken : (name text : List ℕ) → is_indentation text ≡ true → indentation_fault name text ≡ None
indentation_taken name text h = rw h refl

not_above : (current : Version) (name text : List ℕ) (r : Result Parts Error) → version_fault_of current name text r ≡ None → (parts : Parts) × (r ≡ Ok parts) × (is_above parts current ≡ false)
not_above current name text (Ok parts) h =
    elim (test (is_above parts current)) [
      | inl w ↦ let q = rw w at h in absurd cc
      | inr w ↦ (parts, refl, w)
    ]
not_above current name text (Err e) h = absurd cc

pub no_version_fault : (current : Version) (name text : List ℕ) → version_fault current name text ≡ None → IsVersion current text
no_version_fault current name text h = let p = not_above current name text (version_parts text) h in record { parts = p.0; reads = p.1; served = p.2 }

pub version_taken : (current : Version) (name text : List ℕ) → IsVersion current text → version_fault current name text ≡ None
version_taken current name text v = rw (v.reads, v.served) refl

module _ {T : Type 0} (word : T → Word) (expansion : Expansion) where
  -- up to rest there is `:=` and a string whose text is fit
  abbrev pub IsChecked : (List ℕ → Type 0) → List ℕ → List Word → List Word → Type 0
  IsChecked Fits s words rest = (a : List Word) × (text : List ℕ) × Mark ColonEquals words a × IsStringOf expansion s text a rest × Fits text

  -- the token's text is cooked and not at fault
  record Passes (fault : List ℕ → Option CompileErrorKind) (t : T) (read : Result (List ℕ) CompileErrorKind) : Type 0 where
    text : List ℕ
    cooks : read ≡ Ok text
    faultless : fault text ≡ None

  unless_found : (t : T) (fault : Option CompileErrorKind) (ts : List T) (p : List ℕ × List T) → unless_fault word t fault ts ≡ Ok p → (fault ≡ None) × (((word t).text, ts) ≡ p)
  unless_found t None ts p h = (refl, ok_is _ p h)
  unless_found t (Some kind) ts p h = absurd cc

  if_found : (fault : List ℕ → Option CompileErrorKind) (t : T) (read : Result (List ℕ) CompileErrorKind) (ts : List T) (p : List ℕ × List T)
      → checked_if word expansion fault t read ts ≡ Ok p → Passes fault t read × (((word t).text, ts) ≡ p)
  if_found fault t (Ok text) ts p h = let u = unless_found t (fault text) ts p h in (record { text = text; cooks = refl; faultless = u.0 }, u.1)
  if_found fault t (Err kind) ts p h = absurd cc

  module _ (fault : List ℕ → Option CompileErrorKind) (Fits : List ℕ → Type 0) where
    pub checked_found : ((text : List ℕ) → fault text ≡ None → Fits text) → (ts : List T) (p : List ℕ × List T) → checked_at word expansion fault ts ≡ Ok p → IsChecked Fits p.0 (map word ts) (map word p.1)
    unfolding checked_at
    checked_found fits ts p h =
        let c = bind_ok {A = T × List T} _ _ p h in
        let t = bind_ok {A = T × List T} _ _ p c.2 in
        let u = if_found fault t.0.0 (cooked expansion (word t.0.0).text) t.0.1 p t.2 in
        let k = u.0 in
        rw (← u.1) (map word c.0.1, k.text, expect_mark word ColonEquals ts c.0 c.1, (expect_is word StringToken c.0.1 t.0 t.1, k.cooks), fits k.text k.faultless)

    pub checked_again : ((text : List ℕ) → Fits text → fault text ≡ None) → (s : List ℕ) (ts : List T) (ws : List Word) → IsChecked Fits s (map word ts) ws → Reads word (checked_at word expansion fault ts) s ws
    unfolding checked_at
    checked_again faultless s ts ws (a, text, m, i, f) =
        let c = marked word ColonEquals ts a m in
        let t = taken word StringToken s c.rest ws (rw c.others i.0) in
        record { rest = t.rest; is = rw (c.expects, t.expects, t.says, i.1, faultless text f, t.says) refl; others = t.others }
