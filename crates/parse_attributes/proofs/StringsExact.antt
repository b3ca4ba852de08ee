-- A string that stands alone is read where it is spelled, and only there, and so is an expression.
use Rattle.std.proofs.Common.{◌≡◌, ℕ, List, map, Result, Ok, Err, refl, sym}
use Rattle.just_text.specs.Tokens.{Word}
use Rattle.just_text.specs.declared.compile_error.CompileErrorKind.{CompileErrorKind}
use Rattle.just_text.specs.declared.token_kind.TokenKind.TheVariants.{Equals, StringToken}
use Rattle.tree_expressions.specs.Cooking.{cooked}
use Rattle.parse_expressions.specs.Words.{Begins, Mark}
use Rattle.parse_expressions.specs.Literals.{Expansion}
use Rattle.parse_expressions.specs.Laws.{Exactly}
use Rattle.parse_expressions.specs.Reading.{expect, taken_if}
use Rattle.parse_expressions.specs.Strings.{IsExpression, IsString, string_at}
use Rattle.parse_expressions.proofs.Taken.{bind_ok, turned, ok_is, expect_is, expect_mark, taken, marked}
use Rattle.parse_attributes.specs.Reading.{whole_at, assigned_at, value_at}
use Rattle.parse_attributes.proofs.RowsExact.{Found, Again}

-- `=` and what is spelled after it
abbrev pub IsSet : {A : Type 0} → (A → List Word → List Word → Type 0) → A → List Word → List Word → Type 0
IsSet Is x words rest = (a : List Word) × Mark Equals words a × Is x a rest

module _ {T : Type 0} (word : T → Word) (expansion : Expansion) where
  -- ---- strings

  text_found : (t : T) (r : Result (List ℕ) CompileErrorKind) (s : List ℕ) → taken_if word t r ≡ Ok s → (s ≡ (word t).text) × ((text : List ℕ) × (r ≡ Ok text))
  text_found t (Ok text) s h = (sym (ok_is (word t).text s h), (text, refl))
  text_found t (Err kind) s h = absurd cc

  pub string_found : Found word (IsString expansion) (string_at word expansion)
  unfolding string_at
  string_found ts p h =
      let t = bind_ok (expect word StringToken ts) _ p h in
      let s = bind_ok _ _ p t.2 in
      let c = text_found t.0.0 (cooked expansion (word t.0.0).text) s.0 s.1 in
      let first : Begins StringToken s.0 (map word ts) (map word t.0.1) = rw c.0 (expect_is word StringToken ts t.0 t.1) in
      turned (λ (z : List ℕ × List T). IsString expansion z.0 (map word ts) (map word z.1)) (s.0, t.0.1) p s.2 (first, rw c.0 c.1)

  text_again : (t : T) (read : Result (List ℕ) CompileErrorKind) (s : List ℕ) → ((text : List ℕ) × (read ≡ Ok text)) → (word t).text ≡ s → taken_if word t read ≡ Ok s
  text_again t read s c says = rw (c.1, says) refl

  pub string_again : Again word (IsString expansion) (string_at word expansion)
  unfolding string_at
  string_again s ts ws i =
      let t = taken word StringToken s ts ws i.0 in
      let cooks : (text : List ℕ) × (cooked expansion (word t.token).text ≡ Ok text) = rw t.says i.1 in
      let text = text_again t.token (cooked expansion (word t.token).text) s cooks t.says in
      record { rest = t.rest; is = rw (t.expects, text) refl; others = t.others }

  -- ---- after `=`

  pub assigned_found : Found word (IsSet (IsString expansion)) (assigned_at word expansion)
  unfolding assigned_at
  assigned_found ts p h = let q = bind_ok _ _ p h in (map word q.0.1, expect_mark word Equals ts q.0 q.1, string_found q.0.1 p q.2)

  pub assigned_again : Again word (IsSet (IsString expansion)) (assigned_at word expansion)
  unfolding assigned_at
  assigned_again s ts ws (a, m, i) =
      let q = marked word Equals ts a m in
      let r = string_again s q.rest ws (rw q.others i) in
      record { rest = r.rest; is = rw q.expects r.is; others = r.others }

  -- ---- expressions

  module _ (expressions : Exactly word expansion 256 6) where
    pub whole_found : Found word (IsExpression expansion) (whole_at word expansion)
    whole_found ts p h = expressions.found ts p.1 p.0 h

    pub whole_again : Again word (IsExpression expansion) (whole_at word expansion)
    whole_again e ts ws i = let r = expressions.only ts ws e i in record { rest = r.0; is = r.1; others = r.2 }

    pub value_found : Found word (IsSet (IsExpression expansion)) (value_at word expansion)
    unfolding value_at
    value_found ts p h = let q = bind_ok _ _ p h in (map word q.0.1, expect_mark word Equals ts q.0 q.1, whole_found q.0.1 p q.2)

    pub value_again : Again word (IsSet (IsExpression expansion)) (value_at word expansion)
    unfolding value_at
    value_again e ts ws (a, m, i) =
        let q = marked word Equals ts a m in
        let r = whole_again e q.rest ws (rw q.others i) in
        record { rest = r.rest; is = rw q.expects r.is; others = r.others }
