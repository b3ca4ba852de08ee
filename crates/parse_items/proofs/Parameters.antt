-- The parameters of a function that were read before those that are still to be read.
use Rattle.std.proofs.Common.{◌≡◌, ℕ, suc, ◌-◌, ◌<◌, List, [], ◌∷◌, ◌++◌, length, map, Result, Ok, Err, Option, Some, None, refl, sym, ap, subst, ◌∙◌, arith, append_assoc, inl, inr, if◌then◌else◌}
use Rattle.std.proofs.lemmas.List.{map-append, append-nil}
use Rattle.std.specs.Prelude.{option_map, IsSome}
use Rattle.just_text.specs.Tokens.{word_of, lexeme}
use Rattle.just_text.specs.declared.name.Name.{Name}
use Rattle.just_text.specs.declared.compile_error.CompileErrorKind.TheVariants.{DuplicateParameter}
use Rattle.just_text.specs.declared.token.Token.{Token}
use Rattle.just_text.specs.declared.token_kind.TokenKind.{TokenKind}
use Rattle.just_text.specs.declared.token_kind.TokenKind.TheVariants.{Comma, Identifier, ParenR}
use Rattle.tree_items.specs.Items.{name_of, names_of}
use Rattle.parse_expressions.specs.declared.fault.Fault.{Fault}
use Rattle.parse_expressions.specs.declared.fault.Fault.TheVariants as faults
use Rattle.parse_expressions.specs.Reading.{◌>>=◌, on, refused, Read, Stop, Fails, accept, expect}
use Rattle.parse_expressions.proofs.Shorter.{expect_shorter}
use Rattle.parse_recipes.specs.Numbering.{FailsUnless}
use Rattle.parse_recipes.specs.Reading.{is_named}
use Rattle.parse_recipes.specs.Seen.{with_name}
use Rattle.parse_items.specs.Reading.{names_at, new_name_at}
use Rattle.parse_expressions.proofs.Taken.{test, done}

-- the parameters that were read, and then others
abbrev pub behind : List (Name × ℕ) → Read Token (List (List ℕ)) → Read Token (List (List ℕ))
behind ps read = read >>= λ x. Ok (names_of ps ++ x.0, x.1)

regroup : (ps : List (Name × ℕ)) (p : Name × ℕ) (read : Read Token (List (List ℕ))) → behind ps (read >>= λ xs. Ok (name_of p ∷ xs.0, xs.1)) ≡ behind (ps ++ p ∷ []) read
regroup ps p (Ok y) = ap (λ (xs : List (List ℕ)). Ok (xs, y.1)) (simp (map-append, append_assoc))
regroup ps p (Err f) = refl

pub nothing_behind : (read : Read Token (List (List ℕ))) → behind [] read ≡ read
nothing_behind (Ok y) = refl
nothing_behind (Err f) = refl

-- a name that can't be remembered is not a new one
pub not_new : (used : Type 0) (before : List (List ℕ)) (ts : List Token) (t : Token) (rest : List Token) → expect word_of Identifier ts ≡ Ok (t, rest) → (e : Fault) → Fails e (with_name before t) → FailsUnless used e (new_name_at before ts)
not_new used before ts t rest found faults.OutOfMemory h = tt
not_new used before ts t rest found faults.NumbersUsed h = absurd h
not_new used before ts t rest found (faults.Unexpected token) h = rw (found, h) refl
not_new used before ts t rest found (faults.Refused token kind) h = rw (found, h) refl

-- what an option that is not none took
pub taken : (kind : TokenKind) (ts : List Token) (o : Option Token) (rest : List Token) → accept word_of kind ts ≡ option_map (λ t. (t, rest)) o → IsSome o → (t : Token) × (accept word_of kind ts ≡ Some (t, rest))
taken kind ts None rest h some = absurd cc
taken kind ts (Some t) rest h some = (t, h)

some_ok : {A E : Type 0} (x y : A) → done {A = A} {E = E} x ≡ Ok y → x ≡ y
some_ok x y e = cc

pub new_name_shorter : (before : List (List ℕ)) (ts : List Token) (t : Token) (rest : List Token) → new_name_at before ts ≡ Ok (t, rest) → length rest < length ts
new_name_shorter before ts t rest h = by (expect word_of Identifier ts) refl h
  where
    by : (read : Read Token Token) → expect word_of Identifier ts ≡ read → (read >>= λ t. with_name before t.0 >>= λ names. Ok t) ≡ Ok (t, rest) → length rest < length ts
    by (Err e) is h = absurd cc
    by (Ok p) is h =
        elim (test (is_named before (lexeme p.0))) [
          | inl e ↦ let q = rw e at h in absurd cc
          | inr e ↦
              let q = ap (λ (z : Token × List Token). z.1) (some_ok {A = Token × List Token} {E = Stop Token} p (t, rest) (rw e at h)) in
              let less = expect_shorter word_of Identifier ts p is in rw (← q) less
        ]

-- what stands after a parameter
abbrev behind_name : List (List ℕ) → ℕ → Token × List Token → Read Token (List (List ℕ))
behind_name before m t =
    on (accept word_of Comma t.1)
    (expect word_of ParenR t.1 >>= λ p. Ok (lexeme t.0 ∷ [], p.1))
    (λ c. names_at word_of m (lexeme t.0 ∷ before) c.1 >>= λ ns. Ok (lexeme t.0 ∷ ns.0, ns.1))

-- where parameters don't end, a new name comes first
name_first : (before : List (List ℕ)) (m : ℕ) (ts : List Token) → accept word_of ParenR ts ≡ None → names_at word_of (suc m) before ts ≡ (new_name_at before ts >>= behind_name before m)
unfolding names_at
name_first before m ts open_still = rw open_still (by (expect word_of Identifier ts))
  where
    by : (read : Read Token Token)
        → (read >>= λ t. if is_named before (lexeme t.0) then Err (refused t.0 (DuplicateParameter (lexeme t.0))) else behind_name before m t)
        ≡ ((read >>= λ t. with_name before t.0 >>= λ names. Ok t) >>= behind_name before m)
    by (Err e) = refl
    by (Ok t) = elim (test (is_named before (lexeme t.0))) [ inl e ↦ rw e refl | inr e ↦ rw e refl ]

module _ (before : List (List ℕ)) (ps : List (Name × ℕ)) (n : ℕ) (ts : List Token) (total : Read Token (List (List ℕ))) (fuel : length ts < n) (so_far : behind ps (names_at word_of n before ts) ≡ total) where
  next : behind ps (names_at word_of (suc (n - 1)) before ts) ≡ total
  next = let k : n ≡ suc (n - 1) = omega arith in subst (λ (m : ℕ). behind ps (names_at word_of m before ts) ≡ total) k so_far

  pub at_end : (t : Token) (rest : List Token) → accept word_of ParenR ts ≡ Some (t, rest) → total ≡ Ok (names_of ps, rest)
  unfolding names_at
  at_end t rest h = (rw h at (sym next)) ∙ ap (λ (xs : List (List ℕ)). Ok (xs, rest)) (append-nil (names_of ps))

  module _ (open_still : accept word_of ParenR ts ≡ None) where
    named : behind ps (new_name_at before ts >>= behind_name before (n - 1)) ≡ total
    named = ap (behind ps) (sym (name_first before (n - 1) ts open_still)) ∙ next

    pub no_name : (used : Type 0) (e : Fault) → FailsUnless used e (new_name_at before ts) → FailsUnless used e total
    no_name used faults.OutOfMemory h = tt
    no_name used faults.NumbersUsed h = h
    no_name used (faults.Unexpected found) h = rw h at (sym named)
    no_name used (faults.Refused token kind) h = rw h at (sym named)

    module _ (p : Name × ℕ) (a : List Token) (new : new_name_at before ts ≡ Ok (p.0.token, a)) where
      pub no_close : accept word_of Comma a ≡ None → (used : Type 0) (e : Fault) → Fails e (expect word_of ParenR a) → FailsUnless used e total
      no_close no_comma used faults.OutOfMemory h = tt
      no_close no_comma used faults.NumbersUsed h = absurd h
      no_close no_comma used (faults.Unexpected found) h = rw (new, no_comma, h) at (sym named)
      no_close no_comma used (faults.Refused token kind) h = rw (new, no_comma, h) at (sym named)

      pub is_last : accept word_of Comma a ≡ None → (t : Token) (rest : List Token) → expect word_of ParenR a ≡ Ok (t, rest) → total ≡ Ok (names_of (ps ++ p ∷ []), rest)
      is_last no_comma t rest closes = (rw (new, no_comma, closes) at (sym named)) ∙ ap (λ (xs : List (List ℕ)). Ok (xs, rest)) (sym (map-append name_of ps (p ∷ [])))

      pub goes_on : (t : Token) (b : List Token) → accept word_of Comma a ≡ Some (t, b) → behind (ps ++ p ∷ []) (names_at word_of (n - 1) (lexeme p.0.token ∷ before) b) ≡ total
      goes_on t b comma = sym (regroup ps p (names_at word_of (n - 1) (lexeme p.0.token ∷ before) b)) ∙ (rw (new, comma) at named)
