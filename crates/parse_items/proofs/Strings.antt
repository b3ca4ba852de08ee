-- A string that can't be cooked or whose text is at fault is refused for that reason, and others are taken.
use Rattle.std.proofs.Common.{◌≡◌, ◌≢◌, ℕ, List, Result, Ok, Err, Option, Some, None, refl}
use Rattle.just_text.specs.Tokens.{word_of, lexeme}
use Rattle.just_text.specs.declared.compile_error.CompileErrorKind.{CompileErrorKind}
use Rattle.just_text.specs.declared.compile_error.CompileErrorKind.TheVariants as kinds
use Rattle.just_text.specs.declared.token.Token.{Token}
use Rattle.just_text.specs.declared.token_kind.TokenKind.TheVariants.{ColonEquals, StringToken}
use Rattle.tree_expressions.specs.Answering.{Answers}
use Rattle.tree_expressions.specs.Cooking.{cooked}
use Rattle.parse_expressions.specs.declared.fault.Fault.{Fault}
use Rattle.parse_expressions.specs.declared.fault.Fault.TheVariants as faults
use Rattle.parse_expressions.specs.Literals.{Expansion}
use Rattle.parse_expressions.specs.Reading.{◌>>=◌, Read, Fails, refused, expect}
use Rattle.parse_items.specs.SettingReading.{checked_at, checked_if, cooked_if, set_string_at, unless_fault}

module _ (expansion : Expansion) (ts : List Token) where
  module _ (colon token : Token) (a rest : List Token) (behind : expect word_of ColonEquals ts ≡ Ok (colon, a)) (found : expect word_of StringToken a ≡ Ok (token, rest)) where
    pub told : (kind : CompileErrorKind) (fault : Fault) → (kind ≡ kinds.OutOfMemory → fault ≡ faults.OutOfMemory) → (kind ≢ kinds.OutOfMemory → fault ≡ faults.Refused token kind)
        → Answers (cooked expansion (lexeme token)) (Err kind) → Fails fault (set_string_at word_of expansion ts)
    unfolding set_string_at
    told kinds.OutOfMemory fault memory why h = rw (memory refl) tt
    told kind fault memory why h = rw (why (λ e. absurd cc), behind, found, h) refl

  module _ (fault : List ℕ → Option CompileErrorKind) where
    -- a string is read, and then its text is judged
    judged : checked_at word_of expansion fault ts ≡ (set_string_at word_of expansion ts >>= λ s. unless_fault word_of s.0.0 (fault s.0.1) s.1)
    unfolding checked_at set_string_at
    judged = by (expect word_of ColonEquals ts)
      where
        each : (t : Token) (text : Result (List ℕ) CompileErrorKind) (rest : List Token)
            → checked_if word_of expansion fault t text rest ≡ (cooked_if word_of expansion t text rest >>= λ s. unless_fault word_of s.0.0 (fault s.0.1) s.1)
        each t (Ok text) rest = refl
        each t (Err kind) rest = refl

        inner : (read : Read Token Token)
            → (read >>= λ t. checked_if word_of expansion fault t.0 (cooked expansion (lexeme t.0)) t.1)
            ≡ ((read >>= λ t. cooked_if word_of expansion t.0 (cooked expansion (lexeme t.0)) t.1) >>= λ s. unless_fault word_of s.0.0 (fault s.0.1) s.1)
        inner (Err e) = refl
        inner (Ok t) = each t.0 (cooked expansion (lexeme t.0)) t.1

        by : (read : Read Token Token)
            → (read >>= λ c. expect word_of StringToken c.1 >>= λ t. checked_if word_of expansion fault t.0 (cooked expansion (lexeme t.0)) t.1)
            ≡ ((read >>= λ c. expect word_of StringToken c.1 >>= λ t. cooked_if word_of expansion t.0 (cooked expansion (lexeme t.0)) t.1) >>= λ s. unless_fault word_of s.0.0 (fault s.0.1) s.1)
        by (Err e) = refl
        by (Ok c) = inner (expect word_of StringToken c.1)

    pub no_string : (e : Fault) → Fails e (set_string_at word_of expansion ts) → Fails e (checked_at word_of expansion fault ts)
    no_string faults.OutOfMemory h = tt
    no_string faults.NumbersUsed h = absurd h
    no_string (faults.Unexpected token) h = rw (judged, h) refl
    no_string (faults.Refused token kind) h = rw (judged, h) refl

    pub passes : (t : Token) (text : List ℕ) (rest : List Token) → set_string_at word_of expansion ts ≡ Ok ((t, text), rest) → None ≡ fault text → checked_at word_of expansion fault ts ≡ Ok (lexeme t, rest)
    passes t text rest read none = rw (judged, read, ← none) refl

    pub at_fault : (t : Token) (text : List ℕ) (rest : List Token) (kind : CompileErrorKind) → set_string_at word_of expansion ts ≡ Ok ((t, text), rest) → Some kind ≡ fault text
        → checked_at word_of expansion fault ts ≡ Err (refused t kind)
    at_fault t text rest kind read some = rw (judged, read, ← some) refl
