-- The words that were read before those that are still to be read.
use Rattle.std.proofs.Common.{◌≡◌, ℕ, suc, ◌-◌, ◌<◌, Bool, true, false, List, length, Ok, Err, sym, subst, arith}
use Rattle.std.specs.Prelude.{◌||◌}
use Rattle.std.specs.Str.{bytes_eq}
use Rattle.just_text.specs.Tokens.{word_of, lexeme}
use Rattle.just_text.specs.declared.token.Token.{Token}
use Rattle.just_text.specs.declared.token_kind.TokenKind.TheVariants.{Identifier}
use Rattle.parse_expressions.specs.declared.fault.Fault.{Fault}
use Rattle.parse_expressions.specs.declared.fault.Fault.TheVariants as faults
use Rattle.parse_expressions.specs.Reading.{Read, Fails, expect}
use Rattle.parse_items.specs.Keywords.{eager_keyword, export_keyword}
use Rattle.parse_items.specs.Reading.{is_named_value, words_at}

module _ (export eager : Bool) (n : ℕ) (ts : List Token) (total : Read Token (Bool × Bool)) (fuel : length ts < n) (so_far : words_at word_of export eager n ts ≡ total) where
  next : words_at word_of export eager (suc (n - 1)) ts ≡ total
  next = let k : n ≡ suc (n - 1) = omega arith in subst (λ (m : ℕ). words_at word_of export eager m ts ≡ total) k so_far

  pub at_name : is_named_value word_of ts ≡ true → total ≡ Ok ((export, eager), ts)
  unfolding words_at
  at_name named = rw named at (sym next)

  pub no_word : is_named_value word_of ts ≡ false → (e : Fault) → Fails e (expect word_of Identifier ts) → Fails e total
  unfolding words_at
  no_word unnamed faults.OutOfMemory h = tt
  no_word unnamed faults.NumbersUsed h = absurd h
  no_word unnamed (faults.Unexpected found) h = rw (unnamed, h) at (sym next)
  no_word unnamed (faults.Refused token kind) h = rw (unnamed, h) at (sym next)

  pub goes_on : is_named_value word_of ts ≡ false → (t : Token) (rest : List Token) → expect word_of Identifier ts ≡ Ok (t, rest)
      → words_at word_of (export || bytes_eq (lexeme t) export_keyword) (eager || bytes_eq (lexeme t) eager_keyword) (n - 1) rest ≡ total
  unfolding words_at
  goes_on unnamed t rest h = rw (unnamed, h) at next
