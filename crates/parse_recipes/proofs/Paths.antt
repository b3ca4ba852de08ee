-- The names of a path that were read before those that are still to be read.
use Rattle.std.proofs.Common.{◌≡◌, ℕ, suc, ◌-◌, ◌<◌, List, [], ◌∷◌, ◌++◌, length, map, Ok, Err, Some, None, refl, sym, ap, subst, ◌∙◌, arith, inl, inr}
use Rattle.std.proofs.lemmas.List.{append-nil}
use Rattle.just_text.specs.Tokens.{word_of, lexeme}
use Rattle.just_text.specs.declared.name.Name.{Name}
use Rattle.just_text.specs.declared.token.Token.{Token}
use Rattle.just_text.specs.declared.token_kind.TokenKind.TheVariants.{ColonColon, Identifier}
use Rattle.parse_expressions.specs.declared.fault.Fault.{Fault}
use Rattle.parse_expressions.specs.declared.fault.Fault.TheVariants as faults
use Rattle.parse_expressions.specs.Reading.{◌>>=◌, on, Read, Fails, accept, expect}
use Rattle.tree_items.specs.Paths.{path_names}
use Rattle.parse_recipes.specs.Reading.{names_at, path_at}
use Rattle.parse_recipes.proofs.Turns.{before, regroup}
use Rattle.parse_expressions.proofs.Taken.{inspect}

abbrev pub name_text : Name → List ℕ
name_text name = lexeme name.token

-- the names after a name
abbrev pub others_at : ℕ → List Token → Read Token (List (List ℕ))
others_at n ts = on (accept word_of ColonColon ts) (Ok ([], ts)) (λ c. names_at word_of n c.1)

-- a name before others
abbrev with_first : List ℕ → Read Token (List (List ℕ)) → Read Token (List (List ℕ))
with_first name read = read >>= λ ns. Ok (name ∷ ns.0, ns.1)

abbrev from_first : ℕ → Token × List Token → Read Token (List (List ℕ))
from_first n t = with_first (lexeme t.0) (others_at n t.1)

names_step : (n : ℕ) (ts : List Token) → names_at word_of (suc n) ts ≡ (expect word_of Identifier ts >>= from_first n)
unfolding names_at
names_step n ts = by (expect word_of Identifier ts)
  where
    by : (r : Read Token Token) → (r >>= λ t. on (accept word_of ColonColon t.1) (Ok (lexeme t.0 ∷ [], t.1)) (λ c. with_first (lexeme t.0) (names_at word_of n c.1))) ≡ (r >>= from_first n)
    by (Err e) = refl
    by (Ok t) =
        elim (inspect (accept word_of ColonColon t.1)) [
          | inl w ↦ rw w refl
          | inr w ↦ rw w.1 refl
        ]

-- the first name
pub first_name : (n : ℕ) (ts : List Token) (t : Token) (rest : List Token) (name : Name) → name.token ≡ t → expect word_of Identifier ts ≡ Ok (t, rest) → before name_text (name ∷ []) (others_at n rest) ≡ names_at word_of (suc n) ts
first_name n ts t rest name is h = rw (names_step n ts, h, is) refl

pub no_first : (ts : List Token) (e : Fault) → Fails e (expect word_of Identifier ts) → Fails e (path_at word_of ts)
unfolding path_at
no_first ts faults.OutOfMemory h = h
no_first ts faults.NumbersUsed h = h
no_first ts (faults.Unexpected found) h = rw (names_step (length ts) ts, h) refl
no_first ts (faults.Refused token kind) h = rw (names_step (length ts) ts, h) refl

module _ (fs : List Name) (n : ℕ) (ts : List Token) (total : Read Token (List (List ℕ))) (fuel : length ts < n) (so_far : before name_text fs (others_at n ts) ≡ total) (c : Token) (a : List Token)
    (colons : accept word_of ColonColon ts ≡ Some (c, a)) where
  next : before name_text fs (names_at word_of (suc (n - 1)) a) ≡ total
  next = let k : n ≡ suc (n - 1) = omega arith in subst (λ (m : ℕ). before name_text fs (names_at word_of m a) ≡ total) k (rw colons at so_far)

  pub one_more : (t : Token) (rest : List Token) (name : Name) → name.token ≡ t → expect word_of Identifier a ≡ Ok (t, rest) → before name_text (fs ++ name ∷ []) (others_at (n - 1) rest) ≡ total
  one_more t rest name is h = sym (regroup name_text fs name (others_at (n - 1) rest)) ∙ ap (before name_text fs) (first_name (n - 1) a t rest name is h) ∙ next

  none_total : (e : Fault) → Fails e (expect word_of Identifier a) → Fails e total
  none_total faults.OutOfMemory h = h
  none_total faults.NumbersUsed h = h
  none_total (faults.Unexpected found) h = rw (names_step (n - 1) a, h) at (sym next)
  none_total (faults.Refused token kind) h = rw (names_step (n - 1) a, h) at (sym next)

-- a path whose names were read
pub read : (fs : List Name) (ts rest : List Token) → names_at word_of (suc (length ts)) ts ≡ Ok (map name_text fs, rest) → path_at word_of ts ≡ Ok (path_names fs, rest)
unfolding path_at
read fs ts rest h = h

pub not_read : (ts : List Token) (e : Fault) → Fails e (names_at word_of (suc (length ts)) ts) → Fails e (path_at word_of ts)
unfolding path_at
not_read ts e h = h

pub no_name : (fs : List Name) (n : ℕ) (ts all : List Token) → length ts < n → before name_text fs (others_at n ts) ≡ names_at word_of (suc (length all)) all → (c : Token) (a : List Token) → accept word_of ColonColon ts ≡ Some (c, a)
    → (e : Fault) → Fails e (expect word_of Identifier a) → Fails e (path_at word_of all)
no_name fs n ts all fuel so_far c a colons e h = not_read all e (none_total fs n ts (names_at word_of (suc (length all)) all) fuel so_far c a colons e h)

pub at_end : (fs : List Name) (n : ℕ) (ts all : List Token) → before name_text fs (others_at n ts) ≡ names_at word_of (suc (length all)) all → accept word_of ColonColon ts ≡ None → path_at word_of all ≡ Ok (path_names fs, ts)
at_end fs n ts all so_far none = read fs all ts (sym (rw none at so_far) ∙ ap (λ names. Ok (names, ts)) (append-nil (map name_text fs)))
