-- Which operator is taken.
use Rattle.std.proofs.Common.{◌≡◌, ℕ, suc, ◌≤◌, true, List, [], ◌∷◌, map, Option, Some, None, refl, sym, ap, ◌∙◌, arith, inl, inr, eqb-true}
use Rattle.std.specs.Prelude.{◌==◌}
use Rattle.just_text.specs.Tokens.{Word}
use Rattle.just_text.specs.declared.token_kind.TokenKind.{TokenKind}
use Rattle.just_text.specs.declared.token_kind.TokenKind.TheVariants.{AmpersandAmpersand, BangEquals, BangTilde, BarBar, EqualsEquals, EqualsTilde, Plus, PlusPlus, Slash}
use Rattle.tree_expressions.specs.declared.operator.ConditionalOperator.TheVariants.{Equality, Inequality, RegexMatch, RegexMismatch}
use Rattle.tree_expressions.specs.Operators.{Binary, disjunction, conjunction, comparison, appending, concatenation, joining}
use Rattle.parse_expressions.specs.Words.{Mark, Lacks}
use Rattle.parse_expressions.specs.Operators.{sign, operator_of, rank, left_rank}
use Rattle.parse_expressions.specs.Reading.{operator_if, operator_at}
use Rattle.parse_expressions.proofs.Taken.{test, some_is, none_unless, Front, taken}

sign_of : (k : TokenKind) (operator : Binary) → operator_of k ≡ Some operator → sign operator ≡ k
sign_of BarBar operator e = ap sign (sym (some_is _ operator e))
sign_of AmpersandAmpersand operator e = ap sign (sym (some_is _ operator e))
sign_of EqualsEquals operator e = ap sign (sym (some_is _ operator e))
sign_of BangEquals operator e = ap sign (sym (some_is _ operator e))
sign_of EqualsTilde operator e = ap sign (sym (some_is _ operator e))
sign_of BangTilde operator e = ap sign (sym (some_is _ operator e))
sign_of PlusPlus operator e = ap sign (sym (some_is _ operator e))
sign_of Plus operator e = ap sign (sym (some_is _ operator e))
sign_of Slash operator e = ap sign (sym (some_is _ operator e))
sign_of other operator e = absurd cc

operator_of-sign : (operator : Binary) → operator_of (sign operator) ≡ Some operator
operator_of-sign disjunction = refl
operator_of-sign conjunction = refl
operator_of-sign (comparison Equality) = refl
operator_of-sign (comparison Inequality) = refl
operator_of-sign (comparison RegexMatch) = refl
operator_of-sign (comparison RegexMismatch) = refl
operator_of-sign appending = refl
operator_of-sign concatenation = refl
operator_of-sign joining = refl

pub left_is : (operator : Binary) → suc (left_rank operator) ≡ rank operator
left_is disjunction = refl
left_is conjunction = refl
left_is (comparison operator) = refl
left_is appending = refl
left_is concatenation = refl
left_is joining = refl

pub rank_bounds : (operator : Binary) → (2 ≤ rank operator) × (rank operator ≤ 6)
rank_bounds disjunction = (omega arith, omega arith)
rank_bounds conjunction = (omega arith, omega arith)
rank_bounds (comparison operator) = (omega arith, omega arith)
rank_bounds appending = (omega arith, omega arith)
rank_bounds concatenation = (omega arith, omega arith)
rank_bounds joining = (omega arith, omega arith)

module _ {T : Type 0} (word : T → Word) where
  abbrev Found : Type 0
  Found = (T × Binary) × List T

  if_is : (k : ℕ) (t : T) (o : Option Binary) (ts : List T) (y : Found) → operator_if word k t o ts ≡ Some y → (o ≡ Some y.0.1) × (ts ≡ y.1) × (rank y.0.1 ≡ k)
  if_is k t None ts y e = absurd cc
  if_is k t (Some operator) ts y e =
      elim (test (rank operator == k)) [
        | inl w ↦
            let p : ((t, operator), ts) ≡ y = some_is ((t, operator), ts) y (rw w at e) in
            let same : operator ≡ y.0.1 = ap (λ (q : Found). q.0.1) p in
            (ap Some same, ap (λ (q : Found). q.1) p, ap rank (sym same) ∙ eqb-true (rank operator) k w)
        | inr w ↦ let p = rw w at e in absurd cc
      ]

  pub operator_is : (k : ℕ) (ts : List T) (y : Found) → operator_at word k ts ≡ Some y → Mark (sign y.0.1) (map word ts) (map word y.1) × (rank y.0.1 ≡ k)
  unfolding operator_at
  operator_is k [] y e = absurd cc
  operator_is k (t ∷ ts) y e =
      let w = if_is k t (operator_of (word t).kind) ts y e in
      let s = sign_of (word t).kind y.0.1 w.0 in
      (((word t).text, rw (← w.1) (ap (λ (kind : TokenKind). record { kind = kind; text = (word t).text } ∷ map word ts) (sym s))), w.2)

  -- the operator's token, and what lies after it
  pub record Operates (operator : Binary) (ts : List T) (ws : List Word) : Type 0 where
    pub token : T
    pub rest : List T
    pub is : operator_at word (rank operator) ts ≡ Some ((token, operator), rest)
    pub others : map word rest ≡ ws

  operator_front : (operator : Binary) (ts : List T) (t : T) (rest : List T) → Front word (sign operator) ts t rest → operator_at word (rank operator) ts ≡ Some ((t, operator), rest)
  unfolding operator_at
  operator_front operator ts t rest f =
      let same : (rank operator == rank operator) ≡ true = grind arith in
      rw (f.is, f.of_kind, operator_of-sign operator, same) refl

  pub operator_again : (operator : Binary) (ts : List T) (ws : List Word) → Mark (sign operator) (map word ts) ws → Operates operator ts ws
  operator_again operator ts ws m =
      let t = taken word (sign operator) m.0 ts ws m.1 in
      record { token = t.token; rest = t.rest; is = operator_front operator ts t.token t.rest t.front; others = t.others }

  pub operator_none : (k : ℕ) (ts : List T) → operator_at word k ts ≡ None → (operator : Binary) → rank operator ≡ k → Lacks (sign operator) (map word ts)
  operator_none k ts e operator same rest m =
      let p = (operator_again operator ts rest m).is in
      let q = ap (λ (j : ℕ). operator_at word j ts) same in absurd cc

  pub lacks_operator : (k : ℕ) (ts : List T) → ((operator : Binary) → rank operator ≡ k → Lacks (sign operator) (map word ts)) → operator_at word k ts ≡ None
  lacks_operator k ts h = none_unless (operator_at word k ts) (λ y e. let w = operator_is k ts y e in h y.0.1 w.1 (map word y.1) w.0)
