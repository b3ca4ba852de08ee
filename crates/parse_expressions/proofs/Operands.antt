-- How an operand of a rank that isn't 0 is read.
use Rattle.std.proofs.Common.{◌≡◌, ◌≢◌, ◌+◌, ◌-◌, ◌<◌, ◌≤◌, ℕ, zero, suc, List, Ok, Some, None, refl, subst, add-one, arith}
use Rattle.just_text.specs.Tokens.{word_of}
use Rattle.just_text.specs.declared.token.Token.{Token}
use Rattle.tree_expressions.specs.Shape.{Shape}
use Rattle.parse_expressions.specs.declared.fault.Fault.{Fault}
use Rattle.parse_expressions.specs.declared.fault.Fault.TheVariants as faults
use Rattle.parse_expressions.specs.Literals.{Expansion}
use Rattle.parse_expressions.specs.Reading.{◌>>=◌, on, Fails, Prefix, prefixed, prefix_at, behind_at, operand_at, expression_at}

stepped : (x : Expansion) (d k : ℕ) (ts : List Token) → k ≢ 0 → operand_at word_of x (expression_at word_of x d) k ts
    ≡ on (prefix_at word_of k ts) (operand_at word_of x (expression_at word_of x d) (k - 1) ts >>= behind_at word_of (expression_at word_of x d) k) (λ p. expression_at word_of x d k p.1 >>= λ e. Ok (prefixed p.0.1 e.0, e.1))
unfolding operand_at
stepped x d zero ts binds = absurd (binds refl)
stepped x d (suc j) ts binds = let less : suc j - 1 ≡ j = omega arith in rw less refl

module _ (x : Expansion) (d k : ℕ) (ts : List Token) (binds : k ≢ 0) where
  operand_step : operand_at word_of x (expression_at word_of x d) k ts
      ≡ on (prefix_at word_of k ts) (operand_at word_of x (expression_at word_of x d) (k - 1) ts >>= behind_at word_of (expression_at word_of x d) k) (λ p. expression_at word_of x d k p.1 >>= λ e. Ok (prefixed p.0.1 e.0, e.1))
  operand_step = stepped x d k ts binds

  pub operand_fails : (p : (Token × Prefix) × List Token) → prefix_at word_of k ts ≡ Some p → (f : Fault) → Fails f (expression_at word_of x d k p.1) → Fails f (operand_at word_of x (expression_at word_of x d) k ts)
  operand_fails p is faults.OutOfMemory h = tt
  operand_fails p is faults.NumbersUsed h = absurd h
  operand_fails p is (faults.Unexpected found) h = rw (operand_step, is, h) refl
  operand_fails p is (faults.Refused token kind) h = rw (operand_step, is, h) refl

  pub prefixed_read : (p : (Token × Prefix) × List Token) → prefix_at word_of k ts ≡ Some p → (e : Shape × List Token) → expression_at word_of x d k p.1 ≡ Ok e → operand_at word_of x (expression_at word_of x d) k ts ≡ Ok (prefixed p.0.1 e.0, e.1)
  prefixed_read p is e h = rw (operand_step, is, h) refl

module _ (x : Expansion) (d : ℕ) (ts : List Token) where
  -- an operand of the next rank, where no operator without a left side stands first
  pub next_rank : (j : ℕ) → prefix_at word_of (j + 1) ts ≡ None → (l : Shape × List Token) → operand_at word_of x (expression_at word_of x d) j ts ≡ Ok l
      → operand_at word_of x (expression_at word_of x d) (j + 1) ts ≡ behind_at word_of (expression_at word_of x d) (j + 1) l
  unfolding operand_at
  next_rank j is l left = let lacks : prefix_at word_of (suc j) ts ≡ None = rw add-one at is in rw (add-one, lacks, left) refl

  next_fails : (j : ℕ) → prefix_at word_of (suc j) ts ≡ None → (f : Fault) → Fails f (operand_at word_of x (expression_at word_of x d) j ts) → Fails f (operand_at word_of x (expression_at word_of x d) (suc j) ts)
  unfolding operand_at
  next_fails j is faults.OutOfMemory h = tt
  next_fails j is faults.NumbersUsed h = absurd h
  next_fails j is (faults.Unexpected found) h = rw (is, h) refl
  next_fails j is (faults.Refused token kind) h = rw (is, h) refl

  later_fails : (n j k : ℕ) → n + j ≡ k → ((other : ℕ) → j < other → other ≤ k → prefix_at word_of other ts ≡ None) → (f : Fault) → Fails f (operand_at word_of x (expression_at word_of x d) j ts) → Fails f (operand_at word_of x (expression_at word_of x d) k ts)
  later_fails zero j k sum lacks f h =
      let same : j ≡ k = omega (arith, sum) in
      subst (λ (m : ℕ). Fails f (operand_at word_of x (expression_at word_of x d) m ts)) same h
  later_fails (suc n) j k sum lacks f h =
      let same : suc (n + j) ≡ k = omega (arith, sum) in
      let below = later_fails n j (n + j) refl (λ other more less. lacks other more (omega (arith, less, sum))) f h in
      subst (λ (m : ℕ). Fails f (operand_at word_of x (expression_at word_of x d) m ts)) same (next_fails (n + j) (lacks (suc (n + j)) (omega arith) (omega (arith, sum))) f below)

  -- where reading fails at a rank, it fails at those above it
  pub rank_fails : (j k : ℕ) → j ≤ k → ((other : ℕ) → j < other → other ≤ k → prefix_at word_of other ts ≡ None) → (f : Fault) → Fails f (operand_at word_of x (expression_at word_of x d) j ts) → Fails f (operand_at word_of x (expression_at word_of x d) k ts)
  rank_fails j k below lacks f h = later_fails (k - j) j k (omega (arith, below)) lacks f h
