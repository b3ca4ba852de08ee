-- What a numerator has handed out.
use Rattle.std.specs.Prelude.{ℕ}

-- the number of constants, the next binding's number and the next recipe's
pub record Numbers : Type 0 where
  pub constants : ℕ
  pub bindings : ℕ
  pub recipes : ℕ
