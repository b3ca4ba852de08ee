-- What the law of expressions gives where recipes hold expressions.
use Rattle.std.proofs.Common.{◌≡◌, ℕ, ◌<◌, List, length, map, Ok, arith}
use Rattle.std.proofs.lemmas.List.{length-map}
use Rattle.just_text.specs.Tokens.{Word}
use Rattle.tree_expressions.specs.Shape.{Shape}
use Rattle.parse_expressions.specs.Literals.{Expansion}
use Rattle.parse_expressions.specs.Grammar.{Derives}
use Rattle.parse_expressions.specs.Reading.{expression_at}
use Rattle.parse_expressions.specs.Laws.{Exactly}
use Rattle.parse_expressions.proofs.TokensTaken.{Reads}

module _ {T : Type 0} (word : T → Word) where
  -- fewer words are left, so fewer tokens are
  pub fewer : (ts rest : List T) (ws : List Word) → map word rest ≡ ws → length ws < length (map word ts) → length rest < length ts
  fewer ts rest ws same less =
      let p = length-map ts word in
      let q = length-map rest word in
      let r : length (map word rest) < length (map word ts) = rw same less in omega arith

  module _ (expansion : Expansion) (exactly : (levels k : ℕ) → Exactly word expansion levels k) (levels k : ℕ) where
    pub expression_found : (ts : List T) (p : Shape × List T) → expression_at word expansion levels k ts ≡ Ok p → Derives expansion levels k (map word ts) p.0 (map word p.1)
    expression_found ts p h = let x = exactly levels k in x.found ts p.1 p.0 h

    pub expression_again : (ts : List T) (e : Shape) (rest : List Word) → Derives expansion levels k (map word ts) e rest → Reads word (expression_at word expansion levels k ts) e rest
    expression_again ts e rest d = let x = exactly levels k in let r = x.only ts rest e d in record { rest = r.0; is = r.1; others = r.2 }
