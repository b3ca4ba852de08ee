-- Whether another item comes is read where it is spelled, and only there.
use Rattle.std.proofs.Common.{◌≡◌, ◌<◌, Bool, true, false, List, length, map, Ok, refl, arith, inl, inr}
use Rattle.just_text.specs.Tokens.{Word}
use Rattle.just_text.specs.declared.token_kind.TokenKind.{TokenKind}
use Rattle.just_text.specs.declared.token_kind.TokenKind.TheVariants.{Comma}
use Rattle.parse_expressions.specs.Words.{is_kind}
use Rattle.parse_expressions.specs.Reading.{accept}
use Rattle.parse_expressions.specs.Rows.{MoreOrEnd, more_at}
use Rattle.parse_expressions.proofs.Shorter.{accept_shorter, expect_shorter, ended}
use Rattle.parse_expressions.proofs.Taken.{bind_ok, inspect, turned, accept_mark, accept_none, expect_mark, marked, lacks_accept, other_accept}
use Rattle.parse_expressions.proofs.TokensTaken.{Reads}

module _ {T : Type 0} (word : T → Word) where
  pub more_shorter : (close : TokenKind) (ts : List T) (p : Bool × List T) → more_at word close ts ≡ Ok p → length p.1 < length ts
  unfolding more_at
  more_shorter close ts p h =
      elim (inspect (accept word Comma ts)) [
        | inl w ↦
            let e = bind_ok _ _ p (rw w at h) in
            let less = expect_shorter word close ts e.0 e.1 in ended false e.0.1 p (length ts) e.2 less
        | inr w ↦
            let comma = accept_shorter word Comma ts w.0 w.1 in
            elim (inspect (accept word close w.0.1)) [
              | inl v ↦ ended true w.0.1 p (length ts) (rw (w.1, v) at h) comma
              | inr v ↦ let less = accept_shorter word close w.0.1 v.0 v.1 in ended false v.0.1 p (length ts) (rw (w.1, v.1) at h) (omega (arith, comma, less))
            ]
      ]

  module _ (close : TokenKind) where
    pub more_found : (ts : List T) (p : Bool × List T) → more_at word close ts ≡ Ok p → MoreOrEnd close p.0 (map word ts) (map word p.1)
    unfolding more_at
    more_found ts p h =
        elim (inspect (accept word Comma ts)) [
          | inl w ↦
              let e = bind_ok _ _ p (rw w at h) in
              turned (λ (z : Bool × List T). MoreOrEnd close z.0 (map word ts) (map word z.1)) (false, e.0.1) p e.2 (inl (expect_mark word close ts e.0 e.1))
          | inr w ↦ elim (inspect (accept word close w.0.1)) [
            | inl v ↦
                turned (λ (z : Bool × List T). MoreOrEnd close z.0 (map word ts) (map word z.1)) (true, w.0.1) p (rw (w.1, v) at h)
                (accept_mark word Comma ts w.0 w.1, accept_none word close w.0.1 v)
            | inr v ↦
                turned (λ (z : Bool × List T). MoreOrEnd close z.0 (map word ts) (map word z.1)) (false, v.0.1) p (rw (w.1, v.1) at h)
                (inr (map word w.0.1, accept_mark word Comma ts w.0 w.1, accept_mark word close w.0.1 v.0 v.1))
          ]
        ]

    pub more_again : is_kind close Comma ≡ false → (more : Bool) (ts : List T) (ws : List Word) → MoreOrEnd close more (map word ts) ws → Reads word (more_at word close ts) more ws
    unfolding more_at
    more_again differs true ts ws (m, l) =
        let c = marked word Comma ts ws m in
        let stop = lacks_accept word close c.rest (rw c.others l) in
        record { rest = c.rest; is = rw (c.accepts, stop) refl; others = c.others }
    more_again differs false ts ws (inl m) =
        let t = marked word close ts ws m in
        let no_comma = other_accept word Comma close ts ws m differs in
        record { rest = t.rest; is = rw (no_comma, t.expects) refl; others = t.others }
    more_again differs false ts ws (inr (a, c, m)) =
        let d = marked word Comma ts a c in
        let t = marked word close d.rest ws (rw d.others m) in
        record { rest = t.rest; is = rw (d.accepts, t.accepts) refl; others = t.others }
