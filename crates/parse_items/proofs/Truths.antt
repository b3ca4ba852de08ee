-- A truth value is read where it is spelled, and only there.
use Rattle.std.proofs.Common.{◌≡◌, ℕ, Bool, true, false, List, map, Ok, refl, inl, inr, ◌⊎◌}
use Rattle.just_text.specs.Tokens.{Word}
use Rattle.just_text.specs.declared.token_kind.TokenKind.TheVariants.{ColonEquals, Identifier}
use Rattle.tree_attributes.specs.Settings.{truth_text}
use Rattle.parse_expressions.specs.Words.{Begins, Mark, Lacks}
use Rattle.parse_expressions.specs.Reading.{accept, expect, is_keyword}
use Rattle.parse_expressions.proofs.Taken.{bind_ok, inspect, test, turned, text_other, same_front, accept_mark, accept_none, expect_is, taken, marked, lacks_accept, keyword_is, keyword_begins, lacks_keyword}
use Rattle.parse_expressions.proofs.TokensTaken.{Reads}
use Rattle.parse_items.specs.SettingReading.{true_keyword, false_keyword, truth_at, flag_at}

-- up to rest there is a truth value, which is true where it is left out
abbrev pub IsFlag : Bool → List Word → List Word → Type 0
IsFlag b words rest = ((b ≡ true) × (words ≡ rest) × Lacks ColonEquals words) ⊎ ((a : List Word) × Mark ColonEquals words a × Begins Identifier (truth_text b) a rest)

-- `false` is not `true`
other_word : (ws a rest : List Word) → Begins Identifier false_keyword ws a → Begins Identifier true_keyword ws rest → ⊥
other_word ws a rest f t =
    text_other false_keyword true_keyword refl (same_front Identifier Identifier false_keyword true_keyword ws a rest f t).1

module _ {T : Type 0} (word : T → Word) where
  -- ---- what is read

  -- where a keyword comes first, that keyword is taken
  keyword_taken : (keyword : List ℕ) (ts : List T) (p : T × List T) → is_keyword word keyword ts ≡ true → expect word Identifier ts ≡ Ok p → Begins Identifier keyword (map word ts) (map word p.1)
  keyword_taken keyword ts p k h =
      let first = expect_is word Identifier ts p h in
      let b = keyword_is word keyword ts k in
      let s = same_front Identifier Identifier keyword (word p.0).text (map word ts) b.0 (map word p.1) b.1 first in
      rw s.1 first

  truth_found : (ts : List T) (p : Bool × List T) → truth_at word ts ≡ Ok p → Begins Identifier (truth_text p.0) (map word ts) (map word p.1)
  unfolding truth_at
  truth_found ts p h =
      elim (test (is_keyword word true_keyword ts)) [
        | inl k ↦
            let t = bind_ok _ _ p (rw k at h) in
            turned (λ (z : Bool × List T). Begins Identifier (truth_text z.0) (map word ts) (map word z.1)) (true, t.0.1) p t.2 (keyword_taken true_keyword ts t.0 k t.1)
        | inr k ↦ elim (test (is_keyword word false_keyword ts)) [
          | inl j ↦
              let t = bind_ok _ _ p (rw (k, j) at h) in
              turned (λ (z : Bool × List T). Begins Identifier (truth_text z.0) (map word ts) (map word z.1)) (false, t.0.1) p t.2 (keyword_taken false_keyword ts t.0 j t.1)
          | inr j ↦ let q = rw (k, j) at h in absurd cc
        ]
      ]

  pub flag_found : (ts : List T) (p : Bool × List T) → flag_at word ts ≡ Ok p → IsFlag p.0 (map word ts) (map word p.1)
  unfolding flag_at
  flag_found ts p h =
      elim (inspect (accept word ColonEquals ts)) [
        | inl w ↦ turned (λ (z : Bool × List T). IsFlag z.0 (map word ts) (map word z.1)) (true, ts) p (rw w at h) (inl (refl, refl, accept_none word ColonEquals ts w))
        | inr w ↦ inr (map word w.0.1, accept_mark word ColonEquals ts w.0 w.1, truth_found w.0.1 p (rw w.1 at h))
      ]

  -- ---- what is spelled

  truth_again : (b : Bool) (ts : List T) (ws : List Word) → Begins Identifier (truth_text b) (map word ts) ws → Reads word (truth_at word ts) b ws
  unfolding truth_at
  truth_again true ts ws f =
      let t = taken word Identifier true_keyword ts ws f in
      record { rest = t.rest; is = rw (keyword_begins word true_keyword ts ws f, t.expects) refl; others = t.others }
  truth_again false ts ws f =
      let t = taken word Identifier false_keyword ts ws f in
      let no_true = lacks_keyword word true_keyword ts (λ rest m. other_word (map word ts) ws rest f m) in
      record { rest = t.rest; is = rw (no_true, keyword_begins word false_keyword ts ws f, t.expects) refl; others = t.others }

  pub flag_again : (b : Bool) (ts : List T) (ws : List Word) → IsFlag b (map word ts) ws → Reads word (flag_at word ts) b ws
  unfolding flag_at
  flag_again b ts ws (inl (is, same, l)) = record { rest = ts; is = rw (lacks_accept word ColonEquals ts l, is) refl; others = same }
  flag_again b ts ws (inr (a, m, f)) =
      let c = marked word ColonEquals ts a m in
      let r = truth_again b c.rest ws (rw c.others f) in
      record { rest = r.rest; is = rw c.accepts r.is; others = r.others }
