-- The ends of lines are read where they are spelled, and only there, and so is what stands between two attributes.
use Rattle.std.proofs.Common.{◌≡◌, Bool, true, false, List, [], ◌∷◌, map, Result, Ok, refl, sym, ap, ◌∙◌, inl, inr}
use Rattle.just_text.specs.Tokens.{Word}
use Rattle.just_text.specs.declared.token_kind.TokenKind.TheVariants.{BracketL, BracketR, Comment, Eol}
use Rattle.parse_expressions.specs.Words.{is_kind}
use Rattle.parse_expressions.specs.Reading.{Stop, accept, expect}
use Rattle.parse_expressions.proofs.Taken.{bind_ok, inspect, test, turned, ok_is, accept_mark, accept_none, expect_mark, marked, lacks_accept}
use Rattle.parse_attributes.specs.Lines.{behind_comments, behind_one, IsLineEnd, IsBetween, IsLast}
use Rattle.parse_attributes.specs.Reading.{line_end_at, another_at}
use Rattle.parse_expressions.specs.Rows.{more_at, BetweenOrEnd, IsComma}
use Rattle.parse_attributes.proofs.RowsExact.{Found, Again}
use Rattle.parse_expressions.proofs.Rows.{more_found, more_again}
use Rattle.parse_expressions.specs.Grammar.{Closes}

module _ {T : Type 0} (word : T → Word) where
  -- ---- comment lines of tokens are those of their words

  mutual
    unfolding behind_comments behind_one

    same_comments : (ts : List T) → behind_comments (λ (w : Word). w) (map word ts) ≡ map word (behind_comments word ts)
    same_comments [] = refl
    same_comments (t ∷ ts) =
        elim (test (is_kind (word t).kind Comment)) [
          | inl e ↦ rw e (same_one t ts)
          | inr e ↦ rw e refl
        ]

    same_one : (t : T) (ts : List T) → behind_one (λ (w : Word). w) (word t) (map word ts) ≡ map word (behind_one word t ts)
    same_one t [] = refl
    same_one t (u ∷ us) =
        elim (test (is_kind (word u).kind Eol)) [
          | inl e ↦ rw e (same_comments us)
          | inr e ↦ rw e refl
        ]

  -- ---- the end of a line

  end_found : (ts rest : List T) → line_end_at word ts ≡ Ok rest → IsLineEnd (map word ts) (map word rest)
  unfolding line_end_at
  end_found ts rest h =
      elim (inspect (accept word Comment ts)) [
        | inl w ↦
            let e = bind_ok (expect word Eol ts) _ rest (rw w at h) in
            (map word ts, map word e.0.1, inr (refl, accept_none word Comment ts w), expect_mark word Eol ts e.0 e.1, ap (map word) (sym (ok_is _ rest e.2)) ∙ sym (same_comments e.0.1))
        | inr w ↦
            let e = bind_ok (expect word Eol w.0.1) _ rest (rw w.1 at h) in
            (map word w.0.1, map word e.0.1, inl (accept_mark word Comment ts w.0 w.1), expect_mark word Eol w.0.1 e.0 e.1, ap (map word) (sym (ok_is _ rest e.2)) ∙ sym (same_comments e.0.1))
      ]

  -- what is read up to that place
  record Ends (read : Result (List T) (Stop T)) (ws : List Word) : Type 0 where
    rest : List T
    is : read ≡ Ok rest
    others : map word rest ≡ ws

  end_again : (ts : List T) (ws : List Word) → IsLineEnd (map word ts) ws → Ends (line_end_at word ts) ws
  unfolding line_end_at
  end_again ts ws (a, b, inl c, m, same) =
      let d = marked word Comment ts a c in
      let e = marked word Eol d.rest b (rw d.others m) in
      record { rest = behind_comments word e.rest; is = rw (d.accepts, e.expects) refl; others = sym (same_comments e.rest) ∙ rw e.others (sym same) }
  end_again ts ws (a, b, inr (here, l), m, same) =
      let none = lacks_accept word Comment ts l in
      let e = marked word Eol ts b (rw here m) in
      record { rest = behind_comments word e.rest; is = rw (none, e.expects) refl; others = sym (same_comments e.rest) ∙ rw e.others (sym same) }

  -- ---- between two attributes

  pub another_found : Found word (BetweenOrEnd IsBetween IsLast) (another_at word)
  unfolding another_at
  another_found ts p h =
      let m = bind_ok (more_at word BracketR ts) _ p h in
      let i = more_found word BracketR ts m.0 m.1 in
      elim (test m.0.0) [
        | inl w ↦
            let comma : IsComma BracketR (map word ts) (map word m.0.1) = rw w at i in
            let both : BetweenOrEnd IsBetween IsLast m.0.0 (map word ts) (map word m.0.1) = rw w (inl comma) in
            turned (λ (z : Bool × List T). BetweenOrEnd IsBetween IsLast z.0 (map word ts) (map word z.1)) m.0 p (rw w at m.2) both
        | inr w ↦
            let closes : Closes BracketR (map word ts) (map word m.0.1) = rw w at i in
            let e = bind_ok (line_end_at word m.0.1) _ p (rw w at m.2) in
            let end = end_found m.0.1 e.0 e.1 in
            elim (inspect (accept word BracketL e.0)) [
              | inl v ↦
                  turned (λ (z : Bool × List T). BetweenOrEnd IsBetween IsLast z.0 (map word ts) (map word z.1)) (false, e.0) p (rw v at e.2)
                  ((map word m.0.1, closes, end), accept_none word BracketL e.0 v)
              | inr v ↦
                  turned (λ (z : Bool × List T). BetweenOrEnd IsBetween IsLast z.0 (map word ts) (map word z.1)) (true, v.0.1) p (rw v.1 at e.2)
                  (inr (map word e.0, (map word m.0.1, closes, end), accept_mark word BracketL e.0 v.0 v.1))
            ]
      ]

  pub another_again : Again word (BetweenOrEnd IsBetween IsLast) (another_at word)
  unfolding another_at
  another_again true ts ws (inl c) = let m = more_again word BracketR refl true ts ws c in record { rest = m.rest; is = rw m.is refl; others = m.others }
  another_again true ts ws (inr (a, (b, c, e), o)) =
      let m = more_again word BracketR refl false ts b c in
      let l = end_again m.rest a (rw m.others e) in
      let q = marked word BracketL l.rest ws (rw l.others o) in
      record { rest = q.rest; is = rw (m.is, l.is, q.accepts) (refl {a = Ok (true, q.rest)}); others = q.others }
  another_again false ts ws ((b, c, e), o) =
      let m = more_again word BracketR refl false ts b c in
      let l = end_again m.rest ws (rw m.others e) in
      let stop = lacks_accept word BracketL l.rest (rw l.others o) in
      record { rest = l.rest; is = rw (m.is, l.is, stop) (refl {a = Ok (false, l.rest)}); others = l.others }
