-- The end of a line is read where it is spelled, and only there.
use Rattle.std.proofs.Common.{◌≡◌, false, if◌then◌else◌, List, map, Result, Ok, Err, refl, ap, inl, inr, ◌⊎◌}
use Rattle.just_text.specs.Tokens.{Word}
use Rattle.just_text.specs.declared.token_kind.TokenKind.{TokenKind}
use Rattle.just_text.specs.declared.token_kind.TokenKind.TheVariants.{Comment, Eof, Eol}
use Rattle.parse_expressions.specs.Words.{is_kind, Mark, Lacks}
use Rattle.parse_expressions.specs.Reading.{on, Stop, unexpected, first, accept, is_next}
use Rattle.parse_expressions.specs.LineEnds.{IsEol}
use Rattle.parse_expressions.specs.LineEnds.{eol_at}
use Rattle.parse_expressions.proofs.TokensTaken.{lacks, accept_mark, taken, none_taken, not_first, no_accept, is_next-yes}
use Rattle.parse_expressions.proofs.Taken.{inspect, ok_is}

-- a line ends here, or the file does
abbrev pub EndsHere : List Word → List Word → Type 0
EndsHere ws rest = Mark Eol ws rest ⊎ ((ws ≡ rest) × ((after : List Word) × Mark Eof ws after))

-- no end of a line begins with another kind
pub ends_lack : (k : TokenKind) (ws rest : List Word) → EndsHere ws rest → is_kind Eol k ≡ false → is_kind Eof k ≡ false → Lacks k ws
ends_lack k ws rest (inl m) p q = lacks Eol k ws rest m p
ends_lack k ws rest (inr m) p q = lacks Eof k ws m.1.0 m.1.1 q

pub eol_lacks : (k : TokenKind) (ws rest : List Word) → IsEol ws rest → is_kind Comment k ≡ false → is_kind Eol k ≡ false → is_kind Eof k ≡ false → Lacks k ws
eol_lacks k ws rest (a, inl c, e) p q r = lacks Comment k ws a c p
eol_lacks k ws rest (a, inr same, e) p q r = ends_lack k ws rest (rw same.0 e) q r

module _ {T : Type 0} (word : T → Word) where
  abbrev ends : List T → Result (List T) (Stop T)
  ends a = on (accept word Eol a) (if is_next word Eof a then Ok a else Err (unexpected (first a))) (λ p. Ok p.1)

  ends_found : (ts a : List T) → ends ts ≡ Ok a → EndsHere (map word ts) (map word a)
  unfolding is_next
  ends_found ts a h =
      elim (inspect (accept word Eol ts)) [
        | inr w ↦ let p = ok_is w.0.1 a (rw w.1 at h) in inl (rw (← p) (accept_mark word Eol ts w.0 w.1))
        | inl w ↦ elim (inspect (accept word Eof ts)) [
          | inl v ↦ let p = rw (w, v) at h in absurd cc
          | inr v ↦ let p = ok_is ts a (rw (w, v.1) at h) in inr (ap (map word) p, (map word v.0.1, accept_mark word Eof ts v.0 v.1))
        ]
      ]

  pub eol_found : (ts a : List T) → eol_at word ts ≡ Ok a → IsEol (map word ts) (map word a)
  unfolding eol_at
  eol_found ts a h =
      elim (inspect (accept word Comment ts)) [
        | inl w ↦ (map word ts, inr (refl, not_first word Comment ts w), ends_found ts a (rw w at h))
        | inr w ↦ (map word w.0.1, inl (accept_mark word Comment ts w.0 w.1), ends_found w.0.1 a (rw w.1 at h))
      ]

  pub record Ends (read : Result (List T) (Stop T)) (ws : List Word) : Type 0 where
    pub rest : List T
    pub is : read ≡ Ok rest
    pub others : map word rest ≡ ws

  ends_again : (ts : List T) (rest : List Word) → EndsHere (map word ts) rest → Ends (ends ts) rest
  ends_again ts rest (inl m) = let t = taken word Eol m.0 ts rest m.1 in record { rest = t.rest; is = rw t.accepts refl; others = t.others }
  ends_again ts rest (inr m) =
      let t = taken word Eof m.1.1.0 ts m.1.0 m.1.1.1 in
      record { rest = ts; is = rw (no_accept word Eol Eof ts m.1.0 m.1.1 refl, is_next-yes word Eof ts (t.token, t.rest) t.accepts) refl; others = m.0 }

  pub eol_again : (ts : List T) (ws : List Word) → IsEol (map word ts) ws → Ends (eol_at word ts) ws
  unfolding eol_at
  eol_again ts ws (a, inl c, e) =
      let t = taken word Comment c.0 ts a c.1 in
      let r = ends_again t.rest ws (rw t.others e) in
      record { rest = r.rest; is = rw t.accepts r.is; others = r.others }
  eol_again ts ws (a, inr same, e) =
      let r = ends_again ts ws (rw same.0 e) in
      record { rest = r.rest; is = rw (none_taken word Comment ts same.1) r.is; others = r.others }
