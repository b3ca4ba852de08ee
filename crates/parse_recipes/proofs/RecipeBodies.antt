-- A body is read where it is spelled, and only there.
use Rattle.std.proofs.Common.{◌≡◌, ◌≢◌, ℕ, suc, ◌<◌, ◌≤◌, Bool, true, false, ◌&&◌, List, [], ◌∷◌, length, map, Ok, Option, Some, None, refl, arith, inl, inr, ◌⊎◌}
use Rattle.just_text.specs.Tokens.{Word}
use Rattle.just_text.specs.declared.token_kind.TokenKind.{TokenKind}
use Rattle.just_text.specs.declared.token_kind.TokenKind.TheVariants.{Dedent, Eol, Indent, InterpolationEnd, InterpolationStart, Text}
use Rattle.tree_items.specs.Lines.{Piece, text, interpolation}
use Rattle.parse_expressions.specs.Words.{Mark, Lacks}
use Rattle.parse_expressions.specs.Literals.{Expansion}
use Rattle.parse_expressions.specs.Reading.{accept, is_next}
use Rattle.parse_expressions.specs.Laws.{Exactly}
use Rattle.parse_recipes.specs.Bodies.{behind_blank, without_blank_end, blank_end, ArePieces, AreLines, IsBody}
use Rattle.parse_recipes.specs.Reading.{is_some_line, piece_at, pieces_at, line_at, lines_at, body_at}
use Rattle.parse_expressions.proofs.TokensTaken.{lacks, front_shorter, mark_shorter, accept_begins, accept_mark, expect_mark, taken, none_taken, not_first, no_accept, is_next-yes, is_next-no, Reads}
use Rattle.parse_recipes.proofs.ExpressionFronts.{shorter}
use Rattle.parse_recipes.proofs.ExpressionsRead.{fewer, expression_found, expression_again}
use Rattle.parse_recipes.proofs.RecipeLoops.{until_found, while_found, until_again, while_again, Step}
use Rattle.parse_recipes.proofs.BlankWords.{same_blank}
use Rattle.parse_expressions.proofs.Taken.{bind_ok, inspect, test, turned}

both : (a b : Bool) → (a && b) ≡ true → (a ≡ true) × (b ≡ true)
both true b h = (refl, h)
both false b h = absurd cc

and_false : (b : Bool) → (b && false) ≡ false
and_false true = refl
and_false false = refl

some_line : (line : List Piece) → is_some_line line ≡ true → line ≢ []
some_line [] h = absurd cc
some_line (p ∷ ps) h = λ e. let q = e in absurd cc

is_some-line : (line : List Piece) → line ≢ [] → is_some_line line ≡ true
is_some-line [] h = absurd (h refl)
is_some-line (p ∷ ps) h = refl

is_next_mark : {T : Type 0} (word : T → Word) (kind : TokenKind) (ts : List T) → is_next word kind ts ≡ true → (after : List Word) × Mark kind (map word ts) after
unfolding is_next
is_next_mark word kind ts h =
    elim (inspect (accept word kind ts)) [
      | inl w ↦ let q = rw w at h in absurd cc
      | inr w ↦ (map word w.0.1, accept_mark word kind ts w.0 w.1)
    ]

-- ---- how lines begin, and that they take words

module _ (expansion : Expansion) where
  -- a line that isn't blank, or its end, doesn't begin with the end of the indentation
  line_lacks : (line : List Piece) (ws a : List Word) → ArePieces expansion line ws a → (((b : List Word) × Mark Eol a b) ⊎ (line ≢ [])) → Lacks Dedent ws
  line_lacks [] ws a same (inl e) = rw same (lacks Eol Dedent a e.0 e.1 refl)
  line_lacks [] ws a same (inr some) = absurd (some refl)
  line_lacks (text t ∷ ps) ws a i e = lacks Text Dedent ws i.0 (t, i.1) refl
  line_lacks (interpolation x ∷ ps) ws a i e = lacks InterpolationStart Dedent ws i.0 i.3 refl

  pieces_no_longer : (line : List Piece) (ws a : List Word) → ArePieces expansion line ws a → length a ≤ length ws
  pieces_no_longer [] ws a same = rw same (omega arith)
  pieces_no_longer (text t ∷ ps) ws a (b, f, i) = let p = front_shorter Text t ws b f in let q = pieces_no_longer ps b a i in omega arith
  pieces_no_longer (interpolation x ∷ ps) ws a (b, c, d, m, ix, n, i) =
      let p = mark_shorter InterpolationStart ws b m in
      let q = shorter expansion x b c ix.is in
      let r = mark_shorter InterpolationEnd c d n in
      let s = pieces_no_longer ps d a i in omega arith

  some_shorter : (line : List Piece) (ws a : List Word) → line ≢ [] → ArePieces expansion line ws a → length a < length ws
  some_shorter [] ws a some i = absurd (some refl)
  some_shorter (text t ∷ ps) ws a some (b, f, i) = let p = front_shorter Text t ws b f in let q = pieces_no_longer ps b a i in omega arith
  some_shorter (interpolation x ∷ ps) ws a some (b, c, d, m, ix, n, i) =
      let p = mark_shorter InterpolationStart ws b m in
      let q = shorter expansion x b c ix.is in
      let r = mark_shorter InterpolationEnd c d n in
      let s = pieces_no_longer ps d a i in omega arith

-- neither a text nor an interpolation comes here
abbrev NoPiece : List Word → Type 0
NoPiece ws = Lacks Text ws × Lacks InterpolationStart ws

eol_stops : (ws rest : List Word) → Mark Eol ws rest → NoPiece ws
eol_stops ws rest m = (lacks Eol Text ws rest m refl, lacks Eol InterpolationStart ws rest m refl)

dedent_stops : (ws rest : List Word) → Mark Dedent ws rest → NoPiece ws
dedent_stops ws rest m = (lacks Dedent Text ws rest m refl, lacks Dedent InterpolationStart ws rest m refl)

module _ {T : Type 0} (word : T → Word) (expansion : Expansion) (exactly : (levels k : ℕ) → Exactly word expansion levels k) where
  -- ---- parts of lines

  -- a part of a line, or nothing
  abbrev pub MayBePiece : Option Piece → List Word → List Word → Type 0
  MayBePiece None ws rest = ws ≡ rest
  MayBePiece (Some p) ws rest = ArePieces expansion (p ∷ []) ws rest

  piece_found : (ts : List T) (p : Option Piece × List T) → piece_at word expansion ts ≡ Ok p → MayBePiece p.0 (map word ts) (map word p.1)
  unfolding piece_at
  piece_found ts p h =
      elim (inspect (accept word Text ts)) [
        | inr w ↦ turned (λ (z : Option Piece × List T). MayBePiece z.0 (map word ts) (map word z.1)) (Some (text (word w.0.0).text), w.0.1) p (rw w.1 at h)
            (map word w.0.1, accept_begins word Text ts w.0 w.1, refl)
        | inl w ↦ elim (inspect (accept word InterpolationStart ts)) [
          | inl v ↦ turned (λ (z : Option Piece × List T). MayBePiece z.0 (map word ts) (map word z.1)) (None, ts) p (rw (w, v) at h) refl
          | inr v ↦
              let e = bind_ok _ _ p (rw (w, v.1) at h) in
              let q = bind_ok _ _ p e.2 in
              turned (λ (z : Option Piece × List T). MayBePiece z.0 (map word ts) (map word z.1)) (Some (interpolation e.0.0), q.0.1) p q.2
              (map word v.0.1, map word e.0.1, map word q.0.1, accept_mark word InterpolationStart ts v.0 v.1, expression_found word expansion exactly 256 6 v.0.1 e.0 e.1, expect_mark word InterpolationEnd e.0.1 q.0 q.1, refl)
        ]
      ]

  one_piece : (p : Piece) (ps : List Piece) (ws a rest : List Word) → ArePieces expansion (p ∷ []) ws a → ArePieces expansion ps a rest → ArePieces expansion (p ∷ ps) ws rest
  one_piece (text t) ps ws a rest i j = (i.0, i.1, rw i.2 j)
  one_piece (interpolation e) ps ws a rest i j = (i.0, i.1, i.2, i.3, i.4, i.5, rw i.6 j)

  pieces_found : (ts : List T) (p : List Piece × List T) → pieces_at word expansion ts ≡ Ok p → ArePieces expansion p.0 (map word ts) (map word p.1)
  unfolding pieces_at
  pieces_found ts p h =
      while_found word (piece_at word expansion) (λ ps us rest. ArePieces expansion ps (map word us) (map word rest))
      (λ us rest g. piece_found us (None, rest) g)
      (λ us mid x ps rest g more. one_piece x ps (map word us) (map word mid) (map word rest) (piece_found us (Some x, mid) g) more)
      (suc (length ts)) ts p h

  -- ---- lines

  -- a line, and its end or the end of the indentation
  pub record Lined (line : List Piece) (ts rest : List T) : Type 0 where
    pub behind : List Word
    pub is : ArePieces expansion line (map word ts) behind
    pub ends : Mark Eol behind (map word rest) ⊎ ((line ≢ []) × ((behind ≡ map word rest) × ((after : List Word) × Mark Dedent behind after)))

  line_found : (ts : List T) (p : List Piece × List T) → line_at word expansion ts ≡ Ok p → Lined p.0 ts p.1
  unfolding line_at
  line_found ts p h =
      let line = bind_ok _ _ p h in
      let is = pieces_found ts line.0 line.1 in
      elim (test (is_some_line line.0.0 && is_next word Dedent line.0.1)) [
        | inl f ↦
            let b = both (is_some_line line.0.0) (is_next word Dedent line.0.1) f in
            let d = is_next_mark word Dedent line.0.1 b.1 in
            turned (λ (z : List Piece × List T). Lined z.0 ts z.1) line.0 p (rw f at line.2)
            (record { behind = map word line.0.1; is = is; ends = inr (some_line line.0.0 b.0, (refl, d)) })
        | inr f ↦
            let e = bind_ok _ _ p (rw f at line.2) in
            turned (λ (z : List Piece × List T). Lined z.0 ts z.1) (line.0.0, e.0.1) p e.2
            (record { behind = map word line.0.1; is = is; ends = inl (expect_mark word Eol line.0.1 e.0 e.1) })
      ]

  only_dedent : (lines : List (List Piece)) (ws rest after : List Word) → AreLines expansion lines ws rest → Mark Dedent ws after → (lines ≡ []) × Mark Dedent ws rest
  only_dedent [] ws rest after i m = (refl, i)
  only_dedent (line ∷ lines) ws rest after (a, is, inl (b, e, i)) m = absurd (line_lacks expansion line ws a is (inl (b, e)) after m)
  only_dedent (line ∷ lines) ws rest after (a, is, inr e) m = absurd (line_lacks expansion line ws a is (inr e.0) after m)

  one_line : (line : List Piece) (lines : List (List Piece)) (ts rest : List T) (ws : List Word) → Lined line ts rest → AreLines expansion lines (map word rest) ws → AreLines expansion (line ∷ lines) (map word ts) ws
  one_line line lines ts rest ws l i =
      elim l.ends [
        | inl e ↦ (l.behind, l.is, inl (map word rest, e, i))
        | inr e ↦ let only = only_dedent lines (map word rest) ws e.1.1.0 i (rw (← e.1.0) e.1.1.1) in (l.behind, l.is, inr (e.0, only.0, rw e.1.0 only.1))
      ]

  lines_found : (ts : List T) (p : List (List Piece) × List T) → lines_at word expansion ts ≡ Ok p → AreLines expansion p.0 (map word ts) (map word p.1)
  unfolding lines_at
  lines_found ts p h =
      until_found word (line_at word expansion) Dedent (λ lines us rest. AreLines expansion lines (map word us) (map word rest))
      (λ us q g. accept_mark word Dedent us q g)
      (λ us x lines rest g more. one_line x.0 lines us x.1 (map word rest) (line_found us x g) more)
      (suc (length ts)) ts p h

  -- ---- bodies

  pub body_found : (ts : List T) (body : List (List Piece)) (blanks : ℕ) (rest : List T) → body_at word expansion ts ≡ Ok ((body, blanks), rest) → IsBody expansion body blanks (map word ts) (map word rest)
  unfolding body_at
  body_found ts body blanks rest h =
      elim (inspect (accept word Indent (behind_blank word ts))) [
        | inl w ↦ turned (λ (z : (List (List Piece) × ℕ) × List T). IsBody expansion z.0.0 z.0.1 (map word ts) (map word z.1)) (([], 0), ts) ((body, blanks), rest) (rw w at h)
            (inr (refl, refl, refl, rw (same_blank word ts) (not_first word Indent (behind_blank word ts) w)))
        | inr w ↦
            let ls = bind_ok _ _ ((body, blanks), rest) (rw w.1 at h) in
            turned (λ (z : (List (List Piece) × ℕ) × List T). IsBody expansion z.0.0 z.0.1 (map word ts) (map word z.1)) ((without_blank_end ls.0.0, blank_end ls.0.0), ls.0.1) ((body, blanks), rest) ls.2
            (inl (record {
              inside = map word w.0.1;
              lines = ls.0.0;
              opens = rw (same_blank word ts) (accept_mark word Indent (behind_blank word ts) w.0 w.1);
              stand = lines_found w.0.1 ls.0 ls.1;
              kept = refl;
              left = refl;
            }))
      ]

  -- ---- parts of lines, where they are spelled

  piece_step : (p : Piece) (ps : List Piece) (ts : List T) (end : List Word) → ArePieces expansion (p ∷ ps) (map word ts) end → Step word (piece_at word expansion ts) (Some p) ts (λ ws. ArePieces expansion ps ws end)
  unfolding piece_at
  piece_step (text t) ps ts end (a, f, j) =
      let k = taken word Text t ts a f in
      let s = front_shorter Text t (map word ts) a f in
      record { rest = k.rest; is = rw (k.accepts, k.says) refl; less = fewer word ts k.rest a k.others (omega arith); others = rw k.others j }
  piece_step (interpolation e) ps ts end (a, b, c, m, ie, n, j) =
      let k = taken word InterpolationStart m.0 ts a m.1 in
      let x = expression_again word expansion exactly 256 6 k.rest e b (rw k.others ie) in
      let q = taken word InterpolationEnd n.0 x.rest c (rw x.others n.1) in
      let s1 = mark_shorter InterpolationStart (map word ts) a m in
      let s2 = shorter expansion e a b ie.is in
      let s3 = mark_shorter InterpolationEnd b c n in
      record { rest = q.rest; is = rw (no_accept word Text InterpolationStart ts a m refl, k.accepts, x.is, q.expects) refl; less = fewer word ts q.rest c q.others (omega arith); others = rw q.others j }

  no_piece : (ts : List T) → NoPiece (map word ts) → piece_at word expansion ts ≡ Ok (None, ts)
  unfolding piece_at
  no_piece ts l = rw (none_taken word Text ts l.0, none_taken word InterpolationStart ts l.1) refl

  pieces_again : (ps : List Piece) (ts : List T) (end : List Word) → NoPiece end → ArePieces expansion ps (map word ts) end → Reads word (pieces_at word expansion ts) ps end
  unfolding pieces_at
  pieces_again ps ts end stop i =
      while_again word (piece_at word expansion) (λ qs ws. ArePieces expansion qs ws end) end
      (λ us j. (no_piece us (rw j stop), j))
      (λ us x xs j. piece_step x xs us end j)
      ps (suc (length ts)) ts (omega arith) i

  -- ---- lines, where they are spelled

  whole_line : (line : List Piece) (ts : List T) (a b : List Word) → ArePieces expansion line (map word ts) a → Mark Eol a b → Step word (line_at word expansion ts) line ts (λ ws. ws ≡ b)
  unfolding line_at
  whole_line line ts a b i e =
      let r = pieces_again line ts a (eol_stops a b e) i in
      let t = taken word Eol e.0 r.rest b (rw r.others e.1) in
      let stop = is_next-no word Dedent r.rest (no_accept word Dedent Eol r.rest b (rw r.others e) refl) in
      let s1 = pieces_no_longer expansion line (map word ts) a i in
      let s2 = mark_shorter Eol a b e in
      record { rest = t.rest; is = rw (r.is, stop, and_false (is_some_line line), t.expects) refl; less = fewer word ts t.rest b t.others (omega arith); others = t.others }

  last_line : (line : List Piece) (ts : List T) (a rest : List Word) → ArePieces expansion line (map word ts) a → line ≢ [] → Mark Dedent a rest → Step word (line_at word expansion ts) line ts (λ ws. ws ≡ a)
  unfolding line_at
  last_line line ts a rest i some d =
      let r = pieces_again line ts a (dedent_stops a rest d) i in
      let t = taken word Dedent d.0 r.rest rest (rw r.others d.1) in
      let next = is_next-yes word Dedent r.rest (t.token, t.rest) t.accepts in
      record { rest = r.rest; is = rw (r.is, next, is_some-line line some) refl; less = fewer word ts r.rest a r.others (some_shorter expansion line (map word ts) a some i); others = r.others }

  line_step : (line : List Piece) (lines : List (List Piece)) (ts : List T) (end : List Word) → AreLines expansion (line ∷ lines) (map word ts) end
      → (accept word Dedent ts ≡ None) × Step word (line_at word expansion ts) line ts (λ ws. AreLines expansion lines ws end)
  line_step line lines ts end (a, is, inl (b, e, i)) =
      let s = whole_line line ts a b is e in
      (none_taken word Dedent ts (line_lacks expansion line (map word ts) a is (inl (b, e))), record { rest = s.rest; is = s.is; less = s.less; others = rw s.others i })
  line_step line lines ts end (a, is, inr e) =
      let s = last_line line ts a end is e.0 e.2 in
      (none_taken word Dedent ts (line_lacks expansion line (map word ts) a is (inr e.0)), record { rest = s.rest; is = s.is; less = s.less; others = rw (s.others, e.1) e.2 })

  lines_again : (lines : List (List Piece)) (ts : List T) (end : List Word) → AreLines expansion lines (map word ts) end → Reads word (lines_at word expansion ts) lines end
  unfolding lines_at
  lines_again lines ts end i =
      until_again word (line_at word expansion) Dedent (λ ls ws. AreLines expansion ls ws end) end
      (λ ws j. j)
      (λ us x xs j. line_step x xs us end j)
      lines (suc (length ts)) ts (omega arith) i

  -- ---- bodies, where they are spelled

  pub body_again : (body : List (List Piece)) (blanks : ℕ) (ts : List T) (rest : List Word) → IsBody expansion body blanks (map word ts) rest → Reads word (body_at word expansion ts) (body, blanks) rest
  unfolding body_at
  body_again body blanks ts rest (inl i) =
      let m : Mark Indent (map word (behind_blank word ts)) i.inside = rw (same_blank word ts) at i.opens in
      let t = taken word Indent m.0 (behind_blank word ts) i.inside m.1 in
      let ls = lines_again i.lines t.rest rest (rw t.others i.stand) in
      record { rest = ls.rest; is = rw (t.accepts, ls.is, i.kept, i.left) refl; others = ls.others }
  body_again body blanks ts rest (inr i) =
      let l : Lacks Indent (map word (behind_blank word ts)) = rw (same_blank word ts) at i.3 in
      record { rest = ts; is = rw (none_taken word Indent (behind_blank word ts) l, i.0, i.1) refl; others = i.2 }
