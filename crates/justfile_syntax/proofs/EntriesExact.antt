-- The entries of a file are read where they are spelled, and only there.
use Rattle.std.proofs.Common.{◌≡◌, ℕ, zero, suc, ◌<◌, List, [], ◌∷◌, length, map, Result, Ok, Err, refl, arith, inl, inr}
use Rattle.std.specs.Str.{trim_end}
use Rattle.just_text.specs.Tokens.{Word}
use Rattle.just_text.specs.declared.token_kind.TokenKind.TheVariants.{ByteOrderMark, Comment, Eof, Eol}
use Rattle.tree_items.specs.Files.{ItemShape, comment_item, newline_item}
use Rattle.parse_expressions.specs.Words.{Mark}
use Rattle.parse_expressions.specs.Literals.{Expansion}
use Rattle.parse_expressions.specs.Reading.{Stop, accept, expect, is_next}
use Rattle.parse_expressions.proofs.Shorter.{accept_shorter}
use Rattle.parse_expressions.specs.LineEnds.{eol_at}
use Rattle.parse_recipes.specs.Laws.{EolsExactly}
use Rattle.parse_expressions.proofs.TokensTaken.{accept_mark, expect_begins, taken, none_taken, no_accept, is_next-yes, is_next-no, Reads}
use Rattle.parse_recipes.proofs.ExpressionsRead.{fewer}
use Rattle.parse_attributed_items.specs.Halting.{or_stopped}
use Rattle.parse_attributed_items.specs.Items.{IsAttributed}
use Rattle.parse_attributed_items.specs.Laws.{AttributedExactly}
use Rattle.semver.specs.declared.Version.{Version}
use Rattle.justfile_syntax.specs.Files.{Entry, IsCommentLine, IsStart, IsEntry, AreEntries}
use Rattle.justfile_syntax.specs.Reading.{behind_mark, comment_at, ended, filled_at, entry_at, entries_at, file_at}
use Rattle.justfile_syntax.specs.Laws.{AreFile, FilesExactly}
use Rattle.justfile_syntax.proofs.ItemWords.{IsNeverFirst}
use Rattle.justfile_syntax.proofs.EntryWords.{IsNeverAhead, attributed_lacks, entry, entry_shorter, entry_lacks, entries_lack}
use Rattle.parse_expressions.proofs.Taken.{bind_ok, inspect, test, turned}

-- ---- steps

ok_stopped : {A T : Type 0} (read : Result A (Stop T)) (x : A) → or_stopped read ≡ Ok x → read ≡ Ok x
ok_stopped (Ok y) x h = let p : y ≡ x = cc in rw p refl
ok_stopped (Err stop) x h = absurd cc

nothing_left : {T : Type 0} (word : T → Word) (ts : List T) → map word ts ≡ [] → ts ≡ []
nothing_left word [] h = refl
nothing_left word (t ∷ ts) h = absurd cc

never_eof : IsNeverAhead Eof
never_eof = record { item = record { bracket = refl; name = refl; at = refl }; line = refl; comment = refl }

never_mark : IsNeverAhead ByteOrderMark
never_mark = record { item = record { bracket = refl; name = refl; at = refl }; line = refl; comment = refl }

never_line : IsNeverFirst Eol
never_line = record { bracket = refl; name = refl; at = refl }

never_comment : IsNeverFirst Comment
never_comment = record { bracket = refl; name = refl; at = refl }

module _ {T : Type 0} (word : T → Word) (ends : EolsExactly word) where
  -- ---- comments

  comment_found : (ts : List T) (p : List ℕ × List T) → comment_at word ts ≡ Ok p → IsCommentLine p.0 (map word ts) (map word p.1)
  unfolding comment_at
  comment_found ts p h =
      let c = bind_ok (expect word Comment ts) _ p h in
      let r = bind_ok (eol_at word c.0.1) _ p c.2 in
      turned (λ (z : List ℕ × List T). IsCommentLine z.0 (map word ts) (map word z.1)) (trim_end (word c.0.0).text, r.0) p r.2
      ((word c.0.0).text, map word c.0.1, expect_begins word Comment ts c.0 c.1, ends.found c.0.1 r.0 r.1, refl)

  comment_again : (text : List ℕ) (ts : List T) (ws : List Word) → IsCommentLine text (map word ts) ws → Reads word (comment_at word ts) text ws
  unfolding comment_at
  comment_again text ts ws (lexeme, a, f, eol, same) =
      let t = taken word Comment lexeme ts a f in
      let r = ends.only t.rest ws (rw t.others eol) in
      record { rest = r.0; is = rw (t.expects, r.1, t.says, same) refl; others = r.2 }

  module _ (expansion : Expansion) (current : Version) (items : AttributedExactly word expansion current) where
    -- ---- an entry

    filled_found : (ts : List T) (p : Entry × List T) → filled_at word expansion current ts ≡ Ok p → IsEntry expansion current p.0 (map word ts) (map word p.1)
    unfolding filled_at
    filled_found ts p h =
        elim (test (is_next word Comment ts)) [
          | inl w ↦
              let c = bind_ok (comment_at word ts) _ p (ok_stopped _ p (rw w at h)) in
              turned (λ (z : Entry × List T). IsEntry expansion current z.0 (map word ts) (map word z.1)) ((comment_item c.0.0, 0), c.0.1) p c.2 (comment_found ts c.0 c.1, refl)
          | inr w ↦ entry expansion current p.0.0 p.0.1 (map word ts) (map word p.1) (items.found ts p.1 p.0.0 p.0.1 (rw w at h))
        ]

    pub entry_found : (ts : List T) (p : Entry × List T) → entry_at word expansion current ts ≡ Ok p → IsEntry expansion current p.0 (map word ts) (map word p.1)
    unfolding entry_at
    entry_found ts p h =
        elim (inspect (accept word Eol ts)) [
          | inl w ↦ filled_found ts p (rw w at h)
          | inr w ↦ turned (λ (z : Entry × List T). IsEntry expansion current z.0 (map word ts) (map word z.1)) ((newline_item, 0), w.0.1) p (rw w.1 at h) (accept_mark word Eol ts w.0 w.1, refl)
        ]

    -- what is read where an entry is spelled, and what is left then
    record EntryRead (e : Entry) (ts : List T) (ws : List Word) : Type 0 where
      rest : List T
      is : entry_at word expansion current ts ≡ Ok (e, rest)
      others : map word rest ≡ ws

    attributed_again : (i : ItemShape) (blanks : ℕ) (ts : List T) (ws : List Word) → IsAttributed expansion current i blanks (map word ts) ws → EntryRead (i, blanks) ts ws
    unfolding entry_at filled_at
    attributed_again i blanks ts ws h =
        let no_line = none_taken word Eol ts (attributed_lacks expansion current Eol never_line i blanks (map word ts) ws h) in
        let no_comment = is_next-no word Comment ts (none_taken word Comment ts (attributed_lacks expansion current Comment never_comment i blanks (map word ts) ws h)) in
        let r = items.only ts ws i blanks h in
        record { rest = r.0; is = rw (no_line, no_comment, r.1) refl; others = r.2 }

    entry_again : (e : Entry) (ts : List T) (ws : List Word) → IsEntry expansion current e (map word ts) ws → EntryRead e ts ws
    unfolding entry_at filled_at
    entry_again (newline_item, blanks) ts ws h =
        let t = taken word Eol h.0.0 ts ws h.0.1 in
        record { rest = t.rest; is = rw (t.accepts, h.1) refl; others = t.others }
    entry_again (comment_item text, blanks) ts ws h =
        let t = taken word Comment h.0.0 ts h.0.1 h.0.2 in
        let no_line = no_accept word Eol Comment ts h.0.1 (h.0.0, h.0.2) refl in
        let yes = is_next-yes word Comment ts (t.token, t.rest) t.accepts in
        let r = comment_again text ts ws h.0 in
        record { rest = r.rest; is = rw (no_line, yes, r.is, h.1) refl; others = r.others }
    entry_again (item, blanks) ts ws h = attributed_again item blanks ts ws h

    -- ---- entries up to the end

    end_found : (ts rest : List T) (es : List Entry) → Mark Eof (map word ts) (map word rest) → ended word rest ≡ Ok es → AreEntries expansion current es (map word ts)
    end_found ts [] es m h = turned (λ (z : List Entry). AreEntries expansion current z (map word ts)) [] es h m
    end_found ts (u ∷ us) es m h = absurd cc

    entries_found : (n : ℕ) (ts : List T) (es : List Entry) → entries_at word expansion current n ts ≡ Ok es → AreEntries expansion current es (map word ts)
    unfolding entries_at
    entries_found zero ts es h = absurd cc
    entries_found (suc n) ts es h =
        elim (inspect (accept word Eof ts)) [
          | inr w ↦ end_found ts w.0.1 es (accept_mark word Eof ts w.0 w.1) (rw w.1 at h)
          | inl w ↦
              let e = bind_ok (entry_at word expansion current ts) _ es (rw w at h) in
              let more = bind_ok (entries_at word expansion current n e.0.1) _ es e.2 in
              turned (λ (z : List Entry). AreEntries expansion current z (map word ts)) (e.0.0 ∷ more.0) es more.2 (map word e.0.1, entry_found ts e.0 e.1, entries_found n e.0.1 more.0 more.1)
        ]

    entries_again : (es : List Entry) (n : ℕ) (ts : List T) → length ts < n → AreEntries expansion current es (map word ts) → entries_at word expansion current n ts ≡ Ok es
    unfolding entries_at
    entries_again es zero ts fuel h = absurd (omega arith)
    entries_again [] (suc n) ts fuel m =
        let t = taken word Eof m.0 ts [] m.1 in
        let none = nothing_left word t.rest t.others in rw (t.accepts, none) refl
    entries_again (e ∷ es) (suc n) ts fuel (rest, h, more) =
        let open_still = none_taken word Eof ts (entry_lacks expansion current Eof never_eof e (map word ts) rest h) in
        let r = entry_again e ts rest h in
        let shorter = entry_shorter expansion current e (map word ts) rest h in
        let less = fewer word ts r.rest rest r.others (omega (arith, shorter)) in
        let others = entries_again es n r.rest (omega (arith, less)) (rw r.others more) in rw (open_still, r.is, others) refl

    -- ---- files

    start_found : (ts : List T) → IsStart (map word ts) (map word (behind_mark word ts))
    unfolding behind_mark
    start_found ts =
        elim (inspect (accept word ByteOrderMark ts)) [
          | inl w ↦ rw w (inr refl)
          | inr w ↦ rw w.1 (inl (accept_mark word ByteOrderMark ts w.0 w.1))
        ]

    file_found : (ts : List T) (es : List Entry) → file_at word expansion current ts ≡ Ok es → AreFile expansion current es (map word ts)
    unfolding file_at
    file_found ts es h = record { behind_mark = map word (behind_mark word ts); start = start_found ts; stand = entries_found (suc (length ts)) (behind_mark word ts) es h }

    file_again : (ts : List T) (es : List Entry) (behind : List Word) → IsStart (map word ts) behind → AreEntries expansion current es behind → file_at word expansion current ts ≡ Ok es
    unfolding file_at behind_mark
    file_again ts es behind (inl m) h =
        let t = taken word ByteOrderMark m.0 ts behind m.1 in
        let less = accept_shorter word ByteOrderMark ts (t.token, t.rest) t.accepts in
        let r = entries_again es (suc (length ts)) t.rest (omega (arith, less)) (rw t.others h) in rw t.accepts r
    file_again ts es behind (inr same) h =
        let i = rw (← same) at h in
        let no_mark = none_taken word ByteOrderMark ts (entries_lack expansion current ByteOrderMark never_mark refl es (map word ts) i) in
        let r = entries_again es (suc (length ts)) ts (omega arith) i in rw no_mark r

    pub files_exactly : FilesExactly word expansion current
    files_exactly = record { found = λ ts es h. file_found ts es h; only = λ ts es i. file_again ts es i.behind_mark i.start i.stand }
