-- What the parser answers, from what its reading gives.
use Rattle.std.proofs.Common.{◌≡◌, List, [], ◌∷◌, Result, Ok, Err, Option, Some, None, refl, sym, ap, ◌∙◌, inl, inr}
use Rattle.just_text.specs.Tokens.{word_of, words_of}
use Rattle.just_text.specs.declared.compile_error.CompileError.{CompileError}
use Rattle.just_text.specs.declared.compile_error.CompileErrorKind.{CompileErrorKind}
use Rattle.just_text.specs.declared.compile_error.CompileErrorKind.TheVariants as kinds
use Rattle.just_text.specs.declared.token.Token.{Token}
use Rattle.just_text.specs.declared.token_kind.TokenKind.{TokenKind}
use Rattle.tree_items.specs.Files.{ItemShape}
use Rattle.parse_expressions.specs.declared.fault.Fault.{Fault}
use Rattle.parse_expressions.specs.declared.fault.Fault.TheVariants as faults
use Rattle.parse_expressions.specs.Literals.{Expansion}
use Rattle.parse_expressions.specs.Reading.{shown, unexpected, refused}
use Rattle.parse_expressions.specs.Words.{is_significant, significant}
use Rattle.parse_expressions.proofs.Taken.{test}
use Rattle.parse_attributed_items.specs.Halting.{Halt, HaltsUnless, stopped, broken}
use Rattle.justfile_syntax.specs.Files.{Derives, Entry, items_in}
use Rattle.justfile_syntax.specs.Laws.{FilesExactly}
use Rattle.justfile_syntax.specs.Parsed.{HaltsBy, IsHalt, IsReason, IsTooFew, IsWant, RefusalHolds, last_token}
use Rattle.justfile_syntax.specs.Reading.{file_at}
use Rattle.justfile_syntax.specs.Told.{IsRefused, Tells, items_read}
use Rattle.semver.specs.declared.Version.{Version}

shown_words : (ts : List Token) → words_of (shown ts) ≡ significant (words_of ts)
shown_words [] = refl
shown_words (t ∷ ts) =
    elim (test (is_significant (word_of t))) [
      | inl h ↦ let s = shown_words ts in rw (h, s) refl
      | inr h ↦ let s = shown_words ts in rw (h, s) refl
    ]

entries_read : (read : Result (List Entry) (Halt Token)) (items : List ItemShape) → items_read read ≡ Ok items → (es : List Entry) × (read ≡ Ok es) × (items ≡ items_in es)
entries_read (Ok es) items h = (es, refl, let e : items_in es ≡ items = cc in sym e)
entries_read (Err halt) items h = absurd cc

halted : (read : Result (List Entry) (Halt Token)) (halt : Halt Token) → items_read read ≡ Err halt → read ≡ Err halt
halted (Ok es) halt h = absurd cc
halted (Err other) halt h = let e : other ≡ halt = cc in ap Err e

too_few_kind : (last : Option Token) (token : Token) (kind : CompileErrorKind) → IsTooFew last token kind → (found : TokenKind) × (kind ≡ kinds.UnexpectedToken found)
too_few_kind None token kind few = (_, few)
too_few_kind (Some last) token kind few = (last.kind, few.1)

module _ (expansion : Expansion) (current : Version) (law : FilesExactly word_of expansion current) (ts : List Token) where
  pub derived : (items : List ItemShape) → items_read (file_at word_of expansion current (shown ts)) ≡ Ok items → Derives expansion current (words_of ts) items
  derived items h =
      let e = entries_read (file_at word_of expansion current (shown ts)) items h in
      let f = law.found (shown ts) e.0 e.1 in
      record { entries = e.0; behind_mark = f.behind_mark; start = rw (shown_words ts) at f.start; stand = f.stand; whole = e.2 }

  pub read : (items : List ItemShape) → Derives expansion current (words_of ts) items → items_read (file_at word_of expansion current (shown ts)) ≡ Ok items
  read items d =
      let whole = law.only (shown ts) d.entries (record { behind_mark = d.behind_mark; start = rw (shown_words ts) d.start; stand = d.stand }) in
      rw whole (ap (λ (is : List ItemShape). Ok is) (sym d.whole))

  none_derived : (halt : Halt Token) → items_read (file_at word_of expansion current (shown ts)) ≡ Err halt → (items : List ItemShape) → Derives expansion current (words_of ts) items → ⊥
  none_derived halt h items d = let p = sym h ∙ read items d in absurd cc

  -- a rule that is broken
  module _ (used : Type 0) (token : Token) (e : CompileError) where
    holds_refused : (kind : CompileErrorKind) → IsRefused token kind e → ((items : List ItemShape) → Derives expansion current (words_of ts) items → ⊥) → RefusalHolds used expansion current (words_of ts) e.kind
    holds_refused kinds.NumbersUsed t none = rw t tt
    holds_refused kinds.OutOfMemory t none = rw t.1 tt
    holds_refused kind t none = rw t.1 none

    reason_refused : (kind : CompileErrorKind) → IsRefused token kind e → HaltsBy ts (file_at word_of expansion current (shown ts)) token kind → IsReason expansion current ts e.token e.kind
    reason_refused kinds.NumbersUsed t by = rw t tt
    reason_refused kinds.OutOfMemory t by = rw t.1 tt
    reason_refused kind t by = rw (t.0, t.1) by

  module _ (used : Type 0) (e : CompileError) where
    pub starved : (f : Fault) → HaltsUnless used f (items_read (file_at word_of expansion current (shown ts))) → Tells ts f e → (items : List ItemShape) → Derives expansion current (words_of ts) items → IsWant used e.kind
    starved faults.OutOfMemory h t items d = rw t tt
    starved faults.NumbersUsed h t items d = rw t h
    starved (faults.Unexpected found) h t items d = absurd (none_derived (stopped (unexpected found)) h items d)
    starved (faults.Refused token kind) (inl h) t items d = absurd (none_derived (stopped (refused token kind)) h items d)
    starved (faults.Refused token kind) (inr h) t items d = absurd (none_derived (broken kind) h items d)

    pub holds : (f : Fault) → HaltsUnless used f (items_read (file_at word_of expansion current (shown ts))) → Tells ts f e → RefusalHolds used expansion current (words_of ts) e.kind
    holds faults.OutOfMemory h t = rw t tt
    holds faults.NumbersUsed h t = rw t h
    holds (faults.Unexpected None) h t = let k = too_few_kind (last_token ts) e.token e.kind t in rw k.1 (none_derived (stopped (unexpected None)) h)
    holds (faults.Unexpected (Some token)) h t = rw t.1 (none_derived (stopped (unexpected (Some token))) h)
    holds (faults.Refused token kind) (inl h) t = holds_refused used token e kind t (none_derived (stopped (refused token kind)) h)
    holds (faults.Refused token kind) (inr h) t = holds_refused used token e kind t (none_derived (broken kind) h)

    halts_by : (halt : Halt Token) (token : Token) (kind : CompileErrorKind) → items_read (file_at word_of expansion current (shown ts)) ≡ Err halt → IsHalt ts halt token kind → HaltsBy ts (file_at word_of expansion current (shown ts)) token kind
    halts_by halt token kind h is = let p = halted (file_at word_of expansion current (shown ts)) halt h in rw p is

    pub reason : (f : Fault) → HaltsUnless used f (items_read (file_at word_of expansion current (shown ts))) → Tells ts f e → IsReason expansion current ts e.token e.kind
    reason faults.OutOfMemory h t = rw t tt
    reason faults.NumbersUsed h t = rw t tt
    reason (faults.Unexpected None) h t =
        let k = too_few_kind (last_token ts) e.token e.kind t in
        rw k.1 (halts_by (stopped (unexpected None)) e.token (kinds.UnexpectedToken k.0) h (rw k.1 at t))
    reason (faults.Unexpected (Some token)) h t = rw (t.0, t.1) (halts_by (stopped (unexpected (Some token))) token (kinds.UnexpectedToken token.kind) h (refl, refl))
    reason (faults.Refused token kind) (inl h) t = reason_refused used token e kind t (halts_by (stopped (refused token kind)) token kind h (refl, refl))
    reason (faults.Refused token kind) (inr h) t = reason_refused used token e kind t (halts_by (broken kind) token kind h refl)
