-- The text of a command begins with the marks of its first line.
use Rattle.std.proofs.Common.{◌≡◌, ◌⊎◌, inl, inr, ℕ, suc, ◌+◌, ◌==◌, Bool, true, false, not, ◌&&◌, ◌||◌, if◌then◌else◌, List, [], ◌∷◌, ◌++◌, append_assoc, Option, Some, None, codes, refl, sym, ap, ◌∙◌, subst, arith}
use Rattle.std.specs.Option.{option_map_or}
use Rattle.std.proofs.lemmas.Bool.{eqb-true}
use Rattle.tree_items.specs.declared.line.Sigils.{Sigils}
use Rattle.tree_items.specs.Lines.{no_sigils, next_sigils, one_if, sigil_count, read_sigils}
use Rattle.tree_expressions.specs.Cutting.{begins}
use Rattle.tree_expressions.specs.Parts.{halved_behind, halved}
use Rattle.laws_evaluation.specs.Bodies.Marked.{is_mark, BeginsMarked}

-- ---- one mark

pub both : (a b : Bool) → (a && b) ≡ true → (a ≡ true) × (b ≡ true)
both true true e = (refl, refl)
both true false e = absurd (cc)
both false b e = absurd (cc)

negated : (b : Bool) → not b ≡ true → b ≡ false
negated false e = refl
negated true e = absurd (cc)

chosen : (b : Bool) (first more : Sigils) (rest : Option Sigils) → (if b then Some first else rest) ≡ Some more → ((b ≡ true) × (first ≡ more)) ⊎ (rest ≡ Some more)
chosen true first more rest e = inl (refl, cc)
chosen false first more rest e = inr e

one_none : (b : Bool) → b ≡ false → one_if b ≡ 0
one_none b e = rw e refl

-- a mark is read: its byte is one, and there is one mark more
abbrev IsOneMore : ℕ → Sigils → Sigils → Type 0
IsOneMore byte s more = (is_mark byte ≡ true) × (sigil_count more ≡ suc (sigil_count s))

quiet_mark : (byte : ℕ) (s more : Sigils) → ((byte == 64) && not s.quiet) ≡ true → record s { quiet = true } ≡ more → IsOneMore byte s more
quiet_mark byte s more e f =
    let t = both (byte == 64) (not s.quiet) e in
    let b : byte ≡ 64 = eqb-true byte 64 t.0 in
    let q : one_if s.quiet ≡ 0 = one_none s.quiet (negated s.quiet t.1) in
    let n : one_if s.guard + (one_if s.infallible + 1) ≡ suc (one_if s.guard + (one_if s.infallible + one_if s.quiet)) = omega (arith, q) in
    (rw b refl, ap sigil_count (sym f) ∙ n)

infallible_mark : (byte : ℕ) (s more : Sigils) → ((byte == 45) && not s.infallible) ≡ true → record s { infallible = true } ≡ more → IsOneMore byte s more
infallible_mark byte s more e f =
    let t = both (byte == 45) (not s.infallible) e in
    let b : byte ≡ 45 = eqb-true byte 45 t.0 in
    let q : one_if s.infallible ≡ 0 = one_none s.infallible (negated s.infallible t.1) in
    let n : one_if s.guard + (1 + one_if s.quiet) ≡ suc (one_if s.guard + (one_if s.infallible + one_if s.quiet)) = omega (arith, q) in
    (rw b refl, ap sigil_count (sym f) ∙ n)

guard_mark : (byte : ℕ) (guards : Bool) (s more : Sigils) → ((byte == 63) && guards && not s.guard) ≡ true → record s { guard = true } ≡ more → IsOneMore byte s more
guard_mark byte guards s more e f =
    let t = both ((byte == 63) && guards) (not s.guard) e in
    let b : byte ≡ 63 = eqb-true byte 63 (both (byte == 63) guards t.0).0 in
    let q : one_if s.guard ≡ 0 = one_none s.guard (negated s.guard t.1) in
    let n : 1 + (one_if s.infallible + one_if s.quiet) ≡ suc (one_if s.guard + (one_if s.infallible + one_if s.quiet)) = omega (arith, q) in
    (rw b refl, ap sigil_count (sym f) ∙ n)

one_more : (guards : Bool) (byte : ℕ) (s more : Sigils) → next_sigils guards s byte ≡ Some more → IsOneMore byte s more
one_more guards byte s more e = elim (chosen ((byte == 64) && not s.quiet) (record s { quiet = true }) more _ e) [
  | inl h ↦ quiet_mark byte s more h.0 h.1
  | inr n ↦ elim (chosen ((byte == 45) && not s.infallible) (record s { infallible = true }) more _ n) [
    | inl h ↦ infallible_mark byte s more h.0 h.1
    | inr m ↦ elim (chosen ((byte == 63) && guards && not s.guard) (record s { guard = true }) more _ m) [
      | inl h ↦ guard_mark byte guards s more h.0 h.1
      | inr k ↦ absurd (cc)
    ]
  ]
]

-- ---- the marks at the front of a text

-- where no four braces begin, a byte stays as it is
pub kept_at : (byte : ℕ) (bytes : List ℕ) → begins (byte ∷ bytes) (codes "{{{{") ≡ false → halved (byte ∷ bytes) ≡ byte ∷ halved bytes
unfolding halved_behind
kept_at byte bytes e = rw e refl

-- a mark is no brace, so that it stays as it is where four braces become two
kept_mark : (byte : ℕ) (bytes : List ℕ) → is_mark byte ≡ true → halved (byte ∷ bytes) ≡ byte ∷ halved bytes
kept_mark byte bytes e = elim (byte == 64) as (λ b. (byte == 64) ≡ b → halved (byte ∷ bytes) ≡ byte ∷ halved bytes) [
  | true ↦ λ f. let b : byte ≡ 64 = eqb-true byte 64 f in rw b (kept_at 64 bytes refl)
  | false ↦ λ f. elim (byte == 45) as (λ b. (byte == 45) ≡ b → halved (byte ∷ bytes) ≡ byte ∷ halved bytes) [
    | true ↦ λ g. let b : byte ≡ 45 = eqb-true byte 45 g in rw b (kept_at 45 bytes refl)
    | false ↦ λ g.
        let m : (byte == 63) ≡ true = sym (ap (λ x. x || ((byte == 45) || (byte == 63))) f ∙ ap (λ x. x || (byte == 63)) g) ∙ e in
        let b : byte ≡ 63 = eqb-true byte 63 m in rw b (kept_at 63 bytes refl)
  ] refl
] refl

-- the marks that are read stand at the front
record MarksRead (guards : Bool) (s : Sigils) (text : List ℕ) : Type 0 where
  number : ℕ
  count : sigil_count (read_sigils guards s text) ≡ number + sigil_count s
  begins : BeginsMarked number (halved text)

none_more : (s : Sigils) → sigil_count s ≡ 0 + sigil_count s
none_more s = omega arith

pub no_marks : (text : List ℕ) → BeginsMarked 0 text
no_marks text = record { marks = []; rest = text; is = refl; long = refl; are = tt }

marks_read : (guards : Bool) (s : Sigils) (text : List ℕ) → MarksRead guards s text
unfolding read_sigils
marks_read guards s [] = record { number = 0; count = none_more s; begins = no_marks (halved []) }
marks_read guards s (byte ∷ bytes) = elim (next_sigils guards s byte) as (λ o. next_sigils guards s byte ≡ o → MarksRead guards s (byte ∷ bytes)) [
  | None ↦ λ e. record { number = 0; count = ap (λ o. sigil_count (option_map_or (λ more. read_sigils guards more bytes) o s)) e ∙ none_more s; begins = no_marks (halved (byte ∷ bytes)) }
  | Some more ↦ λ e.
      let o = one_more guards byte s more e in
      let h = marks_read guards more bytes in
      let n : h.number + sigil_count more ≡ suc h.number + sigil_count s = omega (arith, o.1) in
      record {
        number = suc h.number;
        count = ap (λ o. sigil_count (option_map_or (λ more. read_sigils guards more bytes) o s)) e ∙ (h.count ∙ n);
        begins = record {
          marks = byte ∷ h.begins.marks;
          rest = h.begins.rest;
          is = kept_mark byte bytes o.0 ∙ ap (λ l. byte ∷ l) h.begins.is;
          long = ap suc h.begins.long;
          are = (o.0, h.begins.are);
        };
      }
] refl

-- a text of a line begins with its marks
pub text_marked : (guards : Bool) (text : List ℕ) → BeginsMarked (sigil_count (read_sigils guards no_sigils text)) (halved text)
text_marked guards text =
    let h = marks_read guards no_sigils text in
    let n : h.number ≡ sigil_count (read_sigils guards no_sigils text) = omega (arith, h.count) in
    subst (λ k. BeginsMarked k (halved text)) n h.begins

-- a longer text begins with the same marks
pub marked_longer : (count : ℕ) (text more : List ℕ) → BeginsMarked count text → BeginsMarked count (text ++ more)
marked_longer count text more h = record { marks = h.marks; rest = h.rest ++ more; is = ap (λ l. l ++ more) h.is ∙ append_assoc h.marks h.rest more; long = h.long; are = h.are }
