-- With what word an expression begins, and that it takes at least one.
use Rattle.std.proofs.Common.{◌≡◌, ◌≢◌, ℕ, ◌<◌, ◌≤◌, Bool, true, false, List, length, refl, ap, arith, inl, inr}
use Rattle.just_text.specs.Tokens.{Word}
use Rattle.just_text.specs.declared.token_kind.TokenKind.{TokenKind}
use Rattle.just_text.specs.declared.token_kind.TokenKind.TheVariants.{Backtick, Bang, BraceL, BraceR, BracketL, BracketR, Comma, FormatStringStart, Identifier, ParenL, ParenR, Slash, StringToken}
use Rattle.tree_expressions.specs.declared.string_kind.StringKind.{StringKind}
use Rattle.tree_expressions.specs.Kinds.{kind_of}
use Rattle.tree_expressions.specs.Shape.{Shape, Shapes, Interpolations, literal, command, format, variable, call, assertion, assertion_alone, group, listing, choice, choice_alone, negation, rooted, binary, end, more, closed, interpolation}
use Rattle.parse_expressions.specs.Words.{Begins, Mark, Lacks, if_keyword, else_keyword, assert_keyword}
use Rattle.parse_expressions.specs.Operators.{sign, rank_of}
use Rattle.parse_expressions.specs.Literals.{Expansion}
use Rattle.parse_expressions.specs.Grammar.{part_kind, Closes, Is, AreAll, AreInterpolations, depth}
use Rattle.parse_expressions.proofs.Taken.{same_front}
use Rattle.parse_expressions.proofs.Operators.{rank_bounds}

unfoldable pub can_start : TokenKind → Bool
can_start Backtick = true
can_start Bang = true
can_start BracketL = true
can_start FormatStringStart = true
can_start Identifier = true
can_start ParenL = true
can_start Slash = true
can_start StringToken = true
can_start other = false

-- The first word. What binds as tightly as an operand doesn't begin with a prefix that binds more loosely.
pub record Starts (e : Shape) (words : List Word) : Type 0 where
  pub kind : TokenKind
  pub text : List ℕ
  pub others : List Word
  pub begins : Begins kind text words others
  pub can : can_start kind ≡ true
  pub no_bang : rank_of e ≤ 0 → kind ≢ Bang
  pub no_slash : rank_of e ≤ 1 → kind ≢ Slash

pub starts : (expansion : Expansion) (e : Shape) (words rest : List Word) → Is expansion e words rest → Starts e words
unfolding can_start
starts expansion (literal s) words rest i = record { kind = StringToken; text = s; others = rest; begins = i.0; can = refl; no_bang = λ z p. absurd cc; no_slash = λ z p. absurd cc }
starts expansion (command s) words rest i = record { kind = Backtick; text = s; others = rest; begins = i.0; can = refl; no_bang = λ z p. absurd cc; no_slash = λ z p. absurd cc }
starts expansion (format s hs) words rest i = record { kind = FormatStringStart; text = s; others = i.0; begins = i.1; can = refl; no_bang = λ z p. absurd cc; no_slash = λ z p. absurd cc }
starts expansion (variable x) words rest i = record { kind = Identifier; text = x; others = rest; begins = i.0; can = refl; no_bang = λ z p. absurd cc; no_slash = λ z p. absurd cc }
starts expansion (call f es) words rest i = record { kind = Identifier; text = f; others = i.0; begins = i.2; can = refl; no_bang = λ z p. absurd cc; no_slash = λ z p. absurd cc }
starts expansion (assertion c m) words rest i = record { kind = Identifier; text = assert_keyword; others = i.0; begins = i.5; can = refl; no_bang = λ z p. absurd cc; no_slash = λ z p. absurd cc }
starts expansion (assertion_alone c) words rest i = record { kind = Identifier; text = assert_keyword; others = i.0; begins = i.3; can = refl; no_bang = λ z p. absurd cc; no_slash = λ z p. absurd cc }
starts expansion (group e) words rest i = record { kind = ParenL; text = i.2.0; others = i.0; begins = i.2.1; can = refl; no_bang = λ z p. absurd cc; no_slash = λ z p. absurd cc }
starts expansion (listing es) words rest i = record { kind = BracketL; text = i.1.0; others = i.0; begins = i.1.1; can = refl; no_bang = λ z p. absurd cc; no_slash = λ z p. absurd cc }
starts expansion (choice c t o) words rest i = record { kind = Identifier; text = if_keyword; others = i.0; begins = i.3; can = refl; no_bang = λ z p. absurd cc; no_slash = λ z p. absurd cc }
starts expansion (choice_alone c t) words rest i = record { kind = Identifier; text = if_keyword; others = i.0; begins = i.2; can = refl; no_bang = λ z p. absurd cc; no_slash = λ z p. absurd cc }
starts expansion (negation e) words rest i = record { kind = Bang; text = i.1.0; others = i.0; begins = i.1.1; can = refl; no_bang = λ z p. absurd (omega arith); no_slash = λ z p. absurd cc }
starts expansion (rooted e) words rest i = record { kind = Slash; text = i.1.0; others = i.0; begins = i.1.1; can = refl; no_bang = λ z p. absurd cc; no_slash = λ z p. absurd (omega arith) }
starts expansion (binary operator l r) words rest i =
    let s = starts expansion l words i.0 i.2 in
    record { kind = s.kind; text = s.text; others = s.others; begins = s.begins; can = s.can; no_bang = λ z p. absurd (omega (arith, rank_bounds operator)); no_slash = λ z p. absurd (omega (arith, rank_bounds operator)) }

-- a kind with which no expression begins isn't first
pub cannot : (e : Shape) (kind : TokenKind) (words : List Word) → Starts e words → can_start kind ≡ false → Lacks kind words
cannot e kind words s h rest m =
    let same = same_front s.kind kind s.text m.0 words s.others rest s.begins m.1 in
    let t = s.can in
    let u = ap can_start same.0 in
    cc

-- ---- how many words are left

begins_shorter : (kind : TokenKind) (text : List ℕ) (words rest : List Word) → Begins kind text words rest → length rest < length words
begins_shorter kind text words rest b = rw b (omega arith)

pub mark_shorter : (kind : TokenKind) (words rest : List Word) → Mark kind words rest → length rest < length words
mark_shorter kind words rest m = begins_shorter kind m.0 words rest m.1

closes_shorter : (words rest : List Word) → Closes ParenR words rest → length rest < length words
closes_shorter words rest (inl m) = mark_shorter ParenR words rest m
closes_shorter words rest (inr m) = omega (arith, mark_shorter Comma words m.0 m.1, mark_shorter ParenR m.0 rest m.2)

module _ (expansion : Expansion) where
  mutual
    pub shorter : (e : Shape) (words rest : List Word) → Is expansion e words rest → length rest < length words
    shorter (literal s) words rest i = begins_shorter StringToken s words rest i.0
    shorter (command s) words rest i = begins_shorter Backtick s words rest i.0
    shorter (format s hs) words rest i = omega (arith, begins_shorter FormatStringStart s words i.0 i.1, shorter_interpolations hs (kind_of s) i.0 rest i.4)
    shorter (variable x) words rest i = begins_shorter Identifier x words rest i.0
    shorter (call f es) words rest i = omega (arith, begins_shorter Identifier f words i.0 i.2, mark_shorter ParenL i.0 i.1 i.5, shorter_all es ParenR i.1 rest i.6)
    shorter (assertion c m) words rest i =
        let first : length i.3 < length words = omega (arith, begins_shorter Identifier assert_keyword words i.0 i.5, mark_shorter ParenL i.0 i.1 i.6, shorter c i.1 i.2 i.7, mark_shorter Comma i.2 i.3 i.9) in
        omega (arith, first, shorter m i.3 i.4 i.10, closes_shorter i.4 rest i.12)
    shorter (assertion_alone c) words rest i = omega (arith, begins_shorter Identifier assert_keyword words i.0 i.3, mark_shorter ParenL i.0 i.1 i.4, shorter c i.1 i.2 i.5, closes_shorter i.2 rest i.7)
    shorter (group e) words rest i = omega (arith, mark_shorter ParenL words i.0 i.2, shorter e i.0 i.1 i.3, mark_shorter ParenR i.1 rest i.5)
    shorter (listing es) words rest i = omega (arith, mark_shorter BracketL words i.0 i.1, shorter_all es BracketR i.0 rest i.2)
    shorter (choice c t o) words rest i =
        let body : length i.2 < length i.1 = omega (arith, mark_shorter BraceL i.1 i.6.0 i.6.2, shorter t i.6.0 i.6.1 i.6.3, mark_shorter BraceR i.6.1 i.2 i.6.5) in
        let first : length i.7.0 < length words = omega (arith, begins_shorter Identifier if_keyword words i.0 i.3, shorter c i.0 i.1 i.4, body, begins_shorter Identifier else_keyword i.2 i.7.0 i.7.1) in
        elim i.7.2 [
          | inl w ↦ omega (arith, first, mark_shorter BraceL i.7.0 w.0 w.2, shorter o w.0 w.1 w.3, mark_shorter BraceR w.1 rest w.5)
          | inr w ↦ omega (arith, first, shorter o i.7.0 rest w.1)
        ]
    shorter (choice_alone c t) words rest i =
        let body : length rest < length i.1 = omega (arith, mark_shorter BraceL i.1 i.5.0 i.5.2, shorter t i.5.0 i.5.1 i.5.3, mark_shorter BraceR i.5.1 rest i.5.5) in
        omega (arith, begins_shorter Identifier if_keyword words i.0 i.2, shorter c i.0 i.1 i.3, body)
    shorter (negation e) words rest i = omega (arith, mark_shorter Bang words i.0 i.1, shorter e i.0 rest i.2)
    shorter (rooted e) words rest i = omega (arith, mark_shorter Slash words i.0 i.1, shorter e i.0 rest i.2)
    shorter (binary operator l r) words rest i = omega (arith, shorter l words i.0 i.2, mark_shorter (sign operator) i.0 i.1 i.4, shorter r i.1 rest i.5)

    shorter_all : (es : Shapes) (close : TokenKind) (words rest : List Word) → AreAll expansion es close words rest → length rest < length words
    shorter_all end close words rest i = mark_shorter close words rest i
    shorter_all (more e es) close words rest i =
        elim i.3 [
          | inl w ↦ omega (arith, shorter e words i.0 i.1, mark_shorter Comma i.0 w.0 w.1, shorter_all es close w.0 rest w.2)
          | inr w ↦ omega (arith, shorter e words i.0 i.1, mark_shorter close i.0 rest w.1)
        ]

    shorter_interpolations : (hs : Interpolations) (kind : StringKind) (words rest : List Word) → AreInterpolations expansion kind hs words rest → length rest ≤ length words
    shorter_interpolations closed kind words rest i = omega (arith, ap length i)
    shorter_interpolations (interpolation e part hs) kind words rest i = omega (arith, shorter e words i.0 i.2, begins_shorter (part_kind hs) part i.0 i.1 i.4, shorter_interpolations hs kind i.1 rest i.6)

pub depth_positive : (e : Shape) → 1 ≤ depth e
depth_positive (literal s) = omega arith
depth_positive (command s) = omega arith
depth_positive (format s hs) = omega arith
depth_positive (variable x) = omega arith
depth_positive (call f es) = omega arith
depth_positive (assertion c m) = omega arith
depth_positive (assertion_alone c) = omega arith
depth_positive (group e) = omega arith
depth_positive (listing es) = omega arith
depth_positive (choice c t o) = omega arith
depth_positive (choice_alone c t) = omega arith
depth_positive (negation e) = omega arith
depth_positive (rooted e) = omega arith
depth_positive (binary operator l r) = omega arith
