-- How expressions begin, and that each takes words.
use Rattle.std.proofs.Common.{◌≡◌, ◌<◌, ◌≤◌, false, List, length, arith, inl, inr}
use Rattle.just_text.specs.Tokens.{Word}
use Rattle.just_text.specs.declared.token_kind.TokenKind.{TokenKind}
use Rattle.just_text.specs.declared.token_kind.TokenKind.TheVariants.{Backtick, Bang, BraceL, BraceR, BracketL, BracketR, Comma, FormatStringStart, Identifier, ParenL, ParenR, Slash, StringToken}
use Rattle.tree_expressions.specs.declared.string_kind.StringKind.{StringKind}
use Rattle.tree_expressions.specs.Shape.{Shape, Shapes, Interpolations, literal, command, format, variable, call, assertion, assertion_alone, group, listing, choice, choice_alone, negation, rooted, binary, end, more, closed, interpolation}
use Rattle.parse_expressions.specs.Words.{is_kind, Lacks, if_keyword, else_keyword, assert_keyword}
use Rattle.parse_expressions.specs.Literals.{Expansion}
use Rattle.parse_expressions.specs.Operators.{sign}
use Rattle.parse_expressions.specs.Grammar.{Closes, Is, AreAll, AreInterpolations, part_kind}
use Rattle.parse_expressions.proofs.TokensTaken.{front_shorter, mark_shorter, lacks}

-- kinds with which no expression begins
abbrev pub NeverFirst : TokenKind → Type 0
NeverFirst k = (is_kind StringToken k ≡ false) × (is_kind Backtick k ≡ false) × (is_kind FormatStringStart k ≡ false) × (is_kind Identifier k ≡ false) × (is_kind ParenL k ≡ false)
    × (is_kind BracketL k ≡ false) × (is_kind Bang k ≡ false) × (is_kind Slash k ≡ false)

module _ (expansion : Expansion) where
  pub never_first : (k : TokenKind) → NeverFirst k → (e : Shape) (ws rest : List Word) → Is expansion e ws rest → Lacks k ws
  never_first k n (literal s) ws rest i = lacks StringToken k ws rest (s, i.0) n.0
  never_first k n (command s) ws rest i = lacks Backtick k ws rest (s, i.0) n.1
  never_first k n (format s hs) ws rest i = lacks FormatStringStart k ws i.0 (s, i.1) n.2
  never_first k n (variable x) ws rest i = lacks Identifier k ws rest (x, i.0) n.3
  never_first k n (call f es) ws rest i = lacks Identifier k ws i.0 (f, i.2) n.3
  never_first k n (assertion c m) ws rest i = lacks Identifier k ws i.0 (assert_keyword, i.5) n.3
  never_first k n (assertion_alone c) ws rest i = lacks Identifier k ws i.0 (assert_keyword, i.3) n.3
  never_first k n (group e) ws rest i = lacks ParenL k ws i.0 i.2 n.4
  never_first k n (listing es) ws rest i = lacks BracketL k ws i.0 i.1 n.5
  never_first k n (choice c t o) ws rest i = lacks Identifier k ws i.0 (if_keyword, i.3) n.3
  never_first k n (choice_alone c t) ws rest i = lacks Identifier k ws i.0 (if_keyword, i.2) n.3
  never_first k n (negation e) ws rest i = lacks Bang k ws i.0 i.1 n.6
  never_first k n (rooted e) ws rest i = lacks Slash k ws i.0 i.1 n.7
  never_first k n (binary operator l r) ws rest i = never_first k n l ws i.0 i.2

  closes_shorter : (ws rest : List Word) → Closes ParenR ws rest → length rest < length ws
  closes_shorter ws rest (inl m) = let p = mark_shorter ParenR ws rest m in omega arith
  closes_shorter ws rest (inr (a, c, m)) = let p = mark_shorter Comma ws a c in let q = mark_shorter ParenR a rest m in omega arith

  mutual
    pub shorter : (e : Shape) (ws rest : List Word) → Is expansion e ws rest → length rest < length ws
    shorter (literal s) ws rest i = let p = front_shorter StringToken s ws rest i.0 in omega arith
    shorter (command s) ws rest i = let p = front_shorter Backtick s ws rest i.0 in omega arith
    shorter (format s hs) ws rest i = let p = front_shorter FormatStringStart s ws i.0 i.1 in let q = interpolations_shorter _ hs i.0 rest i.4 in omega arith
    shorter (variable x) ws rest i = let p = front_shorter Identifier x ws rest i.0 in omega arith
    shorter (call f es) ws rest i = let p = front_shorter Identifier f ws i.0 i.2 in let q = mark_shorter ParenL i.0 i.1 i.5 in let r = all_shorter es ParenR i.1 rest i.6 in omega arith
    shorter (assertion c m) ws rest (a, b, d, f, g, w, p, ic, mc, o, im, mm, cl) =
        let s1 = front_shorter Identifier assert_keyword ws a w in
        let s2 = mark_shorter ParenL a b p in
        let s3 = shorter c b d ic in
        let s4 = mark_shorter Comma d f o in
        let s5 = shorter m f g im in
        let s6 = closes_shorter g rest cl in omega arith
    shorter (assertion_alone c) ws rest (a, b, d, w, p, ic, mc, cl) =
        let s1 = front_shorter Identifier assert_keyword ws a w in
        let s2 = mark_shorter ParenL a b p in
        let s3 = shorter c b d ic in
        let s4 = closes_shorter d rest cl in omega arith
    shorter (group e) ws rest (a, b, p, i, m, q) =
        let s1 = mark_shorter ParenL ws a p in
        let s2 = shorter e a b i in
        let s3 = mark_shorter ParenR b rest q in omega arith
    shorter (listing es) ws rest i = let p = mark_shorter BracketL ws i.0 i.1 in let q = all_shorter es BracketR i.0 rest i.2 in omega arith
    shorter (choice c t o) ws rest (a, b, g, w, ic, mc, it, (h, v, inl io)) =
        let s1 = front_shorter Identifier if_keyword ws a w in
        let s2 = shorter c a b ic in
        let s3 = mark_shorter BraceL b it.0 it.2 in
        let s4 = shorter t it.0 it.1 it.3 in
        let s5 = mark_shorter BraceR it.1 g it.5 in
        let s6 = front_shorter Identifier else_keyword g h v in
        let s7 = mark_shorter BraceL h io.0 io.2 in
        let s8 = shorter o io.0 io.1 io.3 in
        let s9 = mark_shorter BraceR io.1 rest io.5 in omega arith
    shorter (choice c t o) ws rest (a, b, g, w, ic, mc, it, (h, v, inr io)) =
        let s1 = front_shorter Identifier if_keyword ws a w in
        let s2 = shorter c a b ic in
        let s3 = mark_shorter BraceL b it.0 it.2 in
        let s4 = shorter t it.0 it.1 it.3 in
        let s5 = mark_shorter BraceR it.1 g it.5 in
        let s6 = front_shorter Identifier else_keyword g h v in
        let s7 = shorter o h rest io.1 in omega arith
    shorter (choice_alone c t) ws rest (a, b, w, ic, mc, it, l) =
        let s1 = front_shorter Identifier if_keyword ws a w in
        let s2 = shorter c a b ic in
        let s3 = mark_shorter BraceL b it.0 it.2 in
        let s4 = shorter t it.0 it.1 it.3 in
        let s5 = mark_shorter BraceR it.1 rest it.5 in omega arith
    shorter (negation e) ws rest i = let p = mark_shorter Bang ws i.0 i.1 in let q = shorter e i.0 rest i.2 in omega arith
    shorter (rooted e) ws rest i = let p = mark_shorter Slash ws i.0 i.1 in let q = shorter e i.0 rest i.2 in omega arith
    shorter (binary operator l r) ws rest (a, b, il, ml, o, ir, mr) =
        let s1 = shorter l ws a il in
        let s2 = mark_shorter (sign operator) a b o in
        let s3 = shorter r b rest ir in omega arith

    all_shorter : (es : Shapes) (close : TokenKind) (ws rest : List Word) → AreAll expansion es close ws rest → length rest < length ws
    all_shorter end close ws rest m = let p = mark_shorter close ws rest m in omega arith
    all_shorter (more e es) close ws rest (a, i, m, inl (b, c, j)) =
        let s1 = shorter e ws a i in
        let s2 = mark_shorter Comma a b c in
        let s3 = all_shorter es close b rest j in omega arith
    all_shorter (more e es) close ws rest (a, i, m, inr j) = let s1 = shorter e ws a i in let s2 = mark_shorter close a rest j.1 in omega arith

    interpolations_shorter : (kind : StringKind) (hs : Interpolations) (ws rest : List Word) → AreInterpolations expansion kind hs ws rest → length rest ≤ length ws
    interpolations_shorter kind closed ws rest i = rw i (omega arith)
    interpolations_shorter kind (interpolation e part hs) ws rest (a, b, i, m, p, c, j) =
        let s1 = shorter e ws a i in
        let s2 = front_shorter (part_kind hs) part a b p in
        let s3 = interpolations_shorter kind hs b rest j in omega arith
