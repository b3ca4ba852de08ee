-- What is printed is derived again.
use Rattle.std.proofs.Common.{◌≡◌, ℕ, true, false, ◌&&◌, List, ◌∷◌, refl, sym, subst, inl, inr, ◌⊎◌}
use Rattle.std.specs.Prelude.{codes}
use Rattle.just_text.specs.Tokens.{Word}
use Rattle.just_text.specs.declared.token_kind.TokenKind.{TokenKind}
use Rattle.just_text.specs.declared.token_kind.TokenKind.TheVariants.{BraceL, BraceR, BracketR, Comma, Identifier, ParenR, Whitespace}
use Rattle.tree_expressions.specs.declared.string_kind.StringKind.{StringKind}
use Rattle.tree_expressions.specs.Operators.{mark_of}
use Rattle.tree_expressions.specs.Kinds.{kind_of}
use Rattle.parse_expressions.proofs.Taken.{test}
use Rattle.tree_expressions.specs.Shape.{Shape, Shapes, Interpolations, literal, command, format, variable, call, assertion, assertion_alone, group, listing, choice, choice_alone, negation, rooted, binary, end, more, closed, interpolation}
use Rattle.tree_items.specs.Printable.{is_choice, takes_else}
use Rattle.parse_expressions.specs.Words.{is_kind, Mark, LacksKeyword, else_keyword, significant}
use Rattle.parse_expressions.specs.Operators.{sign, left_rank, right_rank}
use Rattle.parse_expressions.specs.Literals.{Expansion}
use Rattle.parse_expressions.specs.Grammar.{MayStand, IsChoice, IsBraced, Is, AreAll, AreInterpolations, part_kind, Derives}
use Rattle.laws_printing.specs.Printing.Words.{word, space, close_paren, comma, braced_words, other_words, words_of, words_of_all, words_of_others, words_inside}
use Rattle.laws_printing.specs.Printing.Laws.{Quieter, Closed}
use Rattle.laws_printing.proofs.Printing.Quiet.{ends, quiet_end, quiet_sign, may, closed_end, closed_sign, else_end, sign-shown}

part-shown : (hs : Interpolations) → is_kind (part_kind hs) Whitespace ≡ false
part-shown closed = refl
part-shown (interpolation e part hs) = refl

part-ends : (hs : Interpolations) → ends (part_kind hs) ≡ true
unfolding ends
part-ends closed = refl
part-ends (interpolation e part hs) = refl

IsChoice-of : (o : Shape) → is_choice o ≡ true → IsChoice o
IsChoice-of (choice c t o) h = tt
IsChoice-of (choice_alone c t) h = tt
IsChoice-of (literal s) h = absurd cc
IsChoice-of (command s) h = absurd cc
IsChoice-of (format s hs) h = absurd cc
IsChoice-of (variable x) h = absurd cc
IsChoice-of (call f es) h = absurd cc
IsChoice-of (assertion c m) h = absurd cc
IsChoice-of (assertion_alone c) h = absurd cc
IsChoice-of (group e) h = absurd cc
IsChoice-of (listing es) h = absurd cc
IsChoice-of (negation e) h = absurd cc
IsChoice-of (rooted e) h = absurd cc
IsChoice-of (binary operator l r) h = absurd cc

not_choice : (o : Shape) → IsChoice o → is_choice o ≡ false → ⊥
not_choice (choice c t o) i h = absurd cc
not_choice (choice_alone c t) i h = absurd cc
not_choice (literal s) i h = i
not_choice (command s) i h = i
not_choice (format s hs) i h = i
not_choice (variable x) i h = i
not_choice (call f es) i h = i
not_choice (assertion c m) i h = i
not_choice (assertion_alone c) i h = i
not_choice (group e) i h = i
not_choice (listing es) i h = i
not_choice (negation e) i h = i
not_choice (rooted e) i h = i
not_choice (binary operator l r) i h = i

module _ (expansion : Expansion) where
  -- before what is quieter, its printed words spell it
  abbrev Spelled : Shape → List Word → Type 0
  Spelled e rest = (after : List Word) → (is_choice e ≡ false → Quieter rest (significant after)) → Closed e (significant after) → Is expansion e (significant (words_of e after)) (significant after)

  -- in braces
  braced : (e : Shape) (old rest : List Word) → Spelled e old → MayStand e old → IsBraced (Is expansion e) e (significant (braced_words (words_of e) rest)) (significant rest)
  unfolding ends
  braced e old rest is m =
      let q = quiet_end BraceR (codes "}") old (significant rest) refl in (
        significant (words_of e (space ∷ word BraceR (codes "}") ∷ rest)),
        word BraceR (codes "}") ∷ significant rest,
        (codes "{", refl),
        is (space ∷ word BraceR (codes "}") ∷ rest) (λ h. q) (closed_end e BraceR (codes "}") (significant rest) refl),
        may 6 e old _ m q,
        (codes "}", refl),
      )

  abbrev Other : Shape → List Word → List Word → Type 0
  Other o words rest = IsBraced (Is expansion o) o words rest ⊎ (IsChoice o × Is expansion o words rest)

  -- what stands after `else`: a conditional
  bare : (o : Shape) (old after : List Word) → Spelled o old → is_choice o ≡ true → (is_choice o && takes_else o ≡ true → LacksKeyword else_keyword (significant after))
      → Other o (significant (words_of o after)) (significant after)
  bare o old after is h c = inr (IsChoice-of o h, is after (λ n. absurd cc) (λ t. c (rw (h, t) refl)))

  -- or all else
  other : (o : Shape) (words rest after : List Word) → Other o words rest → ((ws old : List Word) → Is expansion o ws old → Spelled o old) → (is_choice o && takes_else o ≡ true → LacksKeyword else_keyword (significant after))
      → Other o (significant (other_words o (words_of o) after)) (significant after)
  other o words rest after (inl w) is c =
      elim (test (is_choice o)) [
        | inl h ↦ rw h (bare o w.1 after (is w.0 w.1 w.3) h c)
        | inr h ↦ rw h (inl (braced o w.1 after (is w.0 w.1 w.3) w.4))
      ]
  other o words rest after (inr w) is c =
      elim (test (is_choice o)) [
        | inl h ↦ rw h (bare o rest after (is words rest w.1) h c)
        | inr h ↦ absurd (not_choice o w.0 h)
      ]

  mutual
    unfolding words_of words_of_all words_of_others words_inside ends takes_else

    pub spelled : (e : Shape) (words rest : List Word) → Is expansion e words rest → Spelled e rest
    spelled (literal s) words rest i after q c = (refl, i.1)
    spelled (command s) words rest i after q c = (refl, i.1)
    spelled (format s hs) words rest i after q c = (_, refl, i.2, i.3, inside (kind_of s) hs i.0 rest i.4 after)
    spelled (variable x) words rest i after q c = (refl, i.1, (q refl).calls i.2)
    spelled (call f es) words rest i after q c = (_, _, refl, i.3, i.4, (codes "(", refl), all es ParenR (codes ")") i.1 rest i.6 after refl refl)
    spelled (assertion c m) words rest i after q n =
        let r = comma ∷ space ∷ words_of m (close_paren ∷ after) in
        let q1 = quiet_end Comma (codes ",") i.2 (significant (words_of m (close_paren ∷ after))) refl in
        let q2 = quiet_end ParenR (codes ")") i.4 (significant after) refl in (
          _,
          _,
          _,
          _,
          _,
          refl,
          (codes "(", refl),
          spelled c i.1 i.2 i.7 r (λ h. q1) (closed_end c Comma (codes ",") _ refl),
          may 6 c i.2 _ i.8 q1,
          (codes ",", refl),
          spelled m i.3 i.4 i.10 (close_paren ∷ after) (λ h. q2) (closed_end m ParenR (codes ")") _ refl),
          may 6 m i.4 _ i.11 q2,
          inl (codes ")", refl),
        )
    spelled (assertion_alone c) words rest i after q n =
        let q1 = quiet_end ParenR (codes ")") i.2 (significant after) refl in
        (_, _, _, refl, (codes "(", refl), spelled c i.1 i.2 i.5 (close_paren ∷ after) (λ h. q1) (closed_end c ParenR (codes ")") _ refl), may 6 c i.2 _ i.6 q1, inl (codes ")", refl))
    spelled (group e) words rest i after q n =
        let q1 = quiet_end ParenR (codes ")") i.1 (significant after) refl in
        (_, _, (codes "(", refl), spelled e i.0 i.1 i.3 (close_paren ∷ after) (λ h. q1) (closed_end e ParenR (codes ")") _ refl), may 6 e i.1 _ i.4 q1, (codes ")", refl))
    spelled (listing es) words rest i after q n = (_, (codes "[", refl), all es BracketR (codes "]") i.0 rest i.2 after refl refl)
    spelled (choice c t o) words rest i after q n =
        let r3 = space ∷ word Identifier else_keyword ∷ space ∷ other_words o (words_of o) after in
        let r1 = space ∷ braced_words (words_of t) r3 in
        let q1 = quiet_end BraceL (codes "{") i.1 (significant (words_of t (space ∷ word BraceR (codes "}") ∷ r3))) refl in (
          _,
          _,
          _,
          refl,
          spelled c i.0 i.1 i.4 r1 (λ h. q1) (closed_end c BraceL (codes "{") _ refl),
          may 6 c i.1 _ i.5 q1,
          braced t i.6.1 r3 (spelled t i.6.0 i.6.1 i.6.3) i.6.4,
          (_, refl, other o i.7.0 rest after i.7.2 (λ ws old is. spelled o ws old is) n),
        )
    spelled (choice_alone c t) words rest i after q n =
        let r1 = space ∷ braced_words (words_of t) after in
        let q1 = quiet_end BraceL (codes "{") i.1 (significant (words_of t (space ∷ word BraceR (codes "}") ∷ after))) refl in
        (_, _, refl, spelled c i.0 i.1 i.3 r1 (λ h. q1) (closed_end c BraceL (codes "{") _ refl), may 6 c i.1 _ i.4 q1, braced t i.5.1 after (spelled t i.5.0 i.5.1 i.5.3) i.5.4, n refl)
    spelled (negation e) words rest i after q n = (_, (codes "!", refl), spelled e i.0 rest i.2 after (λ h. q refl) n, may 1 e rest _ i.3 (q refl))
    spelled (rooted e) words rest i after q n = (_, (codes "/", refl), spelled e i.0 rest i.2 after (λ h. q refl) n, may 2 e rest _ i.3 (q refl))
    spelled (binary operator l r) words rest i after q n =
        let after' = space ∷ word (sign operator) (mark_of operator) ∷ space ∷ words_of r after in
        let shown : significant after' ≡ word (sign operator) (mark_of operator) ∷ significant (words_of r after) = rw (sign-shown operator) refl in
        let quiet = quiet_sign operator (mark_of operator) i.0 i.1 (significant (words_of r after)) i.4 in
        let left = spelled l words i.0 i.2 after' (λ h. subst (Quieter i.0) (sym shown) quiet) (subst (Closed l) (sym shown) (closed_sign l operator (mark_of operator) (significant (words_of r after)))) in
        (_, _, subst (Is expansion l (significant (words_of l after'))) shown left, may (left_rank operator) l i.0 _ i.3 quiet, (mark_of operator, refl), spelled r i.1 rest i.5 after (λ h. q refl) n, may (right_rank operator) r rest _ i.6 (q refl))

    all : (es : Shapes) (close : TokenKind) (text : List ℕ) (words rest : List Word) → AreAll expansion es close words rest → (after : List Word) → ends close ≡ true → is_kind close Whitespace ≡ false
        → AreAll expansion es close (significant (words_of_all es (word close text ∷ after))) (significant after)
    all end close text words rest i after h w = (text, rw w refl)
    all (more e es) close text words rest i after h w =
        let o = others es close text i.0 rest i.3 after h w in
        (_, spelled e words i.0 i.1 (words_of_others es (word close text ∷ after)) (λ n. o.0) (λ t. o.1), may 6 e i.0 _ i.2 o.0, o.2)

    others : (es : Shapes) (close : TokenKind) (text : List ℕ) (before rest : List Word) → (((b : List Word) × Mark Comma before b × AreAll expansion es close b rest) ⊎ ((es ≡ end) × Mark close before rest))
        → (after : List Word) → ends close ≡ true → is_kind close Whitespace ≡ false
        → Quieter before (significant (words_of_others es (word close text ∷ after)))
        × LacksKeyword else_keyword (significant (words_of_others es (word close text ∷ after)))
        × (((b : List Word) × Mark Comma (significant (words_of_others es (word close text ∷ after))) b × AreAll expansion es close b (significant after)) ⊎ ((es ≡ end) × Mark close (significant (words_of_others es (word close text ∷ after))) (significant after)))
    others end close text before rest i after h w =
        let shown : significant (word close text ∷ after) ≡ word close text ∷ significant after = rw w refl in
        (subst (Quieter before) (sym shown) (quiet_end close text before (significant after) h), subst (LacksKeyword else_keyword) (sym shown) (else_end close text (significant after) h), inr (refl, (text, shown)))
    others (more e es) close text before rest (inl i) after h w =
        let o = others es close text i.2.0 rest i.2.3 after h w in (
          quiet_end Comma (codes ",") before _ refl,
          else_end Comma (codes ",") _ refl,
          inl (_, (codes ",", refl), (_, spelled e i.0 i.2.0 i.2.1 (words_of_others es (word close text ∷ after)) (λ n. o.0) (λ t. o.1), may 6 e i.2.0 _ i.2.2 o.0, o.2)),
        )
    others (more e es) close text before rest (inr i) after h w = let p = i.0 in absurd cc

    inside : (kind : StringKind) (hs : Interpolations) (words rest : List Word) → AreInterpolations expansion kind hs words rest → (after : List Word) → AreInterpolations expansion kind hs (significant (words_inside hs after)) (significant after)
    inside kind closed words rest i after = refl
    inside kind (interpolation e part hs) words rest i after =
        let r = word (part_kind hs) part ∷ words_inside hs after in
        let shown : significant r ≡ word (part_kind hs) part ∷ significant (words_inside hs after) = rw (part-shown hs) refl in
        let quiet = quiet_end (part_kind hs) part i.0 (significant (words_inside hs after)) (part-ends hs) in
        let is = spelled e words i.0 i.2 r (λ n. subst (Quieter i.0) (sym shown) quiet) (subst (Closed e) (sym shown) (closed_end e (part_kind hs) part _ (part-ends hs))) in
        (_, _, subst (Is expansion e (significant (words_of e r))) shown is, may 6 e i.0 _ i.3 quiet, refl, i.5, inside kind hs i.1 rest i.6 after)

  pub derived : (levels k : ℕ) (words rest after : List Word) (e : Shape) → Derives expansion levels k words e rest → Quieter rest (significant after) → Closed e (significant after) → Derives expansion levels k (significant (words_of e after)) e (significant after)
  derived levels k words rest after e d q n = record { is = spelled e words rest d.is after (λ h. q) n; may = may k e rest _ d.may q; fits = d.fits }
