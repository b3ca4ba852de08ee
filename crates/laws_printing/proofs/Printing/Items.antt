-- Items are derived again.
use Rattle.std.proofs.Common.{◌≢◌, ℕ, Bool, true, false, List, [], ◌∷◌, refl, inl, inr}
use Rattle.std.specs.Prelude.{codes}
use Rattle.just_text.specs.Tokens.{Word}
use Rattle.just_text.specs.declared.token_kind.TokenKind.{TokenKind}
use Rattle.just_text.specs.declared.token_kind.TokenKind.TheVariants.{ColonColon, Comment, Eol, InterpolationEnd}
use Rattle.tree_items.specs.Items.{AliasShape, AssignmentShape, ImportShape}
use Rattle.tree_items.specs.Lines.{Piece, text, interpolation}
use Rattle.parse_expressions.specs.Words.{Lacks, significant}
use Rattle.parse_expressions.specs.Literals.{Expansion}
use Rattle.parse_expressions.specs.LineEnds.{IsEol}
use Rattle.parse_recipes.specs.Headers.{IsPath}
use Rattle.parse_recipes.specs.Bodies.{ArePieces, AreLines}
use Rattle.parse_items.specs.Keywords.{export_keyword, eager_keyword}
use Rattle.parse_items.specs.Items.{IsAlias, AreWords, IsAssignment, IsOptional, IsImport}
use Rattle.just_text.specs.declared.token_kind.TokenKind.TheVariants.{QuestionMark}
use Rattle.laws_printing.specs.Printing.Words.{word, space}
use Rattle.laws_printing.specs.Printing.ItemWords.{newline, if_there, path_words, keyword_words, alias_words, assignment_words, import_words, line_words, lines_words}
use Rattle.laws_printing.proofs.Printing.Quiet.{ends, quiet_end, closed_end, first_kind}
use Rattle.laws_printing.proofs.Printing.Spelled.{derived}

-- a line ends without a comment
pub eol_spelled : (after : List Word) → IsEol (significant (newline ∷ after)) (significant after)
eol_spelled after = (_, inr (refl, λ r m. let p = first_kind Eol Comment (codes "\n") m.0 (significant after) r m.1 in absurd cc), inl (codes "\n", refl))

pub lacks_at_end : (other : TokenKind) (after : List Word) → Eol ≢ other → Lacks other (significant (newline ∷ after))
lacks_at_end other after d r m = d (first_kind Eol other (codes "\n") m.0 (significant after) r m.1)

pub path_spelled : (path : List (List ℕ)) (words rest : List Word) → IsPath path words rest → (after : List Word) → Lacks ColonColon (significant after) → IsPath path (significant (path_words path after)) (significant after)
path_spelled [] words rest i after l = absurd i
path_spelled (name ∷ []) words rest i after l = (refl, l)
path_spelled (name ∷ next ∷ names) words rest i after l = (_, _, refl, (codes "::", refl), path_spelled (next ∷ names) i.1 rest i.4 after l)

pub alias_spelled : (a : AliasShape) (words rest after : List Word) → IsAlias a words rest → IsAlias a (significant (alias_words a (newline ∷ after))) (significant after)
alias_spelled a words rest after i =
    (_, _, _, _, refl, refl, (codes ":=", refl), path_spelled a.target i.2 i.3 i.7 (newline ∷ after) (lacks_at_end ColonColon after (λ p. absurd cc)), eol_spelled after)

words_spelled : (export eager : Bool) (after : List Word) → AreWords export eager (significant (keyword_words export export_keyword (keyword_words eager eager_keyword after))) (significant after)
words_spelled false false after = refl
words_spelled true false after = refl
words_spelled false true after = refl
words_spelled true true after = inl (_, refl, refl)

pub optional_spelled : (optional : Bool) (after : List Word) → IsOptional optional (significant (if_there optional (word QuestionMark (codes "?")) after)) (significant after)
optional_spelled true after = (codes "?", refl)
optional_spelled false after = refl

module _ (expansion : Expansion) where
  pub assignment_spelled : (a : AssignmentShape) (words rest after : List Word) → IsAssignment expansion a words rest → IsAssignment expansion a (significant (assignment_words a (newline ∷ after))) (significant after)
  unfolding ends
  assignment_spelled a words rest after i = (
    _,
    _,
    _,
    _,
    words_spelled a.export a.eager _,
    refl,
    (codes ":=", refl),
    derived expansion 256 6 i.2 i.3 (newline ∷ after) a.value i.7 (quiet_end Eol (codes "\n") i.3 (significant after) refl) (closed_end a.value Eol (codes "\n") (significant after) refl),
    eol_spelled after,
  )

  pub import_spelled : (i : ImportShape) (words rest after : List Word) → IsImport expansion i words rest → IsImport expansion i (significant (import_words i (newline ∷ after))) (significant after)
  import_spelled i words rest after d = (_, _, _, refl, optional_spelled i.optional _, (refl, d.5.1), eol_spelled after)

  pub pieces_spelled : (ps : List Piece) (words rest after : List Word) → ArePieces expansion ps words rest → ArePieces expansion ps (significant (line_words ps after)) (significant after)
  unfolding ends
  pieces_spelled [] words rest after i = refl
  pieces_spelled (text t ∷ ps) words rest after i = (_, refl, pieces_spelled ps i.0 rest after i.2)
  pieces_spelled (interpolation e ∷ ps) words rest after i =
      let r = space ∷ word InterpolationEnd (codes "}}") ∷ line_words ps after in (
        _,
        _,
        _,
        (codes "{{", refl),
        derived expansion 256 6 i.0 i.1 r e i.4 (quiet_end InterpolationEnd (codes "}}") i.1 (significant (line_words ps after)) refl) (closed_end e InterpolationEnd (codes "}}") (significant (line_words ps after)) refl),
        (codes "}}", refl),
        pieces_spelled ps i.2 rest after i.6,
      )

  pub one_line : (indentation : List ℕ) (line : List Piece) (lines : List (List Piece)) (words a : List Word) (after : List Word) → ArePieces expansion line words a
      → AreLines expansion lines (significant (lines_words indentation lines after)) (significant after) → AreLines expansion (line ∷ lines) (significant (lines_words indentation (line ∷ lines) after)) (significant after)
  one_line indentation [] lines words a after i others = (_, refl, inl (_, (codes "\n", refl), others))
  one_line indentation (p ∷ ps) lines words a after i others = (_, pieces_spelled (p ∷ ps) words a (newline ∷ lines_words indentation lines after) i, inl (_, (codes "\n", refl), others))

  pub lines_spelled : (indentation : List ℕ) (lines : List (List Piece)) (words rest after : List Word) → AreLines expansion lines words rest → AreLines expansion lines (significant (lines_words indentation lines after)) (significant after)
  lines_spelled indentation [] words rest after i = ([], refl)
  lines_spelled indentation (line ∷ lines) words rest after (a, is, inl w) = one_line indentation line lines words a after is (lines_spelled indentation lines w.0 rest after w.2)
  lines_spelled indentation (line ∷ []) words rest after (a, is, inr w) = one_line indentation line [] words a after is ([], refl)
  lines_spelled indentation (line ∷ l ∷ lines) words rest after (a, is, inr w) = let p = w.1 in absurd cc
