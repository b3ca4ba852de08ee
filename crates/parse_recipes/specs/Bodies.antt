-- The grammar of bodies, and of what stands around them.
use Rattle.std.specs.Prelude.{ℕ, suc, ◌≡◌, ◌≢◌, ◌⊎◌, List, [], ◌∷◌, if◌then◌else◌}
use Rattle.just_text.specs.Tokens.{Word}
use Rattle.just_text.specs.declared.token_kind.TokenKind.TheVariants.{Comment, Dedent, Eof, Eol, Indent, InterpolationEnd, InterpolationStart, Text}
use Rattle.tree_items.specs.Lines.{Piece, text, interpolation}
use Rattle.tree_expressions.specs.Shape.{Shape}
use Rattle.parse_expressions.specs.Words.{is_kind, Begins, Mark, Lacks}
use Rattle.parse_expressions.specs.Literals.{Expansion}
use Rattle.parse_expressions.specs.Grammar.{Derives}
use Rattle.parse_expressions.specs.Strings.{IsExpression, IsAside}

-- the same without operators outside of brackets
abbrev pub IsPrimary : Expansion → Shape → List Word → List Word → Type 0
IsPrimary expansion e words rest = Derives expansion 256 0 words e rest

module _ {T : Type 0} (word : T → Word) where
  unfoldable mutual
    -- what follows the lines at the front on which nothing stands but a comment
    pub behind_blank : List T → List T
    behind_blank [] = []
    behind_blank (t ∷ ts) = if is_kind (word t).kind Eol then behind_blank ts else if is_kind (word t).kind Comment then behind_comment t ts else t ∷ ts

    -- the same after that comment
    pub behind_comment : T → List T → List T
    behind_comment t [] = t ∷ []
    behind_comment t (u ∷ us) = if is_kind (word u).kind Eol then behind_blank us else t ∷ u ∷ us

-- what follows the blank lines at the front of these words
abbrev pub behind_blank_lines : List Word → List Word
behind_blank_lines words = behind_blank (λ w. w) words

-- a line before others, where a blank one before none falls away
abbrev pub unless_blank : List Piece → List (List Piece) → List (List Piece)
unless_blank [] [] = []
unless_blank line lines = line ∷ lines

-- the lines up to the last that isn't blank
abbrev pub without_blank_end : List (List Piece) → List (List Piece)
without_blank_end [] = []
without_blank_end (line ∷ lines) = unless_blank line (without_blank_end lines)

-- how many blank lines stand after the last that isn't blank
abbrev pub if_blank : List Piece → List (List Piece) → ℕ → ℕ
if_blank [] [] n = suc n
if_blank line lines n = n

abbrev pub blank_end : List (List Piece) → ℕ
blank_end [] = 0
blank_end (line ∷ lines) = if_blank line (without_blank_end lines) (blank_end lines)

module _ (expansion : Expansion) where
  -- up to rest these texts and interpolations stand in a row
  abbrev pub ArePieces : List Piece → List Word → List Word → Type 0
  ArePieces [] words rest = words ≡ rest
  ArePieces (text t ∷ ps) words rest = (a : List Word) × Begins Text t words a × ArePieces ps a rest
  ArePieces (interpolation e ∷ ps) words rest =
      (a b c : List Word) × Mark InterpolationStart words a × IsExpression expansion e a b × Mark InterpolationEnd b c × ArePieces ps c rest

  -- Up to rest these lines stand, and then their indentation ends. The last may lack its end if it isn't blank.
  abbrev pub AreLines : List (List Piece) → List Word → List Word → Type 0
  AreLines [] words rest = Mark Dedent words rest
  AreLines (line ∷ lines) words rest =
      (a : List Word) × ArePieces line words a × (((b : List Word) × Mark Eol a b × AreLines lines b rest) ⊎ ((line ≢ []) × (lines ≡ []) × Mark Dedent a rest))

  -- Up to rest a body stands, perhaps after blank lines. Its last blank lines, so many, belong to the file.
  pub record IsIndented (body : List (List Piece)) (blanks : ℕ) (words rest : List Word) : Type 0 where
    pub inside : List Word
    pub lines : List (List Piece)
    pub opens : Mark Indent (behind_blank_lines words) inside
    pub stand : AreLines lines inside rest
    pub kept : body ≡ without_blank_end lines
    pub left : blanks ≡ blank_end lines

  -- up to rest there is a body, or nothing where no body stands
  abbrev pub IsBody : List (List Piece) → ℕ → List Word → List Word → Type 0
  IsBody body blanks words rest = IsIndented body blanks words rest ⊎ ((body ≡ []) × (blanks ≡ 0) × (words ≡ rest) × Lacks Indent (behind_blank_lines words))
