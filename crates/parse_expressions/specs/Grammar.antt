-- The grammar of expressions, by cases on the tree.
use Rattle.std.specs.Prelude.{ℕ, suc, max, ◌≡◌, ◌≢◌, ◌<◌, ◌≤◌, ◌⊎◌, Bool, true, false, List}
use Rattle.just_text.specs.Tokens.{Word}
use Rattle.just_text.specs.declared.token_kind.TokenKind.{TokenKind}
use Rattle.just_text.specs.declared.token_kind.TokenKind.TheVariants.{Backtick, Bang, BraceL, BraceR, BracketL, BracketR, Comma, FormatStringContinue, FormatStringEnd, FormatStringStart, Identifier, ParenL, ParenR, Slash, StringToken}
use Rattle.tree_expressions.specs.declared.string_kind.StringKind.{StringKind}
use Rattle.tree_expressions.specs.Kinds.{kind_of}
use Rattle.tree_expressions.specs.Operators.{Binary}
use Rattle.tree_expressions.specs.Shape.{Shape, Shapes, Interpolations, literal, command, format, variable, call, assertion, assertion_alone, group, listing, choice, choice_alone, negation, rooted, binary, end, more, closed, interpolation}
use Rattle.parse_expressions.specs.Words.{Begins, Mark, Lacks, LacksKeyword, if_keyword, else_keyword, assert_keyword}
use Rattle.parse_expressions.specs.Operators.{sign, rank, left_rank, right_rank, rank_of}
use Rattle.parse_expressions.specs.Literals.{Expansion, Cooks, PartCooks, is_script, is_open}

-- The expression may stand where rank k is allowed, and no operator follows that would take it as its left side there:
-- an expression takes as many words as it can.
pub record May (k : ℕ) (e : Shape) (rest : List Word) : Type 0 where
  pub binds : rank_of e ≤ k
  pub stops : (operator : Binary) → rank_of e < rank operator → rank operator ≤ k → Lacks (sign operator) rest

-- a whole expression may stand here
abbrev pub MayStand : Shape → List Word → Type 0
MayStand e rest = May 6 e rest

-- a conditional
abbrev pub IsChoice : Shape → Type 0
IsChoice (choice c t o) = Unit {0}
IsChoice (choice_alone c t) = Unit {0}
IsChoice e = ⊥

abbrev pub has_interpolations : Interpolations → Bool
has_interpolations closed = false
has_interpolations (interpolation e part hs) = true

-- the kind of the part before these interpolations
abbrev pub part_kind : Interpolations → TokenKind
part_kind closed = FormatStringEnd
part_kind (interpolation e part hs) = FormatStringContinue

-- up to rest there is the closing mark, perhaps after a comma
abbrev pub Closes : TokenKind → List Word → List Word → Type 0
Closes close words rest = Mark close words rest ⊎ ((a : List Word) × Mark Comma words a × Mark close a rest)

-- an expression in braces, where the first argument says what words spell it
abbrev pub IsBraced : (List Word → List Word → Type 0) → Shape → List Word → List Word → Type 0
IsBraced Spells e words rest = (a b : List Word) × Mark BraceL words a × Spells a b × MayStand e b × Mark BraceR b rest

module _ (expansion : Expansion) where
  abbrev mutual
    -- The words up to rest spell the expression.
    pub Is : Shape → List Word → List Word → Type 0
    Is (literal s) words rest = Begins StringToken s words rest × Cooks expansion s
    Is (command s) words rest = Begins Backtick s words rest × (is_script s ≡ false)
    Is (format s hs) words rest = (a : List Word) × Begins FormatStringStart s words a × PartCooks (kind_of s) s × (is_open s ≡ has_interpolations hs) × AreInterpolations (kind_of s) hs a rest
    -- a name before a parenthesis is a call
    Is (variable x) words rest = Begins Identifier x words rest × (x ≢ if_keyword) × Lacks ParenL rest
    Is (call f es) words rest = (a b : List Word) × Begins Identifier f words a × (f ≢ if_keyword) × (f ≢ assert_keyword) × Mark ParenL a b × AreAll es ParenR b rest
    Is (assertion c m) words rest =
        (a b d f g : List Word) × Begins Identifier assert_keyword words a × Mark ParenL a b × Is c b d × MayStand c d × Mark Comma d f × Is m f g × MayStand m g × Closes ParenR g rest
    Is (assertion_alone c) words rest = (a b d : List Word) × Begins Identifier assert_keyword words a × Mark ParenL a b × Is c b d × MayStand c d × Closes ParenR d rest
    Is (group e) words rest = (a b : List Word) × Mark ParenL words a × Is e a b × MayStand e b × Mark ParenR b rest
    Is (listing es) words rest = (a : List Word) × Mark BracketL words a × AreAll es BracketR a rest
    -- another conditional after `else` may go without braces
    Is (choice c t o) words rest =
        (a b g : List Word) × Begins Identifier if_keyword words a × Is c a b × MayStand c b × IsBraced (Is t) t b g
        × ((h : List Word) × Begins Identifier else_keyword g h × (IsBraced (Is o) o h rest ⊎ (IsChoice o × Is o h rest)))
    -- an `else` after it would belong to it
    Is (choice_alone c t) words rest = (a b : List Word) × Begins Identifier if_keyword words a × Is c a b × MayStand c b × IsBraced (Is t) t b rest × LacksKeyword else_keyword rest
    Is (negation e) words rest = (a : List Word) × Mark Bang words a × Is e a rest × May 1 e rest
    Is (rooted e) words rest = (a : List Word) × Mark Slash words a × Is e a rest × May 2 e rest
    Is (binary operator l r) words rest =
        (a b : List Word) × Is l words a × May (left_rank operator) l a × Mark (sign operator) a b × Is r b rest × May (right_rank operator) r rest

    -- expressions up to a closing mark, a comma after each, which the last may lack
    pub AreAll : Shapes → TokenKind → List Word → List Word → Type 0
    AreAll end close words rest = Mark close words rest
    AreAll (more e es) close words rest = (a : List Word) × Is e words a × MayStand e a
        × (((b : List Word) × Mark Comma a b × AreAll es close b rest) ⊎ ((es ≡ end) × Mark close a rest))

    -- interpolations of a format string of this kind, each with the part after it
    pub AreInterpolations : StringKind → Interpolations → List Word → List Word → Type 0
    AreInterpolations kind closed words rest = words ≡ rest
    AreInterpolations kind (interpolation e part hs) words rest = (a b : List Word) × Is e words a × MayStand e a × Begins (part_kind hs) part a b × PartCooks kind part × AreInterpolations kind hs b rest

-- how deep expressions nest: what stands in brackets, braces or a string is one deeper, and so are a condition, an operand and a right side
abbrev mutual
  pub depth : Shape → ℕ
  depth (literal s) = 1
  depth (command s) = 1
  depth (format s hs) = suc (depth_interpolations hs)
  depth (variable x) = 1
  depth (call f es) = suc (depth_all es)
  depth (assertion c m) = suc (max (depth c) (depth m))
  depth (assertion_alone c) = suc (depth c)
  depth (group e) = suc (depth e)
  depth (listing es) = suc (depth_all es)
  depth (choice c t o) = suc (max (depth c) (max (depth t) (depth o)))
  depth (choice_alone c t) = suc (max (depth c) (depth t))
  depth (negation e) = suc (depth e)
  depth (rooted e) = suc (depth e)
  depth (binary operator l r) = max (depth l) (suc (depth r))

  pub depth_all : Shapes → ℕ
  depth_all end = 0
  depth_all (more e es) = max (depth e) (depth_all es)

  pub depth_interpolations : Interpolations → ℕ
  depth_interpolations closed = 0
  depth_interpolations (interpolation e part hs) = max (depth e) (depth_interpolations hs)

-- The words up to rest spell the expression, which may stand where rank k is allowed and nests at most so many levels deep.
pub record Derives (expansion : Expansion) (levels k : ℕ) (words : List Word) (e : Shape) (rest : List Word) : Type 0 where
  pub is : Is expansion e words rest
  pub may : May k e rest
  pub fits : depth e ≤ levels
