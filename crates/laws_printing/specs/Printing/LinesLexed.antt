-- When the words of printed lines are their tokens.
use Rattle.std.specs.Prelude.{◌≡◌, ℕ, Bool, true, false, ◌&&◌, List, [], ◌∷◌, None}
use Rattle.just_text.specs.Tokens.{Word}
use Rattle.just_text.specs.declared.token_kind.TokenKind.TheVariants.{Identifier}
use Rattle.just_lexer.specs.declared.mode.Indentation.{Indentation}
use Rattle.just_lexer.specs.Modes.{Mode}
use Rattle.tree_items.specs.Items.{AliasShape}
use Rattle.tree_expressions.specs.Shape.{Shape}
use Rattle.justfile_syntax.specs.Words.{LexesFrom}
use Rattle.justfile_syntax.specs.Fits.{is_lexeme}
use Rattle.justfile_syntax.specs.Lines.{at_line}
use Rattle.justfile_syntax.specs.WholeBodies.{ExpressionFits}
use Rattle.laws_printing.specs.Printing.Words.{space, words_of}
use Rattle.laws_printing.specs.Printing.Lexed.{is_written}
use Rattle.laws_printing.specs.Printing.ItemWords.{newline, alias_words}

abbrev pub are_names : List (List ℕ) → Bool
are_names [] = true
are_names (name ∷ names) = is_lexeme None Identifier name && are_names names

-- an alias leads from a line's start to the next
abbrev pub AliasesLex : Type 0
AliasesLex = (may : Bool) (to : Mode) (a : AliasShape) (after : List Word) (rest : List ℕ) → is_lexeme None Identifier a.name ≡ true → are_names a.target ≡ true → LexesFrom (at_line false) after rest to → LexesFrom (at_line may) (alias_words a (newline ∷ after)) rest to

-- a printed expression fits between the braces of a body's line
abbrev pub InterpolationsFit : Type 0
InterpolationsFit = (i : Indentation) (e : Shape) → is_written e ≡ true → ExpressionFits i (space ∷ words_of e (space ∷ []))
