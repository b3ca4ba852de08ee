-- Printed lines are their tokens.
use Rattle.std.proofs.Common.{◌≡◌, ℕ, Bool, true, false, List, [], ◌∷◌, ◌++◌, None, refl}
use Rattle.std.specs.Prelude.{codes, not}
use Rattle.std.proofs.lemmas.Bool.{and_parts}
use Rattle.just_text.specs.Tokens.{Word}
use Rattle.just_text.specs.declared.token_kind.TokenKind.TheVariants.{ColonColon, ColonEquals, Identifier}
use Rattle.just_lexer.specs.Classes.{first}
use Rattle.just_lexer.specs.declared.mode.Indentation.{Indentation}
use Rattle.just_lexer.specs.Modes.{Mode}
use Rattle.tree_items.specs.Items.{AliasShape}
use Rattle.tree_expressions.specs.Shape.{Shape}
use Rattle.parse_items.specs.Keywords.{alias_keyword}
use Rattle.justfile_syntax.specs.Words.{LexesFrom, joined}
use Rattle.justfile_syntax.specs.Fits.{is_lexeme}
use Rattle.justfile_syntax.specs.Table.{is_break}
use Rattle.justfile_syntax.specs.InCode.{is_code}
use Rattle.justfile_syntax.specs.Lines.{at_line, in_line}
use Rattle.justfile_syntax.specs.Bodies.{in_expression}
use Rattle.justfile_syntax.specs.WholeBodies.{ExpressionFits}
use Rattle.justfile_syntax.proofs.Lines.{lines_begin, lines_end}
use Rattle.justfile_syntax.proofs.Beside.{leads_to_next, spaces_lead_on}
use Rattle.laws_printing.specs.Printing.Words.{word, space, words_of}
use Rattle.laws_printing.specs.Printing.Lexed.{is_written}
use Rattle.laws_printing.specs.Printing.ItemWords.{newline, path_words, alias_words}
use Rattle.laws_printing.specs.Printing.LinesLexed.{are_names}
use Rattle.laws_printing.proofs.Printing.Lexed.{on_word, ending, marked, spaced, spaced_expression, name_first, not_blank, apart_break, lexed}

-- names with `::` between two, before what no name goes on with
pub path_lexed : (m to : Mode) (names : List (List ℕ)) (after : List Word) (rest : List ℕ) → is_code m ≡ true → are_names names ≡ true → is_break (first (joined after rest)) ≡ true → LexesFrom m after rest to → LexesFrom m (path_words names after) rest to
path_lexed m to [] after rest there n b l = l
path_lexed m to (name ∷ []) after rest there n b l = marked m to (word Identifier name) after rest there refl (and_parts (is_lexeme None Identifier name) true n).0 b l
path_lexed m to (name ∷ next ∷ names) after rest there n b l =
    let p = and_parts (is_lexeme None Identifier name) (are_names (next ∷ names)) n in
    let ws = path_words (next ∷ names) after in
    let others = path_lexed m to (next ∷ names) after rest there p.1 b l in
    let colons = on_word m m to (word ColonColon (codes "::")) ws rest (ending m ColonColon (codes "::") (joined ws rest) there refl refl refl refl refl refl) others in
    on_word m m to (word Identifier name) (word ColonColon (codes "::") ∷ ws) rest (leads_to_next m (word Identifier name) (word ColonColon (codes "::")) None (joined ws rest) there refl p.0 refl refl refl) colons

pub path_first : (names : List (List ℕ)) (after : List Word) (rest : List ℕ) → are_names names ≡ true → not (Rattle.just_lexer.specs.Classes.is_blank (first (joined after rest))) ≡ true → not (Rattle.just_lexer.specs.Classes.is_blank (first (joined (path_words names after) rest))) ≡ true
path_first [] after rest n b = b
path_first (name ∷ []) after rest n b = not_blank (first (name ++ joined after rest)) (name_first name (joined after rest) (and_parts (is_lexeme None Identifier name) true n).0)
path_first (name ∷ next ∷ names) after rest n b = not_blank (first (name ++ joined (word ColonColon (codes "::") ∷ path_words (next ∷ names) after) rest)) (name_first name (joined (word ColonColon (codes "::") ∷ path_words (next ∷ names) after) rest) (and_parts (is_lexeme None Identifier name) (are_names (next ∷ names)) n).0)

pub alias_lexed : (may : Bool) (to : Mode) (a : AliasShape) (after : List Word) (rest : List ℕ) → is_lexeme None Identifier a.name ≡ true → are_names a.target ≡ true → LexesFrom (at_line false) after rest to → LexesFrom (at_line may) (alias_words a (newline ∷ after)) rest to
alias_lexed may to a after rest name target l =
    let m = in_line false in
    let ended = on_word m (at_line false) to newline after rest (lines_end false (codes "\n") (joined after rest) refl) l in
    let path = path_lexed m to a.target (newline ∷ after) rest refl target refl ended in
    let ps = path_words a.target (newline ∷ after) in
    let mark = marked m to (word ColonEquals (codes ":=")) (space ∷ ps) rest refl refl refl refl (spaced m to ps rest refl (path_first a.target (newline ∷ after) rest target refl) path) in
    let ms = word ColonEquals (codes ":=") ∷ space ∷ ps in
    let named = marked m to (word Identifier a.name) (space ∷ ms) rest refl refl name refl (spaced m to ms rest refl refl mark) in
    let ns = word Identifier a.name ∷ space ∷ ms in
    on_word (at_line may) m to (word Identifier alias_keyword) (space ∷ ns) rest (lines_begin may (word Identifier alias_keyword) (joined (space ∷ ns) rest) refl refl)
    (spaced m to ns rest refl (not_blank (first (a.name ++ joined (space ∷ ms) rest)) (name_first a.name (joined (space ∷ ms) rest) name)) named)

pub interpolation_fits : (i : Indentation) (e : Shape) → is_written e ≡ true → ExpressionFits i (space ∷ words_of e (space ∷ []))
interpolation_fits i e w =
    let m = in_expression i in
    record {
      lexes = λ rest.
          let last : LexesFrom m (space ∷ []) (codes "}}" ++ rest) m = spaces_lead_on m (codes "}}" ++ rest) refl refl in
          spaced_expression m m e (space ∷ []) (codes "}}" ++ rest) refl w (lexed m m e (space ∷ []) (codes "}}" ++ rest) refl w (apart_break (joined (space ∷ []) (codes "}}" ++ rest)) refl) last);
      apart = λ rest. refl;
    }
