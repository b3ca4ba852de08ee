-- The words of printed lines are their tokens.
use Rattle.std.proofs.Common.{◌≡◌, ℕ, zero, suc, Bool, true, false, ◌&&◌, List, [], ◌∷◌, ◌++◌, Option, Some, None, refl}
use Rattle.std.specs.Prelude.{codes, not}
use Rattle.std.specs.List.{list_all}
use Rattle.std.proofs.lemmas.Bool.{and_parts}
use Rattle.just_text.specs.Tokens.{Word}
use Rattle.just_text.specs.declared.delimiter.Delimiter.TheVariants.{Bracket, Paren}
use Rattle.just_text.specs.declared.token_kind.TokenKind.TheVariants.{BracketL, BracketR, ColonEquals, Identifier, QuestionMark, StringToken}
use Rattle.just_lexer.specs.Classes.{first, is_blank}
use Rattle.just_lexer.specs.declared.mode.Open.TheVariants.{Bracket as BracketOpen}
use Rattle.just_lexer.specs.Modes.{Mode}
use Rattle.tree_expressions.specs.Shape.{Shape}
use Rattle.tree_attributes.specs.Settings.{ValueShape, truth, expression, interpreter, string, SetShape}
use Rattle.tree_items.specs.Items.{AliasShape, AssignmentShape, FunctionShape, ImportShape, ModuleShape}
use Rattle.justfile_syntax.specs.Words.{LexesFrom, joined}
use Rattle.justfile_syntax.specs.Fits.{is_lexeme, keeps_apart, fits_code}
use Rattle.justfile_syntax.specs.Table.{is_break}
use Rattle.justfile_syntax.specs.InCode.{is_code, within}
use Rattle.justfile_syntax.specs.Lines.{at_line, in_line, begins_line}
use Rattle.justfile_syntax.proofs.Lines.{lines_begin, lines_end, empty_lines}
use Rattle.justfile_syntax.proofs.InCode.{brackets_open, brackets_close, within_is_code}
use Rattle.justfile_syntax.proofs.Table.{breaks_keep_apart}
use Rattle.laws_printing.specs.Printing.Words.{word, space, open_paren, close_paren, comma, words_of}
use Rattle.laws_printing.specs.Printing.Lexed.{is_written}
use Rattle.laws_printing.specs.Printing.ItemWords.{newline, if_there, path_words, assigned, alias_words, keyword_words, assignment_words, import_words}
use Rattle.laws_printing.specs.Printing.LinesLexed.{are_names}
use Rattle.laws_printing.specs.Printing.MoreItems.{unexport_words, file_words, module_words, other_names, names_words, function_words, other_elements, value_words, set_words}
use Rattle.laws_printing.proofs.Printing.Lexed.{on_word, apart_break, marked, spaced, name_first, not_blank, first_byte, string_first, lexed}
use Rattle.laws_printing.proofs.Printing.LinesLexed.{path_lexed, path_first}
use Rattle.laws_printing.specs.Formatting.FileWords.{blank_words}
use Rattle.laws_printing.specs.Formatting.Written.{is_name, is_string, if_there_written, is_value_written}

pub all_so : (a b : Bool) → a ≡ true → b ≡ true → a && b ≡ true
all_so true b p q = q
all_so false b p q = cc

-- ---- the first word of a line

pub begins_with : (may : Bool) (to : Mode) (w : Word) (ws : List Word) (rest : List ℕ) → begins_line w.kind ≡ true → fits_code None w (joined ws rest) ≡ true → LexesFrom (in_line false) ws rest to → LexesFrom (at_line may) (w ∷ ws) rest to
begins_with may to w ws rest b f l = on_word (at_line may) (in_line false) to w ws rest (lines_begin may w (joined ws rest) b f) l

-- a name before a byte that no word goes on with
pub name_begins : (may : Bool) (to : Mode) (name : List ℕ) (ws : List Word) (rest : List ℕ) → is_name name ≡ true → is_break (first (joined ws rest)) ≡ true → LexesFrom (in_line false) ws rest to → LexesFrom (at_line may) (word Identifier name ∷ ws) rest to
name_begins may to name ws rest is b l =
    begins_with may to (word Identifier name) ws rest refl (all_so (is_lexeme None Identifier name) (keeps_apart Identifier name (joined ws rest)) is (breaks_keep_apart None Identifier name (joined ws rest) refl is b)) l

-- a name in a line
pub named : (m to : Mode) (name : List ℕ) (ws : List Word) (rest : List ℕ) → is_code m ≡ true → is_name name ≡ true → is_break (first (joined ws rest)) ≡ true → LexesFrom m ws rest to → LexesFrom m (word Identifier name ∷ ws) rest to
named m to name ws rest there is b l = marked m to (word Identifier name) ws rest there refl is b l

pub name_not_blank : (name rest : List ℕ) → is_name name ≡ true → not (is_blank (first (name ++ rest))) ≡ true
name_not_blank name rest is = not_blank (first (name ++ rest)) (name_first name rest is)

-- a space and a name
spaced_name : (m to : Mode) (name : List ℕ) (ws : List Word) (rest : List ℕ) → is_code m ≡ true → is_name name ≡ true → is_break (first (joined ws rest)) ≡ true → LexesFrom m ws rest to → LexesFrom m (space ∷ word Identifier name ∷ ws) rest to
spaced_name m to name ws rest there is b l = spaced m to (word Identifier name ∷ ws) rest there (name_not_blank name (joined ws rest) is) (named m to name ws rest there is b l)

-- an expression before a byte that no expression goes on with
pub expressed : (m to : Mode) (e : Shape) (ws : List Word) (rest : List ℕ) → is_code m ≡ true → is_written e ≡ true → is_break (first (joined ws rest)) ≡ true → LexesFrom m ws rest to → LexesFrom m (words_of e ws) rest to
expressed m to e ws rest there w b l = lexed m to e ws rest there w (apart_break (joined ws rest) b) l

-- ` := ` before what is not white space
assigned_lexed : (m to : Mode) (ws : List Word) (rest : List ℕ) → is_code m ≡ true → not (is_blank (first (joined ws rest))) ≡ true → LexesFrom m ws rest to → LexesFrom m (assigned ws) rest to
assigned_lexed m to ws rest there n l =
    spaced m to (word ColonEquals (codes ":=") ∷ space ∷ ws) rest there refl (marked m to (word ColonEquals (codes ":=")) (space ∷ ws) rest there refl refl refl (spaced m to ws rest there n l))

assigned_expression : (m to : Mode) (e : Shape) (ws : List Word) (rest : List ℕ) → is_code m ≡ true → is_written e ≡ true → is_break (first (joined ws rest)) ≡ true → LexesFrom m ws rest to → LexesFrom m (assigned (words_of e ws)) rest to
assigned_expression m to e ws rest there w b l =
    assigned_lexed m to (words_of e ws) rest there (not_blank (first (joined (words_of e ws) rest)) (first_byte e ws rest w)) (expressed m to e ws rest there w b l)

-- a string before such a byte
pub string_lexed : (m to : Mode) (s : List ℕ) (ws : List Word) (rest : List ℕ) → is_code m ≡ true → is_string s ≡ true → is_break (first (joined ws rest)) ≡ true → LexesFrom m ws rest to → LexesFrom m (word StringToken s ∷ ws) rest to
string_lexed m to s ws rest there is b l = marked m to (word StringToken s) ws rest there refl is b l

pub string_not_blank : (s rest : List ℕ) → is_string s ≡ true → not (is_blank (first (s ++ rest))) ≡ true
string_not_blank s rest is = not_blank (first (s ++ rest)) (string_first s rest is)

pub spaced_string : (m to : Mode) (s : List ℕ) (ws : List Word) (rest : List ℕ) → is_code m ≡ true → is_string s ≡ true → is_break (first (joined ws rest)) ≡ true → LexesFrom m ws rest to → LexesFrom m (space ∷ word StringToken s ∷ ws) rest to
spaced_string m to s ws rest there is b l = spaced m to (word StringToken s ∷ ws) rest there (string_not_blank s (joined ws rest) is) (string_lexed m to s ws rest there is b l)

-- ---- the ends of lines

abbrev pub Leads : List Word → List ℕ → Mode → Type 0
Leads ws rest to = (may : Bool) → LexesFrom (at_line may) ws rest to

pub blanks_lexed : (n : ℕ) (after : List Word) (rest : List ℕ) (to : Mode) → Leads after rest to → Leads (blank_words n after) rest to
blanks_lexed zero after rest to l may = l may
blanks_lexed (suc n) after rest to l may = on_word (at_line may) (at_line may) to newline (blank_words n after) rest (empty_lines may (codes "\n") (joined (blank_words n after) rest) refl) (blanks_lexed n after rest to l may)

pub line_ended : (may : Bool) (after : List Word) (rest : List ℕ) (to : Mode) → LexesFrom (at_line may) after rest to → LexesFrom (in_line may) (newline ∷ after) rest to
line_ended may after rest to l = on_word (in_line may) (at_line may) to newline after rest (lines_end may (codes "\n") (joined after rest) refl) l

-- ---- items

pub alias_line : (may : Bool) (to : Mode) (a : AliasShape) (after : List Word) (rest : List ℕ) → is_name a.name && are_names a.target ≡ true → LexesFrom (at_line false) after rest to → LexesFrom (at_line may) (alias_words a (newline ∷ after)) rest to
alias_line may to a after rest w l =
    let p = and_parts (is_name a.name) (are_names a.target) w in
    let m = in_line false in
    let ps = path_words a.target (newline ∷ after) in
    let path = path_lexed m to a.target (newline ∷ after) rest refl p.1 refl (line_ended false after rest to l) in
    name_begins may to (codes "alias") (space ∷ word Identifier a.name ∷ assigned ps) rest refl refl
    (spaced_name m to a.name (assigned ps) rest refl p.0 refl (assigned_lexed m to ps rest refl (path_first a.target (newline ∷ after) rest p.1 refl) path))

-- the words before an assignment's name
keywords_lexed : (may export eager : Bool) (to : Mode) (name : List ℕ) (ws : List Word) (rest : List ℕ) → is_name name ≡ true → is_break (first (joined ws rest)) ≡ true → LexesFrom (in_line false) ws rest to
    → LexesFrom (at_line may) (keyword_words export (codes "export") (keyword_words eager (codes "eager") (word Identifier name ∷ ws))) rest to
keywords_lexed may false false to name ws rest n b l = name_begins may to name ws rest n b l
keywords_lexed may true false to name ws rest n b l = name_begins may to (codes "export") (space ∷ word Identifier name ∷ ws) rest refl refl (spaced_name (in_line false) to name ws rest refl n b l)
keywords_lexed may false true to name ws rest n b l = name_begins may to (codes "eager") (space ∷ word Identifier name ∷ ws) rest refl refl (spaced_name (in_line false) to name ws rest refl n b l)
keywords_lexed may true true to name ws rest n b l =
    let m = in_line false in
    let ns = space ∷ word Identifier name ∷ ws in
    name_begins may to (codes "export") (space ∷ word Identifier (codes "eager") ∷ ns) rest refl refl (spaced_name m to (codes "eager") ns rest refl refl refl (spaced_name m to name ws rest refl n b l))

pub assignment_line : (may : Bool) (to : Mode) (a : AssignmentShape) (after : List Word) (rest : List ℕ) → is_name a.name && is_written a.value ≡ true → LexesFrom (at_line false) after rest to → LexesFrom (at_line may) (assignment_words a (newline ∷ after)) rest to
assignment_line may to a after rest w l =
    let p = and_parts (is_name a.name) (is_written a.value) w in
    keywords_lexed may a.export a.eager to a.name (assigned (words_of a.value (newline ∷ after))) rest p.0 refl (assigned_expression (in_line false) to a.value (newline ∷ after) rest refl p.1 refl (line_ended false after rest to l))

-- a keyword, perhaps `?`, and then a space
optional_lexed : (may b : Bool) (to : Mode) (keyword : List ℕ) (ws : List Word) (rest : List ℕ) → is_name keyword ≡ true → LexesFrom (in_line false) (space ∷ ws) rest to → LexesFrom (at_line may) (word Identifier keyword ∷ if_there b (word QuestionMark (codes "?")) (space ∷ ws)) rest to
optional_lexed may true to keyword ws rest k l = name_begins may to keyword (word QuestionMark (codes "?") ∷ space ∷ ws) rest k refl (marked (in_line false) to (word QuestionMark (codes "?")) (space ∷ ws) rest refl refl refl refl l)
optional_lexed may false to keyword ws rest k l = name_begins may to keyword (space ∷ ws) rest k refl l

pub import_line : (may : Bool) (to : Mode) (i : ImportShape) (after : List Word) (rest : List ℕ) → is_string i.path ≡ true → LexesFrom (at_line false) after rest to → LexesFrom (at_line may) (import_words i (newline ∷ after)) rest to
import_line may to i after rest w l = optional_lexed may i.optional to (codes "import") (word StringToken i.path ∷ newline ∷ after) rest refl (spaced_string (in_line false) to i.path (newline ∷ after) rest refl w refl (line_ended false after rest to l))

pub unexport_line : (may : Bool) (to : Mode) (name : List ℕ) (after : List Word) (rest : List ℕ) → is_name name ≡ true → LexesFrom (at_line false) after rest to → LexesFrom (at_line may) (unexport_words name (newline ∷ after)) rest to
unexport_line may to name after rest w l = name_begins may to (codes "unexport") (space ∷ word Identifier name ∷ newline ∷ after) rest refl refl (spaced_name (in_line false) to name (newline ∷ after) rest refl w refl (line_ended false after rest to l))

file_first : (path : Option (List ℕ)) (after : List Word) (rest : List ℕ) → is_break (first (joined (file_words path (newline ∷ after)) rest)) ≡ true
file_first None after rest = refl
file_first (Some path) after rest = refl

file_lexed : (to : Mode) (path : Option (List ℕ)) (after : List Word) (rest : List ℕ) → if_there_written is_string path ≡ true → LexesFrom (at_line false) after rest to → LexesFrom (in_line false) (file_words path (newline ∷ after)) rest to
file_lexed to None after rest w l = line_ended false after rest to l
file_lexed to (Some path) after rest w l = spaced_string (in_line false) to path (newline ∷ after) rest refl w refl (line_ended false after rest to l)

pub module_line : (may : Bool) (to : Mode) (m : ModuleShape) (after : List Word) (rest : List ℕ) → is_name m.name && if_there_written is_string m.path ≡ true → LexesFrom (at_line false) after rest to → LexesFrom (at_line may) (module_words m (newline ∷ after)) rest to
module_line may to m after rest w l =
    let p = and_parts (is_name m.name) (if_there_written is_string m.path) w in
    let fs = file_words m.path (newline ∷ after) in
    optional_lexed may m.optional to (codes "mod") (word Identifier m.name ∷ fs) rest refl (spaced_name (in_line false) to m.name fs rest refl p.0 (file_first m.path after rest) (file_lexed to m.path after rest p.1 l))

-- ---- rows in brackets

-- a comma and a space before what is not white space
pub comma_lexed : (m to : Mode) (ws : List Word) (rest : List ℕ) → is_code m ≡ true → not (is_blank (first (joined ws rest))) ≡ true → LexesFrom m ws rest to → LexesFrom m (comma ∷ space ∷ ws) rest to
comma_lexed m to ws rest there n l = marked m to comma (space ∷ ws) rest there refl refl refl (spaced m to ws rest there n l)

pub paren_opens : (m to : Mode) (ws : List Word) (rest : List ℕ) → is_code m ≡ true → LexesFrom (within m (BracketOpen Paren)) ws rest to → LexesFrom m (open_paren ∷ ws) rest to
paren_opens m to ws rest there l = on_word m (within m (BracketOpen Paren)) to open_paren ws rest (brackets_open m Paren (joined ws rest) there) l

pub paren_closes : (m to : Mode) (ws : List Word) (rest : List ℕ) → is_code m ≡ true → LexesFrom m ws rest to → LexesFrom (within m (BracketOpen Paren)) (close_paren ∷ ws) rest to
paren_closes m to ws rest there l = on_word (within m (BracketOpen Paren)) m to close_paren ws rest (brackets_close m Paren (joined ws rest) there) l

bracket_opens : (m to : Mode) (ws : List Word) (rest : List ℕ) → is_code m ≡ true → LexesFrom (within m (BracketOpen Bracket)) ws rest to → LexesFrom m (word BracketL (codes "[") ∷ ws) rest to
bracket_opens m to ws rest there l = on_word m (within m (BracketOpen Bracket)) to (word BracketL (codes "[")) ws rest (brackets_open m Bracket (joined ws rest) there) l

pub bracket_closes : (m to : Mode) (ws : List Word) (rest : List ℕ) → is_code m ≡ true → LexesFrom m ws rest to → LexesFrom (within m (BracketOpen Bracket)) (word BracketR (codes "]") ∷ ws) rest to
bracket_closes m to ws rest there l = on_word (within m (BracketOpen Bracket)) m to (word BracketR (codes "]")) ws rest (brackets_close m Bracket (joined ws rest) there) l

names_break : (names : List (List ℕ)) (after : List Word) (rest : List ℕ) → is_break (first (joined (other_names names after) rest)) ≡ true
names_break [] after rest = refl
names_break (name ∷ names) after rest = refl

other_names_lexed : (m to : Mode) (names : List (List ℕ)) (after : List Word) (rest : List ℕ) → is_code m ≡ true → are_names names ≡ true → LexesFrom m after rest to → LexesFrom (within m (BracketOpen Paren)) (other_names names after) rest to
other_names_lexed m to [] after rest there w l = paren_closes m to after rest there l
other_names_lexed m to (name ∷ names) after rest there w l =
    let p = and_parts (is_name name) (are_names names) w in
    let inner = within m (BracketOpen Paren) in
    let code = within_is_code m (BracketOpen Paren) there in
    let ns = other_names names after in
    comma_lexed inner to (word Identifier name ∷ ns) rest code (name_not_blank name (joined ns rest) p.0) (named inner to name ns rest code p.0 (names_break names after rest) (other_names_lexed m to names after rest there p.1 l))

names_lexed : (m to : Mode) (names : List (List ℕ)) (after : List Word) (rest : List ℕ) → is_code m ≡ true → are_names names ≡ true → LexesFrom m after rest to → LexesFrom (within m (BracketOpen Paren)) (names_words names after) rest to
names_lexed m to [] after rest there w l = paren_closes m to after rest there l
names_lexed m to (name ∷ names) after rest there w l =
    let p = and_parts (is_name name) (are_names names) w in
    let inner = within m (BracketOpen Paren) in
    named inner to name (other_names names after) rest (within_is_code m (BracketOpen Paren) there) p.0 (names_break names after rest) (other_names_lexed m to names after rest there p.1 l)

pub function_line : (may : Bool) (to : Mode) (f : FunctionShape) (after : List Word) (rest : List ℕ) → is_name f.name && are_names f.parameters && is_written f.body ≡ true → LexesFrom (at_line false) after rest to → LexesFrom (at_line may) (function_words f (newline ∷ after)) rest to
function_line may to f after rest w l =
    let p = and_parts (is_name f.name && are_names f.parameters) (is_written f.body) w in
    let q = and_parts (is_name f.name) (are_names f.parameters) p.0 in
    let m = in_line false in
    let body = assigned (words_of f.body (newline ∷ after)) in
    let ns = names_words f.parameters body in
    name_begins may to f.name (open_paren ∷ ns) rest q.0 refl (paren_opens m to ns rest refl (names_lexed m to f.parameters body rest refl q.1 (assigned_expression m to f.body (newline ∷ after) rest refl p.1 refl (line_ended false after rest to l))))

elements_break : (es : List Shape) (after : List Word) (rest : List ℕ) → is_break (first (joined (other_elements es after) rest)) ≡ true
elements_break [] after rest = refl
elements_break (e ∷ es) after rest = refl

elements_lexed : (m to : Mode) (es : List Shape) (after : List Word) (rest : List ℕ) → is_code m ≡ true → list_all is_written es ≡ true → LexesFrom m after rest to → LexesFrom (within m (BracketOpen Bracket)) (other_elements es after) rest to
elements_lexed m to [] after rest there w l = bracket_closes m to after rest there l
elements_lexed m to (e ∷ es) after rest there w l =
    let p = and_parts (is_written e) (list_all is_written es) w in
    let inner = within m (BracketOpen Bracket) in
    let code = within_is_code m (BracketOpen Bracket) there in
    let os = other_elements es after in
    comma_lexed inner to (words_of e os) rest code (not_blank (first (joined (words_of e os) rest)) (first_byte e os rest p.0)) (expressed inner to e os rest code p.0 (elements_break es after rest) (elements_lexed m to es after rest there p.1 l))

value_first : (v : ValueShape) (after : List Word) (rest : List ℕ) → is_value_written v ≡ true → not (is_blank (first (joined (value_words v after) rest))) ≡ true
value_first (truth true) after rest w = refl
value_first (truth false) after rest w = refl
value_first (expression e) after rest w = not_blank (first (joined (words_of e after) rest)) (first_byte e after rest w)
value_first (interpreter i) after rest w = refl
value_first (string s) after rest w = string_not_blank s (joined after rest) w

value_lexed : (m to : Mode) (v : ValueShape) (after : List Word) (rest : List ℕ) → is_code m ≡ true → is_value_written v ≡ true → is_break (first (joined after rest)) ≡ true → LexesFrom m after rest to → LexesFrom m (value_words v after) rest to
value_lexed m to (truth true) after rest there w b l = named m to (codes "true") after rest there refl b l
value_lexed m to (truth false) after rest there w b l = named m to (codes "false") after rest there refl b l
value_lexed m to (expression e) after rest there w b l = expressed m to e after rest there w b l
value_lexed m to (string s) after rest there w b l = string_lexed m to s after rest there w b l
value_lexed m to (interpreter i) after rest there w b l =
    let p = and_parts (is_written i.command) (list_all is_written i.arguments) w in
    let inner = within m (BracketOpen Bracket) in
    let os = other_elements i.arguments after in
    bracket_opens m to (words_of i.command os) rest there (expressed inner to i.command os rest (within_is_code m (BracketOpen Bracket) there) p.0 (elements_break i.arguments after rest) (elements_lexed m to i.arguments after rest there p.1 l))

pub set_line : (may : Bool) (to : Mode) (s : SetShape) (after : List Word) (rest : List ℕ) → is_name s.name && is_value_written s.value ≡ true → LexesFrom (at_line false) after rest to → LexesFrom (at_line may) (set_words s (newline ∷ after)) rest to
set_line may to s after rest w l =
    let p = and_parts (is_name s.name) (is_value_written s.value) w in
    let m = in_line false in
    let vs = value_words s.value (newline ∷ after) in
    name_begins may to (codes "set") (space ∷ word Identifier s.name ∷ assigned vs) rest refl refl
    (spaced_name m to s.name (assigned vs) rest refl p.0 refl (assigned_lexed m to vs rest refl (value_first s.value (newline ∷ after) rest p.1) (value_lexed m to s.value (newline ∷ after) rest refl p.1 refl (line_ended false after rest to l))))
