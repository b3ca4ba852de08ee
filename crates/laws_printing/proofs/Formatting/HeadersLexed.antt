-- The words of a printed recipe's first line are their tokens.
use Rattle.std.proofs.Common.{◌≡◌, ℕ, Bool, true, false, ◌&&◌, List, [], ◌∷◌, ◌++◌, Option, Some, None, refl, arith}
use Rattle.std.specs.Prelude.{codes, not, ◌||◌, ◌==◌}
use Rattle.std.specs.List.{list_all}
use Rattle.std.proofs.lemmas.Bool.{and_parts}
use Rattle.std.proofs.lemmas.Bool.Decides.{nat_tests}
use Rattle.just_text.specs.Tokens.{Word}
use Rattle.just_text.specs.declared.delimiter.Delimiter.TheVariants.{Paren}
use Rattle.just_text.specs.declared.token_kind.TokenKind.{TokenKind}
use Rattle.just_text.specs.declared.token_kind.TokenKind.TheVariants.{AmpersandAmpersand, Asterisk, At, Backtick, Colon, Dollar, Equals, FormatStringStart, Identifier, Plus as PlusMark, StringToken}
use Rattle.just_lexer.specs.Classes.{first, is_blank}
use Rattle.just_lexer.specs.declared.mode.Open.TheVariants.{Bracket as BracketOpen}
use Rattle.just_lexer.specs.Modes.{Mode}
use Rattle.tree_expressions.specs.Shape.{Shape}
use Rattle.tree_items.specs.declared.recipe.ParameterKind.{ParameterKind}
use Rattle.tree_items.specs.declared.recipe.ParameterKind.TheVariants.{Plus, Singular, Star}
use Rattle.tree_items.specs.Recipes.{ParameterShape, ArgumentShape, DependencyShape, RecipeShape}
use Rattle.justfile_syntax.specs.Words.{LexesFrom, joined}
use Rattle.justfile_syntax.specs.Fits.{is_lexeme, keeps_apart, goes_no_further}
use Rattle.justfile_syntax.specs.Table.{is_break, may_precede, ends_well}
use Rattle.justfile_syntax.specs.InCode.{is_code, within}
use Rattle.justfile_syntax.specs.Lines.{at_line, in_line}
use Rattle.justfile_syntax.proofs.Lines.{colons_announce}
use Rattle.justfile_syntax.proofs.Beside.{leads_to_next}
use Rattle.justfile_syntax.proofs.InCode.{within_is_code}
use Rattle.justfile_syntax.proofs.Table.{table_holds}
use Rattle.laws_printing.specs.Printing.Words.{word, space, words_of}
use Rattle.laws_printing.specs.Printing.Lexed.{is_written, Apart, ends_expression}
use Rattle.laws_printing.specs.Printing.ItemWords.{newline, if_there, path_words, kind_words, default_words, parameters_words, arguments_words, called_words, dependencies_words, subsequents_words, header_words}
use Rattle.laws_printing.specs.Printing.LinesLexed.{are_names}
use Rattle.laws_printing.proofs.Printing.Lexed.{on_word, apart_break, ending, marked, spaced, spaced_expression, name_first, no_equals, first_byte, begins_expression, lexed}
use Rattle.laws_printing.proofs.Printing.LinesLexed.{path_lexed}
use Rattle.laws_printing.specs.Formatting.Written.{is_name, if_there_written, is_parameter_written, is_argument_written, is_path_written, is_dependency_written, is_header_written}
use Rattle.laws_printing.proofs.Formatting.ItemsLexed.{begins_with, name_not_blank, expressed, paren_opens, paren_closes, line_ended, all_so}

-- ---- parameters

precedes_colon : (k : TokenKind) → ends_expression k ≡ true → may_precede k Colon ≡ true
precedes_colon Backtick h = refl
precedes_colon FormatStringStart h = refl
precedes_colon Identifier h = refl
precedes_colon StringToken h = refl
precedes_colon k h = absurd cc

ends_before_colon : (k : TokenKind) (text : List ℕ) → ends_expression k ≡ true → ends_well k Colon text ≡ true
ends_before_colon Backtick text h = refl
ends_before_colon FormatStringStart text h = refl
ends_before_colon Identifier text h = refl
ends_before_colon StringToken text h = refl
ends_before_colon k text h = absurd cc

-- before a colon that is no longer mark an expression may end
apart_colon : (rest : List ℕ) → goes_no_further Colon (first rest) ≡ true → Apart (58 ∷ rest)
apart_colon rest h = record { keeps = λ k text e is. table_holds None None k Colon text (codes ":") rest (precedes_colon k e) (ends_before_colon k text e) is refl h }

parameters_apart : (ps : List ParameterShape) (ws : List Word) (rest : List ℕ) → goes_no_further Colon (first (joined ws rest)) ≡ true → Apart (joined (parameters_words ps (word Colon (codes ":") ∷ ws)) rest)
parameters_apart [] ws rest h = apart_colon (joined ws rest) h
parameters_apart (p ∷ ps) ws rest h = apart_break (joined (parameters_words (p ∷ ps) (word Colon (codes ":") ∷ ws)) rest) refl

named_apart : (m to : Mode) (name : List ℕ) (ws : List Word) (rest : List ℕ) → is_code m ≡ true → is_name name ≡ true → Apart (joined ws rest) → LexesFrom m ws rest to → LexesFrom m (word Identifier name ∷ ws) rest to
named_apart m to name ws rest there is a l = on_word m m to (word Identifier name) ws rest (ending m Identifier name (joined ws rest) there refl refl refl refl is (a.keeps Identifier name refl is)) l

-- `=` and an expression after a name
pub equals_lexed : (m to : Mode) (name : List ℕ) (ws : List Word) (rest : List ℕ) → is_code m ≡ true → is_name name ≡ true → begins_expression (first (joined ws rest)) ≡ true → LexesFrom m ws rest to → LexesFrom m (word Identifier name ∷ word Equals (codes "=") ∷ ws) rest to
equals_lexed m to name ws rest there is b l =
    let apart : keeps_apart Equals (codes "=") (joined ws rest) ≡ true = no_equals (first (joined ws rest)) b in
    on_word m m to (word Identifier name) (word Equals (codes "=") ∷ ws) rest (leads_to_next m (word Identifier name) (word Equals (codes "=")) None (joined ws rest) there refl is refl refl apart)
    (on_word m m to (word Equals (codes "=")) ws rest (ending m Equals (codes "=") (joined ws rest) there refl refl refl refl refl apart) l)

parameter_named : (m to : Mode) (name : List ℕ) (o : Option Shape) (ws : List Word) (rest : List ℕ) → is_code m ≡ true → is_name name ≡ true → if_there_written is_written o ≡ true → Apart (joined ws rest) → LexesFrom m ws rest to → LexesFrom m (word Identifier name ∷ default_words o ws) rest to
parameter_named m to name None ws rest there is w a l = named_apart m to name ws rest there is a l
parameter_named m to name (Some e) ws rest there is w a l = equals_lexed m to name (words_of e ws) rest there is (first_byte e ws rest w) (lexed m to e ws rest there w a l)

dollar_lexed : (m to : Mode) (b : Bool) (ws : List Word) (rest : List ℕ) → is_code m ≡ true → LexesFrom m ws rest to → LexesFrom m (if_there b (word Dollar (codes "$")) ws) rest to
dollar_lexed m to true ws rest there l = on_word m m to (word Dollar (codes "$")) ws rest (ending m Dollar (codes "$") (joined ws rest) there refl refl refl refl refl refl) l
dollar_lexed m to false ws rest there l = l

dollar_first : (b : Bool) (name : List ℕ) (ws : List Word) (rest : List ℕ) → is_name name ≡ true → (begins_expression (first (joined (if_there b (word Dollar (codes "$")) (word Identifier name ∷ ws)) rest)) || first (joined (if_there b (word Dollar (codes "$")) (word Identifier name ∷ ws)) rest) == 36) ≡ true
dollar_first true name ws rest is = refl
dollar_first false name ws rest is = let h = name_first name (joined ws rest) is in grind (arith, h)

no_plus : (b : ℕ) → (begins_expression b || b == 36) ≡ true → not (b == 43) ≡ true
no_plus b h = grind (arith, nat_tests, h)

kind_lexed : (m to : Mode) (kind : ParameterKind) (ws : List Word) (rest : List ℕ) → is_code m ≡ true → (begins_expression (first (joined ws rest)) || first (joined ws rest) == 36) ≡ true → LexesFrom m ws rest to → LexesFrom m (kind_words kind ws) rest to
kind_lexed m to Plus ws rest there b l = on_word m m to (word PlusMark (codes "+")) ws rest (ending m PlusMark (codes "+") (joined ws rest) there refl refl refl refl refl (no_plus (first (joined ws rest)) b)) l
kind_lexed m to Singular ws rest there b l = l
kind_lexed m to Star ws rest there b l = on_word m m to (word Asterisk (codes "*")) ws rest (ending m Asterisk (codes "*") (joined ws rest) there refl refl refl refl refl refl) l

kind_first : (kind : ParameterKind) (ws : List Word) (rest : List ℕ) → (begins_expression (first (joined ws rest)) || first (joined ws rest) == 36) ≡ true → not (is_blank (first (joined (kind_words kind ws) rest))) ≡ true
kind_first Plus ws rest h = refl
kind_first Singular ws rest h = grind (arith, nat_tests, h)
kind_first Star ws rest h = refl

parameters_lexed : (to : Mode) (ps : List ParameterShape) (ws : List Word) (rest : List ℕ) → list_all is_parameter_written ps ≡ true → goes_no_further Colon (first (joined ws rest)) ≡ true → LexesFrom (in_line true) ws rest to
    → LexesFrom (in_line false) (parameters_words ps (word Colon (codes ":") ∷ ws)) rest to
parameters_lexed to [] ws rest w h l = on_word (in_line false) (in_line true) to (word Colon (codes ":")) ws rest (colons_announce false (joined ws rest) h) l
parameters_lexed to (p ∷ ps) ws rest w h l =
    let a = and_parts (is_parameter_written p) (list_all is_parameter_written ps) w in
    let b = and_parts (is_name p.name) (if_there_written is_written p.default) a.0 in
    let m = in_line false in
    let others = parameters_words ps (word Colon (codes ":") ∷ ws) in
    let name = parameter_named m to p.name p.default others rest refl b.0 b.1 (parameters_apart ps ws rest h) (parameters_lexed to ps ws rest a.1 h l) in
    let ns = word Identifier p.name ∷ default_words p.default others in
    let starts = dollar_first p.export p.name (default_words p.default others) rest b.0 in
    let ds = if_there p.export (word Dollar (codes "$")) ns in
    spaced m to (kind_words p.kind ds) rest refl (kind_first p.kind ds rest starts) (kind_lexed m to p.kind ds rest refl starts (dollar_lexed m to p.export ns rest refl name))

-- ---- dependencies

star_lexed : (m to : Mode) (b : Bool) (e : Shape) (ws : List Word) (rest : List ℕ) → is_code m ≡ true → is_written e ≡ true → is_break (first (joined ws rest)) ≡ true → LexesFrom m ws rest to → LexesFrom m (space ∷ if_there b (word Asterisk (codes "*")) (words_of e ws)) rest to
star_lexed m to true e ws rest there w b l =
    let es = words_of e ws in
    spaced m to (word Asterisk (codes "*") ∷ es) rest there refl (on_word m m to (word Asterisk (codes "*")) es rest (ending m Asterisk (codes "*") (joined es rest) there refl refl refl refl refl refl) (expressed m to e ws rest there w b l))
star_lexed m to false e ws rest there w b l = spaced_expression m to e ws rest there w (expressed m to e ws rest there w b l)

arguments_break : (xs : List ArgumentShape) (ws : List Word) (rest : List ℕ) → is_break (first (joined (arguments_words xs ws) rest)) ≡ true
arguments_break [] ws rest = refl
arguments_break (x ∷ xs) ws rest = refl

arguments_lexed : (m to : Mode) (xs : List ArgumentShape) (ws : List Word) (rest : List ℕ) → is_code m ≡ true → list_all is_argument_written xs ≡ true → LexesFrom m ws rest to → LexesFrom (within m (BracketOpen Paren)) (arguments_words xs ws) rest to
arguments_lexed m to [] ws rest there w l = paren_closes m to ws rest there l
arguments_lexed m to (x ∷ xs) ws rest there w l =
    let a = and_parts (is_argument_written x) (list_all is_argument_written xs) w in
    star_lexed (within m (BracketOpen Paren)) to x.starred x.expression (arguments_words xs ws) rest (within_is_code m (BracketOpen Paren) there) a.0 (arguments_break xs ws rest) (arguments_lexed m to xs ws rest there a.1 l)

called_lexed : (m to : Mode) (path : List (List ℕ)) (xs : List ArgumentShape) (ws : List Word) (rest : List ℕ) → is_code m ≡ true → are_names path ≡ true → list_all is_argument_written xs ≡ true → is_break (first (joined ws rest)) ≡ true → LexesFrom m ws rest to → LexesFrom m (called_words path xs ws) rest to
called_lexed m to path [] ws rest there n w b l = path_lexed m to path ws rest there n b l
called_lexed m to path (x ∷ xs) ws rest there n w b l =
    let inner = within m (BracketOpen Paren) in
    let as' = arguments_words (x ∷ xs) ws in
    paren_opens m to (path_words path as') rest there (path_lexed inner to path as' rest (within_is_code m (BracketOpen Paren) there) n (arguments_break (x ∷ xs) ws rest) (arguments_lexed m to (x ∷ xs) ws rest there w l))

path_names : (path : List (List ℕ)) → is_path_written path ≡ true → are_names path ≡ true
path_names [] w = absurd cc
path_names (name ∷ names) w = w

path_not_blank : (path : List (List ℕ)) (ws : List Word) (rest : List ℕ) → is_path_written path ≡ true → not (is_blank (first (joined (path_words path ws) rest))) ≡ true
path_not_blank [] ws rest n = absurd cc
path_not_blank (name ∷ []) ws rest n = name_not_blank name (joined ws rest) (and_parts (is_name name) true n).0
path_not_blank (name ∷ next ∷ names) ws rest n = name_not_blank name (codes "::" ++ joined (path_words (next ∷ names) ws) rest) (and_parts (is_name name) (are_names (next ∷ names)) n).0

called_first : (path : List (List ℕ)) (xs : List ArgumentShape) (ws : List Word) (rest : List ℕ) → is_path_written path ≡ true → not (is_blank (first (joined (called_words path xs ws) rest))) ≡ true
called_first path [] ws rest n = path_not_blank path ws rest n
called_first path (x ∷ xs) ws rest n = refl

dependencies_break : (ds : List DependencyShape) (ws : List Word) (rest : List ℕ) → is_break (first (joined ws rest)) ≡ true → is_break (first (joined (dependencies_words ds ws) rest)) ≡ true
dependencies_break [] ws rest b = b
dependencies_break (d ∷ ds) ws rest b = refl

dependencies_lexed : (m to : Mode) (ds : List DependencyShape) (ws : List Word) (rest : List ℕ) → is_code m ≡ true → list_all is_dependency_written ds ≡ true → is_break (first (joined ws rest)) ≡ true → LexesFrom m ws rest to → LexesFrom m (dependencies_words ds ws) rest to
dependencies_lexed m to [] ws rest there w b l = l
dependencies_lexed m to (d ∷ ds) ws rest there w b l =
    let a = and_parts (is_dependency_written d) (list_all is_dependency_written ds) w in
    let c = and_parts (is_path_written d.path) (list_all is_argument_written d.arguments) a.0 in
    let others = dependencies_words ds ws in
    spaced m to (called_words d.path d.arguments others) rest there (called_first d.path d.arguments others rest c.0)
    (called_lexed m to d.path d.arguments others rest there (path_names d.path c.0) c.1 (dependencies_break ds ws rest b) (dependencies_lexed m to ds ws rest there a.1 b l))

subsequents_lexed : (m to : Mode) (ds : List DependencyShape) (ws : List Word) (rest : List ℕ) → is_code m ≡ true → list_all is_dependency_written ds ≡ true → is_break (first (joined ws rest)) ≡ true → LexesFrom m ws rest to → LexesFrom m (subsequents_words ds ws) rest to
subsequents_lexed m to [] ws rest there w b l = l
subsequents_lexed m to (d ∷ ds) ws rest there w b l =
    let others = dependencies_words (d ∷ ds) ws in
    spaced m to (word AmpersandAmpersand (codes "&&") ∷ others) rest there refl (marked m to (word AmpersandAmpersand (codes "&&")) others rest there refl refl refl (dependencies_lexed m to (d ∷ ds) ws rest there w b l))

subsequents_break : (ds : List DependencyShape) (ws : List Word) (rest : List ℕ) → is_break (first (joined (subsequents_words ds (newline ∷ ws)) rest)) ≡ true
subsequents_break [] ws rest = refl
subsequents_break (d ∷ ds) ws rest = refl

-- what stands after the colon makes no longer mark of it
after_colon : (ds es : List DependencyShape) (ws : List Word) (rest : List ℕ) → goes_no_further Colon (first (joined (dependencies_words ds (subsequents_words es (newline ∷ ws))) rest)) ≡ true
after_colon [] [] ws rest = refl
after_colon [] (e ∷ es) ws rest = refl
after_colon (d ∷ ds) es ws rest = refl

-- ---- headers

quiet_begins : (may b : Bool) (to : Mode) (name : List ℕ) (ws : List Word) (rest : List ℕ) → is_name name ≡ true → Apart (joined ws rest) → LexesFrom (in_line false) ws rest to → LexesFrom (at_line may) (if_there b (word At (codes "@")) (word Identifier name ∷ ws)) rest to
quiet_begins may true to name ws rest is a l = begins_with may to (word At (codes "@")) (word Identifier name ∷ ws) rest refl refl (named_apart (in_line false) to name ws rest refl is a l)
quiet_begins may false to name ws rest is a l =
    begins_with may to (word Identifier name) ws rest refl (all_so (is_lexeme None Identifier name) (keeps_apart Identifier name (joined ws rest)) is (a.keeps Identifier name refl is)) l

pub header_line : (may : Bool) (to : Mode) (r : RecipeShape) (ws : List Word) (rest : List ℕ) → is_header_written r ≡ true → LexesFrom (at_line true) ws rest to → LexesFrom (at_line may) (header_words r (newline ∷ ws)) rest to
header_line may to r ws rest w l =
    let a = and_parts (is_name r.name && list_all is_parameter_written r.parameters && list_all is_dependency_written r.priors) (list_all is_dependency_written r.subsequents) w in
    let b = and_parts (is_name r.name && list_all is_parameter_written r.parameters) (list_all is_dependency_written r.priors) a.0 in
    let c = and_parts (is_name r.name) (list_all is_parameter_written r.parameters) b.0 in
    let m = in_line true in
    let ss = subsequents_words r.subsequents (newline ∷ ws) in
    let ds = dependencies_words r.priors ss in
    let subsequents = subsequents_lexed m to r.subsequents (newline ∷ ws) rest refl a.1 refl (line_ended true ws rest to l) in
    let priors = dependencies_lexed m to r.priors ss rest refl b.1 (subsequents_break r.subsequents ws rest) subsequents in
    let h = after_colon r.priors r.subsequents ws rest in
    quiet_begins may r.quiet to r.name (parameters_words r.parameters (word Colon (codes ":") ∷ ds)) rest c.0 (parameters_apart r.parameters ds rest h) (parameters_lexed to r.parameters ds rest c.1 h priors)
