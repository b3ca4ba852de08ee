-- Items whose names, strings, commands, texts and comments are tokens by themselves.
use Rattle.std.specs.Prelude.{ℕ, Bool, true, false, not, ◌&&◌, ◌==◌, List, [], ◌∷◌, length, Option, None}
use Rattle.std.specs.List.{list_all}
use Rattle.std.specs.Option.{option_map_or}
use Rattle.just_text.specs.declared.token_kind.TokenKind.TheVariants.{Comment, Identifier, StringToken, Text}
use Rattle.just_lexer.specs.Classes.{first, is_blank, blank_len}
use Rattle.tree_attributes.specs.Attributes.{AttributeShape, OptionsShape, plain, with_options, with_prompt, with_pair, with_string, with_strings, with_interpreter}
use Rattle.tree_attributes.specs.Settings.{InterpreterShape, ValueShape, truth, expression, interpreter, string}
use Rattle.tree_items.specs.Files.{ItemShape, alias_item, assignment_item, comment_item, function_item, import_item, module_item, newline_item, recipe_item, set_item, unexport_item, attributes_of}
use Rattle.tree_items.specs.Lines.{Piece, text, interpolation}
use Rattle.tree_items.specs.Recipes.{ParameterShape, ArgumentShape, DependencyShape, RecipeShape}
use Rattle.justfile_syntax.specs.Fits.{is_lexeme, last_byte, takes_brace}
use Rattle.laws_printing.specs.Printing.Lexed.{is_written}
use Rattle.laws_printing.specs.Printing.LinesLexed.{are_names}

abbrev pub is_name : List ℕ → Bool
is_name s = is_lexeme None Identifier s

abbrev pub is_string : List ℕ → Bool
is_string s = is_lexeme None StringToken s

-- what may be there is written
abbrev pub if_there_written : {A : Type 0} → (A → Bool) → Option A → Bool
if_there_written f o = option_map_or f o true

abbrev pub is_interpreter_written : InterpreterShape → Bool
is_interpreter_written i = is_written i.command && list_all is_written i.arguments

abbrev pub is_value_written : ValueShape → Bool
is_value_written (truth b) = true
is_value_written (expression e) = is_written e
is_value_written (interpreter i) = is_interpreter_written i
is_value_written (string s) = is_string s

-- ---- recipes

abbrev pub is_parameter_written : ParameterShape → Bool
is_parameter_written p = is_name p.name && if_there_written is_written p.default

abbrev pub is_argument_written : ArgumentShape → Bool
is_argument_written x = is_written x.expression

abbrev pub is_path_written : List (List ℕ) → Bool
is_path_written [] = false
is_path_written (name ∷ names) = are_names (name ∷ names)

abbrev pub is_dependency_written : DependencyShape → Bool
is_dependency_written d = is_path_written d.path && list_all is_argument_written d.arguments

-- a text that these parts of its line follow ends before them, and so that what follows isn't part of it
abbrev pub ends_before : List ℕ → List Piece → Bool
ends_before t [] = not (last_byte t == 13)
ends_before t (interpolation e ∷ ps) = takes_brace t
ends_before t (text u ∷ ps) = false

abbrev pub are_pieces_written : List Piece → Bool
are_pieces_written [] = true
are_pieces_written (text t ∷ ps) = is_lexeme None Text t && ends_before t ps && are_pieces_written ps
are_pieces_written (interpolation e ∷ ps) = is_written e && are_pieces_written ps

-- a line isn't one text of spaces and tabs
abbrev pub shows : List Piece → Bool
shows (text t ∷ []) = not (blank_len t == length t)
shows ps = true

-- a first line begins with no white space, and isn't empty
abbrev pub shows_first : List Piece → Bool
shows_first [] = false
shows_first (text t ∷ ps) = not (is_blank (first t))
shows_first (interpolation e ∷ ps) = true

abbrev pub is_line_written : List Piece → Bool
is_line_written ps = are_pieces_written ps && shows ps

abbrev pub is_body_written : List (List Piece) → Bool
is_body_written [] = true
is_body_written (line ∷ lines) = are_pieces_written line && shows_first line && list_all is_line_written lines

abbrev pub is_header_written : RecipeShape → Bool
is_header_written r = is_name r.name && list_all is_parameter_written r.parameters && list_all is_dependency_written r.priors && list_all is_dependency_written r.subsequents

-- ---- attributes

abbrev pub is_long_written : Option (List ℕ) → Bool
is_long_written o = if_there_written is_string o

abbrev pub are_options_written : OptionsShape → Bool
are_options_written o =
    is_string o.name && if_there_written is_string o.help && if_there_written is_long_written o.long && if_there_written is_string o.max && if_there_written is_string o.min && if_there_written is_string o.short && if_there_written is_written o.value

abbrev pub is_attribute_written : AttributeShape → Bool
is_attribute_written (plain k) = true
is_attribute_written (with_options o) = are_options_written o
is_attribute_written (with_prompt e) = is_written e
is_attribute_written (with_pair k v) = is_written k && is_written v
is_attribute_written (with_string k s) = is_string s
is_attribute_written (with_strings s ss) = is_string s && list_all is_string ss
is_attribute_written (with_interpreter i) = is_interpreter_written i

-- ---- items

-- a comment is one token and doesn't end in a carriage return
abbrev pub is_comment_written : List ℕ → Bool
is_comment_written t = is_lexeme None Comment t && not (last_byte t == 13)

abbrev pub is_bare_written : ItemShape → Bool
is_bare_written (alias_item as' a) = is_name a.name && are_names a.target
is_bare_written (assignment_item as' a) = is_name a.name && is_written a.value
is_bare_written (comment_item t) = is_comment_written t
is_bare_written (function_item f) = is_name f.name && are_names f.parameters && is_written f.body
is_bare_written (import_item i) = is_string i.path
is_bare_written (module_item as' m) = is_name m.name && if_there_written is_string m.path
is_bare_written newline_item = true
is_bare_written (recipe_item as' r) = is_header_written r && is_body_written r.body
is_bare_written (set_item as' s) = is_name s.name && is_value_written s.value
is_bare_written (unexport_item name) = is_name name

abbrev pub is_item_written : ItemShape → Bool
is_item_written item = list_all is_attribute_written (attributes_of item) && is_bare_written item
