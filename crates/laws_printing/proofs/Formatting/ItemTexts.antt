-- The text of printed items.
use Rattle.std.proofs.Common.{◌≡◌, ℕ, zero, suc, ◌+◌, Bool, true, false, List, [], ◌∷◌, ◌++◌, Option, Some, None, refl, sym, ap, ◌∙◌, append_assoc, inl, inr}
use Rattle.std.specs.Prelude.{codes, if◌then◌else◌, ◌==◌}
use Rattle.std.specs.List.{list_all}
use Rattle.std.proofs.lemmas.Bool.{and_parts}
use Rattle.parse_expressions.proofs.Taken.{test}
use Rattle.just_text.specs.Names.{joined_names}
use Rattle.just_text.specs.Tokens.{Word}
use Rattle.just_text.specs.declared.token_kind.TokenKind.TheVariants.{Asterisk, At, Dollar, QuestionMark, Colon, Identifier}
use Rattle.tree_expressions.specs.Shape.{Shape}
use Rattle.tree_attributes.specs.Settings.{ValueShape, truth, expression, interpreter, string, SetShape, value_text, set_text, elements_text}
use Rattle.tree_items.specs.declared.recipe.ParameterKind.{ParameterKind}
use Rattle.tree_items.specs.declared.recipe.ParameterKind.TheVariants.{Plus, Singular, Star}
use Rattle.tree_items.specs.Items.{AliasShape, alias_text, AssignmentShape, assignment_text, FunctionShape, function_text, more_names, names_text, ImportShape, import_text, question_mark, ModuleShape, module_text, behind_space, unexport_text}
use Rattle.tree_items.specs.Lines.{Piece, text, interpolation, line_text}
use Rattle.tree_items.specs.Recipes.{ParameterShape, ArgumentShape, DependencyShape, RecipeShape, default_text, kind_mark, parameters_text, arguments_text, called_text, dependencies_text, subsequents_text, header_text, indented, body_text, recipe_text}
use Rattle.tree_attributes.specs.Attributes.{AttributeShape, OptionsShape, plain, with_options, with_prompt, with_pair, with_string, with_strings, with_interpreter, assigned_text, long_text, value_end, strings_text, attribute_text, attributes_text}
use Rattle.tree_items.specs.Files.{ItemShape, alias_item, assignment_item, comment_item, function_item, import_item, module_item, newline_item, recipe_item, set_item, unexport_item, attributes_of, is_blank, bare_text, item_text, blank_lines, text_behind, file_text_behind, file_text}
use Rattle.parse_attributes.specs.Options.{OptionShape, flag, multiple, long, help, max, min, short, value}
use Rattle.justfile_syntax.specs.Words.{joined}
use Rattle.laws_printing.specs.Printing.Words.{word, space, comma, close_paren, words_of}
use Rattle.laws_printing.specs.Printing.ItemWords.{newline, if_there, path_words, assigned, alias_words, keyword_words, assignment_words, import_words, line_words, indented_words, lines_words, kind_words, default_words, parameters_words, arguments_words, called_words, dependencies_words, subsequents_words, header_words}
use Rattle.laws_printing.specs.Printing.MoreItems.{unexport_words, file_words, module_words, other_names, names_words, function_words, other_elements, value_words, set_words}
use Rattle.laws_printing.specs.Printing.Attributes.{if_set, if_given, options_in_order, string_words, option_words, given_words, more_words, shape_words, close_bracket, attributes_words}
use Rattle.laws_printing.specs.Printing.Normal.{cut, blanks, body_before, recipe_words}
use Rattle.laws_printing.specs.Formatting.FileWords.{blank_words, blanks_left, bare_words, item_words, spaced, lead, spaced_words, all_words, file_words as words_of_file, line_ends, starts_full, is_full}
use Rattle.laws_printing.proofs.Printing.Texts.{texts}

path_text : (names : List (List ℕ)) (after : List Word) (rest : List ℕ) → joined (path_words names after) rest ≡ joined_names names ++ joined after rest
path_text [] after rest = refl
path_text (name ∷ []) after rest = simp append_assoc
path_text (name ∷ next ∷ names) after rest = rw (path_text (next ∷ names) after rest) (simp append_assoc)

pub alias_joined : (a : AliasShape) (after : List Word) (rest : List ℕ) → joined (alias_words a after) rest ≡ alias_text a ++ joined after rest
alias_joined a after rest = rw (path_text a.target after rest) (simp append_assoc)

export_text : (b : Bool) (after : List Word) (rest : List ℕ) → joined (keyword_words b (codes "export") after) rest ≡ (if b then codes "export " else codes "") ++ joined after rest
export_text true after rest = refl
export_text false after rest = refl

eager_text : (b : Bool) (after : List Word) (rest : List ℕ) → joined (keyword_words b (codes "eager") after) rest ≡ (if b then codes "eager " else codes "") ++ joined after rest
eager_text true after rest = refl
eager_text false after rest = refl

pub assignment_joined : (a : AssignmentShape) (after : List Word) (rest : List ℕ) → joined (assignment_words a after) rest ≡ assignment_text a ++ joined after rest
assignment_joined a after rest =
    let last = word Identifier a.name ∷ assigned (words_of a.value after) in
    rw (export_text a.export (keyword_words a.eager (codes "eager") last) rest, eager_text a.eager last rest, texts a.value after rest) (simp append_assoc)

question_text : (b : Bool) (after : List Word) (rest : List ℕ) → joined (if_there b (word QuestionMark (codes "?")) after) rest ≡ question_mark b ++ joined after rest
question_text true after rest = refl
question_text false after rest = refl

pub import_joined : (i : ImportShape) (after : List Word) (rest : List ℕ) → joined (import_words i after) rest ≡ import_text i ++ joined after rest
import_joined i after rest = rw (question_text i.optional _ rest) (simp append_assoc)

pub unexport_joined : (name : List ℕ) (after : List Word) (rest : List ℕ) → joined (unexport_words name after) rest ≡ unexport_text name ++ joined after rest
unexport_joined name after rest = refl

file_joined : (path : Option (List ℕ)) (after : List Word) (rest : List ℕ) → joined (file_words path after) rest ≡ behind_space path ++ joined after rest
file_joined None after rest = refl
file_joined (Some path) after rest = refl

pub module_joined : (m : ModuleShape) (after : List Word) (rest : List ℕ) → joined (module_words m after) rest ≡ module_text m ++ joined after rest
module_joined m after rest = rw (question_text m.optional _ rest, file_joined m.path after rest) (simp append_assoc)

other_names_text : (names : List (List ℕ)) (after : List Word) (rest : List ℕ) → joined (other_names names after) rest ≡ more_names names ++ (codes ")" ++ joined after rest)
other_names_text [] after rest = refl
other_names_text (name ∷ names) after rest = rw (other_names_text names after rest) (simp append_assoc)

names_joined : (names : List (List ℕ)) (after : List Word) (rest : List ℕ) → joined (names_words names after) rest ≡ names_text names ++ (codes ")" ++ joined after rest)
names_joined [] after rest = refl
names_joined (name ∷ names) after rest = rw (other_names_text names after rest) (simp append_assoc)

pub function_joined : (f : FunctionShape) (after : List Word) (rest : List ℕ) → joined (function_words f after) rest ≡ function_text f ++ joined after rest
function_joined f after rest = rw (names_joined f.parameters (assigned (words_of f.body after)) rest, texts f.body after rest) (simp append_assoc)

pub elements_joined : (es : List Shape) (after : List Word) (rest : List ℕ) → joined (other_elements es after) rest ≡ elements_text es ++ (codes "]" ++ joined after rest)
elements_joined [] after rest = refl
elements_joined (e ∷ es) after rest = rw (texts e (other_elements es after) rest, elements_joined es after rest) (simp append_assoc)

value_joined : (v : ValueShape) (after : List Word) (rest : List ℕ) → joined (value_words v after) rest ≡ value_text v ++ joined after rest
value_joined (truth b) after rest = refl
value_joined (expression e) after rest = texts e after rest
value_joined (interpreter i) after rest = rw (texts i.command (other_elements i.arguments after) rest, elements_joined i.arguments after rest) (simp append_assoc)
value_joined (string s) after rest = refl

pub set_joined : (s : SetShape) (after : List Word) (rest : List ℕ) → joined (set_words s after) rest ≡ set_text s ++ joined after rest
set_joined s after rest = rw (value_joined s.value after rest) (simp append_assoc)

-- ---- headers

kind_joined : (kind : ParameterKind) (after : List Word) (rest : List ℕ) → joined (kind_words kind after) rest ≡ kind_mark kind ++ joined after rest
kind_joined Plus after rest = refl
kind_joined Singular after rest = refl
kind_joined Star after rest = refl

dollar_text : (b : Bool) (after : List Word) (rest : List ℕ) → joined (if_there b (word Dollar (codes "$")) after) rest ≡ (if b then codes "$" else codes "") ++ joined after rest
dollar_text true after rest = refl
dollar_text false after rest = refl

star_text : (b : Bool) (after : List Word) (rest : List ℕ) → joined (if_there b (word Asterisk (codes "*")) after) rest ≡ (if b then codes "*" else codes "") ++ joined after rest
star_text true after rest = refl
star_text false after rest = refl

at_text : (b : Bool) (after : List Word) (rest : List ℕ) → joined (if_there b (word At (codes "@")) after) rest ≡ (if b then codes "@" else codes "") ++ joined after rest
at_text true after rest = refl
at_text false after rest = refl

default_joined : (o : Option Shape) (after : List Word) (rest : List ℕ) → joined (default_words o after) rest ≡ default_text o ++ joined after rest
default_joined None after rest = refl
default_joined (Some e) after rest = rw (texts e after rest) refl

parameters_joined : (ps : List ParameterShape) (after : List Word) (rest : List ℕ) → joined (parameters_words ps after) rest ≡ parameters_text ps ++ joined after rest
parameters_joined [] after rest = refl
parameters_joined (p ∷ ps) after rest =
    let others = parameters_words ps after in
    let name = word Identifier p.name ∷ default_words p.default others in
    rw (kind_joined p.kind (if_there p.export (word Dollar (codes "$")) name) rest, dollar_text p.export name rest, default_joined p.default others rest, parameters_joined ps after rest) (simp append_assoc)

arguments_joined : (xs : List ArgumentShape) (after : List Word) (rest : List ℕ) → joined (arguments_words xs after) rest ≡ arguments_text xs ++ (codes ")" ++ joined after rest)
arguments_joined [] after rest = refl
arguments_joined (x ∷ xs) after rest =
    let others = arguments_words xs after in
    rw (star_text x.starred (words_of x.expression others) rest, texts x.expression others rest, arguments_joined xs after rest) (simp append_assoc)

in_parens : (p a z : List ℕ) → codes "(" ++ (p ++ (a ++ (codes ")" ++ z))) ≡ codes "(" ++ p ++ a ++ codes ")" ++ z
in_parens p a z = simp append_assoc

called_joined : (path : List (List ℕ)) (xs : List ArgumentShape) (after : List Word) (rest : List ℕ) → joined (called_words path xs after) rest ≡ called_text (joined_names path) xs ++ joined after rest
called_joined path [] after rest = path_text path after rest
called_joined path (x ∷ xs) after rest = rw (path_text path (arguments_words (x ∷ xs) after) rest, arguments_joined (x ∷ xs) after rest) (in_parens (joined_names path) (arguments_text (x ∷ xs)) (joined after rest))

dependencies_joined : (ds : List DependencyShape) (after : List Word) (rest : List ℕ) → joined (dependencies_words ds after) rest ≡ dependencies_text ds ++ joined after rest
dependencies_joined [] after rest = refl
dependencies_joined (d ∷ ds) after rest = rw (called_joined d.path d.arguments (dependencies_words ds after) rest, dependencies_joined ds after rest) (simp append_assoc)

subsequents_joined : (ds : List DependencyShape) (after : List Word) (rest : List ℕ) → joined (subsequents_words ds after) rest ≡ subsequents_text ds ++ joined after rest
subsequents_joined [] after rest = refl
subsequents_joined (d ∷ ds) after rest = rw (dependencies_joined (d ∷ ds) after rest) refl

pub header_joined : (r : RecipeShape) (after : List Word) (rest : List ℕ) → joined (header_words r after) rest ≡ header_text r ++ joined after rest
header_joined r after rest =
    let w3 = subsequents_words r.subsequents after in
    let w2 = dependencies_words r.priors w3 in
    let w1 = word Colon (codes ":") ∷ w2 in
    rw (at_text r.quiet (word Identifier r.name ∷ parameters_words r.parameters w1) rest, parameters_joined r.parameters w1 rest, dependencies_joined r.priors w3 rest, subsequents_joined r.subsequents after rest) (simp append_assoc)

-- ---- bodies

pub line_joined : (ps : List Piece) (after : List Word) (rest : List ℕ) → joined (line_words ps after) rest ≡ line_text ps ++ joined after rest
line_joined [] after rest = refl
line_joined (text t ∷ ps) after rest = rw (line_joined ps after rest) (simp append_assoc)
line_joined (interpolation e ∷ ps) after rest = rw (texts e _ rest, line_joined ps after rest) (simp append_assoc)

indented_joined : (indentation : List ℕ) (ps : List Piece) (after : List Word) (rest : List ℕ) → joined (indented_words indentation ps after) rest ≡ indented indentation ps ++ joined after rest
indented_joined indentation [] after rest = refl
indented_joined indentation (p ∷ ps) after rest = rw (line_joined (p ∷ ps) after rest) (simp append_assoc)

blanks_joined : (indentation : List ℕ) (n : ℕ) (after : List Word) (rest : List ℕ) → joined (newline ∷ lines_words indentation (blanks n) after) rest ≡ 10 ∷ (line_ends n ++ joined after rest)
blanks_joined indentation zero after rest = refl
blanks_joined indentation (suc n) after rest = ap (λ t. 10 ∷ t) (blanks_joined indentation n after rest)

-- further lines, and blank ones after them
lines_joined : (indentation : List ℕ) (lines : List (List Piece)) (n : ℕ) (after : List Word) (rest : List ℕ) → joined (newline ∷ lines_words indentation (lines ++ blanks n) after) rest ≡ body_text indentation lines ++ (10 ∷ (line_ends n ++ joined after rest))
lines_joined indentation [] n after rest = blanks_joined indentation n after rest
lines_joined indentation (line ∷ lines) n after rest =
    rw (indented_joined indentation line (newline ∷ lines_words indentation (lines ++ blanks n) after) rest, lines_joined indentation lines n after rest) (simp append_assoc)

blank_joined : (n : ℕ) (after : List Word) (rest : List ℕ) → joined (blank_words n after) rest ≡ line_ends n ++ joined after rest
blank_joined zero after rest = refl
blank_joined (suc n) after rest = ap (λ t. 10 ∷ t) (blank_joined n after rest)

body_joined : (indentation : List ℕ) (body : List (List Piece)) (n : ℕ) (after : List Word) (rest : List ℕ) → starts_full body ≡ true
    → joined (newline ∷ body_before indentation body n (blanks_left body n after)) rest ≡ body_text indentation body ++ (10 ∷ (line_ends n ++ joined after rest))
body_joined indentation [] n after rest s = ap (λ t. 10 ∷ t) (blank_joined n after rest)
body_joined indentation ([] ∷ lines) n after rest s = absurd cc
body_joined indentation ((p ∷ ps) ∷ lines) n after rest s =
    rw (line_joined (p ∷ ps) (newline ∷ lines_words indentation (lines ++ blanks n) after) rest, lines_joined indentation lines n after rest) (simp append_assoc)

recipe_joined : (indentation : List ℕ) (r : RecipeShape) (n : ℕ) (after : List Word) (rest : List ℕ) → starts_full r.body ≡ true
    → joined (recipe_words indentation r n (blanks_left r.body n after)) rest ≡ recipe_text indentation r ++ (10 ∷ (line_ends n ++ joined after rest))
recipe_joined indentation r n after rest s =
    header_joined r (newline ∷ body_before indentation r.body n (blanks_left r.body n after)) rest ∙ ap (λ t. header_text r ++ t) (body_joined indentation r.body n after rest s) ∙ sym (append_assoc (header_text r) (body_text indentation r.body) _)

-- ---- attributes

strings_joined : (ss : List (List ℕ)) (after : List Word) (rest : List ℕ) → joined (more_words string_words ss after) rest ≡ strings_text ss ++ (codes ")" ++ joined after rest)
strings_joined [] after rest = refl
strings_joined (s ∷ ss) after rest = rw (strings_joined ss after rest) (simp append_assoc)

expressions_joined : (es : List Shape) (after : List Word) (rest : List ℕ) → joined (more_words words_of es after) rest ≡ elements_text es ++ (codes ")" ++ joined after rest)
expressions_joined [] after rest = refl
expressions_joined (e ∷ es) after rest = rw (texts e (more_words words_of es after) rest, expressions_joined es after rest) (simp append_assoc)

-- a row in front of which something may stand
set_row : (b : Bool) (p : OptionShape) (t z : List ℕ) (r : List (Option OptionShape)) (after : List Word) (rest : List ℕ) → ((after : List Word) → joined (comma ∷ space ∷ option_words p after) rest ≡ t ++ joined after rest) → joined (more_words given_words r after) rest ≡ z
    → joined (more_words given_words (if_set b p ++ r) after) rest ≡ (if b then t else codes "") ++ z
set_row true p t z r after rest one more = one (more_words given_words r after) ∙ ap (λ y. t ++ y) more
set_row false p t z r after rest one more = more

given_row : (name : List ℕ) (o : Option (List ℕ)) (f : List ℕ → OptionShape) (z : List ℕ) (r : List (Option OptionShape)) (after : List Word) (rest : List ℕ) → ((s : List ℕ) (after : List Word) → joined (comma ∷ space ∷ option_words (f s) after) rest ≡ codes ", " ++ name ++ codes "=" ++ s ++ joined after rest)
    → joined (more_words given_words r after) rest ≡ z → joined (more_words given_words (if_given o f ++ r) after) rest ≡ assigned_text name o ++ z
given_row name None f z r after rest one more = more
given_row name (Some s) f z r after rest one more = one s (more_words given_words r after) ∙ ap (λ y. codes ", " ++ name ++ codes "=" ++ s ++ y) more

long_row : (o : Option (Option (List ℕ))) (z : List ℕ) (r : List (Option OptionShape)) (after : List Word) (rest : List ℕ) → joined (more_words given_words r after) rest ≡ z → joined (more_words given_words (if_given o long ++ r) after) rest ≡ long_text o ++ z
long_row None z r after rest more = more
long_row (Some None) z r after rest more = ap (λ y. codes ", long" ++ y) more
long_row (Some (Some s)) z r after rest more = ap (λ y. codes ", long=" ++ s ++ y) more

value_row : (o : Option Shape) (after : List Word) (rest : List ℕ) → joined (more_words given_words (if_given o value) after) rest ≡ value_end o ++ (codes ")" ++ joined after rest)
value_row None after rest = refl
value_row (Some e) after rest = rw (texts e (close_paren ∷ after) rest) refl

abbrev set_text_of : Bool → List ℕ → List ℕ
set_text_of b t = if b then t else codes ""

options_joined : (o : OptionsShape) (after : List Word) (rest : List ℕ) → joined (more_words given_words (options_in_order o) after) rest
    ≡ set_text_of o.flag (codes ", flag") ++ (assigned_text (codes "help") o.help ++ (long_text o.long ++ (assigned_text (codes "max") o.max ++ (assigned_text (codes "min") o.min
    ++ (set_text_of o.multiple (codes ", multiple") ++ (assigned_text (codes "short") o.short ++ (value_end o.value ++ (codes ")" ++ joined after rest))))))))
options_joined o after rest =
    set_row o.flag flag (codes ", flag") _ _ after rest (λ a. refl) (given_row (codes "help") o.help help _ _ after rest (λ s a. refl) (long_row o.long _ _ after rest (given_row (codes "max") o.max max _ _ after rest (λ s a. refl) (given_row (codes "min") o.min min _ _ after rest (λ s a. refl)
    (set_row o.multiple multiple (codes ", multiple") _ _ after rest (λ a. refl) (given_row (codes "short") o.short short _ _ after rest (λ s a. refl) (value_row o.value after rest)))))))

options_is : (n fl he lo ma mi mu sh va z : List ℕ) → codes "arg(" ++ (n ++ (fl ++ (he ++ (lo ++ (ma ++ (mi ++ (mu ++ (sh ++ (va ++ (codes ")" ++ z)))))))))) ≡ codes "arg(" ++ ((n ++ fl ++ he ++ lo) ++ (ma ++ mi ++ mu ++ sh) ++ va) ++ codes ")" ++ z
options_is n fl he lo ma mi mu sh va z = simp append_assoc

attribute_joined : (x : AttributeShape) (after : List Word) (rest : List ℕ) → joined (shape_words x after) rest ≡ attribute_text x ++ joined after rest
attribute_joined (plain k) after rest = refl
attribute_joined (with_options o) after rest =
    ap (λ t. codes "arg(" ++ (o.name ++ t)) (options_joined o after rest)
    ∙ options_is o.name (set_text_of o.flag (codes ", flag")) (assigned_text (codes "help") o.help) (long_text o.long) (assigned_text (codes "max") o.max) (assigned_text (codes "min") o.min) (set_text_of o.multiple (codes ", multiple")) (assigned_text (codes "short") o.short) (value_end o.value) (joined after rest)
attribute_joined (with_prompt e) after rest = rw (texts e (close_paren ∷ after) rest) (simp append_assoc)
attribute_joined (with_pair k v) after rest = rw (texts k (comma ∷ space ∷ words_of v (close_paren ∷ after)) rest, texts v (close_paren ∷ after) rest) (simp append_assoc)
attribute_joined (with_string k s) after rest = simp append_assoc
attribute_joined (with_strings s ss) after rest = rw (strings_joined ss after rest) (simp append_assoc)
attribute_joined (with_interpreter i) after rest = rw (texts i.command (more_words words_of i.arguments after) rest, expressions_joined i.arguments after rest) (simp append_assoc)

attributes_joined : (xs : List AttributeShape) (after : List Word) (rest : List ℕ) → joined (attributes_words xs after) rest ≡ attributes_text xs ++ joined after rest
attributes_joined [] after rest = refl
attributes_joined (x ∷ xs) after rest = rw (attribute_joined x (close_bracket ∷ newline ∷ attributes_words xs after) rest, attributes_joined xs after rest) (simp append_assoc)

-- ---- items

bare_joined : (indentation : List ℕ) (item : ItemShape) (n : ℕ) (after : List Word) (rest : List ℕ) → is_full item ≡ true → is_blank item ≡ false → joined (bare_words indentation item n after) rest ≡ bare_text indentation item ++ (10 ∷ (line_ends n ++ joined after rest))
bare_joined indentation (alias_item as' a) n after rest f b = alias_joined a (newline ∷ blank_words n after) rest ∙ ap (λ t. alias_text a ++ (10 ∷ t)) (blank_joined n after rest)
bare_joined indentation (assignment_item as' a) n after rest f b = assignment_joined a (newline ∷ blank_words n after) rest ∙ ap (λ t. assignment_text a ++ (10 ∷ t)) (blank_joined n after rest)
bare_joined indentation (comment_item t) n after rest f b = ap (λ u. t ++ (10 ∷ u)) (blank_joined n after rest)
bare_joined indentation (function_item g) n after rest f b = function_joined g (newline ∷ blank_words n after) rest ∙ ap (λ t. function_text g ++ (10 ∷ t)) (blank_joined n after rest)
bare_joined indentation (import_item i) n after rest f b = import_joined i (newline ∷ blank_words n after) rest ∙ ap (λ t. import_text i ++ (10 ∷ t)) (blank_joined n after rest)
bare_joined indentation (module_item as' m) n after rest f b = module_joined m (newline ∷ blank_words n after) rest ∙ ap (λ t. module_text m ++ (10 ∷ t)) (blank_joined n after rest)
bare_joined indentation newline_item n after rest f b = absurd cc
bare_joined indentation (recipe_item as' r) n after rest f b = recipe_joined indentation r n after rest f
bare_joined indentation (set_item as' s) n after rest f b = set_joined s (newline ∷ blank_words n after) rest ∙ ap (λ t. set_text s ++ (10 ∷ t)) (blank_joined n after rest)
bare_joined indentation (unexport_item name) n after rest f b = unexport_joined name (newline ∷ blank_words n after) rest ∙ ap (λ t. unexport_text name ++ (10 ∷ t)) (blank_joined n after rest)

pub item_joined : (indentation : List ℕ) (item : ItemShape) (n : ℕ) (after : List Word) (rest : List ℕ) → is_full item ≡ true → is_blank item ≡ false → joined (item_words indentation item n after) rest ≡ item_text indentation item ++ (line_ends (suc n) ++ joined after rest)
item_joined indentation item n after rest f b =
    attributes_joined (attributes_of item) (bare_words indentation item n after) rest ∙ ap (λ t. attributes_text (attributes_of item) ++ t) (bare_joined indentation item n after rest f b) ∙ sym (append_assoc (attributes_text (attributes_of item)) (bare_text indentation item) _)

-- ---- files

cut_ends : (n : ℕ) → line_ends (cut n) ≡ blank_lines n
cut_ends n = elim (test (n == 0)) [
  | inl a ↦ rw a refl
  | inr a ↦ elim (test (n == 1)) [ inl b ↦ rw (a, b) refl | inr b ↦ rw (a, b) refl ]
]

pub spaced_filled : (b : ℕ) (item : ItemShape) (items : List ItemShape) → is_blank item ≡ false → spaced b (item ∷ items) ≡ (cut b, item) ∷ spaced 0 items
unfolding spaced
spaced_filled b item items h = rw h refl

pub spaced_empty : (b : ℕ) (item : ItemShape) (items : List ItemShape) → is_blank item ≡ true → spaced b (item ∷ items) ≡ spaced (b + 1) items
unfolding spaced
spaced_empty b item items h = rw h refl

filled : (indentation : List ℕ) (b : ℕ) (item : ItemShape) (items : List ItemShape) → is_blank item ≡ false → file_text_behind indentation b (item ∷ items) ≡ text_behind indentation b item ++ file_text_behind indentation 0 items
unfolding file_text_behind
filled indentation b item items h = rw h refl

empty : (indentation : List ℕ) (b : ℕ) (item : ItemShape) (items : List ItemShape) → is_blank item ≡ true → file_text_behind indentation b (item ∷ items) ≡ file_text_behind indentation (b + 1) items
unfolding file_text_behind
empty indentation b item items h = rw h refl

ends_is : (b t z : List ℕ) → b ++ (t ++ (10 ∷ z)) ≡ b ++ t ++ codes "\n" ++ z
ends_is b t z = simp append_assoc

spaced_joined : (indentation : List ℕ) (b : ℕ) (items : List ItemShape) → list_all is_full items ≡ true → joined (all_words indentation (spaced b items)) [] ≡ file_text_behind indentation b items
unfolding spaced file_text_behind
spaced_joined indentation b [] f = refl
spaced_joined indentation b (item ∷ items) f =
    let both = and_parts (is_full item) (list_all is_full items) f in
    elim (test (is_blank item)) [
      | inl h ↦ ap (λ ps. joined (all_words indentation ps) []) (spaced_empty b item items h) ∙ spaced_joined indentation (b + 1) items both.1 ∙ sym (empty indentation b item items h)
      | inr h ↦
          let ps = spaced 0 items in
          let others = spaced_joined indentation 0 items both.1 in
          let one = item_joined indentation item (lead ps) (spaced_words indentation ps) [] both.0 h in
          let more = sym (blank_joined (lead ps) (spaced_words indentation ps) []) ∙ others in
          ap (λ qs. joined (all_words indentation qs) []) (spaced_filled b item items h) ∙ blank_joined (cut b) (item_words indentation item (lead ps) (spaced_words indentation ps)) [] ∙ ap (λ t. line_ends (cut b) ++ t) one
          ∙ ap (λ t. line_ends (cut b) ++ (item_text indentation item ++ (10 ∷ t))) more ∙ ap (λ t. t ++ (item_text indentation item ++ (10 ∷ file_text_behind indentation 0 items))) (cut_ends b) ∙ ends_is (blank_lines b) (item_text indentation item) (file_text_behind indentation 0 items)
          ∙ sym (filled indentation b item items h)
    ]

pub file_joined_whole : (indentation : List ℕ) (items : List ItemShape) → list_all is_full items ≡ true → joined (words_of_file indentation items) [] ≡ file_text indentation items
file_joined_whole indentation items f = spaced_joined indentation 0 items f
