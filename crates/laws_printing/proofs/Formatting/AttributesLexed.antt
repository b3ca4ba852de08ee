-- The words of printed attributes are their tokens.
use Rattle.std.proofs.Common.{◌≡◌, ℕ, Bool, true, false, ◌&&◌, List, [], ◌∷◌, ◌++◌, Option, Some, None, refl}
use Rattle.std.specs.Prelude.{codes, not}
use Rattle.std.specs.List.{list_all}
use Rattle.std.proofs.lemmas.Bool.{and_parts}
use Rattle.just_text.specs.Tokens.{Word}
use Rattle.just_text.specs.declared.delimiter.Delimiter.TheVariants.{Bracket, Paren}
use Rattle.just_text.specs.declared.token_kind.TokenKind.TheVariants.{BracketL}
use Rattle.just_lexer.specs.Classes.{first, is_blank}
use Rattle.just_lexer.specs.declared.mode.Open.TheVariants.{Bracket as BracketOpen}
use Rattle.just_lexer.specs.Modes.{Mode}
use Rattle.tree_attributes.specs.declared.attribute.AttributeKind.{AttributeKind}
use Rattle.tree_attributes.specs.declared.attribute.AttributeKind.TheVariants as attributes
use Rattle.tree_attributes.specs.Attributes.{AttributeShape, OptionsShape, plain, with_options, with_prompt, with_pair, with_string, with_strings, with_interpreter, kind_of, kind_name}
use Rattle.tree_expressions.specs.Shape.{Shape}
use Rattle.justfile_syntax.specs.Words.{LexesFrom, joined}
use Rattle.justfile_syntax.specs.Table.{is_break}
use Rattle.justfile_syntax.specs.InCode.{is_code, within}
use Rattle.justfile_syntax.specs.Lines.{at_line, in_line}
use Rattle.justfile_syntax.proofs.Lines.{brackets_begin}
use Rattle.justfile_syntax.proofs.InCode.{within_is_code}
use Rattle.parse_attributes.specs.Options.{OptionShape, flag, multiple, long, help, max, min, short, value}
use Rattle.parse_attributes.specs.Arguments.{Arguments, nothing, strings, expressions, parameter}
use Rattle.laws_printing.specs.Printing.Words.{word, words_of}
use Rattle.laws_printing.specs.Printing.ItemWords.{newline}
use Rattle.laws_printing.specs.Printing.Lexed.{is_written}
use Rattle.laws_printing.specs.Printing.Attributes.{assigned_words, if_set, if_given, options_in_order, string_words, option_words, given_words, more_words, argument_words, arguments_of, shape_words, close_bracket, attributes_words}
use Rattle.laws_printing.proofs.Printing.Lexed.{on_word, not_blank, first_byte, string_first}
use Rattle.laws_printing.specs.Formatting.Written.{is_name, is_string, if_there_written, is_long_written, are_options_written, is_attribute_written}
use Rattle.laws_printing.proofs.Formatting.ItemsLexed.{all_so, Leads, named, expressed, string_lexed, comma_lexed, paren_opens, paren_closes, bracket_closes, line_ended, string_not_blank}
use Rattle.laws_printing.proofs.Formatting.HeadersLexed.{equals_lexed}

kind_is_name : (k : AttributeKind) → is_name (kind_name k) ≡ true
kind_is_name attributes.Android = refl
kind_is_name attributes.Arg = refl
kind_is_name attributes.Cache = refl
kind_is_name attributes.Confirm = refl
kind_is_name attributes.Default = refl
kind_is_name attributes.Doc = refl
kind_is_name attributes.Dragonfly = refl
kind_is_name attributes.Env = refl
kind_is_name attributes.ExitMessage = refl
kind_is_name attributes.Extension = refl
kind_is_name attributes.Freebsd = refl
kind_is_name attributes.Group = refl
kind_is_name attributes.Linux = refl
kind_is_name attributes.Macos = refl
kind_is_name attributes.Metadata = refl
kind_is_name attributes.Netbsd = refl
kind_is_name attributes.NoCd = refl
kind_is_name attributes.NoExitMessage = refl
kind_is_name attributes.NoQuiet = refl
kind_is_name attributes.Openbsd = refl
kind_is_name attributes.Parallel = refl
kind_is_name attributes.PositionalArguments = refl
kind_is_name attributes.Private = refl
kind_is_name attributes.Script = refl
kind_is_name attributes.Unix = refl
kind_is_name attributes.Windows = refl
kind_is_name attributes.WorkingDirectory = refl

-- an option whose string or expression is written
abbrev pub is_option_written : OptionShape → Bool
is_option_written flag = true
is_option_written multiple = true
is_option_written (long o) = is_long_written o
is_option_written (help s) = is_string s
is_option_written (max s) = is_string s
is_option_written (min s) = is_string s
is_option_written (short s) = is_string s
is_option_written (value e) = is_written e

abbrev pub is_given_written : Option OptionShape → Bool
is_given_written None = false
is_given_written (Some p) = is_option_written p

more_break : {A : Type 0} (f : A → List Word → List Word) (xs : List A) (ws : List Word) (rest : List ℕ) → is_break (first (joined (more_words f xs ws) rest)) ≡ true
more_break f [] ws rest = refl
more_break f (x ∷ xs) ws rest = refl

assigned_option : (m to : Mode) (name s : List ℕ) (ws : List Word) (rest : List ℕ) → is_code m ≡ true → is_name name ≡ true → is_string s ≡ true → is_break (first (joined ws rest)) ≡ true → LexesFrom m ws rest to → LexesFrom m (assigned_words name s ws) rest to
assigned_option m to name s ws rest there n w b l = equals_lexed m to name (string_words s ws) rest there n (string_first s (joined ws rest) w) (string_lexed m to s ws rest there w b l)

option_lexed : (m to : Mode) (p : OptionShape) (ws : List Word) (rest : List ℕ) → is_code m ≡ true → is_option_written p ≡ true → is_break (first (joined ws rest)) ≡ true → LexesFrom m ws rest to → LexesFrom m (option_words p ws) rest to
option_lexed m to flag ws rest there w b l = named m to (codes "flag") ws rest there refl b l
option_lexed m to multiple ws rest there w b l = named m to (codes "multiple") ws rest there refl b l
option_lexed m to (long None) ws rest there w b l = named m to (codes "long") ws rest there refl b l
option_lexed m to (long (Some s)) ws rest there w b l = assigned_option m to (codes "long") s ws rest there refl w b l
option_lexed m to (help s) ws rest there w b l = assigned_option m to (codes "help") s ws rest there refl w b l
option_lexed m to (max s) ws rest there w b l = assigned_option m to (codes "max") s ws rest there refl w b l
option_lexed m to (min s) ws rest there w b l = assigned_option m to (codes "min") s ws rest there refl w b l
option_lexed m to (short s) ws rest there w b l = assigned_option m to (codes "short") s ws rest there refl w b l
option_lexed m to (value e) ws rest there w b l = equals_lexed m to (codes "value") (words_of e ws) rest there refl (first_byte e ws rest w) (expressed m to e ws rest there w b l)

option_first : (p : OptionShape) (ws : List Word) (rest : List ℕ) → not (is_blank (first (joined (option_words p ws) rest))) ≡ true
option_first flag ws rest = refl
option_first multiple ws rest = refl
option_first (long None) ws rest = refl
option_first (long (Some s)) ws rest = refl
option_first (help s) ws rest = refl
option_first (max s) ws rest = refl
option_first (min s) ws rest = refl
option_first (short s) ws rest = refl
option_first (value e) ws rest = refl

-- words of one element of a row
record Lead {A : Type 0} (f : A → List Word → List Word) (ok : A → Bool) : Type 0 where
  leads : (m to : Mode) (x : A) (ws : List Word) (rest : List ℕ) → is_code m ≡ true → ok x ≡ true → is_break (first (joined ws rest)) ≡ true → LexesFrom m ws rest to → LexesFrom m (f x ws) rest to
  starts : (x : A) (ws : List Word) (rest : List ℕ) → ok x ≡ true → not (is_blank (first (joined (f x ws) rest))) ≡ true

strings_lead : Lead string_words is_string
strings_lead = record { leads = λ m to s ws rest there w b l. string_lexed m to s ws rest there w b l; starts = λ s ws rest w. string_not_blank s (joined ws rest) w }

expressions_lead : Lead words_of is_written
expressions_lead = record { leads = λ m to e ws rest there w b l. expressed m to e ws rest there w b l; starts = λ e ws rest w. not_blank (first (joined (words_of e ws) rest)) (first_byte e ws rest w) }

given_lexed : (m to : Mode) (o : Option OptionShape) (ws : List Word) (rest : List ℕ) → is_code m ≡ true → is_given_written o ≡ true → is_break (first (joined ws rest)) ≡ true → LexesFrom m ws rest to → LexesFrom m (given_words o ws) rest to
given_lexed m to None ws rest there w b l = absurd cc
given_lexed m to (Some p) ws rest there w b l = option_lexed m to p ws rest there w b l

given_first : (o : Option OptionShape) (ws : List Word) (rest : List ℕ) → is_given_written o ≡ true → not (is_blank (first (joined (given_words o ws) rest))) ≡ true
given_first None ws rest w = absurd cc
given_first (Some p) ws rest w = option_first p ws rest

given_lead : Lead given_words is_given_written
given_lead = record { leads = given_lexed; starts = given_first }

module _ {A : Type 0} (f : A → List Word → List Word) (ok : A → Bool) (lead : Lead f ok) where
  more_lexed : (m to : Mode) (xs : List A) (ws : List Word) (rest : List ℕ) → is_code m ≡ true → list_all ok xs ≡ true → LexesFrom m ws rest to → LexesFrom (within m (BracketOpen Paren)) (more_words f xs ws) rest to
  more_lexed m to [] ws rest there w l = paren_closes m to ws rest there l
  more_lexed m to (x ∷ xs) ws rest there w l =
      let p = and_parts (ok x) (list_all ok xs) w in
      let inner = within m (BracketOpen Paren) in
      let code = within_is_code m (BracketOpen Paren) there in
      let others = more_words f xs ws in
      comma_lexed inner to (f x others) rest code (lead.starts x others rest p.0) (lead.leads inner to x others rest code p.0 (more_break f xs ws rest) (more_lexed m to xs ws rest there p.1 l))

  row_lexed : (m to : Mode) (x : A) (xs : List A) (ws : List Word) (rest : List ℕ) → is_code m ≡ true → ok x ≡ true → list_all ok xs ≡ true → LexesFrom m ws rest to → LexesFrom (within m (BracketOpen Paren)) (f x (more_words f xs ws)) rest to
  row_lexed m to x xs ws rest there w ws' l = lead.leads (within m (BracketOpen Paren)) to x (more_words f xs ws) rest (within_is_code m (BracketOpen Paren) there) w (more_break f xs ws rest) (more_lexed m to xs ws rest there ws' l)

-- ---- options in order

set_written : (b : Bool) (p : OptionShape) (r : List (Option OptionShape)) → is_option_written p ≡ true → list_all is_given_written r ≡ true → list_all is_given_written (if_set b p ++ r) ≡ true
set_written true p r w ws = rw w ws
set_written false p r w ws = ws

given_written : {A : Type 0} (ok : A → Bool) (o : Option A) (f : A → OptionShape) (r : List (Option OptionShape)) → ((x : A) → ok x ≡ true → is_option_written (f x) ≡ true) → if_there_written ok o ≡ true → list_all is_given_written r ≡ true → list_all is_given_written (if_given o f ++ r) ≡ true
given_written ok None f r know w ws = ws
given_written ok (Some x) f r know w ws = rw (know x w) ws

last_written : (o : Option Shape) → if_there_written is_written o ≡ true → list_all is_given_written (if_given o value) ≡ true
last_written None w = refl
last_written (Some e) w = rw w refl

options_written : (o : OptionsShape) → are_options_written o ≡ true → (is_string o.name ≡ true) × (list_all is_given_written (options_in_order o) ≡ true)
options_written o w =
    let a = and_parts (is_string o.name && if_there_written is_string o.help && if_there_written is_long_written o.long && if_there_written is_string o.max && if_there_written is_string o.min && if_there_written is_string o.short) (if_there_written is_written o.value) w in
    let b = and_parts (is_string o.name && if_there_written is_string o.help && if_there_written is_long_written o.long && if_there_written is_string o.max && if_there_written is_string o.min) (if_there_written is_string o.short) a.0 in
    let c = and_parts (is_string o.name && if_there_written is_string o.help && if_there_written is_long_written o.long && if_there_written is_string o.max) (if_there_written is_string o.min) b.0 in
    let d = and_parts (is_string o.name && if_there_written is_string o.help && if_there_written is_long_written o.long) (if_there_written is_string o.max) c.0 in
    let e = and_parts (is_string o.name && if_there_written is_string o.help) (if_there_written is_long_written o.long) d.0 in
    let f = and_parts (is_string o.name) (if_there_written is_string o.help) e.0 in (
      f.0,
      set_written o.flag flag _ refl (given_written is_string o.help help _ (λ s k. k) f.1 (given_written is_long_written o.long long _ (λ s k. k) e.1 (given_written is_string o.max max _ (λ s k. k) d.1
          (given_written is_string o.min min _ (λ s k. k) c.1 (set_written o.multiple multiple _ refl (given_written is_string o.short short _ (λ s k. k) b.1 (last_written o.value a.1))))))),
    )

-- ---- attributes

abbrev pub are_arguments_written : Arguments → Bool
are_arguments_written nothing = true
are_arguments_written (strings s ss) = is_string s && list_all is_string ss
are_arguments_written (expressions e es) = is_written e && list_all is_written es
are_arguments_written (parameter name ps) = is_string name && list_all is_given_written ps

arguments_written : (x : AttributeShape) → is_attribute_written x ≡ true → are_arguments_written (arguments_of x) ≡ true
arguments_written (plain k) w = refl
arguments_written (with_options o) w = let p = options_written o w in all_so (is_string o.name) (list_all is_given_written (options_in_order o)) p.0 p.1
arguments_written (with_prompt e) w = rw w refl
arguments_written (with_pair k v) w = let p = and_parts (is_written k) (is_written v) w in rw (p.0, p.1) refl
arguments_written (with_string k s) w = rw w refl
arguments_written (with_strings s ss) w = w
arguments_written (with_interpreter i) w = w

arguments_break : (as' : Arguments) (ws : List Word) (rest : List ℕ) → is_break (first (joined ws rest)) ≡ true → is_break (first (joined (argument_words as' ws) rest)) ≡ true
arguments_break nothing ws rest b = b
arguments_break (strings s ss) ws rest b = refl
arguments_break (expressions e es) ws rest b = refl
arguments_break (parameter name ps) ws rest b = refl

arguments_lexed : (m to : Mode) (as' : Arguments) (ws : List Word) (rest : List ℕ) → is_code m ≡ true → are_arguments_written as' ≡ true → LexesFrom m ws rest to → LexesFrom m (argument_words as' ws) rest to
arguments_lexed m to nothing ws rest there w l = l
arguments_lexed m to (strings s ss) ws rest there w l =
    let p = and_parts (is_string s) (list_all is_string ss) w in
    paren_opens m to (string_words s (more_words string_words ss ws)) rest there (row_lexed string_words is_string strings_lead m to s ss ws rest there p.0 p.1 l)
arguments_lexed m to (expressions e es) ws rest there w l =
    let p = and_parts (is_written e) (list_all is_written es) w in
    paren_opens m to (words_of e (more_words words_of es ws)) rest there (row_lexed words_of is_written expressions_lead m to e es ws rest there p.0 p.1 l)
arguments_lexed m to (parameter name ps) ws rest there w l =
    let p = and_parts (is_string name) (list_all is_given_written ps) w in
    let inner = within m (BracketOpen Paren) in
    let row = more_lexed given_words is_given_written given_lead m to ps ws rest there p.1 l in
    paren_opens m to (string_words name (more_words given_words ps ws)) rest there (string_lexed inner to name (more_words given_words ps ws) rest (within_is_code m (BracketOpen Paren) there) p.0 (more_break given_words ps ws rest) row)

attribute_lexed : (m to : Mode) (x : AttributeShape) (ws : List Word) (rest : List ℕ) → is_code m ≡ true → is_attribute_written x ≡ true → is_break (first (joined ws rest)) ≡ true → LexesFrom m ws rest to → LexesFrom m (shape_words x ws) rest to
attribute_lexed m to x ws rest there w b l =
    let as' = arguments_of x in
    named m to (kind_name (kind_of x)) (argument_words as' ws) rest there (kind_is_name (kind_of x)) (arguments_break as' ws rest b) (arguments_lexed m to as' ws rest there (arguments_written x w) l)

-- attributes, one a line, before words that lead on from any line's start
pub attributes_lexed : (to : Mode) (xs : List AttributeShape) (ws : List Word) (rest : List ℕ) → list_all is_attribute_written xs ≡ true → Leads ws rest to → Leads (attributes_words xs ws) rest to
attributes_lexed to [] ws rest w l may = l may
attributes_lexed to (x ∷ xs) ws rest w l may =
    let p = and_parts (is_attribute_written x) (list_all is_attribute_written xs) w in
    let m = in_line false in
    let inner = within m (BracketOpen Bracket) in
    let others = attributes_words xs ws in
    let ended = bracket_closes m to (newline ∷ others) rest refl (line_ended false others rest to (attributes_lexed to xs ws rest p.1 l false)) in
    let inside = attribute_lexed inner to x (close_bracket ∷ newline ∷ others) rest refl p.0 refl ended in
    on_word (at_line may) inner to (word BracketL (codes "[")) (shape_words x (close_bracket ∷ newline ∷ others)) rest (brackets_begin may Bracket (joined (shape_words x (close_bracket ∷ newline ∷ others)) rest)) inside
