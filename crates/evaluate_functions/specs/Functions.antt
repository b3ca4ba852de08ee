-- What the built-in functions answer that their arguments determine.
use Rattle.std.specs.Prelude.{◌≡◌, ⊤, ℕ, zero, suc, ◌-◌, nat_lt, Bool, true, false, cond, if◌then◌else◌, List, [], ◌∷◌, ◌++◌, map, reverse, fold, length, filter, codes, Option, Some, None, Result, Ok, Err}
use Rattle.std.specs.Fmt.{decimal}
use Rattle.std.specs.List.{flat_map, list_all, slice_get}
use Rattle.std.specs.Option.{option_map, option_or, unwrap_or}
use Rattle.std.specs.Str.{chars, encode_utf8_all, trim, trim_start, trim_end}
use Rattle.std.specs.Char.{is_ascii, is_whitespace, to_ascii_lowercase, to_ascii_uppercase}
use Rattle.tree_expressions.specs.Cutting.{begins, without_front, without_back}
use Rattle.just_value.specs.Paths.{directory, extension, file_name, file_stem, join, stemmed, lacking, stem_fault}
use Rattle.just_value.specs.Uris.{uri_byte}
use Rattle.just_value.specs.Values.{joined, value_text}
use Rattle.evaluate_functions.specs.Values.{boolean, said, quoted}
use Rattle.evaluate_functions.specs.declared.cases.Case.{Case}
use Rattle.evaluate_functions.specs.declared.cases.Case.TheVariants.{First, Lower, Upper}
use Rattle.evaluate_functions.specs.declared.fault.FunctionFault.{FunctionFault}
use Rattle.evaluate_functions.specs.declared.fault.FunctionFault.TheVariants.{OutOfMemory, Message}
use Rattle.evaluate_functions.specs.declared.function.Function.{Function}
use Rattle.evaluate_functions.specs.declared.function.Function.TheVariants.{Append, Bool as BoolOf, Capitalize, EncodeUriComponent, Error, Extension, FileName, FileStem, Join, JoinList, Len, Lowercase, ParentDirectory, Prepend, Quote, Replace, Show, Split, Trim, TrimEnd, TrimEndMatch, TrimEndMatches, TrimStart, TrimStartMatch, TrimStartMatches, Uppercase, WithoutExtension}

abbrev Value : Type 0
Value = List (List ℕ)

-- a function gives the value or refuses with the text that is its answer, unless memory runs out
abbrev pub Answers : Result Value (List ℕ) → Result Value FunctionFault → Type 0
Answers answer (Ok value) = answer ≡ Ok value
Answers answer (Err (Message text)) = answer ≡ Err text
Answers answer (Err OutOfMemory) = ⊤

-- the first text of a value; the empty one where it has none
abbrev pub first_text : Value → List ℕ
first_text [] = []
first_text (text ∷ texts) = text

-- the argument at a place; the empty value where there is none
abbrev pub value_at : List Value → ℕ → Value
value_at values place = unwrap_or (slice_get values place) []

-- the first text of the argument at a place
abbrev pub text_at : List Value → ℕ → List ℕ
text_at values place = first_text (value_at values place)

-- a character before the first of several runs of characters
abbrev pub onto_first : ℕ → List (List ℕ) → List (List ℕ)
onto_first c [] = (c ∷ []) ∷ []
onto_first c (run ∷ runs) = (c ∷ run) ∷ runs

-- the runs of characters between those that are white space, some of them empty
abbrev pub runs_of : List ℕ → List (List ℕ)
runs_of [] = [] ∷ []
runs_of (c ∷ cs) = cond (is_whitespace c) ([] ∷ runs_of cs) (onto_first c (runs_of cs))

-- the words of a text: what stands between white space
abbrev pub words_of : List ℕ → List (List ℕ)
words_of text = map encode_utf8_all (filter (λ run. nat_lt 0 (length run)) (runs_of (chars text)))

-- the characters of a text, each as a text
abbrev pub characters_of : List ℕ → List (List ℕ)
characters_of text = map (λ c. encode_utf8_all (c ∷ [])) (chars text)

-- what stands between the marks in a text, of which so many bytes are read as a mark already; the mark isn't empty
abbrev pub between : List ℕ → ℕ → List ℕ → List (List ℕ)
between mark (suc read) (b ∷ bs) = between mark read bs
between mark zero (b ∷ bs) = cond (begins (b ∷ bs) mark) ([] ∷ between mark (length mark - 1) bs) (onto_first b (between mark zero bs))
between mark read [] = [] ∷ []

-- the parts of a text between the separators; its characters where that is empty
abbrev pub split_at : List ℕ → List ℕ → List (List ℕ)
split_at [] text = characters_of text
split_at (b ∷ bs) text = between (b ∷ bs) 0 text

-- texts with another between two
abbrev pub joined_by : List ℕ → List (List ℕ) → List ℕ
joined_by separator [] = []
joined_by separator (text ∷ texts) = text ++ flat_map (λ more. separator ++ more) texts

-- a text with `to` for each `from`, from the left; an empty one stands before each character and at the end
abbrev pub replaced : List ℕ → List ℕ → List ℕ → List ℕ
replaced [] to text = flat_map (λ character. to ++ character) (characters_of text) ++ to
replaced (b ∷ bs) to text = joined_by to (between (b ∷ bs) 0 text)

-- a text without marks at its front, each of which is as long as so many more bytes; the mark isn't empty
abbrev pub without_fronts : List ℕ → ℕ → List ℕ → List ℕ
without_fronts mark (suc read) (b ∷ bs) = without_fronts mark read bs
without_fronts mark zero (b ∷ bs) = cond (begins (b ∷ bs) mark) (without_fronts mark (length mark - 1) bs) (b ∷ bs)
without_fronts mark read [] = []

-- a text without all such marks at its front, and at its end; an empty mark changes nothing
abbrev pub without_all_fronts : List ℕ → List ℕ → List ℕ
without_all_fronts [] text = text
without_all_fronts (b ∷ bs) text = without_fronts (b ∷ bs) 0 text

abbrev pub without_all_backs : List ℕ → List ℕ → List ℕ
without_all_backs mark text = reverse (without_all_fronts (reverse mark) (reverse text))

-- a text in other letters, if it is ASCII
abbrev pub recased : (List ℕ → List ℕ) → List ℕ → Result Value (List ℕ)
recased to text = if list_all is_ascii text then Ok (to text ∷ []) else Err (codes "`" ++ (text ++ codes "` is not ASCII"))

-- the first letter alone is a capital
abbrev pub capitalized : List ℕ → List ℕ
capitalized [] = []
capitalized (b ∷ bs) = to_ascii_uppercase b ∷ map to_ascii_lowercase bs

-- letters in a case
abbrev pub letters : Case → List ℕ → List ℕ
letters First text = capitalized text
letters Lower text = map to_ascii_lowercase text
letters Upper text = map to_ascii_uppercase text

-- a part, or the refusal where there is none
abbrev pub part_or : List ℕ → Option (List ℕ) → Result Value (List ℕ)
part_or refusal (Some text) = Ok (text ∷ [])
part_or refusal None = Err refusal

-- under `lists` each element, else the words of the join, put together again with a space between
abbrev pub each_or_words : Bool → (List ℕ → List ℕ) → Value → Value
each_or_words true change value = map change value
each_or_words false change value = joined (map change (words_of (joined value))) ∷ []

abbrev pub said_of : Bool → List ℕ → Option Bool → Result Value (List ℕ)
said_of lists text (Some holds) = Ok (boolean lists holds)
said_of lists text None = Err (codes "`" ++ (text ++ codes "` is not a valid boolean string"))

-- what a value says as a boolean value
abbrev pub bool_of : Bool → Value → Result Value (List ℕ)
bool_of lists [] = Ok (boolean lists false)
bool_of lists (text ∷ []) = said_of lists text (said text)
bool_of lists (text ∷ other ∷ others) = Err (codes "multi-element lists cannot be converted into booleans")

-- paths put together from the left
abbrev pub path_of : List Value → List ℕ
path_of values = fold (λ path value. join path (first_text value)) [] values

-- what stands between the elements of a list that are joined
abbrev pub separator_in : List Value → List ℕ
separator_in (value ∷ separator ∷ others) = first_text separator
separator_in values = codes " "

-- the words of a text, or its parts between separators
abbrev pub split_of : List Value → Value
split_of (value ∷ separator ∷ others) = split_at (first_text separator) (first_text value)
split_of values = words_of (text_at values 0)

-- a text without the white space at its ends
abbrev pub trimmed : Function → List ℕ → Option (List ℕ)
trimmed Trim text = Some (trim text)
trimmed TrimEnd text = Some (trim_end text)
trimmed TrimStart text = Some (trim_start text)
trimmed _ text = None

-- a text without the mark at its front or its end, once or as often as it stands there
abbrev pub stripped : Function → List ℕ → List ℕ → Option (List ℕ)
stripped TrimEndMatch mark text = Some (without_back mark text)
stripped TrimEndMatches mark text = Some (without_all_backs mark text)
stripped TrimStartMatch mark text = Some (without_front mark text)
stripped TrimStartMatches mark text = Some (without_all_fronts mark text)
stripped _ mark text = None

-- the case that a function gives letters
abbrev pub case_of : Function → Option Case
case_of Capitalize = Some First
case_of Lowercase = Some Lower
case_of Uppercase = Some Upper
case_of _ = None

-- the part of a path, or the refusal of a path without it
abbrev pub path_answer : Function → List ℕ → Option (Result Value (List ℕ))
path_answer Extension path = Some (part_or (lacking (codes "extension") path) (extension path))
path_answer FileName path = Some (part_or (lacking (codes "file name") path) (file_name path))
path_answer FileStem path = Some (part_or (lacking (codes "file stem") path) (file_stem path))
path_answer ParentDirectory path = Some (part_or (lacking (codes "parent directory") path) (directory path))
path_answer WithoutExtension path = Some (part_or (stem_fault path) (stemmed path))
path_answer _ path = None

-- what is made of texts
abbrev pub text_answer : Function → List Value → Option Value
text_answer EncodeUriComponent values = Some (flat_map uri_byte (text_at values 0) ∷ [])
text_answer Join values = Some (path_of values ∷ [])
text_answer Replace values = Some (replaced (text_at values 1) (text_at values 2) (text_at values 0) ∷ [])
text_answer Split values = Some (split_of values)
text_answer _ values = None

-- what is made of a whole value, or the refusal
abbrev pub value_answer : Bool → Function → List Value → Option (Result Value (List ℕ))
value_answer lists Append values = Some (Ok (each_or_words lists (λ text. text ++ text_at values 0) (value_at values 1)))
value_answer lists Prepend values = Some (Ok (each_or_words lists (λ text. text_at values 0 ++ text) (value_at values 1)))
value_answer lists BoolOf values = Some (bool_of lists (value_at values 0))
value_answer lists Error values = Some (Err (text_at values 0))
value_answer lists JoinList values = Some (Ok (joined_by (separator_in values) (value_at values 0) ∷ []))
value_answer lists Len values = Some (Ok (decimal (length (value_at values 0)) ∷ []))
value_answer lists Quote values = Some (Ok (map quoted (value_at values 0)))
value_answer lists Show values = Some (Ok (value_text (value_at values 0) ∷ []))
value_answer lists _ values = None

-- what a function answers to its arguments, or the refusal that it says; none where they don't determine it
abbrev pub pure : Bool → Function → List Value → Option (Result Value (List ℕ))
pure lists function values =
    option_or (option_map (λ part. Ok (part ∷ [])) (option_or (trimmed function (text_at values 0)) (stripped function (text_at values 1) (text_at values 0))))
    (option_or (option_map (λ case. recased (letters case) (text_at values 0)) (case_of function))
    (option_or (path_answer function (text_at values 0))
    (option_or (option_map (λ value. Ok value) (text_answer function values))
    (value_answer lists function values))))

-- the answer or refusal is given, or there is none
abbrev pub AnswersAny : Option (Result Value (List ℕ)) → Option (Result Value FunctionFault) → Type 0
AnswersAny (Some answer) (Some given) = Answers answer given
AnswersAny (Some answer) None = ⊥
AnswersAny None (Some given) = ⊥
AnswersAny None None = ⊤
