-- What stands for a text, by the environment.
use Rattle.std.specs.Prelude.{◌≡◌, ℕ, ◌==◌, ◌||◌, List, [], ◌∷◌, ◌++◌, if◌then◌else◌, Bool, codes, Option, Some, None, option_map, unwrap_or, Result, Ok, Err}
use Rattle.std.specs.String.{string_bytes}
use Rattle.std.specs.Str.{chars}
use Rattle.std.specs.Char.{encode_utf8, is_ascii_alphabetic, is_ascii_alphanumeric}
use Rattle.std.specs.BTreeMap.{get_by_text}
use Rattle.just_text.specs.declared.expander.ExpandFault.{ExpandFault}
use Rattle.just_text.specs.declared.expander.ExpandFault.TheVariants.{Refused, OutOfMemory}
use Rattle.program_system.specs.declared.expansion.environment.Environment.{Environment}
use Rattle.program_system.specs.declared.expansion.reading.Mode.{Mode}
use Rattle.program_system.specs.declared.expansion.reading.Mode.TheVariants.{Plain, Dollar, Name, Braces, Colon, Otherwise}

-- the value of the variable of this name, if it is set
abbrev pub value : Environment → List ℕ → Option (List ℕ)
value environment name = option_map string_bytes (get_by_text environment.variables name)

-- what was read: what stands for the text so far, and the reference at its end
pub record Read : Type 0 where
  pub mode : Mode
  pub output : List ℕ
  pub name : List ℕ
  pub otherwise : List ℕ

-- nothing was read, after what this stands for
abbrev pub begun : List ℕ → Read
begun output = record { mode = Plain; output = output; name = []; otherwise = [] }

abbrev pub in_mode : Read → Mode → Read
in_mode r mode = record { mode = mode; output = r.output; name = r.name; otherwise = r.otherwise }

-- a text more that stands for what was read
abbrev pub put : Read → List ℕ → Read
put r text = record { mode = Plain; output = r.output ++ text; name = r.name; otherwise = r.otherwise }

abbrev pub name_more : Read → Mode → ℕ → Read
name_more r mode c = record { mode = mode; output = r.output; name = r.name ++ encode_utf8 c; otherwise = r.otherwise }

abbrev pub otherwise_more : Read → ℕ → Read
otherwise_more r c = record { mode = r.mode; output = r.output; name = r.name; otherwise = r.otherwise ++ encode_utf8 c }

-- a letter or `_`
abbrev pub begins_name : ℕ → Bool
begins_name c = is_ascii_alphabetic c || c == 95

-- a letter, a digit or `_`
abbrev pub is_of_name : ℕ → Bool
is_of_name c = is_ascii_alphanumeric c || c == 95

abbrev pub continues_name : List ℕ → ℕ → Bool
continues_name [] c = begins_name c
continues_name (b ∷ bs) c = is_of_name c

-- a character that belongs to no reference; `$` begins one
abbrev pub plain : Read → ℕ → Read
plain r c = if c == 36 then record { mode = Dollar; output = r.output; name = []; otherwise = [] } else put r (encode_utf8 c)

-- a `$` that begins no reference stays, with the character after it
abbrev pub with_dollar : Read → ℕ → Read
with_dollar r c = put (put r (encode_utf8 36)) (encode_utf8 c)

abbrev pub behind_dollar : Read → ℕ → Read
behind_dollar r c =
    if c == 123 then in_mode r Braces
    else if begins_name c then name_more r Name c
    else with_dollar r c

-- the value in the reference's place; an unset name is refused
abbrev pub put_or_refuse : Read → Option (List ℕ) → Result Read (List ℕ)
put_or_refuse r (Some text) = Ok (put r text)
put_or_refuse r None = Err r.name

abbrev pub named : Environment → Read → Result Read (List ℕ)
named environment r = put_or_refuse r (value environment r.name)

-- the value in the reference's place, or the other text where the name is unset
abbrev pub otherwise : Environment → Read → Read
otherwise environment r = put r (unwrap_or (value environment r.name) r.otherwise)

-- a character after what may be refused
abbrev pub plain_behind : Result Read (List ℕ) → ℕ → Result Read (List ℕ)
plain_behind (Ok r) c = Ok (plain r c)
plain_behind (Err text) c = Err text

abbrev pub in_name : Environment → Read → ℕ → Result Read (List ℕ)
in_name environment r c = if is_of_name c then Ok (name_more r r.mode c) else plain_behind (named environment r) c

-- what an ill-formed reference is refused with: its beginning, up to the name's end
abbrev pub opened : List ℕ → List ℕ
opened name = codes "${" ++ name

-- what stands after a name in braces: the closing brace, or a colon
abbrev pub behind_name : Environment → Read → ℕ → Result Read (List ℕ)
behind_name environment r c =
    if c == 125 then named environment r
    else if c == 58 then Ok (in_mode r Colon)
    else Err (opened r.name)

abbrev pub unless_empty : List ℕ → Result Read (List ℕ) → Result Read (List ℕ)
unless_empty [] given = Err (opened [])
unless_empty (b ∷ bs) given = given

abbrev pub in_braces : Environment → Read → ℕ → Result Read (List ℕ)
in_braces environment r c =
    if continues_name r.name c then Ok (name_more r r.mode c)
    else unless_empty r.name (behind_name environment r c)

abbrev pub behind_colon : Read → ℕ → Result Read (List ℕ)
behind_colon r c = if c == 45 then Ok (in_mode r Otherwise) else Err (opened r.name)

abbrev pub in_otherwise : Environment → Read → ℕ → Read
in_otherwise environment r c = if c == 125 then otherwise environment r else otherwise_more r c

-- what the next character makes of what was read, by what the reading is in
abbrev pub taken_in : Mode → Environment → Read → ℕ → Result Read (List ℕ)
taken_in Plain environment r c = Ok (plain r c)
taken_in Dollar environment r c = Ok (behind_dollar r c)
taken_in Name environment r c = in_name environment r c
taken_in Braces environment r c = in_braces environment r c
taken_in Colon environment r c = behind_colon r c
taken_in Otherwise environment r c = Ok (in_otherwise environment r c)

abbrev pub taken : Environment → Read → ℕ → Result Read (List ℕ)
taken environment r c = taken_in r.mode environment r c

-- at the end of the text a `$` stays, a name ends, and braces are left open
abbrev pub ended_in : Mode → Environment → Read → Result Read (List ℕ)
ended_in Plain environment r = Ok r
ended_in Dollar environment r = Ok (record { mode = r.mode; output = r.output ++ encode_utf8 36; name = r.name; otherwise = r.otherwise })
ended_in Name environment r = named environment r
ended_in Braces environment r = Err (opened r.name)
ended_in Colon environment r = Err (opened r.name)
ended_in Otherwise environment r = Err (opened r.name)

abbrev pub ended : Environment → Read → Result Read (List ℕ)
ended environment r = ended_in r.mode environment r

abbrev pub output_of : Result Read (List ℕ) → Result (List ℕ) (List ℕ)
output_of (Ok r) = Ok r.output
output_of (Err text) = Err text

-- what stands for the whole text, which ends here
abbrev pub finished : Environment → Read → Result (List ℕ) (List ℕ)
finished environment r = output_of (ended environment r)

-- what follows where a character is taken, and the refusal where it isn't
abbrev pub goes_on : Result Read (List ℕ) → (Read → Result (List ℕ) (List ℕ)) → Result (List ℕ) (List ℕ)
goes_on (Ok r) rest = rest r
goes_on (Err text) rest = Err text

-- what stands for a text of which these characters are left
unfoldable pub read : Environment → Read → List ℕ → Result (List ℕ) (List ℕ)
read environment r [] = finished environment r
read environment r (c ∷ cs) = goes_on (taken environment r c) (λ next. read environment next cs)

abbrev pub home : List ℕ
home = codes "HOME"

-- the rest of a text after the user's folder
abbrev pub behind_home : Environment → Option (List ℕ) → List ℕ → Result (List ℕ) (List ℕ)
behind_home environment (Some folder) rest = read environment (begun folder) (chars rest)
behind_home environment None rest = Err home

-- what stands for a text: a leading `~` is the user's folder, `$NAME` and `${NAME}` are values, `${NAME:-text}` is the value or else the text; with the unset name, or the beginning of the ill-formed reference, where it is refused
unfoldable pub expansion : Environment → List ℕ → Result (List ℕ) (List ℕ)
expansion environment [] = read environment (begun []) (chars [])
expansion environment (b ∷ bs) = if b == 126 then behind_home environment (value environment home) bs else read environment (begun []) (chars (b ∷ bs))

-- this refusal, unless memory ran out
abbrev pub IsRefusal : List ℕ → ExpandFault → Type 0
IsRefusal given (Refused text) = text ≡ given
IsRefusal given OutOfMemory = Unit {0}

-- a step leads to what is given, or is refused so, unless memory ran out
abbrev pub LeadsTo : {A : Type 0} → Result Read (List ℕ) → Result A ExpandFault → Read → Type 0
LeadsTo given (Ok u) new = given ≡ Ok new
LeadsTo given (Err (Refused text)) new = given ≡ Err text
LeadsTo given (Err OutOfMemory) new = Unit {0}
