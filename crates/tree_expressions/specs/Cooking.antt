-- What strings and commands stand for.
use Rattle.std.specs.Prelude.{ℕ, Bool, if◌then◌else◌, List, Result, Ok, Err, codes}
use Rattle.just_text.specs.declared.compile_error.CompileErrorKind.{CompileErrorKind}
use Rattle.just_text.specs.declared.compile_error.CompileErrorKind.TheVariants.{ShellExpansion}
use Rattle.tree_expressions.specs.Cutting.{begins, without_front, without_back}
use Rattle.tree_expressions.specs.Escaping.{unescaped}
use Rattle.tree_expressions.specs.Indentation.{unindented}
use Rattle.tree_expressions.specs.Kinds.{prefix_of, delimiter_of, is_tripled, contents}
use Rattle.tree_expressions.specs.declared.string_kind.StringDelimiter.{StringDelimiter}
use Rattle.tree_expressions.specs.declared.string_kind.StringDelimiter.TheVariants.{QuoteSingle, QuoteDouble}
use Rattle.tree_expressions.specs.declared.string_kind.StringPrefix.{StringPrefix}
use Rattle.tree_expressions.specs.declared.string_kind.StringPrefix.TheVariants.{Expand}

-- after three marks a text is unindented
abbrev pub laid_out : Bool → List ℕ → List ℕ
laid_out tripled text = if tripled then unindented text else text

-- double quotes have escapes, single ones have none
abbrev pub read_escapes : StringDelimiter → List ℕ → Result (List ℕ) CompileErrorKind
read_escapes QuoteSingle text = Ok text
read_escapes QuoteDouble text = unescaped text

-- what an expansion answers, as a refusal
abbrev pub told : Result (List ℕ) (List ℕ) → Result (List ℕ) CompileErrorKind
told (Ok text) = Ok text
told (Err refused) = Err (ShellExpansion refused)

-- after `x` a text is expanded
abbrev pub expanded : (List ℕ → Result (List ℕ) (List ℕ)) → StringPrefix → Result (List ℕ) CompileErrorKind → Result (List ℕ) CompileErrorKind
expanded expansion Expand (Ok text) = told (expansion text)
expanded expansion prefix answer = answer

-- what a string stands for: it is unindented, then its escapes are read, and then it is expanded
unfoldable pub cooked : (List ℕ → Result (List ℕ) (List ℕ)) → List ℕ → Result (List ℕ) CompileErrorKind
cooked expansion text = expanded expansion (prefix_of text) (read_escapes (delimiter_of text) (laid_out (is_tripled text) (contents text)))

-- three backticks open the command
abbrev pub is_tripled_command : List ℕ → Bool
is_tripled_command text = begins text (codes "```")

abbrev pub backticks : Bool → List ℕ
backticks tripled = if tripled then codes "```" else codes "`"

-- what stands between the backticks of a command
abbrev pub command_contents : List ℕ → List ℕ
command_contents text = let mark = backticks (is_tripled_command text) in without_back mark (without_front mark text)

-- a command, without its backticks
unfoldable pub command : List ℕ → List ℕ
command text = laid_out (is_tripled_command text) (command_contents text)
