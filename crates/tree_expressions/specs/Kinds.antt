-- The form of a string, by its text.
use Rattle.std.specs.Prelude.{ℕ, Bool, true, false, ◌||◌, if◌then◌else◌, List, codes}
use Rattle.tree_expressions.specs.Cutting.{begins, without_front, without_back}
use Rattle.tree_expressions.specs.declared.string_kind.StringDelimiter.{StringDelimiter}
use Rattle.tree_expressions.specs.declared.string_kind.StringDelimiter.TheVariants.{QuoteSingle, QuoteDouble}
use Rattle.tree_expressions.specs.declared.string_kind.StringPrefix.{StringPrefix}
use Rattle.tree_expressions.specs.declared.string_kind.StringPrefix.TheVariants.{Absent, Expand, Format}
use Rattle.tree_expressions.specs.declared.string_kind.StringKind.{StringKind}

-- what stands before the quotes
abbrev pub prefix_of : List ℕ → StringPrefix
prefix_of text = if begins text (codes "x") then Expand else if begins text (codes "f") then Format else Absent

abbrev pub prefix_text : StringPrefix → List ℕ
prefix_text Absent = codes ""
prefix_text Expand = codes "x"
prefix_text Format = codes "f"

-- a string from its quotes on
abbrev pub quoted : List ℕ → List ℕ
quoted text = without_front (prefix_text (prefix_of text)) text

abbrev pub delimiter_of : List ℕ → StringDelimiter
delimiter_of text = if begins (quoted text) (codes "\"") then QuoteDouble else QuoteSingle

-- three quotes open the string
abbrev pub is_tripled : List ℕ → Bool
is_tripled text = begins (quoted text) (codes "'''") || begins (quoted text) (codes "\"\"\"")

unfoldable pub kind_of : List ℕ → StringKind
kind_of text = record { delimiter = delimiter_of text; prefix = prefix_of text; tripled = is_tripled text }

-- what opens a string after its prefix, and closes it
abbrev pub mark : StringDelimiter → Bool → List ℕ
mark QuoteSingle false = codes "'"
mark QuoteSingle true = codes "'''"
mark QuoteDouble false = codes "\""
mark QuoteDouble true = codes "\"\"\""

-- what stands between the marks
abbrev pub contents : List ℕ → List ℕ
contents text = let mark = mark (delimiter_of text) (is_tripled text) in without_back mark (without_front mark (quoted text))
