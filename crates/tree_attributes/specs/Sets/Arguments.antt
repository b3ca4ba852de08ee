-- The arguments of attributes as they are printed.
use Rattle.std.specs.Prelude.{ℕ, List, [], ◌++◌, codes}
use Rattle.tree_attributes.specs.Attributes.{AttributeShape, plain, with_options, with_prompt, with_pair, with_string, with_strings, with_interpreter, options_text, strings_text, expressions_text}
use Rattle.tree_expressions.specs.Printing.{text_of}

-- the arguments without the parentheses, and nothing where there are none
abbrev pub arguments_text : AttributeShape → List ℕ
arguments_text (plain k) = []
arguments_text (with_options o) = options_text o
arguments_text (with_prompt e) = text_of e
arguments_text (with_pair k v) = text_of k ++ codes ", " ++ text_of v
arguments_text (with_string k text) = text
arguments_text (with_strings text texts) = text ++ strings_text texts
arguments_text (with_interpreter i) = expressions_text i
