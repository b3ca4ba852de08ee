-- The texts of variables.
use Rattle.std.specs.Prelude.{ℕ, ◌-◌, List, [], ◌∷◌, ◌++◌, Option, Some, None, codes, length, max, option_map, replicate, if◌then◌else◌}
use Rattle.std.specs.List.{flat_map}
use Rattle.just_text.specs.Tokens.{lexeme}
use Rattle.just_value.specs.Frames.{Frames, look_up}
use Rattle.just_value.specs.Values.{value_text}
use Rattle.evaluate_context.specs.declared.context.AssignmentRef.{AssignmentRef}

-- how long the name is; that of a private variable does not count
abbrev pub counted_name : AssignmentRef → ℕ
counted_name variable = if variable.assignment.now.private then 0 else length (lexeme variable.assignment.now.name.token)

-- the length of the longest name that counts
abbrev pub longest : List AssignmentRef → ℕ
longest [] = 0
longest (variable ∷ variables) = max (counted_name variable) (longest variables)

-- a name, with spaces up to the column, and its value; nothing where there is no value
abbrev pub value_line : ℕ → List ℕ → Option (List (List ℕ)) → List ℕ
value_line column name None = []
value_line column name (Some value) = name ++ (replicate (column - length name) 32 ++ (codes " := " ++ (value_text value ++ codes "\n")))

-- a variable's line with its value in the frames; nothing where it is private
abbrev pub variable_line : Frames → ℕ → AssignmentRef → List ℕ
variable_line frames column variable =
    if variable.assignment.now.private then [] else value_line column (lexeme variable.assignment.now.name.token) (option_map (λ b. b.value) (look_up frames variable.assignment.now.number))

-- a line for each variable, with the values after the longest name
abbrev pub variables_text : Frames → List AssignmentRef → List ℕ
variables_text frames variables = flat_map (variable_line frames (longest variables)) variables
