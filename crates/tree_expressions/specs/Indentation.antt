-- The lines of a text without the indentation that they share.
use Rattle.std.specs.Prelude.{ℕ, Bool, true, false, ◌||◌, ◌==◌, if◌then◌else◌, List, [], ◌∷◌, ◌++◌, take, take_while, fold, Option, Some, None, unwrap_or}
use Rattle.std.specs.List.{list_all, common_prefix_len}
use Rattle.tree_expressions.specs.Cutting.{without_front}

-- a byte in front of the first of these lines
abbrev pub onto_line : ℕ → List (List ℕ) → List (List ℕ)
onto_line b [] = (b ∷ []) ∷ []
onto_line b (line ∷ lines) = (b ∷ line) ∷ lines

-- the lines of a text, cut after each newline
unfoldable pub lines_of : List ℕ → List (List ℕ)
lines_of [] = []
lines_of (b ∷ bs) = if b == 10 then (b ∷ []) ∷ lines_of bs else onto_line b (lines_of bs)

-- a space or a tab
abbrev pub is_indent : ℕ → Bool
is_indent b = b == 32 || b == 9

-- a space, a tab, a carriage return or a newline
abbrev pub is_white : ℕ → Bool
is_white b = is_indent b || (b == 13 || b == 10)

-- a line of white space alone
abbrev pub is_blank : List ℕ → Bool
is_blank line = list_all is_white line

-- the spaces and tabs that a line begins with
abbrev pub leading : List ℕ → List ℕ
leading line = take_while is_indent line

-- the longest run with which both begin
abbrev pub shared : List ℕ → List ℕ → List ℕ
shared run other = take (common_prefix_len (λ a b. a == b) run other) run

-- the run that the lines before share, if any of them isn't blank, and this line's too
abbrev pub narrowed : Option (List ℕ) → List ℕ → Option (List ℕ)
narrowed None line = if is_blank line then None else Some (leading line)
narrowed (Some run) line = if is_blank line then Some run else Some (shared run (leading line))

-- the longest run of spaces and tabs with which each line begins that isn't blank; None where all are blank
abbrev pub indentation : List (List ℕ) → Option (List ℕ)
indentation lines = fold narrowed None lines

-- what stays of a line: a blank one is a newline, or nothing if it is the first or the last
abbrev pub kept : List ℕ → Bool → List ℕ → List ℕ
kept run outer line = if is_blank line then (if outer then [] else 10 ∷ []) else without_front run line

-- there are no lines
abbrev pub are_none : List (List ℕ) → Bool
are_none [] = true
are_none (line ∷ lines) = false

-- what stays of lines, the first of which is the text's first line or a later one
unfoldable pub all_kept : List ℕ → Bool → List (List ℕ) → List ℕ
all_kept run first [] = []
all_kept run first (line ∷ lines) = kept run (first || are_none lines) line ++ all_kept run false lines

-- the text without the indentation of its lines
unfoldable pub unindented : List ℕ → List ℕ
unindented text = all_kept (unwrap_or (indentation (lines_of text)) []) true (lines_of text)
