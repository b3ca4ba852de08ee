-- What the parts of a format string stand for.
use Rattle.std.specs.Prelude.{ℕ, zero, suc, if◌then◌else◌, List, [], ◌∷◌, Result, codes}
use Rattle.just_text.specs.declared.compile_error.CompileErrorKind.{CompileErrorKind}
use Rattle.tree_expressions.specs.Cutting.{begins, ends, without_front, without_back}
use Rattle.tree_expressions.specs.Kinds.{mark}
use Rattle.tree_expressions.specs.Cooking.{read_escapes}
use Rattle.tree_expressions.specs.declared.string_kind.StringKind.{StringKind}

-- the text of a part after `}}`, or after what opens the string
abbrev pub behind_opening : List ℕ → List ℕ → List ℕ
behind_opening mark part = if begins part (codes "}}") then without_front (codes "}}") part else without_front mark (without_front (codes "f") part)

-- the text of a part before `{{`, or before what closes the string
abbrev pub before_closing : List ℕ → List ℕ → List ℕ
before_closing mark part = if ends part (codes "{{") then without_back (codes "{{") part else without_back mark part

-- the text of a part of a string with this mark
abbrev pub part_contents : List ℕ → List ℕ → List ℕ
part_contents mark part = before_closing mark (behind_opening mark part)

-- from the left, two braces for each four; so many bytes at the front are read already
unfoldable pub halved_behind : ℕ → List ℕ → List ℕ
halved_behind n [] = []
halved_behind (suc n) (b ∷ bs) = halved_behind n bs
halved_behind zero (b ∷ bs) = if begins (b ∷ bs) (codes "{{{{") then 123 ∷ 123 ∷ halved_behind 3 bs else b ∷ halved_behind 0 bs

-- a text with `{{` for each `{{{{`
abbrev pub halved : List ℕ → List ℕ
halved text = halved_behind 0 text

-- what a part of a string of this kind stands for: `{{{{` is `{{`, and then its escapes are read
unfoldable pub cooked_part : StringKind → List ℕ → Result (List ℕ) CompileErrorKind
cooked_part kind part = read_escapes kind.delimiter (halved (part_contents (mark kind.delimiter kind.tripled) part))
