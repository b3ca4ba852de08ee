-- What stands at the ends of a text, and what is cut off them.
use Rattle.std.specs.Prelude.{ℕ, ◌-◌, ◌==◌, Bool, if◌then◌else◌, List, length, take, drop}
use Rattle.std.specs.List.{starts_with, ends_with}

-- the text begins with this
abbrev pub begins : List ℕ → List ℕ → Bool
begins text front = starts_with (λ a b. a == b) text front

-- the text ends with this
abbrev pub ends : List ℕ → List ℕ → Bool
ends text back = ends_with (λ a b. a == b) text back

-- the text without this front, if it begins with it
abbrev pub without_front : List ℕ → List ℕ → List ℕ
without_front front text = if begins text front then drop (length front) text else text

-- the text without this back, if it ends with it
abbrev pub without_back : List ℕ → List ℕ → List ℕ
without_back back text = if ends text back then take (length text - length back) text else text
