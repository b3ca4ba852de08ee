-- Frames: bindings by their numbers, and which of several frames a number is looked up in.
use Rattle.std.specs.Prelude.{◌≡◌, ℕ, ◌==◌, Bool, true, false, cond, List, [], ◌∷◌, map, length, slice_get, codes, Option, Some, None}
use Rattle.std.specs.List.Sorted.{IsStrictlySortedBy}
use Rattle.std.specs.Option.{option_map, option_or}
use Rattle.std.specs.Ordering.{nat_cmp}
use Rattle.just_text.specs.declared.name.Name.{Name}
use Rattle.just_text.specs.declared.token_kind.TokenKind.{TokenKind}
use Rattle.just_text.specs.declared.token_kind.TokenKind.TheVariants.{Identifier}
use Rattle.just_value.specs.declared.bound.Bound.{Bound}

-- a name where it is written, without where it lies in memory
pub record WrittenName : Type 0 where
  pub column : ℕ
  pub kind : TokenKind
  pub length : ℕ
  pub line : ℕ
  pub offset : ℕ
  pub path : List ℕ
  pub src : List ℕ

abbrev pub written_name : Name → WrittenName
written_name n = record {
  column = n.token.column;
  kind = n.token.kind;
  length = n.token.length;
  line = n.token.line;
  offset = n.token.offset;
  path = n.token.path.now;
  src = n.token.src.now;
}

-- a binding: its words, its name where it is written, its number and the texts of its value
pub record BoundRow : Type 0 where
  pub export : Bool
  pub name : WrittenName
  pub number : ℕ
  pub prelude : Bool
  pub value : List (List ℕ)

unfoldable pub bound_of : Bound → BoundRow
bound_of b = record {
  export = b.export;
  name = written_name b.name;
  number = b.number;
  prelude = b.prelude;
  value = b.value;
}

-- the binding of a number in one frame
abbrev pub bound_in : List BoundRow → ℕ → Option BoundRow
bound_in [] number = None
bound_in (binding ∷ bindings) number = cond (number == binding.number) (Some binding) (bound_in bindings number)

-- the binding of a number in the first frame that has it
abbrev pub found_in : List (List BoundRow) → ℕ → Option BoundRow
found_in [] number = None
found_in (frame ∷ frames) number = option_or (bound_in frame number) (found_in frames number)

-- the second frame has the binding at its number, and else what the first has
abbrev pub Rebinds : List BoundRow → BoundRow → List BoundRow → Type 0
Rebinds old binding new = (number : ℕ) → bound_in new number ≡ cond (number == binding.number) (Some binding) (bound_in old number)

-- no number comes twice, and each before the greater ones
abbrev pub ByNumber : List BoundRow → Type 0
ByNumber frame = IsStrictlySortedBy nat_cmp (map (λ b. b.number) frame)

-- a frame and those around it, innermost first
pub record Frames : Type 0 where
  pub own : List BoundRow
  pub outer : List (List BoundRow)

abbrev pub look_up : Frames → ℕ → Option BoundRow
look_up frames number = found_in (frames.own ∷ frames.outer) number

-- a constant by its row and number
abbrev pub constant_binding : ℕ → List ℕ × List ℕ → BoundRow
constant_binding number row = record {
  export = false;
  name = record { column = 0; kind = Identifier; length = length row.0; line = 0; offset = 0; path = codes "PRELUDE"; src = row.0 };
  number = number;
  prelude = true;
  value = row.1 ∷ [];
}

-- a name with its number and its value, no constant
abbrev pub value_binding : Name → ℕ → Bool → List (List ℕ) → BoundRow
value_binding name number export value = record {
  export = export;
  name = written_name name;
  number = number;
  prelude = false;
  value = value;
}

-- each number is bound to the row at its place, and no other number is bound
abbrev pub BindsRows : List (List ℕ × List ℕ) → List BoundRow → Type 0
BindsRows rows frame = (number : ℕ) → bound_in frame number ≡ option_map (constant_binding number) (slice_get rows number)
