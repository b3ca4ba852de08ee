-- The names that `arg`s say, as they are met one after the other.
use Rattle.std.specs.Prelude.{ℕ, ◌≡◌, Bool, true, not, ◌&&◌, List, [], ◌∷◌, Option, Some, None, if◌then◌else◌}
use Rattle.std.specs.Borrow.{Bor}
use Rattle.std.specs.BTreeSet.{BTreeSet}
use Rattle.just_text.specs.declared.compile_error.CompileErrorKind.{CompileErrorKind}
use Rattle.just_text.specs.declared.compile_error.CompileErrorKind.TheVariants as kinds
use Rattle.tree_expressions.specs.declared.string_literal.StringLiteral.{StringLiteral}
use Rattle.tree_attributes.specs.declared.attribute.LongName.{LongName}
use Rattle.tree_attributes.specs.declared.attribute.LongName.TheVariants.{Absent, Named, OfParameter}
use Rattle.tree_attributes.specs.Attributes.{OptionsShape}
use Rattle.parse_expressions.specs.Literals.{Expansion}
use Rattle.parse_recipes.specs.Seen.{has_name}
use Rattle.parse_attributed_items.specs.declared.names.NameKind.{NameKind}
use Rattle.parse_attributed_items.specs.declared.names.NameKind.TheVariants as named
use Rattle.parse_attributed_items.specs.Rules.{arg_keyword, for_name, is_among, is_option, long_name, short_name}

-- the name of that kind that an `arg` says, if it says one
abbrev pub name_of : Expansion → NameKind → OptionsShape → Option (List ℕ)
name_of expansion named.Parameter o = Some (for_name expansion o)
name_of expansion named.Long o = long_name expansion o
name_of expansion named.Short o = short_name expansion o

-- whether a name, if there is one, is none of those before
abbrev pub is_new : List (List ℕ) → Option (List ℕ) → Bool
is_new before None = true
is_new before (Some name) = not (is_among before name)

abbrev pub with_name : List (List ℕ) → Option (List ℕ) → List (List ℕ)
with_name before None = before
with_name before (Some name) = name ∷ before

-- whether each name is none of those before it
abbrev pub are_new : {X : Type 0} → (X → Option (List ℕ)) → List (List ℕ) → List X → Bool
are_new f before [] = true
are_new f before (x ∷ xs) = is_new before (f x) && are_new f (with_name before (f x)) xs

-- why an `arg` is refused that says a name again
abbrev pub again : NameKind → List ℕ → CompileErrorKind
again named.Parameter recipe = kinds.DuplicateAttribute arg_keyword
again named.Long recipe = kinds.InvalidAttribute arg_keyword recipe
again named.Short recipe = kinds.InvalidAttribute arg_keyword recipe

-- the refusal of `arg`s of the recipe with that name that say a name of that kind twice
abbrev pub repeated_fault : Expansion → NameKind → List ℕ → List OptionsShape → Option CompileErrorKind
repeated_fault expansion kind recipe os = if are_new (name_of expansion kind) [] os then None else Some (again kind recipe)

-- the set has the names of the parameters that are options
abbrev pub AreOptions : Expansion → List OptionsShape → BTreeSet (Bor (List ℕ)) → Type 0
AreOptions expansion os names = (name : List ℕ) → has_name names name ≡ is_option expansion os name

-- what the strings of a long name stand for
abbrev pub cooked_long_name : LongName → StringLiteral → Option (List ℕ)
cooked_long_name Absent name = None
cooked_long_name (Named long) name = Some long.cooked
cooked_long_name OfParameter name = Some name.cooked
