-- Why attributes before an item are refused, whatever its `arg`s say.
use Rattle.std.specs.Prelude.{ℕ, Bool, true, false, List, [], Option, Some, None, bytes_eq, if◌then◌else◌}
use Rattle.std.specs.List.{list_all, list_any}
use Rattle.std.specs.Option.{option_map}
use Rattle.just_text.specs.declared.compile_error.CompileErrorKind.{CompileErrorKind}
use Rattle.just_text.specs.declared.compile_error.CompileErrorKind.TheVariants as kinds
use Rattle.tree_attributes.specs.declared.item_kind.ItemKind.{ItemKind}
use Rattle.tree_attributes.specs.Attributes.{AttributeShape, kind_of, kind_name, is_repeatable}
use Rattle.tree_items.specs.FileIndentation.{or_next}
use Rattle.parse_attributed_items.specs.Rules.{arg_keyword}
use Rattle.parse_attributed_items.specs.Fitting.{duplicate, invalid, is_misfit, is_one, known, misfit, repeated}

-- the name of the attribute's kind, if there is one
abbrev pub name_in : Option AttributeShape → List ℕ
name_in None = []
name_in (Some a) = kind_name (kind_of a)

-- whether there is an attribute that the item may not carry
abbrev pub is_misplaced : ItemKind → Option AttributeShape → Bool
is_misplaced kind None = false
is_misplaced kind (Some a) = is_misfit kind a

-- whether there is an attribute whose kind has that name
abbrev pub is_named : List ℕ → Option AttributeShape → Bool
is_named name None = false
is_named name (Some a) = bytes_eq (kind_name (kind_of a)) name

-- whether the attribute, if there is one, may stand again
abbrev pub may_repeat : Option AttributeShape → Bool
may_repeat None = true
may_repeat (Some a) = is_repeatable (kind_of a)

-- whether the attribute stands again among those, and may not
abbrev pub is_repeated : List (Option AttributeShape) → Option AttributeShape → Bool
is_repeated as' a = if may_repeat a then false else list_any (is_named (name_in a)) as'

-- the refusal of known attributes of an item of that kind and name
abbrev pub known_fault : ItemKind → List ℕ → List AttributeShape → Option CompileErrorKind
known_fault kind name as' = or_next (option_map (invalid name) (misfit kind as')) (option_map duplicate (repeated as'))

-- the same of attributes as they are read, which may be unknown
abbrev pub head_fault : ItemKind → List ℕ → List (Option AttributeShape) → Option CompileErrorKind
head_fault kind name as' = if list_all is_one as' then known_fault kind name (known as') else Some (kinds.InvalidAttribute arg_keyword name)
