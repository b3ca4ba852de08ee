-- Which attributes may stand before an item.
use Rattle.std.specs.Prelude.{ℕ, ◌≡◌, Bool, true, false, not, ◌&&◌, List, [], ◌∷◌, filter_map, find, Option, Some, None, is_some, bytes_eq, if◌then◌else◌}
use Rattle.std.specs.List.{list_all, list_any}
use Rattle.std.specs.Option.{option_map}
use Rattle.just_text.specs.declared.compile_error.CompileErrorKind.{CompileErrorKind}
use Rattle.just_text.specs.declared.compile_error.CompileErrorKind.TheVariants as kinds
use Rattle.tree_attributes.specs.declared.item_kind.ItemKind.{ItemKind}
use Rattle.tree_attributes.specs.declared.item_kind.ItemKind.TheVariants as items
use Rattle.tree_attributes.specs.Attributes.{AttributeShape, OptionsShape, kind_of, kind_name, is_repeatable}
use Rattle.tree_items.specs.Files.{ItemShape, alias_item, assignment_item, module_item, recipe_item, set_item, kind_of as item_kind_of}
use Rattle.tree_items.specs.FileIndentation.{or_next}
use Rattle.tree_attributes.specs.Sets.Sets.{may_carry}
use Rattle.parse_attributes.specs.Seen.{options_in}
use Rattle.parse_expressions.specs.Literals.{Expansion}
use Rattle.parse_attributed_items.specs.Rules.{arg_keyword, fault_of}

-- whether items of that kind may have attributes
abbrev pub takes_attributes : ItemKind → Bool
takes_attributes items.Alias = true
takes_attributes items.Assignment = true
takes_attributes items.Module = true
takes_attributes items.Recipe = true
takes_attributes items.Set = true
takes_attributes other = false

-- whether the item may stand after these attributes, whatever they are
abbrev pub may_stand : {A : Type 0} → List A → ItemKind → Bool
may_stand [] kind = true
may_stand (x ∷ xs) kind = takes_attributes kind

-- the item after these attributes
abbrev pub with_attributes : List AttributeShape → ItemShape → ItemShape
with_attributes as' (alias_item old a) = alias_item as' a
with_attributes as' (assignment_item old a) = assignment_item as' a
with_attributes as' (module_item old m) = module_item as' m
with_attributes as' (recipe_item old r) = recipe_item as' r
with_attributes as' (set_item old s) = set_item as' s
with_attributes as' other = other

-- the name of an item that may have attributes
abbrev pub name_of : ItemShape → List ℕ
name_of (alias_item as' a) = a.name
name_of (assignment_item as' a) = a.name
name_of (module_item as' m) = m.name
name_of (recipe_item as' r) = r.name
name_of (set_item as' s) = s.name
name_of other = []

-- whether the item may not carry the attribute
abbrev pub is_misfit : ItemKind → AttributeShape → Bool
is_misfit kind a = not (may_carry kind (kind_of a))

-- the first attribute that the item may not carry
abbrev pub misfit : ItemKind → List AttributeShape → Option AttributeShape
misfit kind as' = find (is_misfit kind) as'

abbrev pub is_like : AttributeShape → AttributeShape → Bool
is_like a b = bytes_eq (kind_name (kind_of b)) (kind_name (kind_of a))

-- the first attribute of a kind that doesn't repeat, which stands again after it
abbrev pub repeated : List AttributeShape → Option AttributeShape
repeated [] = None
repeated (a ∷ as') = if not (is_repeatable (kind_of a)) && list_any (is_like a) as' then Some a else repeated as'

-- the `arg`s
abbrev pub options_among : List AttributeShape → List OptionsShape
options_among as' = filter_map (λ a. options_in (Some a)) as'

abbrev pub invalid : List ℕ → AttributeShape → CompileErrorKind
invalid name a = kinds.InvalidAttribute (kind_name (kind_of a)) name

abbrev pub duplicate : AttributeShape → CompileErrorKind
duplicate a = kinds.DuplicateAttribute (kind_name (kind_of a))

-- the refusal of the `arg`s before a recipe, if they break a rule
abbrev pub argument_fault : Expansion → List AttributeShape → ItemShape → Option CompileErrorKind
argument_fault expansion as' (recipe_item old r) = fault_of expansion r.name (options_among as') r.parameters
argument_fault expansion as' other = None

-- the refusal of attributes before the item, if they break a rule
abbrev pub fault_before : Expansion → List AttributeShape → ItemShape → Option CompileErrorKind
fault_before expansion as' i =
    or_next (option_map (invalid (name_of i)) (misfit (item_kind_of i) as')) (or_next (option_map duplicate (repeated as')) (argument_fault expansion as' i))

-- No rule is broken by these attributes before the item: it may have attributes and carry each, none stands twice that may stand
-- once, and `arg`s name parameters, each once, with options of different names, so that no parameter after a default needs a value.
pub record Fit (expansion : Expansion) (as' : List AttributeShape) (i : ItemShape) : Type 0 where
  pub stand : may_stand as' (item_kind_of i) ≡ true
  pub carried : misfit (item_kind_of i) as' ≡ None
  pub single : repeated as' ≡ None
  pub arguments : argument_fault expansion as' i ≡ None

-- ---- attributes whose options may not stand together

abbrev pub is_one : {A : Type 0} → Option A → Bool
is_one o = is_some o

abbrev pub known : {A : Type 0} → List (Option A) → List A
known = filter_map (λ o. o)

-- the refusal of attributes as they are read: of an `arg` whose options may not stand together, or of those before the item
abbrev pub fault_in : Expansion → List (Option AttributeShape) → ItemShape → Option CompileErrorKind
fault_in expansion as' i = if list_all is_one as' then fault_before expansion (known as') i else Some (kinds.InvalidAttribute arg_keyword (name_of i))
