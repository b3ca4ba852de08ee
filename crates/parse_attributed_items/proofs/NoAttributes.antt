-- An item without attributes is what it will be.
use Rattle.std.proofs.Common.{◌≡◌, ◌||◌, Bool, true, false, List, [], Option, Result, Err, refl}
use Rattle.std.specs.List.{All}
use Rattle.std.proofs.lemmas.List.Elements.{All-weaker}
use Rattle.just_text.specs.declared.compile_error.CompileErrorKind.{CompileErrorKind}
use Rattle.tree_attributes.specs.Attributes.{AttributeShape}
use Rattle.tree_attributes.specs.Sets.Order.{in_order, sorted}
use Rattle.tree_items.specs.declared.ast.Item.{Item}
use Rattle.tree_items.specs.declared.ast.Item.TheVariants as items
use Rattle.tree_items.specs.declared.recipe.Parameter.{Parameter}
use Rattle.tree_items.specs.Files.{ItemShape, item_shape}
use Rattle.parse_expressions.specs.declared.fault.Fault.{Fault}
use Rattle.parse_expressions.specs.declared.fault.Fault.TheVariants as faults
use Rattle.parse_expressions.specs.Literals.{Expansion, Origin}
use Rattle.parse_attributes.proofs.Follow.{all_none}
use Rattle.parse_attributes.specs.Seen.{read_shapes}
use Rattle.parse_attributes.specs.declared.attribute.AttributeRead.{AttributeRead}
use Rattle.parse_recipes.specs.Plain.{ArePlain, IsPlain}
use Rattle.parse_attributed_items.specs.Fitting.{argument_fault, fault_in, with_attributes}
use Rattle.parse_attributed_items.specs.Held.{AreAscii, IsAscii, IsItemCooked, IsOwnItem, IsWholeAttribute}
use Rattle.parse_attributed_items.specs.Options.{AreValuesCooked, GivesOrRefuses, HasOptions, HaveOptions, IsValueCooked}
use Rattle.parse_attributed_items.specs.Plain.{IsBareCooked, IsBareTree}
use Rattle.parse_attributed_items.specs.Reading.{joined}
use Rattle.parse_attributed_items.specs.Seen.{parts_of, read_of}
use Rattle.parse_attributed_items.specs.declared.item.PartsRead.{PartsRead}
use Rattle.parse_attributed_items.proofs.Given.{plain_has_none}

-- what is refused is refused whatever would have been given
pub refused_too : (X Y : Type 0) (e : Fault) (fault : Option CompileErrorKind) → (let r : Result X Fault = Err e in GivesOrRefuses r fault) → (let r : Result Y Fault = Err e in GivesOrRefuses r fault)
refused_too X Y faults.OutOfMemory fault h = h
refused_too X Y faults.NumbersUsed fault h = h
refused_too X Y (faults.Unexpected found) fault h = h
refused_too X Y (faults.Refused token kind) fault h = h

-- none was read
pub none_read : (reads : List AttributeRead) → reads ≡ [] → read_shapes reads ≡ []
none_read reads none = rw none refl

-- without attributes no rule is left but that of parameters
pub no_attributes : (expansion : Expansion) (as' : List (Option AttributeShape)) (i : ItemShape) → as' ≡ [] → fault_in expansion as' i ≡ argument_fault expansion [] i
no_attributes expansion as' i none = rw none refl

-- with no attributes the item is as it was
pub as_it_was : (i : Item) → IsBareTree i → with_attributes [] (item_shape i) ≡ item_shape i
as_it_was (items.Alias a) bare = rw bare refl
as_it_was (items.Assignment a) bare = rw bare.attributes refl
as_it_was (items.Comment text) bare = refl
as_it_was (items.Function f) bare = refl
as_it_was (items.Import i) bare = refl
as_it_was (items.Module m) bare = rw bare refl
as_it_was items.Newline bare = refl
as_it_was (items.Recipe r) bare = rw bare.plain.attributes refl
as_it_was (items.Set s) bare = rw bare.attributes refl
as_it_was (items.Unexport u) bare = refl

nothing_to_order : in_order [] ≡ []
unfolding sorted
nothing_to_order = refl

-- so it is joined with none
pub joined_with_none : (p : PartsRead) → read_shapes p.attributes.items ≡ [] → IsBareTree p.read.item → read_of p.read ≡ (joined (parts_of p), p.read.blank_lines)
joined_with_none p none bare = rw (none, nothing_to_order, as_it_was p.read.item bare) refl

or_none : (b : Bool) → b ≡ (b || false)
or_none true = refl
or_none false = refl

module _ (expansion : Expansion) where
  have_none : (ps : List Parameter) → ArePlain ps → HaveOptions expansion [] ps
  have_none ps plain = All-weaker IsPlain (HasOptions expansion []) plain_has_none ps plain

  -- and what its name and place make of it
  pub own_already : (i : Item) → IsBareTree i → IsOwnItem expansion i
  own_already (items.Alias a) bare = tt
  own_already (items.Assignment a) bare = record { file_depth = bare.file_depth; prelude = bare.prelude; private = rw (bare.attributes, bare.private) (or_none _) }
  own_already (items.Comment text) bare = tt
  own_already (items.Function f) bare = tt
  own_already (items.Import i) bare = tt
  own_already (items.Module m) bare = tt
  own_already items.Newline bare = tt
  own_already (items.Recipe r) bare = (rw bare.plain.attributes (have_none r.parameters.items bare.plain.parameters), no_letters r.parameters.items bare.plain.parameters)
    where
      no_letter : (p : Parameter) → IsPlain p → IsAscii p
      no_letter p plain = rw plain.short tt

      no_letters : (ps : List Parameter) → ArePlain ps → AreAscii ps
      no_letters ps plain = All-weaker IsPlain IsAscii no_letter ps plain
  own_already (items.Set s) bare = bare.name
  own_already (items.Unexport u) bare = tt

module _ (origin : Origin) where
  no_value : (p : Parameter) → IsPlain p → IsValueCooked origin p
  no_value p plain = rw plain.value tt

  no_values : (ps : List Parameter) → ArePlain ps → AreValuesCooked origin ps
  no_values ps plain = All-weaker IsPlain (IsValueCooked origin) no_value ps plain

  -- and what its strings stand for
  pub cooked_already : (i : Item) → IsBareTree i → IsBareCooked origin i → IsItemCooked origin i
  cooked_already (items.Alias a) bare cooked = record { attributes = all_none (IsWholeAttribute origin) _ bare; inside = cooked }
  cooked_already (items.Assignment a) bare cooked = record { attributes = all_none (IsWholeAttribute origin) _ bare.attributes; inside = cooked }
  cooked_already (items.Comment text) bare cooked = record { attributes = all_none (IsWholeAttribute origin) [] refl; inside = cooked }
  cooked_already (items.Function f) bare cooked = record { attributes = all_none (IsWholeAttribute origin) [] refl; inside = cooked }
  cooked_already (items.Import i) bare cooked = record { attributes = all_none (IsWholeAttribute origin) [] refl; inside = cooked }
  cooked_already (items.Module m) bare cooked = record { attributes = all_none (IsWholeAttribute origin) _ bare; inside = cooked }
  cooked_already items.Newline bare cooked = record { attributes = all_none (IsWholeAttribute origin) [] refl; inside = cooked }
  cooked_already (items.Recipe r) bare cooked = record { attributes = all_none (IsWholeAttribute origin) _ bare.plain.attributes; inside = (cooked, no_values r.parameters.items bare.plain.parameters) }
  cooked_already (items.Set s) bare cooked = record { attributes = all_none (IsWholeAttribute origin) _ bare.attributes; inside = cooked }
  cooked_already (items.Unexport u) bare cooked = record { attributes = all_none (IsWholeAttribute origin) [] refl; inside = cooked }
