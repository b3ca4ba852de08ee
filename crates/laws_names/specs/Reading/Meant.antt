-- Worlds whose compilations have the numbers of names, and the rules that faults tell.
use Rattle.std.specs.Prelude.{◌≡◌, ◌≤◌, ℕ, Ok, Option, Some, None, length, slice_get}
use Rattle.std.specs.List.{All}
use Rattle.just_text.specs.Tokens.{lexeme}
use Rattle.just_value.specs.Constants.{constant_rows}
use Rattle.tree_expressions.specs.Cooking.{cooked}
use Rattle.tree_expressions.specs.Shape.{written}
use Rattle.tree_expressions.specs.declared.string_literal.StringLiteral.{StringLiteral}
use Rattle.tree_attributes.specs.declared.attribute.Attribute.{Attribute}
use Rattle.tree_attributes.specs.declared.attribute.Attribute.TheVariants.{Confirm, Doc, Env, Extension, Group, Metadata, Script, WorkingDirectory}
use Rattle.tree_attributes.specs.Sets.Order.{item_shape, name_text}
use Rattle.tree_attributes.specs.Sets.Sets.{items_of}
use Rattle.tree_attributes.specs.declared.attribute_item.AttributeItem.{AttributeItem}
use Rattle.parse_expressions.specs.Literals.{Expansion, IsCooked, Origin, from_file}
use Rattle.parse_attributes.specs.Cooked.{IsCookedCommand}
use Rattle.parse_attributed_items.specs.Held.{IsOwnItem}
use Rattle.tree_items.specs.declared.ast.Item.{Item}
use Rattle.tree_items.specs.declared.ast.Item.TheVariants.{Recipe}
use Rattle.modules_compilation.specs.declared.compilation.Compilation.{Compilation}
use Rattle.modules_compilation.specs.declared.module_node.File.{File}
use Rattle.resolve_references.specs.Seen.{Seen, seen_in}
use Rattle.resolve_references.specs.declared.read_fault.ReadFault.{ReadFault}
use Rattle.resolve_references.specs.declared.read_fault.ReadFault.TheVariants.{FunctionArgumentCount, OutOfMemory, UndefinedVariable, UnknownFunction}
use Rattle.resolve_analysis.specs.Bound.{AreBound}
use Rattle.meaning_rules.specs.Worlds.Compiled.{FileView}
use Rattle.meaning_rules.specs.Worlds.Given.{Overrides, World}
use Rattle.meaning_rules.specs.Rules.{Broken, Rule, function_argument_count, undefined_variable, unknown_function}
use Rattle.laws_modules.specs.Names.Names.{AreSetOnce, AreSingle, IsOfWorld, views}

-- the expressions of an item hold what their strings stand for
abbrev pub AreSeenCooked : Origin → Item → Type 0
AreSeenCooked origin item = All (λ (s : Seen). IsCooked origin s.expression) (seen_in item)

-- those of the items of each file do
abbrev pub AreExpressionsCooked : World → Compilation → Type 0
AreExpressionsCooked w compilation = (k : ℕ) (file : File) → slice_get compilation.files.items k ≡ Some file → All (AreSeenCooked (from_file file.key.now w.expansion)) file.ast.items.items

-- a string holds the text that it stands for
abbrev pub HasOwnText : Expansion → StringLiteral → Type 0
HasOwnText expansion s = cooked expansion (written s) ≡ Ok s.cooked

-- the arguments of an attribute hold what their strings stand for; nothing is said of those of an `arg`
abbrev pub HasTexts : Origin → Attribute → Type 0
HasTexts origin (Confirm (Some e)) = IsCooked origin e
HasTexts origin (Doc (Some s)) = HasOwnText origin.expansion s
HasTexts origin (Env key value) = IsCooked origin key × IsCooked origin value.value
HasTexts origin (Extension s) = HasOwnText origin.expansion s
HasTexts origin (Group s) = HasOwnText origin.expansion s
HasTexts origin (Metadata first others) = HasOwnText origin.expansion first × All (HasOwnText origin.expansion) others.items
HasTexts origin (Script (Some i)) = IsCookedCommand origin i.value
HasTexts origin (WorkingDirectory s) = HasOwnText origin.expansion s
HasTexts origin other = Unit {0}

-- so does an attribute of an item, and the name that is written is its own
abbrev pub IsKnownAttribute : Origin → AttributeItem → Type 0
IsKnownAttribute origin item = HasTexts origin item.attribute × (lexeme item.name.token ≡ name_text (item_shape item))

-- the same of the attributes of a recipe
abbrev pub HasKnownAttributes : Origin → Item → Type 0
HasKnownAttributes origin (Recipe r) = All (IsKnownAttribute origin) (items_of r.attributes)
HasKnownAttributes origin other = Unit {0}

-- of those of the recipes of each file
abbrev pub AreAttributesKnown : World → Compilation → Type 0
AreAttributesKnown w compilation = (k : ℕ) (file : File) → slice_get compilation.files.items k ≡ Some file → All (HasKnownAttributes (from_file file.key.now w.expansion)) file.ast.items.items

-- a compilation stands for the modules of the world, none of which has two definitions of a name or two settings of one; its items are what their attributes make of them, their expressions hold what their strings stand for,
-- the attributes of its recipes do too and have the names that are written, and its names have the numbers of what they stand for, none of which is a constant's
pub record IsNumberedWorld (w : World) (compilation : Compilation) : Type 0 where
  pub of : IsOfWorld w compilation
  pub single : AreSingle w compilation
  pub settings : AreSetOnce w compilation
  pub bound : AreBound compilation
  pub options : (k : ℕ) (file : File) → slice_get compilation.files.items k ≡ Some file → All (IsOwnItem w.expansion) file.ast.items.items
  pub cooked : AreExpressionsCooked w compilation
  pub attributes : AreAttributesKnown w compilation
  pub above : (k : ℕ) (view : FileView) → slice_get (views w compilation) k ≡ Some view → All (λ number. length constant_rows ≤ number) view.bindings

-- the rule that a fault tells, if it tells one
abbrev pub rule_of_fault : ReadFault → Option Rule
rule_of_fault OutOfMemory = None
rule_of_fault (FunctionArgumentCount name found) = Some (function_argument_count (lexeme name.token) found)
rule_of_fault (UndefinedVariable name) = Some (undefined_variable (lexeme name.token))
rule_of_fault (UnknownFunction name) = Some (unknown_function (lexeme name.token))

-- the fault tells a rule, which the world breaks
abbrev pub IsTold : World → Overrides → ReadFault → Type 0
IsTold w o fault = (rule : Rule) × (rule_of_fault fault ≡ Some rule) × Broken w o rule
