-- Files whose trees are what texts say.
use Rattle.std.specs.Prelude.{◌≡◌, List, None}
use Rattle.tree_attributes.specs.Attributes.{AttributeShape}
use Rattle.tree_attributes.specs.Sets.Order.{in_order}
use Rattle.tree_items.specs.Files.{ItemShape, item_shapes, recipe_item}
use Rattle.parse_expressions.specs.Literals.{Expansion, from_file}
use Rattle.parse_attributed_items.specs.Fitting.{options_among}
use Rattle.parse_attributed_items.specs.Rules.{fault_of}
use Rattle.justfile_syntax.specs.Parsed.{IsWhole}
use Rattle.justfile_syntax.specs.Reads.{Reads}
use Rattle.semver.specs.declared.Version.{Version}
use Rattle.modules_compilation.specs.declared.module_node.File.{File}
use Rattle.meaning_rules.specs.Worlds.Given.{Text}

module _ (expansion : Expansion) where
  -- a recipe has its attributes in their order, and the `arg`s among those that are written break no rule
  abbrev pub FitsAsWritten : ItemShape → Type 0
  FitsAsWritten (recipe_item attributes r) = (written : List AttributeShape) × (attributes ≡ in_order written) × (fault_of expansion r.name (options_among written) r.parameters ≡ None)
  FitsAsWritten other = Unit {0}

  -- the file's tree is what a text says, and holds what belongs to that
  pub record IsParsed (file : File) : Type 0 where
    pub version : Version
    pub text : Text
    pub says : Reads expansion version text (item_shapes file.ast.items.items)
    pub whole : IsWhole (from_file file.key.now expansion) file.ast
