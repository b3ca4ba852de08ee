-- What is seen of files and modules, and which worlds the arguments of a call that compiles stand for.
use Rattle.std.specs.Prelude.{◌≡◌, Bool, map, is_some}
use Rattle.std.specs.BTreeMap.{BTreeMap}
use Rattle.std.specs.Option.{option_map}
use Rattle.std.specs.declared.string.String.{String}
use Rattle.just_text.specs.Tokens.{lexeme}
use Rattle.just_text.specs.declared.name.Name.{Name}
use Rattle.just_text.specs.declared.os.Os.{Os}
use Rattle.tree_items.specs.Files.{item_shapes}
use Rattle.parse_expressions.specs.Literals.{Expansion}
use Rattle.justfile_syntax.specs.Numbered.{bindings_in, recipes_in}
use Rattle.semver.specs.declared.Version.{Version}
use Rattle.modules_compilation.specs.declared.module_node.File.{File}
use Rattle.modules_compilation.specs.declared.module_node.ModuleNode.{ModuleNode}
use Rattle.modules_files.specs.Found.{source_of}
use Rattle.meaning_rules.specs.Worlds.Given.{Given, Text, World}
use Rattle.meaning_rules.specs.Worlds.Compiled.{FileView, NodeView}

-- the text of a name
abbrev pub name_text : Name → Text
name_text name = lexeme name.token

abbrev pub file_view : File → FileView
file_view file = record {
  key = file.key.now;
  module_number = file.module;
  depth = file.depth;
  items = item_shapes file.ast.items.items;
  bindings = bindings_in file.ast.items.items;
  recipes = recipes_in file.ast.items.items;
}

abbrev pub node_view : ModuleNode → NodeView
node_view node = record {
  parent = node.parent;
  name = option_map name_text node.name;
  item = node.item;
  source = node.source.now;
  first_file = node.first_file;
  end_file = node.end_file;
  aliases = node.aliases.items;
  assignments = node.assignments.items;
  disabled = node.disabled.items;
  functions = node.functions.items;
  recipes = node.recipes.items;
  recipe_names = map (λ row. (row.front, row.place)) node.recipe_names.items;
  sets = node.sets.items;
  unexports = map name_text node.unexports.items;
  submodules = node.submodules.items;
}

module _ {Y Z : Type 0} (sources : BTreeMap (String Y) (String Z)) where
  -- what a call is given that compiles these sources
  abbrev pub given_of : Os → Bool → Expansion → Version → Text → Given
  given_of os unstable expansion version root = record { os = os; unstable = unstable; expansion = expansion; version = version; source = source_of sources; root = root }

  -- a world has files where these sources have texts
  pub record HasSources (expansion : Expansion) (w : World) : Type 0 where
    pub same_expansion : w.expansion ≡ expansion
    pub there : (key : Text) → w.there key ≡ is_some (source_of sources key)
