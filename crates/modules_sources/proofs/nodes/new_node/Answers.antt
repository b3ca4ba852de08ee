-- The node keeps nothing.
use Rattle.std.proofs.Common.{refl}
use Rattle.modules_sources.proofs.nodes.new_node.Goals as goal

pub returns : goal.returns
returns c = record {
  parent = refl;
  name = refl;
  item = refl;
  source = refl;
  first_file = refl;
  end_file = refl;
  empty = record {
    aliases = c.new.ensures.items;
    assignments = c.new-2.ensures.items;
    disabled = c.new-3.ensures.items;
    functions = c.new-4.ensures.items;
    recipes = c.new-5.ensures.items;
    recipe_names = c.new-6.ensures.items;
    sets = c.new-7.ensures.items;
    unexports = c.new-8.ensures.items;
  };
  submodules = c.new-9.ensures.items;
}
