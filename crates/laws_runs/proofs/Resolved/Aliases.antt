-- An alias stands for just the recipe for which it stands in the world.
use Rattle.std.proofs.Common.{◌≡◌, refl, sym, ◌∙◌, ap, subst, Option, Some, None}
use Rattle.std.specs.Option.{option_and_then}
use Rattle.std.proofs.lemmas.Option.{none-some, same_Some}
use Rattle.tree_items.specs.Files.{ItemShape, alias_item}
use Rattle.modules_compilation.specs.declared.compilation.Compilation.{Compilation}
use Rattle.modules_compilation.specs.declared.module_node.ModuleNode.{ModuleNode}
use Rattle.modules_compilation.specs.declared.place.Place.{Place}
use Rattle.resolve_recipes.specs.Named.{first_named, text_at}
use Rattle.meaning_rules.specs.Worlds.Given.{Overrides, World}
use Rattle.meaning_rules.specs.Worlds.Keeping.{KeepsAt, an_alias}
use Rattle.laws_modules.proofs.Names.Named.{node_is}
use Rattle.meaning_evaluation.specs.Named.{RecipeName}
use Rattle.just_meaning.specs.Defining.{IsAliasOf}
use Rattle.laws_runs.specs.Resolved.Definitions.{alias_named, node_of, rows_of, shape_at, target_of}
use Rattle.laws_runs.specs.Resolved.Kept.{AliasesStand, IsWorldOf}
use Rattle.laws_runs.proofs.Resolved.Items.{is_item}
use Rattle.laws_runs.proofs.Resolved.Leading.{module_of, modules_stand, node_there}
use Rattle.laws_runs.proofs.Resolved.Listed.{found_is, kept_found}

module _ (w : World) (compilation : Compilation) (of : IsWorldOf w compilation) (o : Overrides) (r target : RecipeName) where
  abbrev target_at : Place → Option RecipeName
  target_at place = target_of r.path (shape_at compilation place)

  abbrev found_in : Option ModuleNode → Option Place
  found_in node = first_named (text_at compilation) (rows_of (λ (n : ModuleNode). n.aliases.items) node) r.recipe

  -- the recipe that is found is that of the world
  alias_is : (node : Option ModuleNode) (found : Option Place) → node_of compilation r.path ≡ node → found_in node ≡ found → option_and_then target_at found ≡ Some target → IsAliasOf w o r target
  alias_is None None at e says = absurd (none-some target says)
  alias_is (Some node) None at e says = absurd (none-some target says)
  alias_is None (Some place) at e says = absurd (none-some place e)
  alias_is (Some node) (Some place) at e says =
      let m = module_of w compilation of.of of.single r.path node at in
      let s = (found_is w compilation of.of m.0 node m.1 an_alias node.aliases.items (node_is w compilation of.of m.0 node m.1).aliases r.recipe (Some place) e).1 in
      let q = is_item an_alias r.recipe w.os s.item s.keeps.defines.is in
      record {
        own = node.source.now;
        is = m.2;
        attributes = q.0;
        shape = q.1;
        kept = record { key = s.key; place = s.at; kept = subst (KeepsAt w node.source.now an_alias r.recipe s.key s.at) q.2 s.keeps };
        says = same_Some target _ (sym says ∙ ap (target_of r.path) (s.shaped ∙ ap (λ (i : ItemShape). Some i) q.2));
      }

  -- and that of the world is found
  alias_found : IsAliasOf w o r target → alias_named compilation r ≡ Some target
  alias_found h =
      let p = (modules_stand w compilation of.of of.single r.path h.own).0 h.is in
      let item = alias_item h.attributes h.shape in
      let kept = subst (λ own. KeepsAt w own an_alias r.recipe h.kept.key h.kept.place item) (sym p.is) h.kept.kept in
      let f = kept_found w compilation of.of p.k p.node p.here an_alias p.node.aliases.items (node_is w compilation of.of p.k p.node p.here).aliases r.recipe h.kept.key h.kept.place item kept in
      ap (λ (x : Option ModuleNode). option_and_then target_at (found_in x)) (node_there w compilation r.path h.own p)
      ∙ ap (option_and_then target_at) f.found
      ∙ ap (target_of r.path) f.shaped
      ∙ ap (λ (x : RecipeName). Some x) (sym h.says)

-- an alias stands for just the recipe of the world
pub aliases_stand : AliasesStand
aliases_stand w compilation of o r target =
    (λ e. alias_is w compilation of o r target (node_of compilation r.path) (found_in w compilation of o r target (node_of compilation r.path)) refl refl e, λ h. alias_found w compilation of o r target h)
