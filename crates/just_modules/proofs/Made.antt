-- What is compiled is a compilation of each world that the sources stand for.
use Rattle.std.proofs.Common.{◌≡◌, sym, ◌∙◌, ap, subst, inl, inr, ◌<◌, ◌∷◌, [], ℕ, suc, Bool, true, false, cond, List, Option, Some, None, refl, length, map}
use Rattle.std.specs.Prelude.{slice_get, option_map, Contains}
use Rattle.std.specs.BTreeMap.{BTreeMap}
use Rattle.std.specs.declared.string.String.{String}
use Rattle.std.proofs.lemmas.Option.{none-some, same_Some}
use Rattle.just_text.specs.Numbers.{Numbers}
use Rattle.just_text.specs.declared.os.Os.{Os}
use Rattle.tree_attributes.specs.Attributes.{AttributeShape}
use Rattle.tree_items.specs.Files.{module_item}
use Rattle.tree_items.specs.Items.{ModuleShape}
use Rattle.parse_expressions.specs.Literals.{Expansion}
use Rattle.semver.specs.declared.Version.{Version}
use Rattle.modules_compilation.specs.declared.compilation.Compilation.{Compilation}
use Rattle.modules_compilation.specs.declared.module_node.File.{File}
use Rattle.modules_compilation.specs.declared.module_node.ModuleNode.{ModuleNode}
use Rattle.modules_definitions.specs.Lists.{Gains}
use Rattle.modules_definitions.proofs.Elements.{contains_at, place_of}
use Rattle.modules_sources.specs.Loaded.{AreLoaded}
use Rattle.meaning_rules.specs.Worlds.Given.{Text, World}
use Rattle.meaning_rules.specs.Worlds.Standing.{StandsFor}
use Rattle.meaning_rules.specs.Worlds.Compiled.{HasItem, IsCompiled}
use Rattle.meaning_rules.specs.Worlds.Views.{file_view, given_of, name_text, node_view}
use Rattle.laws_modules.specs.Definitions.Laws.{AreChildren}
use Rattle.laws_modules.proofs.Definitions.Inner.{submodules_are_meant}
use Rattle.laws_modules.proofs.Definitions.Listed.{lists_are_meant}
use Rattle.laws_modules.proofs.Modules.Numbers.{bindings_rise, recipes_rise}
use Rattle.laws_modules.proofs.Modules.Ranges.{mapped}
use Rattle.laws_modules.specs.Compiled.Filled.{IsFilled as IsFilledOf}
use Rattle.laws_modules.proofs.Compiled.Compiled.{filled_are_compiled}
use Rattle.just_modules.specs.Keeping.{AreFilled, range_of, truths_in}
use Rattle.just_modules.specs.Settings.{allowed_by}
use Rattle.just_modules.proofs.InWorld.{modules, node_apart, node_found}

module _ {Y Z : Type 0} (sources : BTreeMap (String Y) (String Z)) (expansion : Expansion) (version : Version) (os : Os) (unstable : Bool) (start : Numbers) (root : Text) (loaded compilation : Compilation)
    (are : AreLoaded sources expansion version os start true root loaded) (filled : AreFilled os unstable loaded compilation) (w : World) (stands : StandsFor (given_of sources os unstable expansion version root) w) where
  -- the submodules of a module are those whose parent it is, by their names
  children : (k : ℕ) (node : ModuleNode) → slice_get loaded.modules.items k ≡ Some node → AreChildren w loaded.files.items loaded.modules.items k node
  children k node e =
      let inner = (are.followed k node e).inner in
      record {
        parents = λ n submodule c there.
            let at = place_of node.submodules.items n c in
            let t = inner.only at.0 n at.1 in
            ap (λ m. m.parent) (same_Some submodule t.0 (sym there ∙ t.1)) ∙ t.2;
        named = λ n submodule place file m at has.
            let item = ((modules sources expansion version os unstable start root loaded are w stands).each n submodule at.found).item in
            let c = place_of node.submodules.items n at.listed in
            let t = inner.only c.0 n c.1 in
            let parent = ap (λ x. x.parent) (same_Some submodule t.0 (sym at.found ∙ t.1)) ∙ t.2 in
            let inside = subst (HasItem w (map file_view loaded.files.items) (map node_view loaded.modules.items) (node_view submodule)) parent item in
            let i = inside.2 in
            let same_place : place ≡ i.place = same_Some place i.place (sym at.is ∙ i.is) in
            let there = ap (slice_get (map file_view loaded.files.items)) (ap (λ p. p.file) same_place) ∙ i.there.found in
            let same_file : file_view file ≡ i.there.file = same_Some (file_view file) i.there.file (sym (mapped file_view loaded.files.items place.file file has.found) ∙ there) in
            let shape : module_item has.attributes m ≡ module_item i.attributes i.line =
            same_Some (module_item has.attributes m) (module_item i.attributes i.line) (sym has.there ∙ ap (λ f. slice_get f.items place.item) same_file ∙ ap (λ p. slice_get i.there.file.items p.item) same_place ∙ i.there.there) in
            i.named ∙ ap (λ l. Some l.name) (sym (same_line shape));
        complete = λ n submodule there parent. let at = inner.listed n submodule there parent in contains_at node.submodules.items at.0 n at.1;
      }
    where
      same_line : {attributes attributes' : List AttributeShape} {line line' : ModuleShape} → module_item attributes line ≡ module_item attributes' line' → line ≡ line'
      same_line e = cc e

  -- each module keeps what it defines
  each : (k : ℕ) (node after : ModuleNode) → slice_get loaded.modules.items k ≡ Some node → slice_get compilation.modules.items k ≡ Some after → IsFilledOf w os loaded.files.items loaded.modules.items k node after
  each k node after e f =
      let t = filled.each k node e in
      let same : t.0 ≡ after = same_Some t.0 after (sym t.1 ∙ f) in
      let keeps = t.2.keeps in
      let empty = (are.modules k node e).empty in
      record {
        definitions = keeps.definitions;
        kept = t.2.kept;
        settled = record {
          found = node_found sources expansion version os unstable start root loaded are w stands k node e keeps.definitions keeps.are;
          order = keeps.are.order;
          apart = λ i j a b lt at there one other. node_apart sources expansion version os unstable start root loaded are w stands k node e keeps.definitions keeps.are i j a b lt at there;
          allowed = allowed_by (truths_in os unstable loaded.files.items (range_of node));
          single = keeps.keeps.clear.single;
          keeps = keeps.keeps.are;
        };
        empty = record { aliases = empty.aliases; assignments = empty.assignments; disabled = empty.disabled; functions = empty.functions; recipes = empty.recipes; recipe_names = empty.recipe_names; sets = empty.sets; unexports = empty.unexports };
        gains = subst (λ m. Gains [] node m t.2.kept) same t.2.gains;
      }

  pub made : IsCompiled w (map file_view compilation.files.items) (map node_view compilation.modules.items)
  made = subst (λ fs. IsCompiled w (map file_view fs) (map node_view compilation.modules.items)) (sym filled.files)
      (filled_are_compiled lists_are_meant submodules_are_meant w os loaded.files.items loaded.modules.items compilation.modules.items (record {
        modules = modules sources expansion version os unstable start root loaded are w stands;
        children = children;
        within = λ k node e. (are.modules k node e).within;
        apart = are.linked.apart;
        covered = λ n lt. let c = are.linked.covered n lt in record { k = c.0; node = c.1; there = c.2; from = c.3; to = c.4 };
        bindings = bindings_rise start are.numbers loaded.files.items (are.numbered refl);
        recipes = recipes_rise start are.numbers loaded.files.items (are.numbered refl);
        same = record { count = filled.count; each = λ k node e. let t = filled.each k node e in (t.0, t.1, t.2.gains.same) };
        each = each;
      }))
