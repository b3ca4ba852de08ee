-- What the files of a world say, and the files of the modules of a compilation.
use Rattle.std.proofs.Common.{◌≡◌, ◌≤◌, ◌<◌, ◌+◌, ◌-◌, ℕ, Bool, true, false, not, cond, List, [], ◌∷◌, Some, ap, ◌∙◌, arith, map, drop, refl, subst}
use Rattle.std.specs.Prelude.{slice_get}
use Rattle.std.specs.List.{All}
use Rattle.std.proofs.lemmas.List.Elements.{All-cons, All-filter, All-head, All-nil, All-tail}
use Rattle.tree_items.specs.Files.{ItemShape, alias_item, assignment_item, comment_item, function_item, import_item, item_shape, item_shapes, is_blank, module_item, newline_item, recipe_item, set_item, unexport_item}
use Rattle.tree_items.specs.declared.ast.Item.{Item}
use Rattle.modules_compilation.specs.declared.compilation.Compilation.{Compilation}
use Rattle.modules_compilation.specs.declared.module_node.File.{File}
use Rattle.modules_compilation.specs.declared.module_node.ModuleNode.{ModuleNode}
use Rattle.meaning_rules.specs.Worlds.Compiled.{FileView, files_of}
use Rattle.meaning_rules.specs.Worlds.Given.{Given, World, filled}
use Rattle.meaning_rules.specs.Worlds.Sources.{Reached}
use Rattle.meaning_rules.specs.Worlds.Standing.{StandsFor}
use Rattle.meaning_rules.proofs.Worlds.Places.{contains_at}
use Rattle.meaning_rules.proofs.Worlds.Reached.{modules_are_reached}
use Rattle.meaning_rules.proofs.Worlds.Reading.{orders_have_reached}
use Rattle.meaning_rules.specs.Worlds.Views.{file_view, node_view}
use Rattle.laws_modules.proofs.Files.Lists.{dropped_at, in_take, map_at}
use Rattle.laws_modules.specs.Names.Names.{HasNode, IsOfWorld, nodes, views}
use Rattle.laws_printing.specs.Distinct.Distinct.{CompilationsAreApart, IsApart, WorldsAreApart}
use Rattle.laws_printing.proofs.Distinct.Texts.{files_are_apart}

pub worlds_are_apart : WorldsAreApart
unfolding filled
worlds_are_apart given w stands key reached items e =
    let s = (stands.said key reached items).0 e in
    subst (All IsApart) s.are (All-filter (λ (item : ItemShape). not (is_blank item)) IsApart s.all (files_are_apart given.expansion given.version s.text s.all s.reads))

-- a blank line has no parameters
blank_apart : (item : ItemShape) → is_blank item ≡ true → IsApart item
blank_apart (alias_item as' a) e = tt
blank_apart (assignment_item as' a) e = tt
blank_apart (comment_item text) e = tt
blank_apart (function_item f) e = absurd (cc e)
blank_apart (import_item i) e = tt
blank_apart (module_item as' m) e = tt
blank_apart newline_item e = tt
blank_apart (recipe_item as' r) e = absurd (cc e)
blank_apart (set_item as' s) e = tt
blank_apart (unexport_item name) e = tt

-- items are apart where those are that are no blank lines
filled_apart : (items : List Item) → All IsApart (filled (item_shapes items)) → All (λ item. IsApart (item_shape item)) items
unfolding filled
filled_apart [] all = All-nil (λ item. IsApart (item_shape item))
filled_apart (x ∷ items) all = by_test (is_blank (item_shape x)) refl (filled_apart items) all
  where
    by_test : (b : Bool) → is_blank (item_shape x) ≡ b → (All IsApart (filled (item_shapes items)) → All (λ item. IsApart (item_shape item)) items)
        → All IsApart (cond (not b) (item_shape x ∷ filled (item_shapes items)) (filled (item_shapes items))) → All (λ item. IsApart (item_shape item)) (x ∷ items)
    by_test true blank later all = All-cons (λ item. IsApart (item_shape item)) x items (blank_apart (item_shape x) blank) (later all)
    by_test false blank later all =
        All-cons (λ item. IsApart (item_shape item)) x items (All-head IsApart (item_shape x) (filled (item_shapes items)) all) (later (All-tail IsApart (item_shape x) (filled (item_shapes items)) all))

module _ (given : Given) (w : World) (compilation : Compilation) (stands : StandsFor given w) (is : IsOfWorld w compilation) where
  -- a file whose key is reached
  pub reached_apart : (k : ℕ) (file : File) → slice_get compilation.files.items k ≡ Some file → Reached w file.key.now → All (λ item. IsApart (item_shape item)) file.ast.items.items
  reached_apart k file at reached =
      filled_apart file.ast.items.items (worlds_are_apart given w stands file.key.now reached _ (is.read k (file_view file) (map_at file_view compilation.files.items k file at)))

  -- the files of a module are reached
  pub is_reached : (n : ℕ) (node : ModuleNode) → HasNode w compilation n node → (k : ℕ) (file : File) → node.first_file ≤ k → k < node.end_file → slice_get compilation.files.items k ≡ Some file → Reached w file.key.now
  is_reached n node here k file from to at =
      let m = is.sound n (node_view node) (map_at node_view compilation.modules.items n node here) in
      let own = files_of w (views w compilation) (nodes w compilation) (node_view node) in
      let back : node.first_file + (k - node.first_file) ≡ k = omega (arith, from) in
      let less : k - node.first_file < node.end_file - node.first_file = omega (arith, from, to) in
      let viewed = map_at file_view compilation.files.items k file at in
      let dropped = dropped_at (views w compilation) node.first_file (k - node.first_file) ∙ ap (slice_get (views w compilation)) back ∙ viewed in
      let taken : slice_get own (k - node.first_file) ≡ Some (file_view file) = in_take (drop node.first_file (views w compilation)) (node.end_file - node.first_file) (k - node.first_file) (file_view file) less dropped in
      let keys = map (λ (f : FileView). f.key) own in
      let among = contains_at keys (k - node.first_file) file.key.now (map_at (λ (f : FileView). f.key) own (k - node.first_file) (file_view file) taken) in
      modules_are_reached w m.path node.source.now file.key.now m.is ((orders_have_reached w node.source.now keys m.own_files.order file.key.now).0 among)

pub compilations_are_apart : CompilationsAreApart
compilations_are_apart given w compilation stands is n node here k file from to at = reached_apart given w compilation stands is k file at (is_reached given w compilation stands is n node here k file from to at)
