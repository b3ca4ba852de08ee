-- The texts of the root's file are those that its text says.
use Rattle.std.proofs.Common.{◌≡◌, ◌∙◌, ◌<◌, ◌≤◌, ◌-◌, ◌+◌, arith, ap, sym, subst, refl, ℕ, if◌then◌else◌, [], ◌∷◌, map, Some, None, codes}
use Rattle.std.specs.Prelude.{slice_get, unwrap_or}
use Rattle.std.proofs.lemmas.Option.{same_Some}
use Rattle.tree_items.specs.Files.{file_text, item_shapes}
use Rattle.tree_items.specs.Printable.{printable}
use Rattle.modules_compilation.specs.declared.compilation.Compilation.{Compilation}
use Rattle.modules_compilation.specs.declared.module_node.File.{File}
use Rattle.modules_compilation.specs.declared.module_node.ModuleNode.{ModuleNode}
use Rattle.meaning_rules.specs.Worlds.Compiled.{FileView, NodeView, files_of}
use Rattle.meaning_rules.specs.Worlds.Given.{Given, World}
use Rattle.meaning_rules.specs.Worlds.Laws.{IsRead}
use Rattle.meaning_rules.proofs.Worlds.Reached.{compilations_have_root}
use Rattle.meaning_rules.specs.Worlds.Views.{file_view, node_view}
use Rattle.laws_modules.specs.Names.Names.{nodes, views}
use Rattle.laws_modules.proofs.Names.Found.{mapped, mapped_at, part_at, there_within}
use Rattle.laws_modules.proofs.Names.Named.{node_is}
use Rattle.meaning_texts.specs.Laws.{HasRootTexts, IsCompiledFrom, RootTextsStand, text_held}
use Rattle.meaning_texts.specs.Texts.{text_in}
use Rattle.meaning_texts.proofs.Indented.{indentation_is}

module _ (source : Given) (w : World) (compilation : Compilation) (told : IsCompiledFrom source w compilation) where
  -- a file's text in the indentation that it sets is that in the indentation that its items say
  text_is : (k : ℕ) (file : File) → slice_get compilation.files.items k ≡ Some file → text_held source.os file.ast.items.items ≡ text_in source.os source.expansion (item_shapes file.ast.items.items)
  text_is k file e =
      let said = told.sources k file e in
      ap (λ o. file_text (unwrap_or o (codes "    ")) (item_shapes file.ast.items.items)) (indentation_is source.os source.expansion file.ast.items.items said.own said.texts)

  root_texts : HasRootTexts source compilation
  root_texts =
      let r = compilations_have_root w (views w compilation) (nodes w compilation) told.of in
      let m = mapped_at node_view compilation.modules.items 0 r.0 r.1 in
      let n = node_is w compilation told.of 0 m.0 m.1 in
      let some = n.own_files.some in
      let within = n.own_files.within in
      let v = there_within (views w compilation) m.0.first_file (omega (arith, some, within)) in
      let f = mapped_at file_view compilation.files.items m.0.first_file v.0 v.1 in
      let key : f.0.key.now ≡ m.0.source.now = first_key m.0 n.own_files.order.first f.0 f.1 in
      let own : m.0.source.now ≡ source.root = ap (λ (x : NodeView). x.source) m.2 ∙ r.3 ∙ told.same_root in
      let says : IsRead source source.root (item_shapes f.0.ast.items.items) = subst (λ q. IsRead source q (item_shapes f.0.ast.items.items)) (key ∙ own) (told.sources m.0.first_file f.0 f.1).says in
      record {
        node = m.0;
        first = m.1;
        file = f.0;
        there = f.1;
        key = key ∙ own;
        dump = record { items = item_shapes f.0.ast.items.items; says = says; is = text_is m.0.first_file f.0 f.1 };
        answer = record {
          items = item_shapes f.0.ast.items.items;
          says = says;
          is = ap (λ text. if printable (item_shapes f.0.ast.items.items) then Some text else None) (text_is m.0.first_file f.0 f.1);
        };
      }
    where
      first_key : (node : ModuleNode) → slice_get (map (λ (f : FileView). f.key) (files_of w (views w compilation) (nodes w compilation) (node_view node))) 0 ≡ Some node.source.now
          → (file : File) → slice_get compilation.files.items node.first_file ≡ Some file → file.key.now ≡ node.source.now
      first_key node e file f =
          let g = mapped_at (λ (f : FileView). f.key) (files_of w (views w compilation) (nodes w compilation) (node_view node)) 0 node.source.now e in
          let at = part_at node.first_file (node.end_file - node.first_file) (views w compilation) 0 g.0 g.1 in
          let here : node.first_file + 0 ≡ node.first_file = omega arith in
          let same : file_view file ≡ g.0 = same_Some (file_view file) g.0 (sym (mapped file_view compilation.files.items node.first_file file f) ∙ ap (slice_get (views w compilation)) (sym here) ∙ at) in
          ap (λ (v : FileView). v.key) same ∙ g.2

pub root_texts_stand : RootTextsStand
root_texts_stand source w compilation told = root_texts source w compilation told
