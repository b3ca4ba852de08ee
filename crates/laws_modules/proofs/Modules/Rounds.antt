-- No submodule leads back to its own file.
use Rattle.std.proofs.Common.{◌≡◌, sym, subst, ◌++◌, ◌∷◌, [], ℕ, suc, List, Some}
use Rattle.std.specs.Prelude.{slice_get}
use Rattle.std.specs.BTreeMap.{BTreeMap}
use Rattle.std.specs.declared.string.String.{String}
use Rattle.modules_compilation.specs.declared.compilation.Compilation.{Compilation}
use Rattle.modules_compilation.specs.declared.module_node.ModuleNode.{ModuleNode}
use Rattle.modules_sources.specs.Above.{above_own, above_parent, IsAbove}
use Rattle.meaning_rules.specs.Worlds.Given.{Text, World}
use Rattle.meaning_rules.specs.Worlds.Sources.{further, IsFileOf, IsSubmodule, itself, Leads, Reached}
use Rattle.meaning_rules.specs.Rules.{by_import, by_submodule, Comes, itself as comes_itself}
use Rattle.laws_modules.specs.Files.Laws.{LoadedAreFiles}
use Rattle.laws_modules.specs.Submodules.Submodules.{FoundAreSubmodules}
use Rattle.laws_modules.specs.Modules.Laws.{IsLoaded}
use Rattle.laws_modules.specs.Modules.Modules.{IsPath}
use Rattle.laws_modules.proofs.Modules.Loaded.{complete, inner_child, of_module}

module _ {Y Z : Type 0} (sources : BTreeMap (String Y) (String Z)) (files_law : LoadedAreFiles sources) (submodules_law : FoundAreSubmodules sources) (w : World) (compilation : Compilation) (h : IsLoaded sources w compilation) where
  abbrev modules : List ModuleNode
  modules = compilation.modules.items

  -- a file is one of a module below which, or of which, a key is the own file
  record IsBelow (key file : Text) : Type 0 where
    k : ℕ
    node : ModuleNode
    there : slice_get modules k ≡ Some node
    path : List Text
    has_path : IsPath w compilation.files.items modules k path
    of : IsFileOf w node.source.now file
    above : IsAbove modules key k

  below : (key file : Text) → Comes w key file → (k : ℕ) (node : ModuleNode) → slice_get modules k ≡ Some node → (path : List Text) → IsPath w compilation.files.items modules k path → node.source.now ≡ key → IsBelow key file
  below key _ comes_itself k node there path has_path own =
      record { k = k; node = node; there = there; path = path; has_path = has_path; of = record { count = 0; leads = subst (λ o. Leads w o 0 key) (sym own) itself }; above = above_own there own }
  below key _ (by_import {between} {other} comes imports) k node there path has_path own =
      let b = below key between comes k node there path has_path own in
      record { k = b.k; node = b.node; there = b.there; path = b.path; has_path = b.has_path; of = record { count = suc b.of.count; leads = further b.of.leads imports }; above = b.above }
  below key _ (by_submodule {between} {name} {other} comes sub) k node there path has_path own =
      let b = below key between comes k node there path has_path own in
      let c = inner_child sources files_law submodules_law w compilation h b.path b.k b.node b.there b.has_path between name other b.of sub in
      record {
        k = c.place.k;
        node = c.place.node;
        there = c.place.there;
        path = b.path ++ name ∷ [];
        has_path = c.place.has_path;
        of = record { count = 0; leads = subst (λ o. Leads w o 0 other) (sym c.place.source) itself };
        above = above_parent c.place.there c.parent b.above;
      }

  pub no_round : (current other name : Text) → Reached w current → IsSubmodule w current name other → Comes w other current → ⊥
  no_round current other name reached sub comes =
      let m = of_module sources files_law submodules_law w compilation h current reached in
      let p = complete sources files_law submodules_law w compilation h m.0 m.1 m.2 in
      let c = inner_child sources files_law submodules_law w compilation h m.0 p.k p.node p.there p.has_path current name other (subst (λ o. IsFileOf w o current) (sym p.source) m.3) sub in
      let b = below other current comes c.place.k c.place.node c.place.there (m.0 ++ name ∷ []) c.place.has_path c.place.source in
      let again = inner_child sources files_law submodules_law w compilation h b.path b.k b.node b.there b.has_path current name other b.of sub in
      h.are.linked.own_files again.place.k b.k again.place.node again.place.there again.parent (subst (λ key. IsAbove modules key b.k) (sym again.place.source) b.above)
