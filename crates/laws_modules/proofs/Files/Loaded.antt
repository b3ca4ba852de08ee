-- Files that are loaded for a module are its files.
use Rattle.std.proofs.Common.{◌≡◌, sym, ◌∙◌, ap, subst, Bool, true, false, ℕ, List, Some, length}
use Rattle.std.specs.Prelude.{slice_get}
use Rattle.std.specs.BTreeMap.{BTreeMap}
use Rattle.std.specs.declared.string.String.{String}
use Rattle.std.proofs.lemmas.Option.{same_Some, slice_get_within}
use Rattle.just_text.specs.declared.compile_error.CompileErrorKind.{CompileErrorKind}
use Rattle.just_text.specs.declared.os.Os.{Os}
use Rattle.tree_items.specs.Files.{item_shapes}
use Rattle.parse_expressions.specs.Literals.{Expansion}
use Rattle.justfile_syntax.specs.Laws.{FaultsSayNothing}
use Rattle.justfile_syntax.specs.Reads.{Reads}
use Rattle.semver.specs.declared.Version.{Version}
use Rattle.modules_compilation.specs.declared.module_node.File.{File}
use Rattle.meaning_rules.specs.Worlds.Given.{Text, World}
use Rattle.meaning_rules.specs.Worlds.Sources.{ImportsAt, IsFileOf}
use Rattle.meaning_rules.specs.Worlds.Standing.{StandsFor}
use Rattle.meaning_rules.proofs.Worlds.Places.{place_of}
use Rattle.meaning_rules.proofs.Worlds.Reading.{orders_have_reached}
use Rattle.meaning_rules.specs.Rules.{LeadsNowhere}
use Rattle.laws_modules.specs.Files.Files.{keys_of}
use Rattle.laws_modules.specs.Files.Laws.{AreLoadedFiles, LoadedAreFaultless, LoadedAreFiles, LoadedImportThere}
use Rattle.meaning_rules.specs.Worlds.Views.{given_of}
use Rattle.laws_modules.proofs.Files.Depths.{each_file}
use Rattle.laws_modules.proofs.Files.Followed.{file_said, in_order, is_reached, row_at}
use Rattle.laws_modules.proofs.Files.Lines.{none_nowhere}
use Rattle.laws_modules.proofs.Files.Lists.{mapped_at}
use Rattle.laws_modules.proofs.Files.Rounds.{no_round_of}

module _ {Y Z : Type 0} (sources : BTreeMap (String Y) (String Z)) where
  -- the files are those of the module
  pub loaded_are_files : LoadedAreFiles sources
  loaded_are_files expansion version w owner own files l =
      let h = l.are.order.followed in
      let imports = l.are.order.imports in
      record {
        order = in_order sources expansion version w l.has owner own l.own_reached files imports h l.said;
        each = each_file sources expansion version w l.has owner own l.own_reached files imports h l.said;
        no_round = no_round_of sources expansion version w l.has owner own l.own_reached files imports h l.said l.are.places l.are.order.are l.are.no_cycle;
      }

  module _ (expansion : Expansion) (version : Version) (w : World) (owner : ℕ) (own : Text) (files : List File) (l : AreLoadedFiles sources expansion version w owner own files) where
    -- a file of the module is one of those that are loaded
    is_loaded : (key : Text) → IsFileOf w own key → (place : ℕ) × (file : File) × (slice_get files place ≡ Some file) × (file.key.now ≡ key)
    is_loaded key of =
        let p = place_of (keys_of files) key ((orders_have_reached w own (keys_of files) (loaded_are_files expansion version w owner own files l).order key).1 of) in
        let f = mapped_at (λ f. f.key.now) files p.0 key p.1 in
        (p.0, f.0, f.1, f.2)

    -- no import of them that must be there is missing
    import_there : (key : Text) (place : ℕ) (path told : Text) → IsFileOf w own key → ImportsAt w key place false path → LeadsNowhere w key path told → ⊥
    import_there key place path told of line nowhere =
        let h = l.are.order.followed in
        let imports = l.are.order.imports in
        let f = is_loaded key of in
        let file = f.1 in
        let says = file_said sources expansion version w l.has owner own l.own_reached (length files) files imports h l.said f.0 file f.2 in
        let r = row_at sources expansion version w l.has owner own l.own_reached (length files) files imports h l.said f.0 file (slice_get_within files f.0 file f.2) f.2 in
        none_nowhere sources file.key.now expansion w l.has file.ast.items.items (h.each f.0 file f.2).whole.cooked says r.0 r.2 place path told
        (subst (λ k. ImportsAt w k place false path) (sym f.3) line) (subst (λ k. LeadsNowhere w k path told) (sym f.3) nowhere)

    -- none of them is refused, in a world that the sources stand for
    no_fault : FaultsSayNothing → (os : Os) (unstable : Bool) (root : Text) → StandsFor (given_of sources os unstable expansion version root) w → (key : Text) (kind : CompileErrorKind) → IsFileOf w own key → w.refused key kind ≡ true → ⊥
    no_fault faultless os unstable root s key kind of e =
        let h = l.are.order.followed in
        let f = is_loaded key of in
        let file = f.1 in
        let read = h.each f.0 file f.2 in
        let r = is_reached sources expansion version w l.has owner own l.own_reached (length files) files l.are.order.imports h l.said f.0 file f.2 in
        let fault = (s.refused file.key.now r kind).0 (ap (λ k. w.refused k kind) f.3 ∙ e) in
        let same : read.text ≡ fault.text = same_Some read.text fault.text (sym read.there ∙ fault.found) in
        faultless expansion version fault.text kind fault.fault (item_shapes file.ast.items.items) (subst (λ t. Reads expansion version t (item_shapes file.ast.items.items)) same read.says)

  pub loaded_import_there : LoadedImportThere sources
  loaded_import_there expansion version w owner own files l key place path told of line nowhere = import_there expansion version w owner own files l key place path told of line nowhere

  pub loaded_are_faultless : LoadedAreFaultless sources
  loaded_are_faultless faultless os unstable expansion version root w s owner own files l key kind of e = no_fault expansion version w owner own files l faultless os unstable root s key kind of e
