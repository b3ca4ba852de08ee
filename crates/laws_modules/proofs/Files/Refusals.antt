-- Why the files of a module are refused, by the rules that are broken.
use Rattle.std.proofs.Common.{◌≡◌, inl, sym, ◌∙◌, ap, subst, Bool, true, false, cond, ◌+◌, ◌++◌, ◌∷◌, [], ℕ, zero, suc, List, Option, Some, None, Result, Ok, Err, refl, length, map, drop}
use Rattle.std.specs.Prelude.{Contains, slice_get}
use Rattle.std.specs.BTreeMap.{BTreeMap}
use Rattle.std.specs.declared.string.String.{String}
use Rattle.std.proofs.lemmas.Option.{none-some}
use Rattle.just_text.specs.declared.os.Os.{Os}
use Rattle.parse_expressions.specs.Literals.{Expansion}
use Rattle.semver.specs.declared.Version.{Version}
use Rattle.modules_compilation.specs.Places.{items_of}
use Rattle.modules_compilation.specs.declared.error.Error.{Error}
use Rattle.modules_compilation.specs.declared.module_node.File.{File as LoadedFile}
use Rattle.modules_files.specs.Chosen.{File}
use Rattle.modules_sources.specs.Imports.{depth_behind, imports_among}
use Rattle.modules_sources.specs.Items.{key_of}
use Rattle.modules_sources.specs.Loading.{IsTurnRefused, import_refused, text_refused, IsUnreadAmong}
use Rattle.modules_sources.specs.Queue.{is_among}
use Rattle.modules_sources.specs.Reached.{new_files}
use Rattle.modules_sources.specs.ReadingOrder.{IsCycleRefused, IsRefusedBehind, refused_cycle, refused_files, refused_import, refused_text, loaded_keys}
use Rattle.modules_sources.specs.Submodules.{IsCircular}
use Rattle.meaning_rules.specs.Worlds.Given.{Overrides, Text, World}
use Rattle.meaning_rules.specs.Worlds.Sources.{Imports, Reached, imported}
use Rattle.meaning_rules.specs.Worlds.Standing.{StandsFor}
use Rattle.meaning_rules.proofs.Worlds.Places.{contains_at}
use Rattle.meaning_rules.proofs.Worlds.Rows.{rows_are_imports}
use Rattle.meaning_rules.specs.Rules.{Broken}
use Rattle.meaning_rules.specs.Told.{IsTold}
use Rattle.laws_modules.specs.Files.Files.{AreSaidWhereReached}
use Rattle.laws_modules.specs.Files.Laws.{RefusedAreTold}
use Rattle.meaning_rules.specs.Worlds.Views.{given_of, HasSources}
use Rattle.laws_modules.proofs.Files.Faults.{import_told, round_told, unread_told}
use Rattle.laws_modules.proofs.Files.Imports.{all_known}
use Rattle.laws_modules.proofs.Files.Followed.{file_row, followed_said, has_sources, file_said, is_reached}
use Rattle.laws_modules.proofs.Files.Lines.{refused_import_of}
use Rattle.laws_modules.proofs.Files.Lists.{dropped_at, map_at}
use Rattle.laws_modules.proofs.Files.Rounds.{round_at}

-- a file that is new is one of those found
new_is_found : (keys : List Text) (files : List File) (i : ℕ) (file : File) → slice_get (new_files keys files) i ≡ Some file → (j : ℕ) × (slice_get files j ≡ Some file)
new_is_found keys [] i file e = absurd (none-some file e)
new_is_found keys (other ∷ files) i file e = by_test (is_among keys other.0) i (λ k. new_is_found keys files k file) (λ k. new_is_found (keys ++ other.0 ∷ []) files k file) e
  where
    by_test : (b : Bool) (i : ℕ) → ((k : ℕ) → slice_get (new_files keys files) k ≡ Some file → (j : ℕ) × (slice_get files j ≡ Some file))
        → ((k : ℕ) → slice_get (new_files (keys ++ other.0 ∷ []) files) k ≡ Some file → (j : ℕ) × (slice_get files j ≡ Some file))
        → slice_get (cond b (new_files keys files) (other ∷ new_files (keys ++ other.0 ∷ []) files)) i ≡ Some file → (j : ℕ) × (slice_get (other ∷ files) j ≡ Some file)
    by_test true i known new e = let r = known i e in (suc r.0, r.1)
    by_test false zero known new e = (0, e)
    by_test false (suc i) known new e = let r = new i e in (suc r.0, r.1)

module _ {Y Z : Type 0} (sources : BTreeMap (String Y) (String Z)) (os : Os) (unstable : Bool) (expansion : Expansion) (version : Version) (root : Text) (w : World) (s : StandsFor (given_of sources os unstable expansion version root) w) (owner : ℕ)
    (own : Text) (reached : Reached w own) (first : ℕ) (refusal : Error) (o : Overrides) where
  -- the refusal names a rule that is broken
  abbrev Told : Type 0
  Told = IsTold (Broken w o) refusal

  -- the world has files where the sources have texts
  abbrev has : HasSources sources expansion w
  has = has_sources sources os unstable expansion version root w s

  -- what the file at a place imports is refused
  module _ (h : IsRefusedBehind sources expansion version owner own first refusal) where
    -- the module's files
    abbrev own_files : List LoadedFile
    own_files = drop first h.files

    -- where the world reaches them, they say what it says
    said : AreSaidWhereReached w own_files
    said = followed_said sources os unstable expansion version root w s owner own h.count own_files h.noted.imports h.noted.followed

    -- what a file names by its imports
    abbrev named : Option LoadedFile → Result (List File) Error
    named file = imports_among sources (key_of file) (items_of file)

    -- the file at the place
    abbrev here : Option LoadedFile
    here = slice_get h.files (first + h.count)

    -- it is one of the module's
    among_files : (file : LoadedFile) → here ≡ Some file → slice_get own_files h.count ≡ Some file
    among_files file e = dropped_at h.files first h.count ∙ e

    -- an import of the file is refused
    by_import : (file : Option LoadedFile) → here ≡ file → named file ≡ Err refusal → Told
    by_import None is e = absurd (cc e)
    by_import (Some file) is e =
        let at = among_files file is in
        let f = h.noted.followed in
        let r = is_reached sources expansion version w has owner own reached h.count own_files h.noted.imports f said h.count file at in
        let says = file_said sources expansion version w has owner own reached h.count own_files h.noted.imports f said h.count file at in
        let i = refused_import_of sources file.key.now expansion w has file.ast.items.items (f.each h.count file at).whole.cooked says refusal e in
        import_told w o refusal i.told i.is file.key.now i.place i.path r i.line i.nowhere

    -- the text of a new file is refused
    by_text : (found told : List File) (file : Option LoadedFile) → here ≡ file → named file ≡ Ok found → told ≡ new_files (loaded_keys own_files) found → IsUnreadAmong expansion version owner (depth_behind here) told h.numbers refusal → Told
    by_text found told None is e are u =
        let none : [] ≡ found = cc e in
        let new = new_is_found (loaded_keys own_files) found u.place u.source (ap (λ fs. slice_get fs u.place) (sym are) ∙ u.there) in
        absurd (none-some u.source (ap (λ fs. slice_get fs new.0) none ∙ new.1))
    by_text found told (Some file) is e are u =
        let at = among_files file is in
        let f = h.noted.followed in
        let r = is_reached sources expansion version w has owner own reached h.count own_files h.noted.imports f said h.count file at in
        let row = file_row sources expansion version w has owner own reached h.count own_files h.noted.imports f said h.count file at found e in
        let new = new_is_found (loaded_keys own_files) found u.place u.source (ap (λ fs. slice_get fs u.place) (sym are) ∙ u.there) in
        let key = u.source.0 in
        let listed : Contains (map (λ g. g.0) found) key = contains_at (map (λ g. g.0) found) new.0 key (map_at (λ g. g.0) found new.0 u.source new.1) in
        let i : Imports w file.key.now key = (rows_are_imports w file.key.now key).0 (subst (λ ks. Contains ks key) row listed) in
        unread_told sources os unstable expansion version root w s owner (depth_behind here) u.source u.used refusal u.refused (imported r i) (all_known sources file.key.now file.ast.items.items found e new.0 u.source new.1) o

    -- one of both
    behind_told : IsTurnRefused sources expansion version owner (first + h.count) h.files h.reached h.numbers refusal → Told
    behind_told (import_refused e) = by_import here refl e
    behind_told (text_refused found told e are u) = by_text found told here refl e (are (loaded_keys own_files) h.noted.keys) u

  -- files import one another
  cycle_told : IsCycleRefused sources expansion version owner own first refusal → Told
  cycle_told h =
      let files = drop first h.files in
      let step = h.step in
      let f = h.order.followed in
      let said = followed_said sources os unstable expansion version root w s owner own (length files) files h.order.imports f in
      let round = round_at sources expansion version w has owner own reached files h.order.imports f said h.places h.order.are step.places step.cycle step.at step.importer step.imported step.from step.to in
      let from : key_of (slice_get files step.importer) ≡ key_of (slice_get h.files (first + step.importer)) = ap key_of (dropped_at h.files first step.importer) in
      let to : key_of (slice_get files step.imported) ≡ key_of (slice_get h.files (first + step.imported)) = ap key_of (dropped_at h.files first step.imported) in
      let circular = subst (λ k. IsCircular refusal (key_of (slice_get files step.importer)) k) (sym to) (subst (λ k. IsCircular refusal k (key_of (slice_get h.files (first + step.imported)))) (sym from) step.circular) in
      round_told w o refusal (key_of (slice_get files step.importer)) (key_of (slice_get files step.imported)) circular round.0 (inl (round.1, round.2))

module _ {Y Z : Type 0} (sources : BTreeMap (String Y) (String Z)) where
  -- a refusal of a module's files names a rule that is broken
  pub refused_are_told : RefusedAreTold sources
  refused_are_told os unstable expansion version root w s owner first source refusal r known (refused_text used u) o = unread_told sources os unstable expansion version root w s owner 0 source used refusal u r known o
  refused_are_told os unstable expansion version root w s owner first source refusal r known (refused_files (refused_import h)) o = behind_told sources os unstable expansion version root w s owner source.0 r first refusal o h h.refused
  refused_are_told os unstable expansion version root w s owner first source refusal r known (refused_files (refused_cycle h)) o = cycle_told sources os unstable expansion version root w s owner source.0 r first refusal o h
