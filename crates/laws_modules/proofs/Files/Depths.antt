-- How deep files are that were loaded.
use Rattle.std.proofs.Common.{◌≡◌, inl, inr, sym, ◌∙◌, ap, subst, ◌<◌, ◌≤◌, ◌+◌, min, ℕ, zero, suc, List, Some, refl, arith, length, map}
use Rattle.std.specs.Prelude.{slice_get, Contains}
use Rattle.std.specs.BTreeMap.{BTreeMap}
use Rattle.std.specs.declared.string.String.{String}
use Rattle.std.proofs.lemmas.Bool.{cases_lt}
use Rattle.std.proofs.lemmas.Option.{same_Some, slice_get_within}
use Rattle.parse_expressions.specs.Literals.{Expansion}
use Rattle.semver.specs.declared.Version.{Version}
use Rattle.modules_compilation.specs.declared.module_node.File.{File}
use Rattle.modules_files.specs.Chosen.{File as SourceFile}
use Rattle.modules_sources.specs.Imports.{depth_behind}
use Rattle.modules_sources.specs.ReadingOrder.{AreFollowed}
use Rattle.meaning_rules.specs.Worlds.Given.{Text, World}
use Rattle.meaning_rules.specs.Worlds.Modules.{imports_of, IsReadingOrder}
use Rattle.meaning_rules.specs.Worlds.Sources.{Imports, IsDepth, Leads, itself, further, Reached}
use Rattle.meaning_rules.proofs.Worlds.Orders.{stands_once}
use Rattle.meaning_rules.proofs.Worlds.Places.{place_of}
use Rattle.meaning_rules.proofs.Worlds.Reading.{orders_have_reached, shallow}
use Rattle.meaning_rules.proofs.Worlds.Rows.{rows_are_imports}
use Rattle.laws_modules.specs.Files.Files.{AreSaidWhereReached, IsFile, keys_of}
use Rattle.meaning_rules.specs.Worlds.Views.{HasSources}
use Rattle.laws_modules.proofs.Files.Followed.{file_of_row, file_row, file_said, in_order, is_file, own_first, row_at}
use Rattle.laws_modules.proofs.Files.Lists.{map_at, mapped_at, one_deeper}

-- a file is one import deeper than the first of an order that imports it
module _ (w : World) (own : Text) (keys : List Text) (o : IsReadingOrder w own keys) (key : Text) (place at depth : ℕ) (importer : Text) (here : slice_get keys (suc place) ≡ Some key) (from : slice_get keys at ≡ Some importer)
    (deep : IsDepth w own importer depth) (firsts : (q : ℕ) (other : Text) → slice_get keys q ≡ Some other → Contains (imports_of w other) key → at ≤ q) where
  -- no way to it is shorter
  deeper : (n : ℕ) (file : Text) → file ≡ key → Leads w own n file → suc depth ≤ n
  deeper zero file is itself =
      let zero_is : suc place ≡ 0 = stands_once (imports_of w) own keys o (suc place) 0 own (here ∙ ap Some (sym is)) o.first in
      absurd (omega (arith, zero_is))
  deeper (suc n) file is (further {between = between} l i) =
      let p = place_of keys between ((orders_have_reached w own keys o between).1 (record { count = n; leads = l })) in
      let le = firsts p.0 between p.1 (subst (Contains (imports_of w between)) is ((rows_are_imports w between file).1 i)) in
      let r = shallow w own keys o n at p.0 between importer le from p.1 l in
      let few = r.1 in
      let least = deep.least r.0 r.2 in
      omega (arith, few, least)

module _ {Y Z : Type 0} (sources : BTreeMap (String Y) (String Z)) (expansion : Expansion) (version : Version) (w : World) (has : HasSources sources expansion w) (owner : ℕ)
    (own : Text) (reached : Reached w own) (files : List File) (imports : List (List SourceFile)) (h : AreFollowed sources expansion version owner own (length files) files imports) (said : AreSaidWhereReached w files) where
  -- the keys of the files
  abbrev keys : List Text
  keys = keys_of files

  -- they stand in reading order
  order_is : IsReadingOrder w own keys
  order_is = in_order sources expansion version w has owner own reached files imports h said

  -- none before the importer imports the file
  first_importer : (at : ℕ) (key : Text) → ((other : ℕ) (others : List SourceFile) → other < at → slice_get imports other ≡ Some others → Contains (map (λ f. f.0) others) key → ⊥)
      → (q : ℕ) (other : Text) → slice_get keys q ≡ Some other → Contains (imports_of w other) key → at ≤ q
  first_importer at key none q other e c = elim (cases_lt q at) [
    | inl lt ↦
        let f = mapped_at (λ f. f.key.now) files q other e in
        let r = row_at sources expansion version w has owner own reached (length files) files imports h said q f.0 (slice_get_within files q f.0 f.1) f.1 in
        let row = file_row sources expansion version w has owner own reached (length files) files imports h said q f.0 f.1 r.0 r.2 in
        absurd (none q r.0 lt r.1 (subst (λ ks. Contains ks key) (sym row) (subst (λ k. Contains (imports_of w k) key) (sym f.2) c)))
    | inr le ↦ le
  ]

  -- the depth of a file is the least number of imports that lead to it
  abbrev HasDepth : File → Type 0
  HasDepth file = (depth : ℕ) × IsDepth w own file.key.now depth × (file.depth ≡ min depth 4294967295)

  -- each file has its depth, by those before it
  has_depth : (bound place : ℕ) (file : File) → place ≤ bound → slice_get files place ≡ Some file → HasDepth file
  has_depth bound zero file le e =
      let first = own_first sources expansion version w has owner own reached (length files) files imports h said in
      let same : own ≡ file.key.now = same_Some own file.key.now (sym first ∙ map_at (λ f. f.key.now) files 0 file e) in
      (0, record { leads = subst (Leads w own 0) same itself; least = λ count l. omega arith }, h.first file e)
  has_depth zero (suc place) file le e = absurd (omega (arith, le))
  has_depth (suc bound) (suc place) file le e =
      let l = h.led place file e in
      let lt = l.earlier in
      let r = file_of_row sources expansion version w has owner own reached (length files) files imports h said l.at l.row l.here in
      let importer = r.0 in
      let d = has_depth bound l.at importer (omega (arith, le, lt)) r.1 in
      let row = file_row sources expansion version w has owner own reached (length files) files imports h said l.at importer r.1 l.row r.2 in
      let key = file.key.now in
      let imported : Imports w importer.key.now key = (rows_are_imports w importer.key.now key).0 (subst (λ ks. Contains ks key) row l.imported) in
      let behind : depth_behind (slice_get files l.at) ≡ min (importer.depth + 1) 4294967295 = ap depth_behind r.1 in (
        suc d.0,
        record {
          leads = further d.1.leads imported;
          least = λ n k. deeper w own keys order_is key place l.at d.0 importer.key.now (map_at (λ f. f.key.now) files (suc place) file e) (map_at (λ f. f.key.now) files l.at importer r.1) d.1 (first_importer l.at key l.first) n key refl k;
        },
        l.depth ∙ behind ∙ one_deeper 4294967295 d.0 importer.depth d.2,
      )

  -- each of the files is one of the module, as it is told
  pub each_file : (place : ℕ) (file : File) → slice_get files place ≡ Some file → IsFile w owner own file
  each_file place file e =
      let d = has_depth place place file (omega arith) e in
      record {
        of = is_file sources expansion version w has owner own reached (length files) files imports h said place file e;
        says = file_said sources expansion version w has owner own reached (length files) files imports h said place file e;
        owner_is = (h.each place file e).owner_is;
        depth = d.0;
        least = d.1;
        depth_is = d.2;
      }
