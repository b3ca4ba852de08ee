-- Files that are followed, in a world that says what they say.
use Rattle.std.proofs.Common.{◌≡◌, sym, ◌∙◌, ap, subst, Bool, true, false, cond, ◌||◌, ◌<◌, ◌≤◌, ◌++◌, ◌∷◌, [], ℕ, zero, suc, List, Some, Result, Ok, refl, arith, length, map, take, append_assoc}
use Rattle.std.specs.Prelude.{slice_get, Contains}
use Rattle.std.specs.BTreeMap.{BTreeMap}
use Rattle.std.specs.List.{flat_map}
use Rattle.std.specs.Str.{bytes_eq}
use Rattle.std.specs.declared.string.String.{String}
use Rattle.std.proofs.Math.Seq.{take-length}
use Rattle.std.proofs.lemmas.List.{append-nil, map-append}
use Rattle.std.proofs.lemmas.Option.{same_Some}
use Rattle.std.proofs.lemmas.Slice.Eq.{bytes_eq-Decides}
use Rattle.just_text.specs.declared.os.Os.{Os}
use Rattle.tree_items.specs.Files.{item_shapes}
use Rattle.parse_expressions.specs.Literals.{Expansion}
use Rattle.semver.specs.declared.Version.{Version}
use Rattle.modules_compilation.specs.declared.error.Error.{Error}
use Rattle.modules_compilation.specs.declared.module_node.File.{File}
use Rattle.modules_files.specs.Chosen.{File as SourceFile}
use Rattle.modules_sources.specs.Imports.{imports_among}
use Rattle.modules_sources.specs.Queue.{is_among}
use Rattle.modules_sources.specs.Reached.{with_new}
use Rattle.modules_sources.specs.ReadingOrder.{AreFollowed, IsOfModule}
use Rattle.meaning_rules.specs.Worlds.Given.{Text, World, filled}
use Rattle.meaning_rules.specs.Worlds.Modules.{imports_of, IsReadingOrder}
use Rattle.meaning_rules.specs.Worlds.Order.{firsts_behind}
use Rattle.meaning_rules.specs.Worlds.Order as order
use Rattle.meaning_rules.specs.Worlds.Sources.{Imports, IsFileOf, Leads, itself, further, Reached}
use Rattle.meaning_rules.specs.Worlds.Standing.{StandsFor}
use Rattle.meaning_rules.proofs.Worlds.Reached.{leads_reached}
use Rattle.meaning_rules.proofs.Worlds.Rows.{rows_are_imports}
use Rattle.laws_modules.specs.Files.Files.{AreSaidWhereReached, IsSaid, keys_of}
use Rattle.meaning_rules.specs.Worlds.Views.{given_of, HasSources}
use Rattle.laws_modules.proofs.Files.Imports.{imports_are_row}
use Rattle.laws_modules.proofs.Files.Lists.{from_take, in_take, map_at, mapped_at, other_at}

-- ---- keys that are new

-- a key is among others, whichever is compared with which
among_same : (keys : List Text) (key : Text) → is_among keys key ≡ order.is_among keys key
among_same [] key = refl
among_same (other ∷ keys) key = ap (λ b. b || is_among keys key) (turned (bytes_eq key other) (bytes_eq other key) refl refl) ∙ ap (λ b. bytes_eq other key || b) (among_same keys key)
  where
    turned : (a b : Bool) → bytes_eq key other ≡ a → bytes_eq other key ≡ b → bytes_eq key other ≡ bytes_eq other key
    turned true b e f = e ∙ sym ((bytes_eq-Decides other key).1 (sym ((bytes_eq-Decides key other).0 e)))
    turned false true e f = (bytes_eq-Decides key other).1 (sym ((bytes_eq-Decides other key).0 f)) ∙ sym f
    turned false false e f = e ∙ sym f

-- keys with those of new files, as texts where they stand first
pub new_are_firsts : (keys : List Text) (files : List SourceFile) → with_new keys files ≡ keys ++ firsts_behind keys (map (λ f. f.0) files)
new_are_firsts keys [] = sym (append-nil keys)
new_are_firsts keys (file ∷ files) =
    by_test (is_among keys file.0) (new_are_firsts keys files) (new_are_firsts (keys ++ file.0 ∷ []) files)
    ∙ ap (λ b. keys ++ cond b (firsts_behind keys (map (λ f. f.0) files)) (file.0 ∷ firsts_behind (keys ++ file.0 ∷ []) (map (λ f. f.0) files))) (among_same keys file.0)
  where
    by_test : (b : Bool) → with_new keys files ≡ keys ++ firsts_behind keys (map (λ f. f.0) files) → with_new (keys ++ file.0 ∷ []) files ≡ (keys ++ file.0 ∷ []) ++ firsts_behind (keys ++ file.0 ∷ []) (map (λ f. f.0) files)
        → with_new (cond b keys (keys ++ file.0 ∷ [])) files ≡ keys ++ cond b (firsts_behind keys (map (λ f. f.0) files)) (file.0 ∷ firsts_behind (keys ++ file.0 ∷ []) (map (λ f. f.0) files))
    by_test true known new = known
    by_test false known new = new ∙ append_assoc keys (file.0 ∷ []) (firsts_behind (keys ++ file.0 ∷ []) (map (λ f. f.0) files))

-- ---- imports, one after the other

-- one way after another
pub leads_join : (w : World) (a b c : Text) (m n : ℕ) → Leads w a m b → Leads w b n c → (count : ℕ) × Leads w a count c
leads_join w a b c m zero l itself = (m, l)
leads_join w a b c m (suc n) l (further {between = d} k i) = let r = leads_join w a b d m n l k in (suc r.0, further r.1 i)

-- an import, and a way after it
pub leads_first : (w : World) (a b c : Text) (n : ℕ) → Imports w a b → Leads w b n c → (count : ℕ) × Leads w a count c
leads_first w a b c n i l = leads_join w a b c 1 n (further itself i) l

module _ {Y Z : Type 0} (sources : BTreeMap (String Y) (String Z)) (os : Os) (unstable : Bool) (expansion : Expansion) (version : Version) (root : Text) (w : World) (s : StandsFor (given_of sources os unstable expansion version root) w) where
  -- the world has files where the sources have texts
  pub has_sources : HasSources sources expansion w
  has_sources = record { same_expansion = s.same_expansion; there = s.there }

  -- where it reaches a file that was read, it says what was read
  pub stands_said : (files : List File) → ((place : ℕ) (file : File) → slice_get files place ≡ Some file → (owner : ℕ) × IsOfModule sources expansion version owner file) → AreSaidWhereReached w files
  stands_said files each place file e r =
      let of = (each place file e).1 in
      (s.said file.key.now r (filled (item_shapes file.ast.items.items))).1 (record { text = of.text; found = of.there; all = item_shapes file.ast.items.items; reads = of.says; are = refl })

  -- so it does where the files of a module are followed
  pub followed_said : (owner : ℕ) (own : Text) (count : ℕ) (files : List File) (imports : List (List SourceFile)) → AreFollowed sources expansion version owner own count files imports → AreSaidWhereReached w files
  followed_said owner own count files imports h = stands_said files (λ place file e. (owner, h.each place file e))

module _ {Y Z : Type 0} (sources : BTreeMap (String Y) (String Z)) (expansion : Expansion) (version : Version) (w : World) (has : HasSources sources expansion w) (owner : ℕ) where
  -- the files that a file names by its imports
  abbrev imports_in_file : File → Result (List SourceFile) Error
  imports_in_file file = imports_among sources file.key.now file.ast.items.items

  -- the files that a file names are its row, where the world says what it says
  pub row_of : (file : File) → IsOfModule sources expansion version owner file → IsSaid w file → (row : List SourceFile) → imports_in_file file ≡ Ok row → map (λ f. f.0) row ≡ imports_of w file.key.now
  row_of file of says row e = imports_are_row sources expansion w has file.key.now file.ast.items.items of.whole.cooked says row e

  module _ (own : Text) (reached : Reached w own) (count : ℕ) (files : List File) (imports : List (List SourceFile)) (h : AreFollowed sources expansion version owner own count files imports)
      (said : AreSaidWhereReached w files) where
    -- the file whose row stands at a place
    pub file_of_row : (place : ℕ) (row : List SourceFile) → slice_get imports place ≡ Some row → (file : File) × (slice_get files place ≡ Some file) × (imports_in_file file ≡ Ok row)
    file_of_row place row e =
        let r = other_at imports_in_file Ok (take count files) imports h.named place row e in
        (r.0, (from_take files count place r.0 r.1).1, r.2)

    -- the row of a file that is followed
    pub row_at : (place : ℕ) (file : File) → place < count → slice_get files place ≡ Some file → (row : List SourceFile) × (slice_get imports place ≡ Some row) × (imports_in_file file ≡ Ok row)
    row_at place file lt e =
        let r = other_at Ok imports_in_file imports (take count files) (sym h.named) place file (in_take files count place file lt e) in
        (r.0, r.1, sym r.2)

    -- the keys are the own one and then those that are new
    keys_are : keys_of files ≡ own ∷ firsts_behind (own ∷ []) (map (λ f. f.0) (flat_map (λ row. row) imports))
    keys_are = h.whole ∙ new_are_firsts (own ∷ []) (flat_map (λ row. row) imports)

    -- the own file is the first
    pub own_first : slice_get (keys_of files) 0 ≡ Some own
    own_first = ap (λ ks. slice_get ks 0) keys_are

    -- imports lead to each file, by those before it
    comes : (bound place : ℕ) (file : File) → place ≤ bound → slice_get files place ≡ Some file → (n : ℕ) × Leads w own n file.key.now
    comes bound zero file le e =
        let same : own ≡ file.key.now = same_Some own file.key.now (sym own_first ∙ map_at (λ f. f.key.now) files 0 file e) in
        (0, subst (Leads w own 0) same itself)
    comes zero (suc place) file le e = absurd (omega (arith, le))
    comes (suc bound) (suc place) file le e =
        let l = h.led place file e in
        let lt = l.earlier in
        let r = file_of_row l.at l.row l.here in
        let importer = r.0 in
        let before = comes bound l.at importer (omega (arith, le, lt)) r.1 in
        let row = row_of importer (h.each l.at importer r.1) (said l.at importer r.1 (leads_reached w own before.0 importer.key.now reached before.1)) l.row r.2 in
        (suc before.0, further before.1 ((rows_are_imports w importer.key.now file.key.now).0 (subst (λ ks. Contains ks file.key.now) row l.imported)))

    -- each file is one of the module
    pub is_file : (place : ℕ) (file : File) → slice_get files place ≡ Some file → IsFileOf w own file.key.now
    is_file place file e = let r = comes place place file (omega arith) e in record { count = r.0; leads = r.1 }

    -- the world reaches each
    pub is_reached : (place : ℕ) (file : File) → slice_get files place ≡ Some file → Reached w file.key.now
    is_reached place file e = let f = is_file place file e in leads_reached w own f.count file.key.now reached f.leads

    -- each says what the world says at its key
    pub file_said : (place : ℕ) (file : File) → slice_get files place ≡ Some file → IsSaid w file
    file_said place file e = said place file e (is_reached place file e)

    -- what each names is its row
    pub file_row : (place : ℕ) (file : File) → slice_get files place ≡ Some file → (row : List SourceFile) → imports_in_file file ≡ Ok row → map (λ f. f.0) row ≡ imports_of w file.key.now
    file_row place file e row f = row_of file (h.each place file e) (file_said place file e) row f

  -- ---- all files of a module

  module _ (own : Text) (reached : Reached w own) (files : List File) (imports : List (List SourceFile)) (h : AreFollowed sources expansion version owner own (length files) files imports)
      (said : AreSaidWhereReached w files) where
    -- what these files name are their rows
    abbrev AreRows : List File → Type 0
    AreRows xs = (place : ℕ) (file : File) → slice_get xs place ≡ Some file → (row : List SourceFile) → imports_in_file file ≡ Ok row → map (λ f. f.0) row ≡ imports_of w file.key.now

    -- all that they name, one file after the other
    rows_are : (xs : List File) (rows : List (List SourceFile)) → AreRows xs → map imports_in_file xs ≡ map Ok rows → map (λ f. f.0) (flat_map (λ row. row) rows) ≡ flat_map (imports_of w) (keys_of xs)
    rows_are [] [] each e = refl
    rows_are [] (row ∷ rows) each e = absurd (cc e)
    rows_are (x ∷ xs) [] each e = absurd (cc e)
    rows_are (x ∷ xs) (row ∷ rows) each e =
        let first : imports_in_file x ≡ Ok row = cc e in
        let others : map imports_in_file xs ≡ map Ok rows = cc e in
        map-append (λ f. f.0) row (flat_map (λ r. r) rows) ∙ ap (λ ks. ks ++ map (λ f. f.0) (flat_map (λ r. r) rows)) (each 0 x refl row first)
        ∙ ap (λ ks. imports_of w x.key.now ++ ks) (rows_are xs rows (λ place file at. each (suc place) file at) others)

    all_rows : map (λ f. f.0) (flat_map (λ row. row) imports) ≡ flat_map (imports_of w) (keys_of files)
    all_rows = rows_are files imports (file_row own reached (length files) files imports h said) (ap (map imports_in_file) (sym (take-length files)) ∙ h.named)

    -- they stand in the module's reading order
    pub in_order : IsReadingOrder w own (keys_of files)
    in_order = record {
      first = own_first own reached (length files) files imports h said;
      whole = keys_are own reached (length files) files imports h said ∙ ap (λ ks. own ∷ firsts_behind (own ∷ []) ks) all_rows;
      led = λ place key e.
          let f = mapped_at (λ f. f.key.now) files (suc place) key e in
          let l = h.led place f.0 f.1 in
          let r = file_of_row own reached (length files) files imports h said l.at l.row l.here in
          record {
            at = l.at;
            importer = r.0.key.now;
            earlier = l.earlier;
            found = map_at (λ g. g.key.now) files l.at r.0 r.1;
            imported = subst (Contains (imports_of w r.0.key.now)) f.2 (subst (λ ks. Contains ks f.0.key.now) (file_row own reached (length files) files imports h said l.at r.0 r.1 l.row r.2) l.imported);
          };
    }
