-- What a submodule may mean, among the sources and in a world.
use Rattle.std.proofs.Common.{◌≡◌, ◌⊎◌, inl, inr, sym, ◌∙◌, ap, subst, Bool, true, false, cond, ◌||◌, List, [], ◌∷◌, ◌++◌, Option, Some, None, map, refl}
use Rattle.std.specs.Prelude.{◌↔◌, Result, Ok, codes, Contains, is_some, bytes_eq}
use Rattle.std.specs.BTreeMap.{BTreeMap, get_by_text, is_at}
use Rattle.std.specs.Cmp.Lexicographic.{slice_cmp}
use Rattle.std.specs.List.{filter, list_any}
use Rattle.std.specs.Map.{lookup as entry_at}
use Rattle.std.specs.Option.{option_map}
use Rattle.std.specs.Ordering.{is_eq, nat_cmp}
use Rattle.std.specs.String.{string_bytes}
use Rattle.std.specs.declared.string.String.{String}
use Rattle.std.proofs.lemmas.Bool.{and_from, and_parts, false≢true, or_cases, or_left, or_right}
use Rattle.std.proofs.lemmas.Map.Text.{is_eq-slice_cmp}
use Rattle.std.proofs.lemmas.Option.{none-some, same_Some}
use Rattle.std.proofs.lemmas.Slice.Eq.{bytes_eq-Decides}
use Rattle.just_text.specs.declared.compile_error.CompileErrorKind.{CompileErrorKind}
use Rattle.parse_expressions.specs.Literals.{Expansion}
use Rattle.tree_items.specs.Items.{ModuleShape}
use Rattle.modules_compilation.specs.Paths.{folder_from, key_from}
use Rattle.modules_files.specs.Chosen.{AreMeant}
use Rattle.modules_files.specs.Found.{file_at, is_inside, is_inside_at, is_key, is_of, is_placed_if, is_there, keys_at, may_mean, source_keys, source_of}
use Rattle.modules_files.specs.declared.search.Files.{Files}
use Rattle.modules_sources.specs.Loaded.{IsLookupOf}
use Rattle.modules_sources.proofs.Reaching.{among_at, place_among}
use Rattle.meaning_rules.specs.Worlds.Given.{Text, World}
use Rattle.meaning_rules.specs.Worlds.Sources.{Beside, ByPath, InFolder, IsOfFolder, IsThere, May, MayMean, Writes, is_justfile}
use Rattle.meaning_rules.proofs.Worlds.Places.{contains_at, place_of}
use Rattle.meaning_rules.specs.Worlds.Views.{HasSources}
use Rattle.laws_modules.proofs.Submodules.Folders.{IsFolder, is_justfile_of, named_folder, of_folder}

some_mapped : {A B : Type 0} (f : A → B) (o : Option A) → is_some (option_map f o) ≡ is_some o
some_mapped f None = refl
some_mapped f (Some x) = refl

-- ---- keys among others

-- a key is among those of the entries where one is found for it
among_entries : {Y V : Type 0} (k : Text) (entries : List (String Y × V))
    → list_any (bytes_eq k) (map (λ entry. string_bytes entry.0) entries) ≡ is_some (entry_at (is_at (λ q. slice_cmp nat_cmp k (string_bytes q))) entries)
among_entries k [] = refl
among_entries {Y} {V} k (e ∷ entries) =
    ap (λ b. b || list_any (bytes_eq k) (map (λ entry. string_bytes entry.0) entries)) (sym (is_eq-slice_cmp k (string_bytes e.0))) ∙ by_test (is_eq (slice_cmp nat_cmp k (string_bytes e.0))) (among_entries k entries)
  where
    by_test : (b : Bool) → list_any (bytes_eq k) (map (λ entry. string_bytes entry.0) entries) ≡ is_some (entry_at (is_at (λ q. slice_cmp nat_cmp k (string_bytes q))) entries)
        → (b || list_any (bytes_eq k) (map (λ entry. string_bytes entry.0) entries)) ≡ is_some (cond b (Some e.1) (entry_at (is_at (λ q. slice_cmp nat_cmp k (string_bytes q))) entries))
    by_test true others = refl
    by_test false others = others

module _ (test : Text → Bool) (k : Text) where
  -- a key that is kept passes the test and is among all
  kept_any : (keys : List Text) → list_any (bytes_eq k) (filter test keys) ≡ true → (test k ≡ true) × (list_any (bytes_eq k) keys ≡ true)
  kept_any [] e = absurd (false≢true e)
  kept_any (key ∷ keys) e = by_test (test key) refl e (kept_any keys)
    where
      by_test : (b : Bool) → test key ≡ b → list_any (bytes_eq k) (cond b (key ∷ filter test keys) (filter test keys)) ≡ true → (list_any (bytes_eq k) (filter test keys) ≡ true → (test k ≡ true) × (list_any (bytes_eq k) keys ≡ true))
          → (test k ≡ true) × ((bytes_eq k key || list_any (bytes_eq k) keys) ≡ true)
      by_test true is e others = elim (or_cases (bytes_eq k key) (list_any (bytes_eq k) (filter test keys)) e) [
        | inl p ↦ (ap test ((bytes_eq-Decides k key).0 p) ∙ is, or_left (bytes_eq k key) (list_any (bytes_eq k) keys) p)
        | inr q ↦ let r = others q in (r.0, or_right (bytes_eq k key) (list_any (bytes_eq k) keys) r.1)
      ]
      by_test false is e others = let r = others e in (r.0, or_right (bytes_eq k key) (list_any (bytes_eq k) keys) r.1)

  -- a key that is among all and passes is kept
  any_kept : test k ≡ true → (keys : List Text) → list_any (bytes_eq k) keys ≡ true → list_any (bytes_eq k) (filter test keys) ≡ true
  any_kept is [] e = absurd (false≢true e)
  any_kept is (key ∷ keys) e = by_test (test key) refl (any_kept is keys) (or_cases (bytes_eq k key) (list_any (bytes_eq k) keys) e)
    where
      by_test : (b : Bool) → test key ≡ b → (list_any (bytes_eq k) keys ≡ true → list_any (bytes_eq k) (filter test keys) ≡ true) → (bytes_eq k key ≡ true) ⊎ (list_any (bytes_eq k) keys ≡ true)
          → list_any (bytes_eq k) (cond b (key ∷ filter test keys) (filter test keys)) ≡ true
      by_test true passes others (inl p) = or_left (bytes_eq k key) (list_any (bytes_eq k) (filter test keys)) p
      by_test true passes others (inr q) = or_right (bytes_eq k key) (list_any (bytes_eq k) (filter test keys)) (others q)
      by_test false fails others (inl p) = absurd (false≢true (sym fails ∙ ap test (sym ((bytes_eq-Decides k key).0 p)) ∙ is))
      by_test false fails others (inr q) = others q

-- a path of a module, as it is written and as it is cooked
abbrev pub IsPath : World → Option Text → Option Text → Type 0
IsPath w None None = Unit {0}
IsPath w None (Some path) = ⊥
IsPath w (Some string) None = ⊥
IsPath w (Some string) (Some path) = Writes w string path

module _ {Y Z : Type 0} (sources : BTreeMap (String Y) (String Z)) (expansion : Expansion) (w : World) (has : HasSources sources expansion w) (lookup : Files) (looks_up : IsLookupOf sources lookup) where
  -- ---- where there is a file

  -- a source that is looked up is there where the world has a file
  pub same_source : (k : Text) → is_some (source_of lookup.sources.now k) ≡ w.there k
  same_source k = ap is_some (looks_up.same k) ∙ sym (has.there k)

  same_there : (k : Text) → is_there lookup.sources.now k ≡ w.there k
  same_there k = sym (some_mapped string_bytes (get_by_text lookup.sources.now k)) ∙ same_source k

  among_keys : (k : Text) → list_any (bytes_eq k) (source_keys sources) ≡ w.there k
  among_keys k = among_entries k sources.entries ∙ sym (some_mapped string_bytes (get_by_text sources k)) ∙ sym (has.there k)

  -- this is the key, and a file is there
  key_means : (o : Option Text) (k : Text) → is_key lookup.sources.now o k ≡ true → (o ≡ Some k) × IsThere w k
  key_means None k e = absurd (false≢true e)
  key_means (Some key) k e =
      let p = and_parts (bytes_eq k key) (is_there lookup.sources.now key) e in
      let same : k ≡ key = (bytes_eq-Decides k key).0 p.0 in
      (ap (λ q. Some q) (sym same), ap w.there same ∙ sym (same_there key) ∙ p.1)

  means_key : (o : Option Text) (k : Text) → o ≡ Some k → IsThere w k → is_key lookup.sources.now o k ≡ true
  means_key None k e there = absurd (none-some k e)
  means_key (Some key) k e there =
      let same : key ≡ k = same_Some key k e in
      and_from (bytes_eq k key) (is_there lookup.sources.now key) ((bytes_eq-Decides k key).1 (sym same)) (same_there key ∙ ap w.there same ∙ there)

  -- ---- what stands in a folder

  pub inside_means : (folder k : Text) → is_inside lookup.sources.now lookup.folders.now.justfiles folder k ≡ true → IsOfFolder folder k × IsThere w k
  inside_means folder k e = elim (or_cases (list_any (bytes_eq k) (keys_at lookup.folders.now.justfiles folder)) (is_key lookup.sources.now (Some (folder ++ codes "mod.just")) k) e) [
    | inl p ↦ let r = kept_any (is_of folder) k (source_keys sources) (sym (ap (list_any (bytes_eq k)) (looks_up.grouped folder)) ∙ p) in (of_folder folder k r.0, sym (among_keys k) ∙ r.1)
    | inr q ↦ let r = key_means (Some (folder ++ codes "mod.just")) k q in (record { name = codes "mod.just"; whole = sym (same_Some (folder ++ codes "mod.just") k r.0); is = inl refl }, r.1)
  ]

  pub means_inside : (folder k : Text) → IsFolder folder → IsOfFolder folder k → IsThere w k → is_inside lookup.sources.now lookup.folders.now.justfiles folder k ≡ true
  means_inside folder k f of there = by_name of.is
    where
      by_name : (of.name ≡ codes "mod.just") ⊎ (is_justfile of.name ≡ true) → is_inside lookup.sources.now lookup.folders.now.justfiles folder k ≡ true
      by_name (inl p) =
          or_right (list_any (bytes_eq k) (keys_at lookup.folders.now.justfiles folder)) (is_key lookup.sources.now (Some (folder ++ codes "mod.just")) k)
          (means_key (Some (folder ++ codes "mod.just")) k (ap (λ q. Some q) (sym (of.whole ∙ ap (λ n. folder ++ n) p))) there)
      by_name (inr q) =
          or_left (list_any (bytes_eq k) (keys_at lookup.folders.now.justfiles folder)) (is_key lookup.sources.now (Some (folder ++ codes "mod.just")) k)
          (ap (list_any (bytes_eq k)) (looks_up.grouped folder) ∙ any_kept (is_of folder) k (is_justfile_of folder k of.name f of.whole q) (source_keys sources) (among_keys k ∙ there))

  module _ (file : Text) (k : Text) where
    abbrev Inside : Option Text → Bool
    Inside folder = is_inside_at lookup.sources.now lookup.folders.now.justfiles folder k

    folder_means : (path : Text) → Inside (folder_from file path) ≡ true → InFolder file path k × IsThere w k
    folder_means path e = by_folder (folder_from file path) refl e
      where
        by_folder : (o : Option Text) → folder_from file path ≡ o → Inside o ≡ true → InFolder file path k × IsThere w k
        by_folder None named e = absurd (false≢true e)
        by_folder (Some folder) named e = let r = inside_means folder k e in ((folder, named, r.0), r.1)

    means_folder : (path : Text) → InFolder file path k → IsThere w k → Inside (folder_from file path) ≡ true
    means_folder path h there = ap Inside h.1 ∙ means_inside h.0 k (named_folder file path h.0 h.1) h.2 there

    -- ---- what one with a path may mean

    abbrev Placed : Text → Option Text → Bool
    Placed path named = is_placed_if lookup.sources.now lookup.folders.now.justfiles (is_some (file_at lookup.sources.now named)) named (folder_from file path) k

    at_key : (key : Text) → is_some (file_at lookup.sources.now (Some key)) ≡ w.there key
    at_key key = some_mapped (λ text. (key, text)) (source_of lookup.sources.now key) ∙ same_source key

    path_means : (path : Text) → Placed path (key_from file path) ≡ true → ByPath w file path k × IsThere w k
    path_means path e = by_key (key_from file path) refl e
      where
        by_there : (key : Text) → key_from file path ≡ Some key → (b : Bool) → w.there key ≡ b → is_placed_if lookup.sources.now lookup.folders.now.justfiles b (Some key) (folder_from file path) k ≡ true → ByPath w file path k × IsThere w k
        by_there key named true there e = let r = key_means (Some key) k e in (inl (named ∙ r.0), r.1)
        by_there key named false missing e = let r = folder_means path e in (inr (λ other is. ap w.there (sym (same_Some key other (sym named ∙ is))) ∙ missing, r.0), r.1)

        by_key : (o : Option Text) → key_from file path ≡ o → Placed path o ≡ true → ByPath w file path k × IsThere w k
        by_key None named e = let r = folder_means path e in (inr (λ other is. absurd (none-some other (sym named ∙ is)), r.0), r.1)
        by_key (Some key) named e =
            by_there key named (w.there key) refl (ap (λ b. is_placed_if lookup.sources.now lookup.folders.now.justfiles b (Some key) (folder_from file path) k) (sym (at_key key)) ∙ e)

    means_path : (path : Text) → ByPath w file path k → IsThere w k → Placed path (key_from file path) ≡ true
    means_path path h there = by_key (key_from file path) refl h
      where
        by_there : (key : Text) → key_from file path ≡ Some key → (b : Bool) → w.there key ≡ b → ByPath w file path k → is_placed_if lookup.sources.now lookup.folders.now.justfiles b (Some key) (folder_from file path) k ≡ true
        by_there key named true is (inl p) = means_key (Some key) k (sym named ∙ p) there
        by_there key named true is (inr q) = absurd (false≢true (sym (q.0 key named) ∙ is))
        by_there key named false is (inl p) = absurd (false≢true (sym is ∙ ap w.there (same_Some key k (sym named ∙ p)) ∙ there))
        by_there key named false is (inr q) = means_folder path q.1 there

        by_key : (o : Option Text) → key_from file path ≡ o → ByPath w file path k → Placed path o ≡ true
        by_key None named (inl p) = absurd (none-some k (sym named ∙ p))
        by_key None named (inr q) = means_folder path q.1 there
        by_key (Some key) named h =
            ap (λ b. is_placed_if lookup.sources.now lookup.folders.now.justfiles b (Some key) (folder_from file path) k) (at_key key) ∙ by_there key named (w.there key) refl h

    -- ---- what a module may mean

    abbrev Found : Text → Option Text → Bool
    Found name path = may_mean lookup.sources.now lookup.folders.now.justfiles file name path k

    beside_means : (name : Text) → Found name None ≡ true → Beside file name k × IsThere w k
    beside_means name e = elim (or_cases (is_key lookup.sources.now (key_from file (name ++ codes ".just")) k) (Inside (folder_from file name)) e) [
      | inl p ↦ let r = key_means (key_from file (name ++ codes ".just")) k p in (inl r.0, r.1)
      | inr q ↦ let r = folder_means name q in (inr r.0, r.1)
    ]

    means_beside : (name : Text) → Beside file name k → IsThere w k → Found name None ≡ true
    means_beside name (inl p) there = or_left (is_key lookup.sources.now (key_from file (name ++ codes ".just")) k) (Inside (folder_from file name)) (means_key (key_from file (name ++ codes ".just")) k p there)
    means_beside name (inr q) there = or_right (is_key lookup.sources.now (key_from file (name ++ codes ".just")) k) (Inside (folder_from file name)) (means_folder name q there)

    one_path : (string path other : Text) → Writes w string path → Writes w string other → other ≡ path
    one_path string path other p q = same (sym q ∙ p)
      where
        same : ◌≡◌ {A = Result Text CompileErrorKind} (Ok other) (Ok path) → other ≡ path
        same e = cc e

    means : (m : ModuleShape) (string path : Option Text) → IsPath w string path → Found m.name path ≡ true → May w file m string k × IsThere w k
    means m None None is e = beside_means m.name e
    means m None (Some path) is e = absurd is
    means m (Some string) None is e = absurd is
    means m (Some string) (Some path) is e = let r = path_means path e in ((path, is, r.0), r.1)

    meant : (m : ModuleShape) (string path : Option Text) → IsPath w string path → May w file m string k → IsThere w k → Found m.name path ≡ true
    meant m None None is h there = means_beside m.name h there
    meant m None (Some path) is h there = absurd is
    meant m (Some string) None is h there = absurd is
    meant m (Some string) (Some path) is h there = means_path path (subst (λ p. ByPath w file p k) (one_path string path h.0 is h.1) h.2) there

  -- what is looked up for a module is what it may mean
  pub found_means : (file name : Text) (path : Option Text) (m : ModuleShape) (k : Text) → m.name ≡ name → IsPath w m.path path
      → (may_mean lookup.sources.now lookup.folders.now.justfiles file name path k ≡ true) ↔ MayMean w file m k
  found_means file name path m k named is = (
    λ e. let r = means file k m m.path path is (ap (λ n. may_mean lookup.sources.now lookup.folders.now.justfiles file n path k) named ∙ e) in record { there = r.1; named = r.0 },
    λ h. ap (λ n. may_mean lookup.sources.now lookup.folders.now.justfiles file n path k) (sym named) ∙ meant file k m m.path path is h.named h.there,
  )

  -- the keys that are found for a module are those of the files that it may mean
  pub keys_mean : (file name : Text) (path : Option Text) (m : ModuleShape) (keys : List Text) → m.name ≡ name → IsPath w m.path path → AreMeant lookup.sources.now lookup.folders.now.justfiles file name path keys
      → (k : Text) → Contains keys k ↔ MayMean w file m k
  keys_mean file name path m keys named is are k =
      let means = found_means file name path m k named is in (
        λ c. let p = place_of keys k c in means.0 (sym (are.each k) ∙ among_at keys p.0 k p.1),
        λ h. let p = place_among keys k (are.each k ∙ means.1 h) in contains_at keys p.0 k p.1,
      )
