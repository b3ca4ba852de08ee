-- A module's files in reading order, one followed after the other.
use Rattle.std.proofs.Common.{◌≡◌, sym, ◌∙◌, ap, subst, inl, inr, ◌⊎◌, Bool, true, false, cond, ◌<◌, ◌≤◌, ◌+◌, ◌-◌, min, ◌++◌, ◌∷◌, [], ℕ, zero, suc, List, Option, Some, None, Result, Ok, Err, refl, arith, length, map, take, drop, append_assoc, length-append}
use Rattle.std.proofs.lemmas.Bool.{false≢true}
use Rattle.std.specs.Prelude.{Contains, is_some, option_map, option_to_list, slice_get}
use Rattle.std.specs.BTreeMap.{BTreeMap, get_by_text}
use Rattle.std.specs.List.{flat_map}
use Rattle.std.specs.String.{string_bytes}
use Rattle.std.specs.declared.string.String.{String}
use Rattle.std.proofs.Math.Nat.{le-min}
use Rattle.std.proofs.lemmas.List.{append-nil, drop-append-le, length-drop, length-map, length-take-le, map-append, take-append-le, take_more}
use Rattle.std.proofs.lemmas.Option.{get_or_from_slice_get, none-some, same_Some, slice_get-map, slice_get_within}
use Rattle.just_text.specs.Numbers.{Numbers}
use Rattle.tree_items.specs.declared.ast.Item.{Item}
use Rattle.parse_expressions.specs.Literals.{Expansion, from_file}
use Rattle.justfile_syntax.specs.Parsed.{IsWhole}
use Rattle.semver.specs.declared.Version.{Version}
use Rattle.modules_compilation.specs.Paths.{key_from}
use Rattle.modules_compilation.specs.Places.{items_of}
use Rattle.modules_compilation.specs.declared.error.Error.{Error}
use Rattle.modules_compilation.specs.declared.module_node.File.{File as LoadedFile}
use Rattle.modules_compilation.specs.declared.source.Source.{Source}
use Rattle.modules_files.specs.Chosen.{File, import_answer as answer_for, named_by, view}
use Rattle.modules_files.specs.Found.{file_at, is_there, source_of}
use Rattle.resolve_order.specs.Needs.{rows}
use Rattle.modules_sources.specs.Imports.{depth_behind, import_answer, imports_among, then_others}
use Rattle.modules_sources.specs.Items.{ImportParts, import_of, key_of}
use Rattle.modules_sources.specs.Loaded.{IsSource}
use Rattle.modules_sources.specs.Loading.{AreRead, IsRead, IsTurn, IsTurnRefused, read_more, read_none}
use Rattle.modules_sources.specs.Queue.{is_among}
use Rattle.modules_sources.specs.ReadingOrder.{AreFollowed, AreImports, AreNoted, AreNumbered, numbered_more, ArePlacesOfRows, IsLed, IsOfModule, IsOwnAlone, IsRefusedBehind, loaded_keys}
use Rattle.modules_sources.specs.Reached.{ArePlaces, AreReached, new_files, with_key, with_new}
use Rattle.modules_sources.specs.declared.imports.Reached.{Reached}
use Rattle.modules_sources.proofs.Bounded.{no_more}
use Rattle.modules_sources.proofs.Reaching.{append_cases, at_end, end_cases, kept_left, places_kept, there_before}
use Rattle.modules_sources.proofs.Firsts.{row_among, new_apart}

abbrev Text : Type 0
Text = List ℕ

-- ---- keys with those of new files

pub with_new_append : (keys : List Text) (some others : List File) → with_new keys (some ++ others) ≡ with_new (with_new keys some) others
with_new_append keys [] others = refl
with_new_append keys (file ∷ some) others = with_new_append (with_key keys file.0) some others

pub with_new_is : (keys : List Text) (files : List File) → with_new keys files ≡ keys ++ map (λ f. f.0) (new_files keys files)
with_new_is keys [] = sym (append-nil keys)
with_new_is keys (file ∷ files) = by_test (is_among keys file.0) (with_new_is keys files) (with_new_is (keys ++ file.0 ∷ []) files)
  where
    by_test : (b : Bool) → with_new keys files ≡ keys ++ map (λ f. f.0) (new_files keys files) → with_new (keys ++ file.0 ∷ []) files ≡ (keys ++ file.0 ∷ []) ++ map (λ f. f.0) (new_files (keys ++ file.0 ∷ []) files)
        → with_new (cond b keys (keys ++ file.0 ∷ [])) files ≡ keys ++ map (λ f. f.0) (cond b (new_files keys files) (file ∷ new_files (keys ++ file.0 ∷ []) files))
    by_test true known new = known
    by_test false known new = new ∙ append_assoc keys (file.0 ∷ []) (map (λ f. f.0) (new_files (keys ++ file.0 ∷ []) files))

-- a new file is one of those found
pub new_is_found : (keys : List Text) (files : List File) (i : ℕ) (file : File) → slice_get (new_files keys files) i ≡ Some file → (j : ℕ) × (slice_get files j ≡ Some file)
new_is_found keys [] i file e = absurd (none-some file e)
new_is_found keys (other ∷ files) i file e = by_test (is_among keys other.0) i (λ k. new_is_found keys files k file) (λ k. new_is_found (keys ++ other.0 ∷ []) files k file) e
  where
    by_test : (b : Bool) (i : ℕ) → ((k : ℕ) → slice_get (new_files keys files) k ≡ Some file → (j : ℕ) × (slice_get files j ≡ Some file)) → ((k : ℕ) → slice_get (new_files (keys ++ other.0 ∷ []) files) k ≡ Some file → (j : ℕ) × (slice_get files j ≡ Some file))
        → slice_get (cond b (new_files keys files) (other ∷ new_files (keys ++ other.0 ∷ []) files)) i ≡ Some file → (j : ℕ) × (slice_get (other ∷ files) j ≡ Some file)
    by_test true i known new e = let r = known i e in (suc r.0, r.1)
    by_test false zero known new e = (0, e)
    by_test false (suc i) known new e = let r = new i e in (suc r.0, r.1)

-- ---- rows of places

places_kept_all : (keys : List Text) (found files : List File) (row : List ℕ) → ArePlaces keys files row → ArePlaces (with_new keys found) files row
places_kept_all keys [] files row e = e
places_kept_all keys (f ∷ found) files row e = places_kept_all (with_key keys f.0) found files row (places_kept keys f.0 files row e)

rows_kept : (keys : List Text) (found : List File) (imports : List (List File)) (places : List (List ℕ)) → ArePlacesOfRows keys imports places → ArePlacesOfRows (with_new keys found) imports places
rows_kept keys found [] [] e = refl
rows_kept keys found [] (row ∷ places) e = absurd (cc e)
rows_kept keys found (files ∷ imports) [] e = absurd (cc e)
rows_kept keys found (files ∷ imports) (row ∷ places) e =
    let first : ArePlaces keys files row = cc e in
    let others : ArePlacesOfRows keys imports places = cc e in
    ap (λ r. r ∷ map (map (slice_get (with_new keys found))) places) (places_kept_all keys found files row first) ∙ ap (λ rs. map (λ f. Some f.0) files ∷ rs) (rows_kept keys found imports places others)

-- one row more
pub rows_further : (keys : List Text) (found : List File) (imports : List (List File)) (places : List (List ℕ)) (row : List ℕ) → ArePlacesOfRows keys imports places → ArePlaces (with_new keys found) found row
    → ArePlacesOfRows (with_new keys found) (imports ++ found ∷ []) (places ++ row ∷ [])
rows_further keys found imports places row e at =
    map-append (map (slice_get (with_new keys found))) places (row ∷ []) ∙ ap (λ rs. rs ++ map (slice_get (with_new keys found)) row ∷ []) (rows_kept keys found imports places e)
    ∙ ap (λ r. map (map (λ f. Some f.0)) imports ++ r ∷ []) at ∙ sym (map-append (map (λ f. Some f.0)) imports (found ∷ []))

-- ---- what is read

module _ (expansion : Expansion) (version : Version) (owner depth : ℕ) where
  -- it has the keys of what was new
  pub read_keys : {told : List File} {old new : Numbers} {more : List LoadedFile} → AreRead expansion version owner depth told old more new → loaded_keys more ≡ map (λ f. f.0) told
  read_keys read_none = refl
  read_keys (read_more {sources} {files} source file so is) =
      map-append (λ f. f.key.now) files (file ∷ []) ∙ ap (λ ks. ks ++ file.key.now ∷ []) (read_keys so) ∙ ap (λ k. map (λ f. f.0) sources ++ k ∷ []) is.key ∙ sym (map-append (λ f. f.0) sources (source ∷ []))

  as_many_read : {told : List File} {old new : Numbers} {more : List LoadedFile} → AreRead expansion version owner depth told old more new → length more ≡ length told
  as_many_read {told} {old} {new} {more} so = sym (length-map more (λ f. f.key.now)) ∙ ap length (read_keys so) ∙ length-map told (λ f. f.0)

  -- each file comes of one of these
  pub record ComesOf (told : List File) (i : ℕ) (file : LoadedFile) : Type 0 where
    pub source : File
    pub told_at : slice_get told i ≡ Some source
    pub before : Numbers
    pub behind : Numbers
    pub is : IsRead expansion version owner depth source before behind file

  pub read_at : {told : List File} {old new : Numbers} {more : List LoadedFile} → AreRead expansion version owner depth told old more new → (i : ℕ) (file : LoadedFile) → slice_get more i ≡ Some file → ComesOf told i file
  read_at read_none i file e = absurd (none-some file e)
  read_at (read_more {sources} {files} {old} {now} {new} source last so is) i file e = elim (end_cases files last i file e) [
    | inl p ↦
        let r = read_at so i file p in
        record { source = r.source; told_at = kept_left sources (source ∷ []) i r.source r.told_at; before = r.before; behind = r.behind; is = r.is }
    | inr q ↦ record {
      source = source;
      told_at = subst (λ n. slice_get (sources ++ source ∷ []) n ≡ Some source) (sym (q.0 ∙ as_many_read so)) (at_end sources source);
      before = now;
      behind = new;
      is = subst (IsRead expansion version owner depth source now new) q.1 is;
    }
  ]

  -- its numbers go on after those of the files before it
  pub numbers_further : (start : Numbers) (files : List LoadedFile) {told : List File} {old new : Numbers} {more : List LoadedFile} → AreRead expansion version owner depth told old more new → AreNumbered start files old → AreNumbered start (files ++ more) new
  numbers_further start files {told} {old} {new} {more} read_none so = subst (λ fs. AreNumbered start fs old) (sym (append-nil files)) so
  numbers_further start files {told} {old} {new} {more} (read_more {sources} {files = earlier} source last rest is) so =
      subst (λ fs. AreNumbered start fs new) (append_assoc files earlier (last ∷ [])) (numbered_more last (numbers_further start files rest so) is.numbered)

-- ---- files that imports name are those of their keys

module _ {Y Z : Type 0} (sources : BTreeMap (String Y) (String Z)) where
  same_file : (key : Text) (o : Option Text) (file : File) → option_map (λ text. (key, text)) o ≡ Some file → (key ≡ file.0) × (o ≡ Some file.1)
  same_file key None file e = absurd (none-some file e)
  same_file key (Some text) file e =
      let same = same_Some (key, text) file e in
      (ap (λ f. f.0) same, ap (λ f. Some f.1) same)

  -- a file that is found at a key is that of its key
  pub found_source : (key : Text) (file : File) → file_at sources (Some key) ≡ Some file → IsSource sources file
  found_source key file e =
      let same = same_file key (source_of sources key) file e in
      ap (λ k. file_at sources (Some k)) (sym same.0) ∙ e

  pub source_text : (file : File) → IsSource sources file → source_of sources file.0 ≡ Some file.1
  source_text file e = (same_file file.0 (source_of sources file.0) file e).1

  -- the text at the key of the root
  pub root_found : (root : Text) (source : Source) → Some (source.key.now, source.text.now) ≡ file_at sources (Some root) → (source.key.now ≡ root) × IsSource sources (view source)
  root_found root source e = (sym (same_file root (source_of sources root) (view source) (sym e)).0, found_source root (view source) (sym e))

  named_source : (key : Option Text) (optional : Bool) (path : Text) (file : File) → answer_for (file_at sources key) optional path ≡ Ok (Some file) → IsSource sources file
  named_source None true path file e = absurd (cc e)
  named_source None false path file e = absurd (cc e)
  named_source (Some key) optional path file e = by_file (file_at sources (Some key)) refl optional e
    where
      by_file : (o : Option File) → file_at sources (Some key) ≡ o → (optional : Bool) → answer_for o optional path ≡ Ok (Some file) → IsSource sources file
      by_file None is true e = absurd (cc e)
      by_file None is false e = absurd (cc e)
      by_file (Some found) is optional e = found_source key file (is ∙ inner found file e)
        where
          inner : (a b : File) → ◌≡◌ {A = Result (Option File) Error} (Ok (Some a)) (Ok (Some b)) → Some a ≡ Some b
          inner a b e = cc e

  module _ (key : Text) where
    answer_source : (line : Option ImportParts) (file : File) → import_answer sources key line ≡ Ok (Some file) → IsSource sources file
    answer_source None file e = absurd (cc e)
    answer_source (Some line) file e = named_source (key_from key line.0) line.1 (named_by (key_from key line.0) line.0) file e

    -- each file that imports name is that of its key
    pub imports_are_sources : (items : List Item) (found : List File) → imports_among sources key items ≡ Ok found → (place : ℕ) (file : File) → slice_get found place ≡ Some file → IsSource sources file
    imports_are_sources [] found e place file at =
        let none : [] ≡ found = cc e in
        absurd (none-some file (ap (λ fs. slice_get fs place) none ∙ at))
    imports_are_sources (item ∷ items) found e place file at = by_parts (import_answer sources key (import_of item)) refl (imports_among sources key items) refl (λ others are k. imports_are_sources items others are k file) e
      where
        Others : Type 0
        Others = (others : List File) → imports_among sources key items ≡ Ok others → (k : ℕ) → slice_get others k ≡ Some file → IsSource sources file

        one : (source : Option File) → import_answer sources key (import_of item) ≡ Ok source → (others : List File) → imports_among sources key items ≡ Ok others → Others → (place : ℕ) → slice_get (option_to_list source ++ others) place ≡ Some file → IsSource sources file
        one None is others are rest place at = rest others are place at
        one (Some source) is others are rest zero at = subst (IsSource sources) (same_Some source file at) (answer_source (import_of item) source is)
        one (Some source) is others are rest (suc place) at = rest others are place at

        by_parts : (answer : Result (Option File) Error) → import_answer sources key (import_of item) ≡ answer → (rest : Result (List File) Error) → imports_among sources key items ≡ rest → Others → then_others answer rest ≡ Ok found → IsSource sources file
        by_parts (Ok source) is (Ok others) are rest e =
            let whole : option_to_list source ++ others ≡ found = cc e in
            one source is others are rest place (ap (λ fs. slice_get fs place) whole ∙ at)
        by_parts (Ok source) is (Err refusal) are rest e = absurd (cc e)
        by_parts (Err refusal) is others are rest e = absurd (cc e)

-- ---- one file more is followed

contains_at : (keys : List Text) (i : ℕ) (key : Text) → slice_get keys i ≡ Some key → Contains keys key
contains_at keys i key e = (i, slice_get_within keys i key e, get_or_from_slice_get keys i key key e)

led_further : (files more : List LoadedFile) (imports : List (List File)) (found : List File) (place : ℕ) (file : LoadedFile) → place < length files → IsLed files imports place file → IsLed (files ++ more) (imports ++ found ∷ []) place file
led_further files more imports found place file lt h =
    let before = h.earlier in
    record {
      at = h.at;
      earlier = h.earlier;
      row = h.row;
      here = kept_left imports (found ∷ []) h.at h.row h.here;
      imported = h.imported;
      first = λ other others lt there has. elim (end_cases imports found other others there) [
        | inl p ↦ h.first other others lt p has
        | inr q ↦ let many = slice_get_within imports h.at h.row h.here in let same = q.0 in absurd (omega (arith, lt, many, same))
      ];
      depth = h.depth ∙ ap depth_behind (sym (there_before files more h.at (omega (arith, before, lt))));
    }

module _ {Y Z : Type 0} (sources : BTreeMap (String Y) (String Z)) (expansion : Expansion) (version : Version) (owner : ℕ) where
  as_many : (count : ℕ) (files : List LoadedFile) (imports : List (List File)) → count ≤ length files → AreImports sources (take count files) imports → length imports ≡ count
  as_many count files imports le e =
      sym (length-map imports Ok) ∙ sym (ap length e) ∙ length-map (take count files) (λ file. imports_among sources file.key.now file.ast.items.items) ∙ length-take-le count files le

  -- a file that is read is the module's
  of_module : (depth : ℕ) (source : File) (before behind : Numbers) (file : LoadedFile) → IsSource sources source → IsRead expansion version owner depth source before behind file → IsOfModule sources expansion version owner file
  of_module depth source before behind file known is = record {
    text = source.1;
    there = ap (source_of sources) is.key ∙ source_text sources source known;
    says = is.says;
    whole = subst (λ key. IsWhole (from_file key expansion) file.ast) (sym is.key) is.whole;
    owner_is = is.owner_is;
  }

  module _ (own : Text) (count : ℕ) (files : List LoadedFile) (imports : List (List File)) (h : AreFollowed sources expansion version owner own count files imports)
      (file : LoadedFile) (at : slice_get files count ≡ Some file) (found : List File) (names : imports_among sources file.key.now file.ast.items.items ≡ Ok found)
      (told : List File) (are_new : told ≡ new_files (loaded_keys files) found) {old new : Numbers} (more : List LoadedFile)
      (read : AreRead expansion version owner (depth_behind (slice_get files count)) told old more new) where
    here : count < length files
    here = slice_get_within files count file at

    keys_more : loaded_keys more ≡ map (λ f. f.0) (new_files (loaded_keys files) found)
    keys_more = read_keys expansion version owner (depth_behind (slice_get files count)) read ∙ ap (map (λ f. f.0)) are_new

    whole_keys : loaded_keys (files ++ more) ≡ with_new (loaded_keys files) found
    whole_keys = map-append (λ f. f.key.now) files more ∙ ap (λ ks. loaded_keys files ++ ks) keys_more ∙ sym (with_new_is (loaded_keys files) found)

    -- a new file is one that this one imports
    new_at : (j : ℕ) (next : LoadedFile) → slice_get more j ≡ Some next → (r : ComesOf expansion version owner (depth_behind (slice_get files count)) told j next) × ((k : ℕ) × (slice_get found k ≡ Some r.source))
    new_at j next e =
        let r = read_at expansion version owner (depth_behind (slice_get files count)) read j next e in
        (r, new_is_found (loaded_keys files) found j r.source (ap (λ fs. slice_get fs j) (sym are_new) ∙ r.told_at))

    led_new : (place j : ℕ) (next : LoadedFile) → length files ≤ suc place → slice_get more j ≡ Some next → IsLed (files ++ more) (imports ++ found ∷ []) (suc place) next
    led_new place j next le e =
        let w = new_at j next e in
        let lt = here in
        record {
          at = count;
          earlier = omega (arith, lt, le);
          row = found;
          here = subst (λ n. slice_get (imports ++ found ∷ []) n ≡ Some found) (as_many count files imports h.within h.named) (at_end imports found);
          imported = contains_at (map (λ f. f.0) found) w.1.0 next.key.now (slice_get-map (λ f. f.0) found w.1.0 ∙ ap (option_map (λ f. f.0)) w.1.1 ∙ ap Some (sym w.0.is.key));
          first = λ other others before there has. elim (end_cases imports found other others there) [
            | inl p ↦ absurd (false≢true (sym (new_apart (loaded_keys files) found j w.0.source (ap (λ fs. slice_get fs j) (sym are_new) ∙ w.0.told_at)) ∙ ap (is_among (loaded_keys files)) (sym w.0.is.key)
                ∙ ap (λ ks. is_among ks next.key.now) h.whole ∙ row_among (own ∷ []) imports other others next.key.now p has))
            | inr q ↦ let many = as_many count files imports h.within h.named in let same = q.0 in absurd (omega (arith, before, many, same))
          ];
          depth = w.0.is.depth_is ∙ ap depth_behind (sym (there_before files more count lt));
        }

    each_new : (j : ℕ) (next : LoadedFile) → slice_get more j ≡ Some next → IsOfModule sources expansion version owner next
    each_new j next e =
        let w = new_at j next e in
        of_module (depth_behind (slice_get files count)) w.0.source w.0.before w.0.behind next (imports_are_sources sources file.key.now file.ast.items.items found names w.1.0 w.0.source w.1.1) w.0.is

    pub followed_further : AreFollowed sources expansion version owner own (count + 1) (files ++ more) (imports ++ found ∷ [])
    followed_further =
        let lt = here in
        let le : count + 1 ≤ length files = omega (arith, lt) in
        let many = length-append files more in
        let one : take (count + 1) (files ++ more) ≡ take count files ++ file ∷ [] =
        take-append-le (count + 1) files more le ∙ take_more files count file lt ∙ ap (λ f. take count files ++ f ∷ []) (get_or_from_slice_get files count file file at) in
        record {
          within = omega (arith, le, many);
          named = ap (map (λ f. imports_among sources f.key.now f.ast.items.items)) one ∙ map-append (λ f. imports_among sources f.key.now f.ast.items.items) (take count files) (file ∷ [])
              ∙ ap (λ rs. rs ++ imports_among sources file.key.now file.ast.items.items ∷ []) h.named ∙ ap (λ r. map Ok imports ++ r ∷ []) names ∙ sym (map-append Ok imports (found ∷ []));
          whole = whole_keys ∙ ap (λ ks. with_new ks found) h.whole ∙ sym (with_new_append (own ∷ []) (flat_map (λ row. row) imports) found) ∙ ap (with_new (own ∷ [])) (rows_append imports);
          first = λ top e. h.first top (sym (there_before files more 0 (omega (arith, lt))) ∙ e);
          led = λ place next e. elim (append_cases files more (suc place) next e) [
            | inl p ↦ led_further files more imports found (suc place) next (slice_get_within files (suc place) next p) (h.led place next p)
            | inr q ↦ led_new place q.1.0 next q.0 q.1.1
          ];
          each = λ place next e. elim (append_cases files more place next e) [
            | inl p ↦ h.each place next p
            | inr q ↦ each_new q.1.0 next q.1.1
          ];
        }
      where
        rows_append : (rs : List (List File)) → flat_map (λ row. row) rs ++ found ≡ flat_map (λ row. row) (rs ++ found ∷ [])
        rows_append [] = sym (append-nil found)
        rows_append (r ∷ rs) = append_assoc r (flat_map (λ row. row) rs) found ∙ ap (λ xs. r ++ xs) (rows_append rs)

  -- a turn: what the file imports is noted
  module _ (own : Text) (count first : ℕ) (old new : List LoadedFile) (reached after : Reached) (numbers gone : Numbers) (le : first ≤ length old) (h : AreNoted sources expansion version owner own count (drop first old) reached)
      (t : IsTurn sources expansion version owner (first + count) old new reached after numbers gone) where
    file_here : (file : LoadedFile) × (slice_get old (first + count) ≡ Some file)
    file_here = by_file (slice_get old (first + count)) refl
      where
        by_file : (o : Option LoadedFile) → slice_get old (first + count) ≡ o → (file : LoadedFile) × (slice_get old (first + count) ≡ Some file)
        by_file (Some file) e = (file, e)
        by_file None e = absurd (none_within old (first + count) t.there e)
          where
            none_within : {A : Type 0} (xs : List A) (i : ℕ) → i < length xs → slice_get xs i ≡ None → ⊥
            none_within [] i lt e = omega (arith, lt)
            none_within (x ∷ xs) zero lt e = none-some x (sym e)
            none_within (x ∷ xs) (suc i) lt e = none_within xs i (omega (arith, lt)) e

    dropped_at : {A : Type 0} (xs : List A) (n i : ℕ) → slice_get (drop n xs) i ≡ slice_get xs (n + i)
    dropped_at xs zero i = let e : i ≡ 0 + i = omega arith in ap (slice_get xs) e
    dropped_at [] (suc n) i = refl
    dropped_at (x ∷ xs) (suc n) i = let e : suc (n + i) ≡ suc n + i = omega arith in dropped_at xs n i ∙ ap (slice_get (x ∷ xs)) e

    new_dropped : drop first new ≡ drop first old ++ t.more
    new_dropped = ap (drop first) t.whole ∙ drop-append-le first old t.more le

    pub noted_further : AreNoted sources expansion version owner own (count + 1) (drop first new) after
    noted_further =
        let file = file_here.0 in
        let at : slice_get (drop first old) count ≡ Some file = dropped_at old first count ∙ file_here.1 in
        let names : imports_among sources file.key.now file.ast.items.items ≡ Ok t.found = sym (ap (λ o. imports_among sources (key_of o) (items_of o)) file_here.1) ∙ t.named in
        let keys = loaded_keys (drop first old) in
        let f = t.follows keys h.keys in
        let read : AreRead expansion version owner (depth_behind (slice_get (drop first old) count)) t.told numbers t.more gone =
        subst (λ o. AreRead expansion version owner (depth_behind o) t.told numbers t.more gone) (sym (dropped_at old first count)) t.read in
        let keys_now : loaded_keys (drop first new) ≡ with_new keys t.found =
        ap loaded_keys new_dropped ∙ whole_keys own count (drop first old) h.imports h.followed file at t.found names t.told f.are_new t.more read in
        record {
          imports = h.imports ++ t.found ∷ [];
          followed = subst (λ fs. AreFollowed sources expansion version owner own (count + 1) fs (h.imports ++ t.found ∷ [])) (sym new_dropped)
              (followed_further own count (drop first old) h.imports h.followed file at t.found names t.told f.are_new t.more read);
          keys = subst (λ ks. AreReached ks after) (sym keys_now) f.reached;
          places = subst (λ ks. ArePlacesOfRows ks (h.imports ++ t.found ∷ []) (rows after.imports.items)) (sym keys_now)
              (subst (λ rs. ArePlacesOfRows (with_new keys t.found) (h.imports ++ t.found ∷ []) rs) (sym f.imports) (rows_further keys t.found h.imports (rows reached.imports.items) f.row h.places f.at));
        }

  -- the module's own file alone, and no import
  pub none_noted : (own : Text) (files : List LoadedFile) (reached : Reached) → IsOwnAlone sources expansion version owner own files → AreReached (own ∷ []) reached → reached.imports.items ≡ [] → AreNoted sources expansion version owner own 0 files reached
  none_noted own files reached h keys none =
      let file = h.file in
      let same : loaded_keys files ≡ own ∷ [] = ap loaded_keys h.alone ∙ ap (λ k. k ∷ []) h.key in
      record {
        imports = [];
        followed = record {
          within = omega arith;
          named = refl;
          whole = same;
          first = λ top e. ap (λ f. f.depth) (sym (same_Some file top (sym (ap (λ fs. slice_get fs 0) h.alone) ∙ e))) ∙ h.depth;
          led = λ place next e. absurd (none-some next (sym (ap (λ fs. slice_get fs (suc place)) h.alone) ∙ e));
          each = λ place next e. only place next (sym (ap (λ fs. slice_get fs place) h.alone) ∙ e);
        };
        keys = subst (λ ks. AreReached ks reached) (sym same) keys;
        places = ap (λ rs. map (map (slice_get (loaded_keys files))) (rows rs)) none;
      }
    where
      only : (place : ℕ) (next : LoadedFile) → slice_get (h.file ∷ []) place ≡ Some next → IsOfModule sources expansion version owner next
      only zero next e = subst (IsOfModule sources expansion version owner) (same_Some h.file next e) h.of
      only (suc place) next e = absurd (none-some next e)

  -- a file that is read alone
  pub read_alone : (source : File) (before behind : Numbers) (file : LoadedFile) → IsSource sources source → IsRead expansion version owner 0 source before behind file → IsOwnAlone sources expansion version owner source.0 (file ∷ [])
  read_alone source before behind file known is = record { file = file; alone = refl; key = is.key; depth = is.depth_is; of = of_module 0 source before behind file known is }

-- ---- turns, one after the other

module _ {Y Z : Type 0} (sources : BTreeMap (String Y) (String Z)) (expansion : Expansion) (version : Version) (owner : ℕ) where
  pub turn_numbers : (place : ℕ) (old new : List LoadedFile) (reached after : Reached) (numbers gone start : Numbers) → IsTurn sources expansion version owner place old new reached after numbers gone → AreNumbered start old numbers
      → AreNumbered start new gone
  turn_numbers place old new reached after numbers gone start t so =
      subst (λ fs. AreNumbered start fs gone) (sym t.whole) (numbers_further expansion version owner (depth_behind (slice_get old place)) start old t.read so)

  pub noted_next : (own : Text) (first place : ℕ) (old new : List LoadedFile) (reached after : Reached) (numbers gone : Numbers) → first ≤ place → first ≤ length old → AreNoted sources expansion version owner own (place - first) (drop first old) reached
      → IsTurn sources expansion version owner place old new reached after numbers gone → AreNoted sources expansion version owner own (place + 1 - first) (drop first new) after
  noted_next own first place old new reached after numbers gone from le h t =
      let at : place ≡ first + (place - first) = omega (arith, from) in
      let next : place - first + 1 ≡ place + 1 - first = omega (arith, from) in
      subst (λ n. AreNoted sources expansion version owner own n (drop first new) after) next
      (noted_further sources expansion version owner own (place - first) first old new reached after numbers gone le h (subst (λ n. IsTurn sources expansion version owner n old new reached after numbers gone) at t))

  pub refused_next : (own : Text) (first place : ℕ) (files : List LoadedFile) (reached : Reached) (numbers : Numbers) (refusal : Error) → first ≤ place → AreNoted sources expansion version owner own (place - first) (drop first files) reached
      → IsTurnRefused sources expansion version owner place files reached numbers refusal → IsRefusedBehind sources expansion version owner own first refusal
  refused_next own first place files reached numbers refusal from h r =
      let at : place ≡ first + (place - first) = omega (arith, from) in
      record { count = place - first; files = files; reached = reached; numbers = numbers; noted = h; refused = subst (λ n. IsTurnRefused sources expansion version owner n files reached numbers refusal) at r }

  -- all are followed
  pub noted_all : (own : Text) (count : ℕ) (files : List LoadedFile) (reached : Reached) → length files ≤ count → AreNoted sources expansion version owner own count files reached → AreNoted sources expansion version owner own (length files) files reached
  noted_all own count files reached le h =
      let within = h.followed.within in
      let same : count ≡ length files = omega (arith, le, within) in
      subst (λ n. AreNoted sources expansion version owner own n files reached) same h

  -- where there is no further file
  pub noted_ended : (own : Text) (first place : ℕ) (files : List LoadedFile) (reached : Reached) → length files ≤ place → AreNoted sources expansion version owner own (place - first) (drop first files) reached
      → AreNoted sources expansion version owner own (length (drop first files)) (drop first files) reached
  noted_ended own first place files reached le h = let many = length-drop first files in noted_all own (place - first) (drop first files) reached (omega (arith, le, many)) h

  loaded_at : (files : List LoadedFile) (place : ℕ) (key : Text) → slice_get (loaded_keys files) place ≡ Some key → (file : LoadedFile) × (slice_get files place ≡ Some file) × (file.key.now ≡ key)
  loaded_at [] place key e = absurd (none-some key e)
  loaded_at (file ∷ files) zero key e = (file, refl, same_Some file.key.now key e)
  loaded_at (file ∷ files) (suc place) key e = loaded_at files place key e

  text_is_there : (key text : Text) → source_of sources key ≡ Some text → is_there sources key ≡ true
  text_is_there key text e = by_text (get_by_text sources key) e
    where
      by_text : (o : Option (String Z)) → option_map string_bytes o ≡ Some text → is_some o ≡ true
      by_text None e = absurd (none-some text e)
      by_text (Some t) e = refl

  -- no more files are read than there are texts
  pub noted_few : (own : Text) (count : ℕ) (files : List LoadedFile) (reached : Reached) → AreNoted sources expansion version owner own count files reached → length files ≤ length sources.entries
  noted_few own count files reached h =
      let few = no_more sources (loaded_keys files) reached h.keys (λ place key e.
      let t = loaded_at files place key e in
      let of = h.followed.each place t.0 t.1 in
      ap (is_there sources) (sym t.2) ∙ text_is_there t.0.key.now of.text of.there) in
      let many = length-map files (λ f. f.key.now) in
      omega (arith, few, many)

  pub noted_done : (own : Text) (first place end most : ℕ) (files : List LoadedFile) (reached : Reached) → first ≤ length files → end ≡ min (first + length sources.entries) most → length files ≤ most → end ≤ place
      → AreNoted sources expansion version owner own (place - first) (drop first files) reached → AreNoted sources expansion version owner own (length (drop first files)) (drop first files) reached
  noted_done own first place end most files reached le is small over h =
      let few = noted_few own (place - first) (drop first files) reached h in
      let many = length-drop first files in
      let reach : length files ≤ min (first + length sources.entries) most = at_most (first + length sources.entries) most (omega (arith, few, many, le)) small in
      noted_ended own first place files reached (omega (arith, reach, is, over)) h
    where
      at_most : (a b : ℕ) → length files ≤ a → length files ≤ b → length files ≤ min a b
      at_most a b p q = le-min p q

pub longer : (old more now : List LoadedFile) (first : ℕ) → now ≡ old ++ more → first ≤ length old → first ≤ length now
longer old more now first e le =
    let many = length-append old more in
    let same = ap length e in
    omega (arith, le, many, same)

-- what is left of files behind those that were there
pub left_behind : (old now : List LoadedFile) (file : LoadedFile) → now ≡ old ++ file ∷ [] → drop (length old) now ≡ file ∷ []
left_behind old now file e = ap (drop (length old)) e ∙ seam old
  where
    seam : (xs : List LoadedFile) → drop (length xs) (xs ++ file ∷ []) ≡ file ∷ []
    seam [] = refl
    seam (x ∷ xs) = seam xs
