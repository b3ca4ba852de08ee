-- The files that imports name, one item after the other.
use Rattle.std.proofs.Common.{◌≡◌, ◌≢◌, sym, ◌∙◌, ap, subst, ◌<◌, ◌≤◌, ◌+◌, ◌++◌, ◌∷◌, [], ℕ, List, Option, Some, None, Result, Ok, Err, refl, length, drop, get_or, append_assoc, suc, drop-cons, add-one}
use Rattle.std.specs.BTreeMap.{BTreeMap}
use Rattle.std.specs.Prelude.{option_to_list}
use Rattle.std.specs.declared.string.String.{String}
use Rattle.std.proofs.lemmas.List.{append-nil, drop_all}
use Rattle.tree_items.specs.declared.ast.Item.{Item}
use Rattle.modules_compilation.specs.declared.error.Error.{Error}
use Rattle.modules_compilation.specs.declared.error.Error.TheVariants.{OutOfMemory}
use Rattle.modules_files.specs.Chosen.{File, Gives, imported}
use Rattle.modules_sources.specs.Imports.{before, import_answer, imports_among, then_others}
use Rattle.modules_sources.specs.Items.{ImportParts, import_of}
use Rattle.modules_sources.proofs.Gathering.{refusal_given}

module _ {A E : Type 0} where
  -- nothing before others
  pub none_before : (others : Result (List A) E) → before [] others ≡ others
  none_before (Ok others) = refl
  none_before (Err refusal) = refl

  pub all_before : (some more : List A) (others : Result (List A) E) → before (some ++ more) others ≡ before some (before more others)
  all_before some more (Ok others) = ap Ok (append_assoc some more others)
  all_before some more (Err refusal) = refl

module _ {Y Z : Type 0} (sources : BTreeMap (String Y) (String Z)) (key : List ℕ) where
  abbrev pub among : List Item → Result (List File) Error
  among = imports_among sources key

  next_of : (xs : List Item) (i : ℕ) (x : Item) → i < length xs → x ≡ get_or xs i x → drop i xs ≡ x ∷ drop (i + 1) xs
  next_of xs i x lt is = drop-cons xs i x lt ∙ ap (λ z. z ∷ drop (suc i) xs) (sym is) ∙ ap (λ n. x ∷ drop n xs) (sym (add-one i))

  -- an item more
  pub imports_further : (items : List Item) (i : ℕ) (item : Item) (now after : List File) (source : Option File) → i < length items → item ≡ get_or items i item → import_answer sources key (import_of item) ≡ Ok source → after ≡ now ++ option_to_list source
      → before now (among (drop i items)) ≡ among items → before after (among (drop (i + 1) items)) ≡ among items
  imports_further items i item now after source lt is there e so =
      ap (λ files. before files (among (drop (i + 1) items))) e ∙ all_before now (option_to_list source) (among (drop (i + 1) items))
      ∙ ap (λ r. before now (then_others r (among (drop (i + 1) items)))) (sym there) ∙ ap (λ is. before now (among is)) (sym (next_of items i item lt is)) ∙ so

  pub imports_refused : (items : List Item) (i : ℕ) (item : Item) (now : List File) (e : Error) → i < length items → item ≡ get_or items i item → import_answer sources key (import_of item) ≡ Err e
      → before now (among (drop i items)) ≡ among items → among items ≡ Err e
  imports_refused items i item now e lt is refused so =
      sym so ∙ ap (λ is. before now (among is)) (next_of items i item lt is) ∙ ap (λ r. before now (then_others r (among (drop (i + 1) items)))) refused

  abbrev ok_of : List File → Result (List File) Error
  ok_of files = Ok files

  -- no item is left
  pub imports_done : (items : List Item) (i : ℕ) (now : List File) → length items ≤ i → before now (among (drop i items)) ≡ among items → among items ≡ Ok now
  imports_done items i now le so = sym so ∙ ap (λ is. before now (among is)) (drop_all i items le) ∙ ap ok_of (append-nil now)

  -- ---- one item

  -- an item adds the file that it names
  abbrev pub Adds : Option ImportParts → List File → List File → Type 0
  Adds line old new = (source : Option File) × (import_answer sources key line ≡ Ok source) × (new ≡ old ++ option_to_list source)

  pub adds_nothing : (line : Option ImportParts) (files : List File) → None ≡ line → Adds line files files
  adds_nothing line files e = subst (λ l. Adds l files files) e (None, refl, sym (append-nil files))

  pub adds_none : (line : Option ImportParts) (parts : ImportParts) (files : List File) → Some parts ≡ line → Ok None ≡ imported sources key parts.0 parts.1 → Adds line files files
  adds_none line parts files e h = subst (λ l. Adds l files files) e (None, sym h, sym (append-nil files))

  pub adds_one : (line : Option ImportParts) (parts : ImportParts) (old new : List File) (file : File) → Some parts ≡ line → Ok (Some file) ≡ imported sources key parts.0 parts.1 → new ≡ old ++ file ∷ [] → Adds line old new
  adds_one line parts old new file e h is = subst (λ l. Adds l old new) e (Some file, sym h, is)

  pub import_refused : (line : Option ImportParts) (parts : ImportParts) (e : Error) → Some parts ≡ line → e ≢ OutOfMemory → Gives (Err e) (imported sources key parts.0 parts.1) → import_answer sources key line ≡ Err e
  import_refused line parts e is n h = subst (λ l. import_answer sources key l ≡ Err e) is (refusal_given e (imported sources key parts.0 parts.1) n h)
