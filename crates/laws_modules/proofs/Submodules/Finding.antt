-- What is found of items, one by one, and why one is refused.
use Rattle.std.proofs.Common.{◌≡◌, ◌⊎◌, inl, inr, sym, ◌∙◌, ap, subst, ◌<◌, ◌+◌, ℕ, zero, suc, Bool, true, false, List, [], ◌∷◌, ◌++◌, Option, Some, None, Result, Ok, Err, refl, arith, length}
use Rattle.std.specs.Prelude.{slice_get, option_map}
use Rattle.std.specs.BTreeMap.{BTreeMap}
use Rattle.std.specs.declared.string.String.{String}
use Rattle.std.proofs.lemmas.Option.{none-some, same_Some, slice_get_within}
use Rattle.just_text.specs.declared.name.Name.{Name}
use Rattle.just_text.specs.declared.os.Os.{Os}
use Rattle.tree_items.specs.declared.ast.Item.{Item}
use Rattle.modules_compilation.specs.declared.error.Error.{Error}
use Rattle.modules_compilation.specs.declared.error.Error.TheVariants.{AmbiguousModule, MissingModule}
use Rattle.modules_files.specs.Chosen.{File, module_answer}
use Rattle.modules_files.specs.Found.{file_at, source_of}
use Rattle.modules_files.specs.declared.search.Files.{Files}
use Rattle.modules_sources.specs.Items.{ModuleParts, module_of}
use Rattle.modules_sources.specs.Submodules.{AreFound, Found, Gives, IsAnswer, found_at, found_more, found_none}
use Rattle.modules_sources.proofs.Reaching.{at_end, end_cases, kept_left}
use Rattle.meaning_rules.specs.Worlds.Given.{Text}

-- ---- what stands at the end of a list

tail_cases : {A : Type 0} (xs ys : List A) (i : ℕ) (a : A) → slice_get (xs ++ ys) i ≡ Some a → (slice_get xs i ≡ Some a) ⊎ ((j : ℕ) × (slice_get ys j ≡ Some a) × (i ≡ length xs + j))
tail_cases [] ys i a e = inr (i, e, omega arith)
tail_cases (x ∷ xs) ys zero a e = inl e
tail_cases (x ∷ xs) ys (suc i) a e = elim (tail_cases xs ys i a e) [
  | inl p ↦ inl p
  | inr q ↦ let s = q.2 in inr (q.0, q.1, omega (arith, s))
]

-- ---- what an item adds

abbrev IsAdded : ℕ → Option ModuleParts → Option File → ℕ → Found → Type 0
IsAdded place line file j f = (parts : ModuleParts) × (line ≡ Some parts) × (file ≡ Some f.file) × (f.item ≡ place) × (f.name ≡ parts.0) × (j ≡ 0)

is_added : (place : ℕ) (line : Option ModuleParts) (file : Option File) (j : ℕ) (f : Found) → slice_get (found_at place line file) j ≡ Some f → IsAdded place line file j f
is_added place None file j f e = absurd (none-some f e)
is_added place (Some parts) None j f e = absurd (none-some f e)
is_added place (Some parts) (Some file) zero f e =
    let added : Found = record { file = file; item = place; name = parts.0 } in
    let same = same_Some added f e in
    (parts, refl, ap (λ (g : Found). Some g.file) same, sym (ap (λ (g : Found). g.item) same), sym (ap (λ (g : Found). g.name) same), refl)
is_added place (Some parts) (Some file) (suc j) f e = absurd (none-some f e)

module _ (lookup : Files) (os : Os) (key : Text) where
  abbrev pub Answers : ModuleParts → Result (Option File) Error → Type 0
  Answers line answer = IsAnswer lookup os key line answer

  -- what was found comes of an item
  pub record ComesOf (items : List Item) (f : Found) : Type 0 where
    pub item : Item
    pub there : slice_get items f.item ≡ Some item
    pub line : ModuleParts
    pub is : module_of os item ≡ Some line
    pub answer : Answers line (Ok (Some f.file))
    pub named : f.name ≡ line.0

  given_line : (o : Option ModuleParts) (line : ModuleParts) (answer : Result (Option File) Error) → o ≡ Some line → Gives lookup os key o answer → Answers line answer
  given_line o line answer e h = subst (λ q. Gives lookup os key q answer) e h

  pub comes_of : (items : List Item) (found : List Found) → AreFound lookup os key items found → (i : ℕ) (f : Found) → slice_get found i ≡ Some f → ComesOf items f
  comes_of items found found_none i f e = absurd (none-some f e)
  comes_of whole all (found_more {items} {found} item file earlier gives) i f e =
      by_case (tail_cases found (found_at (length items) (module_of os item) file) i f e) (comes_of items found earlier i f)
    where
      by_case : (slice_get found i ≡ Some f) ⊎ ((j : ℕ) × (slice_get (found_at (length items) (module_of os item) file) j ≡ Some f) × (i ≡ length found + j)) → (slice_get found i ≡ Some f → ComesOf items f) → ComesOf (items ++ item ∷ []) f
      by_case (inl p) before =
          let r = before p in
          record { item = r.item; there = kept_left items (item ∷ []) f.item r.item r.there; line = r.line; is = r.is; answer = r.answer; named = r.named }
      by_case (inr q) before = of_added (is_added (length items) (module_of os item) file q.0 f q.1)
        where
          of_added : IsAdded (length items) (module_of os item) file q.0 f → ComesOf (items ++ item ∷ []) f
          of_added r = record {
            item = item;
            there = ap (slice_get (items ++ item ∷ [])) r.3 ∙ at_end items item;
            line = r.0;
            is = r.1;
            answer = subst (λ o. Answers r.0 (Ok o)) r.2 (given_line (module_of os item) r.0 (Ok file) r.1 gives);
            named = r.4;
          }

  -- where there is a file, it is listed for the item
  abbrev pub IsListed : List Found → ℕ → ModuleParts → Option File → Type 0
  IsListed found place line None = Unit {0}
  IsListed found place line (Some file) = (i : ℕ) × (f : Found) × (slice_get found i ≡ Some f) × (f.item ≡ place) × (f.file ≡ file) × (f.name ≡ line.0)

  -- a submodule has an answer, and what it gives is listed
  pub record IsAnswered (found : List Found) (place : ℕ) (line : ModuleParts) : Type 0 where
    pub file : Option File
    pub answer : Answers line (Ok file)
    pub listed : IsListed found place line file

  still_listed : (found more : List Found) (place : ℕ) (line : ModuleParts) (file : Option File) → IsListed found place line file → IsListed (found ++ more) place line file
  still_listed found more place line None h = tt
  still_listed found more place line (Some file) h = (h.0, h.1, kept_left found more h.0 h.1 h.2, h.3, h.4, h.5)

  last_listed : (found : List Found) (place : ℕ) (line : ModuleParts) (file : Option File) → IsListed (found ++ found_at place (Some line) file) place line file
  last_listed found place line None = tt
  last_listed found place line (Some file) =
      let added : Found = record { file = file; item = place; name = line.0 } in
      (length found, added, at_end found added, refl, refl, refl)

  pub answered : (items : List Item) (found : List Found) → AreFound lookup os key items found → (place : ℕ) (item : Item) (line : ModuleParts) → slice_get items place ≡ Some item → module_of os item ≡ Some line → IsAnswered found place line
  answered items found found_none place item line e is = absurd (none-some item e)
  answered whole all (found_more {items} {found} last file earlier gives) place item line e is = by_case (end_cases items last place item e) (λ p. answered items found earlier place item line p is)
    where
      by_case : (slice_get items place ≡ Some item) ⊎ ((place ≡ length items) × (last ≡ item)) → (slice_get items place ≡ Some item → IsAnswered found place line) → IsAnswered (found ++ found_at (length items) (module_of os last) file) place line
      by_case (inl p) before =
          let r = before p in
          record { file = r.file; answer = r.answer; listed = still_listed found (found_at (length items) (module_of os last) file) place line r.file r.listed }
      by_case (inr q) before =
          let this : module_of os last ≡ Some line = ap (module_of os) q.1 ∙ is in
          record {
            file = file;
            answer = given_line (module_of os last) line (Ok file) this gives;
            listed = subst (λ o. IsListed (found ++ found_at (length items) o file) place line file) (sym this) (subst (λ n. IsListed (found ++ found_at (length items) (Some line) file) n line file) (sym q.0) (last_listed found (length items) line file));
          }

  -- each item gives one at most
  pub found_once : (items : List Item) (found : List Found) → AreFound lookup os key items found
      → (i j : ℕ) (f g : Found) → slice_get found i ≡ Some f → slice_get found j ≡ Some g → f.item ≡ g.item → i ≡ j
  found_once items found found_none i j f g e h same = absurd (none-some f e)
  found_once whole all (found_more {items} {found} item file earlier gives) i j f g e h same =
      by_cases (tail_cases found (found_at (length items) (module_of os item) file) i f e) (tail_cases found (found_at (length items) (module_of os item) file) j g h) (λ p q. found_once items found earlier i j f g p q same)
    where
      within : (i : ℕ) (f : Found) → slice_get found i ≡ Some f → f.item < length items
      within i f e = let r = comes_of items found earlier i f e in slice_get_within items f.item r.item r.there

      ends : (i : ℕ) (f : Found) (k : ℕ) → slice_get (found_at (length items) (module_of os item) file) k ≡ Some f → i ≡ length found + k → (f.item ≡ length items) × (i ≡ length found)
      ends i f k e at =
          let r = is_added (length items) (module_of os item) file k f e in
          let none = r.5 in
          (r.3, omega (arith, at, none))

      by_cases : (slice_get found i ≡ Some f) ⊎ ((k : ℕ) × (slice_get (found_at (length items) (module_of os item) file) k ≡ Some f) × (i ≡ length found + k))
          → (slice_get found j ≡ Some g) ⊎ ((k : ℕ) × (slice_get (found_at (length items) (module_of os item) file) k ≡ Some g) × (j ≡ length found + k))
          → (slice_get found i ≡ Some f → slice_get found j ≡ Some g → i ≡ j) → i ≡ j
      by_cases (inl p) (inl q) before = before p q
      by_cases (inl p) (inr q) before =
          let lt = within i f p in
          let at = (ends j g q.0 q.1 q.2).0 in
          absurd (omega (arith, lt, at, same))
      by_cases (inr p) (inl q) before =
          let lt = within j g q in
          let at = (ends i f p.0 p.1 p.2).0 in
          absurd (omega (arith, lt, at, same))
      by_cases (inr p) (inr q) before =
          let a = (ends i f p.0 p.1 p.2).1 in
          let b = (ends j g q.0 q.1 q.2).1 in
          omega (arith, a, b)

-- ---- answers by keys

module _ {Y Z : Type 0} (sources : BTreeMap (String Y) (String Z)) where
  key_of_file : (key : Text) (o : Option Text) (file : File) → Some file ≡ option_map (λ text. (key, text)) o → file.0 ≡ key
  key_of_file key None file e = absurd (none-some file (sym e))
  key_of_file key (Some text) file e = ap (λ (p : File). p.0) (same_Some file (key, text) e)

  same_file : (o p : Option File) → ◌≡◌ {A = Result (Option File) Error} (Ok o) (Ok p) → o ≡ p
  same_file o p e = cc e

  -- a file is that of the only key
  pub only_key : (name : Name) (optional : Bool) (keys : List Text) (file : File) → ◌≡◌ {A = Result (Option File) Error} (Ok (Some file)) (module_answer sources name optional keys) → keys ≡ file.0 ∷ []
  only_key name true [] file e = absurd (none-some file (sym (same_file (Some file) None e)))
  only_key name false [] file e = absurd (cc e)
  only_key name optional (key ∷ []) file e = ap (λ k. k ∷ []) (sym (key_of_file key (source_of sources key) file (same_file (Some file) (file_at sources (Some key)) e)))
  only_key name optional (key ∷ other ∷ keys) file e = absurd (cc e)

  -- no file is there where no key is known, and it may be missing; else the key has none
  pub no_key : (name : Name) (optional : Bool) (keys : List Text) → ◌≡◌ {A = Result (Option File) Error} (Ok None) (module_answer sources name optional keys)
      → ((keys ≡ []) × (optional ≡ true)) ⊎ ((key : Text) × (keys ≡ key ∷ []) × (None ≡ file_at sources (Some key)))
  no_key name true [] e = inl (refl, refl)
  no_key name false [] e = absurd (cc e)
  no_key name optional (key ∷ []) e = inr (key, refl, same_file None (file_at sources (Some key)) e)
  no_key name optional (key ∷ other ∷ keys) e = absurd (cc e)

  -- what is refused has no key and must have a file, or has several keys
  pub refused_keys : (name : Name) (optional : Bool) (keys : List Text) (refusal : Error) → ◌≡◌ {A = Result (Option File) Error} (Err refusal) (module_answer sources name optional keys)
      → ((keys ≡ []) × (optional ≡ false) × (refusal ≡ MissingModule name)) ⊎ ((1 < length keys) × (refusal ≡ AmbiguousModule name keys))
  refused_keys name true [] refusal e = absurd (cc e)
  refused_keys name false [] refusal e = inl (refl, refl, cc e)
  refused_keys name optional (key ∷ []) refusal e = absurd (cc e)
  refused_keys name optional (key ∷ other ∷ keys) refusal e = inr (omega arith, cc e)
