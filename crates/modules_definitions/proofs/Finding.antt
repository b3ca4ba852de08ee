-- What items, files and submodules define, one after the other.
use Rattle.std.proofs.Common.{◌≡◌, ◌∙◌, ◌⊎◌, ◌<◌, ◌≤◌, ◌+◌, ◌++◌, ◌∷◌, [], ℕ, inl, inr, List, Some, None, length, get_or, take, sym, ap, ap₂, subst, refl, arith}
use Rattle.std.specs.Prelude.{◌≢◌, Contains, slice_get}
use Rattle.std.proofs.lemmas.Bool.Decides.{eqb_tells, leb_tells}
use Rattle.std.proofs.lemmas.Option.{none-some, same_Some, slice_get-get_or, slice_get_read, slice_get_within}
use Rattle.std.specs.List.Sorted.{IsPermutation}
use Rattle.std.proofs.lemmas.List.Sorted.{Contains-permutation, IsPermutation-sym}
use Rattle.just_text.specs.declared.name.Name.{Name}
use Rattle.just_text.specs.declared.os.Os.{Os}
use Rattle.modules_compilation.specs.declared.module_node.File.{File}
use Rattle.tree_items.specs.declared.ast.Item.{Item}
use Rattle.modules_compilation.specs.declared.module_node.ModuleNode.{ModuleNode}
use Rattle.modules_compilation.specs.declared.place.Place.{Place}
use Rattle.modules_compilation.specs.Places.{items_in, items_of}
use Rattle.modules_definitions.specs.declared.definition.Definition.{Definition}
use Rattle.modules_definitions.specs.declared.definition.Kind.{Kind}
use Rattle.modules_definitions.specs.declared.definition.Kind.TheVariants.{Module as ModuleKind}
use Rattle.modules_definitions.specs.declared.file_range.FileRange.{FileRange}
use Rattle.modules_definitions.specs.Defining.{AreDefinitions, InFiles, InItem, InItems, InSubmodules, IsNew, IsSubmoduleAt, Stands, defined_by, submodule_at}
use Rattle.modules_definitions.specs.Gathering.{Gathers}
use Rattle.modules_definitions.proofs.Gathering.{as_found, more_found, nothing_found, one_found}
use Rattle.modules_definitions.proofs.Orders.{IsFronted}
use Rattle.modules_definitions.proofs.Elements.{contains_at, nothing, place_of}

abbrev pub at_place : ℕ → ℕ → Place
at_place file item = record { file = file; item = item }

pub item_found : (os : Os) (item : Item) (at : Place) (kind : Kind) (name : Name) (d : Definition) (xs ys : List Definition) → Some (kind, name) ≡ defined_by os item → IsNew kind name at d → ys ≡ xs ++ d ∷ [] → Gathers (InItem os item at) xs ys
item_found os item at kind name d xs ys e w is = subst (Gathers (InItem os item at) xs) (sym is) (one_found (InItem os item at) kind name at d xs (sym e, refl) (λ k n p s.
    let same = same_Some (k, n) (kind, name) (sym s.0 ∙ sym e) in
    (ap (λ x. x.0) same, ap (λ x. x.1) same, s.1)) w)

pub no_item : (os : Os) (item : Item) (at : Place) (xs : List Definition) → None ≡ defined_by os item → Gathers (InItem os item at) xs xs
no_item os item at xs e = nothing_found (InItem os item at) (λ k n p s. none-some (k, n) (e ∙ s.0)) xs

-- ---- the items of a file

-- the first items of a file
abbrev pub InFirst : Os → List Item → ℕ → ℕ → Kind → Name → Place → Type 0
InFirst os items file count kind name place = InItems os items file kind name place × (place.item < count)

pub no_items : (os : Os) (items : List Item) (file : ℕ) (xs : List Definition) → Gathers (InFirst os items file 0) xs xs
no_items os items file xs = nothing_found (InFirst os items file 0) (λ k n p s. let lt = s.1 in omega arith) xs

pub more_items : (os : Os) (items : List Item) (file i : ℕ) (item : Item) (xs ys zs : List Definition) → i < length items → item ≡ get_or items i item → Gathers (InFirst os items file i) xs ys → Gathers (InItem os item (at_place file i)) ys zs → Gathers (InFirst os items file (i + 1)) xs zs
more_items os items file i item xs ys zs lt is a b =
    let read : slice_get items i ≡ Some item = slice_get_read items (length items) i item refl lt is in
    more_found (InFirst os items file i) (InItem os item (at_place file i)) (InFirst os items file (i + 1)) xs ys zs
    (λ k n p s. (s.0, let l = s.1 in omega arith))
    (λ k n p t.
    let e = ap (λ q. q.item) t.1 in
    (record { in_file = ap (λ q. q.file) t.1; item = item; there = ap (slice_get items) e ∙ read; defines = t.0 }, omega arith))
    (λ k n p u. elim (eqb_tells p.item i) [
      | inl same ↦ inr (ap (defined_by os) (same_Some item u.0.item (sym read ∙ ap (slice_get items) (sym same.1) ∙ u.0.there)) ∙ u.0.defines, ap₂ at_place u.0.in_file same.1)
      | inr other ↦ let ne : p.item ≢ i = other.1 in let l = u.1 in inl (u.0, omega arith)
    ])
    a b

pub all_items : (os : Os) (items : List Item) (file i : ℕ) (xs ys : List Definition) → length items ≤ i → Gathers (InFirst os items file i) xs ys → Gathers (InItems os items file) xs ys
all_items os items file i xs ys le a = as_found (InFirst os items file i) (InItems os items file) xs ys (λ k n p s. s.0) (λ k n p s. (s, let lt = slice_get_within items p.item s.item s.there in omega arith)) a

-- ---- files

pub file_read : (os : Os) (files : List File) (file : ℕ) (taken : File) (xs ys : List Definition) → Some taken ≡ slice_get files file → Gathers (InItems os taken.ast.items.items file) xs ys → Gathers (InItems os (items_in files file) file) xs ys
file_read os files file taken xs ys e a = subst (λ o. Gathers (InItems os (items_of o) file) xs ys) e a

pub no_file : (os : Os) (files : List File) (file : ℕ) (xs : List Definition) → None ≡ slice_get files file → Gathers (InItems os (items_in files file) file) xs xs
no_file os files file xs e = subst (λ o. Gathers (InItems os (items_of o) file) xs xs) e (nothing_found (InItems os [] file) (λ k n p s. none-some s.item s.there) xs)

pub no_files : (os : Os) (files : List File) (first end : ℕ) (xs : List Definition) → end ≤ first → Gathers (InFiles os files first end) xs xs
no_files os files first end xs le = nothing_found (InFiles os files first end) (λ k n p s. let f = s.from in let t = s.to in omega arith) xs

pub more_files : (os : Os) (files : List File) (first place : ℕ) (xs ys zs : List Definition) → first ≤ place → Gathers (InFiles os files first place) xs ys → Gathers (InItems os (items_in files place) place) ys zs → Gathers (InFiles os files first (place + 1)) xs zs
more_files os files first place xs ys zs le a b =
    more_found (InFiles os files first place) (InItems os (items_in files place) place) (InFiles os files first (place + 1)) xs ys zs
    (λ k n p s. let t = s.to in record { from = s.from; to = omega arith; item = s.item; there = s.there; defines = s.defines })
    (λ k n p s. let e = s.in_file in record { from = omega arith; to = omega arith; item = s.item; there = ap (λ f. slice_get (items_in files f) p.item) e ∙ s.there; defines = s.defines })
    (λ k n p u. elim (eqb_tells p.file place) [
      | inl same ↦ inr (record { in_file = same.1; item = u.item; there = ap (λ f. slice_get (items_in files f) p.item) (sym same.1) ∙ u.there; defines = u.defines })
      | inr other ↦ let ne : p.file ≢ place = other.1 in let t = u.to in inl (record { from = u.from; to = omega arith; item = u.item; there = u.there; defines = u.defines })
    ])
    a b

-- the first files; none where the range ends before it begins
abbrev pub InFirstFiles : Os → List File → ℕ → ℕ → ℕ → List Definition → List Definition → Type 0
InFirstFiles os files first end place xs ys = Gathers (InFiles os files first place) xs ys × (end ≤ first → place ≡ first)

pub all_files : (os : Os) (files : List File) (first end place : ℕ) (xs ys : List Definition) → end ≤ place → (first ≤ end → place ≤ end) → InFirstFiles os files first end place xs ys → Gathers (InFiles os files first end) xs ys
all_files os files first end place xs ys le up a = as_found (InFiles os files first place) (InFiles os files first end) xs ys
    (λ k n p s. let f = s.from in let t = s.to in record { from = f; to = reached p.file f t; item = s.item; there = s.there; defines = s.defines })
    (λ k n p s. let t = s.to in record { from = s.from; to = omega arith; item = s.item; there = s.there; defines = s.defines })
    a.0
  where
    reached : (file : ℕ) → first ≤ file → file < place → file < end
    reached file f t = elim (leb_tells first end) [
      | inl p ↦ let q = up p.1 in omega arith
      | inr p ↦ let q = p.1 in let r = a.1 (omega arith) in absurd (omega arith)
    ]

-- ---- submodules

pub submodule_found : (files : List File) (modules : List ModuleNode) (inner : ℕ) (name : Name) (at : Place) (d : Definition) (xs ys : List Definition) → Some (name, at) ≡ submodule_at files modules inner → IsNew (ModuleKind inner) name at d → ys ≡ xs ++ d ∷ []
    → Gathers (IsSubmoduleAt files modules inner) xs ys
submodule_found files modules inner name at d xs ys e w is = subst (Gathers (IsSubmoduleAt files modules inner) xs) (sym is) (one_found (IsSubmoduleAt files modules inner) (ModuleKind inner) name at d xs (record { kind_is = refl; is = sym e }) (λ k n p s.
    let same = same_Some (n, p) (name, at) (sym s.is ∙ sym e) in
    (s.kind_is, ap (λ x. x.0) same, ap (λ x. x.1) same)) w)

pub no_submodule : (files : List File) (modules : List ModuleNode) (inner : ℕ) (xs : List Definition) → None ≡ submodule_at files modules inner → Gathers (IsSubmoduleAt files modules inner) xs xs
no_submodule files modules inner xs e = nothing_found (IsSubmoduleAt files modules inner) (λ k n p s. none-some (n, p) (e ∙ s.is)) xs

-- the first of the submodules
pub record InFirstOf (files : List File) (modules : List ModuleNode) (submodules : List ℕ) (count : ℕ) (kind : Kind) (name : Name) (place : Place) : Type 0 where
  pub at : ℕ
  pub inner : ℕ
  pub before : at < count
  pub found : slice_get submodules at ≡ Some inner
  pub is : IsSubmoduleAt files modules inner kind name place

pub no_submodules : (files : List File) (modules : List ModuleNode) (submodules : List ℕ) (xs : List Definition) → Gathers (InFirstOf files modules submodules 0) xs xs
no_submodules files modules submodules xs = nothing_found (InFirstOf files modules submodules 0) (λ k n p s. let lt = s.before in omega arith) xs

pub more_submodules : (files : List File) (modules : List ModuleNode) (submodules : List ℕ) (i inner : ℕ) (xs ys zs : List Definition) → slice_get submodules i ≡ Some inner → Gathers (InFirstOf files modules submodules i) xs ys → Gathers (IsSubmoduleAt files modules inner) ys zs → Gathers (InFirstOf files modules submodules (i + 1)) xs zs
more_submodules files modules submodules i inner xs ys zs read a b =
    more_found (InFirstOf files modules submodules i) (IsSubmoduleAt files modules inner) (InFirstOf files modules submodules (i + 1)) xs ys zs
    (λ k n p s. let l = s.before in record { at = s.at; inner = s.inner; before = omega arith; found = s.found; is = s.is })
    (λ k n p t. record { at = i; inner = inner; before = omega arith; found = read; is = t })
    (λ k n p u. elim (eqb_tells u.at i) [
      | inl same ↦ inr (subst (λ m. IsSubmoduleAt files modules m k n p) (same_Some u.inner inner (sym u.found ∙ ap (slice_get submodules) same.1 ∙ read)) u.is)
      | inr other ↦ let ne : u.at ≢ i = other.1 in let l = u.before in inl (record { at = u.at; inner = u.inner; before = omega arith; found = u.found; is = u.is })
    ])
    a b

pub all_submodules : (files : List File) (modules : List ModuleNode) (submodules : List ℕ) (i : ℕ) (xs ys : List Definition) → length submodules ≤ i → Gathers (InFirstOf files modules submodules i) xs ys → Gathers (InSubmodules files modules submodules) xs ys
all_submodules files modules submodules i xs ys le a = as_found (InFirstOf files modules submodules i) (InSubmodules files modules submodules) xs ys
    (λ k n p s. record { inner = s.inner; there = contains_at submodules s.at s.inner s.found; is = s.is })
    (λ k n p s. let q = place_of submodules s.inner s.there in record { at = q.0; inner = s.inner; before = (let lt = slice_get_within submodules q.0 s.inner q.1 in omega arith); found = q.1; is = s.is })
    a

-- ---- all, in order

pub all_found : (os : Os) (files : List File) (range : FileRange) (modules : List ModuleNode) (submodules : List ℕ) (xs ys zs sorted : List Definition) → xs ≡ [] → Gathers (InFiles os files range.first range.end) xs ys → Gathers (InSubmodules files modules submodules) ys zs → IsPermutation zs sorted
    → AreDefinitions (Stands os files range modules submodules) sorted
all_found os files range modules submodules xs ys zs sorted begun a b same =
    let g = more_found (InFiles os files range.first range.end) (InSubmodules files modules submodules) (Stands os files range modules submodules) xs ys zs (λ k n p s. inl s) (λ k n p s. inr s) (λ k n p s. s) a b in
    record {
      sound = λ d c. elim (g.sound d (Contains-permutation sorted zs d (IsPermutation-sym zs sorted same) c)) [ inl old ↦ absurd (nothing d (subst (λ l. Contains l d) begun old)) | inr s ↦ s ];
      complete = λ k n p s. let w = g.complete k n p s in (w.0, Contains-permutation zs sorted w.0 same w.1, w.2);
    }

pub all_fronted : {os : Os} {files : List File} {range : FileRange} {modules : List ModuleNode} {submodules : List ℕ} {ds : List Definition} → AreDefinitions (Stands os files range modules submodules) ds → (d : Definition) → Contains ds d → IsFronted d
all_fronted are d c = let w = (are.sound d c).1 in record { front = w.front_is; bytes = w.bytes }
