-- What is found stands at places of its own.
use Rattle.std.proofs.Common.{◌≡◌, ◌∙◌, ◌⊎◌, ◌<◌, ◌≤◌, ◌+◌, ◌++◌, ◌∷◌, [], ℕ, zero, suc, Bool, true, false, ◌&&◌, inl, inr, List, Option, Some, None, length, sym, ap, ap₂, subst, refl, arith}
use Rattle.std.proofs.lemmas.Bool.{false≢true}
use Rattle.std.specs.Prelude.{◌≢◌, Contains, option_map, slice_get}
use Rattle.std.proofs.Math.Dec.{eqb}
use Rattle.std.proofs.lemmas.Bool.Decides.{eqb_tells}
use Rattle.std.specs.List.{AllByRecursion, IsDistinct}
use Rattle.std.specs.List.Sorted.{IsPermutation}
use Rattle.std.specs.Option.{option_and_then}
use Rattle.std.proofs.lemmas.Map.Keys.{IsDistinct-IsPermutation}
use Rattle.std.proofs.lemmas.Option.{none-some, same_Some}
use Rattle.just_text.specs.declared.name.Name.{Name}
use Rattle.just_text.specs.declared.os.Os.{Os}
use Rattle.tree_items.specs.declared.ast.Item.{Item}
use Rattle.tree_items.specs.declared.ast.Item.TheVariants.{Alias, Assignment, Comment, Function, Import, Module, Newline, Recipe, Set, Unexport}
use Rattle.modules_compilation.specs.Places.{items_in}
use Rattle.modules_compilation.specs.declared.module_node.File.{File}
use Rattle.modules_compilation.specs.declared.module_node.ModuleNode.{ModuleNode}
use Rattle.modules_compilation.specs.declared.place.Place.{Place}
use Rattle.modules_definitions.specs.declared.definition.Definition.{Definition}
use Rattle.modules_definitions.specs.declared.definition.Kind.{Kind}
use Rattle.modules_definitions.specs.declared.file_range.FileRange.{FileRange}
use Rattle.modules_definitions.specs.Defining.{Defines, InFiles, defined_by, module_name, named_at, submodule_at}
use Rattle.modules_definitions.specs.Gathering.{AreApart, Gathers, HaveOwnItems, IsItemAmong, IsItemOf, StaysApart}
use Rattle.modules_definitions.proofs.Elements.{contains_at, no_two, nothing, two_more}
use Rattle.modules_definitions.proofs.Finding.{InFirst, InFirstOf, at_place}

-- ---- one more

pub one_apart : (At : Place → Type 0) (d : Definition) (xs ys : List Definition) → ((place : Place) → place ≡ d.place → At place) → ys ≡ xs ++ d ∷ [] → StaysApart At xs ys
one_apart At d xs ys at is elsewhere apart = subst AreApart (sym is) (two_more (λ a b. a.place ≢ b.place) xs d apart (λ a c e. elsewhere a c (at a.place e)))

pub item_apart : (place : Place) (d : Definition) (xs ys : List Definition) → d.place ≡ place → ys ≡ xs ++ d ∷ [] → StaysApart (λ at. at ≡ place) xs ys
item_apart place d xs ys at is = one_apart (λ p. p ≡ place) d xs ys (λ p e. e ∙ at) is

pub more_items_apart : (os : Os) (items : List Item) (file i : ℕ) (xs ys zs : List Definition) → Gathers (InFirst os items file i) xs ys → StaysApart (λ at. at.file ≡ file) xs ys → StaysApart (λ at. at ≡ at_place file i) ys zs → StaysApart (λ at. at.file ≡ file) xs zs
more_items_apart os items file i xs ys zs found so next elsewhere apart = next (λ d c e. elim (found.sound d c) [
  | inl old ↦ elsewhere d old (ap (λ p. p.file) e)
  | inr s ↦ let lt = s.0.1 in let same = ap (λ p. p.item) e in omega (arith, lt, same)
]) (so elsewhere apart)

pub more_files_apart : (os : Os) (files : List File) (first place : ℕ) (xs ys zs : List Definition) → first ≤ place → Gathers (InFiles os files first place) xs ys → StaysApart (λ at. first ≤ at.file) xs ys → StaysApart (λ at. at.file ≡ place) ys zs
    → StaysApart (λ at. first ≤ at.file) xs zs
more_files_apart os files first place xs ys zs le found so next elsewhere apart = next (λ d c e. elim (found.sound d c) [
  | inl old ↦ elsewhere d old (omega (arith, le, e))
  | inr s ↦ let lt = s.0.to in omega (arith, lt, e)
]) (so elsewhere apart)

pub submodule_apart : (files : List File) (modules : List ModuleNode) (inner : ℕ) (name : Name) (at : Place) (d : Definition) (xs ys : List Definition) → Some (name, at) ≡ submodule_at files modules inner → d.place ≡ at → ys ≡ xs ++ d ∷ []
    → StaysApart (IsItemOf files modules inner) xs ys
submodule_apart files modules inner name at d xs ys is place_is e = one_apart (IsItemOf files modules inner) d xs ys (λ p same. (name, sym is ∙ ap (λ q. Some (name, q)) (sym (same ∙ place_is)))) e

pub more_submodules_apart : (files : List File) (modules : List ModuleNode) (submodules : List ℕ) (i inner : ℕ) (xs ys zs : List Definition) → slice_get submodules i ≡ Some inner → HaveOwnItems files modules submodules → Gathers (InFirstOf files modules submodules i) xs ys
    → StaysApart (IsItemAmong files modules submodules) xs ys → StaysApart (IsItemOf files modules inner) ys zs → StaysApart (IsItemAmong files modules submodules) xs zs
more_submodules_apart files modules submodules i inner xs ys zs read once found so next elsewhere apart = next (λ d c item. elim (found.sound d c) [
  | inl old ↦ elsewhere d old (i, inner, read, item)
  | inr s ↦
      let same = once s.0.at i s.0.inner inner d.place s.0.found read (d.name.now, s.0.is.is) item in
      let lt = s.0.before in
      omega (arith, same, lt)
]) (so elsewhere apart)

-- ---- in another order

abbrev is_same : Definition → Definition → Bool
is_same a b = eqb a.place.file b.place.file && eqb a.place.item b.place.item

same_place : (a b : Definition) → is_same a b ≡ true → a.place ≡ b.place
same_place a b e = by_tests (eqb_tells a.place.file b.place.file) (eqb_tells a.place.item b.place.item)
  where
    by_tests : ((eqb a.place.file b.place.file ≡ true) × (a.place.file ≡ b.place.file)) ⊎ ((eqb a.place.file b.place.file ≡ false) × (a.place.file ≢ b.place.file))
        → ((eqb a.place.item b.place.item ≡ true) × (a.place.item ≡ b.place.item)) ⊎ ((eqb a.place.item b.place.item ≡ false) × (a.place.item ≢ b.place.item)) → a.place ≡ b.place
    by_tests (inl p) (inl q) = ap₂ at_place p.1 q.1
    by_tests (inl p) (inr q) = absurd (false≢true (sym (ap₂ (λ x y. x && y) p.0 q.0) ∙ e))
    by_tests (inr p) q = absurd (false≢true (sym (ap (λ x. x && eqb a.place.item b.place.item) p.0) ∙ e))

itself : (n : ℕ) → eqb n n ≡ true
itself n = elim (eqb_tells n n) [ inl p ↦ p.0 | inr q ↦ let apart = q.1 in absurd (apart refl) ]

place_same : (a b : Definition) → a.place ≡ b.place → is_same a b ≡ true
place_same a b e = sym (ap (λ place. eqb a.place.file place.file && eqb a.place.item place.item) e) ∙ ap₂ (λ x y. x && y) (itself a.place.file) (itself a.place.item)

flips : (a b : Definition) → is_same a b ≡ is_same b a
flips a b = by_tests (is_same a b) refl (is_same b a) refl
  where
    by_tests : (x : Bool) → is_same a b ≡ x → (y : Bool) → is_same b a ≡ y → is_same a b ≡ is_same b a
    by_tests true e true f = e ∙ sym f
    by_tests false e false f = e ∙ sym f
    by_tests true e false f = absurd (false≢true (sym f ∙ place_same b a (sym (same_place a b e))))
    by_tests false e true f = absurd (false≢true (sym e ∙ place_same a b (sym (same_place b a f))))

others_differ : (d : Definition) (ds : List Definition) → ((j : ℕ) (b : Definition) → slice_get ds j ≡ Some b → d.place ≢ b.place) → AllByRecursion (λ y. is_same d y ≡ false) ds
others_differ d [] h = tt
others_differ d (b ∷ ds) h = (by_test (is_same d b) refl, others_differ d ds (λ j c e. h (suc j) c e))
  where
    by_test : (x : Bool) → is_same d b ≡ x → is_same d b ≡ false
    by_test false e = e
    by_test true e = absurd (h 0 b refl (same_place d b e))

to_distinct : (ds : List Definition) → AreApart ds → IsDistinct is_same ds
unfolding IsDistinct
to_distinct [] h = tt
to_distinct (d ∷ ds) h = (others_differ d ds (λ j b e. h 0 (suc j) d b (omega arith) refl e), to_distinct ds (λ i j a b lt e f. h (suc i) (suc j) a b (omega (arith, lt)) e f))

differ_at : (d : Definition) (ds : List Definition) → AllByRecursion (λ y. is_same d y ≡ false) ds → (j : ℕ) (b : Definition) → slice_get ds j ≡ Some b → d.place ≢ b.place
differ_at d [] h j b e = absurd (none-some b e)
differ_at d (c ∷ ds) h zero b e = λ same. false≢true (sym h.0 ∙ place_same d c (same ∙ ap (λ x. x.place) (sym (same_Some c b e))))
differ_at d (c ∷ ds) h (suc j) b e = differ_at d ds h.1 j b e

from_distinct : (ds : List Definition) → IsDistinct is_same ds → AreApart ds
unfolding IsDistinct
from_distinct [] h i j a b lt e f = absurd (none-some a e)
from_distinct (d ∷ ds) h zero zero a b lt e f = absurd (omega (arith, lt))
from_distinct (d ∷ ds) h zero (suc j) a b lt e f = subst (λ x. x.place ≢ b.place) (same_Some d a e) (differ_at d ds h.0 j b f)
from_distinct (d ∷ ds) h (suc i) zero a b lt e f = absurd (omega (arith, lt))
from_distinct (d ∷ ds) h (suc i) (suc j) a b lt e f = from_distinct ds h.1 i j a b (omega (arith, lt)) e f

-- ---- all

-- what an item defines is no submodule
item_or_submodule : (os : Os) (item : Item) (kind : Kind) (name other : Name) → Defines os item kind name → module_name (Some item) ≡ Some other → ⊥
item_or_submodule os (Alias a) kind name other d e = none-some other e
item_or_submodule os (Assignment a) kind name other d e = none-some other e
item_or_submodule os (Comment c) kind name other d e = none-some other e
item_or_submodule os (Function f) kind name other d e = none-some other e
item_or_submodule os (Import i) kind name other d e = none-some other e
item_or_submodule os (Module m) kind name other d e = none-some (kind, name) d
item_or_submodule os Newline kind name other d e = none-some other e
item_or_submodule os (Recipe r) kind name other d e = none-some other e
item_or_submodule os (Set s) kind name other d e = none-some other e
item_or_submodule os (Unexport u) kind name other d e = none-some other e

abbrev with_place : Place → Name → Name × Place
with_place place name = (name, place)

abbrev by_place : List File → Place → Option (Name × Place)
by_place files place = option_map (with_place place) (named_at files place)

abbrev by_node : List File → ModuleNode → Option (Name × Place)
by_node files node = option_and_then (by_place files) node.item

-- the item of a submodule stands at its place
named_there : (files : List File) (modules : List ModuleNode) (inner : ℕ) (name : Name) (place : Place) → submodule_at files modules inner ≡ Some (name, place) → named_at files place ≡ Some name
named_there files modules inner name place e = of_node (slice_get modules inner) e
  where
    of_name : (at : Place) (o : Option Name) → named_at files at ≡ o → option_map (with_place at) o ≡ Some (name, place) → named_at files place ≡ Some name
    of_name at None is e = absurd (none-some (name, place) e)
    of_name at (Some n) is e =
        let same = same_Some (with_place at n) (name, place) e in
        ap (named_at files) (sym (ap (λ x. x.1) same)) ∙ is ∙ ap (λ x. Some x.0) same

    of_item : (o : Option Place) → option_and_then (by_place files) o ≡ Some (name, place) → named_at files place ≡ Some name
    of_item None e = absurd (none-some (name, place) e)
    of_item (Some at) e = of_name at (named_at files at) refl e

    of_node : (o : Option ModuleNode) → option_and_then (by_node files) o ≡ Some (name, place) → named_at files place ≡ Some name
    of_node None e = absurd (none-some (name, place) e)
    of_node (Some node) e = of_item node.item e

pub files_or_submodules : (os : Os) (files : List File) (modules : List ModuleNode) (first end : ℕ) (submodules : List ℕ) (kind : Kind) (name : Name) (place : Place) → InFiles os files first end kind name place → IsItemAmong files modules submodules place → ⊥
files_or_submodules os files modules first end submodules kind name place s (i, inner, read, (other, item)) =
    item_or_submodule os s.item kind name other s.defines (sym (ap module_name s.there) ∙ named_there files modules inner other place item)

pub all_apart : (os : Os) (files : List File) (range : FileRange) (modules : List ModuleNode) (submodules : List ℕ) (xs ys zs sorted : List Definition) → xs ≡ [] → Gathers (InFiles os files range.first range.end) xs ys → StaysApart (λ at. range.first ≤ at.file) xs ys
    → StaysApart (IsItemAmong files modules submodules) ys zs → IsPermutation zs sorted → AreApart sorted
all_apart os files range modules submodules xs ys zs sorted begun found first then same =
    let none : (d : Definition) → Contains xs d → ⊥ = λ d c. nothing d (subst (λ l. Contains l d) begun c) in
    let nowhere : AreApart xs = subst AreApart (sym begun) (no_two (λ a b. a.place ≢ b.place)) in
    let apart = then (λ d c item. elim (found.sound d c) [
      | inl old ↦ none d old
      | inr s ↦ files_or_submodules os files modules range.first range.end submodules d.kind d.name.now d.place s.0 item
    ]) (first (λ d c le. none d c) nowhere) in
    from_distinct sorted (IsDistinct-IsPermutation is_same flips zs sorted same (to_distinct zs apart))
