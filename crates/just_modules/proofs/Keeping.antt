-- What modules keep, and why they are refused.
use Rattle.std.proofs.Common.{◌≡◌, ◌∙◌, ◌<◌, ◌≤◌, ◌+◌, ◌-◌, ℕ, zero, suc, Bool, List, [], ◌∷◌, length, slice_set, take, drop, Option, Some, None, Result, Ok, Err, sym, ap, ap₂, subst, refl, arith, inl, inr}
use Rattle.std.specs.Prelude.{◌≢◌, IfErr, IfOk, OnOk, slice_get}
use Rattle.std.specs.Option.{option_and_then, option_map}
use Rattle.std.proofs.lemmas.Bool.Decides.{eqb_tells, leb_tells}
use Rattle.std.proofs.lemmas.List.{drop-take, drop_all, length-set, length-take-le, take_all}
use Rattle.std.proofs.lemmas.Option.{none-some, same_Some, slice_get_cases, slice_get_past, slice_get_within}
use Rattle.just_text.specs.declared.name.Name.{Name}
use Rattle.just_text.specs.declared.os.Os.{Os}
use Rattle.modules_compilation.specs.Places.{unless_refused}
use Rattle.modules_compilation.specs.declared.compilation.Compilation.{Compilation}
use Rattle.modules_compilation.specs.declared.error.Error.{Error}
use Rattle.modules_compilation.specs.declared.module_node.File.{File}
use Rattle.modules_compilation.specs.declared.module_node.ModuleNode.{ModuleNode}
use Rattle.modules_compilation.specs.declared.place.Place.{Place}
use Rattle.modules_definitions.specs.Defining.{AreDefinitions, Stands, named_at, submodule_at}
use Rattle.modules_definitions.specs.Gathering.{AreApart, HaveOwnItems}
use Rattle.modules_definitions.specs.Keeping.{AreInOrder, AreKept, IsRefused as IsRefusedTwice, memory, duplicate as twice}
use Rattle.modules_definitions.specs.Lists.{Gains}
use Rattle.modules_definitions.specs.declared.definition.Definition.{Definition}
use Rattle.modules_definitions.specs.declared.definition.Kind.{Kind}
use Rattle.modules_definitions.specs.declared.file_range.FileRange.{FileRange}
use Rattle.modules_definitions.specs.declared.keep.Allowed.{Allowed}
use Rattle.just_modules.specs.Exports.{export_refusal, first_unexported}
use Rattle.just_modules.specs.Keeping.{AreClear, AreDefinitionsOf, AreFilled, AreKeptOf, AreRefused, export, duplicate, AreRefusedIn, by_item, by_definition, AreWhole, BreaksRange, IsChangedAt, IsFilled, IsFirstRefused, IsRefused, IsWhole, Keeps, OrMemory, files_of, range_of, truths_in}
use Rattle.just_modules.specs.ItemRules.{BreaksFiles}
use Rattle.meaning_rules.specs.Told.{IsNamedBy}
use Rattle.just_modules.specs.Settings.{allowed_by, truths_of}
use Rattle.just_modules.specs.declared.truths.Truths.{Truths}
use Rattle.meaning_rules.specs.Worlds.Given.{World}
use Rattle.meaning_rules.specs.Rules.{Rule}

-- ---- outcomes

pub kept_gives : {T E : Type 0} {P Q : T → Type 0} (r : Result T E) → IfOk r P → ((x : T) → P x → Q x) → IfOk r Q
kept_gives (Ok x) p f = f x p
kept_gives (Err e) p f = tt

pub kept_says : {T E S : Type 0} {P Q : T → Type 0} (r : Result T E) → IfOk r P → IfOk r Q → ((x : T) → P x → Q x → S) → OnOk r S
kept_says (Ok x) p q f = f x p q
kept_says (Err e) p q f = tt

pub kept_clear : {T E P : Type 0} {Q R : T → Type 0} (r : Result T E) → OnOk r P → IfOk r Q → ((x : T) → P → Q x → R x) → IfOk r R
kept_clear (Ok x) p q f = f x p q
kept_clear (Err e) p q f = tt

pub kept_both : {T E : Type 0} {P Q R : T → Type 0} (r : Result T E) → IfOk r P → IfOk r Q → ((x : T) → P x → Q x → R x) → IfOk r R
kept_both (Ok x) p q f = f x p q
kept_both (Err e) p q f = tt

pub refusal_gives : {T E : Type 0} {P Q : E → Type 0} (r : Result T E) → IfErr r P → ((e : E) → P e → Q e) → IfErr r Q
refusal_gives (Ok x) p f = tt
refusal_gives (Err e) p f = f e p

pub or_gives : (P Q : Error → Type 0) (e : Error) → (P e → Q e) → OrMemory P e → OrMemory Q e
or_gives P Q e f (inl m) = inl m
or_gives P Q e f (inr p) = inr (f p)

pub same_Ok : {T E : Type 0} (x y : T) → ◌≡◌ {A = Result T E} (Ok x) (Ok y) → x ≡ y
same_Ok x y e = cc e

pub no_value : {T E : Type 0} (e : E) (x : T) → ◌≡◌ {A = Result T E} (Err e) (Ok x) → ⊥
no_value e x f = absurd (cc f)

-- what holds of the value of an outcome
pub ok_holds : {T E : Type 0} (P : T → Type 0) (r : Result T E) (x : T) → r ≡ Ok x → IfOk r P → P x
ok_holds P r x e h = subst (λ o. IfOk o P) e h

pub ok_says : {T E P : Type 0} (r : Result T E) → P → OnOk r P
ok_says (Ok x) p = p
ok_says (Err e) p = tt

-- ---- definitions

module _ (files : List File) (allowed : Allowed) (ds : List Definition) where
  pub refused_export : (e : Error) → OrMemory (λ e. (d : Definition) × (first_unexported files ds ≡ Some d) × (e ≡ export_refusal d)) e → OrMemory (AreRefused files allowed ds) e
  refused_export e (inl m) = inl m
  refused_export e (inr (d, f, is)) = inr (subst (AreRefused files allowed ds) (sym is) (export f))

  pub refused_twice : first_unexported files ds ≡ None → (e : Error) → IsRefusedTwice allowed ds e → OrMemory (AreRefused files allowed ds) e
  refused_twice n e memory = inl refl
  refused_twice n e (twice d) = inr (duplicate n d)

-- ---- the files and definitions of a module

module _ (os : Os) (unstable : Bool) (files : List File) (range : FileRange) (own : List File) (truths : Truths) (is_own : own ≡ files_of files range) (is_truths : truths ≡ truths_of os unstable own) where
  same_truths : truths ≡ truths_in os unstable files range
  same_truths = is_truths ∙ ap (truths_of os unstable) is_own

  back : (w : World) (rule : Rule) → BreaksRange os unstable files range w rule → BreaksFiles w truths own rule
  back w rule b = subst (λ fs. BreaksFiles w truths fs rule) (sym is_own) (subst (λ ts. BreaksFiles w ts (files_of files range) rule) (sym same_truths) b)

  there : (w : World) (rule : Rule) → BreaksFiles w truths own rule → BreaksRange os unstable files range w rule
  there w rule b = subst (λ ts. BreaksFiles w ts (files_of files range) rule) same_truths (subst (λ fs. BreaksFiles w truths fs rule) is_own b)

  pub whole_by : ((w : World) (rule : Rule) → w.os ≡ os → BreaksFiles w truths own rule → ⊥) → IsWhole os unstable files range
  whole_by clear w rule same b = clear w rule same (back w rule b)

  pub item_refused : (ds : List Definition) (error : Error) → ((w : World) → w.os ≡ os → IsNamedBy (BreaksFiles w truths own) error) → OrMemory (AreRefusedIn os unstable files range ds) error
  item_refused ds error broken = inr (by_item (λ w same. named_there w (broken w same)))
    where
      named_there : (w : World) → IsNamedBy (BreaksFiles w truths own) error → IsNamedBy (BreaksRange os unstable files range w) error
      named_there w (rule, is, b) = (rule, is, there w rule b)

  module _ (allowed : Allowed) (is_allowed : allowed ≡ allowed_by truths) (ds : List Definition) (whole : IsWhole os unstable files range) where
    same_allowed : allowed ≡ allowed_by (truths_in os unstable files range)
    same_allowed = is_allowed ∙ ap allowed_by same_truths

    pub kept_by : (kept : List Definition) → AreClear files allowed ds → AreKept ds kept → AreKeptOf os unstable files range ds kept
    kept_by kept clear are = record { whole = whole; clear = subst (λ a. AreClear files a ds) same_allowed clear; are = are }

    pub definition_refused : (error : Error) → OrMemory (AreRefused files allowed ds) error → OrMemory (AreRefusedIn os unstable files range ds) error
    definition_refused error (inl m) = inl m
    definition_refused error (inr r) = inr (by_definition whole (subst (λ a. AreRefused files a ds error) same_allowed r))

-- ---- what stands in other modules that come from the same items

abbrev pub item_of : Option ModuleNode → Option Place
item_of node = option_and_then (λ n. n.item) node

abbrev pub HaveSameItems : List ModuleNode → List ModuleNode → Type 0
HaveSameItems ms ns = (k : ℕ) → item_of (slice_get ms k) ≡ item_of (slice_get ns k)

same_back : (ms ns : List ModuleNode) → HaveSameItems ms ns → HaveSameItems ns ms
same_back ms ns h k = sym (h k)

module _ (files : List File) where
  -- the name and place of the submodule by its item
  abbrev by_item_at : Option Place → Option (Name × Place)
  by_item_at item = option_and_then (λ place. option_map (λ name. (name, place)) (named_at files place)) item

  by_its_item : (node : Option ModuleNode) → option_and_then (λ n. by_item_at n.item) node ≡ by_item_at (item_of node)
  by_its_item None = refl
  by_its_item (Some n) = refl

  same_submodule : (ms ns : List ModuleNode) → HaveSameItems ms ns → (inner : ℕ) → submodule_at files ms inner ≡ submodule_at files ns inner
  same_submodule ms ns h inner = by_its_item (slice_get ms inner) ∙ ap by_item_at (h inner) ∙ sym (by_its_item (slice_get ns inner))

  stands_there : (os : Os) (range : FileRange) (ms ns : List ModuleNode) (submodules : List ℕ) → HaveSameItems ms ns → (kind : Kind) (name : Name) (place : Place) → Stands os files range ms submodules kind name place → Stands os files range ns submodules kind name place
  stands_there os range ms ns submodules h kind name place (inl f) = inl f
  stands_there os range ms ns submodules h kind name place (inr s) = inr (record { inner = s.inner; there = s.there; is = record { kind_is = s.is.kind_is; is = sym (same_submodule ms ns h s.inner) ∙ s.is.is } })

  definitions_there : (os : Os) (range : FileRange) (ms ns : List ModuleNode) (submodules : List ℕ) (ds : List Definition) → HaveSameItems ms ns → AreDefinitions (Stands os files range ms submodules) ds → AreDefinitions (Stands os files range ns submodules) ds
  definitions_there os range ms ns submodules ds h are = record {
    sound = λ d c. let p = are.sound d c in (stands_there os range ms ns submodules h d.kind d.name.now d.place p.0, p.1);
    complete = λ kind name place s. are.complete kind name place (stands_there os range ns ms submodules (same_back ms ns h) kind name place s);
  }

  module _ (os : Os) (unstable : Bool) (ms ns : List ModuleNode) (same : HaveSameItems ms ns) (node : ModuleNode) where
    are_there : (ds : List Definition) → AreDefinitionsOf os unstable files ms node ds → AreDefinitionsOf os unstable files ns node ds
    are_there ds are = record {
      each = definitions_there os (range_of node) ms ns node.submodules.items ds same are.each;
      order = are.order;
      apart = λ own. are.apart (λ i j inner other place e f a b. own i j inner other place e f (a.0, sym (same_submodule ms ns same inner) ∙ a.1) (b.0, sym (same_submodule ms ns same other) ∙ b.1));
    }

    keeps_there : (kept : List Definition) → Keeps os unstable files ms node kept → Keeps os unstable files ns node kept
    keeps_there kept k = record { definitions = k.definitions; are = are_there k.definitions k.are; keeps = k.keeps }

    pub refused_there : (error : Error) → IsRefused os unstable files ms node error → IsRefused os unstable files ns node error
    refused_there error r = record { definitions = r.definitions; are = are_there r.definitions r.are; refused = r.refused }

    pub filled_there : (new : ModuleNode) → IsFilled os unstable files ms node new → IsFilled os unstable files ns node new
    filled_there new f = record { kept = f.kept; keeps = keeps_there f.kept f.keeps; gains = f.gains }

-- ---- one module after the other

-- the lists of the first modules are filled, the others are as they were
pub record AreFilledBelow (os : Os) (unstable : Bool) (first now : Compilation) (count : ℕ) : Type 0 where
  pub files : now.files.items ≡ first.files.items
  pub as_many : length now.modules.items ≡ length first.modules.items
  pub done : (k : ℕ) (node : ModuleNode) → k < count → slice_get first.modules.items k ≡ Some node
      → (filled : ModuleNode) × (slice_get now.modules.items k ≡ Some filled) × IsFilled os unstable first.files.items first.modules.items node filled
  pub rest : (k : ℕ) → count ≤ k → slice_get now.modules.items k ≡ slice_get first.modules.items k

none_within : (ms : List ModuleNode) (k : ℕ) → slice_get ms k ≡ None → k < length ms → ⊥
none_within [] k e lt = omega arith
none_within (m ∷ ms) zero e lt = none-some m (sym e)
none_within (m ∷ ms) (suc k) e lt = none_within ms k e (omega arith)

module _ (os : Os) (unstable : Bool) (first now : Compilation) where
  pub none_filled : now.files.items ≡ first.files.items → now.modules.items ≡ first.modules.items → AreFilledBelow os unstable first now 0
  none_filled f m = record {
    files = f;
    as_many = ap length m;
    done = λ k node lt e. absurd (omega arith);
    rest = λ k le. ap (λ ms. slice_get ms k) m;
  }

  have_items : (count : ℕ) → AreFilledBelow os unstable first now count → HaveSameItems now.modules.items first.modules.items
  have_items count h k = elim (leb_tells count k) [
    | inl p ↦ ap item_of (h.rest k p.1)
    | inr p ↦ elim (slice_get first.modules.items k) as (λ o. slice_get first.modules.items k ≡ o → item_of (slice_get now.modules.items k) ≡ item_of o) [
      | None ↦ λ e. ap item_of (gone k e)
      | Some node ↦ λ e. let d = h.done k node (let lt = p.1 in omega arith) e in ap item_of d.1 ∙ d.2.gains.same.item
    ] refl
  ]
    where
      gone : (k : ℕ) → slice_get first.modules.items k ≡ None → slice_get now.modules.items k ≡ None
      gone k e = elim (leb_tells (length now.modules.items) k) [
        | inl p ↦ slice_get_past now.modules.items k p.1
        | inr p ↦ let lt = p.1 in let l = h.as_many in absurd (none_within first.modules.items k e (omega arith))
      ]

module _ (os : Os) (unstable : Bool) (first now : Compilation) (count : ℕ) (h : AreFilledBelow os unstable first now count) where
  pub filled_more : (next : Compilation) → next.files.items ≡ now.files.items
      → IsChangedAt count (IsFilled os unstable now.files.items now.modules.items) now.modules.items next.modules.items → AreFilledBelow os unstable first next (count + 1)
  filled_more next f c = record {
    files = f ∙ h.files;
    as_many = c.count ∙ h.as_many;
    done = more;
    rest = λ k le. c.others k (λ e. let le' = le in omega arith) ∙ h.rest k (let le' = le in omega arith);
  }
    where
      more : (k : ℕ) (node : ModuleNode) → k < count + 1 → slice_get first.modules.items k ≡ Some node
          → (filled : ModuleNode) × (slice_get next.modules.items k ≡ Some filled) × IsFilled os unstable first.files.items first.modules.items node filled
      more k node lt e = elim (eqb_tells k count) [
        | inl p ↦
            let t = c.changed node (h.rest count (omega arith) ∙ ap (slice_get first.modules.items) (sym p.1) ∙ e) in
            let there : IsFilled os unstable now.files.items first.modules.items node t.0 = filled_there now.files.items os unstable now.modules.items first.modules.items (have_items os unstable first now count h) node t.0 t.2 in
            (t.0, ap (slice_get next.modules.items) p.1 ∙ t.1, subst (λ files. IsFilled os unstable files first.modules.items node t.0) h.files there)
        | inr p ↦
            let ne : k ≢ count = p.1 in
            let d = h.done k node (omega arith) e in
            (d.0, c.others k ne ∙ d.1, d.2)
      ]

  pub first_refused : (error : Error) → OrMemory (λ e. (node : ModuleNode) × (slice_get now.modules.items count ≡ Some node) × IsRefused os unstable now.files.items now.modules.items node e) error → OrMemory (IsFirstRefused os unstable first) error
  first_refused error (inl m) = inl m
  first_refused error (inr (node, e, r)) =
      let there : IsRefused os unstable now.files.items first.modules.items node error = refused_there now.files.items os unstable now.modules.items first.modules.items (have_items os unstable first now count h) node error r in
      inr (record {
        place = count;
        node = node;
        found = sym (h.rest count (omega arith)) ∙ e;
        earlier = λ k other lt at. let d = h.done k other lt at in (d.2.kept, d.2.keeps);
        refused = subst (λ files. IsRefused os unstable files first.modules.items node error) h.files there;
      })

  pub all_filled : length first.modules.items ≤ count → AreFilled os unstable first now
  all_filled le = record {
    files = h.files;
    count = h.as_many;
    each = λ k node e. h.done k node (let lt = slice_get_within first.modules.items k node e in omega arith) e;
  }

-- ---- all modules

same_range : (before after : ModuleNode) → after.first_file ≡ before.first_file → after.end_file ≡ before.end_file → range_of before ≡ range_of after
same_range before after f e = ap₂ (λ first end. record { first = first; end = end }) (sym f) (sym e)

pub filled_whole : (os : Os) (unstable : Bool) (before after : Compilation) → AreFilled os unstable before after → AreWhole os unstable after
filled_whole os unstable before after h k node e = elim (slice_get_cases before.modules.items k).1 [
  | inl p ↦
      let t = h.each k p.0 p.2 in
      let same : t.0 ≡ node = same_Some t.0 node (sym t.1 ∙ e) in
      let range : range_of p.0 ≡ range_of node = same_range p.0 t.0 t.2.gains.same.first_file t.2.gains.same.end_file ∙ ap range_of same in
      subst (λ r. IsWhole os unstable after.files.items r) range (subst (λ files. IsWhole os unstable files (range_of p.0)) (sym h.files) t.2.keeps.keeps.whole)
  | inr p ↦ let le = p.0 in let lt = slice_get_within after.modules.items k node e in let count = h.count in absurd (omega arith)
]

-- what holds where an outcome is no refusal
pub ends_so : (P : Compilation → Type 0) (after : Compilation) {U : Type 0} (outcome : Result U Error) (r : Result Compilation Error) → r ≡ unless_refused after outcome → OnOk outcome (P after) → IfOk r P
ends_so P after (Ok done) r e h = subst (λ o. IfOk o P) (sym e) h
ends_so P after (Err refused) r e h = subst (λ o. IfOk o P) (sym e) tt

-- what holds of the refusal that an outcome is
pub ends_refused : (P : Error → Type 0) (after : Compilation) {U : Type 0} (outcome : Result U Error) (r : Result Compilation Error) → r ≡ unless_refused after outcome → IfErr outcome P → IfErr r P
ends_refused P after (Ok done) r e h = subst (λ o. IfErr o P) (sym e) tt
ends_refused P after (Err refused) r e h = subst (λ o. IfErr o P) (sym e) h

-- ---- one module is changed

module _ {X : Type 0} where
  other_stays : (xs : List X) (i k : ℕ) (x : X) → k ≢ i → slice_get (slice_set xs i x) k ≡ slice_get xs k
  other_stays [] i k x ne = refl
  other_stays (y ∷ ys) zero zero x ne = absurd (ne refl)
  other_stays (y ∷ ys) zero (suc k) x ne = refl
  other_stays (y ∷ ys) (suc i) zero x ne = refl
  other_stays (y ∷ ys) (suc i) (suc k) x ne = other_stays ys i k x (λ e. ne (ap suc e))

  new_there : (xs : List X) (i : ℕ) (x y : X) → slice_get xs i ≡ Some y → slice_get (slice_set xs i x) i ≡ Some x
  new_there [] i x y e = absurd (none-some y e)
  new_there (z ∷ zs) zero x y e = refl
  new_there (z ∷ zs) (suc i) x y e = new_there zs i x y e

pub changed_at : (IsSo : ModuleNode → ModuleNode → Type 0) (ms : List ModuleNode) (place : ℕ) (node new : ModuleNode) → slice_get ms place ≡ Some node → IsSo node new → IsChangedAt place IsSo ms (slice_set ms place new)
changed_at IsSo ms place node new at is = record {
  count = length-set ms place new;
  others = λ k ne. other_stays ms place k new ne;
  changed = λ other e. (new, new_there ms place new node at, subst (λ n. IsSo n new) (same_Some node other (sym at ∙ e)) is);
}

pub not_changed : (IsSo : ModuleNode → ModuleNode → Type 0) (ms : List ModuleNode) (place : ℕ) → slice_get ms place ≡ None → IsChangedAt place IsSo ms ms
not_changed IsSo ms place at = record {
  count = refl;
  others = λ k ne. refl;
  changed = λ node e. absurd (none-some node (sym at ∙ e));
}

pub changed_gives : (IsSo IsToo : ModuleNode → ModuleNode → Type 0) (before after : List ModuleNode) (place : ℕ) → ((node new : ModuleNode) → slice_get before place ≡ Some node → IsSo node new → IsToo node new) → IsChangedAt place IsSo before after → IsChangedAt place IsToo before after
changed_gives IsSo IsToo before after place f c = record {
  count = c.count;
  others = c.others;
  changed = λ node e. let t = c.changed node e in (t.0, t.1, f node t.0 e t.2);
}

-- what is kept at the place is what the lists gain
pub filled_at : (os : Os) (unstable : Bool) (files : List File) (before after : List ModuleNode) (place : ℕ) (kept : List Definition) → ((node : ModuleNode) → slice_get before place ≡ Some node → Keeps os unstable files before node kept)
    → IsChangedAt place (λ node new. Gains [] node new kept) before after → IsChangedAt place (IsFilled os unstable files before) before after
filled_at os unstable files before after place kept keeps c =
    changed_gives (λ node new. Gains [] node new kept) (IsFilled os unstable files before) before after place (λ node new at gains. record { kept = kept; keeps = keeps node at; gains = gains }) c

-- ---- the files of a range

module _ {X : Type 0} (xs : List X) (first end from to : ℕ) where
  whole_end : to ≤ length xs → (end ≤ length xs → to ≡ end) → (length xs ≤ end → to ≡ length xs) → take to xs ≡ take end xs
  whole_end le short long = elim (leb_tells end (length xs)) [
    | inl p ↦ ap (λ n. take n xs) (short p.1)
    | inr p ↦ let lt = p.1 in let e = long (omega arith) in take_all to xs (omega arith) ∙ sym (take_all end xs (omega arith))
  ]

  whole_front : to ≤ length xs → (first ≤ to → from ≡ first) → (to ≤ first → from ≡ to) → drop from (take to xs) ≡ drop first (take to xs)
  whole_front le short long = elim (leb_tells first to) [
    | inl p ↦ ap (λ n. drop n (take to xs)) (short p.1)
    | inr p ↦
        let lt = p.1 in
        let e = long (omega arith) in
        let l = length-take-le to xs le in
        drop_all from (take to xs) (omega arith) ∙ sym (drop_all first (take to xs) (omega arith))
  ]

  pub range_taken : from ≤ to → to ≤ length xs → (end ≤ length xs → to ≡ end) → (length xs ≤ end → to ≡ length xs) → (first ≤ to → from ≡ first) → (to ≤ first → from ≡ to) → take (to - from) (drop from xs) ≡ drop first (take end xs)
  range_taken between le short_end long_end short long =
      let sum : from + (to - from) ≡ to = omega arith in
      sym (drop-take from (to - from) xs) ∙ ap (λ n. drop from (take n xs)) sum ∙ whole_front le short long ∙ ap (drop first) (whole_end le short_end long_end)

-- ---- a module and what it keeps

module _ (os : Os) (unstable : Bool) (files : List File) (modules : List ModuleNode) (node : ModuleNode) where
  module _ (ds : List Definition) (are : AreDefinitionsOf os unstable files modules node ds) where
    pub keeps_by : (kept : List Definition) → AreKeptOf os unstable files (range_of node) ds kept → Keeps os unstable files modules node kept
    keeps_by kept k = record { definitions = ds; are = are; keeps = k }

    pub refused_by : (error : Error) → OrMemory (AreRefusedIn os unstable files (range_of node) ds) error → OrMemory (IsRefused os unstable files modules node) error
    refused_by error (inl m) = inl m
    refused_by error (inr r) = inr (record { definitions = ds; are = are; refused = r })

  pub are_of : (submodules : List ℕ) (found ds : List Definition) → submodules ≡ node.submodules.items → ds ≡ found → AreDefinitions (Stands os files (range_of node) modules submodules) found → AreInOrder found → (HaveOwnItems files modules submodules → AreApart found) → AreDefinitionsOf os unstable files modules node ds
  are_of submodules found ds same is each order apart = subst (AreDefinitionsOf os unstable files modules node) (sym is) (record {
    each = subst (λ s. AreDefinitions (Stands os files (range_of node) modules s) found) same each;
    order = order;
    apart = λ own. apart (subst (HaveOwnItems files modules) (sym same) own);
  })

  module _ (place : ℕ) (at : slice_get modules place ≡ Some node) where
    pub keeps_at : (kept : List Definition) → Keeps os unstable files modules node kept → (other : ModuleNode) → slice_get modules place ≡ Some other → Keeps os unstable files modules other kept
    keeps_at kept k other e = subst (λ n. Keeps os unstable files modules n kept) (same_Some node other (sym at ∙ e)) k

    pub refused_at : (error : Error) → OrMemory (IsRefused os unstable files modules node) error → OrMemory (λ e. (n : ModuleNode) × (slice_get modules place ≡ Some n) × IsRefused os unstable files modules n e) error
    refused_at error (inl m) = inl m
    refused_at error (inr r) = inr (node, at, r)
