-- Submodules that wait or are loaded, as modules are loaded.
use Rattle.std.proofs.Common.{◌≡◌, sym, ◌∙◌, ap, subst, inl, inr, ◌⊎◌, ◌<◌, ◌≤◌, ◌+◌, ◌-◌, ◌++◌, ◌∷◌, [], ℕ, zero, suc, Bool, true, false, ◌||◌, List, Option, Some, None, refl, arith, length, map}
use Rattle.std.proofs.lemmas.Bool.{false≢true}
use Rattle.std.specs.Prelude.{slice_get}
use Rattle.std.specs.List.{list_any}
use Rattle.std.proofs.lemmas.Bool.Decides.{eqb_tells}
use Rattle.std.proofs.lemmas.Option.{none-some, same_Some, slice_get_within}
use Rattle.just_text.specs.declared.os.Os.{Os}
use Rattle.modules_compilation.specs.Places.{items_in, items_of}
use Rattle.modules_compilation.specs.declared.module_node.File.{File as LoadedFile}
use Rattle.modules_compilation.specs.declared.module_node.ModuleNode.{ModuleNode}
use Rattle.modules_files.specs.Found.{has_text}
use Rattle.modules_files.specs.declared.search.Files.{Files}
use Rattle.modules_sources.specs.Above.{AreAbove}
use Rattle.modules_sources.specs.Items.{key_of}
use Rattle.modules_sources.specs.Loaded.{AllFollowedUp, AllLoadedBelow, AreInner, AreSubmodules, IsFollowedUp, IsKnown, IsLoadedBelow, IsLoadedFor, IsSubmodule, HasRoot}
use Rattle.modules_sources.specs.Nodes.{HasOneMore, IsNodeOf, IsNoted}
use Rattle.modules_sources.specs.Submodules.{Above, AreFound, AreWaiting, Found, waiting_none, waiting_more, Waiting, waiting, waiting_view}
use Rattle.modules_sources.specs.declared.queue.Pending.{Pending}
use Rattle.modules_sources.proofs.Reaching.{append_cases, at_end, end_cases, kept_left, mapped_at, there_before}

there_behind : {A : Type 0} (xs ys : List A) (i : ℕ) (a : A) → slice_get ys i ≡ Some a → (j : ℕ) × (slice_get (xs ++ ys) j ≡ Some a)
there_behind [] ys i a e = (i, e)
there_behind (x ∷ xs) ys i a e = let r = there_behind xs ys i a e in (suc r.0, r.1)

-- the submodules of files are the same with more files behind them
pub waiting_stays : (lookup : Files) (os : Os) (files more : List LoadedFile) (above : Above) (parent first : ℕ) {many : ℕ} {waits : List Waiting} → AreWaiting lookup os files above parent first many waits → ((count : ℕ) → count < many → first + count < length files)
    → AreWaiting lookup os (files ++ more) above parent first many waits
waiting_stays lookup os files more above parent first waiting_none within = waiting_none
waiting_stays lookup os files more above parent first (waiting_more {count} {earlier} {found} so below) within =
    waiting_more (waiting_stays lookup os files more above parent first so (λ n lt. within n (omega (arith, lt)))) (record {
      found_all = subst (λ o. AreFound lookup os (key_of o) (items_of o) found) (sym (there_before files more (first + count) (within count (omega arith)))) below.found_all;
      below = below.below;
    })

or_parts : (a b : Bool) → (a || b) ≡ false → (a ≡ false) × (b ≡ false)
or_parts true b e = absurd (false≢true (sym e))
or_parts false b e = (refl, e)

-- where none passes a test, one of them doesn't
none_at : {A : Type 0} (p : A → Bool) (xs : List A) (i : ℕ) (x : A) → list_any p xs ≡ false → slice_get xs i ≡ Some x → p x ≡ false
none_at p [] i x none e = absurd (none-some x e)
none_at p (y ∷ ys) zero x none e = ap p (sym (same_Some y x e)) ∙ (or_parts (p y) (list_any p ys) none).0
none_at p (y ∷ ys) (suc i) x none e = none_at p ys i x (or_parts (p y) (list_any p ys) none).1 e

-- what waits is a submodule that one of so many files has, from the first on
pub record IsWaitingAt (lookup : Files) (os : Os) (all : List LoadedFile) (above : Above) (parent first many : ℕ) (w : Waiting) : Type 0 where
  pub file : ℕ
  pub from : first ≤ file
  pub to : file < first + many
  pub found : List Found
  pub are : AreFound lookup os (key_of (slice_get all file)) (items_in all file) found
  pub i : ℕ
  pub one : Found
  pub found_at : slice_get found i ≡ Some one
  pub is : w ≡ waiting file parent one
  pub below : has_text above one.file.0 ≡ false

pub waiting_at : (lookup : Files) (os : Os) (all : List LoadedFile) (above : Above) (parent first : ℕ) {many : ℕ} {waits : List Waiting} → AreWaiting lookup os all above parent first many waits → (i : ℕ) (w : Waiting) → slice_get waits i ≡ Some w
    → IsWaitingAt lookup os all above parent first many w
waiting_at lookup os all above parent first waiting_none i w e = absurd (none-some w e)
waiting_at lookup os all above parent first (waiting_more {count} {earlier} {found} so below) i w e = elim (append_cases earlier (map (waiting (first + count) parent) found) i w e) [
  | inl p ↦
      let t = waiting_at lookup os all above parent first so i w p in
      let to = t.to in
      record { file = t.file; from = t.from; to = omega (arith, to); found = t.found; are = t.are; i = t.i; one = t.one; found_at = t.found_at; is = t.is; below = t.below }
  | inr q ↦
      let t = mapped_at (waiting (first + count) parent) found q.1.0 w q.1.1 in
      record { file = first + count; from = omega arith; to = omega arith; found = found; are = below.found_all; i = q.1.0; one = t.0; found_at = t.1; is = sym t.2; below = none_at (λ s. has_text above s.file.0) found q.1.0 t.0 below.below t.1 }
]

-- ---- a submodule that is noted

-- a node is as it was but for its submodules
pub record SameApart (old new : ModuleNode) : Type 0 where
  pub parent : new.parent ≡ old.parent
  pub name : new.name ≡ old.name
  pub item : new.item ≡ old.item
  pub source : new.source ≡ old.source
  pub first_file : new.first_file ≡ old.first_file
  pub end_file : new.end_file ≡ old.end_file

same_apart : (node : ModuleNode) → SameApart node node
same_apart node = record { parent = refl; name = refl; item = refl; source = refl; first_file = refl; end_file = refl }

-- the node at a place has the submodule more if it is the parent
pub record IsNotedNode (parent : Option ℕ) (submodule place : ℕ) (old new : ModuleNode) : Type 0 where
  pub same : SameApart old new
  pub more : parent ≡ Some place → new.submodules.items ≡ old.submodules.items ++ submodule ∷ []
  pub none : (parent ≡ Some place → ⊥) → new.submodules.items ≡ old.submodules.items

one_more : (parent submodule : ℕ) (old new : ModuleNode) → HasOneMore submodule old new → IsNotedNode (Some parent) submodule parent old new
one_more parent submodule old new h = record {
  same = record {
    parent = ap (λ n. n.parent) h.others;
    name = ap (λ n. n.name) h.others;
    item = ap (λ n. n.item) h.others;
    source = ap (λ n. n.source) h.others;
    first_file = ap (λ n. n.first_file) h.others;
    end_file = ap (λ n. n.end_file) h.others;
  };
  more = λ e. ap (λ n. n.submodules.items) h.others ∙ h.items;
  none = λ apart. absurd (apart refl);
}

not_noted : (parent : Option ℕ) (submodule place : ℕ) (node : ModuleNode) → (parent ≡ Some place → ⊥) → IsNotedNode parent submodule place node node
not_noted parent submodule place node apart = record { same = same_apart node; more = λ e. absurd (apart e); none = λ n. refl }

-- where a node was, one is
pub goes_to : (parent : Option ℕ) (submodule : ℕ) (old new : List ModuleNode) → IsNoted parent submodule old new → (place : ℕ) (node : ModuleNode) → slice_get old place ≡ Some node
    → (after : ModuleNode) × (slice_get new place ≡ Some after) × IsNotedNode parent submodule place node after
goes_to None submodule old new is place node e = (node, ap (λ ns. slice_get ns place) is ∙ e, not_noted None submodule place node (λ f. absurd (cc f)))
goes_to (Some parent) submodule old new is place node e = elim (eqb_tells place parent) [
  | inl p ↦
      let t = is.noted node (ap (slice_get old) (sym p.1) ∙ e) in
      (t.0, ap (slice_get new) p.1 ∙ t.1, subst (λ n. IsNotedNode (Some parent) submodule n node t.0) (sym p.1) (one_more parent submodule node t.0 t.2))
  | inr p ↦ (node, is.others place p.1 ∙ e, not_noted (Some parent) submodule place node (λ f. p.1 (sym (same_Some parent place f))))
]

as_many : (parent : Option ℕ) (submodule : ℕ) (old new : List ModuleNode) → IsNoted parent submodule old new → length new ≡ length old
as_many None submodule old new is = ap length is
as_many (Some parent) submodule old new is = is.many

there_within : {A : Type 0} (xs : List A) (i : ℕ) → i < length xs → (a : A) × (slice_get xs i ≡ Some a)
there_within [] i lt = absurd (omega (arith, lt))
there_within (x ∷ xs) zero lt = (x, refl)
there_within (x ∷ xs) (suc i) lt = there_within xs i (omega (arith, lt))

-- where a node is, one was
pub came_from : (parent : Option ℕ) (submodule : ℕ) (old new : List ModuleNode) → IsNoted parent submodule old new → (place : ℕ) (after : ModuleNode) → slice_get new place ≡ Some after
    → (node : ModuleNode) × (slice_get old place ≡ Some node) × IsNotedNode parent submodule place node after
came_from parent submodule old new is place after e =
    let lt = slice_get_within new place after e in
    let many = as_many parent submodule old new is in
    let was = there_within old place (omega (arith, lt, many)) in
    let t = goes_to parent submodule old new is place was.0 was.1 in
    (was.0, was.1, subst (IsNotedNode parent submodule place was.0) (same_Some t.0 after (sym t.1 ∙ e)) t.2)

-- the root's module stays the first
pub root_still : (own : List ℕ) (next : Pending) (modules after : List ModuleNode) (node : ModuleNode) → IsNoted next.parent (length modules) (modules ++ node ∷ []) after → HasRoot own modules → HasRoot own after
root_still own next modules after node noted h =
    let t = goes_to next.parent (length modules) (modules ++ node ∷ []) after noted 0 h.node (kept_left modules (node ∷ []) 0 h.node h.first) in
    record { node = t.0; first = t.1; source = ap (λ s. s.now) t.2.same.source ∙ h.source; parent = t.2.same.parent ∙ h.parent; item = t.2.same.item ∙ h.item; name = t.2.same.name ∙ h.name }

-- a module that has no parent is the first of none
pub first_root : (root : Pending) (end : ℕ) (node : ModuleNode) (after : List ModuleNode) → root.parent ≡ None → root.item ≡ None → root.name ≡ None → IsNodeOf root 0 end node → IsNoted root.parent 0 (node ∷ []) after → HasRoot root.source.key.now after
first_root root end node after no_parent no_item no_name is noted =
    let t = goes_to root.parent 0 (node ∷ []) after noted 0 node refl in
    record { node = t.0; first = t.1; source = ap (λ s. s.now) (t.2.same.source ∙ is.source); parent = t.2.same.parent ∙ is.parent ∙ no_parent; item = t.2.same.item ∙ is.item ∙ no_item; name = t.2.same.name ∙ is.name ∙ no_name }

parent_or_not : (parent : Option ℕ) (place : ℕ) → (parent ≡ Some place) ⊎ (parent ≡ Some place → ⊥)
parent_or_not None place = inr (λ f. absurd (cc f))
parent_or_not (Some other) place = elim (eqb_tells other place) [
  | inl p ↦ inl (ap Some p.1)
  | inr p ↦ inr (λ f. p.1 (same_Some other place f))
]

-- ---- one module more

module _ (lookup : Files) (os : Os) (files more : List LoadedFile) (modules after : List ModuleNode) (next : Pending) (node : ModuleNode) (waits left found : List Waiting) (above : Above)
    (closed : AllFollowedUp lookup os files modules (waits ++ waiting_view next ∷ []))
    (within : (place : ℕ) (n : ModuleNode) → slice_get modules place ≡ Some n → n.end_file ≤ length files)
    (parents : (place : ℕ) (n : ModuleNode) → slice_get modules place ≡ Some n → (p : ℕ) → n.parent ≡ Some p → p < place)
    (below : (p : ℕ) → next.parent ≡ Some p → p < length modules)
    (is : IsNodeOf next (length files) (length (files ++ more)) node)
    (noted : IsNoted next.parent (length modules) (modules ++ node ∷ []) after)
    (are : AreWaiting lookup os (files ++ more) above (length modules) (length files) (length (files ++ more) - length files) found)
    (whole : left ≡ waits ++ found) where
  abbrev To : (place : ℕ) → ModuleNode → Type 0
  To place n = (m : ModuleNode) × (slice_get after place ≡ Some m) × IsNotedNode next.parent (length modules) place n m

  old_to : (place : ℕ) (n : ModuleNode) → slice_get modules place ≡ Some n → To place n
  old_to place n e = goes_to next.parent (length modules) (modules ++ node ∷ []) after noted place n (kept_left modules (node ∷ []) place n e)

  new_to : To (length modules) node
  new_to = goes_to next.parent (length modules) (modules ++ node ∷ []) after noted (length modules) node (at_end modules node)

  abbrev From : (place : ℕ) → ModuleNode → Type 0
  From place m = (n : ModuleNode) × (slice_get (modules ++ node ∷ []) place ≡ Some n) × IsNotedNode next.parent (length modules) place n m

  from : (place : ℕ) (m : ModuleNode) → slice_get after place ≡ Some m → From place m
  from place m e = came_from next.parent (length modules) (modules ++ node ∷ []) after noted place m e

  -- what was known is known
  known_still : (w : Waiting) → IsKnown modules (waits ++ waiting_view next ∷ []) w → IsKnown after left w
  known_still w (inl (i, e)) = elim (end_cases waits (waiting_view next) i w e) [
    | inl old ↦ inl (i, ap (λ ws. slice_get ws i) whole ∙ kept_left waits found i w old)
    | inr last ↦
        let t = new_to in
        inr (
          length modules,
          t.0,
          t.1,
          subst (λ v. IsLoadedFor v t.0) last.1 (record {
            source = ap (λ s. s.now) (t.2.same.source ∙ is.source);
            parent = t.2.same.parent ∙ is.parent;
            item = t.2.same.item ∙ is.item;
            name = t.2.same.name ∙ is.name;
          }),
        )
  ]
  known_still w (inr (place, m, e, h)) =
      let t = old_to place m e in
      inr (
        place,
        t.0,
        t.1,
        record {
          source = ap (λ s. s.now) t.2.same.source ∙ h.source;
          parent = t.2.same.parent ∙ h.parent;
          item = t.2.same.item ∙ h.item;
          name = t.2.same.name ∙ h.name;
        },
      )

  -- ---- a module that was there

  module _ (place : ℕ) (n m : ModuleNode) (at : slice_get modules place ≡ Some n) (t : IsNotedNode next.parent (length modules) place n m) where
    inner_kept : (i k : ℕ) → slice_get n.submodules.items i ≡ Some k → (j : ℕ) × (slice_get m.submodules.items j ≡ Some k)
    inner_kept i k e = elim (parent_or_not next.parent place) [
      | inl p ↦ (i, ap (λ xs. slice_get xs i) (t.more p) ∙ kept_left n.submodules.items (length modules ∷ []) i k e)
      | inr p ↦ (i, ap (λ xs. slice_get xs i) (t.none p) ∙ e)
    ]

    old_inner : AreInner modules place n → AreInner after place m
    old_inner h = record {
      listed = λ k c e parent. by_place k c parent (from k c e);
      only = λ i k e. elim (parent_or_not next.parent place) [
        | inl p ↦ by_last p i k (end_cases n.submodules.items (length modules) i k (ap (λ xs. slice_get xs i) (sym (t.more p)) ∙ e))
        | inr p ↦ was_inner k (h.only i k (ap (λ xs. slice_get xs i) (sym (t.none p)) ∙ e))
      ];
      once = λ i j k e f. elim (parent_or_not next.parent place) [
        | inl p ↦ by_lasts i j k (end_cases n.submodules.items (length modules) i k (ap (λ xs. slice_get xs i) (sym (t.more p)) ∙ e)) (end_cases n.submodules.items (length modules) j k (ap (λ xs. slice_get xs j) (sym (t.more p)) ∙ f))
        | inr p ↦ h.once i j k (ap (λ xs. slice_get xs i) (sym (t.none p)) ∙ e) (ap (λ xs. slice_get xs j) (sym (t.none p)) ∙ f)
      ];
    }
      where
        Child : ℕ → Type 0
        Child k = (c : ModuleNode) × (slice_get after k ≡ Some c) × (c.parent ≡ Some place)

        was_inner : (k : ℕ) → (c : ModuleNode) × (slice_get modules k ≡ Some c) × (c.parent ≡ Some place) → Child k
        was_inner k (c, e, parent) = let r = old_to k c e in (r.0, r.1, r.2.same.parent ∙ parent)

        by_last : next.parent ≡ Some place → (i k : ℕ) → (slice_get n.submodules.items i ≡ Some k) ⊎ ((i ≡ length n.submodules.items) × (length modules ≡ k)) → Child k
        by_last p i k (inl old) = was_inner k (h.only i k old)
        by_last p i k (inr last) = let r = new_to in subst Child last.1 (r.0, r.1, r.2.same.parent ∙ is.parent ∙ p)

        is_old : (i k : ℕ) → slice_get n.submodules.items i ≡ Some k → length modules ≡ k → ⊥
        is_old i k e same = let c = h.only i k e in let lt = slice_get_within modules k c.0 c.1 in omega (arith, lt, same)

        by_lasts : (i j k : ℕ) → (slice_get n.submodules.items i ≡ Some k) ⊎ ((i ≡ length n.submodules.items) × (length modules ≡ k)) → (slice_get n.submodules.items j ≡ Some k) ⊎ ((j ≡ length n.submodules.items) × (length modules ≡ k)) → i ≡ j
        by_lasts i j k (inl p) (inl q) = h.once i j k p q
        by_lasts i j k (inl p) (inr q) = absurd (is_old i k p q.1)
        by_lasts i j k (inr p) (inl q) = absurd (is_old j k q p.1)
        by_lasts i j k (inr p) (inr q) = p.0 ∙ sym q.0

        by_place : (k : ℕ) (c : ModuleNode) → c.parent ≡ Some place → From k c → (i : ℕ) × (slice_get m.submodules.items i ≡ Some k)
        by_place k c parent (b, e, r) = elim (end_cases modules node k b e) [
          | inl old ↦ let w = h.listed k b old (sym r.same.parent ∙ parent) in inner_kept w.0 k w.1
          | inr last ↦
              let p : next.parent ≡ Some place = sym is.parent ∙ ap (λ x. x.parent) last.1 ∙ sym r.same.parent ∙ parent in
              (length n.submodules.items, ap (λ xs. slice_get xs (length n.submodules.items)) (t.more p) ∙ at_end n.submodules.items (length modules) ∙ ap Some (sym last.0))
        ]

    followed_still : ((a : Above) → AreAbove modules place a → AreAbove after place a) → IsFollowedUp lookup os files modules (waits ++ waiting_view next ∷ []) place n → IsFollowedUp lookup os (files ++ more) after left place m
    followed_still still h =
        let first = t.same.first_file in
        let end = t.same.end_file in
        let stays = waiting_stays lookup os files more h.above place n.first_file h.are (λ count lt. let le = within place n at in omega (arith, lt, le)) in
        record {
          above = h.above;
          found = h.found;
          are = subst (λ f. AreWaiting lookup os (files ++ more) h.above place f (m.end_file - f) h.found) (sym first) (subst (λ e. AreWaiting lookup os (files ++ more) h.above place n.first_file (e - n.first_file) h.found) (sym end) stays);
          all_above = still h.above h.all_above;
          known = λ i w e. known_still w (h.known i w e);
          inner = old_inner h.inner;
        }

  -- ---- the module that is new

  new_followed : AreAbove after (length modules) above → (m : ModuleNode) → IsNotedNode next.parent (length modules) (length modules) node m → IsFollowedUp lookup os (files ++ more) after left (length modules) m
  new_followed all_are m t =
      let first = t.same.first_file ∙ is.first_file in
      let end = t.same.end_file ∙ is.end_file in
      record {
        above = above;
        found = found;
        are = subst (λ f. AreWaiting lookup os (files ++ more) above (length modules) f (m.end_file - f) found) (sym first) (subst (λ e. AreWaiting lookup os (files ++ more) above (length modules) (length files) (e - length files) found) (sym end) are);
        all_above = all_are;
        known = λ i w e. let r = there_behind waits found i w e in inl (r.0, ap (λ ws. slice_get ws r.0) whole ∙ r.1);
        inner = record {
          listed = λ k c e parent. absurd (by_place k c parent (from k c e));
          only = λ i k e. absurd (none-some k (sym (ap (λ xs. slice_get xs i) (t.none alone ∙ is.submodules)) ∙ e));
          once = λ i j k e f. absurd (none-some k (sym (ap (λ xs. slice_get xs i) (t.none alone ∙ is.submodules)) ∙ e));
        };
      }
    where
      alone : next.parent ≡ Some (length modules) → ⊥
      alone e = let lt = below (length modules) e in omega (arith, lt)

      by_place : (k : ℕ) (c : ModuleNode) → c.parent ≡ Some (length modules) → From k c → ⊥
      by_place k c parent (b, e, r) = elim (end_cases modules node k b e) [
        | inl old ↦
            let lt = parents k b old (length modules) (sym r.same.parent ∙ parent) in
            let in_modules = slice_get_within modules k b old in
            omega (arith, lt, in_modules)
        | inr last ↦ alone (sym is.parent ∙ ap (λ x. x.parent) last.1 ∙ sym r.same.parent ∙ parent)
      ]

  pub followed_further : ((place : ℕ) (a : Above) → place < length modules → AreAbove modules place a → AreAbove after place a) → AreAbove after (length modules) above → AllFollowedUp lookup os (files ++ more) after left
  followed_further still all_are place m e = by_place (from place m e)
    where
      by_place : From place m → IsFollowedUp lookup os (files ++ more) after left place m
      by_place (n, at, t) = elim (end_cases modules node place n at) [
        | inl old ↦ followed_still place n m old t (λ a h. still place a (slice_get_within modules place n old) h) (closed place n old)
        | inr last ↦
            let there : IsNotedNode next.parent (length modules) (length modules) node m = subst (λ p. IsNotedNode next.parent (length modules) p node m) last.0 (subst (λ b. IsNotedNode next.parent (length modules) place b m) (sym last.1) t) in
            subst (λ p. IsFollowedUp lookup os (files ++ more) after left p m) (sym last.0) (new_followed all_are m there)
      ]

  -- ---- submodules that wait, and modules that are loaded for one

  submodule_still : (w : Waiting) → IsSubmodule lookup os files modules w → IsSubmodule lookup os (files ++ more) after w
  submodule_still w h =
      let t = old_to h.place h.node h.there in
      let le = within h.place h.node h.there in
      let from = h.from in
      let to = h.to in
      let first = t.2.same.first_file in
      let end = t.2.same.end_file in
      record {
        place = h.place;
        node = t.0;
        there = t.1;
        file = h.file;
        from = omega (arith, from, first);
        to = omega (arith, to, end);
        found = h.found;
        are = subst (λ o. AreFound lookup os (key_of o) (items_of o) h.found) (sym (there_before files more h.file (omega (arith, to, le)))) h.are;
        i = h.i;
        one = h.one;
        found_at = h.found_at;
        is = h.is;
      }

  pub new_submodule : (i : ℕ) (w : Waiting) → slice_get found i ≡ Some w → IsSubmodule lookup os (files ++ more) after w
  new_submodule i w e =
      let t = new_to in
      let h = waiting_at lookup os (files ++ more) above (length modules) (length files) are i w e in
      let from = h.from in
      let to = h.to in
      let first = t.2.same.first_file ∙ is.first_file in
      let end = t.2.same.end_file ∙ is.end_file in
      record {
        place = length modules;
        node = t.0;
        there = t.1;
        file = h.file;
        from = omega (arith, from, first);
        to = omega (arith, from, to, end);
        found = h.found;
        are = h.are;
        i = h.i;
        one = h.one;
        found_at = h.found_at;
        is = h.is;
      }

  pub submodules_further : AreSubmodules lookup os files modules (waits ++ waiting_view next ∷ []) → AreSubmodules lookup os (files ++ more) after left
  submodules_further old i w e = elim (append_cases waits found i w (ap (λ ws. slice_get ws i) (sym whole) ∙ e)) [
    | inl p ↦ submodule_still w (old i w (kept_left waits (waiting_view next ∷ []) i w p))
    | inr q ↦ new_submodule q.1.0 w q.1.1
  ]

  pub below_further : AllLoadedBelow lookup os files modules → IsSubmodule lookup os files modules (waiting_view next) → AllLoadedBelow lookup os (files ++ more) after
  below_further old submodule place m e = by_place (from (suc place) m e)
    where
      by_place : From (suc place) m → IsLoadedBelow lookup os (files ++ more) after m
      by_place (n, at, t) = elim (end_cases modules node (suc place) n at) [
        | inl was ↦
            let h = old place n was in
            record {
              submodule = h.submodule;
              is = submodule_still h.submodule h.is;
              loaded = record {
                source = ap (λ s. s.now) t.same.source ∙ h.loaded.source;
                parent = t.same.parent ∙ h.loaded.parent;
                item = t.same.item ∙ h.loaded.item;
                name = t.same.name ∙ h.loaded.name;
              };
            }
        | inr last ↦
            record {
              submodule = waiting_view next;
              is = submodule_still (waiting_view next) submodule;
              loaded = record {
                source = ap (λ s. s.now) (t.same.source ∙ ap (λ x. x.source) (sym last.1) ∙ is.source);
                parent = t.same.parent ∙ ap (λ x. x.parent) (sym last.1) ∙ is.parent;
                item = t.same.item ∙ ap (λ x. x.item) (sym last.1) ∙ is.item;
                name = t.same.name ∙ ap (λ x. x.name) (sym last.1) ∙ is.name;
              };
            }
      ]
