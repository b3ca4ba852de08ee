-- A module is loaded once for an item, and has files of its own.
use Rattle.std.proofs.Common.{◌≡◌, sym, ◌∙◌, ap, subst, inl, inr, ◌⊎◌, ◌<◌, ◌≤◌, ◌+◌, ◌-◌, ◌++◌, ◌∷◌, [], ℕ, zero, suc, List, Option, Some, None, refl, arith, length, length-append, map}
use Rattle.std.specs.Prelude.{slice_get}
use Rattle.std.proofs.lemmas.Bool.Decides.{leb_tells}
use Rattle.std.proofs.lemmas.Option.{none-some, same_Some, slice_get_within}
use Rattle.just_text.specs.declared.os.Os.{Os}
use Rattle.tree_items.specs.declared.ast.Item.{Item}
use Rattle.modules_compilation.specs.declared.module_node.File.{File as LoadedFile}
use Rattle.modules_compilation.specs.declared.module_node.ModuleNode.{ModuleNode}
use Rattle.modules_compilation.specs.declared.place.Place.{Place}
use Rattle.modules_files.specs.Chosen.{File}
use Rattle.modules_files.specs.declared.search.Files.{Files}
use Rattle.modules_sources.specs.Items.{ModuleParts, module_of}
use Rattle.modules_sources.specs.Loaded.{AllLoadedBelow, AreApart, AreCovered, AreLinked, AreOnce, AreSubmodules, AreUnloaded, HasRoot, IsSubmodule}
use Rattle.modules_sources.specs.Above.{HaveOwnFiles}
use Rattle.modules_sources.specs.Nodes.{IsNodeOf, IsNoted}
use Rattle.modules_sources.specs.Submodules.{Above, AreFound, found_none, found_more, AreWaiting, waiting_none, waiting_more, Found, Waiting, found_at, waiting, waiting_view}
use Rattle.modules_sources.specs.declared.queue.Pending.{Pending}
use Rattle.modules_sources.proofs.Closing.{came_from, goes_to, IsNotedNode, new_submodule, waiting_at}
use Rattle.modules_sources.proofs.Reaching.{append_cases, at_end, end_cases, kept_left, mapped_at}

-- ---- lists

-- what stands behind a list stands there without it
behind : {A : Type 0} (xs ys : List A) (i : ℕ) (a : A) → length xs ≤ i → slice_get (xs ++ ys) i ≡ Some a → slice_get ys (i - length xs) ≡ Some a
behind [] ys i a le e = let same : i ≡ i - 0 = omega arith in subst (λ n. slice_get ys n ≡ Some a) same e
behind (x ∷ xs) ys zero a le e = absurd (omega (arith, le))
behind (x ∷ xs) ys (suc i) a le e =
    let same : i - length xs ≡ suc i - suc (length xs) = omega arith in
    subst (λ n. slice_get ys n ≡ Some a) same (behind xs ys i a (omega (arith, le)) e)

-- elements that are told apart by what is seen of them, where those of the one list are seen apart from those of the other
apart_both : {A B : Type 0} (seen : A → B) (xs ys : List A) → ((i j : ℕ) (a b : A) → slice_get xs i ≡ Some a → slice_get xs j ≡ Some b → seen a ≡ seen b → i ≡ j)
    → ((i j : ℕ) (a b : A) → slice_get ys i ≡ Some a → slice_get ys j ≡ Some b → seen a ≡ seen b → i ≡ j) → ((i j : ℕ) (a b : A) → slice_get xs i ≡ Some a → slice_get ys j ≡ Some b → seen a ≡ seen b → ⊥)
    → (i j : ℕ) (a b : A) → slice_get (xs ++ ys) i ≡ Some a → slice_get (xs ++ ys) j ≡ Some b → seen a ≡ seen b → i ≡ j
apart_both seen xs ys left right across i j a b e f same = by_cases (append_cases xs ys i a e) (append_cases xs ys j b f)
  where
    by_cases : (slice_get xs i ≡ Some a) ⊎ ((length xs ≤ i) × ((k : ℕ) × (slice_get ys k ≡ Some a))) → (slice_get xs j ≡ Some b) ⊎ ((length xs ≤ j) × ((k : ℕ) × (slice_get ys k ≡ Some b))) → i ≡ j
    by_cases (inl p) (inl q) = left i j a b p q same
    by_cases (inl p) (inr q) = absurd (across i q.1.0 a b p q.1.1 same)
    by_cases (inr p) (inl q) = absurd (across j p.1.0 b a q p.1.1 (sym same))
    by_cases (inr p) (inr q) =
        let r = right (i - length xs) (j - length xs) a b (behind xs ys i a p.0 e) (behind xs ys j b q.0 f) same in
        let le = p.0 in
        let le' = q.0 in
        omega (arith, r, le, le')

-- ---- submodules of a file have items of their own

module _ (files : Files) (os : Os) (key : List ℕ) where
  one_at : (place : ℕ) (line : Option ModuleParts) (file : Option File) (i : ℕ) (f : Found) → slice_get (found_at place line file) i ≡ Some f → (i ≡ 0) × (f.item ≡ place)
  one_at place None file i f e = absurd (none-some f e)
  one_at place (Some line) None i f e = absurd (none-some f e)
  one_at place (Some line) (Some file) zero f e = (refl, ap (λ g. g.item) (sym (same_Some (record { file = file; item = place; name = line.0 }) f e)))
  one_at place (Some line) (Some file) (suc i) f e = absurd (none-some f e)

  item_before : {items : List Item} {found : List Found} → AreFound files os key items found → (i : ℕ) (f : Found) → slice_get found i ≡ Some f → f.item < length items
  item_before found_none i f e = absurd (none-some f e)
  item_before (found_more {items} {found} item file so gives) i f e = elim (append_cases found (found_at (length items) (module_of os item) file) i f e) [
    | inl p ↦ let lt = item_before so i f p in let many = length-append items (item ∷ []) in omega (arith, lt, many)
    | inr q ↦ let same = (one_at (length items) (module_of os item) file q.1.0 f q.1.1).1 in let many = length-append items (item ∷ []) in omega (arith, same, many)
  ]

  pub items_apart : {items : List Item} {found : List Found} → AreFound files os key items found → (i j : ℕ) (f g : Found) → slice_get found i ≡ Some f → slice_get found j ≡ Some g → f.item ≡ g.item → i ≡ j
  items_apart found_none i j f g e e' same = absurd (none-some f e)
  items_apart (found_more {items} {found} item file so gives) i j f g e e' same =
      let line = module_of os item in
      apart_both (λ f. f.item) found (found_at (length items) line file) (items_apart so)
      (λ i j a b e f same. (one_at (length items) line file i a e).0 ∙ sym (one_at (length items) line file j b f).0)
      (λ i j a b e f same. let lt = item_before so i a e in let at = (one_at (length items) line file j b f).1 in omega (arith, lt, at, same)) i j f g e e' same

-- ---- those that wait have items of their own

item_of : (lookup : Files) (os : Os) (all : List LoadedFile) (above : Above) (parent first : ℕ) {many : ℕ} {waits : List Waiting} → AreWaiting lookup os all above parent first many waits → (i : ℕ) (w : Waiting) → slice_get waits i ≡ Some w
    → (place : Place) × (w.item ≡ Some place) × (first ≤ place.file) × (place.file < first + many)
item_of lookup os all above parent first are i w e =
    let t = waiting_at lookup os all above parent first are i w e in
    (record { file = t.file; item = t.one.item }, ap (λ v. v.item) t.is, t.from, t.to)

pub waits_apart : (lookup : Files) (os : Os) (all : List LoadedFile) (above : Above) (parent first : ℕ) {many : ℕ} {waits : List Waiting} → AreWaiting lookup os all above parent first many waits
    → (i j : ℕ) (w other : Waiting) → slice_get waits i ≡ Some w → slice_get waits j ≡ Some other → w.item ≡ other.item → i ≡ j
waits_apart lookup os all above parent first waiting_none i j w other e there same = absurd (none-some w e)
waits_apart lookup os all above parent first (waiting_more {count} {earlier} {found} so below) i j w other at there same =
    apart_both (λ w. w.item) earlier (map (waiting (first + count) parent) found) (waits_apart lookup os all above parent first so)
    (λ i j a b e f same.
    let x = mapped_at (waiting (first + count) parent) found i a e in
    let y = mapped_at (waiting (first + count) parent) found j b f in
    items_apart lookup os _ below.found_all i j x.0 y.0 x.1 y.1 (same_item x.0 y.0 (ap (λ v. v.item) x.2 ∙ same ∙ ap (λ v. v.item) (sym y.2))))
    (λ i j a b e f same.
    let x = item_of lookup os all above parent first so i a e in
    let y = mapped_at (waiting (first + count) parent) found j b f in
    let lt = x.3 in
    let at = same_file x.0 y.0 (sym x.1 ∙ same ∙ ap (λ v. v.item) (sym y.2)) in
    omega (arith, lt, at)) i j w other at there same
  where
    same_item : (f g : Found) → ◌≡◌ {A = Option Place} (Some (record { file = first + count; item = f.item })) (Some (record { file = first + count; item = g.item })) → f.item ≡ g.item
    same_item f g e = ap (λ p. p.item) (same_Some (record { file = first + count; item = f.item }) (record { file = first + count; item = g.item }) e)

    same_file : (place : Place) (g : Found) → Some place ≡ Some (record { file = first + count; item = g.item }) → place.file ≡ first + count
    same_file place g e = ap (λ p. p.file) (same_Some place (record { file = first + count; item = g.item }) e)

-- ---- one module more

module _ (lookup : Files) (os : Os) (own : List ℕ) (files more : List LoadedFile) (modules after : List ModuleNode) (next : Pending) (node : ModuleNode) (waits left found : List Waiting) (above : Above)
    (within : (place : ℕ) (n : ModuleNode) → slice_get modules place ≡ Some n → n.end_file ≤ length files)
    (is : IsNodeOf next (length files) (length (files ++ more)) node)
    (noted : IsNoted next.parent (length modules) (modules ++ node ∷ []) after)
    (are : AreWaiting lookup os (files ++ more) above (length modules) (length files) (length (files ++ more) - length files) found)
    (whole : left ≡ waits ++ found) where
  abbrev Was : (k : ℕ) → ModuleNode → Type 0
  Was k m = (n : ModuleNode) × (slice_get (modules ++ node ∷ []) k ≡ Some n) × IsNotedNode next.parent (length modules) k n m

  was : (k : ℕ) (m : ModuleNode) → slice_get after k ≡ Some m → Was k m
  was k m e = came_from next.parent (length modules) (modules ++ node ∷ []) after noted k m e

  pub apart_further : AreApart modules → AreApart after
  apart_further h k l m later lt e f = by_cases (was k m e) (was l later f)
    where
      by_cases : Was k m → Was l later → m.end_file ≤ later.first_file
      by_cases (n, at, t) (o, there, u) =
          let end = t.same.end_file in
          let first = u.same.first_file in
          elim (end_cases modules node l o there) [
            | inl q ↦
                let within_l = slice_get_within modules l o q in
                elim (end_cases modules node k n at) [
                  | inl p ↦ let le = h k l n o lt p q in omega (arith, le, end, first)
                  | inr p ↦ let same = p.0 in absurd (omega (arith, same, lt, within_l))
                ]
            | inr q ↦
                let at_first = ap (λ x. x.first_file) (sym q.1) ∙ is.first_file in
                let at_l = q.0 in
                elim (end_cases modules node k n at) [
                  | inl p ↦ let le = within k n p in omega (arith, le, end, first, at_first)
                  | inr p ↦ let at_k = p.0 in absurd (omega (arith, at_k, at_l, lt))
                ]
          ]

  pub covered_further : AreCovered files modules → AreCovered (files ++ more) after
  covered_further h n lt = elim (leb_tells (length files) n) [
    | inl p ↦
        let t = goes_to next.parent (length modules) (modules ++ node ∷ []) after noted (length modules) node (at_end modules node) in
        let le = p.1 in
        let first = t.2.same.first_file ∙ is.first_file in
        let end = t.2.same.end_file ∙ is.end_file in
        (length modules, t.0, t.1, omega (arith, le, first), omega (arith, lt, end))
    | inr p ↦
        let before = p.1 in
        let c = h n (omega (arith, before)) in
        let t = goes_to next.parent (length modules) (modules ++ node ∷ []) after noted c.0 c.1 (kept_left modules (node ∷ []) c.0 c.1 c.2) in
        let from = c.3 in
        let to = c.4 in
        let first = t.2.same.first_file in
        let end = t.2.same.end_file in
        (c.0, t.0, t.1, omega (arith, from, first), omega (arith, to, end))
  ]

  module _ (root : HasRoot own modules) (below : AllLoadedBelow lookup os files modules) where
    -- what waited has an item of an earlier file
    item_earlier : (w : Waiting) → IsSubmodule lookup os files modules w → (place : Place) × (w.item ≡ Some place) × (place.file < length files)
    item_earlier w h =
        let le = within h.place h.node h.there in
        let to = h.to in
        (record { file = h.file; item = h.one.item }, ap (λ v. v.item) h.is, omega (arith, le, to))

    node_earlier : (k : ℕ) (n : ModuleNode) (place : Place) → slice_get modules k ≡ Some n → n.item ≡ Some place → place.file < length files
    node_earlier zero n place e f = absurd (none-some place (sym root.item ∙ ap (λ m. m.item) (same_Some root.node n (sym root.first ∙ e)) ∙ f))
    node_earlier (suc k) n place e f =
        let b = below k n e in
        let t = item_earlier b.submodule b.is in
        subst (λ p. p.file < length files) (same_Some t.0 place (sym t.1 ∙ sym b.loaded.item ∙ f)) t.2

    -- an item that is found isn't that of an earlier one
    found_later : (i : ℕ) (w : Waiting) (place : Place) → slice_get found i ≡ Some w → w.item ≡ Some place → place.file < length files → ⊥
    found_later i w place e f lt =
        let t = item_of lookup os (files ++ more) above (length modules) (length files) are i w e in
        let le = t.2 in
        let same = ap (λ p. p.file) (same_Some t.0 place (sym t.1 ∙ f)) in
        omega (arith, le, same, lt)

    module _ (submodules : AreSubmodules lookup os files modules (waits ++ waiting_view next ∷ [])) (once : AreOnce modules) (unloaded : AreUnloaded modules (waits ++ waiting_view next ∷ [])) where
      next_place : (place : Place) × (next.item ≡ Some place) × (place.file < length files)
      next_place = item_earlier (waiting_view next) (submodules (length waits) (waiting_view next) (at_end waits (waiting_view next)))

      next_unloaded : (k : ℕ) (n : ModuleNode) → slice_get modules k ≡ Some n → next.item ≡ n.item → ⊥
      next_unloaded k n e same = unloaded.unloaded (length waits) k (waiting_view next) n (at_end waits (waiting_view next)) e same

      pub once_further : AreOnce after
      once_further k l m other place e f has had = by_cases (was k m e) (was l other f)
        where
          by_cases : Was k m → Was l other → k ≡ l
          by_cases (n, at, t) (o, there, u) =
              let n_item = sym t.same.item ∙ has in
              let o_item = sym u.same.item ∙ had in
              elim (end_cases modules node k n at) [
                | inl p ↦ elim (end_cases modules node l o there) [
                  | inl q ↦ once k l n o place p q n_item o_item
                  | inr q ↦ absurd (next_unloaded k n p (sym is.item ∙ ap (λ x. x.item) q.1 ∙ o_item ∙ sym n_item))
                ]
                | inr p ↦ elim (end_cases modules node l o there) [
                  | inl q ↦ absurd (next_unloaded l o q (sym is.item ∙ ap (λ x. x.item) p.1 ∙ n_item ∙ sym o_item))
                  | inr q ↦ p.0 ∙ sym q.0
                ]
              ]

      waits_earlier : (i : ℕ) (w : Waiting) → slice_get waits i ≡ Some w → (place : Place) × (w.item ≡ Some place) × (place.file < length files)
      waits_earlier i w e = item_earlier w (submodules i w (kept_left waits (waiting_view next ∷ []) i w e))

      pub unloaded_further : AreUnloaded after left
      unloaded_further = record {
        each = λ i j w other e f same. apart_both (λ v. v.item) waits found
            (λ i j a b e f same. unloaded.each i j a b (kept_left waits (waiting_view next ∷ []) i a e) (kept_left waits (waiting_view next ∷ []) j b f) same)
            (waits_apart lookup os (files ++ more) above (length modules) (length files) are)
            (λ i j a b e f same. let t = waits_earlier i a e in found_later j b t.0 f (sym same ∙ t.1) t.2) i j w other (ap (λ ws. slice_get ws i) (sym whole) ∙ e) (ap (λ ws. slice_get ws j) (sym whole) ∙ f) same;
        unloaded = λ i k w m e f same. by_cases i k w m (append_cases waits found i w (ap (λ ws. slice_get ws i) (sym whole) ∙ e)) (was k m f) same;
      }
        where
          by_node : (i k : ℕ) (w : Waiting) (n : ModuleNode) → (slice_get waits i ≡ Some w) ⊎ ((length waits ≤ i) × ((j : ℕ) × (slice_get found j ≡ Some w))) → (slice_get modules k ≡ Some n) ⊎ ((k ≡ length modules) × (node ≡ n)) → w.item ≡ n.item → ⊥
          by_node i k w n (inl p) (inl q) same = unloaded.unloaded i k w n (kept_left waits (waiting_view next ∷ []) i w p) q same
          by_node i k w n (inl p) (inr q) same =
              let at = unloaded.each i (length waits) w (waiting_view next) (kept_left waits (waiting_view next ∷ []) i w p) (at_end waits (waiting_view next)) (same ∙ ap (λ x. x.item) (sym q.1) ∙ is.item) in
              let lt = slice_get_within waits i w p in
              omega (arith, at, lt)
          by_node i k w n (inr p) (inl q) same =
              let t = item_of lookup os (files ++ more) above (length modules) (length files) are p.1.0 w p.1.1 in
              found_later p.1.0 w t.0 p.1.1 t.1 (node_earlier k n t.0 q (sym same ∙ t.1))
          by_node i k w n (inr p) (inr q) same = found_later p.1.0 w next_place.0 p.1.1 (same ∙ ap (λ x. x.item) (sym q.1) ∙ is.item ∙ next_place.1) next_place.2

          by_cases : (i k : ℕ) (w : Waiting) (m : ModuleNode) → (slice_get waits i ≡ Some w) ⊎ ((length waits ≤ i) × ((j : ℕ) × (slice_get found j ≡ Some w))) → Was k m → w.item ≡ m.item → ⊥
          by_cases i k w m c (n, at, t) same = by_node i k w n c (end_cases modules node k n at) (same ∙ t.same.item)

-- the root's module alone
pub root_linked : (lookup : Files) (os : Os) (own : List ℕ) (files : List LoadedFile) (after : List ModuleNode) (root : Pending) (node : ModuleNode) (found : List Waiting) (above : Above) → root.parent ≡ None → HasRoot own after → length after ≡ 1
    → IsNodeOf root 0 (length files) node → IsNoted root.parent 0 (node ∷ []) after → AreWaiting lookup os files above 0 0 (length files - 0) found → HaveOwnFiles after → AreLinked lookup os files after found
root_linked lookup os own files after root node found above no_parent has many is noted are own_files = record {
  own_files = own_files;
  below = λ place m e. let lt = slice_get_within after (suc place) m e in absurd (omega (arith, lt, many));
  once = λ k l m other place e f has had.
      let lt = slice_get_within after k m e in
      let lt' = slice_get_within after l other f in
      omega (arith, lt, lt', many);
  apart = λ k l m later lt e f. let within = slice_get_within after l later f in absurd (omega (arith, within, lt, many));
  covered = λ n lt.
      let t = goes_to root.parent 0 (node ∷ []) after noted 0 node refl in
      let first = t.2.same.first_file ∙ is.first_file in
      let end = t.2.same.end_file ∙ is.end_file in
      (0, t.0, t.1, omega (arith, first), omega (arith, lt, end));
  submodules = λ i w e. new_submodule lookup os [] files [] after root node [] found found above (λ place n f. absurd (none-some n f)) (λ place n f. absurd (none-some n f)) (λ place n f. absurd (none-some n f))
      (λ place f. absurd (none-some place (sym no_parent ∙ f))) is noted are refl i w e;
  unloaded = record {
    each = waits_apart lookup os files above 0 0 are;
    unloaded = λ i k w m e f same. only i k w m e f (slice_get_within after k m f) same;
  };
}
  where
    only : (i k : ℕ) (w : Waiting) (m : ModuleNode) → slice_get found i ≡ Some w → slice_get after k ≡ Some m → k < length after → w.item ≡ m.item → ⊥
    only i zero w m e f lt same =
        let t = item_of lookup os files above 0 0 are i w e in
        none-some t.0 (sym has.item ∙ ap (λ n. n.item) (same_Some has.node m (sym has.first ∙ f)) ∙ sym same ∙ t.1)
    only i (suc k) w m e f lt same = omega (arith, lt, many)
