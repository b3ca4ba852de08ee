-- Modules that keep what they define are a compilation.
use Rattle.std.proofs.Common.{◌≡◌, sym, ◌∙◌, ap, subst, inl, inr, ◌<◌, ◌≤◌, ◌-◌, ◌++◌, ◌∷◌, [], ℕ, zero, suc, List, Option, Some, None, refl, arith, length, map, take, drop}
use Rattle.std.specs.Prelude.{slice_get, option_map, get_or}
use Rattle.std.specs.List.Sorted.{IsStrictlySortedBy}
use Rattle.std.specs.declared.cmp.Ordering.TheVariants.{Less}
use Rattle.std.specs.Ordering.{ordering_reverse}
use Rattle.std.proofs.lemmas.Cmp.{nat_list_cmp_total}
use Rattle.std.proofs.lemmas.List.{length-map}
use Rattle.std.proofs.lemmas.Map.Keys.{Less-from_sorted}
use Rattle.std.proofs.lemmas.Option.{get_or_from_slice_get, same_Some, slice_get_within}
use Rattle.std.proofs.lemmas.Bool.Decides.{eqb_tells, leb_tells}
use Rattle.just_text.specs.declared.os.Os.{Os}
use Rattle.modules_compilation.specs.Tables.{text_cmp}
use Rattle.modules_compilation.specs.declared.module_node.File.{File}
use Rattle.modules_compilation.specs.declared.module_node.ModuleNode.{ModuleNode}
use Rattle.modules_definitions.specs.Lists.{IsSameModule}
use Rattle.modules_sources.proofs.Reaching.{mapped_at}
use Rattle.meaning_rules.specs.Worlds.Given.{Text, World, filled}
use Rattle.meaning_rules.specs.Worlds.Sources.{IsDepth, MayMean}
use Rattle.meaning_rules.specs.Worlds.Modules.{IsModule, IsReadingOrder}
use Rattle.meaning_rules.specs.Worlds.Compiled.{AreFiles, AreInner, FileView, HasItem, HasPath, IsCompiled, IsNode, NodeView, root as root_path, inside as inside_path}
use Rattle.meaning_rules.proofs.Worlds.Places.{place_of}
use Rattle.laws_modules.specs.Files.Files.{AreFiles as AreFilesOf, keys_of}
use Rattle.meaning_rules.specs.Worlds.Views.{file_view, name_text, node_view}
use Rattle.laws_modules.specs.Definitions.Laws.{ListsAreMeant, SubmodulesAreMeant}
use Rattle.laws_modules.proofs.Modules.Ranges.{from_range, in_range, mapped, there_within}
use Rattle.laws_modules.specs.Compiled.Filled.{AreFilled}

-- ---- lists

-- a part of a list from a place on, cut at both ends
cut_both : {A : Type 0} (first end : ℕ) (xs : List A) → take (end - first) (drop first xs) ≡ drop first (take end xs)
cut_both zero end xs = let same : end - 0 ≡ end = omega arith in ap (λ n. take n xs) same
cut_both (suc first) zero xs = let none : 0 - suc first ≡ 0 = omega arith in ap (λ n. take n (drop (suc first) xs)) none
cut_both {A} (suc first) (suc end) [] = nothing (suc end - suc first)
  where
    none : List A
    none = []

    nothing : (n : ℕ) → take n none ≡ none
    nothing zero = refl
    nothing (suc n) = refl
cut_both (suc first) (suc end) (x ∷ xs) = let same : suc end - suc first ≡ end - first = omega arith in ap (λ n. take n (drop first xs)) same ∙ cut_both first end xs

map_take : {A B : Type 0} (f : A → B) (n : ℕ) (xs : List A) → take n (map f xs) ≡ map f (take n xs)
map_take f zero xs = refl
map_take f (suc n) [] = refl
map_take f (suc n) (x ∷ xs) = ap (λ ys. f x ∷ ys) (map_take f n xs)

map_drop : {A B : Type 0} (f : A → B) (n : ℕ) (xs : List A) → drop n (map f xs) ≡ map f (drop n xs)
map_drop f zero xs = refl
map_drop f (suc n) [] = refl
map_drop f (suc n) (x ∷ xs) = map_drop f n xs

-- a path is not empty behind a name, and has one last name
snoc_empty : (path : List Text) (name : Text) → [] ≡ path ++ name ∷ [] → ⊥
snoc_empty [] name e = absurd (cc e)
snoc_empty (x ∷ path) name e = absurd (cc e)

snoc_same : (path path' : List Text) (name name' : Text) → path ++ name ∷ [] ≡ path' ++ name' ∷ [] → (path ≡ path') × (name ≡ name')
snoc_same [] [] name name' e = let same : name ≡ name' = cc e in (refl, same)
snoc_same [] (y ∷ path') name name' e = let none : [] ≡ path' ++ name' ∷ [] = cc e in absurd (snoc_empty path' name' none)
snoc_same (x ∷ path) [] name name' e = let none : path ++ name ∷ [] ≡ [] = cc e in absurd (snoc_empty path name (sym none))
snoc_same (x ∷ path) (y ∷ path') name name' e =
    let first : x ≡ y = cc e in
    let others : path ++ name ∷ [] ≡ path' ++ name' ∷ [] = cc e in
    let r = snoc_same path path' name name' others in
    (ap (λ z. z ∷ path) first ∙ ap (λ p. y ∷ p) r.0, r.1)

irreflexive : (name : Text) → text_cmp name name ≡ Less → ⊥
irreflexive name e = absurd (cc (sym e ∙ nat_list_cmp_total.antisymm name name ∙ ap ordering_reverse e))

-- names in strict order are told apart by their places
one_place : (names : List Text) (i j : ℕ) (name : Text) → IsStrictlySortedBy text_cmp names → slice_get names i ≡ Some name → slice_get names j ≡ Some name → i ≡ j
one_place names i j name sorted e f = elim (eqb_tells i j) [
  | inl p ↦ p.1
  | inr p ↦ elim (leb_tells i j) [
    | inl q ↦ let apart = p.1 in let le = q.1 in absurd (not_less (below i j apart le) e f)
    | inr q ↦ let lt = q.1 in absurd (not_less (omega (arith, lt)) f e)
  ]
]
  where
    below : (a b : ℕ) → (a ≡ b → ⊥) → a ≤ b → a < b
    below zero zero apart le = absurd (apart refl)
    below zero (suc b) apart le = omega arith
    below (suc a) zero apart le = absurd (omega (arith, le))
    below (suc a) (suc b) apart le = let lt = below a b (λ s. apart (ap suc s)) (omega (arith, le)) in omega (arith, lt)

    not_less : {a b : ℕ} → a < b → slice_get names a ≡ Some name → slice_get names b ≡ Some name → ⊥
    not_less {a} {b} lt at there =
        let within = slice_get_within names b name there in
        let less = Less-from_sorted text_cmp names a b name sorted lt within in
        let same : text_cmp name name ≡ Less = sym (ap (λ x. text_cmp x name) (get_or_from_slice_get names a name name at)) ∙ sym (ap (text_cmp (get_or names a name)) (get_or_from_slice_get names b name name there)) ∙ less in
        irreflexive name same

-- ---- the modules afterwards

module _ (lists_law : ListsAreMeant) (submodules_law : SubmodulesAreMeant) (w : World) (os : Os) (files : List File) (before after : List ModuleNode) (h : AreFilled w os files before after) where
  abbrev views : List FileView
  views = map file_view files

  abbrev old : List NodeView
  old = map node_view before

  abbrev new : List NodeView
  new = map node_view after

  was : (k : ℕ) (a : ModuleNode) → slice_get after k ≡ Some a → (b : ModuleNode) × (slice_get before k ≡ Some b) × IsSameModule b a
  was k a e =
      let lt = slice_get_within after k a e in
      let many = h.same.count in
      let b = there_within before k (omega (arith, lt, many)) in
      let t = h.same.each k b.0 b.1 in
      (b.0, b.1, subst (IsSameModule b.0) (same_Some t.0 a (sym t.1 ∙ e)) t.2)

  node_still : (k : ℕ) (v : NodeView) → slice_get old k ≡ Some v → (b a : ModuleNode) × (slice_get before k ≡ Some b) × (slice_get after k ≡ Some a) × IsSameModule b a × (node_view b ≡ v)
  node_still k v e =
      let b = mapped_at node_view before k v e in
      let t = h.same.each k b.0 b.1 in
      (b.0, t.0, b.1, t.1, t.2, b.2)

  path_still : (k : ℕ) (path : List Text) → HasPath w views old k path → HasPath w views new k path
  path_still _ _ (root_path {node} e parent) =
      let t = node_still 0 node e in
      root_path (mapped node_view after 0 t.1 t.3) (t.4.parent ∙ ap (λ v. v.parent) t.5 ∙ parent)
  path_still _ _ (inside_path {k} {p} {node} {path} {name} e parent lt named above) =
      let t = node_still k node e in
      inside_path (mapped node_view after k t.1 t.3) (t.4.parent ∙ ap (λ v. v.parent) t.5 ∙ parent) lt (ap (option_map name_text) t.4.name ∙ ap (λ v. v.name) t.5 ∙ named) (path_still p path above)

  item_still : (b a : ModuleNode) → IsSameModule b a → HasItem w views old (node_view b) b.parent → HasItem w views new (node_view a) a.parent
  item_still b a same item = subst (HasItem w views new (node_view a)) (sym same.parent) (by_parent b.parent item)
    where
      by_parent : (o : Option ℕ) → HasItem w views old (node_view b) o → HasItem w views new (node_view a) o
      by_parent None (no_item, no_name) = (same.item ∙ no_item, ap (option_map name_text) same.name ∙ no_name)
      by_parent (Some p) (above, there, i) =
          let t = node_still p above there in
          let first : t.1.first_file ≡ above.first_file = t.4.first_file ∙ ap (λ v. v.first_file) t.5 in
          let end : t.1.end_file ≡ above.end_file = t.4.end_file ∙ ap (λ v. v.end_file) t.5 in
          let from = i.there.from in
          let to = i.there.to in (
            node_view t.1,
            mapped node_view after p t.1 t.3,
            record {
              place = i.place;
              is = same.item ∙ i.is;
              key = i.key;
              at = i.at;
              attributes = i.attributes;
              line = i.line;
              there = record { from = omega (arith, from, first); to = omega (arith, to, end); file = i.there.file; found = i.there.found; is = i.there.is; there = i.there.there; no_blank = i.there.no_blank; rank = i.there.rank };
              enabled_here = i.enabled_here;
              named = ap (option_map name_text) same.name ∙ i.named;
              means = subst (MayMean w i.key i.line) (ap (λ s. s.now) (sym same.source)) i.means;
            },
          )

  inner : (k : ℕ) (a : ModuleNode) → slice_get after k ≡ Some a → AreInner w views new k a.submodules.items
  inner k a e =
      let b = was k a e in
      let f = h.each k b.0 a b.1 e in
      submodules_law w os files before after k b.0 a f.definitions f.kept f.settled (h.children k b.0 b.1) h.same f.gains

  -- the files of a node
  node_files : (k : ℕ) (a : ModuleNode) (b : ModuleNode) → slice_get before k ≡ Some b → IsSameModule b a → AreFilesOf w k b.source.now (drop b.first_file (take b.end_file files)) → b.end_file ≤ length files → AreFiles w views new k (node_view a)
  node_files k a b at same own le =
      let first = same.first_file in
      let end = same.end_file in
      let few = length-map files file_view in
      let cut : take (a.end_file - a.first_file) (drop a.first_file views) ≡ map file_view (drop b.first_file (take b.end_file files)) =
      ap (λ n. take (a.end_file - n) (drop n views)) first ∙ ap (λ n. take (n - b.first_file) (drop b.first_file views)) end ∙ cut_both b.first_file b.end_file views ∙ ap (drop b.first_file) (map_take file_view b.end_file files)
      ∙ map_drop file_view b.first_file (take b.end_file files) in
      let source = ap (λ s. s.now) (sym same.source) in
      let top = own.order.first in
      record {
        some = first_there top;
        within = omega (arith, le, end, few);
        order = subst (λ s. IsReadingOrder w s (map (λ f. f.key) (take (a.end_file - a.first_file) (drop a.first_file views)))) source
            (subst (λ fs. IsReadingOrder w b.source.now (map (λ f. f.key) fs)) (sym cut) (subst (IsReadingOrder w b.source.now) (sym (keys_same (drop b.first_file (take b.end_file files)))) own.order));
        each = λ i v e.
            let f = mapped_at file_view (drop b.first_file (take b.end_file files)) i v (sym (ap (λ fs. slice_get fs i) cut) ∙ e) in
            let is = own.each i f.0 f.1 in
            (sym (ap (λ x. x.module_number) f.2) ∙ is.owner_is, (is.depth, subst (λ s. IsDepthOf s v.key is.depth) source (subst (λ key. IsDepthOf b.source.now key is.depth) (ap (λ x. x.key) f.2) is.least), sym (ap (λ x. x.depth) f.2) ∙ is.depth_is));
      }
    where
      IsDepthOf : Text → Text → ℕ → Type 0
      IsDepthOf own file depth = IsDepth w own file depth

      keys_same : (fs : List File) → map (λ f. f.key) (map file_view fs) ≡ keys_of fs
      keys_same [] = refl
      keys_same (f ∷ fs) = ap (λ ks. f.key.now ∷ ks) (keys_same fs)

      first_there : slice_get (keys_of (drop b.first_file (take b.end_file files))) 0 ≡ Some b.source.now → a.first_file < a.end_file
      first_there e =
          let f = mapped_at (λ x. x.key.now) (drop b.first_file (take b.end_file files)) 0 b.source.now e in
          let r = from_range b.first_file b.end_file files 0 f.0 f.1 in
          let lt = r.1 in
          let first = same.first_file in
          let end = same.end_file in
          omega (arith, lt, first, end)

  node : (k : ℕ) (v : NodeView) → slice_get new k ≡ Some v → IsNode w views new k v
  node k v e =
      let a = mapped_at node_view after k v e in
      let b = was k a.0 a.1 in
      let f = h.each k b.0 a.0 b.1 a.1 in
      let m = h.modules.each k b.0 b.1 in
      let l = lists_law w os files before new k b.0 a.0 f.definitions f.kept f.settled f.empty f.gains in
      let source = ap (λ s. s.now) (sym b.2.source) in
      subst (IsNode w views new k) a.2 (record {
        path = m.path;
        has_path = path_still k m.path m.has_path;
        is = subst (IsModule w m.path) source m.is;
        item = item_still b.0 a.0 b.2 m.item;
        own_files = node_files k a.0 b.0 b.1 b.2 m.own_files (h.within k b.0 b.1);
        aliases = l.aliases;
        assignments = l.assignments;
        functions = l.functions;
        recipes = l.recipes;
        sets = l.sets;
        unexports = l.unexports;
        disabled = l.disabled;
        inner = inner k a.0 a.1;
      })

  -- ---- one module for a path

  inner_once : (p k k' : ℕ) (node node' : NodeView) (name : Text) → slice_get new k ≡ Some node → node.parent ≡ Some p → slice_get new k' ≡ Some node' → node'.parent ≡ Some p → node.name ≡ Some name → node'.name ≡ Some name → p < k → k ≡ k'
  inner_once p k k' node node' name e parent e' parent' named named' lt =
      let within = slice_get_within new k node e in
      let many = length-map after node_view in
      let above = there_within after p (omega (arith, lt, within, many)) in
      let i = inner p above.0 above.1 in
      let at = place_of above.0.submodules.items k (i.complete k node e parent) in
      let at' = place_of above.0.submodules.items k' (i.complete k' node' e' parent') in
      let here = name_at i at.0 k node e at.1 named in
      let there = name_at i at'.0 k' node' e' at'.1 named' in
      let same = one_place i.names at.0 at'.0 name i.sorted here there in
      same_Some k k' (sym at.1 ∙ ap (slice_get above.0.submodules.items) same ∙ at'.1)
    where
      name_at : {submodules : List ℕ} (i : AreInner w views new p submodules) (n inner : ℕ) (node : NodeView) → slice_get new inner ≡ Some node → slice_get submodules n ≡ Some inner → node.name ≡ Some name → slice_get i.names n ≡ Some name
      name_at {submodules} i n inner node e at named =
          let lt = slice_get_within submodules n inner at in
          let many = i.many in
          let t = there_within i.names n (omega (arith, lt, many)) in
          let s = i.sound n inner t.0 at t.1 in
          let same = same_Some s.0 node (sym s.1 ∙ e) in
          t.1 ∙ sym s.3 ∙ ap (λ v. v.name) same ∙ named

  once : (k k' : ℕ) (path path' : List Text) → path ≡ path' → HasPath w views new k path → HasPath w views new k' path' → k ≡ k'
  once _ _ _ _ same (root_path e parent) (root_path e' parent') = refl
  once _ _ _ _ same (root_path e parent) (inside_path {path = path'} {name = name'} e' parent' lt' named' above') = absurd (snoc_empty path' name' same)
  once _ _ _ _ same (inside_path {path} {name} e parent lt named above) (root_path e' parent') = absurd (snoc_empty path name (sym same))
  once _ _ _ _ same (inside_path {k} {p} {node} {path} {name} e parent lt named above) (inside_path {k = k'} {p = p'} {node = node'} {path = path'} {name = name'} e' parent' lt' named' above') =
      let r = snoc_same path path' name name' same in
      let parents = once p p' path path' r.0 above above' in
      inner_once p k k' node node' name e parent e' (parent' ∙ ap Some (sym parents)) named (named' ∙ ap Some (sym r.1)) lt

  pub filled_are_compiled : IsCompiled w views new
  filled_are_compiled = record {
    read = λ n v e.
        let f = mapped_at file_view files n v e in
        let c = h.covered n (slice_get_within files n f.0 f.1) in
        let m = h.modules.each c.k c.node c.there in
        let is = m.own_files.each (n - c.node.first_file) f.0 (in_range c.node.first_file c.node.end_file files n f.0 c.from c.to f.1) in
        subst (λ x. w.said x.key ≡ Some (filled x.items)) f.2 is.says;
    sound = node;
    complete = λ path own is. let p = h.modules.complete path own is in (p.k, path_still p.k path p.has_path);
    once = λ k k' path a b. once k k' path path refl a b;
    apart = λ k k' v v' e e' lt.
        let a = mapped_at node_view after k v e in
        let a' = mapped_at node_view after k' v' e' in
        let b = was k a.0 a.1 in
        let b' = was k' a'.0 a'.1 in
        let le = h.apart k k' b.0 b'.0 lt b.1 b'.1 in
        let end = b.2.end_file ∙ refl in
        let first = b'.2.first_file in
        let v_end = ap (λ x. x.end_file) a.2 in
        let v_first = ap (λ x. x.first_file) a'.2 in
        inl (omega (arith, le, end, first, v_end, v_first));
    bindings = h.bindings;
    recipes = h.recipes;
  }
