-- Modules above others, as modules are loaded.
use Rattle.std.proofs.Common.{◌≡◌, sym, ◌∙◌, ap, subst, inl, inr, ◌⊎◌, Bool, true, false, cond, ◌||◌, ◌<◌, ◌≤◌, ◌+◌, ◌-◌, ◌++◌, ◌∷◌, [], ℕ, zero, suc, List, Option, Some, None, refl, arith, length, length-append, map, take}
use Rattle.std.proofs.lemmas.Bool.{false≢true}
use Rattle.std.specs.Prelude.{option_map, slice_get}
use Rattle.std.specs.List.{IsDistinct, list_any}
use Rattle.std.specs.Str.{bytes_eq}
use Rattle.std.proofs.lemmas.Bool.Decides.{leb_tells}
use Rattle.std.proofs.lemmas.Option.{none-some, same_Some, slice_get-map, slice_get_within}
use Rattle.just_text.specs.declared.os.Os.{Os}
use Rattle.modules_compilation.specs.declared.module_node.File.{File as LoadedFile}
use Rattle.modules_compilation.specs.declared.module_node.ModuleNode.{ModuleNode}
use Rattle.modules_files.specs.Found.{has_text}
use Rattle.modules_files.specs.declared.search.Files.{Files}
use Rattle.modules_sources.specs.Above.{above_own, above_parent, AreAbove, AreAboveNext, AreChained, AreFresh, AreOnChain, AreQueued, HaveOwnFiles, IsAbove}
use Rattle.modules_sources.specs.Nodes.{IsNodeOf, IsNoted}
use Rattle.modules_sources.specs.Queue.{AreKeysOf, IsChain, chain_keys, cut_to, entered, is_among, is_parent}
use Rattle.modules_sources.specs.Submodules.{Above, AreWaiting, Waiting, waiting_view}
use Rattle.modules_sources.specs.declared.queue.Loaded.{Loaded}
use Rattle.modules_sources.specs.declared.queue.Pending.{Pending}
use Rattle.modules_sources.specs.declared.queue.Queue.{Queue}
use Rattle.modules_sources.proofs.Chains.{is_another, is_the_parent}
use Rattle.modules_sources.proofs.Closing.{came_from, goes_to, IsNotedNode, waiting_at}
use Rattle.modules_sources.proofs.Reaching.{among_at, append_cases, at_end, end_cases, kept_left, mapped_at, place_among}

-- ---- where the chain is cut

any_at : (p : Loaded → Bool) (xs : List Loaded) (i : ℕ) (x : Loaded) → slice_get xs i ≡ Some x → p x ≡ true → list_any p xs ≡ true
any_at p [] i x e is = absurd (none-some x e)
any_at p (y ∷ ys) zero x e is = ap (λ b. b || list_any p ys) (ap p (same_Some y x e) ∙ is)
any_at p (y ∷ ys) (suc i) x e is = or_right (p y) (list_any p ys) (any_at p ys i x e is)
  where
    or_right : (a b : Bool) → b ≡ true → (a || b) ≡ true
    or_right true b f = refl
    or_right false b f = f

none_any : (p : Loaded → Bool) (xs : List Loaded) → ((i : ℕ) (x : Loaded) → slice_get xs i ≡ Some x → p x ≡ false) → list_any p xs ≡ false
none_any p [] h = refl
none_any p (x ∷ xs) h = ap (λ b. b || list_any p xs) (h 0 x refl) ∙ none_any p xs (λ i y e. h (suc i) y e)

cut_none : (parent : Option ℕ) (chain : List Loaded) → list_any (is_parent parent) chain ≡ false → cut_to parent chain ≡ []
cut_none parent [] e = refl
cut_none parent (loaded ∷ chain) e = ap (λ b. cond b (loaded ∷ cut_to parent chain) []) e

-- the chain is cut behind the parent, which no later one is
cut_at : (p : ℕ) (chain : List Loaded) (i : ℕ) (l : Loaded) → slice_get chain i ≡ Some l → l.module ≡ p → ((j : ℕ) (m : Loaded) → i < j → slice_get chain j ≡ Some m → m.module ≡ p → ⊥) → cut_to (Some p) chain ≡ take (suc i) chain
cut_at p [] i l e is later = absurd (none-some l e)
cut_at p (x ∷ xs) zero l e is later =
    let here : is_parent (Some p) x ≡ true = is_the_parent (Some p) x (ap Some (sym (ap (λ m. m.module) (same_Some x l e) ∙ is))) in
    let none : list_any (is_parent (Some p)) xs ≡ false = none_any (is_parent (Some p)) xs (λ j m at. is_another (Some p) m (λ same. later (suc j) m (omega arith) at (sym (same_Some p m.module same)))) in
    ap (λ b. cond b (x ∷ cut_to (Some p) xs) []) (any_at (is_parent (Some p)) (x ∷ xs) 0 x refl here) ∙ ap (λ ls. x ∷ ls) (cut_none (Some p) xs none)
cut_at p (x ∷ xs) (suc i) l e is later =
    let here : is_parent (Some p) l ≡ true = is_the_parent (Some p) l (ap Some (sym is)) in
    ap (λ b. cond b (x ∷ cut_to (Some p) xs) []) (any_at (is_parent (Some p)) (x ∷ xs) (suc i) l e here) ∙ ap (λ ls. x ∷ ls) (cut_at p xs i l e is (λ j m lt at same. later (suc j) m (omega (arith, lt)) at same))

-- ---- the first of a list

first_at : (n : ℕ) (xs : List Loaded) (i : ℕ) (x : Loaded) → slice_get (take n xs) i ≡ Some x → (i < n) × (slice_get xs i ≡ Some x)
first_at zero xs i x e = absurd (none-some x e)
first_at (suc n) [] i x e = absurd (none-some x e)
first_at (suc n) (y ∷ ys) zero x e = (omega arith, e)
first_at (suc n) (y ∷ ys) (suc i) x e = let r = first_at n ys i x e in let lt = r.0 in (omega (arith, lt), r.1)

at_first : (n : ℕ) (xs : List Loaded) (i : ℕ) (x : Loaded) → i < n → slice_get xs i ≡ Some x → slice_get (take n xs) i ≡ Some x
at_first zero xs i x lt e = absurd (omega (arith, lt))
at_first (suc n) [] i x lt e = absurd (none-some x e)
at_first (suc n) (y ∷ ys) zero x lt e = e
at_first (suc n) (y ∷ ys) (suc i) x lt e = at_first n ys i x (omega (arith, lt)) e

first_length : (n : ℕ) (xs : List Loaded) → n ≤ length xs → length (take n xs) ≡ n
first_length zero xs le = refl
first_length (suc n) [] le = absurd (omega (arith, le))
first_length (suc n) (x ∷ xs) le = ap suc (first_length n xs (omega (arith, le)))

-- ---- the chain and the modules above its last one

module _ (modules : List ModuleNode) (chain : List Loaded) (h : AreChained modules chain) where
  -- one of the first so many has the key
  abbrev pub HasKey : ℕ → List ℕ → Type 0
  HasKey count key = (j : ℕ) × (m : Loaded) × (j < count) × (slice_get chain j ≡ Some m) × (m.key.now ≡ key)

  chained_above : (key : List ℕ) (i place : ℕ) (l : Loaded) → slice_get chain i ≡ Some l → l.module ≡ place → IsAbove modules key place → HasKey (suc i) key
  chained_above key i place l e same (above_own {node} there source) =
      let t = h.each i l e in
      let node_is = same_Some t.0 node (sym t.1 ∙ ap (slice_get modules) same ∙ there) in
      (i, l, omega arith, e, sym t.2 ∙ ap (λ n. n.source.now) node_is ∙ source)
  chained_above key zero place l e same (above_parent {parent} {node} there is above) = absurd (none-some parent (sym (h.first l node e (ap (slice_get modules) same ∙ there)) ∙ is))
  chained_above key (suc i) place l e same (above_parent {parent} {node} there is above) =
      let before = there_before_it i l e in
      let up = same_Some before.0.module parent (sym (h.next i before.0 l node before.1 e (ap (slice_get modules) same ∙ there)) ∙ is) in
      let r = chained_above key i parent before.0 before.1 up above in
      let lt = r.2 in
      (r.0, r.1, omega (arith, lt), r.3, r.4)
    where
      there_before_it : (i : ℕ) (l : Loaded) → slice_get chain (suc i) ≡ Some l → (m : Loaded) × (slice_get chain i ≡ Some m)
      there_before_it i l e = within chain i (let lt = slice_get_within chain (suc i) l e in omega (arith, lt))
        where
          within : (xs : List Loaded) (i : ℕ) → i < length xs → (m : Loaded) × (slice_get xs i ≡ Some m)
          within [] i lt = absurd (omega (arith, lt))
          within (x ∷ xs) zero lt = (x, refl)
          within (x ∷ xs) (suc i) lt = within xs i (omega (arith, lt))

  above_chained : (key : List ℕ) (i : ℕ) (l : Loaded) → slice_get chain i ≡ Some l → HasKey (suc i) key → IsAbove modules key l.module
  above_chained key i l e (j, m, lt, at, is) = climb (i - j) i l e (omega (arith, lt))
    where
      own : (i : ℕ) (l : Loaded) → slice_get chain i ≡ Some l → i ≡ j → IsAbove modules key l.module
      own i l e same =
          let t = h.each i l e in
          let same_one = same_Some l m (sym e ∙ ap (slice_get chain) same ∙ at) in
          above_own t.1 (t.2 ∙ ap (λ x. x.key.now) same_one ∙ is)

      climb : (n i : ℕ) (l : Loaded) → slice_get chain i ≡ Some l → i ≡ j + n → IsAbove modules key l.module
      climb zero i l e same = own i l e (omega (arith, same))
      climb (suc n) zero l e same = absurd (omega (arith, same))
      climb (suc n) (suc i) l e same =
          let lt = slice_get_within chain (suc i) l e in
          let before = within chain i (omega (arith, lt)) in
          let t = h.each (suc i) l e in
          above_parent t.1 (h.next i before.0 l t.0 before.1 e t.1) (climb n i before.0 before.1 (omega (arith, same)))
        where
          within : (xs : List Loaded) (i : ℕ) → i < length xs → (m : Loaded) × (slice_get xs i ≡ Some m)
          within [] i lt = absurd (omega (arith, lt))
          within (x ∷ xs) zero lt = (x, refl)
          within (x ∷ xs) (suc i) lt = within xs i (omega (arith, lt))

  -- modules of the chain stand one after another
  module _ (parents : (place : ℕ) (node : ModuleNode) → slice_get modules place ≡ Some node → (p : ℕ) → node.parent ≡ Some p → p < place) where
    ascending : (n i j : ℕ) (l m : Loaded) → j ≡ suc i + n → slice_get chain i ≡ Some l → slice_get chain j ≡ Some m → l.module < m.module
    ascending zero i zero l m same e f = absurd (omega (arith, same))
    ascending zero i (suc j) l m same e f =
        let one : i ≡ j = omega (arith, same) in
        let t = h.each (suc j) m f in
        parents m.module t.0 t.1 l.module (h.next j l m t.0 (ap (slice_get chain) (sym one) ∙ e) f t.1)
    ascending (suc n) i zero l m same e f = absurd (omega (arith, same))
    ascending (suc n) i (suc j) l m same e f =
        let lt = slice_get_within chain (suc j) m f in
        let before = within chain j (omega (arith, lt)) in
        let t = h.each (suc j) m f in
        let first = ascending n i j l before.0 (omega (arith, same)) e before.1 in
        let second = parents m.module t.0 t.1 before.0.module (h.next j before.0 m t.0 before.1 f t.1) in
        omega (arith, first, second)
      where
        within : (xs : List Loaded) (i : ℕ) → i < length xs → (m : Loaded) × (slice_get xs i ≡ Some m)
        within [] i lt = absurd (omega (arith, lt))
        within (x ∷ xs) zero lt = (x, refl)
        within (x ∷ xs) (suc i) lt = within xs i (omega (arith, lt))

    -- a module that stands no later in the list stands no later in the chain
    no_later : (i j : ℕ) (l m : Loaded) → slice_get chain i ≡ Some l → slice_get chain j ≡ Some m → m.module ≤ l.module → j ≤ i
    no_later i j l m e f le = elim (leb_tells j i) [
      | inl p ↦ p.1
      | inr p ↦
          let lt = p.1 in
          let less = ascending (j - suc i) i j l m (omega (arith, lt)) e f in
          absurd (omega (arith, le, less))
    ]

-- the chain is cut behind the parent of a module
cut_behind_parent : (modules : List ModuleNode) (chain : List Loaded) (h : AreChained modules chain) (parents : (place : ℕ) (node : ModuleNode) → slice_get modules place ≡ Some node → (p : ℕ) → node.parent ≡ Some p → p < place)
    (parent : Option ℕ) (i : ℕ) (l : Loaded) → slice_get chain i ≡ Some l → parent ≡ Some l.module → cut_to parent chain ≡ take (suc i) chain
cut_behind_parent modules chain h parents parent i l at is = ap (λ p. cut_to p chain) is ∙ cut_at l.module chain i l at refl (λ j m lt e same.
    let less = ascending modules chain h parents (j - suc i) i j l m (omega (arith, lt)) at e in
    omega (arith, less, same))

-- ---- keys of the chain

keys_at : (chain : List Loaded) (key : List ℕ) → is_among (chain_keys chain) key ≡ true → (j : ℕ) × (m : Loaded) × (slice_get chain j ≡ Some m) × (m.key.now ≡ key)
keys_at chain key e =
    let p = place_among (chain_keys chain) key e in
    let t = mapped_at (λ l. l.key.now) chain p.0 key p.1 in
    (p.0, t.0, t.1, t.2)

at_keys : (chain : List Loaded) (j : ℕ) (m : Loaded) (key : List ℕ) → slice_get chain j ≡ Some m → m.key.now ≡ key → is_among (chain_keys chain) key ≡ true
at_keys chain j m key e is = among_at (chain_keys chain) j key (slice_get-map (λ l. l.key.now) chain j ∙ ap (option_map (λ l. l.key.now)) e ∙ ap Some is)

-- a key that is not above a module of the chain is not among those up to it
not_above : (modules : List ModuleNode) (chain : List Loaded) (h : AreChained modules chain) (key : List ℕ) (i : ℕ) (l : Loaded) → slice_get chain i ≡ Some l → (cut : List Loaded) → cut ≡ take (suc i) chain → (IsAbove modules key l.module → ⊥)
    → is_among (chain_keys cut) key ≡ false
not_above modules chain h key i l at cut same fresh = by_test (is_among (chain_keys cut) key) refl
  where
    by_test : (b : Bool) → is_among (chain_keys cut) key ≡ b → is_among (chain_keys cut) key ≡ false
    by_test false e = e
    by_test true e =
        let k = keys_at (take (suc i) chain) key (sym (ap (λ ls. is_among (chain_keys ls) key) same) ∙ e) in
        let f = first_at (suc i) chain k.0 k.1 k.2 in
        absurd (fresh (above_chained modules chain h key i l at (k.0, k.1, f.0, f.1, k.3)))

-- the keys of a chain that ends in a module are those of the files above it
pub all_above : (modules : List ModuleNode) (chain : List Loaded) (last : Loaded) (queue : Queue) → AreChained modules (chain ++ last ∷ []) → queue.chain.items ≡ chain ++ last ∷ [] → IsChain queue → AreAbove modules last.module queue.keys
all_above modules chain last queue h whole keys key = (λ has. forth (sym (keys.each key) ∙ has), λ above. keys.each key ∙ back above)
  where
    forth : is_among (chain_keys queue.chain.items) key ≡ true → IsAbove modules key last.module
    forth e =
        let k = keys_at (chain ++ last ∷ []) key (sym (ap (λ ls. is_among (chain_keys ls) key) whole) ∙ e) in
        let lt = slice_get_within (chain ++ last ∷ []) k.0 k.1 k.2 in
        let many = length-append chain (last ∷ []) in
        above_chained modules (chain ++ last ∷ []) h key (length chain) last (at_end chain last) (k.0, k.1, omega (arith, lt, many), k.2, k.3)

    back : IsAbove modules key last.module → is_among (chain_keys queue.chain.items) key ≡ true
    back above =
        let k = chained_above modules (chain ++ last ∷ []) h key (length chain) last.module last (at_end chain last) refl above in
        ap (λ ls. is_among (chain_keys ls) key) whole ∙ at_keys (chain ++ last ∷ []) k.0 k.1 key k.3 k.4

-- ---- one module more

module _ (modules after : List ModuleNode) (next : Pending) (node : ModuleNode) (first end : ℕ)
    (parents : (place : ℕ) (n : ModuleNode) → slice_get modules place ≡ Some n → (p : ℕ) → n.parent ≡ Some p → p < place)
    (is : IsNodeOf next first end node) (noted : IsNoted next.parent (length modules) (modules ++ node ∷ []) after) where
  goes : (place : ℕ) (n : ModuleNode) → slice_get modules place ≡ Some n → (m : ModuleNode) × (slice_get after place ≡ Some m) × IsNotedNode next.parent (length modules) place n m
  goes place n e = goes_to next.parent (length modules) (modules ++ node ∷ []) after noted place n (kept_left modules (node ∷ []) place n e)

  new_node : (m : ModuleNode) × (slice_get after (length modules) ≡ Some m) × IsNotedNode next.parent (length modules) (length modules) node m
  new_node = goes_to next.parent (length modules) (modules ++ node ∷ []) after noted (length modules) node (at_end modules node)

  -- a module that was there was as it is
  was_there : (place : ℕ) (m : ModuleNode) → place < length modules → slice_get after place ≡ Some m → (n : ModuleNode) × (slice_get modules place ≡ Some n) × IsNotedNode next.parent (length modules) place n m
  was_there place m lt e =
      let t = came_from next.parent (length modules) (modules ++ node ∷ []) after noted place m e in
      elim (end_cases modules node place t.0 t.1) [
        | inl p ↦ (t.0, p, t.2)
        | inr q ↦ let same = q.0 in absurd (omega (arith, same, lt))
      ]

  pub above_still : (key : List ℕ) (place : ℕ) → IsAbove modules key place → IsAbove after key place
  above_still key place (above_own {node = n} e source) = let t = goes place n e in above_own t.1 (ap (λ s. s.now) t.2.same.source ∙ source)
  above_still key place (above_parent {parent} {node = n} e up above) = let t = goes place n e in above_parent t.1 (t.2.same.parent ∙ up) (above_still key parent above)

  pub above_back : (key : List ℕ) (place : ℕ) → place < length modules → IsAbove after key place → IsAbove modules key place
  above_back key place lt (above_own {node = m} e source) = let t = was_there place m lt e in above_own t.1 (ap (λ s. s.now) (sym t.2.same.source) ∙ source)
  above_back key place lt (above_parent {parent} {node = m} e up above) =
      let t = was_there place m lt e in
      let p : t.0.parent ≡ Some parent = sym t.2.same.parent ∙ up in
      let less = parents place t.0 t.1 parent p in
      above_parent t.1 p (above_back key parent (omega (arith, less, lt)) above)

  pub are_above_still : (place : ℕ) (above : Above) → place < length modules → AreAbove modules place above → AreAbove after place above
  are_above_still place above lt h key = (λ has. above_still key place ((h key).0 has), λ up. (h key).1 (above_back key place lt up))

  -- the chain, cut behind the parent, leads to the new module
  module _ (chain : List Loaded) (h : AreChained modules chain) (i : ℕ) (l : Loaded) (at : slice_get chain i ≡ Some l) (parent : next.parent ≡ Some l.module) where
    abbrev last : Loaded
    last = record { «module» = length modules; key = next.source.key }

    abbrev cut : List Loaded
    cut = take (suc i) chain

    cut_is : cut_to next.parent chain ≡ cut
    cut_is = cut_behind_parent modules chain h parents next.parent i l at parent

    cut_length : length cut ≡ suc i
    cut_length = first_length (suc i) chain (let lt = slice_get_within chain i l at in omega (arith, lt))

    module_there : (j : ℕ) (m : Loaded) → slice_get chain j ≡ Some m → m.module < length modules
    module_there j m e = let t = h.each j m e in slice_get_within modules m.module t.0 t.1

    chained : AreChained after (cut ++ last ∷ [])
    chained = record {
      each = λ j m e. elim (end_cases cut last j m e) [
        | inl p ↦
            let f = first_at (suc i) chain j m p in
            let t = h.each j m f.1 in
            let g = goes m.module t.0 t.1 in
            (g.0, g.1, ap (λ s. s.now) g.2.same.source ∙ t.2)
        | inr q ↦
            let g = new_node in
            let there : slice_get after m.module ≡ Some g.0 = ap (λ x. slice_get after x.module) (sym q.1) ∙ g.1 in
            (g.0, there, ap (λ s. s.now) (g.2.same.source ∙ is.source) ∙ ap (λ x. x.key.now) q.1)
      ];
      first = λ m n e there. elim (end_cases cut last 0 m e) [
        | inl p ↦
            let f = first_at (suc i) chain 0 m p in
            let t = was_there m.module n (module_there 0 m f.1) there in
            t.2.same.parent ∙ h.first m t.0 f.1 t.1
        | inr q ↦ let none = q.0 in absurd (omega (arith, none, cut_length))
      ];
      next = λ j m below n e f there. elim (end_cases cut last (suc j) below f) [
        | inl p ↦
            let g = first_at (suc i) chain (suc j) below p in
            let lt = g.0 in
            let t = was_there below.module n (module_there (suc j) below g.1) there in
            t.2.same.parent ∙ h.next j m below t.0 (earlier j m e (omega (arith, lt))) g.1 t.1
        | inr q ↦
            let end = q.0 in
            let here : j ≡ i = omega (arith, end, cut_length) in
            let same : m ≡ l = same_Some m l (sym (earlier j m e (omega (arith, here))) ∙ ap (slice_get chain) here ∙ at) in
            let g = new_node in
            let node_is : g.0 ≡ n = same_Some g.0 n (sym g.1 ∙ ap (λ x. slice_get after x.module) q.1 ∙ there) in
            ap (λ x. x.parent) (sym node_is) ∙ g.2.same.parent ∙ is.parent ∙ parent ∙ ap (λ x. Some x.module) (sym same)
      ];
    }
      where
        earlier : (j : ℕ) (m : Loaded) → slice_get (cut ++ last ∷ []) j ≡ Some m → j < suc i → slice_get chain j ≡ Some m
        earlier j m e lt = elim (end_cases cut last j m e) [
          | inl p ↦ (first_at (suc i) chain j m p).1
          | inr q ↦ let end = q.0 in absurd (omega (arith, end, cut_length, lt))
        ]

    -- the new module's file isn't above it
    own_fresh : (IsAbove modules next.source.key.now l.module → ⊥) → is_among (chain_keys (cut_to next.parent chain)) next.source.key.now ≡ false
    own_fresh fresh = not_above modules chain h next.source.key.now i l at (cut_to next.parent chain) cut_is fresh

    -- what waits is on the chain still, and the new module's submodules behind it
    module _ (lookup : Files) (os : Os) (all : List LoadedFile) (from many : ℕ) (waits left found : List Waiting) (above : Above) (on : AreOnChain chain (waits ++ waiting_view next ∷ []))
        (are : AreWaiting lookup os all above (length modules) from many found) (whole : left ≡ waits ++ found) where
      new_parent : (j : ℕ) (w : Waiting) → slice_get found j ≡ Some w → w.parent ≡ Some (length modules)
      new_parent j w e = ap (λ v. v.parent) (waiting_at lookup os all above (length modules) from are j w e).is

      old_parent : (j p : ℕ) (w : Waiting) → slice_get waits j ≡ Some w → w.parent ≡ Some p → p ≤ l.module
      old_parent j p w e up = on.order j (length waits) p l.module w (waiting_view next) (slice_get_within waits j w e) (kept_left waits (waiting_view next ∷ []) j w e) (at_end waits (waiting_view next)) up parent

      left_cases : (j : ℕ) (w : Waiting) → slice_get left j ≡ Some w → (slice_get waits j ≡ Some w) ⊎ ((length waits ≤ j) × ((k : ℕ) × (slice_get found k ≡ Some w)))
      left_cases j w e = append_cases waits found j w (ap (λ ws. slice_get ws j) (sym whole) ∙ e)

      on_chain : AreOnChain (cut ++ last ∷ []) left
      on_chain = record {
        each = λ j w e. elim (left_cases j w e) [
          | inl p ↦
              let t = on.each j w (kept_left waits (waiting_view next ∷ []) j w p) in
              let le = no_later modules chain h parents i t.0 l t.1 at t.2 (old_parent j t.1.module w p t.3) in
              (t.0, t.1, kept_left cut (last ∷ []) t.0 t.1 (at_first (suc i) chain t.0 t.1 (omega (arith, le)) t.2), t.3)
          | inr q ↦ (length cut, last, at_end cut last, new_parent q.1.0 w q.1.1)
        ];
        order = λ j k p q w v lt e f up down. elim (left_cases k v f) [
          | inl b ↦ elim (left_cases j w e) [
            | inl a ↦ on.order j k p q w v lt (kept_left waits (waiting_view next ∷ []) j w a) (kept_left waits (waiting_view next ∷ []) k v b) up down
            | inr a ↦ let le = a.0 in let within = slice_get_within waits k v b in absurd (omega (arith, le, within, lt))
          ]
          | inr b ↦
              let last_is : length modules ≡ q = same_Some (length modules) q (sym (new_parent b.1.0 v b.1.1) ∙ down) in
              elim (left_cases j w e) [
                | inl a ↦
                    let le = old_parent j p w a up in
                    let less = module_there i l at in
                    omega (arith, le, less, last_is)
                | inr a ↦ let same : length modules ≡ p = same_Some (length modules) p (sym (new_parent a.1.0 w a.1.1) ∙ up) in omega (arith, same, last_is)
              ]
        ];
      }

      module _ (fresh : AreFresh modules (waits ++ waiting_view next ∷ [])) (all_are : AreAbove after (length modules) above) where
        parent_there : (j p : ℕ) (w : Waiting) → slice_get waits j ≡ Some w → w.parent ≡ Some p → p < length modules
        parent_there j p w e up = let le = old_parent j p w e up in let less = module_there i l at in omega (arith, le, less)

        fresh_still : AreFresh after left
        fresh_still j p w e up above_it = elim (left_cases j w e) [
          | inl a ↦ fresh j p w (kept_left waits (waiting_view next ∷ []) j w a) up (above_back w.file.0 p (parent_there j p w a up) above_it)
          | inr a ↦
              let t = waiting_at lookup os all above (length modules) from are a.1.0 w a.1.1 in
              let same : length modules ≡ p = same_Some (length modules) p (sym (new_parent a.1.0 w a.1.1) ∙ up) in
              let has = (all_are w.file.0).1 (subst (IsAbove after w.file.0) (sym same) above_it) in
              false≢true (sym (ap (λ v. has_text above v.file.0) t.is ∙ t.below) ∙ has)
        ]

    own_files_still : (waits : List Waiting) → AreFresh modules (waits ++ waiting_view next ∷ []) → HaveOwnFiles modules → HaveOwnFiles after
    own_files_still waits fresh own place p m e up above_it =
        let t = came_from next.parent (length modules) (modules ++ node ∷ []) after noted place m e in
        elim (end_cases modules node place t.0 t.1) [
          | inl q ↦
              let was_up : t.0.parent ≡ Some p = sym t.2.same.parent ∙ up in
              let less = parents place t.0 q p was_up in
              let within = slice_get_within modules place t.0 q in
              own place p t.0 q was_up (subst (λ key. IsAbove modules key p) (ap (λ s. s.now) t.2.same.source) (above_back m.source.now p (omega (arith, less, within)) above_it))
          | inr q ↦
              let up_next : next.parent ≡ Some p = sym is.parent ∙ ap (λ x. x.parent) q.1 ∙ sym t.2.same.parent ∙ up in
              let same : l.module ≡ p = same_Some l.module p (sym parent ∙ up_next) in
              let less = module_there i l at in
              let key : m.source.now ≡ next.source.key.now = ap (λ s. s.now) (t.2.same.source ∙ ap (λ x. x.source) (sym q.1) ∙ is.source) in
              fresh (length waits) p (waiting_view next) (at_end waits (waiting_view next)) up_next (subst (λ k. IsAbove modules k p) key (above_back m.source.now p (omega (arith, same, less)) above_it))
        ]

-- ---- the queue

pub same_chain : (old new : Queue) → new.chain ≡ old.chain → new.keys ≡ old.keys → IsChain old → IsChain new
same_chain old new chain keys h = record {
  each = λ key. ap (λ k. has_text k key) keys ∙ h.each key ∙ ap (λ c. is_among (chain_keys c.items) key) (sym chain);
  distinct = subst (λ c. IsDistinct bytes_eq (chain_keys c.items)) (sym chain) h.distinct;
}

pub same_queue : (modules : List ModuleNode) (waits : List Waiting) (old new : Queue) → new.chain ≡ old.chain → new.keys ≡ old.keys → AreQueued modules old waits → AreQueued modules new waits
same_queue modules waits old new chain keys h = record {
  chained = subst (λ c. AreChained modules c.items) (sym chain) h.chained;
  keys = same_chain old new chain keys h.keys;
  on_chain = subst (λ c. AreOnChain c.items waits) (sym chain) h.on_chain;
  fresh = h.fresh;
}

-- a module more: its keys, and what waits
module _ (modules after : List ModuleNode) (next : Pending) (node : ModuleNode) (first end : ℕ)
    (parents : (place : ℕ) (n : ModuleNode) → slice_get modules place ≡ Some n → (p : ℕ) → n.parent ≡ Some p → p < place)
    (is : IsNodeOf next first end node) (noted : IsNoted next.parent (length modules) (modules ++ node ∷ []) after)
    (lookup : Files) (os : Os) (all : List LoadedFile) (from many : ℕ) (waits left found : List Waiting) (old new : Queue)
    (queued : AreQueued modules old (waits ++ waiting_view next ∷ []))
    (chain : new.chain.items ≡ entered old.chain.items next (length modules))
    (keys : IsChain old → is_among (chain_keys (cut_to next.parent old.chain.items)) next.source.key.now ≡ false → IsChain new) where
  -- where the parent stands on the chain
  parent_at : (i : ℕ) × (l : Loaded) × (slice_get old.chain.items i ≡ Some l) × (next.parent ≡ Some l.module)
  parent_at = queued.on_chain.each (length waits) (waiting_view next) (at_end waits (waiting_view next))

  pub next_fresh : is_among (chain_keys (cut_to next.parent old.chain.items)) next.source.key.now ≡ false
  next_fresh =
      let p = parent_at in
      own_fresh modules after next node first end parents is noted old.chain.items queued.chained p.0 p.1 p.2 p.3 (queued.fresh (length waits) p.1.module (waiting_view next) (at_end waits (waiting_view next)) p.3)

  is_chain : IsChain new
  is_chain = keys queued.keys next_fresh

  whole_chain : new.chain.items ≡ take (suc parent_at.0) old.chain.items ++ record { «module» = length modules; key = next.source.key } ∷ []
  whole_chain =
      let p = parent_at in
      chain ∙ ap (λ ls. ls ++ record { «module» = length modules; key = next.source.key } ∷ []) (cut_is modules after next node first end parents is noted old.chain.items queued.chained p.0 p.1 p.2 p.3)

  pub all_are_above : AreAbove after (length modules) new.keys
  all_are_above =
      let p = parent_at in
      all_above after (take (suc p.0) old.chain.items) (record { «module» = length modules; key = next.source.key }) new (chained modules after next node first end parents is noted old.chain.items queued.chained p.0 p.1 p.2 p.3) whole_chain is_chain

  pub queued_further : AreWaiting lookup os all new.keys (length modules) from many found → left ≡ waits ++ found → AreQueued after new left
  queued_further are whole =
      let p = parent_at in
      record {
        chained = subst (AreChained after) (sym whole_chain) (chained modules after next node first end parents is noted old.chain.items queued.chained p.0 p.1 p.2 p.3);
        keys = is_chain;
        on_chain = subst (λ ls. AreOnChain ls left) (sym whole_chain)
            (on_chain modules after next node first end parents is noted old.chain.items queued.chained p.0 p.1 p.2 p.3 lookup os all from many waits left found new.keys queued.on_chain are whole);
        fresh = fresh_still modules after next node first end parents is noted old.chain.items queued.chained p.0 p.1 p.2 p.3 lookup os all from many waits left found new.keys queued.on_chain are whole queued.fresh all_are_above;
      }

  pub own_files_further : HaveOwnFiles modules → HaveOwnFiles after
  own_files_further own =
      let p = parent_at in
      own_files_still modules after next node first end parents is noted old.chain.items queued.chained p.0 p.1 p.2 p.3 waits queued.fresh own

-- the keys of a chain that a module enters, before it is loaded
pub next_above : (modules : List ModuleNode) (next : Pending) (waits : List Waiting) (old : Queue) (above : Above) → AreQueued modules old (waits ++ waiting_view next ∷ [])
    → ((place : ℕ) (n : ModuleNode) → slice_get modules place ≡ Some n → (p : ℕ) → n.parent ≡ Some p → p < place)
    → (is_among (chain_keys (cut_to next.parent old.chain.items)) next.source.key.now ≡ false → AreKeysOf above (entered old.chain.items next (length modules))) → AreAboveNext modules next.parent next.source.key.now above
next_above modules next waits old above queued parents keys key = (λ has. forth (sym (is key) ∙ has), λ s. is key ∙ back s)
  where
    last : Loaded
    last = record { «module» = length modules; key = next.source.key }

    at : (i : ℕ) × (l : Loaded) × (slice_get old.chain.items i ≡ Some l) × (next.parent ≡ Some l.module)
    at = queued.on_chain.each (length waits) (waiting_view next) (at_end waits (waiting_view next))

    cut : List Loaded
    cut = take (suc at.0) old.chain.items

    cut_same : cut_to next.parent old.chain.items ≡ cut
    cut_same = cut_behind_parent modules old.chain.items queued.chained parents next.parent at.0 at.1 at.2 at.3

    fresh : is_among (chain_keys (cut_to next.parent old.chain.items)) next.source.key.now ≡ false
    fresh = not_above modules old.chain.items queued.chained next.source.key.now at.0 at.1 at.2 (cut_to next.parent old.chain.items) cut_same (queued.fresh (length waits) at.1.module (waiting_view next) (at_end waits (waiting_view next)) at.3)

    is : AreKeysOf above (cut ++ last ∷ [])
    is k = keys fresh k ∙ ap (λ ls. is_among (chain_keys (ls ++ last ∷ [])) k) cut_same

    forth : is_among (chain_keys (cut ++ last ∷ [])) key ≡ true → (next.source.key.now ≡ key) ⊎ ((place : ℕ) × (next.parent ≡ Some place) × IsAbove modules key place)
    forth e =
        let k = keys_at (cut ++ last ∷ []) key e in
        elim (end_cases cut last k.0 k.1 k.2) [
          | inl p ↦
              let f = first_at (suc at.0) old.chain.items k.0 k.1 p in
              inr (at.1.module, at.3, above_chained modules old.chain.items queued.chained key at.0 at.1 at.2 (k.0, k.1, f.0, f.1, k.3))
          | inr q ↦ inl (ap (λ l. l.key.now) q.1 ∙ k.3)
        ]

    back : (next.source.key.now ≡ key) ⊎ ((place : ℕ) × (next.parent ≡ Some place) × IsAbove modules key place) → is_among (chain_keys (cut ++ last ∷ [])) key ≡ true
    back (inl own) = at_keys (cut ++ last ∷ []) (length cut) last key (at_end cut last) own
    back (inr (place, parent, up)) =
        let k = chained_above modules old.chain.items queued.chained key at.0 place at.1 at.2 (same_Some at.1.module place (sym at.3 ∙ parent)) up in
        at_keys (cut ++ last ∷ []) k.0 k.1 key (kept_left cut (last ∷ []) k.0 k.1 (at_first (suc at.0) old.chain.items k.0 k.1 k.2 k.3)) k.4

-- ---- the root's module

module _ (own : List ℕ) (after : List ModuleNode) (root : Pending) (node : ModuleNode) (first end : ℕ) (new : Queue) (no_parent : root.parent ≡ None) (is : IsNodeOf root first end node)
    (noted : IsNoted root.parent 0 (node ∷ []) after) (chain : new.chain.items ≡ record { «module» = 0; key = root.source.key } ∷ []) (keys : IsChain new) where
  abbrev top : Loaded
  top = record { «module» = 0; key = root.source.key }

  root_node : (m : ModuleNode) × (slice_get after 0 ≡ Some m) × IsNotedNode root.parent 0 0 node m
  root_node = goes_to root.parent 0 (node ∷ []) after noted 0 node refl

  root_parent : (m : ModuleNode) → slice_get after 0 ≡ Some m → m.parent ≡ None
  root_parent m e =
      let t = root_node in
      ap (λ x. x.parent) (sym (same_Some t.0 m (sym t.1 ∙ e))) ∙ t.2.same.parent ∙ is.parent ∙ no_parent

  root_chained : AreChained after ([] ++ top ∷ [])
  root_chained = record {
    each = λ i l e. elim (end_cases [] top i l e) [
      | inl p ↦ absurd (none-some l p)
      | inr q ↦
          let t = root_node in
          (t.0, ap (λ x. slice_get after x.module) (sym q.1) ∙ t.1, ap (λ s. s.now) (t.2.same.source ∙ is.source) ∙ ap (λ x. x.key.now) q.1)
    ];
    first = λ l m e there. root_parent m (ap (λ x. slice_get after x.module) (same_Some top l e) ∙ there);
    next = λ i l below m e f there. absurd (none-some below f);
  }

  pub root_above : AreAbove after 0 new.keys
  root_above = all_above after [] top new root_chained chain keys

  pub root_queued : (lookup : Files) (os : Os) (all : List LoadedFile) (from many : ℕ) (found : List Waiting) → AreWaiting lookup os all new.keys 0 from many found → AreQueued after new found
  root_queued lookup os all from many found are = record {
    chained = subst (AreChained after) (sym chain) root_chained;
    keys = keys;
    on_chain = subst (λ ls. AreOnChain ls found) (sym chain) (record {
      each = λ j w e. (0, top, refl, ap (λ v. v.parent) (waiting_at lookup os all new.keys 0 from are j w e).is);
      order = λ j k p q w v lt e f up down.
          let a : 0 ≡ p = same_Some 0 p (sym (ap (λ x. x.parent) (waiting_at lookup os all new.keys 0 from are j w e).is) ∙ up) in
          let b : 0 ≡ q = same_Some 0 q (sym (ap (λ x. x.parent) (waiting_at lookup os all new.keys 0 from are k v f).is) ∙ down) in
          omega (arith, a, b);
    });
    fresh = λ j p w e up above_it.
        let t = waiting_at lookup os all new.keys 0 from are j w e in
        let at : 0 ≡ p = same_Some 0 p (sym (ap (λ x. x.parent) t.is) ∙ up) in
        false≢true (sym (ap (λ v. has_text new.keys v.file.0) t.is ∙ t.below) ∙ (root_above w.file.0).1 (subst (IsAbove after w.file.0) (sym at) above_it));
  }

  pub root_own_files : length after ≡ 1 → HaveOwnFiles after
  root_own_files many zero p m e up above_it = none-some p (sym (root_parent m e) ∙ up)
  root_own_files many (suc k) p m e up above_it = let lt = slice_get_within after (suc k) m e in omega (arith, lt, many)

-- the keys above the root's module that is refused
pub root_next_above : (root : Pending) (old : Queue) (above : Above) → root.parent ≡ None → old.chain.items ≡ [] → (is_among (chain_keys (cut_to root.parent old.chain.items)) root.source.key.now ≡ false → AreKeysOf above (entered old.chain.items root 0)) → AreAboveNext [] None root.source.key.now above
root_next_above root old above no_parent none keys key = (λ has. forth (sym (is key) ∙ has), λ s. is key ∙ back s)
  where
    cut_same : cut_to root.parent old.chain.items ≡ []
    cut_same = ap (cut_to root.parent) none

    is : AreKeysOf above (record { «module» = 0; key = root.source.key } ∷ [])
    is k = keys (ap (λ ls. is_among (chain_keys ls) root.source.key.now) cut_same) k ∙ ap (λ ls. is_among (chain_keys (ls ++ record { «module» = 0; key = root.source.key } ∷ [])) k) cut_same

    forth : is_among (chain_keys (record { «module» = 0; key = root.source.key } ∷ [])) key ≡ true → (root.source.key.now ≡ key) ⊎ ((place : ℕ) × (None ≡ Some place) × IsAbove [] key place)
    forth e =
        let k = keys_at (record { «module» = 0; key = root.source.key } ∷ []) key e in
        elim (end_cases [] (record { «module» = 0; key = root.source.key }) k.0 k.1 k.2) [
          | inl p ↦ absurd (none-some k.1 p)
          | inr q ↦ inl (ap (λ l. l.key.now) q.1 ∙ k.3)
        ]

    back : (root.source.key.now ≡ key) ⊎ ((place : ℕ) × (None ≡ Some place) × IsAbove [] key place) → is_among (chain_keys (record { «module» = 0; key = root.source.key } ∷ [])) key ≡ true
    back (inl own) = at_keys (record { «module» = 0; key = root.source.key } ∷ []) 0 (record { «module» = 0; key = root.source.key }) key refl own
    back (inr (place, e, up)) = absurd (none-some place e)
