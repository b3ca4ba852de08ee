-- The chain of modules, and the set of its keys.
use Rattle.std.proofs.Common.{◌≡◌, ◌≢◌, sym, ◌∙◌, ap, subst, Bool, true, false, cond, ◌||◌, ◌<◌, ◌≤◌, ◌+◌, ◌-◌, List, [], ◌∷◌, ◌++◌, ℕ, length, take, get_or, Option, Some, None, refl, arith}
use Rattle.std.specs.Option.{option_eq}
use Rattle.std.specs.Prelude.{nat_eq, slice_get}
use Rattle.std.specs.BTreeMap.{is_at}
use Rattle.std.specs.BTreeSet.{BTreeSet, UpdatesBy}
use Rattle.std.specs.Borrow.{Bor}
use Rattle.std.specs.Cmp.Lexicographic.{slice_cmp}
use Rattle.std.specs.List.{AllByRecursion, IsDistinct, list_any}
use Rattle.std.specs.Ordering.{nat_cmp}
use Rattle.std.specs.Str.{bytes_eq}
use Rattle.std.proofs.lemmas.Bool.{eq-eqb, false≢true, ne_eqb}
use Rattle.std.proofs.lemmas.List.{map-append, take_all, take_more}
use Rattle.std.proofs.lemmas.List.Folds.{list_any-append}
use Rattle.std.proofs.lemmas.Option.{get_or_from_slice_get, none-some, same_Some, slice_get-get_or, slice_get_within}
use Rattle.std.proofs.lemmas.Map.Text.{is_eq-slice_cmp}
use Rattle.std.proofs.lemmas.Slice.Eq.{bytes_eq-Decides}
use Rattle.modules_files.specs.Found.{has_text}
use Rattle.modules_files.proofs.Sets.{bytes_turned, put_one}
use Rattle.modules_sources.specs.Queue.{IsChain, chain_keys, cut_to, is_among, is_parent}
use Rattle.modules_sources.specs.declared.queue.Loaded.{Loaded}
use Rattle.modules_sources.specs.declared.queue.Queue.{Queue}

or_true : (a b : Bool) → b ≡ true → (a || b) ≡ true
or_true true b e = refl
or_true false b e = e

or_false : (a b : Bool) → a ≡ false → b ≡ false → (a || b) ≡ false
or_false true b e f = e
or_false false b e f = f

none_behind : (a : Bool) → (a || false) ≡ a
none_behind true = refl
none_behind false = refl

-- ---- where the chain is cut

last_is : (p : Loaded → Bool) (xs : List Loaded) (x : Loaded) → p x ≡ true → list_any p (xs ++ x ∷ []) ≡ true
last_is p [] x e = ap (λ b. b || false) e
last_is p (y ∷ ys) x e = or_true (p y) (list_any p (ys ++ x ∷ [])) (last_is p ys x e)

last_not : (p : Loaded → Bool) (xs : List Loaded) (x : Loaded) → p x ≡ false → list_any p (xs ++ x ∷ []) ≡ list_any p xs
last_not p xs x e = list_any-append p xs (x ∷ []) ∙ ap (λ b. list_any p xs || (b || false)) e ∙ none_behind (list_any p xs)

-- a chain that ends in the parent stays
pub cut_here : (parent : Option ℕ) (chain : List Loaded) (last : Loaded) → is_parent parent last ≡ true → cut_to parent (chain ++ last ∷ []) ≡ chain ++ last ∷ []
cut_here parent [] last e = ap (λ b. cond (b || false) (last ∷ []) []) e
cut_here parent (loaded ∷ chain) last e =
    ap (λ b. cond b (loaded ∷ cut_to parent (chain ++ last ∷ [])) []) (last_is (is_parent parent) (loaded ∷ chain) last e) ∙ ap (λ ls. loaded ∷ ls) (cut_here parent chain last e)

-- one that ends in another is cut shorter
pub cut_shorter : (parent : Option ℕ) (chain : List Loaded) (last : Loaded) → is_parent parent last ≡ false → cut_to parent (chain ++ last ∷ []) ≡ cut_to parent chain
cut_shorter parent [] last e = ap (λ b. cond (b || false) (last ∷ []) []) e
cut_shorter parent (loaded ∷ chain) last e =
    ap (λ b. cond b (loaded ∷ cut_to parent (chain ++ last ∷ [])) []) (last_not (is_parent parent) (loaded ∷ chain) last e)
    ∙ ap (λ ls. cond (list_any (is_parent parent) (loaded ∷ chain)) (loaded ∷ ls) []) (cut_shorter parent chain last e)

-- ---- keys that differ

abbrev Text : Type 0
Text = List ℕ

apart_before : (x : Text) (ks : List Text) (k : Text) → AllByRecursion (λ y. bytes_eq x y ≡ false) (ks ++ k ∷ []) → AllByRecursion (λ y. bytes_eq x y ≡ false) ks × (bytes_eq x k ≡ false)
apart_before x [] k h = (tt, h.0)
apart_before x (y ∷ ks) k h = let r = apart_before x ks k h.1 in ((h.0, r.0), r.1)

apart_more : (x : Text) (ks : List Text) (k : Text) → AllByRecursion (λ y. bytes_eq x y ≡ false) ks → bytes_eq x k ≡ false → AllByRecursion (λ y. bytes_eq x y ≡ false) (ks ++ k ∷ [])
apart_more x [] k h e = (e, tt)
apart_more x (y ∷ ks) k h e = (h.0, apart_more x ks k h.1 e)

distinct_before : (ks : List Text) (k : Text) → IsDistinct bytes_eq (ks ++ k ∷ []) → IsDistinct bytes_eq ks × (is_among ks k ≡ false)
unfolding IsDistinct
distinct_before [] k h = (tt, refl)
distinct_before (x ∷ ks) k h =
    let a = apart_before x ks k h.0 in
    let r = distinct_before ks k h.1 in
    ((a.0, r.0), or_false (bytes_eq k x) (is_among ks k) (bytes_turned k x ∙ a.1) r.1)

or_parts : (a b : Bool) → (a || b) ≡ false → (a ≡ false) × (b ≡ false)
or_parts true b e = absurd (false≢true (sym e))
or_parts false b e = (refl, e)

distinct_more : (ks : List Text) (k : Text) → IsDistinct bytes_eq ks → is_among ks k ≡ false → IsDistinct bytes_eq (ks ++ k ∷ [])
unfolding IsDistinct
distinct_more [] k h e = (tt, tt)
distinct_more (x ∷ ks) k h e =
    let o = or_parts (bytes_eq k x) (is_among ks k) e in
    (apart_more x ks k h.0 (bytes_turned x k ∙ o.0), distinct_more ks k h.1 o.1)

-- a text more among others
pub among_more : (ks : List Text) (k other : Text) → is_among (ks ++ k ∷ []) other ≡ (is_among ks other || bytes_eq other k)
among_more ks k other = list_any-append (bytes_eq other) ks (k ∷ []) ∙ ap (λ b. is_among ks other || b) (none_behind (bytes_eq other k))

-- ---- the set of the keys

taken_one : (old new : BTreeSet (Bor Text)) (key : Text) → UpdatesBy (λ x y. slice_cmp nat_cmp x.now y.now) (λ k. slice_cmp nat_cmp key k.now) old new false → (other : Text) → has_text new other ≡ cond (bytes_eq key other) false (has_text old other)
taken_one old new key updates other =
    let at : Bor Text = record { ref_ptr = (0, 0); now = other } in
    updates.0 at ∙ ap (λ b. cond b false (has_text old other)) (is_eq-slice_cmp key other)

none_distinct : IsDistinct bytes_eq []
unfolding IsDistinct
none_distinct = tt

-- no module was loaded
pub chain_none : (queue : Queue) → queue.chain.items ≡ [] → queue.keys.keys ≡ [] → IsChain queue
chain_none queue e f = record {
  each = λ key. ap (list_any (is_at (λ k. slice_cmp nat_cmp key k.now))) f ∙ ap (λ ls. is_among (chain_keys ls) key) (sym e);
  distinct = subst (λ ls. IsDistinct bytes_eq (chain_keys ls)) (sym e) none_distinct;
}

-- the last of the chain is taken off
pub chain_shorter : (old new : Queue) (chain : List Loaded) (last : Loaded) → old.chain.items ≡ chain ++ last ∷ [] → new.chain.items ≡ chain
    → UpdatesBy (λ x y. slice_cmp nat_cmp x.now y.now) (λ k. slice_cmp nat_cmp last.key.now k.now) old.keys new.keys false → IsChain old → IsChain new
chain_shorter old new chain last was now updates h =
    let keys = chain_keys chain in
    let whole : chain_keys old.chain.items ≡ keys ++ last.key.now ∷ [] = ap chain_keys was ∙ map-append (λ loaded. loaded.key.now) chain (last ∷ []) in
    let apart = distinct_before keys last.key.now (subst (IsDistinct bytes_eq) whole h.distinct) in
    record {
      each = λ other. taken_one old.keys new.keys last.key.now updates other ∙ by_test (bytes_eq last.key.now other) keys whole apart.1 other refl ∙ ap (λ ls. is_among (chain_keys ls) other) (sym now);
      distinct = subst (λ ls. IsDistinct bytes_eq (chain_keys ls)) (sym now) apart.0;
    }
  where
    by_test : (b : Bool) (keys : List Text) → chain_keys old.chain.items ≡ keys ++ last.key.now ∷ [] → is_among keys last.key.now ≡ false → (other : Text) → bytes_eq last.key.now other ≡ b → cond b false (has_text old.keys other) ≡ is_among keys other
    by_test true keys whole none other e = sym (ap (is_among keys) (sym ((bytes_eq-Decides last.key.now other).0 e)) ∙ none)
    by_test false keys whole none other e =
        h.each other ∙ ap (λ ks. is_among ks other) whole ∙ among_more keys last.key.now other ∙ ap (λ b. is_among keys other || b) (bytes_turned other last.key.now ∙ e) ∙ none_behind (is_among keys other)

-- a module is put at the end of the chain
pub chain_longer : (old new : Queue) (chain : List Loaded) (last : Loaded) → old.chain.items ≡ chain → new.chain.items ≡ chain ++ last ∷ []
    → UpdatesBy (λ x y. slice_cmp nat_cmp x.now y.now) (λ k. slice_cmp nat_cmp last.key.now k.now) old.keys new.keys true → IsChain old → is_among (chain_keys chain) last.key.now ≡ false → IsChain new
chain_longer old new chain last was now updates h none =
    let keys = chain_keys chain in
    let whole : chain_keys new.chain.items ≡ keys ++ last.key.now ∷ [] = ap chain_keys now ∙ map-append (λ loaded. loaded.key.now) chain (last ∷ []) in
    record {
      each = λ other. put_one old.keys new.keys last.key.now updates other ∙ ap (λ b. b || bytes_eq other last.key.now) (h.each other ∙ ap (λ ls. is_among (chain_keys ls) other) was) ∙ sym (among_more keys last.key.now other) ∙ ap (λ ks. is_among ks other) (sym whole);
      distinct = subst (IsDistinct bytes_eq) (sym whole) (distinct_more keys last.key.now (subst (λ ls. IsDistinct bytes_eq (chain_keys ls)) was h.distinct) none);
    }

-- ---- the last of a chain

pub nothing_left : (parent : Option ℕ) (chain : List Loaded) → None ≡ slice_get chain (length chain - 1) → chain ≡ cut_to parent chain
nothing_left parent [] e = refl
nothing_left parent (loaded ∷ chain) e =
    let lt : length (loaded ∷ chain) - 1 < length (loaded ∷ chain) = omega arith in
    absurd (none-some (get_or (loaded ∷ chain) (length (loaded ∷ chain) - 1) loaded) (e ∙ slice_get-get_or (loaded ∷ chain) (length (loaded ∷ chain) - 1) loaded lt))

pub popped : (chain rest : List Loaded) (last : Loaded) → rest ≡ take (length chain - 1) chain → Some last ≡ slice_get chain (length chain - 1) → chain ≡ rest ++ last ∷ []
popped chain rest last is e =
    let lt : length chain - 1 < length chain = slice_get_within chain (length chain - 1) last (sym e) in
    let le : length chain ≤ length chain - 1 + 1 = omega (arith, lt) in
    sym (take_all (length chain - 1 + 1) chain le) ∙ take_more chain (length chain - 1) last lt
    ∙ ap (λ x. take (length chain - 1) chain ++ x ∷ []) (get_or_from_slice_get chain (length chain - 1) last last (sym e)) ∙ ap (λ xs. xs ++ last ∷ []) (sym is)

pub is_the_parent : (parent : Option ℕ) (last : Loaded) → parent ≡ Some last.module → is_parent parent last ≡ true
is_the_parent None last e = absurd (none-some last.module e)
is_the_parent (Some place) last e = eq-eqb place last.module (same_Some place last.module e)

pub is_another : (parent : Option ℕ) (last : Loaded) → parent ≢ Some last.module → is_parent parent last ≡ false
is_another None last n = refl
is_another (Some place) last n = ne_eqb place last.module (λ e. n (ap Some e))

pub none_of_length : (chain : List Loaded) → length chain ≡ 0 → chain ≡ []
none_of_length [] e = refl
none_of_length (loaded ∷ chain) e = absurd (omega (arith, e))

-- the comparison of the code is that of the rule
pub compared : (parent : Option ℕ) (last : Loaded) → option_eq nat_eq parent (Some last.module) ≡ is_parent parent last
compared None last = refl
compared (Some place) last = refl
