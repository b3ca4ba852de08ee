-- Modules that are to be loaded, one submodule after the other.
use Rattle.std.proofs.Common.{◌≡◌, sym, ◌∙◌, ap, subst, ◌<◌, ◌≤◌, ◌+◌, ◌-◌, ◌++◌, ◌∷◌, [], ◌||◌, Bool, ℕ, List, inl, inr, false, true, refl, arith, length, map, take, drop, get_or, append_assoc, suc, drop-cons}
use Rattle.std.specs.BTreeSet.{BTreeSet}
use Rattle.std.specs.Borrow.{Bor}
use Rattle.std.specs.List.{list_any}
use Rattle.std.proofs.lemmas.Bool.Decides.{leb_tells}
use Rattle.std.proofs.lemmas.List.{append-nil, map-append, take_more, take-append-drop}
use Rattle.std.proofs.lemmas.List.Folds.{list_any-append}
use Rattle.just_text.specs.declared.os.Os.{Os}
use Rattle.modules_compilation.specs.declared.error.Error.{Error}
use Rattle.modules_compilation.specs.declared.module_node.File.{File as LoadedFile}
use Rattle.modules_files.specs.Found.{has_text}
use Rattle.modules_files.specs.declared.search.Files.{Files}
use Rattle.modules_sources.specs.Submodules.{AreBelow, AreWaiting, Found, IsBack, IsCircular, IsRefusedAmong, IsRefusedAt, NoneAbove, Waiting, found_view, waiting, waiting_more, waiting_none}
use Rattle.modules_sources.specs.declared.submodules.Submodule.{Submodule}

abbrev Keys : Type 0
Keys = BTreeSet (Bor (List ℕ))

taken : (xs : List Submodule) (i : ℕ) (d : Submodule) → i < length xs → map found_view (take (i + 1) xs) ≡ map found_view (take i xs) ++ found_view (get_or xs i d) ∷ []
taken xs i d lt = ap (map found_view) (take_more xs i d lt) ∙ map-append found_view (take i xs) (get_or xs i d ∷ [])

none_one : (a b : Bool) → a ≡ false → b ≡ false → (a || (b || false)) ≡ false
none_one true b e f = e
none_one false true e f = f
none_one false false e f = refl

-- one more that isn't above
pub below_further : (above now : Keys) (xs : List Submodule) (i : ℕ) (d : Submodule) → i < length xs → now ≡ above → NoneAbove above (map found_view (take i xs)) → has_text now (get_or xs i d).source.key.now ≡ false
    → NoneAbove above (map found_view (take (i + 1) xs))
below_further above now xs i d lt same none is =
    let one : has_text above (get_or xs i d).source.key.now ≡ false = ap (λ keys. has_text keys (get_or xs i d).source.key.now) (sym same) ∙ is in
    let p = λ (s : Found). has_text above s.file.0 in
    ap (list_any p) (taken xs i d lt) ∙ list_any-append p (map found_view (take i xs)) (found_view (get_or xs i d) ∷ []) ∙ none_one (list_any p (map found_view (take i xs))) (has_text above (get_or xs i d).source.key.now) none one

-- one more waits
pub waits_further : (file parent : ℕ) (xs : List Submodule) (i : ℕ) (d : Submodule) (before now after : List Waiting) → i < length xs → now ≡ before ++ map (waiting file parent) (map found_view (take i xs))
    → after ≡ now ++ waiting file parent (found_view (get_or xs i d)) ∷ [] → after ≡ before ++ map (waiting file parent) (map found_view (take (i + 1) xs))
waits_further file parent xs i d before now after lt so e =
    let x = get_or xs i d in
    e ∙ ap (λ ws. ws ++ waiting file parent (found_view x) ∷ []) so ∙ append_assoc before (map (waiting file parent) (map found_view (take i xs))) (waiting file parent (found_view x) ∷ [])
    ∙ ap (λ ws. before ++ ws) (sym (map-append (waiting file parent) (map found_view (take i xs)) (found_view x ∷ [])) ∙ ap (map (waiting file parent)) (sym (taken xs i d lt)))

-- the first that is above
pub back_at : (above now : Keys) (current : List ℕ) (xs : List Submodule) (i : ℕ) (d : Submodule) (e : Error) → i < length xs → now ≡ above → NoneAbove above (map found_view (take i xs))
    → (has_text now (get_or xs i d).source.key.now ≡ true) × IsCircular e current (get_or xs i d).source.key.now → IsBack above current (map found_view xs) e
back_at above now current xs i d e lt same none is = record {
  earlier = map found_view (take i xs);
  submodule = found_view (get_or xs i d);
  later = map found_view (drop (suc i) xs);
  whole = ap (map found_view) (sym (take-append-drop i xs)) ∙ map-append found_view (take i xs) (drop i xs) ∙ ap (λ ys. map found_view (take i xs) ++ map found_view ys) (drop-cons xs i d lt);
  below = none;
  has = ap (λ keys. has_text keys (get_or xs i d).source.key.now) (sym same) ∙ is.0;
  told = is.1;
}

-- ---- all files of a module

module _ (files : Files) (os : Os) (all : List LoadedFile) (above : Keys) (parent first : ℕ) where
  -- what waits of the files from the first to the one before a place
  pub record AreThere (place : ℕ) (old new : List Waiting) : Type 0 where
    pub more : List Waiting
    pub are : AreWaiting files os all above parent first (place - first) more
    pub whole : new ≡ old ++ more

  pub there_none : (waits : List Waiting) → AreThere first waits waits
  there_none waits =
      let none : 0 ≡ first - first = omega arith in
      record { more = []; are = subst (λ n. AreWaiting files os all above parent first n []) none waiting_none; whole = sym (append-nil waits) }

  pub there_further : (place : ℕ) (old now after : List Waiting) → first ≤ place → AreThere place old now → (found : List Found) → AreBelow files os all above place found → after ≡ now ++ map (waiting place parent) found → AreThere (place + 1) old after
  there_further place old now after le so found below e =
      let at : first + (place - first) ≡ place = omega (arith, le) in
      let next : place - first + 1 ≡ place + 1 - first = omega (arith, le) in
      let one : AreWaiting files os all above parent first (place - first + 1) (so.more ++ map (waiting (first + (place - first)) parent) found) =
      waiting_more so.are (subst (λ n. AreBelow files os all above n found) (sym at) below) in
      record {
        more = so.more ++ map (waiting place parent) found;
        are = subst (λ n. AreWaiting files os all above parent first n (so.more ++ map (waiting place parent) found)) next
            (subst (λ n. AreWaiting files os all above parent first (place - first + 1) (so.more ++ map (waiting n parent) found)) at one);
        whole = e ∙ ap (λ ws. ws ++ map (waiting place parent) found) so.whole ∙ append_assoc old so.more (map (waiting place parent) found);
      }

  pub refused_there : (place end : ℕ) (old now : List Waiting) (e : Error) → first ≤ place → place < end → AreThere place old now → IsRefusedAt files os all above place e → IsRefusedAmong files os all above parent first (end - first) e
  refused_there place end old now e le lt so refused =
      let at : place ≡ first + (place - first) = omega (arith, le) in
      record { count = place - first; within = omega (arith, le, lt); earlier = so.more; are = so.are; refused = subst (λ n. IsRefusedAt files os all above n e) at refused }

  same_count : (place end : ℕ) → end ≤ place → (first ≤ end → place ≤ end) → (end ≤ first → place ≡ first) → place - first ≡ end - first
  same_count place end le within early = elim (leb_tells first end) [
    | inl p ↦ let w = within p.1 in omega (arith, le, w)
    | inr p ↦ let w = early (omega (arith, p.1)) in omega (arith, w, p.1)
  ]

  -- all files are followed
  pub there_done : (place end : ℕ) (old now : List Waiting) → end ≤ place → (first ≤ end → place ≤ end) → (end ≤ first → place ≡ first) → AreThere place old now
      → (more : List Waiting) × AreWaiting files os all above parent first (end - first) more × (now ≡ old ++ more)
  there_done place end old now le within early so =
      let same = same_count place end le within early in
      (so.more, subst (λ n. AreWaiting files os all above parent first n so.more) same so.are, so.whole)
