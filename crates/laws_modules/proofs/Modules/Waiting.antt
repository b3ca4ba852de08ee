-- Submodules of files that wait, each by its file.
use Rattle.std.proofs.Common.{◌≡◌, sym, ap, subst, inl, inr, ◌⊎◌, ◌<◌, ◌+◌, ◌++◌, ◌∷◌, [], ℕ, zero, suc, List, Some, refl, arith, length, map}
use Rattle.std.specs.Prelude.{slice_get}
use Rattle.std.proofs.lemmas.Bool.Decides.{eqb_tells}
use Rattle.just_text.specs.declared.os.Os.{Os}
use Rattle.modules_compilation.specs.declared.module_node.File.{File as LoadedFile}
use Rattle.modules_files.specs.declared.search.Files.{Files}
use Rattle.modules_sources.specs.Submodules.{Above, AreBelow, AreWaiting, waiting_none, waiting_more, Found, Waiting, waiting}
use Rattle.modules_sources.proofs.Reaching.{kept_left}
use Rattle.laws_modules.proofs.Modules.Ranges.{mapped}

behind : {A : Type 0} (xs ys : List A) (i : ℕ) (a : A) → slice_get ys i ≡ Some a → slice_get (xs ++ ys) (length xs + i) ≡ Some a
behind [] ys i a e = let same : i ≡ 0 + i = omega arith in subst (λ n. slice_get ys n ≡ Some a) same e
behind (x ∷ xs) ys i a e =
    let same : suc (length xs + i) ≡ suc (length xs) + i = omega arith in
    subst (λ n. slice_get (x ∷ (xs ++ ys)) n ≡ Some a) same (behind xs ys i a e)

module _ (lookup : Files) (os : Os) (all : List LoadedFile) (above : Above) (parent first : ℕ) where
  -- the submodules of one of the files, which all wait
  pub record WaitAt (waits : List Waiting) (count : ℕ) : Type 0 where
    pub found : List Found
    pub are : AreBelow lookup os all above (first + count) found
    pub each : (i : ℕ) (f : Found) → slice_get found i ≡ Some f → (j : ℕ) × (slice_get waits j ≡ Some (waiting (first + count) parent f))

  pub waits_of : {many : ℕ} {waits : List Waiting} → AreWaiting lookup os all above parent first many waits → (count : ℕ) → count < many → WaitAt waits count
  waits_of waiting_none count lt = absurd (omega (arith, lt))
  waits_of (waiting_more {count = n} {earlier} {found} so below) count lt = elim (eqb_tells count n) [
    | inl p ↦ subst (WaitAt (earlier ++ map (waiting (first + n) parent) found)) (sym p.1) (record {
      found = found;
      are = below;
      each = λ i f e. (length earlier + i, behind earlier (map (waiting (first + n) parent) found) i (waiting (first + n) parent f) (mapped (waiting (first + n) parent) found i f e));
    })
    | inr p ↦
        let apart = p.1 in
        let r = waits_of so count (less count n apart lt) in
        record {
          found = r.found;
          are = r.are;
          each = λ i f e. let t = r.each i f e in (t.0, kept_left earlier (map (waiting (first + n) parent) found) t.0 (waiting (first + count) parent f) t.1);
        }
  ]
    where
      less : (a b : ℕ) → (a ≡ b → ⊥) → a < b + 1 → a < b
      less a b apart lt = elim (below_or_same a b lt) [ inl p ↦ p | inr p ↦ absurd (apart p) ]
        where
          below_or_same : (a b : ℕ) → a < b + 1 → (a < b) ⊎ (a ≡ b)
          below_or_same zero zero lt = inr refl
          below_or_same zero (suc b) lt = inl (omega arith)
          below_or_same (suc a) zero lt = absurd (omega (arith, lt))
          below_or_same (suc a) (suc b) lt = elim (below_or_same a b (omega (arith, lt))) [
            | inl p ↦ inl (omega (arith, p))
            | inr p ↦ inr (ap suc p)
          ]
