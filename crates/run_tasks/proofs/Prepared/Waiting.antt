-- Modules that wait to be opened.
use Rattle.std.proofs.Common.{◌≡◌, ◌<◌, ◌≤◌, ◌+◌, ◌-◌, ◌∙◌, ℕ, zero, suc, List, [], ◌∷◌, ◌++◌, drop, length, get_or, reverse, refl, sym, ap, arith, append_assoc, append-nil}
use Rattle.std.specs.Prelude.{slice_get}
use Rattle.std.proofs.Math.ListN.{drop_of_length-le}
use Rattle.std.proofs.Math.Seq.{drop-cons}
use Rattle.std.proofs.lemmas.List.{reverse-append}
use Rattle.std.proofs.lemmas.Option.{slice_get_past, slice_get_read}
use Rattle.modules_compilation.specs.declared.module_node.ModuleNode.{ModuleNode}
use Rattle.run_tasks.specs.Prepared.Order.{opening_from, submodules_of}

-- the last of these modules wait before the others
pub record LastWait (modules : List ℕ) (before : List ℕ) (count : ℕ) (now : List ℕ) : Type 0 where
  pub wait : reverse now ≡ drop (length modules - count) modules ++ reverse before

pub none_wait : (modules before : List ℕ) → LastWait modules before 0 before
none_wait modules before = record { wait = ap (λ l. l ++ reverse before) (sym (drop_of_length-le modules (omega arith))) }

pub one_waits : (modules before : List ℕ) (count : ℕ) (now next : List ℕ) (module' : ℕ) → count < length modules → module' ≡ get_or modules (length modules - 1 - count) module' → next ≡ now ++ module' ∷ []
    → LastWait modules before count now → LastWait modules before (count + 1) next
one_waits modules before count now next module' lt is pushed last =
    let at : length modules - (count + 1) ≡ length modules - 1 - count = omega (arith, lt) in
    let behind : suc (length modules - 1 - count) ≡ length modules - count = omega (arith, lt) in
    let cut : drop (length modules - (count + 1)) modules ≡ module' ∷ drop (length modules - count) modules =
    ap (λ n. drop n modules) at ∙ drop-cons modules (length modules - 1 - count) module' (omega (arith, lt)) ∙ ap (λ m. m ∷ drop (suc (length modules - 1 - count)) modules) (sym is)
    ∙ ap (λ n. module' ∷ drop n modules) behind in
    record { wait = ap reverse pushed ∙ reverse-append now (module' ∷ []) ∙ ap (λ l. module' ∷ l) last.wait ∙ ap (λ l. l ++ reverse before) (sym cut) }

pub all_wait : (modules before : List ℕ) (count : ℕ) (now : List ℕ) → length modules ≤ count → LastWait modules before count now → reverse now ≡ modules ++ reverse before
all_wait modules before count now all last = last.wait ∙ ap (λ n. drop n modules ++ reverse before) (let n : length modules - count ≡ 0 = omega (arith, all) in n)

-- ---- the order

-- what has opened, and what waits, are to be all in order
pub record OpenSoFar (modules : List ModuleNode) (count : ℕ) (order waiting : List ℕ) : Type 0 where
  pub so_far : opening_from (length modules) modules (0 ∷ []) ≡ order ++ opening_from (length modules - count) modules (reverse waiting)

pub root_waits : (modules : List ModuleNode) (order waiting : List ℕ) → order ≡ [] → waiting ≡ 0 ∷ [] → OpenSoFar modules 0 order waiting
root_waits modules order waiting none one = record {
  so_far = ap (λ n. opening_from n modules (0 ∷ [])) (let n : length modules ≡ length modules - 0 = omega arith in n) ∙ ap (λ o. opening_from (length modules - 0) modules (reverse o)) (sym one)
      ∙ ap (λ l. l ++ opening_from (length modules - 0) modules (reverse waiting)) (sym none);
}

nothing_waits : (n : ℕ) (modules : List ModuleNode) → opening_from n modules [] ≡ []
nothing_waits zero modules = refl
nothing_waits (suc n) modules = refl

-- nothing waits any more
pub none_open : (modules : List ModuleNode) (count : ℕ) (order waiting : List ℕ) → waiting ≡ [] → OpenSoFar modules count order waiting → order ≡ opening_from (length modules) modules (0 ∷ [])
none_open modules count order waiting none far = sym (far.so_far ∙ ap (λ o. order ++ opening_from (length modules - count) modules (reverse o)) none ∙ ap (λ l. order ++ l) (nothing_waits (length modules - count) modules) ∙ append-nil order)

-- as many have opened as there are modules
pub all_open : (modules : List ModuleNode) (count : ℕ) (order waiting : List ℕ) → length modules ≤ count → OpenSoFar modules count order waiting → order ≡ opening_from (length modules) modules (0 ∷ [])
all_open modules count order waiting all far =
    sym (far.so_far ∙ ap (λ n. order ++ opening_from n modules (reverse waiting)) (let n : length modules - count ≡ 0 = omega (arith, all) in n) ∙ append-nil order)

-- the first that waits opens
pub next_opens : (modules : List ModuleNode) (count : ℕ) (order order' waiting rest waiting' : List ℕ) (next : ℕ) → count < length modules → waiting ≡ rest ++ next ∷ [] → order' ≡ order ++ next ∷ []
    → reverse waiting' ≡ submodules_of (slice_get modules next) ++ reverse rest → OpenSoFar modules count order waiting → OpenSoFar modules (count + 1) order' waiting'
next_opens modules count order order' waiting rest waiting' next lt popped pushed wait far =
    let more : length modules - count ≡ suc (length modules - (count + 1)) = omega (arith, lt) in
    let first : reverse waiting ≡ next ∷ reverse rest = ap reverse popped ∙ reverse-append rest (next ∷ []) in
    record {
      so_far = far.so_far ∙ ap (λ n. order ++ opening_from n modules (reverse waiting)) more ∙ ap (λ w. order ++ opening_from (suc (length modules - (count + 1))) modules w) first
          ∙ ap (λ w. order ++ next ∷ opening_from (length modules - (count + 1)) modules w) (sym wait)
          ∙ sym (append_assoc order (next ∷ []) (opening_from (length modules - (count + 1)) modules (reverse waiting')))
          ∙ ap (λ l. l ++ opening_from (length modules - (count + 1)) modules (reverse waiting')) (sym pushed);
    }

-- its submodules wait before the others
pub submodules_wait : (modules : List ModuleNode) (next : ℕ) (node : ModuleNode) (rest waiting' : List ℕ) → next < length modules → node ≡ get_or modules next node → reverse waiting' ≡ node.submodules.items ++ reverse rest
    → reverse waiting' ≡ submodules_of (slice_get modules next) ++ reverse rest
submodules_wait modules next node rest waiting' lt is wait = wait ∙ ap (λ o. submodules_of o ++ reverse rest) (sym (slice_get_read modules (length modules) next node refl lt is))

-- none wait of a module that isn't there
pub no_submodules : (modules : List ModuleNode) (next : ℕ) (rest : List ℕ) → length modules ≤ next → reverse rest ≡ submodules_of (slice_get modules next) ++ reverse rest
no_submodules modules next rest past = ap (λ o. submodules_of o ++ reverse rest) (sym (slice_get_past modules next past))

pub empty_is : (waiting : List ℕ) → length waiting ≡ 0 → waiting ≡ []
empty_is [] e = refl
empty_is (place ∷ waiting) e = absurd (omega (arith, e))
