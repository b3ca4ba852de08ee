-- Fronts of names before the names themselves.
use Rattle.std.proofs.Common.{inl, inr, ◌≡◌, ◌∙◌, ◌<◌, ℕ, suc, List, sym, ap, arith}
use Rattle.std.specs.Prelude.{◌≢◌}
use Rattle.std.specs.Cmp.{nat_cmp_is}
use Rattle.std.specs.Cmp.Lexicographic.{slice_cmp}
use Rattle.std.specs.Ordering.{nat_cmp, ordering_reverse, ordering_then}
use Rattle.std.specs.declared.cmp.Ordering.TheVariants.{Less, Equal, Greater}
use Rattle.std.proofs.lemmas.Bool.Decides.{eqb_tells, leb_tells}
use Rattle.std.proofs.lemmas.Cmp.{nat_list_cmp_total}
use Rattle.modules_compilation.specs.Fronts.{AreBytes, front_of}
use Rattle.modules_compilation.proofs.Fronted.{front_less}

-- fronts before texts change nothing
pub fronts_agree : (xs ys : List ℕ) → AreBytes xs → AreBytes ys → ordering_then (nat_cmp (front_of xs) (front_of ys)) (slice_cmp nat_cmp xs ys) ≡ slice_cmp nat_cmp xs ys
fronts_agree xs ys h g = elim (leb_tells (suc (front_of xs)) (front_of ys)) [
  | inl p ↦ ap (λ o. ordering_then o (slice_cmp nat_cmp xs ys)) (sym (nat_cmp_is (front_of xs) (front_of ys) Less p.1)) ∙ sym (front_less xs ys h g p.1)
  | inr p ↦ elim (eqb_tells (front_of xs) (front_of ys)) [
    | inl q ↦ ap (λ o. ordering_then o (slice_cmp nat_cmp xs ys)) (sym (nat_cmp_is (front_of xs) (front_of ys) Equal q.1))
    | inr q ↦
        let ne : front_of xs ≢ front_of ys = q.1 in
        let le = p.1 in
        let more : front_of ys < front_of xs = omega arith in
        ap (λ o. ordering_then o (slice_cmp nat_cmp xs ys)) (sym (nat_cmp_is (front_of xs) (front_of ys) Greater more)) ∙ sym (nat_list_cmp_total.antisymm xs ys ∙ ap ordering_reverse (front_less ys xs g h more))
  ]
]
