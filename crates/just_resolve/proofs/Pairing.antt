-- Lists that grow by what is so at the next place.
use Rattle.std.proofs.Common.{◌≡◌, ℕ, ◌+◌, List, [], ◌∷◌, ◌++◌, inl, inr, length, length-append, refl, subst, sym, ap, ◌∙◌}
use Rattle.std.specs.List.{slice_get}
use Rattle.std.proofs.lemmas.Option.{none-some}
use Rattle.resolve_order.proofs.Places.{push_cases}
use Rattle.just_resolve.specs.Variables.{AreEach}

module _ {Y : Type 0} (IsAt : ℕ → Y → Type 0) where
  pub none_each : AreEach 0 IsAt []
  none_each = record { many = refl; each = λ place y e. absurd (none-some y e) }

  pub one_each : (count : ℕ) (before after : List Y) (y : Y) → after ≡ before ++ y ∷ [] → IsAt count y → AreEach count IsAt before → AreEach (count + 1) IsAt after
  one_each count before after y pushed is so =
      let many = so.many in
      record {
        many = ap length pushed ∙ length-append before (y ∷ []) ∙ ap (λ n. n + 1) many;
        each = λ place z e. elim (push_cases before y place z (sym (ap (λ ys. slice_get ys place) pushed) ∙ e)) [
          | inl p ↦ so.each place z p.1
          | inr p ↦ subst (λ n. IsAt n z) (sym (p.0 ∙ many)) (subst (IsAt count) p.1 is)
        ];
      }
