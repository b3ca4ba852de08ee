-- Elements of a row that are replaced in turn.
use Rattle.std.proofs.Common.{◌≡◌, ℕ, ◌+◌, ◌<◌, ◌≤◌, List, get_or, inl, inr, length, Some, refl, sym, subst, ◌∙◌, arith, [], ◌∷◌, map, suc, Option}
use Rattle.std.specs.Prelude.{slice_get}
use Rattle.std.proofs.Math.ListN.{set}
use Rattle.std.proofs.lemmas.Bool.Decides.{eqb_tells}
use Rattle.std.proofs.lemmas.List.{get_or-set_same, get_or-set_other, length-set}
use Rattle.std.proofs.lemmas.Option.{same_Some, slice_get-get_or, get_or_from_slice_get, slice_get_within}
use Rattle.tree_expressions.specs.declared.expression.Expression.{Expression}
use Rattle.tree_expressions.specs.Numbering.{AreNumbered, IsNumbered, literals_of, numbers_of, texts_of, tokens_of, variables_of}
use Rattle.tree_expressions.specs.Shape.{shape_of}

none_below : (k : ℕ) → k < 0 → ⊥
none_below k lt = omega (arith, lt)

module _ {A : Type 0} (R : A → A → Type 0) where
  -- the elements up to the count stand in the relation to those before, and the others are as they were
  pub record AreUpTo (old new : List A) (count : ℕ) : Type 0 where
    pub many : length new ≡ length old
    pub each : (k : ℕ) (d : A) → k < count → R (get_or old k d) (get_or new k d)
    pub left : (k : ℕ) (d : A) → count ≤ k → get_or new k d ≡ get_or old k d

  pub none_yet : (xs : List A) → AreUpTo xs xs 0
  none_yet xs = record { many = refl; each = λ k d lt. absurd (none_below k lt); left = λ k d le. refl }

  pub one_more : (old new : List A) (i : ℕ) (x y : A) → AreUpTo old new i → i < length new → x ≡ get_or new i x → R x y → AreUpTo old (set new i y) (i + 1)
  one_more old new i x y so lt is r = record {
    many = length-set new i y ∙ so.many;
    each = λ k d small. elim (eqb_tells k i) [
      | inl p ↦
          let was : get_or old i d ≡ x = sym (so.left i d (omega arith)) ∙ same_Some _ _ (sym (slice_get-get_or new i d lt) ∙ slice_get-get_or new i x lt) ∙ sym is in
          let now : get_or (set new i y) i d ≡ y = get_or-set_same new i y d lt in
          subst (λ n. R (get_or old n d) (get_or (set new i y) n d)) (sym p.1) (subst (λ a. R a (get_or (set new i y) i d)) (sym was) (subst (R x) (sym now) r))
      | inr p ↦
          let ne = p.1 in
          let less : k < i = omega (arith, small, ne) in
          subst (R (get_or old k d)) (sym (get_or-set_other new i k y d ne)) (so.each k d less)
    ];
    left = λ k d le. get_or-set_other new i k y d (λ e. omega (arith, le, e)) ∙ so.left k d (omega (arith, le));
  }

  -- at each place where both rows have an element
  pub at_each : (old new : List A) → AreUpTo old new (length old) → (k : ℕ) (before after : A) → slice_get old k ≡ Some before → slice_get new k ≡ Some after → R before after
  at_each old new so k before after here there =
      let lt : k < length old = slice_get_within old k before here in
      subst (λ a. R a after) (get_or_from_slice_get old k before before here) (subst (R (get_or old k before)) (get_or_from_slice_get new k after before there) (so.each k before lt))

-- ---- rows of expressions

-- two views agree on two rows where they agree on each pair
views_agree : {A B : Type 0} (f g : A → B) (old new : List A) → length new ≡ length old → ((k : ℕ) (d : A) → k < length old → f (get_or new k d) ≡ g (get_or old k d)) → map f new ≡ map g old
views_agree f g [] [] same each = refl
views_agree f g [] (y ∷ ys) same each = cc
views_agree f g (x ∷ xs) [] same each = cc
views_agree f g (x ∷ xs) (y ∷ ys) same each =
    let head : f y ≡ g x = each 0 x (omega arith) in
    let tail : map f ys ≡ map g xs = views_agree f g xs ys (omega arith) (λ k d lt. each (suc k) d (omega arith)) in
    cc

-- a row is numbered where each of its expressions is
pub row_numbered : (number : List ℕ → Option ℕ) (old new : List Expression) → AreUpTo (IsNumbered number) old new (length old) → AreNumbered number old new
row_numbered number old new so = record {
  shapes = views_agree shape_of shape_of old new so.many (λ k d lt. (so.each k d lt).shape);
  texts = views_agree texts_of texts_of old new so.many (λ k d lt. (so.each k d lt).texts);
  tokens = views_agree tokens_of tokens_of old new so.many (λ k d lt. (so.each k d lt).tokens);
  literals = views_agree literals_of literals_of old new so.many (λ k d lt. (so.each k d lt).literals);
  numbers = views_agree numbers_of (λ e. map number (variables_of e)) old new so.many (λ k d lt. (so.each k d lt).numbers);
}
