-- What holds of each expression of a row is seen of the whole row.
use Rattle.std.proofs.Common.{◌≡◌, ℕ, suc, ◌<◌, List, [], ◌∷◌, length, map, get_or, refl, Option, arith}
use Rattle.std.specs.List.{flat_map}
use Rattle.std.proofs.lemmas.List.{map-append}
use Rattle.tree_expressions.specs.declared.string_literal.StringLiteral.{StringLiteral}
use Rattle.tree_expressions.specs.declared.expression.Expression.{Expression}
use Rattle.tree_expressions.specs.Shape.{shape_of}
use Rattle.tree_expressions.specs.Numbering.{IsNumbered, AreNumbered, AreInterpolationsNumbered, beside, numbers_of, variables_of, tokens_of, texts_of, literals_of}

-- two views agree on two rows where they agree on each pair
views_agree : {A B : Type 0} (f g : A → B) (old new : List A) → length new ≡ length old → ((k : ℕ) (d : A) → k < length old → f (get_or new k d) ≡ g (get_or old k d)) → map f new ≡ map g old
views_agree f g [] [] same each = refl
views_agree f g [] (y ∷ ys) same each = cc
views_agree f g (x ∷ xs) [] same each = cc
views_agree f g (x ∷ xs) (y ∷ ys) same each =
    let head : f y ≡ g x = each 0 x (omega arith) in
    let tail : map f ys ≡ map g xs = views_agree f g xs ys (omega arith) (λ k d lt. each (suc k) d (omega arith)) in
    cc

-- each expression of the first row is numbered in the second
abbrev pub EachIsNumbered : (List ℕ → Option ℕ) → List Expression → List Expression → ℕ → Type 0
EachIsNumbered number old new count = (k : ℕ) (d : Expression) → k < count → IsNumbered number (get_or old k d) (get_or new k d)

pub row_numbered : (number : List ℕ → Option ℕ) (old new : List Expression) → length new ≡ length old → EachIsNumbered number old new (length old) → AreNumbered number old new
row_numbered number old new same each = record {
  shapes = views_agree shape_of shape_of old new same (λ k d lt. (each k d lt).shape);
  texts = views_agree texts_of texts_of old new same (λ k d lt. (each k d lt).texts);
  tokens = views_agree tokens_of tokens_of old new same (λ k d lt. (each k d lt).tokens);
  literals = views_agree literals_of literals_of old new same (λ k d lt. (each k d lt).literals);
  numbers = views_agree numbers_of (λ e. map number (variables_of e)) old new same (λ k d lt. (each k d lt).numbers);
}

-- an interpolation is numbered, and the part after it stays
pub record IsInterpolationNumbered (number : List ℕ → Option ℕ) (old new : Expression × StringLiteral) : Type 0 where
  pub expression : IsNumbered number old.0 new.0
  pub part : new.1 ≡ old.1

abbrev pub EachInterpolationIsNumbered : (List ℕ → Option ℕ) → List (Expression × StringLiteral) → List (Expression × StringLiteral) → ℕ → Type 0
EachInterpolationIsNumbered number old new count = (k : ℕ) (d : Expression × StringLiteral) → k < count → IsInterpolationNumbered number (get_or old k d) (get_or new k d)

pair_agrees : {A B : Type 0} (a b : A) (x y : B) → a ≡ b → x ≡ y → (let p : A × B = (a, x) in p) ≡ (let q : A × B = (b, y) in q)
pair_agrees a b x y first second = rw (first, second) refl

pub interpolations_numbered : (number : List ℕ → Option ℕ) (old new : List (Expression × StringLiteral)) → length new ≡ length old → EachInterpolationIsNumbered number old new (length old) → AreInterpolationsNumbered number old new
interpolations_numbered number old new same each = record {
  shapes = views_agree (beside shape_of) (beside shape_of) old new same (λ k d lt. pair_agrees _ _ _ _ (each k d lt).expression.shape (each k d lt).part);
  texts = views_agree (beside texts_of) (beside texts_of) old new same (λ k d lt. pair_agrees _ _ _ _ (each k d lt).expression.texts (each k d lt).part);
  tokens = views_agree (beside tokens_of) (beside tokens_of) old new same (λ k d lt. pair_agrees _ _ _ _ (each k d lt).expression.tokens (each k d lt).part);
  literals = views_agree (beside literals_of) (beside literals_of) old new same (λ k d lt. pair_agrees _ _ _ _ (each k d lt).expression.literals (each k d lt).part);
  numbers = views_agree (beside numbers_of) (beside (λ e. map number (variables_of e))) old new same (λ k d lt. pair_agrees _ _ _ _ (each k d lt).expression.numbers (each k d lt).part);
}

-- the numbers of a row are those of its names
pub numbers_of_row : (number : List ℕ → Option ℕ) (es : List Expression) → flat_map (λ e. e) (map (λ e. map number (variables_of e)) es) ≡ map number (flat_map (λ e. e) (map variables_of es))
numbers_of_row number [] = refl
numbers_of_row number (e ∷ es) = rw (map-append, numbers_of_row number es) refl

-- the same of interpolations
pub numbers_of_interpolations : (number : List ℕ → Option ℕ) (es : List (Expression × StringLiteral)) → flat_map (λ e. e.0) (map (beside (λ e. map number (variables_of e))) es) ≡ map number (flat_map (λ e. e.0) (map (beside variables_of) es))
numbers_of_interpolations number [] = refl
numbers_of_interpolations number (e ∷ es) = rw (map-append, numbers_of_interpolations number es) refl
