-- Contexts that stand for constants, and for variables above these.
use Rattle.std.proofs.Common.{◌≡◌, ◌∙◌, ℕ, zero, suc, ◌+◌, ◌<◌, List, [], ◌∷◌, ◌++◌, length, map, take, get_or, Option, Some, None, refl, sym, ap, subst, arith, append-nil}
use Rattle.std.specs.Prelude.{if◌then◌else◌, slice_get}
use Rattle.std.specs.Borrow.{Bor}
use Rattle.std.specs.List.{AllZip, cons_option}
use Rattle.std.specs.Option.{option_or}
use Rattle.std.specs.Str.{bytes_eq}
use Rattle.std.proofs.lemmas.List.{get_or-map, length-map, length-take, map-append, take_more}
use Rattle.std.proofs.lemmas.List.Elements.{filter_map-append}
use Rattle.just_value.specs.Constants.{constant_rows, row_of}
use Rattle.tree_expressions.specs.declared.expression.Expression.{Expression}
use Rattle.tree_items.specs.Contexts.{last_named, number_in}
use Rattle.tree_items.specs.declared.item.Binding.{Binding}
use Rattle.tree_items.specs.declared.variables.context.ExpressionContext.{ExpressionContext}
use Rattle.modules_compilation.specs.declared.compilation.Compilation.{Compilation}
use Rattle.modules_compilation.specs.declared.place.Place.{Place}
use Rattle.resolve_references.specs.Seen.{StandsFor}
use Rattle.resolve_references.proofs.Earlier.{over_more, stands_more}
use Rattle.resolve_analysis.specs.Bound.{binding_number, numbered_from}
use Rattle.resolve_analysis.specs.Lists.{variable_at, variables_at}

-- ---- constants

numbered_more : (number : ℕ) (rows : List (List ℕ × List ℕ)) (row : List ℕ × List ℕ) → numbered_from number (rows ++ row ∷ []) ≡ numbered_from number rows ++ (row.0, number + length rows) ∷ []
numbered_more number [] row = let same : number ≡ number + 0 = omega arith in ap (λ n. (row.0, n) ∷ []) same
numbered_more number (first ∷ rows) row =
    let same : suc number + length rows ≡ number + suc (length rows) = omega arith in
    ap (λ l. (first.0, number) ∷ l) (numbered_more (suc number) rows row ∙ ap (λ n. numbered_from (suc number) rows ++ (row.0, n) ∷ []) same)

-- a context that is given the next constant stands for one constant more
pub constants_more : (rows : List (Bor (List ℕ) × Bor (List ℕ))) (i : ℕ) (d : Bor (List ℕ) × Bor (List ℕ)) (old new : ExpressionContext) → map row_of rows ≡ constant_rows → i < length rows
    → StandsFor old (numbered_from 0 (take i constant_rows))
    → ((other : List ℕ) → number_in new other ≡ (if bytes_eq (row_of (get_or rows i d)).0 other then Some i else number_in old other))
    → StandsFor new (numbered_from 0 (take (i + 1) constant_rows))
constants_more rows i d old new are within stands more =
    subst (λ l. StandsFor new (numbered_from 0 (take (i + 1) l))) are
    (subst (StandsFor new) (sym named)
    (stands_more old new (numbered_from 0 (take i all)) (row.0, i) (subst (λ l. StandsFor old (numbered_from 0 (take i l))) (sym are) stands) more))
  where
    all : List (List ℕ × List ℕ)
    all = map row_of rows

    row : List ℕ × List ℕ
    row = row_of (get_or rows i d)

    long : length (map row_of rows) ≡ length rows
    long = length-map rows row_of

    place : 0 + length (take i (map row_of rows)) ≡ i
    place = let cut = length-take i (map row_of rows) in omega (arith, cut, within, long)

    named : numbered_from 0 (take (i + 1) (map row_of rows)) ≡ numbered_from 0 (take i (map row_of rows)) ++ (row.0, i) ∷ []
    named =
        ap (numbered_from 0) (take_more (map row_of rows) i (row_of d) (omega (arith, within, long)) ∙ ap (λ r. take i (map row_of rows) ++ r ∷ []) (get_or-map row_of rows i d (row_of d) within))
        ∙ numbered_more 0 (take i (map row_of rows)) row
        ∙ ap (λ n. numbered_from 0 (take i (map row_of rows)) ++ (row.0, n) ∷ []) place

-- ---- variables

module _ (compilation : Compilation) where
  -- the names and numbers of the variables at these places
  abbrev pub numbers_at : List Place → List (List ℕ × ℕ)
  numbers_at places = map binding_number (variables_at compilation places)

  numbers_more : (places : List Place) (place : Place) → numbers_at (places ++ place ∷ []) ≡ numbers_at places ++ map binding_number (cons_option (variable_at compilation place) [])
  numbers_more places place = ap (map binding_number) (filter_map-append (variable_at compilation) places (place ∷ [])) ∙ map-append binding_number (variables_at compilation places) (cons_option (variable_at compilation place) [])

  -- the context has the numbers of these names, and under them others
  abbrev pub StandsOver : ExpressionContext → List (List ℕ × ℕ) → (List ℕ → Option ℕ) → Type 0
  StandsOver context names under = (name : List ℕ) → number_in context name ≡ option_or (last_named name names) (under name)

  -- one place more, at which a variable stands
  pub variable_more : (places : List Place) (i : ℕ) (d : Place) (variable : Binding Expression) (old new : ExpressionContext) (under : List ℕ → Option ℕ) → i < length places
      → variable_at compilation (get_or places i d) ≡ Some variable
      → StandsOver old (numbers_at (take i places)) under
      → ((other : List ℕ) → number_in new other ≡ (if bytes_eq (binding_number variable).0 other then Some (binding_number variable).1 else number_in old other))
      → StandsOver new (numbers_at (take (i + 1) places)) under
  variable_more places i d variable old new under within is stands more =
      subst (λ l. StandsOver new l under) (sym named) (over_more old new (numbers_at (take i places)) (binding_number variable) under stands more)
    where
      named : numbers_at (take (i + 1) places) ≡ numbers_at (take i places) ++ binding_number variable ∷ []
      named =
          ap numbers_at (take_more places i d within)
          ∙ numbers_more (take i places) (get_or places i d)
          ∙ ap (λ o. numbers_at (take i places) ++ map binding_number (cons_option o [])) is

  -- one place more, at which no variable stands
  pub no_variable_more : (places : List Place) (i : ℕ) (d : Place) (context : ExpressionContext) (under : List ℕ → Option ℕ) → i < length places
      → variable_at compilation (get_or places i d) ≡ None
      → StandsOver context (numbers_at (take i places)) under → StandsOver context (numbers_at (take (i + 1) places)) under
  no_variable_more places i d context under within is stands = subst (λ l. StandsOver context l under) (sym named) stands
    where
      named : numbers_at (take (i + 1) places) ≡ numbers_at (take i places)
      named =
          ap numbers_at (take_more places i d within)
          ∙ numbers_more (take i places) (get_or places i d)
          ∙ ap (λ o. numbers_at (take i places) ++ map binding_number (cons_option o [])) is
          ∙ append-nil (numbers_at (take i places))

-- ---- contexts of modules

-- what holds of two rows place by place holds at a place
pub at_place : {A B : Type 0} (R : A → B → Type 0) (xs : List A) (ys : List B) → AllZip R xs ys → (k : ℕ) (x : A) → slice_get xs k ≡ Some x → (y : B) × (slice_get ys k ≡ Some y) × R x y
at_place R [] [] are k x e = absurd (cc e)
at_place R [] (y ∷ ys) are k x e = absurd are
at_place R (w ∷ xs) [] are k x e = absurd are
at_place R (w ∷ xs) (y ∷ ys) are zero x e = (y, refl, subst (λ z. R z y) (cc e) are.0)
at_place R (w ∷ xs) (y ∷ ys) are (suc k) x e = at_place R xs ys are.1 k x e

-- one pair more at the ends of two rows
zip_more : {A B : Type 0} (R : A → B → Type 0) (xs : List A) (ys : List B) (x : A) (y : B) → AllZip R xs ys → R x y → AllZip R (xs ++ x ∷ []) (ys ++ y ∷ [])
zip_more R [] [] x y are one = (one, tt)
zip_more R [] (z ∷ ys) x y are one = absurd are
zip_more R (w ∷ xs) [] x y are one = absurd are
zip_more R (w ∷ xs) (z ∷ ys) x y are one = (are.0, zip_more R xs ys x y are.1 one)

-- one module more has its context
pub contexts_more : {A B : Type 0} (R : A → B → Type 0) (xs : List A) (i : ℕ) (x : A) (before after : List B) (y : B) → i < length xs → x ≡ get_or xs i x → after ≡ before ++ y ∷ []
    → AllZip R (take i xs) before → R x y → AllZip R (take (i + 1) xs) after
contexts_more R xs i x before after y within is pushed are one =
    subst (λ l. AllZip R l after) (ap (λ z. take i xs ++ z ∷ []) is ∙ sym (take_more xs i x within))
    (subst (AllZip R (take i xs ++ x ∷ [])) (sym pushed) (zip_more R (take i xs) before x y are one))
