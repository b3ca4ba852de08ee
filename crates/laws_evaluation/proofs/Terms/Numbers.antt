-- Where each variable of a whole expression has the number of its name, each of each part has.
use Rattle.std.proofs.Common.{◌≡◌, ℕ, List, [], ◌∷◌, ◌++◌, length, map, Option, Some, None, refl, sym, ap, ◌∙◌}
use Rattle.std.specs.List.{AllByRecursion, flat_map}
use Rattle.just_text.specs.Tokens.{lexeme}
use Rattle.tree_expressions.specs.declared.string_literal.StringLiteral.{StringLiteral}
use Rattle.tree_expressions.specs.declared.expression.Expression.{Expression, roll-Expression, map-Expression}
use Rattle.tree_expressions.specs.declared.expression.Expression.TheOpen.{Expression-F}
use Rattle.tree_expressions.specs.declared.expression.Expression.TheFolds.{fold-roll-Expression}
use Rattle.tree_expressions.specs.Numbering.{numbers_of, numbers_step, variables_of, names_step, beside}
use Rattle.laws_evaluation.specs.Terms.Parts.{EachPart, TrueOfParts}
use Rattle.laws_evaluation.specs.Terms.Own.{HasNumbers, HasLevelNumber}
use Rattle.laws_evaluation.proofs.Terms.Induction.{induction}
use Rattle.laws_evaluation.proofs.Terms.Splitting.{map_lengths, map_split}

number_is : (one other : Option ℕ) → one ∷ [] ≡ other ∷ [] → one ≡ other
number_is one other h = cc

module _ (number : List ℕ → Option ℕ) where
  -- the numbers at a level, and those of its names
  abbrev found : Expression-F Expression → List (Option ℕ)
  found level = numbers_step (map-Expression Expression (List (Option ℕ)) numbers_of level)

  abbrev wanted : Expression-F Expression → List (Option ℕ)
  wanted level = map number (names_step (map-Expression Expression (List (List ℕ)) variables_of level))

  found_is : (level : Expression-F Expression) → numbers_of (roll-Expression level) ≡ found level
  found_is level = fold-roll-Expression (List (Option ℕ)) numbers_step level

  wanted_is : (level : Expression-F Expression) → map number (variables_of (roll-Expression level)) ≡ wanted level
  wanted_is level = ap (map number) (fold-roll-Expression (List (List ℕ)) names_step level)

  -- there are as many numbers as names
  abbrev HasEnough : Expression → Type 0
  HasEnough e = length (numbers_of e) ≡ length (map number (variables_of e))

  row_length : (es : List Expression) → AllByRecursion HasEnough es → length (flat_map (λ e. e) (map numbers_of es)) ≡ length (map number (flat_map (λ e. e) (map variables_of es)))
  row_length [] h = refl
  row_length (e ∷ es) h = map_lengths number (numbers_of e) _ (variables_of e) _ h.0 (row_length es h.1)

  interpolations_length : (es : List (Expression × StringLiteral)) → AllByRecursion (λ (e : Expression × StringLiteral). HasEnough e.0) es
      → length (flat_map (λ e. e.0) (map (beside numbers_of) es)) ≡ length (map number (flat_map (λ e. e.0) (map (beside variables_of) es)))
  interpolations_length [] h = refl
  interpolations_length (e ∷ es) h = map_lengths number (numbers_of e.0) _ (variables_of e.0) _ h.0 (interpolations_length es h.1)

  both_length : (l r : Expression) → HasEnough l → HasEnough r → length (numbers_of l ++ numbers_of r) ≡ length (map number (variables_of l ++ variables_of r))
  both_length l r h g = map_lengths number (numbers_of l) (numbers_of r) (variables_of l) (variables_of r) h g

  level_length : (level : Expression-F Expression) → EachPart HasEnough level → length (found level) ≡ length (wanted level)
  level_length (Expression-F.And l r) h = both_length l.value r.value h.0 h.1
  level_length (Expression-F.Assert c None name) h = h
  level_length (Expression-F.Assert c (Some m) name) h = both_length c.value m.value h.0 h.1
  level_length (Expression-F.Backtick contents token) h = refl
  level_length (Expression-F.Call name es) h = row_length es.items h
  level_length (Expression-F.Comparison l operator r token) h = both_length l.value r.value h.0 h.1
  level_length (Expression-F.Concatenation l token r) h = both_length l.value r.value h.0 h.1
  level_length (Expression-F.Conditional c t None) h = both_length c.value t.value h.0 h.1
  level_length (Expression-F.Conditional c t (Some o)) h =
      map_lengths number (numbers_of c.value ++ numbers_of t.value) (numbers_of o.value) (variables_of c.value ++ variables_of t.value) (variables_of o.value) (both_length c.value t.value h.0 h.1) h.2
  level_length (Expression-F.FormatString start es) h = interpolations_length es.items h
  level_length (Expression-F.Group e) h = h
  level_length (Expression-F.Join None token r) h = h
  level_length (Expression-F.Join (Some l) token r) h = both_length l.value r.value h.0 h.1
  level_length (Expression-F.List es token) h = row_length es.items h
  level_length (Expression-F.ListConcatenation l token r) h = both_length l.value r.value h.0 h.1
  level_length (Expression-F.Not e) h = h
  level_length (Expression-F.Or l r) h = both_length l.value r.value h.0 h.1
  level_length (Expression-F.StringLiteral s) h = refl
  level_length (Expression-F.Variable name it) h = refl

  pub has_enough : (e : Expression) → HasEnough e
  has_enough = induction HasEnough (λ level h. ap length (found_is level) ∙ level_length level h ∙ sym (ap length (wanted_is level)))

  two : (l r : Expression) → numbers_of l ++ numbers_of r ≡ map number (variables_of l ++ variables_of r) → HasNumbers number l × HasNumbers number r
  two l r h = map_split number (numbers_of l) (numbers_of r) (variables_of l) (variables_of r) (has_enough l) h

  three : (c t o : Expression) → (numbers_of c ++ numbers_of t) ++ numbers_of o ≡ map number ((variables_of c ++ variables_of t) ++ variables_of o) → HasNumbers number c × HasNumbers number t × HasNumbers number o
  three c t o h =
      let parts = map_split number (numbers_of c ++ numbers_of t) (numbers_of o) (variables_of c ++ variables_of t) (variables_of o) (both_length c t (has_enough c) (has_enough t)) h in
      let first = two c t parts.0 in
      (first.0, first.1, parts.1)

  row : (es : List Expression) → flat_map (λ e. e) (map numbers_of es) ≡ map number (flat_map (λ e. e) (map variables_of es)) → AllByRecursion (HasNumbers number) es
  row [] h = tt
  row (e ∷ es) h =
      let parts = map_split number (numbers_of e) (flat_map (λ e. e) (map numbers_of es)) (variables_of e) (flat_map (λ e. e) (map variables_of es)) (has_enough e) h in
      (parts.0, row es parts.1)

  interpolations : (es : List (Expression × StringLiteral)) → flat_map (λ e. e.0) (map (beside numbers_of) es) ≡ map number (flat_map (λ e. e.0) (map (beside variables_of) es))
      → AllByRecursion (λ (e : Expression × StringLiteral). HasNumbers number e.0) es
  interpolations [] h = tt
  interpolations (e ∷ es) h =
      let parts = map_split number (numbers_of e.0) (flat_map (λ e. e.0) (map (beside numbers_of) es)) (variables_of e.0) (flat_map (λ e. e.0) (map (beside variables_of) es)) (has_enough e.0) h in
      (parts.0, interpolations es parts.1)

  level_parts : (level : Expression-F Expression) → found level ≡ wanted level → HasLevelNumber number level × EachPart (HasNumbers number) level
  level_parts (Expression-F.And l r) h = (tt, two l.value r.value h)
  level_parts (Expression-F.Assert c None name) h = (tt, h)
  level_parts (Expression-F.Assert c (Some m) name) h = (tt, two c.value m.value h)
  level_parts (Expression-F.Backtick contents token) h = (tt, tt)
  level_parts (Expression-F.Call name es) h = (tt, row es.items h)
  level_parts (Expression-F.Comparison l operator r token) h = (tt, two l.value r.value h)
  level_parts (Expression-F.Concatenation l token r) h = (tt, two l.value r.value h)
  level_parts (Expression-F.Conditional c t None) h = (tt, two c.value t.value h)
  level_parts (Expression-F.Conditional c t (Some o)) h = (tt, three c.value t.value o.value h)
  level_parts (Expression-F.FormatString start es) h = (tt, interpolations es.items h)
  level_parts (Expression-F.Group e) h = (tt, h)
  level_parts (Expression-F.Join None token r) h = (tt, h)
  level_parts (Expression-F.Join (Some l) token r) h = (tt, two l.value r.value h)
  level_parts (Expression-F.List es token) h = (tt, row es.items h)
  level_parts (Expression-F.ListConcatenation l token r) h = (tt, two l.value r.value h)
  level_parts (Expression-F.Not e) h = (tt, h)
  level_parts (Expression-F.Or l r) h = (tt, two l.value r.value h)
  level_parts (Expression-F.StringLiteral s) h = (tt, tt)
  level_parts (Expression-F.Variable name it) h = (number_is it (number (lexeme name.token)) h, tt)

  -- where each variable of an expression has the number of its name, each of each part has
  pub has_numbers : TrueOfParts (HasNumbers number) (HasLevelNumber number)
  has_numbers = record { at = λ level h. level_parts level (sym (found_is level) ∙ h ∙ wanted_is level) }
