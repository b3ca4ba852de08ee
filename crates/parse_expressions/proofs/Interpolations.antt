-- Interpolations that were read before those that are still to be read.
use Rattle.std.proofs.Common.{◌≡◌, ℕ, suc, ◌-◌, ◌<◌, Bool, true, false, List, [], ◌∷◌, ◌++◌, length, map, Ok, Err, refl, sym, ap, subst, ◌∙◌, arith, append_assoc}
use Rattle.just_text.specs.Tokens.{word_of}
use Rattle.just_text.specs.declared.token.Token.{Token}
use Rattle.tree_expressions.specs.declared.string_kind.StringKind.{StringKind}
use Rattle.tree_expressions.specs.declared.string_literal.StringLiteral.{StringLiteral}
use Rattle.tree_expressions.specs.Parts.{cooked_part}
use Rattle.tree_expressions.specs.declared.expression.Expression.{Expression}
use Rattle.tree_expressions.specs.Shape.{Interpolations, closed, interpolation, shape_of, interpolations_of, written}
use Rattle.parse_expressions.specs.declared.fault.Fault.{Fault}
use Rattle.parse_expressions.specs.declared.fault.Fault.TheVariants as faults
use Rattle.parse_expressions.specs.Literals.{Expansion, Origin, cooked_in, cooked_in_interpolations, held_by, held_by_interpolations, of_string, string_held, text_or_none, IsCooked, AreInterpolationsCooked}
use Rattle.parse_expressions.specs.Reading.{◌>>=◌, Read, Fails, part_at, interpolation_at, interpolations_at, expression_at}
use Rattle.parse_expressions.proofs.Shorter.{expression_shorter, part_shorter}

-- interpolations that were read, and others after them
abbrev pub joined_interpolations : List (Expression × StringLiteral) → Interpolations → Interpolations
joined_interpolations [] hs = hs
joined_interpolations (f ∷ fs) hs = interpolation (shape_of f.0) (written f.1) (joined_interpolations fs hs)

abbrev pub before_interpolations : List (Expression × StringLiteral) → Read Token Interpolations → Read Token Interpolations
before_interpolations fs read = read >>= λ x. Ok (joined_interpolations fs x.0, x.1)

joined_interpolations-end : (fs : List (Expression × StringLiteral)) → joined_interpolations fs closed ≡ interpolations_of fs
joined_interpolations-end [] = refl
joined_interpolations-end (f ∷ fs) = ap (interpolation (shape_of f.0) (written f.1)) (joined_interpolations-end fs)

joined_interpolations-more : (fs : List (Expression × StringLiteral)) (e : Expression) (s : StringLiteral) (hs : Interpolations) → joined_interpolations fs (interpolation (shape_of e) (written s) hs) ≡ joined_interpolations (fs ++ (e, s) ∷ []) hs
joined_interpolations-more [] e s hs = refl
joined_interpolations-more (f ∷ fs) e s hs = ap (interpolation (shape_of f.0) (written f.1)) (joined_interpolations-more fs e s hs)

joined_interpolations-last : (fs : List (Expression × StringLiteral)) (e : Expression) (s : StringLiteral) → joined_interpolations fs (interpolation (shape_of e) (written s) closed) ≡ interpolations_of (fs ++ (e, s) ∷ [])
joined_interpolations-last fs e s = joined_interpolations-more fs e s closed ∙ joined_interpolations-end (fs ++ (e, s) ∷ [])

regroup_interpolations : (fs : List (Expression × StringLiteral)) (e : Expression) (s : StringLiteral) (read : Read Token Interpolations)
    → before_interpolations fs (read >>= λ hs. Ok (interpolation (shape_of e) (written s) hs.0, hs.1)) ≡ before_interpolations (fs ++ (e, s) ∷ []) read
regroup_interpolations fs e s (Ok y) = ap (λ (hs : Interpolations). Ok (hs, y.1)) (joined_interpolations-more fs e s y.0)
regroup_interpolations fs e s (Err f) = refl

module _ (x : Expansion) (d : ℕ) (kind : StringKind) (fs : List (Expression × StringLiteral)) (n : ℕ) (ts : List Token) (total : Read Token Interpolations) (fuel : length ts < n)
    (so_far : before_interpolations fs (interpolations_at word_of x (expression_at word_of x d) n kind ts) ≡ total) where
  next_interpolation : before_interpolations fs (interpolations_at word_of x (expression_at word_of x d) (suc (n - 1)) kind ts) ≡ total
  next_interpolation = let k : n ≡ suc (n - 1) = omega arith in subst (λ (m : ℕ). before_interpolations fs (interpolations_at word_of x (expression_at word_of x d) m kind ts) ≡ total) k so_far

  pub no_interpolation : (e : Fault) → Fails e (expression_at word_of x d 6 ts) → Fails e total
  unfolding interpolations_at interpolation_at
  no_interpolation faults.OutOfMemory h = tt
  no_interpolation faults.NumbersUsed h = absurd h
  no_interpolation (faults.Unexpected found) h = rw h at (sym next_interpolation)
  no_interpolation (faults.Refused token why) h = rw h at (sym next_interpolation)

  pub no_part : (e : Expression) (a : List Token) → expression_at word_of x d 6 ts ≡ Ok (shape_of e, a) → (f : Fault) → Fails f (part_at word_of kind a) → Fails f total
  unfolding interpolations_at interpolation_at
  no_part e a read faults.OutOfMemory h = tt
  no_part e a read faults.NumbersUsed h = absurd h
  no_part e a read (faults.Unexpected found) h = rw (read, h) at (sym next_interpolation)
  no_part e a read (faults.Refused token why) h = rw (read, h) at (sym next_interpolation)

  pub is_last_interpolation : (e : Expression) (a : List Token) (s : StringLiteral) (rest : List Token) → expression_at word_of x d 6 ts ≡ Ok (shape_of e, a) → part_at word_of kind a ≡ Ok ((written s, false), rest)
      → total ≡ Ok (interpolations_of (fs ++ (e, s) ∷ []), rest)
  unfolding interpolations_at interpolation_at
  is_last_interpolation e a s rest read part = (rw (read, part) at (sym next_interpolation)) ∙ ap (λ (hs : Interpolations). Ok (hs, rest)) (joined_interpolations-last fs e s)

  pub more_interpolations : (e : Expression) (a : List Token) (s : StringLiteral) (b : List Token) → expression_at word_of x d 6 ts ≡ Ok (shape_of e, a) → part_at word_of kind a ≡ Ok ((written s, true), b)
      → before_interpolations (fs ++ (e, s) ∷ []) (interpolations_at word_of x (expression_at word_of x d) (n - 1) kind b) ≡ total
  unfolding interpolations_at interpolation_at
  more_interpolations e a s b read part = sym (regroup_interpolations fs e s (interpolations_at word_of x (expression_at word_of x d) (n - 1) kind b)) ∙ (rw (read, part) at next_interpolation)

-- what interpolations hold, the last apart
held_behind : (fs : List (Expression × StringLiteral)) (e : Expression) (s : StringLiteral)
    → held_by_interpolations (map (λ f. (held_by f.0, f.1)) (fs ++ (e, s) ∷ [])) ≡ held_by_interpolations (map (λ f. (held_by f.0, f.1)) fs) ++ (held_by e ++ string_held s ∷ [])
held_behind [] e s = refl
held_behind (f ∷ fs) e s = rw (held_behind fs e s) (sym (append_assoc (held_by f.0) (string_held f.1 ∷ held_by_interpolations (map (λ f. (held_by f.0, f.1)) fs)) (held_by e ++ string_held s ∷ [])))

cooked_behind : (x : Origin) (kind : StringKind) (fs : List (Expression × StringLiteral)) (e : Expression) (s : StringLiteral)
    → cooked_in_interpolations x kind (interpolations_of (fs ++ (e, s) ∷ [])) ≡ cooked_in_interpolations x kind (interpolations_of fs) ++ (cooked_in x (shape_of e) ++ of_string kind (text_or_none (cooked_part kind (written s))) ∷ [])
cooked_behind x kind [] e s = refl
cooked_behind x kind (f ∷ fs) e s =
    rw (cooked_behind x kind fs e s) (sym (append_assoc (cooked_in x (shape_of f.0)) (of_string kind (text_or_none (cooked_part kind (written f.1))) ∷ cooked_in_interpolations x kind (interpolations_of fs)) (cooked_in x (shape_of e) ++ of_string kind (text_or_none (cooked_part kind (written s))) ∷ [])))

-- with one interpolation more they hold what their parts and strings stand for
pub one_more_interpolation_cooked : (x : Origin) (kind : StringKind) (fs : List (Expression × StringLiteral)) (e : Expression) (s : StringLiteral)
    → AreInterpolationsCooked x kind fs → IsCooked x e → cooked_part kind (written s) ≡ Ok s.cooked → s.kind ≡ kind → AreInterpolationsCooked x kind (fs ++ (e, s) ∷ [])
one_more_interpolation_cooked x kind fs e s these this part of_kind =
    let other : cooked_in x (shape_of e) ++ of_string kind (text_or_none (cooked_part kind (written s))) ∷ [] ≡ held_by e ++ string_held s ∷ [] = rw (part, of_kind, ← this) refl in
    held_behind fs e s ∙ ap (λ held. held ++ (held_by e ++ string_held s ∷ [])) these ∙ sym (cooked_behind x kind fs e s ∙ ap (λ held. cooked_in_interpolations x kind (interpolations_of fs) ++ held) other)

pub interpolation_shorter : (x : Expansion) (d : ℕ) (kind : StringKind) (e : Expression) (ts a : List Token) (s : List ℕ × Bool) (b : List Token) → expression_at word_of x d 6 ts ≡ Ok (shape_of e, a) → part_at word_of kind a ≡ Ok (s, b) → length b < length ts
interpolation_shorter x d kind e ts a s b read part =
    let less = expression_shorter word_of x d 6 ts (shape_of e, a) read in
    let behind = part_shorter word_of kind a (s, b) part in omega (arith, less, behind)
