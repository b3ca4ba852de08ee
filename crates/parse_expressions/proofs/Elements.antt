-- Elements that were read before those that are still to be read.
use Rattle.std.proofs.Common.{◌≡◌, ℕ, suc, ◌-◌, ◌<◌, List, [], ◌∷◌, ◌++◌, length, Ok, Err, Option, Some, None, refl, sym, ap, subst, ◌∙◌, arith, append_assoc}
use Rattle.std.proofs.lemmas.List.{append-nil}
use Rattle.std.specs.Prelude.{option_map, IsSome}
use Rattle.std.specs.List.{flat_map}
use Rattle.just_text.specs.Tokens.{word_of}
use Rattle.just_text.specs.declared.token.Token.{Token}
use Rattle.just_text.specs.declared.token_kind.TokenKind.{TokenKind}
use Rattle.just_text.specs.declared.token_kind.TokenKind.TheVariants.{Comma}
use Rattle.tree_expressions.specs.declared.expression.Expression.{Expression}
use Rattle.tree_expressions.specs.Shape.{Shapes, end, more, shape_of, shapes_of}
use Rattle.parse_expressions.specs.declared.fault.Fault.{Fault}
use Rattle.parse_expressions.specs.declared.fault.Fault.TheVariants as faults
use Rattle.parse_expressions.specs.Literals.{Expansion, Origin, held_by, cooked_in, cooked_in_all, IsCooked, AreCooked}
use Rattle.parse_expressions.specs.Reading.{◌>>=◌, Read, Fails, accept, expect, elements_at, expression_at}
use Rattle.parse_expressions.proofs.Shorter.{accept_shorter, expression_shorter}

-- elements that were read, and others after them
abbrev pub joined : List Expression → Shapes → Shapes
joined [] es = es
joined (f ∷ fs) es = more (shape_of f) (joined fs es)

abbrev pub before : List Expression → Read Token Shapes → Read Token Shapes
before fs read = read >>= λ x. Ok (joined fs x.0, x.1)

joined-end : (fs : List Expression) → joined fs end ≡ shapes_of fs
joined-end [] = refl
joined-end (f ∷ fs) = ap (more (shape_of f)) (joined-end fs)

joined-more : (fs : List Expression) (e : Expression) (es : Shapes) → joined fs (more (shape_of e) es) ≡ joined (fs ++ e ∷ []) es
joined-more [] e es = refl
joined-more (f ∷ fs) e es = ap (more (shape_of f)) (joined-more fs e es)

joined-last : (fs : List Expression) (e : Expression) → joined fs (more (shape_of e) end) ≡ shapes_of (fs ++ e ∷ [])
joined-last fs e = joined-more fs e end ∙ joined-end (fs ++ e ∷ [])

regroup : (fs : List Expression) (e : Expression) (read : Read Token Shapes) → before fs (read >>= λ es. Ok (more (shape_of e) es.0, es.1)) ≡ before (fs ++ e ∷ []) read
regroup fs e (Ok y) = ap (λ (es : Shapes). Ok (es, y.1)) (joined-more fs e y.0)
regroup fs e (Err f) = refl

module _ (x : Expansion) (d : ℕ) (close : TokenKind) (fs : List Expression) (n : ℕ) (ts : List Token) (total : Read Token Shapes) (fuel : length ts < n)
    (so_far : before fs (elements_at word_of x (expression_at word_of x d) n close ts) ≡ total) where
  next : before fs (elements_at word_of x (expression_at word_of x d) (suc (n - 1)) close ts) ≡ total
  next = let k : n ≡ suc (n - 1) = omega arith in subst (λ (m : ℕ). before fs (elements_at word_of x (expression_at word_of x d) m close ts) ≡ total) k so_far

  pub no_element : accept word_of close ts ≡ None → (e : Fault) → Fails e (expression_at word_of x d 6 ts) → Fails e total
  unfolding elements_at
  no_element open_still faults.OutOfMemory h = tt
  no_element open_still faults.NumbersUsed h = absurd h
  no_element open_still (faults.Unexpected found) h = rw (open_still, h) at (sym next)
  no_element open_still (faults.Refused token kind) h = rw (open_still, h) at (sym next)

  pub no_close : (e : Expression) (a : List Token) → accept word_of close ts ≡ None → expression_at word_of x d 6 ts ≡ Ok (shape_of e, a) → accept word_of Comma a ≡ None → (f : Fault) → Fails f (expect word_of close a) → Fails f total
  unfolding elements_at
  no_close e a open_still read no_comma faults.OutOfMemory h = tt
  no_close e a open_still read no_comma faults.NumbersUsed h = absurd h
  no_close e a open_still read no_comma (faults.Unexpected found) h = rw (open_still, read, no_comma, h) at (sym next)
  no_close e a open_still read no_comma (faults.Refused token kind) h = rw (open_still, read, no_comma, h) at (sym next)

  pub is_last : (e : Expression) (a : List Token) (t : Token) (rest : List Token) → accept word_of close ts ≡ None → expression_at word_of x d 6 ts ≡ Ok (shape_of e, a) → accept word_of Comma a ≡ None → expect word_of close a ≡ Ok (t, rest)
      → total ≡ Ok (shapes_of (fs ++ e ∷ []), rest)
  unfolding elements_at
  is_last e a t rest open_still read no_comma closes = (rw (open_still, read, no_comma, closes) at (sym next)) ∙ ap (λ (es : Shapes). Ok (es, rest)) (joined-last fs e)

  pub goes_on : (e : Expression) (a : List Token) (t : Token) (b : List Token) → accept word_of close ts ≡ None → expression_at word_of x d 6 ts ≡ Ok (shape_of e, a) → accept word_of Comma a ≡ Some (t, b)
      → before (fs ++ e ∷ []) (elements_at word_of x (expression_at word_of x d) (n - 1) close b) ≡ total
  unfolding elements_at
  goes_on e a t b open_still read comma = sym (regroup fs e (elements_at word_of x (expression_at word_of x d) (n - 1) close b)) ∙ (rw (open_still, read, comma) at next)

  pub at_end : (t : Token) (rest : List Token) → accept word_of close ts ≡ Some (t, rest) → total ≡ Ok (shapes_of fs, rest)
  unfolding elements_at
  at_end t rest closes = (rw closes at (sym next)) ∙ ap (λ (es : Shapes). Ok (es, rest)) (joined-end fs)

pub cooked_behind : (x : Origin) (fs : List Expression) (e : Expression) → cooked_in_all x (shapes_of (fs ++ e ∷ [])) ≡ cooked_in_all x (shapes_of fs) ++ cooked_in x (shape_of e)
cooked_behind x [] e = append-nil (cooked_in x (shape_of e))
cooked_behind x (f ∷ fs) e = ap (λ held. cooked_in x (shape_of f) ++ held) (cooked_behind x fs e) ∙ sym (append_assoc (cooked_in x (shape_of f)) (cooked_in_all x (shapes_of fs)) (cooked_in x (shape_of e)))

pub held_behind : (fs : List Expression) (e : Expression) → flat_map held_by (fs ++ e ∷ []) ≡ flat_map held_by fs ++ held_by e
held_behind [] e = append-nil (held_by e)
held_behind (f ∷ fs) e = ap (λ held. held_by f ++ held) (held_behind fs e) ∙ sym (append_assoc (held_by f) (flat_map held_by fs) (held_by e))

-- a row with one element more holds what its strings stand for
pub one_more_cooked : (x : Origin) (fs : List Expression) (e : Expression) → AreCooked x fs → IsCooked x e → AreCooked x (fs ++ e ∷ [])
one_more_cooked x fs e these this = held_behind fs e ∙ ap (λ held. held ++ held_by e) these ∙ ap (λ held. cooked_in_all x (shapes_of fs) ++ held) this ∙ sym (cooked_behind x fs e)

-- what an option that is not none took
pub taken : (kind : TokenKind) (ts : List Token) (o : Option Token) (rest : List Token) → accept word_of kind ts ≡ option_map (λ t. (t, rest)) o → IsSome o → (t : Token) × (accept word_of kind ts ≡ Some (t, rest))
taken kind ts None rest h some = absurd cc
taken kind ts (Some t) rest h some = (t, h)

pub element_shorter : (x : Expansion) (d : ℕ) (e : Expression) (ts a : List Token) (t : Token) (b : List Token) → expression_at word_of x d 6 ts ≡ Ok (shape_of e, a) → accept word_of Comma a ≡ Some (t, b) → length b < length ts
element_shorter x d e ts a t b read comma =
    let less = expression_shorter word_of x d 6 ts (shape_of e, a) read in
    let behind = accept_shorter word_of Comma a (t, b) comma in omega (arith, less, behind)
