-- Results that are gathered, and first answers, one element after the other.
use Rattle.std.proofs.Common.{◌≡◌, List, [], ◌∷◌, ◌++◌, append_assoc, Option, Some, None, Result, Ok, Err, refl, sym, ap, ◌∙◌}
use Rattle.std.specs.List.{cons_option, filter_map}
use Rattle.std.specs.Option.{option_or}
use Rattle.std.proofs.lemmas.List.{append-nil}
use Rattle.just_resolve.specs.Gathered.{all_before, gathered, one_before}
use Rattle.just_resolve.specs.Table.{first_of}

pub after_all : {A E : Type 0} (some more : List A) (others : Result (List A) E) → all_before (some ++ more) others ≡ all_before some (all_before more others)
after_all some more (Ok others) = ap Ok (append_assoc some more others)
after_all some more (Err fault) = refl

module _ {X A E : Type 0} (of : X → Result A E) where
  -- what is gathered, where nothing is left
  pub all_gathered : (some : List A) (left : List X) (all : Result (List A) E) → left ≡ [] → all_before some (gathered of left) ≡ all → all ≡ Ok some
  all_gathered some left all none so = sym so ∙ ap (λ xs. all_before some (gathered of xs)) none ∙ ap (λ ys. Ok ys) (append-nil some)

  module _ (x : X) (left rest : List X) (next : left ≡ x ∷ rest) where
    -- one more
    pub one_goes : (some : List A) (a : A) → of x ≡ Ok a → all_before (some ++ a ∷ []) (gathered of rest) ≡ all_before some (gathered of left)
    one_goes some a is = after_all some (a ∷ []) (gathered of rest) ∙ ap (λ r. all_before some (one_before r (gathered of rest))) (sym is) ∙ ap (λ xs. all_before some (gathered of xs)) (sym next)

    -- one that is refused
    pub one_stops : (some : List A) (all : Result (List A) E) (fault : E) → of x ≡ Err fault → all_before some (gathered of left) ≡ all → all ≡ Err fault
    one_stops some all fault is so = sym so ∙ ap (λ xs. all_before some (gathered of xs)) next ∙ ap (λ r. all_before some (one_before r (gathered of rest))) is

module _ {X Y : Type 0} (of : X → Option Y) (x : X) (left rest : List X) (next : left ≡ x ∷ rest) where
  -- an element without an answer
  pub one_passes : of x ≡ None → first_of of rest ≡ first_of of left
  one_passes is = ap (λ o. option_or o (first_of of rest)) (sym is) ∙ ap (first_of of) (sym next)

  -- the first with one
  pub one_answers : (y : Y) (all : Option Y) → of x ≡ Some y → first_of of left ≡ all → all ≡ Some y
  one_answers y all is so = sym so ∙ ap (first_of of) next ∙ ap (λ o. option_or o (first_of of rest)) is

module _ {X Z : Type 0} (gives : X → Option Z) (x : X) (left rest : List X) (before : List Z) (next : left ≡ x ∷ rest) where
  -- what the element gives is no longer left, but there
  pub listed_more : (y : Z) → gives x ≡ Some y → (before ++ y ∷ []) ++ filter_map gives rest ≡ before ++ filter_map gives left
  listed_more y is = append_assoc before (y ∷ []) (filter_map gives rest) ∙ ap (λ o. before ++ cons_option o (filter_map gives rest)) (sym is) ∙ ap (λ xs. before ++ filter_map gives xs) (sym next)

  -- it gives nothing
  pub listed_none : gives x ≡ None → before ++ filter_map gives rest ≡ before ++ filter_map gives left
  listed_none is = ap (λ o. before ++ cons_option o (filter_map gives rest)) (sym is) ∙ ap (λ xs. before ++ filter_map gives xs) (sym next)
