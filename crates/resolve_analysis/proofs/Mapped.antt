-- Lists that grow by what an element gives.
use Rattle.std.proofs.Common.{◌≡◌, ℕ, ◌+◌, ◌<◌, List, [], ◌∷◌, ◌++◌, append_assoc, get_or, length, map, take, Option, Some, None, ap, sym, ◌∙◌}
use Rattle.std.specs.List.{cons_option, filter_map}
use Rattle.std.proofs.lemmas.List.{map_push, take_more}

pub mapped_more : {X Y Z : Type 0} (f : Y → Z) (h : X → Z) (xs : List X) (i : ℕ) (x : X) (before after : List Y) (y : Y) → i < length xs → x ≡ get_or xs i x → after ≡ before ++ y ∷ [] → f y ≡ h x → map f before ≡ map h (take i xs)
    → map f after ≡ map h (take (i + 1) xs)
mapped_more f h xs i x before after y lt is pushed same so =
    ap (map f) pushed
    ∙ map_push f before y
    ∙ ap (λ zs. zs ++ f y ∷ []) so
    ∙ ap (λ z. map h (take i xs) ++ z ∷ []) (same ∙ ap h is)
    ∙ sym (ap (map h) (take_more xs i x lt) ∙ map_push h (take i xs) (get_or xs i x))

module _ {X Y Z : Type 0} (f : Y → Z) (gives : X → Option Z) (x : X) (left rest : List X) (before : List Y) (next : left ≡ x ∷ rest) where
  -- what the element gives is no longer left, but there
  pub given_more : (after : List Y) (y : Y) → gives x ≡ Some (f y) → after ≡ before ++ y ∷ [] → map f after ++ filter_map gives rest ≡ map f before ++ filter_map gives left
  given_more after y is pushed =
      ap (λ ys. map f ys ++ filter_map gives rest) pushed
      ∙ ap (λ zs. zs ++ filter_map gives rest) (map_push f before y)
      ∙ append_assoc (map f before) (f y ∷ []) (filter_map gives rest)
      ∙ ap (λ z. map f before ++ cons_option z (filter_map gives rest)) (sym is)
      ∙ ap (λ xs. map f before ++ filter_map gives xs) (sym next)

  -- it gives nothing
  pub given_none : gives x ≡ None → map f before ++ filter_map gives rest ≡ map f before ++ filter_map gives left
  given_none is =
      ap (λ z. map f before ++ cons_option z (filter_map gives rest)) (sym is)
      ∙ ap (λ xs. map f before ++ filter_map gives xs) (sym next)
