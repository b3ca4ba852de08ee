-- The short names of options that were read are ASCII.
use Rattle.std.proofs.Common.{◌≡◌, cond, subst, inl, inr, sym, ◌∙◌, ap, Bool, true, false, List, [], ◌∷◌, ◌<◌, ℕ, Option, Some, None, refl, arith, true≢false}
use Rattle.std.specs.Prelude.{Contains, IfSome, find, nat_le, ◌&&◌, ◌||◌}
use Rattle.std.specs.List.{All}
use Rattle.std.specs.Option.{option_map}
use Rattle.std.proofs.lemmas.Bool.{and_parts}
use Rattle.std.proofs.lemmas.Bool.Decides.{leb_tells}
use Rattle.std.proofs.lemmas.List.Elements.{All-head, All-tail, All-weaker}
use Rattle.std.proofs.lemmas.Option.{none-some, same_Some}
use Rattle.just_text.specs.Tokens.{lexeme}
use Rattle.tree_attributes.specs.Attributes.{OptionsShape}
use Rattle.tree_items.specs.declared.recipe.Parameter.{Parameter}
use Rattle.parse_attributes.specs.Options.{is_digit, is_letter, is_short, text}
use Rattle.parse_attributed_items.specs.Held.{AreAscii, IsAscii}
use Rattle.parse_attributed_items.specs.Options.{HasOptions, HaveOptions, ParameterOptions, meant_or_none}
use Rattle.parse_attributed_items.specs.Rules.{is_for}
use Rattle.parse_attributed_items.specs.Whole.{AreWholeOptions}
use Rattle.parse_expressions.specs.Literals.{Expansion}

between_low : (least most c : ℕ) → most < 128 → (nat_le least c && nat_le c most) ≡ true → c < 128
between_low least most c low e =
    let parts = and_parts (nat_le least c) (nat_le c most) e in
    elim (leb_tells c most) [
      | inl p ↦ let le = p.1 in omega (arith, low, le)
      | inr p ↦ absurd (true≢false (sym parts.1 ∙ p.0))
    ]

either_low : (a b : Bool) (c : ℕ) → (a ≡ true → c < 128) → (b ≡ true → c < 128) → (a || b) ≡ true → c < 128
either_low true b c one other e = one refl
either_low false b c one other e = other e

letter_low : (c : ℕ) → (is_digit c || is_letter c) ≡ true → c < 128
letter_low c e = either_low (is_digit c) (is_letter c) c (between_low 48 57 c (omega arith))
    (either_low (nat_le 65 c && nat_le c 90) (nat_le 97 c && nat_le c 122) c (between_low 65 90 c (omega arith)) (between_low 97 122 c (omega arith))) e

-- what a search finds is of the kind that all are of
found_all : {X : Type 0} (P : X → Type 0) (test : X → Bool) (xs : List X) (x : X) → find test xs ≡ Some x → All P xs → P x
found_all P test [] x e all = absurd (none-some x e)
found_all P test (y ∷ ys) x e all = by_test (test y) (λ is. found_all P test ys x is (All-tail P y ys all)) e
  where
    by_test : (b : Bool) → (find test ys ≡ Some x → P x) → cond b (Some y) (find test ys) ≡ Some x → P x
    by_test true later is = subst P (same_Some y x is) (All-head P y ys all)
    by_test false later is = later is

module _ (expansion : Expansion) where
  short_low : (short : Option (List ℕ)) (c : ℕ) → option_map (text expansion) short ≡ Some (c ∷ []) → IfSome short (λ s. is_short (text expansion s) ≡ true) → c < 128
  short_low None c e h = absurd (none-some (c ∷ []) e)
  short_low (Some s) c e h = letter_low c (ap is_short (sym (same_Some (text expansion s) (c ∷ []) e)) ∙ h)

  found_low : (os : List OptionsShape) (name : List ℕ) (found : Option OptionsShape) → find (is_for expansion name) os ≡ found → All (AreWholeOptions expansion) os → (c : ℕ) → (meant_or_none expansion found).short ≡ Some (c ∷ []) → c < 128
  found_low os name None is whole c e = absurd (none-some (c ∷ []) e)
  found_low os name (Some o) is whole c e =
      short_low o.short c e (found_all (AreWholeOptions expansion) (is_for expansion name) os o is whole).short

  -- where each `arg` has texts of the form that it asks for, the short names of options are ASCII
  short_ascii : (os : List OptionsShape) → All (AreWholeOptions expansion) os → (p : Parameter) → HasOptions expansion os p → IsAscii p
  short_ascii os whole p has = by_short p.short refl
    where
      by_short : (short : Option ℕ) → p.short ≡ short → IfSome short (λ letter. letter < 128)
      by_short None e = tt
      by_short (Some letter) e = found_low os (lexeme p.name.token) (find (is_for expansion (lexeme p.name.token)) os) refl whole letter (ap (λ (o : ParameterOptions). o.short) (sym has) ∙ ap (option_map (λ d. d ∷ [])) e)

  pub letters_ascii : (os : List OptionsShape) (ps : List Parameter) → HaveOptions expansion os ps → All (AreWholeOptions expansion) os → AreAscii ps
  letters_ascii os ps have whole = All-weaker (HasOptions expansion os) IsAscii (short_ascii os whole) ps have
