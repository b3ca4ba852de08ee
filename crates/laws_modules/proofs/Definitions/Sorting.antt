-- Definitions in order: their names, and their places where names are the same.
use Rattle.std.proofs.Common.{◌≡◌, ◌≢◌, ◌⊎◌, inl, inr, sym, ◌∙◌, ap, ap₂, subst, true, false, ℕ, ◌<◌, refl, arith, true≢false}
use Rattle.std.specs.Cmp.{tied_itself}
use Rattle.std.specs.Ordering.{is_lt, nat_cmp, ordering_reverse, ordering_then}
use Rattle.std.specs.declared.cmp.Ordering.{Ordering}
use Rattle.std.specs.declared.cmp.Ordering.TheVariants.{Less, Equal, Greater}
use Rattle.std.proofs.lemmas.Bool.Decides.{eqb_tells}
use Rattle.std.proofs.lemmas.Cmp.{nat_cmp_total, nat_list_cmp_total}
use Rattle.std.proofs.lemmas.Map.Keys.{ge_from_not_lt}
use Rattle.std.proofs.lemmas.Map.Lookups.{exact_bytes}
use Rattle.modules_compilation.specs.Tables.{text_cmp}
use Rattle.modules_definitions.specs.Keeping.{ShareName, name_cmp, place_cmp, rank}
use Rattle.modules_definitions.specs.declared.definition.Definition.{Definition}
use Rattle.modules_definitions.specs.declared.definition.Space.TheVariants.{Disabled}
use Rattle.modules_definitions.proofs.Orders.{IsBehind, names_behind}
use Rattle.meaning_rules.specs.Worlds.Compiled.{IsBefore}

second : (o p : Ordering) → is_lt (ordering_then o p) ≡ false → o ≡ Equal → is_lt p ≡ false
second o p e is = subst (λ q. is_lt (ordering_then q p) ≡ false) is e

first : (o p : Ordering) → is_lt (ordering_then o p) ≡ false → is_lt o ≡ false
first Less p e = absurd (true≢false e)
first Equal p e = refl
first Greater p e = refl

numbers_tied : (m n : ℕ) → m ≡ n → nat_cmp m n ≡ Equal
numbers_tied m n e = ap (λ k. nat_cmp k n) e ∙ tied_itself nat_cmp_total n

module _ (a b : Definition) (behind : IsBehind a b) (space : a.space ≡ b.space) where
  ranks_tied : nat_cmp (rank b.space) (rank a.space) ≡ Equal
  ranks_tied = numbers_tied (rank b.space) (rank a.space) (ap rank (sym space))

  texts_behind : is_lt (text_cmp b.text.now a.text.now) ≡ false
  texts_behind = second (nat_cmp (rank b.space) (rank a.space)) (text_cmp b.text.now a.text.now) (names_behind a b behind) ranks_tied

  by_text : (o : Ordering) → text_cmp a.text.now b.text.now ≡ o → (text_cmp a.text.now b.text.now ≡ Less) ⊎ (a.text.now ≡ b.text.now)
  by_text Less e = inl e
  by_text Equal e = inr (exact_bytes a.text.now b.text.now e)
  by_text Greater e = absurd (true≢false (sym (ap is_lt (nat_list_cmp_total.antisymm b.text.now a.text.now ∙ ap ordering_reverse e)) ∙ texts_behind))

  -- the second's name comes later, or is the same
  pub text_later : (text_cmp a.text.now b.text.now ≡ Less) ⊎ (a.text.now ≡ b.text.now)
  text_later = by_text (text_cmp a.text.now b.text.now) refl

  -- and comes later where names are told apart
  pub text_less : a.space ≢ Disabled → (ShareName a b → ⊥) → text_cmp a.text.now b.text.now ≡ Less
  text_less apart differ = elim text_later [
    | inl less ↦ less
    | inr same ↦ absurd (differ (record { space = space; text = same; told_apart = apart }))
  ]

  names_tied : a.text.now ≡ b.text.now → name_cmp b a ≡ Equal
  names_tied same = ap (λ o. ordering_then o (text_cmp b.text.now a.text.now)) ranks_tied ∙ ap (λ t. text_cmp t a.text.now) (sym same) ∙ tied_itself nat_list_cmp_total a.text.now

  -- of one name, what stands at another place stands behind it
  place_later : a.text.now ≡ b.text.now → a.place ≢ b.place → (a.place.file < b.place.file) ⊎ ((a.place.file ≡ b.place.file) × (a.place.item < b.place.item))
  place_later same apart =
      let p = second (name_cmp b a) (place_cmp b.place a.place) behind (names_tied same) in
      let files = ge_from_not_lt b.place.file a.place.file (first (nat_cmp b.place.file a.place.file) (nat_cmp b.place.item a.place.item) p) in
      elim (eqb_tells a.place.file b.place.file) [
        | inl q ↦
            let items = ge_from_not_lt b.place.item a.place.item (second (nat_cmp b.place.file a.place.file) (nat_cmp b.place.item a.place.item) p (numbers_tied b.place.file a.place.file (sym q.1))) in
            let other : a.place.item ≢ b.place.item = λ e. apart (ap₂ (λ file item. record { file = file; item = item }) q.1 e) in
            inr (q.1, omega (arith, items, other))
        | inr q ↦ let ne : a.place.file ≢ b.place.file = q.1 in inl (omega (arith, files, ne))
      ]

  pub is_before : a.place ≢ b.place → IsBefore (a.text.now, a.place) (b.text.now, b.place)
  is_before apart = elim text_later [
    | inl less ↦ inl less
    | inr same ↦ inr (same, place_later same apart)
  ]
