-- Which calls are met under other names.
use Rattle.std.proofs.Common.{◌≡◌, refl, sym, ap, subst, ◌∙◌, List, [], ◌∷◌, ◌++◌, map, not, ◌&&◌, Bool, true, false, cond, ◌||◌, inl, inr}
use Rattle.std.proofs.lemmas.Bool.Decides.{same_from_decides}
use Rattle.std.proofs.lemmas.List.{map-append}
use Rattle.std.specs.List.{AllByRecursion}
use Rattle.meaning_runs.specs.Parts.{is_met, Joins}
use Rattle.meaning_runs.specs.Counts.{each_once, late}
use Rattle.meaning_runs.proofs.Pieces.{Met, met_sound, met_complete, met_joined, met_before, met_itself, or_either, or_left, or_right}
use Rattle.laws_runs.specs.Alike.Alike.{Decides}

module _ {Call : Type 0} (P : Call → Type 0) where
  -- what holds of each call holds of one that is met
  pub of_met : (calls : List Call) → AllByRecursion P calls → (c : Call) → Met c calls → P c
  of_met [] all c m = absurd m
  of_met (d ∷ ds) all c (inl e) = subst P (sym e) all.0
  of_met (d ∷ ds) all c (inr m) = of_met ds all.1 c m

  -- what holds of every call that is met holds of each
  pub all_met : (calls : List Call) → ((c : Call) → Met c calls → P c) → AllByRecursion P calls
  all_met [] h = tt
  all_met (d ∷ ds) h = (h d (inl refl), all_met ds (λ c m. h c (inr m)))

  pub all_cond : (b : Bool) (xs ys : List Call) → AllByRecursion P xs → AllByRecursion P ys → AllByRecursion P (cond b xs ys)
  all_cond true xs ys h k = h
  all_cond false xs ys h k = k

  pub all_append : (xs ys : List Call) → AllByRecursion P xs → AllByRecursion P ys → AllByRecursion P (xs ++ ys)
  all_append [] ys h k = k
  all_append (x ∷ xs) ys h k = (h.0, all_append xs ys h.1 k)

  pub all_late : (b : Bool) (xs : List Call) → AllByRecursion P xs → AllByRecursion P (late b xs)
  all_late true xs h = h
  all_late false xs h = tt

module _ {Call Call' : Type 0} (name : Call → Call') where
  -- a call that is met is met under its name
  met_there : (c : Call) (calls : List Call) → Met c calls → Met (name c) (map name calls)
  met_there c [] m = absurd m
  met_there c (d ∷ ds) (inl e) = inl (ap name e)
  met_there c (d ∷ ds) (inr m) = inr (met_there c ds m)

  -- what is met under names is the name of a call that is met
  met_back : (c' : Call') (calls : List Call) → Met c' (map name calls) → (c : Call) × (c' ≡ name c) × Met c calls
  met_back c' [] m = absurd m
  met_back c' (d ∷ ds) (inl e) = (d, e, inl refl)
  met_back c' (d ∷ ds) (inr m) = let r = met_back c' ds m in (r.0, r.1, inr r.2)

  pub map_cond : (b b' : Bool) → b' ≡ b → (xs ys : List Call) → map name (cond b xs ys) ≡ cond b' (map name xs) (map name ys)
  map_cond true true e xs ys = refl
  map_cond false false e xs ys = refl
  map_cond true false e xs ys = absurd (let f : false ≡ true = e in cc)
  map_cond false true e xs ys = absurd (let f : true ≡ false = e in cc)

  pub map_both : (xs ys : List Call) (xs' ys' : List Call') → xs' ≡ map name xs → ys' ≡ map name ys → xs' ++ ys' ≡ map name (xs ++ ys)
  map_both xs ys xs' ys' e f = ap (λ l. l ++ ys') e ∙ (ap (λ l. map name xs ++ l) f ∙ sym (map-append name xs ys))

  pub late_there : (b b' : Bool) → b' ≡ b → (xs : List Call) (xs' : List Call') → xs' ≡ map name xs → late b' xs' ≡ map name (late b xs)
  late_there true true e xs xs' f = f
  late_there false false e xs xs' f = refl
  late_there true false e xs xs' f = absurd (let g : false ≡ true = e in cc)
  late_there false true e xs xs' f = absurd (let g : true ≡ false = e in cc)

  module _ (same : Call → Call → Bool) (same' : Call' → Call' → Bool) (decides : Decides same) (decides' : Decides same') where
    -- a call of a kind is met under its name where it is met
    pub name_met : (Of : Call → Type 0) → ((a b : Call) → Of a → Of b → name a ≡ name b → a ≡ b) → (c : Call) (done : List Call) → Of c → AllByRecursion Of done → is_met same' (name c) (map name done) ≡ is_met same c done
    name_met Of injective c done of all = same_from_decides {P = Met c done} (is_met same' (name c) (map name done)) (is_met same c done) (
      λ e. let r = met_back (name c) done (met_sound same' decides' (name c) (map name done) e) in subst (λ d. Met d done) (sym (injective c r.0 of (of_met Of done all r.0 r.2) r.1)) r.2,
      λ m. met_complete same' decides' (name c) (map name done) (met_there c done m),
    )
        (met_sound same decides c done, met_complete same decides c done)

    -- calls of a kind stand once each under their names where they do
    pub name_once : (Of : Call → Type 0) → ((a b : Call) → Of a → Of b → name a ≡ name b → a ≡ b) → (calls : List Call) → AllByRecursion Of calls → each_once same' (map name calls) ≡ each_once same calls
    name_once Of injective [] of = refl
    name_once Of injective (c ∷ cs) of = ap (λ b. not b && each_once same' (map name cs)) (name_met Of injective c cs of.0 of.1) ∙ ap (λ b. not (is_met same c cs) && b) (name_once Of injective cs of.1)

    -- a call joins under its name where it joins
    pub joins_there : (call : Call) (old new : List Call) → Joins same call old new → Joins same' (name call) (map name old) (map name new)
    joins_there call old new j c' = same_from_decides {P = Met c' (map name new)} (is_met same' c' (map name new)) (same' (name call) c' || is_met same' c' (map name old))
        (met_sound same' decides' c' (map name new), met_complete same' decides' c' (map name new)) (
          λ e. elim (or_either (same' (name call) c') (is_met same' c' (map name old)) e) [
            | inl x ↦ subst (λ d. Met d (map name new)) ((decides' (name call) c').0 x) (met_there call new (met_itself same decides call old new j))
            | inr x ↦ (let r = met_back c' old (met_sound same' decides' c' (map name old) x) in
                subst (λ d. Met d (map name new)) (sym r.1) (met_there r.0 new (met_before same decides call old new j r.0 r.2)))
          ],
          λ m. let r = met_back c' new m in elim (met_joined same decides call old new j r.0 r.2) [
            | inl x ↦ or_left (same' (name call) c') (is_met same' c' (map name old)) ((decides' (name call) c').1 (sym (r.1 ∙ ap name x)))
            | inr x ↦ or_right (same' (name call) c') (is_met same' c' (map name old)) (met_complete same' decides' c' (map name old) (subst (λ d. Met d (map name old)) (sym r.1) (met_there r.0 old x)))
          ],
        )

-- a call of a kind joins calls of the kind
pub joins_of : {Call : Type 0} (same : Call → Call → Bool) → Decides same → (Of : Call → Type 0) (call : Call) (old new : List Call) → Joins same call old new → Of call → AllByRecursion Of old → AllByRecursion Of new
joins_of same decides Of call old new j of all = all_met Of new (λ c m. elim (met_joined same decides call old new j c m) [ inl e ↦ subst Of (sym e) of | inr x ↦ of_met Of old all c x ])
