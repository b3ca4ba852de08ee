-- Words invoke one list at most, and none where they break a rule.
use Rattle.std.proofs.Common.{◌≡◌, List, [], ◌∷◌, ℕ, true, false, refl, sym, ◌∙◌, ap, subst}
use Rattle.meaning_runs.specs.Words.{Slot, Words}
use Rattle.meaning_runs.specs.Invokes.{OptionRule, WordRule, found, refused, find, At, takes, enough, refuses, Takes, no_more, one_more, Refuses, here, later, beginning, is_complete, groups_of, Invokes, Invoke, listed, last, more, BreaksFirst, unfound, untaken, incomplete, BreaksWords, at_first, behind}

-- a recipe takes in one way
takes_once : {slots : List Slot} {at a b : At} → Takes slots at a → Takes slots at b → a ≡ b
takes_once (no_more e) (no_more f) = refl
takes_once (no_more e) (one_more f t) = absurd (let g = sym e ∙ f in no_take g)
  where
    no_take : {mid : At} → enough ≡ takes mid → ⊥
    no_take g = cc
takes_once (one_more e s) (no_more f) = absurd (let g = sym f ∙ e in no_take g)
  where
    no_take : {mid : At} → enough ≡ takes mid → ⊥
    no_take g = cc
takes_once {slots = slots} {b = b} (one_more {mid = m} e s) (one_more {mid = n} f t) =
    let same : m ≡ n = (let g : takes m ≡ takes n = sym e ∙ f in cc) in
    takes_once s (subst (λ x. Takes slots x b) (sym same) t)

-- and not where a rule is broken
takes_none : {slots : List Slot} {at a : At} {rule : OptionRule} → Takes slots at a → Refuses slots at rule → ⊥
takes_none {rule = rule} (no_more e) (here f) = let g : enough ≡ refuses rule = sym e ∙ f in cc
takes_none (no_more e) (later {mid = m} f t) = let g : enough ≡ takes m = sym e ∙ f in cc
takes_none {rule = rule} (one_more {mid = m} e s) (here f) = let g : takes m ≡ refuses rule = sym e ∙ f in cc
takes_none {slots = slots} {rule = rule} (one_more {mid = m} e s) (later {mid = n} f t) =
    let same : m ≡ n = (let g : takes m ≡ takes n = sym e ∙ f in cc) in
    takes_none s (subst (λ x. Refuses slots x rule) (sym same) t)

module _ {Module Recipe : Type 0} (w : Words Module Recipe) where
  same_found : (words : List (List ℕ)) {b c : List (List ℕ)} {r s : Recipe} → find w w.root words ≡ found r b → find w w.root words ≡ found s c → (r ≡ s) × (b ≡ c)
  same_found words {b = b} {c = c} {r = r} {s = s} e f = let g : found r b ≡ found s c = sym e ∙ f in (cc, cc)

  -- the first recipe, its groups and the words that are left
  invokes_once : {words rest rest' : List (List ℕ)} {r r' : Recipe} {groups groups' : List (List (List ℕ))} → Invokes w words r groups rest → Invokes w words r' groups' rest' → (r ≡ r') × (groups ≡ groups') × (rest ≡ rest')
  invokes_once {words = words} {r = r} i j =
      let s = same_found words i.named j.named in
      let t : Takes (w.slots r) (beginning (w.slots r) i.behind) j.end =
      subst (λ (q : Recipe × List (List ℕ)). Takes (w.slots q.0) (beginning (w.slots q.0) q.1) j.end) (λ k. (sym s.0 k, sym s.1 k)) j.taken in
      let e = takes_once i.taken t in
      (s.0, i.grouped ∙ (λ k. groups_of (w.slots (s.0 k)) (e k).taken) ∙ sym j.grouped, i.left ∙ ap (λ a. a.words) e ∙ sym j.left)

  -- one list at most
  pub at_most_one : {words : List (List ℕ)} {xs ys : List (Recipe × List (List (List ℕ)))} → Invoke w words xs → Invoke w words ys → xs ≡ ys
  at_most_one (listed e) (listed f) = refl
  at_most_one (listed e) (last a j) = absurd (let g : true ≡ false = sym e ∙ a refl in cc)
  at_most_one (listed e) (more a j x) = absurd (let g : true ≡ false = sym e ∙ a refl in cc)
  at_most_one (last a i) (listed f) = absurd (let g : true ≡ false = sym f ∙ a refl in cc)
  at_most_one (more a i x) (listed f) = absurd (let g : true ≡ false = sym f ∙ a refl in cc)
  at_most_one (last a i) (last b j) = let e = invokes_once i j in λ k. (e.0 k, e.1 k) ∷ []
  at_most_one (last a i) (more {rest = u} {text = t} b j x) = absurd (let e : [] ≡ t ∷ u = (invokes_once i j).2 in cc)
  at_most_one (more {rest = u} {text = t} a i x) (last b j) = absurd (let e : t ∷ u ≡ [] = (invokes_once i j).2 in cc)
  at_most_one (more {others = xs} a i x) (more {others = ys} b j y) =
      let e = invokes_once i j in
      let same : xs ≡ ys = at_most_one x (subst (λ ws. Invoke w ws ys) (sym e.2) y) in
      λ k. (e.0 k, e.1 k) ∷ same k

  first_none : {words rest : List (List ℕ)} {r : Recipe} {groups : List (List (List ℕ))} {rule : WordRule} → Invokes w words r groups rest → BreaksFirst w words rule → ⊥
  first_none {r = r} {rule = rule} i (unfound f) = let g : found r i.behind ≡ refused rule = sym i.named ∙ f in cc
  first_none {words = words} {r = r} i (untaken {rule = rule} f t) =
      let s = same_found words i.named f in
      takes_none i.taken (subst (λ (q : Recipe × List (List ℕ)). Refuses (w.slots q.0) (beginning (w.slots q.0) q.1) rule) (λ k. (sym s.0 k, sym s.1 k)) t)
  first_none {words = words} {r = r} i (incomplete {end = end} f t c) =
      let s = same_found words i.named f in
      let e = takes_once i.taken (subst (λ (q : Recipe × List (List ℕ)). Takes (w.slots q.0) (beginning (w.slots q.0) q.1) end) (λ k. (sym s.0 k, sym s.1 k)) t) in
      let both : true ≡ false = sym i.complete ∙ (λ k. is_complete (w.slots (s.0 k)) (e k).taken) ∙ c in cc

  -- none where a rule is broken
  pub broken_invokes_none : {words : List (List ℕ)} {rule : WordRule} {xs : List (Recipe × List (List (List ℕ)))} → BreaksWords w words rule → Invoke w words xs → ⊥
  broken_invokes_none (at_first a b) (listed e) = let g : true ≡ false = sym e ∙ a refl in cc
  broken_invokes_none (behind a j b) (listed e) = let g : true ≡ false = sym e ∙ a refl in cc
  broken_invokes_none (at_first a b) (last c i) = first_none i b
  broken_invokes_none (at_first a b) (more c i x) = first_none i b
  broken_invokes_none (behind {rest = u} {text = t} a j b) (last c i) = let e : [] ≡ t ∷ u = (invokes_once i j).2 in cc
  broken_invokes_none (behind a j b) (more {others = xs} c i x) = broken_invokes_none b (subst (λ ws. Invoke w ws xs) (invokes_once i j).2 x)
