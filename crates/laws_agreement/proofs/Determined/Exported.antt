-- Exported pairs by name, and what commands are given of them, are the same where every name is held alike.
use Rattle.std.proofs.Common.{◌≡◌, ℕ, List, [], ◌∷◌, ◌++◌, Bool, true, false, not, ◌&&◌, ◌||◌, cond, Option, Some, None, refl, sym, ap, ◌∙◌, subst}
use Rattle.std.specs.Option.{option_map, option_or}
use Rattle.std.specs.List.{list_any}
use Rattle.std.specs.Str.{bytes_eq}
use Rattle.std.proofs.lemmas.Slice.Eq.{bytes_eq-Decides}
use Rattle.just_host.specs.declared.job.Pair.{Pair}
use Rattle.just_value.specs.Values.{joined}
use Rattle.evaluate_context.specs.Environment.{last_of, is_among, without}
use Rattle.evaluate_context.proofs.ByName.{last_append, or_none}
use Rattle.meaning_runs.specs.Counts.{each_once}
use Rattle.meaning_runs.specs.Parts.{is_met}
use Rattle.meaning_evaluation.specs.Named.{Definitions}
use Rattle.meaning_evaluation.specs.Scopes.{exported_pair}
use Rattle.just_meaning.specs.Opening.{Held, named, is_exported, held, pairs_of}
use Rattle.laws_agreement.proofs.Determined.Held.{names_of}

and_front : (a b : Bool) → a && b ≡ true → a ≡ true
and_front true b h = refl
and_front false b h = h

and_rear : (a b : Bool) → a && b ≡ true → b ≡ true
and_rear true b h = h
and_rear false b h = absurd (cc)

or_rear : (a b : Bool) → a || b ≡ false → b ≡ false
or_rear true b h = absurd (cc)
or_rear false b h = h

not_true : (b : Bool) → not b ≡ true → b ≡ false
not_true true h = absurd (cc)
not_true false h = refl

none_of : (b : Bool) → (let o : Option (List ℕ) = None in o) ≡ cond b None None
none_of true = refl
none_of false = refl

-- a name that none of these has isn't held
held_none : (name : List ℕ) (hs : List Held) → list_any (λ other. bytes_eq name other) (names_of hs) ≡ false → held name hs ≡ None
held_none name [] h = refl
held_none name (x ∷ xs) h = by_test (bytes_eq x.name name) refl (λ g. held_none name xs g)
  where
    by_test : (b : Bool) → bytes_eq x.name name ≡ b → (list_any (λ other. bytes_eq name other) (names_of xs) ≡ false → held name xs ≡ None) → cond (bytes_eq x.name name) (Some x.value) (held name xs) ≡ None
    by_test true e go =
        let s : bytes_eq name x.name ≡ true = (bytes_eq-Decides name x.name).1 (sym ((bytes_eq-Decides x.name name).0 e)) in
        absurd (let g : true || list_any (λ other. bytes_eq name other) (names_of xs) ≡ false = subst (λ b. b || list_any (λ other. bytes_eq name other) (names_of xs) ≡ false) s h in cc)
    by_test false e go = rw e (go (or_rear (bytes_eq name x.name) _ h))

module _ (defined : Definitions) (path : List (List ℕ)) where
  abbrev Exports : List ℕ → Bool
  Exports name = is_exported defined (named path name)

  -- the last value of a name among the exported pairs of what is held
  last_held : (name : List ℕ) (hs : List Held) → each_once bytes_eq (names_of hs) ≡ true → last_of name (pairs_of defined path hs) ≡ cond (Exports name) (option_map joined (held name hs)) None
  last_held name [] once = none_of (Exports name)
  last_held name (h ∷ hs) once =
      by_test (bytes_eq h.name name) refl (last_held name hs (and_rear (not (is_met bytes_eq h.name (names_of hs))) _ once)) (held_none h.name hs (not_true _ (and_front (not (is_met bytes_eq h.name (names_of hs))) _ once)))
    where
      here : (b e : Bool) (o p : Option (List ℕ)) → o ≡ cond e p None → last_of name (exported_pair e h.name h.value) ≡ cond e (cond b (Some (joined h.value)) None) None → (b ≡ true → p ≡ None)
          → option_or o (last_of name (exported_pair e h.name h.value)) ≡ cond e (cond b (Some (joined h.value)) p) None
      here true true o p q g u = rw (q, g, u refl) refl
      here false true o p q g u = rw (q, g) (or_none p)
      here b false o p q g u = rw (q, g) refl

      pair_last : (e : Bool) → last_of name (exported_pair e h.name h.value) ≡ cond e (cond (bytes_eq h.name name) (Some (joined h.value)) None) None
      pair_last true = refl
      pair_last false = refl

      by_test : (b : Bool) → bytes_eq h.name name ≡ b → last_of name (pairs_of defined path hs) ≡ cond (Exports name) (option_map joined (held name hs)) None → held h.name hs ≡ None
          → last_of name (exported_pair (Exports h.name) h.name h.value ++ pairs_of defined path hs) ≡ cond (Exports name) (option_map joined (cond (bytes_eq h.name name) (Some h.value) (held name hs))) None
      by_test true e rest free =
          let same : h.name ≡ name = (bytes_eq-Decides h.name name).0 e in
          last_append name (exported_pair (Exports h.name) h.name h.value) (pairs_of defined path hs)
          ∙ (here true (Exports h.name) _ (option_map joined (held name hs)) (rest ∙ ap (λ x. cond (Exports x) (option_map joined (held name hs)) None) (sym same))
          (pair_last (Exports h.name) ∙ ap (λ b. cond (Exports h.name) (cond b (Some (joined h.value)) None) None) e) (λ u. ap (option_map joined) (ap (λ x. held x hs) (sym same) ∙ free))
          ∙ (ap (λ x. cond (Exports x) (Some (joined h.value)) None) same
          ∙ ap (λ b. cond (Exports name) (option_map joined (cond b (Some h.value) (held name hs))) None) (sym e)))
      by_test false e rest free = by_export (Exports h.name)
        where
          by_export : (x : Bool) → last_of name (exported_pair x h.name h.value ++ pairs_of defined path hs) ≡ cond (Exports name) (option_map joined (cond (bytes_eq h.name name) (Some h.value) (held name hs))) None
          by_export true = rw e (or_none (last_of name (pairs_of defined path hs)) ∙ rest)
          by_export false = rw e rest

  -- It is the same, where every name is held alike.
  pub last_same : (hs gs : List Held) → each_once bytes_eq (names_of hs) ≡ true → each_once bytes_eq (names_of gs) ≡ true → ((x : List ℕ) → held x hs ≡ held x gs)
      → (name : List ℕ) → last_of name (pairs_of defined path hs) ≡ last_of name (pairs_of defined path gs)
  last_same hs gs once once' same name = last_held name hs once ∙ (ap (λ o. cond (Exports name) (option_map joined o) None) (same name) ∙ sym (last_held name gs once'))

-- ---- what commands are given

-- the last value of a name among the pairs that are left
pub last_without : (out : List (List ℕ)) (name : List ℕ) (ps : List Pair) → last_of name (without out ps) ≡ cond (is_among out name) None (last_of name ps)
last_without out name [] = none_of (is_among out name)
last_without out name (p ∷ ps) = by_test (is_among out p.name) (bytes_eq p.name name) refl refl (last_without out name ps)
  where
    both : (b : Bool) (o : Option (List ℕ)) (v : List ℕ) → o ≡ cond b None (last_of name ps) → b ≡ true → o ≡ cond b None (option_or (last_of name ps) (Some v))
    both true o v e t = e
    both false o v e t = absurd (cc)

    kept : (b : Bool) (o : Option (List ℕ)) (v : List ℕ) → o ≡ cond b None (last_of name ps) → b ≡ false → option_or o (Some v) ≡ cond b None (option_or (last_of name ps) (Some v))
    kept true o v e t = absurd (cc)
    kept false o v e t = ap (λ z. option_or z (Some v)) e

    moved : (b : Bool) (o : Option (List ℕ)) → o ≡ cond b None (last_of name ps) → o ≡ cond b None (option_or (last_of name ps) None)
    moved true o e = e
    moved false o e = e ∙ sym (or_none (last_of name ps))

    by_test : (b d : Bool) → is_among out p.name ≡ b → bytes_eq p.name name ≡ d → last_of name (without out ps) ≡ cond (is_among out name) None (last_of name ps)
        → last_of name (cond (not b) (p ∷ without out ps) (without out ps)) ≡ cond (is_among out name) None (option_or (last_of name ps) (cond d (Some p.value) None))
    by_test true true t u rest = both (is_among out name) _ p.value rest (ap (is_among out) (sym ((bytes_eq-Decides p.name name).0 u)) ∙ t)
    by_test true false t u rest = moved (is_among out name) _ rest
    by_test false true t u rest = rw u (kept (is_among out name) _ p.value rest (ap (is_among out) (sym ((bytes_eq-Decides p.name name).0 u)) ∙ t))
    by_test false false t u rest = rw u (or_none (last_of name (without out ps)) ∙ moved (is_among out name) _ rest)
