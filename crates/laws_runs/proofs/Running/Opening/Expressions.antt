-- The expressions that a recipe's attributes give its row are the parts of these attributes.
use Rattle.std.proofs.Common.{◌≡◌, ◌⊎◌, inl, inr, refl, sym, ◌∙◌, ap, subst, Bool, true, false, not, if◌then◌else◌, ◌&&◌, ◌||◌, ℕ, List, [], ◌∷◌, map, Option, Some, None, true≢false, filter_map}
use Rattle.std.specs.Prelude.{Contains}
use Rattle.std.specs.List.{cons_option, flat_map, list_any}
use Rattle.std.proofs.lemmas.List.Elements.{Contains-append_cases, Contains-append_left, Contains-append_right}
use Rattle.std.proofs.lemmas.Option.{none-some}
use Rattle.std.proofs.lemmas.Slice.Eq.{bytes_eq-Decides}
use Rattle.tree_expressions.specs.Shape.{Shape}
use Rattle.tree_attributes.specs.Attributes.{AttributeShape, is_repeatable, kind_name, kind_of, plain, with_interpreter, with_options, with_pair, with_prompt, with_string, with_strings}
use Rattle.tree_attributes.specs.Settings.{InterpreterShape}
use Rattle.tree_attributes.specs.declared.attribute.AttributeKind.{AttributeKind}
use Rattle.tree_attributes.specs.declared.attribute.AttributeKind.TheVariants.{Android, Arg, Cache, Confirm, Default, Doc, Dragonfly, Env, ExitMessage, Extension, Freebsd, Group, Linux, Macos, Metadata, Netbsd, NoCd, NoExitMessage, NoQuiet, Openbsd, Parallel, PositionalArguments, Private, Script, Unix, Windows, WorkingDirectory}
use Rattle.parse_expressions.specs.Literals.{Expansion}
use Rattle.parse_attributed_items.specs.Fitting.{is_like, repeated}
use Rattle.meaning_rules.specs.Worlds.Given.{Text}
use Rattle.meaning_rules.proofs.Worlds.Places.{contains_cases, contains_first, contains_later, contains_none}
use Rattle.laws_names.proofs.Reading.Lists.{contains_map, contains_mapped}
use Rattle.meaning_rules.specs.Naming.{Part, part, parts_of_attribute, parts_of_interpreter}
use Rattle.just_meaning.specs.Reading.{in_env, in_interpreter, in_prompt}
use Rattle.just_meaning.specs.Rows.{first, pair_in, prompt_in, script_in}

-- an expression with the names that it hides, as a part
abbrev pub to_part : Shape × List (List ℕ) → Part
to_part x = part x.1 x.0

module _ (expansion : Expansion) where
  -- ---- attributes

  -- an attribute that is written plainly names no prompt, or it asks without one
  pub plain_prompt : (k : AttributeKind) → (prompt_in expansion (plain k) ≡ None) ⊎ ((prompt_in expansion (plain k) ≡ Some None) × (k ≡ Confirm))
  plain_prompt Android = inl refl
  plain_prompt Arg = inl refl
  plain_prompt Cache = inl refl
  plain_prompt Confirm = inr (refl, refl)
  plain_prompt Default = inl refl
  plain_prompt Doc = inl refl
  plain_prompt Dragonfly = inl refl
  plain_prompt Env = inl refl
  plain_prompt ExitMessage = inl refl
  plain_prompt Extension = inl refl
  plain_prompt Freebsd = inl refl
  plain_prompt Group = inl refl
  plain_prompt Linux = inl refl
  plain_prompt Macos = inl refl
  plain_prompt Metadata = inl refl
  plain_prompt Netbsd = inl refl
  plain_prompt NoCd = inl refl
  plain_prompt NoExitMessage = inl refl
  plain_prompt NoQuiet = inl refl
  plain_prompt Openbsd = inl refl
  plain_prompt Parallel = inl refl
  plain_prompt PositionalArguments = inl refl
  plain_prompt Private = inl refl
  plain_prompt Script = inl refl
  plain_prompt Unix = inl refl
  plain_prompt Windows = inl refl
  plain_prompt WorkingDirectory = inl refl

  plain_script : (k : AttributeKind) → (script_in expansion (plain k) ≡ None) ⊎ ((script_in expansion (plain k) ≡ Some None) × (k ≡ Script))
  plain_script Android = inl refl
  plain_script Arg = inl refl
  plain_script Cache = inl refl
  plain_script Confirm = inl refl
  plain_script Default = inl refl
  plain_script Doc = inl refl
  plain_script Dragonfly = inl refl
  plain_script Env = inl refl
  plain_script ExitMessage = inl refl
  plain_script Extension = inl refl
  plain_script Freebsd = inl refl
  plain_script Group = inl refl
  plain_script Linux = inl refl
  plain_script Macos = inl refl
  plain_script Metadata = inl refl
  plain_script Netbsd = inl refl
  plain_script NoCd = inl refl
  plain_script NoExitMessage = inl refl
  plain_script NoQuiet = inl refl
  plain_script Openbsd = inl refl
  plain_script Parallel = inl refl
  plain_script PositionalArguments = inl refl
  plain_script Private = inl refl
  plain_script Script = inr (refl, refl)
  plain_script Unix = inl refl
  plain_script Windows = inl refl
  plain_script WorkingDirectory = inl refl

  -- what the first of a list that may be there has
  pub first_skipped : {X Y : Type 0} (f : X → Option Y) (x : X) (xs : List X) → f x ≡ None → first expansion (filter_map f (x ∷ xs)) ≡ first expansion (filter_map f xs)
  first_skipped f x xs e = ap (λ o. first expansion (cons_option o (filter_map f xs))) e

  first_taken : {X Y : Type 0} (f : X → Option Y) (x : X) (xs : List X) (y : Y) → f x ≡ Some y → first expansion (filter_map f (x ∷ xs)) ≡ Some y
  first_taken f x xs y e = ap (λ o. first expansion (cons_option o (filter_map f xs))) e

  module _ (all : List Text) where
    abbrev pub attribute_parts : List AttributeShape → List Part
    attribute_parts as' = flat_map (parts_of_attribute all) as'

    later_part : (a : AttributeShape) (as' : List AttributeShape) (p : Part) → Contains (attribute_parts as') p → Contains (attribute_parts (a ∷ as')) p
    later_part a as' p c = Contains-append_right (parts_of_attribute all a) (attribute_parts as') p c

    first_part : (a : AttributeShape) (as' : List AttributeShape) (p : Part) → Contains (parts_of_attribute all a) p → Contains (attribute_parts (a ∷ as')) p
    first_part a as' p c = Contains-append_left (parts_of_attribute all a) (attribute_parts as') p c

    -- ---- the expressions of attributes are parts

    pub env_part : (as' : List AttributeShape) (e : Shape) → Contains (in_env (filter_map (pair_in expansion) as')) e → Contains (attribute_parts as') (part [] e)
    env_part [] e c = absurd (contains_none [] e refl c)
    env_part (plain k ∷ as') e c = later_part (plain k) as' (part [] e) (env_part as' e c)
    env_part (with_options o ∷ as') e c = later_part (with_options o) as' (part [] e) (env_part as' e c)
    env_part (with_prompt q ∷ as') e c = later_part (with_prompt q) as' (part [] e) (env_part as' e c)
    env_part (with_string k t ∷ as') e c = later_part (with_string k t) as' (part [] e) (env_part as' e c)
    env_part (with_strings t ts ∷ as') e c = later_part (with_strings t ts) as' (part [] e) (env_part as' e c)
    env_part (with_interpreter i ∷ as') e c = later_part (with_interpreter i) as' (part [] e) (env_part as' e c)
    env_part (with_pair key value ∷ as') e c = elim (contains_cases key (value ∷ in_env (filter_map (pair_in expansion) as')) e c) [
      | inl same ↦ first_part (with_pair key value) as' (part [] e) (subst (λ x. Contains (part [] key ∷ part [] value ∷ []) (part [] x)) same (contains_first (part [] key) (part [] value ∷ [])))
      | inr d ↦ elim (contains_cases value (in_env (filter_map (pair_in expansion) as')) e d) [
        | inl same ↦ first_part (with_pair key value) as' (part [] e)
            (subst (λ x. Contains (part [] key ∷ part [] value ∷ []) (part [] x)) same (contains_later (part [] key) (part [] value ∷ []) (part [] value) (contains_first (part [] value) [])))
        | inr later ↦ later_part (with_pair key value) as' (part [] e) (env_part as' e later)
      ]
    ]

    pub prompt_part : (as' : List AttributeShape) (e : Shape) → Contains (in_prompt (first expansion (filter_map (prompt_in expansion) as'))) e → Contains (attribute_parts as') (part all e)
    prompt_part [] e c = absurd (contains_none [] e refl c)
    prompt_part (plain k ∷ as') e c = elim (plain_prompt k) [
      | inl none ↦ later_part (plain k) as' (part all e) (prompt_part as' e (subst (λ o. Contains (in_prompt o) e) (first_skipped (prompt_in expansion) (plain k) as' none) c))
      | inr asks ↦ absurd (contains_none [] e refl (subst (λ o. Contains (in_prompt o) e) (first_taken (prompt_in expansion) (plain k) as' None asks.0) c))
    ]
    prompt_part (with_options o ∷ as') e c = later_part (with_options o) as' (part all e) (prompt_part as' e c)
    prompt_part (with_pair key value ∷ as') e c = later_part (with_pair key value) as' (part all e) (prompt_part as' e c)
    prompt_part (with_string k t ∷ as') e c = later_part (with_string k t) as' (part all e) (prompt_part as' e c)
    prompt_part (with_strings t ts ∷ as') e c = later_part (with_strings t ts) as' (part all e) (prompt_part as' e c)
    prompt_part (with_interpreter i ∷ as') e c = later_part (with_interpreter i) as' (part all e) (prompt_part as' e c)
    prompt_part (with_prompt q ∷ as') e c = elim (contains_cases q [] e c) [
      | inl same ↦ first_part (with_prompt q) as' (part all e) (subst (λ x. Contains (part all q ∷ []) (part all x)) same (contains_first (part all q) []))
      | inr none ↦ absurd (contains_none [] e refl none)
    ]

    interpreter_parts : (i : InterpreterShape) → map (part all) (i.command ∷ i.arguments) ≡ parts_of_interpreter all i
    interpreter_parts i = refl

    pub script_part : (as' : List AttributeShape) (e : Shape) → Contains (in_interpreter (first expansion (filter_map (script_in expansion) as'))) e → Contains (attribute_parts as') (part all e)
    script_part [] e c = absurd (contains_none [] e refl c)
    script_part (plain k ∷ as') e c = elim (plain_script k) [
      | inl none ↦ later_part (plain k) as' (part all e) (script_part as' e (subst (λ o. Contains (in_interpreter o) e) (first_skipped (script_in expansion) (plain k) as' none) c))
      | inr asks ↦ absurd (contains_none [] e refl (subst (λ o. Contains (in_interpreter o) e) (first_taken (script_in expansion) (plain k) as' None asks.0) c))
    ]
    script_part (with_options o ∷ as') e c = later_part (with_options o) as' (part all e) (script_part as' e c)
    script_part (with_pair key value ∷ as') e c = later_part (with_pair key value) as' (part all e) (script_part as' e c)
    script_part (with_string k t ∷ as') e c = later_part (with_string k t) as' (part all e) (script_part as' e c)
    script_part (with_strings t ts ∷ as') e c = later_part (with_strings t ts) as' (part all e) (script_part as' e c)
    script_part (with_prompt q ∷ as') e c = later_part (with_prompt q) as' (part all e) (script_part as' e c)
    script_part (with_interpreter i ∷ as') e c = first_part (with_interpreter i) as' (part all e) (contains_map (part all) (i.command ∷ i.arguments) e c)

    -- ---- and back, where attributes that stand once are not repeated

    -- what stands once has no other of its kind behind it
    pub alone : (a : AttributeShape) (as' : List AttributeShape) → repeated (a ∷ as') ≡ None → is_repeatable (kind_of a) ≡ false → (b : AttributeShape) → Contains as' b → kind_of b ≡ kind_of a → ⊥
    alone a as' single once b c same = by_test (is_repeatable (kind_of a)) once (list_any (is_like a) as') (any_like as' c) single
      where
        any_like : (xs : List AttributeShape) → Contains xs b → list_any (is_like a) xs ≡ true
        any_like [] d = absurd (contains_none [] b refl d)
        any_like (x ∷ xs) d = elim (contains_cases x xs b d) [
          | inl first ↦ ap (λ t. t || list_any (is_like a) xs) ((bytes_eq-Decides (kind_name (kind_of x)) (kind_name (kind_of a))).1 (ap (λ (y : AttributeShape). kind_name (kind_of y)) first ∙ ap kind_name same))
          | inr later ↦ or_true (is_like a x) (list_any (is_like a) xs) (any_like xs later)
        ]
          where
            or_true : (s t : Bool) → t ≡ true → (s || t) ≡ true
            or_true true t e = refl
            or_true false t e = e

        by_test : (r : Bool) → r ≡ false → (l : Bool) → l ≡ true → (if not r && l then Some a else repeated as') ≡ None → ⊥
        by_test true e l f s = true≢false e
        by_test false e true f s = none-some a (sym s)
        by_test false e false f s = true≢false (sym f)

    pub single_later : (a : AttributeShape) (as' : List AttributeShape) → repeated (a ∷ as') ≡ None → repeated as' ≡ None
    single_later a as' single = by_test (not (is_repeatable (kind_of a)) && list_any (is_like a) as') single
      where
        by_test : (b : Bool) → (if b then Some a else repeated as') ≡ None → repeated as' ≡ None
        by_test true e = absurd (none-some a (sym e))
        by_test false e = e

    -- an attribute gives the prompt, and one the interpreter
    prompt_there : (as' : List AttributeShape) (e : Shape) → Contains (in_prompt (first expansion (filter_map (prompt_in expansion) as'))) e → (b : AttributeShape) × Contains as' b × (kind_of b ≡ Confirm)
    prompt_there [] e c = absurd (contains_none [] e refl c)
    prompt_there (plain k ∷ as') e c = elim (plain_prompt k) [
      | inl none ↦ let r = prompt_there as' e (subst (λ o. Contains (in_prompt o) e) (first_skipped (prompt_in expansion) (plain k) as' none) c) in (r.0, contains_later (plain k) as' r.0 r.1, r.2)
      | inr asks ↦ (plain k, contains_first (plain k) as', asks.1)
    ]
    prompt_there (with_options o ∷ as') e c = let r = prompt_there as' e c in (r.0, contains_later (with_options o) as' r.0 r.1, r.2)
    prompt_there (with_pair key value ∷ as') e c = let r = prompt_there as' e c in (r.0, contains_later (with_pair key value) as' r.0 r.1, r.2)
    prompt_there (with_string k t ∷ as') e c = let r = prompt_there as' e c in (r.0, contains_later (with_string k t) as' r.0 r.1, r.2)
    prompt_there (with_strings t ts ∷ as') e c = let r = prompt_there as' e c in (r.0, contains_later (with_strings t ts) as' r.0 r.1, r.2)
    prompt_there (with_interpreter i ∷ as') e c = let r = prompt_there as' e c in (r.0, contains_later (with_interpreter i) as' r.0 r.1, r.2)
    prompt_there (with_prompt q ∷ as') e c = (with_prompt q, contains_first (with_prompt q) as', refl)

    script_there : (as' : List AttributeShape) (e : Shape) → Contains (in_interpreter (first expansion (filter_map (script_in expansion) as'))) e → (b : AttributeShape) × Contains as' b × (kind_of b ≡ Script)
    script_there [] e c = absurd (contains_none [] e refl c)
    script_there (plain k ∷ as') e c = elim (plain_script k) [
      | inl none ↦ let r = script_there as' e (subst (λ o. Contains (in_interpreter o) e) (first_skipped (script_in expansion) (plain k) as' none) c) in (r.0, contains_later (plain k) as' r.0 r.1, r.2)
      | inr asks ↦ (plain k, contains_first (plain k) as', asks.1)
    ]
    script_there (with_options o ∷ as') e c = let r = script_there as' e c in (r.0, contains_later (with_options o) as' r.0 r.1, r.2)
    script_there (with_pair key value ∷ as') e c = let r = script_there as' e c in (r.0, contains_later (with_pair key value) as' r.0 r.1, r.2)
    script_there (with_string k t ∷ as') e c = let r = script_there as' e c in (r.0, contains_later (with_string k t) as' r.0 r.1, r.2)
    script_there (with_strings t ts ∷ as') e c = let r = script_there as' e c in (r.0, contains_later (with_strings t ts) as' r.0 r.1, r.2)
    script_there (with_prompt q ∷ as') e c = let r = script_there as' e c in (r.0, contains_later (with_prompt q) as' r.0 r.1, r.2)
    script_there (with_interpreter i ∷ as') e c = (with_interpreter i, contains_first (with_interpreter i) as', refl)

    -- a part of attributes is one of these expressions
    pub data IsIn (as' : List AttributeShape) : Part → Type 0 where
      of_env : {e : Shape} → Contains (in_env (filter_map (pair_in expansion) as')) e → IsIn as' (part [] e)
      of_prompt : {e : Shape} → Contains (in_prompt (first expansion (filter_map (prompt_in expansion) as'))) e → IsIn as' (part all e)
      of_script : {e : Shape} → Contains (in_interpreter (first expansion (filter_map (script_in expansion) as'))) e → IsIn as' (part all e)

    in_later : (a : AttributeShape) (as' : List AttributeShape) → repeated (a ∷ as') ≡ None → (p : Part) → IsIn as' p → IsIn (a ∷ as') p
    in_later (plain k) as' single _ (of_env c) = of_env c
    in_later (plain k) as' single _ (of_prompt {e} c) = elim (plain_prompt k) [
      | inl none ↦ of_prompt (subst (λ o. Contains (in_prompt o) e) (sym (first_skipped (prompt_in expansion) (plain k) as' none)) c)
      | inr asks ↦ let b = prompt_there as' e c in absurd (alone (plain k) as' single (ap is_repeatable asks.1) b.0 b.1 (b.2 ∙ sym asks.1))
    ]
    in_later (plain k) as' single _ (of_script {e} c) = elim (plain_script k) [
      | inl none ↦ of_script (subst (λ o. Contains (in_interpreter o) e) (sym (first_skipped (script_in expansion) (plain k) as' none)) c)
      | inr asks ↦ let b = script_there as' e c in absurd (alone (plain k) as' single (ap is_repeatable asks.1) b.0 b.1 (b.2 ∙ sym asks.1))
    ]
    in_later (with_options o) as' single _ (of_env c) = of_env c
    in_later (with_options o) as' single _ (of_prompt c) = of_prompt c
    in_later (with_options o) as' single _ (of_script c) = of_script c
    in_later (with_pair key value) as' single _ (of_env {e} c) = of_env (contains_later key (value ∷ in_env (filter_map (pair_in expansion) as')) e (contains_later value (in_env (filter_map (pair_in expansion) as')) e c))
    in_later (with_pair key value) as' single _ (of_prompt c) = of_prompt c
    in_later (with_pair key value) as' single _ (of_script c) = of_script c
    in_later (with_string k t) as' single _ (of_env c) = of_env c
    in_later (with_string k t) as' single _ (of_prompt c) = of_prompt c
    in_later (with_string k t) as' single _ (of_script c) = of_script c
    in_later (with_strings t ts) as' single _ (of_env c) = of_env c
    in_later (with_strings t ts) as' single _ (of_prompt c) = of_prompt c
    in_later (with_strings t ts) as' single _ (of_script c) = of_script c
    in_later (with_prompt q) as' single _ (of_env c) = of_env c
    in_later (with_prompt q) as' single _ (of_prompt {e} c) = let b = prompt_there as' e c in absurd (alone (with_prompt q) as' single refl b.0 b.1 b.2)
    in_later (with_prompt q) as' single _ (of_script c) = of_script c
    in_later (with_interpreter i) as' single _ (of_env c) = of_env c
    in_later (with_interpreter i) as' single _ (of_prompt c) = of_prompt c
    in_later (with_interpreter i) as' single _ (of_script {e} c) = let b = script_there as' e c in absurd (alone (with_interpreter i) as' single refl b.0 b.1 b.2)

    in_first : (a : AttributeShape) (as' : List AttributeShape) (p : Part) → Contains (parts_of_attribute all a) p → IsIn (a ∷ as') p
    in_first (plain k) as' p c = absurd (contains_none [] p refl c)
    in_first (with_options o) as' p c = absurd (contains_none [] p refl c)
    in_first (with_string k t) as' p c = absurd (contains_none [] p refl c)
    in_first (with_strings t ts) as' p c = absurd (contains_none [] p refl c)
    in_first (with_pair key value) as' p c = elim (contains_cases (part [] key) (part [] value ∷ []) p c) [
      | inl same ↦ subst (IsIn (with_pair key value ∷ as')) same (of_env (contains_first key (value ∷ in_env (filter_map (pair_in expansion) as'))))
      | inr d ↦ elim (contains_cases (part [] value) [] p d) [
        | inl same ↦ subst (IsIn (with_pair key value ∷ as')) same (of_env (contains_later key (value ∷ in_env (filter_map (pair_in expansion) as')) value (contains_first value (in_env (filter_map (pair_in expansion) as')))))
        | inr none ↦ absurd (contains_none [] p refl none)
      ]
    ]
    in_first (with_prompt q) as' p c = elim (contains_cases (part all q) [] p c) [
      | inl same ↦ subst (IsIn (with_prompt q ∷ as')) same (of_prompt (contains_first q []))
      | inr none ↦ absurd (contains_none [] p refl none)
    ]
    in_first (with_interpreter i) as' p c =
        let r = contains_mapped (part all) (i.command ∷ i.arguments) p c in
        subst (IsIn (with_interpreter i ∷ as')) r.2 (of_script r.1)

    pub part_in : (as' : List AttributeShape) → repeated as' ≡ None → (p : Part) → Contains (attribute_parts as') p → IsIn as' p
    part_in [] single p c = absurd (contains_none [] p refl c)
    part_in (a ∷ as') single p c = elim (Contains-append_cases (parts_of_attribute all a) (attribute_parts as') p c) [
      | inl d ↦ in_first a as' p d
      | inr d ↦ in_later a as' single p (part_in as' (single_later a as' single) p d)
    ]
