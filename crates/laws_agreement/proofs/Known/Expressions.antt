-- The expressions that a recipe's attributes give its row are the parts of these attributes.
use Rattle.std.proofs.Common.{◌≡◌, ◌⊎◌, inl, inr, refl, ap, subst, ℕ, List, [], ◌∷◌, Option, Some, None, filter_map}
use Rattle.std.specs.Prelude.{Contains}
use Rattle.std.specs.List.{cons_option, flat_map}
use Rattle.std.proofs.lemmas.List.Elements.{Contains-append_left, Contains-append_right}
use Rattle.tree_expressions.specs.Shape.{Shape}
use Rattle.tree_attributes.specs.Attributes.{AttributeShape, plain, with_interpreter, with_options, with_pair, with_prompt, with_string, with_strings}
use Rattle.tree_attributes.specs.declared.attribute.AttributeKind.{AttributeKind}
use Rattle.tree_attributes.specs.declared.attribute.AttributeKind.TheVariants.{Android, Arg, Cache, Confirm, Default, Doc, Dragonfly, Env, ExitMessage, Extension, Freebsd, Group, Linux, Macos, Metadata, Netbsd, NoCd, NoExitMessage, NoQuiet, Openbsd, Parallel, PositionalArguments, Private, Script, Unix, Windows, WorkingDirectory}
use Rattle.parse_expressions.specs.Literals.{Expansion}
use Rattle.meaning_rules.specs.Worlds.Given.{Text}
use Rattle.meaning_rules.proofs.Worlds.Places.{contains_cases, contains_first, contains_later, contains_none}
use Rattle.laws_agreement.proofs.Agreement.Lists.{contains_map}
use Rattle.meaning_rules.specs.Naming.{Part, part, parts_of_attribute}
use Rattle.just_meaning.specs.Reading.{in_env, in_interpreter, in_prompt}
use Rattle.just_meaning.specs.Rows.{first, pair_in, prompt_in, script_in}

-- an expression with the names that it hides, as a part
abbrev pub to_part : Shape × List (List ℕ) → Part
to_part x = part x.1 x.0

module _ (expansion : Expansion) where
  -- ---- attributes

  -- an attribute that is written plainly names no prompt, or it asks without one
  plain_prompt : (k : AttributeKind) → (prompt_in expansion (plain k) ≡ None) ⊎ ((prompt_in expansion (plain k) ≡ Some None) × (k ≡ Confirm))
  plain_prompt Android = inl refl
  plain_prompt Arg = inl refl
  plain_prompt Cache = inl refl
  plain_prompt Confirm = inr (refl, refl)
  plain_prompt Default = inl refl
  plain_prompt Doc = inl refl
  plain_prompt Dragonfly = inl refl
  plain_prompt Env = inl refl
  plain_prompt ExitMessage = inl refl
  plain_prompt Extension = inl refl
  plain_prompt Freebsd = inl refl
  plain_prompt Group = inl refl
  plain_prompt Linux = inl refl
  plain_prompt Macos = inl refl
  plain_prompt Metadata = inl refl
  plain_prompt Netbsd = inl refl
  plain_prompt NoCd = inl refl
  plain_prompt NoExitMessage = inl refl
  plain_prompt NoQuiet = inl refl
  plain_prompt Openbsd = inl refl
  plain_prompt Parallel = inl refl
  plain_prompt PositionalArguments = inl refl
  plain_prompt Private = inl refl
  plain_prompt Script = inl refl
  plain_prompt Unix = inl refl
  plain_prompt Windows = inl refl
  plain_prompt WorkingDirectory = inl refl

  plain_script : (k : AttributeKind) → (script_in expansion (plain k) ≡ None) ⊎ ((script_in expansion (plain k) ≡ Some None) × (k ≡ Script))
  plain_script Android = inl refl
  plain_script Arg = inl refl
  plain_script Cache = inl refl
  plain_script Confirm = inl refl
  plain_script Default = inl refl
  plain_script Doc = inl refl
  plain_script Dragonfly = inl refl
  plain_script Env = inl refl
  plain_script ExitMessage = inl refl
  plain_script Extension = inl refl
  plain_script Freebsd = inl refl
  plain_script Group = inl refl
  plain_script Linux = inl refl
  plain_script Macos = inl refl
  plain_script Metadata = inl refl
  plain_script Netbsd = inl refl
  plain_script NoCd = inl refl
  plain_script NoExitMessage = inl refl
  plain_script NoQuiet = inl refl
  plain_script Openbsd = inl refl
  plain_script Parallel = inl refl
  plain_script PositionalArguments = inl refl
  plain_script Private = inl refl
  plain_script Script = inr (refl, refl)
  plain_script Unix = inl refl
  plain_script Windows = inl refl
  plain_script WorkingDirectory = inl refl

  -- what the first of a list that may be there has
  first_skipped : {X Y : Type 0} (f : X → Option Y) (x : X) (xs : List X) → f x ≡ None → first expansion (filter_map f (x ∷ xs)) ≡ first expansion (filter_map f xs)
  first_skipped f x xs e = ap (λ o. first expansion (cons_option o (filter_map f xs))) e

  first_taken : {X Y : Type 0} (f : X → Option Y) (x : X) (xs : List X) (y : Y) → f x ≡ Some y → first expansion (filter_map f (x ∷ xs)) ≡ Some y
  first_taken f x xs y e = ap (λ o. first expansion (cons_option o (filter_map f xs))) e

  module _ (all : List Text) where
    abbrev pub attribute_parts : List AttributeShape → List Part
    attribute_parts as' = flat_map (parts_of_attribute all) as'

    later_part : (a : AttributeShape) (as' : List AttributeShape) (p : Part) → Contains (attribute_parts as') p → Contains (attribute_parts (a ∷ as')) p
    later_part a as' p c = Contains-append_right (parts_of_attribute all a) (attribute_parts as') p c

    first_part : (a : AttributeShape) (as' : List AttributeShape) (p : Part) → Contains (parts_of_attribute all a) p → Contains (attribute_parts (a ∷ as')) p
    first_part a as' p c = Contains-append_left (parts_of_attribute all a) (attribute_parts as') p c

    -- ---- the expressions of attributes are parts

    pub env_part : (as' : List AttributeShape) (e : Shape) → Contains (in_env (filter_map (pair_in expansion) as')) e → Contains (attribute_parts as') (part [] e)
    env_part [] e c = absurd (contains_none [] e refl c)
    env_part (plain k ∷ as') e c = later_part (plain k) as' (part [] e) (env_part as' e c)
    env_part (with_options o ∷ as') e c = later_part (with_options o) as' (part [] e) (env_part as' e c)
    env_part (with_prompt q ∷ as') e c = later_part (with_prompt q) as' (part [] e) (env_part as' e c)
    env_part (with_string k t ∷ as') e c = later_part (with_string k t) as' (part [] e) (env_part as' e c)
    env_part (with_strings t ts ∷ as') e c = later_part (with_strings t ts) as' (part [] e) (env_part as' e c)
    env_part (with_interpreter i ∷ as') e c = later_part (with_interpreter i) as' (part [] e) (env_part as' e c)
    env_part (with_pair key value ∷ as') e c = elim (contains_cases key (value ∷ in_env (filter_map (pair_in expansion) as')) e c) [
      | inl same ↦ first_part (with_pair key value) as' (part [] e) (subst (λ x. Contains (part [] key ∷ part [] value ∷ []) (part [] x)) same (contains_first (part [] key) (part [] value ∷ [])))
      | inr d ↦ elim (contains_cases value (in_env (filter_map (pair_in expansion) as')) e d) [
        | inl same ↦ first_part (with_pair key value) as' (part [] e)
            (subst (λ x. Contains (part [] key ∷ part [] value ∷ []) (part [] x)) same (contains_later (part [] key) (part [] value ∷ []) (part [] value) (contains_first (part [] value) [])))
        | inr later ↦ later_part (with_pair key value) as' (part [] e) (env_part as' e later)
      ]
    ]

    pub prompt_part : (as' : List AttributeShape) (e : Shape) → Contains (in_prompt (first expansion (filter_map (prompt_in expansion) as'))) e → Contains (attribute_parts as') (part all e)
    prompt_part [] e c = absurd (contains_none [] e refl c)
    prompt_part (plain k ∷ as') e c = elim (plain_prompt k) [
      | inl none ↦ later_part (plain k) as' (part all e) (prompt_part as' e (subst (λ o. Contains (in_prompt o) e) (first_skipped (prompt_in expansion) (plain k) as' none) c))
      | inr asks ↦ absurd (contains_none [] e refl (subst (λ o. Contains (in_prompt o) e) (first_taken (prompt_in expansion) (plain k) as' None asks.0) c))
    ]
    prompt_part (with_options o ∷ as') e c = later_part (with_options o) as' (part all e) (prompt_part as' e c)
    prompt_part (with_pair key value ∷ as') e c = later_part (with_pair key value) as' (part all e) (prompt_part as' e c)
    prompt_part (with_string k t ∷ as') e c = later_part (with_string k t) as' (part all e) (prompt_part as' e c)
    prompt_part (with_strings t ts ∷ as') e c = later_part (with_strings t ts) as' (part all e) (prompt_part as' e c)
    prompt_part (with_interpreter i ∷ as') e c = later_part (with_interpreter i) as' (part all e) (prompt_part as' e c)
    prompt_part (with_prompt q ∷ as') e c = elim (contains_cases q [] e c) [
      | inl same ↦ first_part (with_prompt q) as' (part all e) (subst (λ x. Contains (part all q ∷ []) (part all x)) same (contains_first (part all q) []))
      | inr none ↦ absurd (contains_none [] e refl none)
    ]

    pub script_part : (as' : List AttributeShape) (e : Shape) → Contains (in_interpreter (first expansion (filter_map (script_in expansion) as'))) e → Contains (attribute_parts as') (part all e)
    script_part [] e c = absurd (contains_none [] e refl c)
    script_part (plain k ∷ as') e c = elim (plain_script k) [
      | inl none ↦ later_part (plain k) as' (part all e) (script_part as' e (subst (λ o. Contains (in_interpreter o) e) (first_skipped (script_in expansion) (plain k) as' none) c))
      | inr asks ↦ absurd (contains_none [] e refl (subst (λ o. Contains (in_interpreter o) e) (first_taken (script_in expansion) (plain k) as' None asks.0) c))
    ]
    script_part (with_options o ∷ as') e c = later_part (with_options o) as' (part all e) (script_part as' e c)
    script_part (with_pair key value ∷ as') e c = later_part (with_pair key value) as' (part all e) (script_part as' e c)
    script_part (with_string k t ∷ as') e c = later_part (with_string k t) as' (part all e) (script_part as' e c)
    script_part (with_strings t ts ∷ as') e c = later_part (with_strings t ts) as' (part all e) (script_part as' e c)
    script_part (with_prompt q ∷ as') e c = later_part (with_prompt q) as' (part all e) (script_part as' e c)
    script_part (with_interpreter i ∷ as') e c = first_part (with_interpreter i) as' (part all e) (contains_map (part all) (i.command ∷ i.arguments) e c)
