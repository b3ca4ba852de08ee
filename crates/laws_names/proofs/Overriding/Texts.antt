-- Overrides by the numbers of variables, and the texts that they give.
use Rattle.std.proofs.Common.{◌≡◌, ◌≢◌, inl, inr, sym, ◌∙◌, ap, subst, Bool, true, false, if◌then◌else◌, List, [], ◌∷◌, ◌++◌, ℕ, zero, suc, ◌<◌, ◌≤◌, Option, Some, None, refl, arith, true≢false}
use Rattle.std.specs.Prelude.{nat_eq, slice_get, Contains}
use Rattle.std.specs.Option.{option_and_then, option_map, option_or}
use Rattle.std.proofs.lemmas.Bool.{eqb-true, eq-eqb}
use Rattle.std.proofs.lemmas.Bool.Decides.{leb_tells}
use Rattle.std.proofs.lemmas.Option.{none-some, same_Some}
use Rattle.just_text.specs.Tokens.{lexeme}
use Rattle.tree_expressions.specs.declared.expression.Expression.{Expression}
use Rattle.tree_items.specs.declared.item.Binding.{Binding}
use Rattle.just_value.specs.declared.positional.Override.{Override}
use Rattle.modules_compilation.specs.Modulepaths.{pieces}
use Rattle.modules_compilation.specs.declared.compilation.Compilation.{Compilation}
use Rattle.modules_compilation.specs.declared.module_node.ModuleNode.{ModuleNode}
use Rattle.modules_compilation.specs.declared.place.Place.{Place}
use Rattle.resolve_recipes.specs.Leading.{variable_from}
use Rattle.resolve_analysis.specs.Lists.{variable_at}
use Rattle.resolve_analysis.specs.Overriding.{number_at, number_of, text_given, text_if}
use Rattle.meaning_rules.specs.Worlds.Given.{Text, World}
use Rattle.meaning_rules.specs.Worlds.Keeping.{IsDefined, a_variable}
use Rattle.meaning_rules.specs.Worlds.Compiled.{HasPath}
use Rattle.meaning_rules.proofs.Worlds.Places.{place_of}
use Rattle.meaning_rules.specs.Overriding.{IsOverridden}
use Rattle.meaning_rules.specs.Worlds.Views.{node_view}
use Rattle.laws_modules.specs.Names.Names.{AreSingle, HasNode, IsOfWorld, nodes, views}
use Rattle.laws_modules.proofs.Names.Found.{mapped, mapped_at, snoc_same}
use Rattle.laws_modules.proofs.Names.Modules.{module_at, one_path, reached_are_said}
use Rattle.laws_names.specs.Overriding.Texts.{GivenTextsOverride, IsGivenBy, NamedOverridesAreKnown, UnnamedOverridesAreUnknown}
use Rattle.meaning_rules.specs.Overrides.{overrides_of}
use Rattle.laws_names.specs.Overriding.Variables.{IsVariableFrom, KeepsVariable}
use Rattle.laws_names.proofs.Overriding.Found.{variables_are_found}
use Rattle.laws_names.proofs.Overriding.Numbers.{one_variable}
use Rattle.laws_names.proofs.Overriding.Standing.{listed_at, one_kept}

abbrev number : Binding Expression → ℕ
number variable = variable.number

-- ---- overrides that name no variable

module _ (w : World) (compilation : Compilation) where
  -- the number at the place of a variable
  number_there : (node : ModuleNode) (name : Text) (place : Place) (h : KeepsVariable w compilation node name place) → number_at compilation place ≡ Some h.variable.number
  number_there node name place h = ap (option_map number) h.stands

  none_named : (written : Text) (o : Option Place) → IsVariableFrom w compilation (pieces written) o → option_and_then (number_at compilation) o ≡ None
      → (path : List Text) (own name : Text) → IsOverridden w written path own name → ⊥
  none_named written (Some place) l e path own name h = none-some l.keeps.variable.number (sym e ∙ number_there l.node l.name place l.keeps)
  none_named written None none e path own name h = none path own name h.cut h.is h.there

  -- a variable that the module keeps is defined
  defined : (node : ModuleNode) (name : Text) (place : Place) → KeepsVariable w compilation node name place → IsDefined w node.source.now a_variable name
  defined node name place h = record { key = h.key; place = h.at; item = _; defines = h.keeps.defines }

  some_named : (written : Text) (o : Option Place) → IsVariableFrom w compilation (pieces written) o → option_and_then (number_at compilation) o ≢ None
      → ((path : List Text) (own name : Text) → IsOverridden w written path own name → ⊥) → ⊥
  some_named written (Some place) l some none = none l.path l.node.source.now l.name (record { cut = l.whole; is = l.is; there = defined l.node l.name place l.keeps })
  some_named written None l some none = some refl

pub unnamed_overrides_are_unknown : UnnamedOverridesAreUnknown
unnamed_overrides_are_unknown w compilation is single o written listed e = record {
  said = λ rule. reached_are_said w compilation is single;
  breaks = (listed, none_named w compilation written (variable_from compilation (Some 0) (pieces written)) (variables_are_found w compilation is single (pieces written)) e);
}

pub named_overrides_are_known : NamedOverridesAreKnown
named_overrides_are_known w compilation is single o named text b =
    some_named w compilation text (variable_from compilation (Some 0) (pieces text)) (variables_are_found w compilation is single (pieces text)) (named text b.breaks.0) b.breaks.1

-- ---- the text that is given last for a number

module _ (compilation : Compilation) (number : ℕ) where
  -- the last of these words that is for the number gives the text
  record IsLast (words : List Override) (text : Text) : Type 0 where
    at : ℕ
    given : Override
    found : slice_get words at ≡ Some given
    gives : given.value ≡ text
    is : number_of compilation given.name ≡ Some number
    last : (at' : ℕ) (other : Override) → slice_get words at' ≡ Some other → number_of compilation other.name ≡ Some number → at' ≤ at

  abbrev IsGiven : List Override → Option Text → Type 0
  IsGiven words (Some text) = IsLast words text
  IsGiven words None = (at : ℕ) (given : Override) → slice_get words at ≡ Some given → number_of compilation given.name ≡ Some number → ⊥

  only_first : (first : Override) (words : List Override) → number_of compilation first.name ≡ Some number → IsGiven words None → IsLast (first ∷ words) first.value
  only_first first words is none = record { at = 0; given = first; found = refl; gives = refl; is = is; last = last }
    where
      last : (at' : ℕ) (other : Override) → slice_get (first ∷ words) at' ≡ Some other → number_of compilation other.name ≡ Some number → at' ≤ 0
      last zero other e f = omega arith
      last (suc at') other e f = absurd (none at' other e f)

  not_first : (first : Override) (words : List Override) → (number_of compilation first.name ≡ Some number → ⊥) → IsGiven words None → IsGiven (first ∷ words) None
  not_first first words other none = none_at
    where
      none_at : (at : ℕ) (given : Override) → slice_get (first ∷ words) at ≡ Some given → number_of compilation given.name ≡ Some number → ⊥
      none_at zero given e f = other (ap (λ (g : Override). number_of compilation g.name) (same_Some first given e) ∙ f)
      none_at (suc at) given e f = none at given e f

  first_is : (first : Override) (words : List Override) (o : Option ℕ) → number_of compilation first.name ≡ o → IsGiven words None → IsGiven (first ∷ words) (text_if o first.value number)
  first_is first words None e none = not_first first words (λ is. none-some number (sym e ∙ is)) none
  first_is first words (Some other) e none = by_test (nat_eq other number) refl
    where
      by_test : (b : Bool) → nat_eq other number ≡ b → IsGiven (first ∷ words) (if b then Some first.value else None)
      by_test true is = only_first first words (e ∙ ap (λ (n : ℕ). Some n) (eqb-true other number is)) none
      by_test false is = not_first first words (λ f. let same = same_Some other number (sym e ∙ f) in true≢false (sym (eq-eqb other number same) ∙ is)) none

  last_given : (words : List Override) → IsGiven words (text_given compilation words number)
  last_given [] = λ at given e f. none-some given e
  last_given (first ∷ words) = by_others (text_given compilation words number) (last_given words)
    where
      by_others : (o : Option Text) → IsGiven words o → IsGiven (first ∷ words) (option_or o (text_if (number_of compilation first.name) first.value number))
      by_others (Some text) l = record { at = suc l.at; given = l.given; found = l.found; gives = l.gives; is = l.is; last = last }
        where
          last : (at' : ℕ) (other : Override) → slice_get (first ∷ words) at' ≡ Some other → number_of compilation other.name ≡ Some number → at' ≤ suc l.at
          last zero other e f = omega arith
          last (suc at') other e f = let le = l.last at' other e f in omega (arith, le)
      by_others None none = first_is first words (number_of compilation first.name) refl none

-- ---- a variable that a module keeps

module _ (w : World) (compilation : Compilation) (is : IsOfWorld w compilation) (single : AreSingle w compilation) where
  -- nodes that have one file are one
  one_node : (k k' file : ℕ) (node node' : ModuleNode) → HasNode w compilation k node → HasNode w compilation k' node' → node.first_file ≤ file → file < node.end_file → node'.first_file ≤ file → file < node'.end_file → k ≡ k'
  one_node k k' file node node' here here' from to from' to' = elim (leb_tells (suc k) k') [
    | inl p ↦ absurd (never k k' node node' here here' from to from' to' p.1)
    | inr p ↦ elim (leb_tells (suc k') k) [
      | inl q ↦ absurd (never k' k node' node here' here from' to' from to q.1)
      | inr q ↦ let less = p.1 in let more = q.1 in omega (arith, less, more)
    ]
  ]
    where
      never : (i j : ℕ) (a b : ModuleNode) → HasNode w compilation i a → HasNode w compilation j b → a.first_file ≤ file → file < a.end_file → b.first_file ≤ file → file < b.end_file → i < j → ⊥
      never i j a b at_i at_j from to from' to' lt = elim (is.apart i j (node_view a) (node_view b) (mapped node_view compilation.modules.items i a at_i) (mapped node_view compilation.modules.items j b at_j) lt) [
        | inl p ↦ absurd (omega (arith, p, to, from'))
        | inr p ↦ absurd (omega (arith, p, to', from))
      ]

  module _ (k : ℕ) (node : ModuleNode) (path : List Text) (here : HasNode w compilation k node) (has : HasPath w (views w compilation) (nodes w compilation) k path)
      (place : Place) (variable : Binding Expression) (listed : Contains node.assignments.items place) (stands : variable_at compilation place ≡ Some variable) where
    abbrev name : Text
    name = lexeme variable.name.token

    kept : KeepsVariable w compilation node name place
    kept =
        let p = place_of node.assignments.items place listed in
        let l = listed_at w compilation is k node here p.0 place p.1 in
        let same : l.2.variable ≡ variable = same_Some l.2.variable variable (sym l.2.stands ∙ stands) in
        subst (λ n. KeepsVariable w compilation node n place) (sym l.2.is_named ∙ ap (λ (v : Binding Expression). lexeme v.name.token) same) l.2

    -- what has the number names the variable
    names_it : (written : Text) (o : Option Place) → IsVariableFrom w compilation (pieces written) o → option_and_then (number_at compilation) o ≡ Some variable.number → IsOverridden w written path node.source.now name
    names_it written None none e = absurd (none-some variable.number e)
    names_it written (Some other) l e =
        let numbers : l.keeps.variable.number ≡ variable.number = same_Some l.keeps.variable.number variable.number (sym (number_there w compilation l.node l.name other l.keeps) ∙ e) in
        let places : other ≡ place = one_variable compilation is.bindings other place l.keeps.variable variable l.keeps.stands stands numbers in
        let variables : l.keeps.variable ≡ variable = same_Some l.keeps.variable variable (sym l.keeps.stands ∙ ap (variable_at compilation) places ∙ stands) in
        let names : l.name ≡ name = sym l.keeps.is_named ∙ ap (λ (v : Binding Expression). lexeme v.name.token) variables in
        let there = subst (λ (p : Place). l.node.first_file ≤ p.file) places l.keeps.there.from in
        let within = subst (λ (p : Place). p.file < l.node.end_file) places l.keeps.there.to in
        let nodes_same : l.k ≡ k = one_node l.k k place.file l.node node l.here here there within kept.there.from kept.there.to in
        let paths : l.path ≡ path = one_path w compilation is l.k k l.path path nodes_same l.has_path has in
        record {
          cut = l.whole ∙ ap (λ p. p ++ l.name ∷ []) paths ∙ ap (λ n. path ++ n ∷ []) names;
          is = module_at w compilation is k node path here has;
          there = defined w compilation node name place kept;
        }

    -- what names the variable has its number
    has_number : (written : Text) (o : Option Place) → IsVariableFrom w compilation (pieces written) o → IsOverridden w written path node.source.now name → option_and_then (number_at compilation) o ≡ Some variable.number
    has_number written None none h = absurd (none path node.source.now name h.cut h.is h.there)
    has_number written (Some other) l h =
        let p = snoc_same l.path path l.name name (sym l.whole ∙ h.cut) in
        let nodes_same : l.k ≡ k = is.once l.k k path (subst (HasPath w (views w compilation) (nodes w compilation) l.k) p.0 l.has_path) has in
        let one : l.node ≡ node = same_Some l.node node (sym l.here ∙ ap (slice_get compilation.modules.items) nodes_same ∙ here) in
        let keeps = subst (λ n. KeepsVariable w compilation n name other) one (subst (λ t. KeepsVariable w compilation l.node t other) p.1 l.keeps) in
        let places : other ≡ place = one_kept w compilation is k node here name other place keeps kept in
        ap (number_at compilation) places ∙ ap (option_map number) stands

    number_names : (written : Text) → number_of compilation written ≡ Some variable.number → IsOverridden w written path node.source.now name
    number_names written = names_it written (variable_from compilation (Some 0) (pieces written)) (variables_are_found w compilation is single (pieces written))

    named_number : (written : Text) → IsOverridden w written path node.source.now name → number_of compilation written ≡ Some variable.number
    named_number written = has_number written (variable_from compilation (Some 0) (pieces written)) (variables_are_found w compilation is single (pieces written))

    abbrev pair : Override → Text × Text
    pair given = (given.name, given.value)

    -- the word of an override
    word_of : (words : List Override) (at : ℕ) (written text : Text) → slice_get (overrides_of words) at ≡ Some (written, text) → (given : Override) × (slice_get words at ≡ Some given) × (given.name ≡ written)
    word_of words at written text e = let m = mapped_at pair words at (written, text) e in (m.0, m.1, ap (λ (p : Text × Text). p.0) m.2)

    gives : (words : List Override) (o : Option Text) → IsGiven compilation variable.number words o → IsGivenBy w (overrides_of words) path node.source.now name o
    gives words (Some text) l = record {
      at = l.at;
      written = l.given.name;
      found = mapped pair words l.at l.given l.found ∙ ap (λ (t : Text). Some (l.given.name, t)) l.gives;
      names = number_names l.given.name l.is;
      last = λ at' other e h.
          let g = word_of words at' other.0 other.1 e in
          l.last at' g.0 g.1 (ap (number_of compilation) g.2 ∙ named_number other.0 h);
    }
    gives words None none = λ text h.
        let g = word_of words h.at h.written text h.found in
        none h.at g.0 g.1 (ap (number_of compilation) g.2 ∙ named_number h.written h.names)

pub given_texts_override : GivenTextsOverride
given_texts_override w compilation is single k node path here has place variable listed stands words =
    gives w compilation is single k node path here has place variable listed stands words (text_given compilation words variable.number) (last_given compilation variable.number words)
