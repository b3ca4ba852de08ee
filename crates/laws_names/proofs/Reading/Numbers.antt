-- The numbers of the variables of an expression.
use Rattle.std.proofs.Common.{◌≡◌, inl, inr, refl, sym, ◌∙◌, ap, subst, List, [], ◌∷◌, ◌++◌, map, Option, Some, None, ℕ}
use Rattle.std.specs.Prelude.{Contains}
use Rattle.std.specs.List.{flat_map}
use Rattle.std.specs.Option.{option_or}
use Rattle.std.proofs.lemmas.Grind.{flat_map-append}
use Rattle.just_text.specs.Tokens.{lexeme}
use Rattle.just_text.specs.declared.name.Name.{Name}
use Rattle.tree_expressions.specs.Numbering.{beside, names_step, numbers_of, numbers_step, variables_of}
use Rattle.tree_expressions.specs.declared.string_literal.StringLiteral.{StringLiteral}
use Rattle.tree_expressions.specs.declared.expression.Expression.{Expression, map-Expression}
use Rattle.tree_expressions.specs.declared.expression.Expression.TheOpen.{Expression-F}
use Rattle.tree_expressions.specs.declared.expression.Expression.TheFolds.{fold-roll-Expression, ind-Expression}
use Rattle.tree_items.specs.Contexts.{last_named}
use Rattle.resolve_references.specs.References.{references_of, references_step}
use Rattle.resolve_references.specs.Seen.{HasNumbers, Seen}
use Rattle.resolve_references.specs.declared.references.Reference.{Reference}
use Rattle.resolve_references.specs.declared.references.Reference.TheVariants.{Call, Variable}
use Rattle.meaning_rules.proofs.Worlds.Places.{contains_cases, contains_none}

-- the name of a variable
abbrev pub own_names : Reference → List (List ℕ)
own_names (Call name count) = []
own_names (Variable name number) = lexeme name.token ∷ []

abbrev NamesKnown : Type 0
NamesKnown = (e : Expression) × (flat_map own_names (references_of e) ≡ variables_of e)

names_both : (a b : List Reference) {c d : List (List ℕ)} → flat_map own_names a ≡ c → flat_map own_names b ≡ d → flat_map own_names (a ++ b) ≡ c ++ d
names_both a b {c} {d} p q = flat_map-append own_names a b ∙ ap (λ x. x ++ flat_map own_names b) p ∙ ap (λ x. c ++ x) q

names_pair : (l r : NamesKnown) → flat_map own_names (references_of l.0 ++ references_of r.0) ≡ variables_of l.0 ++ variables_of r.0
names_pair l r = names_both (references_of l.0) (references_of r.0) l.1 r.1

names_row : (es : List NamesKnown) → flat_map own_names (flat_map (λ e. e) (map references_of (map (λ e. e.0) es))) ≡ flat_map (λ e. e) (map variables_of (map (λ e. e.0) es))
names_row [] = refl
names_row (e ∷ es) = names_both (references_of e.0) (flat_map (λ e. e) (map references_of (map (λ e. e.0) es))) e.1 (names_row es)

names_parts : (es : List (NamesKnown × StringLiteral)) → flat_map own_names (flat_map (λ (e : List Reference × StringLiteral). e.0) (map (beside references_of) (map (λ (p : NamesKnown × StringLiteral). (p.0.0, p.1)) es)))
    ≡ flat_map (λ (e : List (List ℕ) × StringLiteral). e.0) (map (beside variables_of) (map (λ (p : NamesKnown × StringLiteral). (p.0.0, p.1)) es))
names_parts [] = refl
names_parts (e ∷ es) = names_both (references_of e.0.0) (flat_map (λ (e : List Reference × StringLiteral). e.0) (map (beside references_of) (map (λ (p : NamesKnown × StringLiteral). (p.0.0, p.1)) es))) e.0.1 (names_parts es)

names_level : (y : Expression-F NamesKnown) → flat_map own_names (references_step (map-Expression Expression (List Reference) references_of (map-Expression NamesKnown Expression (λ e. e.0) y)))
    ≡ names_step (map-Expression Expression (List (List ℕ)) variables_of (map-Expression NamesKnown Expression (λ e. e.0) y))
names_level (Expression-F.And l r) = names_pair l.value r.value
names_level (Expression-F.Assert c None name) = c.value.1
names_level (Expression-F.Assert c (Some m) name) = names_pair c.value m.value
names_level (Expression-F.Backtick contents token) = refl
names_level (Expression-F.Call name es) = names_row es.items
names_level (Expression-F.Comparison l operator r token) = names_pair l.value r.value
names_level (Expression-F.Concatenation l token r) = names_pair l.value r.value
names_level (Expression-F.Conditional c t None) = names_pair c.value t.value
names_level (Expression-F.Conditional c t (Some o)) = names_both (references_of c.value.0 ++ references_of t.value.0) (references_of o.value.0) (names_pair c.value t.value) o.value.1
names_level (Expression-F.FormatString start es) = names_parts es.items
names_level (Expression-F.Group e) = e.value.1
names_level (Expression-F.Join None token r) = r.value.1
names_level (Expression-F.Join (Some l) token r) = names_pair l.value r.value
names_level (Expression-F.List es token) = names_row es.items
names_level (Expression-F.ListConcatenation l token r) = names_pair l.value r.value
names_level (Expression-F.Not e) = e.value.1
names_level (Expression-F.Or l r) = names_pair l.value r.value
names_level (Expression-F.StringLiteral s) = refl
names_level (Expression-F.Variable name number) = refl

names_found : (e : Expression) → flat_map own_names (references_of e) ≡ variables_of e
names_found = ind-Expression (λ e. flat_map own_names (references_of e) ≡ variables_of e) (λ x y is.
    ap (flat_map own_names) (fold-roll-Expression (List Reference) references_step x)
    ∙ subst (λ z. flat_map own_names (references_step (map-Expression Expression (List Reference) references_of z)) ≡ names_step (map-Expression Expression (List (List ℕ)) variables_of z)) is (names_level y)
    ∙ sym (fold-roll-Expression (List (List ℕ)) names_step x))

-- the number of a variable
abbrev pub own_numbers : Reference → List (Option ℕ)
own_numbers (Call name count) = []
own_numbers (Variable name number) = number ∷ []

abbrev NumbersKnown : Type 0
NumbersKnown = (e : Expression) × (flat_map own_numbers (references_of e) ≡ numbers_of e)

numbers_both : (a b : List Reference) {c d : List (Option ℕ)} → flat_map own_numbers a ≡ c → flat_map own_numbers b ≡ d → flat_map own_numbers (a ++ b) ≡ c ++ d
numbers_both a b {c} {d} p q = flat_map-append own_numbers a b ∙ ap (λ x. x ++ flat_map own_numbers b) p ∙ ap (λ x. c ++ x) q

numbers_pair : (l r : NumbersKnown) → flat_map own_numbers (references_of l.0 ++ references_of r.0) ≡ numbers_of l.0 ++ numbers_of r.0
numbers_pair l r = numbers_both (references_of l.0) (references_of r.0) l.1 r.1

numbers_row : (es : List NumbersKnown) → flat_map own_numbers (flat_map (λ e. e) (map references_of (map (λ e. e.0) es))) ≡ flat_map (λ e. e) (map numbers_of (map (λ e. e.0) es))
numbers_row [] = refl
numbers_row (e ∷ es) = numbers_both (references_of e.0) (flat_map (λ e. e) (map references_of (map (λ e. e.0) es))) e.1 (numbers_row es)

numbers_parts : (es : List (NumbersKnown × StringLiteral)) → flat_map own_numbers (flat_map (λ (e : List Reference × StringLiteral). e.0) (map (beside references_of) (map (λ (p : NumbersKnown × StringLiteral). (p.0.0, p.1)) es)))
    ≡ flat_map (λ (e : List (Option ℕ) × StringLiteral). e.0) (map (beside numbers_of) (map (λ (p : NumbersKnown × StringLiteral). (p.0.0, p.1)) es))
numbers_parts [] = refl
numbers_parts (e ∷ es) = numbers_both (references_of e.0.0) (flat_map (λ (e : List Reference × StringLiteral). e.0) (map (beside references_of) (map (λ (p : NumbersKnown × StringLiteral). (p.0.0, p.1)) es))) e.0.1 (numbers_parts es)

numbers_level : (y : Expression-F NumbersKnown) → flat_map own_numbers (references_step (map-Expression Expression (List Reference) references_of (map-Expression NumbersKnown Expression (λ e. e.0) y)))
    ≡ numbers_step (map-Expression Expression (List (Option ℕ)) numbers_of (map-Expression NumbersKnown Expression (λ e. e.0) y))
numbers_level (Expression-F.And l r) = numbers_pair l.value r.value
numbers_level (Expression-F.Assert c None name) = c.value.1
numbers_level (Expression-F.Assert c (Some m) name) = numbers_pair c.value m.value
numbers_level (Expression-F.Backtick contents token) = refl
numbers_level (Expression-F.Call name es) = numbers_row es.items
numbers_level (Expression-F.Comparison l operator r token) = numbers_pair l.value r.value
numbers_level (Expression-F.Concatenation l token r) = numbers_pair l.value r.value
numbers_level (Expression-F.Conditional c t None) = numbers_pair c.value t.value
numbers_level (Expression-F.Conditional c t (Some o)) = numbers_both (references_of c.value.0 ++ references_of t.value.0) (references_of o.value.0) (numbers_pair c.value t.value) o.value.1
numbers_level (Expression-F.FormatString start es) = numbers_parts es.items
numbers_level (Expression-F.Group e) = e.value.1
numbers_level (Expression-F.Join None token r) = r.value.1
numbers_level (Expression-F.Join (Some l) token r) = numbers_pair l.value r.value
numbers_level (Expression-F.List es token) = numbers_row es.items
numbers_level (Expression-F.ListConcatenation l token r) = numbers_pair l.value r.value
numbers_level (Expression-F.Not e) = e.value.1
numbers_level (Expression-F.Or l r) = numbers_pair l.value r.value
numbers_level (Expression-F.StringLiteral s) = refl
numbers_level (Expression-F.Variable name number) = refl

numbers_found : (e : Expression) → flat_map own_numbers (references_of e) ≡ numbers_of e
numbers_found = ind-Expression (λ e. flat_map own_numbers (references_of e) ≡ numbers_of e) (λ x y is.
    ap (flat_map own_numbers) (fold-roll-Expression (List Reference) references_step x)
    ∙ subst (λ z. flat_map own_numbers (references_step (map-Expression Expression (List Reference) references_of z)) ≡ numbers_step (map-Expression Expression (List (Option ℕ)) numbers_of z)) is (numbers_level y)
    ∙ sym (fold-roll-Expression (List (Option ℕ)) numbers_step x))

-- ---- a variable has the number of what its name stands for

number_at : (f : List ℕ → Option ℕ) (rs : List Reference) → flat_map own_numbers rs ≡ map f (flat_map own_names rs) → (name : Name) (number : Option ℕ) → Contains rs (Variable name number) → number ≡ f (lexeme name.token)
number_at f [] e name number c = absurd (contains_none [] (Variable name number) refl c)
number_at f (Call other count ∷ rs) e name number c = elim (contains_cases (Call other count) rs (Variable name number) c) [
  | inl same ↦ absurd (cc same)
  | inr later ↦ number_at f rs e name number later
]
number_at f (Variable other found ∷ rs) e name number c = elim (contains_cases (Variable other found) rs (Variable name number) c) [
  | inl same ↦
      let names : other ≡ name = cc same in
      let numbers : found ≡ number = cc same in
      let first : found ≡ f (lexeme other.token) = cc e in
      sym numbers ∙ first ∙ ap (λ n. f (lexeme n.token)) names
  | inr later ↦ let rest : flat_map own_numbers rs ≡ map f (flat_map own_names rs) = cc e in number_at f rs rest name number later
]

pub number_of : (bindings : List ℕ → Option ℕ) (s : Seen) → HasNumbers bindings s → (name : Name) (number : Option ℕ) → Contains (references_of s.expression) (Variable name number)
    → number ≡ option_or (last_named (lexeme name.token) s.parameters) (bindings (lexeme name.token))
number_of bindings s h name number c =
    let f : List ℕ → Option ℕ = λ n. option_or (last_named n s.parameters) (bindings n) in
    number_at f (references_of s.expression) (numbers_found s.expression ∙ h ∙ ap (map f) (sym (names_found s.expression))) name number c
