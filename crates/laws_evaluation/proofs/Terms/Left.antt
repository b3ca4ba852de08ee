-- The texts, literals and tokens of an expression, one part after the other.
use Rattle.std.proofs.Common.{◌≡◌, ℕ, List, [], ◌∷◌, ◌++◌, map, Bool, false, refl, sym, ap, ◌∙◌, append_assoc}
use Rattle.std.specs.List.{flat_map}
use Rattle.just_text.specs.declared.token.Token.{Token}
use Rattle.tree_expressions.specs.declared.string_literal.StringLiteral.{StringLiteral}
use Rattle.tree_expressions.specs.declared.expression.Expression.{Expression, roll-Expression, map-Expression}
use Rattle.tree_expressions.specs.declared.expression.Expression.TheOpen.{Expression-F}
use Rattle.tree_expressions.specs.declared.expression.Expression.TheFolds.{fold-roll-Expression}
use Rattle.tree_expressions.specs.Inside.{inside}
use Rattle.tree_expressions.specs.Numbering.{texts_of, texts_step, interpolation_texts, literals_of, own_literals, tokens_of, own_tokens, beside}
use Rattle.tree_expressions.specs.Operators.{Binary, disjunction, conjunction, appending, concatenation, joining}
use Rattle.tree_expressions.specs.Operators as operators
use Rattle.tree_expressions.specs.Shape.{Interpolations, interpolations_of}
use Rattle.tree_expressions.specs.Shape as shapes

-- texts, literals and tokens that are not used yet
pub record Left : Type 0 where
  pub texts : List (List ℕ)
  pub literals : List StringLiteral
  pub tokens : List Token

abbrev pub first_text : List (List ℕ) → List ℕ
first_text [] = []
first_text (text ∷ others) = text

abbrev pub first_tripled : List StringLiteral → Bool
first_tripled [] = false
first_tripled (s ∷ others) = s.kind.tripled

abbrev pub first_path : List Token → List ℕ
first_path [] = []
first_path (token ∷ others) = token.path.now

abbrev pub others : {A : Type 0} → List A → List A
others [] = []
others (x ∷ xs) = xs

-- what follows as many elements as there are interpolations
abbrev pub after_parts : {A : Type 0} → Interpolations → List A → List A
after_parts shapes.closed xs = xs
after_parts (shapes.interpolation e part hs) xs = after_parts hs (others xs)

-- an operator between two sides is a token of its own, but `&&` and `||`
abbrev pub without_mark : Binary → List Token → List Token
without_mark disjunction tokens = tokens
without_mark conjunction tokens = tokens
without_mark (operators.comparison operator) tokens = others tokens
without_mark appending tokens = others tokens
without_mark concatenation tokens = others tokens
without_mark joining tokens = others tokens

abbrev pub without_token : Left → Left
without_token left = record left { tokens = others left.tokens }

abbrev pub with_first : {A B : Type 0} → (A → B) → A × Left → B × Left
with_first make a = (make a.0, a.1)

-- the texts, literals and tokens of an expression, and then others
abbrev pub before : Expression → Left → Left
before e left = record { texts = texts_of e ++ left.texts; literals = literals_of e ++ left.literals; tokens = tokens_of e ++ left.tokens }

abbrev pub before_two : Expression → Expression → Left → Left
before_two l r left = record { texts = (texts_of l ++ texts_of r) ++ left.texts; literals = (literals_of l ++ literals_of r) ++ left.literals; tokens = (tokens_of l ++ tokens_of r) ++ left.tokens }

pub two_apart : (l r : Expression) (left : Left) → before_two l r left ≡ before l (before r left)
two_apart l r left = λ i. record {
  texts = append_assoc (texts_of l) (texts_of r) left.texts i;
  literals = append_assoc (literals_of l) (literals_of r) left.literals i;
  tokens = append_assoc (tokens_of l) (tokens_of r) left.tokens i;
}

pub first_apart : {A : Type 0} (a b c d : List A) → ((a ++ b) ++ c) ++ d ≡ a ++ ((b ++ c) ++ d)
first_apart a b c d = append_assoc (a ++ b) c d ∙ append_assoc a b (c ++ d) ∙ ap (λ xs. a ++ xs) (sym (append_assoc b c d))

abbrev pub before_all : List Expression → Left → Left
before_all es left = record {
  texts = flat_map (λ e. e) (map texts_of es) ++ left.texts;
  literals = flat_map (λ e. e) (map literals_of es) ++ left.literals;
  tokens = flat_map (λ e. e) (map tokens_of es) ++ left.tokens;
}

abbrev pub texts_in : List (Expression × StringLiteral) → List (List ℕ)
texts_in es = interpolation_texts (map (beside texts_of) es)

abbrev pub literals_in : List (Expression × StringLiteral) → List StringLiteral
literals_in es = flat_map (λ e. e.0) (map (beside literals_of) es)

abbrev pub tokens_in : List (Expression × StringLiteral) → List Token
tokens_in es = flat_map (λ e. e.0) (map (beside tokens_of) es)

abbrev pub before_holes : List (Expression × StringLiteral) → Left → Left
before_holes es left = record { texts = texts_in es ++ left.texts; literals = literals_in es ++ left.literals; tokens = tokens_in es ++ left.tokens }

-- what follows what each part has of its own
passed : {A B : Type 0} (own : StringLiteral → A) (seen : Expression → B) (es : List (Expression × StringLiteral)) (rest : List A)
    → after_parts (interpolations_of es) (map (λ (e : B × StringLiteral). own e.1) (map (beside seen) es) ++ rest) ≡ rest
passed own seen [] rest = refl
passed own seen (e ∷ es) rest = passed own seen es rest

pub passed_by : {A B : Type 0} (own : StringLiteral → A) (seen : Expression → B) (es : List (Expression × StringLiteral)) (inner rest : List A)
    → after_parts (interpolations_of es) ((map (λ (e : B × StringLiteral). own e.1) (map (beside seen) es) ++ inner) ++ rest) ≡ inner ++ rest
passed_by own seen es inner rest = ap (after_parts (interpolations_of es)) (append_assoc _ inner rest) ∙ passed own seen es (inner ++ rest)

abbrev pub level_before : Expression-F Expression → Left → Left
level_before level left = record {
  texts = texts_step (map-Expression Expression (List (List ℕ)) texts_of level) ++ left.texts;
  literals = (let it = map-Expression Expression (List StringLiteral) literals_of level in own_literals it ++ inside it) ++ left.literals;
  tokens = (let it = map-Expression Expression (List Token) tokens_of level in own_tokens it ++ inside it) ++ left.tokens;
}

pub unrolled : (level : Expression-F Expression) (left : Left) → before (roll-Expression level) left ≡ level_before level left
unrolled level left = λ i. record {
  texts = fold-roll-Expression (List (List ℕ)) texts_step level i ++ left.texts;
  literals = fold-roll-Expression (List StringLiteral) (λ it. own_literals it ++ inside it) level i ++ left.literals;
  tokens = fold-roll-Expression (List Token) (λ it. own_tokens it ++ inside it) level i ++ left.tokens;
}
