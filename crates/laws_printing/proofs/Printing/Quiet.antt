-- What goes on after an expression, and what doesn't.
use Rattle.std.proofs.Common.{◌≡◌, ◌≢◌, ℕ, Bool, true, false, List, ◌∷◌, refl, ap, ◌∙◌}
use Rattle.just_text.specs.Tokens.{Word}
use Rattle.just_text.specs.declared.token_kind.TokenKind.{TokenKind}
use Rattle.just_text.specs.declared.token_kind.TokenKind.TheVariants.{BraceL, BraceR, BracketR, Comma, FormatStringContinue, FormatStringEnd, Identifier, ParenL, ParenR, Eol, InterpolationEnd, Whitespace}
use Rattle.tree_expressions.specs.Operators.{Binary, disjunction, conjunction, comparison, appending, concatenation, joining}
use Rattle.tree_expressions.specs.declared.operator.ConditionalOperator.TheVariants.{Equality, Inequality, RegexMatch, RegexMismatch}
use Rattle.tree_expressions.specs.Shape.{Shape}
use Rattle.parse_expressions.specs.Words.{is_kind, Mark, Lacks, LacksKeyword, else_keyword}
use Rattle.parse_expressions.specs.Operators.{sign}
use Rattle.parse_expressions.specs.Grammar.{May}
use Rattle.laws_printing.specs.Printing.Words.{word}
use Rattle.laws_printing.specs.Printing.Laws.{Quieter, Closed}

-- marks that no expression goes on with
unfoldable pub ends : TokenKind → Bool
ends BraceL = true
ends BraceR = true
ends BracketR = true
ends Comma = true
ends Eol = true
ends FormatStringContinue = true
ends FormatStringEnd = true
ends InterpolationEnd = true
ends ParenR = true
ends k = false

pub ends-sign : (operator : Binary) → ends (sign operator) ≡ false
unfolding ends
ends-sign disjunction = refl
ends-sign conjunction = refl
ends-sign (comparison Equality) = refl
ends-sign (comparison Inequality) = refl
ends-sign (comparison RegexMatch) = refl
ends-sign (comparison RegexMismatch) = refl
ends-sign appending = refl
ends-sign concatenation = refl
ends-sign joining = refl

pub sign-shown : (operator : Binary) → is_kind (sign operator) Whitespace ≡ false
sign-shown disjunction = refl
sign-shown conjunction = refl
sign-shown (comparison Equality) = refl
sign-shown (comparison Inequality) = refl
sign-shown (comparison RegexMatch) = refl
sign-shown (comparison RegexMismatch) = refl
sign-shown appending = refl
sign-shown concatenation = refl
sign-shown joining = refl

sign-name : (operator : Binary) → sign operator ≢ Identifier
sign-name disjunction = λ p. absurd cc
sign-name conjunction = λ p. absurd cc
sign-name (comparison Equality) = λ p. absurd cc
sign-name (comparison Inequality) = λ p. absurd cc
sign-name (comparison RegexMatch) = λ p. absurd cc
sign-name (comparison RegexMismatch) = λ p. absurd cc
sign-name appending = λ p. absurd cc
sign-name concatenation = λ p. absurd cc
sign-name joining = λ p. absurd cc

-- the kind of the first word
pub first_kind : (k j : TokenKind) (t u : List ℕ) (r s : List Word) → word k t ∷ r ≡ word j u ∷ s → k ≡ j
first_kind k j t u r s e =
    let one : word k t ≡ word j u = cc in
    ap (λ (w : Word). w.kind) one

differs : (kind other : TokenKind) → ends kind ≡ true → ends other ≡ false → kind ≢ other
differs kind other a b p = let q = ap ends p in cc

lacks_end : (kind other : TokenKind) (text : List ℕ) (rest : List Word) → ends kind ≡ true → ends other ≡ false → Lacks other (word kind text ∷ rest)
lacks_end kind other text rest h o r m = differs kind other h o (first_kind kind other text m.0 rest r m.1)

pub else_end : (kind : TokenKind) (text : List ℕ) (rest : List Word) → ends kind ≡ true → LacksKeyword else_keyword (word kind text ∷ rest)
unfolding ends
else_end kind text rest h r b = differs kind Identifier h refl (first_kind kind Identifier text else_keyword rest r b)

-- before such a mark nothing goes on
pub quiet_end : (kind : TokenKind) (text : List ℕ) (before rest : List Word) → ends kind ≡ true → Quieter before (word kind text ∷ rest)
unfolding ends
quiet_end kind text before rest h = record {
  calls = λ l. lacks_end kind ParenL text rest h refl;
  operators = λ operator l. lacks_end kind (sign operator) text rest h (ends-sign operator);
}

same_mark : (kind other : TokenKind) (text : List ℕ) (before next rest : List Word) → Mark kind before next → Lacks other before → Lacks other (word kind text ∷ rest)
same_mark kind other text before next rest m l r n =
    let same = first_kind kind other text n.0 rest r n.1 in
    l next (m.0, m.1 ∙ ap (λ (k : TokenKind). word k m.0 ∷ next) same)

-- before an operator what goes on is the same
pub quiet_sign : (operator : Binary) (text : List ℕ) (before next rest : List Word) → Mark (sign operator) before next → Quieter before (word (sign operator) text ∷ rest)
quiet_sign operator text before next rest m = record {
  calls = λ l. same_mark (sign operator) ParenL text before next rest m l;
  operators = λ other l. same_mark (sign operator) (sign other) text before next rest m l;
}

pub may : (k : ℕ) (e : Shape) (rest after : List Word) → May k e rest → Quieter rest after → May k e after
may k e rest after m q = record { binds = m.binds; stops = λ operator lo hi. q.operators operator (m.stops operator lo hi) }

pub closed_end : (e : Shape) (kind : TokenKind) (text : List ℕ) (rest : List Word) → ends kind ≡ true → Closed e (word kind text ∷ rest)
closed_end e kind text rest h t = else_end kind text rest h

pub closed_sign : (e : Shape) (operator : Binary) (text : List ℕ) (rest : List Word) → Closed e (word (sign operator) text ∷ rest)
closed_sign e operator text rest t r b = sign-name operator (first_kind (sign operator) Identifier text else_keyword rest r b)
