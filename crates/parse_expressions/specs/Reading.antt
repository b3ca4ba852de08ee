-- How expressions are read: what is taken and what lies ahead then, or why reading stops. Whatever can be seen as words is read.
use Rattle.std.specs.Prelude.{ℕ, zero, suc, ◌≡◌, ◌==◌, List, [], ◌∷◌, length, filter, Bool, true, false, ◌&&◌, Option, Some, None, is_some, Result, Ok, Err, if◌then◌else◌}
use Rattle.std.specs.Str.{bytes_eq}
use Rattle.just_text.specs.Tokens.{Word, word_of}
use Rattle.just_text.specs.declared.compile_error.CompileErrorKind.{CompileErrorKind}
use Rattle.just_text.specs.declared.compile_error.CompileErrorKind.TheVariants as kinds
use Rattle.just_text.specs.declared.token.Token.{Token}
use Rattle.just_text.specs.declared.token_kind.TokenKind.{TokenKind}
use Rattle.just_text.specs.declared.token_kind.TokenKind.TheVariants.{Backtick, Bang, BraceL, BraceR, BracketL, BracketR, Comma, FormatStringContinue, FormatStringEnd, FormatStringStart, Identifier, ParenL, ParenR, Slash, StringToken}
use Rattle.tree_expressions.specs.declared.string_kind.StringKind.{StringKind}
use Rattle.tree_expressions.specs.Cooking.{cooked}
use Rattle.tree_expressions.specs.Kinds.{kind_of}
use Rattle.tree_expressions.specs.Parts.{cooked_part}
use Rattle.tree_expressions.specs.Operators.{Binary}
use Rattle.tree_expressions.specs.Shape.{Shape, Shapes, Interpolations, literal, command, format, variable, call, assertion, assertion_alone, group, listing, choice, choice_alone, negation, rooted, binary, end, more, closed, interpolation}
use Rattle.parse_expressions.specs.declared.fault.Fault.{Fault}
use Rattle.parse_expressions.specs.declared.fault.Fault.TheVariants as faults
use Rattle.parse_expressions.specs.declared.cursor.Cursor.{Cursor}
use Rattle.parse_expressions.specs.Words.{is_kind, is_significant, if_keyword, else_keyword, assert_keyword}
use Rattle.parse_expressions.specs.Operators.{operator_of, rank, right_rank}
use Rattle.parse_expressions.specs.Literals.{Expansion, is_script, is_open}

infixl 10 ◌>>=◌
abbrev pub ◌>>=◌ : {A B E : Type 0} → Result A E → (A → Result B E) → Result B E
(Ok x) >>= f = f x
(Err e) >>= f = Err e

abbrev pub on : {A B : Type 0} → Option A → B → (A → B) → B
on None n s = n
on (Some x) n s = s x

-- why reading stops
pub data Stop (T : Type 0) : Type 0 where
  -- at what no rule takes, or at the end
  unexpected : Option T → Stop T
  -- at what breaks a rule
  refused : T → CompileErrorKind → Stop T

abbrev pub Read : Type 0 → Type 0 → Type 0
Read T A = Result (A × List T) (Stop T)

-- what comes first, if anything
abbrev pub first : {T : Type 0} → List T → Option T
first [] = None
first (t ∷ ts) = Some t

abbrev pub shown : List Token → List Token
shown ts = filter (λ t. is_significant (word_of t)) ts

-- the tokens ahead that are not white space
abbrev pub ahead : Cursor → List Token
ahead c = shown c.rest.now

-- the same where the first isn't white space
abbrev pub with_front : List Token → List Token
with_front [] = []
with_front (t ∷ ts) = t ∷ shown ts

-- A fault is what reading stops at, unless memory ran out. Reading uses no numbers.
abbrev pub Fails : {Y : Type 0} → Fault → Result Y (Stop Token) → Type 0
Fails faults.OutOfMemory read = Unit {0}
Fails faults.NumbersUsed read = ⊥
Fails (faults.Unexpected found) read = read ≡ Err (unexpected found)
Fails (faults.Refused token kind) read = read ≡ Err (refused token kind)

-- What a function returned, seen by view, is what reading gives, unless memory ran out.
abbrev pub Gives : {X Y : Type 0} → (X → Y) → Result X Fault → Result Y (Stop Token) → Type 0
Gives view (Ok x) read = read ≡ Ok (view x)
Gives view (Err e) read = Fails e read

-- how an operator without a left side makes an expression
pub data Prefix : Type 0 where
  bang : Prefix
  slash : Prefix

abbrev pub prefixed : Prefix → Shape → Shape
prefixed bang e = negation e
prefixed slash e = rooted e

abbrev pub asserted : Shape → Option Shape → Shape
asserted c None = assertion_alone c
asserted c (Some m) = assertion c m

abbrev pub chosen : Shape → Shape → Option Shape → Shape
chosen c t None = choice_alone c t
chosen c t (Some o) = choice c t o

-- what stands in the way where no level is left
abbrev pub too_deep : {T : Type 0} → Option T → Stop T
too_deep None = unexpected None
too_deep (Some t) = refused t kinds.ParsingRecursionDepthExceeded

module _ {T : Type 0} (word : T → Word) where
  unfoldable pub accept : TokenKind → List T → Option (T × List T)
  accept kind [] = None
  accept kind (t ∷ ts) = if is_kind (word t).kind kind then Some (t, ts) else None

  unfoldable pub expect : TokenKind → List T → Read T T
  expect kind ts = on (accept kind ts) (Err (unexpected (first ts))) (λ p. Ok p)

  unfoldable pub is_next : TokenKind → List T → Bool
  is_next kind ts = is_some (accept kind ts)

  -- an identifier with that text comes first
  unfoldable pub is_keyword : List ℕ → List T → Bool
  is_keyword keyword [] = false
  is_keyword keyword (t ∷ ts) = is_kind (word t).kind Identifier && bytes_eq (word t).text keyword

  abbrev pub operator_if : ℕ → T → Option Binary → List T → Option ((T × Binary) × List T)
  operator_if k t None ts = None
  operator_if k t (Some operator) ts = if rank operator == k then Some ((t, operator), ts) else None

  -- an operator of that rank
  unfoldable pub operator_at : ℕ → List T → Option ((T × Binary) × List T)
  operator_at k [] = None
  operator_at k (t ∷ ts) = operator_if k t (operator_of (word t).kind) ts

  abbrev pub prefix_if : Prefix → Option (T × List T) → Option ((T × Prefix) × List T)
  prefix_if p None = None
  prefix_if p (Some (t, ts)) = Some ((t, p), ts)

  -- an operator of that rank without a left side
  unfoldable pub prefix_at : ℕ → List T → Option ((T × Prefix) × List T)
  prefix_at k ts = if k == 1 then prefix_if bang (accept Bang ts) else if k == 2 then prefix_if slash (accept Slash ts) else None

  -- the token, if its text is cooked
  abbrev pub taken_if : T → Result (List ℕ) CompileErrorKind → Result (List ℕ) (Stop T)
  taken_if t (Ok text) = Ok (word t).text
  taken_if t (Err kind) = Err (refused t kind)

  unfoldable pub command_at : T → List T → Read T Shape
  command_at t ts = if is_script (word t).text then Err (refused t kinds.BacktickShebang) else Ok (command (word t).text, ts)

  -- a command with its token
  abbrev pub command_next : List T → Read T Shape
  command_next ts = expect Backtick ts >>= λ p. command_at p.0 p.1

  -- a part of a format string of this kind, and whether an interpolation follows
  unfoldable pub part_at : StringKind → List T → Read T (List ℕ × Bool)
  part_at kind ts =
      on (accept FormatStringContinue ts)
      (expect FormatStringEnd ts >>= λ p. taken_if p.0 (cooked_part kind (word p.0).text) >>= λ s. Ok ((s, false), p.1))
      (λ p. taken_if p.0 (cooked_part kind (word p.0).text) >>= λ s. Ok ((s, true), p.1))

  -- the end of a call, perhaps after a comma
  unfoldable pub closing_at : List T → Result (List T) (Stop T)
  closing_at ts = on (accept Comma ts) (expect ParenR ts) (λ p. expect ParenR p.1) >>= λ p. Ok p.1

  -- a left side alone, or with the operator of that rank after it and its right side
  abbrev pub behind_at : (ℕ → List T → Read T Shape) → ℕ → Shape × List T → Read T Shape
  behind_at deeper k l = on (operator_at k l.1) (Ok l) (λ o. deeper (right_rank o.0.1) o.1 >>= λ r. Ok (binary o.0.1 l.0 r.0, r.1))

  module _ (expansion : Expansion) where
    unfoldable pub literal_at : T → List T → Read T Shape
    literal_at t ts = taken_if t (cooked expansion (word t).text) >>= λ s. Ok (literal s, ts)

    -- a string with its token
    abbrev pub literal_next : List T → Read T Shape
    literal_next ts = expect StringToken ts >>= λ p. literal_at p.0 p.1

    module _ (deeper : ℕ → List T → Read T Shape) where
      -- Elements up to a closing mark. The number bounds the turns, for which the count of the tokens is always enough.
      unfoldable pub elements_at : ℕ → TokenKind → List T → Read T Shapes
      elements_at zero close ts = Err (unexpected (first ts))
      elements_at (suc n) close ts =
          on (accept close ts)
          (deeper 6 ts >>= λ e. on (accept Comma e.1)
          (expect close e.1 >>= λ p. Ok (more e.0 end, p.1))
          (λ p. elements_at n close p.1 >>= λ es. Ok (more e.0 es.0, es.1)))
          (λ p. Ok (end, p.1))

      -- an interpolation and the part after it
      unfoldable pub interpolation_at : StringKind → List T → Read T ((Shape × List ℕ) × Bool)
      interpolation_at kind ts = deeper 6 ts >>= λ e. part_at kind e.1 >>= λ p. Ok (((e.0, p.0.0), p.0.1), p.1)

      -- the interpolations of a format string, at least one
      unfoldable pub interpolations_at : ℕ → StringKind → List T → Read T Interpolations
      interpolations_at zero kind ts = Err (unexpected (first ts))
      interpolations_at (suc n) kind ts =
          interpolation_at kind ts >>= λ h. if h.0.1
          then (interpolations_at n kind h.1 >>= λ hs. Ok (interpolation h.0.0.0 h.0.0.1 hs.0, hs.1))
          else Ok (interpolation h.0.0.0 h.0.0.1 closed, h.1)

      unfoldable pub format_at : T → List T → Read T Shape
      format_at t ts =
          taken_if t (cooked_part (kind_of (word t).text) (word t).text) >>= λ s. if is_open s
          then (interpolations_at (suc (length ts)) (kind_of s) ts >>= λ hs. Ok (format s hs.0, hs.1))
          else Ok (format s closed, ts)

      -- a format string with its first token
      abbrev pub format_next : List T → Read T Shape
      format_next ts = expect FormatStringStart ts >>= λ p. format_at p.0 p.1

      unfoldable pub braces_at : List T → Read T Shape
      braces_at ts = expect BraceL ts >>= λ b. deeper 6 b.1 >>= λ e. expect BraceR e.1 >>= λ d. Ok (e.0, d.1)

      unfoldable pub otherwise_at : List T → Read T Shape
      otherwise_at ts = if is_keyword if_keyword ts then deeper 0 ts else braces_at ts

      -- what stands after `if`
      unfoldable pub choice_at : List T → Read T Shape
      choice_at ts =
          deeper 6 ts >>= λ c. braces_at c.1 >>= λ t. if is_keyword else_keyword t.1
          then (expect Identifier t.1 >>= λ w. otherwise_at w.1 >>= λ o. Ok (choice c.0 t.0 o.0, o.1))
          else Ok (choice_alone c.0 t.0, t.1)

      -- the message of an assertion after its comma, if there is one
      unfoldable pub message_at : List T → Read T (Option Shape)
      message_at ts = on (accept ParenR ts) (deeper 6 ts >>= λ m. closing_at m.1 >>= λ rest. Ok (Some m.0, rest)) (λ p. Ok (None, p.1))

      -- what stands after `assert` and its parenthesis
      unfoldable pub assertion_at : List T → Read T Shape
      assertion_at ts =
          deeper 6 ts >>= λ c. on (accept Comma c.1)
          (expect ParenR c.1 >>= λ p. Ok (assertion_alone c.0, p.1))
          (λ p. message_at p.1 >>= λ m. Ok (asserted c.0 m.0, m.1))

      -- the arguments of a call after its parenthesis
      abbrev pub arguments_at : List ℕ → List T → Read T Shape
      arguments_at x ts = elements_at (suc (length ts)) ParenR ts >>= λ es. Ok (call x es.0, es.1)

      -- what stands after a name and a parenthesis
      unfoldable pub call_at : List ℕ → List T → Read T Shape
      call_at x ts = if bytes_eq x assert_keyword then assertion_at ts else arguments_at x ts

      -- what a name begins
      unfoldable pub named_at : List ℕ → List T → Read T Shape
      named_at x ts = if bytes_eq x if_keyword then choice_at ts else on (accept ParenL ts) (Ok (variable x, ts)) (λ p. call_at x p.1)

      -- a name, and what it begins
      abbrev pub named_next : List T → Read T Shape
      named_next ts = expect Identifier ts >>= λ p. named_at (word p.0).text p.1

      abbrev pub listing_at : List T → Read T Shape
      listing_at ts = expect BracketL ts >>= λ p. elements_at (suc (length p.1)) BracketR p.1 >>= λ es. Ok (listing es.0, es.1)

      unfoldable pub bracketed_at : List T → Read T Shape
      bracketed_at ts =
          on (accept ParenL ts) (listing_at ts)
          (λ p. deeper 6 p.1 >>= λ e. expect ParenR e.1 >>= λ q. Ok (group e.0, q.1))

      unfoldable pub primary_at : List T → Read T Shape
      primary_at ts =
          on (accept StringToken ts)
          (on (accept Backtick ts)
          (on (accept FormatStringStart ts)
          (on (accept Identifier ts) (bracketed_at ts) (λ p. named_at (word p.0).text p.1))
          (λ p. format_at p.0 p.1))
          (λ p. command_at p.0 p.1))
          (λ p. literal_at p.0 p.1)

      -- an operand of that rank
      unfoldable pub operand_at : ℕ → List T → Read T Shape
      operand_at zero ts = primary_at ts
      operand_at (suc j) ts =
          on (prefix_at (suc j) ts)
          (operand_at j ts >>= behind_at deeper (suc j))
          (λ p. deeper (suc j) p.1 >>= λ e. Ok (prefixed p.0.1 e.0, e.1))

    -- an expression where rank k is allowed, with so many levels left
    unfoldable pub expression_at : ℕ → ℕ → List T → Read T Shape
    expression_at zero k ts = Err (too_deep (first ts))
    expression_at (suc levels) k ts = operand_at (expression_at levels) k ts
