-- More levels change no answer, but that of an expression which is too deep.
use Rattle.std.proofs.Common.{◌≡◌, ℕ, zero, suc, ◌+◌, ◌<◌, ◌≤◌, Bool, true, false, cond, List, [], ◌∷◌, length, map, Result, Ok, Err, Option, Some, None, refl, ◌∙◌, arith, inl, inr, ◌⊎◌}
use Rattle.std.specs.Prelude.{◌==◌}
use Rattle.std.specs.Str.{bytes_eq}
use Rattle.just_text.specs.Tokens.{Word}
use Rattle.just_text.specs.declared.compile_error.CompileErrorKind.TheVariants.{ParsingRecursionDepthExceeded}
use Rattle.just_text.specs.declared.token_kind.TokenKind.{TokenKind}
use Rattle.just_text.specs.declared.token_kind.TokenKind.TheVariants.{Backtick, BraceL, BracketL, BracketR, Comma, FormatStringStart, Identifier, ParenL, ParenR, StringToken}
use Rattle.tree_expressions.specs.declared.string_kind.StringKind.{StringKind}
use Rattle.tree_expressions.specs.Kinds.{kind_of}
use Rattle.tree_expressions.specs.Parts.{cooked_part}
use Rattle.tree_expressions.specs.Shape.{Shape}
use Rattle.parse_expressions.specs.Words.{if_keyword, else_keyword, assert_keyword}
use Rattle.parse_expressions.specs.Operators.{right_rank}
use Rattle.parse_expressions.specs.Literals.{Expansion, is_open}
use Rattle.parse_expressions.specs.Grammar.{depth, Derives}
use Rattle.parse_expressions.specs.Reading.{◌>>=◌, on, Stop, unexpected, refused, Read, accept, expect, is_keyword, operator_at, prefix_at, taken_if, literal_at, elements_at, interpolation_at, interpolations_at, format_at, braces_at, otherwise_at, choice_at, closing_at, message_at, assertion_at, call_at, named_at, bracketed_at, primary_at, operand_at, expression_at}
use Rattle.parse_expressions.proofs.Taken.{test}
use Rattle.parse_expressions.proofs.Found.{found}
use Rattle.parse_expressions.proofs.Again.{Reads, again}

-- the first reading tells that it is too deep, or both agree
abbrev pub Refines : {T A : Type 0} → Result A (Stop T) → Result A (Stop T) → Type 0
Refines {T = T} r r' = ((place : T) × (r ≡ Err (refused place ParsingRecursionDepthExceeded))) ⊎ (r ≡ r')

bind : {T A B : Type 0} (r r' : Result A (Stop T)) (f f' : A → Result B (Stop T)) → Refines r r' → ((x : A) → Refines (f x) (f' x)) → Refines (r >>= f) (r' >>= f')
bind r r' f f' (inl e) h = inl (e.0, rw e.1 refl)
bind (Ok x) r' f f' (inr e) h = rw (← e) (h x)
bind (Err d) r' f f' (inr e) h = inr (rw (← e) refl)

either : {T A B : Type 0} (o : Option A) (n n' : Result B (Stop T)) (s s' : A → Result B (Stop T)) → Refines n n' → ((x : A) → Refines (s x) (s' x)) → Refines (on o n s) (on o n' s')
either None n n' s s' h g = h
either (Some x) n n' s s' h g = g x

chosen : {T B : Type 0} (b : Bool) (x x' y y' : Result B (Stop T)) → Refines x x' → Refines y y' → Refines (cond b x y) (cond b x' y')
chosen true x x' y y' h g = h
chosen false x x' y y' h g = g

module _ {T : Type 0} (word : T → Word) (expansion : Expansion) where
  module _ (p q : ℕ → List T → Read T Shape) (H : (k : ℕ) (ts : List T) → Refines (p k ts) (q k ts)) where
    elements : (n : ℕ) (close : TokenKind) (ts : List T) → Refines (elements_at word expansion p n close ts) (elements_at word expansion q n close ts)
    unfolding elements_at
    elements zero close ts = inr refl
    elements (suc n) close ts =
        either (accept word close ts) _ _ _ _
        (bind (p 6 ts) (q 6 ts) _ _ (H 6 ts) (λ e. either (accept word Comma e.1) _ _ _ _ (inr refl) (λ c. bind (elements_at word expansion p n close c.1) (elements_at word expansion q n close c.1) _ _ (elements n close c.1) (λ es. inr refl))))
        (λ c. inr refl)

    interpolation : (kind : StringKind) (ts : List T) → Refines (interpolation_at word expansion p kind ts) (interpolation_at word expansion q kind ts)
    unfolding interpolation_at
    interpolation kind ts = bind (p 6 ts) (q 6 ts) _ _ (H 6 ts) (λ e. inr refl)

    interpolations : (n : ℕ) (kind : StringKind) (ts : List T) → Refines (interpolations_at word expansion p n kind ts) (interpolations_at word expansion q n kind ts)
    unfolding interpolations_at
    interpolations zero kind ts = inr refl
    interpolations (suc n) kind ts =
        bind (interpolation_at word expansion p kind ts) (interpolation_at word expansion q kind ts) _ _ (interpolation kind ts) (λ h.
        chosen h.0.1 _ _ _ _ (bind (interpolations_at word expansion p n kind h.1) (interpolations_at word expansion q n kind h.1) _ _ (interpolations n kind h.1) (λ hs. inr refl)) (inr refl))

    format : (t : T) (ts : List T) → Refines (format_at word expansion p t ts) (format_at word expansion q t ts)
    unfolding format_at
    format t ts =
        bind (taken_if word t (cooked_part (kind_of (word t).text) (word t).text)) (taken_if word t (cooked_part (kind_of (word t).text) (word t).text)) _ _ (inr refl) (λ s.
        chosen (is_open s) _ _ _ _ (bind (interpolations_at word expansion p (suc (length ts)) (kind_of s) ts) (interpolations_at word expansion q (suc (length ts)) (kind_of s) ts) _ _ (interpolations (suc (length ts)) (kind_of s) ts) (λ hs. inr refl)) (inr refl))

    braces : (ts : List T) → Refines (braces_at word expansion p ts) (braces_at word expansion q ts)
    unfolding braces_at
    braces ts = bind (expect word BraceL ts) (expect word BraceL ts) _ _ (inr refl) (λ b. bind (p 6 b.1) (q 6 b.1) _ _ (H 6 b.1) (λ e. inr refl))

    otherwise : (ts : List T) → Refines (otherwise_at word expansion p ts) (otherwise_at word expansion q ts)
    unfolding otherwise_at
    otherwise ts = chosen (is_keyword word if_keyword ts) _ _ _ _ (H 0 ts) (braces ts)

    conditional : (ts : List T) → Refines (choice_at word expansion p ts) (choice_at word expansion q ts)
    unfolding choice_at
    conditional ts =
        bind (p 6 ts) (q 6 ts) _ _ (H 6 ts) (λ c. bind (braces_at word expansion p c.1) (braces_at word expansion q c.1) _ _ (braces c.1) (λ t.
        chosen (is_keyword word else_keyword t.1) _ _ _ _
        (bind (expect word Identifier t.1) (expect word Identifier t.1) _ _ (inr refl) (λ w. bind (otherwise_at word expansion p w.1) (otherwise_at word expansion q w.1) _ _ (otherwise w.1) (λ o. inr refl)))
        (inr refl)))

    message : (ts : List T) → Refines (message_at word expansion p ts) (message_at word expansion q ts)
    unfolding message_at closing_at
    message ts = either (accept word ParenR ts) _ _ _ _ (bind (p 6 ts) (q 6 ts) _ _ (H 6 ts) (λ m. inr refl)) (λ c. inr refl)

    claim : (ts : List T) → Refines (assertion_at word expansion p ts) (assertion_at word expansion q ts)
    unfolding assertion_at
    claim ts =
        bind (p 6 ts) (q 6 ts) _ _ (H 6 ts) (λ c. either (accept word Comma c.1) _ _ _ _ (inr refl) (λ d. bind (message_at word expansion p d.1) (message_at word expansion q d.1) _ _ (message d.1) (λ m. inr refl)))

    called : (x : List ℕ) (ts : List T) → Refines (call_at word expansion p x ts) (call_at word expansion q x ts)
    unfolding call_at
    called x ts =
        chosen (bytes_eq x assert_keyword) _ _ _ _ (claim ts)
        (bind (elements_at word expansion p (suc (length ts)) ParenR ts) (elements_at word expansion q (suc (length ts)) ParenR ts) _ _ (elements (suc (length ts)) ParenR ts) (λ es. inr refl))

    named : (x : List ℕ) (ts : List T) → Refines (named_at word expansion p x ts) (named_at word expansion q x ts)
    unfolding named_at
    named x ts = chosen (bytes_eq x if_keyword) _ _ _ _ (conditional ts) (either (accept word ParenL ts) _ _ _ _ (inr refl) (λ c. called x c.1))

    bracketed : (ts : List T) → Refines (bracketed_at word expansion p ts) (bracketed_at word expansion q ts)
    unfolding bracketed_at
    bracketed ts =
        either (accept word ParenL ts) _ _ _ _
        (bind (expect word BracketL ts) (expect word BracketL ts) _ _ (inr refl) (λ c. bind (elements_at word expansion p (suc (length c.1)) BracketR c.1) (elements_at word expansion q (suc (length c.1)) BracketR c.1) _ _ (elements (suc (length c.1)) BracketR c.1) (λ es. inr refl)))
        (λ c. bind (p 6 c.1) (q 6 c.1) _ _ (H 6 c.1) (λ e. inr refl))

    primary : (ts : List T) → Refines (primary_at word expansion p ts) (primary_at word expansion q ts)
    unfolding primary_at literal_at
    primary ts =
        either (accept word StringToken ts) _ _ _ _
        (either (accept word Backtick ts) _ _ _ _
        (either (accept word FormatStringStart ts) _ _ _ _
        (either (accept word Identifier ts) _ _ _ _ (bracketed ts) (λ c. named (word c.0).text c.1))
        (λ c. format c.0 c.1))
        (λ c. inr refl))
        (λ c. inr refl)

    operand : (j : ℕ) (ts : List T) → Refines (operand_at word expansion p j ts) (operand_at word expansion q j ts)
    unfolding operand_at
    operand zero ts = primary ts
    operand (suc j) ts =
        either (prefix_at word (suc j) ts) _ _ _ _
        (bind (operand_at word expansion p j ts) (operand_at word expansion q j ts) _ _ (operand j ts) (λ l. either (operator_at word (suc j) l.1) _ _ _ _ (inr refl) (λ o. bind (p (right_rank o.0.1) o.1) (q (right_rank o.0.1) o.1) _ _ (H (right_rank o.0.1) o.1) (λ r. inr refl))))
        (λ c. bind (p (suc j) c.1) (q (suc j) c.1) _ _ (H (suc j) c.1) (λ e. inr refl))

  -- ---- at the end

  no_prefix : (k : ℕ) → prefix_at word k [] ≡ None
  unfolding prefix_at accept
  no_prefix k =
      elim (test (k == 1)) [
        | inl w ↦ rw w refl
        | inr w ↦ elim (test (k == 2)) [ inl v ↦ rw (w, v) refl | inr v ↦ rw (w, v) refl ]
      ]

  no_operand : (deeper : ℕ → List T → Read T Shape) (j : ℕ) → operand_at word expansion deeper j [] ≡ Err (unexpected None)
  unfolding operand_at primary_at bracketed_at accept expect
  no_operand deeper zero = refl
  no_operand deeper (suc j) = rw (no_prefix (suc j), no_operand deeper j) refl

  no_expression : (levels k : ℕ) → expression_at word expansion levels k [] ≡ Err (unexpected None)
  unfolding expression_at
  no_expression zero k = refl
  no_expression (suc d) k = no_operand (expression_at word expansion d) k

  -- ---- with more levels

  stable : (levels others k : ℕ) (ts : List T) → levels ≤ others → Refines (expression_at word expansion levels k ts) (expression_at word expansion others k ts)
  unfolding expression_at
  stable zero others k [] le = inr (rw (no_expression others k) refl)
  stable zero others k (t ∷ ts) le = inl (t, refl)
  stable (suc d) zero k ts le = absurd (omega arith)
  stable (suc d) (suc m) k ts le = operand (expression_at word expansion d) (expression_at word expansion m) (λ j us. stable d m j us (omega arith)) k ts

  deeper_again : (levels others k : ℕ) (ts : List T) (rest : List Word) (e : Shape) → Derives expansion others k (map word ts) e rest → Reads word expansion (expression_at word expansion (levels + others) k ts) e rest
  deeper_again levels others k ts rest e h = again word expansion (levels + others) k ts rest e (record { is = h.is; may = h.may; fits = omega (arith, h.fits) })

  -- where something is unexpected there is no expression
  pub never : (levels k : ℕ) (ts : List T) (rest : List Word) (e : Shape) (others : ℕ) (place : Option T) → expression_at word expansion levels k ts ≡ Err (unexpected place) → Derives expansion others k (map word ts) e rest → ⊥
  never levels k ts rest e others place h d =
      let g = (deeper_again levels others k ts rest e d).is in
      elim (stable levels (levels + others) k ts (omega arith)) [ inl w ↦ let p = w.1 in absurd cc | inr w ↦ absurd cc ]

  -- one that is too deep is refused for that
  pub told : (levels k : ℕ) (ts : List T) (rest : List Word) (e : Shape) (others : ℕ) → Derives expansion others k (map word ts) e rest → levels < depth e → (place : T) × (expression_at word expansion levels k ts ≡ Err (refused place ParsingRecursionDepthExceeded))
  told levels k ts rest e others d deep =
      let g = deeper_again levels others k ts rest e d in
      elim (stable levels (levels + others) k ts (omega arith)) [
        | inl w ↦ w
        | inr w ↦ absurd (omega (arith, (found word expansion levels k ts (e, g.rest) (w ∙ g.is)).fits))
      ]
