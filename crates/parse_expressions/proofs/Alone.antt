-- An operand that stands alone is of every rank.
use Rattle.std.proofs.Common.{◌≡◌, ◌≢◌, ◌-◌, ℕ, zero, suc, true, false, List, [], ◌∷◌, Result, Ok, Err, Option, Some, None, refl, ◌∙◌, arith, inl, inr, ◌⊎◌}
use Rattle.std.specs.Prelude.{◌==◌}
use Rattle.std.specs.Str.{bytes_eq}
use Rattle.just_text.specs.Tokens.{Word}
use Rattle.just_text.specs.declared.token_kind.TokenKind.{TokenKind}
use Rattle.just_text.specs.declared.token_kind.TokenKind.TheVariants.{Backtick, Bang, FormatStringStart, Identifier, ParenL, Slash, StringToken}
use Rattle.tree_expressions.specs.Cooking.{cooked}
use Rattle.tree_expressions.specs.Operators.{Binary}
use Rattle.tree_expressions.specs.Shape.{Shape, literal, variable}
use Rattle.parse_expressions.specs.Alone.{is_alone, is_end, goes_on}
use Rattle.parse_expressions.specs.Words.{is_kind, if_keyword}
use Rattle.parse_expressions.specs.Literals.{Expansion}
use Rattle.parse_expressions.specs.Operators.{operator_of}
use Rattle.parse_expressions.specs.Reading.{◌>>=◌, Stop, Read, accept, operator_at, prefix_at, taken_if, literal_at, named_at, primary_at, operand_at, expression_at}
use Rattle.parse_expressions.proofs.Taken.{is_kind-same, test}

module _ {T : Type 0} (word : T → Word) where
  other_not : (k : TokenKind) (o : Option Binary) → operator_of k ≡ o → goes_on k ≡ false → operator_of k ≡ None
  other_not k None e h = e
  other_not k (Some operator) e h = let p = rw e at h in grind (arith, p)

  no_operator : (k : ℕ) (ts : List T) → is_end word ts ≡ true → operator_at word k ts ≡ None
  unfolding operator_at
  no_operator k [] h = refl
  no_operator k (t ∷ ts) h =
      let ends : goes_on (word t).kind ≡ false = grind (arith, h) in
      let none = other_not (word t).kind (operator_of (word t).kind) refl ends in
      rw none refl

  no_parenthesis : (ts : List T) → is_end word ts ≡ true → accept word ParenL ts ≡ None
  unfolding accept
  no_parenthesis [] h = refl
  no_parenthesis (t ∷ ts) h =
      let differs : is_kind (word t).kind ParenL ≡ false = grind (arith, h) in
      rw differs refl

  other_kind : (k j i : TokenKind) → is_kind k j ≡ true → is_kind j i ≡ false → is_kind k i ≡ false
  other_kind k j i h differs = rw (is_kind-same k j h) differs

  -- the first is no prefix
  no_prefix : (k : ℕ) (t : T) (ts : List T) → is_kind (word t).kind Bang ≡ false → is_kind (word t).kind Slash ≡ false → prefix_at word k (t ∷ ts) ≡ None
  unfolding prefix_at accept
  no_prefix k t ts bang slash =
      elim (test (k == 1)) [
        | inl one ↦ rw (one, bang) refl
        | inr other ↦ elim (test (k == 2)) [
          | inl two ↦ rw (other, two, slash) refl
          | inr neither ↦ rw (other, neither) refl
        ]
      ]

  module _ (expansion : Expansion) (deeper : ℕ → List T → Read T Shape) where
    -- reading fails, or takes what comes first alone
    abbrev TakesOne : List T → Read T Shape → Type 0
    TakesOne ts r = ((e : Stop T) × (r ≡ Err e)) ⊎ ((s : Shape) × (r ≡ Ok (s, ts)))

    of_literal : (t : T) (ts : List T) (r : Result (List ℕ) (Stop T)) → TakesOne ts (r >>= λ s. Ok (literal s, ts))
    of_literal t ts (Ok s) = inr (literal s, refl)
    of_literal t ts (Err e) = inl (e, refl)

    of_string : (t : T) (ts : List T) → is_kind (word t).kind StringToken ≡ true → TakesOne ts (primary_at word expansion deeper (t ∷ ts))
    unfolding primary_at accept literal_at
    of_string t ts h = rw h (of_literal t ts (taken_if word t (cooked expansion (word t).text)))

    of_name : (t : T) (ts : List T) → is_kind (word t).kind Identifier ≡ true → bytes_eq (word t).text if_keyword ≡ false → accept word ParenL ts ≡ None → TakesOne ts (primary_at word expansion deeper (t ∷ ts))
    unfolding primary_at accept named_at
    of_name t ts h other alone =
        let a = other_kind (word t).kind Identifier StringToken h refl in
        let b = other_kind (word t).kind Identifier Backtick h refl in
        let c = other_kind (word t).kind Identifier FormatStringStart h refl in
        rw (a, b, c, h, other, alone) (inr (variable (word t).text, refl))

    raised : (k : ℕ) (ts us : List T) → prefix_at word (suc k) ts ≡ None → is_end word us ≡ true → TakesOne us (operand_at word expansion deeper k ts)
        → operand_at word expansion deeper (suc k) ts ≡ operand_at word expansion deeper k ts
    unfolding operand_at
    raised k ts us none ends (inl e) = rw (none, e.1) refl
    raised k ts us none ends (inr s) = rw (none, s.1, no_operator (suc k) us ends) refl

    same_at_rank : (k : ℕ) (ts us : List T) → ((j : ℕ) → prefix_at word j ts ≡ None) → is_end word us ≡ true → TakesOne us (primary_at word expansion deeper ts)
        → operand_at word expansion deeper k ts ≡ primary_at word expansion deeper ts
    unfolding operand_at
    same_at_rank zero ts us none ends takes = refl
    same_at_rank (suc j) ts us none ends takes =
        let lower = same_at_rank j ts us none ends takes in
        raised j ts us (none (suc j)) ends (rw lower takes) ∙ lower

    pub alone : (k : ℕ) (ts : List T) → is_alone word ts ≡ true → operand_at word expansion deeper k ts ≡ primary_at word expansion deeper ts
    unfolding is_alone
    alone k [] h = absurd cc
    alone k (t ∷ ts) h =
        let ends : is_end word ts ≡ true = grind (arith, h) in
        elim (test (is_kind (word t).kind StringToken)) [
          | inl w ↦
              let bang = other_kind (word t).kind StringToken Bang w refl in
              let slash = other_kind (word t).kind StringToken Slash w refl in
              same_at_rank k (t ∷ ts) ts (λ j. no_prefix j t ts bang slash) ends (of_string t ts w)
          | inr w ↦
              let name : is_kind (word t).kind Identifier ≡ true = grind (arith, h, w) in
              let other : bytes_eq (word t).text if_keyword ≡ false = grind (arith, h, w) in
              let bang = other_kind (word t).kind Identifier Bang name refl in
              let slash = other_kind (word t).kind Identifier Slash name refl in
              same_at_rank k (t ∷ ts) ts (λ j. no_prefix j t ts bang slash) ends (of_name t ts name other (no_parenthesis ts ends))
        ]

  module _ (expansion : Expansion) (levels k : ℕ) (ts : List T) where
    stepped : (n : ℕ) → n ≢ 0 → expression_at word expansion n k ts ≡ operand_at word expansion (expression_at word expansion (n - 1)) k ts
    unfolding expression_at
    stepped zero left = absurd (left refl)
    stepped (suc d) left = let less : suc d - 1 ≡ d = omega arith in rw less refl

    -- an expression where a level is left
    pub expression_step : levels ≢ 0 → expression_at word expansion levels k ts ≡ operand_at word expansion (expression_at word expansion (levels - 1)) k ts
    expression_step left = stepped levels left

    pub expression_alone : levels ≢ 0 → is_alone word ts ≡ true → expression_at word expansion levels k ts ≡ primary_at word expansion (expression_at word expansion (levels - 1)) ts
    expression_alone left h = expression_step left ∙ alone expansion (expression_at word expansion (levels - 1)) k ts h
