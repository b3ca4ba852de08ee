-- Expressions.
use Rattle.std.proofs.Common.{◌≡◌, ℕ, zero, suc, ◌==◌, Option, Some, None, Result, Ok, Err, List, [], ◌∷◌, map, length, refl, ap, inl, inr}
use Rattle.just_text.specs.Tokens.{Word}
use Rattle.just_text.specs.declared.token_kind.TokenKind.{TokenKind}
use Rattle.just_text.specs.declared.token_kind.TokenKind.TheVariants.{Backtick, Bang, BraceL, BraceR, BracketL, BracketR, Comma, FormatStringContinue, FormatStringEnd, FormatStringStart, Identifier, ParenL, ParenR, Slash, StringToken}
use Rattle.just_text.specs.declared.compile_error.CompileErrorKind.{CompileErrorKind}
use Rattle.tree_expressions.specs.declared.string_kind.StringKind.{StringKind}
use Rattle.tree_expressions.specs.Kinds.{kind_of}
use Rattle.tree_expressions.specs.Parts.{cooked_part}
use Rattle.tree_expressions.specs.Operators.{Binary}
use Rattle.tree_expressions.specs.Shape.{Shape}
use Rattle.parse_expressions.specs.Literals.{Expansion}
use Rattle.parse_expressions.specs.Operators.{operator_of, rank, right_rank}
use Rattle.parse_expressions.specs.Reading.{on, Read, Prefix, bang, slash, accept, operator_if, operator_at, prefix_if, prefix_at, taken_if, command_at, part_at, closing_at, behind_at, literal_at, elements_at, interpolation_at, interpolations_at, format_at, braces_at, otherwise_at, choice_at, message_at, assertion_at, arguments_at, call_at, named_at, listing_at, bracketed_at, primary_at, operand_at, expression_at}
use Rattle.parse_expressions.specs.Words.{else_keyword, if_keyword}
use Rattle.std.specs.Option.{option_map}
use Rattle.just_text.specs.declared.token_kind.TokenKind.TheVariants.{Comment, Eof, Eol}
use Rattle.parse_expressions.specs.LineEnds.{eol_at}
use Rattle.parse_expressions.specs.Rows.{more_at}
use Rattle.parse_expressions.specs.Strings.{string_at}
use Rattle.parse_expressions.proofs.Taken.{test}
use Rattle.laws_reading.specs.Words.Mapped.{MapsTo, MapsOptionTo, map_stop, step, same}
use Rattle.laws_reading.proofs.Words.Steps.{accepts, aside, bind, choose, either, expects, first_stops, keywords, length_there, nexts, ok, seen, stops}

module _ {T S : Type 0} (f : T → S) (word : S → Word) where
  abbrev pub Gives : {A : Type 0} → Read T A → Read S A → Type 0
  Gives read other = MapsTo (map_stop f) (same f) read other

  taken_goes : (t : T) (text : Result (List ℕ) CompileErrorKind) → MapsTo (map_stop f) (λ s. s) (taken_if (seen f word) t text) (taken_if word (f t) text)
  taken_goes t (Ok text) = record { is = refl }
  taken_goes t (Err kind) = record { is = refl }

  command_goes : (t : T) (ts : List T) → Gives (command_at (seen f word) t ts) (command_at word (f t) (map f ts))
  unfolding command_at
  command_goes t ts = either refl stops ok

  part_goes : (kind : StringKind) (ts : List T) → Gives (part_at (seen f word) kind ts) (part_at word kind (map f ts))
  unfolding part_at
  part_goes kind ts =
      choose _ (accepts f word FormatStringContinue ts)
      (bind _ (expects f word FormatStringEnd ts) (λ p. bind _ (taken_goes p.0 _) (λ s. ok)))
      (λ p. bind _ (taken_goes p.0 _) (λ s. ok))

  pub closing_goes : (ts : List T) → MapsTo (map_stop f) (map f) (closing_at (seen f word) ts) (closing_at word (map f ts))
  unfolding closing_at
  closing_goes ts = bind _ (choose _ (accepts f word Comma ts) (expects f word ParenR ts) (λ p. expects f word ParenR p.1)) (λ p. ok)

  pub eol_goes : (ts : List T) → MapsTo (map_stop f) (map f) (eol_at (seen f word) ts) (eol_at word (map f ts))
  unfolding eol_at
  eol_goes ts =
      let a : List T = on (accept (seen f word) Comment ts) ts (λ p. p.1) in
      rw (aside f word Comment ts) (choose _ (accepts f word Eol a) (either (nexts f word Eof a) ok (first_stops f a)) (λ p. ok))

  pub more_goes : (close : TokenKind) (ts : List T) → Gives (more_at (seen f word) close ts) (more_at word close (map f ts))
  unfolding more_at
  more_goes close ts =
      choose _ (accepts f word Comma ts) (bind _ (expects f word close ts) (λ p. ok)) (λ c. choose _ (accepts f word close c.1) ok (λ p. ok))

  op_sees : (k : ℕ) (t : T) (o : Option Binary) (ts : List T) → MapsOptionTo (step f (λ (p : T × Binary). (f p.0, p.1))) (operator_if (seen f word) k t o ts) (operator_if word k (f t) o (map f ts))
  op_sees k t None ts = record { is = refl }
  op_sees k t (Some operator) ts = elim (test (rank operator == k)) [ inl h ↦ record { is = rw h refl } | inr h ↦ record { is = rw h refl } ]

  operators : (k : ℕ) (ts : List T) → MapsOptionTo (step f (λ (p : T × Binary). (f p.0, p.1))) (operator_at (seen f word) k ts) (operator_at word k (map f ts))
  unfolding operator_at
  operators k [] = record { is = refl }
  operators k (t ∷ ts) = op_sees k t (operator_of (word (f t)).kind) ts

  pre_sees : (p : Prefix) (o : Option (T × List T)) (n : Option (S × List S)) → option_map (step f f) o ≡ n → MapsOptionTo (step f (λ (p : T × Prefix). (f p.0, p.1))) (prefix_if (seen f word) p o) (prefix_if word p n)
  pre_sees p None n e = record { is = ap (prefix_if word p) e }
  pre_sees p (Some x) n e = record { is = ap (prefix_if word p) e }

  prefixes : (k : ℕ) (ts : List T) → MapsOptionTo (step f (λ (p : T × Prefix). (f p.0, p.1))) (prefix_at (seen f word) k ts) (prefix_at word k (map f ts))
  unfolding prefix_at
  prefixes k ts =
      elim (test (k == 1)) [
        | inl h ↦ let p = pre_sees bang (accept (seen f word) Bang ts) (accept word Bang (map f ts)) (accepts f word Bang ts).is in rw h p
        | inr h ↦ elim (test (k == 2)) [
          | inl j ↦ let p = pre_sees slash (accept (seen f word) Slash ts) (accept word Slash (map f ts)) (accepts f word Slash ts).is in rw (h, j) p
          | inr j ↦ record { is = rw (h, j) refl }
        ]
      ]

  module _ (expansion : Expansion) where
    pub string_goes : (ts : List T) → Gives (string_at (seen f word) expansion ts) (string_at word expansion (map f ts))
    unfolding string_at
    string_goes ts = bind _ (expects f word StringToken ts) (λ t. bind _ (taken_goes t.0 _) (λ s. ok))

    literal_goes : (t : T) (ts : List T) → Gives (literal_at (seen f word) expansion t ts) (literal_at word expansion (f t) (map f ts))
    unfolding literal_at
    literal_goes t ts = bind _ (taken_goes t _) (λ s. ok)

    module _ (deeper : ℕ → List T → Read T Shape) (other : ℕ → List S → Read S Shape) (both : (k : ℕ) (ts : List T) → Gives (deeper k ts) (other k (map f ts))) where
      behind_goes : (k : ℕ) (l : Shape × List T) → Gives (behind_at (seen f word) deeper k l) (behind_at word other k (l.0, map f l.1))
      behind_goes k l = choose _ (operators k l.1) ok (λ o. bind _ (both (right_rank o.0.1) o.1) (λ r. ok))

      pub elements_goes : (n : ℕ) (close : TokenKind) (ts : List T) → Gives (elements_at (seen f word) expansion deeper n close ts) (elements_at word expansion other n close (map f ts))
      unfolding elements_at
      elements_goes zero close ts = first_stops f ts
      elements_goes (suc n) close ts =
          choose _ (accepts f word close ts)
          (bind _ (both 6 ts) (λ e. choose _ (accepts f word Comma e.1) (bind _ (expects f word close e.1) (λ p. ok)) (λ p. bind _ (elements_goes n close p.1) (λ es. ok))))
          (λ p. ok)

      pub elements_turns : (close : TokenKind) (ts : List T) → Gives (elements_at (seen f word) expansion deeper (suc (length ts)) close ts) (elements_at word expansion other (suc (length (map f ts))) close (map f ts))
      elements_turns close ts = rw (length_there f ts) (elements_goes (suc (length ts)) close ts)

      interpolation_goes : (kind : StringKind) (ts : List T) → Gives (interpolation_at (seen f word) expansion deeper kind ts) (interpolation_at word expansion other kind (map f ts))
      unfolding interpolation_at
      interpolation_goes kind ts = bind _ (both 6 ts) (λ e. bind _ (part_goes kind e.1) (λ p. ok))

      interpolations_goes : (n : ℕ) (kind : StringKind) (ts : List T) → Gives (interpolations_at (seen f word) expansion deeper n kind ts) (interpolations_at word expansion other n kind (map f ts))
      unfolding interpolations_at
      interpolations_goes zero kind ts = first_stops f ts
      interpolations_goes (suc n) kind ts = bind _ (interpolation_goes kind ts) (λ h. either refl (bind _ (interpolations_goes n kind h.1) (λ hs. ok)) ok)

      interpolations_turns : (kind : StringKind) (ts : List T) → Gives (interpolations_at (seen f word) expansion deeper (suc (length ts)) kind ts) (interpolations_at word expansion other (suc (length (map f ts))) kind (map f ts))
      interpolations_turns kind ts = rw (length_there f ts) (interpolations_goes (suc (length ts)) kind ts)

      format_goes : (t : T) (ts : List T) → Gives (format_at (seen f word) expansion deeper t ts) (format_at word expansion other (f t) (map f ts))
      unfolding format_at
      format_goes t ts = bind _ (taken_goes t (cooked_part (kind_of (word (f t)).text) (word (f t)).text)) (λ s. either refl (bind _ (interpolations_turns (kind_of s) ts) (λ hs. ok)) ok)

      braces_goes : (ts : List T) → Gives (braces_at (seen f word) expansion deeper ts) (braces_at word expansion other (map f ts))
      unfolding braces_at
      braces_goes ts = bind _ (expects f word BraceL ts) (λ b. bind _ (both 6 b.1) (λ e. bind _ (expects f word BraceR e.1) (λ d. ok)))

      otherwise_goes : (ts : List T) → Gives (otherwise_at (seen f word) expansion deeper ts) (otherwise_at word expansion other (map f ts))
      unfolding otherwise_at
      otherwise_goes ts = either (keywords f word if_keyword ts) (both 0 ts) (braces_goes ts)

      choice_goes : (ts : List T) → Gives (choice_at (seen f word) expansion deeper ts) (choice_at word expansion other (map f ts))
      unfolding choice_at
      choice_goes ts =
          bind _ (both 6 ts) (λ c. bind _ (braces_goes c.1) (λ t. either (keywords f word else_keyword t.1) (bind _ (expects f word Identifier t.1) (λ w. bind _ (otherwise_goes w.1) (λ o. ok))) ok))

      message_goes : (ts : List T) → Gives (message_at (seen f word) expansion deeper ts) (message_at word expansion other (map f ts))
      unfolding message_at
      message_goes ts = choose _ (accepts f word ParenR ts) (bind _ (both 6 ts) (λ m. bind _ (closing_goes m.1) (λ rest. ok))) (λ p. ok)

      assertion_goes : (ts : List T) → Gives (assertion_at (seen f word) expansion deeper ts) (assertion_at word expansion other (map f ts))
      unfolding assertion_at
      assertion_goes ts =
          bind _ (both 6 ts) (λ c. choose _ (accepts f word Comma c.1) (bind _ (expects f word ParenR c.1) (λ p. ok)) (λ p. bind _ (message_goes p.1) (λ m. ok)))

      arguments_goes : (x : List ℕ) (ts : List T) → Gives (arguments_at (seen f word) expansion deeper x ts) (arguments_at word expansion other x (map f ts))
      arguments_goes x ts = rw (length_there f ts) (bind _ (elements_goes (suc (length ts)) ParenR ts) (λ es. ok))

      call_goes : (x : List ℕ) (ts : List T) → Gives (call_at (seen f word) expansion deeper x ts) (call_at word expansion other x (map f ts))
      unfolding call_at
      call_goes x ts = either refl (assertion_goes ts) (arguments_goes x ts)

      named_goes : (x : List ℕ) (ts : List T) → Gives (named_at (seen f word) expansion deeper x ts) (named_at word expansion other x (map f ts))
      unfolding named_at
      named_goes x ts = either refl (choice_goes ts) (choose _ (accepts f word ParenL ts) ok (λ p. call_goes x p.1))

      listing_goes : (ts : List T) → Gives (listing_at (seen f word) expansion deeper ts) (listing_at word expansion other (map f ts))
      listing_goes ts = bind _ (expects f word BracketL ts) (λ p. rw (length_there f p.1) (bind _ (elements_goes (suc (length p.1)) BracketR p.1) (λ es. ok)))

      bracketed_goes : (ts : List T) → Gives (bracketed_at (seen f word) expansion deeper ts) (bracketed_at word expansion other (map f ts))
      unfolding bracketed_at
      bracketed_goes ts = choose _ (accepts f word ParenL ts) (listing_goes ts) (λ p. bind _ (both 6 p.1) (λ e. bind _ (expects f word ParenR e.1) (λ q. ok)))

      primary_goes : (ts : List T) → Gives (primary_at (seen f word) expansion deeper ts) (primary_at word expansion other (map f ts))
      unfolding primary_at
      primary_goes ts =
          choose _ (accepts f word StringToken ts)
          (choose _ (accepts f word Backtick ts)
          (choose _ (accepts f word FormatStringStart ts)
          (choose _ (accepts f word Identifier ts) (bracketed_goes ts) (λ p. named_goes (word (f p.0)).text p.1))
          (λ p. format_goes p.0 p.1))
          (λ p. command_goes p.0 p.1))
          (λ p. literal_goes p.0 p.1)

      operand_goes : (j : ℕ) (ts : List T) → Gives (operand_at (seen f word) expansion deeper j ts) (operand_at word expansion other j (map f ts))
      unfolding operand_at
      operand_goes zero ts = primary_goes ts
      operand_goes (suc j) ts =
          choose _ (prefixes (suc j) ts) (bind _ (operand_goes j ts) (λ l. behind_goes (suc j) l)) (λ p. bind _ (both (suc j) p.1) (λ e. ok))

    pub expression_goes : (levels k : ℕ) (ts : List T) → Gives (expression_at (seen f word) expansion levels k ts) (expression_at word expansion levels k (map f ts))
    unfolding expression_at
    expression_goes zero k [] = record { is = refl }
    expression_goes zero k (t ∷ ts) = record { is = refl }
    expression_goes (suc levels) k ts = operand_goes (expression_at (seen f word) expansion levels) (expression_at word expansion levels) (expression_goes levels) k ts
