-- `token_at` gives the longest token, and a fault only where there is none.
use Rattle.std.proofs.Common.{◌≡◌, ℕ, ◌+◌, ◌<◌, ◌≤◌, Bool, true, false, not, ◌&&◌, ◌||◌, ◌==◌, ◌⊎◌, List, [], ◌∷◌, length, get_or, Ok, Err, Option, is_some, refl, sym, ap, ◌∙◌, subst, inl, inr, arith, eqb-true}
use Rattle.std.proofs.lemmas.Bool.{and_parts, cond_both, cases_Bool, cases_lt}
use Rattle.std.proofs.lemmas.Bool.Decides.{nat_tests}
use Rattle.just_text.specs.declared.token_kind.TokenKind.{TokenKind}
use Rattle.just_text.specs.declared.token_kind.TokenKind.TheVariants.{ByteOrderMark, Comment, Dedent, Eof, Eol, Identifier, Indent, InterpolationStart, Text, Whitespace}
use Rattle.just_lexer.specs.declared.fault.Fault.{Fault}
use Rattle.just_lexer.specs.declared.fault.Fault.TheVariants as faults
use Rattle.just_lexer.specs.declared.mode.Indentation.{Indentation}
use Rattle.just_lexer.specs.declared.mode.Open.{Open}
use Rattle.just_lexer.specs.declared.mode.Line.{Line}
use Rattle.just_lexer.specs.declared.mode.Line.TheVariants.{Begin, Start, Ahead, Inside, BodyStart, BodyLine, Over}
use Rattle.just_lexer.specs.Classes.{first, is_blank, at_two, at_braces, at_line_end, at_byte_order_mark, line_end_len, until_over, ends_text, brace_takes, text_len, blank_len, is_blank_line, is_indented, is_mixed, breaks_off}
use Rattle.just_lexer.specs.Modes.{has_indentation, indent_width, is_byte_order_mark, is_over}
use Rattle.just_lexer.specs.Longest.{two, reach, reach_in, is_eof, is_dedent, is_indent, is_white, is_eol, is_body_kind, is_line_kind, in_line, at_start, allows, IsLongestIn}
use Rattle.just_lexer.specs.Lexing.{Found, line_token, start_token, begin_token, body_start_token, body_line_token, interpolation_token, token_at}
use Rattle.just_lexer.proofs.Scans.{over_none}
use Rattle.just_lexer.proofs.Steps.{AtFound, run_positive, braces_stand}
use Rattle.just_lexer.proofs.Tokens.{IsReached, token_is_reached}
use Rattle.just_lexer.proofs.Beats.{BeatenBy, beaten}

-- at most one token is the longest
pub unique : (line : Line) (inner : Option Open) (text : List ℕ) (k l : TokenKind) (n p : ℕ) → IsLongestIn line inner text k n → IsLongestIn line inner text l p → ◌≡◌ {A = TokenKind × ℕ} (k, n) (l, p)
unique line inner text k l n p a b =
    elim (b.longest k a.allowed) [
      | inl e ↦ (λ i. (e i, (a.reaches ∙ ap (λ x. reach_in line inner x text) e ∙ sym b.reaches) i))
      | inr less ↦ elim (a.longest l b.allowed) [
        | inl e ↦ (λ i. (sym e i, (a.reaches ∙ ap (λ x. reach_in line inner x text) (sym e) ∙ sym b.reaches) i))
        | inr more ↦ absurd (omega (arith, a.reaches, b.reaches))
      ]
    ]

-- the token is the longest; a fault says that there is none
abbrev pub Tells : Line → Option Open → List ℕ → Found → Type 0
Tells line inner text (Ok x) = IsLongestIn line inner text x.0 x.1
Tells line inner text (Err f) = (k : TokenKind) (n : ℕ) → IsLongestIn line inner text k n → ⊥

-- tests and the kinds that pass them

and_false : (b : Bool) → (b && false) ≡ false
and_false true = refl
and_false false = refl

and_true : (b : Bool) → (b && true) ≡ b
and_true true = refl
and_true false = refl

or_cases : (a b : Bool) → (a || b) ≡ true → (a ≡ true) ⊎ (b ≡ true)
or_cases true b e = inl refl
or_cases false b e = inr e

only_mark : (k : TokenKind) → is_byte_order_mark k ≡ true → k ≡ ByteOrderMark
only_mark ByteOrderMark e = refl
only_mark _ e = cc

only_eof : (k : TokenKind) → is_eof k ≡ true → k ≡ Eof
only_eof Eof e = refl
only_eof _ e = cc

only_indent : (k : TokenKind) → is_indent k ≡ true → k ≡ Indent
only_indent Indent e = refl
only_indent _ e = cc

only_dedent : (k : TokenKind) → is_dedent k ≡ true → k ≡ Dedent
only_dedent Dedent e = refl
only_dedent _ e = cc

only_white : (k : TokenKind) → is_white k ≡ true → k ≡ Whitespace
only_white Whitespace e = refl
only_white _ e = cc

only_eol : (k : TokenKind) → is_eol k ≡ true → k ≡ Eol
only_eol Eol e = refl
only_eol _ e = cc

-- what holds of the two kinds in front of a blank line of a body holds of each
white_or_eol : (k : TokenKind) (P : TokenKind → Type 0) → (is_white k || is_eol k) ≡ true → P Whitespace → P Eol → P k
white_or_eol k P h white eol = elim (or_cases (is_white k) (is_eol k) h) [ inl e ↦ subst P (sym (only_white k e)) white | inr e ↦ subst P (sym (only_eol k e)) eol ]

body_kind : (k : TokenKind) (P : TokenKind → Type 0) → is_body_kind k ≡ true → P Text → P Eol → P InterpolationStart → P k
body_kind Text P h of_text of_eol of_start = of_text
body_kind Eol P h of_text of_eol of_start = of_eol
body_kind InterpolationStart P h of_text of_eol of_start = of_start
body_kind _ P h of_text of_eol of_start = absurd cc

own_identifier : (k : TokenKind) → (k ≡ Identifier) ⊎ (k ≡ Identifier → ⊥)
own_identifier Identifier = inl refl
own_identifier _ = inr (λ e. cc)

-- lengths

blank_none : (text : List ℕ) → is_blank (first text) ≡ false → blank_len text ≡ 0
blank_none [] e = refl
blank_none (b ∷ bs) e = rw e refl

two_taken : (bs : List ℕ) → get_or bs 0 0 ≡ 123 → get_or bs 1 0 ≡ 123 → 2 ≤ until_over ends_text brace_takes 3 bs
unfolding until_over
two_taken [] a b = absurd (omega arith)
two_taken (c ∷ []) a b = absurd (omega arith)
two_taken (c ∷ d ∷ more) a b = omega arith

-- text that begins with two braces begins with four
text_is_longer : (text : List ℕ) → 0 < text_len text → two 123 123 text < text_len text
unfolding until_over
text_is_longer [] = λ p. absurd (omega arith)
text_is_longer (b ∷ bs) =
    cond_both (ends_text (b ∷ bs)) 0 (until_over ends_text brace_takes (brace_takes (b ∷ bs)) bs + 1) (λ n. 0 < n → two 123 123 (b ∷ bs) < n)
    (λ ends p. absurd (omega arith))
    (λ goes p.
    elim (cases_Bool (at_braces (b ∷ bs))) [
      | inl e ↦ (
          let second : get_or bs 0 0 ≡ 123 = eqb-true (get_or bs 0 0) 123 (and_parts (b == 123) (get_or bs 0 0 == 123) e).1 in
          let third : get_or bs 1 0 ≡ 123 = grind (arith, nat_tests) in
          rw e (omega (arith, two_taken bs second third)))
      | inr e ↦ rw e (omega arith)
    ])

-- a place where the kinds of a line are allowed
record InLine (line : Line) (inner : Option Open) (text : List ℕ) : Type 0 where
  allows_is : (k : TokenKind) → allows line inner text k ≡ is_line_kind inner k
  reach_is : (k : TokenKind) → reach_in line inner k text ≡ reach inner k text

module _ (line : Line) (inner : Option Open) (text : List ℕ) (place : InLine line inner text) where
  -- where no kind reaches anything, two kinds are as long, and none is the longest
  none_reaches : ((k : TokenKind) → is_line_kind inner k ≡ true → 0 < reach inner k text → ⊥) → (k : TokenKind) (n : ℕ) → IsLongestIn line inner text k n → ⊥
  none_reaches none k n l =
      let here : is_line_kind inner k ≡ true = sym (place.allows_is k) ∙ l.allowed in
      let is : n ≡ reach inner k text = l.reaches ∙ place.reach_is k in
      let apart : (o : TokenKind) → is_line_kind inner o ≡ true → (o ≡ k → ⊥) → ⊥ =
      λ o h differs. elim (l.longest o (place.allows_is o ∙ h)) [
        | inl e ↦ differs e
        | inr less ↦ none k here (let below : reach inner o text < n = rw (place.reach_is o) at less in omega arith)
      ] in
      elim (own_identifier k) [ inl e ↦ apart Comment refl (λ c. cc) | inr e ↦ apart Identifier refl (λ c. e (sym c)) ]

  found_tells : (found : Found) → AtFound (IsReached inner text) found → ((k : TokenKind) → is_line_kind inner k ≡ true → 0 < reach inner k text → BeatenBy inner text k found) → Tells line inner text found
  found_tells (Ok x) is beats = record {
    allowed = place.allows_is x.0 ∙ is.in_line;
    reaches = sym is.reaches ∙ sym (place.reach_is x.0);
    longest = λ o allowed.
        let here : is_line_kind inner o ≡ true = sym (place.allows_is o) ∙ allowed in
        rw (place.reach_is o) (elim (cases_lt 0 (reach inner o text)) [
          | inl some ↦ beats o here some
          | inr none ↦ inr (omega (arith, is.some))
        ]);
  }
  found_tells (Err f) is beats = none_reaches beats

  line_tells : 0 < length text → Tells line inner text (line_token inner text)
  unfolding line_token
  line_tells some =
      let more : (length text == 0) ≡ false = grind (arith, nat_tests) in
      rw more (found_tells _ (token_is_reached text inner some) (beaten inner text))

-- at the end of the text too
module _ (line : Line) (inner : Option Open) (text : List ℕ) (reach_is : (k : TokenKind) → reach_in line inner k text ≡ reach inner k text) where
  eof_tells : ((k : TokenKind) → allows line inner text k ≡ in_line inner text k) → length text ≡ 0 → Tells line inner text (line_token inner text)
  unfolding line_token
  eof_tells allows_is none =
      let e : (length text == 0) ≡ true = grind (arith, nat_tests) in
      rw e (record {
        allowed = allows_is Eof ∙ rw e refl;
        reaches = sym (reach_is Eof);
        longest = λ o allowed.
            let only : in_line inner text o ≡ true = sym (allows_is o) ∙ allowed in
            let is : is_eof o ≡ true = rw e at only in
            inl (only_eof o is);
      })

  line_place_tells : ((k : TokenKind) → allows line inner text k ≡ in_line inner text k) → Tells line inner text (line_token inner text)
  line_place_tells allows_is =
      elim (cases_lt 0 (length text)) [
        | inl some ↦ (
            let more : (length text == 0) ≡ false = grind (arith, nat_tests) in
            line_tells line inner text (record { allows_is = λ k. allows_is k ∙ rw more refl; reach_is = reach_is }) some)
        | inr none ↦ eof_tells allows_is (let e : length text ≡ 0 = omega arith in e)
      ]

  start_tells : (may : Bool) → ((k : TokenKind) → allows line inner text k ≡ at_start may inner text k) → Tells line inner text (start_token may inner text)
  unfolding start_token
  start_tells may allows_is =
      cond_both (not (is_blank (first text)) || is_blank_line text) (line_token inner text) _ (Tells line inner text)
      (λ e. let plain : is_indented text ≡ false = grind (arith, nat_tests) in line_place_tells (λ k. allows_is k ∙ rw plain refl))
      (λ e.
      let indented : is_indented text ≡ true = grind (arith, nat_tests) in
      cond_both (may && is_mixed text) (Err faults.MixedIndentation) (Ok (Indent, blank_len text)) (Tells line inner text)
      (λ mixed k n l. let no_kind : allows line inner text k ≡ false = allows_is k ∙ rw (indented, mixed) (and_false (is_indent k)) in cc (no_kind, l.allowed))
      (λ plain. record {
        allowed = allows_is Indent ∙ rw (indented, plain) refl;
        reaches = sym (reach_is Indent);
        longest = λ o allowed.
            let only : at_start may inner text o ≡ true = sym (allows_is o) ∙ allowed in
            let is : (is_indent o && true) ≡ true = rw (indented, plain) at only in
            inl (only_indent o (and_parts (is_indent o) true is).0);
      }))

begin_tells : (inner : Option Open) (text : List ℕ) → Tells Begin inner text (begin_token inner text)
unfolding begin_token
begin_tells inner text =
    cond_both (at_byte_order_mark text) (Ok (ByteOrderMark, 3)) (start_token false inner text) (Tells Begin inner text)
    (λ mark. record {
      allowed = rw mark refl;
      reaches = rw mark refl;
      longest = λ o allowed. inl (only_mark o (let is : is_byte_order_mark o ≡ true = rw mark at allowed in is));
    })
    (λ none. start_tells Begin inner text (λ k. refl) false (λ k. rw none refl))

module _ (i : Indentation) (inner : Option Open) (text : List ℕ) where
  body_start_tells : Tells (BodyStart i) inner text (body_start_token i text)
  unfolding body_start_token
  body_start_tells =
      let P : Found → Type 0 = Tells (BodyStart i) inner text in
      let Beats : TokenKind → ℕ → TokenKind → Type 0 = λ k n o. (o ≡ k) ⊎ (reach_in (BodyStart i) inner o text < n) in
      cond_both (at_line_end text) (Ok (Eol, line_end_len text)) _ P
      (λ ends.
      let no_blank : is_blank (first text) ≡ false = grind (arith, nat_tests) in
      let some : 0 < line_end_len text = grind (arith, nat_tests) in
      record {
        allowed = rw (no_blank, ends) refl;
        reaches = refl;
        longest = λ o allowed.
            let is : (is_white o || is_eol o) ≡ true = rw (no_blank, ends) at allowed in
            white_or_eol o (Beats Eol (line_end_len text)) is (inr (rw no_blank (omega (arith, blank_none text no_blank)))) (inl refl);
      })
      (λ no_end. cond_both (not (is_blank (first text))) (Ok (Dedent, 0)) _ P
      (λ e.
      let no_blank : is_blank (first text) ≡ false = grind (arith, nat_tests) in
      record {
        allowed = rw (no_blank, no_end) refl;
        reaches = refl;
        longest = λ o allowed. inl (only_dedent o (let is : is_dedent o ≡ true = rw (no_blank, no_end) at allowed in is));
      })
      (λ e.
      let blank : is_blank (first text) ≡ true = grind (arith, nat_tests) in
      cond_both (is_blank_line text) (Ok (Whitespace, blank_len text)) _ P
      (λ all_blank.
      let plain : is_indented text ≡ false = rw (blank, all_blank) refl in
      let some : 0 < blank_len text = run_positive is_blank text refl blank in
      let none : line_end_len text ≡ 0 = grind (arith, nat_tests) in
      record {
        allowed = rw (plain, blank) refl;
        reaches = rw plain refl;
        longest = λ o allowed.
            let is : (is_white o || is_eol o) ≡ true = rw (plain, blank) at allowed in
            white_or_eol o (Beats Whitespace (blank_len text)) is (inl refl) (inr (omega arith));
      })
      (λ more.
      let indented : is_indented text ≡ true = rw (blank, more) refl in
      cond_both (has_indentation i text) (Ok (Whitespace, indent_width i)) (Err faults.OtherIndentation) P
      (λ has. record {
        allowed = rw (indented, has) refl;
        reaches = rw indented refl;
        longest = λ o allowed. let is : (is_white o && true) ≡ true = rw (indented, has) at allowed in inl (only_white o (and_parts (is_white o) true is).0);
      })
      (λ other k n l. let no_kind : allows (BodyStart i) inner text k ≡ false = rw (indented, other) (and_false (is_white k)) in cc (no_kind, l.allowed)))))

  interpolation_tells : is_some inner ≡ true → Tells (BodyLine i) inner text (interpolation_token inner text)
  unfolding interpolation_token
  interpolation_tells inside =
      cond_both (breaks_off text) (Err faults.UnclosedInterpolation) (line_token inner text) (Tells (BodyLine i) inner text)
      (λ breaks k n l. let no_kind : allows (BodyLine i) inner text k ≡ false = rw (inside, breaks) (and_false (is_line_kind inner k)) in cc (no_kind, l.allowed))
      (λ goes. line_tells (BodyLine i) inner text (record { allows_is = λ k. rw (inside, goes) (and_true (is_line_kind inner k)); reach_is = λ k. refl }) (grind (arith, nat_tests)))

  body_line_tells : is_some inner ≡ false → Tells (BodyLine i) inner text (body_line_token text)
  unfolding body_line_token
  body_line_tells outside =
      let P : Found → Type 0 = Tells (BodyLine i) inner text in
      let Beats : TokenKind → ℕ → TokenKind → Type 0 = λ k n o. (o ≡ k) ⊎ (reach_in (BodyLine i) inner o text < n) in
      cond_both (length text == 0) (Ok (Dedent, 0)) _ P
      (λ e. record {
        allowed = rw (outside, e) refl;
        reaches = refl;
        longest = λ o allowed. inl (only_dedent o (let is : is_dedent o ≡ true = rw (outside, e) at allowed in is));
      })
      (λ more.
      let nonempty : 0 < length text = grind (arith, nat_tests) in
      let is_body : (o : TokenKind) → allows (BodyLine i) inner text o ≡ true → is_body_kind o ≡ true = λ o allowed. rw (outside, more) at allowed in
      cond_both (at_line_end text) (Ok (Eol, line_end_len text)) _ P
      (λ ends.
      let some : 0 < line_end_len text = grind (arith, nat_tests) in
      let no_braces : at_two 123 123 text ≡ false = grind (arith, nat_tests) in
      let no_text : text_len text ≡ 0 = over_none ends_text brace_takes text (rw ends refl) in
      record {
        allowed = rw (outside, more) refl;
        reaches = refl;
        longest = λ o allowed. body_kind o (Beats Eol (line_end_len text)) (is_body o allowed) (inr (omega arith)) (inl refl) (inr (rw no_braces some));
      })
      (λ no_end.
      let none : line_end_len text ≡ 0 = grind (arith, nat_tests) in
      cond_both (text_len text == 0) (Ok (InterpolationStart, 2)) (Ok (Text, text_len text)) P
      (λ stops.
      let no_text : text_len text ≡ 0 = eqb-true (text_len text) 0 stops in
      let braces : at_two 123 123 text ≡ true = braces_stand text nonempty no_end no_text in
      record {
        allowed = rw (outside, more) refl;
        reaches = rw braces refl;
        longest = λ o allowed. body_kind o (Beats InterpolationStart 2) (is_body o allowed) (inr (omega arith)) (inr (omega arith)) (inl refl);
      })
      (λ goes.
      let some : 0 < text_len text = grind (arith, nat_tests) in
      record {
        allowed = rw (outside, more) refl;
        reaches = refl;
        longest = λ o allowed. body_kind o (Beats Text (text_len text)) (is_body o allowed) (inl refl) (inr (omega arith)) (inr (text_is_longer text some));
      })))

tells : (line : Line) (inner : Option Open) (text : List ℕ) → is_over line ≡ false → Tells line inner text (token_at line inner text)
unfolding token_at
tells Begin inner text going = begin_tells inner text
tells (Start may) inner text going = start_tells (Start may) inner text (λ k. refl) may (λ k. refl)
tells (Ahead may) inner text going = line_place_tells (Ahead may) inner text (λ k. refl) (λ k. refl)
tells (Inside may) inner text going = line_place_tells (Inside may) inner text (λ k. refl) (λ k. refl)
tells (BodyStart i) inner text going = body_start_tells i inner text
tells (BodyLine i) inner text going = cond_both (is_some inner) (interpolation_token inner text) (body_line_token text) (Tells (BodyLine i) inner text) (interpolation_tells i inner text) (body_line_tells i inner text)
tells Over inner text going = cc

-- the token that the code finds is the longest
pub longest_from_token : (line : Line) (inner : Option Open) (text : List ℕ) (k : TokenKind) (n : ℕ) → is_over line ≡ false → token_at line inner text ≡ Ok (k, n) → IsLongestIn line inner text k n
longest_from_token line inner text k n going e = subst (Tells line inner text) e (tells line inner text going)

-- and where it finds none, none is
pub none_from_token : (line : Line) (inner : Option Open) (text : List ℕ) (f : Fault) → is_over line ≡ false → token_at line inner text ≡ Err f → (k : TokenKind) (n : ℕ) → IsLongestIn line inner text k n → ⊥
none_from_token line inner text f going e = subst (Tells line inner text) e (tells line inner text going)
