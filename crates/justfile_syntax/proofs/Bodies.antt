-- A body's words lead from its first line to what stands after it.
use Rattle.std.proofs.Common.{◌≡◌, ℕ, ◌+◌, ◌<◌, Bool, true, false, not, ◌&&◌, ◌||◌, ◌==◌, nat_lt, List, [], ◌∷◌, length, take, None, refl, ap, ◌∙◌, inl, inr, arith}
use Rattle.std.specs.List.{prefix_len, list_any}
use Rattle.std.proofs.lemmas.Bool.{and_parts, cond_both, cases_Bool}
use Rattle.std.proofs.Math.Seq.{take-length}
use Rattle.std.proofs.lemmas.Bool.Decides.{nat_tests}
use Rattle.just_text.specs.declared.token_kind.TokenKind.TheVariants.{Dedent, Eol, Indent, InterpolationEnd, InterpolationStart, Text, Whitespace}
use Rattle.just_lexer.specs.declared.mode.Indentation.{Indentation}
use Rattle.just_lexer.specs.declared.mode.Indentation.TheVariants.{Spaces, Tabs}
use Rattle.just_lexer.specs.Classes.{first, is_blank, blank_len, is_blank_line, is_mixed}
use Rattle.just_lexer.specs.Modes.{indent_byte, indent_width, indentation_of, has_indentation, start_after, line_after, open_after}
use Rattle.justfile_syntax.specs.Fits.{is_lexeme, is_alone, at_end}
use Rattle.justfile_syntax.specs.InCode.{word}
use Rattle.justfile_syntax.specs.Lines.{at_line}
use Rattle.justfile_syntax.specs.Bodies.{at_body_line, in_body, in_expression, is_indentation, BodiesBegin, LinesGoOn, EmptyBodyLines, TextsGoOn, ExpressionsOpen, ExpressionsClose, BodyLinesEnd, BodiesEnd}
use Rattle.justfile_syntax.proofs.Stands.{lexeme_reach}
use Rattle.justfile_syntax.proofs.Table.{both}
use Rattle.justfile_syntax.proofs.InCode.{one_word}

no_mix : (may mixed : Bool) → not mixed ≡ true → not (may && mixed) ≡ true
no_mix may true h = cc
no_mix true false h = refl
no_mix false false h = refl

pub bodies_begin : BodiesBegin
unfolding open_after line_after start_after
bodies_begin text rest is plain more =
    let parts = and_parts (is_lexeme None Indent text) (not (is_mixed text)) is in
    one_word (at_line true) (in_body (indentation_of text)) (word Indent text) rest
    (both (is_alone None (word Indent text) rest) (not (at_end rest) && not (true && is_mixed text)) (both (is_lexeme None Indent text) (not (is_blank (first rest))) parts.0 plain)
    (both (not (at_end rest)) (not (true && is_mixed text)) more (no_mix true (is_mixed text) parts.1)))
    refl

-- white space that isn't mixed is its indentation

no_spaces : (a b : Bool) → not (a && (true || b)) ≡ true → a ≡ false
no_spaces true b e = cc
no_spaces false b e = refl

width_is : (text : List ℕ) → indent_width (indentation_of text) ≡ length text
width_is text = cond_both (first text == 32) (Spaces (length text)) (Tabs (length text)) (λ i. indent_width i ≡ length text) (λ _. refl) (λ _. refl)

either : (a b : Bool) → (a || b) ≡ false → (a ≡ false) × (b ≡ false)
either true b e = cc
either false b e = (refl, e)

run_first : (p : ℕ → Bool) (c : ℕ) (cs : List ℕ) → 0 < prefix_len p (c ∷ cs) → p c ≡ true
run_first p c cs = cond_both (p c) (1 + prefix_len p cs) 0 (λ n. 0 < n → p c ≡ true) (λ h q. h) (λ h q. absurd (omega arith))

-- blanks none of which is of the other sort
pure_run : (p q : ℕ → Bool) (l : List ℕ) → ((c : ℕ) → is_blank c ≡ true → q c ≡ false → p c ≡ true) → blank_len l ≡ length l → list_any q l ≡ false → prefix_len p l ≡ length l
pure_run p q [] f h e = refl
pure_run p q (c ∷ cs) f h e =
    let blank : is_blank c ≡ true = run_first is_blank c cs (omega arith) in
    let none = either (q c) (list_any q cs) e in
    let more : 1 + blank_len cs ≡ length (c ∷ cs) = rw blank at h in
    let rest : prefix_len p cs ≡ length cs = pure_run p q cs f (omega arith) none.1 in
    rw (f c blank none.0) (omega arith)

tab_or_space : (c : ℕ) → is_blank c ≡ true → (c == 9) ≡ false → (c == 32) ≡ true
tab_or_space c h e = grind (arith, nat_tests)

space_or_tab : (c : ℕ) → is_blank c ≡ true → (c == 32) ≡ false → (c == 9) ≡ true
space_or_tab c h e = grind (arith, nat_tests)

runs : (c : ℕ) (cs : List ℕ) → is_indentation (c ∷ cs) ≡ true → prefix_len (λ b. b == indent_byte (indentation_of (c ∷ cs))) (c ∷ cs) ≡ length (c ∷ cs)
runs c cs is =
    let l : List ℕ = c ∷ cs in
    let parts = and_parts (is_lexeme None Indent l) (not (is_mixed l)) is in
    let all : blank_len l ≡ length l = lexeme_reach None Indent l parts.0 in
    let blank : is_blank c ≡ true = run_first is_blank c cs (omega arith) in
    let own : take (blank_len l) l ≡ l = ap (λ n. take n l) all ∙ take-length l in
    let pure : not (list_any (λ b. b == 32) l && list_any (λ b. b == 9) l) ≡ true = rw own at parts.1 in
    elim (cases_Bool (c == 32)) [
      | inl t ↦ (
          let none : not (list_any (λ b. b == 9) l) ≡ true = rw t at pure in
          let byte : indent_byte (indentation_of l) ≡ 32 = rw t refl in
          ap (λ n. prefix_len (λ b. b == n) l) byte ∙ pure_run (λ b. b == 32) (λ b. b == 9) l tab_or_space all (grind (arith, nat_tests)))
      | inr f ↦ (
          let tab : (c == 9) ≡ true = space_or_tab c blank f in
          let none : list_any (λ b. b == 32) l ≡ false = no_spaces (list_any (λ b. b == 32) l) (list_any (λ b. b == 9) cs) (let e : not (list_any (λ b. b == 32) l && (true || list_any (λ b. b == 9) cs)) ≡ true = rw tab at pure in e) in
          let byte : indent_byte (indentation_of l) ≡ 9 = rw f refl in
          ap (λ n. prefix_len (λ b. b == n) l) byte ∙ pure_run (λ b. b == 9) (λ b. b == 32) l space_or_tab all none)
    ]

indents : (text : List ℕ) → is_indentation text ≡ true → has_indentation (indentation_of text) text ≡ true
indents [] is = absurd (grind (arith, nat_tests))
indents (c ∷ cs) is = let run = runs c cs is in let width = width_is (c ∷ cs) in grind (arith, nat_tests)

wide : (text : List ℕ) → is_indentation text ≡ true → (nat_lt 0 (length text) && length text == indent_width (indentation_of text)) ≡ true
wide text is = let width = width_is text in grind (arith, nat_tests)

pub lines_go_on : LinesGoOn
unfolding open_after line_after
lines_go_on text rest is more =
    let i : Indentation = indentation_of text in
    let has : has_indentation i text ≡ true = indents text is in
    let some : (nat_lt 0 (length text) && length text == indent_width i) ≡ true = wide text is in
    one_word (at_body_line i) (in_body i) (word Whitespace text) rest
    (both (nat_lt 0 (length text) && length text == indent_width i) (has_indentation i text && not (is_blank_line rest)) some (both (has_indentation i text) (not (is_blank_line rest)) has more))
    refl

pub empty_body_lines : EmptyBodyLines
unfolding open_after line_after
empty_body_lines i end rest h = one_word (at_body_line i) (at_body_line i) (word Eol end) rest (both (is_lexeme None Eol end) true h refl) refl

pub texts_go_on : TextsGoOn
unfolding open_after line_after
texts_go_on i text rest h = one_word (in_body i) (in_body i) (word Text text) rest h refl

pub expressions_open : ExpressionsOpen
unfolding open_after line_after
expressions_open i rest h = one_word (in_body i) (in_expression i) (word InterpolationStart (123 ∷ 123 ∷ [])) rest h refl

pub expressions_close : ExpressionsClose
unfolding open_after line_after
expressions_close i rest = one_word (in_expression i) (in_body i) (word InterpolationEnd (125 ∷ 125 ∷ [])) rest refl refl

pub body_lines_end : BodyLinesEnd
unfolding open_after line_after
body_lines_end i end rest h = one_word (in_body i) (at_body_line i) (word Eol end) rest (both (is_lexeme None Eol end) true h refl) refl

pub bodies_end : BodiesEnd
unfolding open_after line_after
bodies_end i rest h = one_word (at_body_line i) (at_line false) (word Dedent []) rest h refl
