-- Where the start of a format string stops.
use Rattle.std.proofs.Common.{◌≡◌, ℕ, zero, suc, ◌+◌, ◌-◌, ◌<◌, Bool, true, false, cond, ◌&&◌, ◌||◌, ◌==◌, List, [], ◌∷◌, length, drop, None, refl, sym, ap, ◌∙◌, inl, inr, ◌⊎◌, arith, length-drop, eqb-true}
use Rattle.std.specs.Prelude.{codes, nat_lt, not}
use Rattle.std.proofs.lemmas.Bool.{and_parts, cond_both, cases_Bool}
use Rattle.std.specs.Cmp.Lexicographic.{pointwise}
use Rattle.std.proofs.lemmas.Bool.Decides.{nat_tests, Decides-eqb}
use Rattle.std.proofs.lemmas.Slice.Eq.{slice_eq-Decides}
use Rattle.std.proofs.lemmas.List.{drop-drop}
use Rattle.just_text.specs.declared.token_kind.TokenKind.TheVariants.{FormatStringStart}
use Rattle.just_lexer.specs.declared.quotes.Quote.{Quote}
use Rattle.just_lexer.specs.declared.quotes.Quote.TheVariants.{Single, Double, Backtick}
use Rattle.just_lexer.specs.declared.quotes.Quotes.{Quotes}
use Rattle.just_lexer.specs.Classes.{opens_format_interpolation, until_over}
use Rattle.just_lexer.specs.Strings.{quote_byte, quotes_len, quotes_at, at_quotes, at_three, ends_part, part_takes, part_len, has_end, end_len, ended_len, opened_len, opens_string}
use Rattle.parse_expressions.specs.Literals.{is_open}
use Rattle.justfile_syntax.specs.Fits.{is_lexeme, last_byte}
use Rattle.justfile_syntax.proofs.Parts.{drop_suc, last_dropped, quotes_some}
use Rattle.laws_printing.specs.Printing.Held.{FormatsStop}

-- what is counted up to a stop stops there
pub stops_there : (stops : List ℕ → Bool) (takes : List ℕ → ℕ) (skip : ℕ) (text : List ℕ) → until_over stops takes skip text < length text → stops (drop (until_over stops takes skip text) text) ≡ true
unfolding until_over
stops_there stops takes skip [] less = absurd (omega arith)
stops_there stops takes (suc skip) (b ∷ bs) less = rw (drop_suc (until_over stops takes skip bs) b bs) (stops_there stops takes skip bs (omega arith))
stops_there stops takes zero (b ∷ bs) less =
    elim (cases_Bool (stops (b ∷ bs))) [
      | inl here ↦ rw (here, here) refl
      | inr on ↦ (
          let n : until_over stops takes 0 (b ∷ bs) ≡ until_over stops takes (takes (b ∷ bs)) bs + 1 = rw on refl in
          let there = stops_there stops takes (takes (b ∷ bs)) bs (omega arith) in
          rw (n, drop_suc (until_over stops takes (takes (b ∷ bs)) bs) b bs) there)
    ]

quote_not_brace : (q : Quote) → (quote_byte q == 123) ≡ false
quote_not_brace Single = refl
quote_not_brace Double = refl
quote_not_brace Backtick = refl

one_quote : (q : Quotes) (b : ℕ) → (b == quote_byte q.quote) ≡ true → (b == 123) ≡ false
one_quote q b h = let same : b ≡ quote_byte q.quote = eqb-true b (quote_byte q.quote) h in rw same (quote_not_brace q.quote)

-- quotes that are all of a text end in one
quotes_last : (q : Quotes) (v : List ℕ) → at_quotes q v ≡ true → quotes_len q ≡ length v → (last_byte v == 123) ≡ false
quotes_last q [] is n = absurd (omega (arith, quotes_some q))
quotes_last q (b ∷ []) is n = one_quote q b (and_parts (b == quote_byte q.quote) (not q.tripled || at_three (b ∷ [])) is).0
quotes_last q (b ∷ c ∷ []) is n = absurd (cond_both q.tripled 3 1 (λ k. k ≡ 2 → ⊥) (λ t k. omega arith) (λ f k. omega arith) n)
quotes_last q (b ∷ c ∷ d ∷ []) is n =
    elim (cases_Bool q.tripled) [
      | inl t ↦ (
          let both = and_parts (b == quote_byte q.quote) (not q.tripled || (c == b && d == b)) is in
          let three : (c == b && d == b) ≡ true = rw t at both.1 in
          let same : d ≡ b = eqb-true d b (and_parts (c == b) (d == b) three).1 in
          rw same (one_quote q b both.0))
      | inr f ↦ absurd (let one : 1 ≡ 3 = rw f at n in omega arith)
    ]
quotes_last q (b ∷ c ∷ d ∷ e ∷ v) is n = absurd (cond_both q.tripled 3 1 (λ k. k ≡ length (b ∷ c ∷ d ∷ e ∷ v) → ⊥) (λ t k. omega arith) (λ f k. omega arith) n)

-- two braces that are all of a text
braces : (v : List ℕ) → opens_format_interpolation v ≡ true → 2 ≡ length v → v ≡ codes "{{"
braces [] o n = absurd (omega arith)
braces (b ∷ []) o n = absurd (omega arith)
braces (b ∷ c ∷ []) o n =
    let both = and_parts (b == 123) (c == 123) (and_parts (b == 123 && c == 123) true o).0 in
    rw (eqb-true b 123 both.0, eqb-true c 123 both.1) refl
braces (b ∷ c ∷ d ∷ v) o n = absurd (omega arith)

-- so a text that opens a format string and ends where it stops ends in a quote, or in two braces after more than one byte
abbrev Stopped : List ℕ → Type 0
Stopped s = ((last_byte s == 123) ≡ false) ⊎ ((drop (length s - 2) s ≡ codes "{{") × (3 < length s))

stopped : (s : List ℕ) → opened_len true 1 s ≡ length s → 0 < length s → Stopped s
unfolding ended_len
stopped s h some =
    let q : Quotes = quotes_at (drop 1 s) in
    let n : ℕ = 1 + quotes_len q in
    let u : List ℕ = drop n s in
    let p : ℕ = part_len true q u in
    let v : List ℕ = drop p u in
    cond_both (has_end true q u) (n + p + end_len q v) 0 (λ m. m ≡ length s → Stopped s)
    (λ has size.
    let less : p < length u = grind (arith, nat_tests) in
    let inside : n < length s = omega (arith, length-drop n s) in
    let end : end_len q v ≡ length v = omega (arith, length-drop n s, length-drop p u) in
    let stops : ends_part true q v ≡ true = stops_there (ends_part true q) (part_takes true q) 0 u less in
    let last : last_byte v ≡ last_byte s = last_dropped p u less ∙ last_dropped n s inside in
    elim (cases_Bool (at_quotes q v)) [
      | inl is ↦ (let all : quotes_len q ≡ length v = rw is at end in inl (rw (← last) (quotes_last q v is all)))
      | inr none ↦ (
          let opens : opens_format_interpolation v ≡ true = rw none at stops in
          let two : 2 ≡ length v = rw none at end in
          let more : 3 < length s = omega (arith, length-drop n s, length-drop p u, quotes_some q) in
          let at : length s - 2 ≡ n + p = omega (arith, length-drop n s, length-drop p u) in
          inr (ap (λ k. drop k s) at ∙ sym (drop-drop p n s) ∙ braces v opens two, more))
    ])
    (λ _ size. absurd (omega arith))
    h

-- what a text is that ends in two braces
braces_are : (w : List ℕ) → pointwise (λ (a : ℕ) (b : ℕ). a == b) (codes "{{") w ≡ true → w ≡ codes "{{"
braces_are w h = sym ((slice_eq-Decides Decides-eqb (codes "{{") w _ refl).0 h)

-- two braces at a text's end
two_braces : (s : List ℕ) → is_open s ≡ true → last_byte s ≡ 123
two_braces s o =
    let w : List ℕ = drop (length s - 2) s in
    let two : w ≡ codes "{{" = braces_are w o in
    let size : length w ≡ 2 = ap length two in
    sym (last_dropped (length s - 2) s (omega (arith, length-drop (length s - 2) s))) ∙ ap last_byte two

lexeme_stopped : (s : List ℕ) → is_lexeme None FormatStringStart s ≡ true → Stopped s
lexeme_stopped s is =
    let both = and_parts (nat_lt 0 (length s)) (cond (opens_string 102 s) (opened_len true 1 s) 0 == length s) is in
    let some : 0 < length s = grind (arith, nat_tests, both.0) in
    cond_both (opens_string 102 s) (opened_len true 1 s) 0 (λ n. n ≡ length s → Stopped s) (λ _ size. stopped s size some) (λ _ size. absurd (omega arith)) (eqb-true _ (length s) both.1)

ends_alike : (s : List ℕ) → Stopped s → (last_byte s == 123) ≡ is_open s
ends_alike s (inl none) =
    elim (cases_Bool (is_open s)) [
      | inl o ↦ absurd (let brace : (last_byte s == 123) ≡ true = rw (two_braces s o) refl in cc)
      | inr n ↦ none ∙ sym n
    ]
ends_alike s (inr there) =
    let shown : is_open s ≡ true = rw there.0 refl in
    rw (two_braces s shown, shown) refl

long_enough : (s : List ℕ) → Stopped s → is_open s ≡ true → (length s == 3) ≡ false
long_enough s (inl none) o = absurd (let brace : (last_byte s == 123) ≡ true = rw (two_braces s o) refl in cc)
long_enough s (inr there) o = grind (arith, nat_tests, there.1)

-- The start of a format string that ends in a brace stops at an expression, and isn't three bytes long then.
pub formats_stop : FormatsStop
formats_stop = record { stops = λ s is. ends_alike s (lexeme_stopped s is); long = λ s is o. long_enough s (lexeme_stopped s is) o }
