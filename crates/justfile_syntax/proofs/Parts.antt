-- A string, a command or a part of a format string ends where it ends, whatever follows that opens no longer mark.
use Rattle.std.proofs.Common.{◌≡◌, ℕ, zero, suc, ◌+◌, ◌-◌, ◌<◌, ◌≤◌, Bool, true, false, ◌&&◌, ◌||◌, ◌==◌, List, [], ◌∷◌, ◌++◌, length, get_or, drop, refl, sym, ap, ◌∙◌, inl, inr, arith, rules, length-append, length-drop}
use Rattle.std.proofs.lemmas.Bool.{and_parts, cond_both, cases_Bool}
use Rattle.std.proofs.lemmas.Bool.Decides.{nat_tests}
use Rattle.std.proofs.lemmas.List.{drop-append-le, get_or-drop}
use Rattle.just_lexer.specs.declared.quotes.Quote.{Quote}
use Rattle.just_lexer.specs.declared.quotes.Quote.TheVariants.{Single, Double, Backtick}
use Rattle.just_lexer.specs.declared.quotes.Quotes.{Quotes}
use Rattle.just_lexer.specs.Classes.{first, opens_format_interpolation, until_over}
use Rattle.just_lexer.specs.Strings.{quote_byte, quotes_len, quotes_at, at_quotes, ends_part, part_takes, part_len, has_end, end_len, ended_len, opened_len}
use Rattle.justfile_syntax.specs.Fits.{last_byte, makes_three, makes_four}

-- the last byte is the last of what is left

pub last_on : (b c : ℕ) (cs : List ℕ) → last_byte (b ∷ c ∷ cs) ≡ last_byte (c ∷ cs)
last_on b c cs = let i : suc (suc (length cs)) - 1 ≡ suc (suc (length cs) - 1) = omega arith in rw i refl

pub last_dropped : (n : ℕ) (l : List ℕ) → n < length l → last_byte (drop n l) ≡ last_byte l
last_dropped n l h =
    let i : n + (length (drop n l) - 1) ≡ length l - 1 = omega (arith, length-drop n l) in
    get_or-drop n l (length (drop n l) - 1) 0 ∙ ap (λ k. get_or l k 0) i

pub drop_suc : (n b : ℕ) (bs : List ℕ) → drop (n + 1) (b ∷ bs) ≡ drop n bs
drop_suc n b bs = grind (arith, rules)

-- tests where more text follows

pub format_interpolation_same : (b c : ℕ) (bs rest : List ℕ) → opens_format_interpolation (b ∷ c ∷ bs) ≡ false → opens_format_interpolation (b ∷ c ∷ bs ++ rest) ≡ false
format_interpolation_same b c [] rest h = grind (arith, nat_tests)
format_interpolation_same b c (d ∷ []) rest h = grind (arith, nat_tests)
format_interpolation_same b c (d ∷ e ∷ bs) rest h = h

pub quotes_same : (q : Quotes) (b c : ℕ) (bs rest : List ℕ) → (q.tripled ≡ true → 0 < length bs) → at_quotes q (b ∷ c ∷ bs ++ rest) ≡ at_quotes q (b ∷ c ∷ bs)
quotes_same q b c [] rest room = elim (cases_Bool q.tripled) [ inl t ↦ absurd (omega (arith, room t)) | inr f ↦ rw f refl ]
quotes_same q b c (d ∷ bs) rest room = refl

goes_on : (format a h h' : Bool) → (h ≡ false → h' ≡ false) → (a || (format && h)) ≡ false → (a || (format && h')) ≡ false
goes_on format true h h' f e = cc
goes_on true false h h' f e = f e
goes_on false false h h' f e = refl

quotes_stay : (q : Quotes) (b : ℕ) (bs rest : List ℕ) → at_quotes q (b ∷ bs) ≡ true → quotes_len q ≡ length (b ∷ bs) → at_quotes q (b ∷ bs ++ rest) ≡ true
quotes_stay q b [] rest h n = elim (cases_Bool q.tripled) [ inl t ↦ absurd (let three : 3 ≡ 1 = rw t at n in omega arith) | inr f ↦ (let is : at_quotes q (b ∷ []) ≡ true = h in rw f (rw f at is)) ]
quotes_stay q b (c ∷ []) rest h n = elim (cases_Bool q.tripled) [ inl t ↦ absurd (let three : 3 ≡ 2 = rw t at n in omega arith) | inr f ↦ absurd (let one : 1 ≡ 2 = rw f at n in omega arith) ]
quotes_stay q b (c ∷ d ∷ bs) rest h n = h

pub quote_is_no_brace : (q : Quote) → (123 == quote_byte q) ≡ false
quote_is_no_brace Single = refl
quote_is_no_brace Double = refl
quote_is_no_brace Backtick = refl

pub quotes_some : (q : Quotes) → 1 ≤ quotes_len q
quotes_some q = cond_both q.tripled 3 1 (λ n. 1 ≤ n) (λ _. omega arith) (λ _. omega arith)

module _ (format : Bool) (q : Quotes) where
  pub end_some : (text : List ℕ) → 1 ≤ end_len q text
  end_some text = cond_both (at_quotes q text) (quotes_len q) 2 (λ n. 1 ≤ n) (λ _. quotes_some q) (λ _. omega arith)

  pub end_tripled : (text : List ℕ) → q.tripled ≡ true → 2 ≤ end_len q text
  end_tripled text t = cond_both (at_quotes q text) (quotes_len q) 2 (λ n. 2 ≤ n) (λ _. rw t (omega arith)) (λ _. omega arith)

  -- what ends a part ends it before other text too
  record EndsBefore (text rest : List ℕ) : Type 0 where
    stops : ends_part format q (text ++ rest) ≡ true
    ends : end_len q (text ++ rest) ≡ end_len q text

  format_interpolation_ends : (b : ℕ) (bs rest : List ℕ) → at_quotes q (b ∷ bs) ≡ false → format ≡ true → opens_format_interpolation (b ∷ bs) ≡ true → 2 ≡ length (b ∷ bs) → makes_four (b ∷ bs) rest ≡ false → EndsBefore (b ∷ bs) rest
  format_interpolation_ends b [] rest none f format_interpolation n four = absurd (omega arith)
  format_interpolation_ends b (c ∷ d ∷ bs) rest none f format_interpolation n four = absurd (omega arith)
  format_interpolation_ends b (c ∷ []) rest none f format_interpolation n four =
      let brace : b ≡ 123 = grind (arith, nat_tests) in
      let other : (b == quote_byte q.quote) ≡ false = rw brace (quote_is_no_brace q.quote) in
      let no_quotes : at_quotes q (b ∷ c ∷ rest) ≡ false = rw other refl in
      let opens : opens_format_interpolation (b ∷ c ∷ rest) ≡ true = grind (arith, nat_tests) in
      record { stops = rw (no_quotes, f, opens) refl; ends = rw (no_quotes, none) refl }

  ends_before : (b : ℕ) (bs rest : List ℕ) → ends_part format q (b ∷ bs) ≡ true → end_len q (b ∷ bs) ≡ length (b ∷ bs) → (format ≡ true → makes_four (b ∷ bs) rest ≡ false) → EndsBefore (b ∷ bs) rest
  ends_before b bs rest h n four =
      elim (cases_Bool (at_quotes q (b ∷ bs))) [
        | inl is ↦ (
            let size : quotes_len q ≡ length (b ∷ bs) = rw is at n in
            let stays : at_quotes q (b ∷ bs ++ rest) ≡ true = quotes_stay q b bs rest is size in
            record { stops = rw stays refl; ends = rw (stays, is) refl })
        | inr none ↦ (
            let format_interpolation : (format && opens_format_interpolation (b ∷ bs)) ≡ true = rw none at h in
            let both = and_parts format (opens_format_interpolation (b ∷ bs)) format_interpolation in
            let size : 2 ≡ length (b ∷ bs) = rw none at n in
            format_interpolation_ends b bs rest none both.0 both.1 size (four both.0))
      ]

  abbrev over : ℕ → List ℕ → ℕ
  over skip text = until_over (ends_part format q) (part_takes format q) skip text

  -- the part goes no further
  pub record EndsThere (skip : ℕ) (text rest : List ℕ) : Type 0 where
    pub same : over skip (text ++ rest) ≡ over skip text
    pub ends : end_len q (drop (over skip text) (text ++ rest)) ≡ end_len q (drop (over skip text) text)

  four_on : (b : ℕ) (bs rest : List ℕ) → 0 < length bs → (format ≡ true → makes_four (b ∷ bs) rest ≡ false) → format ≡ true → makes_four bs rest ≡ false
  four_on b [] rest some four f = absurd (omega arith)
  four_on b (c ∷ cs) rest some four f = rw (last_on b c cs) at (four f)

  stops_same : (b c : ℕ) (bs rest : List ℕ) → (q.tripled ≡ true → 0 < length bs) → ends_part format q (b ∷ c ∷ bs) ≡ false → ends_part format q (b ∷ c ∷ bs ++ rest) ≡ false
  stops_same b c bs rest room h = rw (quotes_same q b c bs rest room) (goes_on format (at_quotes q (b ∷ c ∷ bs)) (opens_format_interpolation (b ∷ c ∷ bs)) (opens_format_interpolation (b ∷ c ∷ bs ++ rest)) (format_interpolation_same b c bs rest) h)

  -- one byte further
  step : (skip more b : ℕ) (bs rest : List ℕ) → over skip (b ∷ bs) ≡ over more bs + 1 → over skip (b ∷ bs ++ rest) ≡ over more (bs ++ rest) + 1 → EndsThere more bs rest → EndsThere skip (b ∷ bs) rest
  step skip more b bs rest e f there = record {
    same = f ∙ ap (λ n. n + 1) there.same ∙ sym e;
    ends = rw (e, drop_suc (over more bs) b (bs ++ rest), drop_suc (over more bs) b bs) there.ends;
  }

  stops_here : (b : ℕ) (bs rest : List ℕ) → ends_part format q (b ∷ bs) ≡ true → over 0 (b ∷ bs) + end_len q (drop (over 0 (b ∷ bs)) (b ∷ bs)) ≡ length (b ∷ bs) → (format ≡ true → makes_four (b ∷ bs) rest ≡ false) → EndsThere 0 (b ∷ bs) rest
  unfolding until_over
  stops_here b bs rest stops size four =
      let here : over 0 (b ∷ bs) ≡ 0 = rw stops refl in
      let end : end_len q (b ∷ bs) ≡ length (b ∷ bs) = (let moved : 0 + end_len q (b ∷ bs) ≡ length (b ∷ bs) = rw here at size in omega arith) in
      let before = ends_before b bs rest stops end four in
      let there : over 0 (b ∷ bs ++ rest) ≡ 0 = rw before.stops refl in
      record { same = there ∙ sym here; ends = rw here before.ends }

  pub ends_there : (skip : ℕ) (text rest : List ℕ) → over skip text < length text → over skip text + end_len q (drop (over skip text) text) ≡ length text → (format ≡ true → makes_four text rest ≡ false) → EndsThere skip text rest
  unfolding until_over
  ends_there skip [] rest less size four = absurd (omega arith)
  ends_there (suc k) (b ∷ bs) rest less size four =
      let n : ℕ = over k bs in
      let size_on : n + end_len q (drop n bs) ≡ length bs = (let moved : n + 1 + end_len q (drop n bs) ≡ length (b ∷ bs) = rw (drop_suc n b bs) at size in omega arith) in
      step (suc k) k b bs rest refl refl (ends_there k bs rest (omega arith) size_on (four_on b bs rest (omega arith) four))
  ends_there zero (b ∷ []) rest less size four =
      elim (cases_Bool (ends_part format q (b ∷ []))) [
        | inl stops ↦ stops_here b [] rest stops size four
        | inr on ↦ absurd (let n : over 0 (b ∷ []) ≡ 1 = rw on refl in omega arith)
      ]
  ends_there zero (b ∷ c ∷ bs) rest less size four =
      elim (cases_Bool (ends_part format q (b ∷ c ∷ bs))) [
        | inl stops ↦ stops_here b (c ∷ bs) rest stops size four
        | inr on ↦ (
            let more : ℕ = part_takes format q (b ∷ c ∷ bs) in
            let n : ℕ = over more (c ∷ bs) in
            let e : over 0 (b ∷ c ∷ bs) ≡ n + 1 = rw on refl in
            let less_on : n < length (c ∷ bs) = omega arith in
            let moved : n + 1 + end_len q (drop n (c ∷ bs)) ≡ length (b ∷ c ∷ bs) = rw (e, drop_suc n b (c ∷ bs)) at size in
            let size_on : n + end_len q (drop n (c ∷ bs)) ≡ length (c ∷ bs) = omega arith in
            let room : q.tripled ≡ true → 0 < length bs = λ t. omega (arith, end_tripled (drop n (c ∷ bs)) t) in
            let on_more : ends_part format q (b ∷ c ∷ bs ++ rest) ≡ false = stops_same b c bs rest room on in
            step 0 more b (c ∷ bs) rest e (rw on_more refl) (ends_there more (c ∷ bs) rest less_on size_on (four_on b (c ∷ bs) rest (omega arith) four)))
      ]

  -- the length up to the end of a part stays
  pub ended_stays : (n : ℕ) (l rest : List ℕ) → 0 < length l → ended_len format q n l ≡ length l → (format ≡ true → makes_four l rest ≡ false) → (n < length l) × (ended_len format q n (l ++ rest) ≡ length l)
  unfolding ended_len
  ended_stays n l rest some h four =
      cond_both (has_end format q (drop n l)) (n + part_len format q (drop n l) + end_len q (drop (part_len format q (drop n l)) (drop n l))) 0 (λ m. m ≡ length l → (n < length l) × (ended_len format q n (l ++ rest) ≡ length l))
      (λ has size.
      let t : List ℕ = drop n l in
      let p : ℕ = part_len format q t in
      let less : p < length t = grind (arith, nat_tests) in
      let inside : n < length l = omega (arith, length-drop n l) in
      let size_on : p + end_len q (drop p t) ≡ length t = omega (arith, length-drop n l) in
      let four_on : format ≡ true → makes_four t rest ≡ false = λ f. rw (last_dropped n l inside) (four f) in
      let there = ends_there 0 t rest less size_on four_on in
      let front : drop n (l ++ rest) ≡ t ++ rest = drop-append-le n l rest (omega arith) in
      let has_on : has_end format q (t ++ rest) ≡ true = (let longer : p < length (t ++ rest) = omega (arith, length-append t rest) in rw there.same (grind (arith, nat_tests))) in
      (inside, rw (front, has_on, there.same, there.ends) size))
      (λ _ size. absurd (omega arith))
      h

pub and_no : (b : Bool) → (b && false) ≡ false
and_no true = refl
and_no false = refl

-- the quotes that open stay what they are
quotes_at_stay : (t rest : List ℕ) → 0 < first t → 2 ≤ length t → (length t ≡ 2 → (first rest == first t) ≡ false) → quotes_at (t ++ rest) ≡ quotes_at t
quotes_at_stay [] rest some two apart = absurd (omega arith)
quotes_at_stay (b ∷ []) rest some two apart = absurd (omega arith)
quotes_at_stay (b ∷ c ∷ d ∷ t) rest some two apart = refl
quotes_at_stay (b ∷ c ∷ []) rest some two apart =
    let alone : (c == b && 0 == b) ≡ false = grind (arith, nat_tests) in
    let other : (first rest == b) ≡ false = apart refl in
    let before : (c == b && first rest == b) ≡ false = rw other (and_no (c == b)) in
    rw (alone, before) refl

pub dropped_front : (letters : ℕ) (l : List ℕ) → letters < length l → first (drop letters l) ≡ get_or l letters 0
dropped_front letters l h = get_or-drop letters l 0 0 ∙ (let i : letters + 0 ≡ letters = omega arith in ap (λ k. get_or l k 0) i)

two_more : (n letters t : ℕ) → n ≡ letters + t → t ≡ 2 → (n == letters + 2) ≡ true
two_more n letters t e f = grind (arith, nat_tests)

-- the length of a string or a command stays
pub opened_stays : (format : Bool) (letters : ℕ) (l rest : List ℕ) → 0 < get_or l letters 0 → 0 < length l → opened_len format letters l ≡ length l → makes_three letters l rest ≡ false → (format ≡ true → makes_four l rest ≡ false) → opened_len format letters (l ++ rest) ≡ length l
opened_stays format letters l rest mark some h three four =
    let t : List ℕ = drop letters l in
    let q : Quotes = quotes_at t in
    let stays = ended_stays format q (letters + quotes_len q) l rest some h four in
    let inside : letters + 1 < length l = omega (arith, stays.0, quotes_some q) in
    let two : 2 ≤ length t = omega (arith, length-drop letters l) in
    let mark_is : first t ≡ get_or l letters 0 = dropped_front letters l (omega arith) in
    let marked : 0 < first t = rw mark_is mark in
    let size : length l ≡ letters + length t = omega (arith, length-drop letters l) in
    let apart : length t ≡ 2 → (first rest == first t) ≡ false = λ e. rw mark_is (let both : (length l == letters + 2) ≡ true = two_more (length l) letters (length t) size e in rw both at three) in
    let front : drop letters (l ++ rest) ≡ t ++ rest = drop-append-le letters l rest (omega arith) in
    ap (λ x. ended_len format x (letters + quotes_len x) (l ++ rest)) (ap quotes_at front ∙ quotes_at_stay t rest marked two apart) ∙ stays.1
