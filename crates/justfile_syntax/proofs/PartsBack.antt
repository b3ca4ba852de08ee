-- The length of a string, a command or a part of a format string is that of its own text.
use Rattle.std.proofs.Common.{◌≡◌, ℕ, zero, suc, ◌+◌, ◌<◌, ◌≤◌, Bool, true, false, cond, ◌&&◌, ◌||◌, ◌==◌, List, [], ◌∷◌, ◌++◌, length, get_or, drop, refl, sym, ap, ◌∙◌, subst, inl, inr, arith, length-drop}
use Rattle.std.proofs.lemmas.Bool.{and_parts, cond_both, cases_Bool}
use Rattle.std.proofs.lemmas.Bool.Decides.{nat_tests}
use Rattle.std.proofs.lemmas.List.{drop-append-le}
use Rattle.just_lexer.specs.declared.quotes.Quotes.{Quotes}
use Rattle.just_lexer.specs.Classes.{first, at_braces, opens_format_interpolation, until_over}
use Rattle.just_lexer.specs.Strings.{quote_byte, quotes_len, quotes_at, at_quotes, ends_part, part_takes, part_len, has_escapes, has_end, end_len, ended_len, opened_len}
use Rattle.justfile_syntax.proofs.Parts.{quotes_same, quote_is_no_brace, quotes_some, end_some, end_tripled, drop_suc, and_no, dropped_front}

-- what is taken along is counted
pub over_takes : (stops : List ℕ → Bool) (takes : List ℕ → ℕ) (skip : ℕ) (xs : List ℕ) → skip ≤ length xs → skip ≤ until_over stops takes skip xs
unfolding until_over
over_takes stops takes zero xs h = omega arith
over_takes stops takes (suc k) [] h = absurd (omega arith)
over_takes stops takes (suc k) (b ∷ bs) h = omega (arith, over_takes stops takes k bs (omega arith))

-- two braces that open nothing are two of four
pub four_there : (b c : ℕ) (xs : List ℕ) → at_braces (b ∷ c ∷ xs) ≡ true → opens_format_interpolation (b ∷ c ∷ xs) ≡ false → 2 ≤ length xs
four_there b c [] h e = absurd (grind (arith, nat_tests))
four_there b c (d ∷ []) h e = absurd (grind (arith, nat_tests))
four_there b c (d ∷ x ∷ xs) h e = omega arith

pub format_interpolation_back : (b c : ℕ) (bs rest : List ℕ) → opens_format_interpolation (b ∷ c ∷ bs ++ rest) ≡ false → (at_braces (b ∷ c ∷ bs) ≡ true → 2 ≤ length bs) → opens_format_interpolation (b ∷ c ∷ bs) ≡ false
format_interpolation_back b c (d ∷ x ∷ bs) rest h room = h
format_interpolation_back b c [] rest h room = elim (cases_Bool (at_braces (b ∷ c ∷ []))) [ inl t ↦ absurd (omega (arith, room t)) | inr f ↦ rw f refl ]
format_interpolation_back b c (d ∷ []) rest h room = elim (cases_Bool (at_braces (b ∷ c ∷ d ∷ []))) [ inl t ↦ absurd (omega (arith, room t)) | inr f ↦ rw f refl ]

stays_on : (format a h h' : Bool) → (format ≡ true → h ≡ false → h' ≡ false) → (a || (format && h)) ≡ false → (a || (format && h')) ≡ false
stays_on format true h h' f e = cc
stays_on true false h h' f e = f refl e
stays_on false false h h' f e = refl

on_format_interpolation : (format a h : Bool) → format ≡ true → (a || (format && h)) ≡ false → h ≡ false
on_format_interpolation true true h f e = cc
on_format_interpolation true false h f e = e
on_format_interpolation false a h f e = cc

short_quotes : (q : Quotes) → quotes_len q ≡ 1 → q.tripled ≡ false
short_quotes q h = elim (cases_Bool q.tripled) [ inl t ↦ absurd (let three : 3 ≡ 1 = rw t at h in omega arith) | inr f ↦ f ]

no_two_quotes : (q : Quotes) → quotes_len q ≡ 2 → ⊥
no_two_quotes q h = elim (cases_Bool q.tripled) [ inl t ↦ absurd (let three : 3 ≡ 2 = rw t at h in omega arith) | inr f ↦ absurd (let one : 1 ≡ 2 = rw f at h in omega arith) ]

no_escape : (b : Bool) → ◌≡◌ {A = ℕ} (cond (b && false) 1 3) 3
no_escape true = refl
no_escape false = refl

module _ (format : Bool) (q : Quotes) where
  abbrev over : ℕ → List ℕ → ℕ
  over skip text = until_over (ends_part format q) (part_takes format q) skip text

  -- the part's own text ends where it ends before the rest
  pub record EndsAlone (skip : ℕ) (text rest : List ℕ) : Type 0 where
    pub same : over skip (text ++ rest) ≡ over skip text
    pub ends : end_len q (drop (over skip text) (text ++ rest)) ≡ end_len q (drop (over skip text) text)

  three_taken : (b c : ℕ) (bs : List ℕ) → format ≡ true → at_braces (b ∷ c ∷ bs) ≡ true → part_takes format q (b ∷ c ∷ bs) ≡ 3
  three_taken b c bs f t =
      let brace : (b == 92) ≡ false = grind (arith, nat_tests) in
      rw (brace, f, t) (no_escape (has_escapes q))

  -- one byte further
  step : (skip more b : ℕ) (bs rest : List ℕ) → over skip (b ∷ bs) ≡ over more bs + 1 → over skip (b ∷ bs ++ rest) ≡ over more (bs ++ rest) + 1 → EndsAlone more bs rest → EndsAlone skip (b ∷ bs) rest
  step skip more b bs rest e f there = record {
    same = f ∙ ap (λ n. n + 1) there.same ∙ sym e;
    ends = rw (e, drop_suc (over more bs) b (bs ++ rest), drop_suc (over more bs) b bs) there.ends;
  }

  here : (b : ℕ) (bs rest : List ℕ) → ends_part format q (b ∷ bs ++ rest) ≡ true → ends_part format q (b ∷ bs) ≡ true → end_len q (b ∷ bs ++ rest) ≡ end_len q (b ∷ bs) → EndsAlone 0 (b ∷ bs) rest
  unfolding until_over
  here b bs rest before alone ends =
      let n : over 0 (b ∷ bs) ≡ 0 = rw alone refl in
      let m : over 0 (b ∷ bs ++ rest) ≡ 0 = rw before refl in
      record { same = m ∙ sym n; ends = rw n ends }

  one_stops : (b : ℕ) (rest : List ℕ) → ends_part format q (b ∷ rest) ≡ true → end_len q (b ∷ rest) ≡ 1 → EndsAlone 0 (b ∷ []) rest
  one_stops b rest h n =
      elim (cases_Bool (at_quotes q (b ∷ rest))) [
        | inl is ↦ (
            let size : quotes_len q ≡ 1 = rw is at n in
            let single : q.tripled ≡ false = short_quotes q size in
            let alone : at_quotes q (b ∷ []) ≡ true = (let whole : at_quotes q (b ∷ rest) ≡ true = is in rw single (rw single at whole)) in
            here b [] rest h (rw alone refl) (rw (is, alone) refl))
        | inr none ↦ absurd (let two : 2 ≡ 1 = rw none at n in omega arith)
      ]

  more_stops : (b c : ℕ) (bs rest : List ℕ) → ends_part format q (b ∷ c ∷ bs ++ rest) ≡ true → end_len q (b ∷ c ∷ bs ++ rest) ≡ length (b ∷ c ∷ bs) → EndsAlone 0 (b ∷ c ∷ bs) rest
  more_stops b c [] rest h n =
      elim (cases_Bool (at_quotes q (b ∷ c ∷ rest))) [
        | inl is ↦ absurd (let size : quotes_len q ≡ 2 = rw is at n in no_two_quotes q size)
        | inr none ↦ (
            let format_interpolation : (format && opens_format_interpolation (b ∷ c ∷ rest)) ≡ true = rw none at h in
            let parts = and_parts format (opens_format_interpolation (b ∷ c ∷ rest)) format_interpolation in
            let brace : b ≡ 123 = grind (arith, nat_tests) in
            let other : (b == quote_byte q.quote) ≡ false = rw brace (quote_is_no_brace q.quote) in
            let no_quotes : at_quotes q (b ∷ c ∷ []) ≡ false = rw other refl in
            let opens : opens_format_interpolation (b ∷ c ∷ []) ≡ true = grind (arith, nat_tests) in
            here b (c ∷ []) rest h (rw (no_quotes, parts.0, opens) refl) (rw (none, no_quotes) refl))
      ]
  more_stops b c (d ∷ bs) rest h n =
      elim (cases_Bool (at_quotes q (b ∷ c ∷ d ∷ bs ++ rest))) [
        | inl is ↦ (let alone : at_quotes q (b ∷ c ∷ d ∷ bs) ≡ true = is in here b (c ∷ d ∷ bs) rest h (rw alone refl) refl)
        | inr none ↦ absurd (let two : 2 ≡ length (b ∷ c ∷ d ∷ bs) = rw none at n in omega arith)
      ]

  pub ends_alone : (skip : ℕ) (text rest : List ℕ) → over skip (text ++ rest) + end_len q (drop (over skip (text ++ rest)) (text ++ rest)) ≡ length text → EndsAlone skip text rest
  unfolding until_over
  ends_alone skip [] rest size = absurd (omega (arith, end_some format q (drop (over skip rest) rest)))
  ends_alone (suc k) (b ∷ bs) rest size =
      let n : ℕ = over k (bs ++ rest) in
      let moved : n + 1 + end_len q (drop n (bs ++ rest)) ≡ length (b ∷ bs) = rw (drop_suc n b (bs ++ rest)) at size in
      step (suc k) k b bs rest refl refl (ends_alone k bs rest (omega arith))
  ends_alone zero (b ∷ []) rest size =
      elim (cases_Bool (ends_part format q (b ∷ rest))) [
        | inl stops ↦ (
            let z : over 0 (b ∷ rest) ≡ 0 = rw stops refl in
            let end : 0 + end_len q (b ∷ rest) ≡ 1 = rw z at size in
            one_stops b rest stops (omega arith))
        | inr on ↦ absurd (
            let z : over 0 (b ∷ rest) ≡ over (part_takes format q (b ∷ rest)) rest + 1 = rw on refl in
            omega (arith, end_some format q (drop (over 0 (b ∷ rest)) (b ∷ rest))))
      ]
  ends_alone zero (b ∷ c ∷ bs) rest size =
      elim (cases_Bool (ends_part format q (b ∷ c ∷ bs ++ rest))) [
        | inl stops ↦ (
            let z : over 0 (b ∷ c ∷ bs ++ rest) ≡ 0 = rw stops refl in
            let end : 0 + end_len q (b ∷ c ∷ bs ++ rest) ≡ length (b ∷ c ∷ bs) = rw z at size in
            more_stops b c bs rest stops (omega arith))
        | inr on ↦ (
            let more : ℕ = part_takes format q (b ∷ c ∷ bs) in
            let n : ℕ = over more (c ∷ bs ++ rest) in
            let z : over 0 (b ∷ c ∷ bs ++ rest) ≡ n + 1 = rw on refl in
            let moved : n + 1 + end_len q (drop n (c ∷ bs ++ rest)) ≡ length (b ∷ c ∷ bs) = rw (z, drop_suc n b (c ∷ bs ++ rest)) at size in
            let end : 1 ≤ end_len q (drop n (c ∷ bs ++ rest)) = end_some format q (drop n (c ∷ bs ++ rest)) in
            let room : q.tripled ≡ true → 0 < length bs = λ t. omega (arith, end_tripled format q (drop n (c ∷ bs ++ rest)) t) in
            let quotes : at_quotes q (b ∷ c ∷ bs) ≡ at_quotes q (b ∷ c ∷ bs ++ rest) = sym (quotes_same q b c bs rest room) in
            let braces : format ≡ true → opens_format_interpolation (b ∷ c ∷ bs ++ rest) ≡ false → at_braces (b ∷ c ∷ bs) ≡ true → 2 ≤ length bs =
            λ f e t.
            let there : 2 ≤ length (bs ++ rest) = four_there b c (bs ++ rest) t e in
            let three : more ≡ 3 = three_taken b c bs f t in
            let counted : 3 ≤ over 3 (c ∷ bs ++ rest) = over_takes (ends_part format q) (part_takes format q) 3 (c ∷ bs ++ rest) (omega arith) in
            let same : n ≡ over 3 (c ∷ bs ++ rest) = ap (λ m. over m (c ∷ bs ++ rest)) three in
            omega arith in
            let alone : ends_part format q (b ∷ c ∷ bs) ≡ false = rw quotes (stays_on format (at_quotes q (b ∷ c ∷ bs ++ rest)) (opens_format_interpolation (b ∷ c ∷ bs ++ rest)) (opens_format_interpolation (b ∷ c ∷ bs)) (λ f e. format_interpolation_back b c bs rest e (braces f e)) on) in
            step 0 more b (c ∷ bs) rest (rw alone refl) z (ends_alone more (c ∷ bs) rest (omega arith)))
      ]

  -- and so does the length with what stands in front
  pub ended_alone : (n : ℕ) (l rest : List ℕ) → 0 < length l → ended_len format q n (l ++ rest) ≡ length l → (n < length l) × (ended_len format q n l ≡ length l)
  unfolding ended_len
  ended_alone n l rest some h =
      let u : List ℕ = drop n (l ++ rest) in
      cond_both (has_end format q u) (n + part_len format q u + end_len q (drop (part_len format q u) u)) 0 (λ m. m ≡ length l → (n < length l) × (ended_len format q n l ≡ length l))
      (λ has size.
      let inside : n < length l = omega (arith, end_some format q (drop (part_len format q u) u)) in
      let t : List ℕ = drop n l in
      let front : u ≡ t ++ rest = drop-append-le n l rest (omega arith) in
      let size_on : n + part_len format q (t ++ rest) + end_len q (drop (part_len format q (t ++ rest)) (t ++ rest)) ≡ length l = subst (λ x. n + part_len format q x + end_len q (drop (part_len format q x) x) ≡ length l) front size in
      let own : part_len format q (t ++ rest) + end_len q (drop (part_len format q (t ++ rest)) (t ++ rest)) ≡ length t = omega (arith, length-drop n l) in
      let there = ends_alone 0 t rest own in
      let size_alone : n + part_len format q t + end_len q (drop (part_len format q t) t) ≡ length l = rw (there.same, there.ends) at size_on in
      let less : part_len format q t < length t = omega (arith, end_some format q (drop (part_len format q t) t), length-drop n l) in
      let has_on : has_end format q t ≡ true = grind (arith, nat_tests) in
      (inside, rw has_on size_alone))
      (λ _ size. absurd (omega arith))
      h

same_quotes : (t rest : List ℕ) → 0 < first t → 2 ≤ length t → (length t ≡ 2 → (quotes_at (t ++ rest)).tripled ≡ false) → quotes_at t ≡ quotes_at (t ++ rest)
same_quotes [] rest some two apart = absurd (omega arith)
same_quotes (b ∷ []) rest some two apart = absurd (omega arith)
same_quotes (b ∷ c ∷ d ∷ t) rest some two apart = refl
same_quotes (b ∷ c ∷ []) rest some two apart =
    let alone : (c == b && 0 == b) ≡ false = (let none : (0 == b) ≡ false = grind (arith, nat_tests) in rw none (and_no (c == b))) in
    let before : (c == b && first rest == b) ≡ false = apart refl in
    rw (alone, before) refl

-- the length of a string or a command is that of its own text
pub opened_alone : (format : Bool) (letters : ℕ) (l rest : List ℕ) → 0 < get_or l letters 0 → 0 < length l → opened_len format letters (l ++ rest) ≡ length l → (letters + 1 < length l) × (opened_len format letters l ≡ length l)
opened_alone format letters l rest mark some h =
    let q : Quotes = quotes_at (drop letters (l ++ rest)) in
    let alone = ended_alone format q (letters + quotes_len q) l rest some h in
    let inside : letters + 1 < length l = omega (arith, alone.0, quotes_some q) in
    let t : List ℕ = drop letters l in
    let front : drop letters (l ++ rest) ≡ t ++ rest = drop-append-le letters l rest (omega arith) in
    let marked : 0 < first t = rw (dropped_front letters l (omega arith)) mark in
    let size : length l ≡ letters + length t = omega (arith, length-drop letters l) in
    let single : length t ≡ 2 → (quotes_at (t ++ rest)).tripled ≡ false = λ e. rw (← front) (short_quotes q (let small : quotes_len q < 2 = omega (arith, alone.0) in let big : 1 ≤ quotes_len q = quotes_some q in omega arith)) in
    let same : quotes_at t ≡ q = same_quotes t rest marked (omega arith) single ∙ ap quotes_at (sym front) in
    (inside, ap (λ x. ended_len format x (letters + quotes_len x) l) same ∙ alone.1)
