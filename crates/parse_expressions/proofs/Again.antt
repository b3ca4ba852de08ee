-- What is derived is read.
use Rattle.std.proofs.Common.{◌≡◌, ◌≢◌, ℕ, zero, suc, ◌<◌, ◌≤◌, Bool, true, false, List, length, map, Result, Ok, Some, None, refl, sym, ap, subst, ◌∙◌, arith, inl, inr, ◌⊎◌, eqb-true}
use Rattle.std.specs.Prelude.{◌==◌}
use Rattle.std.specs.Str.{bytes_eq}
use Rattle.std.proofs.lemmas.Bool.{cases_lt}
use Rattle.std.proofs.lemmas.List.{length-map}
use Rattle.just_text.specs.Tokens.{Word}
use Rattle.just_text.specs.declared.compile_error.CompileErrorKind.{CompileErrorKind}
use Rattle.just_text.specs.declared.token_kind.TokenKind.{TokenKind}
use Rattle.just_text.specs.declared.token_kind.TokenKind.TheVariants.{Backtick, Bang, BraceL, BraceR, BracketL, BracketR, Comma, FormatStringContinue, FormatStringEnd, FormatStringStart, Identifier, ParenL, ParenR, Slash, StringToken}
use Rattle.tree_expressions.specs.declared.string_kind.StringKind.{StringKind}
use Rattle.tree_expressions.specs.Cooking.{cooked}
use Rattle.tree_expressions.specs.Kinds.{kind_of}
use Rattle.tree_expressions.specs.Parts.{cooked_part}
use Rattle.tree_expressions.specs.Operators.{Binary}
use Rattle.tree_expressions.specs.Shape.{Shape, Shapes, Interpolations, literal, command, format, variable, call, assertion, assertion_alone, group, listing, choice, choice_alone, negation, rooted, binary, end, more, closed, interpolation}
use Rattle.parse_expressions.specs.Words.{is_kind, Begins, Mark, Lacks, if_keyword, else_keyword, assert_keyword}
use Rattle.parse_expressions.specs.Operators.{sign, rank, left_rank, right_rank, rank_of}
use Rattle.parse_expressions.specs.Literals.{Expansion, PartCooks}
use Rattle.parse_expressions.specs.Grammar.{May, IsChoice, has_interpolations, Closes, Is, IsBraced, AreAll, AreInterpolations, depth, depth_all, depth_interpolations, Derives}
use Rattle.parse_expressions.specs.Reading.{Stop, Read, bang, slash, accept, is_keyword, operator_at, prefix_at, taken_if, command_at, literal_at, part_at, elements_at, interpolation_at, interpolations_at, format_at, braces_at, otherwise_at, choice_at, closing_at, message_at, assertion_at, call_at, named_at, bracketed_at, primary_at, operand_at, expression_at}
use Rattle.parse_expressions.proofs.Taken.{test, text_itself, text_differs, clash, Taken, taken, marked, same_front, lacks_accept, other_accept, keyword_begins, lacks_keyword}
use Rattle.parse_expressions.proofs.Operators.{operator_again, lacks_operator, left_is}
use Rattle.parse_expressions.proofs.Found.{assert_is_no_if}
use Rattle.parse_expressions.proofs.Starts.{can_start, Starts, starts, cannot, mark_shorter, shorter, depth_positive}

module _ {T : Type 0} (word : T → Word) (expansion : Expansion) where
  -- what is read where a thing is spelled, and what is left then
  pub record Reads {A : Type 0} (read : Read T A) (x : A) (ws : List Word) : Type 0 where
    pub rest : List T
    pub is : read ≡ Ok (x, rest)
    pub others : map word rest ≡ ws

  -- the same where nothing but the place is given
  pub record Ends (read : Result (List T) (Stop T)) (ws : List Word) : Type 0 where
    pub rest : List T
    pub is : read ≡ Ok rest
    pub others : map word rest ≡ ws

  carried : {A : Type 0} (read from : Read T A) (x : A) (ws : List Word) → read ≡ from → Reads from x ws → Reads read x ws
  carried read from x ws same r = record { rest = r.rest; is = same ∙ r.is; others = r.others }

  taken_again : (t : T) (read : Result (List ℕ) CompileErrorKind) (s : List ℕ) → ((text : List ℕ) × (read ≡ Ok text)) → (word t).text ≡ s → taken_if word t read ≡ Ok s
  taken_again t read s c says = rw (c.1, says) refl

  -- ---- what comes first

  no_prefix_at : (k : ℕ) (ts : List T) → (k ≡ 1 → Lacks Bang (map word ts)) → (k ≡ 2 → Lacks Slash (map word ts)) → prefix_at word k ts ≡ None
  unfolding prefix_at
  no_prefix_at k ts no_bang no_slash =
      elim (test (k == 1)) [
        | inl w ↦ let lacks = lacks_accept word Bang ts (no_bang (eqb-true k 1 w)) in rw (w, lacks) refl
        | inr w ↦ elim (test (k == 2)) [
          | inl v ↦ let lacks = lacks_accept word Slash ts (no_slash (eqb-true k 2 v)) in rw (w, v, lacks) refl
          | inr v ↦ rw (w, v) refl
        ]
      ]

  lacks_other : (e : Shape) (words : List Word) (kind : TokenKind) (s : Starts e words) → s.kind ≢ kind → Lacks kind words
  lacks_other e words kind s differs rest m = differs (same_front s.kind kind s.text m.0 words s.others rest s.begins m.1).0

  no_prefix : (e : Shape) (j : ℕ) (ts : List T) → Starts e (map word ts) → rank_of e ≤ j → prefix_at word (suc j) ts ≡ None
  no_prefix e j ts s h = no_prefix_at (suc j) ts (λ one. lacks_other e (map word ts) Bang s (s.no_bang (omega arith))) (λ two. lacks_other e (map word ts) Slash s (s.no_slash (omega arith)))

  module _ (deeper : ℕ → List T → Read T Shape) where
    -- inside, the expression is read wherever it is spelled and may stand
    abbrev Reader : Shape → Type 0
    Reader e = (k : ℕ) (ts : List T) (rest : List Word) → Is expansion e (map word ts) rest → May k e rest → Reads (deeper k ts) e rest

    -- an expression without an operator of its own is read wherever it is spelled
    abbrev Primary : Shape → Type 0
    Primary e = (ts : List T) (rest : List Word) → Is expansion e (map word ts) rest → Reads (primary_at word expansion deeper ts) e rest

    -- ---- strings and commands

    literal_again : (s : List ℕ) → Primary (literal s)
    unfolding primary_at literal_at
    literal_again s ts rest i =
        let t = taken word StringToken s ts rest i.0 in
        let cooks : (text : List ℕ) × (cooked expansion (word t.token).text ≡ Ok text) = rw t.says i.1 in
        let text = taken_again t.token (cooked expansion (word t.token).text) s cooks t.says in
        record { rest = t.rest; is = rw (t.accepts, text) refl; others = t.others }

    command_again : (s : List ℕ) → Primary (command s)
    unfolding primary_at command_at
    command_again s ts rest i =
        let t = taken word Backtick s ts rest i.0 in
        let no_string = other_accept word StringToken Backtick ts rest (s, i.0) refl in
        record { rest = t.rest; is = rw (no_string, t.accepts, t.says, i.1) refl; others = t.others }

    part_end : (kind : StringKind) (ts : List T) (part : List ℕ) (rest : List Word) → Begins FormatStringEnd part (map word ts) rest → PartCooks kind part → Reads (part_at word kind ts) (part, false) rest
    unfolding part_at
    part_end kind ts part rest b c =
        let t = taken word FormatStringEnd part ts rest b in
        let no_interpolation = other_accept word FormatStringContinue FormatStringEnd ts rest (part, b) refl in
        let cooks : PartCooks kind (word t.token).text = rw t.says c in
        let text = taken_again t.token (cooked_part kind (word t.token).text) part cooks t.says in
        record { rest = t.rest; is = rw (no_interpolation, t.expects, text) refl; others = t.others }

    part_more : (kind : StringKind) (ts : List T) (part : List ℕ) (rest : List Word) → Begins FormatStringContinue part (map word ts) rest → PartCooks kind part → Reads (part_at word kind ts) (part, true) rest
    unfolding part_at
    part_more kind ts part rest b c =
        let t = taken word FormatStringContinue part ts rest b in
        let cooks : PartCooks kind (word t.token).text = rw t.says c in
        let text = taken_again t.token (cooked_part kind (word t.token).text) part cooks t.says in
        record { rest = t.rest; is = rw (t.accepts, text) refl; others = t.others }

    interpolation_again : (kind : StringKind) (ts : List T) (e : Shape) (part : List ℕ) (goes_on : Bool) (a rest : List Word) → (r : Reads (deeper 6 ts) e a) → Reads (part_at word kind r.rest) (part, goes_on) rest
        → Reads (interpolation_at word expansion deeper kind ts) ((e, part), goes_on) rest
    unfolding interpolation_at
    interpolation_again kind ts e part goes_on a rest r p = record { rest = p.rest; is = rw (r.is, p.is) refl; others = p.others }

    interpolation_last : (n : ℕ) (kind : StringKind) (ts : List T) (e : Shape) (part : List ℕ) (rest : List Word) → Reads (interpolation_at word expansion deeper kind ts) ((e, part), false) rest → Reads (interpolations_at word expansion deeper (suc n) kind ts) (interpolation e part closed) rest
    unfolding interpolations_at
    interpolation_last n kind ts e part rest r = record { rest = r.rest; is = rw r.is refl; others = r.others }

    interpolation_more : (n : ℕ) (kind : StringKind) (ts : List T) (e : Shape) (part : List ℕ) (hs : Interpolations) (a rest : List Word) → (r : Reads (interpolation_at word expansion deeper kind ts) ((e, part), true) a) → Reads (interpolations_at word expansion deeper n kind r.rest) hs rest
        → Reads (interpolations_at word expansion deeper (suc n) kind ts) (interpolation e part hs) rest
    unfolding interpolations_at
    interpolation_more n kind ts e part hs a rest r s = record { rest = s.rest; is = rw (r.is, s.is) refl; others = s.others }

    -- the interpolations are read wherever they are spelled
    abbrev InterpolationReader : Interpolations → Type 0
    InterpolationReader hs = (n : ℕ) (kind : StringKind) (ts : List T) (rest : List Word) → has_interpolations hs ≡ true → AreInterpolations expansion kind hs (map word ts) rest → length (map word ts) < n → Reads (interpolations_at word expansion deeper n kind ts) hs rest

    interpolations_again : (e : Shape) (part : List ℕ) (hs : Interpolations) → Reader e → InterpolationReader hs → InterpolationReader (interpolation e part hs)
    interpolations_again e part hs read others zero kind ts rest there i fuel = absurd (omega arith)
    interpolations_again e part closed read others (suc n) kind ts rest there i fuel =
        let r = read 6 ts i.0 i.2 i.3 in
        let p = part_end kind r.rest part i.1 (rw r.others i.4) i.5 in
        rw (← i.6) (interpolation_last n kind ts e part i.1 (interpolation_again kind ts e part false i.0 i.1 r p))
    interpolations_again e part (interpolation f next hs) read others (suc n) kind ts rest there i fuel =
        let r = read 6 ts i.0 i.2 i.3 in
        let p = part_more kind r.rest part i.1 (rw r.others i.4) i.5 in
        let h = interpolation_again kind ts e part true i.0 i.1 r p in
        let less = shorter expansion e (map word ts) i.0 i.2 in
        let mark = mark_shorter FormatStringContinue i.0 i.1 (part, i.4) in
        let left = ap length h.others in
        interpolation_more n kind ts e part (interpolation f next hs) i.1 rest h (others n kind h.rest rest refl (rw h.others i.6) (omega arith))

    fuel_enough : (ts : List T) → length (map word ts) < suc (length ts)
    fuel_enough ts = omega (arith, length-map ts word)

    format_first : (s : List ℕ) (ts : List T) (a : List Word) → Begins FormatStringStart s (map word ts) a → (t : Taken word FormatStringStart s ts a) → primary_at word expansion deeper ts ≡ format_at word expansion deeper t.token t.rest
    unfolding primary_at
    format_first s ts a b t =
        let no_string = other_accept word StringToken FormatStringStart ts a (s, b) refl in
        let no_command = other_accept word Backtick FormatStringStart ts a (s, b) refl in
        rw (no_string, no_command, t.accepts) refl

    format_again : (s : List ℕ) (hs : Interpolations) → InterpolationReader hs → Primary (format s hs)
    unfolding format_at
    format_again s closed read ts rest i =
        let t = taken word FormatStringStart s ts i.0 i.1 in
        let cooks : PartCooks (kind_of (word t.token).text) (word t.token).text = rw t.says i.2 in
        let text = taken_again t.token (cooked_part (kind_of (word t.token).text) (word t.token).text) s cooks t.says in
        carried (primary_at word expansion deeper ts) (format_at word expansion deeper t.token t.rest) (format s closed) rest (format_first s ts i.0 i.1 t)
        (record { rest = t.rest; is = rw (text, i.3) refl; others = t.others ∙ i.4 })
    format_again s (interpolation e part hs) read ts rest i =
        let t = taken word FormatStringStart s ts i.0 i.1 in
        let cooks : PartCooks (kind_of (word t.token).text) (word t.token).text = rw t.says i.2 in
        let text = taken_again t.token (cooked_part (kind_of (word t.token).text) (word t.token).text) s cooks t.says in
        let all = read (suc (length t.rest)) (kind_of s) t.rest rest refl (rw t.others i.4) (fuel_enough t.rest) in
        carried (primary_at word expansion deeper ts) (format_at word expansion deeper t.token t.rest) (format s (interpolation e part hs)) rest (format_first s ts i.0 i.1 t)
        (record { rest = all.rest; is = rw (text, i.3, all.is) refl; others = all.others })

    -- ---- conditionals

    braces_again : (e : Shape) → Reader e → (ts : List T) (rest : List Word) → IsBraced (Is expansion e) e (map word ts) rest → Reads (braces_at word expansion deeper ts) e rest
    unfolding braces_at
    braces_again e read ts rest i =
        let o = marked word BraceL ts i.0 i.2 in
        let x = read 6 o.rest i.1 (rw o.others i.3) i.4 in
        let q = marked word BraceR x.rest rest (rw x.others i.5) in
        record { rest = q.rest; is = rw (o.expects, x.is, q.expects) refl; others = q.others }

    choice_keyword : (o : Shape) (ts : List T) (rest : List Word) → IsChoice o → Is expansion o (map word ts) rest → is_keyword word if_keyword ts ≡ true
    choice_keyword (choice c t o) ts rest is i = keyword_begins word if_keyword ts i.0 i.3
    choice_keyword (choice_alone c t) ts rest is i = keyword_begins word if_keyword ts i.0 i.2
    choice_keyword other ts rest is i = absurd is

    choice_may : (o : Shape) (rest : List Word) → IsChoice o → May 0 o rest
    choice_may (choice c t o) rest is = record { binds = omega arith; stops = λ operator lo hi. absurd (omega arith) }
    choice_may (choice_alone c t) rest is = record { binds = omega arith; stops = λ operator lo hi. absurd (omega arith) }
    choice_may other rest is = absurd is

    otherwise_again : (o : Shape) → Reader o → (ts : List T) (rest : List Word) → IsBraced (Is expansion o) o (map word ts) rest ⊎ (IsChoice o × Is expansion o (map word ts) rest) → Reads (otherwise_at word expansion deeper ts) o rest
    unfolding otherwise_at
    otherwise_again o read ts rest (inl w) =
        let no_keyword = lacks_keyword word if_keyword ts (λ a b. clash BraceL Identifier (map word ts) w.0 a w.2 (if_keyword, b) refl) in
        let x = braces_again o read ts rest w in
        record { rest = x.rest; is = rw (no_keyword, x.is) refl; others = x.others }
    otherwise_again o read ts rest (inr w) =
        let x = read 0 ts rest w.1 (choice_may o rest w.0) in
        record { rest = x.rest; is = rw (choice_keyword o ts rest w.0 w.1, x.is) refl; others = x.others }

    named_first : (x : List ℕ) (ts : List T) (a : List Word) → Begins Identifier x (map word ts) a → (t : Taken word Identifier x ts a) → primary_at word expansion deeper ts ≡ named_at word expansion deeper x t.rest
    unfolding primary_at
    named_first x ts a b t =
        let no_string = other_accept word StringToken Identifier ts a (x, b) refl in
        let no_command = other_accept word Backtick Identifier ts a (x, b) refl in
        let no_format = other_accept word FormatStringStart Identifier ts a (x, b) refl in
        rw (no_string, no_command, no_format, t.accepts, t.says) refl

    choosing : (x : List ℕ) (ts : List T) → bytes_eq x if_keyword ≡ true → named_at word expansion deeper x ts ≡ choice_at word expansion deeper ts
    unfolding named_at
    choosing x ts h = rw h refl

    choice_first : (ts : List T) (a : List Word) → Begins Identifier if_keyword (map word ts) a → (t : Taken word Identifier if_keyword ts a) → primary_at word expansion deeper ts ≡ choice_at word expansion deeper t.rest
    choice_first ts a b t = named_first if_keyword ts a b t ∙ choosing if_keyword t.rest (text_itself if_keyword)

    choice_again : (c t o : Shape) → Reader c → Reader t → Reader o → Primary (choice c t o)
    unfolding choice_at
    choice_again c t o read_c read_t read_o ts rest i =
        let f = taken word Identifier if_keyword ts i.0 i.3 in
        let x = read_c 6 f.rest i.1 (rw f.others i.4) i.5 in
        let y = braces_again t read_t x.rest i.2 (rw x.others i.6) in
        let word_is : Begins Identifier else_keyword (map word y.rest) i.7.0 = rw y.others i.7.1 in
        let e = taken word Identifier else_keyword y.rest i.7.0 word_is in
        let z = otherwise_again o read_o e.rest rest (rw e.others i.7.2) in
        let keyword = keyword_begins word else_keyword y.rest i.7.0 word_is in
        carried (primary_at word expansion deeper ts) (choice_at word expansion deeper f.rest) (choice c t o) rest (choice_first ts i.0 i.3 f)
        (record { rest = z.rest; is = rw (x.is, y.is, keyword, e.expects, z.is) refl; others = z.others })

    choice_alone_again : (c t : Shape) → Reader c → Reader t → Primary (choice_alone c t)
    unfolding choice_at
    choice_alone_again c t read_c read_t ts rest i =
        let f = taken word Identifier if_keyword ts i.0 i.2 in
        let x = read_c 6 f.rest i.1 (rw f.others i.3) i.4 in
        let y = braces_again t read_t x.rest rest (rw x.others i.5) in
        let no_keyword = lacks_keyword word else_keyword y.rest (rw y.others i.6) in
        carried (primary_at word expansion deeper ts) (choice_at word expansion deeper f.rest) (choice_alone c t) rest (choice_first ts i.0 i.2 f)
        (record { rest = y.rest; is = rw (x.is, y.is, no_keyword) refl; others = y.others })

    -- ---- rows of expressions

    -- the expressions are read wherever they are spelled, up to a closing mark
    abbrev RowReader : Shapes → Type 0
    RowReader es = (n : ℕ) (close : TokenKind) (ts : List T) (rest : List Word) → can_start close ≡ false → is_kind close Comma ≡ false → AreAll expansion es close (map word ts) rest → length (map word ts) < n → Reads (elements_at word expansion deeper n close ts) es rest

    end_again : RowReader end
    unfolding elements_at
    end_again zero close ts rest no_start no_comma i fuel = absurd (omega arith)
    end_again (suc n) close ts rest no_start no_comma i fuel =
        let t = marked word close ts rest i in
        record { rest = t.rest; is = rw t.accepts refl; others = t.others }

    module _ (n : ℕ) (close : TokenKind) (ts : List T) (e : Shape) (a : List Word) (goes_on : accept word close ts ≡ None) (r : Reads (deeper 6 ts) e a) where
      elements_last : (rest : List Word) → is_kind close Comma ≡ false → Mark close a rest → Reads (elements_at word expansion deeper (suc n) close ts) (more e end) rest
      unfolding elements_at
      elements_last rest no_comma m =
          let here : Mark close (map word r.rest) rest = rw r.others m in
          let t = marked word close r.rest rest here in
          record { rest = t.rest; is = rw (goes_on, r.is, other_accept word Comma close r.rest rest here no_comma, t.expects) refl; others = t.others }

      elements_more : (es : Shapes) {text : List ℕ} (b rest : List Word) (t : Taken word Comma text r.rest b) → Reads (elements_at word expansion deeper n close t.rest) es rest → Reads (elements_at word expansion deeper (suc n) close ts) (more e es) rest
      unfolding elements_at
      elements_more es b rest t s = record { rest = s.rest; is = rw (goes_on, r.is, t.accepts, s.is) refl; others = s.others }

    row_again : (e : Shape) (es : Shapes) → Reader e → RowReader es → RowReader (more e es)
    row_again e es read others zero close ts rest no_start no_comma i fuel = absurd (omega arith)
    row_again e es read others (suc n) close ts rest no_start no_comma i fuel =
        let goes_on = lacks_accept word close ts (cannot e close (map word ts) (starts expansion e (map word ts) i.0 i.1) no_start) in
        let r = read 6 ts i.0 i.1 i.2 in
        elim i.3 [
          | inl w ↦
              let t = marked word Comma r.rest w.0 (rw r.others w.1) in
              let less = shorter expansion e (map word ts) i.0 i.1 in
              let mark = mark_shorter Comma i.0 w.0 w.1 in
              let left = ap length t.others in
              elements_more n close ts e i.0 goes_on r es w.0 rest t (others n close t.rest rest no_start no_comma (rw t.others w.2) (omega arith))
          | inr w ↦
              subst (λ (fs : Shapes). Reads (elements_at word expansion deeper (suc n) close ts) (more e fs) rest) (sym w.0) (elements_last n close ts e i.0 goes_on r rest no_comma w.1)
        ]

    -- ---- calls

    opening : (x : List ℕ) (ts : List T) (a : List Word) {text : List ℕ} → bytes_eq x if_keyword ≡ false → (t : Taken word ParenL text ts a) → named_at word expansion deeper x ts ≡ call_at word expansion deeper x t.rest
    unfolding named_at
    opening x ts a other t = rw (other, t.accepts) refl

    variable_again : (x : List ℕ) → Primary (variable x)
    unfolding named_at
    variable_again x ts rest i =
        let t = taken word Identifier x ts rest i.0 in
        let lacks = lacks_accept word ParenL t.rest (rw t.others i.2) in
        carried (primary_at word expansion deeper ts) (named_at word expansion deeper x t.rest) (variable x) rest (named_first x ts rest i.0 t)
        (record { rest = t.rest; is = rw (text_differs x if_keyword i.1, lacks) refl; others = t.others })

    call_again : (f : List ℕ) (es : Shapes) → RowReader es → Primary (call f es)
    unfolding call_at can_start
    call_again f es read ts rest i =
        let t = taken word Identifier f ts i.0 i.2 in
        let p = marked word ParenL t.rest i.1 (rw t.others i.5) in
        let s = read (suc (length p.rest)) ParenR p.rest rest refl refl (rw p.others i.6) (fuel_enough p.rest) in
        carried (primary_at word expansion deeper ts) (call_at word expansion deeper f p.rest) (call f es) rest (named_first f ts i.0 i.2 t ∙ opening f t.rest i.1 (text_differs f if_keyword i.3) p)
        (record { rest = s.rest; is = rw (text_differs f assert_keyword i.4, s.is) refl; others = s.others })

    closing_again : (ts : List T) (rest : List Word) → Closes ParenR (map word ts) rest → Ends (closing_at word ts) rest
    unfolding closing_at
    closing_again ts rest (inl m) =
        let q = marked word ParenR ts rest m in
        record { rest = q.rest; is = rw (other_accept word Comma ParenR ts rest m refl, q.expects) refl; others = q.others }
    closing_again ts rest (inr m) =
        let c = marked word Comma ts m.0 m.1 in
        let q = marked word ParenR c.rest rest (rw c.others m.2) in
        record { rest = q.rest; is = rw (c.accepts, q.expects) refl; others = q.others }

    message_again : (m : Shape) → Reader m → (ts : List T) (a rest : List Word) → Is expansion m (map word ts) a → May 6 m a → Closes ParenR a rest → Reads (message_at word expansion deeper ts) (Some m) rest
    unfolding message_at can_start
    message_again m read ts a rest i may closes =
        let goes_on = lacks_accept word ParenR ts (cannot m ParenR (map word ts) (starts expansion m (map word ts) a i) refl) in
        let x = read 6 ts a i may in
        let q = closing_again x.rest rest (rw x.others closes) in
        record { rest = q.rest; is = rw (goes_on, x.is, q.is) refl; others = q.others }

    asserting : (x : List ℕ) (ts : List T) → bytes_eq x assert_keyword ≡ true → call_at word expansion deeper x ts ≡ assertion_at word expansion deeper ts
    unfolding call_at
    asserting x ts h = rw h refl

    assertion_first : (ts : List T) (a b : List Word) → Begins Identifier assert_keyword (map word ts) a → (t : Taken word Identifier assert_keyword ts a) {text : List ℕ} (p : Taken word ParenL text t.rest b)
        → primary_at word expansion deeper ts ≡ assertion_at word expansion deeper p.rest
    assertion_first ts a b first t p =
        named_first assert_keyword ts a first t ∙ opening assert_keyword t.rest b (text_differs assert_keyword if_keyword assert_is_no_if) p ∙ asserting assert_keyword p.rest (text_itself assert_keyword)

    assertion_again : (c m : Shape) → Reader c → Reader m → Primary (assertion c m)
    unfolding assertion_at
    assertion_again c m read_c read_m ts rest i =
        let t = taken word Identifier assert_keyword ts i.0 i.5 in
        let p = marked word ParenL t.rest i.1 (rw t.others i.6) in
        let x = read_c 6 p.rest i.2 (rw p.others i.7) i.8 in
        let comma = marked word Comma x.rest i.3 (rw x.others i.9) in
        let y = message_again m read_m comma.rest i.4 rest (rw comma.others i.10) i.11 i.12 in
        carried (primary_at word expansion deeper ts) (assertion_at word expansion deeper p.rest) (assertion c m) rest (assertion_first ts i.0 i.1 i.5 t p)
        (record { rest = y.rest; is = rw (x.is, comma.accepts, y.is) refl; others = y.others })

    alone_again : (c : Shape) (ts : List T) (a rest : List Word) → Reads (deeper 6 ts) c a → Closes ParenR a rest → Reads (assertion_at word expansion deeper ts) (assertion_alone c) rest
    unfolding assertion_at message_at
    alone_again c ts a rest x (inl m) =
        let here : Mark ParenR (map word x.rest) rest = rw x.others m in
        let q = marked word ParenR x.rest rest here in
        record { rest = q.rest; is = rw (x.is, other_accept word Comma ParenR x.rest rest here refl, q.expects) refl; others = q.others }
    alone_again c ts a rest x (inr m) =
        let comma = marked word Comma x.rest m.0 (rw x.others m.1) in
        let q = marked word ParenR comma.rest rest (rw comma.others m.2) in
        record { rest = q.rest; is = rw (x.is, comma.accepts, q.accepts) refl; others = q.others }

    assertion_alone_again : (c : Shape) → Reader c → Primary (assertion_alone c)
    assertion_alone_again c read ts rest i =
        let t = taken word Identifier assert_keyword ts i.0 i.3 in
        let p = marked word ParenL t.rest i.1 (rw t.others i.4) in
        let x = read 6 p.rest i.2 (rw p.others i.5) i.6 in
        carried (primary_at word expansion deeper ts) (assertion_at word expansion deeper p.rest) (assertion_alone c) rest (assertion_first ts i.0 i.1 i.3 t p)
        (alone_again c p.rest i.2 rest x i.7)

    -- ---- brackets

    bracket_first : (kind : TokenKind) (ts : List T) (a : List Word) → Mark kind (map word ts) a → is_kind kind StringToken ≡ false → is_kind kind Backtick ≡ false → is_kind kind FormatStringStart ≡ false → is_kind kind Identifier ≡ false
        → primary_at word expansion deeper ts ≡ bracketed_at word expansion deeper ts
    unfolding primary_at
    bracket_first kind ts a m s b f x =
        rw (other_accept word StringToken kind ts a m s, other_accept word Backtick kind ts a m b, other_accept word FormatStringStart kind ts a m f, other_accept word Identifier kind ts a m x) refl

    group_again : (e : Shape) → Reader e → Primary (group e)
    unfolding bracketed_at
    group_again e read ts rest i =
        let p = marked word ParenL ts i.0 i.2 in
        let x = read 6 p.rest i.1 (rw p.others i.3) i.4 in
        let q = marked word ParenR x.rest rest (rw x.others i.5) in
        carried (primary_at word expansion deeper ts) (bracketed_at word expansion deeper ts) (group e) rest (bracket_first ParenL ts i.0 i.2 refl refl refl refl)
        (record { rest = q.rest; is = rw (p.accepts, x.is, q.expects) refl; others = q.others })

    listing_again : (es : Shapes) → RowReader es → Primary (listing es)
    unfolding bracketed_at can_start
    listing_again es read ts rest i =
        let p = marked word BracketL ts i.0 i.1 in
        let s = read (suc (length p.rest)) BracketR p.rest rest refl refl (rw p.others i.2) (fuel_enough p.rest) in
        carried (primary_at word expansion deeper ts) (bracketed_at word expansion deeper ts) (listing es) rest (bracket_first BracketL ts i.0 i.1 refl refl refl refl)
        (record { rest = s.rest; is = rw (other_accept word ParenL BracketL ts i.0 i.1 refl, p.expects, s.is) refl; others = s.others })

    -- ---- operators

    bang_at : (ts : List T) (a : List Word) {text : List ℕ} (t : Taken word Bang text ts a) → prefix_at word 1 ts ≡ Some ((t.token, bang), t.rest)
    unfolding prefix_at
    bang_at ts a t = rw t.accepts refl

    slash_at : (ts : List T) (a : List Word) {text : List ℕ} (t : Taken word Slash text ts a) → prefix_at word 2 ts ≡ Some ((t.token, slash), t.rest)
    unfolding prefix_at
    slash_at ts a t = rw t.accepts refl

    -- the expression is read at its own rank wherever it is spelled
    abbrev Operand : Shape → Type 0
    Operand e = (ts : List T) (rest : List Word) → Is expansion e (map word ts) rest → Reads (operand_at word expansion deeper (rank_of e) ts) e rest

    negation_again : (e : Shape) → Reader e → Operand (negation e)
    unfolding operand_at
    negation_again e read ts rest i =
        let t = marked word Bang ts i.0 i.1 in
        let x = read 1 t.rest rest (rw t.others i.2) i.3 in
        record { rest = x.rest; is = rw (bang_at ts i.0 t, x.is) refl; others = x.others }

    rooted_again : (e : Shape) → Reader e → Operand (rooted e)
    unfolding operand_at
    rooted_again e read ts rest i =
        let t = marked word Slash ts i.0 i.1 in
        let x = read 2 t.rest rest (rw t.others i.2) i.3 in
        record { rest = x.rest; is = rw (slash_at ts i.0 t, x.is) refl; others = x.others }

    binary_again : (operator : Binary) (l r : Shape) → Reader r → (ts : List T) (a b rest : List Word) → Starts l (map word ts) → rank_of l ≤ left_rank operator → Reads (operand_at word expansion deeper (left_rank operator) ts) l a
        → Mark (sign operator) a b → Is expansion r b rest → May (right_rank operator) r rest → Reads (operand_at word expansion deeper (suc (left_rank operator)) ts) (binary operator l r) rest
    unfolding operand_at
    binary_again operator l r read ts a b rest s binds left m i may =
        let o = operator_again word operator left.rest b (rw left.others m) in
        let is : operator_at word (suc (left_rank operator)) left.rest ≡ Some ((o.token, operator), o.rest) = rw (left_is operator) o.is in
        let x = read (right_rank operator) o.rest rest (rw o.others i) may in
        record { rest = x.rest; is = rw (no_prefix l (left_rank operator) ts s binds, left.is, is, x.is) refl; others = x.others }

  -- ---- from an operand's own rank to a looser one

  -- what is read inside, with so many levels left
  abbrev inner : ℕ → ℕ → List T → Read T Shape
  inner d = expression_at word expansion d

  abbrev ReadsAt : Shape → Type 0
  ReadsAt e = (d : ℕ) → depth e ≤ suc d → Operand (inner d) e

  climb : (e : Shape) (d : ℕ) (ts : List T) (rest : List Word) → Starts e (map word ts) → Reads (operand_at word expansion (inner d) (rank_of e) ts) e rest
      → (j : ℕ) → rank_of e ≤ j → ((operator : Binary) → rank_of e < rank operator → rank operator ≤ j → Lacks (sign operator) rest) → Reads (operand_at word expansion (inner d) j ts) e rest
  unfolding operand_at
  climb e d ts rest s own zero le stops = let z : rank_of e ≡ 0 = omega arith in subst (λ (k : ℕ). Reads (operand_at word expansion (inner d) k ts) e rest) z own
  climb e d ts rest s own (suc j) le stops =
      elim (cases_lt (rank_of e) (suc j)) [
        | inl w ↦
            let lower = climb e d ts rest s own j (omega arith) (λ operator lo hi. stops operator lo (omega arith)) in
            let lacks = lacks_operator word (suc j) lower.rest (λ operator same. rw lower.others (stops operator (omega arith) (omega arith))) in
            record { rest = lower.rest; is = rw (no_prefix e j ts s (omega arith), lower.is, lacks) refl; others = lower.others }
        | inr w ↦ let z : rank_of e ≡ suc j = omega arith in subst (λ (k : ℕ). Reads (operand_at word expansion (inner d) k ts) e rest) z own
      ]

  whole : (e : Shape) → ReadsAt e → (d : ℕ) → depth e ≤ d → Reader (inner d) e
  unfolding expression_at
  whole e own zero h k ts rest i m = absurd (omega (arith, depth_positive e))
  whole e own (suc d) h k ts rest i m = climb e d ts rest (starts expansion e (map word ts) rest i) (own d h ts rest i) k m.binds m.stops

  binary_reads : (operator : Binary) (l r : Shape) → ReadsAt l → (d : ℕ) → depth l ≤ suc d → Reader (inner d) r → Operand (inner d) (binary operator l r)
  binary_reads operator l r own d h read ts rest i =
      let s = starts expansion l (map word ts) i.0 i.2 in
      let left = climb l d ts i.0 s (own d h ts i.0 i.2) (left_rank operator) i.3.binds i.3.stops in
      rw (← left_is operator) (binary_again (inner d) operator l r read ts i.0 i.1 rest s i.3.binds left i.4 i.5 i.6)

  -- ---- each expression is read

  mutual
    unfolding operand_at

    reads : (e : Shape) → ReadsAt e
    reads (literal s) d h ts rest i = literal_again (inner d) s ts rest i
    reads (command s) d h ts rest i = command_again (inner d) s ts rest i
    reads (format s hs) d h ts rest i = format_again (inner d) s hs (reads_interpolations hs d (omega arith)) ts rest i
    reads (variable x) d h ts rest i = variable_again (inner d) x ts rest i
    reads (call f es) d h ts rest i = call_again (inner d) f es (reads_all es d (omega arith)) ts rest i
    reads (assertion c m) d h ts rest i = assertion_again (inner d) c m (whole c (reads c) d (omega arith)) (whole m (reads m) d (omega arith)) ts rest i
    reads (assertion_alone c) d h ts rest i = assertion_alone_again (inner d) c (whole c (reads c) d (omega arith)) ts rest i
    reads (group e) d h ts rest i = group_again (inner d) e (whole e (reads e) d (omega arith)) ts rest i
    reads (listing es) d h ts rest i = listing_again (inner d) es (reads_all es d (omega arith)) ts rest i
    reads (choice c t o) d h ts rest i = choice_again (inner d) c t o (whole c (reads c) d (omega arith)) (whole t (reads t) d (omega arith)) (whole o (reads o) d (omega arith)) ts rest i
    reads (choice_alone c t) d h ts rest i = choice_alone_again (inner d) c t (whole c (reads c) d (omega arith)) (whole t (reads t) d (omega arith)) ts rest i
    reads (negation e) d h ts rest i = negation_again (inner d) e (whole e (reads e) d (omega arith)) ts rest i
    reads (rooted e) d h ts rest i = rooted_again (inner d) e (whole e (reads e) d (omega arith)) ts rest i
    reads (binary operator l r) d h ts rest i = binary_reads operator l r (reads l) d (omega arith) (whole r (reads r) d (omega arith)) ts rest i

    reads_all : (es : Shapes) (d : ℕ) → depth_all es ≤ d → RowReader (inner d) es
    reads_all end d h = end_again (inner d)
    reads_all (more e es) d h = row_again (inner d) e es (whole e (reads e) d (omega arith)) (reads_all es d (omega arith))

    reads_interpolations : (hs : Interpolations) (d : ℕ) → depth_interpolations hs ≤ d → InterpolationReader (inner d) hs
    reads_interpolations closed d h = λ n kind ts rest there i fuel. absurd cc
    reads_interpolations (interpolation e part hs) d h = interpolations_again (inner d) e part hs (whole e (reads e) d (omega arith)) (reads_interpolations hs d (omega arith))

  pub again : (levels k : ℕ) (ts : List T) (rest : List Word) (e : Shape) → Derives expansion levels k (map word ts) e rest → Reads (expression_at word expansion levels k ts) e rest
  again levels k ts rest e h = whole e (reads e) levels h.fits k ts rest h.is h.may
