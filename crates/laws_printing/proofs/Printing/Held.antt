-- Expressions of a text are written of its tokens.
use Rattle.std.proofs.Common.{◌≡◌, ℕ, Bool, true, false, ◌&&◌, List, [], ◌∷◌, ◌++◌, length, drop, Some, None, refl, subst, ◌∙◌, inl, inr, ◌⊎◌, append-nil}
use Rattle.std.specs.Prelude.{not, ◌==◌}
use Rattle.just_text.specs.Tokens.{Word}
use Rattle.just_text.specs.declared.delimiter.Delimiter.TheVariants.{Brace, Bracket, Paren}
use Rattle.just_text.specs.declared.token_kind.TokenKind.{TokenKind}
use Rattle.just_text.specs.declared.token_kind.TokenKind.TheVariants.{Backtick, Dedent, Eol, Indent, BraceL, BraceR, BracketL, BracketR, Comma, FormatStringContinue, FormatStringEnd, FormatStringStart, Identifier, InterpolationEnd, InterpolationStart, ParenL, ParenR, StringToken}
use Rattle.just_lexer.specs.declared.quotes.Quotes.{Quotes}
use Rattle.just_lexer.specs.declared.mode.Open.{Open}
use Rattle.just_lexer.specs.declared.mode.Open.TheVariants.{Bracket as BracketOpen, FormatInterpolation, Interpolation}
use Rattle.just_lexer.specs.Modes.{innermost, in_brackets, open_after, closed as popped}
use Rattle.just_lexer.specs.Strings.{quotes_at, ends_in_format_interpolation}
use Rattle.tree_expressions.specs.Operators.{Binary, disjunction, conjunction, comparison, appending, concatenation, joining}
use Rattle.tree_expressions.specs.declared.operator.ConditionalOperator.TheVariants.{Equality, Inequality, RegexMatch, RegexMismatch}
use Rattle.tree_expressions.specs.declared.string_kind.StringKind.{StringKind}
use Rattle.tree_expressions.specs.Kinds.{kind_of}
use Rattle.tree_expressions.specs.Shape.{Shape, Shapes, Interpolations, literal, command, format, variable, call, assertion, assertion_alone, group, listing, choice, choice_alone, negation, rooted, binary, end, more, closed, interpolation}
use Rattle.parse_expressions.specs.Words.{Mark, Begins, if_keyword, else_keyword, assert_keyword}
use Rattle.parse_expressions.specs.Operators.{sign}
use Rattle.parse_expressions.specs.Literals.{Expansion}
use Rattle.parse_expressions.specs.Grammar.{Closes, IsBraced, IsChoice, Is, AreAll, AreInterpolations, has_interpolations}
use Rattle.justfile_syntax.specs.Fits.{is_lexeme}
use Rattle.justfile_syntax.specs.Lexemes.{is_anywhere}
use Rattle.justfile_syntax.specs.InCode.{is_plain}
use Rattle.justfile_syntax.proofs.InCode.{innermost_push, pop_push, plain_opens_nothing}
use Rattle.justfile_syntax.proofs.Lexemes.{lexemes_anywhere, parts_anywhere}
use Rattle.laws_printing.specs.Printing.Lexed.{is_written, are_written, are_parts_written}
use Rattle.laws_printing.specs.Printing.Words.{word}
use Rattle.laws_printing.specs.Printing.Held.{is_lexed}
use Rattle.laws_printing.proofs.Printing.Formats.{formats_stop}

both : (a b : Bool) → a ≡ true → b ≡ true → a && b ≡ true
both true b p q = q
both false b p q = cc

-- neither the end of a line nor the beginning or the end of an indentation
abbrev pub stays : TokenKind → Bool
stays Dedent = false
stays Eol = false
stays Indent = false
stays k = true

plain_stays : (k : TokenKind) → is_plain k ≡ true → stays k ≡ true
plain_stays Dedent h = absurd cc
plain_stays Eol h = absurd cc
plain_stays Indent h = absurd cc
plain_stays k h = refl

pub Opens : TokenKind → Open → Type 0
Opens kind o = (stays kind ≡ true) × ((opened : List Open) (text : List ℕ) → open_after opened kind text ≡ opened ++ o ∷ [])

pub Closed : TokenKind → Type 0
Closed kind = (stays kind ≡ true) × ((opened : List Open) (text : List ℕ) → open_after opened kind text ≡ popped opened)

pub paren_opens : Opens ParenL (BracketOpen Paren)
unfolding open_after Opens
paren_opens = (refl, λ opened text. refl)

pub bracket_opens : Opens BracketL (BracketOpen Bracket)
unfolding open_after Opens
bracket_opens = (refl, λ opened text. refl)

brace_opens : Opens BraceL (BracketOpen Brace)
unfolding open_after Opens
brace_opens = (refl, λ opened text. refl)

pub paren_closes : Closed ParenR
unfolding open_after Closed
paren_closes = (refl, λ opened text. refl)

pub bracket_closes : Closed BracketR
unfolding open_after Closed
bracket_closes = (refl, λ opened text. refl)

brace_closes : Closed BraceR
unfolding open_after Closed
brace_closes = (refl, λ opened text. refl)

pub braces_open : Opens InterpolationStart Interpolation
unfolding open_after Opens
braces_open = (refl, λ opened text. refl)

pub braces_close : Closed InterpolationEnd
unfolding open_after Closed
braces_close = (refl, λ opened text. refl)

end_closes : Closed FormatStringEnd
unfolding open_after Closed
end_closes = (refl, λ opened text. refl)

sign_plain : (operator : Binary) → is_plain (sign operator) ≡ true
sign_plain disjunction = refl
sign_plain conjunction = refl
sign_plain (comparison Equality) = refl
sign_plain (comparison Inequality) = refl
sign_plain (comparison RegexMatch) = refl
sign_plain (comparison RegexMismatch) = refl
sign_plain appending = refl
sign_plain concatenation = refl
sign_plain joining = refl

format_opens : (opened : List Open) (s : List ℕ) → ends_in_format_interpolation (length s) s ≡ true → open_after opened FormatStringStart s ≡ opened ++ FormatInterpolation (quotes_at (drop 1 s)) (in_brackets (innermost opened)) ∷ []
unfolding open_after
format_opens opened s e = rw e refl

format_stays : (opened : List Open) (s : List ℕ) → ends_in_format_interpolation (length s) s ≡ false → open_after opened FormatStringStart s ≡ opened
unfolding open_after
format_stays opened s e = rw e (append-nil opened)

-- words by what is open: each but those leads to what is open after it, and is one token by itself
module _ (H : List Open → List Word → Type 0)
    (step : (opened : List Open) (w : Word) (ws : List Word) → H opened (w ∷ ws) → stays w.kind ≡ true → (is_lexed w.kind ≡ true → is_lexeme (innermost opened) w.kind w.text ≡ true) × H (open_after opened w.kind w.text) ws) where
  -- after a word that opens and closes nothing
  pub past : (opened : List Open) (kind : TokenKind) (text : List ℕ) (words rest : List Word) → is_plain kind ≡ true → Begins kind text words rest → H opened words → H opened rest
  past opened kind text words rest p b h = subst (λ os. H os rest) (plain_opens_nothing opened kind text p) (step opened (word kind text) rest (subst (H opened) b h) (plain_stays kind p)).1

  pub past_mark : (opened : List Open) (kind : TokenKind) (words rest : List Word) → is_plain kind ≡ true → Mark kind words rest → H opened words → H opened rest
  past_mark opened kind words rest p m h = past opened kind m.0 words rest p m.1 h

  -- after a word that is a token wherever it stands
  pub is_one : (opened : List Open) (kind : TokenKind) (text : List ℕ) (words rest : List Word) → is_lexed kind ≡ true → stays kind ≡ true → is_anywhere kind ≡ true → Begins kind text words rest → H opened words → is_lexeme None kind text ≡ true
  is_one opened kind text words rest t s a b h = lexemes_anywhere (innermost opened) None kind text a ((step opened (word kind text) rest (subst (H opened) b h) s).0 t)

  pub into : (opened : List Open) (kind : TokenKind) (o : Open) (words rest : List Word) → Opens kind o → Mark kind words rest → H opened words → H (opened ++ o ∷ []) rest
  unfolding Opens
  into opened kind o words rest opens m h = subst (λ os. H os rest) (opens.1 opened m.0) (step opened (word kind m.0) rest (subst (H opened) m.1 h) opens.0).1

  pub out_of : (opened : List Open) (kind : TokenKind) (o : Open) (words rest : List Word) → Closed kind → Mark kind words rest → H (opened ++ o ∷ []) words → H opened rest
  unfolding Closed
  out_of opened kind o words rest closes m h = subst (λ os. H os rest) (closes.1 (opened ++ o ∷ []) m.0 ∙ pop_push opened o) (step (opened ++ o ∷ []) (word kind m.0) rest (subst (H (opened ++ o ∷ [])) m.1 h) closes.0).1

  pub closes_after : (opened : List Open) (kind : TokenKind) (o : Open) (words rest : List Word) → Closed kind → Closes kind words rest → H (opened ++ o ∷ []) words → H opened rest
  closes_after opened kind o words rest c (inl m) h = out_of opened kind o words rest c m h
  closes_after opened kind o words rest c (inr m) h = out_of opened kind o m.0 rest c m.2 (past_mark (opened ++ o ∷ []) Comma words m.0 refl m.1 h)

  pub part_is : (opened : List Open) (o : Open) (kind : TokenKind) (part : List ℕ) (words rest : List Word) → is_lexed kind ≡ true → stays kind ≡ true → Begins kind part words rest → H (opened ++ o ∷ []) words → is_lexeme (Some o) kind part ≡ true
  part_is opened o kind part words rest t s b h = subst (λ inner. is_lexeme inner kind part ≡ true) (innermost_push opened o) ((step (opened ++ o ∷ []) (word kind part) rest (subst (H (opened ++ o ∷ [])) b h) s).0 t)

  module _ (expansion : Expansion) where
    abbrev Found : Shape → List Open → List Word → Type 0
    Found e opened rest = H opened rest × (is_written e ≡ true)

    abbrev Finds : Shape → Type 0
    Finds e = (words rest : List Word) (opened : List Open) → Is expansion e words rest → H opened words → Found e opened rest

    braced : (e : Shape) (words rest : List Word) (opened : List Open) → Finds e → IsBraced (Is expansion e) e words rest → H opened words → Found e opened rest
    braced e words rest opened find i h =
        let r = find i.0 i.1 (opened ++ BracketOpen Brace ∷ []) i.3 (into opened BraceL (BracketOpen Brace) words i.0 brace_opens i.2 h) in
        (out_of opened BraceR (BracketOpen Brace) i.1 rest brace_closes i.5 r.0, r.1)

    other : (o : Shape) (words rest : List Word) (opened : List Open) → Finds o → (IsBraced (Is expansion o) o words rest ⊎ (IsChoice o × Is expansion o words rest)) → H opened words → Found o opened rest
    other o words rest opened find (inl i) h = braced o words rest opened find i h
    other o words rest opened find (inr i) h = find words rest opened i.1 h

    mutual
      pub held : (e : Shape) (words rest : List Word) (opened : List Open) → Is expansion e words rest → H opened words → Found e opened rest
      held (literal s) words rest opened i h = (past opened StringToken s words rest refl i.0 h, is_one opened StringToken s words rest refl refl refl i.0 h)
      held (command s) words rest opened i h = (past opened Backtick s words rest refl i.0 h, is_one opened Backtick s words rest refl refl refl i.0 h)
      held (format s closed) words rest opened i h =
          let is = is_one opened FormatStringStart s words i.0 refl refl refl i.1 h in
          let none = formats_stop.stops s is ∙ i.3 in
          let there : H opened i.0 = subst (λ os. H os i.0) (format_stays opened s none) (step opened (word FormatStringStart s) i.0 (subst (H opened) i.1 h) refl).1 in
          (subst (H opened) i.4 there, both (is_lexeme None FormatStringStart s) (not (ends_in_format_interpolation (length s) s)) is (rw none refl))
      held (format s (interpolation e part hs)) words rest opened i h =
          let is = is_one opened FormatStringStart s words i.0 refl refl refl i.1 h in
          let one = formats_stop.stops s is ∙ i.3 in
          let long = formats_stop.long s is i.3 in
          let there : H (opened ++ FormatInterpolation (quotes_at (drop 1 s)) (in_brackets (innermost opened)) ∷ []) i.0 = subst (λ os. H os i.0) (format_opens opened s one) (step opened (word FormatStringStart s) i.0 (subst (H opened) i.1 h) refl).1 in
          let r = inside (kind_of s) (quotes_at (drop 1 s)) (in_brackets (innermost opened)) (interpolation e part hs) refl i.0 rest opened i.4 there in (
            r.0,
            both (is_lexeme None FormatStringStart s && ends_in_format_interpolation (length s) s && not (length s == 3)) (are_parts_written (quotes_at (drop 1 s)) (interpolation e part hs))
                (both (is_lexeme None FormatStringStart s && ends_in_format_interpolation (length s) s) (not (length s == 3)) (both (is_lexeme None FormatStringStart s) (ends_in_format_interpolation (length s) s) is one) (rw long refl)) r.1,
          )
      held (variable x) words rest opened i h = (past opened Identifier x words rest refl i.0 h, is_one opened Identifier x words rest refl refl refl i.0 h)
      held (call f es) words rest opened i h =
          let r = all es ParenR (BracketOpen Paren) paren_closes i.1 rest opened i.6 (into opened ParenL (BracketOpen Paren) i.0 i.1 paren_opens i.5 (past opened Identifier f words i.0 refl i.2 h)) in
          (r.0, both (is_lexeme None Identifier f) (are_written es) (is_one opened Identifier f words i.0 refl refl refl i.2 h) r.1)
      held (assertion c m) words rest opened i h =
          let inner = opened ++ BracketOpen Paren ∷ [] in
          let rc = held c i.1 i.2 inner i.7 (into opened ParenL (BracketOpen Paren) i.0 i.1 paren_opens i.6 (past opened Identifier assert_keyword words i.0 refl i.5 h)) in
          let rm = held m i.3 i.4 inner i.10 (past_mark inner Comma i.2 i.3 refl i.9 rc.0) in
          (closes_after opened ParenR (BracketOpen Paren) i.4 rest paren_closes i.12 rm.0, both (is_written c) (is_written m) rc.1 rm.1)
      held (assertion_alone c) words rest opened i h =
          let inner = opened ++ BracketOpen Paren ∷ [] in
          let rc = held c i.1 i.2 inner i.5 (into opened ParenL (BracketOpen Paren) i.0 i.1 paren_opens i.4 (past opened Identifier assert_keyword words i.0 refl i.3 h)) in
          (closes_after opened ParenR (BracketOpen Paren) i.2 rest paren_closes i.7 rc.0, rc.1)
      held (group e) words rest opened i h =
          let r = held e i.0 i.1 (opened ++ BracketOpen Paren ∷ []) i.3 (into opened ParenL (BracketOpen Paren) words i.0 paren_opens i.2 h) in
          (out_of opened ParenR (BracketOpen Paren) i.1 rest paren_closes i.5 r.0, r.1)
      held (listing es) words rest opened i h = all es BracketR (BracketOpen Bracket) bracket_closes i.0 rest opened i.2 (into opened BracketL (BracketOpen Bracket) words i.0 bracket_opens i.1 h)
      held (choice c t o) words rest opened i h =
          let rc = held c i.0 i.1 opened i.4 (past opened Identifier if_keyword words i.0 refl i.3 h) in
          let rt = braced t i.1 i.2 opened (λ ws r os is k. held t ws r os is k) i.6 rc.0 in
          let ro = other o i.7.0 rest opened (λ ws r os is k. held o ws r os is k) i.7.2 (past opened Identifier else_keyword i.2 i.7.0 refl i.7.1 rt.0) in
          (ro.0, both (is_written c && is_written t) (is_written o) (both (is_written c) (is_written t) rc.1 rt.1) ro.1)
      held (choice_alone c t) words rest opened i h =
          let rc = held c i.0 i.1 opened i.3 (past opened Identifier if_keyword words i.0 refl i.2 h) in
          let rt = braced t i.1 rest opened (λ ws r os is k. held t ws r os is k) i.5 rc.0 in
          (rt.0, both (is_written c) (is_written t) rc.1 rt.1)
      held (negation e) words rest opened i h = held e i.0 rest opened i.2 (past_mark opened Rattle.just_text.specs.declared.token_kind.TokenKind.TheVariants.Bang words i.0 refl i.1 h)
      held (rooted e) words rest opened i h = held e i.0 rest opened i.2 (past_mark opened Rattle.just_text.specs.declared.token_kind.TokenKind.TheVariants.Slash words i.0 refl i.1 h)
      held (binary operator l r) words rest opened i h =
          let a = held l words i.0 opened i.2 h in
          let b = held r i.1 rest opened i.5 (past_mark opened (sign operator) i.0 i.1 (sign_plain operator) i.4 a.0) in
          (b.0, both (is_written l) (is_written r) a.1 b.1)

      all : (es : Shapes) (close : TokenKind) (o : Open) → Closed close → (words rest : List Word) (opened : List Open) → AreAll expansion es close words rest → H (opened ++ o ∷ []) words → H opened rest × (are_written es ≡ true)
      all end close o c words rest opened i h = (out_of opened close o words rest c i h, refl)
      all (more e es) close o c words rest opened i h =
          let r = held e words i.0 (opened ++ o ∷ []) i.1 h in
          let rs = others es close o c i.0 rest opened i.3 r.0 in
          (rs.0, both (is_written e) (are_written es) r.1 rs.1)

      others : (es : Shapes) (close : TokenKind) (o : Open) → Closed close → (before rest : List Word) (opened : List Open) → (((b : List Word) × Mark Comma before b × AreAll expansion es close b rest) ⊎ ((es ≡ end) × Mark close before rest))
          → H (opened ++ o ∷ []) before → H opened rest × (are_written es ≡ true)
      others es close o c before rest opened (inr i) h = (out_of opened close o before rest c i.1 h, rw i.0 refl)
      others end close o c before rest opened (inl i) h = (out_of opened close o i.0 rest c i.2 (past_mark (opened ++ o ∷ []) Comma before i.0 refl i.1 h), refl)
      others (more e es) close o c before rest opened (inl i) h =
          let r = held e i.0 i.2.0 (opened ++ o ∷ []) i.2.1 (past_mark (opened ++ o ∷ []) Comma before i.0 refl i.1 h) in
          let rs = others es close o c i.2.0 rest opened i.2.3 r.0 in
          (rs.0, both (is_written e) (are_written es) r.1 rs.1)

      inside : (kind : StringKind) (q : Quotes) (around : Bool) (hs : Interpolations) → has_interpolations hs ≡ true → (words rest : List Word) (opened : List Open) → AreInterpolations expansion kind hs words rest → H (opened ++ FormatInterpolation q around ∷ []) words
          → H opened rest × (are_parts_written q hs ≡ true)
      inside kind q around closed some words rest opened i h = absurd cc
      inside kind q around (interpolation e part closed) some words rest opened i h =
          let o = FormatInterpolation q around in
          let r = held e words i.0 (opened ++ o ∷ []) i.2 h in
          let is = part_is (opened) o FormatStringEnd part i.0 i.1 refl refl i.4 r.0 in (
            subst (H opened) i.6 (out_of opened FormatStringEnd o i.0 i.1 end_closes (part, i.4) r.0),
            both (is_written e && is_lexeme (Some (FormatInterpolation q false)) FormatStringEnd part) true (both (is_written e) (is_lexeme (Some (FormatInterpolation q false)) FormatStringEnd part) r.1 (parts_anywhere q around false FormatStringEnd part refl is)) refl,
          )
      inside kind q around (interpolation e part (interpolation f next hs)) some words rest opened i h =
          let o = FormatInterpolation q around in
          let r = held e words i.0 (opened ++ o ∷ []) i.2 h in
          let is = part_is (opened) o FormatStringContinue part i.0 i.1 refl refl i.4 r.0 in
          let rs = inside kind q around (interpolation f next hs) refl i.1 rest opened i.6 (past (opened ++ o ∷ []) FormatStringContinue part i.0 i.1 refl i.4 r.0) in
          (rs.0, both (is_written e && is_lexeme (Some (FormatInterpolation q false)) FormatStringContinue part) (are_parts_written q (interpolation f next hs)) (both (is_written e) (is_lexeme (Some (FormatInterpolation q false)) FormatStringContinue part) r.1 (parts_anywhere q around false FormatStringContinue part refl is)) rs.1)
