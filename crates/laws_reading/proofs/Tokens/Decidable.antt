-- Whether a text has a fault for a reason can be told.
use Rattle.std.proofs.Common.{◌≡◌, ℕ, Bool, true, false, ◌==◌, ◌⊎◌, Option, Some, None, List, [], ◌∷◌, ◌++◌, IsUtf8, refl, sym, ap, ◌∙◌, subst, inl, inr, eqb-true}
use Rattle.std.specs.Prelude.{encode_utf8}
use Rattle.std.proofs.lemmas.Bool.{cases_Bool, eqb-false}
use Rattle.just_text.specs.Texts.{closing}
use Rattle.just_text.specs.declared.delimiter.Delimiter.{Delimiter}
use Rattle.just_text.specs.declared.delimiter.Delimiter.TheVariants as delimiters
use Rattle.just_text.specs.declared.compile_error.CompileErrorKind.{CompileErrorKind}
use Rattle.just_text.specs.declared.compile_error.CompileErrorKind.TheVariants as kinds
use Rattle.just_lexer.specs.declared.mode.Open.{Open}
use Rattle.just_lexer.specs.declared.mode.Open.TheVariants.{Bracket, Interpolation, FormatInterpolation}
use Rattle.just_lexer.specs.declared.mode.Line.{Line}
use Rattle.just_lexer.specs.declared.mode.Line.TheVariants.{Start, BodyStart}
use Rattle.just_lexer.specs.declared.position.Position.{Position}
use Rattle.just_lexer.specs.Modes.{Mode, innermost, is_over}
use Rattle.just_lexer.specs.Lexes.{pieces, Place, start}
use Rattle.just_lexer.specs.Lexed.{HasFault, Reason, IsUnknownStart, IsMismatched, IsMixedIndentation, IsOtherIndentation, IsAlone}
use Rattle.just_lexer.specs.Lexing.{kind_of}
use Rattle.just_lexer.proofs.OnLongest.{none_from_token}
use Rattle.just_lexer.proofs.Faults.{reason_from_token}
use Rattle.just_lexer.proofs.Loop.{all_lexed, faultless}
use Rattle.laws_reading.specs.Tokens.Laws.{FaultsAreDecidable, HasTokens, IsFaulty, TextsLex, Decidable}
use Rattle.laws_reading.proofs.Tokens.Walk.{IsStop, NoneFits, Way, way, one_stop}

-- ---- what can be told

pub and_told : {A B : Type 0} → Decidable A → Decidable B → Decidable (A × B)
and_told (inl a) (inl b) = inl (a, b)
and_told (inl a) (inr f) = inr (λ p. f p.1)
and_told (inr f) b = inr (λ p. f p.0)

pub or_told : {A B : Type 0} → Decidable A → Decidable B → Decidable (A ⊎ B)
or_told (inl a) b = inl (inl a)
or_told (inr f) (inl b) = inl (inr b)
or_told (inr f) (inr g) = inr (λ s. elim s [ inl a ↦ f a | inr b ↦ g b ])

pub not_told : {A : Type 0} → Decidable A → Decidable (A → ⊥)
not_told (inl a) = inr (λ f. f a)
not_told (inr f) = inl f

pub told_by : {A B : Type 0} → (A → B) → (B → A) → Decidable A → Decidable B
told_by f g (inl a) = inl (f a)
told_by f g (inr no_a) = inr (λ b. no_a (g b))

pub same_bool : (a b : Bool) → Decidable (a ≡ b)
same_bool true true = inl refl
same_bool false false = inl refl
same_bool true false = inr (λ e. cc)
same_bool false true = inr (λ e. cc)

pub same_number : (a b : ℕ) → Decidable (a ≡ b)
same_number a b = elim (cases_Bool (a == b)) [ inl e ↦ inl (eqb-true a b e) | inr e ↦ inr (eqb-false a b e) ]

pub same_text : (xs ys : List ℕ) → Decidable (xs ≡ ys)
same_text [] [] = inl refl
same_text [] (y ∷ ys) = inr (λ e. cc)
same_text (x ∷ xs) [] = inr (λ e. cc)
same_text (x ∷ xs) (y ∷ ys) = told_by (λ (p : (x ≡ y) × (xs ≡ ys)). cc (p.0, p.1)) (λ e. (cc e, cc e)) (and_told (same_number x y) (same_text xs ys))

abbrev Begins : List ℕ → List ℕ → Type 0
Begins front rest = (more : List ℕ) × (rest ≡ front ++ more)

begins_told : (front rest : List ℕ) → Decidable (Begins front rest)
begins_told [] rest = inl (rest, refl)
begins_told (x ∷ front) [] = inr (λ b. cc (b.1))
begins_told (x ∷ front) (y ∷ rest) =
    told_by (λ (p : (y ≡ x) × Begins front rest). (p.1.0, cc (p.0, p.1.1))) (λ b. (cc (b.1), (b.0, cc (b.1)))) (and_told (same_number y x) (begins_told front rest))

pub same_delimiter : (a b : Delimiter) → Decidable (a ≡ b)
same_delimiter delimiters.Brace delimiters.Brace = inl refl
same_delimiter delimiters.Bracket delimiters.Bracket = inl refl
same_delimiter delimiters.Paren delimiters.Paren = inl refl
same_delimiter _ _ = inr (λ e. cc)

bracket_told : (o : Option Open) (opener : Delimiter) → Decidable (o ≡ Some (Bracket opener))
bracket_told None opener = inr (λ e. cc)
bracket_told (Some (Bracket d)) opener = told_by (λ e. ap (λ x. Some (Bracket x)) e) (λ e. cc) (same_delimiter d opener)
bracket_told (Some Interpolation) opener = inr (λ e. cc)
bracket_told (Some (FormatInterpolation q around)) opener = inr (λ e. cc)

may_told : (line : Line) → Decidable (line ≡ Start true)
may_told (Start true) = inl refl
may_told (Start false) = inr (λ e. cc)
may_told _ = inr (λ e. cc)

module _ (mode : Mode) (rest : List ℕ) where
  other_told : (line : Line) → mode.line ≡ line → Decidable (IsOtherIndentation mode rest)
  other_told (BodyStart i) e =
      told_by
      (λ p. record { indentation = i; in_body = e; indented = p.0; other = p.1 })
      (λ (h : IsOtherIndentation mode rest). let same : h.indentation ≡ i = cc (sym h.in_body ∙ e) in (h.indented, rw (← same) (h.other)))
      (and_told (same_bool _ true) (same_bool _ false))
  other_told _ e = inr (λ h. cc (sym (h.in_body) ∙ e))

  unknown_told : (c : ℕ) → Decidable (IsUnknownStart c mode rest)
  unknown_told c =
      told_by
      (λ p. record { in_code = p.0; more = p.1.0.0; begins = p.1.0.1; unknown = p.1.1 })
      (λ h. (h.in_code, ((h.more, h.begins), h.unknown)))
      (and_told (same_bool _ true) (and_told (begins_told (encode_utf8 c) rest) (same_bool _ false)))

  alone_told : (c : ℕ) → Decidable (IsAlone c mode rest)
  alone_told c =
      told_by
      (λ p. record { in_code = p.0; mark = p.1.0; begins = p.1.1.0; alone = p.1.1.1 })
      (λ h. (h.in_code, (h.mark, (h.begins, h.alone))))
      (and_told (same_bool _ true) (and_told (or_told (same_number c 38) (same_number c 124)) (and_told (same_number _ c) (not_told (same_number _ c)))))

  mismatched_told : (opener closer : Delimiter) → Decidable (IsMismatched opener closer mode rest)
  mismatched_told opener closer =
      told_by
      (λ p. record { in_code = p.0; closes = p.1.0; opened = p.1.1.0; other = p.1.1.1 })
      (λ h. (h.in_code, (h.closes, (h.opened, h.other))))
      (and_told (same_bool _ true) (and_told (same_number _ (closing closer)) (and_told (bracket_told _ opener) (not_told (same_delimiter opener closer)))))

  mixed_told : Decidable (IsMixedIndentation mode rest)
  mixed_told =
      told_by
      (λ p. record { may_begin = p.0; indented = p.1.0; mixed = p.1.1 })
      (λ h. (h.may_begin, (h.indented, h.mixed)))
      (and_told (may_told mode.line) (and_told (same_bool _ true) (same_bool _ true)))

  -- whether a reason holds at a place
  pub reason_told : (kind : CompileErrorKind) → Decidable (Reason kind mode rest)
  reason_told (kinds.UnknownStartOfToken c) = unknown_told c
  reason_told (kinds.UnexpectedCharacter c) = alone_told c
  reason_told kinds.UnterminatedString = told_by (λ p. record { in_code = p.0; unclosed = p.1 }) (λ h. (h.in_code, h.unclosed)) (and_told (same_bool _ true) (same_bool _ true))
  reason_told kinds.UnterminatedBacktick =
      told_by (λ p. record { in_code = p.0; backtick = p.1.0; unclosed = p.1.1 }) (λ h. (h.in_code, (h.backtick, h.unclosed))) (and_told (same_bool _ true) (and_told (same_number _ 96) (same_bool _ true)))
  reason_told kinds.UnterminatedInterpolation =
      told_by (λ p. record { in_body = p.0; inside = p.1.0; ends = p.1.1 }) (λ h. (h.in_body, (h.inside, h.ends))) (and_told (same_bool _ true) (and_told (same_bool _ true) (same_bool _ true)))
  reason_told (kinds.InvalidEscapeSequence escape) =
      told_by (λ p. record { in_code = p.0; backslash = p.1.0; no_continuation = p.1.1.0; escaped = p.1.1.1 }) (λ h. (h.in_code, (h.backslash, (h.no_continuation, h.escaped))))
      (and_told (same_bool _ true) (and_told (same_number _ 92) (and_told (same_bool _ false) (same_text escape _))))
  reason_told (kinds.MismatchedClosingDelimiter opener closer) = mismatched_told opener closer
  reason_told (kinds.UnexpectedClosingDelimiter closer) =
      told_by (λ p. record { in_code = p.0; closes = p.1.0; none_open = p.1.1.0; no_end = p.1.1.1 }) (λ h. (h.in_code, (h.closes, (h.none_open, h.no_end))))
      (and_told (same_bool _ true) (and_told (same_number _ (closing closer)) (and_told (same_bool _ false) (same_bool _ false))))
  reason_told kinds.UnpairedCarriageReturn =
      told_by (λ p. record { in_code = p.0; carriage_return = p.1.0; unpaired = p.1.1 }) (λ h. (h.in_code, (h.carriage_return, h.unpaired))) (and_told (same_bool _ true) (and_told (same_number _ 13) (not_told (same_number _ 10))))
  reason_told kinds.MixedLeadingWhitespace = mixed_told
  reason_told kinds.InconsistentLeadingWhitespace = other_told mode.line refl
  reason_told _ = inr (λ h. h)

-- ---- texts

module _ (text : List ℕ) (utf8 : IsUtf8 text) where
  module _ (w : Way text) where
    has_tokens : is_over w.place.mode.line ≡ true → HasTokens text
    has_tokens over = record { tokens = w.tokens; lexed = all_lexed w.before over; borrowed = w.before.borrow }

    module _ (stop : IsStop w.place) where
      none_fits : NoneFits w.place
      none_fits = none_from_token w.place.mode.line (innermost w.place.mode.opened) w.place.rest stop.fault stop.on stop.found

      faulty : (kind : CompileErrorKind) → Reason kind w.place.mode w.place.rest → HasFault text kind w.place.at
      faulty kind reason = record { before = pieces w.tokens; each = w.before.each; place = w.place; reached = w.before.place; here = refl; none_fits = none_fits; reason = reason }

      this_place : (kind : CompileErrorKind) (at : Position) → (h : HasFault text kind at) → h.place ≡ w.place
      this_place kind at h =
          sym h.reached ∙ one_stop (start text) h.before (pieces w.tokens) h.each w.before.each (subst NoneFits (sym h.reached) h.none_fits) (subst NoneFits (sym w.before.place) none_fits) ∙ w.before.place

      stop_told : (kind : CompileErrorKind) → Decidable (IsFaulty text kind)
      stop_told kind =
          told_by
          (λ reason. (w.place.at, faulty kind reason))
          (λ f. subst (λ (p : Place). Reason kind p.mode p.rest) (this_place kind f.0 f.1) f.1.reason)
          (reason_told w.place.mode w.place.rest kind)

      has_fault : (kind : CompileErrorKind) × IsFaulty text kind
      has_fault = (kind_of stop.fault w.place.rest, (w.place.at, faulty _ (reason_from_token w.place.mode w.place.rest stop.fault w.before.utf8 stop.on stop.found)))

pub texts_lex : TextsLex
texts_lex text utf8 =
    let w = way text utf8 in
    elim w.ends [
      | inl over ↦ inl (has_tokens text utf8 w over)
      | inr stop ↦ inr (has_fault text utf8 w stop)
    ]

pub faults_are_decidable : FaultsAreDecidable
faults_are_decidable text utf8 kind =
    let w = way text utf8 in
    elim w.ends [
      | inl over ↦ inr (λ f. let t = has_tokens text utf8 w over in faultless text (pieces t.tokens) kind f.0 t.lexed f.1)
      | inr stop ↦ stop_told text utf8 w stop kind
    ]
