-- Whether two reasons of a refusal are the same can be told.
use Rattle.std.proofs.Common.{◌≡◌, true, refl, ap, inl, inr}
use Rattle.just_text.specs.declared.compile_error.CompileErrorKind.{CompileErrorKind}
use Rattle.just_text.specs.declared.compile_error.CompileErrorKind.TheVariants as kinds
use Rattle.just_text.specs.declared.token_kind.TokenKind.{TokenKind}
use Rattle.std.proofs.lemmas.Bool.{cases_Bool}
use Rattle.parse_expressions.specs.Words.{is_kind}
use Rattle.parse_expressions.proofs.Taken.{is_kind-same, is_kind-itself}
use Rattle.laws_reading.specs.Tokens.Laws.{Decidable}
use Rattle.laws_reading.proofs.Tokens.Decidable.{and_told, same_number, same_text, same_delimiter, told_by}

same_token_kind : (a b : TokenKind) → Decidable (a ≡ b)
same_token_kind a b =
    elim (cases_Bool (is_kind a b)) [
      | inl e ↦ inl (is_kind-same a b e)
      | inr e ↦ inr (λ same. let t : is_kind a b ≡ true = rw same (is_kind-itself b) in cc (t, e))
    ]

pub kinds_are_told : (a b : CompileErrorKind) → Decidable (a ≡ b)
kinds_are_told kinds.OutOfMemory kinds.OutOfMemory = inl refl
kinds_are_told kinds.NumbersUsed kinds.NumbersUsed = inl refl
kinds_are_told (kinds.UnknownStartOfToken a) (kinds.UnknownStartOfToken b) = told_by (λ e. ap (λ x. kinds.UnknownStartOfToken x) e) (λ e. cc) (same_number a b)
kinds_are_told (kinds.UnexpectedCharacter a) (kinds.UnexpectedCharacter b) = told_by (λ e. ap (λ x. kinds.UnexpectedCharacter x) e) (λ e. cc) (same_number a b)
kinds_are_told kinds.UnterminatedString kinds.UnterminatedString = inl refl
kinds_are_told kinds.UnterminatedBacktick kinds.UnterminatedBacktick = inl refl
kinds_are_told kinds.UnterminatedInterpolation kinds.UnterminatedInterpolation = inl refl
kinds_are_told (kinds.InvalidEscapeSequence a) (kinds.InvalidEscapeSequence b) = told_by (λ e. ap (λ x. kinds.InvalidEscapeSequence x) e) (λ e. cc) (same_text a b)
kinds_are_told (kinds.MismatchedClosingDelimiter a c) (kinds.MismatchedClosingDelimiter b d) = told_by (λ (p : (a ≡ b) × (c ≡ d)). λ i. kinds.MismatchedClosingDelimiter (p.0 i) (p.1 i)) (λ e. (cc e, cc e)) (and_told (same_delimiter a b) (same_delimiter c d))
kinds_are_told (kinds.UnexpectedClosingDelimiter a) (kinds.UnexpectedClosingDelimiter b) = told_by (λ e. ap (λ x. kinds.UnexpectedClosingDelimiter x) e) (λ e. cc) (same_delimiter a b)
kinds_are_told (kinds.ShellExpansion a) (kinds.ShellExpansion b) = told_by (λ e. ap (λ x. kinds.ShellExpansion x) e) (λ e. cc) (same_text a b)
kinds_are_told kinds.UnpairedCarriageReturn kinds.UnpairedCarriageReturn = inl refl
kinds_are_told kinds.MixedLeadingWhitespace kinds.MixedLeadingWhitespace = inl refl
kinds_are_told kinds.InconsistentLeadingWhitespace kinds.InconsistentLeadingWhitespace = inl refl
kinds_are_told kinds.ExtraLeadingWhitespace kinds.ExtraLeadingWhitespace = inl refl
kinds_are_told (kinds.UnexpectedToken a) (kinds.UnexpectedToken b) = told_by (λ e. ap (λ x. kinds.UnexpectedToken x) e) (λ e. cc) (same_token_kind a b)
kinds_are_told kinds.ParsingRecursionDepthExceeded kinds.ParsingRecursionDepthExceeded = inl refl
kinds_are_told kinds.BacktickShebang kinds.BacktickShebang = inl refl
kinds_are_told (kinds.UnknownSetting a) (kinds.UnknownSetting b) = told_by (λ e. ap (λ x. kinds.UnknownSetting x) e) (λ e. cc) (same_text a b)
kinds_are_told (kinds.UnknownAttribute a) (kinds.UnknownAttribute b) = told_by (λ e. ap (λ x. kinds.UnknownAttribute x) e) (λ e. cc) (same_text a b)
kinds_are_told (kinds.AttributeArgumentCount a c) (kinds.AttributeArgumentCount b d) = told_by (λ (p : (a ≡ b) × (c ≡ d)). λ i. kinds.AttributeArgumentCount (p.0 i) (p.1 i)) (λ e. (cc e, cc e)) (and_told (same_text a b) (same_number c d))
kinds_are_told (kinds.InvalidAttribute a c) (kinds.InvalidAttribute b d) = told_by (λ (p : (a ≡ b) × (c ≡ d)). λ i. kinds.InvalidAttribute (p.0 i) (p.1 i)) (λ e. (cc e, cc e)) (and_told (same_text a b) (same_text c d))
kinds_are_told (kinds.DuplicateAttribute a) (kinds.DuplicateAttribute b) = told_by (λ e. ap (λ x. kinds.DuplicateAttribute x) e) (λ e. cc) (same_text a b)
kinds_are_told (kinds.DuplicateParameter a) (kinds.DuplicateParameter b) = told_by (λ e. ap (λ x. kinds.DuplicateParameter x) e) (λ e. cc) (same_text a b)
kinds_are_told (kinds.ParameterFollowsVariadic a) (kinds.ParameterFollowsVariadic b) = told_by (λ e. ap (λ x. kinds.ParameterFollowsVariadic x) e) (λ e. cc) (same_text a b)
kinds_are_told (kinds.RequiredParameterFollowsDefault a) (kinds.RequiredParameterFollowsDefault b) = told_by (λ e. ap (λ x. kinds.RequiredParameterFollowsDefault x) e) (λ e. cc) (same_text a b)
kinds_are_told (kinds.MinimumVersion a c) (kinds.MinimumVersion b d) = told_by (λ (p : (a ≡ b) × (c ≡ d)). λ i. kinds.MinimumVersion (p.0 i) (p.1 i)) (λ e. (cc e, cc e)) (and_told (same_text a b) (same_text c d))
kinds_are_told kinds.GuardAndInfallible kinds.GuardAndInfallible = inl refl
kinds_are_told kinds.TwoStars kinds.TwoStars = inl refl
kinds_are_told (kinds.InvalidSetting a c) (kinds.InvalidSetting b d) = told_by (λ (p : (a ≡ b) × (c ≡ d)). λ i. kinds.InvalidSetting (p.0 i) (p.1 i)) (λ e. (cc e, cc e)) (and_told (same_text a b) (same_text c d))
kinds_are_told _ _ = inr (λ e. cc)
