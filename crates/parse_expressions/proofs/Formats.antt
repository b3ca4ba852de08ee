-- A format string is its first part, and interpolations where that is open.
use Rattle.std.proofs.Common.{◌≡◌, ℕ, suc, Bool, true, false, List, [], length, Ok, refl, sym, ap, ◌∙◌, rules}
use Rattle.std.specs.Global.{Vec}
use Rattle.just_text.specs.Tokens.{word_of, lexeme}
use Rattle.just_text.specs.declared.token.Token.{Token}
use Rattle.tree_expressions.specs.declared.string_kind.StringKind.{StringKind}
use Rattle.tree_expressions.specs.declared.string_literal.StringLiteral.{StringLiteral}
use Rattle.tree_expressions.specs.Kinds.{kind_of}
use Rattle.tree_expressions.specs.Parts.{cooked_part}
use Rattle.tree_expressions.specs.declared.expression.Expression.{Expression, FormatString, the_lemmas}
use Rattle.tree_expressions.specs.Shape.{format, shape_of, interpolations_of, written}
use Rattle.parse_expressions.specs.declared.fault.Fault.{Fault}
use Rattle.parse_expressions.specs.declared.fault.Fault.TheVariants as faults
use Rattle.parse_expressions.specs.Literals.{Expansion, is_open}
use Rattle.parse_expressions.specs.Reading.{Fails, interpolations_at, format_at, taken_if, expression_at}

module _ (x : Expansion) (d : ℕ) (t : Token) (ts : List Token) (start : StringLiteral) (kind : StringKind) (same : kind ≡ kind_of (lexeme t))
    (read : taken_if word_of t (cooked_part kind (lexeme t)) ≡ Ok (written start)) (token : start.token ≡ t) where
  first_part : taken_if word_of t (cooked_part (kind_of (lexeme t)) (lexeme t)) ≡ Ok (written start)
  first_part = rw same at read

  kind_is : kind ≡ kind_of (written start)
  kind_is = same ∙ ap (λ (t : Token). kind_of (lexeme t)) (sym token)

  openness : (b : Bool) → is_open (lexeme t) ≡ b → is_open (written start) ≡ b
  openness b h = ap (λ (t : Token). is_open (lexeme t)) token ∙ h

  pub format_closed : (es : Vec (Expression × StringLiteral)) → is_open (lexeme t) ≡ false → es.items ≡ [] → format_at word_of x (expression_at word_of x d) t ts ≡ Ok (shape_of (FormatString start es), ts)
  unfolding format_at
  format_closed es ends none =
      let shape : shape_of (FormatString start es) ≡ format (written start) (interpolations_of es.items) = search (rules, the_lemmas) in
      let ends_so = openness false ends in
      rw (first_part, ends_so, shape, none) refl

  pub format_open : (es : Vec (Expression × StringLiteral)) (rest : List Token) → is_open (lexeme t) ≡ true → interpolations_at word_of x (expression_at word_of x d) (suc (length ts)) kind ts ≡ Ok (interpolations_of es.items, rest)
      → format_at word_of x (expression_at word_of x d) t ts ≡ Ok (shape_of (FormatString start es), rest)
  unfolding format_at
  format_open es rest goes others =
      let shape : shape_of (FormatString start es) ≡ format (written start) (interpolations_of es.items) = search (rules, the_lemmas) in
      let goes_so = openness true goes in
      let others_so = rw kind_is at others in
      rw (first_part, goes_so, others_so, shape) refl

  pub format_fails : is_open (lexeme t) ≡ true → (e : Fault) → Fails e (interpolations_at word_of x (expression_at word_of x d) (suc (length ts)) kind ts) → Fails e (format_at word_of x (expression_at word_of x d) t ts)
  unfolding format_at
  format_fails goes faults.OutOfMemory h = tt
  format_fails goes faults.NumbersUsed h = absurd h
  format_fails goes (faults.Unexpected found) h =
      let goes_so = openness true goes in
      let h_so = rw kind_is at h in rw (first_part, goes_so, h_so) refl
  format_fails goes (faults.Refused token why) h =
      let goes_so = openness true goes in
      let h_so = rw kind_is at h in rw (first_part, goes_so, h_so) refl
