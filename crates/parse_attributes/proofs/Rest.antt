-- How many words are left after what is spelled: items in a row and what stands around them take words.
use Rattle.std.proofs.Common.{◌<◌, ◌≤◌, ℕ, List, [], ◌∷◌, length, Option, Some, None, arith, inl, inr}
use Rattle.just_text.specs.Tokens.{Word}
use Rattle.just_text.specs.declared.token_kind.TokenKind.{TokenKind}
use Rattle.just_text.specs.declared.token_kind.TokenKind.TheVariants.{BracketL, BracketR, Colon, Comma, Comment, Eol, Equals, Identifier, ParenL, ParenR, StringToken}
use Rattle.tree_attributes.specs.Attributes.{AttributeShape, kind_name}
use Rattle.tree_expressions.specs.Shape.{Shape}
use Rattle.tree_attributes.specs.Forms.{form_of}
use Rattle.parse_expressions.specs.Words.{is_kind, Begins, Mark}
use Rattle.parse_expressions.specs.Literals.{Expansion}
use Rattle.parse_expressions.specs.Strings.{IsAside, IsExpression, IsString}
use Rattle.parse_expressions.proofs.Starts.{shorter}
use Rattle.parse_attributes.specs.Rows.{Follow, IfGiven}
use Rattle.parse_expressions.specs.Rows.{IsComma}
use Rattle.parse_attributes.specs.Options.{OptionShape, flag, multiple, long, help, max, min, short, value}
use Rattle.parse_attributes.specs.Arguments.{Sort, of_strings, of_expressions, of_parameter, sort_of, Arguments, nothing, strings, expressions, parameter}
use Rattle.parse_attributes.specs.Lines.{behind_comments, behind_one, IsLineEnd, IsBracketEnd, IsBetween, IsAssigned, IsOption, AreInside, IsBehindColon, AreArguments, IsAttribute}
use Rattle.parse_expressions.proofs.Taken.{test}
use Rattle.parse_expressions.specs.Grammar.{Closes}

-- what is spelled so takes at least one word
abbrev pub Takes : (List Word → List Word → Type 0) → Type 0
Takes Is = (ws rest : List Word) → Is ws rest → length rest < length ws

-- ---- words

begins_takes : (kind : TokenKind) (text : List ℕ) → Takes (Begins kind text)
begins_takes kind text ws rest h = rw h (omega arith)

pub mark_takes : (kind : TokenKind) → Takes (Mark kind)
mark_takes kind ws rest m = begins_takes kind m.0 ws rest m.1

-- ---- rows

pub comma_takes : (close : TokenKind) → Takes (IsComma close)
comma_takes close ws rest (m, l) = mark_takes Comma ws rest m

pub closes_takes : (close : TokenKind) → Takes (Closes close)
closes_takes close ws rest (inl m) = mark_takes close ws rest m
closes_takes close ws rest (inr (a, c, m)) = let p = mark_takes Comma ws a c in let q = mark_takes close a rest m in omega arith

pub given_takes : {A : Type 0} (Is : A → List Word → List Word → Type 0) → ((x : A) → Takes (Is x)) → (o : Option A) → Takes (IfGiven Is o)
given_takes Is each None ws rest i = absurd i
given_takes Is each (Some x) ws rest i = each x ws rest i

module _ {A : Type 0} (Is : A → List Word → List Word → Type 0) (Between End : List Word → List Word → Type 0) (each : (x : A) → Takes (Is x)) (between : Takes Between) (end : Takes End) where
  pub follow_takes : (xs : List A) → Takes (Follow Is Between End xs)
  follow_takes [] ws rest h = end ws rest h
  follow_takes (x ∷ xs) ws rest (a, b, m, i, f) = let p = between ws a m in let q = each x a b i in let r = follow_takes xs b rest f in omega arith

-- ---- the ends of lines

mutual
  unfolding behind_comments behind_one

  comments_no_longer : (ws : List Word) → length (behind_comments (λ (w : Word). w) ws) ≤ length ws
  comments_no_longer [] = omega arith
  comments_no_longer (w ∷ ws) =
      elim (test (is_kind w.kind Comment)) [
        | inl e ↦ rw e (one_no_longer w ws)
        | inr e ↦ rw e (omega arith)
      ]

  one_no_longer : (w : Word) (ws : List Word) → length (behind_one (λ (w : Word). w) w ws) ≤ length (w ∷ ws)
  one_no_longer w [] = omega arith
  one_no_longer w (v ∷ vs) =
      elim (test (is_kind v.kind Eol)) [
        | inl e ↦ let p = comments_no_longer vs in rw e (omega (arith, p))
        | inr e ↦ rw e (omega arith)
      ]

aside_no_longer : (ws rest : List Word) → IsAside ws rest → length rest ≤ length ws
aside_no_longer ws rest (inl m) = let p = mark_takes Comment ws rest m in omega arith
aside_no_longer ws rest (inr same) = rw same.0 (omega arith)

pub line_end_takes : Takes IsLineEnd
line_end_takes ws rest (a, b, i, m, same) =
    let p = aside_no_longer ws a i in
    let q = mark_takes Eol a b m in
    let r = comments_no_longer b in rw same (omega (arith, p, q, r))

bracket_end_takes : Takes IsBracketEnd
bracket_end_takes ws rest (a, c, e) = let p = closes_takes BracketR ws a c in let q = line_end_takes a rest e in omega arith

pub between_takes : Takes IsBetween
between_takes ws rest (inl c) = comma_takes BracketR ws rest c
between_takes ws rest (inr (a, e, m)) = let p = bracket_end_takes ws a e in let q = mark_takes BracketL a rest m in omega arith

-- ---- attributes

module _ (expansion : Expansion) where
  pub string_takes : (s : List ℕ) → Takes (IsString expansion s)
  string_takes s ws rest i = begins_takes StringToken s ws rest i.0

  pub expression_takes : (e : Shape) → Takes (IsExpression expansion e)
  expression_takes e ws rest i = shorter expansion e ws rest i.is

  assigned_takes : (name s : List ℕ) → Takes (IsAssigned expansion name s)
  assigned_takes name s ws rest (a, b, n, m, i) =
      let p = begins_takes Identifier name ws a n in
      let q = mark_takes Equals a b m in
      let r = string_takes s b rest i in omega arith

  pub option_takes : (o : OptionShape) → Takes (IsOption expansion o)
  option_takes flag ws rest i = begins_takes Identifier _ ws rest i
  option_takes multiple ws rest i = begins_takes Identifier _ ws rest i
  option_takes (long None) ws rest i = begins_takes Identifier _ ws rest i.0
  option_takes (long (Some s)) ws rest i = assigned_takes _ s ws rest i
  option_takes (help s) ws rest i = assigned_takes _ s ws rest i
  option_takes (max s) ws rest i = assigned_takes _ s ws rest i
  option_takes (min s) ws rest i = assigned_takes _ s ws rest i
  option_takes (short s) ws rest i = assigned_takes _ s ws rest i
  option_takes (value e) ws rest (a, b, n, m, i) =
      let p = begins_takes Identifier _ ws a n in
      let q = mark_takes Equals a b m in
      let r = expression_takes e b rest i in omega arith

  inside_takes : (sort : Sort) (arguments : Arguments) → Takes (AreInside expansion sort arguments)
  inside_takes of_strings (strings s ss) ws rest (a, i, f) =
      let p = string_takes s ws a i in
      let q = follow_takes (IsString expansion) (IsComma ParenR) (Closes ParenR) string_takes (comma_takes ParenR) (closes_takes ParenR) ss a rest f in omega arith
  inside_takes of_expressions (expressions e es) ws rest (a, i, f) =
      let p = expression_takes e ws a i in
      let q = follow_takes (IsExpression expansion) (IsComma ParenR) (Closes ParenR) expression_takes (comma_takes ParenR) (closes_takes ParenR) es a rest f in omega arith
  inside_takes of_parameter (parameter name options) ws rest (a, i, f) =
      let p = string_takes name ws a i in
      let each = given_takes (IsOption expansion) option_takes in
      let q = follow_takes (IfGiven (IsOption expansion)) (IsComma ParenR) (Closes ParenR) each (comma_takes ParenR) (closes_takes ParenR) options a rest f in omega arith
  inside_takes sort arguments ws rest i = absurd i

  colon_takes : (sort : Sort) (arguments : Arguments) → Takes (IsBehindColon expansion sort arguments)
  colon_takes sort arguments ws rest (s, a, m, i, same) = let p = mark_takes Colon ws a m in let q = string_takes s a rest i in omega arith

  paren_takes : (sort : Sort) (arguments : Arguments) (ws a rest : List Word) → Mark ParenL ws a → AreInside expansion sort arguments a rest → length rest < length ws
  paren_takes sort arguments ws a rest m i = let p = mark_takes ParenL ws a m in let q = inside_takes sort arguments a rest i in omega arith

  arguments_no_longer : (sort : Sort) (arguments : Arguments) (ws rest : List Word) → AreArguments expansion sort arguments ws rest → length rest ≤ length ws
  arguments_no_longer sort nothing ws rest i = rw i.0 (omega arith)
  arguments_no_longer sort (strings s ss) ws rest (inl i) = let p = colon_takes sort (strings s ss) ws rest i in omega arith
  arguments_no_longer sort (strings s ss) ws rest (inr (a, m, i)) = let p = paren_takes sort (strings s ss) ws a rest m i in omega arith
  arguments_no_longer sort (expressions e es) ws rest (inl i) = let p = colon_takes sort (expressions e es) ws rest i in omega arith
  arguments_no_longer sort (expressions e es) ws rest (inr (a, m, i)) = let p = paren_takes sort (expressions e es) ws a rest m i in omega arith
  arguments_no_longer sort (parameter name options) ws rest (inl i) = let p = colon_takes sort (parameter name options) ws rest i in omega arith
  arguments_no_longer sort (parameter name options) ws rest (inr (a, m, i)) = let p = paren_takes sort (parameter name options) ws a rest m i in omega arith

  pub attribute_takes : (x : AttributeShape) → Takes (IsAttribute expansion x)
  attribute_takes x ws rest i =
      let p = begins_takes Identifier (kind_name i.kind) ws i.behind_name i.name in
      let q = arguments_no_longer (sort_of (form_of i.kind)) i.arguments i.behind_name rest i.stand in omega arith
