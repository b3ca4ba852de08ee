-- A recipe takes words, and each of its parameters takes one of them.
use Rattle.std.proofs.Common.{◌≡◌, ℕ, ◌+◌, ◌<◌, ◌≤◌, Bool, true, false, List, [], ◌∷◌, length, Option, Some, None, arith, inl, inr, ◌⊎◌}
use Rattle.just_text.specs.Tokens.{Word}
use Rattle.just_text.specs.declared.token_kind.TokenKind.TheVariants.{AmpersandAmpersand, Asterisk, At, Colon, Comment, Dedent, Dollar, Eof, Eol, Equals, Identifier, Indent, InterpolationEnd, InterpolationStart, ParenL, ParenR, Plus as PlusMark, Text}
use Rattle.tree_items.specs.declared.recipe.ParameterKind.{ParameterKind}
use Rattle.tree_items.specs.declared.recipe.ParameterKind.TheVariants.{Plus, Singular, Star}
use Rattle.tree_items.specs.Lines.{Piece, text, interpolation}
use Rattle.tree_items.specs.Recipes.{ParameterShape, ArgumentShape, DependencyShape, RecipeShape}
use Rattle.tree_expressions.specs.Shape.{Shape}
use Rattle.parse_expressions.specs.Words.{is_kind, Mark}
use Rattle.parse_expressions.specs.Literals.{Expansion}
use Rattle.parse_expressions.specs.LineEnds.{IsEol}
use Rattle.parse_recipes.specs.Bodies.{behind_blank, behind_comment, ArePieces, AreLines, IsBody}
use Rattle.parse_recipes.specs.Headers.{IsKind, IsExported, IsStarred, IsQuiet, IsDefault, IsParameter, AreParameters, IsArgument, AreArguments, IsDependency, AreDependencies, AreSubsequents, IsRecipe}
use Rattle.parse_expressions.proofs.TokensTaken.{front_shorter, mark_shorter}
use Rattle.parse_recipes.proofs.RecipePaths.{path_shorter}
use Rattle.parse_expressions.proofs.Starts.{shorter}
use Rattle.parse_expressions.proofs.Taken.{test}
use Rattle.parse_expressions.specs.Strings.{IsAside}

-- ---- the ends of lines

aside_no_longer : (ws rest : List Word) → IsAside ws rest → length rest ≤ length ws
aside_no_longer ws rest (inl m) = let p = mark_shorter Comment ws rest m in omega arith
aside_no_longer ws rest (inr same) = rw same.0 (omega arith)

ends_no_longer : (ws rest : List Word) → Mark Eol ws rest ⊎ ((ws ≡ rest) × ((after : List Word) × Mark Eof ws after)) → length rest ≤ length ws
ends_no_longer ws rest (inl m) = let p = mark_shorter Eol ws rest m in omega arith
ends_no_longer ws rest (inr same) = rw same.0 (omega arith)

pub eol_no_longer : (ws rest : List Word) → IsEol ws rest → length rest ≤ length ws
eol_no_longer ws rest (a, aside, ends) = let p = aside_no_longer ws a aside in let q = ends_no_longer a rest ends in omega arith

-- ---- blank lines

mutual
  unfolding behind_blank behind_comment

  blank_no_longer : (ws : List Word) → length (behind_blank (λ (w : Word). w) ws) ≤ length ws
  blank_no_longer [] = omega arith
  blank_no_longer (w ∷ ws) =
      elim (test (is_kind w.kind Eol)) [
        | inl e ↦ let p = blank_no_longer ws in rw e (omega (arith, p))
        | inr e ↦ elim (test (is_kind w.kind Comment)) [
          | inl f ↦ rw (e, f) (comment_no_longer w ws)
          | inr f ↦ rw (e, f) (omega arith)
        ]
      ]

  comment_no_longer : (w : Word) (ws : List Word) → length (behind_comment (λ (w : Word). w) w ws) ≤ length (w ∷ ws)
  comment_no_longer w [] = omega arith
  comment_no_longer w (v ∷ vs) =
      elim (test (is_kind v.kind Eol)) [
        | inl e ↦ let p = blank_no_longer vs in rw e (omega (arith, p))
        | inr e ↦ rw e (omega arith)
      ]

-- ---- marks

kind_no_longer : (kind : ParameterKind) (ws rest : List Word) → IsKind kind ws rest → length rest ≤ length ws
kind_no_longer Plus ws rest m = let p = mark_shorter PlusMark ws rest m in omega arith
kind_no_longer Singular ws rest same = rw same (omega arith)
kind_no_longer Star ws rest m = let p = mark_shorter Asterisk ws rest m in omega arith

exported_no_longer : (b : Bool) (ws rest : List Word) → IsExported b ws rest → length rest ≤ length ws
exported_no_longer true ws rest m = let p = mark_shorter Dollar ws rest m in omega arith
exported_no_longer false ws rest same = rw same (omega arith)

starred_no_longer : (b : Bool) (ws rest : List Word) → IsStarred b ws rest → length rest ≤ length ws
starred_no_longer true ws rest m = let p = mark_shorter Asterisk ws rest m in omega arith
starred_no_longer false ws rest same = rw same (omega arith)

quiet_no_longer : (b : Bool) (ws rest : List Word) → IsQuiet b ws rest → length rest ≤ length ws
quiet_no_longer true ws rest m = let p = mark_shorter At ws rest m in omega arith
quiet_no_longer false ws rest same = rw same (omega arith)

module _ (expansion : Expansion) where
  -- ---- parameters

  default_no_longer : (default : Option Shape) (ws rest : List Word) → IsDefault expansion default ws rest → length rest ≤ length ws
  default_no_longer None ws rest i = rw i.0 (omega arith)
  default_no_longer (Some e) ws rest (a, m, d) = let p = mark_shorter Equals ws a m in let q = shorter expansion e a rest d.is in omega arith

  parameter_shorter : (p : ParameterShape) (ws rest : List Word) → IsParameter expansion p ws rest → length rest < length ws
  parameter_shorter p ws rest i =
      let k = kind_no_longer p.kind ws i.behind_mark i.kind in
      let x = exported_no_longer p.export i.behind_mark i.behind_dollar i.export in
      let n = front_shorter Identifier p.name i.behind_dollar i.behind_name i.name in
      let d = default_no_longer p.default i.behind_name rest i.default in omega arith

  parameters_shorter : (ps : List ParameterShape) (ws rest : List Word) → AreParameters expansion ps ws rest → length ps + length rest ≤ length ws
  parameters_shorter [] ws rest same = rw same (omega arith)
  parameters_shorter (p ∷ ps) ws rest (a, i, are, last) = let q = parameter_shorter p ws a i in let r = parameters_shorter ps a rest are in omega (arith, q, r)

  -- ---- dependencies

  argument_no_longer : (x : ArgumentShape) (ws rest : List Word) → IsArgument expansion x ws rest → length rest ≤ length ws
  argument_no_longer x ws rest (a, s, d) = let p = starred_no_longer x.starred ws a s in let q = shorter expansion x.expression a rest d.is in omega arith

  arguments_no_longer : (xs : List ArgumentShape) (ws rest : List Word) → AreArguments expansion xs ws rest → length rest ≤ length ws
  arguments_no_longer [] ws rest m = let p = mark_shorter ParenR ws rest m in omega arith
  arguments_no_longer (x ∷ xs) ws rest (a, i, are) = let p = argument_no_longer x ws a i in let q = arguments_no_longer xs a rest are in omega arith

  dependency_no_longer : (d : DependencyShape) (ws rest : List Word) → IsDependency expansion d ws rest → length rest ≤ length ws
  dependency_no_longer d ws rest (inl i) = let p = path_shorter d.path ws rest i.0 in omega arith
  dependency_no_longer d ws rest (inr (a, b, m, path, are, few)) =
      let p = mark_shorter ParenL ws a m in
      let q = path_shorter d.path a b path in
      let r = arguments_no_longer d.arguments b rest are in omega (arith, p, q, r)

  dependencies_no_longer : (ds : List DependencyShape) (ws rest : List Word) → AreDependencies expansion ds ws rest → length rest ≤ length ws
  dependencies_no_longer [] ws rest same = rw same (omega arith)
  dependencies_no_longer (d ∷ ds) ws rest (a, i, are) = let p = dependency_no_longer d ws a i in let q = dependencies_no_longer ds a rest are in omega arith

  subsequents_no_longer : (ds : List DependencyShape) (ws rest : List Word) → AreSubsequents expansion ds ws rest → length rest ≤ length ws
  subsequents_no_longer [] ws rest same = rw same (omega arith)
  subsequents_no_longer (d ∷ ds) ws rest (a, m, are) = let p = mark_shorter AmpersandAmpersand ws a m in let q = dependencies_no_longer (d ∷ ds) a rest are in omega arith

  -- ---- bodies

  pieces_no_longer : (ps : List Piece) (ws rest : List Word) → ArePieces expansion ps ws rest → length rest ≤ length ws
  pieces_no_longer [] ws rest same = rw same (omega arith)
  pieces_no_longer (text t ∷ ps) ws rest (a, f, are) = let p = front_shorter Text t ws a f in let q = pieces_no_longer ps a rest are in omega arith
  pieces_no_longer (interpolation e ∷ ps) ws rest (a, b, c, opens, d, closes, are) =
      let p = mark_shorter InterpolationStart ws a opens in
      let q = shorter expansion e a b d.is in
      let r = mark_shorter InterpolationEnd b c closes in
      let s = pieces_no_longer ps c rest are in omega arith

  lines_no_longer : (lines : List (List Piece)) (ws rest : List Word) → AreLines expansion lines ws rest → length rest ≤ length ws
  lines_no_longer [] ws rest m = let p = mark_shorter Dedent ws rest m in omega arith
  lines_no_longer (line ∷ lines) ws rest (a, are, inl (b, m, more)) =
      let p = pieces_no_longer line ws a are in
      let q = mark_shorter Eol a b m in
      let r = lines_no_longer lines b rest more in omega arith
  lines_no_longer (line ∷ lines) ws rest (a, are, inr last) = let p = pieces_no_longer line ws a are in let q = mark_shorter Dedent a rest last.2 in omega (arith, p, q)

  body_no_longer : (body : List (List Piece)) (blanks : ℕ) (ws rest : List Word) → IsBody expansion body blanks ws rest → length rest ≤ length ws
  body_no_longer body blanks ws rest (inl i) =
      let p = blank_no_longer ws in
      let q = mark_shorter Indent (behind_blank (λ (w : Word). w) ws) i.inside i.opens in
      let r = lines_no_longer i.lines i.inside rest i.stand in omega arith
  body_no_longer body blanks ws rest (inr none) = rw none.2 (omega arith)

  -- ---- recipes

  pub recipe_shorter : (r : RecipeShape) (blanks : ℕ) (ws rest : List Word) → IsRecipe expansion r blanks ws rest → length r.parameters + length rest < length ws
  recipe_shorter r blanks ws rest i =
      let a = quiet_no_longer r.quiet ws i.behind_at i.at in
      let b = front_shorter Identifier r.name i.behind_at i.behind_name i.name in
      let c = parameters_shorter r.parameters i.behind_name i.behind_parameters i.parameters in
      let d = mark_shorter Colon i.behind_parameters i.behind_colon i.colon in
      let e = dependencies_no_longer r.priors i.behind_colon i.behind_priors i.priors in
      let f = subsequents_no_longer r.subsequents i.behind_priors i.behind_subsequents i.subsequents in
      let g = eol_no_longer i.behind_subsequents i.behind_header i.eol in
      let h = body_no_longer r.body blanks i.behind_header rest i.body in omega (arith, a, b, c, d, e, f, g, h)
