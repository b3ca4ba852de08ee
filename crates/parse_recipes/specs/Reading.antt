-- How recipes are read: what is taken and what lies ahead then, or why reading stops.
use Rattle.std.specs.Prelude.{ℕ, zero, suc, nat_lt, List, [], ◌∷◌, length, Bool, true, false, ◌&&◌, ◌||◌, Option, Some, None, Result, Ok, Err, if◌then◌else◌}
use Rattle.std.specs.List.{list_any}
use Rattle.std.specs.Str.{bytes_eq}
use Rattle.just_text.specs.Tokens.{Word}
use Rattle.just_text.specs.declared.compile_error.CompileErrorKind.TheVariants as kinds
use Rattle.just_text.specs.declared.token_kind.TokenKind.{TokenKind}
use Rattle.just_text.specs.declared.token_kind.TokenKind.TheVariants.{AmpersandAmpersand, Asterisk, At, Colon, ColonColon, Comment, Dedent, Dollar, Eof, Eol, Equals, Identifier, Indent, InterpolationEnd, InterpolationStart, ParenL, ParenR, Plus as PlusMark, Text}
use Rattle.tree_items.specs.declared.recipe.ParameterKind.{ParameterKind}
use Rattle.tree_items.specs.declared.recipe.ParameterKind.TheVariants.{Plus, Singular, Star}
use Rattle.tree_items.specs.Lines.{Piece, text, interpolation}
use Rattle.tree_items.specs.Recipes.{is_variadic, ParameterShape, ArgumentShape, DependencyShape, RecipeShape}
use Rattle.tree_expressions.specs.Shape.{Shape}
use Rattle.parse_expressions.specs.Literals.{Expansion}
use Rattle.parse_expressions.specs.Reading.{◌>>=◌, on, Read, Stop, unexpected, refused, first, accept, expect, is_next, expression_at}
use Rattle.parse_expressions.specs.LineEnds.{eol_at}
use Rattle.parse_recipes.specs.Bodies.{behind_blank, without_blank_end, blank_end}
use Rattle.parse_recipes.specs.Headers.{stars}

-- a first line from its parameters on
pub record Header : Type 0 where
  pub parameters : List ParameterShape
  pub priors : List DependencyShape
  pub subsequents : List DependencyShape

-- whether a name is among these
abbrev pub is_named : List (List ℕ) → List ℕ → Bool
is_named names name = list_any (bytes_eq name) names

-- whether there is a piece
abbrev pub is_some_line : List Piece → Bool
is_some_line [] = false
is_some_line (p ∷ ps) = true

module _ {T : Type 0} (word : T → Word) where
  -- Items up to a closing mark. The number bounds the turns, for which the count of the tokens is always enough.
  unfoldable pub until : {A : Type 0} → (List T → Read T A) → TokenKind → ℕ → List T → Read T (List A)
  until item close zero ts = Err (unexpected (first ts))
  until item close (suc n) ts =
      on (accept word close ts) (item ts >>= λ x. until item close n x.1 >>= λ xs. Ok (x.0 ∷ xs.0, xs.1)) (λ p. Ok ([], p.1))

  abbrev pub unless_none : {A B : Type 0} → Read T B → Option A → (A → Read T B) → Read T B
  unless_none end None f = end
  unless_none end (Some x) f = f x

  -- Items as long as there are some, with the same bound.
  unfoldable pub while_some : {A : Type 0} → (List T → Read T (Option A)) → ℕ → List T → Read T (List A)
  while_some item zero ts = Err (unexpected (first ts))
  while_some item (suc n) ts =
      item ts >>= λ x. unless_none (Ok ([], x.1)) x.0 (λ y. while_some item n x.1 >>= λ ys. Ok (y ∷ ys.0, ys.1))

  -- ---- paths

  unfoldable pub names_at : ℕ → List T → Read T (List (List ℕ))
  names_at zero ts = Err (unexpected (first ts))
  names_at (suc n) ts =
      expect word Identifier ts >>= λ t. on (accept word ColonColon t.1) (Ok ((word t.0).text ∷ [], t.1)) (λ c. names_at n c.1 >>= λ ns. Ok ((word t.0).text ∷ ns.0, ns.1))

  unfoldable pub path_at : List T → Read T (List (List ℕ))
  path_at ts = names_at (suc (length ts)) ts

  -- ---- the marks of parameters

  unfoldable pub kind_at : List T → ParameterKind × List T
  kind_at ts = on (accept word PlusMark ts) (on (accept word Asterisk ts) (Singular, ts) (λ p. (Star, p.1))) (λ p. (Plus, p.1))

  -- whether that mark comes first, and what is after it then
  unfoldable pub marked_at : TokenKind → List T → Bool × List T
  marked_at kind ts = on (accept word kind ts) (false, ts) (λ p. (true, p.1))

  -- the name of a parameter that comes here
  unfoldable pub parameter_ahead : List T → Option T
  parameter_ahead ts = on (accept word Identifier (marked_at Dollar (kind_at ts).1).1) None (λ p. Some p.0)

  abbrev pub last_if : Option T → List T → Result (List T) (Stop T)
  last_if None ts = Ok ts
  last_if (Some t) ts = Err (refused t (kinds.ParameterFollowsVariadic (word t).text))

  -- no parameter comes here
  unfoldable pub last_at : List T → Result (List T) (Stop T)
  last_at ts = last_if (parameter_ahead ts) ts

  module _ (expansion : Expansion) where
    abbrev pub whole_at : List T → Read T Shape
    whole_at ts = expression_at word expansion 256 6 ts

    -- ---- bodies

    -- a text or an interpolation, if one comes here
    unfoldable pub piece_at : List T → Read T (Option Piece)
    piece_at ts =
        on (accept word Text ts)
        (on (accept word InterpolationStart ts) (Ok (None, ts))
        (λ p. whole_at p.1 >>= λ e. expect word InterpolationEnd e.1 >>= λ q. Ok (Some (interpolation e.0), q.1)))
        (λ p. Ok (Some (text (word p.0).text), p.1))

    unfoldable pub pieces_at : List T → Read T (List Piece)
    pieces_at ts = while_some piece_at (suc (length ts)) ts

    unfoldable pub line_at : List T → Read T (List Piece)
    line_at ts =
        pieces_at ts >>= λ line. if is_some_line line.0 && is_next word Dedent line.1
        then Ok line
        else expect word Eol line.1 >>= λ e. Ok (line.0, e.1)

    unfoldable pub lines_at : List T → Read T (List (List Piece))
    lines_at ts = until line_at Dedent (suc (length ts)) ts

    unfoldable pub body_at : List T → Read T (List (List Piece) × ℕ)
    body_at ts = on (accept word Indent (behind_blank word ts)) (Ok (([], 0), ts)) (λ p. lines_at p.1 >>= λ ls. Ok ((without_blank_end ls.0, blank_end ls.0), ls.1))

    -- ---- parameters

    unfoldable pub default_at : List T → Read T (Option Shape)
    default_at ts = on (accept word Equals ts) (Ok (None, ts)) (λ p. expression_at word expansion 256 0 p.1 >>= λ e. Ok (Some e.0, e.1))

    -- what stands after the marks of a parameter, beside the token of its name
    unfoldable pub named_at : ParameterKind → Bool → List T → Read T (T × ParameterShape)
    named_at kind export ts =
        expect word Identifier ts >>= λ t. default_at t.1 >>= λ d. Ok ((t.0, record { kind = kind; export = export; name = (word t.0).text; default = d.0 }), d.1)

    -- a parameter and the token of its name, if one comes here: a mark or a name
    unfoldable pub parameter_at : List T → Read T (Option (T × ParameterShape))
    parameter_at ts =
        let k = kind_at ts in
        let d = marked_at Dollar k.1 in
        if is_variadic k.0 || d.0 || is_next word Identifier d.1
        then (named_at k.0 d.0 d.1 >>= λ p. Ok (Some p.0, p.1))
        else Ok (None, ts)

    -- parameters of other names than those before
    unfoldable pub parameters_at : ℕ → List (List ℕ) → List T → Read T (List ParameterShape)
    parameters_at zero before ts = Err (unexpected (first ts))
    parameters_at (suc n) before ts =
        parameter_at ts >>= λ p. unless_none (Ok ([], p.1)) p.0
        (λ x. if is_named before x.1.name
        then Err (refused x.0 (kinds.DuplicateParameter x.1.name))
        else if is_variadic x.1.kind
        then (last_at p.1 >>= λ rest. Ok (x.1 ∷ [], rest))
        else parameters_at n (x.1.name ∷ before) p.1 >>= λ xs. Ok (x.1 ∷ xs.0, xs.1))

    -- ---- dependencies

    unfoldable pub argument_at : List T → Read T ArgumentShape
    argument_at ts = let s = marked_at Asterisk ts in whole_at s.1 >>= λ e. Ok (record { expression = e.0; starred = s.0 }, e.1)

    -- the arguments, of which at most one may have a star; the token is where the dependency begins
    unfoldable pub arguments_at : T → List T → Read T (List ArgumentShape)
    arguments_at t ts =
        until argument_at ParenR (suc (length ts)) ts >>= λ xs. if nat_lt 1 (stars xs.0) then Err (refused t kinds.TwoStars) else Ok xs

    unfoldable pub dependency_at : List T → Read T (Option DependencyShape)
    dependency_at ts =
        on (accept word ParenL ts)
        (if is_next word Identifier ts then (path_at ts >>= λ p. Ok (Some (record { path = p.0; arguments = [] }), p.1)) else Ok (None, ts))
        (λ o. path_at o.1 >>= λ p. arguments_at o.0 p.1 >>= λ xs. Ok (Some (record { path = p.0; arguments = xs.0 }), xs.1))

    unfoldable pub dependencies_at : List T → Read T (List DependencyShape)
    dependencies_at ts = while_some dependency_at (suc (length ts)) ts

    abbrev pub some_if : List DependencyShape → List T → Read T (List DependencyShape)
    some_if [] ts = Err (unexpected (first ts))
    some_if (d ∷ ds) ts = Ok (d ∷ ds, ts)

    -- those after `&&`, at least one, if it stands here
    unfoldable pub subsequents_at : List T → Read T (List DependencyShape)
    subsequents_at ts = on (accept word AmpersandAmpersand ts) (Ok ([], ts)) (λ p. dependencies_at p.1 >>= λ ds. some_if ds.0 ds.1)

    -- ---- recipes

    -- what stands between a recipe's name and the end of its first line
    unfoldable pub header_at : List T → Read T Header
    header_at ts =
        parameters_at (suc (length ts)) [] ts >>= λ ps. expect word Colon ps.1 >>= λ c. dependencies_at c.1 >>= λ ds. subsequents_at ds.1 >>= λ ss. eol_at word ss.1 >>= λ rest.
        Ok (record { parameters = ps.0; priors = ds.0; subsequents = ss.0 }, rest)

    abbrev pub recipe_from : Bool → List ℕ → Header → List (List Piece) → RecipeShape
    recipe_from quiet name h body = record { quiet = quiet; name = name; parameters = h.parameters; priors = h.priors; subsequents = h.subsequents; body = body }

    -- a recipe, and how many blank lines after its body belong to the file
    unfoldable pub recipe_at : List T → Read T (RecipeShape × ℕ)
    recipe_at ts =
        let q = marked_at At ts in
        expect word Identifier q.1 >>= λ t. header_at t.1 >>= λ h. body_at h.1 >>= λ b. Ok ((recipe_from q.0 (word t.0).text h.0 b.0.0, b.0.1), b.1)
