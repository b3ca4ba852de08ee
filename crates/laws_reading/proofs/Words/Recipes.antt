-- Recipes.
use Rattle.std.proofs.Common.{◌≡◌, ℕ, zero, suc, Bool, ◌&&◌, ◌||◌, Option, Some, None, List, [], ◌∷◌, map, length, refl, ap, inl, inr}
use Rattle.std.specs.Option.{option_map}
use Rattle.just_text.specs.Tokens.{Word}
use Rattle.just_text.specs.declared.token_kind.TokenKind.{TokenKind}
use Rattle.just_text.specs.declared.token_kind.TokenKind.TheVariants.{AmpersandAmpersand, Asterisk, At, Colon, ColonColon, Comment, Dedent, Dollar, Eol, Equals, Identifier, Indent, InterpolationEnd, InterpolationStart, ParenL, ParenR, Plus as PlusMark, Text}
use Rattle.tree_items.specs.declared.recipe.ParameterKind.{ParameterKind}
use Rattle.tree_items.specs.Recipes.{ParameterShape, DependencyShape, is_variadic}
use Rattle.parse_expressions.specs.Literals.{Expansion}
use Rattle.parse_expressions.specs.Words.{is_kind}
use Rattle.parse_expressions.specs.Reading.{on, Read, accept}
use Rattle.parse_expressions.proofs.Taken.{test}
use Rattle.parse_recipes.specs.Bodies.{behind_blank}
use Rattle.parse_recipes.specs.Reading.{is_some_line, until, unless_none, while_some, names_at, path_at, kind_at, marked_at, parameter_ahead, last_if, last_at, whole_at, piece_at, pieces_at, line_at, lines_at, body_at, default_at, named_at, parameter_at, parameters_at, argument_at, arguments_at, dependency_at, dependencies_at, some_if, subsequents_at, header_at, recipe_at}
use Rattle.laws_reading.specs.Words.Mapped.{MapsTo, map_stop, step}
use Rattle.laws_reading.proofs.Words.Steps.{accepts, bind, choose, either, expects, first_stops, length_there, nexts, ok, seen, stops}
use Rattle.laws_reading.proofs.Words.Expressions.{Gives, eol_goes, expression_goes}

module _ {T S : Type 0} (f : T → S) (word : S → Word) where
  blank_there : (ts : List T) → behind_blank word (map f ts) ≡ map f (behind_blank (seen f word) ts)
  unfolding behind_blank
  blank_there [] = refl
  blank_there (t ∷ []) =
      elim (test (is_kind (word (f t)).kind Eol)) [
        | inl h ↦ rw h refl
        | inr h ↦ elim (test (is_kind (word (f t)).kind Comment)) [ inl j ↦ rw (h, j) refl | inr j ↦ rw (h, j) refl ]
      ]
  blank_there (t ∷ u ∷ us) =
      elim (test (is_kind (word (f t)).kind Eol)) [
        | inl h ↦ let e = blank_there (u ∷ us) in rw h e
        | inr h ↦ elim (test (is_kind (word (f t)).kind Comment)) [
          | inl j ↦ elim (test (is_kind (word (f u)).kind Eol)) [ inl k ↦ let e = blank_there us in rw (h, j, k) e | inr k ↦ rw (h, j, k) refl ]
          | inr j ↦ rw (h, j) refl
        ]
      ]

  module _ {A : Type 0} (item : List T → Read T A) (other : List S → Read S A) (both : (ts : List T) → Gives f word (item ts) (other (map f ts))) (close : TokenKind) where
    until_goes : (n : ℕ) (ts : List T) → Gives f word (until (seen f word) item close n ts) (until word other close n (map f ts))
    unfolding until
    until_goes zero ts = first_stops f ts
    until_goes (suc n) ts = choose _ (accepts f word close ts) (bind _ (both ts) (λ x. bind _ (until_goes n x.1) (λ xs. ok))) (λ p. ok)

    until_turns : (ts : List T) → Gives f word (until (seen f word) item close (suc (length ts)) ts) (until word other close (suc (length (map f ts))) (map f ts))
    until_turns ts = rw (length_there f ts) (until_goes (suc (length ts)) ts)

  unless : {A B C : Type 0} (g : A → B) (o : Option A) {end : Read T C} {end' : Read S C} {k : A → Read T C} (l : B → Read S C) → Gives f word end end' → ((x : A) → Gives f word (k x) (l (g x)))
      → Gives f word (unless_none (seen f word) end o k) (unless_none word end' (option_map g o) l)
  unless g None l less more = less
  unless g (Some x) l less more = more x

  module _ {A : Type 0} (item : List T → Read T (Option A)) (other : List S → Read S (Option A)) (both : (ts : List T) → Gives f word (item ts) (other (map f ts))) where
    unless_same : (o : Option A) {C : Type 0} {end : Read T C} {end' : Read S C} {k : A → Read T C} (l : A → Read S C) → Gives f word end end' → ((x : A) → Gives f word (k x) (l x))
        → Gives f word (unless_none (seen f word) end o k) (unless_none word end' o l)
    unless_same None l less more = less
    unless_same (Some x) l less more = more x

    while_goes : (n : ℕ) (ts : List T) → Gives f word (while_some (seen f word) item n ts) (while_some word other n (map f ts))
    unfolding while_some
    while_goes zero ts = first_stops f ts
    while_goes (suc n) ts = bind _ (both ts) (λ x. unless_same x.0 _ ok (λ y. bind _ (while_goes n x.1) (λ ys. ok)))

    while_turns : (ts : List T) → Gives f word (while_some (seen f word) item (suc (length ts)) ts) (while_some word other (suc (length (map f ts))) (map f ts))
    while_turns ts = rw (length_there f ts) (while_goes (suc (length ts)) ts)

  names_goes : (n : ℕ) (ts : List T) → Gives f word (names_at (seen f word) n ts) (names_at word n (map f ts))
  unfolding names_at
  names_goes zero ts = first_stops f ts
  names_goes (suc n) ts = bind _ (expects f word Identifier ts) (λ t. choose _ (accepts f word ColonColon t.1) ok (λ c. bind _ (names_goes n c.1) (λ ns. ok)))

  pub path_goes : (ts : List T) → Gives f word (path_at (seen f word) ts) (path_at word (map f ts))
  unfolding path_at
  path_goes ts = rw (length_there f ts) (names_goes (suc (length ts)) ts)

  kind_there : (ts : List T) → kind_at word (map f ts) ≡ ((kind_at (seen f word) ts).0, map f (kind_at (seen f word) ts).1)
  unfolding kind_at accept
  kind_there [] = refl
  kind_there (t ∷ ts) =
      elim (test (is_kind (word (f t)).kind PlusMark)) [
        | inl h ↦ rw h refl
        | inr h ↦ elim (test (is_kind (word (f t)).kind Asterisk)) [ inl j ↦ rw (h, j) refl | inr j ↦ rw (h, j) refl ]
      ]

  pub marked_there : (kind : TokenKind) (ts : List T) → marked_at word kind (map f ts) ≡ ((marked_at (seen f word) kind ts).0, map f (marked_at (seen f word) kind ts).1)
  unfolding marked_at accept
  marked_there kind [] = refl
  marked_there kind (t ∷ ts) = elim (test (is_kind (word (f t)).kind kind)) [ inl h ↦ rw h refl | inr h ↦ rw h refl ]

  first_name : (ts : List T) → on (accept word Identifier (map f ts)) None (λ p. Some p.0) ≡ option_map f (on (accept (seen f word) Identifier ts) None (λ p. Some p.0))
  unfolding accept
  first_name [] = refl
  first_name (t ∷ ts) = elim (test (is_kind (word (f t)).kind Identifier)) [ inl h ↦ rw h refl | inr h ↦ rw h refl ]

  ahead_there : (ts : List T) → parameter_ahead word (map f ts) ≡ option_map f (parameter_ahead (seen f word) ts)
  unfolding parameter_ahead
  ahead_there ts = rw (kind_there ts, marked_there Dollar (kind_at (seen f word) ts).1) (first_name (marked_at (seen f word) Dollar (kind_at (seen f word) ts).1).1)

  last_if_goes : (o : Option T) (ts : List T) → MapsTo (map_stop f) (map f) (last_if (seen f word) o ts) (last_if word (option_map f o) (map f ts))
  last_if_goes None ts = ok
  last_if_goes (Some t) ts = stops

  last_goes : (ts : List T) → MapsTo (map_stop f) (map f) (last_at (seen f word) ts) (last_at word (map f ts))
  unfolding last_at
  last_goes ts = rw (ahead_there ts) (last_if_goes (parameter_ahead (seen f word) ts) ts)

  abbrev par : T × ParameterShape → S × ParameterShape
  par q = (f q.0, q.1)

  module _ (expansion : Expansion) where
    whole_goes : (ts : List T) → Gives f word (whole_at (seen f word) expansion ts) (whole_at word expansion (map f ts))
    whole_goes ts = expression_goes f word expansion 256 6 ts

    piece_goes : (ts : List T) → Gives f word (piece_at (seen f word) expansion ts) (piece_at word expansion (map f ts))
    unfolding piece_at
    piece_goes ts =
        choose _ (accepts f word Text ts)
        (choose _ (accepts f word InterpolationStart ts) ok (λ p. bind _ (whole_goes p.1) (λ e. bind _ (expects f word InterpolationEnd e.1) (λ q. ok))))
        (λ p. ok)

    pieces_goes : (ts : List T) → Gives f word (pieces_at (seen f word) expansion ts) (pieces_at word expansion (map f ts))
    unfolding pieces_at
    pieces_goes ts = while_turns (piece_at (seen f word) expansion) (piece_at word expansion) piece_goes ts

    line_goes : (ts : List T) → Gives f word (line_at (seen f word) expansion ts) (line_at word expansion (map f ts))
    unfolding line_at
    line_goes ts = bind _ (pieces_goes ts) (λ line. either (ap (λ b. is_some_line line.0 && b) (nexts f word Dedent line.1)) ok (bind _ (expects f word Eol line.1) (λ e. ok)))

    lines_goes : (ts : List T) → Gives f word (lines_at (seen f word) expansion ts) (lines_at word expansion (map f ts))
    unfolding lines_at
    lines_goes ts = until_turns (line_at (seen f word) expansion) (line_at word expansion) line_goes Dedent ts

    body_goes : (ts : List T) → Gives f word (body_at (seen f word) expansion ts) (body_at word expansion (map f ts))
    unfolding body_at
    body_goes ts = rw (blank_there ts) (choose _ (accepts f word Indent (behind_blank (seen f word) ts)) ok (λ p. bind _ (lines_goes p.1) (λ ls. ok)))

    default_goes : (ts : List T) → Gives f word (default_at (seen f word) expansion ts) (default_at word expansion (map f ts))
    unfolding default_at
    default_goes ts = choose _ (accepts f word Equals ts) ok (λ p. bind _ (expression_goes f word expansion 256 0 p.1) (λ e. ok))

    named_goes : (kind : ParameterKind) (export : Bool) (ts : List T) → MapsTo (map_stop f) (step f par) (named_at (seen f word) expansion kind export ts) (named_at word expansion kind export (map f ts))
    unfolding named_at
    named_goes kind export ts = bind _ (expects f word Identifier ts) (λ t. bind _ (default_goes t.1) (λ d. ok))

    parameter_goes : (ts : List T) → MapsTo (map_stop f) (step f (option_map par)) (parameter_at (seen f word) expansion ts) (parameter_at word expansion (map f ts))
    unfolding parameter_at
    parameter_goes ts =
        let k : ParameterKind × List T = kind_at (seen f word) ts in
        let d : Bool × List T = marked_at (seen f word) Dollar k.1 in
        rw (kind_there ts, marked_there Dollar (kind_at (seen f word) ts).1)
        (either (ap (λ b. is_variadic k.0 || d.0 || b) (nexts f word Identifier d.1)) (bind _ (named_goes k.0 d.0 d.1) (λ p. ok)) ok)

    parameters_goes : (n : ℕ) (before : List (List ℕ)) (ts : List T) → Gives f word (parameters_at (seen f word) expansion n before ts) (parameters_at word expansion n before (map f ts))
    unfolding parameters_at
    parameters_goes zero before ts = first_stops f ts
    parameters_goes (suc n) before ts =
        bind _ (parameter_goes ts) (λ p. unless par p.0 _ ok
        (λ x. either refl stops (either refl (bind _ (last_goes p.1) (λ rest. ok)) (bind _ (parameters_goes n (x.1.name ∷ before) p.1) (λ xs. ok)))))

    parameters_turns : (ts : List T) → Gives f word (parameters_at (seen f word) expansion (suc (length ts)) [] ts) (parameters_at word expansion (suc (length (map f ts))) [] (map f ts))
    parameters_turns ts = rw (length_there f ts) (parameters_goes (suc (length ts)) [] ts)

    argument_goes : (ts : List T) → Gives f word (argument_at (seen f word) expansion ts) (argument_at word expansion (map f ts))
    unfolding argument_at
    argument_goes ts = rw (marked_there Asterisk ts) (bind _ (whole_goes (marked_at (seen f word) Asterisk ts).1) (λ e. ok))

    arguments_goes : (t : T) (ts : List T) → Gives f word (arguments_at (seen f word) expansion t ts) (arguments_at word expansion (f t) (map f ts))
    unfolding arguments_at
    arguments_goes t ts = bind _ (until_turns (argument_at (seen f word) expansion) (argument_at word expansion) argument_goes ParenR ts) (λ xs. either refl stops ok)

    dependency_goes : (ts : List T) → Gives f word (dependency_at (seen f word) expansion ts) (dependency_at word expansion (map f ts))
    unfolding dependency_at
    dependency_goes ts =
        choose _ (accepts f word ParenL ts)
        (either (nexts f word Identifier ts) (bind _ (path_goes ts) (λ p. ok)) ok)
        (λ o. bind _ (path_goes o.1) (λ p. bind _ (arguments_goes o.0 p.1) (λ xs. ok)))

    dependencies_goes : (ts : List T) → Gives f word (dependencies_at (seen f word) expansion ts) (dependencies_at word expansion (map f ts))
    unfolding dependencies_at
    dependencies_goes ts = while_turns (dependency_at (seen f word) expansion) (dependency_at word expansion) dependency_goes ts

    some_goes : (ds : List DependencyShape) (ts : List T) → Gives f word (some_if (seen f word) expansion ds ts) (some_if word expansion ds (map f ts))
    some_goes [] ts = first_stops f ts
    some_goes (d ∷ ds) ts = ok

    subsequents_goes : (ts : List T) → Gives f word (subsequents_at (seen f word) expansion ts) (subsequents_at word expansion (map f ts))
    unfolding subsequents_at
    subsequents_goes ts = choose _ (accepts f word AmpersandAmpersand ts) ok (λ p. bind _ (dependencies_goes p.1) (λ ds. some_goes ds.0 ds.1))

    header_goes : (ts : List T) → Gives f word (header_at (seen f word) expansion ts) (header_at word expansion (map f ts))
    unfolding header_at
    header_goes ts =
        bind _ (parameters_turns ts) (λ ps. bind _ (expects f word Colon ps.1) (λ c. bind _ (dependencies_goes c.1) (λ ds. bind _ (subsequents_goes ds.1) (λ ss. bind _ (eol_goes f word ss.1) (λ rest. ok)))))

    pub recipe_goes : (ts : List T) → Gives f word (recipe_at (seen f word) expansion ts) (recipe_at word expansion (map f ts))
    unfolding recipe_at
    recipe_goes ts =
        rw (marked_there At ts)
        (bind _ (expects f word Identifier (marked_at (seen f word) At ts).1) (λ t. bind _ (header_goes t.1) (λ h. bind _ (body_goes h.1) (λ b. ok))))
