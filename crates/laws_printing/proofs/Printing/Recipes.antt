-- Whole recipes are derived again.
use Rattle.std.proofs.Common.{◌≡◌, ℕ, zero, suc, Bool, true, false, List, [], ◌∷◌, ◌++◌, refl, sym, subst, ◌∙◌, inl, inr}
use Rattle.std.specs.Prelude.{codes}
use Rattle.std.specs.List.{list_all}
use Rattle.just_text.specs.Tokens.{Word}
use Rattle.just_text.specs.declared.token_kind.TokenKind.TheVariants.{AmpersandAmpersand, At, Colon, ColonColon, Identifier, Indent}
use Rattle.tree_items.specs.Lines.{Piece}
use Rattle.tree_items.specs.Recipes.{DependencyShape, RecipeShape}
use Rattle.tree_items.specs.Printable.{is_closed, are_separate}
use Rattle.parse_expressions.specs.Words.{Lacks, significant}
use Rattle.parse_expressions.specs.Literals.{Expansion}
use Rattle.parse_recipes.specs.Bodies.{ArePieces, AreLines, unless_blank, without_blank_end, if_blank, blank_end, behind_blank, behind_blank_lines, IsBody}
use Rattle.parse_recipes.specs.Headers.{IsQuiet, AreSubsequents, IsRecipe}
use Rattle.laws_printing.specs.Printing.Words.{word}
use Rattle.laws_printing.specs.Printing.ItemWords.{newline, if_there, lines_words, parameters_words, dependencies_words, subsequents_words}
use Rattle.laws_printing.specs.Printing.Normal.{blanks, body_before, taken, recipe_words}
use Rattle.laws_printing.proofs.Printing.Heads.{lacks_other}
use Rattle.laws_printing.proofs.Printing.Items.{eol_spelled, pieces_spelled, one_line, lacks_at_end}
use Rattle.laws_printing.proofs.Printing.Headers.{dependencies_spelled, parameters_spelled}

-- ---- blank lines at the end of a body

blanks_fall : (n : ℕ) → without_blank_end (blanks n) ≡ []
blanks_fall zero = refl
blanks_fall (suc n) = rw (blanks_fall n) refl

without_more : (xs : List (List Piece)) (n : ℕ) → without_blank_end (xs ++ blanks n) ≡ without_blank_end xs
without_more [] n = blanks_fall n
without_more (x ∷ xs) n = rw (without_more xs n) refl

twice_at : (x : List Piece) (ys : List (List Piece)) → without_blank_end ys ≡ ys → without_blank_end (unless_blank x ys) ≡ unless_blank x ys
twice_at [] [] h = refl
twice_at (c ∷ cs) [] h = refl
twice_at [] (y ∷ ys) h = rw h refl
twice_at (c ∷ cs) (y ∷ ys) h = rw h refl

twice : (xs : List (List Piece)) → without_blank_end (without_blank_end xs) ≡ without_blank_end xs
twice [] = refl
twice (x ∷ xs) = twice_at x (without_blank_end xs) (twice xs)

count_blanks : (n : ℕ) → blank_end (blanks n) ≡ n
count_blanks zero = refl
count_blanks (suc n) = rw (blanks_fall n, count_blanks n) refl

counted_at : (x : List Piece) (xs ys : List (List Piece)) (m n : ℕ) → unless_blank x ys ≡ x ∷ xs → m ≡ n → if_blank x ys m ≡ n
counted_at [] xs [] m n h e = absurd cc
counted_at [] xs (y ∷ ys) m n h e = e
counted_at (c ∷ cs) xs ys m n h e = e

rest_kept : (x : List Piece) (xs ys : List (List Piece)) → unless_blank x ys ≡ x ∷ xs → ys ≡ xs
rest_kept [] xs [] h = absurd cc
rest_kept [] xs (y ∷ ys) h = cc
rest_kept (c ∷ cs) xs ys h = cc

counted : (xs : List (List Piece)) (n : ℕ) → without_blank_end xs ≡ xs → blank_end (xs ++ blanks n) ≡ n
counted [] n h = count_blanks n
counted (x ∷ xs) n h =
    let kept = rest_kept x xs (without_blank_end xs) h in
    rw (without_more xs n) (counted_at x xs (without_blank_end xs) (blank_end (xs ++ blanks n)) n h (counted xs n kept))

module _ (expansion : Expansion) where
  -- a line that some words spell
  abbrev Known : List Piece → Type 0
  Known line = (words a : List Word) × ArePieces expansion line words a

  abbrev AllKnown : List (List Piece) → Type 0
  AllKnown [] = Unit {0}
  AllKnown (line ∷ lines) = Known line × AllKnown lines

  known : (lines : List (List Piece)) (words rest : List Word) → AreLines expansion lines words rest → AllKnown lines
  known [] words rest i = tt
  known (line ∷ lines) words rest (a, is, inl w) = ((words, a, is), known lines w.0 rest w.2)
  known (line ∷ []) words rest (a, is, inr w) = ((words, a, is), tt)
  known (line ∷ l ∷ lines) words rest (a, is, inr w) = let p = w.1 in absurd cc

  kept_at : (x : List Piece) (ys : List (List Piece)) → Known x → AllKnown ys → AllKnown (unless_blank x ys)
  kept_at [] [] k ks = tt
  kept_at (c ∷ cs) [] k ks = (k, ks)
  kept_at [] (y ∷ ys) k ks = (k, ks)
  kept_at (c ∷ cs) (y ∷ ys) k ks = (k, ks)

  kept : (lines : List (List Piece)) → AllKnown lines → AllKnown (without_blank_end lines)
  kept [] ks = tt
  kept (x ∷ xs) ks = kept_at x (without_blank_end xs) ks.0 (kept xs ks.1)

  blank_lines_spelled : (indentation : List ℕ) (n : ℕ) (after : List Word) → AreLines expansion (blanks n) (significant (lines_words indentation (blanks n) after)) (significant after)
  blank_lines_spelled indentation zero after = ([], refl)
  blank_lines_spelled indentation (suc n) after = (_, refl, inl (_, (codes "\n", refl), blank_lines_spelled indentation n after))

  known_spelled : (indentation : List ℕ) (lines : List (List Piece)) (n : ℕ) (after : List Word) → AllKnown lines → AreLines expansion (lines ++ blanks n) (significant (lines_words indentation (lines ++ blanks n) after)) (significant after)
  known_spelled indentation [] n after ks = blank_lines_spelled indentation n after
  known_spelled indentation (line ∷ lines) n after ks = one_line expansion indentation line (lines ++ blanks n) ks.0.0 ks.0.1 after ks.0.2 (known_spelled indentation lines n after ks.1)

  -- a body's first line follows its indentation
  indented : (indentation : List ℕ) (line : List Piece) (lines : List (List Piece)) (n : ℕ) (after : List Word) → AllKnown (line ∷ lines) → without_blank_end (line ∷ lines) ≡ line ∷ lines
      → IsBody expansion (line ∷ lines) n (significant (body_before indentation (line ∷ lines) n after)) (significant after)
  unfolding behind_blank
  indented indentation line lines n after ks w =
      inl (record {
        inside = _;
        lines = (line ∷ lines) ++ blanks n;
        opens = (indentation, refl);
        stand = (_, pieces_spelled expansion line ks.0.0 ks.0.1 (newline ∷ lines_words indentation (lines ++ blanks n) after) ks.0.2, inl (_, (codes "\n", refl), known_spelled indentation lines n after ks.1));
        kept = sym (without_more (line ∷ lines) n ∙ w);
        left = sym (counted (line ∷ lines) n w);
      })

  body_at : (indentation : List ℕ) (body : List (List Piece)) (n : ℕ) (after : List Word) → AllKnown body → without_blank_end body ≡ body → Lacks Indent (behind_blank_lines (significant after))
      → IsBody expansion body (taken body n) (significant (body_before indentation body n after)) (significant after)
  body_at indentation [] n after ks w l = inr (refl, refl, refl, l)
  body_at indentation (line ∷ lines) n after ks w l = indented indentation line lines n after ks w

  body_known : (body : List (List Piece)) (old : ℕ) (words rest : List Word) → IsBody expansion body old words rest → AllKnown body × (without_blank_end body ≡ body)
  body_known body old words rest (inl i) = (subst AllKnown (sym i.kept) (kept i.lines (known i.lines i.inside rest i.stand)), rw i.kept (twice i.lines))
  body_known body old words rest (inr i) = (subst AllKnown (sym i.0) tt, rw i.0 refl)

  quiet_spelled : (b : Bool) (after : List Word) → IsQuiet b (significant (if_there b (word At (codes "@")) after)) (significant after)
  quiet_spelled true after = (codes "@", refl)
  quiet_spelled false after = refl

  subsequents_spelled : (ds : List DependencyShape) (words rest after : List Word) → AreSubsequents expansion ds words rest → list_all is_closed ds ≡ true → AreSubsequents expansion ds (significant (subsequents_words ds (newline ∷ after))) (significant (newline ∷ after))
  subsequents_spelled [] words rest after i c = refl
  subsequents_spelled (d ∷ ds) words rest after i c = (_, (codes "&&", refl), dependencies_spelled expansion (d ∷ ds) i.0 rest (newline ∷ after) i.2 c (lacks_at_end ColonColon after (λ p. absurd cc)))

  lacks_subsequents : (ds : List DependencyShape) (after : List Word) → Lacks ColonColon (significant (subsequents_words ds (newline ∷ after)))
  lacks_subsequents [] after = lacks_at_end ColonColon after (λ p. absurd cc)
  lacks_subsequents (d ∷ ds) after = lacks_other AmpersandAmpersand ColonColon _ refl (λ p. absurd cc)

  pub recipe_spelled : (indentation : List ℕ) (r : RecipeShape) (old n : ℕ) (words rest after : List Word) → IsRecipe expansion r old words rest → are_separate r.parameters ≡ true → list_all is_closed r.priors ≡ true → list_all is_closed r.subsequents ≡ true
      → Lacks Indent (behind_blank_lines (significant after)) → IsRecipe expansion r (taken r.body n) (significant (recipe_words indentation r n after)) (significant after)
  recipe_spelled indentation r old n words rest after i separate priors subsequents l =
      let b = body_known r.body old i.behind_header rest i.body in
      let w4 = body_before indentation r.body n after in
      let w3 = subsequents_words r.subsequents (newline ∷ w4) in
      let w2 = dependencies_words r.priors w3 in
      let w1 = parameters_words r.parameters (word Colon (codes ":") ∷ w2) in
      record {
        behind_at = significant (word Identifier r.name ∷ w1);
        behind_name = significant w1;
        behind_parameters = significant (word Colon (codes ":") ∷ w2);
        behind_colon = significant w2;
        behind_priors = significant w3;
        behind_subsequents = significant (newline ∷ w4);
        behind_header = significant w4;
        at = quiet_spelled r.quiet (word Identifier r.name ∷ w1);
        name = refl;
        parameters = parameters_spelled expansion r.parameters i.behind_name i.behind_parameters (significant w2) i.behind_colon (word Colon (codes ":") ∷ w2) i.parameters i.colon separate (codes ":", refl);
        distinct = i.distinct;
        colon = (codes ":", refl);
        priors = dependencies_spelled expansion r.priors i.behind_colon i.behind_priors w3 i.priors priors (lacks_subsequents r.subsequents w4);
        subsequents = subsequents_spelled r.subsequents i.behind_priors i.behind_subsequents w4 i.subsequents subsequents;
        eol = eol_spelled w4;
        body = body_at indentation r.body n after b.0 b.1 l;
      }
