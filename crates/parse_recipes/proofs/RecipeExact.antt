-- A recipe is read where it is spelled, and only there.
use Rattle.std.proofs.Common.{◌≡◌, ℕ, suc, List, [], ◌∷◌, length, map, Ok, refl, sym, ap, ◌∙◌, arith}
use Rattle.just_text.specs.Tokens.{Word}
use Rattle.just_text.specs.declared.token_kind.TokenKind.TheVariants.{AmpersandAmpersand, At, Colon, Identifier, ParenL}
use Rattle.tree_items.specs.Recipes.{DependencyShape, RecipeShape}
use Rattle.parse_expressions.specs.Words.{Mark}
use Rattle.parse_expressions.specs.Literals.{Expansion}
use Rattle.parse_expressions.specs.Laws.{Exactly}
use Rattle.parse_expressions.specs.LineEnds.{IsEol}
use Rattle.parse_recipes.specs.Headers.{AreDistinct, parameter_name, AreParameters, AreDependencies, AreSubsequents, IsRecipe}
use Rattle.parse_recipes.specs.Reading.{Header, marked_at, header_at, recipe_from, recipe_at}
use Rattle.parse_recipes.specs.Laws.{RecipesExactly, PathsExactly, EolsExactly, AtMostOneRecipe}
use Rattle.parse_expressions.proofs.TokensTaken.{lacks, expect_begins, expect_mark, taken, same_words, Reads}
use Rattle.parse_recipes.proofs.RecipeMarks.{quiet, quiet-mark, marked_found, marked_again}
use Rattle.parse_expressions.proofs.LineEnds.{eol_lacks, eol_found, eol_again}
use Rattle.parse_recipes.proofs.RecipePaths.{path_found, path_again}
use Rattle.parse_recipes.proofs.Distinct.{nothing_before}
use Rattle.parse_recipes.proofs.RecipeBodies.{body_found, body_again}
use Rattle.parse_recipes.proofs.RecipeParameters.{parameters_found, parameters_again}
use Rattle.parse_recipes.proofs.RecipeDependencies.{NoDependency, dependencies_found, subsequents_found, dependencies_again, subsequents_again}
use Rattle.parse_expressions.proofs.Taken.{bind_ok, turned, ok_is}

-- what stands between a recipe's name and the end of its first line
record IsHeader (expansion : Expansion) (h : Header) (ws rest : List Word) : Type 0 where
  behind_parameters : List Word
  behind_colon : List Word
  behind_priors : List Word
  behind_subsequents : List Word
  parameters : AreParameters expansion h.parameters ws behind_parameters
  distinct : AreDistinct (map parameter_name h.parameters)
  colon : Mark Colon behind_parameters behind_colon
  priors : AreDependencies expansion h.priors behind_colon behind_priors
  subsequents : AreSubsequents expansion h.subsequents behind_priors behind_subsequents
  eol : IsEol behind_subsequents rest

no_dependency-eol : (ws rest : List Word) → IsEol ws rest → NoDependency ws
no_dependency-eol ws rest e = (eol_lacks ParenL ws rest e refl refl refl, eol_lacks Identifier ws rest e refl refl refl)

no_dependency-subsequents : (expansion : Expansion) (ds : List DependencyShape) (ws a rest : List Word) → AreSubsequents expansion ds ws a → IsEol a rest → NoDependency ws
no_dependency-subsequents expansion [] ws a rest i e = rw i (no_dependency-eol a rest e)
no_dependency-subsequents expansion (d ∷ ds) ws a rest i e = (lacks AmpersandAmpersand ParenL ws i.0 i.1 refl, lacks AmpersandAmpersand Identifier ws i.0 i.1 refl)

header_of : RecipeShape → Header
header_of r = record { parameters = r.parameters; priors = r.priors; subsequents = r.subsequents }

module _ {T : Type 0} (word : T → Word) (expansion : Expansion) (exactly : (levels k : ℕ) → Exactly word expansion levels k) where
  header_found : (ts : List T) (p : Header × List T) → header_at word expansion ts ≡ Ok p → IsHeader expansion p.0 (map word ts) (map word p.1)
  unfolding header_at
  header_found ts p h =
      let ps = bind_ok _ _ p h in
      let c = bind_ok _ _ p ps.2 in
      let ds = bind_ok _ _ p c.2 in
      let ss = bind_ok _ _ p ds.2 in
      let rest = bind_ok _ _ p ss.2 in
      let f = parameters_found word expansion exactly (suc (length ts)) [] ts ps.0 ps.1 in
      turned (λ (z : Header × List T). IsHeader expansion z.0 (map word ts) (map word z.1)) (record { parameters = ps.0.0; priors = ds.0.0; subsequents = ss.0.0 }, rest.0) p rest.2
      (record {
        behind_parameters = map word ps.0.1;
        behind_colon = map word c.0.1;
        behind_priors = map word ds.0.1;
        behind_subsequents = map word ss.0.1;
        parameters = f.are;
        distinct = f.distinct;
        colon = expect_mark word Colon ps.0.1 c.0 c.1;
        priors = dependencies_found word expansion exactly c.0.1 ds.0 ds.1;
        subsequents = subsequents_found word expansion exactly ds.0.1 ss.0 ss.1;
        eol = eol_found word ss.0.1 rest.0 rest.1;
      })

  header_again : (h : Header) (ts : List T) (ws : List Word) → IsHeader expansion h (map word ts) ws → Reads word (header_at word expansion ts) h ws
  unfolding header_at
  header_again h ts ws i =
      let ps = parameters_again word expansion exactly h.parameters (suc (length ts)) [] ts i.behind_parameters i.behind_colon (omega arith) i.parameters i.distinct (nothing_before (map parameter_name h.parameters)) i.colon in
      let c = taken word Colon i.colon.0 ps.rest i.behind_colon (rw ps.others i.colon.1) in
      let ds = dependencies_again word expansion exactly h.priors c.rest i.behind_priors (no_dependency-subsequents expansion h.subsequents i.behind_priors i.behind_subsequents ws i.subsequents i.eol) (rw c.others i.priors) in
      let ss = subsequents_again word expansion exactly h.subsequents ds.rest i.behind_subsequents (no_dependency-eol i.behind_subsequents ws i.eol) (eol_lacks AmpersandAmpersand i.behind_subsequents ws i.eol refl refl refl) (rw ds.others i.subsequents) in
      let e = eol_again word ss.rest ws (rw ss.others i.eol) in
      record { rest = e.rest; is = rw (ps.is, c.expects, ds.is, ss.is, e.is) (refl {a = Ok (h, e.rest)}); others = e.others }

  recipe_found : (ts rest : List T) (r : RecipeShape) (blanks : ℕ) → recipe_at word expansion ts ≡ Ok ((r, blanks), rest) → IsRecipe expansion r blanks (map word ts) (map word rest)
  unfolding recipe_at
  recipe_found ts rest r blanks g =
      let p : (RecipeShape × ℕ) × List T = ((r, blanks), rest) in
      let t = bind_ok _ _ p g in
      let h = bind_ok _ _ p t.2 in
      let b = bind_ok _ _ p h.2 in
      let i = header_found t.0.1 h.0 h.1 in
      turned (λ (z : (RecipeShape × ℕ) × List T). IsRecipe expansion z.0.0 z.0.1 (map word ts) (map word z.1)) ((recipe_from word expansion (marked_at word At ts).0 (word t.0.0).text h.0.0 b.0.0.0, b.0.0.1), b.0.1) p b.2
      (record {
        behind_at = map word (marked_at word At ts).1;
        behind_name = map word t.0.1;
        behind_parameters = i.behind_parameters;
        behind_colon = i.behind_colon;
        behind_priors = i.behind_priors;
        behind_subsequents = i.behind_subsequents;
        behind_header = map word h.0.1;
        at = quiet _ _ _ (marked_found word At ts);
        name = expect_begins word Identifier (marked_at word At ts).1 t.0 t.1;
        parameters = i.parameters;
        distinct = i.distinct;
        colon = i.colon;
        priors = i.priors;
        subsequents = i.subsequents;
        eol = i.eol;
        body = body_found word expansion exactly h.0.1 b.0.0.0 b.0.0.1 b.0.1 b.1;
      })

  recipe_again : (ts : List T) (ws : List Word) (r : RecipeShape) (blanks : ℕ) → IsRecipe expansion r blanks (map word ts) ws → Reads word (recipe_at word expansion ts) (r, blanks) ws
  unfolding recipe_at header_of
  recipe_again ts ws r blanks i =
      let q = marked_again word At r.quiet ts i.behind_at (quiet-mark r.quiet (map word ts) i.behind_at i.at) (lacks Identifier At i.behind_at i.behind_name (r.name, i.name) refl) in
      let t = taken word Identifier r.name q.rest i.behind_name (rw q.others i.name) in
      let hi : IsHeader expansion (header_of r) i.behind_name i.behind_header = record {
        behind_parameters = i.behind_parameters;
        behind_colon = i.behind_colon;
        behind_priors = i.behind_priors;
        behind_subsequents = i.behind_subsequents;
        parameters = i.parameters;
        distinct = i.distinct;
        colon = i.colon;
        priors = i.priors;
        subsequents = i.subsequents;
        eol = i.eol;
      } in
      let h = header_again (header_of r) t.rest i.behind_header (rw t.others hi) in
      let b = body_again word expansion exactly r.body blanks h.rest ws (rw h.others i.body) in
      record { rest = b.rest; is = rw (q.is, t.expects, h.is, b.is, t.says) (refl {a = Ok ((r, blanks), b.rest)}); others = b.others }

  pub recipes_exactly : RecipesExactly word expansion
  recipes_exactly = record { found = λ ts rest r blanks h. recipe_found ts rest r blanks h; only = λ ts rest r blanks i. let x = recipe_again ts rest r blanks i in (x.rest, x.is, x.others) }

module _ {T : Type 0} (word : T → Word) where
  pub paths_exactly : PathsExactly word
  paths_exactly = record { found = λ ts rest path h. path_found word ts (path, rest) h; only = λ ts rest path i. let x = path_again word path ts rest i in (x.rest, x.is, x.others) }

  pub eols_exactly : EolsExactly word
  eols_exactly = record { found = λ ts rest h. eol_found word ts rest h; only = λ ts rest i. let x = eol_again word ts rest i in (x.rest, x.is, x.others) }

-- ---- words derive at most one recipe

module _ (exactly : (expansion : Expansion) (levels k : ℕ) → Exactly (λ (w : Word). w) expansion levels k) where
  pub one : AtMostOneRecipe
  one expansion words rest rest' r r' blanks blanks' i i' =
      let a = recipe_again (λ (w : Word). w) expansion (exactly expansion) words rest r blanks (rw (same_words words) i) in
      let b = recipe_again (λ (w : Word). w) expansion (exactly expansion) words rest' r' blanks' (rw (same_words words) i') in
      let p : ((r, blanks), a.rest) ≡ ((r', blanks'), b.rest) = ok_is _ _ (sym a.is ∙ b.is) in (
        ap (λ (z : (RecipeShape × ℕ) × List Word). z.0.0) p,
        ap (λ (z : (RecipeShape × ℕ) × List Word). z.0.1) p,
        sym a.others ∙ ap (λ (z : (RecipeShape × ℕ) × List Word). map (λ w. w) z.1) p ∙ b.others,
      )
