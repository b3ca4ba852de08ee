-- Parameters and dependencies are derived again.
use Rattle.std.proofs.Common.{◌≡◌, ℕ, Bool, true, false, ◌&&◌, List, [], ◌∷◌, Option, Some, None, refl, sym, ap, subst, ◌∙◌, inl, inr, ◌⊎◌}
use Rattle.std.specs.Prelude.{codes, not, ◌||◌}
use Rattle.std.specs.List.{list_all}
use Rattle.std.specs.Option.{option_map_or}
use Rattle.std.specs.Str.{bytes_eq}
use Rattle.just_text.specs.Tokens.{Word}
use Rattle.just_text.specs.declared.token_kind.TokenKind.{TokenKind}
use Rattle.just_text.specs.declared.token_kind.TokenKind.TheVariants.{Asterisk, Colon, ColonColon, Dollar, Equals, Identifier, ParenL, ParenR, Plus as PlusMark}
use Rattle.tree_expressions.specs.Shape.{Shape}
use Rattle.tree_items.specs.declared.recipe.ParameterKind.{ParameterKind}
use Rattle.tree_items.specs.declared.recipe.ParameterKind.TheVariants.{Plus, Singular, Star}
use Rattle.tree_items.specs.Recipes.{ParameterShape, ArgumentShape, DependencyShape}
use Rattle.tree_items.specs.Printable.{takes_else, begins_with_else, first_is, argument_is_else, are_closed, is_closed, is_singular, parameter_is_else, are_separate}
use Rattle.parse_expressions.specs.Words.{Begins, Mark, Lacks, LacksKeyword, else_keyword, significant}
use Rattle.parse_expressions.specs.Literals.{Expansion}
use Rattle.parse_recipes.specs.Headers.{IsPath, IsKind, IsExported, IsDefault, AreParameters, IsStarred, AreArguments, IsDependency, AreDependencies}
use Rattle.laws_printing.specs.Printing.Words.{word, words_of}
use Rattle.laws_printing.specs.Printing.ItemWords.{if_there, kind_words, default_words, parameters_words, arguments_words, called_words, dependencies_words}
use Rattle.laws_printing.proofs.Printing.Heads.{head, head_mark, first_of, head_is, lacks_else, lacks_alike, quiet_alike, lacks_other, no_else, other_name}
use Rattle.laws_printing.proofs.Printing.Items.{path_spelled}
use Rattle.laws_printing.proofs.Printing.Spelled.{derived}

head_path : (path : List (List ℕ)) (words rest : List Word) → IsPath path words rest → head words ≡ Some Identifier
head_path [] words rest i = absurd i
head_path (name ∷ []) words rest i = ap head i.0
head_path (name ∷ next ∷ names) words rest i = ap head i.2

path_ends : (path : List (List ℕ)) (words rest : List Word) → IsPath path words rest → Lacks ColonColon rest
path_ends [] words rest i = absurd i
path_ends (name ∷ []) words rest i = i.1
path_ends (name ∷ next ∷ names) words rest i = path_ends (next ∷ names) i.1 rest i.4

-- a test that came out so, of two
both : (a b : Bool) → a && b ≡ true → (a ≡ true) × (b ≡ true)
both true b h = (refl, h)
both false b h = absurd cc

not_then : (a b : Bool) → (not a || not b) ≡ true → a ≡ true → b ≡ false
not_then true true h t = absurd cc
not_then true false h t = refl
not_then false b h t = absurd cc

starred_spelled : (b : Bool) (after : List Word) → IsStarred b (significant (if_there b (word Asterisk (codes "*")) after)) (significant after)
starred_spelled true after = (codes "*", refl)
starred_spelled false after = refl

abbrev if_starred : Bool → TokenKind → TokenKind
if_starred true k = Asterisk
if_starred false k = k

abbrev first_argument : List ArgumentShape → TokenKind
first_argument [] = ParenR
first_argument (x ∷ xs) = if_starred x.starred (first_of x.expression)

module _ (expansion : Expansion) where
  -- ---- arguments

  head_starred : (b : Bool) (k : TokenKind) (words a : List Word) → IsStarred b words a → head a ≡ Some k → head words ≡ Some (if_starred b k)
  head_starred true k words a s h = head_mark Asterisk words a s
  head_starred false k words a s h = ap head s ∙ h

  head_arguments : (xs : List ArgumentShape) (words rest : List Word) → AreArguments expansion xs words rest → head words ≡ Some (first_argument xs)
  head_arguments [] words rest i = ap head i.1
  head_arguments (x ∷ xs) words rest i = head_starred x.starred (first_of x.expression) words i.1.0 i.1.1 (head_is expansion x.expression i.1.0 i.0 i.1.2.is)

  else_starred : (b other : Bool) (words a : List Word) → IsStarred b words a → (other ≡ false → LacksKeyword else_keyword a) → not b && other ≡ false → LacksKeyword else_keyword words
  else_starred true other words a s l n = no_else Asterisk words (head_mark Asterisk words a s) (λ p. absurd cc)
  else_starred false other words a s l n = subst (LacksKeyword else_keyword) (sym s) (l n)

  else_arguments : (xs : List ArgumentShape) (words rest : List Word) → AreArguments expansion xs words rest → first_is argument_is_else xs ≡ false → LacksKeyword else_keyword words
  else_arguments [] words rest i n = no_else ParenR words (ap head i.1) (λ p. absurd cc)
  else_arguments (x ∷ xs) words rest i n = else_starred x.starred (begins_with_else x.expression) words i.1.0 i.1.1 (λ m. lacks_else expansion x.expression i.1.0 i.0 i.1.2.is m) n

  arguments_spelled : (xs : List ArgumentShape) (words rest after : List Word) → AreArguments expansion xs words rest → are_closed xs ≡ true → AreArguments expansion xs (significant (arguments_words xs after)) (significant after)
  arguments_spelled [] words rest after i c = (codes ")", refl)
  arguments_spelled (x ∷ xs) words rest after i c =
      let c' = both (not (takes_else x.expression) || not (first_is argument_is_else xs)) (are_closed xs) c in
      let others = arguments_spelled xs i.0 rest after i.2 c'.1 in
      let alike = head_arguments xs i.0 rest i.2 ∙ sym (head_arguments xs (significant (arguments_words xs after)) (significant after) others) in
      let e = derived expansion 256 6 i.1.0 i.0 (arguments_words xs after) x.expression i.1.2 (quiet_alike i.0 (significant (arguments_words xs after)) alike)
      (λ t. else_arguments xs (significant (arguments_words xs after)) (significant after) others (not_then (takes_else x.expression) (first_is argument_is_else xs) c'.0 t)) in
      (_, (_, starred_spelled x.starred (words_of x.expression (arguments_words xs after)), e), others)

  -- ---- dependencies

  first_dependency : (d : DependencyShape) (words rest : List Word) → IsDependency expansion d words rest → (head words ≡ Some Identifier) ⊎ (head words ≡ Some ParenL)
  first_dependency d words rest (inl w) = inl (head_path d.path words rest w.0)
  first_dependency d words rest (inr w) = inr (head_mark ParenL words w.0 w.2)

  called_spelled : (path : List (List ℕ)) (xs : List ArgumentShape) (words rest : List Word) → IsDependency expansion (record { path = path; arguments = xs }) words rest → are_closed xs ≡ true → (after : List Word) → Lacks ColonColon (significant after)
      → IsDependency expansion (record { path = path; arguments = xs }) (significant (called_words path xs after)) (significant after)
  called_spelled path [] words rest (inl w) c after l = inl (path_spelled path words rest w.0 after l, refl)
  called_spelled path [] words rest (inr w) c after l = inl (path_spelled path w.0 w.1 w.3 after l, refl)
  called_spelled path (x ∷ xs) words rest (inl w) c after l = let p = w.1 in absurd cc
  called_spelled path (x ∷ xs) words rest (inr w) c after l =
      let inside = arguments_spelled (x ∷ xs) w.1 rest after w.4 c in
      let alike = head_arguments (x ∷ xs) w.1 rest w.4 ∙ sym (head_arguments (x ∷ xs) (significant (arguments_words (x ∷ xs) after)) (significant after) inside) in
      let separate = lacks_alike ColonColon w.1 (significant (arguments_words (x ∷ xs) after)) alike (path_ends path w.0 w.1 w.3) in
      inr (_, _, (codes "(", refl), path_spelled path w.0 w.1 w.3 (arguments_words (x ∷ xs) after) separate, inside, w.5)

  no_path : (ds : List DependencyShape) (words rest : List Word) → AreDependencies expansion ds words rest → Lacks ColonColon rest → Lacks ColonColon words
  no_path [] words rest i l = subst (Lacks ColonColon) (sym i) l
  no_path (d ∷ ds) words rest i l =
      elim (first_dependency d words i.0 i.1) [
        | inl h ↦ lacks_other Identifier ColonColon words h (λ p. absurd cc)
        | inr h ↦ lacks_other ParenL ColonColon words h (λ p. absurd cc)
      ]

  pub dependencies_spelled : (ds : List DependencyShape) (words rest after : List Word) → AreDependencies expansion ds words rest → list_all is_closed ds ≡ true → Lacks ColonColon (significant after)
      → AreDependencies expansion ds (significant (dependencies_words ds after)) (significant after)
  dependencies_spelled [] words rest after i c l = refl
  dependencies_spelled (d ∷ ds) words rest after i c l =
      let c' = both (are_closed d.arguments) (list_all is_closed ds) c in
      let others = dependencies_spelled ds i.0 rest after i.2 c'.1 l in
      (_, called_spelled d.path d.arguments words i.0 i.1 c'.0 (dependencies_words ds after) (no_path ds (significant (dependencies_words ds after)) (significant after) others l), others)

  -- ---- parameters

  abbrev first_parameter : ParameterKind → Bool → TokenKind
  first_parameter Plus export = PlusMark
  first_parameter Star export = Asterisk
  first_parameter Singular true = Dollar
  first_parameter Singular false = Identifier

  head_marks : (kind : ParameterKind) (export : Bool) (words a b c : List Word) (name : List ℕ) → IsKind kind words a → IsExported export a b → Begins Identifier name b c → head words ≡ Some (first_parameter kind export)
  head_marks Plus export words a b c name k e n = head_mark PlusMark words a k
  head_marks Star export words a b c name k e n = head_mark Asterisk words a k
  head_marks Singular true words a b c name k e n = ap head k ∙ head_mark Dollar a b e
  head_marks Singular false words a b c name k e n = ap head k ∙ ap head e ∙ ap head n

  abbrev first_after : List ParameterShape → TokenKind
  first_after [] = Colon
  first_after (p ∷ ps) = first_parameter p.kind p.export

  head_parameters : (ps : List ParameterShape) (words rest old : List Word) → AreParameters expansion ps words rest → Mark Colon rest old → head words ≡ Some (first_after ps)
  head_parameters [] words rest old i m = ap head i ∙ head_mark Colon rest old m
  head_parameters (p ∷ ps) words rest old i m = let q = i.1 in head_marks p.kind p.export words q.behind_mark q.behind_dollar q.behind_name p.name q.kind q.export q.name

  else_marks : (kind : ParameterKind) (export : Bool) (words a b c : List Word) (name : List ℕ) → IsKind kind words a → IsExported export a b → Begins Identifier name b c → is_singular kind && not export && bytes_eq name else_keyword ≡ false → LacksKeyword else_keyword words
  else_marks Plus export words a b c name k e n o = no_else PlusMark words (head_mark PlusMark words a k) (λ p. absurd cc)
  else_marks Star export words a b c name k e n o = no_else Asterisk words (head_mark Asterisk words a k) (λ p. absurd cc)
  else_marks Singular true words a b c name k e n o = no_else Dollar words (ap head k ∙ head_mark Dollar a b e) (λ p. absurd cc)
  else_marks Singular false words a b c name k e n o = other_name name words c (k ∙ e ∙ n) o

  else_parameters : (ps : List ParameterShape) (words rest old : List Word) → AreParameters expansion ps words rest → Mark Colon rest old → first_is parameter_is_else ps ≡ false → LacksKeyword else_keyword words
  else_parameters [] words rest old i m n = no_else Colon words (ap head i ∙ head_mark Colon rest old m) (λ p. absurd cc)
  else_parameters (p ∷ ps) words rest old i m n = let q = i.1 in else_marks p.kind p.export words q.behind_mark q.behind_dollar q.behind_name p.name q.kind q.export q.name n

  kind_spelled : (kind : ParameterKind) (after : List Word) → IsKind kind (significant (kind_words kind after)) (significant after)
  kind_spelled Plus after = (codes "+", refl)
  kind_spelled Singular after = refl
  kind_spelled Star after = (codes "*", refl)

  exported_spelled : (export : Bool) (after : List Word) → IsExported export (significant (if_there export (word Dollar (codes "$")) after)) (significant after)
  exported_spelled true after = (codes "$", refl)
  exported_spelled false after = refl

  default_spelled : (o : Option Shape) (words rest after : List Word) → IsDefault expansion o words rest → head rest ≡ head (significant after) → (option_map_or takes_else o false ≡ true → LacksKeyword else_keyword (significant after))
      → IsDefault expansion o (significant (default_words o after)) (significant after)
  default_spelled None words rest after i alike c = (refl, lacks_alike Equals words (significant after) (ap head i.0 ∙ alike) i.1)
  default_spelled (Some e) words rest after i alike c = (_, (codes "=", refl), derived expansion 256 0 i.0 rest after e i.2 (quiet_alike rest (significant after) alike) c)

  pub parameters_spelled : (ps : List ParameterShape) (words rest next old after : List Word) → AreParameters expansion ps words rest → Mark Colon rest old → are_separate ps ≡ true → Mark Colon (significant after) next
      → AreParameters expansion ps (significant (parameters_words ps after)) (significant after)
  parameters_spelled [] words rest next old after i m c n = refl
  parameters_spelled (p ∷ ps) words rest next old after i m c n =
      let c' = both (not (option_map_or takes_else p.default false) || not (first_is parameter_is_else ps)) (are_separate ps) c in
      let others = parameters_spelled ps i.0 rest next old after i.2 m c'.1 n in
      let ws = parameters_words ps after in
      let alike = head_parameters ps i.0 rest old i.2 m ∙ sym (head_parameters ps (significant ws) (significant after) next others n) in
      let q = i.1 in
      let d = default_spelled p.default q.behind_name i.0 ws q.default alike (λ t. else_parameters ps (significant ws) (significant after) next others n (not_then (option_map_or takes_else p.default false) (first_is parameter_is_else ps) c'.0 t)) in (
        _,
        record {
          behind_mark = _;
          behind_dollar = _;
          behind_name = _;
          kind = kind_spelled p.kind (if_there p.export (word Dollar (codes "$")) (word Identifier p.name ∷ default_words p.default ws));
          export = exported_spelled p.export (word Identifier p.name ∷ default_words p.default ws);
          name = refl;
          default = d;
        },
        others,
        i.3,
      )
