-- The features of lists of each form, and the first one of a row.
use Rattle.std.proofs.Common.{◌≡◌, ◌∙◌, ◌<◌, ◌+◌, ℕ, suc, List, [], ◌∷◌, ◌++◌, map, drop, length, get_or, Option, Some, None, ap, sym, refl, rules, true, false, drop-cons, add-one, append-nil}
use Rattle.std.specs.Prelude.{is_some}
use Rattle.std.specs.Option.{option_or}
use Rattle.std.specs.Global.{Box, Vec}
use Rattle.std.specs.List.{flat_map}
use Rattle.just_text.specs.declared.name.Name.{Name}
use Rattle.just_text.specs.declared.token.Token.{Token}
use Rattle.tree_expressions.specs.declared.string_literal.StringLiteral.{StringLiteral}
use Rattle.tree_expressions.specs.declared.expression.Expression.{Expression, Assert, Call, FormatString, Join, the_lemmas}
use Rattle.just_text.specs.Tokens.{lexeme}
use Rattle.tree_expressions.specs.Operators.{joining}
use Rattle.tree_expressions.specs.Shape.{Shape, shape_of, shapes_from, interpolations_from, written, call, format, assertion, assertion_alone, rooted, binary}
use Rattle.tree_items.specs.declared.ast.ListFeature.{ListFeature}
use Rattle.just_modules.specs.declared.lists.ListUse.{ListUse}
use Rattle.meaning_rules.specs.Rules.{lists_in, lists_among, lists_between}
use Rattle.just_modules.specs.Lists.{feature_of, first, in_expression, in_condition, in_boxed, in_interpolation}

pub first_both : (a b : List ListFeature) → option_or (first a) (first b) ≡ first (a ++ b)
first_both [] b = refl
first_both (x ∷ xs) b = refl

pub first_three : (a b c : List ListFeature) → option_or (first a) (option_or (first b) (first c)) ≡ first (a ++ b ++ c)
first_three [] b c = first_both b c
first_three (x ∷ xs) b c = refl

no_first : (a : List ListFeature) → first a ≡ None → a ≡ []
no_first [] e = refl
no_first (x ∷ xs) e = cc

nothing : (used : Option ListUse) → is_some used ≡ false → feature_of used ≡ None
nothing None e = refl
nothing (Some u) e = cc

first_part : (a b : List ListFeature) (used : Option ListUse) → feature_of used ≡ first a → is_some used ≡ true → first a ≡ first (a ++ b)
first_part [] b None says some = cc
first_part [] b (Some u) says some = cc
first_part (x ∷ xs) b used says some = refl

module _ {A : Type 0} (f : A → List ListFeature) where
  pub row_begins : (xs : List A) → flat_map f xs ≡ flat_map f (drop 0 xs)
  row_begins xs = refl

  cut_row : (xs : List A) (i : ℕ) (x : A) → i < length xs → x ≡ get_or xs i x → flat_map f (drop i xs) ≡ f x ++ flat_map f (drop (suc i) xs)
  cut_row xs i x lt is = ap (flat_map f) (drop-cons xs i x lt) ∙ ap (λ y. f y ++ flat_map f (drop (suc i) xs)) (sym is)

  pub row_goes_on : (xs : List A) (i : ℕ) (x : A) (used : Option ListUse) → flat_map f xs ≡ flat_map f (drop i xs) → i < length xs → x ≡ get_or xs i x → feature_of used ≡ first (f x) → is_some used ≡ false → flat_map f xs ≡ flat_map f (drop (i + 1) xs)
  row_goes_on xs i x used h lt is says none =
      h ∙ cut_row xs i x lt is ∙ ap (λ ys. ys ++ flat_map f (drop (suc i) xs)) (no_first (f x) (sym says ∙ nothing used none)) ∙ ap (λ k. flat_map f (drop k xs)) (sym (add-one i))

  pub row_found : (xs : List A) (i : ℕ) (x : A) (used : Option ListUse) → flat_map f xs ≡ flat_map f (drop i xs) → i < length xs → x ≡ get_or xs i x → feature_of used ≡ first (f x) → is_some used ≡ true → feature_of used ≡ first (flat_map f xs)
  row_found xs i x used h lt is says some = says ∙ first_part (f x) (flat_map f (drop (suc i) xs)) used says some ∙ ap first (sym (h ∙ cut_row xs i x lt is))

  pub rest_goes_on : (xs ys zs : List A) (x : A) (used : Option ListUse) → flat_map f xs ≡ flat_map f ys → ys ≡ x ∷ zs → feature_of used ≡ first (f x) → is_some used ≡ false → flat_map f xs ≡ flat_map f zs
  rest_goes_on xs ys zs x used h is says none = h ∙ ap (flat_map f) is ∙ ap (λ fs. fs ++ flat_map f zs) (no_first (f x) (sym says ∙ nothing used none))

  pub rest_found : (xs ys zs : List A) (x : A) (used : Option ListUse) → flat_map f xs ≡ flat_map f ys → ys ≡ x ∷ zs → feature_of used ≡ first (f x) → is_some used ≡ true → feature_of used ≡ first (flat_map f xs)
  rest_found xs ys zs x used h is says some = says ∙ first_part (f x) (flat_map f zs) used says some ∙ ap first (sym (h ∙ ap (flat_map f) is))

-- ---- forms with parts that lie in a row or may be missing

in_shapes : (es : List Expression) → lists_among (shapes_from (map shape_of es)) ≡ flat_map in_expression es
unfolding lists_among
in_shapes [] = refl
in_shapes (e ∷ es) = ap (λ fs. in_expression e ++ fs) (in_shapes es)

pub call_has : (name : Name) (es : Vec Expression) → in_expression (Call name es) ≡ flat_map in_expression es.items
unfolding lists_in
call_has name es =
    let held : shape_of (Call name es) ≡ call (lexeme name.token) (shapes_from (map shape_of es.items)) = search (rules, the_lemmas) in
    ap (λ s. lists_in false s) held ∙ in_shapes es.items

abbrev beside : Expression × StringLiteral → Shape × StringLiteral
beside part = (shape_of part.0, part.1)

in_parts : (es : List (Expression × StringLiteral)) → lists_between (interpolations_from (map beside es)) ≡ flat_map in_interpolation es
unfolding lists_between
in_parts [] = refl
in_parts (e ∷ es) = ap (λ fs. in_expression e.0 ++ fs) (in_parts es)

pub format_has : (start : StringLiteral) (es : Vec (Expression × StringLiteral)) → in_expression (FormatString start es) ≡ flat_map in_interpolation es.items
unfolding lists_in
format_has start es =
    let held : shape_of (FormatString start es) ≡ format (written start) (interpolations_from (map beside es.items)) = search (rules, the_lemmas) in
    ap (λ s. lists_in false s) held ∙ in_parts es.items

pub assertion_has : (c : Box Expression) (m : Option (Box Expression)) (name : Name) → in_expression (Assert c m name) ≡ in_condition c.value ++ in_boxed m
unfolding lists_in
assertion_has c None name =
    let held : shape_of (Assert c None name) ≡ assertion_alone (shape_of c.value) = search (rules, the_lemmas) in
    ap (λ s. lists_in false s) held ∙ sym (append-nil (in_condition c.value))
assertion_has c (Some m) name =
    let held : shape_of (Assert c (Some m) name) ≡ assertion (shape_of c.value) (shape_of m.value) = search (rules, the_lemmas) in
    ap (λ s. lists_in false s) held

pub join_has : (l : Option (Box Expression)) (token : Token) (r : Box Expression) → in_expression (Join l token r) ≡ in_boxed l ++ in_expression r.value
unfolding lists_in
join_has None token r =
    let held : shape_of (Join None token r) ≡ rooted (shape_of r.value) = search (rules, the_lemmas) in
    ap (λ s. lists_in false s) held
join_has (Some l) token r =
    let held : shape_of (Join (Some l) token r) ≡ binary joining (shape_of l.value) (shape_of r.value) = search (rules, the_lemmas) in
    ap (λ s. lists_in false s) held
