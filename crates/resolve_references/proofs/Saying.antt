-- What is seen says what it said, in rows.
use Rattle.std.proofs.Common.{◌≡◌, ◌∙◌, ℕ, suc, List, [], ◌∷◌, ◌++◌, map, Option, Some, None, refl, sym, ap, ap₂, arith}
use Rattle.std.specs.List.{flat_map}
use Rattle.std.proofs.lemmas.List.{map-append}
use Rattle.std.proofs.lemmas.Simd.{map-map}
use Rattle.tree_expressions.specs.Numbering.{AreNumbered, IsNumbered, literals_of, texts_of, tokens_of}
use Rattle.tree_expressions.specs.Shape.{Shape, shape_of}
use Rattle.tree_expressions.specs.declared.expression.Expression.{Expression}
use Rattle.tree_items.specs.Contexts.{parameter_number}
use Rattle.tree_items.specs.declared.recipe.DependencyArgument.{DependencyArgument}
use Rattle.tree_items.specs.declared.recipe.Parameter.{Parameter}
use Rattle.tree_items.specs.declared.recipe.Recipe.{Recipe}
use Rattle.tree_items.specs.declared.recipe.UnresolvedDependency.{UnresolvedDependency}
use Rattle.tree_attributes.specs.Attributes.{AttributeShape, attribute_shape, plain, with_interpreter, with_options, with_pair, with_prompt, with_string, with_strings}
use Rattle.tree_attributes.specs.declared.attribute.Attribute.{Attribute}
use Rattle.tree_attributes.specs.declared.attribute.Attribute.TheVariants.{Android, Arg, Cache, Confirm, Default, Doc, Dragonfly, Env, ExitMessage, Extension, Freebsd, Group, Linux, Macos, Metadata, Netbsd, NoCd, NoExitMessage, NoQuiet, Openbsd, Parallel, PositionalArguments, Private, Script, Unix, Windows, WorkingDirectory}
use Rattle.tree_attributes.specs.Sets.Numbering.{AreNumberedItems, IsNumberedAttribute, expressions_of, key_of, value_of}
use Rattle.tree_attributes.specs.Sets.Sets.{items_of}
use Rattle.tree_attributes.specs.declared.attribute_item.AttributeItem.{AttributeItem}
use Rattle.resolve_references.specs.Numbered.{bare_parameter, bare_parameters}
use Rattle.resolve_references.specs.Said.{Said, SayTheSame, said_by, said_of}
use Rattle.resolve_references.specs.Seen.{Seen, seeing, seeing_if_there, seen_in_attribute, seen_in_attributes, seen_in_body, seen_in_dependencies, seen_in_parameters, seen_in_recipe}
use Rattle.resolve_references.proofs.Earlier.{own}

-- an expression that is numbered says what it said
pub numbered_says : (number : List ℕ → Option ℕ) (old new : Expression) → IsNumbered number old new → said_of new ≡ said_of old
numbered_says number old new is =
    let shape = is.shape in
    let texts = is.texts in
    let tokens = is.tokens in
    let literals = is.literals in
    cc

-- so does each of a row
pub row_says : (number : List ℕ → Option ℕ) (old new : List Expression) → AreNumbered number old new → map said_of new ≡ map said_of old
row_says number [] [] are = refl
row_says number (x ∷ xs) [] are = let shapes = are.shapes in absurd (cc shapes)
row_says number [] (y ∷ ys) are = let shapes = are.shapes in absurd (cc shapes)
row_says number (x ∷ xs) (y ∷ ys) are =
    let shapes = are.shapes in
    let texts = are.texts in
    let tokens = are.tokens in
    let literals = are.literals in
    let numbers = are.numbers in
    let shape : shape_of y ≡ shape_of x = cc shapes in
    let text : texts_of y ≡ texts_of x = cc texts in
    let token : tokens_of y ≡ tokens_of x = cc tokens in
    let literal : literals_of y ≡ literals_of x = cc literals in
    let first : said_of y ≡ said_of x = cc in
    let later = row_says number xs ys (record { shapes = cc shapes; texts = cc texts; tokens = cc tokens; literals = cc literals; numbers = cc numbers }) in
    ap₂ ◌∷◌ first later

-- one that is seen alone says what it said
pub expression_says : (old new : Expression) → said_of new ∷ [] ≡ said_of old ∷ [] → said_of new ≡ said_of old
expression_says old new same = cc same

-- what rows say that are seen together
pub said_append : (xs ys : List Seen) → said_by (xs ++ ys) ≡ said_by xs ++ said_by ys
said_append xs ys = map-append (λ (s : Seen). said_of s.expression) xs ys

pub both_say : (a b c d : List Seen) → said_by a ≡ said_by c → said_by b ≡ said_by d → said_by (a ++ b) ≡ said_by (c ++ d)
both_say a b c d first later = said_append a b ∙ ap₂ ◌++◌ first later ∙ sym (said_append c d)

-- where each of a row says what it said, so does the row
pub all_say : {A : Type 0} (f : A → List Seen) (old new : List A) → map (λ x. said_by (f x)) new ≡ map (λ x. said_by (f x)) old → said_by (flat_map f new) ≡ said_by (flat_map f old)
all_say f [] [] same = refl
all_say f (x ∷ xs) [] same = absurd (cc same)
all_say f [] (y ∷ ys) same = absurd (cc same)
all_say f (x ∷ xs) (y ∷ ys) same = both_say (f y) (flat_map f ys) (f x) (flat_map f xs) (cc same) (all_say f xs ys (cc same))

-- the same of a row of expressions
pub seen_row : (names : List (List ℕ × ℕ)) (es : List Expression) → said_by (map (seeing names) es) ≡ map said_of es
seen_row names es = map-map (λ (s : Seen). said_of s.expression) (seeing names) es

-- and of the arguments of a dependency
pub seen_arguments : (names : List (List ℕ × ℕ)) (as' : List DependencyArgument) → said_by (map (λ (a : DependencyArgument). seeing names a.expression) as') ≡ map (λ (a : DependencyArgument). said_of a.expression) as'
seen_arguments names as' = map-map (λ (s : Seen). said_of s.expression) (λ (a : DependencyArgument). seeing names a.expression) as'

-- ---- parameters

-- what belongs to a parameter says the same, whatever names it sees
pub own_says : (names : List (List ℕ × ℕ)) (p : Parameter) → said_by (own names p) ≡ said_by (own [] p)
own_says names p = both_say (seeing_if_there names p.default) (seeing_if_there names p.value) (seeing_if_there [] p.default) (seeing_if_there [] p.value) (if_there_says p.default) (if_there_says p.value)
  where
    if_there_says : (o : Option Expression) → said_by (seeing_if_there names o) ≡ said_by (seeing_if_there [] o)
    if_there_says None = refl
    if_there_says (Some e) = refl

abbrev pub own_said : Parameter → List Said
own_said p = said_by (own [] p)

-- where what belongs to each says what it said, so do all
pub parameters_say : (earlier before : List (List ℕ × ℕ)) (old new : List Parameter) → map own_said new ≡ map own_said old → said_by (seen_in_parameters earlier new) ≡ said_by (seen_in_parameters before old)
parameters_say earlier before [] [] same = refl
parameters_say earlier before (x ∷ xs) [] same = absurd (cc same)
parameters_say earlier before [] (y ∷ ys) same = absurd (cc same)
parameters_say earlier before (x ∷ xs) (y ∷ ys) same =
    let first : said_by (own [] y) ≡ said_by (own [] x) = cc same in
    let others = parameters_say (earlier ++ parameter_number y ∷ []) (before ++ parameter_number x ∷ []) xs ys (cc same) in
    sides (seeing_if_there earlier y.default) (seeing_if_there earlier y.value) _ (seeing_if_there before x.default) (seeing_if_there before x.value) _
    (own_says earlier y ∙ first ∙ sym (own_says before x)) others
  where
    sides : (a b c d e f : List Seen) → said_by (a ++ b) ≡ said_by (d ++ e) → said_by c ≡ said_by f → said_by (a ++ b ++ c) ≡ said_by (d ++ e ++ f)
    sides a b c d e f one other = both_say (a ++ b) c (d ++ e) f one other

-- ---- recipes

-- the name and the number of a parameter without its expressions
abbrev number_of : Parameter × Option Shape → List ℕ × ℕ
number_of b = parameter_number b.0

same_names : (old new : List Parameter) → bare_parameters new ≡ bare_parameters old → map parameter_number new ≡ map parameter_number old
same_names old new same = sym (map-map number_of bare_parameter new) ∙ ap (map number_of) same ∙ map-map number_of bare_parameter old

-- a recipe of which each part says what it said
pub recipe_says : (old new : Recipe UnresolvedDependency) → bare_parameters new.parameters.items ≡ bare_parameters old.parameters.items
    → said_by (seen_in_parameters [] new.parameters.items) ≡ said_by (seen_in_parameters [] old.parameters.items)
    → SayTheSame (λ seen. seen_in_attributes seen (items_of old.attributes)) (λ seen. seen_in_attributes seen (items_of new.attributes))
    → SayTheSame (λ seen. seen_in_dependencies seen old.priors.items) (λ seen. seen_in_dependencies seen new.priors.items)
    → SayTheSame (λ seen. seen_in_dependencies seen old.subsequents.items) (λ seen. seen_in_dependencies seen new.subsequents.items)
    → SayTheSame (λ seen. seen_in_body seen old.body.items) (λ seen. seen_in_body seen new.body.items)
    → said_by (seen_in_recipe new) ≡ said_by (seen_in_recipe old)
recipe_says old new bare inside front priors subsequents body =
    let all = map parameter_number old.parameters.items in
    ap (λ names. said_by (with_names names new)) (same_names old.parameters.items new.parameters.items bare)
    ∙ both_say _ (seen_in_body all new.body.items) _ (seen_in_body all old.body.items)
    (both_say _ (seen_in_dependencies all new.subsequents.items) _ (seen_in_dependencies all old.subsequents.items)
    (both_say _ (seen_in_dependencies all new.priors.items) _ (seen_in_dependencies all old.priors.items)
    (both_say (seen_in_attributes all (items_of new.attributes)) (seen_in_parameters [] new.parameters.items) (seen_in_attributes all (items_of old.attributes)) (seen_in_parameters [] old.parameters.items) (front all) inside)
    (priors all))
    (subsequents all))
    (body all)
  where
    with_names : List (List ℕ × ℕ) → Recipe UnresolvedDependency → List Seen
    with_names all r =
        seen_in_attributes all (items_of r.attributes)
        ++ seen_in_parameters [] r.parameters.items
        ++ seen_in_dependencies all r.priors.items
        ++ seen_in_dependencies all r.subsequents.items
        ++ seen_in_body all r.body.items

-- ---- attributes

-- what an attribute of this shape says: nothing where its expression is the value of an option, which belongs to the parameter
abbrev without_options : AttributeShape → List Said → List Said
without_options (with_options o) said = []
without_options (plain k) said = said
without_options (with_prompt e) said = said
without_options (with_pair k v) said = said
without_options (with_string k text) said = said
without_options (with_strings text texts) said = said
without_options (with_interpreter i) said = said

abbrev all_said : Attribute → List Said
all_said a = map said_of (key_of a) ++ map said_of (value_of a) ++ map said_of (expressions_of a)

-- what an attribute's expressions say is what is seen in it
attribute_said : (names : List (List ℕ × ℕ)) (a : Attribute) → said_by (seen_in_attribute names a) ≡ without_options (attribute_shape a) (all_said a)
attribute_said names Android = refl
attribute_said names Cache = refl
attribute_said names Default = refl
attribute_said names Dragonfly = refl
attribute_said names ExitMessage = refl
attribute_said names Freebsd = refl
attribute_said names Linux = refl
attribute_said names Macos = refl
attribute_said names Netbsd = refl
attribute_said names NoCd = refl
attribute_said names NoExitMessage = refl
attribute_said names NoQuiet = refl
attribute_said names Openbsd = refl
attribute_said names Parallel = refl
attribute_said names PositionalArguments = refl
attribute_said names Private = refl
attribute_said names Unix = refl
attribute_said names Windows = refl
attribute_said names (Arg options) = refl
attribute_said names (Doc None) = refl
attribute_said names (Doc (Some text)) = refl
attribute_said names (Extension text) = refl
attribute_said names (Group text) = refl
attribute_said names (Metadata a b) = refl
attribute_said names (WorkingDirectory text) = refl
attribute_said names (Script None) = refl
attribute_said names (Confirm None) = refl
attribute_said names (Confirm (Some e)) = refl
attribute_said names (Env a b) = refl
attribute_said names (Script (Some i)) = ap (λ said. said_of i.value.command ∷ said) (seen_row names i.value.arguments.items)

-- an attribute that is numbered says what it said
attribute_says : (number environment : List ℕ → Option ℕ) (old new : Attribute) → IsNumberedAttribute number environment old new → (names : List (List ℕ × ℕ)) → said_by (seen_in_attribute names new) ≡ said_by (seen_in_attribute names old)
attribute_says number environment old new is names =
    let same : all_said new ≡ all_said old = ap₂ ◌++◌ (ap₂ ◌++◌ (row_says environment (key_of old) (key_of new) is.key) (row_says environment (value_of old) (value_of new) is.value)) (row_says number (expressions_of old) (expressions_of new) is.expressions) in
    attribute_said names new
    ∙ ap (λ shape. without_options shape (all_said new)) is.shape
    ∙ ap (without_options (attribute_shape old)) same
    ∙ sym (attribute_said names old)

-- the same of a row of attributes
pub attributes_say : (number environment : List ℕ → Option ℕ) (old new : List AttributeItem) → AreNumberedItems number environment old new → SayTheSame (λ names. seen_in_attributes names old) (λ names. seen_in_attributes names new)
attributes_say number environment [] [] are names = refl
attributes_say number environment [] (y ∷ ys) are names = let many = are.many in absurd (omega (arith, many))
attributes_say number environment (x ∷ xs) [] are names = let many = are.many in absurd (omega (arith, many))
attributes_say number environment (x ∷ xs) (y ∷ ys) are names =
    let many = are.many in
    both_say (seen_in_attribute names y.attribute) (seen_in_attributes names ys) (seen_in_attribute names x.attribute) (seen_in_attributes names xs)
    (attribute_says number environment x.attribute y.attribute (are.each 0 x y refl refl).attribute names)
    (attributes_say number environment xs ys (record { many = omega (arith, many); each = λ k. are.each (suc k) }) names)
