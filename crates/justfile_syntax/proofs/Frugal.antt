-- What the items of a file, its tokens and its text use of numbers.
use Rattle.std.proofs.Common.{◌≡◌, ℕ, ◌+◌, ◌^◌, ◌<◌, ◌≤◌, ◌⊎◌, Result, List, [], ◌∷◌, ◌++◌, length, map, replicate, refl, sym, ap, subst, ◌∙◌, inl, inr, arith, length-append}
use Rattle.std.proofs.lemmas.List.{length-map}
use Rattle.std.specs.Prelude.{IfErr}
use Rattle.just_lexer.specs.Lexes.{Piece, piece_word, pieces}
use Rattle.just_text.specs.Numbers.{Numbers}
use Rattle.just_text.specs.Tokens.{Word, word_of}
use Rattle.just_text.specs.declared.compile_error.CompileError.{CompileError}
use Rattle.just_text.specs.declared.compile_error.CompileErrorKind.{CompileErrorKind}
use Rattle.just_text.specs.declared.compile_error.CompileErrorKind.TheVariants as kinds
use Rattle.just_text.specs.declared.token.Token.{Token}
use Rattle.tree_items.specs.declared.ast.Ast.{Ast}
use Rattle.tree_items.specs.declared.ast.Item.{Item}
use Rattle.tree_items.specs.declared.ast.Item.TheVariants.{Assignment, Function, Newline, Recipe}
use Rattle.tree_items.specs.Files.{item_shape}
use Rattle.tree_items.specs.Items.{name_of}
use Rattle.tree_items.specs.Recipes.{parameter_shape}
use Rattle.parse_expressions.specs.Literals.{Expansion}
use Rattle.parse_expressions.specs.Reading.{shown}
use Rattle.parse_expressions.specs.Words.{significant}
use Rattle.parse_recipes.specs.Numbering.{AreFew, AreUsed, IsFrugal}
use Rattle.parse_items.specs.Numbered.{binding_numbers}
use Rattle.justfile_syntax.specs.Numbered.{AreInOrder, bindings_in, recipe_numbers, recipes_in}
use Rattle.justfile_syntax.specs.Parsed.{IfNumbersUsed, RefusalHolds}
use Rattle.justfile_syntax.proofs.InOrder.{bindings_more, recipes_more}
use Rattle.justfile_syntax.proofs.ItemWords.{binding_count}
use Rattle.justfile_syntax.proofs.TextsSaid.{shown_words, words_are}
use Rattle.semver.specs.declared.Version.{Version}

-- each number of these items has a token before those that are left
pub record HasRoom (items : List Item) (rest ts : List Token) : Type 0 where
  pub bindings : length (bindings_in items) + length rest ≤ length ts
  pub recipes : length (recipes_in items) + length rest ≤ length ts

pub no_items : (items : List Item) (rest ts : List Token) → items ≡ [] → length rest ≤ length ts → HasRoom items rest ts
no_items items rest ts none less = rw none (record { bindings = omega (arith, less); recipes = omega (arith, less) })

-- ---- one item more

counted : (i : Item) → length (binding_numbers i) ≡ binding_count (item_shape i)
counted (Assignment a) = refl
counted (Function f) = length-map f.parameters.items (λ p. p.1) ∙ sym (length-map f.parameters.items name_of)
counted (Recipe r) = length-map r.parameters.items (λ p. p.number) ∙ sym (length-map r.parameters.items parameter_shape)
counted other = refl

one_recipe : (i : Item) → length (recipe_numbers i) ≤ 1
one_recipe (Recipe r) = omega arith
one_recipe other = omega arith

pub one_item : (items : List Item) (i : Item) (blanks : ℕ) (now rest ts : List Token) → HasRoom items now ts → binding_count (item_shape i) + length rest < length now → HasRoom (items ++ i ∷ replicate blanks Newline) rest ts
one_item items i blanks now rest ts room less =
    let count = counted i in
    let few = one_recipe i in
    let bindings : length (bindings_in (items ++ i ∷ replicate blanks Newline)) ≡ length (bindings_in items) + length (binding_numbers i) =
    ap (λ (xs : List ℕ). length xs) (bindings_more items i blanks) ∙ length-append (bindings_in items) (binding_numbers i) in
    let recipes : length (recipes_in (items ++ i ∷ replicate blanks Newline)) ≡ length (recipes_in items) + length (recipe_numbers i) =
    ap (λ (xs : List ℕ). length xs) (recipes_more items i blanks) ∙ length-append (recipes_in items) (recipe_numbers i) in
    record { bindings = omega (arith, bindings, count, less, room.bindings); recipes = omega (arith, recipes, few, less, room.recipes) }

-- what is used after these items
pub items_first : (old now new : Numbers) (items : List Item) (rest ts : List Token) → AreInOrder old now items → HasRoom items rest ts → IsFrugal rest now new → IsFrugal ts old new
items_first old now new items rest ts these room frugal =
    let bindings : now.bindings ≡ old.bindings + length (bindings_in items) = ap (λ (n : Numbers). n.bindings) these.gone_on in
    let recipes : now.recipes ≡ old.recipes + length (recipes_in items) = ap (λ (n : Numbers). n.recipes) these.gone_on in
    record { bindings = omega (arith, bindings, room.bindings, frugal.bindings); recipes = omega (arith, recipes, room.recipes, frugal.recipes) }

-- ---- tokens and text

-- a kind of which nothing is left now had few before
pub few_left : (expansion : Expansion) (current : Version) (words : List Word) (ts : List Token) (old new : Numbers) → IsFrugal ts old new → (kind : CompileErrorKind) → RefusalHolds (AreUsed new) expansion current words kind → IfNumbersUsed (AreFew ts old) kind
few_left expansion current words ts old new frugal kinds.NumbersUsed (inl none) = inl (rw none at frugal.bindings)
few_left expansion current words ts old new frugal kinds.NumbersUsed (inr none) = inr (rw none at frugal.recipes)
few_left expansion current words ts old new frugal other h = tt

shown_count : (ts : List Token) → length (shown ts) ≡ length (significant (map piece_word (pieces ts)))
shown_count ts = sym (length-map (shown ts) word_of) ∙ ap (λ (ws : List Word). length ws) (shown_words ts ∙ ap significant (words_are ts))

-- tokens of one text are as many
pub as_many : (found handed tokens : List Token) → handed ≡ found → pieces found ≡ pieces tokens → length (shown handed) ≡ length (shown tokens)
as_many found handed tokens same lexed = rw same (shown_count found ∙ ap (λ (ps : List Piece). length (significant (map piece_word ps))) lexed ∙ sym (shown_count tokens))

pub as_few : (handed tokens : List Token) (numbers : Numbers) (result : Result Ast CompileError) → length (shown handed) ≡ length (shown tokens) → IfErr result (λ e. IfNumbersUsed (AreFew (shown handed) numbers) e.kind)
    → IfErr result (λ e. IfNumbersUsed (AreFew (shown tokens) numbers) e.kind)
as_few handed tokens numbers result same few = subst (λ (n : ℕ). IfErr result (λ e. IfNumbersUsed ((2 ^ 32 ≤ numbers.bindings + n) ⊎ (2 ^ 32 ≤ numbers.recipes + n)) e.kind)) same few
