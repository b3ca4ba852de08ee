-- How items begin that have no attributes, and that each takes words, one for each of its bindings among them.
use Rattle.std.proofs.Common.{◌≡◌, ℕ, ◌+◌, ◌<◌, ◌≤◌, Bool, true, false, List, [], ◌∷◌, length, Option, Some, None, ap, ◌∙◌, arith, inl, inr}
use Rattle.just_text.specs.Tokens.{Word}
use Rattle.just_text.specs.declared.token_kind.TokenKind.{TokenKind}
use Rattle.just_text.specs.declared.token_kind.TokenKind.TheVariants.{At, BracketL, ColonEquals, Comma, Identifier, ParenL, ParenR, QuestionMark, StringToken}
use Rattle.tree_items.specs.Files.{ItemShape, alias_item, assignment_item, function_item, import_item, module_item, recipe_item, unexport_item}
use Rattle.tree_items.specs.Recipes.{RecipeShape}
use Rattle.parse_expressions.specs.Words.{is_kind, Begins, Lacks}
use Rattle.parse_expressions.specs.Literals.{Expansion}
use Rattle.parse_expressions.proofs.Starts.{shorter}
use Rattle.parse_recipes.specs.Headers.{IsQuiet, IsRecipe}
use Rattle.parse_expressions.proofs.TokensTaken.{front_shorter, mark_shorter, lacks}
use Rattle.parse_recipes.proofs.RecipePaths.{path_shorter}
use Rattle.parse_items.specs.Items.{AreWords, AreNames, IsOptional, IsFile, IsItem}
use Rattle.parse_items.specs.Keywords.{alias_keyword, eager_keyword, export_keyword, import_keyword, mod_keyword, unexport_keyword}
use Rattle.justfile_syntax.proofs.RecipeWords.{eol_no_longer}

-- a kind with which no item begins
pub record IsNeverFirst (k : TokenKind) : Type 0 where
  pub bracket : is_kind BracketL k ≡ false
  pub name : is_kind Identifier k ≡ false
  pub at : is_kind At k ≡ false

-- ---- how items begin

module _ (k : TokenKind) (never : IsNeverFirst k) where
  quiet_lacks : (b : Bool) (name : List ℕ) (ws a rest : List Word) → IsQuiet b ws a → Begins Identifier name a rest → Lacks k ws
  quiet_lacks true name ws a rest m i = lacks At k ws a m never.at
  quiet_lacks false name ws a rest same i = lacks Identifier k ws rest (name, same ∙ i) never.name

  words_lack : (export eager : Bool) (name : List ℕ) (ws a rest : List Word) → AreWords export eager ws a → Begins Identifier name a rest → Lacks k ws
  words_lack false false name ws a rest same i = lacks Identifier k ws rest (name, same ∙ i) never.name
  words_lack true false name ws a rest w i = lacks Identifier k ws a (export_keyword, w) never.name
  words_lack false true name ws a rest w i = lacks Identifier k ws a (eager_keyword, w) never.name
  words_lack true true name ws a rest (inl w) i = lacks Identifier k ws w.0 (export_keyword, w.1) never.name
  words_lack true true name ws a rest (inr w) i = lacks Identifier k ws w.0 (eager_keyword, w.1) never.name

  module _ (expansion : Expansion) where
    pub recipe_lacks : (r : RecipeShape) (blanks : ℕ) (ws rest : List Word) → IsRecipe expansion r blanks ws rest → Lacks k ws
    recipe_lacks r blanks ws rest i = quiet_lacks r.quiet r.name ws i.behind_at i.behind_name i.at i.name

    pub item_lacks : (i : ItemShape) (ws rest : List Word) → IsItem expansion i ws rest → Lacks k ws
    item_lacks (alias_item [] a) ws rest h = lacks Identifier k ws h.0 (alias_keyword, h.4) never.name
    item_lacks (assignment_item [] a) ws rest h = words_lack a.export a.eager a.name ws h.0 h.1 h.4 h.5
    item_lacks (function_item f) ws rest h = lacks Identifier k ws h.0 (f.name, h.5) never.name
    item_lacks (import_item i) ws rest h = lacks Identifier k ws h.0 (import_keyword, h.3) never.name
    item_lacks (module_item [] m) ws rest h = lacks Identifier k ws h.0 (mod_keyword, h.4) never.name
    item_lacks (unexport_item name) ws rest h = lacks Identifier k ws h.0 (unexport_keyword, h.2) never.name
    item_lacks other ws rest h = absurd h

-- ---- items take words

-- how many bindings an item has
abbrev pub binding_count : ItemShape → ℕ
binding_count (assignment_item as' a) = 1
binding_count (function_item f) = length f.parameters
binding_count (recipe_item as' r) = length r.parameters
binding_count other = 0

words_no_longer : (export eager : Bool) (ws rest : List Word) → AreWords export eager ws rest → length rest ≤ length ws
words_no_longer false false ws rest same = rw same (omega arith)
words_no_longer true false ws rest w = let p = front_shorter Identifier export_keyword ws rest w in omega arith
words_no_longer false true ws rest w = let p = front_shorter Identifier eager_keyword ws rest w in omega arith
words_no_longer true true ws rest (inl w) = let p = front_shorter Identifier export_keyword ws w.0 w.1 in let q = front_shorter Identifier eager_keyword w.0 rest w.2 in omega (arith, p, q)
words_no_longer true true ws rest (inr w) = let p = front_shorter Identifier eager_keyword ws w.0 w.1 in let q = front_shorter Identifier export_keyword w.0 rest w.2 in omega (arith, p, q)

names_shorter : (names : List (List ℕ)) (ws rest : List Word) → AreNames names ws rest → length names + length rest < length ws
names_shorter [] ws rest m = let p = mark_shorter ParenR ws rest m in omega (arith, p)
names_shorter (name ∷ names) ws rest (a, f, inl (b, m, are)) =
    let p = front_shorter Identifier name ws a f in
    let q = mark_shorter Comma a b m in
    let r = names_shorter names b rest are in omega (arith, p, q, r)
names_shorter (name ∷ names) ws rest (a, f, inr last) =
    let none : length names ≡ 0 = ap (λ (ns : List (List ℕ)). length ns) last.0 in
    let p = front_shorter Identifier name ws a f in
    let q = mark_shorter ParenR a rest last.1 in omega (arith, none, p, q)

optional_no_longer : (b : Bool) (ws rest : List Word) → IsOptional b ws rest → length rest ≤ length ws
optional_no_longer true ws rest m = let p = mark_shorter QuestionMark ws rest m in omega arith
optional_no_longer false ws rest same = rw same (omega arith)

module _ (expansion : Expansion) where
  file_no_longer : (path : Option (List ℕ)) (ws rest : List Word) → IsFile expansion path ws rest → length rest ≤ length ws
  file_no_longer None ws rest same = rw same (omega arith)
  file_no_longer (Some path) ws rest i = let p = front_shorter StringToken path ws rest i.0 in omega arith

  pub item_shorter : (i : ItemShape) (ws rest : List Word) → IsItem expansion i ws rest → binding_count i + length rest < length ws
  item_shorter (alias_item [] x) ws rest (a, b, c, d, keyword, name, m, path, eol) =
      let p = front_shorter Identifier alias_keyword ws a keyword in
      let q = front_shorter Identifier x.name a b name in
      let r = mark_shorter ColonEquals b c m in
      let s = path_shorter x.target c d path in
      let t = eol_no_longer d rest eol in omega (arith, p, q, r, s, t)
  item_shorter (assignment_item [] x) ws rest (a, b, c, d, before, name, m, e, eol) =
      let p = words_no_longer x.export x.eager ws a before in
      let q = front_shorter Identifier x.name a b name in
      let r = mark_shorter ColonEquals b c m in
      let s = shorter expansion x.value c d e.is in
      let t = eol_no_longer d rest eol in omega (arith, p, q, r, s, t)
  item_shorter (function_item f) ws rest (a, b, c, d, g, name, opens, are, distinct, m, e, eol) =
      let p = front_shorter Identifier f.name ws a name in
      let q = mark_shorter ParenL a b opens in
      let r = names_shorter f.parameters b c are in
      let s = mark_shorter ColonEquals c d m in
      let t = shorter expansion f.body d g e.is in
      let u = eol_no_longer g rest eol in omega (arith, p, q, r, s, t, u)
  item_shorter (import_item i) ws rest (a, b, c, keyword, optional, s, eol) =
      let p = front_shorter Identifier import_keyword ws a keyword in
      let q = optional_no_longer i.optional a b optional in
      let r = front_shorter StringToken i.path b c s.0 in
      let t = eol_no_longer c rest eol in omega (arith, p, q, r, t)
  item_shorter (module_item [] x) ws rest (a, b, c, d, keyword, optional, name, path, eol) =
      let p = front_shorter Identifier mod_keyword ws a keyword in
      let q = optional_no_longer x.optional a b optional in
      let r = front_shorter Identifier x.name b c name in
      let s = file_no_longer x.path c d path in
      let t = eol_no_longer d rest eol in omega (arith, p, q, r, s, t)
  item_shorter (unexport_item x) ws rest (a, b, keyword, name, eol) =
      let p = front_shorter Identifier unexport_keyword ws a keyword in
      let q = front_shorter Identifier x a b name in
      let r = eol_no_longer b rest eol in omega (arith, p, q, r)
  item_shorter other ws rest h = absurd h
