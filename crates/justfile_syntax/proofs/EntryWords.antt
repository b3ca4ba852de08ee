-- How the items of a file begin, and that each takes words, one for each of its bindings among them.
use Rattle.std.proofs.Common.{◌≡◌, ℕ, ◌+◌, ◌<◌, ◌≤◌, Bool, true, false, List, [], ◌∷◌, length, refl, ap, ◌∙◌, arith, inl, inr}
use Rattle.just_text.specs.Tokens.{Word}
use Rattle.just_text.specs.declared.token_kind.TokenKind.{TokenKind}
use Rattle.just_text.specs.declared.token_kind.TokenKind.TheVariants.{BracketL, BracketR, ColonEquals, Comma, Comment, Eof, Eol, Identifier, StringToken}
use Rattle.tree_attributes.specs.Attributes.{AttributeShape}
use Rattle.tree_items.specs.Files.{ItemShape, assignment_item, comment_item, newline_item, recipe_item, set_item}
use Rattle.tree_attributes.specs.Settings.{SetShape, ValueShape, truth, expression, interpreter, string, truth_text}
use Rattle.tree_expressions.specs.Shape.{Shape}
use Rattle.parse_expressions.specs.Words.{is_kind, Lacks}
use Rattle.parse_expressions.specs.Literals.{Expansion}
use Rattle.parse_expressions.proofs.Starts.{shorter}
use Rattle.parse_attributes.specs.Rows.{Follow}
use Rattle.tree_attributes.specs.Sets.Order.{in_order}
use Rattle.parse_attributes.specs.Lines.{IsAttribute, IsBetween, IsLast, AreAttributes}
use Rattle.parse_attributes.proofs.Rest.{closes_takes, between_takes, attribute_takes, line_end_takes}
use Rattle.parse_expressions.proofs.TokensTaken.{front_shorter, mark_shorter, lacks}
use Rattle.parse_items.specs.Keywords.{set_keyword}
use Rattle.parse_items.specs.declared.form.Form.{Form}
use Rattle.parse_items.specs.declared.form.Form.TheVariants.{Indentation, Interpreter, Truth, Value, Version as VersionForm}
use Rattle.parse_items.specs.Settings.{AreElements, IsValue, IsSet}
use Rattle.parse_attributed_items.specs.Bare.{IsBare}
use Rattle.parse_attributed_items.specs.Fitting.{with_attributes}
use Rattle.parse_attributed_items.specs.Items.{IsAttributed}
use Rattle.semver.specs.declared.Version.{Version}
use Rattle.justfile_syntax.specs.Files.{Entry, IsCommentLine, IsEntry, AreEntries}
use Rattle.justfile_syntax.proofs.RecipeWords.{eol_no_longer, recipe_shorter}
use Rattle.justfile_syntax.proofs.ItemWords.{IsNeverFirst, binding_count, recipe_lacks, item_lacks, item_shorter}

-- a kind with which nothing begins in a file but its end
pub record IsNeverAhead (k : TokenKind) : Type 0 where
  pub item : IsNeverFirst k
  pub line : is_kind Eol k ≡ false
  pub comment : is_kind Comment k ≡ false

-- ---- settings

module _ (expansion : Expansion) where
  elements_no_longer : (es : List Shape) (ws rest : List Word) → AreElements expansion es ws rest → length rest ≤ length ws
  elements_no_longer [] ws rest m = let p = mark_shorter BracketR ws rest m in omega arith
  elements_no_longer (e ∷ es) ws rest (a, d, inl (b, m, are)) =
      let p = shorter expansion e ws a d.is in
      let q = mark_shorter Comma a b m in
      let r = elements_no_longer es b rest are in omega arith
  elements_no_longer (e ∷ es) ws rest (a, d, inr last) = let p = shorter expansion e ws a d.is in let q = mark_shorter BracketR a rest last.1 in omega (arith, p, q)

  value_no_longer : (current : Version) (form : Form) (value : ValueShape) (ws rest : List Word) → IsValue expansion current form value ws rest → length rest ≤ length ws
  value_no_longer current Truth (truth b) ws rest (inl i) = rw i.1 (omega arith)
  value_no_longer current Truth (truth b) ws rest (inr (a, m, f)) = let p = mark_shorter ColonEquals ws a m in let q = front_shorter Identifier (truth_text b) a rest f in omega arith
  value_no_longer current Value (expression e) ws rest (a, m, d) = let p = mark_shorter ColonEquals ws a m in let q = shorter expansion e a rest d.is in omega arith
  value_no_longer current Interpreter (interpreter i) ws rest (a, b, m, o, are) =
      let p = mark_shorter ColonEquals ws a m in
      let q = mark_shorter BracketL a b o in
      let r = elements_no_longer (i.command ∷ i.arguments) b rest are in omega arith
  value_no_longer current Indentation (string s) ws rest (a, text, m, f, is) = let p = mark_shorter ColonEquals ws a m in let q = front_shorter StringToken s a rest f.0 in omega (arith, p, q)
  value_no_longer current VersionForm (string s) ws rest (a, text, m, f, is) = let p = mark_shorter ColonEquals ws a m in let q = front_shorter StringToken s a rest f.0 in omega (arith, p, q)
  value_no_longer current form value ws rest i = absurd i

  set_shorter : (current : Version) (s : SetShape) (ws rest : List Word) → IsSet expansion current s ws rest → length rest < length ws
  set_shorter current s ws rest i =
      let p = front_shorter Identifier set_keyword ws i.behind_set i.set in
      let q = front_shorter Identifier s.name i.behind_set i.behind_name i.name in
      let r = value_no_longer current i.form s.value i.behind_name i.behind_value i.value in
      let t = eol_no_longer i.behind_value rest i.eol in omega (arith, p, q, r, t)

  -- ---- attributes

  last_no_longer : (ws rest : List Word) → IsLast ws rest → length rest ≤ length ws
  last_no_longer ws rest ((a, closes, eol), l) = let p = closes_takes BracketR ws a closes in let q = line_end_takes a rest eol in omega (arith, p, q)

  follow_no_longer : (as' : List AttributeShape) (ws rest : List Word) → Follow (IsAttribute expansion) IsBetween IsLast as' ws rest → length rest ≤ length ws
  follow_no_longer [] ws rest i = last_no_longer ws rest i
  follow_no_longer (x ∷ xs) ws rest (a, b, m, i, f) =
      let p = between_takes ws a m in
      let q = attribute_takes expansion x a b i in
      let r = follow_no_longer xs b rest f in omega arith

  attributes_no_longer : (as' : List AttributeShape) (ws rest : List Word) → AreAttributes expansion as' ws rest → length rest ≤ length ws
  attributes_no_longer [] ws rest i = rw i.0 (omega arith)
  attributes_no_longer (x ∷ xs) ws rest (a, b, m, i, f) =
      let p = mark_shorter BracketL ws a m in
      let q = attribute_takes expansion x a b i in
      let r = follow_no_longer xs b rest f in omega arith

  attributes_lack : (k : TokenKind) → IsNeverFirst k → (as' : List AttributeShape) (ws rest : List Word) → AreAttributes expansion as' ws rest → Lacks k rest → Lacks k ws
  attributes_lack k never [] ws rest i l = rw i.0 l
  attributes_lack k never (x ∷ xs) ws rest i l = lacks BracketL k ws i.0 i.2 never.bracket

  module _ (current : Version) where
    -- ---- items

    bare_shorter : (i : ItemShape) (blanks : ℕ) (ws rest : List Word) → IsBare expansion current i blanks ws rest → binding_count i + length rest < length ws
    bare_shorter (recipe_item [] r) blanks ws rest h = recipe_shorter expansion r blanks ws rest h
    bare_shorter (set_item [] s) blanks ws rest h = let p = set_shorter current s ws rest h.0 in omega (arith, p)
    bare_shorter other blanks ws rest h = item_shorter expansion other ws rest h.0

    bare_lacks : (k : TokenKind) → IsNeverFirst k → (i : ItemShape) (blanks : ℕ) (ws rest : List Word) → IsBare expansion current i blanks ws rest → Lacks k ws
    bare_lacks k never (recipe_item [] r) blanks ws rest h = recipe_lacks k never expansion r blanks ws rest h
    bare_lacks k never (set_item [] s) blanks ws rest h = lacks Identifier k ws h.0.behind_set (set_keyword, h.0.set) never.name
    bare_lacks k never other blanks ws rest h = item_lacks k never expansion other ws rest h.0

    same_count : (as' : List AttributeShape) (i : ItemShape) → binding_count (with_attributes as' i) ≡ binding_count i
    same_count as' (assignment_item old a) = refl
    same_count as' (recipe_item old r) = refl
    same_count as' other = refl

    pub attributed_shorter : (i : ItemShape) (blanks : ℕ) (ws rest : List Word) → IsAttributed expansion current i blanks ws rest → binding_count i + length rest < length ws
    attributed_shorter i blanks ws rest h =
        let same : binding_count i ≡ binding_count h.bare = ap binding_count h.whole ∙ same_count (in_order h.attributes) h.bare in
        let p = attributes_no_longer h.attributes ws h.behind h.lines in
        let q = bare_shorter h.bare blanks h.behind rest h.item in omega (arith, same, p, q)

    pub attributed_lacks : (k : TokenKind) → IsNeverFirst k → (i : ItemShape) (blanks : ℕ) (ws rest : List Word) → IsAttributed expansion current i blanks ws rest → Lacks k ws
    attributed_lacks k never i blanks ws rest h = attributes_lack k never h.attributes ws h.behind h.lines (bare_lacks k never h.bare blanks h.behind rest h.item)

    -- ---- no item after attributes is a blank line or a comment

    abbrev is_line : ItemShape → Bool
    is_line newline_item = true
    is_line (comment_item text) = true
    is_line other = false

    bare_no_line : (as' : List AttributeShape) (i : ItemShape) (blanks : ℕ) (ws rest : List Word) → IsBare expansion current i blanks ws rest → is_line (with_attributes as' i) ≡ false
    bare_no_line as' newline_item blanks ws rest h = absurd h.0
    bare_no_line as' (comment_item text) blanks ws rest h = absurd h.0
    bare_no_line as' other blanks ws rest h = refl

    no_line : (i : ItemShape) (blanks : ℕ) (ws rest : List Word) → IsAttributed expansion current i blanks ws rest → is_line i ≡ false
    no_line i blanks ws rest h = ap is_line h.whole ∙ bare_no_line (in_order h.attributes) h.bare blanks h.behind rest h.item

    pub entry : (i : ItemShape) (blanks : ℕ) (ws rest : List Word) → IsAttributed expansion current i blanks ws rest → IsEntry expansion current (i, blanks) ws rest
    entry newline_item blanks ws rest h = let p = no_line newline_item blanks ws rest h in absurd cc
    entry (comment_item text) blanks ws rest h = let p = no_line (comment_item text) blanks ws rest h in absurd cc
    entry other blanks ws rest h = h

    -- ---- entries

    comment_shorter : (text : List ℕ) (ws rest : List Word) → IsCommentLine text ws rest → length rest < length ws
    comment_shorter text ws rest (lexeme, a, f, eol, same) = let p = front_shorter Comment lexeme ws a f in let q = eol_no_longer a rest eol in omega arith

    pub entry_shorter : (e : Entry) (ws rest : List Word) → IsEntry expansion current e ws rest → binding_count e.0 + length rest < length ws
    entry_shorter (newline_item, blanks) ws rest h = let p = mark_shorter Eol ws rest h.0 in omega (arith, p)
    entry_shorter (comment_item text, blanks) ws rest h = let p = comment_shorter text ws rest h.0 in omega (arith, p)
    entry_shorter (item, blanks) ws rest h = attributed_shorter item blanks ws rest h

    module _ (k : TokenKind) (never : IsNeverAhead k) where
      pub entry_lacks : (e : Entry) (ws rest : List Word) → IsEntry expansion current e ws rest → Lacks k ws
      entry_lacks (newline_item, blanks) ws rest h = lacks Eol k ws rest h.0 never.line
      entry_lacks (comment_item text, blanks) ws rest h = lacks Comment k ws h.0.1 (h.0.0, h.0.2) never.comment
      entry_lacks (item, blanks) ws rest h = attributed_lacks k never.item item blanks ws rest h

      pub entries_lack : is_kind Eof k ≡ false → (es : List Entry) (ws : List Word) → AreEntries expansion current es ws → Lacks k ws
      entries_lack other [] ws m = lacks Eof k ws [] m other
      entries_lack other (e ∷ es) ws h = entry_lacks e ws h.0 h.1
