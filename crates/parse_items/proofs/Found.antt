-- What is read is derived.
use Rattle.std.proofs.Common.{◌≡◌, ℕ, suc, Bool, true, List, [], length, map, Result, Ok, Err, Option, Some, None, refl, sym, inl, inr, ◌⊎◌}
use Rattle.just_text.specs.Tokens.{Word}
use Rattle.just_text.specs.declared.compile_error.CompileErrorKind.{CompileErrorKind}
use Rattle.just_text.specs.declared.token_kind.TokenKind.TheVariants.{ColonEquals, Identifier, ParenL, QuestionMark, StringToken}
use Rattle.tree_expressions.specs.Cooking.{cooked}
use Rattle.tree_attributes.specs.declared.item_kind.ItemKind.{ItemKind}
use Rattle.tree_attributes.specs.declared.item_kind.ItemKind.TheVariants.{Alias, Assignment, Comment, Function, Import, Module, Newline, Recipe, Set, Unexport}
use Rattle.tree_items.specs.Files.{ItemShape, alias_item, assignment_item, function_item, import_item, module_item, unexport_item}
use Rattle.tree_items.specs.Items.{AliasShape, AssignmentShape, FunctionShape, ImportShape, ModuleShape}
use Rattle.tree_expressions.specs.Shape.{Shape}
use Rattle.parse_expressions.specs.Words.{Begins, Mark}
use Rattle.parse_expressions.specs.Literals.{Expansion}
use Rattle.parse_expressions.specs.Laws.{Exactly}
use Rattle.parse_expressions.specs.Reading.{expect, is_next, taken_if}
use Rattle.parse_expressions.proofs.Taken.{bind_ok, test, turned, ok_is, expect_is, expect_mark}
use Rattle.parse_expressions.specs.LineEnds.{IsEol}
use Rattle.parse_recipes.specs.Laws.{EolsExactly, PathsExactly}
use Rattle.parse_recipes.specs.Reading.{marked_at}
use Rattle.parse_items.specs.Items.{IsAlias, IsUnexport, IsAssignment, IsFunction, IsImport, IsFile, IsModule, IsItem}
use Rattle.parse_items.specs.Keywords.{alias_keyword, import_keyword, mod_keyword, unexport_keyword}
use Rattle.parse_items.specs.Reading.{is_named_value, alias_at, unexport_at, value_at, assignment_at, function_at, import_at, file_at, module_at, kind_at, item_of}
use Rattle.parse_items.proofs.Fronts.{keyword_taken, optional_found}
use Rattle.parse_items.proofs.Told.{StartsWith, OneWord, TwoWords, Told, told}
use Rattle.parse_items.proofs.PrecedingWords.{words_found}
use Rattle.parse_items.proofs.ParameterNames.{parameters_found}
use Rattle.parse_expressions.specs.Strings.{IsExpression, IsString, string_at}

module _ {T : Type 0} (word : T → Word) (expansion : Expansion) (expressions : Exactly word expansion 256 6) (paths : PathsExactly word) (ends : EolsExactly word) where
  -- ---- items without expressions

  alias_found : (ts : List T) (y : AliasShape × List T) → StartsWith word alias_keyword ts → alias_at word ts ≡ Ok y → IsAlias y.0 (map word ts) (map word y.1)
  unfolding alias_at
  alias_found ts y first h =
      let k = bind_ok _ _ y h in
      let n = bind_ok _ _ y k.2 in
      let c = bind_ok _ _ y n.2 in
      let p = bind_ok _ _ y c.2 in
      let e = bind_ok _ _ y p.2 in
      turned (λ (z : AliasShape × List T). IsAlias z.0 (map word ts) (map word z.1)) (record { name = (word n.0.0).text; target = p.0.0 }, e.0) y e.2 (
        map word k.0.1,
        map word n.0.1,
        map word c.0.1,
        map word p.0.1,
        keyword_taken word alias_keyword ts k.0 first k.1,
        expect_is word Identifier k.0.1 n.0 n.1,
        expect_mark word ColonEquals n.0.1 c.0 c.1,
        paths.found c.0.1 p.0.1 p.0.0 p.1,
        ends.found p.0.1 e.0 e.1,
      )

  unexport_found : (ts : List T) (y : List ℕ × List T) → StartsWith word unexport_keyword ts → unexport_at word ts ≡ Ok y → IsUnexport y.0 (map word ts) (map word y.1)
  unfolding unexport_at
  unexport_found ts y first h =
      let k = bind_ok _ _ y h in
      let n = bind_ok _ _ y k.2 in
      let e = bind_ok _ _ y n.2 in
      turned (λ (z : List ℕ × List T). IsUnexport z.0 (map word ts) (map word z.1)) ((word n.0.0).text, e.0) y e.2
      (map word k.0.1, map word n.0.1, keyword_taken word unexport_keyword ts k.0 first k.1, expect_is word Identifier k.0.1 n.0 n.1, ends.found n.0.1 e.0 e.1)

  -- ---- values

  -- `:=`, an expression and the end of the line
  abbrev IsValue : Shape → List Word → List Word → Type 0
  IsValue e words rest = (a b : List Word) × Mark ColonEquals words a × IsExpression expansion e a b × IsEol b rest

  value_found : (ts : List T) (y : Shape × List T) → value_at word expansion ts ≡ Ok y → IsValue y.0 (map word ts) (map word y.1)
  unfolding value_at
  value_found ts y h =
      let c = bind_ok _ _ y h in
      let e = bind_ok _ _ y c.2 in
      let r = bind_ok _ _ y e.2 in
      turned (λ (z : Shape × List T). IsValue z.0 (map word ts) (map word z.1)) (e.0.0, r.0) y r.2
      (map word c.0.1, map word e.0.1, expect_mark word ColonEquals ts c.0 c.1, expressions.found c.0.1 e.0.1 e.0.0 e.1, ends.found e.0.1 r.0 r.1)

  assignment_found : (ts : List T) (y : AssignmentShape × List T) → (is_named_value word ts ≡ true) ⊎ (OneWord word ts ⊎ TwoWords word ts) → assignment_at word expansion ts ≡ Ok y → IsAssignment expansion y.0 (map word ts) (map word y.1)
  unfolding assignment_at
  assignment_found ts y first h =
      let w = bind_ok _ _ y h in
      let n = bind_ok _ _ y w.2 in
      let v = bind_ok _ _ y n.2 in
      let is = value_found n.0.1 v.0 v.1 in
      turned (λ (z : AssignmentShape × List T). IsAssignment expansion z.0 (map word ts) (map word z.1)) (record { export = w.0.0.0; eager = w.0.0.1; name = (word n.0.0).text; value = v.0.0 }, v.0.1) y v.2
      (map word w.0.1, map word n.0.1, is.0, is.1, words_found word (suc (length ts)) ts w.0 first w.1, expect_is word Identifier w.0.1 n.0 n.1, is.2, is.3, is.4)

  function_found : (ts : List T) (y : FunctionShape × List T) → function_at word expansion ts ≡ Ok y → IsFunction expansion y.0 (map word ts) (map word y.1)
  unfolding function_at
  function_found ts y h =
      let n = bind_ok _ _ y h in
      let o = bind_ok _ _ y n.2 in
      let ps = bind_ok _ _ y o.2 in
      let v = bind_ok _ _ y ps.2 in
      let names = parameters_found word (suc (length o.0.1)) o.0.1 ps.0 ps.1 in
      let is = value_found ps.0.1 v.0 v.1 in
      turned (λ (z : FunctionShape × List T). IsFunction expansion z.0 (map word ts) (map word z.1)) (record { name = (word n.0.0).text; parameters = ps.0.0; body = v.0.0 }, v.0.1) y v.2
      (map word n.0.1, map word o.0.1, map word ps.0.1, is.0, is.1, expect_is word Identifier ts n.0 n.1, expect_mark word ParenL n.0.1 o.0 o.1, names.0, names.1, is.2, is.3, is.4)

  -- ---- strings and files

  text_found : (t : T) (r : Result (List ℕ) CompileErrorKind) (s : List ℕ) → taken_if word t r ≡ Ok s → (s ≡ (word t).text) × ((text : List ℕ) × (r ≡ Ok text))
  text_found t (Ok text) s h = (sym (ok_is (word t).text s h), (text, refl))
  text_found t (Err kind) s h = absurd cc

  string_found : (ts : List T) (y : List ℕ × List T) → string_at word expansion ts ≡ Ok y → IsString expansion y.0 (map word ts) (map word y.1)
  unfolding string_at
  string_found ts y h =
      let t = bind_ok (expect word StringToken ts) _ y h in
      let s = bind_ok _ _ y t.2 in
      let c = text_found t.0.0 (cooked expansion (word t.0.0).text) s.0 s.1 in
      let first : Begins StringToken s.0 (map word ts) (map word t.0.1) = rw c.0 (expect_is word StringToken ts t.0 t.1) in
      turned (λ (z : List ℕ × List T). IsString expansion z.0 (map word ts) (map word z.1)) (s.0, t.0.1) y s.2 (first, rw c.0 c.1)

  import_found : (ts : List T) (y : ImportShape × List T) → StartsWith word import_keyword ts → import_at word expansion ts ≡ Ok y → IsImport expansion y.0 (map word ts) (map word y.1)
  unfolding import_at
  import_found ts y first h =
      let k = bind_ok _ _ y h in
      let s = bind_ok _ _ y k.2 in
      let e = bind_ok _ _ y s.2 in
      let q : Bool × List T = marked_at word QuestionMark k.0.1 in
      turned (λ (z : ImportShape × List T). IsImport expansion z.0 (map word ts) (map word z.1)) (record { optional = q.0; path = s.0.0 }, e.0) y e.2
      (map word k.0.1, map word q.1, map word s.0.1, keyword_taken word import_keyword ts k.0 first k.1, optional_found word k.0.1, string_found q.1 s.0 s.1, ends.found s.0.1 e.0 e.1)

  file_found : (ts : List T) (y : Option (List ℕ) × List T) → file_at word expansion ts ≡ Ok y → IsFile expansion y.0 (map word ts) (map word y.1)
  unfolding file_at
  file_found ts y h =
      elim (test (is_next word StringToken ts)) [
        | inl w ↦
            let s = bind_ok _ _ y (rw w at h) in
            turned (λ (z : Option (List ℕ) × List T). IsFile expansion z.0 (map word ts) (map word z.1)) (Some s.0.0, s.0.1) y s.2 (string_found ts s.0 s.1)
        | inr w ↦ turned (λ (z : Option (List ℕ) × List T). IsFile expansion z.0 (map word ts) (map word z.1)) (None, ts) y (rw w at h) refl
      ]

  module_found : (ts : List T) (y : ModuleShape × List T) → StartsWith word mod_keyword ts → module_at word expansion ts ≡ Ok y → IsModule expansion y.0 (map word ts) (map word y.1)
  unfolding module_at
  module_found ts y first h =
      let k = bind_ok _ _ y h in
      let n = bind_ok _ _ y k.2 in
      let s = bind_ok _ _ y n.2 in
      let e = bind_ok _ _ y s.2 in
      let q : Bool × List T = marked_at word QuestionMark k.0.1 in
      turned (λ (z : ModuleShape × List T). IsModule expansion z.0 (map word ts) (map word z.1)) (record { optional = q.0; name = (word n.0.0).text; path = s.0.0 }, e.0) y e.2 (
        map word k.0.1,
        map word q.1,
        map word n.0.1,
        map word s.0.1,
        keyword_taken word mod_keyword ts k.0 first k.1,
        optional_found word k.0.1,
        expect_is word Identifier q.1 n.0 n.1,
        file_found n.0.1 s.0 s.1,
        ends.found s.0.1 e.0 e.1,
      )

  -- ---- items

  abbrev Sound : List T → ItemShape × List T → Type 0
  Sound ts z = IsItem expansion z.0 (map word ts) (map word z.1)

  item_found : (kind : ItemKind) (ts : List T) (y : ItemShape × List T) → Told word ts kind → item_of word expansion kind ts ≡ Ok y → Sound ts y
  unfolding item_of
  item_found Alias ts y first h = let a = bind_ok _ _ y h in turned (Sound ts) (alias_item [] a.0.0, a.0.1) y a.2 (alias_found ts a.0 first a.1)
  item_found Assignment ts y first h = let a = bind_ok _ _ y h in turned (Sound ts) (assignment_item [] a.0.0, a.0.1) y a.2 (assignment_found ts a.0 first a.1)
  item_found Comment ts y first h = absurd cc
  item_found Function ts y first h = let f = bind_ok _ _ y h in turned (Sound ts) (function_item f.0.0, f.0.1) y f.2 (function_found ts f.0 f.1)
  item_found Import ts y first h = let i = bind_ok _ _ y h in turned (Sound ts) (import_item i.0.0, i.0.1) y i.2 (import_found ts i.0 first i.1)
  item_found Module ts y first h = let m = bind_ok _ _ y h in turned (Sound ts) (module_item [] m.0.0, m.0.1) y m.2 (module_found ts m.0 first m.1)
  item_found Newline ts y first h = absurd cc
  item_found Recipe ts y first h = absurd cc
  item_found Set ts y first h = absurd cc
  item_found Unexport ts y first h = let u = bind_ok _ _ y h in turned (Sound ts) (unexport_item u.0.0, u.0.1) y u.2 (unexport_found ts u.0 first u.1)

  pub found : (ts : List T) (y : ItemShape × List T) → item_of word expansion (kind_at word ts) ts ≡ Ok y → Sound ts y
  found ts y h = item_found (kind_at word ts) ts y (told word ts) h
