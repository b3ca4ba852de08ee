-- What is derived is read.
use Rattle.std.proofs.Common.{◌≡◌, ℕ, List, [], ◌∷◌, map, Result, Ok, Option, Some, None, refl, inl, inr, ◌⊎◌}
use Rattle.just_text.specs.Tokens.{Word}
use Rattle.just_text.specs.declared.compile_error.CompileErrorKind.{CompileErrorKind}
use Rattle.just_text.specs.declared.token_kind.TokenKind.TheVariants.{ColonEquals, Identifier, ParenL, QuestionMark, StringToken}
use Rattle.tree_expressions.specs.Cooking.{cooked}
use Rattle.tree_items.specs.Files.{ItemShape, alias_item, assignment_item, comment_item, function_item, import_item, module_item, newline_item, recipe_item, set_item, unexport_item}
use Rattle.tree_items.specs.Items.{AliasShape, AssignmentShape, FunctionShape, ImportShape, ModuleShape}
use Rattle.tree_expressions.specs.Shape.{Shape}
use Rattle.parse_expressions.specs.Words.{Mark}
use Rattle.parse_expressions.specs.Literals.{Expansion}
use Rattle.parse_expressions.specs.Laws.{Exactly}
use Rattle.parse_expressions.specs.Reading.{taken_if}
use Rattle.parse_expressions.proofs.Taken.{taken, marked}
use Rattle.parse_expressions.specs.LineEnds.{IsEol}
use Rattle.parse_recipes.specs.Laws.{EolsExactly, PathsExactly}
use Rattle.parse_items.specs.Keywords.{alias_keyword, import_keyword, mod_keyword, unexport_keyword}
use Rattle.parse_items.specs.Items.{IsAlias, IsUnexport, IsAssignment, IsFunction, IsImport, IsFile, IsModule, IsItem}
use Rattle.parse_items.specs.Reading.{alias_at, unexport_at, value_at, assignment_at, function_at, import_at, file_at, module_at, kind_at, item_of}
use Rattle.parse_items.proofs.Fronts.{other_first, end_lacks, Reads, is_next-yes, is_next-no, optional_again}
use Rattle.parse_items.proofs.PrecedingWords.{words_again}
use Rattle.parse_items.proofs.ParameterNames.{parameters_again}
use Rattle.parse_items.proofs.FirstWords.{alias_told, assignment_told, function_told, import_told, unexport_told, module_told}
use Rattle.parse_expressions.specs.Strings.{IsExpression, IsString, string_at}

module _ {T : Type 0} (word : T → Word) (expansion : Expansion) (expressions : Exactly word expansion 256 6) (paths : PathsExactly word) (ends : EolsExactly word) where
  -- ---- items without expressions

  alias_again : (s : AliasShape) (ts : List T) (ws : List Word) → IsAlias s (map word ts) ws → Reads word (alias_at word ts) s ws
  unfolding alias_at
  alias_again s ts ws (b, c, d, e, f, g, m, i, l) =
      let k = taken word Identifier alias_keyword ts b f in
      let n = taken word Identifier s.name k.rest c (rw k.others g) in
      let q = marked word ColonEquals n.rest d (rw n.others m) in
      let p = paths.only q.rest e s.target (rw q.others i) in
      let r = ends.only p.0 ws (rw p.2 l) in
      record { rest = r.0; is = rw (k.expects, n.expects, q.expects, p.1, r.1, n.says) (refl {a = Ok (s, r.0)}); others = r.2 }

  unexport_again : (name : List ℕ) (ts : List T) (ws : List Word) → IsUnexport name (map word ts) ws → Reads word (unexport_at word ts) name ws
  unfolding unexport_at
  unexport_again name ts ws (b, c, f, g, l) =
      let k = taken word Identifier unexport_keyword ts b f in
      let n = taken word Identifier name k.rest c (rw k.others g) in
      let r = ends.only n.rest ws (rw n.others l) in
      record { rest = r.0; is = rw (k.expects, n.expects, r.1, n.says) refl; others = r.2 }

  -- ---- values

  value_again : (e : Shape) (ts : List T) (a b ws : List Word) → Mark ColonEquals (map word ts) a → IsExpression expansion e a b → IsEol b ws → Reads word (value_at word expansion ts) e ws
  unfolding value_at
  value_again e ts a b ws m i l =
      let c = marked word ColonEquals ts a m in
      let x = expressions.only c.rest b e (rw c.others i) in
      let r = ends.only x.0 ws (rw x.2 l) in
      record { rest = r.0; is = rw (c.expects, x.1, r.1) refl; others = r.2 }

  assignment_again : (s : AssignmentShape) (ts : List T) (ws : List Word) → IsAssignment expansion s (map word ts) ws → Reads word (assignment_at word expansion ts) s ws
  unfolding assignment_at
  assignment_again s ts ws (b, c, d, e, i, f, m, x, l) =
      let w = words_again word s.export s.eager s.name ts b c d i f m in
      let n = taken word Identifier s.name w.rest c (rw w.others f) in
      let v = value_again s.value n.rest d e ws (rw n.others m) x l in
      record { rest = v.rest; is = rw (w.is, n.expects, v.is, n.says) refl; others = v.others }

  function_again : (s : FunctionShape) (ts : List T) (ws : List Word) → IsFunction expansion s (map word ts) ws → Reads word (function_at word expansion ts) s ws
  unfolding function_at
  function_again s ts ws (b, c, d, e, g, f, m, i, distinct, q, x, l) =
      let n = taken word Identifier s.name ts b f in
      let o = marked word ParenL n.rest c (rw n.others m) in
      let ps = parameters_again word s.parameters o.rest d (rw o.others i) distinct in
      let v = value_again s.body ps.rest e g ws (rw ps.others q) x l in
      record { rest = v.rest; is = rw (n.expects, o.expects, ps.is, v.is, n.says) refl; others = v.others }

  -- ---- strings and files

  text_again : (t : T) (read : Result (List ℕ) CompileErrorKind) (s : List ℕ) → ((text : List ℕ) × (read ≡ Ok text)) → (word t).text ≡ s → taken_if word t read ≡ Ok s
  text_again t read s c says = rw (c.1, says) refl

  string_again : (s : List ℕ) (ts : List T) (ws : List Word) → IsString expansion s (map word ts) ws → Reads word (string_at word expansion ts) s ws
  unfolding string_at
  string_again s ts ws i =
      let t = taken word StringToken s ts ws i.0 in
      let cooks : (text : List ℕ) × (cooked expansion (word t.token).text ≡ Ok text) = rw t.says i.1 in
      let text = text_again t.token (cooked expansion (word t.token).text) s cooks t.says in
      record { rest = t.rest; is = rw (t.expects, text) refl; others = t.others }

  import_again : (s : ImportShape) (ts : List T) (ws : List Word) → IsImport expansion s (map word ts) ws → Reads word (import_at word expansion ts) s ws
  unfolding import_at
  import_again s ts ws (b, c, d, f, o, i, l) =
      let k = taken word Identifier import_keyword ts b f in
      let q = optional_again word s.optional k.rest c (rw k.others o) (other_first QuestionMark StringToken c d (s.path, i.0) refl) in
      let p = string_again s.path q.rest d (rw q.others i) in
      let r = ends.only p.rest ws (rw p.others l) in
      record { rest = r.0; is = rw (k.expects, q.is, p.is, r.1) refl; others = r.2 }

  file_again : (path : Option (List ℕ)) (ts : List T) (ws rest : List Word) → IsFile expansion path (map word ts) ws → IsEol ws rest → Reads word (file_at word expansion ts) path ws
  unfolding file_at
  file_again None ts ws rest i l =
      let string = is_next-no word StringToken ts (end_lacks StringToken (map word ts) rest (rw i l) refl refl refl) in
      record { rest = ts; is = rw string refl; others = i }
  file_again (Some path) ts ws rest i l =
      let string = is_next-yes word StringToken ts ws (path, i.0) in
      let s = string_again path ts ws i in
      record { rest = s.rest; is = rw (string, s.is) refl; others = s.others }

  module_again : (s : ModuleShape) (ts : List T) (ws : List Word) → IsModule expansion s (map word ts) ws → Reads word (module_at word expansion ts) s ws
  unfolding module_at
  module_again s ts ws (b, c, d, e, f, o, g, i, l) =
      let k = taken word Identifier mod_keyword ts b f in
      let q = optional_again word s.optional k.rest c (rw k.others o) (other_first QuestionMark Identifier c d (s.name, g) refl) in
      let n = taken word Identifier s.name q.rest d (rw q.others g) in
      let p = file_again s.path n.rest e ws (rw n.others i) l in
      let r = ends.only p.rest ws (rw p.others l) in
      record { rest = r.0; is = rw (k.expects, q.is, n.expects, p.is, r.1, n.says) (refl {a = Ok (s, r.0)}); others = r.2 }

  -- ---- items

  -- after a submodule's name
  file_or_end : (path : Option (List ℕ)) (ws a rest : List Word) → IsFile expansion path ws a → IsEol a rest → (b : List Word) × (Mark StringToken ws b ⊎ IsEol ws b)
  file_or_end None ws a rest i l = (rest, inr (rw i l))
  file_or_end (Some path) ws a rest i l = (a, inl (path, i.0))

  pub again : (i : ItemShape) (ts : List T) (ws : List Word) → IsItem expansion i (map word ts) ws → Reads word (item_of word expansion (kind_at word ts) ts) i ws
  unfolding item_of
  again (alias_item [] s) ts ws i =
      let r = alias_again s ts ws i in
      let k = alias_told word s.name ts i.0 i.1 i.2 i.4 i.5 i.6 in
      record { rest = r.rest; is = rw (k, r.is) refl; others = r.others }
  again (alias_item (a ∷ attributes) s) ts ws i = absurd i
  again (assignment_item [] s) ts ws i =
      let r = assignment_again s ts ws i in
      let k = assignment_told word ends s.export s.eager s.name ts i.0 i.1 i.2 i.4 i.5 i.6 in
      record { rest = r.rest; is = rw (k, r.is) refl; others = r.others }
  again (assignment_item (a ∷ attributes) s) ts ws i = absurd i
  again (comment_item text) ts ws i = absurd i
  again (function_item s) ts ws i =
      let r = function_again s ts ws i in
      let k = function_told word s.name ts i.0 i.1 i.5 i.6 in
      record { rest = r.rest; is = rw (k, r.is) refl; others = r.others }
  again (import_item s) ts ws i =
      let r = import_again s ts ws i in
      let k = import_told word s.optional ts i.0 i.1 i.2 i.3 i.4 (s.path, i.5.0) in
      record { rest = r.rest; is = rw (k, r.is) refl; others = r.others }
  again (module_item [] s) ts ws i =
      let r = module_again s ts ws i in
      let e = file_or_end s.path i.2 i.3 ws i.7 i.8 in
      let k = module_told word ends s.optional s.name ts i.0 i.1 i.2 e.0 i.4 i.5 i.6 e.1 in
      record { rest = r.rest; is = rw (k, r.is) refl; others = r.others }
  again (module_item (a ∷ attributes) s) ts ws i = absurd i
  again newline_item ts ws i = absurd i
  again (recipe_item attributes s) ts ws i = absurd i
  again (set_item attributes s) ts ws i = absurd i
  again (unexport_item name) ts ws i =
      let r = unexport_again name ts ws i in
      let k = unexport_told word ends name ts i.0 i.1 ws i.2 i.3 i.4 in
      record { rest = r.rest; is = rw (k, r.is) refl; others = r.others }
