-- What is reached from an expression by places is what is reached from its shape by names.
use Rattle.std.proofs.Common.{◌≡◌, refl, sym, ◌∙◌, ap, subst, true, false, cond, Bool, List, [], ◌∷◌, map, codes, Option, Some, None, ℕ}
use Rattle.std.specs.Prelude.{Contains}
use Rattle.std.specs.List.{cons_option, filter_map}
use Rattle.std.specs.Option.{option_map}
use Rattle.std.specs.Str.{bytes_eq}
use Rattle.std.proofs.lemmas.Option.{none-some}
use Rattle.just_text.specs.Tokens.{lexeme}
use Rattle.just_text.specs.declared.name.Name.{Name}
use Rattle.tree_expressions.specs.Shape.{Shape, shape_of}
use Rattle.tree_expressions.specs.declared.expression.Expression.{Expression}
use Rattle.tree_items.specs.declared.ast.Item.{Item}
use Rattle.tree_items.specs.declared.ast.Item.TheVariants.{Alias, Assignment, Comment, Function, Import, Module, Newline, Recipe, Set, Unexport}
use Rattle.tree_items.specs.declared.item.FunctionDefinition.{FunctionDefinition}
use Rattle.tree_items.specs.Files.{item_shape}
use Rattle.tree_items.specs.Items.{names_of}
use Rattle.evaluate_context.specs.Functions.{first_named}
use Rattle.evaluate_context.specs.declared.context.FunctionRef.{FunctionRef}
use Rattle.modules_compilation.specs.Places.{item_at}
use Rattle.modules_compilation.specs.declared.compilation.Compilation.{Compilation}
use Rattle.modules_compilation.specs.declared.place.Place.{Place}
use Rattle.resolve_references.specs.References.{references_of}
use Rattle.resolve_references.specs.declared.references.Reference.{Reference}
use Rattle.resolve_references.specs.declared.references.Reference.TheVariants.{Call, Variable}
use Rattle.resolve_analysis.specs.Lists.{functions_at, functions_in}
use Rattle.resolve_analysis.specs.Lists as lists
use Rattle.justfile_analyzer.specs.Steady.{Asks, IsReached}
use Rattle.justfile_analyzer.specs.Steady as placed
use Rattle.meaning_rules.specs.Naming.{Occurrence, a_call, occurrences}
use Rattle.laws_modules.specs.References.Occurrences.{occurrence_of}
use Rattle.laws_modules.proofs.References.Found.{references_are_occurrences}
use Rattle.meaning_rules.specs.Worlds.Given.{Text}
use Rattle.laws_names.proofs.Reading.Lists.{contains_map, contains_mapped}
use Rattle.meaning_evaluation.specs.Named.{FunctionRow}
use Rattle.just_meaning.specs.Reading.{AsksIn, Reaches, function_row}
use Rattle.just_meaning.specs.Reading as named
use Rattle.laws_runs.specs.Resolved.Definitions.{key_at, shape_at}
use Rattle.laws_runs.specs.Resolved.Definitions as rows

-- ---- the first function of a name, by its tree and by its row

-- the first of these functions that has the name
abbrev first_of : List ℕ → List FunctionDefinition → Option FunctionDefinition
first_of name [] = None
first_of name (f ∷ fs) = cond (bytes_eq (lexeme f.name.token) name) (Some f) (first_of name fs)

first_lent : (name : List ℕ) (lents : List FunctionRef) → first_named name lents ≡ first_of name (functions_in lents)
first_lent name [] = refl
first_lent name (f ∷ fs) = ap (cond (bytes_eq (lexeme f.definition.now.name.token) name) (Some f.definition.now)) (first_lent name fs)

-- the row has the shape of the tree's body
abbrev Alike : Option FunctionDefinition → Option FunctionRow → Type 0
Alike None None = Unit {0}
Alike (Some f) (Some row) = row.body ≡ shape_of f.body
Alike None (Some row) = ⊥
Alike (Some f) None = ⊥

module _ (compilation : Compilation) where
  -- the row of what stands at a place
  abbrev pub row_there : Place → Option FunctionRow
  row_there place = rows.function_of (key_at compilation place) (shape_at compilation place)

  module _ (name : List ℕ) where
    chosen : (test : Bool) (f : FunctionDefinition) (row : FunctionRow) (fs : Option FunctionDefinition) (rest : Option FunctionRow) → row.body ≡ shape_of f.body → Alike fs rest → Alike (cond test (Some f) fs) (cond test (Some row) rest)
    chosen true f row fs rest same alike = same
    chosen false f row fs rest same alike = alike

    -- one item before others
    item_alike : (key : Text) (o : Option Item) (fs : List FunctionDefinition) (rest : List FunctionRow) → Alike (first_of name fs) (function_row name rest)
        → Alike (first_of name (cons_option (lists.function_of o) fs)) (function_row name (cons_option (rows.function_of key (option_map item_shape o)) rest))
    item_alike key None fs rest alike = alike
    item_alike key (Some (Alias x)) fs rest alike = alike
    item_alike key (Some (Assignment x)) fs rest alike = alike
    item_alike key (Some (Comment x)) fs rest alike = alike
    item_alike key (Some (Function f)) fs rest alike =
        let row : FunctionRow = record { file = key; name = lexeme f.name.token; parameters = names_of f.parameters.items; body = shape_of f.body } in
        chosen (bytes_eq (lexeme f.name.token) name) f row (first_of name fs) (function_row name rest) refl alike
    item_alike key (Some (Import x)) fs rest alike = alike
    item_alike key (Some (Module x)) fs rest alike = alike
    item_alike key (Some Newline) fs rest alike = alike
    item_alike key (Some (Recipe x)) fs rest alike = alike
    item_alike key (Some (Set x)) fs rest alike = alike
    item_alike key (Some (Unexport x)) fs rest alike = alike

    firsts_alike : (places : List Place) → Alike (first_of name (functions_at compilation places)) (function_row name (filter_map row_there places))
    firsts_alike [] = tt
    firsts_alike (place ∷ places) = item_alike (key_at compilation place) (item_at compilation place) (functions_at compilation places) (filter_map row_there places) (firsts_alike places)

-- ---- what is reached

module _ (compilation : Compilation) (places : List Place) (lents : List FunctionRef) (kept : functions_in lents ≡ functions_at compilation places) where
  abbrev functions : List FunctionRow
  functions = filter_map (row_there compilation) places

  alike : (name : List ℕ) → Alike (first_named name lents) (function_row name functions)
  alike name = subst (λ o. Alike o (function_row name functions)) (sym (first_lent name lents ∙ ap (first_of name) kept)) (firsts_alike compilation name places)

  -- a function that is found by its place has a row, and the other way round
  row_found : (name : List ℕ) (f : FunctionDefinition) → first_named name lents ≡ Some f → (row : FunctionRow) × (function_row name functions ≡ Some row) × (row.body ≡ shape_of f.body)
  row_found name f e = by_row (function_row name functions) refl (subst (λ o. Alike o (function_row name functions)) e (alike name))
    where
      by_row : (o : Option FunctionRow) → function_row name functions ≡ o → Alike (Some f) (function_row name functions) → (row : FunctionRow) × (function_row name functions ≡ Some row) × (row.body ≡ shape_of f.body)
      by_row (Some row) is h = (row, is, subst (Alike (Some f)) is h)
      by_row None is h = absurd (subst (Alike (Some f)) is h)

  tree_found : (name : List ℕ) (row : FunctionRow) → function_row name functions ≡ Some row → (f : FunctionDefinition) × (first_named name lents ≡ Some f) × (row.body ≡ shape_of f.body)
  tree_found name row e = by_tree (first_named name lents) refl (subst (Alike (first_named name lents)) e (alike name))
    where
      by_tree : (o : Option FunctionDefinition) → first_named name lents ≡ o → Alike (first_named name lents) (Some row) → (f : FunctionDefinition) × (first_named name lents ≡ Some f) × (row.body ≡ shape_of f.body)
      by_tree (Some f) is h = (f, is, subst (λ o. Alike o (Some row)) is h)
      by_tree None is h = absurd (subst (λ o. Alike o (Some row)) is h)

  no_row : (name : List ℕ) → first_named name lents ≡ None → function_row name functions ≡ None
  no_row name none = by_row (function_row name functions) refl
    where
      by_row : (o : Option FunctionRow) → function_row name functions ≡ o → function_row name functions ≡ None
      by_row None is = is
      by_row (Some row) is = let f = tree_found name row is in absurd (none-some f.0 (sym none ∙ f.1))

  no_tree : (name : List ℕ) → function_row name functions ≡ None → first_named name lents ≡ None
  no_tree name none = by_tree (first_named name lents) refl
    where
      by_tree : (o : Option FunctionDefinition) → first_named name lents ≡ o → first_named name lents ≡ None
      by_tree None is = is
      by_tree (Some f) is = let r = row_found name f is in absurd (none-some r.0 (sym none ∙ r.1))

  -- a call in a shape is one in the tree
  record IsCalled (references : List Reference) (name : List ℕ) (count : ℕ) : Type 0 where
    pub own : Name
    pub there : Contains references (Call own count)
    pub is : lexeme own.token ≡ name

  called : (references : List Reference) (name : List ℕ) (count : ℕ) → Contains (map occurrence_of references) (a_call name count) → IsCalled references name count
  called references name count c = let m = contains_mapped occurrence_of references (a_call name count) c in by_reference m.0 m.1 m.2
    where
      by_reference : (r : Reference) → Contains references r → occurrence_of r ≡ a_call name count → IsCalled references name count
      by_reference (Call own arguments) there e =
          let same : lexeme own.token ≡ name = cc e in
          let many : arguments ≡ count = cc e in
          record { own = own; there = subst (λ n. Contains references (Call own n)) many there; is = same }
      by_reference (Variable own number) there e = absurd (cc e)

  -- what is called from what is reached is reached
  further : {e inner : Shape} {hidden others : List (List ℕ)} → Reaches functions e hidden inner others → (name : List ℕ) (count : ℕ) (row : FunctionRow) → Contains (occurrences inner) (a_call name count) → function_row name functions ≡ Some row
      → Reaches functions e hidden row.body row.parameters
  further named.itself name count row c is = named.through c is named.itself
  further (named.through d first reached) name count row c is = named.through d first (further reached name count row c is)

  -- a reference that is reached stands in a shape that is reached
  record Stands (e : Shape) (o : Occurrence) : Type 0 where
    pub inner : Shape
    pub others : List (List ℕ)
    pub reached : Reaches functions e [] inner others
    pub there : Contains (occurrences inner) o

  occurs : (e : Expression) (r : Reference) → Contains (references_of e) r → Contains (occurrences (shape_of e)) (occurrence_of r)
  occurs e r c = subst (λ os. Contains os (occurrence_of r)) (references_are_occurrences e) (contains_map occurrence_of (references_of e) r c)

  to_names : (e : Expression) {r : Reference} → IsReached lents (references_of e) r → Stands (shape_of e) (occurrence_of r)
  to_names e (placed.written {r} c) = record { inner = shape_of e; others = []; reached = named.itself; there = occurs e r c }
  to_names e (placed.through {name} {count} {f} {r} reached first inside) =
      let s = to_names e reached in
      let row = row_found (lexeme name.token) f first in
      record { inner = row.0.body; others = row.0.parameters; reached = further s.reached (lexeme name.token) count row.0 s.there row.1; there = subst (λ b. Contains (occurrences b) (occurrence_of r)) (sym row.2) (occurs f.body r inside) }

  -- a shape that is reached is that of an expression whose references are reached
  record HasTree (references : List Reference) (inner : Shape) : Type 0 where
    pub tree : Expression
    pub shaped : inner ≡ shape_of tree
    pub reached : (r : Reference) → Contains (references_of tree) r → IsReached lents references r

  to_places : (references : List Reference) {e inner : Shape} {hidden others : List (List ℕ)} → Reaches functions e hidden inner others → HasTree references e → HasTree references inner
  to_places references named.itself tree = tree
  to_places references (named.through {e} {inner} {hidden} {others} {name} {count} {f} c first reached) tree =
      let call = called (references_of tree.tree) name count (subst (λ os. Contains os (a_call name count)) (ap occurrences tree.shaped ∙ sym (references_are_occurrences tree.tree)) c) in
      let found = tree_found name f first in
      to_places references reached (record {
        tree = found.0.body;
        shaped = found.2;
        reached = λ r d. placed.through (tree.reached (Call call.own count) call.there) (ap (λ n. first_named n lents) call.is ∙ found.1) d;
      })

  -- ---- an expression asks by places where its shape asks by names

  pub asks_named : (e : Expression) → Asks lents e → AsksIn functions (shape_of e)
  asks_named e asks =
      let s = to_names e asks.reached in
      record {
        inner = s.inner;
        others = s.others;
        reached = s.reached;
        count = asks.count;
        named = subst (λ name. Contains (occurrences s.inner) (a_call name asks.count)) asks.is s.there;
        free = no_row (codes "is_dependency") asks.free;
      }

  pub asks_placed : (e : Expression) → AsksIn functions (shape_of e) → Asks lents e
  asks_placed e asks =
      let t = to_places (references_of e) asks.reached (record { tree = e; shaped = refl; reached = λ r c. placed.written c }) in
      let call = called (references_of t.tree) (codes "is_dependency") asks.count (subst (λ os. Contains os (a_call (codes "is_dependency") asks.count)) (ap occurrences t.shaped ∙ sym (references_are_occurrences t.tree)) asks.named) in
      record { name = call.own; count = asks.count; reached = t.reached (Call call.own asks.count) call.there; is = call.is; free = no_tree (codes "is_dependency") asks.free }
