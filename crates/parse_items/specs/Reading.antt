-- How items are read: by their first words it is told what comes, and then that is read.
use Rattle.std.specs.Prelude.{ℕ, zero, suc, List, [], ◌∷◌, length, Bool, true, false, ◌&&◌, ◌||◌, Option, Some, None, Result, Ok, Err, if◌then◌else◌}
use Rattle.std.specs.Str.{bytes_eq}
use Rattle.just_text.specs.Tokens.{Word, word_of}
use Rattle.just_text.specs.declared.token.Token.{Token}
use Rattle.just_text.specs.declared.compile_error.CompileErrorKind.TheVariants as kinds
use Rattle.just_text.specs.declared.token_kind.TokenKind.TheVariants.{ColonEquals, Comma, Identifier, ParenL, ParenR, QuestionMark, StringToken}
use Rattle.tree_expressions.specs.Cooking.{cooked}
use Rattle.tree_attributes.specs.declared.item_kind.ItemKind.{ItemKind}
use Rattle.tree_attributes.specs.declared.item_kind.ItemKind.TheVariants.{Alias, Assignment, Function, Import, Module, Recipe, Set, Unexport}
use Rattle.tree_items.specs.Files.{ItemShape, alias_item, assignment_item, function_item, import_item, module_item, unexport_item}
use Rattle.tree_items.specs.Items.{AliasShape, AssignmentShape, FunctionShape, ImportShape, ModuleShape}
use Rattle.tree_expressions.specs.Shape.{Shape}
use Rattle.parse_expressions.specs.Literals.{Expansion}
use Rattle.parse_expressions.specs.Reading.{◌>>=◌, on, Read, unexpected, refused, first, accept, expect, is_next, taken_if, expression_at}
use Rattle.parse_expressions.specs.LineEnds.{eol_at}
use Rattle.parse_recipes.specs.Reading.{is_named, marked_at, path_at}
use Rattle.parse_recipes.specs.Seen.{with_name}
use Rattle.parse_items.specs.Keywords.{alias_keyword, eager_keyword, export_keyword, import_keyword, mod_keyword, set_keyword, unexport_keyword}
use Rattle.parse_expressions.specs.Strings.{string_at}

abbrev pub is_ok : {A E : Type 0} → Result A E → Bool
is_ok (Ok x) = true
is_ok (Err e) = false

-- whether the two are the words of an assignment that is exported and eager
abbrev pub are_both_words : List ℕ → List ℕ → Bool
are_both_words a b = (bytes_eq a export_keyword && bytes_eq b eager_keyword) || (bytes_eq a eager_keyword && bytes_eq b export_keyword)

-- the word of an assignment
abbrev pub is_word : List ℕ → Bool
is_word a = bytes_eq a export_keyword || bytes_eq a eager_keyword

-- what an item is after whose first name there is `:=` after a second
abbrev pub kind_of_value : List ℕ → ItemKind
kind_of_value a = if is_word a then Assignment else if bytes_eq a alias_keyword then Alias else if bytes_eq a set_keyword then Set else Recipe

-- what an item is whose line has two names alone
abbrev pub kind_of_names : List ℕ → ItemKind
kind_of_names a = if bytes_eq a set_keyword then Set else if bytes_eq a unexport_keyword then Unexport else if bytes_eq a mod_keyword then Module else Recipe

module _ {T : Type 0} (word : T → Word) where
  -- whether a line ends here
  abbrev pub ends_here : List T → Bool
  ends_here ts = is_ok (eol_at word ts)

  -- whether a name and `:=` come here
  unfoldable pub is_named_value : List T → Bool
  is_named_value ts = on (accept word Identifier ts) false (λ p. is_next word ColonEquals p.1)

  -- what an item is whose first words are these names
  unfoldable pub kind_by_two : List ℕ → List ℕ → List T → ItemKind
  kind_by_two a b ts =
      if is_next word ColonEquals ts
      then kind_of_value a
      else if ends_here ts
      then kind_of_names a
      else if is_next word StringToken ts && bytes_eq a mod_keyword then Module
      else if are_both_words a b && is_named_value ts then Assignment
      else Recipe

  -- what an item is whose first word is this name
  unfoldable pub kind_by_one : List ℕ → List T → ItemKind
  kind_by_one a ts =
      if is_next word ColonEquals ts then Assignment
      else if is_next word ParenL ts then Function
      else if is_next word StringToken ts && bytes_eq a import_keyword then Import
      else if is_next word QuestionMark ts && bytes_eq a import_keyword then Import
      else if is_next word QuestionMark ts && bytes_eq a mod_keyword then Module
      else on (accept word Identifier ts) Recipe (λ p. kind_by_two a (word p.0).text p.1)

  -- what the item is that begins here
  unfoldable pub kind_at : List T → ItemKind
  kind_at ts = on (accept word Identifier ts) Recipe (λ p. kind_by_one (word p.0).text p.1)

  -- ---- items without expressions

  unfoldable pub alias_at : List T → Read T AliasShape
  alias_at ts =
      expect word Identifier ts >>= λ k. expect word Identifier k.1 >>= λ n. expect word ColonEquals n.1 >>= λ c. path_at word c.1 >>= λ p. eol_at word p.1 >>= λ rest.
      Ok (record { name = (word n.0).text; target = p.0 }, rest)

  unfoldable pub unexport_at : List T → Read T (List ℕ)
  unexport_at ts = expect word Identifier ts >>= λ k. expect word Identifier k.1 >>= λ n. eol_at word n.1 >>= λ rest. Ok ((word n.0).text, rest)

  -- ---- the words of assignments

  -- whether an assignment is exported and eager, by its words before the name
  unfoldable pub words_at : Bool → Bool → ℕ → List T → Read T (Bool × Bool)
  words_at export eager zero ts = Err (unexpected (first ts))
  words_at export eager (suc n) ts =
      if is_named_value ts then Ok ((export, eager), ts) else
      expect word Identifier ts >>= λ k. words_at (export || bytes_eq (word k.0).text export_keyword) (eager || bytes_eq (word k.0).text eager_keyword) n k.1

  -- ---- functions

  -- the rest of a function's parameters after one, whose token that is
  unfoldable pub names_at : ℕ → List (List ℕ) → List T → Read T (List (List ℕ))
  names_at zero before ts = Err (unexpected (first ts))
  names_at (suc n) before ts =
      on (accept word ParenR ts)
      (expect word Identifier ts >>= λ t. if is_named before (word t.0).text
      then Err (refused t.0 (kinds.DuplicateParameter (word t.0).text))
      else on (accept word Comma t.1)
      (expect word ParenR t.1 >>= λ p. Ok ((word t.0).text ∷ [], p.1))
      (λ c. names_at n ((word t.0).text ∷ before) c.1 >>= λ ns. Ok ((word t.0).text ∷ ns.0, ns.1)))
      (λ p. Ok ([], p.1))

  module _ (expansion : Expansion) where
    -- `:=`, an expression and the end of the line
    unfoldable pub value_at : List T → Read T Shape
    value_at ts = expect word ColonEquals ts >>= λ c. expression_at word expansion 256 6 c.1 >>= λ e. eol_at word e.1 >>= λ rest. Ok (e.0, rest)

    unfoldable pub assignment_at : List T → Read T AssignmentShape
    assignment_at ts =
        words_at false false (suc (length ts)) ts >>= λ w. expect word Identifier w.1 >>= λ n. value_at n.1 >>= λ v.
        Ok (record { export = w.0.0; eager = w.0.1; name = (word n.0).text; value = v.0 }, v.1)

    unfoldable pub function_at : List T → Read T FunctionShape
    function_at ts =
        expect word Identifier ts >>= λ n. expect word ParenL n.1 >>= λ o. names_at (suc (length o.1)) [] o.1 >>= λ ps. value_at ps.1 >>= λ v.
        Ok (record { name = (word n.0).text; parameters = ps.0; body = v.0 }, v.1)

    unfoldable pub import_at : List T → Read T ImportShape
    import_at ts =
        expect word Identifier ts >>= λ k. (let q = marked_at word QuestionMark k.1 in
        string_at word expansion q.1 >>= λ s. eol_at word s.1 >>= λ rest. Ok (record { optional = q.0; path = s.0 }, rest))

    -- the file of a submodule, if one is named
    unfoldable pub file_at : List T → Read T (Option (List ℕ))
    file_at ts = if is_next word StringToken ts then (string_at word expansion ts >>= λ s. Ok (Some s.0, s.1)) else Ok (None, ts)

    unfoldable pub module_at : List T → Read T ModuleShape
    module_at ts =
        expect word Identifier ts >>= λ k. (let q = marked_at word QuestionMark k.1 in
        expect word Identifier q.1 >>= λ n. file_at n.1 >>= λ s. eol_at word s.1 >>= λ rest. Ok (record { optional = q.0; name = (word n.0).text; path = s.0 }, rest))

    -- the item of that kind that stands here
    unfoldable pub item_of : ItemKind → List T → Read T ItemShape
    item_of Alias ts = alias_at ts >>= λ a. Ok (alias_item [] a.0, a.1)
    item_of Assignment ts = assignment_at ts >>= λ a. Ok (assignment_item [] a.0, a.1)
    item_of Function ts = function_at ts >>= λ f. Ok (function_item f.0, f.1)
    item_of Import ts = import_at ts >>= λ i. Ok (import_item i.0, i.1)
    item_of Module ts = module_at ts >>= λ m. Ok (module_item [] m.0, m.1)
    item_of Unexport ts = unexport_at ts >>= λ u. Ok (unexport_item u.0, u.1)
    item_of other ts = Err (unexpected (first ts))

-- a name that is none of those before
abbrev pub new_name_at : List (List ℕ) → List Token → Read Token Token
new_name_at before ts = expect word_of Identifier ts >>= λ t. with_name before t.0 >>= λ names. Ok t
