-- What the parts of a module's definitions name stands for something, and calls of functions fit.
use Rattle.std.proofs.Common.{◌≡◌, inl, inr, refl, sym, ◌∙◌, ap, subst, Bool, true, false, cond, true≢false, List, [], ◌∷◌, length, map, ℕ, Option, Some, None, option_map}
use Rattle.std.specs.Prelude.{Contains, IsSome}
use Rattle.std.specs.List.{list_any}
use Rattle.std.specs.Str.{bytes_eq}
use Rattle.std.proofs.lemmas.Option.{none-some}
use Rattle.std.proofs.lemmas.Slice.Eq.{bytes_eq-Decides}
use Rattle.tree_expressions.specs.Shape.{Shape}
use Rattle.tree_attributes.specs.Sets.Order.{in_order}
use Rattle.tree_items.specs.Files.{function_item, recipe_item}
use Rattle.tree_items.specs.Recipes.{DependencyShape}
use Rattle.just_value.specs.Constants.{constant_rows}
use Rattle.evaluate_functions.specs.Names.{function_of}
use Rattle.evaluate_functions.specs.Arguments.{expected}
use Rattle.meaning_rules.specs.Worlds.Given.{Text, World, Overrides}
use Rattle.meaning_rules.specs.Worlds.Modules.{IsModule}
use Rattle.meaning_rules.specs.Worlds.Keeping.{a_function, a_variable, KeepsAt}
use Rattle.meaning_rules.proofs.Worlds.Places.{contains_cases, contains_first, contains_none}
use Rattle.meaning_rules.proofs.Worlds.Reached.{modules_are_reached}
use Rattle.meaning_rules.specs.Fixed.{constants, counts_of, is_in, value_of}
use Rattle.meaning_rules.specs.Naming.{Part, part, occurrences, parts_of, parts_of_recipe}
use Rattle.meaning_rules.specs.Naming as naming
use Rattle.meaning_rules.specs.Rules.{HasPart, looked, undefined_variable, unknown_function, function_argument_count}
use Rattle.meaning_rules.specs.Rules as rules
use Rattle.meaning_evaluation.specs.Named.{RecipeName, RecipeRow, VariableRow, FunctionRow, Definitions}
use Rattle.just_meaning.specs.Rows.{recipe_row}
use Rattle.just_meaning.specs.Reading.{Reaches, itself, through, ReadsIn, expressions_in, function_row}
use Rattle.just_meaning.specs.Opening.{named, text_named}
use Rattle.just_meaning.specs.Defining.{named_from, AreDefined, IsRecipeRow}
use Rattle.laws_agreement.specs.Agreement.Opened.{StandsFor, a_variable, a_constant}
use Rattle.laws_agreement.proofs.Agreement.Names.{contains_any}
use Rattle.just_meaning.specs.Known.{BreaksNoRule, IsRead, AreInOrder}
use Rattle.laws_agreement.proofs.Known.Lists.{is_there, same_or_not}
use Rattle.laws_agreement.proofs.Known.Parts.{to_parts}
use Rattle.laws_agreement.proofs.Known.Rows.{function_in, function_there, none_breaks, variable_there}

-- a name without a text is no constant
no_constant : (name : Text) (rows : List (Text × Text)) → text_named name rows ≡ None → Contains (map (λ row. row.0) rows) name → ⊥
no_constant name [] e c = contains_none [] name refl c
no_constant name ((other, text) ∷ rows) e c = by_test (bytes_eq other name) refl e (no_constant name rows)
  where
    by_test : (b : Bool) → bytes_eq other name ≡ b → cond b (Some text) (text_named name rows) ≡ None → (text_named name rows ≡ None → Contains (map (λ row. row.0) rows) name → ⊥) → ⊥
    by_test true is e later = none-some text (sym e)
    by_test false is e later = elim (contains_cases other (map (λ row. row.0) rows) name c) [
      | inl first ↦ true≢false (sym ((bytes_eq-Decides other name).1 first) ∙ is)
      | inr d ↦ later e d
    ]

-- so of the constants of the language
unnamed : (name : Text) → text_named name constant_rows ≡ None → Contains constants name → ⊥
unfolding constants
unnamed name e c = no_constant name constant_rows e c

-- what is no built-in function has no count of arguments
no_count : (name : Text) → function_of name ≡ None → counts_of name ≡ None
unfolding counts_of
no_count name e = ap (option_map (λ f. is_in (expected f))) e

module _ (w : World) (o : Overrides) (unbroken : BreaksNoRule w o) (read : IsRead w) (base working : Text) (defined : Definitions) (are : AreDefined w o base working defined) (path : List Text) (own : Text) (is : IsModule w path own) where
  abbrev Has : Part → Type 0
  Has p = HasPart w own p

  -- ---- which parts there are

  -- the body of a function is a part
  function_part : (f : FunctionRow) → Contains (defined.functions path) f → Has (part f.parameters f.body)
  function_part f c =
      let h = ((are.functions path own is).each f).0 c in (
        function_item h.shape,
        looked is (record { key = h.key; place = h.place; kept = h.kept }),
        subst (λ (g : FunctionRow). Contains (part h.shape.parameters h.shape.body ∷ []) (part g.parameters g.body)) (sym h.says) (contains_first (part h.shape.parameters h.shape.body) []),
      )

  -- what a part reaches is one
  reached_part : (e inner : Shape) (hidden others : List Text) → Reaches (defined.functions path) e hidden inner others → Has (part hidden e) → Has (part others inner)
  reached_part e inner hidden others itself h = h
  reached_part e inner hidden others (through {name = name} {f = f} c there r) h = reached_part f.body inner f.parameters others r (function_part f (function_in name (defined.functions path) f there).0)

  -- ---- what parts name and call

  -- what is overridden is a variable
  not_overridden : (name text : Text) → defined.variable (named path name) ≡ None → defined.override (named path name) ≡ Some text → ⊥
  not_overridden name text absent e =
      let h = (are.overrides (named path name) text).0 e in
      variable_there w o unbroken read base working defined are path h.own name h.overridden.names.is h.overridden.names.there absent

  -- a variable that a part names stands for something
  part_stands : (p : Part) (name : Text) → Has p → Contains (occurrences p.said) (naming.a_variable name) → list_any (λ other. bytes_eq other name) p.sees ≡ false → StandsFor defined path name
  part_stands p name has occurs free = by_row (defined.variable (named path name)) refl
    where
      by_text : (text : Option Text) → text_named name constant_rows ≡ text → defined.variable (named path name) ≡ None → defined.override (named path name) ≡ None → StandsFor defined path name
      by_text (Some text) is_text absent over = a_constant absent over is_text
      by_text None is_text absent over = absurd (none_breaks w o unbroken read base working defined are (undefined_variable name) (
        own,
        p,
        has,
        occurs,
        (λ sees. true≢false (sym (contains_any p.sees name sees) ∙ free)),
        (λ d. variable_there w o unbroken read base working defined are path own name is d absent),
        (λ c. unnamed name is_text c),
      ))

      by_override : (text : Option Text) → defined.override (named path name) ≡ text → defined.variable (named path name) ≡ None → StandsFor defined path name
      by_override (Some text) e absent = absurd (not_overridden name text absent e)
      by_override None e absent = by_text (text_named name constant_rows) refl absent e

      by_row : (row : Option VariableRow) → defined.variable (named path name) ≡ row → StandsFor defined path name
      by_row (Some row) e = a_variable e
      by_row None e = by_override (defined.override (named path name)) refl e

  -- a call of a function of the module fits
  part_fits : (p : Part) (name : Text) (count : ℕ) (f : FunctionRow) → Has p → Contains (occurrences p.said) (naming.a_call name count) → function_row name (defined.functions path) ≡ Some f → count ≡ length f.parameters
  part_fits p name count f has occurs there =
      let i = function_in name (defined.functions path) f there in
      let h = ((are.functions path own is).each f).0 i.0 in
      let same : length f.parameters ≡ length h.shape.parameters = ap (λ (g : FunctionRow). length g.parameters) h.says in
      let kept : KeepsAt w own a_function name h.key h.place (function_item h.shape) = subst (λ n. KeepsAt w own a_function n h.key h.place (function_item h.shape)) i.1 h.kept in
      elim (same_or_not (length h.shape.parameters) count) [
        | inl e ↦ sym (same ∙ e)
        | inr other ↦ absurd (none_breaks w o unbroken read base working defined are (function_argument_count name count) (own, p, has, occurs, rules.defined h.shape (record { key = h.key; place = h.place; kept = kept }) other))
      ]

  -- what it calls else is built in
  part_builtin : (p : Part) (name : Text) (count : ℕ) → Has p → Contains (occurrences p.said) (naming.a_call name count) → function_row name (defined.functions path) ≡ None → IsSome (function_of name)
  part_builtin p name count has occurs absent =
      let f = is_there (function_of name) (λ none. none_breaks w o unbroken read base working defined are (unknown_function name) (
        own,
        p,
        count,
        has,
        occurs,
        ((λ d. function_there w o unbroken read base working defined are path own name is d absent), no_count name none),
      )) in
      subst IsSome (sym f.1) refl

  -- ---- what is reached

  module _ (e : Shape) (hidden : List Text) (has : Has (part hidden e)) where
    -- what an expression reads stands for something
    pub read_stands : (name : Text) → ReadsIn (defined.functions path) e hidden name → StandsFor defined path name
    read_stands name reads = part_stands (part reads.others reads.inner) name (reached_part e reads.inner hidden reads.others reads.reached has) reads.named reads.free

    module _ (inner : Shape) (others : List Text) (name : Text) (count : ℕ) (goes : Reaches (defined.functions path) e hidden inner others) (occurs : Contains (occurrences inner) (naming.a_call name count)) where
      -- a call that it reaches fits
      pub call_fits : (f : FunctionRow) → function_row name (defined.functions path) ≡ Some f → count ≡ length f.parameters
      call_fits f there = part_fits (part others inner) name count f (reached_part e inner hidden others goes has) occurs there

      -- or it is of what is built in
      pub call_builtin : function_row name (defined.functions path) ≡ None → IsSome (function_of name)
      call_builtin absent = part_builtin (part others inner) name count (reached_part e inner hidden others goes has) occurs absent

-- the expressions of a recipe are parts of it
pub recipe_part : (w : World) (o : Overrides) (ordered : AreInOrder w) (r : RecipeName) (row : RecipeRow) (h : IsRecipeRow w o r row) (e : Shape) (hidden : List Text) → Contains (expressions_in row) (e, hidden) → HasPart w h.own (part hidden e)
recipe_part w o ordered r row h e hidden c =
    let sorted : in_order h.attributes ≡ h.attributes = ordered h.key h.place h.attributes h.shape (modules_are_reached w r.path h.own h.key h.is h.kept.defines.of) h.kept.defines.has in
    let named' : DependencyShape → RecipeName = λ dependency. named_from r.path dependency.path in
    let c' : Contains (expressions_in (recipe_row w.expansion h.key h.passes named' h.attributes h.shape)) (e, hidden) = subst (λ x. Contains (expressions_in x) (e, hidden)) h.says c in
    let p : Contains (parts_of_recipe (value_of w.expansion) (in_order h.attributes) h.shape) (part hidden e) = to_parts w.expansion named' h.shape (in_order h.attributes) (e, hidden) c' in (
      recipe_item h.attributes h.shape,
      looked h.is (record { key = h.key; place = h.place; kept = h.kept }),
      subst (λ as'. Contains (parts_of_recipe (value_of w.expansion) as' h.shape) (part hidden e)) sorted p,
    )
