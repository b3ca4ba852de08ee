-- What a module defines has a row, and what paths of names lead to.
use Rattle.std.proofs.Common.{◌≡◌, inl, inr, refl, sym, ◌∙◌, ap, ap₂, subst, Bool, true, false, cond, List, [], ◌∷◌, ◌++◌, append_assoc, Some, None}
use Rattle.std.specs.Prelude.{codes, Contains}
use Rattle.std.specs.Str.{bytes_eq}
use Rattle.std.proofs.lemmas.List.{append-nil}
use Rattle.std.proofs.lemmas.Option.{none-some, same_Some}
use Rattle.std.proofs.lemmas.Slice.Eq.{bytes_eq-Decides}
use Rattle.tree_items.specs.Files.{function_item}
use Rattle.meaning_rules.specs.Worlds.Given.{Text, World, Overrides}
use Rattle.meaning_rules.specs.Worlds.Modules.{IsModule, inside}
use Rattle.meaning_rules.specs.Worlds.Keeping.{a_function, a_recipe, a_variable, IsDefined, KeepsAt}
use Rattle.meaning_rules.proofs.Worlds.Places.{contains_cases, contains_first, contains_later, contains_none}
use Rattle.meaning_rules.specs.Depending.{LeadsTo, here, into, IsRecipePath}
use Rattle.meaning_rules.specs.Rules.{Rule, Breaks}
use Rattle.meaning_evaluation.specs.Named.{RecipeName, RecipeRow, VariableRow, FunctionRow, Definitions}
use Rattle.just_meaning.specs.Rows.{recipe_row}
use Rattle.just_meaning.specs.Reading.{function_row}
use Rattle.just_meaning.specs.Opening.{named}
use Rattle.just_meaning.specs.Defining.{last_name, names_before, named_from, is_private, AreDefined}
use Rattle.just_meaning.specs.Known.{BreaksNoRule, IsRead}
use Rattle.laws_agreement.proofs.Known.Kept.{is_item, none_defined}
use Rattle.laws_agreement.proofs.Known.Settings.{on_or_not}

-- ---- paths of names

-- a recipe by the path of its module and its name
abbrev pub recipe_at : List Text → Text → RecipeName
recipe_at path name = record { path = path; recipe = name }

-- the last name of a path that ends with it
last_is : (xs : List Text) (x : Text) → last_name (xs ++ x ∷ []) ≡ x
last_is [] x = refl
last_is (y ∷ []) x = refl
last_is (y ∷ z ∷ xs) x = last_is (z ∷ xs) x

-- and the names before that
before_is : (xs : List Text) (x : Text) → names_before (xs ++ x ∷ []) ≡ xs
before_is [] x = refl
before_is (y ∷ []) x = refl
before_is (y ∷ z ∷ xs) x = ap (λ l. y ∷ l) (before_is (z ∷ xs) x)

-- the recipe that a path of names means, by its modules and its own name
named_is : (path modules : List Text) (name : Text) → named_from path (modules ++ name ∷ []) ≡ recipe_at (path ++ modules) name
named_is path modules name = ap₂ (λ a b. recipe_at (path ++ a) b) (before_is modules name) (last_is modules name)

-- names of submodules lead to a module
leads_module : (w : World) (path : List Text) (own : Text) → IsModule w path own → (names : List Text) (key : Text) → LeadsTo w own names key → IsModule w (path ++ names) key
leads_module w path own is [] key here = subst (λ p. IsModule w p own) (sym (append-nil path)) is
leads_module w path own is (name ∷ names) key (into {inner = inner} f s l) =
    subst (λ p. IsModule w p key) (append_assoc path (name ∷ []) names) (leads_module w (path ++ name ∷ []) inner (inside is f s) names key l)

-- ---- functions of a name

-- the first function of a name is in the list, and has the name
pub function_in : (name : Text) (fs : List FunctionRow) (f : FunctionRow) → function_row name fs ≡ Some f → Contains fs f × (f.name ≡ name)
function_in name [] f e = absurd (none-some f e)
function_in name (g ∷ fs) f e = by_test (bytes_eq g.name name) refl e (function_in name fs f)
  where
    by_test : (b : Bool) → bytes_eq g.name name ≡ b → cond b (Some g) (function_row name fs) ≡ Some f → (function_row name fs ≡ Some f → Contains fs f × (f.name ≡ name)) → Contains (g ∷ fs) f × (f.name ≡ name)
    by_test true is e later =
        let same : g ≡ f = same_Some g f e in
        (subst (Contains (g ∷ fs)) same (contains_first g fs), subst (λ (h : FunctionRow). h.name ≡ name) same ((bytes_eq-Decides g.name name).0 is))
    by_test false is e later = let h = later e in (contains_later g fs f h.0, h.1)

-- where there is none, no function of the list has the name
none_named : (name : Text) (fs : List FunctionRow) → function_row name fs ≡ None → (f : FunctionRow) → Contains fs f → f.name ≡ name → ⊥
none_named name [] e f c same = contains_none [] f refl c
none_named name (g ∷ fs) e f c same = by_test (bytes_eq g.name name) refl e (none_named name fs)
  where
    by_test : (b : Bool) → bytes_eq g.name name ≡ b → cond b (Some g) (function_row name fs) ≡ None → (function_row name fs ≡ None → (f : FunctionRow) → Contains fs f → f.name ≡ name → ⊥) → ⊥
    by_test true is e later = none-some g (sym e)
    by_test false is e later = elim (contains_cases g fs f c) [
      | inl first ↦ absurd (cc (sym is ∙ (bytes_eq-Decides g.name name).1 (ap (λ (h : FunctionRow). h.name) first ∙ same)))
      | inr d ↦ later e f d same
    ]

-- ---- rows

module _ (w : World) (o : Overrides) (unbroken : BreaksNoRule w o) (read : IsRead w) (base working : Text) (defined : Definitions) (are : AreDefined w o base working defined) where
  -- nothing breaks a rule
  pub none_breaks : (rule : Rule) → Breaks w o rule → ⊥
  none_breaks rule b = unbroken rule (record { said = λ e. read.said; breaks = b })

  module _ (path : List Text) (own name : Text) (is : IsModule w path own) where
    -- a variable that a file of a module defines has a row
    pub variable_there : IsDefined w own a_variable name → defined.variable (named path name) ≡ None → ⊥
    variable_there d absent =
        let files = read.orders path own is in
        none_defined w own a_variable name files.0 files.1 (λ item k.
        let q = is_item a_variable name w.os item k.kept.defines.is in
        let row : VariableRow = record { file = k.key; value = q.1.value; export = q.1.export; eager = q.1.eager; private = is_private q.0 name } in
        none-some row (sym absent ∙ (are.variables (named path name) row).1 (record {
          own = own;
          is = is;
          key = k.key;
          place = k.place;
          attributes = q.0;
          shape = q.1;
          kept = subst (KeepsAt w own a_variable name k.key k.place) q.2 k.kept;
          says = refl;
        }))) d

    -- so has a recipe
    pub recipe_there : IsDefined w own a_recipe name → defined.recipe (recipe_at path name) ≡ None → ⊥
    recipe_there d absent =
        let files = read.orders path own is in
        let on = on_or_not w (codes "positional-arguments") own files.0 files.1 in
        none_defined w own a_recipe name files.0 files.1 (λ item k.
        let q = is_item a_recipe name w.os item k.kept.defines.is in
        let row : RecipeRow = recipe_row w.expansion k.key on.0 (λ dependency. named_from path dependency.path) q.0 q.1 in
        none-some row (sym absent ∙ (are.recipes (recipe_at path name) row).1 (record {
          own = own;
          is = is;
          key = k.key;
          place = k.place;
          attributes = q.0;
          shape = q.1;
          kept = subst (KeepsAt w own a_recipe name k.key k.place) q.2 k.kept;
          passes = on.0;
          passing = on.1;
          says = refl;
        }))) d

    -- and a function
    pub function_there : IsDefined w own a_function name → function_row name (defined.functions path) ≡ None → ⊥
    function_there d absent =
        let files = read.orders path own is in
        none_defined w own a_function name files.0 files.1 (λ item k.
        let q = is_item a_function name w.os item k.kept.defines.is in
        let row : FunctionRow = record { file = k.key; name = q.0.name; parameters = q.0.parameters; body = q.0.body } in
        let kept : KeepsAt w own a_function name k.key k.place (function_item q.0) = subst (KeepsAt w own a_function name k.key k.place) q.1 k.kept in
        none_named name (defined.functions path) absent row (((are.functions path own is).each row).1 (record {
          key = k.key;
          place = k.place;
          shape = q.0;
          kept = subst (λ n. KeepsAt w own a_function n k.key k.place (function_item q.0)) (sym q.2) kept;
          says = refl;
        })) q.2) d

  -- a path to a recipe that has no row leads to no recipe
  pub no_path : (path : List Text) (own : Text) → IsModule w path own → (target : List Text) → defined.recipe (named_from path target) ≡ None → IsRecipePath w own target → ⊥
  no_path path own is target absent p =
      let same : named_from path target ≡ recipe_at (path ++ p.modules) p.name = ap (named_from path) p.names.whole ∙ named_is path p.modules p.name in
      recipe_there (path ++ p.modules) p.inner p.name (leads_module w path own is p.modules p.inner p.names.leads) p.defined (ap defined.recipe (sym same) ∙ absent)
