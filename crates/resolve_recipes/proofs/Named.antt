-- Names and fronts.
use Rattle.std.proofs.Common.{◌≡◌, ℕ, zero, suc, ◌<◌, Bool, true, false, cond, List, [], ◌∷◌, map, get_or, drop, length, Option, Some, None, slice_get, subst, refl, sym, ap, ◌∙◌, arith}
use Rattle.std.specs.Cmp.{IsTotalOrder}
use Rattle.std.specs.List.{All, find}
use Rattle.std.specs.Ordering.{is_eq, nat_cmp, ordering_then}
use Rattle.std.specs.Str.{bytes_eq}
use Rattle.std.specs.declared.cmp.Ordering.{Ordering}
use Rattle.std.specs.declared.cmp.Ordering.TheVariants.{Less, Equal, Greater}
use Rattle.std.proofs.lemmas.Bool.{le-ltb, eq-eqb}
use Rattle.std.proofs.lemmas.Cmp.{nat_cmp_total, nat_list_cmp_total, on_total, then_total}
use Rattle.std.proofs.lemmas.Map.Text.{is_eq-slice_cmp}
use Rattle.std.proofs.lemmas.Slice.Eq.{bytes_eq-Decides}
use Rattle.modules_compilation.specs.Tables.{text_cmp}
use Rattle.modules_compilation.specs.declared.compilation.Compilation.{Compilation}
use Rattle.modules_compilation.specs.declared.recipe_name.RecipeName.{RecipeName}
use Rattle.modules_compilation.specs.Fronts.{front_of}
use Rattle.resolve_recipes.specs.Named.{AllByName, AreByFront, AreByName, HasFront, IsByName, first_named, key_cmp, module_text, places_of, row_key, submodule_in, text_at}
use Rattle.resolve_recipes.specs.Leading.{leads_from, module_from, name_texts}
use Rattle.modules_compilation.specs.declared.module_node.ModuleNode.{ModuleNode}
use Rattle.modules_compilation.specs.declared.compilation.Target.TheVariants.{Nothing, Recipe}
use Rattle.modules_compilation.specs.declared.place.Place.{Place}
use Rattle.just_text.specs.Tokens.{lexeme}
use Rattle.just_text.specs.declared.name.Name.{Name}
use Rattle.std.specs.Option.{option_map}

one_more : {X Y : Type 0} (f : X → Y) (x : X) (o : Option X) (p : Option Y) (b : Bool) → option_map f o ≡ p → option_map f (cond b (Some x) o) ≡ cond b (Some (f x)) p
one_more f x o p true e = refl
one_more f x o p false e = e

pub find_of_map : {X Y : Type 0} (f : X → Y) (test : Y → Bool) (xs : List X) → option_map f (find (λ x. test (f x)) xs) ≡ find test (map f xs)
find_of_map f test [] = refl
find_of_map f test (x ∷ xs) = one_more f x (find (λ x. test (f x)) xs) (find test (map f xs)) (test (f x)) (find_of_map f test xs)

pub key_total : IsTotalOrder key_cmp
key_total = then_total (on_total (λ (key : ℕ × List ℕ). key.0) nat_cmp_total) (on_total (λ (key : ℕ × List ℕ). key.1) nat_list_cmp_total)

with_front : (o p : Ordering) (b : Bool) → is_eq p ≡ b → (b ≡ true → o ≡ Equal) → is_eq (ordering_then o p) ≡ b
with_front Less p true e h = absurd (let x : Less ≡ Equal = h refl in cc)
with_front Less p false e h = refl
with_front Equal p b e h = e
with_front Greater p true e h = absurd (let x : Greater ≡ Equal = h refl in cc)
with_front Greater p false e h = refl

same_key : (f g : ℕ) (s t : List ℕ) → f ≡ front_of s → g ≡ front_of t → is_eq (ordering_then (nat_cmp f g) (text_cmp s t)) ≡ bytes_eq s t
same_key f g s t is is' = with_front (nat_cmp f g) (text_cmp s t) (bytes_eq s t) (is_eq-slice_cmp s t)
    (λ same. equal (omega (arith, is, is', ap front_of ((bytes_eq-Decides s t).0 same))))
  where
    equal : f ≡ g → nat_cmp f g ≡ Equal
    equal e = rw (le-ltb f g (omega (arith, e)), eq-eqb f g e) refl

-- where fronts are right, the keys are equal just where the texts are
pub by_front : (compilation : Compilation) (name : List ℕ) (rows : List RecipeName) → All (HasFront compilation) rows
    → find (λ row. is_eq (key_cmp (row_key compilation row) (front_of name, name))) rows ≡ find (λ row. bytes_eq (text_at compilation row.place) name) rows
by_front compilation name [] fronts = refl
by_front compilation name (row ∷ rows) fronts =
    rw (same_key row.front (front_of name) (text_at compilation row.place) name (fronts 0 row (omega arith)) refl) (ap (cond (bytes_eq (text_at compilation row.place) name) (Some row)) (by_front compilation name rows (λ k d lt. fronts (suc k) d (omega (arith, lt)))))

pub recipe_found : (compilation : Compilation) (node : ModuleNode) (rows : List RecipeName) (name : List ℕ) (found : Option RecipeName) → rows ≡ node.recipe_names.items
    → (AreByFront compilation rows → found ≡ first_named (λ row. text_at compilation row.place) rows name) → IsByName compilation node → option_map (λ row. row.place) found ≡ first_named (text_at compilation) node.recipes.items name
recipe_found compilation node rows name found same is by_name =
    ap (option_map (λ row. row.place)) (is (subst (AreByFront compilation) (sym same) by_name.recipes))
    ∙ find_of_map (λ row. row.place) (λ place. bytes_eq (text_at compilation place) name) rows
    ∙ ap (λ places. first_named (text_at compilation) places name) (ap places_of same ∙ by_name.places)

pub submodule_found : (compilation : Compilation) (modules : List ModuleNode) (place : ℕ) (name : List ℕ) (found : Option ℕ) → modules ≡ compilation.modules.items
    → (((node : ModuleNode) → slice_get modules place ≡ Some node → AreByName (module_text modules) node.submodules.items) → found ≡ submodule_in modules place name)
    → AllByName compilation → found ≡ submodule_in compilation.modules.items place name
submodule_found compilation modules place name found same is all =
    subst (λ ms. ((node : ModuleNode) → slice_get ms place ≡ Some node → AreByName (module_text ms) node.submodules.items) → found ≡ submodule_in ms place name) same is (λ node there. (all place node there).submodules)

-- ---- paths

pub none_leads : (modules : List ModuleNode) (names : List (List ℕ)) → module_from modules None names ≡ None
none_leads modules [] = refl
none_leads modules (name ∷ names) = none_leads modules names

pub nothing_leads : (compilation : Compilation) (names : List Name) → leads_from compilation Nothing names ≡ Nothing
nothing_leads compilation [] = refl
nothing_leads compilation (name ∷ names) = nothing_leads compilation names

-- where a name is that of no submodule, the names from there on lead nowhere
pub module_stops : (modules : List ModuleNode) (place : ℕ) (names : List Name) (i : ℕ) (name : Name) → i < length names → name ≡ get_or names i name → None ≡ submodule_in modules place (lexeme name.token)
    → module_from modules (Some place) (name_texts (drop i names)) ≡ None
module_stops modules place [] i name lt is none = absurd (omega (arith, lt))
module_stops modules place (n ∷ names) zero name lt is none = ap (λ o. module_from modules o (name_texts names)) (ap (λ n. submodule_in modules place (lexeme n.token)) (sym is) ∙ sym none) ∙ none_leads modules (name_texts names)
module_stops modules place (n ∷ names) (suc i) name lt is none = module_stops modules place names i name (omega (arith, lt)) is none

-- from a recipe further names lead nowhere
pub recipe_stops : (compilation : Compilation) (place : ℕ) (recipe : Place) (names : List Name) (i : ℕ) → i < length names → leads_from compilation (Recipe place recipe) (drop i names) ≡ Nothing
recipe_stops compilation place recipe [] i lt = absurd (omega (arith, lt))
recipe_stops compilation place recipe (n ∷ names) zero lt = nothing_leads compilation names
recipe_stops compilation place recipe (n ∷ names) (suc i) lt = recipe_stops compilation place recipe names i (omega (arith, lt))
