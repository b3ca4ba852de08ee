-- A cycle in a file that nobody reaches.
use Rattle.std.proofs.Common.{◌≡◌, sym, ◌∙◌, ap, subst, true, false, Some, List, ◌∷◌, ℕ, zero, suc, refl, map, codes, []}
use Rattle.std.specs.Prelude.{slice_get}
use Rattle.std.proofs.lemmas.Slice.Eq.{bytes_eq-Decides}
use Rattle.std.proofs.lemmas.Option.{none-some, same_Some}
use Rattle.tree_items.specs.Files.{ItemShape, import_item, module_item, recipe_item}
use Rattle.meaning_rules.specs.Worlds.Given.{Text}
use Rattle.meaning_rules.specs.Worlds.Sources.{Has, Imports, IsSubmodule, Leads, itself, further}
use Rattle.meaning_rules.specs.Worlds.Modules.{IsModule}
use Rattle.meaning_rules.specs.Worlds.Modules as modules
use Rattle.meaning_rules.specs.Worlds.Keeping.{a_recipe, defined_by, Keeps}
use Rattle.meaning_rules.specs.Depending.{RecipeWalk}
use Rattle.meaning_rules.specs.Examples.{recipe_of, root_items, root_key, unreached, UnreachedIsUnbroken}

abbrev only : ItemShape
only = recipe_of (codes "a") []

one_item : (items : List ItemShape) → Some root_items ≡ Some items → (place : ℕ) (item : ItemShape) → slice_get items place ≡ Some item → only ≡ item
one_item items says zero item e = same_Some only item (ap (λ xs. slice_get xs 0) (same_Some root_items items says) ∙ e)
one_item items says (suc place) item e = absurd (none-some item (ap (λ xs. slice_get xs (suc place)) (same_Some root_items items says) ∙ e))

root_has : (place : ℕ) (item : ItemShape) → Has unreached root_key place item → only ≡ item
root_has place item h = one_item h.items h.says place item h.at

no_imports : (file other : Text) → root_key ≡ file → Imports unreached file other → ⊥
no_imports file other same i =
    let e : only ≡ import_item i.line.line = root_has i.place (import_item i.line.line) (subst (λ f. Has unreached f i.place (import_item i.line.line)) (sym same) i.line.has) in
    cc

no_submodules : (file name other : Text) → root_key ≡ file → IsSubmodule unreached file name other → ⊥
no_submodules file name other same s =
    let e : only ≡ module_item s.has.attributes s.line = root_has s.place (module_item s.has.attributes s.line) (subst (λ f. Has unreached f s.place (module_item s.has.attributes s.line)) (sym same) s.has.has) in
    cc

leads_home : (own : Text) (count : ℕ) (file : Text) → root_key ≡ own → Leads unreached own count file → root_key ≡ file
leads_home own count file same itself = same
leads_home own (suc count) file same (further {between = between} l i) = absurd (no_imports between file (leads_home own count between same l) i)

module_home : (path : List Text) (own : Text) → IsModule unreached path own → root_key ≡ own
module_home path own modules.root = refl
module_home path own (modules.inside {path = outer} {own = above} {file = file} {name = name} m f s) = absurd (no_submodules file name own (leads_home above f.count file (module_home outer above m) f.leads) s)

-- what is kept there is `a`
kept_name : (own name : Text) (item : ItemShape) → root_key ≡ own → Keeps unreached own a_recipe name item → codes "a" ≡ name
kept_name own name item same k =
    let d = k.kept.defines in
    let home : root_key ≡ k.key = leads_home own d.of.count k.key same d.of.leads in
    let is : only ≡ item = root_has k.place item (subst (λ f. Has unreached f k.place item) (sym home) d.has) in
    let e : Some (a_recipe, codes "a") ≡ Some (a_recipe, name) = ap (defined_by unreached.os) is ∙ d.is in
    ap (λ p. p.1) (same_Some (a_recipe, codes "a") (a_recipe, name) e)

not_b : codes "a" ≡ codes "b" → ⊥
not_b e = let t : false ≡ true = (bytes_eq-Decides (codes "a") (codes "b")).1 e in cc

no_walk : (recipes : List (List Text × Text)) → codes "b" ∷ codes "b" ∷ [] ≡ map (λ r. r.1) recipes → RecipeWalk unreached recipes → ⊥
no_walk [] names walk = none-some (codes "b") (sym (ap (λ xs. slice_get xs 0) names))
no_walk (a ∷ []) names walk = none-some (codes "b") (sym (ap (λ xs. slice_get xs 1) names))
no_walk (a ∷ b ∷ more) names walk =
    let d = walk.0 in
    let is : codes "b" ≡ a.1 = same_Some (codes "b") a.1 (ap (λ xs. slice_get xs 0) names) in
    not_b (kept_name d.own a.1 (recipe_item d.attributes d.recipe) (module_home a.0 d.own d.is) d.kept ∙ sym is)

pub unreached_is_unbroken : UnreachedIsUnbroken
unreached_is_unbroken o b = let c = b.breaks in no_walk c.0 c.2 c.1.walk
