-- What stands at the places of lists that are borrowed.
use Rattle.std.proofs.Common.{◌≡◌, ℕ, ◌<◌, false, List, Option, Some, None, get_or, length, refl, sym, ap, ◌∙◌}
use Rattle.std.specs.List.{slice_get}
use Rattle.std.proofs.lemmas.Option.{none-some, same_Some, slice_get_read}
use Rattle.tree_items.specs.declared.ast.Item.{Item}
use Rattle.tree_items.specs.declared.ast.Item.TheVariants.{Alias, Assignment, Comment, Function, Import, Module, Newline, Recipe, Set as set_item, Unexport}
use Rattle.tree_items.specs.declared.set.Set.{Set}
use Rattle.modules_compilation.specs.Places.{is_set}
use Rattle.just_resolve.specs.Settling.{set_of}

-- the element of a list that is borrowed whole
pub there : {X : Type 0} (items lent : List X) (place : ℕ) (x : X) → lent ≡ items → place < length lent → x ≡ get_or lent place x → slice_get items place ≡ Some x
there items lent place x same lt is = ap (λ xs. slice_get xs place) (sym same) ∙ slice_get_read lent (length lent) place x refl lt is

-- what is no setting
pub not_set : (item : Option Item) → is_set item ≡ false → set_of item ≡ None
not_set None e = refl
not_set (Some (Alias x)) e = refl
not_set (Some (Assignment x)) e = refl
not_set (Some (Comment x)) e = refl
not_set (Some (Function x)) e = refl
not_set (Some (Import x)) e = refl
not_set (Some (Module x)) e = refl
not_set (Some Newline) e = refl
not_set (Some (Recipe x)) e = refl
not_set (Some (set_item x)) e = absurd (cc e)
not_set (Some (Unexport x)) e = refl

-- the item at a place is the setting there
pub set_there : (item : Option Item) (set : Set) → set_of item ≡ Some set → item ≡ Some (set_item set)
set_there None set e = absurd (none-some set e)
set_there (Some (Alias x)) set e = absurd (none-some set e)
set_there (Some (Assignment x)) set e = absurd (none-some set e)
set_there (Some (Comment x)) set e = absurd (none-some set e)
set_there (Some (Function x)) set e = absurd (none-some set e)
set_there (Some (Import x)) set e = absurd (none-some set e)
set_there (Some (Module x)) set e = absurd (none-some set e)
set_there (Some Newline) set e = absurd (none-some set e)
set_there (Some (Recipe x)) set e = absurd (none-some set e)
set_there (Some (set_item x)) set e = ap (λ s. Some (set_item s)) (same_Some x set e)
set_there (Some (Unexport x)) set e = absurd (none-some set e)
