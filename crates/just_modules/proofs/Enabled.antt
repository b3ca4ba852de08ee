-- Attributes as they are held, and as they are said.
use Rattle.std.proofs.Common.{◌≡◌, ◌∙◌, ◌<◌, ◌+◌, ℕ, suc, length, get_or, drop, drop-cons, add-one, ◌||◌, Bool, true, false, not, cond, List, [], ◌∷◌, map, Some, ap, sym, refl}
use Rattle.std.specs.Prelude.{is_some, find, option_map}
use Rattle.std.specs.List.{list_any}
use Rattle.just_text.specs.declared.os.Os.{Os}
use Rattle.tree_attributes.specs.declared.attribute.AttributeKind.{AttributeKind}
use Rattle.tree_attributes.specs.declared.attribute.AttributeKind.TheVariants.{Unix}
use Rattle.tree_attributes.specs.declared.attribute_item.AttributeItem.{AttributeItem}
use Rattle.tree_attributes.specs.declared.attribute_set.AttributeSet.{AttributeSet}
use Rattle.tree_attributes.specs.Sets.Order.{item_shape as attribute_shape}
use Rattle.tree_attributes.specs.Sets.Sets.{has_kind, is_of, is_enabled as held_enabled, items_of, kind_for, names_system, shapes_in}
use Rattle.meaning_rules.specs.Worlds.Sources.{enabled}
use Rattle.meaning_rules.specs.Rules.{has}

pub any_mapped : {A B : Type 0} (p : B → Bool) (f : A → B) (xs : List A) → list_any p (map f xs) ≡ list_any (λ x. p (f x)) xs
any_mapped p f [] = refl
any_mapped p f (x ∷ xs) = ap (λ b. p (f x) || b) (any_mapped p f xs)

pub same_has : (kind : AttributeKind) (set : AttributeSet) → list_any (is_of kind) (items_of set) ≡ has kind (shapes_in set)
same_has kind set = sym (any_mapped (has_kind kind) attribute_shape (items_of set))

pub same_enabled : (os : Os) (set : AttributeSet) → held_enabled os (items_of set) ≡ enabled os (shapes_in set)
same_enabled os set =
    ap (λ b. not b || list_any (is_of Unix) (items_of set) || list_any (is_of (kind_for os)) (items_of set)) (sym (any_mapped names_system attribute_shape (items_of set)))
    ∙ ap (λ b. not (list_any names_system (shapes_in set)) || b || list_any (is_of (kind_for os)) (items_of set)) (same_has Unix set)
    ∙ ap (λ b. not (list_any names_system (shapes_in set)) || has Unix (shapes_in set) || b) (same_has (kind_for os) set)

found_any : {A B : Type 0} (p : A → Bool) (f : A → B) (xs : List A) → is_some (option_map f (find p xs)) ≡ list_any p xs
found_any p f [] = refl
found_any p f (x ∷ xs) = elim (p x) as (λ b. is_some (option_map f (cond b (Some x) (find p xs))) ≡ (b || list_any p xs)) [ true ↦ refl | false ↦ found_any p f xs ]

-- a name is found where there is an attribute of the kind
pub same_name : {B : Type 0} (kind : AttributeKind) (f : AttributeItem → B) (set : AttributeSet) → is_some (option_map f (find (is_of kind) (items_of set))) ≡ has kind (shapes_in set)
same_name kind f set = found_any (is_of kind) f (items_of set) ∙ same_has kind set

-- ---- one of a row

cut_row : {A : Type 0} (p : A → Bool) (xs : List A) (i : ℕ) (x : A) → i < length xs → x ≡ get_or xs i x → list_any p (drop i xs) ≡ (p x || list_any p (drop (suc i) xs))
cut_row p xs i x lt is = ap (list_any p) (drop-cons xs i x lt) ∙ ap (λ y. p y || list_any p (drop (suc i) xs)) (sym is)

pub any_goes_on : {A : Type 0} (p : A → Bool) (xs : List A) (i : ℕ) (x : A) → list_any p xs ≡ list_any p (drop i xs) → i < length xs → x ≡ get_or xs i x → p x ≡ false → list_any p xs ≡ list_any p (drop (i + 1) xs)
any_goes_on p xs i x h lt is off = h ∙ cut_row p xs i x lt is ∙ ap (λ b. b || list_any p (drop (suc i) xs)) off ∙ ap (λ k. list_any p (drop k xs)) (sym (add-one i))

pub any_found : {A : Type 0} (p : A → Bool) (xs : List A) (i : ℕ) (x : A) → list_any p xs ≡ list_any p (drop i xs) → i < length xs → x ≡ get_or xs i x → p x ≡ true → true ≡ list_any p xs
any_found p xs i x h lt is on = sym (h ∙ cut_row p xs i x lt is ∙ ap (λ b. b || list_any p (drop (suc i) xs)) on)
