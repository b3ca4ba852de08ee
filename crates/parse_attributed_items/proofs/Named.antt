-- Attributes that are found among those that were read.
use Rattle.std.proofs.Common.{◌≡◌, ℕ, Bool, true, false, List, [], ◌∷◌, map, Option, Some, None, refl, sym, ap, ◌∙◌}
use Rattle.std.specs.Prelude.{cond, find, is_some, not, IfSome, ◌&&◌, ◌||◌}
use Rattle.std.specs.Borrow.{Bor}
use Rattle.std.specs.List.{list_all, list_any}
use Rattle.std.specs.Option.{option_map}
use Rattle.std.proofs.lemmas.Slice.Eq.{bytes_eq-Decides}
use Rattle.just_text.specs.declared.compile_error.CompileErrorKind.TheVariants as kinds
use Rattle.tree_attributes.specs.declared.item_kind.ItemKind.{ItemKind}
use Rattle.parse_attributed_items.specs.Rules.{arg_keyword}
use Rattle.tree_attributes.specs.Attributes.{AttributeShape, kind_name, kind_of}
use Rattle.tree_attributes.specs.declared.attribute.AttributeKind.{AttributeKind}
use Rattle.tree_attributes.specs.contracts.attribute.AttributeKind.{the_type}
use Rattle.tree_attributes.proofs.Sets.SameKind.{same_names}
use denote.Enum.Bare.{sameb}
use Rattle.parse_attributes.specs.declared.attribute.AttributeRead.{AttributeRead}
use Rattle.parse_attributes.specs.Seen.{read_shape, read_shapes}
use Rattle.parse_attributed_items.specs.Fitting.{is_one, known}
use Rattle.parse_attributed_items.specs.Refusals.{head_fault, is_named, is_repeated, known_fault, may_repeat, name_in}

-- a kind is the attribute's where its name is
pub kind_named : (a : AttributeShape) (kind : AttributeKind) → is_named (kind_name kind) (Some a) ≡ sameb the_type (kind_of a) kind
kind_named a kind = same_names (kind_of a) kind

-- one is found where one passes the test
found_any : {A B : Type 0} (p : B → Bool) (f : A → B) (xs : List A) → is_some (find (λ x. p (f x)) xs) ≡ list_any p (map f xs)
found_any p f [] = refl
found_any p f (x ∷ xs) = elim (p (f x)) as (λ b. is_some (cond b (Some x) (find (λ y. p (f y)) xs)) ≡ (b || list_any p (map f xs))) [ true ↦ refl | false ↦ found_any p f xs ]

-- what is found passes the test
found_passes : {A : Type 0} (p : A → Bool) (xs : List A) (x : A) → find p xs ≡ Some x → p x ≡ true
found_passes p [] x h = absurd cc
found_passes p (y ∷ ys) x h =
    elim (p y) as (λ b. p y ≡ b → cond b (Some y) (find p ys) ≡ Some x → p x ≡ true) [
      | true ↦ λ same k. let e : y ≡ x = cc in rw (← e) same
      | false ↦ λ other k. found_passes p ys x k
    ] refl h

some_mapped : {A B : Type 0} (f : A → B) (o : Option A) → is_some (option_map f o) ≡ is_some o
some_mapped f None = refl
some_mapped f (Some x) = refl

-- an attribute whose kind has that name
named_so : (name : List ℕ) (a : Option AttributeShape) → is_named name a ≡ true → name_in a ≡ name
named_so name None h = absurd cc
named_so name (Some a) h = (bytes_eq-Decides (kind_name (kind_of a)) name).0 h

module _ (reads : List AttributeRead) (a : Option AttributeShape) (name : List ℕ) (o : Option (Bor AttributeRead)) (same : name ≡ name_in a)
    (found : option_map (λ r. r.now) o ≡ find (λ r. is_named name (read_shape r)) reads) where
  pub again_found : may_repeat a ≡ false → is_some o ≡ is_repeated (read_shapes reads) a
  again_found once = rw (once, ← same) (sym (some_mapped (λ (r : Bor AttributeRead). r.now) o) ∙ ap is_some found ∙ found_any (is_named name) read_shape reads)

  pub again_named : IfSome o (λ r. name_in (read_shape r.now) ≡ name_in a)
  again_named =
      elim o as (λ p. option_map (λ r. r.now) p ≡ find (λ r. is_named name (read_shape r)) reads → IfSome p (λ r. name_in (read_shape r.now) ≡ name_in a)) [
        | None ↦ λ h. tt
        | Some r ↦ λ h. named_so name (read_shape r.now) (found_passes (λ r. is_named name (read_shape r)) reads r.now (sym h)) ∙ same
      ] found

-- all are known where none is found that isn't
one_or_not : (r : AttributeRead) → is_one (read_shape r) ≡ is_some r.attribute
one_or_not r = some_mapped _ r.attribute

pub all_known : (reads : List AttributeRead) → list_all is_one (read_shapes reads) ≡ not (is_some (find (λ (r : AttributeRead). not (is_some r.attribute)) reads))
all_known [] = refl
all_known (r ∷ rs) =
    rw (one_or_not r) (
    elim (is_some r.attribute) as (λ b. (b && list_all is_one (read_shapes rs)) ≡ not (is_some (cond (not b) (Some r) (find (λ (r : AttributeRead). not (is_some r.attribute)) rs)))) [
      | true ↦ all_known rs
      | false ↦ refl
    ]
    )

none_there : {A : Type 0} (o : Option A) → ((x : A) → o ≡ Some x → ⊥) → not (is_some o) ≡ true
none_there None h = refl
none_there (Some x) h = absurd (h x refl)

module _ (kind : ItemKind) (name : List ℕ) (reads : List AttributeRead) (unknown : Option (Bor AttributeRead)) (found : option_map (λ r. r.now) unknown ≡ find (λ (r : AttributeRead). not (is_some r.attribute)) reads) where
  all_or_one : list_all is_one (read_shapes reads) ≡ not (is_some unknown)
  all_or_one = all_known reads ∙ ap (λ (o : Option AttributeRead). not (is_some o)) (sym found) ∙ ap not (some_mapped (λ (r : Bor AttributeRead). r.now) unknown)

  pub unknown_refused : (r : Bor AttributeRead) → unknown ≡ Some r → head_fault kind name (read_shapes reads) ≡ Some (kinds.InvalidAttribute arg_keyword name)
  unknown_refused r is = rw (all_or_one ∙ ap (λ (o : Option (Bor AttributeRead)). not (is_some o)) is) refl

  pub known_refused : ((r : Bor AttributeRead) → unknown ≡ Some r → ⊥) → head_fault kind name (read_shapes reads) ≡ known_fault kind name (known (read_shapes reads))
  known_refused none = rw (all_or_one ∙ none_there unknown none) refl
