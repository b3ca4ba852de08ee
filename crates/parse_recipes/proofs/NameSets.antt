-- The set of the names that were read.
use Rattle.std.proofs.Common.{◌≡◌, ℕ, Bool, true, false, Option, Some, None, List, [], ◌∷◌, refl, sym, ap, ◌∙◌}
use Rattle.std.specs.Prelude.{◌||◌}
use Rattle.std.specs.List.{list_any}
use Rattle.std.specs.Option.{is_some}
use Rattle.std.specs.Borrow.{Bor}
use Rattle.std.specs.BTreeSet.{BTreeSet, insert_key}
use Rattle.std.specs.BTreeMap.{is_at}
use Rattle.std.specs.Cmp.Lexicographic.{slice_cmp}
use Rattle.std.specs.Ordering.{nat_cmp, is_eq, match_ordering}
use Rattle.std.specs.declared.cmp.Ordering.{Ordering}
use Rattle.std.specs.declared.cmp.Ordering.TheVariants.{Equal, Greater, Less}
use Rattle.std.specs.Str.{bytes_eq}
use Rattle.std.proofs.lemmas.Map.Text.{is_eq-slice_cmp}
use Rattle.std.proofs.lemmas.Slice.Eq.{bytes_eq-Decides}
use Rattle.parse_recipes.specs.Seen.{HasNames, has_name, is_first}

-- how two names stand to each other
abbrev pub name_cmp : Bor (List ℕ) → Bor (List ℕ) → Ordering
name_cmp x y = slice_cmp nat_cmp x.now y.now

-- a name among others
abbrev among : List (Bor (List ℕ)) → List ℕ → Bool
among keys name = list_any (is_at (λ k. slice_cmp nat_cmp name k.now)) keys

or_swap : (a b c : Bool) → (a || (b || c)) ≡ (b || (a || c))
or_swap true true c = refl
or_swap true false c = refl
or_swap false b c = refl

or_again : (a b : Bool) → (a || b) ≡ (a || (a || b))
or_again true b = refl
or_again false b = refl

behind : (r : Ordering) (key x : Bor (List ℕ)) (xs rest : List (Bor (List ℕ))) (name : List ℕ) → is_eq r ≡ bytes_eq key.now x.now → among rest name ≡ (bytes_eq name key.now || among xs name)
    → among (match_ordering r (key ∷ x ∷ xs) (x ∷ xs) (x ∷ rest)) name ≡ (bytes_eq name key.now || among (x ∷ xs) name)
behind Less key x xs rest name same others = rw (is_eq-slice_cmp name key.now) refl
behind Equal key x xs rest name same others =
    let e : key.now ≡ x.now = (bytes_eq-Decides key.now x.now).0 (sym same) in
    rw (is_eq-slice_cmp name x.now, e) (or_again (bytes_eq name x.now) (among xs name))
behind Greater key x xs rest name same others = rw (others, is_eq-slice_cmp name x.now) (or_swap (bytes_eq name x.now) (bytes_eq name key.now) (among xs name))

among_insert : (keys : List (Bor (List ℕ))) (key : Bor (List ℕ)) (name : List ℕ) → among (insert_key name_cmp keys key) name ≡ (bytes_eq name key.now || among keys name)
among_insert [] key name = rw (is_eq-slice_cmp name key.now) refl
among_insert (x ∷ xs) key name = behind (name_cmp key x) key x xs (insert_key name_cmp xs key) name (is_eq-slice_cmp key.now x.now) (among_insert xs key name)

-- a name was added
pub name_added : (old new : BTreeSet (Bor (List ℕ))) (key : Bor (List ℕ)) (before : List (List ℕ)) → new.keys ≡ insert_key name_cmp old.keys key → HasNames old before → HasNames new (key.now ∷ before)
name_added old new key before added has name = rw added (among_insert old.keys key name ∙ ap (λ b. bytes_eq name key.now || b) (has name))

-- the name of the first parameter was read
pub first_read : (first : Option (Bor (List ℕ))) (name : Bor (List ℕ)) (others : BTreeSet (Bor (List ℕ))) → is_some first ≡ false → (other : List ℕ)
    → (is_first (Some name) other || has_name others other) ≡ (bytes_eq other name.now || (is_first first other || has_name others other))
first_read None name others none other = refl
first_read (Some first) name others none other = absurd cc

-- the name of another one was read
pub another_read : (first : Option (Bor (List ℕ))) (name : Bor (List ℕ)) (old new : BTreeSet (Bor (List ℕ))) → new.keys ≡ insert_key name_cmp old.keys name → (other : List ℕ)
    → (is_first first other || has_name new other) ≡ (bytes_eq other name.now || (is_first first other || has_name old other))
another_read first name old new added other =
    let one : has_name new other ≡ (bytes_eq other name.now || has_name old other) = rw added (among_insert old.keys name other) in
    ap (λ b. is_first first other || b) one ∙ or_swap (is_first first other) (bytes_eq other name.now) (has_name old other)
