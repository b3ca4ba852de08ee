-- One more text goes with the one at its place.
use Rattle.std.proofs.Common.{◌≡◌, ◌<◌, ◌+◌, ◌++◌, ℕ, List, [], ◌∷◌, map, take, length, get_or, refl, arith}
use Rattle.std.proofs.lemmas.List.{take_more}
use Rattle.std.proofs.lemmas.Grind.{common_steps}
use Rattle.std.specs.Prelude.{String}
use Rattle.std.specs.String.{string_bytes}
use Rattle.std.specs.declared.alloc.Global.{Global}
use Rattle.just_value.specs.Values as spec
use Rattle.just_value.proofs.combine.pairwise.Goals as goal

paired_behind : (s : List ℕ) (xs ys : List (String Global)) (x y : String Global) → length xs ≡ length ys
    → spec.pairwise s (map string_bytes (xs ++ x ∷ [])) (map string_bytes (ys ++ y ∷ [])) ≡ spec.pairwise s (map string_bytes xs) (map string_bytes ys) ++ (string_bytes x ++ (s ++ string_bytes y)) ∷ []
paired_behind s [] [] x y e = refl
paired_behind s [] (b ∷ ys) x y e = absurd (omega (arith, e))
paired_behind s (a ∷ xs) [] x y e = absurd (omega (arith, e))
paired_behind s (a ∷ xs) (b ∷ ys) x y e = rw (paired_behind s xs ys x y (omega (arith, e))) refl

map_behind : (xs : List (String Global)) (x : String Global) → map string_bytes (xs ++ x ∷ []) ≡ map string_bytes xs ++ string_bytes x ∷ []
map_behind [] x = refl
map_behind (a ∷ xs) x = rw (map_behind xs x) refl

length_take : (xs : List (String Global)) (i : ℕ) → i < length xs → length (take i xs) ≡ i
length_take xs i lt = grind (arith, common_steps)

paired_more : (s : List ℕ) (left right texts : List (String Global)) (i : ℕ) (x y item : String Global) → i < length left → length left ≡ length right → x ≡ get_or left i x → y ≡ get_or right i y
    → string_bytes item ≡ string_bytes x ++ (s ++ string_bytes y) → map string_bytes texts ≡ spec.pairwise s (map string_bytes (take i left)) (map string_bytes (take i right))
    → map string_bytes (texts ++ item ∷ []) ≡ spec.pairwise s (map string_bytes (take (i + 1) left)) (map string_bytes (take (i + 1) right))
paired_more s left right texts i x y item lt same isx isy is so =
    let below : i < length right = omega arith in
    let el : take (i + 1) left ≡ take i left ++ x ∷ [] = rw (take_more left i x lt, ← isx) refl in
    let er : take (i + 1) right ≡ take i right ++ y ∷ [] = rw (take_more right i y below, ← isy) refl in
    let lengths : length (take i left) ≡ length (take i right) = rw (length_take left i lt, length_take right i below) refl in
    rw (el, er, paired_behind s (take i left) (take i right) x y lengths, map_behind texts item, so, is) refl

pub loop-place-preserved : goal.loop-place-preserved
loop-place-preserved c =
    rw c.in_ok-push.ensures.items
    (paired_more c.args.separator.now c.args.left.now c.args.right.now c.loop-place.texts.items c.loop-place.place c.index-left-place.result c.index-right-place.result c.in_ok-separated.field-0
    (omega arith) c.requires c.index-left-place.is c.index-right-place.is (rw (← c.as_str.ensures.value, ← c.as_str-in-loop-place.ensures.value) c.in_ok-separated.ensures) c.loop-place.invariant)
