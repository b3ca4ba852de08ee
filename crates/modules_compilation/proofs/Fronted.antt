-- Of two texts with different fronts the one with the lesser front comes first in byte order.
use Rattle.std.proofs.Common.{◌≡◌, ℕ, zero, suc, ◌+◌, ◌*◌, ◌^◌, ◌<◌, ◌≤◌, inl, inr, List, [], ◌∷◌, length, get_or, take, take-suc, refl, sym, ap, subst, ◌∙◌, arith}
use Rattle.std.specs.Prelude.{fold}
use Rattle.std.specs.Cmp.Lexicographic.{slice_cmp}
use Rattle.std.specs.Ordering.{nat_cmp, ordering_then}
use Rattle.std.specs.declared.cmp.Ordering.TheVariants.{Less, Equal}
use Rattle.std.proofs.lemmas.Bool.{cases_lt, lt-ltb, le-ltb, eq-eqb}
use Rattle.std.proofs.lemmas.List.{take_all}
use Rattle.std.proofs.lemmas.List.Sums.{fold_push}
use Rattle.std.proofs.lemmas.Nat.{pow-add}
use Rattle.std.proofs.Math.Pow.{pow_mono}
use Rattle.modules_compilation.specs.Fronts.{AreBytes, bytes_of, front_of, with_byte}

-- the same of each place, also behind the end
abbrev AreSmall : List ℕ → Type 0
AreSmall text = (i : ℕ) → get_or text i 0 < 256

-- a greater number stays greater, whatever bytes follow
stays : (k : ℕ) (s t : List ℕ) (m n : ℕ) → AreSmall s → m < n → fold with_byte m (bytes_of k s) < fold with_byte n (bytes_of k t)
stays zero s t m n small lt = lt
stays (suc k) [] [] m n small lt = stays k [] [] (with_byte m 0) (with_byte n 0) small (omega (arith, lt))
stays (suc k) [] (y ∷ t) m n small lt = stays k [] t (with_byte m 0) (with_byte n y) small (omega (arith, lt))
stays (suc k) (x ∷ s) [] m n small lt = stays k s [] (with_byte m x) (with_byte n 0) (λ i. small (suc i)) (omega (arith, lt, small 0))
stays (suc k) (x ∷ s) (y ∷ t) m n small lt = stays k s t (with_byte m x) (with_byte n y) (λ i. small (suc i)) (omega (arith, lt, small 0))

no_bytes : (i : ℕ) → get_or {A = ℕ} [] i 0 < 256
no_bytes zero = omega arith
no_bytes (suc i) = omega arith

all_small : (text : List ℕ) → AreBytes text → AreSmall text
all_small [] small i = no_bytes i
all_small (b ∷ text) small zero = small 0 (omega arith)
all_small (b ∷ text) small (suc i) = all_small text (λ j lt. small (suc j) (omega (arith, lt))) i

-- nothing is less than the empty text
none_less : {G : Type 0} (s : List ℕ) → slice_cmp nat_cmp s [] ≡ Less → G
none_less [] e = absurd (cc e)
none_less (x ∷ s) e = absurd (cc e)

lesser : (k : ℕ) (s t : List ℕ) (n : ℕ) → AreSmall s → AreSmall t → fold with_byte n (bytes_of k s) < fold with_byte n (bytes_of k t) → slice_cmp nat_cmp s t ≡ Less
lesser zero s t n small small' lt = absurd (omega (arith, lt))
lesser (suc k) [] [] n small small' lt = absurd (omega (arith, lt))
lesser (suc k) [] (y ∷ t) n small small' lt = refl
lesser (suc k) (x ∷ s) [] n small small' lt = elim (cases_lt 0 x) [
  | inl some ↦ absurd (omega (arith, lt, stays k [] s (with_byte n 0) (with_byte n x) no_bytes (omega (arith, some))))
  | inr none ↦ let e : x ≡ 0 = omega (arith, none) in
      none_less s (lesser k s [] (with_byte n 0) (λ i. small (suc i)) no_bytes (subst (λ z. fold with_byte (with_byte n z) (bytes_of k s) < fold with_byte (with_byte n 0) (bytes_of k [])) e lt))
]
lesser (suc k) (x ∷ s) (y ∷ t) n small small' lt = elim (cases_lt x y) [
  | inl less ↦ ap (λ o. ordering_then o (slice_cmp nat_cmp s t)) (nat_less x y less)
  | inr ge ↦ elim (cases_lt y x) [
    | inl more ↦ absurd (omega (arith, lt, stays k t s (with_byte n y) (with_byte n x) (λ i. small' (suc i)) (omega (arith, more))))
    | inr le ↦ let e : x ≡ y = omega (arith, ge, le) in
        ap (λ o. ordering_then o (slice_cmp nat_cmp s t)) (nat_equal x y e) ∙ lesser k s t (with_byte n y) (λ i. small (suc i)) (λ i. small' (suc i)) (subst (λ z. fold with_byte (with_byte n z) (bytes_of k s) < fold with_byte (with_byte n y) (bytes_of k t)) e lt)
  ]
]
  where
    nat_less : (x y : ℕ) → x < y → nat_cmp x y ≡ Less
    nat_less x y lt = rw (lt-ltb x y lt) refl

    nat_equal : (x y : ℕ) → x ≡ y → nat_cmp x y ≡ Equal
    nat_equal x y e = rw (le-ltb x y (omega (arith, e)), eq-eqb x y e) refl

pub front_less : (s t : List ℕ) → AreBytes s → AreBytes t → front_of s < front_of t → slice_cmp nat_cmp s t ≡ Less
unfolding front_of
front_less s t small small' lt = lesser 8 s t 0 (all_small s small) (all_small t small') lt

-- ---- the number byte by byte

bytes_long : (k : ℕ) (t : List ℕ) → length (bytes_of k t) ≡ k
bytes_long zero t = refl
bytes_long (suc k) [] = ap suc (bytes_long k [])
bytes_long (suc k) (b ∷ t) = ap suc (bytes_long k t)

byte_read : (k : ℕ) (t : List ℕ) (i : ℕ) → i < k → get_or (bytes_of k t) i 0 ≡ get_or t i 0
byte_read zero t i lt = absurd (omega (arith, lt))
byte_read (suc k) [] zero lt = refl
byte_read (suc k) [] (suc i) lt = byte_read k [] i (omega (arith, lt)) ∙ none_there i
  where
    none_there : (i : ℕ) → get_or {A = ℕ} [] i 0 ≡ get_or {A = ℕ} [] (suc i) 0
    none_there zero = refl
    none_there (suc i) = refl
byte_read (suc k) (b ∷ t) zero lt = refl
byte_read (suc k) (b ∷ t) (suc i) lt = byte_read k t i (omega (arith, lt))

-- a byte more
pub front_grows : (t : List ℕ) (front place byte : ℕ) → place < 8 → byte ≡ get_or t place 0 → front ≡ fold with_byte 0 (take place (bytes_of 8 t)) → front * 256 + byte ≡ fold with_byte 0 (take (place + 1) (bytes_of 8 t))
front_grows t front place byte lt is so =
    let inside : place < length (bytes_of 8 t) = omega (arith, lt, bytes_long 8 t) in
    let next : place + 1 ≡ suc place = omega arith in
    sym (ap (λ n. fold with_byte 0 (take n (bytes_of 8 t))) next
    ∙ ap (fold with_byte 0) (take-suc (bytes_of 8 t) place 0 inside)
    ∙ fold_push with_byte 0 (take place (bytes_of 8 t)) (get_or (bytes_of 8 t) place 0)
    ∙ ap (with_byte (fold with_byte 0 (take place (bytes_of 8 t)))) (byte_read 8 t place lt ∙ sym is)
    ∙ ap (λ n. with_byte n byte) (sym so))

pub front_bounded : (front place byte : ℕ) → byte < 256 → front < 2 ^ (8 * place) → front * 256 + byte < 2 ^ (8 * (place + 1))
front_bounded front place byte small lt =
    let more : 2 ^ (8 * (place + 1)) ≡ 2 ^ (8 * place) * 2 ^ 8 = let e : 8 * (place + 1) ≡ 8 * place + 8 = omega arith in ap (λ n. 2 ^ n) e ∙ pow-add 2 (8 * place) 8 in
    scaled (2 ^ (8 * place)) (2 ^ (8 * (place + 1))) lt more
  where
    scaled : (m n : ℕ) → front < m → n ≡ m * 256 → front * 256 + byte < n
    scaled m n lt e = omega (arith, lt, e, small)

pub front_fits : (front place byte : ℕ) → place < 8 → byte < 256 → front < 2 ^ (8 * place) → front * 256 + byte < 2 ^ 64
front_fits front place byte lt small below =
    let top : 2 ^ (8 * (place + 1)) ≤ 2 ^ 64 = pow_mono {i = 8 * (place + 1)} {j = 64} (omega (arith, lt)) in
    between (2 ^ (8 * (place + 1))) (2 ^ 64) top (front_bounded front place byte small below)
  where
    between : (m n : ℕ) → m ≤ n → front * 256 + byte < m → front * 256 + byte < n
    between m n le lt = omega (arith, le, lt)

pub front_whole : (t : List ℕ) (front place : ℕ) → 8 ≤ place → front ≡ fold with_byte 0 (take place (bytes_of 8 t)) → front ≡ front_of t
unfolding front_of
front_whole t front place le so = so ∙ ap (fold with_byte 0) (take_all place (bytes_of 8 t) (omega (arith, le, bytes_long 8 t)))
