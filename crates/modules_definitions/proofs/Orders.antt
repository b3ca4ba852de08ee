-- Definitions in order: what is known of any two.
use Rattle.std.proofs.Common.{◌≡◌, ◌∙◌, ◌<◌, ◌≤◌, ◌+◌, ℕ, zero, suc, Bool, true, false, List, [], ◌∷◌, Some, length, get_or, sym, ap, ap₂, subst, refl, arith, true≢false}
use Rattle.std.specs.Prelude.{◌≢◌, Contains, slice_get}
use Rattle.std.specs.List.Sorted.{IsSorted}
use Rattle.std.proofs.lemmas.List.{get_or_default}
use Rattle.modules_compilation.specs.Fronts.{AreBytes, front_of}
use Rattle.modules_definitions.proofs.Fronts.{fronts_agree}
use Rattle.std.specs.Cmp.{IsStrictWeakOrder, IsTotalOrder, tied_itself}
use Rattle.std.specs.Cmp.Lexicographic.{slice_cmp}
use Rattle.std.specs.Ordering.{is_lt, nat_cmp, ordering_then, ordering_reverse}
use Rattle.std.specs.declared.cmp.Ordering.{Ordering}
use Rattle.std.specs.declared.cmp.Ordering.TheVariants.{Less, Equal, Greater}
use Rattle.std.proofs.lemmas.Cmp.{nat_cmp_total, nat_list_cmp_total, on_total, then_total}
use Rattle.std.proofs.lemmas.List.MinMax.{ranks_by}
use Rattle.std.proofs.lemmas.List.Sorted.{sorted_far}
use Rattle.std.proofs.lemmas.Map.Keys.{ge_from_not_lt}
use Rattle.std.proofs.lemmas.Map.Lookups.{exact_bytes, exact_unsigned}
use Rattle.std.proofs.lemmas.Option.{slice_get_within, get_or_from_slice_get}
use Rattle.modules_definitions.specs.declared.definition.Definition.{Definition}
use Rattle.modules_compilation.specs.declared.place.Place.{Place}
use Rattle.modules_definitions.specs.declared.definition.Space.{Space}
use Rattle.modules_definitions.specs.declared.definition.Space.TheVariants.{Common, Disabled, Function, Set, Unexport, Variable}
use Rattle.modules_definitions.specs.Keeping.{AreInOrder, ShareName, definition_cmp, front_cmp, name_cmp, place_cmp, rank}
use Rattle.modules_definitions.proofs.Elements.{AnyTwo}

-- a definition's space and name as one list
abbrev pub name_key : Definition → List ℕ
name_key d = rank d.space ∷ d.text.now

definition_total : IsTotalOrder definition_cmp
definition_total = then_total (on_total name_key nat_list_cmp_total) (on_total (λ d. d.place) (then_total (on_total (λ p. p.file) nat_cmp_total) (on_total (λ p. p.item) nat_cmp_total)))

-- the second comes no earlier than the first
abbrev pub IsBehind : Definition → Definition → Type 0
IsBehind a b = is_lt (definition_cmp b a) ≡ false

-- nor does its name
abbrev pub IsNameBehind : Definition → Definition → Type 0
IsNameBehind a b = is_lt (name_cmp b a) ≡ false

pub any_behind : (ds : List Definition) → AreInOrder ds → AnyTwo IsBehind ds
any_behind ds sorted i j a b lt e f =
    let far = sorted_far (λ x y. is_lt (definition_cmp x y)) (ranks_by definition_total (λ d. d)) ds sorted i j a (omega arith) (slice_get_within ds j b f) in
    subst (λ x. is_lt (definition_cmp x a) ≡ false) (get_or_from_slice_get ds j b a f)
    (subst (λ x. is_lt (definition_cmp (get_or ds j a) x) ≡ false) (get_or_from_slice_get ds i a a e) far)

first_not_less : (o p : Ordering) → is_lt (ordering_then o p) ≡ false → is_lt o ≡ false
first_not_less Less p e = absurd (true≢false e)
first_not_less Equal p e = refl
first_not_less Greater p e = refl

second_not_less : (o p : Ordering) → is_lt (ordering_then o p) ≡ false → o ≡ Equal → is_lt p ≡ false
second_not_less o p e is = subst (λ o. is_lt (ordering_then o p) ≡ false) is e

pub names_behind : (a b : Definition) → IsBehind a b → IsNameBehind a b
names_behind a b e = first_not_less (name_cmp b a) (place_cmp b.place a.place) e

-- definitions of one name have one key
pub same_key : (a b : Definition) → ShareName a b → name_key b ≡ name_key a
same_key a b s = ap (λ t. rank b.space ∷ t) (sym s.text) ∙ ap (λ n. rank n ∷ a.text.now) (sym s.space)

key_equal : (a b : Definition) → name_key b ≡ name_key a → name_cmp b a ≡ Equal
key_equal a b e = ap (λ k. slice_cmp nat_cmp k (name_key a)) e ∙ tied_itself nat_list_cmp_total (name_key a)

nat_itself : (m n : ℕ) → m ≡ n → nat_cmp m n ≡ Equal
nat_itself m n e = ap (λ k. nat_cmp k n) e ∙ tied_itself nat_cmp_total n

pub later_file : (a b : Definition) → IsBehind a b → ShareName a b → a.place.file ≤ b.place.file
later_file a b e s =
    let p = second_not_less (name_cmp b a) (place_cmp b.place a.place) e (key_equal a b (same_key a b s)) in
    ge_from_not_lt b.place.file a.place.file (first_not_less (nat_cmp b.place.file a.place.file) (nat_cmp b.place.item a.place.item) p)

pub later_item : (a b : Definition) → IsBehind a b → ShareName a b → a.place.file ≡ b.place.file → a.place.item ≤ b.place.item
later_item a b e s same =
    let p = second_not_less (name_cmp b a) (place_cmp b.place a.place) e (key_equal a b (same_key a b s)) in
    ge_from_not_lt b.place.item a.place.item (second_not_less (nat_cmp b.place.file a.place.file) (nat_cmp b.place.item a.place.item) p (nat_itself b.place.file a.place.file (sym same)))

-- ---- between

space_of_rank : ℕ → Space
space_of_rank zero = Common
space_of_rank (suc zero) = Disabled
space_of_rank (suc (suc zero)) = Function
space_of_rank (suc (suc (suc zero))) = Set
space_of_rank (suc (suc (suc (suc zero)))) = Unexport
space_of_rank other = Variable

rank_back : (s : Space) → space_of_rank (rank s) ≡ s
unfolding space_of_rank
rank_back Common = refl
rank_back Disabled = refl
rank_back Function = refl
rank_back Set = refl
rank_back Unexport = refl
rank_back Variable = refl

one_rank : (s t : Space) → rank s ≡ rank t → s ≡ t
one_rank s t e = sym (rank_back s) ∙ ap space_of_rank e ∙ rank_back t

equal_between : (o p : Ordering) → o ≡ ordering_reverse p → is_lt o ≡ false → is_lt p ≡ false → o ≡ Equal
equal_between o Less e f g = absurd (true≢false g)
equal_between o Equal e f g = e
equal_between o Greater e f g = absurd (true≢false (sym (ap is_lt e) ∙ f))

abbrev head : List ℕ → ℕ
head [] = 0
head (n ∷ ns) = n

abbrev tail : List ℕ → List ℕ
tail [] = []
tail (n ∷ ns) = ns

pub keys_share : (a b : Definition) → name_key a ≡ name_key b → b.space ≢ Disabled → ShareName a b
keys_share a b e apart =
    let one = one_rank a.space b.space (ap head e) in
    record { space = one; text = ap tail e; told_apart = λ d. apart (sym one ∙ d) }

-- of three in order, where the outer two have one name, the middle one has it too
pub between : (a b c : Definition) → IsNameBehind a b → IsNameBehind b c → ShareName a c → ShareName b c
between a b c p q s =
    let key = same_key a c s in
    let r : is_lt (slice_cmp nat_cmp (name_key b) (name_key c)) ≡ false = subst (λ k. is_lt (slice_cmp nat_cmp (name_key b) k) ≡ false) (sym key) p in
    let t = equal_between (name_cmp b c) (name_cmp c b) (nat_list_cmp_total.antisymm (name_key b) (name_key c)) r q in
    keys_share b c (exact_bytes (name_key b) (name_key c) t) (λ d. s.told_apart (s.space ∙ d))

pub share_back : (a b : Definition) → ShareName a b → ShareName b a
share_back a b s = record { space = sym s.space; text = sym s.text; told_apart = λ d. s.told_apart (s.space ∙ d) }

pub share_on : (a b c : Definition) → ShareName a b → ShareName b c → ShareName a c
share_on a b c s t = record { space = s.space ∙ t.space; text = s.text ∙ t.text; told_apart = s.told_apart }

pub shared_behind : (a b : Definition) → ShareName a b → IsNameBehind b a
shared_behind a b s = ap is_lt (key_equal b a (sym (same_key a b s)))

pub names_itself : (a : Definition) → IsNameBehind a a
names_itself a = ap is_lt (tied_itself nat_list_cmp_total (name_key a))

-- ---- fronts first

pub front_total : IsTotalOrder front_cmp
front_total = then_total (on_total (λ d. rank d.space) nat_cmp_total) (then_total (on_total (λ d. d.front) nat_cmp_total) (then_total (on_total (λ d. d.text.now) nat_list_cmp_total) (on_total (λ d. d.place) (then_total (on_total (λ p. p.file) nat_cmp_total) (on_total (λ p. p.item) nat_cmp_total)))))

then_assoc : (o p q : Ordering) → ordering_then o (ordering_then p q) ≡ ordering_then (ordering_then o p) q
then_assoc Less p q = refl
then_assoc Equal p q = refl
then_assoc Greater p q = refl

-- definitions whose fronts are those of their texts
pub record IsFronted (d : Definition) : Type 0 where
  pub front : d.front ≡ front_of d.text.now
  pub bytes : AreBytes d.text.now

pub one_order : (a b : Definition) → IsFronted a → IsFronted b → front_cmp a b ≡ definition_cmp a b
one_order a b f g =
    let texts = slice_cmp nat_cmp a.text.now b.text.now in
    let places = place_cmp a.place b.place in
    let ranks = nat_cmp (rank a.space) (rank b.space) in
    ap (λ o. ordering_then ranks o) (then_assoc (nat_cmp a.front b.front) texts places ∙ ap (λ o. ordering_then o places) (ap₂ (λ m n. ordering_then (nat_cmp m n) texts) f.front g.front ∙ fronts_agree a.text.now b.text.now f.bytes g.bytes))
    ∙ then_assoc ranks texts places

-- sorted by fronts first they are in order
pub in_order : (ds : List Definition) → ((d : Definition) → Contains ds d → IsFronted d) → IsSorted front_cmp ds → AreInOrder ds
in_order ds fronted sorted k d from lt =
    let at : Contains ds (get_or ds k d) = (k, omega arith, get_or_default ds k (get_or ds k d) d (omega arith)) in
    let next : Contains ds (get_or ds (k + 1) d) = (k + 1, lt, get_or_default ds (k + 1) (get_or ds (k + 1) d) d lt) in
    sym (ap is_lt (one_order (get_or ds (k + 1) d) (get_or ds k d) (fronted (get_or ds (k + 1) d) next) (fronted (get_or ds k d) at))) ∙ sorted k d from lt

pub ranked : IsStrictWeakOrder (λ x y. is_lt (front_cmp x y))
ranked = ranks_by front_total (λ d. d)
