-- The order of expressions, by all that they hold: their forms, what they hold beside expressions, then the expressions inside.
use Rattle.std.specs.Prelude.{◌≡◌, ◌≢◌, ℕ, Bool, if◌then◌else◌, List, [], ◌∷◌, Option, Some, None, map}
use Rattle.std.specs.Option.{option_cmp}
use Rattle.std.specs.declared.cmp.Ordering.{Ordering}
use Rattle.std.specs.declared.cmp.Ordering.TheVariants.{Less, Equal, Greater}
use Rattle.std.specs.Ordering.{nat_cmp, on, then_cmp, ordering_then, ordering_reverse, is_lt, is_gt}
use Rattle.std.specs.Cmp.{IsTotalOrder, on_total}
use Rattle.std.specs.Cmp.Rules.{comparing}
use Rattle.std.proofs.Common.{rules, refl, sym, ap, ◌∙◌, true≢false}
use Rattle.just_text.specs.Order.{numbers_cmp, token_cmp}
use Rattle.just_text.specs.declared.token.Token.{Token}
use Rattle.tree_expressions.specs.contracts.operator.ConditionalOperator.{the_type as operator_type}
use Rattle.tree_expressions.specs.contracts.string_kind.StringDelimiter.{the_type as delimiter_type}
use Rattle.tree_expressions.specs.contracts.string_kind.StringPrefix.{the_type as prefix_type}
use Rattle.tree_expressions.specs.declared.expression.Expression.{Expression, fold-Expression}
use Rattle.tree_expressions.specs.declared.expression.Expression.TheOpen.{Expression-F}
use Rattle.tree_expressions.specs.declared.string_kind.StringKind.{StringKind}
use Rattle.tree_expressions.specs.declared.string_literal.StringLiteral.{StringLiteral}
use denote.Enum.Declared.{tag_of}

-- what an expression holds beside other expressions: the place of its form among all, which operator or quotes it has, the
-- number of a variable, a token and a text
pub record Own : Type 0 where
  pub rank : ℕ
  pub marks : List ℕ
  pub number : Option ℕ
  pub token : Option Token
  pub text : List ℕ

abbrev pub own_cmp : Own → Own → Ordering
own_cmp = then_cmp (then_cmp (then_cmp (then_cmp (on (λ o. o.rank) nat_cmp) (on (λ o. o.marks) numbers_cmp)) (on (λ o. o.number) (option_cmp nat_cmp))) (on (λ o. o.token) (option_cmp token_cmp))) (on (λ o. o.text) numbers_cmp)

pub own_total : IsTotalOrder own_cmp
own_total = search (comparing, rules) depth 12

-- all that an expression holds
pub data Key : Type 0 where
  leaf : Own → Key
  pair : Key → Key → Key

unfoldable pub key_cmp : Key → Key → Ordering
key_cmp (leaf a) (leaf b) = own_cmp a b
key_cmp (leaf a) (pair c d) = Less
key_cmp (pair a b) (leaf c) = Greater
key_cmp (pair a b) (pair c d) = ordering_then (key_cmp a c) (key_cmp b d)

abbrev pub bare : ℕ → Own
bare rank = record { rank = rank; marks = 0 ∷ 0 ∷ 0 ∷ []; number = None; token = None; text = [] }

abbrev pub at_token : ℕ → Token → Own
at_token rank token = record { rank = rank; marks = 0 ∷ 0 ∷ 0 ∷ []; number = None; token = Some token; text = [] }

abbrev pub flag : Bool → ℕ
flag b = if b then 1 else 0

abbrev pub kind_marks : StringKind → List ℕ
kind_marks kind = tag_of delimiter_type kind.delimiter ∷ tag_of prefix_type kind.prefix ∷ flag kind.tripled ∷ []

abbrev pub at_literal : ℕ → StringLiteral → Own
at_literal rank s = record { rank = rank; marks = kind_marks s.kind; number = None; token = Some s.token; text = s.cooked }

abbrev pub none : Key
none = leaf (bare 0)

abbrev pub held_key : Option Key → Key
held_key None = none
held_key (Some k) = pair none k

abbrev pub row_key : List Key → Key
row_key [] = none
row_key (k ∷ ks) = pair k (row_key ks)

-- an interpolation, and then the part after it
abbrev pub part_key : Key × StringLiteral → Key
part_key k = pair k.0 (leaf (at_literal 0 k.1))

abbrev pub parts_key : List (Key × StringLiteral) → Key
parts_key ks = row_key (map part_key ks)

abbrev pub node : Own → Key → Key → Key → Key → Key → Key
node own first second third row parts = pair (leaf own) (pair first (pair second (pair third (pair row parts))))

abbrev pub alone : Own → Key
alone own = node own none none none none none

abbrev pub one : Own → Key → Key
one own k = node own (pair none k) none none none none

abbrev pub two : Own → Key → Key → Key
two own k l = node own (pair none k) (pair none l) none none none

-- one level, with the key of each expression inside
abbrev pub key_step : Expression-F Key → Key
key_step (Expression-F.And l r) = two (bare 0) l.value r.value
key_step (Expression-F.Assert c None name) = one (at_token 1 name.token) c.value
key_step (Expression-F.Assert c (Some m) name) = two (at_token 1 name.token) c.value m.value
key_step (Expression-F.Backtick contents token) = alone (record { rank = 2; marks = 0 ∷ 0 ∷ 0 ∷ []; number = None; token = Some token; text = contents })
key_step (Expression-F.Call name es) = node (at_token 3 name.token) none none none (row_key es.items) none
key_step (Expression-F.Comparison l operator r token) = two (record { rank = 4; marks = tag_of operator_type operator ∷ 0 ∷ 0 ∷ []; number = None; token = Some token; text = [] }) l.value r.value
key_step (Expression-F.Concatenation l token r) = two (at_token 5 token) l.value r.value
key_step (Expression-F.Conditional c t None) = two (bare 6) c.value t.value
key_step (Expression-F.Conditional c t (Some o)) = node (bare 6) (pair none c.value) (pair none t.value) (pair none o.value) none none
key_step (Expression-F.FormatString start es) = node (at_literal 7 start) none none none none (parts_key es.items)
key_step (Expression-F.Group e) = one (bare 8) e.value
key_step (Expression-F.Join None token r) = node (at_token 9 token) none (pair none r.value) none none none
key_step (Expression-F.Join (Some l) token r) = two (at_token 9 token) l.value r.value
key_step (Expression-F.List es token) = node (at_token 10 token) none none none (row_key es.items) none
key_step (Expression-F.ListConcatenation l token r) = two (at_token 11 token) l.value r.value
key_step (Expression-F.Not e) = one (bare 12) e.value
key_step (Expression-F.Or l r) = two (bare 13) l.value r.value
key_step (Expression-F.StringLiteral s) = alone (at_literal 14 s)
key_step (Expression-F.Variable name number) = alone (record { rank = 15; marks = 0 ∷ 0 ∷ 0 ∷ []; number = number; token = Some name.token; text = [] })

abbrev pub key_of : Expression → Key
key_of = fold-Expression Key key_step

abbrev pub expression_cmp : Expression → Expression → Ordering
expression_cmp = on key_of key_cmp

-- the parts of a key
abbrev pub front : Key → Key
front (leaf own) = leaf own
front (pair k l) = k

abbrev pub rest : Key → Key
rest (leaf own) = leaf own
rest (pair k l) = l

abbrev pub leaf_own : Key → Own
leaf_own (leaf own) = own
leaf_own (pair k l) = bare 0

abbrev pub own_in : Key → Own
own_in k = leaf_own (front k)

abbrev pub first_in : Key → Key
first_in k = front (rest k)

abbrev pub second_in : Key → Key
second_in k = front (rest (rest k))

abbrev pub third_in : Key → Key
third_in k = front (rest (rest (rest k)))

abbrev pub row_in : Key → Key
row_in k = front (rest (rest (rest (rest k))))

abbrev pub parts_in : Key → Key
parts_in k = rest (rest (rest (rest (rest k))))

-- the keys of what stands inside are compared one after the other
abbrev pub inside_cmp : Key → Key → Ordering
inside_cmp k l = ordering_then (key_cmp (first_in k) (first_in l)) (ordering_then (key_cmp (second_in k) (second_in l)) (ordering_then (key_cmp (third_in k) (third_in l)) (ordering_then (key_cmp (row_in k) (row_in l)) (key_cmp (parts_in k) (parts_in l)))))

-- the size of the expression that is there
abbrev pub held_size : Option ℕ → ℕ
held_size None = 0
held_size (Some n) = n

-- ---- the order is total

turned : (p q p' q' : Ordering) → p ≡ ordering_reverse p' → q ≡ ordering_reverse q' → ordering_then p q ≡ ordering_reverse (ordering_then p' q')
turned p q Less q' e f = ap (λ o. ordering_then o q) e
turned p q Equal q' e f = ap (λ o. ordering_then o q) e ∙ f
turned p q Greater q' e f = ap (λ o. ordering_then o q) e

antisymm : (x y : Key) → key_cmp x y ≡ ordering_reverse (key_cmp y x)
unfolding key_cmp
antisymm (leaf a) (leaf b) = own_total.antisymm a b
antisymm (leaf a) (pair c d) = refl
antisymm (pair a b) (leaf c) = refl
antisymm (pair a b) (pair c d) = turned _ _ (key_cmp c a) (key_cmp d b) (antisymm a c) (antisymm b d)

Less≢Equal : Less ≢ Equal
Less≢Equal e = true≢false (ap is_lt e)

Greater≢Equal : Greater ≢ Equal
Greater≢Equal e = true≢false (ap is_gt e)

Greater≢Less : Greater ≢ Less
Greater≢Less e = true≢false (ap is_gt e)

first_equal : (p q : Ordering) → ordering_then p q ≡ Equal → p ≡ Equal
first_equal Less q e = e
first_equal Equal q e = refl
first_equal Greater q e = e

second_equal : (p q : Ordering) → ordering_then p q ≡ Equal → q ≡ Equal
second_equal Less q e = absurd (Less≢Equal e)
second_equal Equal q e = e
second_equal Greater q e = absurd (Greater≢Equal e)

alike : (x y z : Key) → key_cmp x y ≡ Equal → key_cmp x z ≡ key_cmp y z
unfolding key_cmp
alike (leaf a) (leaf b) (leaf c) h = own_total.congr a b c h
alike (leaf a) (leaf b) (pair c d) h = refl
alike (leaf a) (pair b c) z h = absurd (Less≢Equal h)
alike (pair a b) (leaf c) z h = absurd (Greater≢Equal h)
alike (pair a b) (pair c d) (leaf e) h = refl
alike (pair a b) (pair c d) (pair e f) h =
    let front : key_cmp a e ≡ key_cmp c e = alike a c e (first_equal (key_cmp a c) (key_cmp b d) h) in
    let rest : key_cmp b f ≡ key_cmp d f = alike b d f (second_equal (key_cmp a c) (key_cmp b d) h) in
    λ i. ordering_then (front i) (rest i)

alike_right : (x y z : Key) → key_cmp y z ≡ Equal → key_cmp x z ≡ key_cmp x y
alike_right x y z h = antisymm x z ∙ ap ordering_reverse (sym (alike y z x h)) ∙ sym (antisymm x y)

-- the first of three in a row is less than the last
less_chain : (p q r p' q' r' : Ordering) → (p ≡ Less → q ≡ Less → r ≡ Less) → (p ≡ Equal → r ≡ q) → (q ≡ Equal → r ≡ p) → (p' ≡ Less → q' ≡ Less → r' ≡ Less)
    → ordering_then p p' ≡ Less → ordering_then q q' ≡ Less → ordering_then r r' ≡ Less
less_chain Less Less r p' q' r' both first second later h k = ap (λ o. ordering_then o r') (both refl refl)
less_chain Less Equal r p' q' r' both first second later h k = ap (λ o. ordering_then o r') (second refl)
less_chain Less Greater r p' q' r' both first second later h k = absurd (Greater≢Less k)
less_chain Equal Less r p' q' r' both first second later h k = ap (λ o. ordering_then o r') (first refl)
less_chain Equal Equal r p' q' r' both first second later h k = ap (λ o. ordering_then o r') (first refl) ∙ later h k
less_chain Equal Greater r p' q' r' both first second later h k = absurd (Greater≢Less k)
less_chain Greater q r p' q' r' both first second later h k = absurd (Greater≢Less h)

chained : (x y z : Key) → key_cmp x y ≡ Less → key_cmp y z ≡ Less → key_cmp x z ≡ Less
unfolding key_cmp
chained (leaf a) (leaf b) (leaf c) h k = own_total.trans a b c h k
chained (leaf a) (leaf b) (pair c d) h k = refl
chained (leaf a) (pair b c) (leaf d) h k = absurd (Greater≢Less k)
chained (leaf a) (pair b c) (pair d e) h k = refl
chained (pair a b) (leaf c) z h k = absurd (Greater≢Less h)
chained (pair a b) (pair c d) (leaf e) h k = absurd (Greater≢Less k)
chained (pair a b) (pair c d) (pair e f) h k =
    less_chain (key_cmp a c) (key_cmp c e) (key_cmp a e) (key_cmp b d) (key_cmp d f) (key_cmp b f)
    (chained a c e) (alike a c e) (alike_right a c e) (chained b d f) h k

pub key_total : IsTotalOrder key_cmp
key_total = record { antisymm = antisymm; trans = chained; congr = alike }

pub expression_total : IsTotalOrder expression_cmp
expression_total = on_total key_of key_total
