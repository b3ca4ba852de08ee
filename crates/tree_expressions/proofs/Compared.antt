-- Keys are compared part by part, and rows element by element.
use Rattle.std.proofs.Common.{◌≡◌, ◌≢◌, ℕ, zero, suc, ◌+◌, ◌<◌, ◌≤◌, List, [], ◌∷◌, length, drop, map, Some, None, refl, sym, ap, ◌∙◌, arith, unwrap_or}
use Rattle.std.specs.List.{slice_get}
use Rattle.std.specs.Option.{option_map}
use Rattle.std.specs.declared.cmp.Ordering.{Ordering}
use Rattle.std.specs.declared.cmp.Ordering.TheVariants.{Less, Equal, Greater}
use Rattle.std.specs.Ordering.{ordering_then}
use Rattle.std.proofs.lemmas.Option.{slice_get-map}
use Rattle.std.proofs.Math.ListN.{drop_of_length-le}
use native.Mathlib.Numerals.{unary_clauses}
use Rattle.tree_expressions.specs.Order.{Key, pair, key_cmp, key_of, key_step, own_cmp, own_in, first_in, second_in, third_in, row_in, parts_in, inside_cmp, node, none, row_key, part_key, at_literal}
use Rattle.tree_expressions.specs.declared.expression.Expression.{Expression, fold_out-Expression}
use Rattle.tree_expressions.specs.declared.expression.Expression.TheOpen.{Expression-F}
use Rattle.tree_expressions.specs.declared.string_literal.StringLiteral.{StringLiteral}

-- an interpolation with its expression's key
abbrev pub keyed : Expression × StringLiteral → Key × StringLiteral
keyed e = (key_of e.0, e.1)

abbrev rebuilt : Key → Key
rebuilt k = node (own_in k) (first_in k) (second_in k) (third_in k) (row_in k) (parts_in k)

step_whole : (level : Expression-F Key) → key_step level ≡ rebuilt (key_step level)
step_whole (Expression-F.And l r) = refl
step_whole (Expression-F.Assert c None name) = refl
step_whole (Expression-F.Assert c (Some m) name) = refl
step_whole (Expression-F.Backtick contents token) = refl
step_whole (Expression-F.Call name es) = refl
step_whole (Expression-F.Comparison l operator r token) = refl
step_whole (Expression-F.Concatenation l token r) = refl
step_whole (Expression-F.Conditional c t None) = refl
step_whole (Expression-F.Conditional c t (Some o)) = refl
step_whole (Expression-F.FormatString start es) = refl
step_whole (Expression-F.Group e) = refl
step_whole (Expression-F.Join None token r) = refl
step_whole (Expression-F.Join (Some l) token r) = refl
step_whole (Expression-F.List es token) = refl
step_whole (Expression-F.ListConcatenation l token r) = refl
step_whole (Expression-F.Not e) = refl
step_whole (Expression-F.Or l r) = refl
step_whole (Expression-F.StringLiteral s) = refl
step_whole (Expression-F.Variable name number) = refl

is_whole : (e : Expression) → key_of e ≡ rebuilt (key_of e)
is_whole e = fold_out-Expression Key key_step e ∙ step_whole _ ∙ ap rebuilt (sym (fold_out-Expression Key key_step e))

-- expressions are compared by what they hold themselves, and then by those inside
apart : (e f : Expression) → key_cmp (key_of e) (key_of f) ≡ ordering_then (own_cmp (own_in (key_of e)) (own_in (key_of f))) (inside_cmp (key_of e) (key_of f))
unfolding key_cmp
apart e f = λ i. key_cmp (is_whole e i) (is_whole f i)

stays : (r o : Ordering) → r ≢ Equal → r ≡ ordering_then r o
stays Less o h = refl
stays Equal o h = absurd (h refl)
stays Greater o h = refl

pub apart_equal : (e f : Expression) → Equal ≡ own_cmp (own_in (key_of e)) (own_in (key_of f)) → inside_cmp (key_of e) (key_of f) ≡ key_cmp (key_of e) (key_of f)
apart_equal e f h = ap (λ o. ordering_then o (inside_cmp (key_of e) (key_of f))) h ∙ sym (apart e f)

pub apart_unequal : (e f : Expression) (r : Ordering) → r ≡ own_cmp (own_in (key_of e)) (own_in (key_of f)) → r ≢ Equal → r ≡ key_cmp (key_of e) (key_of f)
apart_unequal e f r h n = stays r (inside_cmp (key_of e) (key_of f)) n ∙ ap (λ o. ordering_then o (inside_cmp (key_of e) (key_of f))) h ∙ sym (apart e f)

pub none_none : Equal ≡ key_cmp none none
unfolding key_cmp
none_none = refl

pub none_pair : (k l : Key) → Less ≡ key_cmp none (pair k l)
unfolding key_cmp
none_pair k l = refl

pub pair_none : (k l : Key) → Greater ≡ key_cmp (pair k l) none
unfolding key_cmp
pair_none k l = refl

pub both_held : (k l : Key) → key_cmp k l ≡ key_cmp (pair none k) (pair none l)
unfolding key_cmp
both_held k l = refl

-- an interpolation, and then the part after it
part_apart : (k l : Key) (s t : StringLiteral) → key_cmp (part_key (k, s)) (part_key (l, t)) ≡ ordering_then (key_cmp k l) (own_cmp (at_literal 0 s) (at_literal 0 t))
unfolding key_cmp
part_apart k l s t = refl

pub part_equal : (k l : Key) (s t : StringLiteral) (r : Ordering) → r ≡ own_cmp (at_literal 0 s) (at_literal 0 t) → Equal ≡ key_cmp k l → r ≡ key_cmp (part_key (k, s)) (part_key (l, t))
part_equal k l s t r h e = h ∙ ap (λ o. ordering_then o (own_cmp (at_literal 0 s) (at_literal 0 t))) e ∙ sym (part_apart k l s t)

pub part_unequal : (k l : Key) (s t : StringLiteral) (r : Ordering) → r ≡ key_cmp k l → r ≢ Equal → r ≡ key_cmp (part_key (k, s)) (part_key (l, t))
part_unequal k l s t r h n = stays r (own_cmp (at_literal 0 s) (at_literal 0 t)) n ∙ ap (λ o. ordering_then o (own_cmp (at_literal 0 s) (at_literal 0 t))) h ∙ sym (part_apart k l s t)

pub at_map : {X Y : Type 0} (v : X → Y) (xs : List X) (i : ℕ) (x : X) → slice_get xs i ≡ Some x → slice_get (map v xs) i ≡ Some (v x)
at_map v xs i x h = slice_get-map v xs i ∙ ap (option_map v) h

-- the elements at a place, and then those behind
row_behind : (ks ls : List Key) (i : ℕ) (k l : Key) → slice_get ks i ≡ Some k → slice_get ls i ≡ Some l
    → key_cmp (row_key (drop i ks)) (row_key (drop i ls)) ≡ ordering_then (key_cmp k l) (key_cmp (row_key (drop (suc i) ks)) (row_key (drop (suc i) ls)))
unfolding key_cmp
row_behind [] ls i k l p q = cc
row_behind (a ∷ ks) [] i k l p q = cc
row_behind (a ∷ ks) (b ∷ ls) zero k l p q =
    let first : a ≡ k = ap (λ o. unwrap_or o a) p in
    let second : b ≡ l = ap (λ o. unwrap_or o b) q in
    λ i. ordering_then (key_cmp (first i) (second i)) (key_cmp (row_key ks) (row_key ls))
row_behind (a ∷ ks) (b ∷ ls) (suc i) k l p q = row_behind ks ls i k l p q

row_next : (ks ls : List Key) (i : ℕ) (k l : Key) → slice_get ks i ≡ Some k → slice_get ls i ≡ Some l
    → key_cmp (row_key (drop i ks)) (row_key (drop i ls)) ≡ ordering_then (key_cmp k l) (key_cmp (row_key (drop (i + 1) ks)) (row_key (drop (i + 1) ls)))
row_next ks ls i k l p q = simp unary_clauses (row_behind ks ls i k l p q)

pub row_equal : (ks ls : List Key) (i : ℕ) (k l : Key) → slice_get ks i ≡ Some k → slice_get ls i ≡ Some l → Equal ≡ key_cmp k l
    → key_cmp (row_key (drop (i + 1) ks)) (row_key (drop (i + 1) ls)) ≡ key_cmp (row_key (drop i ks)) (row_key (drop i ls))
row_equal ks ls i k l p q e = ap (λ o. ordering_then o (key_cmp (row_key (drop (i + 1) ks)) (row_key (drop (i + 1) ls)))) e ∙ sym (row_next ks ls i k l p q)

pub row_unequal : (ks ls : List Key) (i : ℕ) (k l : Key) → slice_get ks i ≡ Some k → slice_get ls i ≡ Some l → (r : Ordering) → r ≡ key_cmp k l → r ≢ Equal
    → r ≡ key_cmp (row_key (drop i ks)) (row_key (drop i ls))
row_unequal ks ls i k l p q r e n =
    stays r (key_cmp (row_key (drop (i + 1) ks)) (row_key (drop (i + 1) ls))) n
    ∙ ap (λ o. ordering_then o (key_cmp (row_key (drop (i + 1) ks)) (row_key (drop (i + 1) ls)))) e ∙ sym (row_next ks ls i k l p q)

more_behind : (ks : List Key) (i : ℕ) → i < length ks → Greater ≡ key_cmp (row_key (drop i ks)) none
unfolding key_cmp
more_behind [] i h = absurd (omega arith)
more_behind (k ∷ ks) zero h = refl
more_behind (k ∷ ks) (suc i) h = more_behind ks i (omega arith)

behind_more : (ks : List Key) (i : ℕ) → i < length ks → Less ≡ key_cmp none (row_key (drop i ks))
unfolding key_cmp
behind_more [] i h = absurd (omega arith)
behind_more (k ∷ ks) zero h = refl
behind_more (k ∷ ks) (suc i) h = behind_more ks i (omega arith)

pub row_greater : (ks ls : List Key) (i : ℕ) → length ls ≤ i → i < length ks → Greater ≡ key_cmp (row_key (drop i ks)) (row_key (drop i ls))
row_greater ks ls i h k = more_behind ks i k ∙ ap (λ rest. key_cmp (row_key (drop i ks)) (row_key rest)) (sym (drop_of_length-le ls h))

pub row_less : (ks ls : List Key) (i : ℕ) → length ks ≤ i → i < length ls → Less ≡ key_cmp (row_key (drop i ks)) (row_key (drop i ls))
row_less ks ls i h k = behind_more ls i k ∙ ap (λ rest. key_cmp (row_key rest) (row_key (drop i ls))) (sym (drop_of_length-le ks h))

pub row_end : (ks ls : List Key) (i : ℕ) → length ks ≤ i → length ls ≤ i → Equal ≡ key_cmp (row_key (drop i ks)) (row_key (drop i ls))
row_end ks ls i h k = none_none ∙ (λ j. key_cmp (row_key (sym (drop_of_length-le ks h) j)) (row_key (sym (drop_of_length-le ls k) j)))
