-- Pairs by name: two rows of pairs come to the same where each name has the same last value in both.
use Rattle.std.proofs.Common.{◌≡◌, ℕ, Bool, true, false, cond, ◌&&◌, List, [], ◌∷◌, ◌++◌, map, Option, Some, None, refl, sym, ap, ◌∙◌}
use Rattle.std.proofs.Math.Dec.{T}
use Rattle.std.specs.Cmp.{IsEquivalence}
use Rattle.std.specs.Cmp.Lexicographic.{slice_cmp}
use Rattle.std.specs.FinMap.{nat_cmp-IsAntisymmetric, slice_cmp-IsAntisymmetric}
use Rattle.std.specs.FinMap.Entries.{put, find, below_all, is_sorted, is_sorted-put, find-put, same_entries}
use Rattle.std.specs.Option.{option_or}
use Rattle.std.specs.Ordering.{eq_by_cmp, is_eq, is_lt, nat_cmp}
use Rattle.std.specs.declared.cmp.Ordering.TheVariants.{Less, Equal, Greater}
use Rattle.std.specs.declared.cmp.Ordering.{Ordering}
use Rattle.std.specs.Str.{bytes_eq}
use Rattle.std.proofs.lemmas.Cmp.{eq_by_cmp_equiv, nat_list_cmp_total}
use Rattle.std.proofs.lemmas.Map.Text.{is_eq-slice_cmp}
use Rattle.just_host.specs.declared.job.Pair.{Pair}
use Rattle.evaluate_context.specs.Environment.{last_of, pair_at}
use Rattle.evaluate_context.specs.Surroundings.{entries_by_name, by_name}

abbrev pub order : List ℕ → List ℕ → Ordering
order = slice_cmp nat_cmp

pub or_cond : (t : Bool) (v : List ℕ) (c : Option (List ℕ)) → option_or (cond t (Some v) None) c ≡ cond t (Some v) c
or_cond true v c = refl
or_cond false v c = refl

pub or_assoc : (a b c : Option (List ℕ)) → option_or (option_or a b) c ≡ option_or a (option_or b c)
or_assoc None b c = refl
or_assoc (Some x) b c = refl

pub or_none : (a : Option (List ℕ)) → option_or a None ≡ a
or_none None = refl
or_none (Some x) = refl

by_key : IsEquivalence (eq_by_cmp order)
by_key = eq_by_cmp_equiv nat_list_cmp_total

pub tests : (name key : List ℕ) → eq_by_cmp order name key ≡ bytes_eq key name
tests name key = sym (by_key.symm key name) ∙ is_eq-slice_cmp key name

-- what is found after further pairs
pub found_after : (name : List ℕ) (es : List (List ℕ × List ℕ)) (pairs : List Pair) → find order name (entries_by_name es pairs) ≡ option_or (last_of name pairs) (find order name es)
found_after name es [] = refl
found_after name es (p ∷ ps) =
    found_after name (put order p.name p.value es) ps
    ∙ (ap (option_or (last_of name ps)) (find-put order nat_list_cmp_total name p.name p.value es ∙ (ap (λ t. cond t (Some p.value) (find order name es)) (tests name p.name) ∙ sym (or_cond (bytes_eq p.name name) p.value (find order name es))))
    ∙ sym (or_assoc (last_of name ps) (cond (bytes_eq p.name name) (Some p.value) None) (find order name es)))

pub sorted_after : (es : List (List ℕ × List ℕ)) (pairs : List Pair) → T (is_sorted order es) → T (is_sorted order (entries_by_name es pairs))
sorted_after es [] h = h
sorted_after es (p ∷ ps) h = sorted_after (put order p.name p.value es) ps (is_sorted-put order nat_list_cmp_total p.name p.value es h)

-- so the value that is found by a name is its last one
pub found : (name : List ℕ) (pairs : List Pair) → find order name (entries_by_name [] pairs) ≡ last_of name pairs
found name pairs = found_after name [] pairs ∙ or_none (last_of name pairs)

-- the last value of each name counts
pub by_name_same : (ps qs : List Pair) → ((name : List ℕ) → last_of name ps ≡ last_of name qs) → by_name ps ≡ by_name qs
by_name_same ps qs same =
    ap (map pair_at) (same_entries order nat_list_cmp_total (λ x y e. slice_cmp-IsAntisymmetric nat_cmp-IsAntisymmetric x y e) (entries_by_name [] ps) (entries_by_name [] qs) (sorted_after [] ps tt) (sorted_after [] qs tt) (λ q. found q ps ∙ (same q ∙ sym (found q qs))))

-- a later pair counts
pub last_append : (name : List ℕ) (ps qs : List Pair) → last_of name (ps ++ qs) ≡ option_or (last_of name qs) (last_of name ps)
last_append name [] qs = sym (or_none (last_of name qs))
last_append name (p ∷ ps) qs = ap (λ o. option_or o (cond (bytes_eq p.name name) (Some p.value) None)) (last_append name ps qs) ∙ or_assoc (last_of name qs) (last_of name ps) (cond (bytes_eq p.name name) (Some p.value) None)

is_less : (o : Ordering) → T (is_lt o) → o ≡ Less
is_less Less h = refl
is_less Equal h = absurd h
is_less Greater h = absurd h

first : (a b : Bool) → T (a && b) → T a
first true b h = tt
first false b h = h

second : (a b : Bool) → T (a && b) → T b
second true b h = h
second false b h = absurd h

none_below : (q x : List ℕ) (es : List (List ℕ × List ℕ)) → order q x ≡ Equal → T (below_all order x es) → find order q es ≡ None
none_below q x [] e h = refl
none_below q x (f ∷ fs) e h =
    let s : order q f.0 ≡ Less = nat_list_cmp_total.congr q x f.0 e ∙ is_less (order x f.0) (first _ _ h) in
    ap (λ o. cond (is_eq o) (Some f.1) (find order q fs)) s ∙ none_below q x fs e (second _ _ h)

first_or_later : (t : Bool) (v : List ℕ) (later : Option (List ℕ)) → (t ≡ true → later ≡ None) → option_or later (cond t (Some v) None) ≡ cond t (Some v) later
first_or_later true v later only = rw (only refl) refl
first_or_later false v later only = or_none later

is_equal : (o : Ordering) → is_eq o ≡ true → o ≡ Equal
is_equal Less h = absurd (cc)
is_equal Equal h = refl
is_equal Greater h = absurd (cc)

-- of sorted names the last is the only one
pub last_sorted : (name : List ℕ) (es : List (List ℕ × List ℕ)) → T (is_sorted order es) → last_of name (map pair_at es) ≡ find order name es
last_sorted name [] h = refl
last_sorted name (e ∷ es) h =
    ap (λ v. option_or v (cond (bytes_eq e.0 name) (Some e.1) None)) (last_sorted name es (second _ _ h))
    ∙ (first_or_later (bytes_eq e.0 name) e.1 (find order name es) (λ t. none_below name e.0 es (is_equal (order name e.0) (tests name e.0 ∙ t)) (first _ _ h))
    ∙ ap (λ t. cond t (Some e.1) (find order name es)) (sym (tests name e.0)))

last_by_name : (name : List ℕ) (pairs : List Pair) → last_of name (by_name pairs) ≡ last_of name pairs
last_by_name name pairs = last_sorted name (entries_by_name [] pairs) (sorted_after [] pairs tt) ∙ found name pairs

-- pairs by name, among others, come to what the pairs themselves come to
pub by_name_within : (ps qs : List Pair) → by_name (ps ++ by_name qs) ≡ by_name (ps ++ qs)
by_name_within ps qs =
    by_name_same (ps ++ by_name qs) (ps ++ qs)
    (λ name. last_append name ps (by_name qs) ∙ (ap (λ o. option_or o (last_of name ps)) (last_by_name name qs) ∙ sym (last_append name ps qs)))
