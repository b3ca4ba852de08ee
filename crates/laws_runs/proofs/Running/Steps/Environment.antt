-- Places that are alike in what they export: commands are given the same environment.
use Rattle.std.proofs.Common.{◌≡◌, ◌∙◌, sym, ap, ap₂, subst, refl, Bool, true, false, List, [], ◌∷◌, ◌++◌, map, Option, Some, None, true≢false}
use Rattle.std.specs.Prelude.{cond, filter, is_some, not, bytes_eq}
use Rattle.std.specs.List.Sorted.{IsStrictlySortedBy}
use Rattle.std.specs.Option.{option_or}
use Rattle.std.proofs.lemmas.Slice.Eq.{bytes_eq-Decides}
use Rattle.just_host.specs.declared.job.Pair.{Pair}
use Rattle.just_value.specs.Frames.{BoundRow}
use Rattle.evaluate_context.specs.Environment.{frame_pairs, frames_pairs, is_among, last_of, pair_at, without}
use Rattle.evaluate_context.specs.Surroundings.{Standing, Surroundings, by_name, entries_by_name, given, sorted_names}
use Rattle.evaluate_context.proofs.ByName.{by_name_same, found, last_append, last_sorted, or_assoc, or_none, sorted_after}
use Rattle.evaluate_context.proofs.Environments.{environment_by_name}
use Rattle.modules_compilation.specs.Tables.{text_cmp}
use Rattle.meaning_rules.specs.Worlds.Given.{Text}
use Rattle.laws_runs.specs.ByName.Places.{SamePlace}

-- ---- names in byte order stay so

abbrev pair_of : Text → Pair
pair_of name = record { name = name; value = [] }

names_back : (names : List Text) → map (λ (p : Pair). p.name) (map pair_of names) ≡ names
names_back [] = refl
names_back (name ∷ names) = ap (λ ns. name ∷ ns) (names_back names)

names_in : (es : List (Text × Text)) → map (λ (p : Pair). p.name) (map pair_at es) ≡ map (λ e. e.0) es
names_in [] = refl
names_in (e ∷ es) = ap (λ ns. e.0 ∷ ns) (names_in es)

pub names_stay : (names : List Text) → IsStrictlySortedBy text_cmp names → sorted_names names ≡ names
names_stay names sorted =
    let pairs = map pair_of names in
    let same : pairs ≡ by_name pairs = environment_by_name pairs pairs [] [] (record { values = λ name. refl; sorted = subst (IsStrictlySortedBy text_cmp) (sym (names_back names)) sorted; lacking = refl }) in
    sym (names_in (entries_by_name [] pairs)) ∙ ap (map (λ (p : Pair). p.name)) (sym same) ∙ names_back names

-- ---- last values

pub last_by_name : (name : Text) (pairs : List Pair) → last_of name (by_name pairs) ≡ last_of name pairs
last_by_name name pairs = last_sorted name (entries_by_name [] pairs) (sorted_after [] pairs tt) ∙ found name pairs

same_name : (out : List Text) (x y : Text) (b : Bool) → bytes_eq x y ≡ b → is_among out x ≡ not (is_among out y) → b ≡ false
same_name out x y false e h = refl
same_name out x y true e h = let same = subst (λ z. is_among out z ≡ not (is_among out y)) ((bytes_eq-Decides x y).0 e) h in absurd (never (is_among out y) same)
  where
    never : (a : Bool) → a ≡ not a → ⊥
    never true e = true≢false e
    never false e = true≢false (sym e)

-- of pairs without those of some names
last_without : (out : List Text) (pairs : List Pair) (x : Text) → last_of x (without out pairs) ≡ cond (is_among out x) None (last_of x pairs)
last_without out [] x = none (is_among out x)
  where
    none : (b : Bool) → (let o : Option Text = None in o) ≡ cond b None None
    none true = refl
    none false = refl
last_without out (p ∷ pairs) x = by_test (is_among out p.name) (is_among out x) refl refl (last_without out pairs x)
  where
    by_test : (a b : Bool) → is_among out p.name ≡ a → is_among out x ≡ b → last_of x (without out pairs) ≡ cond (is_among out x) None (last_of x pairs)
        → last_of x (cond (not (is_among out p.name)) (p ∷ without out pairs) (without out pairs)) ≡ cond (is_among out x) None (option_or (last_of x pairs) (cond (bytes_eq p.name x) (Some p.value) None))
    by_test true true e f h = rw (e, f) (subst (λ b. last_of x (without out pairs) ≡ cond b None (last_of x pairs)) f h)
    by_test true false e f h =
        let other = same_name out p.name x (bytes_eq p.name x) refl (e ∙ sym (ap not f)) in
        rw (e, f, other) (subst (λ b. last_of x (without out pairs) ≡ cond b None (last_of x pairs)) f h ∙ sym (or_none (last_of x pairs)))
    by_test false true e f h =
        let other = same_name out p.name x (bytes_eq p.name x) refl (e ∙ sym (ap not f)) in
        rw (e, f, other) (or_none (last_of x (without out pairs)) ∙ subst (λ b. last_of x (without out pairs) ≡ cond b None (last_of x pairs)) f h)
    by_test false false e f h = rw (e, f) (ap (λ o. option_or o (cond (bytes_eq p.name x) (Some p.value) None)) (subst (λ b. last_of x (without out pairs) ≡ cond b None (last_of x pairs)) f h))

-- what is given of a name
given_is : (m : Surroundings) (s : Standing) (x : Text) → last_of x (given m s) ≡ option_or (last_of x s.env) (cond (is_among m.unexports x) None (option_or (last_of x s.exported) (last_of x m.dotenv)))
given_is m s x =
    last_append x (without m.unexports (m.dotenv ++ s.exported)) s.env
    ∙ ap (option_or (last_of x s.env)) (last_without m.unexports (m.dotenv ++ s.exported) x ∙ ap (cond (is_among m.unexports x) None) (last_append x m.dotenv s.exported))

-- ---- places that are alike

-- the same names are not exported, each name has one value, and the recipe is the same
pub record StandAlike (m n : Surroundings) (s t : Standing) : Type 0 where
  pub unexports : m.unexports ≡ n.unexports
  pub dotenv : (x : Text) → last_of x m.dotenv ≡ last_of x n.dotenv
  pub exported : (x : Text) → last_of x s.exported ≡ last_of x t.exported
  pub env : (x : Text) → last_of x s.env ≡ last_of x t.env
  pub is_dependency : s.is_dependency ≡ t.is_dependency
  pub recipe : s.recipe ≡ t.recipe

given_same : (m n : Surroundings) (s t : Standing) → StandAlike m n s t → (x : Text) → last_of x (given m s) ≡ last_of x (given n t)
given_same m n s t h x =
    given_is m s x
    ∙ ap₂ option_or (h.env x) (
    ap (λ out. cond (is_among out x) None (option_or (last_of x s.exported) (last_of x m.dotenv))) h.unexports
    ∙ ap (cond (is_among n.unexports x) None) (ap₂ option_or (h.exported x) (h.dotenv x)))
    ∙ sym (given_is n t x)

-- commands are given the same there
pub same_place : (m n : Surroundings) (s t : Standing) → StandAlike m n s t → SamePlace m n s t
same_place m n s t h = record {
  pairs = by_name_same (given m s) (given n t) (given_same m n s t h);
  lacking = λ i. filter (λ x. not (is_some (given_same m n s t h x i))) (h.unexports i);
  is_dependency = h.is_dependency;
  recipe = h.recipe;
}

-- ---- frames of a recipe inside those of a module

-- what the frame of parameters exports comes after what the module's frames export
pub own_after : (export : Bool) (own module_own constants : List BoundRow) (x : Text)
    → last_of x (frames_pairs export (own ∷ module_own ∷ constants ∷ [])) ≡ option_or (last_of x (frame_pairs export own)) (last_of x (frames_pairs export (module_own ∷ constants ∷ [])))
own_after export own module_own constants x =
    let c = frame_pairs export constants in
    let m = frame_pairs export module_own in
    let o = frame_pairs export own in
    last_append x c (m ++ (o ++ []))
    ∙ ap (λ l. option_or l (last_of x c)) (last_append x m (o ++ []) ∙ ap (λ l. option_or l (last_of x m)) (last_append x o []))
    ∙ or_assoc (last_of x o) (last_of x m) (last_of x c)
    ∙ ap (option_or (last_of x o)) (sym (last_append x c (m ++ []) ∙ ap (λ l. option_or l (last_of x c)) (last_append x m [])))
