-- What is exported makes no difference to the questions of variables, which are taken without it.
use Rattle.std.proofs.Common.{◌≡◌, ℕ, Bool, true, false, cond, not, ◌||◌, List, [], ◌∷◌, ◌++◌, map, filter, is_some, Option, Some, None, refl, sym, ap, ap₂, ◌∙◌, subst}
use Rattle.std.specs.Cmp.Lexicographic.{slice_cmp}
use Rattle.std.specs.FinMap.{nat_cmp-IsAntisymmetric, slice_cmp-IsAntisymmetric}
use Rattle.std.specs.FinMap.Entries.{find, is_sorted, same_entries, where_key, is_sorted-where_key, find-where_key}
use Rattle.std.specs.Option.{option_or}
use Rattle.std.specs.Ordering.{nat_cmp}
use Rattle.std.specs.declared.cmp.Ordering.TheVariants.{Equal}
use Rattle.std.specs.Str.{bytes_eq}
use Rattle.std.proofs.lemmas.Cmp.{nat_list_cmp_total}
use Rattle.std.proofs.lemmas.List.Elements.{filter-append}
use Rattle.std.proofs.lemmas.Slice.Eq.{bytes_eq-Decides}
use Rattle.just_host.specs.declared.host.Question.TheVariants.{Command}
use Rattle.just_host.specs.declared.job.CommandJob.{CommandJob}
use Rattle.just_host.specs.declared.job.Pair.{Pair}
use Rattle.evaluate_context.specs.Environment.{last_of, is_among, without, pair_at}
use Rattle.evaluate_context.specs.Surroundings.{Surroundings, Standing, entries_by_name, by_name, given, removed}
use Rattle.meaning_runs.specs.Told.{Answers, left_out, of_variables}
use Rattle.evaluate_context.proofs.ByName.{order, found, sorted_after, last_append}
use Rattle.laws_evaluation.specs.Opening.Alike.{StandAlike, HaveNames}

same_name : (x y : List ℕ) → order x y ≡ Equal → x ≡ y
same_name x y e = slice_cmp-IsAntisymmetric nat_cmp-IsAntisymmetric x y e

-- a name that is not left out
abbrev kept : List (List ℕ) → List ℕ → Bool
kept names name = not (is_among names name)

left_entries : (names : List (List ℕ)) (es : List (List ℕ × List ℕ)) → left_out names (map pair_at es) ≡ map pair_at (where_key order (kept names) es)
left_entries names [] = refl
left_entries names (e ∷ es) =
    elim (kept names e.0) as (λ b. cond b (pair_at e ∷ left_out names (map pair_at es)) (left_out names (map pair_at es)) ≡ map pair_at (cond b (e ∷ where_key order (kept names) es) (where_key order (kept names) es))) [
      | true ↦ ap (λ ps. pair_at e ∷ ps) (left_entries names es)
      | false ↦ left_entries names es
    ]

if_same : (b : Bool) (x y : Option (List ℕ)) → (b ≡ true → x ≡ y) → cond b x None ≡ cond b y None
if_same true x y h = h refl
if_same false x y h = refl

-- what is left of two environments is the same where each name that is left has one value in both
left_same : (names : List (List ℕ)) (g h : List Pair) → ((name : List ℕ) → kept names name ≡ true → last_of name g ≡ last_of name h) → left_out names (by_name g) ≡ left_out names (by_name h)
left_same names g h same =
    left_entries names (entries_by_name [] g)
    ∙ (ap (map pair_at) (same_entries order nat_list_cmp_total same_name (where_key order (kept names) (entries_by_name [] g)) (where_key order (kept names) (entries_by_name [] h))
    (is_sorted-where_key order (kept names) (entries_by_name [] g) (sorted_after [] g tt)) (is_sorted-where_key order (kept names) (entries_by_name [] h) (sorted_after [] h tt))
    (λ q. find-where_key order (kept names) q (alike q) (entries_by_name [] g)
    ∙ (if_same (kept names q) _ _ (λ k. found q g ∙ (same q k ∙ sym (found q h)))
    ∙ sym (find-where_key order (kept names) q (alike q) (entries_by_name [] h)))))
    ∙ sym (left_entries names (entries_by_name [] h)))
  where
    alike : (q x : List ℕ) → order q x ≡ Equal → kept names x ≡ kept names q
    alike q x e = ap (kept names) (sym (same_name q x e))

none_of_both : (o : Option (List ℕ)) (b : Bool) (v : List ℕ) → o ≡ None → b ≡ false → option_or o (cond b (Some v) None) ≡ None
none_of_both o b v e f = rw (e, f) refl

-- a name that is among these is none that isn't
other_name : (names : List (List ℕ)) (x y : List ℕ) → is_among names x ≡ true → is_among names y ≡ false → bytes_eq x y ≡ false
other_name names x y h g = at (bytes_eq x y) refl
  where
    at : (b : Bool) → bytes_eq x y ≡ b → bytes_eq x y ≡ false
    at true e = let same = subst (λ z. is_among names z ≡ true) ((bytes_eq-Decides x y).0 e) h in absurd (cc)
    at false e = e

turned : (x y : List ℕ) → bytes_eq x y ≡ false → bytes_eq y x ≡ false
turned x y e = at (bytes_eq y x) refl
  where
    at : (b : Bool) → bytes_eq y x ≡ b → bytes_eq y x ≡ false
    at true f = let g = (bytes_eq-Decides x y).1 (sym ((bytes_eq-Decides y x).0 f)) in absurd (cc)
    at false f = f

not_true : (b : Bool) → not b ≡ true → b ≡ false
not_true true e = absurd (cc)
not_true false e = refl

-- no pair of those names has another
none_named : (names out : List (List ℕ)) (ps : List Pair) (name : List ℕ) → HaveNames names ps → kept names name ≡ true → last_of name (without out ps) ≡ None
none_named names out [] name h k = refl
none_named names out (p ∷ ps) name h k =
    let rest = none_named names out ps name h.1 k in
    elim (not (is_among out p.name)) as (λ b. last_of name (cond b (p ∷ without out ps) (without out ps)) ≡ None) [
      | true ↦ none_of_both _ _ p.value rest (other_name names p.name name h.0 (not_true (is_among names name) k))
      | false ↦ rest
    ]

-- a name that is left out has no value
none_left : (out : List (List ℕ)) (ps : List Pair) (name : List ℕ) → is_among out name ≡ true → last_of name (without out ps) ≡ None
none_left out [] name h = refl
none_left out (p ∷ ps) name h = at (is_among out p.name) refl (none_left out ps name h)
  where
    at : (b : Bool) → is_among out p.name ≡ b → last_of name (without out ps) ≡ None → last_of name (cond (not (is_among out p.name)) (p ∷ without out ps) (without out ps)) ≡ None
    at true e rest = rw e rest
    at false e rest = rw e (none_of_both _ _ p.value rest (turned name p.name (other_name out name p.name h e)))

-- what is given of a name by the pairs of attributes, the exported ones and those of files
given_last : (m : Surroundings) (s : Standing) (name : List ℕ) → last_of name (given m s) ≡ option_or (last_of name s.env) (option_or (last_of name (without m.unexports s.exported)) (last_of name (without m.unexports m.dotenv)))
given_last m s name =
    last_append name (without m.unexports (m.dotenv ++ s.exported)) s.env
    ∙ ap (option_or (last_of name s.env)) (ap (last_of name) (filter-append _ m.dotenv s.exported) ∙ last_append name (without m.unexports m.dotenv) (without m.unexports s.exported))

given_same : (names : List (List ℕ)) (m : Surroundings) (s s' : Standing) → HaveNames names s.exported → HaveNames names s'.exported → s.env ≡ s'.env → (name : List ℕ) → kept names name ≡ true → last_of name (given m s) ≡ last_of name (given m s')
given_same names m s s' h g env name k =
    given_last m s name
    ∙ (ap₂ option_or (ap (last_of name) env) (ap (λ o. option_or o (last_of name (without m.unexports m.dotenv))) (none_named names m.unexports s.exported name h k ∙ sym (none_named names m.unexports s'.exported name g k)))
    ∙ sym (given_last m s' name))

or_true : (b : Bool) → (b || true) ≡ true
or_true true = refl
or_true false = refl

filtered_same : (f g : List ℕ → Bool) (out xs : List (List ℕ)) → ((x : List ℕ) → is_among xs x ≡ true → is_among out x ≡ true) → ((x : List ℕ) → is_among out x ≡ true → f x ≡ g x) → filter f xs ≡ filter g xs
filtered_same f g out [] up same = refl
filtered_same f g out (x ∷ xs) up same =
    let first : is_among (x ∷ xs) x ≡ true = rw ((bytes_eq-Decides x x).1 refl) refl in
    let here : f x ≡ g x = same x (up x first) in
    let later : filter f xs ≡ filter g xs = filtered_same f g out xs (λ y e. up y (ap (λ b. bytes_eq x y || b) e ∙ or_true (bytes_eq x y))) same in
    rw (here, later) refl

removed_same : (m : Surroundings) (s s' : Standing) → s.env ≡ s'.env → removed m s ≡ removed m s'
removed_same m s s' env =
    filtered_same _ _ m.unexports m.unexports (λ x e. e)
    (λ x e. ap (λ o. not (is_some o))
    (given_last m s x
    ∙ (ap₂ option_or (ap (last_of x) env) (ap (λ o. option_or o (last_of x (without m.unexports m.dotenv))) (none_left m.unexports s.exported x e ∙ sym (none_left m.unexports s'.exported x e)))
    ∙ sym (given_last m s' x))))

-- two places that differ in pairs of exported names alone stand alike for the variables of a module that exports these names
pub exported_alike : (f : Answers) (names : List (List ℕ)) (m : Surroundings) (s s' : Standing) → HaveNames names s.exported → HaveNames names s'.exported → s.env ≡ s'.env → s.is_dependency ≡ s'.is_dependency → s.recipe ≡ s'.recipe → StandAlike (of_variables f names) m s s'
exported_alike f names m s s' h g env dependency recipe = record {
  commands = λ command positional. ap f.variable
      (ap₂ (λ (pairs : List Pair) (lacking : List (List ℕ)). let job : CommandJob = record { shell = m.shell; command = command; positional = positional; pairs = pairs; removed = lacking; folder = Some m.folder; quiet = m.quiet } in Command job)
      (left_same names (given m s) (given m s') (given_same names m s s' h g env)) (removed_same m s s' env));
  dependency = dependency;
  recipe = recipe;
}
