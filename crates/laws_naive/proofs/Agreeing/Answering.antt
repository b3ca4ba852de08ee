-- Answers of what was told: a question is looked up among those that were asked.
use Rattle.std.proofs.Common.{◌≡◌, ℕ, List, [], ◌∷◌, ◌++◌, ◌⊎◌, inl, inr, Option, Some, None, Result, refl, sym, ap, ◌∙◌, subst}
use Rattle.std.specs.Prelude.{Contains}
use Rattle.std.specs.List.{AllByRecursion, flat_map}
use Rattle.std.proofs.lemmas.Option.{same_Some}
use Rattle.just_host.specs.declared.entry.Entry.{Entry}
use Rattle.just_host.specs.declared.entry.Entry.TheVariants.{Asked, Line, Script, Confirm, Show, Dotenv}
use Rattle.just_host.specs.declared.host.Answer.{Answer}
use Rattle.just_host.specs.declared.host.Confirmation.{Confirmation}
use Rattle.just_host.specs.declared.host.HostFault.{HostFault}
use Rattle.just_host.specs.declared.host.Question.{Question}
use Rattle.just_host.specs.declared.host.Status.{Status}
use Rattle.just_host.specs.declared.job.CommandJob.{CommandJob}
use Rattle.just_host.specs.declared.job.DotenvRequest.{DotenvRequest}
use Rattle.just_host.specs.declared.job.Pair.{Pair}
use Rattle.just_host.specs.declared.job.ScriptJob.{ScriptJob}
use Rattle.meaning_rules.proofs.Worlds.Places.{contains_cases, contains_first, contains_later, contains_none}
use Rattle.meaning_runs.specs.Told.{Answers, holds, taken}
use Rattle.laws_agreement.proofs.Agreement.Lists.{all_contained, all_more}
use Rattle.laws_naive.specs.Agreeing.Answering.{AnswerOnce, AnswersAreOne, AnswersAreThere, HoldsTagged, Tagged, asked_by, of_confirm, of_dotenv, of_line, of_recipe, of_script, of_variable}
use Rattle.laws_naive.proofs.Agreeing.Decided.{Decided, commands, questions, requests, scripts, texts}

-- ---- looking up

abbrev pick : {P : Type 0} {X : Type 0} → Dec P → X → X → X
pick (yes p) x y = x
pick (no n) x y = y

abbrev look : {Q A : Type 0} → Decided Q → List (Q × A) → Q → Option A
look d [] question = None
look d (pair ∷ pairs) question = pick (d question pair.0) (Some pair.1) (look d pairs question)

-- what was told is found, where equal questions have equal answers
found : {Q A : Type 0} (d : Decided Q) (pairs : List (Q × A)) → AnswerOnce pairs → (question : Q) (answer : A) → Contains pairs (question, answer) → look d pairs question ≡ Some answer
found d [] once question answer there = absurd (contains_none [] (question, answer) refl there)
found {Q = Q} {A = A} d (pair ∷ pairs) once question answer there = by_test (d question pair.0) (contains_cases pair pairs (question, answer) there)
    (λ later. found d pairs (λ q a b h k. once q a b (contains_later pair pairs (q, a) h) (contains_later pair pairs (q, b) k)) question answer later)
  where
    by_test : (test : Dec (question ≡ pair.0)) → (pair ≡ (question, answer)) ⊎ Contains pairs (question, answer) → (Contains pairs (question, answer) → look d pairs question ≡ Some answer) → pick test (Some pair.1) (look d pairs question) ≡ Some answer
    by_test (yes e) place further = ap Some (once question pair.1 answer (subst (λ (q : Q). Contains (pair ∷ pairs) (q, pair.1)) (sym e) (contains_first pair pairs)) there)
    by_test (no n) (inl same) further = absurd (n (sym (ap (λ p. p.0) same)))
    by_test (no n) (inr later) further = further later

-- ---- among all that was told

in_front : {X : Type 0} (xs ys : List X) (x : X) → Contains xs x → Contains (xs ++ ys) x
in_front [] ys x h = absurd (contains_none [] x refl h)
in_front (z ∷ zs) ys x h = elim (contains_cases z zs x h) [
  | inl e ↦ subst (Contains (z ∷ (zs ++ ys))) e (contains_first z (zs ++ ys))
  | inr k ↦ contains_later z (zs ++ ys) x (in_front zs ys x k)
]

behind : {X : Type 0} (xs ys : List X) (x : X) → Contains ys x → Contains (xs ++ ys) x
behind [] ys x h = h
behind (z ∷ zs) ys x h = contains_later z (zs ++ ys) x (behind zs ys x h)

in_part : {X : Type 0} (xs ys : List X) (x : X) → Contains (xs ++ ys) x → Contains xs x ⊎ Contains ys x
in_part [] ys x h = inr h
in_part (z ∷ zs) ys x h = elim (contains_cases z (zs ++ ys) x h) [
  | inl e ↦ inl (subst (Contains (z ∷ zs)) e (contains_first z zs))
  | inr k ↦ elim (in_part zs ys x k) [ inl l ↦ inl (contains_later z zs x l) | inr l ↦ inr l ]
]

-- what one gives is among what all give
of_one : {X Y : Type 0} (g : X → List Y) (xs : List X) (x : X) (y : Y) → Contains xs x → Contains (g x) y → Contains (flat_map g xs) y
of_one g [] x y h k = absurd (contains_none [] x refl h)
of_one g (z ∷ zs) x y h k = elim (contains_cases z zs x h) [
  | inl e ↦ in_front (g z) (flat_map g zs) y (subst (λ q. Contains (g q) y) (sym e) k)
  | inr l ↦ behind (g z) (flat_map g zs) y (of_one g zs x y l k)
]

-- what holds of what each gives holds of what all give
of_all : {X Y : Type 0} (P : X → Type 0) (Q : Y → Type 0) (g : X → List Y) → ((x : X) (y : Y) → P x → Contains (g x) y → Q y) → (xs : List X) → AllByRecursion P xs → (y : Y) → Contains (flat_map g xs) y → Q y
of_all P Q g each [] all y h = absurd (contains_none [] y refl h)
of_all P Q g each (x ∷ xs) all y h = elim (in_part (g x) (flat_map g xs) y h) [
  | inl k ↦ each x y all.0 k
  | inr k ↦ of_all P Q g each xs all.1 y k
]

-- ---- the answers

abbrev answers_of : List Tagged → Answers
answers_of xs = record {
  variable = look questions (flat_map (λ x. of_variable x.names x.entry) xs);
  recipe = look questions (flat_map (λ x. of_recipe x.names x.entry) xs);
  dotenv = look requests (flat_map (λ x. of_dotenv x.entry) xs);
  line = look commands (flat_map (λ x. of_line x.entry) xs);
  script = look scripts (flat_map (λ x. of_script x.entry) xs);
  confirm = look texts (flat_map (λ x. of_confirm x.entry) xs);
}

pub answers_are_there : AnswersAreThere
answers_are_there xs once = (answers_of xs, all_more (Contains xs) (HoldsTagged (answers_of xs)) each xs (all_contained xs))
  where
    by_entry : (names : Option (List (List ℕ))) (e : Entry) → Contains xs (record { names = names; entry = e }) → holds (answers_of xs) (asked_by (answers_of xs) names) e
    by_entry None (Asked question answer) h = found questions (flat_map (λ x. of_recipe x.names x.entry) xs) once.recipes question answer (of_one (λ x. of_recipe x.names x.entry) xs _ _ h (contains_first _ []))
    by_entry (Some names) (Asked question answer) h = found questions (flat_map (λ x. of_variable x.names x.entry) xs) once.variables _ answer (of_one (λ x. of_variable x.names x.entry) xs _ _ h (contains_first _ []))
    by_entry names (Dotenv request answer) h = found requests (flat_map (λ x. of_dotenv x.entry) xs) once.dotenvs request answer (of_one (λ x. of_dotenv x.entry) xs _ _ h (contains_first _ []))
    by_entry names (Line job status) h = found commands (flat_map (λ x. of_line x.entry) xs) once.lines job status (of_one (λ x. of_line x.entry) xs _ _ h (contains_first _ []))
    by_entry names (Script job status) h = found scripts (flat_map (λ x. of_script x.entry) xs) once.scripts job status (of_one (λ x. of_script x.entry) xs _ _ h (contains_first _ []))
    by_entry names (Confirm prompt answer) h = found texts (flat_map (λ x. of_confirm x.entry) xs) once.confirmations prompt answer (of_one (λ x. of_confirm x.entry) xs _ _ h (contains_first _ []))
    by_entry names (Show text) h = tt

    each : (x : Tagged) → Contains xs x → HoldsTagged (answers_of xs) x
    each x h = by_entry x.names x.entry h

-- one function answers
by_one : {Q A : Type 0} (f : Q → Option A) (pairs : List (Q × A)) → ((p : Q × A) → Contains pairs p → f p.0 ≡ Some p.1) → AnswerOnce pairs
by_one f pairs answered question a b h k = same_Some a b (sym (answered (question, a) h) ∙ answered (question, b) k)

-- the one pair that is given
the_one : {X : Type 0} (P : X → Type 0) (x y : X) → P x → Contains (x ∷ []) y → P y
the_one P x y h k = elim (contains_cases x [] y k) [ inl e ↦ subst P e h | inr l ↦ absurd (contains_none [] y refl l) ]

module _ (f : Answers) where
  told_variable : (names : Option (List (List ℕ))) (e : Entry) (y : Question × Answer) → holds f (asked_by f names) e → Contains (of_variable names e) y → f.variable y.0 ≡ Some y.1
  told_variable (Some names) (Asked question answer) y h k = the_one (λ p. f.variable p.0 ≡ Some p.1) (taken names question, answer) y h k
  told_variable None (Asked question answer) y h k = absurd (contains_none [] y refl k)
  told_variable None (Line job status) y h k = absurd (contains_none [] y refl k)
  told_variable None (Script job status) y h k = absurd (contains_none [] y refl k)
  told_variable None (Confirm prompt given) y h k = absurd (contains_none [] y refl k)
  told_variable None (Show text) y h k = absurd (contains_none [] y refl k)
  told_variable None (Dotenv request given) y h k = absurd (contains_none [] y refl k)
  told_variable (Some names) (Line job status) y h k = absurd (contains_none [] y refl k)
  told_variable (Some names) (Script job status) y h k = absurd (contains_none [] y refl k)
  told_variable (Some names) (Confirm prompt given) y h k = absurd (contains_none [] y refl k)
  told_variable (Some names) (Show text) y h k = absurd (contains_none [] y refl k)
  told_variable (Some names) (Dotenv request given) y h k = absurd (contains_none [] y refl k)

  told_recipe : (names : Option (List (List ℕ))) (e : Entry) (y : Question × Answer) → holds f (asked_by f names) e → Contains (of_recipe names e) y → f.recipe y.0 ≡ Some y.1
  told_recipe None (Asked question answer) y h k = the_one (λ p. f.recipe p.0 ≡ Some p.1) (question, answer) y h k
  told_recipe (Some names) (Asked question answer) y h k = absurd (contains_none [] y refl k)
  told_recipe None (Line job status) y h k = absurd (contains_none [] y refl k)
  told_recipe None (Script job status) y h k = absurd (contains_none [] y refl k)
  told_recipe None (Confirm prompt given) y h k = absurd (contains_none [] y refl k)
  told_recipe None (Show text) y h k = absurd (contains_none [] y refl k)
  told_recipe None (Dotenv request given) y h k = absurd (contains_none [] y refl k)
  told_recipe (Some names) (Line job status) y h k = absurd (contains_none [] y refl k)
  told_recipe (Some names) (Script job status) y h k = absurd (contains_none [] y refl k)
  told_recipe (Some names) (Confirm prompt given) y h k = absurd (contains_none [] y refl k)
  told_recipe (Some names) (Show text) y h k = absurd (contains_none [] y refl k)
  told_recipe (Some names) (Dotenv request given) y h k = absurd (contains_none [] y refl k)

  told_dotenv : (names : Option (List (List ℕ))) (e : Entry) (y : DotenvRequest × Result (List Pair) HostFault) → holds f (asked_by f names) e → Contains (of_dotenv e) y → f.dotenv y.0 ≡ Some y.1
  told_dotenv names (Dotenv request given) y h k = the_one (λ p. f.dotenv p.0 ≡ Some p.1) (request, given) y h k
  told_dotenv names (Asked question answer) y h k = absurd (contains_none [] y refl k)
  told_dotenv names (Line job status) y h k = absurd (contains_none [] y refl k)
  told_dotenv names (Script job status) y h k = absurd (contains_none [] y refl k)
  told_dotenv names (Confirm prompt given) y h k = absurd (contains_none [] y refl k)
  told_dotenv names (Show text) y h k = absurd (contains_none [] y refl k)

  told_line : (names : Option (List (List ℕ))) (e : Entry) (y : CommandJob × Status) → holds f (asked_by f names) e → Contains (of_line e) y → f.line y.0 ≡ Some y.1
  told_line names (Line job status) y h k = the_one (λ p. f.line p.0 ≡ Some p.1) (job, status) y h k
  told_line names (Asked question answer) y h k = absurd (contains_none [] y refl k)
  told_line names (Script job status) y h k = absurd (contains_none [] y refl k)
  told_line names (Confirm prompt given) y h k = absurd (contains_none [] y refl k)
  told_line names (Show text) y h k = absurd (contains_none [] y refl k)
  told_line names (Dotenv request given) y h k = absurd (contains_none [] y refl k)

  told_script : (names : Option (List (List ℕ))) (e : Entry) (y : ScriptJob × Status) → holds f (asked_by f names) e → Contains (of_script e) y → f.script y.0 ≡ Some y.1
  told_script names (Script job status) y h k = the_one (λ p. f.script p.0 ≡ Some p.1) (job, status) y h k
  told_script names (Asked question answer) y h k = absurd (contains_none [] y refl k)
  told_script names (Line job status) y h k = absurd (contains_none [] y refl k)
  told_script names (Confirm prompt given) y h k = absurd (contains_none [] y refl k)
  told_script names (Show text) y h k = absurd (contains_none [] y refl k)
  told_script names (Dotenv request given) y h k = absurd (contains_none [] y refl k)

  told_confirm : (names : Option (List (List ℕ))) (e : Entry) (y : List ℕ × Confirmation) → holds f (asked_by f names) e → Contains (of_confirm e) y → f.confirm y.0 ≡ Some y.1
  told_confirm names (Confirm prompt given) y h k = the_one (λ p. f.confirm p.0 ≡ Some p.1) (prompt, given) y h k
  told_confirm names (Asked question answer) y h k = absurd (contains_none [] y refl k)
  told_confirm names (Line job status) y h k = absurd (contains_none [] y refl k)
  told_confirm names (Script job status) y h k = absurd (contains_none [] y refl k)
  told_confirm names (Show text) y h k = absurd (contains_none [] y refl k)
  told_confirm names (Dotenv request given) y h k = absurd (contains_none [] y refl k)

pub answers_are_one : AnswersAreOne
answers_are_one f xs all = record {
  variables = by_one f.variable _ (of_all (HoldsTagged f) (λ p. f.variable p.0 ≡ Some p.1) (λ x. of_variable x.names x.entry) (λ x y. told_variable f x.names x.entry y) xs all);
  recipes = by_one f.recipe _ (of_all (HoldsTagged f) (λ p. f.recipe p.0 ≡ Some p.1) (λ x. of_recipe x.names x.entry) (λ x y. told_recipe f x.names x.entry y) xs all);
  dotenvs = by_one f.dotenv _ (of_all (HoldsTagged f) (λ p. f.dotenv p.0 ≡ Some p.1) (λ x. of_dotenv x.entry) (λ x y. told_dotenv f x.names x.entry y) xs all);
  lines = by_one f.line _ (of_all (HoldsTagged f) (λ p. f.line p.0 ≡ Some p.1) (λ x. of_line x.entry) (λ x y. told_line f x.names x.entry y) xs all);
  scripts = by_one f.script _ (of_all (HoldsTagged f) (λ p. f.script p.0 ≡ Some p.1) (λ x. of_script x.entry) (λ x y. told_script f x.names x.entry y) xs all);
  confirmations = by_one f.confirm _ (of_all (HoldsTagged f) (λ p. f.confirm p.0 ≡ Some p.1) (λ x. of_confirm x.entry) (λ x y. told_confirm f x.names x.entry y) xs all);
}
