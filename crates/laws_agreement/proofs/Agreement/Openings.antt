-- What is held after an opening, and what modules' pairs are, where the opening agrees with the answers.
use Rattle.std.proofs.Common.{◌≡◌, ℕ, List, [], ◌∷◌, ◌++◌, append-nil, append_assoc, map, Bool, true, false, cond, Option, Some, None, Ok, refl, sym, ap, ◌∙◌, subst, arith}
use Rattle.std.specs.Prelude.{Contains}
use Rattle.std.specs.Str.{bytes_eq}
use Rattle.std.proofs.lemmas.List.{append_cancel_left}
use Rattle.std.proofs.lemmas.Map.Made.{Contains-tail}
use Rattle.std.proofs.lemmas.Slice.Eq.{slice_eq-Decides, bytes_eq-Decides}
use Rattle.just_host.specs.declared.entry.Entry.{Entry}
use Rattle.just_host.specs.declared.entry.Entry.TheVariants.{Dotenv}
use Rattle.just_host.specs.declared.job.DotenvRequest.{DotenvRequest}
use Rattle.just_host.specs.declared.job.Pair.{Pair}
use Rattle.meaning_dialogues.specs.Evaluation.{Value}
use Rattle.meaning_runs.specs.Told.{Answers, AgreesThere}
use Rattle.meaning_runs.specs.Counts.{each_once}
use Rattle.meaning_evaluation.specs.Named.{VariableName, ModuleRow, Definitions, paths_of}
use Rattle.meaning_evaluation.specs.Scopes.{Configuration}
use Rattle.just_meaning.specs.Opening.{Held, Opened, named, held, Fills, all, has_value, OpensOne, opened, OpensAll, none_left, one_more, exported_names}
use Rattle.meaning_evaluation.specs.Requests.{Requests, told, unasked}
use Rattle.just_meaning.specs.Runs.{same_path, pairs_at, values_at}
use Rattle.just_meaning.specs.Meanings.{pairs_told, pairs_asked, dotenv_at, in_module}
use Rattle.meaning_rules.proofs.Worlds.Places.{contains_first, contains_later}
use Rattle.just_meaning.specs.Agreement.{AgreesFrom, AgreesOne, AgreesAll}

map_append : {A B : Type 0} (f : A → B) (xs ys : List A) → map f (xs ++ ys) ≡ map f xs ++ map f ys
map_append f [] ys = refl
map_append f (x ∷ xs) ys = ap (λ l. f x ∷ l) (map_append f xs ys)

-- a name that is held is one of the names
pub held_named : (name : List ℕ) (hs : List Held) (value : Value) → held name hs ≡ Some value → Contains (map (λ h. h.name) hs) name
held_named name [] value e = absurd (cc)
held_named name (h ∷ hs) value e = by_test (bytes_eq h.name name) refl (λ g. held_named name hs value g)
  where
    by_test : (b : Bool) → bytes_eq h.name name ≡ b → (held name hs ≡ Some value → Contains (map (λ x. x.name) hs) name) → Contains (h.name ∷ map (λ x. x.name) hs) name
    by_test true t go = subst (Contains (h.name ∷ map (λ x. x.name) hs)) ((bytes_eq-Decides h.name name).0 t) (contains_first h.name (map (λ x. x.name) hs))
    by_test false t go = contains_later h.name (map (λ x. x.name) hs) name (go (subst (λ b. cond b (Some h.value) (held name hs) ≡ Some value) t e))

pub paths_same : (a b : List (List ℕ)) → same_path a b ≡ true → a ≡ b
paths_same a b e = (slice_eq-Decides bytes_eq-Decides a b _ refl).0 e

module _ (c : Configuration) (defined : Definitions) where
  -- what is held after variables were evaluated in order: what was held, and these
  fills_names : {path : List (List ℕ)} {row : ModuleRow} {pairs : List Pair} (vs : List Held) (names : List (List ℕ)) {old new : List Entry} (values : List Held) → Fills c defined path row pairs vs names old new (Ok values) → map (λ h. h.name) values ≡ map (λ h. h.name) vs ++ names
  fills_names vs [] values all = sym (append-nil (map (λ h. h.name) vs))
  fills_names vs (name ∷ names) values (has_value value side goes others) =
      let h : Held = record { name = name; value = value } in
      fills_names (vs ++ h ∷ []) names values others ∙ (ap (λ l. l ++ names) (map_append (λ x. x.name) vs (h ∷ [])) ∙ append_assoc (map (λ x. x.name) vs) (name ∷ []) names)

  module _ (Open : VariableName → Type 0) where
    one_only : {path : List (List ℕ)} {old new : List Entry} (o : Opened) → OpensOne c defined Open path old new (Ok o) → (o.path ≡ path) × ((name : List ℕ) (value : Value) → held name o.values ≡ Some value → Open (named path name)) × (each_once bytes_eq (map (λ h. h.name) o.values) ≡ true)
    one_only o (opened {names = names} {values = values} inside request order fills) =
        let is : map (λ h. h.name) values ≡ names = fills_names [] names values fills in
        (refl, λ name value e. order.only name (subst (λ l. Contains l name) is (held_named name values value e)), ap (each_once bytes_eq) is ∙ order.once)

    -- What is held after the opening was opened.
    pub opens_only : {paths : List (List (List ℕ))} {old new : List Entry} (os : List Opened) → OpensAll c defined Open paths old new (Ok os) → (path : List (List ℕ)) (name : List ℕ) (value : Value) → held name (values_at path os) ≡ Some value → Open (named path name)
    opens_only [] none_left path name value e = absurd (cc)
    opens_only (o ∷ os) (one_more one others) path name value e = by_path (same_path o.path path) refl (one_only o one) (λ g. opens_only os others path name value g)
      where
        by_path : {at : List (List ℕ)} (b : Bool) → same_path o.path path ≡ b → (o.path ≡ at) × ((x : List ℕ) (v : Value) → held x o.values ≡ Some v → Open (named at x)) × (each_once bytes_eq (map (λ h. h.name) o.values) ≡ true) → (held name (values_at path os) ≡ Some value → Open (named path name)) → Open (named path name)
        by_path true t h go = subst (λ p. Open (named p name)) (sym h.0 ∙ paths_same o.path path t) (h.1 name value (subst (λ b. held name (cond b o.values (values_at path os)) ≡ Some value) t e))
        by_path false t h go = go (subst (λ b. held name (cond b o.values (values_at path os)) ≡ Some value) t e)

    -- No name is held twice.
    pub opens_once : {paths : List (List (List ℕ))} {old new : List Entry} (os : List Opened) → OpensAll c defined Open paths old new (Ok os) → (path : List (List ℕ)) → each_once bytes_eq (map (λ h. h.name) (values_at path os)) ≡ true
    opens_once [] none_left path = refl
    opens_once (o ∷ os) (one_more one others) path = by_path (same_path o.path path) (one_only o one).2 (opens_once os others path)
      where
        by_path : (b : Bool) → each_once bytes_eq (map (λ h. h.name) o.values) ≡ true → each_once bytes_eq (map (λ h. h.name) (values_at path os)) ≡ true → each_once bytes_eq (map (λ h. h.name) (cond b o.values (values_at path os))) ≡ true
        by_path true h g = h
        by_path false h g = g

    -- ---- the pairs of modules

    -- an answered request gives the pairs that are answered
    told_pairs : (f : Answers) (names : List (List ℕ)) (o : Option DotenvRequest) {old new : List Entry} (pairs : List Pair) → Requests o old new (Ok pairs) → AgreesFrom f names old new → pairs ≡ pairs_asked c defined f o
    told_pairs f names None pairs unasked agrees = refl
    told_pairs f names (Some request) {old = old} pairs (told entries) agrees =
        let piece : Dotenv request (Ok pairs) ∷ [] ≡ agrees.piece = append_cancel_left old _ _ (sym entries ∙ agrees.entries) in
        let there : (f.dotenv request ≡ Some (Ok pairs)) × Unit {0} = subst (AgreesThere f names) (sym piece) agrees.agrees in
        sym (ap (pairs_told c defined f) there.0)

    one_pairs : (f : Answers) {path : List (List ℕ)} {old new : List Entry} (o : Opened) (one : OpensOne c defined Open path old new (Ok o)) → AgreesOne f c defined one → (o.path ≡ path) × (o.pairs ≡ dotenv_at c defined f path)
    one_pairs f {path = path} o (opened {row = row} {pairs = pairs} inside request order fills) agrees =
        (refl, told_pairs f (exported_names defined path) row.request pairs request agrees.0 ∙ sym (ap (λ i. in_module c defined f [] i (λ r. pairs_asked c defined f r.request)) inside))

    -- the pairs of a module that was opened are those that are answered; another has none, and is none of these
    pub data HasPairs (f : Answers) (paths : List (List (List ℕ))) (os : List Opened) (path : List (List ℕ)) : Type 0 where
      answered : pairs_at path os ≡ dotenv_at c defined f path → HasPairs f paths os path
      elsewhere : pairs_at path os ≡ [] → (Contains paths path → ⊥) → HasPairs f paths os path

    opens_pairs : (f : Answers) {paths : List (List (List ℕ))} {old new : List Entry} (os : List Opened) (all_open : OpensAll c defined Open paths old new (Ok os)) → AgreesAll f c defined all_open → (path : List (List ℕ)) → HasPairs f paths os path
    opens_pairs f [] none_left agrees path = elsewhere refl (λ k. absurd (let lt = k.1 in omega (arith, lt)))
    opens_pairs f (o ∷ os) (one_more {path = at} {paths = others} one rest) agrees path = by_path (same_path o.path path) refl (one_pairs f o one agrees.0) (opens_pairs f os rest agrees.1 path)
      where
        not_here : same_path o.path path ≡ false → o.path ≡ at → (Contains others path → ⊥) → Contains (at ∷ others) path → ⊥
        not_here t is none k = none (Contains-tail at others path (λ e. let same : same_path o.path path ≡ true = (slice_eq-Decides bytes_eq-Decides o.path path _ refl).1 (is ∙ e) in absurd (cc)) k)

        by_path : (b : Bool) → same_path o.path path ≡ b → (o.path ≡ at) × (o.pairs ≡ dotenv_at c defined f at) → HasPairs f others os path → HasPairs f (at ∷ others) (o ∷ os) path
        by_path true t h rest_has = answered (ap (λ b. cond b o.pairs (pairs_at path os)) t ∙ (h.1 ∙ ap (dotenv_at c defined f) (sym h.0 ∙ paths_same o.path path t)))
        by_path false t h (answered e) = answered (ap (λ b. cond b o.pairs (pairs_at path os)) t ∙ e)
        by_path false t h (elsewhere e none) = elsewhere (ap (λ b. cond b o.pairs (pairs_at path os)) t ∙ e) (not_here t h.0 none)

-- Where the opening agrees with the answers, and no module is elsewhere, modules' pairs are those that are answered.
pub pairs_answered : (c : Configuration) (defined : Definitions) (f : Answers) (Open : VariableName → Type 0) {old new : List Entry} (os : List Opened) (all_open : OpensAll c defined Open (paths_of defined.modules) old new (Ok os)) → AgreesAll f c defined all_open
    → ((path : List (List ℕ)) (row : ModuleRow) → defined.inside path ≡ Some row → Contains (paths_of defined.modules) path) → (path : List (List ℕ)) → pairs_at path os ≡ dotenv_at c defined f path
pairs_answered c defined f Open os all_open agrees there path = by_case (opens_pairs c defined Open f os all_open agrees path)
  where
    nothing_asked : (o : Option ModuleRow) → defined.inside path ≡ o → (Contains (paths_of defined.modules) path → ⊥) → [] ≡ in_module c defined f [] o (λ r. pairs_asked c defined f r.request)
    nothing_asked None e none = refl
    nothing_asked (Some row) e none = absurd (none (there path row e))

    by_case : HasPairs c defined Open f (paths_of defined.modules) os path → pairs_at path os ≡ dotenv_at c defined f path
    by_case (answered e) = e
    by_case (elsewhere e none) = e ∙ nothing_asked (defined.inside path) refl none
