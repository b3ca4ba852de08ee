-- An opening that agrees with answers is refused exactly where the answers refuse it, and else holds what variables mean.
use Rattle.std.proofs.Common.{◌≡◌, ℕ, ◌+◌, List, [], ◌∷◌, ◌++◌, Bool, true, false, cond, Option, Some, None, Result, Ok, Err, ◌⊎◌, inl, inr, refl, sym, ap, ◌∙◌, subst, arith}
use Rattle.std.specs.Prelude.{Contains}
use Rattle.std.proofs.lemmas.List.{append_cancel_left}
use Rattle.std.proofs.lemmas.Slice.Eq.{slice_eq-Decides, bytes_eq-Decides}
use Rattle.just_host.specs.declared.entry.Entry.{Entry}
use Rattle.just_host.specs.declared.entry.Entry.TheVariants.{Dotenv}
use Rattle.just_host.specs.declared.host.HostFault.{HostFault}
use Rattle.just_host.specs.declared.job.DotenvRequest.{DotenvRequest}
use Rattle.just_host.specs.declared.job.Pair.{Pair}
use Rattle.meaning_dialogues.specs.Faults.{Fault}
use Rattle.meaning_dialogues.specs.Dialogue.{around}
use Rattle.meaning_dialogues.specs.Evaluation.{Value}
use Rattle.meaning_runs.specs.Told.{Answers, AgreesThere, of_variables}
use Rattle.meaning_evaluation.specs.Named.{RecipeName, VariableName, ModuleRow, Definitions, paths_of}
use Rattle.meaning_evaluation.specs.Scopes.{Configuration}
use Rattle.laws_evaluation.specs.Opening.Opened.{Means}
use Rattle.meaning_evaluation.specs.Requests.{OpeningFailure, dotenv, opening, Requests, unasked, told, refused as request_refused}
use Rattle.just_meaning.specs.Agreement.{AgreesFrom, AgreesFills, AgreesOne, AgreesAll}
use Rattle.just_meaning.specs.Opening.{Held, Opened, named, held, exported_names, Fills, OpensOne, not_told, opened, refused, OpensAll, none_left, one_more, fault_here, fault_later, IsOpened}
use Rattle.just_meaning.specs.Runs.{same_path, values_at}
use Rattle.just_meaning.specs.Meanings.{pairs_told, pairs_asked, side_at, RefusesOpening, by_request, by_variable}
use Rattle.laws_agreement.specs.Agreement.Opened.{AreListed, IsHeldMeant}
use Rattle.laws_agreement.proofs.Agreement.Openings.{paths_same}
use Rattle.laws_agreement.specs.Certain.Certain.{AreCertainVariables}
use Rattle.laws_agreement.proofs.Determined.Filling.{fills_names}
use Rattle.laws_agreement.proofs.Determined.Held.{held_some}
use Rattle.laws_agreement.proofs.Determined.Openings.{run_variables}
use Rattle.meaning_rules.proofs.Worlds.Places.{contains_cases, contains_first, contains_later, contains_none}
use Rattle.just_meaning.specs.Naively.{GivesFault, of_request, of_variable}
use Rattle.laws_naive.proofs.Naive.Filled.{FillsMeant, fills_meant}

-- equal paths are found to be the same
same_path_of : (a b : List (List ℕ)) → a ≡ b → same_path a b ≡ true
same_path_of a b e = (slice_eq-Decides bytes_eq-Decides a b _ refl).1 e

module _ (f : Answers) (c : Configuration) (defined : Definitions) (invoked : List RecipeName) where
  abbrev Open : VariableName → Type 0
  Open = IsOpened defined c.no_dependencies invoked

  abbrev MeansAt : List (List ℕ) → List ℕ → Result Value Fault → Type 0
  MeansAt path name r = Means (side_at c defined f path) (of_variables f (exported_names defined path)) (record { name = name; number = None }) r

  -- each variable of the module that opens is held with what it means
  pub record IsHeldAt (path : List (List ℕ)) (values : List Held) (x : List ℕ) : Type 0 where
    pub value : Value
    pub holds : held x values ≡ Some value
    pub means : MeansAt path x (Ok value)

  abbrev HoldsAll : List (List ℕ) → List Held → Type 0
  HoldsAll path values = (x : List ℕ) → Open (named path x) → IsHeldAt path values x

  -- the module's request is not answered with a fault
  abbrev IsUnrefused : List (List ℕ) → Type 0
  IsUnrefused path = (row : ModuleRow) (request : DotenvRequest) (fault : HostFault) → defined.inside path ≡ Some row → row.request ≡ Some request → f.dotenv request ≡ Some (Err fault) → ⊥

  abbrev Refuses : (List (List ℕ) → Type 0) → Type 0
  Refuses = RefusesOpening c defined f invoked

  -- and gives this fault
  abbrev Gives : (List (List ℕ) → Type 0) → OpeningFailure → Type 0
  Gives = GivesFault f c defined invoked

  gives_more : (P Q : List (List ℕ) → Type 0) → ((path : List (List ℕ)) → P path → Q path) → (failure : OpeningFailure) → Gives P failure → Gives Q failure
  gives_more P Q up (dotenv fault) (of_request {path = path} at inside asks told_so) = of_request (up path at) inside asks told_so
  gives_more P Q up (opening fault) (of_variable {x = x} at opens means) = of_variable (up x.path at) opens means

  -- ---- requests

  abbrev IsToldBy : Option DotenvRequest → Result (List Pair) OpeningFailure → Type 0
  IsToldBy o (Ok pairs) = (pairs ≡ pairs_asked c defined f o) × ((request : DotenvRequest) (fault : HostFault) → o ≡ Some request → f.dotenv request ≡ Some (Err fault) → ⊥)
  IsToldBy o (Err failure) = (request : DotenvRequest) × (fault : HostFault) × (o ≡ Some request) × (f.dotenv request ≡ Some (Err fault)) × (dotenv fault ≡ failure)

  the_answer : (names : List (List ℕ)) (request : DotenvRequest) (answer : Result (List Pair) HostFault) (old new : List Entry) → new ≡ old ++ Dotenv request answer ∷ [] → AgreesFrom f names old new → f.dotenv request ≡ Some answer
  the_answer names request answer old new entries agrees =
      let piece : Dotenv request answer ∷ [] ≡ agrees.piece = append_cancel_left old _ _ (sym entries ∙ agrees.entries) in
      let there : (f.dotenv request ≡ Some answer) × Unit {0} = subst (AgreesThere f names) (sym piece) agrees.agrees in
      there.0

  request_told : (names : List (List ℕ)) (o : Option DotenvRequest) (old new : List Entry) (r : Result (List Pair) OpeningFailure) → Requests o old new r → AgreesFrom f names old new → IsToldBy o r
  request_told names None old new r unasked agrees = (refl, λ request fault e g. absurd (cc))
  request_told names (Some request) old new r (told {pairs = pairs} entries) agrees =
      let e = the_answer names request (Ok pairs) old new entries agrees in
      (sym (ap (pairs_told c defined f) e), λ other fault same g. absurd (let h : f.dotenv request ≡ Some (Err fault) = subst (λ o. f.dotenv o ≡ Some (Err fault)) (let k : other ≡ request = cc in k) g in cc))
  request_told names (Some request) old new r (request_refused {fault = fault} entries) agrees = (request, fault, refl, the_answer names request (Err fault) old new entries agrees, refl)

  module _ (listed : AreListed defined) (certain : AreCertainVariables defined Open) where
    -- ---- one module

    abbrev OneMeans : List (List ℕ) → Result Opened OpeningFailure → Type 0
    OneMeans path (Ok o) = (o.path ≡ path) × HoldsAll path o.values × IsUnrefused path
    OneMeans path (Err failure) = Gives (λ p. path ≡ p) failure

    unrefused : (path : List (List ℕ)) (row : ModuleRow) → defined.inside path ≡ Some row → ((request : DotenvRequest) (fault : HostFault) → row.request ≡ Some request → f.dotenv request ≡ Some (Err fault) → ⊥) → IsUnrefused path
    unrefused path row inside none other request fault e asks told_so = none request fault (subst (λ (m : ModuleRow). m.request ≡ Some request) (let k : other ≡ row = cc in k) asks) told_so

    -- variables in order, with the pairs that are answered
    filled_meant : (path : List (List ℕ)) (row : ModuleRow) (inside : defined.inside path ≡ Some row) (pairs : List Pair) → pairs ≡ pairs_asked c defined f row.request → (names : List (List ℕ)) (order : _) (mid new : List Entry) (r : Result (List Held) Fault)
        → (fills : Fills c defined path row pairs [] names mid new r) → AgreesFills f c defined fills → FillsMeant f c defined path row inside Open listed (run_variables defined c.no_dependencies invoked) certain names order r
    filled_meant path row inside pairs e names order mid new r fills agrees =
        let s : (g : Fills c defined path row (pairs_asked c defined f row.request) [] names mid new r) × AgreesFills f c defined g =
        subst (λ p. (g : Fills c defined path row p [] names mid new r) × AgreesFills f c defined g) e (fills, agrees) in
        fills_meant f c defined path row inside Open listed (run_variables defined c.no_dependencies invoked) certain names order [] [] names refl refl (λ x v h. absurd (cc)) mid new r s.0 s.1

    one_means : (path : List (List ℕ)) (old new : List Entry) (r : Result Opened OpeningFailure) (one : OpensOne c defined Open path old new r) → AgreesOne f c defined one → OneMeans path r
    one_means path old new r (not_told {row = row} {fault = fault} inside request) agrees =
        let t = request_told (exported_names defined path) row.request old new (Err fault) request agrees in
        subst (Gives (λ p. path ≡ p)) t.4 (of_request {path = path} {row = row} {request = t.0} {fault = t.1} refl inside t.2 t.3)
    one_means path old new r (opened {row = row} {mid = mid} {pairs = pairs} {names = names} {values = values} inside request order fills) agrees =
        let t = request_told (exported_names defined path) row.request old mid (Ok pairs) request agrees.0 in
        let m = filled_meant path row inside pairs t.0 names order mid new (Ok values) fills agrees.1 in (
          refl,
          (λ x opens.
              let h = held_some x values (subst (λ l. Contains l x) (sym (fills_names f c defined path row pairs [] names mid new values fills)) (order.all x opens)) in
              record { value = h.0; holds = h.1; means = m x h.0 h.1 }),
          unrefused path row inside t.1,
        )
    one_means path old new r (refused {row = row} {mid = mid} {pairs = pairs} {names = names} {fault = fault} inside request order fills) agrees =
        let t = request_told (exported_names defined path) row.request old mid (Ok pairs) request agrees.0 in
        let m = filled_meant path row inside pairs t.0 names order mid new (Err fault) fills agrees.1 in
        of_variable {x = named path m.0} refl (order.only m.0 m.1) (record { deep = m.2.deep; is = λ n le. m.2.is n around le })

    -- ---- all modules

    abbrev AllMean : List (List (List ℕ)) → Result (List Opened) OpeningFailure → Type 0
    AllMean paths (Ok os) = (path : List (List ℕ)) → Contains paths path → HoldsAll path (values_at path os) × IsUnrefused path
    AllMean paths (Err failure) = Gives (λ path. Contains paths path) failure

    pub opening_means : (paths : List (List (List ℕ))) (old new : List Entry) (r : Result (List Opened) OpeningFailure) (opens : OpensAll c defined Open paths old new r) → AgreesAll f c defined opens → AllMean paths r
    opening_means [] old new r none_left agrees = λ path there. absurd (contains_none [] path refl there)
    opening_means (at ∷ paths) old new r (one_more {mid = mid} {o = o} {os = os} one others) agrees = λ path there.
        by_path path (same_path o.path path) refl (one_means at old mid (Ok o) one agrees.0) (contains_cases at paths path there) (opening_means paths mid new (Ok os) others agrees.1 path)
      where
        by_path : (path : List (List ℕ)) (b : Bool) → same_path o.path path ≡ b → (o.path ≡ at) × HoldsAll at o.values × IsUnrefused at → (at ≡ path) ⊎ Contains paths path → (Contains paths path → HoldsAll path (values_at path os) × IsUnrefused path)
            → HoldsAll path (cond b o.values (values_at path os)) × IsUnrefused path
        by_path path true t h place later = let e : at ≡ path = sym h.0 ∙ paths_same o.path path t in (subst (λ p. HoldsAll p o.values) e h.1, subst IsUnrefused e h.2)
        by_path path false t h (inl e) later = absurd (let s : same_path o.path path ≡ true = same_path_of o.path path (h.0 ∙ e) in cc)
        by_path path false t h (inr k) later = later k
    opening_means (at ∷ paths) old new r (fault_here {fault = fault} one) agrees = gives_more (λ p. at ≡ p) (λ p. Contains (at ∷ paths) p) (λ p e. subst (Contains (at ∷ paths)) e (contains_first at paths)) fault (one_means at old new (Err fault) one agrees)
    opening_means (at ∷ paths) old new r (fault_later {mid = mid} {o = o} {fault = fault} one others) agrees =
        gives_more (λ p. Contains paths p) (λ p. Contains (at ∷ paths) p) (λ p k. contains_later at paths p k) fault (opening_means paths mid new (Err fault) others agrees.1)

    -- ---- after an opening

    module _ (os : List Opened) (mean : AllMean (paths_of defined.modules) (Ok os)) where
      -- what opened is held with what it means
      pub held_meant : (x : VariableName) → Contains (paths_of defined.modules) x.path → Open x → IsHeldMeant c defined f os x
      held_meant x there opens = let h = (mean x.path there).0 x.name opens in record { value = h.value; holds = h.holds; means = record { deep = h.means.deep; is = λ n le. h.means.is n around le } }

      -- and the answers don't refuse it
      pub not_refused : Refuses (λ path. Contains (paths_of defined.modules) path) → ⊥
      not_refused (by_request {path = path} {row = row} {request = request} {fault = fault} there inside asks told_so) = (mean path there).1 row request fault inside asks told_so
      not_refused (by_variable {x = x} {fault = fault} there opens means) =
          let h = (mean x.path there).0 x.name opens in
          let a = h.means.is (h.means.deep + means.deep) around (omega arith) in
          let b = means.is (h.means.deep + means.deep) (omega arith) in
          cc
