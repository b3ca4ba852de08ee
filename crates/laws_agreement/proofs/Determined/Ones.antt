-- One module opens alike in two openings that agree with one set of answers.
use Rattle.std.proofs.Common.{◌≡◌, ℕ, List, [], ◌∷◌, ◌++◌, true, Option, Some, None, Result, Ok, Err, refl, sym, ap, ◌∙◌, subst}
use Rattle.std.proofs.lemmas.List.{append_cancel_left}
use Rattle.std.specs.Option.{option_map}
use Rattle.std.specs.Str.{bytes_eq}
use Rattle.just_host.specs.declared.entry.Entry.{Entry}
use Rattle.just_host.specs.declared.entry.Entry.TheVariants.{Dotenv}
use Rattle.just_host.specs.declared.host.HostFault.{HostFault}
use Rattle.just_host.specs.declared.job.DotenvRequest.{DotenvRequest}
use Rattle.just_host.specs.declared.job.Pair.{Pair}
use Rattle.meaning_dialogues.specs.Faults.{Fault}
use Rattle.meaning_runs.specs.Counts.{each_once}
use Rattle.meaning_runs.specs.Told.{Answers, AgreesThere}
use Rattle.meaning_evaluation.specs.Named.{VariableName, ModuleRow, Definitions}
use Rattle.meaning_evaluation.specs.Scopes.{Configuration}
use Rattle.just_meaning.specs.Agreement.{AgreesFrom, AgreesOne}
use Rattle.just_meaning.specs.Opening.{Held, held, reading_in, pairs_of, exported_names, side_dialogue, scene_in, Opened, Fills, all, has_value, has_none, OpensOne, not_told, opened, refused}
use Rattle.meaning_evaluation.specs.Requests.{OpeningFailure, dotenv, Requests, unasked, told}
use Rattle.meaning_evaluation.specs.Requests as requests
use Rattle.laws_agreement.specs.Agreement.Opened.{AreListed}
use Rattle.laws_agreement.specs.Determined.Fit.{AreFit, AreVariables}
use Rattle.laws_agreement.proofs.Determined.Dialogues.{GrowsQuietly, quiet_nothing, quiet_then, dialogue_quiet}
use Rattle.laws_agreement.proofs.Determined.Held.{names_of}
use Rattle.laws_agreement.proofs.Determined.Filling.{fills_names, follows, holds_both}

-- the same module with the same pairs, where every name is held alike
pub record OneAlike (o o' : Opened) : Type 0 where
  pub path : o.path ≡ o'.path
  pub pairs : o.pairs ≡ o'.pairs
  pub holds : (x : List ℕ) → held x o.values ≡ held x o'.values
  pub once : each_once bytes_eq (names_of o.values) ≡ true
  pub once' : each_once bytes_eq (names_of o'.values) ≡ true

-- both ends are modules that are opened alike, or both are refusals
abbrev pub EndAlike : Result Opened OpeningFailure → Result Opened OpeningFailure → Type 0
EndAlike (Ok o) (Ok o') = OneAlike o o'
EndAlike (Ok o) (Err fault) = ⊥
EndAlike (Err fault) (Ok o) = ⊥
EndAlike (Err fault) (Err fault') = Unit {0}

-- ---- what modules ask for

abbrev told_as : Result (List Pair) HostFault → Result (List Pair) OpeningFailure
told_as (Ok pairs) = Ok pairs
told_as (Err fault) = Err (dotenv fault)

module _ (f : Answers) where
  abbrev answered : Option DotenvRequest → Option (Result (List Pair) OpeningFailure)
  answered None = Some (Ok [])
  answered (Some request) = option_map told_as (f.dotenv request)

  first_told : (names : List (List ℕ)) (old new : List Entry) (request : DotenvRequest) (r : Result (List Pair) HostFault) → new ≡ old ++ Dotenv request r ∷ [] → AgreesFrom f names old new → f.dotenv request ≡ Some r
  first_told names old new request r entries agrees =
      let piece : Dotenv request r ∷ [] ≡ agrees.piece = append_cancel_left old _ _ (sym entries ∙ agrees.entries) in
      let there : (f.dotenv request ≡ Some r) × Unit {0} = subst (AgreesThere f names) (sym piece) agrees.agrees in
      there.0

  -- it is what is answered
  request_told : (names : List (List ℕ)) (o : Option DotenvRequest) (old new : List Entry) (r : Result (List Pair) OpeningFailure) → Requests o old new r → AgreesFrom f names old new → answered o ≡ Some r
  request_told names None old new r unasked agrees = refl
  request_told names (Some request) old new r (told {pairs = pairs} entries) agrees = ap (option_map told_as) (first_told names old new request (Ok pairs) entries agrees)
  request_told names (Some request) old new r (requests.refused {fault = fault} entries) agrees = ap (option_map told_as) (first_told names old new request (Err fault) entries agrees)

request_quiet : (o : Option DotenvRequest) (old new : List Entry) (r : Result (List Pair) OpeningFailure) → Requests o old new r → GrowsQuietly old new
request_quiet None old new r unasked = quiet_nothing old new refl
request_quiet (Some request) old new r (told entries) = record { piece = _; entries = entries; quiet = refl }
request_quiet (Some request) old new r (requests.refused entries) = record { piece = _; entries = entries; quiet = refl }

-- ---- one module

module _ (c : Configuration) (defined : Definitions) where
  fills_quiet : (path : List (List ℕ)) (row : ModuleRow) (pairs : List Pair) (hs : List Held) (names : List (List ℕ)) (old new : List Entry) (r : Result (List Held) Fault) → Fills c defined path row pairs hs names old new r → GrowsQuietly old new
  fills_quiet path row pairs hs [] old new r all = quiet_nothing old new refl
  fills_quiet path row pairs hs (name ∷ names) old new r (has_value {mid = mid} {side = side} value stands goes others) =
      quiet_then (dialogue_quiet (reading_in hs) (side_dialogue c (scene_in c defined path row pairs (pairs_of defined path hs)) side) old mid (Ok value) goes)
      (fills_quiet path row pairs (hs ++ record { name = name; value = value } ∷ []) names mid new r others)
  fills_quiet path row pairs hs (name ∷ names) old new r (has_none {side = side} {fault = fault} stands goes) =
      dialogue_quiet (reading_in hs) (side_dialogue c (scene_in c defined path row pairs (pairs_of defined path hs)) side) old new (Err fault) goes

  -- A module opens without an event.
  pub one_quiet : (Open : VariableName → Type 0) (path : List (List ℕ)) (old new : List Entry) (r : Result Opened OpeningFailure) → OpensOne c defined Open path old new r → GrowsQuietly old new
  one_quiet Open path old new r (not_told {row = row} {fault = fault} inside request) = request_quiet row.request old new (Err fault) request
  one_quiet Open path old new r (opened {row = row} {mid = mid} {pairs = pairs} {names = names} {values = values} inside request order fills) =
      quiet_then (request_quiet row.request old mid (Ok pairs) request) (fills_quiet path row pairs [] names mid new (Ok values) fills)
  one_quiet Open path old new r (refused {row = row} {mid = mid} {pairs = pairs} {names = names} {fault = fault} inside request order fills) =
      quiet_then (request_quiet row.request old mid (Ok pairs) request) (fills_quiet path row pairs [] names mid new (Err fault) fills)

  module _ (f : Answers) (Open : VariableName → Type 0) (listed : AreListed defined) (variables : AreVariables defined Open) (fit : AreFit defined Open) (path : List (List ℕ)) where
    same_row : (row row' : ModuleRow) → defined.inside path ≡ Some row → defined.inside path ≡ Some row' → row ≡ row'
    same_row row row' e g = let h = sym e ∙ g in cc

    same_told : (row row' : ModuleRow) (old new old' new' : List Entry) (r r' : Result (List Pair) OpeningFailure) → defined.inside path ≡ Some row → defined.inside path ≡ Some row' → Requests row.request old new r → Requests row'.request old' new' r'
        → AgreesFrom f (exported_names defined path) old new → AgreesFrom f (exported_names defined path) old' new' → r ≡ r'
    same_told row row' old new old' new' r r' e g request request' a b =
        let i : answered f row.request ≡ Some r = request_told f (exported_names defined path) row.request old new r request a in
        let j : answered f row'.request ≡ Some r' = request_told f (exported_names defined path) row'.request old' new' r' request' b in
        let k : Some r ≡ Some r' = sym i ∙ (ap (λ m. answered f m.request) (same_row row row' e g) ∙ j) in
        cc

    -- It opens alike.
    pub one_once : (old new : List Entry) (r : Result Opened OpeningFailure) (one : OpensOne c defined Open path old new r) → AgreesOne f c defined one
        → (old' new' : List Entry) (r' : Result Opened OpeningFailure) (one' : OpensOne c defined Open path old' new' r') → AgreesOne f c defined one' → EndAlike r r'
    one_once old new r (not_told {row = row} {fault = fault} inside request) a old' new' r' (not_told inside' request') b = tt
    one_once old new r (not_told {row = row} {fault = fault} inside request) a old' new' r' (opened {row = row'} {mid = mid'} {pairs = pairs'} inside' request' order' fills') b =
        let e : Err fault ≡ Ok pairs' = same_told row row' old new old' mid' (Err fault) (Ok pairs') inside inside' request request' a b.0 in absurd (cc)
    one_once old new r (not_told {row = row} {fault = fault} inside request) a old' new' r' (refused inside' request' order' fills') b = tt
    one_once old new r (opened {row = row} {mid = mid} {pairs = pairs} inside request order fills) a old' new' r' (not_told {row = row'} {fault = fault} inside' request') b =
        let e : Ok pairs ≡ Err fault = same_told row row' old mid old' new' (Ok pairs) (Err fault) inside inside' request request' a.0 b in absurd (cc)
    one_once old new r (opened {row = row} {mid = mid} {pairs = pairs} {names = names} {values = values} inside request order fills) a old' new' r' (opened {row = row'} {mid = mid'} {pairs = pairs'} {names = names'} {values = values'} inside' request' order' fills') b =
        let told_pairs : Ok pairs ≡ Ok pairs' = same_told row row' old mid old' mid' (Ok pairs) (Ok pairs') inside inside' request request' a.0 b.0 in
        let same_pairs : pairs ≡ pairs' = cc in
        let same = same_row row row' inside inside' in
        let s = follows f c defined path Open listed variables fit row row' pairs pairs' same same_pairs names names' order order' mid new values fills a.1
        [] [] names' refl refl (λ x v e. absurd (cc)) mid' new' (Ok values') fills' b.1 in
        let ends : Ok values' ≡ Ok s.values = s.is in
        let values_are : s.values ≡ values' = cc in
        record {
          path = refl;
          pairs = same_pairs;
          holds = λ x. holds_both f c defined path Open listed variables fit row row' pairs pairs' same same_pairs names names' order order' mid new values fills a.1 (Ok values') s x ∙ ap (held x) values_are;
          once = ap (each_once bytes_eq) (fills_names f c defined path row pairs [] names mid new values fills) ∙ order.once;
          once' = ap (each_once bytes_eq) (fills_names f c defined path row' pairs' [] names' mid' new' values' fills') ∙ order'.once;
        }
    one_once old new r (opened {row = row} {mid = mid} {pairs = pairs} {names = names} {values = values} inside request order fills) a old' new' r' (refused {row = row'} {mid = mid'} {pairs = pairs'} {names = names'} {fault = fault} inside' request' order' fills') b =
        let told_pairs : Ok pairs ≡ Ok pairs' = same_told row row' old mid old' mid' (Ok pairs) (Ok pairs') inside inside' request request' a.0 b.0 in
        let same_pairs : pairs ≡ pairs' = cc in
        let s = follows f c defined path Open listed variables fit row row' pairs pairs' (same_row row row' inside inside') same_pairs names names' order order' mid new values fills a.1
        [] [] names' refl refl (λ x v e. absurd (cc)) mid' new' (Err fault) fills' b.1 in
        absurd (let ends : Err fault ≡ Ok s.values = s.is in cc)
    one_once old new r (refused inside request order fills) a old' new' r' (not_told inside' request') b = tt
    one_once old new r (refused {row = row} {mid = mid} {pairs = pairs} {names = names} {fault = fault} inside request order fills) a old' new' r' (opened {row = row'} {mid = mid'} {pairs = pairs'} {names = names'} {values = values'} inside' request' order' fills') b =
        let told_pairs : Ok pairs' ≡ Ok pairs = same_told row' row old' mid' old mid (Ok pairs') (Ok pairs) inside' inside request' request b.0 a.0 in
        let same_pairs : pairs' ≡ pairs = cc in
        let s = follows f c defined path Open listed variables fit row' row pairs' pairs (same_row row' row inside' inside) same_pairs names' names order' order mid' new' values' fills' b.1
        [] [] names refl refl (λ x v e. absurd (cc)) mid new (Err fault) fills a.1 in
        absurd (let ends : Err fault ≡ Ok s.values = s.is in cc)
    one_once old new r (refused inside request order fills) a old' new' r' (refused inside' request' order' fills') b = tt
