-- A run agrees with answers that hold all that it records.
use Rattle.std.proofs.Common.{◌≡◌, ℕ, List, [], ◌∷◌, ◌++◌, append-nil, Option, Some, None, Result, Ok, Err, sym, ◌∙◌, subst}
use Rattle.std.specs.List.{AllByRecursion}
use Rattle.std.proofs.lemmas.List.{append_cancel_left}
use Rattle.just_host.specs.declared.entry.Entry.{Entry}
use Rattle.just_host.specs.declared.job.DotenvRequest.{DotenvRequest}
use Rattle.just_host.specs.declared.job.Pair.{Pair}
use Rattle.meaning_dialogues.specs.Faults.{Fault}
use Rattle.meaning_dialogues.proofs.Unfolding.{extends}
use Rattle.meaning_runs.specs.Told.{Answers, holds, of_variables}
use Rattle.meaning_runs.proofs.Pieces.{grown}
use Rattle.meaning_evaluation.specs.Named.{VariableName, ModuleRow, Definitions, paths_of}
use Rattle.meaning_evaluation.specs.Scopes.{Configuration}
use Rattle.meaning_evaluation.specs.Calling.{acts}
use Rattle.meaning_evaluation.specs.Requests.{OpeningFailure, Requests, unasked, told, refused as request_refused}
use Rattle.just_meaning.specs.Agreement.{AgreesFrom, AgreesFills, AgreesOne, AgreesAll}
use Rattle.just_meaning.specs.Opening.{Held, Opened, exported_names, reading_in, side_dialogue, scene_in, pairs_of, Fills, all, has_value, has_none, OpensOne, not_told, opened, refused, OpensAll, none_left, one_more, fault_here, fault_later, IsOpened}
use Rattle.just_meaning.specs.Runs.{ground_of, reading_at}
use Rattle.just_meaning.specs.Runs as runs
use Rattle.laws_agreement.proofs.Agreement.Lists.{all_more}
use Rattle.laws_agreement.proofs.Determined.Ones.{one_quiet}
use Rattle.laws_agreement.proofs.Determined.Openings.{all_quiet}
use Rattle.laws_agreement.proofs.Determined.Passing.{passed}
use Rattle.just_meaning.specs.Naively.{HoldEverywhere}
use Rattle.laws_naive.specs.Naive.Laws.{RecordsAgree}
use Rattle.just_meaning.specs.Runs.{recipes_of}

-- one record begins with the other
record Grows (old new : List Entry) : Type 0 where
  pub piece : List Entry
  pub entries : new ≡ old ++ piece

all_first : (P : Entry → Type 0) (xs ys : List Entry) → AllByRecursion P (xs ++ ys) → AllByRecursion P xs
all_first P [] ys h = tt
all_first P (x ∷ xs) ys h = (h.0, all_first P xs ys h.1)

all_rest : (P : Entry → Type 0) (xs ys : List Entry) → AllByRecursion P (xs ++ ys) → AllByRecursion P ys
all_rest P [] ys h = h
all_rest P (x ∷ xs) ys h = all_rest P xs ys h.1

module _ (f : Answers) (c : Configuration) (defined : Definitions) where
  -- what was recorded between holds
  abbrev Told : List Entry → List Entry → Type 0
  Told old new = (piece : List Entry) → new ≡ old ++ piece → AllByRecursion (HoldEverywhere f defined) piece

  first_told : (old mid new : List Entry) → Grows mid new → Told old new → Told old mid
  first_told old mid new g h piece e = all_first (HoldEverywhere f defined) piece g.piece (h (piece ++ g.piece) (grown old piece g.piece e g.entries))

  rest_told : (old mid new : List Entry) → Grows old mid → Told old new → Told mid new
  rest_told old mid new g h piece e = all_rest (HoldEverywhere f defined) g.piece piece (h (g.piece ++ piece) (grown old g.piece piece g.entries e))

  from_told : (path : List (List ℕ)) (old new : List Entry) → Grows old new → Told old new → AgreesFrom f (exported_names defined path) old new
  from_told path old new g h = record {
    piece = g.piece;
    entries = g.entries;
    agrees = all_more (HoldEverywhere f defined) (holds f (of_variables f (exported_names defined path))) (λ e k. k.1 path) g.piece (h g.piece g.entries);
  }

  request_grows : (o : Option DotenvRequest) (old new : List Entry) (r : Result (List Pair) OpeningFailure) → Requests o old new r → Grows old new
  request_grows None old new r unasked = record { piece = []; entries = sym (append-nil old) }
  request_grows (Some request) old new r (told entries) = record { piece = _; entries = entries }
  request_grows (Some request) old new r (request_refused entries) = record { piece = _; entries = entries }

  module _ (path : List (List ℕ)) (row : ModuleRow) (pairs : List Pair) where
    fills_grow : (hs : List Held) (names : List (List ℕ)) (old new : List Entry) (r : Result (List Held) Fault) → Fills c defined path row pairs hs names old new r → Grows old new
    fills_grow hs [] old new r all = record { piece = []; entries = sym (append-nil old) }
    fills_grow hs (name ∷ names) old new r (has_value {mid = mid} {side = side} value stands goes others) =
        let a = extends (reading_in hs) (side_dialogue c (scene_in c defined path row pairs (pairs_of defined path hs)) side) old mid (Ok value) goes in
        let b = fills_grow (hs ++ (record { name = name; value = value }) ∷ []) names mid new r others in
        record { piece = a.0 ++ b.piece; entries = grown old a.0 b.piece a.1 b.entries }
    fills_grow hs (name ∷ names) old new r (has_none {side = side} {fault = fault} stands goes) =
        let a = extends (reading_in hs) (side_dialogue c (scene_in c defined path row pairs (pairs_of defined path hs)) side) old new (Err fault) goes in
        record { piece = a.0; entries = a.1 }

    fills_agree : (hs : List Held) (names : List (List ℕ)) (old new : List Entry) (r : Result (List Held) Fault) (fills : Fills c defined path row pairs hs names old new r) → Told old new → AgreesFills f c defined fills
    fills_agree hs [] old new r all h = tt
    fills_agree hs (name ∷ names) old new r (has_value {mid = mid} {side = side} value stands goes others) h =
        let a = extends (reading_in hs) (side_dialogue c (scene_in c defined path row pairs (pairs_of defined path hs)) side) old mid (Ok value) goes in
        let g : Grows old mid = record { piece = a.0; entries = a.1 } in
        (from_told path old mid g (first_told old mid new (fills_grow (hs ++ (record { name = name; value = value }) ∷ []) names mid new r others) h), fills_agree (hs ++ (record { name = name; value = value }) ∷ []) names mid new r others (rest_told old mid new g h))
    fills_agree hs (name ∷ names) old new r (has_none {side = side} {fault = fault} stands goes) h =
        let a = extends (reading_in hs) (side_dialogue c (scene_in c defined path row pairs (pairs_of defined path hs)) side) old new (Err fault) goes in
        let g : Grows old new = record { piece = a.0; entries = a.1 } in
        from_told path old new g h

  module _ (Open : VariableName → Type 0) where
    one_agrees : (path : List (List ℕ)) (old new : List Entry) (r : Result Opened OpeningFailure) (one : OpensOne c defined Open path old new r) → Told old new → AgreesOne f c defined one
    one_agrees path old new r (not_told {row = row} {fault = fault} inside request) h = from_told path old new (request_grows row.request old new (Err fault) request) h
    one_agrees path old new r (opened {row = row} {mid = mid} {pairs = pairs} {names = names} {values = values} inside request order fills) h =
        let g = request_grows row.request old mid (Ok pairs) request in
        (from_told path old mid g (first_told old mid new (fills_grow path row pairs [] names mid new (Ok values) fills) h), fills_agree path row pairs [] names mid new (Ok values) fills (rest_told old mid new g h))
    one_agrees path old new r (refused {row = row} {mid = mid} {pairs = pairs} {names = names} {fault = fault} inside request order fills) h =
        let g = request_grows row.request old mid (Ok pairs) request in
        (from_told path old mid g (first_told old mid new (fills_grow path row pairs [] names mid new (Err fault) fills) h), fills_agree path row pairs [] names mid new (Err fault) fills (rest_told old mid new g h))

    one_grows : (path : List (List ℕ)) (old new : List Entry) (r : Result Opened OpeningFailure) → OpensOne c defined Open path old new r → Grows old new
    one_grows path old new r one = let q = one_quiet c defined Open path old new r one in record { piece = q.piece; entries = q.entries }

    all_grow : (paths : List (List (List ℕ))) (old new : List Entry) (r : Result (List Opened) OpeningFailure) → OpensAll c defined Open paths old new r → Grows old new
    all_grow paths old new r opens = let q = all_quiet c defined Open paths old new r opens in record { piece = q.piece; entries = q.entries }

    all_agree : (paths : List (List (List ℕ))) (old new : List Entry) (r : Result (List Opened) OpeningFailure) (opens : OpensAll c defined Open paths old new r) → Told old new → AgreesAll f c defined opens
    all_agree [] old new r none_left h = tt
    all_agree (path ∷ paths) old new r (one_more {mid = mid} {o = o} {os = os} one others) h =
        (one_agrees path old mid (Ok o) one (first_told old mid new (all_grow paths mid new (Ok os) others) h), all_agree paths mid new (Ok os) others (rest_told old mid new (one_grows path old mid (Ok o) one) h))
    all_agree (path ∷ paths) old new r (fault_here {fault = fault} one) h = one_agrees path old new (Err fault) one h
    all_agree (path ∷ paths) old new r (fault_later {mid = mid} {o = o} {fault = fault} one others) h =
        (one_agrees path old mid (Ok o) one (first_told old mid new (all_grow paths mid new (Err fault) others) h), all_agree paths mid new (Err fault) others (rest_told old mid new (one_grows path old mid (Ok o) one) h))

  told_by : (old new piece : List Entry) → new ≡ old ++ piece → AllByRecursion (HoldEverywhere f defined) piece → Told old new
  told_by old new piece e h other g = subst (AllByRecursion (HoldEverywhere f defined)) (append_cancel_left old piece other (sym e ∙ g)) h

pub records_agree : (Rule : Type 0) → RecordsAgree Rule
records_agree Rule f c defined calls old new t outcome (runs.refused {fault = fault} opens) piece e h = all_agree f c defined (IsOpened defined c.no_dependencies (recipes_of calls)) (paths_of defined.modules) old new (Err fault) opens (told_by f c defined old new piece e h)
records_agree Rule f c defined calls old new t outcome (runs.opened {mid = mid} {opened = os} opens run) piece e h =
    let p = passed (acts (ground_of c defined os)) (reading_at c defined os) run.run in
    let g : Grows mid new = record { piece = p.piece; entries = p.entries } in
    let k = told_by f c defined old new piece e h in (
      all_agree f c defined (IsOpened defined c.no_dependencies (recipes_of calls)) (paths_of defined.modules) old mid (Ok os) opens (first_told f c defined old mid new g k),
      record {
        piece = p.piece;
        entries = p.entries;
        agrees = all_more (HoldEverywhere f defined) (holds f f.recipe) (λ x y. y.0) p.piece (rest_told f c defined old mid new (all_grow f c defined (IsOpened defined c.no_dependencies (recipes_of calls)) (paths_of defined.modules) old mid (Ok os) opens) k p.piece p.entries);
      },
    )
