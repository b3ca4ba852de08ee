-- What a run records, with the tags by which answers are looked up.
use Rattle.std.proofs.Common.{◌≡◌, ℕ, List, [], ◌∷◌, ◌++◌, map, append-nil, Option, Some, None, Result, Ok, Err, refl, sym, ap, ◌∙◌, subst}
use Rattle.std.specs.List.{AllByRecursion}
use Rattle.std.proofs.lemmas.List.{append_cancel_left}
use Rattle.just_host.specs.declared.entry.Entry.{Entry}
use Rattle.just_host.specs.declared.job.DotenvRequest.{DotenvRequest}
use Rattle.just_host.specs.declared.job.Pair.{Pair}
use Rattle.meaning_dialogues.specs.Faults.{Fault}
use Rattle.meaning_dialogues.proofs.Unfolding.{extends}
use Rattle.meaning_runs.specs.Told.{Answers, holds}
use Rattle.meaning_runs.proofs.Pieces.{grown}
use Rattle.meaning_evaluation.specs.Named.{VariableName, ModuleRow, Definitions, paths_of}
use Rattle.meaning_evaluation.specs.Scopes.{Configuration}
use Rattle.meaning_evaluation.specs.Calling.{acts}
use Rattle.meaning_evaluation.specs.Requests.{OpeningFailure, Requests, unasked, told as request_answered, refused as request_refused}
use Rattle.just_meaning.specs.Agreement.{AgreesFrom, AgreesBehind, AgreesFills, AgreesOne, AgreesAll}
use Rattle.just_meaning.specs.Opening.{Held, Opened, exported_names, reading_in, side_dialogue, scene_in, pairs_of, Fills, all, has_value, has_none, OpensOne, not_told, opened, refused, OpensAll, none_left, one_more, fault_here, fault_later, IsOpened}
use Rattle.just_meaning.specs.Runs.{ground_of, reading_at}
use Rattle.just_meaning.specs.Runs as runs
use Rattle.laws_agreement.proofs.Agreement.Lists.{all_append}
use Rattle.laws_agreement.proofs.Determined.Passing.{passed}
use Rattle.just_meaning.specs.Runs.{recipes_of}
use Rattle.laws_naive.specs.Agreeing.Answering.{AnsweredOnceGoNaively, HoldsTagged, RunsAreTagged, Tagged, asked_by}
use Rattle.laws_naive.proofs.Agreeing.Answering.{answers_are_there}
use Rattle.laws_naive.proofs.Naive.Ranks.{dependencies_fall}
use Rattle.laws_naive.proofs.Naive.Worlds.{invoked_go_naively}

abbrev entries_of : List Tagged → List Entry
entries_of told = map (λ x. x.entry) told

entries_append : (xs ys : List Tagged) → entries_of (xs ++ ys) ≡ entries_of xs ++ entries_of ys
entries_append [] ys = refl
entries_append (x ∷ xs) ys = ap (λ l. x.entry ∷ l) (entries_append xs ys)

all_first : {X : Type 0} (P : X → Type 0) (xs ys : List X) → AllByRecursion P (xs ++ ys) → AllByRecursion P xs
all_first P [] ys h = tt
all_first P (x ∷ xs) ys h = (h.0, all_first P xs ys h.1)

all_rest : {X : Type 0} (P : X → Type 0) (xs ys : List X) → AllByRecursion P (xs ++ ys) → AllByRecursion P ys
all_rest P [] ys h = h
all_rest P (x ∷ xs) ys h = all_rest P xs ys h.1

-- a part of a record with its tags, by which it agrees with just those answers that hold each entry
record Part (old new : List Entry) (Agrees : Answers → Type 0) : Type 0 where
  pub told : List Tagged
  pub entries : new ≡ old ++ entries_of told
  pub agrees : (f : Answers) → AllByRecursion (HoldsTagged f) told → Agrees f
  pub holds : (f : Answers) → Agrees f → AllByRecursion (HoldsTagged f) told

-- two parts are one
then : (old mid new : List Entry) (P Q : Answers → Type 0) → Part old mid P → Part mid new Q → Part old new (λ f. P f × Q f)
then old mid new P Q a b = record {
  told = a.told ++ b.told;
  entries = grown old (entries_of a.told) (entries_of b.told) a.entries b.entries ∙ ap (λ l. old ++ l) (sym (entries_append a.told b.told));
  agrees = λ f h. (a.agrees f (all_first (HoldsTagged f) a.told b.told h), b.agrees f (all_rest (HoldsTagged f) a.told b.told h));
  holds = λ f h. all_append (HoldsTagged f) a.told b.told (a.holds f h.0) (b.holds f h.1);
}

-- ---- what is told to one

tag : Option (List (List ℕ)) → List Entry → List Tagged
tag names [] = []
tag names (e ∷ es) = record { names = names; entry = e } ∷ tag names es

tag_entries : (names : Option (List (List ℕ))) (es : List Entry) → entries_of (tag names es) ≡ es
unfolding tag
tag_entries names [] = refl
tag_entries names (e ∷ es) = ap (λ l. e ∷ l) (tag_entries names es)

tag_holds : (f : Answers) (names : Option (List (List ℕ))) (es : List Entry) → AllByRecursion (holds f (asked_by f names)) es → AllByRecursion (HoldsTagged f) (tag names es)
unfolding tag
tag_holds f names [] h = tt
tag_holds f names (e ∷ es) h = (h.0, tag_holds f names es h.1)

tag_held : (f : Answers) (names : Option (List (List ℕ))) (es : List Entry) → AllByRecursion (HoldsTagged f) (tag names es) → AllByRecursion (holds f (asked_by f names)) es
unfolding tag
tag_held f names [] h = tt
tag_held f names (e ∷ es) h = (h.0, tag_held f names es h.1)

same_piece : (old new p q : List Entry) → new ≡ old ++ p → new ≡ old ++ q → p ≡ q
same_piece old new p q e g = append_cancel_left old p q (sym e ∙ g)

-- what variables were told
of_variables_told : (names : List (List ℕ)) (old new piece : List Entry) → new ≡ old ++ piece → Part old new (λ f. AgreesFrom f names old new)
of_variables_told names old new piece e = record {
  told = tag (Some names) piece;
  entries = e ∙ ap (λ l. old ++ l) (sym (tag_entries (Some names) piece));
  agrees = λ f h. record { piece = piece; entries = e; agrees = tag_held f (Some names) piece h };
  holds = λ f h. tag_holds f (Some names) piece (subst (AllByRecursion (holds f (asked_by f (Some names)))) (same_piece old new h.piece piece h.entries e) h.agrees);
}

-- what recipes were told
of_recipes_told : (old new piece : List Entry) → new ≡ old ++ piece → Part old new (λ f. AgreesBehind f old new)
of_recipes_told old new piece e = record {
  told = tag None piece;
  entries = e ∙ ap (λ l. old ++ l) (sym (tag_entries None piece));
  agrees = λ f h. record { piece = piece; entries = e; agrees = tag_held f None piece h };
  holds = λ f h. tag_holds f None piece (subst (AllByRecursion (holds f f.recipe)) (same_piece old new h.piece piece h.entries e) h.agrees);
}

-- nothing
none : (old : List Entry) → Part old old (λ f. Unit {0})
none old = record { told = []; entries = sym (append-nil old); agrees = λ f h. tt; holds = λ f h. tt }

-- ---- openings

module _ (c : Configuration) (defined : Definitions) where
  request_told : (names : List (List ℕ)) (o : Option DotenvRequest) (old new : List Entry) (r : Result (List Pair) OpeningFailure) → Requests o old new r → Part old new (λ f. AgreesFrom f names old new)
  request_told names None old new r unasked = of_variables_told names old old [] (sym (append-nil old))
  request_told names (Some request) old new r (request_answered entries) = of_variables_told names old new _ entries
  request_told names (Some request) old new r (request_refused entries) = of_variables_told names old new _ entries

  module _ (path : List (List ℕ)) (row : ModuleRow) (pairs : List Pair) where
    fills_told : (hs : List Held) (names : List (List ℕ)) (old new : List Entry) (r : Result (List Held) Fault) (fills : Fills c defined path row pairs hs names old new r) → Part old new (λ f. AgreesFills f c defined fills)
    fills_told hs [] old new r all = none old
    fills_told hs (name ∷ names) old new r (has_value {mid = mid} {side = side} value stands goes others) =
        let a = extends (reading_in hs) (side_dialogue c (scene_in c defined path row pairs (pairs_of defined path hs)) side) old mid (Ok value) goes in
        then old mid new (λ f. AgreesFrom f (exported_names defined path) old mid) (λ f. AgreesFills f c defined others)
        (of_variables_told (exported_names defined path) old mid a.0 a.1) (fills_told (hs ++ (record { name = name; value = value }) ∷ []) names mid new r others)
    fills_told hs (name ∷ names) old new r (has_none {side = side} {fault = fault} stands goes) =
        let a = extends (reading_in hs) (side_dialogue c (scene_in c defined path row pairs (pairs_of defined path hs)) side) old new (Err fault) goes in
        of_variables_told (exported_names defined path) old new a.0 a.1

  module _ (Open : VariableName → Type 0) where
    one_told : (path : List (List ℕ)) (old new : List Entry) (r : Result Opened OpeningFailure) (one : OpensOne c defined Open path old new r) → Part old new (λ f. AgreesOne f c defined one)
    one_told path old new r (not_told {row = row} {fault = fault} inside request) = request_told (exported_names defined path) row.request old new (Err fault) request
    one_told path old new r (opened {row = row} {mid = mid} {pairs = pairs} {names = names} {values = values} inside request order fills) =
        then old mid new (λ f. AgreesFrom f (exported_names defined path) old mid) (λ f. AgreesFills f c defined fills)
        (request_told (exported_names defined path) row.request old mid (Ok pairs) request) (fills_told path row pairs [] names mid new (Ok values) fills)
    one_told path old new r (refused {row = row} {mid = mid} {pairs = pairs} {names = names} {fault = fault} inside request order fills) =
        then old mid new (λ f. AgreesFrom f (exported_names defined path) old mid) (λ f. AgreesFills f c defined fills)
        (request_told (exported_names defined path) row.request old mid (Ok pairs) request) (fills_told path row pairs [] names mid new (Err fault) fills)

    all_told : (paths : List (List (List ℕ))) (old new : List Entry) (r : Result (List Opened) OpeningFailure) (opens : OpensAll c defined Open paths old new r) → Part old new (λ f. AgreesAll f c defined opens)
    all_told [] old new r none_left = none old
    all_told (path ∷ paths) old new r (one_more {mid = mid} {o = o} {os = os} one others) =
        then old mid new (λ f. AgreesOne f c defined one) (λ f. AgreesAll f c defined others) (one_told path old mid (Ok o) one) (all_told paths mid new (Ok os) others)
    all_told (path ∷ paths) old new r (fault_here {fault = fault} one) = one_told path old new (Err fault) one
    all_told (path ∷ paths) old new r (fault_later {mid = mid} {o = o} {fault = fault} one others) =
        then old mid new (λ f. AgreesOne f c defined one) (λ f. AgreesAll f c defined others) (one_told path old mid (Ok o) one) (all_told paths mid new (Err fault) others)

-- ---- runs

pub runs_are_tagged : (Rule : Type 0) → RunsAreTagged Rule
runs_are_tagged Rule c defined calls old new t t' outcome (runs.refused {fault = fault} opens) =
    let p = all_told c defined (IsOpened defined c.no_dependencies (recipes_of calls)) (paths_of defined.modules) old new (Err fault) opens in
    record { told = p.told; entries = p.entries; agrees = p.agrees; holds = p.holds }
runs_are_tagged Rule c defined calls old new t t' outcome (runs.opened {mid = mid} {opened = os} opens run) =
    let q = passed (acts (ground_of c defined os)) (reading_at c defined os) run.run in
    let p = then old mid new (λ f. AgreesAll f c defined opens) (λ f. AgreesBehind f mid new) (all_told c defined (IsOpened defined c.no_dependencies (recipes_of calls)) (paths_of defined.modules) old mid (Ok os) opens) (of_recipes_told mid new q.piece q.entries) in
    record { told = p.told; entries = p.entries; agrees = p.agrees; holds = p.holds }

pub answered_once_go_naively : (Rule : Type 0) → AnsweredOnceGoNaively Rule
answered_once_go_naively Rule w o base working defined clear c words invocations invoke old new t outcome run tagged once =
    let there = answers_are_there tagged.told once in
    let agrees = tagged.agrees there.0 there.1 in
    (there.0, agrees, invoked_go_naively dependencies_fall Rule w o clear.none clear.read clear.order base working defined clear.are clear.rows c words invocations invoke there.0 old new t outcome run agrees)
