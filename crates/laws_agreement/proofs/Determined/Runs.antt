-- Two runs of the same calls that agree with one set of answers go alike.
use Rattle.std.proofs.Common.{◌≡◌, List, [], ◌++◌, map, false, Option, Ok, Err, refl, sym, ap, ap₂, ◌∙◌, subst}
use Rattle.std.proofs.Math.Path.{fun_ext}
use Rattle.std.proofs.lemmas.List.{append_cancel_left}
use Rattle.just_host.specs.declared.entry.Entry.{Entry}
use Rattle.just_value.specs.Constants.{constant_rows}
use Rattle.meaning_runs.specs.Acts.{host_parts}
use Rattle.meaning_runs.specs.Failures.{Failure}
use Rattle.meaning_runs.specs.Goes.{Goes}
use Rattle.meaning_runs.specs.Laws.{events_of}
use Rattle.meaning_runs.specs.Meant.{is_event}
use Rattle.meaning_runs.specs.Tallies.{Tally}
use Rattle.meaning_runs.specs.Told.{Answers, Agrees}
use Rattle.meaning_runs.proofs.Pieces.{events_append, grown}
use Rattle.meaning_evaluation.specs.Calling.{Ground, acts}
use Rattle.meaning_evaluation.specs.Named.{Call, Definitions, paths_of}
use Rattle.meaning_evaluation.specs.Scopes.{Configuration}
use Rattle.just_meaning.specs.Agreement.{AgreesBehind}
use Rattle.just_meaning.specs.Opening.{Opened, text_named, read_by}
use Rattle.just_meaning.specs.Runs.{Outcome, not_opened, outcome_of, Runs, HasRun, Opens, ground_of, reading_at}
use Rattle.just_meaning.specs.Runs as runs
use Rattle.laws_agreement.specs.Determined.Determined.{RunsAreDetermined}
use Rattle.just_meaning.specs.Determined.{nothing, GoAlike, both_refused, both_ran}
use Rattle.laws_agreement.proofs.Determined.Dialogues.{GrowsQuietly}
use Rattle.laws_agreement.proofs.Determined.Passing.{passed}
use Rattle.laws_agreement.proofs.Determined.Going.{passes_once}
use Rattle.laws_agreement.proofs.Determined.Openings.{EachAlike, all_quiet, all_once, same_pairs_at, same_held, same_by_name, run_variables}

-- the piece that a record grew by agrees, whichever is named
pub behind_piece : (f : Answers) (old new piece : List Entry) → AgreesBehind f old new → new ≡ old ++ piece → Agrees f piece
behind_piece f old new piece a e = subst (Agrees f) (append_cancel_left old a.piece piece (sym a.entries ∙ e)) a.agrees

module _ (c : Configuration) (defined : Definitions) (os os' : List Opened) (h : EachAlike os os') where
  -- calls rest on the same
  same_ground : ground_of c defined os' ≡ ground_of c defined os
  same_ground = sym
      (ap₂ (λ d e. let g : Ground = record { configuration = c; defined = defined; dotenv = d; exported = e } in g) (fun_ext (λ path. same_pairs_at path os os' h)) (fun_ext (λ path. same_by_name path defined os os' h)))

  -- and read the same
  same_reading : reading_at c defined os' ≡ reading_at c defined os
  same_reading = sym (fun_ext (λ call. fun_ext (λ place. fun_ext (λ x. ap (λ o. read_by o (text_named x.name constant_rows) x.name) (same_held call.recipe.path os os' h x.name)))))

  -- so a run over the one is a run over the other
  moved : (old new : List Entry) (t t' : Tally) (calls done : List Call) (failure : Option Failure) → Goes (host_parts (acts (ground_of c defined os')) (reading_at c defined os')) false [] old t calls done new t' failure
      → Goes (host_parts (acts (ground_of c defined os)) (reading_at c defined os)) false [] old t calls done new t' failure
  moved old new t t' calls done failure run =
      subst (λ r. Goes (host_parts (acts (ground_of c defined os)) r) false [] old t calls done new t' failure) same_reading
      (subst (λ g. Goes (host_parts (acts g) (reading_at c defined os')) false [] old t calls done new t' failure) same_ground run)

module _ (Rule : Type 0) (f : Answers) (c : Configuration) (defined : Definitions) (calls : List Call) where
  -- behind openings that are alike
  behind_alike : (os os' : List Opened) → EachAlike os os' → (old mid new : List Entry) (t : Tally) (failure : Option Failure) → GrowsQuietly old mid → HasRun c defined os calls mid nothing new t failure → AgreesBehind f mid new
      → (old' mid' new' : List Entry) (t' : Tally) (failure' : Option Failure) → GrowsQuietly old' mid' → HasRun c defined os' calls mid' nothing new' t' failure' → AgreesBehind f mid' new'
      → GoAlike {Rule = Rule} old new old' new' t t' (outcome_of failure) (outcome_of failure')
  behind_alike os os' h old mid new t failure quiet run a old' mid' new' t' failure' quiet' run' b =
      let p = passed (acts (ground_of c defined os)) (reading_at c defined os) run.run in
      let q = passed (acts (ground_of c defined os)) (reading_at c defined os) (moved c defined os os' h mid' new' nothing t' calls run'.done failure' run'.run) in
      let same = passes_once (acts (ground_of c defined os)) (reading_at c defined os) f false [] [] nothing calls p.piece q.piece run.done run'.done t t' failure failure' p.passes q.passes (λ d. refl)
      (behind_piece f mid new p.piece a p.entries) (behind_piece f mid' new' q.piece b q.entries) in
      let first : events_of is_event (quiet.piece ++ p.piece) ≡ events_of is_event p.piece = events_append is_event (λ e. Unit {0}) quiet.piece p.piece ∙ ap (λ l. l ++ events_of is_event p.piece) quiet.quiet in
      let second : events_of is_event (quiet'.piece ++ q.piece) ≡ events_of is_event q.piece = events_append is_event (λ e. Unit {0}) quiet'.piece q.piece ∙ ap (λ l. l ++ events_of is_event q.piece) quiet'.quiet in
      both_ran (quiet.piece ++ p.piece) (quiet'.piece ++ q.piece) failure (grown old quiet.piece p.piece quiet.entries p.entries) (grown old' quiet'.piece q.piece quiet'.entries q.entries)
      (first ∙ (ap (events_of is_event) same.pieces ∙ sym second)) same.tallies refl (ap outcome_of (sym same.ends))

-- Two such runs go alike.
pub runs_are_determined : (Rule : Type 0) → RunsAreDetermined Rule
runs_are_determined Rule f c defined calls listed fit old new t outcome (runs.refused {fault = fault} o) a old' new' t' outcome' (runs.refused {fault = fault'} o') b = both_refused fault fault' refl refl
runs_are_determined Rule f c defined calls listed fit old new t outcome (runs.refused {fault = fault} o) a old' new' t' outcome' (runs.opened {mid = mid'} {opened = os'} o' run') b =
    absurd (all_once c defined _ f listed (run_variables defined c.no_dependencies (map (λ call. call.recipe) calls)) fit (paths_of defined.modules) old new (Err fault) o a old' mid' (Ok os') o' b.0)
runs_are_determined Rule f c defined calls listed fit old new t outcome (runs.opened {mid = mid} {opened = os} o run) a old' new' t' outcome' (runs.refused {fault = fault'} o') b =
    absurd (all_once c defined _ f listed (run_variables defined c.no_dependencies (map (λ call. call.recipe) calls)) fit (paths_of defined.modules) old mid (Ok os) o a.0 old' new' (Err fault') o' b)
runs_are_determined Rule f c defined calls listed fit old new t outcome (runs.opened {mid = mid} {opened = os} {failure = failure} o run) a old' new' t' outcome' (runs.opened {mid = mid'} {opened = os'} {failure = failure'} o' run') b =
    behind_alike Rule f c defined calls os os'
    (all_once c defined _ f listed (run_variables defined c.no_dependencies (map (λ call. call.recipe) calls)) fit (paths_of defined.modules) old mid (Ok os) o a.0 old' mid' (Ok os') o' b.0)
    old mid new t failure (all_quiet c defined _ (paths_of defined.modules) old mid (Ok os) o) run a.1 old' mid' new' t' failure' (all_quiet c defined _ (paths_of defined.modules) old' mid' (Ok os') o') run' b.1
