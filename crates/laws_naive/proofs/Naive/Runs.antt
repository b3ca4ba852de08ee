-- Runs that agree with answers go as they mean.
use Rattle.std.proofs.Common.{◌≡◌, ◌<◌, ◌+◌, ◌-◌, ℕ, suc, List, [], ◌∷◌, ◌++◌, Option, Ok, Err, refl, sym, ap, ◌∙◌, arith}
use Rattle.std.specs.List.{AllByRecursion}
use Rattle.just_host.specs.declared.entry.Entry.{Entry}
use Rattle.meaning_runs.specs.Failures.{Failure}
use Rattle.meaning_runs.specs.Told.{Answers}
use Rattle.meaning_runs.specs.Tallies.{Tally}
use Rattle.meaning_runs.specs.Laws.{events_of, end_by}
use Rattle.meaning_runs.specs.Meant.{is_event}
use Rattle.meaning_runs.proofs.Pieces.{events_append, grown}
use Rattle.meaning_evaluation.specs.Named.{RecipeName, VariableName, Call, Definitions, paths_of}
use Rattle.meaning_evaluation.specs.Scopes.{Configuration}
use Rattle.just_meaning.specs.Agreement.{AgreesAll, AgreesBehind}
use Rattle.just_meaning.specs.Opening.{IsOpened, Opened}
use Rattle.just_meaning.specs.Meanings.{IsNaive, IsSteadyRun, naive_run}
use Rattle.just_meaning.specs.Runs.{HasRun, Opens, refused, opened}
use Rattle.laws_agreement.specs.Agreement.Opened.{HoldsMeaning, AreOpened}
use Rattle.laws_agreement.proofs.Agreement.Lists.{all_more}
use Rattle.laws_agreement.proofs.Agreement.Depths.{deep_enough}
use Rattle.laws_agreement.proofs.Agreement.Grounds.{grounds_agree}
use Rattle.laws_agreement.proofs.Agreement.Opened.{IsReadName, resolved_readable, names_meant}
use Rattle.laws_agreement.proofs.Agreement.Openings.{opens_only, opens_once, pairs_answered}
use Rattle.laws_agreement.proofs.Agreement.Runs.{reached_runs_mean}
use Rattle.laws_agreement.proofs.Agreement.Steady.{calls_steady}
use Rattle.just_meaning.specs.Meanings.{meant_ground, variables_at}
use Rattle.just_meaning.specs.Determined.{nothing}
use Rattle.laws_agreement.proofs.Determined.Openings.{all_quiet}
use Rattle.just_meaning.specs.Naively.{AreAllSteady}
use Rattle.laws_naive.specs.Naive.Laws.{AreMeaningful, RunsGoNaively, WrittenSteady}
use Rattle.just_meaning.specs.Runs.{recipes_of}
use Rattle.just_meaning.specs.Naively as naively
use Rattle.laws_naive.proofs.Naive.Openings.{opening_means, held_meant, not_refused}

-- a number above the rank of each of these calls
above : (rank : RecipeName → ℕ) (calls : List Call) → (k : ℕ) × AllByRecursion (λ call. rank call.recipe < k) calls
above rank [] = (1, tt)
above rank (call ∷ calls) = let r = above rank calls in (suc (rank call.recipe) + r.0, (omega arith, all_more _ (λ other. rank other.recipe < suc (rank call.recipe) + r.0) (λ other lt. omega (arith, lt)) calls r.1))

module _ (f : Answers) (c : Configuration) (defined : Definitions) (calls : List Call) (are : AreMeaningful c defined calls) where
  abbrev Open : VariableName → Type 0
  Open = IsOpened defined c.no_dependencies (recipes_of calls)

  -- What follows an opening is the naive run, where all is steady.
  run_means : {old mid new : List Entry} (os : List Opened) (opens : Opens c defined calls old mid (Ok os)) → AgreesAll f c defined opens → (t : Tally) (failure : Option Failure) → HasRun c defined os calls mid nothing new t failure
      → (behind : AgreesBehind f mid new) → AreAllSteady f c defined calls → IsNaive c defined f calls (record { events = events_of is_event behind.piece; end = end_by failure })
  run_means {old = old} {mid = mid} {new = new} os opens agrees t failure run behind steady =
      let means = opening_means f c defined (recipes_of calls) are.listed are.certain (paths_of defined.modules) old mid (Ok os) opens agrees in
      let only = opens_only c defined Open os opens in
      let d = deep_enough c defined f os Open (λ x those. held_meant f c defined (recipes_of calls) are.listed are.certain os means x (are.tree x those) those) only in
      let a = above are.rank calls in record {
        deep = suc (d.0 + a.0) + steady.deep;
        is = λ n le. at n (omega (arith, le)) (steady.is n (omega (arith, le))) (d.1 n (omega (arith, le))) (all_more _ (λ call. are.rank call.recipe < n) (λ call lt. omega (arith, lt, le)) calls a.1);
      }
    where
      at : (n : ℕ) → 0 < n → IsSteadyRun c defined f n calls → ((x : VariableName) → Open x → HoldsMeaning c defined f n os x) → AllByRecursion (λ call. are.rank call.recipe < n) calls → naive_run c defined f n calls ≡ record { events = events_of is_event behind.piece; end = end_by failure }
      at n some steady_there means lie =
          let those : AreOpened c defined f n os (recipes_of calls) = record { means = means; only = λ x value e. opens_only c defined Open os opens x.path x.name value e; once = opens_once c defined Open os opens } in
          reached_runs_mean c defined f n os calls (IsReadName c defined f os (recipes_of calls)) are.rank
          (grounds_agree c defined f n os (recipes_of calls) those are.listed (pairs_answered c defined f Open os opens agrees are.inside))
          (resolved_readable c defined f os (recipes_of calls) are.resolved)
          (λ path name number h. names_meant c defined f os (recipes_of calls) n those (n - 1) (omega (arith, some)) path name number h)
          are.falling mid new behind.piece nothing t failure steady_there lie run behind.entries behind.agrees

pub runs_go_naively : (Rule : Type 0) → RunsGoNaively Rule
runs_go_naively Rule f c defined calls are old new t outcome (refused {fault = fault} opens) agrees =
    let q = all_quiet c defined (IsOpened defined c.no_dependencies (recipes_of calls)) (paths_of defined.modules) old new (Err fault) opens in
    naively.refused fault refl (opening_means f c defined (recipes_of calls) are.listed are.certain (paths_of defined.modules) old new (Err fault) opens agrees) (record { piece = q.piece; entries = q.entries; quiet = q.quiet })
runs_go_naively Rule f c defined calls are old new t outcome (opened {mid = mid} {opened = os} {failure = failure} opens run) agrees =
    let means = opening_means f c defined (recipes_of calls) are.listed are.certain (paths_of defined.modules) old mid (Ok os) opens agrees.0 in
    let q = all_quiet c defined (IsOpened defined c.no_dependencies (recipes_of calls)) (paths_of defined.modules) old mid (Ok os) opens in
    naively.hands_over failure refl (not_refused f c defined (recipes_of calls) are.listed are.certain os means)
    (λ steady. record {
      piece = q.piece ++ agrees.1.piece;
      entries = grown old q.piece agrees.1.piece q.entries agrees.1.entries;
      naive = record {
        deep = (run_means f c defined calls are os opens agrees.0 t failure run agrees.1 steady).deep;
        is = λ n le. (run_means f c defined calls are os opens agrees.0 t failure run agrees.1 steady).is n le
            ∙ ap (λ es. record { events = es; end = end_by failure }) (sym (events_append is_event (λ e. Unit {0}) q.piece agrees.1.piece ∙ ap (λ l. l ++ events_of is_event agrees.1.piece) q.quiet));
      };
    })

-- A justfile that is steady by what is written has steady calls.
pub written_steady : WrittenSteady
written_steady f c defined calls steady = record { deep = 0; is = λ n le call u. calls_steady (meant_ground c defined f n) steady call f (λ other. variables_at c defined f n other.recipe.path) }
