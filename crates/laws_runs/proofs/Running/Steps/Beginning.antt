-- A call by places that begins does so by names.
use Rattle.std.proofs.Common.{◌≡◌, ◌∙◌, sym, ap, subst, refl, ℕ, Bool, true, List, map, Result, Ok, Err, true≢false}
use Rattle.std.proofs.lemmas.List.{length-map}
use Rattle.just_host.specs.declared.config.Config.{Config}
use Rattle.just_host.specs.declared.entry.Entry.{Entry}
use Rattle.just_value.specs.declared.positional.Override.{Override}
use Rattle.modules_compilation.specs.declared.compilation.Compilation.{Compilation}
use Rattle.evaluate_variables.specs.Given.{bound_at}
use Rattle.resolve_analysis.specs.Opening.{Runs}
use Rattle.resolve_analysis.specs.declared.analysis.Analysis.{Analysis}
use Rattle.analyze_calls.specs.Around.{Heads, confirmation, own_reading, own_stage, prior_calls}
use Rattle.analyze_calls.specs.Binding.{Binds}
use Rattle.analyze_calls.specs.Calls.{CallRow}
use Rattle.analyze_calls.specs.Entered.{EnteredRow, inside}
use Rattle.analyze_calls.specs.declared.plan.Runner.{Runner}
use Rattle.analyze_calls.specs.Runs.Steps.{BeginsAt, HeadsBelow, any_from, begins, brought, failed, headless, unbound, unranked}
use Rattle.meaning_dialogues.specs.Dialogue.{Dialogue, DialogueGoes}
use Rattle.meaning_dialogues.specs.Evaluation.{Value}
use Rattle.meaning_dialogues.specs.Faults.{Fault, memory}
use Rattle.tree_attributes.specs.Sets.Sets.{items_of}
use Rattle.meaning_evaluation.specs.Parameters.Bindings.{env_terms}
use Rattle.meaning_evaluation.specs.Stages.Parameters.{Bound, formal_of}
use Rattle.meaning_runs.specs.Acts.{begin}
use Rattle.meaning_runs.specs.Failures.{Failure, evaluation}
use Rattle.meaning_runs.specs.Task.{Task, TaskLeads, as_failure, ends, lift, ◌>>=◌}
use Rattle.meaning_runs.proofs.Tasks.{lift_goes}
use Rattle.meaning_rules.specs.Worlds.Given.{Text, World}
use Rattle.meaning_rules.specs.Overrides.{overrides_of}
use Rattle.meaning_evaluation.specs.Calling.{acts, block_calls, confirming, head_task, no_dialogue, no_task, scene_of}
use Rattle.meaning_evaluation.specs.Named.{Call, Definitions, RecipeRow}
use Rattle.meaning_evaluation.specs.Scopes.{Configuration, Scene, binding}
use Rattle.just_meaning.specs.Opening.{Held, Opened, reading_in}
use Rattle.just_meaning.specs.Runs.{reading_at, steps}
use Rattle.laws_runs.specs.Settings.Settled.{AllSettle}
use Rattle.just_meaning.specs.Configured.{configuration_of}
use Rattle.laws_runs.specs.Running.Entered.{IsEnteredIn}
use Rattle.laws_runs.specs.Running.Steps.{IsTold, RestsOn, defined, named}
use Rattle.laws_runs.proofs.Running.Steps.Blocks.{AreBrought, none_from, priors_go}
use Rattle.laws_runs.proofs.Running.Steps.Confirming.{confirm_leads}
use Rattle.laws_runs.proofs.Running.Steps.Counting.{bound_many}
use Rattle.laws_runs.proofs.Running.Steps.Modules.{at, values_are}
use Rattle.laws_runs.proofs.Running.Steps.Named.{call_here, ground_here, met_here, named_so}
use Rattle.laws_runs.proofs.Running.Steps.Places.{parameters}
use Rattle.laws_runs.proofs.Running.Steps.Sites.{configured_so, row, scene}
use Rattle.laws_runs.proofs.Running.Steps.Standing.{Stands}
use Rattle.laws_runs.proofs.Running.Steps.Tasks.{ends_leads, lifted_leads, stops_leads, task_parted, then_leads}
use Rattle.laws_runs.proofs.Running.Steps.Terms.{by_names, by_numbers, name_now, places_stage}
use Rattle.laws_runs.proofs.Running.Steps.Values.{binding_go, counted_all, counts_by}

module _ (w : World) (compilation : Compilation) (given : List Override) (base : Text) (analysis : Analysis) (settled : AllSettle w (overrides_of given) compilation analysis.values.value.settings.items) (config : Config) (root_key : List ℕ)
    (called : List ℕ) (is_read : ℕ → Bool) (runner : Runner) (opened : List Opened) (rests : RestsOn w compilation given base analysis settled config root_key called is_read runner opened)
    (rank : ℕ) (s : Stands w compilation given base analysis settled config root_key called is_read runner opened rests rank)
    (runs : Runs analysis.table.value.recipes.items config.no_dependencies called rank) (flag : Bool) (groups : List Value) where
  abbrev c : Configuration
  c = configured_so w compilation given base analysis settled config root_key called is_read runner opened rests rank s

  abbrev there : Scene
  there = scene w compilation given base analysis settled config root_key called is_read runner opened rests rank s

  abbrev own : RecipeRow
  own = row w compilation given base analysis settled config root_key called is_read runner opened rests rank s

  abbrev name : Text
  name = name_now w compilation given base analysis settled config root_key called is_read runner opened rests rank s runs flag

  abbrev all_defined : Definitions
  all_defined = defined w compilation given base analysis settled config root_key

  abbrev pub by_name : Dialogue Bound
  by_name = binding c there name own flag groups

  abbrev pub asked : Bound → Task (Unit {0})
  asked bound = confirming c there name own flag c.yes own.confirm bound

  abbrev pub before : Bound → Dialogue (List Call)
  before bound = block_calls c there name own flag all_defined bound own.priors

  abbrev pub head : Task Bound
  head = head_task c there name own flag groups

  -- the beginning of the call by names
  abbrev pub whole : Task (Bound × List Call)
  whole = head >>= λ bound. (lift (before bound) >>= λ calls. ends (Ok (bound, calls)))

  -- ---- what it is bound to

  bound_leads : (old new : List Entry) (bound : Bound) → DialogueGoes (by_numbers w compilation given base analysis settled config root_key called is_read runner opened rests rank s runs flag)
      (bound_at s.context flag s.planned.recipe.now (counts_by (parameters w compilation given base analysis settled config root_key called is_read runner opened rests rank s)) groups (inside s.context.scope.now)) old new (Ok bound)
      → TaskLeads (by_names w compilation given base analysis settled config root_key called is_read runner opened rests rank s runs flag) (lift by_name) old new (Ok bound)
  bound_leads old new bound d = lift_goes (by_names w compilation given base analysis settled config root_key called is_read runner opened rests rank s runs flag) by_name old new (Ok bound)
      (binding_go w compilation given base analysis settled config root_key called is_read runner opened rests rank s runs flag groups old new (Ok bound) d)

  pub record IsBoundAlike (old new : List Entry) (entered : EnteredRow) : Type 0 where
    pub bound : Bound
    pub leads : TaskLeads (by_names w compilation given base analysis settled config root_key called is_read runner opened rests rank s runs flag) (lift by_name) old new (Ok bound)
    pub is : IsEnteredIn s.planned s.context entered bound

  pub is_bound : (old new : List Entry) (entered : EnteredRow) → Binds s.planned s.context flag groups old new (Ok entered) → IsBoundAlike old new entered
  is_bound old new entered b =
      let gives = b.by_test (counts_by (parameters w compilation given base analysis settled config root_key called is_read runner opened rests rank s))
      (counted_all w compilation given base analysis settled config root_key called is_read runner opened rests rank s runs flag) in
      let d = gives.1.evaluates.goes (λ e. absurd (cc e)) in
      record {
        bound = gives.1.bound;
        leads = bound_leads old new gives.1.bound d;
        is = record {
          outer = gives.0;
          is = gives.1.is;
          rows = b.rows;
          count = bound_many (by_numbers w compilation given base analysis settled config root_key called is_read runner opened rests rank s runs flag)
              (places_stage w compilation given base analysis settled config root_key called is_read runner opened rests rank s runs flag)
              (counts_by (parameters w compilation given base analysis settled config root_key called is_read runner opened rests rank s)) s.context.module.now.settings.now.lists flag name
              (env_terms (items_of s.planned.recipe.now.attributes)) (map formal_of (parameters w compilation given base analysis settled config root_key called is_read runner opened rests rank s)) groups old new gives.1.bound d ∙
              length-map (parameters w compilation given base analysis settled config root_key called is_read runner opened rests rank s) formal_of;
        };
      }

  -- a fault of it
  unbound_leads : (old new : List Entry) (failure : Failure) → IsTold failure → Binds s.planned s.context flag groups old new (Err failure)
      → TaskLeads (by_names w compilation given base analysis settled config root_key called is_read runner opened rests rank s runs flag) (lift by_name) old new (Err failure)
  unbound_leads old new failure told b =
      let gives = b.by_test (counts_by (parameters w compilation given base analysis settled config root_key called is_read runner opened rests rank s))
      (counted_all w compilation given base analysis settled config root_key called is_read runner opened rests rank s runs flag) in
      let d = gives.2.goes (λ e. told (gives.1 ∙ ap evaluation (same_fault gives.0 memory e))) in
      subst (λ x. TaskLeads (by_names w compilation given base analysis settled config root_key called is_read runner opened rests rank s runs flag) (lift by_name) old new (Err x)) (sym gives.1)
      (lift_goes (by_names w compilation given base analysis settled config root_key called is_read runner opened rests rank s runs flag) by_name old new (Err gives.0)
      (binding_go w compilation given base analysis settled config root_key called is_read runner opened rests rank s runs flag groups old new (Err gives.0) d))
    where
      same_fault : (a b : Fault) → (◌≡◌ {A = Result Bound Fault} (Err a) (Err b)) → a ≡ b
      same_fault a b e = cc e

  head_stops : (old new : List Entry) (failure : Failure) → TaskLeads (by_names w compilation given base analysis settled config root_key called is_read runner opened rests rank s runs flag) (lift by_name) old new (Err failure)
      → TaskLeads (by_names w compilation given base analysis settled config root_key called is_read runner opened rests rank s runs flag) whole old new (Err failure)
  head_stops old new failure h =
      stops_leads (by_names w compilation given base analysis settled config root_key called is_read runner opened rests rank s runs flag) head (λ bound. (lift (before bound) >>= λ calls. ends (Ok (bound, calls)))) old new failure
      (stops_leads (by_names w compilation given base analysis settled config root_key called is_read runner opened rests rank s runs flag) (lift by_name) (λ bound. (asked bound >>= λ u. ends (Ok bound))) old new failure h)

  -- ---- what comes before its body

  module _ (entered : EnteredRow) (bound : Bound) (is : IsEnteredIn s.planned s.context entered bound) where
    abbrev before_places : Dialogue (List CallRow)
    before_places = prior_calls runner s.planned s.context.config.now (own_stage s.planned s.context flag entered)

    abbrev asked_places : Task (Unit {0})
    asked_places = confirmation runner s.planned s.context.config.now (own_stage s.planned s.context flag entered)

    abbrev Brought : List CallRow → List Call → Type 0
    Brought calls names = AreBrought w compilation given base analysis settled config root_key called is_read runner opened rests rank s runs flag entered bound is calls names

    headed : (old mid new : List Entry) → TaskLeads (by_names w compilation given base analysis settled config root_key called is_read runner opened rests rank s runs flag) (lift by_name) old mid (Ok bound)
        → TaskLeads (by_names w compilation given base analysis settled config root_key called is_read runner opened rests rank s runs flag) (asked bound) mid new (Ok tt)
        → TaskLeads (by_names w compilation given base analysis settled config root_key called is_read runner opened rests rank s runs flag) head old new (Ok bound)
    headed old mid new h g =
        then_leads (by_names w compilation given base analysis settled config root_key called is_read runner opened rests rank s runs flag) (lift by_name) (λ x. (asked x >>= λ u. ends (Ok x))) old mid new bound (Ok bound) h
        (then_leads (by_names w compilation given base analysis settled config root_key called is_read runner opened rests rank s runs flag) (asked bound) (λ u. ends (Ok bound)) mid new new tt (Ok bound) g
        (ends_leads (by_names w compilation given base analysis settled config root_key called is_read runner opened rests rank s runs flag) new bound))

    found_calls : (end : Result (List CallRow) Fault) (calls : List CallRow) (old new : List Entry) → (◌≡◌ {A = Result (List CallRow) Failure} (Ok calls) (as_failure end))
        → DialogueGoes (own_reading s.planned s.context flag entered) before_places old new end
        → DialogueGoes (own_reading s.planned s.context flag entered) before_places old new (Ok calls)
    found_calls (Ok found) calls old new e d = let same : found ≡ calls = sym (cc e) in subst (λ (x : List CallRow). DialogueGoes (own_reading s.planned s.context flag entered) before_places old new (Ok x)) same d
    found_calls (Err fault) calls old new e d = absurd (cc e)

    -- where it brings about calls
    pub heads_on : (old mid new : List Entry) (calls : List CallRow) → TaskLeads (by_names w compilation given base analysis settled config root_key called is_read runner opened rests rank s runs flag) (lift by_name) old mid (Ok bound)
        → Heads s.planned s.context flag entered runner mid new (Ok calls)
        → (names : List Call) × TaskLeads (by_names w compilation given base analysis settled config root_key called is_read runner opened rests rank s runs flag) whole old new (Ok (bound, names)) × Brought calls names
    heads_on old mid new calls h heads =
        task_parted (own_reading s.planned s.context flag entered) ((names : List Call) × TaskLeads (by_names w compilation given base analysis settled config root_key called is_read runner opened rests rank s runs flag) whole old new
        (Ok (bound, names)) × Brought calls names) asked_places (λ u. lift before_places) mid new (Ok calls)
        (λ u at confirmed after.
        let l = lifted_leads (own_reading s.planned s.context flag entered) before_places at new (Ok calls) after in
        let found = (priors_go w compilation given base analysis settled config root_key called is_read runner opened rests rank s runs flag entered bound is).on at new calls (found_calls l.0 calls at new l.1 l.2) in (
          found.0,
          then_leads (by_names w compilation given base analysis settled config root_key called is_read runner opened rests rank s runs flag) head (λ x. (lift (before x) >>= λ names. ends (Ok (x, names)))) old at new bound
              (Ok (bound, found.0)) (headed old mid at h (confirm_leads w compilation given base analysis settled config root_key called is_read runner opened rests rank s runs flag entered bound is mid at (Ok tt) confirmed))
              (then_leads (by_names w compilation given base analysis settled config root_key called is_read runner opened rests rank s runs flag) (lift (before bound)) (λ names. ends (Ok (bound, names))) at new new found.0
              (Ok (bound, found.0)) (lift_goes (by_names w compilation given base analysis settled config root_key called is_read runner opened rests rank s runs flag) (before bound) at new (Ok found.0) found.1)
              (ends_leads (by_names w compilation given base analysis settled config root_key called is_read runner opened rests rank s runs flag) new (bound, found.0))),
          found.2,
        ))
        (λ failure confirmed e. absurd (cc e)) heads

    stopped_calls : (end : Result (List CallRow) Fault) (failure : Failure) (old new : List Entry) → (◌≡◌ {A = Result (List CallRow) Failure} (Err failure) (as_failure end))
        → DialogueGoes (own_reading s.planned s.context flag entered) before_places old new end
        → TaskLeads (by_names w compilation given base analysis settled config root_key called is_read runner opened rests rank s runs flag) (lift (before bound)) old new (Err failure)
    stopped_calls (Ok found) failure old new e d = absurd (cc e)
    stopped_calls (Err fault) failure old new e d =
        let same : evaluation fault ≡ failure = sym (cc e) in
        subst (λ (x : Failure). TaskLeads (by_names w compilation given base analysis settled config root_key called is_read runner opened rests rank s runs flag) (lift (before bound)) old new (Err x)) same
        (lift_goes (by_names w compilation given base analysis settled config root_key called is_read runner opened rests rank s runs flag) (before bound) old new (Err fault)
        ((priors_go w compilation given base analysis settled config root_key called is_read runner opened rests rank s runs flag entered bound is).stop old new fault d))

    -- and where that fails
    pub heads_stop : (old mid new : List Entry) (failure : Failure) → TaskLeads (by_names w compilation given base analysis settled config root_key called is_read runner opened rests rank s runs flag) (lift by_name) old mid (Ok bound)
        → Heads s.planned s.context flag entered runner mid new (Err failure) → TaskLeads (by_names w compilation given base analysis settled config root_key called is_read runner opened rests rank s runs flag) whole old new
        (Err failure)
    heads_stop old mid new failure h heads =
        task_parted (own_reading s.planned s.context flag entered) (TaskLeads (by_names w compilation given base analysis settled config root_key called is_read runner opened rests rank s runs flag) whole old new (Err failure))
        asked_places (λ u. lift before_places) mid new (Err failure)
        (λ u at confirmed after.
        let l = lifted_leads (own_reading s.planned s.context flag entered) before_places at new (Err failure) after in
        then_leads (by_names w compilation given base analysis settled config root_key called is_read runner opened rests rank s runs flag) head (λ x. (lift (before x) >>= λ names. ends (Ok (x, names)))) old at new bound (Err failure)
        (headed old mid at h (confirm_leads w compilation given base analysis settled config root_key called is_read runner opened rests rank s runs flag entered bound is mid at (Ok tt) confirmed))
        (stops_leads (by_names w compilation given base analysis settled config root_key called is_read runner opened rests rank s runs flag) (lift (before bound)) (λ names. ends (Ok (bound, names))) at new failure
        (stopped_calls l.0 failure at new l.1 l.2)))
        (λ other confirmed e.
        let same : other ≡ failure = sym (cc e) in
        subst (λ (x : Failure). TaskLeads (by_names w compilation given base analysis settled config root_key called is_read runner opened rests rank s runs flag) whole old new (Err x)) same
        (stops_leads (by_names w compilation given base analysis settled config root_key called is_read runner opened rests rank s runs flag) head (λ x. (lift (before x) >>= λ names. ends (Ok (x, names)))) old new other
        (then_leads (by_names w compilation given base analysis settled config root_key called is_read runner opened rests rank s runs flag) (lift by_name) (λ x. (asked x >>= λ u. ends (Ok x))) old mid new bound (Err other) h
        (stops_leads (by_names w compilation given base analysis settled config root_key called is_read runner opened rests rank s runs flag) (asked bound) (λ u. ends (Ok bound)) mid new other
        (confirm_leads w compilation given base analysis settled config root_key called is_read runner opened rests rank s runs flag entered bound is mid new (Err other) confirmed))))) heads

    -- no call that is brought about is of a later recipe
    never_later : (old mid new : List Entry) (calls : List CallRow) → TaskLeads (by_names w compilation given base analysis settled config root_key called is_read runner opened rests rank s runs flag) (lift by_name) old mid (Ok bound)
        → Heads s.planned s.context flag entered runner mid new (Ok calls) → any_from rank calls ≡ true → ⊥
    never_later old mid new calls h heads later =
        let r = heads_on old mid new calls h heads in
        true≢false (sym later ∙ none_from w compilation given base analysis settled config root_key called is_read runner opened rests rank s runs flag entered bound is calls r.2.each_one)

    pub below_stop : (old mid new : List Entry) (result : Result (List CallRow) Failure) (failure : Failure) → result ≡ Err failure
        → TaskLeads (by_names w compilation given base analysis settled config root_key called is_read runner opened rests rank s runs flag) (lift by_name) old mid (Ok bound)
        → HeadsBelow rank (Heads s.planned s.context flag entered runner mid new) result → TaskLeads (by_names w compilation given base analysis settled config root_key called is_read runner opened rests rank s runs flag) whole old new
        (Err failure)
    below_stop old mid new _ failure e h (brought gives low) = absurd (cc e)
    below_stop old mid new _ failure e h (failed {failure = other} gives) =
        let same : other ≡ failure = cc e in
        heads_stop old mid new failure h (subst (λ (x : Failure). Heads s.planned s.context flag entered runner mid new (Err x)) same gives)
    below_stop old mid new _ failure e h (unranked {calls = calls} {failure = other} gives later) = absurd (never_later old mid new calls h gives later)

    below_on : (old mid new : List Entry) (result : Result (List CallRow) Failure) (calls : List CallRow) → result ≡ Ok calls
        → TaskLeads (by_names w compilation given base analysis settled config root_key called is_read runner opened rests rank s runs flag) (lift by_name) old mid (Ok bound)
        → HeadsBelow rank (Heads s.planned s.context flag entered runner mid new) result → (names : List Call) × TaskLeads (by_names w compilation given base analysis settled config root_key called is_read runner opened rests rank s
        runs flag) whole old new (Ok (bound, names)) × Brought calls names
    below_on old mid new _ calls e h (brought {calls = found} gives low) =
        let same : found ≡ calls = cc e in
        heads_on old mid new calls h (subst (λ (x : List CallRow). Heads s.planned s.context flag entered runner mid new (Ok x)) same gives)
    below_on old mid new _ calls e h (failed gives) = absurd (cc e)
    below_on old mid new _ calls e h (unranked gives later) = absurd (cc e)

  -- ---- the whole of it

  pub record IsBegun (old new : List Entry) (entered : EnteredRow) (calls : List CallRow) : Type 0 where
    pub bound : Bound
    pub is : IsEnteredIn s.planned s.context entered bound
    pub names : List Call
    pub leads : TaskLeads (by_names w compilation given base analysis settled config root_key called is_read runner opened rests rank s runs flag) whole old new (Ok (bound, names))
    pub brings : AreBrought w compilation given base analysis settled config root_key called is_read runner opened rests rank s runs flag entered bound is calls names

  -- a call of its recipe with these groups
  module _ (call : CallRow) (at_rank : call.recipe ≡ rank) (with_groups : call.groups ≡ groups) where
    pub below_here : (H : Result (List CallRow) Failure → Type 0) (result : Result (List CallRow) Failure) → HeadsBelow call.recipe H result → HeadsBelow rank H result
    below_here H result h = subst (λ n. HeadsBelow n H result) at_rank h

    pub binds_here : (old new : List Entry) (result : Result EnteredRow Failure) → Binds s.planned s.context flag call.groups old new result → Binds s.planned s.context flag groups old new result
    binds_here old new result h = subst (λ gs. Binds s.planned s.context flag gs old new result) with_groups h

    pub begun_on : (old new : List Entry) (result : Result (EnteredRow × List CallRow) Failure) (entered : EnteredRow) (calls : List CallRow) → result ≡ Ok (entered, calls) → BeginsAt runner s.planned s.context call flag old new result
        → IsBegun old new entered calls
    begun_on old new _ entered calls e (unbound binds) = absurd (cc e)
    begun_on old new _ entered calls e (headless binds heads) = absurd (cc e)
    begun_on old new _ entered calls e (begins {mid} {entered = first} {priors} binds heads) =
        let both : (first, priors) ≡ (entered, calls) = ok_same (first, priors) (entered, calls) e in
        let b = is_bound old mid entered (binds_here old mid (Ok entered) (subst (λ (x : EnteredRow). Binds s.planned s.context flag call.groups old mid (Ok x)) (ap (λ (p : EnteredRow × List CallRow). p.0) both) binds)) in
        let h : HeadsBelow rank (Heads s.planned s.context flag entered runner mid new) (Ok calls) =
        below_here (Heads s.planned s.context flag entered runner mid new) (Ok calls)
        (subst (λ (p : EnteredRow × List CallRow). HeadsBelow call.recipe (Heads s.planned s.context flag p.0 runner mid new) (Ok p.1)) both heads) in
        let r = below_on entered b.bound b.is old mid new (Ok calls) calls refl b.leads h in
        record { bound = b.bound; is = b.is; names = r.0; leads = r.1; brings = r.2 }
      where
        ok_same : (a b : EnteredRow × List CallRow) → (◌≡◌ {A = Result (EnteredRow × List CallRow) Failure} (Ok a) (Ok b)) → a ≡ b
        ok_same a b e = cc e

    pub begun_stop : (old new : List Entry) (result : Result (EnteredRow × List CallRow) Failure) (failure : Failure) → result ≡ Err failure → IsTold failure → BeginsAt runner s.planned s.context call flag old new result
        → TaskLeads (by_names w compilation given base analysis settled config root_key called is_read runner opened rests rank s runs flag) whole old new (Err failure)
    begun_stop old new _ failure e told (unbound {failure = other} binds) =
        let same : other ≡ failure = cc e in
        head_stops old new failure (unbound_leads old new failure told (binds_here old new (Err failure) (subst (λ (x : Failure). Binds s.planned s.context flag call.groups old new (Err x)) same binds)))
    begun_stop old new _ failure e told (headless {mid} {entered} {failure = other} binds heads) =
        let same : other ≡ failure = cc e in
        let b = is_bound old mid entered (binds_here old mid (Ok entered) binds) in
        below_stop entered b.bound b.is old mid new (Err other) failure (ap (λ (x : Failure). let r : Result (List CallRow) Failure = Err x in r) same) b.leads (below_here (Heads s.planned s.context flag entered runner mid new) (Err other) heads)
    begun_stop old new _ failure e told (begins binds heads) = absurd (cc e)

    -- ---- the beginning by the call's name

    head_same : (acts (ground_here w compilation given base analysis settled config root_key called is_read runner opened rests rank s)).head
        (call_here w compilation given base analysis settled config root_key called is_read runner opened rests rank s groups) flag ≡ head
    head_same = met_here w compilation given base analysis settled config root_key called is_read runner opened rests rank s (no_task
        (ground_here w compilation given base analysis settled config root_key called is_read runner opened rests rank s)) (λ recipe row. head_task c
        (scene_of (ground_here w compilation given base analysis settled config root_key called is_read runner opened rests rank s) (at w compilation given base analysis settled config root_key called is_read runner opened rests rank s)
        row) name recipe flag groups) groups

    before_same : (bound : Bound) → (acts (ground_here w compilation given base analysis settled config root_key called is_read runner opened rests rank s)).priors
        (call_here w compilation given base analysis settled config root_key called is_read runner opened rests rank s groups) flag bound ≡ before bound
    before_same bound = met_here w compilation given base analysis settled config root_key called is_read runner opened rests rank s
        (no_dialogue (ground_here w compilation given base analysis settled config root_key called is_read runner opened rests rank s))
        (λ recipe row. block_calls c (scene_of (ground_here w compilation given base analysis settled config root_key called is_read runner opened rests rank s)
        (at w compilation given base analysis settled config root_key called is_read runner opened rests rank s) row) name recipe flag all_defined bound recipe.priors) groups

    whole_same : begin (acts (ground_here w compilation given base analysis settled config root_key called is_read runner opened rests rank s))
        (call_here w compilation given base analysis settled config root_key called is_read runner opened rests rank s groups) flag ≡ whole
    whole_same = λ i. head_same i >>= λ bound. (lift (before_same bound i) >>= λ calls. ends (Ok (bound, calls)))

    pub begins_by_name : (old new : List Entry) (result : Result (Bound × List Call) Failure) → TaskLeads (by_names w compilation given base analysis settled config root_key called is_read runner opened rests rank s runs flag) whole old
        new result
        → (steps (configuration_of config root_key w.expansion) all_defined opened).Begins (named w compilation given base analysis settled config root_key call) flag old new result
    begins_by_name old new result h =
        subst (λ (x : Call). TaskLeads (reading_at (configuration_of config root_key w.expansion) all_defined opened x) (begin (acts
        (ground_here w compilation given base analysis settled config root_key called is_read runner opened rests rank s)) x flag) old new result)
        (sym (named_so w compilation given base analysis settled config root_key called is_read runner opened rests rank s call at_rank ∙ ap
        (call_here w compilation given base analysis settled config root_key called is_read runner opened rests rank s) with_groups))
        (subst (λ (values : List Held). TaskLeads (reading_in values) (begin (acts (ground_here w compilation given base analysis settled config root_key called is_read runner opened rests rank s))
        (call_here w compilation given base analysis settled config root_key called is_read runner opened rests rank s groups) flag) old new result)
        (sym (values_are w compilation given base analysis settled config root_key called is_read runner opened rests rank s))
        (subst (λ (t : Task (Bound × List Call)). TaskLeads (by_names w compilation given base analysis settled config root_key called is_read runner opened rests rank s runs flag) t old new result) (sym whole_same) h))
