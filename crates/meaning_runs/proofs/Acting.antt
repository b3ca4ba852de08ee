-- The steps of calls go by what they mean.
use Rattle.std.proofs.Common.{◌≡◌, List, [], ◌++◌, append-nil, Bool, Result, Ok, Err, refl, sym, ap, ◌∙◌, ◌⊎◌, inl, inr}
use Rattle.just_host.specs.declared.entry.Entry.{Entry}
use Rattle.meaning_dialogues.specs.Dialogue.{Dialogue, Lookup, Variable, Reading}
use Rattle.meaning_dialogues.specs.Evaluation.{Value}
use Rattle.meaning_dialogues.specs.Meaning.{Meaning}
use Rattle.meaning_dialogues.proofs.Unfolding.{IsMeant}
use Rattle.meaning_runs.specs.Failures.{Failure}
use Rattle.meaning_runs.specs.Task.{lift}
use Rattle.meaning_runs.specs.Told.{Answers, holds}
use Rattle.meaning_runs.specs.Meant.{is_event, ended_as, only, task_meaning}
use Rattle.meaning_runs.specs.Naive.{RunPart, End, went, failed, unanswered}
use Rattle.meaning_runs.specs.Acts.{Acts, begin, finish, host_parts, meaning_of}
use Rattle.meaning_runs.specs.Laws.{events_of, IsBegun, IsEnded, GoBy}
use Rattle.meaning_runs.proofs.Restricted.{only_of}
use Rattle.meaning_runs.proofs.Tasks.{Sound, unfolds, and_then, and_then_end, meaning_then, lift_means}

-- the tasks of calls of a kind read only what means what is read
pub record AreSound {Call Bound : Type 0} (a : Acts Call Bound) (reading : Call → Reading) (variables : Call → Lookup → Variable → Meaning Value) (Of : Call → Type 0) : Type 0 where
  pub begin : (call : Call) (flag : Bool) → Of call → Sound (IsMeant (reading call) (variables call)) (begin a call flag)
  pub finish : (call : Call) (flag : Bool) (bound : Bound) → Of call → Sound (IsMeant (reading call) (variables call)) (finish a call flag bound)

same_part : {A : Type 0} (es fs : List Entry) (a b : End A Failure) → es ≡ fs → a ≡ b → (let p : RunPart Entry A Failure = record { events = es; end = a } in p) ≡ (let q : RunPart Entry A Failure = record { events = fs; end = b } in q)
same_part {A = A} es fs a b e f =
    ap (λ l. let p : RunPart Entry A Failure = record { events = l; end = a } in p) e ∙ ap (λ x. let p : RunPart Entry A Failure = record { events = fs; end = x } in p) f

module _ {Call Bound : Type 0} where
  abbrev Begun : RunPart Entry Bound Failure → (Bound → End (List Call) Failure) → List Entry → Result (Bound × List Call) Failure → Type 0
  Begun head priors events (Ok begun) = (head ≡ record { events = events; end = went begun.0 }) × (priors begun.0 ≡ went begun.1)
  Begun head priors events (Err failure) = (head ≡ record { events = events; end = failed failure })
      ⊎ ((bound : Bound) × (head ≡ record { events = events; end = went bound }) × (priors bound ≡ failed failure))

  -- what begins, from the priors' end
  abbrev paired : Bound → End (List Call) Failure → RunPart Entry (Bound × List Call) Failure
  paired bound end = and_then_end [] end (λ calls. only (went (bound, calls)))

  begun_went : (es events : List Entry) (bound : Bound) (priors : Bound → End (List Call) Failure) (end : End (List Call) Failure) (r : Result (Bound × List Call) Failure) → priors bound ≡ end
      → (let p : RunPart Entry (Bound × List Call) Failure = record { events = es ++ (paired bound end).events; end = (paired bound end).end } in p) ≡ record { events = events; end = ended_as r }
      → Begun (record { events = es; end = went bound }) priors events r
  begun_went es events bound priors (went calls) (Ok begun) q e =
      let f : es ++ [] ≡ events = ap (λ p. p.events) e in
      let g : went (bound, calls) ≡ went begun = ap (λ p. p.end) e in
      let b : (bound, calls) ≡ begun = cc in
      let c : bound ≡ begun.0 = ap (λ x. x.0) b in
      (same_part es events (went bound) (went begun.0) (sym (append-nil es) ∙ f) (ap went c), ap priors (sym c) ∙ (q ∙ ap (λ x. went x.1) b))
  begun_went es events bound priors (went calls) (Err failure) q e = absurd (let g : went (bound, calls) ≡ failed failure = ap (λ p. p.end) e in cc)
  begun_went es events bound priors (failed f) (Ok begun) q e = absurd (let g : failed f ≡ went begun = ap (λ p. p.end) e in cc)
  begun_went es events bound priors (failed f) (Err failure) q e =
      let h : es ++ [] ≡ events = ap (λ p. p.events) e in
      let g : failed f ≡ failed failure = ap (λ p. p.end) e in
      let c : f ≡ failure = cc in
      inr (bound, same_part es events (went bound) (went bound) (sym (append-nil es) ∙ h) refl, q ∙ ap failed c)
  begun_went es events bound priors unanswered (Ok begun) q e = absurd (let g : unanswered ≡ went begun = ap (λ p. p.end) e in cc)
  begun_went es events bound priors unanswered (Err failure) q e = absurd (let g : unanswered ≡ failed failure = ap (λ p. p.end) e in cc)

  begun_by : (es events : List Entry) (end : End Bound Failure) (priors : Bound → End (List Call) Failure) (r : Result (Bound × List Call) Failure)
      → and_then_end es end (λ bound. paired bound (priors bound)) ≡ record { events = events; end = ended_as r } → Begun (record { events = es; end = end }) priors events r
  begun_by es events (went bound) priors r e = begun_went es events bound priors (priors bound) r refl e
  begun_by es events (failed f) priors (Ok begun) e = absurd (let g : failed f ≡ went begun = ap (λ p. p.end) e in cc)
  begun_by es events (failed f) priors (Err failure) e =
      let g : failed f ≡ failed failure = ap (λ p. p.end) e in
      let c : f ≡ failure = cc in
      inl (same_part es events (failed f) (failed failure) (ap (λ p. p.events) e) (ap failed c))
  begun_by es events unanswered priors (Ok begun) e = absurd (let g : unanswered ≡ went begun = ap (λ p. p.end) e in cc)
  begun_by es events unanswered priors (Err failure) e = absurd (let g : unanswered ≡ failed failure = ap (λ p. p.end) e in cc)

module _ {Call : Type 0} where
  abbrev Ended : RunPart Entry (Unit {0}) Failure → End (List Call) Failure → List Entry → Result (List Call) Failure → Type 0
  Ended body subsequents events (Ok calls) = (body ≡ record { events = events; end = went tt }) × (subsequents ≡ went calls)
  Ended body subsequents events (Err failure) = (body ≡ record { events = events; end = failed failure })
      ⊎ ((body ≡ record { events = events; end = went tt }) × (subsequents ≡ failed failure))

  ended_went : (es events : List Entry) (u : Unit {0}) (end : End (List Call) Failure) (r : Result (List Call) Failure)
      → (let p : RunPart Entry (List Call) Failure = record { events = es ++ []; end = end } in p) ≡ record { events = events; end = ended_as r } → Ended (record { events = es; end = went u }) end events r
  ended_went es events tt (went calls) (Ok others) e =
      (same_part es events _ _ (sym (append-nil es) ∙ ap (λ p. p.events) e) refl, ap (λ p. p.end) e)
  ended_went es events tt (went calls) (Err failure) e = absurd (let g : went calls ≡ failed failure = ap (λ p. p.end) e in cc)
  ended_went es events tt (failed f) (Ok others) e = absurd (let g : failed f ≡ went others = ap (λ p. p.end) e in cc)
  ended_went es events tt (failed f) (Err failure) e =
      inr (same_part es events _ _ (sym (append-nil es) ∙ ap (λ p. p.events) e) refl, ap (λ p. p.end) e)
  ended_went es events tt unanswered (Ok others) e = absurd (let g : unanswered ≡ went others = ap (λ p. p.end) e in cc)
  ended_went es events tt unanswered (Err failure) e = absurd (let g : unanswered ≡ failed failure = ap (λ p. p.end) e in cc)

  ended_by : (es events : List Entry) (end : End (Unit {0}) Failure) (subsequents : End (List Call) Failure) (r : Result (List Call) Failure)
      → and_then_end es end (λ u. only subsequents) ≡ record { events = events; end = ended_as r } → Ended (record { events = es; end = end }) subsequents events r
  ended_by es events (went u) subsequents r e = ended_went es events u subsequents r e
  ended_by es events (failed f) subsequents (Ok others) e = absurd (let g : failed f ≡ went others = ap (λ p. p.end) e in cc)
  ended_by es events (failed f) subsequents (Err failure) e =
      let g : failed f ≡ failed failure = ap (λ p. p.end) e in
      let c : f ≡ failure = cc in
      inl (same_part es events (failed f) (failed failure) (ap (λ p. p.events) e) (ap failed c))
  ended_by es events unanswered subsequents (Ok others) e = absurd (let g : unanswered ≡ went others = ap (λ p. p.end) e in cc)
  ended_by es events unanswered subsequents (Err failure) e = absurd (let g : unanswered ≡ failed failure = ap (λ p. p.end) e in cc)

-- the part of a task that is a dialogue, by its end alone
lifted : {A : Type 0} (f : Answers) (variables : Lookup → Variable → Meaning Value) (d : Dialogue A) → task_meaning f variables (lift d) ≡ only (task_meaning f variables (lift d)).end
lifted f variables d = lift_means f variables d ∙ ap (λ p. only p.end) (sym (lift_means f variables d))

-- where the next parts are equal, so is what comes of a part and these
then_same : {A B : Type 0} (es : List Entry) (end : End A Failure) (k l : A → RunPart Entry B Failure) → ((a : A) → k a ≡ l a) → and_then_end es end k ≡ and_then_end es end l
then_same es (went a) k l h = ap (λ p. let q : RunPart Entry _ Failure = record { events = es ++ p.events; end = p.end } in q) (h a)
then_same es (failed f) k l h = refl
then_same es unanswered k l h = refl

module _ {Call Bound : Type 0} (a : Acts Call Bound) (f : Answers) (reading : Call → Reading) (variables : Call → Lookup → Variable → Meaning Value) where
  head_then : (call : Call) (flag : Bool) → task_meaning f (variables call) (begin a call flag)
      ≡ and_then (task_meaning f (variables call) (a.head call flag)) (λ bound. paired bound (task_meaning f (variables call) (lift (a.priors call flag bound))).end)
  head_then call flag =
      let v = variables call in
      meaning_then f v _ (a.head call flag)
      ∙ then_same _ (task_meaning f v (a.head call flag)).end _ _ (λ bound. meaning_then f v _ (lift (a.priors call flag bound)) ∙ ap (λ p. and_then p (λ calls. only (went (bound, calls)))) (lifted f v (a.priors call flag bound)))

  body_then : (call : Call) (flag : Bool) (bound : Bound) → task_meaning f (variables call) (finish a call flag bound)
      ≡ and_then (task_meaning f (variables call) (a.body call flag bound)) (λ u. only (task_meaning f (variables call) (lift (a.subsequents call flag bound))).end)
  body_then call flag bound =
      let v = variables call in
      meaning_then f v _ (a.body call flag bound) ∙ then_same _ (task_meaning f v (a.body call flag bound)).end _ _ (λ u. lifted f v (a.subsequents call flag bound))

  as_begun : (call : Call) (flag : Bool) (events : List Entry) (r : Result (Bound × List Call) Failure)
      → Begun (task_meaning f (variables call) (a.head call flag)) (λ bound. (task_meaning f (variables call) (lift (a.priors call flag bound))).end) events r
      → IsBegun is_event (holds f f.recipe) (meaning_of a f variables) call flag events r
  as_begun call flag events (Ok begun) h = h
  as_begun call flag events (Err failure) h = h

  as_ended : (call : Call) (flag : Bool) (bound : Bound) (events : List Entry) (r : Result (List Call) Failure)
      → Ended (task_meaning f (variables call) (a.body call flag bound)) (task_meaning f (variables call) (lift (a.subsequents call flag bound))).end events r
      → IsEnded is_event (holds f f.recipe) (meaning_of a f variables) call flag bound events r
  as_ended call flag bound events (Ok calls) h = h
  as_ended call flag bound events (Err failure) h = h

  -- The steps for every host, of calls of a kind, go by the meaning, where what their tasks read means what is read.
  pub acts_go_by : (Of : Call → Type 0) → AreSound a reading variables Of → GoBy is_event (holds f f.recipe) (meaning_of a f variables) (only_of (host_parts a reading) Of)
  acts_go_by Of sound = record {
    begun = λ call flag old new r l. (
      l.1.piece,
      l.1.entries,
      λ agrees.
          as_begun call flag (events_of is_event l.1.piece) r (begun_by _ _ _ _ r (sym (head_then call flag) ∙ unfolds (reading call) f (variables call) (begin a call flag) l.1.piece r (sound.begin call flag l.0) agrees l.1.goes)),
    );
    ended = λ call flag bound old new r l. (
      l.1.piece,
      l.1.entries,
      λ agrees.
          as_ended call flag bound (events_of is_event l.1.piece) r (ended_by _ _ _ _ r (sym (body_then call flag bound) ∙ unfolds (reading call) f (variables call) (finish a call flag bound) l.1.piece r (sound.finish call flag bound l.0) agrees l.1.goes)),
    );
  }
