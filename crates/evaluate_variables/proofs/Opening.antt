-- One variable after another.
use Rattle.std.proofs.Common.{◌≡◌, ◌≢◌, ℕ, suc, ◌+◌, ◌<◌, ◌≤◌, Bool, true, false, List, [], ◌∷◌, ◌++◌, length, get_or, drop, Option, Some, None, Result, Ok, Err, refl, sym, ap, ◌∙◌, add-one, append_assoc, drop-cons, inl, inr, subst}
use Rattle.std.specs.Prelude.{slice_get, is_some}
use Rattle.std.specs.Option.{option_map}
use Rattle.std.proofs.lemmas.List.{drop_all}
use Rattle.just_host.specs.declared.entry.Entry.{Entry}
use Rattle.just_value.specs.Frames.{BoundRow, ByNumber, Frames, Rebinds, look_up}
use Rattle.evaluate_context.specs.declared.context.AssignmentRef.{AssignmentRef}
use Rattle.evaluate_context.specs.declared.context.ExecutionContext.{ExecutionContext}
use Rattle.meaning_dialogues.specs.Dialogue.{Begins, Evaluates}
use Rattle.meaning_dialogues.specs.Evaluation.{Value}
use Rattle.meaning_dialogues.specs.Faults.{Fault, memory}
use Rattle.meaning_evaluation.specs.Stages.Assigned.{Assigned, BeginsAssigning, assigned_dialogue, row_of, all, skipped, opened, refused}
use Rattle.meaning_evaluation.proofs.Stages.Assigning.{assigning_here, assigns_begins, value_begins}
use Rattle.evaluate_variables.specs.Opened.{BeginsOpening, Opens, before, framed, opening_reading, opening_stage, ordered, overridden}

module _ (context : ExecutionContext) (outer : List (List BoundRow)) (is_read : ℕ → Bool) where
  pub then_opens : {xs ys : List Assigned} {own mid last : List BoundRow} {old now new : List Entry} {f g : Option Fault}
      → f ≡ None → Opens context outer is_read xs own old mid now f → Opens context outer is_read ys mid now last new g → Opens context outer is_read (xs ++ ys) own old last new g
  then_opens e all k = k
  then_opens e (skipped p m) k = skipped p (then_opens e m k)
  then_opens e (opened v r f d b s m) k = opened v r f d b s (then_opens e m k)
  then_opens e (refused r f d) k = absurd (cc)

  pub then_refused : {xs : List Assigned} (ys : List Assigned) {own last : List BoundRow} {old new : List Entry} {f : Option Fault} {fault : Fault}
      → f ≡ Some fault → Opens context outer is_read xs own old last new f → Opens context outer is_read (xs ++ ys) own old last new f
  then_refused ys e all = absurd (cc)
  then_refused ys e (skipped p m) = skipped p (then_refused ys e m)
  then_refused ys e (opened v r f d b s m) = opened v r f d b s (then_refused ys e m)
  then_refused ys e (refused r f d) = refused r f d

  -- from each frame variables can be opened to an end
  pub opening_here : (variables : List Assigned) (own : List BoundRow) (old : List Entry) → BeginsOpening context outer is_read variables own old old
  opening_here variables own old = assigning_here outer (λ own. opening_stage context (framed outer own)) (λ own. opening_reading (framed outer own)) context.module.now.settings.now.export (overridden context.overrides.now) is_read variables own old

  -- what opened variables record is a beginning
  pub opens_begins : {variables : List Assigned} {own last : List BoundRow} {old new : List Entry} {fault : Option Fault} → Opens context outer is_read variables own old last new fault → BeginsOpening context outer is_read variables own old new
  opens_begins h = assigns_begins outer (λ own. opening_stage context (framed outer own)) (λ own. opening_reading (framed outer own)) context.module.now.settings.now.export (overridden context.overrides.now) is_read h

  -- what begins variables begins them and those behind them
  pub begins_before : {xs : List Assigned} (ys : List Assigned) {own : List BoundRow} {old new : List Entry} → BeginsOpening context outer is_read xs own old new → BeginsOpening context outer is_read (xs ++ ys) own old new
  begins_before {xs} ys {own} {old} {new} b = by_fault b.fault b.assigns
    where
      by_fault : (fault : Option Fault) → Opens context outer is_read xs own old b.last (new ++ b.rest) fault → BeginsOpening context outer is_read (xs ++ ys) own old new
      by_fault None h =
          let others = opening_here ys b.last (new ++ b.rest) in
          record {
            rest = b.rest ++ others.rest;
            last = others.last;
            fault = others.fault;
            assigns = subst (λ n. Opens context outer is_read (xs ++ ys) own old others.last n others.fault) (append_assoc new b.rest others.rest) (then_opens refl h others.assigns);
          }
      by_fault (Some fault) h = record { rest = b.rest; last = b.last; fault = Some fault; assigns = then_refused ys refl h }

  -- whatever the rest leads to from here on, all leads to
  pub record OpensOn (variables rest : List Assigned) (own : List BoundRow) (old : List Entry) (now : List BoundRow) (mid : List Entry) : Type 0 where
    pub on : (last : List BoundRow) (new : List Entry) (fault : Option Fault) → Opens context outer is_read rest now mid last new fault → Opens context outer is_read variables own old last new fault

before_all : (o : Option AssignmentRef) (others : List Assigned) → before o others ≡ before o [] ++ others
before_all None others = refl
before_all (Some a) others = refl

-- what is found, by what was looked up
pub some_found : {X Y : Type 0} (f : X → Y) (o : Option X) (p : Option Y) → option_map f o ≡ p → is_some o ≡ true → is_some p ≡ true
some_found f None p e h = absurd (cc)
some_found f (Some x) p e h = rw (← e) refl

pub none_found : {X Y : Type 0} (f : X → Y) (o : Option X) (p : Option Y) → option_map f o ≡ p → is_some o ≡ false → p ≡ None
none_found f None p e h = sym e
none_found f (Some x) p e h = absurd (cc)

-- one variable
module _ (context : ExecutionContext) (is_read : ℕ → Bool) (a : Assigned) (s : Frames) where
  pub opens_unread : {old : List Entry} → is_read a.number ≡ false → Opens context s.outer is_read (a ∷ []) s.own old s.own old None
  opens_unread h = skipped (inl h) all

  pub opens_bound : {old : List Entry} → is_some (look_up s a.number) ≡ true → Opens context s.outer is_read (a ∷ []) s.own old s.own old None
  opens_bound h = skipped (inr h) all

  pub opens_value : {old new : List Entry} {value : Value} {next : List BoundRow} → is_read a.number ≡ true → look_up s a.number ≡ None
      → Evaluates (opening_reading s) (assigned_dialogue (overridden context.overrides.now a.number) (opening_stage context s) a.value) old new (Ok value)
      → Rebinds s.own (row_of context.module.now.settings.now.export a value) next → ByNumber next → Opens context s.outer is_read (a ∷ []) s.own old next new None
  opens_value {value = value} r f e b sorted = opened value r f (e.goes (λ q. cc)) b sorted all

  pub opens_fault : {old new : List Entry} {fault : Fault} → is_read a.number ≡ true → look_up s a.number ≡ None → fault ≢ memory
      → Evaluates (opening_reading s) (assigned_dialogue (overridden context.overrides.now a.number) (opening_stage context s) a.value) old new (Err fault)
      → Opens context s.outer is_read (a ∷ []) s.own old s.own new (Some fault)
  opens_fault r f n e = refused r f (e.goes (λ q. n (cc)))

  -- however the variable's value ended, what was recorded is a beginning
  pub opening_begins : {old new : List Entry} {result : Result Value Fault} → is_read a.number ≡ true → look_up s a.number ≡ None
      → Evaluates (opening_reading s) (assigned_dialogue (overridden context.overrides.now a.number) (opening_stage context s) a.value) old new result
      → BeginsOpening context s.outer is_read (a ∷ []) s.own old new
  opening_begins {old} {new} r f e =
      value_begins s.outer (λ own. opening_stage context (framed s.outer own)) (λ own. opening_reading (framed s.outer own)) context.module.now.settings.now.export (overridden context.overrides.now) is_read a [] s.own old new r f (opening_here context s.outer is_read []) e.begins

pub opens_none : (context : ExecutionContext) (outer : List (List BoundRow)) (is_read : ℕ → Bool) (own : List BoundRow) (old : List Entry) (o : Option AssignmentRef) → o ≡ None → Opens context outer is_read (before o []) own old own old None
opens_none context outer is_read own old o h = rw h all

-- the place is the first of those from it on
pub at_place : (variables : List AssignmentRef) (places : List ℕ) (i place d : ℕ) → i < length places → place ≡ get_or places i d → ordered variables (drop i places) ≡ ordered variables (place ∷ []) ++ ordered variables (drop (i + 1) places)
at_place variables places i place d h e =
    let split = drop-cons places i d h in
    let parts : drop i places ≡ place ∷ drop (i + 1) places = rw add-one (split ∙ ap (λ y. y ∷ drop (suc i) places) (sym e)) in
    rw parts (before_all (slice_get variables place) (ordered variables (drop (i + 1) places)))

-- the variables at the places from one on
module _ (context : ExecutionContext) (outer : List (List BoundRow)) (is_read : ℕ → Bool) (variables : List AssignmentRef) (places : List ℕ) (own : List BoundRow) (old : List Entry) where
  abbrev pub OpensPlaces : ℕ → List BoundRow → List Entry → Type 0
  OpensPlaces i now mid = OpensOn context outer is_read (ordered variables places) (ordered variables (drop i places)) own old now mid

  pub places_first : OpensPlaces 0 own old
  places_first = record { on = λ last new fault h. h }

  pub places_more : (i place d : ℕ) (now next : List BoundRow) (mid new : List Entry) → OpensPlaces i now mid → i < length places → place ≡ get_or places i d
      → Opens context outer is_read (ordered variables (place ∷ [])) now mid next new None → OpensPlaces (i + 1) next new
  places_more i place d now next mid new c h e o = record {
    on = λ last final fault rest. c.on last final fault (rw (at_place variables places i place d h e) (then_opens context outer is_read refl o rest));
  }

  pub places_fail : (i place d : ℕ) (now next : List BoundRow) (mid new : List Entry) (fault : Fault) → OpensPlaces i now mid → i < length places → place ≡ get_or places i d
      → Opens context outer is_read (ordered variables (place ∷ [])) now mid next new (Some fault) → Opens context outer is_read (ordered variables places) own old next new (Some fault)
  places_fail i place d now next mid new fault c h e o =
      c.on next new (Some fault) (rw (at_place variables places i place d h e) (then_refused context outer is_read (ordered variables (drop (i + 1) places)) refl o))

  -- what begins the variable at a place begins all of them
  pub places_begin : (i place d : ℕ) (now : List BoundRow) (mid new : List Entry) → OpensPlaces i now mid → i < length places → place ≡ get_or places i d
      → BeginsOpening context outer is_read (ordered variables (place ∷ [])) now mid new → BeginsOpening context outer is_read (ordered variables places) own old new
  places_begin i place d now mid new c h e b =
      let others = begins_before context outer is_read (ordered variables (drop (i + 1) places)) b in
      record {
        rest = others.rest;
        last = others.last;
        fault = others.fault;
        assigns = c.on others.last (new ++ others.rest) others.fault (rw (at_place variables places i place d h e) others.assigns);
      }

  pub places_end : (i : ℕ) (now : List BoundRow) (mid : List Entry) → OpensPlaces i now mid → length places ≤ i → Opens context outer is_read (ordered variables places) own old now mid None
  places_end i now mid c h = c.on now mid None (rw (drop_all i places h) all)
