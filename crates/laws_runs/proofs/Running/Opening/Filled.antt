-- Variables that are assigned by places are filled by names, where each step is.
use Rattle.std.proofs.Common.{◌≡◌, ◌⊎◌, inl, inr, refl, sym, ◌∙◌, ap, subst, Bool, true, false, cond, List, [], ◌∷◌, ◌++◌, Option, Some, None, Result, Ok, Err, ℕ}
use Rattle.std.specs.Prelude.{IsSome}
use Rattle.just_host.specs.declared.entry.Entry.{Entry}
use Rattle.just_host.specs.declared.job.Pair.{Pair}
use Rattle.just_value.specs.Frames.{BoundRow, ByNumber, Rebinds, found_in}
use Rattle.evaluate_context.specs.Environment.{text_of}
use Rattle.meaning_dialogues.specs.Dialogue.{DialogueGoes, Reading}
use Rattle.meaning_dialogues.specs.Evaluation.{Stage, Value}
use Rattle.meaning_dialogues.specs.Faults.{Fault}
use Rattle.meaning_evaluation.specs.Stages.Assigned.{Assigned, Assigns, assigned_dialogue, row_of}
use Rattle.meaning_evaluation.specs.Stages.Assigned as places
use Rattle.meaning_evaluation.specs.Named.{Definitions, ModuleRow}
use Rattle.meaning_evaluation.specs.Scopes.{Configuration}
use Rattle.just_meaning.specs.Opening.{Fills, Held, Side, pairs_of, reading_in, scene_in, side_dialogue, side_of}
use Rattle.just_meaning.specs.Opening as named

-- the names of the variables that are read
abbrev pub read_names : (ℕ → Bool) → List Assigned → List (List ℕ)
read_names is_read [] = []
read_names is_read (a ∷ more) = cond (is_read a.number) (text_of a.name ∷ read_names is_read more) (read_names is_read more)

module _ (c : Configuration) (defined : Definitions) (path : List (List ℕ)) (row : ModuleRow) (pairs : List Pair)
    (outer : List (List BoundRow)) (stage_with : List BoundRow → Stage) (reading_with : List BoundRow → Reading) (export : Bool) (overrides : ℕ → Option (List ℕ)) (is_read : ℕ → Bool) where
  -- what the variable stands for leads by names to this end
  pub record GoesByName (a : Assigned) (values : List Held) (old new : List Entry) (r : Result Value Fault) : Type 0 where
    pub side : Side
    pub is : side_of c defined path (record { name = text_of a.name; number = None }) ≡ Some side
    pub goes : DialogueGoes (reading_in values) (side_dialogue c (scene_in c defined path row pairs (pairs_of defined path values)) side) old new r

  abbrev pub after : List Held → Assigned → Value → List Held
  after values a value = values ++ (record { name = text_of a.name; value = value }) ∷ []

  -- what is so of the variables that are left, the frame and the values by names: of each that is read, it is not bound and leads by names where it leads by places; and it stays so
  pub record AreSteps (P : List Assigned → List BoundRow → List Held → Type 0) : Type 0 where
    pub passes : (a : Assigned) (more : List Assigned) (own : List BoundRow) (values : List Held) → P (a ∷ more) own values → is_read a.number ≡ false → P more own values
    pub unbound : (a : Assigned) (more : List Assigned) (own : List BoundRow) (values : List Held) → P (a ∷ more) own values → is_read a.number ≡ true → found_in (own ∷ outer) a.number ≡ None
    pub goes : (a : Assigned) (more : List Assigned) (own : List BoundRow) (values : List Held) → P (a ∷ more) own values → is_read a.number ≡ true
        → (old new : List Entry) (r : Result Value Fault) → DialogueGoes (reading_with own) (assigned_dialogue (overrides a.number) (stage_with own) a.value) old new r → GoesByName a values old new r
    pub opens : (a : Assigned) (more : List Assigned) (own : List BoundRow) (values : List Held) → P (a ∷ more) own values → is_read a.number ≡ true
        → (value : Value) (next : List BoundRow) → Rebinds own (row_of export a value) next → ByNumber next → P more next (after values a value)

  module _ (P : List Assigned → List BoundRow → List Held → Type 0) where
    -- the variables of these names are filled, and it is so of what they come to
    pub record AreFilled (values : List Held) (names : List (List ℕ)) (last : List BoundRow) (old new : List Entry) : Type 0 where
      pub held : List Held
      pub fills : Fills c defined path row pairs values names old new (Ok held)
      pub holds : P [] last held

    -- or they are refused for the same fault
    abbrev pub EndByName : List Held → List (List ℕ) → List BoundRow → List Entry → List Entry → Option Fault → Type 0
    EndByName values names last old new None = AreFilled values names last old new
    EndByName values names last old new (Some fault) = Fills c defined path row pairs values names old new (Err fault)

    names_passed : (a : Assigned) (more : List Assigned) → is_read a.number ≡ false → read_names is_read (a ∷ more) ≡ read_names is_read more
    names_passed a more e = ap (λ b. cond b (text_of a.name ∷ read_names is_read more) (read_names is_read more)) e

    names_opened : (a : Assigned) (more : List Assigned) → is_read a.number ≡ true → read_names is_read (a ∷ more) ≡ text_of a.name ∷ read_names is_read more
    names_opened a more e = ap (λ b. cond b (text_of a.name ∷ read_names is_read more) (read_names is_read more)) e

    one_more : (a : Assigned) (values : List Held) (value : Value) (names : List (List ℕ)) (last : List BoundRow) (old mid new : List Entry) (fault : Option Fault) → GoesByName a values old mid (Ok value)
        → EndByName (after values a value) names last mid new fault → EndByName values (text_of a.name ∷ names) last old new fault
    one_more a values value names last old mid new None g o = record { held = o.held; fills = named.has_value value g.is g.goes o.fills; holds = o.holds }
    one_more a values value names last old mid new (Some fault) g o = named.has_value value g.is g.goes o

    module _ (steps : AreSteps P) where
      -- what is assigned by places is filled by names
      pub filled : {list : List Assigned} {own last : List BoundRow} {old new : List Entry} {fault : Option Fault} (values : List Held)
          → Assigns outer stage_with reading_with export overrides is_read list own old last new fault → P list own values → EndByName values (read_names is_read list) last old new fault
      filled values places.all p = record { held = values; fills = named.all; holds = p }
      filled {own} {last} {old} {new} {fault} values (places.skipped {a} {more} unread rest) p = by_test (is_read a.number) refl unread (λ e. filled values rest (steps.passes a more own values p e))
        where
          by_test : (b : Bool) → is_read a.number ≡ b → (is_read a.number ≡ false) ⊎ IsSome (found_in (own ∷ outer) a.number) → (is_read a.number ≡ false → EndByName values (read_names is_read more) last old new fault)
              → EndByName values (read_names is_read (a ∷ more)) last old new fault
          by_test false e unread go = subst (λ names. EndByName values names last old new fault) (sym (names_passed a more e)) (go e)
          by_test true e (inl f) go = absurd (cc (sym e ∙ f))
          by_test true e (inr s) go = absurd (cc (subst IsSome (steps.unbound a more own values p e) s))
      filled {own} {last} {old} {new} {fault} values (places.opened {a} {more} {next} {mid} value read none goes rebinds sorted rest) p =
          subst (λ names. EndByName values names last old new fault) (sym (names_opened a more read))
          (one_more a values value (read_names is_read more) last old mid new fault (steps.goes a more own values p read old mid (Ok value) goes)
          (filled (after values a value) rest (steps.opens a more own values p read value next rebinds sorted)))
      filled {own} {last} {old} {new} values (places.refused {a} {more} {fault} read none goes) p =
          let g = steps.goes a more own values p read old new (Err fault) goes in
          subst (λ names. EndByName values names last old new (Some fault)) (sym (names_opened a more read)) (named.has_none g.is g.goes)
