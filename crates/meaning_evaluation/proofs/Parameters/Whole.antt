-- What a recipe is bound to: its pairs and its parameters.
use Rattle.std.proofs.Common.{◌≡◌, ◌≢◌, inl, inr, ℕ, ◌==◌, Bool, false, List, [], length, Ok, Err, refl, ap, codes}
use Rattle.std.proofs.lemmas.Bool.{eq-eqb}
use Rattle.std.proofs.lemmas.Bool.Decides.{eqb_tells}
use Rattle.just_host.specs.declared.entry.Entry.{Entry}
use Rattle.just_host.specs.declared.job.Pair.{Pair}
use Rattle.just_value.specs.Frames.{BoundRow}
use Rattle.evaluate_context.specs.Surroundings.{by_name}
use Rattle.meaning_dialogues.specs.Faults.{Fault, internal, memory}
use Rattle.meaning_dialogues.specs.Dialogue.{Dialogue, Evaluates, Reading}
use Rattle.meaning_dialogues.specs.Terms.{Term}
use Rattle.meaning_dialogues.specs.Evaluation.{Value, Stage}
use Rattle.meaning_dialogues.specs.Calls.{empty}
use Rattle.meaning_evaluation.specs.Stages.Parameters.{Bound, Formal, bound_dialogue, env_dialogue, values_dialogue}
use Rattle.meaning_dialogues.proofs.Dialogues.{then_goes, then_stops, ends}
use Rattle.meaning_evaluation.specs.Parameters.Bindings.{GivesBound, GivesParameters}

unequal : (a b : ℕ) → a ≢ b → (a == b) ≡ false
unequal a b n = elim (eqb_tells a b) [ inl e ↦ absurd (n e.1) | inr e ↦ e.0 ]

-- the pairs, then the number of groups, then the parameters
module _ (reading : Reading) (stage_with : List Pair → Stage) (is_dependency : Bool) (recipe : List ℕ) (check : Formal → ℕ → Bool) (lists : Bool) (attributes : List (Term × Term)) (formals : List Formal) (groups : List Value) where
  abbrev pub pairs_of : Dialogue (List Pair)
  pairs_of = env_dialogue stage_with [] attributes

  abbrev pub values_with : List Pair → Dialogue (List Value)
  values_with pairs = values_dialogue (stage_with pairs) is_dependency recipe check lists empty formals groups

  abbrev pub whole : Dialogue Bound
  whole = bound_dialogue stage_with check lists is_dependency recipe attributes formals groups

  -- a pair with a fault
  pub bound_pairs_stop : (old new : List Entry) (f : Fault) → Evaluates reading pairs_of old new (Err f) → Evaluates reading whole old new (Err f)
  bound_pairs_stop old new f h = then_stops _ _ h

  -- not as many groups as parameters
  pub bound_uncounted : (old new : List Entry) (pairs : List Pair) → Evaluates reading pairs_of old new (Ok pairs) → length groups ≢ length formals → (f : Fault) → (f ≢ memory → f ≡ internal (codes "arguments do not match parameter count")) → Evaluates reading whole old new (Err f)
  bound_uncounted old new pairs h n f is = then_goes _ _ h (rw (unequal (length groups) (length formals) n) (ends _ (λ m. ap Err (is (λ e. m (ap Err e))))))

  -- a parameter with a fault
  pub bound_values_stop : (old mid new : List Entry) (pairs : List Pair) (f : Fault) → Evaluates reading pairs_of old mid (Ok pairs) → length groups ≡ length formals → Evaluates reading (values_with pairs) mid new (Err f) → Evaluates reading whole old new (Err f)
  bound_values_stop old mid new pairs f h e g = then_goes _ _ h (rw (eq-eqb (length groups) (length formals) e) (then_stops (values_with pairs) _ g))

  -- the pairs and the values
  pub bound_goes : (old mid new : List Entry) (pairs : List Pair) (values : List Value) → Evaluates reading pairs_of old mid (Ok pairs) → length groups ≡ length formals → Evaluates reading (values_with pairs) mid new (Ok values) → Evaluates reading whole old new (Ok (record { env = by_name pairs; values = values }))
  bound_goes old mid new pairs values h e g = then_goes _ _ h (rw (eq-eqb (length groups) (length formals) e) (then_goes (values_with pairs) _ g (ends _ (λ m. refl))))

  -- the pairs and the values, which are in the innermost frame and in the words
  pub bound_gives : (old mid new : List Entry) (passes : Bool) (own : List BoundRow) (words : List (List ℕ)) (pairs : List Pair) → Evaluates reading pairs_of old mid (Ok pairs) → length groups ≡ length formals → GivesParameters reading (values_with pairs) mid new passes lists formals own words
      → GivesBound reading whole old new passes lists formals own words pairs
  bound_gives old mid new passes own words pairs h e g = record {
    bound = record { env = by_name pairs; values = g.values };
    evaluates = bound_goes old mid new pairs g.values h e g.evaluates;
    is = record { env = refl; parameters = g.is };
  }
