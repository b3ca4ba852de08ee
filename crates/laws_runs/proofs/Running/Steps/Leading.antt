-- Where one dialogue leads, another leads, to what goes with it.
use Rattle.std.proofs.Common.{◌≡◌, subst, refl, List, Ok, Err}
use Rattle.just_host.specs.declared.entry.Entry.{Entry}
use Rattle.meaning_dialogues.specs.Dialogue.{Dialogue, DialogueGoes, Ends, Reading, ◌>>=◌}
use Rattle.meaning_dialogues.specs.Faults.{Fault}
use Rattle.meaning_dialogues.proofs.Dialogues.{goes_on, stops}
use Rattle.laws_runs.proofs.ByName.Goes.{GoesAs, parted}

module _ (first second : Reading) where
  -- where the first leads to a value, the second leads to one that goes with it, and to the same fault where the first leads to one
  pub record GoesBy {A B : Type 0} (With : A → B → Type 0) (t : Dialogue A) (u : Dialogue B) : Type 0 where
    pub on : (old new : List Entry) (a : A) → DialogueGoes first t old new (Ok a) → (b : B) × DialogueGoes second u old new (Ok b) × With a b
    pub stop : (old new : List Entry) (fault : Fault) → DialogueGoes first t old new (Err fault) → DialogueGoes second u old new (Err fault)

  -- one that goes as another gives the same
  pub goes_as : {A : Type 0} (t u : Dialogue A) → GoesAs first second t u → GoesBy (λ (a b : A). a ≡ b) t u
  goes_as t u go = record {
    on = λ old new a d. (a, go old new (Ok a) d, refl);
    stop = λ old new fault d. go old new (Err fault) d;
  }

  pub ends_by : {A B : Type 0} (With : A → B → Type 0) (a : A) (b : B) → With a b → GoesBy With (Ends (Ok a)) (Ends (Ok b))
  ends_by {A = A} With a b with = record {
    on = λ old new c d. (b, (d.0, refl), subst (λ x. With x b) (let same : a ≡ c = cc (d.1) in same) with);
    stop = λ old new fault d. absurd (cc (d.1));
  }

  -- one after the other
  pub then_by : {A B C D : Type 0} (With : A → B → Type 0) (Then : C → D → Type 0) (t : Dialogue A) (u : Dialogue B) (k : A → Dialogue C) (l : B → Dialogue D)
      → GoesBy With t u → ((a : A) (b : B) → With a b → GoesBy Then (k a) (l b)) → GoesBy Then (t >>= k) (u >>= l)
  then_by {C = C} {D = D} With Then t u k l h g = record {
    on = λ old new c d.
        parted first second ((b : D) × DialogueGoes second (u >>= l) old new (Ok b) × Then c b) t k old new (Ok c)
        (λ a mid e f. let one = h.on old mid a e in let two = (g a one.0 one.2).on mid new c f in (two.0, goes_on second u l old mid new one.0 (Ok two.0) one.1 two.1, two.2))
        (λ fault e is. absurd (cc is)) d;
    stop = λ old new fault d.
        parted first second (DialogueGoes second (u >>= l) old new (Err fault)) t k old new (Err fault)
        (λ a mid e f. let one = h.on old mid a e in goes_on second u l old mid new one.0 (Err fault) one.1 ((g a one.0 one.2).stop mid new fault f))
        (λ other e is. subst (λ x. DialogueGoes second (u >>= l) old new (Err x)) (let same : other ≡ fault = cc is in same) (stops second u l old new other (h.stop old new other e))) d;
  }
