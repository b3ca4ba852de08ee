-- The pairs of `env` attributes, one after another.
use Rattle.std.proofs.Common.{◌≡◌, ◌≢◌, ℕ, List, [], ◌∷◌, ◌++◌, Option, Some, None, Result, Ok, Err, refl, sym, ap, ◌∙◌, subst, append-nil}
use Rattle.std.specs.Global.{Box}
use Rattle.std.specs.List.{cons_option}
use Rattle.just_host.specs.declared.entry.Entry.{Entry}
use Rattle.just_host.specs.declared.job.Pair.{Pair}
use Rattle.tree_attributes.specs.declared.attribute.Attribute.{Attribute}
use Rattle.tree_attributes.specs.declared.attribute.Attribute.TheVariants.{Env}
use Rattle.tree_expressions.specs.declared.expression.Expression.{Expression}
use Rattle.tree_attributes.specs.declared.attribute_item.AttributeItem.{AttributeItem}
use Rattle.just_value.specs.Values.{joined}
use Rattle.meaning_dialogues.specs.Faults.{Fault, env_key, memory}
use Rattle.meaning_dialogues.specs.Dialogue.{Dialogue, Ends, Asks, Reads, ◌>>=◌, Begins, DialogueGoes, Evaluates, Reading}
use Rattle.meaning_dialogues.specs.Terms.{Term, term_of}
use Rattle.meaning_dialogues.specs.Evaluation.{Value, Stage, dialogue, text_dialogue}
use Rattle.meaning_evaluation.specs.Stages.Parameters.{pair_of, env_dialogue}
use Rattle.meaning_dialogues.proofs.Dialogues.{weaker, goes_on, stops, begins_first, whole_begins, then_goes, then_stops, ends, not_begun}
use Rattle.meaning_evaluation.specs.Parameters.Bindings.{env_term, env_terms, pair_dialogue, attribute_dialogue}

-- whatever the attributes that are left give after these pairs, all attributes give
pub record LeadsPairs (reading : Reading) (stage_with : List Pair → Stage) (items rest : List AttributeItem) (old now : List Entry) (pairs : List Pair) : Type 0 where
  pub on : (new : List Entry) (r : Result (List Pair) Fault) → DialogueGoes reading (env_dialogue stage_with pairs (env_terms rest)) now new r → DialogueGoes reading (env_dialogue stage_with [] (env_terms items)) old new r

-- of three dialogues in order the first two may be taken as one, or the last two
regrouped : {A B C : Type 0} (reading : Reading) (t : Dialogue A) (k : A → Dialogue B) (l : B → Dialogue C) (old new : List Entry) (r : Result C Fault) → DialogueGoes reading ((t >>= k) >>= l) old new r → DialogueGoes reading (t >>= λ a. k a >>= l) old new r
regrouped reading (Ends (Ok a)) k l old new r h = h
regrouped reading (Ends (Err f)) k l old new r h = h
regrouped reading (Asks q next) k l old new r h = (h.0, regrouped reading (next h.0) k l _ new r h.1)
regrouped reading (Reads p x next) k l old new r h = weaker (reading p x) (λ v g. regrouped reading (next v) k l old new r g) (λ f g. g) h

-- what follows may be another that leads where it leads
followed : {A B : Type 0} (reading : Reading) (t : Dialogue A) (k l : A → Dialogue B) (old new : List Entry) (r : Result B Fault) → ((a : A) (mid : List Entry) → DialogueGoes reading (k a) mid new r → DialogueGoes reading (l a) mid new r) → DialogueGoes reading (t >>= k) old new r → DialogueGoes reading (t >>= l) old new r
followed reading (Ends (Ok a)) k l old new r go h = go a old h
followed reading (Ends (Err f)) k l old new r go h = h
followed reading (Asks q next) k l old new r go h = (h.0, followed reading (next h.0) k l _ new r go h.1)
followed reading (Reads p x next) k l old new r go h = weaker (reading p x) (λ v g. followed reading (next v) k l old new r go g) (λ f g. g) h

module _ (reading : Reading) where
  -- the key has a fault
  pub pair_key_stops : (stage : Stage) (key value : Term) (old new : List Entry) (f : Fault) → Evaluates reading (text_dialogue env_key (dialogue stage key)) old new (Err f) → Evaluates reading (pair_dialogue stage key value) old new (Err f)
  pair_key_stops stage key value old new f h = then_stops _ _ h

  -- the value has a fault
  pub pair_value_stops : (stage : Stage) (key value : Term) (old mid new : List Entry) (name : List ℕ) (f : Fault) → Evaluates reading (text_dialogue env_key (dialogue stage key)) old mid (Ok name) → Evaluates reading (dialogue stage value) mid new (Err f) → Evaluates reading (pair_dialogue stage key value) old new (Err f)
  pair_value_stops stage key value old mid new name f h g = then_goes _ _ h (then_stops _ _ g)

  -- memory ran out behind the value
  pub pair_memory : (stage : Stage) (key value : Term) (old mid new : List Entry) (name : List ℕ) (v : Value) → Evaluates reading (text_dialogue env_key (dialogue stage key)) old mid (Ok name) → Evaluates reading (dialogue stage value) mid new (Ok v) → Evaluates reading (pair_dialogue stage key value) old new (Err memory)
  pair_memory stage key value old mid new name v h g = then_goes _ _ h (then_goes _ _ g (not_begun _ new))

  -- the value has no element
  pub pair_none : (stage : Stage) (key value : Term) (old mid new : List Entry) (name : List ℕ) (v : Value) → Evaluates reading (text_dialogue env_key (dialogue stage key)) old mid (Ok name) → Evaluates reading (dialogue stage value) mid new (Ok v) → v ≡ [] → Evaluates reading (pair_dialogue stage key value) old new (Ok [])
  pair_none stage key value old mid new name v h g e = then_goes _ _ h (then_goes _ _ g (ends _ (λ n. ap (λ w. Ok (pair_of name w)) (sym e))))

  some_pair : (name : List ℕ) (v : Value) (pair : Pair) → v ≢ [] → pair.name ≡ name → pair.value ≡ joined v → pair ∷ [] ≡ pair_of name v
  some_pair name [] pair n e f = absurd (n refl)
  some_pair name (text ∷ texts) pair n e f = rw (← e, ← f) refl

  -- the value has an element
  pub pair_some : (stage : Stage) (key value : Term) (old mid new : List Entry) (name : List ℕ) (v : Value) (pair : Pair) → Evaluates reading (text_dialogue env_key (dialogue stage key)) old mid (Ok name) → Evaluates reading (dialogue stage value) mid new (Ok v) → v ≢ [] → pair.name ≡ name → pair.value ≡ joined v → Evaluates reading (pair_dialogue stage key value) old new (Ok (pair ∷ []))
  pair_some stage key value old mid new name v pair h g n e f = then_goes _ _ h (then_goes _ _ g (ends _ (λ m. ap Ok (some_pair name v pair n e f))))

  pair_then : (stage : Stage) (rest : List Pair → Dialogue (List Pair)) (key value : Term) (old new : List Entry) (r : Result (List Pair) Fault) → DialogueGoes reading (pair_dialogue stage key value >>= rest) old new r → DialogueGoes reading (text_dialogue env_key (dialogue stage key) >>= λ name. dialogue stage value >>= λ given. rest (pair_of name given)) old new r
  pair_then stage rest key value old new r h =
      followed reading (text_dialogue env_key (dialogue stage key)) (λ name. (dialogue stage value >>= λ given. Ends (Ok (pair_of name given))) >>= rest) (λ name. dialogue stage value >>= λ given. rest (pair_of name given)) old new r
      (λ name mid g. regrouped reading (dialogue stage value) (λ given. Ends (Ok (pair_of name given))) rest mid new r g)
      (regrouped reading (text_dialogue env_key (dialogue stage key)) (λ name. dialogue stage value >>= λ given. Ends (Ok (pair_of name given))) rest old new r h)

  -- the attribute is `env`
  pub attribute_env : (stage : Stage) (a : Attribute) (key : Expression) (value : Box Expression) (old new : List Entry) (r : Result (List Pair) Fault) → a ≡ Env key value → Evaluates reading (pair_dialogue stage (term_of key) (term_of value.value)) old new r → Evaluates reading (attribute_dialogue stage (env_term a)) old new r
  attribute_env stage a key value old new r e h = rw e h

  no_env : (a : Attribute) → ((key : Expression) (value : Box Expression) → a ≢ Env key value) → env_term a ≡ None
  no_env (Env key value) n = absurd (n key value refl)
  no_env other n = refl

  -- the attribute is another
  pub attribute_other : (stage : Stage) (a : Attribute) (old : List Entry) → ((key : Expression) (value : Box Expression) → a ≢ Env key value) → Evaluates reading (attribute_dialogue stage (env_term a)) old old (Ok [])
  attribute_other stage a old n = rw (no_env a n) (ends (Ok []) (λ m. refl))

  module _ (stage_with : List Pair → Stage) where
    attribute_then : (o : Option (Term × Term)) (terms : List (Term × Term)) (pairs : List Pair) (old new : List Entry) (r : Result (List Pair) Fault) → DialogueGoes reading (attribute_dialogue (stage_with pairs) o >>= λ more. env_dialogue stage_with (pairs ++ more) terms) old new r → DialogueGoes reading (env_dialogue stage_with pairs (cons_option o terms)) old new r
    attribute_then None terms pairs old new r h = rw (← append-nil pairs) h
    attribute_then (Some (key, value)) terms pairs old new r h = pair_then (stage_with pairs) (λ more. env_dialogue stage_with (pairs ++ more) terms) key value old new r h

    module _ (items : List AttributeItem) where
      abbrev pub all_pairs : Dialogue (List Pair)
      all_pairs = env_dialogue stage_with [] (env_terms items)

      -- before the first attribute
      pub pairs_first : (old : List Entry) → LeadsPairs reading stage_with items items old old []
      pairs_first old = record { on = λ new r h. h }

      -- no attribute is left
      pub pairs_end : (old new : List Entry) (pairs : List Pair) (rest : List AttributeItem) → LeadsPairs reading stage_with items rest old new pairs → rest ≡ [] → Evaluates reading all_pairs old new (Ok pairs)
      pairs_end old new pairs rest c over =
          let whole : DialogueGoes reading all_pairs old new (Ok pairs) = c.on new (Ok pairs) (rw over (refl, refl)) in
          record { goes = λ n. whole; begins = whole_begins reading all_pairs old new (Ok pairs) whole }

      module _ (old mid new : List Entry) (pairs : List Pair) (rest : List AttributeItem) (c : LeadsPairs reading stage_with items rest old mid pairs) (x : AttributeItem) (others : List AttributeItem) (is : rest ≡ x ∷ others) where
        abbrev here : Dialogue (List Pair)
        here = attribute_dialogue (stage_with pairs) (env_term x.attribute)

        abbrev following : List Pair → Dialogue (List Pair)
        following more = env_dialogue stage_with (pairs ++ more) (env_terms others)

        leads : (last : List Entry) (r : Result (List Pair) Fault) → DialogueGoes reading (here >>= following) mid last r → DialogueGoes reading all_pairs old last r
        leads last r h = c.on last r (rw is (attribute_then (env_term x.attribute) (env_terms others) pairs mid last r h))

        -- what begins the attribute begins all of them
        pairs_begin : Begins reading here mid new → Begins reading all_pairs old new
        pairs_begin b =
            let next = begins_first reading here following mid new b in
            record { rest = next.rest; result = next.result; goes = leads (new ++ next.rest) next.result next.goes }

        pairs_on : (more : List Pair) → Evaluates reading here mid new (Ok more) → LeadsPairs reading stage_with items others old new (pairs ++ more)
        pairs_on more g = record { on = λ last r d. leads last r (goes_on reading here following mid new last more r (g.goes (λ q. cc)) d) }

        -- an attribute that gives a pair
        pub pairs_more : (more next : List Pair) (pair : Pair) → Evaluates reading here mid new (Ok more) → more ≡ pair ∷ [] → next ≡ pairs ++ pair ∷ [] → LeadsPairs reading stage_with items others old new next
        pairs_more more next pair g one e = rw (e, ← one) (pairs_on more g)

        -- an attribute that gives none: it is no `env`, or its value has no element
        pub pairs_passed : (more : List Pair) → Evaluates reading here mid new (Ok more) → more ≡ [] → LeadsPairs reading stage_with items others old new pairs
        pairs_passed more g none = subst (LeadsPairs reading stage_with items others old new) (ap (λ l. pairs ++ l) none ∙ append-nil pairs) (pairs_on more g)

        -- an attribute with a fault
        pub pairs_stop : (f : Fault) → Evaluates reading here mid new (Err f) → Evaluates reading all_pairs old new (Err f)
        pairs_stop f g = record { goes = λ n. leads new (Err f) (stops reading here following mid new f (g.goes (λ q. n (cc)))); begins = pairs_begin g.begins }

        -- memory ran out behind an attribute
        pub pairs_memory : (r : Result (List Pair) Fault) → Evaluates reading here mid new r → Evaluates reading all_pairs old new (Err memory)
        pairs_memory r g = record { goes = λ n. absurd (n refl); begins = pairs_begin g.begins }
