-- Rows of dialogues, one after another.
use Rattle.std.proofs.Common.{◌≡◌, ℕ, suc, ◌+◌, ◌<◌, ◌≤◌, List, [], ◌∷◌, ◌++◌, length, get_or, drop, Result, Ok, Err, refl, sym, ap, ◌∙◌, append_assoc, append-nil, add-one, drop-cons, Bool, length-append}
use Rattle.std.proofs.lemmas.List.{drop_all}
use Rattle.std.specs.List.{flat_map}
use Rattle.just_host.specs.declared.entry.Entry.{Entry}
use Rattle.tree_expressions.specs.declared.expression.Expression.{Expression}
use Rattle.tree_expressions.specs.declared.string_literal.StringLiteral.{StringLiteral}
use Rattle.just_value.specs.Values.{joined}
use Rattle.meaning_dialogues.specs.Faults.{Fault, memory}
use Rattle.meaning_dialogues.specs.Terms.{term_of, terms_of, holes_of, listing}
use Rattle.meaning_dialogues.specs.Dialogue.{Dialogue, Ends, ◌>>=◌, Begins, DialogueGoes, Evaluates, Reading}
use Rattle.meaning_dialogues.specs.Evaluation.{Value, Stage, row, dialogue, dialogues, filled}
use Rattle.meaning_dialogues.specs.Calls.{arguments, as_argument}
use Rattle.meaning_dialogues.proofs.Dialogues.{goes_on, stops, begins_here, begins_first, begins_on, whole_begins, then_goes, then_stops, ends}

-- values in front
abbrev pub after : List Value → Result (List Value) Fault → Result (List Value) Fault
after vs (Ok ws) = Ok (vs ++ ws)
after vs (Err e) = Err e

after_after : (vs : List Value) (v : Value) (r : Result (List Value) Fault) → after vs (after (v ∷ []) r) ≡ after (vs ++ v ∷ []) r
after_after vs v (Ok ws) = ap Ok (sym (append_assoc vs (v ∷ []) ws))
after_after vs v (Err e) = refl

after_none : (r : Result (List Value) Fault) → r ≡ after [] r
after_none (Ok ws) = refl
after_none (Err e) = refl

-- whatever the rest gives from here on, all gives with these values in front
pub record Leads (reading : Reading) (all rest : Dialogue (List Value)) (old now : List Entry) (values : List Value) : Type 0 where
  pub on : (new : List Entry) (r : Result (List Value) Fault) → DialogueGoes reading rest now new r → DialogueGoes reading all old new (after values r)

-- the same of texts, which the rest has already
pub record Fills (reading : Reading) (all rest : Dialogue (List ℕ)) (old now : List Entry) : Type 0 where
  pub on : (new : List Entry) (r : Result (List ℕ) Fault) → DialogueGoes reading rest now new r → DialogueGoes reading all old new r

-- values of a list, put together
pub record Lists (reading : Reading) (all rest : Dialogue (List Value)) (old now : List Entry) (list : Value) : Type 0 where
  pub values : List Value
  pub is : list ≡ flat_map (λ v. v) values
  pub leads : Leads reading all rest old now values

at_place : {A : Type 0} (es : List A) (i : ℕ) (x : A) → i < length es → x ≡ get_or es i x → drop i es ≡ x ∷ drop (i + 1) es
at_place es i x h e = let d = drop-cons es i x h in rw add-one (d ∙ ap (λ y. y ∷ drop (suc i) es) (sym e))

module _ (reading : Reading) where
  one_first : (d : Dialogue Value) (ds : List (Dialogue Value)) (mid new last : List Entry) (v : Value) (r : Result (List Value) Fault) → DialogueGoes reading d mid new (Ok v) → DialogueGoes reading (row ds) new last r → DialogueGoes reading (row (d ∷ ds)) mid last (after (v ∷ []) r)
  one_first d ds mid new last v (Ok ws) h g =
      goes_on reading d _ mid new last v (Ok (v ∷ ws)) h (goes_on reading (row ds) _ new last last ws (Ok (v ∷ ws)) g (refl, refl))
  one_first d ds mid new last v (Err e) h g =
      goes_on reading d _ mid new last v (Err e) h (stops reading (row ds) _ new last e g)

  -- what begins the rest begins all
  pub leads_begins : (all rest : Dialogue (List Value)) (old mid new : List Entry) (values : List Value) → Leads reading all rest old mid values → Begins reading rest mid new → Begins reading all old new
  leads_begins all rest old mid new values c b = record { rest = b.rest; result = after values b.result; goes = c.on (new ++ b.rest) b.result b.goes }

  pub fills_begins : (all rest : Dialogue (List ℕ)) (old mid new : List Entry) → Fills reading all rest old mid → Begins reading rest mid new → Begins reading all old new
  fills_begins all rest old mid new c b = record { rest = b.rest; result = b.result; goes = c.on (new ++ b.rest) b.result b.goes }

  -- memory ran out before the rest
  pub leads_memory : (all rest : Dialogue (List Value)) (old now : List Entry) (values : List Value) → Leads reading all rest old now values → Evaluates reading all old now (Err memory)
  leads_memory all rest old now values c = record { goes = λ n. absurd (n refl); begins = leads_begins all rest old now now values c (begins_here reading rest now) }

  pub fills_memory : (all rest : Dialogue (List ℕ)) (old now : List Entry) → Fills reading all rest old now → Evaluates reading all old now (Err memory)
  fills_memory all rest old now c = record { goes = λ n. absurd (n refl); begins = fills_begins all rest old now now c (begins_here reading rest now) }

  pub leads_first : (all : Dialogue (List Value)) (old : List Entry) → Leads reading all all old old []
  leads_first all old = record { on = λ new r h. rw (← after_none r) h }

  pub leads_more : (all : Dialogue (List Value)) (stage : Stage) (es : List Expression) (old mid new : List Entry) (values : List Value) (i : ℕ) (x : Expression) (v : Value) → Leads reading all (row (dialogues stage (terms_of (drop i es)))) old mid values → i < length es → x ≡ get_or es i x → Evaluates reading (dialogue stage (term_of x)) mid new (Ok v) → Leads reading all (row (dialogues stage (terms_of (drop (i + 1) es)))) old new (values ++ v ∷ [])
  leads_more all stage es old mid new values i x v c h e g = record {
    on = λ last r d.
        let here = one_first (dialogue stage (term_of x)) (dialogues stage (terms_of (drop (i + 1) es))) mid new last v r (g.goes (λ q. cc)) d in
        let whole = c.on last (after (v ∷ []) r) (rw (at_place es i x h e) here) in
        rw (← after_after values v r) whole;
  }

  pub leads_stop : (all : Dialogue (List Value)) (stage : Stage) (es : List Expression) (old mid new : List Entry) (values : List Value) (i : ℕ) (x : Expression) (f : Fault) → Leads reading all (row (dialogues stage (terms_of (drop i es)))) old mid values → i < length es → x ≡ get_or es i x → Evaluates reading (dialogue stage (term_of x)) mid new (Err f) → Evaluates reading all old new (Err f)
  leads_stop all stage es old mid new values i x f c h e g = record {
    goes = λ n.
        let here = stops reading (dialogue stage (term_of x)) (λ value. row (dialogues stage (terms_of (drop (i + 1) es))) >>= λ values. Ends (Ok (value ∷ values))) mid new f (g.goes (λ q. n (cc))) in
        c.on new (Err f) (rw (at_place es i x h e) here);
    begins = leads_begins all (row (dialogues stage (terms_of (drop i es)))) old mid new values c
        (rw (at_place es i x h e) (begins_first reading (dialogue stage (term_of x)) (λ value. row (dialogues stage (terms_of (drop (i + 1) es))) >>= λ values. Ends (Ok (value ∷ values))) mid new g.begins));
  }

  pub leads_end : (all : Dialogue (List Value)) (stage : Stage) (es : List Expression) (old new : List Entry) (values : List Value) (i : ℕ) → Leads reading all (row (dialogues stage (terms_of (drop i es)))) old new values → length es ≤ i → Evaluates reading all old new (Ok values)
  leads_end all stage es old new values i c h =
      let whole : DialogueGoes reading all old new (Ok values) = rw (← append-nil values) (c.on new (Ok []) (rw (drop_all i es h) (refl, refl))) in
      record { goes = λ n. whole; begins = whole_begins reading all old new (Ok values) whole }

  -- a format string
  pub fills_first : (all : Dialogue (List ℕ)) (old : List Entry) → Fills reading all all old old
  fills_first all old = record { on = λ new r h. h }

  pub fills_more : (all : Dialogue (List ℕ)) (stage : Stage) (es : List (Expression × StringLiteral)) (old mid new : List Entry) (so_far : List ℕ) (i : ℕ) (x : Expression × StringLiteral) (v : Value) → Fills reading all (filled stage so_far (holes_of (drop i es))) old mid → i < length es → x ≡ get_or es i x → Evaluates reading (dialogue stage (term_of x.0)) mid new (Ok v) → Fills reading all (filled stage (so_far ++ (joined v ++ x.1.cooked)) (holes_of (drop (i + 1) es))) old new
  fills_more all stage es old mid new so_far i x v c h e g = record {
    on = λ last r d.
        let here = goes_on reading (dialogue stage (term_of x.0)) (λ value. filled stage (so_far ++ (joined value ++ x.1.cooked)) (holes_of (drop (i + 1) es))) mid new last v r (g.goes (λ q. cc)) d in
        c.on last r (rw (at_place es i x h e) here);
  }

  pub fills_stop : (all : Dialogue (List ℕ)) (stage : Stage) (es : List (Expression × StringLiteral)) (old mid new : List Entry) (so_far : List ℕ) (i : ℕ) (x : Expression × StringLiteral) (f : Fault) → Fills reading all (filled stage so_far (holes_of (drop i es))) old mid → i < length es → x ≡ get_or es i x → Evaluates reading (dialogue stage (term_of x.0)) mid new (Err f) → Evaluates reading all old new (Err f)
  fills_stop all stage es old mid new so_far i x f c h e g = record {
    goes = λ n.
        let here = stops reading (dialogue stage (term_of x.0)) (λ value. filled stage (so_far ++ (joined value ++ x.1.cooked)) (holes_of (drop (i + 1) es))) mid new f (g.goes (λ q. n (cc))) in
        c.on new (Err f) (rw (at_place es i x h e) here);
    begins = fills_begins all (filled stage so_far (holes_of (drop i es))) old mid new c
        (rw (at_place es i x h e) (begins_first reading (dialogue stage (term_of x.0)) (λ value. filled stage (so_far ++ (joined value ++ x.1.cooked)) (holes_of (drop (i + 1) es))) mid new g.begins));
  }

  pub fills_end : (all : Dialogue (List ℕ)) (stage : Stage) (es : List (Expression × StringLiteral)) (old new : List Entry) (so_far : List ℕ) (i : ℕ) → Fills reading all (filled stage so_far (holes_of (drop i es))) old new → length es ≤ i → Evaluates reading all old new (Ok so_far)
  fills_end all stage es old new so_far i c h =
      let whole : DialogueGoes reading all old new (Ok so_far) = c.on new (Ok so_far) (rw (drop_all i es h) (refl, refl)) in
      record { goes = λ n. whole; begins = whole_begins reading all old new (Ok so_far) whole }

  -- arguments of a built-in function
  module _ (takes : ℕ → Bool) (name : List ℕ) where
    one_argument : (k : ℕ) (d : Dialogue Value) (ds : List (Dialogue Value)) (mid new last : List Entry) (v w : Value) (r : Result (List Value) Fault) → DialogueGoes reading d mid new (Ok v) → as_argument (takes k) name v ≡ Ok w → DialogueGoes reading (arguments takes name (k + 1) ds) new last r → DialogueGoes reading (arguments takes name k (d ∷ ds)) mid last (after (w ∷ []) r)
    one_argument k d ds mid new last v w (Ok ws) h e g =
        goes_on reading d _ mid new last v (Ok (w ∷ ws)) h (rw e (goes_on reading (arguments takes name (k + 1) ds) _ new last last ws (Ok (w ∷ ws)) g (refl, refl)))
    one_argument k d ds mid new last v w (Err f) h e g =
        goes_on reading d _ mid new last v (Err f) h (rw e (stops reading (arguments takes name (k + 1) ds) _ new last f g))

    pub arguments_more : (all : Dialogue (List Value)) (stage : Stage) (es : List Expression) (old mid new : List Entry) (values : List Value) (i : ℕ) (x : Expression) (v w : Value) → Leads reading all (arguments takes name (length values) (dialogues stage (terms_of (drop i es)))) old mid values → i < length es → x ≡ get_or es i x → Evaluates reading (dialogue stage (term_of x)) mid new (Ok v) → Ok w ≡ as_argument (takes (length values)) name v → Leads reading all (arguments takes name (length (values ++ w ∷ [])) (dialogues stage (terms_of (drop (i + 1) es)))) old new (values ++ w ∷ [])
    arguments_more all stage es old mid new values i x v w c h e g is = record {
      on = λ last r d.
          let n : length (values ++ w ∷ []) ≡ length values + 1 = length-append values (w ∷ []) in
          let rest = rw n at d in
          let here = one_argument (length values) (dialogue stage (term_of x)) (dialogues stage (terms_of (drop (i + 1) es))) mid new last v w r (g.goes (λ q. cc)) (sym is) rest in
          let whole = c.on last (after (w ∷ []) r) (rw (at_place es i x h e) here) in
          rw (← after_after values w r) whole;
    }

    pub arguments_stop : (all : Dialogue (List Value)) (stage : Stage) (es : List Expression) (old mid new : List Entry) (values : List Value) (i : ℕ) (x : Expression) (f : Fault) → Leads reading all (arguments takes name (length values) (dialogues stage (terms_of (drop i es)))) old mid values → i < length es → x ≡ get_or es i x → Evaluates reading (dialogue stage (term_of x)) mid new (Err f) → Evaluates reading all old new (Err f)
    arguments_stop all stage es old mid new values i x f c h e g = record {
      goes = λ n.
          let here = stops reading (dialogue stage (term_of x)) (λ value. Ends (as_argument (takes (length values)) name value) >>= λ argument. arguments takes name (length values + 1) (dialogues stage (terms_of (drop (i + 1) es))) >>= λ values. Ends (Ok (argument ∷ values))) mid new f (g.goes (λ q. n (cc))) in
          c.on new (Err f) (rw (at_place es i x h e) here);
      begins = leads_begins all (arguments takes name (length values) (dialogues stage (terms_of (drop i es)))) old mid new values c
          (rw (at_place es i x h e) (begins_first reading (dialogue stage (term_of x)) (λ value. Ends (as_argument (takes (length values)) name value) >>= λ argument. arguments takes name (length values + 1) (dialogues stage (terms_of (drop (i + 1) es))) >>= λ values. Ends (Ok (argument ∷ values))) mid new g.begins));
    }

    pub arguments_refuse : (all : Dialogue (List Value)) (stage : Stage) (es : List Expression) (old mid new : List Entry) (values : List Value) (i : ℕ) (x : Expression) (v : Value) (f : Fault) → Leads reading all (arguments takes name (length values) (dialogues stage (terms_of (drop i es)))) old mid values → i < length es → x ≡ get_or es i x → Evaluates reading (dialogue stage (term_of x)) mid new (Ok v) → Err f ≡ as_argument (takes (length values)) name v → Evaluates reading all old new (Err f)
    arguments_refuse all stage es old mid new values i x v f c h e g is =
        let here : DialogueGoes reading (arguments takes name (length values) (dialogue stage (term_of x) ∷ dialogues stage (terms_of (drop (i + 1) es)))) mid new (Err f)
        = goes_on reading (dialogue stage (term_of x)) _ mid new new v (Err f) (g.goes (λ q. cc)) (rw (← is) (refl, refl)) in
        let whole : DialogueGoes reading all old new (Err f) = c.on new (Err f) (rw (at_place es i x h e) here) in
        record { goes = λ n. whole; begins = whole_begins reading all old new (Err f) whole }

    -- what was evaluated behind an argument begins all, whatever becomes of the argument
    pub arguments_begin : (all : Dialogue (List Value)) (stage : Stage) (es : List Expression) (old mid new : List Entry) (values : List Value) (i : ℕ) (x : Expression) (v : Value) → Leads reading all (arguments takes name (length values) (dialogues stage (terms_of (drop i es)))) old mid values → i < length es → x ≡ get_or es i x → Evaluates reading (dialogue stage (term_of x)) mid new (Ok v) → Begins reading all old new
    arguments_begin all stage es old mid new values i x v c h e g =
        let more : Value → Dialogue (List Value) = λ value. Ends (as_argument (takes (length values)) name value) >>= λ argument. arguments takes name (length values + 1) (dialogues stage (terms_of (drop (i + 1) es))) >>= λ values. Ends (Ok (argument ∷ values)) in
        leads_begins all (arguments takes name (length values) (dialogues stage (terms_of (drop i es)))) old mid new values c
        (rw (at_place es i x h e) (begins_on reading (dialogue stage (term_of x)) more mid new new v (g.goes (λ q. cc)) (begins_here reading (more v) new)))

    -- memory ran out behind an argument
    pub arguments_memory : (all : Dialogue (List Value)) (stage : Stage) (es : List Expression) (old mid new : List Entry) (values : List Value) (i : ℕ) (x : Expression) (v : Value) → Leads reading all (arguments takes name (length values) (dialogues stage (terms_of (drop i es)))) old mid values → i < length es → x ≡ get_or es i x → Evaluates reading (dialogue stage (term_of x)) mid new (Ok v) → Evaluates reading all old new (Err memory)
    arguments_memory all stage es old mid new values i x v c h e g = record { goes = λ n. absurd (n refl); begins = arguments_begin all stage es old mid new values i x v c h e g }

    pub arguments_end : (all : Dialogue (List Value)) (stage : Stage) (es : List Expression) (old new : List Entry) (values : List Value) (i : ℕ) → Leads reading all (arguments takes name (length values) (dialogues stage (terms_of (drop i es)))) old new values → length es ≤ i → Evaluates reading all old new (Ok values)
    arguments_end all stage es old new values i c h =
        let whole : DialogueGoes reading all old new (Ok values) = rw (← append-nil values) (c.on new (Ok []) (rw (drop_all i es h) (refl, refl))) in
        record { goes = λ n. whole; begins = whole_begins reading all old new (Ok values) whole }

  -- a list
  flat_more : (values : List Value) (v : Value) → flat_map (λ w. w) (values ++ v ∷ []) ≡ flat_map (λ w. w) values ++ v
  flat_more [] v = append-nil v
  flat_more (w ∷ ws) v = ap (λ l. w ++ l) (flat_more ws v) ∙ sym (append_assoc w (flat_map (λ w. w) ws) v)

  pub lists_first : (all : Dialogue (List Value)) (old : List Entry) → Lists reading all all old old []
  lists_first all old = record { values = []; is = refl; leads = leads_first all old }

  pub lists_more : (all : Dialogue (List Value)) (stage : Stage) (es : List Expression) (old mid new : List Entry) (list more : Value) (i : ℕ) (x : Expression) (v : Value) → Lists reading all (row (dialogues stage (terms_of (drop i es)))) old mid list → i < length es → x ≡ get_or es i x → Evaluates reading (dialogue stage (term_of x)) mid new (Ok v) → more ≡ list ++ v → Lists reading all (row (dialogues stage (terms_of (drop (i + 1) es)))) old new more
  lists_more all stage es old mid new list more i x v c h e g is = record {
    values = c.values ++ v ∷ [];
    is = is ∙ (ap (λ l. l ++ v) c.is ∙ sym (flat_more c.values v));
    leads = leads_more all stage es old mid new c.values i x v c.leads h e g;
  }

  pub lists_stop : (stage : Stage) (es : List Expression) (old mid new : List Entry) (list : Value) (i : ℕ) (x : Expression) (f : Fault) → Lists reading (row (dialogues stage (terms_of es))) (row (dialogues stage (terms_of (drop i es)))) old mid list → i < length es → x ≡ get_or es i x → Evaluates reading (dialogue stage (term_of x)) mid new (Err f) → Evaluates reading (dialogue stage (listing (terms_of es))) old new (Err f)
  lists_stop stage es old mid new list i x f c h e g =
      then_stops _ _ (leads_stop (row (dialogues stage (terms_of es))) stage es old mid new c.values i x f c.leads h e g)

  -- memory ran out before the rest
  pub lists_memory : (stage : Stage) (es : List Expression) (old now : List Entry) (list : Value) (i : ℕ) → Lists reading (row (dialogues stage (terms_of es))) (row (dialogues stage (terms_of (drop i es)))) old now list → Evaluates reading (dialogue stage (listing (terms_of es))) old now (Err memory)
  lists_memory stage es old now list i c = then_stops _ _ (leads_memory (row (dialogues stage (terms_of es))) (row (dialogues stage (terms_of (drop i es)))) old now c.values c.leads)

  pub lists_end : (stage : Stage) (es : List Expression) (old new : List Entry) (list : Value) (i : ℕ) → Lists reading (row (dialogues stage (terms_of es))) (row (dialogues stage (terms_of (drop i es)))) old new list → length es ≤ i → Evaluates reading (dialogue stage (listing (terms_of es))) old new (Ok list)
  lists_end stage es old new list i c h =
      then_goes _ _ (leads_end (row (dialogues stage (terms_of es))) stage es old new c.values i c.leads h) (ends _ (λ n. ap Ok c.is))
