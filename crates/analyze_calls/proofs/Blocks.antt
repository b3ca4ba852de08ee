-- Blocks of dependencies: arguments, rows and calls.
use Rattle.std.proofs.Common.{◌≡◌, ℕ, suc, ◌+◌, ◌<◌, Bool, true, false, cond, List, [], ◌∷◌, ◌++◌, append_assoc, append-nil, length, map, take, drop, get_or, Option, Some, None, MatchOption, refl, sym, ap, ◌∙◌, subst, arith, inl, inr}
use Rattle.std.specs.Prelude.{◌≢◌, ◌⊎◌, Result, Ok, Err, option_map, codes}
use Rattle.std.specs.List.{flat_map, position, position_from}
use Rattle.std.proofs.lemmas.Iterator.Adapters.{position_from-zero}
use Rattle.just_host.specs.declared.entry.Entry.{Entry}
use Rattle.tree_items.specs.Recipes.{is_variadic}
use Rattle.tree_items.specs.declared.recipe.DependencyArgument.{DependencyArgument}
use Rattle.tree_items.specs.declared.recipe.Parameter.{Parameter}
use Rattle.tree_items.specs.declared.recipe.UnresolvedDependency.{UnresolvedDependency}
use Rattle.meaning_dialogues.specs.Dialogue.{Begins, DialogueGoes, Evaluates, Reading}
use Rattle.meaning_dialogues.specs.Evaluation.{Stage, Value}
use Rattle.meaning_dialogues.specs.Faults.{Fault, internal, memory}
use Rattle.meaning_dialogues.proofs.Dialogues.{begins_first, begins_here, ends, goes_on, stops, then_stops, whole_begins}
use Rattle.evaluate_expressions.proofs.WantOfMemory.{unless_memory}
use Rattle.laws_evaluation.specs.Bodies.Performing.{in_front}
use Rattle.analyze_calls.specs.Blocks.{block, brings, brings_at, call_with, first_of, groups_for, others_of, rows_of, shared_out, starred_rows, values_of}
use Rattle.analyze_calls.specs.Calls.{CallRow, row_of, rows}
use Rattle.analyze_calls.specs.declared.call.Call.{Call}
use Rattle.analyze_calls.specs.Placed.{placed_in}
use Rattle.analyze_calls.specs.declared.plan.Planned.{Planned}
use Rattle.analyze_calls.specs.declared.plan.Runner.{Runner}
use Rattle.evaluate_context.specs.declared.context.ExecutionContext.{ExecutionContext}

-- ---- groups

-- what the parameters that are left share out of the values that are left, after these groups, is the whole
abbrev pub AreShared : List Parameter → List Value → List Value → List Parameter → List Value → Type 0
AreShared parameters values groups rest remaining = shared_out parameters values ≡ groups ++ shared_out rest remaining

pub shared_more : (parameters : List Parameter) (values groups : List Value) (p : Parameter) (rest : List Parameter) (remaining after : List Value) (group : Value) → AreShared parameters values groups (p ∷ rest) remaining → group ≡ cond (is_variadic p.kind) (flat_map (λ v. v) remaining) (first_of remaining) → after ≡ cond (is_variadic p.kind) [] (others_of remaining) → AreShared parameters values (groups ++ group ∷ []) rest after
shared_more parameters values groups p rest remaining after group h g a = by (is_variadic p.kind) refl
  where
    by : (b : Bool) → is_variadic p.kind ≡ b → AreShared parameters values (groups ++ group ∷ []) rest after
    by true e = let g' = rw e at g in let a' = rw e at a in let h' = rw e at h in rw (g', a') (h' ∙ sym (append_assoc groups (flat_map (λ v. v) remaining ∷ []) (shared_out rest [])))
    by false e = let g' = rw e at g in let a' = rw e at a in let h' = rw e at h in rw (g', a') (h' ∙ sym (append_assoc groups (first_of remaining ∷ []) (shared_out rest (others_of remaining))))

-- ---- rows

is_starred : DependencyArgument → Bool
is_starred a = a.starred

-- the rows by where the first starred argument stands, of arguments that are counted from n on
abbrev RowsBy : ℕ → List DependencyArgument → List Value → Option ℕ → Type 0
RowsBy n arguments values None = rows_of arguments values ≡ values ∷ []
RowsBy n arguments values (Some k) = (j : ℕ) × (k ≡ n + j) × (j < length values) × (rows_of arguments values ≡ starred_rows j values)

mapped : (v : Value) (f : List ℕ → List Value) (es : Value) → map (λ row. v ∷ row) (map f es) ≡ map (λ e. v ∷ f e) es
mapped v f [] = refl
mapped v f (e ∷ es) = ap (λ l. (v ∷ f e) ∷ l) (mapped v f es)

rows_by : (n : ℕ) (as' : List DependencyArgument) (vs : List Value) → length vs ≡ length as' → RowsBy n as' vs (position_from (λ a. a.starred) n as')
rows_by n [] [] e = refl
rows_by n [] (v ∷ vs) e = absurd (cc)
rows_by n (a ∷ as') [] e = absurd (cc)
rows_by n (a ∷ as') (v ∷ vs) e = by (rows_by (n + 1) as' vs (cc)) a.starred refl
  where
    later : (o : Option ℕ) → a.starred ≡ false → RowsBy (n + 1) as' vs o → RowsBy n (a ∷ as') (v ∷ vs) o
    later None s h = rw s (ap (λ rows. map (λ row. v ∷ row) rows) h)
    later (Some k) s (j, is, lt, h) = (suc j, omega arith, omega arith, rw s (ap (λ rows. map (λ row. v ∷ row) rows) h ∙ mapped v (λ element. take j vs ++ (element ∷ []) ∷ drop (suc j) vs) (get_or vs j [])))

    by : RowsBy (n + 1) as' vs (position_from (λ x. x.starred) (n + 1) as') → (b : Bool) → a.starred ≡ b → RowsBy n (a ∷ as') (v ∷ vs) (cond a.starred (Some n) (position_from (λ x. x.starred) (n + 1) as'))
    by ih true s = rw s (0, omega arith, omega arith, refl)
    by ih false s = subst (λ b. RowsBy n (a ∷ as') (v ∷ vs) (cond b (Some n) (position_from (λ x. x.starred) (n + 1) as'))) (sym s) (later (position_from (λ x. x.starred) (n + 1) as') s ih)

by_position : (as' : List DependencyArgument) (vs : List Value) (o : Option ℕ) → length vs ≡ length as' → position (λ a. a.starred) as' ≡ o → RowsBy 0 as' vs o
by_position as' vs o e is = subst (RowsBy 0 as' vs) (sym (position_from-zero (λ a. a.starred) as') ∙ is) (rows_by 0 as' vs e)

-- the first starred argument is at this place
pub rows_starred : (as' : List DependencyArgument) (vs : List Value) (k : ℕ) → length vs ≡ length as' → position (λ a. a.starred) as' ≡ Some k → (k < length vs) × (rows_of as' vs ≡ starred_rows k vs)
rows_starred as' vs k e is = by (by_position as' vs (Some k) e is)
  where
    by : RowsBy 0 as' vs (Some k) → (k < length vs) × (rows_of as' vs ≡ starred_rows k vs)
    by (j, same, lt, h) = let e : k ≡ j = omega arith in rw e (lt, h)

-- no argument is starred
pub rows_plain : (as' : List DependencyArgument) (vs : List Value) → length vs ≡ length as' → position (λ a. a.starred) as' ≡ None → rows_of as' vs ≡ vs ∷ []
rows_plain as' vs e is = by_position as' vs None e is

-- a call for each element is one for each row
pub each_row : (f : List Value → CallRow) (g : List ℕ → List Value) (es : Value) → map f (map g es) ≡ map (λ e. f (g e)) es
each_row f g [] = refl
each_row f g (e ∷ es) = ap (λ l. f (g e) ∷ l) (each_row f g es)

-- ---- calls of a block

module _ (reading : Reading) (stage : Stage) (place : ℕ) (arguments : List DependencyArgument) where
  -- the calls of one dependency, whose arguments have these values
  pub brings_calls : (parameters : List Parameter) (old new : List Entry) (values : List Value) (calls : List CallRow) → Evaluates reading (values_of stage arguments) old new (Ok values) → calls ≡ map (call_with place parameters) (rows_of arguments values) → Evaluates reading (brings stage place parameters arguments) old new (Ok calls)
  brings_calls parameters old new values calls h is =
      let whole : DialogueGoes reading (brings stage place parameters arguments) old new (Ok calls) = rw is (goes_on reading (values_of stage arguments) _ old new new values (Ok (map (call_with place parameters) (rows_of arguments values))) (h.goes (λ q. cc)) (refl, refl)) in
      record { goes = λ n. whole; begins = whole_begins reading (brings stage place parameters arguments) old new (Ok calls) whole }

  -- one of them has a fault
  pub brings_fault : (parameters : List Parameter) (old new : List Entry) (f : Fault) → Evaluates reading (values_of stage arguments) old new (Err f) → Evaluates reading (brings stage place parameters arguments) old new (Err f)
  brings_fault parameters old new f h = then_stops (values_of stage arguments) _ h

  -- memory ran out behind their values
  pub brings_memory : (parameters : List Parameter) (old new : List Entry) (values : Result (List Value) Fault) → Evaluates reading (values_of stage arguments) old new values → Evaluates reading (brings stage place parameters arguments) old new (Err memory)
  brings_memory parameters old new values h = brings_fault parameters old new memory (unless_memory h (λ n. absurd (n refl)))

  -- the recipe at the place has these parameters
  pub brings_found : (o : Option (Planned × ExecutionContext)) (parameters : List Parameter) → Some parameters ≡ option_map (λ placed. placed.0.recipe.now.parameters.items) o → brings_at stage place o arguments ≡ brings stage place parameters arguments
  brings_found None parameters e = absurd (cc)
  brings_found (Some (planned, context)) parameters e = let same : parameters ≡ planned.recipe.now.parameters.items = cc in rw same refl

  -- there is none
  pub brings_none : (o : Option (Planned × ExecutionContext)) (fault : Fault) (old : List Entry) → None ≡ option_map (λ placed. placed.0.recipe.now.parameters.items) o → (fault ≢ memory → fault ≡ internal (codes "dependency without a recipe")) → Evaluates reading (brings_at stage place o arguments) old old (Err fault)
  brings_none None fault old e h = ends (Err (internal (codes "dependency without a recipe"))) (λ n. ap Err (h (λ q. n (ap Err q))))
  brings_none (Some placed) fault old e h = absurd (cc)

-- calls of two lists, one after the other
pub rows_append : (as' bs : List Call) → rows (as' ++ bs) ≡ rows as' ++ rows bs
rows_append [] bs = refl
rows_append (a ∷ as') bs = ap (λ l. row_of a ∷ l) (rows_append as' bs)

-- whatever dependencies that are left bring about, all bring about with these calls in front
pub record LeadsCalls (reading : Reading) (runner : Runner) (stage : Stage) (all rest : List UnresolvedDependency) (all_places places : List ℕ) (old now : List Entry) (calls : List CallRow) : Type 0 where
  pub on : (new : List Entry) (r : Result (List CallRow) Fault) → DialogueGoes reading (block runner stage rest places) now new r → DialogueGoes reading (block runner stage all all_places) old new (in_front calls r)

front_twice : (cs ds : List CallRow) (r : Result (List CallRow) Fault) → in_front cs (in_front ds r) ≡ in_front (cs ++ ds) r
front_twice cs ds (Ok es) = ap Ok (sym (append_assoc cs ds es))
front_twice cs ds (Err f) = refl

front_none : (r : Result (List CallRow) Fault) → r ≡ in_front [] r
front_none (Ok es) = refl
front_none (Err f) = refl

module _ (reading : Reading) (runner : Runner) (stage : Stage) where
  pub calls_first : (ds : List UnresolvedDependency) (ps : List ℕ) (old : List Entry) → LeadsCalls reading runner stage ds ds ps ps old old []
  calls_first ds ps old = record { on = λ new r h. rw (← front_none r) h }

  one_more : (d : UnresolvedDependency) (ds : List UnresolvedDependency) (p : ℕ) (ps : List ℕ) (mid new last : List Entry) (cs : List CallRow) (r : Result (List CallRow) Fault) → DialogueGoes reading (brings_at stage p (placed_in runner p) d.arguments.items) mid new (Ok cs) → DialogueGoes reading (block runner stage ds ps) new last r → DialogueGoes reading (block runner stage (d ∷ ds) (p ∷ ps)) mid last (in_front cs r)
  one_more d ds p ps mid new last cs (Ok os) h g = goes_on reading (brings_at stage p (placed_in runner p) d.arguments.items) _ mid new last cs (Ok (cs ++ os)) h (goes_on reading (block runner stage ds ps) _ new last last os (Ok (cs ++ os)) g (refl, refl))
  one_more d ds p ps mid new last cs (Err e) h g = goes_on reading (brings_at stage p (placed_in runner p) d.arguments.items) _ mid new last cs (Err e) h (stops reading (block runner stage ds ps) _ new last e g)

  module _ (all rest : List UnresolvedDependency) (all_places places : List ℕ) (old now new : List Entry) (calls : List CallRow) (c : LeadsCalls reading runner stage all rest all_places places old now calls) where
    -- what begins the dependencies that are left begins all
    calls_begin : Begins reading (block runner stage rest places) now new → Begins reading (block runner stage all all_places) old new
    calls_begin b = record { rest = b.rest; result = in_front calls b.result; goes = c.on (new ++ b.rest) b.result b.goes }

    pub calls_more : (d : UnresolvedDependency) (ds : List UnresolvedDependency) (p : ℕ) (ps : List ℕ) (cs : List CallRow) → rest ≡ d ∷ ds → places ≡ p ∷ ps → Evaluates reading (brings_at stage p (placed_in runner p) d.arguments.items) now new (Ok cs) → LeadsCalls reading runner stage all ds all_places ps old new (calls ++ cs)
    calls_more d ds p ps cs is_rest is_places h = record {
      on = λ last r g.
          let here : DialogueGoes reading (block runner stage rest places) now last (in_front cs r) = rw (is_rest, is_places) (one_more d ds p ps now new last cs r (h.goes (λ q. cc)) g) in
          rw (← front_twice calls cs r) (c.on last (in_front cs r) here);
    }

    pub calls_stop : (d : UnresolvedDependency) (ds : List UnresolvedDependency) (p : ℕ) (ps : List ℕ) (f : Fault) → rest ≡ d ∷ ds → places ≡ p ∷ ps → Evaluates reading (brings_at stage p (placed_in runner p) d.arguments.items) now new (Err f) → Evaluates reading (block runner stage all all_places) old new (Err f)
    calls_stop d ds p ps f is_rest is_places h = record {
      goes = λ n.
          let here : DialogueGoes reading (block runner stage rest places) now new (Err f) = rw (is_rest, is_places) (stops reading (brings_at stage p (placed_in runner p) d.arguments.items) _ now new f (h.goes (λ q. n (cc)))) in
          c.on new (Err f) here;
      begins = calls_begin (rw (is_rest, is_places) (begins_first reading (brings_at stage p (placed_in runner p) d.arguments.items) _ now new h.begins));
    }

  none_left : (rest : List UnresolvedDependency) (places : List ℕ) → (rest ≡ []) ⊎ (places ≡ []) → block runner stage rest places ≡ block runner stage [] []
  none_left rest places (inl e) = rw e refl
  none_left [] places (inr e) = refl
  none_left (d ∷ ds) places (inr e) = rw e refl

  pub calls_end : (all rest : List UnresolvedDependency) (all_places places : List ℕ) (old now : List Entry) (calls : List CallRow) → LeadsCalls reading runner stage all rest all_places places old now calls → (rest ≡ []) ⊎ (places ≡ []) → Evaluates reading (block runner stage all all_places) old now (Ok calls)
  calls_end all rest all_places places old now calls c over =
      let whole : DialogueGoes reading (block runner stage all all_places) old now (Ok calls) = rw (← append-nil calls) (c.on now (Ok []) (rw (none_left rest places over) (refl, refl))) in
      record { goes = λ n. whole; begins = whole_begins reading (block runner stage all all_places) old now (Ok calls) whole }

  -- memory ran out between two dependencies
  pub calls_memory : (all rest : List UnresolvedDependency) (all_places places : List ℕ) (old now : List Entry) (calls : List CallRow) → LeadsCalls reading runner stage all rest all_places places old now calls → Evaluates reading (block runner stage all all_places) old now (Err memory)
  calls_memory all rest all_places places old now calls c =
      record { goes = λ n. absurd (n refl); begins = calls_begin all rest all_places places old now now calls c (begins_here reading (block runner stage rest places) now) }
