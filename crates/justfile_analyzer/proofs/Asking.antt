-- What is reached by the places of functions is what is reached by their names.
use Rattle.std.proofs.Common.{◌≡◌, ◌↔◌, ◌⊎◌, inl, inr, refl, sym, ◌∙◌, ap, subst, true, false, List, [], ◌∷◌, map, Option, Some, None, ℕ, zero, suc, get_or, length, ◌+◌, ◌<◌, Bool, codes, arith}
use Rattle.std.specs.Prelude.{slice_get, Contains, ◌&&◌, is_none, is_some}
use Rattle.std.specs.List.{flat_map, list_any}
use Rattle.std.specs.Str.{bytes_eq}
use Rattle.std.proofs.lemmas.List.{length-map}
use Rattle.std.proofs.lemmas.Option.{get_or_from_slice_get, none-some, same_Some, slice_get-get_or, slice_get_within}
use Rattle.just_text.specs.Tokens.{lexeme}
use Rattle.just_text.specs.declared.name.Name.{Name}
use Rattle.tree_expressions.specs.declared.expression.Expression.{Expression}
use Rattle.tree_items.specs.declared.item.FunctionDefinition.{FunctionDefinition}
use Rattle.evaluate_context.specs.Functions.{first_named}
use Rattle.evaluate_context.specs.declared.context.FunctionRef.{FunctionRef}
use Rattle.resolve_order.specs.Flooded.{AreReached, IsMarked, Reaches, root, further}
use Rattle.resolve_references.specs.References.{references_of}
use Rattle.resolve_references.specs.declared.references.Reference.{Reference}
use Rattle.resolve_references.specs.declared.references.Reference.TheVariants.{Call, Variable}
use Rattle.justfile_analyzer.specs.Calls.{OneAsks, all_called, asks_at, asks_in, called_at, called_by, has_name, place_from, place_named}
use Rattle.justfile_analyzer.specs.Steady.{Asks, AsksAmong, IsReached, through, written}
use Rattle.justfile_analyzer.proofs.MenuRows.{same_text, text_same}
use Rattle.justfile_analyzer.proofs.Contained.{any_found, any_there, contained_flat, contains_flat, given_back, given_there, map_at, mapped_at, contains_none}

by_and : (a b : Bool) → (a && b) ≡ true → (a ≡ true) × (b ≡ true)
by_and true b e = (refl, e)
by_and false b e = absurd (cc e)

both_true : (a b : Bool) → a ≡ true → b ≡ true → (a && b) ≡ true
both_true true b e f = f
both_true false b e f = absurd (cc e)

-- ---- tests and marks at a place

pub said_is : (asks : List Bool) (place : ℕ) → place < length asks → get_or asks place false ≡ true → slice_get asks place ≡ Some true
said_is asks place lt e = slice_get-get_or asks place false lt ∙ ap (λ b. Some b) e

pub is_marked : (marks : List (Option ℕ)) (place : ℕ) → place < length marks → is_some (get_or marks place None) ≡ true → IsMarked marks place
is_marked marks place lt e = by_mark (get_or marks place None) refl e
  where
    by_mark : (o : Option ℕ) → get_or marks place None ≡ o → is_some o ≡ true → IsMarked marks place
    by_mark None is e = absurd (cc e)
    by_mark (Some mark) is e = (mark, slice_get-get_or marks place None lt ∙ ap (λ o. Some o) is)

pub marked_is : (marks : List (Option ℕ)) (place : ℕ) → IsMarked marks place → is_some (get_or marks place None) ≡ true
marked_is marks place m = ap is_some (get_or_from_slice_get marks place (Some m.0) None m.1)

-- ---- the first function of a name and its place

-- the function at the place is the first of the name
record StandsAt (name : List ℕ) (functions : List FunctionRef) (place : ℕ) : Type 0 where
  pub lent : FunctionRef
  pub at : slice_get functions place ≡ Some lent
  pub first : first_named name functions ≡ Some lent.definition.now

module _ (name : List ℕ) where
  -- where a place is told, the first function of the name stands at it
  place_tells : (base : ℕ) (fs : List FunctionRef) (place : ℕ) → place_from base name fs ≡ Some place → (k : ℕ) × (place ≡ base + k) × StandsAt name fs k
  place_tells base [] place e = absurd (none-some place e)
  place_tells base (f ∷ fs) place e = by_test (has_name name f) refl (λ told. place_tells (suc base) fs place told)
    where
      by_test : (b : Bool) → has_name name f ≡ b → (place_from (suc base) name fs ≡ Some place → (k : ℕ) × (place ≡ suc base + k) × StandsAt name fs k) → (k : ℕ) × (place ≡ base + k) × StandsAt name (f ∷ fs) k
      by_test true h later =
          let here : base ≡ place = same_Some base place (rw h at e) in
          (0, omega (arith, here), record { lent = f; at = refl; first = rw h refl })
      by_test false h later =
          let told = later (rw h at e) in
          let is = told.1 in
          (suc told.0, omega (arith, is), record { lent = told.2.lent; at = told.2.at; first = rw h told.2.first })

  -- where there is a first function of the name, its place is told
  place_told : (base : ℕ) (fs : List FunctionRef) (f : FunctionDefinition) → first_named name fs ≡ Some f → (k : ℕ) × (place_from base name fs ≡ Some (base + k)) × StandsAt name fs k
  place_told base [] f e = absurd (none-some f e)
  place_told base (g ∷ fs) f e = by_test (has_name name g) refl (λ first. place_told (suc base) fs f first)
    where
      by_test : (b : Bool) → has_name name g ≡ b → (first_named name fs ≡ Some f → (k : ℕ) × (place_from (suc base) name fs ≡ Some (suc base + k)) × StandsAt name fs k)
          → (k : ℕ) × (place_from base name (g ∷ fs) ≡ Some (base + k)) × StandsAt name (g ∷ fs) k
      by_test true h later =
          let none : base ≡ base + 0 = omega arith in
          (0, rw h (ap (λ n. Some n) none), record { lent = g; at = refl; first = rw h refl })
      by_test false h later =
          let told = later (rw h at e) in
          let k = told.0 in
          let same : suc base + k ≡ base + suc k = omega arith in
          (suc k, rw h (told.1 ∙ ap (λ n. Some n) same), record { lent = told.2.lent; at = told.2.at; first = rw h told.2.first })

  -- none has the name where no place is told
  none_told : (base : ℕ) (fs : List FunctionRef) → is_none (place_from base name fs) ≡ true → first_named name fs ≡ None
  none_told base fs none = by_first (first_named name fs) refl
    where
      by_first : (o : Option FunctionDefinition) → first_named name fs ≡ o → first_named name fs ≡ None
      by_first None e = e
      by_first (Some f) e = let told = place_told base fs f e in absurd (cc (sym none ∙ ap is_none told.1))

  no_place : (base : ℕ) (fs : List FunctionRef) → first_named name fs ≡ None → is_none (place_from base name fs) ≡ true
  no_place base fs none = by_place (place_from base name fs) refl
    where
      by_place : (o : Option ℕ) → place_from base name fs ≡ o → is_none (place_from base name fs) ≡ true
      by_place None e = ap is_none e
      by_place (Some place) e = let told = place_tells base fs place e in absurd (none-some told.2.lent.definition.now (sym none ∙ told.2.first))

-- ---- what a reference calls, and whether it asks

module _ (functions : List FunctionRef) where
  -- the function at the place is called there, by its name
  record Calls (r : Reference) (place : ℕ) : Type 0 where
    pub name : Name
    pub count : ℕ
    pub is : r ≡ Call name count
    pub stands : StandsAt (lexeme name.token) functions place

  calls : (r : Reference) (place : ℕ) → called_at functions r ≡ Some place → Calls r place
  calls (Call name count) place e =
      let told = place_tells (lexeme name.token) 0 functions place e in
      let same = told.1 in
      let turned : told.0 ≡ place = omega (arith, same) in
      record { name = name; count = count; is = refl; stands = subst (StandsAt (lexeme name.token) functions) turned told.2 }
  calls (Variable name number) place e = absurd (none-some place e)

  -- the place of a function that a name calls is known
  called : (name : Name) (count : ℕ) (f : FunctionDefinition) → first_named (lexeme name.token) functions ≡ Some f → (k : ℕ) × (called_at functions (Call name count) ≡ Some k) × StandsAt (lexeme name.token) functions k
  called name count f e =
      let told = place_told (lexeme name.token) 0 functions f e in
      let k = told.0 in
      let same : 0 + k ≡ k = omega arith in
      (k, told.1 ∙ ap (λ n. Some n) same, told.2)

  -- the built-in is called there
  record IsAsking (r : Reference) : Type 0 where
    pub name : Name
    pub count : ℕ
    pub is : r ≡ Call name count
    pub asked : lexeme name.token ≡ codes "is_dependency"
    pub free : first_named (codes "is_dependency") functions ≡ None

  asking : (r : Reference) → asks_at functions r ≡ true → IsAsking r
  asking (Call name count) e =
      let both = by_and (bytes_eq (lexeme name.token) (codes "is_dependency")) (is_none (place_named (lexeme name.token) functions)) e in
      let same = same_text (lexeme name.token) (codes "is_dependency") both.0 in
      record { name = name; count = count; is = refl; asked = same; free = subst (λ text. first_named text functions ≡ None) same (none_told (lexeme name.token) 0 functions both.1) }
  asking (Variable name number) e = absurd (cc e)

  asks_there : (name : Name) (count : ℕ) → lexeme name.token ≡ codes "is_dependency" → first_named (codes "is_dependency") functions ≡ None → asks_at functions (Call name count) ≡ true
  asks_there name count is free = both_true (bytes_eq (lexeme name.token) (codes "is_dependency")) (is_none (place_named (lexeme name.token) functions))
      (text_same (lexeme name.token) (codes "is_dependency") is)
      (no_place (lexeme name.token) 0 functions (subst (λ text. first_named text functions ≡ None) (sym is) free))

  -- ---- functions that are reached, by their places

  abbrev graph : List (List ℕ)
  graph = map (called_by functions) functions

  lent_at : (place : ℕ) (f : FunctionRef) → slice_get functions place ≡ Some f → get_or graph place [] ≡ called_by functions f
  lent_at place f e = get_or_from_slice_get graph place (called_by functions f) [] (map_at (called_by functions) functions place f e)

  past : (fs : List FunctionRef) (k : ℕ) → slice_get fs k ≡ None → get_or (map (called_by functions) fs) k [] ≡ []
  past [] k e = refl
  past (f ∷ fs) zero e = absurd (none-some f (sym e))
  past (f ∷ fs) (suc k) e = past fs k e

  -- where a place leads somewhere, a function stands there
  leads : (place other : ℕ) → Contains (get_or graph place []) other → (f : FunctionRef) × (slice_get functions place ≡ Some f) × Contains (called_by functions f) other
  leads place other c = by_function (slice_get functions place) refl
    where
      by_function : (o : Option FunctionRef) → slice_get functions place ≡ o → (f : FunctionRef) × (slice_get functions place ≡ Some f) × Contains (called_by functions f) other
      by_function (Some f) e = (f, e, subst (λ row. Contains row other) (lent_at place f e) c)
      by_function None e = absurd (contains_none other (subst (λ row. Contains row other) (past functions place e) c))

  module _ (references : List Reference) where
    -- what stands in the body of a function that is called there is reached
    through_call : (r : Reference) (place : ℕ) (f : FunctionRef) (inner : Reference) → IsReached functions references r → Calls r place → slice_get functions place ≡ Some f → Contains (references_of f.definition.now.body) inner → IsReached functions references inner
    through_call r place f inner reached c at inside =
        let same : c.stands.lent ≡ f = same_Some c.stands.lent f (sym c.stands.at ∙ at) in
        through (subst (IsReached functions references) c.is reached) (c.stands.first ∙ ap (λ g. Some g.definition.now) same) inside

    -- what stands in the body of a function whose place is reached is reached
    reached_by_place : {place : ℕ} → Reaches graph [] (all_called functions references) place → (f : FunctionRef) (inner : Reference) → slice_get functions place ≡ Some f → Contains (references_of f.definition.now.body) inner → IsReached functions references inner
    reached_by_place {place} (root c) f inner at inside =
        let from = given_back (called_at functions) references place c in
        through_call from.0 place f inner (written from.1) (calls from.0 place from.2) at inside
    reached_by_place (further {place} {other} reached c) f inner at inside =
        let lead = leads place other c in
        let from = given_back (called_at functions) (references_of lead.0.definition.now.body) other lead.2 in
        through_call from.0 other f inner (reached_by_place reached lead.0 from.0 lead.1 from.1) (calls from.0 other from.2) at inside

    -- what is reached stands in the references, or in the body of a function whose place is reached
    record InBody (r : Reference) : Type 0 where
      pub place : ℕ
      pub lent : FunctionRef
      pub at : slice_get functions place ≡ Some lent
      pub reached : Reaches graph [] (all_called functions references) place
      pub inside : Contains (references_of lent.definition.now.body) r

    place_of_reached : {r : Reference} → IsReached functions references r → Contains references r ⊎ InBody r
    place_of_reached (written c) = inl c
    place_of_reached (through {name} {count} {f} {r} reached first inside) =
        let k = called name count f first in
        let same : k.2.lent.definition.now ≡ f = same_Some k.2.lent.definition.now f (sym k.2.first ∙ first) in
        let in_body : Contains (references_of k.2.lent.definition.now.body) r = subst (λ g. Contains (references_of g.body) r) (sym same) inside in
        elim (place_of_reached reached) [
          | inl c ↦ inr (record { place = k.0; lent = k.2.lent; at = k.2.at; reached = root (given_there (called_at functions) references (Call name count) k.0 c k.1); inside = in_body })
          | inr b ↦ inr (record {
            place = k.0;
            lent = k.2.lent;
            at = k.2.at;
            reached = further b.reached (subst (λ row. Contains row k.0) (sym (lent_at b.place b.lent b.at)) (given_there (called_at functions) (references_of b.lent.definition.now.body) (Call name count) k.0 b.inside k.1));
            inside = in_body;
          })
        ]

    -- a call of the built-in that is reached
    asks_of : (r : Reference) → IsReached functions references r → IsAsking r → AsksAmong functions references
    asks_of r reached a = record { name = a.name; count = a.count; reached = subst (IsReached functions references) a.is reached; is = a.asked; free = a.free }

    -- where one of the references asks, they ask
    pub here_asks : list_any (asks_at functions) references ≡ true → AsksAmong functions references
    here_asks e = let found = any_found (asks_at functions) references e in asks_of found.0 (written found.1) (asking found.0 found.2)

    -- where a function asks that is reached from what they call, they ask
    pub one_asks : OneAsks functions (all_called functions references) → AsksAmong functions references
    one_asks one =
        let m = mapped_at (asks_in functions) functions one.place true one.asks in
        let found = any_found (asks_at functions) (references_of m.0.definition.now.body) m.2 in
        asks_of found.0 (reached_by_place one.reached m.0 found.0 m.1 found.1) (asking found.0 found.2)

    -- and they ask only so
    pub asks_one : list_any (asks_at functions) references ≡ false → AsksAmong functions references → OneAsks functions (all_called functions references)
    asks_one none asks =
        let there = asks_there asks.name asks.count asks.is asks.free in
        elim (place_of_reached asks.reached) [
          | inl c ↦ absurd (cc (sym none ∙ any_there (asks_at functions) references (Call asks.name asks.count) c there))
          | inr b ↦ record {
            place = b.place;
            asks = map_at (asks_in functions) functions b.place b.lent b.at ∙ ap (λ t. Some t) (any_there (asks_at functions) (references_of b.lent.definition.now.body) (Call asks.name asks.count) b.inside there);
            reached = b.reached;
          }
        ]

  -- the functions that are marked are those that are reached
  pub asks_by_marks : (rows : List (List ℕ)) (asks : List Bool) (roots : List ℕ) (marks : List (Option ℕ)) → rows ≡ graph → asks ≡ map (asks_in functions) functions → AreReached rows [] roots marks
      → ((place : ℕ) × (slice_get asks place ≡ Some true) × IsMarked marks place) ↔ OneAsks functions roots
  asks_by_marks rows asks roots marks rows_are asks_are reached = (
    λ found. record {
      place = found.0;
      asks = ap (λ xs. slice_get xs found.0) (sym asks_are) ∙ found.1;
      reached = subst (λ g. Reaches g [] roots found.0) rows_are (reached.sound found.0 found.2);
    },
    λ one.
        let within = slice_get_within (map (asks_in functions) functions) one.place true one.asks in
        let asked = length-map functions (asks_in functions) in
        let many : length rows ≡ length functions = ap length rows_are ∙ length-map functions (called_by functions) in
        (one.place, ap (λ xs. slice_get xs one.place) asks_are ∙ one.asks, reached.complete one.place (omega (arith, within, asked, many)) (subst (λ g. Reaches g [] roots one.place) (sym rows_are) one.reached)),
  )

  -- ---- references of several expressions

  reached_one : (es : List Expression) {r : Reference} → IsReached functions (flat_map references_of es) r → (e : Expression) × Contains es e × IsReached functions (references_of e) r
  reached_one es (written {r} c) = let from = contained_flat references_of es r c in (from.0, from.1, written from.2)
  reached_one es (through reached first inside) = let from = reached_one es reached in (from.0, from.1, through from.2 first inside)

  reached_more : (es : List Expression) (e : Expression) → Contains es e → {r : Reference} → IsReached functions (references_of e) r → IsReached functions (flat_map references_of es) r
  reached_more es e among (written {r} c) = written (contains_flat references_of es e r among c)
  reached_more es e among (through reached first inside) = through (reached_more es e among reached) first inside

  -- expressions ask exactly where one of them does
  pub one_of_them : (es : List Expression) → AsksAmong functions (flat_map references_of es) → (e : Expression) × Contains es e × Asks functions e
  one_of_them es asks = let from = reached_one es asks.reached in (from.0, from.1, record { name = asks.name; count = asks.count; reached = from.2; is = asks.is; free = asks.free })

  pub they_ask : (es : List Expression) (e : Expression) → Contains es e → Asks functions e → AsksAmong functions (flat_map references_of es)
  they_ask es e among asks = record { name = asks.name; count = asks.count; reached = reached_more es e among asks.reached; is = asks.is; free = asks.free }
