-- All modules open by names where they open by their places, and so they are open alike.
use Rattle.std.proofs.Common.{◌≡◌, ◌⊎◌, inl, inr, refl, sym, ◌∙◌, ap, subst, Bool, true, false, if◌then◌else◌, nat_eq, List, [], ◌∷◌, map, length, Option, Some, None, Result, Ok, Err, ℕ, zero, suc, ◌+◌, ◌<◌, arith}
use Rattle.std.specs.Prelude.{Contains, IsSome, slice_get}
use Rattle.std.specs.List.{All}
use Rattle.std.specs.Borrow.{Bor}
use Rattle.std.specs.BTreeSet.{BTreeSet}
use Rattle.std.specs.Option.{option_map}
use Rattle.std.specs.String.{string_bytes}
use Rattle.std.proofs.lemmas.Bool.Decides.{Decides-eqb}
use Rattle.std.proofs.lemmas.List.Elements.{All-cons, All-nil}
use Rattle.std.proofs.lemmas.Option.{none-some, same_Some, slice_get_within}
use Rattle.just_host.specs.declared.entry.Entry.{Entry}
use Rattle.just_value.specs.Frames.{BoundRow, ByNumber, Frames, look_up}
use Rattle.just_value.specs.declared.positional.Override.{Override}
use Rattle.evaluate_context.specs.declared.context.AssignmentRef.{AssignmentRef}
use Rattle.evaluate_context.specs.declared.context.ExecutionContext.{ExecutionContext}
use Rattle.evaluate_context.specs.declared.context.ModuleView.{ModuleView}
use Rattle.evaluate_variables.specs.Opened.{reads}
use Rattle.modules_compilation.specs.Modulepaths.{path_in}
use Rattle.modules_compilation.specs.declared.compilation.Compilation.{Compilation}
use Rattle.resolve_analysis.specs.Opening.{Runs}
use Rattle.resolve_analysis.specs.Views.{seen}
use Rattle.resolve_analysis.specs.declared.analysis.Analysis.{Analysis}
use Rattle.resolve_analysis.specs.declared.module_lists.ModuleLists.{ModuleLists}
use Rattle.resolve_analysis.specs.declared.module_reads.ModuleReads.{ModuleReads}
use Rattle.resolve_analysis.specs.declared.recipes.ResolvedRecipe.{ResolvedRecipe}
use Rattle.analyze_calls.specs.Opening as placed
use Rattle.analyze_calls.specs.Opening.{OpenedRow, is_wanted}
use Rattle.analyze_calls.specs.declared.opening.Opening.{Opening as Opens}
use Rattle.run_tasks.specs.Prepared.Order.{opening_from}
use Rattle.run_tasks.specs.Prepared.Wanted.{IsWanted, called_by}
use Rattle.run_tasks.specs.Opened.{AreContexts, IsContextAt, last_opened}
use Rattle.run_tasks.specs.Opened as contexts_of
use Rattle.run_tasks.specs.declared.task.Task.{Task}
use Rattle.run_tasks.specs.declared.task.TaskContext.{TaskContext}
use Rattle.meaning_evaluation.specs.Requests.{OpeningFailure}
use Rattle.meaning_rules.specs.Worlds.Given.{Text, World}
use Rattle.meaning_rules.specs.Worlds.Compiled.{HasPath}
use Rattle.meaning_rules.proofs.Worlds.Places.{contains_cases, contains_first, contains_later, contains_none, place_of}
use Rattle.laws_modules.specs.Names.Names.{nodes, views}
use Rattle.meaning_rules.specs.Overrides.{overrides_of}
use Rattle.meaning_evaluation.specs.Named.{Definitions, VariableName, paths_of}
use Rattle.meaning_evaluation.specs.Scopes.{Configuration}
use Rattle.just_meaning.specs.Begun.{AllBegin}
use Rattle.just_meaning.specs.Opening.{Held, Opened, OpensAll, OpensOne}
use Rattle.just_meaning.specs.Opening as named
use Rattle.laws_runs.specs.Menus.Named.{name_at}
use Rattle.laws_runs.specs.Resolved.Definitions.{all_modules, definitions_of}
use Rattle.laws_runs.specs.Settings.Settled.{AllSettle}
use Rattle.laws_agreement.specs.Grounds.Alike.{AreOpenAlike, IsOpenAlike}
use Rattle.just_meaning.specs.Configured.{configuration_of}
use Rattle.laws_runs.specs.Views.Known.{IsSeenAt}
use Rattle.laws_runs.specs.Views.Read.{AreReadFrom}
use Rattle.laws_runs.proofs.Views.Evaluated.{running_are_read}
use Rattle.laws_runs.specs.Views.Recipes.{AreBoundIn, IsConstantOrRead}
use Rattle.laws_runs.specs.Running.Opened.{AreReady, IsTaskOf, OpenByNames, OpensFor}
use Rattle.laws_runs.proofs.Running.Opening.Begun.{all_begin, own_path}
use Rattle.laws_runs.proofs.Running.Opening.Context.{defined_by}
use Rattle.laws_runs.proofs.Running.Opening.Opens.{IsOpenedSo, MayOpen, opens_one, viewed}
use Rattle.laws_runs.proofs.Running.Opening.Order.{AreOnce, IsOpeningOrder, one_index, opening_order_is}
use Rattle.laws_runs.proofs.Running.Opening.Requests.{IsViewOf, listed_in, view_parts}
use Rattle.laws_runs.proofs.Running.Opening.Values.{HoldAlike, held_there, name_of}
use Rattle.laws_runs.proofs.Running.Opening.Views.{view_exists, views_many}

module _ (w : World) (compilation : Compilation) (given : List Override) (base : Text) (analysis : Analysis) (settled : AllSettle w (overrides_of given) compilation analysis.values.value.settings.items)
    (task : Task) (context : TaskContext) (modules : List ModuleView) (opens : Opens) (t : IsTaskOf w compilation given base analysis settled task context modules opens) where
  abbrev path_of : ℕ → List Text
  path_of k = path_in compilation.modules.items k

  abbrev HasPathTo : ℕ → List Text → Type 0
  HasPathTo k path = HasPath w (views w compilation) (nodes w compilation) k path

  abbrev configuration : Configuration
  configuration = configuration_of context.config.now context.root.now w.expansion

  abbrev defined : Definitions
  defined = defined_by w compilation t.resolvable.numbered given base analysis t.known settled context.config.now

  -- what was opened at a place
  pub record IsPlacedSo (k : ℕ) (row : OpenedRow) (o : Opened) : Type 0 where
    pub view : ModuleView
    pub at : slice_get modules k ≡ Some view
    pub has : HasPathTo k (path_of k)
    pub so : IsOpenedSo w compilation given base analysis settled task context modules opens t k view at (path_of k) has row o

  pub data AreSo : List ℕ → List OpenedRow → List Opened → Type 0 where
    none_so : AreSo [] [] []
    one_so : {k : ℕ} {ks : List ℕ} {row : OpenedRow} {rows : List OpenedRow} {o : Opened} {os : List Opened} → IsPlacedSo k row o → AreSo ks rows os → AreSo (k ∷ ks) (row ∷ rows) (o ∷ os)

  module _ (Open : VariableName → Type 0) (may : (k : ℕ) (view : ModuleView) (at : slice_get modules k ≡ Some view) (has : HasPathTo k (path_of k))
      → MayOpen w compilation given base analysis settled task context modules opens t k view at (path_of k) has Open) where
    abbrev AllByName : List ℕ → List Entry → List Entry → Result (List OpenedRow) OpeningFailure → Type 0
    AllByName places old new (Ok rows) = (os : List Opened) × OpensAll configuration defined Open (map path_of places) old new (Ok os) × AreSo places rows os
    AllByName places old new (Err failure) = OpensAll configuration defined Open (map path_of places) old new (Err failure)

    -- modules at places of the compilation
    opens_all : {places : List ℕ} {old new : List Entry} {r : Result (List OpenedRow) OpeningFailure} → ((j : ℕ) → Contains places j → j < length compilation.modules.items) → placed.OpensAll opens modules places old new r → AllByName places old new r
    opens_all within placed.none_left = ([], named.none_left, none_so)
    opens_all within (placed.nowhere {place} {places} none rest) =
        let v = view_exists compilation base given analysis t.known modules t.views place (within place (contains_first place places)) in
        absurd (none-some v.0 (sym none ∙ v.1))
    opens_all within (placed.one_more {place} {places} {view} at one rest) =
        let has = own_path w compilation t.resolvable.numbered.of place (within place (contains_first place places)) in
        let a = opens_one w compilation given base analysis settled task context modules opens t place view at (path_of place) has Open (may place view at has) one in
        let b = opens_all (λ j c. within j (contains_later place places j c)) rest in
        (a.0 ∷ b.0, named.one_more a.1 b.1, one_so (record { view = view; at = at; has = has; so = a.2 }) b.2)
    opens_all within (placed.fault_here {place} {places} {view} at one) =
        let has = own_path w compilation t.resolvable.numbered.of place (within place (contains_first place places)) in
        named.fault_here (opens_one w compilation given base analysis settled task context modules opens t place view at (path_of place) has Open (may place view at has) one)
    opens_all within (placed.fault_later {place} {places} {view} at one rest) =
        let has = own_path w compilation t.resolvable.numbered.of place (within place (contains_first place places)) in
        let a = opens_one w compilation given base analysis settled task context modules opens t place view at (path_of place) has Open (may place view at has) one in
        named.fault_later a.1 (opens_all (λ j c. within j (contains_later place places j c)) rest)

  -- ---- what was opened last at a place

  other_place : (m k : ℕ) → (m ≡ k → ⊥) → nat_eq m k ≡ false
  other_place m k apart = by_test (nat_eq m k) refl
    where
      by_test : (b : Bool) → nat_eq m k ≡ b → nat_eq m k ≡ false
      by_test true e = absurd (apart ((Decides-eqb m k).0 e))
      by_test false e = e

  last_stays : {places : List ℕ} {rows : List OpenedRow} {os : List Opened} → AreSo places rows os → (k : ℕ) → (Contains places k → ⊥) → (found : Option OpenedRow) → last_opened k found rows ≡ found
  last_stays none_so k none found = refl
  last_stays (one_so {k = m} {ks} {row} {rows} p rest) k none found =
      ap (λ b. last_opened k (if b then Some row else found) rows) (other_place row.place k (λ same. none (subst (Contains (m ∷ ks)) (sym p.so.place ∙ same) (contains_first m ks))))
      ∙ last_stays rest k (λ c. none (contains_later m ks k c)) found

  -- it is what was opened there
  pub record IsLast (rows : List OpenedRow) (os : List Opened) (k : ℕ) (found : Option OpenedRow) : Type 0 where
    pub row : OpenedRow
    pub o : Opened
    pub last : last_opened k found rows ≡ Some row
    pub among : Contains os o
    pub is : IsPlacedSo k row o

  last_there : {places : List ℕ} {rows : List OpenedRow} {os : List Opened} → AreSo places rows os → AreOnce places → (k : ℕ) → Contains places k → (found : Option OpenedRow) → IsLast rows os k found
  last_there none_so once k c found = absurd (contains_none [] k refl c)
  last_there (one_so {k = m} {ks} {row} {rows} {o} {os} p rest) once k c found = elim (contains_cases m ks k c) [
    | inl same ↦ record {
      row = row;
      o = o;
      last = ap (λ b. last_opened k (if b then Some row else found) rows) ((Decides-eqb row.place k).1 (p.so.place ∙ same)) ∙ last_stays rest k (λ d. once.0 (subst (Contains ks) (sym same) d)) (Some row);
      among = contains_first o os;
      is = subst (λ j. IsPlacedSo j row o) same p;
    }
    | inr later ↦
        let l = last_there rest once.1 k later (if nat_eq row.place k then Some row else found) in
        record { row = l.row; o = l.o; last = l.last; among = contains_later o os l.o l.among; is = l.is }
  ]

  so_at : {places : List ℕ} {rows : List OpenedRow} {os : List Opened} → AreSo places rows os → (i : ℕ) (o : Opened) → slice_get os i ≡ Some o → (k : ℕ) × (slice_get places i ≡ Some k) × (o.path ≡ path_of k) × HasPathTo k (path_of k)
  so_at none_so i o e = absurd (none-some o e)
  so_at (one_so {k = m} {o = first} p rest) zero o e = (m, refl, subst (λ (x : Opened). x.path ≡ path_of m) (same_Some first o e) p.so.path_is, p.has)
  so_at (one_so p rest) (suc i) o e = so_at rest i o e

  -- variables are wanted that recipes read which run
  wanted_read : (place : ℕ) (recipe : ResolvedRecipe) → slice_get analysis.table.value.recipes.items place ≡ Some recipe
      → Runs analysis.table.value.recipes.items context.config.now.no_dependencies (called_by task) place
      → (lists : ModuleLists) (home : ModuleReads) → slice_get analysis.variables.lists.items recipe.module ≡ Some lists → slice_get analysis.variables.reads.items recipe.module ≡ Some home
      → AreReadFrom lists home recipe.reads.items (reads context.wanted)
  wanted_read place recipe at runs lists home kept known = by_wanted context.wanted t.prepared.wanted_are
    where
      by_wanted : (wanted : Option (Bor (BTreeSet ℕ))) → IsWanted analysis.variables analysis.table.value.recipes.items analysis.values.value.settings.items task context.config.now.no_dependencies (option_map (λ numbers. numbers.now) wanted)
          → AreReadFrom lists home recipe.reads.items (reads wanted)
      by_wanted None h = record { variable = λ p number c e. refl; function = λ p other number c le chain e. refl }
      by_wanted (Some numbers) h =
          running_are_read analysis.values.value.overrides compilation analysis.variables t.known.is_known.variables_are analysis.table.value.recipes.items analysis.values.value.settings.items (called_by task) context.config.now.no_dependencies
          (reads (Some numbers)) h.1 place recipe at runs lists home kept known

  -- ---- contexts

  -- the context at a place rests on what was opened last there
  pub record ContextAt (rows : List OpenedRow) (list : List ModuleView) (place j : ℕ) (here : ExecutionContext) : Type 0 where
    pub view : ModuleView
    pub at : slice_get list j ≡ Some view
    pub row : OpenedRow
    pub last : last_opened place None rows ≡ Some row
    pub is : IsContextAt context view row here

  AllOpen : List OpenedRow → List ModuleView → ℕ → Type 0
  AllOpen rows list place = (j : ℕ) (view : ModuleView) → slice_get list j ≡ Some view → (row : OpenedRow) × (last_opened (place + j) None rows ≡ Some row)

  contexts_many : {rows : List OpenedRow} {place : ℕ} {list : List ModuleView} {contexts : List ExecutionContext} → AreContexts context rows place list contexts
      → ((j : ℕ) (view : ModuleView) → slice_get list j ≡ Some view → (row : OpenedRow) × (last_opened (place + j) None rows ≡ Some row)) → length contexts ≡ length list
  contexts_many contexts_of.none_left all = refl
  contexts_many {rows} {place} (contexts_of.closed {view} {views = others} none rest) all =
      let a = all 0 view refl in
      let same : place + 0 ≡ place = omega arith in
      absurd (none-some a.0 (sym none ∙ sym (ap (λ p. last_opened p None rows) same) ∙ a.1))
  contexts_many {rows} {place} (contexts_of.one_more last is rest) all =
      ap suc (contexts_many rest (λ j view e. let a = all (suc j) view e in (a.0, (let same : suc place + j ≡ place + suc j = omega arith in ap (λ p. last_opened p None rows) same) ∙ a.1)))

  context_at : {rows : List OpenedRow} {place : ℕ} {list : List ModuleView} {contexts : List ExecutionContext} → AreContexts context rows place list contexts
      → ((j : ℕ) (view : ModuleView) → slice_get list j ≡ Some view → (row : OpenedRow) × (last_opened (place + j) None rows ≡ Some row)) → (j : ℕ) (here : ExecutionContext) → slice_get contexts j ≡ Some here → ContextAt rows list (place + j) j here
  context_at contexts_of.none_left all j here e = absurd (none-some here e)
  context_at {rows} {place} (contexts_of.closed {view} {views = others} none rest) all j here e =
      let a = all 0 view refl in
      let same : place + 0 ≡ place = omega arith in
      absurd (none-some a.0 (sym none ∙ sym (ap (λ p. last_opened p None rows) same) ∙ a.1))
  context_at {rows} {place} (contexts_of.one_more {view} {row = row} {here = first} last is rest) all zero here e =
      let same : place + 0 ≡ place = omega arith in
      record { view = view; at = refl; row = row; last = ap (λ p. last_opened p None rows) same ∙ last; is = subst (IsContextAt context view row) (same_Some first here e) is }
  context_at {rows} {place} (contexts_of.one_more last is rest) all (suc j) here e =
      let same : suc place + j ≡ place + suc j = omega arith in
      let c = context_at rest (λ i view f. let a = all (suc i) view f in (a.0, (let s : suc place + i ≡ place + suc i = omega arith in ap (λ p. last_opened p None rows) s) ∙ a.1)) j here e in
      record { view = c.view; at = c.at; row = c.row; last = ap (λ p. last_opened p None rows) (sym same) ∙ c.last; is = c.is }

  -- ---- open alike

  module _ (places : List ℕ) (once : AreOnce places) (all : (k : ℕ) → k < length compilation.modules.items → Contains places k) (rows : List OpenedRow) (os : List Opened) (so : AreSo places rows os) (contexts : List ExecutionContext)
      (are : AreContexts context rows 0 modules contexts) where
    here_within : (j : ℕ) (view : ModuleView) → slice_get modules j ≡ Some view → j < length compilation.modules.items
    here_within j view e =
        let lt = slice_get_within modules j view e in
        let many = views_many compilation base given analysis t.known modules t.views in
        omega (arith, lt, many)

    all_open : (j : ℕ) (view : ModuleView) → slice_get modules j ≡ Some view → (row : OpenedRow) × (last_opened (0 + j) None rows ≡ Some row)
    all_open j view e =
        let l = last_there so once j (all j (here_within j view e)) None in
        let same : 0 + j ≡ j = omega arith in
        (l.row, ap (λ p. last_opened p None rows) same ∙ l.last)

    alike_at : (k : ℕ) (here : ExecutionContext) → slice_get contexts k ≡ Some here → (o : Opened) × Contains os o × IsOpenAlike compilation analysis k here o
    alike_at k here e =
        let c = context_at are all_open k here e in
        let l = last_there so once k (all k (here_within k c.view c.at)) None in
        let same : 0 + k ≡ k = omega arith in
        let row_is : c.row ≡ l.row = same_Some c.row l.row (sym c.last ∙ ap (λ p. last_opened p None rows) same ∙ l.last) in
        let view_is : l.is.view ≡ c.view = same_Some l.is.view c.view (sym l.is.at ∙ c.at) in
        let v = viewed w compilation given base analysis settled task context modules opens t k c.view c.at (path_of k) l.is.has in
        let parts = view_parts compilation.modules.items analysis.variables analysis.values.value k (seen c.view) v in
        let listed : c.view.assignments.now ≡ parts.lists.assignments.items = listed_in compilation.modules.items analysis.variables analysis.values.value k (seen c.view) parts in
        let frames : l.row.frames ≡ here.scope.now = ap (λ (r : OpenedRow). r.frames) (sym row_is) ∙ sym c.is.scope in
        let alike : HoldAlike parts.lists.assignments.items here.module.now.settings.now.export here.scope.now.own l.o.values
        = subst (λ (m : ModuleView). HoldAlike parts.lists.assignments.items m.settings.now.export here.scope.now.own l.o.values) (sym c.is.module_is)
        (subst (λ items. HoldAlike items c.view.settings.now.export here.scope.now.own l.o.values) listed
        (subst (λ (m : ModuleView). HoldAlike m.assignments.now m.settings.now.export here.scope.now.own l.o.values) view_is
        (subst (λ (f : Frames). HoldAlike l.is.view.assignments.now l.is.view.settings.now.export f.own l.o.values) frames l.is.so.alike))) in (
          l.o,
          l.among,
          record {
            view = v ∙ ap (λ (m : ModuleView). Some (seen m)) (sym c.is.module_is);
            overrides = c.is.overrides ∙ t.overrides;
            path = l.is.so.path_is;
            pairs = c.is.pairs_are ∙ ap (λ (r : OpenedRow). r.pairs) row_is ∙ l.is.so.pairs;
            constants = opens.constants.now.own;
            language = t.opens_are.constants;
            outer = sym (ap (λ (f : Frames). f.outer) frames) ∙ l.is.so.outer;
            lists = parts.lists;
            kept = parts.kept;
            values = alike.same;
            rows = alike.rows;
            once = alike.once;
          },
        )

    one_opened : (o o' : Opened) → Contains os o → Contains os o' → o.path ≡ o'.path → o ≡ o'
    one_opened o o' c c' same =
        let p = place_of os o c in
        let q = place_of os o' c' in
        let a = so_at so p.0 o p.1 in
        let b = so_at so q.0 o' q.1 in
        let paths : path_of a.0 ≡ path_of b.0 = sym a.2 ∙ same ∙ b.2 in
        let one = t.resolvable.numbered.of.once a.0 b.0 (path_of b.0) (subst (HasPathTo a.0) paths a.3) b.3 in
        let index = one_index places once p.0 q.0 b.0 (a.1 ∙ ap (λ k. Some k) one) b.1 in
        same_Some o o' (sym p.1 ∙ ap (slice_get os) index ∙ q.1)

    -- what was opened is open alike by numbers and by names
    pub open_alike : AreOpenAlike compilation analysis contexts os
    open_alike = record {
      many = contexts_many are all_open ∙ views_many compilation base given analysis t.known modules t.views;
      each = alike_at;
      apart = one_opened;
    }

    -- ---- what a run rests on besides

    -- the context at a place is of what was opened there
    record IsHere (k : ℕ) (here : ExecutionContext) : Type 0 where
      pub row : OpenedRow
      pub o : Opened
      pub among : Contains os o
      pub is : IsPlacedSo k row o
      pub context_is : IsContextAt context is.view row here

    here_at : (k : ℕ) (here : ExecutionContext) → slice_get contexts k ≡ Some here → IsHere k here
    here_at k here e =
        let c = context_at are all_open k here e in
        let l = last_there so once k (all k (here_within k c.view c.at)) None in
        let same : 0 + k ≡ k = omega arith in
        let row_is : c.row ≡ l.row = same_Some c.row l.row (sym c.last ∙ ap (λ p. last_opened p None rows) same ∙ l.last) in
        let view_is : l.is.view ≡ c.view = same_Some l.is.view c.view (sym l.is.at ∙ c.at) in
        record {
          row = l.row;
          o = l.o;
          among = l.among;
          is = l.is;
          context_is = subst (λ view. IsContextAt context view l.row here) (sym view_is) (subst (λ row. IsContextAt context c.view row here) row_is c.is);
        }

    sorted_at : (k : ℕ) (here : ExecutionContext) → slice_get contexts k ≡ Some here → (frame : List BoundRow) → Contains (here.scope.now.own ∷ here.scope.now.outer) frame → ByNumber frame
    sorted_at k here e frame c = by_frame (contains_cases h.row.frames.own h.row.frames.outer frame (subst (λ (f : Frames). Contains (f.own ∷ f.outer) frame) h.context_is.scope c))
      where
        h : IsHere k here
        h = here_at k here e

        by_constants : (opens.constants.now.own ≡ frame) ⊎ Contains [] frame → ByNumber frame
        by_constants (inl same) = subst ByNumber same t.opens_are.sorted
        by_constants (inr later) = absurd (contains_none [] frame refl later)

        by_frame : (h.row.frames.own ≡ frame) ⊎ Contains h.row.frames.outer frame → ByNumber frame
        by_frame (inl same) = subst ByNumber same h.is.so.sorted
        by_frame (inr later) = by_constants (contains_cases opens.constants.now.own [] frame (subst (λ frames. Contains frames frame) h.is.so.outer later))

    -- what the view has of its lists
    abbrev parts_of : (k : ℕ) (row : OpenedRow) (o : Opened) (p : IsPlacedSo k row o) → IsViewOf compilation.modules.items analysis.variables analysis.values.value k (seen p.view)
    parts_of k row o p =
        view_parts compilation.modules.items analysis.variables analysis.values.value k (seen p.view) (viewed w compilation given base analysis settled task context modules opens t k p.view p.at (path_of k) p.has)

    held_of : (k : ℕ) (here : ExecutionContext) → slice_get contexts k ≡ Some here → (o : Opened) → Contains os o → (alike : IsOpenAlike compilation analysis k here o) → (held : Held) → Contains o.values held
        → (lent : AssignmentRef) × Contains alike.lists.assignments.items lent × (name_of lent ≡ held.name)
    held_of k here e o among alike held c =
        let h = here_at k here e in
        let one : o ≡ h.o = one_opened o h.o among h.among (alike.path ∙ sym h.is.so.path_is) in
        let there = held_there h.o.values held (subst (λ (x : Opened). Contains x.values held) one c) in
        let only = h.is.so.alike.only held.name there.0 there.1 in
        let parts = parts_of k h.row h.o h.is in
        let lists : parts.lists ≡ alike.lists = same_Some parts.lists alike.lists (sym parts.kept ∙ alike.kept) in
        let listed : h.is.view.assignments.now ≡ parts.lists.assignments.items = listed_in compilation.modules.items analysis.variables analysis.values.value k (seen h.is.view) parts in
        (only.0, subst (λ (l : ModuleLists). Contains l.assignments.items only.0) lists (subst (λ items. Contains items only.0) listed only.1), only.2)

    configured_from : {place : ℕ} {list : List ModuleView} {others : List ExecutionContext} → AreContexts context rows place list others
        → All (λ (here : ExecutionContext). (here.config.now ≡ context.config.now) × (here.root.now ≡ context.root.now)) others
    configured_from contexts_of.none_left = All-nil (λ (here : ExecutionContext). (here.config.now ≡ context.config.now) × (here.root.now ≡ context.root.now))
    configured_from (contexts_of.closed none rest) = configured_from rest
    configured_from (contexts_of.one_more {here} {contexts = others} last is rest) =
        All-cons (λ (here : ExecutionContext). (here.config.now ≡ context.config.now) × (here.root.now ≡ context.root.now)) here others (is.config, is.root) (configured_from rest)

    -- what is wanted of all modules is wanted of each
    wanted_here : (view : ModuleView) (number : ℕ) → reads context.wanted number ≡ true → is_wanted opens view number ≡ true
    wanted_here view number e = by_lazy view.settings.now.lazy
      where
        by_lazy : (b : Bool) → reads (if b then opens.wanted else None) number ≡ true
        by_lazy true = ap (λ wanted. reads wanted number) t.opens_are.wanted ∙ e
        by_lazy false = refl

    bound_at : (k : ℕ) (here : ExecutionContext) → slice_get contexts k ≡ Some here → (known : IsSeenAt analysis.variables k here) → AreBoundIn (IsConstantOrRead known.lists (reads context.wanted)) here.scope.now
    bound_at k here e known number n =
        let h = here_at k here e in
        let parts = parts_of k h.row h.o h.is in
        let lists : known.lists ≡ parts.lists = same_Some known.lists parts.lists (sym known.lists_there ∙ parts.kept) in
        subst (λ (f : Frames). IsSome (look_up f number)) (sym h.context_is.scope) (h.is.so.bound number (wider h.is.view parts.lists (subst (λ l. IsConstantOrRead l (reads context.wanted) number) lists n)))
      where
        wider : (view : ModuleView) (l : ModuleLists) → IsConstantOrRead l (reads context.wanted) number → IsConstantOrRead l (is_wanted opens view) number
        wider view l (inl constant) = inl constant
        wider view l (inr v) = inr (record { place = v.place; here = v.here; read = wanted_here view number v.read })

    pub ready : AreReady w compilation given base analysis settled task context contexts os
    ready = record { sorted = sorted_at; held_only = held_of; configured = configured_from are; read = wanted_read; bound = bound_at }

  -- ---- the whole

  -- what is defined where keys stand in this folder
  abbrev by_base : Text → Definitions
  by_base b = definitions_of compilation w.expansion (overrides_of given) settled.settle b (string_bytes context.config.now.working_directory)

  -- which variables open for the task
  abbrev open_in : Definitions → VariableName → Type 0
  open_in definitions = OpensFor definitions context.config.now.no_dependencies (name_at compilation analysis.table.value) task

  abbrev Open : VariableName → Type 0
  Open = open_in defined

  -- modules that open by places open by names
  pub open_by_names : ((k : ℕ) (view : ModuleView) (at : slice_get modules k ≡ Some view) (has : HasPathTo k (path_of k)) → MayOpen w compilation given base analysis settled task context modules opens t k view at (path_of k) has Open)
      → (old new : List Entry) → OpenByNames w compilation given base analysis settled task context modules opens old new
  open_by_names may old new = record {
    opened = λ rows o.
        let a = opens_all Open may order.within o in
        (a.0, named_so (Ok a.0) a.1, λ contexts are. (open_alike context.opening_order.now order.once order.all rows a.0 a.2 contexts are, ready context.opening_order.now order.once order.all rows a.0 a.2 contexts are));
    refused = λ failure o. named_so (Err failure) (opens_all Open may order.within o);
    begun = λ b. begins_so (all_begin w compilation given base analysis settled task context modules opens t Open may order.within b);
  }
    where
      order : IsOpeningOrder w compilation t.resolvable.numbered.of t.resolvable.numbered.single context.opening_order.now
      order = opening_order_is w compilation t.resolvable.numbered.of t.resolvable.numbered.single context.opening_order.now
          (t.prepared.order_is ∙ ap (λ ms. opening_from (length ms) ms (0 ∷ [])) t.known.modules_are)

      named_so : (r : Result (List Opened) OpeningFailure) → OpensAll configuration defined Open (map path_of context.opening_order.now) old new r
          → OpensAll configuration (by_base base) (open_in (by_base base)) (paths_of (all_modules compilation)) old new r
      named_so r h =
          subst (λ paths. OpensAll configuration (by_base base) (open_in (by_base base)) paths old new r) order.paths
          (subst (λ b. OpensAll configuration (by_base b) (open_in (by_base b)) (map path_of context.opening_order.now) old new r) (sym t.base_is) h)

      begins_so : AllBegin configuration defined Open (map path_of context.opening_order.now) old new → AllBegin configuration (by_base base) (open_in (by_base base)) (paths_of (all_modules compilation)) old new
      begins_so h =
          subst (λ paths. AllBegin configuration (by_base base) (open_in (by_base base)) paths old new) order.paths
          (subst (λ b. AllBegin configuration (by_base b) (open_in (by_base b)) (map path_of context.opening_order.now) old new) (sym t.base_is) h)
