-- What the settings of a module read is what is marked in its graph of reads.
use Rattle.std.proofs.Common.{◌≡◌, inl, inr, refl, sym, ◌∙◌, ap, subst, Bool, true, false, if◌then◌else◌, List, [], ◌++◌, length, Option, Some, None, ℕ, ◌+◌, ◌-◌, ◌≤◌, ◌<◌, arith, true≢false, is_some}
use Rattle.std.specs.Prelude.{slice_get, Contains, String, Ok}
use Rattle.std.specs.BTreeMap.{BTreeMap}
use Rattle.std.specs.List.{flat_map}
use Rattle.std.proofs.lemmas.Bool.Decides.{leb_tells}
use Rattle.std.proofs.lemmas.List.{get_or_past, length-map}
use Rattle.std.proofs.lemmas.Option.{none-some, same_Some, slice_get_within, get_or_from_slice_get}
use Rattle.just_text.specs.Tokens.{lexeme}
use Rattle.tree_attributes.specs.Settings.{SetShape}
use Rattle.tree_expressions.specs.Shape.{shape_of}
use Rattle.tree_expressions.specs.declared.expression.Expression.{Expression}
use Rattle.tree_items.specs.Files.{function_item, item_shape}
use Rattle.tree_items.specs.Items.{FunctionShape, function_shape, set_shape}
use Rattle.tree_items.specs.declared.ast.Item.TheVariants.{Assignment, Set as set_item}
use Rattle.tree_items.specs.declared.item.Binding.{Binding}
use Rattle.tree_items.specs.declared.item.FunctionDefinition.{FunctionDefinition}
use Rattle.tree_items.specs.declared.set.Set.{Set}
use Rattle.just_value.specs.declared.positional.Override.{Override}
use Rattle.evaluate_context.specs.declared.context.AssignmentRef.{AssignmentRef}
use Rattle.evaluate_variables.specs.Opened.{overridden}
use Rattle.modules_compilation.specs.declared.compilation.Compilation.{Compilation}
use Rattle.modules_compilation.specs.declared.module_node.ModuleNode.{ModuleNode}
use Rattle.resolve_order.specs.Flooded.{Reaches, further, is_stop, leads_of, root}
use Rattle.resolve_order.specs.Needs.{Needs}
use Rattle.resolve_order.specs.Reads.{ReadsThrough, directly, through}
use Rattle.resolve_references.specs.ItemReferences.{references_of_set}
use Rattle.resolve_references.specs.Places.{place_of as place_of_reference}
use Rattle.resolve_references.specs.References.{references_of}
use Rattle.resolve_references.specs.Seen.{Seen, seen_in}
use Rattle.resolve_references.specs.declared.references.Reference.{Reference}
use Rattle.resolve_analysis.specs.Reads.{bodies, overridden_by, right_sides}
use Rattle.meaning_rules.specs.Worlds.Given.{Text, World}
use Rattle.meaning_rules.specs.Worlds.Keeping.{Keeps, a_variable}
use Rattle.meaning_rules.proofs.Worlds.Places.{contains_cases, contains_first, contains_none}
use Rattle.meaning_rules.specs.Constants.{HasSetting, IsPartOf, IsReadBySettings}
use Rattle.meaning_rules.specs.Constants as rules
use Rattle.meaning_rules.specs.Fixed.{value_of}
use Rattle.meaning_rules.specs.Graph.{of_function, of_variable}
use Rattle.meaning_rules.specs.Naming.{Occurrence, Part, occurrences, part, parts_of, parts_of_value}
use Rattle.meaning_rules.specs.Naming as naming
use Rattle.meaning_rules.specs.Overriding.{IsOverriddenBy}
use Rattle.meaning_rules.specs.Reading.{ItemReads, KeptReads, PartReads, called, named}
use Rattle.laws_modules.proofs.Names.Found.{mapped, mapped_at, there_within}
use Rattle.laws_modules.specs.References.Occurrences.{occurrence_of}
use Rattle.laws_names.specs.Reading.Cycles.{IsGraphOf}
use Rattle.laws_names.specs.Reading.Parts.{part_of, references_seen}
use Rattle.laws_names.specs.Reading.Places.{AreFew, IsNamed, IsPlaceMeant, function_names, variable_names}
use Rattle.laws_names.proofs.Reading.Chains.{IsPartAt, part_of_function, part_of_variable, places_many, reads_complete}
use Rattle.laws_names.proofs.Reading.Items.{occurred, occurs, part_seen, seen_part}
use Rattle.laws_names.proofs.Reading.Lists.{contained_flat, contains_flat}
use Rattle.laws_names.proofs.Reading.Module.{function_known, function_once, functions, keeps_function, keeps_variable, variable_known, variable_once, variables}
use Rattle.laws_names.proofs.Reading.Outcomes.{given_of, read_from, row_of}
use Rattle.laws_names.proofs.Reading.Places.{places_are_meant}
use Rattle.laws_names.proofs.Reading.References.{setting_references_are_seen}
use Rattle.laws_names.specs.Overriding.Texts.{IsGivenBy}
use Rattle.meaning_rules.specs.Overrides.{overrides_of}
use Rattle.laws_names.specs.Constants.Sought.{AreSought, IsListedSet, IsSettledModule}
use Rattle.laws_names.proofs.Constants.Kept.{given_by, lent_at, lent_there, name_there, number_once, setting_item, setting_kept, setting_there, stop_at, variable_there}

module _ {A : Type 0} (w : World) (compilation : Compilation) (k : ℕ) (node : ModuleNode) (path : List Text) (m : IsSettledModule w compilation k node path) (words : List Override) (overrides : BTreeMap ℕ (String A))
    (lent : List AssignmentRef) (order : List ℕ) (sets : List Set) (is_read : ℕ → Bool) (sought : AreSought compilation node words overrides lent order sets is_read) where
  abbrev own : Text
  own = node.source.now

  abbrev vs : List (Binding Expression)
  vs = variables w compilation m.numbered k node m.here

  abbrev fs : List FunctionDefinition
  fs = functions w compilation m.numbered k node m.here

  abbrev names : List Text
  names = variable_names compilation node

  abbrev count : ℕ
  count = length names

  abbrev text_of : Binding Expression → Text
  text_of v = lexeme v.name.token

  abbrev stops : List Bool
  stops = overridden_by overrides vs

  abbrev graph : List (List ℕ)
  graph = sought.graph

  g : IsGraphOf compilation node graph
  g = record { resolver = sought.resolver; of = sought.of; rows = sought.rows }

  abbrev Reached : ℕ → Type 0
  Reached place = Reaches graph stops sought.places place

  abbrev IsRead : Text → Type 0
  IsRead name = IsReadBySettings w (overrides_of words) path own name

  abbrev IsPart : ℕ → Part → Type 0
  IsPart place p = IsPartAt w compilation m.numbered k node m.here place p

  graph_many : length graph ≡ count + length fs
  graph_many = places_many w compilation m.numbered k node m.here graph g

  few : AreFew w compilation node
  few =
      let all = length-map fs (λ (f : FunctionDefinition). lexeme f.name.token) in
      let many = graph_many in
      let less = sought.small in
      omega (arith, all, many, less)

  abbrev body_of : FunctionDefinition → Part
  body_of f = part (function_shape f).parameters (function_shape f).body

  abbrev side_of : Binding Expression → Part
  side_of v = part [] (shape_of v.value)

  -- ---- no function is a stop, and no variable that is not overridden

  stops_many : length stops ≡ count
  stops_many = length-map vs _ ∙ sym (length-map vs text_of)

  no_stop : (place : ℕ) → count ≤ place → is_stop stops place ≡ false
  no_stop place le = let many = stops_many in get_or_past stops place false (omega (arith, many, le))

  free_variable : (i : ℕ) (v : Binding Expression) → slice_get vs i ≡ Some v → ((text : Text) → IsOverriddenBy w (overrides_of words) path own (text_of v) text → ⊥) → overridden overrides v.number ≡ None
  free_variable i v e free = by_given (overridden overrides v.number) refl (given_by w compilation k node path m words overrides lent order sets is_read sought i v e)
    where
      by_given : (o : Option Text) → overridden overrides v.number ≡ o → IsGivenBy w (overrides_of words) path own (text_of v) o → overridden overrides v.number ≡ None
      by_given None is h = is
      by_given (Some text) is h = absurd (free text h)

  pub free_place : (i : ℕ) (v : Binding Expression) → slice_get vs i ≡ Some v → overridden overrides v.number ≡ None → is_stop stops i ≡ false
  free_place i v e none = stop_at w compilation k node path m words overrides lent order sets is_read sought i v e ∙ ap is_some none

  free_again : (i : ℕ) (v : Binding Expression) → slice_get vs i ≡ Some v → is_stop stops i ≡ false → (text : Text) → IsOverriddenBy w (overrides_of words) path own (text_of v) text → ⊥
  free_again i v e free text by = by_given (overridden overrides v.number) (sym (stop_at w compilation k node path m words overrides lent order sets is_read sought i v e) ∙ free) (given_by w compilation k node path m words overrides lent order sets is_read sought i v e)
    where
      by_given : (o : Option Text) → is_some o ≡ false → IsGivenBy w (overrides_of words) path own (text_of v) o → ⊥
      by_given None is h = h text by
      by_given (Some other) is h = true≢false is

  -- ---- what is marked is read

  abbrev IsReadPlace : ℕ → Type 0
  IsReadPlace place = ((name : Text) → slice_get names place ≡ Some name → IsRead name)
      × ((j : ℕ) (f : FunctionDefinition) → slice_get fs j ≡ Some f → place ≡ count + j → (name : Text) → PartReads w own (body_of f) name → IsRead name)

  -- what a part names is read, where all that the part reads is
  leads : (p : Part) → ((name : Text) → PartReads w own p name → IsRead name) → (o : Occurrence) → Contains (occurrences p.said) o → (place : ℕ) → IsNamed w compilation node p o place → IsReadPlace place
  leads p all o c place (of_variable {name} there unseen e) =
      let v = variable_there w compilation k node path m there name e in
      let lt = slice_get_within names there name e in
      let read : IsRead name = all name (named (record {
        occurs = c;
        seen = unseen;
        item = item_shape (Assignment v.0);
        kept = subst (λ t. Keeps w own a_variable t (item_shape (Assignment v.0))) v.2 (keeps_variable w compilation m.numbered k node m.here there v.0 v.1);
      })) in
      (λ other e'. subst IsRead (same_Some name other (sym e ∙ e')) read, λ j f at same other r. absurd (omega (arith, lt, same)))
  leads p all o c place (of_function {name} {count = arguments} j e) = (
    λ other e'. let lt = slice_get_within names (count + j) other e' in absurd (omega (arith, lt)),
    λ j' f at same other r.
        let d = mapped_at (λ (f : FunctionDefinition). lexeme f.name.token) fs j name e in
        let index : j ≡ j' = omega (arith, same) in
        let is : d.0 ≡ f = same_Some d.0 f (sym d.1 ∙ ap (slice_get fs) index ∙ at) in
        all other (called {f = function_shape d.0} (record {
          count = arguments;
          occurs = subst (λ t. Contains (occurrences p.said) (naming.a_call t arguments)) (sym d.2) c;
          kept = keeps_function w compilation m.numbered k node m.here j d.0 d.1;
        }) (subst (λ (x : FunctionDefinition). PartReads w own (body_of x) other) (sym is) r)),
  )

  -- what a row has is named in the part of its place
  row_named : (place : ℕ) (p : Part) → IsPart place p → (row : List ℕ) → slice_get graph place ≡ Some row → (other : ℕ) → Contains row other → (o : Occurrence) × Contains (occurrences p.said) o × IsNamed w compilation node p o other
  row_named place p at row e other c =
      let there = row_of sought.resolver (right_sides vs ++ bodies fs) graph sought.rows place at.s.expression at.stands in
      let same : row ≡ there.0 = same_Some row there.0 (sym e ∙ there.1) in
      let r = read_from sought.resolver (references_of at.s.expression) there.0 there.2 other (subst (λ xs. Contains xs other) same c) in
      let meant = places_are_meant w compilation m.numbered k node m.here sought.resolver sought.of at.item at.of at.s at.seen r.0 r.1 in
      let found = subst (λ q. IsPlaceMeant w compilation node q (occurrence_of r.0) (Ok (Some other))) at.is (subst (IsPlaceMeant w compilation node (part_of at.s) (occurrence_of r.0)) r.2 meant) in
      (occurrence_of r.0, subst (λ (q : Part). Contains (occurrences q.said) (occurrence_of r.0)) at.is (occurs at.s r.0 r.1), found.1)

  -- of what is read, and is no stop, all is read that its part reads
  part_leads : (place : ℕ) (p : Part) → IsPart place p → ((name : Text) → PartReads w own p name → IsRead name) → (other : ℕ) → Contains (leads_of graph place) other → IsReadPlace other
  part_leads place p at all other c = by_row (slice_get graph place) refl
    where
      by_row : (o : Option (List ℕ)) → slice_get graph place ≡ o → IsReadPlace other
      by_row (Some row) e =
          let q = row_named place p at row e other (subst (λ xs. Contains xs other) (get_or_from_slice_get graph place row [] e) c) in
          leads p all q.0 q.1 other q.2
      by_row None e =
          let there = row_of sought.resolver (right_sides vs ++ bodies fs) graph sought.rows place at.s.expression at.stands in
          absurd (none-some there.0 (sym e ∙ there.1))

  place_leads : (place other : ℕ) → is_stop stops place ≡ false → Contains (leads_of graph place) other → IsReadPlace place → IsReadPlace other
  place_leads place other free c h = elim (leb_tells count place) [
    | inl le ↦ by_function le.1
    | inr lt ↦ by_variable lt.1
  ]
    where
      by_function : count ≤ place → IsReadPlace other
      by_function le = elim (leb_tells (length graph) place) [
        | inl past ↦ absurd (contains_none (leads_of graph place) other (get_or_past graph place [] past.1) c)
        | inr within ↦
            let many = graph_many in
            let less = within.1 in
            let f = there_within fs (place - count) (omega (arith, many, less, le)) in
            let at = part_of_function w compilation m.numbered k node m.here (place - count) f.0 f.1 in
            let same : place ≡ count + (place - count) = omega (arith, le) in
            part_leads place (body_of f.0) (subst (λ q. IsPart q (body_of f.0)) (sym same) at) (λ name r. h.1 (place - count) f.0 f.1 same name r) other c
      ]

      by_variable : place < count → IsReadPlace other
      by_variable lt =
          let t = there_within names place lt in
          let v = variable_there w compilation k node path m place t.0 t.1 in
          let read : IsRead (text_of v.0) = subst IsRead (sym v.2) (h.0 t.0 t.1) in
          let kept = keeps_variable w compilation m.numbered k node m.here place v.0 v.1 in
          part_leads place (side_of v.0) (part_of_variable w compilation m.numbered k node m.here place v.0 v.1)
          (λ name r. rules.through read (free_again place v.0 v.1 free) (record { item = item_shape (Assignment v.0); kept = kept; reads = (side_of v.0, contains_first (side_of v.0) [], r) })) other c

  root_read : (place : ℕ) → Contains sought.places place → IsReadPlace place
  root_read place c =
      let r = read_from sought.resolver (flat_map references_of_set sets) sought.places sought.read place c in
      let f = contained_flat references_of_set sets r.0 r.1 in
      let listed = (sought.sets_are f.0).0 f.1 in
      let i = setting_item w compilation k node path m f.0 listed in
      let seen = contained_flat references_seen (seen_in (set_item f.0)) r.0 (subst (λ rs. Contains rs r.0) (setting_references_are_seen f.0) f.2) in
      let meant = subst (IsPlaceMeant w compilation node (part_of seen.0) (occurrence_of r.0)) r.2 (places_are_meant w compilation m.numbered k node m.here sought.resolver sought.of (set_item f.0) i seen.0 seen.1 r.0 seen.2) in
      leads (part_of seen.0) (λ name reads. rules.directly {s = set_shape f.0} {p = part_of seen.0} (setting_there w compilation k node path m (overrides_of words) f.0 listed)
      (seen_part w compilation m.numbered listed.0 (set_item f.0) listed.2 seen.0 seen.1) reads) (occurrence_of r.0) (occurs seen.0 r.0 seen.2) place meant.1

  sound : (place : ℕ) → Reached place → IsReadPlace place
  sound place (root c) = root_read place c
  sound other (further {place} r c) = by_stop (is_stop stops place) refl c (sound place r)
    where
      by_stop : (b : Bool) → is_stop stops place ≡ b → Contains (if b then [] else leads_of graph place) other → IsReadPlace place → IsReadPlace other
      by_stop true is c h = absurd (contains_none [] other refl c)
      by_stop false is c h = place_leads place other is c h

  -- ---- what is read is marked

  goes_on : (place other : ℕ) → Reached place → is_stop stops place ≡ false → Needs graph place other → Reached other
  goes_on place other r free needs =
      let row : leads_of graph place ≡ needs.row = get_or_from_slice_get graph place needs.row [] needs.here in
      further r (subst (λ (b : Bool). Contains (if b then [] else leads_of graph place) other) (sym free) (subst (λ xs. Contains xs other) (sym row) needs.listed))

  pub through_reached : (place read : ℕ) → ReadsThrough graph count place read → Reached place → is_stop stops place ≡ false → Reached read
  through_reached place read (directly needs) r free = goes_on place read r free needs
  through_reached place read (through {function} needs le more) r free = through_reached function read more (goes_on place function r free needs) (no_stop function le)

  -- the variable of the name is reached
  abbrev IsReachedName : Text → Type 0
  IsReachedName name = (place : ℕ) × (slice_get names place ≡ Some name) × Reached place

  part_reached : (place : ℕ) → Reached place → is_stop stops place ≡ false → (p : Part) → IsPart place p → (name : Text) → PartReads w own p name → IsReachedName name
  part_reached place r free p at name reads =
      let c = reads_complete w compilation m.numbered k node m.here graph g sought.small p name reads place at in
      (c.0, c.1, through_reached place c.0 c.2 r free)

  -- a setting's part
  module _ (s : Set) (listed : IsListedSet compilation node s) (x : Seen) (c : Contains (seen_in (set_item s)) x) where
    -- a reference of the part has a place, or has none
    pub reference_given : (r : Reference) → Contains (references_of x.expression) r → (found : Option ℕ) × (place_of_reference sought.resolver r ≡ Ok found) × ((place : ℕ) → found ≡ Some place → Contains sought.places place)
    reference_given r d =
        let inside = subst (λ rs. Contains rs r) (sym (setting_references_are_seen s)) (contains_flat references_seen (seen_in (set_item s)) x r c d) in
        given_of sought.resolver (flat_map references_of_set sets) sought.places sought.read r (contains_flat references_of_set sets s r ((sought.sets_are s).1 listed) inside)

    -- what the part names is found, or named by nothing
    record IsFound (o : Occurrence) : Type 0 where
      pub found : Option ℕ
      pub meant : IsPlaceMeant w compilation node (part_of x) o (Ok found)
      pub listed_there : (place : ℕ) → found ≡ Some place → Contains sought.places place

    occurrence_found : (o : Occurrence) → Contains (occurrences (part_of x).said) o → IsFound o
    occurrence_found o h =
        let r = occurred x o h in
        let given = reference_given r.0 r.1 in
        let i = setting_item w compilation k node path m s listed in
        let meant = places_are_meant w compilation m.numbered k node m.here sought.resolver sought.of (set_item s) i x c r.0 r.1 in
        record {
          found = given.0;
          meant = subst (λ q. IsPlaceMeant w compilation node (part_of x) q (Ok given.0)) r.2 (subst (IsPlaceMeant w compilation node (part_of x) (occurrence_of r.0)) given.1 meant);
          listed_there = given.2;
        }

    setting_reached : (name : Text) → PartReads w own (part_of x) name → IsReachedName name
    setting_reached name (named h) =
        let f = occurrence_found (naming.a_variable name) h.occurs in
        by_found f.found f.meant f.listed_there
      where
        by_place : (place : ℕ) → IsNamed w compilation node (part_of x) (naming.a_variable name) place → Contains sought.places place → IsReachedName name
        by_place place (of_variable there unseen e) listed = (place, e, root listed)

        by_found : (found : Option ℕ) → IsPlaceMeant w compilation node (part_of x) (naming.a_variable name) (Ok found) → ((place : ℕ) → found ≡ Some place → Contains sought.places place) → IsReachedName name
        by_found None meant listed =
            let v = variable_known w compilation m.numbered k node m.here name h.item h.kept in
            absurd (meant.1 few v.0 (of_variable v.0 h.seen (name_there w compilation k node path m v.0 v.1 v.2 ∙ ap (λ t. Some t) v.3)))
        by_found (Some place) meant listed = by_place place meant.1 (listed place refl)
    setting_reached name (called {f} h more) =
        let q = occurrence_found (naming.a_call f.name h.count) h.occurs in
        by_found q.found q.meant q.listed_there
      where
        by_place : (place : ℕ) → IsNamed w compilation node (part_of x) (naming.a_call f.name h.count) place → Contains sought.places place → IsReachedName name
        by_place place (of_function j e) listed =
            let d = mapped_at (λ (f : FunctionDefinition). lexeme f.name.token) fs j f.name e in
            let known = function_known w compilation m.numbered k node m.here f.name (function_item f) h.kept in
            let index = function_once w compilation m.numbered k node m.here j known.0 d.0 known.1 d.1 known.2 (d.2 ∙ sym known.3) in
            let same : d.0 ≡ known.1 = same_Some d.0 known.1 (sym d.1 ∙ ap (slice_get fs) index ∙ known.2) in
            let shapes : function_shape known.1 ≡ f = cc known.4 in
            let at = subst (λ (y : FunctionShape). IsPart (count + j) (part y.parameters y.body)) (ap function_shape same ∙ shapes) (part_of_function w compilation m.numbered k node m.here j d.0 d.1) in
            part_reached (count + j) (root listed) (no_stop (count + j) (omega arith)) (part f.parameters f.body) at name more

        by_found : (found : Option ℕ) → IsPlaceMeant w compilation node (part_of x) (naming.a_call f.name h.count) (Ok found) → ((place : ℕ) → found ≡ Some place → Contains sought.places place) → IsReachedName name
        by_found None meant listed =
            let d = function_known w compilation m.numbered k node m.here f.name (function_item f) h.kept in
            let there : slice_get (function_names compilation node) d.0 ≡ Some f.name = mapped (λ (x : FunctionDefinition). lexeme x.name.token) fs d.0 d.1 d.2 ∙ ap (λ t. Some t) d.3 in
            absurd (meant.1 few (count + d.0) (of_function d.0 there))
        by_found (Some place) meant listed = by_place place meant.1 (listed place refl)

  -- each name that the settings read is reached
  read_reached : (name : Text) → IsRead name → IsReachedName name
  read_reached name (rules.directly {s} {p} has part reads) =
      let t = setting_kept w compilation k node path m (overrides_of words) s has in
      let c = subst (λ (y : SetShape). Contains (parts_of_value (value_of w.expansion) y.value) p) (sym t.2) part in
      let x = part_seen w compilation m.numbered t.1.0 (set_item t.0) t.1.2 p c in
      setting_reached t.0 t.1 x.0 x.1 name (subst (λ q. PartReads w own q name) (sym x.2) reads)
  read_reached other (rules.through {name} r free h) = behind name other (read_reached name r) free h
    where
      behind : (name other : Text) → IsReachedName name → ((text : Text) → IsOverriddenBy w (overrides_of words) path own name text → ⊥) → KeptReads w own name other → IsReachedName other
      behind name other before free h =
          let v = variable_there w compilation k node path m before.0 name before.1 in
          let none = free_variable before.0 v.0 v.1 (λ text by. free text (subst (λ t. IsOverriddenBy w (overrides_of words) path own t text) v.2 by)) in
          let d = variable_known w compilation m.numbered k node m.here name h.item h.kept in
          let places = variable_once w compilation m.numbered k node m.here d.0 before.0 d.1 v.0 d.2 v.1 (d.3 ∙ sym v.2) in
          let reads = subst (λ i. ItemReads w own i other) (sym d.4) h.reads in
          by_part d.0 d.1 d.2 places (free_place before.0 v.0 v.1 none) reads.0 reads.1 reads.2
        where
          by_part : (i : ℕ) (v : Binding Expression) → slice_get vs i ≡ Some v → i ≡ before.0 → is_stop stops before.0 ≡ false → (p : Part) → Contains (parts_of (value_of w.expansion) (item_shape (Assignment v))) p → PartReads w own p other → IsReachedName other
          by_part i v e same free p c reads =
              let only : side_of v ≡ p = elim (contains_cases (side_of v) [] p c) [ inl is ↦ is | inr d ↦ absurd (contains_none [] p refl d) ] in
              part_reached before.0 before.2 free p (subst (λ q. IsPart q p) same (subst (IsPart i) only (part_of_variable w compilation m.numbered k node m.here i v e))) other reads

  -- ---- the numbers of what is marked

  pub reached_number : (place : ℕ) (v : Binding Expression) → slice_get vs place ≡ Some v → Reached place → is_read v.number ≡ true
  reached_number place v e r =
      let l = lent_at w compilation k node path m words overrides lent order sets is_read sought place v e in
      let lt = slice_get_within names place (text_of v) (name_there w compilation k node path m place v e) in
      let many = graph_many in
      (sought.are_read v.number).1 (record {
        place = place;
        here = mapped (λ (x : AssignmentRef). x.assignment.now.number) lent place l.0 l.1 ∙ ap (λ (x : Binding Expression). Some x.number) l.2;
        marked = sought.reached.complete place (omega (arith, lt, many)) r;
      })

  pub number_reached : (place : ℕ) (v : Binding Expression) → slice_get vs place ≡ Some v → is_read v.number ≡ true → Reached place
  number_reached place v e is =
      let marked = (sought.are_read v.number).0 is in
      let l = mapped_at (λ (x : AssignmentRef). x.assignment.now.number) lent marked.place v.number marked.here in
      let there = lent_there w compilation k node path m words overrides lent order sets is_read sought marked.place l.0 l.1 in
      let same = number_once w compilation k node path m marked.place place l.0.assignment.now v there e l.2 in
      subst Reached same (sought.reached.sound marked.place marked.marked)

  -- a variable whose number is marked is read by the settings
  pub number_read : (place : ℕ) (v : Binding Expression) → slice_get vs place ≡ Some v → is_read v.number ≡ true → IsRead (text_of v)
  number_read place v e is = (sound place (number_reached place v e is)).0 (text_of v) (name_there w compilation k node path m place v e)

  -- and the number of a variable that the settings read is marked
  pub read_number : (name : Text) → IsRead name → (place : ℕ) × (v : Binding Expression) × (slice_get vs place ≡ Some v) × (text_of v ≡ name) × (is_read v.number ≡ true)
  read_number name r =
      let q = read_reached name r in
      let v = variable_there w compilation k node path m q.0 name q.1 in
      (q.0, v.0, v.1, v.2, reached_number q.0 v.0 v.1 q.2)
