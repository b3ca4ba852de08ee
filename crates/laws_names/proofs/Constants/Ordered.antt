-- Constants that are found one after another mean what is found.
use Rattle.std.proofs.Common.{◌≡◌, ◌⊎◌, inl, inr, refl, sym, ◌∙◌, ap, subst, Bool, true, false, if◌then◌else◌, List, [], ◌∷◌, ◌++◌, length, Option, Some, None, Ok, Err, ℕ, suc, ◌+◌, ◌≤◌, ◌<◌, arith, true≢false}
use Rattle.std.specs.Prelude.{slice_get, Contains, String}
use Rattle.std.specs.BTreeMap.{BTreeMap}
use Rattle.std.specs.Option.{option_map, option_or}
use Rattle.std.proofs.lemmas.Bool.Decides.{leb_tells}
use Rattle.std.proofs.lemmas.Option.{same_Some, slice_get_within}
use Rattle.just_text.specs.Tokens.{lexeme}
use Rattle.parse_expressions.specs.Literals.{from_file}
use Rattle.tree_attributes.specs.Sets.Sets.{shapes_in}
use Rattle.tree_expressions.specs.Shape.{shape_of}
use Rattle.tree_expressions.specs.declared.expression.Expression.{Expression}
use Rattle.tree_items.specs.Files.{item_shape}
use Rattle.tree_items.specs.Items.{assignment_shape}
use Rattle.tree_items.specs.declared.ast.Item.TheVariants.{Assignment}
use Rattle.tree_items.specs.declared.item.Binding.{Binding}
use Rattle.tree_items.specs.declared.set.Set.{Set}
use Rattle.just_value.specs.Constants.{constant_rows}
use Rattle.just_value.specs.Frames.{BoundRow, Frames, constant_binding, found_in}
use Rattle.just_value.specs.declared.positional.Override.{Override}
use Rattle.evaluate_context.specs.declared.context.AssignmentRef.{AssignmentRef}
use Rattle.evaluate_variables.specs.Opened.{before, ordered, overridden}
use Rattle.evaluate_variables.specs.Settled.{const_reading, found_value, read_constant}
use Rattle.modules_compilation.specs.Tables.{at}
use Rattle.modules_compilation.specs.declared.compilation.Compilation.{Compilation}
use Rattle.modules_compilation.specs.declared.module_node.ModuleNode.{ModuleNode}
use Rattle.resolve_references.specs.Places.{place_of as place_of_reference}
use Rattle.resolve_references.specs.References.{references_of}
use Rattle.resolve_references.specs.Seen.{seeing}
use Rattle.resolve_references.specs.declared.references.Reference.{Reference}
use Rattle.resolve_analysis.specs.Bound.{bindings_of, constant_number}
use Rattle.resolve_analysis.specs.Reads.{bodies, right_sides}
use Rattle.meaning_dialogues.specs.Faults.{Fault, not_constant}
use Rattle.meaning_dialogues.specs.Faults as faults
use Rattle.meaning_dialogues.specs.Dialogue.{Reading}
use Rattle.meaning_dialogues.specs.Evaluation.{Value}
use Rattle.meaning_dialogues.specs.Calls.{Frame, const_stage, empty}
use Rattle.meaning_dialogues.specs.Constants.{constant, settled}
use Rattle.meaning_dialogues.specs.Meaning.{Meaning}
use Rattle.meaning_dialogues.specs.Terms.{term_of}
use Rattle.meaning_evaluation.specs.Stages.Assigned.{Assigned, Settles, all_settled, assigned_dialogue, assigned_of, fails, is_none, passed, settles_to}
use Rattle.meaning_rules.specs.Worlds.Given.{Text, World}
use Rattle.meaning_rules.specs.Worlds.Keeping.{IsDefined, Keeps, a_variable}
use Rattle.meaning_rules.proofs.Worlds.Places.{contains_first, contains_none, push_left}
use Rattle.meaning_rules.specs.Constants.{AreLists, Means, by_constant, by_override, by_side}
use Rattle.meaning_rules.specs.Naming.{occurrences, part}
use Rattle.meaning_rules.specs.Naming as naming
use Rattle.meaning_rules.specs.Reading.{named}
use Rattle.meaning_rules.proofs.Meaning.{means_at_most_one}
use Rattle.laws_modules.proofs.Names.Found.{mapped, there_within}
use Rattle.laws_names.specs.Reading.Cycles.{IsGraphOf}
use Rattle.laws_names.specs.Reading.Places.{IsItemOf, variable_names}
use Rattle.laws_names.proofs.Reading.Bindings.{above_constants}
use Rattle.laws_names.proofs.Reading.Chains.{part_of_variable, places_many, reads_complete}
use Rattle.laws_names.proofs.Reading.Constants.{is_constant}
use Rattle.laws_names.proofs.Reading.Module.{keeps_variable, variable_kept, variables}
use Rattle.laws_names.proofs.Reading.Outcomes.{given_of, row_of}
use Rattle.laws_names.specs.Overriding.Texts.{IsGivenBy}
use Rattle.meaning_rules.specs.Overrides.{overrides_of}
use Rattle.laws_names.specs.Constants.Expressions.{known}
use Rattle.laws_names.specs.Constants.Sought.{AreOfLanguage, AreSought, IsSettledModule}
use Rattle.laws_names.proofs.Constants.Expressions.{constants_tell_names, expressions_settle}
use Rattle.laws_names.proofs.Constants.Kept.{cooked_at, given_by, lent_at, lent_there, number_of_name, number_once, variable_there}
use Rattle.laws_names.proofs.Constants.Languages.{constant_text}
use Rattle.laws_names.proofs.Constants.Marked.{free_place, number_reached, reached_number, through_reached}
use Rattle.laws_names.proofs.Constants.Named.{is_written, name_stands}

-- ---- what a number gives

module _ (outer : List (List BoundRow)) (frame : Frame) (excluded : ℕ → Bool) (name : Text) (number : ℕ) where
  abbrev gives : Meaning Value
  gives = constant (Some (read_constant outer frame excluded name (Some number)))

  abbrev gives_by : Bool → Option Value → Option BoundRow → Meaning Value
  gives_by b o row = constant (Some (if b then Err (not_constant (faults.a_variable name)) else found_value name (option_or o (option_map (λ (binding : BoundRow). binding.value) row))))

  excluded_gives : excluded number ≡ true → gives ≡ None
  excluded_gives e = ap (λ b. gives_by b (frame number) (found_in outer number)) e

  value_gives : (value : Value) → excluded number ≡ false → frame number ≡ Some value → gives ≡ Some (Ok value)
  value_gives value e h = (λ i. gives_by (e i) (h i) (found_in outer number))

  outer_gives : (row : BoundRow) → excluded number ≡ false → frame number ≡ None → found_in outer number ≡ Some row → gives ≡ Some (Ok row.value)
  outer_gives row e h found = (λ i. gives_by (e i) (h i) (found i))

module _ {A : Type 0} (w : World) (compilation : Compilation) (k : ℕ) (node : ModuleNode) (path : List Text) (m : IsSettledModule w compilation k node path) (words : List Override) (overrides : BTreeMap ℕ (String A))
    (lent : List AssignmentRef) (order : List ℕ) (sets : List Set) (is_read : ℕ → Bool) (sought : AreSought compilation node words overrides lent order sets is_read)
    (language : Frames) (l : AreOfLanguage language) (lists : Bool) (are_lists : AreLists w (overrides_of words) path node.source.now lists) where
  abbrev own : Text
  own = node.source.now

  abbrev vs : List (Binding Expression)
  vs = variables w compilation m.numbered k node m.here

  abbrev text_of : Binding Expression → Text
  text_of v = lexeme v.name.token

  abbrev outer : List (List BoundRow)
  outer = language.own ∷ language.outer

  abbrev reading : Frame → (ℕ → Bool) → Reading
  reading = const_reading outer

  -- what names mean by what is found so far
  abbrev so_far : Frame → (ℕ → Bool) → Text → Meaning Value
  so_far frame excluded = known (reading frame excluded) (bindings_of compilation node)

  abbrev MeansThat : Text → Meaning Value → Type 0
  MeansThat name meaning = Means w (overrides_of words) path own name meaning

  -- a variable is excluded and means none, or has a value and means that
  abbrev Agrees : Frame → (ℕ → Bool) → Binding Expression → Type 0
  Agrees frame excluded v = ((excluded v.number ≡ true) × MeansThat (text_of v) None)
      ⊎ ((value : Value) × (excluded v.number ≡ false) × (frame v.number ≡ Some value) × MeansThat (text_of v) (Some (Ok value)))

  -- so far along the order
  pub record Holds (end : ℕ) (frame : Frame) (excluded : ℕ → Bool) : Type 0 where
    pub settled_so : (i place : ℕ) (v : Binding Expression) → i < end → slice_get order i ≡ Some place → slice_get vs place ≡ Some v → is_read v.number ≡ true → Agrees frame excluded v
    pub fresh : (number : ℕ) → ((excluded number ≡ false) × (frame number ≡ None)) ⊎ ((i : ℕ) × (place : ℕ) × (v : Binding Expression) × (i < end) × (slice_get order i ≡ Some place) × (slice_get vs place ≡ Some v) × (v.number ≡ number))

  agreed : (frame : Frame) (excluded : ℕ → Bool) (place : ℕ) (v : Binding Expression) → slice_get vs place ≡ Some v → Agrees frame excluded v → MeansThat (text_of v) (so_far frame excluded (text_of v))
  agreed frame excluded place v e h =
      let number = ap (λ o. constant (Some (read_constant outer frame excluded (text_of v) o))) (number_of_name w compilation k node path m place v e) in
      elim h [
        | inl none ↦ subst (MeansThat (text_of v)) (sym (number ∙ excluded_gives outer frame excluded (text_of v) v.number none.0)) none.1
        | inr one ↦ subst (MeansThat (text_of v)) (sym (number ∙ value_gives outer frame excluded (text_of v) v.number one.0 one.1 one.2)) one.3
      ]

  -- ---- what a constant of the language means

  bound_above : (place : ℕ) (v : Binding Expression) → slice_get vs place ≡ Some v → length constant_rows ≤ v.number
  bound_above place v e =
      let kept = variable_kept w compilation m.numbered k node m.here place v e in
      above_constants w compilation m.numbered kept.0 (Assignment v) kept.3.there v.number (contains_first v.number [])

  found_outside : (number : ℕ) (row : List ℕ × List ℕ) → slice_get constant_rows number ≡ Some row → found_in outer number ≡ Some (constant_binding number row)
  found_outside number row e = ap (λ o. option_or o (found_in language.outer number)) (l number ∙ ap (option_map (constant_binding number)) e)

  language_means : (end : ℕ) (frame : Frame) (excluded : ℕ → Bool) → Holds end frame excluded → (name : Text) → (IsDefined w own a_variable name → ⊥) → (number : ℕ) → bindings_of compilation node name ≡ Some number → constant_number name ≡ Some number
      → MeansThat name (so_far frame excluded name)
  language_means end frame excluded holds name none number bound constant_is =
      let t = constant_text name number constant_is in
      let lt = (is_constant name number constant_is).1 in
      let is = ap (λ o. constant (Some (read_constant outer frame excluded name o))) bound in
      elim (holds.fresh number) [
        | inl f ↦ subst (MeansThat name) (sym (is ∙ outer_gives outer frame excluded name number (constant_binding number t.0) f.0 f.1 (found_outside number t.0 t.1))) (by_constant none t.2)
        | inr p ↦ let le = bound_above p.1 p.2 p.5 in let same = p.6 in absurd (omega (arith, lt, le, same))
      ]

  -- ---- what a variable means

  module _ (end place : ℕ) (found : slice_get order end ≡ Some place) (v : Binding Expression) (there : slice_get vs place ≡ Some v) (read : is_read v.number ≡ true) (frame : Frame) (excluded : ℕ → Bool) (holds : Holds end frame excluded) where
    side_given : (r : Reference) → Contains (references_of v.value) r → (o : Option ℕ) × (place_of_reference sought.resolver r ≡ Ok o)
    side_given r c =
        let row = row_of sought.resolver (right_sides vs ++ bodies _) sought.graph sought.rows place v.value (push_left (right_sides vs) _ place v.value (mapped (λ (x : Binding Expression). x.value) vs place v there)) in
        let g = given_of sought.resolver (references_of v.value) row.0 row.2 r c in
        (g.0, g.1)

    side_item : IsItemOf compilation node (Assignment v)
    side_item = let kept = variable_kept w compilation m.numbered k node m.here place v there in record { place = kept.0; from = kept.3.from; to = kept.3.to; there = kept.3.there }

    name_means : overridden overrides v.number ≡ None → (name : Text) → Contains (occurrences (shape_of v.value)) (naming.a_variable name) → MeansThat name (so_far frame excluded name)
    name_means free name c = elim (name_stands w compilation k node path m (Assignment v) side_item v.value (contains_first (seeing [] v.value) []) sought.resolver side_given name c) [
      | inl s ↦
          let reads = named (record {
            occurs = c;
            seen = λ d. contains_none [] name refl d;
            item = item_shape (Assignment s.1);
            kept = subst (λ t. Keeps w own a_variable t (item_shape (Assignment s.1))) s.3 (keeps_variable w compilation m.numbered k node m.here s.0 s.1 s.2);
          }) in
          let g : IsGraphOf compilation node sought.graph = record { resolver = sought.resolver; of = sought.of; rows = sought.rows } in
          let chain = reads_complete w compilation m.numbered k node m.here sought.graph g sought.small (part [] (shape_of v.value)) name reads place (part_of_variable w compilation m.numbered k node m.here place v there) in
          let u = variable_there w compilation k node path m chain.0 name chain.1 in
          let b = sought.ordered.ranked end place chain.0 found chain.2 (slice_get_within (variable_names compilation node) chain.0 name chain.1) in
          let from = number_reached w compilation k node path m words overrides lent order sets is_read sought place v there read in
          let stop = free_place w compilation k node path m words overrides lent order sets is_read sought place v there free in
          let reached = through_reached w compilation k node path m words overrides lent order sets is_read sought place chain.0 chain.2 from stop in
          let marked = reached_number w compilation k node path m words overrides lent order sets is_read sought chain.0 u.0 u.1 reached in
          subst (λ t. MeansThat t (so_far frame excluded t)) u.2 (agreed frame excluded chain.0 u.0 u.1 (holds.settled_so b.at chain.0 u.0 b.earlier b.found u.1 marked))
      | inr s ↦ language_means end frame excluded holds name s.0 s.1.0 s.1.1 s.1.2
    ]

    -- what it settles to by a text, or by its right side
    abbrev settles_by : Option Text → Meaning Value
    settles_by o = constant (settled (reading frame excluded) (assigned_dialogue o (const_stage lists) (term_of v.value)))

    by_text : (o : Option Text) → overridden overrides v.number ≡ o → IsGivenBy w (overrides_of words) path own (text_of v) o → MeansThat (text_of v) (settles_by o)
    by_text (Some text) is h = by_override h
    by_text None is free =
        let kept = variable_kept w compilation m.numbered k node m.here place v there in
        let seen = contains_first (seeing [] v.value) [] in
        let cooked = cooked_at w compilation m.numbered kept.0 (Assignment v) kept.3.there in
        let written = is_written w compilation k node path m (Assignment v) side_item v.value seen cooked.0 (cooked.1 (seeing [] v.value) seen) in
        let same = expressions_settle (from_file cooked.0 w.expansion) (bindings_of compilation node) (reading frame excluded) (constants_tell_names outer frame excluded) lists (so_far frame excluded) v.value written (λ name c. refl) in
        subst (MeansThat (text_of v)) (sym (ap constant same))
        (by_side {attributes = shapes_in v.attributes} {a = assignment_shape v} {lists = lists} free (keeps_variable w compilation m.numbered k node m.here place v there) are_lists (so_far frame excluded) (name_means is))

    -- so it means what it settles to
    settled_means : MeansThat (text_of v) (settles_by (overridden overrides v.number))
    settled_means = by_text (overridden overrides v.number) refl (given_by w compilation k node path m words overrides lent order sets is_read sought place v there)

    -- ---- the next one

    -- it was not settled before
    unsettled : (excluded v.number ≡ false) × (frame v.number ≡ None)
    unsettled = elim (holds.fresh v.number) [
      | inl f ↦ f
      | inr p ↦
          let same = number_once w compilation k node path m p.1 place p.2 v p.5 there p.6 in
          let index = sought.ordered.distinct p.0 end place (p.4 ∙ ap (λ x. Some x) same) found in
          let lt = p.3 in
          absurd (omega (arith, index, lt))
    ]

  module _ {end place : ℕ} (found : slice_get order end ≡ Some place) (v : Binding Expression) (there : slice_get vs place ≡ Some v) {frame next : Frame} {excluded wider : ℕ → Bool} (holds : Holds end frame excluded)
      (frames : (number : ℕ) → (number ≡ v.number) ⊎ (next number ≡ frame number)) (others : (number : ℕ) → (number ≡ v.number) ⊎ (wider number ≡ excluded number)) where
    other_number : (i place' : ℕ) (u : Binding Expression) → i < end → slice_get order i ≡ Some place' → slice_get vs place' ≡ Some u → u.number ≡ v.number → ⊥
    other_number i place' u lt at e same =
        let places = number_once w compilation k node path m place' place u v e there same in
        let index = sought.ordered.distinct i end place (at ∙ ap (λ x. Some x) places) found in
        omega (arith, index, lt)

    kept_agreed : (i place' : ℕ) (u : Binding Expression) → i < end → slice_get order i ≡ Some place' → slice_get vs place' ≡ Some u → Agrees frame excluded u → Agrees next wider u
    kept_agreed i place' u lt at e h = elim (frames u.number) [
      | inl same ↦ absurd (other_number i place' u lt at e same)
      | inr value ↦ elim (others u.number) [
        | inl same ↦ absurd (other_number i place' u lt at e same)
        | inr mark ↦ elim h [
          | inl none ↦ inl (mark ∙ none.0, none.1)
          | inr one ↦ inr (one.0, mark ∙ one.1, value ∙ one.2, one.3)
        ]
      ]
    ]

    here_fresh : (number : ℕ) → number ≡ v.number → (i : ℕ) × (place : ℕ) × (u : Binding Expression) × (i < suc end) × (slice_get order i ≡ Some place) × (slice_get vs place ≡ Some u) × (u.number ≡ number)
    here_fresh number same = (end, place, v, omega arith, found, there, sym same)

    grown : (is_read v.number ≡ true → Agrees next wider v) → Holds (suc end) next wider
    grown new = record {
      settled_so = λ i place' u lt at e read. elim (leb_tells end i) [
        | inl le ↦
            let above = le.1 in
            let index : i ≡ end = omega (arith, lt, above) in
            let places : place' ≡ place = same_Some place' place (sym at ∙ ap (slice_get order) index ∙ found) in
            let same : u ≡ v = same_Some u v (sym e ∙ ap (slice_get vs) places ∙ there) in
            subst (Agrees next wider) (sym same) (new (subst (λ (x : Binding Expression). is_read x.number ≡ true) same read))
        | inr less ↦ kept_agreed i place' u less.1 at e (holds.settled_so i place' u less.1 at e read)
      ];
      fresh = λ number. elim (frames number) [
        | inl same ↦ inr (here_fresh number same)
        | inr value ↦ elim (others number) [
          | inl same ↦ inr (here_fresh number same)
          | inr mark ↦ elim (holds.fresh number) [
            | inl f ↦ inl (mark ∙ f.0, value ∙ f.1)
            | inr p ↦ let lt = p.3 in inr (p.0, p.1, p.2, omega (arith, lt), p.4, p.5, p.6)
          ]
        ]
      ];
    }

  -- ---- all in order

  abbrev Goes : List Assigned → Frame → (ℕ → Bool) → Frame → (ℕ → Bool) → Option Fault → Type 0
  Goes = Settles lists reading (overridden overrides) is_read

  -- at the end all are settled, or a variable that the settings read means the fault
  abbrev Ended : Frame → (ℕ → Bool) → Option Fault → Type 0
  Ended frame excluded None = Holds (length order) frame excluded
  Ended frame excluded (Some fault) = (place : ℕ) × (v : Binding Expression) × (slice_get vs place ≡ Some v) × (is_read v.number ≡ true) × MeansThat (text_of v) (Some (Err fault))

  ended : {end : ℕ} {frame last : Frame} {excluded outside : ℕ → Bool} {fault : Option Fault} → end ≡ length order → Holds end frame excluded → Goes [] frame excluded last outside fault → Ended last outside fault
  ended {frame = frame} {excluded = excluded} e holds all_settled = subst (λ n. Holds n frame excluded) e holds

  one : {end place : ℕ} {more : List Assigned} {frame last : Frame} {excluded outside : ℕ → Bool} {fault : Option Fault} (lone : AssignmentRef) → slice_get order end ≡ Some place → slice_get vs place ≡ Some lone.assignment.now
      → ((frame : Frame) (excluded : ℕ → Bool) → Holds (suc end) frame excluded → Goes more frame excluded last outside fault → Ended last outside fault)
      → Holds end frame excluded → Goes (assigned_of lone ∷ more) frame excluded last outside fault → Ended last outside fault
  one {frame = frame} {excluded = excluded} lone found there go holds (passed unread rest) =
      go frame excluded (grown found lone.assignment.now there holds (λ n. inr refl) (λ n. inr refl) (λ read. absurd (true≢false (sym read ∙ unread)))) rest
  one {end = end} {place = place} {frame = frame} {excluded = excluded} lone found there go holds (settles_to {next = next} {value = value} read is held others rest) =
      let v = lone.assignment.now in
      let free = unsettled end place found v there read frame excluded holds in
      let means = subst (MeansThat (text_of v)) is (settled_means end place found v there read frame excluded holds) in
      go next excluded (grown found v there holds others (λ n. inr refl) (λ r. inr (value, free.0, held, means))) rest
  one {end = end} {place = place} {frame = frame} {excluded = excluded} lone found there go holds (is_none {wider = wider} read is wide others rest) =
      let v = lone.assignment.now in
      let means = subst (MeansThat (text_of v)) is (settled_means end place found v there read frame excluded holds) in
      go frame wider (grown found v there holds (λ n. inr refl) others (λ r. inl (wide, means))) rest
  one {end = end} {place = place} {frame = frame} {excluded = excluded} lone found there go holds (fails read is) =
      let v = lone.assignment.now in
      (place, v, there, read, subst (MeansThat (text_of v)) is (settled_means end place found v there read frame excluded holds))

  ordered_with : {frame last : Frame} {excluded outside : ℕ → Bool} {fault : Option Fault} (place : ℕ) (lone : AssignmentRef) (rest : List ℕ) → slice_get lent place ≡ Some lone
      → Goes (ordered lent (place ∷ rest)) frame excluded last outside fault → Goes (assigned_of lone ∷ ordered lent rest) frame excluded last outside fault
  ordered_with {frame} {last} {excluded} {outside} {fault} place lone rest e goes = subst (λ o. Goes (before o (ordered lent rest)) frame excluded last outside fault) e goes

  -- from a place in the order on
  walk : (rest : List ℕ) (end : ℕ) → ((i : ℕ) → slice_get rest i ≡ slice_get order (end + i)) → end + length rest ≡ length order → {last : Frame} {outside : ℕ → Bool} {fault : Option Fault}
      → (frame : Frame) (excluded : ℕ → Bool) → Holds end frame excluded → Goes (ordered lent rest) frame excluded last outside fault → Ended last outside fault
  walk [] end same many frame excluded holds goes = let sum = many in ended (omega (arith, sum)) holds goes
  walk (place ∷ rest) end same many {last} {outside} {fault} frame excluded holds goes =
      let index : end + 0 ≡ end = omega arith in
      let found : slice_get order end ≡ Some place = ap (slice_get order) (sym index) ∙ sym (same 0) in
      let n = there_within (variable_names compilation node) place (sought.ordered.within end place found).0 in
      let v = variable_there w compilation k node path m place n.0 n.1 in
      let lone = lent_at w compilation k node path m words overrides lent order sets is_read sought place v.0 v.1 in
      let there = lent_there w compilation k node path m words overrides lent order sets is_read sought place lone.0 lone.1 in
      let sum = many in
      one lone.0 found there (walk rest (suc end) (λ i. let next : end + suc i ≡ suc end + i = omega arith in same (suc i) ∙ ap (slice_get order) next) (omega (arith, sum))) holds
      (ordered_with place lone.0 rest lone.1 goes)

  begun : Holds 0 empty (λ number. false)
  begun = record { settled_so = λ i place v lt. absurd (omega (arith, lt)); fresh = λ number. inl (refl, refl) }

  module _ {last : Frame} {outside : ℕ → Bool} where
    pub ends : {fault : Option Fault} → Goes (ordered lent order) empty (λ number. false) last outside fault → Ended last outside fault
    ends goes = let many : 0 + length order ≡ length order = omega arith in walk order 0 (λ i. let same : i ≡ 0 + i = omega arith in ap (slice_get order) same) many empty (λ number. false) begun goes

    module _ (goes : Goes (ordered lent order) empty (λ number. false) last outside None) where
      all_hold : Holds (length order) last outside
      all_hold = ends goes

      -- at the end a variable that is read means what is found, which is no fault
      variable_settled : (place : ℕ) (v : Binding Expression) → slice_get vs place ≡ Some v → is_read v.number ≡ true → Agrees last outside v
      variable_settled place v e read =
          let name = mapped text_of vs place v e in
          let lt = slice_get_within (variable_names compilation node) place (text_of v) name in
          let g : IsGraphOf compilation node sought.graph = record { resolver = sought.resolver; of = sought.of; rows = sought.rows } in
          let many = places_many w compilation m.numbered k node m.here sought.graph g in
          let b = sought.ordered.complete place lt (omega (arith, lt, many)) in
          all_hold.settled_so b.at place v b.earlier b.found e read

      pub variable_means : (place : ℕ) (v : Binding Expression) → slice_get vs place ≡ Some v → is_read v.number ≡ true → MeansThat (text_of v) (so_far last outside (text_of v))
      variable_means place v e read = agreed last outside place v e (variable_settled place v e read)

      -- and so does a constant of the language
      pub constant_means : (name : Text) → (IsDefined w own a_variable name → ⊥) → (number : ℕ) → bindings_of compilation node name ≡ Some number → constant_number name ≡ Some number → MeansThat name (so_far last outside name)
      constant_means = language_means (length order) last outside all_hold

      -- it means no fault
      pub variable_faultless : (place : ℕ) (v : Binding Expression) → slice_get vs place ≡ Some v → is_read v.number ≡ true → (fault : Fault) → MeansThat (text_of v) (Some (Err fault)) → ⊥
      variable_faultless place v e read fault h = elim (variable_settled place v e read) [
        | inl none ↦ let same = means_at_most_one w (overrides_of words) path own (text_of v) None (Some (Err fault)) none.1 h in absurd (cc same)
        | inr one ↦ let same = means_at_most_one w (overrides_of words) path own (text_of v) (Some (Ok one.0)) (Some (Err fault)) one.3 h in absurd (cc same)
      ]
