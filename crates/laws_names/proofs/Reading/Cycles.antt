-- Cycles of variables.
use Rattle.std.proofs.Common.{◌≡◌, inl, inr, refl, sym, ◌∙◌, ap, subst, List, [], ◌∷◌, length, Option, Some, None, ℕ, ◌+◌, ◌-◌, ◌≤◌, ◌<◌, ◌^◌, arith}
use Rattle.std.specs.Prelude.{slice_get, Contains}
use Rattle.std.proofs.lemmas.List.{length-map}
use Rattle.std.proofs.lemmas.Option.{none-some, same_Some, slice_get-map, slice_get_within}
use Rattle.std.specs.Option.{option_map}
use Rattle.just_text.specs.Tokens.{lexeme}
use Rattle.tree_expressions.specs.Shape.{shape_of}
use Rattle.tree_expressions.specs.declared.expression.Expression.{Expression}
use Rattle.tree_items.specs.Files.{item_shape}
use Rattle.tree_items.specs.declared.ast.Item.TheVariants.{Assignment}
use Rattle.tree_items.specs.declared.item.Binding.{Binding}
use Rattle.modules_compilation.specs.declared.compilation.Compilation.{Compilation}
use Rattle.modules_compilation.specs.declared.module_node.ModuleNode.{ModuleNode}
use Rattle.resolve_order.specs.Cycles.{Walks}
use Rattle.resolve_order.specs.Reads.{IsVariableOrder, ReadsThrough}
use Rattle.meaning_rules.specs.Worlds.Given.{Text, World}
use Rattle.meaning_rules.specs.Worlds.Keeping.{Keeps, a_variable}
use Rattle.meaning_rules.proofs.Worlds.Places.{contains_cases, contains_first, contains_none}
use Rattle.meaning_rules.specs.Fixed.{value_of}
use Rattle.meaning_rules.specs.Naming.{Part, part, parts_of}
use Rattle.meaning_rules.specs.Reading.{ItemReads, KeptReads, PartReads, VariableWalk}
use Rattle.laws_modules.specs.Names.Names.{HasNode}
use Rattle.laws_modules.proofs.Names.Found.{mapped, mapped_at}
use Rattle.laws_modules.proofs.Names.Modules.{reached_are_said}
use Rattle.laws_names.specs.Reading.Cycles.{AreNamesAt, CyclesAreBroken, IsGraphOf, OrdersHaveNoCycle}
use Rattle.laws_names.specs.Reading.Meant.{IsNumberedWorld}
use Rattle.laws_names.specs.Reading.Places.{variable_names}
use Rattle.laws_names.proofs.Reading.Module.{is_node, keeps_variable, variable_known, variable_once, variables}
use Rattle.laws_names.proofs.Reading.Chains.{IsPartAt, part_of_variable, places_many, reads_complete, reads_sound}

-- ---- names at places

module _ (texts : List Text) (places : List ℕ) (names : List Text) (at : AreNamesAt texts places names) where
  same_length : length names ≡ length places
  same_length = sym (length-map names (λ name. Some name)) ∙ ap (λ os. length os) (sym at) ∙ length-map places (slice_get texts)

  inner : (a b : Option Text) → option_map (λ name. Some name) a ≡ option_map (λ name. Some name) b → a ≡ b
  inner None None e = refl
  inner None (Some y) e = absurd (none-some (Some y) e)
  inner (Some x) None e = absurd (none-some (Some x) (sym e))
  inner (Some x) (Some y) e = same_Some (Some x) (Some y) e

  same_names : (i j : ℕ) → slice_get places i ≡ slice_get places j → slice_get names i ≡ slice_get names j
  same_names i j e =
      inner (slice_get names i) (slice_get names j)
      (sym (slice_get-map (λ name. Some name) names i) ∙ ap (λ os. slice_get os i) (sym at) ∙ slice_get-map (slice_get texts) places i ∙ ap (option_map (slice_get texts)) e
      ∙ sym (slice_get-map (slice_get texts) places j) ∙ ap (λ os. slice_get os j) at ∙ slice_get-map (λ name. Some name) names j)

module _ (w : World) (compilation : Compilation) (n : IsNumberedWorld w compilation) (k : ℕ) (node : ModuleNode) (here : HasNode w compilation k node) (graph : List (List ℕ)) (g : IsGraphOf compilation node graph) where
  abbrev own : Text
  own = node.source.now

  abbrev vs : List (Binding Expression)
  vs = variables w compilation n k node here

  abbrev texts : List Text
  texts = variable_names compilation node

  -- the variable of a name
  variable_of_name : (place : ℕ) (name : Text) → slice_get texts place ≡ Some name → (v : Binding Expression) × (slice_get vs place ≡ Some v) × (lexeme v.name.token ≡ name)
  variable_of_name place name e = mapped_at (λ (v : Binding Expression). lexeme v.name.token) vs place name e

  -- ---- each variable of a walk reads the next

  step : (a b : ℕ) (x y : Text) → slice_get texts a ≡ Some x → slice_get texts b ≡ Some y → ReadsThrough graph (length texts) a b → KeptReads w own x y
  step a b x y e f reads =
      let v = variable_of_name a x e in
      let r = reads_sound w compilation n k node here graph g a b reads (slice_get_within texts b y f) (part [] (shape_of v.0.value)) (part_of_variable w compilation n k node here a v.0 v.1) in
      let same : r.0 ≡ y = same_Some r.0 y (sym r.1 ∙ f) in
      record {
        item = item_shape (Assignment v.0);
        kept = subst (λ t. Keeps w own a_variable t (item_shape (Assignment v.0))) v.2 (keeps_variable w compilation n k node here a v.0 v.1);
        reads = (part [] (shape_of v.0.value), contains_first (part [] (shape_of v.0.value)) [], subst (PartReads w own (part [] (shape_of v.0.value))) same r.2);
      }

  walk : (places : List ℕ) (names : List Text) → AreNamesAt texts places names → Walks graph (length texts) places → VariableWalk w own names
  walk [] [] at walks = tt
  walk [] (x ∷ names) at walks = absurd (cc at)
  walk (a ∷ places) [] at walks = tt
  walk (a ∷ []) (x ∷ []) at walks = tt
  walk (a ∷ []) (x ∷ y ∷ names) at walks = absurd (cc at)
  walk (a ∷ b ∷ places) (x ∷ []) at walks = tt
  walk (a ∷ b ∷ places) (x ∷ y ∷ names) at walks =
      let first : slice_get texts a ≡ Some x = cc at in
      let second : slice_get texts b ≡ Some y = cc at in
      let rest : AreNamesAt texts (b ∷ places) (y ∷ names) = cc at in
      (step a b x y first second walks.0, walk (b ∷ places) (y ∷ names) rest walks.1)

  -- ---- an order has no cycle

  module _ (small : length graph ≤ 2 ^ 64) (order : List ℕ) (o : IsVariableOrder graph (length texts) order) where
    -- the place of a name, and where it stands in the order
    record Stands (name : Text) (at : ℕ) : Type 0 where
      pub place : ℕ
      pub is : slice_get texts place ≡ Some name
      pub found : slice_get order at ≡ Some place

    stands_within : (name : Text) (place : ℕ) → slice_get texts place ≡ Some name → (at : ℕ) × Stands name at
    stands_within name place e =
        let lt = slice_get_within texts place name e in
        let graph_many = places_many w compilation n k node here graph g in
        let b = o.complete place lt (omega (arith, lt, graph_many)) in
        (b.at, record { place = place; is = e; found = b.found })

    one_place : (name : Text) (a b : ℕ) → slice_get texts a ≡ Some name → slice_get texts b ≡ Some name → a ≡ b
    one_place name a b e f =
        let x = variable_of_name a name e in
        let y = variable_of_name b name f in
        variable_once w compilation n k node here a b x.0 y.0 x.1 y.1 (x.2 ∙ sym y.2)

    stands_once : (name : Text) (i j : ℕ) → Stands name i → Stands name j → i ≡ j
    stands_once name i j a b = o.distinct i j b.place (a.found ∙ ap (λ p. Some p) (one_place name a.place b.place a.is b.is)) b.found

    -- what a variable reads stands before it
    read_before : (name other : Text) → KeptReads w own name other → (at : ℕ) → Stands name at → (at' : ℕ) × (at' < at) × Stands other at'
    read_before name other reads at stands =
        let v = variable_known w compilation n k node here name reads.item reads.kept in
        let here' : slice_get texts v.0 ≡ Some name = mapped (λ (x : Binding Expression). lexeme x.name.token) vs v.0 v.1 v.2 ∙ ap (λ t. Some t) v.3 in
        let same = one_place name v.0 stands.place here' stands.is in
        let item_reads = subst (λ i. ItemReads w own i other) (sym v.4) reads.reads in
        by_part v.0 v.1 v.2 same item_reads.0 item_reads.1 item_reads.2
      where
        by_part : (i : ℕ) (v : Binding Expression) → slice_get vs i ≡ Some v → i ≡ stands.place → (p : Part) → Contains (parts_of (value_of w.expansion) (item_shape (Assignment v))) p → PartReads w own p other
            → (at' : ℕ) × (at' < at) × Stands other at'
        by_part i v there same p c part_reads =
            let only : part [] (shape_of v.value) ≡ p = elim (contains_cases (part [] (shape_of v.value)) [] p c) [ inl e ↦ e | inr d ↦ absurd (contains_none [] p refl d) ] in
            let r = reads_complete w compilation n k node here graph g small p other part_reads i (subst (IsPartAt w compilation n k node here i) only (part_of_variable w compilation n k node here i v there)) in
            let lt = slice_get_within texts r.0 other r.1 in
            let b = o.ranked at stands.place r.0 stands.found (subst (λ x. ReadsThrough graph (length texts) x r.0) same r.2) lt in
            (b.at, b.earlier, record { place = r.0; is = r.1; found = b.found })

    -- the end of a walk stands before its start
    descend : (names : List Text) (first : Text) → VariableWalk w own (first ∷ names) → (at : ℕ) → Stands first at
        → (last : Text) × (slice_get (first ∷ names) (length names) ≡ Some last) × ((at' : ℕ) × (at' + length names ≤ at) × Stands last at')
    descend [] first walks at stands = (first, refl, (at, omega arith, stands))
    descend (next ∷ names) first walks at stands =
        let b = read_before first next walks.0 at stands in
        let lt = b.1 in
        let d = descend names next walks.1 b.0 b.2 in
        let le = d.2.1 in
        (d.0, d.1, (d.2.0, omega (arith, lt, le), d.2.2))

    -- no name stands before itself
    never_back : (first last : Text) → first ≡ last → (at at' steps : ℕ) → Stands first at → Stands last at' → 0 < steps → at' + steps ≤ at → ⊥
    never_back first last same at at' steps a b some le =
        let once = stands_once first at' at (subst (λ t. Stands t at') (sym same) b) a in
        omega (arith, some, le, once)

    none_round : (names : List Text) → 1 < length names → slice_get names 0 ≡ slice_get names (length names - 1) → VariableWalk w own names → ⊥
    none_round [] long closed walks = omega (arith, long)
    none_round (first ∷ []) long closed walks = omega (arith, long)
    none_round (first ∷ next ∷ names) long closed walks =
        let v = variable_known w compilation n k node here first walks.0.item walks.0.kept in
        let s = stands_within first v.0 (mapped (λ (x : Binding Expression). lexeme x.name.token) vs v.0 v.1 v.2 ∙ ap (λ t. Some t) v.3) in
        let d = descend (next ∷ names) first walks s.0 s.1 in
        let index : length (first ∷ next ∷ names) - 1 ≡ length (next ∷ names) = omega arith in
        let same : first ≡ d.0 = same_Some first d.0 (closed ∙ ap (slice_get (first ∷ next ∷ names)) index ∙ d.1) in
        never_back first d.0 same s.0 d.2.0 (length (next ∷ names)) s.1 d.2.2 (omega arith) d.2.1

pub cycles_are_broken : CyclesAreBroken
cycles_are_broken w o compilation n k node here graph g places cycle names at =
    let texts = variable_names compilation node in
    let is = is_node w compilation n k node here in
    let many = same_length texts places names at in
    let long = cycle.long in
    let last : length names - 1 ≡ length places - 1 = ap (λ m. m - 1) many in
    record {
      said = λ e. reached_are_said w compilation n.of n.single;
      breaks = (
        node.source.now,
        (is.path, is.is),
        record {
          long = omega (arith, many, long);
          closed = same_names texts places names at 0 (length places - 1) cycle.closed ∙ ap (slice_get names) (sym last);
          walk = walk w compilation n k node here graph g places names at cycle.walk;
        },
      );
    }

pub orders_have_no_cycle : OrdersHaveNoCycle
orders_have_no_cycle w compilation n k node here graph g small order o names cycle = none_round w compilation n k node here graph g small order o names cycle.long cycle.closed cycle.walk
