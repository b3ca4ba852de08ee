-- Second definitions, and names that have two in the world.
use Rattle.std.proofs.Common.{◌≡◌, ◌≢◌, ◌⊎◌, inl, inr, sym, ◌∙◌, ap, ap₂, subst, Bool, true, false, ◌&&◌, List, [], ℕ, ◌<◌, Some, refl, true≢false}
use Rattle.std.specs.Prelude.{Contains, slice_get}
use Rattle.std.proofs.lemmas.Bool.Decides.{eqb_tells}
use Rattle.std.proofs.lemmas.Option.{same_Some}
use Rattle.just_text.specs.declared.os.Os.{Os}
use Rattle.modules_compilation.specs.declared.module_node.File.{File}
use Rattle.modules_compilation.specs.declared.module_node.ModuleNode.{ModuleNode}
use Rattle.modules_definitions.specs.Defining.{space_of as found_space}
use Rattle.modules_definitions.specs.Keeping.{IsDuplicate, ShareName, may_both, may_repeat}
use Rattle.modules_definitions.specs.declared.definition.Definition.{Definition}
use Rattle.modules_definitions.specs.declared.keep.Allowed.{Allowed}
use Rattle.modules_definitions.proofs.Elements.{contains_at, place_of}
use Rattle.modules_definitions.proofs.Orders.{share_back}
use Rattle.meaning_rules.specs.Worlds.Given.{Text, World}
use Rattle.meaning_rules.specs.Worlds.Keeping.{Defines, IsTwice, Kind, MayBoth, a_recipe, a_variable, both_recipes, both_variables, recipes, space_of, variables}
use Rattle.meaning_rules.specs.Worlds.Compiled.{NodeView}
use Rattle.laws_modules.specs.Definitions.Kinds.{kind_of}
use Rattle.laws_modules.specs.Definitions.Nodes.{AreFound, DefinesHere}
use Rattle.laws_modules.specs.Definitions.Laws.{AreApart, AreMeant, DuplicatesAreTwice, IsAllowed, SingleIsNotTwice}
use Rattle.laws_modules.proofs.Definitions.Defined.{definitions_are_meant}
use Rattle.laws_modules.proofs.Definitions.KeptDefinitions.{shares}
use Rattle.laws_modules.proofs.Definitions.Single.{both_true, by_side}
use Rattle.laws_modules.proofs.Definitions.Spaces.{has_kind, recipe_repeats, repeats, spaces_back, variable_repeats}
use Rattle.laws_modules.proofs.Definitions.Standing.{Placed, as_placed, one_file, one_rank, same_key, same_rank}

module _ (w : World) (own : Text) (allowed : Allowed) (is : IsAllowed w own allowed) where
  -- where the meaning lets two stand, so do the flags
  let_both : (kind other : Kind) (a b : Definition) → MayBoth w own kind other → kind_of a.kind ≡ Some kind → kind_of b.kind ≡ Some other → may_both allowed a b ≡ true
  let_both kind other a b (both_recipes on) e f =
      let flag = is.recipes.1 on in
      ap₂ (λ x y. x && y) (recipe_repeats allowed a.kind e flag) (recipe_repeats allowed b.kind f flag)
  let_both kind other a b (both_variables on) e f =
      let flag = is.variables.1 on in
      ap₂ (λ x y. x && y) (variable_repeats allowed a.kind e flag) (variable_repeats allowed b.kind f flag)

  -- and where the flags do
  both_let : (kind other : Kind) (a b : Definition) → may_both allowed a b ≡ true → kind_of a.kind ≡ Some kind → kind_of b.kind ≡ Some other → space_of kind ≡ space_of other → MayBoth w own kind other
  both_let kind other a b may e f spaces =
      let p = both_true (may_repeat allowed a.kind) (may_repeat allowed b.kind) may in
      elim (repeats allowed a.kind p.0) [
        | inl x ↦ elim (repeats allowed b.kind p.1) [
          | inl y ↦ are a_recipe a_recipe x.0 y.0 (both_recipes (is.recipes.0 x.1))
          | inr y ↦ absurd (let s : recipes ≡ variables = unlike a_recipe a_variable x.0 y.0 in cc s)
        ]
        | inr x ↦ elim (repeats allowed b.kind p.1) [
          | inl y ↦ absurd (let s : variables ≡ recipes = unlike a_variable a_recipe x.0 y.0 in cc s)
          | inr y ↦ are a_variable a_variable x.0 y.0 (both_variables (is.variables.0 x.1))
        ]
      ]
    where
      are : (one two : Kind) → kind_of a.kind ≡ Some one → kind_of b.kind ≡ Some two → MayBoth w own one two → MayBoth w own kind other
      are one two g h m = subst (λ q. MayBoth w own q other) (same_Some one kind (sym g ∙ e)) (subst (λ q. MayBoth w own one q) (same_Some two other (sym h ∙ f)) m)

      unlike : (one two : Kind) → kind_of a.kind ≡ Some one → kind_of b.kind ≡ Some two → space_of one ≡ space_of two
      unlike one two g h = ap space_of (same_Some one kind (sym g ∙ e)) ∙ spaces ∙ ap space_of (sym (same_Some two other (sym h ∙ f)))

module _ (w : World) (os : Os) (files : List File) (modules : List ModuleNode) (k : ℕ) (node : ModuleNode) (ds : List Definition) (allowed : Allowed) (found : AreFound w files node modules os k ds) (is : IsAllowed w node.source.now allowed) where
  none : List NodeView
  none = []

  meant : AreMeant w files node none ds
  meant = definitions_are_meant w os files modules none k node ds found

  space_here : (d : Definition) → Contains ds d → d.space ≡ found_space d.kind
  space_here d c = (found.are.sound d c).1.space_is

  -- definitions at two places have two keys, or two places without blank lines
  two_places : (kind other : Kind) (a b : Definition) (d : DefinesHere w files node none kind a.text.now a.place) (e : DefinesHere w files node none other b.text.now b.place) → a.place ≢ b.place → (d.key ≢ e.key) ⊎ (d.at ≢ e.at)
  two_places kind other a b d e apart =
      let p = as_placed w files none node a.place d.key d.at d.item d.there in
      let q = as_placed w files none node b.place e.key e.at e.item e.there in
      elim (eqb_tells a.place.file b.place.file) [
        | inl same ↦ inr (λ ranks. apart (one_rank files node a.place b.place d.key e.key d.at e.at d.item e.item p q same.1 ranks))
        | inr other' ↦ inl (λ keys. other'.1 (one_file w files node k found.agrees.own_files a.place b.place e.key d.at e.at d.item e.item (subst (λ t. Placed files node a.place t d.at d.item) keys p) q))
      ]

  pub is_twice : AreApart ds → (second : Definition) → IsDuplicate allowed ds second → (kind : Kind) × (kind_of second.kind ≡ Some kind) × IsTwice w node.source.now kind second.text.now
  is_twice apart second h =
      let one = h.first in
      let c = contains_at ds h.i one h.found in
      let c' = contains_at ds h.j second h.is in
      let s = space_here one c in
      let s' = space_here second c' in
      let kind = has_kind one.kind (λ off. h.shared.told_apart (s ∙ off)) in
      let kind' = has_kind second.kind (λ off. h.shared.told_apart (h.shared.space ∙ s' ∙ off)) in
      let d = meant.sound one kind.0 c kind.1 in
      let d' = meant.sound second kind'.0 c' kind'.1 in
      let spaces = spaces_back one.kind second.kind kind.0 kind'.0 kind.1 kind'.1 (sym s ∙ h.shared.space ∙ s') in (
        kind'.0,
        kind'.1,
        record {
          key = d'.key;
          place = d'.at;
          item = d'.item;
          defines = d'.defines;
          kind' = kind.0;
          key' = d.key;
          place' = d.at;
          item' = d.item;
          defines' = subst (λ t. Defines w node.source.now kind.0 t d.key d.at d.item) h.shared.text d.defines;
          spaces = sym spaces;
          others = two_places kind'.0 kind.0 second one d' d (λ same. apart h.i h.j one second h.before h.found h.is (sym same));
          forbidden = λ may. true≢false (sym (let_both w node.source.now allowed is kind.0 kind'.0 one second (turned kind'.0 kind.0 may) kind.1 kind'.1) ∙ h.forbidden);
        },
      )
    where
      turned : (one two : Kind) → MayBoth w node.source.now one two → MayBoth w node.source.now two one
      turned one two (both_recipes on) = both_recipes on
      turned one two (both_variables on) = both_variables on

  module _ (single : (second : Definition) → IsDuplicate allowed ds second → ⊥) where
    -- two of a name at two places may both stand
    stand_both : (i j : ℕ) (a b : Definition) → slice_get ds i ≡ Some a → slice_get ds j ≡ Some b → i < j → ShareName a b → may_both allowed a b ≡ true
    stand_both i j a b e f lt s = by_test (may_both allowed a b) refl
      where
        by_test : (b' : Bool) → may_both allowed a b ≡ b' → may_both allowed a b ≡ true
        by_test true off = off
        by_test false off = absurd (single b (record { first = a; i = i; j = j; before = lt; found = e; is = f; shared = s; forbidden = off }))

    both_ways : (x y : Bool) → (x && y) ≡ true → (y && x) ≡ true
    both_ways x y e = let p = both_true x y e in ap₂ (λ a b. a && b) p.1 p.0

    pub no_twice : (kind : Kind) (name : Text) → IsTwice w node.source.now kind name → ⊥
    no_twice kind name t =
        let a = meant.complete kind name t.key t.place t.item t.defines in
        let b = meant.complete t.kind' name t.key' t.place' t.item' t.defines' in
        let s = shares w os files modules none k node ds found a.d b.d kind t.kind' a.listed b.listed a.kind_is b.kind_is t.spaces (a.text_is ∙ sym b.text_is) in
        let p = place_of ds a.d a.listed in
        let q = place_of ds b.d b.listed in
        let allow = λ (may : may_both allowed a.d b.d ≡ true). t.forbidden (both_let w node.source.now allowed is kind t.kind' a.d b.d may a.kind_is b.kind_is t.spaces) in
        elim (eqb_tells p.0 q.0) [
          | inl same ↦
              let one : a.d ≡ b.d = same_Some a.d b.d (sym p.1 ∙ ap (slice_get ds) same.1 ∙ q.1) in
              let pa = as_placed w files none node a.d.place t.key t.place t.item a.there in
              let pb = as_placed w files none node b.d.place t.key' t.place' t.item' b.there in
              let places = ap (λ (d : Definition). d.place) one in
              elim t.others [
                | inl keys ↦ keys (same_key files node a.d.place b.d.place t.key t.key' t.place t.place' t.item t.item' pa pb (ap (λ (d : Definition). d.place.file) one))
                | inr ranks ↦ ranks (same_rank files node a.d.place b.d.place t.key t.key' t.place t.place' t.item t.item' pa pb places)
              ]
          | inr other ↦ elim (by_side p.0 q.0 other.1) [
            | inl lt ↦ allow (stand_both p.0 q.0 a.d b.d p.1 q.1 lt s)
            | inr lt ↦ allow (both_ways (may_repeat allowed b.d.kind) (may_repeat allowed a.d.kind) (stand_both q.0 p.0 b.d a.d q.1 p.1 lt (share_back a.d b.d s)))
          ]
        ]

pub duplicates_are_twice : DuplicatesAreTwice
duplicates_are_twice w os files modules k node ds allowed second found apart is h = is_twice w os files modules k node ds allowed found is apart second h

pub single_is_not_twice : SingleIsNotTwice
single_is_not_twice w os files modules k node ds allowed found is single kind name t = no_twice w os files modules k node ds allowed found is single kind name t
