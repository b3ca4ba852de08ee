-- Items that a module keeps: where they stand, and what is named in them.
use Rattle.std.proofs.Common.{◌≡◌, inl, inr, sym, ◌∙◌, subst, List, Some, ℕ}
use Rattle.std.specs.Prelude.{Contains}
use Rattle.std.proofs.lemmas.Option.{same_Some}
use Rattle.tree_items.specs.Files.{item_shape}
use Rattle.tree_items.specs.declared.ast.Item.{Item}
use Rattle.modules_compilation.specs.Places.{item_at}
use Rattle.modules_compilation.specs.declared.compilation.Compilation.{Compilation}
use Rattle.modules_compilation.specs.declared.module_node.ModuleNode.{ModuleNode}
use Rattle.modules_compilation.specs.declared.place.Place.{Place}
use Rattle.resolve_references.specs.References.{references_of}
use Rattle.resolve_references.specs.Seen.{Seen, seen_in}
use Rattle.resolve_references.specs.declared.references.Reference.{Reference}
use Rattle.meaning_rules.specs.Worlds.Given.{Overrides, Text, World}
use Rattle.meaning_rules.specs.Worlds.Keeping.{Kind, a_function, a_recipe, a_setting, a_variable}
use Rattle.meaning_rules.proofs.Worlds.Places.{place_of}
use Rattle.meaning_rules.specs.Fixed.{value_of}
use Rattle.meaning_rules.specs.Naming.{Occurrence, Part, occurrences, parts_of}
use Rattle.meaning_rules.specs.Rules.{Broken, HasPart, IsLooked, Rule, looked}
use Rattle.laws_modules.specs.Names.Names.{HasNode}
use Rattle.laws_modules.proofs.Names.Modules.{reached_are_said}
use Rattle.laws_modules.specs.References.Occurrences.{occurrence_of}
use Rattle.laws_modules.proofs.References.Found.{references_are_occurrences}
use Rattle.laws_names.specs.Reading.Meant.{IsNumberedWorld}
use Rattle.laws_names.specs.Reading.Parts.{part_of}
use Rattle.laws_names.specs.Reading.Places.{IsItemOf, Refuses, is_undefined, is_unknown, takes_other}
use Rattle.laws_names.specs.Reading.Told.{KeepsItem}
use Rattle.laws_names.proofs.Reading.Bindings.{own_item}
use Rattle.laws_names.proofs.Reading.Kept.{IsListOf, kept_at}
use Rattle.laws_names.proofs.Reading.Lists.{contains_map, contains_mapped}
use Rattle.laws_names.proofs.Reading.Module.{is_node}
use Rattle.laws_names.proofs.Reading.Parts.{parts_are_seen}

-- what is named in an expression, and what is found in it
pub occurs : (s : Seen) (r : Reference) → Contains (references_of s.expression) r → Contains (occurrences (part_of s).said) (occurrence_of r)
occurs s r c = subst (λ os. Contains os (occurrence_of r)) (references_are_occurrences s.expression) (contains_map occurrence_of (references_of s.expression) r c)

pub occurred : (s : Seen) (o : Occurrence) → Contains (occurrences (part_of s).said) o → (r : Reference) × Contains (references_of s.expression) r × (occurrence_of r ≡ o)
occurred s o c = contains_mapped occurrence_of (references_of s.expression) o (subst (λ os. Contains os o) (sym (references_are_occurrences s.expression)) c)

module _ (w : World) (compilation : Compilation) (n : IsNumberedWorld w compilation) where
  -- the parts of an item are what is seen in it
  pub seen_part : (place : Place) (item : Item) → item_at compilation place ≡ Some item → (s : Seen) → Contains (seen_in item) s → Contains (parts_of (value_of w.expansion) (item_shape item)) (part_of s)
  seen_part place item e s c = subst (λ ps. Contains ps (part_of s)) (sym (parts_are_seen w.expansion item (own_item w compilation n place item e))) (contains_map part_of (seen_in item) s c)

  pub part_seen : (place : Place) (item : Item) → item_at compilation place ≡ Some item → (p : Part) → Contains (parts_of (value_of w.expansion) (item_shape item)) p → (s : Seen) × Contains (seen_in item) s × (part_of s ≡ p)
  part_seen place item e p c = contains_mapped part_of (seen_in item) p (subst (λ ps. Contains ps p) (parts_are_seen w.expansion item (own_item w compilation n place item e)) c)

  -- what an occurrence breaks is broken
  pub breaks : (o : Overrides) (own : Text) (p : Part) → HasPart w own p → (occurrence : Occurrence) → Contains (occurrences p.said) occurrence → (rule : Rule) → Refuses w own p occurrence rule → Broken w o rule
  breaks o own p has occurrence c rule (is_undefined unseen none none') = record { said = λ e. reached_are_said w compilation n.of n.single; breaks = (own, p, has, c, unseen, none, none') }
  breaks o own p has occurrence c rule (is_unknown {count} none) = record { said = λ e. reached_are_said w compilation n.of n.single; breaks = (own, p, count, has, c, none) }
  breaks o own p has occurrence c rule (takes_other other) = record { said = λ e. reached_are_said w compilation n.of n.single; breaks = (own, p, has, c, other) }

  module _ (k : ℕ) (node : ModuleNode) (here : HasNode w compilation k node) where
    abbrev IsThere : Item → Type 0
    IsThere item = IsItemOf compilation node item × IsLooked w node.source.now (item_shape item)

    listed : (kind : Kind) (names : List Text) (places : List Place) → IsListOf w compilation node kind names places → (place : Place) (item : Item) → Contains places place → item_at compilation place ≡ Some item → IsThere item
    listed kind names places l place item c e =
        let q = place_of places place c in
        let r = kept_at w compilation node kind names places l q.0 place q.1 in
        let same : r.1 ≡ item = same_Some r.1 item (sym r.3.there ∙ e) in
        let is = is_node w compilation n k node here in (
          record { place = place; from = r.3.from; to = r.3.to; there = e },
          subst (λ i. IsLooked w node.source.now (item_shape i)) same (looked is.is (record { key = r.3.key; place = r.3.at; kept = r.3.keeps })),
        )

    -- an item that the module keeps stands in its files, and is looked at
    pub kept_there : (item : Item) → KeepsItem compilation node item → IsThere item
    kept_there item h =
        let is = is_node w compilation n k node here in
        by_list is.assignments.0 is.assignments.1 is.functions.0 is.functions.1 is.recipes.names is.recipes.are is.sets.0 is.sets.1
      where
        by_list : (variables : List Text) → IsListOf w compilation node a_variable variables node.assignments.items → (functions : List Text) → IsListOf w compilation node a_function functions node.functions.items
            → (recipes : List Text) → IsListOf w compilation node a_recipe recipes node.recipes.items → (sets : List Text) → IsListOf w compilation node a_setting sets node.sets.items → IsThere item
        by_list variables v functions f recipes r sets s = elim h.kept [
          | inl c ↦ listed a_variable variables node.assignments.items v h.place item c h.there
          | inr d ↦ elim d [
            | inl c ↦ listed a_function functions node.functions.items f h.place item c h.there
            | inr e ↦ elim e [
              | inl c ↦ listed a_recipe recipes node.recipes.items r h.place item c h.there
              | inr c ↦ listed a_setting sets node.sets.items s h.place item c h.there
            ]
          ]
        ]
