-- Faults of what a module keeps tell rules that are broken.
use Rattle.std.proofs.Common.{◌≡◌, inl, inr, ◌∙◌, ap, subst, ◌++◌}
use Rattle.std.specs.Prelude.{Err}
use Rattle.std.proofs.lemmas.List.{append-nil}
use Rattle.std.proofs.lemmas.List.Elements.{Contains-append_cases}
use Rattle.tree_expressions.specs.declared.expression.Expression.{Expression}
use Rattle.tree_items.specs.Files.{item_shape}
use Rattle.tree_items.specs.declared.ast.Item.{Item}
use Rattle.tree_items.specs.declared.ast.Item.TheVariants.{Assignment, Function}
use Rattle.tree_items.specs.declared.item.Binding.{Binding}
use Rattle.tree_items.specs.declared.item.FunctionDefinition.{FunctionDefinition}
use Rattle.resolve_references.specs.Places.{places_of}
use Rattle.resolve_references.specs.References.{references_of}
use Rattle.resolve_references.specs.Seen.{seen_in}
use Rattle.resolve_analysis.specs.Reads.{bodies, right_sides}
use Rattle.meaning_rules.proofs.Worlds.Places.{contains_at, place_of}
use Rattle.laws_modules.specs.References.Occurrences.{occurrence_of}
use Rattle.laws_names.specs.Reading.Meant.{IsTold}
use Rattle.laws_names.specs.Reading.Parts.{part_of, references_in, references_seen}
use Rattle.laws_names.specs.Reading.Places.{IsPlaceMeant}
use Rattle.laws_names.specs.Reading.Told.{KeepsItem, ReadsAreTold, RefusalsAreTold}
use Rattle.laws_names.proofs.Reading.Items.{breaks, kept_there, occurs, seen_part}
use Rattle.laws_names.proofs.Reading.Lists.{contained_flat, contains_mapped}
use Rattle.laws_names.proofs.Reading.Module.{function_kept, functions, variable_kept, variables}
use Rattle.laws_names.proofs.Reading.Outcomes.{expression_refused, refused_at}
use Rattle.laws_names.proofs.Reading.Places.{places_are_meant}

pub reads_are_told : ReadsAreTold
reads_are_told w o compilation n k node here resolver of item kept fault e =
    let q = refused_at resolver (references_in item) fault e in
    let d = contained_flat references_seen (seen_in item) q.0 q.1 in
    let there = kept_there w compilation n k node here item kept in
    let meant = places_are_meant w compilation n k node here resolver of item there.0 d.0 d.1 q.0 d.2 in
    let told = subst (IsPlaceMeant w compilation node (part_of d.0) (occurrence_of q.0)) q.2 meant in
    (told.0, told.1, breaks w compilation n o node.source.now (part_of d.0) (item_shape item, there.1, seen_part w compilation n kept.place item kept.there d.0 d.1) (occurrence_of q.0) (occurs d.0 q.0 d.2) told.0 told.2)

pub refusals_are_told : RefusalsAreTold
refusals_are_told w o compilation n k node here fault refusal =
    let vs = variables w compilation n k node here in
    let fs = functions w compilation n k node here in
    let r = expression_refused refusal.resolver (right_sides vs ++ bodies fs) fault refusal.refused in
    elim (Contains-append_cases (right_sides vs) (bodies fs) r.0 r.1) [
      | inl c ↦
          let m = contains_mapped (λ (v : Binding Expression). v.value) vs r.0 c in
          let at = place_of vs m.0 m.1 in
          let kept = variable_kept w compilation n k node here at.0 m.0 at.1 in
          told (Assignment m.0) (record { place = kept.0; kept = inl (contains_at node.assignments.items at.0 kept.0 kept.1); there = kept.3.there })
          (ap (places_of refusal.resolver) (append-nil (references_of m.0.value) ∙ ap references_of m.2) ∙ r.2)
      | inr c ↦
          let m = contains_mapped (λ (f : FunctionDefinition). f.body) fs r.0 c in
          let at = place_of fs m.0 m.1 in
          let kept = function_kept w compilation n k node here at.0 m.0 at.1 in
          told (Function m.0) (record { place = kept.0; kept = inr (inl (contains_at node.functions.items at.0 kept.0 kept.1)); there = kept.3.there })
          (ap (places_of refusal.resolver) (append-nil (references_of m.0.body) ∙ ap references_of m.2) ∙ r.2)
    ]
  where
    told : (item : Item) → KeepsItem compilation node item → places_of refusal.resolver (references_in item) ≡ Err fault → IsTold w o fault
    told item kept e = reads_are_told w o compilation n k node here refusal.resolver refusal.of item kept fault e
