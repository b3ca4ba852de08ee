-- One file more, and the row.
use Rattle.std.proofs.Common.{map, ap, ◌∙◌, ◌∷◌, [], refl, subst}
use Rattle.std.proofs.lemmas.List.{map-append, take_all}
use Rattle.modules_files.specs.Chosen.{view}
use Rattle.resolve_order.specs.Needs.{rows}
use Rattle.modules_sources.proofs.Reaching.{AreSoFar, followed, further, none_so_far}
use Rattle.modules_sources.proofs.imports.Reached.reach_imports.Goals as goal

pub loop-source-init : goal.loop-source-init
loop-source-init c = record { imports = refl; reached = λ keys h. rw (c.new-row.ensures.items, c.new-new.ensures.items) (none_so_far keys c.args.self.now h) }

pub loop-source-preserved : goal.loop-source-preserved
loop-source-preserved c = record {
  imports = c.in_ok-reach_import.ensures.imports ∙ c.loop-source.invariant.imports;
  reached = λ keys h. further keys c.args.found.now c.loop-source.source-index _ c.loop-source.self c.reach_import.new.self c.loop-source.row.items c.reach_import.new.row.items (map view c.loop-source.new.items)
      (map view c.reach_import.new.new.items) c.loop-source-test.true (c.loop-source.invariant.reached keys h) c.in_ok-reach_import.ensures.reached c.in_ok-reach_import.ensures.place c.in_ok-reach_import.ensures.told;
}

pub returns : goal.returns
returns c = λ keys h.
    let all = take_all c.loop-source.source-index c.args.found.now c.loop-source-test.false in
    followed keys (map view c.args.found.now) c.args.self.now c.loop-source.self (record { places = c.loop-source.self.places; imports = c.push.new.self }) c.loop-source.row.items (map view c.loop-source.new.items)
    (subst (λ fs. AreSoFar keys (map view fs) c.loop-source.self c.loop-source.row.items (map view c.loop-source.new.items)) all (c.loop-source.invariant.reached keys h)) c.loop-source.invariant.imports refl
    (ap rows c.in_ok-push.ensures.items ∙ map-append (λ row. row.items) c.loop-source.self.imports.items (c.loop-source.row ∷ []))
