-- What is reached, and what a compilation begins with.
use Rattle.std.proofs.Common.{◌≡◌, sym, ap, List, ◌∷◌, ◌++◌, ℕ, suc, ◌-◌, Some, None, refl, arith, []}
use Rattle.std.specs.Prelude.{slice_get}
use Rattle.std.proofs.lemmas.Option.{none-some}
use Rattle.meaning_rules.specs.Worlds.Given.{Text, World}
use Rattle.meaning_rules.specs.Worlds.Sources.{Leads, itself, further, Reached, imported, submodule}
use Rattle.meaning_rules.specs.Worlds.Sources as sources
use Rattle.meaning_rules.specs.Worlds.Modules.{IsModule}
use Rattle.meaning_rules.specs.Worlds.Modules as modules
use Rattle.meaning_rules.specs.Worlds.Laws.{CompilationsHaveRoot, ModulesAreReached, SettingsStandAlone}
use Rattle.meaning_rules.specs.Worlds.Compiled.{FileView, NodeView, HasPath}
use Rattle.meaning_rules.specs.Worlds.Compiled as compiled

pub leads_reached : (w : World) (own : Text) (count : ℕ) (file : Text) → Reached w own → Leads w own count file → Reached w file
leads_reached w own count file r itself = r
leads_reached w own (suc count) file r (further {between = between} l i) = imported (leads_reached w own count between r l) i

pub own_reached : (w : World) (path : List Text) (own : Text) → IsModule w path own → Reached w own
own_reached w path own modules.root = sources.root
own_reached w path own (modules.inside {path = outer} {own = above} {file = file} m f s) = submodule (leads_reached w above f.count file (own_reached w outer above m) f.leads) s

pub modules_are_reached : ModulesAreReached
modules_are_reached w path own file m f = leads_reached w own f.count file (own_reached w path own m) f.leads

pub settings_stand_alone : SettingsStandAlone
settings_stand_alone w own file place attributes s f h d = record {
  key = file;
  place = place;
  attributes = attributes;
  setting = s;
  defines = record { of = f; has = h; is = d; taken = tt };
  is = refl;
}

-- ---- the root of a compilation

no_end : (path : List Text) (name : Text) → [] ≡ path ++ name ∷ [] → ⊥
no_end [] name e = none-some name (ap (λ xs. slice_get xs 0) e)
no_end (x ∷ path) name e = none-some x (ap (λ xs. slice_get xs 0) e)

abbrev IsFirst : List NodeView → ℕ → List Text → Type 0
IsFirst nodes k path = (k ≡ 0) × (path ≡ []) × ((node : NodeView) × (slice_get nodes 0 ≡ Some node) × (node.parent ≡ None))

first_by_path : (w : World) (files : List FileView) (nodes : List NodeView) (k : ℕ) (path : List Text) → [] ≡ path → HasPath w files nodes k path → IsFirst nodes k path
first_by_path w files nodes k path is (compiled.root {node = node} at above) = (refl, refl, (node, at, above))
first_by_path w files nodes k path is (compiled.inside {path = outer} {name = name} at parent lt named inner) = absurd (no_end outer name is)

first_by_place : (w : World) (files : List FileView) (nodes : List NodeView) (k : ℕ) (path : List Text) → k ≡ 0 → HasPath w files nodes k path → IsFirst nodes k path
first_by_place w files nodes k path is (compiled.root {node = node} at above) = (refl, refl, (node, at, above))
first_by_place w files nodes k path is (compiled.inside at parent lt named inner) = absurd (omega arith)

root_only : (w : World) (path : List Text) (own : Text) → [] ≡ path → IsModule w path own → own ≡ w.root
root_only w path own is modules.root = refl
root_only w path own is (modules.inside {path = outer} {name = name} m f s) = absurd (no_end outer name is)

pub compilations_have_root : CompilationsHaveRoot
compilations_have_root w files nodes c =
    let k = c.complete [] w.root modules.root in
    let first = first_by_path w files nodes k.0 [] refl k.1 in
    let node = first.2.0 in
    let n = c.sound 0 node first.2.1 in
    let q = first_by_place w files nodes 0 n.path refl n.has_path in
    (node, first.2.1, first.2.2, root_only w n.path node.source (sym q.1) n.is)
