-- Names lead to the places whose paths they make.
use Rattle.std.proofs.Common.{◌≡◌, sym, ◌∙◌, ap, subst, List, [], ◌∷◌, ◌++◌, ℕ, Option, Some, None, refl, append_assoc}
use Rattle.std.specs.Prelude.{slice_get}
use Rattle.std.specs.Option.{option_and_then}
use Rattle.std.proofs.lemmas.List.{append-nil}
use Rattle.std.proofs.lemmas.Option.{none-some, same_Some}
use Rattle.modules_compilation.specs.declared.compilation.Compilation.{Compilation}
use Rattle.modules_compilation.specs.declared.module_node.ModuleNode.{ModuleNode}
use Rattle.resolve_recipes.specs.Named.{submodule_in}
use Rattle.meaning_rules.specs.Worlds.Given.{Text, World}
use Rattle.meaning_rules.specs.Worlds.Modules.{IsModule, root as root_module}
use Rattle.meaning_rules.specs.Worlds.Compiled.{HasPath, NodeView, root, inside}
use Rattle.meaning_rules.specs.Worlds.Views.{node_view}
use Rattle.laws_modules.specs.Names.Names.{AreSingle, HasNode, IsOfWorld, nodes, views}
use Rattle.laws_modules.proofs.Names.Found.{mapped_at, snoc_empty}
use Rattle.laws_modules.proofs.Names.Modules.{module_at, modules_are_nodes, node_of}
use Rattle.laws_runs.specs.Resolved.Definitions.{node_of as node_by, place_from, place_of}
use Rattle.laws_runs.specs.Resolved.Modules.{IsPlaced, ModulesStand, PathsLead}
use Rattle.laws_runs.proofs.Resolved.Submodules.{found_path, none_inside}

module _ (compilation : Compilation) where
  -- the first name leads to a submodule, from which the others lead on
  pub first_step : (k : ℕ) (name : Text) (names : List Text) (j : ℕ) → place_from compilation k (name ∷ names) ≡ Some j
      → (inner : ℕ) × (submodule_in compilation.modules.items k name ≡ Some inner) × (place_from compilation inner names ≡ Some j)
  first_step k name names j e = by_inner (submodule_in compilation.modules.items k name) refl e
    where
      by_inner : (o : Option ℕ) → submodule_in compilation.modules.items k name ≡ o → option_and_then (λ inner. place_from compilation inner names) o ≡ Some j
          → (inner : ℕ) × (submodule_in compilation.modules.items k name ≡ Some inner) × (place_from compilation inner names ≡ Some j)
      by_inner None is e = absurd (none-some j e)
      by_inner (Some inner) is e = (inner, is, e)

  -- names lead to where the later ones lead from where the earlier ones do
  pub place_further : (k : ℕ) (names more : List Text) → place_from compilation k (names ++ more) ≡ option_and_then (λ j. place_from compilation j more) (place_from compilation k names)
  place_further k [] more = refl
  place_further k (name ∷ names) more = by_inner (submodule_in compilation.modules.items k name) (λ inner. place_further inner names more)
    where
      by_inner : (o : Option ℕ) → ((inner : ℕ) → place_from compilation inner (names ++ more) ≡ option_and_then (λ j. place_from compilation j more) (place_from compilation inner names))
          → option_and_then (λ inner. place_from compilation inner (names ++ more)) o ≡ option_and_then (λ j. place_from compilation j more) (option_and_then (λ inner. place_from compilation inner names) o)
      by_inner None each = refl
      by_inner (Some inner) each = each inner

module _ (w : World) (compilation : Compilation) (path : List Text) where
  -- the node that a path names is the one at its place
  pub node_there : (own : Text) → (p : IsPlaced w compilation path own) → node_by compilation path ≡ Some p.node
  node_there own p = ap (option_and_then (slice_get compilation.modules.items)) p.found ∙ p.here

  -- a node that a path names has a place, to which the path leads
  node_place : (node : ModuleNode) → node_by compilation path ≡ Some node → (k : ℕ) × (place_of compilation path ≡ Some k) × HasNode w compilation k node
  node_place node e = by_place (place_of compilation path) refl e
    where
      by_place : (o : Option ℕ) → place_of compilation path ≡ o → option_and_then (slice_get compilation.modules.items) o ≡ Some node → (k : ℕ) × (place_of compilation path ≡ Some k) × HasNode w compilation k node
      by_place None is e = absurd (none-some node e)
      by_place (Some k) is e = (k, is, e)

  -- so it is placed
  pub placed : (node : ModuleNode) → node_by compilation path ≡ Some node → IsPlaced w compilation path node.source.now
  placed node e = let p = node_place node e in record { k = p.0; node = node; found = p.1; here = p.2; is = refl }

module _ (w : World) (compilation : Compilation) (is : IsOfWorld w compilation) where
  abbrev HasPathTo : ℕ → List Text → Type 0
  HasPathTo k path = HasPath w (views w compilation) (nodes w compilation) k path

  -- the root stands first
  pub root_path : HasPathTo 0 []
  root_path = let c = is.complete [] w.root root_module in at_first c.0 [] refl c.1
    where
      at_first : (k : ℕ) (path : List Text) → path ≡ [] → HasPathTo k path → HasPathTo 0 []
      at_first _ _ e (root f parent) = root f parent
      at_first _ _ e (inside {path = path} {name = name} f parent lt named above) = absurd (snoc_empty path name (sym e))

  module _ (single : AreSingle w compilation) where
    -- names lead from the place of a path to that of the path with them behind it
    pub lead_from : (names above : List Text) (k j : ℕ) → HasPathTo k above → place_from compilation k names ≡ Some j → HasPathTo j (above ++ names)
    lead_from [] above k j has e = subst (HasPathTo j) (sym (append-nil above)) (subst (λ i. HasPathTo i above) (same_Some k j e) has)
    lead_from (name ∷ names) above k j has e =
        let n = node_of w compilation is k above has in
        let s = first_step compilation k name names j e in
        subst (HasPathTo j) (append_assoc above (name ∷ []) names) (lead_from names (above ++ name ∷ []) s.0 j (found_path w compilation is k n.0 n.1 single above has name s.0 s.1) s.2)

    -- the name of a node leads to it from its parent
    pub last_step : (k p : ℕ) (view : NodeView) (path : List Text) (name : Text) → HasPathTo k (path ++ name ∷ []) → HasPathTo p path
        → (node : ModuleNode) → HasNode w compilation k node → node_view node ≡ view → view.parent ≡ Some p → view.name ≡ Some name
        → submodule_in compilation.modules.items p name ≡ Some k
    last_step k p view path name has above node here same parent named = by_found (submodule_in compilation.modules.items p name) refl
      where
        by_found : (o : Option ℕ) → submodule_in compilation.modules.items p name ≡ o → submodule_in compilation.modules.items p name ≡ Some k
        by_found (Some inner) e =
            let n = node_of w compilation is p path above in
            e ∙ ap (λ i. Some i) (is.once inner k (path ++ name ∷ []) (found_path w compilation is p n.0 n.1 single path above name inner e) has)
        by_found None e =
            let n = node_of w compilation is p path above in
            absurd (none_inside w compilation is p n.0 n.1 name e k node here (ap (λ (v : NodeView). v.parent) same ∙ parent) (ap (λ (v : NodeView). v.name) same ∙ named))

    -- the path of a place leads to it
    pub leads_to : (k : ℕ) (path : List Text) → HasPathTo k path → place_of compilation path ≡ Some k
    leads_to _ _ (root e parent) = refl
    leads_to _ _ (inside {k} {p} {node = view} {path} {name} e parent lt named above) =
        let m = mapped_at node_view compilation.modules.items k view e in
        place_further compilation 0 path (name ∷ []) ∙ ap (option_and_then (λ j. place_from compilation j (name ∷ []))) (leads_to p path above)
        ∙ ap (option_and_then (λ inner. place_from compilation inner [])) (last_step k p view path name (inside e parent lt named above) above m.0 m.1 m.2 parent named)

    -- the place that names lead to has them as its path
    pub path_of : (path : List Text) (k : ℕ) → place_of compilation path ≡ Some k → HasPathTo k path
    path_of path k e = lead_from path [] 0 k root_path e

-- names lead to a place exactly where it has the path
pub paths_lead : PathsLead
paths_lead w compilation is single path k = (path_of w compilation is single path k, leads_to w compilation is single k path)

-- a module of the world is the node at its path
pub modules_stand : ModulesStand
modules_stand w compilation is single path own = (
  λ m. let n = modules_are_nodes w compilation is single path own m in record { k = n.0; node = n.1; found = leads_to w compilation is single n.0 path n.3; here = n.2; is = n.4 },
  λ (p : IsPlaced w compilation path own). subst (IsModule w path) p.is (module_at w compilation is p.k p.node path p.here (path_of w compilation is single path p.k p.found)),
)

-- the node that a path names is that of a module
pub module_of : (w : World) (compilation : Compilation) → IsOfWorld w compilation → AreSingle w compilation
    → (path : List Text) (node : ModuleNode) → node_by compilation path ≡ Some node → (k : ℕ) × HasNode w compilation k node × IsModule w path node.source.now
module_of w compilation is single path node e =
    let p = node_place w compilation path node e in
    (p.0, p.2, (modules_stand w compilation is single path node.source.now).1 (placed w compilation path node e))
