-- The submodules that a node lists: their names, and the places of both.
use Rattle.std.proofs.Common.{◌≡◌, sym, ◌∙◌, ap, subst, List, [], ◌∷◌, ◌++◌, ℕ, ◌<◌, Option, Some, None, arith, map, true≢false}
use Rattle.std.specs.Prelude.{slice_get}
use Rattle.std.specs.Option.{option_and_then, option_map}
use Rattle.std.specs.Str.{bytes_eq}
use Rattle.std.proofs.lemmas.Option.{none-some, same_Some, slice_get_within}
use Rattle.std.proofs.lemmas.Slice.Eq.{bytes_eq-Decides}
use Rattle.just_text.specs.declared.name.Name.{Name}
use Rattle.modules_compilation.specs.Places.{text_of}
use Rattle.modules_compilation.specs.declared.compilation.Compilation.{Compilation}
use Rattle.modules_compilation.specs.declared.module_node.ModuleNode.{ModuleNode}
use Rattle.resolve_recipes.specs.Named.{module_text, submodule_in, submodule_of}
use Rattle.meaning_rules.specs.Worlds.Given.{Text, World}
use Rattle.meaning_rules.specs.Worlds.Compiled.{AreInner, HasPath, NodeView, root, inside}
use Rattle.meaning_rules.proofs.Worlds.Places.{place_of}
use Rattle.meaning_rules.specs.Worlds.Views.{name_text, node_view}
use Rattle.laws_modules.specs.Names.Names.{AreSingle, HasNode, IsOfWorld, nodes, views}
use Rattle.laws_modules.proofs.Names.Found.{found_at, mapped, mapped_at, none_found, there_within}
use Rattle.laws_modules.proofs.Names.Modules.{path_inside}
use Rattle.laws_modules.proofs.Names.Named.{node_is}
use Rattle.laws_runs.proofs.Resolved.Lists.{map_is}

text_is : (o : Option Name) (name : Text) → option_map name_text o ≡ Some name → text_of o ≡ name
text_is None name e = absurd (none-some name e)
text_is (Some n) name e = same_Some (name_text n) name e

module _ (w : World) (compilation : Compilation) where
  abbrev pub HasPathTo : ℕ → List Text → Type 0
  HasPathTo k path = HasPath w (views w compilation) (nodes w compilation) k path

  -- the node inside has this parent, and the name that is read of it
  pub record IsListed (k inner : ℕ) : Type 0 where
    pub node : ModuleNode
    pub here : HasNode w compilation inner node
    pub parent : node.parent ≡ Some k
    pub named : option_map name_text node.name ≡ Some (module_text compilation.modules.items inner)

  -- the name of a node is the one that is read
  pub text_here : (k : ℕ) (node : ModuleNode) (name : Text) → HasNode w compilation k node → option_map name_text node.name ≡ Some name → module_text compilation.modules.items k ≡ name
  text_here k node name here named = ap (λ o. text_of (option_and_then (λ (x : ModuleNode). x.name) o)) here ∙ text_is node.name name named

  -- a node stands behind its parent
  pub parent_before : (k inner : ℕ) (path : List Text) (submodule : ModuleNode) → HasNode w compilation inner submodule → submodule.parent ≡ Some k → HasPathTo inner path → k < inner
  parent_before k _ _ submodule there parent (root {node = view} e none) =
      let same = same_Some view (node_view submodule) (sym e ∙ mapped node_view compilation.modules.items 0 submodule there) in
      absurd (none-some k (sym none ∙ ap (λ (v : NodeView). v.parent) same ∙ parent))
  parent_before k _ _ submodule there parent (inside {k = inner} {p} {node = view} e parent' lt named above) =
      let same = same_Some view (node_view submodule) (sym e ∙ mapped node_view compilation.modules.items inner submodule there) in
      let one : p ≡ k = same_Some p k (sym parent' ∙ ap (λ (v : NodeView). v.parent) same ∙ parent) in
      omega (arith, lt, one)

  module _ (is : IsOfWorld w compilation) (k : ℕ) (node : ModuleNode) (here : HasNode w compilation k node) where
    abbrev pub inner_lists : AreInner w (views w compilation) (nodes w compilation) k node.submodules.items
    inner_lists = (node_is w compilation is k node here).inner

    named_at : (n inner : ℕ) (name : Text) → slice_get node.submodules.items n ≡ Some inner → slice_get inner_lists.names n ≡ Some name
        → (submodule : ModuleNode) × HasNode w compilation inner submodule × (submodule.parent ≡ Some k) × (option_map name_text submodule.name ≡ Some name)
    named_at n inner name e t =
        let s = inner_lists.sound n inner name e t in
        let m = mapped_at node_view compilation.modules.items inner s.0 s.1 in
        (m.0, m.1, ap (λ (v : NodeView). v.parent) m.2 ∙ s.2, ap (λ (v : NodeView). v.name) m.2 ∙ s.3)

    -- a node in the list is one inside
    pub listed : (n inner : ℕ) → slice_get node.submodules.items n ≡ Some inner → IsListed k inner
    listed n inner e =
        let lt = slice_get_within node.submodules.items n inner e in
        let many = inner_lists.many in
        let t = there_within inner_lists.names n (omega (arith, lt, many)) in
        let m = named_at n inner t.0 e t.1 in
        record { node = m.0; here = m.1; parent = m.2; named = m.3 ∙ ap (λ (t : Text). Some t) (sym (text_here inner m.0 t.0 m.1 m.3)) }

    -- the names that are read of them are the list's
    pub names_are : inner_lists.names ≡ map (module_text compilation.modules.items) node.submodules.items
    names_are = sym (map_is (module_text compilation.modules.items) inner_lists.names node.submodules.items inner_lists.many (λ n name inner t e.
        let m = named_at n inner name e t in
        text_here inner m.0 name m.1 m.3))

    -- what is found by a name stands in the list, and has the name
    pub record IsFound (name : Text) (inner : ℕ) : Type 0 where
      pub n : ℕ
      pub at : slice_get node.submodules.items n ≡ Some inner
      pub text : module_text compilation.modules.items inner ≡ name

    pub found : (name : Text) (inner : ℕ) → submodule_in compilation.modules.items k name ≡ Some inner → IsFound name inner
    found name inner e =
        let f = found_at (λ p. bytes_eq (module_text compilation.modules.items p) name) node.submodules.items inner (ap (λ o. submodule_of compilation.modules.items o name) (sym here) ∙ e) in
        record { n = f.0; at = f.1; text = (bytes_eq-Decides (module_text compilation.modules.items inner) name).0 f.2 }

    -- where none is found, no node inside has the name
    pub none_inside : (name : Text) → submodule_in compilation.modules.items k name ≡ None
        → (inner : ℕ) (submodule : ModuleNode) → HasNode w compilation inner submodule → submodule.parent ≡ Some k → option_map name_text submodule.name ≡ Some name → ⊥
    none_inside name none inner submodule there parent named =
        let c = place_of node.submodules.items inner (inner_lists.complete inner (node_view submodule) (mapped node_view compilation.modules.items inner submodule there) parent) in
        let no_text = none_found (λ p. bytes_eq (module_text compilation.modules.items p) name) node.submodules.items (ap (λ o. submodule_of compilation.modules.items o name) (sym here) ∙ none) c.0 inner c.1 in
        true≢false (sym ((bytes_eq-Decides (module_text compilation.modules.items inner) name).1 (text_here inner submodule name there named)) ∙ no_text)

    module _ (single : AreSingle w compilation) (above : List Text) (has : HasPathTo k above) where
      -- its path is the parent's, and its name
      pub listed_path : (n inner : ℕ) → slice_get node.submodules.items n ≡ Some inner → HasPathTo inner (above ++ module_text compilation.modules.items inner ∷ [])
      listed_path n inner e =
          let l = listed n inner e in
          path_inside w compilation is single k node here inner l.node (module_text compilation.modules.items inner) above l.here l.parent l.named has

      pub found_path : (name : Text) (inner : ℕ) → submodule_in compilation.modules.items k name ≡ Some inner → HasPathTo inner (above ++ name ∷ [])
      found_path name inner e = let f = found name inner e in subst (λ t. HasPathTo inner (above ++ t ∷ [])) f.text (listed_path f.n inner f.at)
