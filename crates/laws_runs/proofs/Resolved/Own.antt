-- The path of a place is made of its own name and those of the modules above it.
use Rattle.std.proofs.Common.{◌≡◌, sym, ◌∙◌, ap, subst, List, [], ◌∷◌, ◌++◌, ℕ, zero, suc, ◌<◌, Option, Some, None, refl, arith, length}
use Rattle.std.specs.Prelude.{reverse, slice_get}
use Rattle.std.specs.Option.{option_map}
use Rattle.std.proofs.lemmas.Grind.{reverse_onto}
use Rattle.std.proofs.lemmas.Option.{none-some, same_Some, slice_get_within}
use Rattle.just_text.specs.declared.name.Name.{Name}
use Rattle.modules_compilation.specs.Modulepaths.{names_of, names_up, node_at, own_names, path_in}
use Rattle.modules_compilation.specs.declared.compilation.Compilation.{Compilation}
use Rattle.modules_compilation.specs.declared.module_node.ModuleNode.{ModuleNode}
use Rattle.meaning_rules.specs.Worlds.Given.{Text, World}
use Rattle.meaning_rules.specs.Worlds.Compiled.{HasItem, HasPath, NodeView, root, inside}
use Rattle.meaning_rules.specs.Worlds.Views.{name_text, node_view}
use Rattle.laws_modules.specs.Names.Names.{HasNode, IsOfWorld, nodes, views}
use Rattle.laws_modules.proofs.Names.Found.{mapped_at}
use Rattle.laws_modules.proofs.Names.Modules.{node_of}
use Rattle.laws_modules.proofs.Names.Named.{node_is}
use Rattle.laws_runs.specs.Resolved.Modules.{PathsAreOwn, PlacesHavePaths}
use Rattle.laws_runs.proofs.Resolved.Leading.{leads_to, path_of}

no_names : (o : Option Name) → option_map name_text o ≡ None → names_of o ≡ []
no_names None e = refl
no_names (Some n) e = absurd (none-some (name_text n) (sym e))

one_name : (o : Option Name) (name : Text) → option_map name_text o ≡ Some name → names_of o ≡ name ∷ []
one_name None name e = absurd (none-some name e)
one_name (Some n) name e = ap (λ t. t ∷ []) (same_Some (name_text n) name e)

module _ (w : World) (compilation : Compilation) (is : IsOfWorld w compilation) where
  abbrev HasPathTo : ℕ → List Text → Type 0
  HasPathTo k path = HasPath w (views w compilation) (nodes w compilation) k path

  -- the names above a place, of enough modules, are its path
  own_path : (count k : ℕ) (path : List Text) → k < count → HasPathTo k path → reverse (names_up compilation.modules.items (slice_get compilation.modules.items k) count) ≡ path
  own_path zero k path lt has = absurd (omega (arith, lt))
  own_path (suc count) _ _ lt (root {node = view} e parent) =
      let m = mapped_at node_view compilation.modules.items 0 view e in
      let above : m.0.parent ≡ None = ap (λ (v : NodeView). v.parent) m.2 ∙ parent in
      let item = subst (HasItem w (views w compilation) (nodes w compilation) (node_view m.0)) above (node_is w compilation is 0 m.0 m.1).item in
      ap (λ o. reverse (names_up compilation.modules.items o (suc count))) m.1
      ∙ ap (λ o. reverse (own_names m.0 ++ names_up compilation.modules.items (node_at compilation.modules.items o) count)) above
      ∙ ap (λ ns. reverse (ns ++ [])) (no_names m.0.name item.1)
  own_path (suc count) _ _ less (inside {k} {p} {node = view} {path} {name} e parent lt named above) =
      let m = mapped_at node_view compilation.modules.items k view e in
      ap (λ o. reverse (names_up compilation.modules.items o (suc count))) m.1
      ∙ ap (λ o. reverse (own_names m.0 ++ names_up compilation.modules.items (node_at compilation.modules.items o) count)) (ap (λ (v : NodeView). v.parent) m.2 ∙ parent)
      ∙ ap (λ ns. reverse (ns ++ names_up compilation.modules.items (slice_get compilation.modules.items p) count)) (one_name m.0.name name (ap (λ (v : NodeView). v.name) m.2 ∙ named))
      ∙ reverse_onto (names_up compilation.modules.items (slice_get compilation.modules.items p) count) name []
      ∙ ap (λ q. q ++ name ∷ []) (own_path count p path (omega (arith, lt, less)) above)

  -- a place's own path is the one that it has
  pub path_is : (k : ℕ) (path : List Text) → HasPathTo k path → path_in compilation.modules.items k ≡ path
  path_is k path has =
      let n = node_of w compilation is k path has in
      own_path (length compilation.modules.items) k path (slice_get_within compilation.modules.items k n.0 n.1) has

  -- each place has its own path
  pub has_own_path : (k : ℕ) (node : ModuleNode) → HasNode w compilation k node → HasPathTo k (path_in compilation.modules.items k)
  has_own_path k node here =
      let n = node_is w compilation is k node here in
      subst (HasPathTo k) (sym (path_is k n.path n.has_path)) n.has_path

pub paths_are_own : PathsAreOwn
paths_are_own w compilation is single path k e = path_is w compilation is k path (path_of w compilation is single path k e)

pub places_have_paths : PlacesHavePaths
places_have_paths w compilation is single k node here = leads_to w compilation is single k (path_in compilation.modules.items k) (has_own_path w compilation is k node here)
