-- Submodules by their names, and the paths that they have.
use Rattle.std.proofs.Common.{◌≡◌, sym, ◌∙◌, ap, List, [], ◌∷◌, ◌++◌, ℕ, Option, Some, None, refl, arith}
use Rattle.std.specs.Prelude.{slice_get, bytes_eq}
use Rattle.std.specs.Option.{option_and_then, option_map}
use Rattle.std.proofs.lemmas.Option.{none-some, same_Some, slice_get_within}
use Rattle.std.proofs.lemmas.Slice.Eq.{bytes_eq-Decides}
use Rattle.just_text.specs.declared.name.Name.{Name}
use Rattle.modules_compilation.specs.Places.{text_of}
use Rattle.modules_compilation.specs.declared.compilation.Compilation.{Compilation}
use Rattle.modules_compilation.specs.declared.module_node.ModuleNode.{ModuleNode}
use Rattle.resolve_recipes.specs.Named.{module_text, submodule_in, submodule_of}
use Rattle.meaning_rules.specs.Worlds.Given.{Text, World}
use Rattle.meaning_rules.specs.Worlds.Compiled.{NodeView}
use Rattle.meaning_rules.proofs.Worlds.Places.{place_of as place_among}
use Rattle.meaning_rules.specs.Worlds.Views.{name_text, node_view}
use Rattle.laws_modules.specs.Names.Names.{HasNode, IsOfWorld}
use Rattle.laws_modules.proofs.Names.Found.{mapped_at, there_within}
use Rattle.laws_modules.proofs.Names.Named.{node_is}
use Rattle.laws_runs.specs.Resolved.Definitions.{place_from, place_of}
use Rattle.analyze_words.specs.declared.menu.Meaning.TheVariants.{Submodule}
use Rattle.justfile_analyzer.specs.MenusOf.{is_called, is_text, submodule_meant}
use Rattle.laws_runs.proofs.Menus.Lists.{IsOnce, find_alike, find_reversed, one_place}

-- ---- paths

module _ (compilation : Compilation) where
  -- names lead on from where those before them lead
  pub place_behind : (k : ℕ) (above names : List Text) → place_from compilation k (above ++ names) ≡ option_and_then (λ j. place_from compilation j names) (place_from compilation k above)
  place_behind k [] names = refl
  place_behind k (name ∷ above) names = by_inner (submodule_in compilation.modules.items k name) (λ inner. place_behind inner above names)
    where
      by_inner : (o : Option ℕ) → ((inner : ℕ) → place_from compilation inner (above ++ names) ≡ option_and_then (λ j. place_from compilation j names) (place_from compilation inner above))
          → option_and_then (λ inner. place_from compilation inner (above ++ names)) o ≡ option_and_then (λ j. place_from compilation j names) (option_and_then (λ inner. place_from compilation inner above) o)
      by_inner None more = refl
      by_inner (Some inner) more = more inner

  some_or : (o : Option ℕ) → option_and_then (λ inner. place_from compilation inner []) o ≡ o
  some_or None = refl
  some_or (Some inner) = refl

  -- the place of a submodule's path
  pub place_inside : (k : ℕ) (path : List Text) (name : Text) → place_of compilation path ≡ Some k → place_of compilation (path ++ name ∷ []) ≡ submodule_in compilation.modules.items k name
  place_inside k path name found =
      place_behind 0 path (name ∷ [])
      ∙ ap (option_and_then (λ j. place_from compilation j (name ∷ []))) found
      ∙ some_or (submodule_in compilation.modules.items k name)

-- ---- the submodule of a name

name_case : (o : Option Name) (name other : Text) → option_map name_text o ≡ Some name → (is_text o other ≡ bytes_eq name other) × (text_of o ≡ name)
name_case None name other e = absurd (none-some name e)
name_case (Some own) name other e =
    let same : name_text own ≡ name = same_Some (name_text own) name e in
    (ap (λ t. bytes_eq t other) same, same)

module _ (w : World) (compilation : Compilation) (is : IsOfWorld w compilation) (k : ℕ) (node : ModuleNode) (here : HasNode w compilation k node) where
  -- a submodule in the module's list
  pub record IsInside (i inner : ℕ) : Type 0 where
    pub submodule : ModuleNode
    pub there : HasNode w compilation inner submodule
    pub name : Text
    pub at_name : slice_get (node_is w compilation is k node here).inner.names i ≡ Some name
    pub named : option_map name_text submodule.name ≡ Some name

  pub inside : (i inner : ℕ) → slice_get node.submodules.items i ≡ Some inner → IsInside i inner
  inside i inner e =
      let l = (node_is w compilation is k node here).inner in
      let lt = slice_get_within node.submodules.items i inner e in
      let many = l.many in
      let n = there_within l.names i (omega (arith, lt, many)) in
      let s = l.sound i inner n.0 e n.1 in
      let m = mapped_at node_view compilation.modules.items inner s.0 s.1 in
      record { submodule = m.0; there = m.1; name = n.0; at_name = n.1; named = ap (λ (v : NodeView). v.name) m.2 ∙ s.3 }

  called : (i inner : ℕ) (x : IsInside i inner) (name : Text) → (is_called compilation.modules.items name inner ≡ bytes_eq x.name name) × (module_text compilation.modules.items inner ≡ x.name)
  called i inner x name =
      let c = name_case x.submodule.name x.name name x.named in
      (ap (λ o. is_text (option_and_then (λ (n : ModuleNode). n.name) o) name) x.there ∙ c.0, ap (λ o. text_of (option_and_then (λ (n : ModuleNode). n.name) o)) x.there ∙ c.1)

  once : (name : Text) → IsOnce (is_called compilation.modules.items name) node.submodules.items
  once name i j x y e f p q =
      let a = inside i x e in
      let b = inside j y f in
      let first : a.name ≡ name = (bytes_eq-Decides a.name name).0 (sym (called i x a name).0 ∙ p) in
      let second : b.name ≡ name = (bytes_eq-Decides b.name name).0 (sym (called j y b name).0 ∙ q) in
      let l = (node_is w compilation is k node here).inner in
      one_place l.names i j name l.sorted (a.at_name ∙ ap (λ n. Some n) first) (b.at_name ∙ ap (λ n. Some n) second)

  -- from either end of the list
  pub submodule_found : (name : Text) → submodule_meant compilation.modules.items node.submodules.items name ≡ option_map Submodule (submodule_in compilation.modules.items k name)
  submodule_found name =
      ap (option_map Submodule) (
      find_reversed (is_called compilation.modules.items name) node.submodules.items (once name)
      ∙ find_alike (is_called compilation.modules.items name) (λ p. bytes_eq (module_text compilation.modules.items p) name) node.submodules.items (λ inner c.
      let p = place_among node.submodules.items inner c in
      let x = inside p.0 inner p.1 in
      let both = called p.0 inner x name in
      both.0 ∙ ap (λ t. bytes_eq t name) (sym both.1))
      ∙ ap (λ o. submodule_of compilation.modules.items o name) (sym here))
