-- Modules of a world by their paths, and the submodule of a name.
use Rattle.std.proofs.Common.{◌≡◌, ◌≢◌, ◌⊎◌, inl, inr, sym, ◌∙◌, ap, subst, Bool, true, false, if◌then◌else◌, List, [], ◌∷◌, ◌++◌, ℕ, Option, Some, None, refl, arith, true≢false, map, suc, ◌+◌, ◌-◌}
use Rattle.std.specs.Prelude.{slice_get}
use Rattle.std.specs.Option.{option_and_then, option_map}
use Rattle.std.specs.Str.{bytes_eq}
use Rattle.std.proofs.lemmas.Bool.Decides.{eqb_tells}
use Rattle.std.proofs.lemmas.Option.{none-some, same_Some, slice_get_within}
use Rattle.std.proofs.lemmas.Slice.Eq.{bytes_eq-Decides}
use Rattle.just_text.specs.declared.name.Name.{Name}
use Rattle.tree_attributes.specs.Attributes.{AttributeShape}
use Rattle.tree_items.specs.Files.{ItemShape, module_item}
use Rattle.tree_items.specs.Items.{ModuleShape}
use Rattle.modules_compilation.specs.Places.{text_of}
use Rattle.modules_compilation.specs.declared.compilation.Compilation.{Compilation}
use Rattle.modules_compilation.specs.declared.module_node.ModuleNode.{ModuleNode}
use Rattle.resolve_recipes.specs.Named.{module_text, submodule_of}
use Rattle.meaning_rules.specs.Worlds.Given.{Text, World, filled}
use Rattle.meaning_rules.specs.Worlds.Sources.{Has, IsFileOf, IsSubmodule, MayMean, enabled, Reached, root as root_reached, imported, submodule as submodule_reached, itself, further}
use Rattle.meaning_rules.specs.Worlds.Modules.{IsModule, root as root_module, inside as inside_module}
use Rattle.meaning_rules.specs.Worlds.Keeping.{Defines, IsDefined, IsTwice, Kind, MayBoth, a_recipe, a_submodule, both_recipes, both_variables, defined_by}
use Rattle.meaning_rules.specs.Worlds.Compiled.{AreInner, HasPath, NodeView, root, inside, FileView, files_of}
use Rattle.meaning_rules.proofs.Worlds.Places.{place_of}
use Rattle.meaning_rules.specs.Worlds.Views.{name_text, node_view}
use Rattle.laws_modules.specs.Names.Names.{AreSingle, HasNode, IsInner, IsOfWorld, IsSubmoduleOf, SubmodulesAreFound, nodes, views}
use Rattle.laws_modules.proofs.Names.Found.{found_at, mapped, mapped_at, none_found, snoc_empty, snoc_same, there_within, part_at}
use Rattle.laws_modules.proofs.Names.Named.{node_is}
use Rattle.laws_modules.specs.Names.Modules.{ModulesAreNodes, NoneIsTwice, ReachedAreSaid}
use Rattle.meaning_rules.proofs.Worlds.Reading.{orders_have_reached}

-- ---- a name of two definitions

abbrev said : Kind → Text → Option (Kind × Text)
said kind text = Some (kind, text)

module _ (w : World) (own name : Text) where
  -- a submodule is defined
  defines_module : (file key : Text) → IsFileOf w own file → (s : IsSubmodule w file name key) → Defines w own a_submodule name file s.place (module_item s.has.attributes s.line)
  defines_module file key of s = record {
    of = of;
    has = s.has.has;
    is = ap (λ (b : Bool). if b then said a_submodule s.line.name else None) s.has.enabled ∙ ap (said a_submodule) s.is_named;
    taken = (key, s.means);
  }

  never_both : {kind kind' : Kind} → MayBoth w own kind kind' → kind' ≡ a_submodule → ⊥
  never_both (both_recipes on) e = absurd (cc e)
  never_both (both_variables on) e = absurd (cc e)

  one_item : (key : Text) (place : ℕ) (a b : ItemShape) → Has w key place a → Has w key place b → a ≡ b
  one_item key place a b h k =
      let items : h.items ≡ k.items = same_Some h.items k.items (sym h.says ∙ k.says) in
      same_Some a b (sym h.at ∙ ap (λ xs. slice_get xs place) items ∙ k.at)

  -- a module has no recipe and submodule of one name
  pub never_two : (IsTwice w own a_recipe name → ⊥) → IsDefined w own a_recipe name → (file key : Text) → IsFileOf w own file → IsSubmodule w file name key → ⊥
  never_two single d file key of s =
      let module_defines = defines_module file key of s in
      single (record {
        key = d.key;
        place = d.place;
        item = d.item;
        defines = d.defines;
        kind' = a_submodule;
        key' = file;
        place' = s.place;
        item' = module_item s.has.attributes s.line;
        defines' = module_defines;
        spaces = refl;
        others = elim (eqb_tells d.place s.place) [
          | inl p ↦ inl (λ keys.
              let there = subst (λ k. Has w k s.place d.item) keys (subst (λ n. Has w d.key n d.item) p.1 d.defines.has) in
              let same = one_item file s.place d.item (module_item s.has.attributes s.line) there s.has.has in
              no_recipe d.item s.has.attributes s.line d.defines.is same)
          | inr p ↦ inr p.1
        ];
        forbidden = λ may. never_both may refl;
      })
    where
      other : (b : Bool) (text : Text) → (if b then said a_submodule text else None) ≡ said a_recipe name → ⊥
      other true text e = let kinds : a_submodule ≡ a_recipe = ap (λ (p : Kind × Text). p.0) (same_Some (a_submodule, text) (a_recipe, name) e) in absurd (cc kinds)
      other false text e = none-some (a_recipe, name) e

      no_recipe : (item : ItemShape) (attributes : List AttributeShape) (line : ModuleShape) → defined_by w.os item ≡ Some (a_recipe, name) → item ≡ module_item attributes line → ⊥
      no_recipe item attributes line is same = other (enabled w.os attributes) line.name (sym (ap (defined_by w.os) same) ∙ is)

  -- a module has one submodule of a name
  pub one_submodule : (IsTwice w own a_submodule name → ⊥) → (file file' key key' : Text) → IsFileOf w own file → IsFileOf w own file' → IsSubmodule w file name key → IsSubmodule w file' name key' → key ≡ key'
  one_submodule single file file' key key' of of' s t = elim (eqb_tells s.place t.place) [
    | inl p ↦ elim (bytes_eq-tells file file') [
      | inl q ↦ same p.1 q
      | inr q ↦ absurd (twice (inl q))
    ]
    | inr p ↦ absurd (twice (inr p.1))
  ]
    where
      bytes_eq-tells : (a b : Text) → (a ≡ b) ⊎ (a ≢ b)
      bytes_eq-tells a b = by_test (bytes_eq a b) refl
        where
          by_test : (c : Bool) → bytes_eq a b ≡ c → (a ≡ b) ⊎ (a ≢ b)
          by_test true e = inl ((bytes_eq-Decides a b).0 e)
          by_test false e = inr (λ same. true≢false (sym ((bytes_eq-Decides a b).1 same) ∙ e))

      twice : (file ≢ file') ⊎ (s.place ≢ t.place) → ⊥
      twice others = single (record {
        key = file;
        place = s.place;
        item = module_item s.has.attributes s.line;
        defines = defines_module file key of s;
        kind' = a_submodule;
        key' = file';
        place' = t.place;
        item' = module_item t.has.attributes t.line;
        defines' = defines_module file' key' of' t;
        spaces = refl;
        others = others;
        forbidden = λ may. never_both may refl;
      })

      same : s.place ≡ t.place → file ≡ file' → key ≡ key'
      same places files =
          let there = subst (λ f. Has w f t.place (module_item s.has.attributes s.line)) files (subst (λ n. Has w file n (module_item s.has.attributes s.line)) places s.has.has) in
          let items = one_item file' t.place (module_item s.has.attributes s.line) (module_item t.has.attributes t.line) there t.has.has in
          let lines : s.line ≡ t.line = cc items in
          let means = subst (λ l. MayMean w file' l key) lines (subst (λ f. MayMean w f s.line key) files s.means) in
          t.alone key means

-- ---- paths

-- a module inside another one, of which it is a submodule
record IsBelow (w : World) (path : List Text) (name key : Text) : Type 0 where
  pub own : Text
  pub is : IsModule w path own
  pub file : Text
  pub of : IsFileOf w own file
  pub submodule : IsSubmodule w file name key

is_below : (w : World) (whole path : List Text) (name key : Text) → whole ≡ path ++ name ∷ [] → IsModule w whole key → IsBelow w path name key
is_below w _ path name key e root_module = absurd (snoc_empty path name e)
is_below w _ path name key e (inside_module {path = path'} {own = own} {file = file} {name = name'} m f s) =
    let p = snoc_same path' path name' name e in
    record { own = own; is = subst (λ q. IsModule w q own) p.0 m; file = file; of = f; submodule = subst (λ n. IsSubmodule w file n key) p.1 s }

is_root : (w : World) (path : List Text) (key : Text) → [] ≡ path → IsModule w path key → key ≡ w.root
is_root w _ key e root_module = refl
is_root w _ key e (inside_module {path = path} {name = name} m f s) = absurd (snoc_empty path name e)

module _ (w : World) (compilation : Compilation) (is : IsOfWorld w compilation) where
  abbrev HasPathOf : ℕ → List Text → Type 0
  HasPathOf k path = HasPath w (views w compilation) (nodes w compilation) k path

  -- a place has one path
  pub one_path : (k k' : ℕ) (path path' : List Text) → k ≡ k' → HasPathOf k path → HasPathOf k' path' → path ≡ path'
  one_path _ _ _ _ same (root e parent) (root e' parent') = refl
  one_path _ _ _ _ same (root {node} e parent) (inside {k = k'} {p = p'} {node = node'} e' parent' lt' named' above') =
      let one = same_Some node node' (sym e ∙ ap (slice_get (nodes w compilation)) same ∙ e') in
      absurd (none-some p' (sym parent ∙ ap (λ (v : NodeView). v.parent) one ∙ parent'))
  one_path _ _ _ _ same (inside {k} {p} {node} e parent lt named above) (root {node = node'} e' parent') =
      let one = same_Some node node' (sym e ∙ ap (slice_get (nodes w compilation)) same ∙ e') in
      absurd (none-some p (sym parent' ∙ ap (λ (v : NodeView). v.parent) (sym one) ∙ parent))
  one_path _ _ _ _ same (inside {k} {p} {node} {path} {name} e parent lt named above) (inside {k = k'} {p = p'} {node = node'} {path = path'} {name = name'} e' parent' lt' named' above') =
      let one = same_Some node node' (sym e ∙ ap (slice_get (nodes w compilation)) same ∙ e') in
      let parents : p ≡ p' = same_Some p p' (sym parent ∙ ap (λ (v : NodeView). v.parent) one ∙ parent') in
      let names : name ≡ name' = same_Some name name' (sym named ∙ ap (λ (v : NodeView). v.name) one ∙ named') in
      ap (λ q. q ++ name ∷ []) (one_path p p' path path' parents above above') ∙ ap (λ n. path' ++ n ∷ []) names

  -- the module at a path is the node there
  pub module_at : (k : ℕ) (node : ModuleNode) (path : List Text) → HasNode w compilation k node → HasPathOf k path → IsModule w path node.source.now
  module_at k node path here has =
      let n = node_is w compilation is k node here in
      subst (λ p. IsModule w p node.source.now) (one_path k k n.path path refl n.has_path has) n.is

  module _ (single : AreSingle w compilation) where
    -- and there is no other
    pub one_module : (k : ℕ) (node : ModuleNode) (path : List Text) → HasNode w compilation k node → HasPathOf k path → (key : Text) → IsModule w path key → key ≡ node.source.now
    one_module _ node _ here (root e parent) key m = is_root w [] key refl m ∙ sym (is_root w [] node.source.now refl (module_at 0 node [] here (root e parent)))
    one_module _ node _ here (inside {k} {p} {node = view} {path} {name} e parent lt named above) key m =
        let q = mapped_at node_view compilation.modules.items p _ (there_within (nodes w compilation) p (let less = slice_get_within (nodes w compilation) k view e in omega (arith, lt, less))).1 in
        let a = is_below w (path ++ name ∷ []) path name key refl m in
        let b = is_below w (path ++ name ∷ []) path name node.source.now refl (module_at k node (path ++ name ∷ []) here (inside e parent lt named above)) in
        let own = one_module p q.0 path q.1 above a.own a.is in
        let own' = one_module p q.0 path q.1 above b.own b.is in
        one_submodule w q.0.source.now name (single p q.0 q.1 a_submodule name refl) a.file b.file key node.source.now (subst (λ o. IsFileOf w o a.file) own a.of) (subst (λ o. IsFileOf w o b.file) own' b.of) a.submodule b.submodule

    -- ---- the submodule of a name

    module _ (k : ℕ) (node : ModuleNode) (here : HasNode w compilation k node) where
      abbrev above_path : List Text
      above_path = (node_is w compilation is k node here).path

      has_above : HasPathOf k above_path
      has_above = (node_is w compilation is k node here).has_path

      -- a node with this parent has the path behind it
      pub path_inside : (inner : ℕ) (submodule : ModuleNode) (name : Text) (path : List Text) → HasNode w compilation inner submodule → submodule.parent ≡ Some k → option_map name_text submodule.name ≡ Some name
          → HasPathOf k path → HasPathOf inner (path ++ name ∷ [])
      path_inside inner submodule name path there parent named above = by_path inner (node_is w compilation is inner submodule there).path there (node_is w compilation is inner submodule there).has_path
        where
          by_path : (inner : ℕ) (whole : List Text) → HasNode w compilation inner submodule → HasPathOf inner whole → HasPathOf inner (path ++ name ∷ [])
          by_path _ _ there (root {node = view} e none) =
              let same = same_Some view (node_view submodule) (sym e ∙ mapped node_view compilation.modules.items 0 submodule there) in
              absurd (none-some k (sym none ∙ ap (λ (v : NodeView). v.parent) same ∙ parent))
          by_path _ _ there (inside {k = inner} {p} {node = view} e parent' lt named' above') =
              let same = same_Some view (node_view submodule) (sym e ∙ mapped node_view compilation.modules.items inner submodule there) in
              let one : p ≡ k = same_Some p k (sym parent' ∙ ap (λ (v : NodeView). v.parent) same ∙ parent) in
              inside (mapped node_view compilation.modules.items inner submodule there) parent (omega (arith, lt, one)) named above

      is_inner : (inner : ℕ) (submodule : ModuleNode) (name : Text) → HasNode w compilation inner submodule → submodule.parent ≡ Some k → option_map name_text submodule.name ≡ Some name → IsInner w compilation k node name inner submodule
      is_inner inner submodule name there parent named =
          let path = path_inside inner submodule name above_path there parent named has_above in
          let m = module_at inner submodule (above_path ++ name ∷ []) there path in
          let b = is_below w (above_path ++ name ∷ []) above_path name submodule.source.now refl m in
          let own = one_module k node above_path here has_above b.own b.is in
          let of = subst (λ o. IsFileOf w o b.file) own b.of in
          record {
            there = there;
            parent = parent;
            is_named = named;
            file = b.file;
            of = of;
            is = b.submodule;
            alone = λ other key of' s. one_submodule w node.source.now name (single k node here a_submodule name refl) other b.file key submodule.source.now of' of s b.submodule;
          }

      inner_lists : AreInner w (views w compilation) (nodes w compilation) k node.submodules.items
      inner_lists = (node_is w compilation is k node here).inner

      -- a submodule in the list by its name
      listed : (n inner : ℕ) → slice_get node.submodules.items n ≡ Some inner → (submodule : ModuleNode) × (name : Text) × HasNode w compilation inner submodule × (submodule.parent ≡ Some k)
          × (option_map name_text submodule.name ≡ Some name) × (module_text compilation.modules.items inner ≡ name)
      listed n inner e =
          let lt = slice_get_within node.submodules.items n inner e in
          let many = inner_lists.many in
          let t = there_within inner_lists.names n (omega (arith, lt, many)) in
          let s = inner_lists.sound n inner t.0 e t.1 in
          let m = mapped_at node_view compilation.modules.items inner s.0 s.1 in
          let named : option_map name_text m.0.name ≡ Some t.0 = ap (λ (v : NodeView). v.name) m.2 ∙ s.3 in
          (m.0, t.0, m.1, ap (λ (v : NodeView). v.parent) m.2 ∙ s.2, named, ap (λ o. text_of (option_and_then (λ (x : ModuleNode). x.name) o)) m.1 ∙ text_is m.0.name t.0 named)
        where
          text_is : (o : Option Name) (name : Text) → option_map name_text o ≡ Some name → text_of o ≡ name
          text_is None name e = absurd (none-some name e)
          text_is (Some n) name e = same_Some (name_text n) name e

      submodule_is : (name : Text) (found : Option ℕ) → submodule_of compilation.modules.items (Some node) name ≡ found → IsSubmoduleOf w compilation k node name found
      submodule_is name (Some inner) e =
          let f = found_at (λ p. bytes_eq (module_text compilation.modules.items p) name) node.submodules.items inner e in
          let l = listed f.0 inner f.1 in
          let same : l.1 ≡ name = sym l.5 ∙ (bytes_eq-Decides (module_text compilation.modules.items inner) name).0 f.2 in
          (l.0, is_inner inner l.0 name l.2 l.3 (l.4 ∙ ap (λ (t : Text). Some t) same))
      submodule_is name None e = λ file key of s.
          let m = inside_module (module_at k node above_path here has_above) of s in
          let c = is.complete (above_path ++ name ∷ []) key m in
          no_node name e c.0 (above_path ++ name ∷ []) refl c.1
        where
          no_node : (name : Text) → submodule_of compilation.modules.items (Some node) name ≡ None → (inner : ℕ) (path : List Text) → path ≡ above_path ++ name ∷ [] → HasPathOf inner path → ⊥
          no_node name none _ _ same (root f parent) = snoc_empty above_path name same
          no_node name none _ _ same (inside {k = inner} {p} {node = view} {path} {name = name'} f parent lt named above) =
              let q = snoc_same path above_path name' name same in
              let one : p ≡ k = is.once p k above_path (subst (HasPathOf p) q.0 above) has_above in
              let c = place_of node.submodules.items inner (inner_lists.complete inner view f (parent ∙ ap (λ n. Some n) one)) in
              let l = listed c.0 inner c.1 in
              let view_is = same_Some view (node_view l.0) (sym f ∙ mapped node_view compilation.modules.items inner l.0 l.2) in
              let text : l.1 ≡ name = same_Some l.1 name (sym l.4 ∙ ap (λ (v : NodeView). v.name) (sym view_is) ∙ named ∙ ap (λ (t : Text). Some t) q.1) in
              let no_text = none_found (λ p. bytes_eq (module_text compilation.modules.items p) name) node.submodules.items none c.0 inner c.1 in
              true≢false (sym ((bytes_eq-Decides (module_text compilation.modules.items inner) name).1 (l.5 ∙ text)) ∙ no_text)

pub submodules_are_found : SubmodulesAreFound
submodules_are_found w compilation is single k node here name =
    subst (IsSubmoduleOf w compilation k node name) (ap (λ o. submodule_of compilation.modules.items o name) (sym here)) (submodule_is w compilation is single k node here name (submodule_of compilation.modules.items (Some node) name) refl)

-- ---- all modules

module _ (w : World) (compilation : Compilation) (is : IsOfWorld w compilation) where
  pub node_of : (k : ℕ) (path : List Text) → HasPath w (views w compilation) (nodes w compilation) k path → (node : ModuleNode) × HasNode w compilation k node
  node_of _ _ (root {node = view} e parent) = let m = mapped_at node_view compilation.modules.items 0 view e in (m.0, m.1)
  node_of _ _ (inside {k = k} {node = view} e parent lt named above) = let m = mapped_at node_view compilation.modules.items k view e in (m.0, m.1)

  -- a file of a module says something
  file_said : (k : ℕ) (node : ModuleNode) → HasNode w compilation k node → (file : Text) → IsFileOf w node.source.now file → (items : List ItemShape) × (w.said file ≡ Some items)
  file_said k node here file of =
      let n = node_is w compilation is k node here in
      let p = place_of (map (λ (f : FileView). f.key) (files_of w (views w compilation) (nodes w compilation) (node_view node))) file ((orders_have_reached w node.source.now _ n.own_files.order file).1 of) in
      let f = mapped_at (λ (f : FileView). f.key) (files_of w (views w compilation) (nodes w compilation) (node_view node)) p.0 file p.1 in
      let at = part_at node.first_file (node.end_file - node.first_file) (views w compilation) p.0 f.0 f.1 in
      (filled f.0.items, ap w.said (sym f.2) ∙ is.read (node.first_file + p.0) f.0 at)

  -- a file that is reached is one of some module
  record IsOfModule (file : Text) : Type 0 where
    pub path : List Text
    pub own : Text
    pub module_is : IsModule w path own
    pub of : IsFileOf w own file

  of_module : (file : Text) → Reached w file → IsOfModule file
  of_module _ root_reached = record { path = []; own = w.root; module_is = root_module; of = record { count = 0; leads = itself } }
  of_module file (imported {file = from} r i) =
      let m = of_module from r in
      record { path = m.path; own = m.own; module_is = m.module_is; of = record { count = suc m.of.count; leads = further m.of.leads i } }
  of_module file (submodule_reached {file = from} {name = name} r s) =
      let m = of_module from r in
      record { path = m.path ++ name ∷ []; own = file; module_is = inside_module m.module_is m.of s; of = record { count = 0; leads = itself } }

pub modules_are_nodes : ModulesAreNodes
modules_are_nodes w compilation is single path own m =
    let c = is.complete path own m in
    let n = node_of w compilation is c.0 path c.1 in
    (c.0, n.0, n.1, c.1, sym (one_module w compilation is single c.0 n.0 path n.1 c.1 own m))

pub none_is_twice : NoneIsTwice
none_is_twice w compilation is single kind name none (own, (path, m), twice) =
    let n = modules_are_nodes w compilation is single path own m in
    none n.0 n.1 n.2 (subst (λ o. IsTwice w o kind name) (sym n.4) twice)

pub reached_are_said : ReachedAreSaid
reached_are_said w compilation is single file r =
    let m = of_module w compilation is file r in
    let n = modules_are_nodes w compilation is single m.path m.own m.module_is in
    file_said w compilation is n.0 n.1 n.2 file (subst (λ o. IsFileOf w o file) (sym n.4) m.of)
