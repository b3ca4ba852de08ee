-- The variable to which names lead.
use Rattle.std.proofs.Common.{◌≡◌, ◌⊎◌, inl, inr, sym, ◌∙◌, ap, subst, List, [], ◌∷◌, ◌++◌, ℕ, Option, Some, None, refl, append_assoc}
use Rattle.std.proofs.lemmas.List.{append-nil}
use Rattle.modules_compilation.specs.declared.compilation.Compilation.{Compilation}
use Rattle.modules_compilation.specs.declared.module_node.ModuleNode.{ModuleNode}
use Rattle.modules_compilation.specs.declared.place.Place.{Place}
use Rattle.resolve_recipes.specs.Leading.{variable_from, variable_of}
use Rattle.resolve_recipes.specs.Named.{submodule_in}
use Rattle.meaning_rules.specs.Worlds.Given.{Text, World}
use Rattle.meaning_rules.specs.Worlds.Sources.{IsFileOf, IsSubmodule}
use Rattle.meaning_rules.specs.Worlds.Modules.{IsModule, root as root_module, inside as inside_module}
use Rattle.meaning_rules.specs.Worlds.Keeping.{IsDefined, a_variable}
use Rattle.meaning_rules.specs.Worlds.Compiled.{HasPath, root, inside}
use Rattle.laws_modules.specs.Names.Names.{AreSingle, HasNode, IsOfWorld, IsSubmoduleOf, nodes, views}
use Rattle.laws_modules.proofs.Names.Found.{snoc_empty, snoc_same}
use Rattle.laws_modules.proofs.Names.Modules.{module_at, node_of, one_module, path_inside, submodules_are_found}
use Rattle.laws_names.specs.Overriding.Variables.{IsVariableFrom, LeadsToVariable, VariablesAreFound}
use Rattle.laws_names.proofs.Overriding.Standing.{IsKept, kept_is}

-- a list is empty, or has a last element
last_cases : {A : Type 0} (xs : List A) → (xs ≡ []) ⊎ ((first : List A) × (last : A) × (xs ≡ first ++ last ∷ []))
last_cases [] = inl refl
last_cases (x ∷ xs) = elim (last_cases xs) [
  | inl none ↦ inr ([], x, ap (λ ys. x ∷ ys) none)
  | inr p ↦ inr (x ∷ p.0, p.1, ap (λ ys. x ∷ ys) p.2)
]

module _ (w : World) where
  -- a module has a submodule of the name
  record HasInner (above : List Text) (name : Text) : Type 0 where
    own : Text
    is : IsModule w above own
    file : Text
    of : IsFileOf w own file
    key : Text
    submodule : IsSubmodule w file name key

  -- where a module stands further below, the module above has a submodule of the first name
  first_inside : (whole above rest : List Text) (name own : Text) → whole ≡ above ++ name ∷ rest → IsModule w whole own → HasInner above name
  first_inside _ above rest name own e root_module = absurd (behind above e)
    where
      behind : (xs : List Text) → [] ≡ xs ++ name ∷ rest → ⊥
      behind [] e = cc e
      behind (x ∷ xs) e = cc e
  first_inside _ above rest name key e (inside_module {path = path} {own = own} {file = file} {name = last} m f s) = by_last (last_cases rest) (λ rest' same. first_inside path above rest' name own same m)
    where
      by_last : (rest ≡ []) ⊎ ((first : List Text) × (last : Text) × (rest ≡ first ++ last ∷ [])) → ((rest' : List Text) → path ≡ above ++ name ∷ rest' → HasInner above name) → HasInner above name
      by_last cases further = elim cases [
        | inl none ↦
            let p = snoc_same path above last name (e ∙ ap (λ r. above ++ name ∷ r) none) in
            record { own = own; is = subst (λ q. IsModule w q own) p.0 m; file = file; of = f; key = key; submodule = subst (λ n. IsSubmodule w file n key) p.1 s }
        | inr p ↦ further p.0 (snoc_same path (above ++ name ∷ p.0) last p.1 (e ∙ ap (λ r. above ++ name ∷ r) p.2 ∙ sym (append_assoc above (name ∷ p.0) (p.1 ∷ [])))).0
      ]

nowhere : (compilation : Compilation) (names : List Text) → variable_from compilation None names ≡ None
nowhere compilation [] = refl
nowhere compilation (name ∷ []) = refl
nowhere compilation (name ∷ other ∷ names) = nowhere compilation (other ∷ names)

module _ (w : World) (compilation : Compilation) (is : IsOfWorld w compilation) (single : AreSingle w compilation) where
  abbrev HasPathOf : ℕ → List Text → Type 0
  HasPathOf k path = HasPath w (views w compilation) (nodes w compilation) k path

  -- names lead from the module at a path to the place
  abbrev IsFrom : List Text → List Text → Option Place → Type 0
  IsFrom above names (Some place) = LeadsToVariable w compilation (above ++ names) place
  IsFrom above names None = (path : List Text) (own name : Text) → names ≡ path ++ name ∷ [] → IsModule w (above ++ path) own → IsDefined w own a_variable name → ⊥

  module _ (k : ℕ) (node : ModuleNode) (here : HasNode w compilation k node) (above : List Text) (has : HasPathOf k above) where
    -- a name alone
    from_name : (name : Text) (o : Option Place) → IsKept w compilation is k node here name o → IsFrom above (name ∷ []) o
    from_name name (Some place) h = record { path = above; name = name; whole = refl; k = k; node = node; here = here; has_path = has; is = module_at w compilation is k node above here has; keeps = h }
    from_name name None none = λ path own last e m d.
        let p = snoc_same path [] last name (sym e) in
        let nothing : above ++ path ≡ above = ap (λ q. above ++ q) p.0 ∙ append-nil above in
        let same = one_module w compilation is single k node above here has own (subst (λ q. IsModule w q own) nothing m) in
        none (subst (λ o. IsDefined w o a_variable name) same (subst (λ n. IsDefined w own a_variable n) p.1 d))

    -- names behind that of a submodule
    from_inner : (name other : Text) (names : List Text) (o : Option Place) → IsFrom (above ++ name ∷ []) (other ∷ names) o → IsFrom above (name ∷ other ∷ names) o
    from_inner name other names (Some place) h = subst (λ ns. LeadsToVariable w compilation ns place) (append_assoc above (name ∷ []) (other ∷ names)) h
    from_inner name other names None none = by_path
      where
        by_path : (path : List Text) (own last : Text) → name ∷ other ∷ names ≡ path ++ last ∷ [] → IsModule w (above ++ path) own → IsDefined w own a_variable last → ⊥
        by_path [] own last e m d = absurd (cc e)
        by_path (p ∷ path) own last e m d =
            let first : p ≡ name = cc e in
            let rest : other ∷ names ≡ path ++ last ∷ [] = cc e in
            none path own last rest (subst (λ q. IsModule w q own) (ap (λ n. above ++ n ∷ path) first ∙ sym (append_assoc above (name ∷ []) path)) m) d

    from_none : (name other : Text) (names : List Text) → ((file key : Text) → IsFileOf w node.source.now file → IsSubmodule w file name key → ⊥) → IsFrom above (name ∷ other ∷ names) None
    from_none name other names none = by_path
      where
        by_path : (path : List Text) (own last : Text) → name ∷ other ∷ names ≡ path ++ last ∷ [] → IsModule w (above ++ path) own → IsDefined w own a_variable last → ⊥
        by_path [] own last e m d = absurd (cc e)
        by_path (p ∷ path) own last e m d =
            let first : p ≡ name = cc e in
            let i = first_inside w (above ++ p ∷ path) above path p own refl m in
            let same = one_module w compilation is single k node above here has i.own i.is in
            none i.file i.key (subst (λ o. IsFileOf w o i.file) same i.of) (subst (λ n. IsSubmodule w i.file n i.key) first i.submodule)

  found : (names above : List Text) (k : ℕ) (node : ModuleNode) → HasNode w compilation k node → HasPathOf k above → IsFrom above names (variable_from compilation (Some k) names)
  found [] above k node here has = λ path own last e m d. snoc_empty path last e
  found (name ∷ []) above k node here has =
      subst (λ o. IsFrom above (name ∷ []) (variable_of compilation o name)) (sym here)
      (from_name k node here above has name (variable_of compilation (Some node) name) (kept_is w compilation is k node here name (variable_of compilation (Some node) name) refl))
  found (name ∷ other ∷ names) above k node here has =
      by_inner (submodule_in compilation.modules.items k name) (submodules_are_found w compilation is single k node here name)
      (λ inner submodule there path. found (other ∷ names) (above ++ name ∷ []) inner submodule there path)
    where
      by_inner : (o : Option ℕ) → IsSubmoduleOf w compilation k node name o
          → ((inner : ℕ) (submodule : ModuleNode) → HasNode w compilation inner submodule → HasPathOf inner (above ++ name ∷ []) → IsFrom (above ++ name ∷ []) (other ∷ names) (variable_from compilation (Some inner) (other ∷ names)))
          → IsFrom above (name ∷ other ∷ names) (variable_from compilation o (other ∷ names))
      by_inner (Some inner) (submodule, i) more =
          from_inner k node here above has name other names (variable_from compilation (Some inner) (other ∷ names))
          (more inner submodule i.there (path_inside w compilation is single k node here inner submodule name above i.there i.parent i.is_named has))
      by_inner None none more = subst (IsFrom above (name ∷ other ∷ names)) (sym (nowhere compilation (other ∷ names))) (from_none k node here above has name other names none)

  -- the root stands first
  root_path : HasPathOf 0 []
  root_path = let c = is.complete [] w.root root_module in at_first c.0 [] refl c.1
    where
      at_first : (k : ℕ) (path : List Text) → path ≡ [] → HasPathOf k path → HasPathOf 0 []
      at_first _ _ e (root f parent) = root f parent
      at_first _ _ e (inside {path = path} {name = name} f parent lt named above) = absurd (snoc_empty path name (sym e))

  from_root : (names : List Text) (o : Option Place) → IsFrom [] names o → IsVariableFrom w compilation names o
  from_root names (Some place) h = h
  from_root names None h = h

pub variables_are_found : VariablesAreFound
variables_are_found w compilation is single names =
    let n = node_of w compilation is 0 [] (root_path w compilation is single) in
    from_root w compilation is single names (variable_from compilation (Some 0) names) (found w compilation is single names [] 0 n.0 n.1 (root_path w compilation is single))
