-- A path leads to one module, where no rule is broken.
use Rattle.std.proofs.Common.{◌≡◌, ◌≢◌, ◌⊎◌, inl, inr, sym, ◌∙◌, ap, subst, Bool, true, false, if◌then◌else◌, List, [], ◌∷◌, ◌++◌, append_assoc, append-nil, ℕ, Option, Some, None, refl, true≢false}
use Rattle.std.specs.Prelude.{slice_get}
use Rattle.std.specs.Str.{bytes_eq}
use Rattle.std.proofs.lemmas.Bool.Decides.{eqb_tells}
use Rattle.std.proofs.lemmas.Option.{same_Some}
use Rattle.std.proofs.lemmas.Slice.Eq.{bytes_eq-Decides}
use Rattle.tree_items.specs.Files.{ItemShape, module_item}
use Rattle.meaning_rules.specs.Worlds.Given.{Text, World, Overrides}
use Rattle.meaning_rules.specs.Worlds.Sources.{Has, IsFileOf, IsSubmodule, MayMean}
use Rattle.meaning_rules.specs.Worlds.Modules.{IsModule, root as root_module, inside as inside_module}
use Rattle.meaning_rules.specs.Worlds.Keeping.{Defines, IsTwice, Kind, MayBoth, a_submodule, both_recipes, both_variables}
use Rattle.meaning_rules.specs.Depending.{LeadsTo, here, into}
use Rattle.meaning_rules.specs.Rules.{redefinition}
use Rattle.just_meaning.specs.Known.{BreaksNoRule, IsRead}

-- ---- a submodule of a name

abbrev said : Kind → Text → Option (Kind × Text)
said kind text = Some (kind, text)

module _ (w : World) (own name : Text) where
  defines_module : (file key : Text) → IsFileOf w own file → (s : IsSubmodule w file name key) → Defines w own a_submodule name file s.place (module_item s.has.attributes s.line)
  defines_module file key of s = record {
    of = of;
    has = s.has.has;
    is = ap (λ (b : Bool). if b then said a_submodule s.line.name else None) s.has.enabled ∙ ap (said a_submodule) s.is_named;
    taken = (key, s.means);
  }

  never_both : {kind kind' : Kind} → MayBoth w own kind kind' → kind' ≡ a_submodule → ⊥
  never_both (both_recipes on) e = absurd (cc e)
  never_both (both_variables on) e = absurd (cc e)

  one_item : (key : Text) (place : ℕ) (a b : ItemShape) → Has w key place a → Has w key place b → a ≡ b
  one_item key place a b h k =
      let items : h.items ≡ k.items = same_Some h.items k.items (sym h.says ∙ k.says) in
      same_Some a b (sym h.at ∙ ap (λ xs. slice_get xs place) items ∙ k.at)

  one_submodule : (IsTwice w own a_submodule name → ⊥) → (file file' key key' : Text) → IsFileOf w own file → IsFileOf w own file' → IsSubmodule w file name key → IsSubmodule w file' name key' → key ≡ key'
  one_submodule single file file' key key' of of' s t = elim (eqb_tells s.place t.place) [
    | inl p ↦ elim (bytes_eq-tells file file') [
      | inl q ↦ same p.1 q
      | inr q ↦ absurd (twice (inl q))
    ]
    | inr p ↦ absurd (twice (inr p.1))
  ]
    where
      bytes_eq-tells : (a b : Text) → (a ≡ b) ⊎ (a ≢ b)
      bytes_eq-tells a b = by_test (bytes_eq a b) refl
        where
          by_test : (c : Bool) → bytes_eq a b ≡ c → (a ≡ b) ⊎ (a ≢ b)
          by_test true e = inl ((bytes_eq-Decides a b).0 e)
          by_test false e = inr (λ same. true≢false (sym ((bytes_eq-Decides a b).1 same) ∙ e))

      twice : (file ≢ file') ⊎ (s.place ≢ t.place) → ⊥
      twice others = single (record {
        key = file;
        place = s.place;
        item = module_item s.has.attributes s.line;
        defines = defines_module file key of s;
        kind' = a_submodule;
        key' = file';
        place' = t.place;
        item' = module_item t.has.attributes t.line;
        defines' = defines_module file' key' of' t;
        spaces = refl;
        others = others;
        forbidden = λ may. never_both may refl;
      })

      same : s.place ≡ t.place → file ≡ file' → key ≡ key'
      same places files =
          let there = subst (λ f. Has w f t.place (module_item s.has.attributes s.line)) files (subst (λ n. Has w file n (module_item s.has.attributes s.line)) places s.has.has) in
          let items = one_item file' t.place (module_item s.has.attributes s.line) (module_item t.has.attributes t.line) there t.has.has in
          let lines : s.line ≡ t.line = cc items in
          let means = subst (λ l. MayMean w file' l key) lines (subst (λ f. MayMean w f s.line key) files s.means) in
          t.alone key means

-- ---- modules by their paths

snoc_empty : {A : Type 0} (path : List A) (name : A) → [] ≡ path ++ name ∷ [] → ⊥
snoc_empty [] name e = absurd (cc e)
snoc_empty (x ∷ path) name e = absurd (cc e)

snoc_same : {A : Type 0} (path path' : List A) (name name' : A) → path ++ name ∷ [] ≡ path' ++ name' ∷ [] → (path ≡ path') × (name ≡ name')
snoc_same [] [] name name' e = let same : name ≡ name' = cc e in (refl, same)
snoc_same [] (y ∷ path') name name' e = let none : [] ≡ path' ++ name' ∷ [] = cc e in absurd (snoc_empty path' name' none)
snoc_same (x ∷ path) [] name name' e = let none : path ++ name ∷ [] ≡ [] = cc e in absurd (snoc_empty path name (sym none))
snoc_same (x ∷ path) (y ∷ path') name name' e =
    let first : x ≡ y = cc e in
    let others : path ++ name ∷ [] ≡ path' ++ name' ∷ [] = cc e in
    let r = snoc_same path path' name name' others in
    (ap (λ z. z ∷ path) first ∙ ap (λ p. y ∷ p) r.0, r.1)

record IsBelow (w : World) (path : List Text) (name key : Text) : Type 0 where
  pub own : Text
  pub is : IsModule w path own
  pub file : Text
  pub of : IsFileOf w own file
  pub submodule : IsSubmodule w file name key

is_below : (w : World) (whole path : List Text) (name key : Text) → whole ≡ path ++ name ∷ [] → IsModule w whole key → IsBelow w path name key
is_below w _ path name key e root_module = absurd (snoc_empty path name e)
is_below w _ path name key e (inside_module {path = path'} {own = own} {file = file} {name = name'} m f s) =
    let p = snoc_same path' path name' name e in
    record { own = own; is = subst (λ q. IsModule w q own) p.0 m; file = file; of = f; submodule = subst (λ n. IsSubmodule w file n key) p.1 s }

is_root : (w : World) (path : List Text) (key : Text) → [] ≡ path → IsModule w path key → key ≡ w.root
is_root w _ key e root_module = refl
is_root w _ key e (inside_module {path = path} {name = name} m f s) = absurd (snoc_empty path name e)

-- names of submodules lead to a module
pub leads_module : (w : World) (path : List Text) (own : Text) → IsModule w path own → (names : List Text) (key : Text) → LeadsTo w own names key → IsModule w (path ++ names) key
leads_module w path own is [] key here = subst (λ p. IsModule w p own) (sym (append-nil path)) is
leads_module w path own is (name ∷ names) key (into {inner = inner} f s l) =
    subst (λ p. IsModule w p key) (append_assoc path (name ∷ []) names) (leads_module w (path ++ name ∷ []) inner (inside_module is f s) names key l)

module _ (w : World) (o : Overrides) (unbroken : BreaksNoRule w o) (read : IsRead w) where
  never_twice : (path : List Text) (own name : Text) → IsModule w path own → IsTwice w own a_submodule name → ⊥
  never_twice path own name is twice = unbroken (redefinition name) (record { said = λ e. read.said; breaks = inr (inr (inr (own, (path, is), twice))) })

  -- A path leads to one module.
  pub one_module : (path : List Text) (a b : Text) → IsModule w path a → IsModule w path b → a ≡ b
  one_module _ a b root_module other = sym (is_root w [] b refl other)
  one_module _ a b (inside_module {path = path} {own = own} {file = file} {name = name} m f s) other =
      let p = is_below w (path ++ name ∷ []) path name b refl other in
      let same : own ≡ p.own = one_module path own p.own m p.is in
      one_submodule w p.own name (never_twice path p.own name p.is) file p.file a b (subst (λ x. IsFileOf w x file) same f) p.of s p.submodule
