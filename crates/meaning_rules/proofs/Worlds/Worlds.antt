-- Worlds that stand for one call.
use Rattle.std.proofs.Common.{◌≡◌, inl, inr, sym, ◌∙◌, ap, subst, Option, Some, None, List, ℕ, refl}
use Rattle.std.specs.Prelude.{Ok}
use Rattle.tree_expressions.specs.Cooking.{cooked}
use Rattle.tree_items.specs.Files.{ItemShape, import_item, module_item}
use Rattle.tree_items.specs.Items.{ModuleShape}
use Rattle.meaning_rules.specs.Worlds.Given.{Text, Given, World}
use Rattle.meaning_rules.specs.Worlds.Sources.{Has, Imports, IsSubmodule, May, MayMean, Reached, enabled, root, imported, submodule}
use Rattle.meaning_rules.specs.Worlds.Standing.{StandsFor, UnseenIsUnsaid, WorldsAgree}

option_same : {X : Type 0} (a b : Option X) → ((x : X) → a ≡ Some x → b ≡ Some x) → ((x : X) → b ≡ Some x → a ≡ Some x) → a ≡ b
option_same None None f g = refl
option_same None (Some y) f g = g y refl
option_same (Some x) b f g = sym (f x refl)

pub unseen_is_unsaid : UnseenIsUnsaid
unseen_is_unsaid given other w d s = record {
  same_os = s.same_os ∙ d.same_os;
  same_unstable = s.same_unstable ∙ d.same_unstable;
  same_expansion = s.same_expansion ∙ d.same_expansion;
  same_root = s.same_root ∙ d.same_root;
  there = λ key. s.there key ∙ d.there key;
  said = λ key r items. (λ e. (d.said key r items).0 ((s.said key r items).0 e), λ h. (s.said key r items).1 ((d.said key r items).1 h));
  refused = λ key r kind. (λ e. (d.refused key r kind).0 ((s.refused key r kind).0 e), λ h. (s.refused key r kind).1 ((d.refused key r kind).1 h));
}

-- ---- from one world to another with the same files, where one file says the same

abbrev Writes_in : World → Text → Text → Type 0
Writes_in w string path = cooked w.expansion string ≡ Ok path

module _ (w v : World) (expansions : w.expansion ≡ v.expansion) (there : (key : Text) → w.there key ≡ v.there key) where
  writes : (string path : Text) → Writes_in w string path → Writes_in v string path
  writes string path e = ap (λ x. cooked x string) (sym expansions) ∙ e

  may : (file : Text) (m : ModuleShape) (string : Option Text) (key : Text) → May w file m string key → May v file m string key
  may file m None key h = h
  may file m (Some string) key h = (
    h.0,
    writes string h.0 h.1,
    elim h.2 [
      | inl e ↦ inl e
      | inr p ↦ inr (λ k e. sym (there k) ∙ p.0 k e, p.1)
    ],
  )

  may_mean : (file : Text) (m : ModuleShape) (key : Text) → MayMean w file m key → MayMean v file m key
  may_mean file m key h = record { there = sym (there key) ∙ h.there; named = may file m m.path key h.named }

  has : (file : Text) → ((items : List ItemShape) → w.said file ≡ Some items → v.said file ≡ Some items) → (place : ℕ) (item : ItemShape) → Has w file place item → Has v file place item
  has file says place item h = record { items = h.items; says = says h.items h.says; at = h.at }

  imports : (file other : Text) → ((items : List ItemShape) → w.said file ≡ Some items → v.said file ≡ Some items) → Imports w file other → Imports v file other
  imports file other says i = record {
    place = i.place;
    optional = i.optional;
    path = i.path;
    line = record { line = i.line.line; has = has file says i.place (import_item i.line.line) i.line.has; is_optional = i.line.is_optional; written = writes i.line.line.path i.path i.line.written };
    names = i.names;
    there = sym (there other) ∙ i.there;
  }

submodules : (w v : World) (expansions : w.expansion ≡ v.expansion) (there : (key : Text) → w.there key ≡ v.there key) (same_os : w.os ≡ v.os) (file name other : Text)
    → ((items : List ItemShape) → w.said file ≡ Some items → v.said file ≡ Some items) → IsSubmodule w file name other → IsSubmodule v file name other
submodules w v expansions there same_os file name other says s = record {
  place = s.place;
  line = s.line;
  has = record {
    attributes = s.has.attributes;
    has = has w v expansions there file says s.place (module_item s.has.attributes s.line) s.has.has;
    enabled = ap (λ os. enabled os s.has.attributes) (sym same_os) ∙ s.has.enabled;
  };
  is_named = s.is_named;
  means = may_mean w v expansions there file s.line other s.means;
  alone = λ key m. s.alone key (may_mean v w (sym expansions) (λ k. sym (there k)) file s.line key m);
}

module _ (given : Given) (w v : World) (s : StandsFor given w) (t : StandsFor given v) where
  expansions : w.expansion ≡ v.expansion
  expansions = s.same_expansion ∙ sym t.same_expansion

  theres : (key : Text) → w.there key ≡ v.there key
  theres key = s.there key ∙ sym (t.there key)

  says_too : (key : Text) → Reached w key → Reached v key → (items : List ItemShape) → w.said key ≡ Some items → v.said key ≡ Some items
  says_too key r q items e = (t.said key q items).1 ((s.said key r items).0 e)

  reached : (key : Text) → Reached w key → Reached v key
  reached key root = subst (Reached v) (t.same_root ∙ sym s.same_root) root
  reached key (imported {file = file} r i) =
      let q = reached file r in
      imported q (imports w v expansions theres file key (says_too file r q) i)
  reached key (submodule {file = file} {name = name} r m) =
      let q = reached file r in
      submodule q (submodules w v expansions theres (s.same_os ∙ sym t.same_os) file name key (says_too file r q) m)

pub worlds_agree : WorldsAgree
worlds_agree given w v s t = record {
  reached = reached given w v s t;
  said = λ key r. let q = reached given w v s t key r in option_same (w.said key) (v.said key) (says_too given w v s t key r q) (says_too given v w t s key q r);
}
