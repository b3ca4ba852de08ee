-- Where no definition is a second one: definitions of one name are of one kind, and what may stand alone is kept.
use Rattle.std.proofs.Common.{◌≡◌, ◌≢◌, ◌⊎◌, inl, inr, sym, ◌∙◌, ap, Bool, true, false, ◌&&◌, List, ℕ, suc, ◌<◌, Some, refl, arith}
use Rattle.std.specs.Prelude.{Contains, slice_get}
use Rattle.std.proofs.lemmas.Bool.Decides.{eqb_tells, leb_tells}
use Rattle.std.proofs.lemmas.Option.{same_Some}
use Rattle.modules_definitions.specs.Defining.{space_of as found_space}
use Rattle.modules_definitions.specs.Keeping.{IsDuplicate, IsKept, ShareName, may_both, may_repeat}
use Rattle.modules_definitions.specs.declared.definition.Definition.{Definition}
use Rattle.modules_definitions.specs.declared.keep.Allowed.{Allowed}
use Rattle.modules_definitions.proofs.Elements.{place_of}
use Rattle.modules_definitions.proofs.Orders.{share_back}
use Rattle.meaning_rules.specs.Worlds.Keeping.{a_recipe, a_variable, recipes, variables}
use Rattle.laws_modules.specs.Definitions.Kinds.{kind_of}
use Rattle.laws_modules.specs.Definitions.Laws.{AreOfOneKind, SingleAreOfOneKind}
use Rattle.laws_modules.proofs.Definitions.Spaces.{repeats, spaces_back}

true_or_false : (b : Bool) → (b ≡ false → ⊥) → b ≡ true
true_or_false true none = refl
true_or_false false none = absurd (none refl)

pub both_true : (a b : Bool) → (a && b) ≡ true → (a ≡ true) × (b ≡ true)
both_true true b e = (refl, e)
both_true false b e = absurd (cc e)

pub one_false : (a b : Bool) → a ≡ false → (a && b) ≡ false
one_false true b e = absurd (cc e)
one_false false b e = refl

pub other_false : (a b : Bool) → b ≡ false → (a && b) ≡ false
other_false true b e = e
other_false false b e = refl

pub by_side : (i j : ℕ) → i ≢ j → (i < j) ⊎ (j < i)
by_side i j ne = elim (leb_tells (suc i) j) [ inl p ↦ inl p.1 | inr p ↦ let q = p.1 in inr (omega (arith, q, ne)) ]

module _ (allowed : Allowed) (ds : List Definition) (single : (second : Definition) → IsDuplicate allowed ds second → ⊥) where
  -- two of a name at two places may both repeat
  both_repeat : (i j : ℕ) (a b : Definition) → slice_get ds i ≡ Some a → slice_get ds j ≡ Some b → i ≢ j → ShareName a b → (may_repeat allowed a.kind ≡ true) × (may_repeat allowed b.kind ≡ true)
  both_repeat i j a b e f ne s = elim (by_side i j ne) [
    | inl lt ↦ both_true (may_repeat allowed a.kind) (may_repeat allowed b.kind) (true_or_false (may_both allowed a b) (λ off. single b (record { first = a; i = i; j = j; before = lt; found = e; is = f; shared = s; forbidden = off })))
    | inr lt ↦
        let may = true_or_false (may_both allowed b a) (λ off. single a (record { first = b; i = j; j = i; before = lt; found = f; is = e; shared = share_back a b s; forbidden = off })) in
        let p = both_true (may_repeat allowed b.kind) (may_repeat allowed a.kind) may in
        (p.1, p.0)
  ]

  pub of_one_kind : ((d : Definition) → Contains ds d → d.space ≡ found_space d.kind) → AreOfOneKind ds
  of_one_kind spaces a b ca cb s =
      let p = place_of ds a ca in
      let q = place_of ds b cb in
      elim (eqb_tells p.0 q.0) [
        | inl same ↦ ap (λ (d : Definition). kind_of d.kind) (same_Some a b (sym p.1 ∙ ap (slice_get ds) same.1 ∙ q.1))
        | inr other ↦
            let r = both_repeat p.0 q.0 a b p.1 q.1 other.1 s in
            let space = sym (spaces a ca) ∙ s.space ∙ spaces b cb in
            elim (repeats allowed a.kind r.0) [
              | inl x ↦ elim (repeats allowed b.kind r.1) [
                | inl y ↦ x.0 ∙ sym y.0
                | inr y ↦ absurd (let no_space : recipes ≡ variables = spaces_back a.kind b.kind a_recipe a_variable x.0 y.0 space in cc no_space)
              ]
              | inr x ↦ elim (repeats allowed b.kind r.1) [
                | inl y ↦ absurd (let no_space : variables ≡ recipes = spaces_back a.kind b.kind a_variable a_recipe x.0 y.0 space in cc no_space)
                | inr y ↦ x.0 ∙ sym y.0
              ]
            ]
      ]

  -- what may not repeat stands alone, and is kept
  pub alone_kept : (d : Definition) → Contains ds d → may_repeat allowed d.kind ≡ false → IsKept ds d
  alone_kept d c off =
      let p = place_of ds d c in
      record {
        at = p.0;
        found = p.1;
        first = λ e ce s. let q = place_of ds e ce in let one = only p.0 q.0 e p.1 q.1 s in let files = ap (λ (x : Definition). x.place.file) (same_Some d e (sym p.1 ∙ ap (slice_get ds) (sym one) ∙ q.1)) in omega (arith, files);
        last = λ j e f s same. let one = only p.0 j e p.1 f s in omega (arith, one);
      }
    where
      only : (i j : ℕ) (e : Definition) → slice_get ds i ≡ Some d → slice_get ds j ≡ Some e → ShareName e d → j ≡ i
      only i j e f g s = elim (eqb_tells j i) [
        | inl same ↦ same.1
        | inr other ↦ let r = both_repeat j i e d g f other.1 s in absurd (let f : true ≡ false = sym r.1 ∙ off in cc f)
      ]

pub single_are_of_one_kind : SingleAreOfOneKind
single_are_of_one_kind w os files modules k node ds allowed found single = of_one_kind allowed ds single (λ d c. (found.are.sound d c).1.space_is)
