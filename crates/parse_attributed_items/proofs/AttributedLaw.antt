-- Items with their attributes are read where they are spelled, and only there.
use Rattle.std.proofs.Common.{◌≡◌, ℕ, true, List, map, Result, Ok, Err, Option, Some, None, refl, sym, ap, subst, ◌∙◌, inl, inr}
use Rattle.just_text.specs.Tokens.{Word}
use Rattle.just_text.specs.declared.compile_error.CompileErrorKind.{CompileErrorKind}
use Rattle.tree_attributes.specs.declared.item_kind.ItemKind.{ItemKind}
use Rattle.tree_attributes.specs.Attributes.{AttributeShape}
use Rattle.tree_attributes.specs.Sets.Order.{in_order}
use Rattle.tree_items.specs.Files.{ItemShape}
use Rattle.parse_expressions.specs.Literals.{Expansion}
use Rattle.parse_expressions.specs.Reading.{Stop}
use Rattle.parse_expressions.proofs.Taken.{bind_ok, test, turned, ok_is}
use Rattle.parse_attributes.specs.Laws.{AttributesExactly}
use Rattle.parse_attributes.specs.Reading.{attributes_at}
use Rattle.parse_recipes.specs.Laws.{RecipesExactly}
use Rattle.parse_items.specs.Laws.{ItemsExactly}
use Rattle.parse_items.specs.Reading.{kind_at}
use Rattle.parse_items.specs.SettingLaws.{SetsExactly}
use Rattle.semver.specs.declared.Version.{Version}
use Rattle.parse_attributed_items.specs.Bare.{bare_of}
use Rattle.parse_attributed_items.specs.Fitting.{fault_in, known, may_stand, with_attributes}
use Rattle.parse_attributed_items.specs.Halting.{Halt, or_stopped, unless_broken}
use Rattle.parse_attributed_items.specs.Items.{IsAttributed}
use Rattle.parse_attributed_items.specs.Laws.{AttributedExactly}
use Rattle.parse_attributed_items.specs.Reading.{Parts, joined, bare_behind, parts_at, attributed_at}
use Rattle.parse_attributed_items.proofs.FitLaw.{all_known, stand_alike, free, fits, no_fault}
use Rattle.parse_attributed_items.proofs.BareLaw.{bare_found, bare_again}

-- ---- steps

-- where something is read it is read without the rules too
not_stopped : {A T : Type 0} (r : Result A (Stop T)) (x : A) → or_stopped r ≡ Ok x → r ≡ Ok x
not_stopped {A = A} {T = T} (Ok y) x h = ap Ok (ok_is {A = A} {E = Halt T} y x h)
not_stopped (Err stop) x h = absurd cc

-- and then no rule is broken
not_broken : {A T : Type 0} (fault : Option CompileErrorKind) (x y : A) → unless_broken {A = A} {T = T} fault x ≡ Ok y → (fault ≡ None) × (x ≡ y)
not_broken {A = A} {T = T} None x y h = (refl, ok_is {A = A} {E = Halt T} x y h)
not_broken (Some kind) x y h = absurd cc

module _ {T : Type 0} (word : T → Word) (expansion : Expansion) (current : Version) (attributes : AttributesExactly word expansion) (recipes : RecipesExactly word expansion) (items : ItemsExactly word expansion) (sets : SetsExactly word expansion current) where
  -- ---- what is read

  -- an item that may stand after these attributes
  record Behind (as' : List (Option AttributeShape)) (kind : ItemKind) (ts : List T) (y : (ItemShape × ℕ) × List T) : Type 0 where
    stand : may_stand as' kind ≡ true
    is : bare_of word expansion current kind ts ≡ Ok y

  behind_found : (as' : List (Option AttributeShape)) (kind : ItemKind) (ts : List T) (y : (ItemShape × ℕ) × List T) → bare_behind word expansion current as' kind ts ≡ Ok y → Behind as' kind ts y
  behind_found as' kind ts y h =
      elim (test (may_stand as' kind)) [
        | inl w ↦ record { stand = w; is = rw w at h }
        | inr w ↦ let q = rw w at h in absurd cc
      ]

  joined_found : (ts : List T) (a : List (Option AttributeShape) × List T) (i : (ItemShape × ℕ) × List T) → attributes_at word expansion ts ≡ Ok a → bare_behind word expansion current a.0 (kind_at word a.1) a.1 ≡ Ok i
      → fault_in expansion a.0 i.0.0 ≡ None → IsAttributed expansion current (with_attributes (in_order (known a.0)) i.0.0) i.0.1 (map word ts) (map word i.1)
  joined_found ts a i h g sound =
      let f = free expansion a.0 i.0.0 sound in
      let b = behind_found a.0 (kind_at word a.1) a.1 i g in
      let s = bare_found word expansion current recipes items sets a.1 i b.is in
      let all = subst (λ (os : List (Option AttributeShape)). may_stand os (kind_at word a.1) ≡ true) f.each b.stand in
      let stand = sym (stand_alike (known a.0) (kind_at word a.1)) ∙ all in
      let lines = subst (λ (os : List (Option AttributeShape)). attributes_at word expansion ts ≡ Ok (os, a.1)) f.each h in
      record {
        attributes = known a.0;
        bare = i.0.0;
        behind = map word a.1;
        lines = attributes.found ts a.1 (known a.0) lines;
        item = s.0;
        fit = fits expansion (known a.0) i.0.0 (subst (λ (k : ItemKind). may_stand (known a.0) k ≡ true) s.1 stand) f.before;
        whole = refl;
      }

  parts_found : (ts : List T) (p : Parts × List T) → parts_at word expansion current ts ≡ Ok p → fault_in expansion p.0.attributes p.0.item ≡ None → IsAttributed expansion current (joined p.0) p.0.blanks (map word ts) (map word p.1)
  unfolding parts_at
  parts_found ts p h =
      let a = bind_ok (attributes_at word expansion ts) _ p h in
      let i = bind_ok (bare_behind word expansion current a.0.0 (kind_at word a.0.1) a.0.1) _ p a.2 in
      turned (λ (z : Parts × List T). fault_in expansion z.0.attributes z.0.item ≡ None → IsAttributed expansion current (joined z.0) z.0.blanks (map word ts) (map word z.1))
      (record { attributes = a.0.0; item = i.0.0.0; blanks = i.0.0.1 }, i.0.1) p i.2 (joined_found ts a.0 i.0 a.1 i.1)

  found : (ts : List T) (y : (ItemShape × ℕ) × List T) → attributed_at word expansion current ts ≡ Ok y → IsAttributed expansion current y.0.0 y.0.1 (map word ts) (map word y.1)
  unfolding attributed_at
  found ts y h =
      let p = bind_ok (or_stopped (parts_at word expansion current ts)) _ y h in
      let u = not_broken {T = T} (fault_in expansion p.0.0.attributes p.0.0.item) ((joined p.0.0, p.0.0.blanks), p.0.1) y p.2 in
      let is = parts_found ts p.0 (not_stopped (parts_at word expansion current ts) p.0 p.1) u.0 in
      subst (λ (z : (ItemShape × ℕ) × List T). IsAttributed expansion current z.0.0 z.0.1 (map word ts) (map word z.1)) u.1 is

  -- ---- what is spelled

  parts_again : (ts : List T) (ws : List Word) (i : ItemShape) (blanks : ℕ) (h : IsAttributed expansion current i blanks (map word ts) ws)
      → (behind : List T) × (parts_at word expansion current ts ≡ Ok (record { attributes = map Some h.attributes; item = h.bare; blanks = blanks }, behind)) × (map word behind ≡ ws)
  unfolding parts_at
  parts_again ts ws i blanks h =
      let a = attributes.only ts h.behind h.attributes h.lines in
      let b = bare_again word expansion current recipes items sets h.bare blanks a.0 ws (rw a.2 h.item) in
      let may : may_stand h.attributes (kind_at word a.0) ≡ true = rw b.kind h.fit.stand in
      let stand = stand_alike h.attributes (kind_at word a.0) ∙ may in
      (b.rest, rw (a.1, stand, b.is) refl, b.others)

  again : (ts : List T) (ws : List Word) (i : ItemShape) (blanks : ℕ) → IsAttributed expansion current i blanks (map word ts) ws → (behind : List T) × (attributed_at word expansion current ts ≡ Ok ((i, blanks), behind)) × (map word behind ≡ ws)
  unfolding attributed_at
  again ts ws i blanks h =
      let p = parts_again ts ws i blanks h in
      (p.0, rw (p.1, no_fault expansion h.attributes h.bare h.fit, all_known h.attributes) (ap (λ (z : ItemShape). Ok ((z, blanks), p.0)) (sym h.whole)), p.2)

  pub attributed_exactly : AttributedExactly word expansion current
  attributed_exactly = record { found = λ ts rest i blanks h. found ts ((i, blanks), rest) h; only = λ ts rest i blanks h. again ts rest i blanks h }
