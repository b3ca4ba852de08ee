-- A setting is read where it is spelled, and only there.
use Rattle.std.proofs.Common.{◌≡◌, ℕ, List, map, Ok, Option, Some, None, refl, inl, inr, ◌⊎◌}
use Rattle.just_text.specs.Tokens.{Word}
use Rattle.just_text.specs.declared.token_kind.TokenKind.TheVariants.{ColonEquals, Identifier}
use Rattle.tree_attributes.specs.declared.item_kind.ItemKind.TheVariants.{Set}
use Rattle.tree_attributes.specs.Settings.{ValueShape, SetShape}
use Rattle.parse_expressions.specs.Words.{Begins, Mark, Lacks}
use Rattle.parse_expressions.specs.Literals.{Expansion}
use Rattle.parse_expressions.specs.Laws.{Exactly}
use Rattle.parse_expressions.specs.Reading.{accept, expect}
use Rattle.parse_expressions.proofs.Taken.{bind_ok, inspect, turned, ok_is, expect_is, taken}
use Rattle.parse_expressions.specs.LineEnds.{IsEol}
use Rattle.parse_recipes.specs.Laws.{EolsExactly}
use Rattle.parse_expressions.proofs.TokensTaken.{Reads}
use Rattle.parse_items.specs.Keywords.{set_keyword}
use Rattle.parse_items.specs.Reading.{kind_at}
use Rattle.semver.specs.declared.Version.{Version as SemanticVersion}
use Rattle.parse_items.specs.declared.form.Form.{Form}
use Rattle.parse_items.specs.Names.{form_named}
use Rattle.parse_items.specs.Settings.{IsValue, IsSet}
use Rattle.parse_items.specs.SettingReading.{known_at, set_at}
use Rattle.parse_items.specs.SettingLaws.{SetsExactly}
use Rattle.parse_items.proofs.SetWords.{GoesOn, first_word, set_told}
use Rattle.parse_items.proofs.SetValues.{value_first, value_found, value_again}

module _ {T : Type 0} (word : T → Word) (expansion : Expansion) (expressions : Exactly word expansion 256 6) (ends : EolsExactly word) (current : SemanticVersion) where
  -- ---- what is read

  -- where a setting begins its first word is taken
  set_taken : (ts : List T) (p : T × List T) → kind_at word ts ≡ Set → expect word Identifier ts ≡ Ok p → Begins Identifier set_keyword (map word ts) (map word p.1)
  unfolding expect
  set_taken ts p k h =
      elim (inspect (accept word Identifier ts)) [
        | inl w ↦ let q = rw w at h in absurd cc
        | inr w ↦
            let same = ok_is w.0 p (rw w.1 at h) in
            let says = first_word word ts k w.0 w.1 in
            rw (rw same at says) at (expect_is word Identifier ts p h)
      ]

  -- a value of the form that the name has
  record IsKnown (name : List ℕ) (form : Option Form) (v : ValueShape) (ws rest : List Word) : Type 0 where
    is : Form
    known : form ≡ Some is
    value : IsValue expansion current is v ws rest

  known_found : (t : T) (form : Option Form) (ts : List T) (p : ValueShape × List T) → known_at word expansion current t form ts ≡ Ok p → IsKnown (word t).text form p.0 (map word ts) (map word p.1)
  unfolding known_at
  known_found t None ts p h = absurd cc
  known_found t (Some form) ts p h = record { is = form; known = refl; value = value_found word expansion expressions current (word t).text form ts p h }

  set_found : (ts : List T) (p : SetShape × List T) → kind_at word ts ≡ Set → set_at word expansion current ts ≡ Ok p → IsSet expansion current p.0 (map word ts) (map word p.1)
  unfolding set_at
  set_found ts p kind h =
      let k = bind_ok _ _ p h in
      let n = bind_ok _ _ p k.2 in
      let v = bind_ok _ _ p n.2 in
      let rest = bind_ok _ _ p v.2 in
      let i = known_found n.0.0 (form_named (word n.0.0).text) n.0.1 v.0 v.1 in
      turned (λ (z : SetShape × List T). IsSet expansion current z.0 (map word ts) (map word z.1)) (record { name = (word n.0.0).text; value = v.0.0 }, rest.0) p rest.2
      (record {
        form = i.is;
        behind_set = map word k.0.1;
        behind_name = map word n.0.1;
        behind_value = map word v.0.1;
        set = set_taken ts k.0 kind k.1;
        name = expect_is word Identifier k.0.1 n.0 n.1;
        known = i.known;
        value = i.value;
        eol = ends.found v.0.1 rest.0 rest.1;
      })

  -- ---- what is spelled

  known_again : (t : T) (form : Form) (v : ValueShape) (ts : List T) (ws : List Word) → IsValue expansion current form v (map word ts) ws → Reads word (known_at word expansion current t (Some form) ts) v ws
  unfolding known_at
  known_again t form v ts ws i = let r = value_again word expansion expressions current (word t).text form v ts ws i in record { rest = r.rest; is = r.is; others = r.others }

  set_again : (s : SetShape) (ts : List T) (ws : List Word) → IsSet expansion current s (map word ts) ws → Reads word (set_at word expansion current ts) s ws
  unfolding set_at
  set_again s ts ws i =
      let k = taken word Identifier set_keyword ts i.behind_set i.set in
      let n = taken word Identifier s.name k.rest i.behind_name (rw k.others i.name) in
      let v = known_again n.token i.form s.value n.rest i.behind_value (rw n.others i.value) in
      let e = ends.only v.rest ws (rw v.others i.eol) in
      record { rest = e.0; is = rw (k.expects, n.expects, n.says, i.known, v.is, e.1) (refl {a = Ok (s, e.0)}); others = e.2 }

  -- ---- how it is told

  goes_on : (ws a rest : List Word) → ((b : List Word) × Mark ColonEquals ws b) ⊎ ((ws ≡ a) × Lacks ColonEquals ws) → IsEol a rest → GoesOn word ws
  goes_on ws a rest (inl m) e = inl m
  goes_on ws a rest (inr l) e = inr (l.1, (rest, rw l.0 e))

  told : (s : SetShape) (ts : List T) (ws : List Word) → IsSet expansion current s (map word ts) ws → kind_at word ts ≡ Set
  told s ts ws i =
      set_told word ends s.name ts i.behind_set i.behind_name i.set i.name
      (goes_on i.behind_name i.behind_value ws (value_first expansion current i.form s.value i.behind_name i.behind_value i.value) i.eol)

  pub sets_exactly : SetsExactly word expansion current
  sets_exactly = record {
    found = λ ts rest s k h. set_found ts (s, rest) k h;
    only = λ ts rest s i. let r = set_again s ts rest i in (r.rest, r.is, r.others);
    told = λ ts rest s i. told s ts rest i;
  }
