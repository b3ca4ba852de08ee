-- No opening ends with `internal` where what variables name stands for something; and what opens is held after it.
use Rattle.std.proofs.Common.{◌≡◌, ℕ, List, [], ◌∷◌, ◌++◌, append-nil, append_assoc, map, Bool, true, false, cond, Option, Some, None, Result, Ok, Err, inr, refl, sym, ap, ◌∙◌, subst, arith}
use Rattle.std.specs.Prelude.{Contains}
use Rattle.std.proofs.lemmas.List.{map-append}
use Rattle.std.proofs.lemmas.List.Elements.{Contains-append_right}
use Rattle.std.proofs.lemmas.Map.Made.{Contains-tail}
use Rattle.std.proofs.lemmas.Slice.Eq.{slice_eq-Decides, bytes_eq-Decides}
use Rattle.just_host.specs.declared.entry.Entry.{Entry}
use Rattle.just_host.specs.declared.job.DotenvRequest.{DotenvRequest}
use Rattle.just_host.specs.declared.job.Pair.{Pair}
use Rattle.just_value.specs.Constants.{constant_rows}
use Rattle.meaning_dialogues.specs.Faults.{Fault}
use Rattle.meaning_dialogues.specs.Dialogue.{Lookup, Variable}
use Rattle.meaning_dialogues.specs.Written.{unnumbered, term_in}
use Rattle.meaning_dialogues.proofs.Soundness.{Any}
use Rattle.meaning_evaluation.specs.Named.{VariableName, VariableRow, ModuleRow, Definitions}
use Rattle.meaning_evaluation.specs.Scopes.{Configuration, Scene, surroundings_in}
use Rattle.meaning_evaluation.specs.Requests.{OpeningFailure, opening, Requests}
use Rattle.meaning_evaluation.specs.Requests as requests
use Rattle.meaning_rules.proofs.Worlds.Places.{contains_first}
use Rattle.just_meaning.specs.Opening.{Held, Opened, Side, stands, evaluates, named, text_named, reading_in, pairs_of, side_by, side_dialogue, scene_in, opening_standing, IsOrder, Fills, all, has_value, has_none, OpensOne, not_told, opened, refused, OpensAll, none_left, one_more, fault_here, fault_later}
use Rattle.just_meaning.specs.Reading.{VariableReads}
use Rattle.just_meaning.specs.Runs.{same_path, values_at}
use Rattle.meaning_dialogues.specs.Internal.{is_internal}
use Rattle.laws_agreement.proofs.Agreement.Openings.{paths_same}
use Rattle.laws_agreement.specs.Certain.Certain.{AreCertainVariables, OpeningIsCertain}
use Rattle.laws_agreement.proofs.Certain.Dialogues.{EndsWell, dialogue_ends}
use Rattle.laws_agreement.proofs.Certain.Functions.{IsCertain, expression_proper}
use Rattle.laws_agreement.proofs.Certain.Names.{IsReadIn, IsHeld, stands_read, named_held}

module _ (c : Configuration) (defined : Definitions) (Open : VariableName → Type 0) where
  -- ---- one variable

  module _ (are : AreCertainVariables defined Open) (path : List (List ℕ)) (row : ModuleRow) (pairs : List Pair) where
    module _ (values : List Held) where
      -- the module as the next variable sees it
      abbrev scene : Scene
      scene = scene_in c defined path row pairs (pairs_of defined path values)

      -- what is read with a value in what is held
      abbrev Only : Lookup → Variable → Type 0
      Only place x = IsReadIn values x.name

      -- what a variable's right side names stands for something, and what it reads is held
      side_certain : (name : List ℕ) (r : VariableRow) → Open (named path name) → defined.override (named path name) ≡ None → defined.variable (named path name) ≡ Some r
          → ((other : List ℕ) (o : VariableRow) → defined.variable (named path other) ≡ Some o → VariableReads defined (named path name) other → Contains (map (λ h. h.name) values) other)
          → IsCertain (defined.functions path) (IsReadIn values) r.value []
      side_certain name r opens free there behind = record {
        readable = record {
          reads = λ other h. let is_read : VariableReads defined (named path name) other = record { row = r; there = there; reads = h } in
              stands_read defined path values other (λ o e. named_held values other (behind other o e is_read)) (are.names (named path name) other opens free is_read);
          fits = λ inner others other count f reached stands_there at. are.fits (named path name) r inner others other count f opens free there reached stands_there at;
        };
        builtin = λ inner others other count reached stands_there at. are.builtin (named path name) r inner others other count opens free there reached stands_there at;
      }

      -- so ends what a variable stands for
      by_side : (o : Option (List ℕ)) (v : Option VariableRow) (k : Option (List ℕ)) (side : Side) → side_by c defined path o v k ≡ Some side
          → ((r : VariableRow) → o ≡ None → v ≡ Some r → IsCertain (defined.functions path) (IsReadIn values) r.value []) → EndsWell Only Any (side_dialogue c scene side)
      by_side (Some text) v k side e go = let is : stands text ≡ side = cc in subst (λ s. EndsWell Only Any (side_dialogue c scene s)) is tt
      by_side None (Some r) k side e go =
          let is : evaluates (term_in c.expansion r.file unnumbered r.value) ≡ side = cc in
          let m = surroundings_in c scene in
          subst (λ s. EndsWell Only Any (side_dialogue c scene s)) is
          (expression_proper c.expansion (defined.functions path) (IsReadIn values) m (opening_standing scene.exported) (λ x. IsReadIn values x.name) (λ x number u. u)
          (opening_standing []) _ r.file unnumbered Only r.value [] (λ x p. p) (λ x p. p) (go r refl refl) (λ other. inr refl))
      by_side None None (Some text) side e go = let is : stands text ≡ side = cc in subst (λ s. EndsWell Only Any (side_dialogue c scene s)) is tt
      by_side None None None side e go = absurd (cc)

    -- ---- variables in order

    -- none of a module's variables ends with `internal`, in an order of them
    fills_well : (names : List (List ℕ)) → IsOrder defined Open path names → (values : List Held) (earlier later : List (List ℕ)) {old new : List Entry} (fault : Fault) → map (λ h. h.name) values ≡ earlier → names ≡ earlier ++ later
        → Fills c defined path row pairs values later old new (Err fault) → is_internal fault ≡ false
    fills_well names order values earlier [] fault have are_names filled = elim filled [ ]
    fills_well names order values earlier (name ∷ later) fault have are_names (has_value value side goes others) =
        let h : Held = record { name = name; value = value } in
        fills_well names order (values ++ h ∷ []) (earlier ++ name ∷ []) later fault (map-append (λ x. x.name) values (h ∷ []) ∙ ap (λ l. l ++ name ∷ []) have) (are_names ∙ sym (append_assoc earlier (name ∷ []) later)) others
    fills_well names order values earlier (name ∷ later) {old = old} {new = new} fault have are_names (has_none {side = side} is goes) =
        let inside : Contains names name = subst (λ l. Contains l name) (sym are_names) (Contains-append_right earlier (name ∷ later) name (contains_first name later)) in
        dialogue_ends (Only values) Any (reading_in values) (λ place x h. (h.value, h.read)) (side_dialogue c (scene values) side) old new (Err fault)
        (by_side values (defined.override (named path name)) (defined.variable (named path name)) (text_named name constant_rows) side is
        (λ r free there. side_certain values name r (order.only name inside) free there (λ other o e reads. subst (λ l. Contains l other) (sym have) (order.behind earlier name later are_names free other o e reads)))) goes

  -- ---- modules in order

  -- no request ends an opening with a fault of a variable
  never_opening : {o : Option DotenvRequest} {old new : List Entry} (r : Result (List Pair) OpeningFailure) (fault : Fault) → Requests o old new r → r ≡ Err (opening fault) → ⊥
  never_opening r fault requests.unasked e = cc
  never_opening r fault (requests.told entries) e = cc
  never_opening r fault (requests.refused entries) e = cc

  -- so opens one module
  one_well : AreCertainVariables defined Open → {path : List (List ℕ)} {old new : List Entry} (fault : Fault) → OpensOne c defined Open path old new (Err (opening fault)) → is_internal fault ≡ false
  one_well are fault (not_told inside requested) = absurd (never_opening _ fault requested refl)
  one_well are {path = path} fault (refused {row = row} {pairs = pairs} {names = names} inside requested order fills) = fills_well are path row pairs names order [] [] names fault refl refl fills

  -- so open all
  opens_well : AreCertainVariables defined Open → (paths : List (List (List ℕ))) {old new : List Entry} (fault : Fault) → OpensAll c defined Open paths old new (Err (opening fault)) → is_internal fault ≡ false
  opens_well are [] fault opens = elim opens [ ]
  opens_well are (path ∷ paths) fault (fault_here one) = one_well are fault one
  opens_well are (path ∷ paths) fault (fault_later one rest) = opens_well are paths fault rest

  -- No opening of such variables ends with `internal`.
  pub opening_certain : OpeningIsCertain c defined Open
  opening_certain paths old new fault are opens = opens_well are paths fault opens

  -- ---- what is held

  -- what is held after variables were evaluated in order: what was held, and these
  fills_names : {path : List (List ℕ)} {row : ModuleRow} {pairs : List Pair} (vs : List Held) (names : List (List ℕ)) {old new : List Entry} (values : List Held) → Fills c defined path row pairs vs names old new (Ok values)
      → map (λ h. h.name) values ≡ map (λ h. h.name) vs ++ names
  fills_names vs [] values all = sym (append-nil (map (λ h. h.name) vs))
  fills_names vs (name ∷ names) values (has_value value side goes others) =
      let h : Held = record { name = name; value = value } in
      fills_names (vs ++ h ∷ []) names values others ∙ (ap (λ l. l ++ names) (map-append (λ x. x.name) vs (h ∷ [])) ∙ append_assoc (map (λ x. x.name) vs) (name ∷ []) names)

  -- what opens in a module is held in it
  one_holds : {path : List (List ℕ)} {old new : List Entry} (o : Opened) → OpensOne c defined Open path old new (Ok o) → (o.path ≡ path) × ((name : List ℕ) → Open (named path name) → IsHeld o.values name)
  one_holds o (opened {names = names} {values = values} inside requested order fills) =
      (refl, λ name h. named_held values name (subst (λ l. Contains l name) (sym (fills_names [] names values fills)) (order.all name h)))

  -- What opens in a module of the opening is held after it.
  pub opens_hold : {paths : List (List (List ℕ))} {old new : List Entry} (os : List Opened) → OpensAll c defined Open paths old new (Ok os) → (path : List (List ℕ)) (name : List ℕ) → Contains paths path → Open (named path name)
      → IsHeld (values_at path os) name
  opens_hold [] none_left path name k h = absurd (let lt = k.1 in omega (arith, lt))
  opens_hold (o ∷ os) (one_more {path = at} {paths = others} one rest) path name k h = by_path (same_path o.path path) refl (one_holds o one) (λ i. opens_hold os rest path name i h)
    where
      by_path : (b : Bool) → same_path o.path path ≡ b → (o.path ≡ at) × ((x : List ℕ) → Open (named at x) → IsHeld o.values x) → (Contains others path → IsHeld (values_at path os) name) → IsHeld (cond b o.values (values_at path os)) name
      by_path true t here go = here.1 name (subst (λ p. Open (named p name)) (sym (paths_same o.path path t) ∙ here.0) h)
      by_path false t here go = go (Contains-tail at others path (λ e. let same : same_path o.path path ≡ true = (slice_eq-Decides bytes_eq-Decides o.path path _ refl).1 (here.0 ∙ e) in absurd (cc)) k)
