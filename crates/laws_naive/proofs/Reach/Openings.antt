-- An opening by the one is an opening by the other.
use Rattle.std.proofs.Common.{◌≡◌, ℕ, List, [], ◌∷◌, Option, Some, None, Result, refl, sym, ap, ap₂, ◌∙◌, subst}
use Rattle.std.specs.Prelude.{Contains}
use Rattle.std.specs.List.{AllByRecursion}
use Rattle.just_host.specs.declared.entry.Entry.{Entry}
use Rattle.just_host.specs.declared.job.Pair.{Pair}
use Rattle.just_value.specs.Constants.{constant_rows}
use Rattle.meaning_dialogues.specs.Faults.{Fault}
use Rattle.meaning_dialogues.specs.Dialogue.{DialogueGoes}
use Rattle.meaning_dialogues.specs.Terms.{Term}
use Rattle.meaning_dialogues.specs.Written.{term_in, unnumbered}
use Rattle.meaning_evaluation.specs.Requests.{OpeningFailure}
use Rattle.meaning_runs.specs.Told.{Answers}
use Rattle.meaning_evaluation.specs.Named.{RecipeName, VariableName, VariableRow, ModuleRow, Definitions}
use Rattle.meaning_evaluation.specs.Scopes.{Configuration, surroundings_in}
use Rattle.just_meaning.specs.Agreement.{AgreesFills, AgreesOne, AgreesAll}
use Rattle.just_meaning.specs.Opening.{Held, Opened, IsOpened, IsOrder, Side, stands, evaluates, side_by, side_of, side_dialogue, scene_in, opening_standing, text_named, constant_side, named, reading_in, pairs_of, Fills, all, has_value, has_none, OpensOne, not_told, opened, refused, OpensAll, none_left, one_more, fault_here, fault_later}
use Rattle.just_meaning.specs.Reading.{ReadsIn}
use Rattle.just_meaning.specs.Reach.{of_variable, IsInPlay, SameVariable, neither, both, AgreeOnReach}
use Rattle.laws_agreement.specs.Agreement.Opened.{AreListed}
use Rattle.laws_agreement.proofs.Agreement.Lists.{all_more, all_contained}
use Rattle.meaning_rules.proofs.Worlds.Places.{contains_first}
use Rattle.std.proofs.lemmas.List.Elements.{Contains-append_right}
use Rattle.laws_naive.proofs.Reach.Reached.{in_play_calls, reads_back, row_of}
use Rattle.laws_naive.proofs.Reach.Exports.{pairs_alike, from_alike}
use Rattle.laws_naive.proofs.Reach.Functions.{same_expression}

module _ (c : Configuration) (invoked : List RecipeName) (a b : Definitions) (h : AgreeOnReach c.no_dependencies invoked a b) where
  abbrev pub A : VariableName → Type 0
  A x = IsOpened a c.no_dependencies invoked x

  abbrev pub B : VariableName → Type 0
  B x = IsOpened b c.no_dependencies invoked x

  -- an order of what opens by the one is one by the other
  order_there : (path names : List (List ℕ)) → IsOrder a A path names → IsOrder b B path names
  order_there path names o = record {
    once = o.once;
    all = λ name u. o.all name ((h.opened (named path name)).1 u);
    only = λ name stands. (h.opened (named path name)).0 (o.only name stands);
    behind = λ earlier name later e free other row there reads.
        let opens = o.only name (subst (λ l. Contains l name) (sym e) (Contains-append_right earlier (name ∷ later) name (contains_first name later))) in
        let same = h.variables (named path name) opens in
        let unset = same.1 ∙ free in
        let said = row_of reads.row same.0 reads.there in
        let play : IsInPlay a c.no_dependencies invoked path said.row.value [] = of_variable opens unset said.is in
        let back = reads_back c.no_dependencies invoked a b h path said.row.value [] other play (subst (λ e. ReadsIn (b.functions path) e [] other) (sym said.value) reads.reads) in
        let named_there = row_of row (h.names path said.row.value [] other play back).0 there in
        o.behind earlier name later e unset other named_there.row named_there.is (record { row = said.row; there = said.is; reads = back });
  }

  -- ---- what variables stand for

  by_alike : (path : List (List ℕ)) (o : Option (List ℕ)) (v : Option VariableRow) (k : Option (List ℕ)) → side_by c a path o v k ≡ side_by c b path o v k
  by_alike path (Some t) v k = refl
  by_alike path None (Some row) k = refl
  by_alike path None None k = refl

  rows_alike : (path : List (List ℕ)) (o : Option (List ℕ)) {v w : Option VariableRow} (k : Option (List ℕ)) → SameVariable v w → side_by c b path o v k ≡ side_by c b path o w k
  rows_alike path o k neither = refl
  rows_alike path (Some t) k (both file value export) = refl
  rows_alike path None k (both file value export) = ap₂ (λ f e. Some (evaluates (term_in c.expansion f unnumbered e))) file value

  side_alike : (path : List (List ℕ)) (name : List ℕ) → A (named path name) → side_of c a path (record { name = name; number = None }) ≡ side_of c b path (record { name = name; number = None })
  side_alike path name u =
      by_alike path (a.override (named path name)) (a.variable (named path name)) (text_named name constant_rows)
      ∙ (rows_alike path (a.override (named path name)) (text_named name constant_rows) (h.variables (named path name) u).0
      ∙ ap (λ o. side_by c b path o (b.variable (named path name)) (text_named name constant_rows)) (h.variables (named path name) u).1)

  module _ (path : List (List ℕ)) (row : ModuleRow) (pairs out : List Pair) where
    text_is_none : (k : Option (List ℕ)) (t : Term) → constant_side k ≡ Some (evaluates t) → ⊥
    text_is_none None t e = absurd (cc)
    text_is_none (Some x) t e = absurd (cc)

    same_term : (t t' : Term) → Some (evaluates t) ≡ Some (evaluates t') → t ≡ t'
    same_term t t' e = cc

    -- a variable that opens is evaluated alike
    dialogue_alike : (name : List ℕ) → A (named path name) → (side : Side) → side_of c a path (record { name = name; number = None }) ≡ Some side → side_dialogue c (scene_in c a path row pairs out) side ≡ side_dialogue c (scene_in c b path row pairs out) side
    dialogue_alike name u (stands t) e = refl
    dialogue_alike name u (evaluates t) e = by_side (a.override (named path name)) (a.variable (named path name)) refl refl e
      where
        by_side : (o : Option (List ℕ)) (v : Option VariableRow) → a.override (named path name) ≡ o → a.variable (named path name) ≡ v → side_by c a path o v (text_named name constant_rows) ≡ Some (evaluates t)
            → side_dialogue c (scene_in c a path row pairs out) (evaluates t) ≡ side_dialogue c (scene_in c b path row pairs out) (evaluates t)
        by_side (Some x) v f g e = absurd (cc)
        by_side None None f g e = absurd (text_is_none (text_named name constant_rows) t e)
        by_side None (Some r) f g e =
            subst (λ term. side_dialogue c (scene_in c a path row pairs out) (evaluates term) ≡ side_dialogue c (scene_in c b path row pairs out) (evaluates term)) (same_term (term_in c.expansion r.file unnumbered r.value) t e)
            (same_expression c.expansion (a.functions path) (b.functions path) (surroundings_in c (scene_in c a path row pairs out)) (opening_standing out) _ (opening_standing []) r.file unnumbered r.value [] (in_play_calls c.no_dependencies invoked a b h path r.value [] (of_variable u f g)))

  -- ---- modules

  module _ (listed : AreListed a) (listed' : AreListed b) where
    pub record MovedFills {path : List (List ℕ)} {row : ModuleRow} {pairs : List Pair} {values : List Held} {names : List (List ℕ)} {old new : List Entry} {r : Result (List Held) Fault} (fills : Fills c a path row pairs values names old new r) : Type 0 where
      pub there : Fills c b path row pairs values names old new r
      pub agrees : (f : Answers) → AgreesFills f c a fills → AgreesFills f c b there

    module _ (path : List (List ℕ)) (row : ModuleRow) (pairs : List Pair) where
      goes_there : (values : List Held) (name : List ℕ) → A (named path name) → (side : Side) (old new : List Entry) (r : Result (List (List ℕ)) Fault) → side_of c a path (record { name = name; number = None }) ≡ Some side
          → DialogueGoes (reading_in values) (side_dialogue c (scene_in c a path row pairs (pairs_of a path values)) side) old new r → DialogueGoes (reading_in values) (side_dialogue c (scene_in c b path row pairs (pairs_of b path values)) side) old new r
      goes_there values name u side old new r e goes =
          subst (λ d. DialogueGoes (reading_in values) d old new r)
          (dialogue_alike path row pairs (pairs_of a path values) name u side e ∙ ap (λ out. side_dialogue c (scene_in c b path row pairs out) side) (pairs_alike c.no_dependencies invoked a b h path values)) goes

      fills_there : {values : List Held} {names : List (List ℕ)} {old new : List Entry} {r : Result (List Held) Fault} → AllByRecursion (λ name. A (named path name)) names → (fills : Fills c a path row pairs values names old new r) → MovedFills fills
      fills_there u all = record { there = all; agrees = λ f k. tt }
      fills_there {values = values} u (has_value {name = name} {old = old} {mid = mid} value side goes others) =
          let rest = fills_there u.1 others in
          record {
            there = has_value value (sym (side_alike path name u.0) ∙ side) (goes_there values name u.0 _ _ _ _ side goes) rest.there;
            agrees = λ f k. (from_alike c.no_dependencies invoked a b h listed listed' path f old mid k.0, rest.agrees f k.1);
          }
      fills_there {values = values} u (has_none {name = name} {old = old} {new = new} side goes) = record {
        there = has_none (sym (side_alike path name u.0) ∙ side) (goes_there values name u.0 _ _ _ _ side goes);
        agrees = λ f k. from_alike c.no_dependencies invoked a b h listed listed' path f old new k;
      }

      opened_names : (names : List (List ℕ)) → IsOrder a A path names → AllByRecursion (λ name. A (named path name)) names
      opened_names names o = all_more (Contains names) _ o.only names (all_contained names)

    pub record MovedOne {path : List (List ℕ)} {old new : List Entry} {r : Result Opened OpeningFailure} (one : OpensOne c a A path old new r) : Type 0 where
      pub there : OpensOne c b B path old new r
      pub agrees : (f : Answers) → AgreesOne f c a one → AgreesOne f c b there

    one_there : {path : List (List ℕ)} {old new : List Entry} {r : Result Opened OpeningFailure} (one : OpensOne c a A path old new r) → MovedOne one
    one_there {path = path} {old = old} {new = new} (not_told inside request) = record {
      there = not_told (sym (h.inside path) ∙ inside) request;
      agrees = λ f k. from_alike c.no_dependencies invoked a b h listed listed' path f old new k;
    }
    one_there {path = path} {old = old} (opened {row = row} {mid = mid} {pairs = pairs} {names = names} inside request order fills) =
        let moved = fills_there path row pairs (opened_names path row pairs names order) fills in
        record {
          there = opened (sym (h.inside path) ∙ inside) request (order_there path names order) moved.there;
          agrees = λ f k. (from_alike c.no_dependencies invoked a b h listed listed' path f old mid k.0, moved.agrees f k.1);
        }
    one_there {path = path} {old = old} (refused {row = row} {mid = mid} {pairs = pairs} {names = names} inside request order fills) =
        let moved = fills_there path row pairs (opened_names path row pairs names order) fills in
        record {
          there = refused (sym (h.inside path) ∙ inside) request (order_there path names order) moved.there;
          agrees = λ f k. (from_alike c.no_dependencies invoked a b h listed listed' path f old mid k.0, moved.agrees f k.1);
        }

    -- an opening of these modules by the other, which agrees with all answers that this one agrees with
    pub record MovedAll {paths : List (List (List ℕ))} {old new : List Entry} {r : Result (List Opened) OpeningFailure} (opens : OpensAll c a A paths old new r) (paths' : List (List (List ℕ))) : Type 0 where
      pub there : OpensAll c b B paths' old new r
      pub agrees : (f : Answers) → AgreesAll f c a opens → AgreesAll f c b there

    -- An opening by the one is one by the other.
    pub all_there : {paths : List (List (List ℕ))} {old new : List Entry} {r : Result (List Opened) OpeningFailure} (opens : OpensAll c a A paths old new r) → MovedAll opens paths
    all_there none_left = record { there = none_left; agrees = λ f k. tt }
    all_there (one_more o os) =
        let one = one_there o in
        let rest = all_there os in
        record { there = one_more one.there rest.there; agrees = λ f k. (one.agrees f k.0, rest.agrees f k.1) }
    all_there (fault_here o) = let one = one_there o in record { there = fault_here one.there; agrees = λ f k. one.agrees f k }
    all_there (fault_later o os) =
        let one = one_there o in
        let rest = all_there os in
        record { there = fault_later one.there rest.there; agrees = λ f k. (one.agrees f k.0, rest.agrees f k.1) }
