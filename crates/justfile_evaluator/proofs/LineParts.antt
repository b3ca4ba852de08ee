-- Lines of bodies, one part after another.
use Rattle.std.proofs.Common.{◌≡◌, ℕ, ◌+◌, ◌<◌, ◌≤◌, Bool, false, List, ◌∷◌, ◌++◌, length, get_or, drop, map, Ok, Err, refl, ap, add-one, drop-cons}
use Rattle.std.proofs.lemmas.List.{drop_all}
use Rattle.just_host.specs.declared.entry.Entry.{Entry}
use Rattle.tree_items.specs.declared.line.Fragment.{Fragment}
use Rattle.meaning_dialogues.specs.Faults.{Fault, memory}
use Rattle.meaning_dialogues.specs.Dialogue.{Dialogue, DialogueGoes, Evaluates, Reading}
use Rattle.meaning_dialogues.specs.Evaluation.{Stage}
use Rattle.meaning_dialogues.proofs.Dialogues.{goes_on, stops, begins_first, whole_begins}
use Rattle.meaning_dialogues.proofs.Rows.{Fills, fills_begins, fills_memory}
use Rattle.meaning_evaluation.specs.Stages.Lines.{line_dialogue, piece_dialogue, piece_of}

at_place : (es : List Fragment) (i : ℕ) (x : Fragment) → i < length es → x ≡ get_or es i x → map piece_of (drop i es) ≡ piece_of x ∷ map piece_of (drop (i + 1) es)
at_place es i x lt is =
    let e : drop i es ≡ x ∷ drop (i + 1) es = rw (add-one, drop-cons es i x lt, ← is) refl in
    ap (map piece_of) e

module _ (reading : Reading) (all : Dialogue (List ℕ)) (stage : Stage) (es : List Fragment) (old : List Entry) where
  abbrev pub rest : Bool → List ℕ → ℕ → Dialogue (List ℕ)
  rest goes_on so_far i = line_dialogue stage goes_on so_far (map piece_of (drop i es))

  -- what follows a part
  abbrev pub next : List ℕ → ℕ → List ℕ → Dialogue (List ℕ)
  next so_far i piece = rest false (so_far ++ piece) (i + 1)

  pub parts_more : (mid new : List Entry) (continued : Bool) (so_far more : List ℕ) (i : ℕ) (x : Fragment) → Fills reading all (rest continued so_far i) old mid → i < length es → x ≡ get_or es i x
      → Evaluates reading (piece_dialogue stage continued (piece_of x)) mid new (Ok more) → Fills reading all (rest false (so_far ++ more) (i + 1)) old new
  parts_more mid new continued so_far more i x h lt is g = record {
    on = λ last r d. h.on last r (rw (at_place es i x lt is) (goes_on reading (piece_dialogue stage continued (piece_of x)) (next so_far i) mid new last more r (g.goes (λ q. cc)) d));
  }

  pub parts_stop : (mid new : List Entry) (continued : Bool) (so_far : List ℕ) (i : ℕ) (x : Fragment) (e : Fault) → Fills reading all (rest continued so_far i) old mid → i < length es → x ≡ get_or es i x
      → Evaluates reading (piece_dialogue stage continued (piece_of x)) mid new (Err e) → Evaluates reading all old new (Err e)
  parts_stop mid new continued so_far i x e h lt is g = record {
    goes = λ n. h.on new (Err e) (rw (at_place es i x lt is) (stops reading (piece_dialogue stage continued (piece_of x)) (next so_far i) mid new e (g.goes (λ m. n (cc)))));
    begins = fills_begins reading all (rest continued so_far i) old mid new h (rw (at_place es i x lt is) (begins_first reading (piece_dialogue stage continued (piece_of x)) (next so_far i) mid new g.begins));
  }

  -- memory ran out behind a part
  pub parts_memory : (mid new : List Entry) (continued : Bool) (so_far more : List ℕ) (i : ℕ) (x : Fragment) → Fills reading all (rest continued so_far i) old mid → i < length es → x ≡ get_or es i x
      → Evaluates reading (piece_dialogue stage continued (piece_of x)) mid new (Ok more) → Evaluates reading all old new (Err memory)
  parts_memory mid new continued so_far more i x h lt is g =
      fills_memory reading all (rest false (so_far ++ more) (i + 1)) old new (parts_more mid new continued so_far more i x h lt is g)

  pub parts_end : (now : List Entry) (continued : Bool) (so_far : List ℕ) (i : ℕ) → Fills reading all (rest continued so_far i) old now → length es ≤ i → Evaluates reading all old now (Ok so_far)
  parts_end now continued so_far i h over =
      let whole : DialogueGoes reading all old now (Ok so_far) = h.on now (Ok so_far) (rw (drop_all i es over) (refl, refl)) in
      record { goes = λ n. whole; begins = whole_begins reading all old now (Ok so_far) whole }
