-- The exported bindings of frames, outermost first.
use Rattle.std.proofs.Common.{◌≡◌, ℕ, ◌+◌, ◌<◌, ◌≤◌, Bool, List, [], ◌∷◌, ◌++◌, length, get_or, map, take, sym, ap, subst, ◌∙◌, arith, append_assoc}
use Rattle.std.specs.Borrow.{Bor}
use Rattle.std.specs.List.{flat_map}
use Rattle.std.proofs.lemmas.List.{length-map, reverse-append, take_more}
use Rattle.just_host.specs.declared.job.Pair.{Pair}
use Rattle.just_value.specs.Frames.{BoundRow}
use Rattle.evaluate_context.specs.Environment.{frame_pairs, frames_pairs}
use Rattle.just_value.proofs.ConstantsInFrame.{get_or_mapped}

-- the outermost of the frames up to a place, and those inside it
pub one_frame_more : (all : Bool) (frames : List (Bor (List BoundRow))) (place : ℕ) (d : Bor (List BoundRow)) → place < length frames
    → frames_pairs all (take (place + 1) (map (λ f. f.now) frames)) ≡ frame_pairs all (get_or frames place d).now ++ frames_pairs all (take place (map (λ f. f.now) frames))
one_frame_more all frames place d lt =
    let views = map (λ (f : Bor (List BoundRow)). f.now) frames in
    let within : place < length views = subst (λ n. place < n) (sym (length-map frames (λ f. f.now))) lt in
    ap (frames_pairs all) (take_more views place d.now within)
    ∙ ap (flat_map (frame_pairs all)) (reverse-append (take place views) (get_or views place d.now ∷ []))
    ∙ ap (λ frame. frame_pairs all frame ++ frames_pairs all (take place views)) (get_or_mapped (λ f. f.now) frames place d)

-- the outermost of them is pushed
pub one_frame_pushed : (all : Bool) (frames : List (Bor (List BoundRow))) (place rest : ℕ) (frame : Bor (List BoundRow)) (old new whole : List Pair) → place ≡ rest + 1 → place ≤ length frames
    → frame ≡ get_or frames rest frame → new ≡ old ++ frame_pairs all frame.now → old ++ frames_pairs all (take place (map (λ f. f.now) frames)) ≡ whole → new ++ frames_pairs all (take rest (map (λ f. f.now) frames)) ≡ whole
one_frame_pushed all frames place rest frame old new whole is le at pushed so_far =
    let views = map (λ (f : Bor (List BoundRow)). f.now) frames in
    let lt : rest < length frames = omega (arith, is, le) in
    let more : frames_pairs all (take place views) ≡ frame_pairs all frame.now ++ frames_pairs all (take rest views) =
    ap (λ n. frames_pairs all (take n views)) is ∙ one_frame_more all frames rest frame lt ∙ ap (λ (f : Bor (List BoundRow)). frame_pairs all f.now ++ frames_pairs all (take rest views)) (sym at) in
    ap (λ pairs. pairs ++ frames_pairs all (take rest views)) pushed ∙ append_assoc old (frame_pairs all frame.now) (frames_pairs all (take rest views)) ∙ ap (λ pairs. old ++ pairs) (sym more) ∙ so_far
