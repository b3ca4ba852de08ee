-- A run of calls by the pieces that its steps leave, one choice after another.
use Rattle.std.proofs.Common.{◌≡◌, List, [], ◌∷◌, ◌++◌, append-nil, Bool, true, false, cond, Option, Some, None, Result, Ok, Err, refl, sym}
use Rattle.just_host.specs.declared.entry.Entry.{Entry}
use Rattle.meaning_dialogues.specs.Dialogue.{Reading}
use Rattle.meaning_runs.specs.Failures.{Failure}
use Rattle.meaning_runs.specs.Task.{TaskGoes}
use Rattle.meaning_runs.specs.Parts.{is_met, Joins}
use Rattle.meaning_runs.specs.Acts.{Acts, begin, finish, host_parts}
use Rattle.meaning_runs.specs.Tallies.{Tally, met_one, entered_one}
use Rattle.meaning_runs.specs.Goes.{Goes, over, again, entered, not_begun, prior_failed, not_ended, subsequent_failed}
use Rattle.meaning_runs.proofs.Pieces.{grown}

module _ {Call Bound : Type 0} (a : Acts Call Bound) (reading : Call → Reading) where
  mutual
    -- calls in order, and the piece that they leave
    pub data Passes : Bool → List Call → Tally → List Call → List Entry → List Call → Tally → Option Failure → Type 0 where
      no_more : {flag : Bool} {done : List Call} {t : Tally} → Passes flag done t [] [] done t None
      is_done : {flag : Bool} {done : List Call} {t : Tally} {call : Call} {calls : List Call} {piece : List Entry} {done' : List Call} {t' : Tally} {failure : Option Failure}
          → is_met a.same call done ≡ true → Passes flag done (met_one t) calls piece done' t' failure → Passes flag done t (call ∷ calls) piece done' t' failure
      enters : {flag : Bool} {done : List Call} {t : Tally} {call : Call} {calls : List Call} {piece rest : List Entry} {done' : List Call} {t' : Tally} {failure : Option Failure} (first : List Entry) (r : Result (Bound × List Call) Failure)
          → is_met a.same call done ≡ false → TaskGoes (reading call) (begin a call flag) first r → Begun r flag done (entered_one (met_one t)) call calls rest done' t' failure → piece ≡ first ++ rest
          → Passes flag done t (call ∷ calls) piece done' t' failure

    -- what follows what begins
    pub data Begun : Result (Bound × List Call) Failure → Bool → List Call → Tally → Call → List Call → List Entry → List Call → Tally → Option Failure → Type 0 where
      stops_there : {flag : Bool} {done : List Call} {t : Tally} {call : Call} {calls : List Call} {failure : Failure} → Begun (Err failure) flag done t call calls [] done t (Some failure)
      goes_there : {flag : Bool} {done : List Call} {t : Tally} {call : Call} {calls : List Call} {bound : Bound} {priors : List Call} {piece first rest : List Entry} {middle : List Call} {t1 : Tally} {end : Option Failure}
          {done' : List Call} {t' : Tally} {failure : Option Failure}
          → Passes true done t priors first middle t1 end → Preceded end bound flag middle t1 call calls rest done' t' failure → piece ≡ first ++ rest → Begun (Ok (bound, priors)) flag done t call calls piece done' t' failure

    -- what follows the calls before the body
    pub data Preceded : Option Failure → Bound → Bool → List Call → Tally → Call → List Call → List Entry → List Call → Tally → Option Failure → Type 0 where
      stops_before : {bound : Bound} {flag : Bool} {done : List Call} {t : Tally} {call : Call} {calls : List Call} {failure : Failure} → Preceded (Some failure) bound flag done t call calls [] done t (Some failure)
      goes_before : {bound : Bound} {flag : Bool} {done : List Call} {t : Tally} {call : Call} {calls : List Call} {piece rest : List Entry} {done' : List Call} {t' : Tally} {failure : Option Failure} (first : List Entry) (r : Result (List Call) Failure)
          → TaskGoes (reading call) (finish a call flag bound) first r → Ended r flag done t call calls rest done' t' failure → piece ≡ first ++ rest → Preceded None bound flag done t call calls piece done' t' failure

    -- what follows the body
    pub data Ended : Result (List Call) Failure → Bool → List Call → Tally → Call → List Call → List Entry → List Call → Tally → Option Failure → Type 0 where
      stops_at : {flag : Bool} {done : List Call} {t : Tally} {call : Call} {calls : List Call} {failure : Failure} → Ended (Err failure) flag done t call calls [] done t (Some failure)
      goes_at : {flag : Bool} {done : List Call} {t : Tally} {call : Call} {calls subsequents : List Call} {piece first rest : List Entry} {later : List Call} {t1 : Tally} {end : Option Failure} {done' : List Call} {t' : Tally} {failure : Option Failure}
          → Passes true (cond (a.shares call) done []) t subsequents first later t1 end → Followed end flag done later t1 call calls rest done' t' failure → piece ≡ first ++ rest → Ended (Ok subsequents) flag done t call calls piece done' t' failure

    -- what follows the calls after the body
    pub data Followed : Option Failure → Bool → List Call → List Call → Tally → Call → List Call → List Entry → List Call → Tally → Option Failure → Type 0 where
      stops_after : {flag : Bool} {done later : List Call} {t : Tally} {call : Call} {calls : List Call} {failure : Failure} → Followed (Some failure) flag done later t call calls [] done t (Some failure)
      goes_after : {flag : Bool} {done later : List Call} {t : Tally} {call : Call} {calls : List Call} {joined : List Call} {piece : List Entry} {done' : List Call} {t' : Tally} {failure : Option Failure}
          → Joins a.same call (cond (a.shares call) later done) joined → Passes flag joined t calls piece done' t' failure → Followed None flag done later t call calls piece done' t' failure

  -- a run leaves a piece, and passes by it
  pub record Passed (flag : Bool) (done : List Call) (old : List Entry) (t : Tally) (calls done' : List Call) (new : List Entry) (t' : Tally) (failure : Option Failure) : Type 0 where
    pub piece : List Entry
    pub entries : new ≡ old ++ piece
    pub passes : Passes flag done t calls piece done' t' failure

  pub passed : {flag : Bool} {done : List Call} {old : List Entry} {t : Tally} {calls done' : List Call} {new : List Entry} {t' : Tally} {failure : Option Failure}
      → Goes (host_parts a reading) flag done old t calls done' new t' failure → Passed flag done old t calls done' new t' failure
  passed {old = old} over = record { piece = []; entries = sym (append-nil old); passes = no_more }
  passed (again met run) = let p = passed run in record { piece = p.piece; entries = p.entries; passes = is_done met p.passes }
  passed {old = old} (entered unmet begins g ends s joins run) =
      let p = passed g in
      let q = passed s in
      let o = passed run in
      record {
        piece = begins.piece ++ (p.piece ++ (ends.piece ++ (q.piece ++ o.piece)));
        entries = grown old begins.piece (p.piece ++ (ends.piece ++ (q.piece ++ o.piece))) begins.entries
            (grown _ p.piece (ends.piece ++ (q.piece ++ o.piece)) p.entries (grown _ ends.piece (q.piece ++ o.piece) ends.entries (grown _ q.piece o.piece q.entries o.entries)));
        passes = enters begins.piece _ unmet begins.goes (goes_there p.passes (goes_before ends.piece _ ends.goes (goes_at q.passes (goes_after joins o.passes) refl) refl) refl) refl;
      }
  passed {old = old} (not_begun unmet begins) = record { piece = begins.piece; entries = begins.entries; passes = enters begins.piece _ unmet begins.goes stops_there (sym (append-nil begins.piece)) }
  passed {old = old} (prior_failed unmet begins g) =
      let p = passed g in
      record {
        piece = begins.piece ++ p.piece;
        entries = grown old begins.piece p.piece begins.entries p.entries;
        passes = enters begins.piece _ unmet begins.goes (goes_there p.passes stops_before (sym (append-nil p.piece))) refl;
      }
  passed {old = old} (not_ended unmet begins g ends) =
      let p = passed g in
      record {
        piece = begins.piece ++ (p.piece ++ ends.piece);
        entries = grown old begins.piece (p.piece ++ ends.piece) begins.entries (grown _ p.piece ends.piece p.entries ends.entries);
        passes = enters begins.piece _ unmet begins.goes (goes_there p.passes (goes_before ends.piece _ ends.goes stops_at (sym (append-nil ends.piece))) refl) refl;
      }
  passed {old = old} (subsequent_failed unmet begins g ends s) =
      let p = passed g in
      let q = passed s in
      record {
        piece = begins.piece ++ (p.piece ++ (ends.piece ++ q.piece));
        entries = grown old begins.piece (p.piece ++ (ends.piece ++ q.piece)) begins.entries (grown _ p.piece (ends.piece ++ q.piece) p.entries (grown _ ends.piece q.piece ends.entries q.entries));
        passes = enters begins.piece _ unmet begins.goes (goes_there p.passes (goes_before ends.piece _ ends.goes (goes_at q.passes stops_after (sym (append-nil q.piece))) refl) refl) refl;
      }
