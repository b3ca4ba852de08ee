-- Two readings that agree on what a dialogue reads lead it alike: numbers for names, or one frame for another.
use Rattle.std.proofs.Common.{◌≡◌, List, Result, Err, subst, MatchResult}
use Rattle.just_host.specs.declared.entry.Entry.{Entry}
use Rattle.meaning_dialogues.specs.Faults.{Fault}
use Rattle.meaning_dialogues.specs.Dialogue.{Dialogue, Ends, Asks, Reads, DialogueGoes, Reading}
use Rattle.meaning_dialogues.proofs.Dialogues.{weaker}
use Rattle.meaning_dialogues.proofs.Soundness.{Sound}

pub agrees : {A : Type 0} (first second : Reading) (Q : A → Type 0) (t : Dialogue A) (old new : List Entry) (r : Result A Fault) → Sound (λ place x. first place x ≡ second place x) Q t → DialogueGoes first t old new r → DialogueGoes second t old new r
agrees first second Q (Ends end) old new r sound h = h
agrees first second Q (Asks q next) old new r sound h = (h.0, agrees first second Q (next h.0) _ new r (sound h.0) h.1)
agrees first second Q (Reads place x next) old new r sound h =
    weaker (second place x) (λ v g. agrees first second Q (next v) old new r (sound.1 v) g) (λ f g. g)
    (subst (λ seen. MatchResult seen (λ v. DialogueGoes first (next v) old new r) (λ f. (new ≡ old) × (r ≡ Err f))) sound.0 h)
