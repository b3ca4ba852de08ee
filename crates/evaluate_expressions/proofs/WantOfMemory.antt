-- A result that may be want of memory in place of what it is.
use Rattle.std.proofs.Common.{◌≡◌, ◌≢◌, List, Result, Err, sym, subst, ◌∙◌}
use Rattle.just_host.specs.declared.entry.Entry.{Entry}
use Rattle.meaning_dialogues.specs.Faults.{Fault, memory}
use Rattle.meaning_dialogues.specs.Dialogue.{Dialogue, DialogueGoes, Evaluates, Reading}

pub unless_memory : {A : Type 0} {reading : Reading} {t : Dialogue A} {old new : List Entry} {r s : Result A Fault} → Evaluates reading t old new r → (s ≢ Err memory → s ≡ r) → Evaluates reading t old new s
unless_memory {reading = reading} {t = t} {old = old} {new = new} h e = record { goes = λ n. subst (DialogueGoes reading t old new) (sym (e n)) (h.goes (λ m. n (e n ∙ m))); begins = h.begins }
