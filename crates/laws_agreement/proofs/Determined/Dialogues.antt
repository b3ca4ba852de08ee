-- Two dialogues that read and are answered alike end alike; and no dialogue is an event.
use Rattle.std.proofs.Common.{◌≡◌, ℕ, List, [], ◌∷◌, ◌++◌, append-nil, append_assoc, Some, Result, Ok, Err, refl, sym, ap, ◌∙◌, subst, MatchResult}
use Rattle.std.proofs.lemmas.List.{append_cancel_left}
use Rattle.just_host.specs.declared.entry.Entry.{Entry}
use Rattle.just_host.specs.declared.entry.Entry.TheVariants.{Asked}
use Rattle.meaning_dialogues.specs.Faults.{Fault}
use Rattle.meaning_dialogues.specs.Dialogue.{Dialogue, Ends, Asks, Reads, DialogueGoes, Reading}
use Rattle.meaning_dialogues.specs.Evaluation.{Value}
use Rattle.meaning_dialogues.proofs.Soundness.{Sound, Any}
use Rattle.meaning_dialogues.proofs.Unfolding.{extends}
use Rattle.meaning_runs.specs.Told.{Answers, of_variables, AgreesThere}
use Rattle.meaning_runs.specs.Laws.{events_of}
use Rattle.meaning_runs.specs.Meant.{is_event}
use Rattle.meaning_runs.proofs.Pieces.{events_append, grown}
use Rattle.just_meaning.specs.Agreement.{AgreesFrom}
use Rattle.laws_evaluation.specs.Opening.Alike.{AnsweredAlike, both_end, both_ask, both_read}
use Rattle.laws_agreement.proofs.Determined.Tasks.{one_answer}

module _ {A : Type 0} (reading reading' : Reading) (old new old' new' : List Entry) (r r' : Result A Fault) where
  at_seen : (seen : Result Value Fault) (k l : Value → Dialogue A) → ((v : Value) → DialogueGoes reading (k v) old new r → DialogueGoes reading' (l v) old' new' r' → r ≡ r')
      → MatchResult seen (λ value. DialogueGoes reading (k value) old new r) (λ fault. (new ≡ old) × (r ≡ Err fault))
      → MatchResult seen (λ value. DialogueGoes reading' (l value) old' new' r') (λ fault. (new' ≡ old') × (r' ≡ Err fault)) → r ≡ r'
  at_seen (Ok v) k l go h g = go v h g
  at_seen (Err e) k l go h g = h.1 ∙ sym g.1

module _ (f : Answers) (names : List (List ℕ)) where
  -- the piece that a record grew by agrees, whichever is named
  pub each_piece : (old new : List Entry) → AgreesFrom f names old new → (piece : List Entry) → new ≡ old ++ piece → AgreesThere f names piece
  each_piece old new g piece e = subst (AgreesThere f names) (append_cancel_left old g.piece piece (sym g.entries ∙ e)) g.agrees

  -- They end alike, where what the first reads is the same for the second.
  pub goes_alike : {A : Type 0} (reading reading' : Reading) {d d' : Dialogue A} → AnsweredAlike (of_variables f names) d d' → Sound (λ place x. reading place x ≡ reading' place x) Any d
      → (old new old' new' : List Entry) (r r' : Result A Fault) → ((piece : List Entry) → new ≡ old ++ piece → AgreesThere f names piece) → ((piece : List Entry) → new' ≡ old' ++ piece → AgreesThere f names piece)
      → DialogueGoes reading d old new r → DialogueGoes reading' d' old' new' r' → r ≡ r'
  goes_alike reading reading' both_end sound old new old' new' r r' a b h g = h.1 ∙ sym g.1
  goes_alike reading reading' (both_ask {q = q} {p = p} {k = k} {l = l} e go) sound old new old' new' r r' a b h g =
      let x = extends reading (k h.0) _ new r h.1 in
      let y = extends reading' (l g.0) _ new' r' g.1 in
      let told : (of_variables f names q ≡ Some h.0) × AgreesThere f names x.0 = a (Asked q h.0 ∷ x.0) (x.1 ∙ append_assoc old _ _) in
      let other : (of_variables f names p ≡ Some g.0) × AgreesThere f names y.0 = b (Asked p g.0 ∷ y.0) (y.1 ∙ append_assoc old' _ _) in
      let same : g.0 ≡ h.0 = one_answer g.0 h.0 (e ∙ other.0) told.0 in
      goes_alike reading reading' (go h.0) (sound h.0) (old ++ Asked q h.0 ∷ []) new (old' ++ Asked p h.0 ∷ []) new' r r'
      (λ piece i. (a (Asked q h.0 ∷ piece) (i ∙ append_assoc old _ _)).1) (λ piece i. (b (Asked p h.0 ∷ piece) (i ∙ append_assoc old' _ _)).1)
      h.1 (subst (λ z. DialogueGoes reading' (l z) (old' ++ Asked p z ∷ []) new' r') same g.1)
  goes_alike reading reading' (both_read {place = place} {x = x} {k = k} {l = l} go) sound old new old' new' r r' a b h g =
      at_seen reading reading' old new old' new' r r' (reading place x) k l (λ v i j. goes_alike reading reading' (go v) (sound.1 v) old new old' new' r r' a b i j) h
      (subst (λ s. MatchResult s (λ value. DialogueGoes reading' (l value) old' new' r') (λ fault. (new' ≡ old') × (r' ≡ Err fault))) (sym sound.0) g)

-- ---- events

-- a record grows without an event
pub record GrowsQuietly (old new : List Entry) : Type 0 where
  pub piece : List Entry
  pub entries : new ≡ old ++ piece
  pub quiet : events_of is_event piece ≡ []

pub quiet_nothing : (old new : List Entry) → new ≡ old → GrowsQuietly old new
quiet_nothing old new e = record { piece = []; entries = e ∙ sym (append-nil old); quiet = refl }

pub quiet_then : {old mid new : List Entry} → GrowsQuietly old mid → GrowsQuietly mid new → GrowsQuietly old new
quiet_then {old = old} g h = record {
  piece = g.piece ++ h.piece;
  entries = grown old g.piece h.piece g.entries h.entries;
  quiet = events_append is_event (λ e. Unit {0}) g.piece h.piece ∙ (ap (λ l. l ++ events_of is_event h.piece) g.quiet ∙ h.quiet);
}

module _ {A : Type 0} (reading : Reading) where
  quiet_seen : (seen : Result Value Fault) (old new : List Entry) (r : Result A Fault) (n : Value → Dialogue A) → ((v : Value) → DialogueGoes reading (n v) old new r → GrowsQuietly old new)
      → MatchResult seen (λ value. DialogueGoes reading (n value) old new r) (λ fault. (new ≡ old) × (r ≡ Err fault)) → GrowsQuietly old new
  quiet_seen (Ok v) old new r n go h = go v h
  quiet_seen (Err e) old new r n go h = quiet_nothing old new h.0

  -- A dialogue only asks.
  pub dialogue_quiet : (d : Dialogue A) (old new : List Entry) (r : Result A Fault) → DialogueGoes reading d old new r → GrowsQuietly old new
  dialogue_quiet (Ends end) old new r h = quiet_nothing old new h.0
  dialogue_quiet (Asks q next) old new r h =
      let g = dialogue_quiet (next h.0) _ new r h.1 in
      record { piece = Asked q h.0 ∷ g.piece; entries = g.entries ∙ append_assoc old _ _; quiet = g.quiet }
  dialogue_quiet (Reads place x next) old new r h = quiet_seen (reading place x) old new r next (λ v i. dialogue_quiet (next v) old new r i) h
