-- Laws of entries by their kinds, which crates above cite.
use Rattle.std.proofs.Common.{ℕ, List, Bool, true, false, Result, ◌≡◌, [], ◌∷◌, ◌++◌, inl, inr, refl, sym, ◌∙◌, ap, subst, ◌⊎◌}
use Rattle.std.specs.List.{list_all}
use Rattle.std.proofs.lemmas.List.Folds.{list_all-append}
use Rattle.just_host.specs.declared.entry.Entry.{Entry}
use Rattle.just_host.specs.declared.entry.Entry.TheVariants.{Asked, Line, Script, Confirm, Show, Dotenv}
use Rattle.just_host.specs.declared.host.Answer.{Answer}
use Rattle.just_host.specs.declared.host.Confirmation.{Confirmation}
use Rattle.just_host.specs.declared.host.HostFault.{HostFault}
use Rattle.just_host.specs.declared.host.Question.{Question}
use Rattle.just_host.specs.declared.host.Status.{Status}
use Rattle.just_host.specs.declared.job.CommandJob.{CommandJob}
use Rattle.just_host.specs.declared.job.DotenvRequest.{DotenvRequest}
use Rattle.just_host.specs.declared.job.Pair.{Pair}
use Rattle.just_host.specs.declared.job.ScriptJob.{ScriptJob}
use Rattle.just_text.specs.declared.sequence.Sequence.{Sequence}
use Rattle.just_host.specs.Record.{Record}
use Rattle.just_host.specs.Follows.{Begins, Follows, Joins, Nothing, unanswered}
use Rattle.just_host.specs.Asking.{Asks}
use Rattle.just_host.specs.AskingLaws.{asked_then}
use Rattle.just_host.specs.Kinds.{Only, HaveQuestions, HaveRequests, HaveUser, HaveWork, AsksQuestions, AsksRequests, AsksWork}

module _ {H : Type 0} (kinds : Entry → Bool) (goes : H → List Entry → H → Type 0) where
  pub only_nothing : Nothing goes → Nothing (Only kinds goes)
  only_nothing nothing a = record { went = nothing a; of_kinds = refl }

  pub only_joins : Joins goes → Joins (Only kinds goes)
  only_joins joins a b c p q first second = record { went = joins a b c p q first.went second.went; of_kinds = rw (list_all-append kinds p q, first.of_kinds, second.of_kinds) refl }

  -- what stands for one entry is that entry, or nothing
  part_of : (e : Entry) → ((kept : Entry) → (e ≡ kept) ⊎ (e ≡ unanswered kept) → kinds kept ≡ true) → (part : List Entry) → Begins part (e ∷ []) → list_all kinds part ≡ true
  part_of e has [] h = refl
  part_of e has (kept ∷ []) h = elim h [ inl k ↦ rw (has kept (inl k.0)) refl | inr k ↦ rw (has kept (inr k.0)) refl ]
  part_of e has (kept ∷ more ∷ rest) h = elim h [ inl k ↦ absurd k.1 | inr k ↦ absurd cc ]

  one_followed : (e : Entry) → ((kept : Entry) → (e ≡ kept) ⊎ (e ≡ unanswered kept) → kinds kept ≡ true) → (b c : Record H) → Follows goes b (e ∷ []) c → Follows (Only kinds goes) b (e ∷ []) c
  one_followed e has b c f = record {
    part = f.part;
    entries = f.entries;
    host = record { went = f.host; of_kinds = part_of e has f.part f.begins };
    whole = f.whole;
    begins = f.begins;
    stays = f.stays;
  }

  module _ (joins : Joins goes) (b c : Record H) where
    one_asked : (e : Entry) → ((kept : Entry) → (e ≡ kept) ⊎ (e ≡ unanswered kept) → kinds kept ≡ true) → Follows goes b (e ∷ []) c → Asks (Only kinds goes) b c
    one_asked e has f = asked_then (Only kinds goes) (only_joins joins) b c (e ∷ []) (one_followed e has b c f)

    -- a question
    pub question_asked : HaveQuestions kinds → (question : Question) (answer : Answer) → Follows goes b (Asked question answer ∷ []) c → Asks (Only kinds goes) b c
    question_asked has question answer = one_asked (Asked question answer) by
      where
        by : (kept : Entry) → (Asked question answer ≡ kept) ⊎ (Asked question answer ≡ unanswered kept) → kinds kept ≡ true
        by (Asked q a) h = has.asked q a
        by (Dotenv q a) h = elim h [ inl k ↦ absurd cc | inr k ↦ absurd cc ]
        by (Line q a) h = elim h [ inl k ↦ absurd cc | inr k ↦ absurd cc ]
        by (Script q a) h = elim h [ inl k ↦ absurd cc | inr k ↦ absurd cc ]
        by (Confirm q a) h = elim h [ inl k ↦ absurd cc | inr k ↦ absurd cc ]
        by (Show q) h = elim h [ inl k ↦ absurd cc | inr k ↦ absurd cc ]

    -- a request for files of variables
    pub request_asked : HaveRequests kinds → (request : DotenvRequest) (answer : Result (Sequence Pair) HostFault) → Follows goes b (Dotenv request answer ∷ []) c → Asks (Only kinds goes) b c
    request_asked has request answer = one_asked (Dotenv request answer) by
      where
        by : (kept : Entry) → (Dotenv request answer ≡ kept) ⊎ (Dotenv request answer ≡ unanswered kept) → kinds kept ≡ true
        by (Dotenv q a) h = has.requested q a
        by (Asked q a) h = elim h [ inl k ↦ absurd cc | inr k ↦ absurd cc ]
        by (Line q a) h = elim h [ inl k ↦ absurd cc | inr k ↦ absurd cc ]
        by (Script q a) h = elim h [ inl k ↦ absurd cc | inr k ↦ absurd cc ]
        by (Confirm q a) h = elim h [ inl k ↦ absurd cc | inr k ↦ absurd cc ]
        by (Show q) h = elim h [ inl k ↦ absurd cc | inr k ↦ absurd cc ]

    -- a text that is shown
    pub shown_asked : HaveUser kinds → (text : List ℕ) → Follows goes b (Show text ∷ []) c → Asks (Only kinds goes) b c
    shown_asked has text = one_asked (Show text) by
      where
        by : (kept : Entry) → (Show text ≡ kept) ⊎ (Show text ≡ unanswered kept) → kinds kept ≡ true
        by (Show q) h = has.shown q
        by (Asked q a) h = elim h [ inl k ↦ absurd cc | inr k ↦ absurd cc ]
        by (Dotenv q a) h = elim h [ inl k ↦ absurd cc | inr k ↦ absurd cc ]
        by (Line q a) h = elim h [ inl k ↦ absurd cc | inr k ↦ absurd cc ]
        by (Script q a) h = elim h [ inl k ↦ absurd cc | inr k ↦ absurd cc ]
        by (Confirm q a) h = elim h [ inl k ↦ absurd cc | inr k ↦ absurd cc ]

    -- a prompt
    pub prompt_asked : HaveUser kinds → (prompt : List ℕ) (answer : Confirmation) → Follows goes b (Confirm prompt answer ∷ []) c → Asks (Only kinds goes) b c
    prompt_asked has prompt answer = one_asked (Confirm prompt answer) by
      where
        by : (kept : Entry) → (Confirm prompt answer ≡ kept) ⊎ (Confirm prompt answer ≡ unanswered kept) → kinds kept ≡ true
        by (Confirm q a) h = has.confirmed q a
        by (Asked q a) h = elim h [ inl k ↦ absurd cc | inr k ↦ absurd cc ]
        by (Dotenv q a) h = elim h [ inl k ↦ absurd cc | inr k ↦ absurd cc ]
        by (Line q a) h = elim h [ inl k ↦ absurd cc | inr k ↦ absurd cc ]
        by (Script q a) h = elim h [ inl k ↦ absurd cc | inr k ↦ absurd cc ]
        by (Show q) h = elim h [ inl k ↦ absurd cc | inr k ↦ absurd cc ]

    -- a command
    pub line_asked : HaveWork kinds → (job : CommandJob) (status : Status) → Follows goes b (Line job status ∷ []) c → Asks (Only kinds goes) b c
    line_asked has job status = one_asked (Line job status) by
      where
        by : (kept : Entry) → (Line job status ≡ kept) ⊎ (Line job status ≡ unanswered kept) → kinds kept ≡ true
        by (Line q a) h = has.lines q a
        by (Asked q a) h = elim h [ inl k ↦ absurd cc | inr k ↦ absurd cc ]
        by (Dotenv q a) h = elim h [ inl k ↦ absurd cc | inr k ↦ absurd cc ]
        by (Script q a) h = elim h [ inl k ↦ absurd cc | inr k ↦ absurd cc ]
        by (Confirm q a) h = elim h [ inl k ↦ absurd cc | inr k ↦ absurd cc ]
        by (Show q) h = elim h [ inl k ↦ absurd cc | inr k ↦ absurd cc ]

    -- a script
    pub script_asked : HaveWork kinds → (job : ScriptJob) (status : Status) → Follows goes b (Script job status ∷ []) c → Asks (Only kinds goes) b c
    script_asked has job status = one_asked (Script job status) by
      where
        by : (kept : Entry) → (Script job status ≡ kept) ⊎ (Script job status ≡ unanswered kept) → kinds kept ≡ true
        by (Script q a) h = has.scripts q a
        by (Asked q a) h = elim h [ inl k ↦ absurd cc | inr k ↦ absurd cc ]
        by (Dotenv q a) h = elim h [ inl k ↦ absurd cc | inr k ↦ absurd cc ]
        by (Line q a) h = elim h [ inl k ↦ absurd cc | inr k ↦ absurd cc ]
        by (Confirm q a) h = elim h [ inl k ↦ absurd cc | inr k ↦ absurd cc ]
        by (Show q) h = elim h [ inl k ↦ absurd cc | inr k ↦ absurd cc ]

-- ---- whatever the kinds

-- all kinds
abbrev pub every : Entry → Bool
every e = true

module _ {H : Type 0} (goes : H → List Entry → H → Type 0) (old new : Record H) where
  pub every_question : AsksQuestions goes old new → Asks (Only every goes) old new
  every_question asks = asks every (record { asked = λ q a. refl })

  pub every_request : AsksRequests goes old new → Asks (Only every goes) old new
  every_request asks = asks every (record { asked = λ q a. refl }) (record { requested = λ q a. refl })

  pub every_work : (dry : Bool) → AsksWork dry goes old new → Asks (Only every goes) old new
  every_work dry asks = asks every (record { asked = λ q a. refl }) (record { shown = λ t. refl; confirmed = λ p a. refl }) (λ e. record { lines = λ j s. refl; scripts = λ j s. refl })
