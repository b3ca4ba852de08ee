-- The naive meaning of a run: everything unfolded, nothing shared, and repeats dropped from the list that comes out.
use Rattle.std.proofs.Common.{zero, suc}
use Rattle.std.specs.Prelude.{◌≡◌, List, [], ◌∷◌, ◌++◌, ℕ, Bool, true, false, cond, ◌&&◌}
use Rattle.std.specs.List.{list_any}

-- how a part of a run ends: with what it gives, with a failure, or at what has no answer
pub data End (A Failure : Type 0) : Type 0 where
  went : A → End A Failure
  failed : Failure → End A Failure
  unanswered : End A Failure

-- what a part of a run hands over, and how it ends
pub record RunPart (Entry A Failure : Type 0) : Type 0 where
  pub events : List Entry
  pub end : End A Failure

-- What the steps of one call mean by fixed answers: its head (what it is bound to, and its confirmation), the calls before its body,
-- its body, and the calls after it.
pub record CallMeaning (Call Bound Entry Failure : Type 0) : Type 0 where
  pub head : Call → Bool → RunPart Entry Bound Failure
  pub priors : Call → Bool → Bound → End (List Call) Failure
  pub body : Call → Bool → Bound → RunPart Entry (Unit {0}) Failure
  pub subsequents : Call → Bool → Bound → End (List Call) Failure

-- nothing asks whether it is a dependency before the body, nor after it where subsequents share the table
pub record IsSteady {Call Bound Entry Failure : Type 0} (shares : Call → Bool) (m : CallMeaning Call Bound Entry Failure) (call : Call) : Type 0 where
  pub heads : m.head call true ≡ m.head call false
  pub groups : (bound : Bound) → (m.head call false).end ≡ went bound → m.priors call true bound ≡ m.priors call false bound
  pub late : shares call ≡ true → (bound : Bound) → (m.head call false).end ≡ went bound → m.subsequents call true bound ≡ m.subsequents call false bound

-- ---- parts in order

abbrev pub nothing : {Entry Failure : Type 0} → RunPart Entry (Unit {0}) Failure
nothing = record { events = []; end = went tt }

-- the end, without what it gives
abbrev pub ended : {A Failure : Type 0} → End A Failure → End (Unit {0}) Failure
ended (went a) = went tt
ended (failed failure) = failed failure
ended unanswered = unanswered

-- a part, and the next where that went through
abbrev pub after : {Entry Failure : Type 0} → List Entry → End (Unit {0}) Failure → RunPart Entry (Unit {0}) Failure → RunPart Entry (Unit {0}) Failure
after events (went u) next = record { events = events ++ next.events; end = next.end }
after events (failed failure) next = record { events = events; end = failed failure }
after events unanswered next = record { events = events; end = unanswered }

abbrev pub in_turn : {Entry Failure : Type 0} → RunPart Entry (Unit {0}) Failure → RunPart Entry (Unit {0}) Failure → RunPart Entry (Unit {0}) Failure
in_turn a b = after a.events a.end b

-- ---- trees, flattened

pub data Section : Type 0 where
  Head : Section
  Fault : Section
  Block : Section

abbrev pub same_section : Section → Section → Bool
same_section Head Head = true
same_section Block Block = true
same_section Fault Fault = true
same_section Head _ = false
same_section Fault _ = false
same_section Block _ = false

-- the head, the priors' fault or the block of a tree, and the call that it belongs to
pub record TreePiece (Call Entry Failure : Type 0) : Type 0 where
  pub section : Section
  pub owner : Call
  pub part : RunPart Entry (Unit {0}) Failure

abbrev pub repeats : {Call Entry Failure : Type 0} → (Call → Call → Bool) → TreePiece Call Entry Failure → TreePiece Call Entry Failure → Bool
repeats same p q = same_section p.section q.section && same p.owner q.owner

-- those pieces that repeat none of the earlier ones
abbrev pub firsts : {Call Entry Failure : Type 0} → (Call → Call → Bool) → List (TreePiece Call Entry Failure) → List (TreePiece Call Entry Failure) → List (TreePiece Call Entry Failure)
firsts same earlier [] = []
firsts same earlier (p ∷ ps) = cond (list_any (repeats same p) earlier) (firsts same (earlier ++ p ∷ []) ps) (p ∷ firsts same (earlier ++ p ∷ []) ps)

-- the pieces one after another, up to the first that doesn't go through
abbrev pub joined : {Call Entry Failure : Type 0} → List (TreePiece Call Entry Failure) → RunPart Entry (Unit {0}) Failure
joined [] = nothing
joined (p ∷ ps) = in_turn p.part (joined ps)

-- repeats dropped, and cut after the first failure
abbrev pub run_of : {Call Entry Failure : Type 0} → (Call → Call → Bool) → List (TreePiece Call Entry Failure) → RunPart Entry (Unit {0}) Failure
run_of same pieces = joined (firsts same [] pieces)

-- the trees of some calls, one after another
abbrev pub trees : {Call Entry Failure : Type 0} → (Call → List (TreePiece Call Entry Failure)) → List Call → List (TreePiece Call Entry Failure)
trees tree [] = []
trees tree (call ∷ calls) = tree call ++ trees tree calls

-- the subsequents' own run
abbrev pub subsequents_run : {Call Entry Failure : Type 0} → (Call → Call → Bool) → (Call → List (TreePiece Call Entry Failure)) → End (List Call) Failure → RunPart Entry (Unit {0}) Failure
subsequents_run same tree (went calls) = run_of same (trees tree calls)
subsequents_run same tree (failed failure) = record { events = []; end = failed failure }
subsequents_run same tree unanswered = record { events = []; end = unanswered }

-- after the body: the subsequents' own run, or where they share the table only what their arguments come to
abbrev pub behind_body : {Call Entry Failure : Type 0} → (Call → Call → Bool) → Bool → (Call → List (TreePiece Call Entry Failure)) → End (List Call) Failure → RunPart Entry (Unit {0}) Failure
behind_body same true tree (went calls) = nothing
behind_body same true tree (failed failure) = record { events = []; end = failed failure }
behind_body same true tree unanswered = record { events = []; end = unanswered }
behind_body same false tree groups = subsequents_run same tree groups

-- the subsequents' trees, where they share the table
abbrev pub trees_behind : {Call Entry Failure : Type 0} → Bool → (Call → List (TreePiece Call Entry Failure)) → End (List Call) Failure → List (TreePiece Call Entry Failure)
trees_behind true tree (went calls) = trees tree calls
trees_behind true tree (failed failure) = []
trees_behind true tree unanswered = []
trees_behind false tree groups = []

-- after a head that went through: the fault of the priors' arguments, or the priors' trees, the block and what stands after it
abbrev pub behind_head : {Call Entry Failure : Type 0} → (Call → List (TreePiece Call Entry Failure)) → Call → RunPart Entry (Unit {0}) Failure → List (TreePiece Call Entry Failure) → End (List Call) Failure → List (TreePiece Call Entry Failure)
behind_head tree call block more (went calls) = trees tree calls ++ record { section = Block; owner = call; part = block } ∷ more
behind_head tree call block more (failed failure) = record { section = Fault; owner = call; part = record { events = []; end = failed failure } } ∷ []
behind_head tree call block more unanswered = record { section = Fault; owner = call; part = record { events = []; end = unanswered } } ∷ []

module _ {Call Bound Entry Failure : Type 0} (same : Call → Call → Bool) (shares : Call → Bool) (m : CallMeaning Call Bound Entry Failure) where
  -- the block: the body, and what comes after it in the same part
  abbrev pub block_of : (Call → List (TreePiece Call Entry Failure)) → Call → Bool → Bound → RunPart Entry (Unit {0}) Failure
  block_of tree call flag bound = in_turn (m.body call flag bound) (behind_body same (shares call) tree (m.subsequents call flag bound))

  abbrev pub rest_of : (Call → List (TreePiece Call Entry Failure)) → Call → Bool → End Bound Failure → List (TreePiece Call Entry Failure)
  rest_of tree call flag (went bound) = behind_head tree call (block_of tree call flag bound) (trees_behind (shares call) tree (m.subsequents call flag bound)) (m.priors call flag bound)
  rest_of tree call flag (failed failure) = []
  rest_of tree call flag unanswered = []

  -- the tree of a call, over the trees of what it calls
  abbrev pub tree_of : (Call → List (TreePiece Call Entry Failure)) → Bool → Call → List (TreePiece Call Entry Failure)
  tree_of tree flag call =
      record { section = Head; owner = call; part = record { events = (m.head call flag).events; end = ended (m.head call flag).end } }
      ∷ rest_of tree call flag (m.head call flag).end

  -- The tree of a call, unfolded n deep. Where no call brings itself about, each number from some on gives the same.
  unfoldable pub tree : ℕ → Bool → Call → List (TreePiece Call Entry Failure)
  tree zero flag call = []
  tree (suc n) flag call = tree_of (tree n true) flag call

  -- the naive run of some calls, none of them a dependency
  abbrev pub naive : ℕ → List Call → RunPart Entry (Unit {0}) Failure
  naive n calls = run_of same (trees (tree n false) calls)
