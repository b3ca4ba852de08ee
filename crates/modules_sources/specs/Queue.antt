-- The modules above, and those that are still to load.
use Rattle.std.specs.Prelude.{◌≡◌, ℕ, Bool, false, cond, nat_eq, List, [], ◌∷◌, ◌++◌, map, Option, Some, None}
use Rattle.std.specs.BTreeSet.{BTreeSet}
use Rattle.std.specs.Borrow.{Bor}
use Rattle.std.specs.List.{IsDistinct, list_any}
use Rattle.std.specs.Str.{bytes_eq}
use Rattle.modules_files.specs.Found.{has_text}
use Rattle.modules_sources.specs.declared.queue.Loaded.{Loaded}
use Rattle.modules_sources.specs.declared.queue.Pending.{Pending}
use Rattle.modules_sources.specs.declared.queue.Queue.{Queue}

-- the keys of the files of modules that were loaded
abbrev pub chain_keys : List Loaded → List (List ℕ)
chain_keys chain = map (λ loaded. loaded.key.now) chain

-- this is the module that may be the parent
abbrev pub is_parent : Option ℕ → Loaded → Bool
is_parent None loaded = false
is_parent (Some parent) loaded = nat_eq parent loaded.module

-- the chain up to the last that is the parent; none where it has none
abbrev pub cut_to : Option ℕ → List Loaded → List Loaded
cut_to parent [] = []
cut_to parent (loaded ∷ chain) = cond (list_any (is_parent parent) (loaded ∷ chain)) (loaded ∷ cut_to parent chain) []

-- a key is one of these
abbrev pub is_among : List (List ℕ) → List ℕ → Bool
is_among keys key = list_any (bytes_eq key) keys

-- the keys are those of the chain, no two of which are the same
pub record IsChain (queue : Queue) : Type 0 where
  pub each : (key : List ℕ) → has_text queue.keys key ≡ is_among (chain_keys queue.chain.items) key
  pub distinct : IsDistinct bytes_eq (chain_keys queue.chain.items)

-- the chain cut to the parent of a module that was to be loaded, with that module, at this place, behind it
abbrev pub entered : List Loaded → Pending → ℕ → List Loaded
entered chain pending place = cut_to pending.parent chain ++ record { «module» = place; key = pending.source.key } ∷ []

-- these are the keys of the chain
abbrev pub AreKeysOf : BTreeSet (Bor (List ℕ)) → List Loaded → Type 0
AreKeysOf keys chain = (key : List ℕ) → has_text keys key ≡ is_among (chain_keys chain) key
