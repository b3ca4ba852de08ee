-- What modules ask for before their variables are evaluated, and why an opening ends early.
use Rattle.std.specs.Prelude.{◌≡◌, List, [], ◌∷◌, ◌++◌, Option, Some, None, Result, Ok, Err}
use Rattle.just_host.specs.declared.entry.Entry.{Entry}
use Rattle.just_host.specs.declared.entry.Entry.TheVariants.{Dotenv}
use Rattle.just_host.specs.declared.host.HostFault.{HostFault}
use Rattle.just_host.specs.declared.job.DotenvRequest.{DotenvRequest}
use Rattle.just_host.specs.declared.job.Pair.{Pair}
use Rattle.meaning_dialogues.specs.Faults.{Fault}

-- why an opening ends early
pub data OpeningFailure : Type 0 where
  dotenv : HostFault → OpeningFailure
  opening : Fault → OpeningFailure

-- the pairs that a module asks for, where its settings ask for any
pub data Requests : Option DotenvRequest → List Entry → List Entry → Result (List Pair) OpeningFailure → Type 0 where
  unasked : {log : List Entry} → Requests None log log (Ok [])
  told : {old new : List Entry} {request : DotenvRequest} {pairs : List Pair} → new ≡ old ++ Dotenv request (Ok pairs) ∷ [] → Requests (Some request) old new (Ok pairs)
  refused : {old new : List Entry} {request : DotenvRequest} {fault : HostFault} → new ≡ old ++ Dotenv request (Err fault) ∷ [] → Requests (Some request) old new (Err (dotenv fault))
