-- Laws of what is asked, which crates above cite.
use Rattle.std.proofs.Common.{List, [], ◌++◌}
use Rattle.just_host.specs.declared.entry.Entry.{Entry}
use Rattle.just_host.specs.Record.{Record}
use Rattle.just_host.specs.Follows.{Follows, Nothing, Joins}
use Rattle.just_host.specs.Steps.{idle, then}
use Rattle.just_host.specs.Asking.{IsAsked, Asks}

-- nothing is asked
pub asked_nothing : {H : Type 0} (goes : H → List Entry → H → Type 0) → Nothing goes → (a : Record H) → IsAsked goes a a
asked_nothing goes nothing a = record { piece = []; followed = idle goes nothing a }

-- what is asked after what was asked
pub asked_then : {H : Type 0} (goes : H → List Entry → H → Type 0) → Joins goes → (b c : Record H) (more : List Entry) → Follows goes b more c → Asks goes b c
asked_then goes joins b c more step start asked = record { piece = asked.piece ++ more; followed = then goes joins start b c asked.piece more asked.followed step }
