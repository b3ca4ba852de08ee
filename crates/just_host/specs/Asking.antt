-- What a call asks of the host.
use Rattle.std.specs.Prelude.{List}
use Rattle.just_host.specs.declared.entry.Entry.{Entry}
use Rattle.just_host.specs.Record.{Record}
use Rattle.just_host.specs.Follows.{Follows}

-- the record has grown by just what was asked, and the host went along by it
pub record IsAsked {H : Type 0} (goes : H → List Entry → H → Type 0) (old new : Record H) : Type 0 where
  pub piece : List Entry
  pub followed : Follows goes old piece new

-- from wherever the record before was come to by asking, so is the record after
abbrev pub Asks : {H : Type 0} → (H → List Entry → H → Type 0) → Record H → Record H → Type 0
Asks {H = H} goes old new = (start : Record H) → IsAsked goes start old → IsAsked goes start new
