-- What contracts see of a recorded host.
use Rattle.std.specs.Prelude.{List, Bool}
use Rattle.just_host.specs.declared.entry.Entry.{Entry}

-- the host as it is, what it was asked in order with the answers, and whether want of memory ended the asking
pub record Record (H : Type 0) : Type 0 where
  pub host : H
  pub entries : List Entry
  pub exhausted : Bool
