-- The rest leads on from the parts so far.
use Rattle.std.proofs.Common.{◌≡◌, length}
use denote.Text.{Utf8}
use denote.Shadow.{shadow}
use Rattle.modules_compilation.specs.Paths.{but_last, components, walk}
use Rattle.modules_compilation.specs.Tables.{texts}
use Rattle.modules_compilation.proofs.path.enter_folder.Given as goal

abbrev pub invariant-loop-component : goal.invariant-loop-component
invariant-loop-component l = shadow (Utf8 l.rest)
    × (walk (texts l.initial.parts.items) (but_last (components l.text)) ≡ walk (texts l.parts.items) (but_last (components l.rest)))
    × (walk (texts l.initial.parts.items) (components l.text) ≡ walk (texts l.parts.items) (components l.rest))

abbrev pub decreases-loop-component : goal.decreases-loop-component
decreases-loop-component l = length l.rest
