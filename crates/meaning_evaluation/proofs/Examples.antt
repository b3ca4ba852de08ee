-- Small cases that the definitions compute.
use Rattle.std.specs.Prelude.{◌≡◌, ℕ, List, [], ◌∷◌, true, codes}
use Rattle.std.proofs.Common.{refl}
use Rattle.tree_items.specs.Lines.{Piece, text}
use Rattle.meaning_evaluation.specs.Bodies.{front, rear, commands}
use Rattle.meaning_evaluation.specs.Named.{no_module, a_module, paths_of}

abbrev line_of : List ℕ → List Piece
line_of t = text t ∷ []

-- an interpreter is cut between characters: these are characters, not bytes
pub first_word : front (codes "/é/sh -e") ≡ codes "/é/sh"
first_word = refl

pub behind_word : rear (codes "/é/sh -e") ≡ codes " -e"
behind_word = refl

-- a comment that begins a command is left out alone, though it ends in a backslash; one that goes on with a line stays
pub comments : commands true (line_of (codes "# a \\") ∷ line_of (codes "b \\") ∷ line_of (codes "# c") ∷ line_of (codes "d") ∷ [])
    ≡ (line_of (codes "b \\") ∷ line_of (codes "# c") ∷ []) ∷ (line_of (codes "d") ∷ []) ∷ []
comments = refl

-- parents first, each with its own submodules before the next
pub modules : paths_of (a_module (codes "a") (a_module (codes "c") no_module no_module) (a_module (codes "b") no_module no_module))
    ≡ [] ∷ (codes "a" ∷ []) ∷ (codes "a" ∷ codes "c" ∷ []) ∷ (codes "b" ∷ []) ∷ []
modules = refl
