-- What holds of each item of a file holds too where an item and blank lines stand after them.
use Rattle.std.proofs.Common.{◌≡◌, ℕ, List, [], ◌∷◌, ◌++◌, replicate}
use Rattle.std.proofs.lemmas.List.Elements.{All-append, All-cons, All-nil, All-replicate, All-same}
use Rattle.std.specs.List.{All}
use Rattle.tree_items.specs.declared.ast.Item.{Item}
use Rattle.tree_items.specs.declared.ast.Item.TheVariants.{Newline}
use Rattle.parse_attributed_items.specs.Held.{IsItemCooked, IsWholeAttribute}
use Rattle.parse_expressions.specs.Literals.{Origin}

pub none_held : (P : Item → Type 0) (items : List Item) → items ≡ [] → All P items
none_held P items none = All-same P items [] none (All-nil P)

pub one_held : (P : Item → Type 0) → P Newline → (items : List Item) (i : Item) (blanks : ℕ) → All P items → P i → All P (items ++ i ∷ replicate blanks Newline)
one_held P of_blank items i blanks these this = All-append P items (i ∷ replicate blanks Newline) these (All-cons P i (replicate blanks Newline) this (All-replicate P blanks Newline of_blank))

pub blank_cooked : (origin : Origin) → IsItemCooked origin Newline
blank_cooked origin = record { attributes = All-nil (IsWholeAttribute origin); inside = tt }
