-- A mark that may stand in front is read where it stands.
use Rattle.std.proofs.Common.{◌≡◌, ◌≤◌, Bool, true, false, List, length, map, refl, arith, inl, inr}
use Rattle.just_text.specs.Tokens.{Word}
use Rattle.just_text.specs.declared.token_kind.TokenKind.{TokenKind}
use Rattle.just_text.specs.declared.token_kind.TokenKind.TheVariants.{Asterisk, At, Dollar}
use Rattle.parse_expressions.specs.Words.{Mark, Lacks}
use Rattle.parse_expressions.specs.Reading.{accept}
use Rattle.parse_recipes.specs.Headers.{IsExported, IsStarred, IsQuiet}
use Rattle.parse_recipes.specs.Reading.{marked_at}
use Rattle.parse_expressions.proofs.TokensTaken.{mark_shorter, accept_mark, taken, none_taken}
use Rattle.parse_expressions.proofs.Taken.{inspect}

-- a mark of that kind, or nothing
abbrev pub IsMarked : TokenKind → Bool → List Word → List Word → Type 0
IsMarked kind true words rest = Mark kind words rest
IsMarked kind false words rest = words ≡ rest

pub exported : (b : Bool) (ws rest : List Word) → IsMarked Dollar b ws rest → IsExported b ws rest
exported true ws rest m = m
exported false ws rest m = m

pub exported-mark : (b : Bool) (ws rest : List Word) → IsExported b ws rest → IsMarked Dollar b ws rest
exported-mark true ws rest m = m
exported-mark false ws rest m = m

pub starred : (b : Bool) (ws rest : List Word) → IsMarked Asterisk b ws rest → IsStarred b ws rest
starred true ws rest m = m
starred false ws rest m = m

pub starred-mark : (b : Bool) (ws rest : List Word) → IsStarred b ws rest → IsMarked Asterisk b ws rest
starred-mark true ws rest m = m
starred-mark false ws rest m = m

pub quiet : (b : Bool) (ws rest : List Word) → IsMarked At b ws rest → IsQuiet b ws rest
quiet true ws rest m = m
quiet false ws rest m = m

pub quiet-mark : (b : Bool) (ws rest : List Word) → IsQuiet b ws rest → IsMarked At b ws rest
quiet-mark true ws rest m = m
quiet-mark false ws rest m = m

pub marked_no_longer : (kind : TokenKind) (b : Bool) (ws rest : List Word) → IsMarked kind b ws rest → length rest ≤ length ws
marked_no_longer kind true ws rest m = let p = mark_shorter kind ws rest m in omega arith
marked_no_longer kind false ws rest m = rw m (omega arith)

-- what no rest begins with, and the mark isn't, doesn't come first
pub marked_lacks : (kind other : TokenKind) (b : Bool) (ws rest : List Word) → IsMarked kind b ws rest → ((a : List Word) → Mark kind ws a → Lacks other ws) → Lacks other rest → Lacks other ws
marked_lacks kind other true ws rest m with_mark l = with_mark rest m
marked_lacks kind other false ws rest m with_mark l = rw m l

module _ {T : Type 0} (word : T → Word) where
  pub marked_found : (kind : TokenKind) (ts : List T) → IsMarked kind (marked_at word kind ts).0 (map word ts) (map word (marked_at word kind ts).1)
  unfolding marked_at
  marked_found kind ts =
      elim (inspect (accept word kind ts)) [
        | inl w ↦ rw w refl
        | inr w ↦ rw w.1 (accept_mark word kind ts w.0 w.1)
      ]

  -- the mark is read, and after it come these words
  pub record Marked (kind : TokenKind) (b : Bool) (ts : List T) (ws : List Word) : Type 0 where
    pub rest : List T
    pub is : marked_at word kind ts ≡ (b, rest)
    pub others : map word rest ≡ ws

  pub no_mark : (kind : TokenKind) (ts : List T) → Lacks kind (map word ts) → marked_at word kind ts ≡ (false, ts)
  unfolding marked_at
  no_mark kind ts l = rw (none_taken word kind ts l) refl

  pub marked_again : (kind : TokenKind) (b : Bool) (ts : List T) (ws : List Word) → IsMarked kind b (map word ts) ws → Lacks kind ws → Marked kind b ts ws
  unfolding marked_at
  marked_again kind true ts ws m l = let t = taken word kind m.0 ts ws m.1 in record { rest = t.rest; is = rw t.accepts refl; others = t.others }
  marked_again kind false ts ws m l = record { rest = ts; is = no_mark kind ts (rw m l); others = m }
