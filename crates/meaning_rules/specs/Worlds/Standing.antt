-- Which world the arguments of a call stand for.
use Rattle.std.specs.Prelude.{◌≡◌, ◌↔◌, true, List, Some, is_some}
use Rattle.just_text.specs.declared.compile_error.CompileErrorKind.{CompileErrorKind}
use Rattle.tree_items.specs.Files.{ItemShape}
use Rattle.justfile_syntax.specs.Reads.{Reads, IsSyntaxFault}
use Rattle.justfile_syntax.specs.Laws.{FaultsSayNothing, SaysAtMostOne}
use Rattle.meaning_rules.specs.Worlds.Given.{Text, Given, World, filled}
use Rattle.meaning_rules.specs.Worlds.Sources.{Reached}

module _ (given : Given) where
  -- the text at the key says these items, blank lines left out
  pub record SaysFilled (key : Text) (items : List ItemShape) : Type 0 where
    pub text : Text
    pub found : given.source key ≡ Some text
    pub all : List ItemShape
    pub reads : Reads given.expansion given.version text all
    pub are : filled all ≡ items

  -- the text at the key says nothing for that reason
  pub record IsFaultAt (key : Text) (kind : CompileErrorKind) : Type 0 where
    pub text : Text
    pub found : given.source key ≡ Some text
    pub fault : IsSyntaxFault given.expansion given.version text kind

-- Files are there where texts are, and those that are reached say what their texts say. Of other files it doesn't matter what they hold.
pub record StandsFor (given : Given) (w : World) : Type 0 where
  pub same_os : w.os ≡ given.os
  pub same_unstable : w.unstable ≡ given.unstable
  pub same_expansion : w.expansion ≡ given.expansion
  pub same_root : w.root ≡ given.root
  pub there : (key : Text) → w.there key ≡ is_some (given.source key)
  pub said : (key : Text) → Reached w key → (items : List ItemShape) → (w.said key ≡ Some items) ↔ SaysFilled given key items
  pub refused : (key : Text) → Reached w key → (kind : CompileErrorKind) → (w.refused key kind ≡ true) ↔ IsFaultAt given key kind

-- Two calls are given the same but for blank lines in files that are reached, and for other files' contents.
pub record DifferUnseen (w : World) (given other : Given) : Type 0 where
  pub same_os : given.os ≡ other.os
  pub same_unstable : given.unstable ≡ other.unstable
  pub same_expansion : given.expansion ≡ other.expansion
  pub same_root : given.root ≡ other.root
  pub there : (key : Text) → is_some (given.source key) ≡ is_some (other.source key)
  pub said : (key : Text) → Reached w key → (items : List ItemShape) → SaysFilled given key items ↔ SaysFilled other key items
  pub refused : (key : Text) → Reached w key → (kind : CompileErrorKind) → IsFaultAt given key kind ↔ IsFaultAt other key kind

-- At the key both have one text, or two that say the same but for blank lines (as a text and its formatted one do).
pub data SaysAlike (given other : Given) (key : Text) : Type 0 where
  one_text : given.source key ≡ other.source key → SaysAlike given other key
  two_texts : (a b : Text) (xs ys : List ItemShape) → given.source key ≡ Some a → other.source key ≡ Some b
      → Reads given.expansion given.version a xs → Reads given.expansion given.version b ys → filled xs ≡ filled ys → SaysAlike given other key

-- two calls are given the same but for the layout of files that are reached, and for other files' contents
pub record DifferInLayout (w : World) (given other : Given) : Type 0 where
  pub same_os : given.os ≡ other.os
  pub same_unstable : given.unstable ≡ other.unstable
  pub same_expansion : given.expansion ≡ other.expansion
  pub same_version : given.version ≡ other.version
  pub same_root : given.root ≡ other.root
  pub there : (key : Text) → is_some (given.source key) ≡ is_some (other.source key)
  pub alike : (key : Text) → Reached w key → SaysAlike given other key

-- by laws of the syntax: a text says the items of one file at most, and one that is refused none
abbrev pub LayoutIsUnseen : Type 0
LayoutIsUnseen = SaysAtMostOne → FaultsSayNothing → (w : World) (given other : Given) → DifferInLayout w given other → DifferUnseen w given other

-- such calls stand for one world
abbrev pub UnseenIsUnsaid : Type 0
UnseenIsUnsaid = (given other : Given) (w : World) → DifferUnseen w given other → StandsFor given w → StandsFor other w

-- two worlds for one call reach the same files, which say the same in both
pub record SameReached (w other : World) : Type 0 where
  pub reached : (key : Text) → Reached w key → Reached other key
  pub said : (key : Text) → Reached w key → w.said key ≡ other.said key

abbrev pub WorldsAgree : Type 0
WorldsAgree = (given : Given) (w other : World) → StandsFor given w → StandsFor given other → SameReached w other
