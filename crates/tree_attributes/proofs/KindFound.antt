-- Each kind is found by its name.
use Rattle.std.proofs.Common.{◌≡◌, ℕ, List, Some, refl, subst}
use Rattle.tree_attributes.specs.declared.attribute.AttributeKind.{AttributeKind}
use Rattle.tree_attributes.specs.declared.attribute.AttributeKind.TheVariants.{Android, Arg, Cache, Confirm, Default, Doc, Dragonfly, Env, ExitMessage, Extension, Freebsd, Group, Linux, Macos, Metadata, Netbsd, NoCd, NoExitMessage, NoQuiet, Openbsd, Parallel, PositionalArguments, Private, Script, Unix, Windows, WorkingDirectory}
use Rattle.tree_attributes.specs.Attributes.{kind_name}
use Rattle.tree_attributes.specs.Kinds.{named}
use Rattle.tree_attributes.specs.declared.kinds.TheConstants.{KINDS}

found_again : (kind : AttributeKind) → named (kind_name kind) KINDS ≡ Some kind
found_again Android = refl
found_again Arg = refl
found_again Cache = refl
found_again Confirm = refl
found_again Default = refl
found_again Doc = refl
found_again Dragonfly = refl
found_again Env = refl
found_again ExitMessage = refl
found_again Extension = refl
found_again Freebsd = refl
found_again Group = refl
found_again Linux = refl
found_again Macos = refl
found_again Metadata = refl
found_again Netbsd = refl
found_again NoCd = refl
found_again NoExitMessage = refl
found_again NoQuiet = refl
found_again Openbsd = refl
found_again Parallel = refl
found_again PositionalArguments = refl
found_again Private = refl
found_again Script = refl
found_again Unix = refl
found_again Windows = refl
found_again WorkingDirectory = refl

-- whatever text is a kind's name, that kind is found
pub found_by_name : (kind : AttributeKind) (text : List ℕ) → kind_name kind ≡ text → named text KINDS ≡ Some kind
found_by_name kind text is = subst (λ (name : List ℕ). named name KINDS ≡ Some kind) is (found_again kind)
