-- Two kinds of attributes are the same where their names are.
use Rattle.std.proofs.Common.{◌≡◌, ℕ, Bool, true, false, List, [], ◌∷◌, Some, refl, sym, ap, ◌∙◌, arith, inl, inr, ◌⊎◌}
use Rattle.std.specs.Prelude.{bytes_eq}
use Rattle.std.proofs.lemmas.Slice.Eq.{bytes_eq-Decides}
use Rattle.tree_attributes.specs.Attributes.{kind_name}
use Rattle.tree_attributes.specs.Kinds.{named}
use Rattle.tree_attributes.specs.declared.attribute.AttributeKind.{AttributeKind}
use Rattle.tree_attributes.specs.declared.attribute.AttributeKind.TheVariants.{Android, Arg, Cache, Confirm, Default, Doc, Dragonfly, Env, ExitMessage, Extension, Freebsd, Group, Linux, Macos, Metadata, Netbsd, NoCd, NoExitMessage, NoQuiet, Openbsd, Parallel, PositionalArguments, Private, Script, Unix, Windows, WorkingDirectory}
use Rattle.tree_attributes.specs.contracts.attribute.AttributeKind.{the_type}
use denote.Enum.Bare.{sameb, same_true, true_same}

abbrev kinds : List AttributeKind
kinds =
    Android ∷ Arg ∷ Cache ∷ Confirm ∷ Default ∷ Doc ∷ Dragonfly ∷ Env ∷ ExitMessage ∷ Extension ∷ Freebsd ∷ Group ∷ Linux ∷ Macos ∷ Metadata ∷ Netbsd ∷ NoCd ∷ NoExitMessage ∷ NoQuiet ∷ Openbsd ∷ Parallel ∷ PositionalArguments ∷ Private ∷ Script ∷ Unix ∷ Windows ∷ WorkingDirectory ∷ []

-- each kind is found by its name
found : (kind : AttributeKind) → named (kind_name kind) kinds ≡ Some kind
found Android = refl
found Arg = refl
found Cache = refl
found Confirm = refl
found Default = refl
found Doc = refl
found Dragonfly = refl
found Env = refl
found ExitMessage = refl
found Extension = refl
found Freebsd = refl
found Group = refl
found Linux = refl
found Macos = refl
found Metadata = refl
found Netbsd = refl
found NoCd = refl
found NoExitMessage = refl
found NoQuiet = refl
found Openbsd = refl
found Parallel = refl
found PositionalArguments = refl
found Private = refl
found Script = refl
found Unix = refl
found Windows = refl
found WorkingDirectory = refl

of_one_name : (a b : AttributeKind) → kind_name a ≡ kind_name b → a ≡ b
of_one_name a b h =
    let both : Some a ≡ Some b = sym (found a) ∙ ap (λ (text : List ℕ). named text kinds) h ∙ found b in cc

either : (b : Bool) → (b ≡ true) ⊎ (b ≡ false)
either true = inl refl
either false = inr refl

pub same_names : (a b : AttributeKind) → bytes_eq (kind_name a) (kind_name b) ≡ sameb the_type a b
same_names a b =
    elim (either (bytes_eq (kind_name a) (kind_name b))) [
      | inl w ↦
          let names : kind_name a ≡ kind_name b = grind (arith, w, bytes_eq-Decides (kind_name a) (kind_name b)) in
          rw (w, true_same the_type a b (of_one_name a b names)) refl
      | inr w ↦ elim (either (sameb the_type a b)) [
        | inl v ↦
            let kinds : a ≡ b = same_true the_type tt a b v in
            let names : kind_name a ≡ kind_name b = ap kind_name kinds in
            let same : bytes_eq (kind_name a) (kind_name b) ≡ true = grind (arith, names, bytes_eq-Decides (kind_name a) (kind_name b)) in
            rw (same, v) refl
        | inr v ↦ rw (w, v) refl
      ]
    ]
