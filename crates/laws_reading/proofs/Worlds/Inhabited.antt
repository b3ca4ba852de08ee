-- The world of a call that is given texts.
use Rattle.std.proofs.Common.{◌≡◌, Bool, true, false, Option, Some, None, List, refl, sym, ap, ◌∙◌, subst, inl, inr}
use Rattle.std.specs.Prelude.{◌↔◌, is_some}
use Rattle.std.specs.Option.{option_map}
use Rattle.std.proofs.lemmas.Option.{none-some, same_Some}
use Rattle.just_text.specs.declared.compile_error.CompileErrorKind.{CompileErrorKind}
use Rattle.tree_items.specs.Files.{ItemShape}
use Rattle.justfile_syntax.specs.Laws.{FilesHold}
use Rattle.justfile_syntax.specs.Reads.{IsSyntaxFault, Reads}
use Rattle.laws_reading.specs.Tokens.Laws.{Decidable}
use Rattle.laws_reading.proofs.Tokens.Decidable.{told_by}
use Rattle.meaning_rules.specs.Worlds.Given.{Given, Text, World, filled}
use Rattle.meaning_rules.specs.Worlds.Standing.{IsFaultAt, SaysFilled, StandsFor}
use Rattle.laws_reading.specs.Worlds.Laws.{WorldsAreGiven}
use Rattle.meaning_rules.specs.Worlds.Inhabited.{HasTexts}
use Rattle.laws_reading.proofs.Worlds.Texts.{refusal_told, said_of}

flag : {A : Type 0} → Decidable A → (b : Bool) × ((b ≡ true) ↔ A)
flag (inl a) = (true, (λ e. a, λ x. refl))
flag (inr f) = (false, (λ e. absurd (let t : false ≡ true = e in cc), λ x. absurd (f x)))

some_mapped : (said : Option (List ItemShape)) (items : List ItemShape) → option_map filled said ≡ Some items → (all : List ItemShape) × (said ≡ Some all) × (filled all ≡ items)
some_mapped None items e = absurd (none-some items e)
some_mapped (Some all) items e = (all, refl, same_Some (filled all) items e)

module _ (tokens_read : FilesHold) (given : Given) (texts : HasTexts given) where
  abbrev Says : Text → Type 0
  Says key = (said : Option (List ItemShape)) × ((items : List ItemShape) → (said ≡ Some items) ↔ SaysFilled given key items)

  says_in : (key : Text) (source : Option Text) → given.source key ≡ source → Says key
  says_in key None e = (None, λ items. (λ s. absurd (none-some items s), λ f. absurd (none-some f.text (sym e ∙ f.found))))
  says_in key (Some text) e =
      let s = said_of tokens_read given.expansion given.version text (texts key text e) in (
        option_map filled s.0,
        λ items. (
          λ m. let p = some_mapped s.0 items m in record { text = text; found = e; all = p.0; reads = (s.1 p.0).0 p.1; are = p.2 },
          λ f.
              let same : f.text ≡ text = same_Some f.text text (sym f.found ∙ e) in
              ap (option_map filled) ((s.1 f.all).1 (subst (λ t. Reads given.expansion given.version t f.all) same f.reads)) ∙ ap Some f.are,
        ),
      )

  fault_in : (key : Text) (source : Option Text) → given.source key ≡ source → (kind : CompileErrorKind) → Decidable (IsFaultAt given key kind)
  fault_in key None e kind = inr (λ f. none-some f.text (sym e ∙ f.found))
  fault_in key (Some text) e kind =
      told_by
      (λ h. record { text = text; found = e; fault = h })
      (λ f. subst (λ t. IsSyntaxFault given.expansion given.version t kind) (same_Some f.text text (sym f.found ∙ e)) f.fault)
      (refusal_told tokens_read given.expansion given.version text (texts key text e) kind)

  the_world : World
  the_world = record {
    os = given.os;
    unstable = given.unstable;
    expansion = given.expansion;
    root = given.root;
    there = λ key. is_some (given.source key);
    said = λ key. (says_in key (given.source key) refl).0;
    refused = λ key kind. (flag (fault_in key (given.source key) refl kind)).0;
  }

  stands : StandsFor given the_world
  unfolding the_world
  stands = record {
    same_os = refl;
    same_unstable = refl;
    same_expansion = refl;
    same_root = refl;
    there = λ key. refl;
    said = λ key r items. (says_in key (given.source key) refl).1 items;
    refused = λ key r kind. (flag (fault_in key (given.source key) refl kind)).1;
  }

pub worlds_are_given : WorldsAreGiven
worlds_are_given tokens_read given texts = (the_world tokens_read given texts, stands tokens_read given texts)
