-- Refusals of texts, and of imports among others, by the rules that they name.
use Rattle.std.proofs.Common.{◌≡◌, ◌⊎◌, inl, inr, sym, ◌∙◌, ap, subst, Bool, true, false, ℕ, Option, Some, None, refl}
use Rattle.std.specs.Prelude.{option_map}
use Rattle.std.specs.BTreeMap.{BTreeMap}
use Rattle.std.specs.declared.string.String.{String}
use Rattle.std.proofs.lemmas.Option.{none-some, same_Some}
use Rattle.just_text.specs.declared.os.Os.{Os}
use Rattle.just_text.specs.declared.compile_error.CompileError.{CompileError}
use Rattle.just_text.specs.declared.compile_error.CompileErrorKind.{CompileErrorKind}
use Rattle.just_text.specs.declared.compile_error.CompileErrorKind.TheVariants.{NumbersUsed, OutOfMemory}
use Rattle.justfile_syntax.specs.Reads.{IsRefusal, IsSyntaxFault}
use Rattle.parse_expressions.specs.Literals.{Expansion}
use Rattle.parse_recipes.specs.Numbering.{AreUsed}
use Rattle.just_text.specs.Numbers.{Numbers}
use Rattle.semver.specs.declared.Version.{Version}
use Rattle.modules_compilation.specs.declared.error.Error.{Error}
use Rattle.modules_compilation.specs.declared.error.Error.TheVariants.{OutOfMemory as no_memory, Syntax, CircularImport, MissingImport}
use Rattle.modules_files.specs.Chosen.{File}
use Rattle.modules_files.specs.Found.{file_at, source_of}
use Rattle.modules_sources.specs.Loading.{IsUnread, refusal_by}
use Rattle.modules_sources.specs.Submodules.{IsCircular}
use Rattle.meaning_rules.specs.Worlds.Given.{Overrides, Text, World}
use Rattle.meaning_rules.specs.Worlds.Sources.{ImportsAt, Reached}
use Rattle.meaning_rules.specs.Worlds.Standing.{StandsFor}
use Rattle.meaning_rules.specs.Rules.{Broken, IsRound, LeadsNowhere, Rule, circular_import, is_of_files, missing_import, syntax}
use Rattle.meaning_rules.specs.Told.{IsTold, IsWant, rule_of}
use Rattle.meaning_rules.specs.Worlds.Views.{given_of}

-- a rule on files is broken whatever files say together
of_files : (w : World) (rule : Rule) → is_of_files rule ≡ true → is_of_files rule ≡ false → ⊥
of_files w rule e f = let g : true ≡ false = sym e ∙ f in absurd (cc g)

module _ (w : World) (o : Overrides) (refusal : Error) where
  -- an import that must be there leads nowhere
  pub import_told : (told : Text) → refusal ≡ MissingImport told → (file : Text) (place : ℕ) (path : Text) → Reached w file → ImportsAt w file place false path → LeadsNowhere w file path told → IsTold (Broken w o) refusal
  import_told told is file place path r line nowhere =
      inr (missing_import told, ap rule_of is, record { said = λ e. absurd (of_files w (missing_import told) refl e); breaks = (file, place, path, r, line, nowhere) })

  -- the rule that a refusal of a circle names
  circular_is : (current other : Text) → IsCircular refusal current other → rule_of refusal ≡ Some (circular_import current other)
  circular_is current other h = by_refusal refusal h
    where
      by_refusal : (r : Error) → IsCircular r current other → rule_of r ≡ Some (circular_import current other)
      by_refusal (CircularImport a b) h = ap (λ z. Some (circular_import z b.now)) h.0 ∙ ap (λ z. Some (circular_import current z)) h.1
      by_refusal others h = absurd h

  -- files go round
  pub round_told : (current other : Text) → IsCircular refusal current other → Reached w current → IsRound w current other → IsTold (Broken w o) refusal
  round_told current other is r round =
      inr (circular_import current other, circular_is current other is, record { said = λ e. absurd (of_files w (circular_import current other) refl e); breaks = (r, round) })

module _ {Y Z : Type 0} (sources : BTreeMap (String Y) (String Z)) (os : Os) (unstable : Bool) (expansion : Expansion) (version : Version) (root : Text) (w : World) (s : StandsFor (given_of sources os unstable expansion version root) w) where
  -- the text of a file that is there
  text_of : (key : Text) (text : Option Text) (source : File) → option_map (λ t. (key, t)) text ≡ Some source → text ≡ Some source.1
  text_of key None source e = absurd (none-some source e)
  text_of key (Some text) source e = ap (λ z. Some z.1) (same_Some (key, text) source e)

  -- why a text is refused
  abbrev Reasons : CompileErrorKind → CompileError → Type 0 → Text → Type 0
  Reasons kind error used text =
      (refusal_by kind error ≡ no_memory) ⊎ ((kind ≡ NumbersUsed) × (refusal_by kind error ≡ Syntax error)) ⊎ ((refusal_by kind error ≡ Syntax error) × IsSyntaxFault expansion version text kind)

  -- each refusal has one of these
  reasons : (kind : CompileErrorKind) (error : CompileError) (used : Type 0) (text : Text) → IsRefusal expansion version used text kind → Reasons kind error used text
  reasons OutOfMemory error used text h = inl refl
  reasons NumbersUsed error used text h = inr (inl (refl, refl))
  reasons others error used text h = inr (inr (refl, h))

  -- a text that is refused breaks the rule of its fault
  pub unread_told : (owner depth : ℕ) (source : File) (used : Numbers) (refusal : Error) → IsUnread expansion version owner depth source used refusal → Reached w source.0
      → file_at sources (Some source.0) ≡ Some source → (o : Overrides) → IsTold (Broken w o) refusal
  unread_told owner depth source used refusal u r known o = elim (reasons u.error.kind u.error (AreUsed used) source.1 u.reason) [
    | inl e ↦ inl (subst IsWant (sym (u.told ∙ e)) tt)
    | inr p ↦ elim p [
      | inl q ↦ inl (subst IsWant (sym (u.told ∙ q.1)) q.0)
      | inr q ↦ inr (
        syntax u.error.kind,
        ap rule_of (u.told ∙ q.0),
        record {
          said = λ e. absurd (of_files w (syntax u.error.kind) refl e);
          breaks = inl (source.0, r, (s.refused source.0 r u.error.kind).1 (record { text = source.1; found = text_of source.0 (source_of sources source.0) source known; fault = q.1 }));
        },
      )
    ]
  ]
