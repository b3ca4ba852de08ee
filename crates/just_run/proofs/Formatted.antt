-- What a call answers is an answer of a call over sources of which some stand in their formatted text.
use Rattle.std.proofs.Common.{◌≡◌, ◌⊎◌, inl, inr, ◌∙◌, refl, sym, ap, subst, ℕ, Bool, true, false, cond, List, Option, Some, None, Result}
use Rattle.std.proofs.lemmas.Option.{none-some, same_Some}
use Rattle.std.specs.BTreeMap.{BTreeMap}
use Rattle.std.specs.Prelude.{String}
use Rattle.just_host.specs.declared.config.Config.{Config}
use Rattle.just_host.specs.declared.entry.Entry.{Entry}
use Rattle.parse_expressions.specs.Literals.{Expansion}
use Rattle.semver.specs.declared.Version.{Version}
use Rattle.just_text.specs.declared.compile_error.CompileErrorKind.{CompileErrorKind}
use Rattle.just_text.specs.declared.compile_error.CompileErrorKind.TheVariants as kinds
use Rattle.tree_items.specs.Files.{ItemShape, file_text}
use Rattle.parse_recipes.specs.Numbering.{AreUsed}
use Rattle.justfile_syntax.specs.Laws.{FaultsSayNothing, SaysAtMostOne}
use Rattle.justfile_syntax.specs.Reads.{IsRefusal, IsSyntaxFault, Reads}
use Rattle.modules_compilation.specs.Paths.{is_clean}
use Rattle.modules_files.specs.Found.{source_of}
use Rattle.meaning_rules.specs.Worlds.Given.{Given, Text}
use Rattle.meaning_rules.specs.Worlds.Reformatted.{FormatsSome, IsFormattedAt, IsReformatted}
use Rattle.laws_printing.proofs.Reformatted.Texts.{stand_alike}
use Rattle.meaning_rules.specs.Worlds.Views.{given_of}
use Rattle.run_tasks.specs.declared.action.Action.{Action}
use Rattle.laws_printing.specs.Formatted.Formatted.{PrintsBack}
use Rattle.just_run.proofs.TellsAlike.{tells_too}
use Rattle.just_run.specs.Drives.{Drives, State}
use Rattle.just_run.specs.Named.{Left}
use Rattle.just_run.specs.Root.{Inputs, IsNoJustfile, IsUnread, Reader, inputs_of, reader_of, text_at}
use Rattle.just_run.specs.Sources.{AnswersSources, Asked, read, unread}
use Rattle.just_run.specs.declared.fault.Fault.{Fault}
use Rattle.just_run.specs.declared.root.RootFault.{RootFault}
use Rattle.just_run.specs.declared.root.RootFault.TheVariants as roots
use Rattle.just_run.specs.declared.outcome.Outcome.{Outcome}

-- at a clean path both have what their sources have
formats_at : {Y Z : Type 0} (expansion : Expansion) (version : Version) (sources other : BTreeMap (String Y) (String Z)) → FormatsSome expansion version (source_of sources) (source_of other) → FormatsSome expansion version (text_at sources) (text_at other)
formats_at expansion version sources other formats key = by_test (is_clean key) refl
  where
    by_test : (b : Bool) → is_clean key ≡ b → (text_at sources key ≡ text_at other key) ⊎ IsFormattedAt expansion version (text_at sources) (text_at other) key
    by_test false e = rw e (inl refl)
    by_test true e = elim (formats key) [
      | inl same ↦ rw e (inl same)
      | inr f ↦ inr (record {
        text = f.text;
        found = ap (λ b. cond b (source_of sources key) None) e ∙ f.found;
        valid = f.valid;
        items = f.items;
        reads = f.reads;
        printed = f.printed;
        indentation = f.indentation;
        indents = f.indents;
        formatted = ap (λ b. cond b (source_of other key) None) e ∙ f.formatted;
      })
    ]

-- a text that says items is refused for want of memory or of numbers alone, for which any text may be
refused_else : FaultsSayNothing → (reader : Reader) (used : Type 0) (text other : List ℕ) (items : List ItemShape) → Reads reader.expansion reader.version text items → (kind : CompileErrorKind)
    → IsRefusal reader.expansion reader.version used text kind → IsRefusal reader.expansion reader.version used other kind
refused_else faultless reader used text other items reads kinds.OutOfMemory h = tt
refused_else faultless reader used text other items reads kinds.NumbersUsed h = h
refused_else faultless reader used text other items reads (kinds.UnknownStartOfToken c) h = absurd (faultless reader.expansion reader.version text (kinds.UnknownStartOfToken c) h items reads)
refused_else faultless reader used text other items reads kinds.UnpairedCarriageReturn h = absurd (faultless reader.expansion reader.version text kinds.UnpairedCarriageReturn h items reads)
refused_else faultless reader used text other items reads (kinds.UnexpectedCharacter expected) h = absurd (faultless reader.expansion reader.version text (kinds.UnexpectedCharacter expected) h items reads)
refused_else faultless reader used text other items reads kinds.UnterminatedString h = absurd (faultless reader.expansion reader.version text kinds.UnterminatedString h items reads)
refused_else faultless reader used text other items reads kinds.UnterminatedBacktick h = absurd (faultless reader.expansion reader.version text kinds.UnterminatedBacktick h items reads)
refused_else faultless reader used text other items reads kinds.UnterminatedInterpolation h = absurd (faultless reader.expansion reader.version text kinds.UnterminatedInterpolation h items reads)
refused_else faultless reader used text other items reads (kinds.InvalidEscapeSequence escape) h = absurd (faultless reader.expansion reader.version text (kinds.InvalidEscapeSequence escape) h items reads)
refused_else faultless reader used text other items reads (kinds.MismatchedClosingDelimiter opener closer) h = absurd (faultless reader.expansion reader.version text (kinds.MismatchedClosingDelimiter opener closer) h items reads)
refused_else faultless reader used text other items reads (kinds.UnexpectedClosingDelimiter closer) h = absurd (faultless reader.expansion reader.version text (kinds.UnexpectedClosingDelimiter closer) h items reads)
refused_else faultless reader used text other items reads (kinds.ShellExpansion refused) h = absurd (faultless reader.expansion reader.version text (kinds.ShellExpansion refused) h items reads)
refused_else faultless reader used text other items reads kinds.MixedLeadingWhitespace h = absurd (faultless reader.expansion reader.version text kinds.MixedLeadingWhitespace h items reads)
refused_else faultless reader used text other items reads kinds.InconsistentLeadingWhitespace h = absurd (faultless reader.expansion reader.version text kinds.InconsistentLeadingWhitespace h items reads)
refused_else faultless reader used text other items reads kinds.ExtraLeadingWhitespace h = absurd (faultless reader.expansion reader.version text kinds.ExtraLeadingWhitespace h items reads)
refused_else faultless reader used text other items reads (kinds.UnexpectedToken found) h = absurd (faultless reader.expansion reader.version text (kinds.UnexpectedToken found) h items reads)
refused_else faultless reader used text other items reads kinds.ParsingRecursionDepthExceeded h = absurd (faultless reader.expansion reader.version text kinds.ParsingRecursionDepthExceeded h items reads)
refused_else faultless reader used text other items reads kinds.BacktickShebang h = absurd (faultless reader.expansion reader.version text kinds.BacktickShebang h items reads)
refused_else faultless reader used text other items reads (kinds.UnknownSetting name) h = absurd (faultless reader.expansion reader.version text (kinds.UnknownSetting name) h items reads)
refused_else faultless reader used text other items reads (kinds.UnknownAttribute name) h = absurd (faultless reader.expansion reader.version text (kinds.UnknownAttribute name) h items reads)
refused_else faultless reader used text other items reads (kinds.AttributeArgumentCount name found) h = absurd (faultless reader.expansion reader.version text (kinds.AttributeArgumentCount name found) h items reads)
refused_else faultless reader used text other items reads (kinds.InvalidAttribute name item) h = absurd (faultless reader.expansion reader.version text (kinds.InvalidAttribute name item) h items reads)
refused_else faultless reader used text other items reads (kinds.DuplicateAttribute name) h = absurd (faultless reader.expansion reader.version text (kinds.DuplicateAttribute name) h items reads)
refused_else faultless reader used text other items reads (kinds.DuplicateParameter name) h = absurd (faultless reader.expansion reader.version text (kinds.DuplicateParameter name) h items reads)
refused_else faultless reader used text other items reads (kinds.ParameterFollowsVariadic name) h = absurd (faultless reader.expansion reader.version text (kinds.ParameterFollowsVariadic name) h items reads)
refused_else faultless reader used text other items reads (kinds.RequiredParameterFollowsDefault name) h = absurd (faultless reader.expansion reader.version text (kinds.RequiredParameterFollowsDefault name) h items reads)
refused_else faultless reader used text other items reads (kinds.MinimumVersion required current) h = absurd (faultless reader.expansion reader.version text (kinds.MinimumVersion required current) h items reads)
refused_else faultless reader used text other items reads kinds.GuardAndInfallible h = absurd (faultless reader.expansion reader.version text kinds.GuardAndInfallible h items reads)
refused_else faultless reader used text other items reads kinds.TwoStars h = absurd (faultless reader.expansion reader.version text kinds.TwoStars h items reads)
refused_else faultless reader used text other items reads (kinds.InvalidSetting name given) h = absurd (faultless reader.expansion reader.version text (kinds.InvalidSetting name given) h items reads)

module _ (faultless : FaultsSayNothing) (i : Inputs) (source : List ℕ → Option (List ℕ)) (formats : FormatsSome i.reader.expansion i.reader.version i.source source) where
  -- the same call over the other texts
  abbrev other : Inputs
  other = record i { source = source }

  -- where there is no text, there is none among the others
  missing_too : (path : List ℕ) → i.source path ≡ None → source path ≡ None
  missing_too path none = elim (formats path) [ inl same ↦ sym same ∙ none | inr f ↦ absurd (none-some f.text (sym none ∙ f.found)) ]

  refused_too : (kind : CompileErrorKind) → IsNoJustfile i kind → IsNoJustfile other kind
  refused_too kind h = elim (formats h.path) [
    | inl same ↦ record { path = h.path; text = h.text; rooted = h.rooted; there = sym same ∙ h.there; next = h.next; refused = h.refused }
    | inr f ↦
        let texts : h.text ≡ f.text = same_Some h.text f.text (sym h.there ∙ f.found) in
        record {
          path = h.path;
          text = file_text f.indentation f.items;
          rooted = h.rooted;
          there = f.formatted;
          next = h.next;
          refused = refused_else faultless i.reader (AreUsed h.next) f.text (file_text f.indentation f.items) f.items f.reads kind (subst (λ t. IsRefusal i.reader.expansion i.reader.version (AreUsed h.next) t kind) texts h.refused);
        }
  ]

  -- a root that can't be read can't be read for that reason among the others
  unread_too : (fault : RootFault) → IsUnread i fault → IsUnread other fault
  unread_too roots.OutOfMemory h = tt
  unread_too (roots.NoRootForWord word) h = h
  unread_too (roots.MissingRoot path) h = (h.0, missing_too path.now h.1)
  unread_too (roots.Syntax error) h = refused_too error.kind h

  module _ (one : SaysAtMostOne) (back : PrintsBack) (given given' : Text → Given) (same : (path : Text) → IsReformatted (given path) (given' path)) where
    sources_too : (asked : Asked) (left : Left) (result : Result Outcome Fault) → AnswersSources given i asked left result → AnswersSources given' other asked left result
    sources_too asked left result (unread fault is told) = unread fault is (unread_too fault told)
    sources_too asked left result (read path rooted there each) = read path rooted (there.0, (stand_alike one faultless (given path) (given' path) (same path) there.0).0 there.1) (λ w stands. tells_too back one (given path) (given' path) (same path) w path left result asked (each w ((stand_alike one faultless (given path) (given' path) (same path) w).1 stands)))

    drives_too : {H : Type 0} (goes : H → List Entry → H → Type 0) (config : Config) (action : Action) (old : State H) (result : Result Outcome Fault) (new : State H) → Drives goes i given config action old result new → Drives goes other given' config action old result new
    drives_too goes config action old result new d = record {
      early = d.early;
      sources = sources_too _ _ result d.sources;
      silent = d.silent;
      kept = d.kept;
      unfailed = d.unfailed;
      planned = d.planned;
      asked = d.asked;
    }

-- So it is over maps.
module _ {A B C D E : Type 0} (one : SaysAtMostOne) (faultless : FaultsSayNothing) (back : PrintsBack) (expansion : Expansion) (sources other : BTreeMap (String A) (String B)) (roots : BTreeMap (Option (String C)) (String D)) (words : List (String E)) (config : Config)
    (formats : FormatsSome expansion config.version (source_of sources) (source_of other)) where
  abbrev inputs : Inputs
  inputs = inputs_of (reader_of expansion config.version) sources roots words

  pub formatted_drives : {H : Type 0} (goes : H → List Entry → H → Type 0) (action : Action) (old : State H) (result : Result Outcome Fault) (new : State H)
      → Drives goes inputs (given_of sources config.os config.unstable expansion config.version) config action old result new
      → Drives goes (inputs_of (reader_of expansion config.version) other roots words) (given_of other config.os config.unstable expansion config.version) config action old result new
  formatted_drives goes action old result new d =
      drives_too faultless inputs (text_at other) (formats_at expansion config.version sources other formats) one back (given_of sources config.os config.unstable expansion config.version) (given_of other config.os config.unstable expansion config.version)
      (λ path. record { same_os = refl; same_unstable = refl; same_expansion = refl; same_version = refl; same_root = refl; formats = formats }) goes config action old result new d
