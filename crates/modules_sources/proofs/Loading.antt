-- Files that are read one after the other.
use Rattle.std.proofs.Common.{◌≡◌, ◌≢◌, sym, ◌∙◌, ap, subst, ◌<◌, ◌+◌, ◌++◌, ◌∷◌, [], ℕ, List, refl, length, map, take, get_or, append_assoc}
use Rattle.std.proofs.lemmas.List.{append-nil, take-map}
use Rattle.just_text.specs.Numbers.{Numbers}
use Rattle.just_text.specs.declared.compile_error.CompileError.{CompileError}
use Rattle.just_text.specs.declared.compile_error.CompileErrorKind.{CompileErrorKind}
use Rattle.just_text.specs.declared.compile_error.CompileErrorKind.TheVariants.{OutOfMemory}
use Rattle.parse_expressions.specs.Literals.{Expansion}
use Rattle.semver.specs.declared.Version.{Version}
use Rattle.modules_compilation.specs.declared.error.Error.{Error}
use Rattle.modules_compilation.specs.declared.error.Error.TheVariants.{Syntax}
use Rattle.modules_compilation.specs.declared.module_node.File.{File as LoadedFile}
use Rattle.modules_compilation.specs.declared.source.Source.{Source}
use Rattle.modules_files.specs.Chosen.{File, view}
use Rattle.modules_sources.specs.Loading.{AreRead, IsRead, IsUnread, IsUnreadAmong, read_more, read_none, refusal_by}
use Rattle.modules_sources.proofs.Reaching.{taken, taken_at}

-- a fault that isn't want of memory
pub told_as_it_is : (kind : CompileErrorKind) (error : CompileError) → kind ≢ OutOfMemory → Syntax error ≡ refusal_by kind error
told_as_it_is OutOfMemory error n = absurd (n refl)
told_as_it_is kind error n = refl

module _ (expansion : Expansion) (version : Version) (owner depth : ℕ) where
  -- the files so far are read, and put after the others
  abbrev pub AreReadSoFar : List File → Numbers → Numbers → List LoadedFile → List LoadedFile → Type 0
  AreReadSoFar sources old now first files = (more : List LoadedFile) × AreRead expansion version owner depth sources old more now × (files ≡ first ++ more)

  pub none_read : (numbers : Numbers) (files : List LoadedFile) → AreReadSoFar [] numbers numbers files files
  none_read numbers files = ([], read_none, sym (append-nil files))

  -- one file more
  pub read_further : (xs : List Source) (i : ℕ) (d : Source) (old now new : Numbers) (first files after : List LoadedFile) → i < length xs → AreReadSoFar (map view (take i xs)) old now first files
      → (file : LoadedFile) × IsRead expansion version owner depth (view (get_or xs i d)) now new file × (after ≡ files ++ file ∷ []) → AreReadSoFar (map view (take (i + 1) xs)) old new first after
  read_further xs i d old now new first files after lt so one = (
    so.0 ++ one.0 ∷ [],
    subst (λ ss. AreRead expansion version owner depth ss old (so.0 ++ one.0 ∷ []) new) (sym (taken xs i d lt)) (read_more (view (get_or xs i d)) one.0 so.1 one.1),
    one.2 ∙ ap (λ fs. fs ++ one.0 ∷ []) so.2 ∙ append_assoc first so.0 (one.0 ∷ []),
  )

  pub unread_further : (xs : List Source) (i : ℕ) (d : Source) (old now used : Numbers) (first files : List LoadedFile) (e : Error) → i < length xs → AreReadSoFar (map view (take i xs)) old now first files
      → IsUnread expansion version owner depth (view (get_or xs i d)) used e → IsUnreadAmong expansion version owner depth (map view xs) old e
  unread_further xs i d old now used first files e lt so refused = record {
    place = i;
    source = view (get_or xs i d);
    there = taken_at xs i d lt;
    earlier = so.0;
    now = now;
    read = subst (λ ss. AreRead expansion version owner depth ss old so.0 now) (sym (take-map view i xs)) so.1;
    used = used;
    refused = refused;
  }
