-- A justfile that is refused as it is loaded, or by what its modules define.
use Rattle.std.proofs.Common.{◌≡◌, ◌≢◌, ℕ, Bool, List, Result, Ok, Err, IfErr, IfOk, sym, subst, refl, inl, inr}
use Rattle.std.specs.BTreeMap.{BTreeMap}
use Rattle.std.specs.declared.string.String.{String}
use Rattle.just_text.specs.Numbers.{Numbers}
use Rattle.just_text.specs.declared.os.Os.{Os}
use Rattle.parse_expressions.specs.Literals.{Expansion}
use Rattle.semver.specs.declared.Version.{Version}
use Rattle.modules_compilation.specs.declared.compilation.Compilation.{Compilation}
use Rattle.modules_compilation.specs.declared.error.Error.{Error}
use Rattle.modules_compilation.specs.declared.error.Error.TheVariants.{OutOfMemory}
use Rattle.modules_sources.specs.Loaded.{AreLoaded, IsRefused as IsLoadingRefused}
use Rattle.just_modules.specs.Keeping.{OrMemory}
use Rattle.just_modules.specs.Refused.{IsRefused, alias_refused, loading_refused, module_refused, IsUnsettled}
use Rattle.just_modules.proofs.ByName.{all_by_name, fresh_of}

module _ {Y Z : Type 0} (sources : BTreeMap (String Y) (String Z)) (expansion : Expansion) (version : Version) (os : Os) (unstable : Bool) (start : Numbers) (is_read : Bool) (root : List ℕ) where
  unsettled_refused : (loaded : Compilation) (e : Error) → AreLoaded sources expansion version os start is_read root loaded → IsUnsettled os unstable loaded e → IsRefused os unstable sources expansion version start is_read root e
  unsettled_refused loaded e are (inl first) = module_refused loaded are first
  unsettled_refused loaded e are (inr (filled, is, unknown)) =
      alias_refused loaded filled are is (unknown (all_by_name os unstable loaded filled is (fresh_of sources expansion version os start is_read root loaded are)))

  settled_refused : (loaded : Compilation) (e : Error) → AreLoaded sources expansion version os start is_read root loaded → OrMemory (IsUnsettled os unstable loaded) e → e ≢ OutOfMemory → IsRefused os unstable sources expansion version start is_read root e
  settled_refused loaded e are (inl m) n = absurd (n m)
  settled_refused loaded e are (inr u) n = unsettled_refused loaded e are u

  pub refused_by_either : (loaded : Result Compilation Error) (r : Result Compilation Error) → IfOk loaded (AreLoaded sources expansion version os start is_read root) → IfErr loaded (λ e. e ≢ OutOfMemory → IsLoadingRefused sources expansion version os start is_read root e)
      → IfErr loaded (λ e. r ≡ Err e) → IfErr r (λ e. (before : Compilation) → loaded ≡ Ok before → OrMemory (IsUnsettled os unstable before) e) → IfErr r (λ e. e ≢ OutOfMemory → IsRefused os unstable sources expansion version start is_read root e)
  refused_by_either (Ok before) (Ok after) are refused same unsettled = tt
  refused_by_either (Ok before) (Err e) are refused same unsettled = λ n. settled_refused before e are (unsettled before refl) n
  refused_by_either (Err e) r are refused same unsettled = subst (λ o. IfErr o (λ e. e ≢ OutOfMemory → IsRefused os unstable sources expansion version start is_read root e)) (sym same) (λ n. loading_refused (refused n))

-- a refusal that is so for all that are given
pub refused_under : (Premise : Numbers → Bool → Type 0) (R : Numbers → Bool → Error → Type 0) (r : Result Compilation Error) → ((start : Numbers) (is_read : Bool) → Premise start is_read → IfErr r (λ e. e ≢ OutOfMemory → R start is_read e))
    → IfErr r (λ e. e ≢ OutOfMemory → (start : Numbers) (is_read : Bool) → Premise start is_read → R start is_read e)
refused_under Premise R (Ok after) f = tt
refused_under Premise R (Err e) f = λ n start is_read premise. f start is_read premise n
