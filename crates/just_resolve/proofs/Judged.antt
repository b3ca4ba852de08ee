-- What resolving answers is judged by the rules on names.
use Rattle.std.proofs.Common.{ℕ, List, Result, Ok, Err}
use Rattle.std.specs.Prelude.{◌≢◌, IfErr, IfOk, OnOk}
use Rattle.just_value.specs.declared.positional.Override.{Override}
use Rattle.modules_compilation.specs.declared.compilation.Compilation.{Compilation}
use Rattle.resolve_analysis.specs.declared.analysis.Analysis.{Analysis}
use Rattle.resolve_recipes.specs.Named.{AllByName}
use Rattle.just_resolve.specs.Analysis.{IsAnalysis, IsRefused}
use Rattle.just_resolve.specs.Rules.{BreaksNone, InEachWorld, IsNamed}
use Rattle.just_resolve.specs.declared.error.Error.{Error}
use Rattle.just_resolve.specs.declared.error.Error.TheVariants.{OutOfMemory, CircularRecipe, CircularVariable, Compile, ConstEval, DependencyArgumentCount, FunctionArgumentCount, ModuleAsRecipe, UndefinedVariable, UnknownDependency, UnknownFunction, UnknownOverride}
use Rattle.just_resolve.proofs.Clear.{analysis_breaks_none}
use Rattle.just_resolve.proofs.Told.{refused_is_named}
use Rattle.just_resolve.proofs.Proved.{laws}

module _ (compilation : Compilation) (words : List Override) where
  -- it is so unless memory ran out
  told_unless : (error : Error) → (error ≢ OutOfMemory → AllByName compilation → IsRefused compilation words error) → InEachWorld compilation words (λ w o. IsNamed w o error)
  told_unless OutOfMemory h w is = tt
  told_unless (ConstEval refusal) h w is = refused_is_named laws compilation words (ConstEval refusal) (h (λ e. cc e) is.by_name) w is
  told_unless (Compile refusal) h w is = refused_is_named laws compilation words (Compile refusal) (h (λ e. cc e) is.by_name) w is
  told_unless (CircularVariable names) h w is = refused_is_named laws compilation words (CircularVariable names) (h (λ e. cc e) is.by_name) w is
  told_unless (CircularRecipe names) h w is = refused_is_named laws compilation words (CircularRecipe names) (h (λ e. cc e) is.by_name) w is
  told_unless (DependencyArgumentCount recipe dependency found) h w is = refused_is_named laws compilation words (DependencyArgumentCount recipe dependency found) (h (λ e. cc e) is.by_name) w is
  told_unless (FunctionArgumentCount name found) h w is = refused_is_named laws compilation words (FunctionArgumentCount name found) (h (λ e. cc e) is.by_name) w is
  told_unless (ModuleAsRecipe path) h w is = refused_is_named laws compilation words (ModuleAsRecipe path) (h (λ e. cc e) is.by_name) w is
  told_unless (UndefinedVariable name) h w is = refused_is_named laws compilation words (UndefinedVariable name) (h (λ e. cc e) is.by_name) w is
  told_unless (UnknownDependency recipe dependency) h w is = refused_is_named laws compilation words (UnknownDependency recipe dependency) (h (λ e. cc e) is.by_name) w is
  told_unless (UnknownFunction name) h w is = refused_is_named laws compilation words (UnknownFunction name) (h (λ e. cc e) is.by_name) w is
  told_unless (UnknownOverride name) h w is = refused_is_named laws compilation words (UnknownOverride name) (h (λ e. cc e) is.by_name) w is

  pub named_of : (result : Result Analysis Error) → IfErr result (λ error. error ≢ OutOfMemory → AllByName compilation → IsRefused compilation words error) → IfErr result (λ error. InEachWorld compilation words (λ w o. IsNamed w o error))
  named_of (Ok analysis) h = tt
  named_of (Err error) h = told_unless error h

pub clear_of : (compilation : Compilation) (base : List ℕ) (words : List Override) (result : Result Analysis Error) → IfOk result (λ analysis. AllByName compilation → IsAnalysis compilation base words analysis) → OnOk result (InEachWorld compilation words BreaksNone)
clear_of compilation base words (Ok analysis) h = λ w is. analysis_breaks_none laws compilation base words analysis (h is.by_name) w is
clear_of compilation base words (Err error) h = tt
