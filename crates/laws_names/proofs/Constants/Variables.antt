-- Variables that settle in an order mean what is found.
use Rattle.std.proofs.Common.{◌∷◌, Some, Err, ℕ, sym, subst}
use Rattle.std.specs.Prelude.{String}
use Rattle.std.specs.BTreeMap.{BTreeMap}
use Rattle.evaluate_variables.specs.Settled.{const_reading}
use Rattle.resolve_analysis.specs.Bound.{bindings_of}
use Rattle.meaning_rules.specs.Constants.{Means}
use Rattle.meaning_rules.specs.Overrides.{overrides_of}
use Rattle.laws_names.specs.Constants.Expressions.{known}
use Rattle.laws_names.specs.Constants.Variables.{ConstantsMean}
use Rattle.laws_names.proofs.Constants.Marked.{number_read, read_number}
use Rattle.laws_names.proofs.Constants.Ordered.{ends, variable_faultless, variable_means}

pub constants_mean : {A : Type 0} (overrides : BTreeMap ℕ (String A)) → ConstantsMean overrides
constants_mean overrides w compilation k node path m words variables order sets is_read sought constants language lists are_lists = record {
  settled = λ frame excluded goes. record {
    means = λ name read.
        let v = read_number w compilation k node path m words overrides variables order sets is_read sought name read in
        subst (λ t. Means w (overrides_of words) path node.source.now t (known (const_reading (constants.own ∷ constants.outer) frame excluded) (bindings_of compilation node) t)) v.3
        (variable_means w compilation k node path m words overrides variables order sets is_read sought constants language lists are_lists goes v.0 v.1 v.2 v.4);
    faultless = λ name fault read h.
        let v = read_number w compilation k node path m words overrides variables order sets is_read sought name read in
        variable_faultless w compilation k node path m words overrides variables order sets is_read sought constants language lists are_lists goes v.0 v.1 v.2 v.4 fault
        (subst (λ t. Means w (overrides_of words) path node.source.now t (Some (Err fault))) (sym v.3) h);
  };
  failed = λ frame excluded fault goes.
      let e = ends w compilation k node path m words overrides variables order sets is_read sought constants language lists are_lists goes in
      (_, number_read w compilation k node path m words overrides variables order sets is_read sought e.0 e.1 e.2 e.3, e.4);
}
