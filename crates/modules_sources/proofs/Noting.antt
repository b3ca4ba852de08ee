-- A submodule that is noted at its parent.
use Rattle.std.proofs.Common.{◌≡◌, ◌≢◌, sym, ◌∙◌, ap, subst, ◌<◌, ◌≤◌, [], ◌∷◌, ℕ, zero, suc, List, Some, refl, arith, length, get_or, set, length-set}
use Rattle.std.specs.Prelude.{slice_get}
use Rattle.std.proofs.lemmas.Option.{get_or_from_slice_get, none-some, slice_get_past}
use Rattle.modules_compilation.specs.declared.module_node.ModuleNode.{ModuleNode}
use Rattle.modules_sources.specs.Nodes.{HasOneMore, IsNotedAt}

set_same : {A : Type 0} (xs : List A) (i : ℕ) (a : A) → i < length xs → slice_get (set xs i a) i ≡ Some a
set_same [] i a lt = absurd (omega (arith, lt))
set_same (x ∷ xs) zero a lt = refl
set_same (x ∷ xs) (suc i) a lt = set_same xs i a (omega (arith, lt))

set_other : {A : Type 0} (xs : List A) (i j : ℕ) (a : A) → j ≢ i → slice_get (set xs i a) j ≡ slice_get xs j
set_other [] i j a n = refl
set_other (x ∷ xs) zero zero a n = absurd (n refl)
set_other (x ∷ xs) zero (suc j) a n = refl
set_other (x ∷ xs) (suc i) zero a n = refl
set_other (x ∷ xs) (suc i) (suc j) a n = set_other xs i j a (λ e. n (ap suc e))

-- there is no parent
pub noted_nowhere : (parent submodule : ℕ) (nodes : List ModuleNode) → length nodes ≤ parent → IsNotedAt parent submodule nodes nodes
noted_nowhere parent submodule nodes le = record { many = refl; others = λ place n. refl; noted = λ node e. absurd (none-some node (sym (slice_get_past nodes parent le) ∙ e)) }

-- the parent has one submodule more
pub noted_there : (parent submodule : ℕ) (nodes : List ModuleNode) (node after : ModuleNode) → parent < length nodes → node ≡ get_or nodes parent node → HasOneMore submodule node after → IsNotedAt parent submodule nodes (set nodes parent after)
noted_there parent submodule nodes node after lt is more = record {
  many = length-set nodes parent after;
  others = λ place n. set_other nodes parent place after n;
  noted = λ other e. (after, set_same nodes parent after lt, subst (λ o. HasOneMore submodule o after) (is ∙ get_or_from_slice_get nodes parent other node e) more);
}
