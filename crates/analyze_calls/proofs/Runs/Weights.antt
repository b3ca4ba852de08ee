-- A turn leaves less to do.
use Rattle.std.proofs.Common.{◌≡◌, ◌∷◌, [], ◌<◌, ◌≤◌, length, ℕ, suc, ◌+◌, ◌*◌, ◌^◌, List, ◌∙◌, ap, add-one, arith}
use Rattle.std.specs.List.{AllByRecursion}
use Rattle.std.proofs.lemmas.List.Elements.{recursion_from_All}
use Rattle.std.proofs.Math.Nat.{one-le-pow, pow-le-pow_right, mul-le-mul_left, pow-succ'}
use Rattle.std.proofs.Common.{Bool, true}
use Rattle.std.specs.Prelude.{Option}
use Rattle.analyze_calls.specs.Calls.{CallRow, rows, row_of}
use Rattle.analyze_calls.specs.Entered.{EnteredRow}
use Rattle.analyze_calls.specs.Runs.Todo.{Todo, Calls, Body, After, before}
use Rattle.analyze_calls.specs.Runs.Weight.{most, base, weight_of, weight, AreBelow}
use Rattle.analyze_calls.specs.declared.call.Call.{Call}

least : 1 ≤ base
least = omega arith

-- calls below p weigh at most base ^ p each
weight_below : (p : ℕ) (calls : List Call) → AllByRecursion (λ c. c.recipe < p) calls → weight_of (rows calls) ≤ length calls * base ^ p
weight_below p [] h = omega arith
weight_below p (c ∷ cs) h =
    let k : base ^ (c.recipe + 1) ≤ base ^ p = pow-le-pow_right least (omega (arith, h.0)) in
    let q : weight_of (rows cs) ≤ length cs * base ^ p = weight_below p cs h.1 in
    omega (arith, k, q)

-- as many as a list can hold weigh less than so many times base ^ p
products : (n m x : ℕ) → 1 ≤ x → n < m → n * x + 1 ≤ m * x
products n m x h k = let l : x * suc n ≤ x * m = mul-le-mul_left x k in omega (arith, l)

pub bounded : (p : ℕ) (calls : List Call) → AreBelow p calls → weight_of (rows calls) + 1 ≤ most * base ^ p
bounded p calls h =
    let q : weight_of (rows calls) ≤ length calls * base ^ p = weight_below p calls (recursion_from_All _ calls h.earlier) in
    let x : 1 ≤ base ^ p = one-le-pow p base least in
    let l = products (length calls) most (base ^ p) x h.few in
    omega (arith, q, l)

doubled : (m x : ℕ) → 1 ≤ x → m * x + m * x + 3 ≤ (2 * m + 3) * x
doubled m x h = omega (arith, h)

pub lighter : (p : ℕ) → most * base ^ p + most * base ^ p + 3 ≤ base ^ (p + 1)
lighter p =
    let x : 1 ≤ base ^ p = one-le-pow p base least in
    let e : base ^ (p + 1) ≡ base * base ^ p = ap (λ k. base ^ k) (add-one p) ∙ pow-succ' base p in
    let d = doubled most (base ^ p) x in
    omega (arith, e, d)

-- ---- the turns

-- calls that are no calls weigh nothing
light : (flag : Bool) (calls : List CallRow) (todos : List Todo) → weight (before flag calls todos) ≤ weight (Calls flag calls ∷ todos)
light flag [] todos = omega arith
light flag (call ∷ calls) todos = omega arith

pub entered : (call : Call) (flag above : Bool) (bound : EnteredRow) (calls : List CallRow) (priors : List Call) (old mid new : List Todo) → AreBelow call.recipe priors → mid ≡ before above calls old
    → new ≡ before true (rows priors) (Body (row_of call) flag bound ∷ mid) → weight new < weight (Calls above (row_of call ∷ calls) ∷ old)
entered call flag above bound calls priors old mid new h d e =
    omega (arith, ap weight d, ap weight e, light above calls old, light true (rows priors) (Body (row_of call) flag bound ∷ mid), bounded call.recipe priors h, lighter call.recipe)

pub passed : (call : CallRow) (above : Bool) (calls : List CallRow) (old new : List Todo) → new ≡ before above calls old → weight new < weight (Calls above (call ∷ calls) ∷ old)
passed call above calls old new e =
    let p : 1 ≤ base ^ (call.recipe + 1) = one-le-pow (call.recipe + 1) base least in
    omega (arith, ap weight e, light above calls old, p)

pub behind : (call : Call) (flag : Bool) (bound : EnteredRow) (outer : Option (List CallRow)) (subsequents : List Call) (old new : List Todo) → AreBelow call.recipe subsequents
    → new ≡ Calls true (rows subsequents) ∷ After (row_of call) outer ∷ old → weight new < weight (Body (row_of call) flag bound ∷ old)
behind call flag bound outer subsequents old new h e =
    omega (arith, ap weight e, bounded call.recipe subsequents h)

pub alone : (call : CallRow) (flag : Bool) (bound : EnteredRow) (old : List Todo) → weight old < weight (Body call flag bound ∷ old)
alone call flag bound old = omega arith
