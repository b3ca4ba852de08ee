-- Inputs that agree on reach reach and open the same, and agree both ways.
use Rattle.std.proofs.Common.{◌≡◌, ℕ, List, [], Bool, Option, Some, refl, sym, ap, ◌∙◌, subst}
use Rattle.std.specs.Prelude.{Contains}
use Rattle.tree_expressions.specs.Shape.{Shape}
use Rattle.meaning_rules.specs.Naming.{a_call, occurrences}
use Rattle.meaning_evaluation.specs.Named.{RecipeName, VariableRow, FunctionRow, Definitions}
use Rattle.just_meaning.specs.Opening.{IsReached, by_words, by_recipe as reached_by}
use Rattle.just_meaning.specs.Reading.{Reaches, itself, through, ReadsIn, function_row}
use Rattle.just_meaning.specs.Reach.{IsInPlay, of_variable, of_recipe, SameVariable, neither, both, AgreeOnReach}

-- ---- functions

-- each function that an expression calls, through any chain, is the same
pub record SameCalls (fs gs : List FunctionRow) (e : Shape) (hidden : List (List ℕ)) : Type 0 where
  pub same : (inner : Shape) (others : List (List ℕ)) (name : List ℕ) (count : ℕ) → Reaches fs e hidden inner others → Contains (occurrences inner) (a_call name count) → function_row name fs ≡ function_row name gs

module _ (fs gs : List FunctionRow) where
  -- so it is in the body of each function that it calls
  pub inside_call : {e : Shape} {hidden : List (List ℕ)} (name : List ℕ) (count : ℕ) (f : FunctionRow) → SameCalls fs gs e hidden → Contains (occurrences e) (a_call name count) → function_row name fs ≡ Some f → SameCalls fs gs f.body f.parameters
  inside_call name count f h c there = record { same = λ inner others other n r d. h.same inner others other n (through c there r) d }

  -- what is reached by the one is reached by the other
  pub reaches_there : {e inner : Shape} {hidden others : List (List ℕ)} → SameCalls fs gs e hidden → Reaches fs e hidden inner others → Reaches gs e hidden inner others
  reaches_there h itself = itself
  reaches_there {e = e} {hidden = hidden} h (through {name = name} {count = count} {f = f} c there r) = through c (sym (h.same e hidden name count itself c) ∙ there) (reaches_there (inside_call name count f h c there) r)

  pub reaches_back : {e inner : Shape} {hidden others : List (List ℕ)} → SameCalls fs gs e hidden → Reaches gs e hidden inner others → Reaches fs e hidden inner others
  reaches_back h itself = itself
  reaches_back {e = e} {hidden = hidden} h (through {name = name} {count = count} {f = f} c there r) =
      let here = h.same e hidden name count itself c ∙ there in
      through c here (reaches_back (inside_call name count f h c here) r)

-- ---- variables

pub same_sym : {o p : Option VariableRow} → SameVariable o p → SameVariable p o
same_sym neither = neither
same_sym (both file value export) = both (sym file) (sym value) (sym export)

-- the row of the one, where the other has one
pub record Row (o : Option VariableRow) (s : VariableRow) : Type 0 where
  pub row : VariableRow
  pub is : o ≡ Some row
  pub file : row.file ≡ s.file
  pub value : row.value ≡ s.value
  pub export : row.export ≡ s.export

pub row_of : {o p : Option VariableRow} (s : VariableRow) → SameVariable o p → p ≡ Some s → Row o s
row_of s neither e = absurd (cc)
row_of s (both {r = r} {s = t} file value export) e =
    let same : t ≡ s = cc in
    record { row = r; is = refl; file = file ∙ ap (λ x. x.file) same; value = value ∙ ap (λ x. x.value) same; export = export ∙ ap (λ x. x.export) same }

-- ---- what is reached and opened

module _ (no_dependencies : Bool) (invoked : List RecipeName) (a b : Definitions) (h : AgreeOnReach no_dependencies invoked a b) where
  pub reached_there : (r : RecipeName) → IsReached a no_dependencies invoked r → IsReached b no_dependencies invoked r
  reached_there r (by_words c) = by_words c
  reached_there d (reached_by {r = r} runs u there stands) = reached_by runs (reached_there r u) (sym (h.recipes r u) ∙ there) stands

  pub reached_back : (r : RecipeName) → IsReached b no_dependencies invoked r → IsReached a no_dependencies invoked r
  reached_back r (by_words c) = by_words c
  reached_back d (reached_by {r = r} runs u there stands) = let v = reached_back r u in reached_by runs v (h.recipes r v ∙ there) stands

  -- what is in play calls the same functions
  pub in_play_calls : (path : List (List ℕ)) (e : Shape) (hidden : List (List ℕ)) → IsInPlay a no_dependencies invoked path e hidden → SameCalls (a.functions path) (b.functions path) e hidden
  in_play_calls path e hidden p = record { same = λ inner others name count r c. h.functions path e inner hidden others name count p r c }

  -- what is in play by the one is in play by the other
  pub in_play_back : (path : List (List ℕ)) (e : Shape) (hidden : List (List ℕ)) → IsInPlay b no_dependencies invoked path e hidden → IsInPlay a no_dependencies invoked path e hidden
  in_play_back path e hidden (of_variable {x = x} opens free there) =
      let here = (h.opened x).1 opens in
      let v = row_of _ (h.variables x here).0 there in
      subst (λ e. IsInPlay a no_dependencies invoked x.path e []) v.value (of_variable here ((h.variables x here).1 ∙ free) v.is)
  in_play_back path e hidden (of_recipe {r = r} reaches there stands) = let here = reached_back r reaches in of_recipe here (h.recipes r here ∙ there) stands

  pub reads_back : (path : List (List ℕ)) (e : Shape) (hidden : List (List ℕ)) (name : List ℕ) → IsInPlay a no_dependencies invoked path e hidden → ReadsIn (b.functions path) e hidden name → ReadsIn (a.functions path) e hidden name
  reads_back path e hidden name p r = record { inner = r.inner; others = r.others; reached = reaches_back (a.functions path) (b.functions path) (in_play_calls path e hidden p) r.reached; named = r.named; free = r.free }

  -- Agreement goes both ways.
  pub mutual_agreement : AgreeOnReach no_dependencies invoked b a
  mutual_agreement = record {
    modules = sym h.modules;
    inside = λ path. sym (h.inside path);
    recipes = λ r u. sym (h.recipes r (reached_back r u));
    opened = λ x. ((h.opened x).1, (h.opened x).0);
    variables = λ x u. (same_sym (h.variables x ((h.opened x).1 u)).0, sym (h.variables x ((h.opened x).1 u)).1);
    names = λ path e hidden name p r.
        let q = in_play_back path e hidden p in
        let s = h.names path e hidden name q (reads_back path e hidden name q r) in (same_sym s.0, sym s.1);
    functions = λ path e inner hidden others name count p r c.
        let q = in_play_back path e hidden p in
        sym (h.functions path e inner hidden others name count q (reaches_back (a.functions path) (b.functions path) (in_play_calls path e hidden q) r) c);
  }
