-- What variables give by their numbers in a recipe's frames, they give by their names.
use Rattle.std.proofs.Common.{◌≡◌, ◌∙◌, ◌+◌, ◌<◌, ◌≤◌, sym, ap, ap₂, subst, refl, ℕ, zero, suc, Bool, true, false, List, [], ◌∷◌, length, map, Option, Some, None, Result, arith, true≢false}
use Rattle.std.specs.Prelude.{Contains, IsSome, ◌&&◌, ◌||◌, bytes_eq, cond, not, slice_get}
use Rattle.std.specs.Option.{option_map, option_or}
use Rattle.std.proofs.lemmas.Option.{none-some, same_Some, slice_get_within}
use Rattle.std.proofs.lemmas.Slice.Eq.{bytes_eq-Decides}
use Rattle.just_text.specs.Tokens.{lexeme}
use Rattle.just_host.specs.declared.config.Config.{Config}
use Rattle.just_value.specs.Constants.{constant_rows}
use Rattle.just_value.specs.Frames.{BoundRow, bound_in, constant_binding, found_in, look_up}
use Rattle.just_value.specs.declared.positional.Override.{Override}
use Rattle.tree_expressions.specs.declared.expression.Expression.{Expression}
use Rattle.tree_items.specs.Contexts.{last_named}
use Rattle.tree_items.specs.declared.ast.Item.TheVariants.{Assignment, Recipe as RecipeItem}
use Rattle.tree_items.specs.declared.item.Binding.{Binding}
use Rattle.tree_items.specs.declared.recipe.Parameter.{Parameter}
use Rattle.modules_compilation.specs.declared.compilation.Compilation.{Compilation}
use Rattle.resolve_references.specs.References.{references_of}
use Rattle.resolve_references.specs.Seen.{HasNumbers, Seen}
use Rattle.resolve_references.specs.declared.references.Reference.{Reference}
use Rattle.resolve_references.specs.declared.references.Reference.TheVariants.{Call, Variable as VariableReference}
use Rattle.resolve_analysis.specs.Bound.{binding_number, constant_number, numbered_from}
use Rattle.resolve_analysis.specs.declared.analysis.Analysis.{Analysis}
use Rattle.analyze_calls.specs.declared.plan.Runner.{Runner}
use Rattle.meaning_dialogues.specs.Calls.{read_in, value_found}
use Rattle.meaning_dialogues.specs.Dialogue.{Variable, around}
use Rattle.meaning_dialogues.specs.Evaluation.{Value}
use Rattle.meaning_dialogues.specs.Faults.{Fault}
use Rattle.meaning_dialogues.specs.Terms.{Holes, Term, Terms, appended, assertion, assertion_alone, both, call, choice, choice_alone, closed, command, comparison, either, end, format, group, hole, listing, literal, more, negation, paired, rooted, term_of, variable}
use Rattle.meaning_dialogues.proofs.Soundness.{Each, EachHole, EachOf}
use Rattle.laws_evaluation.proofs.Opening.Names.{AnyCall}
use Rattle.meaning_runs.specs.Counts.{each_once}
use Rattle.meaning_runs.specs.Parts.{is_met}
use Rattle.meaning_rules.specs.Worlds.Given.{Text, World}
use Rattle.meaning_rules.proofs.Worlds.Places.{contains_at, contains_first, place_of}
use Rattle.laws_modules.proofs.Names.Found.{mapped, mapped_at}
use Rattle.meaning_rules.specs.Overrides.{overrides_of}
use Rattle.laws_names.proofs.Reading.Bindings.{above_constants, numbered_once}
use Rattle.laws_names.proofs.Reading.Finding.{last_named_there, none_named}
use Rattle.laws_names.proofs.Reading.Numbers.{number_of}
use Rattle.laws_runs.proofs.Views.Terms.{IsSo, each_so}
use Rattle.just_meaning.specs.Opening.{Held, Opened, held, read_by, reading_in, text_named}
use Rattle.laws_runs.specs.Settings.Settled.{AllSettle}
use Rattle.laws_runs.specs.Running.Steps.{RestsOn}
use Rattle.laws_runs.proofs.Running.Steps.Standing.{Stands}
use Rattle.laws_runs.proofs.Running.Steps.Variables.{IsOfName, IsOfNone, item_of, lent_there, one_of_name, own_variables, row_of_variable, variable_lent}
use Rattle.laws_runs.proofs.Running.Steps.Exports.{row_found}

-- ---- two things that are said of each variable of a term

module _ (V W U : Variable → Type 0) (C D : List ℕ → ℕ → Type 0) (into : (x : Variable) → V x → W x → U x) where
  mutual
    pub each_into : (t : Term) → Each V C t → Each W D t → Each U C t
    each_into (literal cooked text) h g = tt
    each_into (command contents text) h g = tt
    each_into (format cooked text tripled holes) h g = holes_into holes h g
    each_into (variable name number) h g = into (record { name = name; number = number }) h g
    each_into (call name file es) h g = (h.0, all_into es h.1 g.1)
    each_into (assertion c m) h g = (each_into c h.0 g.0, each_into m h.1 g.1)
    each_into (assertion_alone c) h g = each_into c h g
    each_into (both l r) h g = (each_into l h.0 g.0, each_into r h.1 g.1)
    each_into (either l r) h g = (each_into l h.0 g.0, each_into r h.1 g.1)
    each_into (negation e) h g = each_into e h g
    each_into (comparison operator l r) h g = (each_into l h.0 g.0, each_into r h.1 g.1)
    each_into (paired operator l r) h g = (each_into l h.0 g.0, each_into r h.1 g.1)
    each_into (rooted r) h g = each_into r h g
    each_into (appended l r) h g = (each_into l h.0 g.0, each_into r h.1 g.1)
    each_into (choice c t o) h g = (each_into c h.0 g.0, each_into t h.1 g.1, each_into o h.2 g.2)
    each_into (choice_alone c t) h g = (each_into c h.0 g.0, each_into t h.1 g.1)
    each_into (listing es) h g = all_into es h g
    each_into (group e) h g = each_into e h g

    all_into : (es : Terms) → EachOf V C es → EachOf W D es → EachOf U C es
    all_into end h g = tt
    all_into (more e es) h g = (each_into e h.0 g.0, all_into es h.1 g.1)

    holes_into : (hs : Holes) → EachHole V C hs → EachHole W D hs → EachHole U C hs
    holes_into closed h g = tt
    holes_into (hole e cooked text hs) h g = (each_into e h.0 g.0, holes_into hs h.1 g.1)

-- each variable of an expression has the number of what its name stands for
module _ (bindings : Text → Option ℕ) (s : Seen) (has : HasNumbers bindings s) where
  abbrev pub IsRight : Variable → Type 0
  IsRight x = x.number ≡ option_or (last_named x.name s.parameters) (bindings x.name)

  pub right_numbers : Each IsRight AnyCall (term_of s.expression)
  right_numbers = each_so IsRight AnyCall s.expression so
    where
      so : (r : Reference) → Contains (references_of s.expression) r → IsSo IsRight AnyCall r
      so (Call name arguments) c = tt
      so (VariableReference name number) c = number_of bindings s has name number c

-- ---- constants of the language

numbered_row : (base : ℕ) (rows : List (Text × Text)) (q : ℕ) (pair : Text × ℕ) → slice_get (numbered_from base rows) q ≡ Some pair → (r : Text × Text) × (slice_get rows q ≡ Some r) × (pair ≡ (r.0, base + q))
numbered_row base [] q pair e = absurd (none-some pair e)
numbered_row base (r ∷ rows) zero pair e = let n : base ≡ base + 0 = omega arith in (r, refl, sym (same_Some (r.0, base) pair e) ∙ ap (λ m. (r.0, m)) n)
numbered_row base (r ∷ rows) (suc q) pair e =
    let h = numbered_row (suc base) rows q pair e in
    let n : suc base + q ≡ base + suc q = omega arith in
    (h.0, h.1, h.2 ∙ ap (λ m. (h.0.0, m)) n)

any_at : (x : Text) (names : List Text) (j : ℕ) (name : Text) → slice_get names j ≡ Some name → bytes_eq x name ≡ true → is_met bytes_eq x names ≡ true
any_at x [] j name e is = absurd (none-some name e)
any_at x (y ∷ names) zero name e is = by_first (bytes_eq x y) (ap (bytes_eq x) (same_Some y name e) ∙ is)
  where
    by_first : (b : Bool) → b ≡ true → (b || is_met bytes_eq x names) ≡ true
    by_first true e = refl
    by_first false e = absurd (true≢false (sym e))
any_at x (y ∷ names) (suc j) name e is = by_later (bytes_eq x y) (any_at x names j name e is)
  where
    by_later : (b : Bool) → is_met bytes_eq x names ≡ true → (b || is_met bytes_eq x names) ≡ true
    by_later true h = refl
    by_later false h = h

and_both : (a b : Bool) → (a && b) ≡ true → (a ≡ true) × (b ≡ true)
and_both true b e = (refl, e)
and_both false b e = absurd (true≢false (sym e))

-- where no name comes twice, the text of a row is that of its name
text_of_row : (rows : List (Text × Text)) (j : ℕ) (r : Text × Text) → slice_get rows j ≡ Some r → each_once bytes_eq (map (λ r. r.0) rows) ≡ true → text_named r.0 rows ≡ Some r.1
text_of_row [] j r e once = absurd (none-some r e)
text_of_row (x ∷ rows) zero r e once =
    let same : x ≡ r = same_Some x r e in
    ap (λ b. cond b (Some x.1) (text_named r.0 rows)) ((bytes_eq-Decides x.0 r.0).1 (ap (λ (y : Text × Text). y.0) same)) ∙ ap (λ (y : Text × Text). Some y.1) same
text_of_row (x ∷ rows) (suc j) r e once = by_test (bytes_eq x.0 r.0) refl (text_of_row rows j r e both.1)
  where
    both : (not (is_met bytes_eq x.0 (map (λ r. r.0) rows)) ≡ true) × (each_once bytes_eq (map (λ r. r.0) rows) ≡ true)
    both = and_both (not (is_met bytes_eq x.0 (map (λ r. r.0) rows))) (each_once bytes_eq (map (λ r. r.0) rows)) once

    by_test : (b : Bool) → bytes_eq x.0 r.0 ≡ b → text_named r.0 rows ≡ Some r.1 → cond (bytes_eq x.0 r.0) (Some x.1) (text_named r.0 rows) ≡ Some r.1
    by_test true is rest = absurd (true≢false (sym both.0 ∙ ap not (any_at x.0 (map (λ r. r.0) rows) j r.0 (mapped (λ (y : Text × Text). y.0) rows j r e) is)))
    by_test false is rest = ap (λ b. cond b (Some x.1) (text_named r.0 rows)) is ∙ rest

-- a constant has the text of its number
pub constant_text : (name : Text) (m : ℕ) → constant_number name ≡ Some m → (r : Text × Text) × (slice_get constant_rows m ≡ Some r) × (text_named name constant_rows ≡ Some r.1)
constant_text name m e =
    let c = place_of (numbered_from 0 constant_rows) (name, m) (last_named_there name (numbered_from 0 constant_rows) m e) in
    let h = numbered_row 0 constant_rows c.0 (name, m) c.1 in
    let named : name ≡ h.0.0 = ap (λ (p : Text × ℕ). p.0) h.2 in
    let number : m ≡ 0 + c.0 = ap (λ (p : Text × ℕ). p.1) h.2 in
    let place : c.0 ≡ m = omega (arith, number) in
    (h.0, ap (slice_get constant_rows) (sym place) ∙ h.1, ap (λ n. text_named n constant_rows) named ∙ text_of_row constant_rows c.0 h.0 h.1 refl)

held_there : (name : Text) (hs : List Held) (v : Value) → held name hs ≡ Some v → (h : Held) × Contains hs h × (h.name ≡ name)
held_there name [] v e = absurd (none-some v e)
held_there name (h ∷ hs) v e = by_test (bytes_eq h.name name) refl e (λ f. held_there name hs v f)
  where
    by_test : (b : Bool) → bytes_eq h.name name ≡ b → cond b (Some h.value) (held name hs) ≡ Some v → (held name hs ≡ Some v → (g : Held) × Contains hs g × (g.name ≡ name)) → (g : Held) × Contains (h ∷ hs) g × (g.name ≡ name)
    by_test true is f later = (h, contains_first h hs, (bytes_eq-Decides h.name name).0 is)
    by_test false is f later = let r = later f in let p = place_of hs r.0 r.1 in (r.0, contains_at (h ∷ hs) (suc p.0) r.0 p.1, r.2)

module _ (w : World) (compilation : Compilation) (given : List Override) (base : Text) (analysis : Analysis) (settled : AllSettle w (overrides_of given) compilation analysis.values.value.settings.items) (config : Config) (root_key : List ℕ)
    (called : List ℕ) (is_read : ℕ → Bool) (runner : Runner) (opened : List Opened) (rests : RestsOn w compilation given base analysis settled config root_key called is_read runner opened)
    (rank : ℕ) (s : Stands w compilation given base analysis settled config root_key called is_read runner opened rests rank) where
  abbrev own_frame : List BoundRow
  own_frame = s.context.scope.now.own

  abbrev vs : List (Binding Expression)
  vs = own_variables w compilation given base analysis settled config root_key called is_read runner opened rests rank s

  abbrev OfName : Text → Type 0
  OfName name = IsOfName w compilation given base analysis settled config root_key called is_read runner opened rests rank s name

  abbrev OfNone : Text → Type 0
  OfNone name = IsOfNone w compilation given base analysis settled config root_key called is_read runner opened rests rank s name

  -- ---- which number a name has in the module

  pub number_named : (name : Text) (c : OfName name) → last_named name (map binding_number vs) ≡ Some c.v.number
  number_named name c = by_last (last_named name (map binding_number vs)) refl
    where
      by_last : (o : Option ℕ) → last_named name (map binding_number vs) ≡ o → last_named name (map binding_number vs) ≡ Some c.v.number
      by_last (Some m) e =
          let p = place_of (map binding_number vs) (name, m) (last_named_there name (map binding_number vs) m e) in
          let q = mapped_at binding_number vs p.0 (name, m) p.1 in
          let one : q.0 ≡ c.v = one_of_name w compilation given base analysis settled config root_key called is_read runner opened rests rank s p.0 c.i q.0 c.v q.1 c.there (ap (λ (x : Text × ℕ). x.0) q.2 ∙ sym c.is_named) in
          e ∙ ap (λ n. Some n) (sym (ap (λ (x : Text × ℕ). x.1) q.2) ∙ ap (λ (v : Binding Expression). v.number) one)
      by_last None e = absurd (none_named name (map binding_number vs) e (contains_at (map (λ (p : Text × ℕ). p.0) (map binding_number vs)) c.i name
          (mapped (λ (p : Text × ℕ). p.0) (map binding_number vs) c.i (binding_number c.v) (mapped binding_number vs c.i c.v c.there) ∙ ap (λ n. Some n) c.is_named)))

  pub number_of_none : (name : Text) → OfNone name → last_named name (map binding_number vs) ≡ None
  number_of_none name c = by_last (last_named name (map binding_number vs)) refl
    where
      by_last : (o : Option ℕ) → last_named name (map binding_number vs) ≡ o → last_named name (map binding_number vs) ≡ None
      by_last None e = e
      by_last (Some m) e =
          let p = place_of (map binding_number vs) (name, m) (last_named_there name (map binding_number vs) m e) in
          let q = mapped_at binding_number vs p.0 (name, m) p.1 in
          absurd (c.none p.0 q.0 q.1 (ap (λ (x : Text × ℕ). x.0) q.2))

  -- ---- numbers of variables are above those of constants

  pub variable_above : (i : ℕ) (v : Binding Expression) → slice_get vs i ≡ Some v → length constant_rows ≤ v.number
  variable_above i v e =
      let a = item_of w compilation given base analysis settled config root_key called is_read runner opened rests rank s i v e in
      above_constants w compilation rests.numbered a.0 (Assignment v) a.2 v.number (contains_first v.number [])

  constant_at : (n : ℕ) → bound_in s.alike.constants n ≡ option_map (constant_binding n) (slice_get constant_rows n)
  constant_at n = s.alike.language n

  no_row : {A : Type 0} (xs : List A) (n : ℕ) → length xs ≤ n → slice_get xs n ≡ None
  no_row {A} xs n le = by_row (slice_get xs n) refl
    where
      by_row : (o : Option A) → slice_get xs n ≡ o → slice_get xs n ≡ None
      by_row None e = e
      by_row (Some x) e = let lt = slice_get_within xs n x e in absurd (omega (arith, le, lt))

  -- ---- what variables give

  abbrev outside : Text → Option ℕ → Result Value Fault
  outside name number = read_in (λ number. false) (record { own = []; outer = own_frame ∷ s.alike.constants ∷ [] }) name number

  -- a variable that is bound in the module
  pub variable_reads : (name : Text) (c : OfName name) → IsSome (look_up s.context.scope.now c.v.number) → outside name (Some c.v.number) ≡ reading_in s.o.values around (record { name = name; number = None })
  variable_reads name c bound = by_own (bound_in own_frame c.v.number) refl
    where
      n : ℕ
      n = c.v.number

      held_is : option_map (λ (row : BoundRow). row.value) (bound_in own_frame n) ≡ held name s.o.values
      held_is =
          let l = variable_lent w compilation given base analysis settled config root_key called is_read runner opened rests rank s c.i c.v c.there in
          ap (λ (v : Binding Expression). option_map (λ (row : BoundRow). row.value) (bound_in own_frame v.number)) (sym l.2)
          ∙ s.alike.values l.0 l.1
          ∙ ap (λ t. held t s.o.values) (ap (λ (v : Binding Expression). lexeme v.name.token) l.2 ∙ c.is_named)

      no_constant : bound_in s.alike.constants n ≡ None
      no_constant = constant_at n ∙ ap (option_map (constant_binding n)) (no_row constant_rows n (variable_above c.i c.v c.there))

      by_own : (o : Option BoundRow) → bound_in own_frame n ≡ o → outside name (Some n) ≡ reading_in s.o.values around (record { name = name; number = None })
      by_own None e = absurd (nothing (found_in (own_frame ∷ s.alike.constants ∷ []) n) (ap₂ (λ a b. option_or a (option_or b None)) e no_constant) (subst (λ fs. IsSome (found_in (own_frame ∷ fs) n)) s.alike.outer bound))
        where
          nothing : (o : Option BoundRow) → o ≡ None → IsSome o → ⊥
          nothing None e is = true≢false (sym is)
          nothing (Some r) e is = none-some r (sym e)
      by_own (Some row) e =
          ap (λ o. value_found name (option_or o (option_or (bound_in s.alike.constants n) None))) e
          ∙ sym (ap (λ (h : Option Value). read_by h (text_named name constant_rows) name) (sym held_is ∙ ap (option_map (λ (r : BoundRow). r.value)) e))

  -- a constant, where no variable has its name
  pub constant_reads : (name : Text) → OfNone name → (m : ℕ) → constant_number name ≡ Some m → outside name (Some m) ≡ reading_in s.o.values around (record { name = name; number = None })
  constant_reads name c m e =
      let t = constant_text name m e in
      let lt = slice_get_within constant_rows m t.0 t.1 in
      let here : bound_in s.alike.constants m ≡ Some (constant_binding m t.0) = constant_at m ∙ ap (option_map (constant_binding m)) t.1 in
      ap₂ (λ a b. value_found name (option_or a (option_or b None))) (none_bound (bound_in own_frame m) refl lt) here
      ∙ sym (ap₂ (λ (h : Option Value) o. read_by h o name) (none_held (held name s.o.values) refl) t.2)
    where
      none_bound : (o : Option BoundRow) → bound_in own_frame m ≡ o → m < length constant_rows → bound_in own_frame m ≡ None
      none_bound None is lt = is
      none_bound (Some row) is lt =
          let f = row_found own_frame m row is in
          let r = row_of_variable w compilation given base analysis settled config root_key called is_read runner opened rests rank s row f.0 in
          let l = lent_there w compilation given base analysis settled config root_key called is_read runner opened rests rank s r.0 r.1 in
          let above = variable_above l.0 r.0.assignment.now l.1 in
          let number : r.0.assignment.now.number ≡ m = sym (ap (λ (b : BoundRow). b.number) r.2) ∙ f.1 in
          absurd (omega (arith, lt, above, number))

      none_held : (o : Option Value) → held name s.o.values ≡ o → held name s.o.values ≡ None
      none_held None is = is
      none_held (Some v) is =
          let h = held_there name s.o.values v is in
          let l = rests.held_only s.resolved.module s.context s.context_there s.o s.among s.alike h.0 h.1 in
          let t = lent_there w compilation given base analysis settled config root_key called is_read runner opened rests rank s l.0 l.1 in
          absurd (c.none t.0 l.0.assignment.now t.1 (l.2 ∙ h.2))

  -- ---- numbers of parameters are others

  pub parameter_apart : (j : ℕ) (p : Parameter) → slice_get s.planned.recipe.now.parameters.items j ≡ Some p → (i : ℕ) (v : Binding Expression) → slice_get vs i ≡ Some v → p.number ≡ v.number → ⊥
  parameter_apart j p e i v f same =
      let a = item_of w compilation given base analysis settled config root_key called is_read runner opened rests rank s i v f in
      let numbers = map (λ (q : Parameter). q.number) s.planned.recipe.now.parameters.items in
      let here = contains_at numbers j p.number (mapped (λ (q : Parameter). q.number) s.planned.recipe.now.parameters.items j p e) in
      let items : RecipeItem s.planned.recipe.now ≡ Assignment v = numbered_once w compilation rests.numbered s.resolved.place a.0 (RecipeItem s.planned.recipe.now) (Assignment v) s.is_planned.recipe a.2 p.number here
      (subst (λ m. Contains (m ∷ []) p.number) same (contains_first p.number [])) in
      cc items

  pub parameter_above : (j : ℕ) (p : Parameter) → slice_get s.planned.recipe.now.parameters.items j ≡ Some p → length constant_rows ≤ p.number
  parameter_above j p e =
      let numbers = map (λ (q : Parameter). q.number) s.planned.recipe.now.parameters.items in
      above_constants w compilation rests.numbered s.resolved.place (RecipeItem s.planned.recipe.now) s.is_planned.recipe p.number (contains_at numbers j p.number (mapped (λ (q : Parameter). q.number) s.planned.recipe.now.parameters.items j p e))
