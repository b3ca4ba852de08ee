-- What recipes read, and what is opened from there.
use Rattle.std.proofs.Common.{◌≡◌, ◌⊎◌, inl, inr, ℕ, zero, suc, ◌+◌, ◌<◌, ◌≤◌, min, Bool, true, false, if◌then◌else◌, nat_eq, nat_lt, eqb-true, eq-eqb, List, [], ◌∷◌, ◌++◌, append_assoc, drop, length, map, get_or, Option, Some, None, refl, ap, sym, subst, ◌∙◌, arith}
use Rattle.std.specs.Prelude.{slice_get, Contains}
use Rattle.std.proofs.lemmas.Bool.{cases_lt, cases_order, le-ltb, lt-ltb}
use Rattle.std.proofs.lemmas.List.{append-nil, length-map}
use Rattle.std.proofs.lemmas.List.Elements.{Contains-append_cases, Contains-append_left, Contains-append_right}
use Rattle.std.proofs.lemmas.Option.{none-some, same_Some, slice_get_past, slice_get_within, slice_get-get_or}
use Rattle.evaluate_context.specs.declared.context.AssignmentRef.{AssignmentRef}
use Rattle.evaluate_context.specs.declared.settings.Settings.{Settings}
use Rattle.resolve_order.specs.Flooded.{AreReached, IsMarked, Reaches, root, further}
use Rattle.resolve_order.specs.Needs.{rows as rows_in}
use Rattle.resolve_order.proofs.Places.{contains_cases, contains_first, contains_later, contains_none}
use Rattle.resolve_analysis.specs.Lists.{numbers_in}
use Rattle.resolve_analysis.specs.Opening.{AreReadRows, AreRows, IsEvaluated, IsNumberOf, IsOpened, anyway, by_recipe, by_variable, IsOpenedNumber, IsReadByRecipe, exports_all, is_wanted, marked_reads, needs_of, reads_at, reads_if_marked, wanted_from}
use Rattle.resolve_analysis.specs.Unions.{IsMarkedNumber, IsUnion}
use Rattle.resolve_analysis.specs.declared.module_lists.ModuleLists.{ModuleLists}
use Rattle.resolve_analysis.specs.declared.module_reads.ModuleReads.{ModuleReads}
use Rattle.resolve_analysis.specs.declared.recipes.ResolvedRecipe.{ResolvedRecipe}
use Rattle.resolve_analysis.specs.declared.variables.ModuleVariables.{ModuleVariables}
use Rattle.resolve_analysis.proofs.Uniting.{union_none, union_same, union_then}

-- ---- what a recipe that is marked reads

pub record MarkedRead (home : ℕ) (recipes : List ResolvedRecipe) (marks : List (Option ℕ)) (read : ℕ) : Type 0 where
  pub place : ℕ
  pub recipe : ResolvedRecipe
  pub here : slice_get recipes place ≡ Some recipe
  pub marked : IsMarked marks place
  pub inside : recipe.module ≡ home
  pub reads : Contains recipe.reads.items read

listed_if : (b : Bool) (xs : List ℕ) (x : ℕ) → Contains (if b then xs else []) x → (b ≡ true) × Contains xs x
listed_if true xs x c = (refl, c)
listed_if false xs x c = absurd (contains_none [] x refl c)

if_listed : (b : Bool) (xs : List ℕ) (x : ℕ) → b ≡ true → Contains xs x → Contains (if b then xs else []) x
if_listed true xs x e c = c
if_listed false xs x e c = absurd (cc e)

if_marked : (home : ℕ) (recipe : ResolvedRecipe) (mark : Option ℕ) (read : ℕ) → Contains (reads_if_marked home recipe mark) read → (m : ℕ) × (mark ≡ Some m) × (recipe.module ≡ home) × Contains recipe.reads.items read
if_marked home recipe None read c = absurd (contains_none [] read refl c)
if_marked home recipe (Some m) read c = let p = listed_if (nat_eq recipe.module home) recipe.reads.items read c in (m, refl, eqb-true recipe.module home p.0, p.1)

pub marked_read : (home : ℕ) (recipes : List ResolvedRecipe) (marks : List (Option ℕ)) (read : ℕ) → Contains (marked_reads home recipes marks) read → MarkedRead home recipes marks read
marked_read home [] marks read c = absurd (contains_none [] read refl c)
marked_read home (r ∷ rs) [] read c = absurd (contains_none [] read refl c)
marked_read home (r ∷ rs) (mark ∷ marks) read c = elim (Contains-append_cases (reads_if_marked home r mark) (marked_reads home rs marks) read c) [
  | inl d ↦ let p = if_marked home r mark read d in record { place = 0; recipe = r; here = refl; marked = (p.0, ap (λ o. Some o) p.1); inside = p.2; reads = p.3 }
  | inr d ↦ let m = marked_read home rs marks read d in record { place = suc m.place; recipe = m.recipe; here = m.here; marked = m.marked; inside = m.inside; reads = m.reads }
]

pub read_marked : (home : ℕ) (recipes : List ResolvedRecipe) (marks : List (Option ℕ)) (place : ℕ) (recipe : ResolvedRecipe) (read m : ℕ) → slice_get recipes place ≡ Some recipe → slice_get marks place ≡ Some (Some m) → nat_eq recipe.module home ≡ true
    → Contains recipe.reads.items read → Contains (marked_reads home recipes marks) read
read_marked home [] marks place recipe read m here marked inside c = absurd (none-some recipe here)
read_marked home (r ∷ rs) [] place recipe read m here marked inside c = absurd (none-some (Some m) marked)
read_marked home (r ∷ rs) (mark ∷ marks) zero recipe read m here marked inside c =
    let one : r ≡ recipe = same_Some r recipe here in
    let two : mark ≡ Some m = same_Some mark (Some m) marked in
    Contains-append_left (reads_if_marked home r mark) (marked_reads home rs marks) read
    (subst (λ o. Contains (reads_if_marked home r o) read) (sym two) (subst (λ x. Contains (reads_at home x) read) (sym one) (if_listed (nat_eq recipe.module home) recipe.reads.items read inside c)))
read_marked home (r ∷ rs) (mark ∷ marks) (suc place) recipe read m here marked inside c =
    Contains-append_right (reads_if_marked home r mark) (marked_reads home rs marks) read (read_marked home rs marks place recipe read m here marked inside c)

-- so many rows are there
pub many_rows : (count : ℕ) (row_of : ℕ → List ℕ) (rows : List (List ℕ)) → AreRows count row_of rows → length rows ≡ count
many_rows count row_of rows r = elim (cases_order (length rows) count) [
  | inl same ↦ same
  | inr s ↦ elim s [
    | inl fewer ↦ absurd (none-some (row_of (length rows)) (sym (slice_get_past rows (length rows) (omega arith)) ∙ r (length rows) ∙ ap (λ b. if b then Some (row_of (length rows)) else None) (lt-ltb (length rows) count fewer)))
    | inr more ↦ absurd (none-some (get_or rows count []) (sym (r count ∙ ap (λ b. if b then Some (row_of count) else None) (le-ltb count count (omega arith))) ∙ slice_get-get_or rows count [] more))
  ]
]

module _ (recipes : List ResolvedRecipe) (no_dependencies : Bool) (called : List ℕ) (marks : List (Option ℕ)) (a : AreReached (map (needs_of no_dependencies) recipes) [] called marks) where
  read_by : (home read : ℕ) → MarkedRead home recipes marks read → IsReadByRecipe recipes no_dependencies called home read
  read_by home read m = record { place = m.place; recipe = m.recipe; here = m.here; runs = a.sound m.place m.marked; inside = m.inside; reads = m.reads }

  marked_by : (home read : ℕ) → IsReadByRecipe recipes no_dependencies called home read → Contains (marked_reads home recipes marks) read
  marked_by home read r =
      let lt : r.place < length recipes = slice_get_within recipes r.place r.recipe r.here in
      let many : length (map (needs_of no_dependencies) recipes) ≡ length recipes = length-map recipes (needs_of no_dependencies) in
      let m : IsMarked marks r.place = a.complete r.place (omega arith) r.runs in
      read_marked home recipes marks r.place r.recipe read m.0 r.here m.1 (eq-eqb r.recipe.module home r.inside) r.reads

  row_given : (b : Bool) (row given : List ℕ) → Some row ≡ (if b then Some given else None) → row ≡ given
  row_given true row given e = same_Some row given e
  row_given false row given e = absurd (none-some row (sym e))

  pub read_rows : (count : ℕ) (rows : List (List ℕ)) → AreRows count (λ home. marked_reads home recipes marks) rows → AreReadRows count (IsReadByRecipe recipes no_dependencies called) rows
  read_rows count rows r =
      let row_is : (home : ℕ) (row : List ℕ) → slice_get rows home ≡ Some row → row ≡ marked_reads home recipes marks = λ home row here. row_given (nat_lt home count) row (marked_reads home recipes marks) (sym here ∙ r home) in
      record {
        many = many_rows count (λ home. marked_reads home recipes marks) rows r;
        sound = λ home read row here c. read_by home read (marked_read home recipes marks read (subst (λ xs. Contains xs read) (row_is home row here) c));
        complete = λ home read row here by. subst (λ xs. Contains xs read) (sym (row_is home row here)) (marked_by home read by);
      }

-- ---- what is opened from the places of a row

pub record WantedAt (all : Bool) (variables : List AssignmentRef) (start place : ℕ) : Type 0 where
  pub at : ℕ
  pub variable : AssignmentRef
  pub is : place ≡ start + at
  pub here : slice_get variables at ≡ Some variable
  pub wanted : is_wanted all variable.assignment.now ≡ true

later_wanted : (all : Bool) (x : AssignmentRef) (xs : List AssignmentRef) (start place : ℕ) → WantedAt all xs (suc start) place → WantedAt all (x ∷ xs) start place
later_wanted all x xs start place w = let e = w.is in record { at = suc w.at; variable = w.variable; is = omega arith; here = w.here; wanted = w.wanted }

wanted_case : (b all : Bool) (x : AssignmentRef) (xs : List AssignmentRef) (start place : ℕ) (rest : List ℕ) → is_wanted all x.assignment.now ≡ b → (Contains rest place → WantedAt all xs (suc start) place)
    → Contains (if b then start ∷ rest else rest) place → WantedAt all (x ∷ xs) start place
wanted_case true all x xs start place rest e more c = elim (contains_cases start rest place c) [
  | inl same ↦ record { at = 0; variable = x; is = omega (arith, same); here = refl; wanted = e }
  | inr d ↦ later_wanted all x xs start place (more d)
]
wanted_case false all x xs start place rest e more c = later_wanted all x xs start place (more c)

pub wanted_at : (all : Bool) (xs : List AssignmentRef) (start place : ℕ) → Contains (wanted_from all start xs) place → WantedAt all xs start place
wanted_at all [] start place c = absurd (contains_none [] place refl c)
wanted_at all (x ∷ xs) start place c = wanted_case (is_wanted all x.assignment.now) all x xs start place (wanted_from all (suc start) xs) refl (wanted_at all xs (suc start) place) c

wanted_step : (b : Bool) (place : ℕ) (old rest : List ℕ) → (old ++ (if b then place ∷ [] else [])) ++ rest ≡ old ++ (if b then place ∷ rest else rest)
wanted_step true place old rest = append_assoc old (place ∷ []) rest
wanted_step false place old rest = ap (λ xs. xs ++ rest) (append-nil old)

-- one variable more
pub wanted_more : (all : Bool) (xs : List AssignmentRef) (i : ℕ) (x : AssignmentRef) (old new : List ℕ) → drop i xs ≡ x ∷ drop (i + 1) xs → new ≡ old ++ (if is_wanted all x.assignment.now then i ∷ [] else [])
    → new ++ wanted_from all (i + 1) (drop (i + 1) xs) ≡ old ++ wanted_from all i (drop i xs)
wanted_more all xs i x old new next is =
    let later : i + 1 ≡ suc i = omega arith in
    ap (λ places. places ++ wanted_from all (i + 1) (drop (i + 1) xs)) is
    ∙ wanted_step (is_wanted all x.assignment.now) i old (wanted_from all (i + 1) (drop (i + 1) xs))
    ∙ ap (λ n. old ++ (if is_wanted all x.assignment.now then i ∷ wanted_from all n (drop (i + 1) xs) else wanted_from all n (drop (i + 1) xs))) later
    ∙ ap (λ ys. old ++ wanted_from all i ys) (sym next)

first_wanted : (b : Bool) (start : ℕ) (rest : List ℕ) → b ≡ true → Contains (if b then start ∷ rest else rest) start
first_wanted true start rest e = contains_first start rest
first_wanted false start rest e = absurd (cc e)

more_wanted : (b : Bool) (start place : ℕ) (rest : List ℕ) → Contains rest place → Contains (if b then start ∷ rest else rest) place
more_wanted true start place rest c = contains_later start rest place c
more_wanted false start place rest c = c

pub at_wanted : (all : Bool) (xs : List AssignmentRef) (start at place : ℕ) (x : AssignmentRef) → place ≡ start + at → slice_get xs at ≡ Some x → is_wanted all x.assignment.now ≡ true → Contains (wanted_from all start xs) place
at_wanted all [] start at place x is here w = absurd (none-some x here)
at_wanted all (y ∷ ys) start zero place x is here w =
    let one : y ≡ x = same_Some y x here in
    let same : start ≡ place = omega arith in
    subst (Contains (wanted_from all start (y ∷ ys))) same (first_wanted (is_wanted all y.assignment.now) start (wanted_from all (suc start) ys) (ap (λ (v : AssignmentRef). is_wanted all v.assignment.now) one ∙ w))
at_wanted all (y ∷ ys) start (suc at) place x is here w =
    more_wanted (is_wanted all y.assignment.now) start place (wanted_from all (suc start) ys) (at_wanted all ys (suc start) at place x (omega (arith, is)) here w)

module _ (all : Bool) (lists : ModuleLists) (reads : ModuleReads) where
  -- where more is read, more is opened
  pub opened_more : {One Two : ℕ → Type 0} → ((p : ℕ) → One p → Two p) → {place : ℕ} → IsOpened all lists reads One place → IsOpened all lists reads Two place
  opened_more more (anyway v here w) = anyway v here w
  opened_more more (by_recipe {place} r) = by_recipe (more place r)
  opened_more more (by_variable o c) = by_variable (opened_more more o) c

  pub number_more : {One Two : ℕ → Type 0} → ((p : ℕ) → One p → Two p) → (number : ℕ) → IsOpenedNumber all lists reads One number → IsOpenedNumber all lists reads Two number
  number_more more number n = record { place = n.place; here = n.here; there = n.there; opened = opened_more more n.opened }

  module _ (row : List ℕ) where
    abbrev roots : List ℕ
    roots = row ++ wanted_from all 0 lists.assignments.items

    is_root : (place : ℕ) → Contains row place ⊎ Contains (wanted_from all 0 lists.assignments.items) place → IsOpened all lists reads (Contains row) place
    is_root place (inl c) = by_recipe c
    is_root place (inr c) =
        let w = wanted_at all lists.assignments.items 0 place c in
        let e : place ≡ w.at = (let i = w.is in omega arith) in
        anyway w.variable (ap (slice_get lists.assignments.items) e ∙ w.here) w.wanted

    opened_from : {place : ℕ} → Reaches (rows_in reads.graph.items) reads.overridden.items roots place → IsOpened all lists reads (Contains row) place
    opened_from (root {place} c) = is_root place (Contains-append_cases row (wanted_from all 0 lists.assignments.items) place c)
    opened_from (further r c) = by_variable (opened_from r) c

    reached_by : {place : ℕ} → IsOpened all lists reads (Contains row) place → Reaches (rows_in reads.graph.items) reads.overridden.items roots place
    reached_by (anyway {place} v here w) = root (Contains-append_right row (wanted_from all 0 lists.assignments.items) place (at_wanted all lists.assignments.items 0 place place v (omega arith) here w))
    reached_by (by_recipe {place} c) = root (Contains-append_left row (wanted_from all 0 lists.assignments.items) place c)
    reached_by (by_variable o c) = further (reached_by o) c

    -- what is marked is what is opened
    pub marked_opened : {Old New : ℕ → Type 0} (marks : List (Option ℕ)) → AreReached (rows_in reads.graph.items) reads.overridden.items roots marks → IsUnion Old (IsMarkedNumber (numbers_in lists.assignments.items) marks) New
        → IsUnion Old (IsOpenedNumber all lists reads (Contains row)) New
    marked_opened marks a u =
        let many : length (rows_in reads.graph.items) ≡ length reads.graph.items = length-map reads.graph.items (λ r. r.items) in
        union_same
        (λ n m.
        let lt : m.place < length marks = slice_get_within marks m.place (Some m.marked.0) m.marked.1 in
        let as_many = a.many in
        record { place = m.place; here = m.here; there = omega arith; opened = opened_from (a.sound m.place m.marked) })
        (λ n o. let lt = o.there in record { place = o.place; here = o.here; marked = a.complete o.place (omega arith) (reached_by o.opened) })
        u

-- ---- all modules

module _ (all_lists : List ModuleLists) (all_reads : List ModuleReads) (settings : List Settings) (all_rows : List (List ℕ)) where
  pub record OpenedBelow (count number : ℕ) : Type 0 where
    pub opened : IsNumberOf all_lists all_reads settings all_rows number
    pub below : opened.home < count

  pub modules_none : {Old : ℕ → Type 0} → IsUnion Old (OpenedBelow 0) Old
  modules_none = union_none (λ n m. let h = m.below in absurd (omega arith))

  -- one module more
  pub modules_more : {Old Between New : ℕ → Type 0} (i : ℕ) (all : Bool) (lists : ModuleLists) (reads : ModuleReads) (row : List ℕ) → slice_get all_lists i ≡ Some lists → slice_get all_reads i ≡ Some reads → slice_get all_rows i ≡ Some row
      → all ≡ exports_all (slice_get settings i) → IsUnion Old (OpenedBelow i) Between → IsUnion Between (IsOpenedNumber all lists reads (Contains row)) New → IsUnion Old (OpenedBelow (i + 1)) New
  modules_more i all lists reads row kept known listed exports u v = union_then u v
      (λ n m. let h = m.below in record { opened = m.opened; below = omega arith })
      (λ n o. record { opened = record { home = i; lists = lists; kept = kept; reads = reads; known = known; row = row; listed = listed; opened = subst (λ b. IsOpenedNumber b lists reads (Contains row) n) exports o }; below = omega arith })
      (λ n m. elim (cases_lt m.opened.home i) [
        | inl lt ↦ inl (record { opened = m.opened; below = lt })
        | inr le ↦
            let h = m.below in
            let o = m.opened in
            let same : o.home ≡ i = omega arith in
            let one : o.lists ≡ lists = same_Some o.lists lists (sym o.kept ∙ ap (slice_get all_lists) same ∙ kept) in
            let two : o.reads ≡ reads = same_Some o.reads reads (sym o.known ∙ ap (slice_get all_reads) same ∙ known) in
            let three : o.row ≡ row = same_Some o.row row (sym o.listed ∙ ap (slice_get all_rows) same ∙ listed) in
            let four : exports_all (slice_get settings o.home) ≡ all = ap (λ h. exports_all (slice_get settings h)) same ∙ sym exports in
            inr (subst (λ b. IsOpenedNumber b lists reads (Contains row) n) four
            (subst (λ l. IsOpenedNumber (exports_all (slice_get settings o.home)) l reads (Contains row) n) one
            (subst (λ r. IsOpenedNumber (exports_all (slice_get settings o.home)) o.lists r (Contains row) n) two
            (subst (λ xs. IsOpenedNumber (exports_all (slice_get settings o.home)) o.lists o.reads (Contains xs) n) three o.opened))))
      ])

  pub modules_all : {Old New : ℕ → Type 0} (i : ℕ) → min (length all_rows) (min (length all_lists) (length all_reads)) ≤ i → IsUnion Old (OpenedBelow i) New → IsUnion Old (IsNumberOf all_lists all_reads settings all_rows) New
  modules_all i past u = union_same
      (λ n m. m.opened)
      (λ n o.
      let one : o.home < length all_lists = slice_get_within all_lists o.home o.lists o.kept in
      let two : o.home < length all_reads = slice_get_within all_reads o.home o.reads o.known in
      let three : o.home < length all_rows = slice_get_within all_rows o.home o.row o.listed in
      record { opened = o; below = omega arith })
      u

-- ---- by the recipes that run

module _ (variables : ModuleVariables) (recipes : List ResolvedRecipe) (settings : List Settings) (called : List ℕ) (no_dependencies : Bool) (rows : List (List ℕ))
    (r : AreReadRows (length variables.lists.items) (IsReadByRecipe recipes no_dependencies called) rows) where
  pub evaluated : (number : ℕ) → IsNumberOf variables.lists.items variables.reads.items settings rows number → IsEvaluated variables recipes settings called no_dependencies number
  evaluated number o = record {
    home = o.home;
    lists = o.lists;
    kept = o.kept;
    reads = o.reads;
    known = o.known;
    opened = number_more (exports_all (slice_get settings o.home)) o.lists o.reads (λ p c. r.sound o.home p o.row o.listed c) number o.opened;
  }

  pub numbered : (number : ℕ) → IsEvaluated variables recipes settings called no_dependencies number → IsNumberOf variables.lists.items variables.reads.items settings rows number
  numbered number e =
      let lt : e.home < length variables.lists.items = slice_get_within variables.lists.items e.home e.lists e.kept in
      let many = r.many in
      let listed : slice_get rows e.home ≡ Some (get_or rows e.home []) = slice_get-get_or rows e.home [] (omega arith) in
      record {
        home = e.home;
        lists = e.lists;
        kept = e.kept;
        reads = e.reads;
        known = e.known;
        row = get_or rows e.home [];
        listed = listed;
        opened = number_more (exports_all (slice_get settings e.home)) e.lists e.reads (λ p by. r.complete e.home p (get_or rows e.home []) listed by) number e.opened;
      }
