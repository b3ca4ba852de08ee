-- The variables of a module in their order, by places and by names.
use Rattle.std.proofs.Common.{◌≡◌, ◌↔◌, inl, inr, refl, sym, ◌∙◌, ap, ap₂, subst, Bool, true, false, cond, not, ◌&&◌, ◌||◌, List, [], ◌∷◌, ◌++◌, length, Option, Some, None, ℕ, zero, suc, ◌<◌, ◌≤◌, arith}
use Rattle.std.specs.Prelude.{Contains, slice_get}
use Rattle.std.specs.List.{AllByRecursion}
use Rattle.std.specs.Str.{bytes_eq}
use Rattle.std.proofs.lemmas.Option.{none-some, same_Some, slice_get_within}
use Rattle.std.proofs.lemmas.Slice.Eq.{bytes_eq-Decides}
use Rattle.just_value.specs.Frames.{BoundRow, bound_in}
use Rattle.evaluate_context.specs.declared.context.AssignmentRef.{AssignmentRef}
use Rattle.evaluate_variables.specs.Opened.{before, ordered}
use Rattle.resolve_order.specs.Reads.{IsVariableOrder, ReadsThrough}
use Rattle.meaning_evaluation.specs.Stages.Assigned.{Assigned, assigned_of}
use Rattle.meaning_runs.specs.Counts.{each_once}
use Rattle.meaning_runs.specs.Parts.{is_met}
use Rattle.meaning_rules.proofs.Worlds.Places.{contains_at, contains_cases, contains_first, contains_later, contains_none, place_of}
use Rattle.meaning_evaluation.specs.Named.{Definitions, VariableName, VariableRow}
use Rattle.just_meaning.specs.Opening.{IsOrder, named}
use Rattle.just_meaning.specs.Reading.{VariableReads}
use Rattle.laws_runs.proofs.Running.Opening.Filled.{read_names}
use Rattle.laws_runs.proofs.Running.Opening.Values.{name_of, number_of}

-- none is bound, and no number comes twice
abbrev pub AreFree : List BoundRow → List Assigned → Type 0
AreFree own [] = Unit {0}
AreFree own (a ∷ rest) = (bound_in own a.number ≡ None) × AllByRecursion (λ b. b.number ≡ a.number → ⊥) rest × AreFree own rest

unmet : (name : List ℕ) (names : List (List ℕ)) → (Contains names name → ⊥) → is_met bytes_eq name names ≡ false
unmet name [] none = refl
unmet name (x ∷ xs) none = by_test (bytes_eq name x) refl (unmet name xs (λ c. none (contains_later x xs name c)))
  where
    by_test : (b : Bool) → bytes_eq name x ≡ b → is_met bytes_eq name xs ≡ false → (b || is_met bytes_eq name xs) ≡ false
    by_test true e rest = absurd (none (subst (Contains (x ∷ xs)) (sym ((bytes_eq-Decides name x).0 e)) (contains_first x xs)))
    by_test false e rest = rest

nil_apart : {A : Type 0} (xs : List A) (x : A) (ys : List A) → [] ≡ xs ++ x ∷ ys → ⊥
nil_apart [] x ys e = cc e
nil_apart (z ∷ zs) x ys e = cc e

module _ (assignments : List AssignmentRef) where
  -- each is one of the module's variables
  abbrev pub AreLent : List Assigned → Type 0
  AreLent [] = Unit {0}
  AreLent (a ∷ rest) = ((lent : AssignmentRef) × Contains assignments lent × (a ≡ assigned_of lent)) × AreLent rest

  pub ordered_lent : (places : List ℕ) → AreLent (ordered assignments places)
  ordered_lent [] = tt
  ordered_lent (place ∷ places) = by_found (slice_get assignments place) refl (ordered_lent places)
    where
      by_found : (o : Option AssignmentRef) → slice_get assignments place ≡ o → AreLent (ordered assignments places) → AreLent (before o (ordered assignments places))
      by_found None e rest = rest
      by_found (Some lent) e rest = ((lent, contains_at assignments place lent e, refl), rest)

  module _ (by_number : (i j : ℕ) (lent other : AssignmentRef) → slice_get assignments i ≡ Some lent → slice_get assignments j ≡ Some other → number_of lent ≡ number_of other → i ≡ j) where
    apart_in : (place : ℕ) (lent : AssignmentRef) → slice_get assignments place ≡ Some lent → (places : List ℕ) → ((j q : ℕ) → slice_get places j ≡ Some q → q ≡ place → ⊥) → AllByRecursion (λ b. b.number ≡ number_of lent → ⊥) (ordered assignments places)
    apart_in place lent at [] none = tt
    apart_in place lent at (q ∷ places) none = by_found (slice_get assignments q) refl (apart_in place lent at places (λ j. none (suc j)))
      where
        by_found : (o : Option AssignmentRef) → slice_get assignments q ≡ o → AllByRecursion (λ b. b.number ≡ number_of lent → ⊥) (ordered assignments places) → AllByRecursion (λ b. b.number ≡ number_of lent → ⊥) (before o (ordered assignments places))
        by_found None e rest = rest
        by_found (Some other) e rest = (λ same. none 0 q refl (by_number q place other lent e at same), rest)

    -- places that differ have variables of which none is bound at first, and whose numbers differ
    pub ordered_free : (places : List ℕ) → ((i j p : ℕ) → slice_get places i ≡ Some p → slice_get places j ≡ Some p → i ≡ j) → AreFree [] (ordered assignments places)
    ordered_free [] once = tt
    ordered_free (place ∷ places) once = by_found (slice_get assignments place) refl (ordered_free places (λ i j p e f. let s : suc i ≡ suc j = once (suc i) (suc j) p e f in omega (arith, s)))
      where
        by_found : (o : Option AssignmentRef) → slice_get assignments place ≡ o → AreFree [] (ordered assignments places) → AreFree [] (before o (ordered assignments places))
        by_found None e rest = rest
        by_found (Some lent) e rest = (
          refl,
          apart_in place lent e places (λ j q f same. let s : 0 ≡ suc j = once 0 (suc j) place refl (f ∙ ap (λ p. Some p) same) in omega (arith, s)),
          rest,
        )

  module _ (is_read : ℕ → Bool) where
    abbrev pub names_at : List ℕ → List (List ℕ)
    names_at places = read_names is_read (ordered assignments places)

    -- a variable that is read stands at one of these places, and has the name
    pub record IsReadAt (places : List ℕ) (name : List ℕ) : Type 0 where
      pub j : ℕ
      pub place : ℕ
      pub listed : slice_get places j ≡ Some place
      pub lent : AssignmentRef
      pub at : slice_get assignments place ≡ Some lent
      pub read : is_read (number_of lent) ≡ true
      pub is_named : name_of lent ≡ name

    later_at : (place : ℕ) (places : List ℕ) (name : List ℕ) → IsReadAt places name → IsReadAt (place ∷ places) name
    later_at place places name r = record { j = suc r.j; place = r.place; listed = r.listed; lent = r.lent; at = r.at; read = r.read; is_named = r.is_named }

    pub name_there : (places : List ℕ) (name : List ℕ) → Contains (names_at places) name → IsReadAt places name
    name_there [] name c = absurd (contains_none [] name refl c)
    name_there (place ∷ places) name c = by_found (slice_get assignments place) refl c (λ d. later_at place places name (name_there places name d))
      where
        by_read : (lent : AssignmentRef) → slice_get assignments place ≡ Some lent → (b : Bool) → is_read (number_of lent) ≡ b → Contains (cond b (name_of lent ∷ names_at places) (names_at places)) name → (Contains (names_at places) name → IsReadAt (place ∷ places) name)
            → IsReadAt (place ∷ places) name
        by_read lent e false unread d go = go d
        by_read lent e true read d go = elim (contains_cases (name_of lent) (names_at places) name d) [
          | inl same ↦ record { j = 0; place = place; listed = refl; lent = lent; at = e; read = read; is_named = same }
          | inr rest ↦ go rest
        ]

        by_found : (o : Option AssignmentRef) → slice_get assignments place ≡ o → Contains (read_names is_read (before o (ordered assignments places))) name → (Contains (names_at places) name → IsReadAt (place ∷ places) name) → IsReadAt (place ∷ places) name
        by_found None e d go = go d
        by_found (Some lent) e d go = by_read lent e (is_read (number_of lent)) refl d go

    pub name_listed : (places : List ℕ) (j place : ℕ) (lent : AssignmentRef) → slice_get places j ≡ Some place → slice_get assignments place ≡ Some lent → is_read (number_of lent) ≡ true → Contains (names_at places) (name_of lent)
    name_listed [] j place lent e at read = absurd (none-some place e)
    name_listed (p ∷ places) zero place lent e at read =
        let there : slice_get assignments p ≡ Some lent = ap (slice_get assignments) (same_Some p place e) ∙ at in
        subst (λ o. Contains (read_names is_read (before o (ordered assignments places))) (name_of lent)) (sym there)
        (subst (λ b. Contains (cond b (name_of lent ∷ names_at places) (names_at places)) (name_of lent)) (sym read) (contains_first (name_of lent) (names_at places)))
    name_listed (p ∷ places) (suc j) place lent e at read = by_found (slice_get assignments p) (name_listed places j place lent e at read)
      where
        by_read : (other : AssignmentRef) (b : Bool) → Contains (names_at places) (name_of lent) → Contains (cond b (name_of other ∷ names_at places) (names_at places)) (name_of lent)
        by_read other true c = contains_later (name_of other) (names_at places) (name_of lent) c
        by_read other false c = c

        by_found : (o : Option AssignmentRef) → Contains (names_at places) (name_of lent) → Contains (read_names is_read (before o (ordered assignments places))) (name_of lent)
        by_found None c = c
        by_found (Some other) c = by_read other (is_read (number_of other)) c

    module _ (by_name : (i j : ℕ) (lent other : AssignmentRef) → slice_get assignments i ≡ Some lent → slice_get assignments j ≡ Some other → name_of lent ≡ name_of other → i ≡ j) where
      pub names_once : (places : List ℕ) → ((i j p : ℕ) → slice_get places i ≡ Some p → slice_get places j ≡ Some p → i ≡ j) → each_once bytes_eq (names_at places) ≡ true
      names_once [] once = refl
      names_once (place ∷ places) once = by_found (slice_get assignments place) refl (names_once places (λ i j p e f. let s : suc i ≡ suc j = once (suc i) (suc j) p e f in omega (arith, s)))
        where
          by_read : (lent : AssignmentRef) → slice_get assignments place ≡ Some lent → (b : Bool) → each_once bytes_eq (names_at places) ≡ true → each_once bytes_eq (cond b (name_of lent ∷ names_at places) (names_at places)) ≡ true
          by_read lent e false rest = rest
          by_read lent e true rest =
              ap (λ b. not b && each_once bytes_eq (names_at places)) (unmet (name_of lent) (names_at places) (λ c.
              let r = name_there places (name_of lent) c in
              let same = by_name r.place place r.lent lent r.at e r.is_named in
              let s : 0 ≡ suc r.j = once 0 (suc r.j) place refl (r.listed ∙ ap (λ p. Some p) same) in
              omega (arith, s)))
              ∙ rest

          by_found : (o : Option AssignmentRef) → slice_get assignments place ≡ o → each_once bytes_eq (names_at places) ≡ true → each_once bytes_eq (read_names is_read (before o (ordered assignments places))) ≡ true
          by_found None e rest = rest
          by_found (Some lent) e rest = by_read lent e (is_read (number_of lent)) rest

    -- a name stands where its variable does
    pub record IsSplit (places : List ℕ) (earlier : List (List ℕ)) (name : List ℕ) : Type 0 where
      pub front : List ℕ
      pub place : ℕ
      pub rest : List ℕ
      pub split : places ≡ front ++ place ∷ rest
      pub lent : AssignmentRef
      pub at : slice_get assignments place ≡ Some lent
      pub read : is_read (number_of lent) ≡ true
      pub is_named : name_of lent ≡ name
      pub earlier_are : names_at front ≡ earlier

    pub splits : (places : List ℕ) (earlier : List (List ℕ)) (name : List ℕ) (later : List (List ℕ)) → names_at places ≡ earlier ++ name ∷ later → IsSplit places earlier name
    splits [] earlier name later e = absurd (nil_apart earlier name later e)
    splits (p ∷ places) earlier name later e = by_found (slice_get assignments p) refl earlier e (λ front. splits places front name later)
      where
        behind_none : slice_get assignments p ≡ None → (front : List (List ℕ)) → IsSplit places front name → IsSplit (p ∷ places) front name
        behind_none e front r = record {
          front = p ∷ r.front;
          place = r.place;
          rest = r.rest;
          split = ap (λ l. p ∷ l) r.split;
          lent = r.lent;
          at = r.at;
          read = r.read;
          is_named = r.is_named;
          earlier_are = ap (λ o. read_names is_read (before o (ordered assignments r.front))) e ∙ r.earlier_are;
        }

        behind : (lent : AssignmentRef) → slice_get assignments p ≡ Some lent → (b : Bool) → is_read (number_of lent) ≡ b → (front more : List (List ℕ)) → cond b (name_of lent ∷ front) front ≡ more → IsSplit places front name → IsSplit (p ∷ places) more name
        behind lent at b is front more same r = record {
          front = p ∷ r.front;
          place = r.place;
          rest = r.rest;
          split = ap (λ l. p ∷ l) r.split;
          lent = r.lent;
          at = r.at;
          read = r.read;
          is_named = r.is_named;
          earlier_are = ap (λ o. read_names is_read (before o (ordered assignments r.front))) at ∙ ap₂ (λ c l. cond c (name_of lent ∷ l) l) is r.earlier_are ∙ same;
        }

        by_read : (lent : AssignmentRef) → slice_get assignments p ≡ Some lent → (b : Bool) → is_read (number_of lent) ≡ b → (front : List (List ℕ)) → cond b (name_of lent ∷ names_at places) (names_at places) ≡ front ++ name ∷ later
            → ((front : List (List ℕ)) → names_at places ≡ front ++ name ∷ later → IsSplit places front name) → IsSplit (p ∷ places) front name
        by_read lent at false is front e go = behind lent at false is front front refl (go front e)
        by_read lent at true is [] e go =
            let same : name_of lent ≡ name = cc e in
            record { front = []; place = p; rest = places; split = refl; lent = lent; at = at; read = is; is_named = same; earlier_are = refl }
        by_read lent at true is (x ∷ xs) e go =
            let first : name_of lent ≡ x = cc e in
            let others : names_at places ≡ xs ++ name ∷ later = cc e in
            behind lent at true is xs (x ∷ xs) (ap (λ z. z ∷ xs) first) (go xs others)

        by_found : (o : Option AssignmentRef) → slice_get assignments p ≡ o → (front : List (List ℕ)) → read_names is_read (before o (ordered assignments places)) ≡ front ++ name ∷ later
            → ((front : List (List ℕ)) → names_at places ≡ front ++ name ∷ later → IsSplit places front name) → IsSplit (p ∷ places) front name
        by_found None at front e go = behind_none at front (go front e)
        by_found (Some lent) at front e go = by_read lent at (is_read (number_of lent)) refl front e go

at_seam : (ps qs : List ℕ) (p : ℕ) → slice_get (ps ++ p ∷ qs) (length ps) ≡ Some p
at_seam [] qs p = refl
at_seam (x ∷ xs) qs p = at_seam xs qs p

in_front : (ps qs : List ℕ) (i : ℕ) → i < length ps → slice_get (ps ++ qs) i ≡ slice_get ps i
in_front [] qs i lt = absurd (omega (arith, lt))
in_front (x ∷ xs) qs zero lt = refl
in_front (x ∷ xs) qs (suc i) lt = in_front xs qs i (omega (arith, lt))

-- what is said of the variables of a module that open: by numbers and by names
pub record AreOpenedBy (assignments : List AssignmentRef) (graph : List (List ℕ)) (is_read : ℕ → Bool) (defined : Definitions) (path : List (List ℕ)) (Open : VariableName → Type 0) : Type 0 where
  pub is : (lent : AssignmentRef) → Contains assignments lent → (is_read (number_of lent) ≡ true) ↔ Open (named path (name_of lent))
  pub variables : (name : List ℕ) → Open (named path name) → (lent : AssignmentRef) × Contains assignments lent × (name_of lent ≡ name)
  pub defines : (name : List ℕ) (row : VariableRow) → defined.variable (named path name) ≡ Some row → (lent : AssignmentRef) × Contains assignments lent × (name_of lent ≡ name)
  pub closed : (name other : List ℕ) (row : VariableRow) → Open (named path name) → defined.override (named path name) ≡ None → defined.variable (named path other) ≡ Some row → VariableReads defined (named path name) other → Open (named path other)
  pub reads : (i j : ℕ) (lent other : AssignmentRef) → slice_get assignments i ≡ Some lent → slice_get assignments j ≡ Some other → is_read (number_of lent) ≡ true → defined.override (named path (name_of lent)) ≡ None
      → VariableReads defined (named path (name_of lent)) (name_of other) → ReadsThrough graph (length assignments) i j

module _ (assignments : List AssignmentRef) (graph : List (List ℕ)) (order : List ℕ) (is : IsVariableOrder graph (length assignments) order) (many : length assignments ≤ length graph) (is_read : ℕ → Bool)
    (by_name : (i j : ℕ) (lent other : AssignmentRef) → slice_get assignments i ≡ Some lent → slice_get assignments j ≡ Some other → name_of lent ≡ name_of other → i ≡ j)
    (defined : Definitions) (path : List (List ℕ)) (Open : VariableName → Type 0) (by : AreOpenedBy assignments graph is_read defined path Open) where
  abbrev names : List (List ℕ)
  names = read_names is_read (ordered assignments order)

  all_listed : (name : List ℕ) → Open (named path name) → Contains names name
  all_listed name h =
      let l = by.variables name h in
      let p = place_of assignments l.0 l.1 in
      let lt = slice_get_within assignments p.0 l.0 p.1 in
      let c = is.complete p.0 lt (omega (arith, lt, many)) in
      subst (Contains names) l.2 (name_listed assignments is_read order c.at p.0 l.0 c.found p.1 ((by.is l.0 l.1).1 (subst (λ n. Open (named path n)) (sym l.2) h)))

  only_listed : (name : List ℕ) → Contains names name → Open (named path name)
  only_listed name c =
      let r = name_there assignments is_read order name c in
      subst (λ n. Open (named path n)) r.is_named ((by.is r.lent (contains_at assignments r.place r.lent r.at)).0 r.read)

  behind_read : (earlier : List (List ℕ)) (name : List ℕ) (later : List (List ℕ)) → names ≡ earlier ++ name ∷ later → defined.override (named path name) ≡ None
      → (other : List ℕ) (row : VariableRow) → defined.variable (named path other) ≡ Some row → VariableReads defined (named path name) other → Contains earlier other
  behind_read earlier name later e free other row there reads =
      let s = splits assignments is_read order earlier name later e in
      let l = by.defines other row there in
      let q = place_of assignments l.0 l.1 in
      let opened = subst (λ n. Open (named path n)) s.is_named ((by.is s.lent (contains_at assignments s.place s.lent s.at)).0 s.read) in
      let other_opened = by.closed name other row opened free there reads in
      let other_read = (by.is l.0 l.1).1 (subst (λ n. Open (named path n)) (sym l.2) other_opened) in
      let through = by.reads s.place q.0 s.lent l.0 s.at q.1 s.read (subst (λ n. defined.override (named path n) ≡ None) (sym s.is_named) free)
      (subst (λ n. VariableReads defined (named path n) (name_of l.0)) (sym s.is_named) (subst (VariableReads defined (named path name)) (sym l.2) reads)) in
      let at : slice_get order (length s.front) ≡ Some s.place = ap (λ ps. slice_get ps (length s.front)) s.split ∙ at_seam s.front s.rest s.place in
      let b = is.ranked (length s.front) s.place q.0 at through (slice_get_within assignments q.0 l.0 q.1) in
      let found : slice_get s.front b.at ≡ Some q.0 = sym (in_front s.front (s.place ∷ s.rest) b.at b.earlier) ∙ ap (λ ps. slice_get ps b.at) (sym s.split) ∙ b.found in
      subst (λ ns. Contains ns other) s.earlier_are (subst (Contains (read_names is_read (ordered assignments s.front))) l.2 (name_listed assignments is_read s.front b.at q.0 l.0 found q.1 other_read))

  -- the names of the variables that are read, in their order, are an order of those that open
  pub names_in_order : IsOrder defined Open path names
  names_in_order = record {
    once = names_once assignments is_read by_name order (λ i j p. is.distinct i j p);
    all = all_listed;
    only = only_listed;
    behind = behind_read;
  }
