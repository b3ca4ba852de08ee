-- Parameters are read where they are spelled, and only there.
use Rattle.std.proofs.Common.{◌≡◌, ◌≢◌, ℕ, zero, suc, ◌<◌, ◌≤◌, Bool, true, false, ◌||◌, List, [], ◌∷◌, length, map, Ok, Err, Option, Some, None, refl, ap, arith, inl, inr, if◌then◌else◌}
use Rattle.just_text.specs.Tokens.{Word}
use Rattle.just_text.specs.declared.compile_error.CompileErrorKind.TheVariants.{DuplicateParameter}
use Rattle.just_text.specs.declared.token_kind.TokenKind.{TokenKind}
use Rattle.just_text.specs.declared.token_kind.TokenKind.TheVariants.{Asterisk, Colon, Dollar, Equals, Identifier, Plus as PlusMark}
use Rattle.tree_items.specs.declared.recipe.ParameterKind.{ParameterKind}
use Rattle.tree_items.specs.declared.recipe.ParameterKind.TheVariants.{Plus, Singular, Star}
use Rattle.tree_items.specs.Recipes.{is_variadic, ParameterShape}
use Rattle.tree_expressions.specs.Shape.{Shape}
use Rattle.parse_expressions.specs.Words.{is_kind, Begins, Mark, Lacks}
use Rattle.parse_expressions.specs.Literals.{Expansion}
use Rattle.parse_expressions.specs.Laws.{Exactly}
use Rattle.parse_expressions.specs.Reading.{◌>>=◌, refused, accept, is_next}
use Rattle.parse_recipes.specs.Headers.{IsKind, IsExported, AreDistinct, parameter_name, IsDefault, IsParameter, AreParameters}
use Rattle.parse_recipes.specs.Reading.{is_named, unless_none, kind_at, marked_at, parameter_ahead, last_if, last_at, default_at, named_at, parameter_at, parameters_at}
use Rattle.parse_expressions.proofs.TokensTaken.{lacks, front_shorter, mark_shorter, accept_mark, expect_begins, taken, none_taken, not_first, no_accept, is_next-yes, is_next-no, Reads}
use Rattle.parse_recipes.proofs.RecipeMarks.{exported, exported-mark, marked_no_longer, marked_found, no_mark, marked_again}
use Rattle.parse_recipes.proofs.ExpressionFronts.{shorter}
use Rattle.parse_recipes.proofs.ExpressionsRead.{fewer, expression_found, expression_again}
use Rattle.parse_recipes.proofs.Distinct.{AreNew, one_more, more_before}
use Rattle.parse_expressions.proofs.Taken.{bind_ok, inspect, test, turned, ok_is}

-- ---- kinds

singular : (k : ParameterKind) → is_variadic k ≡ false → k ≡ Singular
singular Plus h = absurd cc
singular Singular h = refl
singular Star h = absurd cc

variadic : (k : ParameterKind) → is_variadic k ≡ true → k ≢ Singular
variadic Plus h = λ e. absurd (let p = e in cc)
variadic Singular h = absurd cc
variadic Star h = λ e. absurd (let p = e in cc)

kind_no_longer : (k : ParameterKind) (ws rest : List Word) → IsKind k ws rest → length rest ≤ length ws
kind_no_longer Plus ws rest m = let p = mark_shorter PlusMark ws rest m in omega arith
kind_no_longer Singular ws rest m = rw m (omega arith)
kind_no_longer Star ws rest m = let p = mark_shorter Asterisk ws rest m in omega arith

-- ---- that parameters take words

module _ (expansion : Expansion) where
  default_no_longer : (d : Option Shape) (ws rest : List Word) → IsDefault expansion d ws rest → length rest ≤ length ws
  default_no_longer None ws rest i = rw i.0 (omega arith)
  default_no_longer (Some e) ws rest (a, m, i) = let p = mark_shorter Equals ws a m in let q = shorter expansion e a rest i.is in omega arith

  parameter_shorter : (p : ParameterShape) (ws rest : List Word) → IsParameter expansion p ws rest → length rest < length ws
  parameter_shorter p ws rest i =
      let s1 = kind_no_longer p.kind ws i.behind_mark i.kind in
      let s2 = marked_no_longer Dollar p.export i.behind_mark i.behind_dollar (exported-mark p.export i.behind_mark i.behind_dollar i.export) in
      let s3 = front_shorter Identifier p.name i.behind_dollar i.behind_name i.name in
      let s4 = default_no_longer p.default i.behind_name rest i.default in omega arith

-- after the mark of the kind comes a dollar or a name
behind_kind : (k : TokenKind) (b : Bool) (name : List ℕ) (ws a rest : List Word) → IsExported b ws a → Begins Identifier name a rest → is_kind Dollar k ≡ false → is_kind Identifier k ≡ false → Lacks k ws
behind_kind k true name ws a rest m f p q = lacks Dollar k ws a m p
behind_kind k false name ws a rest m f p q = lacks Identifier k ws rest (name, rw m f) q

module _ {T : Type 0} (word : T → Word) where
  kind_found : (ts : List T) → IsKind (kind_at word ts).0 (map word ts) (map word (kind_at word ts).1)
  unfolding kind_at
  kind_found ts =
      elim (inspect (accept word PlusMark ts)) [
        | inr w ↦ rw w.1 (accept_mark word PlusMark ts w.0 w.1)
        | inl w ↦ elim (inspect (accept word Asterisk ts)) [
          | inr v ↦ rw (w, v.1) (accept_mark word Asterisk ts v.0 v.1)
          | inl v ↦ rw (w, v) refl
        ]
      ]

  record Kinded (kind : ParameterKind) (ts : List T) (ws : List Word) : Type 0 where
    rest : List T
    is : kind_at word ts ≡ (kind, rest)
    others : map word rest ≡ ws

  no_kind : (ts : List T) → Lacks PlusMark (map word ts) → Lacks Asterisk (map word ts) → kind_at word ts ≡ (Singular, ts)
  unfolding kind_at
  no_kind ts p q = rw (none_taken word PlusMark ts p, none_taken word Asterisk ts q) refl

  kind_again : (kind : ParameterKind) (ts : List T) (ws : List Word) → IsKind kind (map word ts) ws → Lacks PlusMark ws → Lacks Asterisk ws → Kinded kind ts ws
  unfolding kind_at
  kind_again Plus ts ws m p q = let t = taken word PlusMark m.0 ts ws m.1 in record { rest = t.rest; is = rw t.accepts refl; others = t.others }
  kind_again Singular ts ws m p q = record { rest = ts; is = no_kind ts (rw m p) (rw m q); others = m }
  kind_again Star ts ws m p q =
      let t = taken word Asterisk m.0 ts ws m.1 in
      record { rest = t.rest; is = rw (no_accept word PlusMark Asterisk ts ws m refl, t.accepts) refl; others = t.others }

  last_is : (o : Option T) (ts rest : List T) → last_if word o ts ≡ Ok rest → ts ≡ rest
  last_is None ts rest h = ok_is ts rest h
  last_is (Some t) ts rest h = absurd cc

  last_found : (ts rest : List T) → last_at word ts ≡ Ok rest → ts ≡ rest
  unfolding last_at
  last_found ts rest h = last_is (parameter_ahead word ts) ts rest h

  -- no parameter comes before a colon
  last_again : (ts : List T) (after : List Word) → Mark Colon (map word ts) after → last_at word ts ≡ Ok ts
  unfolding last_at parameter_ahead
  last_again ts after m =
      let k = no_kind ts (lacks Colon PlusMark (map word ts) after m refl) (lacks Colon Asterisk (map word ts) after m refl) in
      let d = no_mark word Dollar ts (lacks Colon Dollar (map word ts) after m refl) in
      rw (k, d, no_accept word Identifier Colon ts after m refl) refl

  module _ (expansion : Expansion) (exactly : (levels k : ℕ) → Exactly word expansion levels k) where
    -- ---- what is read

    default_found : (ts : List T) (p : Option Shape × List T) → default_at word expansion ts ≡ Ok p → IsDefault expansion p.0 (map word ts) (map word p.1)
    unfolding default_at
    default_found ts p h =
        elim (inspect (accept word Equals ts)) [
          | inl w ↦ turned (λ (z : Option Shape × List T). IsDefault expansion z.0 (map word ts) (map word z.1)) (None, ts) p (rw w at h) (refl, not_first word Equals ts w)
          | inr w ↦
              let e = bind_ok _ _ p (rw w.1 at h) in
              turned (λ (z : Option Shape × List T). IsDefault expansion z.0 (map word ts) (map word z.1)) (Some e.0.0, e.0.1) p e.2
              (map word w.0.1, accept_mark word Equals ts w.0 w.1, expression_found word expansion exactly 256 0 w.0.1 e.0 e.1)
        ]

    named_found : (ws behind : List Word) (kind : ParameterKind) (export : Bool) (ts : List T) (p : (T × ParameterShape) × List T) → IsKind kind ws behind → IsExported export behind (map word ts)
        → named_at word expansion kind export ts ≡ Ok p → IsParameter expansion p.0.1 ws (map word p.1)
    unfolding named_at
    named_found ws behind kind export ts p k d h =
        let t = bind_ok _ _ p h in
        let e = bind_ok _ _ p t.2 in
        turned (λ (z : (T × ParameterShape) × List T). IsParameter expansion z.0.1 ws (map word z.1))
        ((t.0.0, record { kind = kind; export = export; name = (word t.0.0).text; default = e.0.0 }), e.0.1) p e.2
        (record {
          behind_mark = behind;
          behind_dollar = map word ts;
          behind_name = map word t.0.1;
          kind = k;
          export = d;
          name = expect_begins word Identifier ts t.0 t.1;
          default = default_found t.0.1 e.0 e.1;
        })

    -- a parameter, or nothing
    abbrev MayBeParameter : Option (T × ParameterShape) → List T → List T → Type 0
    MayBeParameter None ts rest = ts ≡ rest
    MayBeParameter (Some x) ts rest = IsParameter expansion x.1 (map word ts) (map word rest)

    parameter_found : (ts : List T) (p : Option (T × ParameterShape) × List T) → parameter_at word expansion ts ≡ Ok p → MayBeParameter p.0 ts p.1
    unfolding parameter_at
    parameter_found ts p h =
        elim (test (is_variadic (kind_at word ts).0 || (marked_at word Dollar (kind_at word ts).1).0 || is_next word Identifier (marked_at word Dollar (kind_at word ts).1).1)) [
          | inr f ↦ turned (λ (z : Option (T × ParameterShape) × List T). MayBeParameter z.0 ts z.1) (None, ts) p (rw f at h) refl
          | inl f ↦
              let n = bind_ok _ _ p (rw f at h) in
              let d = marked_found word Dollar (kind_at word ts).1 in
              turned (λ (z : Option (T × ParameterShape) × List T). MayBeParameter z.0 ts z.1) (Some n.0.0, n.0.1) p n.2
              (named_found (map word ts) (map word (kind_at word ts).1) (kind_at word ts).0 (marked_at word Dollar (kind_at word ts).1).0 (marked_at word Dollar (kind_at word ts).1).1 n.0 (kind_found ts) (exported _ _ _ d) n.1)
        ]

    -- parameters of names that differ, also from those before
    pub record Found (before : List (List ℕ)) (ts : List T) (ps : List ParameterShape) (rest : List T) : Type 0 where
      pub are : AreParameters expansion ps (map word ts) (map word rest)
      pub distinct : AreDistinct (map parameter_name ps)
      pub new : AreNew before (map parameter_name ps)

    one_parameter : (before : List (List ℕ)) (ts mid rest : List T) (x : ParameterShape) (xs : List ParameterShape) → IsParameter expansion x (map word ts) (map word mid) → is_named before x.name ≡ false
        → ((x.kind ≢ Singular) → xs ≡ []) → Found (x.name ∷ before) mid xs rest → Found before ts (x ∷ xs) rest
    one_parameter before ts mid rest x xs is other last more =
        let names = one_more before (map parameter_name xs) x.name other more.new more.distinct in
        record { are = (map word mid, is, more.are, last); distinct = names.0; new = names.1 }

    none_found : (before : List (List ℕ)) (ts rest : List T) → ts ≡ rest → Found before ts [] rest
    none_found before ts rest same = record { are = ap (map word) same; distinct = tt; new = tt }

    parameters_turn : (n : ℕ) (before : List (List ℕ)) (ts : List T) (p : List ParameterShape × List T) (o : Option (T × ParameterShape)) (mid : List T) → MayBeParameter o ts mid
        → unless_none word (Ok ([], mid)) o
        (λ x. if is_named before x.1.name
        then Err (refused x.0 (DuplicateParameter x.1.name))
        else if is_variadic x.1.kind
        then (last_at word mid >>= λ rest. Ok (x.1 ∷ [], rest))
        else parameters_at word expansion n (x.1.name ∷ before) mid >>= λ xs. Ok (x.1 ∷ xs.0, xs.1)) ≡ Ok p
        → ((b : List (List ℕ)) (us : List T) (q : List ParameterShape × List T) → parameters_at word expansion n b us ≡ Ok q → Found b us q.0 q.1) → Found before ts p.0 p.1
    parameters_turn n before ts p None mid is h others = turned (λ (z : List ParameterShape × List T). Found before ts z.0 z.1) ([], mid) p h (none_found before ts mid is)
    parameters_turn n before ts p (Some x) mid is h others =
        elim (test (is_named before x.1.name)) [
          | inl f ↦ let q = rw f at h in absurd cc
          | inr f ↦ elim (test (is_variadic x.1.kind)) [
            | inl v ↦
                let rest = bind_ok _ _ p (rw (f, v) at h) in
                turned (λ (z : List ParameterShape × List T). Found before ts z.0 z.1) (x.1 ∷ [], rest.0) p rest.2
                (one_parameter before ts mid rest.0 x.1 [] is f (λ k. refl) (none_found (x.1.name ∷ before) mid rest.0 (last_found mid rest.0 rest.1)))
            | inr v ↦
                let more = bind_ok _ _ p (rw (f, v) at h) in
                turned (λ (z : List ParameterShape × List T). Found before ts z.0 z.1) (x.1 ∷ more.0.0, more.0.1) p more.2
                (one_parameter before ts mid more.0.1 x.1 more.0.0 is f (λ k. absurd (k (singular x.1.kind v))) (others (x.1.name ∷ before) mid more.0 more.1))
          ]
        ]

    pub parameters_found : (n : ℕ) (before : List (List ℕ)) (ts : List T) (p : List ParameterShape × List T) → parameters_at word expansion n before ts ≡ Ok p → Found before ts p.0 p.1
    unfolding parameters_at
    parameters_found zero before ts p h = absurd cc
    parameters_found (suc n) before ts p h =
        let x = bind_ok _ _ p h in
        parameters_turn n before ts p x.0.0 x.0.1 (parameter_found ts x.0 x.1) x.2 (λ b us q. parameters_found n b us q)

    -- ---- what is spelled

    default_again : (d : Option Shape) (ts : List T) (ws : List Word) → IsDefault expansion d (map word ts) ws → Reads word (default_at word expansion ts) d ws
    unfolding default_at
    default_again None ts ws i = record { rest = ts; is = rw (none_taken word Equals ts i.1) refl; others = i.0 }
    default_again (Some e) ts ws (a, m, i) =
        let t = taken word Equals m.0 ts a m.1 in
        let r = expression_again word expansion exactly 256 0 t.rest e ws (rw t.others i) in
        record { rest = r.rest; is = rw (t.accepts, r.is) refl; others = r.others }

    -- a name and its default are read, and after them come these words
    record Named (x : ParameterShape) (ts : List T) (ws : List Word) : Type 0 where
      token : T
      rest : List T
      is : named_at word expansion x.kind x.export ts ≡ Ok ((token, x), rest)
      ahead : is_next word Identifier ts ≡ true
      others : map word rest ≡ ws

    named_again : (x : ParameterShape) (ts : List T) (a ws : List Word) → Begins Identifier x.name (map word ts) a → IsDefault expansion x.default a ws → Named x ts ws
    unfolding named_at
    named_again x ts a ws f i =
        let t = taken word Identifier x.name ts a f in
        let e = default_again x.default t.rest ws (rw t.others i) in
        record { token = t.token; rest = e.rest; is = rw (t.expects, e.is, t.says) refl; ahead = is_next-yes word Identifier ts (t.token, t.rest) t.accepts; others = e.others }

    -- the same of a whole parameter
    record Spelled (x : ParameterShape) (ts : List T) (ws : List Word) : Type 0 where
      token : T
      rest : List T
      is : parameter_at word expansion ts ≡ Ok (Some (token, x), rest)
      others : map word rest ≡ ws

    goes_on : (a b : Bool) → (a || b || true) ≡ true
    goes_on true b = refl
    goes_on false true = refl
    goes_on false false = refl

    parameter_again : (x : ParameterShape) (ts : List T) (ws : List Word) → IsParameter expansion x (map word ts) ws → Spelled x ts ws
    unfolding parameter_at
    parameter_again x ts ws i =
        let k = kind_again x.kind ts i.behind_mark i.kind (behind_kind PlusMark x.export x.name i.behind_mark i.behind_dollar i.behind_name i.export i.name refl refl)
        (behind_kind Asterisk x.export x.name i.behind_mark i.behind_dollar i.behind_name i.export i.name refl refl) in
        let d = marked_again word Dollar x.export k.rest i.behind_dollar (rw k.others (exported-mark x.export i.behind_mark i.behind_dollar i.export)) (lacks Identifier Dollar i.behind_dollar i.behind_name (x.name, i.name) refl) in
        let n = named_again x d.rest i.behind_name ws (rw d.others i.name) i.default in
        record { token = n.token; rest = n.rest; is = rw (k.is, d.is, n.ahead, goes_on (is_variadic x.kind) x.export, n.is) refl; others = n.others }

    -- no parameter comes before a colon
    no_parameter : (ts : List T) (after : List Word) → Mark Colon (map word ts) after → parameter_at word expansion ts ≡ Ok (None, ts)
    unfolding parameter_at
    no_parameter ts after m =
        let k = no_kind ts (lacks Colon PlusMark (map word ts) after m refl) (lacks Colon Asterisk (map word ts) after m refl) in
        let d = no_mark word Dollar ts (lacks Colon Dollar (map word ts) after m refl) in
        rw (k, d, is_next-no word Identifier ts (no_accept word Identifier Colon ts after m refl)) refl

    last_one : (n : ℕ) (before : List (List ℕ)) (ts : List T) (x : ParameterShape) (ws after : List Word) → is_named before x.name ≡ false → is_variadic x.kind ≡ true → Mark Colon ws after
        → IsParameter expansion x (map word ts) ws → Reads word (parameters_at word expansion (suc n) before ts) (x ∷ []) ws
    unfolding parameters_at
    last_one n before ts x ws after new many m i =
        let s = parameter_again x ts ws i in
        record { rest = s.rest; is = rw (s.is, new, many, last_again s.rest after (rw s.others m)) refl; others = s.others }

    one_before : (n : ℕ) (before : List (List ℕ)) (ts : List T) (x : ParameterShape) (xs : List ParameterShape) (ws : List Word) → is_named before x.name ≡ false → is_variadic x.kind ≡ false
        → (s : Spelled x ts ws) → (end : List Word) → Reads word (parameters_at word expansion n (x.name ∷ before) s.rest) xs end → Reads word (parameters_at word expansion (suc n) before ts) (x ∷ xs) end
    unfolding parameters_at
    one_before n before ts x xs ws new one s end r = record { rest = r.rest; is = rw (s.is, new, one, r.is) refl; others = r.others }

    pub parameters_again : (ps : List ParameterShape) (n : ℕ) (before : List (List ℕ)) (ts : List T) (end after : List Word) → length ts < n → AreParameters expansion ps (map word ts) end
        → AreDistinct (map parameter_name ps) → AreNew before (map parameter_name ps) → Mark Colon end after → Reads word (parameters_at word expansion n before ts) ps end
    unfolding parameters_at
    parameters_again ps zero before ts end after fuel i distinct new m = absurd (omega arith)
    parameters_again [] (suc n) before ts end after fuel i distinct new m = record { rest = ts; is = rw (no_parameter ts after (rw i m)) refl; others = i }
    parameters_again (x ∷ xs) (suc n) before ts end after fuel (a, is, i, last) distinct new m =
        elim (test (is_variadic x.kind)) [
          | inl v ↦
              let none = last (variadic x.kind v) in
              let same : a ≡ end = rw none at i in
              rw none (last_one n before ts x end after new.0 v m (rw (← same) is))
          | inr v ↦
              let s = parameter_again x ts a is in
              let less = fewer word ts s.rest a s.others (parameter_shorter expansion x (map word ts) a is) in
              let r = parameters_again xs n (x.name ∷ before) s.rest end after (omega (arith, less)) (rw s.others i) distinct.1 (more_before before (map parameter_name xs) x.name distinct.0 new.1) m in
              one_before n before ts x xs a new.0 v s end r
        ]
