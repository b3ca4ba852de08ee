-- What is read of attributes leaves fewer tokens.
use Rattle.std.proofs.Common.{◌≡◌, ℕ, zero, suc, ◌<◌, ◌≤◌, Bool, true, false, List, [], ◌∷◌, length, Ok, Option, Some, None, ap, arith, inl, inr, if◌then◌else◌}
use Rattle.std.specs.Prelude.{codes}
use Rattle.std.specs.Str.{bytes_eq}
use Rattle.just_text.specs.Tokens.{Word}
use Rattle.just_text.specs.declared.token_kind.TokenKind.TheVariants.{BracketL, BracketR, Colon, Comment, Eol, Equals, Identifier, ParenL, ParenR, StringToken}
use Rattle.tree_expressions.specs.Cooking.{cooked}
use Rattle.tree_attributes.specs.declared.attribute.AttributeKind.{AttributeKind}
use Rattle.tree_attributes.specs.Attributes.{AttributeShape}
use Rattle.tree_expressions.specs.Shape.{Shape}
use Rattle.tree_attributes.specs.Forms.{form_of, takes}
use Rattle.parse_expressions.specs.Literals.{Expansion}
use Rattle.parse_expressions.specs.Reading.{◌>>=◌, Stop, Read, taken_if, accept}
use Rattle.parse_expressions.specs.Words.{is_kind}
use Rattle.parse_expressions.proofs.Rows.{more_shorter}
use Rattle.parse_expressions.proofs.Shorter.{accept_shorter, expect_shorter, expression_shorter, ended}
use Rattle.parse_expressions.specs.Strings.{string_at}
use Rattle.parse_attributes.specs.Arguments.{Sort, of_strings, of_expressions, of_parameter, sort_of, Arguments, nothing, strings, expressions, parameter, count, lone, made}
use Rattle.parse_attributes.specs.Lines.{behind_comments, behind_one}
use Rattle.parse_attributes.specs.Options.{OptionShape, flag, multiple, long, help, max, min, short, value}
use Rattle.parse_attributes.specs.Reading.{follow_at, line_end_at, another_at, whole_at, text_at, assigned_at, long_at, value_at, unknown_at, named_at, option_at, others_at, inside_at, arguments_at, known_at, kind_named, attribute_at}
use Rattle.parse_expressions.specs.Rows.{more_at}
use Rattle.parse_expressions.proofs.Taken.{inspect, test, bind_ok, ok_is}

-- ---- steps

-- the same of what is made of it
shaped : {A B T : Type 0} (read : Read T A) (f : A → B) (n : ℕ) → ((q : A × List T) → read ≡ Ok q → length q.1 < n) → (p : B × List T) → (read >>= λ s. Ok (f s.0, s.1)) ≡ Ok p → length p.1 < n
shaped read f n each p h = let s = bind_ok _ _ p h in ended (f s.0.0) s.0.1 p n s.2 (each s.0 s.1)

module _ {T : Type 0} (word : T → Word) where
  -- ---- rows

  pub follow_shorter : {A : Type 0} (item : List T → Read T A) (more : List T → Read T Bool)
      (each : (ts : List T) (p : A × List T) → item ts ≡ Ok p → length p.1 < length ts) (told : (ts : List T) (p : Bool × List T) → more ts ≡ Ok p → length p.1 < length ts)
      (n : ℕ) (ts : List T) (p : List A × List T) → follow_at word item more n ts ≡ Ok p → length p.1 < length ts
  unfolding follow_at
  follow_shorter item more each told zero ts p h = absurd cc
  follow_shorter item more each told (suc n) ts p h =
      let m = bind_ok _ _ p h in
      let less = told ts m.0 m.1 in
      elim (test m.0.0) [
        | inl e ↦
            let x = bind_ok _ _ p (rw e at m.2) in
            let xs = bind_ok _ _ p x.2 in
            let i = each m.0.1 x.0 x.1 in
            let r = follow_shorter item more each told n x.0.1 xs.0 xs.1 in
            ended (x.0.0 ∷ xs.0.0) xs.0.1 p (length ts) xs.2 (omega (arith, less, i, r))
        | inr e ↦ ended [] m.0.1 p (length ts) (rw e at m.2) less
      ]

  -- ---- lines

  behind_comments_no_longer : (ts : List T) → length (behind_comments word ts) ≤ length ts
  unfolding behind_comments behind_one
  behind_comments_no_longer [] = omega arith
  behind_comments_no_longer (t ∷ []) = elim (test (is_kind (word t).kind Comment)) [ inl f ↦ rw f (omega arith) | inr f ↦ rw f (omega arith) ]
  behind_comments_no_longer (t ∷ u ∷ us) =
      elim (test (is_kind (word t).kind Comment)) [
        | inr f ↦ rw f (omega arith)
        | inl f ↦ elim (test (is_kind (word u).kind Eol)) [
          | inl g ↦ let r = behind_comments_no_longer us in rw (f, g) (omega (arith, r))
          | inr g ↦ rw (f, g) (omega arith)
        ]
      ]

  line_end_shorter : (ts rest : List T) → line_end_at word ts ≡ Ok rest → length rest < length ts
  unfolding line_end_at
  line_end_shorter ts rest h =
      elim (inspect (accept word Comment ts)) [
        | inl w ↦
            let e = bind_ok _ _ rest (rw w at h) in
            let less = expect_shorter word Eol ts e.0 e.1 in
            let r = behind_comments_no_longer e.0.1 in
            let q = ok_is {A = List T} {E = Stop T} (behind_comments word e.0.1) rest e.2 in rw (← q) (omega (arith, less, r))
        | inr w ↦
            let comment = accept_shorter word Comment ts w.0 w.1 in
            let e = bind_ok _ _ rest (rw w.1 at h) in
            let less = expect_shorter word Eol w.0.1 e.0 e.1 in
            let r = behind_comments_no_longer e.0.1 in
            let q = ok_is {A = List T} {E = Stop T} (behind_comments word e.0.1) rest e.2 in rw (← q) (omega (arith, comment, less, r))
      ]

  pub another_shorter : (ts : List T) (p : Bool × List T) → another_at word ts ≡ Ok p → length p.1 < length ts
  unfolding another_at
  another_shorter ts p h =
      let m = bind_ok _ _ p h in
      let less = more_shorter word BracketR ts m.0 m.1 in
      elim (test m.0.0) [
        | inl e ↦ let q = ap (λ (z : Bool × List T). z.1) (ok_is {A = Bool × List T} {E = Stop T} m.0 p (rw e at m.2)) in rw (← q) less
        | inr e ↦
            let l = bind_ok _ _ p (rw e at m.2) in
            let behind = line_end_shorter m.0.1 l.0 l.1 in
            elim (inspect (accept word BracketL l.0)) [
              | inl w ↦ ended false l.0 p (length ts) (rw w at l.2) (omega (arith, less, behind))
              | inr w ↦ let opens = accept_shorter word BracketL l.0 w.0 w.1 in ended true w.0.1 p (length ts) (rw w.1 at l.2) (omega (arith, less, behind, opens))
            ]
      ]

  module _ (expansion : Expansion) where
    pub text_shorter : (ts : List T) (p : List ℕ × List T) → text_at word expansion ts ≡ Ok p → length p.1 < length ts
    unfolding string_at
    text_shorter ts p h =
        let t = bind_ok _ _ p h in
        let less = expect_shorter word StringToken ts t.0 t.1 in
        let s = bind_ok (taken_if word t.0.0 (cooked expansion (word t.0.0).text)) (λ s. Ok (s, t.0.1)) p t.2 in ended s.0 t.0.1 p (length ts) s.2 less

    pub whole_shorter : (ts : List T) (p : Shape × List T) → whole_at word expansion ts ≡ Ok p → length p.1 < length ts
    whole_shorter ts p h = expression_shorter word expansion 256 6 ts p h

    -- ---- options

    assigned_shorter : (ts : List T) (p : List ℕ × List T) → assigned_at word expansion ts ≡ Ok p → length p.1 < suc (length ts)
    unfolding assigned_at
    assigned_shorter ts p h =
        let q = bind_ok _ _ p h in
        let less = expect_shorter word Equals ts q.0 q.1 in
        let r = text_shorter q.0.1 p q.2 in omega (arith, less, r)

    long_no_longer : (ts : List T) (p : Option (List ℕ) × List T) → long_at word expansion ts ≡ Ok p → length p.1 < suc (length ts)
    unfolding long_at
    long_no_longer ts p h =
        elim (inspect (accept word Equals ts)) [
          | inl w ↦ ended None ts p (suc (length ts)) (rw w at h) (omega arith)
          | inr w ↦
              let less = accept_shorter word Equals ts w.0 w.1 in
              let s = bind_ok _ _ p (rw w.1 at h) in
              let r = text_shorter w.0.1 s.0 s.1 in ended (Some s.0.0) s.0.1 p (suc (length ts)) s.2 (omega (arith, less, r))
        ]

    value_shorter : (ts : List T) (p : Shape × List T) → value_at word expansion ts ≡ Ok p → length p.1 < suc (length ts)
    unfolding value_at
    value_shorter ts p h =
        let q = bind_ok _ _ p h in
        let less = expect_shorter word Equals ts q.0 q.1 in
        let r = whole_shorter q.0.1 p q.2 in omega (arith, less, r)

    unknown_no_longer : (ts rest : List T) → unknown_at word expansion ts ≡ Ok rest → length rest < suc (length ts)
    unfolding unknown_at
    unknown_no_longer ts rest h =
        elim (inspect (accept word Equals ts)) [
          | inl w ↦ let q = ok_is {A = List T} {E = Stop T} ts rest (rw w at h) in rw (← q) (omega arith)
          | inr w ↦
              let less = accept_shorter word Equals ts w.0 w.1 in
              let e = bind_ok _ _ rest (rw w.1 at h) in
              let r = whole_shorter w.0.1 e.0 e.1 in
              let q = ok_is {A = List T} {E = Stop T} e.0.1 rest e.2 in rw (← q) (omega (arith, less, r))
        ]

    named_no_longer : (name : List ℕ) (ts : List T) (p : Option OptionShape × List T) → named_at word expansion name ts ≡ Ok p → length p.1 < suc (length ts)
    unfolding named_at
    named_no_longer name ts p h =
        let n = suc (length ts) in
        elim (test (bytes_eq name (codes "flag"))) [
          | inl e0 ↦ ended (Some flag) ts p n (rw e0 at h) (omega arith)
          | inr e0 ↦ elim (test (bytes_eq name (codes "multiple"))) [
            | inl e1 ↦ ended (Some multiple) ts p n (rw (e0, e1) at h) (omega arith)
            | inr e1 ↦ elim (test (bytes_eq name (codes "long"))) [
              | inl e2 ↦ shaped (long_at word expansion ts) (λ s. Some (long s)) n (long_no_longer ts) p (rw (e0, e1, e2) at h)
              | inr e2 ↦ elim (test (bytes_eq name (codes "help"))) [
                | inl e3 ↦ shaped (assigned_at word expansion ts) (λ s. Some (help s)) n (assigned_shorter ts) p (rw (e0, e1, e2, e3) at h)
                | inr e3 ↦ elim (test (bytes_eq name (codes "max"))) [
                  | inl e4 ↦ shaped (assigned_at word expansion ts) (λ s. Some (max s)) n (assigned_shorter ts) p (rw (e0, e1, e2, e3, e4) at h)
                  | inr e4 ↦ elim (test (bytes_eq name (codes "min"))) [
                    | inl e5 ↦ shaped (assigned_at word expansion ts) (λ s. Some (min s)) n (assigned_shorter ts) p (rw (e0, e1, e2, e3, e4, e5) at h)
                    | inr e5 ↦ elim (test (bytes_eq name (codes "short"))) [
                      | inl e6 ↦ shaped (assigned_at word expansion ts) (λ s. Some (short s)) n (assigned_shorter ts) p (rw (e0, e1, e2, e3, e4, e5, e6) at h)
                      | inr e6 ↦ elim (test (bytes_eq name (codes "value"))) [
                        | inl e7 ↦ shaped (value_at word expansion ts) (λ s. Some (value s)) n (value_shorter ts) p (rw (e0, e1, e2, e3, e4, e5, e6, e7) at h)
                        | inr e7 ↦ let u = bind_ok _ _ p (rw (e0, e1, e2, e3, e4, e5, e6, e7) at h) in ended None u.0 p n u.2 (unknown_no_longer ts u.0 u.1)
                      ]
                    ]
                  ]
                ]
              ]
            ]
          ]
        ]

    pub option_shorter : (ts : List T) (p : Option OptionShape × List T) → option_at word expansion ts ≡ Ok p → length p.1 < length ts
    unfolding option_at
    option_shorter ts p h =
        let t = bind_ok _ _ p h in
        let less = expect_shorter word Identifier ts t.0 t.1 in
        let r = named_no_longer (word t.0.0).text t.0.1 p t.2 in omega (arith, less, r)

    -- ---- arguments

    others_shorter : {A : Type 0} (item : List T → Read T A) (each : (ts : List T) (p : A × List T) → item ts ≡ Ok p → length p.1 < length ts) (ts : List T) (p : List A × List T)
        → others_at word expansion item ts ≡ Ok p → length p.1 < length ts
    others_shorter item each ts p h = follow_shorter item (more_at word ParenR) each (more_shorter word ParenR) (suc (length ts)) ts p h

    inside_shorter : (sort : Sort) (ts : List T) (p : Arguments × List T) → inside_at word expansion sort ts ≡ Ok p → length p.1 < length ts
    unfolding inside_at
    inside_shorter of_strings ts p h =
        let s = bind_ok _ _ p h in
        let ss = bind_ok _ _ p s.2 in
        let i = text_shorter ts s.0 s.1 in
        let r = others_shorter (text_at word expansion) text_shorter s.0.1 ss.0 ss.1 in ended (strings s.0.0 ss.0.0) ss.0.1 p (length ts) ss.2 (omega (arith, i, r))
    inside_shorter of_expressions ts p h =
        let s = bind_ok _ _ p h in
        let ss = bind_ok _ _ p s.2 in
        let i = whole_shorter ts s.0 s.1 in
        let r = others_shorter (whole_at word expansion) whole_shorter s.0.1 ss.0 ss.1 in ended (expressions s.0.0 ss.0.0) ss.0.1 p (length ts) ss.2 (omega (arith, i, r))
    inside_shorter of_parameter ts p h =
        let s = bind_ok _ _ p h in
        let ss = bind_ok _ _ p s.2 in
        let i = text_shorter ts s.0 s.1 in
        let r = others_shorter (option_at word expansion) option_shorter s.0.1 ss.0 ss.1 in ended (parameter s.0.0 ss.0.0) ss.0.1 p (length ts) ss.2 (omega (arith, i, r))

    arguments_no_longer : (sort : Sort) (ts : List T) (p : Arguments × List T) → arguments_at word expansion sort ts ≡ Ok p → length p.1 < suc (length ts)
    unfolding arguments_at
    arguments_no_longer sort ts p h =
        elim (inspect (accept word ParenL ts)) [
          | inr w ↦
              let less = accept_shorter word ParenL ts w.0 w.1 in
              let r = inside_shorter sort w.0.1 p (rw w.1 at h) in omega (arith, less, r)
          | inl w ↦ elim (inspect (accept word Colon ts)) [
            | inl v ↦ ended nothing ts p (suc (length ts)) (rw (w, v) at h) (omega arith)
            | inr v ↦
                let less = accept_shorter word Colon ts v.0 v.1 in
                let s = bind_ok _ _ p (rw (w, v.1) at h) in
                let r = text_shorter v.0.1 s.0 s.1 in ended (lone sort s.0.0) s.0.1 p (suc (length ts)) s.2 (omega (arith, less, r))
          ]
        ]

    -- ---- attributes

    known_no_longer : (t : T) (kind : Option AttributeKind) (ts : List T) (p : Option AttributeShape × List T) → known_at word expansion t kind ts ≡ Ok p → length p.1 < suc (length ts)
    unfolding known_at
    known_no_longer t None ts p h = absurd cc
    known_no_longer t (Some kind) ts p h =
        let a = bind_ok _ _ p h in
        let less = arguments_no_longer (sort_of (form_of kind)) ts a.0 a.1 in
        elim (test (takes (form_of kind) (count a.0.0))) [
          | inl e ↦ ended (made expansion kind a.0.0) a.0.1 p (suc (length ts)) (rw e at a.2) less
          | inr e ↦ let q = rw e at a.2 in absurd cc
        ]

    pub attribute_shorter : (ts : List T) (p : Option AttributeShape × List T) → attribute_at word expansion ts ≡ Ok p → length p.1 < length ts
    unfolding attribute_at
    attribute_shorter ts p h =
        let t = bind_ok _ _ p h in
        let less = expect_shorter word Identifier ts t.0 t.1 in
        let r = known_no_longer t.0.0 (kind_named (word t.0.0).text) t.0.1 p t.2 in omega (arith, less, r)
