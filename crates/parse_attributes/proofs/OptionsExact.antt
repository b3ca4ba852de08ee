-- An option of `arg` is read where it is spelled, and only there.
use Rattle.std.proofs.Common.{◌≡◌, ℕ, List, map, Ok, Option, Some, None, codes, refl, subst, ◌∙◌, inl, inr}
use Rattle.std.specs.Prelude.{if◌then◌else◌}
use Rattle.std.specs.Str.{bytes_eq}
use Rattle.just_text.specs.Tokens.{Word}
use Rattle.just_text.specs.declared.token_kind.TokenKind.TheVariants.{Equals, Identifier}
use Rattle.parse_expressions.specs.Words.{Begins, Mark, Lacks}
use Rattle.parse_expressions.specs.Literals.{Expansion}
use Rattle.parse_expressions.specs.Laws.{Exactly}
use Rattle.parse_expressions.specs.Reading.{◌>>=◌, Stop, Read, accept, expect}
use Rattle.parse_expressions.specs.Strings.{IsString}
use Rattle.parse_expressions.proofs.Taken.{bind_ok, inspect, test, done, turned, text_same, accept_mark, accept_none, expect_is, taken, marked, lacks_accept}
use Rattle.parse_attributes.specs.Rows.{IfGiven}
use Rattle.parse_attributes.specs.Options.{OptionShape, flag, multiple, long, help, max, min, short, value}
use Rattle.parse_attributes.specs.Lines.{IsAssigned, IsOption}
use Rattle.parse_attributes.specs.Reading.{assigned_at, long_at, value_at, unknown_at, named_at, option_at}
use Rattle.parse_attributes.proofs.RowsExact.{UnlessNone, Found, Again}
use Rattle.parse_expressions.proofs.TokensTaken.{Reads}
use Rattle.parse_attributes.proofs.StringsExact.{IsSet, string_found, string_again, assigned_found, assigned_again, value_found, value_again}

-- up to rest there is `=` and a string, or nothing where no `=` stands
abbrev IsLong : Expansion → Option (List ℕ) → List Word → List Word → Type 0
IsLong expansion None words rest = (words ≡ rest) × Lacks Equals words
IsLong expansion (Some s) words rest = IsSet (IsString expansion) s words rest

-- a long name after its keyword
long_option : (expansion : Expansion) (s : Option (List ℕ)) (ws a rest : List Word) → Begins Identifier (codes "long") ws a → IsLong expansion s a rest → IsOption expansion (long s) ws rest
long_option expansion None ws a rest first (same, l) = subst (λ (v : List Word). Begins Identifier (codes "long") ws v × Lacks Equals v) same (first, l)
long_option expansion (Some s) ws a rest first (b, m, i) = (a, b, first, m, i)

module _ {T : Type 0} (word : T → Word) (expansion : Expansion) (expressions : Exactly word expansion 256 6) where
  -- ---- what is read

  long_found : Found word (IsLong expansion) (long_at word expansion)
  unfolding long_at
  long_found ts p h =
      elim (inspect (accept word Equals ts)) [
        | inl w ↦ turned (λ (z : Option (List ℕ) × List T). IsLong expansion z.0 (map word ts) (map word z.1)) (None, ts) p (rw w at h) (refl, accept_none word Equals ts w)
        | inr w ↦
            let s = bind_ok _ _ p (rw w.1 at h) in
            turned (λ (z : Option (List ℕ) × List T). IsLong expansion z.0 (map word ts) (map word z.1)) (Some s.0.0, s.0.1) p s.2
            (map word w.0.1, accept_mark word Equals ts w.0 w.1, string_found word expansion w.0.1 s.0 s.1)
      ]

  -- what is read after the name of an option is that option
  abbrev Known : List Word → Option OptionShape × List T → Type 0
  Known ws p = UnlessNone (IsOption expansion) p.0 ws (map word p.1)

  module _ (ws : List Word) (ts : List T) (p : Option OptionShape × List T) where
    -- which way a test of a name went
    by_name : (name keyword : List ℕ) (x y : Read T (Option OptionShape)) → Begins Identifier name ws (map word ts) → (if bytes_eq name keyword then x else y) ≡ Ok p
        → (Begins Identifier keyword ws (map word ts) → x ≡ Ok p → Known ws p) → (y ≡ Ok p → Known ws p) → Known ws p
    by_name name keyword x y first h same other =
        elim (test (bytes_eq name keyword)) [
          | inl w ↦ same (subst (λ (text : List ℕ). Begins Identifier text ws (map word ts)) (text_same name keyword w) first) (rw w at h)
          | inr w ↦ other (rw w at h)
        ]

    plain_known : (o : OptionShape) → IsOption expansion o ws (map word ts) → done {A = Option OptionShape × List T} {E = Stop T} (Some o, ts) ≡ Ok p → Known ws p
    plain_known o i h = turned (Known ws) (Some o, ts) p h i

    long_known : Begins Identifier (codes "long") ws (map word ts) → (long_at word expansion ts >>= λ l. Ok (Some (long l.0), l.1)) ≡ Ok p → Known ws p
    long_known first h =
        let l = bind_ok (long_at word expansion ts) _ p h in
        turned (Known ws) (Some (long l.0.0), l.0.1) p l.2 (long_option expansion l.0.0 ws (map word ts) (map word l.0.1) first (long_found ts l.0 l.1))

    assigned_known : (name : List ℕ) (option : List ℕ → OptionShape) → ((s : List ℕ) (rest : List Word) → IsAssigned expansion name s ws rest → IsOption expansion (option s) ws rest)
        → Begins Identifier name ws (map word ts) → (assigned_at word expansion ts >>= λ s. Ok (Some (option s.0), s.1)) ≡ Ok p → Known ws p
    assigned_known name option spelled first h =
        let s = bind_ok (assigned_at word expansion ts) _ p h in
        let i = assigned_found word expansion ts s.0 s.1 in
        turned (Known ws) (Some (option s.0.0), s.0.1) p s.2 (spelled s.0.0 (map word s.0.1) (map word ts, i.0, first, i.1, i.2))

    value_known : Begins Identifier (codes "value") ws (map word ts) → (value_at word expansion ts >>= λ e. Ok (Some (value e.0), e.1)) ≡ Ok p → Known ws p
    value_known first h =
        let e = bind_ok (value_at word expansion ts) _ p h in
        let i = value_found word expansion expressions ts e.0 e.1 in
        turned (Known ws) (Some (value e.0.0), e.0.1) p e.2 (map word ts, i.0, first, i.1, i.2)

    unknown : (unknown_at word expansion ts >>= λ rest. Ok (None, rest)) ≡ Ok p → Known ws p
    unknown h = let u = bind_ok (unknown_at word expansion ts) _ p h in turned (Known ws) (None, u.0) p u.2 tt

    named_found : (name : List ℕ) → Begins Identifier name ws (map word ts) → named_at word expansion name ts ≡ Ok p → Known ws p
    unfolding named_at
    named_found name first h =
        by_name name (codes "flag") _ _ first h (plain_known flag) (λ h1.
        by_name name (codes "multiple") _ _ first h1 (plain_known multiple) (λ h2.
        by_name name (codes "long") _ _ first h2 long_known (λ h3.
        by_name name (codes "help") _ _ first h3 (assigned_known (codes "help") help (λ s rest i. i)) (λ h4.
        by_name name (codes "max") _ _ first h4 (assigned_known (codes "max") max (λ s rest i. i)) (λ h5.
        by_name name (codes "min") _ _ first h5 (assigned_known (codes "min") min (λ s rest i. i)) (λ h6.
        by_name name (codes "short") _ _ first h6 (assigned_known (codes "short") short (λ s rest i. i)) (λ h7.
        by_name name (codes "value") _ _ first h7 value_known unknown)))))))

  pub option_found : Found word (UnlessNone (IsOption expansion)) (option_at word expansion)
  unfolding option_at
  option_found ts p h = let t = bind_ok (expect word Identifier ts) _ p h in named_found (map word ts) t.0.1 p (word t.0.0).text (expect_is word Identifier ts t.0 t.1) t.2

  -- ---- what is spelled

  long_again : Again word (IsLong expansion) (long_at word expansion)
  unfolding long_at
  long_again None ts ws (same, l) = record { rest = ts; is = rw (lacks_accept word Equals ts l) refl; others = same }
  long_again (Some s) ts ws (a, m, i) =
      let q = marked word Equals ts a m in
      let r = string_again word expansion s q.rest ws (rw q.others i) in
      record { rest = r.rest; is = rw (q.accepts, r.is) refl; others = r.others }

  -- what is read after a name is read with it
  behind_name : (name : List ℕ) (x : Option OptionShape) (ts : List T) (a ws : List Word) → Begins Identifier name (map word ts) a
      → ((us : List T) → map word us ≡ a → Reads word (named_at word expansion name us) x ws) → Reads word (option_at word expansion ts) x ws
  unfolding option_at
  behind_name name x ts a ws first behind =
      let t = taken word Identifier name ts a first in
      let r = behind t.rest t.others in
      record { rest = r.rest; is = rw (t.expects, t.says) r.is; others = r.others }

  plain_again : (o : OptionShape) (name : List ℕ) (us : List T) (a : List Word) → map word us ≡ a → named_at word expansion name us ≡ Ok (Some o, us) → Reads word (named_at word expansion name us) (Some o) a
  plain_again o name us a same h = record { rest = us; is = h; others = same }

  assigned_behind : (s : List ℕ) (us : List T) (a b ws : List Word) → map word us ≡ a → Mark Equals a b → IsString expansion s b ws → Reads word (assigned_at word expansion us) s ws
  assigned_behind s us a b ws same m i = assigned_again word expansion s us ws (b, rw same m, i)

  option_again : (o : OptionShape) (ts : List T) (ws : List Word) → IsOption expansion o (map word ts) ws → Reads word (option_at word expansion ts) (Some o) ws
  unfolding named_at
  option_again flag ts ws f = behind_name (codes "flag") (Some flag) ts ws ws f (λ us same. plain_again flag (codes "flag") us ws same refl)
  option_again multiple ts ws f = behind_name (codes "multiple") (Some multiple) ts ws ws f (λ us same. plain_again multiple (codes "multiple") us ws same refl)
  option_again (long None) ts ws (f, l) =
      behind_name (codes "long") (Some (long None)) ts ws ws f (λ us same.
      let r = long_again None us (map word us) (refl, rw same l) in
      record { rest = r.rest; is = rw r.is refl; others = r.others ∙ same })
  option_again (long (Some s)) ts ws (a, b, f, m, i) =
      behind_name (codes "long") (Some (long (Some s))) ts a ws f (λ us same.
      let r = long_again (Some s) us ws (b, rw same m, i) in
      record { rest = r.rest; is = rw r.is refl; others = r.others })
  option_again (help s) ts ws (a, b, f, m, i) =
      behind_name (codes "help") (Some (help s)) ts a ws f (λ us same.
      let r = assigned_behind s us a b ws same m i in
      record { rest = r.rest; is = rw r.is refl; others = r.others })
  option_again (max s) ts ws (a, b, f, m, i) =
      behind_name (codes "max") (Some (max s)) ts a ws f (λ us same.
      let r = assigned_behind s us a b ws same m i in
      record { rest = r.rest; is = rw r.is refl; others = r.others })
  option_again (min s) ts ws (a, b, f, m, i) =
      behind_name (codes "min") (Some (min s)) ts a ws f (λ us same.
      let r = assigned_behind s us a b ws same m i in
      record { rest = r.rest; is = rw r.is refl; others = r.others })
  option_again (short s) ts ws (a, b, f, m, i) =
      behind_name (codes "short") (Some (short s)) ts a ws f (λ us same.
      let r = assigned_behind s us a b ws same m i in
      record { rest = r.rest; is = rw r.is refl; others = r.others })
  option_again (value e) ts ws (a, b, f, m, i) =
      behind_name (codes "value") (Some (value e)) ts a ws f (λ us same.
      let r = value_again word expansion expressions e us ws (b, rw same m, i) in
      record { rest = r.rest; is = rw r.is refl; others = r.others })

  pub given_again : Again word (IfGiven (IsOption expansion)) (option_at word expansion)
  given_again None ts ws i = absurd i
  given_again (Some o) ts ws i = option_again o ts ws i
