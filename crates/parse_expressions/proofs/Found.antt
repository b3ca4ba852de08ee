-- What is read is derived.
use Rattle.std.proofs.Common.{◌≡◌, ◌≢◌, ℕ, zero, suc, ◌≤◌, Bool, true, false, if◌then◌else◌, List, length, map, Result, Ok, Err, Option, Some, None, refl, sym, ap, subst, ◌∙◌, arith, inl, inr, ◌⊎◌, eqb-true}
use Rattle.std.specs.Prelude.{◌==◌}
use Rattle.std.specs.Str.{bytes_eq}
use Rattle.std.proofs.lemmas.Bool.{cases_lt}
use Rattle.just_text.specs.Tokens.{Word}
use Rattle.just_text.specs.declared.compile_error.CompileErrorKind.{CompileErrorKind}
use Rattle.just_text.specs.declared.token_kind.TokenKind.{TokenKind}
use Rattle.just_text.specs.declared.token_kind.TokenKind.TheVariants.{Backtick, Bang, BraceL, BraceR, BracketL, BracketR, Comma, FormatStringContinue, FormatStringEnd, FormatStringStart, Identifier, ParenL, ParenR, Slash, StringToken}
use Rattle.tree_expressions.specs.declared.string_kind.StringKind.{StringKind}
use Rattle.tree_expressions.specs.Cooking.{cooked}
use Rattle.tree_expressions.specs.Kinds.{kind_of}
use Rattle.tree_expressions.specs.Parts.{cooked_part}
use Rattle.tree_expressions.specs.Operators.{Binary}
use Rattle.tree_expressions.specs.Shape.{Shape, Shapes, Interpolations, literal, command, format, variable, call, assertion, assertion_alone, group, listing, choice, choice_alone, negation, rooted, binary, end, more, closed, interpolation}
use Rattle.parse_expressions.specs.Words.{Begins, Mark, if_keyword, else_keyword, assert_keyword}
use Rattle.parse_expressions.specs.Operators.{rank, left_rank, right_rank, rank_of}
use Rattle.parse_expressions.specs.Literals.{Expansion, PartCooks, is_script, is_open}
use Rattle.parse_expressions.specs.Grammar.{May, MayStand, IsChoice, has_interpolations, part_kind, Closes, Is, IsBraced, AreAll, AreInterpolations, depth, depth_all, depth_interpolations, Derives}
use Rattle.parse_expressions.specs.Reading.{Read, Prefix, bang, slash, prefixed, asserted, accept, expect, is_keyword, operator_at, prefix_at, prefix_if, taken_if, command_at, literal_at, part_at, elements_at, interpolation_at, interpolations_at, format_at, braces_at, otherwise_at, choice_at, closing_at, message_at, assertion_at, call_at, named_at, bracketed_at, primary_at, operand_at, expression_at}
use Rattle.parse_expressions.proofs.Taken.{bind_ok, inspect, test, ok_is, turned, some_is, text_same, text_other, same_front, clash, accept_is, accept_mark, accept_none, expect_is, expect_mark, keyword_is, keyword_lacks}
use Rattle.parse_expressions.proofs.Operators.{operator_is, operator_none, left_is, rank_bounds}

pub assert_is_no_if : assert_keyword ≢ if_keyword
assert_is_no_if = text_other assert_keyword if_keyword refl

same_keyword : (keyword text : List ℕ) (words a b : List Word) → Begins Identifier keyword words a → Begins Identifier text words b → Begins Identifier keyword words b
same_keyword keyword text words a b h i = rw (same_front Identifier Identifier keyword text words a b h i).1 i

open_kind : (hs : Interpolations) → has_interpolations hs ≡ true → part_kind hs ≡ FormatStringContinue
open_kind closed h = absurd cc
open_kind (interpolation e part hs) h = refl

module _ {T : Type 0} (word : T → Word) (expansion : Expansion) where
  -- what is read is derived
  abbrev pub Sound : ℕ → ℕ → List T → Shape × List T → Type 0
  Sound d k ts y = Derives expansion d k (map word ts) y.0 (map word y.1)

  tight : (d : ℕ) (e : Shape) (words rest : List Word) → Is expansion e words rest → rank_of e ≡ 0 → depth e ≤ d → Derives expansion d 0 words e rest
  tight d e words rest i z f = record { is = i; may = record { binds = omega arith; stops = λ operator lo hi. absurd (omega arith) }; fits = f }

  not_loose : (operator : Binary) → rank operator ≤ 0 → ⊥
  not_loose operator h = omega (arith, rank_bounds operator)

  if_is_choice : (e : Shape) (words rest a : List Word) → Begins Identifier if_keyword words a → Is expansion e words rest → rank_of e ≤ 0 → IsChoice e
  if_is_choice (literal s) words rest a b i r = absurd (clash StringToken Identifier words rest a (s, i.0) (if_keyword, b) refl)
  if_is_choice (command s) words rest a b i r = absurd (clash Backtick Identifier words rest a (s, i.0) (if_keyword, b) refl)
  if_is_choice (format s hs) words rest a b i r = absurd (clash FormatStringStart Identifier words i.0 a (s, i.1) (if_keyword, b) refl)
  if_is_choice (variable x) words rest a b i r = absurd (i.1 (same_front Identifier Identifier x if_keyword words rest a i.0 b).1)
  if_is_choice (call f es) words rest a b i r = absurd (i.3 (same_front Identifier Identifier f if_keyword words i.0 a i.2 b).1)
  if_is_choice (assertion c m) words rest a b i r = absurd (assert_is_no_if (same_front Identifier Identifier assert_keyword if_keyword words i.0 a i.5 b).1)
  if_is_choice (assertion_alone c) words rest a b i r = absurd (assert_is_no_if (same_front Identifier Identifier assert_keyword if_keyword words i.0 a i.3 b).1)
  if_is_choice (group e) words rest a b i r = absurd (clash ParenL Identifier words i.0 a i.2 (if_keyword, b) refl)
  if_is_choice (listing es) words rest a b i r = absurd (clash BracketL Identifier words i.0 a i.1 (if_keyword, b) refl)
  if_is_choice (choice c t o) words rest a b i r = tt
  if_is_choice (choice_alone c t) words rest a b i r = tt
  if_is_choice (negation e) words rest a b i r = absurd (omega arith)
  if_is_choice (rooted e) words rest a b i r = absurd (omega arith)
  if_is_choice (binary operator l r') words rest a b i r = absurd (not_loose operator r)

  taken_text : (t : T) (r : Result (List ℕ) CompileErrorKind) (s : List ℕ) → taken_if word t r ≡ Ok s → (s ≡ (word t).text) × ((text : List ℕ) × (r ≡ Ok text))
  taken_text t (Ok text) s h = (sym (ok_is (word t).text s h), (text, refl))
  taken_text t (Err kind) s h = absurd cc

  module _ (deeper : ℕ → List T → Read T Shape) (d : ℕ) (sound : (k : ℕ) (ts : List T) (y : Shape × List T) → deeper k ts ≡ Ok y → Sound d k ts y) where
    -- what is read begins at those words
    abbrev Spelled : List Word → Shape × List T → Type 0
    Spelled words y = Derives expansion (suc d) 0 words y.0 (map word y.1)

    -- ---- strings and commands

    literal_found : (words : List Word) (t : T) (ts : List T) (y : Shape × List T) → Begins StringToken (word t).text words (map word ts) → literal_at word expansion t ts ≡ Ok y → Spelled words y
    unfolding literal_at
    literal_found words t ts y first h =
        let s = bind_ok _ _ y h in
        let c = taken_text t (cooked expansion (word t).text) s.0 s.1 in
        let is : Is expansion (literal s.0) words (map word ts) = rw c.0 (first, c.1) in
        turned (Spelled words) (literal s.0, ts) y s.2 (tight (suc d) (literal s.0) words (map word ts) is refl (omega arith))

    command_found : (words : List Word) (t : T) (ts : List T) (y : Shape × List T) → Begins Backtick (word t).text words (map word ts) → command_at word t ts ≡ Ok y → Spelled words y
    unfolding command_at
    command_found words t ts y first h =
        elim (test (is_script (word t).text)) [
          | inl w ↦ let q = rw w at h in absurd cc
          | inr w ↦ turned (Spelled words) (command (word t).text, ts) y (rw w at h) (tight (suc d) (command (word t).text) words (map word ts) (first, w) refl (omega arith))
        ]

    abbrev PartSound : StringKind → List Word → (List ℕ × Bool) × List T → Type 0
    PartSound kind words y = Begins (if y.0.1 then FormatStringContinue else FormatStringEnd) y.0.0 words (map word y.1) × PartCooks kind y.0.0

    part_text : (kind : StringKind) (t : T) (s : List ℕ) → taken_if word t (cooked_part kind (word t).text) ≡ Ok s → (s ≡ (word t).text) × PartCooks kind s
    part_text kind t s h = let c = taken_text t (cooked_part kind (word t).text) s h in (c.0, rw c.0 c.1)

    part_found : (kind : StringKind) (ts : List T) (y : (List ℕ × Bool) × List T) → part_at word kind ts ≡ Ok y → PartSound kind (map word ts) y
    unfolding part_at
    part_found kind ts y h =
        elim (inspect (accept word FormatStringContinue ts)) [
          | inl w ↦
              let p = bind_ok (expect word FormatStringEnd ts) _ y (rw w at h) in
              let s = bind_ok _ _ y p.2 in
              let c = part_text kind p.0.0 s.0 s.1 in
              let b : Begins FormatStringEnd s.0 (map word ts) (map word p.0.1) = rw c.0 (expect_is word FormatStringEnd ts p.0 p.1) in
              turned (PartSound kind (map word ts)) ((s.0, false), p.0.1) y s.2 (b, c.1)
          | inr w ↦
              let s = bind_ok _ _ y (rw w.1 at h) in
              let c = part_text kind w.0.0 s.0 s.1 in
              let b : Begins FormatStringContinue s.0 (map word ts) (map word w.0.1) = rw c.0 (accept_is word FormatStringContinue ts w.0 w.1) in
              turned (PartSound kind (map word ts)) ((s.0, true), w.0.1) y s.2 (b, c.1)
        ]

    abbrev InterpolationSound : StringKind → List T → ((Shape × List ℕ) × Bool) × List T → Type 0
    InterpolationSound kind ts y = (a : List Word) × Is expansion y.0.0.0 (map word ts) a × MayStand y.0.0.0 a × PartSound kind a ((y.0.0.1, y.0.1), y.1) × (depth y.0.0.0 ≤ d)

    interpolation_found : (kind : StringKind) (ts : List T) (y : ((Shape × List ℕ) × Bool) × List T) → interpolation_at word expansion deeper kind ts ≡ Ok y → InterpolationSound kind ts y
    unfolding interpolation_at
    interpolation_found kind ts y h =
        let e = bind_ok _ _ y h in
        let p = bind_ok _ _ y e.2 in
        let s = sound 6 ts e.0 e.1 in
        turned (InterpolationSound kind ts) (((e.0.0, p.0.0.0), p.0.0.1), p.0.1) y p.2 (map word e.0.1, s.is, s.may, part_found kind e.0.1 p.0 p.1, s.fits)

    abbrev InterpolationsSound : StringKind → List T → Interpolations × List T → Type 0
    InterpolationsSound kind ts y = AreInterpolations expansion kind y.0 (map word ts) (map word y.1) × (has_interpolations y.0 ≡ true) × (depth_interpolations y.0 ≤ d)

    interpolations_found : (n : ℕ) (kind : StringKind) (ts : List T) (y : Interpolations × List T) → interpolations_at word expansion deeper n kind ts ≡ Ok y → InterpolationsSound kind ts y
    unfolding interpolations_at
    interpolations_found zero kind ts y h = absurd cc
    interpolations_found (suc n) kind ts y h =
        let g = bind_ok _ _ y h in
        let s = interpolation_found kind ts g.0 g.1 in
        elim (test g.0.0.1) [
          | inl w ↦
              let hs = bind_ok _ _ y (rw w at g.2) in
              let t = interpolations_found n kind g.0.1 hs.0 hs.1 in
              let b : Begins (part_kind hs.0.0) g.0.0.0.1 s.0 (map word g.0.1) = rw (open_kind hs.0.0 t.1) (rw w at s.3.0) in
              turned (InterpolationsSound kind ts) (interpolation g.0.0.0.0 g.0.0.0.1 hs.0.0, hs.0.1) y hs.2 ((s.0, map word g.0.1, s.1, s.2, b, s.3.1, t.0), refl, omega (arith, s.4, t.2))
          | inr w ↦
              let b : Begins FormatStringEnd g.0.0.0.1 s.0 (map word g.0.1) = rw w at s.3.0 in
              turned (InterpolationsSound kind ts) (interpolation g.0.0.0.0 g.0.0.0.1 closed, g.0.1) y (rw w at g.2) ((s.0, map word g.0.1, s.1, s.2, b, s.3.1, refl), refl, omega (arith, s.4))
        ]

    format_found : (words : List Word) (t : T) (ts : List T) (y : Shape × List T) → Begins FormatStringStart (word t).text words (map word ts) → format_at word expansion deeper t ts ≡ Ok y → Spelled words y
    unfolding format_at
    format_found words t ts y first h =
        let s = bind_ok _ _ y h in
        let c = part_text (kind_of (word t).text) t s.0 s.1 in
        let b : Begins FormatStringStart s.0 words (map word ts) = rw c.0 first in
        let cooks : PartCooks (kind_of s.0) s.0 = subst (λ (x : List ℕ). PartCooks (kind_of x) s.0) (sym c.0) c.1 in
        elim (test (is_open s.0)) [
          | inl w ↦
              let hs = bind_ok _ _ y (rw w at s.2) in
              let f = interpolations_found (suc (length ts)) (kind_of s.0) ts hs.0 hs.1 in
              turned (Spelled words) (format s.0 hs.0.0, hs.0.1) y hs.2
              (tight (suc d) (format s.0 hs.0.0) words (map word hs.0.1) (map word ts, b, cooks, w ∙ sym f.1, f.0) refl (omega (arith, f.2)))
          | inr w ↦
              turned (Spelled words) (format s.0 closed, ts) y (rw w at s.2)
              (tight (suc d) (format s.0 closed) words (map word ts) (map word ts, b, cooks, w, refl) refl (omega arith))
        ]

    -- ---- conditionals

    abbrev BracesSound : List T → Shape × List T → Type 0
    BracesSound ts y = IsBraced (Is expansion y.0) y.0 (map word ts) (map word y.1) × (depth y.0 ≤ d)

    braces_found : (ts : List T) (y : Shape × List T) → braces_at word expansion deeper ts ≡ Ok y → BracesSound ts y
    unfolding braces_at
    braces_found ts y h =
        let b = bind_ok _ _ y h in
        let e = bind_ok _ _ y b.2 in
        let q = bind_ok _ _ y e.2 in
        let s = sound 6 b.0.1 e.0 e.1 in
        turned (BracesSound ts) (e.0.0, q.0.1) y q.2 ((map word b.0.1, map word e.0.1, expect_mark word BraceL ts b.0 b.1, s.is, s.may, expect_mark word BraceR e.0.1 q.0 q.1), s.fits)

    abbrev OtherSound : List T → Shape × List T → Type 0
    OtherSound ts y = (IsBraced (Is expansion y.0) y.0 (map word ts) (map word y.1) ⊎ (IsChoice y.0 × Is expansion y.0 (map word ts) (map word y.1))) × (depth y.0 ≤ d)

    otherwise_found : (ts : List T) (y : Shape × List T) → otherwise_at word expansion deeper ts ≡ Ok y → OtherSound ts y
    unfolding otherwise_at
    otherwise_found ts y h =
        elim (test (is_keyword word if_keyword ts)) [
          | inl w ↦
              let s = sound 0 ts y (rw w at h) in
              let b = keyword_is word if_keyword ts w in
              (inr (if_is_choice y.0 (map word ts) (map word y.1) b.0 b.1 s.is s.may.binds, s.is), s.fits)
          | inr w ↦ let b = braces_found ts y (rw w at h) in (inl b.0, b.1)
        ]

    choice_found : (words : List Word) (ts : List T) (y : Shape × List T) → Begins Identifier if_keyword words (map word ts) → choice_at word expansion deeper ts ≡ Ok y → Spelled words y
    unfolding choice_at
    choice_found words ts y first h =
        let c = bind_ok _ _ y h in
        let t = bind_ok _ _ y c.2 in
        let cs = sound 6 ts c.0 c.1 in
        let bs = braces_found c.0.1 t.0 t.1 in
        elim (test (is_keyword word else_keyword t.0.1)) [
          | inl w ↦
              let p = bind_ok _ _ y (rw w at t.2) in
              let o = bind_ok _ _ y p.2 in
              let os = otherwise_found p.0.1 o.0 o.1 in
              let k = keyword_is word else_keyword t.0.1 w in
              let q = expect_is word Identifier t.0.1 p.0 p.1 in
              let b = same_keyword else_keyword (word p.0.0).text (map word t.0.1) k.0 (map word p.0.1) k.1 q in
              turned (Spelled words) (choice c.0.0 t.0.0 o.0.0, o.0.1) y o.2
              (tight (suc d) (choice c.0.0 t.0.0 o.0.0) words (map word o.0.1) (map word ts, map word c.0.1, map word t.0.1, first, cs.is, cs.may, bs.0, (map word p.0.1, b, os.0)) refl (omega (arith, cs.fits, bs.1, os.1)))
          | inr w ↦
              turned (Spelled words) (choice_alone c.0.0 t.0.0, t.0.1) y (rw w at t.2)
              (tight (suc d) (choice_alone c.0.0 t.0.0) words (map word t.0.1) (map word ts, map word c.0.1, first, cs.is, cs.may, bs.0, keyword_lacks word else_keyword t.0.1 w) refl (omega (arith, cs.fits, bs.1)))
        ]

    -- ---- calls

    abbrev AreSound : TokenKind → List T → Shapes × List T → Type 0
    AreSound close ts y = AreAll expansion y.0 close (map word ts) (map word y.1) × (depth_all y.0 ≤ d)

    elements_found : (n : ℕ) (close : TokenKind) (ts : List T) (y : Shapes × List T) → elements_at word expansion deeper n close ts ≡ Ok y → AreSound close ts y
    unfolding elements_at
    elements_found zero close ts y h = absurd cc
    elements_found (suc n) close ts y h =
        elim (inspect (accept word close ts)) [
          | inr w ↦ turned (AreSound close ts) (end, w.0.1) y (rw w.1 at h) (accept_mark word close ts w.0 w.1, omega arith)
          | inl w ↦
              let e = bind_ok _ _ y (rw w at h) in
              let s = sound 6 ts e.0 e.1 in
              elim (inspect (accept word Comma e.0.1)) [
                | inl v ↦
                    let p = bind_ok _ _ y (rw v at e.2) in
                    turned (AreSound close ts) (more e.0.0 end, p.0.1) y p.2 ((map word e.0.1, s.is, s.may, inr (refl, expect_mark word close e.0.1 p.0 p.1)), omega (arith, s.fits))
                | inr v ↦
                    let es = bind_ok _ _ y (rw v.1 at e.2) in
                    let t = elements_found n close v.0.1 es.0 es.1 in
                    turned (AreSound close ts) (more e.0.0 es.0.0, es.0.1) y es.2 ((map word e.0.1, s.is, s.may, inl (map word v.0.1, accept_mark word Comma e.0.1 v.0 v.1, t.0)), omega (arith, s.fits, t.1))
              ]
        ]

    closing_found : (ts rest : List T) → closing_at word ts ≡ Ok rest → Closes ParenR (map word ts) (map word rest)
    unfolding closing_at
    closing_found ts rest h =
        elim (inspect (accept word Comma ts)) [
          | inl w ↦
              let p = bind_ok (expect word ParenR ts) (λ (c : T × List T). Ok c.1) rest (rw w at h) in
              turned (λ (r : List T). Closes ParenR (map word ts) (map word r)) p.0.1 rest p.2 (inl (expect_mark word ParenR ts p.0 p.1))
          | inr w ↦
              let p = bind_ok (expect word ParenR w.0.1) (λ (c : T × List T). Ok c.1) rest (rw w.1 at h) in
              turned (λ (r : List T). Closes ParenR (map word ts) (map word r)) p.0.1 rest p.2 (inr (map word w.0.1, accept_mark word Comma ts w.0 w.1, expect_mark word ParenR w.0.1 p.0 p.1))
        ]

    -- a message and the end of the call, or the end alone
    abbrev Says : List Word → Option Shape → List Word → Type 0
    Says words None rest = Mark ParenR words rest
    Says words (Some m) rest = (a : List Word) × Is expansion m words a × MayStand m a × Closes ParenR a rest × (depth m ≤ d)

    abbrev MessageSound : List T → Option Shape × List T → Type 0
    MessageSound ts y = Says (map word ts) y.0 (map word y.1)

    message_found : (ts : List T) (y : Option Shape × List T) → message_at word expansion deeper ts ≡ Ok y → MessageSound ts y
    unfolding message_at
    message_found ts y h =
        elim (inspect (accept word ParenR ts)) [
          | inr w ↦ turned (MessageSound ts) (None, w.0.1) y (rw w.1 at h) (accept_mark word ParenR ts w.0 w.1)
          | inl w ↦
              let m = bind_ok _ _ y (rw w at h) in
              let r = bind_ok _ _ y m.2 in
              let s = sound 6 ts m.0 m.1 in
              turned (MessageSound ts) (Some m.0.0, r.0) y r.2 (map word m.0.1, s.is, s.may, closing_found m.0.1 r.0 r.1, s.fits)
        ]

    asserted_found : (c : Shape) (o : Option Shape) (words a b comma behind rest : List Word) → Begins Identifier assert_keyword words a → Mark ParenL a b → Is expansion c b comma → MayStand c comma → depth c ≤ d
        → Mark Comma comma behind → Says behind o rest → Derives expansion (suc d) 0 words (asserted c o) rest
    asserted_found c None words a b comma behind rest first opens is may fits m says =
        tight (suc d) (assertion_alone c) words rest (a, b, comma, first, opens, is, may, inr (behind, m, says)) refl (omega arith)
    asserted_found c (Some e) words a b comma behind rest first opens is may fits m says =
        tight (suc d) (assertion c e) words rest (a, b, comma, behind, says.0, first, opens, is, may, m, says.1, says.2, says.3) refl (omega (arith, says.4))

    assertion_found : (words a : List Word) (ts : List T) (y : Shape × List T) → Begins Identifier assert_keyword words a → Mark ParenL a (map word ts) → assertion_at word expansion deeper ts ≡ Ok y → Spelled words y
    unfolding assertion_at
    assertion_found words a ts y first opens h =
        let c = bind_ok _ _ y h in
        let s = sound 6 ts c.0 c.1 in
        elim (inspect (accept word Comma c.0.1)) [
          | inl w ↦
              let p = bind_ok _ _ y (rw w at c.2) in
              turned (Spelled words) (assertion_alone c.0.0, p.0.1) y p.2
              (tight (suc d) (assertion_alone c.0.0) words (map word p.0.1) (a, map word ts, map word c.0.1, first, opens, s.is, s.may, inl (expect_mark word ParenR c.0.1 p.0 p.1)) refl (omega (arith, s.fits)))
          | inr w ↦
              let m = bind_ok _ _ y (rw w.1 at c.2) in
              turned (Spelled words) (asserted c.0.0 m.0.0, m.0.1) y m.2
              (asserted_found c.0.0 m.0.0 words a (map word ts) (map word c.0.1) (map word w.0.1) (map word m.0.1) first opens s.is s.may s.fits (accept_mark word Comma c.0.1 w.0 w.1) (message_found w.0.1 m.0 m.1))
        ]

    call_found : (words a : List Word) (x : List ℕ) (ts : List T) (y : Shape × List T) → Begins Identifier x words a → (x ≢ if_keyword) → Mark ParenL a (map word ts) → call_at word expansion deeper x ts ≡ Ok y → Spelled words y
    unfolding call_at
    call_found words a x ts y first other opens h =
        elim (test (bytes_eq x assert_keyword)) [
          | inl w ↦ assertion_found words a ts y (rw (text_same x assert_keyword w) at first) opens (rw w at h)
          | inr w ↦
              let es = bind_ok _ _ y (rw w at h) in
              let s = elements_found (suc (length ts)) ParenR ts es.0 es.1 in
              turned (Spelled words) (call x es.0.0, es.0.1) y es.2
              (tight (suc d) (call x es.0.0) words (map word es.0.1) (a, map word ts, first, other, text_other x assert_keyword w, opens, s.0) refl (omega (arith, s.1)))
        ]

    -- ---- operands

    named_found : (words : List Word) (x : List ℕ) (ts : List T) (y : Shape × List T) → Begins Identifier x words (map word ts) → named_at word expansion deeper x ts ≡ Ok y → Spelled words y
    unfolding named_at
    named_found words x ts y first h =
        elim (test (bytes_eq x if_keyword)) [
          | inl w ↦ choice_found words ts y (rw (text_same x if_keyword w) at first) (rw w at h)
          | inr w ↦
              let other = text_other x if_keyword w in
              elim (inspect (accept word ParenL ts)) [
                | inl v ↦
                    turned (Spelled words) (variable x, ts) y (rw (w, v) at h)
                    (tight (suc d) (variable x) words (map word ts) (first, other, accept_none word ParenL ts v) refl (omega arith))
                | inr v ↦ call_found words (map word ts) x v.0.1 y first other (accept_mark word ParenL ts v.0 v.1) (rw (w, v.1) at h)
              ]
        ]

    bracketed_found : (ts : List T) (y : Shape × List T) → bracketed_at word expansion deeper ts ≡ Ok y → Spelled (map word ts) y
    unfolding bracketed_at
    bracketed_found ts y h =
        elim (inspect (accept word ParenL ts)) [
          | inr w ↦
              let e = bind_ok _ _ y (rw w.1 at h) in
              let q = bind_ok _ _ y e.2 in
              let s = sound 6 w.0.1 e.0 e.1 in
              turned (Spelled (map word ts)) (group e.0.0, q.0.1) y q.2
              (tight (suc d) (group e.0.0) (map word ts) (map word q.0.1) (map word w.0.1, map word e.0.1, accept_mark word ParenL ts w.0 w.1, s.is, s.may, expect_mark word ParenR e.0.1 q.0 q.1) refl (omega (arith, s.fits)))
          | inl w ↦
              let p = bind_ok _ _ y (rw w at h) in
              let es = bind_ok _ _ y p.2 in
              let s = elements_found (suc (length p.0.1)) BracketR p.0.1 es.0 es.1 in
              turned (Spelled (map word ts)) (listing es.0.0, es.0.1) y es.2
              (tight (suc d) (listing es.0.0) (map word ts) (map word es.0.1) (map word p.0.1, expect_mark word BracketL ts p.0 p.1, s.0) refl (omega (arith, s.1)))
        ]

    primary_found : (ts : List T) (y : Shape × List T) → primary_at word expansion deeper ts ≡ Ok y → Spelled (map word ts) y
    unfolding primary_at
    primary_found ts y h =
        elim (inspect (accept word StringToken ts)) [
          | inr u ↦ literal_found (map word ts) u.0.0 u.0.1 y (accept_is word StringToken ts u.0 u.1) (rw u.1 at h)
          | inl u ↦ elim (inspect (accept word Backtick ts)) [
            | inr v ↦ command_found (map word ts) v.0.0 v.0.1 y (accept_is word Backtick ts v.0 v.1) (rw (u, v.1) at h)
            | inl v ↦ elim (inspect (accept word FormatStringStart ts)) [
              | inr w ↦ format_found (map word ts) w.0.0 w.0.1 y (accept_is word FormatStringStart ts w.0 w.1) (rw (u, v, w.1) at h)
              | inl w ↦ elim (inspect (accept word Identifier ts)) [
                | inr z ↦ named_found (map word ts) (word z.0.0).text z.0.1 y (accept_is word Identifier ts z.0 z.1) (rw (u, v, w, z.1) at h)
                | inl z ↦ bracketed_found ts y (rw (u, v, w, z) at h)
              ]
            ]
          ]
        ]

    prefix_if_is : (p : Prefix) (o : Option (T × List T)) (y : (T × Prefix) × List T) → prefix_if word p o ≡ Some y → (o ≡ Some (y.0.0, y.1)) × (y.0.1 ≡ p)
    prefix_if_is p None y h = absurd cc
    prefix_if_is p (Some (t, ts)) y h =
        let q : ((t, p), ts) ≡ y = some_is ((t, p), ts) y h in
        (ap (λ (z : (T × Prefix) × List T). Some (z.0.0, z.1)) q, sym (ap (λ (z : (T × Prefix) × List T). z.0.1) q))

    -- an operator without a left side, and its rank
    abbrev Prefixed : ℕ → List T → (T × Prefix) × List T → Type 0
    Prefixed k ts y = ((k ≡ 1) × (y.0.1 ≡ bang) × Mark Bang (map word ts) (map word y.1)) ⊎ ((k ≡ 2) × (y.0.1 ≡ slash) × Mark Slash (map word ts) (map word y.1))

    prefix_found : (k : ℕ) (ts : List T) (y : (T × Prefix) × List T) → prefix_at word k ts ≡ Some y → Prefixed k ts y
    unfolding prefix_at
    prefix_found k ts y h =
        elim (test (k == 1)) [
          | inl w ↦ let p = prefix_if_is bang (accept word Bang ts) y (rw w at h) in inl (eqb-true k 1 w, p.1, accept_mark word Bang ts (y.0.0, y.1) p.0)
          | inr w ↦ elim (test (k == 2)) [
            | inl v ↦ let p = prefix_if_is slash (accept word Slash ts) y (rw (w, v) at h) in inr (eqb-true k 2 v, p.1, accept_mark word Slash ts (y.0.0, y.1) p.0)
            | inr v ↦ let q = rw (w, v) at h in absurd cc
          ]
        ]

    prefixed_found : (k : ℕ) (ts : List T) (p : (T × Prefix) × List T) (y : Shape × List T) → Prefixed k ts p → Sound d k p.1 y → Sound (suc d) k ts (prefixed p.0.1 y.0, y.1)
    prefixed_found k ts p y (inl w) s =
        let at_rank : May 1 y.0 (map word y.1) = rw w.0 at s.may in
        rw w.1 (record { is = (map word p.1, w.2, s.is, at_rank); may = record { binds = omega (arith, w.0); stops = λ operator lo hi. absurd (omega (arith, w.0)) }; fits = omega (arith, s.fits) })
    prefixed_found k ts p y (inr w) s =
        let at_rank : May 2 y.0 (map word y.1) = rw w.0 at s.may in
        rw w.1 (record { is = (map word p.1, w.2, s.is, at_rank); may = record { binds = omega (arith, w.0); stops = λ operator lo hi. absurd (omega (arith, w.0)) }; fits = omega (arith, s.fits) })

    raise : (j : ℕ) (ts : List T) (y : Shape × List T) → operator_at word (suc j) y.1 ≡ None → Sound (suc d) j ts y → Sound (suc d) (suc j) ts y
    raise j ts y lacks s = record {
      is = s.is;
      may = record {
        binds = omega (arith, s.may.binds);
        stops = λ operator lo hi. elim (cases_lt (rank operator) (suc j)) [ inl w ↦ s.may.stops operator lo (omega arith) | inr w ↦ operator_none word (suc j) y.1 lacks operator (omega arith) ];
      };
      fits = s.fits;
    }

    binary_found : (j : ℕ) (ts : List T) (l : Shape × List T) (o : (T × Binary) × List T) (r : Shape × List T) → Sound (suc d) j ts l → operator_at word (suc j) l.1 ≡ Some o → Sound d (right_rank o.0.1) o.1 r
        → Sound (suc d) (suc j) ts (binary o.0.1 l.0 r.0, r.1)
    binary_found j ts l o r s taken t =
        let m = operator_is word (suc j) l.1 o taken in
        let at_left : left_rank o.0.1 ≡ j = omega (arith, left_is o.0.1, m.1) in
        record {
          is = (map word l.1, map word o.1, s.is, subst (λ (k : ℕ). May k l.0 (map word l.1)) (sym at_left) s.may, m.0, t.is, t.may);
          may = record { binds = omega (arith, m.1); stops = λ operator lo hi. absurd (omega (arith, m.1)) };
          fits = omega (arith, s.fits, t.fits);
        }

    operand_found : (j : ℕ) (ts : List T) (y : Shape × List T) → operand_at word expansion deeper j ts ≡ Ok y → Sound (suc d) j ts y
    unfolding operand_at
    operand_found zero ts y h = primary_found ts y h
    operand_found (suc j) ts y h =
        elim (inspect (prefix_at word (suc j) ts)) [
          | inr w ↦
              let e = bind_ok _ _ y (rw w.1 at h) in
              turned (Sound (suc d) (suc j) ts) (prefixed w.0.0.1 e.0.0, e.0.1) y e.2
              (prefixed_found (suc j) ts w.0 e.0 (prefix_found (suc j) ts w.0 w.1) (sound (suc j) w.0.1 e.0 e.1))
          | inl w ↦
              let l = bind_ok _ _ y (rw w at h) in
              let s = operand_found j ts l.0 l.1 in
              elim (inspect (operator_at word (suc j) l.0.1)) [
                | inl v ↦ turned (Sound (suc d) (suc j) ts) l.0 y (rw v at l.2) (raise j ts l.0 v s)
                | inr v ↦
                    let r = bind_ok _ _ y (rw v.1 at l.2) in
                    turned (Sound (suc d) (suc j) ts) (binary v.0.0.1 l.0.0 r.0.0, r.0.1) y r.2
                    (binary_found j ts l.0 v.0 r.0 s v.1 (sound (right_rank v.0.0.1) v.0.1 r.0 r.1))
              ]
        ]

  pub found : (levels k : ℕ) (ts : List T) (y : Shape × List T) → expression_at word expansion levels k ts ≡ Ok y → Sound levels k ts y
  unfolding expression_at
  found zero k ts y h = absurd cc
  found (suc d) k ts y h = operand_found (expression_at word expansion d) d (found d) k ts y h
