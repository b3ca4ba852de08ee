-- The arguments of an attribute are read where they are spelled, and only there, where each option is known.
use Rattle.std.proofs.Common.{◌≡◌, ℕ, List, [], ◌∷◌, map, length, suc, Ok, Option, Some, None, refl, inl, inr, ◌⊎◌}
use Rattle.std.specs.Option.{option_map, option_and_then}
use Rattle.just_text.specs.Tokens.{Word}
use Rattle.just_text.specs.declared.token_kind.TokenKind.TheVariants.{Colon, ParenL, ParenR}
use Rattle.tree_attributes.specs.declared.attribute.AttributeKind.{AttributeKind}
use Rattle.tree_attributes.specs.Attributes.{AttributeShape, OptionsShape, with_options}
use Rattle.parse_expressions.specs.Words.{Mark}
use Rattle.parse_expressions.specs.Literals.{Expansion}
use Rattle.parse_expressions.specs.Laws.{Exactly}
use Rattle.parse_expressions.specs.Reading.{Read, accept}
use Rattle.parse_expressions.specs.Strings.{IsExpression, IsString}
use Rattle.parse_expressions.proofs.Taken.{bind_ok, inspect, turned, accept_mark, accept_none, marked, lacks_accept, other_accept}
use Rattle.parse_attributes.specs.Rows.{Follow, IfGiven}
use Rattle.parse_attributes.specs.Options.{OptionShape, with_option, with_all, without_options, if_whole, options_of}
use Rattle.parse_attributes.specs.Arguments.{Sort, of_strings, of_expressions, of_parameter, Arguments, nothing, strings, expressions, parameter, lone, made}
use Rattle.parse_attributes.specs.Lines.{IsOption, AreInside, IsBehindColon, AreArguments}
use Rattle.parse_attributes.specs.Reading.{whole_at, text_at, option_at, others_at, inside_at, arguments_at}
use Rattle.parse_expressions.specs.Rows.{more_at, IsComma}
use Rattle.parse_attributes.proofs.Rest.{Takes, comma_takes, given_takes, string_takes, expression_takes, option_takes}
use Rattle.parse_attributes.proofs.RowsExact.{UnlessNone, AreGiven, given_follow, Found, Again, turns_enough, follow_found, follow_again}
use Rattle.parse_expressions.proofs.TokensTaken.{Reads}
use Rattle.parse_expressions.proofs.Rows.{more_found, more_again}
use Rattle.parse_attributes.proofs.StringsExact.{string_found, string_again, whole_found, whole_again}
use Rattle.parse_attributes.proofs.OptionsExact.{option_found, given_again}
use Rattle.parse_expressions.specs.Grammar.{Closes}

-- ---- known options

-- each option is known
abbrev pub AreKnown : Arguments → Type 0
AreKnown (parameter name options) = AreGiven options
AreKnown other = Unit {0}

and_then_some : {A B : Type 0} (f : A → Option B) (o : Option A) (y : B) → option_and_then f o ≡ Some y → (x : A) × (o ≡ Some x) × (f x ≡ Some y)
and_then_some f None y h = absurd cc
and_then_some f (Some x) y h = (x, refl, h)

map_some : {A B : Type 0} (f : A → B) (o : Option A) (y : B) → option_map f o ≡ Some y → (x : A) × (o ≡ Some x)
map_some f None y h = absurd cc
map_some f (Some x) y h = (x, refl)

-- options that may stand together are known
all_given : (expansion : Expansion) (ps : List (Option OptionShape)) (o q : OptionsShape) → with_all expansion o ps ≡ Some q → AreGiven ps
all_given expansion [] o q h = tt
all_given expansion (None ∷ ps) o q h = absurd cc
all_given expansion (Some p ∷ ps) o q h = let w = and_then_some (λ (r : OptionsShape). with_all expansion r ps) (with_option expansion o p) q h in all_given expansion ps w.0 q w.2

pub made_known : (expansion : Expansion) (kind : AttributeKind) (arguments : Arguments) (x : AttributeShape) → made expansion kind arguments ≡ Some x → AreKnown arguments
made_known expansion kind nothing x h = tt
made_known expansion kind (strings s ss) x h = tt
made_known expansion kind (expressions e es) x h = tt
made_known expansion kind (parameter name options) x h =
    let m = map_some with_options (options_of expansion name options) x h in
    let w = and_then_some (if_whole expansion) (with_all expansion (without_options name) options) m.0 m.1 in
    all_given expansion options (without_options name) w.0 w.1

-- ---- arguments after a parenthesis, and a string after a colon

in_parens : (expansion : Expansion) (sort : Sort) (arguments : Arguments) (ws a rest : List Word) → Mark ParenL ws a → AreInside expansion sort arguments a rest → AreArguments expansion sort arguments ws rest
in_parens expansion of_strings nothing ws a rest m i = absurd i
in_parens expansion of_expressions nothing ws a rest m i = absurd i
in_parens expansion of_parameter nothing ws a rest m i = absurd i
in_parens expansion sort (strings s ss) ws a rest m i = inr (a, m, i)
in_parens expansion sort (expressions e es) ws a rest m i = inr (a, m, i)
in_parens expansion sort (parameter name options) ws a rest m i = inr (a, m, i)

behind_colon : (expansion : Expansion) (sort : Sort) (s : List ℕ) (ws a rest : List Word) → Mark Colon ws a → IsString expansion s a rest → AreArguments expansion sort (lone sort s) ws rest
behind_colon expansion of_strings s ws a rest m i = inl (s, a, m, i, refl)
behind_colon expansion of_expressions s ws a rest m i = inl (s, a, m, i, refl)
behind_colon expansion of_parameter s ws a rest m i = inl (s, a, m, i, refl)

module _ {T : Type 0} (word : T → Word) (expansion : Expansion) (exactly : Exactly word expansion 256 6) where
  -- ---- items after the first

  module _ {A : Type 0} (Is : A → List Word → List Word → Type 0) (item : List T → Read T A) where
    others_found : Found word Is item → Found word (Follow Is (IsComma ParenR) (Closes ParenR)) (others_at word expansion item)
    others_found items ts p h = follow_found word Is (IsComma ParenR) (Closes ParenR) item (more_at word ParenR) items (more_found word ParenR) (suc (length ts)) ts p h

    others_again : Again word Is item → ((x : A) → Takes (Is x)) → Again word (Follow Is (IsComma ParenR) (Closes ParenR)) (others_at word expansion item)
    others_again items each xs ts ws f =
        follow_again word Is (IsComma ParenR) (Closes ParenR) item (more_at word ParenR) items (more_again word ParenR refl) each (comma_takes ParenR) xs (suc (length ts)) ts ws (turns_enough word ts) f

  -- ---- what is read

  -- arguments, where each option is known
  abbrev IsFound : Sort → (Sort → Arguments → List Word → List Word → Type 0) → List T → Arguments × List T → Type 0
  IsFound sort Are ts z = AreKnown z.0 → Are sort z.0 (map word ts) (map word z.1)

  inside_found : (sort : Sort) (ts : List T) (p : Arguments × List T) → inside_at word expansion sort ts ≡ Ok p → IsFound sort (AreInside expansion) ts p
  unfolding inside_at
  inside_found of_strings ts p h =
      let s = bind_ok (text_at word expansion ts) _ p h in
      let ss = bind_ok (others_at word expansion (text_at word expansion) s.0.1) _ p s.2 in
      let f = others_found (IsString expansion) (text_at word expansion) (string_found word expansion) s.0.1 ss.0 ss.1 in
      turned (IsFound of_strings (AreInside expansion) ts) (strings s.0.0 ss.0.0, ss.0.1) p ss.2 (λ known. (map word s.0.1, string_found word expansion ts s.0 s.1, f))
  inside_found of_expressions ts p h =
      let e = bind_ok (whole_at word expansion ts) _ p h in
      let es = bind_ok (others_at word expansion (whole_at word expansion) e.0.1) _ p e.2 in
      let f = others_found (IsExpression expansion) (whole_at word expansion) (whole_found word expansion exactly) e.0.1 es.0 es.1 in
      turned (IsFound of_expressions (AreInside expansion) ts) (expressions e.0.0 es.0.0, es.0.1) p es.2 (λ known. (map word e.0.1, whole_found word expansion exactly ts e.0 e.1, f))
  inside_found of_parameter ts p h =
      let s = bind_ok (text_at word expansion ts) _ p h in
      let os = bind_ok (others_at word expansion (option_at word expansion) s.0.1) _ p s.2 in
      let f = others_found (UnlessNone (IsOption expansion)) (option_at word expansion) (option_found word expansion exactly) s.0.1 os.0 os.1 in
      turned (IsFound of_parameter (AreInside expansion) ts) (parameter s.0.0 os.0.0, os.0.1) p os.2
      (λ known. (map word s.0.1, string_found word expansion ts s.0 s.1, given_follow (IsOption expansion) (IsComma ParenR) (Closes ParenR) os.0.0 (map word s.0.1) (map word os.0.1) known f))

  pub arguments_found : (sort : Sort) (ts : List T) (p : Arguments × List T) → arguments_at word expansion sort ts ≡ Ok p → AreKnown p.0 → AreArguments expansion sort p.0 (map word ts) (map word p.1)
  unfolding arguments_at
  arguments_found sort ts p h known =
      elim (inspect (accept word ParenL ts)) [
        | inr w ↦
            let i = inside_found sort w.0.1 p (rw w.1 at h) known in
            in_parens expansion sort p.0 (map word ts) (map word w.0.1) (map word p.1) (accept_mark word ParenL ts w.0 w.1) i
        | inl w ↦ elim (inspect (accept word Colon ts)) [
          | inl v ↦
              turned (λ (z : Arguments × List T). AreArguments expansion sort z.0 (map word ts) (map word z.1)) (nothing, ts) p (rw (w, v) at h)
              (refl, accept_none word ParenL ts w, accept_none word Colon ts v)
          | inr v ↦
              let s = bind_ok (text_at word expansion v.0.1) _ p (rw (w, v.1) at h) in
              turned (λ (z : Arguments × List T). AreArguments expansion sort z.0 (map word ts) (map word z.1)) (lone sort s.0.0, s.0.1) p s.2
              (behind_colon expansion sort s.0.0 (map word ts) (map word v.0.1) (map word s.0.1) (accept_mark word Colon ts v.0 v.1) (string_found word expansion v.0.1 s.0 s.1))
        ]
      ]

  -- ---- what is spelled

  inside_again : (sort : Sort) → Again word (AreInside expansion sort) (inside_at word expansion sort)
  unfolding inside_at
  inside_again of_strings (strings s ss) ts ws (a, i, f) =
      let t = string_again word expansion s ts a i in
      let r = others_again (IsString expansion) (text_at word expansion) (string_again word expansion) (string_takes expansion) ss t.rest ws (rw t.others f) in
      record { rest = r.rest; is = rw (t.is, r.is) refl; others = r.others }
  inside_again of_expressions (expressions e es) ts ws (a, i, f) =
      let t = whole_again word expansion exactly e ts a i in
      let r = others_again (IsExpression expansion) (whole_at word expansion) (whole_again word expansion exactly) (expression_takes expansion) es t.rest ws (rw t.others f) in
      record { rest = r.rest; is = rw (t.is, r.is) refl; others = r.others }
  inside_again of_parameter (parameter name options) ts ws (a, i, f) =
      let t = string_again word expansion name ts a i in
      let each = given_takes (IsOption expansion) (option_takes expansion) in
      let r = others_again (IfGiven (IsOption expansion)) (option_at word expansion) (given_again word expansion exactly) each options t.rest ws (rw t.others f) in
      record { rest = r.rest; is = rw (t.is, r.is) refl; others = r.others }
  inside_again sort arguments ts ws i = absurd i

  some_again : (sort : Sort) (arguments : Arguments) (ts : List T) (ws : List Word)
      → IsBehindColon expansion sort arguments (map word ts) ws ⊎ ((a : List Word) × Mark ParenL (map word ts) a × AreInside expansion sort arguments a ws) → Reads word (arguments_at word expansion sort ts) arguments ws
  unfolding arguments_at
  some_again sort arguments ts ws (inl (s, a, m, i, same)) =
      let no_paren = other_accept word ParenL Colon ts a m refl in
      let c = marked word Colon ts a m in
      let r = string_again word expansion s c.rest ws (rw c.others i) in
      record { rest = r.rest; is = rw (no_paren, c.accepts, r.is, same) refl; others = r.others }
  some_again sort arguments ts ws (inr (a, m, i)) =
      let o = marked word ParenL ts a m in
      let r = inside_again sort arguments o.rest ws (rw o.others i) in
      record { rest = r.rest; is = rw o.accepts r.is; others = r.others }

  pub arguments_again : (sort : Sort) → Again word (AreArguments expansion sort) (arguments_at word expansion sort)
  unfolding arguments_at
  arguments_again sort nothing ts ws (same, p, c) = record { rest = ts; is = rw (lacks_accept word ParenL ts p, lacks_accept word Colon ts c) refl; others = same }
  arguments_again sort (strings s ss) ts ws i = some_again sort (strings s ss) ts ws i
  arguments_again sort (expressions e es) ts ws i = some_again sort (expressions e es) ts ws i
  arguments_again sort (parameter name options) ts ws i = some_again sort (parameter name options) ts ws i
