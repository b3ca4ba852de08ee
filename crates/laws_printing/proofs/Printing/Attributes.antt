-- Attributes are derived again.
use Rattle.std.proofs.Common.{◌≡◌, ◌≢◌, ℕ, suc, length, Bool, true, false, List, [], ◌∷◌, ◌++◌, Option, Some, None, refl, sym, ap, subst, ◌∙◌, arith, inl, inr, ◌⊎◌}
use Rattle.std.specs.Prelude.{codes, not, ◌||◌, is_some}
use Rattle.std.proofs.lemmas.Bool.Decides.{nat_tests}
use Rattle.just_text.specs.Tokens.{Word}
use Rattle.just_text.specs.declared.token_kind.TokenKind.{TokenKind}
use Rattle.just_text.specs.declared.token_kind.TokenKind.TheVariants.{BracketL, BracketR, Colon, Comma, Comment, Eol, Equals, Identifier, ParenL, ParenR, StringToken, Whitespace}
use Rattle.tree_attributes.specs.declared.attribute.AttributeKind.{AttributeKind}
use Rattle.tree_attributes.specs.declared.attribute.AttributeKind.TheVariants as kinds
use Rattle.tree_attributes.specs.Attributes.{AttributeShape, OptionsShape, with_options, kind_of}
use Rattle.tree_attributes.specs.Forms.{form_of, takes}
use Rattle.tree_expressions.specs.Shape.{Shape, literal, command, format, variable, call, assertion, assertion_alone, group, listing, choice, choice_alone, negation, rooted, binary}
use Rattle.parse_expressions.specs.Words.{is_kind, Mark, Lacks, significant}
use Rattle.parse_expressions.specs.Literals.{Expansion, Cooks}
use Rattle.parse_expressions.specs.Grammar.{Closes}
use Rattle.parse_expressions.specs.Rows.{IsComma}
use Rattle.parse_expressions.specs.Strings.{IsExpression, IsString}
use Rattle.parse_expressions.proofs.Taken.{test, some_is, inspect, is_kind-same}
use Rattle.parse_attributes.specs.Rows.{Follow, IfGiven}
use Rattle.parse_attributes.specs.Options.{OptionShape, flag, multiple, long, help, max, min, short, value, text, is_short, is_count, without_options, with_option, with_all, is_whole, options_of}
use Rattle.parse_attributes.specs.Arguments.{Sort, of_strings, of_expressions, of_parameter, sort_of, Arguments, nothing, strings, expressions, parameter, count, lone, of_texts, of_values, made}
use Rattle.parse_attributes.specs.Lines.{behind_comments, IsBracketEnd, IsBetween, IsLast, AreAttributes, IsOption, AreInside, IsBehindColon, AreArguments, IsAttribute}
use Rattle.laws_printing.specs.Printing.Words.{word, space, words_of}
use Rattle.laws_printing.specs.Printing.Laws.{Quieter, Closed}
use Rattle.laws_printing.specs.Printing.ItemWords.{newline}
use Rattle.laws_printing.specs.Printing.Attributes.{if_set, if_given, options_in_order, string_words, option_words, given_words, more_words, argument_words, attribute_words, arguments_of, shape_words, attributes_words, AllOf, IsSpelled}
use Rattle.laws_printing.proofs.Printing.Quiet.{ends, quiet_end, closed_end, first_kind}
use Rattle.laws_printing.proofs.Printing.Heads.{head, head_is, first_of, lacks_other}
use Rattle.laws_printing.proofs.Printing.Spelled.{derived}

second_so : (a b : Bool) → (a || not b) ≡ false → b ≡ true
second_so true b h = absurd cc
second_so false true h = refl
second_so false false h = absurd cc

never_closes : (e : Shape) → first_of e ≢ ParenR
never_closes (literal s) p = absurd cc
never_closes (command s) p = absurd cc
never_closes (format s hs) p = absurd cc
never_closes (variable x) p = absurd cc
never_closes (call f es) p = absurd cc
never_closes (assertion c m) p = absurd cc
never_closes (assertion_alone c) p = absurd cc
never_closes (group e) p = absurd cc
never_closes (listing es) p = absurd cc
never_closes (choice c t o) p = absurd cc
never_closes (choice_alone c t) p = absurd cc
never_closes (negation e) p = absurd cc
never_closes (rooted e) p = absurd cc
never_closes (binary operator l r) p = never_closes l p

-- what follows an argument: nothing goes on, and no `=` comes
record Quiets (after : List Word) : Type 0 where
  quiet : (before : List Word) → Quieter before (significant after)
  closed : (e : Shape) → Closed e (significant after)
  equals : Lacks Equals (significant after)

quiets_at : (kind : TokenKind) (t : List ℕ) (rest : List Word) → ends kind ≡ true → is_kind kind Whitespace ≡ false → kind ≢ Equals → Quiets (word kind t ∷ rest)
quiets_at kind t rest h w d =
    let shown : significant (word kind t ∷ rest) ≡ word kind t ∷ significant rest = rw w refl in
    record {
      quiet = λ before. subst (Quieter before) (sym shown) (quiet_end kind t before (significant rest) h);
      closed = λ e. subst (Closed e) (sym shown) (closed_end e kind t (significant rest) h);
      equals = subst (Lacks Equals) (sym shown) (λ r m. d (first_kind kind Equals t m.0 (significant rest) r m.1));
    }

quiets_more : {A : Type 0} (f : A → List Word → List Word) (xs : List A) (after : List Word) → Quiets (more_words f xs after)
unfolding ends
quiets_more f [] after = quiets_at ParenR (codes ")") after refl refl (λ p. absurd cc)
quiets_more f (x ∷ xs) after = quiets_at Comma (codes ",") (space ∷ f x (more_words f xs after)) refl refl (λ p. absurd cc)

module _ {A : Type 0} (Is : A → List Word → List Word → Type 0) (f : A → List Word → List Word) (P : A → Type 0) (spell : (x : A) → P x → (after : List Word) → Quiets after → Is x (significant (f x after)) (significant after))
    (opens : (x : A) → P x → (after : List Word) → Quiets after → Lacks ParenR (significant (f x after))) where
  follow : (xs : List A) → AllOf P xs → (after : List Word) → Follow Is (IsComma ParenR) (Closes ParenR) xs (significant (more_words f xs after)) (significant after)
  follow [] k after = inl (codes ")", refl)
  follow (x ∷ xs) k after = (_, _, ((codes ",", refl), opens x k.0 (more_words f xs after) (quiets_more f xs after)), spell x k.0 (more_words f xs after) (quiets_more f xs after), follow xs k.1 after)

module _ (expansion : Expansion) where
  abbrev Expressed : Shape → Type 0
  Expressed e = (words rest : List Word) × IsExpression expansion e words rest

  string_again : (s : List ℕ) → Cooks expansion s → (after : List Word) → Quiets after → IsString expansion s (significant (string_words s after)) (significant after)
  string_again s c after q = (refl, c)

  string_opens : (s : List ℕ) → Cooks expansion s → (after : List Word) → Quiets after → Lacks ParenR (significant (string_words s after))
  string_opens s c after q r m = let p = first_kind StringToken ParenR s m.0 (significant after) r m.1 in absurd cc

  expression_again : (e : Shape) → Expressed e → (after : List Word) → Quiets after → IsExpression expansion e (significant (words_of e after)) (significant after)
  expression_again e k after q = derived expansion 256 6 k.0 k.1 after e k.2 (q.quiet k.1) (q.closed e)

  expression_opens : (e : Shape) → Expressed e → (after : List Word) → Quiets after → Lacks ParenR (significant (words_of e after))
  expression_opens e k after q = lacks_other (first_of e) ParenR (significant (words_of e after)) (head_is expansion e (significant (words_of e after)) (significant after) (expression_again e k after q).is) (never_closes e)

  -- ---- options

  abbrev KnownOption : OptionShape → Type 0
  KnownOption flag = Unit {0}
  KnownOption multiple = Unit {0}
  KnownOption (long None) = Unit {0}
  KnownOption (long (Some s)) = Cooks expansion s
  KnownOption (help s) = Cooks expansion s
  KnownOption (max s) = Cooks expansion s
  KnownOption (min s) = Cooks expansion s
  KnownOption (short s) = Cooks expansion s
  KnownOption (value e) = Expressed e

  abbrev KnownGiven : Option OptionShape → Type 0
  KnownGiven None = ⊥
  KnownGiven (Some p) = KnownOption p

  option_again : (p : OptionShape) → KnownOption p → (after : List Word) → Quiets after → IsOption expansion p (significant (option_words p after)) (significant after)
  option_again flag k after q = refl
  option_again multiple k after q = refl
  option_again (long None) k after q = (refl, q.equals)
  option_again (long (Some s)) k after q = (_, _, refl, (codes "=", refl), (refl, k))
  option_again (help s) k after q = (_, _, refl, (codes "=", refl), (refl, k))
  option_again (max s) k after q = (_, _, refl, (codes "=", refl), (refl, k))
  option_again (min s) k after q = (_, _, refl, (codes "=", refl), (refl, k))
  option_again (short s) k after q = (_, _, refl, (codes "=", refl), (refl, k))
  option_again (value e) k after q = (_, _, refl, (codes "=", refl), expression_again e k after q)

  name_opens : (words : List Word) → head words ≡ Some Identifier → Lacks ParenR words
  name_opens words h = lacks_other Identifier ParenR words h (λ p. absurd cc)

  option_opens : (p : OptionShape) (after : List Word) → Lacks ParenR (significant (option_words p after))
  option_opens flag after = name_opens _ refl
  option_opens multiple after = name_opens _ refl
  option_opens (long None) after = name_opens _ refl
  option_opens (long (Some s)) after = name_opens _ refl
  option_opens (help s) after = name_opens _ refl
  option_opens (max s) after = name_opens _ refl
  option_opens (min s) after = name_opens _ refl
  option_opens (short s) after = name_opens _ refl
  option_opens (value e) after = name_opens _ refl

  given_again : (o : Option OptionShape) → KnownGiven o → (after : List Word) → Quiets after → IfGiven (IsOption expansion) o (significant (given_words o after)) (significant after)
  given_again None k after q = absurd k
  given_again (Some p) k after q = option_again p k after q

  given_opens : (o : Option OptionShape) → KnownGiven o → (after : List Word) → Quiets after → Lacks ParenR (significant (given_words o after))
  given_opens None k after q = absurd k
  given_opens (Some p) k after q = option_opens p after

  option_known : (p : OptionShape) (words rest : List Word) → IsOption expansion p words rest → KnownOption p
  option_known flag words rest i = tt
  option_known multiple words rest i = tt
  option_known (long None) words rest i = tt
  option_known (long (Some s)) words rest i = i.4.1
  option_known (help s) words rest i = i.4.1
  option_known (max s) words rest i = i.4.1
  option_known (min s) words rest i = i.4.1
  option_known (short s) words rest i = i.4.1
  option_known (value e) words rest i = (i.1, rest, i.4)

  given_known : (o : Option OptionShape) (words rest : List Word) → IfGiven (IsOption expansion) o words rest → KnownGiven o
  given_known None words rest i = i
  given_known (Some p) words rest i = option_known p words rest i

  -- what is known of a row
  followed : {A : Type 0} (Is : A → List Word → List Word → Type 0) (P : A → Type 0) → ((x : A) (words rest : List Word) → Is x words rest → P x) → (xs : List A) (words rest : List Word) → Follow Is (IsComma ParenR) (Closes ParenR) xs words rest → AllOf P xs
  followed Is P know [] words rest i = tt
  followed Is P know (x ∷ xs) words rest i = (know x i.0 i.1 i.3, followed Is P know xs i.1 rest i.4)

  -- ---- options in order

  abbrev Counted : Option (List ℕ) → Type 0
  Counted None = Unit {0}
  Counted (Some s) = (is_count (text expansion s) ≡ true) × Cooks expansion s

  abbrev Short : Option (List ℕ) → Type 0
  Short None = Unit {0}
  Short (Some s) = (is_short (text expansion s) ≡ true) × Cooks expansion s

  abbrev Cooked : Option (List ℕ) → Type 0
  Cooked None = Unit {0}
  Cooked (Some s) = Cooks expansion s

  abbrev Long : Option (Option (List ℕ)) → Type 0
  Long None = Unit {0}
  Long (Some s) = Cooked s

  abbrev Valued : Option Shape → Type 0
  Valued None = Unit {0}
  Valued (Some e) = Expressed e

  record Good (name : List ℕ) (o : OptionsShape) : Type 0 where
    same : o.name ≡ name
    help : Cooked o.help
    long : Long o.long
    max : Counted o.max
    min : Counted o.min
    short : Short o.short
    value : Valued o.value

  abbrev full : List ℕ → Bool → Option (List ℕ) → Option (Option (List ℕ)) → Option (List ℕ) → Option (List ℕ) → Bool → Option (List ℕ) → Option Shape → OptionsShape
  full name fl he lo ma mi mu sh va = record { name = name; flag = fl; help = he; long = lo; max = ma; min = mi; multiple = mu; short = sh; value = va }

  abbrev Row : Type 0
  Row = List (Option OptionShape)

  step_flag : (n : List ℕ) (fl : Bool) (r : Row) → with_all expansion (full n false None None None None false None None) (if_set fl flag ++ r) ≡ with_all expansion (full n fl None None None None false None None) r
  step_flag n true r = refl
  step_flag n false r = refl

  step_help : (n : List ℕ) (fl : Bool) (he : Option (List ℕ)) (r : Row) → with_all expansion (full n fl None None None None false None None) (if_given he help ++ r) ≡ with_all expansion (full n fl he None None None false None None) r
  step_help n fl None r = refl
  step_help n fl (Some s) r = refl

  step_long : (n : List ℕ) (fl : Bool) (he : Option (List ℕ)) (lo : Option (Option (List ℕ))) (r : Row) → with_all expansion (full n fl he None None None false None None) (if_given lo long ++ r) ≡ with_all expansion (full n fl he lo None None false None None) r
  step_long n fl he None r = refl
  step_long n fl he (Some s) r = refl

  step_max : (n : List ℕ) (fl : Bool) (he : Option (List ℕ)) (lo : Option (Option (List ℕ))) (ma : Option (List ℕ)) (r : Row) → Counted ma → with_all expansion (full n fl he lo None None false None None) (if_given ma max ++ r) ≡ with_all expansion (full n fl he lo ma None false None None) r
  step_max n fl he lo None r c = refl
  step_max n fl he lo (Some s) r c = rw c.0 refl

  step_min : (n : List ℕ) (fl : Bool) (he : Option (List ℕ)) (lo : Option (Option (List ℕ))) (ma mi : Option (List ℕ)) (r : Row) → Counted mi → with_all expansion (full n fl he lo ma None false None None) (if_given mi min ++ r) ≡ with_all expansion (full n fl he lo ma mi false None None) r
  step_min n fl he lo ma None r c = refl
  step_min n fl he lo ma (Some s) r c = rw c.0 refl

  step_multiple : (n : List ℕ) (fl : Bool) (he : Option (List ℕ)) (lo : Option (Option (List ℕ))) (ma mi : Option (List ℕ)) (mu : Bool) (r : Row) → with_all expansion (full n fl he lo ma mi false None None) (if_set mu multiple ++ r) ≡ with_all expansion (full n fl he lo ma mi mu None None) r
  step_multiple n fl he lo ma mi true r = refl
  step_multiple n fl he lo ma mi false r = refl

  step_short : (n : List ℕ) (fl : Bool) (he : Option (List ℕ)) (lo : Option (Option (List ℕ))) (ma mi : Option (List ℕ)) (mu : Bool) (sh : Option (List ℕ)) (r : Row) → Short sh
      → with_all expansion (full n fl he lo ma mi mu None None) (if_given sh short ++ r) ≡ with_all expansion (full n fl he lo ma mi mu sh None) r
  step_short n fl he lo ma mi mu None r c = refl
  step_short n fl he lo ma mi mu (Some s) r c = rw c.0 refl

  step_value : (n : List ℕ) (fl : Bool) (he : Option (List ℕ)) (lo : Option (Option (List ℕ))) (ma mi : Option (List ℕ)) (mu : Bool) (sh : Option (List ℕ)) (va : Option Shape) → with_all expansion (full n fl he lo ma mi mu sh None) (if_given va value) ≡ Some (full n fl he lo ma mi mu sh va)
  step_value n fl he lo ma mi mu sh None = refl
  step_value n fl he lo ma mi mu sh (Some e) = refl

  ordered : (name : List ℕ) (o : OptionsShape) → Good name o → with_all expansion (without_options o.name) (options_in_order o) ≡ Some o
  ordered name o g =
      step_flag o.name o.flag _ ∙ step_help o.name o.flag o.help _ ∙ step_long o.name o.flag o.help o.long _ ∙ step_max o.name o.flag o.help o.long o.max _ g.max ∙ step_min o.name o.flag o.help o.long o.max o.min _ g.min
      ∙ step_multiple o.name o.flag o.help o.long o.max o.min o.multiple _ ∙ step_short o.name o.flag o.help o.long o.max o.min o.multiple o.short _ g.short ∙ step_value o.name o.flag o.help o.long o.max o.min o.multiple o.short o.value

  good_with : (name : List ℕ) (o q : OptionsShape) (p : OptionShape) → Good name o → KnownOption p → with_option expansion o p ≡ Some q → Good name q
  good_with name o q flag g k e =
      elim (test o.flag) [
        | inl h ↦ let n = rw h at e in absurd cc
        | inr h ↦ subst (Good name) (some_is _ q (rw h at e)) (record { same = g.same; help = g.help; long = g.long; max = g.max; min = g.min; short = g.short; value = g.value })
      ]
  good_with name o q multiple g k e =
      elim (test o.multiple) [
        | inl h ↦ let n = rw h at e in absurd cc
        | inr h ↦ subst (Good name) (some_is _ q (rw h at e)) (record { same = g.same; help = g.help; long = g.long; max = g.max; min = g.min; short = g.short; value = g.value })
      ]
  good_with name o q (long None) g k e =
      elim (test (is_some o.long || not true)) [
        | inl h ↦ let n = rw h at e in absurd cc
        | inr h ↦ subst (Good name) (some_is _ q (rw h at e)) (record { same = g.same; help = g.help; long = tt; max = g.max; min = g.min; short = g.short; value = g.value })
      ]
  good_with name o q (long (Some s)) g k e =
      elim (test (is_some o.long || not true)) [
        | inl h ↦ let n = rw h at e in absurd cc
        | inr h ↦ subst (Good name) (some_is _ q (rw h at e)) (record { same = g.same; help = g.help; long = k; max = g.max; min = g.min; short = g.short; value = g.value })
      ]
  good_with name o q (help s) g k e =
      elim (test (is_some o.help || not true)) [
        | inl h ↦ let n = rw h at e in absurd cc
        | inr h ↦ subst (Good name) (some_is _ q (rw h at e)) (record { same = g.same; help = k; long = g.long; max = g.max; min = g.min; short = g.short; value = g.value })
      ]
  good_with name o q (max s) g k e =
      elim (test (is_some o.max || not (is_count (text expansion s)))) [
        | inl h ↦ let n = rw h at e in absurd cc
        | inr h ↦ let c : is_count (text expansion s) ≡ true = second_so (is_some o.max) (is_count (text expansion s)) h in
            subst (Good name) (some_is _ q (rw h at e)) (record { same = g.same; help = g.help; long = g.long; max = (c, k); min = g.min; short = g.short; value = g.value })
      ]
  good_with name o q (min s) g k e =
      elim (test (is_some o.min || not (is_count (text expansion s)))) [
        | inl h ↦ let n = rw h at e in absurd cc
        | inr h ↦ let c : is_count (text expansion s) ≡ true = second_so (is_some o.min) (is_count (text expansion s)) h in
            subst (Good name) (some_is _ q (rw h at e)) (record { same = g.same; help = g.help; long = g.long; max = g.max; min = (c, k); short = g.short; value = g.value })
      ]
  good_with name o q (short s) g k e =
      elim (test (is_some o.short || not (is_short (text expansion s)))) [
        | inl h ↦ let n = rw h at e in absurd cc
        | inr h ↦ let c : is_short (text expansion s) ≡ true = second_so (is_some o.short) (is_short (text expansion s)) h in
            subst (Good name) (some_is _ q (rw h at e)) (record { same = g.same; help = g.help; long = g.long; max = g.max; min = g.min; short = (c, k); value = g.value })
      ]
  good_with name o q (value v) g k e =
      elim (test (is_some o.value || not true)) [
        | inl h ↦ let n = rw h at e in absurd cc
        | inr h ↦ subst (Good name) (some_is _ q (rw h at e)) (record { same = g.same; help = g.help; long = g.long; max = g.max; min = g.min; short = g.short; value = k })
      ]

  good_all : (name : List ℕ) (ps : Row) (o q : OptionsShape) → Good name o → AllOf KnownGiven ps → with_all expansion o ps ≡ Some q → Good name q
  good_all name [] o q g k e = subst (Good name) (some_is o q e) g
  good_all name (None ∷ ps) o q g k e = absurd k.0
  good_all name (Some p ∷ ps) o q g k e =
      elim (inspect (with_option expansion o p)) [
        | inl w ↦ let n = rw w at e in absurd cc
        | inr w ↦ good_all name ps w.0 q (good_with name o w.0 p g k.0 w.1) k.1 (rw w.1 at e)
      ]

  -- a row that is known, with one more in front that is known if it is there
  join_set : (b : Bool) (p : OptionShape) (r : Row) → KnownOption p → AllOf KnownGiven r → AllOf KnownGiven (if_set b p ++ r)
  join_set true p r k ks = (k, ks)
  join_set false p r k ks = ks

  abbrev IfThere : {A : Type 0} → (A → Type 0) → Option A → Type 0
  IfThere P None = Unit {0}
  IfThere P (Some x) = P x

  join_given : {A : Type 0} (o : Option A) (f : A → OptionShape) (r : Row) (P : A → Type 0) → ((x : A) → P x → KnownOption (f x)) → IfThere P o → AllOf KnownGiven r → AllOf KnownGiven (if_given o f ++ r)
  join_given None f r P know k ks = ks
  join_given (Some x) f r P know k ks = (know x k, ks)

  of_cooked : (o : Option (List ℕ)) → Cooked o → IfThere (λ s. Cooks expansion s) o
  of_cooked None c = tt
  of_cooked (Some s) c = c

  of_long : (o : Option (Option (List ℕ))) → Long o → IfThere Cooked o
  of_long None c = tt
  of_long (Some s) c = c

  long_known : (o : Option (List ℕ)) → Cooked o → KnownOption (long o)
  long_known None c = tt
  long_known (Some s) c = c

  of_counted : (o : Option (List ℕ)) → Counted o → IfThere (λ s. Cooks expansion s) o
  of_counted None c = tt
  of_counted (Some s) c = c.1

  of_short : (o : Option (List ℕ)) → Short o → IfThere (λ s. Cooks expansion s) o
  of_short None c = tt
  of_short (Some s) c = c.1

  last_given : (o : Option Shape) → Valued o → AllOf KnownGiven (if_given o value)
  last_given None c = tt
  last_given (Some e) c = (c, tt)

  record Again (name : List ℕ) (o : OptionsShape) : Type 0 where
    known : AllOf KnownGiven (options_in_order o)
    is : options_of expansion name (options_in_order o) ≡ Some o
    named : o.name ≡ name

  known_row : (fl : Bool) (he : Option (List ℕ)) (lo : Option (Option (List ℕ))) (ma mi : Option (List ℕ)) (mu : Bool) (sh : Option (List ℕ)) (va : Option Shape) → Cooked he → Long lo → Counted ma → Counted mi → Short sh → Valued va
      → AllOf KnownGiven (if_set fl flag ++ (if_given he help ++ (if_given lo long ++ (if_given ma max ++ (if_given mi min ++ (if_set mu multiple ++ (if_given sh short ++ if_given va value)))))))
  known_row fl he lo ma mi mu sh va ch cl cma cmi cs cv =
      join_set fl flag _ tt (join_given he help _ (λ s. Cooks expansion s) (λ s k. k) (of_cooked he ch) (join_given lo long _ Cooked (long_known) (of_long lo cl)
      (join_given ma max _ (λ s. Cooks expansion s) (λ s k. k) (of_counted ma cma) (join_given mi min _ (λ s. Cooks expansion s) (λ s k. k) (of_counted mi cmi) (join_set mu multiple _ tt
      (join_given sh short _ (λ s. Cooks expansion s) (λ s k. k) (of_short sh cs) (last_given va cv)))))))

  options_again : (name : List ℕ) (ps : Row) (o : OptionsShape) → AllOf KnownGiven ps → options_of expansion name ps ≡ Some o → Again name o
  options_again name ps o k e =
      elim (inspect (with_all expansion (without_options name) ps)) [
        | inl w ↦ let n = rw w at e in absurd cc
        | inr w ↦
            elim (test (is_whole expansion w.0)) [
              | inl h ↦
                  let same : w.0 ≡ o = some_is w.0 o (rw (w.1, h) at e) in
                  let g : Good name o = subst (Good name) same (good_all name ps (without_options name) w.0 (record { same = refl; help = tt; long = tt; max = tt; min = tt; short = tt; value = tt }) k w.1) in
                  let whole : is_whole expansion o ≡ true = subst (λ z. is_whole expansion z ≡ true) same h in
                  let all : with_all expansion (without_options name) (options_in_order o) ≡ Some o = subst (λ n. with_all expansion (without_options n) (options_in_order o) ≡ Some o) g.same (ordered name o g) in
                  record { known = known_row o.flag o.help o.long o.max o.min o.multiple o.short o.value g.help g.long g.max g.min g.short g.value; is = rw (all, whole) refl; named = g.same }
              | inr h ↦ let n = rw (w.1, h) at e in absurd cc
            ]
      ]

  -- ---- arguments

  abbrev Known : Arguments → Type 0
  Known nothing = Unit {0}
  Known (strings s ss) = Cooks expansion s × AllOf (Cooks expansion) ss
  Known (expressions e es) = Expressed e × AllOf Expressed es
  Known (parameter name ps) = Cooks expansion name × AllOf KnownGiven ps

  abbrev Right : Sort → Arguments → Type 0
  Right sort nothing = Unit {0}
  Right of_strings (strings s ss) = Unit {0}
  Right of_expressions (expressions e es) = Unit {0}
  Right of_parameter (parameter name ps) = Unit {0}
  Right sort arguments = ⊥

  inside_known : (sort : Sort) (arguments : Arguments) (words rest : List Word) → AreInside expansion sort arguments words rest → Known arguments × Right sort arguments
  inside_known of_strings (strings s ss) words rest i = ((i.1.1, followed (IsString expansion) (Cooks expansion) (λ x w r j. j.1) ss i.0 rest i.2), tt)
  inside_known of_expressions (expressions e es) words rest i = ((((words, i.0, i.1)), followed (IsExpression expansion) Expressed (λ x w r j. (w, r, j)) es i.0 rest i.2), tt)
  inside_known of_parameter (parameter name ps) words rest i = ((i.1.1, followed (IfGiven (IsOption expansion)) KnownGiven given_known ps i.0 rest i.2), tt)
  inside_known of_strings nothing words rest i = absurd i
  inside_known of_strings (expressions e es) words rest i = absurd i
  inside_known of_strings (parameter name ps) words rest i = absurd i
  inside_known of_expressions nothing words rest i = absurd i
  inside_known of_expressions (strings s ss) words rest i = absurd i
  inside_known of_expressions (parameter name ps) words rest i = absurd i
  inside_known of_parameter nothing words rest i = absurd i
  inside_known of_parameter (strings s ss) words rest i = absurd i
  inside_known of_parameter (expressions e es) words rest i = absurd i

  lone_known : (sort : Sort) (s : List ℕ) → Cooks expansion s → Known (lone sort s) × Right sort (lone sort s)
  lone_known of_strings s c = ((c, tt), tt)
  lone_known of_expressions s c =
      (((word StringToken s ∷ [], [], record { is = (refl, c); may = record { binds = omega arith; stops = λ operator lo hi r m. let p = m.1 in absurd cc }; fits = omega arith }), tt), tt)
  lone_known of_parameter s c = ((c, tt), tt)

  either_known : (sort : Sort) (arguments : Arguments) (words rest : List Word) → (IsBehindColon expansion sort arguments words rest ⊎ ((a : List Word) × Mark ParenL words a × AreInside expansion sort arguments a rest)) → Known arguments × Right sort arguments
  either_known sort arguments words rest (inl w) = subst (λ x. Known x × Right sort x) (sym w.4) (lone_known sort w.0 w.3.1)
  either_known sort arguments words rest (inr w) = inside_known sort arguments w.0 rest w.2

  arguments_known : (sort : Sort) (arguments : Arguments) (words rest : List Word) → AreArguments expansion sort arguments words rest → Known arguments × Right sort arguments
  arguments_known sort nothing words rest i = (tt, tt)
  arguments_known sort (strings s ss) words rest i = either_known sort (strings s ss) words rest i
  arguments_known sort (expressions e es) words rest i = either_known sort (expressions e es) words rest i
  arguments_known sort (parameter name ps) words rest i = either_known sort (parameter name ps) words rest i

  bracket : List Word → List Word
  bracket after = word BracketR (codes "]") ∷ after

  lacks_bracket : (kind : TokenKind) (after : List Word) → BracketR ≢ kind → Lacks kind (significant (bracket after))
  unfolding bracket
  lacks_bracket kind after d r m = d (first_kind BracketR kind (codes "]") m.0 (significant after) r m.1)

  arguments_again : (sort : Sort) (arguments : Arguments) → Known arguments → Right sort arguments → (after : List Word) → AreArguments expansion sort arguments (significant (argument_words arguments (bracket after))) (significant (bracket after))
  arguments_again sort nothing k r after = (refl, lacks_bracket ParenL after (λ p. absurd cc), lacks_bracket Colon after (λ p. absurd cc))
  arguments_again of_strings (strings s ss) k r after =
      inr (_, (codes "(", refl), (_, string_again s k.0 (more_words string_words ss (bracket after)) (quiets_more string_words ss (bracket after)), follow (IsString expansion) string_words (Cooks expansion) string_again string_opens ss k.1 (bracket after)))
  arguments_again of_expressions (expressions e es) k r after =
      inr (_, (codes "(", refl), (_, expression_again e k.0 (more_words words_of es (bracket after)) (quiets_more words_of es (bracket after)), follow (IsExpression expansion) words_of Expressed expression_again expression_opens es k.1 (bracket after)))
  arguments_again of_parameter (parameter name ps) k r after =
      inr (_, (codes "(", refl), (_, string_again name k.0 (more_words given_words ps (bracket after)) (quiets_more given_words ps (bracket after)), follow (IfGiven (IsOption expansion)) given_words KnownGiven given_again given_opens ps k.1 (bracket after)))
  arguments_again of_strings (expressions e es) k r after = absurd r
  arguments_again of_strings (parameter name ps) k r after = absurd r
  arguments_again of_expressions (strings s ss) k r after = absurd r
  arguments_again of_expressions (parameter name ps) k r after = absurd r
  arguments_again of_parameter (strings s ss) k r after = absurd r
  arguments_again of_parameter (expressions e es) k r after = absurd r

  with_these : (x : AttributeShape) (kind : AttributeKind) (arguments : Arguments) (after : List Word) → Known arguments → Right (sort_of (form_of kind)) arguments → takes (form_of kind) (count arguments) ≡ true → made expansion kind arguments ≡ Some x
      → IsAttribute expansion x (significant (attribute_words kind arguments (bracket after))) (significant (bracket after))
  with_these x kind arguments after k r t m = record { kind = kind; arguments = arguments; behind_name = _; name = refl; stand = arguments_again (sort_of (form_of kind)) arguments k r after; taken = t; makes = m }

  right_options : (sort : Sort) (name : List ℕ) (ps qs : Row) → Right sort (parameter name ps) → Right sort (parameter name qs)
  right_options of_parameter name ps qs r = tt
  right_options of_strings name ps qs r = absurd r
  right_options of_expressions name ps qs r = absurd r

  -- an attribute is printed with this kind and these arguments
  abbrev AsPrinted : AttributeKind → Arguments → AttributeShape → Type 0
  AsPrinted kind arguments x = (kind_of x ≡ kind) × (arguments_of x ≡ arguments)

  strings_printed : (kind : AttributeKind) (s : List ℕ) (ss : List (List ℕ)) → Right (sort_of (form_of kind)) (strings s ss) → takes (form_of kind) (suc (length ss)) ≡ true → AsPrinted kind (strings s ss) (of_texts (form_of kind) kind s ss)
  strings_printed kinds.Android s ss r t = absurd r
  strings_printed kinds.Arg s ss r t = absurd r
  strings_printed kinds.Cache s ss r t = absurd r
  strings_printed kinds.Confirm s ss r t = absurd r
  strings_printed kinds.Default s ss r t = absurd r
  strings_printed kinds.Doc s [] r t = (refl, refl)
  strings_printed kinds.Doc s (z ∷ ss) r t = absurd (grind (arith, nat_tests))
  strings_printed kinds.Dragonfly s ss r t = absurd r
  strings_printed kinds.Env s ss r t = absurd r
  strings_printed kinds.ExitMessage s ss r t = absurd r
  strings_printed kinds.Extension s [] r t = (refl, refl)
  strings_printed kinds.Extension s (z ∷ ss) r t = absurd (grind (arith, nat_tests))
  strings_printed kinds.Freebsd s ss r t = absurd r
  strings_printed kinds.Group s [] r t = (refl, refl)
  strings_printed kinds.Group s (z ∷ ss) r t = absurd (grind (arith, nat_tests))
  strings_printed kinds.Linux s ss r t = absurd r
  strings_printed kinds.Macos s ss r t = absurd r
  strings_printed kinds.Metadata s ss r t = (refl, refl)
  strings_printed kinds.Netbsd s ss r t = absurd r
  strings_printed kinds.NoCd s ss r t = absurd r
  strings_printed kinds.NoExitMessage s ss r t = absurd r
  strings_printed kinds.NoQuiet s ss r t = absurd r
  strings_printed kinds.Openbsd s ss r t = absurd r
  strings_printed kinds.Parallel s ss r t = absurd r
  strings_printed kinds.PositionalArguments s ss r t = absurd r
  strings_printed kinds.Private s ss r t = absurd r
  strings_printed kinds.Script s ss r t = absurd r
  strings_printed kinds.Unix s ss r t = absurd r
  strings_printed kinds.Windows s ss r t = absurd r
  strings_printed kinds.WorkingDirectory s [] r t = (refl, refl)
  strings_printed kinds.WorkingDirectory s (z ∷ ss) r t = absurd (grind (arith, nat_tests))

  expressions_printed : (kind : AttributeKind) (e : Shape) (es : List Shape) → Right (sort_of (form_of kind)) (expressions e es) → takes (form_of kind) (suc (length es)) ≡ true → AsPrinted kind (expressions e es) (of_values (form_of kind) e es)
  expressions_printed kinds.Android e es r t = absurd (grind (arith, nat_tests))
  expressions_printed kinds.Arg e es r t = absurd r
  expressions_printed kinds.Cache e es r t = absurd (grind (arith, nat_tests))
  expressions_printed kinds.Confirm e [] r t = (refl, refl)
  expressions_printed kinds.Confirm e (z ∷ es) r t = absurd (grind (arith, nat_tests))
  expressions_printed kinds.Default e es r t = absurd (grind (arith, nat_tests))
  expressions_printed kinds.Doc e es r t = absurd r
  expressions_printed kinds.Dragonfly e es r t = absurd (grind (arith, nat_tests))
  expressions_printed kinds.Env e [] r t = absurd (grind (arith, nat_tests))
  expressions_printed kinds.Env e (z ∷ []) r t = (refl, refl)
  expressions_printed kinds.Env e (z ∷ y ∷ es) r t = absurd (grind (arith, nat_tests))
  expressions_printed kinds.ExitMessage e es r t = absurd (grind (arith, nat_tests))
  expressions_printed kinds.Extension e es r t = absurd r
  expressions_printed kinds.Freebsd e es r t = absurd (grind (arith, nat_tests))
  expressions_printed kinds.Group e es r t = absurd r
  expressions_printed kinds.Linux e es r t = absurd (grind (arith, nat_tests))
  expressions_printed kinds.Macos e es r t = absurd (grind (arith, nat_tests))
  expressions_printed kinds.Metadata e es r t = absurd r
  expressions_printed kinds.Netbsd e es r t = absurd (grind (arith, nat_tests))
  expressions_printed kinds.NoCd e es r t = absurd (grind (arith, nat_tests))
  expressions_printed kinds.NoExitMessage e es r t = absurd (grind (arith, nat_tests))
  expressions_printed kinds.NoQuiet e es r t = absurd (grind (arith, nat_tests))
  expressions_printed kinds.Openbsd e es r t = absurd (grind (arith, nat_tests))
  expressions_printed kinds.Parallel e es r t = absurd (grind (arith, nat_tests))
  expressions_printed kinds.PositionalArguments e es r t = absurd (grind (arith, nat_tests))
  expressions_printed kinds.Private e es r t = absurd (grind (arith, nat_tests))
  expressions_printed kinds.Script e es r t = (refl, refl)
  expressions_printed kinds.Unix e es r t = absurd (grind (arith, nat_tests))
  expressions_printed kinds.Windows e es r t = absurd (grind (arith, nat_tests))
  expressions_printed kinds.WorkingDirectory e es r t = absurd r

  parameter_kind : (kind : AttributeKind) (name : List ℕ) (ps : Row) → Right (sort_of (form_of kind)) (parameter name ps) → kinds.Arg ≡ kind
  parameter_kind kinds.Android name ps r = absurd r
  parameter_kind kinds.Arg name ps r = refl
  parameter_kind kinds.Cache name ps r = absurd r
  parameter_kind kinds.Confirm name ps r = absurd r
  parameter_kind kinds.Default name ps r = absurd r
  parameter_kind kinds.Doc name ps r = absurd r
  parameter_kind kinds.Dragonfly name ps r = absurd r
  parameter_kind kinds.Env name ps r = absurd r
  parameter_kind kinds.ExitMessage name ps r = absurd r
  parameter_kind kinds.Extension name ps r = absurd r
  parameter_kind kinds.Freebsd name ps r = absurd r
  parameter_kind kinds.Group name ps r = absurd r
  parameter_kind kinds.Linux name ps r = absurd r
  parameter_kind kinds.Macos name ps r = absurd r
  parameter_kind kinds.Metadata name ps r = absurd r
  parameter_kind kinds.Netbsd name ps r = absurd r
  parameter_kind kinds.NoCd name ps r = absurd r
  parameter_kind kinds.NoExitMessage name ps r = absurd r
  parameter_kind kinds.NoQuiet name ps r = absurd r
  parameter_kind kinds.Openbsd name ps r = absurd r
  parameter_kind kinds.Parallel name ps r = absurd r
  parameter_kind kinds.PositionalArguments name ps r = absurd r
  parameter_kind kinds.Private name ps r = absurd r
  parameter_kind kinds.Script name ps r = absurd r
  parameter_kind kinds.Unix name ps r = absurd r
  parameter_kind kinds.Windows name ps r = absurd r
  parameter_kind kinds.WorkingDirectory name ps r = absurd r

  -- what is made of them is spelled by them
  as_printed : (x : AttributeShape) (kind : AttributeKind) (arguments : Arguments) → Known arguments → Right (sort_of (form_of kind)) arguments → takes (form_of kind) (count arguments) ≡ true → made expansion kind arguments ≡ Some x → AsPrinted kind arguments x → IsSpelled expansion x
  unfolding bracket
  as_printed x kind arguments k r t m p after =
      subst (λ i. IsAttribute expansion x (significant (attribute_words i (arguments_of x) (bracket after))) (significant (bracket after))) (sym p.0)
      (subst (λ as'. IsAttribute expansion x (significant (attribute_words kind as' (bracket after))) (significant (bracket after))) (sym p.1) (with_these x kind arguments after k r t m))

  at_arguments : (x : AttributeShape) (kind : AttributeKind) (arguments : Arguments) → Known arguments → Right (sort_of (form_of kind)) arguments → takes (form_of kind) (count arguments) ≡ true → made expansion kind arguments ≡ Some x → IsSpelled expansion x
  at_arguments x kind nothing k r t m = as_printed x kind nothing k r t m (subst (AsPrinted kind nothing) (some_is _ x m) (refl, refl))
  at_arguments x kind (strings s ss) k r t m = as_printed x kind (strings s ss) k r t m (subst (AsPrinted kind (strings s ss)) (some_is _ x m) (strings_printed kind s ss r t))
  at_arguments x kind (expressions e es) k r t m = as_printed x kind (expressions e es) k r t m (subst (AsPrinted kind (expressions e es)) (some_is _ x m) (expressions_printed kind e es r t))
  at_arguments x kind (parameter name ps) k r t m =
      elim (inspect (options_of expansion name ps)) [
        | inl w ↦ let n = rw w at m in absurd cc
        | inr w ↦
            let a = options_again name ps w.0 k.1 w.1 in
            let made_again : made expansion kind (parameter name (options_in_order w.0)) ≡ Some x = rw (a.is) (rw w.1 at m) in
            let same : with_options w.0 ≡ x = some_is (with_options w.0) x (rw w.1 at m) in
            as_printed x kind (parameter name (options_in_order w.0)) (k.0, a.known) (right_options (sort_of (form_of kind)) name ps (options_in_order w.0) r) t made_again
            (subst (AsPrinted kind (parameter name (options_in_order w.0))) same (parameter_kind kind name ps r, ap (λ n. parameter n (options_in_order w.0)) a.named))
      ]

  pub attribute_again : (x : AttributeShape) (words rest : List Word) → IsAttribute expansion x words rest → IsSpelled expansion x
  attribute_again x words rest i =
      let k = arguments_known (sort_of (form_of i.kind)) i.arguments i.behind_name rest i.stand in
      at_arguments x i.kind i.arguments k.0 k.1 i.taken i.makes

  -- ---- lines of attributes

  not_comment : (words : List Word) → Lacks Comment words → behind_comments (λ (w : Word). w) words ≡ words
  unfolding behind_comments
  not_comment [] l = refl
  not_comment (w ∷ ws) l =
      elim (test (is_kind w.kind Comment)) [
        | inl h ↦ absurd (l ws (w.text, ap (λ (k : TokenKind). record { kind = k; text = w.text } ∷ ws) (is_kind-same w.kind Comment h)))
        | inr h ↦ rw h refl
      ]

  line_end : (after : List Word) → Lacks Comment (significant after) → IsBracketEnd (significant (bracket (newline ∷ after))) (significant after)
  unfolding bracket
  line_end after l =
      (_, inl (codes "]", refl), (_, _, inr (refl, λ r m. let p = first_kind Eol Comment (codes "\n") m.0 (significant after) r m.1 in absurd cc), (codes "\n", refl), sym (not_comment (significant after) l)))

  lacks_first : (kind other : TokenKind) (t : List ℕ) (rest : List Word) → kind ≢ other → Lacks other (word kind t ∷ rest)
  lacks_first kind other t rest d r m = d (first_kind kind other t m.0 rest r m.1)

  -- before what is neither a comment nor a bracket
  follow_lines : (xs : List AttributeShape) (after : List Word) → AllOf (IsSpelled expansion) xs → Lacks Comment (significant after) → Lacks BracketL (significant after)
      → Follow (IsAttribute expansion) IsBetween IsLast xs (significant (bracket (newline ∷ attributes_words xs after))) (significant after)
  unfolding bracket
  follow_lines [] after rows c b = (line_end after c, b)
  follow_lines (x ∷ xs) after rows c b =
      let ws = shape_words x (bracket (newline ∷ attributes_words xs after)) in
      (_, _, inr (_, line_end (word BracketL (codes "[") ∷ ws) (lacks_first BracketL Comment (codes "[") (significant ws) (λ p. absurd cc)), (codes "[", refl)), rows.0 (newline ∷ attributes_words xs after), follow_lines xs after rows.1 c b)

  pub lines_again : (xs : List AttributeShape) (after : List Word) → AllOf (IsSpelled expansion) xs → Lacks Comment (significant after) → Lacks BracketL (significant after)
      → AreAttributes expansion xs (significant (attributes_words xs after)) (significant after)
  unfolding bracket
  lines_again [] after rows c b = (refl, b)
  lines_again (x ∷ xs) after rows c b = (_, _, (codes "[", refl), rows.0 (newline ∷ attributes_words xs after), follow_lines xs after rows.1 c b)

  -- each of the attributes that some words spell
  rows_of : (xs : List AttributeShape) (words rest : List Word) → Follow (IsAttribute expansion) IsBetween IsLast xs words rest → AllOf (IsSpelled expansion) xs
  rows_of [] words rest i = tt
  rows_of (x ∷ xs) words rest i = (attribute_again x i.0 i.1 i.3, rows_of xs i.1 rest i.4)

  pub all_rows : (xs : List AttributeShape) (words rest : List Word) → AreAttributes expansion xs words rest → AllOf (IsSpelled expansion) xs
  all_rows [] words rest i = tt
  all_rows (x ∷ xs) words rest i = (attribute_again x i.0 i.1 i.3, rows_of xs i.1 rest i.4)
