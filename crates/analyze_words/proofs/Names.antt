-- Options by their names.
use Rattle.std.proofs.Common.{◌≡◌, ◌≢◌, ℕ, suc, ◌+◌, ◌<◌, ◌≤◌, Bool, true, false, not, ◌&&◌, ◌||◌, cond, eqb, ltb, List, [], ◌∷◌, ◌++◌, length, drop, take, get_or, map, Option, Some, None, refl, sym, ◌∙◌, ap, subst, arith}
use Rattle.std.specs.Prelude.{codes, is_some}
use Rattle.std.specs.Char.{encode_utf8}
use Rattle.std.specs.List.{position, prefix_len, position_or_len, before_first, after_first, slice_get}
use Rattle.std.specs.Option.{MatchOption, option_map}
use Rattle.std.specs.Str.{bytes_eq}
use Rattle.std.specs.Str.Pattern.{LacksTextAt}
use Rattle.std.proofs.lemmas.Bool.{ltb-true, lt-ltb, le-ltb, and_parts, and_from, or_left, or_right, cond-false, cond-true, false_from_ne_true, eqb-true, eqb-false, and_right, eq-eqb}
use Rattle.std.proofs.lemmas.List.{append-nil, length-append, length-map, take_all, nil_from_length}
use Rattle.std.proofs.lemmas.List.Quantifiers.{position-Some}
use Rattle.std.proofs.lemmas.Option.{get_or_from_slice_get}
use Rattle.std.proofs.lemmas.Str.{encode_same, length-encode, len_utf8_bounds}
use Rattle.tree_expressions.specs.Cutting.{begins}
use Rattle.analyze_words.specs.declared.menu.Slot as menu
use Rattle.analyze_words.specs.Menus as menus
use Rattle.meaning_runs.specs.Words.{Slot, is_option, has_text, is_named, option_named}
use Rattle.meaning_runs.specs.Invokes.{before_equals, behind_equals}
use Rattle.analyze_words.specs.Worded.{slot_of}
use Rattle.analyze_words.proofs.Groups.{by_test}

-- ---- places

prefix_map : {A B : Type 0} (f : A → B) (p : B → Bool) (xs : List A) → prefix_len p (map f xs) ≡ prefix_len (λ x. p (f x)) xs
prefix_map f p [] = refl
prefix_map f p (x ∷ xs) = ap (λ n. cond (p (f x)) (1 + n) 0) (prefix_map f p xs)

position_map : {A B : Type 0} (f : A → B) (p : B → Bool) (xs : List A) → position p (map f xs) ≡ position (λ x. p (f x)) xs
position_map f p xs =
    let e = prefix_map f (λ x. not (p x)) xs in
    λ k. cond (ltb (e k) (length-map xs f k)) (Some (e k)) None

-- the place by a test that agrees with the name's
named_at : (slots : List menu.Slot) (name : List ℕ) (test : menu.Slot → Bool) → ((slot : menu.Slot) → is_named name (slot_of slot) ≡ test slot) → option_named (map slot_of slots) name ≡ position test slots
named_at slots name test same = position_map slot_of (is_named name) slots ∙ (λ k. position (λ slot. same slot k) slots)

none_before : {A : Type 0} (xs : List A) → prefix_len (λ x. true) xs ≡ length xs
none_before [] = refl
none_before (x ∷ xs) = omega (arith, none_before xs)

named_nowhere : (slots : List menu.Slot) (name : List ℕ) → ((slot : menu.Slot) → is_named name (slot_of slot) ≡ false) → option_named (map slot_of slots) name ≡ None
named_nowhere slots name none =
    named_at slots name (λ slot. false) none ∙ cond-false (ltb (prefix_len (λ slot. true) slots) (length slots)) (Some (prefix_len (λ slot. true) slots)) None (le-ltb (prefix_len (λ slot. true) slots) (length slots) (omega (arith, none_before slots)))

-- ---- names

-- text that begins so
dashes : (rest : List ℕ) → begins (codes "--" ++ rest) (codes "--") ≡ true
dashes rest = refl

pub no_dash : (name : List ℕ) → LacksTextAt (codes "-") name 0 → begins name (codes "-") ≡ false
no_dash [] lacks = refl
no_dash (b ∷ bs) lacks = by_test (eqb 45 b) (λ e. absurd (lacks bs (ap (λ c. c ∷ bs) (sym (eqb-true 45 b e))))) (λ e. rw e refl)

pub no_dashes : (name : List ℕ) → LacksTextAt (codes "--") name 0 → begins name (codes "--") ≡ false
no_dashes [] lacks = refl
no_dashes (b ∷ []) lacks = and_right (eqb 45 b) false refl
no_dashes (b ∷ c ∷ bs) lacks = by_test (eqb 45 b)
    (λ e. by_test (eqb 45 c) (λ f. absurd (lacks bs (λ k. sym (eqb-true 45 b e) k ∷ sym (eqb-true 45 c f) k ∷ bs))) (λ f. rw (e, f) refl))
    (λ e. rw e refl)

long_text : (o : Option _) (rest : List ℕ) → has_text (option_map (λ name. name.now) o) rest ≡ menus.is_long o rest
long_text None rest = refl
long_text (Some long) rest = refl

pub long_named : (slots : List menu.Slot) (name rest : List ℕ) → name ≡ codes "--" ++ rest → option_named (map slot_of slots) name ≡ position (menus.has_long rest) slots
long_named slots name rest e = ap (option_named (map slot_of slots)) e ∙ named_at slots (codes "--" ++ rest) (menus.has_long rest) (λ slot. long_text slot.long rest)

same_bytes : (xs ys : List ℕ) → bytes_eq xs ys ≡ true → xs ≡ ys
same_bytes [] [] e = refl
same_bytes [] (y ∷ ys) e = absurd (cc e)
same_bytes (x ∷ xs) [] e = absurd (cc e)
same_bytes (x ∷ xs) (y ∷ ys) e = let both = and_parts (eqb x y) (bytes_eq xs ys) e in λ k. eqb-true x y both.0 k ∷ same_bytes xs ys both.1 k

bytes_same : (xs : List ℕ) → bytes_eq xs xs ≡ true
bytes_same [] = refl
bytes_same (x ∷ xs) = and_from (eqb x x) (bytes_eq xs xs) (eq-eqb x x refl) (bytes_same xs)

short_text : (o : Option ℕ) (letter : ℕ) → has_text (option_map encode_utf8 o) (encode_utf8 letter) ≡ menus.is_short o letter
short_text None letter = refl
short_text (Some other) letter = by_test (eqb other letter)
    (λ e. rw e (ap (λ c. bytes_eq (encode_utf8 c) (encode_utf8 letter)) (eqb-true other letter e) ∙ bytes_same (encode_utf8 letter)))
    (λ e. rw e (false_from_ne_true (bytes_eq (encode_utf8 other) (encode_utf8 letter)) (λ f. eqb-false other letter e (encode_same other letter [] [] (ap (λ bs. bs ++ []) (same_bytes (encode_utf8 other) (encode_utf8 letter) f))).0)))

-- one letter after a dash
pub short_named : (slots : List menu.Slot) (name letters rest : List ℕ) (letter : ℕ) → begins name (codes "--") ≡ false → name ≡ codes "-" ++ letters → letters ≡ encode_utf8 letter ++ rest → length rest ≡ 0
    → option_named (map slot_of slots) name ≡ position (menus.has_short letter) slots
short_named slots name letters rest letter long e f over =
    let all : letters ≡ encode_utf8 letter = f ∙ ap (λ bs. encode_utf8 letter ++ bs) (nil_from_length rest over) ∙ append-nil (encode_utf8 letter) in
    let at : name ≡ 45 ∷ encode_utf8 letter = e ∙ ap (λ bs. 45 ∷ bs) all in
    let none : begins (45 ∷ encode_utf8 letter) (codes "--") ≡ false = subst (λ bs. begins bs (codes "--") ≡ false) at long in
    ap (option_named (map slot_of slots)) at
    ∙ named_at slots (45 ∷ encode_utf8 letter) (menus.has_short letter) (λ slot. cond-false (begins (45 ∷ encode_utf8 letter) (codes "--")) _ _ none ∙ short_text slot.short letter)

no_text : (o : Option ℕ) (text : List ℕ) → ((letter : ℕ) → encode_utf8 letter ≢ text) → has_text (option_map encode_utf8 o) text ≡ false
no_text None text none = refl
no_text (Some letter) text none = false_from_ne_true (bytes_eq (encode_utf8 letter) text) (λ e. none letter (same_bytes (encode_utf8 letter) text e))

-- a name that isn't a dash and a letter, or two dashes and a text
pub not_dashed : (slots : List menu.Slot) (name : List ℕ) → begins name (codes "--") ≡ false → begins name (codes "-") ≡ false → option_named (map slot_of slots) name ≡ None
not_dashed slots name long short = named_nowhere slots name (λ slot. cond-false (begins name (codes "--")) _ _ long ∙ rw short refl)

not_letter : (slots : List menu.Slot) (name letters : List ℕ) → begins name (codes "--") ≡ false → name ≡ codes "-" ++ letters → ((letter : ℕ) → encode_utf8 letter ≢ letters) → option_named (map slot_of slots) name ≡ None
not_letter slots name letters long e none =
    let long' : begins (45 ∷ letters) (codes "--") ≡ false = subst (λ bs. begins bs (codes "--") ≡ false) e long in
    ap (option_named (map slot_of slots)) e ∙ named_nowhere slots (45 ∷ letters) (λ slot. cond-false (begins (45 ∷ letters) (codes "--")) _ _ long' ∙ no_text slot.short letters none)

pub no_letter : (slots : List menu.Slot) (name letters : List ℕ) → begins name (codes "--") ≡ false → name ≡ codes "-" ++ letters → length letters ≡ 0 → option_named (map slot_of slots) name ≡ None
no_letter slots name letters long e over = not_letter slots name letters long e (λ letter f. absurd (omega (arith, ap length f, length-encode letter, len_utf8_bounds letter, over)))

pub more_letters : (slots : List menu.Slot) (name letters rest : List ℕ) (letter : ℕ) → begins name (codes "--") ≡ false → name ≡ codes "-" ++ letters → letters ≡ encode_utf8 letter ++ rest → length rest ≢ 0
    → option_named (map slot_of slots) name ≡ None
more_letters slots name letters rest letter long e f more = not_letter slots name letters long e (λ other g.
    let same = encode_same other letter [] rest (append-nil (encode_utf8 other) ∙ g ∙ f) in
    more (sym (ap length same.1)))

-- whether a character follows
pub letters_follow : (S : Type 0) (r : Option ℕ) (text rest : List ℕ) → is_some r ≡ true → MatchOption r ((length text ≡ 0) × S) (λ letter. text ≡ encode_utf8 letter ++ rest) → length text ≢ 0
letters_follow S None text rest e m = absurd (cc e)
letters_follow S (Some letter) text rest e m = λ over. absurd (omega (arith, ap length m, length-append (encode_utf8 letter) rest, length-encode letter, len_utf8_bounds letter, over))

pub no_letters_follow : (S : Type 0) (r : Option ℕ) (text rest : List ℕ) → is_some r ≡ false → MatchOption r ((length text ≡ 0) × S) (λ letter. text ≡ encode_utf8 letter ++ rest) → length text ≡ 0
no_letters_follow S None text rest e m = m.0
no_letters_follow S (Some letter) text rest e m = absurd (cc e)

text_there : (o : Option (List ℕ)) (text : List ℕ) → has_text o text ≡ true → is_some o ≡ true
text_there None text e = absurd (cc e)
text_there (Some one) text e = refl

-- a parameter that a name names is an option
named_option : (name : List ℕ) (slot : Slot) → is_named name slot ≡ true → is_option slot ≡ true
named_option name slot e = by_test (begins name (codes "--"))
    (λ b. or_left (is_some slot.long) (is_some slot.short) (text_there slot.long (drop 2 name) (sym (cond-true (begins name (codes "--")) _ _ b) ∙ e)))
    (λ b. or_right (is_some slot.long) (is_some slot.short) (text_there slot.short (drop 1 name) (and_parts (begins name (codes "-")) _ (sym (cond-false (begins name (codes "--")) _ _ b) ∙ e)).1))

pub option_at : (slots : List Slot) (name : List ℕ) (place : ℕ) (slot : Slot) → option_named slots name ≡ Some place → slice_get slots place ≡ Some slot → is_option slot ≡ true
option_at slots name place slot e f =
    let found = position-Some (is_named name) slots place slot e in
    let read : get_or slots place slot ≡ slot = get_or_from_slice_get slots place slot slot f in
    named_option name slot (sym (ap (is_named name) read) ∙ found.1)

-- ---- the first `=`

before_is : (bs : List ℕ) → before_equals bs ≡ before_first (λ b. eqb b 61) bs
before_is [] = refl
before_is (b ∷ bs) = by_test (eqb b 61) (λ e. rw e refl) (λ e.
    let n : 1 + position_or_len (λ c. eqb c 61) bs ≡ suc (position_or_len (λ c. eqb c 61) bs) = omega arith in
    rw (e, n) (ap (λ t. b ∷ t) (before_is bs)))

pub before_all : (bs : List ℕ) → position_or_len (λ b. eqb b 61) bs ≡ length bs → bs ≡ before_equals bs
before_all bs e = sym (before_is bs ∙ take_all (position_or_len (λ b. eqb b 61) bs) bs (omega (arith, e)))

pub before_part : (bs name : List ℕ) → name ≡ before_first (λ b. eqb b 61) bs → name ≡ before_equals bs
before_part bs name e = e ∙ sym (before_is bs)

pub behind_none : (bs : List ℕ) → position_or_len (λ b. eqb b 61) bs ≡ length bs → behind_equals bs ≡ None
behind_none [] e = refl
behind_none (b ∷ bs) e = by_test (eqb b 61)
    (λ f. let g : 0 ≡ suc (length bs) = rw f at e in absurd (omega (arith, g)))
    (λ f.
    let g : 1 + position_or_len (λ c. eqb c 61) bs ≡ suc (length bs) = rw f at e in
    rw f (behind_none bs (omega (arith, g))))

pub behind_some : (bs value : List ℕ) → position_or_len (λ b. eqb b 61) bs < length bs → value ≡ after_first (λ b. eqb b 61) bs → behind_equals bs ≡ Some value
behind_some [] value l e = absurd (omega (arith, l))
behind_some (b ∷ bs) value l e = by_test (eqb b 61)
    (λ f. let g : value ≡ bs = rw f at e in rw f (ap (λ v. Some v) (sym g)))
    (λ f.
    let m : 1 + position_or_len (λ c. eqb c 61) bs < suc (length bs) = rw f at l in
    let n : (1 + position_or_len (λ c. eqb c 61) bs) + 1 ≡ suc (position_or_len (λ c. eqb c 61) bs + 1) = omega arith in
    let g : value ≡ drop ((1 + position_or_len (λ c. eqb c 61) bs) + 1) (b ∷ bs) = rw f at e in
    rw f (behind_some bs value (omega (arith, m)) (g ∙ ap (λ i. drop i (b ∷ bs)) n)))
