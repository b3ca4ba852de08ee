-- A setting is told by its first words, and what is told as a setting begins with them.
use Rattle.std.proofs.Common.{◌≡◌, ℕ, Bool, true, false, ◌&&◌, if◌then◌else◌, List, map, Some, refl, inl, inr, ◌⊎◌}
use Rattle.std.specs.Str.{bytes_eq}
use Rattle.just_text.specs.Tokens.{Word}
use Rattle.just_text.specs.declared.token_kind.TokenKind.{TokenKind}
use Rattle.just_text.specs.declared.token_kind.TokenKind.TheVariants.{ColonEquals, Identifier, ParenL, QuestionMark, StringToken}
use Rattle.tree_attributes.specs.declared.item_kind.ItemKind.{ItemKind}
use Rattle.tree_attributes.specs.declared.item_kind.ItemKind.TheVariants.{Alias, Assignment, Function, Import, Module, Recipe, Set, Unexport}
use Rattle.parse_expressions.specs.Words.{is_kind, Begins, Mark, Lacks}
use Rattle.parse_expressions.specs.Reading.{accept, is_next}
use Rattle.parse_expressions.proofs.Taken.{inspect, test, text_same, taken, marked, lacks_accept, other_accept}
use Rattle.parse_expressions.specs.LineEnds.{IsEol}
use Rattle.parse_recipes.specs.Laws.{EolsExactly}
use Rattle.parse_items.specs.Keywords.{alias_keyword, import_keyword, mod_keyword, set_keyword, unexport_keyword}
use Rattle.parse_items.specs.Reading.{are_both_words, is_word, kind_of_value, kind_of_names, ends_here, is_named_value, kind_by_two, kind_by_one, kind_at}

-- ---- what is told as a setting

-- whether a kind is that of a setting
abbrev is_set : ItemKind → Bool
is_set Set = true
is_set other = false

-- a test that gives a setting gives its second kind where the first is another
otherwise : (b : Bool) (k x : ItemKind) → is_set k ≡ false → (if b then k else x) ≡ Set → x ≡ Set
otherwise true k x differs h = let q : is_set Set ≡ false = rw h at differs in absurd cc
otherwise false k x differs h = h

set_or_recipe : (b : Bool) → (if b then Set else Recipe) ≡ Set → b ≡ true
set_or_recipe true h = refl
set_or_recipe false h = absurd cc

-- after two names there is `:=`
by_value : (a : List ℕ) → kind_of_value a ≡ Set → bytes_eq a set_keyword ≡ true
by_value a h = set_or_recipe (bytes_eq a set_keyword) (otherwise (bytes_eq a alias_keyword) Alias _ refl (otherwise (is_word a) Assignment _ refl h))

-- the line has two names alone
by_names : (a : List ℕ) → kind_of_names a ≡ Set → bytes_eq a set_keyword ≡ true
by_names a h =
    elim (test (bytes_eq a set_keyword)) [
      | inl w ↦ w
      | inr w ↦ let q : Recipe ≡ Set = otherwise (bytes_eq a mod_keyword) Module _ refl (otherwise (bytes_eq a unexport_keyword) Unexport _ refl (rw w at h)) in absurd cc
    ]

module _ {T : Type 0} (word : T → Word) where
  by_two : (a b : List ℕ) (ts : List T) → kind_by_two word a b ts ≡ Set → bytes_eq a set_keyword ≡ true
  unfolding kind_by_two
  by_two a b ts h =
      elim (test (is_next word ColonEquals ts)) [
        | inl colon ↦ by_value a (rw colon at h)
        | inr colon ↦ elim (test (ends_here word ts)) [
          | inl end ↦ by_names a (rw (colon, end) at h)
          | inr end ↦
              let i = otherwise (is_next word StringToken ts && bytes_eq a mod_keyword) Module _ refl (rw (colon, end) at h) in
              let q : Recipe ≡ Set = otherwise (are_both_words a b && is_named_value word ts) Assignment _ refl i in absurd cc
        ]
      ]

  by_one : (a : List ℕ) (ts : List T) → kind_by_one word a ts ≡ Set → bytes_eq a set_keyword ≡ true
  unfolding kind_by_one
  by_one a ts h =
      let i = otherwise (is_next word ColonEquals ts) Assignment _ refl h in
      let j = otherwise (is_next word ParenL ts) Function _ refl i in
      let k = otherwise (is_next word StringToken ts && bytes_eq a import_keyword) Import _ refl j in
      let l = otherwise (is_next word QuestionMark ts && bytes_eq a import_keyword) Import _ refl k in
      let m = otherwise (is_next word QuestionMark ts && bytes_eq a mod_keyword) Module _ refl l in
      elim (inspect (accept word Identifier ts)) [
        | inl w ↦ let q = rw w at m in absurd cc
        | inr w ↦ by_two a (word w.0.0).text w.0.1 (rw w.1 at m)
      ]

  -- the first word is `set`
  pub first_word : (ts : List T) → kind_at word ts ≡ Set → (p : T × List T) → accept word Identifier ts ≡ Some p → (word p.0).text ≡ set_keyword
  unfolding kind_at
  first_word ts h p f = text_same (word p.0).text set_keyword (by_one (word p.0).text p.1 (rw f at h))

  -- ---- what begins as a setting

  -- after a setting's name there is `:=`, or the line ends
  abbrev pub GoesOn : List Word → Type 0
  GoesOn ws = ((rest : List Word) × Mark ColonEquals ws rest) ⊎ (Lacks ColonEquals ws × ((rest : List Word) × IsEol ws rest))

  next_no : (kind : TokenKind) (ts : List T) → Lacks kind (map word ts) → is_next word kind ts ≡ false
  unfolding is_next
  next_no kind ts l = rw (lacks_accept word kind ts l) refl

  next_yes : (kind : TokenKind) (ts : List T) (rest : List Word) → Mark kind (map word ts) rest → is_next word kind ts ≡ true
  unfolding is_next
  next_yes kind ts rest m = let t = marked word kind ts rest m in rw t.accepts refl

  next_other : (kind other : TokenKind) (ts : List T) (rest : List Word) → Mark other (map word ts) rest → is_kind other kind ≡ false → is_next word kind ts ≡ false
  unfolding is_next
  next_other kind other ts rest m differs = rw (other_accept word kind other ts rest m differs) refl

  module _ (ends : EolsExactly word) where
    ends_here-yes : (ts : List T) (rest : List Word) → IsEol (map word ts) rest → ends_here word ts ≡ true
    ends_here-yes ts rest i = let e = ends.only ts rest i in rw e.1 refl

    behind_two : (b : List ℕ) (ts : List T) → GoesOn (map word ts) → kind_by_two word set_keyword b ts ≡ Set
    unfolding kind_by_two
    behind_two b ts (inl m) = rw (next_yes ColonEquals ts m.0 m.1) refl
    behind_two b ts (inr l) = rw (next_no ColonEquals ts l.0, ends_here-yes ts l.1.0 l.1.1) refl

    behind_set : (name : List ℕ) (ts : List T) (a : List Word) → Begins Identifier name (map word ts) a → GoesOn a → kind_by_one word set_keyword ts ≡ Set
    unfolding kind_by_one
    behind_set name ts a f g =
        let m : Mark Identifier (map word ts) a = (name, f) in
        let colon = next_other ColonEquals Identifier ts a m refl in
        let paren = next_other ParenL Identifier ts a m refl in
        let string = next_other StringToken Identifier ts a m refl in
        let ask = next_other QuestionMark Identifier ts a m refl in
        let t = taken word Identifier name ts a f in
        rw (colon, paren, string, ask, t.accepts) (behind_two (word t.token).text t.rest (rw t.others g))

    pub set_told : (name : List ℕ) (ts : List T) (a b : List Word) → Begins Identifier set_keyword (map word ts) a → Begins Identifier name a b → GoesOn b → kind_at word ts ≡ Set
    unfolding kind_at
    set_told name ts a b f n g = let t = taken word Identifier set_keyword ts a f in rw (t.accepts, t.says) (behind_set name t.rest b (rw t.others n) g)
