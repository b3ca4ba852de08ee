-- What kind an item is says what its first words are.
use Rattle.std.proofs.Common.{◌≡◌, ℕ, true, false, ◌&&◌, List, map, Some, refl, inl, inr, ◌⊎◌}
use Rattle.std.specs.Str.{bytes_eq}
use Rattle.just_text.specs.Tokens.{Word}
use Rattle.just_text.specs.declared.token_kind.TokenKind.TheVariants.{ColonEquals, Identifier, ParenL, QuestionMark, StringToken}
use Rattle.tree_attributes.specs.declared.item_kind.ItemKind.{ItemKind}
use Rattle.tree_attributes.specs.declared.item_kind.ItemKind.TheVariants.{Alias, Assignment, Import, Module, Unexport}
use Rattle.parse_expressions.specs.Words.{Begins}
use Rattle.parse_expressions.specs.Reading.{accept, is_next}
use Rattle.parse_expressions.proofs.Taken.{inspect, test, text_same, accept_is}
use Rattle.parse_items.specs.Keywords.{alias_keyword, import_keyword, mod_keyword, set_keyword, unexport_keyword}
use Rattle.parse_items.specs.Reading.{are_both_words, is_word, ends_here, is_named_value, kind_by_two, kind_by_one, kind_at}
use Rattle.parse_items.proofs.Fronts.{both_true}

module _ {T : Type 0} (word : T → Word) where
  -- that word comes first
  abbrev pub StartsWith : List ℕ → List T → Type 0
  StartsWith keyword ts = (rest : List Word) × Begins Identifier keyword (map word ts) rest

  -- one of the words of assignments, a name and `:=`
  pub record OneWord (ts : List T) : Type 0 where
    pub token : T
    pub rest : List T
    pub accepts : accept word Identifier ts ≡ Some (token, rest)
    pub is : is_word (word token).text ≡ true
    pub value : is_named_value word rest ≡ true

  -- both of the words of assignments, a name and `:=`
  pub record TwoWords (ts : List T) : Type 0 where
    pub token : T
    pub between : List T
    pub next : T
    pub rest : List T
    pub accepts : accept word Identifier ts ≡ Some (token, between)
    pub goes_on : accept word Identifier between ≡ Some (next, rest)
    pub are : are_both_words (word token).text (word next).text ≡ true
    pub value : is_named_value word rest ≡ true

  -- what the first words of an item of that kind are
  abbrev pub Told : List T → ItemKind → Type 0
  Told ts Alias = StartsWith alias_keyword ts
  Told ts Assignment = (is_named_value word ts ≡ true) ⊎ (OneWord ts ⊎ TwoWords ts)
  Told ts Import = StartsWith import_keyword ts
  Told ts Module = StartsWith mod_keyword ts
  Told ts Unexport = StartsWith unexport_keyword ts
  Told ts other = Unit {0}

  starts : (keyword : List ℕ) (ts : List T) (p : T × List T) → accept word Identifier ts ≡ Some p → bytes_eq (word p.0).text keyword ≡ true → StartsWith keyword ts
  starts keyword ts p f same = (map word p.1, rw (text_same (word p.0).text keyword same) at (accept_is word Identifier ts p f))

  value_here : (ts : List T) (p : T × List T) → accept word Identifier ts ≡ Some p → is_next word ColonEquals p.1 ≡ true → is_named_value word ts ≡ true
  unfolding is_named_value
  value_here ts p f n = rw (f, n) refl

  -- after two names there is `:=`
  told_of_value : (ts : List T) (p q : T × List T) → accept word Identifier ts ≡ Some p → accept word Identifier p.1 ≡ Some q → is_next word ColonEquals q.1 ≡ true → Told ts (kind_by_two word (word p.0).text (word q.0).text q.1)
  unfolding kind_by_two
  told_of_value ts p q f s colon =
      elim (test (is_word (word p.0).text)) [
        | inl w ↦ rw (colon, w) (inr (inl (record { token = p.0; rest = p.1; accepts = f; is = w; value = value_here p.1 q s colon })))
        | inr w ↦ elim (test (bytes_eq (word p.0).text alias_keyword)) [
          | inl k ↦ rw (colon, w, k) (starts alias_keyword ts p f k)
          | inr k ↦ elim (test (bytes_eq (word p.0).text set_keyword)) [
            | inl z ↦ rw (colon, w, k, z) tt
            | inr z ↦ rw (colon, w, k, z) tt
          ]
        ]
      ]

  -- the line ends after two names
  told_of_names : (ts : List T) (p q : T × List T) → accept word Identifier ts ≡ Some p → is_next word ColonEquals q.1 ≡ false → ends_here word q.1 ≡ true → Told ts (kind_by_two word (word p.0).text (word q.0).text q.1)
  unfolding kind_by_two
  told_of_names ts p q f colon end =
      elim (test (bytes_eq (word p.0).text set_keyword)) [
        | inl z ↦ rw (colon, end, z) tt
        | inr z ↦ elim (test (bytes_eq (word p.0).text unexport_keyword)) [
          | inl u ↦ rw (colon, end, z, u) (starts unexport_keyword ts p f u)
          | inr u ↦ elim (test (bytes_eq (word p.0).text mod_keyword)) [
            | inl m ↦ rw (colon, end, z, u, m) (starts mod_keyword ts p f m)
            | inr m ↦ rw (colon, end, z, u, m) tt
          ]
        ]
      ]

  told_by_two : (ts : List T) (p q : T × List T) → accept word Identifier ts ≡ Some p → accept word Identifier p.1 ≡ Some q → Told ts (kind_by_two word (word p.0).text (word q.0).text q.1)
  unfolding kind_by_two
  told_by_two ts p q f s =
      elim (test (is_next word ColonEquals q.1)) [
        | inl colon ↦ told_of_value ts p q f s colon
        | inr colon ↦ elim (test (ends_here word q.1)) [
          | inl end ↦ told_of_names ts p q f colon end
          | inr end ↦ elim (test (is_next word StringToken q.1 && bytes_eq (word p.0).text mod_keyword)) [
            | inl m ↦ rw (colon, end, m) (starts mod_keyword ts p f (both_true _ _ m).1)
            | inr m ↦ elim (test (are_both_words (word p.0).text (word q.0).text && is_named_value word q.1)) [
              | inl b ↦
                  let v = both_true _ _ b in
                  rw (colon, end, m, b) (inr (inr (record { token = p.0; between = p.1; next = q.0; rest = q.1; accepts = f; goes_on = s; are = v.0; value = v.1 })))
              | inr b ↦ rw (colon, end, m, b) tt
            ]
          ]
        ]
      ]

  -- after one name neither `:=` nor a parenthesis comes
  told_of_word : (ts : List T) (p : T × List T) → accept word Identifier ts ≡ Some p → is_next word ColonEquals p.1 ≡ false → is_next word ParenL p.1 ≡ false → Told ts (kind_by_one word (word p.0).text p.1)
  unfolding kind_by_one
  told_of_word ts p f colon paren =
      elim (test (is_next word StringToken p.1 && bytes_eq (word p.0).text import_keyword)) [
        | inl i ↦ rw (colon, paren, i) (starts import_keyword ts p f (both_true _ _ i).1)
        | inr i ↦ elim (test (is_next word QuestionMark p.1 && bytes_eq (word p.0).text import_keyword)) [
          | inl o ↦ rw (colon, paren, i, o) (starts import_keyword ts p f (both_true _ _ o).1)
          | inr o ↦ elim (test (is_next word QuestionMark p.1 && bytes_eq (word p.0).text mod_keyword)) [
            | inl m ↦ rw (colon, paren, i, o, m) (starts mod_keyword ts p f (both_true _ _ m).1)
            | inr m ↦ elim (inspect (accept word Identifier p.1)) [
              | inl w ↦ rw (colon, paren, i, o, m, w) tt
              | inr w ↦ rw (colon, paren, i, o, m, w.1) (told_by_two ts p w.0 f w.1)
            ]
          ]
        ]
      ]

  told_by_one : (ts : List T) (p : T × List T) → accept word Identifier ts ≡ Some p → Told ts (kind_by_one word (word p.0).text p.1)
  unfolding kind_by_one
  told_by_one ts p f =
      elim (test (is_next word ColonEquals p.1)) [
        | inl colon ↦ rw colon (inl (value_here ts p f colon))
        | inr colon ↦ elim (test (is_next word ParenL p.1)) [
          | inl paren ↦ rw (colon, paren) tt
          | inr paren ↦ told_of_word ts p f colon paren
        ]
      ]

  pub told : (ts : List T) → Told ts (kind_at word ts)
  unfolding kind_at
  told ts =
      elim (inspect (accept word Identifier ts)) [
        | inl w ↦ rw w tt
        | inr w ↦ rw w.1 (told_by_one ts w.0 w.1)
      ]
