-- The first words of an item tell its kind.
use Rattle.std.proofs.Common.{◌≡◌, ℕ, Bool, true, false, List, map, refl, ◌∙◌, inl, inr, ◌⊎◌}
use Rattle.just_text.specs.Tokens.{Word}
use Rattle.just_text.specs.declared.token_kind.TokenKind.{TokenKind}
use Rattle.just_text.specs.declared.token_kind.TokenKind.TheVariants.{ColonEquals, Comment, Eof, Eol, Identifier, ParenL, QuestionMark, StringToken}
use Rattle.tree_attributes.specs.declared.item_kind.ItemKind.TheVariants.{Alias, Assignment, Function, Import, Module, Unexport}
use Rattle.parse_expressions.specs.Words.{is_kind, Begins, Mark}
use Rattle.parse_expressions.specs.Reading.{is_next}
use Rattle.parse_expressions.proofs.Taken.{Taken, taken}
use Rattle.parse_expressions.specs.LineEnds.{IsEol}
use Rattle.parse_recipes.specs.Laws.{EolsExactly}
use Rattle.parse_items.specs.Items.{AreWords, IsOptional}
use Rattle.parse_items.specs.Keywords.{alias_keyword, eager_keyword, export_keyword, import_keyword, mod_keyword, unexport_keyword}
use Rattle.parse_items.specs.Reading.{kind_by_two, kind_by_one, kind_at}
use Rattle.parse_items.proofs.Fronts.{other_first, end_lacks, is_next-yes, is_next-no, next_other, is_value, ends_here-yes, ends_here-no}

module _ {T : Type 0} (word : T → Word) where
  -- ---- names

  -- the kind is told by one name and what stands after it
  record ByOne (x : List ℕ) (ts : List T) (ws : List Word) : Type 0 where
    rest : List T
    kind : kind_at word ts ≡ kind_by_one word x rest
    others : map word rest ≡ ws

  -- the kind is told by two names and what stands after them
  record ByTwo (x y : List ℕ) (ts : List T) (ws : List Word) : Type 0 where
    rest : List T
    kind : kind_at word ts ≡ kind_by_two word x y rest
    others : map word rest ≡ ws

  by_one : (x : List ℕ) (ts : List T) (a : List Word) → Begins Identifier x (map word ts) a → ByOne x ts a
  unfolding kind_at
  by_one x ts a f = let t = taken word Identifier x ts a f in record { rest = t.rest; kind = rw (t.accepts, t.says) refl; others = t.others }

  second_name : (x y : List ℕ) (ts : List T) (a : List Word) (f : Begins Identifier y (map word ts) a) (t : Taken word Identifier y ts a) → kind_by_one word x ts ≡ kind_by_two word x y t.rest
  unfolding kind_by_one
  second_name x y ts a f t =
      let colon = next_other word ColonEquals Identifier ts a (y, f) refl in
      let paren = next_other word ParenL Identifier ts a (y, f) refl in
      let string = next_other word StringToken Identifier ts a (y, f) refl in
      let ask = next_other word QuestionMark Identifier ts a (y, f) refl in
      rw (colon, paren, string, ask, t.accepts, t.says) refl

  by_two : (x y : List ℕ) (ts : List T) (a b : List Word) → Begins Identifier x (map word ts) a → Begins Identifier y a b → ByTwo x y ts b
  by_two x y ts a b f g =
      let n = by_one x ts a f in
      let h : Begins Identifier y (map word n.rest) b = rw n.others g in
      let t = taken word Identifier y n.rest b h in
      record { rest = t.rest; kind = n.kind ∙ second_name x y n.rest b h t; others = t.others }

  -- ---- `:=` after two names

  alias_by_two : (y : List ℕ) (ts : List T) → is_next word ColonEquals ts ≡ true → kind_by_two word alias_keyword y ts ≡ Alias
  unfolding kind_by_two
  alias_by_two y ts colon = rw colon refl

  export_by_two : (y : List ℕ) (ts : List T) → is_next word ColonEquals ts ≡ true → kind_by_two word export_keyword y ts ≡ Assignment
  unfolding kind_by_two
  export_by_two y ts colon = rw colon refl

  eager_by_two : (y : List ℕ) (ts : List T) → is_next word ColonEquals ts ≡ true → kind_by_two word eager_keyword y ts ≡ Assignment
  unfolding kind_by_two
  eager_by_two y ts colon = rw colon refl

  pub alias_told : (name : List ℕ) (ts : List T) (a b c : List Word) → Begins Identifier alias_keyword (map word ts) a → Begins Identifier name a b → Mark ColonEquals b c → kind_at word ts ≡ Alias
  alias_told name ts a b c f g m = let n = by_two alias_keyword name ts a b f g in n.kind ∙ alias_by_two name n.rest (is_next-yes word ColonEquals n.rest c (rw n.others m))

  -- ---- assignments

  value_told : (name : List ℕ) (ts : List T) (a b : List Word) → Begins Identifier name (map word ts) a → Mark ColonEquals a b → kind_at word ts ≡ Assignment
  unfolding kind_by_one
  value_told name ts a b f m = let n = by_one name ts a f in let colon = is_next-yes word ColonEquals n.rest b (rw n.others m) in n.kind ∙ rw colon refl

  module _ (ends : EolsExactly word) where
    -- a name and `:=` after both words
    both_by_two : (name : List ℕ) (ts : List T) (a b : List Word) → Begins Identifier name (map word ts) a → Mark ColonEquals a b → (kind_by_two word export_keyword eager_keyword ts ≡ Assignment) × (kind_by_two word eager_keyword export_keyword ts ≡ Assignment)
    unfolding kind_by_two
    both_by_two name ts a b f m =
        let colon = next_other word ColonEquals Identifier ts a (name, f) refl in
        let lacks = λ (k : TokenKind) (differs : is_kind Identifier k ≡ false). other_first k Identifier (map word ts) a (name, f) differs in
        let end = ends_here-no word ends ts (lacks Comment refl) (lacks Eol refl) (lacks Eof refl) in
        let string = next_other word StringToken Identifier ts a (name, f) refl in
        let value = is_value word name ts a b f m in
        (rw (colon, end, string, value) refl, rw (colon, end, string, value) refl)

    pub assignment_told : (export eager : Bool) (name : List ℕ) (ts : List T) (a b c : List Word) → AreWords export eager (map word ts) a → Begins Identifier name a b → Mark ColonEquals b c → kind_at word ts ≡ Assignment
    assignment_told false false name ts a b c i f m = value_told name ts b c (rw i f) m
    assignment_told true false name ts a b c i f m = let n = by_two export_keyword name ts a b i f in n.kind ∙ export_by_two name n.rest (is_next-yes word ColonEquals n.rest c (rw n.others m))
    assignment_told false true name ts a b c i f m = let n = by_two eager_keyword name ts a b i f in n.kind ∙ eager_by_two name n.rest (is_next-yes word ColonEquals n.rest c (rw n.others m))
    assignment_told true true name ts a b c (inl (d, e, g)) f m = let n = by_two export_keyword eager_keyword ts d a e g in n.kind ∙ (both_by_two name n.rest b c (rw n.others f) m).0
    assignment_told true true name ts a b c (inr (d, e, g)) f m = let n = by_two eager_keyword export_keyword ts d a e g in n.kind ∙ (both_by_two name n.rest b c (rw n.others f) m).1

  -- ---- functions and imports

  pub function_told : (name : List ℕ) (ts : List T) (a b : List Word) → Begins Identifier name (map word ts) a → Mark ParenL a b → kind_at word ts ≡ Function
  unfolding kind_by_one
  function_told name ts a b f m =
      let n = by_one name ts a f in
      let colon = next_other word ColonEquals ParenL n.rest b (rw n.others m) refl in
      let paren = is_next-yes word ParenL n.rest b (rw n.others m) in
      n.kind ∙ rw (colon, paren) refl

  ask_by_one : (ts : List T) (a : List Word) → Mark QuestionMark (map word ts) a → (kind_by_one word import_keyword ts ≡ Import) × (kind_by_one word mod_keyword ts ≡ Module)
  unfolding kind_by_one
  ask_by_one ts a m =
      let colon = next_other word ColonEquals QuestionMark ts a m refl in
      let paren = next_other word ParenL QuestionMark ts a m refl in
      let string = next_other word StringToken QuestionMark ts a m refl in
      let ask = is_next-yes word QuestionMark ts a m in
      (rw (colon, paren, string, ask) refl, rw (colon, paren, string, ask) refl)

  string_by_one : (ts : List T) (a : List Word) → Mark StringToken (map word ts) a → kind_by_one word import_keyword ts ≡ Import
  unfolding kind_by_one
  string_by_one ts a m =
      let colon = next_other word ColonEquals StringToken ts a m refl in
      let paren = next_other word ParenL StringToken ts a m refl in
      let string = is_next-yes word StringToken ts a m in
      rw (colon, paren, string) refl

  pub import_told : (optional : Bool) (ts : List T) (a b c : List Word) → Begins Identifier import_keyword (map word ts) a → IsOptional optional a b → Mark StringToken b c → kind_at word ts ≡ Import
  import_told true ts a b c f o s = let n = by_one import_keyword ts a f in n.kind ∙ (ask_by_one n.rest b (rw n.others o)).0
  import_told false ts a b c f o s = let n = by_one import_keyword ts a f in n.kind ∙ string_by_one n.rest c (rw (n.others, o) s)

  -- ---- names at the end of a line

  module _ (ends : EolsExactly word) where
    names_by_two : (y : List ℕ) (ts : List T) (rest : List Word) → IsEol (map word ts) rest → (kind_by_two word mod_keyword y ts ≡ Module) × (kind_by_two word unexport_keyword y ts ≡ Unexport)
    unfolding kind_by_two
    names_by_two y ts rest e =
        let colon = is_next-no word ColonEquals ts (end_lacks ColonEquals (map word ts) rest e refl refl refl) in
        let end = ends_here-yes word ends ts rest e in
        (rw (colon, end) refl, rw (colon, end) refl)

    file_by_two : (y : List ℕ) (ts : List T) (a : List Word) → Mark StringToken (map word ts) a → kind_by_two word mod_keyword y ts ≡ Module
    unfolding kind_by_two
    file_by_two y ts a m =
        let colon = next_other word ColonEquals StringToken ts a m refl in
        let lacks = λ (k : TokenKind) (differs : is_kind StringToken k ≡ false). other_first k StringToken (map word ts) a m differs in
        let end = ends_here-no word ends ts (lacks Comment refl) (lacks Eol refl) (lacks Eof refl) in
        let string = is_next-yes word StringToken ts a m in
        rw (colon, end, string) refl

    pub unexport_told : (name : List ℕ) (ts : List T) (a b rest : List Word) → Begins Identifier unexport_keyword (map word ts) a → Begins Identifier name a b → IsEol b rest → kind_at word ts ≡ Unexport
    unexport_told name ts a b rest f g e = let n = by_two unexport_keyword name ts a b f g in n.kind ∙ (names_by_two name n.rest rest (rw n.others e)).1

    -- after a submodule's name there is a string or the end of the line
    pub module_told : (optional : Bool) (name : List ℕ) (ts : List T) (a b c rest : List Word) → Begins Identifier mod_keyword (map word ts) a → IsOptional optional a b → Begins Identifier name b c → Mark StringToken c rest ⊎ IsEol c rest → kind_at word ts ≡ Module
    module_told true name ts a b c rest f o g e = let n = by_one mod_keyword ts a f in n.kind ∙ (ask_by_one n.rest b (rw n.others o)).1
    module_told false name ts a b c rest f o g (inl s) = let n = by_two mod_keyword name ts a c f (rw o g) in n.kind ∙ file_by_two name n.rest rest (rw n.others s)
    module_told false name ts a b c rest f o g (inr e) = let n = by_two mod_keyword name ts a c f (rw o g) in n.kind ∙ (names_by_two name n.rest rest (rw n.others e)).0
