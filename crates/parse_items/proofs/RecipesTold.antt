-- A recipe is told from all other items by its first words.
use Rattle.std.proofs.Common.{◌≡◌, ℕ, Bool, true, false, ◌&&◌, List, [], ◌∷◌, map, Option, Some, None, refl, inl, inr, ◌⊎◌}
use Rattle.just_text.specs.Tokens.{Word}
use Rattle.just_text.specs.declared.token_kind.TokenKind.{TokenKind}
use Rattle.just_text.specs.declared.token_kind.TokenKind.TheVariants.{Asterisk, At, Colon, ColonEquals, Comment, Dollar, Eof, Eol, Equals, Identifier, ParenL, Plus as PlusMark, QuestionMark, StringToken}
use Rattle.tree_attributes.specs.declared.item_kind.ItemKind.TheVariants.{Recipe}
use Rattle.tree_items.specs.declared.recipe.ParameterKind.{ParameterKind}
use Rattle.tree_items.specs.declared.recipe.ParameterKind.TheVariants.{Plus, Singular, Star}
use Rattle.tree_items.specs.Recipes.{ParameterShape, RecipeShape}
use Rattle.tree_expressions.specs.Shape.{Shape}
use Rattle.parse_expressions.specs.Words.{is_kind, Begins, Mark, Lacks}
use Rattle.parse_expressions.specs.Literals.{Expansion}
use Rattle.parse_expressions.specs.Reading.{accept}
use Rattle.parse_expressions.proofs.Taken.{inspect, same_front, clash, accept_is, accept_none, taken, other_accept}
use Rattle.parse_recipes.specs.Headers.{IsKind, IsExported, IsQuiet, IsDefault, AreParameters, IsRecipe}
use Rattle.parse_recipes.specs.Laws.{EolsExactly}
use Rattle.parse_items.specs.Reading.{are_both_words, is_named_value, kind_by_two, kind_by_one, kind_at}
use Rattle.parse_items.proofs.Fronts.{other_first, is_next-no, no_value, no_name, ends_here-no}

-- ---- the words of a first line after the recipe's name

-- kinds with which neither a parameter nor the colon after the parameters begins
abbrev NeverBegins : TokenKind → Type 0
NeverBegins k = (is_kind PlusMark k ≡ false) × (is_kind Asterisk k ≡ false) × (is_kind Dollar k ≡ false) × (is_kind Identifier k ≡ false) × (is_kind Colon k ≡ false)

mark_lacks : (k : TokenKind) → NeverBegins k → (kind : ParameterKind) (export : Bool) (name : List ℕ) (ws a b c : List Word) → IsKind kind ws a → IsExported export a b → Begins Identifier name b c → Lacks k ws
mark_lacks k n Plus export name ws a b c m e f = other_first k PlusMark ws a m n.0
mark_lacks k n Star export name ws a b c m e f = other_first k Asterisk ws a m n.1
mark_lacks k n Singular true name ws a b c m e f = other_first k Dollar ws b (rw m e) n.2
mark_lacks k n Singular false name ws a b c m e f = other_first k Identifier ws c (name, rw (m, e) f) n.3

-- where a parameter begins with a name, that is its own
name_first : (x : List ℕ) (ws rest : List Word) → Begins Identifier x ws rest → (kind : ParameterKind) (export : Bool) (name : List ℕ) (a b c : List Word) → IsKind kind ws a → IsExported export a b → Begins Identifier name b c → c ≡ rest
name_first x ws rest h Plus export name a b c m e f = absurd (clash PlusMark Identifier ws a rest m (x, h) refl)
name_first x ws rest h Star export name a b c m e f = absurd (clash Asterisk Identifier ws a rest m (x, h) refl)
name_first x ws rest h Singular true name a b c m e f = absurd (clash Dollar Identifier ws b rest (rw m e) (x, h) refl)
name_first x ws rest h Singular false name a b c m e f = (same_front Identifier Identifier name x ws c rest (rw (m, e) f) h).2

module _ (expansion : Expansion) where
  -- parameters and a colon come here
  record InHeader (ws : List Word) : Type 0 where
    parameters : List ParameterShape
    behind : List Word
    after : List Word
    are : AreParameters expansion parameters ws behind
    colon : Mark Colon behind after

  lacks_in : (k : TokenKind) → NeverBegins k → (ps : List ParameterShape) (ws m after : List Word) → AreParameters expansion ps ws m → Mark Colon m after → Lacks k ws
  lacks_in k n [] ws m after same colon = other_first k Colon ws after (rw same colon) n.4
  lacks_in k n (p ∷ ps) ws m after (a, is, more, last) colon = mark_lacks k n p.kind p.export p.name ws is.behind_mark is.behind_dollar is.behind_name is.kind is.export is.name

  header_lacks : (k : TokenKind) → NeverBegins k → (ws : List Word) → InHeader ws → Lacks k ws
  header_lacks k n ws h = lacks_in k n h.parameters ws h.behind h.after h.are h.colon

  default_or : (d : Option Shape) (ws a : List Word) → IsDefault expansion d ws a → ((b : List Word) × Mark Equals ws b) ⊎ (ws ≡ a)
  default_or None ws a i = inr i.0
  default_or (Some e) ws a i = inl (i.0, i.1)

  name_in : (x : List ℕ) (ps : List ParameterShape) (ws m after rest : List Word) → AreParameters expansion ps ws m → Mark Colon m after → Begins Identifier x ws rest → ((b : List Word) × Mark Equals rest b) ⊎ InHeader rest
  name_in x [] ws m after rest same colon h = absurd (clash Colon Identifier ws after rest (rw same colon) (x, h) refl)
  name_in x (p ∷ ps) ws m after rest (a, is, more, last) colon h =
      let same = name_first x ws rest h p.kind p.export p.name is.behind_mark is.behind_dollar is.behind_name is.kind is.export is.name in
      elim (default_or p.default rest a (rw same at is.default)) [
        | inl d ↦ inl d
        | inr d ↦ inr (record { parameters = ps; behind = m; after = after; are = rw d more; colon = colon })
      ]

  -- after a name among parameters there is `=`, or parameters and a colon again
  behind_name : (x : List ℕ) (ws rest : List Word) → InHeader ws → Begins Identifier x ws rest → ((b : List Word) × Mark Equals rest b) ⊎ InHeader rest
  behind_name x ws rest h f = name_in x h.parameters ws h.behind h.after rest h.are h.colon f

  lacks_behind : (k : TokenKind) → NeverBegins k → is_kind Equals k ≡ false → (ws : List Word) → ((b : List Word) × Mark Equals ws b) ⊎ InHeader ws → Lacks k ws
  lacks_behind k n e ws (inl m) = other_first k Equals ws m.0 m.1 e
  lacks_behind k n e ws (inr h) = header_lacks k n ws h

  -- ---- the kind

  module _ {T : Type 0} (word : T → Word) (ends : EolsExactly word) where
    -- after the second name no `:=` comes, and neither does a third name with `:=`
    no_value_behind : (ts : List T) → ((b : List Word) × Mark Equals (map word ts) b) ⊎ InHeader (map word ts) → is_named_value word ts ≡ false
    no_value_behind ts (inl m) = no_name word ts (other_first Identifier Equals (map word ts) m.0 m.1 refl)
    no_value_behind ts (inr h) =
        elim (inspect (accept word Identifier ts)) [
          | inl w ↦ no_name word ts (accept_none word Identifier ts w)
          | inr w ↦
              let f = accept_is word Identifier ts w.0 w.1 in
              no_value word (word w.0.0).text ts (map word w.0.1) f (lacks_behind ColonEquals (refl, refl, refl, refl, refl) refl (map word w.0.1) (behind_name (word w.0.0).text (map word ts) (map word w.0.1) h f))
        ]

    neither_right : (a b : Bool) → b ≡ false → (a && b) ≡ false
    neither_right true b h = h
    neither_right false b h = refl

    recipe_by_two : (x y : List ℕ) (ts : List T) → ((b : List Word) × Mark Equals (map word ts) b) ⊎ InHeader (map word ts) → kind_by_two word x y ts ≡ Recipe
    unfolding kind_by_two
    recipe_by_two x y ts h =
        let lacks_comment = lacks_behind Comment (refl, refl, refl, refl, refl) refl (map word ts) h in
        let lacks_eol = lacks_behind Eol (refl, refl, refl, refl, refl) refl (map word ts) h in
        let lacks_eof = lacks_behind Eof (refl, refl, refl, refl, refl) refl (map word ts) h in
        let lacks_string = lacks_behind StringToken (refl, refl, refl, refl, refl) refl (map word ts) h in
        let colon = is_next-no word ColonEquals ts (lacks_behind ColonEquals (refl, refl, refl, refl, refl) refl (map word ts) h) in
        let end = ends_here-no word ends ts lacks_comment lacks_eol lacks_eof in
        let string = is_next-no word StringToken ts lacks_string in
        let value = neither_right (are_both_words x y) (is_named_value word ts) (no_value_behind ts h) in
        rw (colon, end, string, value) refl

    recipe_by_one : (x : List ℕ) (ts : List T) → InHeader (map word ts) → kind_by_one word x ts ≡ Recipe
    unfolding kind_by_one
    recipe_by_one x ts h =
        let colon = is_next-no word ColonEquals ts (header_lacks ColonEquals (refl, refl, refl, refl, refl) (map word ts) h) in
        let paren = is_next-no word ParenL ts (header_lacks ParenL (refl, refl, refl, refl, refl) (map word ts) h) in
        let string = is_next-no word StringToken ts (header_lacks StringToken (refl, refl, refl, refl, refl) (map word ts) h) in
        let ask = is_next-no word QuestionMark ts (header_lacks QuestionMark (refl, refl, refl, refl, refl) (map word ts) h) in
        elim (inspect (accept word Identifier ts)) [
          | inl w ↦ rw (colon, paren, string, ask, w) refl
          | inr w ↦
              let f = accept_is word Identifier ts w.0 w.1 in
              rw (colon, paren, string, ask, w.1) (recipe_by_two x (word w.0.0).text w.0.1 (behind_name (word w.0.0).text (map word ts) (map word w.0.1) h f))
        ]

    recipe_first : (quiet : Bool) (name : List ℕ) (ts : List T) (a b : List Word) → IsQuiet quiet (map word ts) a → Begins Identifier name a b → InHeader b → kind_at word ts ≡ Recipe
    unfolding kind_at
    recipe_first true name ts a b q f h = let none = other_accept word Identifier At ts a q refl in rw none refl
    recipe_first false name ts a b q f h = let t = taken word Identifier name ts b (rw q f) in rw t.accepts (recipe_by_one (word t.token).text t.rest (rw t.others h))

    pub recipe_told : (ts : List T) (rest : List Word) (r : RecipeShape) (blanks : ℕ) → IsRecipe expansion r blanks (map word ts) rest → kind_at word ts ≡ Recipe
    recipe_told ts rest r blanks i =
        recipe_first r.quiet r.name ts i.behind_at i.behind_name i.at i.name
        (record { parameters = r.parameters; behind = i.behind_parameters; after = i.behind_colon; are = i.parameters; colon = i.colon })
