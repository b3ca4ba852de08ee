-- A printed file is read again, if its items are.
use Rattle.std.proofs.Common.{◌≡◌, ◌≢◌, ℕ, zero, suc, ◌+◌, Bool, true, false, ◌&&◌, List, [], ◌∷◌, ◌++◌, map, None, refl, sym, ap, subst, ◌∙◌, arith, inl, inr, eqb-true}
use Rattle.std.specs.Prelude.{codes, ◌==◌}
use Rattle.std.specs.List.{list_all}
use Rattle.std.proofs.lemmas.Bool.{and_parts}
use Rattle.std.proofs.lemmas.Bool.Decides.{nat_tests}
use Rattle.just_text.specs.Tokens.{Word}
use Rattle.just_text.specs.declared.token_kind.TokenKind.{TokenKind}
use Rattle.just_text.specs.declared.token_kind.TokenKind.TheVariants.{At, BracketL, Colon, Comment, Eof, Eol, Identifier, Indent, Whitespace}
use Rattle.just_lexer.specs.declared.position.Position.{Position}
use Rattle.just_lexer.specs.Classes.{first, is_blank as is_white_byte}
use Rattle.just_lexer.specs.Lexes.{piece_word, Lexes, start}
use Rattle.just_lexer.specs.Modes.{Mode, moved}
use Rattle.tree_attributes.specs.Attributes.{AttributeShape}
use Rattle.tree_items.specs.Files.{ItemShape, alias_item, assignment_item, comment_item, function_item, import_item, module_item, newline_item, recipe_item, set_item, unexport_item, attributes_of, is_blank, file_text}
use Rattle.tree_items.specs.Lines.{Piece}
use Rattle.tree_items.specs.Recipes.{RecipeShape}
use Rattle.parse_expressions.specs.Literals.{Expansion}
use Rattle.parse_expressions.specs.Words.{is_kind, Lacks, significant}
use Rattle.parse_expressions.proofs.Taken.{test}
use Rattle.parse_recipes.specs.Bodies.{behind_blank, behind_comment}
use Rattle.justfile_syntax.specs.Words.{LexesFrom, joined, placed}
use Rattle.justfile_syntax.specs.Fits.{is_lexeme}
use Rattle.justfile_syntax.specs.Bodies.{is_indentation}
use Rattle.justfile_syntax.specs.Lines.{at_line, at_text_end}
use Rattle.justfile_syntax.specs.Files.{Entry, newlines, items_in, IsEntry, AreEntries, Derives}
use Rattle.justfile_syntax.specs.Reads.{Reads}
use Rattle.justfile_syntax.proofs.Lines.{starts_like_a_line, texts_end}
use Rattle.justfile_syntax.proofs.Words.{lexes_back}
use Rattle.justfile_syntax.proofs.Begins.{begins_with}
use Rattle.justfile_syntax.proofs.Stands.{lexeme_reach}
use Rattle.semver.specs.declared.Version.{Version}
use Rattle.laws_printing.specs.Printing.Words.{word, words_of}
use Rattle.laws_printing.specs.Printing.Attributes.{AllOf, attributes_words, shape_words, close_bracket}
use Rattle.laws_printing.specs.Printing.ItemWords.{newline, if_there, assigned, keyword_words, parameters_words, dependencies_words, subsequents_words}
use Rattle.laws_printing.specs.Printing.Lexed.{is_written}
use Rattle.laws_printing.specs.Printing.LinesLexed.{are_names}
use Rattle.laws_printing.specs.Printing.Normal.{cut, normal_after, normal, taken, body_before}
use Rattle.laws_printing.proofs.Printing.Quiet.{first_kind}
use Rattle.laws_printing.proofs.Printing.Lexed.{name_first, begins_expression}
use Rattle.laws_printing.specs.Formatting.FileWords.{blank_words, blanks_left, bare_words, item_words, Spaced, spaced, lead, spaced_words, file_words, starts_full, is_full}
use Rattle.laws_printing.specs.Formatting.Files.{body_of, Outdented, IsPrintedBack, ArePrintedBack}
use Rattle.laws_printing.specs.Formatting.ItemsLexed.{is_outside}
use Rattle.laws_printing.specs.Formatting.Written.{is_name, is_parameter_written, is_dependency_written, is_header_written, is_body_written, is_attribute_written, is_bare_written, is_item_written}
use Rattle.laws_printing.proofs.Formatting.ItemsLexed.{Leads, blanks_lexed}
use Rattle.laws_printing.proofs.Formatting.BodiesLexed.{item_lexed}
use Rattle.laws_printing.proofs.Formatting.ItemTexts.{file_joined_whole}

-- ---- what an item begins with

outside_by : (l : List ℕ) → (is_white_byte (first l)) ≡ false → (first l == 10) ≡ false → (first l == 13) ≡ false → is_outside l ≡ true
outside_by l w n r = rw (w, n, r) refl

expression_outside : (l : List ℕ) → begins_expression (first l) ≡ true → is_outside l ≡ true
expression_outside l h =
    let w : is_white_byte (first l) ≡ false = grind (arith, nat_tests, h) in
    let n : (first l == 10) ≡ false = grind (arith, nat_tests, h) in
    let r : (first l == 13) ≡ false = grind (arith, nat_tests, h) in
    outside_by l w n r

name_outside : (name rest : List ℕ) → is_name name ≡ true → is_outside (name ++ rest) ≡ true
name_outside name rest is = expression_outside (name ++ rest) (name_first name rest is)

comment_outside : (t rest : List ℕ) → is_lexeme None Comment t ≡ true → is_outside (t ++ rest) ≡ true
comment_outside [] rest h = absurd (grind (arith, nat_tests))
comment_outside (c ∷ cs) rest h =
    let b : (c == 35) ≡ true = begins_with None Comment c cs (rw (lexeme_reach None Comment (c ∷ cs) h) (omega arith)) in
    let mark : c ≡ 35 = eqb-true c 35 b in
    outside_by (c ∷ cs ++ rest) (rw mark refl) (rw mark refl) (rw mark refl)

keywords_outside : (export eager : Bool) (name : List ℕ) (ws : List Word) (rest : List ℕ) → is_name name ≡ true → is_outside (joined (keyword_words export (codes "export") (keyword_words eager (codes "eager") (word Identifier name ∷ ws))) rest) ≡ true
keywords_outside true eager name ws rest is = refl
keywords_outside false true name ws rest is = refl
keywords_outside false false name ws rest is = name_outside name (joined ws rest) is

header_outside : (quiet : Bool) (name : List ℕ) (ws : List Word) (rest : List ℕ) → is_name name ≡ true → is_outside (joined (if_there quiet (word At (codes "@")) (word Identifier name ∷ ws)) rest) ≡ true
header_outside true name ws rest is = refl
header_outside false name ws rest is = name_outside name (joined ws rest) is

header_name : (r : RecipeShape) → is_header_written r ≡ true → is_name r.name ≡ true
header_name r w =
    let a = and_parts (is_name r.name && list_all is_parameter_written r.parameters && list_all is_dependency_written r.priors) (list_all is_dependency_written r.subsequents) w in
    let b = and_parts (is_name r.name && list_all is_parameter_written r.parameters) (list_all is_dependency_written r.priors) a.0 in
    (and_parts (is_name r.name) (list_all is_parameter_written r.parameters) b.0).0

bare_outside : (indentation : List ℕ) (item : ItemShape) (n : ℕ) (after : List Word) (rest : List ℕ) → is_bare_written item ≡ true → is_blank item ≡ false → is_outside (joined (bare_words indentation item n after) rest) ≡ true
bare_outside indentation (alias_item as' a) n after rest w b = refl
bare_outside indentation (assignment_item as' a) n after rest w b = keywords_outside a.export a.eager a.name _ rest (and_parts (is_name a.name) (is_written a.value) w).0
bare_outside indentation (comment_item t) n after rest w b = comment_outside t _ (and_parts (is_lexeme None Comment t) _ w).0
bare_outside indentation (function_item f) n after rest w b = name_outside f.name _ (and_parts (is_name f.name) (are_names f.parameters) (and_parts (is_name f.name && are_names f.parameters) (is_written f.body) w).0).0
bare_outside indentation (import_item i) n after rest w b = refl
bare_outside indentation (module_item as' m) n after rest w b = refl
bare_outside indentation newline_item n after rest w b = absurd cc
bare_outside indentation (recipe_item as' r) n after rest w b = header_outside r.quiet r.name _ rest (header_name r (and_parts (is_header_written r) (is_body_written r.body) w).0)
bare_outside indentation (set_item as' s) n after rest w b = refl
bare_outside indentation (unexport_item name) n after rest w b = refl

attributes_outside : (xs : List AttributeShape) (ws : List Word) (rest : List ℕ) → is_outside (joined ws rest) ≡ true → is_outside (joined (attributes_words xs ws) rest) ≡ true
attributes_outside [] ws rest o = o
attributes_outside (x ∷ xs) ws rest o = refl

item_outside : (indentation : List ℕ) (item : ItemShape) (n : ℕ) (after : List Word) (rest : List ℕ) → is_item_written item ≡ true → is_blank item ≡ false → is_outside (joined (item_words indentation item n after) rest) ≡ true
item_outside indentation item n after rest w b =
    attributes_outside (attributes_of item) (bare_words indentation item n after) rest (bare_outside indentation item n after rest (and_parts (list_all is_attribute_written (attributes_of item)) (is_bare_written item) w).1 b)

-- ---- tokens

module _ (expansion : Expansion) (version : Version) (indentation : List ℕ) where
  -- what is known of items but blank lines
  abbrev Good : Spaced → Type 0
  Good p = (is_blank p.1 ≡ false) × IsPrintedBack expansion version indentation p.1

  words_outside : (ps : List Spaced) → AllOf Good ps → is_outside (joined (spaced_words indentation ps) []) ≡ true
  words_outside [] g = refl
  words_outside ((n, item) ∷ ps) g = item_outside indentation item (lead ps) (spaced_words indentation ps) [] g.0.1.written g.0.0

  words_lex : is_indentation indentation ≡ true → (ps : List Spaced) → AllOf Good ps → Leads (spaced_words indentation ps) [] at_text_end
  words_lex i [] g may = texts_end may
  words_lex i ((n, item) ∷ ps) g may = item_lexed indentation item (lead ps) (spaced_words indentation ps) [] at_text_end i g.0.1.written (words_lex i ps g.1) (words_outside ps g.1) may

-- ---- derivations

pub outdented_blanks : (n : ℕ) (ws : List Word) → Outdented ws → Outdented (blank_words n ws)
unfolding behind_blank
outdented_blanks zero ws o = o
outdented_blanks (suc n) ws o = outdented_blanks n ws o

outdented_word : (k : TokenKind) (t : List ℕ) (ws : List Word) → is_kind k Whitespace ≡ false → is_kind k Eol ≡ false → is_kind k Comment ≡ false → k ≢ Indent → Outdented (word k t ∷ ws)
unfolding behind_blank
outdented_word k t ws w e c i =
    let shown : significant (word k t ∷ ws) ≡ word k t ∷ significant ws = rw w refl in
    let stays : behind_blank (λ (v : Word). v) (word k t ∷ significant ws) ≡ word k t ∷ significant ws = rw (e, c) refl in
    subst (λ vs. Lacks Indent (behind_blank (λ (v : Word). v) vs)) (sym shown) (subst (Lacks Indent) (sym stays) (λ r m. i (first_kind k Indent t m.0 (significant ws) r m.1)))

outdented_comment : (t : List ℕ) (ws : List Word) → Outdented ws → Outdented (word Comment t ∷ newline ∷ ws)
unfolding behind_blank behind_comment
outdented_comment t ws o = o

outdented_name : (words : List Word) (name : List ℕ) (ws : List Word) → words ≡ word Identifier name ∷ ws → Outdented words
outdented_name words name ws e = subst Outdented (sym e) (outdented_word Identifier name ws refl refl refl (λ p. absurd cc))

outdented_keywords : (export eager : Bool) (name : List ℕ) (ws : List Word) → Outdented (keyword_words export (codes "export") (keyword_words eager (codes "eager") (word Identifier name ∷ ws)))
outdented_keywords true eager name ws = outdented_name (keyword_words true (codes "export") (keyword_words eager (codes "eager") (word Identifier name ∷ ws))) (codes "export") _ refl
outdented_keywords false true name ws = outdented_name (keyword_words true (codes "eager") (word Identifier name ∷ ws)) (codes "eager") _ refl
outdented_keywords false false name ws = outdented_name (word Identifier name ∷ ws) name ws refl

outdented_header : (quiet : Bool) (name : List ℕ) (ws : List Word) → Outdented (if_there quiet (word At (codes "@")) (word Identifier name ∷ ws))
outdented_header true name ws = outdented_word At (codes "@") (word Identifier name ∷ ws) refl refl refl (λ p. absurd cc)
outdented_header false name ws = outdented_name (word Identifier name ∷ ws) name ws refl

bare_outdented : (indentation : List ℕ) (item : ItemShape) (n : ℕ) (after : List Word) → Outdented after → Outdented (bare_words indentation item n after)
unfolding behind_blank
bare_outdented indentation (alias_item as' a) n after o = outdented_name (bare_words indentation (alias_item as' a) n after) (codes "alias") _ refl
bare_outdented indentation (assignment_item as' a) n after o = outdented_keywords a.export a.eager a.name (assigned (words_of a.value (newline ∷ blank_words n after)))
bare_outdented indentation (comment_item t) n after o = outdented_comment t (blank_words n after) (outdented_blanks n after o)
bare_outdented indentation (function_item f) n after o = outdented_name (bare_words indentation (function_item f) n after) f.name _ refl
bare_outdented indentation (import_item i) n after o = outdented_name (bare_words indentation (import_item i) n after) (codes "import") _ refl
bare_outdented indentation (module_item as' m) n after o = outdented_name (bare_words indentation (module_item as' m) n after) (codes "mod") _ refl
bare_outdented indentation newline_item n after o = outdented_blanks n after o
bare_outdented indentation (recipe_item as' r) n after o = outdented_header r.quiet r.name (parameters_words r.parameters (word Colon (codes ":") ∷ dependencies_words r.priors (subsequents_words r.subsequents (newline ∷ body_before indentation r.body n (blanks_left r.body n after)))))
bare_outdented indentation (set_item as' s) n after o = outdented_name (bare_words indentation (set_item as' s) n after) (codes "set") _ refl
bare_outdented indentation (unexport_item name) n after o = outdented_name (bare_words indentation (unexport_item name) n after) (codes "unexport") _ refl

attributes_outdented : (xs : List AttributeShape) (ws : List Word) → Outdented ws → Outdented (attributes_words xs ws)
attributes_outdented [] ws o = o
attributes_outdented (x ∷ xs) ws o = outdented_word BracketL (codes "[") (shape_words x (close_bracket ∷ newline ∷ attributes_words xs ws)) refl refl refl (λ p. absurd cc)

words_outdented : (indentation : List ℕ) (ps : List Spaced) → Outdented (spaced_words indentation ps)
words_outdented indentation [] = outdented_word Eof [] [] refl refl refl (λ p. absurd cc)
words_outdented indentation ((n, item) ∷ ps) = attributes_outdented (attributes_of item) (bare_words indentation item (lead ps) (spaced_words indentation ps)) (bare_outdented indentation item (lead ps) (spaced_words indentation ps) (words_outdented indentation ps))

-- so many blank lines, and then other entries
blank_entries : ℕ → List Entry → List Entry
blank_entries zero es = es
blank_entries (suc n) es = (newline_item, 0) ∷ blank_entries n es

-- an item whose body takes the blank lines after it, or else stands before them
entry_before : List (List Piece) → ItemShape → ℕ → List Entry → List Entry
entry_before [] item n es = (item, 0) ∷ blank_entries n es
entry_before (line ∷ lines) item n es = (item, n) ∷ es

entries_of : List Spaced → List Entry
entries_of [] = []
entries_of ((n, item) ∷ ps) = entry_before (body_of item) item (lead ps) (entries_of ps)

items_after : List Spaced → List ItemShape
items_after [] = []
items_after ((n, item) ∷ ps) = item ∷ newlines (lead ps) ++ items_after ps

blank_items : (n : ℕ) (es : List Entry) → items_in (blank_entries n es) ≡ newlines n ++ items_in es
unfolding blank_entries
blank_items zero es = refl
blank_items (suc n) es = ap (λ (is : List ItemShape). newline_item ∷ is) (blank_items n es)

before_items : (body : List (List Piece)) (item : ItemShape) (n : ℕ) (es : List Entry) → items_in (entry_before body item n es) ≡ item ∷ newlines n ++ items_in es
unfolding entry_before
before_items [] item n es = ap (λ (is : List ItemShape). item ∷ is) (blank_items n es)
before_items (line ∷ lines) item n es = refl

entries_items : (ps : List Spaced) → items_in (entries_of ps) ≡ items_after ps
unfolding entries_of items_after
entries_items [] = refl
entries_items ((n, item) ∷ ps) = before_items (body_of item) item (lead ps) (entries_of ps) ∙ ap (λ (is : List ItemShape). item ∷ newlines (lead ps) ++ is) (entries_items ps)

-- the normal shape by items and the blank lines before them
normal_spaced : (b : ℕ) (items : List ItemShape) → normal_after b items ≡ newlines (lead (spaced b items)) ++ items_after (spaced b items)
unfolding normal_after spaced items_after
normal_spaced b [] = refl
normal_spaced b (item ∷ items) =
    elim (test (is_blank item)) [
      | inl h ↦ rw h (normal_spaced (b + 1) items)
      | inr h ↦ rw h (ap (λ (is : List ItemShape). newlines (cut b) ++ item ∷ is) (normal_spaced 0 items))
    ]

module _ (expansion : Expansion) (version : Version) (indentation : List ℕ) where
  blanks_stand : (n : ℕ) (es : List Entry) (ws : List Word) → AreEntries expansion version es (significant ws) → AreEntries expansion version (blank_entries n es) (significant (blank_words n ws))
  unfolding blank_entries
  blanks_stand zero es ws s = s
  blanks_stand (suc n) es ws s = (_, ((codes "\n", refl), refl), blanks_stand n es ws s)

  one_stands : (body : List (List Piece)) (item : ItemShape) (n : ℕ) (es : List Entry) (words ws : List Word) → IsEntry expansion version (item, taken body n) words (significant (blanks_left body n ws)) → AreEntries expansion version es (significant ws)
      → AreEntries expansion version (entry_before body item n es) words
  unfolding entry_before
  one_stands [] item n es words ws i s = (_, i, blanks_stand n es ws s)
  one_stands (line ∷ lines) item n es words ws i s = (_, i, s)

  entries_stand : (ps : List Spaced) → AllOf (Good expansion version indentation) ps → AreEntries expansion version (entries_of ps) (significant (spaced_words indentation ps))
  unfolding entries_of
  entries_stand [] g = (codes "", refl)
  entries_stand ((n, item) ∷ ps) g =
      let ws = spaced_words indentation ps in
      one_stands (body_of item) item (lead ps) (entries_of ps) (significant (item_words indentation item (lead ps) ws)) ws (g.0.1.spelled (lead ps) ws (words_outdented indentation ps)) (entries_stand ps g.1)

  -- ---- the whole

  good_spaced : (b : ℕ) (items : List ItemShape) → ArePrintedBack expansion version indentation items → AllOf (Good expansion version indentation) (spaced b items)
  unfolding spaced
  good_spaced b [] g = tt
  good_spaced b (item ∷ items) g =
      elim (test (is_blank item)) [
        | inl h ↦ rw h (good_spaced (b + 1) items g.1)
        | inr h ↦ rw h ((h, g.0 h), good_spaced 0 items g.1)
      ]

  body_full : (body : List (List Piece)) → is_body_written body ≡ true → starts_full body ≡ true
  body_full [] w = refl
  body_full ([] ∷ lines) w = absurd (grind (arith, w))
  body_full ((p ∷ ps) ∷ lines) w = refl

  full_written : (item : ItemShape) → is_bare_written item ≡ true → is_full item ≡ true
  full_written (alias_item as' a) w = refl
  full_written (assignment_item as' a) w = refl
  full_written (comment_item t) w = refl
  full_written (function_item f) w = refl
  full_written (import_item i) w = refl
  full_written (module_item as' m) w = refl
  full_written newline_item w = refl
  full_written (recipe_item as' r) w = body_full r.body (and_parts (is_header_written r) (is_body_written r.body) w).1
  full_written (set_item as' s) w = refl
  full_written (unexport_item name) w = refl

  blank_full : (item : ItemShape) → is_blank item ≡ true → is_full item ≡ true
  blank_full newline_item b = refl
  blank_full (alias_item as' a) b = absurd cc
  blank_full (assignment_item as' a) b = absurd cc
  blank_full (comment_item t) b = absurd cc
  blank_full (function_item f) b = absurd cc
  blank_full (import_item i) b = absurd cc
  blank_full (module_item as' m) b = absurd cc
  blank_full (recipe_item as' r) b = absurd cc
  blank_full (set_item as' s) b = absurd cc
  blank_full (unexport_item name) b = absurd cc

  all_full : (items : List ItemShape) → ArePrintedBack expansion version indentation items → list_all is_full items ≡ true
  all_full [] g = refl
  all_full (item ∷ items) g =
      elim (test (is_blank item)) [
        | inl h ↦ rw (blank_full item h) (all_full items g.1)
        | inr h ↦ rw (full_written item (and_parts (list_all is_attribute_written (attributes_of item)) (is_bare_written item) (g.0 h).written).1) (all_full items g.1)
      ]

  from_start : (ws : List Word) → LexesFrom (at_line false) ws [] at_text_end → LexesFrom (start []).mode ws [] at_text_end
  from_start [] l = let p = ap (λ (m : Mode). m.line) l.goes in absurd cc
  from_start (w ∷ ws) l = starts_like_a_line w ws [] at_text_end l

  placed_words : (at : Position) (ws : List Word) → map piece_word (placed at ws) ≡ ws
  placed_words at [] = refl
  placed_words at (w ∷ ws) = ap (λ (vs : List Word). w ∷ vs) (placed_words (moved at w.kind w.text) ws)

  pub file_back : (items : List ItemShape) → is_indentation indentation ≡ true → ArePrintedBack expansion version indentation items → Reads expansion version (file_text indentation items) (normal items)
  file_back items i g =
      let ps = spaced 0 items in
      let good = good_spaced 0 items g in
      let ws = file_words indentation items in
      let lexed = from_start ws (blanks_lexed (lead ps) (spaced_words indentation ps) [] at_text_end (words_lex expansion version indentation i ps good) false) in
      record {
        tokens = placed (start []).at ws;
        lexed = subst (λ t. Lexes t (placed (start []).at ws)) (file_joined_whole indentation items (all_full items g)) (lexes_back ws at_text_end lexed refl);
        derived = subst (λ vs. Derives expansion version vs (normal items)) (sym (placed_words (start []).at ws)) (record {
          entries = blank_entries (lead ps) (entries_of ps);
          behind_mark = significant ws;
          start = inr refl;
          stand = blanks_stand (lead ps) (entries_of ps) (spaced_words indentation ps) (entries_stand ps good);
          whole = normal_spaced 0 items ∙ sym (blank_items (lead ps) (entries_of ps) ∙ ap (λ (is : List ItemShape). newlines (lead ps) ++ is) (entries_items ps));
        });
      }
