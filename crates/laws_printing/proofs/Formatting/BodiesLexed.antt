-- The words of printed bodies and of whole items are their tokens.
use Rattle.std.proofs.Common.{◌≡◌, ℕ, zero, suc, Bool, true, false, ◌&&◌, List, [], ◌∷◌, ◌++◌, map, length, None, refl, sym, ap, subst, ◌∙◌, append_assoc}
use Rattle.std.specs.Prelude.{codes, not, ◌||◌, ◌==◌}
use Rattle.std.specs.List.{list_all}
use Rattle.std.proofs.lemmas.Bool.{and_parts}
use Rattle.just_text.specs.Tokens.{Word}
use Rattle.just_text.specs.declared.token_kind.TokenKind.TheVariants.{Comment, Dedent, Indent, InterpolationEnd, InterpolationStart, Text, Whitespace}
use Rattle.just_lexer.specs.declared.mode.Indentation.{Indentation}
use Rattle.just_lexer.specs.Modes.{Mode, indentation_of}
use Rattle.tree_items.specs.Files.{ItemShape, alias_item, assignment_item, comment_item, function_item, import_item, module_item, newline_item, recipe_item, set_item, unexport_item, attributes_of}
use Rattle.tree_items.specs.Lines.{Piece, text, interpolation}
use Rattle.justfile_syntax.specs.Words.{LexesFrom, joined}
use Rattle.justfile_syntax.specs.Fits.{is_lexeme, last_byte, keeps_apart, makes_line_end, at_end}
use Rattle.justfile_syntax.specs.Bodies.{is_indentation}
use Rattle.justfile_syntax.specs.Lines.{at_line}
use Rattle.justfile_syntax.specs.WholeBodies.{Fragment, text as text_fragment, expression as expression_fragment, line_words as fragments_words, lines_words as fragment_lines, body_words as fragment_body, ends_before as fragment_ends, FragmentsFit, shows as fragments_show, shows_first as fragments_show_first, LinesFit}
use Rattle.justfile_syntax.proofs.Lines.{comment_lines, empty_lines}
use Rattle.justfile_syntax.proofs.WholeBodies.{bodies_lex}
use Rattle.justfile_syntax.proofs.Words.{joins_up}
use Rattle.laws_printing.specs.Printing.Words.{word, space, words_of}
use Rattle.laws_printing.specs.Printing.Lexed.{is_written}
use Rattle.laws_printing.specs.Printing.ItemWords.{newline, line_words, lines_words}
use Rattle.laws_printing.specs.Printing.Normal.{blanks, body_before}
use Rattle.laws_printing.proofs.Printing.Lexed.{on_word}
use Rattle.laws_printing.proofs.Printing.LinesLexed.{interpolation_fits}
use Rattle.laws_printing.specs.Formatting.FileWords.{blank_words, blanks_left, bare_words, item_words}
use Rattle.laws_printing.specs.Formatting.ItemsLexed.{is_outside}
use Rattle.laws_printing.specs.Formatting.Written.{ends_before, are_pieces_written, shows, shows_first, is_line_written, is_body_written, is_header_written, is_comment_written, is_attribute_written, is_bare_written, is_item_written}
use Rattle.laws_printing.proofs.Formatting.Appended.{appended}
use Rattle.laws_printing.proofs.Formatting.AttributesLexed.{attributes_lexed}
use Rattle.laws_printing.proofs.Formatting.Fitting.{no_longer}
use Rattle.laws_printing.proofs.Formatting.HeadersLexed.{header_line}
use Rattle.laws_printing.proofs.Formatting.ItemsLexed.{all_so, Leads, blanks_lexed, alias_line, assignment_line, import_line, unexport_line, module_line, function_line, set_line}

-- ---- bodies by their fragments

abbrev fragment : Piece → Fragment
fragment (text t) = text_fragment t
fragment (interpolation e) = expression_fragment (space ∷ words_of e (space ∷ []))

abbrev fragments : List Piece → List Fragment
fragments = map fragment

abbrev all_fragments : List (List Piece) → List (List Fragment)
all_fragments = map fragments

line_is : (ps : List Piece) (rest : List Word) → line_words ps (newline ∷ rest) ≡ fragments_words (fragments ps) ++ rest
line_is [] rest = refl
line_is (text t ∷ ps) rest = ap (λ (ws : List Word). word Text t ∷ ws) (line_is ps rest)
line_is (interpolation e ∷ ps) rest =
    let close : Word = word InterpolationEnd (codes "}}") in
    let others = fragments_words (fragments ps) in
    let inside = appended e (space ∷ []) (close ∷ line_words ps (newline ∷ rest)) ∙ ap (λ (ws : List Word). words_of e (space ∷ []) ++ (close ∷ ws)) (line_is ps rest) in
    ap (λ (ws : List Word). word InterpolationStart (codes "{{") ∷ space ∷ ws) (inside ∙ sym (regrouped (words_of e (space ∷ [])) close others rest))
  where
    regrouped : (a : List Word) (w : Word) (b c : List Word) → ((a ++ w ∷ []) ++ b) ++ c ≡ a ++ (w ∷ (b ++ c))
    regrouped a w b c = simp append_assoc

lines_are : (indentation : List ℕ) (lines : List (List Piece)) (rest : List Word) → lines_words indentation lines rest ≡ fragment_lines indentation (all_fragments lines) ++ (word Dedent [] ∷ rest)
lines_are indentation [] rest = refl
lines_are indentation ([] ∷ lines) rest = ap (λ (ws : List Word). newline ∷ ws) (lines_are indentation lines rest)
lines_are indentation ((p ∷ ps) ∷ lines) rest =
    let others = fragment_lines indentation (all_fragments lines) in
    let line = line_is (p ∷ ps) (lines_words indentation lines rest) ∙ ap (λ (ws : List Word). fragments_words (fragments (p ∷ ps)) ++ ws) (lines_are indentation lines rest) in
    ap (λ (ws : List Word). word Whitespace indentation ∷ ws) (line ∙ sym (append_assoc (fragments_words (fragments (p ∷ ps))) others (word Dedent [] ∷ rest)))

body_is : (indentation : List ℕ) (line : List Piece) (lines : List (List Piece)) (rest : List Word) → (word Indent indentation ∷ line_words line (newline ∷ lines_words indentation lines rest)) ≡ fragment_body indentation (fragments line) (all_fragments lines) ++ rest
body_is indentation line lines rest =
    let others = fragment_lines indentation (all_fragments lines) in
    let whole = line_is line (lines_words indentation lines rest) ∙ ap (λ (ws : List Word). fragments_words (fragments line) ++ ws) (lines_are indentation lines rest) in
    ap (λ (ws : List Word). word Indent indentation ∷ ws) (whole ∙ sym (regrouped (fragments_words (fragments line)) others (word Dedent []) rest))
  where
    regrouped : (a b : List Word) (w : Word) (c : List Word) → (a ++ (b ++ w ∷ [])) ++ c ≡ a ++ (b ++ (w ∷ c))
    regrouped a b w c = simp append_assoc

ends_alike : (t : List ℕ) (ps : List Piece) → fragment_ends t (fragments ps) ≡ ends_before t ps
ends_alike t [] = refl
ends_alike t (text u ∷ ps) = refl
ends_alike t (interpolation e ∷ ps) = refl

fragments_fit : (i : Indentation) (ps : List Piece) → are_pieces_written ps ≡ true → FragmentsFit i (fragments ps)
fragments_fit i [] w = tt
fragments_fit i (text t ∷ ps) w =
    let a = and_parts (is_lexeme None Text t && ends_before t ps) (are_pieces_written ps) w in
    let b = and_parts (is_lexeme None Text t) (ends_before t ps) a.0 in
    ((b.0, ends_alike t ps ∙ b.1), fragments_fit i ps a.1)
fragments_fit i (interpolation e ∷ ps) w =
    let a = and_parts (is_written e) (are_pieces_written ps) w in
    (interpolation_fits i e a.0, fragments_fit i ps a.1)

shows_alike : (ps : List Piece) → fragments_show (fragments ps) ≡ shows ps
shows_alike [] = refl
shows_alike (text t ∷ []) = refl
shows_alike (text t ∷ p ∷ ps) = refl
shows_alike (interpolation e ∷ ps) = refl

shows_first_alike : (ps : List Piece) → fragments_show_first (fragments ps) ≡ shows_first ps
shows_first_alike [] = refl
shows_first_alike (text t ∷ ps) = refl
shows_first_alike (interpolation e ∷ ps) = refl

blanks_fit : (i : Indentation) (n : ℕ) → LinesFit i (all_fragments (blanks n))
blanks_fit i zero = tt
blanks_fit i (suc n) = ((tt, refl), blanks_fit i n)

lines_fit : (i : Indentation) (lines : List (List Piece)) (n : ℕ) → list_all is_line_written lines ≡ true → LinesFit i (all_fragments (lines ++ blanks n))
lines_fit i [] n w = blanks_fit i n
lines_fit i (ps ∷ lines) n w =
    let a = and_parts (is_line_written ps) (list_all is_line_written lines) w in
    let b = and_parts (are_pieces_written ps) (shows ps) a.0 in
    ((fragments_fit i ps b.0, shows_alike ps ∙ b.1), lines_fit i lines n a.1)

-- a body, or blank lines where there is none
body_lexed : (indentation : List ℕ) (body : List (List Piece)) (n : ℕ) (after : List Word) (rest : List ℕ) (to : Mode) → is_indentation indentation ≡ true → is_body_written body ≡ true → Leads after rest to → is_outside (joined after rest) ≡ true
    → LexesFrom (at_line true) (body_before indentation body n (blanks_left body n after)) rest to
body_lexed indentation [] n after rest to i w l o = blanks_lexed n after rest to l true
body_lexed indentation (line ∷ lines) n after rest to i w l o =
    let a = and_parts (are_pieces_written line && shows_first line) (list_all is_line_written lines) w in
    let b = and_parts (are_pieces_written line) (shows_first line) a.0 in
    let k = indentation_of indentation in
    let all = all_fragments (lines ++ blanks n) in
    let body = bodies_lex indentation (fragments line) all (joined after rest) i (fragments_fit k line b.0) (shows_first_alike line ∙ b.1) (lines_fit k lines n a.1) o in
    subst (λ ws. LexesFrom (at_line true) ws rest to) (sym (body_is indentation line (lines ++ blanks n) after)) (joins_up (at_line true) (at_line false) to (fragment_body indentation (fragments line) all) after rest body (l false))

-- ---- comments

or_true : (b : Bool) → (b || true) ≡ true
or_true true = refl
or_true false = refl

comment_line : (may : Bool) (t : List ℕ) (after : List Word) (rest : List ℕ) (to : Mode) → is_comment_written t ≡ true → LexesFrom (at_line may) after rest to → LexesFrom (at_line may) (word Comment t ∷ newline ∷ after) rest to
comment_line may t after rest to w l =
    let a = and_parts (is_lexeme None Comment t) (not (last_byte t == 13)) w in
    let apart : keeps_apart Comment t (codes "\n" ++ joined after rest) ≡ true = all_so (at_end (codes "\n" ++ joined after rest)) (not (makes_line_end t (codes "\n" ++ joined after rest))) (or_true (length (codes "\n" ++ joined after rest) == 0)) (rw (no_longer (last_byte t == 13) a.1) refl) in
    joins_up (at_line may) (at_line may) to (word Comment t ∷ newline ∷ []) after rest (comment_lines may t (codes "\n") (joined after rest) a.0 refl apart) l

-- ---- items

bare_lexed : (indentation : List ℕ) (item : ItemShape) (n : ℕ) (after : List Word) (rest : List ℕ) (to : Mode) → is_indentation indentation ≡ true → is_bare_written item ≡ true → Leads after rest to → is_outside (joined after rest) ≡ true → Leads (bare_words indentation item n after) rest to
bare_lexed indentation (alias_item as' a) n after rest to i w l o may = alias_line may to a (blank_words n after) rest w (blanks_lexed n after rest to l false)
bare_lexed indentation (assignment_item as' a) n after rest to i w l o may = assignment_line may to a (blank_words n after) rest w (blanks_lexed n after rest to l false)
bare_lexed indentation (comment_item t) n after rest to i w l o may = comment_line may t (blank_words n after) rest to w (blanks_lexed n after rest to l may)
bare_lexed indentation (function_item f) n after rest to i w l o may = function_line may to f (blank_words n after) rest w (blanks_lexed n after rest to l false)
bare_lexed indentation (import_item m) n after rest to i w l o may = import_line may to m (blank_words n after) rest w (blanks_lexed n after rest to l false)
bare_lexed indentation (module_item as' m) n after rest to i w l o may = module_line may to m (blank_words n after) rest w (blanks_lexed n after rest to l false)
bare_lexed indentation newline_item n after rest to i w l o may = on_word (at_line may) (at_line may) to newline (blank_words n after) rest (empty_lines may (codes "\n") (joined (blank_words n after) rest) refl) (blanks_lexed n after rest to l may)
bare_lexed indentation (recipe_item as' r) n after rest to i w l o may =
    let a = and_parts (is_header_written r) (is_body_written r.body) w in
    header_line may to r (body_before indentation r.body n (blanks_left r.body n after)) rest a.0 (body_lexed indentation r.body n after rest to i a.1 l o)
bare_lexed indentation (set_item as' s) n after rest to i w l o may = set_line may to s (blank_words n after) rest w (blanks_lexed n after rest to l false)
bare_lexed indentation (unexport_item name) n after rest to i w l o may = unexport_line may to name (blank_words n after) rest w (blanks_lexed n after rest to l false)

pub item_lexed : (indentation : List ℕ) (item : ItemShape) (n : ℕ) (after : List Word) (rest : List ℕ) (to : Mode) → is_indentation indentation ≡ true → is_item_written item ≡ true → Leads after rest to → is_outside (joined after rest) ≡ true → Leads (item_words indentation item n after) rest to
item_lexed indentation item n after rest to i w l o =
    let a = and_parts (list_all is_attribute_written (attributes_of item)) (is_bare_written item) w in
    attributes_lexed to (attributes_of item) (bare_words indentation item n after) rest a.0 (bare_lexed indentation item n after rest to i a.1 l o)
