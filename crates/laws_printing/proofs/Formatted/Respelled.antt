-- Items with their attributes are derived again.
use Rattle.std.proofs.Common.{◌≡◌, ◌≢◌, ℕ, Bool, true, false, ◌&&◌, List, [], ◌∷◌, refl, sym, ap, subst, ◌∙◌}
use Rattle.std.specs.Prelude.{codes, not}
use Rattle.std.specs.List.{list_all, list_any}
use Rattle.std.specs.Str.{trim_end}
use Rattle.std.proofs.lemmas.Bool.{and_parts}
use Rattle.just_text.specs.Tokens.{Word}
use Rattle.just_text.specs.declared.token_kind.TokenKind.{TokenKind}
use Rattle.just_text.specs.declared.token_kind.TokenKind.TheVariants.{At, BracketL, Colon, Comment, Identifier}
use Rattle.tree_attributes.specs.Attributes.{AttributeShape}
use Rattle.tree_attributes.specs.declared.item_kind.ItemKind.{ItemKind}
use Rattle.tree_attributes.specs.Sets.Order.{in_order, sorted}
use Rattle.tree_items.specs.Files.{ItemShape, alias_item, assignment_item, comment_item, function_item, import_item, module_item, newline_item, recipe_item, set_item, unexport_item, attributes_of, is_blank, kind_of as item_kind_of}
use Rattle.tree_items.specs.Lines.{Piece}
use Rattle.tree_items.specs.Printable.{has_return, are_separate, is_closed, is_item_printable}
use Rattle.parse_expressions.specs.Literals.{Expansion}
use Rattle.parse_expressions.specs.Words.{Lacks, significant}
use Rattle.parse_attributes.specs.Lines.{AreAttributes}
use Rattle.parse_attributed_items.specs.Bare.{IsBare}
use Rattle.parse_attributed_items.specs.Fitting.{Fit, may_stand, takes_attributes, with_attributes}
use Rattle.parse_attributed_items.specs.Items.{IsAttributed}
use Rattle.justfile_syntax.specs.Files.{IsEntry}
use Rattle.semver.specs.declared.Version.{Version}
use Rattle.laws_printing.specs.Printing.Words.{word, words_of}
use Rattle.laws_printing.specs.Printing.Attributes.{IsSpelled, attributes_words}
use Rattle.laws_printing.specs.Printing.ItemWords.{newline, if_there, assigned, keyword_words, parameters_words, dependencies_words, subsequents_words}
use Rattle.laws_printing.specs.Printing.Normal.{taken, body_before}
use Rattle.laws_printing.proofs.Printing.Attributes.{lines_again, all_rows}
use Rattle.laws_printing.proofs.Printing.Items.{alias_spelled, assignment_spelled, import_spelled, eol_spelled}
use Rattle.laws_printing.proofs.Printing.MoreItems.{unexport_spelled, module_spelled, function_spelled, set_spelled}
use Rattle.laws_printing.proofs.Printing.Quiet.{first_kind}
use Rattle.laws_printing.proofs.Printing.Recipes.{recipe_spelled}
use Rattle.laws_printing.specs.Formatting.FileWords.{blank_words, blanks_left, bare_words, item_words}
use Rattle.laws_printing.specs.Formatting.Files.{body_of, Outdented, IsRespelled}
use Rattle.laws_printing.specs.Formatting.Written.{is_comment_written}
use Rattle.laws_printing.proofs.Formatting.Fitting.{fit_in_order, order_stays, each_in_order}
use Rattle.laws_printing.proofs.Formatting.Files.{outdented_blanks}

-- a comment is one token, doesn't end in a carriage return, and ends without white space
abbrev pub IsKept : ItemShape → Type 0
IsKept (comment_item t) = (is_comment_written t ≡ true) × (t ≡ trim_end t)
IsKept item = Unit {0}

-- ---- the first word

lacks_word : (k j : TokenKind) (words : List Word) (t : List ℕ) (ws : List Word) → words ≡ word k t ∷ ws → k ≢ j → Lacks j words
lacks_word k j words t ws e d r m = d (first_kind k j t m.0 ws r (sym e ∙ m.1))

lacks_keywords : (j : TokenKind) (export eager : Bool) (name : List ℕ) (ws : List Word) → Identifier ≢ j → Lacks j (significant (keyword_words export (codes "export") (keyword_words eager (codes "eager") (word Identifier name ∷ ws))))
lacks_keywords j true eager name ws d = lacks_word Identifier j (significant (keyword_words true (codes "export") (keyword_words eager (codes "eager") (word Identifier name ∷ ws)))) (codes "export") _ refl d
lacks_keywords j false true name ws d = lacks_word Identifier j (significant (keyword_words true (codes "eager") (word Identifier name ∷ ws))) (codes "eager") _ refl d
lacks_keywords j false false name ws d = lacks_word Identifier j (significant (word Identifier name ∷ ws)) name (significant ws) refl d

lacks_header : (j : TokenKind) (quiet : Bool) (name : List ℕ) (ws : List Word) → Identifier ≢ j → At ≢ j → Lacks j (significant (if_there quiet (word At (codes "@")) (word Identifier name ∷ ws)))
lacks_header j true name ws d e = lacks_word At j (significant (word At (codes "@") ∷ word Identifier name ∷ ws)) (codes "@") _ refl e
lacks_header j false name ws d e = lacks_word Identifier j (significant (word Identifier name ∷ ws)) name (significant ws) refl d

abbrev is_comment : ItemShape → Bool
is_comment (comment_item t) = true
is_comment item = false

lacks_first : (j : TokenKind) (indentation : List ℕ) (item : ItemShape) (n : ℕ) (after : List Word) → Identifier ≢ j → At ≢ j → (is_comment item ≡ true → Comment ≢ j) → is_blank item ≡ false → Lacks j (significant (bare_words indentation item n after))
lacks_first j indentation (alias_item as' a) n after d e c b = lacks_word Identifier j (significant (bare_words indentation (alias_item as' a) n after)) (codes "alias") _ refl d
lacks_first j indentation (assignment_item as' a) n after d e c b = lacks_keywords j a.export a.eager a.name (assigned (words_of a.value (newline ∷ blank_words n after))) d
lacks_first j indentation (comment_item t) n after d e c b = lacks_word Comment j (significant (bare_words indentation (comment_item t) n after)) t _ refl (c refl)
lacks_first j indentation (function_item f) n after d e c b = lacks_word Identifier j (significant (bare_words indentation (function_item f) n after)) f.name _ refl d
lacks_first j indentation (import_item i) n after d e c b = lacks_word Identifier j (significant (bare_words indentation (import_item i) n after)) (codes "import") _ refl d
lacks_first j indentation (module_item as' m) n after d e c b = lacks_word Identifier j (significant (bare_words indentation (module_item as' m) n after)) (codes "mod") _ refl d
lacks_first j indentation newline_item n after d e c b = absurd cc
lacks_first j indentation (recipe_item as' r) n after d e c b =
    lacks_header j r.quiet r.name (parameters_words r.parameters (word Colon (codes ":") ∷ dependencies_words r.priors (subsequents_words r.subsequents (newline ∷ body_before indentation r.body n (blanks_left r.body n after))))) d e
lacks_first j indentation (set_item as' s) n after d e c b = lacks_word Identifier j (significant (bare_words indentation (set_item as' s) n after)) (codes "set") _ refl d
lacks_first j indentation (unexport_item name) n after d e c b = lacks_word Identifier j (significant (bare_words indentation (unexport_item name) n after)) (codes "unexport") _ refl d

outdented_left : (body : List (List Piece)) (n : ℕ) (after : List Word) → Outdented after → Outdented (blanks_left body n after)
outdented_left [] n after o = outdented_blanks n after o
outdented_left (line ∷ lines) n after o = o

module _ (expansion : Expansion) (version : Version) (indentation : List ℕ) where
  abbrev BareAgain : ItemShape → Type 0
  BareAgain bare = (n : ℕ) (after : List Word) → Outdented after → IsBare expansion version bare (taken (body_of bare) n) (significant (bare_words indentation bare n after)) (significant (blanks_left (body_of bare) n after))

  bare_again : (bare : ItemShape) (blanks : ℕ) (words rest : List Word) → IsBare expansion version bare blanks words rest → is_item_printable bare ≡ true → BareAgain bare
  bare_again (alias_item [] a) blanks words rest i p n after o = (alias_spelled a words rest (blank_words n after) i.0, refl)
  bare_again (alias_item (x ∷ xs) a) blanks words rest i p n after o = absurd i.0
  bare_again (assignment_item [] a) blanks words rest i p n after o = (assignment_spelled expansion a words rest (blank_words n after) i.0, refl)
  bare_again (assignment_item (x ∷ xs) a) blanks words rest i p n after o = absurd i.0
  bare_again (comment_item t) blanks words rest i p n after o = absurd i.0
  bare_again (function_item f) blanks words rest i p n after o = (function_spelled expansion f words rest (blank_words n after) i.0, refl)
  bare_again (import_item m) blanks words rest i p n after o = (import_spelled expansion m words rest (blank_words n after) i.0, refl)
  bare_again (module_item [] m) blanks words rest i p n after o = (module_spelled expansion m words rest (blank_words n after) i.0, refl)
  bare_again (module_item (x ∷ xs) m) blanks words rest i p n after o = absurd i.0
  bare_again newline_item blanks words rest i p n after o = absurd i.0
  bare_again (recipe_item [] r) blanks words rest i p n after o =
      let a = and_parts (not (list_any has_return r.body) && are_separate r.parameters && list_all is_closed r.priors) (list_all is_closed r.subsequents) p in
      let b = and_parts (not (list_any has_return r.body) && are_separate r.parameters) (list_all is_closed r.priors) a.0 in
      let c = and_parts (not (list_any has_return r.body)) (are_separate r.parameters) b.0 in
      recipe_spelled expansion indentation r blanks n words rest (blanks_left r.body n after) i c.1 b.1 a.1 (outdented_left r.body n after o)
  bare_again (recipe_item (x ∷ xs) r) blanks words rest i p n after o = absurd i.0
  bare_again (set_item [] s) blanks words rest i p n after o = (set_spelled expansion version s words rest (blank_words n after) i.0, refl)
  bare_again (set_item (x ∷ xs) s) blanks words rest i p n after o = absurd i.0
  bare_again (unexport_item name) blanks words rest i p n after o = (unexport_spelled name words rest (blank_words n after) i.0, refl)

  attributed : (bare : ItemShape) (as' : List AttributeShape) (words behind : List Word) (k : ℕ) (ws vs : List Word) → AreAttributes expansion as' words behind → Fit expansion as' bare → IsBare expansion version bare k (significant ws) (significant vs)
      → Lacks Comment (significant ws) → Lacks BracketL (significant ws) → IsAttributed expansion version (with_attributes (in_order as') bare) k (significant (attributes_words (in_order as') ws)) (significant vs)
  attributed bare as' words behind k ws vs lines fit is c b = record {
    attributes = in_order as';
    bare = bare;
    behind = significant ws;
    lines = lines_again expansion (in_order as') ws (each_in_order (IsSpelled expansion) as' (all_rows expansion as' words behind lines)) c b;
    item = is;
    fit = fit_in_order expansion as' bare fit;
    whole = ap (λ xs. with_attributes xs bare) (sym (order_stays as'));
  }

  abbrev Again : ItemShape → Type 0
  Again item = (n : ℕ) (after : List Word) → Outdented after → IsAttributed expansion version item (taken (body_of item) n) (significant (item_words indentation item n after)) (significant (blanks_left (body_of item) n after))

  -- an item that takes no attributes has none
  none_stand : (as' : List AttributeShape) (kind : ItemKind) → may_stand as' kind ≡ true → takes_attributes kind ≡ false → as' ≡ []
  none_stand [] kind h t = refl
  none_stand (x ∷ xs) kind h t = absurd cc

  none_in_order : (as' : List AttributeShape) → as' ≡ [] → in_order as' ≡ []
  unfolding sorted
  none_in_order as' e = rw e refl

  no_comment : (bare : ItemShape) (n : ℕ) (after : List Word) → is_blank bare ≡ false → is_comment bare ≡ false → Lacks Comment (significant (bare_words indentation bare n after))
  no_comment bare n after b c = lacks_first Comment indentation bare n after (λ p. absurd cc) (λ p. absurd cc) (λ t. absurd cc) b

  no_bracket : (bare : ItemShape) (n : ℕ) (after : List Word) → is_blank bare ≡ false → Lacks BracketL (significant (bare_words indentation bare n after))
  no_bracket bare n after b = lacks_first BracketL indentation bare n after (λ p. absurd cc) (λ p. absurd cc) (λ t p. absurd cc) b

  -- an item that takes none
  unadorned : (bare : ItemShape) (as' : List AttributeShape) (words behind rest : List Word) (blanks : ℕ) → AreAttributes expansion as' words behind → IsBare expansion version bare blanks behind rest → Fit expansion as' bare → is_item_printable bare ≡ true
      → takes_attributes (item_kind_of bare) ≡ false → attributes_of bare ≡ [] → is_blank bare ≡ false → is_comment bare ≡ false → with_attributes [] bare ≡ bare → Again (with_attributes (in_order as') bare)
  unadorned bare as' words behind rest blanks lines i fit p t a b c w =
      let empty : in_order as' ≡ [] = none_in_order as' (none_stand as' (item_kind_of bare) fit.stand t) in
      let same : with_attributes (in_order as') bare ≡ bare = ap (λ xs. with_attributes xs bare) empty ∙ w in
      subst Again (sym same) (λ n after o.
      let ws = bare_words indentation bare n after in
      let vs = blanks_left (body_of bare) n after in
      let one = attributed bare as' words behind (taken (body_of bare) n) ws vs lines fit (bare_again bare blanks behind rest i p n after o) (no_comment bare n after b c) (no_bracket bare n after b) in
      let two = subst (λ x. IsAttributed expansion version x (taken (body_of bare) n) (significant (attributes_words (in_order as') ws)) (significant vs)) same one in
      subst (λ xs. IsAttributed expansion version bare (taken (body_of bare) n) (significant (attributes_words xs ws)) (significant vs)) (empty ∙ sym a) two)

  by_bare : (bare : ItemShape) (as' : List AttributeShape) (words behind rest : List Word) (blanks : ℕ) → AreAttributes expansion as' words behind → IsBare expansion version bare blanks behind rest → Fit expansion as' bare → is_item_printable bare ≡ true → Again (with_attributes (in_order as') bare)
  by_bare (alias_item [] a) as' words behind rest blanks lines i fit p n after o =
      let bare = alias_item [] a in
      attributed bare as' words behind (taken (body_of bare) n) (bare_words indentation bare n after) (blanks_left (body_of bare) n after) lines fit (bare_again bare blanks behind rest i p n after o) (no_comment bare n after refl refl) (no_bracket bare n after refl)
  by_bare (assignment_item [] a) as' words behind rest blanks lines i fit p n after o =
      let bare = assignment_item [] a in
      attributed bare as' words behind (taken (body_of bare) n) (bare_words indentation bare n after) (blanks_left (body_of bare) n after) lines fit (bare_again bare blanks behind rest i p n after o) (no_comment bare n after refl refl) (no_bracket bare n after refl)
  by_bare (module_item [] m) as' words behind rest blanks lines i fit p n after o =
      let bare = module_item [] m in
      attributed bare as' words behind (taken (body_of bare) n) (bare_words indentation bare n after) (blanks_left (body_of bare) n after) lines fit (bare_again bare blanks behind rest i p n after o) (no_comment bare n after refl refl) (no_bracket bare n after refl)
  by_bare (recipe_item [] r) as' words behind rest blanks lines i fit p n after o =
      let bare = recipe_item [] r in
      attributed bare as' words behind (taken (body_of bare) n) (bare_words indentation bare n after) (blanks_left (body_of bare) n after) lines fit (bare_again bare blanks behind rest i p n after o) (no_comment bare n after refl refl) (no_bracket bare n after refl)
  by_bare (set_item [] s) as' words behind rest blanks lines i fit p n after o =
      let bare = set_item [] s in
      attributed bare as' words behind (taken (body_of bare) n) (bare_words indentation bare n after) (blanks_left (body_of bare) n after) lines fit (bare_again bare blanks behind rest i p n after o) (no_comment bare n after refl refl) (no_bracket bare n after refl)
  by_bare (function_item f) as' words behind rest blanks lines i fit p n after o = unadorned (function_item f) as' words behind rest blanks lines i fit p refl refl refl refl refl n after o
  by_bare (import_item m) as' words behind rest blanks lines i fit p n after o = unadorned (import_item m) as' words behind rest blanks lines i fit p refl refl refl refl refl n after o
  by_bare (unexport_item name) as' words behind rest blanks lines i fit p n after o = unadorned (unexport_item name) as' words behind rest blanks lines i fit p refl refl refl refl refl n after o
  by_bare (alias_item (x ∷ xs) a) as' words behind rest blanks lines i fit p n after o = absurd i.0
  by_bare (assignment_item (x ∷ xs) a) as' words behind rest blanks lines i fit p n after o = absurd i.0
  by_bare (comment_item t) as' words behind rest blanks lines i fit p n after o = absurd i.0
  by_bare (module_item (x ∷ xs) m) as' words behind rest blanks lines i fit p n after o = absurd i.0
  by_bare newline_item as' words behind rest blanks lines i fit p n after o = absurd i.0
  by_bare (recipe_item (x ∷ xs) r) as' words behind rest blanks lines i fit p n after o = absurd i.0
  by_bare (set_item (x ∷ xs) s) as' words behind rest blanks lines i fit p n after o = absurd i.0

  printable_bare : (xs : List AttributeShape) (bare : ItemShape) → is_item_printable (with_attributes xs bare) ≡ true → is_item_printable bare ≡ true
  printable_bare xs (alias_item as' a) p = refl
  printable_bare xs (assignment_item as' a) p = refl
  printable_bare xs (comment_item t) p = refl
  printable_bare xs (function_item f) p = refl
  printable_bare xs (import_item m) p = refl
  printable_bare xs (module_item as' m) p = refl
  printable_bare xs newline_item p = refl
  printable_bare xs (recipe_item as' r) p = p
  printable_bare xs (set_item as' s) p = refl
  printable_bare xs (unexport_item name) p = refl

  attributed_again : (item : ItemShape) (blanks : ℕ) (words rest : List Word) → IsAttributed expansion version item blanks words rest → is_item_printable item ≡ true → Again item
  attributed_again item blanks words rest i p =
      subst Again (sym i.whole) (by_bare i.bare i.attributes words i.behind rest blanks i.lines i.item i.fit (printable_bare (in_order i.attributes) i.bare (subst (λ x. is_item_printable x ≡ true) i.whole p)))

  -- a comment that ends without white space
  comment_again : (t : List ℕ) → t ≡ trim_end t → IsRespelled expansion version indentation (comment_item t)
  comment_again t e n after o = ((t, _, refl, eol_spelled (blank_words n after), e), refl)

  pub respelled : (item : ItemShape) (blanks : ℕ) (words rest : List Word) → IsEntry expansion version (item, blanks) words rest → is_item_printable item ≡ true → IsKept item → is_blank item ≡ false → IsRespelled expansion version indentation item
  respelled (alias_item as' a) blanks words rest i p k b = attributed_again (alias_item as' a) blanks words rest i p
  respelled (assignment_item as' a) blanks words rest i p k b = attributed_again (assignment_item as' a) blanks words rest i p
  respelled (comment_item t) blanks words rest i p k b = comment_again t k.1
  respelled (function_item f) blanks words rest i p k b = attributed_again (function_item f) blanks words rest i p
  respelled (import_item m) blanks words rest i p k b = attributed_again (import_item m) blanks words rest i p
  respelled (module_item as' m) blanks words rest i p k b = attributed_again (module_item as' m) blanks words rest i p
  respelled newline_item blanks words rest i p k b = absurd cc
  respelled (recipe_item as' r) blanks words rest i p k b = attributed_again (recipe_item as' r) blanks words rest i p
  respelled (set_item as' s) blanks words rest i p k b = attributed_again (set_item as' s) blanks words rest i p
  respelled (unexport_item name) blanks words rest i p k b = attributed_again (unexport_item name) blanks words rest i p
