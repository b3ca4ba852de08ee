-- What a text says is printed so that it is read again.
use Rattle.std.proofs.Common.{◌≡◌, ℕ, zero, suc, true, false, ◌&&◌, List, [], ◌∷◌, ◌++◌, map, refl, sym, ap, subst, ◌∙◌, inl, inr}
use Rattle.std.specs.Prelude.{not}
use Rattle.std.specs.Str.{IsUtf8}
use Rattle.std.specs.List.{list_all, list_any}
use Rattle.std.proofs.lemmas.Bool.{and_parts}
use Rattle.just_text.specs.Tokens.{Word}
use Rattle.just_text.specs.declared.token_kind.TokenKind.TheVariants.{ByteOrderMark, Comment}
use Rattle.just_lexer.specs.Lexes.{piece_word, start}
use Rattle.just_lexer.specs.Modes.{open_after}
use Rattle.tree_attributes.specs.Attributes.{AttributeShape}
use Rattle.tree_attributes.specs.Sets.Order.{in_order}
use Rattle.tree_items.specs.Files.{ItemShape, alias_item, assignment_item, comment_item, function_item, import_item, module_item, newline_item, recipe_item, set_item, unexport_item, is_blank, file_text}
use Rattle.tree_items.specs.Printable.{has_return, are_separate, is_closed, is_item_printable, printable}
use Rattle.tree_items.specs.Recipes.{RecipeShape}
use Rattle.parse_expressions.specs.Literals.{Expansion}
use Rattle.parse_expressions.specs.Words.{significant}
use Rattle.parse_attributed_items.specs.Bare.{IsBare}
use Rattle.parse_attributed_items.specs.Fitting.{with_attributes}
use Rattle.parse_attributed_items.specs.Items.{IsAttributed}
use Rattle.parse_recipes.specs.Headers.{IsRecipe}
use Rattle.justfile_syntax.specs.Bodies.{is_indentation}
use Rattle.justfile_syntax.specs.Files.{Entry, newlines, items_in, IsStart, IsEntry, AreEntries}
use Rattle.justfile_syntax.specs.Laws.{SaysAtMostOne}
use Rattle.justfile_syntax.specs.Reads.{Reads}
use Rattle.semver.specs.declared.Version.{Version}
use Rattle.laws_printing.specs.Printing.Attributes.{AllOf}
use Rattle.laws_printing.specs.Printing.Normal.{normal}
use Rattle.laws_printing.proofs.Printing.Held.{is_one}
use Rattle.laws_printing.proofs.Printing.Normal.{prints_alike}
use Rattle.laws_printing.specs.Formatting.Files.{IsPrintedBack}
use Rattle.laws_printing.specs.Formatted.Formatted.{EqualTexts}
use Rattle.laws_printing.specs.Formatting.Written.{is_name, is_parameter_written, is_dependency_written, is_header_written, is_body_written, is_attribute_written, is_bare_written, is_item_written}
use Rattle.laws_printing.proofs.Formatted.Comments.{comment_in, comment_kept}
use Rattle.laws_printing.proofs.Formatting.Files.{file_back}
use Rattle.laws_printing.proofs.Formatting.Fitting.{each_in_order, no_longer}
use Rattle.laws_printing.proofs.Formatting.ItemsLexed.{all_so}
use Rattle.laws_printing.proofs.Formatted.Respelled.{IsKept, respelled}
use Rattle.laws_printing.proofs.Formatted.Seen.{Out, out_step}
use Rattle.laws_printing.proofs.Formatted.SourceAttributes.{set_out, attributes_out}
use Rattle.laws_printing.proofs.Formatted.SourceBodies.{body_out}
use Rattle.laws_printing.proofs.Formatted.SourceItems.{step, begun, name_out, colon_out, eol_mark, eol_out, alias_out, unexport_out, assignment_out, import_out, module_out, function_out, parameters_out, dependencies_out, subsequents_out, quiet_out}

module _ (expansion : Expansion) (version : Version) where
  recipe_out : (r : RecipeShape) (blanks : ℕ) (words rest : List Word) → IsRecipe expansion r blanks words rest → Out [] words → list_any has_return r.body ≡ false → Out [] rest × (is_header_written r && is_body_written r.body ≡ true)
  recipe_out r blanks words rest i s none =
      let n = name_out [] r.name i.behind_at i.behind_name i.name (quiet_out expansion r.quiet words i.behind_at i.at s) in
      let ps = parameters_out expansion r.parameters i.behind_name i.behind_parameters i.parameters n.0 in
      let ds = dependencies_out expansion r.priors i.behind_colon i.behind_priors i.priors (colon_out [] i.behind_parameters i.behind_colon i.colon ps.0) in
      let es = subsequents_out expansion r.subsequents i.behind_priors i.behind_subsequents i.subsequents ds.0 in
      let b = body_out expansion r.body blanks i.behind_header rest i.body (eol_out [] i.behind_subsequents i.behind_header i.eol es.0) none in (
        b.0,
        all_so (is_header_written r) (is_body_written r.body)
            (all_so (is_name r.name && list_all is_parameter_written r.parameters && list_all is_dependency_written r.priors) (list_all is_dependency_written r.subsequents) (all_so (is_name r.name && list_all is_parameter_written r.parameters) (list_all is_dependency_written r.priors) (all_so (is_name r.name) (list_all is_parameter_written r.parameters) n.1 ps.1) ds.1) es.1) b.1,
      )

  no_return : (as' : List AttributeShape) (r : RecipeShape) → is_item_printable (recipe_item as' r) ≡ true → list_any has_return r.body ≡ false
  no_return as' r p =
      let a = and_parts (not (list_any has_return r.body) && are_separate r.parameters && list_all is_closed r.priors) (list_all is_closed r.subsequents) p in
      let b = and_parts (not (list_any has_return r.body) && are_separate r.parameters) (list_all is_closed r.priors) a.0 in
      no_longer (list_any has_return r.body) (and_parts (not (list_any has_return r.body)) (are_separate r.parameters) b.0).0

  bare_out : (bare : ItemShape) (blanks : ℕ) (words rest : List Word) → IsBare expansion version bare blanks words rest → Out [] words → is_item_printable bare ≡ true → Out [] rest × (is_bare_written bare ≡ true)
  bare_out (alias_item [] a) blanks words rest i s p = alias_out a words rest i.0 s
  bare_out (assignment_item [] a) blanks words rest i s p = assignment_out expansion a words rest i.0 s
  bare_out (function_item f) blanks words rest i s p = function_out expansion f words rest i.0 s
  bare_out (import_item m) blanks words rest i s p = import_out expansion m words rest i.0 s
  bare_out (module_item [] m) blanks words rest i s p = module_out expansion m words rest i.0 s
  bare_out (recipe_item [] r) blanks words rest i s p = recipe_out r blanks words rest i s (no_return [] r p)
  bare_out (set_item [] t) blanks words rest i s p = set_out expansion version t words rest i.0 s
  bare_out (unexport_item name) blanks words rest i s p = unexport_out name words rest i.0 s
  bare_out (alias_item (x ∷ xs) a) blanks words rest i s p = absurd i.0
  bare_out (assignment_item (x ∷ xs) a) blanks words rest i s p = absurd i.0
  bare_out (comment_item t) blanks words rest i s p = absurd i.0
  bare_out (module_item (x ∷ xs) m) blanks words rest i s p = absurd i.0
  bare_out newline_item blanks words rest i s p = absurd i.0
  bare_out (recipe_item (x ∷ xs) r) blanks words rest i s p = absurd i.0
  bare_out (set_item (x ∷ xs) t) blanks words rest i s p = absurd i.0

  all_written : (xs : List AttributeShape) → AllOf (λ x. is_attribute_written x ≡ true) xs → list_all is_attribute_written xs ≡ true
  all_written [] w = refl
  all_written (x ∷ xs) w = all_so (is_attribute_written x) (list_all is_attribute_written xs) w.0 (all_written xs w.1)

  written_with : (xs : List AttributeShape) (bare : ItemShape) → list_all is_attribute_written xs ≡ true → is_bare_written bare ≡ true → is_item_written (with_attributes xs bare) ≡ true
  written_with xs (alias_item as' a) w b = all_so (list_all is_attribute_written xs) (is_bare_written (alias_item xs a)) w b
  written_with xs (assignment_item as' a) w b = all_so (list_all is_attribute_written xs) (is_bare_written (assignment_item xs a)) w b
  written_with xs (comment_item t) w b = b
  written_with xs (function_item f) w b = b
  written_with xs (import_item m) w b = b
  written_with xs (module_item as' m) w b = all_so (list_all is_attribute_written xs) (is_bare_written (module_item xs m)) w b
  written_with xs newline_item w b = b
  written_with xs (recipe_item as' r) w b = all_so (list_all is_attribute_written xs) (is_bare_written (recipe_item xs r)) w b
  written_with xs (set_item as' t) w b = all_so (list_all is_attribute_written xs) (is_bare_written (set_item xs t)) w b
  written_with xs (unexport_item name) w b = b

  printable_bare : (xs : List AttributeShape) (bare : ItemShape) → is_item_printable (with_attributes xs bare) ≡ true → is_item_printable bare ≡ true
  printable_bare xs (alias_item as' a) p = refl
  printable_bare xs (assignment_item as' a) p = refl
  printable_bare xs (comment_item t) p = refl
  printable_bare xs (function_item f) p = refl
  printable_bare xs (import_item m) p = refl
  printable_bare xs (module_item as' m) p = refl
  printable_bare xs newline_item p = refl
  printable_bare xs (recipe_item as' r) p = p
  printable_bare xs (set_item as' t) p = refl
  printable_bare xs (unexport_item name) p = refl

  attributed_out : (item : ItemShape) (blanks : ℕ) (words rest : List Word) → IsAttributed expansion version item blanks words rest → Out [] words → is_item_printable item ≡ true → Out [] rest × (is_item_written item ≡ true)
  attributed_out item blanks words rest i s p =
      let as' = attributes_out expansion i.attributes words i.behind i.lines s in
      let b = bare_out i.bare blanks i.behind rest i.item as'.0 (printable_bare (in_order i.attributes) i.bare (subst (λ x. is_item_printable x ≡ true) i.whole p)) in
      let ordered = each_in_order (λ x. is_attribute_written x ≡ true) i.attributes as'.1 in
      (b.0, subst (λ x. is_item_written x ≡ true) (sym i.whole) (written_with (in_order i.attributes) i.bare (all_written (in_order i.attributes) ordered) b.1))

  entry_out : (item : ItemShape) (blanks : ℕ) (words rest : List Word) → IsEntry expansion version (item, blanks) words rest → Out [] words → is_item_printable item ≡ true → Out [] rest × (is_item_written item ≡ true) × IsKept item
  entry_out (alias_item as' a) blanks words rest i s p = let r = attributed_out (alias_item as' a) blanks words rest i s p in (r.0, r.1, tt)
  entry_out (assignment_item as' a) blanks words rest i s p = let r = attributed_out (assignment_item as' a) blanks words rest i s p in (r.0, r.1, tt)
  entry_out (comment_item t) blanks words rest i s p =
      let lexeme = is_one Out step [] Comment i.0.0 words i.0.1 refl refl refl i.0.2 s in
      let kept = comment_kept i.0.0 (comment_in i.0.0 i.0.1 (subst (Out []) i.0.2 s) lexeme) lexeme in
      let k : IsKept (comment_item t) = subst (λ x. IsKept (comment_item x)) (sym i.0.4) kept in
      (eol_out [] i.0.1 rest i.0.3 (begun [] Comment i.0.0 words i.0.1 refl i.0.2 s), k.0, k)
  entry_out (function_item f) blanks words rest i s p = let r = attributed_out (function_item f) blanks words rest i s p in (r.0, r.1, tt)
  entry_out (import_item m) blanks words rest i s p = let r = attributed_out (import_item m) blanks words rest i s p in (r.0, r.1, tt)
  entry_out (module_item as' m) blanks words rest i s p = let r = attributed_out (module_item as' m) blanks words rest i s p in (r.0, r.1, tt)
  entry_out newline_item blanks words rest i s p = (eol_mark [] words rest i.0 s, refl, tt)
  entry_out (recipe_item as' r) blanks words rest i s p = let f = attributed_out (recipe_item as' r) blanks words rest i s p in (f.0, f.1, tt)
  entry_out (set_item as' t) blanks words rest i s p = let r = attributed_out (set_item as' t) blanks words rest i s p in (r.0, r.1, tt)
  entry_out (unexport_item name) blanks words rest i s p = let r = attributed_out (unexport_item name) blanks words rest i s p in (r.0, r.1, tt)

  -- ---- files

  abbrev Back : List ℕ → ItemShape → Type 0
  Back indentation item = is_blank item ≡ false → IsPrintedBack expansion version indentation item

  back_blanks : (indentation : List ℕ) (n : ℕ) (items : List ItemShape) → AllOf (Back indentation) items → AllOf (Back indentation) (newlines n ++ items)
  back_blanks indentation zero items b = b
  back_blanks indentation (suc n) items b = ((λ h. absurd cc), back_blanks indentation n items b)

  printable_after : (n : ℕ) (items : List ItemShape) → list_all is_item_printable (newlines n ++ items) ≡ true → list_all is_item_printable items ≡ true
  printable_after zero items p = p
  printable_after (suc n) items p = printable_after n items p

  entries_back : (indentation : List ℕ) (es : List Entry) (words : List Word) → AreEntries expansion version es words → Out [] words → list_all is_item_printable (items_in es) ≡ true → AllOf (Back indentation) (items_in es)
  entries_back indentation [] words is s p = tt
  entries_back indentation ((item, n) ∷ es) words is s p =
      let q = and_parts (is_item_printable item) (list_all is_item_printable (newlines n ++ items_in es)) p in
      let one = entry_out item n words is.0 is.1 s q.0 in
      let others = entries_back indentation es is.0 is.2 one.0 (printable_after n (items_in es) q.1) in
      ((λ b. record { written = one.1; spelled = respelled expansion version indentation item n words is.0 is.1 q.0 one.2 b }), back_blanks indentation n (items_in es) others)

  mark_keeps : (x : List ℕ) → open_after [] ByteOrderMark x ≡ []
  unfolding open_after
  mark_keeps x = refl

  start_out : (words rest : List Word) → IsStart words rest → Out [] words → Out [] rest
  start_out words rest (inl m) s = subst (λ os. Out os rest) (mark_keeps m.0) (out_step [] (record { kind = ByteOrderMark; text = m.0 }) rest (subst (Out []) m.1 s) refl).1
  start_out words rest (inr e) s = subst (Out []) e s

  pub prints_back : (indentation text : List ℕ) (items : List ItemShape) → is_indentation indentation ≡ true → IsUtf8 text → Reads expansion version text items → printable items ≡ true → Reads expansion version (file_text indentation items) (normal items)
  prints_back indentation text items i u r p =
      let d = r.derived in
      let first : Out [] (significant (map piece_word r.tokens)) = (start text, refl, refl, (r.tokens, r.lexed.each, refl, ([], u))) in
      let back = entries_back indentation d.entries d.behind_mark d.stand (start_out (significant (map piece_word r.tokens)) d.behind_mark d.start first) (subst (λ is. list_all is_item_printable is ≡ true) d.whole p) in
      file_back expansion version indentation items i (subst (AllOf (Back indentation)) (sym d.whole) back)

  pub equal_texts : SaysAtMostOne → (indentation text other : List ℕ) (xs ys : List ItemShape) → is_indentation indentation ≡ true → IsUtf8 text → IsUtf8 other → Reads expansion version text xs → Reads expansion version other ys → printable xs ≡ true → printable ys ≡ true → EqualTexts indentation xs ys
  equal_texts says indentation text other xs ys i ux uy rx ry px py = record {
    shapes = λ e. says expansion version (file_text indentation ys) (normal xs) (normal ys) (subst (λ t. Reads expansion version t (normal xs)) e (prints_back indentation text xs i ux rx px)) (prints_back indentation other ys i uy ry py);
    texts = λ e. sym (prints_alike indentation xs) ∙ ap (file_text indentation) e ∙ prints_alike indentation ys;
  }
