-- What the items that a loop has read and the entries that it still reads say together.
use Rattle.std.proofs.Common.{◌≡◌, ℕ, zero, suc, ◌+◌, ◌-◌, ◌<◌, List, [], ◌∷◌, ◌++◌, length, map, replicate, Result, Ok, Err, Option, Some, None, refl, sym, ap, subst, ◌∙◌, inl, inr, arith, append_assoc}
use Rattle.std.proofs.lemmas.List.{append-nil, length-map, map-append}
use Rattle.std.specs.Prelude.{false, is_some, option_map, IfNone, IsSome}
use Rattle.just_text.specs.Tokens.{word_of}
use Rattle.just_text.specs.declared.token.Token.{Token}
use Rattle.just_text.specs.declared.token_kind.TokenKind.TheVariants.{ByteOrderMark, Eof}
use Rattle.tree_items.specs.declared.ast.Item.{Item}
use Rattle.tree_items.specs.declared.ast.Item.TheVariants.{Newline}
use Rattle.tree_items.specs.Files.{ItemShape, item_shape, item_shapes, newline_item}
use Rattle.parse_expressions.specs.declared.fault.Fault.{Fault}
use Rattle.parse_expressions.specs.declared.fault.Fault.TheVariants as faults
use Rattle.parse_expressions.specs.Literals.{Expansion}
use Rattle.parse_expressions.specs.Reading.{◌>>=◌, accept}
use Rattle.parse_expressions.proofs.Shorter.{accept_shorter}
use Rattle.parse_recipes.specs.Laws.{EolsExactly}
use Rattle.parse_attributed_items.specs.Halting.{Halt, HaltsUnless}
use Rattle.parse_attributed_items.specs.Laws.{AttributedExactly}
use Rattle.justfile_syntax.specs.Files.{Entry, items_in, newlines}
use Rattle.justfile_syntax.specs.Reading.{behind_mark, ended, entries_at, entry_at, file_at}
use Rattle.justfile_syntax.specs.Told.{items_read}
use Rattle.justfile_syntax.proofs.EntriesExact.{entry_found}
use Rattle.justfile_syntax.proofs.EntryWords.{entry_shorter}
use Rattle.justfile_syntax.proofs.ItemWords.{binding_count}
use Rattle.semver.specs.declared.Version.{Version}

-- the items that were read, and those of the entries that follow
abbrev pub before : List Item → Result (List Entry) (Halt Token) → Result (List ItemShape) (Halt Token)
before items read = items_read read >>= λ others. Ok (item_shapes items ++ others)

blank_shapes : (n : ℕ) → item_shapes (replicate n Newline) ≡ newlines n
blank_shapes zero = refl
blank_shapes (suc n) = ap (λ (is : List ItemShape). newline_item ∷ is) (blank_shapes n)

shapes_more : (items : List Item) (i : Item) (blanks : ℕ) (others : List ItemShape) → item_shapes items ++ (item_shape i ∷ (newlines blanks ++ others)) ≡ item_shapes (items ++ i ∷ replicate blanks Newline) ++ others
shapes_more items i blanks others =
    let blank = blank_shapes blanks in
    let all : item_shapes (items ++ i ∷ replicate blanks Newline) ≡ item_shapes items ++ item_shape i ∷ newlines blanks = map-append item_shape items (i ∷ replicate blanks Newline) ∙ ap (λ (is : List ItemShape). item_shapes items ++ item_shape i ∷ is) blank in
    rw all (sym (append_assoc (item_shapes items) (item_shape i ∷ newlines blanks) others))

regroup : (items : List Item) (i : Item) (blanks : ℕ) (read : Result (List Entry) (Halt Token)) → before items (read >>= λ es. Ok ((item_shape i, blanks) ∷ es)) ≡ before (items ++ i ∷ replicate blanks Newline) read
regroup items i blanks (Ok es) = ap (λ (is : List ItemShape). Ok is) (shapes_more items i blanks (items_in es))
regroup items i blanks (Err halt) = refl

nothing_before : (items : List Item) (read : Result (List Entry) (Halt Token)) → items ≡ [] → before items read ≡ items_read read
nothing_before items (Ok es) none = rw none refl
nothing_before items (Err halt) none = refl

-- after a byte order mark, if there is one, no more tokens stand than before it
pub record Begun (expansion : Expansion) (current : Version) (ts rest : List Token) (items : List Item) : Type 0 where
  pub fuel : length rest < suc (length ts)
  pub so_far : before items (entries_at word_of expansion current (suc (length ts)) rest) ≡ items_read (file_at word_of expansion current ts)

module _ (expansion : Expansion) (current : Version) where
  pub begun : (ts rest : List Token) (o : Option Token) (items : List Item) → accept word_of ByteOrderMark ts ≡ option_map (λ t. (t, rest)) o → IfNone o (rest ≡ ts) → items ≡ [] → Begun expansion current ts rest items
  unfolding file_at behind_mark
  begun ts rest None items is same none =
      let all : items_read (entries_at word_of expansion current (suc (length ts)) rest) ≡ items_read (file_at word_of expansion current ts) = rw (is, same) refl in
      record { fuel = let e = ap (λ (us : List Token). length us) same in omega (arith, e); so_far = nothing_before items _ none ∙ all }
  begun ts rest (Some t) items is same none =
      let less = accept_shorter word_of ByteOrderMark ts (t, rest) is in
      let all : items_read (entries_at word_of expansion current (suc (length ts)) rest) ≡ items_read (file_at word_of expansion current ts) = rw is refl in
      record { fuel = omega (arith, less); so_far = nothing_before items _ none ∙ all }

  module _ (items : List Item) (n : ℕ) (ts : List Token) (total : Result (List ItemShape) (Halt Token)) (fuel : length ts < n)
      (so_far : before items (entries_at word_of expansion current n ts) ≡ total) where
    next : before items (entries_at word_of expansion current (suc (n - 1)) ts) ≡ total
    next = let k : n ≡ suc (n - 1) = omega arith in subst (λ (m : ℕ). before items (entries_at word_of expansion current m ts) ≡ total) k so_far

    pub no_entry : accept word_of Eof ts ≡ None → (used : Type 0) (e : Fault) → HaltsUnless used e (entry_at word_of expansion current ts) → HaltsUnless used e total
    unfolding entries_at
    no_entry no_end used faults.OutOfMemory h = h
    no_entry no_end used faults.NumbersUsed h = h
    no_entry no_end used (faults.Unexpected found) h = rw (no_end, h) at (sym next)
    no_entry no_end used (faults.Refused token kind) (inl h) = inl (rw (no_end, h) at (sym next))
    no_entry no_end used (faults.Refused token kind) (inr h) = inr (rw (no_end, h) at (sym next))

    pub goes_on : (i : Item) (blanks : ℕ) (rest : List Token) → accept word_of Eof ts ≡ None → entry_at word_of expansion current ts ≡ Ok ((item_shape i, blanks), rest)
        → before (items ++ i ∷ replicate blanks Newline) (entries_at word_of expansion current (n - 1) rest) ≡ total
    unfolding entries_at
    goes_on i blanks rest no_end h = sym (regroup items i blanks (entries_at word_of expansion current (n - 1) rest)) ∙ (rw (no_end, h) at next)

    at_end : (t : Token) (rest : List Token) → accept word_of Eof ts ≡ Some (t, rest) → before items (ended word_of rest) ≡ total
    unfolding entries_at
    at_end t rest h = rw h at next

    pub all_read : (t : Token) (rest : List Token) → accept word_of Eof ts ≡ Some (t, rest) → ended word_of rest ≡ Ok [] → total ≡ Ok (item_shapes items)
    all_read t rest h none = (rw none at (sym (at_end t rest h))) ∙ ap (λ (is : List ItemShape). Ok is) (append-nil (item_shapes items))

    pub more_behind : (t : Token) (rest : List Token) → accept word_of Eof ts ≡ Some (t, rest) → (used : Type 0) (e : Fault) → HaltsUnless ⊥ e (ended word_of rest) → HaltsUnless used e total
    more_behind t rest h used faults.OutOfMemory g = tt
    more_behind t rest h used faults.NumbersUsed g = absurd g
    more_behind t rest h used (faults.Unexpected found) g = rw g at (sym (at_end t rest h))
    more_behind t rest h used (faults.Refused token kind) (inl g) = inl (rw g at (sym (at_end t rest h)))
    more_behind t rest h used (faults.Refused token kind) (inr g) = inr (rw g at (sym (at_end t rest h)))

-- an entry takes a token, and one for each of its bindings
pub entry_fewer : (expansion : Expansion) (current : Version) → EolsExactly word_of → AttributedExactly word_of expansion current → (ts : List Token) (e : Entry) (rest : List Token) → entry_at word_of expansion current ts ≡ Ok (e, rest) → binding_count e.0 + length rest < length ts
entry_fewer expansion current ends attributed ts e rest h =
    let is = entry_found word_of ends expansion current attributed ts (e, rest) h in
    let shorter = entry_shorter expansion current e (map word_of ts) (map word_of rest) is in
    let before = length-map ts word_of in
    let behind = length-map rest word_of in omega (arith, shorter, before, behind)

-- what an option that is not none took
pub taken : (ts : List Token) (o : Option Token) (rest : List Token) → accept word_of Eof ts ≡ option_map (λ t. (t, rest)) o → IsSome o → (t : Token) × (accept word_of Eof ts ≡ Some (t, rest))
taken ts None rest h some = absurd cc
taken ts (Some t) rest h some = (t, h)

-- where no token is taken the file doesn't end, and all stays
pub not_ended : (ts : List Token) (o : Option Token) (rest : List Token) → accept word_of Eof ts ≡ option_map (λ t. (t, rest)) o → IfNone o (rest ≡ ts) → is_some o ≡ false → (accept word_of Eof ts ≡ None) × (rest ≡ ts)
not_ended ts None rest h same none = (h, same)
not_ended ts (Some t) rest h same none = absurd cc
