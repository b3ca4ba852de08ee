-- One turn of the loop in `unescape`.
use Rattle.std.proofs.Common.{◌≡◌, ℕ, ◌+◌, ◌*◌, ◌-◌, ◌^◌, ◌<◌, ◌≤◌, List, [], ◌∷◌, ◌++◌, length, take, IsUtf8, refl, sym, ap, ◌∙◌, append_assoc, length-append, pow_mono, arith}
use Rattle.std.specs.Prelude.{Result, Ok, Err}
use Rattle.std.specs.Char.{encode_utf8}
use Rattle.std.specs.Str.{chars, encode_utf8_all, IsCharBoundary}
use Rattle.std.proofs.lemmas.Str.{chars_past_char, chars-nil, encodes-append, IsCharBoundary-at_seam}
use Rattle.std.proofs.lemmas.List.{append-nil, take_rest}
use Rattle.std.proofs.lemmas.Nat.{pow-add}
use Rattle.std.proofs.Math.Seq.{take-append_seam}
use Rattle.tree_expressions.specs.Answering.{Answers, IsRefusal}
use Rattle.just_text.specs.declared.compile_error.CompileErrorKind.{CompileErrorKind}
use Rattle.just_text.specs.declared.compile_error.CompileErrorKind.TheVariants.{InvalidEscapeSequence, OutOfMemory}
use Rattle.tree_expressions.specs.declared.escapes.Escape.{Escape}
use Rattle.tree_expressions.specs.declared.escapes.Escape.TheVariants.{Outside}
use Rattle.tree_expressions.specs.declared.escapes.Step.{Step}
use Rattle.tree_expressions.specs.declared.escapes.Step.TheVariants.{Adds, Skips, Reads, Breaks}
use Rattle.tree_expressions.specs.Escaping.{IsDigits, IsPlace, turn, onto, at_end, goes_on, unescaped_from, encoded, unescaped}

pub digits_small : (count value : ℕ) → IsDigits count value → count < 6 → value < 2 ^ 20
digits_small count value h few =
    let wide : 4 * count ≤ 20 = omega arith in
    let le : 2 ^ (4 * count) ≤ 2 ^ 20 = pow_mono wide in omega (arith, h.small, le)

pub digits_more : (count value digit : ℕ) → IsDigits count value → count < 6 → digit < 16 → IsDigits (count + 1) (value * 16 + digit)
digits_more count value digit h few small =
    let wide : 4 * (count + 1) ≡ 4 * count + 4 = omega arith in
    let power : 2 ^ (4 * (count + 1)) ≡ 2 ^ (4 * count) * 16 = ap (λ n. 2 ^ n) wide ∙ pow-add 2 (4 * count) 4 in
    record { few = omega arith; small = omega (arith, h.small, power) }

-- the bytes so far, and what the rest stands for
abbrev pub with_front : List ℕ → Result (List ℕ) (List ℕ) → Result (List ℕ) CompileErrorKind
with_front front (Ok cs) = Ok (front ++ encode_utf8_all cs)
with_front front (Err bad) = Err (InvalidEscapeSequence (encode_utf8_all bad))

pub record ReadSoFar (front : List ℕ) (escape : Escape) (begun rest : List ℕ) (total : Result (List ℕ) CompileErrorKind) : Type 0 where
  pub read : List ℕ
  pub place : IsPlace escape
  pub utf8 : IsUtf8 rest
  pub begins : begun ≡ encode_utf8_all read ++ rest
  pub so_far : with_front front (unescaped_from escape read (chars rest)) ≡ total

front_nil : (r : Result (List ℕ) (List ℕ)) → with_front [] r ≡ encoded r
front_nil (Ok cs) = refl
front_nil (Err bad) = refl

pub starts : (text : List ℕ) → IsUtf8 text → ReadSoFar [] Outside text text (unescaped text)
unfolding unescaped
starts text utf8 = record { read = []; place = tt; utf8 = utf8; begins = refl; so_far = front_nil (unescaped_from Outside [] (chars text)) }

one_turn : (escape : Escape) (read rest after : List ℕ) (c : ℕ) (step : Step) → chars rest ≡ c ∷ chars after → turn escape c ≡ step → unescaped_from escape read (chars rest) ≡ goes_on step (read ++ c ∷ []) (λ next begun. unescaped_from next begun (chars after))
unfolding unescaped_from
one_turn escape read rest after c step cons e = rw (cons, e) refl

read_more : (read rest after : List ℕ) (c : ℕ) → rest ≡ encode_utf8 c ++ after → encode_utf8_all read ++ rest ≡ encode_utf8_all (read ++ c ∷ []) ++ after
read_more read rest after c e =
    let more : encode_utf8_all (read ++ c ∷ []) ≡ encode_utf8_all read ++ encode_utf8 c = encodes-append read (c ∷ []) ∙ ap (λ x. encode_utf8_all read ++ x) (append-nil (encode_utf8 c)) in
    rw (e, more) (sym (append_assoc (encode_utf8_all read) (encode_utf8 c) after))

pub reads : (front : List ℕ) (escape next : Escape) (begun rest after : List ℕ) (c : ℕ) (total : Result (List ℕ) CompileErrorKind) → rest ≡ encode_utf8 c ++ after → IsUtf8 after → turn escape c ≡ Reads next → IsPlace next
    → ReadSoFar front escape begun rest total → ReadSoFar front next begun after total
reads front escape next begun rest after c total split utf8 e place before =
    record {
      read = before.read ++ c ∷ [];
      place = place;
      utf8 = utf8;
      begins = before.begins ∙ read_more before.read rest after c split;
      so_far = sym (ap (with_front front) (one_turn escape before.read rest after c (Reads next) (chars_past_char rest after c before.utf8 split) e)) ∙ before.so_far;
    }

pub skips : (front : List ℕ) (escape : Escape) (begun rest after : List ℕ) (c : ℕ) (total : Result (List ℕ) CompileErrorKind) → rest ≡ encode_utf8 c ++ after → IsUtf8 after → turn escape c ≡ Skips
    → ReadSoFar front escape begun rest total → ReadSoFar front Outside after after total
skips front escape begun rest after c total split utf8 e before =
    record {
      read = [];
      place = tt;
      utf8 = utf8;
      begins = refl;
      so_far = sym (ap (with_front front) (one_turn escape before.read rest after c Skips (chars_past_char rest after c before.utf8 split) e)) ∙ before.so_far;
    }

onto_front : (front : List ℕ) (d : ℕ) (r : Result (List ℕ) (List ℕ)) → with_front (front ++ encode_utf8 d) r ≡ with_front front (onto d r)
onto_front front d (Ok cs) = ap Ok (append_assoc front (encode_utf8 d) (encode_utf8_all cs))
onto_front front d (Err bad) = refl

pub adds : (front : List ℕ) (escape : Escape) (begun rest after : List ℕ) (c d : ℕ) (total : Result (List ℕ) CompileErrorKind) → rest ≡ encode_utf8 c ++ after → IsUtf8 after → turn escape c ≡ Adds d
    → ReadSoFar front escape begun rest total → ReadSoFar (front ++ encode_utf8 d) Outside after after total
adds front escape begun rest after c d total split utf8 e before =
    record {
      read = [];
      place = tt;
      utf8 = utf8;
      begins = refl;
      so_far = onto_front front d (unescaped_from Outside [] (chars after))
          ∙ sym (ap (with_front front) (one_turn escape before.read rest after c (Adds d) (chars_past_char rest after c before.utf8 split) e)) ∙ before.so_far;
    }

-- the text that was read of an escape
cut_rest : (text read rest : List ℕ) → text ≡ read ++ rest → take (length text - length rest) text ≡ read
cut_rest text read rest e =
    let long : length text - length rest ≡ length read = omega (arith, ap length e, length-append read rest) in
    rw (long, e) (take-append_seam read rest)

pub refused_boundary : (text read rest : List ℕ) → text ≡ encode_utf8_all read ++ rest → IsUtf8 rest → IsCharBoundary text (length text - length rest)
refused_boundary text read rest e utf8 =
    let long : length text - length rest ≡ length (encode_utf8_all read) = omega (arith, ap length e, length-append (encode_utf8_all read) rest) in
    rw long (IsCharBoundary-at_seam text (encode_utf8_all read) rest e utf8)

pub breaks : (front : List ℕ) (escape : Escape) (begun rest after : List ℕ) (c : ℕ) (total : Result (List ℕ) CompileErrorKind) → rest ≡ encode_utf8 c ++ after → IsUtf8 after → turn escape c ≡ Breaks
    → ReadSoFar front escape begun rest total → total ≡ Err (InvalidEscapeSequence (take (length begun - length after) begun))
breaks front escape begun rest after c total split utf8 e before =
    let split_at : begun ≡ encode_utf8_all (before.read ++ c ∷ []) ++ after = before.begins ∙ read_more before.read rest after c split in
    sym before.so_far ∙ ap (with_front front) (one_turn escape before.read rest after c Breaks (chars_past_char rest after c before.utf8 split) e)
    ∙ sym (ap (λ bad. Err (InvalidEscapeSequence bad)) (cut_rest begun (encode_utf8_all (before.read ++ c ∷ [])) after split_at))

-- the text may be cut there
pub breaks_at : (front : List ℕ) (escape : Escape) (begun rest after : List ℕ) (c : ℕ) (total : Result (List ℕ) CompileErrorKind) → rest ≡ encode_utf8 c ++ after → IsUtf8 after
    → ReadSoFar front escape begun rest total → IsCharBoundary begun (length begun - length after)
breaks_at front escape begun rest after c total split utf8 before =
    refused_boundary begun (before.read ++ c ∷ []) after (before.begins ∙ read_more before.read rest after c split) utf8

pub refused : (total : Result (List ℕ) CompileErrorKind) (bad : List ℕ) (kind : CompileErrorKind) → total ≡ Err (InvalidEscapeSequence bad) → IsRefusal bad kind → Answers total (Err kind)
refused total bad OutOfMemory e is = tt
refused total bad kind e is = e ∙ ap Err (sym is)

over : (front : List ℕ) (escape : Escape) (begun rest : List ℕ) (total : Result (List ℕ) CompileErrorKind) → rest ≡ [] → (before : ReadSoFar front escape begun rest total) → total ≡ with_front front (at_end escape before.read)
unfolding unescaped_from
over front escape begun rest total nothing before =
    let one : unescaped_from escape before.read (chars rest) ≡ at_end escape before.read = rw (nothing, chars-nil) refl in
    sym before.so_far ∙ ap (with_front front) one

pub ends : (front : List ℕ) (escape : Escape) (begun rest : List ℕ) (total : Result (List ℕ) CompileErrorKind) → rest ≡ [] → escape ≡ Outside → ReadSoFar front escape begun rest total → total ≡ Ok front
ends front escape begun rest total nothing outside before =
    over front escape begun rest total nothing before ∙ ap (λ e. with_front front (at_end e before.read)) outside ∙ ap Ok (append-nil front)

unfinished : (escape : Escape) (read : List ℕ) → (escape ≡ Outside → ⊥) → at_end escape read ≡ Err read
unfinished Outside read h = absurd (h refl)
unfinished escape read h = refl

-- an escape that is begun is refused, up to the end
pub ends_inside : (front : List ℕ) (escape : Escape) (begun rest : List ℕ) (total : Result (List ℕ) CompileErrorKind) → rest ≡ [] → (escape ≡ Outside → ⊥) → ReadSoFar front escape begun rest total
    → total ≡ Err (InvalidEscapeSequence (take (length begun - 0) begun))
ends_inside front escape begun rest total nothing inside before =
    let whole : begun ≡ encode_utf8_all before.read = before.begins ∙ rw nothing (append-nil (encode_utf8_all before.read)) in
    over front escape begun rest total nothing before ∙ ap (with_front front) (unfinished escape before.read inside)
    ∙ ap (λ bad. Err (InvalidEscapeSequence bad)) (sym whole ∙ sym (take_rest begun 0))
