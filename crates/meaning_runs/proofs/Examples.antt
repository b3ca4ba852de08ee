-- Words of small justfiles, and what they invoke.
use Rattle.std.proofs.Common.{refl}
use Rattle.std.specs.Prelude.{ℕ, List, [], ◌∷◌, Bool, true, false, cond, Option, Some, None, codes}
use Rattle.std.specs.Str.{bytes_eq}
use Rattle.meaning_runs.specs.Words.{Slot, WordMeaning, recipe, Words}
use Rattle.meaning_runs.specs.Invokes.{no_more, one_more, here, Invoke, last, more, BreaksWords, at_first, untaken, incomplete, unknown_option, option_value, argument_count}

abbrev slots_named : List ℕ → List (List ℕ × List Slot) → Option (List Slot)
slots_named name [] = None
slots_named name ((other, slots) ∷ rows) = cond (bytes_eq other name) (Some slots) (slots_named name rows)

abbrev meant : List ℕ → Option (List Slot) → Option (WordMeaning (Unit {0}) (List ℕ))
meant name None = None
meant name (Some slots) = Some (recipe name)

abbrev slots_or_none : Option (List Slot) → List Slot
slots_or_none None = []
slots_or_none (Some slots) = slots

-- recipes of one module, by their names
abbrev words_by : List (List ℕ × List Slot) → Words (Unit {0}) (List ℕ)
words_by rows = record { root = tt; lists = false; meaning = λ here name. meant name (slots_named name rows); default = λ here. None; name = λ name. name; slots = λ name. slots_or_none (slots_named name rows) }

abbrev by_place : Bool → Bool → Slot
by_place variadic required = record { long = None; short = None; takes_value = true; multiple = false; variadic = variadic; required = required }

-- `foo A B='z':` and `bar:`
abbrev foo_and_bar : Words (Unit {0}) (List ℕ)
foo_and_bar = words_by ((codes "foo", by_place false true ∷ by_place false false ∷ []) ∷ (codes "bar", []) ∷ [])

-- a recipe takes as many words as it can, and the next word is another
pub words_in_order : Invoke foo_and_bar (codes "foo" ∷ codes "1" ∷ codes "2" ∷ codes "bar" ∷ []) ((codes "foo", (codes "1" ∷ []) ∷ (codes "2" ∷ []) ∷ []) ∷ (codes "bar", []) ∷ [])
words_in_order =
    more (λ e. refl) (record { behind = codes "1" ∷ codes "2" ∷ codes "bar" ∷ []; end = _; named = refl; taken = one_more refl (one_more refl (no_more refl)); complete = refl; grouped = refl; left = refl })
    (last (λ e. refl) (record { behind = []; end = _; named = refl; taken = no_more refl; complete = refl; grouped = refl; left = refl }))

-- `FOO A B='blarg':`, `BAR X:` and `BAZ +Z:`
abbrev three : Words (Unit {0}) (List ℕ)
three = words_by ((codes "FOO", by_place false true ∷ by_place false false ∷ []) ∷ (codes "BAR", by_place false true ∷ []) ∷ (codes "BAZ", by_place true true ∷ []) ∷ [])

-- a variadic parameter takes all that remain
pub words_that_remain : Invoke three (codes "BAR" ∷ codes "0" ∷ codes "FOO" ∷ codes "1" ∷ codes "2" ∷ codes "BAZ" ∷ codes "3" ∷ codes "4" ∷ codes "5" ∷ [])
    ((codes "BAR", (codes "0" ∷ []) ∷ []) ∷ (codes "FOO", (codes "1" ∷ []) ∷ (codes "2" ∷ []) ∷ []) ∷ (codes "BAZ", (codes "3" ∷ codes "4" ∷ codes "5" ∷ []) ∷ []) ∷ [])
words_that_remain =
    more (λ e. refl) (record { behind = _; end = _; named = refl; taken = one_more refl (no_more refl); complete = refl; grouped = refl; left = refl })
    (more (λ e. refl) (record { behind = _; end = _; named = refl; taken = one_more refl (one_more refl (no_more refl)); complete = refl; grouped = refl; left = refl })
    (last (λ e. refl) (record { behind = _; end = _; named = refl; taken = one_more refl (one_more refl (one_more refl (no_more refl))); complete = refl; grouped = refl; left = refl })))

-- `[arg('x', long, short='x')]` over `a x:`
abbrev with_option : Words (Unit {0}) (List ℕ)
with_option = words_by ((codes "a", record { long = Some (codes "x"); short = Some (codes "x"); takes_value = true; multiple = false; variadic = false; required = true } ∷ []) ∷ [])

pub long_option : Invoke with_option (codes "a" ∷ codes "--x=1" ∷ []) ((codes "a", (codes "1" ∷ []) ∷ []) ∷ [])
long_option = last (λ e. refl) (record { behind = _; end = _; named = refl; taken = one_more refl (no_more refl); complete = refl; grouped = refl; left = refl })

pub short_option : Invoke with_option (codes "a" ∷ codes "-x" ∷ codes "1" ∷ []) ((codes "a", (codes "1" ∷ []) ∷ []) ∷ [])
short_option = last (λ e. refl) (record { behind = _; end = _; named = refl; taken = one_more refl (no_more refl); complete = refl; grouped = refl; left = refl })

pub option_without_value : BreaksWords with_option (codes "a" ∷ codes "--x" ∷ []) (option_value (codes "a") (codes "--x"))
option_without_value = at_first (λ e. refl) (untaken refl (here refl))

pub unknown_name : BreaksWords with_option (codes "a" ∷ codes "--y=1" ∷ []) (unknown_option (codes "a") (codes "--y=1"))
unknown_name = at_first (λ e. refl) (untaken refl (here refl))

pub option_left_out : BreaksWords with_option (codes "a" ∷ []) (argument_count (codes "a") 0)
option_left_out = at_first (λ e. refl) (incomplete refl (no_more refl) refl)
