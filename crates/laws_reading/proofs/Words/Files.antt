-- Files.
use Rattle.std.proofs.Common.{◌≡◌, ℕ, zero, suc, Option, Some, None, Result, Ok, Err, List, [], ◌∷◌, map, length, refl, ap, subst}
use Rattle.just_text.specs.Tokens.{Word}
use Rattle.just_text.specs.declared.compile_error.CompileErrorKind.{CompileErrorKind}
use Rattle.just_text.specs.declared.token_kind.TokenKind.TheVariants.{ByteOrderMark, Comment, Eof, Eol}
use Rattle.tree_attributes.specs.Attributes.{AttributeShape}
use Rattle.tree_attributes.specs.declared.item_kind.ItemKind.{ItemKind}
use Rattle.parse_expressions.specs.Literals.{Expansion}
use Rattle.parse_expressions.specs.Reading.{Stop, unexpected, first}
use Rattle.parse_items.specs.Reading.{kind_at}
use Rattle.parse_attributed_items.specs.Halting.{stopped, or_stopped, unless_broken}
use Rattle.parse_attributed_items.specs.Fitting.{fault_in}
use Rattle.parse_attributed_items.specs.Reading.{Parts, joined, bare_behind, parts_at, fitted, attributed_at}
use Rattle.justfile_syntax.specs.Files.{Entry}
use Rattle.justfile_syntax.specs.Reading.{behind_mark, comment_at, ended, filled_at, entry_at, entries_at, file_at}
use Rattle.semver.specs.declared.Version.{Version}
use Rattle.laws_reading.specs.Words.Mapped.{MapsTo, map_result, map_stop, map_halt, same}
use Rattle.laws_reading.proofs.Words.Steps.{accepts, aside, bind, choose, either, expects, first_stops, length_there, nexts, ok, seen, stops}
use Rattle.laws_reading.proofs.Words.Expressions.{Gives, eol_goes}
use Rattle.laws_reading.proofs.Words.Attributes.{attributes_goes}
use Rattle.laws_reading.proofs.Words.Items.{bare_goes, item_kinds}

module _ {T S : Type 0} (f : T → S) where
  or_stopped_by : {A B : Type 0} (g : A → B) (m : Result A (Stop T)) (n : Result B (Stop S)) → map_result (map_stop f) g m ≡ n → MapsTo (map_halt f) g (or_stopped m) (or_stopped n)
  or_stopped_by g (Ok x) n e = record { is = ap or_stopped e }
  or_stopped_by g (Err r) n e = record { is = ap or_stopped e }

  or_stopped_goes : {A B : Type 0} {g : A → B} {m : Result A (Stop T)} {n : Result B (Stop S)} → MapsTo (map_stop f) g m n → MapsTo (map_halt f) g (or_stopped m) (or_stopped n)
  or_stopped_goes {g = g} {m = m} {n = n} e = or_stopped_by g m n e.is

  unless_goes : {A B : Type 0} (g : A → B) (o : Option CompileErrorKind) (x : A) → MapsTo (map_halt f) g (unless_broken o x) (unless_broken o (g x))
  unless_goes g None x = ok
  unless_goes g (Some kind) x = stops

  first_halts : {A B : Type 0} {g : A → B} (ts : List T) → MapsTo (map_halt f) g (Err (stopped (unexpected (first ts)))) (Err (stopped (unexpected (first (map f ts)))))
  first_halts [] = record { is = refl }
  first_halts (t ∷ ts) = record { is = refl }

  module _ (word : S → Word) where
    mark_there : (ts : List T) → behind_mark word (map f ts) ≡ map f (behind_mark (seen f word) ts)
    unfolding behind_mark
    mark_there ts = aside f word ByteOrderMark ts

    comment_goes : (ts : List T) → Gives f word (comment_at (seen f word) ts) (comment_at word (map f ts))
    unfolding comment_at
    comment_goes ts = bind _ (expects f word Comment ts) (λ c. bind _ (eol_goes f word c.1) (λ rest. ok))

    ended_goes : (ts : List T) → MapsTo (map_halt f) (λ (es : List Entry). es) (ended (seen f word) ts) (ended word (map f ts))
    ended_goes [] = ok
    ended_goes (t ∷ ts) = stops

    module _ (expansion : Expansion) (current : Version) where
      bare_behind_goes : (as' : List (Option AttributeShape)) (kind : ItemKind) (ts : List T) → Gives f word (bare_behind (seen f word) expansion current as' kind ts) (bare_behind word expansion current as' kind (map f ts))
      bare_behind_goes as' kind ts = either refl (bare_goes f word expansion current kind ts) (first_stops f ts)

      behind_goes : (as' : List (Option AttributeShape)) (ts : List T)
          → Gives f word (bare_behind (seen f word) expansion current as' (kind_at (seen f word) ts) ts) (bare_behind word expansion current as' (kind_at word (map f ts)) (map f ts))
      behind_goes as' ts =
          subst (λ kind. Gives f word (bare_behind (seen f word) expansion current as' (kind_at (seen f word) ts) ts) (bare_behind word expansion current as' kind (map f ts)))
          (item_kinds f word ts) (bare_behind_goes as' (kind_at (seen f word) ts) ts)

      parts_goes : (ts : List T) → Gives f word (parts_at (seen f word) expansion current ts) (parts_at word expansion current (map f ts))
      unfolding parts_at
      parts_goes ts = bind _ (attributes_goes f word expansion ts) (λ x. bind _ (behind_goes x.0 x.1) (λ i. ok))

      fitted_goes : (p : Parts × List T) → MapsTo (map_halt f) (same f) (fitted (seen f word) expansion current p) (fitted word expansion current (p.0, map f p.1))
      fitted_goes p = unless_goes (same f) (fault_in expansion p.0.attributes p.0.item) ((joined p.0, p.0.blanks), p.1)

      attributed_goes : (ts : List T) → MapsTo (map_halt f) (same f) (attributed_at (seen f word) expansion current ts) (attributed_at word expansion current (map f ts))
      unfolding attributed_at
      attributed_goes ts = bind _ (or_stopped_goes (parts_goes ts)) (λ p. fitted_goes p)

      filled_goes : (ts : List T) → MapsTo (map_halt f) (same f) (filled_at (seen f word) expansion current ts) (filled_at word expansion current (map f ts))
      unfolding filled_at
      filled_goes ts = either (nexts f word Comment ts) (or_stopped_goes (bind _ (comment_goes ts) (λ c. ok))) (attributed_goes ts)

      entry_goes : (ts : List T) → MapsTo (map_halt f) (same f) (entry_at (seen f word) expansion current ts) (entry_at word expansion current (map f ts))
      unfolding entry_at
      entry_goes ts = choose _ (accepts f word Eol ts) (filled_goes ts) (λ p. ok)

      entries_goes : (n : ℕ) (ts : List T) → MapsTo (map_halt f) (λ (es : List Entry). es) (entries_at (seen f word) expansion current n ts) (entries_at word expansion current n (map f ts))
      unfolding entries_at
      entries_goes zero ts = first_halts ts
      entries_goes (suc n) ts = choose _ (accepts f word Eof ts) (bind _ (entry_goes ts) (λ e. bind _ (entries_goes n e.1) (λ es. ok))) (λ p. ended_goes p.1)

      pub file_goes : (ts : List T) → MapsTo (map_halt f) (λ (es : List Entry). es) (file_at (seen f word) expansion current ts) (file_at word expansion current (map f ts))
      unfolding file_at
      file_goes ts = rw (length_there f ts, mark_there ts) (entries_goes (suc (length ts)) (behind_mark (seen f word) ts))
