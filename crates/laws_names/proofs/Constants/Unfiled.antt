-- No constant looks at the file of a call.
use Rattle.std.proofs.Common.{◌≡◌, ◌++◌, ℕ, List, Bool, Option, refl, ap, ap₂}
use Rattle.parse_expressions.specs.Literals.{Expansion, text_or_none}
use Rattle.tree_expressions.specs.Kinds.{kind_of}
use Rattle.tree_expressions.specs.Operators.{Binary, disjunction, conjunction, comparison, appending, concatenation, joining}
use Rattle.tree_expressions.specs.Parts.{cooked_part}
use Rattle.tree_expressions.specs.Shape.{Shape, Shapes, Interpolations, literal, command, format, variable, call, assertion, assertion_alone, group, listing, choice, choice_alone, negation, rooted, binary, end, more, closed, interpolation}
use Rattle.tree_expressions.specs.declared.string_kind.StringKind.{StringKind}
use Rattle.just_value.specs.Values.{joined}
use Rattle.meaning_dialogues.specs.Dialogue.{Dialogue, ◌>>=◌}
use Rattle.meaning_dialogues.specs.Evaluation.{Value, dialogue, dialogues, filled}
use Rattle.meaning_dialogues.specs.Calls.{const_stage}
use Rattle.meaning_dialogues.specs.Terms.{shape_in, shapes_in, interpolations_in}
use Rattle.meaning_dialogues.specs.Written.{by_operator, holes_in, term_in, terms_in}

module _ (expansion : Expansion) (numbers : List ℕ → Option ℕ) (file : List ℕ) where
  binary_shape : (op : Binary) (l r : Shape) → shape_in (term_in expansion file numbers l) ≡ l → shape_in (term_in expansion file numbers r) ≡ r
      → shape_in (by_operator op (term_in expansion file numbers l) (term_in expansion file numbers r)) ≡ binary op l r
  binary_shape disjunction l r h k = ap₂ (binary disjunction) h k
  binary_shape conjunction l r h k = ap₂ (binary conjunction) h k
  binary_shape (comparison operator) l r h k = ap₂ (binary (comparison operator)) h k
  binary_shape appending l r h k = ap₂ (binary appending) h k
  binary_shape concatenation l r h k = ap₂ (binary concatenation) h k
  binary_shape joining l r h k = ap₂ (binary joining) h k

  mutual
    -- the term of a shape has this shape
    pub same_shape : (s : Shape) → shape_in (term_in expansion file numbers s) ≡ s
    same_shape (literal s) = refl
    same_shape (command s) = refl
    same_shape (format s hs) = ap (format s) (same_holes (kind_of s) hs)
    same_shape (variable x) = refl
    same_shape (call f es) = ap (call f) (same_shapes es)
    same_shape (assertion c m) = ap₂ assertion (same_shape c) (same_shape m)
    same_shape (assertion_alone c) = ap assertion_alone (same_shape c)
    same_shape (group e) = ap group (same_shape e)
    same_shape (listing es) = ap listing (same_shapes es)
    same_shape (choice c t o) = (λ i. choice (same_shape c i) (same_shape t i) (same_shape o i))
    same_shape (choice_alone c t) = ap₂ choice_alone (same_shape c) (same_shape t)
    same_shape (negation e) = ap negation (same_shape e)
    same_shape (rooted e) = ap rooted (same_shape e)
    same_shape (binary op l r) = binary_shape op l r (same_shape l) (same_shape r)

    same_shapes : (es : Shapes) → shapes_in (terms_in expansion file numbers es) ≡ es
    same_shapes end = refl
    same_shapes (more e es) = ap₂ more (same_shape e) (same_shapes es)

    same_holes : (kind : StringKind) (hs : Interpolations) → interpolations_in (holes_in expansion file numbers kind hs) ≡ hs
    same_holes kind closed = refl
    same_holes kind (interpolation e part hs) = (λ i. interpolation (same_shape e i) part (same_holes kind hs i))

module _ (expansion : Expansion) (numbers : List ℕ → Option ℕ) (lists : Bool) (file other : List ℕ) where
  abbrev d : Shape → Dialogue Value
  d s = dialogue (const_stage lists) (term_in expansion file numbers s)

  abbrev e : Shape → Dialogue Value
  e s = dialogue (const_stage lists) (term_in expansion other numbers s)

  binary_said : (op : Binary) (l r : Shape) → d l ≡ e l → d r ≡ e r → d (binary op l r) ≡ e (binary op l r)
  binary_said disjunction l r h k = rw (h, k) refl
  binary_said conjunction l r h k = rw (h, k) refl
  binary_said (comparison operator) l r h k = rw (h, k) refl
  binary_said appending l r h k = rw (h, k) refl
  binary_said concatenation l r h k = rw (h, k) refl
  binary_said joining l r h k = rw (h, k) refl

  mutual
    -- so it says the same in each file
    pub same_said : (s : Shape) → d s ≡ e s
    same_said (literal s) = refl
    same_said (command s) = refl
    same_said (format s hs) = rw (same_filled (text_or_none (cooked_part (kind_of s) s)) (kind_of s) hs) refl
    same_said (variable x) = refl
    same_said (call f es) = refl
    same_said (assertion c m) = rw (same_said c, same_said m) refl
    same_said (assertion_alone c) = rw (same_said c, same_shape expansion numbers file c, same_shape expansion numbers other c) refl
    same_said (group e) = same_said e
    same_said (listing es) = rw (same_row es) refl
    same_said (choice c t o) = rw (same_said c, same_said t, same_said o) refl
    same_said (choice_alone c t) = rw (same_said c, same_said t) refl
    same_said (negation e) = rw (same_said e) refl
    same_said (rooted e) = rw (same_said e) refl
    same_said (binary op l r) = binary_said op l r (same_said l) (same_said r)

    same_row : (es : Shapes) → dialogues (const_stage lists) (terms_in expansion file numbers es) ≡ dialogues (const_stage lists) (terms_in expansion other numbers es)
    same_row end = refl
    same_row (more e es) = rw (same_said e, same_row es) refl

    same_filled : (so_far : List ℕ) (kind : StringKind) (hs : Interpolations) → filled (const_stage lists) so_far (holes_in expansion file numbers kind hs) ≡ filled (const_stage lists) so_far (holes_in expansion other numbers kind hs)
    same_filled so_far kind closed = refl
    same_filled so_far kind (interpolation e part hs) = (λ i. same_said e i >>= λ value. same_filled (so_far ++ (joined value ++ text_or_none (cooked_part kind part))) kind hs i)
