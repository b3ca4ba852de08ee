-- What a variable means before anything runs, it means once.
use Rattle.std.proofs.Common.{◌≡◌, sym, ◌∙◌, ap, subst, Bool, true, false, if◌then◌else◌, Option, Some, Result, Ok, Err, List, [], ◌∷◌, ◌++◌, ℕ, refl}
use Rattle.std.specs.Prelude.{Contains}
use Rattle.std.proofs.lemmas.List.Elements.{Contains-append_left, Contains-append_right}
use Rattle.parse_expressions.specs.Literals.{Expansion, text_or_none}
use Rattle.tree_expressions.specs.Kinds.{kind_of}
use Rattle.tree_expressions.specs.Operators.{Binary, disjunction, conjunction, comparison, appending, concatenation, joining}
use Rattle.tree_expressions.specs.Parts.{cooked_part}
use Rattle.tree_expressions.specs.Shape.{Shape, Shapes, Interpolations, literal, command, format, variable, call, assertion, assertion_alone, group, listing, choice, choice_alone, negation, rooted, binary, end, more, closed, interpolation}
use Rattle.tree_expressions.specs.declared.string_kind.StringKind.{StringKind}
use Rattle.just_value.specs.Values.{joined}
use Rattle.meaning_dialogues.specs.Faults.{Fault}
use Rattle.meaning_dialogues.specs.Dialogue.{Dialogue, Ends, Asks, Reads, ◌>>=◌}
use Rattle.meaning_dialogues.specs.Meaning.{Meaning}
use Rattle.meaning_dialogues.specs.Written.{term_in, terms_in, holes_in, unnumbered}
use Rattle.meaning_dialogues.specs.Constants.{settled, settled_read, constant}
use Rattle.meaning_dialogues.specs.Evaluation.{Value, row, sides, comparing, holding, failing, dialogue, dialogues, filled, is_truthy}
use Rattle.meaning_dialogues.specs.Calls.{const_stage}
use Rattle.meaning_rules.specs.Worlds.Given.{Text, World, Overrides}
use Rattle.meaning_rules.specs.Naming.{Occurrence, a_variable, occurrences, occurrences_in, occurrences_between}
use Rattle.std.proofs.lemmas.Option.{same_Some}
use Rattle.tree_items.specs.Files.{ItemShape, assignment_item}
use Rattle.meaning_rules.specs.Worlds.Keeping.{IsDefined, Keeps}
use Rattle.meaning_rules.specs.Worlds.Keeping as keeping
use Rattle.meaning_rules.specs.Laws.{MeansAtMostOne}
use Rattle.meaning_rules.proofs.Worlds.Kept.{keeps_at_most_one}
use Rattle.meaning_rules.proofs.Kept.{overrides_are_unique}
use Rattle.meaning_rules.specs.Constants.{Means, by_override, by_side, by_constant, as_read, reading_of, meant, said_by}
use Rattle.meaning_rules.proofs.Worlds.Places.{contains_first}

module _ (f g : Text → Meaning Value) where
  -- they say the same of the variables among these
  abbrev Named : List Occurrence → Type 0
  Named os = (x : Text) → Contains os (a_variable x) → f x ≡ g x

  left : (os ps : List Occurrence) → Named (os ++ ps) → Named os
  left os ps h x c = h x (Contains-append_left os ps (a_variable x) c)

  right : (os ps : List Occurrence) → Named (os ++ ps) → Named ps
  right os ps h x c = h x (Contains-append_right os ps (a_variable x) c)

  -- they say the same of what the dialogue reads
  abbrev Same : {A : Type 0} → Dialogue A → Type 0
  Same (Ends result) = Unit {0}
  Same (Asks question next) = Unit {0}
  Same (Reads place x next) = (f x.name ≡ g x.name) × ((value : Value) → Same (next value))

  then_same : {A B : Type 0} (t : Dialogue A) (k : A → Dialogue B) → Same t → ((a : A) → Same (k a)) → Same (t >>= k)
  then_same (Ends (Ok a)) k h s = s a
  then_same (Ends (Err e)) k h s = tt
  then_same (Asks q next) k h s = tt
  then_same (Reads p x next) k h s = (h.0, λ value. then_same (next value) k (h.1 value) s)

  choice_same : {A : Type 0} (b : Bool) (s t : Dialogue A) → Same s → Same t → Same (if b then s else t)
  choice_same true s t h k = h
  choice_same false s t h k = k

  sides_same : (l r : Dialogue Value) → Same l → Same r → Same (sides l r)
  sides_same l r h k = then_same l _ h (λ a. then_same r _ k (λ b. tt))

  abbrev AllSame : List (Dialogue Value) → Type 0
  AllSame [] = Unit {0}
  AllSame (d ∷ ds) = Same d × AllSame ds

  row_same : (ds : List (Dialogue Value)) → AllSame ds → Same (row ds)
  row_same [] h = tt
  row_same (d ∷ ds) h = then_same d _ h.0 (λ v. then_same (row ds) _ (row_same ds h.1) (λ vs. tt))

  read_same : {A : Type 0} (r : Result Value Fault) (n m : Value → Option (Result A Fault)) → ((v : Value) → n v ≡ m v) → settled_read r n ≡ settled_read r m
  read_same (Ok v) n m h = h v
  read_same (Err fault) n m h = refl

  -- so it comes to the same
  pub same_settled : {A : Type 0} (d : Dialogue A) → Same d → settled (reading_of f) d ≡ settled (reading_of g) d
  same_settled (Ends result) h = refl
  same_settled (Asks question next) h = refl
  same_settled (Reads place x next) h =
      ap (λ m. settled_read (as_read x.name m) (λ value. settled (reading_of f) (next value))) h.0
      ∙ read_same (as_read x.name (g x.name)) (λ value. settled (reading_of f) (next value)) (λ value. settled (reading_of g) (next value)) (λ v. same_settled (next v) (h.1 v))

  module _ (expansion : Expansion) (lists : Bool) where
    abbrev said : Shape → Dialogue Value
    said e = dialogue (const_stage lists) (term_in expansion [] unnumbered e)

    holds_same : (c : Shape) → Same (said c) → Same (holding (said c))
    holds_same c h = then_same (said c) _ h (λ v. tt)

    same_binary : (op : Binary) (l r : Shape) → Same (said l) → Same (said r) → Same (said (binary op l r))
    same_binary disjunction l r h k = then_same (said l) _ h (λ v. choice_same (is_truthy v) _ (said r) tt k)
    same_binary conjunction l r h k = then_same (said l) _ h (λ v. choice_same (is_truthy v) (said r) _ k tt)
    same_binary (comparison operator) l r h k = then_same (comparing operator (said l) (said r)) _ (then_same (sides (said l) (said r)) _ (sides_same (said l) (said r) h k) (λ values. tt)) (λ holds. tt)
    same_binary appending l r h k = then_same (sides (said l) (said r)) _ (sides_same (said l) (said r) h k) (λ values. tt)
    same_binary concatenation l r h k = then_same (sides (said l) (said r)) _ (sides_same (said l) (said r) h k) (λ values. tt)
    same_binary joining l r h k = then_same (sides (said l) (said r)) _ (sides_same (said l) (said r) h k) (λ values. tt)

    mutual
      unfolding occurrences

      pub same : (e : Shape) → Named (occurrences e) → Same (said e)
      same (literal s) h = tt
      same (command s) h = tt
      same (format s hs) h = then_same (filled (const_stage lists) (text_or_none (cooked_part (kind_of s) s)) (holes_in expansion [] unnumbered (kind_of s) hs)) _ (same_between (text_or_none (cooked_part (kind_of s) s)) (kind_of s) hs h) (λ whole. tt)
      same (variable x) h = (h x (contains_first (a_variable x) []), λ value. tt)
      same (call f es) h = tt
      same (assertion c m) h = then_same (said c) _ (same c (left (occurrences c) (occurrences m) h)) (λ v. choice_same (is_truthy v) _ (failing (said m)) tt (then_same (said m) _ (same m (right (occurrences c) (occurrences m) h)) (λ w. tt)))
      same (assertion_alone c) h = then_same (said c) _ (same c h) (λ v. tt)
      same (group e) h = same e h
      same (listing es) h = then_same (row (dialogues (const_stage lists) (terms_in expansion [] unnumbered es))) _ (row_same (dialogues (const_stage lists) (terms_in expansion [] unnumbered es)) (same_all es h)) (λ values. tt)
      same (choice c t o) h =
          let front = left (occurrences c ++ occurrences t) (occurrences o) h in
          then_same (holding (said c)) _ (holds_same c (same c (left (occurrences c) (occurrences t) front)))
          (λ holds. choice_same holds (said t) (said o) (same t (right (occurrences c) (occurrences t) front)) (same o (right (occurrences c ++ occurrences t) (occurrences o) h)))
      same (choice_alone c t) h =
          then_same (holding (said c)) _ (holds_same c (same c (left (occurrences c) (occurrences t) h))) (λ holds. choice_same holds (said t) _ (same t (right (occurrences c) (occurrences t) h)) tt)
      same (negation e) h = then_same (said e) _ (same e h) (λ v. tt)
      same (rooted e) h = then_same (said e) _ (same e h) (λ v. tt)
      same (binary op l r) h = same_binary op l r (same l (left (occurrences l) (occurrences r) h)) (same r (right (occurrences l) (occurrences r) h))

      same_all : (es : Shapes) → Named (occurrences_in es) → AllSame (dialogues (const_stage lists) (terms_in expansion [] unnumbered es))
      same_all end h = tt
      same_all (more e es) h = (same e (left (occurrences e) (occurrences_in es) h), same_all es (right (occurrences e) (occurrences_in es) h))

      same_between : (so_far : List ℕ) (kind : StringKind) (hs : Interpolations) → Named (occurrences_between hs) → Same (filled (const_stage lists) so_far (holes_in expansion [] unnumbered kind hs))
      same_between so_far kind closed h = tt
      same_between so_far kind (interpolation e part hs) h =
          then_same (said e) _ (same e (left (occurrences e) (occurrences_between hs) h)) (λ v. same_between (so_far ++ (joined v ++ text_or_none (cooked_part kind part))) kind hs (right (occurrences e) (occurrences_between hs) h))

    -- what an expression means rests on the variables that it names alone
    pub same_meant : (e : Shape) → Named (occurrences e) → meant expansion lists f (said_by expansion lists f e) ≡ meant expansion lists g (said_by expansion lists g e)
    same_meant e h = ap constant (same_settled (said e) (same e h))

-- ---- a variable means one thing

abbrev value_in : ItemShape → Shape
value_in (assignment_item attributes a) = a.value
value_in other = literal []

bool_same : (b c : Bool) → (b ≡ true → c ≡ true) → (c ≡ true → b ≡ true) → b ≡ c
bool_same true c f g = sym (f refl)
bool_same false true f g = g refl
bool_same false false f g = refl

kept_once : (w : World) (own : Text) (name : Text) (a b : ItemShape) → Keeps w own keeping.a_variable name a → Keeps w own keeping.a_variable name b → a ≡ b
kept_once w own name a b k l = (keeps_at_most_one w own keeping.a_variable name k.key l.key k.place l.place a b k.kept l.kept).2

kept_defined : (w : World) (own : Text) (name : Text) (a : ItemShape) → Keeps w own keeping.a_variable name a → IsDefined w own keeping.a_variable name
kept_defined w own name a k = record { key = k.key; place = k.place; item = a; defines = k.kept.defines }

module _ (w : World) (o : Overrides) (path : List Text) (own : Text) where
  once : (name : Text) (m n : Meaning Value) → Means w o path own name m → Means w o path own name n → m ≡ n
  once name m n (by_override {text = text} h) (by_override {text = other} k) = ap (λ t. Some (Ok (t ∷ []))) (overrides_are_unique w o path own name text other h k)
  once name m n (by_override {text = text} h) (by_side free k l fs ms) = absurd (free text h)
  once name m n (by_override h) (by_constant free k) = absurd (free h.names.there)
  once name m n (by_side free k l fs ms) (by_override {text = text} h) = absurd (free text h)
  once name m n (by_side {attributes = attributes} {a = a} free k l fs ms) (by_constant unset c) = absurd (unset (kept_defined w own name (assignment_item attributes a) k))
  once name m n (by_constant free k) (by_override h) = absurd (free h.names.there)
  once name m n (by_constant unset c) (by_side {attributes = attributes} {a = a} free k l fs ms) = absurd (unset (kept_defined w own name (assignment_item attributes a) k))
  once name m n (by_constant {text = text} free k) (by_constant {text = other} free' k') = ap (λ t. Some (Ok (t ∷ []))) (same_Some text other (sym k ∙ k'))
  once name m n (by_side {attributes = attributes} {a = a} {lists = lists} free k l fs ms) (by_side {attributes = attributes'} {a = a'} {lists = lists'} free' k' l' gs ns) =
      let values : a.value ≡ a'.value = ap value_in (kept_once w own name (assignment_item attributes a) (assignment_item attributes' a') k k') in
      let on : lists ≡ lists' = bool_same lists lists' (λ e. l'.1 (l.0 e)) (λ e. l.1 (l'.0 e)) in
      same_meant fs gs w.expansion lists a.value (λ x c. once x (fs x) (gs x) (ms x c) (ns x (subst (λ e. Contains (occurrences e) (a_variable x)) values c)))
      ∙ ap (λ q. meant w.expansion q gs (said_by w.expansion q gs a.value)) on
      ∙ ap (λ e. meant w.expansion lists' gs (said_by w.expansion lists' gs e)) values

pub means_at_most_one : MeansAtMostOne
means_at_most_one w o path own name m n h k = once w o path own name m n h k
