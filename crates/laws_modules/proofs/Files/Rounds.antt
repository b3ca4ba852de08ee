-- Files that import one another, and the walks of their places.
use Rattle.std.proofs.Common.{◌≡◌, sym, ◌∙◌, ap, subst, ◌<◌, ◌+◌, ◌-◌, ◌∷◌, [], ℕ, zero, suc, List, Some, refl, arith, length, map}
use Rattle.std.specs.Prelude.{slice_get, Contains}
use Rattle.std.specs.BTreeMap.{BTreeMap}
use Rattle.std.specs.declared.string.String.{String}
use Rattle.std.proofs.lemmas.Option.{none-some, same_Some, slice_get_within}
use Rattle.parse_expressions.specs.Literals.{Expansion}
use Rattle.semver.specs.declared.Version.{Version}
use Rattle.modules_compilation.specs.declared.module_node.File.{File}
use Rattle.modules_files.specs.Chosen.{File as SourceFile}
use Rattle.modules_sources.specs.Items.{key_of}
use Rattle.modules_sources.specs.ReadingOrder.{AreFollowed, ArePlacesOfRows}
use Rattle.resolve_order.specs.Needs.{IsCycle, Needs, Walks}
use Rattle.meaning_rules.specs.Worlds.Given.{Text, World}
use Rattle.meaning_rules.specs.Worlds.Modules.{imports_of, IsReadingOrder}
use Rattle.meaning_rules.specs.Worlds.Sources.{Imports, IsFileOf, Leads, itself, further, Reached}
use Rattle.meaning_rules.proofs.Worlds.Orders.{stands_once}
use Rattle.meaning_rules.proofs.Worlds.Places.{contains_at, place_of}
use Rattle.meaning_rules.proofs.Worlds.Reading.{orders_have_reached}
use Rattle.meaning_rules.proofs.Worlds.Rows.{rows_are_imports}
use Rattle.laws_modules.specs.Files.Files.{AreSaidWhereReached, keys_of}
use Rattle.meaning_rules.specs.Worlds.Views.{HasSources}
use Rattle.laws_modules.proofs.Files.Followed.{file_of_row, file_row, in_order, is_reached, leads_first, leads_join, row_at}
use Rattle.laws_modules.proofs.Files.Lists.{map_at, mapped_at, other_at}

-- ---- walks

-- what is left of a walk from a place on
pub record IsLeft (needs : List (List ℕ)) (walk : List ℕ) (i a : ℕ) : Type 0 where
  pub others : List ℕ
  pub walks : Walks needs (a ∷ others)
  pub at : (n : ℕ) → slice_get walk (i + n) ≡ slice_get (a ∷ others) n

-- numbers with nothing and with one more
zero_more : (n : ℕ) → 0 + n ≡ n
zero_more n = omega arith

one_more : (i n : ℕ) → suc i + n ≡ suc (i + n)
one_more i n = omega arith

-- each place of a walk begins one
pub walk_left : (needs : List (List ℕ)) (walk : List ℕ) (i a : ℕ) → Walks needs walk → slice_get walk i ≡ Some a → IsLeft needs walk i a
walk_left needs [] i a h e = absurd (none-some a e)
walk_left needs (x ∷ walk) zero a h e =
    let same : x ≡ a = same_Some x a e in
    subst (IsLeft needs (x ∷ walk) 0) same (record { others = walk; walks = h; at = λ n. ap (slice_get (x ∷ walk)) (zero_more n) })
walk_left needs (x ∷ []) (suc i) a h e = absurd (none-some a e)
walk_left needs (x ∷ y ∷ walk) (suc i) a h e =
    let r = walk_left needs (y ∷ walk) i a h.1 e in
    record { others = r.others; walks = r.walks; at = λ n. ap (slice_get (x ∷ y ∷ walk)) (one_more i n) ∙ r.at n }

-- a walk from one place to another
pub record IsWalk (needs : List (List ℕ)) (from to : ℕ) : Type 0 where
  pub others : List ℕ
  pub walks : Walks needs (from ∷ others)
  pub end : slice_get (from ∷ others) (length others) ≡ Some to

-- one that ends where it began
closed_walk : (needs : List (List ℕ)) (a b : ℕ) → Needs needs a b → IsWalk needs b a → (walk : List ℕ) × IsCycle needs walk
closed_walk needs a b n k =
    let last : suc (length k.others) ≡ length (a ∷ b ∷ k.others) - 1 = omega arith in
    (a ∷ b ∷ k.others, record { long = omega arith; closed = sym k.end ∙ ap (slice_get (a ∷ b ∷ k.others)) last; walk = (n, k.walks) })

module _ {Y Z : Type 0} (sources : BTreeMap (String Y) (String Z)) (expansion : Expansion) (version : Version) (w : World) (has : HasSources sources expansion w) (owner : ℕ)
    (own : Text) (reached : Reached w own) (files : List File) (imports : List (List SourceFile)) (h : AreFollowed sources expansion version owner own (length files) files imports) (said : AreSaidWhereReached w files)
    (places : List (List ℕ)) (are : ArePlacesOfRows (keys_of files) imports places) where
  -- the keys of the files
  abbrev keys : List Text
  keys = keys_of files

  -- they stand in reading order
  order_is : IsReadingOrder w own keys
  order_is = in_order sources expansion version w has owner own reached files imports h said

  -- ---- from files to places

  -- the places are those of these files
  abbrev IsRowOf : List SourceFile → List ℕ → Type 0
  IsRowOf row numbers = map (slice_get keys) numbers ≡ map (λ f. Some f.0) row

  -- the places of a row
  places_at : (place : ℕ) (row : List SourceFile) → slice_get imports place ≡ Some row → (numbers : List ℕ) × (slice_get places place ≡ Some numbers) × IsRowOf row numbers
  places_at place row e = other_at (map (slice_get keys)) (map (λ f. Some f.0)) places imports are place row e

  -- the row at a place, as files and as places
  record IsAt (place : ℕ) (key : Text) : Type 0 where
    row : List SourceFile
    numbers : List ℕ
    here : slice_get places place ≡ Some numbers
    is_row : IsRowOf row numbers
    named : map (λ f. f.0) row ≡ imports_of w key

  -- each file has a row
  at_place : (place : ℕ) (key : Text) → slice_get keys place ≡ Some key → IsAt place key
  at_place place key e =
      let f = mapped_at (λ f. f.key.now) files place key e in
      let r = row_at sources expansion version w has owner own reached (length files) files imports h said place f.0 (slice_get_within files place f.0 f.1) f.1 in
      let row = file_row sources expansion version w has owner own reached (length files) files imports h said place f.0 f.1 r.0 r.2 in
      let p = places_at place r.0 r.1 in
      record { row = r.0; numbers = p.0; here = p.1; is_row = p.2; named = row ∙ ap (imports_of w) f.2 }

  -- a file that is imported has its place in the row
  listed_in : (place : ℕ) (key : Text) (t : IsAt place key) (other : Text) → Contains (imports_of w key) other → (k : ℕ) × (number : ℕ) × (slice_get t.numbers k ≡ Some number) × (slice_get keys number ≡ Some other)
  listed_in place key t other c =
      let k = place_of (map (λ f. f.0) t.row) other (subst (λ ks. Contains ks other) (sym t.named) c) in
      let f = mapped_at (λ f. f.0) t.row k.0 other k.1 in
      let n = other_at (slice_get keys) (λ g. Some g.0) t.numbers t.row t.is_row k.0 f.0 f.1 in
      (k.0, n.0, n.1, n.2 ∙ ap Some f.2)

  -- an import is a need of places
  needs_of : (a b : ℕ) (x y : Text) → IsAt a x → IsAt b y → slice_get keys b ≡ Some y → Contains (imports_of w x) y → Needs places a b
  needs_of a b x y t there eb c =
      let n = listed_in a x t y c in
      let same : n.1 ≡ b = stands_once (imports_of w) own keys order_is n.1 b y n.3 eb in
      record {
        row = t.numbers;
        here = t.here;
        listed = subst (Contains t.numbers) same (contains_at t.numbers n.0 n.1 n.2);
        there = slice_get_within places b there.numbers there.here;
      }

  -- and that at the places of the keys
  needs : (a b : ℕ) (x y : Text) → slice_get keys a ≡ Some x → slice_get keys b ≡ Some y → Imports w x y → Needs places a b
  needs a b x y ea eb i = needs_of a b x y (at_place a x ea) (at_place b y eb) eb ((rows_are_imports w x y).1 i)

  -- where imports lead, walks do
  before : (n : ℕ) (x y : Text) (a b to : ℕ) → Leads w x n y → IsFileOf w own x → slice_get keys a ≡ Some x → slice_get keys b ≡ Some y → IsWalk places b to → IsWalk places a to
  before zero x y a b to itself of ea eb k =
      let same : b ≡ a = stands_once (imports_of w) own keys order_is b a x eb ea in
      subst (λ p. IsWalk places p to) same k
  before (suc n) x y a b to (further {between = between} l i) of ea eb k =
      let j = leads_join w own x between of.count n of.leads l in
      let p = place_of keys between ((orders_have_reached w own keys order_is between).1 (record { count = j.0; leads = j.1 })) in
      before n x between a p.0 to l of ea p.1 (record { others = b ∷ k.others; walks = (needs p.0 b between y p.1 eb i, k.walks); end = k.end })

  -- no file imports itself through others where no walk is a cycle
  pub no_round_of : ((walk : List ℕ) → IsCycle places walk → ⊥) → (file other : Text) (count : ℕ) → IsFileOf w own file → Imports w file other → Leads w other count file → ⊥
  no_round_of none file other count of i l =
      let of_other : IsFileOf w own other = record { count = suc of.count; leads = further of.leads i } in
      let a = place_of keys file ((orders_have_reached w own keys order_is file).1 of) in
      let b = place_of keys other ((orders_have_reached w own keys order_is other).1 of_other) in
      let alone : IsWalk places a.0 a.0 = record { others = []; walks = tt; end = refl } in
      let k = before count other file b.0 a.0 a.0 l of_other b.1 a.1 alone in
      let c = closed_walk places a.0 b.0 (needs a.0 b.0 file other a.1 b.1 i) k in
      none c.0 c.1

  -- ---- from places to files

  -- the key at a place
  abbrev key_at : ℕ → Text
  key_at place = key_of (slice_get files place)

  -- it is that of the file there
  key_at_is : (place : ℕ) (key : Text) → slice_get keys place ≡ Some key → key_at place ≡ key
  key_at_is place key e = let f = mapped_at (λ f. f.key.now) files place key e in ap key_of f.1 ∙ f.2

  -- a need is an import
  pub imports_by : (a b : ℕ) → Needs places a b → Imports w (key_at a) (key_at b)
  imports_by a b n =
      let r = other_at (map (λ f. Some f.0)) (map (slice_get keys)) imports places (sym are) a n.row n.here in
      let row = r.0 in
      let f = file_of_row sources expansion version w has owner own reached (length files) files imports h said a row r.1 in
      let named = file_row sources expansion version w has owner own reached (length files) files imports h said a f.0 f.1 row f.2 in
      let k = place_of n.row b n.listed in
      let g = other_at (λ g. Some g.0) (slice_get keys) row n.row r.2 k.0 b k.1 in
      let to : key_at b ≡ g.0.0 = key_at_is b g.0.0 (sym g.2) in
      let listed : Contains (map (λ f. f.0) row) g.0.0 = contains_at (map (λ f. f.0) row) k.0 g.0.0 (map_at (λ f. f.0) row k.0 g.0 g.1) in
      let from : key_at a ≡ f.0.key.now = ap key_of f.1 in
      subst (Imports w (key_at a)) (sym to) (subst (λ k. Imports w k g.0.0) (sym from) ((rows_are_imports w f.0.key.now g.0.0).0 (subst (λ ks. Contains ks g.0.0) named listed)))

  -- a file with a row is reached
  needs_reached : (a b : ℕ) → Needs places a b → Reached w (key_at a)
  needs_reached a b n =
      let r = other_at (map (λ f. Some f.0)) (map (slice_get keys)) imports places (sym are) a n.row n.here in
      let f = file_of_row sources expansion version w has owner own reached (length files) files imports h said a r.0 r.1 in
      subst (Reached w) (sym (ap key_of f.1)) (is_reached sources expansion version w has owner own reached (length files) files imports h said a f.0 f.1)

  -- a walk is a way of imports
  leads_on : (n a b : ℕ) (others : List ℕ) → Walks places (a ∷ others) → slice_get (a ∷ others) n ≡ Some b → (count : ℕ) × Leads w (key_at a) count (key_at b)
  leads_on zero a b others k e = (0, subst (λ c. Leads w (key_at a) 0 (key_at c)) (same_Some a b e) itself)
  leads_on (suc n) a b [] k e = absurd (none-some b e)
  leads_on (suc n) a b (c ∷ others) k e =
      let r = leads_on n c b others k.1 e in
      leads_first w (key_at a) (key_at c) (key_at b) r.0 (imports_by a c k.0) r.1

  -- from one place of a walk to a later one
  pub leads_by : (walk : List ℕ) (i n a b : ℕ) → Walks places walk → slice_get walk i ≡ Some a → slice_get walk (i + n) ≡ Some b → (count : ℕ) × Leads w (key_at a) count (key_at b)
  leads_by walk i n a b k ea eb = let r = walk_left places walk i a k ea in leads_on n a b r.others r.walks (sym (r.at n) ∙ eb)

  -- the first step of a walk
  first_step : (a b : ℕ) (others : List ℕ) → Walks places (a ∷ others) → slice_get (a ∷ others) 1 ≡ Some b → Needs places a b
  first_step a b [] k e = absurd (none-some b e)
  first_step a b (c ∷ others) k e = subst (Needs places a) (same_Some c b e) k.0

  -- a step of a cycle: the first file is reached and imports the second, which leads to it
  pub round_at : (walk : List ℕ) → IsCycle places walk → (at a b : ℕ) → slice_get walk at ≡ Some a → slice_get walk (at + 1) ≡ Some b → Reached w (key_at a) × Imports w (key_at a) (key_at b) × ((count : ℕ) × Leads w (key_at b) count (key_at a))
  round_at walk c at a b ea eb =
      let r = walk_left places walk at a c.walk ea in
      let step = first_step a b r.others r.walks (sym (r.at 1) ∙ eb) in
      let within : at + 1 < length walk = slice_get_within walk (at + 1) b eb in
      let top = there walk c.long in
      let rest : at + 1 + (length walk - 1 - (at + 1)) ≡ length walk - 1 = omega (arith, within) in
      let to_end = leads_by walk (at + 1) (length walk - 1 - (at + 1)) b top.0 c.walk eb (ap (slice_get walk) rest ∙ sym c.closed ∙ top.1) in
      let from_start = leads_by walk 0 at top.0 a c.walk top.1 (ap (slice_get walk) (zero_more at) ∙ ea) in
      (needs_reached a b step, imports_by a b step, leads_join w (key_at b) (key_at top.0) (key_at a) to_end.0 from_start.0 to_end.1 from_start.1)
    where
      there : (xs : List ℕ) → 1 < length xs → (x : ℕ) × (slice_get xs 0 ≡ Some x)
      there [] lt = absurd (omega (arith, lt))
      there (x ∷ xs) lt = (x, refl)
