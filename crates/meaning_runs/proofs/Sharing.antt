-- A run with its done calls is the naive run.
use Rattle.std.proofs.Common.{◌≡◌, refl, ◌++◌, ◌∷◌, [], ◌<◌, ◌≤◌, ◌⊎◌, inl, inr, true, false, Bool, cond, ℕ, zero, suc, List, Option, Some, None, subst, sym, ◌∙◌, ap, append_assoc, append-nil, arith}
use Rattle.std.specs.Prelude.{Ok, Err}
use Rattle.std.specs.List.{AllByRecursion}
use Rattle.std.specs.Bool.{Decides}
use Rattle.meaning_runs.specs.Parts.{Parts, is_met, Joins}
use Rattle.meaning_runs.specs.Goes.{Goes, over, again, entered, not_begun, prior_failed, not_ended, subsequent_failed}
use Rattle.meaning_runs.specs.Naive.{End, went, failed, unanswered, RunPart, CallMeaning, IsSteady, nothing, ended, after, in_turn, Section, Head, Fault, Block, TreePiece, firsts, joined, run_of, trees, subsequents_run, behind_body, trees_behind, behind_head, block_of, rest_of, tree_of, tree, naive}
use Rattle.meaning_runs.specs.Tallies.{Tally}
use Rattle.meaning_runs.specs.Laws.{end_by, events_of, IsBegun, IsEnded, GoBy, IsRanked, IsClosed, Among, OfTrees, called, prior, subsequent}
use Rattle.meaning_runs.proofs.Pieces.{joined_append, Met, In, met_sound, met_complete, met_joined, met_before, met_itself, in_left, in_right, in_split, snoc_more, firsts_append, firsts_none, firsts_kept, after_nothing, agrees_left, agrees_right, events_append, grown, append_cancel}

module _ {Call Bound Entry Failure : Type 0} (p : Parts Call Bound Entry Failure) (decides : (a b : Call) → Decides (p.same a b) (a ≡ b))
    (is_event : Entry → Bool) (Agrees : Entry → Type 0) (m : CallMeaning Call Bound Entry Failure) (rank : Call → ℕ)
    (goby : GoBy is_event Agrees m p) (ranked : IsRanked m rank) (K : Call → Type 0) (closed : IsClosed m K) (steady : (c : Call) → K c → IsSteady p.shares m c)
    (N : ℕ) (P : Bool → Call → List (TreePiece Call Entry Failure))
    (fix : (f : Bool) (c : Call) → rank c < N → P f c ≡ tree_of p.same p.shares m (P true) f c) where
  abbrev Pieces : Type 0
  Pieces = List (TreePiece Call Entry Failure)

  abbrev Own : Type 0
  Own = RunPart Entry (Unit {0}) Failure

  abbrev part : List Entry → End (Unit {0}) Failure → Own
  part events end = record { events = events; end = end }

  abbrev ev : List Entry → List Entry
  ev = events_of is_event

  -- ---- a steady call has the same pieces for both flags

  heads_same : (f g : Bool) (c : Call) → K c → m.head c f ≡ m.head c g
  heads_same true true c z = refl
  heads_same true false c z = (steady c z).heads
  heads_same false true c z = sym (steady c z).heads
  heads_same false false c z = refl

  groups_same : (f g : Bool) (c : Call) → K c → (bound : Bound) → (m.head c false).end ≡ went bound → m.priors c f bound ≡ m.priors c g bound
  groups_same true true c z bound w = refl
  groups_same true false c z bound w = (steady c z).groups bound w
  groups_same false true c z bound w = sym ((steady c z).groups bound w)
  groups_same false false c z bound w = refl

  late_same : (f g : Bool) (c : Call) → K c → p.shares c ≡ true → (bound : Bound) → (m.head c false).end ≡ went bound → m.subsequents c f bound ≡ m.subsequents c g bound
  late_same true true c z e bound w = refl
  late_same true false c z e bound w = (steady c z).late e bound w
  late_same false true c z e bound w = sym ((steady c z).late e bound w)
  late_same false false c z e bound w = refl

  behind_at : (s : Bool) (k : Section) (o : Call) (g h : End (List Call) Failure) → (s ≡ true → g ≡ h) → In k o (trees_behind s (P true) g) → In k o (trees_behind s (P true) h)
  behind_at true k o g h e i = subst (λ x. In k o (trees_behind true (P true) x)) (e refl) i
  behind_at false k o g h e i = i

  other_block : (k : Section) (o c : Call) (x y : Own) (u v : List (TreePiece Call Entry Failure)) (g : End (List Call) Failure) → (In k o u → In k o v) → In k o (behind_head (P true) c x u g) → In k o (behind_head (P true) c y v g)
  other_block k o c x y u v (went calls) h i = elim (in_split k o (trees (P true) calls) (record { section = Block; owner = c; part = x } ∷ u) i) [
    | inl a ↦ in_left k o (trees (P true) calls) (record { section = Block; owner = c; part = y } ∷ v) a
    | inr (inl a) ↦ in_right k o (trees (P true) calls) (record { section = Block; owner = c; part = y } ∷ v) (inl a)
    | inr (inr a) ↦ in_right k o (trees (P true) calls) (record { section = Block; owner = c; part = y } ∷ v) (inr (h a))
  ]
  other_block k o c x y u v (failed f) h i = i
  other_block k o c x y u v unanswered h i = i

  in_rest_same : (k : Section) (o c : Call) → K c → (f g : Bool) (e : End Bound Failure) → (m.head c false).end ≡ e → In k o (rest_of p.same p.shares m (P true) c f e) → In k o (rest_of p.same p.shares m (P true) c g e)
  in_rest_same k o c z f g (went bound) w i =
      subst (λ q. In k o (behind_head (P true) c (block_of p.same p.shares m (P true) c g bound) (trees_behind (p.shares c) (P true) (m.subsequents c g bound)) q)) (groups_same f g c z bound w)
      (other_block k o c (block_of p.same p.shares m (P true) c f bound) (block_of p.same p.shares m (P true) c g bound) (trees_behind (p.shares c) (P true) (m.subsequents c f bound)) (trees_behind (p.shares c) (P true) (m.subsequents c g bound)) (m.priors c f bound)
      (behind_at (p.shares c) k o (m.subsequents c f bound) (m.subsequents c g bound) (λ e. late_same f g c z e bound w)) i)
  in_rest_same k o c z f g (failed x) w i = i
  in_rest_same k o c z f g unanswered w i = i

  in_tree_same : (k : Section) (o c : Call) → K c → (f g : Bool) → In k o (tree_of p.same p.shares m (P true) f c) → In k o (tree_of p.same p.shares m (P true) g c)
  in_tree_same k o c z f g (inl x) = inl x
  in_tree_same k o c z f g (inr x) =
      inr (in_rest_same k o c z f g (m.head c g).end (ap (λ q. q.end) (heads_same false g c z)) (subst (λ e. In k o (rest_of p.same p.shares m (P true) c f e)) (ap (λ q. q.end) (heads_same f g c z)) x))

  in_same : (f g : Bool) (c : Call) → K c → rank c < N → (k : Section) (o : Call) → In k o (P f c) → In k o (P g c)
  in_same f g c z lt k o i = subst (λ ps. In k o ps) (sym (fix g c lt)) (in_tree_same k o c z f g (subst (λ ps. In k o ps) (fix f c lt) i))

  -- ---- owners lie below

  owners_list : (n : ℕ) (f : Bool) → ((d : Call) → rank d < n → (k : Section) (o : Call) → In k o (P f d) → rank o < n)
      → (cs : List Call) → AllByRecursion (λ d. rank d < n) cs → (k : Section) (o : Call) → In k o (trees (P f) cs) → rank o < n
  owners_list n f one [] h k o i = absurd i
  owners_list n f one (c ∷ cs) h k o i = elim (in_split k o (P f c) (trees (P f) cs) i) [ inl x ↦ one c h.0 k o x | inr x ↦ owners_list n f one cs h.1 k o x ]

  owner_here : (o c : Call) → o ≡ c → rank o ≤ rank c
  owner_here o c e = let y : rank o ≡ rank c = ap rank e in omega (arith, y)

  in_behind : (k : Section) (o c : Call) (x : Own) (u : List (TreePiece Call Entry Failure)) (g : End (List Call) Failure) → In k o (behind_head (P true) c x u g)
      → ((calls : List Call) → g ≡ went calls → In k o (trees (P true) calls) → rank o ≤ rank c) → (In k o u → rank o ≤ rank c) → rank o ≤ rank c
  in_behind k o c x u (went calls) i h l = elim (in_split k o (trees (P true) calls) (record { section = Block; owner = c; part = x } ∷ u) i) [
    | inl a ↦ h calls refl a
    | inr (inl a) ↦ owner_here o c a.1
    | inr (inr a) ↦ l a
  ]
  in_behind k o c x u (failed f) (inl i) h l = owner_here o c i.1
  in_behind k o c x u (failed f) (inr i) h l = absurd i
  in_behind k o c x u unanswered (inl i) h l = owner_here o c i.1
  in_behind k o c x u unanswered (inr i) h l = absurd i

  in_late : (s : Bool) (k : Section) (o : Call) (n : ℕ) (g : End (List Call) Failure) → In k o (trees_behind s (P true) g) → ((calls : List Call) → g ≡ went calls → In k o (trees (P true) calls) → rank o < n) → rank o < n
  in_late true k o n (went calls) i h = h calls refl i
  in_late true k o n (failed x) i h = absurd i
  in_late true k o n unanswered i h = absurd i
  in_late false k o n g i h = absurd i

  in_rest : (k : Section) (o c : Call) (f : Bool) (e : End Bound Failure) → ((d : Call) → rank d < rank c → (k' : Section) (o' : Call) → In k' o' (P true d) → rank o' < rank c)
      → In k o (rest_of p.same p.shares m (P true) c f e) → rank o ≤ rank c
  in_rest k o c f (went bound) one i = in_behind k o c (block_of p.same p.shares m (P true) c f bound) (trees_behind (p.shares c) (P true) (m.subsequents c f bound)) (m.priors c f bound) i
      (λ calls e x. let y : rank o < rank c = owners_list (rank c) true one calls (ranked.priors c f bound calls e) k o x in omega (arith, y))
      (λ l. let y : rank o < rank c = in_late (p.shares c) k o (rank c) (m.subsequents c f bound) l (λ calls e x. owners_list (rank c) true one calls (ranked.subsequents c f bound calls e) k o x) in omega (arith, y))
  in_rest k o c f (failed x) one i = absurd i
  in_rest k o c f unanswered one i = absurd i

  in_tree : (k : Section) (o c : Call) (f : Bool) → ((d : Call) → rank d < rank c → (k' : Section) (o' : Call) → In k' o' (P true d) → rank o' < rank c)
      → In k o (tree_of p.same p.shares m (P true) f c) → rank o ≤ rank c
  in_tree k o c f one (inl x) = owner_here o c x.1
  in_tree k o c f one (inr x) = in_rest k o c f (m.head c f).end one x

  owners : (n : ℕ) (f : Bool) (c : Call) → rank c < n → n ≤ N → (k : Section) (o : Call) → In k o (P f c) → rank o ≤ rank c
  owners zero f c lt le k o i = absurd (omega (arith, lt))
  owners (suc n) f c lt le k o i = in_tree k o c f
      (λ d ld k' o' i'. let y : rank o' ≤ rank d = owners n true d (omega (arith, ld, lt)) (omega (arith, le)) k' o' i' in omega (arith, y, ld))
      (subst (λ ps. In k o ps) (fix f c (omega (arith, lt, le))) i)

  owners_below : (n : ℕ) → n ≤ N → (f : Bool) (cs : List Call) → AllByRecursion (λ d. rank d < n) cs → (k : Section) (o : Call) → In k o (trees (P f) cs) → rank o < n
  owners_below n le f cs h k o i = owners_list n f (λ d ld k' o' i'. let y : rank o' ≤ rank d = owners n f d ld le k' o' i' in omega (arith, y, ld)) cs h k o i

  -- ---- calls

  -- What stands earlier, E, and the calls that are done belong together: the tree of each one done stands in E whole,
  -- and E has no other piece of a call below b.
  pub record Good (b : ℕ) (done : List Call) (E : List (TreePiece Call Entry Failure)) : Type 0 where
    pub complete : (c : Call) → Met c done → (f : Bool) (k : Section) (o : Call) → In k o (P f c) → In k o E
    pub only : (k : Section) (c : Call) → In k c E → Met c done ⊎ (b ≤ rank c)

  pub record Outcome (f : Bool) (b : ℕ) (E : List (TreePiece Call Entry Failure)) (done done' cs : List Call) (piece : List Entry) (failure : Option Failure) : Type 0 where
    pub events : joined (firsts p.same E (trees (P f) cs)) ≡ part (ev piece) (end_by failure)
    pub good : failure ≡ None → Good b done' (E ++ trees (P f) cs)
    pub kept : failure ≡ None → (c : Call) → Met c done → Met c done'

  start : (b : ℕ) → Good b [] []
  start b = record { complete = λ c i. absurd i; only = λ k c i. absurd i }

  all_events : (E : Pieces) (f : Bool) (c : Call) (cs : List Call)
      → joined (firsts p.same E (P f c ++ trees (P f) cs)) ≡ in_turn (joined (firsts p.same E (P f c))) (joined (firsts p.same (E ++ P f c) (trees (P f) cs)))
  all_events E f c cs = ap joined (firsts_append p.same decides E (P f c) (trees (P f) cs)) ∙ joined_append (firsts p.same E (P f c)) (firsts p.same (E ++ P f c) (trees (P f) cs))

  -- one call that isn't done
  module _ (f : Bool) (c : Call) (done : List Call) (E : List (TreePiece Call Entry Failure)) (b : ℕ)
      (unmet : is_met p.same c done ≡ false) (lt : rank c < b) (le : b ≤ N) (good : Good b done E) where
    abbrev hd : TreePiece Call Entry Failure
    hd = record { section = Head; owner = c; part = record { events = (m.head c f).events; end = ended (m.head c f).end } }

    abbrev bl : Bound → TreePiece Call Entry Failure
    bl bound = record { section = Block; owner = c; part = block_of p.same p.shares m (P true) c f bound }

    abbrev fl : Failure → TreePiece Call Entry Failure
    fl x = record { section = Fault; owner = c; part = record { events = []; end = failed x } }

    known : rank c < N
    known = omega (arith, lt, le)

    not_met : Met c done → ⊥
    not_met i = let e : is_met p.same c done ≡ true = met_complete p.same decides c done i in let x : true ≡ false = sym e ∙ unmet in cc

    not_in : (k : Section) → In k c E → ⊥
    not_in k i = elim (good.only k c i) [ inl x ↦ not_met x | inr x ↦ absurd (omega (arith, x, lt)) ]

    unfolded : (e : End Bound Failure) → (m.head c f).end ≡ e → P f c ≡ hd ∷ rest_of p.same p.shares m (P true) c f e
    unfolded e h = fix f c known ∙ ap (λ y. hd ∷ rest_of p.same p.shares m (P true) c f y) h

    call_ends : (x : Failure) → (m.head c f).end ≡ failed x → joined (firsts p.same E (P f c)) ≡ in_turn hd.part nothing
    call_ends x h = ap (λ ps. joined (firsts p.same E ps)) (unfolded (failed x) h) ∙ ap joined (firsts_kept p.same decides E hd [] (not_in Head))

    no_fault : In Fault c (E ++ hd ∷ []) → ⊥
    no_fault i = elim (in_split Fault c E (hd ∷ []) i) [
      | inl y ↦ not_in Fault y
      | inr (inl y) ↦ (let e : Fault ≡ Head = y.0 in cc)
      | inr (inr y) ↦ absurd y
    ]

    call_faults : (bound : Bound) (x : Failure) → (m.head c f).end ≡ went bound → m.priors c f bound ≡ failed x
        → joined (firsts p.same E (P f c)) ≡ in_turn hd.part (part [] (failed x))
    call_faults bound x h g =
        ap (λ ps. joined (firsts p.same E ps)) (unfolded (went bound) h ∙ ap (λ y. hd ∷ behind_head (P true) c (block_of p.same p.shares m (P true) c f bound) (trees_behind (p.shares c) (P true) (m.subsequents c f bound)) y) g)
        ∙ ap joined (firsts_kept p.same decides E hd (fl x ∷ []) (not_in Head))
        ∙ ap (λ ps. in_turn hd.part (joined ps)) (firsts_kept p.same decides (E ++ hd ∷ []) (fl x) [] no_fault)

    good_priors : Good (rank c) done (E ++ hd ∷ [])
    good_priors = record {
      complete = λ d i f' k o j. in_left k o E (hd ∷ []) (good.complete d i f' k o j);
      only = λ k o i. elim (in_split k o E (hd ∷ []) i) [
        | inl x ↦ elim (good.only k o x) [ inl y ↦ inl y | inr y ↦ inr (omega (arith, y, lt)) ]
        | inr (inl x) ↦ inr (let y : rank o ≡ rank c = ap rank x.1 in omega (arith, y))
        | inr (inr x) ↦ absurd x
      ];
    }

    module _ (bound : Bound) (priors : List Call) (through : (m.head c f).end ≡ went bound) (asked : m.priors c f bound ≡ went priors) where
      abbrev T : List (TreePiece Call Entry Failure)
      T = trees (P true) priors

      below : (k : Section) (o : Call) → In k o (trees (P true) priors) → rank o < rank c
      below k o i = owners_below (rank c) (omega (arith, known)) true priors (ranked.priors c f bound priors asked) k o i

      abbrev L : List (TreePiece Call Entry Failure)
      L = trees_behind (p.shares c) (P true) (m.subsequents c f bound)

      abbrev E1 : List (TreePiece Call Entry Failure)
      E1 = ((E ++ hd ∷ []) ++ T) ++ bl bound ∷ []

      late_below : (k : Section) (o : Call) → In k o (trees_behind (p.shares c) (P true) (m.subsequents c f bound)) → rank o < rank c
      late_below k o i = in_late (p.shares c) k o (rank c) (m.subsequents c f bound) i (λ calls e x. owners_below (rank c) (omega (arith, known)) true calls (ranked.subsequents c f bound calls e) k o x)

      tree_is : P f c ≡ hd ∷ (T ++ bl bound ∷ L)
      tree_is = unfolded (went bound) through ∙ ap (λ y. hd ∷ behind_head (P true) c (block_of p.same p.shares m (P true) c f bound) (trees_behind (p.shares c) (P true) (m.subsequents c f bound)) y) asked

      no_block : In Block c ((E ++ hd ∷ []) ++ T) → ⊥
      no_block i = elim (in_split Block c (E ++ hd ∷ []) T i) [
        | inl x ↦ elim (in_split Block c E (hd ∷ []) x) [
          | inl y ↦ not_in Block y
          | inr (inl y) ↦ (let e : Block ≡ Head = y.0 in cc)
          | inr (inr y) ↦ absurd y
        ]
        | inr x ↦ absurd (let y : rank c < rank c = below Block c x in omega (arith, y))
      ]

      -- what the tree of the call hands over
      call_events : joined (firsts p.same E (P f c)) ≡ in_turn hd.part (in_turn (joined (firsts p.same (E ++ hd ∷ []) T)) (in_turn (block_of p.same p.shares m (P true) c f bound) (joined (firsts p.same E1 L))))
      call_events =
          ap (λ ps. joined (firsts p.same E ps)) tree_is
          ∙ ap joined (firsts_kept p.same decides E hd (T ++ bl bound ∷ L) (not_in Head))
          ∙ ap (in_turn hd.part)
          (ap joined (firsts_append p.same decides (E ++ hd ∷ []) T (bl bound ∷ L) ∙ ap (λ ps. firsts p.same (E ++ hd ∷ []) T ++ ps) (firsts_kept p.same decides ((E ++ hd ∷ []) ++ T) (bl bound) L no_block))
          ∙ joined_append (firsts p.same (E ++ hd ∷ []) T) (bl bound ∷ firsts p.same E1 L))

      whole : E1 ++ L ≡ E ++ P f c
      whole = append_assoc ((E ++ hd ∷ []) ++ T) (bl bound ∷ []) L ∙ ap (λ l. l ++ bl bound ∷ L) (snoc_more p.same decides E hd T) ∙ append_assoc E (hd ∷ T) (bl bound ∷ L) ∙ ap (λ l. E ++ l) (sym tree_is)

      -- after the block
      good_block : (done1 : List Call) → Good (rank c) done1 ((E ++ hd ∷ []) ++ T) → Good (rank c) done1 E1
      good_block done1 g = record {
        complete = λ d i f' k o x. in_left k o ((E ++ hd ∷ []) ++ T) (bl bound ∷ []) (g.complete d i f' k o x);
        only = λ k o i. elim (in_split k o ((E ++ hd ∷ []) ++ T) (bl bound ∷ []) i) [
          | inl x ↦ g.only k o x
          | inr (inl x) ↦ inr (let y : rank o ≡ rank c = ap rank x.1 in omega (arith, y))
          | inr (inr x) ↦ absurd x
        ];
      }

      -- once the call has joined
      good_done : K c → (last done3 : List Call) → Good (rank c) last (E1 ++ L) → ((d : Call) → Met d done → Met d last) → Joins p.same c last done3 → Good b done3 (E ++ P f c)
      good_done z last done3 g kept j = record {
        complete = λ d i f' k o x. elim (met_joined p.same decides c last done3 j d i) [
          | inl e ↦ in_right k o E (P f c) (in_same f' f c z known k o (subst (λ q. In k o (P f' q)) e x))
          | inr n ↦ subst (λ l. In k o l) whole (g.complete d n f' k o x)
        ];
        only = λ k o i. let i' = subst (λ l. In k o l) (sym whole) i in elim (g.only k o i') [
          | inl w ↦ inl (met_before p.same decides c last done3 j o w)
          | inr ge ↦ elim (in_split k o E1 L i') [
            | inl x ↦ elim (in_split k o ((E ++ hd ∷ []) ++ T) (bl bound ∷ []) x) [
              | inl y ↦ elim (in_split k o (E ++ hd ∷ []) T y) [
                | inl z ↦ elim (in_split k o E (hd ∷ []) z) [
                  | inl u ↦ elim (good.only k o u) [ inl w ↦ inl (met_before p.same decides c last done3 j o (kept o w)) | inr w ↦ inr w ]
                  | inr (inl u) ↦ inl (subst (λ q. Met q done3) (sym u.1) (met_itself p.same decides c last done3 j))
                  | inr (inr u) ↦ absurd u
                ]
                | inr z ↦ absurd (let u : rank o < rank c = below k o z in omega (arith, u, ge))
              ]
              | inr (inl y) ↦ inl (subst (λ q. Met q done3) (sym y.1) (met_itself p.same decides c last done3 j))
              | inr (inr y) ↦ absurd y
            ]
            | inr x ↦ absurd (let u : rank o < rank c = late_below k o x in omega (arith, u, ge))
          ]
        ];
      }

  -- ---- blocks

  -- the body, and after it the subsequents' run in the block or their trees after it
  late_events : (s : Bool) (c : Call) (f : Bool) (bound : Bound) (E₁ : Pieces) (q r : List Entry) (subsequents : List Call) (x : Option Failure) → IsEnded is_event Agrees m c f bound (ev q) (Ok subsequents)
      → joined (firsts p.same (cond s E₁ []) (trees (P true) subsequents)) ≡ part (ev r) (end_by x)
      → in_turn (in_turn (m.body c f bound) (behind_body p.same s (P true) (m.subsequents c f bound))) (joined (firsts p.same E₁ (trees_behind s (P true) (m.subsequents c f bound)))) ≡ part (ev (q ++ r)) (end_by x)
  late_events true c f bound E₁ q r subsequents x h s =
      ap (λ y. in_turn (in_turn y (behind_body p.same true (P true) (m.subsequents c f bound))) (joined (firsts p.same E₁ (trees_behind true (P true) (m.subsequents c f bound))))) h.0
      ∙ ap (λ g. in_turn (after (ev q) (went tt) (behind_body p.same true (P true) g)) (joined (firsts p.same E₁ (trees_behind true (P true) g)))) h.1
      ∙ ap (λ l. in_turn (part l (went tt)) (joined (firsts p.same E₁ (trees (P true) subsequents)))) (append-nil (ev q))
      ∙ ap (after (ev q) (went tt)) s
      ∙ ap (λ l. part l (end_by x)) (sym (events_append is_event Agrees q r))
  late_events false c f bound E₁ q r subsequents x h s =
      ap (λ y. in_turn (in_turn y (subsequents_run p.same (P true) (m.subsequents c f bound))) nothing) h.0
      ∙ ap (λ g. in_turn (after (ev q) (went tt) (subsequents_run p.same (P true) g)) nothing) h.1
      ∙ ap (λ y. in_turn (after (ev q) (went tt) y) nothing) s
      ∙ after_nothing (ev q ++ ev r) (end_by x)
      ∙ ap (λ l. part l (end_by x)) (sym (events_append is_event Agrees q r))

  behind_failed : (s : Bool) (x : Failure) → behind_body p.same s (P true) (failed x) ≡ part [] (failed x)
  behind_failed true x = refl
  behind_failed false x = refl

  late_failed : (s : Bool) (c : Call) (f : Bool) (bound : Bound) (after' : Own) (q : List Entry) (x : Failure) → IsEnded is_event Agrees m c f bound (ev q) (Err x)
      → in_turn (in_turn (m.body c f bound) (behind_body p.same s (P true) (m.subsequents c f bound))) after' ≡ part (ev q) (failed x)
  late_failed s c f bound after' q x (inl h) = ap (λ y. in_turn (in_turn y (behind_body p.same s (P true) (m.subsequents c f bound))) after') h
  late_failed s c f bound after' q x (inr h) =
      ap (λ y. in_turn (in_turn y (behind_body p.same s (P true) (m.subsequents c f bound))) after') h.0
      ∙ ap (λ g. in_turn (after (ev q) (went tt) (behind_body p.same s (P true) g)) after') h.1
      ∙ ap (λ y. in_turn (after (ev q) (went tt) y) after') (behind_failed s x)
      ∙ ap (λ l. part l (failed x)) (append-nil (ev q))

  both_all : (b : ℕ) (cs : List Call) → AllByRecursion (λ c. rank c < b) cs → AllByRecursion K cs → AllByRecursion (λ c. (rank c < b) × K c) cs
  both_all b [] r k = tt
  both_all b (c ∷ cs) r k = ((r.0, k.0), both_all b cs r.1 k.1)

  -- ---- the theorem

  abbrev pub Says : Bool → List Call → List Entry → List Call → List Call → List Entry → Option Failure → Type 0
  Says f done old cs done' new failure = (piece : List Entry) × (new ≡ old ++ piece) ×
      (AllByRecursion Agrees piece → (E : List (TreePiece Call Entry Failure)) (b : ℕ) → AllByRecursion (λ c. (rank c < b) × K c) cs → b ≤ N → Good b done E → Outcome f b E done done' cs piece failure)

  -- a call that is done already
  again_says : (f : Bool) (done : List Call) (c : Call) (cs : List Call) (done' : List Call) (E : Pieces) (b : ℕ) (piece : List Entry) (failure : Option Failure)
      → is_met p.same c done ≡ true → Good b done E → (Good b done (E ++ P f c) → Outcome f b (E ++ P f c) done done' cs piece failure) → Outcome f b E done done' (c ∷ cs) piece failure
  again_says f done c cs done' E b piece failure met good next =
      let i = met_sound p.same decides c done met in
      let more : Good b done (E ++ P f c) = record {
        complete = λ d n f' k o j. in_left k o E (P f c) (good.complete d n f' k o j);
        only = λ k o j. elim (in_split k o E (P f c) j) [ inl x ↦ good.only k o x | inr x ↦ good.only k o (good.complete c i f k o x) ];
      } in
      let rest = next more in
      record {
        events = ap joined (firsts_append p.same decides E (P f c) (trees (P f) cs) ∙ ap (λ ps. ps ++ firsts p.same (E ++ P f c) (trees (P f) cs)) (firsts_none p.same decides E (P f c) (λ k o j. good.complete c i f k o j))) ∙ rest.events;
        good = λ e. subst (λ l. Good b done' l) (append_assoc E (P f c) (trees (P f) cs)) (rest.good e);
        kept = rest.kept;
      }

  module _ (f : Bool) (done : List Call) (c : Call) (cs : List Call) (old log1 : List Entry) (unmet : is_met p.same c done ≡ false) where
    -- a call that fails ends it all
    ends : (E : Pieces) (b : ℕ) (done' : List Call) (piece : List Entry) (x : Failure) → joined (firsts p.same E (P f c)) ≡ part (ev piece) (failed x) → Outcome f b E done done' (c ∷ cs) piece (Some x)
    ends E b done' piece x one = record {
      events = all_events E f c cs ∙ ap (λ y. in_turn y (joined (firsts p.same (E ++ P f c) (trees (P f) cs)))) one;
      good = λ e. absurd (let z : Some x ≡ None = e in cc);
      kept = λ e. absurd (let z : Some x ≡ None = e in cc);
    }

    head_failed : (E : Pieces) (b : ℕ) → rank c < b → b ≤ N → Good b done E → (q : List Entry) (x : Failure) → IsBegun is_event Agrees m c f (ev q) (Err x) → joined (firsts p.same E (P f c)) ≡ part (ev q) (failed x)
    head_failed E b lt le good q x (inl h) =
        call_ends f c done E b unmet lt le good x (ap (λ y. y.end) h) ∙ ap (λ y. in_turn (part y.events (ended y.end)) nothing) h
    head_failed E b lt le good q x (inr h) =
        call_faults f c done E b unmet lt le good h.0 x (ap (λ y. y.end) h.1) h.2 ∙ ap (λ y. in_turn (part y.events (ended y.end)) (part [] (failed x))) h.1 ∙ ap (λ l. part l (failed x)) (append-nil (ev q))

    not_begun_says : (new : List Entry) (x : Failure) → p.Begins c f old new (Err x) → Says f done old (c ∷ cs) done new (Some x)
    not_begun_says new x begins =
        let hb = goby.begun c f old new (Err x) begins in
        (hb.0, hb.1, λ a E b lie le good. ends E b done hb.0 x (head_failed E b lie.0.0 le good hb.0 x (hb.2 a)))

    module _ (bound : Bound) (priors : List Call) (begins : p.Begins c f old log1 (Ok (bound, priors))) where
      abbrev hb : (piece : List Entry) × (log1 ≡ old ++ piece) × (AllByRecursion Agrees piece → IsBegun is_event Agrees m c f (ev piece) (Ok (bound, priors)))
      hb = goby.begun c f old log1 (Ok (bound, priors)) begins

      -- the call's own events
      one : (E : Pieces) (b : ℕ) (lt : rank c < b) (le : b ≤ N) (good : Good b done E) (q : List Entry) → (h : IsBegun is_event Agrees m c f (ev q) (Ok (bound, priors))) → (before own : Own)
          → joined (firsts p.same (E ++ hd f c done E b unmet lt le good ∷ []) (trees (P true) priors)) ≡ before
          → in_turn (block_of p.same p.shares m (P true) c f bound) (joined (firsts p.same (E1 f c done E b unmet lt le good bound priors (ap (λ y. y.end) h.0) h.1) (trees_behind (p.shares c) (P true) (m.subsequents c f bound)))) ≡ own
          → joined (firsts p.same E (P f c)) ≡ after (ev q) (went tt) (in_turn before own)
      one E b lt le good q h before own s t =
          let rest = in_turn (block_of p.same p.shares m (P true) c f bound) (joined (firsts p.same (E1 f c done E b unmet lt le good bound priors (ap (λ y. y.end) h.0) h.1) (trees_behind (p.shares c) (P true) (m.subsequents c f bound)))) in
          call_events f c done E b unmet lt le good bound priors (ap (λ y. y.end) h.0) h.1
          ∙ ap (λ y. in_turn (part y.events (ended y.end)) (in_turn (joined (firsts p.same (E ++ hd f c done E b unmet lt le good ∷ []) (trees (P true) priors))) rest)) h.0
          ∙ ap (λ y. after (ev q) (went tt) (in_turn y rest)) s
          ∙ ap (λ y. after (ev q) (went tt) (in_turn before y)) t

      two : (q r : List Entry) → ev (q ++ r) ≡ ev q ++ ev r
      two q r = events_append is_event Agrees q r

      priors_outcome : (done1 : List Call) (new : List Entry) (x : Option Failure) (mp : Says true done log1 priors done1 new x) → K c → IsBegun is_event Agrees m c f (ev hb.0) (Ok (bound, priors)) → AllByRecursion Agrees mp.0
          → (E : Pieces) (b : ℕ) (lt : rank c < b) (le : b ≤ N) (good : Good b done E)
          → Outcome true (rank c) (E ++ hd f c done E b unmet lt le good ∷ []) done done1 priors mp.0 x
      priors_outcome done1 new x mp z h a E b lt le good =
          mp.2 a (E ++ hd f c done E b unmet lt le good ∷ []) (rank c) (both_all (rank c) priors (ranked.priors c f bound priors h.1) (closed.priors c f bound priors z (ap (λ y. y.end) h.0) h.1)) (omega (arith, lt, le)) (good_priors f c done E b unmet lt le good)

      prior_says : (done' : List Call) (new : List Entry) (x : Failure) → Says true done log1 priors done' new (Some x) → Says f done old (c ∷ cs) done' new (Some x)
      prior_says done' new x mp = (
        hb.0 ++ mp.0,
        grown old hb.0 mp.0 hb.1 mp.1,
        λ a E b lie le good.
            let h = hb.2 (agrees_left is_event Agrees hb.0 mp.0 a) in
            let op = priors_outcome done' new (Some x) mp lie.0.1 h (agrees_right is_event Agrees hb.0 mp.0 a) E b lie.0.0 le good in
            ends E b done' (hb.0 ++ mp.0) x
            (one E b lie.0.0 le good hb.0 h _ _ op.events refl ∙ ap (λ l. part l (failed x)) (sym (two hb.0 mp.0))),
      )

      module _ (done1 : List Call) (log2 : List Entry) (mp : Says true done log1 priors done1 log2 None) where
        -- after the priors: q, which is the block's and what stands after it
        behind : (q : List Entry) (x : Option Failure) → K c → AllByRecursion Agrees (hb.0 ++ (mp.0 ++ q))
            → ((E₁ : Pieces) → Good (rank c) done1 E₁ → in_turn (block_of p.same p.shares m (P true) c f bound) (joined (firsts p.same E₁ (trees_behind (p.shares c) (P true) (m.subsequents c f bound)))) ≡ part (ev q) (end_by x))
            → (E : Pieces) (b : ℕ) (lt : rank c < b) (le : b ≤ N) (good : Good b done E) → joined (firsts p.same E (P f c)) ≡ part (ev (hb.0 ++ (mp.0 ++ q))) (end_by x)
        behind q x z a t E b lt le good =
            let h = hb.2 (agrees_left is_event Agrees hb.0 (mp.0 ++ q) a) in
            let op = priors_outcome done1 log2 None mp z h (agrees_left is_event Agrees mp.0 q (agrees_right is_event Agrees hb.0 (mp.0 ++ q) a)) E b lt le good in
            one E b lt le good hb.0 h _ _ op.events (t _ (good_block f c done E b unmet lt le good bound priors (ap (λ y. y.end) h.0) h.1 done1 (op.good refl)))
            ∙ ap (λ l. part (ev hb.0 ++ l) (end_by x)) (sym (two mp.0 q))
            ∙ ap (λ l. part l (end_by x)) (sym (two hb.0 (mp.0 ++ q)))

        last : (q : List Entry) → AllByRecursion Agrees (hb.0 ++ (mp.0 ++ q)) → AllByRecursion Agrees q
        last q a = agrees_right is_event Agrees mp.0 q (agrees_right is_event Agrees hb.0 (mp.0 ++ q) a)

        not_ended_says : (new : List Entry) (x : Failure) → p.Ends c f bound log2 new (Err x) → Says f done old (c ∷ cs) done1 new (Some x)
        not_ended_says new x e =
            let he = goby.ended c f bound log2 new (Err x) e in (
              hb.0 ++ (mp.0 ++ he.0),
              grown old hb.0 (mp.0 ++ he.0) hb.1 (grown log1 mp.0 he.0 mp.1 he.1),
              λ a E b lie le good.
                  ends E b done1 (hb.0 ++ (mp.0 ++ he.0)) x (behind he.0 (Some x) lie.0.1 a (λ E₁ g. late_failed (p.shares c) c f bound _ he.0 x (he.2 (last he.0 a))) E b lie.0.0 le good),
            )

        module _ (log3 : List Entry) (subsequents : List Call) (e : p.Ends c f bound log2 log3 (Ok subsequents)) where
          abbrev he : (piece : List Entry) × (log3 ≡ log2 ++ piece) × (AllByRecursion Agrees piece → IsEnded is_event Agrees m c f bound (ev piece) (Ok subsequents))
          he = goby.ended c f bound log2 log3 (Ok subsequents) e

          late_good : (s : Bool) (E₁ : Pieces) → Good (rank c) done1 E₁ → Good (rank c) (cond s done1 []) (cond s E₁ [])
          late_good true E₁ g = g
          late_good false E₁ g = start (rank c)

          late_outcome : (done2 : List Call) (new : List Entry) (x : Option Failure) (ms : Says true (cond (p.shares c) done1 []) log3 subsequents done2 new x) → K c → (m.head c f).end ≡ went bound → rank c < N → AllByRecursion Agrees (he.0 ++ ms.0)
              → (E₁ : Pieces) → Good (rank c) done1 E₁ → Outcome true (rank c) (cond (p.shares c) E₁ []) (cond (p.shares c) done1 []) done2 subsequents ms.0 x
          late_outcome done2 new x ms z w lt a E₁ g =
              let h = he.2 (agrees_left is_event Agrees he.0 ms.0 a) in
              ms.2 (agrees_right is_event Agrees he.0 ms.0 a) (cond (p.shares c) E₁ []) (rank c) (both_all (rank c) subsequents (ranked.subsequents c f bound subsequents h.1) (closed.subsequents c f bound subsequents z w h.1)) (omega (arith, lt)) (late_good (p.shares c) E₁ g)

          block_is : (done2 : List Call) (new : List Entry) (x : Option Failure) (ms : Says true (cond (p.shares c) done1 []) log3 subsequents done2 new x) → K c → (m.head c f).end ≡ went bound → rank c < N → AllByRecursion Agrees (he.0 ++ ms.0)
              → (E₁ : Pieces) → Good (rank c) done1 E₁
              → in_turn (block_of p.same p.shares m (P true) c f bound) (joined (firsts p.same E₁ (trees_behind (p.shares c) (P true) (m.subsequents c f bound)))) ≡ part (ev (he.0 ++ ms.0)) (end_by x)
          block_is done2 new x ms z w lt a E₁ g =
              late_events (p.shares c) c f bound E₁ he.0 ms.0 subsequents x (he.2 (agrees_left is_event Agrees he.0 ms.0 a)) (late_outcome done2 new x ms z w lt a E₁ g).events

          subsequent_says : (done2 : List Call) (new : List Entry) (x : Failure) → Says true (cond (p.shares c) done1 []) log3 subsequents done2 new (Some x) → Says f done old (c ∷ cs) done1 new (Some x)
          subsequent_says done2 new x ms =
              let q = he.0 ++ ms.0 in (
                hb.0 ++ (mp.0 ++ q),
                grown old hb.0 (mp.0 ++ q) hb.1 (grown log1 mp.0 q mp.1 (grown log2 he.0 ms.0 he.1 ms.1)),
                λ a E b lie le good.
                    ends E b done1 (hb.0 ++ (mp.0 ++ q)) x (behind q (Some x) lie.0.1 a (block_is done2 new (Some x) ms lie.0.1 (ap (λ y. y.end) (hb.2 (agrees_left is_event Agrees hb.0 (mp.0 ++ q) a)).0) (omega (arith, lie.0.0, le)) (last q a)) E b lie.0.0 le good),
              )

          -- which are done then, and which trees stand earlier
          last_good : (s : Bool) (g' : End (List Call) Failure) (done2 : List Call) (E₁ : Pieces) (piece : List Entry) → g' ≡ went subsequents → Good (rank c) done1 E₁ → Outcome true (rank c) (cond s E₁ []) (cond s done1 []) done2 subsequents piece None
              → Good (rank c) (cond s done2 done1) (E₁ ++ trees_behind s (P true) g')
          last_good true g' done2 E₁ piece e g o = subst (λ x. Good (rank c) done2 (E₁ ++ trees_behind true (P true) x)) (sym e) (o.good refl)
          last_good false g' done2 E₁ piece e g o = subst (λ l. Good (rank c) done1 l) (sym (append-nil E₁)) g

          last_kept : (s : Bool) (done2 : List Call) (E₁ : Pieces) (piece : List Entry) → Outcome true (rank c) (cond s E₁ []) (cond s done1 []) done2 subsequents piece None → (d : Call) → Met d done1 → Met d (cond s done2 done1)
          last_kept true done2 E₁ piece o d i = o.kept refl d i
          last_kept false done2 E₁ piece o d i = i

          entered_says : (done2 : List Call) (log4 : List Entry) → Says true (cond (p.shares c) done1 []) log3 subsequents done2 log4 None → (done3 : List Call) → Joins p.same c (cond (p.shares c) done2 done1) done3
              → (done' : List Call) (new : List Entry) (failure : Option Failure) → Says f done3 log4 cs done' new failure → Says f done old (c ∷ cs) done' new failure
          entered_says done2 log4 ms done3 j done' new failure mr =
              let q = he.0 ++ ms.0 in
              let own = hb.0 ++ (mp.0 ++ q) in (
                own ++ mr.0,
                grown old own mr.0 (grown old hb.0 (mp.0 ++ q) hb.1 (grown log1 mp.0 q mp.1 (grown log2 he.0 ms.0 he.1 ms.1))) mr.1,
                λ a E b lie le good.
                    let z = lie.0.1 in
                    let a0 = agrees_left is_event Agrees own mr.0 a in
                    let h = hb.2 (agrees_left is_event Agrees hb.0 (mp.0 ++ q) a0) in
                    let op = priors_outcome done1 log2 None mp z h (agrees_left is_event Agrees mp.0 q (agrees_right is_event Agrees hb.0 (mp.0 ++ q) a0)) E b lie.0.0 le good in
                    let here = behind q None z a0 (block_is done2 log4 None ms z (ap (λ y. y.end) h.0) (omega (arith, lie.0.0, le)) (last q a0)) E b lie.0.0 le good in
                    let ends' = he.2 (agrees_left is_event Agrees he.0 ms.0 (last q a0)) in
                    let gb = good_block f c done E b unmet lie.0.0 le good bound priors (ap (λ y. y.end) h.0) h.1 done1 (op.good refl) in
                    let ol = late_outcome done2 log4 None ms z (ap (λ y. y.end) h.0) (omega (arith, lie.0.0, le)) (last q a0) (E1 f c done E b unmet lie.0.0 le good bound priors (ap (λ y. y.end) h.0) h.1) gb in
                    let gl = last_good (p.shares c) (m.subsequents c f bound) done2 (E1 f c done E b unmet lie.0.0 le good bound priors (ap (λ y. y.end) h.0) h.1) ms.0 ends'.1 gb ol in
                    let gd = good_done f c done E b unmet lie.0.0 le good bound priors (ap (λ y. y.end) h.0) h.1 z (cond (p.shares c) done2 done1) done3 gl
                    (λ d i. last_kept (p.shares c) done2 (E1 f c done E b unmet lie.0.0 le good bound priors (ap (λ y. y.end) h.0) h.1) ms.0 ol d (op.kept refl d i)) j in
                    let rest = mr.2 (agrees_right is_event Agrees own mr.0 a) (E ++ P f c) b lie.1 le gd in
                    record {
                      events = all_events E f c cs
                          ∙ ap (λ y. in_turn y (joined (firsts p.same (E ++ P f c) (trees (P f) cs)))) here
                          ∙ ap (after (ev own) (went tt)) rest.events
                          ∙ ap (λ l. part l (end_by failure)) (sym (two own mr.0));
                      good = λ e. subst (λ l. Good b done' l) (append_assoc E (P f c) (trees (P f) cs)) (rest.good e);
                      kept = λ e d i. rest.kept e d (met_before p.same decides c (cond (p.shares c) done2 done1) done3 j d (last_kept (p.shares c) done2 (E1 f c done E b unmet lie.0.0 le good bound priors (ap (λ y. y.end) h.0) h.1) ms.0 ol d (op.kept refl d i)));
                    },
              )

  pub says : {f : Bool} {done : List Call} {old : List Entry} {cs done' : List Call} {new : List Entry} {t t' : Tally} {failure : Option Failure}
      → Goes p f done old t cs done' new t' failure → Says f done old cs done' new failure
  says {f = f} {done = done} {old = old} over = (
    [],
    sym (append-nil old),
    λ a E b lie le good. record {
      events = refl;
      good = λ e. subst (λ l. Good b done l) (sym (append-nil E)) good;
      kept = λ e c i. i;
    },
  )
  says {f = f} {done = done} {old = old} {done' = done'} {failure = failure} (again {call = c} {calls = cs} met r) =
      let ih = says r in
      (ih.0, ih.1, λ a E b lie le good. again_says f done c cs done' E b ih.0 failure met good (λ g. ih.2 a (E ++ P f c) b lie.1 le g))
  says {f = f} {done = done} {old = old} {done' = done'} {new = new} {failure = failure}
      (entered {call = c} {calls = cs} {bound = bound} {priors = ps} {subsequents = ss} {done1 = done1} {done2 = done2} {done3 = done3} {log1 = log1} {log2 = log2} {log3 = log3} {log4 = log4} u b g e s j r) =
      entered_says f done c cs old log1 u bound ps b done1 log2 (says g) log3 ss e done2 log4 (says s) done3 j done' new failure (says r)
  says {f = f} {done = done} {old = old} {new = new} (not_begun {call = c} {calls = cs} {failure = x} u b) = not_begun_says f done c cs old old u new x b
  says {f = f} {done = done} {old = old} {done' = done'} {new = new} (prior_failed {call = c} {calls = cs} {failure = x} {bound = bound} {priors = ps} {log1 = log1} u b g) =
      prior_says f done c cs old log1 u bound ps b done' new x (says g)
  says {f = f} {done = done} {old = old} {done' = done'} {new = new} (not_ended {call = c} {calls = cs} {failure = x} {bound = bound} {priors = ps} {log1 = log1} {log2 = log2} u b g e) =
      not_ended_says f done c cs old log1 u bound ps b done' log2 (says g) new x e
  says {f = f} {done = done} {old = old} {done' = done'} {new = new} (subsequent_failed {call = c} {calls = cs} {failure = x} {bound = bound} {priors = ps} {subsequents = ss} {done2 = done2} {log1 = log1} {log2 = log2} {log3 = log3} u b g e s) =
      subsequent_says f done c cs old log1 u bound ps b done' log2 (says g) log3 ss e done2 new x (says s)

-- ---- how deep it is unfolded doesn't count

module _ {Call Bound Entry Failure : Type 0} (same : Call → Call → Bool) (shares : Call → Bool) (m : CallMeaning Call Bound Entry Failure) (rank : Call → ℕ) (ranked : IsRanked m rank) where
  trees_same : (P Q : Call → List (TreePiece Call Entry Failure)) (i : ℕ) → ((d : Call) → rank d < i → P d ≡ Q d) → (cs : List Call) → AllByRecursion (λ c. rank c < i) cs → trees P cs ≡ trees Q cs
  trees_same P Q i e [] h = refl
  trees_same P Q i e (c ∷ cs) h = ap (λ l. l ++ trees P cs) (e c h.0) ∙ ap (λ l. Q c ++ l) (trees_same P Q i e cs h.1)

  subsequents_same : (P Q : Call → List (TreePiece Call Entry Failure)) (i : ℕ) → ((d : Call) → rank d < i → P d ≡ Q d) → (g : End (List Call) Failure) → ((calls : List Call) → g ≡ went calls → AllByRecursion (λ d. rank d < i) calls)
      → subsequents_run same P g ≡ subsequents_run same Q g
  subsequents_same P Q i e (went calls) h = ap (run_of same) (trees_same P Q i e calls (h calls refl))
  subsequents_same P Q i e (failed x) h = refl
  subsequents_same P Q i e unanswered h = refl

  late_block : (s : Bool) (P Q : Call → List (TreePiece Call Entry Failure)) (i : ℕ) → ((d : Call) → rank d < i → P d ≡ Q d) → (g : End (List Call) Failure) → ((calls : List Call) → g ≡ went calls → AllByRecursion (λ d. rank d < i) calls)
      → behind_body same s P g ≡ behind_body same s Q g
  late_block true P Q i e (went calls) h = refl
  late_block true P Q i e (failed x) h = refl
  late_block true P Q i e unanswered h = refl
  late_block false P Q i e g h = subsequents_same P Q i e g h

  late_trees : (s : Bool) (P Q : Call → List (TreePiece Call Entry Failure)) (i : ℕ) → ((d : Call) → rank d < i → P d ≡ Q d) → (g : End (List Call) Failure) → ((calls : List Call) → g ≡ went calls → AllByRecursion (λ d. rank d < i) calls)
      → trees_behind s P g ≡ trees_behind s Q g
  late_trees true P Q i e (went calls) h = trees_same P Q i e calls (h calls refl)
  late_trees true P Q i e (failed x) h = refl
  late_trees true P Q i e unanswered h = refl
  late_trees false P Q i e g h = refl

  behind_same : (P Q : Call → List (TreePiece Call Entry Failure)) (c : Call) (x : RunPart Entry (Unit {0}) Failure) (u : List (TreePiece Call Entry Failure)) → ((d : Call) → rank d < rank c → P d ≡ Q d) → (g : End (List Call) Failure)
      → ((calls : List Call) → g ≡ went calls → AllByRecursion (λ d. rank d < rank c) calls) → behind_head P c x u g ≡ behind_head Q c x u g
  behind_same P Q c x u e (went calls) h = ap (λ l. l ++ record { section = Block; owner = c; part = x } ∷ u) (trees_same P Q (rank c) e calls (h calls refl))
  behind_same P Q c x u e (failed f) h = refl
  behind_same P Q c x u e unanswered h = refl

  rest_same : (P Q : Call → List (TreePiece Call Entry Failure)) (c : Call) (f : Bool) → ((d : Call) → rank d < rank c → P d ≡ Q d) → (e : End Bound Failure) → rest_of same shares m P c f e ≡ rest_of same shares m Q c f e
  rest_same P Q c f e (went bound) =
      (λ i. behind_head P c (in_turn (m.body c f bound) (late_block (shares c) P Q (rank c) e (m.subsequents c f bound) (ranked.subsequents c f bound) i)) (late_trees (shares c) P Q (rank c) e (m.subsequents c f bound) (ranked.subsequents c f bound) i) (m.priors c f bound))
      ∙ behind_same P Q c (block_of same shares m Q c f bound) (trees_behind (shares c) Q (m.subsequents c f bound)) e (m.priors c f bound) (ranked.priors c f bound)
  rest_same P Q c f e (failed x) = refl
  rest_same P Q c f e unanswered = refl

  tree_of_same : (P Q : Call → List (TreePiece Call Entry Failure)) (f : Bool) (c : Call) → ((d : Call) → rank d < rank c → P d ≡ Q d) → tree_of same shares m P f c ≡ tree_of same shares m Q f c
  tree_of_same P Q f c e = ap (λ l. record { section = Head; owner = c; part = record { events = (m.head c f).events; end = ended (m.head c f).end } } ∷ l) (rest_same P Q c f e (m.head c f).end)

  pub deeper : (n k : ℕ) (f : Bool) (c : Call) → rank c < n → rank c < k → tree same shares m n f c ≡ tree same shares m k f c
  unfolding tree
  deeper zero k f c h i = absurd (omega (arith, h))
  deeper (suc n) zero f c h i = absurd (omega (arith, i))
  deeper (suc n) (suc k) f c h i = tree_of_same (tree same shares m n true) (tree same shares m k true) f c (λ d l. deeper n k true d (omega (arith, l, h)) (omega (arith, l, i)))

  pub unfolds : (n : ℕ) (f : Bool) (c : Call) → rank c < n → tree same shares m n f c ≡ tree_of same shares m (tree same shares m n true) f c
  unfolding tree
  unfolds zero f c h = absurd (omega (arith, h))
  unfolds (suc n) f c h = tree_of_same (tree same shares m n true) (tree same shares m (suc n) true) f c (λ d l. deeper n (suc n) true d (omega (arith, l, h)) (omega (arith, l, h)))

-- ---- the calls of the trees

all_among : {Call : Type 0} (Of : Call → Type 0) (cs : List Call) → ((c : Call) → Among c cs → Of c) → AllByRecursion Of cs
all_among Of [] h = tt
all_among Of (c ∷ cs) h = (h c (inl refl), all_among Of cs (λ d i. h d (inr i)))

zipped : {Call : Type 0} (rank : Call → ℕ) (Of : Call → Type 0) (b : ℕ) (cs : List Call) → AllByRecursion (λ c. rank c < b) cs → AllByRecursion Of cs → AllByRecursion (λ c. (rank c < b) × Of c) cs
zipped rank Of b [] r k = tt
zipped rank Of b (c ∷ cs) r k = ((r.0, k.0), zipped rank Of b cs r.1 k.1)

of_trees : {Call Bound Entry Failure : Type 0} (m : CallMeaning Call Bound Entry Failure) (calls : List Call) → IsClosed m (OfTrees m calls)
of_trees m calls = record {
  priors = λ call flag bound others o w e. all_among (OfTrees m calls) others (λ d h. prior flag bound others o w e h);
  subsequents = λ call flag bound others o w e. all_among (OfTrees m calls) others (λ d h. subsequent flag bound others o w e h);
}

-- ---- the law

module _ {Call Bound Entry Failure : Type 0} (p : Parts Call Bound Entry Failure) (decides : (a b : Call) → Decides (p.same a b) (a ≡ b))
    (is_event : Entry → Bool) (Agrees : Entry → Type 0) (m : CallMeaning Call Bound Entry Failure) (rank : Call → ℕ)
    (goby : GoBy is_event Agrees m p) (ranked : IsRanked m rank) where
  -- what a run added to the record, and how it ended, is the naive run by the answers that agree with what it added
  pub runs_are_naive : (n : ℕ) (calls done : List Call) (old new piece : List Entry) (t t' : Tally) (failure : Option Failure) → ((c : Call) → OfTrees m calls c → IsSteady p.shares m c) → AllByRecursion (λ c. rank c < n) calls
      → Goes p false [] old t calls done new t' failure → new ≡ old ++ piece → AllByRecursion Agrees piece → naive p.same p.shares m n calls ≡ record { events = events_of is_event piece; end = end_by failure }
  runs_are_naive n calls done old new piece t t' failure steady lie g grows agrees =
      let P : Bool → Call → List (TreePiece Call Entry Failure) = tree p.same p.shares m n in
      let r = says p decides is_event Agrees m rank goby ranked (OfTrees m calls) (of_trees m calls) steady n P (unfolds p.same p.shares m rank ranked n) g in
      let same : r.0 ≡ piece = append_cancel old r.0 piece (sym r.1 ∙ grows) in
      let o = r.2 (subst (λ q. AllByRecursion Agrees q) (sym same) agrees) [] n (zipped rank (OfTrees m calls) n calls lie (all_among (OfTrees m calls) calls (λ c h. called h))) (omega arith) (start p decides is_event Agrees m rank goby ranked (OfTrees m calls) (of_trees m calls) steady n P (unfolds p.same p.shares m rank ranked n) n) in
      o.events ∙ ap (λ q. let x : RunPart Entry (Unit {0}) Failure = record { events = events_of is_event q; end = end_by failure } in x) same
