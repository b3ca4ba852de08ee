-- Dependencies are read where they are spelled, and only there.
use Rattle.std.proofs.Common.{◌≡◌, ℕ, suc, ◌<◌, ◌≤◌, false, nat_lt, List, [], ◌∷◌, length, map, Ok, Option, Some, None, refl, sym, ap, arith, inl, inr}
use Rattle.std.proofs.lemmas.Bool.Decides.{nat_tests}
use Rattle.just_text.specs.Tokens.{Word}
use Rattle.just_text.specs.declared.token_kind.TokenKind.TheVariants.{AmpersandAmpersand, Asterisk, Identifier, ParenL, ParenR}
use Rattle.tree_items.specs.Recipes.{ArgumentShape, DependencyShape}
use Rattle.parse_expressions.specs.Words.{Mark, Lacks}
use Rattle.parse_expressions.specs.Literals.{Expansion}
use Rattle.parse_expressions.specs.Laws.{Exactly}
use Rattle.parse_expressions.specs.Reading.{accept, is_next}
use Rattle.parse_recipes.specs.Headers.{stars, IsArgument, AreArguments, IsDependency, AreDependencies, AreSubsequents}
use Rattle.parse_recipes.specs.Reading.{marked_at, argument_at, arguments_at, dependency_at, dependencies_at, some_if, subsequents_at}
use Rattle.parse_expressions.proofs.TokensTaken.{lacks, mark_shorter, accept_mark, taken, none_taken, no_accept, is_next-yes, is_next-no, Reads}
use Rattle.parse_recipes.proofs.RecipeMarks.{starred, starred-mark, marked_no_longer, marked_lacks, marked_found, marked_again}
use Rattle.parse_recipes.proofs.RecipePaths.{path_mark, path_shorter, path_found, path_again}
use Rattle.parse_recipes.proofs.RecipeLoops.{until_found, while_found, until_again, while_again, Step}
use Rattle.parse_recipes.proofs.ExpressionFronts.{shorter, never_first}
use Rattle.parse_recipes.proofs.ExpressionsRead.{fewer, expression_found, expression_again}
use Rattle.parse_expressions.proofs.Taken.{bind_ok, inspect, test, turned}

few : (n : ℕ) → nat_lt 1 n ≡ false → n ≤ 1
few n h = grind (arith, nat_tests)

few-test : (n : ℕ) → n ≤ 1 → nat_lt 1 n ≡ false
few-test n h = grind (arith, nat_tests)

module _ (expansion : Expansion) where
  -- ---- how dependencies begin, and that they take words

  argument_shorter : (x : ArgumentShape) (ws rest : List Word) → IsArgument expansion x ws rest → length rest < length ws
  argument_shorter x ws rest (a, m, i) =
      let p = marked_no_longer Asterisk x.starred ws a (starred-mark x.starred ws a m) in
      let q = shorter expansion x.expression a rest i.is in omega arith

  -- an argument doesn't begin with a closing parenthesis
  argument_lacks : (x : ArgumentShape) (ws rest : List Word) → IsArgument expansion x ws rest → Lacks ParenR ws
  argument_lacks x ws rest (a, m, i) =
      marked_lacks Asterisk ParenR x.starred ws a (starred-mark x.starred ws a m) (λ b k. lacks Asterisk ParenR ws b k refl)
      (never_first expansion ParenR (refl, refl, refl, refl, refl, refl, refl, refl) x.expression a rest i.is)

  arguments_shorter : (xs : List ArgumentShape) (ws rest : List Word) → AreArguments expansion xs ws rest → length rest < length ws
  arguments_shorter [] ws rest m = let p = mark_shorter ParenR ws rest m in omega arith
  arguments_shorter (x ∷ xs) ws rest (a, i, j) = let p = argument_shorter x ws a i in let q = arguments_shorter xs a rest j in omega arith

  dependency_shorter : (d : DependencyShape) (ws rest : List Word) → IsDependency expansion d ws rest → length rest < length ws
  dependency_shorter d ws rest (inl i) = path_shorter d.path ws rest i.0
  dependency_shorter d ws rest (inr (a, b, m, i, j, few)) =
      let p = mark_shorter ParenL ws a m in
      let q = path_shorter d.path a b i in
      let r = arguments_shorter d.arguments b rest j in omega arith

without : (d : DependencyShape) → d.arguments ≡ [] → record { path = d.path; arguments = [] } ≡ d
without d h = ap (λ (xs : List ArgumentShape). record { path = d.path; arguments = xs }) (sym h)

-- no dependency comes here
abbrev pub NoDependency : List Word → Type 0
NoDependency ws = Lacks ParenL ws × Lacks Identifier ws

module _ {T : Type 0} (word : T → Word) (expansion : Expansion) (exactly : (levels k : ℕ) → Exactly word expansion levels k) where
  -- ---- what is read

  argument_found : (ts : List T) (p : ArgumentShape × List T) → argument_at word expansion ts ≡ Ok p → IsArgument expansion p.0 (map word ts) (map word p.1)
  unfolding argument_at
  argument_found ts p h =
      let e = bind_ok _ _ p h in
      let m = starred _ _ _ (marked_found word Asterisk ts) in
      turned (λ (z : ArgumentShape × List T). IsArgument expansion z.0 (map word ts) (map word z.1)) (record { expression = e.0.0; starred = (marked_at word Asterisk ts).0 }, e.0.1) p e.2
      (map word (marked_at word Asterisk ts).1, m, expression_found word expansion exactly 256 6 (marked_at word Asterisk ts).1 e.0 e.1)

  arguments_found : (t : T) (ts : List T) (p : List ArgumentShape × List T) → arguments_at word expansion t ts ≡ Ok p → AreArguments expansion p.0 (map word ts) (map word p.1) × (stars p.0 ≤ 1)
  unfolding arguments_at
  arguments_found t ts p h =
      let xs = bind_ok _ _ p h in
      let are = until_found word (argument_at word expansion) ParenR (λ ys us rest. AreArguments expansion ys (map word us) (map word rest))
      (λ us q g. accept_mark word ParenR us q g)
      (λ us x ys rest g more. (map word x.1, argument_found us x g, more))
      (suc (length ts)) ts xs.0 xs.1 in
      elim (test (nat_lt 1 (stars xs.0.0))) [
        | inl f ↦ let q = rw f at xs.2 in absurd cc
        | inr f ↦ turned (λ (z : List ArgumentShape × List T). AreArguments expansion z.0 (map word ts) (map word z.1) × (stars z.0 ≤ 1)) xs.0 p (rw f at xs.2) (are, few (stars xs.0.0) f)
      ]

  -- a dependency, or nothing
  abbrev MayBeDependency : Option DependencyShape → List Word → List Word → Type 0
  MayBeDependency None ws rest = ws ≡ rest
  MayBeDependency (Some d) ws rest = IsDependency expansion d ws rest

  dependency_found : (ts : List T) (p : Option DependencyShape × List T) → dependency_at word expansion ts ≡ Ok p → MayBeDependency p.0 (map word ts) (map word p.1)
  unfolding dependency_at
  dependency_found ts p h =
      elim (inspect (accept word ParenL ts)) [
        | inr w ↦
            let path = bind_ok _ _ p (rw w.1 at h) in
            let xs = bind_ok _ _ p path.2 in
            let are = arguments_found w.0.0 path.0.1 xs.0 xs.1 in
            turned (λ (z : Option DependencyShape × List T). MayBeDependency z.0 (map word ts) (map word z.1)) (Some (record { path = path.0.0; arguments = xs.0.0 }), xs.0.1) p xs.2
            (inr (map word w.0.1, map word path.0.1, accept_mark word ParenL ts w.0 w.1, path_found word w.0.1 path.0 path.1, are.0, are.1))
        | inl w ↦ elim (test (is_next word Identifier ts)) [
          | inr f ↦ turned (λ (z : Option DependencyShape × List T). MayBeDependency z.0 (map word ts) (map word z.1)) (None, ts) p (rw (w, f) at h) refl
          | inl f ↦
              let path = bind_ok _ _ p (rw (w, f) at h) in
              turned (λ (z : Option DependencyShape × List T). MayBeDependency z.0 (map word ts) (map word z.1)) (Some (record { path = path.0.0; arguments = [] }), path.0.1) p path.2
              (inl (path_found word ts path.0 path.1, refl))
        ]
      ]

  pub dependencies_found : (ts : List T) (p : List DependencyShape × List T) → dependencies_at word expansion ts ≡ Ok p → AreDependencies expansion p.0 (map word ts) (map word p.1)
  unfolding dependencies_at
  dependencies_found ts p h =
      while_found word (dependency_at word expansion) (λ ds us rest. AreDependencies expansion ds (map word us) (map word rest))
      (λ us rest g. dependency_found us (None, rest) g)
      (λ us mid d ds rest g more. (map word mid, dependency_found us (Some d, mid) g, more))
      (suc (length ts)) ts p h

  some_found : (ws a : List Word) (ds : List DependencyShape) (rest : List T) (p : List DependencyShape × List T) → Mark AmpersandAmpersand ws a → AreDependencies expansion ds a (map word rest)
      → some_if word expansion ds rest ≡ Ok p → AreSubsequents expansion p.0 ws (map word p.1)
  some_found ws a [] rest p m i h = absurd cc
  some_found ws a (d ∷ ds) rest p m i h = turned (λ (z : List DependencyShape × List T). AreSubsequents expansion z.0 ws (map word z.1)) (d ∷ ds, rest) p h (a, m, i)

  pub subsequents_found : (ts : List T) (p : List DependencyShape × List T) → subsequents_at word expansion ts ≡ Ok p → AreSubsequents expansion p.0 (map word ts) (map word p.1)
  unfolding subsequents_at
  subsequents_found ts p h =
      elim (inspect (accept word AmpersandAmpersand ts)) [
        | inl w ↦ turned (λ (z : List DependencyShape × List T). AreSubsequents expansion z.0 (map word ts) (map word z.1)) ([], ts) p (rw w at h) refl
        | inr w ↦
            let ds = bind_ok _ _ p (rw w.1 at h) in
            some_found (map word ts) (map word w.0.1) ds.0.0 ds.0.1 p (accept_mark word AmpersandAmpersand ts w.0 w.1) (dependencies_found w.0.1 ds.0 ds.1) ds.2
      ]

  -- ---- what is spelled

  argument_step : (x : ArgumentShape) (xs : List ArgumentShape) (ts : List T) (end : List Word) → AreArguments expansion (x ∷ xs) (map word ts) end
      → (accept word ParenR ts ≡ None) × Step word (argument_at word expansion ts) x ts (λ ws. AreArguments expansion xs ws end)
  unfolding argument_at
  argument_step x xs ts end (b, i, j) =
      let stop = none_taken word ParenR ts (argument_lacks expansion x (map word ts) b i) in
      let less = argument_shorter expansion x (map word ts) b i in
      let s = marked_again word Asterisk x.starred ts i.0 (starred-mark x.starred (map word ts) i.0 i.1) (never_first expansion Asterisk (refl, refl, refl, refl, refl, refl, refl, refl) x.expression i.0 b i.2.is) in
      let e = expression_again word expansion exactly 256 6 s.rest x.expression b (rw s.others i.2) in
      (stop, record { rest = e.rest; is = rw (s.is, e.is) refl; less = fewer word ts e.rest b e.others less; others = rw e.others j })

  arguments_again : (t : T) (xs : List ArgumentShape) (ts : List T) (end : List Word) → AreArguments expansion xs (map word ts) end → stars xs ≤ 1 → Reads word (arguments_at word expansion t ts) xs end
  unfolding arguments_at
  arguments_again t xs ts end i one =
      let r = until_again word (argument_at word expansion) ParenR (λ ys ws. AreArguments expansion ys ws end) end
      (λ ws j. j)
      (λ us y ys j. argument_step y ys us end j)
      xs (suc (length ts)) ts (omega arith) i in
      record { rest = r.rest; is = rw (r.is, few-test (stars xs) one) refl; others = r.others }

  dependency_again : (d : DependencyShape) (ts : List T) (ws : List Word) → IsDependency expansion d (map word ts) ws → Reads word (dependency_at word expansion ts) (Some d) ws
  unfolding dependency_at
  dependency_again d ts ws (inl i) =
      let m = path_mark d.path (map word ts) ws i.0 in
      let t = taken word Identifier m.1.0 ts m.0 m.1.1 in
      let p = path_again word d.path ts ws i.0 in
      record { rest = p.rest; is = rw (no_accept word ParenL Identifier ts m.0 m.1 refl, is_next-yes word Identifier ts (t.token, t.rest) t.accepts, p.is, without d i.1) refl; others = p.others }
  dependency_again d ts ws (inr (a, b, m, i, j, one)) =
      let t = taken word ParenL m.0 ts a m.1 in
      let p = path_again word d.path t.rest b (rw t.others i) in
      let xs = arguments_again t.token d.arguments p.rest ws (rw p.others j) one in
      record { rest = xs.rest; is = rw (t.accepts, p.is, xs.is) refl; others = xs.others }

  no_dependency : (ts : List T) → NoDependency (map word ts) → dependency_at word expansion ts ≡ Ok (None, ts)
  unfolding dependency_at
  no_dependency ts l = rw (none_taken word ParenL ts l.0, is_next-no word Identifier ts (none_taken word Identifier ts l.1)) refl

  dependency_step : (d : DependencyShape) (ds : List DependencyShape) (ts : List T) (end : List Word) → AreDependencies expansion (d ∷ ds) (map word ts) end
      → Step word (dependency_at word expansion ts) (Some d) ts (λ ws. AreDependencies expansion ds ws end)
  dependency_step d ds ts end (a, i, j) =
      let r = dependency_again d ts a i in
      record { rest = r.rest; is = r.is; less = fewer word ts r.rest a r.others (dependency_shorter expansion d (map word ts) a i); others = rw r.others j }

  pub dependencies_again : (ds : List DependencyShape) (ts : List T) (end : List Word) → NoDependency end → AreDependencies expansion ds (map word ts) end → Reads word (dependencies_at word expansion ts) ds end
  unfolding dependencies_at
  dependencies_again ds ts end stop i =
      while_again word (dependency_at word expansion) (λ es ws. AreDependencies expansion es ws end) end
      (λ us j. (no_dependency us (rw j stop), j))
      (λ us d es j. dependency_step d es us end j)
      ds (suc (length ts)) ts (omega arith) i

  pub subsequents_again : (ds : List DependencyShape) (ts : List T) (end : List Word) → NoDependency end → Lacks AmpersandAmpersand end → AreSubsequents expansion ds (map word ts) end
      → Reads word (subsequents_at word expansion ts) ds end
  unfolding subsequents_at
  subsequents_again [] ts end stop l i = record { rest = ts; is = rw (none_taken word AmpersandAmpersand ts (rw i l)) refl; others = i }
  subsequents_again (d ∷ ds) ts end stop l (a, m, i) =
      let t = taken word AmpersandAmpersand m.0 ts a m.1 in
      let r = dependencies_again (d ∷ ds) t.rest end stop (rw t.others i) in
      record { rest = r.rest; is = rw (t.accepts, r.is) refl; others = r.others }
