-- Modules that are loaded, one after the other.
use Rattle.std.proofs.Common.{◌≡◌, sym, ◌∙◌, ap, subst, inl, inr, ◌⊎◌, Bool, true, false, ◌<◌, ◌≤◌, ◌+◌, ◌++◌, ◌∷◌, [], ℕ, zero, suc, List, Option, Some, None, Result, Ok, refl, arith, length, map, take, drop, length-append, ◌-◌}
use Rattle.std.specs.Prelude.{slice_get}
use Rattle.std.specs.BTreeMap.{BTreeMap}
use Rattle.std.specs.Option.{option_and_then}
use Rattle.std.specs.declared.string.String.{String}
use Rattle.std.proofs.lemmas.Bool.Decides.{eqb_tells}
use Rattle.std.proofs.lemmas.List.{take-append-le, take_all}
use Rattle.std.proofs.lemmas.Option.{none-some, same_Some, slice_get_within}
use Rattle.just_text.specs.Numbers.{Numbers}
use Rattle.just_text.specs.declared.name.Name.{Name}
use Rattle.just_text.specs.declared.os.Os.{Os}
use Rattle.tree_items.specs.declared.ast.Item.{Item}
use Rattle.parse_expressions.specs.Literals.{Expansion}
use Rattle.semver.specs.declared.Version.{Version}
use Rattle.modules_compilation.specs.Paths.{is_clean}
use Rattle.modules_compilation.specs.Places.{items_of}
use Rattle.modules_compilation.specs.declared.compilation.Compilation.{Compilation}
use Rattle.modules_compilation.specs.declared.error.Error.{Error}
use Rattle.modules_compilation.specs.declared.module_node.File.{File as LoadedFile}
use Rattle.modules_compilation.specs.declared.module_node.ModuleNode.{ModuleNode}
use Rattle.modules_compilation.specs.declared.place.Place.{Place}
use Rattle.modules_files.specs.Chosen.{File, module_answer}
use Rattle.modules_files.specs.Found.{file_at}
use Rattle.modules_files.specs.declared.search.Files.{Files}
use Rattle.modules_sources.specs.Items.{ModuleParts, key_of, module_of}
use Rattle.modules_sources.specs.Loaded.{AllFollowedUp, AllLoaded, AreAwaited, AreLoadedSoFar, IsAwaited, IsLoaded, AreLinked, AreSubmodules, AreUnloaded, IsNameOf, IsSource, files_of, submodule_at, IsBegun, IsRootRead, HasRoot}
use Rattle.modules_sources.specs.Nodes.{HasOneMore, IsNodeOf, IsNoted}
use Rattle.modules_sources.specs.ReadingOrder.{AreFilesOf, AreNumbered, numbered_more, numbered_none}
use Rattle.modules_sources.specs.Submodules.{Above, AreBelow, AreFound, found_none, found_more, AreWaiting, waiting_none, waiting_more, Found, Gives, Waiting, found_at, waiting, waiting_view}
use Rattle.modules_sources.specs.declared.queue.Pending.{Pending}
use Rattle.std.specs.Borrow.{Bor}
use Rattle.modules_compilation.specs.declared.source.Source.{Source}
use Rattle.modules_sources.specs.declared.load.Parsed.{Parsed}
use Rattle.modules_sources.proofs.Closing.{below_further, followed_further, first_root, root_still, submodules_further, waiting_at}
use Rattle.modules_sources.specs.Above.{AreAbove, AreQueued}
use Rattle.modules_sources.specs.Queue.{IsChain, chain_keys, cut_to, entered as chain_entered, is_among}
use Rattle.modules_sources.specs.declared.queue.Queue.{Queue}
use Rattle.modules_sources.proofs.Above.{all_are_above, are_above_still, own_files_further, queued_further, root_above, root_own_files, root_queued}
use Rattle.modules_sources.proofs.Once.{apart_further, covered_further, once_further, root_linked, unloaded_further}
use Rattle.modules_sources.proofs.Ordering.{found_source}
use Rattle.modules_sources.proofs.Reaching.{append_cases, at_end, end_cases, kept_left}

-- ---- what stood in files stands there with more files behind them

module _ (os : Os) where
  parts_in : List Item → ℕ → Option ModuleParts
  parts_in items place = option_and_then (module_of os) (slice_get items place)

  submodule_stays : (files more : List LoadedFile) (place : Place) (line : ModuleParts) → submodule_at os files place ≡ Some line → submodule_at os (files ++ more) place ≡ Some line
  submodule_stays files more place line e = by_file (slice_get files place.file) refl
    where
      by_file : (o : Option LoadedFile) → slice_get files place.file ≡ o → submodule_at os (files ++ more) place ≡ Some line
      by_file None is = absurd (none-some line (sym (ap (λ f. option_and_then (module_of os) (slice_get (items_of f) place.item)) is) ∙ e))
      by_file (Some file) is = ap (λ f. option_and_then (module_of os) (slice_get (items_of f) place.item)) (kept_left files more place.file file is ∙ sym is) ∙ e

  name_stays : (files more : List LoadedFile) (item : Option Place) (name : Option Name) → IsNameOf os files item name → IsNameOf os (files ++ more) item name
  name_stays files more item name h place is = let t = h place is in (t.0, submodule_stays files more place t.0 t.1, t.2)

-- ---- what submodules that are found give

module _ (files : Files) (os : Os) (key : List ℕ) where
  -- the file that is chosen is that of its key
  answer_source : (name : Name) (optional : Bool) (keys : List (List ℕ)) (file : File) → ◌≡◌ {A = Result (Option File) Error} (Ok (Some file)) (module_answer files.sources.now name optional keys) → IsSource files.sources.now file
  answer_source name true [] file e = absurd (cc e)
  answer_source name false [] file e = absurd (cc e)
  answer_source name optional (key ∷ []) file e =
      let same : Some file ≡ file_at files.sources.now (Some key) = cc e in
      found_source files.sources.now key file (sym same)
  answer_source name optional (key ∷ other ∷ keys) file e = absurd (cc e)

  -- a submodule that is found: its item is one that is enabled, by which it is named, and its file is that of its key
  pub record IsFoundAt (items : List Item) (found : Found) : Type 0 where
    pub line : ModuleParts
    pub there : option_and_then (module_of os) (slice_get items found.item) ≡ Some line
    pub named : found.name ≡ line.0
    pub source : IsSource files.sources.now found.file

  found_stays : (items : List Item) (item : Item) (found : Found) → IsFoundAt items found → IsFoundAt (items ++ item ∷ []) found
  found_stays items item found h = record { line = h.line; there = by_item (slice_get items found.item) refl; named = h.named; source = h.source }
    where
      by_item : (o : Option Item) → slice_get items found.item ≡ o → option_and_then (module_of os) (slice_get (items ++ item ∷ []) found.item) ≡ Some h.line
      by_item None is = absurd (none-some h.line (sym (ap (option_and_then (module_of os)) is) ∙ h.there))
      by_item (Some here) is = ap (option_and_then (module_of os)) (kept_left items (item ∷ []) found.item here is ∙ sym is) ∙ h.there

  last_found : (items : List Item) (item : Item) (line : Option ModuleParts) (file : Option File) → module_of os item ≡ line → Gives files os key line (Ok file) → (j : ℕ) (f : Found) → slice_get (found_at (length items) line file) j ≡ Some f
      → IsFoundAt (items ++ item ∷ []) f
  last_found items item None file is gives j f e = absurd (none-some f e)
  last_found items item (Some line) None is gives j f e = absurd (none-some f e)
  last_found items item (Some line) (Some file) is gives (suc j) f e = absurd (none-some f e)
  last_found items item (Some line) (Some file) is gives zero f e =
      let same : record { file = file; item = length items; name = line.0 } ≡ f = same_Some (record { file = file; item = length items; name = line.0 }) f e in
      subst (IsFoundAt (items ++ item ∷ [])) same (record {
        line = line;
        there = ap (option_and_then (module_of os)) (at_end items item) ∙ is;
        named = refl;
        source = answer_source line.0 line.2 gives.keys file gives.is;
      })

  pub each_found : {items : List Item} {found : List Found} → AreFound files os key items found → (i : ℕ) (f : Found) → slice_get found i ≡ Some f → IsFoundAt items f
  each_found found_none i f e = absurd (none-some f e)
  each_found (found_more {items} {found} item file so gives) i f e = elim (append_cases found (found_at (length items) (module_of os item) file) i f e) [
    | inl p ↦ found_stays items item f (each_found so i f p)
    | inr q ↦ last_found items item (module_of os item) file refl gives q.1.0 f q.1.1
  ]

-- ---- those that wait

module _ (files : Files) (os : Os) (all : List LoadedFile) (above : Above) (parent first : ℕ) where
  pub each_awaited : (count : ℕ) {many : ℕ} {waits : List Waiting} → parent < count → AreWaiting files os all above parent first many waits → AreAwaited files.sources.now os all count waits
  each_awaited count lt are i w e =
      let t = waiting_at files os all above parent first are i w e in
      let h = each_found files os (key_of (slice_get all t.file)) t.are t.i t.one t.found_at in
      subst (IsAwaited files.sources.now os all count) (sym t.is) (record {
        source = h.source;
        named = λ at is. (h.line, ap (submodule_at os all) (sym (same_Some (record { file = t.file; item = t.one.item }) at is)) ∙ h.there, ap Some h.named);
        parent = λ place is. subst (λ n. n < count) (same_Some parent place is) lt;
      })

-- ---- nodes

module _ {Y Z : Type 0} (sources : BTreeMap (String Y) (String Z)) (expansion : Expansion) (version : Version) (os : Os) (start : Numbers) (is_read : Bool) where
  same_files : (files more : List LoadedFile) (node : ModuleNode) → node.end_file ≤ length files → files_of (files ++ more) node ≡ files_of files node
  same_files files more node le = ap (drop node.first_file) (take-append-le node.end_file files more le)

  loaded_stays : (files more : List LoadedFile) (place : ℕ) (node : ModuleNode) → IsLoaded sources expansion version os start is_read files place node → IsLoaded sources expansion version os start is_read (files ++ more) place node
  loaded_stays files more place node h =
      let within = h.within in
      let many = length-append files more in
      record {
        empty = h.empty;
        named = name_stays os files more node.item node.name h.named;
        parent = h.parent;
        within = omega (arith, within, many);
        own_files = λ read. subst (AreFilesOf sources expansion version place node.source.now) (sym (same_files files more node h.within)) (h.own_files read);
      }

  -- a submodule more changes nothing of this
  loaded_with : (files : List LoadedFile) (place submodule : ℕ) (old new : ModuleNode) → HasOneMore submodule old new → IsLoaded sources expansion version os start is_read files place old → IsLoaded sources expansion version os start is_read files place new
  loaded_with files place submodule old new more h = subst (IsLoaded sources expansion version os start is_read files place) (sym more.others) (record {
    empty = record { aliases = h.empty.aliases; assignments = h.empty.assignments; disabled = h.empty.disabled; functions = h.empty.functions; recipes = h.empty.recipes; recipe_names = h.empty.recipe_names; sets = h.empty.sets; unexports = h.empty.unexports };
    named = h.named;
    parent = h.parent;
    within = h.within;
    own_files = h.own_files;
  })

  all_noted : (files : List LoadedFile) (parent : Option ℕ) (submodule : ℕ) (old new : List ModuleNode) → IsNoted parent submodule old new → AllLoaded sources expansion version os start is_read files old → AllLoaded sources expansion version os start is_read files new
  all_noted files None submodule old new is h place node e = subst (AllLoaded sources expansion version os start is_read files) (sym is) h place node e
  all_noted files (Some parent) submodule old new is h place node e = elim (eqb_tells place parent) [
    | inl p ↦ by_node (slice_get old parent) refl (ap (slice_get new) (sym p.1) ∙ e) p.1
    | inr p ↦ h place node (sym (is.others place p.1) ∙ e)
  ]
    where
      gone : slice_get old parent ≡ None → length old ≤ parent
      gone e = past old parent e
        where
          past : (xs : List ModuleNode) (i : ℕ) → slice_get xs i ≡ None → length xs ≤ i
          past [] i e = omega arith
          past (x ∷ xs) zero e = absurd (none-some x (sym e))
          past (x ∷ xs) (suc i) e = let le = past xs i e in omega (arith, le)

      by_node : (o : Option ModuleNode) → slice_get old parent ≡ o → slice_get new parent ≡ Some node → place ≡ parent → IsLoaded sources expansion version os start is_read files place node
      by_node None was there same =
          let lt = slice_get_within new parent node there in
          let le = gone was in
          let many = is.many in
          absurd (omega (arith, lt, le, many))
      by_node (Some before) was there same =
          let t = is.noted before was in
          let last : t.0 ≡ node = same_Some t.0 node (sym t.1 ∙ there) in
          subst (IsLoaded sources expansion version os start is_read files place) last (loaded_with files place submodule before t.0 t.2 (subst (λ n. IsLoaded sources expansion version os start is_read files n before) (sym same) (h parent before was)))

  -- the module that is loaded stands after the others
  module _ (files more : List LoadedFile) (modules after : List ModuleNode) (pending : Pending) (node : ModuleNode) (h : AllLoaded sources expansion version os start is_read files modules)
      (named : IsNameOf os files pending.item pending.name) (below : (above : ℕ) → pending.parent ≡ Some above → above < length modules)
      (is : IsNodeOf pending (length files) (length (files ++ more)) node)
      (own_files : is_read ≡ true → AreFilesOf sources expansion version (length modules) pending.source.key.now (drop (length files) (files ++ more)))
      (noted : IsNoted pending.parent (length modules) (modules ++ node ∷ []) after) where
    node_loaded : IsLoaded sources expansion version os start is_read (files ++ more) (length modules) node
    node_loaded = record {
      empty = is.empty;
      named = subst (λ i. IsNameOf os (files ++ more) i node.name) (sym is.item) (subst (λ n. IsNameOf os (files ++ more) pending.item n) (sym is.name) (name_stays os files more pending.item pending.name named));
      parent = λ above e. below above (sym is.parent ∙ e);
      within = let end = is.end_file in omega (arith, end);
      own_files = λ read. subst (λ k. AreFilesOf sources expansion version (length modules) k (files_of (files ++ more) node)) (ap (λ s. s.now) (sym is.source))
          (subst (AreFilesOf sources expansion version (length modules) pending.source.key.now) (sym taken) (own_files read));
    }
      where
        taken : files_of (files ++ more) node ≡ drop (length files) (files ++ more)
        taken = ap (λ n. drop n (take node.end_file (files ++ more))) is.first_file ∙ ap (drop (length files)) (take_all node.end_file (files ++ more) (let end = is.end_file in omega (arith, end)))

    pub modules_further : AllLoaded sources expansion version os start is_read (files ++ more) after
    modules_further = all_noted (files ++ more) pending.parent (length modules) (modules ++ node ∷ []) after noted (λ place other e. elim (end_cases modules node place other e) [
      | inl p ↦ loaded_stays files more place other (h place other p)
      | inr q ↦ subst (λ n. IsLoaded sources expansion version os start is_read (files ++ more) n other) (sym q.0) (subst (IsLoaded sources expansion version os start is_read (files ++ more) (length modules)) q.1 node_loaded)
    ])

  awaited_stays : (files more : List LoadedFile) (count some : ℕ) (w : Waiting) → count ≤ some → IsAwaited sources os files count w → IsAwaited sources os (files ++ more) some w
  awaited_stays files more count some w le h = record {
    source = h.source;
    named = name_stays os files more w.item w.name h.named;
    parent = λ place is. let lt = h.parent place is in omega (arith, lt, le);
  }

  pub waits_further : (files more : List LoadedFile) (count : ℕ) (old new next : List Waiting) → AreAwaited sources os files count old → AreAwaited sources os (files ++ more) (count + 1) next → new ≡ old ++ next → AreAwaited sources os (files ++ more) (count + 1) new
  waits_further files more count old new next h g e i w at = elim (append_cases old next i w (ap (λ ws. slice_get ws i) (sym e) ∙ at)) [
    | inl p ↦ awaited_stays files more count (count + 1) w (omega arith) (h i w p)
    | inr q ↦ g q.1.0 w q.1.1
  ]

  -- ---- the next of those that wait

  pub map_last : (xs : List Pending) (x : Pending) → map waiting_view (xs ++ x ∷ []) ≡ map waiting_view xs ++ waiting_view x ∷ []
  map_last [] x = refl
  map_last (y ∷ xs) x = ap (λ ws. waiting_view y ∷ ws) (map_last xs x)

  module _ (files : List LoadedFile) (count : ℕ) (old new : List Pending) where
    pub none_taken : old ≡ new ++ [] → AreAwaited sources os files count (map waiting_view old) → AreAwaited sources os files count (map waiting_view new)
    none_taken e h i w at = h i w (ap (λ ps. slice_get (map waiting_view ps) i) e ∙ shifted new i w at)
      where
        shifted : (ps : List Pending) (i : ℕ) (w : Waiting) → slice_get (map waiting_view ps) i ≡ Some w → slice_get (map waiting_view (ps ++ [])) i ≡ Some w
        shifted [] i w e = absurd (none-some w e)
        shifted (p ∷ ps) zero w e = e
        shifted (p ∷ ps) (suc i) w e = shifted ps i w e

    -- the same list of those that wait
    pub same_taken : old ≡ new ++ [] → map waiting_view old ≡ map waiting_view new
    same_taken e = ap (map waiting_view) (e ∙ nothing new)
      where
        nothing : (ps : List Pending) → ps ++ [] ≡ ps
        nothing [] = refl
        nothing (p ∷ ps) = ap (λ rest. p ∷ rest) (nothing ps)

    pub one_taken : (next : Pending) → old ≡ new ++ next ∷ [] → AreAwaited sources os files count (map waiting_view old) → AreAwaited sources os files count (map waiting_view new) × IsAwaited sources os files count (waiting_view next)
    one_taken next e h =
        let same : map waiting_view old ≡ map waiting_view new ++ waiting_view next ∷ [] = ap (map waiting_view) e ∙ map_last new next in (
          λ i w at. h i w (ap (λ ws. slice_get ws i) same ∙ kept_left (map waiting_view new) (waiting_view next ∷ []) i w at),
          h (length (map waiting_view new)) (waiting_view next) (ap (λ ws. slice_get ws (length (map waiting_view new))) same ∙ at_end (map waiting_view new) (waiting_view next)),
        )

-- ---- one module more

module _ (lookup : Files) (expansion : Expansion) (version : Version) (os : Os) (start : Numbers) (is_read : Bool) where
  pub entered : (files : List LoadedFile) (modules : List ModuleNode) (after : Compilation) (gone : Numbers) (next : Pending) (waits : List Waiting) (left : List Pending) (queue : Queue) (more : List LoadedFile) (node : ModuleNode) (found : List Waiting)
      → AllLoaded lookup.sources.now expansion version os start is_read files modules → AreAwaited lookup.sources.now os files (length modules) waits → AllFollowedUp lookup os files modules (waits ++ waiting_view next ∷ [])
      → IsNameOf os files next.item next.name → ((place : ℕ) → next.parent ≡ Some place → place < length modules)
      → after.files.items ≡ files ++ more → (is_read ≡ true → AreNumbered start after.files.items gone)
      → (is_read ≡ true → AreFilesOf lookup.sources.now expansion version (length modules) next.source.key.now (drop (length files) after.files.items))
      → IsNodeOf next (length files) (length after.files.items) node → IsNoted next.parent (length modules) (modules ++ node ∷ []) after.modules.items → length after.modules.items ≡ length modules + 1
      → AreWaiting lookup os after.files.items queue.keys (length modules) (length files) (length after.files.items - length files) found → map waiting_view left ≡ waits ++ found
      → ((place : ℕ) (above : Above) → place < length modules → AreAbove modules place above → AreAbove after.modules.items place above) → AreAbove after.modules.items (length modules) queue.keys → AreQueued after.modules.items queue (map waiting_view left)
      → AreLinked lookup os after.files.items after.modules.items (map waiting_view left) → (own : List ℕ) → HasRoot own after.modules.items
      → AreLoadedSoFar lookup.sources.now expansion version os start is_read lookup own after gone left queue
  entered files modules after gone next waits left queue more node found loaded awaited followed named below grown numbered own_files is noted one_more waiting whole still all_are queued linked own root =
      let sources = lookup.sources.now in
      let count = length modules in
      let lt : count < count + 1 = omega arith in
      let node_is = subst (λ fs. IsNodeOf next (length files) (length fs) node) grown is in
      record {
        root = root;
        numbered = numbered;
        queued = queued;
        linked = linked;
        modules = subst (λ fs. AllLoaded sources expansion version os start is_read fs after.modules.items) (sym grown)
            (modules_further sources expansion version os start is_read files more modules after.modules.items next node loaded named below node_is
            (λ read. subst (λ fs. AreFilesOf sources expansion version count next.source.key.now (drop (length files) fs)) grown (own_files read)) noted);
        waiting = subst (λ n. AreAwaited sources os after.files.items n (map waiting_view left)) (sym one_more)
            (subst (λ fs. AreAwaited sources os fs (count + 1) (map waiting_view left)) (sym grown)
            (waits_further sources expansion version os start is_read files more count waits (map waiting_view left) found awaited
            (subst (λ fs. AreAwaited sources os fs (count + 1) found) grown (each_awaited lookup os after.files.items queue.keys count (length files) (count + 1) lt waiting)) whole));
        followed = subst (λ fs. AllFollowedUp lookup os fs after.modules.items (map waiting_view left)) (sym grown)
            (followed_further lookup os files more modules after.modules.items next node waits (map waiting_view left) found queue.keys followed (λ place n e. (loaded place n e).within) (λ place n e. (loaded place n e).parent) below node_is noted
            (subst (λ fs. AreWaiting lookup os fs queue.keys count (length files) (length fs - length files) found) grown waiting) whole still all_are);
      }

  -- the module of the last of those that wait
  pub entered_below : (old after : Compilation) (was gone : Numbers) (next : Pending) (waits left : List Pending) (before queue : Queue) (more : List LoadedFile) (node : ModuleNode) (found : List Waiting) (own : List ℕ)
      → AreLoadedSoFar lookup.sources.now expansion version os start is_read lookup own old was (waits ++ next ∷ []) before
      → after.files.items ≡ old.files.items ++ more → (is_read ≡ true → AreNumbered start after.files.items gone)
      → (is_read ≡ true → AreFilesOf lookup.sources.now expansion version (length old.modules.items) next.source.key.now (drop (length old.files.items) after.files.items))
      → IsNodeOf next (length old.files.items) (length after.files.items) node → IsNoted next.parent (length old.modules.items) (old.modules.items ++ node ∷ []) after.modules.items → length after.modules.items ≡ length old.modules.items + 1
      → AreWaiting lookup os after.files.items queue.keys (length old.modules.items) (length old.files.items) (length after.files.items - length old.files.items) found → map waiting_view left ≡ map waiting_view waits ++ found
      → queue.chain.items ≡ chain_entered before.chain.items next (length old.modules.items) → (IsChain before → is_among (chain_keys (cut_to next.parent before.chain.items)) next.source.key.now ≡ false → IsChain queue)
      → AreLoadedSoFar lookup.sources.now expansion version os start is_read lookup own after gone left queue
  entered_below old after was gone next waits left before queue more node found own so grown numbered own_files is noted one_more waiting whole chain keys =
      let sources = lookup.sources.now in
      let files = old.files.items in
      let modules = old.modules.items in
      let views = map waiting_view waits in
      let same = map_last sources expansion version os start is_read waits next in
      let taken = one_taken sources expansion version os start is_read files (length modules) (waits ++ next ∷ []) waits next refl so.waiting in
      let followed = subst (AllFollowedUp lookup os files modules) same so.followed in
      let submodules = subst (AreSubmodules lookup os files modules) same so.linked.submodules in
      let unloaded = subst (AreUnloaded modules) same so.linked.unloaded in
      let next_is = submodules (length views) (waiting_view next) (at_end views (waiting_view next)) in
      let within = λ (place : ℕ) (n : ModuleNode) (e : slice_get modules place ≡ Some n). (so.modules place n e).within in
      let parents = λ (place : ℕ) (n : ModuleNode) (e : slice_get modules place ≡ Some n). (so.modules place n e).parent in
      let node_is = subst (λ fs. IsNodeOf next (length files) (length fs) node) grown is in
      let are = subst (λ fs. AreWaiting lookup os fs queue.keys (length modules) (length files) (length fs - length files) found) grown waiting in
      let on_queue = subst (AreQueued modules before) same so.queued in
      let linked : AreLinked lookup os (files ++ more) after.modules.items (map waiting_view left) = record {
        below = below_further lookup os files more modules after.modules.items next node views (map waiting_view left) found queue.keys followed within parents taken.1.parent node_is noted are whole so.linked.below next_is;
        once = once_further lookup os own files more modules after.modules.items next node views (map waiting_view left) found queue.keys within node_is noted are whole so.root so.linked.below submodules so.linked.once unloaded;
        apart = apart_further lookup os own files more modules after.modules.items next node views (map waiting_view left) found queue.keys within node_is noted are whole so.linked.apart;
        covered = covered_further lookup os own files more modules after.modules.items next node views (map waiting_view left) found queue.keys within node_is noted are whole so.linked.covered;
        own_files = own_files_further modules after.modules.items next node (length files) (length (files ++ more)) parents node_is noted lookup os (files ++ more) (length files) (length (files ++ more) - length files) views (map waiting_view left) found before queue on_queue chain keys so.linked.own_files;
        submodules = submodules_further lookup os files more modules after.modules.items next node views (map waiting_view left) found queue.keys followed within parents taken.1.parent node_is noted are whole submodules;
        unloaded = unloaded_further lookup os own files more modules after.modules.items next node views (map waiting_view left) found queue.keys within node_is noted are whole so.root so.linked.below submodules so.linked.once unloaded;
      } in
      entered files modules after gone next views left queue more node found so.modules taken.0 followed taken.1.named taken.1.parent grown numbered own_files is noted one_more waiting whole
      (λ place a lt h. are_above_still modules after.modules.items next node (length files) (length (files ++ more)) parents node_is noted place a lt h)
      (all_are_above modules after.modules.items next node (length files) (length (files ++ more)) parents node_is noted lookup os (files ++ more) (length files) (length (files ++ more) - length files) views (map waiting_view left) found before queue on_queue chain keys)
      (queued_further modules after.modules.items next node (length files) (length (files ++ more)) parents node_is noted lookup os (files ++ more) (length files) (length (files ++ more) - length files) views (map waiting_view left) found before queue on_queue chain keys are whole)
      (subst (λ fs. AreLinked lookup os fs after.modules.items (map waiting_view left)) (sym grown) linked) own (root_still own next modules after.modules.items node noted so.root)

  -- the root's module
  pub root_entered : (modules : List ModuleNode) (after : Compilation) (gone : Numbers) (root : Pending) (left : List Pending) (queue : Queue) (node : ModuleNode) (found : List Waiting) → modules ≡ [] → root.parent ≡ None → root.item ≡ None → root.name ≡ None
      → (is_read ≡ true → AreNumbered start after.files.items gone) → (is_read ≡ true → AreFilesOf lookup.sources.now expansion version 0 root.source.key.now after.files.items)
      → IsNodeOf root 0 (length after.files.items) node → IsNoted root.parent (length modules) (modules ++ node ∷ []) after.modules.items → length after.modules.items ≡ length modules + 1
      → AreWaiting lookup os after.files.items queue.keys (length modules) 0 (length after.files.items - 0) found → map waiting_view left ≡ found
      → queue.chain.items ≡ record { «module» = 0; key = root.source.key } ∷ [] → IsChain queue → AreLoadedSoFar lookup.sources.now expansion version os start is_read lookup root.source.key.now after gone left queue
  root_entered modules after gone root left queue node found none no_parent no_item no_name numbered own_files is noted one_more waiting whole chain keys =
      let at_first = subst (λ ms. IsNoted root.parent (length ms) (ms ++ node ∷ []) after.modules.items) none noted in
      let of_first = subst (λ ms. AreWaiting lookup os after.files.items queue.keys (length ms) 0 (length after.files.items - 0) found) none waiting in
      let many = one_more ∙ ap (λ ms. length ms + 1) none in
      let first = first_root root (length after.files.items) node after.modules.items no_parent no_item no_name is at_first in
      entered [] [] after gone root [] left queue after.files.items node found (λ place n e. absurd (none-some n e)) (λ i w e. absurd (none-some w e)) (λ place n e. absurd (none-some n e)) (λ place e. absurd (none-some place (sym no_item ∙ e)))
      (λ place e. absurd (none-some place (sym no_parent ∙ e))) refl numbered own_files is at_first many of_first whole
      (λ place a lt h. absurd (omega (arith, lt))) (root_above root.source.key.now after.modules.items root node 0 (length after.files.items) queue no_parent is at_first chain keys)
      (subst (AreQueued after.modules.items queue) (sym whole) (root_queued root.source.key.now after.modules.items root node 0 (length after.files.items) queue no_parent is at_first chain keys lookup os after.files.items 0 (length after.files.items - 0) found of_first))
      (subst (AreLinked lookup os after.files.items after.modules.items) (sym whole) (root_linked lookup os root.source.key.now after.files.items after.modules.items root node found queue.keys no_parent first many is at_first of_first (root_own_files root.source.key.now after.modules.items root node 0 (length after.files.items) queue no_parent is at_first chain keys many))) root.source.key.now first

-- the root that was read is the only file
pub root_begun : {Y Z : Type 0} (sources : BTreeMap (String Y) (String Z)) (expansion : Expansion) (version : Version) (os : Os) (start : Numbers) (is_read : Bool) (root : Bor (List ℕ)) (parsed : Parsed) (source : Source) (compilation : Compilation)
    → compilation.files.items ≡ record { key = root; «module» = 0; depth = 0; ast = parsed.ast } ∷ [] → compilation.modules.items ≡ [] → source.key.now ≡ root.now → is_clean root.now ≡ true → (is_read ≡ true → IsRootRead sources expansion version start root.now parsed)
    → IsBegun sources expansion version os start is_read source.key.now compilation parsed.numerator
root_begun sources expansion version os start is_read root parsed source compilation whole none same clean read =
    let file : LoadedFile = record { key = root; «module» = 0; depth = 0; ast = parsed.ast } in
    record {
      clean = subst (λ key. is_clean key ≡ true) (sym same) clean;
      none = none;
      alone = λ is. let r = read is in record { file = file; alone = whole; key = sym same; depth = refl; of = record { text = r.text; there = r.there; says = r.says; whole = r.whole; owner_is = refl } };
      numbered = λ is. subst (λ fs. AreNumbered start fs parsed.numerator) (sym whole) (numbered_more {files = []} file numbered_none (read is).numbered);
    }
