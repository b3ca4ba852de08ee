-- Where a justfile is refused as it is loaded, the refusal names a rule that is broken.
use Rattle.std.proofs.Common.{◌≡◌, inl, inr, sym, ◌∙◌, ap, subst, Bool, true, false, ◌+◌, ◌-◌, ◌⊎◌, [], ℕ, zero, suc, List, Option, Some, None, refl, arith, length, drop}
use Rattle.std.specs.Prelude.{is_some, option_map, slice_get}
use Rattle.std.specs.BTreeMap.{BTreeMap}
use Rattle.std.specs.declared.string.String.{String}
use Rattle.std.proofs.lemmas.Option.{none-some, same_Some, slice_get_within}
use Rattle.just_text.specs.Numbers.{Numbers}
use Rattle.just_text.specs.declared.os.Os.{Os}
use Rattle.parse_expressions.specs.Literals.{Expansion}
use Rattle.semver.specs.declared.Version.{Version}
use Rattle.modules_compilation.specs.Paths.{is_clean}
use Rattle.modules_compilation.specs.Places.{items_of}
use Rattle.modules_compilation.specs.declared.error.Error.{Error}
use Rattle.modules_compilation.specs.declared.error.Error.TheVariants.{MissingRoot}
use Rattle.modules_compilation.specs.declared.module_node.File.{File as LoadedFile}
use Rattle.modules_compilation.specs.declared.module_node.ModuleNode.{ModuleNode}
use Rattle.modules_files.specs.Chosen.{File}
use Rattle.modules_files.specs.Found.{has_text, source_of}
use Rattle.modules_files.specs.declared.search.Files.{Files}
use Rattle.modules_sources.specs.Items.{key_of}
use Rattle.modules_sources.specs.Loaded.{below_refused, files_refused, IsLoadRefused, IsLookupOf, IsMissingRoot, IsNextRefused, IsRefused as IsLoadingRefused, IsRootMissing, IsSource, IsSubmodule as IsSubmoduleOf, refused_below, refused_root, root_missing, root_unread, submodule_refused}
use Rattle.modules_sources.specs.Above.{above_own, above_parent, IsAbove}
use Rattle.modules_sources.specs.Loading.{IsUnread}
use Rattle.modules_sources.specs.ReadingOrder.{AreFilesOf}
use Rattle.modules_sources.specs.Submodules.{Above, AreFound, IsCircular, IsRefused, IsRefusedAmong, IsRound as IsRoundAt, Waiting}
use Rattle.meaning_rules.specs.Worlds.Given.{Overrides, Text, World}
use Rattle.meaning_rules.specs.Worlds.Sources.{Leads, further, itself, Reached, root as reached_root}
use Rattle.meaning_rules.specs.Worlds.Standing.{StandsFor}
use Rattle.meaning_rules.proofs.Worlds.Places.{push_here}
use Rattle.meaning_rules.proofs.Worlds.Reached.{leads_reached, own_reached}
use Rattle.meaning_rules.specs.Rules.{Broken, Comes, by_import, by_submodule, itself as comes_itself, missing_root}
use Rattle.meaning_rules.specs.Told.{IsTold}
use Rattle.laws_modules.specs.Files.Files.{AreSaidWhereReached, IsFile}
use Rattle.meaning_rules.specs.Worlds.Views.{given_of, HasSources, name_text}
use Rattle.laws_modules.proofs.Files.Faults.{round_told, unread_told}
use Rattle.laws_modules.proofs.Files.Followed.{followed_said, has_sources}
use Rattle.laws_modules.proofs.Files.Loaded.{loaded_are_files}
use Rattle.laws_modules.proofs.Files.Refusals.{refused_are_told}
use Rattle.laws_modules.specs.Submodules.Submodules.{IsFileOfWorld}
use Rattle.laws_modules.proofs.Submodules.Files.{found_are_submodules}
use Rattle.laws_modules.proofs.Submodules.Refusing.{refusals_are_told}
use Rattle.laws_modules.proofs.Modules.Ranges.{drop_at, there_within}
use Rattle.laws_modules.proofs.Modules.Said.{loaded_said}
use Rattle.laws_modules.proofs.Modules.Started.{AreStarted, each_here, has_file, waiting_is_module}

-- imports lead further
leads_further : (w : World) (from file other : Text) (count : ℕ) → Comes w from file → Leads w file count other → Comes w from other
leads_further w from file other count c itself = c
leads_further w from file other (suc count) c (further {between = between} l i) = by_import (leads_further w from file between count c l) i

none_there : (key : Text) (text : Option Text) → option_map {U = Text × Text} (λ t. (key, t)) text ≡ None → is_some text ≡ false
none_there key None e = refl
none_there key (Some text) e = absurd (cc e)

-- one leads to another, which leads to a third
comes_join : (w : World) (from between other : Text) → Comes w from between → Comes w between other → Comes w from other
comes_join w from between _ c comes_itself = c
comes_join w from between _ c (by_import d i) = by_import (comes_join w from between _ c d) i
comes_join w from between _ c (by_submodule d s) = by_submodule (comes_join w from between _ c d) s

-- ---- what leads from a module to one below it

module _ {Y Z : Type 0} (sources : BTreeMap (String Y) (String Z)) (w : World) (files : List LoadedFile) (modules : List ModuleNode) (h : AreStarted sources w files modules) where
  -- a module's own file leads to that of a submodule that its files have
  pub waiting_comes : (inner : Waiting) (s : IsSubmoduleOf h.lookup h.os files modules inner) → Comes w s.node.source.now inner.file.0
  waiting_comes inner s =
      let so = each_here sources (loaded_are_files sources) (found_are_submodules sources) w files modules h s.place s.node s.there in
      let f = has_file sources (loaded_are_files sources) (found_are_submodules sources) w files modules h s.place s.node s.there so.own_files s.file s.from s.to in
      let is = ((f.submodules s.found s.are).sound s.i s.one s.found_at).is in
      subst (Comes w s.node.source.now) (sym (ap (λ v. v.file.0) s.is)) (by_submodule (leads_further w s.node.source.now s.node.source.now f.file.key.now f.is.of.count comes_itself f.is.of.leads) is)

  -- that of the module above leads to each behind the first
  pub loaded_comes : (k : ℕ) (node : ModuleNode) → slice_get modules (suc k) ≡ Some node → (p : ℕ) (above : ModuleNode) → node.parent ≡ Some p → slice_get modules p ≡ Some above → Comes w above.source.now node.source.now
  loaded_comes k node e p above parent there =
      let b = h.below k node e in
      let s = b.is in
      let own : s.place ≡ p = same_Some s.place p (sym (b.loaded.parent ∙ ap (λ v. v.parent) s.is) ∙ parent) in
      let same : s.node ≡ above = same_Some s.node above (sym s.there ∙ ap (slice_get modules) own ∙ there) in
      subst (λ a. Comes w a node.source.now) (ap (λ n. n.source.now) same) (subst (Comes w s.node.source.now) (sym b.loaded.source) (waiting_comes b.submodule s))

  -- those of all modules above lead to it
  pub above_comes : (key : Text) (k : ℕ) (node : ModuleNode) → slice_get modules k ≡ Some node → IsAbove modules key k → Comes w key node.source.now
  above_comes key k node e (above_own {node = other} there own) = subst (λ a. Comes w a node.source.now) (ap (λ n. n.source.now) (same_Some node other (sym e ∙ there)) ∙ own) comes_itself
  above_comes key k node e (above_parent {parent} {node = other} there up above) = by_place k e there (above_comes key parent up_there.0 up_there.1 above)
    where
      up_there : (p : ModuleNode) × (slice_get modules parent ≡ Some p)
      up_there = there_within modules parent (let lt = (h.all k other there).parent parent up in let within = slice_get_within modules k node e in omega (arith, lt, within))

      by_place : (k : ℕ) → slice_get modules k ≡ Some node → slice_get modules k ≡ Some other → Comes w key up_there.0.source.now → Comes w key node.source.now
      by_place zero e there comes = absurd (none-some parent (sym h.has_root.parent ∙ ap (λ n. n.parent) (same_Some h.has_root.node other (sym h.has_root.first ∙ there)) ∙ up))
      by_place (suc k) e there comes =
          comes_join w key up_there.0.source.now node.source.now comes (loaded_comes k node e parent up_there.0 (ap (λ n. n.parent) (same_Some node other (sym e ∙ there)) ∙ up) up_there.1)

module _ {Y Z : Type 0} (sources : BTreeMap (String Y) (String Z)) (expansion : Expansion) (version : Version) (os : Os) (unstable : Bool) (start : Numbers) (root : Text) (w : World)
    (stands : StandsFor (given_of sources os unstable expansion version root) w) (o : Overrides) (refusal : Error) where
  -- the world has files where the sources have texts
  abbrev has : HasSources sources expansion w
  has = has_sources sources os unstable expansion version root w stands

  root_reached : Reached w root
  root_reached = subst (Reached w) stands.same_root reached_root

  -- the root is missing
  pub missing_told : IsRootMissing sources root refusal → IsTold (Broken w o) refusal
  missing_told h = by_refusal refusal h.told
    where
      is_missing : (key : Text) → key ≡ root → (is_clean key ≡ false) ⊎ (w.there key ≡ false)
      is_missing key is = elim h.missing [
        | inl unclean ↦ inl (ap is_clean is ∙ unclean)
        | inr none ↦ inr (ap w.there is ∙ stands.there root ∙ none_there root (source_of sources root) none)
      ]

      by_refusal : (r : Error) → IsMissingRoot r root → IsTold (Broken w o) r
      by_refusal (MissingRoot key) is = inr (missing_root key.now, refl, record { said = λ e. absurd (cc e); breaks = (is ∙ sym stands.same_root, is_missing key.now is) })
      by_refusal others is = absurd is

  -- ---- a module that is refused

  module _ (lookup : Files) (looks_up : IsLookupOf sources lookup) (modules : List ModuleNode) (parent : Option ℕ) (first : ℕ) (source : File) where
    abbrev place : ℕ
    place = length modules

    -- the files of the modules above lead to that of this one
    abbrev pub ComesFromAbove : Type 0
    ComesFromAbove = (above : ℕ) → parent ≡ Some above → (key : Text) → IsAbove modules key above → Comes w key source.0

    module _ (reached : Reached w source.0) where
      -- a submodule of a file of the module is refused
      submodule_told : (files : List LoadedFile) (above : Above) → AreFilesOf sources expansion version place source.0 (drop first files) → IsRefusedAmong lookup os files above place first (length files - first) refusal
          → ((key : Text) → has_text above key ≡ true → Comes w key source.0) → IsTold (Broken w o) refusal
      submodule_told files above own_files among comes = elim among.refused [
        | inl alone ↦ refusals_are_told sources expansion w os lookup file.key.now file.ast.items.items refusal of_world file_reached (subst (λ f. IsRefused lookup os (key_of f) (items_of f) refusal) there.1 alone) o
        | inr round ↦ goes_round round
      ]
        where
          n : ℕ
          n = first + among.count

          there : (f : LoadedFile) × (slice_get files n ≡ Some f)
          there = let lt = among.within in there_within files n (omega (arith, lt))

          file : LoadedFile
          file = there.0

          at : slice_get (drop first files) among.count ≡ Some file
          at = drop_at first files among.count ∙ there.1

          said : AreSaidWhereReached w (drop first files)
          said = followed_said sources os unstable expansion version root w stands place source.0 (length (drop first files)) (drop first files) own_files.order.imports own_files.order.followed

          is : IsFile w place source.0 file
          is = (loaded_are_files sources expansion version w place source.0 (drop first files) (record { has = has; said = said; own_reached = reached; are = own_files })).each among.count file at

          file_reached : Reached w file.key.now
          file_reached = leads_reached w source.0 is.of.count file.key.now reached is.of.leads

          of_world : IsFileOfWorld sources expansion w os lookup file.key.now file.ast.items.items
          of_world = record {
            has = has;
            same_os = stands.same_os;
            looks_up = looks_up;
            cooked = (own_files.order.followed.each among.count file at).whole.cooked;
            says = is.says;
          }

          goes_round : IsRoundAt lookup os files above n refusal → IsTold (Broken w o) refusal
          goes_round r =
              let back = r.back in
              let found = subst (λ f. AreFound lookup os (key_of f) (items_of f) r.found) there.1 r.found_all in
              let i : slice_get r.found (length back.earlier) ≡ Some back.submodule = ap (λ fs. slice_get fs (length back.earlier)) back.whole ∙ push_here back.earlier back.submodule back.later in
              let sub = ((found_are_submodules sources expansion w os lookup file.key.now file.ast.items.items r.found of_world found).sound (length back.earlier) back.submodule i).is in
              let other = back.submodule.file.0 in
              let comes_back = leads_further w other source.0 file.key.now is.of.count (comes other back.has) is.of.leads in
              round_told w o refusal file.key.now other (subst (λ f. IsCircular refusal (key_of f) other) there.1 back.told) file_reached (inr ((name_text back.submodule.name, sub), comes_back))

      -- the module is refused
      pub load_refused_told : IsSource sources source → ComesFromAbove → IsLoadRefused sources expansion version lookup os modules parent first source refusal → IsTold (Broken w o) refusal
      load_refused_told known comes (files_refused r) = refused_are_told sources os unstable expansion version root w stands place first source refusal reached known r o
      load_refused_told known comes (submodule_refused files above own_files all_above among) = submodule_told files above own_files among (λ key has. by_key key ((all_above key).0 has))
        where
          by_key : (key : Text) → (source.0 ≡ key) ⊎ ((at : ℕ) × (parent ≡ Some at) × IsAbove modules key at) → Comes w key source.0
          by_key key (inl own) = subst (λ k. Comes w k source.0) own comes_itself
          by_key key (inr (at, is, up)) = comes at is key up

  -- the root's text is refused
  pub unread_root_told : (source : File) → source.0 ≡ root → IsSource sources source → (used : Numbers) → IsUnread expansion version 0 0 source used refusal → IsTold (Broken w o) refusal
  unread_root_told source is known used u = unread_told sources os unstable expansion version root w stands 0 0 source used refusal u (subst (Reached w) (sym is) root_reached) known o

  -- a module below the root's is refused
  module _ (lookup : Files) (looks_up : IsLookupOf sources lookup) (h : IsNextRefused sources expansion version os start true lookup root refusal) where
    abbrev pub started : AreStarted sources w h.compilation.files.items h.compilation.modules.items
    started = record {
      os = os;
      expansion = expansion;
      version = version;
      root = root;
      start = start;
      has = has;
      same_os = stands.same_os;
      same_root = stands.same_root;
      said = loaded_said sources expansion version os start h.compilation.files.items h.compilation.modules.items h.loaded.modules h.loaded.linked.covered unstable root w stands;
      has_root = h.loaded.root;
      all = h.loaded.modules;
      lookup = lookup;
      looks_up = looks_up;
      below = h.loaded.linked.below;
    }

    pub next_refused_told : IsTold (Broken w o) refusal
    next_refused_told =
        let m = waiting_is_module sources (loaded_are_files sources) (found_are_submodules sources) w h.compilation.files.items h.compilation.modules.items started h.next h.submodule in
        load_refused_told lookup looks_up h.compilation.modules.items h.next.parent (length h.compilation.files.items) h.next.file (own_reached w m.0 h.next.file.0 m.1) h.awaited.source comes h.refused
      where
        comes : ComesFromAbove lookup looks_up h.compilation.modules.items h.next.parent (length h.compilation.files.items) h.next.file
        comes above is key up =
            let s = h.submodule in
            let own : s.place ≡ above = same_Some s.place above (sym (ap (λ v. v.parent) s.is) ∙ is) in
            let there = ap (slice_get h.compilation.modules.items) (sym own) ∙ s.there in
            comes_join w key s.node.source.now h.next.file.0 (above_comes sources w h.compilation.files.items h.compilation.modules.items started key above s.node there up)
            (waiting_comes sources w h.compilation.files.items h.compilation.modules.items started h.next s)

  -- a justfile that is refused as it is loaded is told
  pub loading_told : IsLoadingRefused sources expansion version os start true root refusal → IsTold (Broken w o) refusal
  loading_told (root_missing h) = missing_told h
  loading_told (root_unread source is there used u) = unread_root_told source is there used u
  loading_told (below_refused (refused_root lookup looks_up r)) =
      let t = r refl in
      load_refused_told lookup looks_up [] None 0 (root, t.0) root_reached t.1 (λ above is key up. absurd (none-some above is)) t.2
  loading_told (below_refused (refused_below lookup looks_up h)) = next_refused_told lookup looks_up h
