-- Lists are on where the module's setting of lists sets them.
use Rattle.std.proofs.Common.{◌≡◌, refl, sym, ◌∙◌, ap, subst, Bool, true, false, List, Option, Some, None, ℕ, true≢false}
use Rattle.std.specs.Prelude.{codes}
use Rattle.std.specs.Option.{unwrap_or}
use Rattle.std.specs.Str.{bytes_eq}
use Rattle.std.proofs.lemmas.Slice.Eq.{bytes_eq-Decides}
use Rattle.just_text.specs.Tokens.{lexeme}
use Rattle.tree_attributes.specs.Settings.{SetShape, truth, value_shape}
use Rattle.tree_attributes.specs.declared.setting.Setting.{Setting}
use Rattle.tree_attributes.specs.declared.setting.Setting.TheVariants.{DotenvCommand, DotenvFilename, DotenvPath, Indentation, MinimumVersion, ScriptInterpreter, Shell, Tempdir, Truth, WindowsShell, WorkingDirectory}
use Rattle.tree_attributes.specs.declared.truth_setting.TruthSetting.TheVariants.{AllowDuplicateRecipes, AllowDuplicateVariables, DefaultList, DefaultScript, DotenvLoad, DotenvOverride, DotenvRequired, Export, Fallback, Guards, IgnoreComments, Lazy, Lists, NoCd, NoExitMessage, PositionalArguments, Quiet, ShareSubsequents, Unstable, WindowsPowershell}
use Rattle.tree_items.specs.Files.{set_item as set_item_shape}
use Rattle.tree_items.specs.Items.{set_shape}
use Rattle.tree_items.specs.declared.ast.Item.TheVariants.{Set as set_item}
use Rattle.tree_items.specs.declared.set.Set.{Set}
use Rattle.parse_items.specs.Names.{setting_name}
use Rattle.modules_compilation.specs.declared.compilation.Compilation.{Compilation}
use Rattle.modules_compilation.specs.declared.module_node.ModuleNode.{ModuleNode}
use Rattle.meaning_rules.specs.Worlds.Given.{Overrides, Text, World}
use Rattle.meaning_rules.specs.Worlds.Keeping.{Defines, IsOn, a_setting}
use Rattle.meaning_rules.specs.Constants.{AreLists, HasSetting}
use Rattle.laws_names.proofs.Reading.Bindings.{own_item}
use Rattle.laws_names.specs.Constants.Lists.{IsSaidOfLists, ListsAreSaid}
use Rattle.laws_names.specs.Constants.Sought.{IsListedSet, IsSettledModule}
use Rattle.laws_names.proofs.Constants.Kept.{one_setting, setting_kept, setting_there, shape_named}

-- a setting of this name is the one of lists
is_lists : (setting : Setting) → bytes_eq (setting_name setting) (codes "lists") ≡ true → (value : Bool) × (setting ≡ Truth Lists value)
is_lists (Truth AllowDuplicateRecipes b) e = absurd (true≢false (sym e))
is_lists (Truth AllowDuplicateVariables b) e = absurd (true≢false (sym e))
is_lists (Truth DefaultList b) e = absurd (true≢false (sym e))
is_lists (Truth DefaultScript b) e = absurd (true≢false (sym e))
is_lists (Truth DotenvLoad b) e = absurd (true≢false (sym e))
is_lists (Truth DotenvOverride b) e = absurd (true≢false (sym e))
is_lists (Truth DotenvRequired b) e = absurd (true≢false (sym e))
is_lists (Truth Export b) e = absurd (true≢false (sym e))
is_lists (Truth Fallback b) e = absurd (true≢false (sym e))
is_lists (Truth Guards b) e = absurd (true≢false (sym e))
is_lists (Truth IgnoreComments b) e = absurd (true≢false (sym e))
is_lists (Truth Lazy b) e = absurd (true≢false (sym e))
is_lists (Truth Lists b) e = (b, refl)
is_lists (Truth NoCd b) e = absurd (true≢false (sym e))
is_lists (Truth NoExitMessage b) e = absurd (true≢false (sym e))
is_lists (Truth PositionalArguments b) e = absurd (true≢false (sym e))
is_lists (Truth Quiet b) e = absurd (true≢false (sym e))
is_lists (Truth ShareSubsequents b) e = absurd (true≢false (sym e))
is_lists (Truth Unstable b) e = absurd (true≢false (sym e))
is_lists (Truth WindowsPowershell b) e = absurd (true≢false (sym e))
is_lists (DotenvCommand x) e = absurd (true≢false (sym e))
is_lists (DotenvFilename x) e = absurd (true≢false (sym e))
is_lists (DotenvPath x) e = absurd (true≢false (sym e))
is_lists (Indentation s) e = absurd (true≢false (sym e))
is_lists (MinimumVersion s) e = absurd (true≢false (sym e))
is_lists (ScriptInterpreter i) e = absurd (true≢false (sym e))
is_lists (Shell i) e = absurd (true≢false (sym e))
is_lists (Tempdir x) e = absurd (true≢false (sym e))
is_lists (WindowsShell i) e = absurd (true≢false (sym e))
is_lists (WorkingDirectory x) e = absurd (true≢false (sym e))

truth_is : (one other : Bool) → truth one ≡ truth other → one ≡ other
truth_is one other e = cc e

module _ (w : World) (compilation : Compilation) (k : ℕ) (node : ModuleNode) (path : List Text) (m : IsSettledModule w compilation k node path) (o : Overrides) where
  abbrev own : Text
  own = node.source.now

  -- a setting of lists has their name
  lists_named : (s : Set) → IsListedSet compilation node s → (value : Bool) → s.value ≡ Truth Lists value → lexeme s.name.token ≡ codes "lists"
  lists_named s listed value is = sym (own_item w compilation m.numbered listed.0 (set_item s) listed.2) ∙ ap setting_name is

  on_by : (s : Set) → IsListedSet compilation node s → s.value ≡ Truth Lists true → IsOn w own (codes "lists")
  on_by s listed is =
      let h = setting_there w compilation k node path m o s listed in
      record {
        key = h.key;
        place = h.place;
        attributes = h.attributes;
        setting = set_shape s;
        defines = subst (λ t. Defines w own a_setting t h.key h.place (set_item_shape h.attributes (set_shape s))) (lists_named s listed true is) h.defines;
        is = ap value_shape is;
      }

  -- where they are on, the module lists a setting that sets them
  set_by : IsOn w own (codes "lists") → (s : Set) × IsListedSet compilation node s × (s.value ≡ Truth Lists true)
  set_by on =
      let named : on.setting.name ≡ codes "lists" = shape_named w.os on.attributes on.setting (codes "lists") on.defines.is in
      let has : HasSetting w o path own on.setting = record { key = on.key; place = on.place; attributes = on.attributes; defines = subst (λ t. Defines w own a_setting t on.key on.place (set_item_shape on.attributes on.setting)) (sym named) on.defines } in
      let t = setting_kept w compilation k node path m o on.setting has in
      let name : setting_name t.0.value ≡ codes "lists" = own_item w compilation m.numbered t.1.0 (set_item t.0) t.1.2 ∙ ap (λ (s : SetShape). s.name) t.2 ∙ named in
      let lists = is_lists t.0.value ((bytes_eq-Decides (setting_name t.0.value) (codes "lists")).1 name) in
      let value : truth lists.0 ≡ truth true = sym (ap value_shape lists.1) ∙ ap (λ (s : SetShape). s.value) t.2 ∙ on.is in
      (t.0, t.1, lists.1 ∙ ap (Truth Lists) (truth_is lists.0 true value))

  -- two settings of lists say the same
  one_said : (s t : Set) → IsListedSet compilation node s → IsListedSet compilation node t → (a b : Bool) → s.value ≡ Truth Lists a → t.value ≡ Truth Lists b → a ≡ b
  one_said s t x y a b e f =
      let h = setting_there w compilation k node path m o s x in
      let g = setting_there w compilation k node path m o t y in
      let first = subst (λ n. Defines w own a_setting n h.key h.place (set_item_shape h.attributes (set_shape s))) (lists_named s x a e) h.defines in
      let second = subst (λ n. Defines w own a_setting n g.key g.place (set_item_shape g.attributes (set_shape t))) (lists_named t y b f) g.defines in
      let items : set_item_shape h.attributes (set_shape s) ≡ set_item_shape g.attributes (set_shape t) = one_setting w own (codes "lists") (m.numbered.settings k node m.here (codes "lists")) h.key g.key h.place g.place _ _ first second in
      let shapes : set_shape s ≡ set_shape t = cc items in
      truth_is a b (sym (ap value_shape e) ∙ ap (λ (s : SetShape). s.value) shapes ∙ ap value_shape f)

  said : (found : Option Bool) → IsSaidOfLists compilation node found → AreLists w o path own (unwrap_or found false)
  said (Some true) h = (λ e. on_by h.0 h.1 h.2, λ on. refl)
  said (Some false) h = (λ e. absurd (true≢false (sym e)), λ on. let s = set_by on in one_said h.0 s.0 h.1 s.1 false true h.2 s.2)
  said None none = (λ e. absurd (true≢false (sym e)), λ on. let s = set_by on in absurd (none s.0 true s.1 s.2))

pub lists_are_said : ListsAreSaid
lists_are_said w compilation k node path m o found h = said w compilation k node path m o found h
