-- Lists that gain one definition after the other.
use Rattle.std.proofs.Common.{◌≡◌, ◌∙◌, ◌<◌, ◌≤◌, ◌+◌, ◌++◌, ◌∷◌, [], ℕ, List, length, map, take, get_or, sym, ap, subst, refl}
use Rattle.std.proofs.lemmas.List.{append-nil, append_assoc, map-append, take_all, take_more}
use Rattle.std.proofs.lemmas.List.Elements.{filter-append, filter_map-append}
use Rattle.modules_compilation.specs.declared.module_node.ModuleNode.{ModuleNode}
use Rattle.modules_definitions.specs.declared.definition.Definition.{Definition}
use Rattle.modules_definitions.specs.declared.definition.Kind.{Kind}
use Rattle.modules_definitions.specs.declared.definition.Kind.TheVariants.{Alias, Disabled, Function, Recipe, Set, Unexport, Variable}
use Rattle.modules_definitions.specs.Lists.{Gains, IsSameModule, is_same_kind, of_kind, submodule_of}

-- what is made of those of a kind among some and among further ones
made_of : {X : Type 0} (f : Definition → X) (kind : Kind) (xs ys : List Definition) → map f (of_kind kind (xs ++ ys)) ≡ map f (of_kind kind xs) ++ map f (of_kind kind ys)
made_of f kind xs ys =
    ap (map f) (filter-append (λ d. is_same_kind kind d.kind) xs ys) ∙ map-append f (of_kind kind xs) (of_kind kind ys)

grown : {X : Type 0} (before now after gained more both : List X) → now ≡ before ++ gained → after ≡ now ++ more → both ≡ gained ++ more → after ≡ before ++ both
grown before now after gained more both e f g =
    f ∙ ap (λ xs. xs ++ more) e ∙ append_assoc before gained more ∙ ap (λ xs. before ++ xs) (sym g)

same_on : (a b c : ModuleNode) → IsSameModule a b → IsSameModule b c → IsSameModule a c
same_on a b c p q = record {
  parent = q.parent ∙ p.parent;
  name = q.name ∙ p.name;
  item = q.item ∙ p.item;
  source = q.source ∙ p.source;
  first_file = q.first_file ∙ p.first_file;
  end_file = q.end_file ∙ p.end_file;
}

pub same_module : (a : ModuleNode) → IsSameModule a a
same_module a = record { parent = refl; name = refl; item = refl; source = refl; first_file = refl; end_file = refl }

-- nothing is gained by no definition
pub gains_none : (a : ModuleNode) → Gains a.submodules.items a a []
gains_none a = record {
  same = same_module a;
  aliases = sym (append-nil a.aliases.items);
  assignments = sym (append-nil a.assignments.items);
  disabled = sym (append-nil a.disabled.items);
  functions = sym (append-nil a.functions.items);
  recipes = sym (append-nil a.recipes.items);
  recipe_names = sym (append-nil a.recipe_names.items);
  sets = sym (append-nil a.sets.items);
  unexports = sym (append-nil a.unexports.items);
  inner = sym (append-nil a.submodules.items);
}

-- what is gained by some definitions, and then by further ones
pub gains_more : (inner : List ℕ) (a b c : ModuleNode) (xs ys : List Definition) → Gains inner a b xs → Gains b.submodules.items b c ys → Gains inner a c (xs ++ ys)
gains_more inner a b c xs ys p q = record {
  same = same_on a b c p.same q.same;
  aliases = grown a.aliases.items b.aliases.items c.aliases.items _ _ _ p.aliases q.aliases (made_of (λ d. d.place) Alias xs ys);
  assignments = grown a.assignments.items b.assignments.items c.assignments.items _ _ _ p.assignments q.assignments (made_of (λ d. d.place) Variable xs ys);
  disabled = grown a.disabled.items b.disabled.items c.disabled.items _ _ _ p.disabled q.disabled (made_of (λ d. d.place) Disabled xs ys);
  functions = grown a.functions.items b.functions.items c.functions.items _ _ _ p.functions q.functions (made_of (λ d. d.place) Function xs ys);
  recipes = grown a.recipes.items b.recipes.items c.recipes.items _ _ _ p.recipes q.recipes (made_of (λ d. d.place) Recipe xs ys);
  recipe_names = grown a.recipe_names.items b.recipe_names.items c.recipe_names.items _ _ _ p.recipe_names q.recipe_names (made_of (λ d. record { front = d.front; place = d.place }) Recipe xs ys);
  sets = grown a.sets.items b.sets.items c.sets.items _ _ _ p.sets q.sets (made_of (λ d. d.place) Set xs ys);
  unexports = grown a.unexports.items b.unexports.items c.unexports.items _ _ _ p.unexports q.unexports (made_of (λ d. d.name.now) Unexport xs ys);
  inner = grown inner b.submodules.items c.submodules.items _ _ _ p.inner q.inner (filter_map-append (λ d. submodule_of d.kind) xs ys);
}

pub gains_next : (inner : List ℕ) (a b c : ModuleNode) (ds : List Definition) (i : ℕ) (d : Definition) → i < length ds → Gains inner a b (take i ds) → Gains b.submodules.items b c (get_or ds i d ∷ []) → Gains inner a c (take (i + 1) ds)
gains_next inner a b c ds i d lt p q = subst (Gains inner a c) (sym (take_more ds i d lt)) (gains_more inner a b c (take i ds) (get_or ds i d ∷ []) p q)

pub gains_all : (inner : List ℕ) (a b : ModuleNode) (ds : List Definition) (i : ℕ) → length ds ≤ i → Gains inner a b (take i ds) → Gains inner a b ds
gains_all inner a b ds i le p = subst (Gains inner a b) (take_all i ds le) p
