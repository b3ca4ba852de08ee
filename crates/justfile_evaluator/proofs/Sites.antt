-- What a body's commands are given is what is given by name, and a line is shown where one is by name.
use Rattle.std.proofs.Common.{◌≡◌, ℕ, Bool, true, false, not, ◌&&◌, ◌||◌, cond, if◌then◌else◌, List, [], ◌∷◌, Option, Some, None, refl}
use Rattle.std.specs.Prelude.{is_some}
use Rattle.std.specs.String.{string_bytes}
use Rattle.just_host.specs.declared.job.CommandJob.{CommandJob}
use Rattle.just_host.specs.declared.job.Pair.{Pair}
use Rattle.tree_items.specs.declared.line.Sigils.{Sigils}
use Rattle.evaluate_context.specs.Folders.{folder_below}
use Rattle.meaning_evaluation.specs.Bodies.{differs, line_job, line_words, folder_of, shows_line}
use Rattle.justfile_evaluator.specs.Bodies.{NamedBody, IsSiteOf}
use Rattle.justfile_evaluator.specs.Sites.{folder_in, job_by, shows_in, template_in, words_in}
use Rattle.justfile_evaluator.specs.declared.site.Site.{Site}

words_same : (p q : Bool) (n m : List ℕ) (xs ys : List (List ℕ)) → p ≡ q → n ≡ m → (q ≡ true → xs ≡ ys) → (if p then n ∷ xs else []) ≡ (if q then m ∷ ys else [])
words_same p true n m xs ys e f g = let h : xs ≡ ys = g refl in rw (e, f, h) refl
words_same p false n m xs ys e f g = rw e refl

-- the words after a command
pub words_by_name : (b : NamedBody) (site : Site) → IsSiteOf b site → words_in site ≡ line_words b.configuration b.scene b.name b.recipe b.flag b.bound
words_by_name b site h = words_same _ _ _ _ _ _ h.recipe.passes_words h.recipe.name h.environment.words

folder_same : (a a2 c c2 : Bool) (o o2 : Option (List ℕ)) (f f2 : List ℕ) → a ≡ a2 → c ≡ c2 → o ≡ o2 → f ≡ f2
    → cond (a || (c && not (is_some o))) None (Some (folder_below f o)) ≡ cond (a2 || (c2 && not (is_some o2))) None (Some (folder_below f2 o2))
folder_same a a2 c c2 o o2 f f2 e g h k = rw (e, g, h, k) refl

-- the folder of commands
pub folder_by_name : (b : NamedBody) (site : Site) → IsSiteOf b site → folder_in site.context.now site.attributes.now ≡ folder_of b.configuration b.scene b.name b.recipe b.flag b.bound
folder_by_name b site h = folder_same _ _ _ _ _ _ _ _ h.recipe.no_cd h.settings.no_cd h.recipe.folder h.environment.folder

abbrev job_with : List ℕ → List (List ℕ) → List (List ℕ) → List Pair → List (List ℕ) → Option (List ℕ) → Bool → CommandJob
job_with command shell positional pairs removed folder quiet = record { shell = shell; command = command; positional = positional; pairs = pairs; removed = removed; folder = folder; quiet = quiet }

job_same : (command : List ℕ) (s s2 w w2 : List (List ℕ)) (p p2 : List Pair) (r r2 : List (List ℕ)) (f f2 : Option (List ℕ)) (q q2 : Bool) → s ≡ s2 → w ≡ w2 → p ≡ p2 → r ≡ r2 → f ≡ f2 → q ≡ q2
    → job_with command s w p r f q ≡ job_with command s2 w2 p2 r2 f2 q2
job_same command s s2 w w2 p p2 r r2 f f2 q q2 a b c d e g = rw (a, b, c, d, e, g) refl

-- the job of a command
pub job_by_name : (b : NamedBody) (site : Site) → IsSiteOf b site → (command : List ℕ) → job_by (template_in site) command ≡ line_job b.configuration b.scene b.name b.recipe b.flag b.bound command
job_by_name b site h command = job_same command _ _ _ _ _ _ _ _ _ _ _ _ h.environment.shell (words_by_name b site h) h.environment.pairs h.environment.removed (folder_by_name b site h) h.configuration.quiet

shows_same : (mark d d2 l l2 m m2 h h2 q q2 : Bool) → d ≡ d2 → l ≡ l2 → m ≡ m2 → h ≡ h2 → q ≡ q2 → ((d || l) || not ((differs mark m || h) || q)) ≡ ((d2 || l2) || not ((differs mark m2 || h2) || q2))
shows_same mark d d2 l l2 m m2 h h2 q q2 a b c e f = rw (a, b, c, e, f) refl

-- whether a line is shown
pub shows_by_name : (b : NamedBody) (site : Site) → IsSiteOf b site → (sigils : Sigils) → shows_in site.manner site.context.now.config.now sigils.quiet ≡ shows_line b.configuration b.scene b.name b.recipe b.flag b.bound sigils
shows_by_name b site h sigils = shows_same sigils.quiet _ _ _ _ _ _ _ _ _ _ h.configuration.dry_run h.configuration.loquacious h.recipe.is_quiet h.recipe.hides_lines h.configuration.quiet
