-- Each request has its dialogue.
use Rattle.std.proofs.Common.{Err, Ok, [], ◌++◌, codes, subst, sym}
use Rattle.just_host.specs.declared.host.Question.TheVariants.{Canonicalize, Read}
use Rattle.meaning_dialogues.specs.Dialogue.{Evaluates}
use Rattle.meaning_dialogues.specs.Evaluation.{ticked}
use Rattle.meaning_dialogues.specs.Faults.{function_failed}
use Rattle.evaluate_context.specs.Surroundings.{surroundings_of}
use Rattle.evaluate_builtins.specs.Builtins.{at_path, exists_dialogue, program_dialogue}
use Rattle.evaluate_builtins.specs.Named.{named}
use Rattle.evaluate_builtins.specs.Requests.{requested}
use Rattle.evaluate_builtins.specs.Sites.{standing_of}
use Rattle.evaluate_builtins.proofs.call.answered.Goals as goal

pub returns-in-Existence-clause-evaluates : goal.returns-in-Existence-clause-evaluates
returns-in-Existence-clause-evaluates g c name reading =
    let around = surroundings_of c.args.site.now.context.now in
    subst (λ request. Evaluates reading (requested around (standing_of c.args.site.now) name request c.args.arguments.now) c.args.host.now.entries c.path_exists.new.host.entries (named name c.path_exists.result)) (sym c.in-Existence.is)
    (subst (λ text. Evaluates reading (exists_dialogue name around text) c.args.host.now.entries c.path_exists.new.host.entries (named name c.path_exists.result)) c.text_at-text.ensures (c.path_exists.ensures.evaluates name reading))

pub returns-in-Output-clause-evaluates : goal.returns-in-Output-clause-evaluates
returns-in-Output-clause-evaluates g c name reading =
    subst (λ request. Evaluates reading (requested (surroundings_of c.args.site.now.context.now) (standing_of c.args.site.now) name request c.args.arguments.now) c.args.host.now.entries c.shell.new.host.entries (named name c.shell.result)) (sym c.in-Output.is)
    (c.shell.ensures.evaluates name reading)

pub returns-in-RequiredProgram-clause-evaluates : goal.returns-in-RequiredProgram-clause-evaluates
returns-in-RequiredProgram-clause-evaluates g c name reading =
    let around = surroundings_of c.args.site.now.context.now in
    subst (λ request. Evaluates reading (requested around (standing_of c.args.site.now) name request c.args.arguments.now) c.args.host.now.entries c.require.new.host.entries (named name c.require.result)) (sym c.in-RequiredProgram.is)
    (subst (λ text. Evaluates reading (program_dialogue name around text (Err (function_failed name (codes "could not find executable " ++ ticked text)))) c.args.host.now.entries c.require.new.host.entries (named name c.require.result)) c.text_at-text.ensures (c.require.ensures.evaluates name reading))

pub returns-in-CanonicalPath-clause-evaluates : goal.returns-in-CanonicalPath-clause-evaluates
returns-in-CanonicalPath-clause-evaluates g c name reading =
    let around = surroundings_of c.args.site.now.context.now in
    subst (λ request. Evaluates reading (requested around (standing_of c.args.site.now) name request c.args.arguments.now) c.args.host.now.entries c.canonicalize.new.host.entries (named name c.canonicalize.result)) (sym c.in-CanonicalPath.is)
    (subst (λ text. Evaluates reading (at_path name Canonicalize (codes "canonicalizing") around text) c.args.host.now.entries c.canonicalize.new.host.entries (named name c.canonicalize.result)) c.text_at-text.ensures (c.canonicalize.ensures.evaluates name reading))

pub returns-in-Contents-clause-evaluates : goal.returns-in-Contents-clause-evaluates
returns-in-Contents-clause-evaluates g c name reading =
    let around = surroundings_of c.args.site.now.context.now in
    subst (λ request. Evaluates reading (requested around (standing_of c.args.site.now) name request c.args.arguments.now) c.args.host.now.entries c.read.new.host.entries (named name c.read.result)) (sym c.in-Contents.is)
    (subst (λ text. Evaluates reading (at_path name Read (codes "reading") around text) c.args.host.now.entries c.read.new.host.entries (named name c.read.result)) c.text_at-text.ensures (c.read.ensures.evaluates name reading))

pub returns-in-Program-clause-evaluates : goal.returns-in-Program-clause-evaluates
returns-in-Program-clause-evaluates g c name reading =
    let around = surroundings_of c.args.site.now.context.now in
    subst (λ request. Evaluates reading (requested around (standing_of c.args.site.now) name request c.args.arguments.now) c.args.host.now.entries c.which.new.host.entries (named name c.which.result)) (sym c.in-Program.is)
    (subst (λ text. Evaluates reading (program_dialogue name around text (Ok [])) c.args.host.now.entries c.which.new.host.entries (named name c.which.result)) c.text_at-text.ensures (c.which.ensures.evaluates name reading))
