-- What the path means.
use Rattle.std.proofs.Common.{◌≡◌, ◌||◌, Some, ap, ◌∙◌, option_map}
use Rattle.just_text.specs.Tokens.{lexeme}
use Rattle.modules_files.specs.Found.{has_text, may_mean}
use Rattle.modules_files.proofs.Sets.{on_ok}
use Rattle.modules_files.proofs.search.Files.find_candidates.Goals as goal

pub returns-in-Some : goal.returns-in-Some
returns-in-Some c =
    let site = c.args.self.now in
    let line = c.args.line.now in
    let e : Some c.in-Some.path ≡ line.path = cc in
    on_ok c.find_placed.result (c.find_placed.ensures (lexeme line.name.token)) (λ put other.
    put other ∙ ap (λ p. has_text c.args.found.now other || may_mean site.sources.now site.folders.now.justfiles c.args.file.now (lexeme line.name.token) (option_map (λ path. path.now) p) other) e)
