-- The words that begin items.
use Rattle.std.specs.Prelude.{ℕ, List, codes}

abbrev pub alias_keyword : List ℕ
alias_keyword = codes "alias"

abbrev pub eager_keyword : List ℕ
eager_keyword = codes "eager"

abbrev pub export_keyword : List ℕ
export_keyword = codes "export"

abbrev pub import_keyword : List ℕ
import_keyword = codes "import"

abbrev pub mod_keyword : List ℕ
mod_keyword = codes "mod"

abbrev pub set_keyword : List ℕ
set_keyword = codes "set"

abbrev pub unexport_keyword : List ℕ
unexport_keyword = codes "unexport"
