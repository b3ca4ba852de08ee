-- Lists are joined, put side by side and told in a row.
use Rattle.just_value.proofs.Pairs.{go_pairwise, joined_alone}
use Rattle.just_value.proofs.Rows.{row_is}
use Rattle.just_value.proofs.law.lists_are_put_together.Goals as goal

pub returns-clause-alone : goal.returns-clause-alone
returns-clause-alone c = joined_alone

pub returns-clause-pairwise : goal.returns-clause-pairwise
returns-clause-pairwise c = go_pairwise

pub returns-clause-row : goal.returns-clause-row
returns-clause-row c = row_is
