-- Reading orders.
use Rattle.meaning_rules.proofs.Worlds.Rows.{rows_are_imports}
use Rattle.meaning_rules.proofs.Worlds.Reading.{orders_are_by_depth, orders_are_by_imports, orders_are_unique, orders_have_once, orders_have_reached}
use Rattle.meaning_rules.proofs.law.worlds.reading_orders.Goals as goal

pub returns-clause-rows : goal.returns-clause-rows
returns-clause-rows c = rows_are_imports

pub returns-clause-reached : goal.returns-clause-reached
returns-clause-reached c = orders_have_reached

pub returns-clause-once : goal.returns-clause-once
returns-clause-once c = orders_have_once

pub returns-clause-depths : goal.returns-clause-depths
returns-clause-depths c = orders_are_by_depth

pub returns-clause-imports : goal.returns-clause-imports
returns-clause-imports c = orders_are_by_imports

pub returns-clause-unique : goal.returns-clause-unique
returns-clause-unique c = orders_are_unique
