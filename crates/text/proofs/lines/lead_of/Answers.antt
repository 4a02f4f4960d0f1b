-- `text::lines::lead_of` meets its contract: each arm is a line of the table, by its number. Assumes nothing.
use borrow.Author.Rules.{rules}
use Rattle.text.proofs.Table.{by_test, this_byte, other_byte}
use Rattle.text.proofs.Leads.{lead_at}
use Rattle.text.proofs.lines.lead_of.Goals as goal

ruleset lines = (by_test, this_byte, other_byte)

pub returns-then-is_plain : goal.returns-then-is_plain
returns-then-is_plain c = lead_at 0 _ _ (search (lines, rules) depth 14) (search rules)

pub returns-then-within : goal.returns-then-within
returns-then-within c = lead_at 1 _ _ (search (lines, rules) depth 14) (search rules)

pub returns-then-b-eq224 : goal.returns-then-b-eq224
returns-then-b-eq224 c = lead_at 2 _ _ (search (lines, rules) depth 14) (search rules)

pub returns-then-within-2 : goal.returns-then-within-2
returns-then-within-2 c = lead_at 3 _ _ (search (lines, rules) depth 14) (search rules)

pub returns-then-b-eq237 : goal.returns-then-b-eq237
returns-then-b-eq237 c = lead_at 4 _ _ (search (lines, rules) depth 14) (search rules)

pub returns-then-within-3 : goal.returns-then-within-3
returns-then-within-3 c = lead_at 5 _ _ (search (lines, rules) depth 14) (search rules)

pub returns-then-b-eq240 : goal.returns-then-b-eq240
returns-then-b-eq240 c = lead_at 6 _ _ (search (lines, rules) depth 14) (search rules)

pub returns-then-within-4 : goal.returns-then-within-4
returns-then-within-4 c = lead_at 7 _ _ (search (lines, rules) depth 14) (search rules)

pub returns-then-b-eq244 : goal.returns-then-b-eq244
returns-then-b-eq244 c = lead_at 8 _ _ (search (lines, rules) depth 14) (search rules)

pub returns-else-b-eq244 : goal.returns-else-b-eq244
returns-else-b-eq244 c = lead_at 9 _ _ (search (lines, rules) depth 14) (search rules)
