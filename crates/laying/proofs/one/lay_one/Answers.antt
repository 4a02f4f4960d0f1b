-- `laying::one::lay_one` meets its contract: a law of Lays for each way out. Assumes nothing.
use borrow.Author.Rules.{rules}
use Rattle.laying.proofs.Lays.{child_key_right, child_key_laid, child_known, child-leaf-laid, child-marked, child_there, child-value}
use Rattle.laying.proofs.Steps.{ready_lent, ready_low}
use Rattle.laying.proofs.one.lay_one.Goals as goal

pub lay_key-requires : goal.lay_key-requires
lay_key-requires c = record { right = search child_key_right; at_le_stop = (search rules, search rules, search rules, search ready_lent, search ready_low) }

pub returns-then-is_key : goal.returns-then-is_key
returns-then-is_key c = search child_key_laid

pub lay_plain-requires : goal.lay_plain-requires
lay_plain-requires c =
    record {
      known = search child_known;
      at_lt_stop = (search child_there, search rules, search rules);
      row_bound = (search ready_lent, search ready_low);
    }

pub lay_marked-requires : goal.lay_marked-requires
lay_marked-requires c = record { ready = child-value _ _ _ _ _ _ _ _ _ _ _ c.requires.ready _ c.is_key.ensures c.if-is_key.false _ c.in-None.ensures _ c.in_force-inside.ensures; at_lt_stop = (search child_there, search rules, search rules) }

pub returns-in-Some : goal.returns-in-Some
returns-in-Some c = child-leaf-laid _ _ _ _ _ _ _ _ _ _ _ c.requires.ready _ c.is_key.ensures c.if-is_key.false c.requires.at_le_stop.1 c.requires.at_le_stop.2 _ _ c.in-Some.ensures

pub returns-in-None : goal.returns-in-None
returns-in-None c = child-marked _ _ _ _ _ _ _ _ _ _ _ c.requires.ready _ c.is_key.ensures c.if-is_key.false _ c.in-None.ensures _ c.in_force-inside.ensures _ _ c.lay_marked.ensures
