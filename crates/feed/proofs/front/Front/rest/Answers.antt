-- `feed::Front::rest` meets its contract: what was read is what fills the part. Assumes nothing.
use Rattle.std.proofs.Common.{rules, arith}
use Rattle.feed.proofs.Words.{lent_filled, data_behind, data_length}
use Rattle.feed.proofs.front.Front.rest.Goals as goal

pub returns-clause-size : goal.returns-clause-size
returns-clause-size g c = (
  search rules,
  search (arith, data_length, c.fills.auto.buf, c.in-Some.ensures.lookup, c.from.ensures, c.from-words.ensures),
)

pub returns-clause-bytes : goal.returns-clause-bytes
returns-clause-bytes g c = (
  c.fills.new.buf,
  search rules,
  lent_filled
      c.in-Some-get_mut.lent.now
      c.fill.new.table
      _
      c.args.self.words
      c.fills.new.buf
      (search (arith, c.in-Some-get_mut.ensures.lookup, c.from-words.ensures))
      (omega (arith, c.from-words.ensures))
      c.fill.ensures,
  search (arith, data_behind, c.from-words.ensures),
)
