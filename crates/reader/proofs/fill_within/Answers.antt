-- `reader::fill_within` meets its contract: two laws of Answers for each way out. Assumes nothing.
use borrow.Author.Rules.{rules}
use Rattle.reader.proofs.Answers.{accepted, accepted-rows, full, full-zeros, refused, refused-zeros, rows-lent, too_long, too_long-zeros, used_fits}
use Rattle.reader.proofs.fill_within.Goals as goal

pub returns-then-data-gt-LIMIT : goal.returns-then-data-gt-LIMIT
returns-then-data-gt-LIMIT c = record { value = search too_long; table_after = search too_long-zeros }

pub returns-then-measured-ge-WRONG : goal.returns-then-measured-ge-WRONG
returns-then-measured-ge-WRONG c = record { value = search refused; table_after = search refused-zeros }

pub lay_document-used-requires : goal.lay_document-used-requires
lay_document-used-requires c = record { ready = search rows-lent; depth_le_depth_limit = search rules }

pub overflow_mul-behind : goal.overflow_mul-behind
overflow_mul-behind c = search used_fits

pub returns-then-needed-lent : goal.returns-then-needed-lent
returns-then-needed-lent c = record { value = search accepted; table_after = search accepted-rows }

pub returns : goal.returns
returns c = record { value = search full; table_after = search full-zeros }
