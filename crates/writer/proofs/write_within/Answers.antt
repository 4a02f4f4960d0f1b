-- `writer::write_within` meets its contract. Assumes nothing.
use borrow.Author.Rules.{rules}
use Rattle.std.proofs.lemmas.Result.{err_from_is_err_and}
use Rattle.writer.proofs.Asks.{checked_yes, checked_no, yes_spelt, too_large, no_room, yes_fits, done, bad-table}
use Rattle.writer.proofs.write_within.Goals as goal

pub size_children-needed-requires : goal.size_children-needed-requires
size_children-needed-requires c = yes_spelt c.args.depth c.args.table.now c.args.n c.args.«data».now (search (checked_yes, rules))

pub returns-then-needed-gt-LIMIT : goal.returns-then-needed-gt-LIMIT
returns-then-needed-gt-LIMIT c =
    let r = too_large c.args.depth c.args.table.now c.args.n c.args.«data».now (search (checked_yes, rules)) c.size_children-needed.result c.size_children-needed.ensures c.args.out.now c.if-needed-gt-LIMIT.true in
    record { value = r.0; out_after = r.1 }

pub returns-then-out-needed : goal.returns-then-out-needed
returns-then-out-needed c =
    let r = no_room c.args.depth c.args.table.now c.args.n c.args.«data».now (search (checked_yes, rules)) c.size_children-needed.result c.size_children-needed.ensures c.args.out.now c.if-needed-gt-LIMIT.false c.if-out-needed.true in
    record { value = r.0; out_after = r.1 }

pub write_rows-requires : goal.write_rows-requires
write_rows-requires c = yes_fits c.args.depth c.args.table.now c.args.n c.args.«data».now (search (checked_yes, rules)) c.size_children-needed.result c.size_children-needed.ensures c.args.out.now c.if-out-needed.false

pub returns : goal.returns
returns c =
    let r = done c.args.depth c.args.table.now c.args.n c.args.«data».now (search (checked_yes, rules)) c.size_children-needed.result c.size_children-needed.ensures c.args.out.now c.if-needed-gt-LIMIT.false c.if-out-needed.false c.write_rows.new.out c.write_rows.ensures in
    record { value = r.0; out_after = r.1 }

pub returns-in_err-check_within : goal.returns-in_err-check_within
returns-in_err-check_within c =
    let p = err_from_is_err_and c.from_residual.result c.from_residual.ensures.1 in
    let r = bad-table c.args.depth c.args.table.now c.args.n c.args.«data».now (search (checked_no, rules)) c.args.out.now in
    record { value = rw (p.1, p.2) r.0; out_after = r.1 }
