-- `writer::flat::write_rows` meets its contract: what is left to write completes the document. Assumes nothing.
use Rattle.writer.proofs.Writing.{writes_start, row_held, child-spelt, row_inside, row_room, writes_turn, writes_end}
use Rattle.writer.proofs.flat.write_rows.Goals as goal

pub loop-row-init : goal.loop-row-init
loop-row-init c = search writes_start

pub row_at-w-requires : goal.row_at-w-requires
row_at-w-requires c = row_held c.args.table.now c.args.«data».now c.args.n c.args.out.now c.requires c.loop-row.row c.loop-row.at c.loop-row.out c.loop-row.invariant c.loop-row-test.true

pub told_size-size-requires : goal.told_size-size-requires
told_size-size-requires c = child-spelt c.args.table.now c.args.«data».now c.args.n c.args.out.now c.requires c.loop-row.row c.loop-row.at c.loop-row.out c.loop-row.invariant c.loop-row-test.true c.row_at-w.result c.row_at-w.ensures

pub put_row-at-requires : goal.put_row-at-requires
put_row-at-requires c = (row_inside c.args.table.now c.args.«data».now c.args.n c.args.out.now c.requires c.loop-row.row c.loop-row.at c.loop-row.out c.loop-row.invariant c.loop-row-test.true c.row_at-w.result c.row_at-w.ensures, row_room c.args.table.now c.args.«data».now c.args.n c.args.out.now c.requires c.loop-row.row c.loop-row.at c.loop-row.out c.loop-row.invariant c.loop-row-test.true c.row_at-w.result c.row_at-w.ensures c.told_size-size.result c.told_size-size.ensures)

pub loop-row-preserved : goal.loop-row-preserved
loop-row-preserved c = writes_turn c.args.table.now c.args.«data».now c.args.n c.args.out.now c.requires c.loop-row.row c.loop-row.at c.loop-row.out c.loop-row.invariant c.loop-row-test.true c.row_at-w.result c.row_at-w.ensures c.told_size-size.result c.told_size-size.ensures c.put_row-at.result c.put_row-at.new.out c.put_row-at.ensures.value c.put_row-at.ensures.out_after

pub shape_of-out : goal.shape_of-out
shape_of-out c = c.loop-row.invariant.long

pub returns : goal.returns
returns c = search writes_end
