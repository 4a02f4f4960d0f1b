-- `rules::words::spelt` meets its contract. Assumes nothing.
use Rattle.rules.proofs.Judged.{part_within, spelt_as}
use Rattle.rules.proofs.words.spelt.Goals as goal

pub slice_bounds-is_well_formed-end : goal.slice_bounds-is_well_formed-end
slice_bounds-is_well_formed-end c = search part_within

pub returns-then-span : goal.returns-then-span
returns-then-span c = search spelt_as
