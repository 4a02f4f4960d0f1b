-- `payload::payload_at` meets its contract. Assumes nothing.
use Rattle.payload.proofs.Parts.{part_given}
use Rattle.payload.proofs.payload_at.Goals as goal

pub returns-then-place-size : goal.returns-then-place-size
returns-then-place-size c = search part_given
