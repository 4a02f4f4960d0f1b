-- `feed::number` meets its contract. Assumes nothing.
use Prim.Native.Nat.{ℕ, ◌<◌}
use lib.ListN.{get_or}
use Rattle.feed.proofs.Words.{number_is, number-low}
use Rattle.feed.proofs.number.Goals as goal

pub returns : goal.returns
returns c =
    let a = c.args in
    let p = c.requires in
    let byte : (i : ℕ) → get_or a.s.now i 0 < 256 = λ i. (c.type_inv.s i).fits in record {
      value = number_is a.s.now a.at a.size p.1 p.2 byte c.read_body.result c.read_body.ensures;
      upper_bound = number-low a.s.now a.at a.size p.1 p.2 byte c.read_body.result c.read_body.ensures;
    }
