-- `text::plain::behind_plain` meets its contract: eight bytes more are plain where no top bit is set in their number. Assumes nothing.
use native.Mathlib.Omega.{arith}
use Rattle.text.proofs.PlainRuns.{chunk_more}
use Rattle.text.proofs.plain.behind_plain.Goals as goal

pub loop-eight-preserved : goal.loop-eight-preserved
loop-eight-preserved c = chunk_more _ _ _ c.in-Some.ensures.cases _ _ c.loop-eight.invariant (λ j. omega (arith, c.type_inv.s j)) c.from_le_bytes.ensures c.if-from_le_bytes-ne0.false
