-- `write_cases::checksum` keeps both sums below 65,521. Assumes nothing.
use Rattle.std.proofs.Common.{◌<◌}
use Rattle.write_cases.proofs.checksum.Given as goal

abbrev pub invariant-loop-c : goal.invariant-loop-c
invariant-loop-c l = (l.a < 65521) × (l.b < 65521)
