-- `rules::judge::fits` answers right of a signed integer, a char and a declaration. Assumes nothing.
use borrow.Author.Rules.{rules}
use Rattle.rules.specs.Shape.{fits}
use Rattle.rules.proofs.Judged.{fits_as, char_yes, large_is}
use Rattle.lists.proofs.Tests.{and_yes}
use Rattle.rules.proofs.judge.fits.Goals as goal

pub returns-then-blank : goal.returns-then-blank
returns-then-blank c = search char_yes

pub returns-then-blank-2 : goal.returns-then-blank-2
unfolding fits
returns-then-blank-2 c = search (fits_as, and_yes, rules)

pub returns-in-Signed : goal.returns-in-Signed
unfolding fits
returns-in-Signed c = search (fits_as, large_is, rules)
