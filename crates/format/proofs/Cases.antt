-- The starred cases and the slips hold, by computation: one list and one statement. Assumes nothing.
use Prim.Native.Nat.{ℕ, ◌-◌}
use Rattle.std.specs.Prelude.{Result}
use mathlib.Core.Path.{◌≡◌, refl}
use mathlib.Core.List.{List, ◌++◌, map}
use lib.ListN.{length, replicate}
use Rattle.lists.specs.Zeroed.{zeroed}
use Rattle.wide.specs.Words.{wide_end, wide_of}
use Rattle.wide.specs.Body.{body_value}
use Rattle.wide.specs.Family.{behind, unmarked, marked, coded}
use Rattle.text.specs.Check.{sequence, text_from, text_of}
use Rattle.rows.specs.Table.{words_of}
use Rattle.format.specs.declared.unfilled.Unfilled.{Unfilled}
use Rattle.format.specs.Tree.{size, sizes}
use Rattle.format.specs.Head.{marker_of, count_at, head_by, head_at, key_at}
use Rattle.format.specs.Value.{leaf_own, child, readings, in_foreign, step, value, document}
use Rattle.format.specs.Layout.{entries, layout, layouts}
use Rattle.format.specs.Answer.{depth_limit, answer, table_after}
use Rattle.format.specs.Starred.{Case, starred, slips}

pub record Outcome : Type 0 where
  pub says : Result ℕ Unfilled
  pub table : List ℕ

abbrev pub outcome : Case → Outcome
outcome c = record { says = answer depth_limit c.bytes c.table; table = table_after depth_limit c.bytes c.table }

-- the used rows, and zeros behind them
abbrev pub wanted : Case → Outcome
wanted c = record { says = c.says; table = c.rows ++ replicate (length c.table - length c.rows) 0 }

pub cases_hold : map outcome (starred ++ slips) ≡ map wanted (starred ++ slips)
unfolding starred slips answer table_after document value step readings child leaf_own in_foreign head_at key_at head_by count_at marker_of layout layouts entries size sizes zeroed words_of wide_of body_value behind unmarked marked coded sequence text_from text_of wide_end
cases_hold = refl
