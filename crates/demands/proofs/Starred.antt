-- The starred cases hold, read and written again, by computation: one list and one statement. Assumes nothing.
use mathlib.Core.Path.{◌≡◌, refl}
use mathlib.Core.List.{map}
use Rattle.lists.specs.Zeroed.{zeroed}
use Rattle.wide.specs.Words.{wide_end, wide_of}
use Rattle.wide.specs.Body.{body_value, fits_in as holds, rank}
use Rattle.wide.specs.Family.{behind, unmarked, marked, coded, unmarked_form, form}
use Rattle.text.specs.Check.{sequence, text_from, text_of}
use Rattle.rows.specs.Table.{words_of, row_at}
use Rattle.format.specs.Tree.{size, sizes}
use Rattle.format.specs.Head.{marker_of, count_at, head_by, head_at, key_at}
use Rattle.format.specs.Value.{leaf_own, child, readings, in_foreign, step, value, document}
use Rattle.format.specs.Layout.{entries, layout, layouts}
use Rattle.format.specs.Answer.{answer, table_after}
use Rattle.format.specs.Starred.{starred}
use Rattle.rules.specs.Shape.{named, blank, inside, one_of, span, spelt, fits, shape_of}
use Rattle.rules.specs.Grow.{grow_key, item, grows, by_shape, grow}
use Rattle.encode.specs.Encode.{float_marker, head_for, encode, encodes}
use Rattle.writer.specs.Written.{document_of}
use Rattle.demands.specs.Starred.{outcome, wanted}

pub starred-hold : map outcome starred ≡ map wanted starred
unfolding starred answer table_after document value step readings child leaf_own in_foreign head_at key_at head_by count_at marker_of layout layouts entries size sizes zeroed words_of wide_of body_value behind unmarked marked coded sequence text_from text_of wide_end document_of grow grows item grow_key by_shape shape_of fits spelt span one_of inside blank named row_at encode encodes head_for float_marker form unmarked_form rank holds
starred-hold = refl
