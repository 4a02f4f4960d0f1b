-- What a chunk shows is written behind what the chunks before it show. Assumes nothing.
use Rattle.std.proofs.Common.{◌≡◌, ℕ, List, ◌++◌, sym, ap, ◌∙◌, rules, append_assoc, append-nil}
use Rattle.std.proofs.Output.{has_written_append, has_written_of_eq}
use Rattle.std.proofs.lemmas.List.{nil_from_length}
use Rattle.std.proofs.lemmas.Str.{IsUtf8-from_ascii}
use Rattle.std.specs.Slice.Iter.{chunks_rest}
use Rattle.line.specs.Pairs.{pairs}
use Rattle.line.proofs.Laid.{pairs-append, IsAscii-pairs}
use Rattle.line.proofs.pairs.PairsDisplay.fmt.Goals as goal

pub unreachable-requires : goal.unreachable-requires
unreachable-requires g c =
    c.in_default.ensures.cases.0 (rw c.lay.ensures (IsUtf8-from_ascii (pairs c.in-Some.part.now) (IsAscii-pairs c.in-Some.part.now)))

pub loop-part-preserved : goal.loop-part-preserved
loop-part-preserved g c =
    let part = c.in-Some.part.now in
    let steps = c.in-Some.ensures.steps in
    let shown : c.in-Ok.text.now ≡ pairs part = c.in-Ok.ensures.cases.0 ∙ c.lay.ensures in (
      search rules,
      tt,
      steps.0 ∙ c.loop-part.invariant.2,
      λ plain.
          let so_far = c.loop-part.invariant.3 plain in (
            so_far.0 ++ c.in-Ok.text.now,
            has_written_append _ _ _ _ _ _ so_far.1 (search rules),
            append_assoc so_far.0 _ _
                ∙ ap (λ (t : List ℕ). so_far.0 ++ t)
                (rw shown (sym (pairs-append part (chunks_rest c.next.new.self)) ∙ ap pairs (sym steps.1.0)))
                ∙ so_far.2,
          ),
    )

pub returns-clause-writes : goal.returns-clause-writes
unfolding pairs
returns-clause-writes g c = λ plain _.
    let so_far = c.loop-part.invariant.3 plain in
    let none = nil_from_length _ c.in-None.ensures.steps.1.0 in
    has_written_of_eq _ _ _ _ _ (rw (none, append-nil) at so_far.2) so_far.1
