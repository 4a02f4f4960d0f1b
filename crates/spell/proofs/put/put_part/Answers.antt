-- `spell::put::put_part` meets its contract: what is left to lay completes a short part; a long one is laid in eights. Assumes nothing.
use mathlib.Core.Path.{◌∙◌, refl}
use native.Mathlib.Omega.{arith}
use borrow.Author.Rules.{rules}
use Rattle.spell.proofs.Puts.{part_start, part_turn, part_end, part_on, part_last}
use Rattle.spell.proofs.put.put_part.Goals as goal

pub loop-i-init : goal.loop-i-init
loop-i-init c =
    let a = c.args in
    part_start a.out.now a.«data».now a.at a.place a.size

pub loop-i-preserved : goal.loop-i-preserved
loop-i-preserved c =
    let s = c in
    let a = s.args in
    let l = c.loop-i in
    part_turn l.out _ a.«data».now a.at a.place a.size l.i _ (search rules) s.requires.1 refl l.invariant

pub returns-then-size-lt8 : goal.returns-then-size-lt8
returns-then-size-lt8 c = search (part_end, rules)

pub loop-laid-init : goal.loop-laid-init
loop-laid-init c = (search rules, search rules, refl)

pub put_eight-requires : goal.put_eight-requires
put_eight-requires c = (omega arith, omega arith)

pub loop-laid-preserved : goal.loop-laid-preserved
loop-laid-preserved c =
    let s = c in
    let a = s.args in
    let l = c.loop-laid in
    let p = c.put_eight in (
      search rules,
      p.auto.out ∙ l.invariant.1,
      part_on a.out.now l.out p.new.out a.«data».now a.at a.place l.laid l.laid 8 (omega arith) (omega arith) (search rules) l.invariant.2 p.ensures,
    )

pub put_eight-requires-2 : goal.put_eight-requires-2
put_eight-requires-2 c = (search rules, search rules)

pub returns : goal.returns
returns c =
    let s = c in
    let a = s.args in
    let l = c.loop-laid in
    let p = c.put_eight-2 in
    part_last a.out.now l.out p.new.out a.«data».now a.at a.place a.size l.laid (search rules) l.invariant.0 (search rules) s.requires.1 l.invariant.2 p.ensures
