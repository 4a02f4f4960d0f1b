-- `spell::put::put_with` meets its contract: the head, and the payload behind it. Assumes nothing.
use mathlib.Core.Path.{refl, sym}
use mathlib.Core.Bool.{true}
use native.Mathlib.Omega.{arith}
use Rattle.spell.proofs.Puts.{plan_room, part_room, part-inside, row_next, row_laid}
use Rattle.spell.proofs.put.put_with.Goals as goal

pub put_plan-next-requires : goal.put_plan-next-requires
put_plan-next-requires c =
    let s = c in
    let o = c.head_of-p in
    plan_room s.args.w s.args.size o.result o.ensures s.args.«data».now s.args.at s.args.out.now s.requires.2

pub put_part-requires : goal.put_part-requires
put_part-requires c =
    let s = c in
    let o = c.head_of-p in
    let u = c.put_plan-next in
    let n = c.number-count in
    let m = c.number in
    (part_room s.args.w s.args.size o.result o.ensures true (sym s.requires.0) s.args.«data».now refl s.requires.1 m.result n.result s.args.at u.result m.ensures.0 n.ensures.0 u.ensures.value s.args.out.now u.new.out u.ensures.out_after s.requires.2, part-inside s.args.w s.args.size o.result o.ensures true (sym s.requires.0) s.args.«data».now refl s.requires.1 m.result n.result s.args.at u.result m.ensures.0 n.ensures.0 u.ensures.value s.args.out.now u.new.out u.ensures.out_after s.requires.2)

pub overflow_add-result : goal.overflow_add-result
overflow_add-result c =
    let s = c in
    let o = c.head_of-p in
    let u = c.put_plan-next in
    let n = c.number-count in
    let m = c.number in
    omega (arith, row_next s.args.w s.args.size o.result o.ensures true (sym s.requires.0) s.args.«data».now refl s.requires.1 m.result n.result s.args.at u.result m.ensures.0 n.ensures.0 u.ensures.value s.args.out.now u.new.out u.ensures.out_after s.requires.2, s.requires.2)

pub returns : goal.returns
returns c =
    let s = c in
    let o = c.head_of-p in
    let u = c.put_plan-next in
    let n = c.number-count in
    let m = c.number in
    let q = c.put_part in record {
      value = row_next s.args.w s.args.size o.result o.ensures true (sym s.requires.0) s.args.«data».now refl s.requires.1 m.result n.result s.args.at u.result m.ensures.0 n.ensures.0 u.ensures.value s.args.out.now u.new.out u.ensures.out_after s.requires.2;
      out_after = row_laid s.args.w s.args.size o.result o.ensures true (sym s.requires.0) s.args.«data».now refl s.requires.1 m.result n.result s.args.at u.result m.ensures.0 n.ensures.0 u.ensures.value s.args.out.now u.new.out u.ensures.out_after s.requires.2 q.new.out q.ensures;
    }
