-- `spell::put::put_bare` meets its contract: such a row's own bytes are its head. Assumes nothing.
use mathlib.Core.Path.{refl, sym}
use mathlib.Core.Bool.{false}
use Rattle.spell.proofs.Puts.{plan_room, bare_next, bare_laid}
use Rattle.spell.proofs.put.put_bare.Goals as goal

pub put_plan-requires : goal.put_plan-requires
put_plan-requires c =
    let s = c in
    let o = c.head_of-p in
    plan_room s.args.w s.args.size o.result o.ensures s.args.«data».now s.args.at s.args.out.now s.requires.1

pub returns : goal.returns
returns c =
    let s = c in
    let o = c.head_of-p in
    let u = c.put_plan in record {
      value = bare_next s.args.w s.args.size o.result o.ensures false (sym s.requires.0) s.args.«data».now refl s.args.at u.result u.ensures.value;
      out_after = bare_laid s.args.w s.args.size o.result o.ensures false (sym s.requires.0) s.args.«data».now refl s.args.at u.result u.ensures.value s.args.out.now u.new.out u.ensures.out_after;
    }
