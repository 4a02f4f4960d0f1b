-- `spell::put::put_plan` meets its contract: the marks, the lead, the body. Assumes nothing.
use mathlib.Core.List.{List}
use Rattle.plan.specs.declared.plan.Plan.{Plan}
use Rattle.plan.specs.Inner.{marks_of, plan_bytes}
use mathlib.Core.Path.{◌∙◌}
use Prim.Native.Nat.{ℕ, ◌+◌, ◌≤◌}
use native.Mathlib.Omega.{arith}
use lib.ListN.{length, set, length-set}
use Rattle.plan.proofs.Plans.{plan_long}
use Rattle.spell.proofs.Puts.{plan_put}
use Rattle.spell.proofs.put.put_plan.Goals as goal

room : (p : Plan) (out : List ℕ) (at : ℕ) → at + length (plan_bytes p) ≤ length out → at + (length (marks_of p.marks) + 1 + p.size) ≤ length out
room p out at long = omega (arith, plan_long p)

pub put_marks-next-requires : goal.put_marks-next-requires
put_marks-next-requires c = omega (arith, room c.args.p c.args.out.now c.args.at c.requires)

pub bounds-out-next : goal.bounds-out-next
bounds-out-next c =
    let s = c in
    omega (arith, room s.args.p s.args.out.now s.args.at s.requires, c.put_marks-next.auto.out, c.put_marks-next.ensures.value)

pub write_body-requires : goal.write_body-requires
write_body-requires c =
    let s = c in
    let m = c.put_marks-next in
    let g : m.result + 1 + s.args.p.size ≤ length (set m.new.out m.result s.args.p.lead) = simp length-set (omega (arith, room s.args.p s.args.out.now s.args.at s.requires, m.auto.out, m.ensures.value)) in
    g

pub overflow_add-result-2 : goal.overflow_add-result-2
overflow_add-result-2 c =
    let s = c in
    omega (arith, room s.args.p s.args.out.now s.args.at s.requires, c.put_marks-next.ensures.value)

pub shape_of-out : goal.shape_of-out
shape_of-out c =
    let m = c.put_marks-next in
    c.write_body.auto.out ∙ length-set m.new.out m.result _ ∙ m.auto.out

pub returns : goal.returns
returns c =
    let s = c in
    let m = c.put_marks-next in
    let b = c.write_body in record {
      value = omega (arith, plan_long s.args.p, m.ensures.value);
      out_after = plan_put s.args.out.now m.new.out b.new.out s.args.at m.result s.args.p m.ensures.value m.ensures.out_after b.ensures;
    }
