-- `demands::write_and_read` meets its contract. Assumes nothing.
use mathlib.Core.Path.{◌≡◌, ap, ◌∙◌}
use borrow.Author.Rules.{rules}
use Rattle.std.specs.Prelude.{Ok, Err}
use lib.ListN.{length}
use Rattle.format.specs.Answer.{depth_limit}
use Rattle.std.proofs.lemmas.Result.{err_from_is_err_and}
use Rattle.demands.proofs.Backs.{ok_kept, err_kept, front_long, used_within, read_back_lem, table-back, unwritten, unread, reads_back}
use Rattle.demands.proofs.write_and_read.Goals as goal

pub slice_bounds-fill-end : goal.slice_bounds-fill-end
slice_bounds-fill-end c =
    let q : c.write.result ≡ Ok c.in_ok-used.used = search (ok_kept, rules) in
    used_within depth_limit _ _ _ c.args.out.now c.args.back.now _ c.write.ensures.value _ q _ c.write.ensures.out_after c.write.auto.out

pub slice_bounds-fill-end-2 : goal.slice_bounds-fill-end-2
slice_bounds-fill-end-2 c =
    let q : c.write.result ≡ Ok c.in_ok-used.used = search (ok_kept, rules) in
    front_long depth_limit _ _ _ c.args.out.now c.args.back.now _ c.write.ensures.value _ q _ c.write.ensures.out_after

pub returns : goal.returns
returns c =
    let q : c.write.result ≡ Ok c.in_ok-used.used = search (ok_kept, rules) in
    let e =
    read_back_lem depth_limit _ _ _ c.args.out.now c.args.back.now _ c.write.ensures.value _ q _ c.write.ensures.out_after _ c.fill.ensures.value
    in
    let g =
    table-back depth_limit _ _ _ c.args.out.now c.args.back.now _ c.write.ensures.value _ q _ c.write.ensures.out_after _ c.fill.ensures.table_after
    in
    record {
      value = e;
      out_after = c.write.ensures.out_after;
      back_after = g;
      reads_back = reads_back depth_limit _ _ _ (length c.args.out.now) _ _ _ (λ i. (c.type_inv.table i).fits) e g;
    }

pub returns-in_err-used : goal.returns-in_err-used
returns-in_err-used c =
    let q : c.write.result ≡ Err c.in_err-used.field-0.0 = search (err_kept, rules) in
    let p = err_from_is_err_and c.from_residual.result c.from_residual.ensures.1 in
    let e = p.1 ∙ ap Err p.2 ∙ unwritten depth_limit _ _ _ c.args.out.now c.args.back.now _ c.write.ensures.value _ q in
    let g = unread depth_limit _ _ _ c.args.out.now c.args.back.now _ c.write.ensures.value _ q in
    record {
      value = e;
      out_after = c.write.ensures.out_after;
      back_after = g;
      reads_back = reads_back depth_limit _ _ _ (length c.args.out.now) _ _ _ (λ i. (c.type_inv.table i).fits) e g;
    }
