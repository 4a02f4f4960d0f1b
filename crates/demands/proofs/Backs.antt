-- Writing and reading back, by what the writer answers. Assumes nothing.
use Rattle.std.specs.Prelude.{Result}
use mathlib.Core.Path.{◌≡◌, refl, sym, ap, ◌∙◌, subst}
use mathlib.Core.Bool.{Bool, true, false, cond}
use mathlib.Core.List.{List}
use Prim.Native.Nat.{ℕ, ◌^◌, ◌≤◌, ◌<◌}
use native.Mathlib.Omega.{arith}
use lib.ListN.{length, get_or, take, drop}
use lib.Seq.{sets, take_at}
use lib.Dec.{leb}
use borrow.Author.Tests.{le-leb, leb-true}
use Rattle.lists.proofs.Sets.{sets_front}
use Rattle.std.specs.Prelude.{Result, Ok, Err}
use Rattle.std.specs.Result.{MatchResult, IsErrAnd}
use Rattle.rows.specs.Table.{limit}
use Rattle.format.specs.declared.unfilled.Unfilled.{Unfilled}
use Rattle.format.specs.Answer.{answer, table_after}
use Rattle.rules.specs.Grow.{rules_hold}
use Rattle.writer.specs.declared.unwritten.Unwritten.{Unwritten}
use Rattle.writer.specs.declared.unwritten.Unwritten.TheVariants.{BadTable, TooLarge, NoRoom}
use Rattle.writer.specs.Written.{document_of, fitted, written, left, output_after}
use Rattle.demands.specs.Alike.{SameRows}
use Rattle.demands.specs.Back.{Back, read_back, back_after, back_of, table_back, ReadsBack}
use Rattle.demands.proofs.Reading.{accepted_back, rows_back, rules_back}

-- ---- what the writer's answers mean

pub record Fitted (needed room used : ℕ) : Type 0 where
  pub all : used ≡ needed
  pub within : needed ≤ room

fitted_done : (needed room used : ℕ) → fitted needed room ≡ Ok used → Fitted needed room used
fitted_done needed room used = of (leb needed limit) (leb needed room) refl
  where
    of : (a b : Bool) → leb needed room ≡ b → cond a (cond b (Ok needed) (Err (NoRoom needed))) (Err (TooLarge needed)) ≡ Ok used → Fitted needed room used
    of true true q e = record { all = cc; within = leb-true needed room q }
    of true false q e = absurd (let z : ◌≡◌ {A = ℕ} 0 1 = cc in omega arith)
    of false b q e = absurd (let z : ◌≡◌ {A = ℕ} 0 1 = cc in omega arith)

-- under each refusal
refused_unread : (depth : ℕ) (why : Unwritten) (document back : List ℕ) → back ≡ back_after depth (Err why) document back
refused_unread depth BadTable document back = refl
refused_unread depth (TooLarge needed) document back = refl
refused_unread depth (NoRoom needed) document back = refl

module _ (depth : ℕ) (table : List ℕ) (n : ℕ) (s : List ℕ) (out back : List ℕ) where
  abbrev D : List ℕ
  D = document_of depth table n s

  abbrev R : ℕ
  R = length out

  module _ (w : Result ℕ Unwritten) (e : w ≡ written depth table n s R) where
    done_fits : (used : ℕ) → w ≡ Ok used → Fitted (length D) R used
    unfolding written
    done_fits used q = of (rules_hold depth table n s) (sym e ∙ q)
      where
        of : (b : Bool) → cond b (fitted (length D) R) (Err BadTable) ≡ Ok used → Fitted (length D) R used
        of true f = fitted_done (length D) R used f
        of false f = absurd (let z : ◌≡◌ {A = ℕ} 0 1 = cc in omega arith)

    module _ (used : ℕ) (q : w ≡ Ok used) (out' : List ℕ) (o : out' ≡ output_after depth table n s out) where
      f : Fitted (length D) R used
      f = done_fits used q

      laid : out' ≡ sets out 0 D
      unfolding output_after
      laid = o ∙ ap (λ (x : Result ℕ Unwritten). left x D out) (sym e ∙ q)

      pub front : take used out' ≡ D
      front = ap (take used) (laid ∙ sets_front out D f.within) ∙ take_at D (drop (length D) out) used (sym f.all)

      pub front_long : used ≡ length (take used out')
      front_long = f.all ∙ ap length (sym front)

      pub used_within : length out' ≡ R → used ≤ length out'
      used_within l = omega (arith, l, f.all, f.within)

      pub read_back_lem : (a : Result ℕ Unfilled) → a ≡ answer depth (take used out') back → Ok a ≡ back_of depth table n s R back
      unfolding back_of
      read_back_lem a g = ap Ok (g ∙ ap (λ (x : List ℕ). answer depth x back) front) ∙ ap (λ (x : Result ℕ Unwritten). read_back depth x D back) (sym q ∙ e)

      pub table-back : (after : List ℕ) → after ≡ table_after depth (take used out') back → after ≡ table_back depth table n s R back
      unfolding table_back
      table-back after g = g ∙ ap (λ (x : List ℕ). table_after depth x back) front ∙ ap (λ (x : Result ℕ Unwritten). back_after depth x D back) (sym q ∙ e)

    module _ (why : Unwritten) (q : w ≡ Err why) where
      pub unwritten : Err why ≡ back_of depth table n s R back
      unfolding back_of
      unwritten = ap (λ (x : Result ℕ Unwritten). read_back depth x D back) (sym q ∙ e)

      pub unread : back ≡ table_back depth table n s R back
      unfolding table_back
      unread = refused_unread depth why D back ∙ ap (λ (x : Result ℕ Unwritten). back_after depth x D back) (sym q ∙ e)

-- ---- what stands behind a refusal that is made another

pub ok_kept : (w m : Result ℕ Unwritten) (P : Unwritten → Unwritten → Type 0) → MatchResult w (λ x. m ≡ Ok x) (λ e. IsErrAnd m (P e)) → (used : ℕ) → m ≡ Ok used → w ≡ Ok used
ok_kept (Ok x) m P h used q = sym h ∙ q
ok_kept (Err e) m P h used q = absurd (subst (λ (y : Result ℕ Unwritten). IsErrAnd y (P e)) q h)

pub err_kept : (w m : Result ℕ Unwritten) (P : Unwritten → Unwritten → Type 0) → MatchResult w (λ x. m ≡ Ok x) (λ e. IsErrAnd m (P e)) → ((e y : Unwritten) → P e y → y ≡ e)
    → (why : Unwritten) → m ≡ Err why → w ≡ Err why
err_kept (Ok x) m P h s why q = let z : Ok x ≡ Err why = sym h ∙ q in cc
err_kept (Err e) m P h s why q = ap Err (sym (s e why (subst (λ (y : Result ℕ Unwritten). IsErrAnd y (P e)) q h)))

-- ---- the demand

module _ (depth : ℕ) (table : List ℕ) (n : ℕ) (s : List ℕ) (room : ℕ) (back : List ℕ) (r : Back) (after : List ℕ) where
  is_done : rules_hold depth table n s ≡ true → length (document_of depth table n s) ≤ limit → length (document_of depth table n s) ≤ room
      → written depth table n s room ≡ Ok (length (document_of depth table n s))
  unfolding written
  is_done y few fits = rw (y, le-leb (length (document_of depth table n s)) limit few, le-leb (length (document_of depth table n s)) room fits)

  pub reads_back : ((i : ℕ) → get_or table i 0 < 2 ^ 32) → r ≡ back_of depth table n s room back → after ≡ table_back depth table n s room back → ReadsBack depth table n s room back r after
  unfolding back_of table_back ReadsBack
  reads_back fit e g y few fits held =
      let D : List ℕ = document_of depth table n s in
      let q : after ≡ table_after depth D back = g ∙ ap (λ (w : Result ℕ Unwritten). back_after depth w D back) (is_done y few fits) in
      record {
        accepted = e ∙ ap (λ (w : Result ℕ Unwritten). read_back depth w D back) (is_done y few fits) ∙ ap Ok (accepted_back depth table n s fit y few back held);
        rows = subst (λ (x : List ℕ). SameRows table s x D n) (sym q) (rows_back depth table n s fit y few back held);
        right = subst (λ (x : List ℕ). rules_hold depth x n D ≡ true) (sym q) (rules_back depth table n s fit y few back held);
      }
