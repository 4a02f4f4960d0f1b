-- What the public promises amount to: one answer, read back, nothing shorter. Assumes nothing.
use mathlib.Core.Path.{◌≡◌, ◌∙◌, sym, ap, subst, refl}
use mathlib.Core.Bool.{Bool, true, false}
use mathlib.Core.List.{List}
use Prim.Native.Nat.{ℕ, ◌+◌, ◌≤◌}
use native.Mathlib.Omega.{arith}
use lib.ListN.{length, drop}
use lib.Seq.{sets, sets-eq}
use lib.Dec.{leb}
use borrow.Author.Tests.{le-leb}
use Rattle.wide.specs.declared.wide.Wide.{Wide}
use Rattle.std.specs.Prelude.{Result, Ok, Err, cond, is_ok}
use Rattle.std.specs.Result.{result_unwrap_or, ResultUnwrapsOrElse}
use Rattle.std.proofs.Common.{rules}
use Rattle.variable.specs.contracts.got.GotDefault.TheImpl.{is_default-value}
use Rattle.variable.specs.declared.got.Got.{Got}
use Rattle.variable.specs.declared.short.Short.{Short}
use Rattle.variable.specs.declared.no_room.NoRoom.{NoRoom}
use Rattle.wide.specs.Words.{words, value_of, wide_of}
use Rattle.wide.specs.Family.{Family, Coded, is, short, other, coded, form}
use Rattle.wide.specs.Inner.{variable}
use Rattle.variable.specs.Answer.{got, needs, read_as, read_of, read_number, read_value, read_used, coded_number, coded_beside, written_of, output_of}
use Rattle.wide.proofs.Numbers.{Bytes}
use Rattle.wide.proofs.Wides.{Words, wide_value, value_lt, value_wide}
use Rattle.wide.proofs.Families.{Takes, coded_takes, Reads, reads, round_trip, cond_yes}
use Rattle.wide.proofs.Sound.{sound_variable}

-- two answers that a promise of reading allows are equal
pub one_read : (F : Family) (s : List ℕ) (r r' : Result Got Short) → r ≡ read_of F s → r' ≡ read_of F s → r ≡ r'
one_read F s r r' p q = p ∙ sym q

-- the paper's number of it: 0, or 2 for too few bytes
pub read_numbered : (r : Result Got Short) → read_number r ≡ cond (is_ok r) 0 2
read_numbered (Ok g) = refl
read_numbered (Err e) = refl

-- with zeros for a refusal, it is the value and the bytes used
pub read_or_zeros : (r : Result Got Short) → result_unwrap_or r (got (words 0 0 0 0) 0) ≡ got (read_value r) (read_used r)
read_or_zeros (Ok g) = refl
read_or_zeros (Err e) = refl

-- so it is of what `unwrap_or_default` makes of it
pub value_unwrapped : (x : Result Got Short) (g : Got) → ResultUnwrapsOrElse x is_default-value.it g → g.value ≡ read_value x
value_unwrapped (Ok y) g h = ap (λ (z : Got). z.value) h
value_unwrapped (Err why) g h = search rules

pub used_unwrapped : (x : Result Got Short) (g : Got) → ResultUnwrapsOrElse x is_default-value.it g → g.used ≡ read_used x
used_unwrapped (Ok y) g h = ap (λ (z : Got). z.used) h
used_unwrapped (Err why) g h = h.1

-- what a promise of writing allows: an answer and an output afterwards
pub record Wrote (f out : List ℕ) (r : Result ℕ NoRoom) (after : List ℕ) : Type 0 where
  pub answer : r ≡ written_of f (length out)
  pub output : after ≡ output_of f out

pub one_write : (f out : List ℕ) (r r' : Result ℕ NoRoom) (after after' : List ℕ) → Wrote f out r after → Wrote f out r' after' → (r ≡ r') × (after ≡ after')
one_write f out r r' after after' p q = (p.answer ∙ sym q.answer, p.output ∙ sym q.output)

-- the paper's number of it: 0, or 13 where the form has no room
pub coded_numbered : (f : List ℕ) (room : ℕ) → coded_number (written_of f room) ≡ cond (leb (length f) room) 0 13
unfolding written_of
coded_numbered f room = of (leb (length f) room)
  where
    of : (fits : Bool) → coded_number (cond fits (Ok (length f)) (Err (needs (length f)))) ≡ cond fits 0 13
    of true = refl
    of false = refl

-- with room or without, the bytes of the form stand beside
pub coded_besides : (f : List ℕ) (room : ℕ) → coded_beside (written_of f room) ≡ length f
unfolding written_of
coded_besides f room = of (leb (length f) room)
  where
    of : (fits : Bool) → coded_beside (cond fits (Ok (length f)) (Err (needs (length f)))) ≡ length f
    of true = refl
    of false = refl

pub coded_numbers : (f : List ℕ) (room : ℕ)
    → (coded_number (written_of f room) ≡ cond (leb (length f) room) 0 13) × (coded_beside (written_of f room) ≡ length f)
coded_numbers f room = (coded_numbered f room, coded_besides f room)

-- four words that are written into an output with room are read back, with the bytes written
pub write_read : (s : Bool) (w : Wide) (out : List ℕ) → Words w → length (form (variable s) (value_of w)) ≤ length out
    → read_of (variable s) (output_of (form (variable s) (value_of w)) out) ≡ Ok (got w (length (form (variable s) (value_of w))))
unfolding read_of output_of
write_read s w out h l =
    let f : List ℕ = form (variable s) (value_of w) in
    let z : 0 + length f ≡ length f = omega arith in
    ap (λ (o : List ℕ). read_as (coded (variable s) o))
    (cond_yes (leb (length f) (length out)) (sets out 0 f) out (le-leb (length f) (length out) l) ∙ sets-eq f out 0 (omega arith))
    ∙ ap read_as (round_trip (variable s) (sound_variable s) (value_of w) (value_lt w h) (drop (0 + length f) out))
    ∙ ap (λ (v : Wide). Ok (got v (length f))) (wide_value w h)

-- bytes that are read as four words are no fewer than those that are written for them, and they are there
pub read_least : (s : Bool) (bs : List ℕ) (w : Wide) (used : ℕ) → Bytes bs → read_of (variable s) bs ≡ Ok (got w used)
    → (length (form (variable s) (value_of w)) ≤ used) × (used ≤ length bs)
unfolding read_of
read_least s bs w used h e = of (coded (variable s) bs) refl e
  where
    of : (c : Coded) → coded (variable s) bs ≡ c → read_as c ≡ Ok (got w used) → (length (form (variable s) (value_of w)) ≤ used) × (used ≤ length bs)
    of (is n u) g q =
        let p : u ≡ used = ap read_used q in
        let v : wide_of n ≡ w = ap read_value q in
        let r : Reads (variable s) bs n u = reads (variable s) (sound_variable s) bs n u h g in
        let m : value_of w ≡ n = ap value_of (sym v) ∙ value_wide n r.small in
        let t : Takes 1 (length bs) (is n u) = subst (Takes 1 (length bs)) g (coded_takes (variable s) bs) in
        (subst (λ (x : ℕ). length (form (variable s) x) ≤ used) (sym m) (omega (arith, r.least)), omega (arith, t.1))
    of short g q = absurd (let z : ◌≡◌ {A = ℕ} 0 1 = cc in omega arith)
    of other g q = absurd (let z : ◌≡◌ {A = ℕ} 0 1 = cc in omega arith)
