-- The plans that the code makes, by each way out. Assumes nothing.
use mathlib.Core.Path.{◌≡◌, refl, ◌∙◌, subst}
use mathlib.Core.Bool.{Bool, true, false}
use mathlib.Core.List.{List, [], ◌∷◌}
use Prim.Native.Nat.{ℕ, ◌+◌, ◌-◌, ◌*◌, ◌%◌, ◌^◌, ◌≤◌, ◌<◌}
use native.Mathlib.Omega.{arith}
use lib.ListN.{length, length-append}
use lib.Dec.{ltb, lit≤}
use Rattle.wide.specs.declared.wide.Wide.{Wide}
use Rattle.wide.specs.Number.{bytes_of}
use Rattle.wide.specs.Words.{wide_end, value_of}
use Rattle.wide.specs.Body.{size_at, rank}
use Rattle.wide.specs.Family.{behind, has_number, form}
use Rattle.wide.specs.Members.{run, headed, integer}
use Rattle.wide.proofs.Numbers.{length-bytes_of}
use Rattle.wide.proofs.Wides.{Words, value_lt}
use Rattle.wide.proofs.Ranks.{rank_lt, size_high}
use Rattle.plan.specs.declared.form.Form.{Form}
use Rattle.plan.specs.declared.marks.Marks.{Marks}
use Rattle.plan.specs.declared.marks.Marks.TheVariants.{Bare, One, Two}
use Rattle.plan.specs.declared.plan.Plan.{Plan}
use Rattle.plan.specs.Inner.{marks_of, plan_bytes, Plans, Formed}
use Rattle.plan.proofs.Forms.{double_whole, alone-from, alone-few, form-alone, form-direct, form-body, first-low, integer-alone, integer-body}

pub as_plan : (p : Plan) (xs ys : List ℕ) → Plans p xs → xs ≡ ys → Plans p ys
as_plan p xs ys h e = subst (Plans p) e h

abbrev plan : Marks → ℕ → ℕ → Wide → Plan
plan marks lead size value = record { marks = marks; lead = lead; size = size; value = value }

pub lead_plan : (lead size : ℕ) (value : Wide) → size ≤ 16 → Plans (plan Bare lead size value) (lead ∷ bytes_of size (value_of value))
unfolding plan_bytes
lead_plan lead size value h = record { short = h; spells = refl }

-- ---- how long it is

pub marks_few : (m : Marks) → length (marks_of m) ≤ 2
marks_few Bare = lit≤ tt
marks_few (One a) = lit≤ tt
marks_few (Two a b) = lit≤ tt

pub plan_long : (p : Plan) → length (plan_bytes p) ≡ length (marks_of p.marks) + 1 + p.size
unfolding plan_bytes
plan_long p =
    omega (arith, length-append (marks_of p.marks) (p.lead ∷ bytes_of p.size (value_of p.value)), length-bytes_of p.size (value_of p.value))

-- ---- a headed number

pub rank-small : (n : ℕ) (value : Wide) (j : ℕ) → n < 2 ^ 64 → value_of value ≡ n → j ≡ rank false (value_of value) → j < 8
rank-small n value j l p q = omega (arith, q, rank_lt false (value_of value) (omega (arith, p, double_whole)))

module _ (low count from : ℕ) (marks : Marks) (n : ℕ) (h : (low + count ≤ 256) × (from ≤ 1)) (small : n < 2 ^ 64) (r : Bool) (e : r ≡ ltb (behind wide_end from n) count) where
  pub from_low : r ≡ true → from ≤ n
  from_low t = alone-from count from n (omega (arith, h.0)) h.1 small r e t

  pub lead_byte : r ≡ true → low + (n - from) < 256
  lead_byte t = omega (arith, h.0, alone-few count from n (omega (arith, h.0)) h.1 small r e t)

  pub alone_plan : r ≡ true → (p : Plan) → Plans p ((low + (n - from)) ∷ []) → Plans p (form (headed (run low count from) (marks_of marks)) n)
  alone_plan t p g = as_plan p _ _ g (form-alone low count from (marks_of marks) n h.0 h.1 small r e t)

  pub direct_plan : r ≡ false → n < 248 → (value : Wide) → Plans (plan marks n 0 value) (form (headed (run low count from) (marks_of marks)) n)
  unfolding plan_bytes
  direct_plan t l value = record { short = lit≤ tt; spells = form-direct low count from (marks_of marks) n h.0 h.1 small r e t l }

  pub body_plan : r ≡ false → 248 ≤ n → (value : Wide) (j k : ℕ) → value_of value ≡ n → j ≡ rank false (value_of value) → k ≡ size_at j
      → Plans (plan marks (248 + j) k value) (form (headed (run low count from) (marks_of marks)) n)
  unfolding plan_bytes
  body_plan t l value j k p q s =
      record {
        short = omega (arith, s, size_high j (rank-small n value j small p q));
        spells = form-body low count from (marks_of marks) n h.0 h.1 small r e t l (value_of value) j k p q s;
      }

-- ---- an integer

pub first_byte : (signed : Bool) (f j : ℕ) → f ≡ (integer signed).first → j < 8 → f + j < 256
first_byte signed f j e h = omega (arith, e, first-low signed)

pub size-short : (j k : ℕ) → k ≡ size_at j → j < 8 → k ≤ 16
size-short j k e h = omega (arith, e, size_high j h)

abbrev body_form : ℕ → ℕ → Form
body_form lead size = record { lead = lead; size = size }

module _ (signed : Bool) (w : Wide) (h : Words w) (r : Bool) (e : r ≡ has_number (integer signed).direct (value_of w)) where
  pub small-form : r ≡ true → (b : ℕ) → b ≡ (w.w0 % 256 + 63) % 256 → Formed (body_form b 0) signed (value_of w)
  small-form t b g =
      record { small = omega arith; form-is = integer-alone signed (value_of w) (value_lt w h) r e t b (g ∙ low w.w0 _) }
    where
      low : (a m : ℕ) → (a % 256 + 63) % 256 ≡ ((a + 2 ^ 32 * m) % 256 + 63) % 256
      low a m = omega arith

  pub integer-rank : (j : ℕ) → j ≡ rank signed (value_of w) → j < 8
  integer-rank j q = omega (arith, q, rank_lt signed (value_of w) (value_lt w h))

  pub long-form : r ≡ false → (f j k : ℕ) → f ≡ (integer signed).first → j ≡ rank signed (value_of w) → k ≡ size_at j → Formed (body_form (f + j) k) signed (value_of w)
  long-form t f j k a b c =
      record { small = size-short j k c (integer-rank j b); form-is = integer-body signed (value_of w) (value_lt w h) r e t f j k a b c }

pub formed_plan : (signed : Bool) (n : ℕ) (f : Form) (p : Plan) → Formed f signed n → Plans p (f.lead ∷ bytes_of f.size n) → Plans p (form (integer signed) n)
formed_plan signed n f p g h = as_plan p _ _ h g.form-is
