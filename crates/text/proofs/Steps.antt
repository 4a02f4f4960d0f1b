-- The steps of the check: a law for each way on and each way out of its loops. Assumes nothing.
use Prim.Native.Nat.{ℕ, zero, suc, ◌+◌, ◌-◌, ◌≤◌, ◌<◌}
use mathlib.Core.Bool.{Bool, true, false, cond, and-false}
use mathlib.Core.List.{List, [], ◌∷◌}
use Rattle.std.specs.Prelude.{Option, Some, None, Ok}
use mathlib.Core.Path.{◌≡◌, refl, sym, ap, subst, ◌∙◌}
use native.Mathlib.Omega.{arith}
use native.Mathlib.Numerals.{add-one}
use lib.ListN.{length, get_or, drop, replicate, length-drop, drop_of_length-le}
use lib.Seq.{drop-cons, drop-drop}
use Rattle.text.specs.declared.lead.Lead.{Lead}
use Rattle.text.specs.Syntax.{◌to◌, Line, UTF8-tail, plain_byte}
use Rattle.text.specs.Inner.{goes_on, lead_of, PlainTo}
use Rattle.text.specs.Check.{ill_formed, in_range, matches, sequence, text_from, text_of}
use Rattle.text.proofs.Leads.{tails, tails_of, length_tails, lead_at, lead_starts, lead_never}
use Rattle.text.proofs.Walks.{goes_on_lem, stops}
use Rattle.text.proofs.PlainRuns.{times}

-- the walk has come to i, and no sequence goes on there
pub record Reached (s : List ℕ) (i : ℕ) : Type 0 where
  pub inside : i ≤ length s
  pub answer : text_from i 0 (drop i s) ≡ text_of s

-- within a sequence that begins at i and by its first byte ends before `end`: it stands there exactly when the bytes that are left, from `at`
-- on, fit, the first of them from low to high
pub record Passing (s : List ℕ) (i end low high at : ℕ) : Type 0 where
  pub reached : Reached s i
  pub begun : i < at
  pub left : at ≤ end
  pub inside : end ≤ length s
  pub rest : sequence (drop i s) ≡ cond (matches (tails (end - at) low high) (drop at s)) (end - i) 0

pub start : (s : List ℕ) → Reached s 0
unfolding text_of
start s = record { inside = omega arith; answer = refl }

pub at_end : (s : List ℕ) (i : ℕ) → Reached s i → length s ≤ i → Ok tt ≡ text_of s
unfolding text_from
at_end s i r h = ap (text_from i 0) (sym (drop_of_length-le s h)) ∙ r.answer

found : (s : List ℕ) (i at : ℕ) → Reached s i → i < at → at ≤ length s → sequence (drop i s) ≡ at - i → Reached s at
found s i at r l h e =
    let k : at ≡ i + (at - i) = omega arith in
    let on = goes_on_lem i (at - i) (drop i s) (omega arith) e in
    record { inside = h; answer = ap (λ (j : ℕ). text_from j 0 (drop j s)) k ∙ rw (← drop-drop (at - i) i s, ← on) r.answer }

lost : (s : List ℕ) (i : ℕ) → Reached s i → i < length s → sequence (drop i s) ≡ 0 → ill_formed i ≡ text_of s
lost s i r h e = sym (stops i (drop i s) (simp length-drop (omega arith)) e) ∙ r.answer

-- fewer bytes than ranges
too_few : (l : Line) (s : List ℕ) → length s < length l → matches l s ≡ false
too_few [] s h = absurd (omega arith)
too_few (r ∷ l) [] h = refl
too_few (r ∷ l) (b ∷ s) h = rw (too_few l s (omega arith)) (and-false (in_range r b))

-- a byte that is a sequence by itself
plain : (s : List ℕ) (i : ℕ) → Reached s i → i < length s → in_range plain_byte (get_or s i 0) ≡ true → Reached s (i + 1)
plain s i r h p =
    let k : i + 1 - i ≡ 1 = omega arith in
    let l = lead_at 0 (get_or s i 0) (goes_on 0 (0x80 to 0xBF)) p refl in
    let e = lead_starts (get_or s i 0) _ (drop (suc i) s) (sym l) in
    found s i (i + 1) r (omega arith) (omega arith) (rw (k, drop-cons s i 0 h) e)

-- a run of such bytes
pub passed_plain : (s : List ℕ) (i j : ℕ) → Reached s i → PlainTo s i j → Reached s j
passed_plain s i j r p =
    let e : i + (j - i) ≡ j = omega (arith, p.rises) in
    subst (Reached s) e
    (times (Reached s) i (j - i) r
    (λ k b q. plain s (i + k) q (omega (arith, p.rises, p.inside)) (p.plain (i + k) (omega arith) (omega (arith, p.rises)))))

pub no_lead : (s : List ℕ) (i : ℕ) (l : Option Lead) → Reached s i → i < length s → l ≡ lead_of (get_or s i 0) → l ≡ None → ill_formed i ≡ text_of s
no_lead s i l r h e q = lost s i r h (rw (drop-cons s i 0 h) (lead_never (get_or s i 0) (drop (suc i) s) (sym e ∙ q)))

module _ (s : List ℕ) (i : ℕ) (l : Option Lead) (f : Lead) (r : Reached s i) (h : i < length s) (e : l ≡ lead_of (get_or s i 0)) (q : l ≡ Some f) where
  behind : sequence (drop i s) ≡ cond (matches (tails_of f) (drop (i + 1) s)) (suc f.left) 0
  behind = rw (add-one, drop-cons s i 0 h) (lead_starts (get_or s i 0) f (drop (suc i) s) (sym e ∙ q))

  pub lead : f.left ≤ length s - (i + 1) → Passing s i (i + 1 + f.left) f.low f.high (i + 1)
  lead a =
      let k : i + 1 + f.left - (i + 1) ≡ f.left = omega arith in
      let m : i + 1 + f.left - i ≡ suc f.left = omega arith in
      record { reached = r; begun = omega arith; left = omega arith; inside = omega arith; rest = rw (k, m) behind }

  pub cut : length s - (i + 1) < f.left → ill_formed i ≡ text_of s
  cut a = lost s i r h (behind ∙ rw (too_few (tails_of f) (drop (i + 1) s) (omega (arith, length-drop (i + 1) s, length_tails f.left f.low f.high))))

-- all tails, or one and the others
all_tails : (n : ℕ) → replicate n UTF8-tail ≡ tails n 0x80 0xBF
all_tails zero = refl
all_tails (suc n) = refl

one_tail : (n low high b : ℕ) (s : List ℕ) → 0 < n → in_range (low to high) b ≡ true → matches (tails n low high) (b ∷ s) ≡ matches (tails (n - 1) 0x80 0xBF) s
one_tail zero low high b s h x = absurd (omega arith)
one_tail (suc n) low high b s h x =
    let k : suc n - 1 ≡ n = omega arith in
    rw (k, x) (ap (λ (l : Line). matches l s) (all_tails n))

no_tail : (n low high b : ℕ) (s : List ℕ) → 0 < n → in_range (low to high) b ≡ false → matches (tails n low high) (b ∷ s) ≡ false
no_tail zero low high b s h x = absurd (omega arith)
no_tail (suc n) low high b s h x = simp x

pub whole : (s : List ℕ) (i end low high at : ℕ) → Passing s i end low high at → end ≤ at → Reached s end
whole s i end low high at p h =
    let k : end - at ≡ 0 = omega arith in
    found s i end p.reached (omega arith) p.inside (p.rest ∙ rw k)

module _ (s : List ℕ) (i end low high at : ℕ) (x : Bool) (p : Passing s i end low high at) (h : at < end) (e : x ≡ in_range (low to high) (get_or s at 0)) where
  pub turn : x ≡ true → Passing s i end 0x80 0xBF (at + 1)
  turn t =
      let k : end - (at + 1) ≡ end - at - 1 = omega arith in
      let a : at < length s = omega arith in
      let m = one_tail (end - at) low high (get_or s at 0) (drop (suc at) s) (omega arith) (sym e ∙ t) in
      record { reached = p.reached; begun = omega arith; left = omega arith; inside = p.inside; rest = rw (k, add-one, ← m, ← drop-cons s at 0 a) p.rest }

  pub outside : x ≡ false → ill_formed i ≡ text_of s
  outside t =
      let a : at < length s = omega arith in
      let m = no_tail (end - at) low high (get_or s at 0) (drop (suc at) s) (omega arith) (sym e ∙ t) in
      lost s i p.reached (omega arith) (p.rest ∙ rw (drop-cons s at 0 a, m))
