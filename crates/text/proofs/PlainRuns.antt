-- Runs of plain bytes: one byte more, and eight more where their number has none of the bytes' top bits. Assumes nothing.
use Prim.Native.Nat.{ℕ, zero, suc, ◌+◌, ◌*◌, ◌/◌, ◌%◌, ◌-◌, ◌^◌, ◌≤◌, ◌<◌}
use mathlib.Core.Bool.{true}
use mathlib.Core.List.{List}
use mathlib.Core.Path.{◌≡◌, refl, sym, ap, ap₂, subst, ◌∙◌}
use native.Mathlib.Omega.{arith}
use native.Mathlib.Nat.{add-zero, zero-add}
use Rattle.std.proofs.Common.{below_more}
use lib.Bits.{bit_and, and_block, and_high}
use lib.ListN.{length, get_or, take, drop, length-drop}
use Rattle.std.specs.Int.{w64, from_le_bytes}
use Rattle.std.specs.Array.{IsFirstChunk}
use Rattle.std.proofs.lemmas.List.{take_rest, get_or-take, get_or-drop}
use Rattle.text.specs.Syntax.{plain_byte}
use Rattle.text.specs.Check.{in_range}
use Rattle.text.specs.Inner.{PlainTo, number_at}
use Rattle.text.proofs.Table.{within_true}

-- the top bits of n bytes
abbrev pub tops : ℕ → ℕ
tops zero = 0
tops (suc n) = 128 + 256 * tops n

below_top : (b : ℕ) → b < 256 → b / 128 % 2 ≡ 0 → in_range plain_byte b ≡ true
below_top b f e =
    let l : b < 128 = omega arith in
    within_true 0x00 0x7F b (omega arith) (omega arith)

-- a byte below others: no top bit in all, so none in the byte and none in the others
no_top : (b rest t : ℕ) → b < 256 → bit_and (b + 256 * rest) (128 + 256 * t) ≡ 0 → (in_range plain_byte b ≡ true) × (bit_and rest t ≡ 0)
no_top b rest t f e =
    let p : b + 256 * rest ≡ rest * 2 ^ 8 + b = omega arith in
    let q : 128 + 256 * t ≡ t * 2 ^ 8 + 128 = omega arith in
    let z : bit_and rest t * 2 ^ 8 + bit_and b 128 ≡ 0 = sym (and_block 8 rest t b 128 f (omega arith)) ∙ sym (ap₂ bit_and p q) ∙ e in
    let h : bit_and b 128 ≡ b / 128 % 2 * 128 = and_high b 1 7 in
    let y : bit_and b 128 ≡ 0 = omega arith in
    (below_top b f (omega arith), omega arith)

no_tops : (s : List ℕ) (at n : ℕ) → ((j : ℕ) → at ≤ j → j < at + n → get_or s j 0 < 256) → bit_and (number_at s at n) (tops n) ≡ 0
    → (j : ℕ) → j < n → in_range plain_byte (get_or s (at + j) 0) ≡ true
no_tops s at zero f e j h = absurd (omega arith)
no_tops s at (suc n) f e zero h = rw add-zero (no_top _ _ (tops n) (f at (omega arith) (omega arith)) e).0
no_tops s at (suc n) f e (suc j) h =
    let m : at + suc j ≡ suc at + j = omega arith in
    rw m
    (no_tops s (suc at) n (λ k a b. f k (omega arith) (omega arith)) (no_top _ _ (tops n) (f at (omega arith) (omega arith)) e).1 j (omega arith))

-- one byte more
more : (s : List ℕ) (from at : ℕ) → PlainTo s from at → at < length s → in_range plain_byte (get_or s at 0) ≡ true → PlainTo s from (at + 1)
more s from at r h p =
    record {
      rises = omega arith;
      inside = omega arith;
      plain = λ k a b. below_more (λ (j : ℕ). from ≤ j → in_range plain_byte (get_or s j 0) ≡ true) at (λ j l f. r.plain j f l) (λ f. p) k b a;
    }

-- what one more byte keeps, n more keep
pub times : (P : ℕ → Type 0) (at n : ℕ) → P at → ((j : ℕ) → j < n → P (at + j) → P (at + j + 1)) → P (at + n)
times P at zero r step = rw add-zero r
times P at (suc n) r step =
    let e : at + suc n ≡ at + n + 1 = omega arith in
    rw e (step n (omega arith) (times P at n r (λ j b. step j (omega arith))))

pub eight_more : (s : List ℕ) (from at w : ℕ) → PlainTo s from at → 8 ≤ length s - at → ((j : ℕ) → get_or s j 0 < 256)
    → w ≡ number_at s at 8 → bit_and w (tops 8) ≡ 0 → PlainTo s from (at + 8)
eight_more s from at w r h f e z =
    let none : bit_and (number_at s at 8) (tops 8) ≡ 0 = ap (λ (n : ℕ). bit_and n (tops 8)) (sym e) ∙ z in
    times (PlainTo s from) at 8 r (λ j b q. more s from (at + j) q (omega arith) (no_tops s at 8 (λ k a l. f k) none j b))

-- bytes that are the same make the same number
number_same : (s e : List ℕ) (at k n : ℕ) → ((j : ℕ) → j < n → get_or e (k + j) 0 ≡ get_or s (at + j) 0) → number_at e k n ≡ number_at s at n
number_same s e at k zero f = refl
number_same s e at k (suc n) f =
    let first : get_or e k 0 ≡ get_or s at 0 = rw (add-zero k, add-zero at) at (f 0 (omega arith)) in
    let rest : number_at e (suc k) n ≡ number_at s (suc at) n = number_same s e (suc at) (suc k) n (λ j b. later j b) in
    ap₂ (λ (x y : ℕ). x + 256 * y) first rest
  where
    later : (j : ℕ) → j < n → get_or e (suc k + j) 0 ≡ get_or s (suc at + j) 0
    later j b =
        let p : k + suc j ≡ suc k + j = omega arith in
        let q : at + suc j ≡ suc at + j = omega arith in
        rw (p, q) at (f (suc j) (omega arith))

-- the eight bytes e at the front of those from `at` on make the number of those bytes, and are eight more
module _ (s e : List ℕ) (at : ℕ) (h : IsFirstChunk (take (length s - at) (drop at s)) e 8) where
  there : (j : ℕ) → j < 8 → get_or e (0 + j) 0 ≡ get_or s (at + j) 0
  there j b = rw zero-add (ap (λ (t : List ℕ). get_or t j 0) (h.same ∙ ap (take 8) (take_rest s at)) ∙ get_or-take 8 (drop at s) j 0 b ∙ get_or-drop at s j 0)

  pub chunk_number : from_le_bytes w64 e ≡ number_at s at 8
  chunk_number =
      let n : from_le_bytes w64 e ≡ number_at e 0 8 = omega arith in
      n ∙ number_same s e at 0 8 there

  pub chunk_more : (from w : ℕ) → PlainTo s from at → ((j : ℕ) → get_or s j 0 < 256) → w ≡ from_le_bytes w64 e → bit_and w (tops 8) ≡ 0
      → PlainTo s from (at + 8)
  chunk_more from w r f q z =
      let long : 8 ≤ length (drop at s) = subst (λ (t : List ℕ). 8 ≤ length t) (take_rest s at) h.enough in
      eight_more s from at w r (omega (arith, length-drop at s)) f (q ∙ chunk_number) z
