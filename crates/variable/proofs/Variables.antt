-- The variable integers as the code meets them: which words and bytes are direct, and each way out of reading and writing.
-- Assumes nothing.
use mathlib.Core.Path.{◌≡◌, ◌∙◌, sym, ap, ap₂, refl}
use mathlib.Core.Bool.{Bool, true, false, not}
use mathlib.Core.List.{List, [], ◌∷◌}
use Prim.Native.Nat.{ℕ, suc, ◌+◌, ◌-◌, ◌*◌, ◌%◌, ◌^◌, ◌≤◌, ◌<◌}
use native.Mathlib.Nat.{add-mod_right}
use native.Mathlib.Numerals.{add-one}
use native.Mathlib.Omega.{arith}
use lib.ListN.{length, take}
use lib.Dec.{leb, ltb, lit≤}
use borrow.Author.Tests.{le-leb, lt-leb, lt-ltb, le-ltb}
use Rattle.wide.specs.declared.wide.Wide.{Wide}
use Rattle.std.specs.Prelude.{Ok, Err}
use Rattle.wide.specs.Number.{bytes_of}
use Rattle.wide.specs.Words.{wide_end, wide_of}
use Rattle.wide.specs.Body.{size_at, body_value, rank}
use Rattle.wide.specs.Family.{behind, has_byte, number_of, has_number, byte_of, Coded, is, short, other, longer, body, unmarked, marked, coded, unmarked_form, form}
use Rattle.wide.specs.Members.{none, unsigned, signed}
use Rattle.wide.specs.Inner.{variable}
use Rattle.variable.specs.Answer.{got, too_short, read_as, read_of}
use Rattle.wide.proofs.Numbers.{either, Bytes}
use Rattle.wide.proofs.Nearness.{behind_up, behind_round, behind_zero}
use Rattle.wide.proofs.Ranks.{bool_case}
use Rattle.wide.proofs.Families.{cond_yes, cond_no, coded-marked}

-- ---- the numbers of direct bytes: `first` from 0 up, the rest of 248 below 0

pub number-direct : (s : Bool) (b first : ℕ) → b < 256 → first ≡ (variable s).first
    → (wide_end - (248 - first) + (b + (248 - first)) % 256) % wide_end ≡ number_of (variable s).direct b
unfolding behind
number-direct true b first h e = rw e
number-direct false b first h e =
    let f : 0 + (b + (256 - 0)) % 256 ≡ (b + 0) % 256 = omega arith in
    let g : wide_end - 0 + (b + 0) % 256 ≡ (b + 0) % 256 + wide_end = omega arith in
    rw e (ap (λ (x : ℕ). x % wide_end) g ∙ add-mod_right ((b + 0) % 256) wide_end ∙ sym (ap (λ (x : ℕ). x % wide_end) f))

pub has-direct : (s : Bool) (n first : ℕ) → first ≡ (variable s).first
    → ltb (behind wide_end (wide_end - (248 - first)) n) (248 - first + first) ≡ has_number (variable s).direct n
has-direct true n first e = rw e
has-direct false n first e = rw e (ap (λ (x : ℕ). ltb x 248) (behind_zero n))

-- a byte is direct exactly where no body follows it
direct-byte : (s : Bool) (b : ℕ) → b < 256 → has_byte (variable s).direct b ≡ not (ltb (behind 256 (variable s).first b) 8)
unfolding behind
direct-byte true b h =
    either 8 ((b + (256 - 124)) % 256)
    (λ l. lt-ltb ((b + (256 - 0x84)) % 256) 248 (omega arith) ∙ sym (ap not (le-ltb ((b + (256 - 124)) % 256) 8 l)))
    (λ l. le-ltb ((b + (256 - 0x84)) % 256) 248 (omega arith) ∙ sym (ap not (lt-ltb ((b + (256 - 124)) % 256) 8 l)))
direct-byte false b h =
    either 8 ((b + (256 - 248)) % 256)
    (λ l. lt-ltb ((b + (256 - 0)) % 256) 248 (omega arith) ∙ sym (ap not (le-ltb ((b + (256 - 248)) % 256) 8 l)))
    (λ l. le-ltb ((b + (256 - 0)) % 256) 248 (omega arith) ∙ sym (ap not (lt-ltb ((b + (256 - 248)) % 256) 8 l)))

signed_of : (s : Bool) → (variable s).signed ≡ s
signed_of true = refl
signed_of false = refl

pub first-low : (s : Bool) → (variable s).first ≤ 248
first-low true = lit≤ tt
first-low false = lit≤ tt

-- ---- reading, by each way out

pub none_before : (s : Bool) (bs : List ℕ) → coded (variable s) bs ≡ unmarked (variable s) bs
unfolding marked
none_before true [] = coded-marked signed [] tt
none_before true (b ∷ bs) = coded-marked signed (b ∷ bs) (le-ltb (behind 256 0 b) 0 (omega arith))
none_before false [] = coded-marked unsigned [] tt
none_before false (b ∷ bs) = coded-marked unsigned (b ∷ bs) (le-ltb (behind 256 0 b) 0 (omega arith))

-- every byte begins a form
pub every_byte : (s : Bool) (bs : List ℕ) → Bytes bs → coded (variable s) bs ≡ other → ⊥
unfolding unmarked
every_byte s [] h e = let z : ◌≡◌ {A = ℕ} 0 1 = cc (none_before s []) in omega arith
every_byte s (b ∷ bs) h e =
    let o : ℕ = behind 256 (variable s).first b in
    bool_case (ltb o 8)
    (λ l. bool_case (leb (size_at o) (length bs))
    (λ k. yes_no (sym (none_before s (b ∷ bs) ∙ cond_no (has_byte (variable s).direct b) _ _ (direct-byte s b h.0 ∙ ap not l) ∙ cond_yes (ltb o 8) _ other l
    ∙ ap longer (cond_yes (leb (size_at o) (length bs)) _ short k)) ∙ e))
    (λ k. short_no (sym (none_before s (b ∷ bs) ∙ cond_no (has_byte (variable s).direct b) _ _ (direct-byte s b h.0 ∙ ap not l) ∙ cond_yes (ltb o 8) _ other l
    ∙ ap longer (cond_no (leb (size_at o) (length bs)) _ short k)) ∙ e)))
    (λ l. yes_no (sym (none_before s (b ∷ bs) ∙ cond_yes (has_byte (variable s).direct b) _ _ (direct-byte s b h.0 ∙ ap not l)) ∙ e))
  where
    yes_no : {n u : ℕ} → is n u ≡ other → ⊥
    yes_no q = let z : ◌≡◌ {A = ℕ} 0 1 = cc in omega arith

    short_no : short ≡ other → ⊥
    short_no q = let z : ◌≡◌ {A = ℕ} 0 1 = cc in omega arith

module _ (s : Bool) where
  read_front : (b : ℕ) (bs : List ℕ) (p : ℕ) → b < 256 → p ≡ behind 256 (variable s).first b → p < 8
      → read_of (variable s) (b ∷ bs) ≡ read_as (longer (body (variable s).signed (size_at p) bs))
  unfolding read_of unmarked
  read_front b bs p h e l =
      let t : ltb (behind 256 (variable s).first b) 8 ≡ true = lt-ltb (behind 256 (variable s).first b) 8 (omega arith) in
      ap read_as (none_before s (b ∷ bs)
      ∙ cond_no (has_byte (variable s).direct b) _ _ (direct-byte s b h ∙ ap not t)
      ∙ cond_yes (ltb (behind 256 (variable s).first b) 8) _ other t)
      ∙ ap (λ (j : ℕ). read_as (longer (body (variable s).signed (size_at j) bs))) (sym e)

  pub read_none : (bs : List ℕ) → length bs ≡ 0 → Err too_short ≡ read_of (variable s) bs
  unfolding read_of coded
  read_none [] h = refl
  read_none (b ∷ bs) h = absurd (omega arith)

  module _ (b : ℕ) (bs : List ℕ) (p : ℕ) (h : b < 256) (e : p ≡ behind 256 (variable s).first b) where
    pub read_direct : (w : Wide) → 8 ≤ p → w ≡ wide_of (number_of (variable s).direct b) → Ok (got w 1) ≡ read_of (variable s) (b ∷ bs)
    unfolding read_of unmarked
    read_direct w l v =
        let t : ltb (behind 256 (variable s).first b) 8 ≡ false = le-ltb (behind 256 (variable s).first b) 8 (omega arith) in
        ap (λ (x : Wide). Ok (got x 1)) v
        ∙ sym (ap read_as (none_before s (b ∷ bs) ∙ cond_yes (has_byte (variable s).direct b) _ _ (direct-byte s b h ∙ ap not t)))

    module _ (k : ℕ) (l : p < 8) (g : k ≡ size_at p) where
      pub read_short : length bs < k → Err too_short ≡ read_of (variable s) (b ∷ bs)
      read_short m =
          sym (read_front b bs p h e l ∙ ap (λ (c : Coded). read_as (longer c)) (cond_no (leb (size_at p) (length bs)) _ short (lt-leb (size_at p) (length bs) (omega arith))))

      pub read_long : (w : Wide) → k ≤ length bs → w ≡ wide_of (body_value s (take k bs)) → Ok (got w (k + 1)) ≡ read_of (variable s) (b ∷ bs)
      read_long w m v =
          ap₂ (λ (x : Wide) (u : ℕ). Ok (got x u)) (v ∙ ap₂ (λ (t : Bool) (j : ℕ). wide_of (body_value t (take j bs))) (sym (signed_of s)) g) (add-one k ∙ ap suc g)
          ∙ sym (read_front b bs p h e l ∙ ap (λ (c : Coded). read_as (longer c)) (cond_yes (leb (size_at p) (length bs)) _ short (le-leb (size_at p) (length bs) (omega arith))))

-- ---- writing, by each way out

byte-plain : (n : ℕ) → n < wide_end → byte_of unsigned.direct n ≡ n % 256
byte-plain n h =
    let e : 0 + (n + 0) ≡ n = omega arith in
    ap (λ (x : ℕ). (0 + x) % 256) (sym (behind_zero n) ∙ behind_up 0 n (lit≤ tt) (omega arith)) ∙ ap (λ (x : ℕ). x % 256) e

whole-bytes : wide_end ≡ 256 * 2 ^ 120
unfolding wide_end
whole-bytes = refl

-- going round at wide_end leaves the low byte
round_byte : (n m c : ℕ) → m ≡ 256 * c → n < m → m ≤ n + 124 → (0x84 + (n + 124 - m)) % 256 ≡ n % 256
round_byte n m c e h l = omega arith

near_byte : (n : ℕ) → (0x84 + (n + 124)) % 256 ≡ n % 256
near_byte n = omega arith

byte_signed : (n : ℕ) → n < wide_end → byte_of signed.direct n ≡ n % 256
byte_signed n h =
    either wide_end (n + 124)
    (λ l. ap (λ (x : ℕ). (0x84 + x) % 256) (behind_round 124 n (lit≤ tt) h l) ∙ round_byte n wide_end (2 ^ 120) whole-bytes h l)
    (λ l. ap (λ (x : ℕ). (0x84 + x) % 256) (behind_up 124 n (lit≤ tt) l) ∙ near_byte n)

low_byte : (s : Bool) (n : ℕ) → n < wide_end → byte_of (variable s).direct n ≡ n % 256
low_byte true n h = byte_signed n h
low_byte false n h = byte-plain n h

unmarked-whole : (s : Bool) (n : ℕ) → form (variable s) n ≡ unmarked_form (variable s) n
unfolding form
unmarked-whole true n = cond_no (has_number none n) _ _ (le-ltb (behind wide_end 0 n) 0 (omega arith))
unmarked-whole false n = cond_no (has_number none n) _ _ (le-ltb (behind wide_end 0 n) 0 (omega arith))

module _ (s : Bool) (n : ℕ) (small : n < wide_end) where
  pub form-one : (t : Bool) (b : ℕ) → t ≡ has_number (variable s).direct n → t ≡ true → b ≡ n % 256 → form (variable s) n ≡ b ∷ []
  unfolding unmarked_form
  form-one t b e h g =
      unmarked-whole s n ∙ cond_yes (has_number (variable s).direct n) _ _ (sym e ∙ h) ∙ ap (λ (x : ℕ). x ∷ []) (low_byte s n small ∙ sym g)

  pub form-long : (t : Bool) (j k f : ℕ) → t ≡ has_number (variable s).direct n → t ≡ false → j ≡ rank s n → k ≡ size_at j → f ≡ (variable s).first
      → form (variable s) n ≡ (f + j) ∷ bytes_of k n
  unfolding unmarked_form
  form-long t j k f e h g d c =
      unmarked-whole s n ∙ cond_no (has_number (variable s).direct n) _ _ (sym e ∙ h) ∙ cc (signed_of s)
