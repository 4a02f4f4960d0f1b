-- What the check takes at the front of a list is a sequence of the table, and a sequence of the table at the front is taken. Assumes nothing.
use Prim.Native.Nat.{ℕ, suc, ◌≤◌, ◌<◌}
use mathlib.Core.Bool.{Bool, true, false, ◌&&◌, cond, false≢true}
use mathlib.Core.List.Memᴰ
use mathlib.Core.List.{List, [], ◌∷◌, ◌++◌, Memᴰ}
use mathlib.Core.Logic.{◌⊎◌, inl, inr, ⊎_elim}
use mathlib.Core.Path.{◌≡◌, refl, ap, subst}
use native.Mathlib.Omega.{arith}
use lib.ListN.{length, take}
use Rattle.text.specs.Syntax.{◌to◌, Line, UTF8-char}
use Rattle.text.specs.Grammar.{end, byte, Sequence}
use Rattle.text.specs.Check.{in_range, matches, taken, sequence}
use Rattle.text.proofs.Table.{within_true, within_bounds, Ordered, ordered, below}

sequence-fits : {l : Line} {q : List ℕ} → Sequence l q → (s : List ℕ) → matches l (q ++ s) ≡ true
sequence-fits end s = refl
sequence-fits (byte {low} {high} {b} x y h) s = simp (within_true low high b x y) (sequence-fits h s)

sequence-length : {l : Line} {q : List ℕ} → Sequence l q → length l ≡ length q
sequence-length end = refl
sequence-length (byte x y h) = ap suc (sequence-length h)

both : (a b : Bool) → a && b ≡ true → (a ≡ true) × (b ≡ true)
both true b e = (refl, e)
both false b e = absurd (false≢true e)

fits-sequence : (l : Line) (s : List ℕ) → matches l s ≡ true → Sequence l (take (length l) s) × (length l ≤ length s)
fits-sequence [] s e = (end, omega arith)
fits-sequence (r ∷ l) [] e = absurd (false≢true e)
fits-sequence (low to high ∷ l) (b ∷ s) e =
    let p = both (in_range (low to high) b) (matches l s) e in
    let w = within_bounds low high b p.0 in
    let h = fits-sequence l s p.1 in
    (byte w.0 w.1 h.0, omega arith)

-- one of the lines fits, and takes n bytes
record Taken (ls : List Line) (s : List ℕ) (n : ℕ) : Type 0 where
  line : Line
  listed : Memᴰ line ls
  fitting : matches line s ≡ true
  long : length line ≡ n

taken_line : (ls : List Line) (s : List ℕ) (n : ℕ) → 0 < n → taken ls s ≡ n → Taken ls s n
taken_line [] s n h e = absurd (omega arith)
taken_line (l ∷ ls) s n h e = go (matches l s) refl e (taken_line ls s n h)
  where
    go : (t : Bool) → matches l s ≡ t → cond t (length l) (taken ls s) ≡ n → (taken ls s ≡ n → Taken ls s n) → Taken (l ∷ ls) s n
    go true f q r = record { line = l; listed = Memᴰ.head refl; fitting = f; long = q }
    go false f q r =
        let k = r q in
        record { line = k.line; listed = Memᴰ.tail k.listed; fitting = k.fitting; long = k.long }

-- a sequence of the table stands at the front of s and takes n bytes
pub record Front (s : List ℕ) (n : ℕ) : Type 0 where
  pub line : Line
  pub listed : Memᴰ line UTF8-char
  pub made : Sequence line (take n s)
  pub inside : n ≤ length s

pub front : (s : List ℕ) (n : ℕ) → sequence s ≡ n → 0 < n → Front s n
unfolding sequence
front s n e h =
    let k = taken_line UTF8-char s n h e in
    let f = fits-sequence k.line s k.fitting in
    record { line = k.line; listed = k.listed; made = subst (λ (m : ℕ). Sequence k.line (take m s)) k.long f.0; inside = omega arith }

-- no line is empty
no_empty : (floor : ℕ) (ls : List Line) → Ordered floor ls → Memᴰ [] ls → ⊥
no_empty floor [] o m = Memᴰ.not-nil m
no_empty floor ([] ∷ ls) o m = o
no_empty floor ((low to high ∷ l) ∷ ls) o m =
    ⊎_elim (λ (e : [] ≡ low to high ∷ l). let z : ◌≡◌ {A = ℕ} 0 1 = cc in omega arith) (no_empty (suc high) ls o.3) (Memᴰ.cases_cons m)

-- a sequence of one of the lines is taken: no line before its own begins with its first byte
takes : (floor : ℕ) (ls : List Line) → Ordered floor ls → {l : Line} {b : ℕ} {q : List ℕ} → Memᴰ l ls → Sequence l (b ∷ q) → (s : List ℕ)
    → taken ls (b ∷ (q ++ s)) ≡ suc (length q)
takes floor [] o m h s = absurd (Memᴰ.not-nil m)
takes floor ([] ∷ ls) o m h s = absurd o
takes floor ((low to high ∷ k) ∷ ls) o {l} {b} {q} m h s = go (Memᴰ.cases_cons m) (λ n. takes (suc high) ls o.3 n h s)
  where
    later : (t : Bool) → in_range (low to high) b ≡ t → taken ls (b ∷ (q ++ s)) ≡ suc (length q) → cond (t && matches k (q ++ s)) (suc (length k)) (taken ls (b ∷ (q ++ s))) ≡ suc (length q)
    later true w r = absurd (omega (arith, below (suc high) ls o.3 b (omega (arith, within_bounds low high b w)) (q ++ s)))
    later false w r = r

    go : (l ≡ low to high ∷ k) ⊎ Memᴰ l ls → (Memᴰ l ls → taken ls (b ∷ (q ++ s)) ≡ suc (length q)) → taken ((low to high ∷ k) ∷ ls) (b ∷ (q ++ s)) ≡ suc (length q)
    go (inl e) r =
        let n = subst (λ (x : Line). Sequence x (b ∷ q)) e h in
        rw (sequence-fits n s) (sequence-length n)
    go (inr n) r = later (in_range (low to high) b) refl (r n)

pub sequence-taken : {l : Line} {q : List ℕ} → Memᴰ l UTF8-char → Sequence l q → (s : List ℕ) → sequence (q ++ s) ≡ length q
unfolding sequence
sequence-taken m end s = absurd (no_empty 0 UTF8-char ordered m)
sequence-taken m (byte x y h) s = takes 0 UTF8-char ordered m (byte x y h) s

pub sequence-bytes : {l : Line} {q : List ℕ} → Memᴰ l UTF8-char → Sequence l q → 0 < length q
sequence-bytes m end = absurd (no_empty 0 UTF8-char ordered m)
sequence-bytes m (byte x y h) = omega arith
