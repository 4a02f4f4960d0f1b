-- A number's bytes are its number again, and the bytes of a number are bytes. Assumes nothing.
use mathlib.Core.Path.{◌≡◌, ◌∙◌, ap, ap₂, refl}
use mathlib.Core.List.{List, [], ◌∷◌, ◌++◌}
use Prim.Native.Nat.{ℕ, zero, suc, ◌+◌, ◌*◌, ◌/◌, ◌%◌, ◌^◌, ◌≤◌, ◌<◌}
use native.Mathlib.Nat.{mul_assoc, pow-suc, pow-succ', mul_left_comm, one-le-pow, zero-lt-suc, lt_of_not-le}
use native.Mathlib.Decide.{dec_le}
use native.Mathlib.Omega.{arith}
use lib.ListN.{length, take, drop, get_or}
use lib.Arith.{mod-mul}
use Rattle.wide.specs.Number.{number, bytes_of}

-- one order or the other
pub either {ℓ} : {X : Type ℓ} (a b : ℕ) → (a ≤ b → X) → (b < a → X) → X
either a b f g = elim (dec_le a b) [ yes h ↦ f h | no h ↦ g (lt_of_not-le h) ]

-- each is a byte
abbrev pub Bytes : List ℕ → Type 0
Bytes [] = Unit {0}
Bytes (b ∷ bs) = (b < 256) × Bytes bs

-- the bytes bs, low byte first, with f above them
abbrev pub onto : ℕ → List ℕ → ℕ
onto f [] = f
onto f (b ∷ bs) = b + 256 * onto f bs

pub pow_pos256 : (k : ℕ) → 0 < 256 ^ k
pow_pos256 k = one-le-pow k 256 (zero-lt-suc 255)

pub pow_step : (k : ℕ) → 256 ^ suc k ≡ 256 * 256 ^ k
pow_step k = pow-succ' 256 k

pub length-bytes_of : (k n : ℕ) → length (bytes_of k n) ≡ k
length-bytes_of zero n = refl
length-bytes_of (suc k) n = ap suc (length-bytes_of k (n / 256))

pub bytes-bytes_of : (k n : ℕ) → Bytes (bytes_of k n)
bytes-bytes_of zero n = tt
bytes-bytes_of (suc k) n = (omega arith, bytes-bytes_of k (n / 256))

pub number_lt : (bs : List ℕ) → Bytes bs → number bs < 256 ^ length bs
number_lt [] h = omega arith
number_lt (b ∷ bs) h = omega (arith, pow_step (length bs), number_lt bs h.1, h.0)

pub onto_number : (f : ℕ) (bs : List ℕ) → onto f bs ≡ number bs + f * 256 ^ length bs
onto_number f [] = omega arith
onto_number f (b ∷ bs) =
    omega (arith, onto_number f bs, ap (λ (p : ℕ). f * p) (pow_step (length bs)), mul_left_comm f 256 (256 ^ length bs))

pub onto_zero : (bs : List ℕ) → onto 0 bs ≡ number bs
onto_zero [] = refl
onto_zero (b ∷ bs) = ap (λ (n : ℕ). b + 256 * n) (onto_zero bs)

-- the rest by one more byte
mod_step : (k n : ℕ) → n % 256 ^ suc k ≡ n % 256 + 256 * (n / 256 % 256 ^ k)
mod_step k n = omega (arith, ap (λ (p : ℕ). n % p) (pow-suc 256 k), mod-mul n {m = 256 ^ k} {c = 256} (pow_pos256 k) (zero-lt-suc 255))

pub number-bytes_of : (k n : ℕ) → number (bytes_of k n) ≡ n % 256 ^ k
number-bytes_of zero n = omega arith
number-bytes_of (suc k) n = omega (arith, mod_step k n, number-bytes_of k (n / 256))

pub bytes_take : (k : ℕ) (l : List ℕ) → Bytes l → Bytes (take k l)
bytes_take zero l h = tt
bytes_take (suc k) [] h = tt
bytes_take (suc k) (b ∷ l) h = (h.0, bytes_take k l h.1)

pub bytes_drop : (k : ℕ) (l : List ℕ) → Bytes l → Bytes (drop k l)
bytes_drop zero l h = h
bytes_drop (suc k) [] h = tt
bytes_drop (suc k) (b ∷ l) h = bytes_drop k l h.1

pub bytes-all : (bs : List ℕ) → ((i : ℕ) → get_or bs i 0 < 256) → Bytes bs
bytes-all [] h = tt
bytes-all (b ∷ bs) h = (h 0, bytes-all bs (λ i. h (suc i)))

-- ---- the bytes of a number x below another: nothing above them changes the low ones

low_byte : (x z : ℕ) → (x + 256 * z) % 256 ≡ x % 256
low_byte x z = omega arith

low_off : (x z : ℕ) → (x + 256 * z) / 256 ≡ x / 256 + z
low_off x z = omega arith

higher : (j x y : ℕ) → x + 256 ^ suc j * y ≡ x + 256 * (256 ^ j * y)
higher j x y = ap (λ (p : ℕ). x + p * y) (pow_step j) ∙ ap (λ (n : ℕ). x + n) (mul_assoc 256 (256 ^ j) y)

pub bytes_low : (k j x y : ℕ) → k ≤ j → bytes_of k (x + 256 ^ j * y) ≡ bytes_of k x
bytes_low zero j x y h = refl
bytes_low (suc k) zero x y h = absurd (omega arith)
bytes_low (suc k) (suc j) x y h =
    ap (bytes_of (suc k)) (higher j x y)
    ∙ ap₂ ◌∷◌ (low_byte x (256 ^ j * y)) (ap (bytes_of k) (low_off x (256 ^ j * y)) ∙ bytes_low k j (x / 256) y (omega arith))

pub bytes_split : (j m x y : ℕ) → x < 256 ^ j → bytes_of (m + j) (x + 256 ^ j * y) ≡ bytes_of j x ++ bytes_of m y
bytes_split zero m x y h =
    let k : m + 0 ≡ m = omega arith in
    let n : x + 256 ^ 0 * y ≡ y = omega arith in
    ap₂ bytes_of k n
bytes_split (suc j) m x y h =
    let k : m + suc j ≡ suc (m + j) = omega arith in
    ap₂ bytes_of k (higher j x y)
    ∙ ap₂ ◌∷◌ (low_byte x (256 ^ j * y)) (ap (bytes_of (m + j)) (low_off x (256 ^ j * y)) ∙ bytes_split j m (x / 256) y (omega (arith, pow_step j)))
