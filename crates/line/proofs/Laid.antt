-- Pairs of digits, laid one byte after the other. Assumes nothing.
use Rattle.std.proofs.Common.{◌≡◌, ℕ, ◌+◌, ◌*◌, ◌/◌, ◌%◌, ◌<◌, ◌≤◌, List, [], ◌∷◌, ◌++◌, length, take, drop, slice_index, slice_set, true, nat_lt, refl, ap, ◌∙◌, arith}
use Rattle.std.proofs.lemmas.List.{append_assoc, append-nil, drop_all, drop_more, take_all, take_more_set, length-set}
use Rattle.std.proofs.lemmas.Str.Ascii.{IsAscii-nil, IsAscii-cons}
use Rattle.std.proofs.lemmas.Bool.{and_parts, ltb-true}
use Rattle.std.specs.List.{list_all}
use Rattle.std.specs.Str.{IsAscii}
use Rattle.line.specs.Pairs.{digits, pairs}

-- the pairs of two runs of bytes stand behind each other
pub pairs-append : (xs ys : List ℕ) → pairs (xs ++ ys) ≡ pairs xs ++ pairs ys
unfolding pairs
pairs-append [] ys = refl
pairs-append (b ∷ xs) ys = rw (pairs-append xs ys) refl

-- a list of small numbers, which a test shows
ascii_from : (xs : List ℕ) → list_all (λ b. nat_lt b 128) xs ≡ true → IsAscii xs
ascii_from [] e = IsAscii-nil
ascii_from (b ∷ xs) e =
    let parts = and_parts (nat_lt b 128) (list_all (λ b. nat_lt b 128) xs) e in
    IsAscii-cons b xs (ltb-true b 128 parts.0) (ascii_from xs parts.1)

IsAscii-digits : IsAscii digits
IsAscii-digits = ascii_from digits refl

-- pairs are text
pub IsAscii-pairs : (xs : List ℕ) → IsAscii (pairs xs)
unfolding pairs
IsAscii-pairs [] = IsAscii-nil
IsAscii-pairs (b ∷ xs) =
    IsAscii-cons 32 (slice_index digits (b / 16) ∷ slice_index digits (b % 16) ∷ pairs xs) (omega arith)
    (IsAscii-cons (slice_index digits (b / 16)) (slice_index digits (b % 16) ∷ pairs xs) (IsAscii-digits (b / 16))
    (IsAscii-cons (slice_index digits (b % 16)) (pairs xs) (IsAscii-digits (b % 16)) (IsAscii-pairs xs)))

-- three writes in a row, seen from the front
pub take-three_writes : (xs : List ℕ) (o x y z : ℕ) → o + 2 < length xs
    → take (o + 3) (slice_set (slice_set (slice_set xs o x) (o + 1) y) (o + 2) z) ≡ take o xs ++ (x ∷ y ∷ z ∷ [])
take-three_writes xs o x y z fits =
    let one = length-set xs o x in
    let two = length-set (slice_set xs o x) (o + 1) y in
    let last : o + 3 ≡ o + 2 + 1 = omega arith in
    let mid : o + 2 ≡ o + 1 + 1 = omega arith in
    let c = take_more_set (slice_set (slice_set xs o x) (o + 1) y) (o + 2) z (omega (arith, one, two)) in
    let b = take_more_set (slice_set xs o x) (o + 1) y (omega (arith, one)) in
    let a = take_more_set xs o x (omega arith) in
    ap (λ n. take n (slice_set (slice_set (slice_set xs o x) (o + 1) y) (o + 2) z)) last ∙ c
    ∙ ap (λ n. take n (slice_set (slice_set xs o x) (o + 1) y) ++ z ∷ []) mid ∙ ap (λ l. l ++ z ∷ []) (b ∙ ap (λ l. l ++ y ∷ []) a)
    ∙ rw (append_assoc (take o xs ++ x ∷ []) (y ∷ []) (z ∷ []), append_assoc (take o xs) (x ∷ []) (y ∷ z ∷ [])) refl

-- the pairs of what is left, from one byte on
pairs-drop : (xs : List ℕ) (i : ℕ) → i < length xs
    → pairs (drop i xs)
    ≡ 32 ∷ slice_index digits (slice_index xs i / 16) ∷ slice_index digits (slice_index xs i % 16) ∷ pairs (drop (i + 1) xs)
unfolding pairs
pairs-drop xs i h = rw (drop_more xs i 0 h) refl

-- one byte more is laid
pub lay_step : (bytes text : List ℕ) (i high low : ℕ) → i < length bytes → 3 * i + 2 < length text
    → high ≡ slice_index bytes i / 16 → low ≡ slice_index bytes i % 16
    → take (3 * i) text ++ pairs (drop i bytes) ≡ pairs bytes
    → take (3 * (i + 1)) (slice_set (slice_set (slice_set text (3 * i) 32) (3 * i + 1) (slice_index digits high)) (3 * i + 2) (slice_index digits low))
    ++ pairs (drop (i + 1) bytes) ≡ pairs bytes
lay_step bytes text i high low h fits eh el inv =
    let three : 3 * (i + 1) ≡ 3 * i + 3 = omega arith in
    let front = take-three_writes text (3 * i) 32 (slice_index digits high) (slice_index digits low) fits in
    let rest = pairs-drop bytes i h in
    rw (three, front, append_assoc, eh, el) (rw rest at inv)

-- every byte is laid
pub lay_done : (bytes text : List ℕ) (i : ℕ) → length bytes ≤ i → length text ≡ 3 * length bytes
    → take (3 * i) text ++ pairs (drop i bytes) ≡ pairs bytes
    → text ≡ pairs bytes
unfolding pairs
lay_done bytes text i h len inv =
    let d = drop_all i bytes h in
    let a = take_all (3 * i) text (omega arith) in
    rw (d, a, append-nil) at inv
