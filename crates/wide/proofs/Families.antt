-- Over every family and every width: what is written reads back with the bytes used, and nothing that reads as the number is shorter.
-- Assumes nothing.
use mathlib.Core.Path.{◌≡◌, ◌∙◌, sym, ap, refl, subst}
use mathlib.Core.Bool.{Bool, true, false, cond}
use mathlib.Core.List.{List, [], ◌∷◌, ◌++◌, append_assoc}
use Prim.Native.Nat.{ℕ, suc, ◌+◌, ◌%◌, ◌^◌, ◌≤◌, ◌<◌}
use native.Mathlib.Nat.{mod-eq_of_lt}
use native.Mathlib.Omega.{arith}
use lib.ListN.{length, take, drop, length-append}
use lib.Seq.{take_at, length-take-le}
use lib.Dec.{leb, ltb, eqb}
use borrow.Author.Tests.{le-leb, lt-leb, lt-ltb, le-ltb, eq-eqb, leb-true, ltb-true}
use Rattle.wide.specs.Number.{bytes_of}
use Rattle.wide.specs.Words.{wide_end}
use Rattle.wide.specs.Body.{size_at, body_value, rank}
use Rattle.wide.specs.Family.{Run, behind, has_byte, number_of, has_number, byte_of, Family, Coded, is, short, other, longer, body, unmarked, marked, coded, unmarked_form, form}
use Rattle.wide.proofs.Numbers.{either, Bytes, length-bytes_of, bytes-bytes_of, bytes_take, bytes_drop}
use Rattle.wide.proofs.Ranks.{bool_case, reach, Kept, body_held, rank_lt, rank_least, rank-reads, size_mono, size_high}
use Rattle.wide.proofs.Runs.{Valid, behind_move, number_has, number_small, byte_small, byte_has, byte-number}

pub cond_yes : {A : Type 0} (b : Bool) (x y : A) → b ≡ true → cond b x y ≡ x
cond_yes b x y e = ap (λ (t : Bool). cond t x y) e

pub cond_no : {A : Type 0} (b : Bool) (x y : A) → b ≡ false → cond b x y ≡ y
cond_no b x y e = ap (λ (t : Bool). cond t x y) e

-- the marker, or with none the bytes behind it, is not taken for a number by itself
abbrev pub Opening : Run → List ℕ → Type 0
Opening alone [] = alone.count ≡ 0
Opening alone (m ∷ ms) = has_byte alone m ≡ false

-- no byte of a family has two readings
pub record Sound (F : Family) : Type 0 where
  pub alone-run : Valid F.alone
  pub direct-run : Valid F.direct
  pub first-low : F.first + 8 ≤ 256
  pub bodies : (j : ℕ) → j < 8 → has_byte F.direct (F.first + j) ≡ false
  pub marker-bytes : Bytes F.marker
  pub opening : Opening F.alone F.marker

-- what is read of bytes is a number of 128 bits, and no fewer bytes say it
pub record Reads (F : Family) (s : List ℕ) (n used : ℕ) : Type 0 where
  pub small : n < wide_end
  pub least : length (form F n) ≤ used

-- ---- the parts of a form

abbrev pub NotAlone : Run → List ℕ → Type 0
NotAlone alone [] = Unit {0}
NotAlone alone (b ∷ s) = has_byte alone b ≡ false

none-alone : (alone : Run) (s : List ℕ) → alone.count ≡ 0 → NotAlone alone s
none-alone alone [] e = tt
none-alone alone (b ∷ s) e = le-ltb (behind 256 alone.low b) alone.count (omega arith)

not_alone : (alone : Run) (ms s : List ℕ) → Opening alone ms → NotAlone alone (ms ++ s)
not_alone alone [] s e = none-alone alone s e
not_alone alone (m ∷ ms) s e = e

-- an empty list is cut short behind any marker
marked-nothing : (F : Family) (ms : List ℕ) → short ≡ marked F ms []
unfolding marked unmarked
marked-nothing F [] = refl
marked-nothing F (m ∷ ms) = refl

pub coded-marked : (F : Family) (s : List ℕ) → NotAlone F.alone s → coded F s ≡ marked F F.marker s
unfolding coded
coded-marked F [] h = marked-nothing F F.marker
coded-marked F (b ∷ s) h = cond_no (has_byte F.alone b) _ _ h

marked_on : (F : Family) (ms s : List ℕ) (n u : ℕ) → unmarked F s ≡ is n u → marked F ms (ms ++ s) ≡ is n (length ms + u)
unfolding marked
marked_on F [] s n u e = let z : u ≡ 0 + u = omega arith in e ∙ ap (is n) z
marked_on F (m ∷ ms) s n u e =
    let z : suc (length ms + u) ≡ suc (length ms) + u = omega arith in
    cond_yes (eqb m m) _ other (eq-eqb m m refl) ∙ ap longer (marked_on F ms s n u e) ∙ ap (is n) z

-- how a marked form comes apart
pub record Apart (F : Family) (ms s : List ℕ) (n used : ℕ) : Type 0 where
  pub rest : ℕ
  pub split : used ≡ length ms + rest
  pub behind_it : unmarked F (drop (length ms) s) ≡ is n rest
  pub room : length ms ≤ length s

shift : (c : Coded) (n used : ℕ) → longer c ≡ is n used → (u : ℕ) × (used ≡ suc u) × (c ≡ is n u)
shift (is v u) n used e = let p : suc u ≡ used = cc in let q : v ≡ n = cc in (u, sym p, ap (λ (x : ℕ). is x u) q)
shift short n used e = absurd (let z : ◌≡◌ {A = ℕ} 0 1 = cc in omega arith)
shift other n used e = absurd (let z : ◌≡◌ {A = ℕ} 0 1 = cc in omega arith)

never_short : {X : Type 0} (n used : ℕ) → short ≡ is n used → X
never_short n used e = absurd (let z : ◌≡◌ {A = ℕ} 0 1 = cc in omega arith)

never_other : {X : Type 0} (n used : ℕ) → other ≡ is n used → X
never_other n used e = absurd (let z : ◌≡◌ {A = ℕ} 0 1 = cc in omega arith)

marked_apart : (F : Family) (ms s : List ℕ) (n used : ℕ) → marked F ms s ≡ is n used → Apart F ms s n used
unfolding marked
marked_apart F [] s n used e = record { rest = used; split = omega arith; behind_it = e; room = omega arith }
marked_apart F (m ∷ ms) [] n used e = never_short n used e
marked_apart F (m ∷ ms) (b ∷ s) n used e =
    bool_case (eqb b m)
    (λ t.
    let g = shift (marked F ms s) n used (sym (cond_yes (eqb b m) _ other t) ∙ e) in
    let a : Apart F ms s n g.0 = marked_apart F ms s n g.0 g.2 in
    record { rest = a.rest; split = omega (arith, g.1, a.split); behind_it = a.behind_it; room = omega (arith, a.room) })
    (λ t. never_other n used (sym (cond_no (eqb b m) (longer (marked F ms s)) other t) ∙ e))

-- ---- the bytes that a reading uses

pub cond-case : {A : Type 0} (P : A → Type 0) (b : Bool) (x y : A) → (b ≡ true → P x) → (b ≡ false → P y) → P (cond b x y)
cond-case P true x y f g = f refl
cond-case P false x y f g = g refl

-- what is read takes at least `low` bytes and at most `high`
abbrev pub Takes : ℕ → ℕ → Coded → Type 0
Takes low high (is n used) = (low ≤ used) × (used ≤ high)
Takes low high short = Unit {0}
Takes low high other = Unit {0}

longer_takes : (low high : ℕ) (c : Coded) → Takes low high c → Takes 1 (suc high) (longer c)
longer_takes low high (is n used) h = omega arith
longer_takes low high short h = tt
longer_takes low high other h = tt

body_takes : (sign : Bool) (k : ℕ) (s : List ℕ) → Takes 0 (length s) (body sign k s)
body_takes sign k s = cond-case (Takes 0 (length s)) (leb k (length s)) _ _ (λ p. omega (arith, leb-true k (length s) p)) (λ _. tt)

unmarked_takes : (F : Family) (s : List ℕ) → Takes 1 (length s) (unmarked F s)
unfolding unmarked
unmarked_takes F [] = tt
unmarked_takes F (b ∷ s) =
    cond-case (Takes 1 (suc (length s))) (has_byte F.direct b) _ _ (λ _. omega arith)
    (λ _. cond-case (Takes 1 (suc (length s))) (ltb (behind 256 F.first b) 8) _ _
    (λ _. longer_takes 0 (length s) (body F.signed (size_at (behind 256 F.first b)) s) (body_takes F.signed (size_at (behind 256 F.first b)) s))
    (λ _. tt))

marked_takes : (F : Family) (ms s : List ℕ) → Takes 1 (length s) (marked F ms s)
unfolding marked
marked_takes F [] s = unmarked_takes F s
marked_takes F (m ∷ ms) [] = tt
marked_takes F (m ∷ ms) (b ∷ s) =
    cond-case (Takes 1 (suc (length s))) (eqb b m) _ _ (λ _. longer_takes 1 (length s) (marked F ms s) (marked_takes F ms s)) (λ _. tt)

pub coded_takes : (F : Family) (s : List ℕ) → Takes 1 (length s) (coded F s)
unfolding coded
coded_takes F [] = tt
coded_takes F (b ∷ s) =
    cond-case (Takes 1 (suc (length s))) (has_byte F.alone b) _ _ (λ _. omega arith) (λ _. marked_takes F F.marker (b ∷ s))

module _ (F : Family) (good : Sound F) where
  -- the byte before a body names its place among the sizes
  first-behind : (j : ℕ) → j < 8 → behind 256 F.first (F.first + j) ≡ j
  first-behind j h =
      let e : (F.first + j) % 256 ≡ F.first + j = mod-eq_of_lt (omega (arith, good.first-low)) in
      ap (behind 256 F.first) (sym e) ∙ behind_move 256 F.first j (omega (arith, good.first-low)) (omega arith)

  -- ---- what is written, and how long it is

  module _ (n : ℕ) where
    pub alone-form : has_number F.alone n ≡ true → form F n ≡ byte_of F.alone n ∷ []
    unfolding form
    alone-form e = cond_yes (has_number F.alone n) _ _ e

    pub marked-form : has_number F.alone n ≡ false → form F n ≡ F.marker ++ unmarked_form F n
    unfolding form
    marked-form e = cond_no (has_number F.alone n) _ _ e

    pub direct-form : has_number F.direct n ≡ true → unmarked_form F n ≡ byte_of F.direct n ∷ []
    unfolding unmarked_form
    direct-form e = cond_yes (has_number F.direct n) _ _ e

    pub body-form : has_number F.direct n ≡ false → unmarked_form F n ≡ (F.first + rank F.signed n) ∷ bytes_of (size_at (rank F.signed n)) n
    unfolding unmarked_form
    body-form e = cond_no (has_number F.direct n) _ _ e

    unmarked-length : length (unmarked_form F n) ≤ suc (size_at (rank F.signed n))
    unmarked-length =
        bool_case (has_number F.direct n)
        (λ e. subst (λ (f : List ℕ). length f ≤ suc (size_at (rank F.signed n))) (sym (direct-form e)) (omega arith))
        (λ e. subst (λ (f : List ℕ). length f ≤ suc (size_at (rank F.signed n))) (sym (body-form e)) (omega (arith, length-bytes_of (size_at (rank F.signed n)) n)))

    pub form-length : (used : ℕ) → 1 ≤ used → length F.marker + length (unmarked_form F n) ≤ used → length (form F n) ≤ used
    form-length used o h =
        bool_case (has_number F.alone n)
        (λ e. subst (λ (f : List ℕ). length f ≤ used) (sym (alone-form e)) (omega arith))
        (λ e. subst (λ (f : List ℕ). length f ≤ used) (sym (marked-form e)) (omega (arith, length-append F.marker (unmarked_form F n))))

  -- ---- what is written reads back

  module _ (n : ℕ) (small : n < wide_end) where
    round_body : (rest : List ℕ)
        → unmarked F (((F.first + rank F.signed n) ∷ bytes_of (size_at (rank F.signed n)) n) ++ rest) ≡ is n (suc (size_at (rank F.signed n)))
    unfolding unmarked
    round_body rest =
        let j : ℕ = rank F.signed n in
        let k : ℕ = size_at j in
        let l : j < 8 = rank_lt F.signed n small in
        let b : ℕ = F.first + j in
        let s : List ℕ = bytes_of k n ++ rest in
        let d : behind 256 F.first b ≡ j = first-behind j l in
        let t : ltb (behind 256 F.first b) 8 ≡ true = lt-ltb (behind 256 F.first b) 8 (omega arith) in
        let r : leb k (length s) ≡ true = le-leb k (length s) (omega (arith, length-append (bytes_of k n) rest, length-bytes_of k n)) in
        cond_no (has_byte F.direct b) _ _ (good.bodies j l)
        ∙ cond_yes (ltb (behind 256 F.first b) 8) _ other t
        ∙ ap (λ (x : ℕ). longer (body F.signed (size_at x) s)) d
        ∙ ap longer (cond_yes (leb k (length s)) _ short r)
        ∙ ap (λ (x : List ℕ). is (body_value F.signed x) (suc k)) (take_at (bytes_of k n) rest k (length-bytes_of k n))
        ∙ ap (λ (x : ℕ). is x (suc k)) (rank-reads F.signed n small)

    round_direct : (rest : List ℕ) → has_number F.direct n ≡ true → unmarked F ((byte_of F.direct n ∷ []) ++ rest) ≡ is n 1
    unfolding unmarked
    round_direct rest e =
        cond_yes (has_byte F.direct (byte_of F.direct n)) _ _ (byte_has F.direct good.direct-run n e)
        ∙ ap (λ (x : ℕ). is x 1) (byte-number F.direct good.direct-run n small e)

    round_unmarked : (rest : List ℕ) → unmarked F (unmarked_form F n ++ rest) ≡ is n (length (unmarked_form F n))
    round_unmarked rest =
        bool_case (has_number F.direct n)
        (λ e. subst (λ (f : List ℕ). unmarked F (f ++ rest) ≡ is n (length f)) (sym (direct-form n e)) (round_direct rest e))
        (λ e. subst (λ (f : List ℕ). unmarked F (f ++ rest) ≡ is n (length f)) (sym (body-form n e))
        (round_body rest ∙ ap (λ (k : ℕ). is n (suc k)) (sym (length-bytes_of (size_at (rank F.signed n)) n))))

    round_alone : (rest : List ℕ) → has_number F.alone n ≡ true → coded F ((byte_of F.alone n ∷ []) ++ rest) ≡ is n 1
    unfolding coded
    round_alone rest e =
        cond_yes (has_byte F.alone (byte_of F.alone n)) _ _ (byte_has F.alone good.alone-run n e)
        ∙ ap (λ (x : ℕ). is x 1) (byte-number F.alone good.alone-run n small e)

    round_marked : (rest : List ℕ) → coded F ((F.marker ++ unmarked_form F n) ++ rest) ≡ is n (length (F.marker ++ unmarked_form F n))
    round_marked rest =
        ap (coded F) (append_assoc F.marker (unmarked_form F n) rest)
        ∙ coded-marked F (F.marker ++ (unmarked_form F n ++ rest)) (not_alone F.alone F.marker (unmarked_form F n ++ rest) good.opening)
        ∙ marked_on F F.marker (unmarked_form F n ++ rest) n (length (unmarked_form F n)) (round_unmarked rest)
        ∙ ap (is n) (sym (length-append F.marker (unmarked_form F n)))

    pub round_trip : (rest : List ℕ) → coded F (form F n ++ rest) ≡ is n (length (form F n))
    round_trip rest =
        bool_case (has_number F.alone n)
        (λ e. subst (λ (f : List ℕ). coded F (f ++ rest) ≡ is n (length f)) (sym (alone-form n e)) (round_alone rest e))
        (λ e. subst (λ (f : List ℕ). coded F (f ++ rest) ≡ is n (length f)) (sym (marked-form n e)) (round_marked rest))

  -- ---- nothing that reads as the number is shorter

  -- of what stands behind the marker
  record Behind (s : List ℕ) (n used : ℕ) : Type 0 where
    small : n < wide_end
    least : length (unmarked_form F n) ≤ used

  read_direct : (b : ℕ) (s : List ℕ) (n used : ℕ) → has_byte F.direct b ≡ true → is (number_of F.direct b) 1 ≡ is n used → Behind (b ∷ s) n used
  read_direct b s n used t e =
      let u : 1 ≡ used = cc in
      let v : number_of F.direct b ≡ n = cc in
      let h : has_number F.direct n ≡ true = ap (has_number F.direct) (sym v) ∙ number_has F.direct good.direct-run b ∙ t in
      record {
        small = subst (λ (x : ℕ). x < wide_end) v (number_small F.direct good.direct-run b);
        least = omega (arith, ap length (direct-form n h));
      }

  read_body : (b : ℕ) (s : List ℕ) (n used j : ℕ) → Bytes s → j < 8 → longer (body F.signed (size_at j) s) ≡ is n used → Behind (b ∷ s) n used
  read_body b s n used j h l e =
      let k : ℕ = size_at j in
      let bs : List ℕ = take k s in
      either k (length s)
      (λ c.
      let g : is (body_value F.signed bs) (suc k) ≡ is n used = ap longer (sym (cond_yes (leb k (length s)) _ short (le-leb k (length s) c))) ∙ e in
      let u : suc k ≡ used = cc in
      let v : body_value F.signed bs ≡ n = cc in
      let d : length bs ≡ k = length-take-le k s c in
      let w : Kept F.signed (length bs) (body_value F.signed bs) = body_held F.signed bs (bytes_take k s h) (omega (arith, size_high j l)) in
      let m : n < wide_end = subst (λ (x : ℕ). x < wide_end) v w.small in
      let r : reach F.signed n < 256 ^ k =
      subst (λ (x : ℕ). reach F.signed n < 256 ^ x) d (subst (λ (x : ℕ). reach F.signed x < 256 ^ length bs) v w.near) in
      record {
        small = m;
        least = omega (arith, unmarked-length n, size_mono (rank F.signed n) j l (rank_least F.signed n m j l r));
      })
      (λ c. never_short n used (ap longer (sym (cond_no (leb k (length s)) (is (body_value F.signed bs) k) short (lt-leb k (length s) c))) ∙ e))

  read_unmarked : (s : List ℕ) (n used : ℕ) → Bytes s → unmarked F s ≡ is n used → Behind s n used
  unfolding unmarked
  read_unmarked [] n used h e = never_short n used e
  read_unmarked (b ∷ s) n used h e =
      let o : ℕ = behind 256 F.first b in
      bool_case (has_byte F.direct b)
      (λ t. read_direct b s n used t (sym (cond_yes (has_byte F.direct b) _ _ t) ∙ e))
      (λ t. bool_case (ltb o 8)
      (λ l. read_body b s n used o h.1 (ltb-true o 8 l)
      (sym (cond_no (has_byte F.direct b) _ _ t ∙ cond_yes (ltb o 8) _ other l) ∙ e))
      (λ l. never_other n used
      (sym (cond_no (has_byte F.direct b) (is (number_of F.direct b) 1) _ t ∙ cond_no (ltb o 8) (longer (body F.signed (size_at o) s)) other l) ∙ e)))

  read_marked : (s : List ℕ) (n used : ℕ) → Bytes s → marked F F.marker s ≡ is n used → Reads F s n used
  read_marked s n used h e =
      let a : Apart F F.marker s n used = marked_apart F F.marker s n used e in
      let r : Behind (drop (length F.marker) s) n a.rest =
      read_unmarked (drop (length F.marker) s) n a.rest (bytes_drop (length F.marker) s h) a.behind_it in
      let o : Takes 1 (length (drop (length F.marker) s)) (is n a.rest) =
      subst (Takes 1 (length (drop (length F.marker) s))) a.behind_it (unmarked_takes F (drop (length F.marker) s)) in
      record { small = r.small; least = form-length n used (omega (arith, a.split, o.0)) (omega (arith, a.split, r.least)) }

  read_alone : (b : ℕ) (s : List ℕ) (n used : ℕ) → has_byte F.alone b ≡ true → is (number_of F.alone b) 1 ≡ is n used → Reads F (b ∷ s) n used
  read_alone b s n used t e =
      let u : 1 ≡ used = cc in
      let v : number_of F.alone b ≡ n = cc in
      let h : has_number F.alone n ≡ true = ap (has_number F.alone) (sym v) ∙ number_has F.alone good.alone-run b ∙ t in
      record {
        small = subst (λ (x : ℕ). x < wide_end) v (number_small F.alone good.alone-run b);
        least = omega (arith, ap length (alone-form n h));
      }

  -- whatever reads as n has at least the bytes of its form
  pub reads : (s : List ℕ) (n used : ℕ) → Bytes s → coded F s ≡ is n used → Reads F s n used
  unfolding coded
  reads [] n used h e = never_short n used e
  reads (b ∷ s) n used h e =
      bool_case (has_byte F.alone b)
      (λ t. read_alone b s n used t (sym (cond_yes (has_byte F.alone b) _ _ t) ∙ e))
      (λ t. read_marked (b ∷ s) n used h (sym (cond_no (has_byte F.alone b) (is (number_of F.alone b) 1) _ t) ∙ e))

  -- a form is bytes
  pub form-bytes : (n : ℕ) → n < wide_end → Bytes (form F n)
  form-bytes n small =
      bool_case (has_number F.alone n)
      (λ e. subst Bytes (sym (alone-form n e)) (byte_small F.alone good.alone-run n, tt))
      (λ e. subst Bytes (sym (marked-form n e)) (joined F.marker (unmarked_form F n) good.marker-bytes (bool_case (has_number F.direct n)
      (λ d. subst Bytes (sym (direct-form n d)) (byte_small F.direct good.direct-run n, tt))
      (λ d. subst Bytes (sym (body-form n d)) (omega (arith, good.first-low, rank_lt F.signed n small), bytes-bytes_of (size_at (rank F.signed n)) n)))))
    where
      joined : (ms s : List ℕ) → Bytes ms → Bytes s → Bytes (ms ++ s)
      joined [] s a b = b
      joined (m ∷ ms) s a b = (a.0, joined ms s a.1 b)
