-- Numbers of the families at a place: in the marker itself, behind it, and as the variable integer's reader finds them. Assumes nothing.
use Rattle.std.specs.Prelude.{Ok, Err, Result, IfOk}
use Prim.Native.Nat.{ℕ, suc, ◌+◌, ◌-◌, ◌*◌, ◌%◌, ◌^◌, ◌≤◌, ◌<◌}
use mathlib.Core.Path.{◌≡◌, ◌∙◌, sym, ap, ap₂, refl, subst}
use mathlib.Core.Bool.{Bool, true, false, cond}
use mathlib.Core.List.{List, [], ◌∷◌}
use native.Mathlib.Nat.{mod-eq_of_lt}
use native.Mathlib.Omega.{arith}
use lib.ListN.{length, get_or, take, drop, length-drop}
use lib.Seq.{drop-cons, length-take-le}
use lib.Dec.{leb, eqb}
use borrow.Author.Tests.{le-leb, lt-leb, lt-ltb, le-ltb, leb-true, leb-false, eq-eqb}
use Rattle.wide.specs.declared.wide.Wide.{Wide}
use Rattle.wide.specs.Words.{wide_end, value_of, wide_of}
use Rattle.wide.specs.Family.{Run, behind, has_byte, number_of, Coded, is, short, other, longer, unmarked, marked, coded}
use Rattle.wide.specs.Members.{run, none, unsigned, headed, key_length}
use Rattle.variable.specs.declared.got.Got.{Got}
use Rattle.variable.specs.declared.short.Short.{Short}
use Rattle.variable.specs.Answer.{read_as, read_of, read_value, read_used}
use Rattle.wide.proofs.Numbers.{Bytes, bytes-all, bytes_take, bytes_drop}
use Rattle.wide.proofs.Wides.{value_wide}
use Rattle.wide.proofs.Runs.{bytes_whole}
use Rattle.wide.proofs.Families.{cond_yes, cond_no, Takes, coded_takes, Reads, reads}
use Rattle.wide.proofs.Sound.{sound_variable}
use Rattle.variable.proofs.Variables.{none_before, every_byte}
use Rattle.rows.specs.Table.{limit}
use Rattle.format.specs.declared.refusal.Refusal.TheVariants as why
use Rattle.format.proofs.Heads.{Counted, counted}
use Rattle.format.specs.declared.head.Count.{Count}
use Rattle.format.specs.declared.refusal.Refusal.{Refusal}
use Rattle.format.specs.Head.{counts, between, count_of, count_at}

-- ---- parts of the bytes

pub part-cons : (s : List ℕ) (at stop : ℕ) → at < stop → stop ≤ length s → between s at stop ≡ get_or s at 0 ∷ between s (at + 1) stop
part-cons s at stop l h =
    let k : ℕ = stop - (at + 1) in
    let e : stop - at ≡ suc k = omega arith in
    let n : at + 1 ≡ suc at = omega arith in
    ap₂ take e (drop-cons s at 0 (omega arith)) ∙ ap (λ (x : ℕ). get_or s at 0 ∷ take k (drop x s)) (sym n)

part_none : (s : List ℕ) (at stop : ℕ) → stop ≤ at → between s at stop ≡ []
part_none s at stop h = let e : stop - at ≡ 0 = omega arith in ap (λ (k : ℕ). take k (drop at s)) e

pub part_length : (s : List ℕ) (at stop : ℕ) → at ≤ stop → stop ≤ length s → length (between s at stop) ≡ stop - at
part_length s at stop l h = length-take-le (stop - at) (drop at s) (omega (arith, length-drop at s))

pub part_bytes_lem : (s : List ℕ) (at stop : ℕ) → ((i : ℕ) → get_or s i 0 < 256) → Bytes (between s at stop)
part_bytes_lem s at stop h = bytes_take (stop - at) (drop at s) (bytes_drop at s (bytes-all s h))

-- ---- a number behind the marker

headed-unmarked : (alone : Run) (ms s : List ℕ) → unmarked (headed alone ms) s ≡ unmarked unsigned s
unfolding unmarked
headed-unmarked alone ms [] = refl
headed-unmarked alone ms (b ∷ s) = refl

count-longer : (at : ℕ) (c : Coded) → count_of at (longer c) ≡ count_of (at + 1) c
count-longer at (is n used) = let e : at + suc used ≡ at + 1 + used = omega arith in ap (λ (x : ℕ). cond (leb n limit) (Ok (counts n x)) (Err why.Huge)) e
count-longer at short = refl
count-longer at other = refl

-- one byte of marker
pub count-behind : (alone : Run) (m : ℕ) (s : List ℕ) (at stop : ℕ) → at < stop → stop ≤ length s → get_or s at 0 ≡ m → has_byte alone m ≡ false
    → count_at (headed alone (m ∷ [])) s at stop ≡ count_at key_length s (at + 1) stop
unfolding count_at coded marked
count-behind alone m s at stop l h e a =
    let rest : List ℕ = between s (at + 1) stop in
    ap (λ (p : List ℕ). count_of at (coded (headed alone (m ∷ [])) p)) (part-cons s at stop l h ∙ ap (λ (b : ℕ). b ∷ rest) e)
    ∙ ap (count_of at) (cond_no (has_byte alone m) _ _ a ∙ cond_yes (eqb m m) _ other (eq-eqb m m refl) ∙ ap longer (headed-unmarked alone (m ∷ []) rest ∙ sym (none_before false rest)))
    ∙ count-longer at (coded unsigned rest)

-- two bytes of marker
pub count-behind_two : (m n : ℕ) (s : List ℕ) (at stop : ℕ) → at + 1 < stop → stop ≤ length s → get_or s at 0 ≡ m → get_or s (at + 1) 0 ≡ n
    → count_at (headed none (m ∷ n ∷ [])) s at stop ≡ count_at key_length s (at + 1 + 1) stop
unfolding count_at coded marked
count-behind_two m n s at stop l h e f =
    let rest : List ℕ = between s (at + 1 + 1) stop in
    let q : between s at stop ≡ m ∷ n ∷ rest =
    part-cons s at stop (omega arith) h ∙ ap₂ (λ (b : ℕ) (p : List ℕ). b ∷ p) e (part-cons s (at + 1) stop l h ∙ ap (λ (b : ℕ). b ∷ rest) f) in
    ap (λ (p : List ℕ). count_of at (coded (headed none (m ∷ n ∷ [])) p)) q
    ∙ ap (count_of at) (cond_no (has_byte none m) _ _ (le-ltb (behind 256 0 m) 0 (omega arith))
    ∙ cond_yes (eqb m m) _ other (eq-eqb m m refl)
    ∙ ap longer (cond_yes (eqb n n) _ other (eq-eqb n n refl) ∙ ap longer (headed-unmarked none (m ∷ n ∷ []) rest ∙ sym (none_before false rest))))
    ∙ count-longer at (longer (coded unsigned rest))
    ∙ count-longer (at + 1) (coded unsigned rest)

-- ---- a number in the marker itself

alone_distance : (low b : ℕ) → low ≤ b → b < 256 → behind 256 low b ≡ b - low
unfolding behind
alone_distance low b l h = omega arith

pub count-alone : (low count from : ℕ) (ms s : List ℕ) (at stop : ℕ) → at < stop → stop ≤ length s → low ≤ get_or s at 0 → get_or s at 0 < low + count
    → low + count ≤ 256 → from + count ≤ 256
    → count_at (headed (run low count from) ms) s at stop ≡ Ok (counts (from + (get_or s at 0 - low)) (at + 1))
unfolding count_at coded
count-alone low count from ms s at stop l h a b c d =
    let x : ℕ = get_or s at 0 in
    let t : behind 256 low x ≡ x - low = alone_distance low x a (omega arith) in
    let y : has_byte (run low count from) x ≡ true = lt-ltb (behind 256 low x) count (omega arith) in
    let v : number_of (run low count from) x ≡ from + (x - low) = ap (λ (o : ℕ). (from + o) % wide_end) t ∙ mod-eq_of_lt (omega (arith, bytes_whole)) in
    let small : from + (x - low) ≤ limit = omega arith in
    ap (λ (p : List ℕ). count_of at (coded (headed (run low count from) ms) p)) (part-cons s at stop l h)
    ∙ ap (count_of at) (cond_yes (has_byte (run low count from) x) _ _ y ∙ ap (λ (n : ℕ). is n 1) v)
    ∙ cond_yes (leb (from + (x - low)) limit) _ _ (le-leb (from + (x - low)) limit small)

-- ---- the variable integer of a length

pub length_missing : (s : List ℕ) (at stop : ℕ) → stop ≤ at → Err why.Short ≡ count_at key_length s at stop
unfolding count_at coded
length_missing s at stop h = sym (ap (λ (p : List ℕ). count_of at (coded unsigned p)) (part_none s at stop h))

pub length-one : (s : List ℕ) (at stop b : ℕ) → at < stop → stop ≤ length s → b ≡ get_or s at 0 → b < 248 → Ok (counts b (at + 1)) ≡ count_at key_length s at stop
unfolding count_at unmarked
length-one s at stop b l h e g =
    let rest : List ℕ = between s (at + 1) stop in
    let f : behind 256 0 b ≡ b - 0 = alone_distance 0 b (omega arith) (omega arith) in
    let t : has_byte unsigned.direct b ≡ true = lt-ltb (behind 256 0 b) 248 (omega arith) in
    let z : 0 + (b - 0) ≡ b = omega arith in
    let v : number_of unsigned.direct b ≡ b = ap (λ (o : ℕ). (0 + o) % wide_end) f ∙ ap (λ (o : ℕ). o % wide_end) z ∙ mod-eq_of_lt (omega (arith, bytes_whole)) in
    sym (ap (λ (p : List ℕ). count_of at (coded unsigned p)) (part-cons s at stop l h ∙ ap (λ (x : ℕ). x ∷ rest) (sym e))
    ∙ ap (count_of at) (none_before false (b ∷ rest) ∙ cond_yes (has_byte unsigned.direct b) _ _ t ∙ ap (λ (n : ℕ). is n 1) v)
    ∙ cond_yes (leb b limit) _ _ (le-leb b limit (omega arith)))

module _ (s : List ℕ) (at stop : ℕ) (bytes : (i : ℕ) → get_or s i 0 < 256) where
  abbrev here : List ℕ
  here = between s at stop

  -- what the reader got is what stands there
  record Stands (g : Got) : Type 0 where
    value : ℕ
    stands : coded unsigned here ≡ is value g.used
    same : value_of g.value ≡ value
    there : g.used ≤ length here

  stands_there : (g : Got) → Ok g ≡ read_of unsigned here → Stands g
  unfolding read_of
  stands_there got e = of (coded unsigned here) refl (sym e)
    where
      of : (c : Coded) → coded unsigned here ≡ c → read_as c ≡ Ok got → Stands got
      of (is n u) q g =
          let r : Reads unsigned here n u = reads unsigned (sound_variable false) here n u (part_bytes_lem s at stop bytes) q in
          let v : wide_of n ≡ got.value = ap read_value g in
          let p : u ≡ got.used = ap read_used g in
          let t : Takes 1 (length here) (is n u) = subst (Takes 1 (length here)) q (coded_takes unsigned here) in
          record { value = n; stands = q ∙ ap (is n) p; same = ap value_of (sym v) ∙ value_wide n r.small; there = omega (arith, t.1) }
      of short q g = absurd (let z : ◌≡◌ {A = ℕ} 0 1 = cc in omega arith)
      of other q g = absurd (let z : ◌≡◌ {A = ℕ} 0 1 = cc in omega arith)

  pub got_there : (got : Got) → Ok got ≡ read_of unsigned here → at ≤ stop → stop ≤ length s → at + got.used ≤ stop
  got_there got e l h = omega (arith, (stands_there got e).there, part_length s at stop l h)

  pub got_is : (got : Got) (v : ℕ) (t : Bool) → Ok got ≡ read_of unsigned here → t ≡ leb (value_of got.value) limit → t ≡ true → v ≡ got.value.w0
      → Ok (counts v (at + got.used)) ≡ count_at key_length s at stop
  unfolding count_at
  got_is got v t e a b c =
      let w : Wide = got.value in
      let g : Stands got = stands_there got e in
      let l : value_of w ≤ limit = leb-true (value_of w) limit (sym a ∙ b) in
      let m : v ≡ g.value = c ∙ low_of w.w0 w.w1 w.w2 w.w3 l ∙ g.same in
      let small : g.value ≤ limit = omega (arith, g.same) in
      ap (λ (x : ℕ). Ok (counts x (at + got.used))) m
      ∙ sym (ap (count_of at) g.stands ∙ cond_yes (leb g.value limit) _ _ (le-leb g.value limit small))
    where
      low_of : (a b c d : ℕ) → a + 2 ^ 32 * (b + 2 ^ 32 * (c + 2 ^ 32 * d)) ≤ limit → a ≡ a + 2 ^ 32 * (b + 2 ^ 32 * (c + 2 ^ 32 * d))
      low_of a b c d h = omega arith

  pub got_huge : (got : Got) (t : Bool) → Ok got ≡ read_of unsigned here → t ≡ leb (value_of got.value) limit → t ≡ false
      → Err why.Huge ≡ count_at key_length s at stop
  unfolding count_at
  got_huge got t e a b =
      let g : Stands got = stands_there got e in
      let l : limit < value_of got.value = leb-false (value_of got.value) limit (sym a ∙ b) in
      let big : limit < g.value = omega (arith, g.same) in
      sym (ap (count_of at) g.stands ∙ cond_no (leb g.value limit) _ _ (lt-leb g.value limit big))

  pub got_short : (e : Short) → Err e ≡ read_of unsigned here → Err why.Short ≡ count_at key_length s at stop
  unfolding count_at read_of
  got_short refused e = of (coded unsigned here) refl (sym e)
    where
      of : (c : Coded) → coded unsigned here ≡ c → read_as c ≡ Err refused → Err why.Short ≡ count_of at (coded unsigned here)
      of (is n u) q g = absurd (let z : ◌≡◌ {A = ℕ} 0 1 = cc in omega arith)
      of short q g = sym (ap (count_of at) q)
      of other q g = absurd (every_byte false here (part_bytes_lem s at stop bytes) q)

-- what stands there ends within the stop
pub length_within : (s : List ℕ) (at stop : ℕ) (r : Result Count Refusal) → r ≡ count_at key_length s at stop → IfOk r (λ c. c.next ≤ stop)
length_within s at stop r e = subst (λ (x : Result Count Refusal). IfOk x (λ c. c.next ≤ stop)) (sym e) (go (count_at key_length s at stop) (counted key_length s at stop))
  where
    go : (x : Result Count Refusal) → Counted at stop x → IfOk x (λ c. c.next ≤ stop)
    go (Ok c) k = k.within
    go (Err e) k = tt
