-- What rows spell: the first of them apart from the rest, runs of rows one behind the other, and how long it can be. Assumes nothing.
use mathlib.Core.Path.{◌≡◌, sym, ap, ap₂, ◌∙◌, subst}
use mathlib.Core.List.{List, [], ◌++◌, append_assoc}
use Prim.Native.Nat.{ℕ, ◌+◌, ◌-◌, ◌*◌, ◌^◌, ◌≤◌, ◌<◌}
use native.Mathlib.Omega.{arith}
use lib.ListN.{length, get_or, length-append}
use Rattle.wide.specs.Words.{wide_end, words}
use Rattle.wide.proofs.Numbers.{either}
use Rattle.wide.proofs.Wides.{Words}
use Rattle.rows.specs.declared.row.Row.{Row}
use Rattle.rows.specs.Table.{row_at, limit}
use Rattle.plan.proofs.Forms.{double_whole}
use Rattle.spell.specs.Inner.{Inside, own_bytes, own_size}
use Rattle.spell.proofs.Shorts.{own-long, own-few}
use Rattle.writer.specs.Inner.{Spells, none, next}

-- the first row apart: its own bytes, its children's, and those behind its end
pub record First (table s : List ℕ) (row stop : ℕ) (bytes : List ℕ) : Type 0 where
  pub body : List ℕ
  pub rest : List ℕ
  pub up : row < (row_at table row).end
  pub low : (row_at table row).end ≤ stop
  pub inside : Inside s (row_at table row)
  pub children : Spells table s (row + 1) (row_at table row).end body
  pub behind : Spells table s (row_at table row).end stop rest
  pub all : bytes ≡ own_bytes s (row_at table row) (length body) ++ (body ++ rest)

module _ (table s : List ℕ) where
  pub first : (row stop : ℕ) (bytes : List ℕ) → row < stop → Spells table s row stop bytes → First table s row stop bytes
  first row stop bytes h (none _ _ _ e _) = absurd (omega arith)
  first row stop bytes h (next _ _ _ body rest up low inside children behind all) =
      record { body = body; rest = rest; up = up; low = low; inside = inside; children = children; behind = behind; all = all }

  pub forward : (row stop : ℕ) (bytes : List ℕ) → Spells table s row stop bytes → row ≤ stop
  forward row stop bytes (none _ _ _ e _) = omega arith
  forward row stop bytes (next _ _ _ _ _ up low _ _ _ _) = omega arith

  -- the payload of every row of them lies in the data
  pub inside_at : (row stop : ℕ) (bytes : List ℕ) → Spells table s row stop bytes → (i : ℕ) → row ≤ i → i < stop → Inside s (row_at table i)
  inside_at row stop bytes (none _ _ _ e _) i l u = absurd (omega arith)
  inside_at row stop bytes (next _ _ _ body rest up low inside children behind _) i l u =
      either (row_at table row).end i (λ k. inside_at (row_at table row).end stop rest behind i k u)
      (λ k. either (row + 1) i (λ j. inside_at (row + 1) (row_at table row).end body children i j k)
      (λ j. let q : row ≡ i = omega arith in subst (λ (x : ℕ). Inside s (row_at table x)) q inside))

  -- no rows spell nothing
  pub ended : (row stop : ℕ) (bytes : List ℕ) → stop ≤ row → Spells table s row stop bytes → bytes ≡ []
  ended row stop bytes h (none _ _ _ _ e) = e
  ended row stop bytes h (next _ _ _ _ _ up low _ _ _ _) = absurd (omega arith)

  -- rows and the rows behind them are one run
  pub spells-append : (row mid stop : ℕ) (xs ys : List ℕ) → mid ≤ stop → Spells table s row mid xs → Spells table s mid stop ys → Spells table s row stop (xs ++ ys)
  spells-append row mid stop xs ys m (none _ _ _ e f) h =
      subst (λ (i : ℕ). Spells table s i stop (xs ++ ys)) (sym e) (subst (λ (l : List ℕ). Spells table s mid stop (l ++ ys)) (sym f) h)
  spells-append row mid stop xs ys m (next _ _ _ body rest up low inside children behind all) h =
      let own : List ℕ = own_bytes s (row_at table row) (length body) in
      next row stop (xs ++ ys) body (rest ++ ys) up (omega arith) inside children (spells-append (row_at table row).end mid stop rest ys m behind h)
      (ap (λ (l : List ℕ). l ++ ys) all ∙ append_assoc own (body ++ rest) ys ∙ ap (λ (l : List ℕ). own ++ l) (append_assoc body rest ys))

  -- the first row's own bytes off
  pub after_first : (row stop : ℕ) (bytes : List ℕ) (f : First table s row stop bytes) → Spells table s (row + 1) stop (f.body ++ f.rest)
  after_first row stop bytes f = spells-append (row + 1) (row_at table row).end stop f.body f.rest f.low f.children f.behind

  pub first-long : (row stop : ℕ) (bytes : List ℕ) (f : First table s row stop bytes) → length bytes ≡ own_size (row_at table row) (length f.body) + (length f.body + length f.rest)
  first-long row stop bytes f =
      let own : List ℕ = own_bytes s (row_at table row) (length f.body) in
      ap length f.all ∙ length-append own (f.body ++ f.rest) ∙ ap₂ (λ (a b : ℕ). a + b) (own-long s (row_at table row) (length f.body) f.inside) (length-append f.body f.rest)

-- the words of a table of 32-bit numbers
pub words_fit : (table : List ℕ) → ((i : ℕ) → get_or table i 0 < 2 ^ 32) → (row : ℕ) → Words (words (row_at table row).w0 (row_at table row).w1 (row_at table row).w2 (row_at table row).w3)
unfolding row_at
words_fit table f row = record { f0 = f _; f1 = f _; f2 = f _; f3 = f _ }

-- over data within the limit a row spells less than 2 ^ 25 bytes of its own
module _ (table s : List ℕ) (fit : (i : ℕ) → get_or table i 0 < 2 ^ 32) (short : length s ≤ limit) where
  short-all : (row stop mid b own rest : ℕ) → row < mid → mid ≤ stop → own ≤ 19 + limit → b ≤ (mid - (row + 1)) * 2 ^ 25 → rest ≤ (stop - mid) * 2 ^ 25 → own + (b + rest) ≤ (stop - row) * 2 ^ 25
  short-all row stop mid b own rest u l o p q = omega arith

  few-whole : (mid row b : ℕ) → mid ≤ limit → b ≤ (mid - (row + 1)) * 2 ^ 25 → b < wide_end
  few-whole mid row b l h = omega (arith, double_whole)

  pub spelled-few : (row stop : ℕ) (bytes : List ℕ) → stop ≤ limit → Spells table s row stop bytes → length bytes ≤ (stop - row) * 2 ^ 25
  spelled-few row stop bytes few (none _ _ _ _ e) = omega (arith, ap length e)
  spelled-few row stop bytes few (next _ _ _ body rest up low inside children behind all) =
      let w : Row = row_at table row in
      let b : length body ≤ (w.end - (row + 1)) * 2 ^ 25 = spelled-few (row + 1) w.end body (omega arith) children in
      let r : length rest ≤ (stop - w.end) * 2 ^ 25 = spelled-few w.end stop rest few behind in
      let f : First table s row stop bytes = record { body = body; rest = rest; up = up; low = low; inside = inside; children = children; behind = behind; all = all } in
      let o : own_size w (length body) ≤ 19 + limit = omega (arith, own-few s w (length body) inside (words_fit table fit row) (few-whole w.end row (length body) (omega arith) b), short) in
      subst (λ (n : ℕ). n ≤ (stop - row) * 2 ^ 25) (sym (first-long table s row stop bytes f)) (short-all row stop w.end (length body) (own_size w (length body)) (length rest) up low o b r)
