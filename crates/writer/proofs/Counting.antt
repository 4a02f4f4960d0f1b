-- Counting the bytes of rows: a row with its children, and, child after child, what is counted and what is left make the whole. Assumes nothing.
use mathlib.Core.Path.{◌≡◌, refl, sym, ap, ap₂, ◌∙◌, subst}
use mathlib.Core.List.{List, [], ◌++◌}
use Prim.Native.Nat.{ℕ, ◌+◌, ◌-◌, ◌*◌, ◌^◌, ◌≤◌, ◌<◌}
use native.Mathlib.Omega.{arith}
use lib.ListN.{length, get_or}
use Rattle.rows.specs.declared.row.Row.{Row}
use Rattle.rows.specs.Table.{row_at, lent, limit}
use Rattle.spell.specs.Inner.{own_bytes, own_size}
use Rattle.writer.specs.Inner.{Spells, none, next, Spelt, Long}
use Rattle.writer.proofs.Spelling.{First, first, ended, first-long, spelled-few}

-- what is counted is no more than all
bounded : (table : List ℕ) (row stop : ℕ) (p : Spelt table row stop) → ((i : ℕ) → get_or table i 0 < 2 ^ 32) → (a x : ℕ) → a + x ≡ length p.bytes → a < 2 ^ 64
bounded table row stop p fit a x g =
    few a x (length p.bytes) stop row g (spelled-few table p.over fit p.short row stop p.bytes p.few p.spells) p.few
  where
    few : (a x y st rw : ℕ) → a + x ≡ y → y ≤ (st - rw) * 2 ^ 25 → st ≤ limit → a < 2 ^ 64
    few a x y st rw g h i = omega arith

-- ---- a row and its children

module _ (table : List ℕ) (row : ℕ) (p : Spelt table row (row_at table row).end) (up : row < (row_at table row).end) where
  pub row_held : row < lent table
  row_held = omega (arith, p.rows-lent)

  pub row-few : row < limit
  row-few = omega (arith, p.few)

  module _ (w : Row) (e : w ≡ row_at table row) (end : ℕ) (q : end ≡ w.end) where
    pub end_is : end ≡ (row_at table row).end
    end_is = q ∙ ap (λ (x : Row). x.end) e

    pub child-spelt : Spelt table (row + 1) end
    child-spelt =
        let f : First table p.over row (row_at table row).end p.bytes = first table p.over row (row_at table row).end p.bytes up p.spells in
        record {
          rows-lent = omega (arith, end_is, p.rows-lent);
          few = omega (arith, end_is, p.few);
          over = p.over;
          short = p.short;
          bytes = f.body;
          spells = subst (λ (i : ℕ). Spells table p.over (row + 1) i f.body) (sym end_is) f.children;
        }

    module _ (b : ℕ) (l : Long table (row + 1) end b) (r : ℕ) (k : r ≡ own_size w b) where
      row_count : (s bytes : List ℕ) → Spells table s row (row_at table row).end bytes → r + b ≡ length bytes
      row_count s bytes h =
          let f : First table s row (row_at table row).end bytes = first table s row (row_at table row).end bytes up h in
          let m : b ≡ length f.body = l.long s f.body (subst (λ (i : ℕ). Spells table s (row + 1) i f.body) (sym end_is) f.children) in
          let o : r ≡ own_size (row_at table row) (length f.body) = k ∙ ap₂ own_size e m in
          let z : f.rest ≡ [] = ended table s (row_at table row).end (row_at table row).end f.rest (omega arith) f.behind in
          omega (arith, first-long table s row (row_at table row).end bytes f, m, o, ap length z)

      pub row-long : Long table row (row_at table row).end (r + b)
      row-long = record { long = row_count }

      pub row-short : ((i : ℕ) → get_or table i 0 < 2 ^ 32) → r + b < 2 ^ 64
      row-short fit = bounded table row (row_at table row).end p fit (r + b) 0 (let g = row_count p.over p.bytes p.spells in omega (arith, g))

    -- a row that ends behind itself has no child
    pub leaf-long : row + 1 ≡ end → (r : ℕ) → r ≡ own_size w 0 → Long table row (row_at table row).end r
    leaf-long t r k =
        let none : Long table (row + 1) end 0 = record { long = λ s bytes h. let z : bytes ≡ [] = ended table s (row + 1) end bytes (omega (arith, t)) h in omega (arith, ap length z) } in
        record { long = λ s bytes h. let g = row_count 0 none r k s bytes h in omega (arith, g) }

-- ---- child after child

-- what the rows from `here` on spell, where those from `row` on spell `bytes`, makes up what is missing from `sum`
pub record Rest (table s : List ℕ) (here stop sum : ℕ) (bytes : List ℕ) : Type 0 where
  pub rest : List ℕ
  pub spells : Spells table s here stop rest
  pub count : sum + length rest ≡ length bytes

-- between two turns of the loop
pub record Counted (table : List ℕ) (row stop here sum : ℕ) : Type 0 where
  pub from : row ≤ here
  pub left : (s bytes : List ℕ) → Spells table s row stop bytes → Rest table s here stop sum bytes

pub counted_start : (table : List ℕ) (row stop : ℕ) → Counted table row stop row 0
counted_start table row stop = record { from = omega arith; left = λ s bytes h. record { rest = bytes; spells = h; count = omega arith } }

-- the first row and its children, the rows behind its end aside
module _ (table s : List ℕ) (row stop : ℕ) (bytes : List ℕ) (f : First table s row stop bytes) where
  abbrev alone : List ℕ
  alone = own_bytes s (row_at table row) (length f.body) ++ (f.body ++ [])

  nothing : Spells table s (row_at table row).end (row_at table row).end []
  nothing = none (row_at table row).end (row_at table row).end [] refl refl

  alone-spells : Spells table s row (row_at table row).end alone
  alone-spells = next row (row_at table row).end alone f.body [] f.up (omega arith) f.inside f.children nothing refl

  alone-long : length alone + length f.rest ≡ length bytes
  alone-long =
      let g : First table s row (row_at table row).end alone = record { body = f.body; rest = []; up = f.up; low = omega arith; inside = f.inside; children = f.children; behind = nothing; all = refl } in
      omega (arith, first-long table s row stop bytes f, first-long table s row (row_at table row).end alone g)

module _ (table : List ℕ) (row stop : ℕ) (p : Spelt table row stop) (here sum : ℕ) (c : Counted table row stop here sum) (below : here < stop) where
  -- the row here, over the data that the caller knows of
  rest : Rest table p.over here stop sum p.bytes
  rest = c.left p.over p.bytes p.spells

  opened : First table p.over here stop rest.rest
  opened = first table p.over here stop rest.rest below rest.spells

  pub here_held : here < lent table
  here_held = omega (arith, p.rows-lent)

  pub here_up : here < (row_at table here).end
  here_up = opened.up

  pub here-low : (row_at table here).end ≤ stop
  here-low = opened.low

  pub here-spelt : Spelt table here (row_at table here).end
  here-spelt =
      record {
        rows-lent = omega (arith, here-low, p.rows-lent);
        few = omega (arith, here-low, p.few);
        over = p.over;
        short = p.short;
        bytes = alone table p.over here stop rest.rest opened;
        spells = alone-spells table p.over here stop rest.rest opened;
      }

  module _ (r : ℕ) (l : Long table here (row_at table here).end r) where
    turn_count : (s bytes : List ℕ) → (z : Rest table s here stop sum bytes) → (f : First table s here stop z.rest) → sum + r + length f.rest ≡ length bytes
    turn_count s bytes z f =
        let m : r ≡ length (alone table s here stop z.rest f) = l.long s (alone table s here stop z.rest f) (alone-spells table s here stop z.rest f) in
        omega (arith, m, alone-long table s here stop z.rest f, z.count)

    pub counted_turn : (end : ℕ) → end ≡ (row_at table here).end → Counted table row stop end (sum + r)
    counted_turn end e =
        record {
          from = omega (arith, c.from, here_up, e);
          left =
              λ s bytes h.
              let z : Rest table s here stop sum bytes = c.left s bytes h in
              let f : First table s here stop z.rest = first table s here stop z.rest below z.spells in
              record { rest = f.rest; spells = subst (λ (i : ℕ). Spells table s i stop f.rest) (sym e) f.behind; count = turn_count s bytes z f };
        }

    pub counted_short : ((i : ℕ) → get_or table i 0 < 2 ^ 32) → sum + r < 2 ^ 64
    counted_short fit = bounded table row stop p fit (sum + r) (length opened.rest) (turn_count p.over p.bytes rest opened)

pub counted_end : (table : List ℕ) (row stop here sum : ℕ) → stop ≤ here → Counted table row stop here sum → Long table row stop sum
counted_end table row stop here sum l c =
    record {
      long =
          λ s bytes h.
          let z : Rest table s here stop sum bytes = c.left s bytes h in
          omega (arith, z.count, ap length (ended table s here stop z.rest l z.spells));
    }
