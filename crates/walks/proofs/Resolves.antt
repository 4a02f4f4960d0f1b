-- Resolving from any row of a table that passed the check ends, in fewer moves than rows, at a row that is neither a reference nor a
-- declaration. The weight of a spot, its rows and those of the entries in force, falls with each move. Assumes nothing.
use mathlib.Core.Path.{◌≡◌, refl, sym, ap, ◌∙◌, subst}
use Prim.Native.Nat.{ℕ, zero, suc, ◌+◌, ◌-◌, ◌≤◌, ◌<◌}
use native.Mathlib.Omega.{arith}
use native.Mathlib.Nat.{add-zero}
use native.Mathlib.Decide.{dec_lt}
use mathlib.Core.List.{List}
use lib.ListN.{length, get_or}
use borrow.Author.Tests.{lt-ltb, le-leb, eq-eqb, ne_eqb}
use Rattle.std.specs.Prelude.{Some, None, Result, Ok}
use Rattle.rows.specs.declared.bad_table.BadTable.{BadTable}
use Rattle.rows.specs.declared.row.Row.{Row}
use Rattle.rows.specs.Table.{row_at, lent}
use Rattle.rows.specs.Kinds.{kind_reference, kind_declaration}
use Rattle.format.specs.Tree.{Tree, leaf, refer, hold, declare, foreign, damaged, Trees, none, more, many, size, sizes}
use Rattle.format.specs.Value.{in_foreign}
use Rattle.format.proofs.Layouts.{size_pos, own_at, top_row}
use Rattle.rules.specs.Obeys.{Obeys, Stands}
use Rattle.resolve.specs.declared.resolved.Resolved.{Resolved}
use Rattle.resolve.specs.Resolve.{value_row, Move, to_row, move_from, move_at, chased, ended_at, chase, resolve}
use Rattle.walks.specs.Spots.{Spot, spot, Spots, nil, cons, spot_row, spot_rows, added, front, for_body, siblings, declared, children}
use Rattle.walks.proofs.Good.{Before, Good, Goods, value_fine, children-good}
use Rattle.walks.proofs.Neither.{Neither, kind-is}
use Rattle.walks.proofs.Walked.{refer_known, good-own, stood_row, root_good}

-- ---- weights

abbrev rows_in : Spot → ℕ
rows_in (spot t row force) = size t

abbrev total : Spots → ℕ
total nil = 0
total (cons x xs) = rows_in x + total xs

abbrev weight : Spot → ℕ
weight (spot t row force) = size t + total force

-- each entry in force weighs no more than it and those before it have rows: `m` of them stand before these
unfoldable mutual
  Snug : Spot → Type 0
  Snug (spot t row force) = Snugs 0 force

  Snugs : ℕ → Spots → Type 0
  Snugs m nil = Unit {0}
  Snugs m (cons x xs) = (weight x ≤ m + rows_in x) × Snug x × Snugs (m + rows_in x) xs

-- none of these weighs more than m
unfoldable Light : ℕ → Spots → Type 0
Light m nil = Unit {0}
Light m (cons x xs) = (weight x ≤ m) × Snug x × Light m xs

total_behind : (xs : Spots) (x : Spot) → total (added xs x) ≡ total xs + rows_in x
unfolding added
total_behind nil x = omega arith
total_behind (cons y ys) x = omega (arith, total_behind ys x)

total_front : (k : ℕ) (xs : Spots) → total (front k xs) ≤ total xs
unfolding front
total_front zero xs = omega arith
total_front (suc k) nil = omega arith
total_front (suc k) (cons x xs) = omega (arith, total_front k xs)

snugs_behind : (m : ℕ) (xs : Spots) (x : Spot) → Snugs m xs → weight x ≤ m + total xs + rows_in x → Snug x → Snugs m (added xs x)
unfolding added Snug
snugs_behind m nil x g w k = (omega arith, k, tt)
snugs_behind m (cons y ys) x g w k = (g.0, g.1, snugs_behind (m + rows_in y) ys x g.2 (omega arith) k)

snugs_front : (m k : ℕ) (xs : Spots) → Snugs m xs → Snugs m (front k xs)
unfolding front Snug
snugs_front m zero xs g = tt
snugs_front m (suc k) nil g = tt
snugs_front m (suc k) (cons x xs) g = (g.0, g.1, snugs_front (m + rows_in x) k xs g.2)

snugs_light : (m a : ℕ) (xs : Spots) → Snugs m xs → m + total xs ≤ a → Light a xs
unfolding Snug Light
snugs_light m a nil g h = tt
snugs_light m a (cons x xs) g h = (omega (arith, g.0), g.1, snugs_light (m + rows_in x) a xs g.2 (omega arith))

-- a holder's children
held_light : (ts : Trees) (row m : ℕ) (force : Spots) → Snugs 0 force → total force + sizes ts ≤ m → Light m (siblings ts row force)
unfolding siblings Snug Light size
held_light none row m force g h = tt
held_light (more t ts) row m force g h = (omega arith, g, held_light ts (row + size t) m force g (omega arith))

-- entries and the value behind them
declared_light : (es : Trees) (t : Tree) (row m : ℕ) (force : Spots) → Snugs 0 force → total force + (sizes es + size t) ≤ m → Light m (declared es t row force)
unfolding declared Snug Light size
declared_light none t row m force g h = (omega arith, g, tt)
declared_light (more e es) t row m force g h =
    let x : Spot = spot e row force in
    (omega arith, g, declared_light es t (row + size e) m (added force x) (snugs_behind 0 force x g (omega arith) g) (omega (arith, total_behind force x)))

-- ---- every row is some spot's

record Found (table : List ℕ) (n : ℕ) (s : List ℕ) (m row : ℕ) : Type 0 where
  pub there : Spot
  pub is : spot_row there ≡ row
  pub good : Good table n s there
  pub snug : Snug there
  pub light : weight there ≤ m

module _ (table : List ℕ) (n : ℕ) (s : List ℕ) (m r : ℕ) where
  -- the row itself, or one below
  pick : (x : Spot) → Good table n s x → Snug x → weight x ≤ m → spot_row x ≤ r → (spot_row x + 1 ≤ r → Found table n s m r) → Found table n s m r
  pick x g k l lo f = of (dec_lt (spot_row x) r)
    where
      of : Dec (spot_row x < r) → Found table n s m r
      of (yes h) = f (omega arith)
      of (no h) = record { there = x; is = omega arith; good = g; snug = k; light = l }

  either : (a : ℕ) → (r < a → Found table n s m r) → (a ≤ r → Found table n s m r) → Found table n s m r
  either a f h = of (dec_lt r a)
    where
      of : Dec (r < a) → Found table n s m r
      of (yes q) = f q
      of (no q) = h (omega arith)

  -- how a tree is searched
  abbrev Search : Tree → Type 0
  Search t = (row : ℕ) (force : Spots) → Good table n s (spot t row force) → Snug (spot t row force) → size t + total force ≤ m → row ≤ r → r < row + size t → Found table n s m r

  mutual
    unfolding children siblings declared Good Snug Light size

    find : (t : Tree) → Search t
    find (leaf o) row force g k l lo hi = pick (spot (leaf o) row force) g k l lo (λ h. absurd (omega arith))
    find (refer o) row force g k l lo hi = pick (spot (refer o) row force) g k l lo (λ h. absurd (omega arith))
    find (hold o ts) row force g k l lo hi =
        let x : Spot = spot (hold o ts) row force in
        pick x g k l lo (λ h. find_held ts (row + 1) force (children-good table n s x g) (held_light ts (row + 1) m force k (omega arith)) h (omega arith))
    find (declare o es t) row force g k l lo hi =
        let x : Spot = spot (declare o es t) row force in
        pick x g k l lo (λ h. find_declared es t (find t) (row + 1) nil (children-good table n s x g) (declared_light es t (row + 1) m nil tt (omega arith)) h (omega arith))
    find (foreign o t) row force g k l lo hi =
        let x : Spot = spot (foreign o t) row force in
        let i : ℕ = in_foreign (length (spot_rows force)) in
        pick x g k l lo (λ h. find t (row + 1) (for_body force) (children-good table n s x g).0 (snugs_front 0 i force k) (omega (arith, total_front i force)) h (omega arith))
    find (damaged o) row force g k l lo hi = pick (spot (damaged o) row force) g k l lo (λ h. absurd (omega arith))

    find_held : (ts : Trees) (row : ℕ) (force : Spots) → Goods table n s (siblings ts row force) → Light m (siblings ts row force) → row ≤ r → r < row + sizes ts → Found table n s m r
    find_held none row force g k lo hi = absurd (omega arith)
    find_held (more t ts) row force g k lo hi =
        either (row + size t) (λ h. find t row force g.0 k.1 k.0 lo h) (λ h. find_held ts (row + size t) force g.1 k.2 h (omega arith))

    find_declared : (es : Trees) (t : Tree) → Search t → (row : ℕ) (force : Spots) → Goods table n s (declared es t row force) → Light m (declared es t row force) → row ≤ r
        → r < row + (sizes es + size t) → Found table n s m r
    find_declared none t own row force g k lo hi = own row force g.0 k.1 k.0 lo (omega arith)
    find_declared (more e es) t own row force g k lo hi =
        either (row + size e) (λ h. find e row force g.0 k.1 k.0 lo h)
        (λ h. find_declared es t own (row + size e) (added force (spot e row force)) g.1 k.2 h (omega arith))

-- ---- one move

-- where resolving ended: `most` bounds the moves
pub record Ended (table : List ℕ) (n most : ℕ) (r : Result Resolved BadTable) : Type 0 where
  pub row : ℕ
  pub bound : ℕ
  pub moves : ℕ
  pub is : r ≡ Ok (ended_at row bound moves)
  pub few : moves < most
  pub below : row < n
  pub end : bound ≡ (row_at table row).end
  pub neither : Neither (row_at table row).kind

module _ (table : List ℕ) (n : ℕ) (s : List ℕ) where
  at_move : (row : ℕ) → row < n → (w : Row) → row_at table row ≡ w → move_at table n row ≡ move_from table n row w
  unfolding move_at
  at_move row h w e = rw (lt-ltb row n h, e)

  neither_stop : (row : ℕ) (w : Row) → Neither w.kind → move_from table n row w ≡ Ok None
  neither_stop row w k = rw (ne_eqb w.kind kind_reference k.no_reference, ne_eqb w.kind kind_declaration k.no_declaration)

  -- the value behind good entries
  value-right : (es : Trees) (t : Tree) (row end : ℕ) (force : Spots) → Goods table n s (declared es t row force) → row + (sizes es + size t) ≤ end
      → value_row table n end (many es) row ≡ Ok (row + sizes es)
  unfolding declared Good size many value_row
  value-right none t row end force g h =
      let o = good-own table n s (spot t row force) g.0 in
      rw (lt-ltb row n (omega (arith, o.1, o.2)), lt-ltb row end (omega (arith, size_pos t))) (ap (λ (r : ℕ). Ok r) (sym (add-zero row)))
  value-right (more e es) t row end force g h =
      let o = good-own table n s (spot e row force) g.0 in
      let q : row + size e + sizes es ≡ row + (size e + sizes es) = omega arith in
      rw (o.0, lt-ltb row n (omega (arith, o.1, o.2)), lt-ltb row (row + size e) (omega (arith, size_pos e)), le-leb (row + size e) end (omega arith))
      (value-right es t (row + size e) end (added force (spot e row force)) g.1 (omega arith) ∙ ap (λ (r : ℕ). Ok r) q)

  -- the last of them
  declared_last : (es : Trees) (t : Tree) (row m : ℕ) (force : Spots) → Goods table n s (declared es t row force) → Light m (declared es t row force) → Found table n s m (row + sizes es)
  unfolding declared Good Light size
  declared_last none t row m force g k = record { there = spot t row force; is = sym (add-zero row); good = g.0; snug = k.1; light = k.0 }
  declared_last (more e es) t row m force g k =
      let q : row + size e + sizes es ≡ row + (size e + sizes es) = omega arith in
      subst (Found table n s m) q (declared_last es t (row + size e) m (added force (spot e row force)) g.1 k.2)

  -- an entry in force
  entry_found : (number m row : ℕ) (xs : Spots) → number < length (spot_rows xs) → Goods table n s xs → Before row xs → Light m xs
      → Found table n s m (get_or (spot_rows xs) number 0) × (get_or (spot_rows xs) number 0 < row)
  unfolding Good Light Before
  entry_found number m row nil l g b k = absurd (omega arith)
  entry_found zero m row (cons x xs) l g b k =
      let o = good-own table n s x g.0 in
      (record { there = x; is = refl; good = g.0; snug = k.1; light = k.0 }, omega (arith, o.1, b.0))
  entry_found (suc number) m row (cons x xs) l g b k = entry_found number m row xs (omega arith) g.1 b.1 k.2

  -- a spot's move: none, or to a lighter spot
  data Moves (x : Spot) : Type 0 where
    stop : move_at table n (spot_row x) ≡ Ok None → Neither (row_at table (spot_row x)).kind → Moves x
    on : (row : ℕ) → move_at table n (spot_row x) ≡ Ok (Some row) → Found table n s (weight x - 1) row → Moves x

  rests : (t : Tree) (row : ℕ) (force : Spots) → Good table n s (spot t row force) → Neither (own_at t (spot_rows force)).kind → Moves (spot t row force)
  unfolding Good
  rests t row force g z =
      let a = good-own table n s (spot t row force) g in
      let w : Row = top_row t row (spot_rows force) in
      let e : row_at table row ≡ w = stood_row table n s t row (spot_rows force) g.0 in
      stop (at_move row (omega (arith, a.1, a.2)) w e ∙ neither_stop row w z) (subst (λ (r : Row). Neither r.kind) (sym e) z)

  moves : (x : Spot) → Good table n s x → Snug x → Moves x
  unfolding Good Snug size Obeys declared children
  moves (spot (leaf o) row force) g k = let R : List ℕ = spot_rows force in rests (leaf o) row force g (kind-is s (length R) R (leaf o) g.0.right)
  moves (spot (refer o) row force) g k =
      let a = good-own table n s (spot (refer o) row force) g in
      let R : List ℕ = spot_rows force in
      let e : ℕ = get_or R o.w0 0 in
      let f = entry_found o.w0 (total force) row force (refer_known s (length R) o g.0.right) g.2 g.1 (snugs_light 0 (total force) force k (omega arith)) in
      let q : total force ≡ 1 + total force - 1 = omega arith in
      on e
      (at_move row (omega (arith, a.1, a.2)) (top_row (refer o) row R) (stood_row table n s (refer o) row R g.0)
      ∙ rw (eq-eqb o.kind kind_reference (kind-is s (length R) R (refer o) g.0.right), lt-ltb e row f.1))
      (subst (λ (y : ℕ). Found table n s y e) q f.0)
  moves (spot (hold o ts) row force) g k = let R : List ℕ = spot_rows force in rests (hold o ts) row force g (kind-is s (length R) R (hold o ts) g.0.right)
  moves (spot (declare o es t) row force) g k =
      let x : Spot = spot (declare o es t) row force in
      let a = good-own table n s x g in
      let R : List ℕ = spot_rows force in
      let end : ℕ = row + (1 + (sizes es + size t)) in
      let m : ℕ = 1 + (sizes es + size t) + total force - 1 in
      let f = value_fine s (length R) (declare o es t) tt g.0.right in
      let is : o.kind ≡ kind_declaration = kind-is s (length R) R (declare o es t) g.0.right in
      let c = value-right es t (row + 1) end nil (children-good table n s x g) (omega arith) in
      on (row + 1 + sizes es)
      (at_move row (omega (arith, a.1, a.2)) (top_row (declare o es t) row R) (stood_row table n s (declare o es t) row R g.0)
      ∙ rw is (ap (λ (y : ℕ). to_row (value_row table n end y (row + 1))) (sym f.2) ∙ ap to_row c))
      (declared_last es t (row + 1) m nil (children-good table n s x g) (declared_light es t (row + 1) m nil tt (omega arith)))
  moves (spot (foreign o t) row force) g k = let R : List ℕ = spot_rows force in rests (foreign o t) row force g (kind-is s (length R) R (foreign o t) g.0.right)
  moves (spot (damaged o) row force) g k = let R : List ℕ = spot_rows force in rests (damaged o) row force g (kind-is s (length R) R (damaged o) g.0.right)

  weight_pos : (x : Spot) → 0 < weight x
  weight_pos (spot t row force) = omega (arith, size_pos t)

  one_more : (left : ℕ) (x : Spot) (done : ℕ) → Good table n s x → weight x ≤ suc left
      → ((y : Spot) → Good table n s y → Snug y → weight y ≤ left → Ended table n (done + 1 + weight y) (chase table n left (spot_row y) (done + 1)))
      → Moves x → Ended table n (done + weight x) (chase table n (suc left) (spot_row x) done)
  unfolding chase
  one_more left x done g l rest (stop e z) =
      let o = good-own table n s x g in
      record {
        row = spot_row x;
        bound = (row_at table (spot_row x)).end;
        moves = done;
        is = ap (λ (m : Move). chased m (ended_at (spot_row x) (row_at table (spot_row x)).end done) (λ next. chase table n left next (done + 1))) e;
        few = omega (arith, weight_pos x);
        below = omega (arith, o.1, o.2);
        end = refl;
        neither = z;
      }
  one_more left x done g l rest (on row e f) =
      let r = rest f.there f.good f.snug (omega (arith, f.light, weight_pos x)) in
      record {
        row = r.row;
        bound = r.bound;
        moves = r.moves;
        is =
            ap (λ (m : Move). chased m (ended_at (spot_row x) (row_at table (spot_row x)).end done) (λ next. chase table n left next (done + 1))) e
            ∙ ap (λ (y : ℕ). chase table n left y (done + 1)) (sym f.is) ∙ r.is;
        few = omega (arith, r.few, f.light, weight_pos x);
        below = r.below;
        end = r.end;
        neither = r.neither;
      }

  ended : (left : ℕ) (x : Spot) (done : ℕ) → Good table n s x → Snug x → weight x ≤ left → Ended table n (done + weight x) (chase table n left (spot_row x) done)
  ended zero x done g k l = absurd (omega (arith, weight_pos x))
  ended (suc left) x done g k l = one_more left x done g l (λ y h j m. ended left y (done + 1) h j m) (moves x g k)

-- ---- a table that passed the check

-- every row is a good spot's
pub row-good : (depth : ℕ) (table : List ℕ) (n : ℕ) (s : List ℕ) (t : Tree) → Stands depth table n s t → (row : ℕ) → row < n → (x : Spot) × (spot_row x ≡ row) × Good table n s x
unfolding Snug
row-good depth table n s t st row h =
    let f = find table n s n row t 0 nil (root_good depth table n s t st) tt (omega (arith, st.rows)) (omega arith) (omega (arith, st.rows)) in
    (f.there, f.is, f.good)

-- resolving from any row ends, in fewer moves than rows, at a row that is neither a reference nor a declaration
pub resolve-ends : (depth : ℕ) (table : List ℕ) (n : ℕ) (s : List ℕ) (t : Tree) → Stands depth table n s t → (row : ℕ) → row < n → Ended table n n (resolve table n row)
unfolding resolve Snug
resolve-ends depth table n s t st row h =
    let f = find table n s n row t 0 nil (root_good depth table n s t st) tt (omega (arith, st.rows)) (omega arith) (omega (arith, st.rows)) in
    let e = ended table n s n f.there 0 f.good f.snug f.light in
    record {
      row = e.row;
      bound = e.bound;
      moves = e.moves;
      is = rw (le-leb n (lent table) st.rows-lent) (ap (λ (x : ℕ). chase table n n x 0) (sym f.is) ∙ e.is);
      few = omega (arith, e.few, f.light);
      below = e.below;
      end = e.end;
      neither = e.neither;
    }
