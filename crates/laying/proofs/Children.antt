-- Positions in a row: the first and those behind it, the registry that grows where they are entries, and a loop over them. Assumes nothing.
use mathlib.Core.Path.{◌≡◌, ◌∙◌, sym, ap, refl}
use mathlib.Core.Bool.{Bool, true, false}
use mathlib.Core.List.{List}
use Prim.Native.Nat.{ℕ, zero, suc, ◌+◌, ◌-◌, ◌*◌, ◌≤◌, ◌<◌}
use native.Mathlib.Nat.{add-zero}
use native.Mathlib.Omega.{arith}
use lib.ListN.{length}
use lib.Seq.{sets, length-sets}
use Rattle.rows.specs.Table.{words_per_row, lent, limit}
use Rattle.rows.proofs.Rows.{lent_sets}
use Rattle.format.specs.declared.head.Children.{Children}
use Rattle.format.specs.declared.head.Children.TheVariants.{Plain, Keyed, Entries}
use Rattle.format.specs.Tree.{Tree, Trees, many, size, sizes}
use Rattle.format.specs.Value.{Reading, right, wrong, Readings, Reader, in_force, child, follow, readings, value}
use Rattle.format.specs.Layout.{is_entry, layout, grown}
use Rattle.format.proofs.Layouts.{lay_more}
use Rattle.format.proofs.Values.{ReadAt, values_child}
use Rattle.measure.specs.Inner.{harmed, some_harmed, place_and_row, place_in, row_in}
use Rattle.registry.specs.Inner.{walk, chain, Below, first_in, Based}
use Rattle.registry.proofs.Walks.{chain_sets, below_sets, based_sets, based-plain}
use Rattle.laying.specs.Inner.{Right, tree_read, next_of, Ran, trees_read, nexts_of, Ready, Did, ReadyAll, DidAll}
use Rattle.laying.proofs.Growth.{laid, chain_more, linked-more, below_more}
use Rattle.laying.proofs.Steps.{neither, place-in, row-in}
use Rattle.laying.proofs.Views.{follow_view}

-- ---- the registry behind a tree that is laid: one more where the trees are entries

record Stepped (c : Children) (table : List ℕ) (first k i row : ℕ) (t : Tree) (registry : List ℕ) : Type 0 where
  pub force : chain (laid table row t registry) first (in_force c k (i + 1)) ≡ grown (is_entry c) (chain table first (in_force c k i)) row
  pub below : Below (laid table row t registry) first (in_force c k (i + 1)) (row + size t)
  pub linked : (is_entry c ≡ true → walk (laid table row t registry) first (in_force c k (i + 1)) ≡ row + size t)

unmoved : (table : List ℕ) (first k i row : ℕ) (t : Tree) (registry : List ℕ) → Below table first k row → Stepped Plain table first k i row t registry
unmoved table first k i row t registry below =
    record {
      force = chain_sets table row (layout t row registry) first k below k (omega arith);
      below = below_sets table row (layout t row registry) first k below (row + size t) (omega arith);
      linked = λ e. cc;
    }

stepped : (c : Children) (table : List ℕ) (first k i row : ℕ) (t : Tree) (registry : List ℕ) → row + size t ≤ lent table
    → Below table first (in_force c k i) row → (is_entry c ≡ true → walk table first (in_force c k i) ≡ row) → Stepped c table first k i row t registry
stepped Plain table first k i row t registry room below linked = unmoved table first k i row t registry below
stepped Keyed table first k i row t registry room below linked =
    let p = unmoved table first k i row t registry below in
    record { force = p.force; below = p.below; linked = p.linked }
stepped Entries table first k i row t registry room below linked =
    record {
      force = chain_more table first i row t registry below (linked refl);
      below = below_more table first i row t registry below (linked refl);
      linked = λ e. linked-more table first i row t registry below (linked refl) room;
    }

-- what is laid behind the entries leaves their base, and where it is one more entry they are walked over
based-next : (c : Children) (table : List ℕ) (row : ℕ) (words : List ℕ) (base k i : ℕ) → (is_entry c ≡ true → base < 4294967296) → Below table (first_in base) (in_force c k i) row
    → Based table base (in_force c k i) → Based (sets table (words_per_row * row) words) base (in_force c k (i + 1))
based-next Plain table row words base k i w below b = based_sets table row words base k below b
based-next Keyed table row words base k i w below b = based_sets table row words base k below b
based-next Entries table row words base k i w below b = based-plain (sets table (words_per_row * row) words) base (i + 1) (w refl)

-- ---- the first position, and those behind it

module _ (P : Reading) (F : ℕ → Readings) (c : Children) (doubt : Bool) (table : List ℕ) (row base k i : ℕ) (r : ReadyAll (follow P F) c doubt table row base k i) where
  all-rows : sizes (trees_read (follow P F)) ≡ size (tree_read P) + sizes (trees_read (F (next_of P)))
  unfolding size
  all-rows = ap sizes (follow_view P F r.good).are

  all-sure : doubt ≡ false → (harmed (tree_read P) ≡ false) × (some_harmed (trees_read (F (next_of P))) ≡ false)
  unfolding harmed
  all-sure e = neither _ _ (sym (ap some_harmed (follow_view P F r.good).are) ∙ r.sure e)

  all_first : Ready P doubt table row base (in_force c k i)
  all_first =
      let z = all-rows in
      record {
        good = (follow_view P F r.good).good;
        room = omega (arith, r.room);
        small = omega (arith, r.small);
        below = r.below;
        based = r.based;
        sure = λ e. (all-sure e).0;
      }

  step : Stepped c table (first_in base) k i row (tree_read P) (chain table (first_in base) (in_force c k i))
  step = stepped c table (first_in base) k i row (tree_read P) (chain table (first_in base) (in_force c k i)) all_first.room r.below r.linked

  module _ (table' : List ℕ) (f : ℕ) (d : Did P table row (first_in base) (in_force c k i) table' f) where
    all-next : ReadyAll (F (place_in f)) c doubt table' (row_in f) base k (i + 1)
    all-next =
        let z = all-rows in
        rw (d.words, d.place, d.past) (record {
          good = (follow_view P F r.good).rest;
          room = omega (arith, r.room, lent_sets table (words_per_row * row) (layout (tree_read P) row (chain table (first_in base) (in_force c k i))));
          small = omega (arith, r.small);
          below = step.below;
          based = based-next c table row (layout (tree_read P) row (chain table (first_in base) (in_force c k i))) base k i r.walked r.below r.based;
          sure = λ e. (all-sure e).1;
          walked = r.walked;
          linked = step.linked;
        })

    all-did : (table'' : List ℕ) (g : ℕ) → DidAll (F (place_in f)) c table' (row_in f) (first_in base) k (i + 1) table'' g → DidAll (follow P F) c table row (first_in base) k i table'' g
    all-did table'' g e =
        let v = follow_view P F r.good in
        let ts : Trees = trees_read (F (next_of P)) in
        let last : sizes (trees_read (F (place_in f))) ≡ sizes ts = ap (λ (a : ℕ). sizes (trees_read (F a))) d.place in
        let z = all-rows in
        record {
          words = cc (e.words, d.words, d.place, d.past, step.force, lay_more table (tree_read P) ts (is_entry c) row (chain table (first_in base) (in_force c k i)), v.are);
          place = cc (e.place, d.place, v.ends);
          past = omega (arith, e.past, d.past);
        }

-- n positions that are right are n trees
pub run-many : (R : Reader) (c : Children) (s : List ℕ) (k i n at stop : ℕ) → Ran (readings R c s k i n at stop) → many (trees_read (readings R c s k i n at stop)) ≡ n
unfolding readings trees_read many
run-many R c s k i zero at stop h = refl
run-many R c s k i (suc n) at stop h =
    let v = follow_view (child c R s k i at stop) (λ a. readings R c s k (i + 1) n a stop) h in
    ap many v.are ∙ ap suc (run-many R c s k (i + 1) n (next_of (child c R s k i at stop)) stop v.rest)

-- a right reading ends before the stop
pub reading_within : (at stop : ℕ) (P : Reading) → ReadAt at stop P → Right P → next_of P ≤ stop
unfolding Right next_of
reading_within at stop (right t next) a g = a.within
reading_within at stop (wrong e p) a g = absurd g

-- ---- a loop over n of them

-- number i is next, at the place `at` and the row `row`; who lays those that are left has laid all
pub record Laying (d : ℕ) (c : Children) (s : List ℕ) (k stop base : ℕ) (doubt : Bool) (n at₀ row₀ : ℕ) (table₀ : List ℕ) (i at row : ℕ) (table : List ℕ) : Type 0 where
  pub some : i ≤ n
  pub ready : ReadyAll (readings (value d s) c s k i (n - i) at stop) c doubt table row base k i
  pub within : at ≤ stop
  pub rest : (table' : List ℕ) (f : ℕ) → DidAll (readings (value d s) c s k i (n - i) at stop) c table row (first_in base) k i table' f
      → DidAll (readings (value d s) c s k 0 n at₀ stop) c table₀ row₀ (first_in base) k 0 table' f
  pub kept : length table ≡ length table₀

-- where one is left, it and those behind it
left-run : (R : Reader) (c : Children) (s : List ℕ) (k i n at stop : ℕ) → i < n
    → readings R c s k i (n - i) at stop ≡ follow (child c R s k i at stop) (λ a. readings R c s k (i + 1) (n - (i + 1)) a stop)
unfolding readings
left-run R c s k i n at stop h = let e : n - i ≡ suc (n - (i + 1)) = omega arith in rw e

module _ (d : ℕ) (c : Children) (s : List ℕ) (k stop base : ℕ) (doubt : Bool) (n at₀ row₀ : ℕ) (table₀ : List ℕ) where
  pub laying_start : ReadyAll (readings (value d s) c s k 0 n at₀ stop) c doubt table₀ row₀ base k 0 → at₀ ≤ stop → Laying d c s k stop base doubt n at₀ row₀ table₀ 0 at₀ row₀ table₀
  laying_start r h =
      let e : n - 0 ≡ n = omega arith in
      record { some = omega arith; ready = rw e r; within = h; rest = rw e (λ t f d. d); kept = refl }

  module _ (i at row : ℕ) (table : List ℕ) (l : Laying d c s k stop base doubt n at₀ row₀ table₀ i at row table) where
    pub laying_place : (z : ℕ) → stop ≤ z → z ≤ limit → at ≤ limit
    laying_place z a b = omega (arith, l.within)

    pub laying_row : row ≤ limit
    laying_row = omega (arith, l.ready.small)

    pub laying_end : n ≤ i → (z : ℕ) → stop ≤ z → z ≤ limit → (r : ℕ) → r ≡ place_and_row at row → DidAll (readings (value d s) c s k 0 n at₀ stop) c table₀ row₀ (first_in base) k 0 table r
    unfolding readings layout size trees_read nexts_of
    laying_end h z a b r q =
        let e : n - i ≡ 0 = omega (arith, l.some) in
        let p = place-in at row r (omega (arith, l.within)) q in
        let w = row-in at row r (omega (arith, l.within)) laying_row q in
        l.rest table r (rw e (record { words = refl; place = p; past = w ∙ sym (add-zero row) }))

    module _ (h : i < n) where
      abbrev P : Reading
      P = child c (value d s) s k i at stop

      abbrev F : ℕ → Readings
      F a = readings (value d s) c s k (i + 1) (n - (i + 1)) a stop

      left : ReadyAll (follow P F) c doubt table row base k i
      left = rw (left-run (value d s) c s k i n at stop h) at l.ready

      pub laying_ready : Ready (child c (value d s) s k i at stop) doubt table row base (in_force c k i)
      laying_ready = all_first P F c doubt table row base k i left

      pub laying_next : (table' : List ℕ) (g : ℕ) → Did (child c (value d s) s k i at stop) table row (first_in base) (in_force c k i) table' g
          → (at' row' : ℕ) → at' ≡ place_in g → row' ≡ row_in g → Laying d c s k stop base doubt n at₀ row₀ table₀ (i + 1) at' row' table'
      laying_next table' g did at' row' ea er =
          let within = reading_within at stop P (values_child d c s k i at stop) laying_ready.good in
          rw (ea, er) (record {
            some = omega arith;
            ready = all-next P F c doubt table row base k i left table' g did;
            within = omega (arith, did.place);
            rest = λ u x y. l.rest u x (rw (left-run (value d s) c s k i n at stop h) (all-did P F c doubt table row base k i left table' g did u x y));
            kept = (ap length did.words ∙ simp length-sets) ∙ l.kept;
          })
