-- The three demands, each theorem under its words. An auditor reads this file, and the definitions that it names; the promises of the public
-- functions (docs/PROMISES.md) say that the code does what these definitions say, on every input and to the end. Assumes nothing.
use Rattle.std.specs.Prelude.{Ok, Err}
use mathlib.Core.Path.{◌≡◌, refl, ap, ◌∙◌}
use mathlib.Core.Bool.{Bool, true, false, cond}
use mathlib.Core.Logic.{◌↔◌}
use mathlib.Core.List.{List, [], map}
use Prim.Native.Nat.{ℕ, ◌+◌, ◌^◌, ◌≤◌, ◌<◌}
use native.Mathlib.Omega.{arith}
use lib.ListN.{length, get_or, replicate}
use lib.Seq.{sets}
use lib.Dec.{leb}
use borrow.Author.Tests.{le-leb, lt-leb, leb-true, leb-false}
use Rattle.lists.specs.Zeroed.{zeroed}
use Rattle.lists.proofs.Zeros.{zeroed-all}
use Rattle.wide.proofs.Numbers.{Bytes}
use Rattle.std.specs.Prelude.{Result, Ok, Err}
use Rattle.rows.specs.Table.{row_at, lent, limit, own_of}
use Rattle.format.specs.declared.unfilled.Unfilled.TheVariants.{TooLong, Full}
use Rattle.format.specs.Tree.{Tree, size}
use Rattle.format.specs.Value.{Reading, right, wrong, document}
use Rattle.std.specs.Prelude.{Ok, Err}
use Rattle.format.specs.Layout.{layout}
use Rattle.format.specs.declared.unmeasured.Unmeasured.TheVariants as measuring
use Rattle.format.specs.Answer.{answer, answer_for, answer_number, answer_beside, filled, table_after, needed, needed_for, needed_number, needed_beside}
use Rattle.format.specs.Starred.{starred}
use Rattle.format.proofs.Values.{document-next, verdict_high}
use Rattle.rules.specs.Shape.{named}
use Rattle.rules.specs.Grow.{rules_hold}
use Rattle.rules.specs.Obeys.{Stands}
use Rattle.rules.proofs.Exact as exact
use Rattle.checker.specs.Checked.{checked}
use Rattle.checker.proofs.Answers as check
use Rattle.walker.specs.declared.standing.Standing.{Standing}
use Rattle.walker.specs.declared.unmoved.Unmoved.TheVariants.{NoStep}
use Rattle.walker.specs.Walk.{standing, start_of, step_on, step_along}
use Rattle.walker.proofs.Along.{reached}
use Rattle.resolve.specs.Resolve.{resolve}
use Rattle.payload.specs.Payload.{payload_at}
use Rattle.walks.specs.Spots.{spot, nil, spot_tree, tree_walk, tree_end, table_walk, table_end, AllInTable, own_part, Way}
use Rattle.walks.proofs.Walked as walked
use Rattle.walks.proofs.Meets as meets
use Rattle.walks.proofs.Resolves as resolves
use Rattle.walks.proofs.Along as along
use Rattle.encode.specs.Encode.{has_bytes}
use Rattle.spell.specs.Inner.{Inside}
use Rattle.writer.specs.declared.unwritten.Unwritten.{Unwritten}
use Rattle.writer.specs.Written.{document_of, written, left, output_after}
use Rattle.writer.proofs.Asks.{yes_inside}
use Rattle.demands.specs.Alike.{SameRows}
use Rattle.demands.specs.Back.{back_of, table_back, ReadsBack}
use Rattle.demands.specs.Starred.{outcome, wanted}
use Rattle.demands.proofs.Reading as reading
use Rattle.demands.proofs.Backs as backs
use Rattle.demands.proofs.Starred as cases

-- ==== Demand 1: "Every call ends on every input and does nothing undefined." That is what the check of each function's contract proves.

module _ (depth : ℕ) (s table : List ℕ) where
  -- "A refused read leaves the table all zeros"
  pub refused_read_zeroes : ((n : ℕ) → answer depth s table ≡ Ok n → ⊥) → table_after depth s table ≡ replicate (length table) 0
  unfolding answer table_after
  refused_read_zeroes = of (leb (length s) limit) (document depth s)
    where
      fill : (b : Bool) (t : Tree) → ((n : ℕ) → cond b (Ok (size t)) (Err (Full (size t))) ≡ Ok n → ⊥)
          → cond b (sets (zeroed 0 table) 0 (layout t 0 [])) (zeroed 0 table) ≡ replicate (length table) 0
      fill true t f = absurd (f (size t) refl)
      fill false t f = zeroed-all table

      of : (b : Bool) (r : Reading) → ((n : ℕ) → cond b (answer_for (lent table) r) (Err TooLong) ≡ Ok n → ⊥)
          → cond b (filled (lent table) r table) (zeroed 0 table) ≡ replicate (length table) 0
      of true (right t next) f = fill (leb (size t) (lent table)) t f
      of true (wrong e place) f = zeroed-all table
      of false r f = zeroed-all table

-- "a refused write the output untouched"
pub refused_write_keeps : (depth : ℕ) (table : List ℕ) (n : ℕ) (s out : List ℕ) → ((used : ℕ) → written depth table n s (length out) ≡ Ok used → ⊥) → output_after depth table n s out ≡ out
unfolding output_after
refused_write_keeps depth table n s out = of (written depth table n s (length out))
  where
    of : (w : Result ℕ Unwritten) → ((used : ℕ) → w ≡ Ok used → ⊥) → left w (document_of depth table n s) out ≡ out
    of (Ok used) f = absurd (f used refl)
    of (Err why) f = refl

-- ==== Demand 2

-- one of the paper's documents: within the size limit, and right to the last byte, as a tree of so many rows
pub record Document (depth : ℕ) (s : List ℕ) (rows : ℕ) : Type 0 where
  pub few : length s ≤ limit
  pub tree : Tree
  pub reads : document depth s ≡ right tree (length s)
  pub rows_are : size tree ≡ rows

module _ (depth : ℕ) (s table : List ℕ) where
  -- "The reader accepts exactly the paper's documents, to the last byte": those whose rows are lent
  pub accepts_exactly : (n : ℕ) → (answer depth s table ≡ Ok n) ↔ (Document depth s n × (n ≤ lent table))
  unfolding answer
  accepts_exactly n = (
    λ e.
        let r = exact.accepted depth s table n e in
        let q = r.is ∙ ap (right r.tree) (document-next depth s r.tree r.next r.is) in
        (record { few = r.short; tree = r.tree; reads = q; rows_are = r.rows }, omega (arith, r.fits, r.rows)),
    λ d.
        let k = d.0.rows_are in
        rw (le-leb (length s) limit d.0.few, d.0.reads, le-leb (size d.0.tree) (lent table) (omega (arith, k, d.1)), k),
  )

  -- "and gives exactly its rows": they stand from the front, with zeros behind them
  pub gives_rows : (n : ℕ) (d : Document depth s n) → n ≤ lent table → table_after depth s table ≡ sets (replicate (length table) 0) 0 (layout d.tree 0 [])
  unfolding table_after
  gives_rows n d room =
      rw (le-leb (length s) limit d.few, d.reads, le-leb (size d.tree) (lent table) (omega (arith, d.rows_are, room)), zeroed-all table)

  full-right : (needed : ℕ) → answer depth s table ≡ Err (Full needed) → Document depth s needed × (lent table < needed)
  unfolding answer
  full-right needed = of (leb (length s) limit) (document depth s) refl refl
    where
      room : (b : Bool) (t : Tree) (next : ℕ) → leb (size t) (lent table) ≡ b → length s ≤ limit → document depth s ≡ right t next
          → cond b (Ok (size t)) (Err (Full (size t))) ≡ Err (Full needed) → Document depth s needed × (lent table < needed)
      room true t next q l e f = absurd (let z : ◌≡◌ {A = ℕ} 0 1 = cc in omega arith)
      room false t next q l e f =
          let k : size t ≡ needed = cc in
          (record { few = l; tree = t; reads = e ∙ ap (right t) (document-next depth s t next e); rows_are = k }, omega (arith, k, leb-false (size t) (lent table) q))

      of : (b : Bool) (r : Reading) → leb (length s) limit ≡ b → document depth s ≡ r → cond b (answer_for (lent table) r) (Err TooLong) ≡ Err (Full needed)
          → Document depth s needed × (lent table < needed)
      of true (right t next) l e f = room (leb (size t) (lent table)) t next refl (leb-true (length s) limit l) e f
      of true (wrong y place) l e f = absurd (let z : ◌≡◌ {A = ℕ} 0 1 = cc in omega arith)
      of false r l e f = absurd (let z : ◌≡◌ {A = ℕ} 0 1 = cc in omega arith)

  -- "full is said only when the whole document is right and needs more rows than lent", and always then, with the rows needed
  pub full_exactly : (needed : ℕ) → (answer depth s table ≡ Err (Full needed)) ↔ (Document depth s needed × (lent table < needed))
  unfolding answer
  full_exactly needed = (
    full-right needed,
    λ d.
        let k = d.0.rows_are in
        rw (le-leb (length s) limit d.0.few, d.0.reads, lt-leb (size d.0.tree) (lent table) (omega (arith, k, d.1)), k),
  )

  -- what filling lays passes the check
  pub read_passes : (n : ℕ) → answer depth s table ≡ Ok n → rules_hold depth (table_after depth s table) n s ≡ true
  read_passes n e = exact.read_yes depth s table n e

-- ==== Request §9: measuring, and filling

module _ (depth : ℕ) (s : List ℕ) where
  -- "Refusals: measuring never gives 11."
  pub never_full : needed_number (needed depth s) ≡ 11 → ⊥
  unfolding needed
  never_full e = of (leb (length s) limit) (document depth s) e
    where
      of : (b : Bool) (r : Reading) → needed_number (cond b (needed_for r) (Err measuring.TooLong)) ≡ 11 → ⊥
      of true (right t next) e = omega arith
      of true (wrong y place) e = omega (arith, verdict_high y)
      of false r e = omega arith

  -- "measuring .. answers the rows": exactly those of the paper's documents
  pub measures_exactly : (n : ℕ) → (needed depth s ≡ Ok n) ↔ Document depth s n
  unfolding needed
  measures_exactly n = (of (leb (length s) limit) (document depth s) refl refl, λ d. rw (le-leb (length s) limit d.few, d.reads, d.rows_are))
    where
      of : (b : Bool) (r : Reading) → leb (length s) limit ≡ b → document depth s ≡ r → cond b (needed_for r) (Err measuring.TooLong) ≡ Ok n → Document depth s n
      of true (right t next) l e f =
          let k : size t ≡ n = cc in
          record { few = leb-true (length s) limit l; tree = t; reads = e ∙ ap (right t) (document-next depth s t next e); rows_are = k }
      of true (wrong y place) l e f = absurd (let z : ◌≡◌ {A = ℕ} 0 1 = cc in omega arith)
      of false r l e f = absurd (let z : ◌≡◌ {A = ℕ} 0 1 = cc in omega arith)

  module _ (table : List ℕ) where
    -- filling accepts exactly when measuring gives rows and they are lent, and the same number of them
    pub fills_exactly : (n : ℕ) → (answer depth s table ≡ Ok n) ↔ ((needed depth s ≡ Ok n) × (n ≤ lent table))
    fills_exactly n = (
      λ e. let d = (accepts_exactly depth s table n).0 e in ((measures_exactly n).1 d.0, d.1),
      λ m. (accepts_exactly depth s table n).1 ((measures_exactly n).0 m.0, m.1),
    )

    -- "A table of exactly the measured rows is never too small."
    pub never_too_small : (n : ℕ) → needed depth s ≡ Ok n → lent table ≡ n → answer depth s table ≡ Ok n
    never_too_small n m e = (fills_exactly n).1 (m, omega (arith, e))

    -- it says 11 exactly when they are not, with the rows that measuring gives
    pub full_measured : (n : ℕ) → (answer depth s table ≡ Err (Full n)) ↔ ((needed depth s ≡ Ok n) × (lent table < n))
    full_measured n = (
      λ e. let d = (full_exactly depth s table n).0 e in ((measures_exactly n).1 d.0, d.1),
      λ m. (full_exactly depth s table n).1 ((measures_exactly n).0 m.0, m.1),
    )

    -- what measuring refuses, filling refuses with the same number and the same place
    pub refused_alike : (needed_number (needed depth s) ≡ 0 → ⊥)
        → (answer_number (answer depth s table) ≡ needed_number (needed depth s)) × (answer_beside (answer depth s table) ≡ needed_beside (needed depth s))
    unfolding needed answer
    refused_alike h = of (leb (length s) limit) (document depth s) h
      where
        of : (b : Bool) (r : Reading) → (needed_number (cond b (needed_for r) (Err measuring.TooLong)) ≡ 0 → ⊥)
            → (answer_number (cond b (answer_for (lent table) r) (Err TooLong)) ≡ needed_number (cond b (needed_for r) (Err measuring.TooLong)))
            × (answer_beside (cond b (answer_for (lent table) r) (Err TooLong)) ≡ needed_beside (cond b (needed_for r) (Err measuring.TooLong)))
        of true (right t next) h = absurd (h refl)
        of true (wrong y place) h = (refl, refl)
        of false r h = (refl, refl)

    -- and what filling refuses otherwise than as full, measuring refuses so
    pub refused_both : (answer_number (answer depth s table) ≡ 0 → ⊥) → (answer_number (answer depth s table) ≡ 11 → ⊥)
        → (answer_number (answer depth s table) ≡ needed_number (needed depth s)) × (answer_beside (answer depth s table) ≡ needed_beside (needed depth s))
    unfolding needed answer
    refused_both h g = of (leb (length s) limit) (document depth s) h g
      where
        room : (b : Bool) (t : Tree) → (answer_number (cond b (Ok (size t)) (Err (Full (size t)))) ≡ 0 → ⊥) → (answer_number (cond b (Ok (size t)) (Err (Full (size t)))) ≡ 11 → ⊥) → ⊥
        room true t h g = h refl
        room false t h g = g refl

        of : (b : Bool) (r : Reading) → (answer_number (cond b (answer_for (lent table) r) (Err TooLong)) ≡ 0 → ⊥) → (answer_number (cond b (answer_for (lent table) r) (Err TooLong)) ≡ 11 → ⊥)
            → (answer_number (cond b (answer_for (lent table) r) (Err TooLong)) ≡ needed_number (cond b (needed_for r) (Err measuring.TooLong)))
            × (answer_beside (cond b (answer_for (lent table) r) (Err TooLong)) ≡ needed_beside (cond b (needed_for r) (Err measuring.TooLong)))
        of true (right t next) h g = absurd (room (leb (size t) (lent table)) t h g)
        of true (wrong y place) h g = (refl, refl)
        of false r h g = (refl, refl)

module _ (depth : ℕ) (table : List ℕ) (n : ℕ) (s : List ℕ) (fit : (i : ℕ) → get_or table i 0 < 2 ^ 32) where
  -- "A table that passes the check, written with room and within the size limit, reads back as the same rows and payload bytes, places aside"
  pub reads_back : (room : ℕ) (back : List ℕ) → ReadsBack depth table n s room back (back_of depth table n s room back) (table_back depth table n s room back)
  reads_back room back = backs.reads_back depth table n s room back _ _ fit refl refl

-- "no document with those is shorter": with the same rows, places aside, and the same payload bytes
pub nothing_shorter : (depth : ℕ) (table : List ℕ) (n : ℕ) (s : List ℕ) → rules_hold depth table n s ≡ true → (s' : List ℕ) → Bytes s' → (table' : List ℕ) → answer depth s' table' ≡ Ok n
    → SameRows table s (table_after depth s' table') s' n → length (document_of depth table n s) ≤ length s'
nothing_shorter = reading.nothing_shorter

-- "Starred cases are proved": one list, one statement
pub starred-hold : map outcome starred ≡ map wanted starred
starred-hold = cases.starred-hold

-- ==== Demand 3

module _ (depth : ℕ) (table : List ℕ) (n : ℕ) (s : List ℕ) where
  -- "The check says yes exactly when the row rules hold": the first n rows are those of a right tree
  pub yes_means : checked depth table n s ≡ Ok n → (t : Tree) × Stands depth table n s t
  yes_means e = check.yes_stands depth table n s n e

  pub right_means_yes : (t : Tree) → Stands depth table n s t → checked depth table n s ≡ Ok n
  right_means_yes t st = check.stands_yes depth table n s t st

  pub one_tree : (t u : Tree) → Stands depth table n s t → Stands depth table n s u → t ≡ u
  one_tree = exact.one_tree depth table n s

  module _ (t : Tree) (st : Stands depth table n s t) where
    -- "After a yes, in, on and along from row 0, in any order and number, give what the rules say or 14"
    pub walks_right : (ws : List Way) → table_walk table n ws (start_of n) ≡ tree_walk ws (spot t 0 nil) nil
    walks_right = walked.steps_right depth table n s t st

    -- "always in the table"
    pub walks_inside : (ws : List Way) → AllInTable n (table_walk table n ws (start_of n))
    walks_inside = meets.steps_inside depth table n s t st

    -- "or 14", from a row reached along: its bound is the entry's own end, and on is 14 always
    pub on_from_along : (at : Standing) (row bound : ℕ) → step_along table n at ≡ Ok (standing row bound) → (bound ≡ (row_at table row).end) × (step_on table n (standing row bound) ≡ Err NoStep)
    on_from_along at row bound e = ((reached table n at row bound e).end, along.on_none depth table n s t st at row bound e)

    -- the payload of a row that a walk comes to is the tree's
    pub payload_right : (ws : List Way) → payload_at table (table_end table n ws (start_of n)).row s ≡ own_part (spot_tree (tree_end ws (spot t 0 nil) nil))
    payload_right = meets.payload_right depth table n s t st

    -- "every payload lies in the data": of every row, a damaged body's too
    pub payloads_inside : (row : ℕ) → row < n → has_bytes (named (own_of (row_at table row))) ≡ true → (row_at table row).w0 + (row_at table row).w1 ≤ length s
    unfolding Inside
    payloads_inside = yes_inside depth table n s (exact.stands_yes depth table n s t st)

    -- "resolving from any row ends in fewer moves than rows"
    pub resolving_ends : (row : ℕ) → row < n → resolves.Ended table n n (resolve table n row)
    resolving_ends = resolves.resolve-ends depth table n s t st
