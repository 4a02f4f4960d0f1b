-- The steps of laying rows: from what a position asks to what its parts ask, and from what was done for the parts to what is done for the
-- position. Assumes nothing.
use mathlib.Core.Path.{◌≡◌, refl, sym, ap, subst, ◌∙◌}
use mathlib.Core.Bool.{Bool, true, false, ◌||◌}
use mathlib.Core.List.{List, []}
use Prim.Native.Nat.{ℕ, ◌+◌, ◌*◌, ◌≤◌, ◌<◌}
use native.Mathlib.Omega.{arith}
use lib.ListN.{length, take}
use lib.Seq.{sets, length-sets}
use Rattle.rows.specs.declared.row.Row.{Row}
use Rattle.rows.specs.Table.{words_per_row, Own, row_of, words_of, lent, limit}
use Rattle.rows.specs.Kinds.{declaration_own, foreign_own, leaf_row}
use Rattle.rows.proofs.Rows.{lent_sets}
use Rattle.format.specs.declared.head.Holder.{Holder}
use Rattle.format.specs.declared.head.Children.TheVariants.{Entries}
use Rattle.format.specs.Tree.{many, Tree, size, sizes}
use Rattle.format.specs.Value.{Reading, right, Readings, Reader, children_of, holding, declaring, whole, in_foreign, framed}
use Rattle.format.specs.Layout.{layout, layouts, entries, in_body}
use Rattle.format.proofs.Layouts.{no_entry, around_force, in_foreign-few, size_pos, lay_hold, lay_foreign, lay_declare, entries_each}
use Rattle.measure.specs.Inner.{harmed, some_harmed, place_and_row, place_in, row_in}
use Rattle.registry.specs.Inner.{chain, first_in, base_of}
use Rattle.registry.proofs.Walks.{based_fewer, based-plain, based-rows, chain_fewer, first_base, first_plain, length-chain, below_fewer, below_none, walk_start}
use Rattle.laying.specs.Inner.{Right, tree_read, next_of, trees_read, nexts_of, Ready, Did, ReadyAll, DidAll}
use Rattle.laying.proofs.Growth.{chain-declared, below-declared}
use Rattle.laying.proofs.Views.{held_view, declare_view, framed_view}

-- ---- any position

pub ready_as : (P P' : Reading) (doubt : Bool) (table : List ℕ) (row base k : ℕ) → P ≡ P' → Ready P doubt table row base k → Ready P' doubt table row base k
ready_as P P' doubt table row base k e r = subst (λ (p : Reading). Ready p doubt table row base k) e r

pub did_as : (P P' : Reading) (table : List ℕ) (row first k : ℕ) (table' : List ℕ) (f : ℕ) → P ≡ P' → Did P' table row first k table' f → Did P table row first k table' f
did_as P P' table row first k table' f e d = subst (λ (p : Reading). Did p table row first k table' f) (sym e) d

module _ (P : Reading) (doubt : Bool) (table : List ℕ) (row base k : ℕ) (r : Ready P doubt table row base k) where
  pub ready_lent : row < lent table
  ready_lent = omega (arith, size_pos (tree_read P), r.room)

  pub ready_within : row ≤ lent table
  ready_within = omega (arith, ready_lent)

  pub ready_low : row < limit
  ready_low = omega (arith, size_pos (tree_read P), r.small)

  pub ready_past : row + 1 ≤ limit
  ready_past = omega (arith, ready_low)

pub neither : (a b : Bool) → (a || b) ≡ false → (a ≡ false) × (b ≡ false)
neither true b e = absurd (let z : ◌≡◌ {A = ℕ} 0 1 = cc in omega arith)
neither false b e = (refl, e)

-- ---- one row

pub place-in : (next row f : ℕ) → next ≤ limit → f ≡ place_and_row next row → place_in f ≡ next
place-in next row f h e = rw e (omega arith)

pub row-in : (next row f : ℕ) → next ≤ limit → row ≤ limit → f ≡ place_and_row next row → row_in f ≡ row
row-in next row f h l e = rw e (omega arith)

-- a row laid that says o, for bytes that end at `next`
pub record Laid (table : List ℕ) (row : ℕ) (o : Own) (next : ℕ) (table' : List ℕ) (f : ℕ) : Type 0 where
  pub put : table' ≡ sets table (words_per_row * row) (words_of (leaf_row o row))
  pub past : f ≡ place_and_row next (row + 1)

-- a tree whose one row says o
pub one-laid : (P : Reading) (t : Tree) (o : Own) (next : ℕ) (table : List ℕ) (row first k : ℕ) → P ≡ right t next → size t ≡ 1 → layout t row (chain table first k) ≡ words_of (leaf_row o row)
    → next ≤ limit → row + 1 ≤ limit → (table' : List ℕ) (f : ℕ) → Laid table row o next table' f → Did P table row first k table' f
unfolding tree_read next_of
one-laid P t o next table row first k is one says h m table' f l =
    did_as P (right t next) table row first k table' f is (record {
      words = l.put ∙ ap (sets table (words_per_row * row)) (sym says);
      place = place-in next (row + 1) f h l.past;
      past = row-in next (row + 1) f h m l.past ∙ ap (λ (n : ℕ). row + n) (sym one);
    })

-- ---- a holder

module _ (h : Holder) (o : Own) (Q : Readings) (doubt : Bool) (table : List ℕ) (row base k : ℕ) (r : Ready (holding o Q) doubt table row base k) where
  hold-rows : size (tree_read (holding o Q)) ≡ 1 + sizes (trees_read Q)
  unfolding size
  hold-rows = ap size (held_view o Q r.good).is

  pub hold_ready : ReadyAll Q (children_of h) doubt table (row + 1) base k 0
  unfolding harmed
  hold_ready =
      let z = hold-rows in
      record {
        good = (held_view o Q r.good).good;
        room = omega (arith, r.room);
        small = omega (arith, r.small);
        below = rw around_force (below_fewer table (first_in base) k k row (row + 1) r.below (omega arith) (omega arith));
        based = rw around_force r.based;
        sure = λ e. sym (ap harmed (held_view o Q r.good).is) ∙ r.sure e;
        walked = λ e. absurd (let z : ◌≡◌ {A = ℕ} 0 1 = cc (no_entry h) in omega arith);
        linked = λ e. cc (no_entry h);
      }

  module _ (table₁ : List ℕ) (f : ℕ) (d : DidAll Q (children_of h) table (row + 1) (first_in base) k 0 table₁ f) where
    pub hold-end : row_in f ≤ limit
    hold-end = let z = hold-rows in omega (arith, r.small, d.past)

    pub hold-lent : row < lent table₁
    hold-lent =
        let z : length table₁ ≡ length table = ap length d.words ∙ simp length-sets in
        omega (arith, ready_lent (holding o Q) doubt table row base k r)

    pub hold-did : (q : Row) (table₂ : List ℕ) → q ≡ row_of o (row_in f) → table₂ ≡ sets table₁ (words_per_row * row) (words_of q)
        → Did (holding o Q) table row (first_in base) k table₂ f
    hold-did q table₂ e g =
        let v = held_view o Q r.good in
        let past : row_in f ≡ row + (1 + sizes (trees_read Q)) = omega (arith, d.past) in
        let under : table₁ ≡ sets table (words_per_row * (row + 1)) (layouts (trees_read Q) false (row + 1) (chain table (first_in base) k)) = rw (no_entry, around_force) at d.words in
        record {
          words = cc (past, under, lay_hold table o (trees_read Q) row (chain table (first_in base) k), v.is);
          place = d.place ∙ sym v.ends;
          past = past ∙ ap (λ (m : ℕ). row + m) (sym hold-rows);
        }

-- ---- a declaration

module _ (n : ℕ) (Q : Readings) (R : Reader) (stop : ℕ) (doubt : Bool) (table : List ℕ) (row base k : ℕ) (r : Ready (declaring n Q R stop) doubt table row base k) where
  declare-rows : size (tree_read (declaring n Q R stop)) ≡ 1 + (sizes (trees_read Q) + size (tree_read (R n (nexts_of Q) stop)))
  unfolding size
  declare-rows = ap size (declare_view n Q R stop r.good).is

  unhurt : doubt ≡ false → (some_harmed (trees_read Q) ≡ false) × (harmed (tree_read (R n (nexts_of Q) stop)) ≡ false)
  unfolding harmed
  unhurt e = neither _ _ (sym (ap harmed (declare_view n Q R stop r.good).is) ∙ r.sure e)

  under : row + 1 < 4294967296
  under = omega (arith, ready_low (declaring n Q R stop) doubt table row base k r)

  pub entries_ready : ReadyAll Q Entries doubt table (row + 1) (row + 1) 0 0
  entries_ready =
      let z = declare-rows in
      record {
        good = (declare_view n Q R stop r.good).good;
        room = omega (arith, r.room);
        small = omega (arith, r.small);
        below = below_none table (first_in (row + 1)) (row + 1);
        based = based-plain table (row + 1) 0 under;
        sure = λ e. (unhurt e).0;
        walked = λ e. under;
        linked = λ e. sym (walk_start table (first_in (row + 1))) ∙ first_plain (row + 1) under;
      }

  module _ (table₁ : List ℕ) (es : ℕ) (d' : DidAll Q Entries table (row + 1) (first_in (row + 1)) 0 0 table₁ es) (count : many (trees_read Q) ≡ n) where
    d : DidAll Q Entries table (row + 1) (row + 1) 0 0 table₁ es
    d = rw (first_plain (row + 1) under) at d'

    entries-words : table₁ ≡ sets table (words_per_row * (row + 1)) (layouts (trees_read Q) true (row + 1) [])
    unfolding chain
    entries-words = d.words

    entries-room : row + 1 + sizes (trees_read Q) ≤ lent table
    entries-room = let z = declare-rows in omega (arith, r.room)

    entries-lent : lent table₁ ≡ lent table
    entries-lent = ap lent entries-words ∙ lent_sets table (words_per_row * (row + 1)) (layouts (trees_read Q) true (row + 1) [])

    own-chain : chain table₁ (row + 1) n ≡ entries (trees_read Q) (row + 1) []
    own-chain = cc (entries-words, count, chain-declared (trees_read Q) table (row + 1) entries-room)

    pub own_under : row + 1 ≤ row_in es
    own_under = omega (arith, d.past)

    module _ (inner : ℕ) (ei : inner ≡ base_of (row + 1) (row_in es) n) where
      first_inner : first_in inner ≡ row + 1
      first_inner = ap first_in ei ∙ first_base (row + 1) (row_in es) n under

      pub own_ready : Ready (R n (place_in es) stop) doubt table₁ (row_in es) inner n
      own_ready =
          let z = declare-rows in
          rw d.place (record {
            good = (declare_view n Q R stop r.good).own;
            room = omega (arith, r.room, d.past, entries-lent);
            small = omega (arith, r.small, d.past);
            below = rw (first_inner, entries-words, d.past, ← count) (below-declared (trees_read Q) table (row + 1) entries-room);
            based = rw ei (based-rows table₁ (row + 1) (row_in es) n (entries (trees_read Q) (row + 1) []) under own-chain (entries_each (trees_read Q) (row + 1) (row_in es) n count d.past));
            sure = λ e. (unhurt e).1;
          })

      module _ (table₂ : List ℕ) (f : ℕ) (o : Did (R n (place_in es) stop) table₁ (row_in es) (first_in inner) n table₂ f) where
        own : Did (R n (nexts_of Q) stop) table₁ (row_in es) (row + 1) n table₂ f
        own = rw first_inner at (subst (λ (a : ℕ). Did (R n a stop) table₁ (row_in es) (first_in inner) n table₂ f) d.place o)

        declare-past : row_in f ≡ row + (1 + (sizes (trees_read Q) + size (tree_read (R n (nexts_of Q) stop))))
        declare-past = omega (arith, own.past, d.past)

        pub declare-end : row_in f ≤ limit
        declare-end = let z = declare-rows in omega (arith, r.small, declare-past)

        pub declare-lent : row < lent table₂
        declare-lent =
            let z : length table₂ ≡ length table₁ = ap length own.words ∙ simp length-sets in
            omega (arith, ready_lent (declaring n Q R stop) doubt table row base k r, entries-lent)

        pub declare-did : (q : Row) (table₃ : List ℕ) → q ≡ row_of (declaration_own n) (row_in f) → table₃ ≡ sets table₂ (words_per_row * row) (words_of q)
            → Did (declaring n Q R stop) table row (first_in base) k table₃ f
        declare-did q table₃ e g =
            let v = declare_view n Q R stop r.good in
            let u : Tree = tree_read (R n (nexts_of Q) stop) in
            record {
              words = cc (own.words, d.past, entries-words, own-chain, declare-past, lay_declare table (declaration_own n) (trees_read Q) u row (chain table (first_in base) k), v.is);
              place = own.place ∙ sym v.ends;
              past = declare-past ∙ ap (λ (m : ℕ). row + m) (sym declare-rows);
            }

-- ---- a foreign document that is right

-- the rows in force in its body
chain-body : (table : List ℕ) (first k : ℕ) → chain table first (in_foreign k) ≡ in_body (chain table first k)
chain-body table first k =
    sym (ap (λ (m : ℕ). take (in_foreign m) (chain table first k)) (length-chain table first k) ∙ chain_fewer table first k (in_foreign k) (in_foreign-few k))

module _ (place n : ℕ) (R : Reading) (doubt : Bool) (table : List ℕ) (row base k : ℕ) (r : Ready (framed place n (whole (place + n) R)) doubt table row base k) (good : Right (whole (place + n) R)) where
  foreign-rows : size (tree_read (framed place n (whole (place + n) R))) ≡ 1 + size (tree_read R)
  unfolding tree_read size
  foreign-rows = ap (λ (p : Reading). size (tree_read p)) (framed_view place n R good).is

  pub foreign_ready : Ready R doubt table (row + 1) base (in_foreign k)
  unfolding harmed tree_read
  foreign_ready =
      let z = foreign-rows in
      record {
        good = (framed_view place n R good).good;
        room = omega (arith, r.room);
        small = omega (arith, r.small);
        below = below_fewer table (first_in base) k (in_foreign k) row (row + 1) r.below (in_foreign-few k) (omega arith);
        based = based_fewer table base k (in_foreign k) r.based (in_foreign-few k);
        sure = λ e. sym (ap (λ (p : Reading). harmed (tree_read p)) (framed_view place n R good).is) ∙ r.sure e;
      }

  module _ (table₁ : List ℕ) (f : ℕ) (d : Did R table (row + 1) (first_in base) (in_foreign k) table₁ f) where
    foreign-past : row_in f ≡ row + (1 + size (tree_read R))
    foreign-past = omega (arith, d.past)

    pub foreign-end : row_in f ≤ limit
    foreign-end = let z = foreign-rows in omega (arith, r.small, foreign-past)

    pub foreign-lent : row < lent table₁
    foreign-lent =
        let z : length table₁ ≡ length table = ap length d.words ∙ simp length-sets in
        omega (arith, ready_lent (framed place n (whole (place + n) R)) doubt table row base k r)

    pub foreign-did : (q : Row) (table₂ : List ℕ) → q ≡ row_of foreign_own (row_in f) → table₂ ≡ sets table₁ (words_per_row * row) (words_of q)
        → Did (framed place n (whole (place + n) R)) table row (first_in base) k table₂ f
    unfolding tree_read next_of
    foreign-did q table₂ e g =
        let v = framed_view place n R good in
        record {
          words = cc (d.words, foreign-past, chain-body table (first_in base) k, lay_foreign table foreign_own (tree_read R) row (chain table (first_in base) k), ap tree_read v.is);
          place = d.place ∙ v.ends ∙ sym (ap next_of v.is);
          past = foreign-past ∙ ap (λ (m : ℕ). row + m) (sym foreign-rows);
        }
