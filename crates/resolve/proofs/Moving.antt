-- The moves of resolving, a law for each way out of the code. Assumes nothing.
use mathlib.Core.Path.{◌≡◌, refl, sym, ap, ◌∙◌}
use mathlib.Core.Bool.{Bool, true, false, cond, ◌&&◌}
use mathlib.Core.List.{List}
use Prim.Native.Nat.{ℕ, suc, ◌+◌, ◌-◌, ◌≤◌, ◌<◌}
use native.Mathlib.Omega.{arith}
use native.Mathlib.Nat.{sub-zero}
use lib.Dec.{ltb, leb}
use borrow.Author.Tests.{lt-ltb, le-ltb, le-leb, lt-leb, eq-eqb, ne_eqb, ltb-true}
use Rattle.std.specs.Prelude.{Some, None, Result, Ok}
use Rattle.rows.specs.declared.bad_table.BadTable.{BadTable}
use Rattle.rows.specs.declared.row.Row.{Row}
use Rattle.rows.specs.Table.{row_at, lent}
use Rattle.rows.specs.Kinds.{kind_reference, kind_declaration}
use Rattle.resolve.specs.declared.resolved.Resolved.{Resolved}
use Rattle.resolve.specs.Resolve.{broken, value_row, Move, to_row, move_at, chased, ended_at, chase, resolve}

module _ (table : List ℕ) (n end entries counter at : ℕ) where
  abbrev E : ℕ
  E = (row_at table at).end

  -- past the entry at `at`
  pub past_one : counter < entries
      → value_row table n end (entries - counter) at ≡ cond (ltb at n && (ltb at E && leb E end)) (value_row table n end (entries - (counter + 1)) E) broken
  unfolding value_row
  past_one h = let e : entries - counter ≡ suc (entries - (counter + 1)) = omega arith in ap (λ (m : ℕ). value_row table n end m at) e

  -- past all of them
  pub past_all : entries ≤ counter → value_row table n end (entries - counter) at ≡ cond (ltb at n && ltb at end) (Ok at) broken
  unfolding value_row
  past_all h = let e : entries - counter ≡ 0 = omega arith in ap (λ (m : ℕ). value_row table n end m at) e

-- ---- past the entries, to the value

-- `left` entries are left from `at` on, and the rest from there makes the whole
module _ (table : List ℕ) (n end entries row left at : ℕ) (same : value_row table n end left at ≡ value_row table n end entries row) where
  abbrev W : Result ℕ BadTable
  W = value_row table n end entries row

  module _ (some : 0 < left) where
    abbrev next : ℕ
    next = (row_at table at).end

    one : value_row table n end left at ≡ cond (ltb at n && (ltb at next && leb next end)) (value_row table n end (left - 1) next) broken
    unfolding value_row
    one = let e : left ≡ suc (left - 1) = omega arith in ap (λ (m : ℕ). value_row table n end m at) e

    pub past_out : n ≤ at → broken ≡ W
    past_out h = sym (one ∙ rw (le-ltb at n h)) ∙ same

    module _ (within : at < n) (e w : ℕ) (is : w ≡ (row_at table at).end) (as_number : e ≡ w) where
      q : e ≡ next
      q = as_number ∙ is

      pub past-low : e ≤ at → broken ≡ W
      past-low h = sym (one ∙ rw (lt-ltb at n within, le-ltb at next (omega (arith, q)))) ∙ same

      pub past_high : at < e → end < e → broken ≡ W
      past_high l h = sym (one ∙ rw (lt-ltb at n within, lt-ltb at next (omega (arith, q)), lt-leb next end (omega (arith, q)))) ∙ same

      pub past_next : at < e → e ≤ end → value_row table n end (left - 1) e ≡ W
      past_next l h =
          ap (value_row table n end (left - 1)) q
          ∙ sym (one ∙ rw (lt-ltb at n within, lt-ltb at next (omega (arith, q)), le-leb next end (omega (arith, q)))) ∙ same

  module _ (done : left ≤ 0) where
    last : value_row table n end left at ≡ cond (ltb at n && ltb at end) (Ok at) broken
    unfolding value_row
    last = let z : left ≡ 0 = omega arith in ap (λ (m : ℕ). value_row table n end m at) z

    pub value_out : n ≤ at → broken ≡ W
    value_out h = sym (last ∙ rw (le-ltb at n h)) ∙ same

    pub value-past : at < n → end ≤ at → broken ≡ W
    value-past l h = sym (last ∙ rw (lt-ltb at n l, le-ltb at end h)) ∙ same

    pub value_at : at < n → at < end → Ok at ≡ W
    value_at l h = sym (last ∙ rw (lt-ltb at n l, lt-ltb at end h)) ∙ same

-- the same where the entries that are gone past are counted
module _ (table : List ℕ) (n end entries counter at row : ℕ) where
  pub past_counted : (e w : ℕ) → w ≡ (row_at table at).end → e ≡ w → counter < entries → at < n → at < e → e ≤ end → value_row table n end (entries - counter) at ≡ value_row table n end entries row
      → value_row table n end (entries - (counter + 1)) e ≡ value_row table n end entries row
  past_counted e w f g h l m o v =
      let q : entries - (counter + 1) ≡ entries - counter - 1 = omega arith in
      let p : 0 < entries - counter = omega arith in
      ap (λ (k : ℕ). value_row table n end k e) q ∙ past_next table n end entries row (entries - counter) at v p l e w f g m o

  pub value_counted : entries ≤ counter → at < n → at < end → value_row table n end (entries - counter) at ≡ value_row table n end entries row → Ok at ≡ value_row table n end entries row
  value_counted h l o v = value_at table n end entries row (entries - counter) at v (omega arith) l o

-- ---- one move

pub move_out : (table : List ℕ) (n row : ℕ) → n ≤ row → broken ≡ move_at table n row
unfolding move_at
move_out table n row h = rw (le-ltb row n h)

module _ (table : List ℕ) (n row : ℕ) (within : row < n) (r : Row) (at : r ≡ row_at table row) where
  module _ (refers : r.kind ≡ kind_reference) (entry : ℕ) (names : entry ≡ r.w1) where
    pub move_along : entry < row → Ok (Some entry) ≡ move_at table n row
    unfolding move_at
    move_along h = rw (lt-ltb row n within, ← at, eq-eqb r.kind kind_reference refers, ← names, lt-ltb entry row h)

    pub move_broken : row ≤ entry → broken ≡ move_at table n row
    unfolding move_at
    move_broken h = rw (lt-ltb row n within, ← at, eq-eqb r.kind kind_reference refers, ← names, le-ltb entry row h)

  module _ (refers : r.kind ≡ kind_reference → ⊥) where
    pub move_value : (end entries : ℕ) (x : Result ℕ BadTable) → r.kind ≡ kind_declaration → end ≡ r.end → entries ≡ r.w0 → x ≡ value_row table n end entries (row + 1)
        → to_row x ≡ move_at table n row
    unfolding move_at
    move_value end entries x d e f g =
        rw (lt-ltb row n within, ← at, ne_eqb r.kind kind_reference refers, eq-eqb r.kind kind_declaration d, ← e, ← f) (ap to_row g)

-- a row from which there is no move is below n
below_by : (table : List ℕ) (n row : ℕ) (b : Bool) → ltb row n ≡ b → move_at table n row ≡ Ok None → row < n
unfolding move_at
below_by table n row true h e = ltb-true row n h
below_by table n row false h e = absurd (let q = rw h at e in cc)

-- ---- move behind move

module _ (table : List ℕ) (n moves here : ℕ) where
  -- one more move
  pub chase_one : moves < n
      → chase table n (n - moves) here moves ≡ chased (move_at table n here) (ended_at here (row_at table here).end moves) (λ next. chase table n (n - (moves + 1)) next (moves + 1))
  unfolding chase
  chase_one h = let e : n - moves ≡ suc (n - (moves + 1)) = omega arith in ap (λ (m : ℕ). chase table n m here moves) e

  -- the n-th is one too many
  pub chase_none : n ≤ moves → chase table n (n - moves) here moves ≡ broken
  unfolding chase
  chase_none h = let e : n - moves ≡ 0 = omega arith in ap (λ (m : ℕ). chase table n m here moves) e

-- ---- resolving

-- after `moves` moves the walk is at `here`, and the rest from there makes the whole
pub record Chasing (table : List ℕ) (n row moves here : ℕ) : Type 0 where
  pub few : moves ≤ n
  pub same : chase table n (n - moves) here moves ≡ chase table n n row 0

pub few-lent : (table : List ℕ) (n row l : ℕ) → l ≡ lent table → l < n → broken ≡ resolve table n row
unfolding resolve
few-lent table n row l is h = rw (lt-leb n (lent table) (omega arith))

pub chasing_first : (table : List ℕ) (n row : ℕ) → Chasing table n row 0 row
chasing_first table n row = record { few = omega arith; same = ap (λ (m : ℕ). chase table n m row 0) (sub-zero n) }

module _ (table : List ℕ) (n row l : ℕ) (is : l ≡ lent table) (held : n ≤ l) where
  whole : chase table n n row 0 ≡ resolve table n row
  unfolding resolve
  whole = sym (rw (le-leb n (lent table) (omega arith)))

  pub chasing_all : (moves here : ℕ) → chase table n (n - moves) here moves ≡ chase table n n row 0 → n ≤ moves → broken ≡ resolve table n row
  chasing_all moves here same h = sym (chase_none table n moves here h) ∙ same ∙ whole

  module _ (moves here : ℕ) (v : Chasing table n row moves here) (turn : moves < n) (x : Move) (read : x ≡ move_at table n here) where
    abbrev on : Move → Result Resolved BadTable
    on y = chased y (ended_at here (row_at table here).end moves) (λ next. chase table n (n - (moves + 1)) next (moves + 1))

    one_move : chase table n (n - moves) here moves ≡ on x
    one_move = chase_one table n moves here turn ∙ ap on (sym read)

    ends : (y : Move) (r : Result Resolved BadTable) → x ≡ y → r ≡ on y → r ≡ resolve table n row
    ends y r e f = f ∙ ap on (sym e) ∙ sym one_move ∙ v.same ∙ whole

    pub chasing_broken : x ≡ broken → broken ≡ resolve table n row
    chasing_broken e = ends broken broken e refl

    pub chasing_stop : (e w : ℕ) → x ≡ Ok None → w ≡ (row_at table here).end → e ≡ w → Ok (ended_at here e moves) ≡ resolve table n row
    chasing_stop e w h f g = ends (Ok None) (Ok (ended_at here e moves)) h (ap (λ (z : ℕ). Ok (ended_at here z moves)) (g ∙ f))

    pub chasing_next : (next : ℕ) → x ≡ Ok (Some next) → Chasing table n row (moves + 1) next
    chasing_next next e = record { few = omega arith; same = sym (one_move ∙ ap on e) ∙ v.same }

    pub stop_lent : x ≡ Ok None → here < lent table
    stop_lent e = omega (arith, below_by table n here (ltb here n) refl (sym read ∙ e))
