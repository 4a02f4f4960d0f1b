-- What the library answers can be packed: the number beside it is below 2 ^ 56, a row below 2 ^ 24, a bound and a word of a list below 2 ^ 32.
-- Laws over the definitions alone; where a word of the table is handed on, it has to be one of 32 bits. Assumes nothing.
use mathlib.Core.Path.{◌≡◌, refl, sym, ap, subst}
use mathlib.Core.Bool.{Bool, true, false, cond, ◌&&◌}
use mathlib.Core.List.{List, [], ◌∷◌}
use Prim.Native.Nat.{ℕ, zero, suc, ◌+◌, ◌*◌, ◌^◌, ◌≤◌, ◌<◌}
use native.Mathlib.Omega.{arith}
use lib.ListN.{length, get_or}
use lib.Dec.{leb, ltb, eqb}
use borrow.Author.Tests.{leb-true, ltb-true}
use mir.Syntax.{w32}
use mir.Val.{Fits}
use Rattle.lists.proofs.Tests.{and_first, and_second}
use Rattle.wide.specs.declared.wide.Wide.{Wide}
use Rattle.std.specs.Prelude.{Option, Some, None, Result, Ok, Err}
use Rattle.variable.specs.declared.got.Got.{Got}
use Rattle.variable.specs.declared.short.Short.{Short}
use Rattle.variable.specs.declared.no_room.NoRoom.{NoRoom}
use Rattle.wide.specs.Words.{value_of, words}
use Rattle.wide.specs.Body.{size_at}
use Rattle.wide.specs.Family.{Family, Coded as Form, is, short, other, behind, has_byte, longer, body, unmarked, marked, coded, form}
use Rattle.wide.specs.Members.{signed, unsigned}
use Rattle.wide.specs.Inner.{variable}
use Rattle.variable.specs.Answer.{needs, read_as, read_of, read_used, written_of, output_of, coded_beside}
use Rattle.wide.proofs.Wides.{Words}
use Rattle.wide.proofs.Ranks.{size_high}
use Rattle.wide.proofs.Families.{cond-case, Takes}
use Rattle.variable.proofs.Promises.{write_read}
use Rattle.rows.specs.declared.bad_table.BadTable.{BadTable}
use Rattle.rows.specs.declared.row.Row.{Row}
use Rattle.rows.specs.Table.{words_per_row, row_at, lent, limit}
use Rattle.rows.specs.Kinds.{kind_reference}
use Rattle.format.specs.declared.unfilled.Unfilled.{Unfilled}
use Rattle.format.specs.declared.unfilled.Unfilled.TheVariants.{TooLong, Full}
use Rattle.format.specs.Tree.{size}
use Rattle.format.specs.Value.{Reading, right, wrong, document}
use Rattle.format.specs.declared.unmeasured.Unmeasured.{Unmeasured}
use Rattle.format.specs.declared.unmeasured.Unmeasured.TheVariants as unmeasured
use Rattle.format.specs.Answer.{answer_for, answer, answer_beside, needed_for, needed, needed_beside}
use Rattle.format.proofs.Values.{document-rows, document_within}
use Rattle.rules.specs.Grow.{rules_hold}
use Rattle.rules.proofs.Exact.{yes_stands}
use Rattle.checker.specs.Checked.{bad_table, checked, checked_beside}
use Rattle.writer.specs.declared.unwritten.Unwritten.{Unwritten}
use Rattle.writer.specs.declared.unwritten.Unwritten.TheVariants as writes
use Rattle.writer.specs.Written.{document_of, fitted, written, written_beside}
use Rattle.writer.proofs.Asks.{yes_few}
use Rattle.walker.specs.declared.standing.Standing.{Standing}
use Rattle.walker.specs.declared.unmoved.Unmoved.TheVariants as unmoved
use Rattle.resolve.specs.declared.resolved.Resolved.{Resolved}
use Rattle.payload.specs.declared.part.Part.{Part}
use Rattle.walker.specs.Walk.{Step, standing, genuine, inward, onward, alongside, step_in, step_on, step_along}
use Rattle.resolve.specs.Resolve.{Move, broken, move_from, move_at, chased, ended_at, chase, resolve}
use Rattle.payload.specs.Payload.{has_payload, part, part_of, payload_at}
use Rattle.packing.specs.Packed.{within}
use Rattle.packing.specs.Inner.{LowStep, SmallResolved, SmallPart}

-- ---- rows and places

beside : (depth : ℕ) (s table : List ℕ) → answer_beside (answer depth s table) ≤ limit
unfolding answer
beside depth s table =
    cond-case (λ (a : Result ℕ Unfilled). answer_beside a ≤ limit) (leb (length s) limit) (answer_for (lent table) (document depth s)) (Err TooLong)
    (λ h. of (leb-true (length s) limit h) (document depth s) refl)
    (λ _. omega arith)
  where
    of : length s ≤ limit → (x : Reading) → document depth s ≡ x → answer_beside (answer_for (lent table) x) ≤ limit
    of l (right t next) e =
        cond-case (λ (a : Result ℕ Unfilled). answer_beside a ≤ limit) (leb (size t) (lent table)) (Ok (size t)) (Err (Full (size t)))
        (λ _. omega (arith, document-rows depth s t next e))
        (λ _. omega (arith, document-rows depth s t next e))
    of l (wrong e place) q = omega (arith, document_within depth s e place q)

needed-low : (depth : ℕ) (s : List ℕ) → needed_beside (needed depth s) ≤ limit
unfolding needed
needed-low depth s =
    cond-case (λ (a : Result ℕ Unmeasured). needed_beside a ≤ limit) (leb (length s) limit) (needed_for (document depth s)) (Err unmeasured.TooLong)
    (λ h. of (leb-true (length s) limit h) (document depth s) refl)
    (λ _. omega arith)
  where
    of : length s ≤ limit → (x : Reading) → document depth s ≡ x → needed_beside (needed_for x) ≤ limit
    of l (right t next) e = omega (arith, document-rows depth s t next e)
    of l (wrong e place) q = omega (arith, document_within depth s e place q)

pub needed-beside : (depth : ℕ) (s : List ℕ) (a : Result ℕ Unmeasured) → a ≡ needed depth s → needed_beside a < 2 ^ 56
needed-beside depth s a e = omega (arith, needed-low depth s, ap needed_beside e)

pub answer-beside : (depth : ℕ) (s table : List ℕ) (a : Result ℕ Unfilled) → a ≡ answer depth s table → answer_beside a < 2 ^ 56
answer-beside depth s table a e = omega (arith, beside depth s table, ap answer_beside e)

checked-rows : (depth : ℕ) (table : List ℕ) (n : ℕ) (s : List ℕ) → checked_beside (checked depth table n s) ≤ limit
unfolding checked
checked-rows depth table n s =
    cond-case (λ (c : Result ℕ BadTable). checked_beside c ≤ limit) (rules_hold depth table n s) (Ok n) (Err bad_table)
    (λ h. (yes_stands depth table n s h).1.few)
    (λ _. omega arith)

pub checked-beside : (depth : ℕ) (table : List ℕ) (n : ℕ) (s : List ℕ) (c : Result ℕ BadTable) → c ≡ checked depth table n s → checked_beside c < 2 ^ 56
checked-beside depth table n s c e = omega (arith, checked-rows depth table n s, ap checked_beside e)

-- ---- bytes needed

fitted_beside : (needed room : ℕ) → written_beside (fitted needed room) ≡ needed
fitted_beside needed room =
    cond-case (λ (w : Result ℕ Unwritten). written_beside w ≡ needed) (leb needed limit) (cond (leb needed room) (Ok needed) (Err (writes.NoRoom needed))) (Err (writes.TooLarge needed))
    (λ _. cond-case (λ (w : Result ℕ Unwritten). written_beside w ≡ needed) (leb needed room) (Ok needed) (Err (writes.NoRoom needed)) (λ _. refl) (λ _. refl))
    (λ _. refl)

small_product : (n l : ℕ) → n ≤ limit → l ≤ n * 2 ^ 25 → l < 2 ^ 56
small_product n l h k = omega arith

module _ (depth : ℕ) (table : List ℕ) (fit : (i : ℕ) → get_or table i 0 < 2 ^ 32) (n : ℕ) (s : List ℕ) (room : ℕ) where
  written-bytes : written_beside (written depth table n s room) < 2 ^ 56
  unfolding written
  written-bytes =
      cond-case (λ (w : Result ℕ Unwritten). written_beside w < 2 ^ 56) (rules_hold depth table n s) (fitted (length (document_of depth table n s)) room) (Err writes.BadTable)
      (λ h. subst (λ (x : ℕ). x < 2 ^ 56) (sym (fitted_beside (length (document_of depth table n s)) room))
      (small_product n (length (document_of depth table n s)) (yes_stands depth table n s h).1.few (yes_few depth table n s h fit)))
      (λ _. omega arith)

  pub written-beside : (w : Result ℕ Unwritten) → w ≡ written depth table n s room → written_beside w < 2 ^ 56
  written-beside w e = omega (arith, written-bytes, ap written_beside e)

-- ---- standings

none-low : LowStep (Err unmoved.NoStep)
none-low = record { row_low = omega arith; bound_low = omega arith }

pub bad-low : LowStep (Err unmoved.BadTable)
bad-low = record { row_low = omega arith; bound_low = omega arith }

-- what a genuine standing has
record Stood (table : List ℕ) (n row bound : ℕ) : Type 0 where
  below : row < n
  bounded : bound ≤ n
  ends : (row_at table row).end ≤ bound

stood : (table : List ℕ) (n row bound : ℕ) → genuine table n row bound ≡ true → Stood table n row bound
unfolding genuine
stood table n row bound g =
    let e : ℕ = (row_at table row).end in
    let t₅ : Bool = ltb row e && leb e bound in
    let t₄ : Bool = leb bound n && t₅ in
    let t₃ : Bool = ltb row bound && t₄ in
    let t₂ : Bool = ltb row n && t₃ in
    let two : t₂ ≡ true = and_second (leb n (lent table)) t₂ g in
    let four : t₄ ≡ true = and_second (ltb row bound) t₄ (and_second (ltb row n) t₃ two) in
    record {
      below = ltb-true row n (and_first (ltb row n) t₃ two);
      bounded = leb-true bound n (and_first (leb bound n) t₅ four);
      ends = leb-true e bound (and_second (ltb row e) (leb e bound) (and_second (leb bound n) t₅ four));
    }

module _ (table : List ℕ) (n : ℕ) (few : n ≤ limit) (at : Standing) where
  abbrev R : Row
  R = row_at table at.row

  asked_low : (x : Step) → (Stood table n at.row at.bound → LowStep x) → LowStep (cond (genuine table n at.row at.bound) x (Err unmoved.BadTable))
  asked_low x f = cond-case LowStep (genuine table n at.row at.bound) x (Err unmoved.BadTable) (λ g. f (stood table n at.row at.bound g)) (λ _. bad-low)

  pub in_low : LowStep (step_in table n at)
  unfolding step_in
  in_low =
      asked_low (inward at.row R)
      (λ g. cond-case LowStep (ltb (at.row + 1) R.end) (Ok (standing (at.row + 1) R.end)) (Err unmoved.NoStep)
      (λ h. record { row_low = omega (arith, g.bounded, g.ends, ltb-true (at.row + 1) R.end h); bound_low = omega (arith, g.bounded, g.ends) })
      (λ _. none-low))

  pub on_low : LowStep (step_on table n at)
  unfolding step_on
  on_low =
      asked_low (onward at.bound R)
      (λ g. cond-case LowStep (ltb R.end at.bound) (Ok (standing R.end at.bound)) (Err unmoved.NoStep)
      (λ h. record { row_low = omega (arith, g.bounded, g.ends); bound_low = omega (arith, g.bounded) })
      (λ _. none-low))

  pub along_low : ((i : ℕ) → get_or table i 0 < 2 ^ 32) → LowStep (step_along table n at)
  unfolding step_along row_at
  along_low fit =
      asked_low (alongside table at.row R)
      (λ g. cond-case LowStep (eqb R.kind kind_reference) (cond (ltb R.w1 at.row) (Ok (standing R.w1 (row_at table R.w1).end)) (Err unmoved.BadTable)) (Err unmoved.NoStep)
      (λ _. cond-case LowStep (ltb R.w1 at.row) (Ok (standing R.w1 (row_at table R.w1).end)) (Err unmoved.BadTable)
      (λ h. record { row_low = omega (arith, g.below, ltb-true R.w1 at.row h); bound_low = fit (words_per_row * R.w1 + 1) })
      (λ _. bad-low))
      (λ _. none-low))

module _ (table : List ℕ) (n : ℕ) (at : Standing) (s : Step) where
  pub in_packs : s ≡ step_in table n at → n ≤ limit → LowStep s
  in_packs e few = subst LowStep (sym e) (in_low table n few at)

  pub on_packs : s ≡ step_on table n at → n ≤ limit → LowStep s
  on_packs e few = subst LowStep (sym e) (on_low table n few at)

  pub along_packs : ((i : ℕ) → get_or table i 0 < 2 ^ 32) → s ≡ step_along table n at → n ≤ limit → LowStep s
  along_packs fit e few = subst LowStep (sym e) (along_low table n few at fit)

-- ---- resolving

bad-small : SmallResolved broken
bad-small = record { row_small = omega arith; bound_small = omega arith; moves_small = omega arith }

-- a row where resolving stops is below n
stop_below : (table : List ℕ) (n row : ℕ) → move_at table n row ≡ Ok None → row < n
unfolding move_at
stop_below table n row =
    cond-case (λ (m : Move). m ≡ Ok None → row < n) (ltb row n) (move_from table n row (row_at table row)) broken
    (λ h _. ltb-true row n h)
    (λ _ e. absurd (let z : ◌≡◌ {A = ℕ} 0 1 = cc in omega arith))

module _ (table : List ℕ) (fit : (i : ℕ) → get_or table i 0 < 2 ^ 32) (n : ℕ) (few : n ≤ limit) where
  chased-small : (row moves : ℕ) (rest : ℕ → Result Resolved BadTable) → moves ≤ limit → ((next : ℕ) → SmallResolved (rest next)) → (m : Move) → move_at table n row ≡ m
      → SmallResolved (chased m (ended_at row (row_at table row).end moves) rest)
  unfolding row_at
  chased-small row moves rest l f (Ok None) e =
      record { row_small = omega (arith, stop_below table n row e); bound_small = fit (words_per_row * row + 1); moves_small = omega arith }
  chased-small row moves rest l f (Ok (Some next)) e = f next
  chased-small row moves rest l f (Err why) e = bad-small

  chase-small : (left row moves : ℕ) → moves + left ≤ limit → SmallResolved (chase table n left row moves)
  unfolding chase
  chase-small zero row moves l = bad-small
  chase-small (suc left) row moves l =
      chased-small row moves (λ next. chase table n left next (moves + 1)) (omega arith) (λ next. chase-small left next (moves + 1) (omega arith)) (move_at table n row) refl

  resolve-small : (row : ℕ) → SmallResolved (resolve table n row)
  unfolding resolve
  resolve-small row =
      cond-case SmallResolved (leb n (lent table)) (chase table n n row 0) broken
      (λ _. chase-small n row 0 (omega arith))
      (λ _. bad-small)

module _ (table : List ℕ) (fit : (i : ℕ) → get_or table i 0 < 2 ^ 32) (n row : ℕ) (r : Result Resolved BadTable) (e : r ≡ within n (resolve table n row) broken) where
  pub resolved_small : SmallResolved r
  unfolding within
  resolved_small =
      subst SmallResolved (sym e)
      (cond-case SmallResolved (leb n limit) (resolve table n row) broken
      (λ h. resolve-small table fit n (leb-true n limit h) row)
      (λ _. bad-small))

-- ---- payloads

front : SmallPart (part 0 0)
front = record { place_short = omega arith; size-short = omega arith }

module _ (table : List ℕ) (fit : (i : ℕ) → get_or table i 0 < 2 ^ 32) (row : ℕ) (s : List ℕ) (p : Part) (e : p ≡ payload_at table row s) where
  pub payload_short : SmallPart p
  unfolding payload_at row_at
  payload_short =
      subst SmallPart (sym e)
      (cond-case SmallPart (ltb row (lent table)) (part_of (row_at table row) s) (part 0 0)
      (λ _. cond-case SmallPart (has_payload (row_at table row).kind && leb ((row_at table row).w0 + (row_at table row).w1) (length s)) (part (row_at table row).w0 (row_at table row).w1) (part 0 0)
      (λ _. record { place_short = fit (words_per_row * row + 2); size-short = fit (words_per_row * row + 3) })
      (λ _. front))
      (λ _. front))

-- ---- variable integers: no form has more than 17 bytes

longer-few : (c : Form) → Takes 0 16 c → Takes 0 17 (longer c)
longer-few (is n used) h = omega arith
longer-few short h = tt
longer-few other h = tt

unmarked-few : (F : Family) (s : List ℕ) → Takes 0 17 (unmarked F s)
unfolding unmarked
unmarked-few F [] = tt
unmarked-few F (b ∷ s) =
    let k : ℕ = size_at (behind 256 F.first b) in
    cond-case (Takes 0 17) (has_byte F.direct b) _ _ (λ _. omega arith)
    (λ _. cond-case (Takes 0 17) (ltb (behind 256 F.first b) 8) _ _
    (λ h. longer-few (body F.signed k s)
    (cond-case (Takes 0 16) (leb k (length s)) _ _ (λ _. omega (arith, size_high (behind 256 F.first b) (ltb-true (behind 256 F.first b) 8 h))) (λ _. tt)))
    (λ _. tt))

coded-few : (sign : Bool) (s : List ℕ) → Takes 0 17 (coded (variable sign) s)
unfolding coded marked
coded-few sign [] = tt
coded-few true (b ∷ s) = cond-case (Takes 0 17) (has_byte (variable true).alone b) _ _ (λ _. omega arith) (λ _. unmarked-few (variable true) (b ∷ s))
coded-few false (b ∷ s) = cond-case (Takes 0 17) (has_byte (variable false).alone b) _ _ (λ _. omega arith) (λ _. unmarked-few (variable false) (b ∷ s))

used_few : (c : Form) → Takes 0 17 c → read_used (read_as c) ≤ 17
used_few (is n used) h = h.1
used_few short h = omega arith
used_few other h = omega arith

reads-few : (sign : Bool) (s : List ℕ) → read_used (read_of (variable sign) s) ≤ 17
unfolding read_of
reads-few sign s = used_few (coded (variable sign) s) (coded-few sign s)

pub unsigned_used : (s : List ℕ) (r : Result Got Short) → r ≡ read_of unsigned s → read_used r < 2 ^ 56
unsigned_used s r e = omega (arith, reads-few false s, ap read_used e)

pub signed_used : (s : List ℕ) (r : Result Got Short) → r ≡ read_of signed s → read_used r < 2 ^ 56
signed_used s r e = omega (arith, reads-few true s, ap read_used e)

-- what is written is read back, with as many bytes
form-few : (sign : Bool) (w : Wide) → Words w → length (form (variable sign) (value_of w)) ≤ 17
form-few sign w h =
    let f : List ℕ = form (variable sign) (value_of w) in
    omega (arith, reads-few sign (output_of f f), ap read_used (write_read sign w f h (omega arith)))

coded-few-bytes : (sign : Bool) (w : Wide) (room : ℕ) → Words w → coded_beside (written_of (form (variable sign) (value_of w)) room) ≤ 17
unfolding written_of
coded-few-bytes sign w room h =
    let L : ℕ = length (form (variable sign) (value_of w)) in
    let l : L ≤ 17 = form-few sign w h in
    cond-case (λ (x : Result ℕ NoRoom). coded_beside x ≤ 17) (leb L room) (Ok L) (Err (needs L)) (λ _. l) (λ _. l)

module _ (w0 w1 w2 w3 room : ℕ) (h0 : Fits w32 w0) (h1 : Fits w32 w1) (h2 : Fits w32 w2) (h3 : Fits w32 w3) (a : Result ℕ NoRoom) where
  few : (sign : Bool) → a ≡ written_of (form (variable sign) (value_of (words w0 w1 w2 w3))) room → coded_beside a < 2 ^ 56
  few sign e = omega (arith, coded-few-bytes sign (words w0 w1 w2 w3) room (record { f0 = h0.fits; f1 = h1.fits; f2 = h2.fits; f3 = h3.fits }), ap coded_beside e)

  pub unsigned-few : a ≡ written_of (form unsigned (value_of (words w0 w1 w2 w3))) room → coded_beside a < 2 ^ 56
  unsigned-few = few false

  pub signed-few : a ≡ written_of (form signed (value_of (words w0 w1 w2 w3))) room → coded_beside a < 2 ^ 56
  signed-few = few true
