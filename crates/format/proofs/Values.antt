-- A tree that is read has no more rows than bytes and ends within the stop; a refusal's place is within the stop, too. By induction on the levels left, inside that on the count of children. Assumes nothing.
use Rattle.std.specs.Prelude.{Result, Ok, Err}
use mathlib.Core.Path.{◌≡◌, sym, ap, subst, ◌∙◌}
use mathlib.Core.Bool.{Bool, true, false}
use mathlib.Core.List.{List}
use Prim.Native.Nat.{ℕ, zero, suc, ◌+◌, ◌≤◌, ◌<◌}
use native.Mathlib.Omega.{arith}
use lib.ListN.{length}
use lib.Dec.{ltb, eqb}
use borrow.Author.Tests.{eqb-true}
use Rattle.wide.proofs.Ranks.{bool_case}
use Rattle.rows.specs.Table.{Own}
use Rattle.rows.specs.Kinds.{holder_own}
use Rattle.format.specs.declared.refused.Refused.{Refused}
use Rattle.format.specs.declared.refusal.Refusal.{Refusal}
use Rattle.format.specs.declared.refusal.Refusal.TheVariants as why
use Rattle.format.specs.declared.head.Spelling.{Spelling}
use Rattle.format.specs.declared.head.Head.{Head}
use Rattle.format.specs.declared.head.Head.TheVariants.{Leaf, Hold, Refer, Declare, Foreign}
use Rattle.format.specs.declared.head.Children.{Children}
use Rattle.format.specs.declared.head.Children.TheVariants.{Entries}
use Rattle.format.specs.Refusal.{refusal_number}
use Rattle.format.specs.Tree.{Tree, Trees, size, sizes}
use Rattle.format.specs.Head.{head_at, key_at}
use Rattle.format.specs.Value.{Reading, right, wrong, Readings, ran, broke, Reader, kind_of, child_count, children_of, keyed, is_key, in_force, in_turn, child, ahead, follow, readings, holding, referred, closed, declaring, ended, whole, framed, in_foreign, step, value, document}
use Rattle.format.proofs.Heads.{CountAt, ForeignAt, Stood, head_stood, Spelled, key_spelled}

-- ---- "w2 verdict (2..10)"

pub record Verdict (n : ℕ) : Type 0 where
  pub low : 2 ≤ n
  pub high : n ≤ 10

pub verdict : (e : Refusal) → Verdict (refusal_number e)
verdict why.Short = omega arith
verdict why.Marker = omega arith
verdict why.Huge = omega arith
verdict why.Text = omega arith
verdict why.Char = omega arith
verdict why.NoEntry = omega arith
verdict why.Empty = omega arith
verdict why.Deep = omega arith
verdict why.Extra = omega arith

pub verdict-low : (e : Refusal) → 2 ≤ refusal_number e
verdict-low e = (verdict e).low

pub verdict_high : (e : Refusal) → refusal_number e ≤ 10
verdict_high e = (verdict e).high

-- ---- what a reading may be relied on for

-- "A document needs no more rows than it has bytes", and so a position
pub record RightAt (at stop : ℕ) (t : Tree) (next : ℕ) : Type 0 where
  pub some : 1 ≤ size t
  pub rows : at + size t ≤ next
  pub within : next ≤ stop

pub record WrongAt (at stop place : ℕ) : Type 0 where
  pub from : at ≤ place
  pub within : at ≤ stop → place ≤ stop

abbrev pub ReadAt : ℕ → ℕ → Reading → Type 0
ReadAt at stop (right t next) = RightAt at stop t next
ReadAt at stop (wrong e place) = WrongAt at stop place

pub record RanAt (at stop : ℕ) (ts : Trees) (next : ℕ) : Type 0 where
  pub rows : at + sizes ts ≤ next
  pub within : next ≤ stop

pub record BrokeAt (at stop place : ℕ) : Type 0 where
  pub from : at ≤ place
  pub within : place ≤ stop

abbrev pub RunAt : ℕ → ℕ → Readings → Type 0
RunAt at stop (ran ts next) = RanAt at stop ts next
RunAt at stop (broke e place) = BrokeAt at stop place

here : (at stop : ℕ) → WrongAt at stop at
here at stop = omega arith

keyed_read : (s : List ℕ) (at stop : ℕ) (x : Result Spelling Refusal) → Spelled s at stop x → ReadAt at stop (keyed at x)
unfolding size
keyed_read s at stop (Ok x) k = record { some = omega arith; rows = omega arith; within = k.within }
keyed_read s at stop (Err e) k = here at stop

-- ---- children

ahead-run : (at m stop : ℕ) (t : Tree) → RightAt at stop t m → (y : Readings) → RunAt m stop y → RunAt at stop (ahead t y)
unfolding sizes
ahead-run at m stop t h (ran ts next) k = record { rows = omega arith; within = k.within }
ahead-run at m stop t h (broke e place) k = omega arith

follow-run : (at stop : ℕ) → at ≤ stop → (x : Reading) → ReadAt at stop x → (rest : ℕ → Readings) → ((m : ℕ) → m ≤ stop → RunAt m stop (rest m)) → RunAt at stop (follow x rest)
follow-run at stop a (right t m) h rest g = ahead-run at m stop t h (rest m) (g m h.within)
follow-run at stop a (wrong e place) h rest g = record { from = h.from; within = h.within a }

held_read : (at from stop : ℕ) (o : Own) → at < from → (y : Readings) → RunAt from stop y → ReadAt at stop (holding o y)
unfolding size
held_read at from stop o h (ran ts next) r = record { some = omega arith; rows = omega arith; within = r.within }
held_read at from stop o h (broke e place) r = omega arith

closed_read : (at from m stop n : ℕ) (es : Trees) → at < from → RanAt from stop es m → (x : Reading) → ReadAt m stop x → ReadAt at stop (closed n es x)
unfolding size
closed_read at from m stop n es h r (right t next) k = record { some = omega arith; rows = omega arith; within = k.within }
closed_read at from m stop n es h r (wrong e place) k =
    let p : place ≤ stop = k.within r.within in
    record { from = omega arith; within = λ _. p }

declaring_read : (at from stop n : ℕ) → at < from → (y : Readings) → RunAt from stop y → (R : Reader) → ((m : ℕ) → ReadAt m stop (R n m stop)) → ReadAt at stop (declaring n y R stop)
declaring_read at from stop n h (ran es m) r R g = closed_read at from m stop n es h r (R n m stop) (g m)
declaring_read at from stop n h (broke e place) r R g = omega arith

pub whole_read : (at stop : ℕ) (x : Reading) → ReadAt at stop x → ReadAt at stop (whole stop x)
whole_read at stop (right t next) k = go (eqb next stop)
  where
    go : (b : Bool) → ReadAt at stop (ended b t next)
    go true = k
    go false = omega arith
whole_read at stop (wrong e place) k = k

framed_read : (at stop place n : ℕ) → ForeignAt at stop place n → (x : Reading) → ReadAt place (place + n) x → ReadAt at stop (framed place n x)
unfolding size
framed_read at stop place n f (right t next) k = record { some = omega arith; rows = omega arith; within = f.within }
framed_read at stop place n f (wrong e p) k = record { some = omega arith; rows = omega arith; within = f.within }

referred_read : (at stop n next : ℕ) (b : Bool) → CountAt at stop n next → ReadAt at stop (referred b n at next)
unfolding size
referred_read at stop n next true k = record { some = omega arith; rows = omega arith; within = k.within }
referred_read at stop n next false k = here at stop

module _ (R : Reader) (good : (k at stop : ℕ) → ReadAt at stop (R k at stop)) (s : List ℕ) where
  turn_read : (b : Bool) (k at stop : ℕ) → ReadAt at stop (in_turn b R s k at stop)
  turn_read true k at stop = keyed_read s at stop (key_at s at stop) (key_spelled s at stop)
  turn_read false k at stop = good k at stop

  child_read : (c : Children) (k i at stop : ℕ) → ReadAt at stop (child c R s k i at stop)
  unfolding child
  child_read c k i at stop = turn_read (is_key c i) (in_force c k i) at stop

  run_read : (c : Children) (k i n at stop : ℕ) → at ≤ stop → RunAt at stop (readings R c s k i n at stop)
  unfolding readings sizes
  run_read c k i zero at stop h = record { rows = omega arith; within = h }
  run_read c k i (suc n) at stop h = follow-run at stop h (child c R s k i at stop) (child_read c k i at stop) _ (λ m g. run_read c k (i + 1) n m stop g)

  step_read : (k at stop : ℕ) (h : Result Head Refused) → Stood s at stop h → ReadAt at stop (step R s k at stop h)
  unfolding step size
  step_read k at stop (Ok (Leaf c next)) w = record { some = omega arith; rows = omega arith; within = w.within }
  step_read k at stop (Ok (Hold h n next)) w =
      held_read at next stop (holder_own (kind_of h) n) w.after
      (readings R (children_of h) s k 0 (child_count h n) next stop) (run_read (children_of h) k 0 (child_count h n) next stop w.within)
  step_read k at stop (Ok (Refer n next)) w = referred_read at stop n next (ltb n k) w
  step_read k at stop (Ok (Declare n next)) w =
      declaring_read at next stop n w.after (readings R Entries s 0 0 n next stop) (run_read Entries 0 0 n next stop w.within) R (λ m. good n m stop)
  step_read k at stop (Ok (Foreign place n)) w =
      let e : ℕ = place + n in
      framed_read at stop place n w (whole e (R (in_foreign k) place e)) (whole_read place e (R (in_foreign k) place e) (good (in_foreign k) place e))
  step_read k at stop (Err x) w = omega arith

-- what a value position is read as
pub value_read : (d : ℕ) (s : List ℕ) (k at stop : ℕ) → ReadAt at stop (value d s k at stop)
unfolding value
value_read zero s k at stop = here at stop
value_read (suc d) s k at stop = step_read (value d s) (value_read d s) s k at stop (head_at s at stop) (head_stood s at stop)

pub values_run : (d : ℕ) (c : Children) (s : List ℕ) (k i n at stop : ℕ) → at ≤ stop → RunAt at stop (readings (value d s) c s k i n at stop)
values_run d c s k i n at stop h = run_read (value d s) (value_read d s) s c k i n at stop h

pub values_child : (d : ℕ) (c : Children) (s : List ℕ) (k i at stop : ℕ) → ReadAt at stop (child c (value d s) s k i at stop)
values_child d c s k i at stop = child_read (value d s) (value_read d s) s c k i at stop

-- ---- one law for each part

module _ (d : ℕ) (s : List ℕ) (k at stop : ℕ) (t : Tree) (next : ℕ) (read : value d s k at stop ≡ right t next) where
  pub right_at : RightAt at stop t next
  right_at = subst (ReadAt at stop) read (value_read d s k at stop)

  pub value_within : next ≤ stop
  value_within = right_at.within

  -- a position has no more rows than bytes
  pub value-rows : at + size t ≤ next
  value-rows = right_at.rows

  pub value-some : 1 ≤ size t
  value-some = right_at.some

module _ (d : ℕ) (s : List ℕ) (k at stop : ℕ) (e : Refusal) (place : ℕ) (read : value d s k at stop ≡ wrong e place) where
  pub wrong_at : WrongAt at stop place
  wrong_at = subst (ReadAt at stop) read (value_read d s k at stop)

  pub wrong-from : at ≤ place
  wrong-from = wrong_at.from

  pub wrong_within : at ≤ stop → place ≤ stop
  wrong_within h = wrong_at.within h

module _ (d : ℕ) (c : Children) (s : List ℕ) (k i n at stop : ℕ) (h : at ≤ stop) (ts : Trees) (next : ℕ) (read : readings (value d s) c s k i n at stop ≡ ran ts next) where
  pub ran_at : RanAt at stop ts next
  ran_at = subst (RunAt at stop) read (values_run d c s k i n at stop h)

  pub run_within : next ≤ stop
  run_within = ran_at.within

-- ---- a document

pub whole_both : (stop : ℕ) (x : Reading) (t : Tree) (next : ℕ) → whole stop x ≡ right t next → (x ≡ right t next) × (next ≡ stop)
whole_both stop (right u m) t next e = bool_case (eqb m stop) (λ b. yes (sym (ended_yes b) ∙ e) (eqb-true m stop b)) (λ b. no (sym (ended_no b) ∙ e))
  where
    ended_yes : eqb m stop ≡ true → ended (eqb m stop) u m ≡ right u m
    ended_yes b = ap (λ (v : Bool). ended v u m) b

    ended_no : eqb m stop ≡ false → ended (eqb m stop) u m ≡ wrong why.Extra m
    ended_no b = ap (λ (v : Bool). ended v u m) b

    yes : right u m ≡ right t next → m ≡ stop → (right u m ≡ right t next) × (next ≡ stop)
    yes q b = (q, cc)

    no : wrong why.Extra m ≡ right t next → (right u m ≡ right t next) × (next ≡ stop)
    no q = absurd (let z : ◌≡◌ {A = ℕ} 0 1 = cc in omega arith)
whole_both stop (wrong x p) t next e = absurd (let z : ◌≡◌ {A = ℕ} 0 1 = cc in omega arith)

whole_within : (at stop : ℕ) → at ≤ stop → (x : Reading) → ReadAt at stop x → (e : Refusal) (place : ℕ) → whole stop x ≡ wrong e place → place ≤ stop
whole_within at stop h (right u m) k e place q = go (eqb m stop) q
  where
    go : (b : Bool) → ended b u m ≡ wrong e place → place ≤ stop
    go true q = absurd (let z : ◌≡◌ {A = ℕ} 0 1 = cc in omega arith)
    go false q = let z : m ≡ place = cc in omega arith
whole_within at stop h (wrong x p) k e place q = let z : p ≡ place = cc in subst (λ (m : ℕ). m ≤ stop) z (k.within h)

module _ (depth : ℕ) (s : List ℕ) (t : Tree) (next : ℕ) (read : document depth s ≡ right t next) where
  both : (value (suc depth) s 0 0 (length s) ≡ right t next) × (next ≡ length s)
  unfolding document
  both = whole_both (length s) (value (suc depth) s 0 0 (length s)) t next read

  -- its value position
  pub document-value : value (suc depth) s 0 0 (length s) ≡ right t next
  document-value = both.0

  pub document-next : next ≡ length s
  document-next = both.1

  -- "A document needs no more rows than it has bytes."
  pub document-rows : size t ≤ length s
  document-rows = omega (arith, value-rows (suc depth) s 0 0 (length s) t next document-value, document-next)

  pub document-some : 1 ≤ size t
  document-some = value-some (suc depth) s 0 0 (length s) t next document-value

pub document_read : (depth : ℕ) (s : List ℕ) → ReadAt 0 (length s) (document depth s)
unfolding document
document_read depth s = whole_read 0 (length s) (value (suc depth) s 0 0 (length s)) (value_read (suc depth) s 0 0 (length s))

pub document_within : (depth : ℕ) (s : List ℕ) (e : Refusal) (place : ℕ) → document depth s ≡ wrong e place → place ≤ length s
unfolding document
document_within depth s e place q =
    whole_within 0 (length s) (omega arith) (value (suc depth) s 0 0 (length s)) (value_read (suc depth) s 0 0 (length s)) e place q
