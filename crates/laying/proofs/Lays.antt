-- Laying by each way out of the code: what a position's parts ask where the position reads right and its rows are lent, and what is done for it
-- when they are done. Assumes nothing.
use Rattle.std.specs.Prelude.{Option, Some, None, Result, Ok, Err, IsOk}
use mathlib.Core.Path.{◌≡◌, ◌∙◌, sym, ap, refl, subst}
use mathlib.Core.Bool.{Bool, true, false, cond}
use mathlib.Core.List.{List}
use Prim.Native.Nat.{ℕ, ◌+◌, ◌-◌, ◌*◌, ◌≤◌, ◌<◌}
use native.Mathlib.Omega.{arith}
use lib.ListN.{length, get_or, take, drop}
use lib.Seq.{sets}
use lib.Dec.{leb}
use mir.Syntax.{w64}
use mir.Val.{Fits}
use Rattle.wide.specs.Members.{key_length}
use Rattle.wide.proofs.Numbers.{either}
use Rattle.std.specs.Prelude.{Ok, Err}
use Rattle.text.specs.Check.{Text, text_of}
use Rattle.rows.specs.declared.row.Row.{Row}
use Rattle.rows.specs.Table.{words_per_row, Own, row_of, words_of, lent, limit}
use Rattle.rows.specs.Kinds.{kind_key, span_own, holder_own, reference_own, declaration_own, foreign_own, damaged_own, leaf_row}
use Rattle.format.specs.declared.refused.Refused.{Refused}
use Rattle.format.specs.declared.refusal.Refusal.{Refusal}
use Rattle.format.specs.declared.refusal.Refusal.TheVariants as why
use Rattle.format.specs.declared.head.Count.{Count}
use Rattle.format.specs.declared.head.Spelling.{Spelling}
use Rattle.format.specs.declared.head.Content.{Content}
use Rattle.format.specs.declared.head.Content.TheVariants as holds
use Rattle.format.specs.declared.head.Holder.{Holder}
use Rattle.format.specs.declared.head.Head.{Head}
use Rattle.format.specs.declared.head.Head.TheVariants.{Leaf, Hold, Refer, Declare, Foreign}
use Rattle.format.specs.declared.head.Children.{Children}
use Rattle.format.specs.declared.head.Children.TheVariants.{Entries}
use Rattle.format.specs.Refusal.{refusal_number}
use Rattle.format.specs.Tree.{leaf, refer, damaged, many, size}
use Rattle.format.specs.Head.{spells, refuse, count_at, spelled, spelling, spelling_of, head_at, key_at}
use Rattle.format.specs.Value.{Reading, right, wrong, Readings, leaf_own, kind_of, child_count, children_of, keyed, child, is_key, in_force, readings, holding, declaring, whole, framed, in_foreign, value}
use Rattle.format.specs.Layout.{layout}
use Rattle.format.proofs.Heads as heads
use Rattle.format.proofs.Steps as clauses
use Rattle.format.proofs.Values.{ReadAt, value_read, whole_read}
use Rattle.heads.proofs.Positions.{head_missing, head_refer}
use Rattle.measure.specs.Inner.{harmed, measured_of, place_and_row, place_in, row_in, told, is_broken, number_wrong}
use Rattle.measure.proofs.Numbers.{ReadRight, read_right, read_wrong, wrong-number}
use Rattle.registry.specs.Inner.{walk, Below, first_in, Based, base_of}
use Rattle.registry.proofs.Walks.{chain_at, entry-based, entry-below}
use Rattle.leaves.specs.Inner.{Known, ContentInside, LeafLaid}
use Rattle.laying.specs.Inner.{KeyLaid, Damaged, Right, tree_read, trees_read, next_of, Ready, Did, NotLaid, OneLaid, OneTried, ReadyAll, DidAll}
use Rattle.laying.proofs.Children.{Laying, laying_next, laying_ready, run-many}
use Rattle.laying.proofs.Steps.{Laid}
use Rattle.laying.proofs.Steps as steps
use Rattle.laying.proofs.Views.{framed-whole}

-- a refusal is not right
never : (X : Type 0) (P : Reading) (e : Refusal) (p : ℕ) → P ≡ wrong e p → Right P → X
unfolding Right
never X P e p q r = absurd (subst Right q r)

-- ---- one row laid

laid-row : (table : List ℕ) (row next : ℕ) (o : Own) (q : Row) (table' : List ℕ) (f : ℕ) → q ≡ leaf_row o row → table' ≡ sets table (words_per_row * row) (words_of q)
    → f ≡ place_and_row next (row + 1) → Laid table row o next table' f
laid-row table row next o q table' f e g p = record { put = g ∙ ap (λ (x : Row). sets table (words_per_row * row) (words_of x)) e; past = p }

-- ---- a sane content

sane_of : (s : List ℕ) (c : Content) (at next : ℕ) → heads.ContentAt s at next c → next ≤ length s → length s ≤ limit → ContentInside s c
sane_of s (holds.Constant kind) at next k h l = tt
sane_of s (holds.Small marker) at next k h l = tt
sane_of s (holds.Integer signed place n) at next k h l = record { some = k.some; few = k.few; inside = omega (arith, k.ends) }
sane_of s (holds.Span kind place n) at next k h l = record { place-low = omega (arith, k.ends); size_low = omega (arith, k.ends) }
sane_of s (holds.Char codepoint) at next k h l = tt

pub head_sane : (s : List ℕ) (at stop : ℕ) (c : Content) (next : ℕ) → Ok (Leaf c next) ≡ head_at s at stop → stop ≤ length s → length s ≤ limit → ContentInside s c
head_sane s at stop c next head a b =
    let w = heads.leaf_at s at stop (Ok (Leaf c next)) head c next refl in
    sane_of s c at next w.content (omega (arith, w.within)) b

-- ---- keys

-- the text of a key that reads right is not asked again
key_spelt : (s : List ℕ) (at place n stop : ℕ) → Right (keyed at (spelling s place n stop)) → spelling s place n stop ≡ Ok (spells place n)
unfolding Right
key_spelt s at place n stop g = of (leb n (stop - place)) (text_of (take n (drop place s))) g
  where
    of : (b : Bool) (x : Text) → Right (keyed at (cond b (spelled place n x) (Err why.Short))) → cond b (spelled place n x) (Err why.Short) ≡ Ok (spells place n)
    of true (Ok u) k = refl
    of true (Err i) k = absurd k
    of false x k = absurd k

module _ (s : List ℕ) (at stop : ℕ) (good : Right (keyed at (key_at s at stop))) (c : Result Count Refusal) (count : c ≡ count_at key_length s at stop) where
  -- it has a length
  pub key_never : (X : Type 0) (e : Refusal) → c ≡ Err e → X
  unfolding key_at
  key_never X e q = never X (keyed at (key_at s at stop)) e at (ap (λ (x : Result Count Refusal). keyed at (spelling_of s stop x)) (sym count ∙ q)) good

  pub key_ok : IsOk c
  key_ok = of c refl
    where
      of : (x : Result Count Refusal) → c ≡ x → IsOk x
      of (Ok y) e = refl
      of (Err x) e = key_never _ x e

  module _ (y : Count) (q : c ≡ Ok y) where
    key_is : key_at s at stop ≡ Ok (spells y.next y.value)
    unfolding key_at
    key_is =
        let same : key_at s at stop ≡ spelling s y.next y.value stop = ap (spelling_of s stop) (sym count ∙ q) in
        same ∙ key_spelt s at y.next y.value stop (subst (λ (x : Result Spelling Refusal). Right (keyed at x)) same good)

    pub key_done : (table : List ℕ) (row : ℕ) (w : Row) → w ≡ leaf_row (span_own kind_key y.next y.value) row → (table' : List ℕ) → table' ≡ sets table (words_per_row * row) (words_of w)
        → KeyLaid (key_at s at stop) table row table' (y.next + y.value)
    key_done table row w ew table' g =
        record { place = y.next; size = y.value; is = key_is; ends = refl; put = g ∙ ap (λ (x : Row). sets table (words_per_row * row) (words_of x)) ew }

    module _ (a : stop ≤ length s) (b : length s ≤ limit) where
      key_past : y.next + y.value ≤ limit
      key_past = omega (arith, heads.key_within s at stop (key_at s at stop) refl y.next y.value key_is)

      pub key_fits_lem : Fits w64 (y.next + y.value)
      key_fits_lem = omega (arith, key_past)

      pub key_place : y.next ≤ limit
      key_place = omega (arith, key_past)

      pub key_size : y.value ≤ limit
      key_size = omega (arith, key_past)

-- ---- a value position

module _ (d : ℕ) (s : List ℕ) (k at stop : ℕ) (doubt : Bool) (table : List ℕ) (row base : ℕ) (r : Ready (value d s k at stop) doubt table row base k) where
  left : d ≡ 0 → ⊥
  left z = never ⊥ (value d s k at stop) why.Deep at (clauses.value_deep d s k at stop z) r.good

  pub levels_left : 1 ≤ d
  levels_left = either 1 d (λ (h : 1 ≤ d). h) (λ (h : d < 1). absurd (left (omega arith)))

  never_refused : (X : Type 0) (h : Result Head Refused) → h ≡ head_at s at stop → (e : Refusal) (p : ℕ) → h ≡ refuse e p → X
  never_refused X h head e p q =
      never X (value d s k at stop) e p (clauses.value-left d s k at stop (wrong e p) left (clauses.value_refuse (d - 1) s k at stop h head e p q)) r.good

  pub head_known : Known (head_at s at stop)
  head_known = of (head_at s at stop) refl
    where
      of : (h : Result Head Refused) → h ≡ head_at s at stop → Known h
      of (Ok (Leaf c n)) e = tt
      of (Ok (Hold x n next)) e = tt
      of (Ok (Refer n next)) e = tt
      of (Ok (Declare n next)) e = tt
      of (Ok (Foreign p n)) e = tt
      of (Err w) e = never_refused ⊥ (refuse w.why w.place) e w.why w.place refl

  pub head_there : at < stop
  head_there =
      either stop at (λ (h : stop ≤ at). never_refused (at < stop) (refuse why.Short at) (head_missing s at stop h) why.Short at refl) (λ (h : at < stop). h)

  -- nothing was laid
  module _ (table' : List ℕ) (same : table' ≡ table) where
    pub plain_ready : Ready (value d s k at stop) doubt table' row base k
    plain_ready = subst (λ (x : List ℕ). Ready (value d s k at stop) doubt x row base k) (sym same) r

    pub plain_not : (table'' : List ℕ) (f : ℕ) → Did (value d s k at stop) table' row (first_in base) k table'' f → Did (value d s k at stop) table row (first_in base) k table'' f
    plain_not table'' f u = subst (λ (x : List ℕ). Did (value d s k at stop) x row (first_in base) k table'' f) same u

  -- or its leaf
  module _ (table' : List ℕ) (next : ℕ) (w : LeafLaid (head_at s at stop) s table row table' next) where
    pub plain-next : stop ≤ length s → length s ≤ limit → next ≤ limit
    plain-next a b = omega (arith, heads.leaf_within s at stop (head_at s at stop) refl w.content next w.is)

    pub plain_done : stop ≤ length s → length s ≤ limit → (f : ℕ) → f ≡ place_and_row next (row + 1) → Did (value d s k at stop) table row (first_in base) k table' f
    unfolding layout size
    plain_done a b f e =
        steps.one-laid (value d s k at stop) (leaf (leaf_own s w.content)) (leaf_own s w.content) next table row (first_in base) k
        (clauses.value-left d s k at stop _ left (clauses.value-leaf (d - 1) s k at stop (head_at s at stop) refl w.content next w.is))
        refl refl (plain-next a b) (steps.ready_past _ doubt table row base k r) table' f (record { put = w.put; past = e })

  -- a leaf
  module _ (c : Content) (next : ℕ) (head : Ok (Leaf c next) ≡ head_at s at stop) (a : stop ≤ length s) (b : length s ≤ limit) where
    pub leaf-next : next ≤ limit
    leaf-next = omega (arith, heads.leaf_within s at stop (Ok (Leaf c next)) head c next refl)

    pub leaf_done : (q : Row) → q ≡ leaf_row (leaf_own s c) row → (table' : List ℕ) → table' ≡ sets table (words_per_row * row) (words_of q)
        → (f : ℕ) → f ≡ place_and_row next (row + 1) → Did (value d s k at stop) table row (first_in base) k table' f
    unfolding layout size
    leaf_done q eq table' g f p =
        steps.one-laid (value d s k at stop) (leaf (leaf_own s c)) (leaf_own s c) next table row (first_in base) k
        (clauses.value-left d s k at stop _ left (clauses.value-leaf (d - 1) s k at stop (Ok (Leaf c next)) head c next refl))
        refl refl leaf-next (steps.ready_past _ doubt table row base k r) table' f (laid-row table row next (leaf_own s c) q table' f eq g p)

  -- a reference
  module _ (n next : ℕ) (head : Ok (Refer n next) ≡ head_at s at stop) where
    refer_force : n < k
    refer_force =
        either k n
        (λ (g : k ≤ n). never (n < k) (value d s k at stop) why.NoEntry at (clauses.value-left d s k at stop _ left (clauses.value_no_entry (d - 1) s k at stop (Ok (Refer n next)) head n next refl g)) r.good)
        (λ (g : n < k). g)

    refer-is : value d s k at stop ≡ right (refer (reference_own n 0)) next
    refer-is = clauses.value-left d s k at stop _ left (clauses.value-refer (d - 1) s k at stop (Ok (Refer n next)) head n next refl refer_force)

    pub refer-below : Below table (first_in base) n row
    refer-below = entry-below table (first_in base) k n row r.below refer_force

    pub refer-based : Based table base (n + 1)
    refer-based = entry-based table base k n r.based refer_force

    pub refer-few : n ≤ limit
    refer-few = heads.refer-few s at stop (Ok (Refer n next)) head n next refl

    pub refer-many : n < 4294967296
    refer-many = omega (arith, refer-few)

    pub refer-entry : (w : ℕ) → w ≡ walk table (first_in base) n → w ≤ limit
    unfolding Below
    refer-entry w ew = omega (arith, ew, r.below n refer_force, steps.ready_low _ doubt table row base k r)

    -- its row, and the place behind it
    refer-size : size (tree_read (value d s k at stop)) ≡ 1
    unfolding tree_read size
    refer-size = ap (λ (x : Reading). size (tree_read x)) refer-is

    refer-ends : next_of (value d s k at stop) ≡ next
    unfolding next_of
    refer-ends = ap next_of refer-is

    module _ (a : stop ≤ length s) (b : length s ≤ limit) where
      pub refer-next : next ≤ limit
      refer-next = omega (arith, heads.refer_within s at stop (Ok (Refer n next)) head n next refl)

      pub refer_done : (entry : ℕ) → entry ≡ walk table (first_in base) n → (q : Row) → q ≡ leaf_row (reference_own n entry) row
          → (table' : List ℕ) → table' ≡ sets table (words_per_row * row) (words_of q) → (f : ℕ) → f ≡ place_and_row next (row + 1) → Did (value d s k at stop) table row (first_in base) k table' f
      unfolding layout size
      refer_done entry ee q eq table' g f p =
          let w : ℕ = walk table (first_in base) n in
          steps.one-laid (value d s k at stop) (refer (reference_own n 0)) (reference_own n w) next table row (first_in base) k refer-is refl
          (ap (λ (x : ℕ). words_of (leaf_row (reference_own n x) row)) (chain_at table (first_in base) k n refer_force))
          refer-next (steps.ready_past _ doubt table row base k r) table' f
          (laid-row table row next (reference_own n w) q table' f (eq ∙ ap (λ (x : ℕ). leaf_row (reference_own n x) row) ee) g p)

  -- by its head
  module _ (h : Result Head Refused) (head : h ≡ head_at s at stop) where
    -- it is no refusal
    pub refuse_never : (X : Type 0) (e : Refusal) (p : ℕ) → h ≡ refuse e p → X
    refuse_never X e p q = never_refused X h head e p q

    pub head_ok : IsOk h
    head_ok = of h refl
      where
        of : (x : Result Head Refused) → h ≡ x → IsOk x
        of (Ok g) e = refl
        of (Err w) e = refuse_never _ w.why w.place e

    -- a holder, a declaration, a foreign body: one function each
    module _ (x : Holder) (n next : ℕ) (g : Head) (ok : h ≡ Ok g) (e : g ≡ Hold x n next) where
      hold-is : value d s k at stop ≡ holding (holder_own (kind_of x) n) (readings (value (d - 1) s) (children_of x) s k 0 (child_count x n) next stop)
      hold-is = clauses.value-left d s k at stop _ left (clauses.value-hold (d - 1) s k at stop h head x n next (ok ∙ ap Ok e))

      pub hold_within : next ≤ stop
      hold_within = heads.hold_within s at stop h head x n next (ok ∙ ap Ok e)

      pub hold-few : n ≤ limit
      hold-few = heads.hold-few s at stop h head x n next (ok ∙ ap Ok e)

      pub hold_ready : Ready (holding (holder_own (kind_of x) n) (readings (value (d - 1) s) (children_of x) s k 0 (child_count x n) next stop)) doubt table row base k
      hold_ready = steps.ready_as _ _ doubt table row base k hold-is r

      pub hold_done : (table' : List ℕ) (f : ℕ) → Did (holding (holder_own (kind_of x) n) (readings (value (d - 1) s) (children_of x) s k 0 (child_count x n) next stop)) table row (first_in base) k table' f
          → Did (value d s k at stop) table row (first_in base) k table' f
      hold_done table' f t = steps.did_as _ _ table row (first_in base) k table' f hold-is t

    module _ (n next : ℕ) (g : Head) (ok : h ≡ Ok g) (e : g ≡ Declare n next) where
      declare-is : value d s k at stop ≡ declaring n (readings (value (d - 1) s) Entries s 0 0 n next stop) (value (d - 1) s) stop
      declare-is = clauses.value-left d s k at stop _ left (clauses.value-declare (d - 1) s k at stop h head n next (ok ∙ ap Ok e))

      pub declare_within : next ≤ stop
      declare_within = heads.declare_within s at stop h head n next (ok ∙ ap Ok e)

      pub declare-few : n ≤ limit
      declare-few = heads.declare-few s at stop h head n next (ok ∙ ap Ok e)

      pub declare_ready : Ready (declaring n (readings (value (d - 1) s) Entries s 0 0 n next stop) (value (d - 1) s) stop) doubt table row base k
      declare_ready = steps.ready_as _ _ doubt table row base k declare-is r

      pub declare_done : (table' : List ℕ) (f : ℕ) → Did (declaring n (readings (value (d - 1) s) Entries s 0 0 n next stop) (value (d - 1) s) stop) table row (first_in base) k table' f
          → Did (value d s k at stop) table row (first_in base) k table' f
      declare_done table' f t = steps.did_as _ _ table row (first_in base) k table' f declare-is t

    module _ (p n : ℕ) (g : Head) (ok : h ≡ Ok g) (e : g ≡ Foreign p n) where
      foreign-is : value d s k at stop ≡ framed p n (whole (p + n) (value (d - 1) s (in_foreign k) p (p + n)))
      foreign-is = clauses.value-left d s k at stop _ left (clauses.value-foreign (d - 1) s k at stop h head p n (ok ∙ ap Ok e))

      pub foreign_ready : Ready (framed p n (whole (p + n) (value (d - 1) s (in_foreign k) p (p + n)))) doubt table row base k
      foreign_ready = steps.ready_as _ _ doubt table row base k foreign-is r

      pub foreign_done : (table' : List ℕ) (f : ℕ) → Did (framed p n (whole (p + n) (value (d - 1) s (in_foreign k) p (p + n)))) table row (first_in base) k table' f
          → Did (value d s k at stop) table row (first_in base) k table' f
      foreign_done table' f t = steps.did_as _ _ table row (first_in base) k table' f foreign-is t

-- what stands there, by the arm of the code
module _ (s : List ℕ) (at stop : ℕ) (h : Result Head Refused) (head : h ≡ head_at s at stop) (g : Head) (ok : h ≡ Ok g) where
  pub head_is : (x : Head) → g ≡ x → Ok x ≡ head_at s at stop
  head_is x e = ap Ok (sym e) ∙ sym ok ∙ head

  pub foreign-inside : (p n : ℕ) → g ≡ Foreign p n → stop ≤ length s → p + n ≤ length s
  foreign-inside p n e l = omega (arith, heads.foreign_within s at stop h head p n (ok ∙ ap Ok e))

-- the row behind a position's own
pub under_fits : (P : Reading) (doubt : Bool) (table : List ℕ) (row base k : ℕ) → Ready P doubt table row base k → Fits w64 (row + 1)
under_fits P doubt table row base k r = omega (arith, steps.ready_low P doubt table row base k r)

-- ---- a holder's children, with the count and the reading that the code asks of it

module _ (x : Holder) (w d : ℕ) (s : List ℕ) (k at stop : ℕ) (doubt : Bool) (table : List ℕ) (row base : ℕ)
    (r : Ready (holding (holder_own (kind_of x) w) (readings (value d s) (children_of x) s k 0 (child_count x w) at stop)) doubt table row base k)
    (c : Children) (m : ℕ) (ec : c ≡ children_of x) (em : m ≡ child_count x w) where
  abbrev o : Own
  o = holder_own (kind_of x) w

  abbrev Q : Readings
  Q = readings (value d s) (children_of x) s k 0 (child_count x w) at stop

  pub children_ready : ReadyAll (readings (value d s) c s k 0 m at stop) c doubt table (row + 1) base k 0
  children_ready = rw (ec, em) (steps.hold_ready x o Q doubt table row base k r)

  module _ (table₁ : List ℕ) (f : ℕ) (t : DidAll (readings (value d s) c s k 0 m at stop) c table (row + 1) (first_in base) k 0 table₁ f) where
    all : DidAll Q (children_of x) table (row + 1) (first_in base) k 0 table₁ f
    all = rw (ec, em) at t

    pub children-lent : row < lent table₁
    children-lent = steps.hold-lent x o Q doubt table row base k r table₁ f all

    module _ (end : ℕ) (ee : end ≡ row_in f) where
      pub children-end : end ≤ limit
      children-end = omega (arith, steps.hold-end x o Q doubt table row base k r table₁ f all)

      pub children_done : (kind : ℕ) (q : Row) (table₂ : List ℕ) → kind ≡ kind_of x → q ≡ row_of (holder_own kind w) end → table₂ ≡ sets table₁ (words_per_row * row) (words_of q)
          → Did (holding (holder_own (kind_of x) w) (readings (value d s) (children_of x) s k 0 (child_count x w) at stop)) table row (first_in base) k table₂ f
      children_done kind q table₂ ek e g =
          steps.hold-did x o Q doubt table row base k r table₁ f all q table₂ (e ∙ ap (λ (y : ℕ). row_of (holder_own y w) end) ek ∙ ap (row_of o) ee) g

-- ---- a declaration's entries and its value

module _ (n d : ℕ) (s : List ℕ) (k at stop : ℕ) (doubt : Bool) (table : List ℕ) (row base : ℕ)
    (r : Ready (declaring n (readings (value d s) Entries s 0 0 n at stop) (value d s) stop) doubt table row base k) where
  abbrev es : Readings
  es = readings (value d s) Entries s 0 0 n at stop

  pub entries_ready : ReadyAll (readings (value d s) Entries s 0 0 n at stop) Entries doubt table (row + 1) (row + 1) 0 0
  entries_ready = steps.entries_ready n es (value d s) stop doubt table row base k r

  module _ (table₁ : List ℕ) (f : ℕ) (t : DidAll (readings (value d s) Entries s 0 0 n at stop) Entries table (row + 1) (first_in (row + 1)) 0 0 table₁ f) where
    count : many (trees_read es) ≡ n
    count = run-many (value d s) Entries s 0 0 n at stop entries_ready.good

    module _ (own : ℕ) (eo : own ≡ row_in f) where
      pub own_under : row + 1 ≤ own
      own_under = omega (arith, steps.own_under n es (value d s) stop doubt table row base k r table₁ f t count)

      module _ (next inner : ℕ) (en : next ≡ place_in f) (ei : inner ≡ base_of (row + 1) own n) where
        is_inner : inner ≡ base_of (row + 1) (row_in f) n
        is_inner = ei ∙ ap (λ (x : ℕ). base_of (row + 1) x n) eo

        pub own_ready : Ready (value d s n next stop) doubt table₁ own inner n
        own_ready = rw (en, eo) (steps.own_ready n es (value d s) stop doubt table row base k r table₁ f t count inner is_inner)

        module _ (table₂ : List ℕ) (g : ℕ) (u' : Did (value d s n next stop) table₁ own (first_in inner) n table₂ g) where
          u : Did (value d s n (place_in f) stop) table₁ (row_in f) (first_in inner) n table₂ g
          u = rw (en, eo) at u'

          pub declared-lent : row < lent table₂
          declared-lent = steps.declare-lent n es (value d s) stop doubt table row base k r table₁ f t count inner is_inner table₂ g u

          module _ (end : ℕ) (ee : end ≡ row_in g) where
            pub declared-end : end ≤ limit
            declared-end = omega (arith, steps.declare-end n es (value d s) stop doubt table row base k r table₁ f t count inner is_inner table₂ g u)

            pub declared_done : (q : Row) (table₃ : List ℕ) → q ≡ row_of (declaration_own n) end → table₃ ≡ sets table₂ (words_per_row * row) (words_of q)
                → Did (declaring n (readings (value d s) Entries s 0 0 n at stop) (value d s) stop) table row (first_in base) k table₃ g
            declared_done q table₃ e h =
                steps.declare-did n es (value d s) stop doubt table row base k r table₁ f t count inner is_inner table₂ g u q table₃ (e ∙ ap (row_of (declaration_own n)) ee) h

-- ---- a foreign body, inside which m entries are in force

module _ (s : List ℕ) (d k p n : ℕ) (doubt : Bool) (table : List ℕ) (row base : ℕ) (r : Ready (framed p n (whole (p + n) (value d s (in_foreign k) p (p + n)))) doubt table row base k) where
  abbrev body : Reading
  body = value d s (in_foreign k) p (p + n)

  abbrev X : Reading
  X = framed p n (whole (p + n) body)

  -- its row, where it is damaged
  pub damaged_done : p + n ≤ length s → length s ≤ limit → (v : ℕ) → Damaged (whole (p + n) (value d s (in_foreign k) p (p + n))) v → (q : Row) → q ≡ leaf_row (damaged_own p n v) row
      → (table' : List ℕ) → table' ≡ sets table (words_per_row * row) (words_of q) → (f : ℕ) → f ≡ place_and_row (p + n) (row + 1)
      → Did (framed p n (whole (p + n) (value d s (in_foreign k) p (p + n)))) table row (first_in base) k table' f
  unfolding layout size
  damaged_done a b v w q eq table' g f e =
      let t : Own = damaged_own p n (refusal_number w.reason) in
      steps.one-laid X (damaged t) t (p + n) table row (first_in base) k (ap (framed p n) w.is) refl refl (omega arith) (steps.ready_past X doubt table row base k r) table' f
      (laid-row table row (p + n) t q table' f (eq ∙ ap (λ (z : ℕ). leaf_row (damaged_own p n z) row) w.number) g e)

  -- with no doubt it is right, and so are those in it
  pub sure-right : doubt ≡ false → Right (whole (p + n) (value d s (in_foreign k) p (p + n)))
  sure-right e = framed-whole p n (whole (p + n) body) (r.sure e)

  pub sure_ready : doubt ≡ false → Ready (framed p n (whole (p + n) (value d s (in_foreign k) p (p + n)))) false table row base k
  sure_ready e = subst (λ (b : Bool). Ready X b table row base k) e r

  module _ (m : ℕ) (in-force : m ≡ in_foreign k) where
    -- it was measured
    module _ (within : p + n ≤ length s) (few : length s ≤ limit) (f : ℕ) (measured : f ≡ told (measured_of (whole (p + n) (value d s m p (p + n))))) where
      is : f ≡ told (measured_of (whole (p + n) body))
      is = rw in-force at measured

      read : ReadAt p (p + n) (whole (p + n) body)
      read = whole_read p (p + n) body (value_read d s (in_foreign k) p (p + n))

      rightly : f < 72057594037927936 → ReadRight (whole (p + n) body) f
      rightly h = read_right p (p + n) (whole (p + n) body) read (omega arith) (omega arith) f is h

      pub body-right : f < 72057594037927936 → Right (whole (p + n) (value d s (in_foreign k) p (p + n)))
      unfolding Right
      body-right h = subst Right (sym (rightly h).is) tt

      pub body_ready : f < 72057594037927936 → (b : Bool) → b ≡ is_broken f → Ready (framed p n (whole (p + n) (value d s (in_foreign k) p (p + n)))) b table row base k
      unfolding harmed tree_read
      body_ready h b eb =
          record {
            good = r.good;
            room = r.room;
            small = r.small;
            below = r.below;
            based = r.based;
            sure = λ q. ap (λ (x : Reading). harmed (tree_read (framed p n x))) (rightly h).is ∙ (rightly h).broken ∙ sym eb ∙ q;
          }

      pub body-damaged : 72057594037927936 ≤ f → (v : ℕ) → v ≡ number_wrong f → Damaged (whole (p + n) (value d s (in_foreign k) p (p + n))) v
      body-damaged h v e =
          let x = read_wrong p (p + n) (whole (p + n) body) read (omega arith) (omega arith) f is h in
          record { reason = _; place = _; is = x; number = e ∙ wrong-number p (p + n) (whole (p + n) body) read (omega arith) (omega arith) f is _ _ x }

    -- a right one
    module _ (good : Right (whole (p + n) (value d s (in_foreign k) p (p + n)))) where
      pub right_ready : Ready (value d s m p (p + n)) doubt table (row + 1) base m
      right_ready = rw in-force (steps.foreign_ready p n body doubt table row base k r good)

      module _ (table₁ : List ℕ) (f : ℕ) (t : Did (value d s m p (p + n)) table (row + 1) (first_in base) m table₁ f) where
        inner : Did body table (row + 1) (first_in base) (in_foreign k) table₁ f
        inner = rw in-force at t

        pub right-lent : row < lent table₁
        right-lent = steps.foreign-lent p n body doubt table row base k r good table₁ f inner

        module _ (end : ℕ) (ee : end ≡ row_in f) where
          pub right_end : end ≤ limit
          right_end = omega (arith, steps.foreign-end p n body doubt table row base k r good table₁ f inner)

          pub right_done : (q : Row) (table₂ : List ℕ) → q ≡ row_of foreign_own end → table₂ ≡ sets table₁ (words_per_row * row) (words_of q)
              → Did (framed p n (whole (p + n) (value d s (in_foreign k) p (p + n)))) table row (first_in base) k table₂ f
          right_done q table₂ g h = steps.foreign-did p n body doubt table row base k r good table₁ f inner q table₂ (g ∙ ap (row_of foreign_own) ee) h

-- ---- a reference whose marker tells its number

module _ (d : ℕ) (s : List ℕ) (k at stop : ℕ) (doubt : Bool) (table : List ℕ) (row base : ℕ) (r : Ready (value d s k at stop) doubt table row base k)
    (l : at < stop) (a : stop ≤ length s) (b : length s ≤ limit) (m : ℕ) (em : m ≡ get_or s at 0) (small : m < 256) (low : 193 ≤ m) (other : m ≡ 255 → ⊥) where
  pub marked : Ok (Refer (m - 193) (at + 1)) ≡ head_at s at stop
  marked = head_refer s at stop l a m em low (omega arith)

  pub marked_laid : (table' : List ℕ) (f : ℕ) → Did (value d s k at stop) table row (first_in base) k table' f → OneLaid (value d s k at stop) table row (first_in base) k table' (at + 1)
  unfolding tree_read size
  marked_laid table' f u =
      let m' = steps.ready_past _ doubt table row base k r in
      let g : ℕ = place_and_row (at + 1) (row + 1) in
      record {
        low = omega arith;
        did = record {
          words = u.words;
          place = steps.place-in (at + 1) (row + 1) g (omega arith) refl ∙ sym (refer-ends d s k at stop doubt table row base r (m - 193) (at + 1) marked);
          past = steps.row-in (at + 1) (row + 1) g (omega arith) m' refl ∙ ap (λ (x : ℕ). row + x) (sym (refer-size d s k at stop doubt table row base r (m - 193) (at + 1) marked));
        };
      }

-- ---- one child

module _ (d : ℕ) (s : List ℕ) (k i at stop : ℕ) (c : Children) (doubt : Bool) (table : List ℕ) (row base : ℕ)
    (r : Ready (child c (value d s) s k i at stop) doubt table row base (in_force c k i)) where
  -- a key
  module _ (is : is_key c i ≡ true) where
    key_is-child : child c (value d s) s k i at stop ≡ keyed at (key_at s at stop)
    key_is-child = clauses.child_key (value d s) s k i at stop c is

    key_right : Right (keyed at (key_at s at stop))
    key_right = subst Right key_is-child r.good

    key_laid : stop ≤ length s → length s ≤ limit → (table' : List ℕ) (next : ℕ) → KeyLaid (key_at s at stop) table row table' next
        → OneLaid (child c (value d s) s k i at stop) table row (first_in base) (in_force c k i) table' next
    unfolding layout size
    key_laid a b table' next w =
        let within = heads.key_within s at stop (key_at s at stop) refl w.place w.size w.is in
        let low : next ≤ limit = omega (arith, w.ends) in
        record {
          low = low;
          did = steps.one-laid (child c (value d s) s k i at stop) (leaf (span_own kind_key w.place w.size)) (span_own kind_key w.place w.size) next table row (first_in base) (in_force c k i)
              (key_is-child ∙ clauses.keyed_at s at stop (key_at s at stop) refl w.place w.size w.is
              ∙ ap (right (leaf (span_own kind_key w.place w.size))) (sym w.ends))
              refl refl low (steps.ready_past _ doubt table row base (in_force c k i) r) table' (place_and_row next (row + 1)) (record { put = w.put; past = refl });
        }

  -- a value
  module _ (is : is_key c i ≡ false) where
    value-is-child : child c (value d s) s k i at stop ≡ value d s (in_force c k i) at stop
    value-is-child = clauses.child-value (value d s) s k i at stop c is

    value_ready : Ready (value d s (in_force c k i) at stop) doubt table row base (in_force c k i)
    value_ready = steps.ready_as _ _ doubt table row base (in_force c k i) value-is-child r

    leaf-laid : stop ≤ length s → length s ≤ limit → (table' : List ℕ) (next : ℕ) → LeafLaid (head_at s at stop) s table row table' next
        → OneLaid (child c (value d s) s k i at stop) table row (first_in base) (in_force c k i) table' next
    leaf-laid a b table' next t =
        record {
          low = plain-next d s (in_force c k i) at stop doubt table row base value_ready table' next t a b;
          did = steps.did_as _ _ table row (first_in base) (in_force c k i) table' (place_and_row next (row + 1)) value-is-child
              (plain_done d s (in_force c k i) at stop doubt table row base value_ready table' next t a b (place_and_row next (row + 1)) refl);
        }

  -- by what the code asks of it
  module _ (b : Bool) (eb : b ≡ is_key c i) where
    pub child_key_right : b ≡ true → Right (keyed at (key_at s at stop))
    child_key_right t = key_right (sym eb ∙ t)

    pub child_key_laid : b ≡ true → stop ≤ length s → length s ≤ limit → (table' : List ℕ) (next : ℕ) → KeyLaid (key_at s at stop) table row table' next
        → OneLaid (child c (value d s) s k i at stop) table row (first_in base) (in_force c k i) table' next
    child_key_laid t = key_laid (sym eb ∙ t)

    pub child_known : b ≡ false → Known (head_at s at stop)
    child_known t = head_known d s (in_force c k i) at stop doubt table row base (value_ready (sym eb ∙ t))

    pub child_there : b ≡ false → at < stop
    child_there t = head_there d s (in_force c k i) at stop doubt table row base (value_ready (sym eb ∙ t))

    -- with nothing laid
    module _ (t : b ≡ false) (table' : List ℕ) (same : table' ≡ table) (m : ℕ) (em : m ≡ in_force c k i) where
      pub child-value : Ready (value d s m at stop) doubt table' row base m
      child-value = rw (em, same) (value_ready (sym eb ∙ t))

      pub child-marked : (table'' : List ℕ) (o : Option ℕ) → OneTried (value d s m at stop) false table' row (first_in base) m table'' o
          → OneTried (child c (value d s) s k i at stop) (is_key c i) table row (first_in base) (in_force c k i) table'' o
      child-marked table'' None w = record { kept = w.kept ∙ same; other = sym eb ∙ t }
      child-marked table'' (Some f) w' =
          let w : OneLaid (value d s (in_force c k i) at stop) table row (first_in base) (in_force c k i) table'' f = rw (em, same) at w' in
          record {
            low = w.low;
            did = steps.did_as _ _ table row (first_in base) (in_force c k i) table'' (place_and_row f (row + 1)) (value-is-child (sym eb ∙ t)) w.did;
          }

    pub child-leaf-laid : b ≡ false → stop ≤ length s → length s ≤ limit → (table' : List ℕ) (next : ℕ) → LeafLaid (head_at s at stop) s table row table' next
        → OneLaid (child c (value d s) s k i at stop) table row (first_in base) (in_force c k i) table' next
    child-leaf-laid t = leaf-laid (sym eb ∙ t)

-- ---- the loop over children

module _ (d : ℕ) (c : Children) (s : List ℕ) (k stop base : ℕ) (doubt : Bool) (n at₀ row₀ : ℕ) (table₀ : List ℕ) (i at row : ℕ) (table : List ℕ)
    (l : Laying d c s k stop base doubt n at₀ row₀ table₀ i at row table) (turn : i < n) (table₁ : List ℕ) where
  ready : Ready (child c (value d s) s k i at stop) doubt table row base (in_force c k i)
  ready = laying_ready d c s k stop base doubt n at₀ row₀ table₀ i at row table l turn

  -- it was laid
  pub laying_one : (next : ℕ) → OneLaid (child c (value d s) s k i at stop) table row (first_in base) (in_force c k i) table₁ next
      → Laying d c s k stop base doubt n at₀ row₀ table₀ (i + 1) next (row + 1) table₁
  laying_one next t =
      let m = steps.ready_past _ doubt table row base (in_force c k i) ready in
      laying_next d c s k stop base doubt n at₀ row₀ table₀ i at row table l turn table₁ (place_and_row next (row + 1)) t.did next (row + 1)
      (sym (steps.place-in next (row + 1) (place_and_row next (row + 1)) t.low refl)) (sym (steps.row-in next (row + 1) (place_and_row next (row + 1)) t.low m refl))

  -- or is laid by its head
  module _ (t : NotLaid (is_key c i) table table₁) (m : ℕ) (em : m ≡ in_force c k i) where
    here : Ready (value d s (in_force c k i) at stop) doubt table row base (in_force c k i)
    here = value_ready d s k i at stop c doubt table row base ready t.other

    pub laying_left : 1 ≤ d
    laying_left = levels_left d s (in_force c k i) at stop doubt table row base here

    pub laying_value : Ready (value d s m at stop) doubt table₁ row base m
    laying_value = rw (em, t.kept) here

    pub laying_head : (table₂ : List ℕ) (f : ℕ) → Did (value d s m at stop) table₁ row (first_in base) m table₂ f → (at' row' : ℕ) → at' ≡ place_in f → row' ≡ row_in f
        → Laying d c s k stop base doubt n at₀ row₀ table₀ (i + 1) at' row' table₂
    laying_head table₂ f u at' row' ea er =
        let v : Did (value d s (in_force c k i) at stop) table row (first_in base) (in_force c k i) table₂ f = rw (em, t.kept) at u in
        laying_next d c s k stop base doubt n at₀ row₀ table₀ i at row table l turn table₂ f
        (steps.did_as _ _ table row (first_in base) (in_force c k i) table₂ f (value-is-child d s k i at stop c doubt table row base ready t.other) v) at' row' ea er

  pub laying_fits : Fits w64 (row + 1)
  laying_fits = under_fits _ doubt table row base (in_force c k i) ready
