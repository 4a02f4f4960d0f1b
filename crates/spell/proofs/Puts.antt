-- A row's own bytes laid in an output: the marks, the rest of the plan, the payload. Assumes nothing.
use mathlib.Core.Path.{◌≡◌, refl, sym, ap, ap₂, ◌∙◌}
use mathlib.Core.Bool.{Bool, true, false, cond}
use mathlib.Core.List.{List, [], ◌∷◌, ◌++◌, append-nil}
use Prim.Native.Nat.{ℕ, zero, suc, ◌+◌, ◌-◌, ◌≤◌, ◌<◌}
use native.Mathlib.Nat.{min-eq_left}
use native.Mathlib.Omega.{arith}
use lib.ListN.{length, take, drop, get_or, set, length-append, length-take, length-drop, length-set}
use borrow.Rule.Slice.PartMut.{put_mid}
use lib.Seq.{sets, drop-cons, length-sets, take-add, drop-drop}
use Rattle.lists.proofs.Sets.{sets_append, sets_over, sets_part}
use Rattle.wide.specs.Number.{bytes_of}
use Rattle.wide.specs.Words.{value_of}
use Rattle.rows.specs.declared.row.Row.{Row}
use Rattle.encode.specs.Encode.{has_bytes, payload_of}
use Rattle.encode.proofs.Back.{part-long}
use Rattle.plan.specs.declared.plan.Plan.{Plan}
use Rattle.plan.specs.Inner.{marks_of, plan_bytes, Plans, own_head}
use Rattle.rows.specs.Table.{own_of}
use Rattle.rules.specs.declared.kind.Kind.{Kind}
use Rattle.rules.specs.declared.kind.Kind.TheVariants.{Constant, Small, Signed, Unsigned, Float, Text, Holds, Binary, Char, Reference, Declaration, Whole, Damaged, Key, Unknown}
use Rattle.rules.specs.Shape.{named}
use Rattle.spell.specs.Inner.{own_bytes, own_size, Inside}

-- ---- a plan

pub plan_put : (out out₁ out₂ : List ℕ) (at next : ℕ) (p : Plan) → next ≡ at + length (marks_of p.marks) → out₁ ≡ sets out at (marks_of p.marks)
    → out₂ ≡ sets (set out₁ next p.lead) (next + 1) (bytes_of p.size (value_of p.value)) → out₂ ≡ sets out at (plan_bytes p)
unfolding plan_bytes
plan_put out out₁ out₂ at next p n e g =
    let ms : List ℕ = marks_of p.marks in
    let B : List ℕ = bytes_of p.size (value_of p.value) in
    let i : next + 1 ≡ suc next = omega arith in
    g ∙ ap (λ (x : ℕ). sets (set out₁ next p.lead) x B) i ∙ ap₂ (λ (l : List ℕ) (x : ℕ). sets l x (p.lead ∷ B)) e n ∙ sym (sets_append out at ms (p.lead ∷ B))

-- ---- a part of the data in one copy

pub part_laid : (out d vs : List ℕ) (at place size : ℕ) → at + size ≤ length out → place + size ≤ length d → vs ≡ take (place + size - place) (drop place d)
    → put_mid at (at + size - at) out vs ≡ sets out at (take size (drop place d))
part_laid out d vs at place size room there e =
    let n : place + size - place ≡ size = omega arith in
    let f : vs ≡ take size (drop place d) = e ∙ ap (λ (k : ℕ). take k (drop place d)) n in
    sets_part out at size vs (ap length f ∙ part-long d place size there) room ∙ ap (sets out at) f

-- ---- a part of the data: what is left to lay completes it

pub part_start : (out d : List ℕ) (at place size : ℕ) → sets out (at + 0) (take (size - 0) (drop (place + 0) d)) ≡ sets out at (take size (drop place d))
part_start out d at place size =
    let p : at + 0 ≡ at = omega arith in
    let q : size - 0 ≡ size = omega arith in
    let r : place + 0 ≡ place = omega arith in
    ap₂ (λ (a k : ℕ). sets out a (take k (drop (place + 0) d))) p q ∙ ap (λ (x : ℕ). sets out at (take size (drop x d))) r

pub part_turn : (out t d : List ℕ) (at place size i b : ℕ) → i < size → place + size ≤ length d → b ≡ get_or d (place + i) 0
    → sets out (at + i) (take (size - i) (drop (place + i) d)) ≡ t
    → sets (set out (at + i) b) (at + (i + 1)) (take (size - (i + 1)) (drop (place + (i + 1)) d)) ≡ t
part_turn out t d at place size i b l h e g =
    let k : ℕ = size - (i + 1) in
    let p : at + (i + 1) ≡ suc (at + i) = omega arith in
    let q : place + (i + 1) ≡ suc (place + i) = omega arith in
    let s : size - i ≡ suc k = omega arith in
    let c : drop (place + i) d ≡ get_or d (place + i) 0 ∷ drop (suc (place + i)) d = drop-cons d (place + i) 0 (omega arith) in
    ap₂ (λ (x y : ℕ). sets (set out (at + i) b) x (take k (drop y d))) p q
    ∙ ap (λ (x : ℕ). sets (set out (at + i) x) (suc (at + i)) (take k (drop (suc (place + i)) d))) e
    ∙ sym (ap₂ (λ (x : ℕ) (y : List ℕ). sets out (at + i) (take x y)) s c)
    ∙ g

pub part_end : (out t d : List ℕ) (at place size i : ℕ) → size ≤ i → sets out (at + i) (take (size - i) (drop (place + i) d)) ≡ t → out ≡ t
part_end out t d at place size i l g =
    let z : 0 ≡ size - i = omega arith in
    ap (λ (k : ℕ). sets out (at + i) (take k (drop (place + i) d))) z ∙ g

-- ---- a part that grows by some bytes of it

-- bytes from e on over those that are laid up to i
pub part-over : (out d : List ℕ) (at e i n : ℕ) → e ≤ i → i ≤ e + n → e + n ≤ length d
    → sets (sets out at (take i d)) (at + e) (take n (drop e d)) ≡ sets out at (take (e + n) d)
part-over out d at e i n l u h =
    let k : i ≡ e + (i - e) = omega arith in
    let x : List ℕ = take e d in
    let le : length x ≡ e = length-take e d ∙ min-eq_left (omega arith) in
    let y : List ℕ = take (i - e) (drop e d) in
    let z : List ℕ = take n (drop e d) in
    let ly : length y ≤ length z = omega (arith, part-long d e (i - e) (omega arith), part-long d e n h) in
    ap (λ (j : ℕ). sets (sets out at (take j d)) (at + e) z) k
    ∙ ap (λ (v : List ℕ). sets (sets out at v) (at + e) z) (take-add e (i - e) d)
    ∙ ap (λ (v : List ℕ). sets v (at + e) z) (sets_append out at x y ∙ ap (λ (j : ℕ). sets (sets out at x) (at + j) y) le)
    ∙ sets_over (sets out at x) (at + e) y z ly
    ∙ ap (λ (j : ℕ). sets (sets out at x) (at + j) z) (sym le)
    ∙ sym (sets_append out at x z)
    ∙ ap (sets out at) (sym (take-add e n d))

pub part_on : (out₀ out after s : List ℕ) (at place e i n : ℕ) → e ≤ i → i ≤ e + n → place + (e + n) ≤ length s → out ≡ sets out₀ at (take i (drop place s))
    → after ≡ sets out (at + e) (take n (drop (place + e) s)) → after ≡ sets out₀ at (take (e + n) (drop place s))
part_on out₀ out after s at place e i n l u h eo ea =
    ea
    ∙ ap₂ (λ (o v : List ℕ). sets o (at + e) (take n v)) eo (sym (drop-drop e place s))
    ∙ part-over out₀ (drop place s) at e i n l u (omega (arith, length-drop place s))

pub part_last : (out₀ out after s : List ℕ) (at place size i : ℕ) → 8 ≤ size → i ≤ size → size - i ≤ 8 → place + size ≤ length s → out ≡ sets out₀ at (take i (drop place s))
    → after ≡ sets out (at + (size - 8)) (take 8 (drop (place + (size - 8)) s)) → after ≡ sets out₀ at (take size (drop place s))
part_last out₀ out after s at place size i w l u h eo ea =
    let k : size - 8 + 8 ≡ size = omega arith in
    part_on out₀ out after s at place (size - 8) i 8 (omega arith) (omega arith) (omega arith) eo ea ∙ ap (λ (n : ℕ). sets out₀ at (take n (drop place s))) k

-- ---- the first k bytes of a part, laid one by one

-- k behind a place, as the code has it
abbrev pub on : ℕ → ℕ → ℕ
on at zero = at
on at (suc k) = at + suc k

pub on_is : (at k : ℕ) → on at k ≡ at + k
on_is at zero = omega arith
on_is at (suc k) = refl

abbrev pub firsts : ℕ → List ℕ → ℕ → List ℕ → ℕ → List ℕ
firsts zero out at d p = out
firsts (suc k) out at d p = set (firsts k out at d p) (on at k) (get_or d (on p k) 0)

pub firsts_long : (k : ℕ) (out : List ℕ) (at : ℕ) (d : List ℕ) (p : ℕ) → length (firsts k out at d p) ≡ length out
firsts_long zero out at d p = refl
firsts_long (suc k) out at d p = length-set (firsts k out at d p) (on at k) _ ∙ firsts_long k out at d p

pub firsts_laid : (k : ℕ) (out : List ℕ) (at : ℕ) (d : List ℕ) (p : ℕ) → p + k ≤ length d → firsts k out at d p ≡ sets out at (take k (drop p d))
firsts_laid zero out at d p h = refl
firsts_laid (suc k) out at d p h =
    let e : k + 1 ≡ suc k = omega arith in
    let F : List ℕ = firsts k out at d p in
    part_on out F _ d at p k k 1 (omega arith) (omega arith) (omega arith) (firsts_laid k out at d p (omega arith))
    (ap₂ (λ (x y : ℕ). set F x (get_or d y 0)) (on_is at k) (on_is p k) ∙ ap (λ (l : List ℕ). sets F (at + k) (take 1 l)) (sym (drop-cons d (p + k) 0 (omega arith))))
    ∙ ap (λ (n : ℕ). sets out at (take n (drop p d))) e

-- ---- which kinds have bytes of the data

pub without_bytes : (K : Kind) → (K ≡ Float → ⊥) → (K ≡ Text → ⊥) → (K ≡ Binary → ⊥) → (K ≡ Damaged → ⊥) → (K ≡ Key → ⊥) → false ≡ has_bytes K
without_bytes Constant _ _ _ _ _ = refl
without_bytes Small _ _ _ _ _ = refl
without_bytes Signed _ _ _ _ _ = refl
without_bytes Unsigned _ _ _ _ _ = refl
without_bytes Float f _ _ _ _ = absurd (f refl)
without_bytes Text _ t _ _ _ = absurd (t refl)
without_bytes (Holds holder) _ _ _ _ _ = refl
without_bytes Binary _ _ b _ _ = absurd (b refl)
without_bytes Char _ _ _ _ _ = refl
without_bytes Reference _ _ _ _ _ = refl
without_bytes Declaration _ _ _ _ _ = refl
without_bytes Whole _ _ _ _ _ = refl
without_bytes Damaged _ _ _ d _ = absurd (d refl)
without_bytes Key _ _ _ _ k = absurd (k refl)
without_bytes Unknown _ _ _ _ _ = refl

-- ---- a row

module _ (w : Row) (size : ℕ) (p : Plan) (h : Plans p (own_head w size)) where
  module _ (b : Bool) (e : b ≡ has_bytes (named (own_of w))) (m : ℕ) (l : m ≡ length (plan_bytes p)) where
    pub size_with : b ≡ true → (n : ℕ) → n ≡ w.w1 → m + n ≡ own_size w size
    unfolding own_size
    size_with t n q = ap₂ (λ (x y : ℕ). x + y) (l ∙ ap length h.spells) (q ∙ ap (λ (x : Bool). cond x w.w1 0) (sym t ∙ e))

    pub size_without : b ≡ false → m ≡ own_size w size
    unfolding own_size
    size_without t = omega (arith, l, ap length h.spells, ap (λ (x : Bool). cond x w.w1 0) (sym t ∙ e))

  module _ (b : Bool) (e : b ≡ has_bytes (named (own_of w))) where
    module _ (s : List ℕ) where
      own_with : b ≡ true → own_bytes s w size ≡ plan_bytes p ++ take w.w1 (drop w.w0 s)
      unfolding own_bytes
      own_with t = ap₂ (λ (x : List ℕ) (y : Bool). x ++ cond y (take w.w1 (drop w.w0 s)) []) (sym h.spells) (sym e ∙ t)

      own_without : b ≡ false → own_bytes s w size ≡ plan_bytes p
      unfolding own_bytes
      own_without t = ap₂ (λ (x : List ℕ) (y : Bool). x ++ cond y (take w.w1 (drop w.w0 s)) []) (sym h.spells) (sym e ∙ t) ∙ append-nil (plan_bytes p)

      payload_in : b ≡ true → Inside s w → w.w0 + w.w1 ≤ length s
      unfolding Inside
      payload_in t i = i (sym e ∙ t)

      with_long : b ≡ true → Inside s w → length (own_bytes s w size) ≡ length (plan_bytes p) + w.w1
      with_long t i =
          let P : List ℕ = take w.w1 (drop w.w0 s) in
          ap length (own_with t) ∙ length-append (plan_bytes p) P ∙ ap (λ (x : ℕ). length (plan_bytes p) + x) (part-long s w.w0 w.w1 (payload_in t i))

      -- a row with a payload
      module _ (t : b ≡ true) (i : Inside s w) (place n at next : ℕ) (q : place ≡ w.w0) (r : n ≡ w.w1) (k : next ≡ at + length (plan_bytes p)) (out out₁ : List ℕ) (g : out₁ ≡ sets out at (plan_bytes p))
          (room : at + length (own_bytes s w size) ≤ length out) where
        pub part_room : next + n ≤ length out₁
        part_room = omega (arith, r, k, with_long t i, room, ap length g, length-sets out at (plan_bytes p))

        pub part-inside : place + n ≤ length s
        part-inside = omega (arith, q, r, payload_in t i)

        pub row_next : next + n ≡ at + length (own_bytes s w size)
        row_next = omega (arith, r, k, with_long t i)

        pub row_laid : (out₂ : List ℕ) → out₂ ≡ sets out₁ next (take n (drop place s)) → out₂ ≡ sets out at (own_bytes s w size)
        row_laid out₂ f =
            f ∙ ap₂ (λ (x y : ℕ). sets out₁ next (take x (drop y s))) r q
            ∙ ap₂ (λ (l : List ℕ) (x : ℕ). sets l x (take w.w1 (drop w.w0 s))) g k
            ∙ sym (sets_append out at (plan_bytes p) (take w.w1 (drop w.w0 s)))
            ∙ ap (sets out at) (sym (own_with t))

      -- one without
      module _ (t : b ≡ false) (at next : ℕ) (k : next ≡ at + length (plan_bytes p)) where
        pub bare_next : next ≡ at + length (own_bytes s w size)
        bare_next = k ∙ ap (λ (x : List ℕ). at + length x) (sym (own_without t))

        pub bare_laid : (out out₁ : List ℕ) → out₁ ≡ sets out at (plan_bytes p) → out₁ ≡ sets out at (own_bytes s w size)
        bare_laid out out₁ g = g ∙ ap (sets out at) (sym (own_without t))

  pub plan_room : (s : List ℕ) (at : ℕ) (out : List ℕ) → at + length (own_bytes s w size) ≤ length out → at + length (plan_bytes p) ≤ length out
  unfolding own_bytes
  plan_room s at out r = omega (arith, r, length-append (own_head w size) (payload_of s (own_of w)), ap length h.spells)
