-- A right tree that is written reads back, with its new places, up to the end of its bytes. By induction on the tree. Assumes nothing.
use Rattle.std.specs.Prelude.{Ok}
use mathlib.Core.Path.{◌≡◌, refl, sym, ap, ap₂, ◌∙◌, subst}
use Prim.Native.Nat.{ℕ, zero, suc, ◌+◌, ◌-◌, ◌≤◌, ◌<◌}
use native.Mathlib.Omega.{arith}
use native.Mathlib.Nat.{add-zero}
use mathlib.Core.Bool.{Bool, true, false, cond}
use mathlib.Core.List.{List, [], ◌++◌}
use lib.ListN.{length, take, drop, length-append}
use borrow.Author.Tests.{le-leb, ne_eqb}
use Rattle.wide.specs.Family.{form}
use Rattle.wide.specs.Members.{key_length, reference_number, declaration_count, foreign_length}
use Rattle.rows.specs.Table.{Own, with_place, limit}
use Rattle.rows.specs.Kinds.{kind_key, holder_own, reference_own, declaration_own, foreign_own, damaged_own}
use Rattle.format.specs.declared.refusal.Refusal.{Refusal}
use Rattle.format.specs.declared.head.Holder.{Holder}
use Rattle.format.specs.declared.head.Holder.TheVariants.{Array, Record, Map}
use Rattle.format.specs.declared.head.Head.TheVariants as stand
use Rattle.format.specs.declared.head.Children.{Children}
use Rattle.format.specs.declared.head.Children.TheVariants.{Entries}
use Rattle.format.specs.Head.{head_at, key_at}
use Rattle.format.specs.Tree.{Tree, leaf, refer, hold, declare, foreign, damaged, Trees, none, more, many}
use Rattle.format.specs.Value.{Reading, right, wrong, ran, kind_of, child_count, children_of, keyed, in_turn, child, in_force, ahead, follow, readings, framed, in_foreign, value, whole, is_key}
use Rattle.format.proofs.Steps as clauses
use Rattle.format.proofs.Layouts.{around_force}
use Rattle.rules.specs.declared.kind.Kind.{Kind}
use Rattle.rules.specs.declared.kind.Kind.TheVariants.{Damaged}
use Rattle.rules.specs.declared.shape.Shape.{Shape}
use Rattle.rules.specs.declared.shape.Shape.TheVariants as shape
use Rattle.rules.specs.Shape.{named, fits, shape_for, shape_if, shape_of, key_fits}
use Rattle.rules.specs.Obeys.{Spoilt, KeyObeys, IfKey, Obeys, ObeyAll}
use Rattle.rules.proofs.Says.{names, key_named, key_kind, key_spelt, refer-own, hold-own, declare-own, declare-some, foreign-own, damaged-own, damaged-inside}
use Rattle.rules.proofs.Judged.{spelt-span}
use Rattle.rules.proofs.Read.{force_next}
use Rattle.encode.specs.Encode.{holder_count, head_for, head_of, has_bytes, encode, encodes}
use Rattle.encode.proofs.Places.{moved_if, damaged-named}
use Rattle.encode.proofs.Placed.{placed, placeds}
use Rattle.encode.specs.Further.{reading_further}
use Rattle.encode.proofs.Elsewhere.{whole_elsewhere, further_wrong}
use Rattle.encode.proofs.Fronts.{Stand, stand_first, stand_second, array-front, record_front, map-front, reference-front, declaration_front, foreign-front}
use Rattle.encode.proofs.Leaves.{payload_few, payload_there, key_back}
use Rattle.encode.proofs.Back.{spelling, span_placed, part-long, leaf_back}
use Rattle.encode.proofs.Worded.{Worded, Wordeds}
use Rattle.format.specs.Refusal.{refusal_number}

-- ---- shapes and the kinds behind them

-- where a shape is not bad, what the row says fits, and it is the kind's
pub record Told (s : List ℕ) (o : Own) (k : Kind) (x : Shape) : Type 0 where
  pub right : fits s o k ≡ true
  pub is : shape_for k ≡ x

pub told_of : (s : List ℕ) (o : Own) (x : Shape) → shape_of s o ≡ x → (x ≡ shape.Bad → ⊥) → Told s o (named o) x
unfolding shape_of
told_of s o x e f = of (fits s o (named o)) refl e
  where
    of : (b : Bool) → fits s o (named o) ≡ b → shape_if b (named o) ≡ x → Told s o (named o) x
    of true q r = record { right = q; is = r }
    of false q r = absurd (f (sym r))

-- ---- what stands before what a row holds

pub reference_head : (number entry size : ℕ) → head_of (reference_own number entry) size ≡ form reference_number number
unfolding head_for named
reference_head number entry size = refl

pub holder-head : (h : Holder) (n size : ℕ) → head_of (holder_own (kind_of h) n) size ≡ form (holder_count h) n
unfolding head_for named
holder-head Array n size = refl
holder-head Record n size = refl
holder-head Map n size = refl

pub declaration_head : (n size : ℕ) → head_of (declaration_own n) size ≡ form declaration_count n
unfolding head_for named
declaration_head n size = refl

pub foreign-head : (size : ℕ) → head_of foreign_own size ≡ form foreign_length size
unfolding head_for named
foreign-head size = refl

-- ---- a damaged body

-- the same bytes at p of s' and at q of s are damaged alike
damaged_alike : (d k : ℕ) (s s' : List ℕ) (p q n : ℕ) → take n (drop p s') ≡ take n (drop q s) → (e : Refusal) (place : ℕ) → whole (q + n) (value d s k q (q + n)) ≡ wrong e place
    → (place' : ℕ) × (whole (p + n) (value d s' k p (p + n)) ≡ wrong e place')
damaged_alike d k s s' p q n same e place v =
    let u = further_wrong q (body (take n (drop q s))) e place (sym (whole_elsewhere d s q n k) ∙ v) in
    (p + u.0, whole_elsewhere d s' p n k ∙ ap (λ (l : List ℕ). reading_further p (body l)) same ∙ ap (reading_further p) u.1)
  where
    body : List ℕ → Reading
    body l = whole n (value d l k 0 n)

module _ (s s' : List ℕ) (d k at stop : ℕ) (short : length s' ≤ limit) where
  -- a foreign body of n bytes
  foreign_read : (B : List ℕ) (n : ℕ) → length B ≡ n → (h : Stand s' at stop (form foreign_length n ++ B))
      → value (suc d) s' k at stop
      ≡ framed (at + length (form foreign_length n)) n (whole (at + length (form foreign_length n) + n) (value d s' (in_foreign k) (at + length (form foreign_length n)) (at + length (form foreign_length n) + n)))
  foreign_read B n long h =
      let p : ℕ = at + length (form foreign_length n) in
      let e : head_at s' at stop ≡ Ok (stand.Foreign p n) =
      foreign-front s' at stop n (payload_few s' at stop (form foreign_length n) B n h long short) (stand_first s' at stop (form foreign_length n) B h)
      ∙ rw (le-leb n (stop - p) (omega (arith, h.room, length-append (form foreign_length n) B, long))) in
      clauses.value-foreign d s' k at stop (head_at s' at stop) refl p n e

  damaged_back : (place n : ℕ) → place + n ≤ length s → (e : Refusal) (there : ℕ) → whole (place + n) (value d s (in_foreign k) place (place + n)) ≡ wrong e there
      → Stand s' at stop (form foreign_length n ++ take n (drop place s))
      → value (suc d) s' k at stop ≡ right (damaged (damaged_own (at + length (form foreign_length n)) n (refusal_number e))) (at + length (form foreign_length n ++ take n (drop place s)))
  damaged_back place n f e there v h =
      let F : List ℕ = form foreign_length n in
      let P : List ℕ = take n (drop place s) in
      let p : ℕ = at + length F in
      let l : length P ≡ n = part-long s place n f in
      let next : p + n ≡ at + length (F ++ P) = omega (arith, length-append F P, l) in
      let y = damaged_alike d (in_foreign k) s s' p place n (payload_there s' at stop F P n h l) e there v in
      foreign_read P n l h ∙ ap (framed p n) y.1 ∙ ap (right (damaged (damaged_own p n (refusal_number e)))) next

  damaged-again : (o : Own) → shape_of s o ≡ shape.Damaged → Spoilt s d (in_foreign k) o → Stand s' at stop (encode s (damaged o))
      → value (suc d) s' k at stop ≡ right (placed s (damaged o) at) (at + length (encode s (damaged o)))
  unfolding encode placed head_for
  damaged-again o e v h =
      let P : List ℕ = take o.w1 (drop o.w0 s) in
      let i : o ≡ damaged_own o.w0 o.w1 (refusal_number v.why) = damaged-own s o e ∙ ap (damaged_own o.w0 o.w1) v.verdict in
      let K : named o ≡ Damaged = ap named i ∙ damaged-named o.w0 o.w1 v.why in
      subst (λ (K : Kind). Stand s' at stop (head_for o 0 K ++ cond (has_bytes K) P [])
      → value (suc d) s' k at stop ≡ right (damaged (moved_if (has_bytes K) o (at + length (head_for o 0 K)))) (at + length (head_for o 0 K ++ cond (has_bytes K) P []))) (sym K)
      (λ g. damaged_back o.w0 o.w1 (damaged-inside s o e) v.why v.place v.reads g
      ∙ ap (λ (q : Own). right (damaged (with_place q (at + length (form foreign_length o.w1)))) (at + length (form foreign_length o.w1 ++ P))) (sym i)) h

-- ---- a key

key_again : (s s' : List ℕ) (at stop : ℕ) → length s' ≤ limit → (o : Own) → key_fits s o ≡ true → Stand s' at stop (encode s (leaf o))
    → keyed at (key_at s' at stop) ≡ right (placed s (leaf o) at) (at + length (encode s (leaf o)))
unfolding encode placed head_for
key_again s s' at stop short o f h =
    let P : List ℕ = take o.w1 (drop o.w0 s) in
    let m : o.kind ≡ kind_key = key_kind s o f in
    let z = spelling s o (key_spelt s o f) in
    subst (λ (K : Kind). Stand s' at stop (head_for o 0 K ++ cond (has_bytes K) P [])
    → keyed at (key_at s' at stop) ≡ right (leaf (moved_if (has_bytes K) o (at + length (head_for o 0 K)))) (at + length (head_for o 0 K ++ cond (has_bytes K) P []))) (sym (key_named o m))
    (λ g.
    let next : at + length (form key_length o.w1) + o.w1 ≡ at + length (form key_length o.w1 ++ P) = omega (arith, length-append (form key_length o.w1) P, z.long) in
    ap (keyed at) (key_back s' at stop P o.w1 z.long short z.said g)
    ∙ ap₂ (λ (q : Own) (j : ℕ). right (leaf q) j) (span_placed s o kind_key _ m (spelt-span s o (key_spelt s o f))) next) h

-- ---- trees

-- how a tree that stands in s' is read
abbrev Again : List ℕ → List ℕ → Tree → Type 0
Again s s' t = (d k at stop : ℕ) → Obeys s d k t → Worded t → Stand s' at stop (encode s t) → value d s' k at stop ≡ right (placed s t at) (at + length (encode s t))

suc_pred : (d : ℕ) → 0 < d → suc (d - 1) ≡ d
suc_pred zero h = absurd (omega arith)
suc_pred (suc d) h = omega arith

at_depth : (d : ℕ) (s : List ℕ) (k at stop : ℕ) (x : Reading) → 0 < d → value (suc (d - 1)) s k at stop ≡ x → value d s k at stop ≡ x
at_depth d s k at stop x h e = ap (λ (m : ℕ). value m s k at stop) (sym (suc_pred d h)) ∙ e

child-again : (s s' : List ℕ) → length s' ≤ limit → (t : Tree) → Again s s' t → (d : ℕ) (c : Children) (k i at stop : ℕ) → IfKey (is_key c i) (KeyObeys s t) (Obeys s d (in_force c k i) t) → Worded t
    → Stand s' at stop (encode s t) → child c (value d s') s' k i at stop ≡ right (placed s t at) (at + length (encode s t))
unfolding child
child-again s s' short t own d c k i at stop f w h = of (is_key c i) f
  where
    of : (b : Bool) → IfKey b (KeyObeys s t) (Obeys s d (in_force c k i) t) → in_turn b (value d s') s' (in_force c k i) at stop ≡ right (placed s t at) (at + length (encode s t))
    of true g = rw g.is (key_again s s' at stop short g.own g.fits (rw g.is at h))
    of false g = own d (in_force c k i) at stop g w h

-- ---- holders

-- the head of each holder
holder_front : (s : List ℕ) (at stop n : ℕ) → n ≤ limit → (h : Holder) → Stand s at stop (form (holder_count h) n) → head_at s at stop ≡ Ok (stand.Hold h n (at + length (form (holder_count h) n)))
holder_front s at stop n few Array g = array-front s at stop n few g
holder_front s at stop n few Record g = record_front s at stop n few g
holder_front s at stop n few Map g = map-front s at stop n few g

-- how trees one behind the other are read
abbrev Agains : List ℕ → List ℕ → Trees → Type 0
Agains s s' ts = (d : ℕ) (c : Children) (k i at stop : ℕ) → ObeyAll s d c (in_force c k i) i ts → Wordeds ts → Stand s' at stop (encodes s ts)
    → readings (value d s') c s' k i (many ts) at stop ≡ ran (placeds s ts at) (at + length (encodes s ts))

module _ (s s' : List ℕ) (short : length s' ≤ limit) where
  hold-again : (n : ℕ) (ts : Trees) → Agains s s' ts → (d k at stop : ℕ) → n ≤ limit → Wordeds ts → (h : Holder) → many ts ≡ child_count h n
      → ObeyAll s d (children_of h) k 0 ts → Stand s' at stop (form (holder_count h) n ++ encodes s ts)
      → value (suc d) s' k at stop ≡ right (hold (holder_own (kind_of h) n) (placeds s ts (at + length (form (holder_count h) n)))) (at + length (form (holder_count h) n ++ encodes s ts))
  hold-again n ts own d k at stop few w h num f g =
      let E : List ℕ = encodes s ts in
      let H : List ℕ = form (holder_count h) n in
      let p : ℕ = at + length H in
      let r : readings (value d s') (children_of h) s' k 0 (child_count h n) p stop ≡ ran (placeds s ts p) (p + length E) =
      ap (λ (i : ℕ). readings (value d s') (children_of h) s' k 0 i p stop) (sym num)
      ∙ own d (children_of h) k 0 p stop (subst (λ (i : ℕ). ObeyAll s d (children_of h) i 0 ts) (sym (around_force h k 0)) f) w (stand_second s' at stop H E g) in
      let next : p + length E ≡ at + length (H ++ E) = omega (arith, length-append H E) in
      clauses.value_held d s' k at stop (head_at s' at stop) refl h n p (holder_front s' at stop n few h (stand_first s' at stop H E g)) (placeds s ts p) (p + length E) r
      ∙ ap (right (hold (holder_own (kind_of h) n) (placeds s ts p))) next

  body-again : (t : Tree) → Again s s' t → (d k at stop : ℕ) → Worded t → Obeys s d (in_foreign k) t → Stand s' at stop (form foreign_length (length (encode s t)) ++ encode s t)
      → value (suc d) s' k at stop
      ≡ right (foreign foreign_own (placed s t (at + length (form foreign_length (length (encode s t)))))) (at + length (form foreign_length (length (encode s t)) ++ encode s t))
  body-again t own d k at stop w f g =
      let E : List ℕ = encode s t in
      let L : ℕ = length E in
      let F : List ℕ = form foreign_length L in
      let p : ℕ = at + length F in
      let g' = stand_second s' at stop F E g in
      let exact : Stand s' p (p + L) E = record { rest = g'.rest; bytes = g'.bytes; room = omega arith; inside = omega (arith, g'.room, g'.inside) } in
      let next : p + L ≡ at + length (F ++ E) = omega (arith, length-append F E) in
      foreign_read s s' d k at stop short E L refl g
      ∙ ap (framed p L) (clauses.whole-right (p + L) (value d s' (in_foreign k) p (p + L)) (placed s t p) (p + L) (own d (in_foreign k) p (p + L) f w exact) refl)
      ∙ ap (right (foreign foreign_own (placed s t p))) next

  declare-again : (n : ℕ) (es : Trees) (t : Tree) → Agains s s' es → Again s s' t → (d k at stop : ℕ) → 0 < n → n ≤ limit → Wordeds es → Worded t → many es ≡ n
      → ObeyAll s d Entries 0 0 es → Obeys s d n t → Stand s' at stop (form declaration_count n ++ (encodes s es ++ encode s t))
      → value (suc d) s' k at stop
      ≡ right (declare (declaration_own n) (placeds s es (at + length (form declaration_count n))) (placed s t (at + length (form declaration_count n) + length (encodes s es))))
      (at + length (form declaration_count n ++ (encodes s es ++ encode s t)))
  declare-again n es t owns own d k at stop some few w w' num f f' g =
      let F : List ℕ = form declaration_count n in
      let E : List ℕ = encodes s es in
      let U : List ℕ = encode s t in
      let p : ℕ = at + length F in
      let g' = stand_second s' at stop F (E ++ U) g in
      let head : head_at s' at stop ≡ Ok (stand.Declare n p) =
      declaration_front s' at stop n few (stand_first s' at stop F (E ++ U) g) ∙ rw (ne_eqb n 0 (λ z. omega arith)) in
      let r : readings (value d s') Entries s' 0 0 n p stop ≡ ran (placeds s es p) (p + length E) =
      ap (λ (i : ℕ). readings (value d s') Entries s' 0 0 i p stop) (sym num) ∙ owns d Entries 0 0 p stop f w (stand_first s' p stop E U g') in
      let u = own d n (p + length E) stop f' w' (stand_second s' p stop E U g') in
      let next : p + length E + length U ≡ at + length (F ++ (E ++ U)) = omega (arith, length-append F (E ++ U), length-append E U) in
      clauses.value-declared d s' k at stop (head_at s' at stop) refl n p head (placeds s es p) (p + length E) r (placed s t (p + length E)) (p + length E + length U) u
      ∙ ap (right (declare (declaration_own n) (placeds s es p) (placed s t (p + length E)))) next

  -- ---- all trees

  mutual
    unfolding Obeys encode placed many readings

    pub again : (t : Tree) → Again s s' t
    again (leaf o) d k at stop f w h =
        let t = told_of s o shape.Leaf f.1 (λ z. let y : ◌≡◌ {A = ℕ} 0 1 = cc in omega arith) in
        at_depth d s' k at stop _ f.0 (leaf_back s s' (d - 1) k at stop short o w (named o) (names o) t.right t.is h)
    again (refer o) d k at stop f w h =
        let i : o ≡ reference_own o.w0 0 = refer-own s o f.1 ∙ ap (reference_own o.w0) f.2 in
        at_depth d s' k at stop _ f.0
        (subst (λ (q : Own). Stand s' at stop (head_of q 0) → value (suc (d - 1)) s' k at stop ≡ right (refer q) (at + length (head_of q 0))) (sym i)
        (λ g. let e : head_of (reference_own o.w0 0) 0 ≡ form reference_number o.w0 = reference_head o.w0 0 0 in
        clauses.value-refer (d - 1) s' k at stop (head_at s' at stop) refl o.w0 (at + length (form reference_number o.w0)) (reference-front s' at stop o.w0 w (subst (Stand s' at stop) e g)) f.3
        ∙ ap (λ (l : List ℕ). right (refer (reference_own o.w0 0)) (at + length l)) (sym e)) h)
    again (hold o ts) d k at stop f w h =
        let x : Holder = f.1.0 in
        let L : ℕ = length (encodes s ts) in
        at_depth d s' k at stop _ f.0
        (subst (λ (q : Own). Stand s' at stop (head_of q L ++ encodes s ts)
        → value (suc (d - 1)) s' k at stop ≡ right (hold q (placeds s ts (at + length (head_of q L)))) (at + length (head_of q L ++ encodes s ts))) (sym (hold-own s o x f.1.1))
        (subst (λ (l : List ℕ). Stand s' at stop (l ++ encodes s ts)
        → value (suc (d - 1)) s' k at stop ≡ right (hold (holder_own (kind_of x) o.w0) (placeds s ts (at + length l))) (at + length (l ++ encodes s ts))) (sym (holder-head x o.w0 L))
        (hold-again o.w0 ts (λ d c k i at stop f w h. agains ts d c k i at stop f w h) (d - 1) k at stop w.0 w.1 x f.1.2 f.1.3)) h)
    again (declare o es t) d k at stop f w h =
        let Y : List ℕ = encodes s es ++ encode s t in
        let L : ℕ = length Y in
        at_depth d s' k at stop _ f.0
        (subst (λ (q : Own). Stand s' at stop (head_of q L ++ Y)
        → value (suc (d - 1)) s' k at stop ≡ right (declare q (placeds s es (at + length (head_of q L))) (placed s t (at + length (head_of q L) + length (encodes s es)))) (at + length (head_of q L ++ Y))) (sym (declare-own s o f.1))
        (subst (λ (l : List ℕ). Stand s' at stop (l ++ Y)
        → value (suc (d - 1)) s' k at stop ≡ right (declare (declaration_own o.w0) (placeds s es (at + length l)) (placed s t (at + length l + length (encodes s es)))) (at + length (l ++ Y))) (sym (declaration_head o.w0 L))
        (declare-again o.w0 es t (λ d c k i at stop f w h. agains es d c k i at stop f w h) (λ d k at stop f w h. again t d k at stop f w h) (d - 1) k at stop (declare-some s o f.1) w.0 w.1 w.2 f.2 f.3 f.4)) h)
    again (foreign o t) d k at stop f w h =
        let L : ℕ = length (encode s t) in
        at_depth d s' k at stop _ f.0
        (subst (λ (q : Own). Stand s' at stop (head_of q L ++ encode s t)
        → value (suc (d - 1)) s' k at stop ≡ right (foreign q (placed s t (at + length (head_of q L)))) (at + length (head_of q L ++ encode s t))) (sym (foreign-own s o f.1))
        (subst (λ (l : List ℕ). Stand s' at stop (l ++ encode s t)
        → value (suc (d - 1)) s' k at stop ≡ right (foreign foreign_own (placed s t (at + length l))) (at + length (l ++ encode s t))) (sym (foreign-head L))
        (body-again t (λ d k at stop f w h. again t d k at stop f w h) (d - 1) k at stop w f.2)) h)
    again (damaged o) d k at stop f w h = at_depth d s' k at stop _ f.0 (damaged-again s s' (d - 1) k at stop short o f.1 f.2 h)

    pub agains : (ts : Trees) → Agains s s' ts
    agains none d c k i at stop f w h = ap (ran none) (sym (add-zero at))
    agains (more t ts) d c k i at stop f w h =
        let X : List ℕ = encode s t in
        let Y : List ℕ = encodes s ts in
        let a = child-again s s' short t (λ d k at stop f w h. again t d k at stop f w h) d c k i at stop f.0 w.0 (stand_first s' at stop X Y h) in
        let b = agains ts d c k (i + 1) (at + length X) stop (subst (λ (j : ℕ). ObeyAll s d c j (i + 1) ts) (force_next c k i) f.1) w.1 (stand_second s' at stop X Y h) in
        let next : at + length X + length Y ≡ at + length (X ++ Y) = omega (arith, length-append X Y) in
        ap (λ (y : Reading). follow y (λ n. readings (value d s') c s' k (i + 1) (many ts) n stop)) a ∙ ap (ahead (placed s t at)) b ∙ ap (ran (more (placed s t at) (placeds s ts (at + length X)))) next
