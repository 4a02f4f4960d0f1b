-- What a value position, its children and a document read as, a law for each clause of the definitions. Assumes nothing.
use Rattle.std.specs.Prelude.{Result, Ok, Err}
use mathlib.Core.Path.{◌≡◌, refl, sym, ap, ◌∙◌}
use mathlib.Core.Bool.{Bool, true, false}
use mathlib.Core.List.{List}
use Prim.Native.Nat.{ℕ, suc, ◌+◌, ◌-◌, ◌≤◌, ◌<◌}
use native.Mathlib.Omega.{arith}
use lib.ListN.{length}
use lib.Dec.{ltb}
use borrow.Author.Tests.{lt-ltb, le-ltb, eq-eqb, ne_eqb}
use Rattle.rows.specs.Kinds.{kind_key, span_own, holder_own, reference_own, declaration_own, foreign_own, damaged_own}
use Rattle.format.specs.declared.refused.Refused.{Refused}
use Rattle.format.specs.declared.refusal.Refusal.{Refusal}
use Rattle.format.specs.declared.refusal.Refusal.TheVariants as why
use Rattle.format.specs.declared.head.Spelling.{Spelling}
use Rattle.format.specs.declared.head.Content.{Content}
use Rattle.format.specs.declared.head.Holder.{Holder}
use Rattle.format.specs.declared.head.Head.{Head}
use Rattle.format.specs.declared.head.Head.TheVariants.{Leaf, Hold, Refer, Declare, Foreign}
use Rattle.format.specs.declared.head.Children.{Children}
use Rattle.format.specs.declared.head.Children.TheVariants.{Entries}
use Rattle.format.specs.Refusal.{refusal_number}
use Rattle.format.specs.Tree.{Tree, leaf, refer, hold, declare, foreign, damaged, Trees}
use Rattle.format.specs.Head.{spells, refuse, head_at, key_at}
use Rattle.format.specs.Value.{Reading, right, wrong, Readings, ran, broke, Reader, leaf_own, kind_of, child_count, children_of, keyed, in_turn, child, is_key, in_force, ahead, follow, readings, holding, referred, closed, declaring, framed, in_foreign, step, value, ended, whole, document}

-- ---- a value position

-- "9 deep" where no level is left
pub value_deep : (d : ℕ) (s : List ℕ) (k at stop : ℕ) → d ≡ 0 → value d s k at stop ≡ wrong why.Deep at
unfolding value
value_deep d s k at stop z = rw z

-- where one is left: the laws below speak of `suc d`, code of d and d - 1
pub value-left : (d : ℕ) (s : List ℕ) (k at stop : ℕ) (x : Reading) → (d ≡ 0 → ⊥) → value (suc (d - 1)) s k at stop ≡ x → value d s k at stop ≡ x
value-left d s k at stop x left e = let q : d ≡ suc (d - 1) = omega arith in ap (λ (m : ℕ). value m s k at stop) q ∙ e

module _ (d : ℕ) (s : List ℕ) (k at stop : ℕ) (h : Result Head Refused) (head : h ≡ head_at s at stop) where
  by_head : (g : Result Head Refused) → h ≡ g → value (suc d) s k at stop ≡ step (value d s) s k at stop g
  unfolding value
  by_head g e = ap (step (value d s) s k at stop) (sym head ∙ e)

  pub value_refuse : (e : Refusal) (place : ℕ) → h ≡ refuse e place → value (suc d) s k at stop ≡ wrong e place
  unfolding step
  value_refuse e place q = by_head (refuse e place) q

  pub value-leaf : (c : Content) (next : ℕ) → h ≡ Ok (Leaf c next) → value (suc d) s k at stop ≡ right (leaf (leaf_own s c)) next
  unfolding step
  value-leaf c next q = by_head (Ok (Leaf c next)) q

  pub value-referred : (n next : ℕ) → h ≡ Ok (Refer n next) → value (suc d) s k at stop ≡ referred (ltb n k) n at next
  unfolding step
  value-referred n next q = by_head (Ok (Refer n next)) q

  pub value-refer : (n next : ℕ) → h ≡ Ok (Refer n next) → n < k → value (suc d) s k at stop ≡ right (refer (reference_own n 0)) next
  value-refer n next q l = value-referred n next q ∙ ap (λ (b : Bool). referred b n at next) (lt-ltb n k l)

  pub value_no_entry : (n next : ℕ) → h ≡ Ok (Refer n next) → k ≤ n → value (suc d) s k at stop ≡ wrong why.NoEntry at
  value_no_entry n next q l = value-referred n next q ∙ ap (λ (b : Bool). referred b n at next) (le-ltb n k l)

  module _ (x : Holder) (n next : ℕ) (holder : h ≡ Ok (Hold x n next)) where
    pub value-hold : value (suc d) s k at stop ≡ holding (holder_own (kind_of x) n) (readings (value d s) (children_of x) s k 0 (child_count x n) next stop)
    unfolding step
    value-hold = by_head (Ok (Hold x n next)) holder

    pub value_held : (ts : Trees) (last : ℕ) → readings (value d s) (children_of x) s k 0 (child_count x n) next stop ≡ ran ts last
        → value (suc d) s k at stop ≡ right (hold (holder_own (kind_of x) n) ts) last
    value_held ts last e = value-hold ∙ ap (holding (holder_own (kind_of x) n)) e

  module _ (n next : ℕ) (declares : h ≡ Ok (Declare n next)) where
    pub value-declare : value (suc d) s k at stop ≡ declaring n (readings (value d s) Entries s 0 0 n next stop) (value d s) stop
    unfolding step
    value-declare = by_head (Ok (Declare n next)) declares

    pub value-entry-wrong : (e : Refusal) (place : ℕ) → readings (value d s) Entries s 0 0 n next stop ≡ broke e place → value (suc d) s k at stop ≡ wrong e place
    value-entry-wrong e place q = value-declare ∙ ap (λ (y : Readings). declaring n y (value d s) stop) q

    module _ (es : Trees) (last : ℕ) (entries : readings (value d s) Entries s 0 0 n next stop ≡ ran es last) where
      behind-entries : value (suc d) s k at stop ≡ closed n es (value d s n last stop)
      behind-entries = value-declare ∙ ap (λ (y : Readings). declaring n y (value d s) stop) entries

      pub value-declared : (t : Tree) (end : ℕ) → value d s n last stop ≡ right t end → value (suc d) s k at stop ≡ right (declare (declaration_own n) es t) end
      value-declared t end e = behind-entries ∙ ap (closed n es) e

  module _ (place n : ℕ) (frames : h ≡ Ok (Foreign place n)) where
    -- what its body reads as, a document of its own
    abbrev body : Reading
    body = whole (place + n) (value d s (in_foreign k) place (place + n))

    pub value-foreign : value (suc d) s k at stop ≡ framed place n body
    unfolding step
    value-foreign = by_head (Ok (Foreign place n)) frames

    pub value-framed : (t : Tree) (next : ℕ) → body ≡ right t next → value (suc d) s k at stop ≡ right (foreign foreign_own t) (place + n)
    value-framed t next e = value-foreign ∙ ap (framed place n) e

    pub value-damaged : (e : Refusal) (p : ℕ) → body ≡ wrong e p → value (suc d) s k at stop ≡ right (damaged (damaged_own place n (refusal_number e))) (place + n)
    value-damaged e p q = value-foreign ∙ ap (framed place n) q

-- ---- a whole document

module _ (stop : ℕ) (x : Reading) where
  pub whole-right : (t : Tree) (next : ℕ) → x ≡ right t next → next ≡ stop → whole stop x ≡ right t next
  whole-right t next e q = ap (whole stop) e ∙ ap (λ (b : Bool). ended b t next) (eq-eqb next stop q)

  pub whole_extra : (t : Tree) (next : ℕ) → x ≡ right t next → (next ≡ stop → ⊥) → whole stop x ≡ wrong why.Extra next
  whole_extra t next e f = ap (whole stop) e ∙ ap (λ (b : Bool). ended b t next) (ne_eqb next stop f)

  pub whole-wrong : (e : Refusal) (place : ℕ) → x ≡ wrong e place → whole stop x ≡ wrong e place
  whole-wrong e place q = ap (whole stop) q

-- ---- children

module _ (s : List ℕ) (at stop : ℕ) (x : Result Spelling Refusal) (key : x ≡ key_at s at stop) where
  pub keyed_at : (place n : ℕ) → x ≡ Ok (spells place n) → keyed at (key_at s at stop) ≡ right (leaf (span_own kind_key place n)) (place + n)
  keyed_at place n e = ap (keyed at) (sym key ∙ e)

  pub keyed_no : (e : Refusal) → x ≡ Err e → keyed at (key_at s at stop) ≡ wrong e at
  keyed_no e q = ap (keyed at) (sym key ∙ q)

-- a key, or a value under the entries in force for it
module _ (R : Reader) (s : List ℕ) (k i at stop : ℕ) where
  pub child_key : (c : Children) → is_key c i ≡ true → child c R s k i at stop ≡ keyed at (key_at s at stop)
  unfolding child
  child_key c e = ap (λ (b : Bool). in_turn b R s (in_force c k i) at stop) e

  pub child-value : (c : Children) → is_key c i ≡ false → child c R s k i at stop ≡ R (in_force c k i) at stop
  unfolding child
  child-value c e = ap (λ (b : Bool). in_turn b R s (in_force c k i) at stop) e

module _ (R : Reader) (c : Children) (s : List ℕ) (k i : ℕ) where
  -- number i of n is left: the laws below speak of `suc m`, code of n - i and n - (i + 1)
  pub run-left : (n at stop : ℕ) (y : Readings) → i < n → readings R c s k i (suc (n - (i + 1))) at stop ≡ y → readings R c s k i (n - i) at stop ≡ y
  run-left n at stop y l e = let q : n - i ≡ suc (n - (i + 1)) = omega arith in ap (λ (m : ℕ). readings R c s k i m at stop) q ∙ e

  module _ (m at stop : ℕ) where
    pub run-next : readings R c s k i (suc m) at stop ≡ follow (child c R s k i at stop) (λ next. readings R c s k (i + 1) m next stop)
    unfolding readings
    run-next = refl

    pub run_more : (t : Tree) (next : ℕ) → child c R s k i at stop ≡ right t next
        → readings R c s k i (suc m) at stop ≡ ahead t (readings R c s k (i + 1) m next stop)
    run_more t next e = run-next ∙ ap (λ (x : Reading). follow x (λ next. readings R c s k (i + 1) m next stop)) e

    pub run-broke : (e : Refusal) (place : ℕ) → child c R s k i at stop ≡ wrong e place → readings R c s k i (suc m) at stop ≡ broke e place
    run-broke e place q = run-next ∙ ap (λ (x : Reading). follow x (λ next. readings R c s k (i + 1) m next stop)) q

-- ---- a document

module _ (depth : ℕ) (s : List ℕ) where
  pub document-right : (t : Tree) (next : ℕ) → value (suc depth) s 0 0 (length s) ≡ right t next → next ≡ length s → document depth s ≡ right t next
  unfolding document
  document-right t next read e = whole-right (length s) (value (suc depth) s 0 0 (length s)) t next read e

  pub document_extra : (t : Tree) (next : ℕ) → value (suc depth) s 0 0 (length s) ≡ right t next → (next ≡ length s → ⊥) → document depth s ≡ wrong why.Extra next
  unfolding document
  document_extra t next read f = whole_extra (length s) (value (suc depth) s 0 0 (length s)) t next read f

  pub document-wrong : (e : Refusal) (place : ℕ) → value (suc depth) s 0 0 (length s) ≡ wrong e place → document depth s ≡ wrong e place
  unfolding document
  document-wrong e place q = whole-wrong (length s) (value (suc depth) s 0 0 (length s)) e place q
