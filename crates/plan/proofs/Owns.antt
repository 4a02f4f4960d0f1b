-- A row's head, by what its kind names. Assumes nothing.
use mathlib.Core.Path.{◌≡◌, refl, sym, ap, ◌∙◌, subst}
use mathlib.Core.Bool.{Bool, true, false}
use mathlib.Core.List.{List, [], ◌∷◌}
use Prim.Native.Nat.{ℕ, ◌-◌, ◌≤◌}
use native.Mathlib.Omega.{arith}
use mir.Val.{Fits}
use mir.Syntax.{w8}
use Rattle.wide.specs.declared.wide.Wide.{Wide}
use Rattle.wide.specs.Number.{bytes_of}
use Rattle.wide.specs.Words.{value_of, words}
use Rattle.wide.specs.Family.{form}
use Rattle.wide.specs.Members.{integer, text_length, binary_length, key_length, reference_number, declaration_count, foreign_length}
use Rattle.format.specs.declared.head.Holder.{Holder}
use Rattle.rows.specs.declared.row.Row.{Row}
use Rattle.rows.specs.Table.{own_of}
use Rattle.rules.specs.declared.kind.Kind.{Kind}
use Rattle.rules.specs.declared.kind.Kind.TheVariants.{Constant, Small, Signed, Unsigned, Float, Text, Holds, Binary, Char, Reference, Declaration, Whole, Damaged, Key, Unknown}
use Rattle.rules.specs.Shape.{named}
use Rattle.rules.proofs.Says.{Names, names}
use Rattle.encode.specs.Encode.{float_marker, holder_count, head_for}
use Rattle.plan.specs.declared.form.Form.{Form}
use Rattle.plan.specs.declared.plan.Plan.{Plan}
use Rattle.plan.specs.Inner.{Plans, Formed, own_head}
use Rattle.plan.proofs.Plans.{formed_plan}

pub count_head : (holder h : Holder) (n : ℕ) (p : Plan) → holder ≡ h → Plans p (form (holder_count h) n) → Plans p (form (holder_count holder) n)
count_head holder h n p e = subst (λ (x : Holder). Plans p (form (holder_count x) n)) (sym e)

module _ (w : Row) (k : Kind) (e : k ≡ named (own_of w)) where
  pub constant-low : k ≡ Constant → 1 ≤ w.kind
  constant-low q = (subst (λ (K : Kind). Names K w.kind) (sym e ∙ q) (names (own_of w))).0

  pub constant-byte : k ≡ Constant → Fits w8 (w.kind - 1)
  constant-byte q = omega (arith, (subst (λ (K : Kind). Names K w.kind) (sym e ∙ q) (names (own_of w))).1)

  module _ (size : ℕ) (p : Plan) where
    as_head : (K : Kind) (bytes : List ℕ) → k ≡ K → bytes ≡ head_for (own_of w) size K → Plans p bytes → Plans p (own_head w size)
    unfolding own_head
    as_head K bytes q r h = subst (Plans p) (r ∙ ap (head_for (own_of w) size) (sym q ∙ e)) h

    pub constant_head : k ≡ Constant → Plans p ((w.kind - 1) ∷ []) → Plans p (own_head w size)
    unfolding head_for
    constant_head q h = as_head Constant _ q refl h

    pub unknown_head : k ≡ Unknown → Plans p (0x0e ∷ []) → Plans p (own_head w size)
    unfolding head_for
    unknown_head q h = as_head Unknown _ q refl h

    pub float_head : k ≡ Float → (b : ℕ) → b ≡ float_marker w.w1 → Plans p (b ∷ []) → Plans p (own_head w size)
    unfolding head_for
    float_head q b r h = as_head Float _ q (ap (λ (x : ℕ). x ∷ []) r) h

    pub whole_head : k ≡ Whole → Plans p (form foreign_length size) → Plans p (own_head w size)
    unfolding head_for
    whole_head q h = as_head Whole _ q refl h

    module _ (v : Wide) (r : v ≡ words w.w0 w.w1 w.w2 w.w3) (v' : Wide) (r' : v' ≡ words w.w0 w.w1 w.w2 w.w3) (m : Form) where
      plan_of : (signed : Bool) → Formed m signed (value_of v) → Plans p (m.lead ∷ bytes_of m.size (value_of v')) → Plans p (form (integer signed) (value_of (words w.w0 w.w1 w.w2 w.w3)))
      plan_of signed f h =
          subst (λ (x : Wide). Plans p (form (integer signed) (value_of x))) r
          (formed_plan signed (value_of v) m p f (subst (λ (x : Wide). Plans p (m.lead ∷ bytes_of m.size (value_of x))) (r' ∙ sym r) h))

      pub small_head : k ≡ Small → Formed m true (value_of v) → Plans p (m.lead ∷ bytes_of m.size (value_of v')) → Plans p (own_head w size)
      unfolding head_for
      small_head q f h = as_head Small _ q refl (plan_of true f h)

      pub signed_head : k ≡ Signed → Formed m true (value_of v) → Plans p (m.lead ∷ bytes_of m.size (value_of v')) → Plans p (own_head w size)
      unfolding head_for
      signed_head q f h = as_head Signed _ q refl (plan_of true f h)

      pub unsigned_head : k ≡ Unsigned → Formed m false (value_of v) → Plans p (m.lead ∷ bytes_of m.size (value_of v')) → Plans p (own_head w size)
      unfolding head_for
      unsigned_head q f h = as_head Unsigned _ q refl (plan_of false f h)

    -- of a count or a number
    module _ (n : ℕ) (r : n ≡ w.w0) where
      pub char-head : (v : Wide) → value_of v ≡ n → k ≡ Char → Plans p (0xc0 ∷ bytes_of 3 (value_of v)) → Plans p (own_head w size)
      unfolding head_for
      char-head v f q h = as_head Char _ q (ap (λ (x : ℕ). 0xc0 ∷ bytes_of 3 x) (f ∙ r)) h

      pub holder-head : (holder : Holder) → k ≡ Holds holder → Plans p (form (holder_count holder) n) → Plans p (own_head w size)
      unfolding head_for
      holder-head holder q h = as_head (Holds holder) _ q (ap (form (holder_count holder)) r) h

      pub reference_head : k ≡ Reference → Plans p (form reference_number n) → Plans p (own_head w size)
      unfolding head_for
      reference_head q h = as_head Reference _ q (ap (form reference_number) r) h

      pub declaration_head : k ≡ Declaration → Plans p (form declaration_count n) → Plans p (own_head w size)
      unfolding head_for
      declaration_head q h = as_head Declaration _ q (ap (form declaration_count) r) h

    -- of a length
    module _ (n : ℕ) (r : n ≡ w.w1) where
      pub text_head_lem : k ≡ Text → Plans p (form text_length n) → Plans p (own_head w size)
      unfolding head_for
      text_head_lem q h = as_head Text _ q (ap (form text_length) r) h

      pub binary-head : k ≡ Binary → Plans p (form binary_length n) → Plans p (own_head w size)
      unfolding head_for
      binary-head q h = as_head Binary _ q (ap (form binary_length) r) h

      pub damaged_head : k ≡ Damaged → Plans p (form foreign_length n) → Plans p (own_head w size)
      unfolding head_for
      damaged_head q h = as_head Damaged _ q (ap (form foreign_length) r) h

      pub key_head : k ≡ Key → Plans p (form key_length n) → Plans p (own_head w size)
      unfolding head_for
      key_head q h = as_head Key _ q (ap (form key_length) r) h
