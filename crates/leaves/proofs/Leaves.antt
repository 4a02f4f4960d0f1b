-- A leaf's row says what the leaf does, by each way out; and what a sane content gives. Assumes nothing.
use mathlib.Core.Path.{◌≡◌, sym, ap, ◌∙◌}
use mathlib.Core.Bool.{Bool, true, false, cond}
use mathlib.Core.List.{List}
use Prim.Native.Nat.{ℕ}
use lib.ListN.{take, drop}
use Rattle.wide.specs.declared.wide.Wide.{Wide}
use Rattle.wide.specs.Words.{value_of, wide_of}
use Rattle.wide.specs.Body.{body_value}
use Rattle.wide.specs.Family.{number_of, has_number}
use Rattle.wide.specs.Members.{integer_signed, integer_unsigned, integer}
use Rattle.wide.proofs.Nearness.{has_wide}
use Rattle.rows.specs.declared.row.Row.{Row}
use Rattle.rows.specs.Kinds.{kind_small, kind_signed, kind_unsigned, constant_own, span_own, char_own, leaf_row}
use Rattle.format.specs.declared.head.Content.{Content}
use Rattle.format.specs.declared.head.Content.TheVariants.{Constant, Small, Integer, Span, Char}
use Rattle.format.specs.Value.{integer_own, integer_kind, leaf_own}

-- ---- an integer's kind

pub kind-small : (s t : Bool) (n : ℕ) → t ≡ has_number (integer s).direct n → t ≡ true → kind_small ≡ integer_kind s n
kind-small true t n e h = ap (λ (b : Bool). cond b kind_small kind_signed) (sym h ∙ e)
kind-small false t n e h = ap (λ (b : Bool). cond b kind_small kind_unsigned) (sym h ∙ e)

pub kind-signed : (s t : Bool) (n : ℕ) → t ≡ has_number (integer s).direct n → t ≡ false → s ≡ true → kind_signed ≡ integer_kind s n
kind-signed true t n e h q = ap (λ (b : Bool). cond b kind_small kind_signed) (sym h ∙ e)
kind-signed false t n e h q = cc

pub kind-unsigned : (s t : Bool) (n : ℕ) → t ≡ has_number (integer s).direct n → t ≡ false → s ≡ false → kind_unsigned ≡ integer_kind s n
kind-unsigned true t n e h q = cc
kind-unsigned false t n e h q = ap (λ (b : Bool). cond b kind_small kind_unsigned) (sym h ∙ e)

-- the words of a number have its kind
kind_wide : (s : Bool) (n : ℕ) → integer_kind s (value_of (wide_of n)) ≡ integer_kind s n
kind_wide true n = ap (λ (b : Bool). cond b kind_small kind_signed) (has_wide integer_signed.direct n)
kind_wide false n = ap (λ (b : Bool). cond b kind_small kind_unsigned) (has_wide integer_unsigned.direct n)

-- ---- the row, by each way out

module _ (s : List ℕ) (c : Content) (row : ℕ) (r : Row) where
  pub constant-row : (kind : ℕ) → c ≡ Constant kind → r ≡ leaf_row (constant_own kind) row → r ≡ leaf_row (leaf_own s c) row
  unfolding leaf_own
  constant-row kind e d = rw e d

  pub small_row : (marker : ℕ) (w : Wide) → c ≡ Small marker → w ≡ wide_of (number_of integer_signed.direct marker)
      → r ≡ leaf_row (integer_own kind_small w) row → r ≡ leaf_row (leaf_own s c) row
  unfolding leaf_own
  small_row marker w e v d = rw (e, ← v) d

  pub integer-row : (signed : Bool) (place size : ℕ) (w : Wide) (kind : ℕ) → c ≡ Integer signed place size
      → w ≡ wide_of (body_value signed (take size (drop place s))) → kind ≡ integer_kind signed (value_of w)
      → r ≡ leaf_row (integer_own kind w) row → r ≡ leaf_row (leaf_own s c) row
  unfolding leaf_own
  integer-row signed place size w kind e v k d =
      let n : ℕ = body_value signed (take size (drop place s)) in
      let is : kind ≡ integer_kind signed n = k ∙ ap (λ (x : Wide). integer_kind signed (value_of x)) v ∙ kind_wide signed n in
      rw (e, d, is, v)

  pub span-row : (kind place size : ℕ) → c ≡ Span kind place size → r ≡ leaf_row (span_own kind place size) row → r ≡ leaf_row (leaf_own s c) row
  unfolding leaf_own
  span-row kind place size e d = rw e d

  pub char-row : (codepoint : ℕ) → c ≡ Char codepoint → r ≡ leaf_row (char_own codepoint) row → r ≡ leaf_row (leaf_own s c) row
  unfolding leaf_own
  char-row codepoint e d = rw e d
