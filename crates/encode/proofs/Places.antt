-- A row with its payload at another place: it is of the same kind, and all but the place stays. And what a damaged row's kind is named. Assumes nothing.
use mathlib.Core.Path.{◌≡◌, refl, ap, ◌∙◌}
use Prim.Native.Nat.{ℕ}
use mathlib.Core.Bool.{Bool, true, false, cond}
use mathlib.Core.List.{List, []}
use lib.ListN.{take, drop}
use Rattle.rows.specs.Table.{Own, with_place}
use Rattle.rows.specs.Kinds.{damaged_own}
use Rattle.format.specs.declared.refusal.Refusal.{Refusal}
use Rattle.format.specs.declared.refusal.Refusal.TheVariants as why
use Rattle.format.specs.Refusal.{refusal_number}
use Rattle.rules.specs.declared.kind.Kind.{Kind}
use Rattle.rules.specs.declared.kind.Kind.TheVariants.{Damaged}
use Rattle.rules.specs.Shape.{named}
use Rattle.encode.specs.Encode.{has_bytes, payload_of, moved}

-- a row with its payload, if it has one, at `place`
abbrev pub moved_if : Bool → Own → ℕ → Own
moved_if b o place = cond b (with_place o place) o

module _ (o : Own) (place : ℕ) where
  pub moved-kind : (moved o place).kind ≡ o.kind
  moved-kind = of (has_bytes (named o))
    where
      of : (b : Bool) → (moved_if b o place).kind ≡ o.kind
      of true = refl
      of false = refl

  pub moved_named : named (moved o place) ≡ named o
  unfolding named
  moved_named = of (has_bytes (named o))
    where
      of : (b : Bool) → named (moved_if b o place) ≡ named o
      of true = refl
      of false = refl

  pub moved-again : (again : ℕ) → moved (moved o place) again ≡ moved o again
  moved-again again = ap (λ (K : Kind). moved_if (has_bytes K) (moved o place) again) moved_named ∙ of (has_bytes (named o))
    where
      of : (b : Bool) → moved_if b (moved_if b o place) again ≡ moved_if b o again
      of true = refl
      of false = refl

  -- its payload is what stands there
  pub moved_payload : (s : List ℕ) → payload_of s (moved o place) ≡ cond (has_bytes (named o)) (take o.w1 (drop place s)) []
  moved_payload s = ap (λ (K : Kind). cond (has_bytes K) (take (moved o place).w1 (drop (moved o place).w0 s)) []) moved_named ∙ of (has_bytes (named o))
    where
      of : (b : Bool) → cond b (take (moved_if b o place).w1 (drop (moved_if b o place).w0 s)) [] ≡ cond b (take o.w1 (drop place s)) []
      of true = refl
      of false = refl

  -- a row without bytes of the data has no place
  pub moved_bare : has_bytes (named o) ≡ false → moved o place ≡ o
  moved_bare b = rw b

pub damaged-named : (place n : ℕ) (e : Refusal) → named (damaged_own place n (refusal_number e)) ≡ Damaged
unfolding named
damaged-named place n why.Short = refl
damaged-named place n why.Marker = refl
damaged-named place n why.Huge = refl
damaged-named place n why.Text = refl
damaged-named place n why.Char = refl
damaged-named place n why.NoEntry = refl
damaged-named place n why.Empty = refl
damaged-named place n why.Deep = refl
damaged-named place n why.Extra = refl
