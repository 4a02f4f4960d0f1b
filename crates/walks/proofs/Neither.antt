-- The kind of a right tree's own row: a reference's, a declaration's, or neither. Assumes nothing.
use mathlib.Core.Path.{◌≡◌, sym, ap, ◌∙◌}
use Prim.Native.Nat.{ℕ}
use native.Mathlib.Omega.{arith}
use mathlib.Core.Bool.{Bool, true, false}
use mathlib.Core.List.{List}
use Rattle.rows.specs.Table.{Own}
use Rattle.rows.specs.Kinds.{kind_reference, kind_declaration, kind_key}
use Rattle.format.specs.Tree.{Tree, leaf, refer, hold, declare, foreign, damaged}
use Rattle.format.proofs.Layouts.{own_at}
use Rattle.rules.specs.declared.shape.Shape.TheVariants.{Leaf, Hold, Whole, Damaged}
use Rattle.rules.specs.Obeys.{KeyObeys, IfKey, Obeys}
use Rattle.rules.proofs.Says.{key_kind, refer-own, declare-own, reference_shape, declaration_shape}
use Rattle.walks.proofs.Good.{Right}

-- a kind that is neither
pub record Neither (kind : ℕ) : Type 0 where
  pub no_reference : kind ≡ kind_reference → ⊥
  pub no_declaration : kind ≡ kind_declaration → ⊥

-- the kind that a tree's own row has
abbrev pub KindIs : Tree → ℕ → Type 0
KindIs (leaf o) kind = Neither kind
KindIs (refer o) kind = kind ≡ kind_reference
KindIs (hold o ts) kind = Neither kind
KindIs (declare o es t) kind = kind ≡ kind_declaration
KindIs (foreign o t) kind = Neither kind
KindIs (damaged o) kind = Neither kind

module _ (s : List ℕ) (k : ℕ) (registry : List ℕ) where
  of_key : (t : Tree) → KeyObeys s t → KindIs t (own_at t registry).kind
  of_key t f =
      let e : f.own.kind ≡ kind_key = key_kind s f.own f.fits in
      rw f.is (record { no_reference = λ q. absurd (omega (arith, sym e ∙ q)); no_declaration = λ q. absurd (omega (arith, sym e ∙ q)) })

  of_value : (d : ℕ) (t : Tree) → Obeys s d k t → KindIs t (own_at t registry).kind
  unfolding Obeys
  of_value d (leaf o) f = record { no_reference = reference_shape s o Leaf f.1; no_declaration = declaration_shape s o Leaf f.1 }
  of_value d (refer o) f = ap (λ (p : Own). p.kind) (refer-own s o f.1)
  of_value d (hold o ts) f =
      record { no_reference = reference_shape s o (Hold f.1.0) f.1.1; no_declaration = declaration_shape s o (Hold f.1.0) f.1.1 }
  of_value d (declare o es t) f = ap (λ (p : Own). p.kind) (declare-own s o f.1)
  of_value d (foreign o t) f = record { no_reference = reference_shape s o Whole f.1; no_declaration = declaration_shape s o Whole f.1 }
  of_value d (damaged o) f = record { no_reference = reference_shape s o Damaged f.1; no_declaration = declaration_shape s o Damaged f.1 }

  pub kind-is : (t : Tree) → Right s k t → KindIs t (own_at t registry).kind
  kind-is t r = of r.key r.obeys
    where
      of : (b : Bool) → IfKey b (KeyObeys s t) (Obeys s r.levels k t) → KindIs t (own_at t registry).kind
      of true f = of_key t f
      of false f = of_value r.levels t f
