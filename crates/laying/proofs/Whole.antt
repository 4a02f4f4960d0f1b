-- A whole document is its value, so its rows are the value's, at the front of the table. Assumes nothing.
use mathlib.Core.Path.{◌≡◌, refl, sym, ap, subst, ◌∙◌}
use mathlib.Core.Bool.{Bool}
use mathlib.Core.List.{List, []}
use Prim.Native.Nat.{ℕ, suc, ◌+◌, ◌*◌}
use native.Mathlib.Omega.{arith}
use lib.ListN.{length}
use lib.Seq.{sets}
use Rattle.rows.specs.Table.{words_per_row}
use Rattle.format.specs.Tree.{size}
use Rattle.format.specs.Value.{Reading, right, wrong, value, document}
use Rattle.format.specs.Layout.{layout}
use Rattle.format.proofs.Values.{document-value}
use Rattle.measure.specs.Inner.{row_in}
use Rattle.registry.specs.Inner.{chain}
use Rattle.laying.specs.Inner.{Right, tree_read, Ready, Did}

module _ (depth : ℕ) (s : List ℕ) (doubt : Bool) (table : List ℕ) (r : Ready (document depth s) doubt table 0 0 0) where
  value-is : value (depth + 1) s 0 0 (length s) ≡ document depth s
  unfolding Right
  value-is = of (document depth s) refl r.good
    where
      of : (x : Reading) → document depth s ≡ x → Right x → value (depth + 1) s 0 0 (length s) ≡ document depth s
      of (right t n) q g =
          let e : depth + 1 ≡ suc depth = omega arith in
          ap (λ (d : ℕ). value d s 0 0 (length s)) e ∙ document-value depth s t n q ∙ sym q
      of (wrong e p) q g = absurd g

  pub document_ready : Ready (value (depth + 1) s 0 0 (length s)) doubt table 0 0 0
  document_ready = subst (λ (x : Reading). Ready x doubt table 0 0 0) (sym value-is) r

  module _ (table₁ : List ℕ) (f : ℕ) (d' : Did (value (depth + 1) s 0 0 (length s)) table 0 0 0 table₁ f) where
    d : Did (document depth s) table 0 0 0 table₁ f
    d = subst (λ (x : Reading). Did x table 0 0 0 table₁ f) value-is d'

    pub rows-laid : (used : ℕ) → used ≡ row_in f → used ≡ size (tree_read (document depth s))
    rows-laid used e = omega (arith, d.past)

    pub words-laid : table₁ ≡ sets table 0 (layout (tree_read (document depth s)) 0 [])
    unfolding chain
    words-laid = let at : words_per_row * 0 ≡ 0 = refl in cc (d.words, at)
