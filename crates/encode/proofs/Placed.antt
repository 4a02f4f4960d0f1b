-- The tree that written bytes read as: the same, with the places that its payloads have there. A definition and no law; assumes nothing.
use Prim.Native.Nat.{ℕ, ◌+◌}
use mathlib.Core.List.{List, ◌++◌}
use lib.ListN.{length}
use Rattle.format.specs.Tree.{Tree, leaf, refer, hold, declare, foreign, damaged, Trees, none, more}
use Rattle.encode.specs.Encode.{head_of, moved, encode, encodes}

-- the tree with the places that its payloads have where its bytes stand from `at` on
unfoldable mutual
  pub placed : List ℕ → Tree → ℕ → Tree
  placed s (leaf o) at = leaf (moved o (at + length (head_of o 0)))
  placed s (refer o) at = refer o
  placed s (hold o ts) at = hold o (placeds s ts (at + length (head_of o (length (encodes s ts)))))
  placed s (declare o es t) at =
      declare o (placeds s es (at + length (head_of o (length (encodes s es ++ encode s t)))))
      (placed s t (at + length (head_of o (length (encodes s es ++ encode s t))) + length (encodes s es)))
  placed s (foreign o t) at = foreign o (placed s t (at + length (head_of o (length (encode s t)))))
  placed s (damaged o) at = damaged (moved o (at + length (head_of o 0)))

  pub placeds : List ℕ → Trees → ℕ → Trees
  placeds s none at = none
  placeds s (more t ts) at = more (placed s t at) (placeds s ts (at + length (encode s t)))
