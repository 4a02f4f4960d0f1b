-- No document that says the same is shorter: the length of a tree's bytes is told by what it says alone. By induction on the tree. Assumes nothing.
use mathlib.Core.Path.{◌≡◌, refl, sym, ap, ap₂, ◌∙◌}
use Prim.Native.Nat.{ℕ, ◌+◌, ◌≤◌}
use native.Mathlib.Omega.{arith}
use native.Mathlib.Nat.{add-zero}
use mathlib.Core.List.{List, ◌++◌}
use lib.ListN.{length, length-append}
use Rattle.wide.proofs.Numbers.{Bytes}
use Rattle.rows.specs.Table.{Own, limit}
use Rattle.format.specs.Tree.{Tree, leaf, refer, hold, declare, foreign, damaged, Trees}
use Rattle.format.specs.Tree as trees
use Rattle.format.specs.Value.{right, document}
use Rattle.rules.specs.declared.kind.Kind.{Kind}
use Rattle.rules.specs.declared.kind.Kind.TheVariants.{Constant, Small, Signed, Unsigned, Float, Text, Holds, Binary, Char, Reference, Declaration, Whole, Damaged, Key, Unknown}
use Rattle.rules.specs.Shape.{named}
use Rattle.encode.specs.Encode.{head_for, head_of, has_bytes, payload_of, moved, encode, encodes}
use Rattle.encode.proofs.Places.{moved_if, moved_named}
use Rattle.encode.proofs.Said.{Said, one, over, under, Saids, none, more, said, saids}
use Rattle.encode.proofs.Least.{document_least}

-- how many bytes say it
unfoldable mutual
  pub width : Said → ℕ
  width (one o p) = length (head_of o 0) + length p
  width (over o ts) = length (head_of o (widths ts)) + widths ts
  width (under o es t) = length (head_of o (widths es + width t)) + (widths es + width t)

  pub widths : Saids → ℕ
  widths none = 0
  widths (more t ts) = width t + widths ts

-- what stands before a payload does not depend on its place
head_free : (o : Own) (place : ℕ) (K : Kind) → head_for (moved_if (has_bytes K) o place) 0 K ≡ head_for o 0 K
unfolding head_for
head_free o place Constant = refl
head_free o place Small = refl
head_free o place Signed = refl
head_free o place Unsigned = refl
head_free o place Float = refl
head_free o place Text = refl
head_free o place (Holds x) = refl
head_free o place Binary = refl
head_free o place Char = refl
head_free o place Reference = refl
head_free o place Declaration = refl
head_free o place Whole = refl
head_free o place Damaged = refl
head_free o place Key = refl
head_free o place Unknown = refl

moved_head : (o : Own) (place : ℕ) → head_of (moved o place) 0 ≡ head_of o 0
moved_head o place = ap (head_for (moved o place) 0) (moved_named o place) ∙ head_free o place (named o)

one_width : (s : List ℕ) (o : Own) → length (head_of (moved o 0) 0) + length (payload_of s o) ≡ length (head_of o 0) + length (payload_of s o)
one_width s o = ap (λ (l : List ℕ). length l + length (payload_of s o)) (moved_head o 0)

mutual
  unfolding said encode width

  pub said_width : (s : List ℕ) (t : Tree) → length (encode s t) ≡ width (said s t)
  said_width s (leaf o) = length-append (head_of o 0) (payload_of s o) ∙ sym (one_width s o)
  said_width s (refer o) = sym (add-zero (length (head_of o 0)))
  said_width s (hold o ts) =
      length-append (head_of o (length (encodes s ts))) (encodes s ts) ∙ ap (λ (n : ℕ). length (head_of o n) + n) (saids_width s ts)
  said_width s (declare o es t) =
      let Y : List ℕ = encodes s es ++ encode s t in
      let e : length Y ≡ widths (saids s es) + width (said s t) = length-append (encodes s es) (encode s t) ∙ ap₂ (λ (a b : ℕ). a + b) (saids_width s es) (said_width s t) in
      length-append (head_of o (length Y)) Y ∙ ap (λ (n : ℕ). length (head_of o n) + n) e
  said_width s (foreign o t) =
      length-append (head_of o (length (encode s t))) (encode s t) ∙ ap (λ (n : ℕ). length (head_of o n) + n) (said_width s t ∙ sym (add-zero (width (said s t))))
  said_width s (damaged o) = length-append (head_of o 0) (payload_of s o) ∙ sym (one_width s o)

  saids_width : (s : List ℕ) (ts : Trees) → length (encodes s ts) ≡ widths (saids s ts)
  saids_width s trees.none = refl
  saids_width s (trees.more t ts) = length-append (encode s t) (encodes s ts) ∙ ap₂ (λ (a b : ℕ). a + b) (said_width s t) (saids_width s ts)

-- ---- documents

-- every document whose tree says what t says has at least as many bytes as t is written in
pub nothing_shorter : (s : List ℕ) (t : Tree) (depth : ℕ) (s' : List ℕ) → Bytes s' → length s' ≤ limit → (u : Tree) (next : ℕ) → document depth s' ≡ right u next
    → said s' u ≡ said s t → length (encode s t) ≤ length s'
nothing_shorter s t depth s' b few u next e q =
    let l : length (encode s t) ≡ length (encode s' u) = said_width s t ∙ ap width (sym q) ∙ sym (said_width s' u) in
    omega (arith, l, document_least depth s' b few u next e)
