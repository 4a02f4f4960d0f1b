-- What is read back says the same: the rows, places aside, and the payload bytes. By induction on the tree. Assumes nothing.
use mathlib.Core.Path.{◌≡◌, refl, sym, ap, ap₂, ◌∙◌}
use Prim.Native.Nat.{ℕ, suc, ◌+◌, ◌-◌, ◌≤◌}
use native.Mathlib.Omega.{arith}
use native.Mathlib.Nat.{zero-add}
use mathlib.Core.Bool.{Bool, true, false, cond}
use mathlib.Core.List.{List, [], ◌++◌, append-nil}
use lib.ListN.{length, take, drop}
use borrow.Author.Tests.{eq-eqb}
use Rattle.lists.proofs.Tests.{and_first, and_second}
use Rattle.rows.specs.Table.{Own, limit}
use Rattle.format.specs.declared.head.Children.{Children}
use Rattle.format.specs.declared.head.Children.TheVariants.{Entries}
use Rattle.format.specs.Head.{float_sizes}
use Rattle.format.specs.Tree.{Tree, leaf, refer, hold, declare, foreign, damaged, Trees}
use Rattle.format.specs.Tree as trees
use Rattle.format.specs.Value.{right, children_of, in_foreign, whole, document, is_key}
use Rattle.rules.specs.declared.kind.Kind.{Kind}
use Rattle.rules.specs.declared.kind.Kind.TheVariants.{Constant, Small, Signed, Unsigned, Float, Text, Holds, Binary, Char, Reference, Declaration, Whole, Damaged, Key, Unknown}
use Rattle.rules.specs.declared.shape.Shape.TheVariants as shape
use Rattle.rules.specs.Shape.{named, blank, inside, one_of, span, fits, shape_of}
use Rattle.rules.specs.Obeys.{KeyObeys, IfKey, Obeys, ObeyAll}
use Rattle.rules.proofs.Judged.{inside_within, span_within}
use Rattle.rules.proofs.Says.{spelt_within, key_inside, damaged-inside}
use Rattle.encode.specs.Encode.{head_of, has_bytes, payload_of, moved, encode, encodes}
use Rattle.encode.proofs.Placed.{placed, placeds}
use Rattle.encode.proofs.Said.{Said, one, over, under, none, more, said, saids}
use Rattle.encode.proofs.Fronts.{Stand, stand_first, stand_second}
use Rattle.encode.proofs.Leaves.{payload_there}
use Rattle.encode.proofs.Places.{moved-again, moved_payload}
use Rattle.encode.proofs.Back.{part-long}
use Rattle.encode.proofs.Worded.{Worded}
use Rattle.encode.proofs.Again.{told_of, again}

-- ---- payloads lie in the data

no_true : false ≡ true → ⊥
no_true e = let z : ◌≡◌ {A = ℕ} 0 1 = cc in omega arith

-- what fits a kind with a payload has it in the data
fits-inside : (s : List ℕ) (o : Own) (K : Kind) → has_bytes K ≡ true → fits s o K ≡ true → o.w0 + o.w1 ≤ length s
unfolding fits
fits-inside s o Constant b f = absurd (no_true b)
fits-inside s o Small b f = absurd (no_true b)
fits-inside s o Signed b f = absurd (no_true b)
fits-inside s o Unsigned b f = absurd (no_true b)
fits-inside s o Float b f = span_within s o (and_first (span s o) (one_of float_sizes o.w1) f)
fits-inside s o Text b f = spelt_within s o f
fits-inside s o (Holds h) b f = absurd (no_true b)
fits-inside s o Binary b f = span_within s o f
fits-inside s o Char b f = absurd (no_true b)
fits-inside s o Reference b f = absurd (no_true b)
fits-inside s o Declaration b f = absurd (no_true b)
fits-inside s o Whole b f = absurd (no_true b)
fits-inside s o Damaged b f = inside_within s o (and_second (blank 0 0 0 o.w3) (inside s o.w0 o.w1) f)
fits-inside s o Key b f = spelt_within s o f
fits-inside s o Unknown b f = absurd (no_true f)

pub leaf-inside : (s : List ℕ) (o : Own) → shape_of s o ≡ shape.Leaf → has_bytes (named o) ≡ true → o.w0 + o.w1 ≤ length s
leaf-inside s o e b = fits-inside s o (named o) b (told_of s o shape.Leaf e (λ z. let y : ◌≡◌ {A = ℕ} 0 1 = cc in omega arith)).right

-- ---- a row with no child

-- its payload stands behind its head, and is the same
one_like : (s s' : List ℕ) (at stop : ℕ) (o : Own) → (has_bytes (named o) ≡ true → o.w0 + o.w1 ≤ length s) → Stand s' at stop (head_of o 0 ++ payload_of s o)
    → one (moved (moved o (at + length (head_of o 0))) 0) (payload_of s' (moved o (at + length (head_of o 0)))) ≡ one (moved o 0) (payload_of s o)
one_like s s' at stop o f h = ap₂ one (moved-again o p 0) (moved_payload o p s' ∙ of (has_bytes (named o)) f h)
  where
    p : ℕ
    p = at + length (head_of o 0)

    P : List ℕ
    P = take o.w1 (drop o.w0 s)

    of : (b : Bool) → (b ≡ true → o.w0 + o.w1 ≤ length s) → Stand s' at stop (head_of o 0 ++ cond b P []) → cond b (take o.w1 (drop p s')) [] ≡ cond b P []
    of true g h = payload_there s' at stop (head_of o 0) P o.w1 h (part-long s o.w0 o.w1 (g refl))
    of false g h = refl

key_like : (s s' : List ℕ) (at stop : ℕ) (t : Tree) → KeyObeys s t → Stand s' at stop (encode s t) → said s' (placed s t at) ≡ said s t
unfolding encode placed said
key_like s s' at stop t f h = rw f.is (one_like s s' at stop f.own (λ _. key_inside s f.own f.fits) (rw f.is at h))

-- ---- trees

item_like : (s s' : List ℕ) (at stop : ℕ) (t : Tree) (d k : ℕ) → (Obeys s d k t → said s' (placed s t at) ≡ said s t) → (b : Bool) → IfKey b (KeyObeys s t) (Obeys s d k t) → Stand s' at stop (encode s t)
    → said s' (placed s t at) ≡ said s t
item_like s s' at stop t d k f true g h = key_like s s' at stop t g h
item_like s s' at stop t d k f false g h = f g

module _ (s s' : List ℕ) where
  mutual
    unfolding Obeys encode placed said

    pub alike : (t : Tree) (d k at stop : ℕ) → Obeys s d k t → Stand s' at stop (encode s t) → said s' (placed s t at) ≡ said s t
    alike (leaf o) d k at stop f h = one_like s s' at stop o (leaf-inside s o f.1) h
    alike (refer o) d k at stop f h = refl
    alike (hold o ts) d k at stop f h =
        let H : List ℕ = head_of o (length (encodes s ts)) in
        ap (over o) (alikes ts (d - 1) (children_of f.1.0) k 0 (at + length H) stop f.1.3 (stand_second s' at stop H (encodes s ts) h))
    alike (declare o es t) d k at stop f h =
        let F : List ℕ = head_of o (length (encodes s es ++ encode s t)) in
        let h' = stand_second s' at stop F (encodes s es ++ encode s t) h in
        ap₂ (under o) (alikes es (d - 1) Entries 0 0 (at + length F) stop f.3 (stand_first s' (at + length F) stop (encodes s es) (encode s t) h'))
        (alike t (d - 1) o.w0 (at + length F + length (encodes s es)) stop f.4 (stand_second s' (at + length F) stop (encodes s es) (encode s t) h'))
    alike (foreign o t) d k at stop f h =
        let H : List ℕ = head_of o (length (encode s t)) in
        ap (λ (x : Said). over o (more x none)) (alike t (d - 1) (in_foreign k) (at + length H) stop f.2 (stand_second s' at stop H (encode s t) h))
    alike (damaged o) d k at stop f h = one_like s s' at stop o (λ _. damaged-inside s o f.1) h

    pub alikes : (ts : Trees) (d : ℕ) (c : Children) (k i at stop : ℕ) → ObeyAll s d c k i ts → Stand s' at stop (encodes s ts) → saids s' (placeds s ts at) ≡ saids s ts
    alikes trees.none d c k i at stop f h = refl
    alikes (trees.more t ts) d c k i at stop f h =
        ap₂ more (item_like s s' at stop t d k (λ g. alike t d k at stop g (stand_first s' at stop (encode s t) (encodes s ts) h)) (is_key c i) f.0 (stand_first s' at stop (encode s t) (encodes s ts) h))
        (alikes ts d c _ (i + 1) (at + length (encode s t)) stop f.1 (stand_second s' at stop (encode s t) (encodes s ts) h))

-- ---- a document

whole_stand : (s : List ℕ) → Stand s 0 (length s) s
whole_stand s = record { rest = []; bytes = sym (append-nil s); room = omega arith; inside = omega arith }

module _ (depth : ℕ) (s : List ℕ) (t : Tree) (fine : Obeys s (suc depth) 0 t) (worded : Worded t) (few : length (encode s t) ≤ limit) where
  -- what is written reads back, with its new places
  pub reads_back : document depth (encode s t) ≡ right (placed s t 0) (length (encode s t))
  unfolding document
  reads_back =
      let e = again s (encode s t) few t (suc depth) 0 0 (length (encode s t)) fine worded (whole_stand (encode s t)) in
      ap (whole (length (encode s t))) (e ∙ ap (right (placed s t 0)) (zero-add (length (encode s t)))) ∙ rw (eq-eqb (length (encode s t)) (length (encode s t)) refl)

  -- and says the same
  pub says_same : said (encode s t) (placed s t 0) ≡ said s t
  says_same = alike s (encode s t) t (suc depth) 0 0 (length (encode s t)) fine (whole_stand (encode s t))
