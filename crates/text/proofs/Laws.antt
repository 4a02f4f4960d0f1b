-- The laws of the check: it says well formed of exactly the runs of the RFC's sequences, and of any other text where the first ill-formed
-- sequence begins. Assumes nothing.
use Prim.Native.Nat.{ℕ, ◌+◌, ◌≤◌}
use mathlib.Core.List.{List, [], ◌++◌, append-nil}
use Rattle.std.specs.Prelude.{Ok}
use mathlib.Core.Path.{◌≡◌, sym, ap, subst, ◌∙◌}
use native.Mathlib.Omega.{arith}
use lib.ListN.{length, take, drop, length-drop, take-append-drop}
use lib.Seq.{length-take-le}
use Rattle.text.specs.Grammar.{Sequences, Breaks}
use Rattle.text.specs.Check.{Text, ill_formed, text_from, text_of}
use Rattle.text.proofs.Walks.{stops}
use Rattle.text.proofs.Runs.{passed, join, nothing, Judged, judged}

-- a run of sequences is well formed
pub well-formed : {s : List ℕ} → Sequences s → text_of s ≡ Ok tt
unfolding text_of text_from
well-formed {s} h = ap (text_from 0 0) (sym (append-nil s)) ∙ passed h 0 []

-- and nothing else is
pub sequences : (s : List ℕ) → text_of s ≡ Ok tt → Sequences s
unfolding text_of
sequences s e = subst (Judged 0 s) e (judged 0 0 s)

-- the offset is where the first ill-formed sequence begins
pub first_break : (s : List ℕ) (k : ℕ) → text_of s ≡ ill_formed k → Breaks s k
unfolding text_of
first_break s k e =
    let b = subst (Judged 0 s) e (judged 0 0 s) in
    let j : b.0 ≡ k = omega arith in
    subst (Breaks s) j b.2

-- and where that begins is the offset
pub offset : (s : List ℕ) (k : ℕ) → Breaks s k → text_of s ≡ ill_formed k
unfolding text_of
offset s k b =
    let inside : k ≤ length s = omega (arith, b.inside) in
    let i : 0 + length (take k s) ≡ k = omega (arith, length-take-le k s inside) in
    ap (text_from 0 0) (sym (take-append-drop k s))
    ∙ passed b.before 0 (drop k s)
    ∙ ap (λ (j : ℕ). text_from j 0 (drop k s)) i
    ∙ stops k (drop k s) (omega (arith, length-drop k s, b.inside)) (nothing (drop k s) b.none_there)

-- joined, well-formed texts are well formed
pub joined : (a b : List ℕ) → text_of a ≡ Ok tt → text_of b ≡ Ok tt → text_of (a ++ b) ≡ Ok tt
joined a b p q = well-formed (join (sequences a p) (sequences b q))

-- two answers that the promise allows are equal
pub one_answer : (s : List ℕ) (r r' : Text) → r ≡ text_of s → r' ≡ text_of s → r ≡ r'
one_answer s r r' p q = p ∙ sym q
