-- The walk over a text passes runs of sequences, and what it answers is so. Assumes nothing.
use Prim.Native.Nat.{ℕ, zero, suc, ◌+◌}
use mathlib.Core.List.{List, [], ◌∷◌, ◌++◌, append_assoc, Memᴰ}
use Rattle.std.specs.Prelude.{Ok, Err}
use mathlib.Core.Path.{◌≡◌, refl, sym, ap, subst, ◌∙◌}
use native.Mathlib.Nat.{add-zero, add_assoc}
use native.Mathlib.Omega.{arith}
use lib.ListN.{length, take, drop, length-append, length-drop, take-append-drop}
use lib.Seq.{drop-append_seam, take-add, drop-drop}
use Rattle.text.specs.Syntax.{Line, UTF8-char}
use Rattle.text.specs.Grammar.{none, more, Sequence, Sequences, Breaks}
use Rattle.text.specs.Check.{Text, sequence, begins, text_from}
use Rattle.text.proofs.Fronts.{Front, front, sequence-taken, sequence-bytes}
use Rattle.text.proofs.Walks.{goes_on_lem}

-- the walk passes a run of sequences
pub passed : {q : List ℕ} → Sequences q → (at : ℕ) (t : List ℕ) → text_from at 0 (q ++ t) ≡ text_from (at + length q) 0 t
passed none at t = rw add-zero
passed (more {q} {s} m h r) at t =
    rw (append_assoc, length-append, ← add_assoc at (length q) (length s))
    (goes_on_lem at (length q) (q ++ (s ++ t)) (sequence-bytes m h) (sequence-taken m h (s ++ t))
    ∙ ap (text_from (at + length q) 0) (drop-append_seam q (s ++ t))
    ∙ passed r (at + length q) t)

pub join : {a b : List ℕ} → Sequences a → Sequences b → Sequences (a ++ b)
join none h = h
join {b} (more {q} {s} m x r) h = subst Sequences (sym (append_assoc q s b)) (more m x (join r h))

-- where no sequence begins, nothing is taken
pub nothing : (s : List ℕ) → ((l : Line) (q t : List ℕ) → Memᴰ l UTF8-char → Sequence l q → s ≡ q ++ t → ⊥) → sequence s ≡ 0
nothing s h = go (sequence s) refl
  where
    go : (n : ℕ) → sequence s ≡ n → sequence s ≡ 0
    go zero e = e
    go (suc n) e =
        let f = front s (suc n) e (omega arith) in
        absurd (h f.line (take (suc n) s) (drop (suc n) s) f.listed f.made (sym (take-append-drop (suc n) s)))

-- what an answer says of s, whose first byte stands at the offset `at`
abbrev pub Judged : ℕ → List ℕ → Text → Type 0
Judged at s (Ok u) = Sequences s
Judged at s (Err e) = (j : ℕ) × (e.offset ≡ at + j) × Breaks s j

-- a sequence of n bytes, and what is said of those behind it
ahead : (at n : ℕ) (s : List ℕ) → Front s n → (t : Text) → Judged (at + n) (drop n s) t → Judged at s t
ahead at n s f (Ok u) r = subst Sequences (take-append-drop n s) (more f.listed f.made r)
ahead at n s f (Err e) r = (n + r.0, omega arith, later r.0 r.2)
  where
    later : (j : ℕ) → Breaks (drop n s) j → Breaks s (n + j)
    later j b =
        record {
          inside = omega (arith, length-drop n s);
          before = rw (take-add n j s) (more f.listed f.made b.before);
          none_there = λ l q t m h e. b.none_there l q t m h (drop-drop j n s ∙ e);
        }

here : (b : ℕ) (s : List ℕ) → sequence (b ∷ s) ≡ 0 → Breaks (b ∷ s) 0
here b s e =
    record {
      inside = omega arith;
      before = none;
      none_there = λ l q t m h w. omega (arith, sequence-bytes m h, sequence-taken m h t, ap sequence w);
    }

pub judged : (at n : ℕ) (s : List ℕ) → Judged (at + n) (drop n s) (text_from at n s)
unfolding text_from
judged at zero [] = none
judged at (suc n) [] = none
judged at (suc n) (b ∷ s) =
    let k : suc at + n ≡ at + suc n = omega arith in
    subst (λ (i : ℕ). Judged i (drop n s) (text_from (suc at) n s)) k (judged (suc at) n s)
judged at zero (b ∷ s) = go (sequence (b ∷ s)) refl (λ n. judged (suc at) n s)
  where
    go : (k : ℕ) → sequence (b ∷ s) ≡ k → ((n : ℕ) → Judged (suc at + n) (drop n s) (text_from (suc at) n s))
        → Judged (at + 0) (b ∷ s) (begins k at (λ n. text_from (suc at) n s))
    go zero q r = (0, omega arith, here b s q)
    go (suc n) q r =
        let k : suc at + n ≡ at + 0 + suc n = omega arith in
        ahead (at + 0) (suc n) (b ∷ s) (front (b ∷ s) (suc n) q (omega arith)) (text_from (suc at) n s)
        (subst (λ (i : ℕ). Judged i (drop n s) (text_from (suc at) n s)) k (r n))
