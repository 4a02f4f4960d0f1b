-- What the first byte of a sequence says of the others is what the table says. Assumes nothing.
use Prim.Native.Nat.{ℕ, zero, suc}
use mathlib.Core.Bool.{Bool, true, false, ◌&&◌, cond}
use mathlib.Core.List.{List, [], ◌∷◌}
use Rattle.std.specs.Prelude.{Option, Some, None}
use mathlib.Core.Path.{◌≡◌, refl, sym, ap, ◌∙◌}
use Rattle.std.proofs.lemmas.Option.{same_Some}
use native.Mathlib.Omega.{arith}
use lib.ListN.{length, get_or, replicate, length-replicate}
use Rattle.text.specs.declared.lead.Lead.{Lead}
use Rattle.text.specs.Syntax.{Range, ◌to◌, Line, UTF8-tail, UTF8-char}
use Rattle.text.specs.Check.{in_range, matches, taken, sequence}
use Rattle.text.specs.Inner.{line_in, leads, lead_of}
use Rattle.text.proofs.Table.{within_bounds, Tailed, Ordered, ordered, below}

-- b is in the first range of line n, and in none before it; past the last line it is in none
abbrev pub Picks : ℕ → List Line → ℕ → Type 0
Picks n [] b = Unit {0}
Picks n ([] ∷ ls) b = ⊥
Picks zero ((r ∷ l) ∷ ls) b = in_range r b ≡ true
Picks (suc n) ((r ∷ l) ∷ ls) b = (in_range r b ≡ false) × Picks n ls b

picked : (n : ℕ) (ls : List Line) (b : ℕ) → Picks n ls b → line_in ls b ≡ get_or ls n []
picked n [] b h = refl
picked n ([] ∷ ls) b h = absurd h
picked zero ((r ∷ l) ∷ ls) b h = simp h
picked (suc n) ((r ∷ l) ∷ ls) b h = simp h.0 (picked n ls b h.1)

pub lead_at : (n b : ℕ) (x : Option Lead) → Picks n UTF8-char b → x ≡ leads (get_or UTF8-char n []) → x ≡ lead_of b
unfolding lead_of
lead_at n b x h e = e ∙ ap leads (sym (picked n UTF8-char b h))

-- n continuation bytes, the first of them from low to high
abbrev pub tails : ℕ → ℕ → ℕ → Line
tails zero low high = []
tails (suc n) low high = low to high ∷ replicate n UTF8-tail

pub length_tails : (n low high : ℕ) → length (tails n low high) ≡ n
length_tails zero low high = refl
length_tails (suc n) low high = ap suc (length-replicate n UTF8-tail)

abbrev pub tails_of : Lead → Line
tails_of f = tails f.left f.low f.high

-- a line is its first range and what is said of the others
told : (r : Range) (l : Line) → Tailed l → (f : Lead) → leads (r ∷ l) ≡ Some f → l ≡ tails_of f
told r [] t f e = ap tails_of (same_Some _ _ e)
told r (low to high ∷ l) t f e = ap (λ (k : Line). low to high ∷ k) t ∙ ap tails_of (same_Some _ _ e)

starts : (floor : ℕ) (ls : List Line) → Ordered floor ls → (b : ℕ) (f : Lead) (s : List ℕ) → leads (line_in ls b) ≡ Some f
    → taken ls (b ∷ s) ≡ cond (matches (tails_of f) s) (suc f.left) 0
starts floor [] o b f s e = cc
starts floor ([] ∷ ls) o b f s e = absurd o
starts floor ((lo to hi ∷ l) ∷ ls) o b f s e = go (in_range (lo to hi) b) refl e (starts (suc hi) ls o.3 b f s)
  where
    go : (t : Bool) → in_range (lo to hi) b ≡ t → leads (cond t (lo to hi ∷ l) (line_in ls b)) ≡ Some f
        → (leads (line_in ls b) ≡ Some f → taken ls (b ∷ s) ≡ cond (matches (tails_of f) s) (suc f.left) 0)
        → cond (t && matches l s) (suc (length l)) (taken ls (b ∷ s)) ≡ cond (matches (tails_of f) s) (suc f.left) 0
    go true w q r =
        let rest : l ≡ tails_of f = told (lo to hi) l o.2 f q in
        rw (below (suc hi) ls o.3 b (omega (arith, within_bounds lo hi b w)) s, rest, length_tails f.left f.low f.high)
    go false w q r = r q

never : (ls : List Line) (b : ℕ) (s : List ℕ) → leads (line_in ls b) ≡ None → taken ls (b ∷ s) ≡ 0
never [] b s e = refl
never ([] ∷ ls) b s e = refl
never ((r ∷ l) ∷ ls) b s e = go (in_range r b) e (never ls b s)
  where
    starting : (l : Line) → leads (r ∷ l) ≡ None → ⊥
    starting [] q = cc
    starting (low to high ∷ l) q = cc

    go : (t : Bool) → leads (cond t (r ∷ l) (line_in ls b)) ≡ None → (leads (line_in ls b) ≡ None → taken ls (b ∷ s) ≡ 0)
        → cond (t && matches l s) (suc (length l)) (taken ls (b ∷ s)) ≡ 0
    go true q f = absurd (starting l q)
    go false q f = f q

pub lead_starts : (b : ℕ) (f : Lead) (s : List ℕ) → lead_of b ≡ Some f → sequence (b ∷ s) ≡ cond (matches (tails_of f) s) (suc f.left) 0
unfolding lead_of sequence
lead_starts b f s e = starts 0 UTF8-char ordered b f s e

pub lead_never : (b : ℕ) (s : List ℕ) → lead_of b ≡ None → sequence (b ∷ s) ≡ 0
unfolding lead_of sequence
lead_never b s e = never UTF8-char b s e
