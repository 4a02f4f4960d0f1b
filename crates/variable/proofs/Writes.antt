-- What a form leaves in an output, by each way out of writing. Assumes nothing.
use mathlib.Core.Path.{◌≡◌, ◌∙◌, sym, ap, refl}
use mathlib.Core.Bool.{Bool, true, false}
use mathlib.Core.List.{List, [], ◌∷◌}
use Prim.Native.Nat.{ℕ, ◌+◌, ◌%◌, ◌≤◌, ◌<◌}
use native.Mathlib.Omega.{arith}
use lib.ListN.{length, set}
use lib.Seq.{sets}
use lib.Dec.{leb}
use borrow.Author.Tests.{le-leb, lt-leb}
use Rattle.std.specs.Prelude.{Result, Ok, Err}
use Rattle.wide.specs.declared.wide.Wide.{Wide}
use Rattle.variable.specs.declared.no_room.NoRoom.{NoRoom}
use Rattle.wide.specs.Number.{bytes_of}
use Rattle.wide.specs.Body.{size_at, rank}
use Rattle.wide.specs.Words.{value_of}
use Rattle.wide.specs.Family.{has_number, form}
use Rattle.wide.specs.Inner.{variable}
use Rattle.variable.specs.Answer.{needs, written_of, output_of}
use Rattle.wide.proofs.Numbers.{length-bytes_of}
use Rattle.wide.proofs.Wides.{Words, value_lt}
use Rattle.wide.proofs.Ranks.{rank_lt}
use Rattle.wide.proofs.Families.{cond_yes, cond_no}
use Rattle.variable.proofs.Variables.{first-low, form-one, form-long}

-- what writing the form f promises
abbrev pub Leaves : (f out : List ℕ) → Result ℕ NoRoom → List ℕ → Type 0
Leaves f out r after = record { value : r ≡ written_of f (length out); out_after : after ≡ output_of f out }

no_room : (f out : List ℕ) (k : ℕ) → length f ≡ k → length out < k → Leaves f out (Err (needs k)) out
unfolding written_of output_of
no_room f out k e h =
    let t : leb (length f) (length out) ≡ false = lt-leb (length f) (length out) (omega arith) in
    record {
      value = ap (λ (n : ℕ). Err (needs n)) (sym e) ∙ sym (cond_no (leb (length f) (length out)) (Ok (length f)) (Err (needs (length f))) t);
      out_after = sym (cond_no (leb (length f) (length out)) (sets out 0 f) out t);
    }

room : (f out after : List ℕ) (k : ℕ) → length f ≡ k → k ≤ length out → after ≡ sets out 0 f → Leaves f out (Ok k) after
unfolding written_of output_of
room f out after k e h g =
    let t : leb (length f) (length out) ≡ true = le-leb (length f) (length out) (omega arith) in
    record {
      value = ap Ok (sym e) ∙ sym (cond_yes (leb (length f) (length out)) (Ok (length f)) (Err (needs (length f))) t);
      out_after = g ∙ sym (cond_yes (leb (length f) (length out)) (sets out 0 f) out t);
    }

module _ (s : Bool) (w : Wide) (words : Words w) where
  abbrev shortest : List ℕ
  shortest = form (variable s) (value_of w)

  -- the place of the size, and the byte that says it
  pub rank_small : (j : ℕ) → j ≡ rank s (value_of w) → j < 8
  rank_small j e = omega (arith, rank_lt s (value_of w) (value_lt w words))

  pub first_small : (j f : ℕ) → j ≡ rank s (value_of w) → f ≡ (variable s).first → f + j < 256
  first_small j f e g = omega (arith, rank_small j e, first-low s)

  module _ (t : Bool) (d : t ≡ has_number (variable s).direct (value_of w)) (out : List ℕ) where
    -- one byte
    module _ (y : t ≡ true) where
      pub none_for_one : length out < 1 → Leaves shortest out (Err (needs 1)) out
      none_for_one h = no_room shortest out 1 (ap length (form-one s (value_of w) (value_lt w words) t _ d y refl)) h

      pub wrote_one : (b : ℕ) → b ≡ value_of w % 256 → 0 < length out → Leaves shortest out (Ok 1) (set out 0 b)
      wrote_one b g h =
          let f : shortest ≡ b ∷ [] = form-one s (value_of w) (value_lt w words) t b d y g in
          room shortest out (set out 0 b) 1 (ap length f) h (ap (sets out 0) (sym f))

    -- a byte and its body
    module _ (y : t ≡ false) (j k : ℕ) (g : j ≡ rank s (value_of w)) (c : k ≡ size_at j) where
      long : (f : ℕ) → f ≡ (variable s).first → shortest ≡ (f + j) ∷ bytes_of k (value_of w)
      long f e = form-long s (value_of w) (value_lt w words) t j k f d y g c e

      long-length : length shortest ≡ k + 1
      long-length = omega (arith, ap length (long (variable s).first refl), length-bytes_of k (value_of w))

      pub none_for_long : length out < k + 1 → Leaves shortest out (Err (needs (k + 1))) out
      none_for_long h = no_room shortest out (k + 1) long-length h

      pub wrote_long : (f : ℕ) (after : List ℕ) → f ≡ (variable s).first → k + 1 ≤ length out
          → after ≡ sets (set out 0 (f + j)) 1 (bytes_of k (value_of w)) → Leaves shortest out (Ok (k + 1)) after
      wrote_long f after e h o = room shortest out after (k + 1) long-length h (o ∙ ap (sets out 0) (sym (long f e)))
