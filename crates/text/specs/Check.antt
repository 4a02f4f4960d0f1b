-- What the check of a text answers: sequence after sequence, by the table's lines. Assumes nothing: these are definitions.
use Rattle.std.specs.Prelude.{ℕ, zero, suc, Bool, true, false, ◌&&◌, cond, List, [], ◌∷◌, length, leb, Result, Ok, Err, is_ok}
use Rattle.text.specs.declared.ill_formed.IllFormed.{IllFormed}
use Rattle.text.specs.Syntax.{Range, ◌to◌, Line, UTF8-char}

-- b is a byte of the range
abbrev pub in_range : Range → ℕ → Bool
in_range (low to high) b = leb low b && leb b high

-- a sequence of this line stands at the front of s
abbrev pub matches : Line → List ℕ → Bool
matches [] s = true
matches (r ∷ l) [] = false
matches (r ∷ l) (b ∷ s) = in_range r b && matches l s

-- how many bytes the first of these lines that matches takes, 0 where none does
abbrev pub taken : List Line → List ℕ → ℕ
taken [] s = 0
taken (l ∷ ls) s = cond (matches l s) (length l) (taken ls s)

-- how many bytes the sequence at the front of s takes, 0 where none stands there
unfoldable pub sequence : List ℕ → ℕ
sequence s = taken UTF8-char s

-- well formed, or the first ill-formed sequence
abbrev pub Text : Type 0
Text = Result (Unit {0}) IllFormed

abbrev pub ill_formed : ℕ → Text
ill_formed at = Err (record { offset = at })

-- none begins at `at`; or one does, and its other n bytes are passed over
abbrev pub begins : ℕ → ℕ → (ℕ → Text) → Text
begins zero at rest = ill_formed at
begins (suc n) at rest = rest n

-- the answer for the bytes from the offset `at` on, the first n of which belong to a sequence that began before
unfoldable pub text_from : ℕ → ℕ → List ℕ → Text
text_from at n [] = Ok tt
text_from at (suc n) (b ∷ s) = text_from (suc at) n s
text_from at zero (b ∷ s) = begins (sequence (b ∷ s)) at (λ n. text_from (suc at) n s)

-- "the offset of the first byte of the first ill-formed sequence": a sequence cut short is named by its first byte
unfoldable pub text_of : List ℕ → Text
text_of s = text_from 0 0 s

-- "Text follows RFC 3629": there is no such sequence
abbrev pub well_formed : Text → Bool
well_formed t = is_ok t
