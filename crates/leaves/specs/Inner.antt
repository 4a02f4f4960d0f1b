-- Words of the contracts inside: what the row of a leaf asks of the leaf's content, where a leaf or a key ends, and what laying a leaf does. Definitions only.
use Rattle.std.specs.Prelude.{◌≡◌, cond, Option, Some, None, List, ℕ, ◌+◌, ◌-◌, ◌*◌, ◌≤◌, length, leb, Result, Ok, Err}
use Rattle.std.proofs.lemmas.List.Edits.{sets}
use Rattle.rows.specs.Table.{words_per_row, words_of, limit}
use Rattle.rows.specs.Kinds.{leaf_row}
use Rattle.format.specs.declared.refused.Refused.{Refused}
use Rattle.format.specs.declared.refusal.Refusal.{Refusal}
use Rattle.format.specs.declared.head.Count.{Count}
use Rattle.format.specs.declared.head.Spelling.{Spelling}
use Rattle.format.specs.declared.head.Content.{Content}
use Rattle.format.specs.declared.head.Content.TheVariants.{Constant, Small, Integer, Span, Char}
use Rattle.format.specs.declared.head.Head.{Head}
use Rattle.format.specs.declared.head.Head.TheVariants.{Leaf, Hold, Refer, Declare, Foreign}
use Rattle.format.specs.Value.{leaf_own}
use Rattle.format.specs.Head.{spells}

-- "bodies of 1, 2, 3, 4, 6, 8, 12, 16 bytes": the body lies in the bytes s
pub record BodyInside (s : List ℕ) (place size : ℕ) : Type 0 where
  pub some : 1 ≤ size
  pub few : size ≤ 16
  pub inside : place + size ≤ length s

-- "data are at most 16,777,215 bytes": a place and a size in them
pub record SpanInside (place size : ℕ) : Type 0 where
  pub place-low : place ≤ limit
  pub size_low : size ≤ limit

abbrev pub ContentInside : List ℕ → Content → Type 0
ContentInside s (Constant kind) = Unit {0}
ContentInside s (Small marker) = Unit {0}
ContentInside s (Integer signed place size) = BodyInside s place size
ContentInside s (Span kind place size) = SpanInside place size
ContentInside s (Char codepoint) = Unit {0}

-- the head h is no refusal
abbrev pub Known : Result Head Refused → Type 0
Known (Ok (Leaf c next)) = Unit {0}
Known (Ok (Hold h n next)) = Unit {0}
Known (Ok (Refer n next)) = Unit {0}
Known (Ok (Declare n next)) = Unit {0}
Known (Ok (Foreign place n)) = Unit {0}
Known (Err w) = ⊥

-- the head h is a leaf that ends at `next`
pub record LeafEnds (h : Result Head Refused) (next : ℕ) : Type 0 where
  pub content : Content
  pub is : h ≡ Ok (Leaf content next)

-- where a body of `size` bytes from `place` on ends, or 0 where it does not end at `stop` or before it
abbrev pub end_of : ℕ → ℕ → ℕ → ℕ
end_of place size stop = cond (leb size (stop - place)) (place + size) 0

-- r is 0, or where the leaf ends
pub record LeafAsked (h : Result Head Refused) (r : ℕ) : Type 0 where
  pub ends : (r ≡ 0 → ⊥) → LeafEnds h r

-- x is the text of a key, which ends at `next`
pub record KeyEnds (x : Result Spelling Refusal) (next : ℕ) : Type 0 where
  pub place : ℕ
  pub size : ℕ
  pub is : x ≡ Ok (spells place size)
  pub ends : next ≡ place + size

-- r is 0, or where the key ends
pub record KeyAsked (x : Result Spelling Refusal) (r : ℕ) : Type 0 where
  pub ends : (r ≡ 0 → ⊥) → KeyEnds x r

-- c is a length, and the head h is the payload of this kind that stands behind it
abbrev pub SpanBehind : Result Count Refusal → ℕ → Result Head Refused → Type 0
SpanBehind (Ok c) kind h = h ≡ Ok (Leaf (Span kind c.next c.value) (c.next + c.value))
SpanBehind (Err e) kind h = ⊥

-- the head h is a leaf that ends at `next`, and its row is laid
pub record LeafLaid (h : Result Head Refused) (s table : List ℕ) (row : ℕ) (table' : List ℕ) (next : ℕ) : Type 0 where
  pub content : Content
  pub is : h ≡ Ok (Leaf content next)
  pub put : table' ≡ sets table (words_per_row * row) (words_of (leaf_row (leaf_own s content) row))

-- nothing is laid, or the answer is where the leaf ends
abbrev pub LeafTried : Result Head Refused → List ℕ → List ℕ → ℕ → List ℕ → Option ℕ → Type 0
LeafTried h s table row table' None = table' ≡ table
LeafTried h s table row table' (Some next) = LeafLaid h s table row table' next
