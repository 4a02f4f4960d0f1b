-- A document that was written reads back, and no document that is read as it says is shorter: over tables. Assumes nothing.
use Rattle.std.specs.Prelude.{Ok}
use mathlib.Core.Path.{◌≡◌, sym, ap, ◌∙◌, subst}
use mathlib.Core.Bool.{true}
use mathlib.Core.List.{List, []}
use Prim.Native.Nat.{ℕ, suc, ◌*◌, ◌^◌, ◌≤◌, ◌<◌}
use native.Mathlib.Omega.{arith}
use lib.ListN.{length, get_or, drop}
use borrow.Author.Tests.{le-leb}
use Rattle.wide.proofs.Numbers.{Bytes}
use Rattle.rows.specs.Table.{words_per_row, lent, limit}
use Rattle.format.specs.Tree.{Tree, size}
use Rattle.format.specs.Value.{document, right}
use Rattle.format.specs.Answer.{answer, table_after}
use Rattle.rules.specs.Grow.{rules_hold}
use Rattle.rules.specs.Obeys.{Stands}
use Rattle.rules.proofs.Exact.{yes_stands, laid_out, stands_yes, accepted, read_stands}
use Rattle.encode.specs.Encode.{encode}
use Rattle.encode.proofs.Placed.{placed}
use Rattle.encode.proofs.Said.{said}
use Rattle.encode.proofs.Worded.{Worded}
use Rattle.encode.proofs.Alike as written
use Rattle.encode.proofs.Shortest as shortest
use Rattle.writer.specs.Written.{document_of}
use Rattle.writer.proofs.Asks.{stands_document}
use Rattle.demands.specs.Alike.{SameRows}
use Rattle.demands.proofs.Words.{tree_worded}
use Rattle.demands.proofs.Rows.{placed_size, tree_same}
use Rattle.demands.proofs.Same.{stands_say}

module _ (depth : ℕ) (table : List ℕ) (n : ℕ) (s : List ℕ) (fit : (i : ℕ) → get_or table i 0 < 2 ^ 32) (yes : rules_hold depth table n s ≡ true) where
  abbrev t : Tree
  t = (yes_stands depth table n s yes).0

  st : Stands depth table n s t
  st = (yes_stands depth table n s yes).1

  abbrev D : List ℕ
  D = document_of depth table n s

  is : D ≡ encode s t
  is = stands_document depth table n s t st

  worded : Worded t
  worded = tree_worded table s n st.few fit t (suc depth) 0 0 [] (drop (words_per_row * n) table) (omega arith) st.obeys (laid_out depth table n s t st) (omega (arith, st.rows))

  module _ (few : length D ≤ limit) where
    small : length (encode s t) ≤ limit
    small = omega (arith, few, ap length is)

    reads : document depth D ≡ right (placed s t 0) (length D)
    reads = subst (λ (x : List ℕ). document depth x ≡ right (placed s t 0) (length x)) (sym is) (written.reads_back depth s t st.obeys worded small)

    module _ (back : List ℕ) (room : n ≤ lent back) where
      rows : size (placed s t 0) ≡ n
      rows = placed_size s t 0 ∙ st.rows

      -- it is accepted
      pub accepted_back : answer depth D back ≡ Ok n
      unfolding answer
      accepted_back = rw (le-leb (length D) limit few, reads, le-leb (size (placed s t 0)) (lent back) (omega (arith, rows)), rows)

      stands_back : Stands depth (table_after depth D back) n D (placed s t 0)
      stands_back = read_stands depth D back n accepted_back (placed s t 0) (length D) reads

      says_same : said D (placed s t 0) ≡ said s t
      says_same = subst (λ (x : List ℕ). said x (placed s t 0) ≡ said s t) (sym is) (written.says_same depth s t st.obeys worded small)

      -- and gives the same rows, places aside, with the same payload bytes
      pub rows_back : SameRows table s (table_after depth D back) D n
      rows_back i l =
          tree_same s D table (table_after depth D back) t (suc depth) 0 st.obeys 0 0 [] (drop (words_per_row * n) table) (drop (words_per_row * n) (table_after depth D back)) says_same (laid_out depth table n s t st)
          (laid_out depth (table_after depth D back) n D (placed s t 0) stands_back) i (omega arith) (omega (arith, l, st.rows))

      -- which obey the row rules
      pub rules_back : rules_hold depth (table_after depth D back) n D ≡ true
      rules_back = stands_yes depth (table_after depth D back) n D (placed s t 0) stands_back

-- every document whose rows are the same, places aside, with the same payload bytes, has at least as many bytes
pub nothing_shorter : (depth : ℕ) (table : List ℕ) (n : ℕ) (s : List ℕ) → rules_hold depth table n s ≡ true → (s' : List ℕ) → Bytes s' → (table' : List ℕ) → answer depth s' table' ≡ Ok n
    → SameRows table s (table_after depth s' table') s' n → length (document_of depth table n s) ≤ length s'
nothing_shorter depth table n s y s' b table' e same =
    let t : Tree = (yes_stands depth table n s y).0 in
    let st : Stands depth table n s t = (yes_stands depth table n s y).1 in
    let r = accepted depth s' table' n e in
    let st' = read_stands depth s' table' n e r.tree r.next r.is in
    let z : said s t ≡ said s' r.tree = stands_say depth depth table (table_after depth s' table') n s s' t r.tree st st' same in
    omega (arith, ap length (stands_document depth table n s t st), shortest.nothing_shorter s t depth s' b r.short r.tree r.next r.is (sym z))
