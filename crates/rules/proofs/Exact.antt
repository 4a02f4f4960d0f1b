-- The row rules hold exactly of the tables whose first rows are a right tree's; that tree is one; and every table that is read passes. Assumes
-- nothing.
use Rattle.std.specs.Prelude.{Ok, Err}
use mathlib.Core.Path.{◌≡◌, refl, sym, ap, ◌∙◌, subst}
use Prim.Native.Nat.{ℕ, suc, ◌*◌, ◌≤◌}
use native.Mathlib.Omega.{arith}
use native.Mathlib.Nat.{zero-add}
use mathlib.Core.Bool.{Bool, true, false, cond, ◌&&◌}
use mathlib.Core.List.{List, [], ◌++◌}
use lib.ListN.{length, take, drop, take-append-drop}
use lib.Seq.{sets, take_at}
use lib.Dec.{leb}
use borrow.Author.Tests.{le-leb, leb-true, eq-eqb, eqb-true}
use Rattle.lists.specs.Zeroed.{zeroed}
use Rattle.lists.proofs.Sets.{sets_front}
use Rattle.lists.proofs.Zeros.{length-zeroed}
use Rattle.rows.specs.Table.{words_per_row, lent, limit}
use Rattle.rows.proofs.Rows.{lent-room, lent_sets, lent-zeroed}
use Rattle.format.specs.declared.unfilled.Unfilled.TheVariants.{TooLong, Full}
use Rattle.format.specs.Tree.{Tree, size}
use Rattle.format.specs.Value.{Reading, right, wrong, document}
use Rattle.format.specs.Layout.{layout}
use Rattle.format.specs.Answer.{answer_for, answer, table_after}
use Rattle.format.proofs.Layouts.{length-layout}
use Rattle.format.proofs.Values.{document-some, document-rows}
use Rattle.rules.specs.Grow.{Growth, grew, bad, grow, ends_with, rules_hold}
use Rattle.rules.specs.Obeys.{Obeys, Stands}
use Rattle.lists.proofs.Tests.{and_first, and_second}
use Rattle.rules.proofs.Growth.{Grew, Sound, grow_sound}
use Rattle.rules.proofs.Regrow.{regrow}
use Rattle.rules.proofs.Read.{document_fine}

-- ---- a yes

pub record Found (n : ℕ) (g : Growth) : Type 0 where
  pub tree : Tree
  pub is : g ≡ grew tree n

found : (n : ℕ) (g : Growth) → ends_with n g ≡ true → Found n g
found n (grew t e) q = record { tree = t; is = ap (grew t) (eqb-true e n q) }
found n bad q = absurd (let z : ◌≡◌ {A = ℕ} 0 1 = cc in omega arith)

module _ (depth : ℕ) (table : List ℕ) (n : ℕ) (s : List ℕ) where
  -- the tests of a whole table, one behind the other
  abbrev E : Bool
  E = ends_with n (grow table n s (suc depth) [] 0)

  abbrev D : Bool
  D = leb (length s) limit && E

  abbrev C : Bool
  C = leb n (lent table) && D

  abbrev B : Bool
  B = leb n limit && C

  module _ (yes : rules_hold depth table n s ≡ true) where
    all : leb 1 n && B ≡ true
    unfolding rules_hold
    all = yes

    b : B ≡ true
    b = and_second (leb 1 n) B all

    c : C ≡ true
    c = and_second (leb n limit) C b

    d : D ≡ true
    d = and_second (leb n (lent table)) D c

    room : n ≤ lent table
    room = leb-true n (lent table) (and_first (leb n (lent table)) D c)

    grown : Found n (grow table n s (suc depth) [] 0)
    grown = found n (grow table n s (suc depth) [] 0) (and_second (leb (length s) limit) E d)

    stood : Grew (Obeys s (suc depth) 0) table n [] 0 grown.tree n
    stood = subst (λ (g : Growth). Sound (Obeys s (suc depth) 0) table n [] 0 g) grown.is (grow_sound table n s room (suc depth) [] 0)

    -- a yes means that the first n rows are those of a right tree
    pub yes_stands : (t : Tree) × Stands depth table n s t
    yes_stands =
        let t : Tree = grown.tree in
        let z : size t ≡ n = omega (arith, stood.past) in
        let l : length (layout t 0 []) ≡ words_per_row * n = length-layout t 0 [] ∙ ap (λ (x : ℕ). words_per_row * x) z in (
          t,
          record {
            some = leb-true 1 n (and_first (leb 1 n) B all);
            few = leb-true n limit (and_first (leb n limit) C b);
            rows-lent = room;
            short = leb-true (length s) limit (and_first (leb (length s) limit) E d);
            rows = z;
            words = ap (take (words_per_row * n)) stood.words ∙ take_at (layout t 0 []) (drop (words_per_row * n) table) (words_per_row * n) l;
            obeys = stood.obeys;
          },
        )

  -- ---- a right tree

  module _ (t : Tree) (st : Stands depth table n s t) where
    -- the words of the table, the tree's first
    pub laid_out : table ≡ layout t 0 [] ++ drop (words_per_row * n) table
    laid_out = sym (take-append-drop (words_per_row * n) table) ∙ ap (λ (x : List ℕ). x ++ drop (words_per_row * n) table) st.words

    pub stands_grows : grow table n s (suc depth) [] 0 ≡ grew t n
    stands_grows =
        regrow table n s t (suc depth) 0 [] (drop (words_per_row * n) table) st.obeys laid_out (omega (arith, st.rows))
        ∙ ap (grew t) (zero-add (size t) ∙ st.rows)

    -- a table whose first n rows are those of a right tree gets a yes
    pub stands_yes : rules_hold depth table n s ≡ true
    unfolding rules_hold
    stands_yes =
        rw (le-leb 1 n st.some, le-leb n limit st.few, le-leb n (lent table) st.rows-lent, le-leb (length s) limit st.short, stands_grows, eq-eqb n n refl)

  -- the rows are those of one tree only
  pub one_tree : (t u : Tree) → Stands depth table n s t → Stands depth table n s u → t ≡ u
  one_tree t u a b = let e : grew t n ≡ grew u n = sym (stands_grows t a) ∙ stands_grows u b in cc

-- ---- what is read

pub record Read (depth : ℕ) (s table : List ℕ) (n : ℕ) : Type 0 where
  pub short : length s ≤ limit
  pub tree : Tree
  pub next : ℕ
  pub is : document depth s ≡ right tree next
  pub fits : size tree ≤ lent table
  pub rows : size tree ≡ n

accepted_for : (rows n : ℕ) (x : Reading) → answer_for rows x ≡ Ok n → (t : Tree) × (next : ℕ) × (x ≡ right t next) × (size t ≤ rows) × (size t ≡ n)
accepted_for rows n (right t next) e = go (leb (size t) rows) refl e
  where
    go : (b : Bool) → leb (size t) rows ≡ b → cond b (Ok (size t)) (Err (Full (size t))) ≡ Ok n
        → (u : Tree) × (m : ℕ) × (right t next ≡ right u m) × (size u ≤ rows) × (size u ≡ n)
    go true q e = (t, next, refl, leb-true (size t) rows q, cc)
    go false q e = absurd (let z : ◌≡◌ {A = ℕ} 0 1 = cc in omega arith)
accepted_for rows n (wrong r place) e = absurd (let z : ◌≡◌ {A = ℕ} 0 1 = cc in omega arith)

pub accepted : (depth : ℕ) (s table : List ℕ) (n : ℕ) → answer depth s table ≡ Ok n → Read depth s table n
unfolding answer
accepted depth s table n e = go (leb (length s) limit) refl e
  where
    go : (b : Bool) → leb (length s) limit ≡ b → cond b (answer_for (lent table) (document depth s)) (Err TooLong) ≡ Ok n → Read depth s table n
    go true q e =
        let a = accepted_for (lent table) n (document depth s) e in
        record { short = leb-true (length s) limit q; tree = a.0; next = a.1; is = a.2; fits = a.3; rows = a.4 }
    go false q e = absurd (let z : ◌≡◌ {A = ℕ} 0 1 = cc in omega arith)

module _ (depth : ℕ) (s table : List ℕ) (n : ℕ) (said : answer depth s table ≡ Ok n) where
  r : Read depth s table n
  r = accepted depth s table n said

  after : table_after depth s table ≡ sets (zeroed 0 table) 0 (layout r.tree 0 [])
  unfolding table_after
  after = rw (le-leb (length s) limit r.short, r.is, le-leb (size r.tree) (lent table) r.fits)

  left : Stands depth (table_after depth s table) n s r.tree
  left =
      let L : List ℕ = layout r.tree 0 [] in
      let Z : List ℕ = zeroed 0 table in
      let l : length L ≡ words_per_row * n = length-layout r.tree 0 [] ∙ ap (λ (x : ℕ). words_per_row * x) r.rows in
      let k : lent (table_after depth s table) ≡ lent table = ap lent after ∙ lent_sets Z 0 L ∙ lent-zeroed 0 table in
      let m : length L ≤ length Z = omega (arith, lent-room table n (omega (arith, r.fits, r.rows)), length-zeroed 0 table) in
      record {
        some = omega (arith, document-some depth s r.tree r.next r.is, r.rows);
        few = omega (arith, document-rows depth s r.tree r.next r.is, r.rows, r.short);
        rows-lent = omega (arith, k, r.fits, r.rows);
        short = r.short;
        rows = r.rows;
        words = ap (take (words_per_row * n)) (after ∙ sets_front Z L m) ∙ take_at L (drop (length L) Z) (words_per_row * n) l;
        obeys = document_fine depth s r.tree r.next r.is;
      }

  -- the table that the reader leaves has the rows of the document's tree
  pub read_stands : (t : Tree) (next : ℕ) → document depth s ≡ right t next → Stands depth (table_after depth s table) n s t
  read_stands t next e =
      let q : right r.tree r.next ≡ right t next = sym r.is ∙ e in
      let same : r.tree ≡ t = cc in
      subst (Stands depth (table_after depth s table) n s) same left

  -- every table that the reader accepts passes with its data
  pub read_yes : rules_hold depth (table_after depth s table) n s ≡ true
  read_yes = stands_yes depth (table_after depth s table) n s r.tree left
