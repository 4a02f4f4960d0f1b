-- What a right reading is made of, by what stands at its position. Assumes nothing.
use mathlib.Core.Path.{◌≡◌, refl, sym, ap, subst, ◌∙◌}
use mathlib.Core.Bool.{Bool, true, false}
use Prim.Native.Nat.{ℕ, ◌+◌}
use native.Mathlib.Omega.{arith}
use lib.Dec.{eqb}
use borrow.Author.Tests.{eqb-true}
use Rattle.rows.specs.Table.{Own}
use Rattle.rows.specs.Kinds.{declaration_own, foreign_own}
use Rattle.format.specs.Tree.{hold, declare, foreign, more}
use Rattle.format.specs.Value.{Reading, right, wrong, Readings, ran, broke, Reader, ahead, follow, holding, closed, declaring, ended, whole, framed}
use Rattle.measure.specs.Inner.{harmed}
use Rattle.laying.specs.Inner.{Right, tree_read, next_of, Ran, trees_read, nexts_of}

-- ---- a value position, by its head

pub record Holding (o : Own) (Q : Readings) : Type 0 where
  pub good : Ran Q
  pub is : tree_read (holding o Q) ≡ hold o (trees_read Q)
  pub ends : next_of (holding o Q) ≡ nexts_of Q

pub held_view : (o : Own) (Q : Readings) → Right (holding o Q) → Holding o Q
unfolding Right tree_read next_of Ran trees_read nexts_of
held_view o (ran ts next) h = record { good = tt; is = refl; ends = refl }
held_view o (broke e place) h = absurd h

-- ---- a declaration, its entries and its value

pub record Declared (n : ℕ) (Q : Readings) (R : Reader) (stop : ℕ) : Type 0 where
  pub good : Ran Q
  pub own : Right (R n (nexts_of Q) stop)
  pub is : tree_read (declaring n Q R stop) ≡ declare (declaration_own n) (trees_read Q) (tree_read (R n (nexts_of Q) stop))
  pub ends : next_of (declaring n Q R stop) ≡ next_of (R n (nexts_of Q) stop)

pub declare_view : (n : ℕ) (Q : Readings) (R : Reader) (stop : ℕ) → Right (declaring n Q R stop) → Declared n Q R stop
unfolding Right tree_read next_of Ran trees_read nexts_of
declare_view n (ran es place) R stop h = go (R n place stop) refl h
  where
    go : (P : Reading) → R n place stop ≡ P → Right (closed n es P) → Declared n (ran es place) R stop
    go (right t next) e good =
        record {
          good = tt;
          own = subst Right (sym e) tt;
          is = ap (λ (p : Reading). tree_read (closed n es p)) e ∙ ap (λ (p : Reading). declare (declaration_own n) es (tree_read p)) (sym e);
          ends = ap (λ (p : Reading). next_of (closed n es p)) e ∙ ap next_of (sym e);
        }
    go (wrong why at) e good = absurd good
declare_view n (broke e place) R stop h = absurd h

-- ---- a foreign body that is a whole right document

pub record Framed (place n : ℕ) (R : Reading) : Type 0 where
  pub good : Right R
  pub ends : next_of R ≡ place + n
  pub is : framed place n (whole (place + n) R) ≡ right (foreign foreign_own (tree_read R)) (place + n)

-- with no damaged document in what it gives, the body is one
pub framed-whole : (place n : ℕ) (X : Reading) → harmed (tree_read (framed place n X)) ≡ false → Right X
unfolding Right tree_read harmed
framed-whole place n (right t next) h = tt
framed-whole place n (wrong why at) h = absurd (let z : ◌≡◌ {A = ℕ} 0 1 = cc in omega arith)

pub framed_view : (place n : ℕ) (R : Reading) → Right (whole (place + n) R) → Framed place n R
unfolding Right tree_read next_of
framed_view place n (right t next) h = go (eqb next (place + n)) refl h
  where
    go : (b : Bool) → eqb next (place + n) ≡ b → Right (ended b t next) → Framed place n (right t next)
    go true e good = record { good = tt; ends = eqb-true next (place + n) e; is = ap (λ (b : Bool). framed place n (ended b t next)) e }
    go false e good = absurd good
framed_view place n (wrong why at) h = absurd h

-- ---- positions in a row

pub record Followed (P : Reading) (F : ℕ → Readings) : Type 0 where
  pub good : Right P
  pub rest : Ran (F (next_of P))
  pub are : trees_read (follow P F) ≡ more (tree_read P) (trees_read (F (next_of P)))
  pub ends : nexts_of (follow P F) ≡ nexts_of (F (next_of P))

pub follow_view : (P : Reading) (F : ℕ → Readings) → Ran (follow P F) → Followed P F
unfolding Right tree_read next_of Ran trees_read nexts_of
follow_view (right t next) F h = go (F next) refl h
  where
    go : (Q : Readings) → F next ≡ Q → Ran (ahead t Q) → Followed (right t next) F
    go (ran ts place) e good =
        record {
          good = tt;
          rest = subst Ran (sym e) tt;
          are = ap (λ (q : Readings). trees_read (ahead t q)) e ∙ ap (λ (q : Readings). more t (trees_read q)) (sym e);
          ends = ap (λ (q : Readings). nexts_of (ahead t q)) e ∙ ap nexts_of (sym e);
        }
    go (broke why at) e good = absurd good
follow_view (wrong why at) F h = absurd h
