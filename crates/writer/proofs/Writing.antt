-- Writing rows one behind the other: what is written and what is left to write make the whole. Assumes nothing.
use mathlib.Core.Path.{◌≡◌, refl, sym, ap, ap₂, ◌∙◌, subst}
use mathlib.Core.List.{List, ◌++◌}
use Prim.Native.Nat.{ℕ, ◌+◌, ◌≤◌, ◌<◌}
use native.Mathlib.Omega.{arith}
use lib.ListN.{length, length-append}
use lib.Seq.{sets, length-sets}
use Rattle.lists.proofs.Sets.{sets_append}
use Rattle.rows.specs.declared.row.Row.{Row}
use Rattle.rows.specs.Table.{own_of, row_at, lent, limit}
use Rattle.rows.specs.Kinds.{kind_foreign}
use Rattle.rules.specs.declared.kind.Kind.{Kind}
use Rattle.rules.proofs.Says.{Names, names}
use Rattle.encode.specs.Encode.{payload_of}
use Rattle.rules.specs.Shape.{named}
use Rattle.plan.specs.Inner.{own_head}
use Rattle.spell.specs.Inner.{Inside, own_bytes}
use Rattle.spell.proofs.Shorts.{head_any}
use Rattle.writer.specs.Inner.{Spells, Spelt, Long, Told, RoomFor, FrontLaid}
use Rattle.writer.proofs.Spelling.{First, first, forward, ended, after_first}

-- ---- what a row's own bytes tell of its children

pub told-long : (table : List ℕ) (row : ℕ) (w : Row) (end size : ℕ) → end ≡ w.end → Long table (row + 1) end size → Told table row w size
told-long table row w end size e l =
    record { told = λ s bytes h. ap (own_head w) (l.long s bytes (subst (λ (i : ℕ). Spells table s (row + 1) i bytes) (sym e) h)) }

pub told_none : (table : List ℕ) (row : ℕ) (w : Row) → (w.kind ≡ kind_foreign → ⊥) → Told table row w 0
unfolding own_head
told_none table row w n =
    record {
      told =
          λ s bytes h. head_any (own_of w) 0 (length bytes) (named (own_of w)) (λ e. n (subst (λ (K : Kind). Names K w.kind) e (names (own_of w))));
    }

pub spelt-end : (table : List ℕ) (row : ℕ) (w : Row) (end : ℕ) → end ≡ w.end → Spelt table (row + 1) w.end → Spelt table (row + 1) end
spelt-end table row w end e = subst (Spelt table (row + 1)) (sym e)

pub spelt-low : (table : List ℕ) (row stop : ℕ) → Spelt table row stop → row ≤ limit
spelt-low table row stop p = omega (arith, p.few, forward table p.over row stop p.bytes p.spells)

-- ---- the loop

-- where the first n rows spell `bytes`: what those from `row` on spell is what is left to write from `at` on
pub record Rest (table s : List ℕ) (n : ℕ) (out₀ : List ℕ) (row at : ℕ) (out bytes : List ℕ) : Type 0 where
  pub rest : List ℕ
  pub spells : Spells table s row n rest
  pub count : at + length rest ≡ length bytes
  pub laid : sets out at rest ≡ sets out₀ 0 bytes

pub record Writes (table s : List ℕ) (n : ℕ) (out₀ : List ℕ) (row at : ℕ) (out : List ℕ) : Type 0 where
  pub long : length out ≡ length out₀
  pub left : (bytes : List ℕ) → Spells table s 0 n bytes → Rest table s n out₀ row at out bytes

pub writes_start : (table s : List ℕ) (n : ℕ) (out₀ : List ℕ) → Writes table s n out₀ 0 0 out₀
writes_start table s n out₀ = record { long = refl; left = λ bytes h. record { rest = bytes; spells = h; count = omega arith; laid = refl } }

module _ (table s : List ℕ) (n : ℕ) (out₀ : List ℕ) (p : RoomFor table s n (length out₀)) (row at : ℕ) (out : List ℕ) (c : Writes table s n out₀ row at out) (below : row < n) where
  known : Rest table s n out₀ row at out p.bytes
  known = c.left p.bytes p.spells

  opened : First table s row n known.rest
  opened = first table s row n known.rest below known.spells

  pub row_held : row < lent table
  row_held = omega (arith, p.rows-lent)

  module _ (w : Row) (e : w ≡ row_at table row) where
    pub child-spelt : Spelt table (row + 1) w.end
    child-spelt =
        subst (λ (v : Row). Spelt table (row + 1) v.end) (sym e)
        record { rows-lent = omega (arith, opened.low, p.rows-lent); few = omega (arith, opened.low, p.few); over = s; short = p.short; bytes = opened.body; spells = opened.children }

    pub row_inside : Inside s w
    row_inside = subst (Inside s) (sym e) opened.inside

    module _ (size : ℕ) (t : Told table row w size) where
      own_same : (rest : List ℕ) (f : First table s row n rest) → own_bytes s w size ≡ own_bytes s (row_at table row) (length f.body)
      unfolding own_bytes
      own_same rest f =
          ap (λ (h : List ℕ). h ++ payload_of s (own_of w)) (t.told s f.body (subst (λ (v : Row). Spells table s (row + 1) v.end f.body) (sym e) f.children))
          ∙ ap (λ (v : Row). own_bytes s v (length f.body)) e

      own_first : (rest : List ℕ) (f : First table s row n rest) → rest ≡ own_bytes s w size ++ (f.body ++ f.rest)
      own_first rest f = f.all ∙ ap (λ (l : List ℕ). l ++ (f.body ++ f.rest)) (sym (own_same rest f))

      pub row_room : at + length (own_bytes s w size) ≤ length out
      row_room =
          omega (arith, c.long, known.count, p.fits, ap length (own_first known.rest opened), length-append (own_bytes s w size) (opened.body ++ opened.rest))

      pub writes_turn : (next : ℕ) (out₁ : List ℕ) → next ≡ at + length (own_bytes s w size) → out₁ ≡ sets out at (own_bytes s w size) → Writes table s n out₀ (row + 1) next out₁
      writes_turn next out₁ k g =
          record {
            long = ap length g ∙ length-sets out at (own_bytes s w size) ∙ c.long;
            left =
                λ bytes h.
                let z : Rest table s n out₀ row at out bytes = c.left bytes h in
                let f : First table s row n z.rest = first table s row n z.rest below z.spells in
                let own : List ℕ = own_bytes s w size in
                let more : List ℕ = f.body ++ f.rest in
                let q : z.rest ≡ own ++ more = own_first z.rest f in
                record {
                  rest = more;
                  spells = after_first table s row n z.rest f;
                  count = omega (arith, k, z.count, ap length q, length-append own more);
                  laid = ap₂ (λ (o : List ℕ) (i : ℕ). sets o i more) g k ∙ sym (sets_append out at own more) ∙ ap (sets out at) (sym q) ∙ z.laid;
                };
          }

pub writes_end : (table s : List ℕ) (n : ℕ) (out₀ : List ℕ) (row at : ℕ) (out : List ℕ) → n ≤ row → Writes table s n out₀ row at out → FrontLaid table s n out₀ out
writes_end table s n out₀ row at out l c =
    record {
      laid =
          λ bytes h.
          let z : Rest table s n out₀ row at out bytes = c.left bytes h in
          sym (ap (sets out at) (ended table s row n z.rest l z.spells)) ∙ z.laid;
    }
