-- `spell::put::put_eight` meets its contract: the eight bytes one by one. Assumes nothing.
use mathlib.Core.List.{List}
use Prim.Native.Nat.{ℕ, ◌+◌, ◌<◌, ◌≤◌}
use native.Mathlib.Omega.{arith}
use lib.ListN.{length}
use lib.Dec.{lit≤}
use borrow.Author.Rules.{set_long}
use Rattle.spell.proofs.Puts.{on, on_is, firsts, firsts_long, firsts_laid}
use Rattle.spell.proofs.put.put_eight.Goals as goal

-- the output has room for the next byte when k are laid
room : (out from : List ℕ) (at place k : ℕ) → at + 8 ≤ length out → k < 8 → on at k < length (firsts k out at from place)
room out from at place k long h = omega (arith, on_is at k, firsts_long k out at from place)

pub bounds-out-at-2 : goal.bounds-out-at-2
bounds-out-at-2 c = room c.args.out.now c.args.«data».now c.args.at c.args.place 1 c.requires.0 (lit≤ tt)

pub bounds-out-at-3 : goal.bounds-out-at-3
bounds-out-at-3 c = room c.args.out.now c.args.«data».now c.args.at c.args.place 2 c.requires.0 (lit≤ tt)

pub bounds-out-at-4 : goal.bounds-out-at-4
bounds-out-at-4 c = room c.args.out.now c.args.«data».now c.args.at c.args.place 3 c.requires.0 (lit≤ tt)

pub bounds-out-at-5 : goal.bounds-out-at-5
bounds-out-at-5 c = room c.args.out.now c.args.«data».now c.args.at c.args.place 4 c.requires.0 (lit≤ tt)

pub bounds-out-at-6 : goal.bounds-out-at-6
bounds-out-at-6 c = room c.args.out.now c.args.«data».now c.args.at c.args.place 5 c.requires.0 (lit≤ tt)

pub bounds-out-at-7 : goal.bounds-out-at-7
bounds-out-at-7 c = room c.args.out.now c.args.«data».now c.args.at c.args.place 6 c.requires.0 (lit≤ tt)

pub bounds-out-at-8 : goal.bounds-out-at-8
bounds-out-at-8 c = room c.args.out.now c.args.«data».now c.args.at c.args.place 7 c.requires.0 (lit≤ tt)

pub shape_of-out : goal.shape_of-out
shape_of-out c =
    let a = c.args in
    search (set_long, firsts_long 7 a.out.now a.at a.«data».now a.place) depth 1

pub returns : goal.returns
returns c = let s = c in firsts_laid 8 s.args.out.now s.args.at s.args.«data».now s.args.place s.requires.1
