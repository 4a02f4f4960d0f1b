-- What stands at a place where a form was written: a length, count or number of each family, and the head that it begins. Assumes nothing.
use Rattle.std.specs.Prelude.{Result, Ok}
use mathlib.Core.Path.{◌≡◌, refl, sym, ap, ◌∙◌, subst}
use Prim.Native.Nat.{ℕ, zero, suc, ◌+◌, ◌-◌, ◌≤◌, ◌<◌}
use native.Mathlib.Omega.{arith}
use native.Mathlib.Nat.{add-zero, sub-zero, mod-eq_of_lt}
use mathlib.Core.Bool.{true, false}
use mathlib.Core.List.{List, [], ◌∷◌, ◌++◌, append_assoc}
use lib.ListN.{length, get_or, take, drop, length-append}
use lib.Dec.{lit≤}
use lib.Seq.{get_or-drop, drop-drop, drop-append_seam, take-append_seam}
use borrow.Author.Tests.{le-leb, lt-ltb, le-ltb, ltb-true}
use Rattle.wide.specs.Words.{wide_end}
use Rattle.wide.specs.Family.{Run, behind, has_number, byte_of, Family, is, short, coded, unmarked_form, form}
use Rattle.wide.specs.Members.{run, headed, text_length, binary_length, array_count, record_count, map_count, key_length, reference_number, declaration_count, foreign_length}
use Rattle.wide.proofs.Families.{Sound, round_trip, marked-form}
use Rattle.wide.proofs.Sound.{sound_variable, sound_headers}
use Rattle.wide.proofs.Ranks.{bool_case}
use Rattle.rows.specs.Table.{limit}
use Rattle.format.specs.declared.refused.Refused.{Refused}
use Rattle.format.specs.declared.refusal.Refusal.{Refusal}
use Rattle.format.specs.declared.head.Count.{Count}
use Rattle.format.specs.declared.head.Holder.TheVariants.{Array, Record, Map}
use Rattle.format.specs.declared.head.Head.{Head}
use Rattle.format.specs.Head.{counts, Marker, text, array, entries, map, binary, special, reference, marker_of, between, count_of, count_at, spelling, spelling_of, text_head, binary_head, holder_head, refer_head, declare_head, foreign_head, second_head, head_by, head_at, key_at}
use Rattle.format.proofs.Markers.{is-text, is-array, is-entries, is-map, is-reference}

pub take-front : (xs ys : List ℕ) (m : ℕ) → length xs ≤ m → take m (xs ++ ys) ≡ xs ++ take (m - length xs) ys
take-front [] ys m h = ap (λ (k : ℕ). take k ys) (sym (sub-zero m))
take-front (x ∷ xs) ys zero h = absurd (omega arith)
take-front (x ∷ xs) ys (suc m) h =
    let e : suc m - suc (length xs) ≡ m - length xs = omega arith in
    ap (λ (l : List ℕ). x ∷ l) (take-front xs ys m (omega arith) ∙ ap (λ (k : ℕ). xs ++ take k ys) (sym e))

limit-low : 16777216 ≤ wide_end
unfolding wide_end
limit-low = lit≤ tt

pub limit-whole : (n : ℕ) → n ≤ limit → n < wide_end
limit-whole n h = omega (arith, limit-low)

-- a form has a byte
some-form : (F : Family) → Sound F → (n : ℕ) → n ≤ limit → form F n ≡ [] → ⊥
unfolding coded
some-form F good n few e =
    let q : coded F (form F n ++ []) ≡ is n (length (form F n)) = round_trip F good n (limit-whole n few) [] in
    let r : short ≡ is n (length (form F n)) = ap (λ (l : List ℕ). coded F (l ++ [])) (sym e) ∙ q in
    let z : ◌≡◌ {A = ℕ} 0 1 = cc in
    omega arith

-- ---- bytes that stand in s from `at` on, before `stop`

pub record Stand (s : List ℕ) (at stop : ℕ) (bs : List ℕ) : Type 0 where
  pub rest : List ℕ
  pub bytes : drop at s ≡ bs ++ rest
  pub room : at + length bs ≤ stop
  pub inside : stop ≤ length s

module _ (s : List ℕ) (at stop : ℕ) where
  -- the first of two runs, and the second
  pub stand_first : (xs ys : List ℕ) → Stand s at stop (xs ++ ys) → Stand s at stop xs
  stand_first xs ys h =
      record { rest = ys ++ h.rest; bytes = h.bytes ∙ append_assoc xs ys h.rest; room = omega (arith, h.room, length-append xs ys); inside = h.inside }

  pub stand_second : (xs ys : List ℕ) → Stand s at stop (xs ++ ys) → Stand s (at + length xs) stop ys
  stand_second xs ys h =
      record {
        rest = h.rest;
        bytes = sym (drop-drop (length xs) at s) ∙ ap (drop (length xs)) (h.bytes ∙ append_assoc xs ys h.rest) ∙ drop-append_seam xs (ys ++ h.rest);
        room = omega (arith, h.room, length-append xs ys);
        inside = h.inside;
      }

  pub stand_part : (bs : List ℕ) → Stand s at stop bs → take (length bs) (drop at s) ≡ bs
  stand_part bs h = ap (take (length bs)) h.bytes ∙ take-append_seam bs h.rest

  pub stand_byte : (b : ℕ) (bs : List ℕ) → Stand s at stop (b ∷ bs) → get_or s at 0 ≡ b
  stand_byte b bs h = ap (λ (i : ℕ). get_or s i 0) (sym (add-zero at)) ∙ sym (get_or-drop at s 0 0) ∙ ap (λ (l : List ℕ). get_or l 0 0) h.bytes

  -- a number of a family
  pub count-form : (F : Family) → Sound F → (n : ℕ) → n ≤ limit → Stand s at stop (form F n) → count_at F s at stop ≡ Ok (counts n (at + length (form F n)))
  unfolding count_at
  count-form F good n few h =
      let L : List ℕ = take (stop - at - length (form F n)) h.rest in
      let e : between s at stop ≡ form F n ++ L = ap (take (stop - at)) h.bytes ∙ take-front (form F n) h.rest (stop - at) (omega (arith, h.room)) in
      ap (λ (l : List ℕ). count_of at (coded F l)) e ∙ ap (count_of at) (round_trip F good n (limit-whole n few) L) ∙ rw (le-leb n limit few)

  -- by the first byte
  pub head-by : (b : ℕ) (bs : List ℕ) (m : Marker) → Stand s at stop (b ∷ bs) → marker_of b ≡ m → head_at s at stop ≡ head_by s at stop b m
  unfolding head_at
  head-by b bs m h e =
      rw (lt-ltb at stop (omega (arith, h.room)), stand_byte b bs h, e)

  -- the head of a family whose forms begin with a marker of their own
  family_head : (F : Family) → Sound F → (n : ℕ) → n ≤ limit → (m : Marker) → marker_of (get_or (form F n) 0 0) ≡ m → (H : Result Count Refusal → Result Head Refused)
      → ((b : ℕ) → head_by s at stop b m ≡ H (count_at F s at stop)) → Stand s at stop (form F n) → head_at s at stop ≡ H (Ok (counts n (at + length (form F n))))
  family_head F good n few m e H same h = of (form F n) refl
    where
      of : (bs : List ℕ) → form F n ≡ bs → head_at s at stop ≡ H (Ok (counts n (at + length (form F n))))
      of [] q = absurd (some-form F good n few q)
      of (b ∷ bs) q =
          head-by b bs m (subst (Stand s at stop) q h) (ap (λ (l : List ℕ). marker_of (get_or l 0 0)) (sym q) ∙ e) ∙ same b ∙ ap H (count-form F good n few h)

-- ---- the first byte of a form

pub alone-byte : (r : Run) (n : ℕ) → r.low + r.count ≤ 256 → has_number r n ≡ true → (r.low ≤ byte_of r n) × (byte_of r n < r.low + r.count)
alone-byte r n h e =
    let l : behind wide_end r.from n < r.count = ltb-true (behind wide_end r.from n) r.count e in
    let q : byte_of r n ≡ r.low + behind wide_end r.from n = mod-eq_of_lt (omega arith) in
    (omega arith, omega arith)

first-headed : (r : Run) (b : ℕ) (bs : List ℕ) (m : Marker) (n : ℕ) → r.low + r.count ≤ 256 → ((x : ℕ) → r.low ≤ x → x < r.low + r.count → marker_of x ≡ m) → marker_of b ≡ m
    → marker_of (get_or (form (headed r (b ∷ bs)) n) 0 0) ≡ m
unfolding form
first-headed r b bs m n h f e =
    bool_case (has_number r n)
    (λ q. rw q (let l = alone-byte r n h q in f (byte_of r n) l.0 l.1))
    (λ q. rw q e)

-- a family with no byte that is a number alone
pub no_alone : (F : Family) → Sound F → (n : ℕ) → F.alone.count ≡ 0 → form F n ≡ F.marker ++ unmarked_form F n
no_alone F good n e = marked-form F good n (le-ltb (behind wide_end F.alone.from n) F.alone.count (omega arith))

-- ---- each family

module _ (s : List ℕ) (at stop n : ℕ) (few : n ≤ limit) where
  pub text-front : Stand s at stop (form text_length n) → head_at s at stop ≡ text_head at (spelling s (at + length (form text_length n)) n stop)
  unfolding head_by marker_of
  text-front = family_head s at stop text_length sound_headers.text n few text (first-headed (run 0x80 32 1) 0x08 [] text n (lit≤ tt) (λ x a b. is-text x a b) refl) (λ c. text_head at (spelling_of s stop c)) (λ b. refl)

  pub binary-front : Stand s at stop (form binary_length n) → head_at s at stop ≡ binary_head at stop (Ok (counts n (at + length (form binary_length n))))
  unfolding head_by marker_of
  binary-front = family_head s at stop binary_length sound_headers.binary n few binary (first-headed (run 0 0 0) 0x0c [] binary n (lit≤ tt) (λ x a b. absurd (omega arith)) refl) (binary_head at stop) (λ b. refl)

  pub array-front : Stand s at stop (form array_count n) → head_at s at stop ≡ holder_head Array at (Ok (counts n (at + length (form array_count n))))
  unfolding head_by marker_of
  array-front = family_head s at stop array_count sound_headers.array n few array (first-headed (run 0xa0 16 1) 0x09 [] array n (lit≤ tt) (λ x a b. is-array x a b) refl) (holder_head Array at) (λ b. refl)

  pub record_front : Stand s at stop (form record_count n) → head_at s at stop ≡ holder_head Record at (Ok (counts n (at + length (form record_count n))))
  unfolding head_by marker_of
  record_front = family_head s at stop record_count sound_headers.entries n few entries (first-headed (run 0xb0 8 1) 0x0a [] entries n (lit≤ tt) (λ x a b. is-entries x a b) refl) (holder_head Record at) (λ b. refl)

  pub map-front : Stand s at stop (form map_count n) → head_at s at stop ≡ holder_head Map at (Ok (counts n (at + length (form map_count n))))
  unfolding head_by marker_of
  map-front = family_head s at stop map_count sound_headers.map n few map (first-headed (run 0xb8 8 1) 0x0b [] map n (lit≤ tt) (λ x a b. is-map x a b) refl) (holder_head Map at) (λ b. refl)

  pub reference-front : Stand s at stop (form reference_number n) → head_at s at stop ≡ refer_head at (Ok (counts n (at + length (form reference_number n))))
  unfolding head_by marker_of
  reference-front = family_head s at stop reference_number sound_headers.reference n few reference (first-headed (run 0xc1 62 0) 0xff [] reference n (lit≤ tt) (λ x a b. is-reference x a (omega arith)) refl) (refer_head at) (λ b. refl)

  pub key_front : Stand s at stop (form key_length n) → key_at s at stop ≡ spelling s (at + length (form key_length n)) n stop
  unfolding key_at
  key_front h = ap (spelling_of s stop) (count-form s at stop key_length (sound_variable false) n few h)

  -- `0d` and a second byte
  special-front : (F : Family) → Sound F → (c : ℕ) (bs : List ℕ) → form F n ≡ 0x0d ∷ c ∷ bs → (H : Result Count Refusal → Result Head Refused) → second_head s at stop c ≡ H (count_at F s at stop)
      → Stand s at stop (form F n) → head_at s at stop ≡ H (Ok (counts n (at + length (form F n))))
  unfolding head_by marker_of
  special-front F good c bs q H e h =
      let k : Stand s at stop (0x0d ∷ c ∷ bs) = subst (Stand s at stop) q h in
      let k' : Stand s (at + 1) stop (c ∷ bs) = stand_second s at stop (0x0d ∷ []) (c ∷ bs) k in
      head-by s at stop 0x0d (c ∷ bs) special k refl
      ∙ rw (lt-ltb (at + 1) stop (omega (arith, k'.room)), stand_byte s (at + 1) stop c bs k') (e ∙ ap H (count-form s at stop F good n few h))

  pub declaration_front : Stand s at stop (form declaration_count n) → head_at s at stop ≡ declare_head at (Ok (counts n (at + length (form declaration_count n))))
  declaration_front = special-front declaration_count sound_headers.declaration 0x0d (unmarked_form declaration_count n) (no_alone declaration_count sound_headers.declaration n refl) (declare_head at) refl

  pub foreign-front : Stand s at stop (form foreign_length n) → head_at s at stop ≡ foreign_head at stop (Ok (counts n (at + length (form foreign_length n))))
  foreign-front = special-front foreign_length sound_headers.foreign 0x00 (unmarked_form foreign_length n) (no_alone foreign_length sound_headers.foreign n refl) (foreign_head at stop) refl
