-- A leaf that was written reads back, kind by kind. Assumes nothing.
use Rattle.std.specs.Prelude.{Ok}
use mathlib.Core.Path.{◌≡◌, refl, sym, ap, ◌∙◌, subst}
use Prim.Native.Nat.{ℕ, ◌+◌, ◌-◌, ◌≤◌, ◌<◌}
use native.Mathlib.Omega.{arith}
use native.Mathlib.Nat.{mod-eq_of_lt}
use mathlib.Core.Bool.{Bool, true, false}
use mathlib.Core.List.{List, [], ◌∷◌, ◌++◌}
use lib.ListN.{length, take, drop, length-append}
use lib.Dec.{lit≤}
use borrow.Author.Tests.{le-leb}
use Rattle.wide.specs.Words.{wide_end}
use Rattle.wide.specs.Number.{number, bytes_of}
use Rattle.wide.specs.Body.{size_at, body_value, rank}
use Rattle.wide.specs.Family.{has_number, byte_of, form}
use Rattle.wide.specs.Members.{integer_signed, integer_unsigned, text_length, binary_length, key_length}
use Rattle.wide.proofs.Families.{direct-form, body-form}
use Rattle.wide.proofs.Ranks.{rank_lt, rank-reads}
use Rattle.wide.proofs.Numbers.{length-bytes_of, number-bytes_of}
use Rattle.wide.proofs.Sound.{sound_integers}
use Rattle.std.specs.Prelude.{Ok}
use Rattle.text.specs.Check.{text_of}
use Rattle.rows.specs.Table.{limit}
use Rattle.rows.specs.Kinds.{kind_float, kind_text, kind_binary}
use Rattle.format.specs.declared.head.Content.TheVariants as holds
use Rattle.format.specs.declared.head.Head.TheVariants as stand
use Rattle.format.specs.Head.{spells, Marker, constant, float, signed_body, unsigned_body, small, char, marker_of, codepoint, float_size, integer_head, head_by, head_at, key_at}
use Rattle.format.proofs.Markers.{is-constant, is-float, is_signed, is-unsigned, is-small}
use Rattle.encode.proofs.Fronts.{Stand, stand_first, stand_second, stand_part, head-by, text-front, binary-front, key_front, no_alone, alone-byte}

omega_rank : (a b : ℕ) → a + b - a ≡ b
omega_rank a b = omega arith

module _ (s : List ℕ) (at stop : ℕ) where
  -- ---- one byte

  pub constant_back : (kind : ℕ) → 1 ≤ kind → kind ≤ 3 → Stand s at stop ((kind - 1) ∷ []) → head_at s at stop ≡ Ok (stand.Leaf (holds.Constant kind) (at + 1))
  unfolding head_by
  constant_back kind l u h =
      let e : kind - 1 + 1 ≡ kind = omega arith in
      head-by s at stop (kind - 1) [] constant h (is-constant (kind - 1) (omega arith)) ∙ ap (λ (x : ℕ). Ok (stand.Leaf (holds.Constant x) (at + 1))) e

  -- ---- a payload behind its length

  module _ (bs P : List ℕ) (n : ℕ) (h : Stand s at stop (bs ++ P)) (long : length P ≡ n) where
    payload_room : n ≤ stop - (at + length bs)
    payload_room = omega (arith, h.room, length-append bs P)

    pub payload_there : take n (drop (at + length bs) s) ≡ P
    payload_there = ap (λ (m : ℕ). take m (drop (at + length bs) s)) (sym long) ∙ stand_part s (at + length bs) stop P (stand_second s at stop bs P h)

    pub payload_few : length s ≤ limit → n ≤ limit
    payload_few l = omega (arith, h.room, h.inside, length-append bs P)

  module _ (P : List ℕ) (n : ℕ) (long : length P ≡ n) (short : length s ≤ limit) where
    pub text_back : text_of P ≡ Ok tt → (h : Stand s at stop (form text_length n ++ P))
        → head_at s at stop ≡ Ok (stand.Leaf (holds.Span kind_text (at + length (form text_length n)) n) (at + length (form text_length n) + n))
    text_back e h =
        text-front s at stop n (payload_few (form text_length n) P n h long short) (stand_first s at stop (form text_length n) P h)
        ∙ rw (le-leb n (stop - (at + length (form text_length n))) (payload_room (form text_length n) P n h long), payload_there (form text_length n) P n h long, e)

    pub key_back : text_of P ≡ Ok tt → (h : Stand s at stop (form key_length n ++ P))
        → key_at s at stop ≡ Ok (spells (at + length (form key_length n)) n)
    key_back e h =
        key_front s at stop n (payload_few (form key_length n) P n h long short) (stand_first s at stop (form key_length n) P h)
        ∙ rw (le-leb n (stop - (at + length (form key_length n))) (payload_room (form key_length n) P n h long), payload_there (form key_length n) P n h long, e)

    pub binary_back : (h : Stand s at stop (form binary_length n ++ P))
        → head_at s at stop ≡ Ok (stand.Leaf (holds.Span kind_binary (at + length (form binary_length n)) n) (at + length (form binary_length n) + n))
    binary_back h =
        binary-front s at stop n (payload_few (form binary_length n) P n h long short) (stand_first s at stop (form binary_length n) P h)
        ∙ rw (le-leb n (stop - (at + length (form binary_length n))) (payload_room (form binary_length n) P n h long))

    -- a float, whose marker tells its size
    pub float_back : (b : ℕ) → 3 ≤ b → b < 8 → float_size b ≡ n → (h : Stand s at stop ((b ∷ []) ++ P)) → head_at s at stop ≡ Ok (stand.Leaf (holds.Span kind_float (at + 1) n) (at + 1 + n))
    unfolding head_by
    float_back b l u e h =
        head-by s at stop b P float h (is-float b l u)
        ∙ rw (e, le-leb n (stop - (at + 1)) (payload_room (b ∷ []) P n h long))

  -- ---- a char

  pub char_back : (c : ℕ) → codepoint c ≡ true → c ≤ 0x10FFFF → (h : Stand s at stop (0xc0 ∷ bytes_of 3 c)) → head_at s at stop ≡ Ok (stand.Leaf (holds.Char c) (at + 4))
  unfolding head_by marker_of
  char_back c e u h =
      let k : Stand s (at + 1) stop (bytes_of 3 c) = stand_second s at stop (0xc0 ∷ []) (bytes_of 3 c) h in
      let q : number (bytes_of 3 c) ≡ c = number-bytes_of 3 c ∙ mod-eq_of_lt (omega arith) in
      head-by s at stop 0xc0 (bytes_of 3 c) char h refl
      ∙ rw (le-leb 3 (stop - (at + 1)) (omega (arith, k.room)), stand_part s (at + 1) stop (bytes_of 3 c) k, q, e)

  -- ---- integers

  module _ (n : ℕ) (low : n < wide_end) where
    pub small_back : has_number integer_signed.direct n ≡ true → Stand s at stop (form integer_signed n)
        → head_at s at stop ≡ Ok (stand.Leaf (holds.Small (byte_of integer_signed.direct n)) (at + 1))
    unfolding head_by
    small_back e h =
        let b : ℕ = byte_of integer_signed.direct n in
        let q : form integer_signed n ≡ b ∷ [] = no_alone integer_signed sound_integers.signed n refl ∙ direct-form integer_signed sound_integers.signed n e in
        let l = alone-byte integer_signed.direct n (lit≤ tt) e in
        head-by s at stop b [] small (subst (Stand s at stop) q h) (is-small b l.0 l.1)

    -- a body behind the marker b
    body_head : (sign : Bool) (b : ℕ) (m : Marker) → marker_of b ≡ m → head_by s at stop b m ≡ integer_head at stop (rank sign n) sign → Stand s at stop (b ∷ bytes_of (size_at (rank sign n)) n)
        → head_at s at stop ≡ Ok (stand.Leaf (holds.Integer sign (at + 1) (size_at (rank sign n))) (at + 1 + size_at (rank sign n)))
    body_head sign b m e same h =
        let z : ℕ = size_at (rank sign n) in
        let B : List ℕ = bytes_of z n in
        head-by s at stop b B m h e ∙ same ∙ rw (le-leb z (stop - (at + 1)) (payload_room (b ∷ []) B z h (length-bytes_of z n)))

    pub signed_back : has_number integer_signed.direct n ≡ false → (h : Stand s at stop (form integer_signed n))
        → head_at s at stop ≡ Ok (stand.Leaf (holds.Integer true (at + 1) (size_at (rank true n))) (at + 1 + size_at (rank true n)))
    unfolding head_by
    signed_back e h =
        let r : rank true n < 8 = rank_lt true n low in
        let q = no_alone integer_signed sound_integers.signed n refl ∙ body-form integer_signed sound_integers.signed n e in
        body_head true (0x10 + rank true n) signed_body (is_signed (0x10 + rank true n) (omega arith) (omega arith)) (ap (λ (x : ℕ). integer_head at stop x true) (omega_rank 0x10 (rank true n))) (subst (Stand s at stop) q h)

    pub unsigned_back : has_number integer_unsigned.direct n ≡ false → (h : Stand s at stop (form integer_unsigned n))
        → head_at s at stop ≡ Ok (stand.Leaf (holds.Integer false (at + 1) (size_at (rank false n))) (at + 1 + size_at (rank false n)))
    unfolding head_by
    unsigned_back e h =
        let r : rank false n < 8 = rank_lt false n low in
        let q = no_alone integer_unsigned sound_integers.unsigned n refl ∙ body-form integer_unsigned sound_integers.unsigned n e in
        body_head false (0x18 + rank false n) unsigned_body (is-unsigned (0x18 + rank false n) (omega arith) (omega arith)) (ap (λ (x : ℕ). integer_head at stop x false) (omega_rank 0x18 (rank false n))) (subst (Stand s at stop) q h)

    -- what the body is read as
    pub body_there : (sign : Bool) (b : ℕ) → Stand s at stop (b ∷ bytes_of (size_at (rank sign n)) n) → body_value sign (take (size_at (rank sign n)) (drop (at + 1) s)) ≡ n
    body_there sign b h =
        let z : ℕ = size_at (rank sign n) in
        ap (body_value sign) (payload_there (b ∷ []) (bytes_of z n) z h (length-bytes_of z n)) ∙ rank-reads sign n low
