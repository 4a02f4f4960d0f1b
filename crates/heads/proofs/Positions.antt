-- What stands at a position, by each way out of the code. Assumes nothing.
use Rattle.std.specs.Prelude.{Result, Ok, Err}
use Prim.Native.Nat.{ℕ, suc, ◌+◌, ◌-◌, ◌*◌, ◌^◌, ◌≤◌, ◌<◌}
use mathlib.Core.Path.{◌≡◌, ◌∙◌, sym, ap, ap₂, refl}
use mathlib.Core.Bool.{Bool, true, false, not, cond, ◌&&◌}
use mathlib.Core.List.{List, [], ◌∷◌}
use native.Mathlib.Omega.{arith}
use lib.ListN.{length, get_or, take, drop}
use lib.Seq.{drop-cons}
use lib.Dec.{leb, ltb, eqb}
use borrow.Author.Tests.{le-leb, lt-leb, lt-ltb, le-ltb, eq-eqb, ne_eqb}
use Rattle.wide.specs.declared.wide.Wide.{Wide}
use Rattle.wide.specs.Number.{number}
use Rattle.wide.specs.Words.{value_of}
use Rattle.wide.specs.Family.{behind}
use Rattle.wide.specs.Members.{run, none, key_length, declaration_count, foreign_length}
use Rattle.wide.proofs.Numbers.{either}
use Rattle.wide.proofs.Families.{cond_yes, cond_no}
use Rattle.text.specs.Check.{Text, text_of, well_formed}
use Rattle.rows.specs.Table.{limit}
use Rattle.rows.specs.Kinds.{kind_float}
use Rattle.format.specs.declared.refused.Refused.{Refused}
use Rattle.format.specs.declared.refusal.Refusal.{Refusal}
use Rattle.format.specs.declared.refusal.Refusal.TheVariants as why
use Rattle.format.specs.declared.head.Spelling.{Spelling}
use Rattle.format.specs.declared.head.Count.{Count}
use Rattle.format.specs.declared.head.Content.{Content}
use Rattle.format.specs.declared.head.Content.TheVariants as holds
use Rattle.format.specs.declared.head.Holder.TheVariants.{Array, Record, Map}
use Rattle.format.specs.declared.head.Head.{Head}
use Rattle.format.specs.declared.head.Head.TheVariants.{Leaf, Hold, Refer, Declare, Foreign}
use Rattle.format.specs.Head.{counts, spells, refuse, Marker, constant, float, text, array, entries, map, binary, special, nothing, signed_body, unsigned_body, small, char, reference, marker_of, count_at, bodied, spelled, spelling, spelling_of, codepoint, char_body, char_head, float_size, integer_head, text_head, binary_head, holder_head, refer_head, declare_head, foreign_head, special_head, head_by, head_at, key_at}
use Rattle.heads.proofs.Counts.{count-behind, count-behind_two, count-alone}
use Rattle.format.proofs.Markers as marker

-- ---- within the limit

pub beyond : (a b c d : ℕ) → 0 < b + 2 ^ 32 * (c + 2 ^ 32 * d) → limit < a + 2 ^ 32 * (b + 2 ^ 32 * (c + 2 ^ 32 * d))
beyond a b c d h = omega arith

pub within_low : (w : Wide) (n : ℕ) (r : Bool) → w.w3 ≡ 0 → w.w2 ≡ 0 → w.w1 ≡ 0 → n ≡ w.w0 → r ≡ leb n limit → r ≡ leb (value_of w) limit
within_low w n r a b c e is = is ∙ ap (λ (m : ℕ). leb m limit) (e ∙ low w.w0 w.w1 w.w2 w.w3 a b c)
  where
    low : (x y z t : ℕ) → t ≡ 0 → z ≡ 0 → y ≡ 0 → x ≡ x + 2 ^ 32 * (y + 2 ^ 32 * (z + 2 ^ 32 * t))
    low x y z t a b c = omega arith

-- ---- bodies

pub body_there : (at place size stop : ℕ) (c : Content) → size ≤ stop - place → Ok (Leaf c (place + size)) ≡ bodied at c place size stop
body_there at place size stop c h = sym (cond_yes (leb size (stop - place)) _ _ (le-leb size (stop - place) h))

pub body_cut : (at place size stop : ℕ) (c : Content) → stop - place < size → refuse why.Short at ≡ bodied at c place size stop
body_cut at place size stop c h = sym (cond_no (leb size (stop - place)) _ _ (lt-leb size (stop - place) h))

module _ (s : List ℕ) (place size stop : ℕ) where
  pub spelling_cut : stop - place < size → Err why.Short ≡ spelling s place size stop
  spelling_cut h = sym (cond_no (leb size (stop - place)) _ _ (lt-leb size (stop - place) h))

  -- by whether the bytes are text
  spelling_there : (b : Bool) → size ≤ stop - place → b ≡ well_formed (text_of (take (place + size - place) (drop place s)))
      → spelling s place size stop ≡ cond b (Ok (spells place size)) (Err why.Text)
  spelling_there b h e =
      let n : place + size - place ≡ size = omega arith in
      cond_yes (leb size (stop - place)) _ _ (le-leb size (stop - place) h)
      ∙ told (text_of (take size (drop place s)))
      ∙ ap (λ (x : Bool). cond x (Ok (spells place size)) (Err why.Text)) (sym (e ∙ ap (λ (k : ℕ). well_formed (text_of (take k (drop place s)))) n))
    where
      told : (t : Text) → spelled place size t ≡ cond (well_formed t) (Ok (spells place size)) (Err why.Text)
      told (Ok u) = refl
      told (Err i) = refl

  pub spelling_well : (b : Bool) → size ≤ stop - place → b ≡ well_formed (text_of (take (place + size - place) (drop place s))) → b ≡ true
      → Ok (spells place size) ≡ spelling s place size stop
  spelling_well b h e w = sym (spelling_there b h e ∙ ap (λ (x : Bool). cond x (Ok (spells place size)) (Err why.Text)) w)

  pub spelling_ill : (b : Bool) → size ≤ stop - place → b ≡ well_formed (text_of (take (place + size - place) (drop place s))) → b ≡ false
      → Err why.Text ≡ spelling s place size stop
  spelling_ill b h e w = sym (spelling_there b h e ∙ ap (λ (x : Bool). cond x (Ok (spells place size)) (Err why.Text)) w)

-- a text or a key whose length is c
module _ (s : List ℕ) (from stop : ℕ) (c : Result Count Refusal) (count : c ≡ count_at key_length s from stop) where
  pub key_counted : (n next : ℕ) → c ≡ Ok (counts n next) → (r : Result Spelling Refusal) → r ≡ spelling s next n stop → r ≡ key_at s from stop
  unfolding key_at
  key_counted n next q r e = e ∙ ap (spelling_of s stop) (sym q ∙ count)

-- ---- chars

pub not_codepoint : (c : ℕ) → 1114111 < c → false ≡ codepoint c
not_codepoint c h = sym (ap (λ (t : Bool). t && not (leb 0xD800 c && leb c 0xDFFF)) (lt-leb c 0x10FFFF h))

pub low-codepoint : (c : ℕ) → c < 55296 → true ≡ codepoint c
low-codepoint c h =
    sym (ap₂ (λ (t u : Bool). t && not (u && leb c 0xDFFF)) (le-leb c 0x10FFFF (omega arith)) (lt-leb 0xD800 c h))

pub high_codepoint : (c : ℕ) → c ≤ 1114111 → 55296 ≤ c → ltb 57343 c ≡ codepoint c
high_codepoint c h l =
    turned c ∙ sym (ap₂ (λ (t u : Bool). t && not (u && leb c 0xDFFF)) (le-leb c 0x10FFFF h) (le-leb 0xD800 c l))
  where
    turned : (x : ℕ) → ltb 57343 x ≡ not (leb x 57343)
    turned x = either x 57343 (λ a. le-ltb 57343 x a ∙ sym (ap not (le-leb x 57343 a))) (λ a. lt-ltb 57343 x a ∙ sym (ap not (lt-leb x 57343 a)))

module _ (s : List ℕ) (at stop : ℕ) where
  pub char_cut : stop - at < 4 → at < stop → refuse why.Short at ≡ char_head s at stop
  char_cut h l = sym (cond_no (leb 3 (stop - (at + 1))) _ _ (lt-leb 3 (stop - (at + 1)) (omega arith)))

  char-bytes : at + 4 ≤ length s → number (take 3 (drop (at + 1) s)) ≡ get_or s (at + 1) 0 + 256 * (get_or s (at + 2) 0 + 256 * get_or s (at + 3) 0)
  char-bytes h =
      let z : get_or s (at + 3) 0 + 256 * 0 ≡ get_or s (at + 3) 0 = omega arith in
      ap (λ (l : List ℕ). number (take 3 l))
      (drop-cons s (at + 1) 0 (omega arith)
      ∙ ap (λ (l : List ℕ). get_or s (at + 1) 0 ∷ l) (drop-next (at + 1) (at + 2) (omega arith) (omega arith)
      ∙ ap (λ (l : List ℕ). get_or s (at + 2) 0 ∷ l) (drop-next (at + 2) (at + 3) (omega arith) (omega arith))))
      ∙ ap (λ (x : ℕ). get_or s (at + 1) 0 + 256 * (get_or s (at + 2) 0 + 256 * x)) z
    where
      drop-next : (i j : ℕ) → suc i ≡ j → j < length s → drop (suc i) s ≡ get_or s j 0 ∷ drop (suc j) s
      drop-next i j e l = ap (λ (k : ℕ). drop k s) e ∙ drop-cons s j 0 l

  -- the three bytes as the code has them
  module _ (x y z : ℕ) (ex : x ≡ get_or s (at + 1) 0) (ey : y ≡ get_or s (at + 2) 0) (ez : z ≡ get_or s (at + 3) 0) (l : 4 ≤ stop - at) (h : stop ≤ length s) where
    char_there : char_head s at stop ≡ char_body at (x + 256 * (y + 256 * z))
    char_there =
        cond_yes (leb 3 (stop - (at + 1))) _ _ (le-leb 3 (stop - (at + 1)) (omega arith))
        ∙ ap (char_body at) (char-bytes (omega arith) ∙ sym (ap₂ (λ (i j : ℕ). i + 256 * j) ex (ap₂ (λ (i j : ℕ). i + 256 * j) ey ez)))

    pub char-good : (t : Bool) → t ≡ codepoint (x + 256 * (y + 256 * z)) → t ≡ true → Ok (Leaf (holds.Char (x + 256 * (y + 256 * z))) (at + 4)) ≡ char_head s at stop
    char-good t a b = sym (char_there ∙ cond_yes (codepoint (x + 256 * (y + 256 * z))) _ _ (sym a ∙ b))

    pub char-bad : (t : Bool) → t ≡ codepoint (x + 256 * (y + 256 * z)) → t ≡ false → refuse why.Char at ≡ char_head s at stop
    char-bad t a b = sym (char_there ∙ cond_no (codepoint (x + 256 * (y + 256 * z))) _ _ (sym a ∙ b))

-- ---- what stands at a position

pub head_missing : (s : List ℕ) (at stop : ℕ) → stop ≤ at → refuse why.Short at ≡ head_at s at stop
unfolding head_at
head_missing s at stop h = sym (cond_no (ltb at stop) _ _ (le-ltb at stop h))

module _ (s : List ℕ) (at stop : ℕ) (l : at < stop) where
  by : (m : Marker) → marker_of (get_or s at 0) ≡ m → head_by s at stop (get_or s at 0) m ≡ head_at s at stop
  unfolding head_at
  by m e = sym (cond_yes (ltb at stop) _ _ (lt-ltb at stop l) ∙ ap (head_by s at stop (get_or s at 0)) e)

  pub head_constant : (b : ℕ) → b ≡ get_or s at 0 → b < 3 → Ok (Leaf (holds.Constant (b + 1)) (at + 1)) ≡ head_at s at stop
  unfolding head_by
  head_constant b e h = ap (λ (x : ℕ). Ok (Leaf (holds.Constant (x + 1)) (at + 1))) e ∙ by constant (marker.is-constant (get_or s at 0) (omega arith))

  pub head_float : (b z : ℕ) (r : Result Head Refused) → b ≡ get_or s at 0 → 3 ≤ b → b < 8 → z ≡ float_size b → r ≡ bodied at (holds.Span kind_float (at + 1) z) (at + 1) z stop
      → r ≡ head_at s at stop
  unfolding head_by
  head_float b z r e h g f d =
      d ∙ ap (λ (x : ℕ). bodied at (holds.Span kind_float (at + 1) x) (at + 1) x stop) (f ∙ ap float_size e)
      ∙ by float (marker.is-float (get_or s at 0) (omega arith) (omega arith))

  pub head_signed : (b : ℕ) (r : Result Head Refused) → b ≡ get_or s at 0 → 16 ≤ b → b < 24 → r ≡ integer_head at stop (b - 16) true → r ≡ head_at s at stop
  unfolding head_by
  head_signed b r e h g d = d ∙ ap (λ (x : ℕ). integer_head at stop (x - 16) true) e ∙ by signed_body (marker.is_signed (get_or s at 0) (omega arith) (omega arith))

  pub head_unsigned : (b : ℕ) (r : Result Head Refused) → b ≡ get_or s at 0 → 24 ≤ b → b < 32 → r ≡ integer_head at stop (b - 24) false → r ≡ head_at s at stop
  unfolding head_by
  head_unsigned b r e h g d = d ∙ ap (λ (x : ℕ). integer_head at stop (x - 24) false) e ∙ by unsigned_body (marker.is-unsigned (get_or s at 0) (omega arith) (omega arith))

  pub head_small : (b : ℕ) → b ≡ get_or s at 0 → 32 ≤ b → b < 128 → Ok (Leaf (holds.Small (get_or s at 0)) (at + 1)) ≡ head_at s at stop
  unfolding head_by
  head_small b e h g = by small (marker.is-small (get_or s at 0) (omega arith) (omega arith))

  pub head_nothing : (b : ℕ) → b ≡ get_or s at 0 → 14 ≤ b → b < 16 → refuse why.Marker at ≡ head_at s at stop
  unfolding head_by
  head_nothing b e h g = by nothing (marker.is-nothing (get_or s at 0) (omega arith) (omega arith))

  pub head_char : (b : ℕ) (r : Result Head Refused) → b ≡ get_or s at 0 → b ≡ 192 → r ≡ char_head s at stop → r ≡ head_at s at stop
  unfolding head_by marker_of
  head_char b r e h d = d ∙ by char (ap marker_of (sym e ∙ h))

  pub head_special : (b : ℕ) (r : Result Head Refused) → b ≡ get_or s at 0 → b ≡ 13 → r ≡ special_head s at stop → r ≡ head_at s at stop
  unfolding head_by marker_of
  head_special b r e h d = d ∙ by special (ap marker_of (sym e ∙ h))

  -- the number stands behind the marker
  module _ (h : stop ≤ length s) where
    pub head_long-text : (b : ℕ) (r : Result Head Refused) → b ≡ get_or s at 0 → b ≡ 8 → r ≡ text_head at (spelling_of s stop (count_at key_length s (at + 1) stop)) → r ≡ head_at s at stop
    unfolding head_by marker_of behind
    head_long-text b r e g d =
        d ∙ ap (λ (c : Result Count Refusal). text_head at (spelling_of s stop c)) (sym (count-behind (run 0x80 32 1) 0x08 s at stop l h (sym e ∙ g) refl)) ∙ by text (ap marker_of (sym e ∙ g))

    pub head_binary : (b : ℕ) (r : Result Head Refused) → b ≡ get_or s at 0 → b ≡ 12 → r ≡ binary_head at stop (count_at key_length s (at + 1) stop) → r ≡ head_at s at stop
    unfolding head_by marker_of behind
    head_binary b r e g d =
        d ∙ ap (binary_head at stop) (sym (count-behind none 0x0c s at stop l h (sym e ∙ g) refl)) ∙ by binary (ap marker_of (sym e ∙ g))

    pub head_long-array : (b : ℕ) (r : Result Head Refused) → b ≡ get_or s at 0 → b ≡ 9 → r ≡ holder_head Array at (count_at key_length s (at + 1) stop) → r ≡ head_at s at stop
    unfolding head_by marker_of behind
    head_long-array b r e g d =
        d ∙ ap (holder_head Array at) (sym (count-behind (run 0xa0 16 1) 0x09 s at stop l h (sym e ∙ g) refl)) ∙ by array (ap marker_of (sym e ∙ g))

    pub head_long_record : (b : ℕ) (r : Result Head Refused) → b ≡ get_or s at 0 → b ≡ 10 → r ≡ holder_head Record at (count_at key_length s (at + 1) stop) → r ≡ head_at s at stop
    unfolding head_by marker_of behind
    head_long_record b r e g d =
        d ∙ ap (holder_head Record at) (sym (count-behind (run 0xb0 8 1) 0x0a s at stop l h (sym e ∙ g) refl)) ∙ by entries (ap marker_of (sym e ∙ g))

    pub head_long-map : (b : ℕ) (r : Result Head Refused) → b ≡ get_or s at 0 → b ≡ 11 → r ≡ holder_head Map at (count_at key_length s (at + 1) stop) → r ≡ head_at s at stop
    unfolding head_by marker_of behind
    head_long-map b r e g d =
        d ∙ ap (holder_head Map at) (sym (count-behind (run 0xb8 8 1) 0x0b s at stop l h (sym e ∙ g) refl)) ∙ by map (ap marker_of (sym e ∙ g))

    pub head_long-refer : (b : ℕ) (r : Result Head Refused) → b ≡ get_or s at 0 → b ≡ 255 → r ≡ refer_head at (count_at key_length s (at + 1) stop) → r ≡ head_at s at stop
    unfolding head_by marker_of behind
    head_long-refer b r e g d =
        d ∙ ap (refer_head at) (sym (count-behind (run 0xc1 62 0) 0xff s at stop l h (sym e ∙ g) refl)) ∙ by reference (ap marker_of (sym e ∙ g))

    -- the number is in the marker
    pub head_text : (b : ℕ) (r : Result Head Refused) → b ≡ get_or s at 0 → 128 ≤ b → b < 160 → r ≡ text_head at (spelling s (at + 1) (b - 127) stop) → r ≡ head_at s at stop
    unfolding head_by
    head_text b r e g f d =
        let n : b - 127 ≡ 1 + (get_or s at 0 - 0x80) = omega arith in
        d ∙ ap (λ (x : ℕ). text_head at (spelling s (at + 1) x stop)) n
        ∙ ap (λ (c : Result Count Refusal). text_head at (spelling_of s stop c)) (sym (count-alone 0x80 32 1 (0x08 ∷ []) s at stop l h (omega arith) (omega arith) (omega arith) (omega arith)))
        ∙ by text (marker.is-text (get_or s at 0) (omega arith) (omega arith))

    pub head_array : (b : ℕ) → b ≡ get_or s at 0 → 160 ≤ b → b < 176 → Ok (Hold Array (b - 159) (at + 1)) ≡ head_at s at stop
    unfolding head_by
    head_array b e g f =
        let n : b - 159 ≡ 1 + (get_or s at 0 - 0xa0) = omega arith in
        ap (λ (x : ℕ). Ok (Hold Array x (at + 1))) n
        ∙ ap (holder_head Array at) (sym (count-alone 0xa0 16 1 (0x09 ∷ []) s at stop l h (omega arith) (omega arith) (omega arith) (omega arith)))
        ∙ by array (marker.is-array (get_or s at 0) (omega arith) (omega arith))

    pub head_record : (b : ℕ) → b ≡ get_or s at 0 → 176 ≤ b → b < 184 → Ok (Hold Record (b - 175) (at + 1)) ≡ head_at s at stop
    unfolding head_by
    head_record b e g f =
        let n : b - 175 ≡ 1 + (get_or s at 0 - 0xb0) = omega arith in
        ap (λ (x : ℕ). Ok (Hold Record x (at + 1))) n
        ∙ ap (holder_head Record at) (sym (count-alone 0xb0 8 1 (0x0a ∷ []) s at stop l h (omega arith) (omega arith) (omega arith) (omega arith)))
        ∙ by entries (marker.is-entries (get_or s at 0) (omega arith) (omega arith))

    pub head_map : (b : ℕ) → b ≡ get_or s at 0 → 184 ≤ b → b < 192 → Ok (Hold Map (b - 183) (at + 1)) ≡ head_at s at stop
    unfolding head_by
    head_map b e g f =
        let n : b - 183 ≡ 1 + (get_or s at 0 - 0xb8) = omega arith in
        ap (λ (x : ℕ). Ok (Hold Map x (at + 1))) n
        ∙ ap (holder_head Map at) (sym (count-alone 0xb8 8 1 (0x0b ∷ []) s at stop l h (omega arith) (omega arith) (omega arith) (omega arith)))
        ∙ by map (marker.is-map (get_or s at 0) (omega arith) (omega arith))

    pub head_refer : (b : ℕ) → b ≡ get_or s at 0 → 193 ≤ b → b < 255 → Ok (Refer (b - 193) (at + 1)) ≡ head_at s at stop
    unfolding head_by
    head_refer b e g f =
        let n : b - 193 ≡ 0 + (get_or s at 0 - 0xc1) = omega arith in
        ap (λ (x : ℕ). Ok (Refer x (at + 1))) n
        ∙ ap (refer_head at) (sym (count-alone 0xc1 62 0 (0xff ∷ []) s at stop l h (omega arith) (omega arith) (omega arith) (omega arith)))
        ∙ by reference (marker.is-reference (get_or s at 0) (omega arith) (omega arith))

-- ---- behind a 0d

module _ (s : List ℕ) (at stop : ℕ) where
  pub special_cut : stop ≤ at + 1 → refuse why.Short at ≡ special_head s at stop
  special_cut h = sym (cond_no (ltb (at + 1) stop) _ _ (le-ltb (at + 1) stop h))

  module _ (l : at + 1 < stop) (h : stop ≤ length s) (d : get_or s at 0 ≡ 13) where
    second : special_head s at stop
        ≡ cond (eqb (get_or s (at + 1) 0) 0x0d) (declare_head at (count_at declaration_count s at stop))
        (cond (eqb (get_or s (at + 1) 0) 0x00) (foreign_head at stop (count_at foreign_length s at stop)) (refuse why.Marker at))
    second = cond_yes (ltb (at + 1) stop) _ _ (lt-ltb (at + 1) stop l)

    pub special_declaration : (b : ℕ) (r : Result Head Refused) → b ≡ get_or s (at + 1) 0 → b ≡ 13 → r ≡ declare_head at (count_at key_length s (at + 1 + 1) stop) → r ≡ special_head s at stop
    special_declaration b r e g f =
        f ∙ ap (declare_head at) (sym (count-behind_two 0x0d 0x0d s at stop l h d (sym e ∙ g)))
        ∙ sym (second ∙ cond_yes (eqb (get_or s (at + 1) 0) 0x0d) _ _ (eq-eqb (get_or s (at + 1) 0) 0x0d (sym e ∙ g)))

    pub special-foreign : (b : ℕ) (r : Result Head Refused) → b ≡ get_or s (at + 1) 0 → b ≡ 0 → r ≡ foreign_head at stop (count_at key_length s (at + 1 + 1) stop) → r ≡ special_head s at stop
    special-foreign b r e g f =
        let z : get_or s (at + 1) 0 ≡ 0x00 = sym e ∙ g in
        f ∙ ap (foreign_head at stop) (sym (count-behind_two 0x0d 0x00 s at stop l h d z))
        ∙ sym (second ∙ cond_no (eqb (get_or s (at + 1) 0) 0x0d) _ _ (ne_eqb (get_or s (at + 1) 0) 0x0d (λ q. let x : ⊥ = omega arith in x))
        ∙ cond_yes (eqb (get_or s (at + 1) 0) 0x00) _ _ (eq-eqb (get_or s (at + 1) 0) 0x00 z))

    pub special-other : (b : ℕ) → b ≡ get_or s (at + 1) 0 → (b ≡ 13 → ⊥) → (b ≡ 0 → ⊥) → refuse why.Marker at ≡ special_head s at stop
    special-other b e g f =
        sym (second ∙ cond_no (eqb (get_or s (at + 1) 0) 0x0d) _ _ (ne_eqb (get_or s (at + 1) 0) 0x0d (λ q. g (e ∙ q)))
        ∙ cond_no (eqb (get_or s (at + 1) 0) 0x00) _ _ (ne_eqb (get_or s (at + 1) 0) 0x00 (λ q. f (e ∙ q))))

-- ---- a declaration or a foreign document of n

pub declare-some : (at n next : ℕ) → (n ≡ 0 → ⊥) → Ok (Declare n next) ≡ declare_head at (Ok (counts n next))
declare-some at n next h = sym (cond_no (eqb n 0) _ _ (ne_eqb n 0 h))

pub declare-none : (at n next : ℕ) → n ≡ 0 → refuse why.Empty at ≡ declare_head at (Ok (counts n next))
declare-none at n next h = sym (cond_yes (eqb n 0) _ _ (eq-eqb n 0 h))

pub foreign_there : (at stop n next : ℕ) → n ≤ stop - next → Ok (Foreign next n) ≡ foreign_head at stop (Ok (counts n next))
foreign_there at stop n next h = sym (cond_yes (leb n (stop - next)) _ _ (le-leb n (stop - next) h))

pub foreign_cut : (at stop n next : ℕ) → stop - next < n → refuse why.Short at ≡ foreign_head at stop (Ok (counts n next))
foreign_cut at stop n next h = sym (cond_no (leb n (stop - next)) _ _ (lt-leb n (stop - next) h))
