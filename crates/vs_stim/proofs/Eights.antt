-- Eight bytes that are digits `0` and `1`, read as one word.
use Rattle.std.proofs.Common.{◌≡◌, ℕ, ◌+◌, ◌-◌, ◌*◌, ◌/◌, ◌%◌, ◌<◌, ◌≤◌, List, length, get_or, take, bit_and, refl, sym, ap, ◌∙◌, arith}
use Rattle.std.proofs.lemmas.List.{append-nil, get_or-take}
use Rattle.std.proofs.lemmas.Nat.{and_block, and_le_r, same_from_place}
use Rattle.std.proofs.lemmas.Nat.Bits.{and_high}
use Rattle.std.specs.Int.{w64, from_le_bytes}
use Rattle.std.specs.Prelude.{Option, Some}
use Rattle.vs_four.specs.declared.Bit4.{Bit4}
use Rattle.vs_four.specs.Planes.{bits_of_planes}
use Rattle.vs_stim.specs.Vectors.{bits_of}
use Rattle.vs_stim.proofs.Ahead.{HasRead, read_none, read_plain}

-- ---- the bytes of the word

-- The byte is `0` or `1`, and this is its digit.
pub record IsPlain (b digit : ℕ) : Type 0 where
  pub few : digit ≤ 1
  pub is : b ≡ 48 + digit

plain_of : (b : ℕ) → b < 256 → bit_and b 254 ≡ 48 → IsPlain b (b % 2)
plain_of b k e =
    let f : (b / 2 % 128) * 2 ≡ 48 = sym (and_high b 7 1) ∙ e in
    record { few = omega arith; is = omega arith }

-- what a mask leaves of the lowest byte, and of those above it
masked : (h b m t : ℕ) → b < 256 → bit_and (h * 256 + b) (m * 256 + 254) ≡ t * 256 + 48 → (bit_and h m ≡ t) × (bit_and b 254 ≡ 48)
masked h b m t k e = same_from_place (bit_and h m) (bit_and b 254) t 48 256 (omega (arith, and_le_r b 254)) (omega arith) (sym (and_block 8 h m b 254 k (omega arith)) ∙ e)

-- the word of eight bytes, the first of them lowest
abbrev pub word_of : (b0 b1 b2 b3 b4 b5 b6 b7 : ℕ) → ℕ
word_of b0 b1 b2 b3 b4 b5 b6 b7 = ((((((b7 * 256 + b6) * 256 + b5) * 256 + b4) * 256 + b3) * 256 + b2) * 256 + b1) * 256 + b0

pub record ArePlain (b0 b1 b2 b3 b4 b5 b6 b7 : ℕ) : Type 0 where
  pub digit0 : IsPlain b0 (b0 % 2)
  pub digit1 : IsPlain b1 (b1 % 2)
  pub digit2 : IsPlain b2 (b2 % 2)
  pub digit3 : IsPlain b3 (b3 % 2)
  pub digit4 : IsPlain b4 (b4 % 2)
  pub digit5 : IsPlain b5 (b5 % 2)
  pub digit6 : IsPlain b6 (b6 % 2)
  pub digit7 : IsPlain b7 (b7 % 2)

-- Each byte is `0` or `1` where the upper seven bits of each are those of `0`.
pub all_plain : (b0 b1 b2 b3 b4 b5 b6 b7 : ℕ) → b0 < 256 → b1 < 256 → b2 < 256 → b3 < 256 → b4 < 256 → b5 < 256 → b6 < 256 → b7 < 256
    → bit_and (word_of b0 b1 b2 b3 b4 b5 b6 b7) 18374403900871474942 ≡ 3472328296227680304 → ArePlain b0 b1 b2 b3 b4 b5 b6 b7
all_plain b0 b1 b2 b3 b4 b5 b6 b7 k0 k1 k2 k3 k4 k5 k6 k7 e =
    let s0 = masked ((((((b7 * 256 + b6) * 256 + b5) * 256 + b4) * 256 + b3) * 256 + b2) * 256 + b1) b0 71775015237779198 13563782407139376 k0 e in
    let s1 = masked (((((b7 * 256 + b6) * 256 + b5) * 256 + b4) * 256 + b3) * 256 + b2) b1 280371153272574 52983525027888 k1 s0.0 in
    let s2 = masked ((((b7 * 256 + b6) * 256 + b5) * 256 + b4) * 256 + b3) b2 1095199817470 206966894640 k2 s1.0 in
    let s3 = masked (((b7 * 256 + b6) * 256 + b5) * 256 + b4) b3 4278124286 808464432 k3 s2.0 in
    let s4 = masked ((b7 * 256 + b6) * 256 + b5) b4 16711422 3158064 k4 s3.0 in
    let s5 = masked (b7 * 256 + b6) b5 65278 12336 k5 s4.0 in
    let s6 = masked b7 b6 254 48 k6 s5.0 in
    record {
      digit0 = plain_of b0 k0 s0.1;
      digit1 = plain_of b1 k1 s1.1;
      digit2 = plain_of b2 k2 s2.1;
      digit3 = plain_of b3 k3 s3.1;
      digit4 = plain_of b4 k4 s4.1;
      digit5 = plain_of b5 k5 s5.1;
      digit6 = plain_of b6 k6 s6.1;
      digit7 = plain_of b7 k7 s6.0;
    }

-- ---- the digits of the word

-- The highest byte of this product has the digits, the first of them highest; what is below it stays there.
pub gathered : (e0 e1 e2 e3 e4 e5 e6 e7 : ℕ) → e0 ≤ 1 → e1 ≤ 1 → e2 ≤ 1 → e3 ≤ 1 → e4 ≤ 1 → e5 ≤ 1 → e6 ≤ 1 → e7 ≤ 1
    → (word_of e0 e1 e2 e3 e4 e5 e6 e7 * 9241421688590303745) % 18446744073709551616 / 72057594037927936 ≡ 2 * (2 * (2 * (2 * (2 * (2 * (2 * (2 * 0 + e0) + e1) + e2) + e3) + e4) + e5) + e6) + e7
gathered e0 e1 e2 e3 e4 e5 e6 e7 h0 h1 h2 h3 h4 h5 h6 h7 =
    let high : ℕ = 128 * e1 + 32832 * e2 + 8405024 * e3 + 2151686160 * e4 + 550831656968 * e5 + 141012904183812 * e6 + 36099303471055874 * e7 in
    let low : ℕ = 18049651735527937 * e0 + 9024825867763968 * e1 + 4512412933881856 * e2 + 2256206466908160 * e3 + 1128103225065472 * e4 + 564049465049088 * e5 + 281474976710656 * e6 in
    ap (λ n. n % 18446744073709551616 / 72057594037927936) (omega arith) ∙ of_parts high (2 * (2 * (2 * (2 * (2 * (2 * (2 * (2 * 0 + e0) + e1) + e2) + e3) + e4) + e5) + e6) + e7) low (omega arith) (omega arith)
  where
    of_parts : (high middle low : ℕ) → middle < 256 → low < 72057594037927936 → (high * 18446744073709551616 + middle * 72057594037927936 + low) % 18446744073709551616 / 72057594037927936 ≡ middle
    of_parts high middle low h k = omega arith

-- ---- their bits

read_bits : (bytes : List ℕ) (value : ℕ) → HasRead bytes 8 0 0 0 value 0 → bits_of (take 8 bytes) ≡ Some (bits_of_planes 8 value 0)
unfolding bits_of_planes
read_bits bytes value r = r.are ∙ ap (λ bits. let o : Option (List Bit4) = Some bits in o) (sym (append-nil r.bits) ∙ sym r.planes)

pub plain_bits : (bytes : List ℕ) (e0 e1 e2 e3 e4 e5 e6 e7 : ℕ) → 8 ≤ length bytes
    → IsPlain (get_or bytes 0 0) e0 → IsPlain (get_or bytes 1 0) e1 → IsPlain (get_or bytes 2 0) e2 → IsPlain (get_or bytes 3 0) e3 → IsPlain (get_or bytes 4 0) e4 → IsPlain (get_or bytes 5 0) e5 → IsPlain (get_or bytes 6 0) e6 → IsPlain (get_or bytes 7 0) e7
    → bits_of (take 8 bytes) ≡ Some (bits_of_planes 8 (2 * (2 * (2 * (2 * (2 * (2 * (2 * (2 * 0 + e0) + e1) + e2) + e3) + e4) + e5) + e6) + e7) 0)
plain_bits bytes e0 e1 e2 e3 e4 e5 e6 e7 h p0 p1 p2 p3 p4 p5 p6 p7 =
    let r0 = read_plain bytes 0 0 0 0 (0) 0 (get_or bytes 0 0) e0 (read_none bytes 0 0 0 (omega arith) (omega arith)) (omega (arith, h)) refl p0.few (λ z. omega (arith, p0.is, z)) (λ z. omega (arith, p0.is, z)) in
    let r1 = read_plain bytes 1 0 0 0 (2 * 0 + e0) 0 (get_or bytes 1 0) e1 r0 (omega (arith, h)) refl p1.few (λ z. omega (arith, p1.is, z)) (λ z. omega (arith, p1.is, z)) in
    let r2 = read_plain bytes 2 0 0 0 (2 * (2 * 0 + e0) + e1) 0 (get_or bytes 2 0) e2 r1 (omega (arith, h)) refl p2.few (λ z. omega (arith, p2.is, z)) (λ z. omega (arith, p2.is, z)) in
    let r3 = read_plain bytes 3 0 0 0 (2 * (2 * (2 * 0 + e0) + e1) + e2) 0 (get_or bytes 3 0) e3 r2 (omega (arith, h)) refl p3.few (λ z. omega (arith, p3.is, z)) (λ z. omega (arith, p3.is, z)) in
    let r4 = read_plain bytes 4 0 0 0 (2 * (2 * (2 * (2 * 0 + e0) + e1) + e2) + e3) 0 (get_or bytes 4 0) e4 r3 (omega (arith, h)) refl p4.few (λ z. omega (arith, p4.is, z)) (λ z. omega (arith, p4.is, z)) in
    let r5 = read_plain bytes 5 0 0 0 (2 * (2 * (2 * (2 * (2 * 0 + e0) + e1) + e2) + e3) + e4) 0 (get_or bytes 5 0) e5 r4 (omega (arith, h)) refl p5.few (λ z. omega (arith, p5.is, z)) (λ z. omega (arith, p5.is, z)) in
    let r6 = read_plain bytes 6 0 0 0 (2 * (2 * (2 * (2 * (2 * (2 * 0 + e0) + e1) + e2) + e3) + e4) + e5) 0 (get_or bytes 6 0) e6 r5 (omega (arith, h)) refl p6.few (λ z. omega (arith, p6.is, z)) (λ z. omega (arith, p6.is, z)) in
    let r7 = read_plain bytes 7 0 0 0 (2 * (2 * (2 * (2 * (2 * (2 * (2 * 0 + e0) + e1) + e2) + e3) + e4) + e5) + e6) 0 (get_or bytes 7 0) e7 r6 (omega (arith, h)) refl p7.few (λ z. omega (arith, p7.is, z)) (λ z. omega (arith, p7.is, z)) in
    read_bits bytes _ r7

-- ---- the word of a text

-- the word of the digits of plain bytes
digits_word : (b0 b1 b2 b3 b4 b5 b6 b7 e0 e1 e2 e3 e4 e5 e6 e7 : ℕ) → IsPlain b0 e0 → IsPlain b1 e1 → IsPlain b2 e2 → IsPlain b3 e3 → IsPlain b4 e4 → IsPlain b5 e5 → IsPlain b6 e6 → IsPlain b7 e7
    → word_of b0 b1 b2 b3 b4 b5 b6 b7 - 3472328296227680304 ≡ word_of e0 e1 e2 e3 e4 e5 e6 e7
digits_word b0 b1 b2 b3 b4 b5 b6 b7 e0 e1 e2 e3 e4 e5 e6 e7 p0 p1 p2 p3 p4 p5 p6 p7 = omega (arith, p0.is, p1.is, p2.is, p3.is, p4.is, p5.is, p6.is, p7.is)

-- The first eight bytes, read as a word, are digits `0` and `1` where its mask is that of eight `0`, and these are their bits.
pub eight_bits : (bytes chunk : List ℕ) (word : ℕ) → 8 ≤ length bytes → chunk ≡ take 8 bytes → ((k : ℕ) → get_or bytes k 0 < 256) → word ≡ from_le_bytes w64 chunk → bit_and word 18374403900871474942 ≡ 3472328296227680304
    → bits_of (take 8 bytes) ≡ Some (bits_of_planes 8 ((word - 3472328296227680304) * 9241421688590303745 % 18446744073709551616 / 72057594037927936) 0)
eight_bits bytes chunk word h same fits is mask =
    let p = all_plain (get_or bytes 0 0) (get_or bytes 1 0) (get_or bytes 2 0) (get_or bytes 3 0) (get_or bytes 4 0) (get_or bytes 5 0) (get_or bytes 6 0) (get_or bytes 7 0) (fits 0) (fits 1) (fits 2) (fits 3) (fits 4) (fits 5) (fits 6) (fits 7) (ap (λ w. bit_and w 18374403900871474942) (sym whole) ∙ mask) in
    let e = ap (λ w. w - 3472328296227680304) whole ∙ digits_word (get_or bytes 0 0) (get_or bytes 1 0) (get_or bytes 2 0) (get_or bytes 3 0) (get_or bytes 4 0) (get_or bytes 5 0) (get_or bytes 6 0) (get_or bytes 7 0) _ _ _ _ _ _ _ _ p.digit0 p.digit1 p.digit2 p.digit3 p.digit4 p.digit5 p.digit6 p.digit7 in
    let g = gathered _ _ _ _ _ _ _ _ p.digit0.few p.digit1.few p.digit2.few p.digit3.few p.digit4.few p.digit5.few p.digit6.few p.digit7.few in
    plain_bits bytes _ _ _ _ _ _ _ _ h p.digit0 p.digit1 p.digit2 p.digit3 p.digit4 p.digit5 p.digit6 p.digit7
    ∙ ap (λ v. let o : Option (List Bit4) = Some (bits_of_planes 8 v 0) in o) (sym (ap (λ w. w * 9241421688590303745 % 18446744073709551616 / 72057594037927936) e ∙ g))
  where
    byte : (k : ℕ) → k < 8 → get_or chunk k 0 ≡ get_or bytes k 0
    byte k l = ap (λ bs. get_or bs k 0) same ∙ get_or-take 8 bytes k 0 l

    whole : word ≡ word_of (get_or bytes 0 0) (get_or bytes 1 0) (get_or bytes 2 0) (get_or bytes 3 0) (get_or bytes 4 0) (get_or bytes 5 0) (get_or bytes 6 0) (get_or bytes 7 0)
    whole = omega (arith, is, byte 0 (omega arith), byte 1 (omega arith), byte 2 (omega arith), byte 3 (omega arith), byte 4 (omega arith), byte 5 (omega arith), byte 6 (omega arith), byte 7 (omega arith))
