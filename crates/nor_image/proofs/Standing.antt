-- Bytes that stand at a place of a file.
use Rattle.std.proofs.Common.{◌≡◌, ◌<◌, ◌≤◌, ℕ, ◌+◌, ◌*◌, ◌/◌, ◌%◌, ◌^◌, List, ◌++◌, length, take, drop, slice_index, sym, ap, subst, ◌∙◌, arith}
use Rattle.std.proofs.Math.Seq.{take-add, take-append_seam, drop-append_seam}
use Rattle.std.proofs.lemmas.List.{length-append, take-take, drop-drop, drop-take, get_or-take, get_or-drop, take_all}
use Rattle.std.specs.Int.{w16, w32, to_le_bytes}
use Rattle.nor_io.specs.Fields.{u16_at, u32_at}
use Rattle.nor_image.specs.Image.{bytes_at}

-- all of these bytes stand there
pub record Stand (file : List ℕ) (at : ℕ) (bytes : List ℕ) : Type 0 where
  pub whole : at + length bytes ≤ length file
  pub are : bytes_at file at (length bytes) ≡ bytes

-- at the same place
pub stand_at : {file bytes : List ℕ} {at : ℕ} (there : ℕ) → Stand file at bytes → at ≡ there → Stand file there bytes
stand_at {file = file} {bytes = bytes} there stand is = subst (λ (p : ℕ). Stand file p bytes) is stand

-- a file of two parts, the second of which stands behind the first
pub stand_behind : (xs ys : List ℕ) → Stand (xs ++ ys) (length xs) ys
stand_behind xs ys = record {
  whole = (let both = length-append xs ys in omega arith);
  are = ap (take (length ys)) (drop-append_seam xs ys) ∙ take_all (length ys) ys (omega arith);
}

-- of two pieces the first stands there
pub stand_first : {file : List ℕ} {at : ℕ} (xs ys : List ℕ) → Stand file at (xs ++ ys) → Stand file at xs
stand_first {file = file} {at = at} xs ys stand = record {
  whole = (let both = length-append xs ys in let all = stand.whole in omega arith);
  are =
      let both = length-append xs ys in
      sym (take-take (length xs) (length (xs ++ ys)) (drop at file) (omega arith))
      ∙ (ap (take (length xs)) stand.are ∙ take-append_seam xs ys);
}

-- and the second behind it
pub stand_second : {file : List ℕ} {at : ℕ} (xs ys : List ℕ) → Stand file at (xs ++ ys) → Stand file (at + length xs) ys
stand_second {file = file} {at = at} xs ys stand = record {
  whole = (let both = length-append xs ys in let all = stand.whole in omega arith);
  are =
      ap (take (length ys)) (sym (drop-drop (length xs) at file))
      ∙ (sym (drop-take (length xs) (length ys) (drop at file))
      ∙ (ap (λ n. drop (length xs) (take n (drop at file))) (sym (length-append xs ys))
      ∙ (ap (drop (length xs)) stand.are ∙ drop-append_seam xs ys)));
}

-- two pieces one behind the other
pub stand_both : {file : List ℕ} {at : ℕ} (xs ys : List ℕ) → Stand file at xs → Stand file (at + length xs) ys → Stand file at (xs ++ ys)
stand_both {file = file} {at = at} xs ys first second = record {
  whole = (let both = length-append xs ys in let end = second.whole in omega arith);
  are =
      ap (λ n. take n (drop at file)) (length-append xs ys)
      ∙ (take-add (length xs) (length ys) (drop at file)
      ∙ (λ i. first.are i ++ (ap (take (length ys)) (drop-drop (length xs) at file) ∙ second.are) i));
}

-- byte k of them
pub byte_there : {file : List ℕ} {at : ℕ} (bytes : List ℕ) (k : ℕ) → Stand file at bytes → k < length bytes → slice_index file (at + k) ≡ slice_index bytes k
byte_there {file = file} {at = at} bytes k stand below =
    sym (get_or-take (length bytes) (drop at file) k 0 below ∙ get_or-drop at file k 0) ∙ ap (λ xs. slice_index xs k) stand.are

-- a number of two bytes, the lowest first
two_bytes : (n : ℕ) → n < 65536 → n % 256 + 256 * (n / 256 % 256) ≡ n
two_bytes n below = omega arith

four_bytes : (n : ℕ) → n < 4294967296 → (n % 256 + 256 * (n / 256 % 256)) + 65536 * (n / 65536 % 256 + 256 * (n / 16777216 % 256)) ≡ n
four_bytes n below = omega arith

pub u16_there : {file : List ℕ} {at : ℕ} (n : ℕ) → Stand file at (to_le_bytes w16 n) → n < 2 ^ 16 → u16_at file at ≡ n
u16_there {file = file} {at = at} n stand below =
    let low = byte_there (to_le_bytes w16 n) 0 stand (omega arith) in
    let high = byte_there (to_le_bytes w16 n) 1 stand (omega arith) in
    let place : at + 0 ≡ at = omega arith in
    (λ i. slice_index file (sym place i) + 256 * slice_index file (at + 1)) ∙ ((λ i. low i + 256 * high i) ∙ two_bytes n below)

pub u32_there : {file : List ℕ} {at : ℕ} (n : ℕ) → Stand file at (to_le_bytes w32 n) → n < 2 ^ 32 → u32_at file at ≡ n
u32_there {file = file} {at = at} n stand below =
    let byte0 = byte_there (to_le_bytes w32 n) 0 stand (omega arith) in
    let byte1 = byte_there (to_le_bytes w32 n) 1 stand (omega arith) in
    let byte2 = byte_there (to_le_bytes w32 n) 2 stand (omega arith) in
    let byte3 = byte_there (to_le_bytes w32 n) 3 stand (omega arith) in
    let place0 : at + 0 ≡ at = omega arith in
    let place3 : at + 3 ≡ at + 2 + 1 = omega arith in
    (λ i. (slice_index file (sym place0 i) + 256 * slice_index file (at + 1)) + 65536 * (slice_index file (at + 2) + 256 * slice_index file (sym place3 i)))
    ∙ ((λ i. (byte0 i + 256 * byte1 i) + 65536 * (byte2 i + 256 * byte3 i)) ∙ four_bytes n below)
