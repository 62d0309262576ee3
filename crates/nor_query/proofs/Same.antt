-- One table stands for a query: what its fields read and the rest of the query settle each byte.
use Rattle.std.proofs.Common.{◌≡◌, ◌<◌, ◌≤◌, ℕ, zero, suc, ◌+◌, ◌*◌, ◌-◌, List, length, refl, sym, ◌∙◌, ap, arith, true, inl, inr}
use Rattle.std.specs.Prelude.{slice_index, ◌==◌, ◌||◌, ◌&&◌, nat_le, nat_lt, if◌then◌else◌}
use Rattle.std.proofs.lemmas.Bool.{eqb-true, leb-true, ltb-true, and_parts, or_cases, cases_lt, cases_Bool, cond-false}
use Rattle.std.proofs.lemmas.List.{ext_get_or}
use Rattle.nor_cell.specs.Bits.{AreBytes}
use Rattle.nor_cell.specs.Table.{field_8, field_16, extended_at, extended, set_of}
use Rattle.nor_cell.specs.declared.device.Set.{Set}
use Rattle.nor_cell.specs.declared.device.Set.TheVariants.{Intel as IntelSet, Amd as AmdSet}
use Rattle.nor_query.specs.Fields.{field_32, bytes_at, block_size, region_at, regions_at, region_count, extended_of, is_named, is_named_in, is_named_extended}
use Rattle.nor_query.specs.Stands.{StandsFor}
use Rattle.nor_query.specs.Writing.{SameWithin, set_code}
use Rattle.nor_query.specs.declared.query.Query.{Query}
use Rattle.nor_query.proofs.Passing.{Passes, ExtendedPasses, passes}
use Rattle.nor_query.proofs.Standing.{same_named, length-regions_at}

-- a block size comes from one number of steps
block_size_one : (m n : ℕ) → block_size m ≡ block_size n → m ≡ n
block_size_one zero zero same = refl
block_size_one zero (suc n) same = absurd (omega arith)
block_size_one (suc m) zero same = absurd (omega arith)
block_size_one (suc m) (suc n) same = omega arith

-- the identifier of a set that is known
set_number : (n : ℕ) → (n == 1 || n == 2) ≡ true → n ≡ set_code (if n == 2 then AmdSet else IntelSet)
set_number n known = elim (or_cases (n == 1) (n == 2) known) [
  | inl first ↦ (let e : n ≡ 1 = eqb-true n 1 first in e ∙ ap (λ m. set_code (if m == 2 then AmdSet else IntelSet)) (sym e))
  | inr second ↦ (let e : n ≡ 2 = eqb-true n 2 second in e ∙ ap (λ m. set_code (if m == 2 then AmdSet else IntelSet)) (sym e))
]

-- a word of two bytes
word_fits : (table : List ℕ) → AreBytes table → (at : ℕ) → field_16 table at < 65536
word_fits table bytes at =
    let low = bytes at in
    let high = bytes (at + 1) in
    omega arith

-- the two words of a number of four bytes
two_halves : (a b c d : ℕ) → a < 65536 → c < 65536 → a + 65536 * b ≡ c + 65536 * d → (a ≡ c) × (b ≡ d)
two_halves a b c d low other same = (omega arith, omega arith)

module _ (t u : List ℕ) (t_bytes : AreBytes t) (u_bytes : AreBytes u) where
  -- two stretches that meet
  joined : (a b c : ℕ) → SameWithin a b t u → SameWithin b c t u → SameWithin a c t u
  joined a b c first second at low high = elim (cases_lt at b) [
    | inl below ↦ first at low below
    | inr above ↦ second at above high
  ]

  -- a byte that reads the same is the same
  byte_same : (at : ℕ) → field_8 u at ≡ field_8 t at → SameWithin at (at + 1) t u
  byte_same at same p low high =
      let e : p ≡ at = omega arith in
      ap (λ n. slice_index u n) e ∙ (same ∙ ap (λ n. slice_index t n) (sym e))

  -- a word that reads the same has the same two bytes
  two_same : (at : ℕ) → field_16 u at ≡ field_16 t at → (slice_index u at ≡ slice_index t at) × (slice_index u (at + 1) ≡ slice_index t (at + 1))
  two_same at same =
      let a = t_bytes at in
      let b = t_bytes (at + 1) in
      let c = u_bytes at in
      let d = u_bytes (at + 1) in
      (omega (arith, a, b, c, d, same), omega (arith, a, b, c, d, same))

  -- and so is the stretch of a word
  word_same : (at : ℕ) → field_16 u at ≡ field_16 t at → SameWithin at (at + 2) t u
  word_same at same =
      let two = two_same at same in
      joined at (at + 1) (at + 2) (byte_same at two.0) (λ p low high. byte_same (at + 1) two.1 p low (omega arith))

  -- of some bytes
  bytes_same : (at n : ℕ) → bytes_at u at n ≡ bytes_at t at n → SameWithin at (at + n) t u
  bytes_same at zero same = λ p low high. absurd (omega arith)
  bytes_same at (suc n) same =
      let first : field_8 u at ≡ field_8 t at = cc in
      let later : bytes_at u (at + 1) n ≡ bytes_at t (at + 1) n = cc in
      let rest = bytes_same (at + 1) n later in
      joined at (at + 1) (at + suc n) (byte_same at first) (λ p low high. rest p low (omega arith))

  -- of a number of four bytes
  four_same : (at : ℕ) → field_32 u at ≡ field_32 t at → SameWithin at (at + 4) t u
  four_same at same =
      let halves = two_halves (field_16 u at) (field_16 u (at + 2)) (field_16 t at) (field_16 t (at + 2)) (word_fits u u_bytes at) (word_fits t t_bytes at) same in
      let high = word_same (at + 2) halves.1 in
      joined at (at + 2) (at + 4) (word_same at halves.0) (λ p low below. high p low (omega arith))

  -- of a region
  region_same : (at : ℕ) → region_at u at ≡ region_at t at → SameWithin at (at + 4) t u
  region_same at same =
      let count : field_16 u at + 1 ≡ field_16 t at + 1 = ap (λ r. r.count) same in
      let size = block_size_one (field_16 u (at + 2)) (field_16 t (at + 2)) (ap (λ r. r.size) same) in
      let low = word_same at (omega arith) in
      let high = word_same (at + 2) size in
      joined at (at + 2) (at + 4) low (λ p above below. high p above (omega arith))

  -- of some regions
  regions_same : (at n : ℕ) → regions_at u at n ≡ regions_at t at n → SameWithin at (at + 4 * n) t u
  regions_same at zero same = λ p low high. absurd (omega arith)
  regions_same at (suc n) same =
      let first : region_at u at ≡ region_at t at = cc in
      let later : regions_at u (at + 4) n ≡ regions_at t (at + 4) n = cc in
      let rest = regions_same (at + 4) n later in
      joined at (at + 4) (at + 4 * suc n) (region_same at first) (λ p low high. rest p low (omega arith))

  -- the head, field by field
  head_same : (q : Query) → StandsFor t q → StandsFor u q → Passes t → Passes u → SameWithin 0x10 0x2D t u
  head_same q here there one two =
      let head = one.head in
      let other = two.head in
      let set : field_16 u 0x13 ≡ field_16 t 0x13 = set_number (field_16 u 0x13) other.set ∙ (ap (λ s. set_code s) (sym there.set ∙ here.set) ∙ sym (set_number (field_16 t 0x13) head.set)) in
      let counted : region_count t ≡ region_count u = sym (length-regions_at t 0x2D (region_count t)) ∙ (ap (λ regions. length regions) (sym here.regions ∙ there.regions) ∙ length-regions_at u 0x2D (region_count u)) in
      joined 0x10 0x11 0x2D (byte_same 0x10 (other.q ∙ sym head.q))
      (joined 0x11 0x12 0x2D (byte_same 0x11 (other.r ∙ sym head.r))
      (joined 0x12 0x13 0x2D (byte_same 0x12 (other.y ∙ sym head.y))
      (joined 0x13 0x15 0x2D (word_same 0x13 set)
      (joined 0x15 0x17 0x2D (word_same 0x15 (sym there.ext ∙ here.ext))
      (joined 0x17 0x19 0x2D (word_same 0x17 (sym there.alt_set ∙ here.alt_set))
      (joined 0x19 0x1B 0x2D (word_same 0x19 (sym there.alt_ext ∙ here.alt_ext))
      (joined 0x1B 0x1F 0x2D (bytes_same 0x1B 4 (sym there.volts ∙ here.volts))
      (joined 0x1F 0x27 0x2D (bytes_same 0x1F 8 (sym there.times ∙ here.times))
      (joined 0x27 0x28 0x2D (byte_same 0x27 (sym there.size_log ∙ here.size_log))
      (joined 0x28 0x2A 0x2D (word_same 0x28 (sym there.interface ∙ here.interface))
      (joined 0x2A 0x2C 0x2D (word_same 0x2A (sym there.buffer_log ∙ here.buffer_log)) (byte_same 0x2C (sym counted)))))))))))))

  -- what a set's table says settles its bytes
  says_same : (set : Set) (e : ℕ) → extended_at t ≡ e → extended_at u ≡ e → extended_of set u ≡ extended_of set t → SameWithin e (e + 5) t u
      → (k : ℕ) → is_named_extended set k ≡ true → slice_index u (e + k) ≡ slice_index t (e + k)
  says_same IntelSet e t_at u_at says front k named =
      let less : k < 10 = ltb-true k 10 named in
      let features : field_32 u (extended_at u + 5) ≡ field_32 t (extended_at t + 5) = cc in
      let in_suspend : extended u 9 ≡ extended t 9 = cc in
      let four : field_32 u (e + 5) ≡ field_32 t (e + 5) = ap (λ p. field_32 u (p + 5)) (sym u_at) ∙ (features ∙ ap (λ p. field_32 t (p + 5)) t_at) in
      let last : field_8 u (e + 9) ≡ field_8 t (e + 9) = ap (λ p. field_8 u (p + 9)) (sym u_at) ∙ (in_suspend ∙ ap (λ p. field_8 t (p + 9)) t_at) in
      let words = four_same (e + 5) four in
      joined e (e + 5) (e + 10) front (joined (e + 5) (e + 9) (e + 10) (λ p low high. words p low (omega arith)) (λ p low high. byte_same (e + 9) last p low (omega arith))) (e + k) (omega arith) (omega arith)
  says_same AmdSet e t_at u_at says front k named =
      let suspend : extended u 6 ≡ extended t 6 = cc in
      let protect : extended u 9 ≡ extended t 9 = cc in
      let boot : extended u 15 ≡ extended t 15 = cc in
      let moved : (n : ℕ) → extended u n ≡ extended t n → field_8 u (e + n) ≡ field_8 t (e + n) =
      (λ n same. ap (λ p. field_8 u (p + n)) (sym u_at) ∙ (same ∙ ap (λ p. field_8 t (p + n)) t_at)) in
      let single : (n : ℕ) → extended u n ≡ extended t n → (k == n) ≡ true → slice_index u (e + k) ≡ slice_index t (e + k) =
      (λ n same is. byte_same (e + n) (moved n same) (e + k) (let same_k : k ≡ n = eqb-true k n is in omega arith) (let same_k : k ≡ n = eqb-true k n is in omega arith)) in
      elim (or_cases (nat_lt k 5 || k == 6 || k == 9) (k == 15) named) [
        | inr last ↦ single 15 boot last
        | inl before ↦ elim (or_cases (nat_lt k 5 || k == 6) (k == 9) before) [
          | inr ninth ↦ single 9 protect ninth
          | inl earlier ↦ elim (or_cases (nat_lt k 5) (k == 6) earlier) [
            | inr sixth ↦ single 6 suspend sixth
            | inl low ↦ (let less : k < 5 = ltb-true k 5 low in front (e + k) (omega arith) (omega arith))
          ]
        ]
      ]

  -- P, R, I and the version
  front_same : (q : Query) → StandsFor t q → StandsFor u q → ExtendedPasses t → ExtendedPasses u → SameWithin q.ext (q.ext + 5) t u
  front_same q here there one two =
      let e = q.ext in
      let moved : (n : ℕ) → extended u n ≡ extended t n → field_8 u (e + n) ≡ field_8 t (e + n) =
      (λ n same. ap (λ p. field_8 u (p + n)) there.ext ∙ (same ∙ ap (λ p. field_8 t (p + n)) (sym here.ext))) in
      let begin : e + 0 ≡ e = omega arith in
      let p : field_8 u e ≡ field_8 t e = ap (λ n. field_8 u n) (sym begin) ∙ (moved 0 (two.p ∙ sym one.p) ∙ ap (λ n. field_8 t n) begin) in
      joined e (e + 1) (e + 5) (byte_same e p)
      (joined (e + 1) (e + 2) (e + 5) (λ at low high. byte_same (e + 1) (moved 1 (two.r ∙ sym one.r)) at low (omega arith))
      (joined (e + 2) (e + 3) (e + 5) (λ at low high. byte_same (e + 2) (moved 2 (two.i ∙ sym one.i)) at low (omega arith))
      (joined (e + 3) (e + 4) (e + 5) (λ at low high. byte_same (e + 3) (moved 3 (two.major ∙ sym one.major)) at low (omega arith))
      (λ at low high. byte_same (e + 4) (moved 4 (sym there.minor ∙ here.minor)) at low (omega arith)))))

  -- each byte, with a name or without
  each_same : (q : Query) → StandsFor t q → StandsFor u q → (at : ℕ) → at < 512 → slice_index t at ≡ slice_index u at
  each_same q here there at less =
      let one = passes t here.checks in
      let two = passes u there.checks in
      let count : length q.regions.items ≡ region_count t = ap (λ regions. length regions) here.regions ∙ length-regions_at t 0x2D (region_count t) in
      let other : length q.regions.items ≡ region_count u = ap (λ regions. length regions) there.regions ∙ length-regions_at u 0x2D (region_count u) in
      let n = length q.regions.items in
      let regions : regions_at u 0x2D n ≡ regions_at t 0x2D n =
      ap (λ k. regions_at u 0x2D k) other ∙ (sym there.regions ∙ (here.regions ∙ ap (λ k. regions_at t 0x2D k) (sym count))) in
      let named_t = same_named q.set (set_of t) n (region_count t) q.ext (extended_at t) at here.set count here.ext in
      let named_u = same_named q.set (set_of u) n (region_count u) q.ext (extended_at u) at there.set other there.ext in
      let says : extended_of q.set u ≡ extended_of q.set t =
      ap (λ s. extended_of s u) there.set ∙ (sym there.extended ∙ (here.extended ∙ ap (λ s. extended_of s t) (sym here.set))) in
      elim (cases_Bool (is_named q.set n q.ext at)) [
        | inr isn't ↦
            sym (here.rest at less ∙ cond-false (is_named_in t at) 0 (slice_index t at) (sym named_t ∙ isn't))
            ∙ (there.rest at less ∙ cond-false (is_named_in u at) 0 (slice_index u at) (sym named_u ∙ isn't))
        | inl is ↦ elim (or_cases (nat_le 0x10 at && nat_lt at (0x2D + 4 * n)) (nat_le q.ext at && is_named_extended q.set (at - q.ext)) is) [
          | inl in_head ↦
              let both = and_parts (nat_le 0x10 at) (nat_lt at (0x2D + 4 * n)) in_head in
              sym (joined 0x10 0x2D (0x2D + 4 * n) (head_same q here there one two) (regions_same 0x2D n regions) at (leb-true 0x10 at both.0) (ltb-true at (0x2D + 4 * n) both.1))
          | inr in_ext ↦
              let both = and_parts (nat_le q.ext at) (is_named_extended q.set (at - q.ext)) in_ext in
              let past : q.ext ≤ at = leb-true q.ext at both.0 in
              let same : q.ext + (at - q.ext) ≡ at = omega arith in
              let found = says_same q.set q.ext (sym here.ext) (sym there.ext) says (front_same q here there one.ext two.ext) (at - q.ext) both.1 in
              sym (ap (λ p. slice_index u p) (sym same) ∙ (found ∙ ap (λ p. slice_index t p) same))
        ]
      ]

-- two tables that stand for one query are one
pub one_table : (t u : List ℕ) (q : Query) → StandsFor t q → StandsFor u q → t ≡ u
one_table t u q here there =
    ext_get_or 0 t u (here.len ∙ sym there.len) (λ at less. each_same t u here.bytes there.bytes q here there at (omega (arith, here.len)))
