-- Fields that lie in bytes which are the same read the same.
use Rattle.std.proofs.Common.{◌≡◌, ◌<◌, ◌≤◌, ℕ, zero, suc, ◌+◌, ◌*◌, List, [], ◌∷◌, ◌++◌, length, take, get_or, refl, sym, ◌∙◌, ap, arith}
use Rattle.std.specs.Prelude.{slice_index}
use Rattle.std.proofs.lemmas.List.{take_more}
use Rattle.nor_cell.specs.Table.{field_16}
use Rattle.nor_region.specs.declared.region.Region.{Region}
use Rattle.nor_query.specs.Fields.{bytes_at, block_size, region_at, regions_at}
use Rattle.nor_query.specs.Writing.{SameWithin, HeadReads}
use Rattle.nor_query.specs.declared.query.Query.{Query}
use Rattle.nor_query.proofs.Reading.{regions_at_more}

-- a word, by its two bytes
pub word_moves : (old new : List ℕ) (a b : ℕ) → slice_index new a ≡ slice_index old b → slice_index new (a + 1) ≡ slice_index old (b + 1) → field_16 new a ≡ field_16 old b
word_moves old new a b low high = omega arith

-- a region, by its four bytes
pub region_moves : (old new : List ℕ) (a b : ℕ) → ((k : ℕ) → k < 4 → slice_index new (a + k) ≡ slice_index old (b + k)) → region_at new a ≡ region_at old b
region_moves old new a b same =
    let zero_a : a + 0 ≡ a = omega arith in
    let zero_b : b + 0 ≡ b = omega arith in
    let first : slice_index new a ≡ slice_index old b = sym (ap (λ p. slice_index new p) zero_a) ∙ (same 0 (omega arith) ∙ ap (λ p. slice_index old p) zero_b) in
    let count = word_moves old new a b first (same 1 (omega arith)) in
    let three_a : a + 2 + 1 ≡ a + 3 = omega arith in
    let three_b : b + 3 ≡ b + 2 + 1 = omega arith in
    let last : slice_index new (a + 2 + 1) ≡ slice_index old (b + 2 + 1) = ap (λ p. slice_index new p) three_a ∙ (same 3 (omega arith) ∙ ap (λ p. slice_index old p) three_b) in
    let size = word_moves old new (a + 2) (b + 2) (same 2 (omega arith)) last in
    ap (λ n. record { count = n + 1; size = block_size (field_16 new (a + 2)) }) count ∙ ap (λ n. record { count = field_16 old b + 1; size = block_size n }) size

-- regions in bytes that are the same
pub regions_frame : (old new : List ℕ) (at n : ℕ) → SameWithin at (at + 4 * n) old new → regions_at new at n ≡ regions_at old at n
regions_frame old new at zero same = refl
regions_frame old new at (suc n) same =
    let first = region_moves old new at at (λ k less. same (at + k) (omega arith) (omega arith)) in
    let rest = regions_frame old new (at + 4) n (λ p low high. same p (omega arith) (omega arith)) in
    ap (λ region. region ∷ regions_at new (at + 4) n) first ∙ ap (λ regions. region_at old at ∷ regions) rest

-- one region more is written
pub regions_written : (old new bytes : List ℕ) (regions : List Region) (i : ℕ) (region d : Region) → i < length regions
    → regions_at old 0x2D i ≡ take i regions → SameWithin 0 (0x2D + 4 * i) old new → ((k : ℕ) → k < 4 → slice_index new (0x2D + 4 * i + k) ≡ slice_index bytes k)
    → region_at bytes 0 ≡ region → region ≡ get_or regions i d → regions_at new 0x2D (i + 1) ≡ take (i + 1) regions
regions_written old new bytes regions i region d less before same inside reads is =
    let more = regions_at_more new 0x2D i in
    let frame = regions_frame old new 0x2D i (λ p low high. same p (omega arith) high) in
    let here = region_moves bytes new (0x2D + 4 * i) 0 (λ k few. inside k few ∙ ap (λ p. slice_index bytes p) (let e : k ≡ 0 + k = omega arith in e)) in
    more ∙ (ap (λ first. first ++ region_at new (0x2D + 4 * i) ∷ []) (frame ∙ before)
    ∙ (ap (λ last. take i regions ++ last ∷ []) (here ∙ (reads ∙ is)) ∙ sym (take_more regions i d less)))

-- bytes that are the same
pub bytes_move : (old new : List ℕ) (a b n : ℕ) → ((k : ℕ) → k < n → slice_index new (a + k) ≡ slice_index old (b + k)) → bytes_at new a n ≡ bytes_at old b n
bytes_move old new a b zero same = refl
bytes_move old new a b (suc n) same =
    let zero_a : a ≡ a + 0 = omega arith in
    let zero_b : b + 0 ≡ b = omega arith in
    let first : slice_index new a ≡ slice_index old b = ap (λ p. slice_index new p) zero_a ∙ (same 0 (omega arith) ∙ ap (λ p. slice_index old p) zero_b) in
    let rest = bytes_move old new (a + 1) (b + 1) n (λ k less.
    let next_a : a + 1 + k ≡ a + (k + 1) = omega arith in
    let next_b : b + (k + 1) ≡ b + 1 + k = omega arith in
    ap (λ p. slice_index new p) next_a ∙ (same (k + 1) (omega arith) ∙ ap (λ p. slice_index old p) next_b)) in
    ap (λ byte. byte ∷ bytes_at new (a + 1) n) first ∙ ap (λ bytes. slice_index old b ∷ bytes) rest

-- a head that is copied into a table
pub head_moves : (head table : List ℕ) (q : Query) → ((k : ℕ) → k < 29 → slice_index table (0x10 + k) ≡ slice_index head k) → HeadReads head 0 q → HeadReads table 0x10 q
head_moves head table q same reads =
    let word : (k : ℕ) → k + 1 < 29 → field_16 table (0x10 + k) ≡ field_16 head k =
    (λ k less. word_moves head table (0x10 + k) k (same k (omega arith)) (ap (λ p. slice_index table p) (let e : 0x10 + k + 1 ≡ 0x10 + (k + 1) = omega arith in e) ∙ same (k + 1) less)) in
    let bytes : (b n : ℕ) → b + n ≤ 29 → bytes_at table (0x10 + b) n ≡ bytes_at head b n =
    (λ b n less. bytes_move head table (0x10 + b) b n (λ k few. ap (λ p. slice_index table p) (let e : 0x10 + b + k ≡ 0x10 + (b + k) = omega arith in e) ∙ same (b + k) (omega arith))) in
    record {
      q = same 0 (omega arith) ∙ reads.q;
      r = same 1 (omega arith) ∙ reads.r;
      y = same 2 (omega arith) ∙ reads.y;
      set = word 3 (omega arith) ∙ reads.set;
      ext = word 5 (omega arith) ∙ reads.ext;
      alt_set = word 7 (omega arith) ∙ reads.alt_set;
      alt_ext = word 9 (omega arith) ∙ reads.alt_ext;
      volts = bytes 11 4 (omega arith) ∙ reads.volts;
      times = bytes 15 8 (omega arith) ∙ reads.times;
      size_log = same 23 (omega arith) ∙ reads.size_log;
      interface = word 24 (omega arith) ∙ reads.interface;
      buffer_log = word 26 (omega arith) ∙ reads.buffer_log;
      count = same 28 (omega arith) ∙ reads.count;
    }
