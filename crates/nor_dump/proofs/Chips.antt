-- The chips of a bank that is made: their cells are the bytes of the dump.
use Rattle.std.proofs.Common.{◌≡◌, ◌<◌, ◌≢◌, ◌⊎◌, inl, inr, ◌*◌, ℕ, zero, suc, List, [], ◌∷◌, ◌++◌, length, slice_index, IsTrue, refl, sym, ap, subst, ◌∙◌, arith}
use Rattle.std.specs.Prelude.{slice_index_or}
use Rattle.std.proofs.Math.ListN.{get_or-append}
use Rattle.std.proofs.lemmas.Bool.{cases_eq}
use Rattle.std.proofs.lemmas.List.{length_push, get_or_push}
use Rattle.nor_cell.specs.Bits.{unit_len}
use Rattle.nor_cell.specs.Chip.{ChipState}
use Rattle.nor_cell.specs.Wiring.{is_wiring, bank_place, lane_at, place_at}
use Rattle.nor_cell.specs.declared.geometry.Geometry.{Geometry}
use Rattle.nor_bus.specs.Bus.{IsBank, chip_at, no_chip, bank_byte}
use Rattle.nor_lane.proofs.Places.{bank_place-place_at, lane_at_below}
use Rattle.nor_image.proofs.Images.{some_lanes}
use Rattle.nor_dump.specs.Made.{lane_cells, made_chip, made_chips, chip_size}
use Rattle.nor_dump.specs.declared.changes.Change.{Change}
use Rattle.nor_dump.proofs.Sizes.{place_at_below}

-- element k of a list that has one more
one_more : {A : Type 0} (xs : List A) (x d : A) (n k : ℕ) (value : A) → length xs ≡ n → k < suc n → (k < n → slice_index_or xs k d ≡ value) → (k ≡ n → x ≡ value)
    → (k ≡ n) ⊎ (k ≢ n) → slice_index_or (xs ++ x ∷ []) k d ≡ value
one_more xs x d n k value long below before here (inl is) = get_or_push xs x d k (long ∙ sym is) ∙ here is
one_more xs x d n k value long below before here (inr apart) = get_or-append xs (x ∷ []) d k (omega arith) ∙ before (omega arith)

pub length-lane_cells : (g : Geometry) (raw : List ℕ) (c n : ℕ) → length (lane_cells g raw c n) ≡ n
length-lane_cells g raw c zero = refl
length-lane_cells g raw c (suc n) =
    length_push (lane_cells g raw c n) (slice_index raw (bank_place g.lanes (unit_len g.device) c n)) ∙ (let e = length-lane_cells g raw c n in omega arith)

pub lane_cells-at : (g : Geometry) (raw : List ℕ) (c n p : ℕ) → p < n → slice_index (lane_cells g raw c n) p ≡ slice_index raw (bank_place g.lanes (unit_len g.device) c p)
lane_cells-at g raw c zero p below = absurd (omega arith)
lane_cells-at g raw c (suc n) p below =
    one_more (lane_cells g raw c n) (slice_index raw (bank_place g.lanes (unit_len g.device) c n)) 0 n p (slice_index raw (bank_place g.lanes (unit_len g.device) c p))
    (length-lane_cells g raw c n) below (λ under. lane_cells-at g raw c n p under) (λ is. ap (λ (k : ℕ). slice_index raw (bank_place g.lanes (unit_len g.device) c k)) (sym is)) (cases_eq p n)

module _ (g : Geometry) (table : List ℕ) (changes : List Change) (raw : List ℕ) where
  chips : ℕ → List ChipState
  chips n = made_chips g table changes raw n

  pub length-made_chips : (n : ℕ) → length (made_chips g table changes raw n) ≡ n
  length-made_chips zero = refl
  length-made_chips (suc n) = length_push (made_chips g table changes raw n) (made_chip g table changes raw n) ∙ (let e = length-made_chips n in omega arith)

  pub made_chip-at : (n c : ℕ) → c < n → chip_at (made_chips g table changes raw n) c ≡ made_chip g table changes raw c
  made_chip-at zero c below = absurd (omega arith)
  made_chip-at (suc n) c below =
      one_more (made_chips g table changes raw n) (made_chip g table changes raw n) no_chip n c (made_chip g table changes raw c)
      (length-made_chips n) below (λ under. made_chip-at n c under) (λ is. ap (λ (k : ℕ). made_chip g table changes raw k) (sym is)) (cases_eq c n)

  -- they are a bank
  pub made_bank : (width : ℕ) → IsTrue (is_wiring width g.lanes g.device) → IsBank width g.device (made_chips g table changes raw g.lanes)
  made_bank width wired =
      let some = some_lanes width g.lanes g.device wired in
      let count = length-made_chips g.lanes in
      let at : (c : ℕ) → c < g.lanes → length (chip_at (made_chips g table changes raw g.lanes) c).cells ≡ chip_size table =
      λ c below. ap (λ (s : ChipState). length s.cells) (made_chip-at g.lanes c below) ∙ length-lane_cells g raw c (chip_size table) in
      record {
        wiring = subst (λ (n : ℕ). IsTrue (is_wiring width n g.device)) (sym count) wired;
        devices = λ c below. ap (λ (s : ChipState). s.part.device) (made_chip-at g.lanes c (subst (λ (n : ℕ). c < n) count below));
        sizes = λ c below. at c (subst (λ (n : ℕ). c < n) count below) ∙ sym (at 0 some);
      }

  -- Byte a of the bank is byte a of the dump.
  pub made_byte : (units a : ℕ) → 0 < g.lanes → 0 < unit_len g.device → chip_size table ≡ units * unit_len g.device → a < g.lanes * chip_size table
      → bank_byte g.device (made_chips g table changes raw g.lanes) a ≡ slice_index raw a
  made_byte units a lane some whole below =
      let d = unit_len g.device in
      let n = g.lanes in
      let in_lane = lane_at_below n d a lane in
      let in_chip = place_at_below n d units (chip_size table) a lane some whole below in
      ap (λ (m : ℕ). slice_index (chip_at (made_chips g table changes raw n) (lane_at m d a)).cells (place_at m d a)) (length-made_chips n)
      ∙ (ap (λ (s : ChipState). slice_index s.cells (place_at n d a)) (made_chip-at n (lane_at n d a) in_lane)
      ∙ (lane_cells-at g raw (lane_at n d a) (chip_size table) (place_at n d a) in_chip
      ∙ ap (λ (k : ℕ). slice_index raw k) (bank_place-place_at n d a some)))
