-- Records that are read one after another.
use Rattle.std.proofs.Common.{◌≡◌, ◌≢◌, ◌<◌, ◌≤◌, ◌⊎◌, inl, inr, ◌+◌, ◌*◌, ℕ, zero, suc, List, [], ◌∷◌, ◌++◌, length, map, Bool, IsTrue, refl, sym, ap, subst, ◌∙◌, arith, add-one, Option, Some, None, Result, Ok, Err, IsErrAnd}
use Rattle.std.proofs.Math.ListN.{get_or-append}
use Rattle.std.proofs.Math.Seq.{get_or-append_seam}
use Rattle.std.proofs.lemmas.Bool.{cases_eq}
use Rattle.std.proofs.lemmas.List.{length-append, map-append}
use Rattle.nor_cell.specs.Bits.{AreBytes}
use Rattle.nor_cell.specs.Cells.{chip_of}
use Rattle.nor_cell.specs.Chip.{ChipState}
use Rattle.nor_cell.specs.Power.{powered}
use Rattle.nor_cell.specs.declared.cells.Cells.{Cells}
use Rattle.nor_cell.specs.declared.device.Set.{Set}
use Rattle.nor_bus.specs.Bus.{chip_at, no_chip}
use Rattle.nor_bus.proofs.Sizes.{chip_size}
use Rattle.nor_image.specs.Image.{first_refusal, record_fields, fields_before, header_fields, record_place, record_end, version_of, machine_of, lanes_of_file, device_of, size_in, kept_locks, kept_in, kept_before, lock_count, locks_len, chip_in, trailing, image_refusal, is_size_by}
use Rattle.nor_image.specs.Reading.{MayRead, IsRefusal, AreStored, AreChips, chips_of, kept_of_each, record_len}
use Rattle.nor_image.specs.declared.error.ImageError.{ImageError}
use Rattle.nor_image.specs.declared.error.ImageError.TheVariants.{Trailing, NoMemory}
use Rattle.nor_image.proofs.LockBits.{kept_len, kept_few, len_few}
use Rattle.nor_image.proofs.Refusals.{or_none, or_some, goes_on, stops, stays, goes_further, ends}

-- an error that is handed on
pub read_stop : {A : Type 0} (refusal : Option ImageError) (P : A → Type 0) (r : Result A ImageError) (e : ImageError) → IsErrAnd r (λ x. x ≡ e)
    → (e ≢ NoMemory → (refusal ≡ Some e) × IsRefusal e) → MayRead refusal P r
read_stop refusal P (Ok x) e gave stop = absurd gave
read_stop refusal P (Err x) e gave stop = λ has_memory.
    subst (λ (y : ImageError). (refusal ≡ Some y) × IsRefusal y) (sym gave) (stop (λ same. has_memory (gave ∙ same)))

-- what holds of each chip holds of one more
pushed : (n c : ℕ) (P : ℕ → ChipState → Type 0) (xs : List ChipState) (x : ChipState) → length xs ≡ n → (c < n → P c (chip_at xs c)) → P n x
    → c < n + 1 → (c ≡ n) ⊎ (c ≢ n) → P c (chip_at (xs ++ x ∷ []) c)
pushed n c P xs x long before here below (inl is) =
    let seam : chip_at (xs ++ x ∷ []) n ≡ x = subst (λ (k : ℕ). chip_at (xs ++ x ∷ []) k ≡ x) long (get_or-append_seam xs x [] no_chip) in
    subst (λ (k : ℕ). P k (chip_at (xs ++ x ∷ []) k)) (sym is) (subst (λ (s : ChipState). P n s) (sym seam) here)
pushed n c P xs x long before here below (inr apart) =
    let under : c < n = omega arith in
    let within : c < length xs = omega arith in
    subst (λ (s : ChipState). P c s) (sym (get_or-append xs (x ∷ []) no_chip c within)) (before under)

-- one more chip
chips_pushed : (file : List ℕ) (set : Set) (n : ℕ) (xs : List ChipState) (x : ChipState) → AreChips file set n xs
    → x ≡ chip_in file set (device_of file) (record_place file n) → length x.cells ≡ size_in file 12 → AreBytes x.cells
    → IsTrue (is_size_by x.part.table (length x.cells)) → AreChips file set (n + 1) (xs ++ x ∷ [])
chips_pushed file set n xs x so is size bytes fits = record {
  count = length-append xs (x ∷ []) ∙ (let long = so.count in omega arith);
  each = λ c below. pushed n c (λ k s. s ≡ chip_in file set (device_of file) (record_place file k)) xs x so.count (so.each c) is below (cases_eq c n);
  sizes = λ c below. pushed n c (λ k s. length s.cells ≡ size_in file 12) xs x so.count (so.sizes c) size below (cases_eq c n);
  bytes = λ c below. pushed n c (λ k s. AreBytes s.cells) xs x so.count (so.bytes c) bytes below (cases_eq c n);
  fits = λ c below. pushed n c (λ k s. IsTrue (is_size_by s.part.table (length s.cells))) xs x so.count (so.fits c) fits below (cases_eq c n);
}

-- the first n records were read, and none of their fields refused; the next one begins at a place
pub record LanesSoFar (file : List ℕ) (n at : ℕ) (lanes : List Cells) : Type 0 where
  pub at_is : at ≡ record_place file n
  pub behind : 12 ≤ at
  -- no record has more than 256 weak places, 2 ^ 27 locks and as many cells
  pub near : at ≤ 12 + 268437020 * n
  pub none : first_refusal file (fields_before file n) ≡ None
  pub kept : kept_of_each (machine_of file) lanes ≡ kept_before file n
  pub chips : (set : Set) → AreChips file set n (chips_of set lanes)

-- one more record
pub lanes_more : (file : List ℕ) (n at next : ℕ) (lanes more : List Cells) (cells : Cells) → LanesSoFar file n at lanes
    → first_refusal file (record_fields file n at) ≡ None → AreStored file (device_of file) at cells
    → next ≡ at + record_len (version_of file) (machine_of file) cells → more ≡ lanes ++ cells ∷ [] → LanesSoFar file (n + 1) next more
lanes_more file n at next lanes more cells so right stored further pushed =
    let f : Set → Cells → ChipState = λ set c. powered (chip_of set c) in
    let kept : kept_locks (machine_of file) cells.table cells.locks.items ≡ kept_in file at = λ i. kept_locks (machine_of file) (stored.table i) (stored.locks i) in
    let locks = locks_len (version_of file) (length (kept_locks (machine_of file) cells.table cells.locks.items)) in
    let long : locks ≡ locks_len (version_of file) (lock_count file at) = ap (λ (ls : List Bool). locks_len (version_of file) (length ls)) kept ∙ kept_len file at in
    let end : next ≡ record_end file at = (let a = stored.weak in let b = stored.size in omega arith) in
    let behind = so.behind in
    let near = so.near in
    let few = cells.few_weak in
    let few_kept = kept_few (machine_of file) cells.table cells.locks.items in
    let few_locks = len_few (version_of file) (length (kept_locks (machine_of file) cells.table cells.locks.items)) (length cells.locks.items) few_kept in
    let each_block = cells.locked in
    let few_blocks = stored.few_blocks in
    let small = (chip_size (length cells.bytes.items) cells.sized).1 in
    let chip : (set : Set) → powered (chip_of set cells) ≡ chip_in file set (device_of file) (record_place file n) =
    λ set. stored.chip set ∙ ap (chip_in file set (device_of file)) so.at_is in
    let chips : (set : Set) → AreChips file set (n + 1) (chips_of set more) = λ set.
    subst (λ (xs : List ChipState). AreChips file set (n + 1) xs) (sym (ap (map (f set)) pushed ∙ map-append (f set) lanes (cells ∷ [])))
    (chips_pushed file set n (chips_of set lanes) (powered (chip_of set cells)) (so.chips set) (chip set) stored.same stored.bytes stored.fits) in
    let right' : first_refusal file (record_fields file n (record_place file n)) ≡ None = subst (λ (p : ℕ). first_refusal file (record_fields file n p) ≡ None) so.at_is right in
    record {
      at_is = end ∙ (ap (record_end file) so.at_is ∙ ap (record_place file) (sym (add-one n)));
      behind = omega arith;
      near = omega arith;
      none = ap (λ (k : ℕ). first_refusal file (fields_before file k)) (add-one n)
          ∙ (goes_on file (fields_before file n) (record_fields file n (record_place file n)) so.none ∙ right');
      kept = ap (kept_of_each (machine_of file)) pushed
          ∙ (map-append (λ (c : Cells). kept_locks (machine_of file) c.table c.locks.items) lanes (cells ∷ [])
          ∙ ((λ i. so.kept i ++ (kept ∙ ap (kept_in file) so.at_is) i ∷ []) ∙ ap (kept_before file) (sym (add-one n))));
      chips = chips;
    }

-- a refusal in the header
in_fields : (file : List ℕ) (n : ℕ) (e : ImageError) → first_refusal file (header_fields file) ≡ Some e → first_refusal file (fields_before file n) ≡ Some e
in_fields file zero e h = h
in_fields file (suc n) e h = stops file (fields_before file n) (record_fields file n (record_place file n)) e (in_fields file n e h)

-- and so of the file
pub header_stops : (file : List ℕ) (e : ImageError) → first_refusal file (header_fields file) ≡ Some e → image_refusal file ≡ Some e
unfolding image_refusal
header_stops file e h = or_some _ _ e (in_fields file (lanes_of_file file) e h)

-- a refusal in a record
pub lane_stops : (file : List ℕ) (n at : ℕ) (lanes : List Cells) (e : ImageError) → LanesSoFar file n at lanes → n < lanes_of_file file
    → first_refusal file (record_fields file n at) ≡ Some e → image_refusal file ≡ Some e
unfolding image_refusal
lane_stops file n at lanes e so below refused =
    or_some _ _ e (stays file (fields_before file) (λ k. record_fields file k (record_place file k)) (λ k. refl) e n (lanes_of_file file) below so.none
    (subst (λ (p : ℕ). first_refusal file (record_fields file n p) ≡ Some e) so.at_is refused))

-- bytes behind the last record
pub trailing_stops : (file : List ℕ) (n at : ℕ) (lanes : List Cells) → LanesSoFar file n at lanes → n ≡ lanes_of_file file
    → at < length file → image_refusal file ≡ Some (Trailing at)
unfolding image_refusal
trailing_stops file n at lanes so all further =
    let last : at ≡ record_place file (lanes_of_file file) = so.at_is ∙ ap (record_place file) all in
    or_none _ _ (subst (λ (k : ℕ). first_refusal file (fields_before file k) ≡ None) all so.none)
    ∙ subst (λ (p : ℕ). trailing file p ≡ Some (Trailing at)) last (goes_further file at further)

-- the file ends with the last record
pub nothing_stops : (file : List ℕ) (n at : ℕ) (lanes : List Cells) → LanesSoFar file n at lanes → n ≡ lanes_of_file file
    → length file ≤ at → image_refusal file ≡ None
unfolding image_refusal
nothing_stops file n at lanes so all whole =
    let last : at ≡ record_place file (lanes_of_file file) = so.at_is ∙ ap (record_place file) all in
    or_none _ _ (subst (λ (k : ℕ). first_refusal file (fields_before file k) ≡ None) all so.none)
    ∙ subst (λ (p : ℕ). trailing file p ≡ None) last (ends file at whole)
