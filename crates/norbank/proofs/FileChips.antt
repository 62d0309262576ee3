-- The chips of a file, and what the shelf tells of files.
use Rattle.std.proofs.Common.{◌≡◌, ◌≢◌, ◌<◌, ◌+◌, ◌^◌, ◌∙◌, ◌⊎◌, inl, inr, ℕ, zero, suc, List, [], ◌∷◌, ◌++◌, length, refl, sym, ap, subst, arith, Option, Some, None, IsSomeAnd}
use Rattle.std.proofs.lemmas.Bool.{cases_eq}
use Rattle.nor_cell.specs.Chip.{ChipState}
use Rattle.nor_bus.specs.Bus.{BusState, chip_at}
use Rattle.nor_bus.proofs.Words.{same_chips}
use Rattle.nor_image.specs.Image.{width_of, lanes_of_file, chip_of_lane, IsImageOf}
use Rattle.nor_image.specs.Loaded.{IsFreshBus}
use Rattle.nor_io.specs.Files.{FileMap, HasFile, IsAbsent, IsTooLarge}
use Rattle.norbank.specs.Does.{IsFound, fresh_bus}
use Rattle.norbank.specs.Stops.{chips_before, chips_of_file}

-- ---- the chips of a file

snoc_length : (xs : List ChipState) (y : ChipState) → length (xs ++ y ∷ []) ≡ length xs + 1
snoc_length [] y = refl
snoc_length (x ∷ xs) y = let e = snoc_length xs y in omega arith

snoc_last : (xs : List ChipState) (y : ChipState) (c : ℕ) → c ≡ length xs → chip_at (xs ++ y ∷ []) c ≡ y
snoc_last [] y zero is = refl
snoc_last [] y (suc c) is = absurd (omega arith)
snoc_last (x ∷ xs) y zero is = absurd (omega arith)
snoc_last (x ∷ xs) y (suc c) is = snoc_last xs y c (omega arith)

snoc_front : (xs : List ChipState) (y : ChipState) (c : ℕ) → c < length xs → chip_at (xs ++ y ∷ []) c ≡ chip_at xs c
snoc_front [] y c below = absurd (omega arith)
snoc_front (x ∷ xs) y zero below = refl
snoc_front (x ∷ xs) y (suc c) below = snoc_front xs y c (omega arith)

pub chips_length : (file : List ℕ) (n : ℕ) → length (chips_before file n) ≡ n
chips_length file zero = refl
chips_length file (suc n) =
    let e = chips_length file n in
    let f = snoc_length (chips_before file n) (chip_of_lane file n) in
    omega arith

-- one chip more
chip_more : (file : List ℕ) (n c : ℕ) → c < n + 1 → (c < n → chip_at (chips_before file n) c ≡ chip_of_lane file c) → (c ≡ n) ⊎ (c ≢ n)
    → chip_at (chips_before file n ++ chip_of_lane file n ∷ []) c ≡ chip_of_lane file c
chip_more file n c below front (inl e) =
    let size = chips_length file n in
    snoc_last (chips_before file n) (chip_of_lane file n) c (omega arith) ∙ ap (λ (k : ℕ). chip_of_lane file k) (sym e)
chip_more file n c below front (inr ne) =
    let size = chips_length file n in
    snoc_front (chips_before file n) (chip_of_lane file n) c (omega arith) ∙ front (omega arith)

pub chip_there : (file : List ℕ) (n c : ℕ) → c < n → chip_at (chips_before file n) c ≡ chip_of_lane file c
chip_there file zero c below = absurd (omega arith)
chip_there file (suc n) c below = chip_more file n c (omega arith) (λ less. chip_there file n c less) (cases_eq c n)

-- the chips that a file stands for are those that are named here
pub chips_are : (file : List ℕ) (width : ℕ) (chips : List ChipState) → IsImageOf file width chips → chips ≡ chips_of_file file
chips_are file width chips image =
    let n = lanes_of_file file in
    let size : length chips ≡ length (chips_of_file file) = image.count ∙ sym (chips_length file n) in
    same_chips (chips_of_file file) chips size (λ c below. let there : c < n = let e = chips_length file n in omega arith in
    image.each c (omega (arith, image.count)) ∙ sym (chip_there file n c there))

-- what holds of the chips that were loaded holds of the file's
pub at_file : (P : ℕ → List ChipState → Type 0) (file : List ℕ) (width : ℕ) (chips : List ChipState) → IsImageOf file width chips → P width chips → P (width_of file) (chips_of_file file)
at_file P file width chips image p =
    subst (λ (w : ℕ). P w (chips_of_file file)) (sym image.bus) (subst (λ (cs : List ChipState). P width cs) (chips_are file width chips image) p)

-- the bus that was loaded
pub fresh_as : (bus : BusState) (chips : List ChipState) → IsFreshBus bus → bus.lanes ≡ chips → bus ≡ fresh_bus chips
fresh_as bus chips fresh is = λ i. record { lanes = is i; power = fresh.power i; armed = fresh.armed i; cycles = fresh.cycles i; failed = fresh.failed i }

-- ---- what the shelf tells

pub found_file : (told : Option FileMap) (name file : List ℕ) → HasFile told name file → IsFound told name (Some file)
found_file None name file has = tt
found_file (Some files) name file has = has

pub found_none : (told : Option FileMap) (name : List ℕ) → IsAbsent told name → IsFound told name None
found_none None name has = tt
found_none (Some files) name has = has

-- whatever it tells
pub found_any : (told : Option FileMap) (name : List ℕ) → (found : Option (List ℕ)) × IsFound told name found
found_any None name = (None, tt)
found_any (Some files) name = (files name, refl)

-- a list that is so long
pub long_list : (n : ℕ) → (xs : List ℕ) × (length xs ≡ n)
long_list zero = ([], refl)
long_list (suc n) = let xs = long_list n in (0 ∷ xs.0, ap suc xs.1)

pub record IsLarge (told : Option FileMap) (name : List ℕ) : Type 0 where
  pub file : List ℕ
  pub is_found : IsFound told name (Some file)
  pub large : 2 ^ 30 < length file

large_of : (files : FileMap) (name : List ℕ) (found : Option (List ℕ)) → files name ≡ found → IsSomeAnd found (λ bytes. 2 ^ 30 < length bytes) → IsLarge (Some files) name
large_of files name None is large = absurd large
large_of files name (Some file) is large = record { file = file; is_found = is; large = large }

pub found_large : (told : Option FileMap) (name : List ℕ) → IsTooLarge told name → IsLarge told name
found_large None name large = let xs = long_list (2 ^ 30 + 1) in record { file = xs.0; is_found = tt; large = let e = xs.1 in omega arith }
found_large (Some files) name large = large_of files name (files name) refl large
