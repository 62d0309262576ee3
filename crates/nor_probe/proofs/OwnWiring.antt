-- Chips that are what their tables say answer to their own wiring first, and show their tables in it.
use Rattle.std.proofs.Common.{◌≡◌, ◌≢◌, ◌<◌, ◌≤◌, ◌*◌, ◌/◌, ◌==◌, ◌&&◌, ◌||◌, ◌⊎◌, inl, inr, ◌∙◌, ◌∷◌, [], ℕ, List, length, slice_index, Bool, true, false, cond, nat_le, nat_lt, if◌then◌else◌, Some, None, IsTrue, refl, sym, ap, subst, arith}
use Rattle.std.specs.List.{find}
use Rattle.nor_cell.specs.Bits.{unit_len, AreBytes}
use Rattle.nor_cell.specs.Chip.{ChipState, Part}
use Rattle.nor_cell.specs.Shown.{query_at, register}
use Rattle.nor_cell.specs.Wiring.{is_wiring}
use Rattle.nor_cell.specs.declared.device.Device.{Device}
use Rattle.nor_cell.specs.declared.device.Device.TheVariants.{X8, X16, X16Byte}
use Rattle.nor_cell.specs.declared.geometry.Geometry.{Geometry}
use Rattle.nor_word.specs.Word.{lane_of}
use Rattle.nor_bus.specs.Bus.{chip_at}
use Rattle.nor_bus.specs.Words.{query_word}
use Rattle.nor_lane.specs.Candidates.{wiring, candidates_of}
use Rattle.nor_probe.specs.Found.{query_address, shows_at, shows_qry, found_geometry}
use Rattle.nor_probe.specs.WellWired.{HasQry}
use Rattle.nor_probe.proofs.Lanes.{said, second_byte, all_read, one_hides}
use Rattle.nor_cell.proofs.Logic.{all_three}

-- ---- what a chip says where its own wiring reads its table

pub nothing_at : (device : Device) (part : Part) (n : ℕ) → part.device ≡ device → n < 0x10 → query_at part (query_address device n) ≡ 0
nothing_at X8 part n is below = grind (arith, is, below)
nothing_at X16 part n is below = grind (arith, is, below)
nothing_at X16Byte part n is below =
    let half : 2 * n / 2 ≡ n = omega arith in
    grind (arith, is, below, half)

pub table_at : (device : Device) (part : Part) (n : ℕ) → part.device ≡ device → 0x10 ≤ n → n < 0x200 → query_at part (query_address device n) ≡ slice_index part.table n
table_at X8 part n is above below = grind (arith, is, above, below)
table_at X16 part n is above below = grind (arith, is, above, below)
table_at X16Byte part n is above below =
    let half : 2 * n / 2 ≡ n = omega arith in
    grind (arith, is, above, below, half)

-- Chips of one device, whose tables are bytes and begin with `QRY`.
pub record ShowQry (device : Device) (chips : List ChipState) : Type 0 where
  pub devices : (c : ℕ) → c < length chips → (chip_at chips c).part.device ≡ device
  pub tables : (c : ℕ) → c < length chips → HasQry (chip_at chips c).part.table
  pub bytes : (c : ℕ) → c < length chips → AreBytes (chip_at chips c).part.table

query_small : (part : Part) (u : ℕ) → AreBytes part.table → query_at part u < 256
query_small part u bytes = by_range (nat_le 0x10 (register part.device u) && nat_lt (register part.device u) 0x200)
  where
    by_range : (there : Bool) → (if there then slice_index part.table (register part.device u) else 0) < 256
    by_range true = bytes (register part.device u)
    by_range false = omega arith

-- lane c reads what chip c says, at any address
pub lane_says : (device : Device) (chips : List ChipState) (u c : ℕ) → ShowQry device chips → c < length chips
    → lane_of (unit_len device) (query_word chips u) c ≡ query_at (chip_at chips c).part u
lane_says device chips u c show below =
    said device (λ s. query_at s.part u) chips c show.devices (λ k less. query_small (chip_at chips k).part u (show.bytes k less)) below

-- ---- the own wiring shows `QRY`

letter_own : (device : Device) (chips : List ChipState) (n v : ℕ) → ShowQry device chips → 0x10 ≤ n → n < 0x200
    → ((c : ℕ) → c < length chips → slice_index (chip_at chips c).part.table n ≡ v) → shows_at (wiring (length chips) device) chips n v ≡ true
letter_own device chips n v show above below letters =
    all_read (unit_len device) (length chips) v (query_word chips (query_address device n))
    (λ c less. lane_says device chips (query_address device n) c show less ∙ (table_at device (chip_at chips c).part n (show.devices c less) above below ∙ letters c less))

own_shows : (device : Device) (chips : List ChipState) → ShowQry device chips → shows_qry (wiring (length chips) device) chips ≡ true
own_shows device chips show =
    let g = wiring (length chips) device in
    all_three (shows_at g chips 0x10 0x51) (shows_at g chips 0x11 0x52) (shows_at g chips 0x12 0x59)
    (letter_own device chips 0x10 0x51 show (omega arith) (omega arith) (λ c less. (show.tables c less).q))
    (letter_own device chips 0x11 0x52 show (omega arith) (omega arith) (λ c less. (show.tables c less).r))
    (letter_own device chips 0x12 0x59 show (omega arith) (omega arith) (λ c less. (show.tables c less).y))

-- ---- no wiring before it does

no_q : (g : Geometry) (chips : List ChipState) → shows_at g chips 0x10 0x51 ≡ false → shows_qry g chips ≡ false
no_q g chips hidden = ap (λ (b : Bool). b && shows_at g chips 0x11 0x52 && shows_at g chips 0x12 0x59) hidden

not_q : (v : ℕ) → v ≡ 0 → v ≢ 0x51
not_q v none = λ is. omega (arith, none, is)

-- In byte mode a chip shows nothing where a byte-wide one shows `Q`.
byte_hides : (chips : List ChipState) → ShowQry X16Byte chips → 0 < length chips → shows_qry (wiring (length chips) X8) chips ≡ false
byte_hides chips show some =
    let device : (chip_at chips 0).part.device ≡ X16Byte = show.devices 0 some in
    let none : query_at (chip_at chips 0).part 0x10 ≡ 0 = ap (λ (d : Device). query_at (record (chip_at chips 0).part { device = d }) 0x10) device in
    let reads : lane_of 1 (query_word chips 0x10) 0 ≡ 0 = lane_says X16Byte chips 0x10 0 show some ∙ none in
    no_q (wiring (length chips) X8) chips (one_hides 1 (length chips) 0x51 (query_word chips 0x10) 0 some (not_q (lane_of 1 (query_word chips 0x10) 0) reads))

-- The high byte of a sixteen bit chip is 0, where byte-wide lanes would show `Q`.
half_hides : (device : Device) (lanes : ℕ) (chips : List ChipState) → unit_len device ≡ 1 → ShowQry X16 chips → 0 < length chips → 1 < lanes → shows_qry (wiring lanes device) chips ≡ false
half_hides device lanes chips one show some several =
    let u = query_address device 0x10 in
    let high : slice_index (query_word chips u) 1 ≡ 0 =
    second_byte (λ s. query_at s.part u) chips (show.devices 0 some) some (query_small (chip_at chips 0).part u (show.bytes 0 some)) in
    let reads : lane_of (unit_len device) (query_word chips u) 1 ≡ 0 = ap (λ (d : ℕ). lane_of d (query_word chips u) 1) one ∙ high in
    no_q (wiring lanes device) chips (one_hides (unit_len device) lanes 0x51 (query_word chips u) 1 several (not_q (lane_of (unit_len device) (query_word chips u) 1) reads))

-- ---- the first that does

one_two_four : (width lanes d : ℕ) → IsTrue ((lanes == 1 || lanes == 2 || lanes == 4) && (width == lanes * d)) → ((lanes ≡ 1) ⊎ ((lanes ≡ 2) ⊎ (lanes ≡ 4))) × (width ≡ lanes * d)
one_two_four width lanes d is = grind (arith, is)

some_lanes : (lanes : ℕ) → (lanes ≡ 1) ⊎ ((lanes ≡ 2) ⊎ (lanes ≡ 4)) → 0 < lanes
some_lanes lanes (inl e) = omega (arith, e)
some_lanes lanes (inr (inl e)) = omega (arith, e)
some_lanes lanes (inr (inr e)) = omega (arith, e)

first_8 : (p : Geometry → Bool) (n : ℕ) → (n ≡ 1) ⊎ ((n ≡ 2) ⊎ (n ≡ 4)) → p (wiring n X8) ≡ true → find p (candidates_of (n * 1)) ≡ Some (wiring n X8)
first_8 p n (inl e) = subst (λ (m : ℕ). p (wiring m X8) ≡ true → find p (candidates_of (m * 1)) ≡ Some (wiring m X8)) (sym e)
    (λ is. ap (λ (b : Bool). cond b (Some (wiring 1 X8)) (find p (wiring 1 X16Byte ∷ []))) is)
first_8 p n (inr (inl e)) = subst (λ (m : ℕ). p (wiring m X8) ≡ true → find p (candidates_of (m * 1)) ≡ Some (wiring m X8)) (sym e)
    (λ is. ap (λ (b : Bool). cond b (Some (wiring 2 X8)) (find p (wiring 2 X16Byte ∷ wiring 1 X16 ∷ []))) is)
first_8 p n (inr (inr e)) = subst (λ (m : ℕ). p (wiring m X8) ≡ true → find p (candidates_of (m * 1)) ≡ Some (wiring m X8)) (sym e)
    (λ is. ap (λ (b : Bool). cond b (Some (wiring 4 X8)) (find p (wiring 4 X16Byte ∷ wiring 2 X16 ∷ []))) is)

-- the second of a list
second : (p : Geometry → Bool) (x y : Geometry) (rest : List Geometry) → p x ≡ false → p y ≡ true → find p (x ∷ y ∷ rest) ≡ Some y
second p x y rest fails passes = ap (λ (b : Bool). cond b (Some x) (find p (y ∷ rest))) fails ∙ ap (λ (b : Bool). cond b (Some y) (find p rest)) passes

-- the third
third : (p : Geometry → Bool) (x y z : Geometry) → p x ≡ false → p y ≡ false → p z ≡ true → find p (x ∷ y ∷ z ∷ []) ≡ Some z
third p x y z fails too passes = ap (λ (b : Bool). cond b (Some x) (find p (y ∷ z ∷ []))) fails ∙ second p y z [] too passes

first_byte : (p : Geometry → Bool) (n : ℕ) → (n ≡ 1) ⊎ ((n ≡ 2) ⊎ (n ≡ 4)) → p (wiring n X8) ≡ false → p (wiring n X16Byte) ≡ true
    → find p (candidates_of (n * 1)) ≡ Some (wiring n X16Byte)
first_byte p n (inl e) = subst (λ (m : ℕ). p (wiring m X8) ≡ false → p (wiring m X16Byte) ≡ true → find p (candidates_of (m * 1)) ≡ Some (wiring m X16Byte)) (sym e)
    (second p (wiring 1 X8) (wiring 1 X16Byte) [])
first_byte p n (inr (inl e)) = subst (λ (m : ℕ). p (wiring m X8) ≡ false → p (wiring m X16Byte) ≡ true → find p (candidates_of (m * 1)) ≡ Some (wiring m X16Byte)) (sym e)
    (second p (wiring 2 X8) (wiring 2 X16Byte) (wiring 1 X16 ∷ []))
first_byte p n (inr (inr e)) = subst (λ (m : ℕ). p (wiring m X8) ≡ false → p (wiring m X16Byte) ≡ true → find p (candidates_of (m * 1)) ≡ Some (wiring m X16Byte)) (sym e)
    (second p (wiring 4 X8) (wiring 4 X16Byte) (wiring 2 X16 ∷ []))

first_16 : (p : Geometry → Bool) (n : ℕ) → (n ≡ 1) ⊎ ((n ≡ 2) ⊎ (n ≡ 4)) → ((m : ℕ) → 1 < m → p (wiring m X8) ≡ false) → ((m : ℕ) → 1 < m → p (wiring m X16Byte) ≡ false)
    → p (wiring n X16) ≡ true → find p (candidates_of (n * 2)) ≡ Some (wiring n X16)
first_16 p n (inl e) fails too = subst (λ (m : ℕ). p (wiring m X16) ≡ true → find p (candidates_of (m * 2)) ≡ Some (wiring m X16)) (sym e)
    (third p (wiring 2 X8) (wiring 2 X16Byte) (wiring 1 X16) (fails 2 (omega arith)) (too 2 (omega arith)))
first_16 p n (inr (inl e)) fails too = subst (λ (m : ℕ). p (wiring m X16) ≡ true → find p (candidates_of (m * 2)) ≡ Some (wiring m X16)) (sym e)
    (third p (wiring 4 X8) (wiring 4 X16Byte) (wiring 2 X16) (fails 4 (omega arith)) (too 4 (omega arith)))
first_16 p n (inr (inr e)) fails too = subst (λ (m : ℕ). p (wiring m X16) ≡ true → find p (candidates_of (m * 2)) ≡ Some (wiring m X16)) (sym e)
    (λ is. ap (λ (b : Bool). cond b (Some (wiring 4 X16)) None) is)

by_device : (device : Device) (chips : List ChipState) → (length chips ≡ 1) ⊎ ((length chips ≡ 2) ⊎ (length chips ≡ 4)) → ShowQry device chips
    → found_geometry (length chips * unit_len device) chips ≡ Some (wiring (length chips) device)
by_device X8 chips lanes show = first_8 (λ (g : Geometry). shows_qry g chips) (length chips) lanes (own_shows X8 chips show)
by_device X16Byte chips lanes show =
    first_byte (λ (g : Geometry). shows_qry g chips) (length chips) lanes (byte_hides chips show (some_lanes (length chips) lanes)) (own_shows X16Byte chips show)
by_device X16 chips lanes show =
    let some = some_lanes (length chips) lanes in
    first_16 (λ (g : Geometry). shows_qry g chips) (length chips) lanes (λ m several. half_hides X8 m chips refl show some several) (λ m several. half_hides X16Byte m chips refl show some several) (own_shows X16 chips show)

-- Chips whose tables begin with `QRY` answer to their own wiring, and to no earlier one.
pub own_first : (width : ℕ) (device : Device) (chips : List ChipState) → IsTrue (is_wiring width (length chips) device) → ShowQry device chips
    → found_geometry width chips ≡ Some (wiring (length chips) device)
own_first width device chips wired show =
    let so = one_two_four width (length chips) (unit_len device) wired in
    ap (λ (w : ℕ). found_geometry w chips) so.1 ∙ by_device device chips so.0 show
