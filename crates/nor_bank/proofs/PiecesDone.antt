-- Bus words that waited and were programmed at once: what becomes of the bank's bytes.
use Rattle.std.proofs.Common.{◌≡◌, ◌<◌, ◌≤◌, ◌+◌, ◌-◌, ◌*◌, ◌/◌, ◌%◌, inl, inr, ℕ, List, [], length, get_or, slice_index, refl, sym, ap, subst, ◌∙◌, arith, bit_and, Bool, false, not, ◌==◌, is_some}
use Rattle.std.proofs.lemmas.Bool.{cases_lt}
use Rattle.std.proofs.lemmas.Nat.{div-mul-add, div-add-mod'}
use Rattle.std.proofs.Math.Nat.{mul-le-mul_right, lt_of_mul-lt-mul_right, mod-lt}
use Rattle.nor_cell.specs.Bits.{IsBetween, unit_len, has_bit}
use Rattle.nor_cell.specs.Chip.{ChipState, place, holds_at}
use Rattle.nor_cell.specs.Look.{break_of, would_change}
use Rattle.nor_cell.specs.declared.device.Device.{Device}
use Rattle.nor_cell.specs.declared.device.Set.{Set}
use Rattle.nor_cell.specs.declared.geometry.Geometry.{Geometry}
use Rattle.nor_probe.specs.declared.probing.Found.{Found}
use Rattle.nor_bus.specs.Bus.{BusState, lane, lanes_of, bank_byte, wide}
use Rattle.nor_bus.specs.Cycles.{KeepsLanes}
use Rattle.nor_bus.specs.Driven.{AllLanes, EachLane}
use Rattle.nor_poll.specs.Buffer.{load_of}
use Rattle.nor_poll.specs.Losing.{Tears, Loses}
use Rattle.nor_poll.specs.Word.{ProgramDone}
use Rattle.nor_poll.specs.Words.{breaks}
use Rattle.nor_poll.proofs.Between.{kept_between}
use Rattle.nor_bank.specs.Pieces.{CanProgramAll, Wait}
use Rattle.nor_bank.specs.Programs.{ByteEnds, HasWeakUnits, Lasts, Leaves, ProgramsPiece, changes_of, datum_at, is_of, lane_breaks}
use Rattle.nor_bank.specs.Ranges.{IsShowing}
use Rattle.nor_bank.proofs.Anding.{and_again, between_and, ends_and}
use Rattle.nor_bank.proofs.Breaking.{changes_datum}
use Rattle.nor_bank.proofs.OneWord.{byte_small, lane_byte, lane_in_word, own_units, own_wide}
use Rattle.nor_bank.proofs.PiecesBreaking.{units_breaking}
use Rattle.nor_bank.proofs.PiecesLoad.{AllBytes, UnitsTo, WordsTo, length-load_of, load_byte, units_of_load, words_to}
use Rattle.nor_bank.proofs.Storing.{ends_at, lasts_ended, lasts_unmoved, none_erasing}

-- ---- one chip

-- each unit holds old AND its part of the word, or bits between where it broke off
units_done : (kind : Set) (u c : ℕ) (words : List (List ℕ)) (s t : ChipState) → AllBytes words → ProgramDone kind (place s.part u) (load_of s.part.device c words) s t
    → UnitsTo (wide s) u (length words) (λ p. Unit {0})
    (λ i k x y. ByteEnds (breaks (place s.part u) (load_of s.part.device c words) s) x (slice_index (get_or words i []) (c * wide s + k)) y) s.cells t.cells
units_done kind u c words s t small done =
    let p = place s.part u in
    let bytes = load_of s.part.device c words in
    let found = break_of (wide s) s.part.weak p bytes s.cells in
    let stored = done.cells in
    units_of_load s.part.device (λ q. Unit {0}) (λ x d y. ByteEnds (is_some found) x d y) u c words s.cells t.cells small (λ q there. stored.below q) (λ q there. stored.above q)
    (λ q there low high. ends_at found (wide s) (p + length bytes) q (slice_index s.cells q) (slice_index bytes (q - p)) (slice_index t.cells q) high (stored.inside q low high))

-- what is said of each byte of the units in other words
units_so : (d u n : ℕ) (At : ℕ → Type 0) (P Q : ℕ → ℕ → ℕ → ℕ → Type 0) (old new : List ℕ) → ((i k x y : ℕ) → k < d → P i k x y → Q i k x y) → UnitsTo d u n At P old new → UnitsTo d u n At Q old new
units_so d u n At P Q old new so units = record { below = units.below; above = units.above; inside = λ i k less in_unit there. so i k _ _ in_unit (units.inside i k less in_unit there) }

-- each unit holds bits between
units_torn : (u c : ℕ) (words : List (List ℕ)) (s t : ChipState) → AllBytes words → Tears (place s.part u) (load_of s.part.device c words) s t
    → UnitsTo (wide s) u (length words) (λ p. holds_at s.held s.part.blocks p ≡ false) (λ i k x y. IsBetween x (slice_index (get_or words i []) (c * wide s + k)) y) s.cells t.cells
units_torn u c words s t small torn =
    units_of_load s.part.device (λ p. holds_at s.held s.part.blocks p ≡ false) IsBetween u c words s.cells t.cells small
    (λ p there. torn.below p refl) (λ p there. torn.above p refl) (λ p there. torn.inside p refl)

units_lost : (u c : ℕ) (words : List (List ℕ)) (s t : ChipState) → AllBytes words → IsShowing s → Loses (place s.part u) (load_of s.part.device c words) s t
    → UnitsTo (wide s) u (length words) (λ p. holds_at s.held s.part.blocks p ≡ false) (λ i k x y. IsBetween x (slice_index (get_or words i []) (c * wide s + k)) y) s.cells t.cells
units_lost u c words s t small is lost =
    units_of_load s.part.device (λ p. holds_at s.held s.part.blocks p ≡ false) IsBetween u c words s.cells t.cells small
    (λ p there low. lost.below p (none_erasing s p is there) low) (λ p there high. lost.above p (none_erasing s p is there) high)
    (λ p there low high. lost.inside p (none_erasing s p is there) low high)

-- ---- the bank

module _ (w : ℕ) (f : Found) (at u : ℕ) (new : List ℕ) (words : List (List ℕ)) (old now : BusState)
    (can : CanProgramAll w f at (length new) old) (wait : Wait w f at new u (length words) words old) (some : 0 < w) (more : 0 < length words)
    (small : AllBytes words) (kept : KeepsLanes old now) where
  abbrev g : Geometry
  g = f.geometry

  abbrev d : ℕ
  d = unit_len g.device

  abbrev n : ℕ
  n = length words

  abbrev byte_at : ℕ → ℕ
  byte_at a = bank_byte g.device old.lanes a

  -- a byte of one of the words, as it is to be
  new_byte : (i a : ℕ) → i < n → (u + i) * w ≤ a → a < (u + i) * w + w → slice_index (get_or words i []) (a - (u + i) * w) ≡ bit_and (byte_at a) (datum_at at new a)
  new_byte i a there low high =
      let j = a - (u + i) * w in
      let here : (u + i) * w + j ≡ a = omega (arith, low) in
      wait.each i there j (omega (arith, low, high)) ∙ ap (λ (m : ℕ). bit_and (byte_at m) (datum_at at new m)) here

  -- the word of a byte of the piece
  record InPiece (a : ℕ) : Type 0 where
    number : ℕ
    there : number < n
    low : (u + number) * w ≤ a
    high : a < (u + number) * w + w

  in_piece : (a : ℕ) → u * w ≤ a → a < (u + n) * w → InPiece a
  in_piece a from to =
      let v = a / w in
      let whole = div-add-mod' a w in
      let less : a % w < w = mod-lt a some in
      let order : u < v + 1 = lt_of_mul-lt-mul_right w (let h : u * w < (v + 1) * w = omega (arith, whole, less, from) in h) in
      let end : v < u + n = lt_of_mul-lt-mul_right w (let h : v * w < (u + n) * w = omega (arith, whole, to) in h) in
      let is : u + (v - u) ≡ v = omega (arith, order) in
      let row : (u + (v - u)) * w ≡ v * w = ap (λ (m : ℕ). m * w) is in
      record { number = v - u; there = omega (arith, order, end); low = omega (arith, row, whole); high = omega (arith, row, whole, less) }

  -- a lane breaks off where a weak unit of it would change
  lane_told : (c : ℕ) → c < lanes_of old → AllLanes HasWeakUnits old
      → breaks (place (lane old c).part u) (load_of (lane old c).part.device c words) (lane old c) ≡ lane_breaks g (changes_of g old at new) (u * w) ((u + n) * w) c (lane old c)
  lane_told c below units =
      let s = lane old c in
      let own = can.words.own in
      let test = changes_of g old at new in
      let lanes = own_wide w g old own in
      let low : c < g.lanes = subst (λ (m : ℕ). c < m) own.count below in
      let fits = mul-le-mul_right d (let h : c + 1 ≤ g.lanes = omega (arith, low) in h) in
      let bytes = load_of g.device c words in
      let byte : (i k : ℕ) → i < n → k < d → would_change (slice_index s.cells ((u + i) * d + k)) (slice_index bytes (i * d + k)) ≡ test ((u + i) * (g.lanes * d) + c * d + k) =
      λ i k there less.
      let a = (u + i) * w + c * d + k in
      let x = byte_at a in
      let back : a - (u + i) * w ≡ c * d + k = omega arith in
      let datum : slice_index bytes (i * d + k) ≡ bit_and x (datum_at at new a) =
      load_byte g.device c words i k small there less
      ∙ (ap (λ (m : ℕ). slice_index (get_or words i []) m) (sym back) ∙ new_byte i a there (omega arith) (omega (arith, fits, lanes, less))) in
      let cell : byte_at a ≡ slice_index s.cells ((u + i) * d + k) =
      lane_byte w g (u + i) c k old own below less ∙ ap (λ (m : ℕ). slice_index s.cells m) (let h : d * (u + i) + k ≡ (u + i) * d + k = omega arith in h) in
      ap (λ (m : ℕ). would_change m (slice_index bytes (i * d + k))) (sym cell)
      ∙ (ap (λ (m : ℕ). would_change x m) datum
      ∙ (ap (λ (m : ℕ). not (m == x)) (and_again x (datum_at at new a))
      ∙ (changes_datum (bank_byte g.device old.lanes) at new a (byte_small w g.device old a own.bank can.words.chips)
      ∙ ap (λ (m : ℕ). test ((u + i) * m + c * d + k)) (sym lanes)))) in
      let whole = units_breaking g u n c test s.cells bytes low (length-load_of g.device c words) byte s.part.weak (own_units w g old c own units below) in
      let here = subst (λ (m : ℕ). is_some (break_of d s.part.weak (d * u) bytes s.cells) ≡ lane_breaks g test (u * m) ((u + n) * m) c s) lanes whole in
      subst (λ (x : Device). is_some (break_of (unit_len x) s.part.weak (unit_len x * u) (load_of x c words) s.cells) ≡ lane_breaks g test (u * w) ((u + n) * w) c s)
      (sym (own.bank.devices c below)) here

  pub piece_done : (kind : Set) (bits : ℕ) → ((c : ℕ) → c < lanes_of old → ProgramDone kind (place (lane old c).part u) (load_of (lane old c).part.device c words) (lane old c) (lane now c))
      → ((c : ℕ) → c < lanes_of old → has_bit bits c ≡ breaks (place (lane old c).part u) (load_of (lane old c).part.device c words) (lane old c))
      → ((c : ℕ) → g.lanes ≤ c → has_bit bits c ≡ false)
      → ProgramsPiece g bits at new (u * w) ((u + n) * w) old now
  piece_done kind bits done told past =
      let own = can.words.own in
      let lane_done = λ (c : ℕ) (below : c < lanes_of old). lasts_ended kind (place (lane old c).part u) (load_of (lane old c).part.device c words) (lane old c) (lane now c) (can.words.chips c below) (kept.each c below) (done c below) in
      let to = words_to w g.device u n (λ c p. Unit {0}) (λ i j x y. ByteEnds (has_bit bits (j / d)) x (slice_index (get_or words i []) j) y) old.lanes now.lanes own.bank some more kept.count
      (λ c below.
      let s = lane old c in
      let bytes = load_of s.part.device c words in
      let device_is : wide s ≡ d = ap unit_len (own.bank.devices c below) in
      units_so (wide s) u n (λ p. Unit {0})
      (λ i k x y. ByteEnds (breaks (place s.part u) bytes s) x (slice_index (get_or words i []) (c * wide s + k)) y)
      (λ i k x y. ByteEnds (has_bit bits ((c * wide s + k) / d)) x (slice_index (get_or words i []) (c * wide s + k)) y)
      s.cells (lane now c).cells
      (λ i k x y less is.
      let back : (c * wide s + k) / d ≡ c = ap (λ (m : ℕ). (c * m + k) / d) device_is ∙ div-mul-add c d k (subst (λ (m : ℕ). k < m) device_is less) in
      subst (λ (b : Bool). ByteEnds b x (slice_index (get_or words i []) (c * wide s + k)) y) (sym (told c below) ∙ ap (λ (m : ℕ). has_bit bits m) (sym back)) is)
      (units_done kind u c words s (lane now c) small (done c below))) in
      record {
        lasts = λ c below. (lane_done c below).0;
        shown = λ c below. (lane_done c (subst (λ (m : ℕ). c < m) kept.count below)).1;
        done = λ a low high.
            let here = in_piece a low high in
            let i = here.number in
            let y = bank_byte g.device now.lanes a in
            ends_and (is_of g bits a) (byte_at a) (datum_at at new a) y
            (subst (λ (m : ℕ). ByteEnds (has_bit bits m) (byte_at a) (bit_and (byte_at a) (datum_at at new a)) y) (lane_in_word w g (u + i) a old own here.low here.high)
            (subst (λ (m : ℕ). ByteEnds (has_bit bits ((a - (u + i) * w) / d)) (byte_at a) m y) (new_byte i a here.there here.low here.high) (to.inside i a here.there tt here.low here.high)));
        below = λ a. to.below a tt;
        above = λ a. to.above a tt;
        named = λ units. record {
          each = λ c low.
              let below : c < lanes_of old = subst (λ (m : ℕ). c < m) (sym own.count) low in
              told c below ∙ lane_told c below units;
          past = past;
        };
      }

  -- ---- a piece that was given up

  -- a place of a chip outside the block of which it holds an erase
  abbrev beside_in : ℕ → ℕ → Type 0
  beside_in c p = holds_at (lane old c).held (lane old c).part.blocks p ≡ false

  leaves_of : EachLane Lasts old now → WordsTo w g.device u n beside_in (λ i j x y. IsBetween x (slice_index (get_or words i []) j) y) old.lanes now.lanes → Leaves g.device at new old now
  leaves_of lasts to =
      let same : (a : ℕ) → bank_byte g.device now.lanes a ≡ byte_at a → IsBetween (byte_at a) (datum_at at new a) (bank_byte g.device now.lanes a) =
      λ a is. subst (λ (y : ℕ). IsBetween (byte_at a) (datum_at at new a) y) (sym is) (kept_between (byte_at a) (datum_at at new a)) in
      record {
        lasts = lasts;
        between = λ a beside. elim (cases_lt a (u * w)) [
          | inl low ↦ same a (to.below a beside low)
          | inr begins ↦ elim (cases_lt a ((u + n) * w)) [
            | inl ends ↦
                let here = in_piece a begins ends in
                let i = here.number in
                between_and (byte_at a) (datum_at at new a) (bank_byte g.device now.lanes a)
                (subst (λ (x : ℕ). IsBetween (byte_at a) x (bank_byte g.device now.lanes a)) (new_byte i a here.there here.low here.high) (to.inside i a here.there beside here.low here.high))
            | inr high ↦ same a (to.above a beside high)
          ]
        ];
      }

  pub piece_torn : ((c : ℕ) → c < lanes_of old → Tears (place (lane old c).part u) (load_of (lane old c).part.device c words) (lane old c) (lane now c)) → Leaves g.device at new old now
  piece_torn torn =
      leaves_of (λ c below. lasts_unmoved (lane old c) (lane now c) (can.words.chips c below) (kept.each c below) (torn c below).keeps)
      (words_to w g.device u n beside_in (λ i j x y. IsBetween x (slice_index (get_or words i []) j) y) old.lanes now.lanes can.words.own.bank some more kept.count
      (λ c below. units_torn u c words (lane old c) (lane now c) small (torn c below)))

  pub piece_lost : ((c : ℕ) → c < lanes_of old → Loses (place (lane old c).part u) (load_of (lane old c).part.device c words) (lane old c) (lane now c)) → Leaves g.device at new old now
  piece_lost lost =
      leaves_of (λ c below. lasts_unmoved (lane old c) (lane now c) (can.words.chips c below) (kept.each c below) (lost c below).keeps)
      (words_to w g.device u n beside_in (λ i j x y. IsBetween x (slice_index (get_or words i []) j) y) old.lanes now.lanes can.words.own.bank some more kept.count
      (λ c below. units_lost u c words (lane old c) (lane now c) small (can.words.chips c below) (lost c below)))
