-- Bytes of a bank that are printed piece by piece.
use Rattle.std.proofs.Common.{◌≡◌, ◌≤◌, ◌+◌, ◌-◌, ◌∙◌, ℕ, List, [], ◌++◌, Option, Some, None, Result, Ok, Err, refl, sym, ap, subst, arith, append-nil}
use Rattle.hex.specs.Hex.{encode_lower}
use Rattle.nor_cell.specs.Chip.{ChipState}
use Rattle.nor_cell.specs.declared.device.Device.{Device}
use Rattle.nor_bus.specs.Bus.{BusState, IsBank, units_of, bank_bytes}
use Rattle.nor_io.specs.Files.{SinkState, Appends}
use Rattle.nor_io.specs.declared.sink.SinkError.{SinkError}
use Rattle.norbank.specs.Open.{IsOpen}
use Rattle.nor_io.specs.Puts.{PutsText}
use Rattle.nor_io.proofs.Putting.{puts_then, puts_stop, encode-nil}
use Rattle.norbank.proofs.BankBytes.{encode-add}

-- The text of the bytes so far has been put.
pub record PrintedTo (width at len done : ℕ) (old now : BusState) (before after : SinkState) : Type 0 where
  pub within : done ≤ len
  pub same : now.lanes ≡ old.lanes
  pub open_now : IsOpen now
  pub units : units_of now ≡ units_of old
  pub text : (device : Device) → IsBank width device old.lanes → Appends before.taken (encode_lower (bank_bytes device old.lanes at done)) after.taken
  pub later : before.faults ≤ after.faults

nothing : (before : Option (List ℕ)) → Appends before (encode_lower []) before
nothing None = refl
nothing (Some b) = rw encode-nil (ap (λ (r : List ℕ). Some r) (sym (append-nil b)))

pub printed_none : (width at len : ℕ) (bus : BusState) (out : SinkState) → IsOpen bus → PrintedTo width at len 0 bus bus out out
printed_none width at len bus out is = record { within = omega arith; same = refl; open_now = is; units = refl; text = λ device bank. nothing out.taken; later = omega arith }

-- a piece behind what was printed
piece_after : (device : Device) (width at done count : ℕ) (old now : BusState) (a b c : SinkState) (r : Result (Unit {0}) SinkError)
    → now.lanes ≡ old.lanes → IsBank width device old.lanes → Appends a.taken (encode_lower (bank_bytes device old.lanes at done)) b.taken → a.faults ≤ b.faults
    → ((d : Device) → IsBank width d now.lanes → PutsText (encode_lower (bank_bytes d now.lanes (at + done) count)) b c r)
    → PutsText (encode_lower (bank_bytes device old.lanes at (done + count))) a c r
piece_after device width at done count old now a b c r same bank so_far le puts =
    let bank_now : IsBank width device now.lanes = subst (λ (ls : List ChipState). IsBank width device ls) (sym same) bank in
    let here : PutsText (encode_lower (bank_bytes device old.lanes (at + done) count)) b c r =
    subst (λ (ls : List ChipState). PutsText (encode_lower (bank_bytes device ls (at + done) count)) b c r) same (puts device bank_now) in
    subst (λ (t : List ℕ). PutsText t a c r) (sym (encode-add device old.lanes at done count))
    (puts_then (encode_lower (bank_bytes device old.lanes at done)) (encode_lower (bank_bytes device old.lanes (at + done) count)) a b c r so_far le here)

pub printed_more : (width at len done count : ℕ) (old now new : BusState) (a b c : SinkState) (u : Unit {0})
    → PrintedTo width at len done old now a b → done + count ≤ len → new.lanes ≡ now.lanes → IsOpen new → units_of new ≡ units_of now → b.faults ≤ c.faults
    → ((d : Device) → IsBank width d now.lanes → PutsText (encode_lower (bank_bytes d now.lanes (at + done) count)) b c (Ok u))
    → PrintedTo width at len (done + count) old new a c
printed_more width at len done count old now new a b c u so within same is_open units le puts = record {
  within = within;
  same = same ∙ so.same;
  open_now = is_open;
  units = units ∙ so.units;
  text = λ device bank. piece_after device width at done count old now a b c (Ok u) so.same bank (so.text device bank) so.later puts;
  later = let x = so.later in omega arith;
}

pub printed_stop : (width at len done count : ℕ) (old now : BusState) (a b c : SinkState) (e : SinkError)
    → PrintedTo width at len done old now a b → done + count ≤ len
    → ((d : Device) → IsBank width d now.lanes → PutsText (encode_lower (bank_bytes d now.lanes (at + done) count)) b c (Err e))
    → (device : Device) → IsBank width device old.lanes → PutsText (encode_lower (bank_bytes device old.lanes at len)) a c (Err e)
printed_stop width at len done count old now a b c e so within puts device bank =
    let front = piece_after device width at done count old now a b c (Err e) so.same bank (so.text device bank) so.later puts in
    let whole : done + count + (len - (done + count)) ≡ len = omega arith in
    let all : encode_lower (bank_bytes device old.lanes at len) ≡ encode_lower (bank_bytes device old.lanes at (done + count)) ++ encode_lower (bank_bytes device old.lanes (at + (done + count)) (len - (done + count))) =
    ap (λ (n : ℕ). encode_lower (bank_bytes device old.lanes at n)) (sym whole) ∙ encode-add device old.lanes at (done + count) (len - (done + count)) in
    subst (λ (t : List ℕ). PutsText t a c (Err e)) (sym all)
    (puts_stop (encode_lower (bank_bytes device old.lanes at (done + count))) (encode_lower (bank_bytes device old.lanes (at + (done + count)) (len - (done + count)))) a c e front)
