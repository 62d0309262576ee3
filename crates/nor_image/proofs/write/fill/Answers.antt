use Rattle.std.proofs.Common.{◌≤◌, ◌<◌, ◌+◌, ℕ, List, length, subst, sym, arith}
use Rattle.nor_cell.specs.declared.device.Device.{Device}
use Rattle.nor_cell.specs.declared.device.Set.{Set}
use Rattle.nor_bus.specs.Bus.{IsBank, chip_at}
use Rattle.nor_bus.proofs.Sizes.{chip_size}
use Rattle.nor_image.specs.Written.{header_bytes, bank_set, record_bytes}
use Rattle.nor_image.specs.Writing.{Puts}
use Rattle.nor_image.specs.declared.header.Version.TheVariants.{Two}
use Rattle.nor_image.proofs.Putting.{filled_more, record_fits, puts_all}
use Rattle.nor_image.proofs.Storing.{file_stands}
use Rattle.nor_image.proofs.write.fill.Goals as goal

pub put_chip-at-requires : goal.put_chip-at-requires
put_chip-at-requires g c =
    let lanes = c.args.bank.now.lanes in
    let below : c.loop-lane.lane < length lanes = omega (arith, c.loop-lane-test.true, c.lanes_of-lanes.ensures.value) in
    let fits = record_fits (bank_set lanes) (header_bytes Two g.W.BusWord.WIDTH (chip_at lanes 0).part.device (length lanes)) lanes
    c.loop-lane.lane c.loop-lane.at (g.C.Chip.state c.chip.result.now) below c.chip.ensures c.loop-lane.invariant.puts.end_is in
    subst (λ (set : Set). c.loop-lane.at + length (record_bytes Two set (g.C.Chip.state c.chip.result.now)) ≤ length c.loop-lane.file) (sym c.bank_set-set.ensures)
    (omega (arith, fits, c.requires, c.loop-lane.invariant.puts.size))

pub loop-lane-init : goal.loop-lane-init
loop-lane-init g c = record {
  puts = subst (λ (bytes : List ℕ). Puts bytes 0 c.args.file.now c.put_header-at.new.file c.put_header-at.result)
      (λ i. header_bytes Two (c.WIDTH.ensures i) (c.device_of.ensures i) (c.lanes_of-lanes.ensures.value i)) c.put_header-at.ensures;
  fields = λ k below. absurd (omega arith);
}

pub loop-lane-preserved : goal.loop-lane-preserved
loop-lane-preserved g c =
    let lanes = c.args.bank.now.lanes in
    let below : c.loop-lane.lane < length lanes = omega (arith, c.loop-lane-test.true, c.lanes_of-lanes.ensures.value) in
    filled_more (bank_set lanes) (header_bytes Two g.W.BusWord.WIDTH (chip_at lanes 0).part.device (length lanes)) lanes
    c.loop-lane.lane (g.C.Chip.state c.chip.result.now) below c.chip.ensures c.loop-lane.invariant
    (subst (λ (set : Set). Puts (record_bytes Two set (g.C.Chip.state c.chip.result.now)) c.loop-lane.at c.loop-lane.file c.put_chip-at.new.file c.put_chip-at.result)
    c.bank_set-set.ensures c.put_chip-at.ensures.bytes) c.put_chip-at.ensures.fields

pub returns-clause-file : goal.returns-clause-file
returns-clause-file g c =
    let lanes = c.args.bank.now.lanes in
    let all : length lanes ≤ c.loop-lane.lane = omega (arith, c.loop-lane-test.false, c.lanes_of-lanes.ensures.value) in
    puts_all (bank_set lanes) (header_bytes Two g.W.BusWord.WIDTH (chip_at lanes 0).part.device (length lanes)) lanes
    c.loop-lane.lane all c.loop-lane.invariant.puts c.requires

pub returns-clause-stands : goal.returns-clause-stands
returns-clause-stands g c =
    let lanes = c.args.bank.now.lanes in
    let wired = c.lanes_of-lanes.ensures.wired in
    let some : 0 < length lanes = omega (arith, c.lanes_of-lanes.ensures.value, c.lanes_of-lanes.ensures.some) in
    let all : length lanes ≤ c.loop-lane.lane = omega (arith, c.loop-lane-test.false, c.lanes_of-lanes.ensures.value) in
    let written = puts_all (bank_set lanes) (header_bytes Two g.W.BusWord.WIDTH (chip_at lanes 0).part.device (length lanes)) lanes c.loop-lane.lane all c.loop-lane.invariant.puts c.requires in
    let device = wired.bank.devices 0 some in
    file_stands c.loop-lane.file g.W.BusWord.WIDTH (chip_at lanes 0).part.device lanes
    (record {
      spelled = written;
      bank = subst (λ (d : Device). IsBank g.W.BusWord.WIDTH d lanes) (sym device) wired.bank;
      small = (chip_size (length (chip_at lanes 0).cells) wired.size).1;
      chips_have = λ k below. c.loop-lane.invariant.fields k (omega arith);
    })
    some
