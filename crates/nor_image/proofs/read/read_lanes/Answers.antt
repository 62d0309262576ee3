use Rattle.std.proofs.Common.{◌≡◌, ◌≢◌, ◌<◌, ◌≤◌, ◌+◌, ℕ, length, arith, Some, subst, ap, ◌∙◌}
use Rattle.nor_cell.specs.declared.device.Device.{Device}
use Rattle.nor_image.specs.Image.{image_refusal, lanes_of_file}
use Rattle.nor_image.specs.Reading.{IsRefusal, AreLanes, AreStored, AreChips, chips_of, record_len}
use Rattle.nor_image.specs.declared.error.ImageError.TheVariants.{NoMemory}
use Rattle.nor_image.proofs.Lanes.{read_stop, lane_stops, lanes_more, trailing_stops, nothing_stops}
use Rattle.nor_image.proofs.read.read_lanes.Goals as goal

pub returns-in_err-cells : goal.returns-in_err-cells
returns-in_err-cells c =
    let below : c.loop-lane.lane < lanes_of_file c.args.file.now = (let same = c.requires.lanes in omega arith) in
    let stop : c.in_err-cells.field-0.0 ≢ NoMemory → (image_refusal c.args.file.now ≡ Some c.in_err-cells.field-0.0) × IsRefusal c.in_err-cells.field-0.0 =
    λ has_memory.
    let h = c.in_err-cells.ensures has_memory in
    (lane_stops c.args.file.now c.loop-lane.lane c.loop-lane.at c.loop-lane.lanes.items c.in_err-cells.field-0.0 c.loop-lane.invariant below h.0, h.1) in
    read_stop (image_refusal c.args.file.now) (λ lanes. AreLanes c.args.file.now lanes.items) c.from_residual-in_err-cells.result c.in_err-cells.field-0.0
    c.from_residual-in_err-cells.ensures.1 stop

pub loop-lane-preserved : goal.loop-lane-preserved
loop-lane-preserved c =
    let h = c.in_ok-cells.ensures in
    let long = c.record_len-at.ensures.value
    ∙ (λ i. record_len (c.requires.version i) (c.machine_of.ensures i) c.in_ok-cells.cells) in
    lanes_more c.args.file.now c.loop-lane.lane c.loop-lane.at (c.loop-lane.at + c.record_len-at.result)
    c.loop-lane.lanes.items c.push.new.self.items c.in_ok-cells.cells c.loop-lane.invariant h.0
    (subst (λ (device : Device). AreStored c.args.file.now device c.loop-lane.at c.in_ok-cells.cells) c.requires.device h.1)
    (ap (λ (n : ℕ). c.loop-lane.at + n) long) c.in_ok-push.ensures.items

pub returns-then-at-file : goal.returns-then-at-file
returns-then-at-file c =
    let all : c.loop-lane.lane ≡ lanes_of_file c.args.file.now = (let same = c.requires.lanes in omega arith) in
    let further : c.loop-lane.at < length c.args.file.now = omega arith in
    λ has_memory. (trailing_stops c.args.file.now c.loop-lane.lane c.loop-lane.at c.loop-lane.lanes.items c.loop-lane.invariant all further, tt)

pub returns : goal.returns
returns c =
    let all : c.loop-lane.lane ≡ lanes_of_file c.args.file.now = (let same = c.requires.lanes in omega arith) in
    let ended : length c.args.file.now ≤ c.loop-lane.at = omega arith in (
      nothing_stops c.args.file.now c.loop-lane.lane c.loop-lane.at c.loop-lane.lanes.items c.loop-lane.invariant all ended,
      λ set. subst (λ (n : ℕ). AreChips c.args.file.now set n (chips_of set c.loop-lane.lanes.items)) all (c.loop-lane.invariant.chips set),
    )
