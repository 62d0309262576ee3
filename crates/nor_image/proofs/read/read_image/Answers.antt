use Rattle.std.proofs.Common.{rules, ℕ, arith, subst, sym, ◌∙◌}
use Rattle.nor_bus.specs.Bus.{IsBank}
use Rattle.nor_image.specs.Image.{IsCause, machine_of, lanes_of_file, device_of, width_of}
use Rattle.nor_image.specs.Loaded.{bus_of, loaded_width}
use Rattle.nor_image.proofs.Images.{some_lanes, lane_0, chips_of_file, is_bank, is_image, are_storable, refusal_is}
use Rattle.nor_image.proofs.Lanes.{header_stops}
use Rattle.nor_image.proofs.LaneLocks.{image_agrees}
use Rattle.nor_image.proofs.Unique.{image_spelled}
use Rattle.nor_image.proofs.read.read_image.Goals as goal

pub returns-in_err-header-clause-refused : goal.returns-in_err-header-clause-refused
returns-in_err-header-clause-refused c =
    let h = c.in_err-header.ensures in
    let because : IsCause c.args.file.now c.in_err-header.field-0.0 =
    refusal_is c.args.file.now c.in_err-header.field-0.0 h.1 (header_stops c.args.file.now c.in_err-header.field-0.0 h.0) in
    search (rules, because)

pub index-requires : goal.index-requires
index-requires c =
    let some = some_lanes (width_of c.args.file.now) (lanes_of_file c.args.file.now) (device_of c.args.file.now) c.in_ok-header.ensures.1.wired in
    omega (arith, c.in_ok-lanes.lanes.ok, lane_0 c.args.file.now c.in_ok-lanes.lanes.items c.in_ok-lanes.ensures.1 some)

pub returns-clause-image : goal.returns-clause-image
returns-clause-image c =
    let header = c.in_ok-header.ensures.1 in
    let some = some_lanes (width_of c.args.file.now) (lanes_of_file c.args.file.now) (device_of c.args.file.now) header.wired in
    let chips = chips_of_file c.args.file.now c.in_ok-lanes.lanes.items c.index.result.now c.set_of-set.result (bus_of c.in_ok-loaded.loaded).lanes
    c.in_ok-lanes.ensures.1 some c.index.ensures c.set_of-set.ensures c.in_ok-loaded.ensures.lanes in
    is_image c.args.file.now (loaded_width c.in_ok-loaded.loaded) (bus_of c.in_ok-loaded.loaded).lanes chips c.in_ok-lanes.ensures.0 (c.in_ok-loaded.ensures.width ∙ header.width)

pub returns-clause-wired : goal.returns-clause-wired
returns-clause-wired c =
    let header = c.in_ok-header.ensures.1 in
    let some = some_lanes (width_of c.args.file.now) (lanes_of_file c.args.file.now) (device_of c.args.file.now) header.wired in
    let chips = chips_of_file c.args.file.now c.in_ok-lanes.lanes.items c.index.result.now c.set_of-set.result (bus_of c.in_ok-loaded.loaded).lanes
    c.in_ok-lanes.ensures.1 some c.index.ensures c.set_of-set.ensures c.in_ok-loaded.ensures.lanes in
    subst (λ (w : ℕ). IsBank w (device_of c.args.file.now) (bus_of c.in_ok-loaded.loaded).lanes) (sym (c.in_ok-loaded.ensures.width ∙ header.width))
    (is_bank c.args.file.now (machine_of c.args.file.now) (bus_of c.in_ok-loaded.loaded).lanes chips header.wired)

pub returns-clause-storable : goal.returns-clause-storable
returns-clause-storable c =
    let some = some_lanes (width_of c.args.file.now) (lanes_of_file c.args.file.now) (device_of c.args.file.now) c.in_ok-header.ensures.1.wired in
    let chips = chips_of_file c.args.file.now c.in_ok-lanes.lanes.items c.index.result.now c.set_of-set.result (bus_of c.in_ok-loaded.loaded).lanes
    c.in_ok-lanes.ensures.1 some c.index.ensures c.set_of-set.ensures c.in_ok-loaded.ensures.lanes in
    are_storable c.args.file.now (bus_of c.in_ok-loaded.loaded).lanes chips some

pub returns-clause-agree : goal.returns-clause-agree
returns-clause-agree c =
    let some = some_lanes (width_of c.args.file.now) (lanes_of_file c.args.file.now) (device_of c.args.file.now) c.in_ok-header.ensures.1.wired in
    let chips = chips_of_file c.args.file.now c.in_ok-lanes.lanes.items c.index.result.now c.set_of-set.result (bus_of c.in_ok-loaded.loaded).lanes
    c.in_ok-lanes.ensures.1 some c.index.ensures c.set_of-set.ensures c.in_ok-loaded.ensures.lanes in
    image_agrees c.args.file.now (bus_of c.in_ok-loaded.loaded).lanes chips c.in_ok-lanes.ensures.0

pub returns-clause-file : goal.returns-clause-file
returns-clause-file c =
    let header = c.in_ok-header.ensures.1 in
    let some = some_lanes (width_of c.args.file.now) (lanes_of_file c.args.file.now) (device_of c.args.file.now) header.wired in
    let chips = chips_of_file c.args.file.now c.in_ok-lanes.lanes.items c.index.result.now c.set_of-set.result (bus_of c.in_ok-loaded.loaded).lanes
    c.in_ok-lanes.ensures.1 some c.index.ensures c.set_of-set.ensures c.in_ok-loaded.ensures.lanes in
    let image = is_image c.args.file.now (loaded_width c.in_ok-loaded.loaded) (bus_of c.in_ok-loaded.loaded).lanes chips c.in_ok-lanes.ensures.0 (c.in_ok-loaded.ensures.width ∙ header.width) in
    image_spelled c.args.file.now (loaded_width c.in_ok-loaded.loaded) (bus_of c.in_ok-loaded.loaded).lanes (search rules) image (omega (arith, some, image.count))
