use Rattle.std.proofs.Common.{sym, subst}
use Rattle.nor_cell.specs.declared.device.Device.{Device}
use Rattle.nor_bus.specs.Bus.{IsBank}
use Rattle.nor_image.specs.Loaded.{bus_of, loaded_width}
use Rattle.nor_image.specs.declared.loaded.Loaded.{Loaded}
use Rattle.norbank.specs.Opened.{ReadsBank}
use Rattle.norbank.proofs.read.read_loaded.Goals as goal

pub returns-in-Intel16-with_bank-clause-reads : goal.returns-in-Intel16-with_bank-clause-reads
returns-in-Intel16-with_bank-clause-reads g c =
    subst (λ (l : Loaded). (device : Device) → IsBank (loaded_width l) device (bus_of l).lanes
    → ReadsBank (loaded_width l) device (bus_of l).lanes c.args.at c.args.len (g.K.Sink.state c.args.out.now) (g.K.Sink.state c.read_bank-2.new.out) c.read_bank-2.result)
    (sym c.in-Intel16-with_bank.is) c.read_bank-2.ensures.reads

pub returns-in-Intel32-with_bank-clause-reads : goal.returns-in-Intel32-with_bank-clause-reads
returns-in-Intel32-with_bank-clause-reads g c =
    subst (λ (l : Loaded). (device : Device) → IsBank (loaded_width l) device (bus_of l).lanes
    → ReadsBank (loaded_width l) device (bus_of l).lanes c.args.at c.args.len (g.K.Sink.state c.args.out.now) (g.K.Sink.state c.read_bank-3.new.out) c.read_bank-3.result)
    (sym c.in-Intel32-with_bank.is) c.read_bank-3.ensures.reads

pub returns-in-Intel64-with_bank-clause-reads : goal.returns-in-Intel64-with_bank-clause-reads
returns-in-Intel64-with_bank-clause-reads g c =
    subst (λ (l : Loaded). (device : Device) → IsBank (loaded_width l) device (bus_of l).lanes
    → ReadsBank (loaded_width l) device (bus_of l).lanes c.args.at c.args.len (g.K.Sink.state c.args.out.now) (g.K.Sink.state c.read_bank-4.new.out) c.read_bank-4.result)
    (sym c.in-Intel64-with_bank.is) c.read_bank-4.ensures.reads

pub returns-in-Amd16-with_bank-clause-reads : goal.returns-in-Amd16-with_bank-clause-reads
returns-in-Amd16-with_bank-clause-reads g c =
    subst (λ (l : Loaded). (device : Device) → IsBank (loaded_width l) device (bus_of l).lanes
    → ReadsBank (loaded_width l) device (bus_of l).lanes c.args.at c.args.len (g.K.Sink.state c.args.out.now) (g.K.Sink.state c.read_bank-6.new.out) c.read_bank-6.result)
    (sym c.in-Amd16-with_bank.is) c.read_bank-6.ensures.reads

pub returns-in-Amd32-with_bank-clause-reads : goal.returns-in-Amd32-with_bank-clause-reads
returns-in-Amd32-with_bank-clause-reads g c =
    subst (λ (l : Loaded). (device : Device) → IsBank (loaded_width l) device (bus_of l).lanes
    → ReadsBank (loaded_width l) device (bus_of l).lanes c.args.at c.args.len (g.K.Sink.state c.args.out.now) (g.K.Sink.state c.read_bank-7.new.out) c.read_bank-7.result)
    (sym c.in-Amd32-with_bank.is) c.read_bank-7.ensures.reads

pub returns-in-Amd64-with_bank-clause-reads : goal.returns-in-Amd64-with_bank-clause-reads
returns-in-Amd64-with_bank-clause-reads g c =
    subst (λ (l : Loaded). (device : Device) → IsBank (loaded_width l) device (bus_of l).lanes
    → ReadsBank (loaded_width l) device (bus_of l).lanes c.args.at c.args.len (g.K.Sink.state c.args.out.now) (g.K.Sink.state c.read_bank-8.new.out) c.read_bank-8.result)
    (sym c.in-Amd64-with_bank.is) c.read_bank-8.ensures.reads
