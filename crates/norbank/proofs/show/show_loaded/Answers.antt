use Rattle.std.proofs.Common.{sym, subst}
use Rattle.nor_image.specs.Loaded.{bus_of, loaded_width}
use Rattle.nor_image.specs.declared.loaded.Loaded.{Loaded}
use Rattle.norbank.specs.Opened.{ShowsBank}
use Rattle.norbank.proofs.show.show_loaded.Goals as goal

pub returns-in-Intel32-with_bank-clause-shows : goal.returns-in-Intel32-with_bank-clause-shows
returns-in-Intel32-with_bank-clause-shows g c =
    subst (λ (l : Loaded). ShowsBank (loaded_width l) (bus_of l).lanes (g.K.Sink.state c.args.out.now) (g.K.Sink.state c.show_bank-3.new.out) c.show_bank-3.result)
    (sym c.in-Intel32-with_bank.is) c.show_bank-3.ensures.shows

pub returns-in-Amd32-with_bank-clause-shows : goal.returns-in-Amd32-with_bank-clause-shows
returns-in-Amd32-with_bank-clause-shows g c =
    subst (λ (l : Loaded). ShowsBank (loaded_width l) (bus_of l).lanes (g.K.Sink.state c.args.out.now) (g.K.Sink.state c.show_bank-7.new.out) c.show_bank-7.result)
    (sym c.in-Amd32-with_bank.is) c.show_bank-7.ensures.shows
