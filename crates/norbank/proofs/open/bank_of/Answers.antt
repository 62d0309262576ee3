use Rattle.std.proofs.Common.{subst, List, ℕ}
use Rattle.nor_bus.specs.Bus.{IsBank}
use Rattle.nor_image.specs.Image.{IsImageOf, device_of}
use Rattle.nor_image.specs.Loaded.{bus_of, loaded_width}
use Rattle.norbank.proofs.open.bank_of.Goals as goal

pub returns-clause-bank : goal.returns-clause-bank
returns-clause-bank c =
    let loaded = c.in_ok-loaded.loaded in
    record {
      image = subst (λ (f : List ℕ). IsImageOf f (loaded_width loaded) (bus_of loaded).lanes) c.deref.ensures.value c.in_ok-loaded.ensures.image;
      fresh = c.in_ok-loaded.ensures.fresh;
      wired = subst (λ (f : List ℕ). IsBank (loaded_width loaded) (device_of f) (bus_of loaded).lanes) c.deref.ensures.value c.in_ok-loaded.ensures.wired;
    }
