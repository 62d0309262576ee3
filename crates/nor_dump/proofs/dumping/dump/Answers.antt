use Rattle.nor_image.specs.Image.{device_of}
use Rattle.nor_image.specs.Loaded.{bus_of, loaded_width}
use Rattle.nor_dump.specs.Dump.{IsDumpOf}
use Rattle.nor_dump.proofs.Banks.{one_dump}
use Rattle.nor_dump.proofs.dumping.dump.Goals as goal

pub returns-clause-only : goal.returns-clause-only
returns-clause-only c =
    λ other also.
    let is : IsDumpOf c.args.file.items c.in_ok-loaded_bytes.field-0.items = record {
      width = loaded_width c.in_ok-loaded.loaded;
      chips = (bus_of c.in_ok-loaded.loaded).lanes;
      image = c.in_ok-loaded.ensures.image;
      bytes = c.in_ok-loaded_bytes.ensures (device_of c.args.file.items) c.in_ok-loaded.ensures.wired;
    } in
    one_dump c.args.file.items c.in_ok-loaded_bytes.field-0.items other is also
