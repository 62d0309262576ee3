use Rattle.std.proofs.Common.{false}
use Rattle.nor_image.specs.Loaded.{bus_of, loaded_width}
use Rattle.nor_run.proofs.Causing.{halts_caused}
use Rattle.nor_run.proofs.Reporting.{from_file, fits_file, image_reports}
use Rattle.nor_run.proofs.image.run_image.Goals as goal

pub run_loaded-loaded-requires-clause-loaded : goal.run_loaded-loaded-requires-clause-loaded
run_loaded-loaded-requires-clause-loaded g c = from_file c.args.loaded c.requires.loaded

pub fill_image-requires : goal.fill_image-requires
fill_image-requires g c =
    fits_file c.args.file.now c.args.loaded c.run_loaded-loaded.result.0 c.requires.loaded c.requires.room c.run_loaded-loaded.ensures.width c.run_loaded-loaded.ensures.lanes

pub returns-in-Ok-clause-reports : goal.returns-in-Ok-clause-reports
returns-in-Ok-clause-reports g c =
    image_reports false c.args.lines.now c.args.loaded c.run_loaded-loaded.result.0
    (g.K.Sink.state c.args.out.now) (g.K.Sink.state c.run_loaded-loaded.new.out)
    c.in-Ok.ran c.run_loaded-loaded.result.1 c.fill_image.new.file c.requires.loaded c.run_loaded-loaded.ensures.width c.in-Ok.is
    c.run_loaded-loaded.ensures.reports c.fill_image.ensures.file c.fill_image.ensures.stands

pub returns-in-Ok-clause-caused : goal.returns-in-Ok-clause-caused
returns-in-Ok-clause-caused g c = λ qry halted.
    halts_caused false (loaded_width c.args.loaded) c.args.lines.now (bus_of c.args.loaded) (bus_of c.run_loaded-loaded.result.0)
    (g.K.Sink.state c.args.out.now) (g.K.Sink.state c.run_loaded-loaded.new.out)
    c.in-Ok.ran c.run_loaded-loaded.result.1 c.in-Ok.is c.run_loaded-loaded.ensures.reports qry halted
