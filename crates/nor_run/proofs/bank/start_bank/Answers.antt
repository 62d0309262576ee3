use Rattle.nor_run.proofs.Reporting.{starts_so, all_rest, refused_as, never_lost}
use Rattle.nor_run.proofs.bank.start_bank.Goals as goal

pub returns-in-Ok-clause-started : goal.returns-in-Ok-clause-started
returns-in-Ok-clause-started g c =
    let found = c.in-Ok.ensures.found (all_rest g.W.BusWord.WIDTH c.args.bank c.requires.loaded) in
    record {
      is_found = found;
      running = c.in-Ok.ensures.fresh.0;
      closed = c.in-Ok.ensures.fresh.1;
      kept = c.in-Ok.ensures.counted.went.kept;
      started = λ qry.
          starts_so g.W.BusWord.WIDTH c.args.bank c.in-Ok.bank c.requires.loaded c.see_chips.ensures qry found c.in-Ok.ensures.fresh c.in-Ok.ensures.lanes c.in-Ok.ensures.counted c.in-Ok.ensures.stands;
    }

pub returns-in-Err-clause-refused : goal.returns-in-Err-clause-refused
returns-in-Err-clause-refused g c = record {
  refused = refused_as g.W.BusWord.WIDTH c.args.bank c.in-Err.bank c.in-Err.error c.requires.loaded c.in-Err.ensures.refused c.in-Err.ensures.lost;
  powered = λ is. never_lost g.W.BusWord.WIDTH c.args.bank c.in-Err.bank c.requires.loaded (c.in-Err.ensures.lost is);
}
