use Rattle.nor_race.proofs.Putting.{racer_within, put_racer}
use Rattle.nor_race.proofs.placing.put_all.Goals as goal

pub put-requires : goal.put-requires
put-requires g c = record {
  within = racer_within c.args.racers.items c.loop-racer.racers.items c.pop.new.self.items c.args.table.now.items c.loop-racer.table.items c.in-Some.racer c.loop-racer.invariant c.in-Some.ensures.items
      c.requires.within;
}

pub loop-racer-preserved-in-Some : goal.loop-racer-preserved-in-Some
loop-racer-preserved-in-Some g c =
    put_racer c.args.racers.items c.loop-racer.racers.items c.pop.new.self.items c.args.table.now.items c.loop-racer.table.items c.put.new.table.items c.in-Some.racer c.loop-racer.invariant
    c.in-Some.ensures.items c.put.ensures.placed

pub loop-racer-preserved : goal.loop-racer-preserved
loop-racer-preserved g c =
    put_racer c.args.racers.items c.loop-racer.racers.items c.pop.new.self.items c.args.table.now.items c.loop-racer.table.items c.put.new.table.items c.in-Some.racer c.loop-racer.invariant
    c.in-Some.ensures.items c.put.ensures.placed
