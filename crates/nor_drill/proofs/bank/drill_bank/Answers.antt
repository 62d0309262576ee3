use Rattle.nor_image.specs.Loaded.{bus_of}
use Rattle.nor_drill.proofs.Banks.{is_just_loaded, is_accepted, has_letters}
use Rattle.nor_drill.proofs.bank.drill_bank.Goals as goal

pub returns-clause-loaded : goal.returns-clause-loaded
returns-clause-loaded c = let is = c.in_ok-loaded.ensures in is_just_loaded _ (bus_of c.in_ok-loaded.loaded) is.lanes is.fresh

pub returns-clause-accepted : goal.returns-clause-accepted
returns-clause-accepted c = let is = c.in_ok-loaded.ensures in is_accepted _ (bus_of c.in_ok-loaded.loaded) is.lanes is.low is.high

pub returns-clause-letters : goal.returns-clause-letters
returns-clause-letters c = let is = c.in_ok-loaded.ensures in has_letters _ (bus_of c.in_ok-loaded.loaded) is.lanes
