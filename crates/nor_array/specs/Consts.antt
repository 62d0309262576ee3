-- The constants of an array, as its definitions see them.
use Rattle.std.specs.Prelude.{ℕ, List, Bool, Option}
use Rattle.nor_region.specs.Map.{spans_of}
use Rattle.nor_array.specs.Array.{ArrayState, Constants}
use Rattle.nor_array.specs.declared.state.OpenErase.{OpenErase}
use Rattle.nor_array.specs.declared.state.Power.{Power}
use Rattle.nor_array.specs.declared.state.ArmedCut.{ArmedCut}
use Rattle.nor_array.specs.declared.array.Consts.{Consts}

abbrev pub constants : Consts → Constants
constants c = record {
  blocks = spans_of c.map;
  has_locks = c.has_locks;
  locked = c.locked.items;
  keeps = c.keeps;
  has_chip_erase = c.has_chip_erase;
  weak = c.weak.items;
}

-- an array of these constants
abbrev pub state_of : Consts → List ℕ → List Bool → Option OpenErase → Power → Option ArmedCut → ArrayState
state_of c bytes locks under power armed =
    record { consts = constants c; bytes = bytes; locks = locks; under = under; power = power; armed = armed }
