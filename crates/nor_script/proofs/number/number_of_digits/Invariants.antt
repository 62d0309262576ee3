use Rattle.std.proofs.Common.{◌≡◌, ◌<◌, ◌^◌, Some, drop}
use Rattle.nor_script.specs.Numbers.{number_from}
use Rattle.nor_script.proofs.number.number_of_digits.Given as goal

-- the value so far and the digits that are left give the number
abbrev pub invariant-loop-byte : goal.invariant-loop-byte
invariant-loop-byte l = record { small : l.value < 2 ^ 32; all : number_from l.base (Some l.value) (drop l.byte-index l.digits) ≡ number_from l.base (Some 0) l.digits }
