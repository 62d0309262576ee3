use Rattle.std.proofs.Common.{arith}
use Rattle.std.proofs.Math.Nat.{mul-le-mul_left}
use Rattle.nor_script.proofs.number.number_of_digits.Goals as goal

pub overflow_mul-next : goal.overflow_mul-next
overflow_mul-next c = let most = mul-le-mul_left c.loop-byte.value c.requires in let small = c.loop-byte.invariant.small in omega (arith, most)

pub overflow_add-next : goal.overflow_add-next
overflow_add-next c = let most = mul-le-mul_left c.loop-byte.value c.requires in let small = c.loop-byte.invariant.small in omega (arith, most)
