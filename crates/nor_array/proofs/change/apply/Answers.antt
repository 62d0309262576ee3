use Rattle.std.proofs.Common.{ℕ, List, subst, sym}
use Rattle.nor_array.specs.Fits.{HaltFits}
use Rattle.nor_array.proofs.Admitted.{halt_bytes_fit}
use Rattle.nor_array.proofs.change.apply.Goals as goal

pub apply_halted-requires : goal.apply_halted-requires
apply_halted-requires c =
    let a = c.args.array.now in
    let e = c.args.entry.now in
    let P : List ℕ → Type 0 = λ bytes. HaltFits a.power e.op a bytes in
    subst P (sym c.as_slice-bytes.ensures) (halt_bytes_fit a e c.in-Halted.cause c.requires c.in-Halted.is)
