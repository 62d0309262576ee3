use Rattle.std.proofs.Common.{◌≡◌, ◌∙◌, ℕ, ap, arith}
use Rattle.nor_cell.specs.declared.device.Device.{Device}
use Rattle.nor_bus.specs.Bus.{bank_bytes, bank_size}
use Rattle.nor_dump.proofs.Banks.{more_bytes, one_device}
use Rattle.nor_dump.proofs.dumping.bank_bytes.Goals as goal

pub loop-at-preserved : goal.loop-at-preserved
loop-at-preserved g c =
    c.in_ok-push.ensures.items
    ∙ more_bytes c.geometry_of-g.result.device c.args.bank.now.lanes c.loop-at.at c.loop-at.raw.items c.byte_at.result c.loop-at.invariant c.byte_at.ensures

pub returns : goal.returns
returns g c =
    λ device is.
    let last : c.loop-at.at ≡ bank_size c.args.bank.now.lanes = omega (arith, c.size_of-size.ensures.value) in
    c.loop-at.invariant
    ∙ (ap (λ (n : ℕ). bank_bytes c.geometry_of-g.result.device c.args.bank.now.lanes 0 n) last
    ∙ ap (λ (d : Device). bank_bytes d c.args.bank.now.lanes 0 (bank_size c.args.bank.now.lanes)) (one_device g.W.BusWord.WIDTH c.geometry_of-g.result.device device c.args.bank.now.lanes c.geometry_of-g.ensures.bank is))
