use Rattle.std.proofs.Common.{◌≡◌, ◌∙◌, true, false, sym, ap}
use Rattle.nor_array.specs.declared.entry.Op.TheVariants.{Program, EraseOpen, EraseAll, Poll, Lock, Unlock, IsLocked, Arm, PowerOn}
use Rattle.nor_bank.proofs.Keeping.{keeps_call}
use Rattle.nor_run.specs.Running.{is_read}
use Rattle.nor_run.proofs.Calling.{makes_call, own_caller}
use Rattle.nor_run.proofs.lines.make.Goals as goal

pub unreachable-requires : goal.unreachable-requires
unreachable-requires g c = let both : false ≡ true = sym c.requires.given ∙ ap is_read c.in-Read.is in cc

pub returns-in-Program : goal.returns-in-Program
returns-in-Program g c =
    makes_call c.args.caller c.args.op.now (Program c.in-Program.at c.as_slice.result.now) c.args.bank.now c.program.new.self c.program.result
    (c.in-Program.is ∙ ap (Program c.in-Program.at) (sym c.as_slice.ensures)) c.program.ensures.call
    (keeps_call c.args.caller (Program c.in-Program.at c.as_slice.result.now) c.args.bank.now c.program.new.self c.program.result c.program.ensures.call.leaves)

pub returns-in-EraseOpen : goal.returns-in-EraseOpen
returns-in-EraseOpen g c =
    makes_call c.args.caller c.args.op.now (EraseOpen c.in-EraseOpen.block) c.args.bank.now c.erase_open.new.self c.erase_open.result c.in-EraseOpen.is c.erase_open.ensures.call
    (keeps_call c.args.caller (EraseOpen c.in-EraseOpen.block) c.args.bank.now c.erase_open.new.self c.erase_open.result c.erase_open.ensures.call.leaves)

pub returns-in-EraseAll : goal.returns-in-EraseAll
returns-in-EraseAll g c =
    makes_call c.args.caller c.args.op.now EraseAll c.args.bank.now c.erase_all.new.self c.erase_all.result c.in-EraseAll.is c.erase_all.ensures.call
    (keeps_call c.args.caller EraseAll c.args.bank.now c.erase_all.new.self c.erase_all.result c.erase_all.ensures.call.leaves)

pub returns-in-Poll : goal.returns-in-Poll
returns-in-Poll g c =
    makes_call c.args.caller c.args.op.now Poll c.args.bank.now c.poll.new.self c.poll.result c.in-Poll.is c.poll.ensures.call
    (keeps_call c.args.caller Poll c.args.bank.now c.poll.new.self c.poll.result c.poll.ensures.call.leaves)

pub returns-in-Lock : goal.returns-in-Lock
returns-in-Lock g c =
    makes_call c.args.caller c.args.op.now (Lock c.in-Lock.block) c.args.bank.now c.lock.new.self c.lock.result c.in-Lock.is c.lock.ensures.call
    (keeps_call c.args.caller (Lock c.in-Lock.block) c.args.bank.now c.lock.new.self c.lock.result c.lock.ensures.call.leaves)

pub returns-in-Unlock : goal.returns-in-Unlock
returns-in-Unlock g c =
    makes_call c.args.caller c.args.op.now (Unlock c.in-Unlock.block) c.args.bank.now c.unlock.new.self c.unlock.result c.in-Unlock.is c.unlock.ensures.call
    (keeps_call c.args.caller (Unlock c.in-Unlock.block) c.args.bank.now c.unlock.new.self c.unlock.result c.unlock.ensures.call.leaves)

pub returns-in-IsLocked : goal.returns-in-IsLocked
returns-in-IsLocked g c =
    makes_call c.args.caller c.args.op.now (IsLocked c.in-IsLocked.block) c.args.bank.now c.is_locked.new.self c.is_locked.result c.in-IsLocked.is c.is_locked.ensures.call
    (keeps_call c.args.caller (IsLocked c.in-IsLocked.block) c.args.bank.now c.is_locked.new.self c.is_locked.result c.is_locked.ensures.call.leaves)

pub returns-in-Arm : goal.returns-in-Arm
returns-in-Arm g c =
    makes_call c.args.caller c.args.op.now (Arm c.in-Arm.after c.in-Arm.mask) c.args.bank.now c.arm.new.self c.arm.result c.in-Arm.is
    (own_caller c.args.caller c.args.op.now (Arm c.in-Arm.after c.in-Arm.mask) c.in-Arm.is c.requires.own, c.arm.ensures.call) c.arm.ensures.keeps

pub returns-in-PowerOn : goal.returns-in-PowerOn
returns-in-PowerOn g c =
    makes_call c.args.caller c.args.op.now PowerOn c.args.bank.now c.power_on.new.self c.power_on.result c.in-PowerOn.is
    (own_caller c.args.caller c.args.op.now PowerOn c.in-PowerOn.is c.requires.own, c.power_on.ensures.call) c.power_on.ensures.keeps
