use Rattle.std.proofs.Common.{ℕ, ◌+◌, ◌-◌, ◌*◌, refl, subst}
use Rattle.nor_bank.specs.Programs.{ProgramsPiece}
use Rattle.nor_bank.proofs.PiecesRead.{piece_none}
use Rattle.nor_bank.proofs.pieces.program_waiting.Goals as goal

pub returns-then-n-eq0-clause-becomes : goal.returns-then-n-eq0-clause-becomes
returns-then-n-eq0-clause-becomes g c = λ at new can wait.
    (piece_none g.W.BusWord.WIDTH c.args.found.now.geometry at (c.args.u - c.args.n) c.args.n new (g.B.Bus.state c.args.bus.now) c.if-n-eq0.true can.words.own can.words.chips, refl)

pub returns-then-lanes-eq0-clause-becomes : goal.returns-then-lanes-eq0-clause-becomes
returns-then-lanes-eq0-clause-becomes g c = λ at new can wait.
    let w = g.W.BusWord.WIDTH in
    subst (λ (bits : ℕ). ProgramsPiece c.args.found.now.geometry bits at new ((c.args.u - c.args.n) * w) ((c.args.u - c.args.n + c.args.n) * w) (g.B.Bus.state c.args.bus.now)
    (g.B.Bus.state c.program_piece.new.bus)) c.if-lanes-eq0.true (c.in-Ok.ensures.ends at new can wait)

pub returns-else-lanes-eq0-clause-becomes : goal.returns-else-lanes-eq0-clause-becomes
returns-else-lanes-eq0-clause-becomes g c = λ at new can wait. (c.if-lanes-eq0.false, c.in-Ok.ensures.ends at new can wait)
