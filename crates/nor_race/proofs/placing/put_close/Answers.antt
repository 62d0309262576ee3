use Rattle.std.proofs.Common.{◌≡◌, ℕ, List, [], length, true, slice_set, sym, subst, arith, rules}
use Rattle.nor_race.specs.Noted.{closes_of}
use Rattle.nor_race.specs.Places.{Placed}
use Rattle.nor_race.proofs.Putting.{close_there, close_put}
use Rattle.nor_race.proofs.placing.put_close.Goals as goal

pub index_mut-requires : goal.index_mut-requires
index_mut-requires c =
    let h = close_there c.args.line (length c.args.table.now.items) c.args.close c.in-Some.answer c.in-Some.is c.requires.within in
    let k = c.args.table.now.ok in
    omega (arith, h, k)

pub returns-in-Some : goal.returns-in-Some
returns-in-Some c =
    let empty : c.new.result.items ≡ [] = search rules in
    record {
      placed = subst (λ (bytes : List ℕ). Placed (closes_of c.args.line c.args.close) c.args.table.now.items
          (slice_set c.args.table.now.items c.in-Some.answer.position (record { line = c.args.line; closes = true; reply = c.in-Some.answer.reply; bytes = bytes })))
          (sym empty)
          (close_put c.args.line c.args.close c.in-Some.answer c.args.table.now.items c.in-Some.is
          (close_there c.args.line (length c.args.table.now.items) c.args.close c.in-Some.answer c.in-Some.is c.requires.within));
    }
