use Rattle.std.proofs.Common.{rules, ◌≡◌, ℕ, arith, Some, None, subst}
use Rattle.nor_image.specs.Image.{each_lock, first_refusal, locks_from}
use Rattle.nor_image.specs.Reading.{kept_of_each}
use Rattle.nor_image.proofs.Agreeing.{locks_more, lock_stops}
use Rattle.nor_image.proofs.locks.read_each.Goals as goal

pub returns-in_err-locked : goal.returns-in_err-locked
returns-in_err-locked c =
    let refused = c.in_err-locked.ensures in
    let before = kept_of_each c.args.set c.args.before.now in
    let stop : first_refusal c.args.file.now (each_lock c.args.file.now before c.args.at c.args.count c.args.count) ≡ Some c.in_err-locked.field-0.0 =
    lock_stops c.args.file.now before c.args.at c.args.count c.loop-k.k c.loop-k.locks.items c.in_err-locked.field-0.0 c.loop-k.invariant c.loop-k-test.true refused.0 in
    search (rules, stop, refused.1)

pub loop-k-preserved : goal.loop-k-preserved
loop-k-preserved c =
    let read = c.in_ok-locked.ensures in
    locks_more c.args.file.now (kept_of_each c.args.set c.args.before.now) c.args.at c.args.count c.loop-k.k c.loop-k.locks.items c.push.new.self.items c.in_ok-locked.locked
    c.loop-k.invariant read.0 read.1 c.in_ok-push.ensures.items

pub returns : goal.returns
returns c =
    let done : c.loop-k.k ≡ c.args.count = omega arith in
    let so = c.loop-k.invariant in (
      subst (λ (n : ℕ). first_refusal c.args.file.now (each_lock c.args.file.now (kept_of_each c.args.set c.args.before.now) c.args.at c.args.count n) ≡ None) done so.none,
      subst (λ (n : ℕ). c.loop-k.locks.items ≡ locks_from c.args.file.now c.args.at n) done so.read,
    )
