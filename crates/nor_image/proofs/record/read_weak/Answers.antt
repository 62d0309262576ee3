use Rattle.std.proofs.Common.{rules, ◌≡◌, ℕ, arith, Some, None, subst}
use Rattle.nor_image.specs.Image.{weak_fields, first_refusal, weak_in}
use Rattle.nor_image.proofs.WeakPlaces.{weak_more, weak_stops, ascending_below}
use Rattle.nor_image.proofs.record.read_weak.Goals as goal

pub returns-in_err-place-clause-read : goal.returns-in_err-place-clause-read
returns-in_err-place-clause-read c =
    let refused = c.in_err-place.ensures in
    let stop : first_refusal c.args.file.now (weak_fields c.args.file.now c.args.at c.args.count) ≡ Some c.in_err-place.field-0.0 =
    weak_stops c.args.file.now c.args.device c.args.at c.args.size c.loop-k.k c.loop-k.least c.args.count c.loop-k.weak.items c.in_err-place.field-0.0 c.loop-k.invariant c.loop-k-test.true refused.0 in
    search (rules, stop, refused.1)

pub loop-k-preserved : goal.loop-k-preserved
loop-k-preserved c =
    let read = c.in_ok-place.ensures in
    weak_more c.args.file.now c.args.device c.args.at c.args.size c.loop-k.k c.loop-k.least c.in_ok-place.place c.loop-k.weak.items c.push.new.self.items
    c.loop-k.invariant read.1.0 read.1.1 read.0 c.in_ok-push.ensures.items

pub returns-clause-read : goal.returns-clause-read
returns-clause-read c =
    let done : c.loop-k.k ≡ c.args.count = omega arith in
    let so = c.loop-k.invariant in (
      subst (λ (n : ℕ). first_refusal c.args.file.now (weak_fields c.args.file.now c.args.at n) ≡ None) done so.none,
      subst (λ (n : ℕ). c.loop-k.weak.items ≡ weak_in c.args.file.now c.args.at n) done so.read,
    )

pub returns-clause-ascending : goal.returns-clause-ascending
returns-clause-ascending c = ascending_below c.loop-k.least c.args.size c.loop-k.weak.items c.loop-k.invariant.ascending c.loop-k.invariant.below
