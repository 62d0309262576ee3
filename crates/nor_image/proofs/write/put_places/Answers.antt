use Rattle.std.proofs.Common.{◌≡◌, ℕ, List, length, get_or, refl, subst, ap, arith}
use Rattle.std.proofs.lemmas.List.{take_all}
use Rattle.nor_image.specs.Written.{place_bytes}
use Rattle.nor_image.specs.Writing.{Puts}
use Rattle.nor_image.proofs.Putting.{places_more, length-first_places, puts_none}
use Rattle.nor_image.proofs.write.put_places.Goals as goal

pub put-at-requires : goal.put-at-requires
put-at-requires c =
    let so = c.loop-place.invariant in
    let end = so.end_is in
    let size = so.size in
    let below = c.loop-place-test.true in
    let long = length-first_places c.args.places.now c.loop-place.place-index (omega arith) in
    let four : length c.to_le_bytes.result ≡ 4 = ap length c.to_le_bytes.ensures in
    omega arith

pub loop-place-init : goal.loop-place-init
loop-place-init c = puts_none c.args.at c.args.file.now

pub loop-place-preserved : goal.loop-place-preserved
loop-place-preserved c =
    let place = get_or c.args.places.now c.loop-place.place-index 0 in
    places_more c.args.places.now c.loop-place.place-index place c.loop-place-test.true refl c.loop-place.invariant
    (subst (λ (bytes : List ℕ). Puts bytes c.loop-place.at c.loop-place.file c.put-at.new.file c.put-at.result) c.to_le_bytes.ensures c.put-at.ensures)

pub returns : goal.returns
returns c =
    subst (λ (places : List ℕ). Puts (place_bytes places) c.args.at c.args.file.now c.loop-place.file c.loop-place.at)
    (take_all c.loop-place.place-index c.args.places.now (omega arith)) c.loop-place.invariant
