use Rattle.std.proofs.Common.{◌≡◌, ◌<◌, ◌+◌, ◌*◌, ℕ, List, length, subst, arith, rules, false}
use Rattle.std.specs.Prelude.{slice_index}
use Rattle.nor_region.specs.declared.region.Region.{Region}
use Rattle.nor_query.specs.Fields.{regions_at, is_named_extended}
use Rattle.nor_query.specs.Stands.{StandsFor}
use Rattle.nor_query.specs.Valid.{set_of_extended}
use Rattle.nor_query.specs.Writing.{SameWithin, ExtendedReads}
use Rattle.nor_query.proofs.Same.{one_table}
use Rattle.nor_query.proofs.Written.{written, stands_written}
use Rattle.nor_query.proofs.encoding.encode.Goals as goal
use Rattle.nor_query.proofs.encoding.encode.Goals.{After-put_extended}

stands : (c : After-put_extended) → StandsFor c.put_extended.new.table c.args.q.now
stands c =
    let q = c.args.q.now in
    let first = c.put.new.table in
    let second = c.put_regions.new.table in
    let table = c.put_extended.new.table in
    let head_len : length c.head_of.result ≡ 29 = search rules in
    let rest_len : length q.rest ≡ 512 = search rules in
    let items = c.deref.ensures.0 in
    let ext = c.from.ensures in
    let whole = written q c.head_of.result first second table c.requires
    (λ at low high. c.put.ensures.above at (omega arith) high)
    (subst (λ (regions : List Region). SameWithin (0x2D + 4 * length regions) 512 first second) items c.put_regions.ensures.above)
    c.put_extended.ensures.len c.put_extended.ensures.bytes c.head_of.ensures
    (λ k few. c.put.ensures.inside k (omega arith)) c.put.ensures.below
    (subst (λ (regions : List Region). regions_at second 0x2D (length regions) ≡ regions) items c.put_regions.ensures.regions) c.put_regions.ensures.below
    (subst (λ (e : ℕ). ExtendedReads table e q.minor q.extended) ext c.put_extended.ensures.reads)
    (subst (λ (e : ℕ). SameWithin 0 e second table) ext c.put_extended.ensures.below)
    (subst (λ (e : ℕ). (k : ℕ) → e + k < 512 → is_named_extended (set_of_extended q.extended) k ≡ false → slice_index table (e + k) ≡ slice_index second (e + k)) ext c.put_extended.ensures.free) in
    stands_written table q c.requires whole rest_len

pub returns-clause-stands : goal.returns-clause-stands
returns-clause-stands c = stands c

pub returns-clause-only : goal.returns-clause-only
returns-clause-only c table other = one_table table c.put_extended.new.table c.args.q.now other (stands c)
