use Rattle.std.proofs.Common.{◌≡◌, ◌≤◌, ◌+◌, ◌^◌, ℕ, List, length, IsTrue, true, sym, ap, subst, ◌∙◌, arith, rules}
use Rattle.nor_cell.specs.Ranges.{are_blocks, follow_to}
use Rattle.nor_cell.specs.Table.{field_8}
use Rattle.nor_cell.specs.declared.device.Span.{Span}
use Rattle.nor_region.specs.Map.{spans_of}
use Rattle.nor_region.specs.Regions.{total_len}
use Rattle.nor_region.specs.declared.region.Region.{Region}
use Rattle.nor_region.proofs.Following.{following}
use Rattle.nor_region.proofs.Laying.{follow-laid}
use Rattle.nor_image.specs.Image.{is_size_by}
use Rattle.nor_image.proofs.Sizes.{size_of_table}
use Rattle.nor_image.proofs.blocks.blocks_of_table.Goals as goal

-- the blocks of a map that has all bytes of the chip
follow : (table : List ℕ) (size log : ℕ) (map : List Region) → IsTrue (is_size_by table size) → log ≡ field_8 table 0x27 → 12 ≤ log → log ≤ 27
    → total_len map ≡ 2 ^ log → are_blocks size (spans_of map) ≡ true
follow table size log map fits log_is least most whole =
    let is : size ≡ 2 ^ field_8 table 0x27 = size_of_table table size fits (omega arith) (omega arith) in
    let same : 0 + total_len map ≡ size = (let a = whole in let b = ap (λ k. 2 ^ k) log_is in omega arith) in
    following size (spans_of map) (subst (λ (n : ℕ). follow_to n 0 (spans_of map) ≡ true) same (follow-laid map 0))

pub returns-in-Ok-clause-follow : goal.returns-in-Ok-clause-follow
returns-in-Ok-clause-follow c =
    let fits = follow c.args.table.now c.args.size c.in-Ok.query.size_log c.block_map.result c.requires c.in-Ok.ensures.stands.size_log
    c.in-Ok.ensures.valid.size_log.0 c.in-Ok.ensures.valid.size_log.1 c.block_map.ensures.size in
    let follows : (spans : List Span) → spans ≡ spans_of c.block_map.result → IsTrue (are_blocks c.args.size spans) =
    λ spans is. subst (λ (xs : List Span). are_blocks c.args.size xs ≡ true) (sym is) fits in
    search (rules, follows)

pub returns-in-Ok-clause-few : goal.returns-in-Ok-clause-few
returns-in-Ok-clause-few c =
    let whole : total_len c.block_map.result ≡ c.args.size =
    c.block_map.ensures.size ∙ (ap (λ k. 2 ^ k) c.in-Ok.ensures.stands.size_log
    ∙ sym (size_of_table c.args.table.now c.args.size c.requires (let a = c.in-Ok.ensures.valid.size_log.0 in let b = c.in-Ok.ensures.stands.size_log in omega arith) (let a = c.in-Ok.ensures.valid.size_log.1 in let b = c.in-Ok.ensures.stands.size_log in omega arith))) in
    let few : (spans : List Span) → length spans ≤ total_len c.block_map.result → length spans ≤ c.args.size = λ spans h. omega arith in
    search (rules, few)
