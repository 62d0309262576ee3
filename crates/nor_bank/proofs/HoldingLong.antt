-- The blocks that a table names are long.
use Rattle.std.proofs.Common.{◌≡◌, ◌<◌, ◌≤◌, ◌*◌, ℕ, List, length, sym, ◌∙◌, ap, subst, arith}
use Rattle.std.proofs.lemmas.List.{length-map}
use Rattle.std.proofs.Math.Nat.{mul-le-mul_left}
use Rattle.nor_cell.specs.Bits.{unit_len}
use Rattle.nor_cell.specs.Chip.{block}
use Rattle.nor_cell.specs.declared.device.Device.{Device}
use Rattle.nor_cell.specs.declared.device.Device.TheVariants.{X8, X16, X16Byte}
use Rattle.nor_cell.specs.declared.device.Span.{Span}
use Rattle.nor_region.specs.Map.{scaled_span}
use Rattle.nor_query.specs.Derived.{table_blocks}
use Rattle.nor_probe.specs.Probed.{IsFoundBy}
use Rattle.nor_probe.specs.declared.probing.Found.{Found}
use Rattle.nor_bank.specs.State.{HasLongBlocks, word_bytes, blocks_of}
use Rattle.nor_bank.proofs.LocksBlocks.{table_least, block_scaled}

-- 128 bytes of each lane are 16 bus words at least
long_word : (lanes len : ℕ) (device : Device) → 128 ≤ len → 16 * (lanes * unit_len device) ≤ lanes * len
long_word lanes len X8 least = let more : lanes * 128 ≤ lanes * len = mul-le-mul_left lanes least in omega (arith, more)
long_word lanes len X16 least = let more : lanes * 128 ≤ lanes * len = mul-le-mul_left lanes least in omega (arith, more)
long_word lanes len X16Byte least = let more : lanes * 128 ≤ lanes * len = mul-le-mul_left lanes least in omega (arith, more)

-- What was found of a table has long blocks.
pub long_blocks : (f : Found) (table : List ℕ) → IsFoundBy f.geometry table f → HasLongBlocks f
long_blocks f table says k there =
    let n = f.geometry.lanes in
    let blocks = table_blocks table in
    let count : length (blocks_of f) ≡ length blocks = ap (λ (bs : List Span). length bs) says.blocks ∙ length-map blocks (scaled_span n) in
    let mine : k < length blocks = omega (arith, there, count) in
    let span : block (blocks_of f) k ≡ scaled_span n (block blocks k) = ap (λ (bs : List Span). block bs k) says.blocks ∙ block_scaled n k blocks mine in
    let len : (block (blocks_of f) k).len ≡ n * (block blocks k).len = ap (λ (s : Span). s.len) span in
    subst (λ (m : ℕ). 16 * word_bytes f ≤ m) (sym len) (long_word n (block blocks k).len f.geometry.device (table_least table k mine))
