-- What a table and the query that it stands for say of each other.
use Rattle.std.proofs.Common.{◌≡◌, ◌<◌, ℕ, zero, suc, ◌+◌, ◌^◌, List, length, refl, sym, ◌∙◌, ap, arith, true}
use Rattle.std.specs.Prelude.{slice_index}
use Rattle.std.specs.List.{list_all}
use Rattle.std.proofs.lemmas.Bool.{cond-true}
use Rattle.std.proofs.lemmas.List.{ext_get_or}
use Rattle.nor_cell.specs.Table.{extended_at, extended, set_of}
use Rattle.nor_cell.specs.declared.device.Set.{Set}
use Rattle.nor_cell.specs.declared.device.Set.TheVariants.{Intel as IntelSet, Amd as AmdSet}
use Rattle.nor_region.specs.Regions.{total_len}
use Rattle.nor_query.specs.Fields.{regions_at, region_count, extended_of, named_len, is_named, is_named_in}
use Rattle.nor_query.specs.Stands.{StandsFor}
use Rattle.nor_query.specs.Valid.{IsValid, is_table_region, set_of_extended}
use Rattle.nor_query.specs.declared.query.Query.{Query}
use Rattle.nor_query.proofs.Passing.{passes}

-- the same three numbers name the same bytes
pub same_named : (s t : Set) (m n e f : ℕ) (at : ℕ) → s ≡ t → m ≡ n → e ≡ f → is_named s m e at ≡ is_named t n f at
same_named s t m n e f at set count ext = ap (λ x. is_named x m e at) set ∙ (ap (λ x. is_named t x e at) count ∙ ap (λ x. is_named t n x at) ext)

-- as many regions are read as asked for
pub length-regions_at : (table : List ℕ) (at n : ℕ) → length (regions_at table at n) ≡ n
length-regions_at table at zero = refl
length-regions_at table at (suc n) = ap suc (length-regions_at table (at + 4) n)

-- what a set's table says is of that set
set-extended_of : (set : Set) (table : List ℕ) → set_of_extended (extended_of set table) ≡ set
set-extended_of IntelSet table = refl
set-extended_of AmdSet table = refl

-- queries that agree in each field are one
same_query : (q r : Query) → q.set ≡ r.set → q.ext ≡ r.ext → q.alt_set ≡ r.alt_set → q.alt_ext ≡ r.alt_ext → q.volts ≡ r.volts → q.times ≡ r.times
    → q.size_log ≡ r.size_log → q.interface ≡ r.interface → q.buffer_log ≡ r.buffer_log → q.regions ≡ r.regions → q.minor ≡ r.minor
    → q.extended ≡ r.extended → q.rest ≡ r.rest → q ≡ r
same_query q r set ext alt_set alt_ext volts times size_log interface buffer_log regions minor extended rest = λ i. record {
  set = set i;
  ext = ext i;
  alt_set = alt_set i;
  alt_ext = alt_ext i;
  volts = volts i;
  times = times i;
  size_log = size_log i;
  interface = interface i;
  buffer_log = buffer_log i;
  regions = regions i;
  minor = minor i;
  extended = extended i;
  rest = rest i;
}

-- a table stands for at most one query
pub one_query : (table : List ℕ) (q r : Query) → StandsFor table q → StandsFor table r → q ≡ r
one_query table q r here there =
    let minor : q.minor ≡ r.minor = omega (arith, here.minor, there.minor) in
    let len : length q.rest ≡ length r.rest = here.rest_len ∙ sym there.rest_len in
    let free : (at : ℕ) → at < length q.rest → slice_index q.rest at ≡ slice_index r.rest at =
    λ at less. here.rest at (omega (arith, here.rest_len)) ∙ sym (there.rest at (omega (arith, here.rest_len))) in
    same_query q r (here.set ∙ sym there.set) (here.ext ∙ sym there.ext) (here.alt_set ∙ sym there.alt_set) (here.alt_ext ∙ sym there.alt_ext)
    (here.volts ∙ sym there.volts) (here.times ∙ sym there.times) (here.size_log ∙ sym there.size_log) (here.interface ∙ sym there.interface)
    (here.buffer_log ∙ sym there.buffer_log) (ap (λ items. record { items = items }) (here.regions ∙ sym there.regions)) minor
    (here.extended ∙ sym there.extended) (ext_get_or 0 q.rest r.rest len free)

-- what a table stands for is valid
pub valid_of : (table : List ℕ) (q : Query) → StandsFor table q → list_all is_table_region q.regions.items ≡ true → IsValid q
valid_of table q stands ranges =
    let all = passes table stands.checks in
    let head = all.head in
    let behind = all.ext in
    let count : length q.regions.items ≡ region_count table = ap (λ regions. length regions) stands.regions ∙ length-regions_at table 0x2D (region_count table) in
    let set : set_of table ≡ q.set = sym stands.set in
    let named = ap (λ s. named_len s) set in
    record {
      set = stands.set ∙ sym (ap (λ e. set_of_extended e) stands.extended ∙ set-extended_of (set_of table) table);
      size_log = (omega (arith, head.size_low, stands.size_log), omega (arith, head.size_high, stands.size_log));
      interface = omega (arith, head.interface, stands.interface);
      minor = omega (arith, behind.minor_high, stands.minor);
      some_regions = (let some = head.some in let found : 0 < region_count table = omega arith in omega (arith, count, found));
      few_regions = omega (arith, head.few, count);
      ranges = ranges;
      sum = ap (λ regions. total_len regions) stands.regions ∙ (all.sum ∙ ap (λ n. 2 ^ n) (sym stands.size_log));
      behind = omega (arith, behind.behind, count, stands.ext);
      inside = omega (arith, behind.inside, named, stands.ext);
      rest = λ at less is. stands.rest at less ∙ cond-true (is_named_in table at) 0 (slice_index table at) (sym (same_named q.set (set_of table) (length q.regions.items) (region_count table) q.ext (extended_at table) at stands.set count stands.ext) ∙ is);
    }
