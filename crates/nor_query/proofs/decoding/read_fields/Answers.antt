use Rattle.std.proofs.Common.{◌≡◌, ◌+◌, refl, ◌∙◌, ap, arith, rules}
use Rattle.std.specs.Prelude.{slice_index, if◌then◌else◌}
use Rattle.nor_cell.specs.Table.{extended_at, set_of}
use Rattle.nor_query.specs.Fields.{extended_of, region_count}
use Rattle.nor_query.proofs.Passing.{passes}
use Rattle.nor_query.proofs.Standing.{same_named}
use Rattle.nor_query.proofs.decoding.read_fields.Goals as goal

pub returns-clause-stands : goal.returns-clause-stands
returns-clause-stands c =
    let table = c.args.table.now in
    let all = passes table c.requires in
    let ext : c.from.result ≡ extended_at table = c.from.ensures ∙ c.word_at-ext.ensures in
    let place : c.from-2.result ≡ extended_at table = c.from-2.ensures ∙ c.word_at-ext.ensures in
    let minor = ap (λ at. slice_index table (at + 4)) place in
    let count : c.len.result ≡ region_count table = c.len.ensures.value ∙ c.regions_of-regions.ensures.count in
    record {
      len = search rules;
      bytes = λ at. search rules;
      checks = c.requires;
      set = c.set_of-set.ensures;
      ext = c.word_at-ext.ensures;
      alt_set = c.word_at.ensures;
      alt_ext = c.word_at-2.ensures;
      volts = c.volts_of.ensures;
      times = c.times_of.ensures;
      size_log = refl;
      interface = c.word_at-3.ensures;
      buffer_log = c.word_at-4.ensures;
      regions = c.regions_of-regions.ensures.regions;
      minor = omega (arith, minor, all.ext.minor_low);
      extended = c.extended_of.ensures ∙ ap (λ set. extended_of set table) c.set_of-set.ensures;
      rest_len = c.free_bytes-rest.ensures.len;
      rest = λ at less. c.free_bytes-rest.ensures.bytes at less ∙ ap (λ named. if named then 0 else slice_index table at)
          (same_named c.set_of-set.result (set_of table) c.len.result (region_count table) c.from.result (extended_at table) at c.set_of-set.ensures count ext);
    }
