-- What the shelf and the sink in memory hold.
use Rattle.std.specs.Prelude.{ℕ, List, Some}
use Rattle.std.specs.Option.{option_map}
use Rattle.std.specs.BTreeMap.{get_by_text}
use Rattle.nor_io.specs.Files.{FileMap, ShelfState, SinkState}
use Rattle.nor_io.specs.declared.calls.Calls.{Calls}
use Rattle.nor_io.specs.declared.mem_shelf.MemShelf.{MemShelf}
use Rattle.nor_io.specs.declared.mem_sink.MemSink.{MemSink}

-- the files of a shelf in memory
abbrev pub files_of : MemShelf → FileMap
files_of shelf name = option_map (λ bytes. bytes.items) (get_by_text shelf.files name)

-- the calls of a shelf in memory
abbrev pub shelf_calls : MemShelf → Calls
shelf_calls shelf = shelf.calls

-- it tells its files
abbrev pub shelf_state : MemShelf → ShelfState
shelf_state shelf = record { files = Some (files_of shelf); faults = (shelf_calls shelf).faults }

-- the bytes that a sink in memory has taken
abbrev pub bytes_of : MemSink → List ℕ
bytes_of sink = sink.bytes.items

-- the calls of a sink in memory
abbrev pub sink_calls : MemSink → Calls
sink_calls sink = sink.calls

-- it tells what it has taken
abbrev pub sink_state : MemSink → SinkState
sink_state sink = record { taken = Some (bytes_of sink); faults = (sink_calls sink).faults }
