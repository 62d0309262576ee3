-- Want of memory leaves what the sink has taken.
use Rattle.std.proofs.Common.{rules}
use Rattle.nor_io.specs.Memory.{sink_state}
use Rattle.nor_io.proofs.Putting.{puts_nothing}
use Rattle.nor_io.proofs.mem_sink.MemSinkSink.put.Goals as goal

pub returns-in_err-extend_from_slice-clause-puts : goal.returns-in_err-extend_from_slice-clause-puts
returns-in_err-extend_from_slice-clause-puts c =
    puts_nothing c.args.bytes.now (sink_state c.args.self.now) (sink_state (record { bytes = c.extend_from_slice.new.self; calls = c.fails.new.self })) c.from_residual.result (search rules) (search rules)
