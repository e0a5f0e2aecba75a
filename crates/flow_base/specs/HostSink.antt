-- A sink over a writer of std.
use Rattle.std.specs.Prelude.{ℕ, zero, suc, Ok, Err}
use Rattle.std.specs.declared.result.Result.{Result}
use Rattle.flow_base.specs.declared.sink.Failed.{Failed}
use Rattle.flow_base.specs.declared.host_sink.HostSink.{HostSink}

abbrev pub writer_of : {W : Type 0} → HostSink W → W
writer_of sink = sink.writer

-- what a sink answers to the count of a writer: no byte and an error are failures
abbrev pub answer_of : {E : Type 0} → Result ℕ E → Result ℕ Failed
answer_of (Ok zero) = Err (record {})
answer_of (Ok (suc n)) = Ok (suc n)
answer_of (Err e) = Err (record {})
