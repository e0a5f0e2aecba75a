use Rattle.parsl_engine.proofs.Outputs.{seq_produces}
use Rattle.parsl_engine.proofs.output.plain_output.Goals as goal

pub returns-in-Seq : goal.returns-in-Seq
returns-in-Seq c = λ told. rw c.in-Seq.is (seq_produces c.args.bytes.now c.in_ok-script.script c.head_output.result told c.in_ok-script.ensures (c.head_output.ensures told))
