-- Where the last attempt of a task stands, in short.
use Rattle.std.specs.Prelude.{if◌then◌else◌, bytes_eq}
use Rattle.history_verdict.specs.declared.reads.Progress.{Progress}
use Rattle.history_verdict.specs.declared.reads.Progress.TheVariants as progress
use Rattle.history_laws.specs.Reads.{Stage, Unlaunched, Waiting, Running, Over, value_word}

abbrev pub progress_of : Stage → Progress
progress_of Unlaunched = progress.Unlaunched
progress_of Waiting = progress.Waiting
progress_of Running = progress.Running
progress_of (Over kind) = if bytes_eq kind value_word then progress.Valued else progress.Raised
