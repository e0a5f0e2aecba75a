-- The text of a log.
use Rattle.std.specs.Prelude.{ℕ, List, [], ◌∷◌, ◌++◌, flat_map, codes}
use Rattle.std.specs.Fmt.{decimal}
use Rattle.text_writer.specs.Written.{path_text, quoted}
use Rattle.task_record.specs.States.{status_name}
use Rattle.flow_base.specs.declared.decision.Decision.{Decision}
use Rattle.flow_base.specs.declared.decision.Decision.TheVariants as decision
use Rattle.event_log.specs.declared.entry.Entry.{Entry}
use Rattle.event_log.specs.declared.entry.Entry.TheVariants as entry
use Rattle.event_log.specs.LogWords.{block_word}

-- an attempt of a task, as `1.2 try 1`
abbrev pub attempt_text : List ℕ → ℕ → List ℕ
attempt_text path attempt = path_text path ++ codes " try " ++ decimal attempt

-- an attempt at a manager, as `1.2 try 1 manager 3`
abbrev pub managed_text : List ℕ → ℕ → ℕ → List ℕ
managed_text path attempt manager = attempt_text path attempt ++ codes " manager " ++ decimal manager

abbrev pub decision_text : Decision → List ℕ
decision_text decision.Keep = codes "keep"
decision_text (decision.Out n) = codes "out " ++ decimal n
decision_text (decision.In n) = codes "in " ++ decimal n

abbrev pub entry_text : Entry → List ℕ
entry_text (entry.Submit path app) = codes "submit " ++ path_text path ++ codes " " ++ app
entry_text (entry.JoinRun path) = codes "join " ++ path_text path
entry_text (entry.MemoHit path) = codes "memo " ++ path_text path
entry_text (entry.Launch path attempt) = codes "launch " ++ attempt_text path attempt
entry_text (entry.Dispatch path attempt manager) = codes "dispatch " ++ managed_text path attempt manager
entry_text (entry.Start path attempt manager) = codes "start " ++ managed_text path attempt manager
entry_text (entry.Ended path attempt manager ended) = codes "ended " ++ managed_text path attempt manager ++ codes " " ++ ended
entry_text (entry.Held path attempt manager) = codes "held " ++ managed_text path attempt manager
entry_text (entry.LostTry path attempt manager) = codes "losttry " ++ managed_text path attempt manager
entry_text (entry.Stored path) = codes "stored " ++ path_text path
entry_text (entry.Settled path status) = codes "settled " ++ path_text path ++ codes " " ++ status_name status
entry_text (entry.Block block state) = codes "block " ++ decimal block ++ codes " " ++ block_word state
entry_text (entry.Register manager block slots) = codes "register " ++ decimal manager ++ codes " block " ++ decimal block ++ codes " slots " ++ decimal slots
entry_text (entry.Refused block version) = codes "refused " ++ decimal block ++ codes " " ++ quoted version
entry_text (entry.Tick at) = codes "tick " ++ decimal at
entry_text (entry.Beat manager) = codes "beat " ++ decimal manager
entry_text (entry.Silent manager) = codes "silent " ++ decimal manager
entry_text (entry.Lost manager) = codes "lost " ++ decimal manager
entry_text (entry.Drain manager) = codes "drain " ++ decimal manager
entry_text (entry.Drained manager) = codes "drained " ++ decimal manager
entry_text (entry.Hold manager) = codes "hold " ++ decimal manager
entry_text (entry.Scale decided) = codes "scale " ++ decision_text decided
entry_text (entry.Checkpoint count) = codes "checkpoint " ++ decimal count
entry_text entry.End = codes "end"

abbrev pub entry_line : Entry → List ℕ
entry_line entry = entry_text entry ++ 10 ∷ []

-- a line for each entry
abbrev pub log_text : List Entry → List ℕ
log_text entries = flat_map entry_line entries
