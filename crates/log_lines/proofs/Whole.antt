-- Each entry of a legal log has a line.
use Rattle.std.proofs.Common.{List, [], ◌∷◌, All, reverse, subst}
use Rattle.std.proofs.lemmas.List.{reverse-append}
use Rattle.std.proofs.lemmas.List.Elements.{All-nil, All-cons}
use Rattle.event_log.specs.Logs.{HasLine}
use Rattle.body_requests.specs.Asks.{Each}
use Rattle.body_requests.proofs.Acts.{each_parts}
use Rattle.history_laws.specs.Tables.{table}
use Rattle.history_laws.specs.Reads.{history_of, lost}
use Rattle.log_lines.specs.Lines.{LegalLogsHaveLines}
use Rattle.log_lines.proofs.Apps.{tasks-apps}
use Rattle.log_lines.proofs.Histories.{history-lines}
use Rattle.log_lines.proofs.Rows.{table-words}

-- what holds of each, last first
reversed : {A : Type 0} (P : A → Type 0) (xs : List A) → Each P (reverse xs) → All P xs
reversed P [] h = All-nil P
reversed P (x ∷ xs) h =
    let parts = each_parts P (reverse xs) (x ∷ []) (subst (Each P) (reverse-append (x ∷ []) xs) h) in
    All-cons P x xs parts.1.0 (reversed P xs parts.0)

pub legal-lines : LegalLogsHaveLines
legal-lines tree r entries good names legal =
    let b = history_of entries in
    let losses = lost b in
    reversed HasLine entries (history-lines (table tree losses) (table-words tree losses names (tasks-apps tree losses good)) r b legal)
