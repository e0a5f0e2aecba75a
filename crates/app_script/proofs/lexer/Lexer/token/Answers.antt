use Rattle.std.proofs.Common.{◌≤◌, length, Err, subst}
use Rattle.script_tree.specs.Lexing.{piece}
use Rattle.app_script.specs.Pieces.{IsPiece}
use Rattle.app_script.proofs.Fronts.{takes, left_token, left_fault, left_none, some_bytes, no_bytes}
use Rattle.app_script.proofs.lexer.Lexer.token.Goals as goal

pub returns-then-is_empty-clause-next : goal.returns-then-is_empty-clause-next
returns-then-is_empty-clause-next c =
    left_none c.self.inside.place c.self.inside.text.now c.args.self.now c.self.view_is (no_bytes c.self.inside.text.now c.if-is_empty.ensures)

pub advance-requires : goal.advance-requires
advance-requires c =
    let fits = takes c.self.inside.text.now c.in-Ok.token c.in-Ok.len c.in-Ok.ensures in
    subst (λ u. c.in-Ok.len ≤ length u.text) c.self.view_is fits.1

pub returns-in-Ok-clause-next : goal.returns-in-Ok-clause-next
returns-in-Ok-clause-next c =
    (left_token c.self.inside.place c.self.inside.text.now c.in-Ok.token c.in-Ok.len c.args.self.now c.advance.new.self c.self.view_is c.requires (some_bytes c.self.inside.text.now c.if-is_empty.ensures) c.in-Ok.ensures c.advance.ensures).0

pub returns-in-Ok-clause-shorter : goal.returns-in-Ok-clause-shorter
returns-in-Ok-clause-shorter c =
    (left_token c.self.inside.place c.self.inside.text.now c.in-Ok.token c.in-Ok.len c.args.self.now c.advance.new.self c.self.view_is c.requires (some_bytes c.self.inside.text.now c.if-is_empty.ensures) c.in-Ok.ensures c.advance.ensures).1

pub returns-in-Err-Refused-clause-next : goal.returns-in-Err-Refused-clause-next
returns-in-Err-Refused-clause-next c =
    let is = subst (λ f. IsPiece (Err f) (piece c.self.inside.text.now)) c.in-Err-Refused.field-0-is c.in-Err-Refused.ensures in
    left_fault c.self.inside.place c.self.inside.text.now c.in-Err-Refused.kind c.args.self.now c.self.view_is c.requires (some_bytes c.self.inside.text.now c.if-is_empty.ensures) is
