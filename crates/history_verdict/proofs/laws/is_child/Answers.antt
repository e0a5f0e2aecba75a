use Rattle.std.proofs.Common.{◌≡◌, ◌∷◌, [], ◌++◌, sym, ◌∙◌, ap, bytes_eq}
use Rattle.history_verdict.proofs.Children.{path_of_child, same_caller}
use Rattle.history_verdict.proofs.laws.is_child.Goals as goal

pub returns-then-is_number : goal.returns-then-is_number
returns-then-is_number c =
    let parts : c.args.path.now ≡ c.in-Some.caller.now ++ c.in-Some.number.now ∷ [] = sym c.as_slice.ensures ∙ c.in-Some.ensures.cases.0 in
    let same : c.eq.result ≡ bytes_eq c.in-Some.caller.now c.args.join.now.caller.now = c.eq.ensures ∙ ap (bytes_eq c.in-Some.caller.now) c.as_slice-then-is_number.ensures in (
      λ t. path_of_child c.args.path.now c.in-Some.caller.now c.args.join.now.caller.now c.in-Some.number.now c.args.join.now.calls parts (c.is_number.ensures.0 c.if-is_number.true) (sym same ∙ t),
      λ e. same ∙ same_caller c.args.path.now c.in-Some.caller.now c.args.join.now.caller.now c.in-Some.number.now c.args.join.now.calls parts e,
    )
