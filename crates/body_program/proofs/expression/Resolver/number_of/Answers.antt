use Rattle.std.proofs.Common.{ap, ◌∙◌, bytes_eq, arith}
use Rattle.std.specs.List.{position_or_len}
use Rattle.body_program.proofs.Numbers.{number_mapped, number_within}
use Rattle.body_program.proofs.expression.Resolver.number_of.Goals as goal

pub overflow_cast-result : goal.overflow_cast-result
overflow_cast-result c =
    let apps = c.args.self.now.apps.now in
    let few = number_within apps c.args.name.now c.number_of.result (c.number_of.ensures ∙ ap (λ n. position_or_len (λ app. bytes_eq app.name n) apps) c.as_str.ensures) c.args.self.now.few in
    omega arith

pub returns : goal.returns
returns c =
    let apps = c.args.self.now.apps.now in
    c.number_of.ensures ∙ ap (λ n. position_or_len (λ app. bytes_eq app.name n) apps) c.as_str.ensures ∙ number_mapped apps c.args.name.now
