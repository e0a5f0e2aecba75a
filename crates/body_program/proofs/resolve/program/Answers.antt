use Rattle.flow_meaning.specs.Walk.{names_in}
use Rattle.body_program.proofs.Programs.{program_of, slots_later}
use Rattle.body_program.proofs.resolve.program.Goals as goal

pub returns : goal.returns
returns c = program_of (record { parameters = c.in_ok-parameters.parameters; slots = c.len.result; steps = c.in_ok-steps.steps }) c.block.new.names (names_in c.args.apps.now) c.args.body.now c.args.parameters.now c.len.ensures.len c.len.ensures.distinct (slots_later c.in_ok-parameters.parameters c.args.parameters.now c.in_ok-steps.ensures.grows c.in_ok-parameters.ensures.slots) c.in_ok-steps.ensures.follow
