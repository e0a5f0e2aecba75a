use Rattle.body_requests.proofs.Declared.{main_well, act_well}
use Rattle.body_requests.proofs.asked.bodies_ask_well.Goals as goal

pub returns : goal.returns
returns c = λ s h. (main_well s h, λ k a arguments at. act_well s k a arguments h at)
