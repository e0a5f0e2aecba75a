use Rattle.app_check.proofs.Lengths as lengths
use Rattle.app_check.proofs.law.marks_are_tokens.Goals as goal

pub returns : goal.returns
returns c = lengths.marks_are_tokens
