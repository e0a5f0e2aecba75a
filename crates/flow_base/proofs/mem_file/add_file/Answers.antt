use Rattle.std.proofs.Common.{rules}
use Rattle.flow_base.proofs.Files.{added_told}
use Rattle.flow_base.proofs.mem_file.add_file.Goals as goal

pub returns-clause-ok : goal.returns-clause-ok
returns-clause-ok c = search (rules, added_told c.args.files.now.items c.args.name.now c.args.file c.requires.new c.requires.named)
