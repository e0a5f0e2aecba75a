use Rattle.flow_base.proofs.Files.{replaced_told}
use Rattle.flow_base.proofs.mem_file.replace_at.Goals as goal

pub returns : goal.returns
returns c = replaced_told c.args.files.now c.args.name.now c.args.place c.index-files-place.result c.replace.new.self c.args.bytes.items c.requires.found c.index-files-place.is c.replace.ensures
