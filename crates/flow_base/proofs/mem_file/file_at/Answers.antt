use Rattle.std.proofs.Common.{◌∙◌, ap, sym, Some}
use Rattle.flow_base.specs.MemShelf.{NamedFile, stand_of}
use Rattle.flow_base.proofs.Files.{first_stands}
use Rattle.flow_base.proofs.mem_file.file_at.Goals as goal

pub returns : goal.returns
returns c = first_stands c.args.files.now c.args.name.now c.args.place c.index-files-place.result c.requires.found ∙ ap (λ (e : NamedFile). Some (stand_of e)) (sym c.index-files-place.is)
