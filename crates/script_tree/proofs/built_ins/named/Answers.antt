use Rattle.std.proofs.Common.{sym}
use Rattle.script_tree.proofs.Names.{unnamed}
use Rattle.script_tree.proofs.built_ins.named.Goals as goal

pub returns-in_default : goal.returns-in_default
returns-in_default c = rw (← c.as_str.ensures) (sym (unnamed _ c.in_default.not-len c.in_default.not-text c.in_default.not-number c.in_default.not-slice c.in_default.not-range c.in_default.not-append c.in_default.not-split c.in_default.not-concat c.in_default.not-file c.in_default.not-name c.in_default.not-content c.in_default.not-output c.in_default.not-result c.in_default.not-exception))
