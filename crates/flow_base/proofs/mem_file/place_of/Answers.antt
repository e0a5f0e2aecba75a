use Rattle.std.proofs.Common.{◌∙◌, sym, arith}
use Rattle.flow_base.proofs.Files.{first_here, none_before_more}
use Rattle.flow_base.proofs.mem_file.place_of.Goals as goal

pub returns-then-has_name-clause-at : goal.returns-then-has_name-clause-at
returns-then-has_name-clause-at c =
    first_here _ _ c.loop-place.place c.index-files-place.result (omega arith) c.index-files-place.is (sym c.has_name.ensures ∙ c.if-has_name.true) c.loop-place.invariant

pub loop-place-preserved : goal.loop-place-preserved
loop-place-preserved c =
    none_before_more _ _ c.loop-place.place c.index-files-place.result (omega arith) c.index-files-place.is (sym c.has_name.ensures ∙ c.if-has_name.false) c.loop-place.invariant
