-- Jobs and their ends.
use Rattle.std.specs.Prelude.{List, slice_get}
use Rattle.script_tree.specs.declared.tree.AppDef.{AppDef}
use Rattle.compiled_script.specs.Programs.{IsPlainApp}
use Rattle.kernel_model.specs.Jobs.{JobView}

-- the job's app is one of these, and it isn't a join
abbrev pub FitsApps : List AppDef → JobView → Type 0
FitsApps apps job = IsPlainApp (slice_get apps job.app)
