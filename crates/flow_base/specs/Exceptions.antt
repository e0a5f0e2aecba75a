-- The names of exceptions.
use Rattle.std.specs.Prelude.{ℕ, List, codes}
use Rattle.flow_base.specs.declared.outcome.Exception.{Exception}
use Rattle.flow_base.specs.declared.outcome.Exception.TheVariants as x

abbrev pub exception_name : Exception → List ℕ
exception_name x.ZeroDivisionError = codes "ZeroDivisionError"
exception_name x.OverflowError = codes "OverflowError"
exception_name x.TypeError = codes "TypeError"
exception_name x.IndexError = codes "IndexError"
exception_name x.ValueError = codes "ValueError"
exception_name x.SizeError = codes "SizeError"
exception_name x.BudgetError = codes "BudgetError"
exception_name x.MissingOutputs = codes "MissingOutputs"
exception_name (x.AppError text) = codes "AppError"
exception_name (x.DependencyError paths) = codes "DependencyError"
exception_name (x.JoinError paths) = codes "JoinError"
exception_name x.DepthError = codes "DepthError"
exception_name (x.ManagerLost manager) = codes "ManagerLost"
