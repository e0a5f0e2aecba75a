use Rattle.std.proofs.Common.{◌≡◌, drop}
use Rattle.std.specs.List.{list_all}
use Rattle.join_apps.specs.Futures.{is_future}
use Rattle.join_apps.proofs.joined.are_futures.Given as goal

abbrev pub invariant-loop-item : goal.invariant-loop-item
invariant-loop-item l = list_all is_future (drop l.item-index l.items) ≡ list_all is_future l.items
