-- Arguments that match values are resolved to them.
use Rattle.std.proofs.Common.{◌≡◌, true, List, map}
use Rattle.flow_base.specs.declared.value.Value.{Value}
use Rattle.flow_base.specs.Values.{all_match, same}
use Rattle.flow_base.proofs.Equality.{all_equal, all_match-equal}
use Rattle.flow_meaning.specs.Sequential.{Tasks, resolved}
use Rattle.dependency_graph.specs.Resolved.{argument_resolved}

pub resolved_equal : (ts : Tasks) (arguments values : List Value) → all_match (map same (map (argument_resolved ts) arguments)) values ≡ true → resolved ts arguments ≡ values
unfolding resolved
resolved_equal ts arguments values = all_equal (map (argument_resolved ts) arguments) values

pub resolved_matches : (ts : Tasks) (arguments values : List Value) → resolved ts arguments ≡ values → all_match (map same (map (argument_resolved ts) arguments)) values ≡ true
unfolding resolved
resolved_matches ts arguments values = all_match-equal (map (argument_resolved ts) arguments) values

pub ruleset resolved_rules = (resolved_equal, resolved_matches)
