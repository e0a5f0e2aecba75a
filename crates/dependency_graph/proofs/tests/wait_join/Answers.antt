use Rattle.dependency_graph.proofs.tests.wait_join.Goals as goal

pub wait_join-requires : goal.wait_join-requires
wait_join-requires c = record {
  task = c.args.task;
  is = rw c.in_ok-path.ensures c.requires.is;
  there = rw (c.as_slice.ensures, c.in_ok-returned.ensures) c.requires.there;
  distinct = rw (c.as_slice.ensures, c.in_ok-returned.ensures) c.requires.distinct;
}
