use Rattle.consistency.proofs.solving.leaves_of.Goals as goal

pub returns-clause-leaves : goal.returns-clause-leaves
returns-clause-leaves c = record {
  causes = c.in_ok-causes.causes.items;
  steps = c.in_ok-steps.steps.items;
  are_causes = rw c.deref.ensures.value at c.in_ok-causes.ensures.causes;
  are_steps = rw (c.deref-2.ensures.value, c.deref-3.ensures.value) at c.in_ok-steps.ensures.steps;
  ends = rw c.deref-4.ensures.value at c.in_ok-ends.ensures.ends;
}
