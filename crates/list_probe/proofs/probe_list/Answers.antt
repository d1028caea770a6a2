use borrow.Author.Rules.{rules}
use Rattle.list_probe.proofs.Writing.{ready_true, probed_good, probed_refused}
use Rattle.list_probe.proofs.probe_list.Goals as goal

pub written-requires : goal.written-requires
written-requires c = search (rules, ready_true)

pub returns-then-buildable : goal.returns-then-buildable
returns-then-buildable c = search (rules, probed_good)

pub returns : goal.returns
returns c = search (rules, probed_refused)
