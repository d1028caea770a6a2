use borrow.Author.Rules.{rules}
use Rattle.list_probe.proofs.Order.{ready_sites}
use Rattle.list_probe.proofs.Writing.{wrote_none, wrote_all}
use Rattle.list_probe.proofs.written.Goals as goal

pub build-k-requires : goal.build-k-requires
build-k-requires c = (search ready_sites, search rules, search rules)

pub returns-then-report-size : goal.returns-then-report-size
returns-then-report-size c = search (rules, wrote_none)

pub returns : goal.returns
returns c = search (rules, wrote_all)
