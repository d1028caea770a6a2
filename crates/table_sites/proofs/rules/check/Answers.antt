use Rattle.table_sites.proofs.Checking.{check_none, check_one, check_stopped, check_all, check_many}
use borrow.Author.Rules.{rules}
use Rattle.table_sites.proofs.rules.check.Goals as goal

pub returns-then-n-gt-MAX_SITES : goal.returns-then-n-gt-MAX_SITES
returns-then-n-gt-MAX_SITES c = search (rules, check_many)

pub loop-k-init : goal.loop-k-init
loop-k-init c = search (rules, check_none)

pub returns-then-not-record_ok : goal.returns-then-not-record_ok
returns-then-not-record_ok c = check_stopped c.loop-k.invariant c.loop-k-test.true c.record_ok.result c.record_ok.ensures c.if-not-record_ok.true

pub loop-k-preserved : goal.loop-k-preserved
loop-k-preserved c =
    check_one c.loop-k.invariant c.loop-k-test.true c.record_ok.result c.record_ok.ensures c.if-not-record_ok.false
    c.word-low.ensures.0

pub returns : goal.returns
returns c = search (rules, check_all)
