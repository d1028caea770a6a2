use Rattle.table_admit.proofs.Admitting.{wrong_lengths, marks_fit, row_fits, is_whole}
use Rattle.table_admit.proofs.Admitting.{table_taken, broken_table, broken_standing}
use borrow.Author.Tests.{not-true, not-false}
use borrow.Author.Rules.{rules}
use Rattle.table_admit.proofs.admit.Goals as goal

pub returns-then-not-lengths_ok : goal.returns-then-not-lengths_ok
returns-then-not-lengths_ok c = search (rules, not-true, wrong_lengths)

pub whole_ok-requires : goal.whole_ok-requires
whole_ok-requires c = search (rules, not-false, marks_fit)

pub returns-then-not-whole_ok : goal.returns-then-not-whole_ok
returns-then-not-whole_ok c =
    broken_table _ _ _ c.lengths_ok.ensures c.if-not-lengths_ok.false _ c.in-Ok.ensures.1 _ c.whole_ok.ensures c.whole_ok.new.work (search rules) _ (search rules) c.if-not-whole_ok.true

pub standing_ok-requires : goal.standing_ok-requires
standing_ok-requires c = (search (rules, is_whole), search (rules, not-false, row_fits))

pub returns-then-standing_ok : goal.returns-then-standing_ok
returns-then-standing_ok c =
    table_taken _ _ _ c.lengths_ok.ensures c.if-not-lengths_ok.false _ c.in-Ok.ensures.1 _ c.whole_ok.ensures c.whole_ok.new.work (search rules) c.if-not-whole_ok.false _ c.standing_ok.ensures c.standing_ok.new.work (search rules) c.if-standing_ok.true

pub returns : goal.returns
returns c =
    broken_standing _ _ _ c.lengths_ok.ensures c.if-not-lengths_ok.false _ c.in-Ok.ensures.1 _ c.whole_ok.ensures c.whole_ok.new.work (search rules) c.if-not-whole_ok.false _ c.standing_ok.ensures c.standing_ok.new.work (search rules) _ (search rules) c.if-standing_ok.false
