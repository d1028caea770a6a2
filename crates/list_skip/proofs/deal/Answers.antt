use borrow.Author.Rules.{rules}
use Rattle.list_row.proofs.Reading.{itself, itself_has}
use Rattle.list_skip.proofs.Witnesses.{if_true, gap_small, looked}
use Rattle.list_skip.proofs.Dealing.{deal_skipped, place_space, place_dealt}
use Rattle.list_skip.proofs.deal.Goals as goal

pub tell-seen-requires : goal.tell-seen-requires
tell-seen-requires c = (gap_small _ _ _ _ _ _ c.cut.ensures, search rules)

pub returns-then-seen : goal.returns-then-seen
returns-then-seen c =
    let seen = looked {l = c.args.leg} {t = c.args.t.now} {r = c.args.work.now} {n = c.args.k} c.cut.result (search rules) c.cut.ensures c.tell-seen.ensures in
    deal_skipped c.requires.held.0 c.vertex_at-x.ensures (if_true _ c.if-seen.true seen.shut)

pub deal_vertex-requires : goal.deal_vertex-requires
deal_vertex-requires c =
    let seen = looked {l = c.args.leg} {t = c.args.t.now} {r = c.args.work.now} {n = c.args.k} c.cut.result (search rules) c.cut.ensures c.tell-seen.ensures in
    record {
      held = (search rules, search rules, search (rules, itself_has), search (rules, itself));
      space = (search (rules, place_space), search rules, seen.cut);
    }

pub returns : goal.returns
returns c = search (rules, place_dealt)
