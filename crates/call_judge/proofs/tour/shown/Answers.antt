use Rattle.call_judge.proofs.Touring.{shown_done}
use Rattle.call_judge.proofs.tour.shown.Goals as goal

pub returns : goal.returns
returns c =
    let r = c.args.row in
    shown_done r.t.now r.places.now (record { corner = r.leg.s; last = c.args.last }) r.leg.e r.k c.requires.sound.0 c.requires.sound.1 c.requires.sound.2 c.requires.lists_table.0
    c.number-first.result c.number-ending.result c.passed-j.result c.number-first.ensures.0 c.number-ending.ensures.0 c.passed-j.ensures c.requires.lists_table.1
