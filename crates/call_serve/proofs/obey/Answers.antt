use Rattle.call_serve.proofs.Carrying.{put_row, put_fits, obeyed}
use borrow.Author.Rules.{rules}
use Rattle.call_serve.proofs.obey.Goals as goal

pub put-requires : goal.put-requires
put-requires c = (search (rules, put_row), search (rules, put_fits))

pub returns : goal.returns
returns c = search (rules, obeyed)
