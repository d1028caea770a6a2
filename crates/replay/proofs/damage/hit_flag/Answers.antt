use Rattle.replay.proofs.Faults.{flag_hit, hit_long}
use borrow.Author.Rules.{rules}
use Rattle.replay.proofs.damage.hit_flag.Goals as goal

pub put_word-requires : goal.put_word-requires
put_word-requires c = search (rules, hit_long)

pub returns : goal.returns
returns c = search (rules, flag_hit)
