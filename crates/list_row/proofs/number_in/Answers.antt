use mathlib.Core.Path.{◌∙◌}
use borrow.Author.Rules.{rules}
use Rattle.list_row.proofs.Reading.{number_asks, number_is}
use Rattle.list_row.proofs.number_in.Goals as goal

pub word-requires-2 : goal.word-requires-2
word-requires-2 c = number_asks _ _ _ _ (c.from-p.ensures ∙ c.word.ensures.0) c.requires.1

pub returns : goal.returns
returns c = (number_is _ _ _ _ (c.from-p.ensures ∙ c.word.ensures.0) _ c.word-2.ensures.0, search rules)
