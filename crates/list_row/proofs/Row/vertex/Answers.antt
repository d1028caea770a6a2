use mathlib.Core.Path.{◌∙◌}
use borrow.Author.Rules.{rules}
use Rattle.list_row.proofs.Reading.{in_has, in_is}
use Rattle.list_row.proofs.Row.vertex.Goals as goal

pub vertex_at-requires : goal.vertex_at-requires
vertex_at-requires c = (in_has _ _ (c.from-p.ensures ∙ c.word.ensures.0) c.args.self.held c.requires, search rules)

pub returns : goal.returns
returns c = in_is _ _ (c.from-p.ensures ∙ c.word.ensures.0) c.vertex_at.ensures
