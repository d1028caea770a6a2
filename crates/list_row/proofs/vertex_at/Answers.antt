use borrow.Author.Rules.{rules}
use Rattle.list_row.proofs.Reading.{read_on_grid, vertex_is}
use Rattle.list_row.proofs.vertex_at.Goals as goal

pub between-a-requires : goal.between-a-requires
between-a-requires c = (search read_on_grid, search rules)

pub between-c-requires : goal.between-c-requires
between-c-requires c = (search read_on_grid, search rules)

pub returns : goal.returns
returns c = search vertex_is
