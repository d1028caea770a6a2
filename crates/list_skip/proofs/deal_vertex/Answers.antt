use native.Mathlib.Omega.{arith}
use Rattle.list_skip.proofs.Dealing.{deal_full, deal_inserted}
use borrow.Author.Rules.{rules}
use Rattle.list_skip.proofs.deal_vertex.Goals as goal

pub returns-then-k-eq-MAX_SITES : goal.returns-then-k-eq-MAX_SITES
returns-then-k-eq-MAX_SITES c = search (rules, deal_full)

pub insert-requires : goal.insert-requires
insert-requires c = record { held = (search rules, search rules, record { few = omega arith; row = omega arith }, search rules); vertex = (search rules, search rules) }

pub returns : goal.returns
returns c = search (rules, deal_inserted)
