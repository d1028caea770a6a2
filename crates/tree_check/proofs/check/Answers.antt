use Rattle.std.proofs.Common.{rules}
use Rattle.tree_check.proofs.Marking.{blank_bits}
use Rattle.tree_check.proofs.RootPassing.{bits_next}
use Rattle.tree_check.proofs.Tying.{check_root_no, check_free_no, check_told}
use Rattle.tree_check.proofs.check.Goals as goal

pub check_root-requires : goal.check_root-requires
check_root-requires c = search (rules, blank_bits)

pub check_free-requires : goal.check_free-requires
check_free-requires c = bits_next _ _ _ _ _ c.check_root.ensures c.if-not-check_root.false

pub returns-then-check_free : goal.returns-then-check_free
returns-then-check_free c = search check_told

pub returns-else-check_free : goal.returns-else-check_free
returns-else-check_free c = rw c.if-check_free.false (search check_free_no)

pub returns-then-not-check_root : goal.returns-then-not-check_root
returns-then-not-check_root c = search check_root_no
