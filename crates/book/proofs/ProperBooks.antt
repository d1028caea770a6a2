-- A book that keeps the rules on sites: its sites have split lists.
-- Assumes nothing.
use Rattle.split.specs.SplitList.{Numbered}
use Rattle.book.specs.Book.{Book}
use Rattle.book.specs.Proper.{Proper}
use Rattle.book.proofs.Lines.{rising_one}

-- no two sites have one number
pub proper_numbered : (b : Book) → Proper b → Numbered b.lines
proper_numbered b ok = record { small = λ p m. (ok.numbers p m).most; one = rising_one b.lines ok.rising }
