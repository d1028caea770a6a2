-- A row of real calls beside the site book, and one leg asked of two tables. Document 01, "The site book" and "Legs
-- to try". Calls on a damaged table: document 02, C-17.
-- Assumes nothing.
use Rattle.std.specs.Prelude.{◌≡◌, List, [], ◌∷◌, map, ℕ, length, take}
use Rattle.limits.specs.Limits.{work_bytes}
use Rattle.words.specs.Words.{put_word}
use Rattle.grid.specs.declared.Site.{Site}
use Rattle.split.specs.Legs.{at, site, ten}
use Rattle.book.specs.declared.BatchResult.{BatchResult}
use Rattle.book.specs.Numbers.{reason_number}
use Rattle.book.specs.Book.{empty_book}
use Rattle.table_empty.specs.EmptyTable.{empty_table}
use Rattle.demands.specs.Batch.{return_of, LaidOut}
use Rattle.demands.specs.Whole.{Call, MadeOn, Ran, Said, Ask, asked, replies_asking, Filled, Asks}
use Rattle.demands.specs.Demands.{list4_c}
use Rattle.demands.specs.WorkBuffer.{resized}
use Rattle.replay.specs.declared.Heard.{Heard}
use Rattle.replay.specs.declared.Opening.{Opening}
use Rattle.replay.specs.declared.Closing.{Closing}
use Rattle.replay.specs.declared.Row.{Row}
use Rattle.replay.specs.declared.damage.Damaged.{Damaged}

-- a call as the book takes it
abbrev pub ask : ℕ → List ℕ → ℕ → Ask
ask work cs room = record { work = work; commands = cs; room = room }

-- a call was made on the table t: it was asked so, returned r, and left the table t' and the report rep'
pub record Called (a : Ask) (r : BatchResult) (t t' rep' : List ℕ) : Type 0 where
  pub call : Call
  pub made : MadeOn t call t'
  pub asked_so : asked call ≡ a
  pub result : call.result ≡ return_of r
  pub report : call.report_after ≡ rep'

-- two additions: sites 1 (2,3) and 2 (7,1)
abbrev pub add_both : List ℕ
add_both = 0x41 ∷ 1 ∷ 0 ∷ 2 ∷ 0 ∷ 3 ∷ 0 ∷ 0x41 ∷ 2 ∷ 0 ∷ 7 ∷ 0 ∷ 1 ∷ 0 ∷ []

-- site 3 (9,-4), and FF, which is no command
abbrev pub add_unknown : List ℕ
add_unknown = 0x41 ∷ 3 ∷ 0 ∷ 9 ∷ 0 ∷ 0xFC ∷ 0xFF ∷ 0xFF ∷ []

-- site 3 removed, and an addition that is cut short: "The bytes 41 01 00 alone: 67"
abbrev pub remove_cut : List ℕ
remove_cut = 0x44 ∷ 3 ∷ 0 ∷ 0x41 ∷ 1 ∷ 0 ∷ []

-- the list of the leg (0,0) to (10,0)
abbrev pub list_ten : List ℕ
list_ten = 0x4C ∷ 0 ∷ 0 ∷ 0 ∷ 0 ∷ 10 ∷ 0 ∷ 0 ∷ 0 ∷ []

-- the standing list
abbrev pub print_alone : List ℕ
print_alone = 0x50 ∷ []

-- the standing leg (0,0) to (10,0)
abbrev pub stand_ten : List ℕ
stand_ten = 0x53 ∷ 0 ∷ 0 ∷ 0 ∷ 0 ∷ 10 ∷ 0 ∷ 0 ∷ 0 ∷ []

-- the five calls
abbrev pub end_asks : List Ask
end_asks =
    ask 1 add_both 2 ∷ ask work_bytes add_both 2 ∷ ask work_bytes add_unknown 2 ∷ ask work_bytes remove_cut 2
    ∷ ask work_bytes list_ten 2 ∷ []

-- a reply of the book
abbrev pub reply : ℕ → ℕ → List ℕ → Said
reply reason used bytes = record { reason = reason; used = used; written = length bytes; bytes = bytes }

-- the book's replies: 64; 0 with both additions; 66 behind the addition; 67 behind the removal; 68, as the record
-- has 23 bytes
abbrev pub end_replies : List Said
end_replies =
    reply 64 0 [] ∷ reply 0 14 (0x2B ∷ 0x2B ∷ []) ∷ reply 66 7 (0x2B ∷ []) ∷ reply 67 3 (0x2B ∷ [])
    ∷ reply 68 0 [] ∷ []

-- "1 from 0/1, 2 from 37/100"
abbrev pub ten_bytes : List ℕ
ten_bytes = 0x3D ∷ 2 ∷ 0 ∷ 1 ∷ 0 ∷ 0 ∷ 0 ∷ 0 ∷ 0 ∷ 1 ∷ 0 ∷ 0 ∷ 0 ∷ 2 ∷ 0 ∷ 37 ∷ 0 ∷ 0 ∷ 0 ∷ 100 ∷ 0 ∷ 0 ∷ 0 ∷ []

-- what a call said that returned and reported so
abbrev pub said_in : {n : ℕ} → Heard n → Said
said_in r =
    record {
      reason = reason_number r.result.reason;
      used = r.result.used;
      written = r.result.written;
      bytes = take r.result.written r.report;
    }

-- what the five said
abbrev pub said_of : Opening → Closing → List Said
said_of o c = said_in o.short ∷ said_in o.used ∷ said_in c.unknown ∷ said_in c.cut ∷ said_in c.full ∷ []

-- the first two were made on a table just laid out, and left t'
pub record Opened (r : Opening) (t' : List ℕ) : Type 0 where
  pub before : List ℕ
  pub table : List ℕ
  pub laid : LaidOut before 0 table
  pub between : List ℕ
  pub short : Called (ask 1 add_both 2) r.short.result table between r.short.report
  pub used : Called (ask work_bytes add_both 2) r.used.result between t' r.used.report

-- the three behind them were made on the table t, and left t'
pub record Closed (r : Closing) (t t' : List ℕ) : Type 0 where
  pub second : List ℕ
  pub third : List ℕ
  pub unknown : Called (ask work_bytes add_unknown 2) r.unknown.result t second r.unknown.report
  pub cut : Called (ask work_bytes remove_cut 2) r.cut.result second third r.cut.report
  pub full : Called (ask work_bytes list_ten 2) r.full.result third t' r.full.report

-- "Site 1 (2,3), 2 (7,1)"
abbrev pub site_one : Site
site_one = site 1 (at 2 3)

-- and the other
abbrev pub site_two : Site
site_two = site 2 (at 7 1)

-- the addition of each alone
abbrev pub add_one : List ℕ
add_one = 0x41 ∷ 1 ∷ 0 ∷ 2 ∷ 0 ∷ 3 ∷ 0 ∷ []

-- the second
abbrev pub add_two : List ℕ
add_two = 0x41 ∷ 2 ∷ 0 ∷ 7 ∷ 0 ∷ 1 ∷ 0 ∷ []

-- a table just laid out got them, the second first, in two batches
pub record Refilled (t' : List ℕ) : Type 0 where
  pub calls : List Call
  pub ran : Ran calls t'
  pub filled : Filled (map asked calls) (site_two ∷ site_one ∷ [])

-- the leg was asked of the table t, with just the room for that record, and this is the report
pub record AskedTen (t rep t' : List ℕ) : Type 0 where
  pub call : Call
  pub asks : Asks t (list4_c ten) call t'
  pub room : length call.report ≡ 23
  pub report : call.report_after ≡ rep

-- THE CALLS, as the theorem says of them: the book's replies, and on both tables the list that document 01 gives
pub record Replayed (r : Row) : Type 0 where
  pub replies : said_of r.opening r.closing ≡ end_replies
  -- document 02, C-21: whatever length of the work buffer was asked for before, the replies are those of then
  pub any_length : (n : ℕ) → said_of r.opening r.closing ≡ replies_asking n empty_book (map (resized n) end_asks)
  pub ours : r.ours ≡ ten_bytes
  pub theirs : r.theirs ≡ r.ours

-- a table just laid out, with the greatest length of its standing list
abbrev pub length_hit : List ℕ
length_hit = put_word empty_table 12 65535

-- a call on it says 69, and leaves it
pub record LengthHit (r : Heard 2) (t' : List ℕ) : Type 0 where
  pub told : said_in r ≡ reply 69 0 []
  pub left : t' ≡ length_hit

-- a table just laid out got a standing leg: no site is held
pub record Stood (t' : List ℕ) : Type 0 where
  pub calls : List Call
  pub ran : Ran calls t'
  pub asks : map asked calls ≡ ask work_bytes stand_ten 2 ∷ []

-- THE CALLS ON DAMAGED TABLES. Document 02, C-17: "A sound tree with a wrong standing list, or a standing leg off the
-- grid, gets its own number", "tested directly after 65"
pub record DamageTold (r : Damaged) : Type 0 where
  pub length : said_in r.length ≡ reply 69 0 []
  pub flag : said_in r.flag ≡ reply 65 0 []
  pub zeros : said_in r.zeros ≡ reply 65 0 []
  pub leg : said_in r.leg ≡ reply 69 0 []
  pub siteless : said_in r.siteless ≡ reply 69 0 []
