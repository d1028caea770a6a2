-- Ties in what is answered: demand 2 has document 02's tie rule, C-11, of every list, wherever in a batch.
-- Assumes nothing.
use mathlib.Core.Path.{◌≡◌, subst⁻¹}
use mathlib.Core.List.{List, Memᴰ}
use Prim.Native.Nat.{ℕ, ◌≤◌}
use Rattle.grid.specs.declared.Site.{Site}
use Rattle.grid.specs.Side.{OnTheRight}
use Rattle.split.specs.SplitList.{Entry}
use Rattle.split.specs.Ties.{TieAlong}
use Rattle.book.specs.Book.{sites_of}
use Rattle.book.specs.Reply.{listed}
use Rattle.book.specs.Run.{Turn, after_all}
use Rattle.book.proofs.LegRecords.{EndOf, end_member}
use Rattle.book.proofs.Lists.{shown_ends}
use Rattle.table_rules.specs.Table.{book_of}
use Rattle.demands.specs.Whole.{Call}
use Rattle.demands.specs.Demands.{Answers, Demand2}

-- a list es that was answered, an entry of it, and a held site that ties with the entry's along the leg asked for
module _ (t : List ℕ) (c : Call) (d : Demand2 t c) (past : List Turn) (u : Turn) (a : Answers t c past u) (es : List Entry) (r : u.reply ≡ listed es) (e : Entry) (m : Memᴰ e es)
    (q : Site) (held : Memᴰ q (sites_of (after_all (book_of t) past))) (tie : TieAlong (d.right past u a es r).leg e.site q) where
  -- what is shown is an entry of the whole list
  listed_whole : Memᴰ e (d.right past u a es r).whole
  listed_whole =
      let l = d.right past u a es r in
      end_member es l.whole
      (subst⁻¹ (λ (x : List Entry). EndOf x l.whole) l.shown (shown_ends (after_all (book_of t) past) u.command l.whole)) e m

  -- "one on the right now comes before others"
  pub right_listed : OnTheRight (d.right past u a es r).leg q.position → OnTheRight (d.right past u a es r).leg e.site.position
  right_listed = ((d.right past u a es r).list.ties e listed_whole q held tie).side

  -- "then the lower number"
  pub lower_listed : (OnTheRight (d.right past u a es r).leg e.site.position → OnTheRight (d.right past u a es r).leg q.position) → e.site.number ≤ q.number
  lower_listed = ((d.right past u a es r).list.ties e listed_whole q held tie).number
