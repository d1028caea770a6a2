-- The list of a leg on the grid: its command has bytes, its answer is the split list, and that list is right.
-- Assumes nothing.
use mathlib.Core.Path.{◌≡◌, refl, subst⁻¹}
use mathlib.Core.Logic.{◌≢◌}
use mathlib.Core.List.{List, [], ◌∷◌}
use native.Mathlib.Omega.{arith}
use lib.ListN.{length}
use Rattle.grid.specs.declared.Position.{Position}
use Rattle.grid.specs.declared.Site.{Site}
use Rattle.grid.specs.declared.Leg.{Leg}
use Rattle.grid.specs.Position.{OnGrid, LegOnGrid}
use Rattle.split.specs.SplitList.{Entry, IsSplitList, Stretches}
use Rattle.split.specs.SplitOf.{split_of}
use Rattle.split.proofs.Closed.{closed}
use Rattle.split.proofs.Ties.{first_of_ties}
use Rattle.split.proofs.Exists.{split_is}
use Rattle.book.specs.declared.Command.TheVariants.{List as ListOf}
use Rattle.book.specs.Book.{Book, sites_of}
use Rattle.book.specs.Proper.{Proper}
use Rattle.book.specs.Reply.{listed}
use Rattle.book.specs.Answer.{answer}
use Rattle.book.proofs.Answers.{answer_list_done}
use Rattle.book.proofs.ProperBooks.{proper_numbered}
use Rattle.book.proofs.Lists.{list_read}
use Rattle.book.proofs.ReadBack.{PositionSmall, Encodable}
use Rattle.demands.specs.Demands.{AllNearest, RightList}

pub small : (p : Position) → OnGrid p → PositionSmall p
small p h = record { east = omega (arith, h.east); north = omega (arith, h.north) }

pub list_encodable : (l : Leg) → LegOnGrid l → Encodable (ListOf l)
list_encodable l h = (small l.s h.s, small l.e h.e)

pub held_some : (s : List Site) → s ≢ [] → length s ≢ 0
held_some [] h e = h refl
held_some (p ∷ s) h e = omega arith

pub list_answer : (b : Book) (l : Leg) → LegOnGrid l → sites_of b ≢ []
    → answer b (ListOf l) ≡ listed (split_of l (sites_of b))
list_answer b l on h = answer_list_done b l on (held_some (sites_of b) h)

all_nearest : (l : Leg) (s : List Site) (es : List Entry) → Stretches l s es → AllNearest l s es
all_nearest l s [] h = tt
all_nearest l s (e ∷ es) h = (closed l s e es h, all_nearest l s es h.1)

-- THE LIST IS RIGHT
pub list_right : (b : Book) → Proper b → (l : Leg) → LegOnGrid l → (es : List Entry) → es ≡ split_of l (sites_of b)
    → RightList l (sites_of b) es
list_right b ok l on es e =
    let h : IsSplitList l (sites_of b) es =
    subst⁻¹ (λ (x : List Entry). IsSplitList l (sites_of b) x) e (split_is l (sites_of b) (proper_numbered b ok)) in
    record {
      is = e;
      rules = h;
      nearest = all_nearest l (sites_of b) es h.rules;
      ties = first_of_ties l (sites_of b) (proper_numbered b ok) es h;
      read = list_read b ok l on es h;
    }
