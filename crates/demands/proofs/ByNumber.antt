-- A table of the release before C-11 of document 02 is refused with 69 exactly where the rule changes its stored list.
-- Assumes nothing.
use mathlib.Core.Path.{◌≡◌, refl, sym, ap, ◌∙◌, subst⁻¹}
use mathlib.Core.Bool.{true}
use Rattle.std.specs.Prelude.{Option, None, Some}
use mathlib.Core.List.{List}
use Prim.Native.Nat.{ℕ}
use native.Mathlib.Decide.{dec_le, dec_lt}
use native.Mathlib.Omega.{arith}
use lib.ListN.{get_or}
use Rattle.limits.specs.Limits.{work_bytes}
use Rattle.grid.specs.declared.Leg.{Leg}
use Rattle.grid.specs.Position.{squared_difference, distance}
use Rattle.grid.specs.Side.{on_the_right?, way_back}
use Rattle.grid.specs.Fraction.{gcd_by, gcd_of, lowest}
use Rattle.split.specs.SplitList.{rank}
use Rattle.split.specs.SplitOf.{hides?, right_below?, under?, push, insert, build, split_of}
use Rattle.split.specs.ByNumber.{NoTie, split_by_number}
use Rattle.split.specs.Legs.{ten}
use Rattle.split.proofs.ByNumber.{no_tie_same}
use Rattle.book.specs.Book.{Book, sites_of, list_of}
use Rattle.table_standing.specs.Standing.{numbers_of}
use Rattle.table_rules.specs.Table.{book_of}
use Rattle.table_empty.specs.EmptyTable.{zeros}
use Rattle.demands.specs.Batch.{returns, lengths_ok}
use Rattle.demands.specs.Whole.{Call, MadeOn}
use Rattle.demands.specs.Demands.{Kept}
use Rattle.demands.specs.ByNumber.{list_by_number, SoundByNumber, ListStays, EarlierTable, two_and_five}
use Rattle.demands.proofs.Demand1.{demand1}

-- document 01's case: 2 was stored, and 5 is listed now; on the way back 2 is listed still
changes : ¬ ListStays (two_and_five ten)
unfolding numbers_of split_of split_by_number build insert push hides? under? right_below? dec_le dec_lt distance squared_difference rank on_the_right? lowest gcd_of gcd_by
changes e = omega (arith, ap (λ (s : List ℕ). get_or s 0 0) e)

stays : ListStays (two_and_five (way_back ten))
unfolding numbers_of split_of split_by_number build insert push hides? under? right_below? dec_le dec_lt distance squared_difference rank on_the_right? lowest gcd_of gcd_by
stays = refl

-- where no two sites tie along the standing leg, its list stays
pub no_tie_stays : (b : Book) → ((l : Leg) → b.leg ≡ Some l → NoTie l (sites_of b)) → ListStays b
no_tie_stays b n = go b.leg n
  where
    go : (k : Option Leg) → ((l : Leg) → k ≡ Some l → NoTie l (sites_of b)) → numbers_of (list_by_number k (sites_of b)) ≡ numbers_of (list_of k (sites_of b))
    go None f = refl
    go (Some l) f = ap numbers_of (sym (no_tie_same l (sites_of b) (f l refl)))

-- a call on a table that was sound then
module _ (t : List ℕ) (c : Call) (t' : List ℕ) (made : MadeOn t c t') (ok : lengths_ok t c.work ≡ true) (was : SoundByNumber t) where
  -- TABLES OF THE RELEASE BEFORE
  pub earlier_tables : EarlierTable t c t'
  earlier_tables =
      let d = demand1 t c t' made in
      record {
        refused = λ n. d.broken_standing ok was.whole (λ s. n (sym was.list ∙ s.list));
        taken = λ e. d.taken ok (record { whole = was.whole; standing = record { leg = was.leg; list = was.list ∙ e } });
      }

  -- one in which no two sites tie along the standing leg is taken
  pub no_tie_taken : ((l : Leg) → (book_of t).leg ≡ Some l → NoTie l (sites_of (book_of t))) → Kept t c t'
  no_tie_taken n = earlier_tables.taken (no_tie_stays (book_of t) n)

  -- DOCUMENT 01'S CASE is refused, with everything left that 69 leaves, and taken where the leg is turned round
  pub two_and_five_lem :
      (book_of t ≡ two_and_five ten
      → (c.result ≡ returns 69 0 0) × (t' ≡ t) × (c.work_after ≡ zeros work_bytes) × (c.report_after ≡ c.report))
      × (book_of t ≡ two_and_five (way_back ten) → Kept t c t')
  two_and_five_lem = (
    λ e. earlier_tables.refused (subst⁻¹ (λ (b : Book). ¬ ListStays b) e changes),
    λ e. earlier_tables.taken (subst⁻¹ ListStays e stays),
  )
