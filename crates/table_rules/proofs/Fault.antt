-- A fault in the standing leg and list leaves the first half: layout, sites, tour and tree.
-- Assumes nothing.
use mathlib.Core.Path.{◌≡◌, refl, sym, ◌∙◌}
use mathlib.Core.List.{List}
use Prim.Native.Nat.{ℕ}
use native.Mathlib.Omega.{arith}
use Rattle.words.specs.Words.{word_at, Only}
use Rattle.table_header.specs.Layout.{flag_start, leg_start, length_start, layout_start, tour_start, corner_start, tour_end}
use Rattle.table_header.specs.Header.{tour_in, ZeroFrom, FlagOk, HeaderOk}
use Rattle.table_header.proofs.Legs.{unset_is}
use Rattle.table_sites.specs.Lines.{lines_in}
use Rattle.tree_node.specs.Layout.{tree_start}
use Rattle.table_rules.specs.Table.{Whole}
use Rattle.table_rules.specs.Fault.{StandingFault}
use Rattle.table_rules.proofs.Same.{word_same, lines_same, sites_same, tour_same, flag_same, tied_below}

module _ (b b' : List ℕ) (w : Whole b) (f : StandingFault b b') where
  -- THE LINES STAY
  pub fault_lines : lines_in b' ≡ lines_in b
  fault_lines = lines_same b b' (λ i l h. f.low i (omega arith)) (λ i l h. f.between i (omega arith) (omega arith)) w.sites.few

  -- and so does the tour
  pub fault_tour : tour_in b' ≡ tour_in b
  fault_tour = tour_same b b' (λ i l h. f.between i (omega arith) (omega arith))

  flag_stays : word_at b' flag_start ≡ word_at b flag_start
  flag_stays = word_same {lo = 0} {hi = leg_start} b b' (λ i l h. f.low i h) flag_start (omega arith) (omega arith)

  leg_flag : FlagOk b' flag_start leg_start length_start
  unfolding ZeroFrom
  leg_flag =
      record {
        flag = omega (arith, flag_stays, w.header.leg.flag);
        unset = λ z i l u.
            let n : word_at b flag_start ≡ 0 = sym flag_stays ∙ z in
            f.unset (sym (unset_is b (word_at b flag_start) refl n)) i l u ∙ w.header.leg.unset n i l u;
      }

  header_stays : HeaderOk b'
  unfolding ZeroFrom
  header_stays =
      record {
        layout =
            word_same {lo = layout_start} {hi = tour_end} b b' (λ i l h. f.between i l (omega arith)) layout_start (omega arith) (omega arith)
            ∙ w.header.layout;
        leg = leg_flag;
        tour = flag_same b b' tour_start corner_start tour_end (λ i l h. f.between i (omega arith) (omega arith)) (omega arith) (omega arith) w.header.tour;
        kept = λ i l h. f.between i (omega arith) (omega arith) ∙ w.header.kept i l h;
      }

  below : Only leg_start tree_start b b'
  below = record { len = f.len; low = f.low; high = λ i h. f.high i (omega arith) }

  -- THE FIRST HALF IS KEPT
  pub fault_whole : Whole b'
  fault_whole =
      record {
        len = f.len ∙ w.len;
        sites = sites_same b b' (λ i l h. f.low i (omega arith)) (λ i l h. f.between i (omega arith) (omega arith)) w.sites;
        header = header_stays;
        tour = rw (fault_tour, fault_lines) w.tour;
        tree = tied_below b b' below fault_lines w.tree;
      }
