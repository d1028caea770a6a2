-- The test's answers, one law for each return.
-- Assumes nothing.
use mathlib.Core.Path.{◌≡◌, refl, sym, ap, subst, subst⁻¹, ◌∙◌}
use mathlib.Core.Bool.{Bool, true, false, true≢false}
use mathlib.Core.List.{List, []}
use Rattle.std.specs.Prelude.{Option, None, Some}
use Prim.Native.Nat.{ℕ}
use native.Mathlib.Omega.{arith}
use lib.ListN.{length}
use lib.Dec.{eqb}
use borrow.Author.Tests.{eqb-true, eqb-false}
use Rattle.limits.specs.Limits.{table_bytes}
use Rattle.grid.specs.declared.Leg.{Leg}
use Rattle.grid.specs.Position.{LegOnGrid}
use Rattle.grid.specs.Says.{Says}
use Rattle.grid.proofs.Says.{says_yes, says_no, says_map}
use Rattle.list_row.specs.Vertices.{entries_in}
use Rattle.book.specs.Book.{sites_of, holds, list_of, standing_list}
use Rattle.book.specs.Proper.{LegOk, LastHeld}
use Rattle.table_header.specs.Header.{leg_in, length_in}
use Rattle.std.specs.Prelude.{Result, Ok, Err, is_ok}
use Rattle.table_sites.specs.Lines.{lines_in, Array, FoundAs}
use Rattle.table_sites.proofs.Finding.{at_held, absent_held}
use Rattle.table_sites.specs.Rules.{SitesOk}
use Rattle.table_sites.proofs.Kept.{sites_array}
use Rattle.table_standing.specs.Layout.{list_start}
use Rattle.table_standing.specs.Standing.{words_from, standing_in, numbers_of}
use Rattle.table_standing.proofs.Numbers.{standing_length}
use Rattle.table_rules.specs.Table.{book_of, Whole, StandingOk}
use Rattle.table_rules.specs.Listing.{ListsTable}

-- ---- the standing leg and list

module _ (b : List ℕ) (s : Option Leg) (w : Whole b) (q : s ≡ leg_in b) where
  pub unset_says : (n : ℕ) → s ≡ None → n ≡ length_in b → Says (eqb n 0) (StandingOk b)
  unfolding standing_in words_from numbers_of
  unset_says n u e = go (eqb n 0) refl
    where
      leg : leg_in b ≡ None
      leg = sym q ∙ u

      list : numbers_of (standing_list (book_of b)) ≡ []
      list = ap (λ (o : Option Leg). numbers_of (list_of o (sites_of (book_of b)))) leg

      go : (t : Bool) → eqb n 0 ≡ t → Says t (StandingOk b)
      go true z =
          record {
            leg = subst LegOk (sym leg) tt;
            list = ap (words_from b list_start) (sym e ∙ eqb-true n 0 z) ∙ sym list;
          }
      go false z = λ x. eqb-false n 0 z (e ∙ (omega (arith, standing_length b, ap length (x.list ∙ list))))

  module _ (l : Leg) (a : s ≡ Some l) where
    leg_is : leg_in b ≡ Some l
    leg_is = sym q ∙ a

    pub along_off : (t : Bool) → Says t (LegOnGrid l) → t ≡ false → ¬ StandingOk b
    along_off t h e x = says_no t h e (subst LegOk leg_is x.leg)

    pub along_grid : (t : Bool) → Says t (LegOnGrid l) → t ≡ true → LegOnGrid l
    along_grid t h e = says_yes t h e

    pub along_says : (t u : Bool) (r : List ℕ) (k : ℕ) → Says t (LegOnGrid l) → t ≡ true → ListsTable l b r k
        → Says u (standing_in b ≡ numbers_of (entries_in l b r k)) → Says u (StandingOk b)
    along_says t u r k h e f m =
        says_map u
        (λ x. record { leg = subst LegOk (sym leg_is) (says_yes t h e); list = x ∙ right })
        (λ x. x.list ∙ sym right)
        m
      where
        right : numbers_of (entries_in l b r k) ≡ numbers_of (standing_list (book_of b))
        right =
            ap numbers_of f.list
            ∙ sym (ap (λ (o : Option Leg). numbers_of (list_of o (sites_of (book_of b)))) leg_is)

-- ---- the tour

-- "a remembered site that isn't held"
module _ (b : List ℕ) (o : Option ℕ) where
  pub unnamed_ok : o ≡ None → LastHeld o (lines_in b)
  unnamed_ok e = subst⁻¹ (λ (x : Option ℕ). LastHeld x (lines_in b)) e tt

  pub named_says : (n : ℕ) (f : Result ℕ ℕ) (r : Bool) → o ≡ Some n → FoundAs f n (lines_in b) → r ≡ is_ok f → Says r (LastHeld o (lines_in b))
  named_says n f r e a q = subst⁻¹ (λ (x : Option ℕ). Says r (LastHeld x (lines_in b))) e (subst⁻¹ (λ (t : Bool). Says t (holds n (lines_in b) ≡ true)) q (go f a))
    where
      go : (f : Result ℕ ℕ) → FoundAs f n (lines_in b) → Says (is_ok f) (holds n (lines_in b) ≡ true)
      go (Ok k) a = at_held a
      go (Err k) a = λ h. true≢false (sym h ∙ absent_held a)

-- ---- sites, header, tour and tree

pub sites_yes : (b : List ℕ) → length b ≡ table_bytes → (q : Bool) → Says q (SitesOk b) → q ≡ true → Array b
sites_yes b len q s e = sites_array len (says_yes q s e)
