-- What the 50 prints, read back: the standing list of the book, and which numbers it names.
-- Assumes nothing.
use mathlib.Core.Path.{◌≡◌, refl, sym, ap, ◌∙◌, subst}
use mathlib.Core.Logic.{◌⊎◌, inl, ⊎_map}
use Rattle.std.specs.Prelude.{Option, None, Some}
use mathlib.Core.Bool.{true}
use mathlib.Core.List.{List, [], ◌∷◌, map}
use Prim.Native.Nat.{ℕ, ◌*◌, ◌≤◌}
use native.Mathlib.Omega.{arith}
use native.Mathlib.Decide.{dec_le}
use lib.ListN.{length}
use Rattle.grid.specs.declared.Site.{Site}
use Rattle.grid.specs.declared.Leg.{Leg}
use Rattle.grid.specs.declared.Fraction.{Fraction}
use Rattle.grid.specs.Fraction.{IsFraction}
use Rattle.split.specs.SplitList.{Entry, Numbered, SameSites, name_from, name_at}
use Rattle.split.specs.SplitList as split
use Rattle.split.specs.SplitOf.{split_of}
use Rattle.split.proofs.Unique.{order_free}
use Rattle.split.proofs.Exists.{split_is}
use Rattle.split.proofs.Dealing.{no_site_lem}
use Rattle.split.proofs.Names as names
use Rattle.records.specs.ListRecord.{record_bytes}
use Rattle.records.specs.Decode.{Listed, listed_of}
use Rattle.book.specs.declared.Command.TheVariants.{Print}
use Rattle.book.specs.Book.{Book, sites_of, list_of, standing_list}
use Rattle.book.specs.Proper.{Proper, LegOk}
use Rattle.book.specs.Reply.{Reply, done, refused, listed, record_of}
use Rattle.book.specs.Answer.{answer}
use Rattle.book.proofs.Answers.{answer_print_legless, answer_print_empty, answer_print_done}
use Rattle.table_rules.proofs.Books.{sound_proper}
use Rattle.demands.specs.Step.{Holds, keeps}
use Rattle.demands.specs.Whole.{Said, HasRoom}
use Rattle.demands.specs.Demands.{Prints, list_in, whether, number_from, number_at}
use Rattle.demands.proofs.Legs.{list_right}
use Rattle.demands.proofs.OneCommand.{wrote_one, kept_one, room_one}

-- ---- the list printed

-- a list's record tells that list
listed_in : (b : Book) → Proper b → (l : Leg) → b.leg ≡ Some l
    → list_in (record_bytes (split_of l (sites_of b))) ≡ map listed_of (split_of l (sites_of b))
unfolding record_bytes
listed_in b ok l e = (list_right b ok l (subst LegOk e ok.leg_ok) (split_of l (sites_of b)) refl).read

-- the answer to a 50 tells the standing list
print_list : (b : Book) → Proper b → list_in (record_of (answer b Print)) ≡ map listed_of (standing_list b)
print_list b ok = by_leg b.leg refl
  where
    by_sites : (l : Leg) → b.leg ≡ Some l → (s : List Site) → sites_of b ≡ s
        → list_in (record_of (answer b Print)) ≡ map listed_of (standing_list b)
    by_sites l e [] z =
        ap (λ (y : Reply). list_in (record_of y)) (answer_print_empty b l e (ap length z))
        ∙ ap (map listed_of) (sym ((λ i. list_of (e i) (z i)) ∙ no_site_lem l))
    by_sites l e (p ∷ s) z =
        ap (λ (y : Reply). list_in (record_of y)) (answer_print_done b l e (λ n. omega (arith, ap length z)))
        ∙ listed_in b ok l e ∙ ap (λ (o : Option Leg). map listed_of (list_of o (sites_of b))) (sym e)

    by_leg : (o : Option Leg) → b.leg ≡ o → list_in (record_of (answer b Print)) ≡ map listed_of (standing_list b)
    by_leg None e =
        ap (λ (y : Reply). list_in (record_of y)) (answer_print_legless b e)
        ∙ ap (λ (o : Option Leg). map listed_of (list_of o (sites_of b))) (sym e)
    by_leg (Some l) e = by_sites l e (sites_of b) refl

-- a 50 keeps the table, whatever it is answered
print_keeps : (y : Reply) → keeps Print y ≡ true
print_keeps done = refl
print_keeps (refused x) = refl
print_keeps (listed es) = refl

module _ (t : List ℕ) (b : Book) (h : Holds t b) (es : List Listed) (p : Prints t es) where
  roomy : HasRoom p.call (record_of (answer b Print))
  roomy = room_one t b h Print tt p.call p.left p.asks p.ended

  -- WHAT THE 50 PRINTS is the standing list
  pub prints_list : es ≡ map listed_of (standing_list b)
  prints_list =
      p.list ∙ ap (λ (x : Said). list_in x.bytes) (wrote_one t b h Print tt p.call p.left p.asks roomy)
      ∙ print_list b (subst Proper h.book (sound_proper t h.sound))

  -- and it leaves the table
  pub prints_left : p.left ≡ t
  prints_left = kept_one t b h Print tt p.call p.left p.asks roomy (print_keeps (answer b Print))

-- ---- the numbers named

-- a site's number
number_of : Option Site → Option ℕ
number_of None = None
number_of (Some p) = Some p.number

number_from_lem : (t : Fraction) (e : Entry) (es : List Entry) → number_from t (listed_of e) (map listed_of es) ≡ (name_from t e es).number
unfolding number_from name_from
number_from_lem t e [] = refl
number_from_lem t e (f ∷ fs) = go (dec_le (f.start.num * t.den) (t.num * f.start.den)) (number_from_lem t f fs)
  where
    go : (d : Dec (f.start.num * t.den ≤ t.num * f.start.den)) → number_from t (listed_of f) (map listed_of fs) ≡ (name_from t f fs).number
        → whether d (number_from t (listed_of f) (map listed_of fs)) e.site.number ≡ (split.or_else d (name_from t f fs) e.site).number
    go (yes h) ih = ih
    go (no h) ih = refl

-- a list that is read back names the numbers of the sites that it named
number_at_lem : (t : Fraction) (es : List Entry) → number_at t (map listed_of es) ≡ number_of (name_at t es)
unfolding number_of
number_at_lem t [] = refl
number_at_lem t (e ∷ es) = ap Some (number_from_lem t e es)

-- the names of two lists of one leg, where the sites of the second are those of the first and p
module _ (s u : List Site) (p : Site) (n : Numbered u) (same : SameSites (p ∷ s) u) (t : Fraction) (f : IsFraction t) where
  numbered_both : Numbered (p ∷ s)
  numbered_both =
      record {
        small = λ q i. n.small q (same.to q i);
        one = λ x y i j. n.one x y (same.to x i) (same.to y j);
      }

  back : SameSites u (p ∷ s)
  back = record { to = same.back; back = same.to }

  named : (o : Option Leg) → (name_at t (list_of o u) ≡ name_at t (list_of o s)) ⊎ (name_at t (list_of o u) ≡ Some p)
  named None = inl refl
  named (Some l) =
      names.added l s p numbered_both (split_of l s) (split_of l u) (split_is l s (names.fewer p s numbered_both)) (order_free l u (p ∷ s) back (split_of l u) (split_is l u n)) t f

  -- ONE SITE MORE: each number named is that of before, or the new one
  pub numbers_more : (o : Option Leg)
      → (number_at t (map listed_of (list_of o u)) ≡ number_at t (map listed_of (list_of o s))) ⊎ (number_at t (map listed_of (list_of o u)) ≡ Some p.number)
  unfolding number_of
  numbers_more o =
      ⊎_map (λ e. number_at_lem t (list_of o u) ∙ ap number_of e ∙ sym (number_at_lem t (list_of o s))) (λ e. number_at_lem t (list_of o u) ∙ ap number_of e) (named o)
