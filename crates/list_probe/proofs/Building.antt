-- The loop of `build`: the sites from record i on are dealt with.
-- Assumes nothing.
use mathlib.Core.Path.{◌≡◌, ap, subst}
use mathlib.Core.List.{List, ◌∷◌, Memᴰ}
use Prim.Native.Nat.{ℕ, zero, suc, ◌+◌, ◌*◌, ◌-◌, ◌/◌, ◌≤◌, ◌<◌}
use native.Mathlib.Omega.{arith}
use Rattle.words.specs.Words.{Only}
use Rattle.words.proofs.Frame.{only_refl, only_trans}
use Rattle.grid.specs.declared.Leg.{Leg}
use Rattle.list_row.specs.Places.{site_at_byte, HasSite}
use Rattle.list_row.specs.Vertices.{row_bytes, Held, Lists}
use Rattle.list_row.proofs.Listing.{lists_none, lists_is}
use Rattle.list_skip.specs.Skipping.{Space, Dealt}
use Rattle.list_probe.specs.SiteArray.{sites_from, HasSites, Built}

-- The record before the ones from i on.
pub one_more : (t : List ℕ) (b n i : ℕ) → 0 < i → i ≤ n → sites_from t (b + 8 * (i - 1)) (n - (i - 1)) ≡ site_at_byte t (b + 8 * (i - 1)) ∷ sites_from t (b + 8 * i) (n - i)
unfolding sites_from
one_more t b n i h g =
    let e : n - (i - 1) ≡ suc (n - i) = omega arith in
    let f : b + 8 * i ≡ b + 8 * (i - 1) + 8 = omega arith in
    rw (e, f)

-- a record is one of the array
pub member : (t : List ℕ) (n b j : ℕ) → j < n → Memᴰ (site_at_byte t (b + 8 * j)) (sites_from t b n)
unfolding sites_from
member t zero b j h = absurd (omega arith)
member t (suc n) b zero h = let e : b + 8 * 0 ≡ b = omega arith in Memᴰ.head (ap (site_at_byte t) e)
member t (suc n) b (suc j) h =
    let e : b + 8 * suc j ≡ b + 8 + 8 * j = omega arith in
    rw e (Memᴰ.tail (member t n (b + 8) j (omega arith)))

-- k vertices stand for the records from i on
pub record Building (l : Leg) (t : List ℕ) (b n : ℕ) (w₀ w : List ℕ) (k i : ℕ) : Type 0 where
  pub upto : i ≤ n
  pub within : k ≤ n - i
  pub held : Held l t w k
  pub lists : Lists l t w k (sites_from t (b + 8 * i) (n - i))
  pub only : Only 0 row_bytes w₀ w

pub built_none : (l : Leg) (t : List ℕ) (b n : ℕ) (w : List ℕ) → Building l t b n w w 0 n
unfolding sites_from
built_none l t b n w =
    let e : n - n ≡ 0 = omega arith in
    record {
      upto = omega arith;
      within = omega arith;
      held = record { inside = omega arith; few = omega arith; sites = λ j h. absurd (omega arith); convex = tt };
      lists = rw e (lists_none l t w);
      only = only_refl;
    }

module _ {l : Leg} {t : List ℕ} {b n : ℕ} {w₀ w : List ℕ} {k i : ℕ} (g : Building l t b n w₀ w k i) (hs : HasSites t b n) where
  module _ (pos : 0 < i) where
    place : 2 * (b / 2 + 4 * (i - 1)) ≡ b + 8 * (i - 1)
    place = omega (arith, hs.even)

    pub build_asks : HasSite t (b / 2 + 4 * (i - 1))
    build_asks =
        record {
          small = omega (arith, hs.small, g.upto);
          inside = omega (arith, hs.inside, g.upto, hs.even);
          on_grid =
              rw place
              (hs.on_grid (site_at_byte t (b + 8 * (i - 1))) (member t n b (i - 1) (omega (arith, g.upto))));
        }

    pub build_space : Space l t w k (b / 2 + 4 * (i - 1))
    build_space full = absurd (omega (arith, g.within, g.upto, hs.few))

    pub build_one : {w' : List ℕ} {r : ℕ} → Dealt l t w k (b / 2 + 4 * (i - 1)) w' r → Building l t b n w₀ w' r (i - 1)
    build_one {w'} {r} d =
        record {
          upto = omega (arith, g.upto);
          within = omega (arith, g.upto, g.within, d.within);
          held = d.held;
          lists =
              rw (one_more t b n i pos g.upto)
              (subst (λ (o : ℕ). Lists l t w' r (site_at_byte t o ∷ sites_from t (b + 8 * i) (n - i))) place (d.lists (sites_from t (b + 8 * i) (n - i)) g.lists));
          only = only_trans g.only d.only;
        }

  pub built_all : i ≡ 0 → Built l t b n w₀ w k
  built_all e =
      let f : b + 8 * i ≡ b = omega arith in
      let h : n - i ≡ n = omega arith in
      record {
        within = omega (arith, g.within);
        held = g.held;
        is =
            lists_is l t w k (sites_from t b n) (sites_from t b n) hs.numbered hs.numbered (record { to = λ p m. m; back = λ p m. m })
            (rw (f, h) at g.lists);
        only = g.only;
      }
