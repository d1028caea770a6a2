-- The loop of `orderly`: what is still to be tested says whether all is well.
-- Assumes nothing.
use mathlib.Core.Path.{◌≡◌, sym, subst}
use mathlib.Core.Bool.{Bool, true, false}
use mathlib.Core.List.{List, ◌∷◌}
use Prim.Native.Nat.{ℕ, suc, ◌+◌, ◌*◌, ◌-◌, ◌≤◌, ◌<◌}
use native.Mathlib.Omega.{arith}
use Rattle.grid.specs.declared.Site.{Site}
use Rattle.grid.specs.Position.{OnGrid}
use Rattle.grid.specs.Says.{Says}
use Rattle.list_row.specs.Places.{site_at}
use Rattle.list_probe.specs.SiteArray.{sites_from}
use Rattle.list_probe.specs.Probing.{NextSite, Orderly}

-- the n records are in order exactly if those from i on are, above the last number
pub record Tested (t : List ℕ) (n last i : ℕ) : Type 0 where
  pub upto : i ≤ n
  pub to : Orderly last (sites_from t (8 * i) (n - i)) → Orderly 0 (sites_from t 0 n)
  pub back : Orderly 0 (sites_from t 0 n) → Orderly last (sites_from t (8 * i) (n - i))

pub tested_none : (t : List ℕ) (n : ℕ) → Tested t n 0 0
tested_none t n =
    let e : n - 0 ≡ n = omega arith in
    record { upto = omega arith; to = λ h. rw e at h; back = λ h. rw e h }

-- the record at i, and the rest
split_off : (t : List ℕ) (n i : ℕ) → i < n → sites_from t (8 * i) (n - i) ≡ site_at t (4 * i) ∷ sites_from t (8 * (i + 1)) (n - (i + 1))
unfolding sites_from
split_off t n i h =
    let e : n - i ≡ suc (n - (i + 1)) = omega arith in
    let f : 8 * (i + 1) ≡ 8 * i + 8 = omega arith in
    let g : 2 * (4 * i) ≡ 8 * i = omega arith in
    rw (e, f, g)

module _ {t : List ℕ} {n last i : ℕ} (d : Tested t n last i) (h : i < n) {p : Site} (is : p ≡ site_at t (4 * i)) where
  next : Orderly 0 (sites_from t 0 n) → NextSite last p
  next o = subst (λ (q : Site). NextSite last q) (sym is) (rw (split_off t n i h) at (d.back o)).0

  pub not_rising : p.number ≤ last → ¬ Orderly 0 (sites_from t 0 n)
  not_rising g o = omega (arith, (next o).above)

  pub not_on_grid : (b : Bool) → b ≡ false → Says b (OnGrid p.position) → ¬ Orderly 0 (sites_from t 0 n)
  not_on_grid b e g o = (rw e at g) (next o).on_grid

  pub tested_one : last < p.number → p.number < 65536 → (b : Bool) → b ≡ true → Says b (OnGrid p.position) → Tested t n p.number (i + 1)
  tested_one g small b e og =
      record {
        upto = omega arith;
        to = λ o. d.to (rw (split_off t n i h) (subst (λ (q : Site). NextSite last q) is (record { above = g; small = omega arith; on_grid = rw e at og }), same o));
        back = λ o. back (rw (split_off t n i h) at (d.back o)).1;
      }
    where
      same : Orderly p.number (sites_from t (8 * (i + 1)) (n - (i + 1))) → Orderly (site_at t (4 * i)).number (sites_from t (8 * (i + 1)) (n - (i + 1)))
      same o = subst (λ (q : Site). Orderly q.number (sites_from t (8 * (i + 1)) (n - (i + 1)))) is o

      back : Orderly (site_at t (4 * i)).number (sites_from t (8 * (i + 1)) (n - (i + 1))) → Orderly p.number (sites_from t (8 * (i + 1)) (n - (i + 1)))
      back o = subst (λ (q : Site). Orderly q.number (sites_from t (8 * (i + 1)) (n - (i + 1)))) (sym is) o

pub tested_all : {t : List ℕ} {n last i : ℕ} → Tested t n last i → n ≤ i → Orderly 0 (sites_from t 0 n)
unfolding sites_from
tested_all {t} {n} {last} {i} d h = let e : n - i ≡ 0 = omega arith in d.to (rw e tt)
