-- A line's record as a place.
-- Assumes nothing.
use mathlib.Core.Path.{◌≡◌, refl, sym, ap, subst, ◌∙◌}
use mathlib.Core.Bool.{true, true≢false}
use mathlib.Core.List.{List, Memᴰ}
use Prim.Native.Nat.{ℕ, ◌*◌, ◌≤◌, ◌<◌}
use native.Mathlib.Omega.{arith}
use lib.ListN.{length, get_or}
use Rattle.limits.specs.Limits.{max_sites, table_bytes}
use Rattle.grid.specs.declared.Site.{Site}
use Rattle.list_row.specs.Places.{site_at_byte, site_at}
use Rattle.book.specs.Book.{holds}
use Rattle.table_header.specs.Header.{count_in}
use Rattle.table_sites.specs.Layout.{record_start}
use Rattle.table_sites.specs.Lines.{lines_in, no_site, StandsAt}
use Rattle.table_sites.specs.Rules.{SitesOk}
use Rattle.std.specs.Prelude.{Result, Ok, Err, IsOk}
use Rattle.table_sites.specs.Lines.{FoundAs}
use Rattle.table_sites.proofs.Reading.{lines_length, line_at_lem}
use Rattle.table_sites.proofs.Finding.{found_at, at_member, absent_held}
use Rattle.table_list.specs.Loading.{PlaceOf}

module _ (b : List ℕ) (n : ℕ) (len : length b ≡ table_bytes) (s : SitesOk b) where
  pub at_found : (r : Result ℕ ℕ) (k : ℕ) → r ≡ Ok k → FoundAs r n (lines_in b) → StandsAt k n (lines_in b)
  at_found r k e f = found_at e f

  pub start_few : (k : ℕ) → StandsAt k n (lines_in b) → k ≤ max_sites
  start_few k g = omega (arith, g.line, lines_length b, s.few)

  pub place_is : (k p : ℕ) → StandsAt k n (lines_in b) → 2 * p ≡ record_start k → PlaceOf b n p
  place_is k p g q =
      let lt : k < count_in b = omega (arith, g.line, lines_length b) in
      let at : site_at b p ≡ get_or (lines_in b) k no_site = ap (site_at_byte b) q ∙ sym (line_at_lem b k no_site lt) in
      let m : Memᴰ (site_at b p) (lines_in b) = subst (λ (x : Site). Memᴰ x (lines_in b)) (sym at) (at_member g) in
      record {
        number = ap (λ (x : Site). x.number) at ∙ g.number;
        line = m;
        site = record { small = omega (arith, s.few); inside = omega (arith, s.few); on_grid = s.on_grid (site_at b p) m };
      }

  -- a number that is held is found
  pub found_held : (r : Result ℕ ℕ) → FoundAs r n (lines_in b) → holds n (lines_in b) ≡ true → IsOk r
  found_held (Ok k) f h = refl
  found_held (Err k) f h = absurd (true≢false (sym h ∙ absent_held f))
