-- What follows for the table from a change of its lines: the book's change, and the rules on sites kept.
-- Assumes nothing.
use mathlib.Core.Path.{◌≡◌, sym, ◌∙◌, subst}
use mathlib.Core.Logic.{⊎_elim}
use mathlib.Core.List.{List, Memᴰ}
use Prim.Native.Nat.{ℕ, ◌<◌}
use lib.ListN.{length}
use Rattle.limits.specs.Limits.{table_bytes}
use Rattle.grid.specs.declared.Position.{Position}
use Rattle.grid.specs.declared.Site.{Site}
use Rattle.grid.specs.Position.{OnGrid}
use Rattle.split.specs.SplitList.{SitesOnGrid}
use Rattle.book.specs.Book.{write_line, strike_line, move_line}
use Rattle.book.specs.Proper.{Rising, NumberOk}
use Rattle.table_sites.specs.Lines.{lines_in, Array, StandsAt, StandsNowhere}
use Rattle.table_sites.specs.Changes.{inserted, deleted, placed, ArrayChanged}
use Rattle.table_sites.specs.Rules.{SitesOk}
use Rattle.table_sites.proofs.Finding.{member}
use Rattle.table_sites.proofs.Insertion.{inserted_member, inserted_written, inserted_rising}
use Rattle.table_sites.proofs.Deletion.{deleted_member, deleted_rising, deleted_struck}
use Rattle.table_sites.proofs.Placement.{placed_member, placed_rising, placed_moved}

-- an array that keeps the rules may be searched and changed
pub sites_array : {b : List ℕ} → length b ≡ table_bytes → SitesOk b → Array b
sites_array e ok = record { len = e; few = ok.few; rising = ok.rising; spare = ok.spare }

module _ {l : List Site} {b b' : List ℕ} (c : ArrayChanged l b b') where
  -- the rules are kept if the new lines keep them
  pub changed_ok : Rising l → ((p : Site) → Memᴰ p l → NumberOk p) → SitesOnGrid l → SitesOk b'
  changed_ok r n g =
      record {
        few = c.few;
        numbers = subst (λ (s : List Site). (p : Site) → Memᴰ p s → NumberOk p) (sym c.lines) n;
        rising = subst (λ (s : List Site). Rising s) (sym c.lines) r;
        on_grid = subst (λ (s : List Site). SitesOnGrid s) (sym c.lines) g;
        spare = c.spare;
      }

-- a line written, where the search did not find its number
module _ (k : ℕ) (p : Site) {b b' : List ℕ} (f : StandsNowhere k p.number (lines_in b)) (c : ArrayChanged (inserted k p (lines_in b)) b b') where
  pub insert_lines : lines_in b' ≡ write_line p (lines_in b)
  insert_lines = c.lines ∙ inserted_written k p (lines_in b) f

  pub insert_kept : NumberOk p → OnGrid p.position → SitesOk b → SitesOk b'
  insert_kept n g ok =
      changed_ok c (inserted_rising k p (lines_in b) f ok.rising)
      (λ x m. ⊎_elim (λ e. subst NumberOk (sym e) n) (λ o. ok.numbers x o) (inserted_member k p (lines_in b) x m))
      (λ x m.
      ⊎_elim (λ e. subst (λ (q : Site). OnGrid q.position) (sym e) g) (λ o. ok.on_grid x o) (inserted_member k p (lines_in b) x m))

-- a line struck
module _ (k : ℕ) {b b' : List ℕ} (c : ArrayChanged (deleted k (lines_in b)) b b') where
  pub delete_lines : {n : ℕ} → StandsAt k n (lines_in b) → Rising (lines_in b) → lines_in b' ≡ strike_line n (lines_in b)
  delete_lines f r = c.lines ∙ deleted_struck k (lines_in b) f r

  pub delete_kept : SitesOk b → SitesOk b'
  delete_kept ok =
      changed_ok c (deleted_rising k (lines_in b) ok.rising) (λ x m. ok.numbers x (deleted_member k (lines_in b) x m))
      (λ x m. ok.on_grid x (deleted_member k (lines_in b) x m))

-- a line moved
module _ (k : ℕ) (p : Position) {b b' : List ℕ} (c : ArrayChanged (placed k p (lines_in b)) b b') where
  pub place_lines : {n : ℕ} → StandsAt k n (lines_in b) → Rising (lines_in b) → lines_in b' ≡ move_line n p (lines_in b)
  place_lines f r = c.lines ∙ placed_moved k p (lines_in b) f r

  pub place_kept : k < length (lines_in b) → OnGrid p → SitesOk b → SitesOk b'
  place_kept h g ok =
      changed_ok c (placed_rising k p (lines_in b) ok.rising)
      (λ x m.
      ⊎_elim (λ e. subst NumberOk (sym e) (same (ok.numbers _ (member (lines_in b) k h)))) (λ o. ok.numbers x o)
      (placed_member k p (lines_in b) h x m))
      (λ x m.
      ⊎_elim (λ e. subst (λ (q : Site). OnGrid q.position) (sym e) g) (λ o. ok.on_grid x o) (placed_member k p (lines_in b) h x m))
    where
      same : {q : Site} → NumberOk q → NumberOk (record { number = q.number; position = p })
      same n = record { least = n.least; most = n.most }
