-- A position and a site stored in a record.
-- Assumes nothing.
use mathlib.Core.Path.{◌≡◌, ap, sym, ◌∙◌, subst}
use mathlib.Core.List.{List}
use Prim.Native.Nat.{ℕ, ◌+◌, ◌≤◌}
use native.Mathlib.Omega.{arith}
use lib.ListN.{length}
use Rattle.words.specs.Words.{word_at, put_word, Only}
use Rattle.words.proofs.Frame.{only_trans, only_wider, only_put_word, word_put_word, word_low}
use Rattle.grid.specs.declared.Position.{Position}
use Rattle.grid.specs.declared.Site.{Site}
use Rattle.table_sites.specs.Layout.{site_bytes, east_offset, north_offset, spare_offset}
use Rattle.table_sites.specs.Changes.{PutPosition, PutSite}
use Rattle.table_sites.proofs.Reading.{site_is}

-- one word stored
module _ (b b' : List ℕ) (o v : ℕ) (e : b' ≡ put_word b o v) where
  pub stored_only : Only o (o + 2) b b'
  stored_only = subst (λ (x : List ℕ). Only o (o + 2) b x) (sym e) (only_put_word b o v)

  pub stored_word : o + 2 ≤ length b → word_at b' o ≡ v
  stored_word h = ap (λ (x : List ℕ). word_at x o) e ∙ word_put_word b o v h

pub position_put : (i : ℕ) (p : Position) (b b₁ b₂ : List ℕ) → i + site_bytes ≤ length b → b₁ ≡ put_word b (i + east_offset) p.east
    → b₂ ≡ put_word b₁ (i + north_offset) p.north → PutPosition i p b b₂
position_put i p b b₁ b₂ room e₁ e₂ =
    let o₁ : Only (i + east_offset) ((i + east_offset) + 2) b b₁ = stored_only b b₁ _ _ e₁ in
    let o₂ : Only (i + north_offset) ((i + north_offset) + 2) b₁ b₂ = stored_only b₁ b₂ _ _ e₂ in
    record {
      only = only_trans (only_wider (omega arith) (omega arith) o₁) (only_wider (omega arith) (omega arith) o₂);
      east = word_low o₂ (i + east_offset) (omega arith) ∙ stored_word b b₁ _ _ e₁ (omega arith);
      north = stored_word b₁ b₂ _ _ e₂ (omega (arith, o₁.len));
    }

pub site_put : (i : ℕ) (p : Site) (b b₁ b₂ b₃ : List ℕ) → i + site_bytes ≤ length b → b₁ ≡ put_word b i p.number
    → PutPosition i p.position b₁ b₂ → b₃ ≡ put_word b₂ (i + spare_offset) 0 → PutSite i p b b₃
site_put i p b b₁ b₂ b₃ room e₁ q e₃ =
    let o₁ : Only i (i + 2) b b₁ = stored_only b b₁ _ _ e₁ in
    let o₂ : Only (i + east_offset) (i + spare_offset) b₁ b₂ = q.only in
    let o₃ : Only (i + spare_offset) ((i + spare_offset) + 2) b₂ b₃ = stored_only b₂ b₃ _ _ e₃ in
    record {
      only =
          only_trans (only_wider (omega arith) (omega arith) o₁)
          (only_trans (only_wider (omega arith) (omega arith) o₂) (only_wider (omega arith) (omega arith) o₃));
      site =
          sym
          (site_is b₃ i p.number p.position.east p.position.north
          (sym (word_low o₃ i (omega arith) ∙ word_low o₂ i (omega arith) ∙ stored_word b b₁ _ _ e₁ (omega arith)))
          (sym (word_low o₃ (i + east_offset) (omega arith) ∙ q.east))
          (sym (word_low o₃ (i + north_offset) (omega arith) ∙ q.north)));
      spare = stored_word b₂ b₃ _ _ e₃ (omega (arith, o₁.len, o₂.len));
    }
