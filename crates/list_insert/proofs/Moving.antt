-- Places that move in a row: the row after `shift` and `splice`.
-- Assumes nothing.
use mathlib.Core.Path.{◌≡◌, ◌∙◌, subst}
use mathlib.Core.List.{List}
use Prim.Native.Nat.{ℕ, ◌+◌, ◌*◌, ◌-◌, ◌≤◌, ◌<◌}
use native.Mathlib.Omega.{arith}
use Rattle.words.specs.Words.{put_word, Only, Copied}
use Rattle.words.proofs.Frame.{only_trans, only_wider, only_put_word, word_put_word, word_low, word_high}
use Rattle.words.proofs.Copying.{word_copied}
use Rattle.list_row.specs.Vertices.{place_at}
use Rattle.list_insert.specs.Insertion.{RowRoom, Spliced}

-- Where `shift` makes room for one place.
pub room_made : (i j n : ℕ) {b b' : List ℕ} → i ≡ j → Copied b (2 * i) b (2 * i + 2) n b'
    → Copied b (2 * i) b (2 * j + 2) n b'
room_made i j n {b} {b'} e m = subst (λ (c : ℕ). Copied b (2 * i) b (2 * c + 2) n b') e m

-- The return of `splice`.
pub spliced : {r r₁ r' : List ℕ} (k j i p : ℕ) → j ≤ i → i ≤ k → RowRoom k r → Copied r (2 * i) r (2 * j + 2) (2 * (k - i)) r₁ → r' ≡ put_word r₁ (2 * j) p
    → Spliced r k j i p r'
unfolding place_at
spliced {r} {r₁} {r'} k j i p h g room m e =
    rw e
    record {
      only = only_trans (only_wider (omega arith) (omega (arith, room.few)) m.only) (only_wider (omega arith) (omega (arith, room.few)) put);
      left = λ c f. word_low put (2 * c) (omega arith) ∙ word_low m.only (2 * c) (omega arith);
      here = word_put_word r₁ (2 * j) p (omega (arith, room.few, room.row, m.only.len));
      right = λ c f. word_high put (2 * (j + 1 + c)) (omega arith) ∙ there c f;
    }
  where
    put : Only (2 * j) (2 * j + 2) r₁ (put_word r₁ (2 * j) p)
    put = only_put_word r₁ (2 * j) p

    there : (c : ℕ) → i + c < k → place_at r₁ (j + 1 + c) ≡ place_at r (i + c)
    there c f = word_copied m (2 * (i + c)) (2 * (j + 1 + c)) (omega arith) (omega arith) (omega arith)
