-- From the bytes that a change has written to the lines that the table then has.
-- Assumes nothing.
use mathlib.Core.Path.{◌≡◌, ap, sym, ◌∙◌, subst}
use mathlib.Core.Logic.{◌⊎◌, inl, inr}
use mathlib.Core.List.{List}
use Prim.Native.Nat.{ℕ, zero, suc, ◌+◌, ◌*◌, ◌-◌, ◌≤◌, ◌<◌}
use native.Mathlib.Omega.{arith}
use native.Mathlib.Decide.{dec_lt}
use lib.ListN.{length, get_or}
use Rattle.limits.specs.Limits.{max_sites}
use Rattle.words.specs.Words.{word_at, put_word, Only, Copied}
use Rattle.words.proofs.Frame.{word_low, word_high}
use Rattle.words.proofs.Copying.{word_copied}
use Rattle.grid.specs.declared.Position.{Position}
use Rattle.grid.specs.declared.Site.{Site}
use Rattle.list_row.specs.Places.{site_at_byte}
use Rattle.table_header.specs.Layout.{count_start}
use Rattle.table_header.specs.Header.{count_in}
use Rattle.table_sites.specs.Layout.{site_start, site_bytes, east_offset, north_offset, spare_offset, record_start}
use Rattle.table_sites.specs.Lines.{line_at, lines_in, SpareZero, no_site, number_of, Array}
use Rattle.table_sites.specs.Changes.{inserted, deleted, placed, ArrayChanged, PutPosition, PutSite}
use Rattle.table_sites.proofs.Reading.{site_is, site_same, lines_length, line_at_lem, number_at_lem, lines_are}
use Rattle.table_sites.proofs.Insertion.{inserted_length, inserted_before, inserted_at, inserted_after}
use Rattle.table_sites.proofs.Deletion.{deleted_length, deleted_before, deleted_after}
use Rattle.table_sites.proofs.Placement.{placed_length, placed_at, placed_other}
use Rattle.table_sites.proofs.Stores.{stored_only, stored_word}

-- an index before k, k itself, or one after it
before_at_after : (P : ℕ → Type 0) (k : ℕ) → ((i : ℕ) → i < k → P i) → P k → ((i : ℕ) → k ≤ i → P (suc i)) → (i : ℕ) → P i
before_at_after P k before at after i = go i (dec_lt i k) (dec_lt k i)
  where
    go : (i : ℕ) → Dec (i < k) → Dec (k < i) → P i
    go i (yes h) g = before i h
    go zero (no h) (yes g) = absurd (omega arith)
    go (suc i) (no h) (yes g) = after i (omega arith)
    go i (no h) (no g) = let e : k ≡ i = omega arith in subst P e at

-- a site put before record k
module _ {b b₁ b₂ b₃ : List ℕ} {k n at : ℕ} {p : Site} (a : Array b) (room : count_in b < max_sites)
    (within : k ≤ count_in b)
    (hn : n ≡ count_in b) (ha : at ≡ record_start k)
    (up : Copied b at b (at + site_bytes) (site_bytes * (n - k)) b₁) (put : PutSite at p b₁ b₂)
    (e : b₃ ≡ put_word b₂ count_start (n + 1)) where
  last : Only count_start (count_start + 2) b₂ b₃
  last = stored_only b₂ b₃ count_start (n + 1) e

  counted : count_in b₃ ≡ n + 1
  counted = stored_word b₂ b₃ count_start (n + 1) e (omega (arith, a.len, up.only.len, put.only.len))

  low_word : (o : ℕ) → site_start ≤ o → o + 2 ≤ at → word_at b₃ o ≡ word_at b o
  low_word o g h =
      word_high last o (omega arith) ∙ word_low put.only o (omega arith) ∙ word_low up.only o (omega arith)

  high_word : (o o' : ℕ) → o' ≡ o + site_bytes → at ≤ o → o + 2 ≤ record_start n → word_at b₃ o' ≡ word_at b o
  high_word o o' f g h =
      word_high last o' (omega (arith, ha)) ∙ word_high put.only o' (omega arith)
      ∙ word_copied up o o' g (omega arith) (omega arith)

  line_here : line_at b₃ k ≡ p
  line_here =
      ap (λ (i : ℕ). site_at_byte b₃ i) (sym ha)
      ∙ site_same b₂ b₃ at at (word_high last at (omega arith)) (word_high last (at + east_offset) (omega arith))
      (word_high last (at + north_offset) (omega arith))
      ∙ put.site

  pub insert_done : ArrayChanged (inserted k p (lines_in b)) b b₃
  unfolding SpareZero
  insert_done =
      let len : length (lines_in b) ≡ count_in b = lines_length b in
      let k≤ : k ≤ length (lines_in b) = omega arith in
      let more : length (inserted k p (lines_in b)) ≡ length (lines_in b) + 1 = inserted_length k p (lines_in b) k≤ in
      record {
        len = last.len ∙ put.only.len ∙ up.only.len;
        lines =
            lines_are b₃ (inserted k p (lines_in b)) (omega (arith, counted))
            (before_at_after (λ (i : ℕ). i < length (inserted k p (lines_in b)) → line_at b₃ i ≡ get_or (inserted k p (lines_in b)) i no_site) k
            (λ i g h.
            site_same b b₃ (record_start i) (record_start i) (low_word _ (omega arith) (omega arith))
            (low_word _ (omega arith) (omega arith))
            (low_word _ (omega arith) (omega arith))
            ∙ sym (line_at_lem b i no_site (omega arith))
            ∙ sym (inserted_before k p (lines_in b) i k≤ g))
            (λ h. line_here ∙ sym (inserted_at k p (lines_in b) k≤))
            (λ i g h.
            site_same b b₃ (record_start i) (record_start (suc i)) (high_word _ _ (omega arith) (omega arith) (omega arith))
            (high_word _ _ (omega arith) (omega arith) (omega arith))
            (high_word _ _ (omega arith) (omega arith) (omega arith))
            ∙ sym (line_at_lem b i no_site (omega arith))
            ∙ sym (inserted_after k p (lines_in b) i k≤ g)));
        few = omega (arith, counted);
        spare =
            before_at_after (λ (i : ℕ). i < count_in b₃ → word_at b₃ (record_start i + spare_offset) ≡ 0) k
            (λ i g h. low_word _ (omega arith) (omega arith) ∙ a.spare i (omega arith))
            (λ h.
            ap (λ (i : ℕ). word_at b₃ (i + spare_offset)) (sym ha) ∙ word_high last (at + spare_offset) (omega arith) ∙ put.spare)
            (λ i g h.
            high_word (record_start i + spare_offset) _ (omega arith) (omega arith) (omega (arith, counted))
            ∙ a.spare i (omega (arith, counted)));
        header = λ i g h.
            last.high i (omega arith) ∙ put.only.low i (omega arith) ∙ up.only.low i (omega arith);
        above = λ i g.
            last.high i (omega arith) ∙ put.only.high i (omega arith) ∙ up.only.high i (omega arith);
      }

-- record k taken out
module _ {b b₁ b₂ : List ℕ} {k n at : ℕ} (a : Array b) (within : k < count_in b)
    (hn : n ≡ count_in b) (ha : at ≡ record_start k)
    (down : Copied b (at + site_bytes) b at (site_bytes * (n - 1 - k)) b₁) (e : b₂ ≡ put_word b₁ count_start (n - 1)) where
  fewer : Only count_start (count_start + 2) b₁ b₂
  fewer = stored_only b₁ b₂ count_start (n - 1) e

  counted_down : count_in b₂ ≡ n - 1
  counted_down = stored_word b₁ b₂ count_start (n - 1) e (omega (arith, a.len, down.only.len))

  same_word : (o : ℕ) → site_start ≤ o → o + 2 ≤ at → word_at b₂ o ≡ word_at b o
  same_word o g h = word_high fewer o (omega arith) ∙ word_low down.only o h

  next_word : (o o' : ℕ) → o' ≡ o + site_bytes → at ≤ o → o + 2 ≤ record_start (n - 1) → word_at b₂ o ≡ word_at b o'
  next_word o o' f g h =
      word_high fewer o (omega (arith, ha)) ∙ word_copied down o' o (omega arith) (omega arith) (omega arith)

  pub delete_done : ArrayChanged (deleted k (lines_in b)) b b₂
  unfolding SpareZero
  delete_done =
      let len : length (lines_in b) ≡ count_in b = lines_length b in
      let less : length (deleted k (lines_in b)) + 1 ≡ length (lines_in b) = deleted_length k (lines_in b) (omega arith) in
      record {
        len = fewer.len ∙ down.only.len;
        lines = lines_are b₂ (deleted k (lines_in b)) (omega (arith, counted_down)) (λ i h. line i (omega arith) (dec_lt i k));
        few = omega (arith, counted_down, a.few);
        spare = λ i h. spare i (omega (arith, counted_down)) (dec_lt i k);
        header = λ i g h. fewer.high i (omega arith) ∙ down.only.low i (omega arith);
        above = λ i g. fewer.high i (omega arith) ∙ down.only.high i (omega (arith, a.few));
      }
    where
      line : (i : ℕ) → i + 1 < n → Dec (i < k) → line_at b₂ i ≡ get_or (deleted k (lines_in b)) i no_site
      line i h (yes g) =
          site_same b b₂ (record_start i) (record_start i) (same_word _ (omega arith) (omega arith))
          (same_word _ (omega arith) (omega arith))
          (same_word _ (omega arith) (omega arith))
          ∙ sym (line_at_lem b i no_site (omega arith))
          ∙ sym (deleted_before k (lines_in b) i g)
      line i h (no g) =
          site_same b b₂ (record_start (suc i)) (record_start i) (next_word _ _ (omega arith) (omega arith) (omega arith))
          (next_word _ _ (omega arith) (omega arith) (omega arith))
          (next_word _ _ (omega arith) (omega arith) (omega arith))
          ∙ sym (line_at_lem b (suc i) no_site (omega arith))
          ∙ sym (deleted_after k (lines_in b) i (omega arith))

      spare : (i : ℕ) → i + 1 < n → Dec (i < k) → word_at b₂ (record_start i + spare_offset) ≡ 0
      spare i h (yes g) = same_word _ (omega arith) (omega arith) ∙ a.spare i (omega arith)
      spare i h (no g) =
          next_word (record_start i + spare_offset) (record_start (suc i) + spare_offset) (omega arith) (omega arith) (omega arith)
          ∙ a.spare (suc i) (omega arith)

-- record k at another position
module _ {b b₁ : List ℕ} {k at : ℕ} {p : Position} (a : Array b) (within : k < count_in b) (ha : at ≡ record_start k) (put : PutPosition at p b b₁) where
  stays : (o : ℕ) → (at + spare_offset ≤ o) ⊎ (o + 2 ≤ at + east_offset) → word_at b₁ o ≡ word_at b o
  stays o (inl h) = word_high put.only o h
  stays o (inr h) = word_low put.only o h

  recount : count_in b₁ ≡ count_in b
  recount = stays count_start (inr (omega arith))

  pub place_done : ArrayChanged (placed k p (lines_in b)) b b₁
  unfolding SpareZero
  place_done =
      let len : length (lines_in b) ≡ count_in b = lines_length b in
      let same : length (placed k p (lines_in b)) ≡ length (lines_in b) = placed_length k p (lines_in b) in
      record {
        len = put.only.len;
        lines = lines_are b₁ (placed k p (lines_in b)) (omega (arith, recount)) (λ i h. line i (omega arith) (dec_lt i k) (dec_lt k i));
        few = omega (arith, recount, a.few);
        spare = λ i h. spare i (omega (arith, recount)) (dec_lt i k);
        header = λ i g h. put.only.low i (omega arith);
        above = λ i g. put.only.high i (omega (arith, a.few));
      }
    where
      here : line_at b₁ k ≡ record { number = number_of (lines_in b) k; position = p }
      here =
          ap (λ (i : ℕ). site_at_byte b₁ i) (sym ha)
          ∙ sym
          (site_is b₁ at (number_of (lines_in b) k) p.east p.north
          (number_at_lem b k within ∙ ap (λ (i : ℕ). word_at b i) (sym ha) ∙ sym (stays at (inr (omega arith))))
          (sym put.east)
          (sym put.north))

      line : (i : ℕ) → i < count_in b → Dec (i < k) → Dec (k < i) → line_at b₁ i ≡ get_or (placed k p (lines_in b)) i no_site
      line i h (yes f) g =
          site_same b b₁ (record_start i) (record_start i) (stays _ (inr (omega arith))) (stays _ (inr (omega arith)))
          (stays _ (inr (omega arith)))
          ∙ sym (line_at_lem b i no_site h)
          ∙ sym (placed_other k p (lines_in b) i (λ q. omega arith))
      line i h (no f) (yes g) =
          site_same b b₁ (record_start i) (record_start i) (stays _ (inl (omega arith))) (stays _ (inl (omega arith)))
          (stays _ (inl (omega arith)))
          ∙ sym (line_at_lem b i no_site h)
          ∙ sym (placed_other k p (lines_in b) i (λ q. omega arith))
      line i h (no f) (no g) =
          let q : i ≡ k = omega arith in
          rw q (here ∙ sym (placed_at k p (lines_in b) (omega (arith, lines_length b))))

      spare : (i : ℕ) → i < count_in b → Dec (i < k) → word_at b₁ (record_start i + spare_offset) ≡ 0
      spare i h (yes g) = stays _ (inr (omega arith)) ∙ a.spare i h
      spare i h (no g) = stays _ (inl (omega arith)) ∙ a.spare i h
