-- What is read of a node: as many entries as its count says, each at its place.
-- Assumes nothing.
use mathlib.Core.Path.{◌≡◌, refl, sym, ap, ap₂, ◌∙◌}
use mathlib.Core.List.{List, [], ◌∷◌, ◌++◌}
use mathlib.Core.Logic.{⊎_elim}
use Prim.Native.Nat.{ℕ, zero, suc, ◌+◌, ◌≤◌, ◌<◌}
use native.Mathlib.Omega.{arith}
use native.Mathlib.Nat.{eq-or-lt_of_le}
use lib.ListN.{length, get_or, length-append, get_or-append}
use lib.Seq.{get_or_at, ext_get_or}
use Rattle.limits.specs.Limits.{max_entries, max_nodes, table_bytes}
use Rattle.words.specs.Words.{word_at}
use Rattle.tree_node.specs.declared.NodeEntry.{NodeEntry}
use Rattle.tree_node.specs.Layout.{node_entry_bytes, base, entry_start, up_to}
use Rattle.tree_node.specs.Node.{entry_at, firsts, entries, no_entry}
use Rattle.tree_node.proofs.Counting.{up_to_low, up_to_high, up_to_most}

length_firsts : (f : ℕ → NodeEntry) (n : ℕ) → length (firsts f n) ≡ n
unfolding firsts
length_firsts f zero = refl
length_firsts f (suc n) = simp length-append (omega (arith, length_firsts f n))

get_d_firsts : (f : ℕ → NodeEntry) (n k : ℕ) (d : NodeEntry) → k < n → get_or (firsts f n) k d ≡ f k
unfolding firsts
get_d_firsts f zero k d h = absurd (omega arith)
get_d_firsts f (suc n) k d h =
    ⊎_elim
    (λ (e : k ≡ n). rw e (get_or_at (firsts f n) (f n) [] d n (length_firsts f n)))
    (λ (l : k < n).
    get_or-append (firsts f n) (f n ∷ []) d k (omega (arith, length_firsts f n)) ∙ get_d_firsts f n k d l)
    (eq-or-lt_of_le (omega arith))

firsts_ext : (f g : ℕ → NodeEntry) (n : ℕ) → ((k : ℕ) → k < n → f k ≡ g k) → firsts f n ≡ firsts g n
unfolding firsts
firsts_ext f g zero h = refl
firsts_ext f g (suc n) h =
    ap₂ (λ (l : List NodeEntry) (e : NodeEntry). l ++ (e ∷ [])) (firsts_ext f g n (λ k lt. h k (omega arith))) (h n (omega arith))

pub length_entries : (b : List ℕ) (n : ℕ) → length (entries b n) ≡ up_to max_entries (word_at b (base n))
unfolding entries
length_entries b n = length_firsts (λ k. entry_at b (entry_start n k)) (up_to max_entries (word_at b (base n)))

pub get_d_entries : (b : List ℕ) (n k : ℕ) → k < length (entries b n) → get_or (entries b n) k no_entry ≡ entry_at b (entry_start n k)
unfolding entries
get_d_entries b n k h =
    get_d_firsts
    (λ j. entry_at b (entry_start n j))
    (up_to max_entries (word_at b (base n)))
    k
    no_entry
    (omega (arith, length_entries b n))

-- "A node holds at most 8 entries", whatever its bytes
pub eight : (b : List ℕ) (n : ℕ) → length (entries b n) ≤ max_entries
eight b n = omega (arith, length_entries b n, up_to_most max_entries (word_at b (base n)))

-- two tables with the same count and entries at a node's places
pub entries_ext : (b b' : List ℕ) (n : ℕ) → word_at b' (base n) ≡ word_at b (base n)
    → ((k : ℕ) → k < max_entries → entry_at b' (entry_start n k) ≡ entry_at b (entry_start n k)) → entries b' n ≡ entries b n
unfolding entries
entries_ext b b' n p q = rw p (firsts_ext _ _ _ (λ k lt. q k (omega (arith, up_to_most max_entries (word_at b (base n))))))

-- a node has the entries l, if its count and each of its places say so
pub entries_are : (b : List ℕ) (n : ℕ) (l : List NodeEntry) → up_to max_entries (word_at b (base n)) ≡ length l
    → ((i : ℕ) → i < length l → entry_at b (entry_start n i) ≡ get_or l i no_entry) → entries b n ≡ l
entries_are b n l c f =
    let len : length (entries b n) ≡ length l = omega (arith, length_entries b n) in
    ext_get_or no_entry (entries b n) l len (λ i lt. get_d_entries b n i lt ∙ f i (omega arith))

-- the count that a node's first two bytes tell
module _ (b : List ℕ) (n i stored : ℕ) (at : i ≡ base n) (q : stored ≡ word_at b i) where
  told : length (entries b n) ≡ up_to max_entries stored
  told = length_entries b n ∙ rw (q, at)

  pub counted : stored ≤ max_entries → stored ≡ length (entries b n)
  counted h = omega (arith, told, up_to_low max_entries stored h)

  pub counted_none : max_entries < stored → 0 ≡ length (entries b n)
  counted_none h = omega (arith, told, up_to_high max_entries stored h)

-- an entry that is there stands in the node's bytes
pub below_eight : (b : List ℕ) (n k : ℕ) → k < length (entries b n) → k < max_entries
below_eight b n k h = omega (arith, eight b n)

pub place_fits : (b : List ℕ) (n k i : ℕ) → length b ≡ table_bytes → n < max_nodes → k < length (entries b n) → i ≡ entry_start n k → i + node_entry_bytes ≤ length b
place_fits b n k i len id h at = omega (arith, eight b n)

pub entry_read : (b : List ℕ) (n k i : ℕ) (e : NodeEntry) → k < length (entries b n) → i ≡ entry_start n k → e ≡ entry_at b i → e ≡ get_or (entries b n) k no_entry
entry_read b n k i e h at q = q ∙ ap (entry_at b) at ∙ sym (get_d_entries b n k h)

-- an entry is its six numbers
pub words_read : (b : List ℕ) (i reference west south east north spare : ℕ) → reference ≡ word_at b i → west ≡ word_at b (i + 2) → south ≡ word_at b (i + 4)
    → east ≡ word_at b (i + 6) → north ≡ word_at b (i + 8) → spare ≡ word_at b (i + 10)
    → record { reference = reference; west = west; south = south; east = east; north = north; spare = spare } ≡ entry_at b i
unfolding entry_at
words_read b i reference west south east north spare r w s e n z =
    λ j. record { reference = r j; west = w j; south = s j; east = e j; north = n j; spare = z j }
