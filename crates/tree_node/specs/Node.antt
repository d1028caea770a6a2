-- A node's entries in the table's bytes. "A node is read by reading its entries."
-- Assumes nothing.
use Rattle.std.specs.Prelude.{◌≡◌, List, [], ◌∷◌, ◌++◌, ℕ, zero, suc, ◌+◌, ◌-◌, length, get_or, set, take}
use Rattle.limits.specs.Limits.{max_entries, table_bytes}
use Rattle.words.specs.Words.{word_at, put_word, Only}
use Rattle.tree_node.specs.declared.NodeEntry.{NodeEntry}
use Rattle.tree_node.specs.Layout.{pool_start, node_bytes, base, entry_start, up_to, west_edge, south_edge, east_edge, north_edge, entry_spare}

-- the entry that starts at byte i
unfoldable pub entry_at : List ℕ → ℕ → NodeEntry
entry_at b i =
    record {
      reference = word_at b i;
      west = word_at b (i + west_edge);
      south = word_at b (i + south_edge);
      east = word_at b (i + east_edge);
      north = word_at b (i + north_edge);
      spare = word_at b (i + entry_spare);
    }

-- e stored from byte i on
unfoldable pub put_entry : List ℕ → ℕ → NodeEntry → List ℕ
put_entry b i e =
    put_word
    (put_word
    (put_word
    (put_word (put_word (put_word b i e.reference) (i + west_edge) e.west) (i + south_edge) e.south)
    (i + east_edge)
    e.east)
    (i + north_edge)
    e.north)
    (i + entry_spare)
    e.spare

-- f 0, f 1, ..: n of them
unfoldable pub firsts : (ℕ → NodeEntry) → ℕ → List NodeEntry
firsts f zero = []
firsts f (suc n) = firsts f n ++ (f n ∷ [])

-- the entries of node n: as many as its count says, none where it says more than there is room for
unfoldable pub entries : List ℕ → ℕ → List NodeEntry
entries b n = firsts (λ k. entry_at b (entry_start n k)) (up_to max_entries (word_at b (base n)))

-- what stands past a node's last entry
abbrev pub no_entry : NodeEntry
no_entry = record { reference = 0; west = 0; south = 0; east = 0; north = 0; spare = 0 }

-- l without its entry k: the last one takes its place
unfoldable pub swap_out : List NodeEntry → ℕ → List NodeEntry
swap_out l k = take (length l - 1) (set l k (get_or l (length l - 1) no_entry))

-- b' is b but that node n has the entries l
pub record Wrote (n : ℕ) (l : List NodeEntry) (b b' : List ℕ) : Type 0 where
  pub here : entries b' n ≡ l
  pub only : Only (base n) (base n + node_bytes) b b'

-- b' is b but for the nodes c and s
pub record OnlyTwo (c s : ℕ) (b b' : List ℕ) : Type 0 where
  pub rest : (m : ℕ) → (m ≡ c → ⊥) → (m ≡ s → ⊥) → entries b' m ≡ entries b m
  pub only : Only pool_start table_bytes b b'
