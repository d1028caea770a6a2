-- What a walk tests, entry by entry and level by level.
-- Assumes nothing.
use mathlib.Core.Bool.{Bool, true, false}
use mathlib.Core.List.{List, [], ◌∷◌}
use mathlib.Core.Path.{◌≡◌, refl, sym, ap, subst, ◌∙◌}
use Prim.Native.Nat.{ℕ, suc, ◌+◌, ◌-◌, ◌≤◌, ◌<◌}
use native.Mathlib.Numerals.{add-one}
use native.Mathlib.Omega.{arith}
use lib.ListN.{length, get_or, set, drop, drop_of_length-le}
use lib.Seq.{drop-cons}
use Rattle.limits.specs.Limits.{max_nodes, max_sites}
use Rattle.grid.specs.declared.Site.{Site}
use Rattle.grid.specs.Says.{Says}
use Rattle.grid.proofs.Says.{says_yes, says_no}
use Rattle.std.specs.Prelude.{Result, Ok, Err}
use Rattle.table_sites.specs.Lines.{lines_in, line_at, no_site, Array, StandsAt, FoundAs}
use Rattle.table_sites.proofs.Reading.{line_at_lem}
use Rattle.table_sites.proofs.Finding.{found_at, found_absent, absent_missing, at_counted}
use Rattle.tree_node.specs.declared.NodeEntry.{NodeEntry}
use Rattle.tree_node.specs.Node.{entries, no_entry}
use Rattle.tree_node.specs.Tally.{total, hit}
use Rattle.tree_node.specs.Told.{Told}
use Rattle.tree_node.proofs.Counting.{hit_same}
use Rattle.tree_node.proofs.Reading.{eight}
use Rattle.tree_node.proofs.Telling.{told_yes, told_no, told_map}
use Rattle.tree_rules.specs.Tree.{joined, leaves, nodes, Each, Child, SoundUnder}
use Rattle.tree_rules.proofs.Every.{each_append, each_left, each_right}
use Rattle.tree_rules.proofs.Totals.{total_cons}
use Rattle.tree_check.specs.Marks.{mark_bytes, seen_bytes, record_mark, Fresh, Marked, Bits, Prepared}
use Rattle.tree_check.specs.Leaves.{leaf_entry, index_of, Known}
use Rattle.tree_check.specs.Walk.{asked_for, met, Pass, Fits}
use Rattle.tree_check.proofs.Marking.{marked_both, fresh_first, fresh_then, fresh_both, marked_set, fresh_at, fresh_hit, prepared_on, fresh_none, marked_none}
use Rattle.tree_check.proofs.Leaves.{index_of_lem, known_number}

-- an answer that says more
told_both : {r : Bool} {A B C D : Type 0} → (A → C) → (C → A) → (A → B → D) → Told r A B → Told r C D
told_both f g k t =
    record { yes = λ q. (f (t.yes q).0, k (t.yes q).0 (t.yes q).1); no = λ q c. t.no q (g c) }

-- an answer that says less
told_says : {A B C : Type 0} (r : Bool) → (A → C) → (C → A) → Told r A B → Says r C
told_says true f g t = f (t.yes refl).0
told_says false f g t = λ c. t.no refl (g c)

-- what is asked for, part by part
module _ (b : List ℕ) (h : ℕ) where
  met_none : (m : ℕ) → met b h [] m ≡ 0
  unfolding met asked_for joined total
  met_none m = refl

  met_cons : (e : NodeEntry) (l : List NodeEntry) (m : ℕ) → met b h (e ∷ l) m ≡ met b h (e ∷ []) m + met b h l m
  unfolding met asked_for joined total
  met_cons e l m =
      let w : NodeEntry → ℕ = λ d. hit m (record_mark (index_of (lines_in b) d.reference)) in
      omega (
        arith,
        total_cons (hit m) (nodes (entries b) h) e l,
        total_cons (hit m) (nodes (entries b) h) e [],
        total_cons w (leaves (entries b) h) e l,
        total_cons w (leaves (entries b) h) e [],
      )

  met_node : (e : NodeEntry) (m : ℕ) → met b (suc h) (e ∷ []) m ≡ hit m e.reference + met b h (entries b e.reference) m
  unfolding met asked_for joined total nodes leaves
  met_node e m =
      let w : NodeEntry → ℕ = λ d. hit m (record_mark (index_of (lines_in b) d.reference)) in
      omega (
        arith,
        total_cons (hit m) (nodes (entries b) (suc h)) e [],
        total_cons w (leaves (entries b) (suc h)) e [],
      )

met_leaf : (b : List ℕ) (e : NodeEntry) (m : ℕ) → met b 0 (e ∷ []) m ≡ hit m (record_mark (index_of (lines_in b) e.reference))
unfolding met asked_for joined total nodes leaves
met_leaf b e m = omega arith

-- entries one after the other
module _ (b : List ℕ) (h : ℕ) (o : List ℕ) where
  pass_none : Prepared b o → Pass b h [] o
  unfolding joined Each
  pass_none s = record { sound = tt; known = tt; fresh = fresh_none o (met b h []) (met_none b h) s.bits }

  module _ (e : NodeEntry) (l : List NodeEntry) where
    pass_head : Pass b h (e ∷ l) o → Pass b h (e ∷ []) o
    unfolding joined Each
    pass_head p =
        record {
          sound = (p.sound.0, tt);
          known = each_append (Known (lines_in b)) (leaves (entries b) h e) [] (each_left (Known (lines_in b)) (leaves (entries b) h e) _ p.known) tt;
          fresh = fresh_first (met b h (e ∷ [])) (met b h l) (met b h (e ∷ l)) o o (met_cons b h e l) p.fresh;
        }

    module _ (o₁ : List ℕ) (r : Marked (met b h (e ∷ [])) o o₁) where
      pass_tail : Pass b h (e ∷ l) o → Pass b h l o₁
      unfolding joined Each
      pass_tail p =
          record {
            sound = p.sound.1;
            known = each_right (Known (lines_in b)) (leaves (entries b) h e) (joined (leaves (entries b) h) l) p.known;
            fresh = fresh_then (met b h (e ∷ [])) (met b h l) (met b h (e ∷ l)) o o₁ (met_cons b h e l) r p.fresh;
          }

      pass_cons : Pass b h (e ∷ []) o → Pass b h l o₁ → Pass b h (e ∷ l) o
      unfolding joined Each
      pass_cons p q =
          record {
            sound = (p.sound.0, q.sound);
            known =
                each_append
                (Known (lines_in b))
                (leaves (entries b) h e)
                (joined (leaves (entries b) h) l)
                (each_left (Known (lines_in b)) (leaves (entries b) h e) [] p.known)
                q.known;
            fresh = fresh_both (met b h (e ∷ [])) (met b h l) (met b h (e ∷ l)) o o₁ (met_cons b h e l) r q.fresh;
          }

      marked_cons : (o₂ : List ℕ) → Marked (met b h l) o₁ o₂ → Marked (met b h (e ∷ l)) o o₂
      marked_cons o₂ s = marked_both (met b h (e ∷ [])) (met b h l) (met b h (e ∷ l)) o o₁ o₂ (met_cons b h e l) r s

-- the entries of a node from k on
module _ (b : List ℕ) (h c k j : ℕ) (o : List ℕ) (count : j ≡ length (entries b c)) where
  node_end : Prepared b o → j ≤ k → Told true (Pass b h (drop k (entries b c)) o) (Marked (met b h (drop k (entries b c))) o o)
  node_end s past =
      let le : length (entries b c) ≤ k = omega arith in
      rw (drop_of_length-le (entries b c) le) (told_yes (pass_none b h o s) (marked_none o (met b h []) (met_none b h)))

  module _ (e : NodeEntry) (lt : k < j) (q : e ≡ get_or (entries b c) k no_entry) where
    here : drop k (entries b c) ≡ e ∷ drop (k + 1) (entries b c)
    here = drop-cons (entries b c) k no_entry (omega arith) ∙ rw (← q, add-one)

    node_no : {B C : Type 0} (r : Bool) → Told r (Pass b h (e ∷ []) o) B → r ≡ false → Told false (Pass b h (drop k (entries b c)) o) C
    node_no r t z = told_no (λ p. t.no z (pass_head b h o e (drop (k + 1) (entries b c)) (rw here at p)))

    node_told : (r s : Bool) (o₁ o₂ : List ℕ) → Told r (Pass b h (e ∷ []) o) (Marked (met b h (e ∷ [])) o o₁) → r ≡ true
        → Told s (Pass b h (drop (k + 1) (entries b c)) o₁) (Marked (met b h (drop (k + 1) (entries b c))) o₁ o₂)
        → Told s (Pass b h (drop k (entries b c)) o) (Marked (met b h (drop k (entries b c))) o o₂)
    node_told r s o₁ o₂ t z u =
        let p = t.yes z in
        let l : List NodeEntry = drop (k + 1) (entries b c) in
        rw here
        (told_map
        (pass_cons b h o e l o₁ p.1 p.0)
        (pass_tail b h o e l o₁ p.1)
        (marked_cons b h o e l o₁ p.1 o₂)
        u)

-- a record that was found is one of the array's
pub leaf_in : (b : List ℕ) (x : Result ℕ ℕ) (k n : ℕ) → FoundAs x n (lines_in b) → x ≡ Ok k → Array b → k < max_sites
leaf_in b x k n f q a = omega (arith, at_counted b (found_at q f), a.few)

-- a leaf entry
module _ (b o : List ℕ) (e : NodeEntry) where
  leaf_known : Pass b 0 (e ∷ []) o → Known (lines_in b) e
  unfolding joined leaves Each
  leaf_known p = p.known.0

  module _ (x : Result ℕ ℕ) (k : ℕ) (f : FoundAs x e.reference (lines_in b)) where
    pub leaf_absent : {B : Type 0} → x ≡ Err k → Told false (Pass b 0 (e ∷ []) o) B
    leaf_absent q =
        told_no
        (λ p.
        let y = leaf_known p in
        absent_missing (found_absent q f) (index_of (lines_in b) e.reference) y.held (known_number (lines_in b) e y))

    module _ (q : x ≡ Ok k) (s : Prepared b o) where
      stands : StandsAt k e.reference (lines_in b)
      stands = found_at q f

      is_index : index_of (lines_in b) e.reference ≡ k
      is_index = index_of_lem (lines_in b) s.array.rising k e.reference stands.line stands.number

      module _ (p : Site) (d : NodeEntry) (qp : p ≡ line_at b k) (qd : d ≡ leaf_entry p) (r : Bool) (t : Told r (e ≡ d) (e ≡ d)) where
        own : d ≡ leaf_entry (get_or (lines_in b) k no_site)
        own = qd ∙ ap leaf_entry (qp ∙ sym (line_at_lem b k no_site (at_counted b stands)))

        pub leaf_other : {B : Type 0} → r ≡ false → Told false (Pass b 0 (e ∷ []) o) B
        leaf_other z =
            told_no (λ v. t.no z ((leaf_known v).leaf ∙ ap (λ (j : ℕ). leaf_entry (get_or (lines_in b) j no_site)) is_index ∙ sym own))

        pub leaf_told : (u : Bool) (o₁ : List ℕ) → length o ≡ seen_bytes → r ≡ true → Told u (get_or o (max_nodes + k) 0 ≡ 0) (o₁ ≡ set o (max_nodes + k) 1)
            → Told u (Pass b 0 (e ∷ []) o) (Marked (met b 0 (e ∷ [])) o o₁)
        unfolding joined leaves Each SoundUnder Fresh Marked Bits
        leaf_told u o₁ len y v =
            let low = leaf_in b x k e.reference f q s.array in
            told_both
            (λ (z : get_or o (max_nodes + k) 0 ≡ 0).
            record {
              sound = (tt, tt);
              known = (record { held = rw is_index stands.line; leaf = rw is_index ((t.yes y).0 ∙ own) }, tt);
              fresh = λ m lm. omega (arith, one m, fits z m lm);
            })
            (λ (p : Pass b 0 (e ∷ []) o).
            fresh_at (met b 0 (e ∷ [])) o (max_nodes + k) (omega arith) (omega (arith, one (max_nodes + k), hit_same (max_nodes + k) (max_nodes + k) refl)) p.fresh)
            (λ (z : get_or o (max_nodes + k) 0 ≡ 0) (w : o₁ ≡ set o (max_nodes + k) 1) m lm.
            omega (arith, one m, marked_set o o₁ (max_nodes + k) len (omega arith) z w m lm))
            v
          where
            one : (m : ℕ) → met b 0 (e ∷ []) m ≡ hit m (max_nodes + k)
            one m = met_leaf b e m ∙ ap (λ (x : ℕ). hit m (max_nodes + x)) is_index

            fits : get_or o (max_nodes + k) 0 ≡ 0 → (m : ℕ) → m < mark_bytes → get_or o m 0 + hit m (max_nodes + k) ≤ 1
            fits z m lm = fresh_hit o (max_nodes + k) z m (s.bits m lm)

-- a leaf entry, as the code reads it
pub entry_leaf : (b : List ℕ) (h : ℕ) (e : NodeEntry) (o o₁ : List ℕ) (r : Bool) → h ≡ 0 → Told r (Pass b 0 (e ∷ []) o) (Marked (met b 0 (e ∷ [])) o o₁)
    → Told r (Pass b h (e ∷ []) o) (Marked (met b h (e ∷ [])) o o₁)
entry_leaf b h e o o₁ r z t = rw z t

-- an entry above the leaves
module _ (b : List ℕ) (g : ℕ) (o : List ℕ) (e : NodeEntry) where
  child : Pass b (suc g) (e ∷ []) o → Child (entries b) (SoundUnder (entries b) g) e
  unfolding Each SoundUnder
  child p = p.sound.0

  child_met : e.reference < max_nodes → Pass b (suc g) (e ∷ []) o → get_or o e.reference 0 ≡ 0
  child_met lt p =
      fresh_at
      (met b (suc g) (e ∷ []))
      o
      e.reference
      (omega arith)
      (omega (arith, met_node b g e e.reference, hit_same e.reference e.reference refl))
      p.fresh

  module _ (lt : e.reference < max_nodes) (o₁ : List ℕ) (one : Marked (λ m. hit m e.reference) o o₁) where
    pass_up : Fits b e → Pass b g (entries b e.reference) o₁ → Pass b (suc g) (e ∷ []) o
    unfolding Each SoundUnder joined leaves
    pass_up f p =
        record {
          sound =
              (record { id = lt; box = f.box; least = f.least; most = eight b e.reference; below = p.sound }, tt);
          known = each_append (Known (lines_in b)) (joined (leaves (entries b) g) (entries b e.reference)) [] p.known tt;
          fresh =
              fresh_both (λ m. hit m e.reference) (met b g (entries b e.reference)) (met b (suc g) (e ∷ [])) o o₁ (met_node b g e) one p.fresh;
        }

    pass_down : Pass b (suc g) (e ∷ []) o → Pass b g (entries b e.reference) o₁
    unfolding joined leaves
    pass_down p =
        record {
          sound = (child p).below;
          known = each_left (Known (lines_in b)) (joined (leaves (entries b) g) (entries b e.reference)) [] p.known;
          fresh =
              fresh_then (λ m. hit m e.reference) (met b g (entries b e.reference)) (met b (suc g) (e ∷ [])) o o₁ (met_node b g e) one p.fresh;
        }

    marked_up : (o₂ : List ℕ) → Marked (met b g (entries b e.reference)) o₁ o₂ → Marked (met b (suc g) (e ∷ [])) o o₂
    marked_up o₂ =
        marked_both (λ m. hit m e.reference) (met b g (entries b e.reference)) (met b (suc g) (e ∷ [])) o o₁ o₂ (met_node b g e) one

at_height : (P : ℕ → Type 0) (h : ℕ) → (h ≡ 0 → ⊥) → P (suc (h - 1)) → P h
at_height P h up p = let u : suc (h - 1) ≡ h = omega arith in subst P u p

-- the same as the code reads it
module _ (b : List ℕ) (h : ℕ) (o : List ℕ) (e : NodeEntry) (up : h ≡ 0 → ⊥) where
  pub entry_far : {B : Type 0} → max_nodes ≤ e.reference → Told false (Pass b h (e ∷ []) o) B
  entry_far {B} le =
      at_height (λ x. Told false (Pass b x (e ∷ []) o) B) h up (told_no (λ p. omega (arith, (child b (h - 1) o e p).id)))

  pub entry_met : {B C : Type 0} (r : Bool) → e.reference < max_nodes → Told r (get_or o e.reference 0 ≡ 0) B → r ≡ false → Told false (Pass b h (e ∷ []) o) C
  entry_met {C = C} r lt t z =
      at_height (λ x. Told false (Pass b x (e ∷ []) o) C) h up (told_no (λ p. t.no z (child_met b (h - 1) o e lt p)))

  pub entry_unfit : {C : Type 0} (r : Bool) → Says r (Fits b e) → r ≡ false → Told false (Pass b h (e ∷ []) o) C
  entry_unfit {C} r t z =
      at_height
      (λ x. Told false (Pass b x (e ∷ []) o) C)
      h
      up
      (told_no (λ p. let c = child b (h - 1) o e p in says_no r t z (record { box = c.box; least = c.least })))

  pub entry_told : (r v u : Bool) (o₁ o₂ : List ℕ) → length o ≡ seen_bytes → e.reference < max_nodes
      → Told r (get_or o e.reference 0 ≡ 0) (o₁ ≡ set o e.reference 1) → r ≡ true → Says v (Fits b e) → v ≡ true
      → Told u (Pass b (h - 1) (entries b e.reference) o₁) (Marked (met b (h - 1) (entries b e.reference)) o₁ o₂)
      → Told u (Pass b h (e ∷ []) o) (Marked (met b h (e ∷ [])) o o₂)
  entry_told r v u o₁ o₂ len lt t y f w p =
      let z = t.yes y in
      let one : Marked (λ m. hit m e.reference) o o₁ = marked_set o o₁ e.reference len (omega arith) z.0 z.1 in
      at_height
      (λ x. Told u (Pass b x (e ∷ []) o) (Marked (met b x (e ∷ [])) o o₂))
      h
      up
      (told_map
      (pass_up b (h - 1) o e lt o₁ one (says_yes v f w))
      (pass_down b (h - 1) o e lt o₁ one)
      (marked_up b (h - 1) o e lt o₁ one o₂)
      p)

-- the walk goes on
module _ (b : List ℕ) (o o₁ : List ℕ) (r : Bool) (s : Prepared b o) (y : r ≡ true) where
  pub prepared_one : (c : ℕ) → length o ≡ seen_bytes → c < max_nodes → Told r (get_or o c 0 ≡ 0) (o₁ ≡ set o c 1) → Prepared b o₁
  unfolding Bits Fresh
  prepared_one c len lt t =
      let z = t.yes y in
      prepared_on
      b
      o
      o₁
      (λ m. hit m c)
      s
      (λ m lm. fresh_hit o c z.0 m (s.bits m lm))
      (marked_set o o₁ c len (omega arith) z.0 z.1)

  prepared_next : (h : ℕ) (l : List NodeEntry) → Told r (Pass b h l o) (Marked (met b h l) o o₁) → Prepared b o₁
  prepared_next h l t = let z = t.yes y in prepared_on b o o₁ (met b h l) s z.0.fresh z.1

-- The loop over a node's entries, which stand at height h: they are left from the kth on, and whoever tells of these tells of the node.
pub record Left (b : List ℕ) (h c : ℕ) (o₀ : List ℕ) (k : ℕ) (o : List ℕ) : Type 0 where
  pub prepared : Prepared b o
  pub rest : (r : Bool) (o' : List ℕ) → Told r (Pass b h (drop k (entries b c)) o) (Marked (met b h (drop k (entries b c))) o o')
      → Told r (Pass b h (entries b c) o₀) (Marked (met b h (entries b c)) o₀ o')

-- at the start, after each entry and at the end
pub left_all : (b : List ℕ) (h c : ℕ) (o : List ℕ) → Prepared b o → Left b h c o 0 o
left_all b h c o s = record { prepared = s; rest = λ r o' t. t }

module _ (b : List ℕ) (h c : ℕ) (o₀ : List ℕ) (k : ℕ) (o : List ℕ) (w : Left b h c o₀ k o) (j : ℕ) (count : j ≡ length (entries b c)) where
  pub left_none : j ≤ k → Told true (Pass b h (entries b c) o₀) (Marked (met b h (entries b c)) o₀ o)
  left_none past = w.rest true o (node_end b h c k j o count w.prepared past)

  module _ (e : NodeEntry) (lt : k < j) (q : e ≡ get_or (entries b c) k no_entry) (r : Bool) (o₁ : List ℕ) (t : Told r (Pass b h (e ∷ []) o) (Marked (met b h (e ∷ [])) o o₁)) where
    pub left_no : r ≡ false → Told false (Pass b h (entries b c) o₀) (Marked (met b h (entries b c)) o₀ o₁)
    left_no z = w.rest false o₁ (node_no b h c k j o count e lt q r t z)

    pub left_next : r ≡ true → Left b h c o₀ (k + 1) o₁
    left_next y =
        record {
          prepared = prepared_next b o o₁ r w.prepared y h (e ∷ []) t;
          rest = λ s o₂ u. w.rest s o₂ (node_told b h c k j o count e lt q r s o₁ o₂ t y u);
        }
