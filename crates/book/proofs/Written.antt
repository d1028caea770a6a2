-- The same run with the steps written out. Document 02, C-15: "A run whose readings are all finite must answer, record
-- for record, as the same run with the steps written out, a step off the grid as 32,767."
-- Assumes nothing.
use mathlib.Core.Path.{◌≡◌, refl, sym, ap, ap₂, ◌∙◌, subst, subst⁻¹}
use mathlib.Core.Bool.{Bool, true, false, cond, ◌&&◌, true≢false}
use Rattle.std.specs.Prelude.{Option, None, Some}
use mathlib.Core.List.{List, [], ◌∷◌, ◌++◌, append_assoc}
use Prim.Native.Nat.{ℕ, zero, suc, ◌+◌, ◌≤◌, ◌<◌}
use native.Mathlib.Omega.{arith}
use lib.ListN.{length, get_or, take, drop, length-append, length-drop, take-append-drop, get_or-append}
use lib.Seq.{get_or-append-add, take-append_seam, drop-append_seam, length-take-le}
use lib.Dec.{T, eqb, leb, ltb, eqb→eq}
use borrow.Author.Tests.{leb-true, leb-false, le-leb, lt-leb, ltb-true, ltb-false, le-ltb, lt-ltb}
use Rattle.words.specs.Words.{word_at}
use Rattle.grid.specs.declared.Position.{Position}
use Rattle.grid.specs.Coordinate.{from_word, word_position}
use Rattle.readings.specs.declared.Location.TheVariants.{InMetres}
use Rattle.readings.specs.Reading.{finite?, word_of}
use Rattle.readings.specs.Location.{both_finite, long_at, reading_at}
use Rattle.readings.proofs.Laws.{word_fits, written_out_lem, finite_readings}
use Rattle.records.specs.Bytes.{bytes2}
use Rattle.records.proofs.ReadBack.{bytes2_hold}
use Rattle.book.specs.declared.Command.{Command}
use Rattle.book.specs.declared.Shape.TheVariants.{NumberPosition, NumberReadings}
use Rattle.book.specs.declared.Parsed.{Parsed}
use Rattle.book.specs.declared.Parsed.TheVariants.{End, Unknown, Cut, Whole}
use Rattle.book.specs.declared.Reason.{Reason}
use Rattle.book.specs.declared.Reason.TheVariants.{AllUsed, UnknownCommand, CutShort, NoRoom}
use Rattle.book.specs.Command.{position_at, made_at, add_at, move_to, add_surveyed, move_surveyed, Form, form, form_bytes, form_of, command_at, parse_at}
use Rattle.book.specs.Book.{Book, change}
use Rattle.book.specs.Reply.{Reply, done, refused, listed, record_of}
use Rattle.book.specs.Answer.{answer, after}
use Rattle.book.specs.Run.{Turn, records, Outcome, ends, run}
use Rattle.book.specs.WrittenOut.{step_operands, add_written, move_written, whole_written, cut_written, finite_whole, written_by, written_in, written_bytes, FiniteBy, FiniteIn, AllFinite}
use Rattle.book.proofs.Answers.{same_add, same_move, same_added, same_moved}
use Rattle.book.proofs.Parsing.{parse_whole, parse_cut, parse_next, parse_end}
use Rattle.book.proofs.ReadBack.{made_behind}
use Rattle.book.proofs.Prefixes.{made_front, parse_front}
use Rattle.book.proofs.Runs.{turn_of, records_append, records_one, Steps, steps_none, steps_one, ends_all, ends_unknown, ends_cut, ends_full}

-- ---- what stands behind other bytes

-- a finding so many bytes on
abbrev shifted : ℕ → Parsed → Parsed
shifted m End = End
shifted m Unknown = Unknown
shifted m Cut = Cut
shifted m (Whole c n) = Whole c (m + n)

leb_same : (a b c d : ℕ) → (a ≤ b → c ≤ d) → (b < a → d < c) → leb a b ≡ leb c d
leb_same a b c d f g = go (leb a b) refl
  where
    go : (t : Bool) → leb a b ≡ t → t ≡ leb c d
    go true e = sym (le-leb c d (f (leb-true a b e)))
    go false e = sym (lt-leb c d (g (leb-false a b e)))

ltb_same : (a b c d : ℕ) → (a < b → c < d) → (b ≤ a → d ≤ c) → ltb a b ≡ ltb c d
ltb_same a b c d f g = go (ltb a b) refl
  where
    go : (t : Bool) → ltb a b ≡ t → t ≡ ltb c d
    go true e = sym (lt-ltb c d (f (ltb-true a b e)))
    go false e = sym (le-ltb c d (g (ltb-false a b e)))

module _ (pre s : List ℕ) where
  long : length (pre ++ s) ≡ length pre + length s
  long = length-append pre s

  first : get_or (pre ++ s) (length pre) 0 ≡ get_or s 0 0
  first = let e : length pre + 0 ≡ length pre = omega arith in sym (ap (λ (i : ℕ). get_or (pre ++ s) i 0) e) ∙ get_or-append-add pre s 0 0

  -- WHAT STANDS THERE is what the bytes behind begin with
  parse_behind : parse_at (pre ++ s) (length pre) ≡ shifted (length pre) (parse_at s 0)
  unfolding parse_at
  parse_behind =
      (λ j. cond (leb_same (length (pre ++ s)) (length pre) (length s) 0 (λ h. omega (arith, long)) (λ h. omega (arith, long)) j) End
      (command_at (pre ++ s) (length pre) (form_of (first j))))
      ∙ by (leb (length s) 0)
    where
      last : (m n : ℕ) (c : Command) (t : Bool) → cond t Cut (Whole c (m + n)) ≡ shifted m (cond t Cut (Whole c n))
      last m n c true = refl
      last m n c false = refl

      found : (o : Option Form) → command_at (pre ++ s) (length pre) o ≡ shifted (length pre) (command_at s 0 o)
      found None = refl
      found (Some f) =
          let e : length pre + 1 ≡ length pre + (0 + 1) = omega arith in
          let n : length pre + form_bytes f ≡ length pre + (0 + form_bytes f) = omega arith in
          (λ j. cond
          (ltb_same (length (pre ++ s)) (length pre + form_bytes f) (length s) (0 + form_bytes f) (λ h. omega (arith, long)) (λ h. omega (arith, long)) j)
          Cut (Whole ((ap (made_at f.shape f.maker (pre ++ s)) e ∙ made_behind f.shape f.maker pre s (0 + 1)) j) (n j)))
          ∙ last (length pre) (0 + form_bytes f) (made_at f.shape f.maker s (0 + 1)) (ltb (length s) (0 + form_bytes f))

      by : (t : Bool) → cond t End (command_at (pre ++ s) (length pre) (form_of (get_or s 0 0))) ≡ shifted (length pre) (cond t End (command_at s 0 (form_of (get_or s 0 0))))
      by true = refl
      by false = found (form_of (get_or s 0 0))

-- ---- a whole command

-- the form of a whole command at the beginning of s
record Formed (s : List ℕ) (c : Command) (next : ℕ) : Type 0 where
  form : Form
  found : form_of (get_or s 0 0) ≡ Some form
  next_is : next ≡ 0 + form_bytes form
  command : c ≡ made_at form.shape form.maker s (0 + 1)

whole_formed : (s : List ℕ) (c : Command) (next : ℕ) → parse_at s 0 ≡ Whole c next → Formed s c next
unfolding parse_at
whole_formed s c next h = go (leb (length s) 0) h
  where
    here : (f : Form) → form_of (get_or s 0 0) ≡ Some f → (t : Bool)
        → cond t Cut (Whole (made_at f.shape f.maker s (0 + 1)) (0 + form_bytes f)) ≡ Whole c next → Formed s c next
    here f e true x = absurd (let z : ◌≡◌ {A = ℕ} 0 1 = cc in omega arith)
    here f e false x = record { form = f; found = e; next_is = cc; command = cc }

    found? : (o : Option Form) → form_of (get_or s 0 0) ≡ o → command_at s 0 o ≡ Whole c next → Formed s c next
    found? None e x = absurd (let z : ◌≡◌ {A = ℕ} 0 1 = cc in omega arith)
    found? (Some f) e x = here f e (ltb (length s) (0 + form_bytes f)) x

    go : (t : Bool) → cond t End (command_at s 0 (form_of (get_or s 0 0))) ≡ Whole c next → Formed s c next
    go true x = absurd (let z : ◌≡◌ {A = ℕ} 0 1 = cc in omega arith)
    go false x = found? (form_of (get_or s 0 0)) refl x

-- the bytes of a whole command and no more
parse_alone : (q more : List ℕ) (c : Command) → parse_at (q ++ more) 0 ≡ Whole c (length q) → parse_at q 0 ≡ Whole c (length q)
parse_alone q more c h =
    let f = whole_formed (q ++ more) c (length q) h in
    let n = parse_next (q ++ more) 0 c (length q) h in
    let e : form_of (get_or q 0 0) ≡ Some f.form = ap form_of (sym (get_or-append q more 0 0 n.0)) ∙ f.found in
    parse_whole q 0 n.0 f.form e (omega (arith, f.next_is))
    ∙ (λ j. Whole ((sym (made_front q more f.form.shape f.form.maker (0 + 1) (omega (arith, f.next_is))) ∙ sym f.command) j) (sym f.next_is j))

-- ---- two commands that are answered alike, and do the same
record Same (c d : Command) : Type 0 where
  replies : (b : Book) → answer b c ≡ answer b d
  changes : (b : Book) → change c b ≡ change d b

same_after : (b : Book) (c d : Command) → Same c d → (y : Reply) → after b c y ≡ after b d y
same_after b c d h done = h.changes b
same_after b c d h (refused x) = refl
same_after b c d h (listed es) = h.changes b

-- a command, and the bytes w of one that does the same
record Stands (c : Command) (w : List ℕ) : Type 0 where
  other : Command
  stands : parse_at w 0 ≡ Whole other (length w)
  same : Same c other

-- steps, read from their words
two_words : (m x y : ℕ) (e n : ℕ) → e < 65536 → n < 65536 → position_at (m ∷ x ∷ y ∷ bytes2 e ++ bytes2 n) 3 ≡ word_position e n
unfolding word_at
two_words m x y e n he hn = λ j. record { east = from_word (bytes2_hold e he j); north = from_word (bytes2_hold n hn j) }

both_true : (a b : Bool) → (a && b) ≡ true → T a × T b
both_true true true h = (tt, tt)
both_true true false h = absurd (true≢false (sym h))
both_true false b h = absurd (true≢false (sym h))

module _ (q : List ℕ) (f : (finite? (long_at q 3) && finite? (long_at q 7)) ≡ true) where
  steps : Position
  steps = word_position (word_of (long_at q 3)) (word_of (long_at q 7))

  are_finite : both_finite (reading_at q 3) ≡ true
  are_finite = finite_readings q 3 ∙ f

  written_number : (m : ℕ) → word_at (m ∷ step_operands q) 1 ≡ word_at q 1
  unfolding word_at
  written_number m = refl

  written_steps : (m : ℕ) → position_at (m ∷ step_operands q) 3 ≡ steps
  unfolding steps
  written_steps m = two_words m (get_or q 1 0) (get_or q 2 0) (word_of (long_at q 3)) (word_of (long_at q 7)) (word_fits (long_at q 3)) (word_fits (long_at q 7))

  -- A 61 STANDS AS A 41
  added_stands : (c : Command) → c ≡ add_surveyed (word_at q 1) (reading_at q 3) → Stands c (add_written q)
  unfolding form_of steps
  added_stands c e =
      let b = both_true (finite? (long_at q 3)) (finite? (long_at q 7)) f in
      let w = written_out_lem q 3 b.0 b.1 in
      record {
        other = add_at (word_at q 1) steps;
        stands =
            parse_whole (0x41 ∷ step_operands q) 0 (omega arith) (form 0x41 NumberPosition add_at) refl (omega arith)
            ∙ (λ j. Whole (add_at (written_number 0x41 j) (written_steps 0x41 j)) 7);
        same = record {
          replies = λ b. ap (answer b) e ∙ same_add b (word_at q 1) (InMetres (reading_at q 3)) are_finite steps w;
          changes = λ b. ap (λ (x : Command). change x b) e ∙ same_added b (word_at q 1) (InMetres (reading_at q 3)) steps w;
        };
      }

  -- A 6D STANDS AS A 4D
  moved_stands : (c : Command) → c ≡ move_surveyed (word_at q 1) (reading_at q 3) → Stands c (move_written q)
  unfolding form_of steps
  moved_stands c e =
      let b = both_true (finite? (long_at q 3)) (finite? (long_at q 7)) f in
      let w = written_out_lem q 3 b.0 b.1 in
      record {
        other = move_to (word_at q 1) steps;
        stands =
            parse_whole (0x4D ∷ step_operands q) 0 (omega arith) (form 0x4D NumberPosition move_to) refl (omega arith)
            ∙ (λ j. Whole (move_to (written_number 0x4D j) (written_steps 0x4D j)) 7);
        same = record {
          replies = λ b. ap (answer b) e ∙ same_move b (word_at q 1) (InMetres (reading_at q 3)) are_finite steps w;
          changes = λ b. ap (λ (x : Command). change x b) e ∙ same_moved b (word_at q 1) (InMetres (reading_at q 3)) steps w;
        };
      }

-- of a mark: what stands there
marked : (q : List ℕ) (m : ℕ) → eqb (get_or q 0 0) m ≡ true → get_or q 0 0 ≡ m
marked q m e = eqb→eq (get_or q 0 0) m (subst T (sym e) tt)

form_one : (f g : Form) (o : Option Form) → o ≡ Some f → o ≡ Some g → f ≡ g
form_one f g o a b = cc

-- EVERY WHOLE COMMAND, WRITTEN OUT, does the same
whole_stands : (q : List ℕ) (c : Command) → parse_at q 0 ≡ Whole c (length q) → finite_whole q ≡ true → Stands c (whole_written q)
unfolding form_of
whole_stands q c h f = go (eqb (get_or q 0 0) 0x61) refl (eqb (get_or q 0 0) 0x6D) refl f
  where
    g : Formed q c (length q)
    g = whole_formed q c (length q) h

    made : (m : ℕ) (x : Form) → get_or q 0 0 ≡ m → form_of m ≡ Some x → c ≡ made_at x.shape x.maker q 1
    made m x e k =
        let s : g.form ≡ x = form_one g.form x (form_of (get_or q 0 0)) g.found (ap form_of e ∙ k) in
        g.command ∙ (λ j. made_at (s j).shape (s j).maker q 1)

    go : (a : Bool) → eqb (get_or q 0 0) 0x61 ≡ a → (b : Bool) → eqb (get_or q 0 0) 0x6D ≡ b
        → cond a (finite? (long_at q 3) && finite? (long_at q 7)) (cond b (finite? (long_at q 3) && finite? (long_at q 7)) true) ≡ true
        → Stands c (cond a (add_written q) (cond b (move_written q) q))
    go true e b d k = added_stands q k c (made 0x61 (form 0x61 NumberReadings add_surveyed) (marked q 0x61 e) refl)
    go false e true d k = moved_stands q k c (made 0x6D (form 0x6D NumberReadings move_surveyed) (marked q 0x6D d) refl)
    go false e false d k = record { other = c; stands = h; same = record { replies = λ b. refl; changes = λ b. refl } }

-- A CUT COMMAND, WRITTEN OUT, is cut
cut_stands : (s : List ℕ) → parse_at s 0 ≡ Cut → parse_at (cut_written s) 0 ≡ Cut
unfolding form_of
cut_stands s h = go (eqb (get_or s 0 0) 0x61) (eqb (get_or s 0 0) 0x6D)
  where
    go : (a b : Bool) → parse_at (cond a (0x41 ∷ []) (cond b (0x4D ∷ []) s)) 0 ≡ Cut
    go true b = parse_cut (0x41 ∷ []) 0 (omega arith) (form 0x41 NumberPosition add_at) refl (omega arith)
    go false true = parse_cut (0x4D ∷ []) 0 (omega arith) (form 0x4D NumberPosition move_to) refl (omega arith)
    go false false = h

-- ---- all commands, written out

-- by what stands there
module _ (k : ℕ) (s : List ℕ) where
  written_end : parse_at s 0 ≡ End → written_in (suc k) s ≡ []
  unfolding written_in
  written_end e = rw e refl

  written_unknown : parse_at s 0 ≡ Unknown → written_in (suc k) s ≡ s
  unfolding written_in
  written_unknown e = rw e refl

  written_cut : parse_at s 0 ≡ Cut → written_in (suc k) s ≡ cut_written s
  unfolding written_in
  written_cut e = rw e refl

  written_whole : (c : Command) (next : ℕ) → parse_at s 0 ≡ Whole c next → written_in (suc k) s ≡ whole_written (take next s) ++ written_in k (drop next s)
  unfolding written_in
  written_whole c next e = rw e refl

  finite_whole_lem : (c : Command) (next : ℕ) → parse_at s 0 ≡ Whole c next → FiniteIn (suc k) s → (finite_whole (take next s) ≡ true) × FiniteIn k (drop next s)
  unfolding FiniteIn
  finite_whole_lem c next e h = subst (λ (p : Parsed). FiniteBy (FiniteIn k) s p) e h

-- none
written_none : (k : ℕ) → written_in k [] ≡ []
unfolding written_in
written_none zero = refl
written_none (suc k) = written_end k [] (parse_end [] 0 (omega arith))

-- one and the rest
written_one : (k : ℕ) (q more : List ℕ) (c : Command) → parse_at q 0 ≡ Whole c (length q) → written_in (suc k) (q ++ more) ≡ whole_written q ++ written_in k more
written_one k q more c h =
    written_whole k (q ++ more) c (length q) (parse_front q more 0 c (length q) h)
    ∙ ap₂ (λ (x y : List ℕ). whole_written x ++ written_in k y) (take-append_seam q more) (drop-append_seam q more)

-- turns enough are enough
written_enough : (k j : ℕ) (s : List ℕ) → length s < k → length s < j → written_in k s ≡ written_in j s
unfolding written_in
written_enough zero j s h g = absurd (omega arith)
written_enough (suc k) zero s h g = absurd (omega arith)
written_enough (suc k) (suc j) s h g = go (parse_at s 0) refl (written_enough k j)
  where
    go : (p : Parsed) → parse_at s 0 ≡ p → ((t : List ℕ) → length t < k → length t < j → written_in k t ≡ written_in j t)
        → written_by (written_in k) s p ≡ written_by (written_in j) s p
    go End e ih = refl
    go Unknown e ih = refl
    go Cut e ih = refl
    go (Whole c next) e ih =
        let n = parse_next s 0 c next e in
        ap (λ (y : List ℕ). whole_written (take next s) ++ y)
        (ih (drop next s) (omega (arith, length-drop next s)) (omega (arith, length-drop next s)))

-- ---- two runs side by side

-- how two runs ended, o on bytes of which `rest` was left behind `pre`, and o' on those written out
record Beside (k : ℕ) (rest pre pre' : List ℕ) (o o' : Outcome) : Type 0 where
  reason : o'.reason ≡ o.reason
  written : records o'.turns ≡ records o.turns
  book : o'.book ≡ o.book
  -- of `rest`, what was used, and what was left
  front : List ℕ
  behind : List ℕ
  parts : rest ≡ front ++ behind
  parts_written : written_in k rest ≡ written_in k front ++ written_in k behind
  used : o.used ≡ length pre + length front
  used_written_lem : o'.used ≡ length pre' + length (written_in k front)

-- both end here
here : (k : ℕ) (rest pre pre' : List ℕ) (r : Reason) (past past' : List Turn) (b : Book) (o o' : Outcome) → records past' ≡ records past
    → o ≡ ends r (length pre) past b → o' ≡ ends r (length pre') past' b → Beside k rest pre pre' o o'
here k rest pre pre' r past past' b o o' same e e' =
    record {
      reason = ap Outcome.reason e' ∙ sym (ap Outcome.reason e);
      written = ap (λ (x : Outcome). records x.turns) e' ∙ same ∙ sym (ap (λ (x : Outcome). records x.turns) e);
      book = ap Outcome.book e' ∙ sym (ap Outcome.book e);
      front = [];
      behind = rest;
      parts = refl;
      parts_written = ap (λ (x : List ℕ). x ++ written_in k rest) (sym (written_none k));
      used = let u : o.used ≡ length pre = ap Outcome.used e in omega arith;
      used_written_lem =
          let u : o'.used ≡ length pre' = ap Outcome.used e' in
          let z : length (written_in k []) ≡ 0 = ap length (written_none k) in
          omega arith;
    }

-- one command more
more : (k : ℕ) (q rest pre w pre' : List ℕ) (c : Command) (o o' : Outcome) → length rest < k → parse_at q 0 ≡ Whole c (length q) → w ≡ whole_written q
    → Beside k rest (pre ++ q) (pre' ++ w) o o' → Beside (suc k) (q ++ rest) pre pre' o o'
more k q rest pre w pre' c o o' l h e x =
    let enough : written_in (suc k) x.behind ≡ written_in k x.behind =
    (let y = ap length x.parts ∙ length-append x.front x.behind in written_enough (suc k) k x.behind (omega arith) (omega arith)) in
    let f : written_in (suc k) (q ++ x.front) ≡ whole_written q ++ written_in k x.front = written_one k q x.front c h in
    record {
      reason = x.reason;
      written = x.written;
      book = x.book;
      front = q ++ x.front;
      behind = x.behind;
      parts = ap (λ (y : List ℕ). q ++ y) x.parts ∙ sym (append_assoc q x.front x.behind);
      parts_written =
          written_one k q rest c h ∙ ap (λ (y : List ℕ). whole_written q ++ y) x.parts_written
          ∙ sym (append_assoc (whole_written q) (written_in k x.front) (written_in k x.behind))
          ∙ (λ j. sym f j ++ sym enough j);
      used = omega (arith, x.used, length-append pre q, length-append q x.front);
      used_written_lem =
          x.used_written_lem ∙ (let a = length-append pre' w in let b = ap length e in let d = ap length f ∙ length-append (whole_written q) (written_in k x.front) in omega arith);
    }

module _ (s w : List ℕ) (room : ℕ) (b₀ : Book) where
  -- the runs stand at `rest` and at `rest` written out
  record Standing (k : ℕ) (rest pre pre' : List ℕ) (past past' : List Turn) (b : Book) : Type 0 where
    bytes : s ≡ pre ++ rest
    bytes_written : w ≡ pre' ++ written_in k rest
    enough : length rest < k
    finite : FiniteIn k rest
    same : records past' ≡ records past
    at : Steps s room b₀ (length pre) past b
    at_written : Steps w room b₀ (length pre') past' b

  beside : (k : ℕ) (rest pre pre' : List ℕ) (past past' : List Turn) (b : Book) → Standing k rest pre pre' past past' b
      → Beside k rest pre pre' (run s room b₀) (run w room b₀)
  beside zero rest pre pre' past past' b g = absurd (omega (arith, g.enough))
  beside (suc k) rest pre pre' past past' b g = go (parse_at rest 0) refl (beside k)
    where
      -- what stands there
      left : (p : Parsed) → parse_at rest 0 ≡ p → shifted (length pre) p ≡ parse_at s (length pre)
      left p e = sym (ap (λ (x : List ℕ). parse_at x (length pre)) g.bytes ∙ parse_behind pre rest ∙ ap (shifted (length pre)) e)

      right : (x : List ℕ) → written_in (suc k) rest ≡ x → (p : Parsed) → parse_at x 0 ≡ p → shifted (length pre') p ≡ parse_at w (length pre')
      right x e p f =
          sym (ap (λ (y : List ℕ). parse_at y (length pre')) (g.bytes_written ∙ ap (λ (y : List ℕ). pre' ++ y) e)
          ∙ parse_behind pre' x ∙ ap (shifted (length pre')) f)

      go : (p : Parsed) → parse_at rest 0 ≡ p
          → ((rest₁ pre₁ pre₁' : List ℕ) (past₁ past₁' : List Turn) (b₁ : Book) → Standing k rest₁ pre₁ pre₁' past₁ past₁' b₁
          → Beside k rest₁ pre₁ pre₁' (run s room b₀) (run w room b₀))
          → Beside (suc k) rest pre pre' (run s room b₀) (run w room b₀)
      go End e ih =
          here (suc k) rest pre pre' AllUsed past past' b _ _ g.same
          (ends_all s room b₀ (length pre) past b g.at End (left End e) refl)
          (ends_all w room b₀ (length pre') past' b g.at_written End (right [] (written_end k rest e) End (parse_end [] 0 (omega arith))) refl)
      go Unknown e ih =
          here (suc k) rest pre pre' UnknownCommand past past' b _ _ g.same
          (ends_unknown s room b₀ (length pre) past b g.at Unknown (left Unknown e) refl)
          (ends_unknown w room b₀ (length pre') past' b g.at_written Unknown (right rest (written_unknown k rest e) Unknown e) refl)
      go Cut e ih =
          here (suc k) rest pre pre' CutShort past past' b _ _ g.same
          (ends_cut s room b₀ (length pre) past b g.at Cut (left Cut e) refl)
          (ends_cut w room b₀ (length pre') past' b g.at_written Cut (right (cut_written rest) (written_cut k rest e) Cut (cut_stands rest e)) refl)
      go (Whole c next) e ih =
          subst (λ (x : List ℕ). Beside (suc k) x pre pre' (run s room b₀) (run w room b₀)) parted
          (room? (leb (length (records past) + length (record_of (answer b c))) room) refl)
        where
          n : (0 < next) × (next ≤ length rest)
          n = parse_next rest 0 c next e

          q : List ℕ
          q = take next rest

          rest₁ : List ℕ
          rest₁ = drop next rest

          parted : q ++ rest₁ ≡ rest
          parted = take-append-drop next rest

          size : length q ≡ next
          size = length-take-le next rest n.1

          alone : parse_at q 0 ≡ Whole c (length q)
          alone = parse_alone q rest₁ c (ap (λ (x : List ℕ). parse_at x 0) parted ∙ e ∙ ap (Whole c) (sym size))

          f : (finite_whole q ≡ true) × FiniteIn k rest₁
          f = finite_whole_lem k rest c next e g.finite

          d : Stands c (whole_written q)
          d = whole_stands q c alone f.0

          at : Whole c (length pre + length q) ≡ parse_at s (length pre)
          at = left (Whole c (length q)) (e ∙ ap (Whole c) (sym size))

          at' : Whole d.other (length pre' + length (whole_written q)) ≡ parse_at w (length pre')
          at' =
              right (whole_written q ++ written_in k rest₁) (written_whole k rest c next e) (Whole d.other (length (whole_written q)))
              (parse_front (whole_written q) (written_in k rest₁) 0 d.other (length (whole_written q)) d.stands)

          reply : answer b d.other ≡ answer b c
          reply = sym (d.same.replies b)

          long' : length (records past') + length (record_of (answer b d.other)) ≡ length (records past) + length (record_of (answer b c))
          long' = λ j. length (g.same j) + length (record_of (reply j))

          after_same : after b d.other (answer b d.other) ≡ after b c (answer b c)
          after_same = ap (after b d.other) reply ∙ sym (same_after b c d.other d.same (answer b c))

          said_same : records (past' ++ (turn_of b d.other ∷ [])) ≡ records (past ++ (turn_of b c ∷ []))
          said_same =
              records_append past' (turn_of b d.other ∷ []) ∙ ap (λ (x : List ℕ). records past' ++ x) (records_one (turn_of b d.other))
              ∙ (λ j. g.same j ++ record_of (reply j))
              ∙ sym (records_append past (turn_of b c ∷ []) ∙ ap (λ (x : List ℕ). records past ++ x) (records_one (turn_of b c)))

          room? : (t : Bool) → leb (length (records past) + length (record_of (answer b c))) room ≡ t
              → Beside (suc k) (q ++ rest₁) pre pre' (run s room b₀) (run w room b₀)
          room? true r =
              let fits : length (records past) + length (record_of (answer b c)) ≤ room = leb-true (length (records past) + length (record_of (answer b c))) room r in
              let on = steps_one s room b₀ (length pre) past b g.at _ at c (length pre + length q) refl fits in
              let on' =
              steps_one w room b₀ (length pre') past' b g.at_written _ at' d.other (length pre' + length (whole_written q)) refl (omega (arith, long')) in
              more k q rest₁ pre (whole_written q) pre' c _ _ (omega (arith, g.enough, n.0, n.1, length-drop next rest)) alone refl
              (ih rest₁ (pre ++ q) (pre' ++ whole_written q) (past ++ (turn_of b c ∷ [])) (past' ++ (turn_of b d.other ∷ [])) (after b c (answer b c))
              (record {
                bytes = g.bytes ∙ ap (λ (x : List ℕ). pre ++ x) (sym parted) ∙ sym (append_assoc pre q rest₁);
                bytes_written =
                    g.bytes_written ∙ ap (λ (x : List ℕ). pre' ++ x) (written_whole k rest c next e)
                    ∙ sym (append_assoc pre' (whole_written q) (written_in k rest₁));
                enough = omega (arith, g.enough, n.0, n.1, length-drop next rest);
                finite = f.1;
                same = said_same;
                at = subst⁻¹ (λ (i : ℕ). Steps s room b₀ i (past ++ (turn_of b c ∷ [])) (after b c (answer b c))) (length-append pre q) on;
                at_written =
                    subst (λ (y : Book). Steps w room b₀ (length (pre' ++ whole_written q)) (past' ++ (turn_of b d.other ∷ [])) y) after_same
                    (subst⁻¹ (λ (i : ℕ). Steps w room b₀ i (past' ++ (turn_of b d.other ∷ [])) (after b d.other (answer b d.other)))
                    (length-append pre' (whole_written q)) on');
              }))
          room? false r =
              let full : room < length (records past) + length (record_of (answer b c)) = leb-false (length (records past) + length (record_of (answer b c))) room r in
              here (suc k) (q ++ rest₁) pre pre' NoRoom past past' b _ _ g.same
              (ends_full s room b₀ (length pre) past b g.at _ at c (length pre + length q) refl full)
              (ends_full w room b₀ (length pre') past' b g.at_written _ at' d.other (length pre' + length (whole_written q)) refl (omega (arith, long')))

-- an unknown byte, a cut command and the end ask nothing of what stands behind
pub finite_unknown : (s : List ℕ) → parse_at s 0 ≡ Unknown → AllFinite s
unfolding FiniteIn
finite_unknown s e = subst⁻¹ (λ (p : Parsed). FiniteBy (FiniteIn (length s)) s p) e tt

pub finite_cut : (s : List ℕ) → parse_at s 0 ≡ Cut → AllFinite s
unfolding FiniteIn
finite_cut s e = subst⁻¹ (λ (p : Parsed). FiniteBy (FiniteIn (length s)) s p) e tt

pub written_nothing : written_bytes [] ≡ []
written_nothing = written_none 1

-- THE SAME RUN WITH THE STEPS WRITTEN OUT
pub record SameRun (s : List ℕ) (o o' : Outcome) : Type 0 where
  pub reason : o'.reason ≡ o.reason
  pub written : records o'.turns ≡ records o.turns
  pub book : o'.book ≡ o.book
  -- each counts its own bytes
  pub used : o'.used ≡ length (written_bytes (take o.used s))
  -- and what is left of one is what is left of the other, written out
  pub left : drop o'.used (written_bytes s) ≡ written_bytes (drop o.used s)

pub same_run : (s : List ℕ) (room : ℕ) (b : Book) → AllFinite s → SameRun s (run s room b) (run (written_bytes s) room b)
unfolding records
same_run s room b f =
    let o = run s room b in
    let o' = run (written_bytes s) room b in
    let k = suc (length s) in
    let x =
    beside s (written_bytes s) room b k s [] [] [] [] b
    (record {
      bytes = refl;
      bytes_written = refl;
      enough = omega arith;
      finite = f;
      same = refl;
      at = steps_none s room b;
      at_written = steps_none (written_bytes s) room b;
    }) in
    let l = ap length x.parts ∙ length-append x.front x.behind in
    let front : written_in k x.front ≡ written_bytes x.front = written_enough k (suc (length x.front)) x.front (omega arith) (omega arith) in
    let behind : written_in k x.behind ≡ written_bytes x.behind = written_enough k (suc (length x.behind)) x.behind (omega arith) (omega arith) in
    let u : o.used ≡ length x.front = omega (arith, x.used) in
    let u' : o'.used ≡ length (written_in k x.front) = omega (arith, x.used_written_lem) in
    let taken : take o.used s ≡ x.front = ap₂ take u x.parts ∙ take-append_seam x.front x.behind in
    let rest : drop o.used s ≡ x.behind = ap₂ drop u x.parts ∙ drop-append_seam x.front x.behind in
    record {
      reason = x.reason;
      written = x.written;
      book = x.book;
      used = u' ∙ ap length (front ∙ ap written_bytes (sym taken));
      left =
          ap₂ drop u' x.parts_written ∙ drop-append_seam (written_in k x.front) (written_in k x.behind)
          ∙ behind ∙ ap written_bytes (sym rest);
    }
