-- The bytes of commands are read back, wherever they stand; and a call on them takes the commands in turn.
-- Assumes nothing.
use mathlib.Core.Path.{◌≡◌, refl, sym, ap, ◌∙◌, subst}
use mathlib.Core.Logic.{◌≢◌}
use mathlib.Core.Bool.{Bool, false}
use mathlib.Core.List.{List, [], ◌∷◌, ◌++◌, append_assoc, append-nil}
use Rattle.std.specs.Prelude.{Some}
use Prim.Native.Nat.{ℕ, ◌+◌, ◌*◌, ◌/◌, ◌%◌, ◌^◌, ◌≤◌, ◌<◌}
use native.Mathlib.Nat.{add_assoc, zero-add}
use native.Mathlib.Omega.{arith}
use lib.ListN.{length, length-append}
use lib.Seq.{get_or-append-add, get_or-append_seam}
use Rattle.words.specs.Words.{word_at}
use Rattle.grid.specs.declared.Position.{Position}
use Rattle.grid.specs.declared.Leg.{Leg}
use Rattle.grid.specs.Coordinate.{from_word, to_word}
use Rattle.grid.proofs.Signed.{word_of}
use lib.Dec.{T}
use lib.Ieee.{Float, nan, inf, fin, binary32, fits, to_bits, of_bits}
use lib.Ieee.Bits.{of_bits-to_bits, to_bits-lt}
use lib.Ieee.Scale.{finite}
use Rattle.readings.specs.declared.Reading.{Reading}
use Rattle.readings.specs.declared.Location.TheVariants.{InSteps, InMetres}
use Rattle.readings.specs.Reading.{finite?}
use Rattle.readings.specs.Location.{long_at, number_of, reading_at}
use Rattle.readings.proofs.Patterns.{finite_pattern, number_finite, number_not}
use Rattle.records.specs.Bytes.{bytes2}
use Rattle.records.proofs.ReadBack.{bytes2_hold, bytes4_hold}
use Rattle.book.specs.declared.Command.{Command}
use Rattle.book.specs.declared.Command.TheVariants.{Add, Remove, Move, List as ListOf, Stand, Print, Begin, Corner}
use Rattle.book.specs.declared.Parsed.TheVariants.{End, Whole}
use Rattle.book.specs.declared.Reason.TheVariants.{AllUsed, NoRoom}
use Rattle.book.specs.declared.Shape.{Shape}
use Rattle.book.specs.declared.Shape.TheVariants.{Nothing, Number, OnePosition, NumberPosition, TwoPositions, NumberReadings}
use Rattle.book.specs.Command.{Maker, operand_bytes, position_at, leg_at, made_at, add_at, move_to, add_surveyed, move_surveyed, Form, form, form_bytes, form_of, parse_at}
use Rattle.book.specs.Encode.{position_bytes, reading_bytes, leg_bytes, command_bytes}
use Rattle.book.specs.Book.{Book}
use Rattle.book.specs.Reply.{record_of}
use Rattle.book.specs.Answer.{answer, after}
use Rattle.book.specs.Run.{Turn, records, ends, run, after_all}
use Rattle.book.proofs.Parsing.{parse_end, parse_whole}
use Rattle.book.proofs.Runs.{turn_of, records_one, records_more, Steps, steps_none, steps_one, ends_all, ends_full}

-- two 16-bit numbers hold the position
pub record PositionSmall (p : Position) : Type 0 where
  pub east : p.east < 65536
  pub north : p.north < 65536

-- a 32-bit pattern holds it, and is read as it: a finite number, or none. An infinity's is read as no number
pub record NumberFits (x : Float) : Type 0 where
  pub fit : T (fits binary32 x)
  pub no_infinity : (s : Bool) → x ≢ inf s

-- two of them hold the readings
pub record ReadingFits (r : Reading) : Type 0 where
  pub easting : NumberFits r.easting
  pub northing : NumberFits r.northing

-- the command's fields hold its operands
abbrev pub Encodable : Command → Type 0
Encodable (Add n (InSteps p)) = (n < 65536) × PositionSmall p
Encodable (Add n (InMetres r)) = (n < 65536) × ReadingFits r
Encodable (Remove n) = n < 65536
Encodable (Move n (InSteps p)) = (n < 65536) × PositionSmall p
Encodable (Move n (InMetres r)) = (n < 65536) × ReadingFits r
Encodable (ListOf l) = PositionSmall l.s × PositionSmall l.e
Encodable (Stand l) = PositionSmall l.s × PositionSmall l.e
Encodable Print = Unit {0}
Encodable (Begin p) = PositionSmall p
Encodable (Corner p) = PositionSmall p

-- ---- numbers, positions and legs behind other bytes

word_behind : (pre s : List ℕ) (i : ℕ) → word_at (pre ++ s) (length pre + i) ≡ word_at s i
unfolding word_at
word_behind pre s i = rw (add_assoc (length pre) i 1, get_or-append-add pre s i 0, get_or-append-add pre s (i + 1) 0) refl

position_behind : (pre s : List ℕ) (i : ℕ) → position_at (pre ++ s) (length pre + i) ≡ position_at s i
position_behind pre s i =
    let e : length pre + i + 2 ≡ length pre + (i + 2) = omega arith in
    λ j. record { east = from_word (word_behind pre s i j); north = from_word ((ap (word_at (pre ++ s)) e ∙ word_behind pre s (i + 2)) j) }

leg_behind : (pre s : List ℕ) (i : ℕ) → leg_at (pre ++ s) (length pre + i) ≡ leg_at s i
leg_behind pre s i =
    let e : length pre + i + 4 ≡ length pre + (i + 4) = omega arith in
    λ j. record { s = position_behind pre s i j; e = (ap (position_at (pre ++ s)) e ∙ position_behind pre s (i + 4)) j }

long_behind : (pre s : List ℕ) (i : ℕ) → long_at (pre ++ s) (length pre + i) ≡ long_at s i
unfolding long_at
long_behind pre s i =
    let e : length pre + i + 2 ≡ length pre + (i + 2) = omega arith in
    λ j. word_behind pre s i j + 65536 * (ap (word_at (pre ++ s)) e ∙ word_behind pre s (i + 2)) j

reading_behind : (pre s : List ℕ) (i : ℕ) → reading_at (pre ++ s) (length pre + i) ≡ reading_at s i
reading_behind pre s i =
    let e : length pre + i + 4 ≡ length pre + (i + 4) = omega arith in
    λ j. record { easting = number_of (long_behind pre s i j); northing = number_of ((ap (long_at (pre ++ s)) e ∙ long_behind pre s (i + 4)) j) }

word_small : (x : ℕ) → to_word x < 65536
unfolding to_word
word_small x = omega arith

coordinate_back : (x : ℕ) → x < 65536 → from_word (to_word x % 256 + 256 * (to_word x / 256 % 256)) ≡ x
coordinate_back x h = ap from_word (bytes2_hold (to_word x) (word_small x)) ∙ word_of x h

-- a number, a position and a leg, read from their bytes
number_back : (x n : ℕ) (t : List ℕ) → n < 65536 → word_at (x ∷ n % 256 ∷ n / 256 % 256 ∷ t) 1 ≡ n
unfolding word_at
number_back x n t h = bytes2_hold n h

position_back : (x y z : ℕ) (p : Position) (t : List ℕ) → PositionSmall p → position_at (x ∷ y ∷ z ∷ position_bytes p ++ t) 3 ≡ p
unfolding word_at
position_back x y z p t h = λ j. record { east = coordinate_back p.east h.east j; north = coordinate_back p.north h.north j }

place_back : (x : ℕ) (p : Position) (t : List ℕ) → PositionSmall p → position_at (x ∷ position_bytes p ++ t) 1 ≡ p
unfolding word_at
place_back x p t h = λ j. record { east = coordinate_back p.east h.east j; north = coordinate_back p.north h.north j }

leg_back : (x : ℕ) (l : Leg) (t : List ℕ) → PositionSmall l.s → PositionSmall l.e → leg_at (x ∷ leg_bytes l ++ t) 1 ≡ l
unfolding word_at
leg_back x l t g h = λ j. record {
  s = record { east = coordinate_back l.s.east g.east j; north = coordinate_back l.s.north g.north j };
  e = record { east = coordinate_back l.e.east h.east j; north = coordinate_back l.e.north h.north j };
}

-- a reading, read from its bytes
none_finite : finite? (to_bits binary32 nan) ≡ false
unfolding to_bits
none_finite = refl

number_kept : (x : Float) → NumberFits x → number_of (to_bits binary32 x) ≡ x
number_kept nan h = number_not (to_bits binary32 nan) none_finite
number_kept (inf s) h = absurd (h.no_infinity s refl)
number_kept (fin s m e) h =
    let b : of_bits binary32 (to_bits binary32 (fin s m e)) ≡ fin s m e = of_bits-to_bits binary32 (fin s m e) h.fit in
    number_finite (to_bits binary32 (fin s m e)) (subst T (sym (sym (finite_pattern (to_bits binary32 (fin s m e))) ∙ ap finite b)) tt) ∙ b

long_back : (b : ℕ) → b < 2 ^ 32 → b % 256 + 256 * (b / 256 % 256) + 65536 * (b / 65536 % 256 + 256 * (b / 16777216 % 256)) ≡ b
long_back b h = omega (arith, bytes4_hold b h)

number_read : (x : Float) → NumberFits x
    → number_of (to_bits binary32 x % 256 + 256 * (to_bits binary32 x / 256 % 256)
    + 65536 * (to_bits binary32 x / 65536 % 256 + 256 * (to_bits binary32 x / 16777216 % 256))) ≡ x
number_read x h = ap number_of (long_back (to_bits binary32 x) (to_bits-lt binary32 x h.fit)) ∙ number_kept x h

reading_back : (x y z : ℕ) (r : Reading) (t : List ℕ) → ReadingFits r → reading_at (x ∷ y ∷ z ∷ reading_bytes r ++ t) 3 ≡ r
unfolding long_at word_at
reading_back x y z r t h = λ j. record { easting = number_read r.easting h.easting j; northing = number_read r.northing h.northing j }

-- ---- commands

-- what is made of operands behind other bytes
pub made_behind : (x : Shape) (f : Maker x) (pre s : List ℕ) (i : ℕ) → made_at x f (pre ++ s) (length pre + i) ≡ made_at x f s i
made_behind Nothing f pre s i = refl
made_behind Number f pre s i = ap f (word_behind pre s i)
made_behind OnePosition f pre s i = ap f (position_behind pre s i)
made_behind NumberPosition f pre s i =
    let e : length pre + i + 2 ≡ length pre + (i + 2) = omega arith in
    λ j. f (word_behind pre s i j) ((ap (position_at (pre ++ s)) e ∙ position_behind pre s (i + 2)) j)
made_behind TwoPositions f pre s i = ap f (leg_behind pre s i)
made_behind NumberReadings f pre s i =
    let e : length pre + i + 2 ≡ length pre + (i + 2) = omega arith in
    λ j. f (word_behind pre s i j) ((ap (reading_at (pre ++ s)) e ∙ reading_behind pre s (i + 2)) j)

module _ (pre : List ℕ) (t : List ℕ) where
  -- a mark and its operands, whatever their shape
  behind : (m : ℕ) (os : List ℕ) (f : Form) → form_of m ≡ Some f → length os ≡ operand_bytes f.shape
      → (c : Command) → made_at f.shape f.maker (m ∷ os ++ t) 1 ≡ c
      → parse_at (pre ++ (m ∷ os ++ t)) (length pre) ≡ Whole c (length pre + (1 + length os))
  behind m os f e n c h =
      let s : List ℕ = m ∷ os ++ t in
      let k : length pre + form_bytes f ≤ length (pre ++ s) = omega (arith, length-append pre s, length-append os t) in
      parse_whole (pre ++ s) (length pre) (omega arith) f (ap form_of (get_or-append_seam pre m (os ++ t) 0) ∙ e) k
      ∙ (λ j. Whole ((made_behind f.shape f.maker pre s 1 ∙ h) j) (length pre + (1 + sym n j)))

  number_behind : (m : ℕ) (f : Maker Number) → form_of m ≡ Some (form m Number f) → (n : ℕ) → n < 65536
      → parse_at (pre ++ (m ∷ bytes2 n ++ t)) (length pre) ≡ Whole (f n) (length pre + form_bytes (form m Number f))
  number_behind m f e n h = behind m (bytes2 n) (form m Number f) e refl (f n) (ap f (number_back m n t h))

  one_position_behind : (m : ℕ) (f : Maker OnePosition) → form_of m ≡ Some (form m OnePosition f) → (p : Position) → PositionSmall p
      → parse_at (pre ++ (m ∷ position_bytes p ++ t)) (length pre) ≡ Whole (f p) (length pre + form_bytes (form m OnePosition f))
  one_position_behind m f e p h = behind m (position_bytes p) (form m OnePosition f) e refl (f p) (ap f (place_back m p t h))

  number_position_behind : (m : ℕ) (f : Maker NumberPosition) → form_of m ≡ Some (form m NumberPosition f)
      → (n : ℕ) (p : Position) → (n < 65536) × PositionSmall p
      → parse_at (pre ++ (m ∷ bytes2 n ++ position_bytes p ++ t)) (length pre)
      ≡ Whole (f n p) (length pre + form_bytes (form m NumberPosition f))
  number_position_behind m f e n p h =
      behind m (bytes2 n ++ position_bytes p) (form m NumberPosition f) e refl (f n p)
      (λ j. f (number_back m n (position_bytes p ++ t) h.0 j) (position_back m (n % 256) (n / 256 % 256) p t h.1 j))

  two_positions_behind : (m : ℕ) (f : Maker TwoPositions) → form_of m ≡ Some (form m TwoPositions f)
      → (l : Leg) → PositionSmall l.s × PositionSmall l.e
      → parse_at (pre ++ (m ∷ leg_bytes l ++ t)) (length pre)
      ≡ Whole (f l) (length pre + form_bytes (form m TwoPositions f))
  two_positions_behind m f e l h = behind m (leg_bytes l) (form m TwoPositions f) e refl (f l) (ap f (leg_back m l t h.0 h.1))

  number_readings_behind : (m : ℕ) (f : Maker NumberReadings) → form_of m ≡ Some (form m NumberReadings f)
      → (n : ℕ) (r : Reading) → (n < 65536) × ReadingFits r
      → parse_at (pre ++ (m ∷ bytes2 n ++ reading_bytes r ++ t)) (length pre)
      ≡ Whole (f n r) (length pre + form_bytes (form m NumberReadings f))
  number_readings_behind m f e n r h =
      behind m (bytes2 n ++ reading_bytes r) (form m NumberReadings f) e refl (f n r)
      (λ j. f (number_back m n (reading_bytes r ++ t) h.0 j) (reading_back m (n % 256) (n / 256 % 256) r t h.1 j))

  -- A COMMAND IS READ BACK, with whatever bytes before it and behind it
  pub read_back : (c : Command) → Encodable c → parse_at (pre ++ (command_bytes c ++ t)) (length pre) ≡ Whole c (length pre + length (command_bytes c))
  unfolding form_of
  read_back (Add n (InSteps p)) h = number_position_behind 0x41 add_at refl n p h
  read_back (Add n (InMetres r)) h = number_readings_behind 0x61 add_surveyed refl n r h
  read_back (Remove n) h = number_behind 0x44 Remove refl n h
  read_back (Move n (InSteps p)) h = number_position_behind 0x4D move_to refl n p h
  read_back (Move n (InMetres r)) h = number_readings_behind 0x6D move_surveyed refl n r h
  read_back (ListOf l) h = two_positions_behind 0x4C ListOf refl l h
  read_back (Stand l) h = two_positions_behind 0x53 Stand refl l h
  read_back Print h = behind 0x50 [] (form 0x50 Nothing Print) refl refl Print refl
  read_back (Begin p) h = one_position_behind 0x42 Begin refl p h
  read_back (Corner p) h = one_position_behind 0x43 Corner refl p h

-- what 61 and 6D are in bytes: site 1 at 150 m and negative zero, site 258 moved to what is no number and -250 m
pub surveyed_bytes : command_bytes (add_surveyed 1 (record { easting = number_of 0x43160000; northing = number_of 0x80000000 }))
    ≡ 0x61 ∷ 1 ∷ 0 ∷ 0 ∷ 0 ∷ 0x16 ∷ 0x43 ∷ 0 ∷ 0 ∷ 0 ∷ 0x80 ∷ []
unfolding number_of of_bits to_bits
surveyed_bytes = refl

pub resurveyed_bytes : command_bytes (move_surveyed 258 (record { easting = number_of 0xFFC00001; northing = number_of 0xC37A0000 }))
    ≡ 0x6D ∷ 2 ∷ 1 ∷ 0 ∷ 0 ∷ 0xC0 ∷ 0x7F ∷ 0 ∷ 0 ∷ 0x7A ∷ 0xC3 ∷ []
unfolding number_of of_bits to_bits
resurveyed_bytes = refl

-- and they can be read back
pub surveyed_encodable : Encodable (add_surveyed 1 (record { easting = number_of 0x43160000; northing = number_of 0x80000000 }))
unfolding number_of of_bits fits
surveyed_encodable = (
  omega arith,
  record {
    easting = record { fit = tt; no_infinity = λ s e. let z : ◌≡◌ {A = ℕ} 0 1 = cc in omega arith };
    northing = record { fit = tt; no_infinity = λ s e. let z : ◌≡◌ {A = ℕ} 0 1 = cc in omega arith };
  },
)

-- a command alone
pub read_one : (c : Command) → Encodable c → parse_at (command_bytes c) 0 ≡ Whole c (length (command_bytes c))
read_one c h =
    subst (λ (s : List ℕ). parse_at s 0 ≡ Whole c (length (command_bytes c))) (append-nil (command_bytes c))
    (read_back [] [] c h ∙ ap (Whole c) (zero-add (length (command_bytes c))))

-- ---- calls

-- commands behind each other
abbrev pub all_bytes : List Command → List ℕ
all_bytes [] = []
all_bytes (c ∷ cs) = command_bytes c ++ all_bytes cs

-- every command's fields hold its operands
abbrev pub AllEncodable : List Command → Type 0
AllEncodable [] = Unit {0}
AllEncodable (c ∷ cs) = Encodable c × AllEncodable cs

-- the turns of commands, each on the book that those before it leave
abbrev pub turns_of : Book → List Command → List Turn
turns_of b [] = []
turns_of b (c ∷ cs) = turn_of b c ∷ turns_of (after b c (answer b c)) cs

module _ (room : ℕ) (b₀ : Book) where
  on : (pre : List ℕ) (cs : List Command) (past : List Turn) (b : Book) → AllEncodable cs → length (records past) + length (records (turns_of b cs)) ≤ room
      → Steps (pre ++ all_bytes cs) room b₀ (length pre) past b
      → run (pre ++ all_bytes cs) room b₀ ≡ ends AllUsed (length (pre ++ all_bytes cs)) (past ++ turns_of b cs) (after_all b (turns_of b cs))
  unfolding records
  on pre [] past b h l g =
      rw (append-nil pre, append-nil past)
      (subst (λ (s : List ℕ). run s room b₀ ≡ ends AllUsed (length pre) past b) (append-nil pre)
      (ends_all (pre ++ []) room b₀ (length pre) past b g End (sym (parse_end (pre ++ []) (length pre) (rw (append-nil pre) (omega arith)))) refl))
  on pre (c ∷ cs) past b h l g =
      let b' : Book = after b c (answer b c) in
      let past' : List Turn = past ++ (turn_of b c ∷ []) in
      let n : length (records past) + length (record_of (answer b c)) + length (records (turns_of b' cs)) ≤ room =
      omega (arith, l, length-append (record_of (answer b c)) (records (turns_of b' cs))) in
      let e : pre ++ (command_bytes c ++ all_bytes cs) ≡ (pre ++ command_bytes c) ++ all_bytes cs = sym (append_assoc pre (command_bytes c) (all_bytes cs)) in
      let st : Steps (pre ++ all_bytes (c ∷ cs)) room b₀ (length pre + length (command_bytes c)) past' b' =
      steps_one (pre ++ all_bytes (c ∷ cs)) room b₀ (length pre) past b g _ (sym (read_back pre (all_bytes cs) c h.0)) c _ refl (omega arith) in
      let st' : Steps ((pre ++ command_bytes c) ++ all_bytes cs) room b₀ (length (pre ++ command_bytes c)) past' b' =
      rw (← e, length-append pre (command_bytes c)) st in
      let m : length (records past') + length (records (turns_of b' cs)) ≤ room = rw (records_more past (turn_of b c)) n in
      subst
      (λ (s : List ℕ). run s room b₀ ≡ ends AllUsed (length s) (past ++ turns_of b (c ∷ cs)) (after_all b' (turns_of b' cs))) (sym e)
      (on (pre ++ command_bytes c) cs past' b' h.1 m st'
      ∙ ap (λ (ts : List Turn). ends AllUsed (length ((pre ++ command_bytes c) ++ all_bytes cs)) ts (after_all b' (turns_of b' cs)))
      (append_assoc past (turn_of b c ∷ []) (turns_of b' cs)))

-- A CALL ON COMMANDS, where all records fit: each is answered in turn
pub run_commands : (cs : List Command) (room : ℕ) (b : Book) → AllEncodable cs → length (records (turns_of b cs)) ≤ room
    → run (all_bytes cs) room b ≡ ends AllUsed (length (all_bytes cs)) (turns_of b cs) (after_all b (turns_of b cs))
unfolding records
run_commands cs room b h l = on room b [] cs [] b h (omega arith) (steps_none (all_bytes cs) room b)

-- A CALL ON ONE COMMAND
pub run_one : (c : Command) (room : ℕ) (b : Book) → Encodable c → length (record_of (answer b c)) ≤ room
    → run (command_bytes c) room b ≡ ends AllUsed (length (command_bytes c)) (turn_of b c ∷ []) (after b c (answer b c))
run_one c room b h l =
    subst (λ (s : List ℕ). run s room b ≡ ends AllUsed (length s) (turn_of b c ∷ []) (after b c (answer b c))) (append-nil (command_bytes c))
    (run_commands (c ∷ []) room b (h, tt) (rw (records_one (turn_of b c)) l))

-- one whose record does not fit
pub run_one_full : (c : Command) (room : ℕ) (b : Book) → Encodable c → room < length (record_of (answer b c)) → run (command_bytes c) room b ≡ ends NoRoom 0 [] b
unfolding records
run_one_full c room b h l = ends_full (command_bytes c) room b 0 [] b (steps_none (command_bytes c) room b) _ (sym (read_one c h)) c _ refl (omega arith)
