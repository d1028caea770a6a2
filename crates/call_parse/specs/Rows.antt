-- The table's rows by the code's own enum of the forms (src/lib.rt).
-- Assumes nothing.
use Rattle.book.specs.declared.Command.TheVariants.{Remove, List as ListOf, Stand, Print, Begin, Corner}
use Rattle.book.specs.declared.Shape.TheVariants.{Nothing, Number, OnePosition, NumberPosition, TwoPositions}
use Rattle.book.specs.declared.Shape.TheVariants.{NumberReadings}
use Rattle.book.specs.Command.{Form as TableRow, form, add_at, move_to, add_surveyed, move_surveyed}
use Rattle.call_parse.specs.declared.Form.{Form}
use Rattle.call_parse.specs.declared.Form.TheVariants as Is

-- the row of a form
abbrev pub row_of : Form → TableRow
row_of Is.Add = form 0x41 NumberPosition add_at
row_of Is.Remove = form 0x44 Number Remove
row_of Is.Move = form 0x4D NumberPosition move_to
row_of Is.List = form 0x4C TwoPositions ListOf
row_of Is.Stand = form 0x53 TwoPositions Stand
row_of Is.Print = form 0x50 Nothing Print
row_of Is.Begin = form 0x42 OnePosition Begin
row_of Is.Corner = form 0x43 OnePosition Corner
row_of Is.AddSurveyed = form 0x61 NumberReadings add_surveyed
row_of Is.MoveSurveyed = form 0x6D NumberReadings move_surveyed
