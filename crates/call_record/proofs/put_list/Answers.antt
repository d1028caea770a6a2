use borrow.Author.Rules.{rules}
use native.Mathlib.Omega.{arith}
use lib.ListN.{length-set}
use mathlib.Core.Path.{sym, ◌∙◌}
use Rattle.list_row.specs.Entries.{entries_from}
use Rattle.list_row.proofs.Entries.{from_length}
use Rattle.call_record.proofs.Entries.{record_is}
use Rattle.call_record.proofs.put_list.Goals as goal

pub put_entries-requires : goal.put_entries-requires
put_entries-requires c =
    let w = simp length-set at c.put_word.auto.b in
    (c.requires.0, omega (arith, c.requires.1))

pub returns : goal.returns
returns c =
    let es = from_length c.args.row.leg c.args.row.t.now c.args.row.places.now c.args.j c.args.row.k in record {
      wrote = record_is (entries_from c.args.row.leg c.args.row.t.now c.args.row.places.now c.args.j c.args.row.k) c.args.report.now c.put_word.new.b
          c.put_entries.new.report c.args.at c.count_of.result (c.count_of.ensures ∙ sym es) (omega (arith, c.args.row.held.few, c.count_of.ensures)) c.put_word.ensures c.put_entries.ensures;
      upto = search rules;
    }
