use Rattle.std.proofs.Common.{take, map}
use Rattle.picture_page.specs.Sheet.{Gains}
use Rattle.line_table.specs.Table.{shown, rows_text}
use Rattle.line_table.proofs.table.put_rows.Given as goal

abbrev pub invariant-loop-row : goal.invariant-loop-row
invariant-loop-row l = Gains l.initial.page l.page (rows_text (map shown (take l.row-index l.rows)))
