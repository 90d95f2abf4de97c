use Rattle.ppd_session.proofs.lasts.put_lines.Goals as goal

pub put_cell_lines-done-requires-clause-tables : goal.put_cell_lines-done-requires-clause-tables
put_cell_lines-done-requires-clause-tables c = c.new-tables.ensures c.args.past.now
