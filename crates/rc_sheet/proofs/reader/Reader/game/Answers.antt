use Rattle.std.proofs.Common.{sym, subst}
use Rattle.std.proofs.lemmas.List.{take_rest}
use Rattle.rc_ast.specs.Sheet.{sheet_seen}
use Rattle.rc_sheet.specs.Gives.{Gives}
use Rattle.rc_sheet.proofs.Sheets.{parts_of_game}
use Rattle.rc_sheet.proofs.reader.Reader.game.Goals as goal

pub returns : goal.returns
returns c =
    let forms = c.args.parts.now in
    let parts = parts_of_game c.args.self forms c.setup-item.result c.in-len2-up.len_at_least c.setup-item.is in
    subst (Gives sheet_seen c.game_parts.result) (sym parts) (rw (take_rest forms 2) at c.game_parts.ensures)
