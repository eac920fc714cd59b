use Rattle.std.proofs.Common.{◌∙◌, ap, sym, Some}
use Rattle.rc_sheet.proofs.Sheets.{game_read}
use Rattle.rc_sheet.proofs.reader.Reader.game_parts.Goals as goal

pub returns : goal.returns
returns c = game_read _ _ _ _ _ c.in_ok-setup.ensures c.in_ok-body.ensures ∙ ap (λ sheet. Some sheet) (sym c.into_sheet.ensures)
