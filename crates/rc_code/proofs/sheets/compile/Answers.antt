use Rattle.std.proofs.Common.{◌++◌, length, map, ap, ap₂, ◌∙◌}
use Rattle.rc_sheet_spec.specs.Sheet.{Sheet}
use Rattle.rc_ast.specs.Items.{items_seen}
use Rattle.rc_code.specs.Compiled.{items_code, items_sites}
use Rattle.rc_code.specs.Seen.{list_seen, place_seen}
use Rattle.rc_code.proofs.CompiledLemmas.{stands_as}
use Rattle.rc_code.proofs.sheets.compile.Goals as goal

pub returns-in-Ok : goal.returns-in-Ok
returns-in-Ok c =
    let items = items_seen c.sheet.result.now.items.items in
    let same = ap (λ (sheet : Sheet). sheet.items) c.sheet.ensures.same in
    let list = c.new-list.result.items in
    let outer = c.new-outer.result.items in
    let code =
    c.in-Ok.ensures.code ∙ ap (λ before. list_seen before ++ items_code items) c.new-list.ensures.items ∙ ap items_code same in
    let places =
    c.in-Ok.ensures.places ∙ ap (λ before. map place_seen before ++ items_sites outer (length list) items) c.new-sites.ensures.items
    ∙ ap₂ (λ places before. items_sites places (length before) items) c.new-outer.ensures.items c.new-list.ensures.items
    ∙ ap (items_sites _ 0) same in
    stands_as c.args.checked.now _ _ c.sheet.ensures.well.numbered.sites code places
