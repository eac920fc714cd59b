use Rattle.std.proofs.Common.{◌≡◌, ℕ, List, [], ◌∷◌, ◌++◌, codes, sym, ap, ◌∙◌, append_assoc, append-nil}
use Rattle.rc_base.specs.Tree.{Tree, printed, printed_behind}
use Rattle.rc_sheet_spec.specs.Printing.{packed, item_forms, setup_forms, scoring_form}
use Rattle.rc_ast.specs.Items.{items_seen}
use Rattle.rc_ast.specs.Sheet.{sheet_seen}
use Rattle.rc_print.specs.Printing.{naming_seen}
use Rattle.rc_print.proofs.Added.{start, then}
use Rattle.rc_print.proofs.FormLemmas.{printed_behind-append}
use Rattle.rc_print.proofs.sheet.print_sheet.Goals as goal

-- the bytes of a whole sheet, where o, s and e are a parenthesis that opens, a space and a parenthesis that closes: these are
-- variables, since their bytes would hide what is to be joined
whole_sheet : (o s e game setup lines items scoring : List ℕ)
    → ((((((o ++ (game ++ (s ++ (o ++ setup)))) ++ lines) ++ e) ++ items) ++ s) ++ scoring) ++ e
    ≡ o ++ ((game ++ (s ++ ((o ++ ((setup ++ lines) ++ e)) ++ (items ++ (s ++ (scoring ++ [])))))) ++ e)
whole_sheet o s e game setup lines items scoring = simp (append_assoc, append-nil)

pub returns : goal.returns
returns c =
    let sheet = c.args.sheet.now in
    let lines : List ℕ = printed_behind (packed (setup_forms (sheet_seen sheet))) in
    let items : List Tree = item_forms (naming_seen sheet) (items_seen sheet.items.items) in
    let scoring : Tree = scoring_form (sheet_seen sheet) in
    let opened = then (40 ∷ codes "game (setup") (start c.new.result.items) c.in_ok-open.ensures in
    let first = then lines opened c.in_ok-push_setup.ensures in
    let second = then (printed_behind (packed items)) (then (41 ∷ []) first c.in_ok-close.ensures) c.in_ok-push_items.ensures in
    let third = then (printed scoring) (then (32 ∷ []) second c.in_ok-space.ensures) c.in_ok-push_scoring.ensures in
    let all = then (41 ∷ []) third c.in_ok-close-2.ensures in
    let steps : List ℕ =
    ((((((40 ∷ codes "game (setup") ++ lines) ++ (41 ∷ [])) ++ printed_behind (packed items)) ++ (32 ∷ [])) ++ printed scoring)
    ++ (41 ∷ []) in
    let whole =
    all.is ∙ ap (λ old. old ++ steps) c.new.ensures.items
    ∙ whole_sheet (40 ∷ []) (32 ∷ []) (41 ∷ []) (codes "game") (codes "setup") lines (printed_behind (packed items))
    (printed scoring)
    ∙ ap (λ rest. 40 ∷ ((codes "game" ++ 32 ∷ ((40 ∷ ((codes "setup" ++ lines) ++ (41 ∷ []))) ++ rest)) ++ (41 ∷ [])))
    (sym (printed_behind-append items (scoring ∷ []))) in
    record { bytes = whole }
