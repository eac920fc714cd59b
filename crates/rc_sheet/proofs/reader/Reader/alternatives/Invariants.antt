use Rattle.std.proofs.Common.{◌≡◌, ◌∷◌}
use Rattle.rc_form.specs.Form.{trees_of, packed}
use Rattle.rc_ast.specs.Items.{alt_seen}
use Rattle.rc_sheet.specs.ReadEffects.{alts_at}
use Rattle.rc_sheet.proofs.InTurn.{so_far}
use Rattle.rc_sheet.proofs.reader.Reader.alternatives.Given as goal

-- what is read so far, before what is left to read, is the whole; the scope is empty
abbrev pub invariant-loop-form : goal.invariant-loop-form
invariant-loop-form l =
    so_far alt_seen (λ alt alts. alt ∷ alts) (alts_at l.self) l.all.items l.forms l.form-index
    ≡ alts_at l.self (packed (trees_of l.forms))
