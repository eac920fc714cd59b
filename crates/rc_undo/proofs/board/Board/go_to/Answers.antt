use Rattle.std.proofs.Common.{IsSome, sym, ap, ap₂, ◌∙◌, subst}
use Rattle.rc_table.specs.Laid.{Laid}
use Rattle.rc_undo.specs.Undo.{Kept, away_at}
use Rattle.rc_undo.specs.PastSeen.{past_seen}
use Rattle.rc_undo.proofs.PastLemmas.{went_to}
use Rattle.rc_undo.proofs.board.Board.go_to.Goals as goal

pub invariant_of-self : goal.invariant_of-self
invariant_of-self c =
    let b = c.self.inside in
    let shape = ap (λ (k : Kept). k.laid.shape) c.self.view_is ∙ c.requires.shape ∙ ap (λ (l : Laid). l.shape) (sym c.copy_from.ensures) in
    (went_to (past_seen b.past) b.table c.copy_from.new.self (subst (λ (k : Kept). IsSome k.home) (sym c.self.view_is) c.requires.home) shape c.self.invariant).0

pub returns : goal.returns
returns c =
    let b = c.self.inside in
    let shape = ap (λ (k : Kept). k.laid.shape) c.self.view_is ∙ c.requires.shape ∙ ap (λ (l : Laid). l.shape) (sym c.copy_from.ensures) in
    (went_to (past_seen b.past) b.table c.copy_from.new.self (subst (λ (k : Kept). IsSome k.home) (sym c.self.view_is) c.requires.home) shape c.self.invariant).1
    ∙ ap₂ away_at c.copy_from.ensures (ap (λ (k : Kept). k.home) c.self.view_is)
